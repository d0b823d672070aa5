-- The write port: document 01, 'The display words', last paragraph.
-- Each register and each word keeps so many low bits. Every call gives a port of kept bits only, made of the kept bits of the one
-- handed over, so a port that a host made up is as good as any.
-- Assumes nothing.
use Rattle.std.specs.Prelude.{ℕ, ◌+◌, ◌*◌, ◌%◌, ◌^◌, map, set, replicate}
use Rattle.port.specs.declared.Port.{Port}

-- what an address, an attribute, a character code and a word keep
abbrev pub kept_address : ℕ → ℕ
kept_address n = n % 2 ^ 6

abbrev pub kept_attribute : ℕ → ℕ
kept_attribute n = n % 2 ^ 4

abbrev pub kept_code : ℕ → ℕ
kept_code n = n % 2 ^ 6

abbrev pub kept_word : ℕ → ℕ
kept_word n = n % 2 ^ 10

-- a word: the code in bits 9 to 4, the attribute in bits 3 to 0
abbrev pub word_of : ℕ → ℕ → ℕ
word_of code attribute = code * 2 ^ 4 + attribute

-- the kept bits of a port
abbrev pub kept_of : Port → Port
kept_of p =
    record { address = kept_address p.address; attribute = kept_attribute p.attribute; character = kept_code p.character; words = map kept_word p.words }

-- 0 everywhere
abbrev pub fresh_port : Port
fresh_port = record { address = 0; attribute = 0; character = 0; words = replicate 64 0 }

abbrev pub address_written : Port → ℕ → Port
address_written p byte =
    record { address = kept_address byte; attribute = (kept_of p).attribute; character = (kept_of p).character; words = (kept_of p).words }

abbrev pub attribute_written : Port → ℕ → Port
attribute_written p byte =
    record { address = (kept_of p).address; attribute = kept_attribute byte; character = (kept_of p).character; words = (kept_of p).words }

-- the code is kept, the word of code and attribute stands at the address, and the address goes on by one, 63 to 0
abbrev pub character_written : Port → ℕ → Port
character_written p byte = record {
  address = kept_address ((kept_of p).address + 1);
  attribute = (kept_of p).attribute;
  character = kept_code byte;
  words = set (kept_of p).words (kept_of p).address (word_of (kept_code byte) (kept_of p).attribute);
}
