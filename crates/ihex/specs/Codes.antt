-- The types of record that are read, by the byte that stands for each: document 01, 'The character image', second paragraph.
-- Assumes nothing.
use Rattle.std.specs.Prelude.{ℕ, Result, Ok, Err, ◌==◌}
use Rattle.laws.specs.Pick.{pick}
use Rattle.ihex.specs.Records.{data_type, end_type}
use Rattle.ihex.specs.declared.Kind.{Kind}
use Rattle.ihex.specs.declared.Kind.TheVariants.{Data, End}
use Rattle.ihex.specs.declared.OtherKind.{OtherKind}

abbrev pub code_of : Kind → ℕ
code_of Data = data_type
code_of End = end_type

-- a byte's type, and an error for every other byte
unfoldable pub kind_of : ℕ → Result Kind OtherKind
kind_of code = pick (code == data_type) (Ok Data) (pick (code == end_type) (Ok End) (Err (record {})))
