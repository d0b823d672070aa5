-- `writer::put_record`. The parts of the line in turn.
-- Assumes nothing.
use Rattle.std.proofs.Common.{ℕ, ◌≡◌, ◌-◌, ◌+◌, ◌*◌, ◌/◌, ◌%◌, [], ◌∷◌, ◌++◌, take, drop, List, length, get_or, set, refl, sym, ap, ◌∙◌, length-set, arith}
use lib.Seq.{length-sets}
use Rattle.ihex.specs.Records.{sum_of}
use Rattle.laws.specs.Sums.{sum_all}
use Rattle.ihex.specs.Codes.{code_of}
use Rattle.writer.specs.Text.{byte_text, bytes_text, checksum}
use Rattle.writer.proofs.Lists.{flat_one}
use Rattle.writer.proofs.Spelling.{bytes_length, lent_back, line_laid, parts_same, line_parts, head_sum}
use Rattle.writer.proofs.put_record.Goals as goal

pub returns : goal.returns
returns c =
    let a = c.args in
    let n = length a.bytes.now in
    let end : ℕ = length a.line.now - 3 in
    let head = c.spell.new.text in
    let body = c.spell-2.new.text in
    let check = c.spell-3.new.text in
    let head_size : length head ≡ 8 = ap length c.spell.ensures ∙ bytes_length _ in
    let body_size : length body ≡ 2 * n = ap length c.spell-2.ensures ∙ bytes_length _ in
    let check_size : length check ≡ 2 = ap length c.spell-3.ensures ∙ bytes_length _ in
    let t1 : List ℕ = set a.line.now 0 58 in
    let size1 : length t1 ≡ 2 * n + 12 = length-set a.line.now 0 58 ∙ c.requires.room in
    let two = lent_back t1 head 1 8 head_size (omega arith) in
    let t2 : List ℕ = take 1 t1 ++ (head ++ drop 8 (drop 1 t1)) in
    let size2 : length t2 ≡ 2 * n + 12 = ap length two ∙ length-sets t1 1 head ∙ size1 in
    let three = lent_back t2 body 9 (end - 9) (omega arith) (omega (arith, size2)) in
    let t3 : List ℕ = take 9 t2 ++ (body ++ drop (end - 9) (drop 9 t2)) in
    let size3 : length t3 ≡ 2 * n + 12 = ap length three ∙ length-sets t2 9 body ∙ size2 in
    let four = lent_back t3 check end (end + 2 - end) (omega arith) (omega (arith, size3)) in
    let two_bytes = c.to_be_bytes.result in
    let high : get_or two_bytes 0 0 ≡ a.address / 256 = omega (arith, ap (λ l. get_or l 0 0) c.to_be_bytes.ensures) in
    let low : get_or two_bytes 1 0 ≡ a.address % 256 = omega (arith, ap (λ l. get_or l 1 0) c.to_be_bytes.ensures) in
    let front : n ∷ get_or two_bytes 0 0 ∷ get_or two_bytes 1 0 ∷ c.from.result ∷ [] ≡ n ∷ a.address / 256 ∷ a.address % 256 ∷ code_of a.kind ∷ [] = rw (high, low, c.from.ensures) in
    let whole = head_sum _ _ _ _ _ _ _ a.bytes.now c.sum_of.ensures c.sum_of-2.ensures refl ∙ ap (λ (l : List ℕ). sum_all (l ++ a.bytes.now) % 256) front in
    let told : (0 + (256 - (c.sum_of.result + c.sum_of-2.result) % 256)) % 256 ≡ checksum (sum_of (n ∷ a.address / 256 ∷ a.address % 256 ∷ code_of a.kind ∷ a.bytes.now)) = omega (arith, whole) in
    line_laid a.line.now head body check n end c.requires.room (omega arith) head_size body_size check_size _ _ _ two three four
    ∙ parts_same (c.spell.ensures ∙ ap bytes_text front) c.spell-2.ensures (c.spell-3.ensures ∙ flat_one byte_text _ ∙ ap byte_text told) ∙ sym (line_parts (code_of a.kind) a.address a.bytes.now)
