-- Texts that are alike line by line have the same records, and so the same verdict and image. And texts put together from alike bodies are
-- alike, whatever ends their lines have: an end is found where the first LF or CR stands, so it takes nothing from the body.
-- Assumes nothing.
use mathlib.Core.Path.{◌≡◌, refl, sym, ◌∙◌, ap, subst}
use mathlib.Core.Bool.{true}
use mathlib.Core.Logic.{⊎_elim}
use mathlib.Core.List.{List, [], ◌∷◌, ◌++◌, map, flat_map, append_assoc}
use Prim.Native.Nat.{ℕ, suc, ◌+◌, ◌<◌}
use native.Mathlib.Decide.{dec_lt}
use native.Mathlib.Omega.{arith}
use lib.ListN.{length, get_or, drop, length-append, length-map, get_or-append, get_or-map}
use lib.Seq.{ext_get_or, take_at, drop_at}
use Rattle.ihex.specs.Lines.{Plain, lines, at_end, body_of}
use Rattle.ihex.specs.Records.{records, record_of}
use Rattle.ihex.specs.Steps.{end_length}
use Rattle.ihex.proofs.Lines.{lines_nil, body_cut, first_cut}
use Rattle.textlaws.specs.Alike.{AlikeBodies, IsLineEnd, Line, whole, written, no_line, Ended}
use Rattle.textlaws.specs.Laws.{AlikeRecords, AlikeSame, EndedBody, WrittenAlike}
use Rattle.textlaws.proofs.Same.{alike_spells, same_verdict, same_image}

-- the same records
pub alike_records : AlikeRecords
alike_records text text' alike =
    ext_get_or (record_of []) (records text) (records text') (length-map (lines text) record_of ∙ alike.size ∙ sym (length-map (lines text') record_of)) (λ k h.
    get_or-map record_of (lines text) k []
    ∙ alike_spells _ _ (alike.each k (omega (arith, length-map (lines text) record_of)))
    ∙ sym (get_or-map record_of (lines text') k []))

-- so the one is accepted where the other is, with the same count, and they have one image
pub alike_same : AlikeSame
alike_same text text' alike =
    let same = alike_records text text' alike in
    (λ n. same_verdict text text' n same, same_image text text' same)

-- a line's end is not part of its body: LF, CR LF or none
pub ended_body : EndedBody
ended_body body end plain e =
    body_cut (length body) (body ++ end) (omega (arith, length-append body end))
    (λ k h. rw (get_or-append body end 0 k h) (plain k h))
    (rw (drop_at body end (length body) refl) e)
    ∙ take_at body end (length body) refl

-- the first line of a text that begins with a body and its end
first_line_law : (body end rest : List ℕ) → ((k : ℕ) → k < length body → Plain (get_or body k 0)) → at_end (end ++ rest) ≡ true → end_length (end ++ rest) ≡ length end
    → 0 < length (body ++ end) → lines ((body ++ end) ++ rest) ≡ (body ++ end) ∷ lines rest
first_line_law body end rest plain e long some =
    let s = (body ++ end) ++ rest in
    let same : s ≡ body ++ (end ++ rest) = append_assoc body end rest in
    let after : drop (length body) s ≡ end ++ rest = ap (drop (length body)) same ∙ drop_at body (end ++ rest) (length body) refl in
    let size : length (body ++ end) ≡ length body + end_length (drop (length body) s) =
    length-append body end ∙ ap (λ n. length body + n) (sym (ap end_length after ∙ long)) in
    first_cut (length body) s (omega (arith, length-append (body ++ end) rest)) (omega (arith, length-append (body ++ end) rest, length-append body end))
    (λ k h. rw (same, get_or-append body (end ++ rest) 0 k h) (plain k h)) (ap at_end after ∙ e)
    ∙ ap (λ (l : List ℕ). l ∷ lines (drop (length body + end_length (drop (length body) s)) s)) (take_at (body ++ end) rest _ size)
    ∙ ap (λ (l : List ℕ). (body ++ end) ∷ lines l) (drop_at (body ++ end) rest _ size)

-- an end, whatever comes after it
record Ends (end rest : List ℕ) : Type 0 where
  stands : at_end (end ++ rest) ≡ true
  long : end_length (end ++ rest) ≡ length end

line_end : (end rest : List ℕ) → IsLineEnd end → Ends end rest × (0 < length end)
unfolding at_end
line_end end rest is =
    ⊎_elim
    (λ e. (record { stands = rw e; long = rw e }, omega (arith, ap length e)))
    (λ e. (record { stands = rw e; long = rw e }, omega (arith, ap length e)))
    is

open_end : (end : List ℕ) → end ≡ [] → Ends end []
unfolding at_end
open_end end e = record { stands = rw e; long = rw e }

-- the lines of a text are those of which it was put together
lines_written : (ls : List Line) → Ended ls → lines (written ls) ≡ map whole ls
unfolding flat_map
lines_written [] ended = lines_nil
lines_written (l ∷ []) ended = ⊎_elim ended_so open_so (ended.last 0 refl)
  where
    ended_so : IsLineEnd l.end → lines (whole l ++ []) ≡ whole l ∷ []
    ended_so is =
        let at = line_end l.end [] is in
        first_line_law l.body l.end [] (ended.plain 0 (omega arith)) at.0.stands at.0.long (omega (arith, at.1, length-append l.body l.end))
        ∙ ap (λ (t : List (List ℕ)). whole l ∷ t) lines_nil

    open_so : ((l.end ≡ []) × (0 < length l.body)) → lines (whole l ++ []) ≡ whole l ∷ []
    open_so is =
        let at = open_end l.end is.0 in
        first_line_law l.body l.end [] (ended.plain 0 (omega arith)) at.stands at.long (omega (arith, is.1, length-append l.body l.end))
        ∙ ap (λ (t : List (List ℕ)). whole l ∷ t) lines_nil
lines_written (l ∷ (m ∷ ls)) ended =
    let at = line_end l.end (written (m ∷ ls)) (ended.ends 0 (omega arith)) in
    first_line_law l.body l.end (written (m ∷ ls)) (ended.plain 0 (omega arith)) at.0.stands at.0.long (omega (arith, at.1, length-append l.body l.end))
    ∙ ap (λ (t : List (List ℕ)). whole l ∷ t)
    (lines_written (m ∷ ls)
    (record { plain = λ k h. ended.plain (suc k) (omega arith); ends = λ k h. ended.ends (suc k) (omega arith); last = λ k h. ended.last (suc k) (omega arith) }))

module _ (ls : List Line) (ended : Ended ls) where
  lines_size : length (lines (written ls)) ≡ length ls
  lines_size = ap length (lines_written ls ended) ∙ length-map ls whole

  line_ends : (k : ℕ) → k < length ls → at_end (get_or ls k no_line).end ≡ true
  unfolding at_end
  line_ends k h = go (dec_lt (k + 1) (length ls))
    where
      tail : IsLineEnd (get_or ls k no_line).end → at_end (get_or ls k no_line).end ≡ true
      tail is = ⊎_elim (λ e. rw e) (λ e. rw e) is

      go : Dec (k + 1 < length ls) → at_end (get_or ls k no_line).end ≡ true
      go (yes l) = tail (ended.ends k l)
      go (no l) = ⊎_elim tail (λ none. rw none.0) (ended.last k (omega arith))

  -- and the bodies those that it was made of
  body_written : (k : ℕ) → k < length ls → body_of (get_or (lines (written ls)) k []) ≡ (get_or ls k no_line).body
  body_written k h =
      ap (λ (t : List (List ℕ)). body_of (get_or t k [])) (lines_written ls ended) ∙ ap body_of (get_or-map whole ls k no_line)
      ∙ ended_body (get_or ls k no_line).body (get_or ls k no_line).end (ended.plain k h) (line_ends k h)

-- texts put together from alike bodies are alike, whatever ends their lines have
pub written_alike : WrittenAlike
written_alike ls ls' ended ended' same alike =
    record {
      size = lines_size ls ended ∙ same ∙ sym (lines_size ls' ended');
      each = λ k h.
          let l : k < length ls = omega (arith, lines_size ls ended) in
          subst (λ (b : List ℕ). AlikeBodies b (body_of (get_or (lines (written ls')) k []))) (sym (body_written ls ended k l))
          (subst (λ (b : List ℕ). AlikeBodies (get_or ls k no_line).body b) (sym (body_written ls' ended' k (omega (arith, same)))) (alike k l));
    }
