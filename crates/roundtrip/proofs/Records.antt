-- The records of an image, as the reader judges them: each data record is good and gives 16 addresses that no earlier one gives, the end
-- record is the last, and what they give together is the image.
-- Assumes nothing.
use mathlib.Core.Path.{◌≡◌, refl, sym, ◌∙◌, ap}
use mathlib.Core.Bool.{true, false}
use mathlib.Core.List.{List, [], ◌∷◌, ◌++◌}
use Prim.Native.Nat.{ℕ, zero, suc, ◌+◌, ◌-◌, ◌*◌, ◌/◌, ◌%◌, ◌<◌, ◌≤◌}
use native.Mathlib.Nat.{le_of_suc-le-suc, not-suc-le-zero, mul-suc, mul-zero}
use native.Mathlib.Omega.{arith}
use lib.ListN.{length, get_or, take, length-append, get_or-append}
use lib.Seq.{take-append-le, get_or_at}
use Rattle.laws.specs.Said.{accepted}
use Rattle.laws.specs.Lists.{tabulate, first_of}
use Rattle.laws.proofs.Lists.{length_tabulate, get_or_tabulate, is_tabulate, tabulate_cut, first_is, first_none}
use Rattle.laws.specs.Sums.{sum_all}
use Rattle.laws.proofs.Sums.{sum_last}
use Rattle.laws.proofs.Placing.{span_in, span_after}
use Rattle.ihex.specs.Records.{length_of, address_of, type_of, sum_of, is_end, gives, data_at, byte_in, is_given, count_of, fault_of}
use Rattle.ihex.specs.Reading.{nth, fault_at, stops_at, stop_of, judged}
use Rattle.ihex.proofs.Faults.{is_end_law, other_type, fault_end, fault_none}
use Rattle.writer.specs.Text.{checksum, record_bytes, bytes_in, record_in, end_record, records_of}
use Rattle.roundtrip.proofs.Lines.{Small, IsRecord}

-- bytes one after the other
small_cons : (b : ℕ) (l : List ℕ) → b < 256 → Small l → Small (b ∷ l)
small_cons b l h s zero = h
small_cons b l h s (suc i) = s i

small_last : (l : List ℕ) (b : ℕ) → Small l → b < 256 → Small (l ++ (b ∷ []))
small_last [] b s h = small_cons b [] h (λ i. omega arith)
small_last (a ∷ l) b s h = small_cons a (l ++ (b ∷ [])) (s 0) (small_last l b (λ i. s (suc i)) h)

pub small_tabulate : (n : ℕ) (f : ℕ → ℕ) → ((k : ℕ) → k < n → f k < 256) → Small (tabulate n f)
unfolding tabulate
small_tabulate zero f h = λ i. omega arith
small_tabulate (suc n) f h =
    small_cons (f 0) (tabulate n (λ k. f (suc k))) (h 0 (omega arith)) (small_tabulate n (λ k. f (suc k)) (λ k l. h (suc k) (omega arith)))

-- what the reader finds in a record
pub record Parts (kind address count : ℕ) (r : List ℕ) : Type 0 where
  pub good : IsRecord r
  pub summed : sum_of r ≡ 0
  pub typed : type_of r ≡ kind
  pub placed : address_of r ≡ address
  pub counted : length_of r ≡ count

record_parts : (kind address count : ℕ) (bytes : List ℕ) → kind < 256 → address < 65536 → count < 256 → length bytes ≡ count → Small bytes
    → Parts kind address count (record_bytes kind address bytes)
unfolding record_bytes
record_parts kind address count bytes hk ha hc size small =
    let front = length bytes ∷ address / 256 ∷ address % 256 ∷ kind ∷ bytes in
    let fronted : Small front =
    small_cons (length bytes) (address / 256 ∷ address % 256 ∷ kind ∷ bytes) (omega arith)
    (small_cons (address / 256) (address % 256 ∷ kind ∷ bytes) (omega arith) (small_cons (address % 256) (kind ∷ bytes) (omega arith) (small_cons kind bytes hk small))) in
    record {
      good = record { small = small_last front (checksum (sum_of front)) fronted (omega arith); size = length-append front (checksum (sum_of front) ∷ []) ∙ omega arith };
      summed = ap (λ n. n % 256) (sum_last front (checksum (sum_of front))) ∙ omega arith;
      typed = refl;
      placed = omega arith;
      counted = size;
    }

-- the addresses that it gives
module _ (kind address count : ℕ) (r : List ℕ) (p : Parts kind address count r) (a : ℕ) where
  gives_here : address ≤ a → a < address + count → gives r a ≡ true
  unfolding gives
  gives_here h g = span_in (address_of r) (length_of r) a (omega (arith, p.placed)) (omega (arith, p.placed, p.counted))

  gives_later : address + count ≤ a → gives r a ≡ false
  unfolding gives
  gives_later h = span_after (address_of r) (length_of r) a (omega (arith, p.placed, p.counted))

-- records by a rule
module _ (a : ℕ) where
  rule_none : (n : ℕ) (f : ℕ → List ℕ) → ((k : ℕ) → k < n → gives (f k) a ≡ false) → is_given (tabulate n f) a ≡ false
  unfolding tabulate is_given
  rule_none zero f h = refl
  rule_none (suc n) f h = rw (h 0 (omega arith)) (rule_none n (λ k. f (suc k)) (λ k l. h (suc k) (omega arith)))

  byte_first : (none n : ℕ) (f : ℕ → List ℕ) (rest : List (List ℕ)) (k : ℕ) → k < n → ((j : ℕ) → j < k → gives (f j) a ≡ false) → gives (f k) a ≡ true
      → byte_in none (tabulate n f ++ rest) a ≡ data_at (f k) a
  unfolding tabulate byte_in
  byte_first none zero f rest k h before here = absurd (not-suc-le-zero h)
  byte_first none (suc n) f rest zero h before here = rw here
  byte_first none (suc n) f rest (suc k) h before here =
      rw (before 0 (omega arith)) (byte_first none n (λ k. f (suc k)) rest k (le_of_suc-le-suc h) (λ j l. before (suc j) (omega arith)) here)

count_front : (count n : ℕ) (f : ℕ → List ℕ) → ((k : ℕ) → k < n → length_of (f k) ≡ count) → (rest : List (List ℕ))
    → count_of (tabulate n f ++ rest) ≡ count * n + count_of rest
unfolding tabulate sum_all
count_front count zero f same rest = omega (arith, mul-zero count)
count_front count (suc n) f same rest =
    omega (arith, same 0 (omega arith), count_front count n (λ k. f (suc k)) (λ k h. same (suc k) (omega arith)) rest, mul-suc count n)

pub end_parts : Parts 1 0 0 end_record
unfolding end_record
end_parts = record_parts 1 0 0 [] (omega arith) (omega arith) (omega arith) refl (λ i. omega arith)

module _ (image : List ℕ) (small : Small image) where
  pub data_parts : (n : ℕ) → n < 512 → Parts 0 (16 * n) 16 (record_in image n)
  unfolding record_in
  data_parts n h =
      record_parts 0 (16 * n) 16 (bytes_in image n) (omega arith) (omega arith) (omega arith) (length_tabulate 16 (λ i. get_or image (16 * n + i) 0))
      (small_tabulate 16 (λ i. get_or image (16 * n + i) 0) (λ k l. small (16 * n + k)))

  -- its byte at an address
  data_byte : (n a : ℕ) → n < 512 → 16 * n ≤ a → a < 16 * n + 16 → data_at (record_in image n) a ≡ get_or image a 0
  unfolding record_in record_bytes
  data_byte n a h g l =
      let bytes = bytes_in image n in
      let place : 4 + (a - address_of (record_in image n)) ≡ suc (suc (suc (suc (a - 16 * n)))) = omega (arith, (data_parts n h).placed) in
      let at : 16 * n + (a - 16 * n) ≡ a = omega arith in
      rw place
      (get_or-append bytes _ 0 (a - 16 * n) (omega (arith, length_tabulate 16 (λ i. get_or image (16 * n + i) 0)))
      ∙ get_or_tabulate 16 (λ i. get_or image (16 * n + i) 0) (a - 16 * n) 0 (omega arith) ∙ ap (λ k. get_or image k 0) at)

  rs_length : length (records_of image) ≡ 513
  rs_length = length-append (tabulate 512 (record_in image)) (end_record ∷ []) ∙ ap (λ n. n + 1) (length_tabulate 512 (record_in image))

  nth_data : (k : ℕ) → k < 512 → nth (records_of image) k ≡ record_in image k
  nth_data k h =
      get_or-append (tabulate 512 (record_in image)) (end_record ∷ []) [] k (omega (arith, length_tabulate 512 (record_in image)))
      ∙ get_or_tabulate 512 (record_in image) k [] h

  nth_end : nth (records_of image) 512 ≡ end_record
  nth_end = get_or_at (tabulate 512 (record_in image)) end_record [] [] 512 (length_tabulate 512 (record_in image))

  take_data : (k : ℕ) → k < 512 → take k (records_of image) ≡ tabulate k (record_in image)
  take_data k h =
      take-append-le k (tabulate 512 (record_in image)) (end_record ∷ []) (omega (arith, length_tabulate 512 (record_in image)))
      ∙ tabulate_cut k 512 (record_in image) (omega arith)

  -- no data record stops a reader, and the end record does
  data_sound : (k : ℕ) → k < 512 → fault_of (tabulate k (record_in image)) (record_in image k) ≡ 0
  data_sound k h =
      let p = data_parts k h in
      let r = record_in image k in
      let fresh : first_of (length_of r) (λ i. is_given (tabulate k (record_in image)) (address_of r + i)) ≡ length_of r =
      first_none (length_of r) _ (λ i g. rule_none (address_of r + i) k (record_in image)
      (λ j l. gives_later 0 (16 * j) 16 (record_in image j) (data_parts j (omega arith)) (address_of r + i) (omega (arith, p.placed)))) in
      fault_none (tabulate k (record_in image)) r (omega (arith, p.good.size)) p.summed
      (other_type r (λ e. omega (arith, p.typed))) p.typed (omega (arith, p.placed, p.counted)) (omega (arith, fresh))

  data_goes : (k : ℕ) → k < 512 → stops_at (records_of image) k ≡ false
  data_goes k h = rw (nth_data k h, take_data k h, data_sound k h) (other_type (record_in image k) (λ e. omega (arith, (data_parts k h).typed)))

  end_is : is_end end_record ≡ true
  end_is = is_end_law end_record end_parts.typed end_parts.counted end_parts.placed

  end_sound : fault_at (records_of image) 512 ≡ 0
  end_sound = rw nth_end (fault_end (take 512 (records_of image)) end_record (omega (arith, end_parts.good.size)) end_parts.summed end_is)

  end_stops : stops_at (records_of image) 512 ≡ true
  end_stops = rw (end_sound, nth_end, end_is)

  stop_here : stop_of (records_of image) ≡ 512
  stop_here = rw rs_length (first_is 513 (stops_at (records_of image)) 512 (omega arith) data_goes end_stops)

  counted_all : count_of (records_of image) ≡ 8192
  unfolding sum_all
  counted_all =
      count_front 16 512 (record_in image) (λ k h. (data_parts k h).counted) (end_record ∷ []) ∙ omega (arith, end_parts.counted)

  pub image_judged : (ls : List (List ℕ)) → judged ls (records_of image) (stop_of (records_of image)) ≡ accepted 8192
  unfolding judged
  image_judged ls = rw (stop_here, rs_length, end_sound, counted_all)

  -- what they give
  pub image_given : length image ≡ 8192 → tabulate 8192 (byte_in 255 (records_of image)) ≡ image
  image_given size =
      sym (is_tabulate 0 8192 (byte_in 255 (records_of image)) image size (λ a h.
      let k = a / 16 in
      sym (byte_first a 255 512 (record_in image) (end_record ∷ []) k (omega arith)
      (λ j l. gives_later 0 (16 * j) 16 (record_in image j) (data_parts j (omega arith)) a (omega arith))
      (gives_here 0 (16 * k) 16 (record_in image k) (data_parts k (omega arith)) a (omega arith) (omega arith))
      ∙ data_byte k a (omega arith) (omega arith) (omega arith))))
