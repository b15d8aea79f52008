-- The writing of the records of a file that stay: what one of them may be asked, a record that is copied,
-- and the loop over all of them.
use mathlib.Core.Path.{◌≡◌, refl, sym, ap, ◌∙◌}
use mathlib.Core.Bool.{Bool, true, false}
use mathlib.Core.List.{List, ◌++◌}
use Prim.Native.Nat.{ℕ, ◌+◌, ◌*◌, ◌≤◌, ◌<◌}
use native.Mathlib.Numerals.{add-one}
use native.Mathlib.Decide.{dec_lt}
use native.Mathlib.Omega.{arith}
use lib.ListN.{length, take, drop, length-append, length-drop}
use lib.Seq.{length-take-le, take_at, drop_at, drop-drop}
use Rattle.words.specs.Members.{count}
use Rattle.words.proofs.Counts.{count_le, count_more, count_still}
use Rattle.records.specs.Records.{joined, kept, starting_with, written_at}
use Rattle.records.proofs.Kept.{kept_one, kept_none, kept_length}
use Rattle.plan.specs.Records.{record_at, record_count, type_at, activity_count}
use Rattle.plan.specs.Meaning.{Readable}
use Rattle.plan.specs.Filtered.{filtered}
use Rattle.plan.specs.model.ArcRows.{ArcRecord}
use Rattle.plan.proofs.Parts.{Faultless, few, crew_fine, arc_fine, no_arc}
use Rattle.plan.proofs.Said.{readable_faultless}

-- ---- one record

-- in a readable file it is whole, and where it is an extra arc that can be looked up
pub record_whole : (s : List ℕ) (p : ℕ) → p < record_count s → 24 ≤ length (record_at s p)
record_whole s p l = omega (arith, length-drop (24 * p) s)

pub extra_record : (s : List ℕ) → Readable s → (p : ℕ) → p < record_count s → type_at s p ≡ 4 → ArcRecord (record_at s p)
extra_record s e p l typed = go (dec_lt (activity_count s) p)
  where
    F : Faultless s
    F = readable_faultless s e

    go : Dec (activity_count s < p) → ArcRecord (record_at s p)
    go (yes arc) =
        let K = arc_fine s F p arc l in
        (record_whole s p l, K.from_low, omega (arith, K.from_high, few s F), K.to_low, omega (arith, K.to_high, few s F))
    go (no none) = absurd (no_arc s (crew_fine s F).typed 4 p (omega arith) (omega arith) typed)

-- ---- THE LOOP OVER THE RECORDS of s, of which a test of places keeps some

module _ (keep : ℕ → Bool) (s old : List ℕ) where
  abbrev record_of : ℕ → List ℕ
  record_of p = take 24 (record_at s p)

  abbrev so_far : ℕ → List ℕ
  so_far p = kept keep record_of p

  -- p records are looked at, and the n of them that stay are written
  pub record Staying (p n : ℕ) (out : List ℕ) : Type 0 where
    pub looked : p ≤ record_count s
    pub number : n ≡ count p keep
    pub written : out ≡ starting_with (so_far p) old

  pub staying_none : Staying 0 0 old
  unfolding joined count
  staying_none = record { looked = omega arith; number = refl; written = refl }

  long : (k : ℕ) → k < record_count s → keep k ≡ true → length (record_of k) ≡ 24
  long k l t = length-take-le 24 (record_at s k) (record_whole s k l)

  length_so_far : (p : ℕ) → p ≤ record_count s → length (so_far p) ≡ 24 * count p keep
  length_so_far p l = kept_length keep record_of (record_count s) long p l

  module _ (p n : ℕ) (out : List ℕ) (S : Staying p n out) where
    -- no more are written than are looked at
    pub staying_few : n ≤ p
    staying_few = omega (arith, S.number, count_le p keep)

    pub staying_length : length s ≤ length old → length out ≡ length old
    staying_length room =
        ap length S.written
        ∙ length-append (so_far p) (drop (length (so_far p)) old)
        ∙ omega (arith, length_so_far p S.looked, count_le p keep, S.looked, length-drop (length (so_far p)) old)

    pub staying_one : {m : ℕ} {next : List ℕ} → p < record_count s → keep p ≡ true → m ≡ n + 1 → next ≡ written_at (24 * n) (record_of p) out → Staying (p + 1) m next
    staying_one l t g e =
        let x : List ℕ = so_far p in
        let r : List ℕ = record_of p in
        let at : length x ≡ 24 * n = length_so_far p S.looked ∙ ap (λ (k : ℕ). 24 * k) (sym S.number) in
        let front : take (24 * n) out ≡ x = ap (take (24 * n)) S.written ∙ take_at x (drop (length x) old) (24 * n) at in
        let back : drop (24 * n + length r) out ≡ drop (length (x ++ r)) old =
        sym (drop-drop (length r) (24 * n) out)
        ∙ ap (λ (l : List ℕ). drop (length r) (drop (24 * n) l)) S.written
        ∙ ap (drop (length r)) (drop_at x (drop (length x) old) (24 * n) at)
        ∙ drop-drop (length r) (length x) old
        ∙ ap (λ (k : ℕ). drop k old) (sym (length-append x r)) in
        record {
          looked = omega arith;
          number = omega (arith, g, S.number, count_more keep p t, ap (λ (k : ℕ). count k keep) (add-one p));
          written =
              e
              ∙ ap (λ (l : List ℕ). l ++ r ++ drop (24 * n + length r) out) front
              ∙ ap (λ (l : List ℕ). x ++ r ++ l) back
              ∙ ap (λ (l : List ℕ). starting_with l old) (sym (ap so_far (add-one p) ∙ kept_one keep record_of p t));
        }

    pub staying_skip : {m : ℕ} {next : List ℕ} → p < record_count s → keep p ≡ false → m ≡ n → next ≡ out → Staying (p + 1) m next
    staying_skip l t g e =
        record {
          looked = omega arith;
          number = g ∙ S.number ∙ sym (ap (λ (k : ℕ). count k keep) (add-one p) ∙ count_still keep p t);
          written = e ∙ S.written ∙ ap (λ (l : List ℕ). starting_with l old) (sym (ap so_far (add-one p) ∙ kept_none keep record_of p t));
        }

    module _ (end : record_count s ≤ p) where
      whole : p ≡ record_count s
      whole = omega (arith, S.looked)

      pub staying_number : n ≡ count (record_count s) keep
      staying_number = S.number ∙ ap (λ (k : ℕ). count k keep) whole

      pub staying_all : out ≡ starting_with (filtered keep s) old
      unfolding filtered
      staying_all = S.written ∙ ap (λ (k : ℕ). starting_with (so_far k) old) whole
