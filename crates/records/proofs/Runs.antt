-- Parts one after another, such as records and lines.
use mathlib.Core.Path.{◌≡◌, refl, sym, ap, ◌∙◌}
use mathlib.Core.List.{List, [], ◌++◌, append_assoc, append-nil}
use Prim.Native.Nat.{ℕ, zero, suc, ◌+◌, ◌*◌, ◌<◌}
use native.Mathlib.Omega.{arith}
use native.Mathlib.Numerals.{add-one}
use lib.ListN.{length, take, drop, length-append}
use lib.Seq.{take_at, drop_at}
use Rattle.words.specs.Sums.{sum}
use Rattle.words.proofs.Sums.{sum_zero, sum_last}
use Rattle.words.proofs.Tests.{below_suc}
use Rattle.records.specs.Records.{joined}
use Rattle.records.specs.Bytes.{AreBytes}
use Rattle.records.proofs.Fields.{bytes_append}

-- ---- a run of parts, one after another

-- it is given by its parts
pub joined_same : (f g : ℕ → List ℕ) (n : ℕ) → ((k : ℕ) → k < n → f k ≡ g k) → joined f n ≡ joined g n
unfolding joined
joined_same f g zero e = refl
joined_same f g (suc n) e = rw (joined_same f g n (λ k h. e k (omega arith)), e n (omega arith))

-- part k is of c k records
pub joined_length : (f : ℕ → List ℕ) (c : ℕ → ℕ) → ((k : ℕ) → length (f k) ≡ 24 * c k) → (n : ℕ) → length (joined f n) ≡ 24 * sum n c
unfolding joined
joined_length f c each zero = omega (arith, sum_zero 0 c (λ i l. absurd (omega arith)))
joined_length f c each (suc n) = rw length-append (omega (arith, each n, joined_length f c each n, sum_last n c))

-- parts that are empty
pub joined_none : (f : ℕ → List ℕ) (n : ℕ) → ((k : ℕ) → f k ≡ []) → joined f n ≡ []
unfolding joined
joined_none f zero e = refl
joined_none f (suc n) e = rw (joined_none f n e, e n)

-- the first part by itself
pub joined_first : (f : ℕ → List ℕ) (n : ℕ) → joined f (suc n) ≡ f 0 ++ joined (λ k. f (suc k)) n
unfolding joined
joined_first f zero = sym (append-nil (f 0))
joined_first f (suc n) = ap (λ l. l ++ f (suc n)) (joined_first f n) ∙ append_assoc (f 0) (joined (λ k. f (suc k)) n) (f (suc n))

-- a last part that is empty
pub joined_last : (f : ℕ → List ℕ) (m : ℕ) → f (suc m) ≡ [] → joined f (m + 2) ≡ joined f (m + 1)
unfolding joined
joined_last f m e =
    let two : m + 2 ≡ suc (suc m) = omega arith in
    rw (two, add-one) (ap (λ l. joined f (suc m) ++ l) e ∙ append-nil (joined f (suc m)))

-- parts of bytes are bytes
pub joined_below : (f : ℕ → List ℕ) (n : ℕ) → ((k : ℕ) → k < n → AreBytes (f k)) → AreBytes (joined f n)
unfolding joined
joined_below f zero h = λ i. omega arith
joined_below f (suc n) h = bytes_append (joined f n) (f n) (joined_below f n (λ k l. h k (omega arith))) (h n (omega arith))

-- ---- parts of w bytes each

module _ (w : ℕ) (f : ℕ → List ℕ) (each : (k : ℕ) → length (f k) ≡ w) where
  pub length_joined : (n : ℕ) → length (joined f n) ≡ w * n
  unfolding joined
  length_joined zero = omega arith
  length_joined (suc n) =
      let e : w * suc n ≡ w * n + w = omega arith in
      length-append (joined f n) (f n) ∙ omega (arith, length_joined n, each n)

  -- part i is read back, whatever follows
  pub joined_at : (n : ℕ) (l : List ℕ) (i : ℕ) → i < n → take w (drop (w * i) (joined f n ++ l)) ≡ f i
  unfolding joined
  joined_at zero l i h = absurd (omega arith)
  joined_at (suc n) l i h =
      rw append_assoc
      (below_suc (λ k. take w (drop (w * k) (joined f n ++ (f n ++ l))) ≡ f k) n (λ k less. joined_at n (f n ++ l) k less)
      (ap (λ t. take w t) (drop_at (joined f n) (f n ++ l) (w * n) (length_joined n)) ∙ take_at (f n) l w (each n)) i h)
