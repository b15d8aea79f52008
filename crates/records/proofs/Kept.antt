-- Some of several records, one after another: each stands where those kept before it are counted.
use mathlib.Core.Path.{◌≡◌, refl, sym, ap, ◌∙◌}
use mathlib.Core.Bool.{Bool, true, false}
use mathlib.Core.List.{List, [], ◌++◌, append_assoc, append-nil}
use mathlib.Core.Logic.{⊎_elim}
use Prim.Native.Nat.{ℕ, zero, suc, ◌*◌, ◌≤◌, ◌<◌}
use native.Mathlib.Omega.{arith}
use native.Mathlib.Nat.{eq-or-lt_of_le}
use lib.ListN.{length, take, drop, length-append}
use lib.Seq.{take_at, drop_at}
use Rattle.words.specs.Members.{count}
use Rattle.words.proofs.Counts.{count_more, count_still, count_less, count_same}
use Rattle.words.proofs.Tests.{by_test, cond_true, cond_false}
use Rattle.records.specs.Records.{joined, kept}

module _ (b : ℕ → Bool) (f : ℕ → List ℕ) where
  pub kept_one : (n : ℕ) → b n ≡ true → kept b f (suc n) ≡ kept b f n ++ f n
  unfolding joined
  kept_one n e = ap (λ (l : List ℕ). kept b f n ++ l) (cond_true (f n) [] e)

  pub kept_none : (n : ℕ) → b n ≡ false → kept b f (suc n) ≡ kept b f n
  unfolding joined
  kept_none n e = ap (λ (l : List ℕ). kept b f n ++ l) (cond_false (f n) [] e) ∙ append-nil (kept b f n)

  module _ (most : ℕ) (each : (k : ℕ) → k < most → b k ≡ true → length (f k) ≡ 24) where
    pub kept_length : (n : ℕ) → n ≤ most → length (kept b f n) ≡ 24 * count n b
    unfolding joined count
    kept_length zero m = refl
    kept_length (suc n) m =
        let ih = kept_length n (omega arith) in
        by_test (b n)
        (λ t. ap length (kept_one n t) ∙ length-append (kept b f n) (f n) ∙ omega (arith, ih, each n m t, count_more b n t))
        (λ t. ap length (kept_none n t) ∙ ih ∙ ap (λ (x : ℕ). 24 * x) (sym (count_still b n t)))

    -- record p of them is f k, where p of those before k are kept
    pub record At (n p : ℕ) (l : List ℕ) : Type 0 where
      pub k : ℕ
      pub there : k < n
      pub chosen : b k ≡ true
      pub rank : count k b ≡ p
      pub is : take 24 (drop (24 * p) (kept b f n ++ l)) ≡ f k

    pub kept_at : (n p : ℕ) (l : List ℕ) → n ≤ most → p < count n b → At n p l
    unfolding count
    kept_at zero p l m h = absurd (omega arith)
    kept_at (suc n) p l m h = by_test (b n) (one (kept_at n p (f n ++ l) (omega arith))) (none (kept_at n p l (omega arith)))
      where
        none : (p < count n b → At n p l) → b n ≡ false → At (suc n) p l
        none ih t =
            let a = ih (omega (arith, count_still b n t)) in
            record {
              k = a.k;
              there = omega (arith, a.there);
              chosen = a.chosen;
              rank = a.rank;
              is = ap (λ (x : List ℕ). take 24 (drop (24 * p) (x ++ l))) (kept_none n t) ∙ a.is;
            }

        one : (p < count n b → At n p (f n ++ l)) → b n ≡ true → At (suc n) p l
        one ih t =
            let shape : kept b f (suc n) ++ l ≡ kept b f n ++ (f n ++ l) =
            ap (λ (x : List ℕ). x ++ l) (kept_one n t) ∙ append_assoc (kept b f n) (f n) l in
            ⊎_elim
            (λ e.
            record {
              k = n;
              there = omega arith;
              chosen = t;
              rank = sym e;
              is =
                  ap (λ (x : List ℕ). take 24 (drop (24 * p) x)) shape
                  ∙ ap (λ (x : List ℕ). take 24 x) (drop_at (kept b f n) (f n ++ l) (24 * p) (kept_length n (omega arith) ∙ ap (λ (x : ℕ). 24 * x) (sym e)))
                  ∙ take_at (f n) l 24 (each n m t);
            })
            (λ less.
            let a = ih less in
            record {
              k = a.k;
              there = omega (arith, a.there);
              chosen = a.chosen;
              rank = a.rank;
              is = ap (λ (x : List ℕ). take 24 (drop (24 * p) x)) shape ∙ a.is;
            })
            (eq-or-lt_of_le (omega (arith, h, count_more b n t)))

    -- and each f k that is kept is one of them
    pub kept_there : (n k : ℕ) (l : List ℕ) → n ≤ most → k < n → b k ≡ true → (count k b < count n b) × (take 24 (drop (24 * count k b) (kept b f n ++ l)) ≡ f k)
    kept_there n k l m h t =
        let a = kept_at n (count k b) l m (count_less b k n h t) in
        (count_less b k n h t, a.is ∙ ap f (count_same b a.k k a.chosen t a.rank))
