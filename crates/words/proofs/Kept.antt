-- What each step of a loop keeps, the loop keeps.
use mathlib.Core.Path.{◌≡◌, refl}
use mathlib.Core.Bool.{Bool, true, false, cond}
use mathlib.Core.List.{List, [], ◌∷◌}
use mathlib.Core.Logic.{inl, inr}
use Prim.Native.Nat.{ℕ, zero, suc, ◌≤◌, ◌<◌}
use native.Mathlib.Omega.{arith}
use Rattle.words.specs.Bits.{digit}
use Rattle.words.specs.Listing.{members}
use Rattle.words.specs.model.Loops.{fold, each, run, upto}
use Rattle.words.proofs.Tests.{cond_has}
use Rattle.words.proofs.Members.{Has, has_member}

fold_keeps : {S : Type 0} (P : S → Type 0) (f : S → ℕ → S) (bs : List ℕ) → ((s : S) (b : ℕ) → Has b bs → P s → P (f s b)) → (s : S) → P s → P (fold f s bs)
fold_keeps P f [] h s p = p
fold_keeps P f (b ∷ bs) h s p = fold_keeps P f bs (λ t x m. h t x (inr m)) (f s b) (h s b (inl refl) p)

-- a step may count on being at a member
pub each_keeps : {S : Type 0} (P : S → Type 0) (k : ℕ) (f : S → ℕ → S) (w : ℕ) → ((s : S) (b : ℕ) → b < k → digit w b ≡ 1 → P s → P (f s b)) → (s : S) → P s → P (each k f s w)
unfolding each
each_keeps P k f w h s p = fold_keeps P f (members k w) (λ t b m. let r = has_member k w b m in h t b r.1 r.0) s p

pub upto_keeps : {S : Type 0} (P : S → Type 0) (f : ℕ → S → S) (n : ℕ) → ((k : ℕ) (s : S) → k < n → P s → P (f k s)) → (s : S) → P s → P (upto f n s)
unfolding upto
upto_keeps P f zero h s p = p
upto_keeps P f (suc n) h s p = h n (upto f n s) (omega arith) (upto_keeps P f n (λ k t l. h k t (omega arith)) s p)

module _ {S R : Type 0} (P : S → Type 0) (Q : R → Type 0) (stop : S → Bool) (fin out : S → R) (step : S → S)
    (go : (s : S) → stop s ≡ false → P s → P (step s)) (end : (s : S) → stop s ≡ true → P s → Q (fin s)) (spent : (s : S) → P s → Q (out s)) where
  pub run_keeps : (n : ℕ) (s : S) → P s → Q (run stop fin out step n s)
  unfolding run
  run_keeps zero s p = spent s p
  run_keeps (suc n) s p = cond_has Q (stop s) (fin s) (run stop fin out step n (step s)) (λ e. end s e p) (λ e. run_keeps n (step s) (go s e p))

-- a loop of the form of a search: each turn keeps P and lowers μ, and at 0 the test holds. With enough turns the loop ends by its test.
module _ {S : Type 0} (P : S → Type 0) (μ : S → ℕ) (stop : S → Bool) (step : S → S)
    (go : (s : S) → stop s ≡ false → P s → P (step s) × (μ (step s) < μ s)) (bottom : (s : S) → P s → μ s ≡ 0 → stop s ≡ true) where
  turn_ends : (t : Bool) (s r : S) → stop s ≡ t → (t ≡ true → P s) → (t ≡ false → P r × (stop r ≡ true)) → P (cond t s r) × (stop (cond t s r) ≡ true)
  turn_ends true s r e x y = (x refl, e)
  turn_ends false s r e x y = y refl

  pub run_ends : (n : ℕ) (s : S) → P s → μ s ≤ n → P (run stop (λ y. y) (λ y. y) step n s) × (stop (run stop (λ y. y) (λ y. y) step n s) ≡ true)
  unfolding run
  run_ends zero s p h = (p, bottom s p (omega arith))
  run_ends (suc n) s p h =
      turn_ends (stop s) s (run stop (λ y. y) (λ y. y) step n (step s)) refl (λ e. p)
      (λ e. run_ends n (step s) (go s e p).0 (omega (arith, (go s e p).1)))
