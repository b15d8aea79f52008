-- What the proofs of loops go by: over the members of a number, of at most n turns, and up to n.
use mathlib.Core.Path.{◌≡◌, refl, sym, ap, ◌∙◌}
use mathlib.Core.Bool.{Bool, true, false, cond}
use mathlib.Core.List.{List, [], ◌∷◌, ◌++◌}
use Prim.Native.Nat.{ℕ, zero, suc, ◌+◌, ◌-◌, ◌^◌, ◌≤◌, ◌<◌}
use native.Mathlib.Omega.{arith}
use native.Mathlib.Numerals.{add-one}
use Rattle.words.specs.Bits.{bit, rest}
use Rattle.words.specs.Members.{first}
use Rattle.words.specs.Listing.{members}
use Rattle.words.specs.model.Loops.{fold, each, run, upto}
use Rattle.words.proofs.Tests.{cond_true, cond_false}
use Rattle.words.proofs.Members.{rest_le, members_none, members_more, members_last, only}

-- ---- a loop over the members of a number of k digits

-- a state that no step changes
fold_still : {S : Type 0} (f : S → ℕ → S) (s : S) → ((b : ℕ) → f s b ≡ s) → (bs : List ℕ) → fold f s bs ≡ s
fold_still f s h [] = refl
fold_still f s h (b ∷ bs) = ap (λ x. fold f x bs) (h b) ∙ fold_still f s h bs

module _ {S : Type 0} (k : ℕ) (f : S → ℕ → S) where
  pub each_none : (s : S) → each k f s 0 ≡ s
  unfolding each
  each_none s = ap (fold f s) (members_none k)

  pub each_more : (s : S) (w : ℕ) → 0 < w → w < 2 ^ k → each k f s w ≡ each k f (f s (first k (bit w))) (rest w)
  unfolding each
  each_more s w p h = ap (fold f s) (members_more k w p h)

  -- What a loop over the members asks whose invariant is `each k f s w ≡ r`, with r the run from the start: the turn at
  -- the first member b, on to the rest v, keeps it, and at the end the state is r.
  pub each_listed : (s : S) (w b v : ℕ) {s' r : S} → members k w ≡ b ∷ members k v → each k f s w ≡ r → s' ≡ f s b
      → each k f s' v ≡ r
  unfolding each
  each_listed s w b v e i t = ap (λ x. fold f x (members k v)) t ∙ sym (ap (fold f s) e) ∙ i

  pub each_listed_end : (s : S) (w : ℕ) {r : S} → members k w ≡ [] → each k f s w ≡ r → s ≡ r
  unfolding each
  each_listed_end s w e i = sym (ap (fold f s) e) ∙ i

  -- What a loop asks whose invariant is `(each k f s w ≡ r) × (w < 2 ^ k)`, with r the run from the start and w as
  -- its measure: the turn at the lowest member b, on to the rest v, keeps it; v falls (`rest_less`); and at 0 the
  -- state is r.
  pub each_again : (s : S) (w b : ℕ) {v : ℕ} {s' r : S} → (w ≡ 0 → ⊥) → (each k f s w ≡ r) × (w < 2 ^ k)
      → b ≡ first k (bit w) → s' ≡ f s b → v ≡ rest w → (each k f s' v ≡ r) × (v < 2 ^ k)
  each_again s w b {v} n i q t e = (
    ap (each k f _) e ∙ ap (λ x. each k f x (rest w)) t
        ∙ ap (λ (x : ℕ). each k f (f s x) (rest w)) q ∙ sym (each_more s w (omega arith) i.1) ∙ i.0,
    omega (arith, rest_le w),
  )

  pub each_end : (s : S) (w : ℕ) {r : S} → w ≡ 0 → (each k f s w ≡ r) × (w < 2 ^ k) → s ≡ r
  each_end s w z i = sym (each_none s) ∙ ap (each k f s) (sym z) ∙ i.0

  pub each_kept : (s : S) (w : ℕ) {r : S} → ((b : ℕ) → f s b ≡ s) → each k f s w ≡ r → s ≡ r
  unfolding each
  each_kept s w h i = sym (fold_still f s h (members k w)) ∙ i

  pub each_still : (s : S) (w : ℕ) {r : S} → ((b : ℕ) → f s b ≡ s) → (each k f s w ≡ r) × (w < 2 ^ k) → s ≡ r
  each_still s w h i = each_kept s w h i.0

-- ---- a loop of at most n turns

module _ {S R : Type 0} (stop : S → Bool) (fin out : S → R) (step : S → S) where
  run_less : (n k : ℕ) → k < n → (s : S) → stop s ≡ false → run stop fin out step (n - k) s ≡ run stop fin out step (n - (k + 1)) (step s)
  unfolding run
  run_less n k h s e =
      let q : n - k ≡ suc (n - (k + 1)) = omega arith in
      ap (λ (m : ℕ). run stop fin out step m s) q ∙ cond_false (fin s) (run stop fin out step (n - (k + 1)) (step s)) e

  -- What a loop asks whose invariant is `(run stop fin out step (n - k) s ≡ r) × (k ≤ n)`, with r the run of n turns from the start and `n - k` as its measure:
  -- a turn keeps it, where the test holds r is fin, and after the last turn r is out.
  pub run_again : (n k : ℕ) (s : S) {s' : S} {r : R} → k < n → stop s ≡ false → (run stop fin out step (n - k) s ≡ r) × (k ≤ n) → s' ≡ step s → (run stop fin out step (n - (k + 1)) s' ≡ r) × (k + 1 ≤ n)
  run_again n k s h e i t = (ap (run stop fin out step (n - (k + 1))) t ∙ sym (run_less n k h s e) ∙ i.0, omega arith)

  pub run_stop : (n k : ℕ) (s : S) {r : R} → k < n → stop s ≡ true → (run stop fin out step (n - k) s ≡ r) × (k ≤ n) → fin s ≡ r
  unfolding run
  run_stop n k s h e i =
      let q : n - k ≡ suc (n - (k + 1)) = omega arith in
      sym (cond_true (fin s) (run stop fin out step (n - (k + 1)) (step s)) e) ∙ ap (λ (m : ℕ). run stop fin out step m s) (sym q) ∙ i.0

  pub run_end : (n k : ℕ) (s : S) {r : R} → n ≤ k → (run stop fin out step (n - k) s ≡ r) × (k ≤ n) → out s ≡ r
  unfolding run
  run_end n k s h i =
      let q : 0 ≡ n - k = omega arith in
      ap (λ (m : ℕ). run stop fin out step m s) q ∙ i.0

-- ---- a loop that counts up to n

module _ {S : Type 0} (f : ℕ → S → S) where
  -- What a loop asks whose invariant is `(s ≡ upto f k s₀) × (k ≤ n)`, with `n - k` as its measure.
  pub up_none : (s : S) → s ≡ upto f 0 s
  unfolding upto
  up_none s = refl

  pub up_again : (n k : ℕ) (s₀ : S) {s s' : S} → k < n → (s ≡ upto f k s₀) × (k ≤ n) → s' ≡ f k s → (s' ≡ upto f (k + 1) s₀) × (k + 1 ≤ n)
  unfolding upto
  up_again n k s₀ h i t = (t ∙ ap (f k) i.0 ∙ ap (λ (x : ℕ). upto f x s₀) (sym (add-one k)), omega arith)

  pub up_end : (n k : ℕ) (s₀ : S) {s : S} → n ≤ k → (s ≡ upto f k s₀) × (k ≤ n) → s ≡ upto f n s₀
  up_end n k s₀ h i =
      let q : k ≡ n = omega arith in
      i.0 ∙ ap (λ (x : ℕ). upto f x s₀) q

-- loops whose steps are the same come to the same
pub upto_cong : {S : Type 0} (f g : ℕ → S → S) (n : ℕ) (s : S) → ((k : ℕ) (t : S) → k < n → f k t ≡ g k t) → upto f n s ≡ upto g n s
unfolding upto
upto_cong f g zero s h = refl
upto_cong f g (suc n) s h = h n (upto f n s) (omega arith) ∙ ap (g n) (upto_cong f g n s (λ k t l. h k t (omega arith)))

-- a loop over one list and then another
pub fold_append : {S : Type 0} (f : S → ℕ → S) (s : S) (xs ys : List ℕ) → fold f s (xs ++ ys) ≡ fold f (fold f s xs) ys
fold_append f s [] ys = refl
fold_append f s (x ∷ xs) ys = fold_append f (f s x) xs ys

fold_only : {S : Type 0} (f : S → ℕ → S) (s : S) (b : Bool) (x : ℕ) → fold f s (only b x) ≡ cond b (f s x) s
fold_only f s true x = refl
fold_only f s false x = refl

-- a loop over the members of w is one over all places that does nothing at the others
pub each_upto : {S : Type 0} (k : ℕ) (f : S → ℕ → S) (s : S) (w : ℕ) → each k f s w ≡ upto (λ i t. cond (bit w i) (f t i) t) k s
unfolding each upto members
each_upto zero f s w = refl
each_upto (suc k) f s w =
    ap (fold f s) (members_last k w)
    ∙ fold_append f s (members k w) (only (bit w k) k)
    ∙ fold_only f (fold f s (members k w)) (bit w k) k
    ∙ ap (λ t. cond (bit w k) (f t k) t) (each_upto k f s w)
