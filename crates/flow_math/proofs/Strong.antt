-- Strong duality: the set of a closed search weighs exactly what is not handed over, so its weight is the need.
use mathlib.Core.Path.{◌≡◌, refl}
use mathlib.Core.Bool.{Bool, true, false, not, ◌&&◌, cond}
use mathlib.Core.Logic.{by_cases}
use Prim.Native.Nat.{ℕ, ◌+◌, ◌≤◌, ◌<◌}
use native.Mathlib.Decide.{dec_lt}
use native.Mathlib.Omega.{arith}
use lib.Dec.{ltb}
use borrow.Author.Tests.{ltb-false}
use Rattle.words.specs.Sums.{sum}
use Rattle.words.proofs.Tests
use Rattle.words.proofs.Sums
use Rattle.order.specs.Arcs.{StrictOrder}
use Rattle.flow_math.specs.Need.{Antichain, weight, Need}
use Rattle.flow_math.specs.Heaviest.{need_of}
use Rattle.flow_math.specs.Handover.{row, col, total, Handover, Closed, cut}
use Rattle.flow_math.proofs.Weak
use Rattle.flow_math.proofs.Need as Needs

-- an unrelated set that weighs all that is not handed over is a heaviest one
pub tight : (n : ℕ) (b : ℕ → ℕ → Bool) (d : ℕ → ℕ) (f : ℕ → ℕ → ℕ) (S : ℕ → Bool) →
    StrictOrder n b → Handover n b d f → Antichain n b S → weight n d S + total n f ≡ sum n d → Need n b d (weight n d S)
tight n b d f S o F u e =
    record {
      set = S;
      unrelated = u;
      weighs = refl;
      most = λ T v. omega (arith, Weak.weak n b T o v d f F);
    }

-- Where no unit goes from a giver outside of A to a taker in B, those rows and columns are at most the total.
apart : (n : ℕ) (f : ℕ → ℕ → ℕ) (A B : ℕ → Bool) →
    ((i j : ℕ) → i < n → j < n → cond (A i) 0 (f i j) + cond (B j) (f i j) 0 ≤ f i j) →
    sum n (λ i. cond (A i) 0 (row n f i)) + sum n (λ j. cond (B j) (col n f j) 0) ≤ total n f
unfolding total row
apart n f A B h =
    let e : sum n (λ i. sum n (λ j. cond (A i) 0 (f i j) + cond (B j) (f i j) 0)) ≤ sum n (λ i. sum n (λ j. f i j)) =
    Sums.sum_le n (λ i. sum n (λ j. cond (A i) 0 (f i j) + cond (B j) (f i j) 0)) (λ i. sum n (λ j. f i j))
    (λ i l. Sums.sum_le n (λ j. cond (A i) 0 (f i j) + cond (B j) (f i j) 0) (λ j. f i j) (λ j m. h i j l m)) in
    omega (arith, Weak.both n f A B)

-- units that a taker in B takes over only from givers in A are counted at most once
once : (s t : Bool) (x : ℕ) → (t ≡ true → 0 < x → s ≡ true) → cond s 0 x + cond t x 0 ≤ x
once true true x h = omega arith
once true false x h = omega arith
once false false x h = omega arith
once false true x h =
    by_cases (dec_lt 0 x) (λ p. let z : ◌≡◌ {A = ℕ} 0 1 = cc (h refl p) in absurd (omega arith)) (λ p. omega arith)

-- each demand is counted: in the set of the search, or not reached as a giver, or reached as a taker
counted : (l r : Bool) (x : ℕ) → x ≤ cond ((l && not r) && ltb 0 x) x 0 + (cond l 0 x + cond r x 0)
counted false r x = omega arith
counted true true x = omega arith
counted true false x = Tests.by_test (ltb 0 x) (λ e. rw e (omega arith)) (λ e. omega (arith, ltb-false 0 x e))

module _ (n : ℕ) (b : ℕ → ℕ → Bool) (d : ℕ → ℕ) (f : ℕ → ℕ → ℕ) (L R : ℕ → Bool) (C : Closed n b d f L R) where
  -- No two members of the set are ordered.
  pub cut_antichain : Antichain n b (cut d L R)
  cut_antichain i j l m s t h =
      let x : (L i && not (R i)) ≡ true = Tests.and_left (L i && not (R i)) (ltb 0 (d i)) s in
      let y : (L j && not (R j)) ≡ true = Tests.and_left (L j && not (R j)) (ltb 0 (d j)) t in
      Tests.clash
      (C.forth i j l m (Tests.and_left (L i) (not (R i)) x) h)
      (Tests.false_of_not (R j) (Tests.and_right (L j) (not (R j)) y))

  -- an element not reached as a giver hands over all of its demand
  full_row : (i : ℕ) → i < n → cond (L i) 0 (d i) ≤ cond (L i) 0 (row n f i)
  full_row i l =
      Weak.cond_not_le (L i) (d i) (row n f i)
      (λ e. by_cases (dec_lt (row n f i) (d i)) (λ p. Tests.clash (C.begins i l p) e) (λ p. omega arith))

  full_col : (j : ℕ) → j < n → cond (R j) (d j) 0 ≤ cond (R j) (col n f j) 0
  full_col j l = Weak.cond_le (R j) (d j) (col n f j) (λ e. omega (arith, C.full j l e))

  enough : sum n d ≤ weight n d (cut d L R) + total n f
  unfolding weight
  enough =
      let c = apart n f L R (λ i j l m. once (L i) (R j) (f i j) (C.back i j l m)) in
      let r = Sums.sum_le n (λ i. cond (L i) 0 (d i)) (λ i. cond (L i) 0 (row n f i)) full_row in
      let s = Sums.sum_le n (λ j. cond (R j) (d j) 0) (λ j. cond (R j) (col n f j) 0) full_col in
      let e = Sums.sum_le n d (λ i. cond (cut d L R i) (d i) 0 + (cond (L i) 0 (d i) + cond (R i) (d i) 0))
      (λ i l. counted (L i) (R i) (d i)) in
      let a = Sums.sum_add n (λ i. cond (cut d L R i) (d i) 0) (λ i. cond (L i) 0 (d i) + cond (R i) (d i) 0) in
      let a2 = Sums.sum_add n (λ i. cond (L i) 0 (d i)) (λ i. cond (R i) (d i) 0) in
      omega arith

  module _ (o : StrictOrder n b) (F : Handover n b d f) where
    -- The set and the units handed over weigh all demands.
    pub strong : weight n d (cut d L R) + total n f ≡ sum n d
    strong = omega (arith, enough, Weak.weak n b (cut d L R) o cut_antichain d f F)

    -- Its weight is the need, also as computed.
    pub cut_need : Need n b d (weight n d (cut d L R))
    cut_need = tight n b d f (cut d L R) o F cut_antichain strong

    pub closed_need : need_of n b d + total n f ≡ sum n d
    closed_need = omega (arith, Needs.need_is n b d (weight n d (cut d L R)) o cut_need, strong)
