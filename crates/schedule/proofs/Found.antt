-- Only for the proofs of the code: what is found, where there is anything, of the numbers that the check goes by.
use mathlib.Core.Path.{◌≡◌, refl, sym, ap, ap₂, ◌∙◌}
use mathlib.Core.Bool.{Bool, true, false, cond}
use mathlib.Core.List.{List}
use Prim.Native.Nat.{ℕ, ◌+◌, ◌≤◌, ◌<◌}
use native.Mathlib.Omega.{arith}
use lib.Dec.{ltb}
use lib.ListN.{length, get_or}
use borrow.Author.Tests.{ltb-true, ltb-false, lt-ltb, le-ltb}
use Rattle.std.proofs.Common.{Some, None}
use Rattle.std.proofs.lemmas.List.Sums.{position_or_len_is}
use Rattle.std.proofs.lemmas.Option.{none-some, cond_some}
use Rattle.std.specs.List.{position_or_len}
use Rattle.words.specs.Members.{first}
use Rattle.words.proofs.Firsts.{the_first, first_stop, first_none}
use Rattle.words.proofs.Tests.{fails, cond_true, cond_false}
use Rattle.schedule.specs.Network.{Network, Schedule}
use Rattle.schedule.specs.Checks.{Work, broken_to, broken_from, lowest_kind, first_period, check_of}
use Rattle.schedule.specs.declared.Checked.TheVariants.{Fits, Broken, Overload}
use Rattle.schedule.specs.model.Found.{below, first_broken, first_over}
use Rattle.schedule.proofs.Answers.{check_broken, check_over, check_fits}

-- where there is one, it is the number; where there is none, the test fails
some_of : {A : Type 0} (b : Bool) (x y : A) → Some y ≡ cond b (Some x) None → (b ≡ true) × (y ≡ x)
some_of b x y e = let w = cond_some b x y (sym e) in (w.0, sym w.1)

none_of : {A : Type 0} (b : Bool) (x : A) → None ≡ cond b (Some x) None → b ≡ false
none_of b x e = fails b (λ t. none-some x (e ∙ cond_true (Some x) None t))

-- the place x of n
pub below_there : (n x y : ℕ) → Some y ≡ below n x → (ltb x n ≡ true) × (y ≡ x)
below_there n x y e = some_of (ltb x n) x y e

-- a loop that looks for the first: the place at which it stops, and where it comes to the end
pub stop_there : (n : ℕ) (p : ℕ → Bool) (i : ℕ) → ((k : ℕ) → k < i → p k ≡ false) → i < n → p i ≡ true → Some i ≡ below n (first n p)
stop_there n p i h l e = ap (λ (x : ℕ). Some x) (first_stop n p i h l e) ∙ sym (cond_true _ None (lt-ltb (first n p) n (omega (arith, first_stop n p i h l e))))

pub stop_nowhere : (n : ℕ) (p : ℕ → Bool) (i : ℕ) → ((k : ℕ) → k < i → p k ≡ false) → n ≤ i → None ≡ below n (first n p)
stop_nowhere n p i h l =
    let e = (first_none n p).1 (λ k m. h k (omega arith)) in
    sym (cond_false (Some (first n p)) None (le-ltb (first n p) n (omega arith)))

-- `position` finds the first place with the property
pub position_there :
    {X : Type 0} (test : X → Bool) (p : ℕ → Bool) (xs : List X) (d : X) (n : ℕ) → length xs ≡ n → ((i : ℕ) → i < n → test (get_or xs i d) ≡ p i)
    → cond (ltb (position_or_len test xs) (length xs)) (Some (position_or_len test xs)) None ≡ below n (first n p)
position_there test p xs d n e h =
    let r = first n p in
    let F = the_first n p in
    let q : position_or_len test xs ≡ r =
    position_or_len_is test xs r d (omega (arith, F.within)) (λ k l. h k (omega (arith, F.within)) ∙ F.before k l) (λ l. h r (omega arith) ∙ F.found (omega arith)) in
    ap₂ (λ (x m : ℕ). below m x) q e

-- ---- the first broken arc

module _ (g : Network) (s : Schedule) where
  pub broken_there : (i j : ℕ) → i ≡ broken_from g s → i < g.elements → j ≡ broken_to g s i → Some (i, j) ≡ first_broken g s
  broken_there i j e l f =
      ap₂ (λ (x y : ℕ). Some (x, y)) e (f ∙ ap (λ (x : ℕ). broken_to g s x) e)
      ∙ sym (cond_true _ None (lt-ltb (broken_from g s) g.elements (omega arith)))

  pub broken_nowhere : broken_from g s ≡ g.elements → None ≡ first_broken g s
  broken_nowhere e =
      sym (cond_false (Some (broken_from g s, broken_to g s (broken_from g s))) None (le-ltb (broken_from g s) g.elements (omega arith)))

  pub broken_found : (i j : ℕ) → Some (i, j) ≡ first_broken g s → (i < g.elements) × (i ≡ broken_from g s) × (j ≡ broken_to g s i)
  broken_found i j e =
      let w = some_of (ltb (broken_from g s) g.elements) (broken_from g s, broken_to g s (broken_from g s)) (i, j) e in
      let l : broken_from g s < g.elements = ltb-true (broken_from g s) g.elements w.0 in
      let f : i ≡ broken_from g s = ap (λ (x : ℕ × ℕ). x.0) w.1 in
      (omega arith, f, ap (λ (x : ℕ × ℕ). x.1) w.1 ∙ sym (ap (λ (x : ℕ). broken_to g s x) f))

-- ---- the check

module _ (g : Network) (c : Work) where
  pub says_broken : (i j : ℕ) → Some (i, j) ≡ first_broken g c.start → Broken (i + 1) (j + 1) ≡ check_of g c
  says_broken i j e = let w = broken_found g c.start i j e in check_broken g c i j w.1 w.0 w.2

  kept : None ≡ first_broken g c.start → g.elements ≤ broken_from g c.start
  kept e =
      ltb-false (broken_from g c.start) g.elements (none_of _ (broken_from g c.start, broken_to g c.start (broken_from g c.start)) e)

  pub over_found : (t k : ℕ) → Some (t, k) ≡ first_over c → (0 < t) × (t ≡ first_period c) × (k ≡ lowest_kind c t)
  over_found t k e =
      let w = some_of (ltb 0 (first_period c)) (first_period c, lowest_kind c (first_period c)) (t, k) e in
      let l : 0 < first_period c = ltb-true 0 (first_period c) w.0 in
      let f : t ≡ first_period c = ap (λ (x : ℕ × ℕ). x.0) w.1 in
      (omega arith, f, ap (λ (x : ℕ × ℕ). x.1) w.1 ∙ sym (ap (λ (x : ℕ). lowest_kind c x) f))

  pub says_over : (t k : ℕ) → None ≡ first_broken g c.start → Some (t, k) ≡ first_over c → Overload t (k + 1) ≡ check_of g c
  says_over t k n e =
      let w = over_found t k e in check_over g c (broken_from g c.start) t k refl (kept n) w.1 w.0 w.2

  pub says_fits : None ≡ first_broken g c.start → None ≡ first_over c → Fits ≡ check_of g c
  says_fits n e =
      check_fits g c (broken_from g c.start) (first_period c) refl (kept n) refl
      (ltb-false 0 (first_period c) (none_of _ (first_period c, lowest_kind c (first_period c)) e))
