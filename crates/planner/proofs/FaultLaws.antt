-- Faults, and the causes of an operation in their turn.
use mathlib.Core.Path.{◌≡◌, refl, sym, ap, ◌∙◌, subst}
use mathlib.Core.Bool.{Bool, true, false, true≢false, false≢true}
use mathlib.Core.Logic.{◌⊎◌, inl, inr, ⊎_elim, ◌≢◌}
use Prim.Native.Nat.{ℕ, ◌+◌, ◌≤◌, ◌<◌}
use native.Mathlib.Omega.{arith}
use lib.Dec.{ltb}
use borrow.Author.Tests.{lt-ltb, le-ltb, ltb-false}
use Rattle.std.specs.Prelude.{Ok, Err}
use Rattle.kinds.specs.declared.Overload.{Overload}
use Rattle.planner.specs.Faults.{Fault, outcome, is_fine, or_cause, or_short}
use Rattle.planner.specs.Answers.{cause_number}
use Rattle.planner.specs.model.Opening.{or_found}
use Rattle.planner.specs.declared.Cause.{Cause}
use Rattle.planner.specs.declared.Cause.TheVariants.{Overloaded, Short}

pub fine_is : (f : Fault) → is_fine f ≡ true → f ≡ Ok tt
fine_is (Ok _) e = refl
fine_is (Err c) e = absurd (false≢true e)

-- ---- the next cause in its turn

-- an operation goes on where it had no fault, and the test of the next cause does not hold
pub cause_fine : (f : Fault) (b : Bool) (c : Cause) → is_fine (or_cause f b c) ≡ true → (is_fine f ≡ true) × (b ≡ false)
cause_fine (Ok _) true c e = absurd (false≢true e)
cause_fine (Ok _) false c e = (refl, refl)
cause_fine (Err d) b c e = absurd (false≢true e)

-- it was refused before
pub cause_before : (f : Fault) (b : Bool) (c d : Cause) → f ≡ Err d → or_cause f b c ≡ Err d
cause_before f b c d e = ap (λ (x : Fault). or_cause x b c) e

-- it is refused now
pub cause_next : (f : Fault) (b : Bool) (c : Cause) → is_fine f ≡ true → b ≡ true → or_cause f b c ≡ Err c
cause_next f b c o e = ap (λ (x : Fault). or_cause x b c) (fine_is f o) ∙ ap (λ (x : Bool). or_cause (Ok tt) x c) e

-- it goes on
pub cause_none : (f : Fault) (b : Bool) (c : Cause) → is_fine f ≡ true → b ≡ false → or_cause f b c ≡ Ok tt
cause_none f b c o e = ap (λ (x : Fault). or_cause x b c) (fine_is f o) ∙ ap (λ (x : Bool). or_cause (Ok tt) x c) e

-- a refusal is one from before, or the one of now
pub cause_from : (f : Fault) (b : Bool) (c d : Cause) → or_cause f b c ≡ Err d
    → (f ≡ Err d) ⊎ ((is_fine f ≡ true) × (b ≡ true) × (c ≡ d))
cause_from (Ok _) true c d e = inr (refl, refl, cc)
cause_from (Ok _) false c d e = inl e
cause_from (Err x) b c d e = inl e

-- a refusal by another number than the next cause's is one from before
pub from_before : (f : Fault) (b : Bool) (c d : Cause) → cause_number d ≢ cause_number c → or_cause f b c ≡ Err d
    → f ≡ Err d
from_before f b c d other e = ⊎_elim (λ p. p) (λ w. absurd (other (sym (ap cause_number w.2)))) (cause_from f b c d e)

-- where there is a fault already, no other cause has a turn
pub cause_kept : (f : Fault) (b : Bool) (c : Cause) → is_fine f ≡ false → f ≡ or_cause f b c
cause_kept (Ok _) b c e = absurd (true≢false e)
cause_kept (Err d) b c e = refl

-- ---- 9 in its turn

module _ (f : Fault) (lent needed : ℕ) where
  pub short_fine : is_fine (or_short f lent needed) ≡ true → (is_fine f ≡ true) × (needed ≤ lent)
  short_fine e = let w = cause_fine f (ltb lent needed) (Short needed) e in (w.0, ltb-false lent needed w.1)

  pub short_next : is_fine f ≡ true → lent < needed → or_short f lent needed ≡ Err (Short needed)
  short_next o h = cause_next f (ltb lent needed) (Short needed) o (lt-ltb lent needed h)

  pub short_none : is_fine f ≡ true → needed ≤ lent → or_short f lent needed ≡ Ok tt
  short_none o h = cause_none f (ltb lent needed) (Short needed) o (le-ltb lent needed h)

-- ---- 7 in its turn: nothing is weighed where there is a fault already

pub not_weighed : (f : Fault) (v : Overload) (n : ℕ) → is_fine f ≡ false → f ≡ or_found f v n
not_weighed f v n = cause_kept f (ltb v.kind n) (Overloaded (v.kind + 1) v.need v.set)

-- ---- how an operation ends, by its fault, and its fault by that

pub outcome_fine : {A : Type 0} (f : Fault) (x y : A) → Ok y ≡ outcome f x → (is_fine f ≡ true) × (y ≡ x)
outcome_fine (Ok _) x y e = (refl, cc)
outcome_fine (Err c) x y e = absurd (let z : ◌≡◌ {A = ℕ} 0 1 = cc in omega arith)

pub outcome_refused : {A : Type 0} (f : Fault) (x : A) (c : Cause) → Err c ≡ outcome f x → f ≡ Err c
outcome_refused (Ok _) x c e = absurd (let z : ◌≡◌ {A = ℕ} 0 1 = cc in omega arith)
outcome_refused (Err d) x c e = let q : d ≡ c = cc in ap Err q

-- ---- what holds of whatever cause a fault has

abbrev pub Every : (Cause → Type 0) → Fault → Type 0
Every P f = (c : Cause) → f ≡ Err c → P c

pub every_fine : (P : Cause → Type 0) → Every P (Ok tt)
every_fine P c e = absurd (let z : ◌≡◌ {A = ℕ} 0 1 = cc in omega arith)

pub every_this : (P : Cause → Type 0) (d : Cause) → P d → Every P (Err d)
every_this P d h c e = let q : d ≡ c = cc in subst P q h

pub every_turn : (P : Cause → Type 0) (f : Fault) (b : Bool) (c : Cause) → Every P f → (is_fine f ≡ true → b ≡ true → P c) → Every P (or_cause f b c)
every_turn P (Ok _) true c h next = every_this P c (next refl refl)
every_turn P (Ok _) false c h next = h
every_turn P (Err d) b c h next = h
