-- Only for the proofs of the code: the first period is found among those that follow a start.
use mathlib.Core.Path.{◌≡◌, sym, ap, ap₂, ◌∙◌, subst}
use mathlib.Core.Bool.{true}
use mathlib.Core.List.{List}
use Prim.Native.Nat.{ℕ, ◌≤◌, ◌<◌}
use native.Mathlib.Decide.{dec_lt}
use native.Mathlib.Omega.{arith}
use lib.Dec.{ltb}
use borrow.Author.Tests.{lt-ltb, le-ltb}
use Rattle.std.proofs.Common.{Option, Some, None}
use Rattle.words.proofs.Tests.{clash, cond_true, cond_false}
use Rattle.schedule.specs.Checks.{Work, exceeds, lowest_kind, overloaded, first_period}
use Rattle.schedule.specs.PeriodLoad.{load_of}
use Rattle.schedule.specs.Lists.{at}
use Rattle.schedule.specs.model.Found.{first_over}
use Rattle.schedule.specs.model.Levels.{Soonest}
use Rattle.schedule.proofs.PeriodLoads.{load_kind}
use Rattle.schedule.proofs.Periods.{period_follows, period_none, period_over, period_first}

module _ (c : Work) where
  -- what the code has found when it has been through all starts is the first period
  pub best_all : (f : Option (ℕ × ℕ)) → Soonest c c.count f → f ≡ first_over c
  best_all None B =
      sym (cond_false (Some (first_period c, lowest_kind c (first_period c))) None (le-ltb 0 (first_period c) (none (dec_lt 0 (first_period c)))))
    where
      none : Dec (0 < first_period c) → first_period c ≤ 0
      none (yes h) = let w = period_follows c h in clash (subst (λ (x : ℕ). overloaded c x ≡ true) w.2 (period_over c h)) (B w.0 w.1)
      none (no m) = omega arith
  best_all (Some f) B =
      let some : 0 < first_period c = there (dec_lt 0 (first_period c)) in
      let same : f.0 ≡ first_period c = period some (dec_lt f.0 (first_period c)) in
      ap₂ (λ (t k : ℕ). Some (t, k)) same (B.1 ∙ ap (λ (t : ℕ). lowest_kind c t) same)
      ∙ sym (cond_true (Some (first_period c, lowest_kind c (first_period c))) None (lt-ltb 0 (first_period c) some))
    where
      there : Dec (0 < first_period c) → 0 < first_period c
      there (yes h) = h
      there (no m) = clash B.0 (period_none c (omega arith) f.0)

      period : 0 < first_period c → Dec (f.0 < first_period c) → f.0 ≡ first_period c
      period h (yes l) = clash B.0 (period_first c f.0 l)
      period h (no m) =
          let w = period_follows c h in
          let v = B.2 w.0 w.1 (subst (λ (x : ℕ). overloaded c x ≡ true) w.2 (period_over c h)) in
          omega (arith, v, w.2)

-- ---- the code's test

-- which kinds are exceeded, by the load
pub exceeds_by : (c : Work) (t k : ℕ) {l : List ℕ} → 1 ≤ t → k < c.kinds → l ≡ load_of c t → exceeds c t k ≡ ltb (c.available k) (at l k)
exceeds_by c t k one h e = ap (λ (x : ℕ). ltb (c.available k) x) (sym (ap (λ (l : List ℕ). at l k) e ∙ load_kind c t k one h))
