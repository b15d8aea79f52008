-- What the crew check finds, in the file's own terms, where the plan opens and there is a start for each activity.
use mathlib.Core.Path.{◌≡◌}
use mathlib.Core.Bool.{cond}
use mathlib.Core.List.{List}
use mathlib.Core.Logic.Iff
use mathlib.Core.Logic.{◌↔◌}
use Prim.Native.Nat.{ℕ, ◌+◌, ◌≤◌, ◌<◌, ◌*◌}
use native.Mathlib.Omega.{arith}
use native.Mathlib.Decide.{dec_lt}
use lib.ListN.{length, get_or}
use Rattle.words.proofs.Sums.{sum_zero}
use Rattle.words.proofs.Tests.{cond_least}
use Rattle.order.specs.Stored.{elements}
use Rattle.flow_math.specs.Crew as crew
use Rattle.flow_math.specs.Breaks.{FirstBroken}
use Rattle.flow_math.proofs.Kept.{keeps_same, first_same}
use Rattle.schedule.specs.Network.{Arc}
use Rattle.schedule.specs.Checks.{at_work, occupied, Enough, FirstOver}
use Rattle.schedule.specs.Lists.{at}
use Rattle.schedule.specs.declared.Checked.TheVariants.{Fits, Broken, Overload}
use Rattle.schedule.proofs.Answers.{fits_says, broken_says, over_says}
use Rattle.planner.specs.Open.{plan_in, Opens}
use Rattle.planner.specs.CrewCheck.{crew_work, crew_arcs, crew_found}
use Rattle.plan.specs.Meaning.{FileArc}
use Rattle.planner.specs.Times.{arc_weight, KeepsArcs}
use Rattle.planner.proofs.OpenLaws.{said_in, opens_readable, count_few}
use Rattle.planner.proofs.FileOrders.{plan_arcs, arc_ends}

module _ (s starts worked : List ℕ) (o : Opens s) (all : length starts ≡ (plan_in s).count) where
  -- the arcs that the crew check looks at are the file's
  crew_arcs_lem : (i j : ℕ) → Arc (crew_arcs s starts worked) i j ↔ FileArc s i j
  crew_arcs_lem i j =
      let e = opens_readable s o in (
        (λ a. (plan_arcs s e i j).0 (record { from = short a.from; to = short a.to; drawn = a.drawn })),
        (λ f. let h = arc_ends s e i j f in record { from = omega arith; to = omega arith; drawn = ((plan_arcs s e i j).1 f).drawn }),
      )
    where
      short : {k : ℕ} → k < length starts → k < elements
      short h = omega (arith, count_few s)

  -- IT FITS: every arc of the file is kept, and in no period is more of a kind occupied than is available
  pub finds_fits : (crew_found s starts worked ≡ Fits) ↔ (KeepsArcs s (at starts) (at worked) × Enough (crew_work s starts worked))
  unfolding crew_found
  finds_fits =
      Iff.trans (fits_says (crew_arcs s starts worked) (crew_work s starts worked))
      (Iff.and (keeps_same (at starts) (arc_weight s (at worked)) crew_arcs_lem) Iff.rfl)

  -- A BROKEN ARC: it is the first of the file's, by from and then to
  pub finds_broken : (i j : ℕ) → (crew_found s starts worked ≡ Broken (i + 1) (j + 1)) ↔ FirstBroken (FileArc s) (at starts) (arc_weight s (at worked)) i j
  unfolding crew_found
  finds_broken i j = Iff.trans (broken_says (crew_arcs s starts worked) (crew_work s starts worked) i j) (first_same crew_arcs_lem)

  -- AN OVERLOAD: every arc is kept, the period is the first, and the kind the lowest in it
  pub finds_over : (t k : ℕ) → (crew_found s starts worked ≡ Overload t (k + 1)) ↔ (KeepsArcs s (at starts) (at worked) × FirstOver (crew_work s starts worked) t k)
  unfolding crew_found
  finds_over t k =
      Iff.trans (over_says (crew_arcs s starts worked) (crew_work s starts worked) t k)
      (Iff.and (keeps_same (at starts) (arc_weight s (at worked)) crew_arcs_lem) Iff.rfl)

  -- nothing is demanded of a kind that the file does not have, so the kind shown is one of the file's
  pub none_occupied : (t k : ℕ) → (plan_in s).kinds ≤ k → k < 8 → occupied (crew_work s starts worked) t k ≡ 0
  unfolding crew.occupied
  none_occupied t k l h =
      sum_zero (length starts) (λ i. cond (at_work (crew_work s starts worked) t i) (get_or (plan_in s).demand (elements * k + i) 0) 0)
      (λ i li.
      let z = (said_in s (opens_readable s o)).no_kind k i l h (omega (arith, count_few s)) in
      let c = cond_least (at_work (crew_work s starts worked) t i) (get_or (plan_in s).demand (elements * k + i) 0) 0 (λ y. omega arith) in
      omega (arith, c))

  pub over_kind_lem : (t k : ℕ) → FirstOver (crew_work s starts worked) t k → k < (plan_in s).kinds
  over_kind_lem t k O = go (dec_lt k (plan_in s).kinds)
    where
      go : Dec (k < (plan_in s).kinds) → k < (plan_in s).kinds
      go (yes h) = h
      go (no h) = absurd (omega (arith, O.over, none_occupied t k (omega arith) O.kind))
