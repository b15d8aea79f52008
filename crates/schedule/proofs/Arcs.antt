-- Laws of the first broken arc.
use mathlib.Core.Path.{◌≡◌, sym, ap, ◌∙◌}
use mathlib.Core.Bool.{Bool, ◌&&◌}
use mathlib.Core.List.{List}
use Prim.Native.Nat.{ℕ, ◌+◌, ◌*◌, ◌≤◌, ◌<◌}
use native.Mathlib.Omega.{arith}
use lib.Dec.{ltb}
use borrow.Author.Tests.{ltb-true, ltb-false}
use Rattle.words.specs.Members.{IsFirst}
use Rattle.words.proofs.Firsts.{the_first}
use Rattle.words.proofs.Tests.{clash, fails, and_says, and_both}
use Rattle.order.specs.Rows.{after}
use Rattle.order.specs.Stored.{elements}
use Rattle.flow_math.specs.Kept.{Kept}
use Rattle.flow_math.specs.Breaks.{FirstBroken}
use Rattle.flow_math.proofs.Kept.{is_broken_lem, not_broken}
use Rattle.schedule.specs.Network.{Network, Arc, Schedule, Keeps}
use Rattle.schedule.specs.Checks.{breaks, broken_to, broken_from}
use Rattle.schedule.specs.model.Arrays.{crew_net, with_waits}
use Rattle.schedule.specs.Lists.{at}

module _ (g : Network) (s : Schedule) where
  -- no arc is broken from an element before the first one from which one is, and none to an element before the first one to which one is
  pub broken_first : IsFirst g.elements (λ i. ltb (broken_to g s i) g.elements) (broken_from g s)
  unfolding broken_from
  broken_first = the_first _ _

  pub broken_to_first : (i : ℕ) → IsFirst g.elements (breaks g s i) (broken_to g s i)
  unfolding broken_to
  broken_to_first i = the_first _ _

  -- an arc to an element before the first one to which one is broken is kept
  kept_to : (i j : ℕ) → Arc g i j → j < broken_to g s i → Kept s g.weight i j
  kept_to i j a l = not_broken s g.weight i j (fails _ λ e. clash (and_both _ _ a.drawn e) ((broken_to_first i).before j l))

  -- an element before the first one from which an arc is broken keeps its arcs
  kept_from : (i j : ℕ) → Arc g i j → i < broken_from g s → Kept s g.weight i j
  kept_from i j a l = kept_to i j a (omega (arith, ltb-false (broken_to g s i) g.elements (broken_first.before i l), a.to))

  -- NO ARC IS BROKEN: THE SCHEDULE KEEPS EVERY ARC
  pub none_broken : g.elements ≤ broken_from g s → Keeps g s
  none_broken h i j a = kept_from i j a (omega (arith, a.from))

  -- THE ARC FOUND IS THE FIRST THAT IS BROKEN
  pub found_broken : broken_from g s < g.elements → FirstBroken (Arc g) s g.weight (broken_from g s) (broken_to g s (broken_from g s))
  found_broken h =
      let i = broken_from g s in
      let j = broken_to g s i in
      let l : j < g.elements = ltb-true j g.elements (broken_first.found h) in
      let e = (and_says _ _).0 ((broken_to_first i).found l) in
      record {
        there = record { from = h; to = l; drawn = e.0 };
        late = is_broken_lem s g.weight i j e.1;
        kept = kept_from;
        rest = kept_to i;
      }

-- the code's test of one arc, with the finish of i at hand
pub breaks_by :
    (R W S D : List ℕ) (i j f : ℕ) {b : Bool} → f ≡ at S i + at D i → b ≡ (after R i j && ltb (at S j) (f + at W (elements * j + i)))
    → breaks (crew_net R (with_waits D W) S) (at S) i j ≡ b
breaks_by R W S D i j f e r =
    let late : at S i + (at D i + at W (elements * j + i)) ≡ f + at W (elements * j + i) = omega arith in
    ap (λ (x : ℕ). after R i j && ltb (at S j) x) late ∙ sym r
