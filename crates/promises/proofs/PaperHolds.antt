-- DEMAND 2 HOLDS OF OURS. It rests on CircleCauses (causes 5 and 6), EarliestStarts (starts), CrewCheckAnswers (crew
-- check), PriceListHolds (flows) and PeriodLoads (the steps of the load sum).
use mathlib.Core.Path.{◌≡◌, subst, fun_ext}
use mathlib.Core.List.{List}
use Prim.Native.Nat.{ℕ}
use native.Mathlib.Omega.{arith}
use Rattle.planner.specs.Times.{arc_weight, NoWaits}
use Rattle.planner.proofs.FileOrders.{opens_when}
use Rattle.promises.specs.Ours.{ours, our_steps}
use Rattle.promises.specs.Paper.{Rule, paper_rule, EarliestStarts, CrewCheck, PaperSentence, LoadSentence}
use Rattle.promises.proofs.PriceListHolds.{price_list}
use Rattle.promises.proofs.CircleCauses.{circles}
use Rattle.promises.proofs.EarliestStarts.{earliest_starts, largest}
use Rattle.promises.proofs.CrewCheckAnswers.{crew_check}
use Rattle.promises.proofs.PeriodLoads.{period_load}

-- where every wait is 0, the file's rule is the paper's
no_waits_rule : (s : List ℕ) → NoWaits s → arc_weight s ≡ paper_rule
no_waits_rule s none = fun_ext (λ w. fun_ext (λ i. fun_ext (λ j. omega (arith, none i j))))

pub paper : PaperSentence ours
paper s small r = (
  circles s r,
  λ free.
      let o = (opens_when s).1 (r, free) in
      record {
        flows = (price_list s small r free).meets;
        starts = earliest_starts s o;
        crews = crew_check s o;
        times = λ none.
            let rule = no_waits_rule s none in
            record {
              starts = λ out l. subst (λ (c : Rule). EarliestStarts ours s c out) rule (earliest_starts s o out l);
              largest = λ out l. largest s o out l none;
              crews = λ starts worked. subst (λ (c : Rule). CrewCheck ours s c starts worked) rule (crew_check s o starts worked);
            };
      },
)

-- AND ITS LOAD SUM TAKES THE PAPER'S STEPS
pub loads : LoadSentence our_steps
loads = period_load
