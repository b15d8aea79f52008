-- CHANGE 2 OF DOCUMENT 02 HOLDS OF OURS: `milestones_keep`.
use mathlib.Core.Path.{◌≡◌}
use mathlib.Core.List.{List}
use Prim.Native.Nat.{ℕ, ◌+◌, ◌<◌}
use native.Mathlib.Omega.{arith}
use lib.ListN.{length}
use Rattle.std.specs.Prelude.{Ok}
use Rattle.words.proofs.Sums.{sum_term}
use Rattle.words.proofs.Tests.{fails}
use Rattle.order.specs.Before.{Acyclic, last, more}
use Rattle.records.specs.Bytes.{AreBytes}
use Rattle.plan.specs.Records.{activity_count}
use Rattle.plan.specs.Meaning.{Readable, Milestone, FileArc, file_kinds}
use Rattle.plan.specs.declared.Cause.TheVariants.{MilestoneDemand}
use Rattle.plan.proofs.Milestones.{milestone_idle, demanding_refused, refused_demanding}
use Rattle.flow_math.specs.Crew.{active}
use Rattle.flow_math.proofs.Crew.{active_says}
use Rattle.kinds.specs.Reading.{units_read}
use Rattle.planner.proofs.QuotedNeeds.{kind_in}
use Rattle.promises.specs.Ours.{ours}
use Rattle.promises.specs.Paper.{Paper}
use Rattle.promises.specs.Milestones.{Twelve, Milestones, NoMilestone, MilestoneSentence}
use Rattle.promises.proofs.RefusalsHold.{unreadables, unread_given}
use Rattle.promises.proofs.PaperHolds.{paper}

-- ---- 12

twelve : (s : List ℕ) → Twelve ours s
twelve s =
    record {
      twelve = λ p D. (unreadables s).every (MilestoneDemand p) (demanding_refused s p D);
      twelve_means = λ p g. refused_demanding s p (unread_given s (MilestoneDemand p) g);
    }

-- ---- the milestones of a readable plan without a circle

module _ (s : List ℕ) (small : AreBytes s) (r : Readable s) (free : Acyclic (FileArc s)) (i : ℕ) (l : i < activity_count s) where
  says : Paper ours s
  says = (paper s small r).1 free

  module _ (z : Milestone s i) where
    -- into and out of it goes its demand in all, which is none
    none_in : (k : ℕ) → k < file_kinds s → (out : List ℕ) (n : ℕ) → (ours.flow (k + 1)).answer s (length out) ≡ Ok n
        → (u : ℕ) → u < activity_count s + 2 → units_read n ((ours.flow (k + 1)).left s out) u (i + 1) ≡ 0
    none_in k h out n e u b =
        omega (
          arith,
          sum_term (activity_count s + 2) (λ x. units_read n ((ours.flow (k + 1)).left s out) x (i + 1)) u b,
          (says.flows k out n e).into i l,
          milestone_idle s r i k l (kind_in s r h) z,
        )

    none_out : (k : ℕ) → k < file_kinds s → (out : List ℕ) (n : ℕ) → (ours.flow (k + 1)).answer s (length out) ≡ Ok n
        → (v : ℕ) → v < activity_count s + 2 → units_read n ((ours.flow (k + 1)).left s out) (i + 1) v ≡ 0
    none_out k h out n e v b =
        omega (
          arith,
          sum_term (activity_count s + 2) (units_read n ((ours.flow (k + 1)).left s out) (i + 1)) v b,
          (says.flows k out n e).out i l,
          milestone_idle s r i k l (kind_in s r h) z,
        )

    pub milestone : Milestones ours s i
    milestone =
        record {
          nobody = λ k h. milestone_idle s r i k l h z;
          takes_over = none_in;
          hands_over = none_out;
          never = λ x w c t. fails (active x w t i) (λ e. let a = (active_says x w t i).0 e in omega (arith, c.works.milestones i l z));
          orders = λ h j a b. more a (last b);
          passes = λ x w c h j a b. omega (arith, c.keeps h i a, c.keeps i j b);
          starts = λ out e h j a b. omega (arith, (says.starts out e).keep h i a, (says.starts out e).keep i j b);
          ten = λ starts worked d. (says.crews starts worked).ten.1 (λ R. omega (arith, R.working.milestones i l z));
        }

  no_milestone : (Milestone s i → ⊥) → NoMilestone ours s i
  no_milestone n = record { ten = λ starts worked d. (says.crews starts worked).ten.1 (λ R. omega (arith, R.working.others i l n)) }

pub milestones_keep : MilestoneSentence ours
milestones_keep = record { refused = twelve; milestones = milestone; others = no_milestone }
