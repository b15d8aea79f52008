-- What Starts writes are the earliest starts, in the file's own terms.
use mathlib.Core.Path.{◌≡◌, ap, ◌∙◌, subst}
use mathlib.Core.List.{List, ◌++◌}
use mathlib.Core.Logic.{⊎_elim}
use Prim.Native.Nat.{ℕ, ◌+◌, ◌≤◌, ◌<◌}
use native.Mathlib.Omega.{arith}
use lib.ListN.{length, get_or, drop, length-append, length-drop, get_or-append}
use lib.Seq.{drop_at}
use Rattle.std.specs.Prelude.{Ok}
use Rattle.order.specs.Before.{Before}
use Rattle.plan.specs.Meaning.{Readable, FileArc, file_duration}
use Rattle.plan.specs.Records.{activity_count}
use Rattle.schedule.specs.Lists.{LargestOr0, FinishOf, at}
use Rattle.planner.specs.Open.{plan_in, Opens}
use Rattle.planner.specs.Starts.{needed, first_starts, end_start, start_numbers, starts_out}
use Rattle.planner.specs.Times.{arc_weight, KeepsArcs, NoWaits}
use Rattle.planner.proofs.OpenLaws.{opens_readable}
use Rattle.planner.proofs.StartsLaws.{before_end, at_end, length_numbers}
use Rattle.planner.proofs.FileOrders.{starts_keep, starts_least, starts_largest, end_largest}
use Rattle.planner.proofs.QuotedNeeds.{count_in}
use Rattle.promises.specs.Ours.{ours}
use Rattle.promises.specs.Paper.{EarliestStarts}
use Rattle.promises.proofs.AnswersWhen.{starts_written, out_numbers}

module _ (s : List ℕ) (o : Opens s) (out : List ℕ) (h : activity_count s + 1 ≤ length out) where
  readable : Readable s
  readable = opens_readable s o

  m : (plan_in s).count ≡ activity_count s
  m = count_in s readable

  fits : needed s ≤ length out
  fits = omega (arith, h, m)

  written : starts_out s out ≡ start_numbers s ++ drop (needed s) out
  written = out_numbers s out o fits

  -- each number
  pub number : (i : ℕ) → i ≤ activity_count s → get_or (starts_out s out) i 0 ≡ get_or (start_numbers s) i 0
  number i l =
      ap (λ (xs : List ℕ). get_or xs i 0) written
      ∙ get_or-append (start_numbers s) (drop (needed s) out) 0 i (omega (arith, l, m, length_numbers s))

  same : (i : ℕ) → i < (plan_in s).count → at (starts_out s out) i ≡ at (first_starts s) i
  unfolding start_numbers
  same i l = number i (omega (arith, m)) ∙ before_end (plan_in s).count (first_starts s) (end_start s) i l

  at_last : at (starts_out s out) (plan_in s).count ≡ end_start s
  unfolding start_numbers
  at_last = number (plan_in s).count (omega (arith, m)) ∙ at_end (plan_in s).count (first_starts s) (end_start s)

  end : LargestOr0 (FinishOf (λ i. i < activity_count s) (at (starts_out s out)) (file_duration s)) (at (starts_out s out) (activity_count s))
  end =
      subst (λ (n : ℕ). LargestOr0 (FinishOf (λ i. i < n) (at (starts_out s out)) (file_duration s)) (at (starts_out s out) n)) m
      (end_largest s o (at (starts_out s out)) same (at (starts_out s out) (plan_in s).count) at_last)

  least : (y : ℕ → ℕ) → KeepsArcs s y (file_duration s) → (i : ℕ) → i < activity_count s → get_or (starts_out s out) i 0 ≤ y i
  least y k i l = starts_least s o (at (starts_out s out)) same y k i (omega (arith, m))

  -- the end starts at 0, or at the finish of one, which starts no later than in the other schedule
  end_least : (y : ℕ → ℕ) → KeepsArcs s y (file_duration s) → (last : ℕ) → ((i : ℕ) → i < activity_count s → y i + file_duration s i ≤ last)
      → get_or (starts_out s out) (activity_count s) 0 ≤ last
  end_least y k last below =
      ⊎_elim
      (λ z. omega (arith, z))
      (λ F. omega (arith, F.finish, least y k F.element F.picked, below F.element F.picked))
      end.reached

  -- where every wait is 0
  pub largest : NoWaits s → (j : ℕ) → j < activity_count s
      → LargestOr0 (FinishOf (λ i. Before (FileArc s) i j) (at (starts_out s out)) (file_duration s)) (get_or (starts_out s out) j 0)
  largest none j l = starts_largest s o (at (starts_out s out)) same none j (omega (arith, m))

  pub earliest_starts : EarliestStarts ours s (arc_weight s) out
  earliest_starts =
      record {
        answers = starts_written s (length out) o fits ∙ ap (λ (n : ℕ). Ok (n + 1)) m;
        end = end;
        least = least;
        end_least = end_least;
        keep = starts_keep s o (at (starts_out s out)) same;
        rest = rw m at (ap (drop (needed s)) written ∙ drop_at (start_numbers s) (drop (needed s) out) (needed s) (length_numbers s));
        room =
            ap (λ (xs : List ℕ). length xs) written
            ∙ omega (arith, length-append (start_numbers s) (drop (needed s) out), length_numbers s, length-drop (needed s) out, fits);
      }
