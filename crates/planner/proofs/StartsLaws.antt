-- Starts: the numbers, and what it answers and writes.
use mathlib.Core.Path.{◌≡◌, sym, ap, ◌∙◌, subst}
use mathlib.Core.Bool.{true, cond}
use mathlib.Core.List.{List, ◌++◌}
use mathlib.Core.Logic.{⊎_elim}
use Prim.Native.Nat.{ℕ, ◌+◌, ◌^◌, ◌≤◌, ◌<◌}
use native.Mathlib.Omega.{arith}
use lib.Dec.{ltb, eqb}
use lib.ListN.{length, get_or, set, take, drop, get_or-eq_default}
use lib.Seq.{length-take-le, get_or-take, ext_get_or}
use borrow.Author.Tests.{lt-ltb, le-ltb, ltb-true, ltb-false, eqb-true, eqb-false}
use Rattle.std.specs.Prelude.{Ok, Err}
use Rattle.words.specs.Tables.{over}
use Rattle.words.proofs.Tables.{length_table, get_d_table, over_turn}
use Rattle.words.proofs.Tests.{by_test, cond_true, cond_false}
use Rattle.records.specs.Bytes.{AreBytes}
use Rattle.order.specs.Before.{Acyclic}
use Rattle.order.specs.Orders.{Direct}
use Rattle.schedule.specs.Starts.{end_of}
use Rattle.schedule.specs.model.Arrays.{by_duration, starts_of, AllAtMost, FinishesFit}
use Rattle.schedule.specs.Lists.{at}
use Rattle.schedule.proofs.Starts.{end_largest}
use Rattle.planner.specs.Faults.{Fault, is_fine, or_short}
use Rattle.planner.specs.Open.{plan_in, rows_of, fault_of, Opens}
use Rattle.planner.specs.Starts.{needed, starts_fault, with_end, first_starts, end_start, start_numbers}
use Rattle.planner.specs.model.Opening.{Held, opened_of}
use Rattle.planner.specs.declared.Cause.{Cause}
use Rattle.planner.specs.declared.Cause.TheVariants.{Short}
use Rattle.planner.proofs.FaultLaws.{cause_before, short_fine}
use Rattle.planner.specs.Times.{arc_weight}
use Rattle.planner.proofs.TimesLaws.{starts_finish}
use Rattle.planner.proofs.OpenLaws.{count_few, opens_plan, opens_small, goes_open}

-- ---- m numbers and one more

module _ (m : ℕ) (starts : List ℕ) (end : ℕ) where
  length_end : length (with_end m starts end) ≡ m + 1
  unfolding with_end
  length_end = length_table (m + 1) (λ i. cond (ltb i m) (get_or starts i 0) end)

  pub before_end : (i : ℕ) → i < m → get_or (with_end m starts end) i 0 ≡ get_or starts i 0
  unfolding with_end
  before_end i h =
      get_d_table (m + 1) (λ i. cond (ltb i m) (get_or starts i 0) end) i 0 (omega arith)
      ∙ cond_true (get_or starts i 0) end (lt-ltb i m h)

  pub at_end : get_or (with_end m starts end) m 0 ≡ end
  unfolding with_end
  at_end =
      get_d_table (m + 1) (λ i. cond (ltb i m) (get_or starts i 0) end) m 0 (omega arith)
      ∙ cond_false (get_or starts m 0) end (le-ltb m m (omega arith))

  -- the first m are the starts
  taken : m ≤ length starts → take m starts ≡ take m (with_end m starts end)
  taken h =
      ext_get_or 0 (take m starts) (take m (with_end m starts end))
      (length-take-le m starts h ∙ sym (length-take-le m (with_end m starts end) (omega (arith, length_end))))
      (λ i l.
      let b : i < m = omega (arith, l, length-take-le m starts h) in
      get_or-take m starts i 0 b ∙ sym (before_end i b) ∙ sym (get_or-take m (with_end m starts end) i 0 b))

  -- they are copied to the front, and the last is written behind them
  pub put_all : {front : List ℕ} (out : List ℕ) → m ≤ length starts → m + 1 ≤ length out → front ≡ take m starts
      → set (front ++ drop m out) m end ≡ over (m + 1) (with_end m starts end) out
  put_all out h l f =
      ap (λ (xs : List ℕ). set (xs ++ drop m out) m end) (f ∙ taken h)
      ∙ ap (λ (x : ℕ). set (over m (with_end m starts end) out) m x) (sym at_end)
      ∙ over_turn m (with_end m starts end) out (omega (arith, length_end)) (omega arith)

-- ---- what Starts writes

pub length_numbers : (s : List ℕ) → length (start_numbers s) ≡ needed s
unfolding start_numbers
length_numbers s = length_end (plan_in s).count (first_starts s) (end_start s)

-- each of the numbers fits 32 bits
pub numbers_fit : (s : List ℕ) → AreBytes s → Opens s → (i : ℕ) → get_or (start_numbers s) i 0 < 2 ^ 32
unfolding start_numbers
numbers_fit s bytes o i =
    by_test (ltb i m)
    (λ t.
    let l : i < m = ltb-true i m t in
    omega (arith, before_end m (first_starts s) (end_start s) i l, fit i i (omega (arith, count_few s))))
    (λ t.
    by_test (eqb i m)
    (λ e. subst (λ (k : ℕ). get_or (with_end m (first_starts s) (end_start s)) k 0 < 2 ^ 32) (sym (eqb-true i m e)) last)
    (λ e.
    let past : m + 1 ≤ i = omega (arith, ltb-false i m t, eqb-false i m e) in
    omega (arith, get_or-eq_default (with_end m (first_starts s) (end_start s)) 0 {n = i} (omega (arith, length_end m (first_starts s) (end_start s))))))
  where
    m : ℕ
    m = (plan_in s).count

    fit : FinishesFit (first_starts s) (by_duration (plan_in s).duration)
    fit = starts_finish s bytes (rows_of s) (plan_in s).duration (opens_small s bytes o)

    last : get_or (with_end m (first_starts s) (end_start s)) m 0 < 2 ^ 32
    last =
        ⊎_elim
        (λ z. omega (arith, at_end m (first_starts s) (end_start s), z))
        (λ F. omega (arith, at_end m (first_starts s) (end_start s), F.finish, fit F.element 0 (omega (arith, F.picked, count_few s))))
        (end_largest m (at (first_starts s)) (at (plan_in s).duration)).reached

-- it goes on where the plan opens and there is room
starts_fine : (s : List ℕ) (n : ℕ) → is_fine (starts_fault s n) ≡ true → Opens s × (needed s ≤ n)
unfolding starts_fault
starts_fine s n e = short_fine (fault_of s) n (needed s) e

-- a cause of the opening is its own
pub starts_before : (s : List ℕ) (n : ℕ) {c : Cause} → fault_of s ≡ Err c → starts_fault s n ≡ Err c
unfolding starts_fault
starts_before s n e = cause_before (fault_of s) (ltb n (needed s)) (Short (needed s)) _ e

-- ---- the same, of what the code holds: `o` is the plan that was opened

module _ (s out : List ℕ) (opens : Opens s) {o : Held} (held : o ≡ opened_of s) where
  -- 9 in its turn
  pub starts_short : {f : Fault} → f ≡ or_short (Ok tt) (length out) (o.plan.count + 1)
      → f ≡ starts_fault s (length out)
  unfolding starts_fault
  starts_short e = e ∙ ap (λ (x : Held). or_short (Ok tt) (length out) (x.plan.count + 1)) held
      ∙ goes_open s opens (λ f. or_short f (length out) (needed s))

  pub counted : o.plan.count + 1 ≡ needed s
  counted = ap (λ (x : Held). x.plan.count + 1) held

  pub written : {after first : List ℕ} {end : ℕ} → first ≡ starts_of o.rows (arc_weight s (at o.plan.duration))
      → end ≡ end_of o.plan.count (at first) (at o.plan.duration) → after ≡ over (o.plan.count + 1) (with_end o.plan.count first end) out
      → after ≡ over (needed s) (start_numbers s) out
  unfolding start_numbers
  written a d w = w ∙ rw (d, a, held)

  pub room : Ok tt ≡ starts_fault s (length out) → o.plan.count + 1 ≤ length out
  room e = rw held (starts_fine s (length out) (sym (ap is_fine e))).1

  pub free : Acyclic (Direct o.rows)
  free = rw held (opens_plan s opens)

  pub small : AreBytes s → AllAtMost 65535 o.plan.duration
  small bytes = rw held (opens_small s bytes opens)

  pub fits : AreBytes s → {first : List ℕ} → first ≡ starts_of o.rows (arc_weight s (at o.plan.duration))
      → FinishesFit first (by_duration o.plan.duration)
  fits bytes q =
      subst (λ (xs : List ℕ). FinishesFit xs (by_duration o.plan.duration)) (sym q)
      (starts_finish s bytes o.rows o.plan.duration (small bytes))
