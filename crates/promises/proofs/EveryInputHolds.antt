-- DEMAND 1 HOLDS OF OURS: every answer is a result or a refusal by a number that document 01 gives the operation,
-- and a refusal changes nothing.
use mathlib.Core.Path.{◌≡◌, refl, sym, ap, ◌∙◌}
use mathlib.Core.Bool.{Bool, true, false, ◌||◌, true≢false, false≢true}
use mathlib.Core.List.{List, [], ◌∷◌, ◌++◌}
use mathlib.Core.Logic.{◌⊎◌, inl, inr, ◌≢◌}
use Prim.Native.Nat.{ℕ, ◌-◌}
use lib.Dec.{eqb, ltb}
use lib.ListN.{length}
use borrow.Author.Tests.{eqb-true, eq-eqb}
use Rattle.std.specs.Prelude.{Ok, Err}
use Rattle.words.proofs.Tests.{or_left, or_right, or_cases}
use Rattle.plan.specs.declared.Cause.{Cause as Unread}
use Rattle.plan.specs.declared.Cause.TheVariants.{Length, RecordType, Field, MilestoneDemand, Spare, RepeatedArc}
use Rattle.schedule.specs.declared.Checked.{Checked}
use Rattle.planner.specs.Faults.{Fault, or_cause}
use Rattle.planner.specs.Results.{accepted}
use Rattle.planner.specs.Open.{plan_in, fault_of}
use Rattle.planner.specs.Output.{output_of, lent_after}
use Rattle.planner.specs.Need.{is_overloaded, over_cause}
use Rattle.planner.specs.Verdict.{verdict_fault, verdict_of}
use Rattle.planner.specs.Needs.{needs_fault, need_numbers, needs_out}
use Rattle.planner.specs.Starts.{needed, starts_fault, start_numbers, starts_out}
use Rattle.planner.specs.Overload.{overload_fault, over_count, over_bytes, overload_out}
use Rattle.planner.specs.Flow.{kind_fault, flow_fault, flow_count, record_bytes, flow_out}
use Rattle.planner.specs.File.{flow_length}
use Rattle.planner.specs.CrewCheck.{bad_lists, crew_check_fault, crew_found, checked_of}
use Rattle.planner.specs.declared.Cause.{Cause}
use Rattle.planner.specs.declared.Cause.TheVariants.{Unreadable, Short, Lists}
use Rattle.planner.proofs.FaultLaws.{Every, every_turn}
use Rattle.planner.proofs.OpenLaws.{every_open}
use Rattle.planner.proofs.OutputLaws.{output_is_refused, lent_refused}
use Rattle.planner.specs.Answers.{cause_number}
use Rattle.promises.specs.Ours.{ours}
use Rattle.promises.specs.EveryInput.{OneOf, reading, opening, EveryInput}

-- ---- one of more numbers

pub one_more : (xs ys : List ℕ) (n : ℕ) → OneOf xs n → OneOf (xs ++ ys) n
one_more [] ys n h = absurd h
one_more (x ∷ xs) ys n (inl e) = inl e
one_more (x ∷ xs) ys n (inr h) = inr (one_more xs ys n h)

pub one_after : (xs ys : List ℕ) (n : ℕ) → OneOf ys n → OneOf (xs ++ ys) n
one_after [] ys n h = h
one_after (x ∷ xs) ys n h = inr (one_after xs ys n h)

pub one_last : (xs : List ℕ) (n : ℕ) → OneOf (xs ++ n ∷ []) n
one_last xs n = one_after xs (n ∷ []) n (inl refl)

-- the test of it, both ways, and that a number which is none of these is another than one of these
abbrev pub is_one : List ℕ → ℕ → Bool
is_one [] n = false
is_one (x ∷ xs) n = eqb n x || is_one xs n

one_tested : (xs : List ℕ) (n : ℕ) → OneOf xs n → is_one xs n ≡ true
one_tested [] n h = absurd h
one_tested (x ∷ xs) n (inl e) = or_left (eqb n x) (is_one xs n) (eq-eqb n x e)
one_tested (x ∷ xs) n (inr h) = or_right (eqb n x) (is_one xs n) (one_tested xs n h)

one_found : (xs : List ℕ) (n : ℕ) → is_one xs n ≡ true → OneOf xs n
one_found [] n e = absurd (false≢true e)
one_found (x ∷ xs) n e = or_cases (eqb n x) (is_one xs n) e (λ t. inl (eqb-true n x t)) (λ t. inr (one_found xs n t))

pub one_not : (xs : List ℕ) (n m : ℕ) → OneOf xs n → is_one xs m ≡ false → n ≢ m
one_not xs n m h e q = true≢false (sym (one_tested xs n h) ∙ ap (is_one xs) q ∙ e)

-- ---- a fault has one of these numbers

abbrev pub Only : List ℕ → Fault → Type 0
Only xs f = Every (λ (c : Cause). OneOf xs (cause_number c)) f

pub only_cause : (xs : List ℕ) (f : Fault) (b : Bool) (d : Cause) → Only xs f → OneOf xs (cause_number d) → Only xs (or_cause f b d)
only_cause xs f b d h o = every_turn (λ (c : Cause). OneOf xs (cause_number c)) f b d h (λ _ _. o)

pub only_more : (xs ys : List ℕ) (f : Fault) → Only xs f → Only (xs ++ ys) f
only_more xs ys f h c e = one_more xs ys (cause_number c) (h c e)

-- ---- the causes of the opening

unread_tested : (u : Unread) → is_one reading (cause_number (Unreadable u)) ≡ true
unread_tested Length = refl
unread_tested (RecordType p) = refl
unread_tested (Field p) = refl
unread_tested (MilestoneDemand p) = refl
unread_tested (Spare p) = refl
unread_tested (RepeatedArc p) = refl

pub unread_one : (u : Unread) → OneOf reading (cause_number (Unreadable u))
unread_one u = one_found reading (cause_number (Unreadable u)) (unread_tested u)

pub fault_only : (s : List ℕ) → Only opening (fault_of s)
fault_only s =
    every_open (λ (c : Cause). OneOf opening (cause_number c)) s (λ u _. one_more reading circles (cause_number (Unreadable u)) (unread_one u))
    (λ i _. one_after reading circles 5 (inl refl))
    (λ i _. one_after reading circles 6 (inr (inl refl)))
  where
    circles : List ℕ
    circles = 5 ∷ 6 ∷ []

-- and one cause more
then_only : (s : List ℕ) (b : Bool) (d : Cause) → Only (opening ++ cause_number d ∷ []) (or_cause (fault_of s) b d)
then_only s b d = only_cause (opening ++ cause_number d ∷ []) (fault_of s) b d (only_more opening (cause_number d ∷ []) (fault_of s) (fault_only s)) (one_last opening (cause_number d))

-- ---- the answers

pub output_by : (xs : List ℕ) (f : Fault) (v : ℕ) → Only xs f
    → ((r : ℕ) × (output_of f v ≡ Ok r)) ⊎ ((c : Cause) × (output_of f v ≡ Err c) × OneOf xs (cause_number c))
output_by xs (Ok _) v h = inl (v, refl)
output_by xs (Err c) v h = inr (c, refl, h c refl)

verdict_by_lem : (xs : List ℕ) (f : Fault) (m n : ℕ) → Only xs f
    → ((p : ℕ) × (q : ℕ) × (verdict_of f m n ≡ accepted p q)) ⊎ ((c : Cause) × (verdict_of f m n ≡ Err c) × OneOf xs (cause_number c))
verdict_by_lem xs (Ok _) m n h = inl (m, n, refl)
verdict_by_lem xs (Err c) m n h = inr (c, refl, h c refl)

checked_by : (xs : List ℕ) (f : Fault) (x : Checked) → Only xs f
    → ((y : Checked) × (checked_of f x ≡ Ok y)) ⊎ ((c : Cause) × (checked_of f x ≡ Err c) × OneOf xs (cause_number c))
checked_by xs (Ok _) x h = inl (x, refl)
checked_by xs (Err c) x h = inr (c, refl, h c refl)

pub kept : (f : Fault) (v : ℕ) (written out : List ℕ) (c : Cause) → output_of f v ≡ Err c → lent_after f written out ≡ out
kept f v written out c e = lent_refused f c written out (output_is_refused f v c e)

-- ---- the faults of the operations

verdict_only : (s : List ℕ) → Only (opening ++ 7 ∷ []) (verdict_fault s)
unfolding verdict_fault fault_of over_cause
verdict_only s = then_only s (is_overloaded (plan_in s)) (over_cause (plan_in s))

needs_only : (s : List ℕ) (n : ℕ) → Only (opening ++ 9 ∷ []) (needs_fault s n)
unfolding needs_fault
needs_only s n = then_only s (ltb n (plan_in s).kinds) (Short (plan_in s).kinds)

starts_only : (s : List ℕ) (n : ℕ) → Only (opening ++ 9 ∷ []) (starts_fault s n)
unfolding starts_fault
starts_only s n = then_only s (ltb n (needed s)) (Short (needed s))

overload_only : (s : List ℕ) (n : ℕ) → Only (opening ++ 9 ∷ []) (overload_fault s n)
unfolding overload_fault
overload_only s n = then_only s (ltb n 24) (Short 24)

-- of an operation on one kind, however much it needs
pub kind_only : (s : List ℕ) (kind n needed : ℕ) → Only (opening ++ 8 ∷ 9 ∷ 7 ∷ []) (kind_fault s kind n needed)
unfolding over_cause
kind_only s kind n needed =
    let M : List ℕ = 8 ∷ 9 ∷ 7 ∷ [] in
    let L : List ℕ = opening ++ M in
    only_cause L _ _ _
    (only_cause L _ _ _
    (only_cause L _ _ _ (only_more opening M (fault_of s) (fault_only s)) (one_after opening M 8 (inl refl)))
    (one_after opening M 9 (inr (inl refl))))
    (one_after opening M 7 (inr (inr (inl refl))))

flow_only : (s : List ℕ) (kind n : ℕ) → Only (opening ++ 8 ∷ 9 ∷ 7 ∷ []) (flow_fault s kind n)
unfolding flow_fault
flow_only s kind n = kind_only s kind n (flow_length (plan_in s).count)

crew_only : (s starts worked : List ℕ) → Only (opening ++ 10 ∷ []) (crew_check_fault s starts worked)
unfolding crew_check_fault
crew_only s starts worked = then_only s (bad_lists (plan_in s).count (plan_in s).duration starts worked) (Lists (plan_in s).count)

pub every_input : EveryInput ours
unfolding needs_out starts_out overload_out flow_out
every_input =
    record {
      verdict = λ s. verdict_by_lem (opening ++ 7 ∷ []) (verdict_fault s) (plan_in s).count (plan_in s).kinds (verdict_only s);
      needs = λ s n. output_by (opening ++ 9 ∷ []) (needs_fault s n) (plan_in s).kinds (needs_only s n);
      starts = λ s n. output_by (opening ++ 9 ∷ []) (starts_fault s n) (needed s) (starts_only s n);
      overload = λ s n. output_by (opening ++ 9 ∷ []) (overload_fault s n) (over_count (plan_in s)) (overload_only s n);
      flow = λ kind s n. output_by (opening ++ 8 ∷ 9 ∷ 7 ∷ []) (flow_fault s kind n) (flow_count (plan_in s) (kind - 1)) (flow_only s kind n);
      crew_check = λ s starts worked. checked_by (opening ++ 10 ∷ []) (crew_check_fault s starts worked) (crew_found s starts worked) (crew_only s starts worked);
      needs_kept = λ s out. kept (needs_fault s (length out)) (plan_in s).kinds (need_numbers s) out;
      starts_kept = λ s out. kept (starts_fault s (length out)) (needed s) (start_numbers s) out;
      overload_kept = λ s out. kept (overload_fault s (length out)) (over_count (plan_in s)) (over_bytes (plan_in s)) out;
      flow_kept = λ kind s out. kept (flow_fault s kind (length out)) (flow_count (plan_in s) (kind - 1)) (record_bytes (plan_in s) (kind - 1)) out;
    }
