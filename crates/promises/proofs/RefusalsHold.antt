-- Which answer when: ours.
use mathlib.Core.Path.{◌≡◌, refl, sym, ap, ◌∙◌}
use mathlib.Core.Bool.{Bool, true, cond}
use mathlib.Core.List.{List, [], ◌∷◌}
use Prim.Native.Nat.{ℕ, ◌+◌, ◌-◌, ◌≤◌}
use native.Mathlib.Omega.{arith}
use Rattle.std.specs.Prelude.{Ok, Err}
use Rattle.records.specs.Bytes.{AreBytes}
use Rattle.plan.specs.Meaning.{Readable, file_kinds}
use Rattle.plan.specs.Records.{activity_count}
use Rattle.plan.specs.Causes.{answer_of}
use Rattle.plan.specs.declared.Cause.{Cause as Unread}
use Rattle.planner.specs.Faults.{Fault}
use Rattle.planner.specs.Open.{plan_in, fault_of, Opens}
use Rattle.planner.specs.Numbers.{numbers_of}
use Rattle.planner.specs.Answers.{unread_numbers, verdict_numbers, output_numbers}
use Rattle.planner.specs.Output.{output_of}
use Rattle.planner.specs.Need.{is_overloaded, over_cause}
use Rattle.planner.specs.Verdict.{verdict_fault, verdict_of, verdict_answer}
use Rattle.planner.specs.Needs.{needs_fault}
use Rattle.planner.specs.Starts.{needed, starts_fault}
use Rattle.planner.specs.Overload.{overload_fault, over_count}
use Rattle.planner.specs.Flow.{is_kind, kind_fault, flow_fault, flow_count, flow_answer}
use Rattle.planner.specs.File.{flow_length}
use Rattle.planner.specs.declared.Cause.{Cause}
use Rattle.planner.specs.declared.Cause.TheVariants.{Unreadable, NoKind, Short}
use Rattle.planner.proofs.FaultLaws.{cause_next, short_next, short_none, Every}
use Rattle.planner.proofs.OpenLaws.{opens_readable, every_open, unread_apart}
use Rattle.planner.proofs.QuotedNeeds.{count_in, kinds_in}
use Rattle.planner.proofs.SheetFaults.{is_kind_lem, not_kind, kind_none, kind_short, kind_over}
use Rattle.planner.proofs.FileOrders.{opens_when}
use Rattle.promises.specs.Ours.{ours}
use Rattle.promises.specs.EveryInput.{OneOf, reading}
use Rattle.promises.specs.Paper.{SomeGives}
use Rattle.promises.specs.PriceList.{Exceeds, Enough}
use Rattle.promises.specs.Refusals.{Unreadables, Refusals, RefusalSentence}
use Rattle.promises.proofs.EveryInputHolds.{one_more, one_not, unread_one}
use Rattle.promises.proofs.CircleFaults.{unreadable_means, means_unreadable}
use Rattle.promises.proofs.OverloadShown.{over_when, enough_not}
use Rattle.promises.proofs.CircleCauses.{every_gives, fault_gives, heads}

-- ---- the reader's causes

-- a fault of the file with such a number is the reader's
is_unread : (s : List ℕ) (n : ℕ) (values : List ℕ) → OneOf reading n → Every (λ (c : Cause). numbers_of c ≡ n ∷ values → (u : Unread) × (c ≡ Unreadable u)) (fault_of s)
is_unread s n values h =
    every_open (λ (c : Cause). numbers_of c ≡ n ∷ values → (u : Unread) × (c ≡ Unreadable u)) s (λ u _ e. (u, refl))
    (λ i _ e. absurd (one_not reading n 5 h refl (sym (heads e))))
    (λ i _ e. absurd (one_not reading n 6 h refl (sym (heads e))))

pub unreadables : (s : List ℕ) → Unreadables ours s
unreadables s =
    record {
      every = λ u e. every_gives s (Unreadable u) (means_unreadable s u e);
      some = λ n values one g.
          let w = fault_gives n values (one_more reading (5 ∷ 6 ∷ []) n one) s g in
          let v = is_unread s n values one w.0 w.1 w.2 in
          (v.0, unreadable_means s v.0 (w.1 ∙ ap Err v.1), sym (ap numbers_of v.1) ∙ w.2);
    }

-- and where an operation answers by the numbers of a cause, that is what the reader finds
pub unread_given : (s : List ℕ) (u : Unread) → SomeGives ours s (unread_numbers u) → answer_of s ≡ Err u
unread_given s u g =
    let w = (unreadables s).some _ _ (unread_one u) g in
    w.1 ∙ ap Err (unread_apart w.0 u w.2)

-- ---- the other causes, of a plan that opens

pub given : (f : Fault) (v : ℕ) (c : Cause) → f ≡ Err c → output_numbers (output_of f v) ≡ numbers_of c
given f v c e = ap (λ (x : Fault). output_numbers (output_of x v)) e

done : (f : Fault) (v : ℕ) → f ≡ Ok tt → output_numbers (output_of f v) ≡ 0 ∷ v ∷ []
done f v e = ap (λ (x : Fault). output_numbers (output_of x v)) e

pub two : (x : ℕ) {a b : ℕ} → a ≡ b → ◌≡◌ {A = List ℕ} (x ∷ a ∷ []) (x ∷ b ∷ [])
two x e = ap (λ (y : ℕ). x ∷ y ∷ []) e

module _ (s : List ℕ) (small : AreBytes s) (o : Opens s) where
  readable : Readable s
  readable = opens_readable s o

  m : (plan_in s).count ≡ activity_count s
  m = count_in s readable

  K : (plan_in s).kinds ≡ file_kinds s
  K = kinds_in s readable

  overloads : (k : ℕ) → Exceeds ours s k → over_count (plan_in s) ≡ 1
  unfolding over_count
  overloads k x = ap (λ (b : Bool). cond b 1 0) (over_when s small o k x)

  overloads_none : Enough ours s → over_count (plan_in s) ≡ 0
  unfolding over_count
  overloads_none en = ap (λ (b : Bool). cond b 1 0) (enough_not s small o en)

  -- ---- Flow

  pub there : (kind : ℕ) → 1 ≤ kind → kind ≤ file_kinds s → is_kind kind (plan_in s).kinds ≡ true
  there kind p q = is_kind_lem kind (plan_in s).kinds p (omega (arith, q, K))

  -- 8, 9 and 7 in their turn
  flow_gives : (kind n : ℕ) (c : Cause) → kind_fault s kind n (flow_length (plan_in s).count) ≡ Err c → output_numbers (flow_answer s kind n) ≡ numbers_of c
  unfolding flow_fault
  flow_gives kind n c e = given (flow_fault s kind n) (flow_count (plan_in s) (kind - 1)) c e

  -- Verdict's 7
  pub seven : is_overloaded (plan_in s) ≡ true → verdict_numbers (verdict_answer s) ≡ numbers_of (over_cause (plan_in s))
  unfolding verdict_fault fault_of
  seven t = ap (λ (f : Fault). verdict_numbers (verdict_of f (plan_in s).count (plan_in s).kinds)) (cause_next (fault_of s) (is_overloaded (plan_in s)) (over_cause (plan_in s)) o t)

  pub refusals_open : Refusals ours s
  unfolding needs_fault starts_fault overload_fault
  refusals_open =
      record {
        needs_short = λ n h.
            given (needs_fault s n) (plan_in s).kinds (Short (plan_in s).kinds) (short_next (fault_of s) n (plan_in s).kinds o (omega (arith, h, K))) ∙ two 9 K;
        needs = λ n h. done (needs_fault s n) (plan_in s).kinds (short_none (fault_of s) n (plan_in s).kinds o (omega (arith, h, K))) ∙ two 0 K;
        starts_short = λ n h.
            given (starts_fault s n) (needed s) (Short (needed s)) (short_next (fault_of s) n (needed s) o (omega (arith, h, m))) ∙ two 9 (ap (λ (x : ℕ). x + 1) m);
        starts = λ n h. done (starts_fault s n) (needed s) (short_none (fault_of s) n (needed s) o (omega (arith, h, m))) ∙ two 0 (ap (λ (x : ℕ). x + 1) m);
        overload_short = λ n h. given (overload_fault s n) (over_count (plan_in s)) (Short 24) (short_next (fault_of s) n 24 o h);
        overload = λ n h k x. done (overload_fault s n) (over_count (plan_in s)) (short_none (fault_of s) n 24 o h) ∙ two 0 (overloads k x);
        overload_none = λ n h en. done (overload_fault s n) (over_count (plan_in s)) (short_none (fault_of s) n 24 o h) ∙ two 0 (overloads_none en);
        flow_no_kind = λ kind n never.
            flow_gives kind n (NoKind (plan_in s).kinds)
            (kind_none s kind n (flow_length (plan_in s).count) o (not_kind kind (plan_in s).kinds (λ w. never (w.0, omega (arith, w.1, K)))))
            ∙ two 8 K;
        flow_short = λ kind n p r h.
            flow_gives kind n (Short (flow_length (plan_in s).count)) (kind_short s kind n (flow_length (plan_in s).count) o (there kind p r) (rw m h)) ∙ two 9 (ap flow_length m);
        flow_overloaded = λ kind n p r h k x.
            let t = over_when s small o k x in
            flow_gives kind n (over_cause (plan_in s)) (kind_over s kind n (flow_length (plan_in s).count) o (there kind p r) (rw m h) t) ∙ sym (seven t);
      }

pub refusals : RefusalSentence ours
refusals s small = (unreadables s, λ r free. refusals_open s small ((opens_when s).1 (r, free)))
