-- Flow: its causes 8, 9 and 7 in their turn, and what it answers and writes.
use mathlib.Core.Path.{◌≡◌, ap, ◌∙◌}
use mathlib.Core.Bool.{true, false, not}
use mathlib.Core.List.{List}
use Prim.Native.Nat.{ℕ, ◌-◌, ◌≤◌, ◌<◌}
use native.Mathlib.Omega.{arith}
use lib.Dec.{ltb, leb}
use lib.ListN.{length}
use borrow.Author.Tests.{ltb-true, ltb-false, leb-true, not-false}
use Rattle.std.specs.Prelude.{Ok}
use Rattle.words.proofs.Firsts.{before_first}
use Rattle.words.proofs.Tests.{and_left, and_right}
use Rattle.records.specs.Bytes.{AreBytes}
use Rattle.records.specs.Records.{starting_with}
use Rattle.kinds.specs.model.Writing.{Lent, lent}
use Rattle.planner.specs.Faults.{Fault, is_fine, or_cause, or_short}
use Rattle.planner.specs.Open.{plan_in, fault_of, Opens}
use Rattle.planner.specs.Need.{available_for, need_for, over_kind, is_overloaded, over_cause, or_overloaded}
use Rattle.planner.specs.Flow.{is_kind, most_records, kind_fault, flow_fault, flow_count, record_bytes}
use Rattle.planner.specs.File.{flow_length}
use Rattle.planner.specs.model.Opening.{Held, opened_of, kind_fault_in}
use Rattle.planner.specs.model.Records.{FlowAsked, flow_put}
use Rattle.planner.specs.declared.Cause.TheVariants.{NoKind}
use Rattle.planner.proofs.FaultLaws.{cause_fine, cause_none, short_fine, short_none}
use Rattle.planner.proofs.OpenLaws.{count_few, count_within, goes_open}
use Rattle.planner.proofs.QuotedNeeds.{kinds_few, need_quoted, weighed_held}
use Rattle.planner.proofs.FlowUnits.{length_few, count_room, bounded_in, room_in, flow_put_lem}

-- ---- the kind

module _ (kind n : ℕ) where
  pub kind_within : is_kind kind n ≡ true → (0 < kind) × (kind ≤ n)
  kind_within e = (ltb-true 0 kind (and_left (ltb 0 kind) (leb kind n) e), leb-true kind n (and_right (ltb 0 kind) (leb kind n) e))

-- ---- the length

pub length_none : (m : ℕ) → m ≡ 0 → 24 ≡ flow_length m
unfolding flow_length
length_none m e = rw e

-- ---- when an operation on one kind goes on: n bytes are lent, and so many are needed

module _ (s : List ℕ) (kind n needed : ℕ) where
  -- the fault with 8 in its turn, and then 9
  abbrev pub known : Fault
  known = or_cause (fault_of s) (not (is_kind kind (plan_in s).kinds)) (NoKind (plan_in s).kinds)

  abbrev pub roomy : Fault
  roomy = or_short known n needed

  roomy_fine : is_fine roomy ≡ true → Opens s × (is_kind kind (plan_in s).kinds ≡ true) × (needed ≤ n)
  roomy_fine e =
      let r = short_fine known n needed e in
      let k = cause_fine (fault_of s) (not (is_kind kind (plan_in s).kinds)) (NoKind (plan_in s).kinds) r.0 in
      (k.0, not-false (is_kind kind (plan_in s).kinds) k.1, r.1)

  pub kind_fine : is_fine (kind_fault s kind n needed) ≡ true
      → Opens s × (is_kind kind (plan_in s).kinds ≡ true) × (needed ≤ n) × (is_overloaded (plan_in s) ≡ false)
  kind_fine e =
      let w = cause_fine roomy (is_overloaded (plan_in s)) (over_cause (plan_in s)) e in
      let r = roomy_fine w.0 in
      (r.0, r.1, r.2, w.1)

  pub fine_kind : Opens s → is_kind kind (plan_in s).kinds ≡ true → needed ≤ n → is_overloaded (plan_in s) ≡ false
      → kind_fault s kind n needed ≡ Ok tt
  fine_kind o k l e =
      let a = cause_none (fault_of s) (not (is_kind kind (plan_in s).kinds)) (NoKind (plan_in s).kinds) o (ap not k) in
      let r = short_none known n needed (ap is_fine a) l in
      cause_none roomy (is_overloaded (plan_in s)) (over_cause (plan_in s)) (ap is_fine r) e

-- ---- when Flow does

module _ (s : List ℕ) (kind n : ℕ) where
  pub flow_fine : is_fine (flow_fault s kind n) ≡ true
      → Opens s × (is_kind kind (plan_in s).kinds ≡ true) × (flow_length (plan_in s).count ≤ n) × (is_overloaded (plan_in s) ≡ false)
  unfolding flow_fault
  flow_fine = kind_fine s kind n (flow_length (plan_in s).count)

  pub fine_flow : Opens s → is_kind kind (plan_in s).kinds ≡ true → flow_length (plan_in s).count ≤ n → is_overloaded (plan_in s) ≡ false
      → flow_fault s kind n ≡ Ok tt
  unfolding flow_fault
  fine_flow = fine_kind s kind n (flow_length (plan_in s).count)

-- no kind needs more than there is
pub not_over : (s : List ℕ) → is_overloaded (plan_in s) ≡ false → (k : ℕ) → k < (plan_in s).kinds → need_for (plan_in s) k ≤ available_for (plan_in s) k
unfolding is_overloaded over_kind
not_over s e k h =
    let l = ltb-false (over_kind (plan_in s)) (plan_in s).kinds e in
    ltb-false (available_for (plan_in s) k) (need_for (plan_in s) k)
    (before_first (plan_in s).kinds (λ i. ltb (available_for (plan_in s) i) (need_for (plan_in s) i)) k (omega (arith, l)))

-- how many records a flow has then
pub records_few : (s : List ℕ) → AreBytes s → (kind n needed : ℕ) → is_fine (kind_fault s kind n needed) ≡ true → flow_count (plan_in s) (kind - 1) ≤ most_records
records_few s bytes kind n needed e =
    let w = kind_fine s kind n needed e in
    let k = kind_within kind (plan_in s).kinds w.1 in
    let h : kind - 1 < (plan_in s).kinds = omega (arith, k.0, k.1) in
    omega (arith, length_few (plan_in s).count (count_within s), count_room s bytes w.0 (kind - 1) (omega (arith, kinds_few s)) (not_over s w.3 (kind - 1) h))

pub flow_few : (s : List ℕ) → AreBytes s → (kind n : ℕ) → is_fine (flow_fault s kind n) ≡ true → flow_count (plan_in s) (kind - 1) ≤ most_records
unfolding flow_fault
flow_few s bytes kind n = records_few s bytes kind n (flow_length (plan_in s).count)

-- ---- what the code holds: `o` is the plan that was opened

module _ (s : List ℕ) (kind : ℕ) (out : List ℕ) (bytes : AreBytes s) {o : Held} (held : o ≡ opened_of s) where
  -- an operation on one kind of a plan that opens: 8, 9 and 7 in their turn
  pub kind_turns : Opens s → (n needed : ℕ) {f : Fault} → f ≡ kind_fault_in (Ok tt) o.order o.plan kind n needed
      → f ≡ kind_fault s kind n needed
  kind_turns opens n needed seven =
      weighed_held s held bytes second (λ _. opens) seven
      ∙ ap (λ (x : Held). or_overloaded
      (or_short (or_cause (Ok tt) (not (is_kind kind x.plan.kinds)) (NoKind x.plan.kinds)) n needed) (plan_in s)) held
      ∙ goes_open s opens (λ f. or_overloaded
      (or_short (or_cause f (not (is_kind kind (plan_in s).kinds)) (NoKind (plan_in s).kinds)) n needed) (plan_in s))
    where
      second : Fault
      second = or_short (or_cause (Ok tt) (not (is_kind kind o.plan.kinds)) (NoKind o.plan.kinds)) n needed

  -- Flow: `long` is the length needed
  pub flow_turns : Opens s → {long : ℕ} {f : Fault} → long ≡ flow_length o.plan.count
      → f ≡ kind_fault_in (Ok tt) o.order o.plan kind (length out) long
      → f ≡ flow_fault s kind (length out)
  unfolding flow_fault
  flow_turns opens {long} e seven =
      kind_turns opens (length out) long seven
      ∙ ap (λ (x : ℕ). kind_fault s kind (length out) x) (e ∙ ap (λ (x : Held). flow_length x.plan.count) held)

  module _ (e : is_fine (flow_fault s kind (length out)) ≡ true) where
    goes : Opens s × (is_kind kind (plan_in s).kinds ≡ true) × (flow_length (plan_in s).count ≤ length out) × (is_overloaded (plan_in s) ≡ false)
    goes = flow_fine s kind (length out) e

    within : (0 < kind) × (kind ≤ (plan_in s).kinds)
    within = kind_within kind (plan_in s).kinds goes.1

    pub positive : 0 < kind
    positive = within.0

    below : kind - 1 < 8
    below = omega (arith, within.0, within.1, kinds_few s)

    enough : need_for (plan_in s) (kind - 1) ≤ available_for (plan_in s) (kind - 1)
    enough = not_over s goes.3 (kind - 1) (omega (arith, within.0, within.1))

    -- what the writing of the flow asks
    pub flow_asked : FlowAsked o.order o.plan (kind - 1) out
    flow_asked =
        rw held (
          below,
          count_few s,
          bounded_in s bytes goes.0 (kind - 1) below,
          omega (arith, enough, need_quoted s bytes goes.0 (kind - 1) below),
          room_in s bytes goes.0 (kind - 1) below out enough goes.2,
        )

    -- the records are written
    pub written : {r : ℕ} {after : List ℕ} → lent r after ≡ flow_put o.order o.job o.plan (kind - 1) out
        → (r ≡ flow_count (plan_in s) (kind - 1)) × (after ≡ starting_with (record_bytes (plan_in s) (kind - 1)) out)
    written q =
        let put = (rw held at q) ∙ flow_put_lem s bytes goes.0 (kind - 1) below out in
        (ap (λ (l : Lent). l.count) put, ap (λ (l : Lent). l.out) put)
