-- THE PRICE-LIST SENTENCE DOES NOT HOLD OF THE HOLLOW PLANNERS: on plan A or plan C each
-- gives an answer that it forbids.
use mathlib.Core.Path.{◌≡◌, refl, sym, ap, ◌∙◌, subst}
use mathlib.Core.Bool.{Bool, true, false, ◌&&◌}
use mathlib.Core.List.{List, [], ◌∷◌}
use Prim.Native.Nat.{ℕ, zero, suc, ◌+◌, ◌≤◌, ◌<◌}
use native.Mathlib.Omega.{arith}
use lib.Dec.{ltb}
use lib.ListN.{length, get_or, replicate, length-replicate}
use borrow.Author.Tests.{ltb-true}
use Rattle.std.specs.Prelude.{Ok, Err}
use Rattle.words.specs.Bits.{digit, bit}
use Rattle.words.specs.Sums.{sum}
use Rattle.words.specs.Tables.{table}
use Rattle.words.proofs.Sums.{sum_zero}
use Rattle.words.proofs.Tables.{get_d_table, length_table}
use Rattle.words.proofs.Tests.{clash, and_left, and_right}
use Rattle.order.specs.Before.{Acyclic}
use Rattle.order.specs.Stored.{row, row_table, cells}
use Rattle.order.specs.Rows.{grow, arcs_from, arcs_in}
use Rattle.order.specs.Orders.{extended, order_of, order_in, joined_rows}
use Rattle.records.specs.Bytes.{AreBytes, field}
use Rattle.plan.specs.Records.{activity_count, leading}
use Rattle.plan.specs.Meaning.{Readable, FileArc, file_demand, file_kinds, file_available}
use Rattle.flow_math.specs.Heaviest.{heaviest, need_of}
use Rattle.kinds.specs.Needs.{demands_for}
use Rattle.kinds.specs.Reading.{units_read}
use Rattle.planner.specs.Faults.{Fault, is_fine, or_cause}
use Rattle.planner.specs.Results.{Decision, accepted}
use Rattle.planner.specs.Open.{plan_in, fault_of}
use Rattle.planner.specs.Output.{output_of, lent_after}
use Rattle.planner.specs.Need.{available_for, need_for}
use Rattle.planner.specs.Verdict.{verdict_of}
use Rattle.planner.specs.Needs.{needs_fault}
use Rattle.planner.specs.Flow.{flow_fault}
use Rattle.planner.specs.File.{flow_length}
use Rattle.planner.specs.declared.Cause.{Cause}
use Rattle.planner.proofs.FaultLaws.{fine_is, short_none}
use Rattle.planner.proofs.OutputLaws.{output_is_fine, lent_front}
use Rattle.planner.proofs.QuotedNeeds.{kinds_in, kind_in, available_in_lem}
use Rattle.planner.proofs.FileOrders.{opens_when}
use Rattle.promises.specs.Planner.{Planner}
use Rattle.promises.specs.Ours.{ours}
use Rattle.promises.specs.PriceList.{quoted_need, PriceList, PriceListSentence}
use Rattle.promises.specs.Cases.{plan_a, plan_c}
use Rattle.promises.specs.Hollow.{refuses_all, accepts_all, empty_flow, available_as_need, unordered, seven_unweighed, one_demand}
use Rattle.promises.specs.Hollow.{Refuses, RefusesAll, AcceptsAll, EmptyFlows, NeedIsAvailable, Unweighed, HollowFail, HollowPlannersFail}
use Rattle.promises.proofs.PriceListHolds.{price_list}
use Rattle.promises.proofs.DemandsHold.{same_need}
use Rattle.promises.proofs.CasePlans.{all_opened}
use Rattle.promises.proofs.CasesHold.{needs_left}

-- ---- lists of bytes, by a test

abbrev all_small : List ℕ → Bool
all_small [] = true
all_small (b ∷ bs) = ltb b 256 && all_small bs

are_bytes : (l : List ℕ) → all_small l ≡ true → AreBytes l
are_bytes [] e i = omega arith
are_bytes (b ∷ bs) e zero = ltb-true b 256 (and_left (ltb b 256) (all_small bs) e)
are_bytes (b ∷ bs) e (suc i) = are_bytes bs (and_right (ltb b 256) (all_small bs) e) i

-- ---- what computes: the plans A and C have no fault, one kind with 4 available, and equal activities and crew; A needs 4 and C needs 8

record Computes : Type 0 where
  a_fault : fault_of plan_a ≡ Ok tt
  c_fault : fault_of plan_c ≡ Ok tt
  a_kinds : file_kinds plan_a ≡ 1
  c_kinds : file_kinds plan_c ≡ 1
  a_available : file_available plan_a 0 ≡ 4
  c_available : file_available plan_c 0 ≡ 4
  a_need : quoted_need ours plan_a 0 ≡ 4
  c_need : quoted_need ours plan_c 0 ≡ 8
  a_count : activity_count plan_a ≡ 4
  a_demand : file_demand plan_a 0 0 ≡ 2
  a_room : flow_length (activity_count plan_a) ≡ 360
  alike : unordered plan_a ≡ unordered plan_c

computes : Computes
unfolding digit bit table row row_table cells grow arcs_from arcs_in extended order_of order_in joined_rows field leading file_demand file_kinds file_available heaviest need_of demands_for lent_after need_for flow_length
computes =
    record {
      a_fault = all_opened.a.fault;
      c_fault = all_opened.c.fault;
      a_kinds = refl;
      c_kinds = refl;
      a_available = refl;
      c_available = refl;
      a_need = ap (λ (l : List ℕ). get_or l 0 0) (needs_left all_opened.a (0 ∷ []));
      c_need = ap (λ (l : List ℕ). get_or l 0 0) (needs_left all_opened.c (0 ∷ []));
      a_count = refl;
      a_demand = refl;
      a_room = refl;
      alike = refl;
    }

-- ---- what a planner says of a plan without a fault, by the sentence

abbrev Readies : List ℕ → Type 0
Readies s = AreBytes s × Readable s × Acyclic (FileArc s)

ready : (s : List ℕ) → all_small s ≡ true → fault_of s ≡ Ok tt → Readies s
ready s e f = let w = (opens_when s).0 (ap is_fine f) in (are_bytes s e, w.0, w.1)

a_ready : Readies plan_a
a_ready = ready plan_a refl computes.a_fault

c_ready : Readies plan_c
c_ready = ready plan_c refl computes.c_fault

not_both : (d : Decision) (m n : ℕ) (c : Cause) → d ≡ accepted m n → d ≡ Err c → ⊥
not_both d m n c p q = let z : ◌≡◌ {A = ℕ} 0 1 = cc in omega arith

-- no record, no units
none_read : (n : ℕ) (out : List ℕ) → sum n (λ u. units_read 0 out u 1) ≡ 0
unfolding units_read
none_read n out = sum_zero n (λ u. units_read 0 out u 1) (λ i h. refl)

module _ (P : Planner) (p : PriceListSentence P) where
  a_said : PriceList P plan_a
  a_said = p plan_a a_ready.0 a_ready.1 a_ready.2

  c_said : PriceList P plan_c
  c_said = p plan_c c_ready.0 c_ready.1 c_ready.2

  -- whoever meets the sentence quotes what ours quotes
  a_need : quoted_need P plan_a 0 ≡ 4
  a_need = same_need P ours plan_a a_said (price_list plan_a a_ready.0 a_ready.1 a_ready.2) 0 (omega (arith, computes.a_kinds)) ∙ computes.a_need

  c_need : quoted_need P plan_c 0 ≡ 8
  c_need = same_need P ours plan_c c_said (price_list plan_c c_ready.0 c_ready.1 c_ready.2) 0 (omega (arith, computes.c_kinds)) ∙ computes.c_need

  -- A is enough: it has one kind
  a_enough : (k : ℕ) → k < file_kinds plan_a → quoted_need P plan_a k ≤ file_available plan_a k
  a_enough k h =
      let z : 0 ≡ k = omega (arith, h, computes.a_kinds) in
      let e : quoted_need P plan_a 0 ≤ file_available plan_a 0 = omega (arith, a_need, computes.a_available) in
      subst (λ (x : ℕ). quoted_need P plan_a x ≤ file_available plan_a x) z e

  a_kept : Refuses P plan_a → ⊥
  a_kept r = let x = a_said.refuses.0 r in omega (arith, x.1.1, a_enough x.0 x.1.0)

  c_refused : Refuses P plan_c
  c_refused = c_said.refuses.1 (0, (omega (arith, computes.c_kinds), omega (arith, c_need, computes.c_available)))

  -- nothing goes into activity 1 of A
  a_flows : EmptyFlows P → ⊥
  a_flows empty =
      let out : List ℕ = replicate 360 0 in
      let w = a_said.flows a_enough 0 (omega (arith, computes.a_kinds)) out (omega (arith, computes.a_room)) in
      let z = empty plan_a 1 (length out) w.0 w.1 in
      let F = a_said.meets 0 out 0 (w.1 ∙ ap Ok z) in
      omega (arith, F.into 0 (omega (arith, computes.a_count)), none_read (activity_count plan_a + 2) ((P.flow 1).left plan_a out), computes.a_demand)

pub hollow_fail : HollowFail
hollow_fail =
    record {
      refusing_all = λ P all p. a_kept P p (all plan_a);
      accepting_all = λ P all p.
          let r = c_refused P p in
          let a = all plan_c c_ready.1 c_ready.2 in
          not_both (P.verdict plan_c) a.0 a.1 r.0 a.2 r.1;
      empty_flows = λ P empty p. a_flows P p empty;
      available_needs = λ P is p.
          omega (arith, c_need P p, is plan_c c_ready.1 c_ready.2 0 (omega (arith, computes.c_kinds)), computes.c_available);
      unweighed_seven = λ P alike p.
          a_kept P p (alike plan_c plan_a c_ready.1 c_ready.2 a_ready.1 a_ready.2 (sym computes.alike) (c_refused P p));
    }

-- ---- the five planners have these properties

by_true : (f : Fault) (c : Cause) (m n : ℕ) → (d : Cause) × (verdict_of (or_cause f true c) m n ≡ Err d)
by_true (Ok _) c m n = (c, refl)
by_true (Err d) c m n = (d, refl)

opened : (s : List ℕ) → Readable s → Acyclic (FileArc s) → fault_of s ≡ Ok tt
opened s r free = fine_is (fault_of s) ((opens_when s).1 (r, free))

all_accepted : AcceptsAll accepts_all
all_accepted s r free = ((plan_in s).count, (plan_in s).kinds, ap (λ (f : Fault). verdict_of f (plan_in s).count (plan_in s).kinds) (opened s r free))

no_records : (f : Fault) (r : ℕ) → output_of f 0 ≡ Ok r → r ≡ 0
no_records f r e = sym (output_is_fine f r 0 e).1

room_fine : (s : List ℕ) (n : ℕ) → fault_of s ≡ Ok tt → (plan_in s).kinds ≤ n → needs_fault s n ≡ Ok tt
unfolding needs_fault
room_fine s n f h = short_none (fault_of s) n (plan_in s).kinds (ap is_fine f) h

available_written : NeedIsAvailable available_as_need
available_written s r free k h =
    let n : ℕ = length {A = ℕ} (replicate (file_kinds s) 0) in
    let f : needs_fault s n ≡ Ok tt = room_fine s n (opened s r free) (omega (arith, length-replicate {A = ℕ} (file_kinds s) 0, kinds_in s r)) in
    let l : k < (plan_in s).kinds = omega (arith, h, kinds_in s r) in
    lent_front (needs_fault s n) (table (plan_in s).kinds (available_for (plan_in s))) (replicate (file_kinds s) 0) f k
    (omega (arith, l, length_table (plan_in s).kinds (available_for (plan_in s))))
    ∙ get_d_table (plan_in s).kinds (available_for (plan_in s)) k 0 l
    ∙ available_in_lem s r k (kind_in s r h)

unweighed : (test : List ℕ → Bool) (seven : List ℕ → Cause) → Unweighed (seven_unweighed test seven)
unweighed test seven s t rs fs rt ft e w =
    go (test (unordered s)) (test (unordered t)) (ap test e) (sym (ap (λ (f : Fault). verdict_of (or_cause f (test (unordered s)) (seven s)) (plan_in s).count (plan_in s).kinds) (opened s rs fs)) ∙ w.1)
    (ap (λ (f : Fault). verdict_of (or_cause f (test (unordered t)) (seven t)) (plan_in t).count (plan_in t).kinds) (opened t rt ft))
  where
    go : (a b : Bool) → a ≡ b → verdict_of (or_cause (Ok tt) a (seven s)) (plan_in s).count (plan_in s).kinds ≡ Err w.0
        → (seven_unweighed test seven).verdict t ≡ verdict_of (or_cause (Ok tt) b (seven t)) (plan_in t).count (plan_in t).kinds
        → Refuses (seven_unweighed test seven) t
    go a true p q r = (seven t, r)
    go true false p q r = clash refl p
    go false false p q r = absurd (not_both (accepted (plan_in s).count (plan_in s).kinds) (plan_in s).count (plan_in s).kinds w.0 refl q)

pub hollow_planners_fail : HollowPlannersFail
hollow_planners_fail =
    record {
      refusing_all = λ seven.
          let all : RefusesAll (refuses_all seven) = λ s. by_true (fault_of s) (seven s) (plan_in s).count (plan_in s).kinds in
          hollow_fail.refusing_all (refuses_all seven) all;
      accepting_all = hollow_fail.accepting_all accepts_all all_accepted;
      empty_flows = let empty : EmptyFlows empty_flow = λ s kind n r e. no_records (flow_fault s kind n) r e in hollow_fail.empty_flows empty_flow empty;
      available_needs = hollow_fail.available_needs available_as_need available_written;
      unweighed_seven = λ test seven. hollow_fail.unweighed_seven (seven_unweighed test seven) (unweighed test seven);
      seven_of_one_demand = λ seven. hollow_fail.unweighed_seven (seven_unweighed one_demand seven) (unweighed one_demand seven);
    }
