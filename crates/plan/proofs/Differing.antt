-- Files that differ only in waits are read alike: `only_in_waits`.
use mathlib.Core.Path.{◌≡◌, sym, ap, ap₂, ◌∙◌}
use mathlib.Core.Bool.{Bool, true, not, cond}
use mathlib.Core.List.{List}
use mathlib.Core.Logic.{⊎_elim, ◌↔◌, ◌≢◌}
use Prim.Native.Nat.{ℕ, ◌+◌, ◌-◌, ◌*◌, ◌/◌, ◌%◌, ◌≤◌, ◌<◌}
use native.Mathlib.Decide.{dec_lt}
use native.Mathlib.Omega.{arith}
use lib.Seq.{slice}
use lib.Dec.{eqb, ltb}
use borrow.Author.Tests.{ltb-true, eqb-true}
use Rattle.words.proofs.Firsts.{some_cong}
use Rattle.words.proofs.Tests.{cond_cong}
use Rattle.words.proofs.Tables.{table_same}
use Rattle.records.specs.Bytes.{byte, field, zeros}
use Rattle.records.proofs.Fields.{field_same}
use Rattle.order.specs.Stored.{elements}
use Rattle.std.specs.Prelude.{Ok}
use Rattle.plan.specs.declared.Cause.TheVariants.{RecordType, Field, Spare, RepeatedArc}
use Rattle.plan.specs.Records.{record_at, record_count, type_at, leading, activity_count, job_count, due_type, activity_fields, demand_in, demands_some, demands_of, crew_fields, crew_spare, arc_fields, arc_spare, same_pair, arc_repeats}
use Rattle.plan.specs.Causes.{Answer, rule, is_readable, activity_cause, crew_cause, arc_cause, cause_at, first_refusal, records_cause, answer_of}
use Rattle.plan.specs.Meaning.{Names, file_duration, file_demand, file_kinds, file_available, JobArc, ExtraArc}
use Rattle.plan.specs.Differing.{OnlyInWaits}
use Rattle.plan.specs.model.Plans.{plan_of}
use Rattle.plan.specs.model.Reads.{read_of}
use Rattle.plan.proofs.Refusals.{refusal_cong}
use Rattle.plan.proofs.Places.{record_on, leading_same}
use Rattle.plan.proofs.RecordRules.{zeros_same, rule_kept, rule_before, rule_same, at_activity, at_crew, at_arc}
use Rattle.plan.proofs.Parts.{activity_typed, crew_fine}
use Rattle.plan.proofs.Phases.{reading, reading_cong}
use Rattle.plan.proofs.Said.{readable_faultless, plan_same}

-- ---- RECORDS WITH THE SAME BYTES keep the same rules

abbrev pub SameBytes : List ℕ → List ℕ → Type 0
SameBytes q r = (b : ℕ) → b < 24 → byte q b ≡ byte r b

module _ (q r : List ℕ) (same : SameBytes q r) where
  -- fields of two bytes, and spare bytes
  pub two_same : (i : ℕ) → i ≤ 22 → field q i 2 ≡ field r i 2
  two_same i h = field_same q r i 2 (λ k l. same (i + k) (omega arith))

  spare_same : (a b : ℕ) → b ≤ 24 → zeros (slice a b q) ≡ zeros (slice a b r)
  spare_same a b h = zeros_same q r a b (λ i lo hi. same i (omega arith))

  some_demands : demands_some q ≡ demands_some r
  unfolding demands_some
  some_demands = some_cong 8 _ _ (λ k l. ap (ltb 0) (two_same (4 + 2 * k) (omega arith)))

  pub activity_same : (place : ℕ) → activity_cause place q ≡ activity_cause place r
  unfolding activity_cause activity_fields
  activity_same place = rw (same 1 (omega arith), two_same 2 (omega arith), some_demands, spare_same 20 24 (omega arith))

  crew_fields_lem : (demand : List ℕ) → crew_fields demand q ≡ crew_fields demand r
  unfolding crew_fields
  crew_fields_lem demand = rw (same 1 (omega arith), spare_same (4 + 2 * byte r 1) 20 (omega arith))

  crew_spare_lem : crew_spare q ≡ crew_spare r
  crew_spare_lem = rw (spare_same 2 4 (omega arith), spare_same 20 24 (omega arith))

-- the crew record is asked for more than its type only where it has that
pub crew_same : (place : ℕ) (demand q r : List ℕ) → byte q 0 ≡ byte r 0 → (byte q 0 ≡ 2 → SameBytes q r) → crew_cause place demand q ≡ crew_cause place demand r
unfolding crew_cause
crew_same place demand q r typed same =
    rule_same (Spare place)
    (rule_same (Field place) (ap (λ (b : ℕ). rule (Ok tt) (eqb b 2) (RecordType place)) typed)
    (λ e. crew_fields_lem q r (crewed e) demand))
    (λ e. crew_spare_lem q r (crewed (rule_before _ _ _ e)))
  where
    crewed : is_readable (rule (Ok tt) (eqb (byte q 0) 2) (RecordType place)) ≡ true → SameBytes q r
    crewed e = same (eqb-true (byte q 0) 2 (rule_kept _ _ _ e))

-- ---- RECORDS WITH THE SAME BYTES BUT FOR THE WAIT keep the same rules of arcs, and name the same arcs

abbrev pub SameButWait : List ℕ → List ℕ → Type 0
SameButWait q r = (b : ℕ) → b < 24 → b ≢ 4 → b ≢ 5 → byte q b ≡ byte r b

module _ (q r : List ℕ) (same : SameButWait q r) where
  -- the type and the ends
  front : (b : ℕ) → b < 4 → byte q b ≡ byte r b
  front b l = same b (omega arith) (λ e. omega arith) (λ e. omega arith)

  arc_spare_lem : arc_spare q ≡ arc_spare r
  arc_spare_lem =
      rw (
        zeros_same q r 3 4 (λ i lo hi. front i hi),
        zeros_same q r 6 24 (λ i lo hi. same i hi (λ e. omega arith) (λ e. omega arith)),
      )

  pub arc_same : (type place m : ℕ) → arc_cause type place m q ≡ arc_cause type place m r
  unfolding arc_cause arc_fields
  arc_same type place m = rw (front 0 (omega arith), front 1 (omega arith), front 2 (omega arith), arc_spare_lem)

-- each record of two files is so
abbrev AlikeButWaits : List ℕ → List ℕ → Type 0
AlikeButWaits s t = (p : ℕ) → SameButWait (record_at s p) (record_at t p)

-- whether an earlier record names the pair, and what the first n records name
repeats_same : (s t : List ℕ) → AlikeButWaits s t → (p : ℕ) → arc_repeats s p ≡ arc_repeats t p
unfolding arc_repeats
repeats_same s t same p = some_cong p _ _ (λ x l. pair x)
  where
    at : (x b : ℕ) → b < 4 → byte (record_at s x) b ≡ byte (record_at t x) b
    at x = front (record_at s x) (record_at t x) (same x)

    pair : (x : ℕ) → same_pair (record_at s x) (record_at s p) ≡ same_pair (record_at t x) (record_at t p)
    pair x = rw (at x 0 (omega arith), at x 1 (omega arith), at x 2 (omega arith), at p 0 (omega arith), at p 1 (omega arith), at p 2 (omega arith))

names_on : (s t : List ℕ) → AlikeButWaits t s → (n k type i j : ℕ) → n ≡ k → Names s n type i j → Names t k type i j
names_on s t same n k type i j e h =
    let at = front (record_at t h.place) (record_at s h.place) (same h.place) in
    record {
      place = h.place;
      there = omega (arith, h.there);
      typed = at 0 (omega arith) ∙ h.typed;
      from = at 1 (omega arith) ∙ h.from;
      to = at 2 (omega arith) ∙ h.to;
    }

-- ---- FILES THAT DIFFER ONLY IN WAITS

module _ (s t : List ℕ) (W : OnlyInWaits s t) where
  -- no record differs but in its wait
  most : AlikeButWaits s t
  most p b l four five = W.same p b l (λ w. ⊎_elim four five w.1)

  typed : (p : ℕ) → type_at s p ≡ type_at t p
  typed p = front (record_at s p) (record_at t p) (most p) 0 (omega arith)

  -- and one that is no arc not at all
  whole : (p : ℕ) → type_at s p < 3 → SameBytes (record_at s p) (record_at t p)
  whole p h b l = W.same p b l (λ w. ⊎_elim (λ e. omega arith) (λ e. omega arith) w.0)

  whole_activity : (p : ℕ) → p < activity_count s → SameBytes (record_at s p) (record_at t p)
  whole_activity p l = whole p (omega (arith, activity_typed s p l))

  -- ---- where the records stand

  records : record_count s ≡ record_count t
  records = ap (λ (n : ℕ). n / 24) W.long

  count : activity_count s ≡ activity_count t
  count = leading_same 1 (record_count s) s t typed ∙ ap (λ (n : ℕ). leading 1 n t) records

  jobs : job_count s ≡ job_count t
  jobs =
      let a : ℕ = activity_count s + 1 in
      leading_same 3 (record_count s - a) (record_at s a) (record_at t a) (λ i. rw (record_on s a i, record_on t a i) (typed (a + i)))
      ∙ ap₂ (λ (n m : ℕ). leading 3 (n - (m + 1)) (record_at t (m + 1))) records count

  due : (p : ℕ) → due_type s p ≡ due_type t p
  due p = ap₂ (λ (m j : ℕ). cond (ltb p (m + 1 + j)) 3 4) count jobs

  -- ---- the causes: an activity's and the crew's, as they have no wait, and an arc's, as no rule goes by its wait

  demands : demands_of s ≡ demands_of t
  unfolding demands_of
  demands =
      table_same (8 * elements) _ _
      (λ x l.
      let i : ℕ = x % elements in
      let k : ℕ = x / elements in
      cond_cong (ltb i (activity_count s)) (demand_in (record_at s i) k) (demand_in (record_at t i) k)
      (λ b. two_same (record_at s i) (record_at t i) (whole_activity i (ltb-true i (activity_count s) b)) (4 + 2 * k) (omega arith))
      ∙ ap (λ (m : ℕ). cond (ltb i m) (demand_in (record_at t i) k) 0) count)

  cause : (p : ℕ) → cause_at s p ≡ cause_at t p
  cause p = go (dec_lt p (activity_count s)) (dec_lt (activity_count s) p)
    where
      q : List ℕ
      q = record_at s p

      r : List ℕ
      r = record_at t p

      crew : crew_cause p (demands_of s) q ≡ crew_cause p (demands_of t) r
      crew = ap (λ (d : List ℕ). crew_cause p d q) demands ∙ crew_same p (demands_of t) q r (typed p) (λ e. whole p (omega arith))

      own : arc_cause (due_type s p) p (activity_count s) q ≡ arc_cause (due_type t p) p (activity_count t) r
      own = ap₂ (λ (d m : ℕ). arc_cause d p m q) (due p) count ∙ arc_same q r (most p) (due_type t p) p (activity_count t)

      go : Dec (p < activity_count s) → Dec (activity_count s < p) → cause_at s p ≡ cause_at t p
      go (yes l) d = at_activity s p l ∙ activity_same q r (whole_activity p l) p ∙ sym (at_activity t p (omega (arith, count)))
      go (no l) (no h) = at_crew s p (omega arith) ∙ crew ∙ sym (at_crew t p (omega (arith, count)))
      go (no l) (yes h) =
          at_arc s p h
          ∙ ap₂ (λ (a : Answer) (b : Bool). rule a (not b) (RepeatedArc p)) own (repeats_same s t most p)
          ∙ sym (at_arc t p (omega (arith, count)))

  answers : answer_of s ≡ answer_of t
  unfolding answer_of records_cause
  answers =
      let first : first_refusal (record_count s) (cause_at s) ≡ first_refusal (record_count t) (cause_at t) =
      refusal_cong (record_count s) (cause_at s) (cause_at t) (λ p l. cause p) ∙ ap (λ (n : ℕ). first_refusal n (cause_at t)) records in
      rw (first, count, W.long)

  -- ---- the plan, which holds no waits

  arcs : (type i j : ℕ) → Names s (record_count s) type i j ↔ Names t (record_count t) type i j
  arcs type i j = (
    names_on s t (λ p b l four five. sym (most p b l four five)) (record_count s) (record_count t) type i j records,
    names_on t s most (record_count t) (record_count s) type i j (sym records),
  )

  plans : is_readable (answer_of t) ≡ true → plan_of s ≡ plan_of t
  unfolding file_kinds file_duration file_demand file_available JobArc ExtraArc
  plans f =
      let e = ap is_readable answers ∙ f in
      let m : ℕ = activity_count s in
      let crew : SameBytes (record_at s m) (record_at t m) = whole m (omega (arith, (crew_fine s (readable_faultless s e)).typed)) in
      plan_same s t e f count
      (crew 1 (omega arith) ∙ ap (λ (x : ℕ). byte (record_at t x) 1) count)
      (λ i l. two_same (record_at s i) (record_at t i) (whole_activity i l) 2 (omega arith))
      (λ k i b l. two_same (record_at s i) (record_at t i) (whole_activity i l) (4 + 2 * k) (omega arith))
      (λ k b. two_same (record_at s m) (record_at t m) crew (4 + 2 * k) (omega arith) ∙ ap (λ (x : ℕ). field (record_at t x) (4 + 2 * k) 2) count)
      (arcs 3)
      (arcs 4)

-- FILES THAT DIFFER ONLY IN WAITS ARE READ ALIKE, whether they are readable or not
pub only_in_waits : (s t : List ℕ) → OnlyInWaits s t → read_of s ≡ read_of t
unfolding read_of
only_in_waits s t W = ap (λ (a : Answer). reading a (plan_of s)) (answers s t W)
    ∙ reading_cong (answer_of t) (plans s t W)
