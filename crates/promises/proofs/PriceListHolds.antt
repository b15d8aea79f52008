-- THE PRICE-LIST SENTENCE HOLDS for every readable plan without a circle: `price_list`.
use mathlib.Core.Path.{◌≡◌, refl, sym, ap, ap₂, ◌∙◌}
use mathlib.Core.Bool.{Bool, true, false, not, cond}
use mathlib.Core.List.{List, [], ◌∷◌, ◌++◌}
use mathlib.Core.Logic.{◌↔◌, ◌⊎◌, inl, inr}
use Prim.Native.Nat.{ℕ, ◌+◌, ◌-◌, ◌^◌, ◌≤◌, ◌<◌}
use native.Mathlib.Omega.{arith}
use lib.Dec.{ltb}
use lib.ListN.{length, drop}
use Rattle.std.specs.Prelude.{Ok, Err}
use Rattle.words.specs.Bits.{bit}
use Rattle.words.specs.Members.{count}
use Rattle.words.proofs.Tests.{by_test, cond_true}
use Rattle.order.specs.Stored.{elements, number_of}
use Rattle.order.specs.Sets.{size_of}
use Rattle.records.specs.Bytes.{AreBytes, byte, field}
use Rattle.records.specs.Records.{overload_record, starting_with}
use Rattle.records.proofs.Records.{overload_read}
use Rattle.plan.specs.Meaning.{Readable, file_kinds, file_available}
use Rattle.plan.specs.Records.{activity_count}
use Rattle.kinds.specs.Needs.{demands_for}
use Rattle.kinds.specs.Reading.{units_read}
use Rattle.solver.proofs.QuoteSound.{need_small}
use Rattle.planner.specs.Faults.{Fault, is_fine, or_cause}
use Rattle.planner.specs.Results.{Decision, accepted}
use Rattle.planner.specs.Open.{plan_in, plan_order, fault_of, Opens}
use Rattle.planner.specs.Numbers.{numbers_of}
use Rattle.planner.specs.Need.{need_for, over_kind, is_overloaded, shown_set, over_cause}
use Rattle.planner.specs.Verdict.{verdict_fault, verdict_of, verdict_answer}
use Rattle.planner.specs.Overload.{overload_fault, over_count, over_bytes, overload_answer, overload_out}
use Rattle.planner.specs.Flow.{is_kind, flow_fault, flow_units, flow_count, record_bytes, flow_answer, flow_out}
use Rattle.planner.specs.File.{FileFlow, flow_length}
use Rattle.planner.proofs.FileOrders.{opens_when}
use Rattle.promises.specs.Ours.{ours}
use Rattle.promises.specs.PriceList.{quoted_need, Exceeds, Enough, IsSeven, Shown, PriceList, PriceListSentence}
use Rattle.planner.specs.declared.Cause.{Cause}
use Rattle.planner.specs.declared.Cause.TheVariants.{NoKind, Short}
use Rattle.planner.proofs.FaultLaws.{cause_none, cause_next, fine_is}
use Rattle.planner.proofs.OutputLaws.{output_fine, output_is_fine, output_is_refused, lent_fine}
use Rattle.planner.proofs.OpenLaws.{opens_readable}
use Rattle.planner.proofs.QuotedNeeds.{count_in, kinds_in, quotable, need_quoted, set_fits}
use Rattle.promises.proofs.FileNeeds.{need_some, need_every, crew_none, crew_some}
use Rattle.planner.proofs.FlowUnits.{flow_said}
use Rattle.promises.proofs.FileFlows.{file_flow, file_unused}
use Rattle.planner.proofs.FlowLaws.{kind_within, flow_fine, fine_flow, not_over}
use Rattle.planner.proofs.SheetFaults.{is_kind_lem}
use Rattle.promises.proofs.AnswersWhen.{flow_left}
use Rattle.promises.proofs.OverloadShown.{few, needs_answers, need_written, quoted_is, over_when, over_kind_lem, over_below, shown, enough_not}

-- ---- answers and causes

pub not_refused : (m n : ℕ) (c : Cause) → accepted m n ≡ Err c → ⊥
not_refused m n c e = let z : ◌≡◌ {A = ℕ} 0 1 = cc in omega arith

same_cause : (c d : Cause) → ◌≡◌ {A = Decision} (Err c) (Err d) → c ≡ d
same_cause c d e = cc

-- of three causes in turn, the first whose test holds
first_of : (a b t : Bool) (N S O c : Cause) → or_cause (or_cause (or_cause (Ok tt) a N) b S) t O ≡ Err c → (c ≡ N) ⊎ ((c ≡ S) ⊎ ((t ≡ true) × (c ≡ O)))
first_of true b t N S O c e = inl cc
first_of false true t N S O c e = inr (inl cc)
first_of false false true N S O c e = inr (inr (refl, cc))
first_of false false false N S O c e = absurd (let z : ◌≡◌ {A = ℕ} 0 1 = cc in omega arith)

module _ (s : List ℕ) (small : AreBytes s) (o : Opens s) where
  readable : Readable s
  readable = opens_readable s o

  -- ---- Decision

  pub verdict_refused : is_overloaded (plan_in s) ≡ true → verdict_answer s ≡ Err (over_cause (plan_in s))
  unfolding verdict_fault fault_of
  verdict_refused e =
      ap (λ (f : Fault). verdict_of f (plan_in s).count (plan_in s).kinds) (cause_next (fault_of s) (is_overloaded (plan_in s)) (over_cause (plan_in s)) o e)

  verdict_accepted : is_overloaded (plan_in s) ≡ false → verdict_answer s ≡ accepted (plan_in s).count (plan_in s).kinds
  unfolding verdict_fault fault_of
  verdict_accepted e =
      ap (λ (f : Fault). verdict_of f (plan_in s).count (plan_in s).kinds) (cause_none (fault_of s) (is_overloaded (plan_in s)) (over_cause (plan_in s)) o e)

  -- a verdict that refuses is 7, of an overloaded plan
  refused_over : (c : Cause) → verdict_answer s ≡ Err c → (is_overloaded (plan_in s) ≡ true) × (c ≡ over_cause (plan_in s))
  refused_over c e =
      by_test (is_overloaded (plan_in s))
      (λ t. (t, same_cause c (over_cause (plan_in s)) (sym e ∙ verdict_refused t)))
      (λ t. absurd (not_refused (plan_in s).count (plan_in s).kinds c (sym (verdict_accepted t) ∙ e)))

  refuses : ((c : Cause) × (verdict_answer s ≡ Err c)) ↔ ((k : ℕ) × Exceeds ours s k)
  refuses = (
    (λ r. (over_kind (plan_in s), over_kind_lem s small o (refused_over r.0 r.1).0)),
    (λ x. (over_cause (plan_in s), verdict_refused (over_when s small o x.0 x.1))),
  )

  -- the values of 7, and the set that they show
  seven : is_overloaded (plan_in s) ≡ true → (kind : ℕ) × (need : ℕ) × (set : ℕ) × (size : ℕ) × IsSeven (over_cause (plan_in s)) kind need set size × Shown ours s kind need set size
  unfolding over_cause
  seven t = (
    over_kind (plan_in s) + 1,
    need_for (plan_in s) (over_kind (plan_in s)),
    number_of (shown_set (plan_in s) (over_kind (plan_in s))),
    count elements (bit (number_of (shown_set (plan_in s) (over_kind (plan_in s))))),
    refl,
    shown s small o t,
  )

  shows : (c : Cause) → verdict_answer s ≡ Err c
      → (kind : ℕ) × (need : ℕ) × (set : ℕ) × (size : ℕ) × IsSeven c kind need set size × Shown ours s kind need set size
  shows c e =
      let w = refused_over c e in
      let v = seven w.0 in
      (v.0, v.1, v.2, v.3, ap numbers_of w.1 ∙ v.4, v.5)

  -- whoever gives 7 shows that set
  seven_shown : (c : Cause) (kind need set size : ℕ) → is_overloaded (plan_in s) ≡ true → c ≡ over_cause (plan_in s) → IsSeven c kind need set size → Shown ours s kind need set size
  unfolding over_cause
  seven_shown c kind need set size t e i =
      let q = plan_in s in
      let w = number_of (shown_set q (over_kind q)) in
      let j : (over_kind q + 1) ∷ need_for q (over_kind q) ∷ w ∷ count elements (bit w) ∷ [] ≡ kind ∷ need ∷ set ∷ size ∷ [] = tails (sym (ap numbers_of e) ∙ i) in
      values j (shown s small o t)
    where
      tails : {x y : ℕ} {xs ys : List ℕ} → x ∷ xs ≡ y ∷ ys → xs ≡ ys
      tails e = cc

      values : {a b c d x y z u : ℕ} → ◌≡◌ {A = List ℕ} (a ∷ b ∷ c ∷ d ∷ []) (x ∷ y ∷ z ∷ u ∷ []) → Shown ours s a b c d → Shown ours s x y z u
      values {a} {b} {c} {d} {x} {y} {z} {u} e S =
          let p : a ≡ x = cc in
          let q : b ≡ y = cc in
          let r : c ≡ z = cc in
          let v : d ≡ u = cc in
          rw (← p, ← q, ← r, ← v) S

  -- ---- Overload

  module _ (t : is_overloaded (plan_in s) ≡ true) where
    need_fits : need_for (plan_in s) (over_kind (plan_in s)) < 256 ^ 4
    need_fits =
        let h = (few s small o (over_below s small o t)).1 in
        omega (
          arith,
          need_quoted s small o (over_kind (plan_in s)) h,
          need_small (plan_in s).count (plan_order s) (demands_for (plan_in s).demand (over_kind (plan_in s))) (quotable s small o (over_kind (plan_in s)) h),
        )

    over_out : (out : List ℕ) → overload_fault s (length out) ≡ Ok tt
        → overload_out s out
        ≡ overload_record (over_kind (plan_in s) + 1) (size_of (shown_set (plan_in s) (over_kind (plan_in s)))) (need_for (plan_in s) (over_kind (plan_in s)))
        (number_of (shown_set (plan_in s) (over_kind (plan_in s)))) ++ drop (length (over_bytes (plan_in s))) out
    unfolding overload_out over_bytes
    over_out out f =
        lent_fine (overload_fault s (length out)) (over_bytes (plan_in s)) out f
        ∙ ap (λ (r : List ℕ). r ++ drop (length (over_bytes (plan_in s))) out) (cond_true _ [] t)

    over_read : (out : List ℕ) → overload_fault s (length out) ≡ Ok tt
        → Shown ours s (byte (overload_out s out) 1) (field (overload_out s out) 4 4) (field (overload_out s out) 8 8) (byte (overload_out s out) 2)
    over_read out f =
        let k = over_kind (plan_in s) in
        let w = overload_read (k + 1) (size_of (shown_set (plan_in s) k)) (need_for (plan_in s) k) (number_of (shown_set (plan_in s) k))
        (drop (length (over_bytes (plan_in s))) out) need_fits (set_fits s small o k (few s small o (over_below s small o t)).1) in
        rw (over_out out f, w.0, w.1, w.2, w.3) (shown s small o t)

  overload_shows : (out : List ℕ) → overload_answer s (length out) ≡ Ok 1
      → Shown ours s (byte (overload_out s out) 1) (field (overload_out s out) 4 4) (field (overload_out s out) 8 8) (byte (overload_out s out) 2)
  unfolding over_count
  overload_shows out e =
      let w = output_is_fine (overload_fault s (length out)) 1 (over_count (plan_in s)) e in
      by_test (is_overloaded (plan_in s))
      (λ t. over_read t out w.0)
      (λ t. absurd (let z : over_count (plan_in s) ≡ 0 = ap (λ (b : Bool). cond b 1 0) t in omega (arith, w.1, z)))

  -- ---- Flow

  flow_shows : (asked n : ℕ) (c : Cause) (kind need set size : ℕ) → flow_answer s asked n ≡ Err c → IsSeven c kind need set size → Shown ours s kind need set size
  unfolding flow_fault
  flow_shows asked n c kind need set size e i =
      let f = output_is_refused (flow_fault s asked n) (flow_count (plan_in s) (asked - 1)) c e in
      go (first_of (not (is_kind asked (plan_in s).kinds)) (ltb n (flow_length (plan_in s).count)) (is_overloaded (plan_in s)) (NoKind (plan_in s).kinds)
      (Short (flow_length (plan_in s).count)) (over_cause (plan_in s)) c (sym (ap turns (fine_is (fault_of s) o)) ∙ f))
    where
      turns : Fault → Fault
      turns f =
          or_cause (or_cause (or_cause f (not (is_kind asked (plan_in s).kinds)) (NoKind (plan_in s).kinds)) (ltb n (flow_length (plan_in s).count))
          (Short (flow_length (plan_in s).count))) (is_overloaded (plan_in s)) (over_cause (plan_in s))

      go : (c ≡ NoKind (plan_in s).kinds) ⊎ ((c ≡ Short (flow_length (plan_in s).count)) ⊎ ((is_overloaded (plan_in s) ≡ true) × (c ≡ over_cause (plan_in s)))) → Shown ours s kind need set size
      go (inl e) = absurd (let z : ◌≡◌ {A = ℕ} 8 7 = cc in omega arith)
      go (inr (inl e)) = absurd (let z : ◌≡◌ {A = ℕ} 9 7 = cc in omega arith)
      go (inr (inr w)) = seven_shown c kind need set size w.0 w.1 i

  flows : Enough ours s → (k : ℕ) → k < file_kinds s → (out : List ℕ) → flow_length (activity_count s) ≤ length out
      → (n : ℕ) × (flow_answer s (k + 1) (length out) ≡ Ok n)
  flows en k h out l =
      let room : flow_length (plan_in s).count ≤ length out = rw (count_in s readable) l in
      let there = is_kind_lem (k + 1) (plan_in s).kinds (omega arith) (omega (arith, h, kinds_in s readable)) in
      let f = fine_flow s (k + 1) (length out) o there room (enough_not s small o en) in
      (flow_count (plan_in s) (k + 1 - 1), output_fine (flow_fault s (k + 1) (length out)) (flow_count (plan_in s) (k + 1 - 1)) f)

  module _ (k : ℕ) (out : List ℕ) (n : ℕ) (e : flow_answer s (k + 1) (length out) ≡ Ok n) where
    left : (flow_fault s (k + 1) (length out) ≡ Ok tt) × (n ≡ flow_count (plan_in s) k) × (flow_out s (k + 1) out ≡ starting_with (record_bytes (plan_in s) k) out)
    left = flow_left s k out n e

    went : Opens s × (is_kind (k + 1) (plan_in s).kinds ≡ true) × (flow_length (plan_in s).count ≤ length out) × (is_overloaded (plan_in s) ≡ false)
    went = flow_fine s (k + 1) (length out) (ap is_fine left.0)

    kind_there : k < file_kinds s
    kind_there = omega (arith, (kind_within (k + 1) (plan_in s).kinds went.1).1, kinds_in s readable)

    -- the records, read back
    pub units_said : (u v : ℕ) → units_read n (flow_out s (k + 1) out) u v ≡ flow_units (plan_in s) k u v
    units_said u v =
        ap (λ (x : ℕ). units_read x (flow_out s (k + 1) out) u v) left.1
        ∙ ap (λ (l : List ℕ). units_read (flow_count (plan_in s) k) l u v) left.2
        ∙ flow_said s small o k (few s small o kind_there).1 (drop (length (record_bytes (plan_in s) k)) out) u v

    meets : FileFlow s k (units_read n (flow_out s (k + 1) out))
    meets =
        file_flow s small o k (few s small o kind_there).1 (not_over s went.3 k (few s small o kind_there).0) (units_read n (flow_out s (k + 1) out)) units_said

    unused : units_read n (flow_out s (k + 1) out) 0 (activity_count s + 1) ≡ file_available s k - quoted_need ours s k
    unused =
        file_unused s small o k (few s small o kind_there).1 (units_read n (flow_out s (k + 1) out)) units_said
        ∙ ap (λ (x : ℕ). file_available s k - x) (sym (quoted_is s small o k kind_there))

  price_list_opens : PriceList ours s
  price_list_opens =
      record {
        answers = needs_answers s small o;
        writes = λ out h k l. need_written s small o out h k l ∙ sym (quoted_is s small o k l);
        some_set = λ k h. let w = need_some s small o k (few s small o h).1 in (w.0, w.1, w.2 ∙ sym (quoted_is s small o k h));
        every_set = λ k h S u. omega (arith, need_every s small o k (few s small o h).1 S u, quoted_is s small o k h);
        no_crew = λ k h a w c t p. omega (arith, crew_none s small o k (few s small o h).1 a w c.keeps t, quoted_is s small o k h);
        some_crew = λ k h.
            let w = crew_some s small o k (few s small o h).1 in
            (w.0, w.1, w.2, w.3, w.4, w.5 ∙ sym (quoted_is s small o k h));
        refuses = refuses;
        shows = shows;
        overload_shows = overload_shows;
        flow_shows = flow_shows;
        accepts = λ en. verdict_accepted (enough_not s small o en) ∙ ap₂ accepted (count_in s readable) (kinds_in s readable);
        flows = flows;
        meets = meets;
        unused = unused;
      }

pub price_list : PriceListSentence ours
price_list s small e free = price_list_opens s small ((opens_when s).1 (e, free))
