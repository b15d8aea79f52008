-- A FILE WITHOUT SOME ARC RECORDS of a readable file is readable, and says the same but for those arcs.
use mathlib.Core.Path.{◌≡◌, refl, sym, ap, ap₂, ◌∙◌}
use mathlib.Core.Bool.{true, false, not, cond}
use mathlib.Core.List.{List}
use mathlib.Core.Logic.{by_cases}
use Prim.Native.Nat.{ℕ, zero, suc, ◌+◌, ◌-◌, ◌*◌, ◌/◌, ◌%◌, ◌≤◌, ◌<◌}
use native.Mathlib.Decide.{dec_lt}
use native.Mathlib.Omega.{arith}
use lib.ListN.{length, get_or-eq_default}
use lib.Seq.{get_or-take, get_or-drop}
use lib.Dec.{ltb}
use borrow.Author.Tests.{ltb-true}
use Rattle.words.proofs.Firsts.{some_found, some_here}
use Rattle.words.proofs.Tests.{clash, fails, cond_cong}
use Rattle.words.proofs.Tables.{table_same}
use Rattle.records.specs.Bytes.{byte, field, AreBytes}
use Rattle.order.specs.Stored.{elements}
use Rattle.std.specs.Prelude.{Ok}
use Rattle.plan.specs.declared.Cause.TheVariants.{RepeatedArc}
use Rattle.plan.specs.Records.{record_at, record_count, type_at, activity_count, job_count, due_type, demand_in, demands_of, same_pair, arc_repeats}
use Rattle.plan.specs.Causes.{is_readable, crew_cause, arc_cause, cause_at}
use Rattle.plan.specs.Meaning.{Readable, Names, file_duration, file_demand, file_kinds, file_available, JobArc, ExtraArc, wait_up_to, job_wait, extra_wait}
use Rattle.plan.specs.Filtered.{Selected}
use Rattle.plan.proofs.Places.{record_on, leading_ends}
use Rattle.plan.proofs.RecordRules.{rule_kept, rule_before, rule_keeps, at_activity, at_crew, at_arc, due_job, due_extra}
use Rattle.plan.proofs.Parts.{Faultless, activity_typed, job_typed, crew_fine, arc_fine, arc_new, extra_typed}
use Rattle.plan.proofs.Said.{readable_length, readable_faultless, faultless_readable}
use Rattle.plan.proofs.Refused.{length_says}
use Rattle.plan.proofs.Waits.{wait_of}
use Rattle.plan.proofs.Differing.{SameBytes, two_same, activity_same, crew_same, arc_same}

-- whether an arc keeps the rules by itself does not go by its place
arc_anywhere : (type p q m : ℕ) (r : List ℕ) → is_readable (arc_cause type p m r) ≡ true → is_readable (arc_cause type q m r) ≡ true
unfolding arc_cause
arc_anywhere type p q m r e =
    let f = rule_before _ _ _ e in
    let g = rule_before _ _ _ f in
    ap is_readable (rule_keeps _ _ _
    (ap is_readable (rule_keeps _ _ _ (ap is_readable (rule_keeps (Ok tt) _ _ refl (rule_kept _ _ _ g)))
    (rule_kept _ _ _ f))) (rule_kept _ _ _ e))

module _ (s t : List ℕ) (e : Readable s) (S : Selected s t) where
  faultless : Faultless s
  faultless = readable_faultless s e

  abbrev m : ℕ
  m = activity_count s

  -- each record is one of s, byte for byte, and the first are the same
  bytes : (p : ℕ) → p < record_count t → SameBytes (record_at t p) (record_at s (S.origin p))
  bytes p l b h =
      sym (get_or-take 24 (record_at t p) b 0 h) ∙ ap (λ (r : List ℕ). byte r b) (S.same p l) ∙ get_or-take 24 (record_at s (S.origin p)) b 0 h

  front_bytes : (p : ℕ) → p ≤ m → SameBytes (record_at t p) (record_at s p)
  front_bytes p l b h = bytes p (S.front p l).0 b h ∙ ap (λ (x : ℕ). byte (record_at s x) b) (S.front p l).1

  front_typed : (p : ℕ) → p ≤ m → type_at t p ≡ type_at s p
  front_typed p l = front_bytes p l 0 (omega arith)

  pub selected_count : activity_count t ≡ activity_count s
  selected_count = go (dec_lt (activity_count t) m) (dec_lt m (activity_count t))
    where
      go : Dec (activity_count t < m) → Dec (m < activity_count t) → activity_count t ≡ m
      go (yes l) d =
          let n : ℕ = activity_count t in
          absurd (leading_ends 1 (record_count t) t (S.front n (omega arith)).0 (front_typed n (omega arith) ∙ activity_typed s n l))
      go (no l) (yes h) = absurd (omega (arith, activity_typed t m h, front_typed m (omega arith), (crew_fine s faultless).typed))
      go (no l) (no h) = omega arith

  -- ---- the records after the crew record

  -- none stands later than in s
  origin_later : (p : ℕ) → p < record_count t → p ≤ S.origin p
  origin_later zero l = omega arith
  origin_later (suc p) l = omega (arith, origin_later p (omega arith), S.ascend p (suc p) (omega arith) l)

  -- an arc is an arc of s
  origin_arc : (p : ℕ) → m < p → p < record_count t → m < S.origin p
  origin_arc p h l = omega (arith, origin_later p l)

  -- where the first extra arc is due
  abbrev first_extra : ℕ
  first_extra = activity_count t + 1 + job_count t

  -- the first that is no job arc is an extra arc of s, so all later ones are
  extra_on : (p : ℕ) → first_extra ≤ p → p < record_count t → type_at s (S.origin p) ≡ 4
  extra_on p h l = go (dec_lt o (m + 1 + job_count s))
    where
      q : ℕ
      q = first_extra

      o : ℕ
      o = S.origin q

      later : o ≤ S.origin p
      later = by_cases (dec_lt q p) (λ b. omega (arith, S.ascend q p b l)) (λ b. let same : q ≡ p = omega arith in omega (arith, ap S.origin same))

      arc : m < o
      arc = origin_arc q (omega (arith, selected_count)) (omega arith)

      go : Dec (o < m + 1 + job_count s) → type_at s (S.origin p) ≡ 4
      go (yes b) =
          let a : ℕ = activity_count t + 1 in
          absurd (leading_ends 3 (record_count t - a) (record_at t a) (omega arith)
          (ap (λ (r : List ℕ). byte r 0) (record_on t a (job_count t)) ∙ bytes q (omega arith) 0 (omega arith) ∙ (arc_fine s faultless o arc (S.there q (omega arith))).typed ∙ due_job s o b))
      go (no b) = extra_typed s faultless (S.origin p) (omega (arith, arc, later)) (S.there p l) (omega (arith, later))

  -- so what is due is what is due in s
  due : (p : ℕ) → m < p → p < record_count t → due_type s (S.origin p) ≡ due_type t p
  due p h l = sym (arc_fine s faultless (S.origin p) (origin_arc p h l) (S.there p l)).typed ∙ go (dec_lt p first_extra)
    where
      go : Dec (p < first_extra) → type_at s (S.origin p) ≡ due_type t p
      go (yes b) =
          let q : activity_count t + 1 + (p - (activity_count t + 1)) ≡ p = omega (arith, selected_count) in
          sym (bytes p l 0 (omega arith)) ∙ ap (type_at t) (sym q) ∙ job_typed t (p - (activity_count t + 1)) (omega arith) ∙ sym (due_job t p b)
      go (no b) = extra_on p (omega arith) l ∙ sym (due_extra t p (omega arith))

  -- it repeats none, as it would in s
  new : (p : ℕ) → m < p → p < record_count t → arc_repeats t p ≡ false
  unfolding arc_repeats
  new p h l = fails (arc_repeats t p) (λ r. let w = some_found p (λ x. same_pair (record_at t x) (record_at t p)) r in go w.0 w.1 w.2)
    where
      go : (x : ℕ) → x < p → same_pair (record_at t x) (record_at t p) ≡ true → ⊥
      go x b r =
          let y : ℕ = S.origin x in
          let q : ℕ = S.origin p in
          let at = bytes x (omega arith) in
          let here = bytes p l in
          let pair : same_pair (record_at t x) (record_at t p) ≡ same_pair (record_at s y) (record_at s q) =
          rw (at 0 (omega arith), at 1 (omega arith), at 2 (omega arith), here 0 (omega arith), here 1 (omega arith), here 2 (omega arith)) in
          clash (some_here q (λ z. same_pair (record_at s z) (record_at s q)) y (S.ascend x p b l) (sym pair ∙ r)) (arc_new s faultless q (origin_arc p h l) (S.there p l))

  -- ---- THE CAUSES: that of a record of s, or none

  demands : demands_of t ≡ demands_of s
  unfolding demands_of
  demands =
      table_same (8 * elements) _ _
      (λ x l.
      let i : ℕ = x % elements in
      let k : ℕ = x / elements in
      ap (λ (n : ℕ). cond (ltb i n) (demand_in (record_at t i) k) 0) selected_count
      ∙ cond_cong (ltb i m) (demand_in (record_at t i) k) (demand_in (record_at s i) k)
      (λ b. two_same (record_at t i) (record_at s i) (front_bytes i (omega (arith, ltb-true i m b))) (4 + 2 * k) (omega arith)))

  fine : (p : ℕ) → p < record_count t → is_readable (cause_at t p) ≡ true
  fine p l = go (dec_lt p m) (dec_lt m p)
    where
      own : m < p → is_readable (arc_cause (due_type t p) p (activity_count t) (record_at t p)) ≡ true
      own h =
          let o : ℕ = S.origin p in
          let b = bytes p l in
          ap is_readable (
          ap₂ (λ (d n : ℕ). arc_cause d p n (record_at t p)) (sym (due p h l)) selected_count
          ∙ arc_same (record_at t p) (record_at s o) (λ i c _ _. b i c) (due_type s o) p m
          )
          ∙ arc_anywhere (due_type s o) o p m (record_at s o) (rule_before _ _ _ (rw (at_arc s o (origin_arc p h l)) at (faultless.fine o (S.there p l))))

      go : Dec (p < m) → Dec (m < p) → is_readable (cause_at t p) ≡ true
      go (yes h) d =
          ap is_readable (at_activity t p (omega (arith, selected_count)) ∙ activity_same (record_at t p) (record_at s p) (front_bytes p (omega arith)) p ∙ sym (at_activity s p h))
          ∙ faultless.fine p (omega (arith, faultless.crewed))
      go (no h) (no g) =
          let b = front_bytes p (omega arith) in
          ap is_readable (
          at_crew t p (omega (arith, selected_count))
          ∙ ap (λ (d : List ℕ). crew_cause p d (record_at t p)) demands
          ∙ crew_same p (demands_of s) (record_at t p) (record_at s p) (b 0 (omega arith)) (λ _. b)
          ∙ sym (at_crew s p (omega arith))
          )
          ∙ faultless.fine p (omega (arith, faultless.crewed))
      go (no h) (yes g) =
          ap is_readable (at_arc t p (omega (arith, selected_count)) ∙ rule_keeps _ _ (RepeatedArc p) (own g) (ap not (new p g l)))

  pub selected_readable : Readable t
  selected_readable =
      let there = (S.front m (omega arith)).0 in
      let some : 0 < length t = omega (arith, S.whole) in
      let few : record_count t ≤ record_count s = omega (arith, origin_later (record_count t - 1) (omega arith), S.there (record_count t - 1) (omega arith)) in
      let legal = (length_says (length s)).0 (readable_length s e) in
      faultless_readable t ((length_says (length t)).1 (some, omega (arith, S.whole, legal.1), omega (arith, S.whole)))
      (record { fine = fine; crewed = omega (arith, selected_count) })

  -- ---- WHAT IT SAYS

  pub selected_bytes : AreBytes s → AreBytes t
  selected_bytes small i = go (dec_lt i (length t))
    where
      go : Dec (i < length t) → byte t i < 256
      go (yes l) =
          let p : ℕ = i / 24 in
          let b : ℕ = i % 24 in
          let q : 24 * p + b ≡ i = omega arith in
          let at : byte t i ≡ byte s (24 * S.origin p + b) =
          ap (byte t) (sym q) ∙ sym (get_or-drop (24 * p) t b 0) ∙ bytes p (omega (arith, S.whole)) b (omega arith) ∙ get_or-drop (24 * S.origin p) s b 0 in
          omega (arith, at, small (24 * S.origin p + b))
      go (no l) = let z : byte t i ≡ 0 = get_or-eq_default t 0 (omega arith) in omega arith

  pub selected_kinds : file_kinds t ≡ file_kinds s
  unfolding file_kinds
  selected_kinds = ap (λ (n : ℕ). byte (record_at t n) 1) selected_count ∙ front_bytes m (omega arith) 1 (omega arith)

  pub selected_duration : (i : ℕ) → i < activity_count s → file_duration t i ≡ file_duration s i
  unfolding file_duration
  selected_duration i l = two_same (record_at t i) (record_at s i) (front_bytes i (omega arith)) 2 (omega arith)

  pub selected_demand : (k i : ℕ) → k < 8 → i < activity_count s → file_demand t k i ≡ file_demand s k i
  unfolding file_demand
  selected_demand k i h l = two_same (record_at t i) (record_at s i) (front_bytes i (omega arith)) (4 + 2 * k) (omega arith)

  pub selected_available : (k : ℕ) → k < 8 → file_available t k ≡ file_available s k
  unfolding file_available
  selected_available k h =
      ap (λ (n : ℕ). field (record_at t n) (4 + 2 * k) 2) selected_count ∙ two_same (record_at t m) (record_at s m) (front_bytes m (omega arith)) (4 + 2 * k) (omega arith)

  -- each arc is one of s, with its wait
  pub selected_names : {type i j : ℕ} → Names t (record_count t) type i j → Names s (record_count s) type i j
  selected_names n =
      let b = bytes n.place n.there in
      record {
        place = S.origin n.place;
        there = S.there n.place n.there;
        typed = sym (b 0 (omega arith)) ∙ n.typed;
        from = sym (b 1 (omega arith)) ∙ n.from;
        to = sym (b 2 (omega arith)) ∙ n.to;
      }

  pub selected_wait : (type i j : ℕ) → 3 ≤ type → Names t (record_count t) type i j → wait_up_to t type i j (record_count t) ≡ wait_up_to s type i j (record_count s)
  unfolding selected_names
  selected_wait type i j some n =
      let o : ℕ = S.origin n.place in
      wait_of t selected_readable type i j some n
      ∙ two_same (record_at t n.place) (record_at s o) (bytes n.place n.there) 4 (omega arith)
      ∙ sym (wait_of s e type i j some (selected_names n))

  -- ---- in the words of Meaning

  pub selected_job_wait : (i j : ℕ) → JobArc t i j → job_wait t i j ≡ job_wait s i j
  unfolding JobArc job_wait
  selected_job_wait i j = selected_wait 3 i j (omega arith)

  pub selected_extra_wait : (i j : ℕ) → ExtraArc t i j → extra_wait t i j ≡ extra_wait s i j
  unfolding ExtraArc extra_wait
  selected_extra_wait i j = selected_wait 4 i j (omega arith)
