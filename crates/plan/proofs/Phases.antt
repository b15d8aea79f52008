-- The phases of the code come to the reading: `file_read`.
use mathlib.Core.Path.{◌≡◌, refl, sym, ap, ap₂, ◌∙◌}
use mathlib.Core.Bool.{Bool, true, not, cond}
use mathlib.Core.List.{List}
use mathlib.Core.Logic.{⊎_elim, ◌≢◌}
use Prim.Native.Nat.{ℕ, suc, ◌+◌, ◌-◌, ◌*◌, ◌≤◌, ◌<◌}
use native.Mathlib.Nat.{add-zero}
use native.Mathlib.Omega.{arith}
use lib.ListN.{length, drop, replicate}
use Rattle.words.specs.model.Loops.{upto}
use Rattle.words.specs.Tables.{table}
use Rattle.records.specs.Bytes.{byte}
use Rattle.order.specs.Stored.{elements, cells}
use Rattle.std.specs.Prelude.{Ok, Err}
use Rattle.plan.specs.declared.Cause.{Cause}
use Rattle.plan.specs.declared.Cause.TheVariants.{Length, RecordType, RepeatedArc}
use Rattle.plan.specs.declared.Plan.{Plan}
use Rattle.plan.specs.Records.{record_at, record_count, type_at, activity_count, job_count, leading, available_in, due_type, arc_repeats, demands_of}
use Rattle.plan.specs.Meaning.{file_kinds, file_available}
use Rattle.plan.specs.model.Plans.{plan_of, empty_plan, durations_of, available_of}
use Rattle.plan.specs.Causes.{Answer, rule, is_readable, activity_cause, crew_cause, arc_cause, cause_at, first_refusal, followed_by, records_cause, is_length, answer_of}
use Rattle.plan.specs.model.Reads.{Reading, read_of, given, outcome}
use Rattle.plan.specs.model.Phases.{put_duration, put_demands, put_arc, arc_in, arcs_cause, refusal_of, unless_refused, rest_of, file_of}
use Rattle.plan.proofs.Refusals.{followed_assoc, followed_none, followed_cong, refusal_cong, refusal_split, refusal_one, all_readable}
use Rattle.plan.proofs.Places.{record_on, record_next, leading_le}
use Rattle.plan.proofs.RecordRules.{rule_cong, few_activities, crew_kept, arc_kept, at_activity, at_crew, at_arc, due_job, due_extra}
use Rattle.plan.proofs.Repeats.{repeats_on}
use Rattle.plan.proofs.Stores.{durations_stored, demands_stored, demands_told}
use Rattle.plan.proofs.Parts.{Faultless, faultless, crew_missing, crew_there_lem, crew_or_missing, no_arc, no_extra, job_rows, extra_rows}

-- ---- an answer, and the plan that stands beside it

abbrev pub reading : Answer → Plan → Reading
reading a q = record { plan = cond (is_readable a) q empty_plan; answer = a }

unless_reading : (a b : Answer) (q : Plan) → unless_refused a (reading b q) ≡ reading (followed_by a b) q
unless_reading (Ok _) b q = refl
unless_reading (Err c) b q = refl

unless_cong : (a : Answer) {x y : Reading} → (is_readable a ≡ true → x ≡ y) → unless_refused a x ≡ unless_refused a y
unless_cong (Ok _) h = h refl
unless_cong (Err c) h = refl

pub reading_cong : (a : Answer) {p q : Plan} → (is_readable a ≡ true → p ≡ q) → reading a p ≡ reading a q
reading_cong (Ok _) h = ap (reading (Ok tt)) (h refl)
reading_cong (Err c) h = refl

-- what the code gives tells the plan of the reading

pub plan_given : (s : List ℕ) (q : Plan) → outcome (read_of s) ≡ Ok q → (read_of s).plan ≡ q
unfolding read_of
plan_given s q e = go (answer_of s) e
  where
    go : (a : Answer) → given a (cond (is_readable a) (plan_of s) empty_plan) ≡ Ok q
        → cond (is_readable a) (plan_of s) empty_plan ≡ q
    go (Ok _) e = cc e
    go (Err c) e = absurd (cc e)

pub none_given : (s : List ℕ) {c : Cause} → outcome (read_of s) ≡ Err c → (read_of s).plan ≡ empty_plan
unfolding read_of
none_given s {c} e = go (answer_of s) e
  where
    go : (a : Answer) → given a (cond (is_readable a) (plan_of s) empty_plan) ≡ Err c
        → cond (is_readable a) (plan_of s) empty_plan ≡ empty_plan
    go (Ok _) e = absurd (cc e)
    go (Err d) e = refl

-- ---- the rest of a file, as one answer and one plan

abbrev rest_cause : ℕ → List ℕ → ℕ → ℕ → List ℕ → List ℕ → List ℕ → Answer
rest_cause m demand j x t arcs more = followed_by (crew_cause m demand t) (followed_by (arcs_cause 3 (m + 1) m arcs j) (arcs_cause 4 (m + 1 + j) m more x))

abbrev rest_plan : ℕ → List ℕ → List ℕ → ℕ → ℕ → List ℕ → List ℕ → List ℕ → Plan
rest_plan m duration demand j x t arcs more =
    record {
      count = m;
      kinds = byte t 1;
      duration = duration;
      demand = demand;
      available = table 8 (available_in t);
      job = upto (put_arc 3 arcs) j (replicate (cells elements) 0);
      extra = upto (put_arc 4 more) x (replicate (cells elements) 0);
    }

-- `arcs` is what follows the crew record
abbrev rest_from : ℕ → List ℕ → List ℕ → ℕ → List ℕ → List ℕ → List ℕ → Reading
rest_from m duration demand n t arcs more =
    let j = leading 3 n arcs in
    reading (rest_cause m demand j (n - j) t arcs more) (rest_plan m duration demand j (n - j) t arcs more)

rest_is : (m : ℕ) (duration demand : List ℕ) (n : ℕ) (t : List ℕ)
    → rest_of m duration demand (suc n) t ≡ rest_from m duration demand n t (drop 24 t) (drop (24 * leading 3 n (drop 24 t)) (drop 24 t))
unfolding rest_of
rest_is m duration demand n t =
    let arcs : List ℕ = drop 24 t in
    let j : ℕ = leading 3 n arcs in
    let more : List ℕ = drop (24 * j) arcs in
    go (crew_cause m demand t) (arcs_cause 3 (m + 1) m arcs j) (arcs_cause 4 (m + 1 + j) m more (n - j)) (rest_plan m duration demand j (n - j) t arcs more)
  where
    go : (a b c : Answer) (q : Plan)
        → unless_refused a (unless_refused b (unless_refused c (record { plan = q; answer = Ok tt }))) ≡ reading
        (followed_by a (followed_by b c)) q
    go (Ok _) (Ok _) (Ok _) q = refl
    go (Ok _) (Ok _) (Err z) q = refl
    go (Ok _) (Err y) c q = refl
    go (Err x) b c q = refl

-- the same of the file s, whose crew record is at the place m
rest_at : (s : List ℕ) (m : ℕ) (duration demand : List ℕ) → m < record_count s
    → rest_of m duration demand (record_count s - m) (record_at s m)
    ≡ rest_from m duration demand (record_count s - (m + 1)) (record_at s m) (record_at s (m + 1)) (record_at s (m + 1 + leading 3 (record_count s - (m + 1)) (record_at s (m + 1))))
rest_at s m duration demand h =
    let n : ℕ = record_count s - (m + 1) in
    let e : record_count s - m ≡ suc n = omega arith in
    let t : List ℕ = record_at s m in
    ap (λ (x : ℕ). rest_of m duration demand x t) e
    ∙ rest_is m duration demand n t
    ∙ ap (λ (a : List ℕ). rest_from m duration demand n t a (drop (24 * leading 3 n a) a)) (record_next s m)
    ∙ ap (rest_from m duration demand n t (record_at s (m + 1))) (record_on s (m + 1) (leading 3 n (record_at s (m + 1))))

-- ---- the causes, phase by phase

-- a range of m, then one, then j, then x
four_parts : (f : ℕ → Answer) (m j x : ℕ) → first_refusal (m + 1 + j + x) f
    ≡ followed_by (first_refusal m f) (followed_by (f m) (followed_by (first_refusal j (λ i. f (m + 1 + i))) (first_refusal x (λ i. f (m + 1 + j + i)))))
four_parts f m j x =
    let a : Answer = first_refusal m f in
    let c : Answer = first_refusal j (λ i. f (m + 1 + i)) in
    let d : Answer = first_refusal x (λ i. f (m + 1 + j + i)) in
    let one : first_refusal (m + 1) f ≡ followed_by a (f m) =
    refusal_split m 1 f ∙ ap (followed_by a) (refusal_one (λ i. f (m + i)) ∙ ap f (add-zero m)) in
    refusal_split (m + 1 + j) x f
    ∙ ap (λ (y : Answer). followed_by y d) (refusal_split (m + 1) j f ∙ ap (λ (y : Answer). followed_by y c) one ∙ followed_assoc a (f m) c)
    ∙ followed_assoc a (followed_by (f m) c) d
    ∙ ap (followed_by a) (followed_assoc (f m) c d)

module _ (s : List ℕ) where
  abbrev activities_cause : Answer
  activities_cause = first_refusal (activity_count s) (λ i. activity_cause i (record_at s i))

  activities_phase : first_refusal (activity_count s) (cause_at s) ≡ activities_cause
  activities_phase = refusal_cong (activity_count s) (cause_at s) (λ i. activity_cause i (record_at s i)) (λ i h. at_activity s i h)

  crew_phase : cause_at s (activity_count s) ≡ crew_cause (activity_count s) (demands_of s) (record_at s (activity_count s))
  crew_phase = at_crew s (activity_count s) refl

  -- an arc of the part of the file from record a on, before which there is none of the type
  arc_phase : (type a i : ℕ) → activity_count s < a → ((x : ℕ) → x < a → type_at s x ≢ type) → due_type s (a + i) ≡ type
      → cause_at s (a + i) ≡ arc_in type a (activity_count s) (record_at s a) i
  arc_phase type a i h none e =
      let m : ℕ = activity_count s in
      let own : ℕ → List ℕ → Answer = λ d r. arc_cause d (a + i) m r in
      at_arc s (a + i) (omega arith)
      ∙ ap (λ (c : Answer). rule c (not (arc_repeats s (a + i))) (RepeatedArc (a + i))) (ap₂ own e (sym (record_on s a i)))
      ∙ rule_cong (own type (record_at (record_at s a) i)) (RepeatedArc (a + i))
      (λ k. ap not (repeats_on s a i type none (ap (λ (r : List ℕ). byte r 0) (sym (record_on s a i)) ∙ (arc_kept type (a + i) m (record_at (record_at s a) i) k).typed)))

  -- where the record after the activities is a crew record
  module _ (crewed : type_at s (activity_count s) ≡ 2) where
    jobs_phase : first_refusal (job_count s) (λ i. cause_at s (activity_count s + 1 + i)) ≡ arcs_cause 3 (activity_count s + 1) (activity_count s) (record_at s (activity_count s + 1)) (job_count s)
    jobs_phase =
        let m : ℕ = activity_count s in
        refusal_cong (job_count s) (λ i. cause_at s (m + 1 + i)) (arc_in 3 (m + 1) m (record_at s (m + 1)))
        (λ i h. arc_phase 3 (m + 1) i (omega arith) (λ x l. no_arc s crewed 3 x (omega arith) (omega arith)) (due_job s (m + 1 + i) (omega arith)))

    extras_phase : (x : ℕ) → first_refusal x (λ i. cause_at s (activity_count s + 1 + job_count s + i))
        ≡ arcs_cause 4 (activity_count s + 1 + job_count s) (activity_count s) (record_at s (activity_count s + 1 + job_count s)) x
    extras_phase x =
        let m : ℕ = activity_count s in
        let a : ℕ = m + 1 + job_count s in
        refusal_cong x (λ i. cause_at s (a + i)) (arc_in 4 a m (record_at s a)) (λ i h. arc_phase 4 a i (omega arith) (no_extra s crewed) (due_extra s (a + i) (omega arith)))

  -- how many records follow the job arcs
  abbrev extra_count : ℕ
  extra_count = record_count s - (activity_count s + 1) - job_count s

  counted : activity_count s < record_count s → record_count s ≡ activity_count s + 1 + job_count s + extra_count
  counted h = omega (arith, leading_le 3 (record_count s - (activity_count s + 1)) (record_at s (activity_count s + 1)))

  -- the answer and the plan from the crew record on
  abbrev last_cause : Answer
  last_cause =
      let m = activity_count s in
      let j = job_count s in
      rest_cause m (demands_of s) j extra_count (record_at s m) (record_at s (m + 1)) (record_at s (m + 1 + j))

  abbrev last_plan : Plan
  last_plan =
      let m = activity_count s in
      let j = job_count s in
      rest_plan m (durations_of s) (demands_of s) j extra_count (record_at s m) (record_at s (m + 1)) (record_at s (m + 1 + j))

  all_phases : activity_count s < record_count s → records_cause s ≡ followed_by activities_cause last_cause
  unfolding records_cause
  all_phases h =
      let f : ℕ → Answer = cause_at s in
      let m : ℕ = activity_count s in
      let j : ℕ = job_count s in
      let J : Answer = first_refusal j (λ i. f (m + 1 + i)) in
      let X : Answer = first_refusal extra_count (λ i. f (m + 1 + j + i)) in
      let crew : Answer = crew_cause m (demands_of s) (record_at s m) in
      let jobs : Answer = arcs_cause 3 (m + 1) m (record_at s (m + 1)) j in
      let arcs : type_at s m ≡ 2 → followed_by J X ≡ followed_by jobs (arcs_cause 4 (m + 1 + j) m (record_at s (m + 1 + j)) extra_count) =
      λ c. ap (λ (y : Answer). followed_by y X) (jobs_phase c) ∙ ap (followed_by jobs) (extras_phase c extra_count) in
      let rest = ap (λ (y : Answer). followed_by y (followed_by J X)) crew_phase ∙ followed_cong crew (λ e. arcs (crew_kept m (demands_of s) (record_at s m) e).typed) in
      ap (followed_by (first_refusal (record_count s) f)) (crew_there_lem s h)
      ∙ followed_none (first_refusal (record_count s) f)
      ∙ ap (λ (n : ℕ). first_refusal n f) (counted h)
      ∙ four_parts f m j extra_count
      ∙ ap (λ (y : Answer). followed_by y (followed_by (f m) (followed_by J X))) activities_phase
      ∙ ap (followed_by activities_cause) rest

  -- a file with no cause: its plan is the one that the phases stored
  last_plan_lem : Faultless s → last_plan ≡ plan_of s
  unfolding plan_of available_of file_kinds file_available
  last_plan_lem F =
      let all = counted F.crewed in
      rw (demands_told s, job_rows s F extra_count all, extra_rows s F extra_count all)

  -- ---- the reading

  read_is : is_length (length s) ≡ true → read_of s ≡ reading (records_cause s) (plan_of s)
  unfolding read_of answer_of
  read_is e = ap (λ (b : Bool). reading (cond b (records_cause s) (Err Length)) (plan_of s)) e

  file_is : file_of (record_count s) s ≡ unless_refused activities_cause (rest_of (activity_count s) (upto (put_duration s) (activity_count s) (replicate elements 0))
      (upto (put_demands s) (activity_count s) (replicate (8 * elements) 0)) (record_count s - activity_count s) (record_at s (activity_count s)))
  unfolding file_of
  file_is = refl

  -- no crew record
  no_crew : activity_count s ≡ record_count s → file_of (record_count s) s ≡ reading (records_cause s) (plan_of s)
  unfolding records_cause rest_of
  no_crew e =
      let m : ℕ = activity_count s in
      let D : List ℕ = upto (put_duration s) m (replicate elements 0) in
      let E : List ℕ = upto (put_demands s) m (replicate (8 * elements) 0) in
      let z : record_count s - m ≡ 0 = omega arith in
      let missing : Answer = Err (RecordType (record_count s)) in
      let all : Answer = first_refusal (record_count s) (cause_at s) in
      let R : all ≡ activities_cause = ap (λ (n : ℕ). first_refusal n (cause_at s)) (sym e) ∙ activities_phase in
      let answers = ap (λ (a : Answer). followed_by a missing) (sym R) ∙ ap (followed_by all) (sym (crew_missing s e)) in
      file_is
      ∙ ap (λ (n : ℕ). unless_refused activities_cause (rest_of m D E n (record_at s m))) z
      ∙ ap (λ (n : ℕ). unless_refused activities_cause (refusal_of (Err (RecordType n)))) e
      ∙ unless_reading activities_cause missing (plan_of s)
      ∙ ap (λ (a : Answer). reading a (plan_of s)) answers

  with_crew : activity_count s < record_count s → file_of (record_count s) s ≡ reading (records_cause s) (plan_of s)
  with_crew h =
      let m : ℕ = activity_count s in
      let few : is_readable activities_cause ≡ true → m ≤ elements = λ e. omega (arith, few_activities m s (all_readable m (λ i. activity_cause i (record_at s i)) e)) in
      let on : List ℕ → List ℕ → Reading = λ d q. rest_of m d q (record_count s - m) (record_at s m) in
      file_is
      ∙ unless_cong activities_cause (λ e. ap₂ on (durations_stored s (few e)) (demands_stored s (few e)) ∙ rest_at s m (durations_of s) (demands_of s) h)
      ∙ unless_reading activities_cause last_cause last_plan
      ∙ ap (λ (a : Answer). reading a last_plan) (sym (all_phases h))
      ∙ reading_cong (records_cause s) (λ e. last_plan_lem (faultless s e))

-- THE PHASES OF THE CODE COME TO THE READING
pub file_read : (s : List ℕ) → is_length (length s) ≡ true → file_of (record_count s) s ≡ read_of s
file_read s e = ⊎_elim (no_crew s) (with_crew s) (crew_or_missing s) ∙ sym (read_is s e)
