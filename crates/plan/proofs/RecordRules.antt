-- What a record with no cause tells: each of its rules is kept.
use mathlib.Core.Path.{◌≡◌, refl, sym, ap, ◌∙◌}
use mathlib.Core.Bool.{Bool, true, false, not, cond, ◌&&◌, true≢false, false≢true}
use mathlib.Core.List.{List}
use Prim.Native.Nat.{ℕ, zero, suc, ◌+◌, ◌-◌, ◌*◌, ◌≤◌, ◌<◌}
use native.Mathlib.Omega.{arith}
use lib.ListN.{get_or, take, length-take, get_or-eq_default}
use lib.Seq.{slice, get_or-take, get_or-drop}
use lib.Dec.{eqb, leb, ltb}
use borrow.Author.Tests.{ltb-true, ltb-false, leb-true, eqb-true, eqb-false, eq-eqb, lt-ltb, le-ltb, ne_eqb, not-false}
use Rattle.words.proofs.Tests.{by_test, test_same, and_left, and_right, cond_true, cond_false, cond_has}
use Rattle.records.proofs.Zeros.{all_zero, zeros_of}
use Rattle.records.specs.Bytes.{byte, zeros}
use Rattle.order.specs.Stored.{elements}
use Rattle.std.specs.Prelude.{Ok, Err}
use Rattle.plan.specs.declared.Cause.{Cause}
use Rattle.plan.specs.declared.Cause.TheVariants.{RecordType, Field, MilestoneDemand, Spare, RepeatedArc}
use Rattle.plan.specs.Records.{record_at, activity_count, job_count, due_type, activity_fields, activity_timed, crew_fields, is_end, arc_fields, arc_repeats, activities, demands_of}
use Rattle.plan.specs.Causes.{Answer, rule, is_readable, activity_cause, crew_cause, arc_cause, cause_at}

-- ---- bytes that are zero

pub zeros_mean : (l : List ℕ) (a b i : ℕ) → zeros (slice a b l) ≡ true → a ≤ i → i < b → get_or l i 0 ≡ 0
zeros_mean l a b i e lo hi =
    let q : a + (i - a) ≡ i = omega arith in
    sym (get_or-take b l i 0 hi)
    ∙ ap (λ (x : ℕ). get_or (take b l) x 0) (sym q)
    ∙ sym (get_or-drop a (take b l) (i - a) 0)
    ∙ all_zero (slice a b l) e (i - a)

-- and the other way round; past the end there is nothing to look at
zeros_meant : (l : List ℕ) (a b : ℕ) → ((i : ℕ) → a ≤ i → i < b → get_or l i 0 ≡ 0) → zeros (slice a b l) ≡ true
zeros_meant l a b h =
    zeros_of (slice a b l)
    (λ i.
    get_or-drop a (take b l) i 0
    ∙ by_test (ltb (a + i) b)
    (λ t. get_or-take b l (a + i) 0 (ltb-true (a + i) b t) ∙ h (a + i) (omega arith) (ltb-true (a + i) b t))
    (λ t. get_or-eq_default (take b l) 0 (omega (arith, length-take b l, ltb-false (a + i) b t))))

-- so the test goes by the bytes alone
pub zeros_same : (q r : List ℕ) (a b : ℕ) → ((i : ℕ) → a ≤ i → i < b → byte q i ≡ byte r i) → zeros (slice a b q) ≡ zeros (slice a b r)
zeros_same q r a b same =
    test_same (zeros (slice a b q)) (zeros (slice a b r)) (
      (λ e. zeros_meant r a b (λ i lo hi. sym (same i lo hi) ∙ zeros_mean q a b i e lo hi)),
      (λ e. zeros_meant q a b (λ i lo hi. same i lo hi ∙ zeros_mean r a b i e lo hi)),
    )

-- ---- a chain of rules with no cause: the last rule is kept, and the chain before it has no cause

pub rule_kept : (answer : Answer) (kept : Bool) (cause : Cause) → is_readable (rule answer kept cause) ≡ true → kept ≡ true
unfolding rule
rule_kept (Ok _) true cause e = refl
rule_kept (Ok _) false cause e = absurd (false≢true e)
rule_kept (Err c) kept cause e = absurd (false≢true e)

pub rule_before : (answer : Answer) (kept : Bool) (cause : Cause) → is_readable (rule answer kept cause) ≡ true → is_readable answer ≡ true
unfolding rule
rule_before (Ok _) kept cause e = refl
rule_before (Err c) kept cause e = e

-- and the other way round: a rule that is kept after it gives none, and one that is broken its cause
pub rule_keeps : (answer : Answer) (kept : Bool) (cause : Cause) → is_readable answer ≡ true → kept ≡ true
    → rule answer kept cause ≡ Ok tt
unfolding rule
rule_keeps (Ok _) true cause r e = refl
rule_keeps (Ok _) false cause r e = absurd (false≢true e)
rule_keeps (Err c) kept cause r e = absurd (false≢true r)

pub rule_breaks : (answer : Answer) (kept : Bool) (cause : Cause) → is_readable answer ≡ true → kept ≡ false
    → rule answer kept cause ≡ Err cause
unfolding rule
rule_breaks (Ok _) true cause r e = absurd (true≢false e)
rule_breaks (Ok _) false cause r e = refl
rule_breaks (Err c) kept cause r e = absurd (false≢true r)

-- the next rule matters only where none before it was broken
pub rule_cong : (answer : Answer) {a b : Bool} (cause : Cause) → (is_readable answer ≡ true → a ≡ b) → rule answer a cause ≡ rule answer b cause
unfolding rule
rule_cong (Ok _) cause h = ap (λ (x : Bool). rule (Ok tt) x cause) (h refl)
rule_cong (Err c) cause h = refl

-- and so in a chain, where those before it say the same
pub rule_same : {answer other : Answer} {a b : Bool} (cause : Cause) → answer ≡ other → (is_readable answer ≡ true → a ≡ b) → rule answer a cause ≡ rule other b cause
rule_same {answer} {other} {a} {b} cause e h = rule_cong answer cause h ∙ ap (λ (x : Answer). rule x b cause) e

-- what holds of the cause of an answer, if it has one, and of the cause of the next rule, where that is the one broken, holds after it
abbrev pub Holds : (Cause → Type 0) → Answer → Type 0
Holds P (Ok tt) = Unit {0}
Holds P (Err c) = P c

rule_holds : (P : Cause → Type 0) (answer : Answer) (kept : Bool) (cause : Cause) → Holds P answer → (is_readable answer ≡ true → kept ≡ false → P cause) → Holds P (rule answer kept cause)
unfolding rule
rule_holds P (Ok _) true cause h k = tt
rule_holds P (Ok _) false cause h k = k refl refl
rule_holds P (Err c) kept cause h k = h

-- an activity with no cause stands at one of the places that a file has for activities, and so do m of them
pub activity_placed : (p : ℕ) (r : List ℕ) → is_readable (activity_cause p r) ≡ true → p + 1 ≤ activities
unfolding activity_cause activity_fields
activity_placed p r e =
    let h = ltb-true p activities
    (and_left (ltb p activities) (eqb (byte r 1) (p + 1))
    (rule_kept _ _ _ (rule_before _ _ _ (rule_before _ _ _ e)))) in
    omega (arith, h)

pub few_activities : (m : ℕ) (s : List ℕ) → ((p : ℕ) → p < m → is_readable (activity_cause p (record_at s p)) ≡ true) → m ≤ activities
few_activities zero s h = omega arith
few_activities (suc m) s h = omega (arith, activity_placed m (record_at s m) (h m (omega arith)))

-- the crew record with no cause
pub record CrewKept (demand r : List ℕ) : Type 0 where
  pub typed : byte r 0 ≡ 2
  pub few : byte r 1 ≤ 8
  pub no_demand : (i : ℕ) → elements * byte r 1 ≤ i → i < 8 * elements → get_or demand i 0 ≡ 0

pub crew_kept : (place : ℕ) (demand r : List ℕ) → is_readable (crew_cause place demand r) ≡ true → CrewKept demand r
unfolding crew_cause crew_fields
crew_kept place demand r e =
    let a : Bool = ltb 0 (byte r 1) in
    let b : Bool = leb (byte r 1) 8 in
    let c : Bool = zeros (slice (4 + 2 * byte r 1) 20 r) in
    let d : Bool = zeros (slice (elements * byte r 1) (8 * elements) demand) in
    let f : a && (b && (c && d)) ≡ true = rule_kept _ _ _ (rule_before _ _ _ e) in
    let g : b && (c && d) ≡ true = and_right a (b && (c && d)) f in
    record {
      typed = eqb-true (byte r 0) 2 (rule_kept _ _ _ (rule_before _ _ _ (rule_before _ _ _ e)));
      few = leb-true (byte r 1) 8 (and_left b (c && d) g);
      no_demand = λ i lo hi. zeros_mean demand (elements * byte r 1) (8 * elements) i (and_right c d (and_right b (c && d) g)) lo hi;
    }

-- an arc with no cause, of the type that is due, among m activities
pub record ArcKept (type m : ℕ) (r : List ℕ) : Type 0 where
  pub typed : byte r 0 ≡ type
  pub from_low : 1 ≤ byte r 1
  pub from_high : byte r 1 ≤ m
  pub to_low : 1 ≤ byte r 2
  pub to_high : byte r 2 ≤ m

pub arc_kept : (type place m : ℕ) (r : List ℕ) → is_readable (arc_cause type place m r) ≡ true → ArcKept type m r
unfolding arc_cause arc_fields
arc_kept type place m r e =
    let a : Bool = is_end m (byte r 1) in
    let b : Bool = is_end m (byte r 2) in
    let d : Bool = not (eqb (byte r 1) (byte r 2)) in
    let f : a && (b && d) ≡ true = rule_kept _ _ _ (rule_before _ _ _ e) in
    let from = and_left a (b && d) f in
    let to = and_left b d (and_right a (b && d) f) in
    record {
      typed = eqb-true (byte r 0) type (rule_kept _ _ _ (rule_before _ _ _ (rule_before _ _ _ e)));
      from_low = ltb-true 0 (byte r 1) (and_left (ltb 0 (byte r 1)) (leb (byte r 1) m) from);
      from_high = leb-true (byte r 1) m (and_right (ltb 0 (byte r 1)) (leb (byte r 1) m) from);
      to_low = ltb-true 0 (byte r 2) (and_left (ltb 0 (byte r 2)) (leb (byte r 2) m) to);
      to_high = leb-true (byte r 2) m (and_right (ltb 0 (byte r 2)) (leb (byte r 2) m) to);
    }

-- the same, of a type that is said otherwise, and among more activities
pub arc_of : {type other m : ℕ} {r : List ℕ} → byte r 0 ≡ type → ArcKept other m r → ArcKept type m r
arc_of e K = record { typed = e; from_low = K.from_low; from_high = K.from_high; to_low = K.to_low; to_high = K.to_high }

pub arc_among : {type m n : ℕ} {r : List ℕ} → m ≤ n → ArcKept type m r → ArcKept type n r
arc_among h K = record { typed = K.typed; from_low = K.from_low; from_high = omega (arith, K.from_high); to_low = K.to_low; to_high = omega (arith, K.to_high) }

-- ---- which rules a record has, by its place

pub at_activity : (s : List ℕ) (p : ℕ) → p < activity_count s → cause_at s p ≡ activity_cause p (record_at s p)
unfolding cause_at
at_activity s p h = cond_true _ _ (lt-ltb p (activity_count s) h)

pub at_crew : (s : List ℕ) (p : ℕ) → p ≡ activity_count s → cause_at s p ≡ crew_cause p (demands_of s) (record_at s p)
unfolding cause_at
at_crew s p e = cond_false _ _ (le-ltb p (activity_count s) (omega arith)) ∙ cond_true _ _ (eq-eqb p (activity_count s) e)

pub at_arc : (s : List ℕ) (p : ℕ) → activity_count s < p
    → cause_at s p ≡ rule (arc_cause (due_type s p) p (activity_count s) (record_at s p)) (not (arc_repeats s p)) (RepeatedArc p)
unfolding cause_at
at_arc s p h = cond_false _ _ (le-ltb p (activity_count s) (omega arith)) ∙ cond_false _ _ (ne_eqb p (activity_count s) (λ e. omega arith))

pub due_job : (s : List ℕ) (p : ℕ) → p < activity_count s + 1 + job_count s → due_type s p ≡ 3
due_job s p h = cond_true 3 4 (lt-ltb p (activity_count s + 1 + job_count s) h)

pub due_extra : (s : List ℕ) (p : ℕ) → activity_count s + 1 + job_count s ≤ p → due_type s p ≡ 4
due_extra s p h = cond_false 3 4 (le-ltb p (activity_count s + 1 + job_count s) h)

-- ---- WHAT HOLDS OF EACH CAUSE THAT A RECORD CAN HAVE holds of the one that it has; of those that one type alone has, where its own rule is the first that is broken

pub cause_holds : (P : Cause → Type 0) (s : List ℕ) (p : ℕ) → P (RecordType p) → P (Field p)
    → (p < activity_count s → activity_fields p (record_at s p) ≡ true → activity_timed (record_at s p) ≡ false → P (MilestoneDemand p)) → P (Spare p)
    → (activity_count s < p → is_readable (arc_cause (due_type s p) p (activity_count s) (record_at s p)) ≡ true → arc_repeats s p ≡ true → P (RepeatedArc p)) → Holds P (cause_at s p)
unfolding cause_at activity_cause crew_cause arc_cause
cause_holds P s p typed fields timed spare repeated =
    let m : ℕ = activity_count s in
    let r : List ℕ = record_at s p in
    let crew : Answer = crew_cause p (demands_of s) r in
    let arc : Answer = rule (arc_cause (due_type s p) p m r) (not (arc_repeats s p)) (RepeatedArc p) in
    cond_has (Holds P) (ltb p m) (activity_cause p r) (cond (eqb p m) crew arc)
    (λ t.
    rule_holds P _ _ (Spare p)
    (rule_holds P _ _ (MilestoneDemand p) (rule_holds P (Ok tt) _ (Field p) tt (λ _ _. fields))
    (λ a b. timed (ltb-true p m t) (rule_kept _ _ _ a) b))
    (λ _ _. spare))
    (λ t.
    cond_has (Holds P) (eqb p m) crew arc (λ _. three _ _ _)
    (λ u. rule_holds P _ _ (RepeatedArc p) (three _ _ _) (λ a b. repeated (omega (arith, ltb-false p m t, eqb-false p m u)) a (not-false (arc_repeats s p) b))))
  where
    three : (a b c : Bool) → Holds P (rule (rule (rule (Ok tt) a (RecordType p)) b (Field p)) c (Spare p))
    three a b c =
        rule_holds P _ c (Spare p)
        (rule_holds P _ b (Field p) (rule_holds P (Ok tt) a (RecordType p) tt (λ _ _. typed)) (λ _ _. fields))
        (λ _ _. spare)
