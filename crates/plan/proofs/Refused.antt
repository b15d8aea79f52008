-- What a refusal means in plain words, and which files are refused and read.
use mathlib.Core.Path.{◌≡◌, refl, sym, ap, ◌∙◌, subst}
use mathlib.Core.Bool.{Bool, true, false, not, ◌&&◌, false≢true}
use mathlib.Core.List.{List}
use mathlib.Core.Logic.{◌⊎◌, inl, inr, ⊎_elim, ◌↔◌, ◌≢◌}
use Prim.Native.Nat.{ℕ, ◌%◌, ◌≤◌, ◌<◌}
use native.Mathlib.Omega.{arith}
use lib.ListN.{length}
use lib.Dec.{eqb, leb, ltb}
use borrow.Author.Tests.{ltb-true, leb-true, eqb-true, lt-ltb, le-leb, eq-eqb}
use Rattle.words.specs.Members.{first}
use Rattle.words.proofs.Firsts.{first_stop}
use Rattle.words.proofs.Tests.{by_test, holds, and_left, and_right, and_both, cond_true, cond_false}
use Rattle.std.specs.Prelude.{Ok, Err}
use Rattle.plan.specs.declared.Cause.{Cause}
use Rattle.plan.specs.declared.Cause.TheVariants.{Length}
use Rattle.plan.specs.Records.{record_count, type_at, activity_count}
use Rattle.plan.specs.Causes.{Answer, is_readable, cause_at, first_refusal, followed_by, crew_there, records_cause, is_length, answer_of}
use Rattle.plan.specs.Numbers.{told_by}
use Rattle.plan.specs.Refused.{WrongLength, FirstFault, CrewMissing}
use Rattle.plan.proofs.Refusals.{first_refused, all_readable}
use Rattle.plan.proofs.Places.{leading_ends}
use Rattle.plan.proofs.RecordRules.{Holds}
use Rattle.plan.proofs.Parts.{crew_missing, crew_there_lem, crew_or_missing, activity_typed}

-- ---- the length

-- "length 0, not a multiple of 24, or over 49,152" is cause 1; this is its opposite
pub length_says : (n : ℕ) → (is_length n ≡ true) ↔ ((0 < n) × (n ≤ 49152) × (n % 24 ≡ 0))
unfolding is_length
length_says n =
    let a : Bool = ltb 0 n in
    let b : Bool = leb n 49152 in
    let c : Bool = eqb (n % 24) 0 in (
      (λ e. (ltb-true 0 n (and_left a (b && c) e), leb-true n 49152 (and_left b c (and_right a (b && c) e)), eqb-true (n % 24) 0 (and_right b c (and_right a (b && c) e)))),
      (λ h. and_both a (b && c) (lt-ltb 0 n h.0) (and_both b c (le-leb n 49152 h.1) (eq-eqb (n % 24) 0 h.2))),
    )

-- the answer of a file of a legal length is that of its records
pub answer_records : (s : List ℕ) → is_length (length s) ≡ true → answer_of s ≡ records_cause s
unfolding answer_of
answer_records s e = cond_true (records_cause s) (Err Length) e

pub refused_length : (s : List ℕ) → is_length (length s) ≡ false → answer_of s ≡ Err Length
unfolding answer_of
refused_length s e = cond_false (records_cause s) (Err Length) e

-- ---- which files are refused and read

-- each record is an activity, so the crew record is missing
pub all_activities : (s : List ℕ) → ((p : ℕ) → p < record_count s → type_at s p ≡ 1) ↔ (activity_count s ≡ record_count s)
all_activities s = (
  (λ h. ⊎_elim (λ e. e) (λ l. absurd (leading_ends 1 (record_count s) s l (h (activity_count s) l))) (crew_or_missing s)),
  (λ e p l. activity_typed s p (omega arith)),
)

records_refused : (s : List ℕ) (c : Cause) → is_length (length s) ≡ true → records_cause s ≡ Err c
    → ((p : ℕ) × FirstFault s p (Err c)) ⊎ CrewMissing s c
unfolding records_cause
records_refused s c legal e = go (first_refusal (record_count s) (cause_at s)) refl e
  where
    go : (a : Answer) → first_refusal (record_count s) (cause_at s) ≡ a → followed_by a (crew_there s) ≡ Err c
        → ((p : ℕ) × FirstFault s p (Err c)) ⊎ CrewMissing s c
    go (Ok _) q e =
        let fine = all_readable (record_count s) (cause_at s) (ap is_readable q) in
        ⊎_elim
        (λ m.
        let h = sym (crew_missing s m) ∙ e in
        inr (record { legal = legal; fine = fine; activities = (all_activities s).1 m; cause = cc h }))
        (λ l. absurd (false≢true (sym (ap is_readable e) ∙ ap is_readable (crew_there_lem s l))))
        (crew_or_missing s)
    go (Err d) q e =
        let F = first_refused (record_count s) (cause_at s) (ap is_readable q) in
        inl (F.0, record { there = F.1; fault = sym F.2 ∙ q ∙ e; refused = refl; before = F.3 })

-- WHAT A REFUSAL MEANS
pub refused_means : (s : List ℕ) (c : Cause) → answer_of s ≡ Err c
    → WrongLength s c ⊎ (((p : ℕ) × FirstFault s p (Err c)) ⊎ CrewMissing s c)
refused_means s c e =
    by_test (is_length (length s))
    (λ t. inr (records_refused s c t (sym (answer_records s t) ∙ e)))
    (λ t. let h = sym (refused_length s t) ∙ e in inl (record { wrong = t; cause = cc h }))

-- a cause that is neither the length nor a record's type is the first fault of a record, and what holds of the cause of that record holds of it
pub refused_holds : (P : Cause → Type 0) (s : List ℕ) (c : Cause) → (told_by c).number ≢ 1 → (told_by c).number ≢ 2
    → answer_of s ≡ Err c
    → (is_length (length s) ≡ true → (p : ℕ) → FirstFault s p (Err c) → Holds P (cause_at s p)) → P c
refused_holds P s c one two e at =
    let number : Cause → ℕ = λ d. (told_by d).number in
    ⊎_elim
    (λ w. absurd (one (ap number w.cause)))
    (⊎_elim
    (λ w.
    let legal = holds (is_length (length s)) (λ t. let h = sym (refused_length s t) ∙ e in let q : Length ≡ c = cc h in one (ap number (sym q))) in
    subst (Holds P) w.1.fault (at legal w.0 w.1))
    (λ w. absurd (two (ap number w.cause))))
    (refused_means s c e)

-- and the other way round, at a record
pub fault_refused : (s : List ℕ) (p : ℕ) (c : Cause) → is_length (length s) ≡ true → FirstFault s p (Err c)
    → answer_of s ≡ Err c
unfolding records_cause first_refusal
fault_refused s p c legal F =
    let f : ℕ → Bool = λ i. not (is_readable (cause_at s i)) in
    let at = first_stop (record_count s) f p (λ x l. ap not (F.before x l)) F.there (ap (λ (a : Answer). not (is_readable a)) F.fault) in
    answer_records s legal
    ∙ ap (λ (a : Answer). followed_by a (crew_there s))
    (cond_true (cause_at s (first (record_count s) f)) (Ok tt)
    (lt-ltb (first (record_count s) f) (record_count s) (omega (arith, F.there))) ∙ ap (cause_at s) (sym at)
    ∙ F.fault)
