-- What the proofs of the reader's functions share: a turn of each loop, the tests that the code
-- makes, and what follows a test.
use mathlib.Core.Path.{◌≡◌, refl, sym, ap, ◌∙◌}
use mathlib.Core.Bool.{Bool, true, false, not}
use mathlib.Core.List.{List}
use mathlib.Core.Logic.{◌↔◌, ◌≢◌, by_cases}
use Prim.Native.Nat.{ℕ, ◌+◌, ◌-◌, ◌≤◌, ◌<◌}
use native.Mathlib.Omega.{arith}
use native.Mathlib.Decide.{dec_lt}
use lib.ListN.{length, get_or, take, drop, length-drop, get_or-eq_default}
use lib.Seq.{slice}
use lib.Dec.{ltb}
use Rattle.std.proofs.lemmas.List.{drop-take}
use borrow.Author.Count.{below_more}
use borrow.Author.Tests.{lt-ltb, le-ltb, ltb-true}
use Rattle.words.specs.Members.{first, some}
use Rattle.words.specs.Tables.{table}
use Rattle.words.specs.model.Loops.{upto}
use Rattle.words.proofs.Loops.{up_again}
use Rattle.words.proofs.Tables.{length_table, get_d_table}
use Rattle.words.proofs.Tests.{clash, test_same, cond_true, cond_false}
use Rattle.words.proofs.Firsts.{first_none, first_stop, first_end, some_here, some_found}
use Rattle.records.specs.Bytes.{zeros}
use Rattle.records.proofs.Zeros.{all_zero, zeros_of}
use Rattle.order.specs.Stored.{elements}
use Rattle.std.specs.Prelude.{Result, Ok, Err, IsErr, IsErrAnd}
use Rattle.std.proofs.lemmas.Result.{err_from_is_err_and}
use Rattle.plan.specs.declared.Cause.{Cause}
use Rattle.plan.specs.declared.Plan.{Plan}
use Rattle.plan.specs.model.Reads.{Reading, outcome}
use Rattle.plan.specs.Causes.{Answer, rule, is_readable, arc_cause, first_refusal}
use Rattle.plan.specs.model.ArcRows.{ArcRecord, with_arc, arcs_after}
use Rattle.plan.specs.model.Phases.{refusal_of, unless_refused}
use Rattle.records.proofs.Steps.{rest_of_lem}
use Rattle.plan.proofs.RecordRules.{arc_kept, arc_among}
use Rattle.plan.proofs.Refusals.{all_readable}
use Rattle.plan.proofs.Arcs.{after_same}

-- ---- a test that the code made and negated, as the definition has it

pub told : {b v : Bool} → b ≡ v → b ≡ true → v ≡ true
told e n = sym e ∙ n

pub told_not : {b v : Bool} → b ≡ v → b ≡ false → v ≡ false
told_not e n = sym e ∙ n

-- ---- what a `?` gives on

pub passed : {T E : Type 0} {r : Result T E} {e : E} → IsErr r × IsErrAnd r (λ y. y ≡ e) → r ≡ Err e
passed {T} {E} {r} {e} h = let p = err_from_is_err_and r h.1 in rw (p.1, p.2)

-- ---- a rule that the code tests: where it is broken, its cause is that of the chain, and where it is kept the next one matters

pub rule_err : {a : Answer} {c : Cause} (kept : Bool) (cause : Cause) → a ≡ Err c → rule a kept cause ≡ Err c
unfolding rule
rule_err kept cause e = rw e

pub rule_on : {a : Answer} {u : Unit {0}} (kept : Bool) (cause : Cause) → a ≡ Ok u
    → rule a kept cause ≡ rule (Ok tt) kept cause
unfolding rule
rule_on kept cause e = rw e

-- and alone, it tells whether it is kept
pub rule_broken : (kept : Bool) (cause : Cause) {c : Cause} → rule (Ok tt) kept cause ≡ Err c
    → (kept ≡ false) × (cause ≡ c)
unfolding rule
rule_broken true cause e = absurd (cc e)
rule_broken false cause e = (refl, cc e)

-- ---- a test of each byte

pub zeros_by : (l : List ℕ) (t : Bool) → (t ≡ true ↔ ((k : ℕ) → k < length l → get_or l k 0 ≡ 0)) → t ≡ zeros l
zeros_by l t h =
    test_same t (zeros l) (
      (λ e. zeros_of l (λ i. by_cases (dec_lt i (length l)) (h.0 e i) (λ n. get_or-eq_default l 0 (omega arith)))),
      (λ e. h.1 (λ k _. all_zero l e k)),
    )

-- of a part of a list, as the definitions cut it
pub part_is : (a n b : ℕ) (l : List ℕ) → a + n ≡ b → take n (drop a l) ≡ slice a b l
part_is a n b l e = sym (drop-take a n l) ∙ ap (λ (x : ℕ). drop a (take x l)) e

-- a test of each of n fields, which stand in a list
pub some_by : (n : ℕ) (f : ℕ → ℕ) (l : List ℕ) (t : Bool) → l ≡ table n f
    → (t ≡ true ↔ ((k : ℕ) × (k < length l) × (get_or l k 0 ≢ 0))) → t ≡ some n (λ k. ltb 0 (f k))
some_by n f l t e h =
    test_same t (some n (λ k. ltb 0 (f k))) (
      (λ y. let w = h.0 y in some_here n (λ k. ltb 0 (f k)) w.0 (omega (arith, w.1, long))
          (lt-ltb 0 (f w.0) (omega (arith, w.2, at w.0 (omega (arith, w.1, long)))))),
      (λ y. let w = some_found n (λ k. ltb 0 (f k)) y in h.1
          (w.0, omega (arith, w.1, long), λ z. omega (arith, z, at w.0 w.1, ltb-true 0 (f w.0) w.2))),
    )
  where
    long : length l ≡ n
    long = ap length e ∙ length_table n f

    at : (k : ℕ) → k < n → get_or l k 0 ≡ f k
    at k m = ap (λ (x : List ℕ). get_or x k 0) e ∙ get_d_table n f k 0 m

-- ---- a loop that counts up, whose step is the next one of `upto`

pub up_next : {S : Type 0} (f : ℕ → S → S) (k : ℕ) (s₀ : S) {s s' : S} → s ≡ upto f k s₀ → s' ≡ f k s
    → s' ≡ upto f (k + 1) s₀
up_next f k s₀ e t = (up_again f (k + 1) k s₀ (omega arith) (e, omega arith) t).0

-- ---- what is left of lent bytes

pub length_rest : (a : ℕ) (s : List ℕ) → length (take (length s - a) (drop a s)) ≡ length s - a
length_rest a s = rw (rest_of_lem, length-drop)

-- ---- a loop that looks for the first refusal among f 0, .., f (n - 1)

abbrev pub refuses : (ℕ → Answer) → ℕ → Bool
refuses f i = not (is_readable (f i))

module _ (n : ℕ) (f : ℕ → Answer) where
  -- at i, where none before it is refused: `answer` is what the code finds there
  module _ (i : ℕ) (none : (k : ℕ) → k < i → is_readable (f k) ≡ true) where
    module _ {answer : Answer} (found : answer ≡ f i) where
      pub given_here : {c : Cause} → i < n → answer ≡ Err c → i ≡ first n (refuses f)
      given_here l e = first_stop n (refuses f) i (λ k m. ap not (none k m)) l
          (ap (λ (a : Answer). not (is_readable a)) (sym found ∙ e))

      pub given_stop : {c : Cause} → i < n → answer ≡ Err c → Err c ≡ first_refusal n f
      unfolding first_refusal
      given_stop l e =
          let p = given_here l e in
          sym e ∙ found ∙ ap f p
          ∙ sym (cond_true (f (first n (refuses f))) (Ok tt) (lt-ltb (first n (refuses f)) n (omega arith)))

      pub given_again : {u : Unit {0}} → answer ≡ Ok u → (k : ℕ) → k < i + 1 → is_readable (f k) ≡ true
      given_again e = below_more (λ k. is_readable (f k) ≡ true) i none (ap is_readable (sym found ∙ e))

    -- by a test: `b` is what it says of the answer
    module _ {answer : Answer} {b : Bool} (found : answer ≡ f i) (test : b ≡ is_readable answer) where
      pub refusal_here : i < n → b ≡ false → i ≡ first n (refuses f)
      refusal_here l e =
          first_stop n (refuses f) i (λ k m. ap not (none k m)) l (ap not (told_not (test ∙ ap is_readable found) e))

      pub refusal_stop : i < n → b ≡ false → answer ≡ first_refusal n f
      unfolding first_refusal
      refusal_stop l e =
          let p = refusal_here l e in
          found ∙ ap f p
          ∙ sym (cond_true (f (first n (refuses f))) (Ok tt) (lt-ltb (first n (refuses f)) n (omega arith)))

      pub refusal_again : b ≡ true → (k : ℕ) → k < i + 1 → is_readable (f k) ≡ true
      refusal_again e =
          below_more (λ k. is_readable (f k) ≡ true) i none (told (test ∙ ap is_readable found) e)

    pub refusal_none : n ≤ i → i ≤ n → n ≡ first n (refuses f)
    refusal_none l h = first_end n (refuses f) i (λ k m. ap not (none k m)) (omega arith)

    pub refusal_end : n ≤ i → i ≤ n → Ok tt ≡ first_refusal n f
    unfolding first_refusal
    refusal_end l h =
        let p = refusal_none l h in
        sym (cond_false (f (first n (refuses f))) (Ok tt) (le-ltb (first n (refuses f)) n (omega arith)))

-- where nothing is refused, all of them are passed
pub refusal_passed : (n : ℕ) (f : ℕ → Answer) → is_readable (first_refusal n f) ≡ true → first n (refuses f) ≡ n
refusal_passed n f e = (first_none n (refuses f)).1 (λ i l. ap not (all_readable n f e i l))

-- ---- what follows an answer: `answer` is what the code found, b what a test said of it, and q the reading that
-- follows

unless_readable : (a : Answer) (next : Reading) → is_readable a ≡ true → next ≡ unless_refused a next
unless_readable (Ok _) next e = refl
unless_readable (Err c) next e = clash refl (sym e)

unless_refused_lem : (a : Answer) (next : Reading) → is_readable a ≡ false → refusal_of a ≡ unless_refused a next
unless_refused_lem (Ok _) next e = clash refl e
unless_refused_lem (Err c) next e = refl

module _ {answer cause : Answer} {b : Bool} (found : answer ≡ cause) (test : b ≡ is_readable answer) where
  pub accepted : b ≡ true → is_readable cause ≡ true
  accepted e = told (test ∙ ap is_readable found) e

  pub then_on : {q next : Reading} → b ≡ true → q ≡ next → q ≡ unless_refused cause next
  then_on {q} {next} e g = g ∙ unless_readable cause next (accepted e)

  pub then_refused : {q : Reading} (next : Reading) → b ≡ false → q ≡ refusal_of answer → q ≡ unless_refused cause next
  then_refused next e g =
      g ∙ ap refusal_of found ∙ unless_refused_lem cause next (told_not (test ∙ ap is_readable found) e)

-- and by a `?`: r is what the function then gives

module _ {answer cause : Answer} (found : answer ≡ cause) where
  pub given_fine : {u : Unit {0}} → answer ≡ Ok u → is_readable cause ≡ true
  given_fine e = ap is_readable (sym found ∙ e)

  pub given_on : {u : Unit {0}} {r : Result Plan Cause} (next : Reading) → answer ≡ Ok u → r ≡ outcome next
      → r ≡ outcome (unless_refused cause next)
  given_on next e g = g ∙ ap (λ (a : Answer). outcome (unless_refused a next)) (sym e ∙ found)

  pub given_refused : {c : Cause} (next : Reading) → answer ≡ Err c → Err c ≡ outcome (unless_refused cause next)
  given_refused next e = ap (λ (a : Answer). outcome (unless_refused a next)) (sym e ∙ found)

-- an arc with no cause by itself can be looked up and stored
pub arc_record : (type place m : ℕ) (r : List ℕ) → is_readable (arc_cause type place m r) ≡ true → 24 ≤ length r → m ≤ elements → ArcRecord r
arc_record type place m r e whole few =
    let K = arc_among few (arc_kept type place m r e) in
    (whole, K.from_low, K.from_high, K.to_low, K.to_high)

-- a record that the loop has looked at and found to be an arc of the type: the loop stores what the definition says
pub arc_stored : (type place m : ℕ) (r rows : List ℕ) {now : List ℕ} → is_readable (arc_cause type place m r) ≡ true → now ≡ with_arc r rows → now ≡ arcs_after type r rows
arc_stored type place m r rows e g = g ∙ sym (after_same type r rows (arc_kept type place m r e).typed)
