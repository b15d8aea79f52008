-- Repeated arcs: how the rows so far tell one, what 13 means, and that a readable file has none.
use mathlib.Core.Path.{◌≡◌, refl, sym, ap, ◌∙◌, subst}
use mathlib.Core.Bool.{true, not}
use mathlib.Core.List.{List}
use mathlib.Core.Logic.Iff
use mathlib.Core.Logic.{◌↔◌}
use Prim.Native.Nat.{ℕ, ◌+◌, ◌-◌, ◌≤◌, ◌<◌}
use native.Mathlib.Decide.{dec_lt}
use native.Mathlib.Omega.{arith}
use lib.ListN.{length, replicate}
use Rattle.words.specs.model.Loops.{upto}
use Rattle.words.proofs.Tests.{clash, test_same}
use Rattle.records.specs.Bytes.{byte}
use Rattle.order.specs.Stored.{elements, cells}
use Rattle.std.specs.Prelude.{Err}
use Rattle.plan.specs.declared.Cause.{Cause}
use Rattle.plan.specs.declared.Cause.TheVariants.{RepeatedArc}
use Rattle.plan.specs.Records.{record_at, record_count, type_at, activity_count, due_type, arc_repeats}
use Rattle.plan.specs.Causes.{rule, is_readable, arc_cause, is_length, answer_of}
use Rattle.plan.specs.Numbers.{told_by, place_of}
use Rattle.plan.specs.Meaning.{Readable, Names}
use Rattle.plan.specs.Refused.{FirstFault, RepeatedPair}
use Rattle.plan.specs.model.ArcRows.{has_arc}
use Rattle.plan.specs.model.Phases.{put_arc, arc_in}
use Rattle.plan.proofs.RecordRules.{rule_before, rule_breaks, rule_cong, ArcKept, arc_kept, arc_among, at_arc, cause_holds}
use Rattle.plan.proofs.Arcs.{arcs_run_whole}
use Rattle.plan.proofs.Parts.{Faultless, crew_fine, arc_new, no_arc}
use Rattle.plan.proofs.Repeats.{repeats_says}
use Rattle.plan.proofs.NamedArcs.{means}
use Rattle.plan.proofs.Said.{readable_faultless}
use Rattle.plan.proofs.Refused.{refused_holds, fault_refused}

-- ---- THE ROWS SO FAR tell it: where no record of t before i has a cause, and the rows are their arcs, what is looked up among the rows is what the definition asks of the records

pub looked_up : (type place m : ℕ) (t : List ℕ) (i : ℕ) {none rows : List ℕ} → m ≤ elements → none ≡ replicate (cells elements) 0 → rows ≡ upto (put_arc type t) i none
    → ((k : ℕ) → k < i → is_readable (arc_in type place m t k) ≡ true)
    → rule (arc_cause type (place + i) m (record_at t i)) (not (has_arc rows (record_at t i))) (RepeatedArc (place + i)) ≡ arc_in type place m t i
looked_up type place m t i {none} {rows} few blank run fine =
    rule_cong (arc_cause type (place + i) m r) (RepeatedArc (place + i))
    (λ e. ap not (test_same (has_arc rows r) (arc_repeats t i) (same (arc_kept type (place + i) m r e))))
  where
    r : List ℕ
    r = record_at t i

    kept : (p : ℕ) → p < i → type_at t p ≡ type → ArcKept type elements (record_at t p)
    kept p l _ = arc_among few (arc_kept type (place + p) m (record_at t p) (rule_before _ _ _ (fine p l)))

    same : ArcKept type m r → (has_arc rows r ≡ true) ↔ (arc_repeats t i ≡ true)
    same K =
        let a : ℕ = byte r 1 - 1 in
        let b : ℕ = byte r 2 - 1 in
        let named = rw K.typed at (repeats_says t i a b (omega (arith, K.from_low)) (omega (arith, K.to_low))) in
        Iff.trans (rw (run ∙ ap (upto (put_arc type t) i) blank ∙ sym (arcs_run_whole t type i)) (means t type i kept i (omega arith) a b)) (Iff.symm named)

-- ---- 13 OF A FILE, both ways

pub repeated_refused : (s : List ℕ) (p : ℕ) → RepeatedPair s p → answer_of s ≡ Err (RepeatedArc p)
repeated_refused s p R =
    fault_refused s p (RepeatedArc p) R.legal
    (record {
      there = R.there;
      fault = at_arc s p R.arc ∙ rule_breaks _ _ (RepeatedArc p) R.own (ap not ((repeats_says s p R.from R.to R.from_here R.to_here).1 R.earlier));
      refused = refl;
      before = R.before;
    })

pub refused_repeated : (s : List ℕ) (p : ℕ) → answer_of s ≡ Err (RepeatedArc p) → RepeatedPair s p
refused_repeated s p e =
    refused_holds Means s (RepeatedArc p) (λ q. omega arith) (λ q. omega arith) e
    (λ legal q F. cause_holds Means s q (λ x. absurd (omega arith)) (λ x. absurd (omega arith)) (λ _ _ _ x. absurd (omega arith)) (λ x. absurd (omega arith)) (at_record legal q F)) refl refl
  where
    Means : Cause → Type 0
    Means c = (told_by c).number ≡ 13 → place_of (told_by c) ≡ p → RepeatedPair s p

    at_record : is_length (length s) ≡ true → (q : ℕ) → FirstFault s q (Err (RepeatedArc p)) → activity_count s < q
        → is_readable (arc_cause (due_type s q) q (activity_count s) (record_at s q)) ≡ true → arc_repeats s q ≡ true → Means (RepeatedArc q)
    at_record legal q F arc own repeats _ here =
        let r = record_at s q in
        let K = arc_kept (due_type s q) q (activity_count s) r own in
        let from : byte r 1 ≡ byte r 1 - 1 + 1 = omega (arith, K.from_low) in
        let to : byte r 2 ≡ byte r 2 - 1 + 1 = omega (arith, K.to_low) in
        subst (RepeatedPair s) here
        (record {
          legal = legal;
          there = F.there;
          before = F.before;
          arc = arc;
          own = own;
          from = byte r 1 - 1;
          to = byte r 2 - 1;
          from_here = from;
          to_here = to;
          earlier = (repeats_says s q (byte r 1 - 1) (byte r 2 - 1) from to).0 repeats;
        })

-- A READABLE FILE NAMES NO PAIR TWICE WITHIN A TYPE: of two records that would, the later repeats the earlier
pub arcs_once : (s : List ℕ) → Readable s → (type i j : ℕ) → 3 ≤ type → (a b : Names s (record_count s) type i j) → a.place ≡ b.place
arcs_once s e type i j some a b = go (dec_lt a.place b.place) (dec_lt b.place a.place)
  where
    F : Faultless s
    F = readable_faultless s e

    arc : (n : Names s (record_count s) type i j) → Dec (activity_count s < n.place) → activity_count s < n.place
    arc n (yes l) = l
    arc n (no l) = absurd (no_arc s (crew_fine s F).typed type n.place some (omega arith) n.typed)

    later : (a b : Names s (record_count s) type i j) → a.place < b.place → ⊥
    later a b l =
        let q = b.place in
        let earlier : Names s q (type_at s q) i j = record { place = a.place; there = l; typed = a.typed ∙ sym b.typed; from = a.from; to = a.to } in
        clash ((repeats_says s q i j b.from b.to).1 earlier) (arc_new s F q (arc b (dec_lt (activity_count s) q)) b.there)

    go : Dec (a.place < b.place) → Dec (b.place < a.place) → a.place ≡ b.place
    go (yes l) d = absurd (later a b l)
    go (no l) (yes m) = absurd (later b a m)
    go (no l) (no m) = omega arith
