-- The extra arcs with wait 0, as rows: what is read record by record, and what the rows hold of a readable file.
use mathlib.Core.Path.{◌≡◌, refl, sym, ap, ◌∙◌}
use mathlib.Core.Bool.{true}
use mathlib.Core.List.{List}
use mathlib.Core.Logic.{◌↔◌}
use Prim.Native.Nat.{ℕ, ◌+◌, ◌-◌}
use native.Mathlib.Omega.{arith}
use lib.Dec.{eqb}
use lib.ListN.{replicate}
use borrow.Author.Tests.{eqb-true, eq-eqb}
use Rattle.words.specs.model.Loops.{upto}
use Rattle.words.proofs.Tests.{fails, and_both, and_left, and_right}
use Rattle.records.specs.Bytes.{byte}
use Rattle.order.specs.Rows.{after}
use Rattle.order.specs.Stored.{elements, cells}
use Rattle.plan.specs.Records.{record_at, record_count, activity_count, wait_in}
use Rattle.plan.specs.Meaning.{Readable, ExtraArc, extra_wait}
use Rattle.plan.specs.model.ArcRows.{picked_up_to, is_free, put_free, free_rows}
use Rattle.plan.proofs.RecordRules.{arc_of}
use Rattle.plan.proofs.Arcs.{picked_none_before, picked_run}
use Rattle.plan.proofs.Parts.{crew_fine, no_arc}
use Rattle.plan.proofs.NamedArcs.{picks_said, picks_named, named_picks, within_elements}
use Rattle.plan.proofs.Said.{readable_faultless}
use Rattle.plan.proofs.Waits.{extra_wait_lem}

-- ---- one record

module _ (r : List ℕ) where
  is_free_lem : byte r 0 ≡ 4 → wait_in r ≡ 0 → is_free r ≡ true
  is_free_lem e w = and_both (eqb (byte r 0) 4) (eqb (wait_in r) 0) (eq-eqb (byte r 0) 4 e) (eq-eqb (wait_in r) 0 w)

  free_typed : is_free r ≡ true → byte r 0 ≡ 4
  free_typed t = eqb-true (byte r 0) 4 (and_left (eqb (byte r 0) 4) (eqb (wait_in r) 0) t)

  free_wait : is_free r ≡ true → wait_in r ≡ 0
  free_wait t = eqb-true (wait_in r) 0 (and_right (eqb (byte r 0) 4) (eqb (wait_in r) 0) t)

-- ---- the records of a file

-- THE ROWS ARE WHAT IS READ: up to the crew record no record is an arc
pub free_stored : (s : List ℕ) → Readable s
    → upto (put_free (record_at s (activity_count s + 1))) (record_count s - (activity_count s + 1)) (replicate (cells elements) 0) ≡ free_rows s
free_stored s e =
    let F = readable_faultless s e in
    let a : ℕ = activity_count s + 1 in
    let q : a + (record_count s - a) ≡ record_count s = omega (arith, F.crewed) in
    let none = picked_none_before s is_free a (λ p l. fails (is_free (record_at s p)) (λ t. no_arc s (crew_fine s F).typed 4 p (omega arith) (omega arith) (free_typed (record_at s p) t))) in
    ap (upto (put_free (record_at s a)) (record_count s - a)) (sym none) ∙ sym (picked_run s is_free a (record_count s - a)) ∙ ap (picked_up_to s is_free) q

-- THE ROWS HOLD THE EXTRA ARCS WITH WAIT 0
pub free_says : (s : List ℕ) → Readable s → (i j : ℕ) → (after (free_rows s) i j ≡ true) ↔ (ExtraArc s i j × (extra_wait s i j ≡ 0))
unfolding ExtraArc
free_says s e i j =
    let F = readable_faultless s e in
    let said = picks_said s is_free (record_count s) (λ p l t. arc_of refl (within_elements s F 4 (omega arith) p l (free_typed (record_at s p) t))) i j in (
      (λ t.
          let h = said.0 t in
          let r = record_at s h.place in
          let arc = picks_named h (free_typed r h.picked) in
          (arc, extra_wait_lem s e i j arc ∙ free_wait r h.picked)),
      (λ h. let arc = h.0 in said.1 (named_picks arc (is_free_lem (record_at s arc.place) arc.typed (sym (extra_wait_lem s e i j arc) ∙ h.1)))),
    )
