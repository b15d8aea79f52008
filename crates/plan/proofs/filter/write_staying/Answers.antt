-- `plan::filter::write_staying` meets its contract: each record that is looked at is written behind those that
-- stay, or left out (`Staying`).
use mathlib.Core.Path.{◌≡◌, sym, ◌∙◌}
use mathlib.Core.Bool.{Bool}
use mathlib.Core.List.{List, []}
use Prim.Native.Nat.{ℕ, ◌+◌, ◌*◌, ◌≤◌, ◌<◌}
use native.Mathlib.Omega.{arith}
use lib.ListN.{length, get_or, take}
use borrow.Author.Rules.{rules}
use Rattle.records.proofs.Steps.{tail_written}
use Rattle.plan.specs.Records.{record_at, record_count}
use Rattle.plan.specs.model.ArcRows.{stays_by}
use Rattle.plan.proofs.ReaderLoops.{length_rest}
use Rattle.plan.proofs.RecordLists.{own_byte, own_arc, stays_own}
use Rattle.plan.proofs.Staying.{Staying, extra_record, staying_none, staying_few, staying_length, staying_one, staying_skip, staying_number, staying_all}
use Rattle.plan.proofs.filter.write_staying.Goals.{After-stays, then-stays, else-stays}
use Rattle.plan.proofs.filter.write_staying.Goals as goal

pub loop-r-init : goal.loop-r-init
loop-r-init c = let a = c.args in staying_none (stays_by a.extra.now a.s.now) a.s.now a.out.now

pub stays-requires : goal.stays-requires
stays-requires c =
    let s = c.args.s.now in
    let p = c.loop-r.r-index in
    let r = get_or c.records_of-r-items.result.now p [] in
    let here = c.records_of-r-items.ensures.value p (omega arith) in
    λ typed.
    own_arc r (record_at s p) here
    (extra_record s c.requires.0 p (omega (arith, c.records_of-r-items.ensures.number))
    (sym (own_byte r (record_at s p) here 0 (omega arith)) ∙ typed))

-- a record is looked at
module _ (c : After-stays) where
  abbrev s : List ℕ
  s = c.args.s.now

  abbrev old : List ℕ
  old = c.args.out.now

  abbrev keep : ℕ → Bool
  keep = stays_by c.args.extra.now s

  abbrev p : ℕ
  p = c.loop-r.r-index

  abbrev n : ℕ
  n = c.loop-r.n

  abbrev out : List ℕ
  out = c.loop-r.out

  some : Staying keep s old p n out
  some = c.loop-r.invariant

  more : p < record_count s
  more = omega (arith, c.records_of-r-items.ensures.number)

  abbrev r : List ℕ
  r = get_or c.records_of-r-items.result.now p []

  here : r ≡ take 24 (record_at s p)
  here = c.records_of-r-items.ensures.value p (omega arith)

  tested : c.stays.result ≡ keep p
  tested = c.stays.ensures ∙ stays_own r (record_at s p) here c.args.extra.now

  -- not all of s is written, and there is room for one more
  under : n < record_count s
  under = omega (arith, more, staying_few keep s old p n out some)

  room : 24 * n + 24 ≤ length out
  room =
      omega (arith, under, c.requires.1, staying_length keep s old p n out some c.requires.1)

pub overflow_mul-n : goal.overflow_mul-n
overflow_mul-n c = let h = under (goal.at.overflow_mul-n c).After-stays in search rules

pub slice_bounds-write_record-count : goal.slice_bounds-write_record-count
slice_bounds-write_record-count c = omega (arith, room (goal.at.slice_bounds-write_record-count c).After-stays)

pub slice_bounds-write_record-start : goal.slice_bounds-write_record-start
slice_bounds-write_record-start c = let h = room (goal.at.slice_bounds-write_record-start c).After-stays in search rules

pub overflow_add-n : goal.overflow_add-n
overflow_add-n c = let h = under (goal.at.overflow_add-n c).After-stays in search rules

pub write_record-requires : goal.write_record-requires
write_record-requires c =
    let b = (goal.at.write_record-requires c).After-stays in
    rw (length_rest (24 * n b) (out b)) (omega (arith, room b))

pub loop-r-preserved : goal.loop-r-preserved
loop-r-preserved c =
    let b = (goal.at.loop-r-preserved c).After-stays in
    elim c.if-stays.branch [
      | then-stays w ↦
          staying_one (keep b) (s b) (old b) (p b) (n b) (out b) (some b) (more b) (sym (tested b) ∙ w.if-stays.true) w.n-is
          (w.out-is ∙ tail_written (24 * n b) (take 24 (record_at (s b) (p b))) (out b) w.write_record.new.out
          (rw (here b) at w.write_record.ensures))
      | else-stays w ↦ staying_skip (keep b) (s b) (old b) (p b) (n b) (out b) (some b) (more b) (sym (tested b) ∙ w.if-stays.false) w.n-is w.out-is
    ]

pub returns : goal.returns
returns c =
    let a = c.args in
    let l = c.loop-r in
    let end : record_count a.s.now ≤ l.r-index = omega (arith, c.records_of-r-items.ensures.number) in
    let keep = stays_by a.extra.now a.s.now in
    record { value = staying_number keep a.s.now a.out.now l.r-index l.n l.out l.invariant end; out_after = staying_all keep a.s.now a.out.now l.r-index l.n l.out l.invariant end }
