-- `report_lines::head::put_needs` meets its contract: each turn writes a line more (`Putting`).
use mathlib.Core.Path.{◌≡◌, refl, ap, ◌∙◌}
use Prim.Native.Nat.{ℕ, ◌+◌}
use native.Mathlib.Omega.{arith}
use lib.ListN.{length, take}
use lib.Seq.{get_or-take}
use Rattle.std.proofs.lemmas.Iterator.{YieldsList-from_slice}
use Rattle.std.proofs.lemmas.List.{length_push}
use Rattle.words.proofs.Zipped.{Turn, turn, turns}
use Rattle.lines.specs.Text.{text, more}
use Rattle.lines.proofs.Putting.{putting_none, putting_room, putting_next, putting_end}
use Rattle.report_lines.proofs.HeadLines.{need_short, need_line_lem, needs_end}
use Rattle.report_lines.proofs.head.put_needs.Goals as goal
use Rattle.report_lines.proofs.head.put_needs.Goals.{In-Some}

-- what is known in a turn: the kind, with its need and what is available
module _ (h : In-Some) where
  here : Turn (take h.args.n h.args.needs.now) h.args.available.now (length h.loop-k.yielded)
      h.in-Some.k h.in-Some.need.now h.in-Some.limit.now
  here =
      let S = take h.args.n h.args.needs.now in
      let D = h.args.available.now in
      let l = h.loop-k in
      turn {s = h.into_iter-k-iterator.result} (YieldsList-from_slice S cc) (YieldsList-from_slice D cc) (cc)
      l.yielded l.k-iterator h.next.new.self h.next.result l.yielded_by _ h.in-Some.is h.next.ensures.steps

pub loop-k-init : goal.loop-k-init
loop-k-init c = (putting_none, refl)

pub put_line-requires : goal.put_line-requires
put_line-requires c =
    let u = here (goal.at.put_line-requires c).In-Some in
    let there = u.there in
    let room = putting_room c.loop-k.invariant.0 c.requires.1 (omega arith) in
    omega arith

pub loop-k-preserved : goal.loop-k-preserved
loop-k-preserved c =
    let a = c.args in
    let l = c.loop-k in
    let n = length l.yielded in
    let u = here (goal.at.loop-k-preserved c).In-Some in
    let there = u.there in
    let w = c.put_line.ensures in
    let index : c.in-Some.k + 1 ≡ n + 1 = ap (λ (x : ℕ). x + 1) u.index in
    let line =
    need_line_lem a.needs.now a.available.now n index
    (c.from.ensures ∙ u.first 0 ∙ get_or-take a.n a.needs.now n 0 (omega arith))
    (c.from-in-loop-k.ensures ∙ u.second 0) in
    let next =
    putting_next l.invariant.0 c.requires.1 (omega arith)
    (w.written ∙ ap (more (text l.draft.at l.draft.out.now)) line)
    (need_short a.needs.now a.available.now n) in
    rw (length_push l.yielded (c.in-Some.k, (c.in-Some.need, c.in-Some.limit))) (next, w.same_reference ∙ l.invariant.1)

pub returns : goal.returns
returns c =
    let a = c.args in
    let d = a.draft.now in
    let S = take a.n a.needs.now in
    let D = a.available.now in
    let l = c.loop-k in
    let e =
    turns {s = c.into_iter-k-iterator.result} (YieldsList-from_slice S cc) (YieldsList-from_slice D cc) (cc)
    l.yielded l.k-iterator c.next.new.self c.next.result l.yielded_by c.in-None.is c.next.ensures.steps in
    let n : length l.yielded ≡ a.n = omega (arith, e) in
    let end = putting_end l.invariant.0 c.requires.1 (omega arith) in
    record {
      same_reference = l.invariant.1;
      written = end.0 ∙ ap (more (text d.at d.out.now)) (needs_end a.n a.needs.now a.available.now);
    }
