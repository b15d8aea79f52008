-- `report_lines::flows::put_records` meets its contract: each turn writes a line more (`Putting`).
use mathlib.Core.Path.{◌≡◌, refl, ap, ◌∙◌}
use mathlib.Core.List.{List}
use Prim.Native.Nat.{ℕ, ◌*◌, ◌/◌}
use native.Mathlib.Omega.{arith}
use lib.ListN.{length, take}
use lib.Seq.{length-take-le}
use Rattle.lines.specs.Text.{text, more}
use Rattle.lines.proofs.Putting.{putting_none, putting_length, putting_next, putting_end}
use Rattle.plan.specs.model.Lists.{RecordsOf}
use Rattle.plan.proofs.RecordLists.{chunk_at}
use Rattle.report_lines.proofs.FlowLines.{flow_short, flow_line_lem, flow_end}
use Rattle.report_lines.proofs.flows.put_records.Goals as goal
use Rattle.report_lines.proofs.flows.put_records.Goals.{After-as_chunks}

-- the records that the code goes through
module _ (h : After-as_chunks) where
  many : length h.as_chunks.result.0.now ≡ h.args.n
  many =
      let front : List ℕ = take (24 * h.args.n) h.args.records.now in
      let e : length h.as_chunks.result.0.now ≡ length front / 24 = h.as_chunks.ensures.front_len in
      omega (arith, length-take-le (24 * h.args.n) h.args.records.now h.requires.1)

  each : RecordsOf (take (24 * h.args.n) h.args.records.now) h.as_chunks.result.0.now
  each =
      let front : List ℕ = take (24 * h.args.n) h.args.records.now in
      rw h.as_chunks.ensures.front (chunk_at (length front / 24) front)

pub loop-handover-init : goal.loop-handover-init
loop-handover-init c = (putting_none, refl)

pub put_record-requires : goal.put_record-requires
put_record-requires c =
    let n = many (goal.at.put_record-requires c).After-as_chunks in
    let p = c.loop-handover.invariant.0 in
    let long = putting_length p (omega arith) in
    let short = p.short in
    omega arith

pub loop-handover-preserved : goal.loop-handover-preserved
loop-handover-preserved c =
    let a = c.args in
    let l = c.loop-handover in
    let w = c.put_record.ensures in
    let h = (goal.at.loop-handover-preserved c).After-as_chunks in
    let n = many h in
    let line =
    flow_line_lem a.records.now a.n c.as_chunks.result.0.now (each h) c.requires.1 l.handover-index
    (omega arith) (omega arith) in
    let next =
    putting_next l.invariant.0 (omega arith) (omega arith)
    (w.written ∙ ap (more (text l.draft.at l.draft.out.now)) line)
    (flow_short a.records.now (λ i. omega (arith, c.type_inv.records i)) l.handover-index) in
    (next, w.same_reference ∙ l.invariant.1)

pub returns : goal.returns
returns c =
    let a = c.args in
    let d = a.draft.now in
    let n = many (goal.at.returns c).After-as_chunks in
    let e = putting_end c.loop-handover.invariant.0 (omega arith) (omega arith) in
    record {
      same_reference = c.loop-handover.invariant.1;
      written = e.0 ∙ ap (more (text d.at d.out.now)) (flow_end a.n a.records.now);
      upper_bound = e.1;
    }
