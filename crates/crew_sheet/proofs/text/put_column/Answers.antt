-- `crew_sheet::text::put_column` meets its contract: each turn writes one character more,
-- from the last on (`Aligning`).
use mathlib.Core.Path.{◌≡◌, refl, ◌∙◌}
use Prim.Native.Nat.{◌+◌, ◌-◌}
use native.Mathlib.Omega.{arith}
use lib.ListN.{length-set}
use Rattle.crew_sheet.proofs.Columns.{aligning_none, aligning_next, aligning_end}
use Rattle.crew_sheet.proofs.text.put_column.Goals as goal

pub loop-i-init : goal.loop-i-init
loop-i-init c =
    let d = c.args.draft.now in
    let e : d.at + c.args.w - d.at ≡ c.args.w = omega arith in
    (omega arith, rw e aligning_none, refl, refl)

pub bounds-draft-i : goal.bounds-draft-i
bounds-draft-i c =
    let long = c.loop-i.invariant.2 in
    omega arith

pub loop-i-preserved : goal.loop-i-preserved
loop-i-preserved c =
    let d = c.args.draft.now in
    let l = c.loop-i in
    let less : l.i - d.at - 1 ≡ l.i - 1 - d.at = omega arith in
    let here : d.at + (l.i - 1 - d.at) ≡ l.i - 1 = omega arith in
    let right : d.at + c.args.w - 1 - (l.i - 1) ≡ c.args.w - (l.i - d.at) = omega arith in
    let next = aligning_next l.invariant.1 c.requires (omega arith) (omega arith) (rw right at c.figure.ensures) in
    (omega arith, rw (less, here) at next, length-set l.draft.out.now _ _ ∙ l.invariant.2, l.invariant.3)

pub returns-clause-same_reference : goal.returns-clause-same_reference
returns-clause-same_reference c = c.loop-i.invariant.3

pub returns-clause-written : goal.returns-clause-written
returns-clause-written c = aligning_end c.loop-i.invariant.1 c.requires (omega arith)
