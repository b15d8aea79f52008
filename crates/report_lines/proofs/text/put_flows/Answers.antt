-- `report_lines::text::put_flows` meets its contract: each turn writes the lines of a kind more (`Putting`).
use mathlib.Core.Path.{◌≡◌, refl, ap, ◌∙◌}
use Prim.Native.Nat.{ℕ, ◌+◌, ◌-◌}
use native.Mathlib.Omega.{arith}
use Rattle.lines.specs.Text.{text, more}
use Rattle.planner.specs.Open.{plan_in}
use Rattle.report_lines.specs.Report.{kind_lines}
use Rattle.lines.proofs.Texts.{grown_by}
use Rattle.lines.proofs.Putting.{putting_none, putting_length, putting_next, putting_end}
use Rattle.report_lines.proofs.text.put_flows.Goals as goal

pub loop-k-init : goal.loop-k-init
loop-k-init c = (putting_none, refl)

pub put_flow-requires : goal.put_flow-requires
put_flow-requires c =
    let p = c.loop-k.invariant.0 in
    let long = putting_length p (omega arith) in
    (c.requires.0, omega arith, omega arith, omega (arith, p.short))

pub loop-k-preserved : goal.loop-k-preserved
loop-k-preserved c =
    let w = c.put_flow.ensures in
    let d = c.loop-k.draft in
    let k = c.loop-k.k in
    let e : k + 1 - 1 ≡ k = omega arith in
    let done = w.written ∙ ap (λ (i : ℕ). more (text d.at d.out.now) (kind_lines (plan_in c.args.s.now) i)) e in
    let next = putting_next c.loop-k.invariant.0 (omega arith) (omega arith) done
    (omega (arith, w.upper_bound, grown_by d.at _ (kind_lines (plan_in c.args.s.now) k) d.out.now _ done)) in
    (next, w.same_reference ∙ c.loop-k.invariant.1)

pub returns : goal.returns
returns c =
    let w = putting_end c.loop-k.invariant.0 (omega arith) (omega arith) in
    record { same_reference = c.loop-k.invariant.1; written = w.0; upper_bound = w.1 }
