-- `planner::ops::sheet::starts_of` meets its contract, from what the schedule gave.
use mathlib.Core.Path.{refl, sym, ◌∙◌, subst}
use mathlib.Core.List.{List}
use Prim.Native.Nat.{ℕ}
use native.Mathlib.Omega.{arith}
use Rattle.schedule.specs.model.Arrays.{by_duration, FinishesFit}
use Rattle.planner.proofs.TimesLaws.{starts_finish}
use Rattle.planner.proofs.ops.sheet.starts_of.Goals as goal

pub end_start-end-requires : goal.end_start-end-requires
end_start-end-requires c =
    let known = c.shared_slice_known-1.given in
    let d = c.args.opened.now.plan.now.duration in
    record {
      m_le_elements = c.requires.0;
      finishes_fit = subst (λ (xs : List ℕ). FinishesFit xs (by_duration d))
          (sym c.first_starts-first.ensures)
          (starts_finish c.args.s.now (λ i. omega (arith, known i)) c.args.opened.now.rows d c.requires.3);
    }

pub returns : goal.returns
returns c =
    c.put_starts.ensures ∙ rw (c.end_start-end.ensures, c.first_starts-first.ensures) refl
