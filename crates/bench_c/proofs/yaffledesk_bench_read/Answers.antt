-- `bench_c::yaffledesk_bench_read` meets its contract, field by field: the plan is that of the reading, in both arms.
use mathlib.Core.Path.{◌≡◌, ap, sym, ◌∙◌}
use Rattle.plan.specs.declared.Plan.{Plan}
use Rattle.plan.specs.model.Reads.{read_of}
use Rattle.plan.proofs.Phases.{plan_given, none_given}
use Rattle.bench_c.proofs.yaffledesk_bench_read.Goals as goal
use Rattle.bench_c.proofs.yaffledesk_bench_read.Goals.{in-Ok, in-Err}

pub returns : goal.returns
returns c =
    let e : c.match-read.plan ≡ (read_of c.args.s.now).plan = elim c.match-read.branch [
      | in-Ok w ↦ w.plan-is ∙ sym (plan_given _ _ (sym w.in-Ok.ensures))
      | in-Err w ↦ w.plan-is ∙ (w.empty-plan.ensures ∙ sym (none_given _ (sym w.in-Err.ensures)))
    ] in (
      ap (λ (q : Plan). q.count) e,
      c.copy_from_slice.ensures.after ∙ ap (λ (q : Plan). q.duration) e,
      c.copy_from_slice-2.ensures.after ∙ ap (λ (q : Plan). q.demand) e,
      c.copy_from_slice-3.ensures.after ∙ ap (λ (q : Plan). q.job) e,
      c.copy_from_slice-4.ensures.after ∙ ap (λ (q : Plan). q.extra) e,
    )
