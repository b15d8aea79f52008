-- `schedule::crew_check` meets its contract. From what the parts found.
use native.Mathlib.Omega.{arith}
use Rattle.schedule.specs.model.Arrays.{crew_net, with_waits, work_of}
use Rattle.schedule.specs.Lists.{at}
use Rattle.schedule.proofs.Arcs.{broken_to_first}
use Rattle.schedule.proofs.Periods.{lowest_first}
use Rattle.schedule.proofs.Found.{broken_found, over_found, says_broken, says_over, says_fits}
use Rattle.schedule.proofs.crew.crew_check.Goals as goal

pub overflow_add-result-in-Some : goal.overflow_add-result-in-Some
overflow_add-result-in-Some c =
    let s = c.args in
    let S = s.starts.now in
    let g = crew_net s.rows.now (with_waits s.worked.now s.waits.now) S in
    let f = broken_found g (at S) c.in-Some.from c.in-Some.to c.in-Some.ensures in
    record { fits = omega (arith, f.2, (broken_to_first g (at S) c.in-Some.from).within, c.requires.few) }

pub returns-in-Some : goal.returns-in-Some
returns-in-Some c =
    let s = c.args in
    let S = s.starts.now in
    let g = crew_net s.rows.now (with_waits s.worked.now s.waits.now) S in
    says_broken g (work_of s.demands.now s.available.now S s.worked.now) c.in-Some.from c.in-Some.to c.in-Some.ensures

pub overflow_add-result-in-Some-first_over : goal.overflow_add-result-in-Some-first_over
overflow_add-result-in-Some-first_over c =
    let s = c.args in
    let S = s.starts.now in
    let g = crew_net s.rows.now (with_waits s.worked.now s.waits.now) S in
    let W = work_of s.demands.now s.available.now S s.worked.now in
    let o = c.in-Some-first_over in
    record { fits = omega (arith, (over_found g W o.period o.kind o.ensures).2, (lowest_first W o.period).within) }

pub returns-in-Some-first_over : goal.returns-in-Some-first_over
returns-in-Some-first_over c =
    let s = c.args in
    let S = s.starts.now in
    let g = crew_net s.rows.now (with_waits s.worked.now s.waits.now) S in
    let o = c.in-Some-first_over in
    says_over g (work_of s.demands.now s.available.now S s.worked.now) o.period o.kind c.in_default.ensures o.ensures

pub returns-in-None : goal.returns-in-None
returns-in-None c =
    let s = c.args in
    let S = s.starts.now in
    let g = crew_net s.rows.now (with_waits s.worked.now s.waits.now) S in
    says_fits g (work_of s.demands.now s.available.now S s.worked.now) c.in_default.ensures c.in-None.ensures
