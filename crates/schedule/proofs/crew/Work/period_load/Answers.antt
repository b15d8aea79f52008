-- `schedule::crew::Work::period_load` meets its contract. The invariant: the load is that of the activities passed, and
-- at most 2 ^ 32 for each of them.
use mathlib.Core.Bool.{true, false}
use mathlib.Core.Path.{◌≡◌, refl, ap, ap₂, ◌∙◌}
use Prim.Native.Nat.{ℕ, ◌-◌}
use native.Mathlib.Omega.{arith}
use lib.ListN.{length}
use Rattle.std.proofs.lemmas.Iterator.{YieldsList-from_slice}
use Rattle.std.proofs.lemmas.List.{length_push}
use Rattle.words.proofs.Tables.{length_table, get_d_zeros}
use Rattle.words.proofs.Zipped.{Turn, turn, turns}
use Rattle.schedule.specs.PeriodLoad.{started_by, finished_no_sooner}
use Rattle.schedule.specs.model.Held.{work_in}
use Rattle.schedule.specs.model.Loads.{with_demands}
use Rattle.schedule.proofs.PeriodLoads.{tested, load_none, load_more, load_same}
use Rattle.schedule.proofs.crew.Work.period_load.Goals as goal
use Rattle.schedule.proofs.crew.Work.period_load.Goals.{In-Some}

-- what is known in a turn: the activity, with its start and what it worked
module _ (h : In-Some) where
  here : Turn h.args.self.now.crew.starts.now h.args.self.now.crew.worked.now (length h.loop-i.yielded) h.in-Some.i
      h.in-Some.start.now h.in-Some.worked.now
  here =
      let S = h.args.self.now.crew.starts.now in
      let D = h.args.self.now.crew.worked.now in
      let l = h.loop-i in
      turn {s = h.into_iter-i-iterator.result} (YieldsList-from_slice S cc) (YieldsList-from_slice D cc) (cc)
      l.yielded l.i-iterator h.next.new.self h.next.result l.yielded_by _ h.in-Some.is h.next.ensures.steps

pub loop-i-init : goal.loop-i-init
loop-i-init c = ((λ k. omega (arith, get_d_zeros 8 k)), load_none (work_in c.args.self.now) c.args.t)

pub add_demands-requires : goal.add_demands-requires
add_demands-requires c =
    let crew = c.args.self.now.crew in
    let l = c.loop-i in
    let u = here (goal.at.add_demands-requires c).In-Some in
    (omega (arith, u.there, u.index, crew.listed.few), ap length l.invariant.1 ∙ length_table 8 _, λ k. omega (arith, u.index, l.invariant.0 k))

-- an activity that passes both tests has its demands added; one that fails the second or the first leaves the load as it was
pub loop-i-preserved-then-finished_no_sooner : goal.loop-i-preserved-then-finished_no_sooner
loop-i-preserved-then-finished_no_sooner c =
    let l = c.loop-i in
    let t = c.args.t in
    let W = work_in c.args.self.now in
    let n = length l.yielded in
    let u = here (goal.at.loop-i-preserved-then-finished_no_sooner c).In-Some in
    let first = c.started_by.ensures ∙ ap (λ (x : ℕ). started_by x (t - 1)) (u.first 0) in
    let second = c.finished_no_sooner.ensures ∙ ap₂ (λ (x y : ℕ). finished_no_sooner x y t) (u.first 0) (u.second 0) in
    let added = c.add_demands.ensures.0 ∙ ap (λ (i : ℕ). with_demands 8 (λ k. W.demand k i) l.load) u.index in
    rw (length_push l.yielded (c.in-Some.i, (c.in-Some.start, c.in-Some.worked))) (
      (λ k. omega (arith, u.index, c.add_demands.ensures.1 k)),
      load_more W t n (tested W t n true true first second c.if-started_by.true c.if-finished_no_sooner.true) l.invariant.1 added,
    )

pub loop-i-preserved-else-finished_no_sooner : goal.loop-i-preserved-else-finished_no_sooner
loop-i-preserved-else-finished_no_sooner c =
    let l = c.loop-i in
    let t = c.args.t in
    let W = work_in c.args.self.now in
    let n = length l.yielded in
    let u = here (goal.at.loop-i-preserved-else-finished_no_sooner c).In-Some in
    let first = c.started_by.ensures ∙ ap (λ (x : ℕ). started_by x (t - 1)) (u.first 0) in
    let second = c.finished_no_sooner.ensures ∙ ap₂ (λ (x y : ℕ). finished_no_sooner x y t) (u.first 0) (u.second 0) in
    rw (length_push l.yielded (c.in-Some.i, (c.in-Some.start, c.in-Some.worked))) (
      (λ k. omega (arith, l.invariant.0 k)),
      load_same W t n (tested W t n true false first second c.if-started_by.true c.if-finished_no_sooner.false) l.invariant.1,
    )

pub loop-i-preserved : goal.loop-i-preserved
loop-i-preserved c =
    let l = c.loop-i in
    let t = c.args.t in
    let W = work_in c.args.self.now in
    let n = length l.yielded in
    let u = here (goal.at.loop-i-preserved c).In-Some in
    let first = c.started_by.ensures ∙ ap (λ (x : ℕ). started_by x (t - 1)) (u.first 0) in
    rw (length_push l.yielded (c.in-Some.i, (c.in-Some.start, c.in-Some.worked))) (
      (λ k. omega (arith, l.invariant.0 k)),
      load_same W t n (tested W t n false _ first refl c.if-started_by.false refl) l.invariant.1,
    )

pub returns : goal.returns
returns c =
    let crew = c.args.self.now.crew in
    let S = crew.starts.now in
    let D = crew.worked.now in
    let l = c.loop-i in
    let e =
    turns {s = c.into_iter-i-iterator.result} (YieldsList-from_slice S cc) (YieldsList-from_slice D cc) (cc)
    l.yielded l.i-iterator c.next.new.self c.next.result l.yielded_by c.in-None.is c.next.ensures.steps in
    let n : length l.yielded ≡ length S = omega (arith, e, crew.listed.paired) in
    rw n at l.invariant.1
