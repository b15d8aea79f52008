-- `schedule::earliest` meets its contract. The invariant: the starts are those of the elements done, and these are
-- all of a rank below the level.
use mathlib.Core.List.{List}
use mathlib.Core.Path.{sym, ap, ◌∙◌, subst}
use Prim.Native.Nat.{ℕ, ◌+◌}
use native.Mathlib.Nat.{not-suc-le-zero}
use native.Mathlib.Omega.{arith}
use Rattle.schedule.specs.model.Arrays.{net_of, with_waits, FinishesFit}
use Rattle.schedule.specs.model.Levels.{starts_by, RanksDone}
use Rattle.schedule.proofs.Arrays.{weights_most}
use Rattle.schedule.proofs.Levels.{by_none, by_fits, by_level, by_all, ranks_next, ranks_stuck}
use Rattle.schedule.proofs.Ranks.{ranked}
use Rattle.order.specs.Stored.{elements, number_of}
use Rattle.order.proofs.Stored.{number_of_lem, number_none}
use Rattle.order.proofs.Listing.{is_none}
use Rattle.schedule.proofs.early.earliest.Goals as goal

pub loop-level-init : goal.loop-level-init
loop-level-init c =
    let a = c.args in
    let g = net_of a.rows.now (with_waits a.durations.now a.waits.now) in
    (omega arith, by_none g ∙ ap (starts_by g) (sym number_none), λ R j l h. absurd (not-suc-le-zero h))

pub returns-then-is_empty : goal.returns-then-is_empty
returns-then-is_empty c =
    let R = c.args.rows.now in
    let W = with_waits c.args.durations.now c.args.waits.now in
    let d = number_of c.loop-level.done in
    c.loop-level.invariant.1
    ∙ by_all R W d elements (ranked R W c.requires.acyclic) (ranks_stuck R W d elements (sym c.ready-now_ready.ensures ∙ is_none _ _ c.is_empty.ensures c.if-is_empty.true)) (omega arith)

pub place-requires : goal.place-requires
place-requires c =
    let D = c.args.durations.now in
    let U = c.args.waits.now in
    let most = weights_most D U c.requires.all_at_most c.requires.all_at_most_2 in
    subst (λ (l : List ℕ). FinishesFit l (with_waits D U)) (sym c.loop-level.invariant.1)
    (by_fits c.args.rows.now (with_waits D U) (number_of c.loop-level.done) (65535 + 65535) (omega arith) most)

pub loop-level-preserved : goal.loop-level-preserved
loop-level-preserved c =
    let r = c.ready-now_ready in
    let u = number_of_lem _ c.union-done.ensures in
    let R = c.args.rows.now in
    let W = with_waits c.args.durations.now c.args.waits.now in
    let d = number_of c.loop-level.done in (
      omega arith,
      by_level R W (ranked R W c.requires.acyclic) d (number_of r.result) c.loop-level.starts _ c.loop-level.invariant.1 r.ensures c.place.ensures ∙ ap (starts_by (net_of R W)) (sym u),
      subst (λ (x : ℕ). RanksDone R W x (c.loop-level._level + 1)) (sym u) (ranks_next R W d (number_of r.result) c.loop-level._level r.ensures c.loop-level.invariant.2),
    )

pub returns : goal.returns
returns c =
    let R = c.args.rows.now in
    let W = with_waits c.args.durations.now c.args.waits.now in
    c.loop-level.invariant.1 ∙ by_all R W (number_of c.loop-level.done) c.loop-level._level (ranked R W c.requires.acyclic) c.loop-level.invariant.2 (omega arith)
