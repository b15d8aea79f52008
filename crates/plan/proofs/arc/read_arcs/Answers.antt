-- `plan::arc::read_arcs` meets its contract: no record before the place of the loop is refused, and their arcs are
-- stored, so that they tell which arc is repeated.
use mathlib.Core.Path.{◌≡◌, ap, ◌∙◌}
use mathlib.Core.List.{List, []}
use Prim.Native.Nat.{ℕ, ◌+◌}
use native.Mathlib.Omega.{arith}
use lib.ListN.{length, get_or}
use Rattle.words.specs.model.Loops.{upto}
use Rattle.words.proofs.Loops.{up_none}
use Rattle.words.proofs.Tests.{cond_true, cond_false}
use Rattle.plan.specs.Records.{record_at}
use Rattle.plan.specs.Causes.{is_readable}
use Rattle.plan.specs.model.Lists.{RecordsOf, type_number}
use Rattle.plan.specs.model.Phases.{put_arc, arc_in}
use Rattle.plan.proofs.ReaderLoops.{passed, up_next, given_here, given_stop, given_again, refusal_none, refusal_end}
use Rattle.plan.proofs.RecordLists.{rule_own, arcs_own}
use Rattle.plan.proofs.RepeatedArcs.{looked_up}
use Rattle.plan.proofs.arc.read_arcs.Goals.{After-read_arc}
use Rattle.plan.proofs.arc.read_arcs.Goals as goal

-- a record is read, of those that t begins with
module _ (c : After-read_arc) (t : List ℕ) (R : RecordsOf t c.args.arcs.now) where
  abbrev i : ℕ
  i = c.loop-i.i

  abbrev type : ℕ
  type = type_number c.args.of

  found : c.read_arc.result ≡ arc_in type c.args.place c.args.m t i
  found =
      let a = c.args in
      let inv = c.loop-i.invariant t R in
      c.read_arc.ensures.value
      ∙ rule_own (get_or a.arcs.now i []) (record_at t i) (R i (omega arith)) type (a.place + i) a.m c.loop-i.rows
      ∙ looked_up type a.place a.m t i c.requires.1 c.requires.2 inv.0 inv.1

pub loop-i-init : goal.loop-i-init
loop-i-init c = λ t R. (up_none _ _, λ k l. absurd (omega arith))

pub returns-in_err-read_arc-clause-value : goal.returns-in_err-read_arc-clause-value
returns-in_err-read_arc-clause-value c =
    λ t R.
    let a = c.args in
    let b = (goal.at.returns-in_err-read_arc-clause-value c).After-read_arc in
    rw (passed c.from_residual.ensures)
    (given_stop (length a.arcs.now) (arc_in (type_number a.of) a.place a.m t) c.loop-i.i (c.loop-i.invariant t R).1
    (found b t R) (omega arith) c.in_err-read_arc.was)

pub returns-in_err-read_arc-clause-rows_after : goal.returns-in_err-read_arc-clause-rows_after
returns-in_err-read_arc-clause-rows_after c =
    λ t R.
    let a = c.args in
    let b = (goal.at.returns-in_err-read_arc-clause-rows_after c).After-read_arc in
    let inv = c.loop-i.invariant t R in
    c.read_arc.ensures.rows_after
    ∙ cond_false _ _ (ap is_readable c.in_err-read_arc.was)
    ∙ inv.0
    ∙ ap (λ (k : ℕ). upto (put_arc (type_number a.of) t) k a.rows.now)
    (given_here (length a.arcs.now) (arc_in (type_number a.of) a.place a.m t) c.loop-i.i inv.1 (found b t R)
    (omega arith) c.in_err-read_arc.was)

pub loop-i-preserved : goal.loop-i-preserved
loop-i-preserved c =
    λ t R.
    let a = c.args in
    let i = c.loop-i.i in
    let type = type_number a.of in
    let b = (goal.at.loop-i-preserved c).After-read_arc in
    let inv = c.loop-i.invariant t R in
    let stored = c.read_arc.ensures.rows_after ∙ cond_true _ _ (ap is_readable c.in_ok-read_arc.was)
    ∙ arcs_own (get_or a.arcs.now i []) (record_at t i) (R i (omega arith)) type c.loop-i.rows in (
      up_next (put_arc type t) i a.rows.now inv.0 stored,
      given_again (length a.arcs.now) (arc_in type a.place a.m t) i inv.1 (found b t R) c.in_ok-read_arc.was,
    )

pub returns-clause-value : goal.returns-clause-value
returns-clause-value c =
    λ t R.
    let a = c.args in
    refusal_end (length a.arcs.now) (arc_in (type_number a.of) a.place a.m t) c.loop-i.i (c.loop-i.invariant t R).1
    (omega arith) (omega arith)

pub returns-clause-rows_after : goal.returns-clause-rows_after
returns-clause-rows_after c =
    λ t R.
    let a = c.args in
    let inv = c.loop-i.invariant t R in
    let all : c.loop-i.i ≡ length a.arcs.now = omega arith in
    inv.0
    ∙ ap (λ (k : ℕ). upto (put_arc (type_number a.of) t) k a.rows.now)
    (all ∙ refusal_none (length a.arcs.now) (arc_in (type_number a.of) a.place a.m t) c.loop-i.i inv.1 (omega arith)
    (omega arith))
