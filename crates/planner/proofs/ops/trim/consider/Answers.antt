-- `planner::ops::trim::consider` meets its contract: the arc may not go, its pair follows, or the
-- plan without it was weighed.
use mathlib.Core.Path.{◌≡◌, sym, ap, ◌∙◌}
use mathlib.Core.List.{List}
use Prim.Native.Nat.{ℕ}
use lib.ListN.{get_or}
use borrow.Author.Rules.{rules}
use mir.Syntax.{w64}
use mir.Val.{Fits}
use Rattle.std.specs.Prelude.{is_some}
use Rattle.words.specs.Bits.{bit}
use Rattle.order.specs.Orders.{after_rows, order_in, joined_rows}
use Rattle.order.specs.Stored.{cells}
use Rattle.order.specs.Rows.{after}
use Rattle.order.proofs.Stored.{number_of_lem, words_fit}
use Rattle.planner.proofs.TrimSteps.{follows_held, left_held, left_follows, left_fits, left_stays}
use Rattle.planner.proofs.ops.trim.consider.Goals.{After-has}
use Rattle.planner.proofs.ops.trim.consider.Goals as goal

-- what the code asked first: whether the arc may go
module _ (h : After-has) where
  tested : h.has.result ≡ after h.args.free.now h.args.i h.args.j
  tested = h.has.ensures ∙ ap (λ (w : ℕ). bit w h.args.j) (number_of_lem _ h.row.ensures)

pub returns-then-not-has : goal.returns-then-not-has
returns-then-not-has c =
    let h = (goal.at.returns-then-not-has c).After-has in
    let a = c.args in
    let never = sym (tested h) ∙ c.if-not-has.true in record {
      extra_after = left_held a.plan.now.count a.plan.now.job a.plan.now.demand a.plan.now.available a.plan.now.kinds a.free.now a.afters.now a.extra.now a.i a.j never;
      afters_after = c.requires.3.1;
    }

pub returns-then-follows : goal.returns-then-follows
returns-then-follows c =
    let h = (goal.at.returns-then-follows c).After-has in
    let a = c.args in
    let may = sym (tested h) ∙ c.if-not-has.false in
    let e = sym c.follows.ensures ∙ c.if-follows.true in
    let less = c.without_arc.ensures in record {
      extra_after = less ∙ left_follows a.plan.now.count a.plan.now.job a.plan.now.demand a.plan.now.available a.plan.now.kinds a.free.now a.afters.now a.extra.now a.i a.j may e;
      afters_after = sym (follows_held a.plan.now.job a.extra.now a.afters.now a.i a.j c.requires.0 c.requires.1 c.requires.3 e)
          ∙ ap (λ (x : List ℕ). after_rows (order_in (joined_rows a.plan.now.job x))) (sym less);
    }

pub returns-then-is_some : goal.returns-then-is_some
returns-then-is_some c =
    let h = (goal.at.returns-then-is_some c).After-has in
    let a = c.args in
    let may = sym (tested h) ∙ c.if-not-has.false in
    let overloaded = c.is_some.ensures ∙ ap is_some c.lowest_overload-over.ensures in record {
      extra_after = left_stays a.plan.now.count a.plan.now.job a.plan.now.demand a.plan.now.available a.plan.now.kinds a.free.now a.afters.now a.extra.now a.i a.j may
          (c.joined-closed.ensures ∙ ap (joined_rows a.plan.now.job) c.without_arc-2.ensures)
          c.closing-order.ensures.value overloaded
          (sym c.follows.ensures ∙ c.if-follows.false) c.if-is_some.true;
      afters_after = c.requires.3.1;
    }

pub returns : goal.returns
returns c =
    let h = (goal.at.returns c).After-has in
    let a = h.args in
    let may = sym (tested h) ∙ c.if-not-has.false in
    let overloaded = c.is_some.ensures ∙ ap is_some c.lowest_overload-over.ensures in
    let joins = c.joined-closed.ensures ∙ ap (joined_rows a.plan.now.job) c.without_arc-2.ensures in record {
      extra_after = c.without_arc-2.ensures
          ∙ left_fits a.plan.now.count a.plan.now.job a.plan.now.demand a.plan.now.available a.plan.now.kinds a.free.now a.afters.now
          a.extra.now a.i a.j may joins c.closing-order.ensures.value
          overloaded c.if-is_some.false;
      afters_after = c.closing-order.ensures.arcs_after ∙ ap (λ (x : List ℕ). after_rows (order_in x)) c.joined-closed.ensures;
    }

pub closing-order-requires : goal.closing-order-requires
unfolding cells
closing-order-requires c =
    let rows = c.joined-closed.result in
    (search rules, words_fit rows (λ k. let f : Fits w64 (get_or rows k 0) = search rules in f.fits))
