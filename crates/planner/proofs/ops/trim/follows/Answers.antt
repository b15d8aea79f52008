-- `planner::ops::trim::follows` meets its contract, by where the element leads otherwise.
use mathlib.Core.Path.{◌≡◌, sym, ap, ap₂, ◌∙◌}
use Prim.Native.Nat.{ℕ}
use Rattle.order.specs.Sets.{member, without_element, union_of}
use Rattle.order.specs.Orders.{some_before}
use Rattle.order.specs.declared.Set.{Set}
use Rattle.planner.proofs.TrimSteps.{follows_there, follows_or}
use Rattle.planner.proofs.ops.trim.follows.Goals as goal

-- the set that the code made
others_is : {a b cut w x y : Set} (j : ℕ) → a ≡ x → b ≡ y → cut ≡ without_element b j → w ≡ union_of a cut → w ≡ union_of x (without_element y j)
others_is j a b cut w = w ∙ ap₂ union_of a (cut ∙ ap (λ (s : Set). without_element s j) b)

pub returns-then-has : goal.returns-then-has
returns-then-has c =
    let a = c.args in
    let o = others_is a.j c.row.ensures c.row-2.ensures c.without.ensures c.union-others.ensures in
    sym (follows_there a.job.now a.extra.now a.afters.now a.i a.j (c.has.ensures ∙ ap (λ (s : Set). member s a.j) o) c.if-has.true)

pub returns : goal.returns
returns c =
    let a = c.args in
    let o = others_is a.j c.row.ensures c.row-2.ensures c.without.ensures c.union-others.ensures in
    c.some_before.ensures
    ∙ ap (λ (s : Set). some_before a.afters.now s a.j) o
    ∙ follows_or a.job.now a.extra.now a.afters.now a.i a.j (c.has.ensures ∙ ap (λ (s : Set). member s a.j) o) c.if-has.false
