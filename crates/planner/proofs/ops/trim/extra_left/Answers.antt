-- `planner::ops::trim::extra_left` meets its contract: the extra arcs are those that the pairs so far leave, and the
-- order is theirs.
use mathlib.Core.List.{List}
use mathlib.Core.Path.{◌≡◌, ap, subst}
use Prim.Native.Nat.{ℕ, ◌+◌, ◌*◌, ◌/◌, ◌%◌, ◌<◌}
use native.Mathlib.Omega.{arith}
use borrow.Author.Rules.{rules}
use Rattle.records.specs.Bytes.{AreBytes}
use Rattle.order.specs.Stored.{elements, cells}
use Rattle.planner.specs.Open.{Opens}
use Rattle.planner.specs.model.Opening.{Held}
use Rattle.planner.proofs.OpenLaws.{opens_readable}
use Rattle.planner.proofs.TrimPairs.{Considered, trim_none, trim_asked, trim_again, trim_all}
use Rattle.planner.proofs.ops.trim.extra_left.Goals as goal

pub store_free-requires : goal.store_free-requires
unfolding cells
store_free-requires c = (opens_readable c.args.s.now c.requires.0, search rules)

-- the pair of elements i, j as a number
from_pair : (i j : ℕ) → j < elements → (elements * i + j) / elements ≡ i
from_pair i j h = omega arith

to_pair : (i j : ℕ) → j < elements → (elements * i + j) % elements ≡ j
to_pair i j h = omega arith

below_pair : (i j m : ℕ) → i < m → j < elements → elements * i + j < elements * m
below_pair i j m l h = omega arith

moved : {s : List ℕ} {bytes : AreBytes s} {o : Opens s} {extra afters : List ℕ} {x y : ℕ} → x ≡ y
    → Considered s bytes o x extra afters → Considered s bytes o y extra afters
moved {s} {bytes} {o} {extra} {afters} = subst (λ (x : ℕ). Considered s bytes o x extra afters)

pub loop-i-init : goal.loop-i-init
loop-i-init c =
    let held = c.requires.1 in
    λ bytes o. trim_none c.args.s.now bytes o (ap (λ (x : Held). x.plan) held) c.requires.2
    (ap (λ (x : Held). x.order) held) c.after_rows-afters.ensures

pub loop-j-init : goal.loop-j-init
loop-j-init c = λ bytes o. moved (omega arith) (c.loop-i.invariant bytes o)

pub consider-requires : goal.consider-requires
consider-requires c =
    let i = c.loop-i.i in
    let j = c.loop-j.j in
    let l = c.loop-i-test.true in
    let h = c.loop-j-test.true in
    let bytes : AreBytes c.args.s.now = λ k. omega (arith, c.shared_slice_known-1.given k) in
    trim_asked c.args.s.now bytes c.requires.0 (ap (λ (x : Held). x.plan) c.requires.1) c.requires.2
    (elements * i + j) i j
    (from_pair i j h) (to_pair i j h) (below_pair i j _ l h) (c.loop-j.invariant bytes c.requires.0)

pub loop-j-preserved : goal.loop-j-preserved
loop-j-preserved c =
    let i = c.loop-i.i in
    let j = c.loop-j.j in
    let l = c.loop-i-test.true in
    let h = c.loop-j-test.true in
    λ bytes o. moved (omega arith)
    (trim_again c.args.s.now bytes o (ap (λ (x : Held). x.plan) c.requires.1) c.requires.2 (elements * i + j) i j
    (from_pair i j h) (to_pair i j h) (below_pair i j _ l h) (c.loop-j.invariant bytes o) c.store_free.ensures
    c.consider.ensures.extra_after c.consider.ensures.afters_after)

pub loop-i-preserved : goal.loop-i-preserved
loop-i-preserved c = λ bytes o. moved (omega arith) (c.loop-j.invariant bytes o)

pub returns : goal.returns
returns c =
    let bytes : AreBytes c.args.s.now = λ k. omega (arith, c.shared_slice_known-1.given k) in
    trim_all c.args.s.now bytes c.requires.0 (ap (λ (x : Held). x.plan) c.requires.1) c.requires.2 _ (omega arith)
    (c.loop-i.invariant bytes c.requires.0)
