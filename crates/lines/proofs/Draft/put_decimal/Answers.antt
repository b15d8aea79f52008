-- `Draft::put_decimal` meets its contract: each turn writes one digit more, from the last on (`Spelling`).
use mathlib.Core.Path.{◌≡◌, refl, ◌∙◌}
use Prim.Native.Nat.{◌+◌, ◌-◌}
use lib.ListN.{length-set}
use native.Mathlib.Omega.{arith}
use Rattle.lines.specs.Text.{places}
use Rattle.lines.proofs.Decimals.{places_most}
use Rattle.lines.proofs.Texts.{spelling_none, spelling_next, spelling_end}
use Rattle.lines.proofs.Draft.put_decimal.Goals as goal

pub overflow_add-end : goal.overflow_add-end
overflow_add-end c = omega (arith, places_most c.args.x)

pub loop-i-init : goal.loop-i-init
loop-i-init c =
    let d = c.args.self.now in
    let e : d.at + c.digits.result - d.at ≡ places c.args.x = omega (arith, c.digits.ensures) in
    (omega arith, rw e (spelling_none d.at c.args.x d.out.now), refl, refl)

pub bounds-self-i : goal.bounds-self-i
bounds-self-i c =
    let long = c.loop-i.invariant.2 in
    omega (arith, places_most c.args.x)

pub loop-i-preserved : goal.loop-i-preserved
loop-i-preserved c =
    let d = c.args.self.now in
    let l = c.loop-i in
    let less : l.i - d.at - 1 ≡ l.i - 1 - d.at = omega arith in
    let here : d.at + (l.i - 1 - d.at) ≡ l.i - 1 = omega arith in
    let out = l.self.out.now in
    let next = spelling_next d.at c.args.x d.out.now (l.i - d.at) l.rest out l.invariant.1 c.requires (omega arith) in
    (omega arith, rw (less, here) at next, length-set l.self.out.now _ _ ∙ l.invariant.2, l.invariant.3)

pub returns-clause-written : goal.returns-clause-written
returns-clause-written c =
    let d = c.args.self.now in
    let l = c.loop-i in
    let out = l.self.out.now in
    let end = spelling_end d.at c.args.x d.out.now (l.i - d.at) l.rest out l.invariant.1 c.requires (omega arith) in
    rw c.digits.ensures end

pub returns-clause-same_reference : goal.returns-clause-same_reference
returns-clause-same_reference c = c.loop-i.invariant.3
