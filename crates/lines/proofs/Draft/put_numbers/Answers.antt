-- `Draft::put_numbers` meets its contract: each turn writes a space and a number more (`Listing`).
use mathlib.Core.Path.{refl, ◌∙◌}
use lib.ListN.{length-set}
use native.Mathlib.Omega.{arith}
use Rattle.lines.proofs.Texts.{listing_none, listing_room, listing_next, listing_end}
use Rattle.lines.proofs.Draft.put_numbers.Goals as goal

pub loop-x-init : goal.loop-x-init
loop-x-init c =
    let d = c.args.self.now in
    (listing_none d.at c.args.numbers.now d.out.now, refl)

pub bounds-self-self : goal.bounds-self-self
bounds-self-self c =
    let d = c.args.self.now in
    let l = c.loop-x in
    let o = l.self in
    omega (arith, listing_room d.at c.args.numbers.now d.out.now l.x-index o.at o.out.now l.invariant.0 c.requires (omega arith))

pub put_decimal-requires : goal.put_decimal-requires
put_decimal-requires c =
    let d = c.args.self.now in
    let l = c.loop-x in
    let o = l.self in
    let room = listing_room d.at c.args.numbers.now d.out.now l.x-index o.at o.out.now l.invariant.0 c.requires (omega arith) in
    rw length-set (omega arith)

pub loop-x-preserved : goal.loop-x-preserved
loop-x-preserved c =
    let d = c.args.self.now in
    let l = c.loop-x in
    let w = c.put_decimal.ensures in
    let next = listing_next d.at c.args.numbers.now d.out.now l.x-index l.self.at l.self.out.now l.invariant.0 c.requires in
    (next (omega arith) _ _ w.written, w.same_reference ∙ l.invariant.1)

pub returns-clause-same_reference : goal.returns-clause-same_reference
returns-clause-same_reference c = c.loop-x.invariant.1

pub returns-clause-written : goal.returns-clause-written
returns-clause-written c =
    let d = c.args.self.now in
    let l = c.loop-x in
    listing_end d.at c.args.numbers.now d.out.now l.x-index l.self.at l.self.out.now l.invariant.0 c.requires (omega arith)
