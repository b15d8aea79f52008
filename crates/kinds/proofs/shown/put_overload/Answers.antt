-- `kinds::shown::put_overload` meets its contract, by whether there is an overload, of a kind that a file has.
use mathlib.Core.Path.{refl}
use Prim.Native.Nat.{◌+◌}
use native.Mathlib.Omega.{arith}
use Rattle.order.proofs.Sets.{size_le}
use Rattle.kinds.proofs.KindLoops.{given_none, shown_none, shown_one}
use Rattle.kinds.proofs.shown.put_overload.Goals as goal

pub returns-in_default : goal.returns-in_default
returns-in_default c = rw c.in_default.is (given_none c.args.out.now)

pub returns-then-kind-ge-KINDS : goal.returns-then-kind-ge-KINDS
returns-then-kind-ge-KINDS c =
    let a = c.args in
    rw c.in-Some.is (shown_none c.in-Some.shown a.out.now (omega arith))

pub overflow_cast-size : goal.overflow_cast-size
overflow_cast-size c = omega (arith, c.size.ensures, size_le c.in-Some.shown.set)

pub returns : goal.returns
returns c =
    let a = c.args in
    rw c.in-Some.is
    (shown_one c.in-Some.shown a.out.now (c.in-Some.shown.kind + 1) c.size.result c.first_word.result _ (omega arith) refl
    c.size.ensures c.first_word.ensures c.write_overload.ensures)
