-- `records::read::field` meets its contract: each turn reads one byte more, from the last one on.
use mathlib.Core.Path.{◌≡◌}
use Prim.Native.Nat.{ℕ, suc, ◌+◌, ◌-◌, ◌*◌}
use native.Mathlib.Omega.{arith}
use Rattle.records.specs.Bytes.{byte, field, AreBytes}
use Rattle.records.proofs.Fields.{field_below, field_few}
use Rattle.records.proofs.read.field.Goals as goal

pub loop-i-init : goal.loop-i-init
unfolding field
loop-i-init g c =
    let none : c.args.at + g.row.N - (c.args.at + g.row.N) ≡ 0 = omega arith in
    (rw none, omega arith, omega arith)

pub overflow_mul-x : goal.overflow_mul-x
overflow_mul-x g c =
    let a = c.args in
    let l = c.loop-i in
    omega (arith, field_few a.bytes.now l.i (a.at + g.row.N - l.i) (λ i. (c.type_inv.bytes i).fits) (omega arith))

pub overflow_add-x : goal.overflow_add-x
overflow_add-x g c =
    let a = c.args in
    let l = c.loop-i in
    let few = field_few a.bytes.now l.i (a.at + g.row.N - l.i) (λ i. (c.type_inv.bytes i).fits) (omega arith) in
    omega (arith, c.type_inv.bytes (l.i - 1))

pub loop-i-preserved : goal.loop-i-preserved
unfolding field
loop-i-preserved g c =
    let a = c.args in
    let l = c.loop-i in
    let s = a.bytes.now in
    let rest : ℕ = a.at + g.row.N - l.i in
    let more : a.at + g.row.N - (l.i - 1) ≡ suc rest = omega arith in
    let next : l.i - 1 + 1 ≡ l.i = omega arith in
    let read : 256 * l.x + c.from.result ≡ byte s (l.i - 1) + 256 * field s l.i rest = omega arith in
    (rw (more, next) read, omega arith, omega arith)

pub returns-clause-value : goal.returns-clause-value
returns-clause-value g c =
    let a = c.args in
    let l = c.loop-i in
    let first : l.i ≡ a.at = omega arith in
    let all : a.at + g.row.N - a.at ≡ g.row.N = omega arith in
    rw (first, all) at l.invariant.0

pub returns-clause-upper_bound : goal.returns-clause-upper_bound
returns-clause-upper_bound g c =
    let are_bytes : AreBytes c.args.bytes.now = λ i. (c.type_inv.bytes i).fits in
    rw (returns-clause-value g c) (field_below c.args.bytes.now c.args.at g.row.N are_bytes)
