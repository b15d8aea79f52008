-- `schedule::end_start` meets its contract. The invariant: the largest finish of the elements passed.
use mathlib.Core.Path.{◌≡◌, refl, ◌∙◌}
use Prim.Native.Nat.{ℕ, ◌+◌, ◌<◌}
use native.Mathlib.Omega.{arith}
use Rattle.std.proofs.Common.{rules}
use lib.ListN.{length, take}
use Rattle.std.proofs.lemmas.List.{get_or-take, length_push, length-take-le}
use Rattle.std.proofs.lemmas.Slice.Zip.{zip_turn, zip_end}
use Rattle.words.specs.Sums.{maximum}
use Rattle.words.proofs.Maxima.{maximum_next}
use Rattle.schedule.specs.Starts.{end_of}
use Rattle.schedule.specs.Lists.{at}
use Rattle.schedule.proofs.early.end_start.Goals as goal

pub loop-start-init : goal.loop-start-init
unfolding maximum
loop-start-init c = refl

pub overflow_add-finish : goal.overflow_add-finish
overflow_add-finish c =
    let a = c.args in
    let l = c.loop-start in
    let i = length l.yielded in
    let t = zip_turn (take a.m a.starts.now) a.durations.now l.yielded c.into_iter-start-iterator.result l.start-iterator c.next.new.self c.next.result (cc) (cc) l.yielded_by _ c.in-Some.is c.next.ensures.steps in
    let m : i < a.m = omega (arith, t.0, length-take-le a.m a.starts.now (search rules)) in
    let s : c.in-Some.start.now ≡ at a.starts.now i = t.2 0 ∙ get_or-take a.m a.starts.now i 0 m in
    record { fits = omega (arith, c.requires.finishes_fit i 0 (omega arith), s, t.3 0) }

pub loop-start-preserved : goal.loop-start-preserved
loop-start-preserved c =
    let a = c.args in
    let l = c.loop-start in
    let i = length l.yielded in
    let t = zip_turn (take a.m a.starts.now) a.durations.now l.yielded c.into_iter-start-iterator.result l.start-iterator c.next.new.self c.next.result (cc) (cc) l.yielded_by _ c.in-Some.is c.next.ensures.steps in
    let m : i < a.m = omega (arith, t.0, length-take-le a.m a.starts.now (search rules)) in
    let s : c.in-Some.start.now ≡ at a.starts.now i = t.2 0 ∙ get_or-take a.m a.starts.now i 0 m in
    let f : ℕ → ℕ = λ k. at a.starts.now k + at a.durations.now k in
    let v : f i ≡ c.in-Some.start.now + c.in-Some.duration.now = omega (arith, s, t.3 0) in
    rw (length_push l.yielded (c.in-Some.start, c.in-Some.duration)) (maximum_next i f l.last _ c.max-last.result l.invariant v c.max-last.ensures)

pub returns : goal.returns
unfolding end_of
returns c =
    let a = c.args in
    let l = c.loop-start in
    let t = zip_end (take a.m a.starts.now) a.durations.now l.yielded c.into_iter-start-iterator.result l.start-iterator c.next.new.self c.next.result (cc) (cc) l.yielded_by c.in-None.is c.next.ensures.steps in
    let e : length l.yielded ≡ a.m = omega (arith, t, length-take-le a.m a.starts.now (search rules)) in
    rw e at l.invariant
