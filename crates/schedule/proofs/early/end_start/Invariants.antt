-- `schedule::end_start` meets its contract. The invariant: the largest finish of the elements passed.
use mathlib.Core.Path.{◌≡◌}
use Prim.Native.Nat.{◌+◌}
use lib.ListN.{length, get_or}
use Rattle.words.specs.Sums.{maximum}
use Rattle.schedule.proofs.early.end_start.Given as goal

abbrev pub invariant-loop-start : goal.invariant-loop-start
invariant-loop-start l = l.last ≡ maximum (length l.yielded) (λ k. get_or l.starts k 0 + get_or l.durations k 0)
