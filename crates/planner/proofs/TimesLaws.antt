-- The weights of a file's arcs: as a table of its waits has them, and how late they let an activity finish.
use mathlib.Core.Path.{◌≡◌, ap}
use mathlib.Core.List.{List}
use Prim.Native.Nat.{ℕ, ◌+◌, ◌≤◌, ◌<◌}
use native.Mathlib.Omega.{arith}
use Rattle.order.specs.Stored.{elements}
use Rattle.records.specs.Bytes.{AreBytes}
use Rattle.plan.specs.model.Waits.{wait_table}
use Rattle.plan.proofs.Waits.{waits_at, file_wait_small}
use Rattle.schedule.specs.Lists.{at}
use Rattle.schedule.specs.model.Arrays.{AllAtMost, FinishesFit, by_duration, with_waits, starts_of}
use Rattle.schedule.proofs.Arrays.{starts_fit}
use Rattle.planner.specs.Times.{arc_weight}

-- of pairs of elements, the weights by the table are those by the file
pub weights_in : (s durations : List ℕ) (i j : ℕ) → i < elements → j < elements → with_waits durations (wait_table s) i j ≡ arc_weight s (at durations) i j
weights_in s durations i j l h = ap (λ (x : ℕ). at durations i + x) (waits_at s i j l h)

-- in durations of at most 65,535, as a file has them, no arc asks for more than the longest duration and the longest wait together
pub weights_small : (s : List ℕ) → AreBytes s → (durations : List ℕ) → AllAtMost 65535 durations → (i j : ℕ) → arc_weight s (at durations) i j ≤ 65535 + 65535
weights_small s bytes durations small i j = omega (arith, small i, file_wait_small s bytes i j)

-- so the earliest starts leave room for a duration in 32 bits
pub starts_finish : (s : List ℕ) → AreBytes s → (rows durations : List ℕ) → AllAtMost 65535 durations → FinishesFit (starts_of rows (arc_weight s (at durations))) (by_duration durations)
starts_finish s bytes rows durations small i j l =
    omega (arith, starts_fit rows (arc_weight s (at durations)) (65535 + 65535) (omega arith) (weights_small s bytes durations small) i j l)
