-- `halves::places_word` meets its contract. The invariant: both halves have the places passed.
use Rattle.std.proofs.Common.{◌≡◌}
use Rattle.order.specs.model.Places.{positive}
use Rattle.order.proofs.halves.places_word.Given as goal

abbrev pub invariant-loop-i : goal.invariant-loop-i
invariant-loop-i l = (l.low ≡ positive l.i l.first) × (l.high ≡ positive l.i l.second)
