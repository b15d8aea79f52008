-- The units of a kind, from node to node, as the code has them.
use Rattle.std.specs.Prelude.{ℕ}
use Rattle.kinds.specs.declared.units.Units.{Units}
use Rattle.kinds.specs.Flows.{units}

abbrev pub passing : Units → ℕ → ℕ → ℕ
passing u = units u.m u.demand.now u.flow.now u.spare
