-- The answers of the crew check, as numbers.
use Rattle.std.specs.Prelude.{ℕ}
use Rattle.schedule.specs.declared.Checked.{Checked}
use Rattle.schedule.specs.declared.Checked.TheVariants.{Fits, Broken, Overload}

abbrev pub number_of : Checked → ℕ
number_of Fits = 0
number_of (Broken from to) = 1
number_of (Overload period kind) = 2
