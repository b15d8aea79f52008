-- `plan::file::is_length` meets its contract.
use native.Mathlib.Omega.{arith}
use borrow.Author.Tests.{lt-ltb, le-leb}
use Rattle.std.proofs.lemmas.Bool.Decides.{nat_tests}
use Rattle.plan.specs.Causes.{is_length}
use Rattle.plan.proofs.file.is_length.Goals as goal

pub returns-then-n-le49152 : goal.returns-then-n-le49152
unfolding is_length
returns-then-n-le49152 c = rw (lt-ltb 0 c.args.n (omega arith), le-leb c.args.n 49152 (omega arith))

pub returns-else-n-le49152 : goal.returns-else-n-le49152
unfolding is_length
returns-else-n-le49152 c = grind (arith, nat_tests)
