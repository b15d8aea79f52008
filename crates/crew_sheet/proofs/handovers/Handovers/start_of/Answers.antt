-- `Handovers::start_of` meets its contract: the start of the node that it read.
use mathlib.Core.Path.{ap, ◌∙◌}
use native.Mathlib.Omega.{arith}
use Rattle.crew_sheet.specs.Sheet.{node_start, start_of}
use Rattle.crew_sheet.proofs.handovers.Handovers.start_of.Goals as goal

pub returns : goal.returns
unfolding start_of
returns c = c.node_start.ensures ∙ ap (node_start c.args.self.now.starts.now) (omega arith)
