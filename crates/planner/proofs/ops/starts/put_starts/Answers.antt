-- `planner::ops::starts::put_starts` meets its contract: the starts are copied, and the end is written behind them.
use Prim.Native.Nat.{◌≤◌}
use lib.ListN.{length}
use borrow.Author.Rules.{rules}
use Rattle.planner.proofs.StartsLaws.{put_all}
use Rattle.planner.proofs.ops.starts.put_starts.Goals as goal

pub returns : goal.returns
returns c =
    let a = c.args in
    let few : a.m ≤ length a.starts.now = search rules in
    put_all a.m a.starts.now a.end a.out.now few c.requires.1 c.copy_from_slice.ensures.after
