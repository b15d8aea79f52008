-- `yaffledesk::codes::shown_word` meets its contract, by the cases of the answer.
use mathlib.Core.Path.{sym, ap, ◌∙◌}
use Prim.Native.Nat.{◌%◌, ◌^◌}
use Rattle.yaffledesk.specs.Codes.{shown_word}
use Rattle.yaffledesk.proofs.codes.shown_word.Goals as goal
use Rattle.planner.specs.Results.{Decision}

pub returns-in-Ok : goal.returns-in-Ok
returns-in-Ok c = sym (ap (λ (x : Decision). shown_word x % 2 ^ 64) c.in-Ok.is)

pub returns-in-Err : goal.returns-in-Err
returns-in-Err c = c.cause_word.ensures ∙ sym (ap (λ (x : Decision). shown_word x % 2 ^ 64) c.in-Err.is)
