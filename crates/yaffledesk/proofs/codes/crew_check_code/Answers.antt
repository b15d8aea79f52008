-- `yaffledesk::codes::crew_check_code` meets its contract, by the cases of the answer.
use mathlib.Core.Path.{sym, ap, ◌∙◌, subst}
use Prim.Native.Nat.{◌<◌, ◌^◌}
use Rattle.yaffledesk.specs.Codes.{crew_check_code}
use Rattle.yaffledesk.proofs.codes.crew_check_code.Goals as goal
use Rattle.planner.specs.Results.{CrewChecked}

pub found_code-requires : goal.found_code-requires
found_code-requires c = subst (λ (x : CrewChecked). crew_check_code x < 2 ^ 64) c.in-Ok.is c.requires

pub returns-in-Ok : goal.returns-in-Ok
returns-in-Ok c = c.found_code.ensures ∙ sym (ap crew_check_code c.in-Ok.is)

pub cause_code-requires : goal.cause_code-requires
cause_code-requires c = subst (λ (x : CrewChecked). crew_check_code x < 2 ^ 64) c.in-Err.is c.requires

pub returns-in-Err : goal.returns-in-Err
returns-in-Err c = c.cause_code.ensures ∙ sym (ap crew_check_code c.in-Err.is)
