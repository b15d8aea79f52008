-- `yaffledesk::codes::output_code` meets its contract, by the cases of the answer.
use mathlib.Core.Path.{sym, ap, ◌∙◌, subst}
use Prim.Native.Nat.{◌<◌, ◌^◌}
use Rattle.planner.specs.Results.{Output}
use Rattle.yaffledesk.specs.Codes.{output_code}
use native.Mathlib.Omega.{arith}
use Rattle.yaffledesk.proofs.codes.output_code.Goals as goal

pub pack-requires : goal.pack-requires
unfolding output_code
pack-requires c = omega (arith, subst (λ (x : Output). output_code x < 2 ^ 64) c.in-Ok.is c.requires)

pub returns-in-Ok : goal.returns-in-Ok
unfolding output_code
returns-in-Ok c = c.pack.ensures ∙ sym (ap output_code c.in-Ok.is)

pub cause_code-requires : goal.cause_code-requires
unfolding output_code
cause_code-requires c = subst (λ (x : Output). output_code x < 2 ^ 64) c.in-Err.is c.requires

pub returns-in-Err : goal.returns-in-Err
unfolding output_code
returns-in-Err c = c.cause_code.ensures ∙ sym (ap output_code c.in-Err.is)
