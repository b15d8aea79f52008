-- `plan::read` meets its contract: a wrong length is refused, and of a right one the phases come to the reading.
use mathlib.Core.Path.{◌≡◌, refl, sym, ap, ◌∙◌}
use mathlib.Core.Bool.{true}
use native.Mathlib.Omega.{arith}
use lib.ListN.{length}
use Rattle.plan.specs.model.Reads.{outcome, read_of}
use Rattle.plan.specs.Causes.{is_length, answer_of}
use Rattle.plan.proofs.ReaderLoops.{passed, rule_broken, given_fine}
use Rattle.plan.proofs.RecordRules.{rule_kept}
use Rattle.plan.proofs.Refused.{length_says}
use Rattle.plan.proofs.Phases.{file_read}
use Rattle.plan.proofs.read.Goals.{In_ok-check}
use Rattle.plan.proofs.read.Goals as goal

pub returns-in_err-check : goal.returns-in_err-check
unfolding read_of answer_of
returns-in_err-check c =
    let b = rule_broken _ _ (sym c.check.ensures ∙ c.in_err-check.was) in
    rw (passed c.from_residual.ensures, ← b.1, sym c.is_length.ensures ∙ b.0) refl

-- the length is one of a file
module _ (c : In_ok-check) where
  legal : is_length (length c.args.s.now) ≡ true
  legal = sym c.is_length.ensures ∙ rule_kept _ _ _ (given_fine c.check.ensures c.in_ok-check.was)

pub read_file-requires : goal.read_file-requires
read_file-requires c =
    let h = ((length_says (length c.args.s.now)).0 (legal (goal.at.read_file-requires c).In_ok-check)).1 in
    omega (arith, c.records_of.ensures.number)

pub returns : goal.returns
returns c =
    let s = c.args.s.now in
    rw c.records_of.ensures.number at (c.read_file.ensures s c.records_of.ensures.value)
    ∙ ap outcome (file_read s (legal (goal.at.returns c).In_ok-check))
