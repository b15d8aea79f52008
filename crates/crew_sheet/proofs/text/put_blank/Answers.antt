-- `crew_sheet::text::put_blank` meets its contract: blanks and the line's end.
use mathlib.Core.Path.{refl}
use Rattle.crew_sheet.specs.Sheet.{blank_line}
use Rattle.crew_sheet.proofs.LinesWritten.{grown_more}
use Rattle.crew_sheet.proofs.text.put_blank.Goals as goal

pub returns-clause-written : goal.returns-clause-written
unfolding blank_line
returns-clause-written c =
    (grown_more {n = 40} (record { done = c.put_blanks.ensures.written; long = refl })
    (record { done = c.put_bytes.ensures.written; long = refl }) c.requires).done
