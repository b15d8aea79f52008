-- "A page under way carries the lent bytes it fills and how far it has come" (document 02, change 1): what
-- the methods of `Page` make of one.
use Rattle.std.specs.Prelude.{List, ℕ, ◌+◌}
use denote.Ref.{at_last}
use Rattle.lines.specs.Text.{text, more}
use Rattle.crew_sheet.specs.Sheet.{line_bytes, head_line}
use Rattle.crew_sheet.specs.declared.Page.{Page}

-- lent bytes, with a list written from byte `at` on
abbrev pub onto : ℕ → List ℕ → List ℕ → List ℕ
onto at bytes out = (more (text at out) bytes).out

-- a page under way, with its head
abbrev pub headed : Page → ℕ → ℕ → Page
headed p kind page =
    record {
      out = at_last p.out (onto p.at (head_line kind page) p.out.now);
      at = p.at + line_bytes;
    }
