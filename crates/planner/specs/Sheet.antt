-- Sheet (document 02, change 1): what it answers, and what the lent bytes then hold.
-- Quotations are from there.
use Rattle.std.specs.Prelude.{Bool, not, List, ℕ, ◌-◌, length, Ok}
use Rattle.crew_sheet.specs.Sheet.{page_bytes, pages_of, sheet_page}
use Rattle.planner.specs.Faults.{Fault, or_cause}
use Rattle.planner.specs.Results.{Output}
use Rattle.planner.specs.Open.{plan_in}
use Rattle.planner.specs.Output.{output_of, lent_after}
use Rattle.planner.specs.Starts.{start_numbers}
use Rattle.planner.specs.Flow.{is_kind, kind_fault, flow_count, record_bytes}
use Rattle.planner.specs.declared.Cause.TheVariants.{NoPage}

-- "page not 1 to the page count": pages count as kinds do
abbrev pub is_page : ℕ → ℕ → Bool
is_page = is_kind

-- "11, page not 1 to the page count, returned with that count":
-- of a sheet of n records, where no cause came before
abbrev pub page_fault : ℕ → ℕ → Fault
page_fault n page = or_cause (Ok tt) (not (is_page page (pages_of n))) (NoPage (pages_of n))

-- the page count, of the flow that Flow shows
abbrev pub sheet_pages : List ℕ → ℕ → ℕ
sheet_pages s kind = pages_of (flow_count (plan_in s) (kind - 1))

-- "the order is 8, 9 (2,460 bytes), 7, 11"; n bytes are lent
unfoldable pub sheet_fault : List ℕ → ℕ → ℕ → ℕ → Fault
sheet_fault s kind page n =
    let pages = sheet_pages s kind in
    or_cause (kind_fault s kind n page_bytes) (not (is_page page pages)) (NoPage pages)

-- THE ANSWER: "the page count is returned"
abbrev pub sheet_answer : List ℕ → ℕ → ℕ → ℕ → Output
sheet_answer s kind page n = output_of (sheet_fault s kind page n) (sheet_pages s kind)

-- THE LENT BYTES: "the flow is the one Flow gives", and the starts are those that Starts gives
unfoldable pub sheet_out : List ℕ → ℕ → ℕ → List ℕ → List ℕ
sheet_out s kind page out =
    let q = plan_in s in
    let written = sheet_page (record_bytes q (kind - 1)) (start_numbers s) (flow_count q (kind - 1)) kind page in
    lent_after (sheet_fault s kind page (length out)) written out
