-- A PLANNER: what the six operations of document 01 answer, and what they leave of what they are lent, for
-- every list of bytes. The demands of document 00 are said of any planner (EveryInput, Paper, PriceList,
-- Refusals), and name no definition of what our operations do. Ours is `ours` of Ours.
use Rattle.std.specs.Prelude.{List, ℕ}
use Rattle.planner.specs.Results.{Decision, Output, CrewChecked}

-- an operation that writes: its answer, by the plan's bytes and how many numbers or bytes are lent, and
-- what is then in what was lent
pub record Writing : Type 0 where
  pub answer : List ℕ → ℕ → Output
  pub left : List ℕ → List ℕ → List ℕ

-- Flow goes by a kind, and Crew check by starts and worked durations
pub record Planner : Type 0 where
  pub verdict : List ℕ → Decision
  pub needs : Writing
  pub starts : Writing
  pub overload : Writing
  pub flow : ℕ → Writing
  pub crew_check : List ℕ → List ℕ → List ℕ → CrewChecked
