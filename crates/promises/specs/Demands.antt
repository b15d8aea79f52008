-- THE THREE DEMANDS of document 00, about a planner P. Ours keeps them:
-- `ours_keeps` of proofs/DemandsHold.antt.
use Rattle.promises.specs.Planner.{Planner}
use Rattle.promises.specs.EveryInput.{EveryInput}
use Rattle.promises.specs.Paper.{PaperSentence}
use Rattle.promises.specs.PriceList.{PriceListSentence}
use Rattle.promises.specs.Refusals.{RefusalSentence}
use Rattle.promises.specs.Same.{EqualFlows}

pub record Demands (P : Planner) : Type 0 where
  -- "1. So that any file can be opened at the counter, every input gets a result or a numbered refusal of
  -- document 01, and a refusal leaves every lent byte and number as before."
  pub one : EveryInput P
  -- (and which of them when: 01, "Operations and causes")
  pub which : RefusalSentence P
  -- "2. Order, flows, earliest starts and the crew check are those of the paper
  -- on resource flows that 01 condenses."
  pub two : PaperSentence P
  -- (of its flows 01 adds: "plans with the same activities, crew, set of job arcs
  -- and set of extra arcs get equal flows")
  pub same : EqualFlows P
  -- "3. The desk and the crew. .."
  pub three : PriceListSentence P
