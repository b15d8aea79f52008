-- CHANGE 3 of document 02, "No arc twice", about a planner P: `ArcsOnceSentence P`. Ours keeps it:
-- `arcs_once_keep` of proofs/RepeatedArcsHold.antt. Quotations are from document 02, change 3.
use Rattle.std.specs.Prelude.{List, [], ◌∷◌, ℕ, ◌≤◌, ◌<◌}
use Rattle.plan.specs.Records.{record_count}
use Rattle.plan.specs.Meaning.{Names}
use Rattle.plan.specs.Refused.{RepeatedPair}
use Rattle.promises.specs.Planner.{Planner}
use Rattle.promises.specs.EveryInput.{OneOf, reading}
use Rattle.promises.specs.Paper.{EveryGives, SomeGives}

-- of any bytes
pub record ArcsOnce (P : Planner) (s : List ℕ) : Type 0 where
  -- "13, with the place of the later record, in each record after 4" (plan's Refused says when) every
  -- operation gives there, whatever is lent or asked, and none gives it otherwise
  pub thirteen : (p : ℕ) → RepeatedPair s p → EveryGives P s (13 ∷ p ∷ [])
  pub thirteen_means : (p : ℕ) → SomeGives P s (13 ∷ p ∷ []) → RepeatedPair s p
  -- "Planners paste arc blocks twice, then delete one copy and believe the arc gone. A pair repeated within
  -- the same type is now refused.": where two records of one type of arc (3 or above) name one pair, every
  -- operation gives one of the reader's numbers, 13 or what is found before it. So of a plan that is read, an
  -- arc is gone with its record
  pub once : (type i j : ℕ) → 3 ≤ type
      → (a b : Names s (record_count s) type i j) → a.place < b.place
      → (n : ℕ) × (values : List ℕ) × OneOf reading n × EveryGives P s (n ∷ values)

abbrev pub ArcsOnceSentence : Planner → Type 0
ArcsOnceSentence P = (s : List ℕ) → ArcsOnce P s
