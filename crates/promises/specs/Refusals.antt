-- WHICH ANSWER WHEN (01, "Operations and causes"): for any bytes, and for any that is lent or
-- asked, which of the numbered refusals a planner P gives, or which result. It holds of ours:
-- `refusals` of proofs/RefusalsHold.antt. 5 and 6 are said in Paper (Circles), 10 there too
-- (CrewCheck), Verdict's 7 in PriceList.
use Rattle.std.specs.Prelude.{◌≡◌, List, [], ◌∷◌, ℕ, ◌+◌, ◌≤◌, ◌<◌, Err}
use Rattle.order.specs.Before.{Acyclic}
use Rattle.records.specs.Bytes.{AreBytes}
use Rattle.plan.specs.Meaning.{Readable, FileArc, file_kinds}
use Rattle.plan.specs.Causes.{answer_of}
use Rattle.plan.specs.Records.{activity_count}
use Rattle.plan.specs.declared.Cause.{Cause as Unread}
use Rattle.planner.specs.Answers.{unread_numbers, verdict_numbers, output_numbers}
use Rattle.planner.specs.File.{flow_length}
use Rattle.promises.specs.Planner.{Planner}
use Rattle.promises.specs.EveryInput.{OneOf, reading}
use Rattle.promises.specs.Paper.{EveryGives, SomeGives}
use Rattle.promises.specs.PriceList.{Exceeds, Enough}

-- "Check order: 1; then records in file order, 2, 3, 4 within each": what the reader finds
-- (`answer_of` of plan's Causes, and its meaning in plan's Refused) every operation gives, and none
-- gives one of these numbers otherwise
pub record Unreadables (P : Planner) (s : List ℕ) : Type 0 where
  pub every : (u : Unread) → answer_of s ≡ Err u → EveryGives P s (unread_numbers u)
  pub some : (n : ℕ) (values : List ℕ) → OneOf reading n → SomeGives P s (n ∷ values)
      → (u : Unread) × (answer_of s ≡ Err u) × (unread_numbers u ≡ n ∷ values)

-- of a readable plan without a circle
pub record Refusals (P : Planner) (s : List ℕ) : Type 0 where
  -- "Needs, Starts, Overload: 9.": "lent slice too short | 9 | length needed", "Lengths needed: K;
  -- m+1; 24 bytes for Overload"
  pub needs_short : (n : ℕ) → n < file_kinds s → output_numbers (P.needs.answer s n) ≡ 9 ∷ file_kinds s ∷ []
  pub needs : (n : ℕ) → file_kinds s ≤ n → output_numbers (P.needs.answer s n) ≡ 0 ∷ file_kinds s ∷ []
  pub starts_short : (n : ℕ) → n < activity_count s + 1
      → output_numbers (P.starts.answer s n) ≡ 9 ∷ (activity_count s + 1) ∷ []
  pub starts : (n : ℕ) → activity_count s + 1 ≤ n
      → output_numbers (P.starts.answer s n) ≡ 0 ∷ (activity_count s + 1) ∷ []
  pub overload_short : (n : ℕ) → n < 24 → output_numbers (P.overload.answer s n) ≡ 9 ∷ 24 ∷ []
  -- "Overload: its record, or "none" when accepted."
  pub overload : (n : ℕ) → 24 ≤ n → (k : ℕ) → Exceeds P s k
      → output_numbers (P.overload.answer s n) ≡ 0 ∷ 1 ∷ []
  pub overload_none : (n : ℕ) → 24 ≤ n → Enough P s → output_numbers (P.overload.answer s n) ≡ 0 ∷ 0 ∷ []
  -- "Flow: 8, 9, 7 (any kind's overload).": "kind not 1 to K | 8 | K"
  pub flow_no_kind : (kind n : ℕ) → ((1 ≤ kind) × (kind ≤ file_kinds s) → ⊥)
      → output_numbers ((P.flow kind).answer s n) ≡ 8 ∷ file_kinds s ∷ []
  -- "for Flow 24 × (m(m−1)/2 + 2m + 1) bytes"
  pub flow_short : (kind n : ℕ) → 1 ≤ kind → kind ≤ file_kinds s → n < flow_length (activity_count s)
      → output_numbers ((P.flow kind).answer s n) ≡ 9 ∷ flow_length (activity_count s) ∷ []
  -- its 7 is Verdict's, with the same set
  pub flow_overloaded : (kind n : ℕ) → 1 ≤ kind → kind ≤ file_kinds s → flow_length (activity_count s) ≤ n
      → (k : ℕ) → Exceeds P s k
      → output_numbers ((P.flow kind).answer s n) ≡ verdict_numbers (P.verdict s)

abbrev pub RefusalSentence : Planner → Type 0
RefusalSentence P =
    (s : List ℕ) → AreBytes s → Unreadables P s × (Readable s → Acyclic (FileArc s) → Refusals P s)
