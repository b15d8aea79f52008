-- DEMAND 1 of document 00, about a planner P: "every input gets a result or a numbered refusal of
-- document 01, and a refusal leaves every lent byte and number as before." It holds of ours:
-- `every_input` of proofs/EveryInputHolds.antt, for every list of numbers, bytes or not.
use Rattle.std.specs.Prelude.{◌≡◌, List, [], ◌∷◌, ◌++◌, ◌⊎◌, ℕ, length, Ok, Err}
use Rattle.schedule.specs.declared.Checked.{Checked}
use Rattle.planner.specs.Results.{accepted}
use Rattle.planner.specs.declared.Cause.{Cause}
use Rattle.planner.specs.Answers.{cause_number}
use Rattle.promises.specs.Planner.{Writing, Planner}

-- n is one of these numbers
abbrev pub OneOf : List ℕ → ℕ → Type 0
OneOf [] n = ⊥
OneOf (x ∷ xs) n = (n ≡ x) ⊎ OneOf xs n

-- "Check order: 1; then records in file order, 2, 3, 4 within each": the reader's numbers; 12 comes "in each
-- record after 3 and before 4" (02, change 2), 13 "in each record after 4" (02, change 3)
abbrev pub reading : List ℕ
reading = 1 ∷ 2 ∷ 3 ∷ 12 ∷ 4 ∷ 13 ∷ []

-- "then 5, 6.": the numbers that every operation can give
abbrev pub opening : List ℕ
opening = reading ++ 5 ∷ 6 ∷ []

-- an operation that writes gives "a result or a numbered refusal", by one of these numbers, whatever the
-- bytes and however much is lent
abbrev pub AnswersBy : List ℕ → Writing → Type 0
AnswersBy numbers W =
    (s : List ℕ) (n : ℕ)
    → ((r : ℕ) × (W.answer s n ≡ Ok r))
    ⊎ ((c : Cause) × (W.answer s n ≡ Err c) × OneOf numbers (cause_number c))

-- "a refusal leaves every lent byte and number as before"
abbrev pub KeepsLent : Writing → Type 0
KeepsLent W = (s out : List ℕ) (c : Cause) → W.answer s (length out) ≡ Err c → W.left s out ≡ out

pub record EveryInput (P : Planner) : Type 0 where
  -- "After that Verdict: 7." "Verdict: accepted with m and K, or 1–7."
  pub verdict : (s : List ℕ)
      → ((m : ℕ) × (n : ℕ) × (P.verdict s ≡ accepted m n))
      ⊎ ((c : Cause) × (P.verdict s ≡ Err c) × OneOf (opening ++ 7 ∷ []) (cause_number c))
  -- "Needs, Starts, Overload: 9." "Needs, Starts, Overload and Crew check never give 7."
  pub needs : AnswersBy (opening ++ 9 ∷ []) P.needs
  pub starts : AnswersBy (opening ++ 9 ∷ []) P.starts
  pub overload : AnswersBy (opening ++ 9 ∷ []) P.overload
  -- "Flow: 8, 9, 7 (any kind's overload)."
  pub flow : (kind : ℕ) → AnswersBy (opening ++ 8 ∷ 9 ∷ 7 ∷ []) (P.flow kind)
  -- "Crew check: 10."
  pub crew_check : (s starts worked : List ℕ)
      → ((x : Checked) × (P.crew_check s starts worked ≡ Ok x))
      ⊎ ((c : Cause) × (P.crew_check s starts worked ≡ Err c)
      × OneOf (opening ++ 10 ∷ []) (cause_number c))
  -- "Left as it was | all lent memory" (Verdict and Crew check are lent nothing that they could change)
  pub needs_kept : KeepsLent P.needs
  pub starts_kept : KeepsLent P.starts
  pub overload_kept : KeepsLent P.overload
  pub flow_kept : (kind : ℕ) → KeepsLent (P.flow kind)
