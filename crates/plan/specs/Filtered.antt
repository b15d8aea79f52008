-- A FILE WITHOUT SOME OF ITS ARC RECORDS, the others as they were and in their order. For any choice of arcs:
-- such a file of a readable one is readable, and says the same but for those arcs (`selected_readable` and
-- the laws beside it in proofs/Selected.antt, `filtered_names` of proofs/Filtered.antt).
use Rattle.std.specs.Prelude.{◌≡◌, Bool, true, List, ℕ, ◌+◌, ◌*◌, ◌≤◌, ◌<◌, length, take}
use Rattle.records.specs.Bytes.{byte}
use Rattle.records.specs.Records.{kept}
use Rattle.plan.specs.Records.{record_at, record_count, type_at, activity_count}

-- the records that a test of places keeps
unfoldable pub filtered : (ℕ → Bool) → List ℕ → List ℕ
filtered keep s = kept keep (λ p. take 24 (record_at s p)) (record_count s)

-- the test leaves out no activity, and not the crew record
abbrev pub LeavesArcs : (ℕ → Bool) → List ℕ → Type 0
LeavesArcs keep s = (p : ℕ) → p ≤ activity_count s → keep p ≡ true

-- a record that it keeps is of a type and names the arc from element i to element j
pub record KeptNames (keep : ℕ → Bool) (s : List ℕ) (type i j : ℕ) : Type 0 where
  pub place : ℕ
  pub there : place < record_count s
  pub chosen : keep place ≡ true
  pub typed : type_at s place ≡ type
  pub from : byte (record_at s place) 1 ≡ i + 1
  pub to : byte (record_at s place) 2 ≡ j + 1

-- t IS s WITHOUT SOME ARC RECORDS, whatever made it: its records are some of those of s, in their order, all
-- activities and the crew record among them
pub record Selected (s t : List ℕ) : Type 0 where
  pub whole : length t ≡ 24 * record_count t
  -- which record of s each is
  pub origin : ℕ → ℕ
  pub there : (p : ℕ) → p < record_count t → origin p < record_count s
  pub ascend : (p q : ℕ) → p < q → q < record_count t → origin p < origin q
  pub same : (p : ℕ) → p < record_count t → take 24 (record_at t p) ≡ take 24 (record_at s (origin p))
  pub front : (p : ℕ) → p ≤ activity_count s → (p < record_count t) × (origin p ≡ p)
