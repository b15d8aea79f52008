-- Arcs and orders as they are given: arcs with one more, arcs of a test, arcs of a list,
-- and an order as a test.
use Rattle.std.specs.Prelude.{◌≡◌, ℕ, ◌<◌, Bool, true, ◌⊎◌, List, ◌≢◌}
use mathlib.Core.List.{Memᴰ}

-- "Adding an arc to an order gives the order so extended." These are the arcs of the extended order:
-- A, and the one from x to y.
abbrev pub With : (ℕ → ℕ → Type 0) → ℕ → ℕ → ℕ → ℕ → Type 0
With A x y i j = A i j ⊎ ((i ≡ x) × (j ≡ y))

-- "The order without arcs": no arc leads anywhere.
abbrev pub NoArc : ℕ → ℕ → Type 0
NoArc i j = ⊥

-- every arc's ends are elements below n
abbrev pub Within : ℕ → (ℕ → ℕ → Type 0) → Type 0
Within n A = (i j : ℕ) → A i j → (i < n) × (j < n)

-- A strict order of the elements below n, as a test: none is before itself, and what is before an element is
-- before all that comes after it. The order of a plan without a circle is one.
pub record StrictOrder (n : ℕ) (b : ℕ → ℕ → Bool) : Type 0 where
  pub irreflexive : (i : ℕ) → i < n → b i i ≢ true
  pub transitive : (i j k : ℕ) → i < n → j < n → k < n → b i j ≡ true → b j k ≡ true → b i k ≡ true

-- ---- two ways to give arcs

-- the arcs between elements below n that a test draws
pub record Drawn (n : ℕ) (arcs : ℕ → ℕ → Bool) (i j : ℕ) : Type 0 where
  pub from : i < n
  pub to : j < n
  pub drawn : arcs i j ≡ true

-- the arcs of a list
pub record Arc : Type 0 where
  pub from : ℕ
  pub to : ℕ

abbrev pub arc : ℕ → ℕ → Arc
arc i j = record { from = i; to = j }

infixl 50 ◌∈◌
abbrev pub ◌∈◌ : Arc → List Arc → Type 0
a ∈ arcs = Memᴰ a arcs

abbrev pub In : List Arc → ℕ → ℕ → Type 0
In arcs i j = arc i j ∈ arcs
