-- The handover and its moves, as functions on lists: the units at i * elements + j, for each taker the word
-- of those that give to it, and what each giver and each taker has left.
use Rattle.std.specs.Prelude.{ℕ, ◌+◌, ◌-◌, ◌*◌, ◌%◌, ◌^◌, min, Bool, cond, List, ◌==◌, nat_le, slice_index, slice_set}
use Rattle.words.specs.Bits.{with_bit, minus}
use Rattle.words.specs.model.Loops.{each, run}
use Rattle.order.specs.Stored.{elements, row as set_at, put_row}
use Rattle.order.specs.model.Places.{nonzero}
use Rattle.solver.specs.declared.Handover.{Handover}

pub record Network : Type 0 where
  pub flow : List ℕ
  pub givers : List ℕ
  pub left : List ℕ
  pub right : List ℕ

abbrev pub network : List ℕ → List ℕ → List ℕ → List ℕ → Network
network f g l r = record { flow = f; givers = g; left = l; right = r }

-- the handover that the code has under way
abbrev pub network_of : Handover → Network
network_of h = network h.flow.now h.givers h.left h.right

-- a sum in 32 bits
abbrev pub wrap : ℕ → ℕ
wrap x = x % 2 ^ 32

abbrev pub cell : ℕ → ℕ → ℕ
cell i j = i * elements + j

-- what i hands over to j
abbrev pub handed : List ℕ → ℕ → ℕ → ℕ
handed f i j = slice_index f (cell i j)

-- the word with the member i, or without it where n is 0
unfoldable pub giver : ℕ → ℕ → ℕ → ℕ
giver w i n = cond (n == 0) (minus w (2 ^ i)) (with_bit w i)

-- the word of the places below k at which the table's set is not empty
abbrev pub leaders : ℕ → List ℕ → ℕ
leaders k rows = nonzero k (λ i. set_at rows i)

-- what i hands over to j becomes n
abbrev pub move : Network → ℕ → ℕ → ℕ → Network
move s i j n =
    network (slice_set s.flow (cell i j) n)
    (put_row s.givers j (giver (set_at s.givers j) i n))
    s.left s.right

abbrev pub to_left : Network → ℕ → ℕ → Network
to_left s i n = network s.flow s.givers (slice_set s.left i n) s.right

abbrev pub to_right : Network → ℕ → ℕ → Network
to_right s j n = network s.flow s.givers s.left (slice_set s.right j n)

-- what both the giver i and the taker j have left is handed over
unfoldable pub joined : Network → ℕ → ℕ → Network
joined s i j =
    let d = min (slice_index s.left i) (slice_index s.right j) in
    let s₁ = move s i j (wrap (slice_index s.flow (cell i j) + d)) in
    let s₂ = to_left s₁ i (slice_index s₁.left i - d) in
    to_right s₂ j (slice_index s₂.right j - d)

-- units that i hands over to the taker k go to the taker j instead, so that k has the more left
unfoldable pub shifted : Network → ℕ → ℕ → ℕ → Network
shifted s i k j =
    let d = min (slice_index s.right j) (slice_index s.flow (cell i k)) in
    let s₁ = move s i k (slice_index s.flow (cell i k) - d) in
    let s₂ = move s₁ i j (wrap (slice_index s₁.flow (cell i j) + d)) in
    let s₃ = to_right s₂ j (slice_index s₂.right j - d) in
    to_right s₃ k (wrap (slice_index s₃.right k + d))

-- the givers in the words of the takers in w take all back
abbrev pub dropping : ℕ → List ℕ → ℕ → List ℕ
dropping j f i = slice_set f (cell i j) 0

abbrev pub taken_from : List ℕ → List ℕ → ℕ → List ℕ
taken_from givers f j = each elements (dropping j) f (set_at givers j)

unfoldable pub taken_back : List ℕ → List ℕ → ℕ → List ℕ
taken_back givers f w = each elements (taken_from givers) f w

-- ---- the walk back from a taker with slack to a root, as the parents lead

pub record Walk : Type 0 where
  pub now : Network
  pub at : ℕ

abbrev pub walk : Network → ℕ → Walk
walk s j = record { now = s; at = j }

-- the giver that led to where the walk is, and the taker that led there, or elements at a root
abbrev pub source : List ℕ → Walk → ℕ
source rights w = slice_index rights w.at % elements

abbrev pub parent : List ℕ → List ℕ → Walk → ℕ
parent lefts rights w = slice_index lefts (source rights w)

abbrev pub rooted : List ℕ → List ℕ → Walk → Bool
rooted lefts rights w = nat_le elements (parent lefts rights w)

abbrev pub at_root : List ℕ → Walk → Network
at_root rights w = joined w.now (source rights w) w.at

abbrev pub back : List ℕ → List ℕ → Walk → Walk
back lefts rights w =
    walk (shifted w.now (source rights w) (parent lefts rights w) w.at) (parent lefts rights w)

abbrev pub augmented : ℕ → List ℕ → List ℕ → Walk → Network
augmented n lefts rights w = run (rooted lefts rights) (at_root rights) (λ x. x.now) (back lefts rights) n w

-- i hands over what it can to j
unfoldable pub handing : ℕ → Network → ℕ → Network
handing i s j = cond (min (slice_index s.left i) (slice_index s.right j) == 0) s (joined s i j)
