-- The search for a way to hand over more, as functions on words and lists. Every element stands once on the
-- left, as a giver, and once on the right, as a taker.
use Rattle.std.specs.Prelude.{ℕ, ◌%◌, ◌<◌, Bool, cond, List, map, ◌==◌, bit_and, bit_or, slice_set}
use Rattle.std.specs.Prelude.{Option, Some, None, MatchOption}
use Rattle.words.specs.Bits.{bit, minus, rest}
use Rattle.words.specs.Members.{first}
use Rattle.words.specs.model.Loops.{each, run}
use Rattle.order.specs.Stored.{elements, number_of, row as set_at}
use Rattle.solver.specs.declared.Parents.{Parents}
use Rattle.solver.specs.declared.Search.{Search}

-- what a search carries, as numbers
pub record Look : Type 0 where
  pub frontier : ℕ
  pub next : ℕ
  pub left : ℕ
  pub right : ℕ
  pub at : ℕ

-- the taker that a search ended at, or elements where it has found none
abbrev pub ended_at : Option ℕ → ℕ
ended_at None = elements
ended_at (Some j) = j

abbrev pub looked : Search → Look
looked s =
    record {
      frontier = number_of s.frontier;
      next = number_of s.next;
      left = number_of s.left;
      right = number_of s.right;
      at = ended_at s.at;
    }

-- what it found is a taker
abbrev pub Found : Search → Type 0
Found s = MatchOption s.at (Unit {0}) (λ j. j < elements)

-- the lowest member of a word
abbrev pub low : ℕ → ℕ
low w = first elements (bit w)

-- each member of w gets the parent v
abbrev pub put : {A : Type 0} → A → List A → ℕ → List A
put v parents i = slice_set parents i v

abbrev pub marks : {A : Type 0} → List A → ℕ → A → List A
marks parents w v = each elements (put v) parents w

-- the taker that led to a giver, or elements where the search began there; the remainder bounds it, as that
-- of `source` in Network bounds a giver, and a search has no other
abbrev pub taker_of : Option ℕ → ℕ
taker_of None = elements
taker_of (Some j) = j % elements

unfoldable pub takers_of : List (Option ℕ) → List ℕ
takers_of lefts = map taker_of lefts

-- the givers that a search has seen, and the takers that led to them
pub record Seen : Type 0 where
  pub word : ℕ
  pub parents : List ℕ

abbrev pub seen : ℕ → List ℕ → Seen
seen w parents = record { word = w; parents = parents }

-- with those that give to the taker j
abbrev pub visit : List ℕ → Seen → ℕ → Seen
visit givers s j =
    seen (bit_or s.word (minus (set_at givers j) s.word))
    (marks s.parents (minus (set_at givers j) s.word) j)

-- a search with the parents of the givers and those of the takers
pub record Reached : Type 0 where
  pub search : Look
  pub lefts : List ℕ
  pub rights : List ℕ

abbrev pub reached : Look → List ℕ → List ℕ → Reached
reached s lefts rights = record { search = s; lefts = lefts; rights = rights }

abbrev pub reached_of : Search → Parents → Reached
reached_of s parents = reached (looked s) (takers_of parents.lefts) parents.rights

-- the takers that the frontier's lowest giver reaches first
abbrev pub fresh : List ℕ → Look → ℕ
fresh rows s = minus (set_at rows (low s.frontier)) s.right

-- a turn that ends at a taker with slack, the lowest of those that it reached
abbrev pub found : Look → ℕ → ℕ → Look
found s new hit =
    record { frontier = 0; next = 0; left = s.left; right = bit_or s.right new; at = low hit }

-- a turn that goes on, with the givers seen by then
abbrev pub onward : Look → ℕ → ℕ → Look
onward s new left =
    cond (rest s.frontier == 0)
    (record {
      frontier = bit_or s.next (minus left s.left);
      next = 0;
      left = left;
      right = bit_or s.right new;
      at = elements;
    })
    (record {
      frontier = rest s.frontier;
      next = bit_or s.next (minus left s.left);
      left = left;
      right = bit_or s.right new;
      at = elements;
    })

-- one turn, at the frontier's lowest giver
unfoldable pub advance : List ℕ → List ℕ → ℕ → Reached → Reached
advance rows givers slack q =
    let s = q.search in
    let new = fresh rows s in
    let rights = marks q.rights new (low s.frontier) in
    let w = each elements (visit givers) (seen s.left q.lefts) new in
    cond (bit_and new slack == 0)
    (reached (onward s new w.word) w.parents rights)
    (reached (found s new (bit_and new slack)) q.lefts rights)

-- a search has ended where its frontier is empty
abbrev pub ended : Reached → Bool
ended q = q.search.frontier == 0

-- it begins with the givers that have units left, and goes on from those of them that lead on
abbrev pub begun : ℕ → ℕ → Look
begun able roots = record { frontier = bit_and roots able; next = 0; left = roots; right = 0; at = elements }

-- at most n turns
abbrev pub reach : ℕ → List ℕ → List ℕ → ℕ → Reached → Reached
reach n rows givers slack q = run ended (λ x. x) (λ x. x) (advance rows givers slack) n q
