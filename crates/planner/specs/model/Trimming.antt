-- How Trim's code considers an extra arc: what is left of the extra arcs, and the sets of what each
-- element is before by all arcs that are left. Only proofs need this: that it comes to `trim_step` is
-- `considered` of proofs/TrimSteps.antt.
use Rattle.std.specs.Prelude.{◌≡◌, Bool, not, cond, ◌&&◌, ◌||◌, List, ℕ, ltb, length}
use Rattle.order.specs.Before.{Acyclic}
use Rattle.order.specs.Stored.{elements, cells, row, set_of}
use Rattle.order.specs.Rows.{after}
use Rattle.order.specs.Sets.{member, without_element, union_of}
use Rattle.order.specs.Orders.{after_rows, some_before, Direct, order_in, without_arc, joined_rows}
use Rattle.order.specs.declared.Order.{Order}
use Rattle.order.specs.declared.Set.{Set}
use Rattle.kinds.specs.Needs.{lowest_overload}

-- where i leads by the job arcs, and by the extra arcs but that to j
abbrev pub others_of : List ℕ → List ℕ → ℕ → ℕ → Set
others_of job extra i j = union_of (set_of (row job i)) (without_element (set_of (row extra i)) j)

-- the pair i, j follows from the other arcs: i leads there, or to what is before j
unfoldable pub follows_in : List ℕ → List ℕ → List ℕ → ℕ → ℕ → Bool
follows_in job extra afters i j =
    member (others_of job extra i j) j || some_before afters (others_of job extra i j) j

-- of m activities and n kinds: no kind needs more than there is, by an order
unfoldable pub fits_by : ℕ → Order → List ℕ → List ℕ → ℕ → Bool
fits_by m o demand available n = not (ltb (lowest_overload m o demand available n).kind n)

-- the extra arcs that are left when the pair i, j has been considered: its arc goes, if it may, where its
-- pair follows, or where no kind then needs more than there is
unfoldable pub extra_left : ℕ → List ℕ → List ℕ → List ℕ → ℕ → List ℕ → List ℕ → List ℕ → ℕ → ℕ → List ℕ
extra_left m job demand available n free afters extra i j =
    let less = without_arc extra i j in
    cond (after free i j
    && (follows_in job extra afters i j || fits_by m (order_in (joined_rows job less)) demand available n))
    less extra

-- `afters` are those of the order of all arcs, which has no circle
abbrev pub OrderHeld : List ℕ → List ℕ → List ℕ → Type 0
OrderHeld job extra afters =
    (length extra ≡ cells elements)
    × (afters ≡ after_rows (order_in (joined_rows job extra)))
    × Acyclic (Direct (joined_rows job extra))
