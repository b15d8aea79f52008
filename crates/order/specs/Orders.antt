-- Orders of all elements, as values of the struct `Order`: what its functions give.
use Rattle.std.specs.Prelude.{ℕ, ◌^◌, Bool, ◌&&◌, List, [], ◌∷◌, replicate, bit_or}
use Rattle.order.specs.Arcs.{Arc, Drawn}
use Rattle.words.specs.Bits.{minus}
use Rattle.words.specs.Members.{some}
use Rattle.order.specs.Stored.{elements, cells, row, put_row, row_table, set_of}
use Rattle.order.specs.Sets.{member}
use Rattle.order.specs.Rows.{after, Represents, grow, arcs_in, circle_in}
use Rattle.order.specs.model.Growing.{grow_by}
use Rattle.order.specs.declared.Set.{Set}
use Rattle.order.specs.declared.Order.{Order}

-- the order says which element is before which by the arcs A
abbrev pub OrderOf : Order → (ℕ → ℕ → Type 0) → Type 0
OrderOf o A = Represents elements o.rows A

-- whether i is before j
abbrev pub is_before : Order → ℕ → ℕ → Bool
is_before o i j = after o.rows i j

-- the set of all that i is before
abbrev pub after_of : Order → ℕ → Set
after_of o i = set_of (row o.rows i)

-- the table of these sets, for all elements
unfoldable pub after_rows : Order → List ℕ
after_rows o = o.rows

-- whether a member of a set is before j, by such a table
unfoldable pub some_before : List ℕ → Set → ℕ → Bool
some_before rows w j = some elements (λ k. member w k && after rows k j)

-- "The order without arcs": `Order::empty()` (that it is: `empty_order_lem` of proofs/Orders.antt)
abbrev pub empty_order : Order
empty_order = record { rows = replicate (cells elements) 0 }

-- "Adding an arc to an order gives the order so extended." (That it does: `extended_order` of
-- proofs/Orders.antt.)
unfoldable pub extended : Order → ℕ → ℕ → Order
extended o x y = record { rows = grow elements o.rows x y }

-- the lowest element before itself, by which a circle is shown; the number of elements where there is none
unfoldable pub circle_of : Order → ℕ
circle_of o = circle_in elements o.rows

-- the order of a list of arcs
unfoldable pub order_of : List Arc → Order
order_of [] = empty_order
order_of (a ∷ arcs) = extended (order_of arcs) a.from a.to

-- ---- arcs as rows: from i to each member of row i

-- there is an arc from i to j
abbrev pub Direct : List ℕ → ℕ → ℕ → Type 0
Direct rows = Drawn elements (after rows)

-- the order of these arcs
unfoldable pub order_in : List ℕ → Order
order_in rows = order_of (arcs_in elements rows elements)

-- an order so extended: by each arc that it does not hold yet
-- (`extended_by_lem` of proofs/Orders.antt says what order that is)
unfoldable pub extended_by : Order → List ℕ → Order
extended_by o arcs = record { rows = grow_by elements arcs elements o.rows }

-- the arcs without that from x to y
unfoldable pub without_arc : List ℕ → ℕ → ℕ → List ℕ
without_arc arcs x y = put_row arcs x (minus (row arcs x) (2 ^ y))

-- the arcs of two such tables together
unfoldable pub joined_rows : List ℕ → List ℕ → List ℕ
joined_rows a b = row_table elements (λ i. bit_or (row a i) (row b i))
