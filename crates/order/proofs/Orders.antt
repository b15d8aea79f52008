-- Laws of orders of all elements: each says what arcs an order is the order of. Whoever builds on an order cites these.
use Rattle.std.proofs.Common.{◌≡◌, ℕ, ◌<◌, ◌≤◌, Bool, true, false, ◌||◌, ◌↔◌, List, [], ◌∷◌, length, sym, refl, ap, ◌∙◌, inl, inr, ⊎_elim}
use lib.Bits.{bit_or}
use Rattle.words.specs.Bits.{bit}
use Rattle.words.specs.model.Loops.{upto}
use Rattle.words.proofs.Bits.{bit_or_lem}
use Rattle.words.proofs.Tests.{clash, or_says}
use Rattle.order.specs.Before.{Before, Joined, Acyclic}
use Rattle.order.specs.Arcs.{With, NoArc, StrictOrder, Within, Drawn, Arc, In}
use Rattle.order.specs.Stored.{elements, cells, row, RowsFit}
use Rattle.order.specs.Rows.{after, grow, rows_of, arcs_in}
use Rattle.order.specs.model.Warshall.{ends_in, passing_over}
use Rattle.order.specs.Orders.{OrderOf, is_before, after_rows, empty_order, extended, circle_of, order_of, Direct, order_in, extended_by, joined_rows}
use Rattle.order.specs.declared.Order.{Order}
use Rattle.order.proofs.Stored.{row_table_lem}
use Rattle.order.proofs.Before.{before_same, drawn_within}
use Rattle.order.proofs.Represents
use Rattle.order.proofs.Closure.{closed}
use Rattle.order.proofs.Arcs.{rows_represent, arcs_drawn}
use Rattle.order.proofs.Growing.{grown_by}

abbrev of_rows : List ℕ → Order
of_rows rs = record { rows = rs }

-- ---- the order without arcs, and one arc more

pub empty_order_lem : OrderOf empty_order NoArc
empty_order_lem = Represents.empty_represents elements

pub extended_order : (o : Order) {A : ℕ → ℕ → Type 0} (x y : ℕ) → OrderOf o A → x < elements → y < elements → OrderOf (extended o x y) (With A x y)
unfolding extended
extended_order o x y r hx hy = Represents.grow_represents elements o.rows x y r hx hy

-- ---- what an order says, whatever arcs it is of

pub after_rows_lem : (o : Order) (i j : ℕ) → after (after_rows o) i j ≡ is_before o i j
unfolding after_rows
after_rows_lem o i j = refl

pub circle_le : (o : Order) → circle_of o ≤ elements
unfolding circle_of
circle_le o = Represents.circle_le elements o.rows

-- ---- what an order of arcs says

module _ {o : Order} {A : ℕ → ℕ → Type 0} (r : OrderOf o A) where
  pub order_means : (i j : ℕ) → (is_before o i j ≡ true) ↔ Before A i j
  order_means = r.means

  pub order_trans : (i j k : ℕ) → is_before o i j ≡ true → is_before o j k ≡ true → is_before o i k ≡ true
  order_trans = Represents.after_trans r

  pub order_free : Acyclic A → (i : ℕ) → is_before o i i ≡ false
  order_free = Represents.after_free r

  -- without a circle it is a strict order
  pub order_strict : Acyclic A → StrictOrder elements (is_before o)
  order_strict free =
      record { irreflexive = λ i h e. clash e (order_free free i); transitive = λ i j k hi hj hk. order_trans i j k }

  -- no circle is found exactly where there is none
  pub circle_none : (circle_of o ≡ elements) ↔ Acyclic A
  unfolding circle_of
  circle_none = Represents.circle_none r

  -- the element that is found is before itself, and none below it is
  pub circle_lowest : circle_of o < elements → Before A (circle_of o) (circle_of o) × ((i : ℕ) → i < circle_of o → Before A i i → ⊥)
  unfolding circle_of
  circle_lowest = Represents.circle_some r

  -- arcs that lead the same ways have the same order, however they are given
  pub order_same : {B : ℕ → ℕ → Type 0} {p : Order} → OrderOf p B → ((i j : ℕ) → Before A i j ↔ Before B i j) → o ≡ p
  order_same {p = p} s same = ap of_rows (Represents.represents_once r p.rows s same)

-- ---- the order of a list of arcs

order_rows : (arcs : List Arc) → order_of arcs ≡ record { rows = rows_of elements arcs }
unfolding order_of extended rows_of
order_rows [] = refl
order_rows (a ∷ arcs) = ap (λ (o : Order). of_rows (grow elements o.rows a.from a.to)) (order_rows arcs)

pub list_order : (arcs : List Arc) → Within elements (In arcs) → OrderOf (order_of arcs) (In arcs)
list_order arcs w = rw (order_rows arcs) (rows_represent elements arcs w)

-- ---- the order of arcs that are given as rows

pub direct_order : (rows : List ℕ) → OrderOf (order_in rows) (Direct rows)
unfolding order_in
direct_order rows =
    Represents.represents_same
    (list_order (arcs_in elements rows elements) (λ i j m. drawn_within elements (after rows) i j ((arcs_drawn elements rows i j).0 m)))
    (before_same (arcs_drawn elements rows))

-- Warshall's closure finds it
pub direct_closed : (rows : List ℕ) → length rows ≡ cells elements → RowsFit elements rows → upto (passing_over elements (ends_in elements rows)) elements rows ≡ after_rows (order_in rows)
unfolding after_rows
direct_closed rows long fit = ap (λ (o : Order). o.rows) (order_same (closed elements rows long fit) (direct_order rows) (λ i j. (λ b. b, λ b. b)))

-- ---- two tables of arcs together

after_joined : (a b : List ℕ) (i j : ℕ) → i < elements → after (joined_rows a b) i j ≡ after a i j || after b i j
unfolding joined_rows
after_joined a b i j h = ap (λ (w : ℕ). bit w j) (row_table_lem elements (λ k. bit_or (row a k) (row b k)) i h) ∙ bit_or_lem (row a i) (row b i) j

-- an arc of the two together is an arc of the one or of the other
pub direct_joined : (a b : List ℕ) (i j : ℕ) → Direct (joined_rows a b) i j ↔ Joined (Direct a) (Direct b) i j
direct_joined a b i j = (
  (λ d. ⊎_elim (λ e. inl (drawn d.from d.to e)) (λ e. inr (drawn d.from d.to e)) ((or_says (after a i j) (after b i j)).0 (sym (after_joined a b i j d.from) ∙ d.drawn))),
  ⊎_elim
      (λ d. drawn d.from d.to (after_joined a b i j d.from ∙ (or_says (after a i j) (after b i j)).1 (inl d.drawn)))
      (λ d. drawn d.from d.to (after_joined a b i j d.from ∙ (or_says (after a i j) (after b i j)).1 (inr d.drawn))),
)
  where
    drawn : {test : ℕ → ℕ → Bool} → i < elements → j < elements → test i j ≡ true → Drawn elements test i j
    drawn h l e = record { from = h; to = l; drawn = e }

-- the plan order: the order of all arcs
pub joined_order : (a b : List ℕ) → OrderOf (order_in (joined_rows a b)) (Joined (Direct a) (Direct b))
joined_order a b = Represents.represents_same (direct_order (joined_rows a b)) (before_same (direct_joined a b))

-- "Adding an arc to an order gives the order so extended": by further arcs it becomes the order of the old arcs and the new ones
pub extended_by_lem : (o : Order) {A : ℕ → ℕ → Type 0} (arcs : List ℕ) → OrderOf o A → OrderOf (extended_by o arcs) (Joined A (Direct arcs))
unfolding extended_by
extended_by_lem o arcs r = grown_by elements arcs o.rows r

-- so the plan order may begin from the job order
pub order_begun : (a b : List ℕ) → extended_by (order_in a) b ≡ order_in (joined_rows a b)
order_begun a b = order_same (extended_by_lem (order_in a) b (direct_order a)) (joined_order a b) (λ i j. (λ p. p, λ p. p))
