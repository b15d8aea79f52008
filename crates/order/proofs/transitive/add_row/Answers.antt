-- `transitive::add_row` meets its contract. The invariant: the run over what is left, from the rows with what is gained
-- so far, is the run from the start, and none of what is left is held.
use Rattle.std.proofs.Common.{◌≡◌, ℕ, List, sym, ap, ◌∙◌, subst}
use lib.Bits.{bit_or}
use Rattle.words.specs.Bits.{with_bit, minus}
use Rattle.words.proofs.Loops.{each_end}
use Rattle.order.specs.Stored.{elements, number_of, set_of, row}
use Rattle.order.specs.Rows.{gain}
use Rattle.order.specs.Sets.{with_element, union_of, minus_of}
use Rattle.order.specs.model.Growing.{grown}
use Rattle.order.specs.model.Warshall.{gaining}
use Rattle.order.specs.declared.Set.{Set}
use Rattle.order.proofs.Stored.{number_of_lem, number_none, in_bound}
use Rattle.order.proofs.Sets.{given_lowest, given_some, given_none}
use Rattle.order.proofs.Listing.{is_none}
use Rattle.order.proofs.Growing.{fresh_start}
use Rattle.order.proofs.Gaining.{Gains, gains_start, gains_again, gains_less}
use Rattle.order.proofs.transitive.add_row.Goals as goal

-- a set without what the row r has, as numbers
less : (s r v : Set) (w : ℕ) → v ≡ minus_of s r → r ≡ set_of w → number_of v ≡ minus (number_of s) w
less s r v w e q = number_of_lem v e ∙ ap (minus (number_of s)) (number_of_lem r q)

-- what is gained with the arc to j, as a number
more : (g r t f : Set) (rows : List ℕ) (j : ℕ) → f ≡ union_of g t → t ≡ with_element r j → r ≡ set_of (row rows j) → number_of f ≡ bit_or (number_of g) (gain rows j)
more g r t f rows j e p q = number_of_lem f e ∙ ap (bit_or (number_of g)) (number_of_lem t p ∙ ap (λ (w : ℕ). with_bit w j) (number_of_lem r q))

pub returns-then-is_empty : goal.returns-then-is_empty
returns-then-is_empty c =
    each_end elements (grown elements c.args.i) c.args.rows.now _ (is_none _ _ c.is_empty.ensures c.if-is_empty.true) (
      (fresh_start elements c.args.i c.requires.0 c.args.rows.now _ (less _ _ _ _ c.minus-w.ensures c.row.ensures)).0,
      in_bound c.is_empty.ensures.1,
    )

pub loop-j-init : goal.loop-j-init
loop-j-init c =
    let rows = c.args.rows.now in
    let i = c.args.i in
    subst (λ (g : ℕ). Gains elements rows i (number_of c.minus-w.result) g (number_of c.minus-w.result)) (sym number_none)
    (gains_start elements rows c.requires.1 i c.requires.0 c.requires.2 _ (fresh_start elements i c.requires.0 rows _ (less _ _ _ _ c.minus-w.ensures c.row.ensures)).1)

pub row-requires-in-Some : goal.row-requires-in-Some
row-requires-in-Some c =
    (given_lowest _ c.lowest.ensures c.in-Some.is).1

pub with-requires : goal.with-requires
with-requires c =
    (given_lowest _ c.lowest.ensures c.in-Some.is).1

pub loop-j-smaller : goal.loop-j-smaller
loop-j-smaller c =
    gains_less elements c.args.rows.now c.requires.1 c.args.i c.requires.0 _ _ _ _ (given_some _ c.lowest.ensures c.in-Some.is)
    (in_bound c.lowest.ensures.1) c.loop-j.invariant (given_lowest _ c.lowest.ensures c.in-Some.is).0 (more _ _ _ _ _ _ c.union-gain.ensures c.with.ensures c.row-in-Some.ensures)
    (number_of_lem _ c.minus-w-in-Some.ensures)

pub loop-j-preserved : goal.loop-j-preserved
loop-j-preserved c =
    gains_again elements c.args.rows.now c.requires.1 c.args.i c.requires.0 _ _ _ _ (given_some _ c.lowest.ensures c.in-Some.is)
    (in_bound c.lowest.ensures.1) c.loop-j.invariant (given_lowest _ c.lowest.ensures c.in-Some.is).0 (more _ _ _ _ _ _ c.union-gain.ensures c.with.ensures c.row-in-Some.ensures)
    (number_of_lem _ c.minus-w-in-Some.ensures)

pub returns : goal.returns
returns c =
    c.gain_all.ensures
    ∙ each_end elements (grown elements c.args.i) (gaining elements c.args.i (number_of c.loop-j.gain) c.args.rows.now) _ (given_none _ c.lowest.ensures c.in_default.is)
    (c.loop-j.invariant.0, in_bound c.lowest.ensures.1)
    ∙ (fresh_start elements c.args.i c.requires.0 c.args.rows.now _ (less _ _ _ _ c.minus-w.ensures c.row.ensures)).0
