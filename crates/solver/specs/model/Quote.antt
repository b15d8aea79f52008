-- What `quote` gives, as a function of the number m of elements in use, the order and the
-- demands alone: the need, a set that has it, and the handover. The elements from m on are
-- passed over, whatever stands for them.
use Rattle.std.specs.Prelude.{◌≡◌, ℕ, zero, suc, ◌+◌, ◌*◌, ◌≤◌, List, length, replicate, bit_and, slice_index, slice_set}
use Rattle.words.specs.Bits.{minus}
use Rattle.words.specs.model.Loops.{upto}
use Rattle.order.specs.Orders.{after_rows}
use Rattle.order.specs.declared.Order.{Order}
use Rattle.order.specs.Stored.{elements, set_of}
use Rattle.order.specs.model.Places.{positive}
use Rattle.solver.specs.model.Search.{Look}
use Rattle.solver.specs.declared.Quoted.{Quoted}
use Rattle.solver.specs.model.Network.{Network, network, wrap}
use Rattle.solver.specs.model.Solve.{blanks, blank_rows, ranked, Round, solved}

-- nothing is handed over
unfoldable pub unused : List ℕ
unused = replicate (elements * elements) 0

-- the m first entries of a list, and 0 from m on
abbrev pub copying : List ℕ → ℕ → List ℕ → List ℕ
copying a i b = slice_set b i (slice_index a i)

unfoldable pub copied : ℕ → List ℕ → List ℕ
copied m a = upto (copying a) m (blanks 0)

-- where the solver starts, and where it ends; each element has at most the greatest demand, 65535, so that
-- the number of rounds is never what stops them (`outcome_ends` of proofs/Outcome.antt)
abbrev pub untouched : ℕ → List ℕ → Network
untouched m demand = network unused blank_rows (copied m demand) (copied m demand)

unfoldable pub outcome : ℕ → List ℕ → List ℕ → Round
outcome m rows demand = solved m (elements * 65535) rows (ranked m rows) (untouched m demand)

-- the sum of the k first numbers, in 32 bits
unfoldable pub amount : ℕ → List ℕ → ℕ
amount zero a = 0
amount (suc k) a = wrap (amount k a + slice_index a k)

-- the elements reached as givers and not as takers, that have a demand
abbrev pub chosen : ℕ → Look → List ℕ → ℕ
chosen m q demand = bit_and (minus q.left q.right) (positive m demand)

abbrev pub told : ℕ → List ℕ → Look → ℕ → Quoted
told m left q wanted =
    record { need = amount m left; set = set_of (bit_and (minus q.left q.right) wanted) }

abbrev pub quoted : ℕ → List ℕ → Round → Quoted
quoted m demand x = told m x.now.left x.search (positive m demand)

-- the need and the set, of an order that is given by its rows
unfoldable pub quote_in : ℕ → List ℕ → List ℕ → Quoted
quote_in m rows demand = quoted m demand (outcome m rows demand)

-- what each element hands over to each other, at i * elements + j
unfoldable pub flow_in : ℕ → List ℕ → List ℕ → List ℕ
flow_in m rows demand = (outcome m rows demand).now.flow

-- the same of an order
abbrev pub quote_of : ℕ → Order → List ℕ → Quoted
quote_of m o demand = quote_in m (after_rows o) demand

abbrev pub flow_of : ℕ → Order → List ℕ → List ℕ
flow_of m o demand = flow_in m (after_rows o) demand

-- what `clear` asks: nothing is handed over by the elements from m on
pub record Clean (m : ℕ) (f : List ℕ) : Type 0 where
  pub wide : length f ≡ elements * elements
  pub rest : (p : ℕ) → m * elements ≤ p → slice_index f p ≡ 0
