-- What a quote promises. It is a theorem: `sound` of proofs/QuoteSound.antt. That no flow of a units sends
-- more than a - x straight through is `no_flow_frees_more` there.
use Rattle.std.specs.Prelude.{◌≡◌, ℕ, suc, ◌+◌, ◌-◌, ◌<◌, ◌≤◌, Bool, true, List, slice_index}
use Rattle.words.specs.Sums.{sum}
use Rattle.order.specs.Arcs.{StrictOrder}
use Rattle.order.specs.Stored.{elements}
use Rattle.order.specs.Sets.{member}
use Rattle.order.specs.Orders.{is_before}
use Rattle.order.specs.declared.Order.{Order}
use Rattle.flow_math.specs.Need.{Antichain, weight}
use Rattle.flow_math.specs.Heaviest.{need_of}
use Rattle.flow_math.specs.Handover.{total, Handover}
use Rattle.flow_math.specs.Flow.{node_flow, ResourceFlow}
use Rattle.solver.specs.model.Network.{handed}
use Rattle.solver.specs.model.Quote.{quote_of, flow_of}

-- the demand of each element
abbrev pub asked : List ℕ → ℕ → ℕ
asked demand i = slice_index demand i

-- what is asked of a plan of m elements: the order is strict, each demand is at most 65,535, and the
-- elements from m on have none
pub record Plan (m : ℕ) (o : Order) (demand : List ℕ) : Type 0 where
  pub within : m ≤ elements
  pub idle : (i : ℕ) → m ≤ i → i < elements → asked demand i ≡ 0
  pub strict : StrictOrder elements (is_before o)
  pub small : (i : ℕ) → i < elements → asked demand i ≤ 65535

-- what a number x, a set S and units f promise of an order b and demands d, for any n
pub record Sound (n : ℕ) (b : ℕ → ℕ → Bool) (d : ℕ → ℕ) (x : ℕ) (S : ℕ → Bool) (f : ℕ → ℕ → ℕ) : Type 0 where
  -- S is unrelated, holds only elements with a demand, and weighs exactly x, which is the need
  pub unrelated : Antichain n b S
  pub wanted : (i : ℕ) → i < n → S i ≡ true → 0 < d i
  pub weighs : weight n d S ≡ x
  pub need : x ≡ need_of n b d
  -- f is a handover that reaches it: what it does not hand over is the need
  pub handover : Handover n b d f
  pub reaches : x + total n f ≡ sum n d
  -- of any a units that are enough it makes a resource flow that meets equations (1) and (2) along the order
  -- and sends a - x straight through
  pub flow : (a : ℕ) → x ≤ a → ResourceFlow n b d a (node_flow n d f x a)
  pub spare : (a : ℕ) → node_flow n d f x a 0 (suc n) ≡ a - x

-- the promise of `quote`, for every plan
abbrev pub SoundQuote : ℕ → Order → List ℕ → Type 0
SoundQuote m o demand =
    Sound elements (is_before o) (asked demand)
    (quote_of m o demand).need (member (quote_of m o demand).set) (handed (flow_of m o demand))
