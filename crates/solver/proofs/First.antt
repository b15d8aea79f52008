-- What a quote promises of the first n elements, where the others have no demand, and what its set holds.
use Rattle.std.proofs.Common.{◌≡◌, ℕ, ◌+◌, ◌<◌, ◌≤◌, Bool, true, List, sym, ◌∙◌, lt_of_le_of_lt, arith}
use mathlib.Core.Logic.{by_cases}
use native.Mathlib.Decide.{dec_lt}
use lib.Bits.{and_le_r}
use Rattle.words.specs.Bits.{minus}
use Rattle.words.specs.Sums.{sum}
use Rattle.words.proofs.Bits.{bit_above}
use Rattle.words.proofs.Sums.{sum_extend}
use Rattle.words.proofs.Tests.{clash}
use Rattle.order.specs.Stored.{bound, elements, number_of}
use Rattle.order.proofs.Stored.{number_set, in_bound}
use Rattle.order.specs.Arcs.{StrictOrder}
use Rattle.order.specs.Orders.{after_rows, is_before}
use Rattle.order.specs.Sets.{member}
use Rattle.order.specs.declared.Order.{Order}
use Rattle.flow_math.specs.Handover.{total, Handover}
use Rattle.flow_math.proofs.First.{handover_first, total_first}
use Rattle.flow_math.proofs.Flow as Flows
use Rattle.flow_math.proofs.Need.{need_of_extend, weight_extend}
use Rattle.order.specs.model.Places.{positive}
use Rattle.solver.specs.model.Network.{handed}
use Rattle.solver.specs.model.Quote.{chosen, flow_of, outcome, quote_in, quote_of}
use Rattle.solver.specs.Sound.{Plan, Sound, asked}
use Rattle.solver.proofs.QuoteSound.{sound}
use Rattle.solver.proofs.Positive.{positive_lt}

-- What is promised of m elements holds of the first n, where the others have no demand.
pub sound_first : (n m : ℕ) (b : ℕ → ℕ → Bool) (d : ℕ → ℕ) (x : ℕ) (S : ℕ → Bool) (f : ℕ → ℕ → ℕ) → n ≤ m
    → ((i : ℕ) → n ≤ i → i < m → d i ≡ 0) → StrictOrder m b → Sound m b d x S f → Sound n b d x S f
sound_first n m b d x S f l z o s =
    let F : Handover n b d f = handover_first n m b d f l s.handover in
    let r : x + total n f ≡ sum n d = omega (arith, s.reaches, total_first n m b d f l z s.handover, sum_extend n m d l z) in
    record {
      unrelated = λ i j h k. s.unrelated i j (omega arith) (omega arith);
      wanted = λ i h. s.wanted i (omega arith);
      weighs = sym (weight_extend n m b d l z S) ∙ s.weighs;
      need = s.need ∙ need_of_extend n m b d l z o;
      handover = F;
      reaches = r;
      flow = λ a h. Flows.flow_made n d f x a b F r h;
      spare = λ a. Flows.spare n d f x a;
    }

-- So a quote of a plan of m activities keeps its promise of these m.
pub quote_first : (m : ℕ) (o : Order) (demand : List ℕ) → Plan m o demand
    → Sound m (is_before o) (asked demand) (quote_of m o demand).need (member (quote_of m o demand).set) (handed (flow_of m o demand))
quote_first m o demand P =
    sound_first m elements (is_before o) (asked demand) (quote_of m o demand).need (member (quote_of m o demand).set) (handed (flow_of m o demand)) P.within P.idle
    P.strict (sound m o demand P)

-- The set has a digit for each element, and each of its members is an element with a demand.
pub set_small : (m : ℕ) → m ≤ elements → (o : Order) (demand : List ℕ) → number_of (quote_of m o demand).set < bound
unfolding quote_in
set_small m hm o demand =
    let q = (outcome m (after_rows o) demand).search in
    rw (number_set (chosen m q demand)) (lt_of_le_of_lt (and_le_r (minus q.left q.right) (positive m demand)) (positive_lt m demand hm))

pub set_within : (m : ℕ) (o : Order) (demand : List ℕ) → Plan m o demand → (i : ℕ) → member (quote_of m o demand).set i ≡ true → (i < m) × (0 < asked demand i)
set_within m o demand P i h =
    by_cases (dec_lt i elements)
    (λ l.
    let w = (sound m o demand P).wanted i l h in
    (by_cases (dec_lt i m) (λ k. k) (λ g. absurd (omega (arith, P.idle i (omega arith) l))), w))
    (λ g. clash h (bit_above elements (number_of (quote_of m o demand).set) i (in_bound (set_small m P.within o demand)) (omega arith)))
