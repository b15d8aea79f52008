-- The solver on the rows of a strict order and on demands of at most 65,535: what its outcome promises.
use Rattle.std.proofs.Common.{◌≡◌, ℕ, zero, suc, ◌+◌, ◌*◌, ◌^◌, ◌<◌, ◌≤◌, Bool, not, ◌&&◌, ltb, List, get_or, sym, refl, ap, ◌∙◌, ap₂, ⊎_elim, mod-eq_of_lt, arith, ltb-true, le-ltb, lt-ltb}
use mathlib.Core.Logic.{by_cases}
use native.Mathlib.Decide.{dec_lt}
use Rattle.words.specs.Bits.{bit, minus}
use Rattle.words.specs.Sums.{sum}
use Rattle.words.proofs.Bits.{bit_and_lem, bit_minus, bit_none, bit_one}
use Rattle.words.proofs.Sums.{sum_add, sum_cong, sum_extend}
use Rattle.words.proofs.Tests.{and_right, same_or_not}
use Rattle.order.specs.Stored.{elements}
use Rattle.order.specs.Arcs.{StrictOrder}
use Rattle.order.specs.Rows.{after}
use Rattle.flow_math.specs.Handover.{Closed, Handover, cut, row, total}
use Rattle.flow_math.specs.Need.{weight}
use Rattle.flow_math.specs.Heaviest.{need_of}
use Rattle.flow_math.proofs.Flow as Flows
use Rattle.flow_math.proofs.Need.{weight_cong}
use Rattle.flow_math.proofs.Strong.{cut_antichain, strong}
use Rattle.flow_math.proofs.Theorems.{closed_flow, closed_need}
use Rattle.solver.specs.model.Search.{Look}
use Rattle.order.specs.model.Places.{positive}
use Rattle.solver.specs.model.Network.{Network, handed, wrap}
use Rattle.solver.specs.model.Solve.{Round, ranked}
use Rattle.solver.specs.model.Quote.{amount, chosen, outcome, quoted, untouched}
use Rattle.solver.specs.Sound.{Sound, asked}
use Rattle.solver.proofs.Positive.{positive_bit, positive_none}
use Rattle.solver.proofs.Consistent.{Consistent}
use Rattle.solver.proofs.StartState.{untouched_consistent}
use Rattle.solver.proofs.RoundsEnd.{left_le, leftover, solved_ends}
use Rattle.solver.proofs.EndState.{Last, handover_kept, shut_closed, solved_last}

-- ---- what the code computes of the last state: a set, and a sum

module _ (m : ℕ) (a : List ℕ) (idle : (i : ℕ) → m ≤ i → i < elements → get_or a i 0 ≡ 0) where
  used : (i : ℕ) → i < elements → 0 < get_or a i 0 → i < m
  used i h p = by_cases (dec_lt i m) (λ l. l) (λ g. absurd (omega (arith, idle i (omega arith) h)))

  positive_test : (i : ℕ) → i < elements → bit (positive m a) i ≡ ltb 0 (get_or a i 0)
  positive_test i h =
      ⊎_elim
      (λ e. bit_none (positive m a) i (positive_none m a i e) ∙ sym (le-ltb 0 (get_or a i 0) (omega arith)))
      (λ n. bit_one (positive m a) i (positive_bit m a i (used i h (omega arith)) (omega arith)) ∙ sym (lt-ltb 0 (get_or a i 0) (omega arith)))
      (same_or_not (get_or a i 0) 0)

  chosen_is : (q : Look) (i : ℕ) → i < elements → bit (chosen m q a) i ≡ cut (asked a) (bit q.left) (bit q.right) i
  chosen_is q i h =
      bit_and_lem (minus q.left q.right) (positive m a) i ∙ ap₂ ◌&&◌ (bit_minus q.left q.right i) (positive_test i h)

amount_is : (a : List ℕ) (k : ℕ) → sum k (λ i. get_or a i 0) < 2 ^ 32 → amount k a ≡ sum k (λ i. get_or a i 0)
unfolding amount sum
amount_is a zero h = refl
amount_is a (suc k) h = ap (λ (x : ℕ). wrap (x + get_or a k 0)) (amount_is a k (omega arith)) ∙ mod-eq_of_lt h

-- what is left, and what is handed over, are all demands
left_total : (d : ℕ → ℕ) (rows : List ℕ) (s : Network) → Consistent d rows s → leftover s + total elements (handed s.flow) ≡ sum elements d
unfolding total
left_total d rows s f =
    omega (
      arith,
      sum_add elements (λ i. row elements (handed s.flow) i) (λ i. get_or s.left i 0),
      sum_cong elements (λ i. row elements (handed s.flow) i + get_or s.left i 0) d f.balanced.rows,
    )

-- ---- the last state

module _ (m : ℕ) (hm : m ≤ elements) (rows demand : List ℕ) (idle : (i : ℕ) → m ≤ i → i < elements → asked demand i ≡ 0)
    (small : (i : ℕ) → i < elements → asked demand i ≤ 65535) where
  abbrev x : Round
  x = outcome m rows demand

  abbrev d : ℕ → ℕ
  d = asked demand

  abbrev b : ℕ → ℕ → Bool
  b = after rows

  abbrev f : ℕ → ℕ → ℕ
  f = handed x.now.flow

  abbrev L : ℕ → Bool
  L = bit x.search.left

  abbrev R : ℕ → Bool
  R = bit x.search.right

  pub outcome_ends : elements ≤ x.search.at
  unfolding outcome
  outcome_ends = solved_ends m hm d small rows (elements * 65535) (ranked m rows) (untouched m demand) (untouched_consistent m hm rows demand idle) (omega arith)

  last : Last m d rows x
  unfolding outcome
  last = solved_last m hm d small rows (elements * 65535) (ranked m rows) (untouched m demand) (untouched_consistent m hm rows demand idle)

  handing : Handover elements b d f
  handing = handover_kept d rows x.now last.consistent

  closed : Closed elements b d f L R
  closed = shut_closed d rows x.now last.consistent m idle x.search.left x.search.right (last.shut outcome_ends)

  set_is : (i : ℕ) → i < elements → bit (chosen m x.search demand) i ≡ cut d L R i
  set_is i h = chosen_is m demand idle x.search i h

  left_small : leftover x.now ≤ (elements * 65535)
  left_small = left_le m hm d small rows x.now last.consistent

  left_first : leftover x.now ≡ sum m (λ i. get_or x.now.left i 0)
  left_first =
      sum_extend m elements (λ i. get_or x.now.left i 0) hm (λ i l h. omega (arith, last.consistent.balanced.rows i h, idle i l h))

  amount_left : amount m x.now.left ≡ leftover x.now
  amount_left = amount_is x.now.left m (omega (arith, left_small, left_first)) ∙ sym left_first

  pub amount_small : amount m x.now.left ≤ (elements * 65535)
  amount_small = omega (arith, amount_left, left_small)

  module _ (o : StrictOrder elements (after rows)) where
    reaching : amount m x.now.left + total elements f ≡ sum elements d
    reaching = omega (arith, amount_left, left_total d rows x.now last.consistent)

    cut_is : weight elements d (cut d L R) ≡ amount m x.now.left
    cut_is = omega (arith, reaching, strong elements b d f L R closed o handing)

    need_found : amount m x.now.left ≡ need_of elements b d
    need_found = omega (arith, reaching, closed_need elements b d f L R o handing closed)

    pub outcome_sound : Sound elements (after rows) (asked demand) (quoted m demand x).need (bit (chosen m x.search demand)) (handed x.now.flow)
    outcome_sound =
        record {
          unrelated = λ i j hi hj s t. cut_antichain elements b d f L R closed i j hi hj (sym (set_is i hi) ∙ s) (sym (set_is j hj) ∙ t);
          wanted = λ i h s. ltb-true 0 (d i) (and_right (L i && not (R i)) (ltb 0 (d i)) (sym (set_is i h) ∙ s));
          weighs = weight_cong elements d (bit (chosen m x.search demand)) (cut d L R) set_is ∙ cut_is;
          need = need_found;
          handover = handing;
          reaches = reaching;
          flow = λ a h. rw need_found (closed_flow elements b d f L R a o handing closed (omega (arith, need_found))).0;
          spare = λ a. Flows.spare elements d f (amount m x.now.left) a;
        }
