-- What a quote promises, it keeps: of every order without a circle, with demands of at most 65,535, of which those of
-- the elements from m on are 0 (`Plan`).
--
--   sound               the quote is sound: its set is unrelated and weighs exactly the need, and its handover reaches it (specs/Sound.antt)
--   need_small          the need is at most elements times 65,535
--   no_flow_frees_more  no resource flow of a units sends more than a - need straight from the start to the end
use Rattle.std.proofs.Common.{ℕ, suc, ◌+◌, ◌*◌, ◌≤◌, List, sym, subst, arith}
use Rattle.words.specs.Bits.{bit}
use Rattle.order.specs.Stored.{elements}
use Rattle.order.proofs.Stored.{number_set}
use Rattle.order.specs.Arcs.{StrictOrder}
use Rattle.order.specs.Orders.{after_rows, is_before}
use Rattle.order.specs.Rows.{after}
use Rattle.order.specs.declared.Order.{Order}
use Rattle.order.proofs.Orders.{after_rows_lem}
use Rattle.flow_math.specs.Flow.{ResourceFlow}
use Rattle.flow_math.proofs.Theorems
use Rattle.solver.specs.model.Network.{handed}
use Rattle.solver.specs.model.Quote.{chosen, flow_in, flow_of, outcome, quote_in, quote_of}
use Rattle.solver.specs.Sound.{Plan, Sound, SoundQuote, asked}
use Rattle.solver.proofs.Outcome.{amount_small, outcome_sound}
use Rattle.solver.proofs.Carried.{sound_carried, strict_carried}

-- the rows that the solver is given say what the order says (`after_rows_lem`)
rows_strict : (o : Order) → StrictOrder elements (is_before o) → StrictOrder elements (after (after_rows o))
rows_strict o s = strict_carried elements (is_before o) (after (after_rows o)) (λ i j hi hj. sym (after_rows_lem o i j)) s

pub sound : (m : ℕ) (o : Order) (demand : List ℕ) → Plan m o demand → SoundQuote m o demand
unfolding quote_in flow_in
sound m o demand P =
    let s = rows_strict o P.strict in
    let w = chosen m (outcome m (after_rows o) demand).search demand in
    subst (λ (x : ℕ). Sound elements (is_before o) (asked demand) (quote_of m o demand).need (bit x) (handed (flow_of m o demand))) (sym (number_set w))
    (sound_carried elements (after (after_rows o)) (is_before o) (λ i j hi hj. after_rows_lem o i j) s (outcome_sound m P.within (after_rows o) demand P.idle P.small s))

pub need_small : (m : ℕ) (o : Order) (demand : List ℕ) → Plan m o demand → (quote_of m o demand).need ≤ (elements * 65535)
unfolding quote_in
need_small m o demand P = amount_small m P.within (after_rows o) demand P.idle P.small

pub no_flow_frees_more : (m : ℕ) (o : Order) (demand : List ℕ) → Plan m o demand → (a : ℕ) (g : ℕ → ℕ → ℕ) → ResourceFlow elements (is_before o) (asked demand) a g
    → g 0 (suc elements) + (quote_of m o demand).need ≤ a
no_flow_frees_more m o demand P a g G =
    omega (arith, (sound m o demand P).need, Theorems.no_flow_frees_more elements (is_before o) (asked demand) a g P.strict G)
