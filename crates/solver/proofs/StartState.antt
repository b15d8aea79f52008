-- Where the solver starts: nothing is handed over, and all demands are left.
use Rattle.std.proofs.Common.{◌≡◌, ℕ, ◌*◌, ◌<◌, ◌≤◌, cond, ltb, List, length, get_or, sym, ap, ◌∙◌, arith, le-ltb, lt-ltb}
use mathlib.Core.Logic.{by_cases}
use native.Mathlib.Decide.{dec_lt}
use lib.ListN.{get_or-replicate, length-replicate}
use Rattle.words.specs.Bits.{digit}
use Rattle.words.specs.Tables.{table}
use Rattle.words.proofs.Bits.{digit_none}
use Rattle.words.proofs.Sums.{sum_zero}
use Rattle.words.proofs.Tables.{get_d_table, length_table, stored}
use Rattle.words.proofs.Tests.{cond_true, cond_false}
use Rattle.order.specs.Stored.{elements, cells, row as set_at}
use Rattle.order.proofs.Stored.{bound_pos, length_blank, row_blank}
use Rattle.flow_math.specs.Handover.{col, row}
use Rattle.solver.specs.model.Network.{cell, handed}
use Rattle.solver.specs.model.Solve.{blanks, blank_rows}
use Rattle.solver.specs.model.Quote.{copied, untouched, unused}
use Rattle.solver.proofs.Linked.{Linked}
use Rattle.solver.proofs.Consistent.{Consistent}

pub unused_long : length unused ≡ (elements * elements)
unfolding unused
unused_long = length-replicate {A = ℕ} (elements * elements) 0

blank_rows_long : length blank_rows ≡ cells elements
unfolding blank_rows
blank_rows_long = length_blank elements

pub unused_at : (i j : ℕ) → i < elements → j < elements → handed unused i j ≡ 0
unfolding unused
unused_at i j hi hj = get_or-replicate (elements * elements) (cell i j) 0 0 (omega arith)

blank_word : (j : ℕ) → set_at blank_rows j ≡ 0
unfolding blank_rows
blank_word j = row_blank elements j

blank_at : (j i : ℕ) → digit (set_at blank_rows j) i ≡ 0
blank_at j i = ap (λ (x : ℕ). digit x i) (blank_word j) ∙ digit_none i

unused_row : (i : ℕ) → i < elements → row elements (handed unused) i ≡ 0
unfolding row
unused_row i hi = sum_zero elements (λ j. handed unused i j) (λ j hj. unused_at i j hi hj)

unused_col : (j : ℕ) → j < elements → col elements (handed unused) j ≡ 0
unfolding col
unused_col j hj = sum_zero elements (λ i. handed unused i j) (λ i hi. unused_at i j hi hj)

-- a copy of the m first entries
module _ (m : ℕ) (hm : m ≤ elements) (a : List ℕ) where
  copied_table : copied m a ≡ table elements (λ i. cond (ltb i m) (get_or a i 0) 0)
  unfolding copied blanks
  copied_table = stored (λ i. get_or a i 0) elements m hm

  pub copied_long : length (copied m a) ≡ elements
  copied_long = ap length copied_table ∙ length_table elements (λ i. cond (ltb i m) (get_or a i 0) 0)

  pub copied_is : (i : ℕ) → i < elements → get_or (copied m a) i 0 ≡ cond (ltb i m) (get_or a i 0) 0
  copied_is i h = ap (λ (l : List ℕ). get_or l i 0) copied_table ∙ get_d_table elements (λ i. cond (ltb i m) (get_or a i 0) 0) i 0 h

  pub copied_past : (i : ℕ) → m ≤ i → i < elements → get_or (copied m a) i 0 ≡ 0
  copied_past i l h = copied_is i h ∙ cond_false (get_or a i 0) 0 (le-ltb i m l)

  copied_at : ((i : ℕ) → m ≤ i → i < elements → get_or a i 0 ≡ 0) → (i : ℕ) → i < elements → get_or (copied m a) i 0 ≡ get_or a i 0
  copied_at idle i h =
      by_cases (dec_lt i m)
      (λ l. copied_is i h ∙ cond_true (get_or a i 0) 0 (lt-ltb i m l))
      (λ g. copied_past i (omega arith) h ∙ sym (idle i (omega arith) h))

pub untouched_linked : (m : ℕ) (demand : List ℕ) → Linked (untouched m demand)
untouched_linked m demand =
    record {
      wide = unused_long;
      long = blank_rows_long;
      fit = λ j. omega (arith, blank_word j, bound_pos);
      says = λ i j hi hj. (λ e. absurd (omega (arith, blank_at j i)), λ e. absurd (omega (arith, unused_at i j hi hj)));
    }

-- where the elements from m on have no demand
pub untouched_consistent : (m : ℕ) → m ≤ elements → (rows demand : List ℕ) → ((i : ℕ) → m ≤ i → i < elements → get_or demand i 0 ≡ 0)
    → Consistent (λ i. get_or demand i 0) rows (untouched m demand)
untouched_consistent m hm rows demand idle =
    record {
      balanced = record {
        wide = unused_long;
        lefts = copied_long m hm demand;
        rights = copied_long m hm demand;
        rows = λ i h. omega (arith, unused_row i h, copied_at m hm demand idle i h);
        cols = λ j h. omega (arith, unused_col j h, copied_at m hm demand idle j h);
      };
      linked = untouched_linked m demand;
      ordered = record {
        wide = unused_long;
        along = λ i j hi hj e. absurd (omega (arith, unused_at i j hi hj));
      };
    }
