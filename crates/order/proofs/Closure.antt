-- Warshall's closure: n rows of arcs, with one element after the other as a way through, represent the
-- order of the arcs. For any n.
use Rattle.std.proofs.Common.{◌≡◌, ℕ, zero, suc, ◌^◌, ◌<◌, true, cond, ◌&&◌, ◌||◌, eqb, ◌⊎◌, ◌↔◌, List, length, sym, ap, ◌∙◌, subst, inl, inr, ⊎_elim, arith, eqb-true}
use native.Mathlib.Decide.{dec_lt}
use lib.Bits.{bit_or, or_lt}
use Rattle.words.specs.Bits.{bit}
use Rattle.words.specs.model.Loops.{upto}
use Rattle.words.proofs.Tests.{clash, or_says, and_says, or_left, or_right, cond_has, below_suc, same_or_not}
use Rattle.words.proofs.Bits.{bit_above, bit_or_lem, bit_zero}
use Rattle.order.specs.Before.{Before, last}
use Rattle.order.specs.Arcs.{Drawn}
use Rattle.order.specs.Stored.{cells, row, row_table, RowsFit}
use Rattle.order.specs.Rows.{after, Represents}
use Rattle.order.specs.model.Warshall.{passed, passing, ends_in, passing_over}
use Rattle.order.proofs.Before.{before_trans, before_least}
use Rattle.order.proofs.Represents.{after_past, bit_cond}
use Rattle.order.proofs.Stored.{row_table_lem, length_rows, rows_updated, row_fit, fit_table}

-- what holds of the rows when the elements below k have been ways through: arcs are there, what is there is a way, and ways through an
-- element below k are there
pub record Closing (n : ℕ) (A : ℕ → ℕ → Type 0) (k : ℕ) (rows : List ℕ) : Type 0 where
  pub long : length rows ≡ cells n
  pub fit : RowsFit n rows
  pub holds : (i j : ℕ) → A i j → after rows i j ≡ true
  pub sound : (i j : ℕ) → after rows i j ≡ true → Before A i j
  pub through : (p : ℕ) → p < k → (i j : ℕ) → after rows i p ≡ true → after rows p j ≡ true → after rows i j ≡ true

module _ (n : ℕ) (rows : List ℕ) (long : length rows ≡ cells n) (k : ℕ) where
  pass_table : passing n k rows ≡ row_table n (λ i. passed k (row rows k) (row rows i))
  pass_table = rows_updated (λ i w. passed k (row rows k) w) n rows long

  pass_long : length (passing n k rows) ≡ cells n
  pass_long = ap length pass_table ∙ length_rows n (λ i. passed k (row rows k) (row rows i))

  row_pass : (i : ℕ) → i < n → row (passing n k rows) i ≡ passed k (row rows k) (row rows i)
  row_pass i h = ap (λ (l : List ℕ). row l i) pass_table ∙ row_table_lem n (λ i. passed k (row rows k) (row rows i)) i h

  -- after the pass i is before j where it was, or was before k and k before j
  abbrev Passed : ℕ → ℕ → Type 0
  Passed i j = (after rows i j ≡ true) ⊎ ((after rows i k ≡ true) × (after rows k j ≡ true))

  below : (i j : ℕ) → after rows i j ≡ true → i < n
  below i j e = go (dec_lt i n)
    where
      go : Dec (i < n) → i < n
      go (yes h) = h
      go (no h) = clash e (after_past n rows i j long (omega arith))

  after_pass : (i j : ℕ) → (after (passing n k rows) i j ≡ true) ↔ Passed i j
  after_pass i j = at (dec_lt i n)
    where
      same : i < n → after (passing n k rows) i j ≡ after rows i j || (after rows i k && after rows k j)
      same h = ap (λ (w : ℕ). bit w j) (row_pass i h) ∙ bit_cond (after rows i k) (row rows i) (row rows k) j

      says : (after rows i j || (after rows i k && after rows k j) ≡ true) ↔ Passed i j
      says = (
        (λ e. ⊎_elim inl (λ f. inr ((and_says (after rows i k) (after rows k j)).0 f)) ((or_says (after rows i j) (after rows i k && after rows k j)).0 e)),
        (λ p. (or_says (after rows i j) (after rows i k && after rows k j)).1 (⊎_elim inl (λ q. inr ((and_says (after rows i k) (after rows k j)).1 q)) p)),
      )

      at : Dec (i < n) → (after (passing n k rows) i j ≡ true) ↔ Passed i j
      at (yes h) = ((λ e. says.0 (sym (same h) ∙ e)), (λ p. same h ∙ says.1 p))
      at (no h) = (
        (λ e. clash e (after_past n (passing n k rows) i j pass_long (omega arith))),
        ⊎_elim (λ e. absurd (h (below i j e))) (λ p. absurd (h (below i k p.0))),
      )

module _ (n : ℕ) (A : ℕ → ℕ → Type 0) (k : ℕ) (rows : List ℕ) (c : Closing n A k rows) where
  pass_fit : RowsFit n (passing n k rows)
  pass_fit =
      subst (RowsFit n) (sym (pass_table n rows c.long k))
      (fit_table n (λ i. passed k (row rows k) (row rows i))
      (λ i h. cond_has (λ w. w < 2 ^ n) (after rows i k) (bit_or (row rows i) (row rows k)) (row rows i) (λ e. or_lt n (row rows i) (row rows k) (fit i) (fit k)) (λ e. fit i)))
    where
      fit : (i : ℕ) → row rows i < 2 ^ n
      fit = row_fit n rows c.fit

  -- the pass changes neither who is before k, nor what k is before
  to_k : (i : ℕ) → Passed n rows c.long k i k → after rows i k ≡ true
  to_k i = ⊎_elim (λ e. e) (λ p. p.0)

  from_k : (j : ℕ) → Passed n rows c.long k k j → after rows k j ≡ true
  from_k j = ⊎_elim (λ e. e) (λ p. p.1)

  through_here : (i j : ℕ) → Passed n rows c.long k i k → Passed n rows c.long k k j → Passed n rows c.long k i j
  through_here i j p q = inr (to_k i p, from_k j q)

  through_earlier : (p : ℕ) → p < k → (i j : ℕ) → Passed n rows c.long k i p → Passed n rows c.long k p j → Passed n rows c.long k i j
  through_earlier p h i j (inl a) (inl b) = inl (c.through p h i j a b)
  through_earlier p h i j (inl a) (inr b) = inr (c.through p h i k a b.0, b.1)
  through_earlier p h i j (inr a) (inl b) = inr (a.0, c.through p h k j a.1 b)
  through_earlier p h i j (inr a) (inr b) = inr (a.0, b.1)

  pub pass_closing : Closing n A (suc k) (passing n k rows)
  pass_closing =
      record {
        long = pass_long n rows c.long k;
        fit = pass_fit;
        holds = λ i j a. (after_pass n rows c.long k i j).1 (inl (c.holds i j a));
        sound = λ i j e.
            ⊎_elim (c.sound i j) (λ p. before_trans (c.sound i k p.0) (c.sound k j p.1)) ((after_pass n rows c.long k i j).0 e);
        through =
            below_suc (λ p. (i j : ℕ) → after (passing n k rows) i p ≡ true → after (passing n k rows) p j ≡ true → after (passing n k rows) i j ≡ true) k
            (λ p h i j a b. says i j (through_earlier p h i j (said i p a) (said p j b)))
            (λ i j a b. says i j (through_here i j (said i k a) (said k j b)));
      }
    where
      said : (i j : ℕ) → after (passing n k rows) i j ≡ true → Passed n rows c.long k i j
      said i j = (after_pass n rows c.long k i j).0

      says : (i j : ℕ) → Passed n rows c.long k i j → after (passing n k rows) i j ≡ true
      says i j = (after_pass n rows c.long k i j).1

-- n rows of n digits are where it starts
pub closing_start : (n : ℕ) (rows : List ℕ) → length rows ≡ cells n → RowsFit n rows → Closing n (Drawn n (after rows)) 0 rows
closing_start n rows long fit =
    record {
      long = long;
      fit = fit;
      holds = λ i j d. d.drawn;
      sound = λ i j e. last (record { from = below n rows long 0 i j e; to = to i j e; drawn = e });
      through = λ p h. absurd (omega arith);
    }
  where
    to : (i j : ℕ) → after rows i j ≡ true → j < n
    to i j e = go (dec_lt j n)
      where
        go : Dec (j < n) → j < n
        go (yes h) = h
        go (no h) = clash e (bit_above n (row rows i) j (row_fit n rows fit i) (omega arith))

-- and at the end every way is there
pub closing_end : (n : ℕ) (arcs rows : List ℕ) → Closing n (Drawn n (after arcs)) n rows → Represents n rows (Drawn n (after arcs))
closing_end n arcs rows c =
    record {
      long = c.long;
      fit = c.fit;
      means = λ i j. (c.sound i j, λ b. reached i j b);
    }
  where
    leads : (i j k : ℕ) → (j < n) × (after rows i j ≡ true) → (k < n) × (after rows j k ≡ true) → (k < n) × (after rows i k ≡ true)
    leads i j k p q = (q.0, c.through j p.0 i k p.1 q.1)

    reached : (i j : ℕ) → Before (Drawn n (after arcs)) i j → after rows i j ≡ true
    reached i j b = (before_least (λ x y. (y < n) × (after rows x y ≡ true)) (λ x y d. (d.to, c.holds x y d)) leads b).1

-- ---- passing over elements at which no way goes on

-- a way into k ends with an arc, and a way from k begins with one
last_arc : {A : ℕ → ℕ → Type 0} {i k : ℕ} → Before A i k → (x : ℕ) × A x k
last_arc {A} b = before_least (λ i k. (x : ℕ) × A x k) (λ i k m. (i, m)) (λ i j k p q. q) b

ends_in_lem : (n : ℕ) (rows : List ℕ) (i k : ℕ) → i < n → after rows i k ≡ true → bit (ends_in n rows) k ≡ true
unfolding ends_in
ends_in_lem zero rows i k h e = absurd (omega arith)
ends_in_lem (suc n) rows i k h e =
    bit_or_lem (ends_in n rows) (row rows n) k
    ∙ ⊎_elim
    (λ q. or_right (bit (ends_in n rows) k) (after rows n k) (ap (λ (x : ℕ). after rows x k) (sym q) ∙ e))
    (λ d. or_left (bit (ends_in n rows) k) (after rows n k) (ends_in_lem n rows i k (omega arith) e))
    (same_or_not i n)

-- where no way goes through k, it is as good as done
skip_closing : (n : ℕ) (A : ℕ → ℕ → Type 0) (k : ℕ) (rows : List ℕ) → Closing n A k rows
    → ((i j : ℕ) → after rows i k ≡ true → after rows k j ≡ true → ⊥) → Closing n A (suc k) rows
skip_closing n A k rows c none =
    record {
      long = c.long;
      fit = c.fit;
      holds = c.holds;
      sound = c.sound;
      through =
          below_suc (λ p. (i j : ℕ) → after rows i p ≡ true → after rows p j ≡ true → after rows i j ≡ true) k c.through
          (λ i j a b. absurd (none i j a b));
    }

module _ (n : ℕ) (arcs : List ℕ) where
  over_closing : (k : ℕ) (rows : List ℕ) → Closing n (Drawn n (after arcs)) k rows
      → Closing n (Drawn n (after arcs)) (suc k) (passing_over n (ends_in n arcs) k rows)
  over_closing k rows c =
      cond_has (Closing n (Drawn n (after arcs)) (suc k)) (eqb (row rows k) 0) rows (cond (bit (ends_in n arcs) k) (passing n k rows) rows)
      (λ e. skip_closing n (Drawn n (after arcs)) k rows c
      (λ i j a b. clash b (ap (λ (w : ℕ). bit w j) (eqb-true (row rows k) 0 e) ∙ bit_zero j)))
      (λ e. cond_has (Closing n (Drawn n (after arcs)) (suc k)) (bit (ends_in n arcs) k) (passing n k rows) rows
      (λ f. pass_closing n (Drawn n (after arcs)) k rows c)
      (λ f. skip_closing n (Drawn n (after arcs)) k rows c
      (λ i j a b. let l = last_arc (c.sound i k a) in clash (ends_in_lem n arcs l.0 k l.1.from l.1.drawn) f)))

  pub closed : length arcs ≡ cells n → RowsFit n arcs → Represents n (upto (passing_over n (ends_in n arcs)) n arcs) (Drawn n (after arcs))
  unfolding upto
  closed long fit = closing_end n arcs (upto (passing_over n (ends_in n arcs)) n arcs) (run n)
    where
      run : (k : ℕ) → Closing n (Drawn n (after arcs)) k (upto (passing_over n (ends_in n arcs)) k arcs)
      run zero = closing_start n arcs long fit
      run (suc k) = over_closing k (upto (passing_over n (ends_in n arcs)) k arcs) (run k)
