-- How code adds arcs from one element: it gains, and then what is before it. What is gained arc by arc can
-- be gained at once. For any n.
use Rattle.std.proofs.Common.{◌≡◌, ℕ, ◌^◌, ◌<◌, Bool, true, false, cond, not, ◌&&◌, ◌||◌, eqb, ◌≢◌, List, length, sym, refl, ap, ◌∙◌, subst}
use lib.Bits.{bit_or}
use Rattle.words.specs.Bits.{bit, with_bit, minus}
use Rattle.words.specs.Members.{first}
use Rattle.words.specs.model.Loops.{each}
use Rattle.words.proofs.Tests.{clash, fails, by_test, or_left, or_right, or_cases, eqb_says, cond_true, cond_false, cond_has, at_or_other}
use Rattle.words.proofs.Bits.{bit_or_lem, bit_minus, bit_same, bit_zero}
use Rattle.words.proofs.Members.{low_place}
use Rattle.order.specs.Stored.{cells, row, put_row, row_table, RowsFit}
use Rattle.order.specs.Rows.{after, gain, gained, grow}
use Rattle.order.specs.model.Growing.{grown}
use Rattle.order.specs.model.Warshall.{passed, gaining}
use Rattle.order.proofs.Stored.{length_put, length_rows, row_put_same, row_put_other, row_fit, row_table_lem, row_tables, rows_same, rows_updated, fit_table}
use Rattle.order.proofs.Represents.{bit_cond}
use Rattle.order.proofs.Growing.{Fresh, fresh_again, fresh_less}

-- ---- tests, and rows

twice : (a b : Bool) → (a || b) || b ≡ a || b
twice true b = refl
twice false true = refl
twice false false = refl

together : (a b c d t : Bool) → a || (b || (c || d)) ≡ (a || b) || ((c || (t && b)) || d)
together true b c d t = refl
together false true c d t = refl
together false false true d t = refl
together false false false d true = refl
together false false false d false = refl

-- row i is w, row y is v: what is gained after a gain of g is gained with g
gained_more : (x g y v i w : ℕ) → gained x (bit_or g (with_bit v y)) i w ≡ gained x (with_bit (gained x g y v) y) i (gained x g i w)
gained_more x g y v i w = by_test (eqb i x || bit w x) gains stays
  where
    t : Bool
    t = eqb y x || bit v x

    more : ℕ
    more = with_bit (gained x g y v) y

    all : bit_or w (bit_or g (with_bit v y)) ≡ bit_or (bit_or w g) more
    all =
        bit_same (bit_or w (bit_or g (with_bit v y))) (bit_or (bit_or w g) more)
        (λ j. bit_or_lem w (bit_or g (with_bit v y)) j
        ∙ ap (λ (b : Bool). bit w j || b) (bit_or_lem g (with_bit v y) j ∙ ap (λ (b : Bool). bit g j || b) (bit_or_lem v (2 ^ y) j))
        ∙ together (bit w j) (bit g j) (bit v j) (bit (2 ^ y) j) t
        ∙ sym (bit_or_lem (bit_or w g) more j ∙ ap2_or (bit_or_lem w g j) (bit_or_lem (gained x g y v) (2 ^ y) j ∙ ap (λ (b : Bool). b || bit (2 ^ y) j) (bit_cond t v g j))))
      where
        ap2_or : {a b c d : Bool} → a ≡ b → c ≡ d → a || c ≡ b || d
        ap2_or p q = rw (p, q) refl

    gains : eqb i x || bit w x ≡ true → gained x (bit_or g (with_bit v y)) i w ≡ gained x more i (gained x g i w)
    gains e =
        cond_true (bit_or w (bit_or g (with_bit v y))) w e
        ∙ all
        ∙ sym (ap (gained x more i) (cond_true (bit_or w g) w e) ∙ cond_true (bit_or (bit_or w g) more) (bit_or w g) still)
      where
        still : eqb i x || bit (bit_or w g) x ≡ true
        still = or_cases (eqb i x) (bit w x) e (or_left (eqb i x) (bit (bit_or w g) x)) (λ h. or_right (eqb i x) (bit (bit_or w g) x) (bit_or_lem w g x ∙ or_left (bit w x) (bit g x) h))

    stays : eqb i x || bit w x ≡ false → gained x (bit_or g (with_bit v y)) i w ≡ gained x more i (gained x g i w)
    stays e =
        cond_false (bit_or w (bit_or g (with_bit v y))) w e
        ∙ sym (ap (gained x more i) (cond_false (bit_or w g) w e) ∙ cond_false (bit_or w more) w e)

-- ---- what x gains

-- The invariant of a loop that finds what x gains by the arcs to the members of u, none of them held, and leaves the rows as they are: g is found, and the
-- members w are left.
abbrev pub Gains : ℕ → List ℕ → ℕ → ℕ → ℕ → ℕ → Type 0
Gains n rows x u g w = (each n (grown n x) (gaining n x g rows) w ≡ each n (grown n x) rows u) × Fresh x (gaining n x g rows) w

module _ (n : ℕ) (rows : List ℕ) (long : length rows ≡ cells n) (x : ℕ) (h : x < n) where
  gaining_table : (g : ℕ) → gaining n x g rows ≡ row_table n (λ i. gained x g i (row rows i))
  gaining_table g = rows_updated (λ i w. passed x g w) n put (length_put rows x (bit_or (row rows x) g) ∙ long) ∙ row_tables n (λ i. passed x g (row put i)) (λ i. gained x g i (row rows i)) same
    where
      put : List ℕ
      put = put_row rows x (bit_or (row rows x) g)

      again : (w : ℕ) → bit_or (bit_or w g) g ≡ bit_or w g
      again w =
          bit_same (bit_or (bit_or w g) g) (bit_or w g)
          (λ j. bit_or_lem (bit_or w g) g j ∙ ap (λ (b : Bool). b || bit g j) (bit_or_lem w g j) ∙ twice (bit w j) (bit g j) ∙ sym (bit_or_lem w g j))

      same : (i : ℕ) → i < n → passed x g (row put i) ≡ gained x g i (row rows i)
      same i l = at_or_other (λ k. passed x g (row put k) ≡ gained x g k (row rows k)) x i here there
        where
          here : passed x g (row put x) ≡ gained x g x (row rows x)
          here =
              ap (passed x g) (row_put_same n rows x (bit_or (row rows x) g) long h)
              ∙ cond_has (λ v. v ≡ bit_or (row rows x) g) (bit (bit_or (row rows x) g) x) (bit_or (bit_or (row rows x) g) g) (bit_or (row rows x) g) (λ _. again (row rows x)) (λ _. refl)
              ∙ sym (cond_true (bit_or (row rows x) g) (row rows x) (or_left (eqb x x) (bit (row rows x) x) ((eqb_says x x).1 refl)))

          there : i ≢ x → passed x g (row put i) ≡ gained x g i (row rows i)
          there d =
              ap (passed x g) (row_put_other rows x i (bit_or (row rows x) g) d)
              ∙ sym (ap (λ (t : Bool). cond (t || bit (row rows i) x) (bit_or (row rows i) g) (row rows i)) (fails (eqb i x) (λ e. d ((eqb_says i x).0 e))))

  row_gaining : (g i : ℕ) → i < n → row (gaining n x g rows) i ≡ gained x g i (row rows i)
  row_gaining g i l = ap (λ (r : List ℕ). row r i) (gaining_table g) ∙ row_table_lem n (λ k. gained x g k (row rows k)) i l

  -- by one arc
  pub gaining_grow : (y : ℕ) → gaining n x (gain rows y) rows ≡ grow n rows x y
  unfolding grow
  gaining_grow y = gaining_table (gain rows y)

  -- by none
  gaining_none : RowsFit n rows → gaining n x 0 rows ≡ rows
  gaining_none fit =
      gaining_table 0
      ∙ rows_same n (row_table n new) rows (length_rows n new) long (fit_table n new (λ i l. rw (same i) (row_fit n rows fit i))) fit (λ i l. row_table_lem n new i l ∙ same i)
    where
      new : ℕ → ℕ
      new i = gained x 0 i (row rows i)

      or_none : (w : ℕ) → bit_or w 0 ≡ w
      or_none w = bit_same (bit_or w 0) w (λ j. bit_or_lem w 0 j ∙ ap (λ (b : Bool). bit w j || b) (bit_zero j) ∙ or_false (bit w j))
        where
          or_false : (b : Bool) → b || false ≡ b
          or_false true = refl
          or_false false = refl

      same : (i : ℕ) → new i ≡ row rows i
      same i = cond_has (λ w. w ≡ row rows i) (eqb i x || bit (row rows i) x) (bit_or (row rows i) 0) (row rows i) (λ _. or_none (row rows i)) (λ _. refl)

  -- by one arc more
  gaining_more : (g y : ℕ) → y < n → gaining n x (bit_or g (gain rows y)) rows ≡ grow n (gaining n x g rows) x y
  unfolding grow
  gaining_more g y l =
      gaining_table (bit_or g (gain rows y))
      ∙ row_tables n (λ i. gained x (bit_or g (gain rows y)) i (row rows i)) (λ i. gained x (gain (gaining n x g rows) y) i (row (gaining n x g rows) i))
      (λ i k. rw (row_gaining g i k, row_gaining g y l) (gained_more x g y (row rows y) i (row rows i)))

  row_own : (g : ℕ) → row (gaining n x g rows) x ≡ bit_or (row rows x) g
  row_own g = row_gaining g x h ∙ cond_true (bit_or (row rows x) g) (row rows x) (or_left (eqb x x) (bit (row rows x) x) ((eqb_says x x).1 refl))

  -- ---- the loop: it begins with what is not held, and each turn takes the lowest member and all that is gained with it

  pub gains_start : RowsFit n rows → (u : ℕ) → Fresh x rows u → Gains n rows x u 0 u
  gains_start fit u new = subst (λ (r : List ℕ). (each n (grown n x) r u ≡ each n (grown n x) rows u) × Fresh x r u) (sym (gaining_none fit)) (refl, new)

  module _ (u g w j : ℕ) {f v : ℕ} (some : w ≡ 0 → ⊥) (fit : w < 2 ^ n) (inv : Gains n rows x u g w) (q : j ≡ first n (bit w)) (found : f ≡ bit_or g (gain rows j)) (e : v ≡ minus w f) where
    turn : gaining n x f rows ≡ grow n (gaining n x g rows) x j
    turn = ap (λ (z : ℕ). gaining n x z rows) found ∙ gaining_more g j (low_place n w some fit q)

    left : v ≡ minus w (row (gaining n x f rows) x)
    left = e ∙ bit_same (minus w f) (minus w (row (gaining n x f rows) x)) (λ k. bit_minus w f k ∙ same k ∙ sym (bit_minus w (row (gaining n x f rows) x) k))
      where
        same : (k : ℕ) → bit w k && not (bit f k) ≡ bit w k && not (after (gaining n x f rows) x k)
        same k = by_test (bit w k) (λ t. ap (λ (b : Bool). bit w k && not b) (sym (own (new t)))) (λ t. rw t refl)
          where
            new : bit w k ≡ true → after rows x k ≡ false
            new t = fails (after rows x k) (λ a. clash (ap (λ (r : ℕ). bit r k) (row_own g) ∙ bit_or_lem (row rows x) g k ∙ or_left (after rows x k) (bit g k) a) (inv.1 k t))

            own : after rows x k ≡ false → after (gaining n x f rows) x k ≡ bit f k
            own a = ap (λ (r : ℕ). bit r k) (row_own f) ∙ bit_or_lem (row rows x) f k ∙ ap (λ (b : Bool). b || bit f k) a

    pub gains_again : Gains n rows x u f v
    gains_again = fresh_again n x h (gaining n x g rows) w j some fit inv q turn left

    pub gains_less : v < w
    gains_less = fresh_less n x h (gaining n x g rows) w j some fit q turn left
