-- Rows that say which element is before which, for any n: the empty rows, one arc more, the same arcs, circles.
use Rattle.std.proofs.Common.{◌≡◌, ℕ, ◌^◌, ◌<◌, ◌≤◌, Bool, true, false, cond, ◌&&◌, ◌||◌, eqb, ◌↔◌, List, length, replicate, sym, refl, ap, ◌∙◌, inl, inr, ⊎_elim, arith}
use mathlib.Core.Logic.Iff
use native.Mathlib.Decide.{dec_lt}
use lib.Bits.{bit_or, or_lt}
use lib.Pow.{pow-lt}
use Rattle.words.specs.Bits.{bit}
use Rattle.words.specs.Members.{first}
use Rattle.words.proofs.Tests.{clash, fails, test_same, or_says, and_says, eqb_says, ⊎-iff, cond_has}
use Rattle.words.proofs.Bits.{bit_zero, bit_ext, bit_or_lem, bit_single}
use Rattle.words.proofs.Firsts.{first_le, first_none, before_first, at_first}
use Rattle.order.specs.Before.{Before, Acyclic}
use Rattle.order.specs.Arcs.{With, NoArc}
use Rattle.order.specs.Stored.{cells, row, RowsFit}
use Rattle.order.specs.Rows.{after, Represents, gain, gained, grow, circle_in}
use Rattle.order.proofs.Stored.{row_past, row_table_lem, length_rows, length_blank, row_blank, row_fit, fit_table, fit_blank, rows_same}
use Rattle.order.proofs.Before.{Through, before_with, before_none, before_trans}

-- ---- there is nothing past the last row

pub after_past : (n : ℕ) (rows : List ℕ) (i j : ℕ) → length rows ≡ cells n → n ≤ i → after rows i j ≡ false
after_past n rows i j e h = ap (λ (w : ℕ). bit w j) (row_past n rows i e h) ∙ bit_zero j

-- ---- what rows that represent an order say

-- the search for a circle ends at n
pub circle_le : (n : ℕ) (rows : List ℕ) → circle_in n rows ≤ n
unfolding circle_in
circle_le n rows = first_le n (λ i. after rows i i)

module _ {n : ℕ} {rows : List ℕ} {A : ℕ → ℕ → Type 0} (r : Represents n rows A) where
  -- the ends of a way are below n
  pub from_below : {i j : ℕ} → Before A i j → i < n
  from_below {i} {j} b = go (dec_lt i n)
    where
      go : Dec (i < n) → i < n
      go (yes h) = h
      go (no h) = clash ((r.means i j).1 b) (after_past n rows i j r.long (omega arith))

  pub after_trans : (i j k : ℕ) → after rows i j ≡ true → after rows j k ≡ true → after rows i k ≡ true
  after_trans i j k p q = (r.means i k).1 (before_trans ((r.means i j).0 p) ((r.means j k).0 q))

  pub after_free : Acyclic A → (i : ℕ) → after rows i i ≡ false
  after_free free i = fails (after rows i i) (λ e. free i ((r.means i i).0 e))

  -- other arcs that lead the same ways are represented too
  pub represents_same : {B : ℕ → ℕ → Type 0} → ((i j : ℕ) → Before A i j ↔ Before B i j) → Represents n rows B
  represents_same same = record { long = r.long; fit = r.fit; means = λ i j. Iff.trans (r.means i j) (same i j) }

  -- and no other rows represent them
  pub represents_once : {B : ℕ → ℕ → Type 0} (others : List ℕ) → Represents n others B → ((i j : ℕ) → Before A i j ↔ Before B i j) → rows ≡ others
  represents_once others s same =
      rows_same n rows others r.long s.long r.fit s.fit
      (λ i h. bit_ext n (row rows i) (row others i) (row_fit n rows r.fit i) (row_fit n others s.fit i)
      (λ j l. test_same (after rows i j) (after others i j) (Iff.trans (r.means i j) (Iff.trans (same i j) (Iff.symm (s.means i j))))))

  -- ---- circles

  -- no circle is found exactly where there is none
  pub circle_none : (circle_in n rows ≡ n) ↔ Acyclic A
  unfolding circle_in
  circle_none = (
    (λ e i b. clash ((r.means i i).1 b) ((first_none n (λ k. after rows k k)).0 e i (from_below b))),
    (λ free. (first_none n (λ k. after rows k k)).1 (λ i h. after_free free i)),
  )

  -- the element that is found is before itself, and none below it is
  pub circle_some : circle_in n rows < n → Before A (circle_in n rows) (circle_in n rows) × ((i : ℕ) → i < circle_in n rows → Before A i i → ⊥)
  unfolding circle_in
  circle_some h =
      let p : ℕ → Bool = λ i. after rows i i in (
        (r.means (first n p) (first n p)).0 (at_first n p h),
        (λ i l b. clash ((r.means i i).1 b) (before_first n p i l)),
      )

-- ---- no arcs

pub empty_represents : (n : ℕ) → Represents n (replicate (cells n) 0) NoArc
empty_represents n =
    record {
      long = length_blank n;
      fit = fit_blank n;
      means = λ i j. ((λ e. clash e (ap (λ (w : ℕ). bit w j) (row_blank n i) ∙ bit_zero j)), (λ b. absurd (before_none b)));
    }

-- ---- one arc more, from x to y

pub bit_cond : (t : Bool) (v w j : ℕ) → bit (cond t (bit_or v w) v) j ≡ bit v j || (t && bit w j)
bit_cond true v w j = bit_or_lem v w j
bit_cond false v w j = sym (or_none (bit v j))
  where
    or_none : (t : Bool) → t || false ≡ t
    or_none true = refl
    or_none false = refl

module _ (n : ℕ) (rows : List ℕ) (x y : ℕ) where
  -- whether i is x, or before x; whether j is y, or after y
  abbrev starts : ℕ → Bool
  starts i = eqb i x || after rows i x

  abbrev ends : ℕ → Bool
  ends j = after rows y j || eqb j y

  pub grow_long : length (grow n rows x y) ≡ cells n
  unfolding grow
  grow_long = length_rows n (λ i. gained x (gain rows y) i (row rows i))

  row_grow : (i : ℕ) → i < n → row (grow n rows x y) i ≡ gained x (gain rows y) i (row rows i)
  unfolding grow
  row_grow i h = row_table_lem n (λ i. gained x (gain rows y) i (row rows i)) i h

  pub after_grow : (i j : ℕ) → i < n → after (grow n rows x y) i j ≡ after rows i j || (starts i && ends j)
  after_grow i j h =
      ap (λ (w : ℕ). bit w j) (row_grow i h)
      ∙ bit_cond (starts i) (row rows i) (gain rows y) j
      ∙ ap (λ (b : Bool). after rows i j || (starts i && b))
      (bit_or_lem (row rows y) (2 ^ y) j ∙ ap (λ (b : Bool). after rows y j || b) (bit_single y j))

  pub grow_fit : RowsFit n rows → y < n → RowsFit n (grow n rows x y)
  unfolding grow
  grow_fit fits hy = fit_table n (λ i. gained x (gain rows y) i (row rows i)) each
    where
      fit : (i : ℕ) → row rows i < 2 ^ n
      fit = row_fit n rows fits

      each : (i : ℕ) → i < n → gained x (gain rows y) i (row rows i) < 2 ^ n
      each i h =
          cond_has (λ w. w < 2 ^ n) (starts i) (bit_or (row rows i) (gain rows y)) (row rows i)
          (λ e. or_lt n (row rows i) (gain rows y) (fit i) (or_lt n (row rows y) (2 ^ y) (fit y) (pow-lt hy))) (λ e. fit i)

  module _ {A : ℕ → ℕ → Type 0} (r : Represents n rows A) (hx : x < n) (hy : y < n) where
    through : (i j : ℕ) → (starts i && ends j ≡ true) ↔ Through A x y i j
    through i j =
        Iff.trans (and_says (starts i) (ends j))
        (Iff.and
        (Iff.trans (or_says (eqb i x) (after rows i x)) (⊎-iff (eqb_says i x) (r.means i x)))
        (Iff.trans (or_says (after rows y j) (eqb j y))
        (Iff.trans (⊎-iff (r.means y j) (Iff.trans (eqb_says j y) (sym, sym))) (⊎_elim inr inl, ⊎_elim inr inl))))

    says : (i j : ℕ) → (after rows i j || (starts i && ends j) ≡ true) ↔ Before (With A x y) i j
    says i j =
        Iff.trans (or_says (after rows i j) (starts i && ends j))
        (Iff.trans (⊎-iff (r.means i j) (through i j)) (Iff.symm (before_with x y i j)))

    grow_below : {i j : ℕ} → Before (With A x y) i j → i < n
    grow_below {i} {j} b = ⊎_elim (from_below r) (λ t. ⊎_elim (λ e. omega arith) (from_below r) t.0) ((before_with x y i j).0 b)

    grow_means : (i j : ℕ) → (after (grow n rows x y) i j ≡ true) ↔ Before (With A x y) i j
    grow_means i j = at (dec_lt i n)
      where
        at : Dec (i < n) → (after (grow n rows x y) i j ≡ true) ↔ Before (With A x y) i j
        at (yes h) = ((λ e. (says i j).0 (sym (after_grow i j h) ∙ e)), (λ b. after_grow i j h ∙ (says i j).1 b))
        at (no h) = ((λ e. clash e (after_past n (grow n rows x y) i j grow_long (omega arith))), (λ b. absurd (h (grow_below b))))

    pub grow_represents : Represents n (grow n rows x y) (With A x y)
    grow_represents = record { long = grow_long; fit = grow_fit r.fit hy; means = grow_means }
