-- The rows of the arcs that records name: where no record is picked they stay, and each that is picked adds its arc;
-- those of a type are a case.
use mathlib.Core.Path.{◌≡◌, refl, sym, ap, ◌∙◌, subst}
use mathlib.Core.Bool.{Bool, true, false, ◌||◌}
use mathlib.Core.List.{List}
use mathlib.Core.Logic.{◌⊎◌, inl, inr, ⊎_elim, ◌↔◌, ◌≢◌}
use Prim.Native.Nat.{ℕ, zero, suc, ◌+◌, ◌-◌, ◌≤◌, ◌<◌}
use native.Mathlib.Nat.{zero-add, add-zero, add-suc}
use native.Mathlib.Decide.{ℕ_discrete}
use native.Mathlib.Omega.{arith}
use lib.ListN.{length, replicate}
use lib.Dec.{eqb}
use borrow.Author.Tests.{eqb-true, eq-eqb, ne_eqb}
use Rattle.words.specs.Bits.{bit, with_bit}
use Rattle.words.specs.model.Loops.{upto}
use Rattle.words.proofs.Bits.{bit_or_lem, bit_single, with_lt}
use Rattle.words.proofs.Tests.{or_says, by_test, cond_true, cond_false}
use Rattle.order.specs.Rows.{after}
use Rattle.records.specs.Bytes.{byte}
use Rattle.order.specs.Stored.{elements, cells, row, put_row, RowsFit}
use Rattle.order.proofs.Stored.{length_put, length_blank, row_put_same, row_put_other, row_fit, fit_put}
use Rattle.plan.specs.Records.{record_at, type_at}
use Rattle.plan.specs.model.ArcRows.{with_arc, picked_after, picked_up_to, is_of, arcs_after, arcs_up_to}
use Rattle.plan.specs.model.Phases.{put_arc}
use Rattle.plan.proofs.Places.{record_on}

-- ---- the arc of one record

length_with_arc : (r rows : List ℕ) → length (with_arc r rows) ≡ length rows
unfolding with_arc
length_with_arc r rows = length_put rows (byte r 1 - 1) (with_bit (row rows (byte r 1 - 1)) (byte r 2 - 1))

pub with_arc_fits : (r rows : List ℕ) → length rows ≡ cells elements → 1 ≤ byte r 1 → byte r 1 ≤ elements → 1 ≤ byte r 2 → byte r 2 ≤ elements
    → RowsFit elements rows → RowsFit elements (with_arc r rows)
unfolding with_arc
with_arc_fits r rows long la ha lb hb fit =
    fit_put elements rows (byte r 1 - 1) (with_bit (row rows (byte r 1 - 1)) (byte r 2 - 1)) long (omega arith) fit
    (with_lt (row rows (byte r 1 - 1)) (byte r 2 - 1) elements (omega arith) (row_fit elements rows fit (byte r 1 - 1)))

-- it has the arcs that were there, and its own
pub with_arc_lem : (r rows : List ℕ) (i j : ℕ) → length rows ≡ cells elements → 1 ≤ byte r 1 → byte r 1 ≤ elements → 1 ≤ byte r 2
    → (after (with_arc r rows) i j ≡ true) ↔ ((after rows i j ≡ true) ⊎ ((byte r 1 ≡ i + 1) × (byte r 2 ≡ j + 1)))
unfolding with_arc
with_arc_lem r rows i j long la ha lb = go (byte r 1) (byte r 2) la ha lb
  where
    go : (a b : ℕ) → 1 ≤ a → a ≤ elements → 1 ≤ b
        → (after (put_row rows (a - 1) (with_bit (row rows (a - 1)) (b - 1))) i j ≡ true) ↔ ((after rows i j ≡ true) ⊎ ((a ≡ i + 1) × (b ≡ j + 1)))
    go a b la ha lb = at (ℕ_discrete i (a - 1))
      where
        new : ℕ
        new = with_bit (row rows (a - 1)) (b - 1)

        rows' : List ℕ
        rows' = put_row rows (a - 1) new

        bits : bit new j ≡ (bit (row rows (a - 1)) j || eqb j (b - 1))
        bits = bit_or_lem (row rows (a - 1)) _ j ∙ ap (λ (x : Bool). bit (row rows (a - 1)) j || x) (bit_single (b - 1) j)

        at : Dec (i ≡ a - 1) → (after rows' i j ≡ true) ↔ ((after rows i j ≡ true) ⊎ ((a ≡ i + 1) × (b ≡ j + 1)))
        at (yes e) =
            let here : after rows' i j ≡ (after rows i j || eqb j (b - 1)) =
            subst (λ (x : ℕ). after rows' x j ≡ (after rows x j || eqb j (b - 1))) (sym e)
            (ap (λ (w : ℕ). bit w j) (row_put_same elements rows (a - 1) new long (omega arith)) ∙ bits) in (
              (λ t. ⊎_elim (λ o. inl o) (λ o. let q = eqb-true j (b - 1) o in inr (omega arith, omega arith)) ((or_says (after rows i j) (eqb j (b - 1))).0 (sym here ∙ t))),
              (λ o. here ∙ (or_says (after rows i j) (eqb j (b - 1))).1 (⊎_elim (λ t. inl t) (λ n. inr (eq-eqb j (b - 1) (omega (arith, n.1)))) o)),
            )
        at (no ne) =
            let other : after rows' i j ≡ after rows i j = ap (λ (w : ℕ). bit w j) (row_put_other rows (a - 1) i new ne) in (
              (λ t. inl (sym other ∙ t)),
              (λ o. ⊎_elim (λ t. other ∙ t) (λ n. absurd (ne (omega (arith, n.0)))) o),
            )

-- ---- the records that a test picks

module _ (s : List ℕ) (pick : List ℕ → Bool) where
  pub picked_start : picked_up_to s pick 0 ≡ replicate (cells elements) 0
  unfolding picked_up_to
  picked_start = refl

  picked_suc : (p : ℕ) → picked_up_to s pick (suc p) ≡ picked_after pick (record_at s p) (picked_up_to s pick p)
  unfolding picked_up_to
  picked_suc p = refl

  -- a record that is picked, and one that is not
  pub picked_more : (p : ℕ) → pick (record_at s p) ≡ true → picked_up_to s pick (suc p) ≡ with_arc (record_at s p) (picked_up_to s pick p)
  picked_more p t = picked_suc p ∙ cond_true _ _ t

  pub picked_skip : (p : ℕ) → pick (record_at s p) ≡ false → picked_up_to s pick (suc p) ≡ picked_up_to s pick p
  picked_skip p t = picked_suc p ∙ cond_false _ _ t

  pub length_picked : (p : ℕ) → length (picked_up_to s pick p) ≡ cells elements
  length_picked zero = ap length picked_start ∙ length_blank elements
  length_picked (suc p) =
      by_test (pick (record_at s p))
      (λ t. ap length (picked_more p t) ∙ length_with_arc (record_at s p) (picked_up_to s pick p) ∙ length_picked p)
      (λ t. ap length (picked_skip p t) ∙ length_picked p)

  -- n records of which none is picked
  picked_none : (a n : ℕ) → ((i : ℕ) → i < n → pick (record_at s (a + i)) ≡ false) → picked_up_to s pick (a + n) ≡ picked_up_to s pick a
  picked_none a zero h = ap (picked_up_to s pick) (add-zero a)
  picked_none a (suc n) h = ap (picked_up_to s pick) (add-suc a n) ∙ picked_skip (a + n) (h n (omega arith)) ∙ picked_none a n (λ i l. h i (omega arith))

  pub picked_none_before : (n : ℕ) → ((i : ℕ) → i < n → pick (record_at s i) ≡ false) → picked_up_to s pick n ≡ replicate (cells elements) 0
  picked_none_before zero h = picked_start
  picked_none_before (suc n) h = picked_skip n (h n (omega arith)) ∙ picked_none_before n (λ i l. h i (omega arith))

  -- n records, whatever they are, as a loop stores them
  pub picked_run : (a n : ℕ) → picked_up_to s pick (a + n) ≡ upto (λ i. picked_after pick (record_at (record_at s a) i)) n (picked_up_to s pick a)
  unfolding upto
  picked_run a zero = ap (picked_up_to s pick) (add-zero a)
  picked_run a (suc n) =
      ap (picked_up_to s pick) (add-suc a n)
      ∙ picked_suc (a + n)
      ∙ ap (λ (r : List ℕ). picked_after pick r (picked_up_to s pick (a + n))) (sym (record_on s a n))
      ∙ ap (picked_after pick (record_at (record_at s a) n)) (picked_run a n)

-- ---- those of a type

pub after_same : (type : ℕ) (r rows : List ℕ) → byte r 0 ≡ type → arcs_after type r rows ≡ with_arc r rows
after_same type r rows e = cond_true _ _ (eq-eqb (byte r 0) type e)

pub length_arcs : (s : List ℕ) (type p : ℕ) → length (arcs_up_to s type p) ≡ cells elements
length_arcs s type p = length_picked s (is_of type) p

pub arcs_none : (s : List ℕ) (type a n : ℕ) → ((i : ℕ) → i < n → type_at s (a + i) ≢ type) → arcs_up_to s type (a + n) ≡ arcs_up_to s type a
arcs_none s type a n h = picked_none s (is_of type) a n (λ i l. ne_eqb (type_at s (a + i)) type (h i l))

pub arcs_none_before : (s : List ℕ) (type n : ℕ) → ((i : ℕ) → i < n → type_at s i ≢ type) → arcs_up_to s type n ≡ replicate (cells elements) 0
arcs_none_before s type n h = picked_none_before s (is_of type) n (λ i l. ne_eqb (type_at s i) type (h i l))

pub arcs_run : (s : List ℕ) (type a n : ℕ) → arcs_up_to s type (a + n) ≡ upto (put_arc type (record_at s a)) n (arcs_up_to s type a)
arcs_run s type a n = picked_run s (is_of type) a n

pub arcs_run_whole : (s : List ℕ) (type n : ℕ) → arcs_up_to s type n ≡ upto (put_arc type s) n (replicate (cells elements) 0)
arcs_run_whole s type n = ap (arcs_up_to s type) (sym (zero-add n)) ∙ arcs_run s type 0 n ∙ ap (upto (put_arc type s) n) (picked_start s (is_of type))
