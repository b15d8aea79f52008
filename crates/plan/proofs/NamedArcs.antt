-- The arcs that records name, and the rows that hold them: for the records that a test picks, and for those of a type.
use mathlib.Core.Path.{◌≡◌, refl, ap, ◌∙◌, subst}
use mathlib.Core.Bool.{Bool, true}
use mathlib.Core.List.{List}
use mathlib.Core.Logic.Iff
use mathlib.Core.Logic.{◌⊎◌, inl, inr, ⊎_elim, ◌↔◌}
use Prim.Native.Nat.{ℕ, zero, suc, ◌+◌, ◌≤◌, ◌<◌}
use native.Mathlib.Decide.{ℕ_discrete}
use native.Mathlib.Omega.{arith}
use lib.Dec.{ltb}
use lib.ListN.{length}
use borrow.Author.Tests.{ltb-true, ltb-false, eqb-true, eq-eqb}
use Rattle.words.specs.Bits.{bit}
use Rattle.words.proofs.Bits.{bit_zero, bit_ext}
use Rattle.words.proofs.Tests.{by_test, clash, test_same}
use Rattle.records.specs.Bytes.{byte}
use Rattle.order.specs.Stored.{elements, cells, row, RowsFit}
use Rattle.order.specs.Rows.{after}
use Rattle.order.proofs.Stored.{row_blank, row_fit, fit_blank, rows_same}
use Rattle.plan.specs.Records.{record_at, record_count, type_at, activity_count}
use Rattle.plan.specs.model.ArcRows.{picked_up_to, is_of, arcs_up_to, arc_rows}
use Rattle.plan.specs.Meaning.{Names}
use Rattle.plan.specs.model.Said.{ArcsOf}
use Rattle.plan.proofs.RecordRules.{ArcKept, arc_of, arc_among}
use Rattle.plan.proofs.Arcs.{with_arc_lem, with_arc_fits, picked_start, picked_more, picked_skip, length_picked, length_arcs}
use Rattle.plan.proofs.Parts.{Faultless, few, crew_fine, arc_fine, no_arc}

-- what some records name more records name
pub names_wider : {s : List ℕ} {n m type i j : ℕ} → n ≤ m → Names s n type i j → Names s m type i j
names_wider l h = record { place = h.place; there = omega (arith, h.there); typed = h.typed; from = h.from; to = h.to }

-- ---- THE FIRST n RECORDS, of a file or of a part of one, where those that a test picks keep the rules of arcs

-- one of them is picked and names the arc from element i to element j
pub record Picks (s : List ℕ) (pick : List ℕ → Bool) (n i j : ℕ) : Type 0 where
  pub place : ℕ
  pub there : place < n
  pub picked : pick (record_at s place) ≡ true
  pub from : byte (record_at s place) 1 ≡ i + 1
  pub to : byte (record_at s place) 2 ≡ j + 1

module _ (s : List ℕ) (pick : List ℕ → Bool) where
  -- record p is, and does
  abbrev Here : ℕ → ℕ → ℕ → Type 0
  Here p i j = (pick (record_at s p) ≡ true) × (byte (record_at s p) 1 ≡ i + 1) × (byte (record_at s p) 2 ≡ j + 1)

  -- of p + 1 records: one of the first p, or the last
  one_more : (p i j : ℕ) → (Picks s pick p i j ⊎ Here p i j) ↔ Picks s pick (suc p) i j
  one_more p i j = (
    ⊎_elim
        (λ h. record { place = h.place; there = omega (arith, h.there); picked = h.picked; from = h.from; to = h.to })
        (λ h. record { place = p; there = omega arith; picked = h.0; from = h.1; to = h.2 }),
    (λ h. go h (ℕ_discrete h.place p)),
  )
    where
      go : (h : Picks s pick (suc p) i j) → Dec (h.place ≡ p) → Picks s pick p i j ⊎ Here p i j
      go h (yes e) = inr (subst (λ (x : ℕ). Here x i j) e (h.picked, h.from, h.to))
      go h (no ne) = inl (record { place = h.place; there = omega (arith, h.there); picked = h.picked; from = h.from; to = h.to })

  -- those that are picked keep the rules
  abbrev pub Keep : ℕ → Type 0
  Keep n = (p : ℕ) → p < n → pick (record_at s p) ≡ true → ArcKept (type_at s p) elements (record_at s p)

  -- the rows of p + 1 records: those of the first p, and the arc of the last
  row_more : (p i j : ℕ) → Keep (suc p) → (after (picked_up_to s pick (suc p)) i j ≡ true) ↔ ((after (picked_up_to s pick p) i j ≡ true) ⊎ Here p i j)
  row_more p i j kept =
      by_test (pick (record_at s p))
      (λ t.
      let K = kept p (omega arith) t in
      let one = with_arc_lem (record_at s p) (picked_up_to s pick p) i j (length_picked s pick p) K.from_low K.from_high K.to_low in
      rw (picked_more s pick p t) ((λ o. ⊎_elim inl (λ h. inr (t, h.0, h.1)) (one.0 o)), (λ o. one.1 (⊎_elim inl (λ h. inr (h.1, h.2)) o))))
      (λ t. rw (picked_skip s pick p t) (inl, ⊎_elim (λ o. o) (λ h. clash h.0 t)))

  -- THE ROWS HOLD WHAT THEY NAME
  pub picks_said : (n : ℕ) → Keep n → (i j : ℕ) → (after (picked_up_to s pick n) i j ≡ true) ↔ Picks s pick n i j
  picks_said zero kept i j =
      let blank = ap (λ (rows : List ℕ). after rows i j) (picked_start s pick) ∙ ap (λ (w : ℕ). bit w j) (row_blank elements i) ∙ bit_zero j in (
        (λ t. clash t blank),
        (λ h. absurd (omega (arith, h.there))),
      )
  picks_said (suc n) kept i j =
      let ih = picks_said n (λ p l. kept p (omega arith)) i j in
      let row = row_more n i j kept in
      let more = one_more n i j in (
        (λ t. more.0 (⊎_elim (λ o. inl (ih.0 o)) inr (row.0 t))),
        (λ h. row.1 (⊎_elim (λ o. inl (ih.1 o)) inr (more.1 h))),
      )

  -- no row is too large
  picks_fit : (n : ℕ) → Keep n → RowsFit elements (picked_up_to s pick n)
  picks_fit zero kept = rw (picked_start s pick) (fit_blank elements)
  picks_fit (suc n) kept =
      let ih = picks_fit n (λ p l. kept p (omega arith)) in
      by_test (pick (record_at s n))
      (λ t.
      let K = kept n (omega arith) t in
      rw (picked_more s pick n t)
      (with_arc_fits (record_at s n) (picked_up_to s pick n) (length_picked s pick n) K.from_low K.from_high K.to_low K.to_high ih))
      (λ t. rw (picked_skip s pick n t) ih)

-- a record that is picked names the arc by its type, and one that names it is picked where the test holds
abbrev pub picks_named : {s : List ℕ} {pick : List ℕ → Bool} {n i j type : ℕ} (h : Picks s pick n i j) → type_at s h.place ≡ type → Names s n type i j
picks_named h e = record { place = h.place; there = h.there; typed = e; from = h.from; to = h.to }

pub named_picks : {s : List ℕ} {pick : List ℕ → Bool} {n i j type : ℕ} (h : Names s n type i j) → pick (record_at s h.place) ≡ true → Picks s pick n i j
named_picks h t = record { place = h.place; there = h.there; picked = t; from = h.from; to = h.to }

-- ---- THOSE OF A TYPE

module _ (s : List ℕ) (type n : ℕ) (kept : (p : ℕ) → p < n → type_at s p ≡ type → ArcKept type elements (record_at s p)) where
  keep : Keep s (is_of type) n
  keep p l t = arc_of refl (kept p l (eqb-true (type_at s p) type t))

  pub means : (p : ℕ) → p ≤ n → (i j : ℕ) → (after (arcs_up_to s type p) i j ≡ true) ↔ Names s p type i j
  means p l i j =
      let said = picks_said s (is_of type) p (λ q b. keep q (omega arith)) i j in (
        (λ t. let h = said.0 t in picks_named h (eqb-true (type_at s h.place) type h.picked)),
        (λ h. said.1 (named_picks h (eq-eqb (type_at s h.place) type h.typed))),
      )

  fits : RowsFit elements (arcs_up_to s type n)
  fits = picks_fit s (is_of type) n keep

-- ---- A FILE with no cause

module _ (s : List ℕ) (F : Faultless s) (type : ℕ) (some : 3 ≤ type) where
  -- each record of the type keeps the rules of arcs
  pub named_kept : (p : ℕ) → p < record_count s → type_at s p ≡ type → ArcKept type (activity_count s) (record_at s p)
  named_kept p l e =
      by_test (ltb (activity_count s) p)
      (λ t. arc_of e (arc_fine s F p (ltb-true (activity_count s) p t) l))
      (λ t. absurd (no_arc s (crew_fine s F).typed type p some (ltb-false (activity_count s) p t) e))

  pub within_elements : (p : ℕ) → p < record_count s → type_at s p ≡ type → ArcKept type elements (record_at s p)
  within_elements p l e = arc_among (omega (arith, few s F)) (named_kept p l e)

  pub all_named : (i j : ℕ) → (after (arc_rows s type) i j ≡ true) ↔ Names s (record_count s) type i j
  all_named = means s type (record_count s) within_elements (record_count s) (omega arith)

  pub rows_fit : RowsFit elements (arc_rows s type)
  rows_fit = fits s type (record_count s) within_elements

  -- ALL RECORDS: the rows hold what they name, and the ends are activities
  pub arcs_said : ArcsOf (Names s (record_count s) type) (activity_count s) (arc_rows s type)
  arcs_said =
      record {
        named = λ i j. (
          (λ d. (all_named i j).0 d.drawn),
          (λ n. let l = ends i j n in record { from = omega (arith, l.0, few s F); to = omega (arith, l.1, few s F); drawn = (all_named i j).1 n }),
        );
        within = ends;
      }
    where
      ends : (i j : ℕ) → Names s (record_count s) type i j → (i < activity_count s) × (j < activity_count s)
      ends i j n =
          let K = named_kept n.place n.there n.typed in
          (omega (arith, K.from_high, n.from), omega (arith, K.to_high, n.to))

  -- ROWS THAT HAVE WHAT THEY NAME are theirs
  pub rows_named : (b : List ℕ) → length b ≡ cells elements → RowsFit elements b → ((i j : ℕ) → Names s (record_count s) type i j ↔ (after b i j ≡ true)) → arc_rows s type ≡ b
  rows_named b long fit same =
      rows_same elements a b (length_arcs s type (record_count s)) long fa fit
      (λ i h. bit_ext elements (row a i) (row b i) (row_fit elements a fa i) (row_fit elements b fit i)
      (λ j l. test_same (after a i j) (after b i j) (Iff.trans (all_named i j) (same i j))))
    where
      a : List ℕ
      a = arc_rows s type

      fa : RowsFit elements a
      fa = rows_fit

-- FILES THAT NAME THE SAME ARCS HAVE THE SAME ROWS
pub arcs_same : (s t : List ℕ) → Faultless s → Faultless t → (type : ℕ) → 3 ≤ type
    → ((i j : ℕ) → Names s (record_count s) type i j ↔ Names t (record_count t) type i j) → arc_rows s type ≡ arc_rows t type
arcs_same s t F G type some same =
    rows_named s F type some (arc_rows t type) (length_arcs t type (record_count t)) (rows_fit t G type some) (λ i j. Iff.trans (same i j) (Iff.symm (all_named t G type some i j)))
