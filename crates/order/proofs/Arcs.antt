-- The rows of arcs in a list, and the list of arcs that rows draw. For any n.
use Rattle.std.proofs.Common.{◌≡◌, ℕ, zero, suc, ◌<◌, Bool, true, false, ◌⊎◌, ◌↔◌, List, [], ◌∷◌, sym, refl, ap, subst, ap₂, inl, inr, ⊎_elim, le_of_eq, le_of_suc-le-suc, eq-or-lt_of_le, arith}
use mathlib.Core.List.Memᴰ
use mathlib.Core.Logic.Iff
use Rattle.words.specs.Bits.{bit}
use Rattle.words.proofs.Tests.{clash}
use Rattle.order.specs.Arcs.{Within, Drawn, Arc, arc, In}
use Rattle.order.specs.Stored.{row}
use Rattle.order.specs.Rows.{after, Represents, rows_of, arcs_from, arcs_in}
use Rattle.order.proofs.Before.{before_same, in_none, in_cons}
use Rattle.order.proofs.Represents.{represents_same, empty_represents, grow_represents}

-- ---- the rows of a list of arcs represent their order

pub rows_represent : (n : ℕ) (arcs : List Arc) → Within n (In arcs) → Represents n (rows_of n arcs) (In arcs)
unfolding rows_of
rows_represent n [] w = represents_same (empty_represents n) (before_same (λ i j. Iff.symm (in_none i j)))
rows_represent n (a ∷ arcs) w =
    let h = w a.from a.to (Memᴰ.head refl) in
    represents_same
    (grow_represents n (rows_of n arcs) a.from a.to (rows_represent n arcs (λ i j m. w i j (Memᴰ.tail m))) h.0 h.1)
    (before_same (λ i j. Iff.symm (in_cons a arcs i j)))

-- ---- the arcs that rows draw

arcs_from_lem : (i w k : ℕ) (arcs : List Arc) (x y : ℕ) → In (arcs_from i w k arcs) x y ↔ (((x ≡ i) × (y < k) × (bit w y ≡ true)) ⊎ In arcs x y)
unfolding arcs_from
arcs_from_lem i w zero arcs x y = ((λ m. inr m), ⊎_elim (λ n. absurd (omega (arith, n.1))) (λ m. m))
arcs_from_lem i w (suc k) arcs x y = go (bit w k) refl (arcs_from_lem i w k arcs x y)
  where
    Here : ℕ → Type 0
    Here b = (x ≡ i) × (y < b) × (bit w y ≡ true)

    wider : Here k → Here (suc k)
    wider h = (h.0, omega (arith, h.1), h.2)

    is_from : arc x y ≡ arc i k → x ≡ i
    is_from e = ap (λ (b : Arc). b.from) e

    is_to : arc x y ≡ arc i k → y ≡ k
    is_to e = ap (λ (b : Arc). b.to) e

    narrower : (bit w k ≡ false) → Here (suc k) → Here k
    narrower e h = (h.0, at_or_less h.1 (λ q. clash (subst (λ (z : ℕ). bit w z ≡ true) q h.2) e), h.2)
      where
        at_or_less : y < suc k → (y ≡ k → y < k) → y < k
        at_or_less l f = ⊎_elim f (λ m. m) (eq-or-lt_of_le (le_of_suc-le-suc l))

    go : (b : Bool) → bit w k ≡ b → In (arcs_from i w k arcs) x y ↔ (Here k ⊎ In arcs x y)
        → In (elim b [ true ↦ arc i k ∷ arcs_from i w k arcs | false ↦ arcs_from i w k arcs ]) x y ↔ (Here (suc k) ⊎ In arcs x y)
    go true e f = (
      (λ m. ⊎_elim (λ q. inl (is_from q, le_of_eq (ap suc (is_to q)), subst (λ (z : ℕ). bit w z ≡ true) (sym (is_to q)) e)) (λ r. ⊎_elim (λ h. inl (wider h)) (λ q. inr q) (f.0 r)) (Memᴰ.cases_cons m)),
      ⊎_elim
          (λ h. ⊎_elim (λ q. Memᴰ.head (ap₂ arc h.0 q)) (λ l. Memᴰ.tail (f.1 (inl (h.0, l, h.2)))) (eq-or-lt_of_le (le_of_suc-le-suc h.1)))
          (λ m. Memᴰ.tail (f.1 (inr m))),
    )
    go false e f = (
      (λ m. ⊎_elim (λ h. inl (wider h)) (λ q. inr q) (f.0 m)),
      ⊎_elim (λ h. f.1 (inl (narrower e h))) (λ m. f.1 (inr m)),
    )

arcs_in_lem : (n : ℕ) (rows : List ℕ) (k x y : ℕ) → In (arcs_in n rows k) x y ↔ ((x < k) × (y < n) × (after rows x y ≡ true))
unfolding arcs_in
arcs_in_lem n rows zero x y = ((λ m. absurd (Memᴰ.not-nil m)), (λ h. absurd (omega (arith, h.0))))
arcs_in_lem n rows (suc k) x y = (
  (λ m. ⊎_elim here (λ q. let h = (arcs_in_lem n rows k x y).0 q in (omega (arith, h.0), h.1, h.2)) ((arcs_from_lem k (row rows k) n (arcs_in n rows k) x y).0 m)),
  (λ h. (arcs_from_lem k (row rows k) n (arcs_in n rows k) x y).1 (⊎_elim (λ q. inl (q, h.1, subst (λ (z : ℕ). after rows z y ≡ true) q h.2)) (λ l. inr ((arcs_in_lem n rows k x y).1 (l, h.1, h.2))) (eq-or-lt_of_le (le_of_suc-le-suc h.0)))),
)
  where
    here : (x ≡ k) × (y < n) × (bit (row rows k) y ≡ true) → (x < suc k) × (y < n) × (after rows x y ≡ true)
    here h = (le_of_eq (ap suc h.0), h.1, subst (λ (z : ℕ). after rows z y ≡ true) (sym h.0) h.2)

-- the list has the arcs that the rows draw, and no other
pub arcs_drawn : (n : ℕ) (rows : List ℕ) (i j : ℕ) → In (arcs_in n rows n) i j ↔ Drawn n (after rows) i j
arcs_drawn n rows i j = (
  (λ m. let h = (arcs_in_lem n rows n i j).0 m in record { from = h.0; to = h.1; drawn = h.2 }),
  (λ d. (arcs_in_lem n rows n i j).1 (d.from, d.to, d.drawn)),
)
