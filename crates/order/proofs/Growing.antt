-- Rows that are extended by further arcs, each that they do not hold yet: they represent the order of all
-- the arcs together. For any n.
use Rattle.std.proofs.Common.{◌≡◌, ℕ, zero, suc, ◌-◌, ◌^◌, ◌<◌, ◌≤◌, Bool, true, false, cond, not, ◌&&◌, eqb, ◌↔◌, List, length, sym, refl, ap, ◌∙◌, subst, inl, inr, ⊎_elim, le_of_suc-le-suc, eq-or-lt_of_le, arith}
use mathlib.Core.Bool.{and-true}
use mathlib.Core.Logic.Iff
use lib.Bits.{bit_and}
use Rattle.words.specs.Bits.{bit, minus, rest}
use Rattle.words.specs.Members.{first}
use Rattle.words.specs.model.Loops.{each, upto}
use Rattle.words.proofs.Tests.{clash, fails, by_test, and_both, and_right, or_left, or_right, false_of_not, eqb_says, cond_true, cond_false, cond_has}
use Rattle.words.proofs.Bits.{bit_zero, bit_and_lem, bit_minus}
use Rattle.words.proofs.Members.{low_member, bit_rest}
use Rattle.words.proofs.Loops.{each_more, each_upto}
use Rattle.words.proofs.Kept.{each_keeps, upto_keeps}
use Rattle.order.specs.Before.{Before, Joined}
use Rattle.order.specs.Arcs.{With, Drawn}
use Rattle.order.specs.Stored.{cells, row, RowsFit}
use Rattle.order.specs.Rows.{after, Represents, grow}
use Rattle.order.specs.model.Growing.{grown, grow_from, grow_by}
use Rattle.order.proofs.Before.{before_same, before_implied}
use Rattle.order.proofs.Represents.{represents_same, after_grow, grow_long, grow_fit, grow_represents}

-- ---- the arcs that the rows do not hold yet

-- no member of w is held from x yet
abbrev pub Fresh : ℕ → List ℕ → ℕ → Type 0
Fresh x rows w = (j : ℕ) → bit w j ≡ true → after rows x j ≡ false

fresh_rest : (x : ℕ) (rows : List ℕ) (w : ℕ) {v : ℕ} → v ≡ minus w (row rows x) → Fresh x rows v
fresh_rest x rows w e j t = false_of_not (after rows x j) (and_right (bit w j) (not (after rows x j)) (sym (bit_minus w (row rows x) j) ∙ ap (λ (u : ℕ). bit u j) (sym e) ∙ t))

module _ (n : ℕ) where
  -- ---- one arc: to add one that is held already would change nothing

  grown_represents : (rows : List ℕ) {A : ℕ → ℕ → Type 0} (x y : ℕ) → Represents n rows A → x < n → y < n → Represents n (grown n x rows y) (With A x y)
  grown_represents rows {A} x y r hx hy =
      cond_has (λ l. Represents n l (With A x y)) (after rows x y) rows (grow n rows x y)
      (λ e. represents_same r (λ i j. Iff.symm (before_implied (held e) i j)))
      (λ e. grow_represents n rows x y r hx hy)
    where
      held : after rows x y ≡ true → (i j : ℕ) → (i ≡ x) × (j ≡ y) → Before A i j
      held e i j q = rw (q.0, q.1) ((r.means x y).0 e)

  -- ---- the arcs from x to the members of w below k

  abbrev From : ℕ → ℕ → ℕ → ℕ → ℕ → Type 0
  From x w k i j = (i ≡ x) × (j < k) × (bit w j ≡ true)

  wider : (x w k i j : ℕ) → From x w k i j → From x w (suc k) i j
  wider x w k i j f = (f.0, omega (arith, f.1), f.2)

  module _ (A : ℕ → ℕ → Type 0) (x w k : ℕ) where
    from_in : bit w k ≡ true → (i j : ℕ) → With (Joined A (From x w k)) x k i j ↔ Joined A (From x w (suc k)) i j
    from_in e i j = (
      ⊎_elim (⊎_elim inl (λ f. inr (wider x w k i j f))) (λ q. inr (q.0, omega (arith, q.1), rw q.1 e)),
      ⊎_elim (λ a. inl (inl a)) (λ f. ⊎_elim (λ q. inr (f.0, q)) (λ l. inl (inr (f.0, l, f.2))) (eq-or-lt_of_le (le_of_suc-le-suc f.1))),
    )

    from_out : bit w k ≡ false → (i j : ℕ) → Joined A (From x w k) i j ↔ Joined A (From x w (suc k)) i j
    from_out e i j = (
      ⊎_elim inl (λ f. inr (wider x w k i j f)),
      ⊎_elim inl (λ f. ⊎_elim (λ q. clash (subst (λ (z : ℕ). bit w z ≡ true) q f.2) e) (λ l. inr (f.0, l, f.2)) (eq-or-lt_of_le (le_of_suc-le-suc f.1))),
    )

  from_none : (A : ℕ → ℕ → Type 0) (x w i j : ℕ) → A i j ↔ Joined A (From x w 0) i j
  from_none A x w i j = (inl, ⊎_elim (λ a. a) (λ f. absurd (omega (arith, f.1))))

  grow_from_lem : (rows : List ℕ) {A : ℕ → ℕ → Type 0} (x w : ℕ) → Represents n rows A → x < n → Represents n (grow_from n rows x w) (Joined A (From x w n))
  unfolding grow_from upto
  grow_from_lem rows {A} x w r hx =
      subst (λ (l : List ℕ). Represents n l (Joined A (From x w n))) (sym (each_upto n (grown n x) rows w)) (steps n (omega arith))
    where
      step : ℕ → List ℕ → List ℕ
      step i l = cond (bit w i) (grown n x l i) l

      steps : (k : ℕ) → k ≤ n → Represents n (upto step k rows) (Joined A (From x w k))
      steps zero h = represents_same r (before_same (from_none A x w))
      steps (suc k) h =
          let done = upto step k rows in
          cond_has (λ l. Represents n l (Joined A (From x w (suc k)))) (bit w k) (grown n x done k) done
          (λ e. represents_same (grown_represents done x k (steps k (omega arith)) hx (omega arith)) (before_same (from_in A x w k e)))
          (λ e. represents_same (steps k (omega arith)) (before_same (from_out A x w k e)))

  -- they stay a table of n sets
  pub from_keeps : (rows : List ℕ) (x w : ℕ) → (length rows ≡ cells n) × RowsFit n rows → (length (grow_from n rows x w) ≡ cells n) × RowsFit n (grow_from n rows x w)
  unfolding grow_from
  from_keeps rows x w = each_keeps Table n (grown n x) w (λ l y h e t. cond_has Table (after l x y) l (grow n l x y) (λ _. t) (λ _. (grow_long n l x y, grow_fit n l x y t.1 h))) rows
    where
      Table : List ℕ → Type 0
      Table l = (length l ≡ cells n) × RowsFit n l

  -- ---- what is held is passed over

  module _ (x : ℕ) (hx : x < n) where
    abbrev step : ℕ → ℕ → List ℕ → List ℕ
    step w i rows = cond (bit w i) (grown n x rows i) rows

    still : (w i : ℕ) (rows : List ℕ) → after rows x i ≡ true → step w i rows ≡ rows
    still w i rows e = cond_has (λ l. l ≡ rows) (bit w i) (grown n x rows i) rows (λ t. cond_true rows (grow n rows x i) e) (λ t. refl)

    -- what is held stays held
    kept : (w j k : ℕ) (rows : List ℕ) → after rows x j ≡ true → after (upto (step w) k rows) x j ≡ true
    kept w j k rows = upto_keeps Held (step w) k (λ i l h e. cond_has Held (bit w i) (grown n x l i) l (λ t. grows l i e) (λ t. e)) rows
      where
        Held : List ℕ → Type 0
        Held l = after l x j ≡ true

        grows : (l : List ℕ) (i : ℕ) → Held l → Held (grown n x l i)
        grows l i e = cond_has Held (after l x i) l (grow n l x i) (λ t. e) (λ t. after_grow n l x i x j hx ∙ or_left (after l x j) _ e)

    -- two sets that differ only in members that are held already come to the same
    each_new : (v w : ℕ) (rows : List ℕ) → ((i : ℕ) → after rows x i ≡ false → bit v i ≡ bit w i) → each n (grown n x) rows v ≡ each n (grown n x) rows w
    unfolding upto
    each_new v w rows same = each_upto n (grown n x) rows v ∙ go n ∙ sym (each_upto n (grown n x) rows w)
      where
        go : (k : ℕ) → upto (step v) k rows ≡ upto (step w) k rows
        go zero = refl
        go (suc k) =
            by_test (after rows x k)
            (λ e. still v k (upto (step v) k rows) (kept v k k rows e) ∙ go k ∙ sym (still w k (upto (step w) k rows) (kept w k k rows e)))
            (λ e. ap (step v k) (go k) ∙ ap (λ (t : Bool). cond t (grown n x (upto (step w) k rows) k) (upto (step w) k rows)) (same k e))

    added : (rows : List ℕ) (j : ℕ) → after (grow n rows x j) x j ≡ true
    added rows j =
        after_grow n rows x j x j hx
        ∙ or_right (after rows x j) _ (and_both _ _ (or_left (eqb x x) (after rows x x) ((eqb_says x x).1 refl)) (or_right (after rows j j) (eqb j j) ((eqb_says j j).1 refl)))

    listed : (w j : ℕ) → (w ≡ 0 → ⊥) → w < 2 ^ n → j ≡ first n (bit w) → bit w j ≡ true
    listed w j some fit q = rw q (low_member n w (omega arith) fit)

    -- What a loop asks whose invariant is `(each n (grown n x) rows w ≡ r) × Fresh x rows w`, with r the run from the start and w as its measure: it
    -- begins with what is not held, and each turn adds the arc to the lowest member and takes off what is held then.
    pub fresh_start : (rows : List ℕ) (w : ℕ) {v : ℕ} → v ≡ minus w (row rows x) → (each n (grown n x) rows v ≡ grow_from n rows x w) × Fresh x rows v
    unfolding grow_from
    fresh_start rows w {v} e = (
      each_new v w rows (λ i h. ap (λ (u : ℕ). bit u i) e ∙ bit_minus w (row rows x) i ∙ ap (λ (t : Bool). bit w i && not t) h ∙ and-true (bit w i)),
      fresh_rest x rows w e,
    )

    pub fresh_again : (rows : List ℕ) (w j : ℕ) {v : ℕ} {rows' r : List ℕ} → (w ≡ 0 → ⊥) → w < 2 ^ n → (each n (grown n x) rows w ≡ r) × Fresh x rows w
        → j ≡ first n (bit w) → rows' ≡ grow n rows x j → v ≡ minus w (row rows' x) → (each n (grown n x) rows' v ≡ r) × Fresh x rows' v
    fresh_again rows w j {v} {rows'} some fit i q g e = (
      each_new v (rest w) rows' same ∙ ap (λ (l : List ℕ). each n (grown n x) l (rest w)) turn ∙ sym (each_more n (grown n x) rows w (omega arith) fit) ∙ i.0,
      fresh_rest x rows' w e,
    )
      where
        turn : rows' ≡ grown n x rows (first n (bit w))
        turn = g ∙ sym (cond_false rows (grow n rows x j) (i.1 j (listed w j some fit q))) ∙ ap (grown n x rows) q

        other : (k : ℕ) → after rows' x k ≡ false → eqb k (first n (bit w)) ≡ false
        other k h = fails (eqb k (first n (bit w))) (λ t. clash (rw ((eqb_says k (first n (bit w))).0 t, ← q, g) (added rows j)) h)

        same : (k : ℕ) → after rows' x k ≡ false → bit v k ≡ bit (rest w) k
        same k h =
            ap (λ (u : ℕ). bit u k) e ∙ bit_minus w (row rows' x) k ∙ ap (λ (t : Bool). bit w k && not t) (h ∙ sym (other k h)) ∙ sym (bit_rest n w k fit)

    pub fresh_less : (rows : List ℕ) (w j : ℕ) {v : ℕ} {rows' : List ℕ} → (w ≡ 0 → ⊥) → w < 2 ^ n
        → j ≡ first n (bit w) → rows' ≡ grow n rows x j → v ≡ minus w (row rows' x) → v < w
    fresh_less rows w j {rows' = rows'} some fit q g e = omega (arith, taken)
      where
        held : bit (bit_and w (row rows' x)) j ≡ true
        held = bit_and_lem w (row rows' x) j ∙ and_both (bit w j) (after rows' x j) (listed w j some fit q) (rw g (added rows j))

        taken : bit_and w (row rows' x) ≡ 0 → ⊥
        taken z = clash held (ap (λ (u : ℕ). bit u j) z ∙ bit_zero j)

  -- ---- the arcs of the first k rows

  module _ (arcs : List ℕ) where
    abbrev First : ℕ → ℕ → ℕ → Type 0
    First k i j = (i < k) × (j < n) × (after arcs i j ≡ true)

    first_more : (A : ℕ → ℕ → Type 0) (k i j : ℕ) → Joined (Joined A (From k (row arcs k) n)) (First k) i j ↔ Joined A (First (suc k)) i j
    first_more A k i j = (
      ⊎_elim (⊎_elim inl (λ f. inr (omega (arith, f.0), f.1, rw f.0 f.2))) (λ d. inr (omega (arith, d.0), d.1, d.2)),
      ⊎_elim (λ a. inl (inl a)) (λ d. ⊎_elim (λ q. inl (inr (q, d.1, subst (λ (z : ℕ). after arcs z j ≡ true) q d.2))) (λ l. inr (l, d.1, d.2)) (eq-or-lt_of_le (le_of_suc-le-suc d.0))),
    )

    grow_by_lem : (k : ℕ) → k ≤ n → (rows : List ℕ) {A : ℕ → ℕ → Type 0} → Represents n rows A → Represents n (grow_by n arcs k rows) (Joined A (First k))
    unfolding grow_by
    grow_by_lem zero h rows r = represents_same r (before_same (λ i j. (inl, ⊎_elim (λ a. a) (λ d. absurd (omega (arith, d.0))))))
    grow_by_lem (suc k) h rows {A} r =
        represents_same (grow_by_lem k (omega arith) (grow_from n rows k (row arcs k)) (grow_from_lem rows k (row arcs k) r (omega arith))) (before_same (first_more A k))

    -- What the loop asks whose invariant is `grow_by n arcs k rows ≡ r`, with r the run from the start and k as its measure.
    pub grow_again : (k : ℕ) (rows : List ℕ) {rows' r : List ℕ} → 0 < k → grow_by n arcs k rows ≡ r → rows' ≡ grow_from n rows (k - 1) (row arcs (k - 1)) → grow_by n arcs (k - 1) rows' ≡ r
    unfolding grow_by
    grow_again k rows h run e =
        let q : suc (k - 1) ≡ k = omega arith in
        ap (grow_by n arcs (k - 1)) e ∙ ap (λ (m : ℕ). grow_by n arcs m rows) q ∙ run

    pub grow_end : (k : ℕ) (rows : List ℕ) {r : List ℕ} → k ≡ 0 → grow_by n arcs k rows ≡ r → rows ≡ r
    unfolding grow_by
    grow_end k rows z run = ap (λ (m : ℕ). grow_by n arcs m rows) (sym z) ∙ run

    -- all of them
    pub grown_by : (rows : List ℕ) {A : ℕ → ℕ → Type 0} → Represents n rows A → Represents n (grow_by n arcs n rows) (Joined A (Drawn n (after arcs)))
    grown_by rows {A} r = represents_same (grow_by_lem n (omega arith) rows r) (before_same all)
      where
        all : (i j : ℕ) → Joined A (First n) i j ↔ Joined A (Drawn n (after arcs)) i j
        all i j = (⊎_elim inl (λ d. inr (record { from = d.0; to = d.1; drawn = d.2 })), ⊎_elim inl (λ d. inr (d.from, d.to, d.drawn)))
