-- What passes from node to node: the units of each pair, its mark, and what the solver says.
use mathlib.Core.Path.{◌≡◌, refl, sym, ap, ◌∙◌, fun_ext}
use mathlib.Core.Bool.{Bool, true, false, not, cond, ◌&&◌}
use mathlib.Core.List.{List, []}
use mathlib.Core.Logic.{⊎_elim, ◌↔◌}
use Prim.Native.Nat.{ℕ, zero, suc, ◌+◌, ◌-◌, ◌*◌, ◌≤◌, ◌<◌}
use lib.ListN.{length, get_or, take, drop}
use lib.Seq.{drop-drop}
use Rattle.std.specs.Simd.{first_chunks}
use Rattle.std.specs.Prelude.{sum}
use Rattle.words.specs.Sums
use Rattle.words.proofs.Sums.{sum_cong, sum_listed}
use Rattle.std.proofs.lemmas.List.{length-take, length-take-le, length-drop, get_or-take, get_or-drop}
use native.Mathlib.Omega.{arith}
use lib.Dec.{ltb}
use Rattle.std.specs.Int.{from_bool}
use borrow.Author.Tests.{lt-ltb, le-ltb, eq-eqb, ltb-true}
use Rattle.words.proofs.Tests.{holds, fails, and_left, and_right, cond_true, cond_false, cond_has, cond_least, cond_reached}
use Rattle.order.specs.Stored.{elements}
use Rattle.order.specs.Orders.{is_before, after_rows}
use Rattle.order.specs.Rows.{after}
use Rattle.order.specs.declared.Order.{Order}
use Rattle.order.proofs.Orders.{after_rows_lem}
use Rattle.flow_math.specs.Handover.{row, col}
use Rattle.solver.specs.model.Network.{handed}
use Rattle.solver.specs.model.Quote.{quote_of, flow_of}
use Rattle.solver.specs.Sound.{asked}
use Rattle.solver.specs.declared.Quoted.{Quoted}
use Rattle.kinds.specs.Needs.{demands_for}
use Rattle.kinds.specs.Flows.{units, mark_of, kind_units}

-- ---- the units of each pair

module _ (m : ℕ) (demand flow : List ℕ) (spare : ℕ) where
  pub start_end : (j : ℕ) → j ≡ m → spare ≡ units m demand flow spare 0 (suc j)
  unfolding units
  start_end j e = rw (le-ltb j m (omega arith), eq-eqb j m e) (omega arith)

  pub start_to : (j : ℕ) → j < m → asked demand j - col m (handed flow) j ≡ units m demand flow spare 0 (suc j)
  unfolding units
  start_to j l = rw (lt-ltb j m l)

  pub element_end : (i j : ℕ) → i < m → j ≡ m → asked demand i - row m (handed flow) i ≡ units m demand flow spare (suc i) (suc j)
  unfolding units
  element_end i j l e = rw (lt-ltb i m l, le-ltb j m (omega arith), eq-eqb j m e)

  pub element_to : (i j : ℕ) → i < m → j < m → handed flow i j ≡ units m demand flow spare (suc i) (suc j)
  unfolding units
  element_to i j l k = rw (lt-ltb i m l, lt-ltb j m k)

-- ---- where the table has what i hands over to j: in row i as a slice, and in the list of its rows

row_place : (flow : List ℕ) (i j n : ℕ) → j < n → get_or (take n (drop (i * elements) flow)) j 0 ≡ handed flow i j
row_place flow i j n l = get_or-take n (drop (i * elements) flow) j 0 l ∙ get_or-drop (i * elements) flow j 0

pub row_sum : (flow : List ℕ) (i m n : ℕ) → m ≡ n → i * elements + m ≤ length flow
    → sum (take n (drop (i * elements) flow)) ≡ row m (handed flow) i
unfolding row
row_sum flow i m n e l =
    let from = drop (i * elements) flow in
    let long : length (take n from) ≡ m =
    length-take-le n from (omega (arith, length-drop (i * elements) flow)) ∙ sym e in
    sum_listed (take n from)
    ∙ ap (λ (k : ℕ). Sums.sum k (λ j. get_or (take n from) j 0)) long
    ∙ sum_cong m (λ j. get_or (take n from) j 0) (λ j. handed flow i j) (λ j h. row_place flow i j n (omega arith))

row_at : (n i : ℕ) (xs : List ℕ) → i < n
    → get_or (first_chunks elements n xs) i [] ≡ take elements (drop (i * elements) xs)
row_at zero i xs l = absurd (omega arith)
row_at (suc n) zero xs l = refl
row_at (suc n) (suc i) xs l =
    let e : elements + i * elements ≡ suc i * elements = omega arith in
    row_at n i (drop elements xs) (omega arith)
    ∙ ap (take elements) (drop-drop (i * elements) elements xs ∙ ap (λ (x : ℕ). drop x xs) e)

pub col_place : (flow : List ℕ) (i j m n : ℕ) {rows : List (List ℕ)}
    → rows ≡ first_chunks elements n flow → length rows ≡ n
    → i < length (take m rows) → j < elements → (get_or (get_or (take m rows) i []) j 0 ≡ handed flow i j) × (i < m)
col_place flow i j m n {rows} e s l h =
    let long = length-take m rows in
    let at =
    get_or-take m rows i [] (omega arith)
    ∙ ap (λ (x : List (List ℕ)). get_or x i []) e
    ∙ row_at n i flow (omega arith) in
    (ap (λ (x : List ℕ). get_or x j 0) at ∙ row_place flow i j elements h, omega arith)

-- ---- the mark of a pair

module _ (b : ℕ → ℕ → Bool) (m : ℕ) where
  pub mark_told : (i from j : ℕ) {t : Bool} → suc i ≡ from → from ≤ m → j < m → t ≡ b i j
      → from_bool (not t) ≡ mark_of b m from (suc j)
  mark_told i from j {t} e h l w = rw (← e, lt-ltb i m (omega arith), lt-ltb j m l, ← w) (go t)
    where
      go : (t : Bool) → from_bool (not t) ≡ cond t 0 1
      go true = refl
      go false = refl

  pub mark_most : (u v : ℕ) → mark_of b m u v ≤ 1
  mark_most zero v = omega arith
  mark_most (suc i) zero = omega arith
  mark_most (suc i) (suc j) = cond_least (ltb i m && ltb j m) (cond (b i j) 0 1) 1 (λ _. cond_has (λ x. x ≤ 1) (b i j) 0 1 (λ _. omega arith) (λ _. omega arith))

  mark_at : (i j : ℕ) → i < m → j < m → cond (b i j) 0 1 ≡ mark_of b m (suc i) (suc j)
  mark_at i j k l = rw (lt-ltb i m k, lt-ltb j m l)

  -- WHAT IT SAYS, where the test is one of a relation R: 1 exactly where both ends are elements that are not in the relation, and of elements 0 only where they are
  module _ {R : ℕ → ℕ → Type 0} (means : (i j : ℕ) → (b i j ≡ true) ↔ R i j) (i j : ℕ) where
    pub mark_one : (mark_of b m (suc i) (suc j) ≡ 1) ↔ ((i < m) × (j < m) × (R i j → ⊥))
    mark_one = (
      (λ e.
          ⊎_elim (λ z. absurd (omega (arith, e, z)))
          (λ p.
          let k : i < m = ltb-true i m (and_left (ltb i m) (ltb j m) p.0) in
          let l : j < m = ltb-true j m (and_right (ltb i m) (ltb j m) p.0) in
          (k, l, λ r. omega (arith, e, mark_at i j k l, cond_true {A = ℕ} 0 1 ((means i j).1 r))))
          (cond_reached (ltb i m && ltb j m) (cond (b i j) 0 1))),
      (λ h. sym (mark_at i j h.0 h.1) ∙ cond_false 0 1 (fails (b i j) (λ t. h.2 ((means i j).0 t)))),
    )

    pub mark_zero : i < m → j < m → mark_of b m (suc i) (suc j) ≡ 0 → R i j
    mark_zero k l e = (means i j).0 (holds (b i j) (λ f. omega (arith, e, mark_at i j k l, cond_false {A = ℕ} 0 1 f)))

-- by the rows of an order it is the mark by the order
pub mark_rows : (o : Order) (m : ℕ) {rows : List ℕ} → rows ≡ after_rows o → mark_of (after rows) m ≡ mark_of (is_before o) m
mark_rows o m e = rw e (ap (λ (b : ℕ → ℕ → Bool). mark_of b m) (fun_ext (λ i. fun_ext (λ j. after_rows_lem o i j))))

-- ---- what the solver says of kind k: the demands, the quote and the flow as code has them are those of the definitions

module _ (m : ℕ) (o : Order) (demand : List ℕ) (k : ℕ) (own flow : List ℕ) (q : Quoted)
    (e : own ≡ demands_for demand k) (p : q ≡ quote_of m o own) (w : flow ≡ flow_of m o own) where
  pub solved_need : q.need ≡ (quote_of m o (demands_for demand k)).need
  solved_need = ap (λ (x : Quoted). x.need) p ∙ ap (λ (x : List ℕ). (quote_of m o x).need) e

  solved_flow : flow ≡ flow_of m o (demands_for demand k)
  solved_flow = w ∙ ap (flow_of m o) e

  pub solved_units : (available : ℕ) → units m own flow (available - q.need) ≡ kind_units o demand k available m
  solved_units available =
      ap (λ (x : List ℕ). units m x flow (available - q.need)) e
      ∙ ap (λ (x : List ℕ). units m (demands_for demand k) x (available - q.need)) solved_flow
      ∙ ap (λ (x : ℕ). units m (demands_for demand k) (flow_of m o (demands_for demand k)) (available - x)) solved_need
