-- The words of givers say where there is flow, and every move keeps that.
use Rattle.std.proofs.Common.{◌≡◌, ℕ, ◌+◌, ◌-◌, ◌*◌, ◌^◌, ◌<◌, min, List, length, get_or, set, sym, ap, ◌∙◌, ⊎_elim, arith, length-set, get_or-set_other, get_or-set_same, eq-eqb, ne_eqb}
use Rattle.words.specs.Bits.{digit, minus, with_bit}
use Rattle.words.proofs.Bits.{digit_lt, digit_minus, digit_other, digit_self, with_lt, with_there, with_other}
use Rattle.words.proofs.Tests.{cond_false, cond_true, same_or_not}
use Rattle.order.proofs.Stored.{in_bound, to_bound, row_put_same, row_put_other, length_put}
use Rattle.order.specs.Stored.{bound, elements, row as set_at, put_row, cells}
use Rattle.solver.specs.model.Network.{Network, cell, giver, joined, move, shifted, to_left, to_right, wrap}

-- ---- the word with a member, or without it

module _ (w i n : ℕ) where
  as_none : n ≡ 0 → giver w i n ≡ minus w (2 ^ i)
  unfolding giver
  as_none z = cond_true (minus w (2 ^ i)) (with_bit w i) (eq-eqb n 0 z)

  as_some : (n ≡ 0 → ⊥) → giver w i n ≡ with_bit w i
  unfolding giver
  as_some z = cond_false (minus w (2 ^ i)) (with_bit w i) (ne_eqb n 0 z)

  pub giver_lt : i < elements → w < bound → giver w i n < bound
  giver_lt h l = ⊎_elim (λ z. omega (arith, as_none z)) (λ z. omega (arith, as_some z, to_bound (with_lt w i elements h (in_bound l)))) (same_or_not n 0)

  pub giver_gone : n ≡ 0 → digit (giver w i n) i ≡ 0
  giver_gone z = omega (arith, ap (λ (x : ℕ). digit x i) (as_none z), digit_minus w (2 ^ i) i, digit_self i, digit_lt w i)

  pub giver_there : (n ≡ 0 → ⊥) → digit (giver w i n) i ≡ 1
  giver_there z = ap (λ (x : ℕ). digit x i) (as_some z) ∙ with_there w i

  pub giver_other : (x : ℕ) → (x ≡ i → ⊥) → digit (giver w i n) x ≡ digit w x
  giver_other x d =
      ⊎_elim
      (λ z. omega (arith, ap (λ (y : ℕ). digit y x) (as_none z), digit_minus w (2 ^ i) x, digit_other i x d))
      (λ z. ap (λ (y : ℕ). digit y x) (as_some z) ∙ with_other w i x d)
      (same_or_not n 0)

-- ---- the words of givers

-- the word of the givers of j has the member i where i gives to j, and only there
abbrev pub Says : List ℕ → List ℕ → ℕ → ℕ → Type 0
Says f g i j = (digit (set_at g j) i ≡ 1 → 0 < get_or f (cell i j) 0) × (0 < get_or f (cell i j) 0 → digit (set_at g j) i ≡ 1)

pub record Linked (s : Network) : Type 0 where
  pub wide : length s.flow ≡ (elements * elements)
  pub long : length s.givers ≡ cells elements
  pub fit : (q : ℕ) → set_at s.givers q < bound
  pub says : (p q : ℕ) → p < elements → q < elements → Says s.flow s.givers p q

says_same : (f f' g g' : List ℕ) (p q : ℕ) → get_or f' (cell p q) 0 ≡ get_or f (cell p q) 0 → digit (set_at g' q) p ≡ digit (set_at g q) p → Says f g p q → Says f' g' p q
says_same f f' g g' p q e b h = (λ x. omega (arith, h.0 (sym b ∙ x)), λ x. b ∙ h.1 (omega arith))

module _ (s : Network) (l : Linked s) (i j n : ℕ) (hi : i < elements) (hj : j < elements) where
  abbrev f' : List ℕ
  f' = set s.flow (cell i j) n

  abbrev g' : List ℕ
  g' = put_row s.givers j (giver (set_at s.givers j) i n)

  flow_here : get_or f' (cell i j) 0 ≡ n
  flow_here = get_or-set_same s.flow (cell i j) n 0 (omega (arith, l.wide))

  word_here : set_at g' j ≡ giver (set_at s.givers j) i n
  word_here = row_put_same elements s.givers j (giver (set_at s.givers j) i n) l.long hj

  says_here : Says f' g' i j
  says_here =
      ⊎_elim
      (λ z. (λ x. absurd (omega (arith, ap (λ (y : ℕ). digit y i) word_here, giver_gone (set_at s.givers j) i n z)), λ x. absurd (omega (arith, flow_here))))
      (λ z. (λ x. omega (arith, flow_here), λ x. ap (λ (y : ℕ). digit y i) word_here ∙ giver_there (set_at s.givers j) i n z))
      (same_or_not n 0)

  says_column : (p : ℕ) → p < elements → (p ≡ i → ⊥) → Says f' g' p j
  says_column p hp d =
      says_same s.flow f' s.givers g' p j (get_or-set_other s.flow (cell i j) (cell p j) n 0 (λ e. d (omega arith)))
      (ap (λ (y : ℕ). digit y p) word_here ∙ giver_other (set_at s.givers j) i n p d) (l.says p j hp hj)

  says_else : (p q : ℕ) → p < elements → q < elements → (q ≡ j → ⊥) → Says f' g' p q
  says_else p q hp hq d =
      says_same s.flow f' s.givers g' p q (get_or-set_other s.flow (cell i j) (cell p q) n 0 (λ e. d (omega arith)))
      (ap (λ (y : ℕ). digit y p) (row_put_other s.givers j q (giver (set_at s.givers j) i n) d)) (l.says p q hp hq)

  says_all : (p q : ℕ) → p < elements → q < elements → Says f' g' p q
  says_all p q hp hq =
      ⊎_elim
      (λ e. rw e (⊎_elim (λ c. rw c says_here) (λ d. says_column p hp d) (same_or_not p i)))
      (λ d. says_else p q hp hq d)
      (same_or_not q j)

  fit_all : (q : ℕ) → set_at g' q < bound
  fit_all q =
      ⊎_elim
      (λ e. omega (arith, ap (λ (x : ℕ). set_at g' x) e, word_here, giver_lt (set_at s.givers j) i n hi (l.fit j)))
      (λ d. omega (arith, row_put_other s.givers j q (giver (set_at s.givers j) i n) d, l.fit q))
      (same_or_not q j)

  pub moved_linked : Linked (move s i j n)
  moved_linked = record { wide = simp length-set l.wide; long = length_put s.givers j (giver (set_at s.givers j) i n) ∙ l.long; fit = fit_all; says = says_all }

right_linked : (s : Network) (j n : ℕ) → Linked s → Linked (to_right s j n)
right_linked s j n l = record { wide = l.wide; long = l.long; fit = l.fit; says = l.says }

left_linked : (s : Network) (i n : ℕ) → Linked s → Linked (to_left s i n)
left_linked s i n l = record { wide = l.wide; long = l.long; fit = l.fit; says = l.says }

pub joined_linked : (s : Network) (i j : ℕ) → i < elements → j < elements → Linked s → Linked (joined s i j)
unfolding joined
joined_linked s i j hi hj l =
    let d = min (get_or s.left i 0) (get_or s.right j 0) in
    let n = wrap (get_or s.flow (cell i j) 0 + d) in
    let s₁ = move s i j n in
    let s₂ = to_left s₁ i (get_or s₁.left i 0 - d) in
    right_linked s₂ j (get_or s₂.right j 0 - d) (left_linked s₁ i (get_or s₁.left i 0 - d) (moved_linked s l i j n hi hj))

pub shifted_linked : (s : Network) (i k j : ℕ) → i < elements → k < elements → j < elements → Linked s → Linked (shifted s i k j)
unfolding shifted
shifted_linked s i k j hi hk hj l =
    let d = min (get_or s.right j 0) (get_or s.flow (cell i k) 0) in
    let m = get_or s.flow (cell i k) 0 - d in
    let s₁ = move s i k m in
    let n = wrap (get_or s₁.flow (cell i j) 0 + d) in
    let s₂ = move s₁ i j n in
    let s₃ = to_right s₂ j (get_or s₂.right j 0 - d) in
    right_linked s₃ k (wrap (get_or s₃.right k 0 + d)) (right_linked s₂ j (get_or s₂.right j 0 - d) (moved_linked s₁ (moved_linked s l i k m hi hk) i j n hi hj))
