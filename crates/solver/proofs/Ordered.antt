-- The solver hands over along the order alone.
use Rattle.std.proofs.Common.{◌≡◌, ℕ, ◌+◌, ◌-◌, ◌*◌, ◌<◌, ◌≤◌, min, eqb, ltb, ◌⊎◌, List, length, get_or, set, refl, ap, ◌∙◌, inl, inr, ⊎_elim, arith, length-set, get_or-set_other, get_or-set_same, ltb-true, leb-false}
use Rattle.words.specs.Bits.{digit}
use Rattle.words.proofs.Kept.{each_keeps, run_keeps}
use Rattle.words.proofs.Tests.{cond_has, same_or_not}
use Rattle.order.specs.Stored.{elements, row as set_at}
use Rattle.solver.specs.model.Search.{Reached}
use Rattle.solver.specs.model.Network.{at_root, augmented, back, cell, handing, joined, leaders, move, Network, parent, rooted, shifted, source, Walk, walk, wrap}
use Rattle.solver.specs.model.Solve.{hand_over, hand_rank, rounded, sought, started}
use Rattle.solver.proofs.Certificate.{Fit}
use Rattle.solver.proofs.Tree.{Tree}
use Rattle.solver.proofs.WayBack.{parent_reached, source_before, source_lt}
use Rattle.solver.proofs.Depth.{sought_depth}

module _ (rows : List ℕ) where
  pub record Ordered (s : Network) : Type 0 where
    pub wide : length s.flow ≡ (elements * elements)
    pub along : (p q : ℕ) → p < elements → q < elements → 0 < get_or s.flow (cell p q) 0 → digit (set_at rows p) q ≡ 1

  -- what i hands over to j becomes n, where i is before j, or n is no more than it was
  moved_ordered : (s : Network) (i j n : ℕ) → i < elements → j < elements → (digit (set_at rows i) j ≡ 1) ⊎ (n ≤ get_or s.flow (cell i j) 0) → Ordered s → Ordered (move s i j n)
  moved_ordered s i j n hi hj b o =
      record {
        wide = simp length-set o.wide;
        along = λ p q hp hq e.
            ⊎_elim
            (λ c.
            let z : (p ≡ i) × (q ≡ j) = (omega arith, omega arith) in
            let here : get_or (set s.flow (cell i j) n) (cell p q) 0 ≡ n =
            ap (λ (x : ℕ). get_or (set s.flow (cell i j) n) x 0) c ∙ get_or-set_same s.flow (cell i j) n 0 (omega (arith, o.wide)) in
            rw (z.0, z.1) (⊎_elim (λ y. y) (λ l. o.along i j hi hj (omega (arith, here))) b))
            (λ d. o.along p q hp hq (omega (arith, get_or-set_other s.flow (cell i j) (cell p q) n 0 d)))
            (same_or_not (cell p q) (cell i j));
      }

  same_flow : (s t : Network) → s.flow ≡ t.flow → Ordered s → Ordered t
  same_flow s t e o = record { wide = rw (← e) o.wide; along = rw (← e) o.along }

  pub joined_ordered : (s : Network) (i j : ℕ) → i < elements → j < elements → digit (set_at rows i) j ≡ 1 → Ordered s → Ordered (joined s i j)
  unfolding joined
  joined_ordered s i j hi hj b o =
      let n = wrap (get_or s.flow (cell i j) 0 + min (get_or s.left i 0) (get_or s.right j 0)) in
      same_flow (move s i j n) _ refl (moved_ordered s i j n hi hj (inl b) o)

  pub shifted_ordered : (s : Network) (i k j : ℕ) → i < elements → k < elements → j < elements → digit (set_at rows i) j ≡ 1 → Ordered s → Ordered (shifted s i k j)
  unfolding shifted
  shifted_ordered s i k j hi hk hj b o =
      let d = min (get_or s.right j 0) (get_or s.flow (cell i k) 0) in
      let m = get_or s.flow (cell i k) 0 - d in
      let s₁ = move s i k m in
      let n = wrap (get_or s₁.flow (cell i j) 0 + d) in
      same_flow (move s₁ i j n) _ refl (moved_ordered s₁ i j n hi hj (inl b) (moved_ordered s i k m hi hk (inr (omega arith)) o))

  pass_ordered : (s : Network) (i j : ℕ) → i < elements → j < elements → digit (set_at rows i) j ≡ 1 → Ordered s → Ordered (handing i s j)
  unfolding handing
  pass_ordered s i j hi hj b o = cond_has Ordered (eqb (min (get_or s.left i 0) (get_or s.right j 0)) 0) s (joined s i j) (λ e. o) (λ e. joined_ordered s i j hi hj b o)

  hand_ordered : (s : Network) (i : ℕ) → i < elements → Ordered s → Ordered (hand_over rows s i)
  hand_ordered s i h o = each_keeps Ordered elements (handing i) (set_at rows i) (λ t j l b p. pass_ordered t i j h l b p) s o

  pub started_ordered : (b : List ℕ) (s : Network) → Ordered s → Ordered (started rows b s)
  unfolding started
  started_ordered b s o =
      each_keeps Ordered elements (hand_rank rows b) (leaders elements b)
      (λ t c l d p. each_keeps Ordered elements (hand_over rows) (set_at b c) (λ u i x e q. hand_ordered u i x q) t p)
      s o

  module _ (givers : List ℕ) (q : Reached) (t : Tree rows givers q) where
    abbrev Walking : Walk → Type 0
    Walking w = Ordered w.now × (w.at < elements) × (digit q.search.right w.at ≡ 1)

    pub augmented_ordered : (n : ℕ) (s : Network) → q.search.at < elements → Ordered s → Ordered (augmented n q.lefts q.rights (walk s q.search.at))
    augmented_ordered n s h o =
        run_keeps Walking Ordered (rooted q.lefts q.rights) (at_root q.rights) (λ x. x.now) (back q.lefts q.rights)
        (λ w e p.
        let k = leb-false elements (parent q.lefts q.rights w) e in
        let l = source_lt rows givers q t w p.1 p.2 in
        let b = source_before rows givers q t w p.1 p.2 in (
          shifted_ordered w.now (source q.rights w) (parent q.lefts q.rights w) w.at l k p.1 b p.0,
          k,
          (parent_reached rows givers q t w p.1 p.2 k).0,
        ))
        (λ w e p.
        let l = source_lt rows givers q t w p.1 p.2 in
        let b = source_before rows givers q t w p.1 p.2 in
        joined_ordered w.now (source q.rights w) w.at l p.1 b p.0)
        (λ w p. p.0)
        n (walk s q.search.at) (o, h, t.goal h)

  pub rounded_ordered : (m : ℕ) → m ≤ elements → (s : Network) → Fit s.givers → Ordered s → Ordered (rounded m rows s).now
  unfolding rounded
  rounded_ordered m hm s fit o =
      let q = sought m rows s in
      cond_has Ordered (ltb q.search.at elements) (augmented elements q.lefts q.rights (walk s q.search.at)) s
      (λ e. augmented_ordered s.givers q (sought_depth m hm rows s fit).0 elements s (ltb-true q.search.at elements e) o) (λ e. o)
