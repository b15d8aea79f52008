-- What both moves keep, the start and each round keep.
use Rattle.std.proofs.Common.{ℕ, ◌<◌, min, eqb, ltb, List, get_or, ltb-true, leb-false}
use Rattle.words.proofs.Kept.{each_keeps, run_keeps}
use Rattle.words.proofs.Tests.{cond_has}
use Rattle.order.specs.Stored.{elements, row as set_at}
use Rattle.solver.proofs.Digits.{masked}
use Rattle.solver.specs.model.Network.{Network, Walk, at_root, augmented, back, handing, joined, leaders, parent, rooted, shifted, source, walk}
use Rattle.solver.specs.model.Solve.{hand_over, hand_rank, next, rounded, settled, solved, sought, started}

module _ (P : Network → Type 0) (joins : (s : Network) (i j : ℕ) → i < elements → j < elements → P s → P (joined s i j))
    (shifts : (s : Network) (i k j : ℕ) → i < elements → k < elements → j < elements → P s → P (shifted s i k j)) where
  abbrev Walking : Walk → Type 0
  Walking w = P w.now × (w.at < elements)

  pub augmented_keeps : (lefts rights : List ℕ) (n : ℕ) (w : Walk) → P w.now → w.at < elements → P (augmented n lefts rights w)
  augmented_keeps lefts rights n w b h =
      run_keeps Walking P (rooted lefts rights) (at_root rights) (λ x. x.now) (back lefts rights)
      (λ x e p.
      let q = leb-false elements (parent lefts rights x) e in
      (shifts x.now (source rights x) (parent lefts rights x) x.at (masked (get_or rights x.at 0)) q p.1 p.0, q))
      (λ x e p. joins x.now (source rights x) x.at (masked (get_or rights x.at 0)) p.1 p.0)
      (λ x p. p.0)
      n w (b, h)

  pass_keeps : (s : Network) (i j : ℕ) → i < elements → j < elements → P s → P (handing i s j)
  unfolding handing
  pass_keeps s i j hi hj p = cond_has P (eqb (min (get_or s.left i 0) (get_or s.right j 0)) 0) s (joined s i j) (λ e. p) (λ e. joins s i j hi hj p)

  hand_keeps : (rows : List ℕ) (s : Network) (i : ℕ) → i < elements → P s → P (hand_over rows s i)
  hand_keeps rows s i h b = each_keeps P elements (handing i) (set_at rows i) (λ t j l e p. pass_keeps t i j h l p) s b

  pub started_keeps : (rows b : List ℕ) (s : Network) → P s → P (started rows b s)
  unfolding started
  started_keeps rows b s h =
      each_keeps P elements (hand_rank rows b) (leaders elements b)
      (λ t c l d p. each_keeps P elements (hand_over rows) (set_at b c) (λ u i x e q. hand_keeps rows u i x q) t p)
      s h

  pub rounded_keeps : (m : ℕ) (rows : List ℕ) (s : Network) → P s → P (rounded m rows s).now
  unfolding rounded
  rounded_keeps m rows s b =
      let q = sought m rows s in
      cond_has P (ltb q.search.at elements) (augmented elements q.lefts q.rights (walk s q.search.at)) s
      (λ e. augmented_keeps q.lefts q.rights elements (walk s q.search.at) b (ltb-true q.search.at elements e)) (λ e. b)

  pub solved_keeps : (m n : ℕ) (rows b : List ℕ) (s : Network) → P s → P (solved m n rows b s).now
  unfolding solved
  solved_keeps m n rows b s p =
      run_keeps (λ x. P x.now) (λ x. P x.now) settled (λ y. y) (λ y. y) (next m rows) (λ x e h. rounded_keeps m rows x.now h) (λ x e h. h) (λ x h. h)
      n (rounded m rows (started rows b s)) (rounded_keeps m rows (started rows b s) (started_keeps rows b s p))
