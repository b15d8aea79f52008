-- The way back through the parents of a search: from a taker to the giver that led to it, and on to the
-- taker that this one gives to.
use Rattle.std.proofs.Common.{◌≡◌, ℕ, ◌%◌, ◌<◌, List, get_or, ap, ◌∙◌, ⊎_elim, mod-eq_of_lt, arith}
use Rattle.words.specs.Bits.{digit}
use Rattle.order.specs.Stored.{elements, row as set_at}
use Rattle.solver.specs.model.Search.{Reached}
use Rattle.solver.specs.model.Network.{Walk, parent, source}
use Rattle.solver.proofs.Digits.{masked}
use Rattle.solver.proofs.Tree.{Tree}

mask_same : (x : ℕ) → x < elements → x % elements ≡ x
mask_same x h = mod-eq_of_lt h

module _ (rows givers : List ℕ) (q : Reached) (t : Tree rows givers q) (w : Walk) (h : w.at < elements) (e : digit q.search.right w.at ≡ 1) where
  pub source_lt : source q.rights w < elements
  source_lt = masked (get_or q.rights w.at 0)

  pub source_is : source q.rights w ≡ get_or q.rights w.at 0
  source_is = mask_same (get_or q.rights w.at 0) (t.came w.at h e).0

  pub source_before : digit (set_at rows (source q.rights w)) w.at ≡ 1
  source_before = ap (λ (x : ℕ). digit (set_at rows x) w.at) source_is ∙ (t.came w.at h e).2

  pub source_seen : digit q.search.left (source q.rights w) ≡ 1
  source_seen = ap (digit q.search.left) source_is ∙ (t.came w.at h e).1

  pub parent_reached : parent q.lefts q.rights w < elements
      → (digit q.search.right (parent q.lefts q.rights w) ≡ 1) × (digit (set_at givers (parent q.lefts q.rights w)) (source q.rights w) ≡ 1)
  parent_reached l = ⊎_elim (λ x. absurd (omega arith)) (λ k. (k.1, k.2)) (t.led (source q.rights w) source_lt source_seen)
