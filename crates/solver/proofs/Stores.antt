-- What a store does to a list, and to a sum over some of its places.
use Rattle.std.proofs.Common.{◌≡◌, ℕ, ◌+◌, ◌-◌, ◌<◌, ◌≤◌, cond, eqb, List, length, get_or, set, sym, ap, ◌∙◌, ⊎_elim, arith, get_or-set_other, get_or-set_same, eq-eqb, ne_eqb}
use Rattle.words.specs.Sums.{sum}
use Rattle.words.proofs.Sums.{sum_change, sum_cong}
use Rattle.words.proofs.Tests.{cond_false, cond_true, same_or_not}

-- d where p and q are the same, and else 0
unfoldable pub share : ℕ → ℕ → ℕ → ℕ
share p q d = cond (eqb p q) d 0

pub share_same : (p q d : ℕ) → p ≡ q → share p q d ≡ d
unfolding share
share_same p q d e = cond_true d 0 (eq-eqb p q e)

pub share_other : (p q d : ℕ) → (p ≡ q → ⊥) → share p q d ≡ 0
unfolding share
share_other p q d n = cond_false d 0 (ne_eqb p q n)

pub share_add : (p q a d : ℕ) → share p q (a + d) ≡ share p q a + share p q d
share_add p q a d =
    ⊎_elim
    (λ e. omega (arith, share_same p q (a + d) e, share_same p q a e, share_same p q d e))
    (λ n. omega (arith, share_other p q (a + d) n, share_other p q a n, share_other p q d n))
    (same_or_not p q)

pub share_sub : (p q a d : ℕ) → d ≤ a → share p q (a - d) + share p q d ≡ share p q a
share_sub p q a d l =
    ⊎_elim
    (λ e. omega (arith, share_same p q (a - d) e, share_same p q a e, share_same p q d e))
    (λ n. omega (arith, share_other p q (a - d) n, share_other p q a n, share_other p q d n))
    (same_or_not p q)

-- a store at j, seen at q
pub set_share : (r : List ℕ) (j q v : ℕ) → j < length r → get_or (set r j v) q 0 + share j q (get_or r j 0) ≡ get_or r q 0 + share j q v
set_share r j q v l =
    ⊎_elim
    (λ e.
    let here : get_or (set r j v) q 0 ≡ v = ap (λ (x : ℕ). get_or (set r j v) x 0) (sym e) ∙ get_or-set_same r j v 0 l in
    let old : get_or r j 0 ≡ get_or r q 0 = ap (λ (x : ℕ). get_or r x 0) e in
    omega (arith, here, old, share_same j q (get_or r j 0) e, share_same j q v e))
    (λ n. omega (arith, get_or-set_other r j q v 0 (λ e. n (sym e)), share_other j q (get_or r j 0) n, share_other j q v n))
    (same_or_not j q)

-- a store at p, seen by a sum over the places c 0, c 1, ..: at one of them, or at none
module _ (f : List ℕ) (p v : ℕ) (c : ℕ → ℕ) (n : ℕ) where
  pub sum_in : (k : ℕ) → k < n → c k ≡ p → p < length f → ((i : ℕ) → i < n → c i ≡ p → i ≡ k)
      → sum n (λ i. get_or (set f p v) (c i) 0) + get_or f p 0 ≡ sum n (λ i. get_or f (c i) 0) + v
  sum_in k l e m u =
      let s = sum_change n (λ i. get_or (set f p v) (c i) 0) (λ i. get_or f (c i) 0) k l (λ i b d. get_or-set_other f p (c i) v 0 (λ q. d (u i b q))) in
      let here : get_or (set f p v) (c k) 0 ≡ v = ap (λ (x : ℕ). get_or (set f p v) x 0) e ∙ get_or-set_same f p v 0 m in
      let old : get_or f (c k) 0 ≡ get_or f p 0 = ap (λ (x : ℕ). get_or f x 0) e in
      omega (arith, s, here, old)

  pub sum_out : ((i : ℕ) → i < n → c i ≡ p → ⊥) → sum n (λ i. get_or (set f p v) (c i) 0) ≡ sum n (λ i. get_or f (c i) 0)
  sum_out u = sum_cong n (λ i. get_or (set f p v) (c i) 0) (λ i. get_or f (c i) 0) (λ i b. get_or-set_other f p (c i) v 0 (u i b))
