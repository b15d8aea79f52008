-- Every move keeps the balance: what an element hands over and has left is its demand, and so for what
-- it takes over; no sum wraps.
use Rattle.std.proofs.Common.{◌≡◌, ℕ, ◌+◌, ◌-◌, ◌*◌, ◌<◌, ◌≤◌, min, List, length, get_or, set, sym, ap, ◌∙◌, ⊎_elim, mod-eq_of_lt, arith, length-set}
use Rattle.words.proofs.Sums.{sum_term}
use Rattle.words.proofs.Tests.{same_or_not}
use Rattle.order.specs.Stored.{elements}
use Rattle.flow_math.specs.Handover.{col, row}
use Rattle.solver.specs.model.Network.{Network, cell, handed, joined, shifted, wrap}
use Rattle.solver.proofs.Stores.{set_share, share, share_add, share_other, share_same, share_sub, sum_in, sum_out}

-- what a store to the flow does to a row and to a column
module _ (f : List ℕ) (i j v : ℕ) (hi : i < elements) (hj : j < elements) (len : length f ≡ (elements * elements)) where
  pub row_set : (p : ℕ) → p < elements → row elements (handed (set f (cell i j) v)) p + share i p (get_or f (cell i j) 0) ≡ row elements (handed f) p + share i p v
  unfolding row
  row_set p hp =
      ⊎_elim
      (λ e.
      let s = sum_in f (cell i j) v (λ y. cell p y) elements j hj (ap (λ (x : ℕ). cell x j) (sym e)) (omega arith) (λ y b q. omega arith) in
      omega (arith, s, share_same i p (get_or f (cell i j) 0) e, share_same i p v e))
      (λ n.
      let s = sum_out f (cell i j) v (λ y. cell p y) elements (λ y b q. n (omega arith)) in
      omega (arith, s, share_other i p (get_or f (cell i j) 0) n, share_other i p v n))
      (same_or_not i p)

  pub col_set : (q : ℕ) → q < elements → col elements (handed (set f (cell i j) v)) q + share j q (get_or f (cell i j) 0) ≡ col elements (handed f) q + share j q v
  unfolding col
  col_set q hq =
      ⊎_elim
      (λ e.
      let s = sum_in f (cell i j) v (λ x. cell x q) elements i hi (ap (cell i) (sym e)) (omega arith) (λ x b r. omega arith) in
      omega (arith, s, share_same j q (get_or f (cell i j) 0) e, share_same j q v e))
      (λ n.
      let s = sum_out f (cell i j) v (λ x. cell x q) elements (λ x b r. n (omega arith)) in
      omega (arith, s, share_other j q (get_or f (cell i j) 0) n, share_other j q v n))
      (same_or_not j q)

-- in balance with the demands d
pub record Balanced (d : ℕ → ℕ) (s : Network) : Type 0 where
  pub wide : length s.flow ≡ (elements * elements)
  pub lefts : length s.left ≡ elements
  pub rights : length s.right ≡ elements
  pub rows : (p : ℕ) → p < elements → row elements (handed s.flow) p + get_or s.left p 0 ≡ d p
  pub cols : (q : ℕ) → q < elements → col elements (handed s.flow) q + get_or s.right q 0 ≡ d q

no_wrap : (x : ℕ) → x ≤ 65535 → wrap x ≡ x
no_wrap x h = mod-eq_of_lt (omega arith)

module _ (d : ℕ → ℕ) (small : (p : ℕ) → p < elements → d p ≤ 65535) (s : Network) (b : Balanced d s) where
  flow_le : (i j : ℕ) → i < elements → j < elements → get_or s.flow (cell i j) 0 ≤ col elements (handed s.flow) j
  unfolding col
  flow_le i j hi hj = sum_term elements (λ x. get_or s.flow (cell x j) 0) i hi

  module _ (i j : ℕ) (hi : i < elements) (hj : j < elements) where
    abbrev joining : ℕ
    joining = min (get_or s.left i 0) (get_or s.right j 0)

    abbrev raised : ℕ
    raised = get_or s.flow (cell i j) 0 + joining

    join_plain : wrap raised ≡ raised
    join_plain = no_wrap raised (omega (arith, flow_le i j hi hj, b.cols j hj, small j hj))

    pub joined_balanced : Balanced d (joined s i j)
    unfolding joined
    joined_balanced =
        rw join_plain
        record {
          wide = simp length-set b.wide;
          lefts = simp length-set b.lefts;
          rights = simp length-set b.rights;
          rows = λ p hp.
              omega (
                arith,
                row_set s.flow i j raised hi hj b.wide p hp,
                share_add i p (get_or s.flow (cell i j) 0) joining,
                set_share s.left i p (get_or s.left i 0 - joining) (omega (arith, b.lefts)),
                share_sub i p (get_or s.left i 0) joining (omega arith),
                b.rows p hp,
              );
          cols = λ q hq.
              omega (
                arith,
                col_set s.flow i j raised hi hj b.wide q hq,
                share_add j q (get_or s.flow (cell i j) 0) joining,
                set_share s.right j q (get_or s.right j 0 - joining) (omega (arith, b.rights)),
                share_sub j q (get_or s.right j 0) joining (omega arith),
                b.cols q hq,
              );
        }

  module _ (i k j : ℕ) (hi : i < elements) (hk : k < elements) (hj : j < elements) where
    abbrev pub moving : ℕ
    moving = min (get_or s.right j 0) (get_or s.flow (cell i k) 0)

    abbrev pub lowered : List ℕ
    lowered = set s.flow (cell i k) (get_or s.flow (cell i k) 0 - moving)

    abbrev pub spent : List ℕ
    spent = set s.right j (get_or s.right j 0 - moving)

    lowered_wide : length lowered ≡ (elements * elements)
    lowered_wide = length-set s.flow (cell i k) (get_or s.flow (cell i k) 0 - moving) ∙ b.wide

    pub spent_wide : length spent ≡ elements
    spent_wide = length-set s.right j (get_or s.right j 0 - moving) ∙ b.rights

    lowered_col : (q : ℕ) → q < elements → col elements (handed lowered) q + share k q moving ≡ col elements (handed s.flow) q
    lowered_col q hq =
        omega (
          arith,
          col_set s.flow i k (get_or s.flow (cell i k) 0 - moving) hi hk b.wide q hq,
          share_sub k q (get_or s.flow (cell i k) 0) moving (omega arith),
        )

    lowered_row : (p : ℕ) → p < elements → row elements (handed lowered) p + share i p moving ≡ row elements (handed s.flow) p
    lowered_row p hp =
        omega (
          arith,
          row_set s.flow i k (get_or s.flow (cell i k) 0 - moving) hi hk b.wide p hp,
          share_sub i p (get_or s.flow (cell i k) 0) moving (omega arith),
        )

    spent_at : (q : ℕ) → get_or spent q 0 + share j q moving ≡ get_or s.right q 0
    spent_at q =
        omega (
          arith,
          set_share s.right j q (get_or s.right j 0 - moving) (omega (arith, b.rights)),
          share_sub j q (get_or s.right j 0) moving (omega arith),
        )

    flow_plain : wrap (get_or lowered (cell i j) 0 + moving) ≡ get_or lowered (cell i j) 0 + moving
    unfolding col
    flow_plain =
        no_wrap (get_or lowered (cell i j) 0 + moving)
        (omega (arith, sum_term elements (λ x. get_or lowered (cell x j) 0) i hi, lowered_col j hj, b.cols j hj, small j hj))

    pub slack_plain : wrap (get_or spent k 0 + moving) ≡ get_or spent k 0 + moving
    slack_plain = no_wrap (get_or spent k 0 + moving) (omega (arith, spent_at k, flow_le i k hi hk, b.cols k hk, small k hk))

    pub shifted_balanced : Balanced d (shifted s i k j)
    unfolding shifted
    shifted_balanced =
        rw (flow_plain, slack_plain)
        record {
          wide = simp length-set b.wide;
          lefts = b.lefts;
          rights = simp length-set b.rights;
          rows = λ p hp.
              omega (
                arith,
                lowered_row p hp,
                row_set lowered i j (get_or lowered (cell i j) 0 + moving) hi hj lowered_wide p hp,
                share_add i p (get_or lowered (cell i j) 0) moving,
                b.rows p hp,
              );
          cols = λ q hq.
              omega (
                arith,
                lowered_col q hq,
                col_set lowered i j (get_or lowered (cell i j) 0 + moving) hi hj lowered_wide q hq,
                share_add j q (get_or lowered (cell i j) 0) moving,
                spent_at q,
                set_share spent k q (get_or spent k 0 + moving) (omega (arith, spent_wide)),
                share_add k q (get_or spent k 0) moving,
                b.cols q hq,
              );
        }
