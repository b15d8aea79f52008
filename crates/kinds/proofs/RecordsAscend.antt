-- The records of a flow: each is one of a pair of nodes, with its units and its mark, and they ascend by from, then to.
use mathlib.Core.Path.{◌≡◌, sym, ap, subst, ◌∙◌}
use mathlib.Core.Logic.{◌⊎◌, inl, inr}
use mathlib.Core.Bool.{cond}
use mathlib.Core.List.{List, ◌++◌}
use Prim.Native.Nat.{ℕ, zero, suc, ◌+◌, ◌*◌, ◌-◌, ◌^◌, ◌≤◌, ◌<◌}
use native.Mathlib.Omega.{arith}
use lib.Dec.{ltb, eqb}
use lib.ListN.{length, length-append, get_or-append}
use lib.Seq.{get_or-append-add, drop_at}
use borrow.Author.Tests.{ltb-true, ltb-false, eqb-false}
use Rattle.words.specs.Sums.{sum}
use Rattle.words.proofs.Tests.{by_test}
use Rattle.records.specs.Bytes.{byte, field}
use Rattle.records.specs.Records.{flow_record, from_of, to_of, units_of, added_of, joined}
use Rattle.records.proofs.Fields.{field_drop, field_append}
use Rattle.records.proofs.Records.{flow_length_lem, flow_from, flow_to, flow_units_lem, flow_mark_lem}
use Rattle.kinds.specs.Flows.{pair_bytes, row_bytes, flow_bytes, pairs_from, pairs_of}

abbrev pub Less : ℕ → ℕ → ℕ → ℕ → Type 0
Less a b c d = (a < c) ⊎ ((a ≡ c) × (b < d))

-- of record i: P holds of its ends, its units and its mark
abbrev pub Says : (ℕ → ℕ → ℕ → ℕ → Type 0) → List ℕ → ℕ → Type 0
Says P l i = P (from_of l i) (to_of l i) (units_of l i) (added_of l i)

-- c records one after another, of each of which P holds, ascending
pub record Run (P : ℕ → ℕ → ℕ → ℕ → Type 0) (l : List ℕ) (c : ℕ) : Type 0 where
  pub long : length l ≡ 24 * c
  pub are : (i : ℕ) → i < c → Says P l i
  pub ascends : (i j : ℕ) → i < j → j < c → Less (from_of l i) (to_of l i) (from_of l j) (to_of l j)

said_same : (P : ℕ → ℕ → ℕ → ℕ → Type 0) {a b x y a' b' x' y' : ℕ} → a ≡ a' → b ≡ b' → x ≡ x' → y ≡ y' → P a b x y → P a' b' x' y'
said_same P p q u v h = rw (← p, ← q, ← u, ← v) h

module _ (l r : List ℕ) (c : ℕ) (long : length l ≡ 24 * c) where
  left : (i k : ℕ) → i < c → k < 24 → byte l (24 * i + k) ≡ byte (l ++ r) (24 * i + k)
  left i k h s = sym (get_or-append l r 0 (24 * i + k) (omega arith))

  right : (i k : ℕ) → c ≤ i → byte r (24 * (i - c) + k) ≡ byte (l ++ r) (24 * i + k)
  right i k h =
      let e : length l + (24 * (i - c) + k) ≡ 24 * i + k = omega arith in
      sym (get_or-append-add l r (24 * (i - c) + k) 0) ∙ ap (byte (l ++ r)) e

  units_right : (i : ℕ) → c ≤ i → units_of r (i - c) ≡ units_of (l ++ r) i
  units_right i h =
      let e : 24 * c + (24 * (i - c) + 4) ≡ 24 * i + 4 = omega arith in
      ap (λ (x : List ℕ). field x (24 * (i - c) + 4) 4) (sym (drop_at l r (24 * c) long))
      ∙ field_drop (24 * c) (l ++ r) (24 * (i - c) + 4) 4
      ∙ ap (λ (x : ℕ). field (l ++ r) x 4) e

  -- what holds of a record holds whatever stands behind it, or before it
  in_front : (P : ℕ → ℕ → ℕ → ℕ → Type 0) (i : ℕ) → i < c → Says P l i → Says P (l ++ r) i
  in_front P i h =
      said_same P (left i 2 h (omega arith)) (left i 3 h (omega arith)) (sym (field_append l r (24 * i + 4) 4 (omega arith))) (left i 8 h (omega arith))

  behind : (P : ℕ → ℕ → ℕ → ℕ → Type 0) (i : ℕ) → c ≤ i → Says P r (i - c) → Says P (l ++ r) i
  behind P i h = said_same P (right i 2 h) (right i 3 h) (units_right i h) (right i 8 h)

run_append : (P : ℕ → ℕ → ℕ → ℕ → Type 0) (l r : List ℕ) (c d : ℕ) → Run P l c → Run P r d
    → ((i j : ℕ) → i < c → j < d → Less (from_of l i) (to_of l i) (from_of r j) (to_of r j)) → Run P (l ++ r) (c + d)
run_append P l r c d p q between =
    record {
      long = length-append l r ∙ omega (arith, p.long, q.long);
      are = λ i h.
          by_test (ltb i c)
          (λ t. in_front l r c p.long P i (ltb-true i c t) (p.are i (ltb-true i c t)))
          (λ t. behind l r c p.long P i (ltb-false i c t) (q.are (i - c) (omega (arith, ltb-false i c t))));
      ascends = λ i j h s.
          by_test (ltb j c)
          (λ t.
          let in-l : j < c = ltb-true j c t in
          front j (λ a b. Less (from_of (l ++ r) i) (to_of (l ++ r) i) a b) in-l
          (front i (λ a b. Less a b (from_of l j) (to_of l j)) (omega arith) (p.ascends i j h in-l)))
          (λ t.
          let in-r : c ≤ j = ltb-false j c t in
          back j (λ a b. Less (from_of (l ++ r) i) (to_of (l ++ r) i) a b) in-r
          (by_test (ltb i c)
          (λ u. front i (λ a b. Less a b (from_of r (j - c)) (to_of r (j - c))) (ltb-true i c u) (between i (j - c) (ltb-true i c u) (omega arith)))
          (λ u.
          let i-in-r : c ≤ i = ltb-false i c u in
          back i (λ a b. Less a b (from_of r (j - c)) (to_of r (j - c))) i-in-r (q.ascends (i - c) (j - c) (omega arith) (omega arith)))));
    }
  where
    front : (i : ℕ) (R : ℕ → ℕ → Type 0) → i < c → R (from_of l i) (to_of l i) → R (from_of (l ++ r) i) (to_of (l ++ r) i)
    front i R = in_front l r c p.long (λ a b x y. R a b) i

    back : (i : ℕ) (R : ℕ → ℕ → Type 0) → c ≤ i → R (from_of r (i - c)) (to_of r (i - c)) → R (from_of (l ++ r) i) (to_of (l ++ r) i)
    back i R = behind l r c p.long (λ a b x y. R a b) i

run_weaker : (P Q : ℕ → ℕ → ℕ → ℕ → Type 0) (l : List ℕ) (c : ℕ) → ((a b x y : ℕ) → P a b x y → Q a b x y) → Run P l c → Run Q l c
run_weaker P Q l c h p = record { long = p.long; are = λ i s. h (from_of l i) (to_of l i) (units_of l i) (added_of l i) (p.are i s); ascends = p.ascends }

-- runs that are joined: of the k-th Q k holds, of those before it P k
run_joined : (P Q : ℕ → ℕ → ℕ → ℕ → ℕ → Type 0) (f : ℕ → List ℕ) (c : ℕ → ℕ) → ((k : ℕ) → Run (Q k) (f k) (c k))
    → ((k a b x y : ℕ) → P k a b x y → P (suc k) a b x y) → ((k a b x y : ℕ) → Q k a b x y → P (suc k) a b x y)
    → ((k a b x y u v z w : ℕ) → P k a b x y → Q k u v z w → Less a b u v) → (n : ℕ) → Run (P n) (joined f n) (sum n c)
unfolding joined sum
run_joined P Q f c each more last before zero = record { long = omega arith; are = λ i h. absurd (omega arith); ascends = λ i j h s. absurd (omega arith) }
run_joined P Q f c each more last before (suc n) =
    let p : Run (P n) (joined f n) (sum n c) = run_joined P Q f c each more last before n in
    let q : Run (Q n) (f n) (c n) = each n in
    let F = joined f n in
    run_append (P (suc n)) F (f n) (sum n c) (c n)
    (run_weaker (P n) (P (suc n)) F (sum n c) (more n) p)
    (run_weaker (Q n) (P (suc n)) (f n) (c n) (last n) q)
    (λ i j h s. before n (from_of F i) (to_of F i) (units_of F i) (added_of F i) (from_of (f n) j) (to_of (f n) j) (units_of (f n) j) (added_of (f n) j) (p.are i h) (q.are j s))

-- what a record says of the pair from u to v, of units g and marks: it passes units, which are the record's where they fit four bytes; and its mark is the pair's
pub record Given (g mark : ℕ → ℕ → ℕ) (u v x y : ℕ) : Type 0 where
  pub some : 0 < g u v
  pub units : g u v < 256 ^ 4 → x ≡ g u v
  pub added : y ≡ mark u v

module _ (kind : ℕ) (g mark : ℕ → ℕ → ℕ) where
  one_record : (u v : ℕ) → 0 < g u v → Run (λ a b x y. (a ≡ u) × (b ≡ v) × Given g mark u v x y) (flow_record kind u v (g u v) (mark u v)) 1
  one_record u v h =
      record {
        long = flow_length_lem kind u v (g u v) (mark u v);
        are = says;
        ascends = λ i j h s. absurd (omega arith);
      }
    where
      r : List ℕ
      r = flow_record kind u v (g u v) (mark u v)

      says : (i : ℕ) → i < 1 → Says (λ a b x y. (a ≡ u) × (b ≡ v) × Given g mark u v x y) r i
      says zero l = (
        flow_from kind u v (g u v) (mark u v),
        flow_to kind u v (g u v) (mark u v),
        record { some = h; units = flow_units_lem kind u v (g u v) (mark u v); added = flow_mark_lem kind u v (g u v) (mark u v) },
      )
      says (suc i) l = absurd (omega arith)

  run_pair : (u v : ℕ) → Run (λ a b x y. (a ≡ u) × (b ≡ v) × Given g mark u v x y) (pair_bytes kind g mark u v) (cond (eqb (g u v) 0) 0 1)
  unfolding pair_bytes
  run_pair u v =
      by_test (eqb (g u v) 0)
      (λ t. rw t (record { long = omega arith; are = λ i h. absurd (omega arith); ascends = λ i j h s. absurd (omega arith) }))
      (λ t. rw t (one_record u v (omega (arith, eqb-false (g u v) 0 t))))

  run_row : (n u : ℕ) → Run (λ a b x y. (a ≡ u) × (b < n) × Given g mark u b x y) (row_bytes kind g mark n u) (pairs_from g n u)
  unfolding row_bytes pairs_from
  run_row n u =
      run_joined (λ k a b x y. (a ≡ u) × (b < k) × Given g mark u b x y) (λ k a b x y. (a ≡ u) × (b ≡ k) × Given g mark u k x y) (pair_bytes kind g mark u)
      (λ v. cond (eqb (g u v) 0) 0 1) (run_pair u)
      (λ k a b x y p. (p.0, omega (arith, p.1), p.2))
      (λ k a b x y p. (p.0, omega (arith, p.1), subst (λ v. Given g mark u v x y) (sym p.1) p.2))
      (λ k a b x y c d z w p q. inr (p.0 ∙ sym q.0, omega (arith, p.1, q.1))) n

  -- each record is that of a pair of nodes
  pub run_flow : (n : ℕ) → Run (λ a b x y. (a < n) × (b < n) × Given g mark a b x y) (flow_bytes kind g mark n) (pairs_of g n)
  unfolding flow_bytes pairs_of
  run_flow n =
      run_joined (λ k a b x y. (a < k) × (b < n) × Given g mark a b x y) (λ k a b x y. (a ≡ k) × (b < n) × Given g mark k b x y) (row_bytes kind g mark n) (pairs_from g n) (run_row n)
      (λ k a b x y p. (omega (arith, p.0), p.1, p.2))
      (λ k a b x y p. (omega (arith, p.0), p.1, subst (λ u. Given g mark u b x y) (sym p.0) p.2))
      (λ k a b x y u v z w p q. inl (omega (arith, p.0, q.0))) n

  -- whatever stands behind them,
  pub flow_ends : (n : ℕ) (rest : List ℕ) (i : ℕ) → i < pairs_of g n → Says (λ a b x y. (a < n) × (b < n) × Given g mark a b x y) (flow_bytes kind g mark n ++ rest) i
  flow_ends n rest i h =
      in_front (flow_bytes kind g mark n) rest (pairs_of g n) (run_flow n).long (λ a b x y. (a < n) × (b < n) × Given g mark a b x y) i h ((run_flow n).are i h)

  -- and they ascend by from, then to
  pub flow_ascends : (n : ℕ) (rest : List ℕ) (i j : ℕ) → i < j → j < pairs_of g n
      → let F = flow_bytes kind g mark n ++ rest in Less (from_of F i) (to_of F i) (from_of F j) (to_of F j)
  flow_ascends n rest i j h s =
      let F : List ℕ = flow_bytes kind g mark n in
      let r = run_flow n in
      let at : (R : ℕ → ℕ → Type 0) (i : ℕ) → i < pairs_of g n → R (from_of F i) (to_of F i) → R (from_of (F ++ rest) i) (to_of (F ++ rest) i) =
      λ R. in_front F rest (pairs_of g n) r.long (λ a b x y. R a b) in
      at (λ a b. Less a b (from_of (F ++ rest) j) (to_of (F ++ rest) j)) i (omega arith) (at (λ a b. Less (from_of F i) (to_of F i) a b) j s (r.ascends i j h s))
