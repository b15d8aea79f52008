-- How many records stand in the lent bytes as they are written, and that there is room for one more.
use mathlib.Core.Path.{◌≡◌, refl, sym, ap, ◌∙◌, subst}
use mathlib.Core.Bool.{cond}
use mathlib.Core.List.{List, ◌++◌}
use Prim.Native.Nat.{ℕ, zero, suc, ◌+◌, ◌*◌, ◌≤◌, ◌<◌}
use native.Mathlib.Omega.{arith}
use lib.Dec.{eqb}
use lib.ListN.{length, take, drop}
use borrow.Author.Tests.{eq-eqb, ne_eqb, eqb-true, eqb-false}
use Rattle.words.specs.model.Loops.{upto}
use Rattle.words.specs.Sums.{sum}
use Rattle.words.proofs.Sums.{sum_first, sum_part, sum_step}
use Rattle.words.proofs.Loops.{up_again, up_end}
use Rattle.words.proofs.Tests.{by_test, cond_true, cond_false}
use Rattle.records.specs.Records.{flow_record}
use Rattle.records.proofs.Records.{flow_length_lem}
use Rattle.records.proofs.Steps.{length_written_at}
use Rattle.kinds.specs.Flows.{pairs_from, pairs_of}
use Rattle.kinds.specs.model.Writing.{Room, Lent, lent, appended, put_pair, put_row, put_flow}

-- ---- one pair

-- the records that a pair takes
abbrev one : ℕ → ℕ
one x = cond (eqb x 0) 0 1

one_some : (x : ℕ) → 0 < x → one x ≡ 1
one_some x h = cond_false 0 1 (ne_eqb x 0 (omega arith))

-- a record that is written changes no length
record_length : (kind u v x mark n : ℕ) (out now : List ℕ) → Room (n + 1) out
    → now ≡ take (24 * n) out ++ flow_record kind u v x mark ++ drop (24 * n + 24) out → length now ≡ length out
record_length kind u v x mark n out now h e =
    let l : length (flow_record kind u v x mark) ≡ 24 = flow_length_lem kind u v x mark in
    let w : 24 * n + length (flow_record kind u v x mark) ≤ length out = omega (arith, h.fits) in
    ap length (e ∙ ap (λ (k : ℕ). take (24 * n) out ++ flow_record kind u v x mark ++ drop (24 * n + k) out) (sym l))
    ∙ length_written_at (24 * n) (flow_record kind u v x mark) out w

module _ (kind u v x mark : ℕ) where
  pub pair_none : (l : Lent) → x ≡ 0 → put_pair kind u v x mark l ≡ l
  unfolding put_pair
  pair_none l e = cond_true l (appended l (flow_record kind u v x mark)) (eq-eqb x 0 e)

  pub pair_some : (l : Lent) → 0 < x → put_pair kind u v x mark l ≡ appended l (flow_record kind u v x mark)
  unfolding put_pair
  pair_some l h = cond_false l (appended l (flow_record kind u v x mark)) (ne_eqb x 0 (omega arith))

  -- the record is written by bytes a and b that are the nodes
  pub pair_put : (n a b : ℕ) (out now : List ℕ) → 0 < x → a ≡ u → b ≡ v
      → now ≡ take (24 * n) out ++ flow_record kind a b x mark ++ drop (24 * n + 24) out → lent (n + 1) now ≡ put_pair kind u v x mark (lent n out)
  pair_put n a b out now h p q e =
      ap (lent (n + 1)) (rw (p, q) at e) ∙ sym (pair_some (lent n out) h)

-- ---- how far a writing has come: at most k records more than l has, in as many bytes

record More (k : ℕ) (l s : Lent) : Type 0 where
  counts : s.count ≤ l.count + k
  long : length s.out ≡ length l.out

more_le : (k n : ℕ) (l s : Lent) → k ≤ n → More k l s → More n l s
more_le k n l s h a = record { counts = omega (arith, a.counts); long = a.long }

room_le : (k n : ℕ) (out : List ℕ) → k ≤ n → Room n out → Room k out
room_le k n out h r = record { few = omega (arith, r.few); fits = omega (arith, r.fits) }

room_more : (k n i : ℕ) (l s : Lent) → More k l s → i + k ≤ n → Room (l.count + n) l.out → Room (s.count + i) s.out
room_more k n i l s a h r =
    record { few = omega (arith, r.few, a.counts); fits = omega (arith, r.fits, a.counts, a.long) }

-- a loop whose step j takes at most c j records, where there is room for that
module _ (step : ℕ → Lent → Lent) (c : ℕ → ℕ) (n : ℕ) (l : Lent)
    (takes : (j : ℕ) (s : Lent) → j < n → Room (s.count + c j) s.out → More (c j) s (step j s)) (room : Room (l.count + sum n c) l.out) where
  loop_more : (j : ℕ) → j ≤ n → More (sum j c) l (upto step j l)
  unfolding upto sum
  loop_more zero h = record { counts = omega arith; long = refl }
  loop_more (suc j) h = go (upto step j l) (loop_more j (omega arith))
    where
      go : (s : Lent) → More (sum j c) l s → More (sum j c + c j) l (step j s)
      go s a =
          let b = takes j s h (room_more (sum j c) (sum n c) (c j) l s a (omega (arith, sum_step j n c h)) room) in
          record { counts = omega (arith, a.counts, b.counts); long = b.long ∙ a.long }

  loop_room : (j : ℕ) → j < n → Room ((upto step j l).count + c j) (upto step j l).out
  loop_room j h =
      room_more (sum j c) (sum n c) (c j) l (upto step j l) (loop_more j (omega arith)) (omega (arith, sum_step j n c h)) room

-- ---- a pair takes its one record

pair_more : (kind u v x mark : ℕ) (l : Lent) → Room (l.count + one x) l.out → More (one x) l (put_pair kind u v x mark l)
pair_more kind u v x mark l h =
    by_test (eqb x 0)
    (λ t.
    subst (More (one x) l) (sym (pair_none kind u v x mark l (eqb-true x 0 t))) (record { counts = omega arith; long = refl }))
    (λ t.
    let f : x ≡ 0 → ⊥ = eqb-false x 0 t in
    let p : 0 < x = omega (arith, f) in
    let r : Room (l.count + 1) l.out = room_le (l.count + 1) (l.count + one x) l.out (omega (arith, one_some x p)) h in
    subst (More (one x) l) (sym (pair_some kind u v x mark l p))
    (record {
      counts = omega (arith, one_some x p);
      long = record_length kind u v x mark l.count l.out (appended l (flow_record kind u v x mark)).out r refl;
    }))

-- ---- the pairs from node u

abbrev pub pair_step : ℕ → (ℕ → ℕ → ℕ) → (ℕ → ℕ → ℕ) → ℕ → ℕ → Lent → Lent
pair_step kind g mark u j l = put_pair kind u (suc j) (g u (suc j)) (mark u (suc j)) l

module _ (kind : ℕ) (g mark : ℕ → ℕ → ℕ) (m u : ℕ) where
  abbrev at : ℕ → ℕ
  at j = one (g u (suc j))

  pairs_le : sum (m + 1) at ≤ pairs_from g (m + 2) u
  unfolding pairs_from
  pairs_le =
      let e : m + 2 ≡ suc (m + 1) = omega arith in
      rw e (omega (arith, sum_first (m + 1) (λ v. one (g u v))))

  takes : (j : ℕ) (s : Lent) → j < m + 1 → Room (s.count + at j) s.out → More (at j) s (pair_step kind g mark u j s)
  takes j s h r = pair_more kind u (suc j) (g u (suc j)) (mark u (suc j)) s r

  fewer : (l : Lent) → Room (l.count + pairs_from g (m + 2) u) l.out → Room (l.count + sum (m + 1) at) l.out
  fewer l r = room_le (l.count + sum (m + 1) at) (l.count + pairs_from g (m + 2) u) l.out (omega (arith, pairs_le)) r

  row_more : (l : Lent) → Room (l.count + pairs_from g (m + 2) u) l.out → More (pairs_from g (m + 2) u) l (put_row kind g mark m u l)
  unfolding put_row
  row_more l r =
      more_le (sum (m + 1) at) (pairs_from g (m + 2) u) l (upto (pair_step kind g mark u) (m + 1) l) pairs_le
      (loop_more (pair_step kind g mark u) at (m + 1) l takes (fewer l r) (m + 1) (omega arith))

  -- after j pairs: room for the next, and as many bytes as before
  pub pair_room : (n j count x : ℕ) (out now : List ℕ) → Room (n + pairs_from g (m + 2) u) out → j < m + 1
      → lent count now ≡ upto (pair_step kind g mark u) j (lent n out) → x ≡ g u (suc j) → 0 < x → Room (count + 1) now
  pair_room n j count x out now r h e q p =
      let a : Room (count + at j) now =
      subst (λ (s : Lent). Room (s.count + at j) s.out) (sym e)
      (loop_room (pair_step kind g mark u) at (m + 1) (lent n out) takes (fewer (lent n out) r) j h) in
      room_le (count + 1) (count + at j) now (omega (arith, one_some (g u (suc j)) (omega arith))) a

  pub pairs_length : (n j count : ℕ) (out now : List ℕ) → Room (n + pairs_from g (m + 2) u) out → j ≤ m + 1
      → lent count now ≡ upto (pair_step kind g mark u) j (lent n out) → length now ≡ length out
  pairs_length n j count out now r h e =
      ap (λ (s : Lent). length s.out) e
      ∙ (loop_more (pair_step kind g mark u) at (m + 1) (lent n out) takes (fewer (lent n out) r) j h).long

  -- one pair more
  pub pair_next : (n j count to x k c : ℕ) (out now then : List ℕ) → j < m + 1
      → (lent count now ≡ upto (pair_step kind g mark u) j (lent n out)) × (j ≤ m + 1) → to ≡ suc j → x ≡ g u (suc j) → k ≡ mark u (suc j)
      → lent c then ≡ put_pair kind u to x k (lent count now)
      → (lent c then ≡ upto (pair_step kind g mark u) (j + 1) (lent n out)) × (j + 1 ≤ m + 1)
  pair_next n j count to x k c out now then h i p q w e =
      up_again (pair_step kind g mark u) (m + 1) j (lent n out) h i (rw (p, q, w) at e)

  pub pairs_end : (n j count : ℕ) (out now : List ℕ) → m + 1 ≤ j
      → (lent count now ≡ upto (pair_step kind g mark u) j (lent n out)) × (j ≤ m + 1) → lent count now ≡ put_row kind g mark m u (lent n out)
  unfolding put_row
  pairs_end n j count out now h i = up_end (pair_step kind g mark u) (m + 1) j (lent n out) h i

-- ---- the rows

module _ (kind : ℕ) (g mark : ℕ → ℕ → ℕ) (m : ℕ) where
  abbrev of : ℕ → ℕ
  of u = pairs_from g (m + 2) u

  rows_le : sum (m + 1) of ≤ pairs_of g (m + 2)
  unfolding pairs_of
  rows_le = sum_part (m + 1) (m + 2) of (omega arith)

  rows_take : (u : ℕ) (s : Lent) → u < m + 1 → Room (s.count + of u) s.out → More (of u) s (put_row kind g mark m u s)
  rows_take u s h r = row_more kind g mark m u s r

  fewer_rows : (n : ℕ) (out : List ℕ) → Room (n + pairs_of g (m + 2)) out → Room (n + sum (m + 1) of) out
  fewer_rows n out r = room_le (n + sum (m + 1) of) (n + pairs_of g (m + 2)) out (omega (arith, rows_le)) r

  -- after the rows below u: room for the next, and as many bytes as before
  pub row_room : (n u count : ℕ) (out now : List ℕ) → Room (n + pairs_of g (m + 2)) out → u < m + 1
      → lent count now ≡ upto (put_row kind g mark m) u (lent n out) → Room (count + pairs_from g (m + 2) u) now
  row_room n u count out now r h e =
      subst (λ (s : Lent). Room (s.count + of u) s.out) (sym e)
      (loop_room (put_row kind g mark m) of (m + 1) (lent n out) rows_take (fewer_rows n out r) u h)

  pub rows_length : (n u count : ℕ) (out now : List ℕ) → Room (n + pairs_of g (m + 2)) out → u ≤ m + 1
      → lent count now ≡ upto (put_row kind g mark m) u (lent n out) → length now ≡ length out
  rows_length n u count out now r h e =
      ap (λ (s : Lent). length s.out) e
      ∙ (loop_more (put_row kind g mark m) of (m + 1) (lent n out) rows_take (fewer_rows n out r) u h).long

  pub rows_end : (n u count : ℕ) (out now : List ℕ) → m + 1 ≤ u
      → (lent count now ≡ upto (put_row kind g mark m) u (lent n out)) × (u ≤ m + 1)
      → lent count now ≡ put_flow kind g mark m (lent n out)
  unfolding put_flow
  rows_end n u count out now h i = up_end (put_row kind g mark m) (m + 1) u (lent n out) h i

-- what is written goes by the kind, the units and the marks alone
pub units_written : {kind k : ℕ} {g h mark tag : ℕ → ℕ → ℕ} (m : ℕ) (l : Lent) → kind ≡ k → g ≡ h → mark ≡ tag
    → put_flow kind g mark m l ≡ put_flow k h tag m l
units_written {kind} {k} {g} {h} {mark} {tag} m l p q e =
    ap (λ (x : ℕ). put_flow x g mark m l) p ∙ ap (λ (f : ℕ → ℕ → ℕ). put_flow k f mark m l) q ∙ ap (λ (f : ℕ → ℕ → ℕ). put_flow k h f m l) e
