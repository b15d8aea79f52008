-- The records of a flow: how many bytes they are, that they are what is written, and that
-- equal units give equal records.
use mathlib.Core.Path.{◌≡◌, refl, sym, ap, ◌∙◌}
use mathlib.Core.Bool.{Bool, true, false, cond}
use mathlib.Core.List.{List, [], ◌++◌, append_assoc, append-nil}
use Prim.Native.Nat.{ℕ, zero, suc, ◌+◌, ◌*◌, ◌≤◌, ◌<◌}
use native.Mathlib.Omega.{arith}
use native.Mathlib.Nat.{add-zero, zero-add}
use lib.Dec.{eqb}
use lib.ListN.{length, take, drop, length-append}
use lib.Seq.{take_at, drop_at, drop-drop}
use borrow.Author.Tests.{eq-eqb}
use Rattle.words.specs.Sums.{sum}
use Rattle.words.specs.model.Loops.{upto}
use Rattle.words.proofs.Sums.{sum_cong, sum_zero, sum_first, sum_last_none}
use Rattle.words.proofs.Tests.{cond_true, cond_has}
use Rattle.records.specs.Bytes.{AreBytes}
use Rattle.records.specs.Records.{flow_record, starting_with, joined}
use Rattle.records.proofs.Records.{flow_length_lem, flow_bytes_lem as record_bytes_lem}
use Rattle.records.proofs.Runs.{joined_same, joined_length, joined_none, joined_first, joined_last, joined_below}
use Rattle.kinds.specs.Flows.{pair_bytes, row_bytes, flow_bytes, pairs_from, pairs_of}
use Rattle.kinds.specs.model.Writing.{Lent, lent, appended, put_pair, put_row, put_flow}

-- ---- lengths

module _ (kind : ℕ) (g mark : ℕ → ℕ → ℕ) where
  length_pair : (u v : ℕ) → length (pair_bytes kind g mark u v) ≡ 24 * cond (eqb (g u v) 0) 0 1
  unfolding pair_bytes
  length_pair u v = go (eqb (g u v) 0)
    where
      go : (t : Bool) → length (cond t [] (flow_record kind u v (g u v) (mark u v))) ≡ 24 * cond t 0 1
      go true = refl
      go false = flow_length_lem kind u v (g u v) (mark u v)

  length_row : (n u : ℕ) → length (row_bytes kind g mark n u) ≡ 24 * pairs_from g n u
  unfolding row_bytes pairs_from
  length_row n u = joined_length (pair_bytes kind g mark u) (λ v. cond (eqb (g u v) 0) 0 1) (length_pair u) n

  pub length_flow : (n : ℕ) → length (flow_bytes kind g mark n) ≡ 24 * pairs_of g n
  unfolding flow_bytes pairs_of
  length_flow n = joined_length (row_bytes kind g mark n) (λ u. pairs_from g n u) (length_row n) n

-- ---- writing

-- the lent bytes `old`, of which n records are written: those in `pre`
abbrev begun_with : ℕ → List ℕ → List ℕ → Lent
begun_with n pre old = lent n (pre ++ drop (24 * n) old)

same_begun : (n k : ℕ) (pre more old : List ℕ) → n ≡ k → pre ≡ more → begun_with n pre old ≡ begun_with k more old
same_begun n k pre more old p q = rw (p, q)

-- a step writes c records more, those in r
abbrev Puts : (Lent → Lent) → ℕ → List ℕ → Type 0
Puts step c r = (n : ℕ) (pre old : List ℕ) → length pre ≡ 24 * n → step (begun_with n pre old) ≡ begun_with (n + c) (pre ++ r) old

puts_record : (kind u v x mark : ℕ) → Puts (λ l. appended l (flow_record kind u v x mark)) 1 (flow_record kind u v x mark)
puts_record kind u v x mark n pre old e =
    let more : 24 * (n + 1) ≡ 24 * n + 24 = omega arith in
    let front : take (24 * n) (pre ++ drop (24 * n) old) ≡ pre = take_at pre (drop (24 * n) old) (24 * n) e in
    let behind : drop (24 * n + 24) (pre ++ drop (24 * n) old) ≡ drop (24 * n + 24) old =
    sym (drop-drop 24 (24 * n) (pre ++ drop (24 * n) old)) ∙ ap (drop 24) (drop_at pre (drop (24 * n) old) (24 * n) e) ∙ drop-drop 24 (24 * n) old in
    rw (more, front, behind)

puts_none : (n : ℕ) (pre old : List ℕ) → begun_with n pre old ≡ begun_with (n + 0) (pre ++ []) old
puts_none n pre old = same_begun n (n + 0) pre (pre ++ []) old (sym (add-zero n)) (sym (append-nil pre))

-- a loop of such steps
puts_upto : (step : ℕ → Lent → Lent) (c : ℕ → ℕ) (f : ℕ → List ℕ) → ((k : ℕ) → length (f k) ≡ 24 * c k)
    → ((k : ℕ) → Puts (step k) (c k) (f k)) → (m : ℕ) → Puts (upto step m) (sum m c) (joined f m)
unfolding upto sum joined
puts_upto step c f each puts zero n pre old e = puts_none n pre old
puts_upto step c f each puts (suc m) n pre old e =
    let done : length (pre ++ joined f m) ≡ 24 * (n + sum m c) = length-append pre (joined f m) ∙ omega (arith, joined_length f c each m) in
    ap (step m) (puts_upto step c f each puts m n pre old e)
    ∙ puts m (n + sum m c) (pre ++ joined f m) old done
    ∙ same_begun (n + sum m c + c m) (n + (sum m c + c m)) (pre ++ joined f m ++ f m) (pre ++ (joined f m ++ f m)) old
    (omega arith) (append_assoc pre (joined f m) (f m))

module _ (kind : ℕ) (g mark : ℕ → ℕ → ℕ) where
  puts_pair : (u v : ℕ) → Puts (put_pair kind u v (g u v) (mark u v)) (cond (eqb (g u v) 0) 0 1) (pair_bytes kind g mark u v)
  unfolding put_pair pair_bytes
  puts_pair u v = go (eqb (g u v) 0)
    where
      r : List ℕ
      r = flow_record kind u v (g u v) (mark u v)

      go : (t : Bool) → Puts (λ l. cond t l (appended l r)) (cond t 0 1) (cond t [] r)
      go true = λ n pre old e. puts_none n pre old
      go false = puts_record kind u v (g u v) (mark u v)

  -- node 0 takes nothing
  puts_row : ((u : ℕ) → g u 0 ≡ 0) → (m u : ℕ) → Puts (put_row kind g mark m u) (pairs_from g (m + 2) u) (row_bytes kind g mark (m + 2) u)
  unfolding put_row pairs_from row_bytes pair_bytes
  puts_row z m u n pre old e =
      let two : m + 2 ≡ suc (m + 1) = omega arith in
      let none : eqb (g u 0) 0 ≡ true = eq-eqb (g u 0) 0 (z u) in
      rw (two, sum_first, joined_first, none, zero-add)
      (puts_upto (λ j. put_pair kind u (suc j) (g u (suc j)) (mark u (suc j))) (λ j. cond (eqb (g u (suc j)) 0) 0 1)
      (λ j. pair_bytes kind g mark u (suc j)) (λ j. length_pair kind g mark u (suc j)) (λ j. puts_pair u (suc j)) (m + 1) n pre old e)

  row_none : (m : ℕ) → ((v : ℕ) → g (suc m) v ≡ 0) → row_bytes kind g mark (m + 2) (suc m) ≡ []
  unfolding row_bytes pair_bytes
  row_none m last =
      joined_none (pair_bytes kind g mark (suc m)) (m + 2)
      (λ v. cond_true [] (flow_record kind (suc m) v (g (suc m) v) (mark (suc m) v)) (eq-eqb (g (suc m) v) 0 (last v)))

  pairs_none : (m : ℕ) → ((v : ℕ) → g (suc m) v ≡ 0) → pairs_from g (m + 2) (suc m) ≡ 0
  unfolding pairs_from
  pairs_none m last = sum_zero (m + 2) (λ v. cond (eqb (g (suc m) v) 0) 0 1) (λ v l. cond_true 0 1 (eq-eqb (g (suc m) v) 0 (last v)))

  -- node m + 1 hands nothing over
  puts_flow : ((u : ℕ) → g u 0 ≡ 0) → (m : ℕ) → ((v : ℕ) → g (suc m) v ≡ 0)
      → Puts (put_flow kind g mark m) (pairs_of g (m + 2)) (flow_bytes kind g mark (m + 2))
  unfolding put_flow pairs_of flow_bytes
  puts_flow z m last n pre old e =
      rw (sum_last_none (pairs_from g (m + 2)) m (pairs_none m last), joined_last (row_bytes kind g mark (m + 2)) m (row_none m last))
      (puts_upto (put_row kind g mark m) (pairs_from g (m + 2)) (row_bytes kind g mark (m + 2))
      (length_row kind g mark (m + 2)) (puts_row z m) (m + 1) n pre old e)

  -- what is written one after another, to the start of what is left each time, is the records of the flow and then what was there
  pub flow_written : (m : ℕ) (out : List ℕ) → ((u : ℕ) → g u 0 ≡ 0) → ((v : ℕ) → g (suc m) v ≡ 0)
      → put_flow kind g mark m (lent 0 out) ≡ lent (pairs_of g (m + 2)) (starting_with (flow_bytes kind g mark (m + 2)) out)
  flow_written m out z last = puts_flow z m last 0 [] out refl ∙ rw (zero-add, length_flow)

-- ---- a flow is given by what passes between the nodes below n

module _ (kind : ℕ) (g h mark tag : ℕ → ℕ → ℕ) where
  pub flow_same : (n : ℕ) → ((u v : ℕ) → u < n → v < n → g u v ≡ h u v) → ((u v : ℕ) → u < n → v < n → mark u v ≡ tag u v)
      → flow_bytes kind g mark n ≡ flow_bytes kind h tag n
  unfolding flow_bytes row_bytes pair_bytes
  flow_same n p q =
      joined_same (row_bytes kind g mark n) (row_bytes kind h tag n) n
      (λ u a. joined_same (pair_bytes kind g mark u) (pair_bytes kind h tag u) n (λ v b. rw (p u v a b, q u v a b)))

pub pairs_same : (g h : ℕ → ℕ → ℕ) (n : ℕ) → ((u v : ℕ) → u < n → v < n → g u v ≡ h u v) → pairs_of g n ≡ pairs_of h n
unfolding pairs_of pairs_from
pairs_same g h n p =
    sum_cong n (pairs_from g n) (pairs_from h n)
    (λ u a. sum_cong n (λ v. cond (eqb (g u v) 0) 0 1) (λ v. cond (eqb (h u v) 0) 0 1) (λ v b. rw (p u v a b)))

-- ---- bytes

pub flow_bytes_lem : (kind : ℕ) (g mark : ℕ → ℕ → ℕ) (n : ℕ) → kind < 256 → n ≤ 256 → ((u v : ℕ) → mark u v < 256) → AreBytes (flow_bytes kind g mark n)
unfolding flow_bytes row_bytes pair_bytes
flow_bytes_lem kind g mark n k few m =
    joined_below (row_bytes kind g mark n) n
    (λ u a. joined_below (pair_bytes kind g mark u) n
    (λ v b. cond_has AreBytes (eqb (g u v) 0) [] (flow_record kind u v (g u v) (mark u v)) (λ e i. omega arith)
    (λ e. record_bytes_lem kind u v (g u v) (mark u v) k (omega arith) (omega arith) (m u v))))
