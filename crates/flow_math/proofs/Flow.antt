-- The flow that a handover makes, and the units that no flow can free.
use mathlib.Core.Path.{◌≡◌, refl, sym, ◌∙◌}
use mathlib.Core.Bool.{Bool, true}
use mathlib.Core.Logic.{by_cases}
use Prim.Native.Nat.{ℕ, zero, suc, ◌+◌, ◌-◌, ◌≤◌, ◌<◌}
use native.Mathlib.Decide.{dec_lt}
use native.Mathlib.Omega.{arith}
use borrow.Author.Tests.{lt-ltb, le-ltb, eq-eqb}
use Rattle.words.specs.Sums.{sum}
use Rattle.words.proofs.Tests
use Rattle.words.proofs.Sums
use Rattle.order.specs.Arcs.{StrictOrder}
use Rattle.order.specs.Nodes.{node_before}
use Rattle.order.proofs.Nodes
use Rattle.flow_math.specs.Heaviest.{need_of}
use Rattle.flow_math.specs.Handover.{row, col, total, Handover}
use Rattle.flow_math.specs.Flow.{node_flow, ResourceFlow}
use Rattle.flow_math.proofs.Weak
use Rattle.flow_math.proofs.Need as Needs

-- a sum over the nodes: the start, the elements, the end
over : (n : ℕ) (h : ℕ → ℕ) → sum (suc (suc n)) h ≡ h 0 + (sum n (λ i. h (suc i)) + h (suc n))
over n h = omega (arith, Sums.sum_last (suc n) h, Sums.sum_first n h)

-- what is left of each demand, summed: with what is taken away, all demands
rest : (n : ℕ) (d p : ℕ → ℕ) → ((i : ℕ) → i < n → p i ≤ d i) → sum n (λ i. d i - p i) + sum n p ≡ sum n d
rest n d p h =
    sym (Sums.sum_add n (λ i. d i - p i) p) ∙ Sums.sum_cong n (λ i. (d i - p i) + p i) d (λ i l. omega (arith, h i l))

-- all that is handed over, by the takers
total_cols : (n : ℕ) (f : ℕ → ℕ → ℕ) → sum n (λ j. col n f j) ≡ total n f
unfolding total row col
total_cols n f = sym (Sums.sum_swap n n f)

total_rows : (n : ℕ) (f : ℕ → ℕ → ℕ) → sum n (λ i. row n f i) ≡ total n f
unfolding total
total_rows n f = refl

module _ (n : ℕ) (d : ℕ → ℕ) (f : ℕ → ℕ → ℕ) (x a : ℕ) where
  -- the values of the flow
  from_start : (j : ℕ) → j < n → node_flow n d f x a 0 (suc j) ≡ d j - col n f j
  from_start j l = rw (lt-ltb j n l)

  pub spare : node_flow n d f x a 0 (suc n) ≡ a - x
  spare = rw (le-ltb n n (omega arith), eq-eqb n n refl)

  handed : (i j : ℕ) → i < n → j < n → node_flow n d f x a (suc i) (suc j) ≡ f i j
  handed i j l m = rw (lt-ltb i n l, lt-ltb j n m)

  to_end : (i : ℕ) → i < n → node_flow n d f x a (suc i) (suc n) ≡ d i - row n f i
  to_end i l = rw (lt-ltb i n l, le-ltb n n (omega arith), eq-eqb n n refl)

  from_end : (u v : ℕ) → n ≤ u → node_flow n d f x a (suc u) v ≡ 0
  from_end u zero l = refl
  from_end u (suc j) l = rw (le-ltb u n l)

  module _ (b : ℕ → ℕ → Bool) (F : Handover n b d f) where
    flow_along : (u v : ℕ) → u < suc (suc n) → v < suc (suc n) → 0 < node_flow n d f x a u v → node_before n b u v ≡ true
    flow_along zero zero l m p = absurd (omega arith)
    flow_along zero (suc j) l m p = Nodes.start_before n b j (omega arith)
    flow_along (suc i) zero l m p = absurd (omega arith)
    flow_along (suc i) (suc j) l m p =
        by_cases (dec_lt i n)
        (λ q. by_cases (dec_lt j n)
        (λ r. Nodes.between n b i j q r ∙ F.along i j q r (omega (arith, handed i j q r)))
        (λ r. let e : j ≡ n = omega arith in rw e (Nodes.before_end n b (suc i) (omega arith))))
        (λ q. absurd (omega (arith, from_end i (suc j) (omega arith))))

    flow_into : (j : ℕ) → j < n → sum (suc (suc n)) (λ u. node_flow n d f x a u (suc j)) ≡ d j
    unfolding col
    flow_into j l =
        let e = Sums.sum_cong n (λ i. node_flow n d f x a (suc i) (suc j)) (λ i. f i j) (λ i m. handed i j m l) in
        omega (
          arith,
          over n (λ u. node_flow n d f x a u (suc j)),
          from_start j l,
          from_end n (suc j) (omega arith),
          F.cols j l,
        )

    flow_out_lem : (i : ℕ) → i < n → sum (suc (suc n)) (λ v. node_flow n d f x a (suc i) v) ≡ d i
    unfolding row
    flow_out_lem i l =
        let e = Sums.sum_cong n (λ j. node_flow n d f x a (suc i) (suc j)) (λ j. f i j) (λ j m. handed i j l m) in
        omega (arith, over n (λ v. node_flow n d f x a (suc i) v), to_end i l, F.rows i l)

    module _ (tight : x + total n f ≡ sum n d) (enough : x ≤ a) where
      flow_start : sum (suc (suc n)) (λ v. node_flow n d f x a 0 v) ≡ a
      flow_start =
          let e = Sums.sum_cong n (λ j. node_flow n d f x a 0 (suc j)) (λ j. d j - col n f j) from_start in
          omega (arith, over n (λ v. node_flow n d f x a 0 v), spare, rest n d (col n f) F.cols, total_cols n f)

      flow_finish : sum (suc (suc n)) (λ u. node_flow n d f x a u (suc n)) ≡ a
      flow_finish =
          let e = Sums.sum_cong n (λ i. node_flow n d f x a (suc i) (suc n)) (λ i. d i - row n f i) to_end in
          omega (
            arith,
            over n (λ u. node_flow n d f x a u (suc n)),
            spare,
            from_end n (suc n) (omega arith),
            rest n d (row n f) F.rows,
            total_rows n f,
          )

      -- A handover that leaves exactly x of the demands gives a flow of any a ≥ x units.
      pub flow_made : ResourceFlow n b d a (node_flow n d f x a)
      flow_made =
          record {
            into = flow_into;
            out = flow_out_lem;
            start = flow_start;
            finish = flow_finish;
            along = flow_along;
          }

-- ---- any flow

-- what goes from element to element
abbrev inner : (ℕ → ℕ → ℕ) → ℕ → ℕ → ℕ
inner g i j = g (suc i) (suc j)

module _ (n : ℕ) (b : ℕ → ℕ → Bool) (d : ℕ → ℕ) (a : ℕ) (g : ℕ → ℕ → ℕ) (G : ResourceFlow n b d a g) where
  -- nothing goes out of the end
  none_out : (v : ℕ) → v < suc (suc n) → g (suc n) v ≡ 0
  none_out v l =
      by_cases (dec_lt 0 (g (suc n) v))
      (λ p. Tests.clash (G.along (suc n) v (omega arith) l p) (Nodes.end_before n b v))
      (λ p. omega arith)

  -- what goes out of an element, and what comes into it, by parts
  out_parts : (i : ℕ) → i < n → g (suc i) 0 + (row n (inner g) i + g (suc i) (suc n)) ≡ d i
  unfolding row
  out_parts i l = omega (arith, over n (λ v. g (suc i) v), G.out i l)

  into_parts : (j : ℕ) → j < n → g 0 (suc j) + col n (inner g) j ≡ d j
  unfolding col
  into_parts j l = omega (arith, over n (λ u. g u (suc j)), G.into j l, none_out (suc j) (omega arith))

  -- so what goes from element to element is a handover
  inner_handover : Handover n b d (inner g)
  inner_handover =
      record {
        along = λ i j l m p. sym (Nodes.between n b i j l m) ∙ G.along (suc i) (suc j) (omega arith) (omega arith) p;
        rows = λ i l. omega (arith, out_parts i l);
        cols = λ j l. omega (arith, into_parts j l);
      }

-- No flow of a units sends more than a - need_of of them straight from the start to the end.
pub no_flow_frees_more : (n : ℕ) (b : ℕ → ℕ → Bool) (d : ℕ → ℕ) (a : ℕ) (g : ℕ → ℕ → ℕ) →
    StrictOrder n b → ResourceFlow n b d a g → g 0 (suc n) + need_of n b d ≤ a
no_flow_frees_more n b d a g o G =
    let N = Needs.need_of_need n b d o in
    let e = Sums.sum_cong n (λ j. g 0 (suc j) + col n (inner g) j) d (into_parts n b d a g G) in
    omega (
      arith,
      Weak.weak n b N.set o N.unrelated d (inner g) (inner_handover n b d a g G),
      N.weighs,
      Sums.sum_add n (λ j. g 0 (suc j)) (col n (inner g)),
      total_cols n (inner g),
      over n (λ v. g 0 v),
      G.start,
    )
