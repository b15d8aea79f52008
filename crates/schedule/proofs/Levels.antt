-- Only for the proofs of the code: level after level every element gets its earliest start.
use mathlib.Core.Path.{◌≡◌, refl, sym, ◌∙◌, ap, ap₂}
use mathlib.Core.Bool.{Bool, true, false, cond, not, ◌&&◌, ◌||◌}
use mathlib.Core.List.{List}
use mathlib.Core.Logic.{⊎_elim, ◌≢◌, ◌↔◌}
use Prim.Native.Nat.{ℕ, zero, suc, ◌+◌, ◌*◌, ◌^◌, ◌≤◌, ◌<◌}
use native.Mathlib.Nat.{not-suc-le-zero}
use native.Mathlib.Omega.{arith}
use lib.Bits.{bit_or, or_zero_r}
use lib.ListN.{get_or, length, length-set, replicate, get_or-replicate}
use lib.Seq.{get_or-set_same, get_or-set_other}
use Rattle.words.specs.Bits.{digit, bit, minus, rest}
use Rattle.words.specs.Members.{first, some}
use Rattle.words.specs.model.Loops.{each, upto}
use Rattle.words.proofs.Bits.{bit_zero, bit_one, bit_or_lem, bit_minus, digit_one, digit_none}
use Rattle.words.proofs.Firsts.{some_found, some_here}
use Rattle.words.proofs.Kept.{each_keeps}
use Rattle.words.proofs.Loops.{each_more, each_upto, upto_cong}
use Rattle.words.proofs.Members.{digit_rest, rest_lt}
use Rattle.words.proofs.Tables.{is_table, get_d_table, length_table}
use Rattle.words.proofs.Tests.{clash, holds, fails, by_test, at_or_other, and_says, and_both, or_left, or_right, not_of_false, false_of_not, cond_true, cond_false, cond_least}
use Rattle.order.specs.Stored.{row}
use Rattle.order.proofs.Stored.{everyone_bit, everyone_fits, in_bound}
use Rattle.order.specs.Rows.{after}
use Rattle.schedule.specs.Network.{Network, Schedule, Ranked}
use Rattle.schedule.specs.Starts.{asked, earliest_of}
use Rattle.schedule.specs.model.Arrays.{net_of, starts_of, FinishesFit}
use Rattle.schedule.specs.Lists.{at}
use Rattle.schedule.specs.model.Levels.{open_row, waiting_for, ready_of, place, placed, starts_by, RanksDone}
use Rattle.schedule.proofs.Starts.{asked_cong, earliest_fixed, earliest_bound}
use Rattle.order.specs.Stored.{elements, everyone, bound}

-- ---- who waits, and who is ready

module _ (rows : List ℕ) (done : ℕ) where
  open_bit : (b : Bool) (w j : ℕ) → bit (cond b 0 w) j ≡ not b && bit w j
  open_bit true w j = bit_zero j
  open_bit false w j = refl

  -- i is not done, and has an arc to j
  abbrev holds_back : ℕ → ℕ → Bool
  holds_back j i = not (bit done i) && after rows i j

  waiting_bit : (n j : ℕ) → bit (waiting_for n rows done) j ≡ some n (holds_back j)
  unfolding waiting_for upto some
  waiting_bit zero j = bit_zero j
  waiting_bit (suc n) j =
      bit_or_lem (waiting_for n rows done) (open_row done n (row rows n)) j
      ∙ ap (λ (b : Bool). b || bit (open_row done n (row rows n)) j) (waiting_bit n j)
      ∙ ap (λ (b : Bool). some n (holds_back j) || b) (open_bit (bit done n) (row rows n) j)

  all_bit : (j : ℕ) → j < elements → bit everyone j ≡ true
  all_bit j l = everyone_bit j l

  -- the code goes over those that are not done alone
  pub waiting_members : each elements (λ w i. bit_or w (row rows i)) 0 (minus everyone done) ≡ waiting_for elements rows done
  unfolding waiting_for
  waiting_members =
      each_upto elements (λ w i. bit_or w (row rows i)) 0 (minus everyone done)
      ∙ upto_cong _ _ elements 0 (λ i w l. ap (λ (b : Bool). cond b (bit_or w (row rows i)) w) (left i l) ∙ skip (bit done i) w (row rows i))
    where
      left : (i : ℕ) → i < elements → bit (minus everyone done) i ≡ not (bit done i)
      left i l = bit_minus everyone done i ∙ ap (λ (b : Bool). b && not (bit done i)) (all_bit i l)

      skip : (b : Bool) (w r : ℕ) → cond (not b) (bit_or w r) w ≡ bit_or w (cond b 0 r)
      skip true w r = sym (or_zero_r w)
      skip false w r = refl

  ready_bit : (j : ℕ) → j < elements → bit (ready_of rows done) j ≡ not (bit (waiting_for elements rows done) j) && not (bit done j)
  unfolding ready_of
  ready_bit j l =
      bit_minus (minus everyone (waiting_for elements rows done)) done j
      ∙ ap (λ (b : Bool). b && not (bit done j))
      (bit_minus everyone (waiting_for elements rows done) j ∙ ap (λ (b : Bool). b && not (bit (waiting_for elements rows done) j)) (all_bit j l))

  -- all that have an arc to j are done
  abbrev AllDone : ℕ → Type 0
  AllDone j = (i : ℕ) → i < elements → after rows i j ≡ true → bit done i ≡ true

  ready_says : (j : ℕ) → j < elements → (bit (ready_of rows done) j ≡ true) ↔ ((bit done j ≡ false) × AllDone j)
  ready_says j l = (there, back)
    where
      there : bit (ready_of rows done) j ≡ true → (bit done j ≡ false) × AllDone j
      there e =
          let w = (and_says (not (bit (waiting_for elements rows done) j)) (not (bit done j))).0 (sym (ready_bit j l) ∙ e) in (
            false_of_not _ w.1,
            λ i h a. holds (bit done i) λ n.
                clash (waiting_bit elements j ∙ some_here elements (holds_back j) i h (and_both _ _ (not_of_false _ n) a)) (false_of_not _ w.0),
          )

      back : (bit done j ≡ false) × AllDone j → bit (ready_of rows done) j ≡ true
      back d =
          ready_bit j l
          ∙ and_both _ _
          (not_of_false _ (fails (bit (waiting_for elements rows done) j) λ e.
          let w = some_found elements (holds_back j) (sym (waiting_bit elements j) ∙ e) in
          let v = (and_says (not (bit done w.0)) (after rows w.0 j)).0 w.2 in
          clash (d.1 w.0 w.1 v.1) (false_of_not _ v.0)))
          (not_of_false _ d.0)

  ready_fit : ready_of rows done < bound
  unfolding ready_of
  ready_fit = less bound everyone (waiting_for elements rows done) done everyone_fits
    where
      less : (n a b c : ℕ) → a < n → minus (minus a b) c < n
      less n a b c h = omega arith

-- ---- what a level stores: at the ready elements what the arcs ask, and nothing elsewhere

module _ (g : Network) (s : Schedule) (i : ℕ) where
  place_same : (l : List ℕ) → i < length l → get_or (place g s l i) i 0 ≡ asked g s i
  place_same l h = get_or-set_same l i (asked g s i) 0 h

  place_other : (l : List ℕ) (b : ℕ) → i ≢ b → get_or (place g s l b) i 0 ≡ get_or l i 0
  place_other l b ne = get_or-set_other l b i (asked g s b) 0 ne

  placed_not : (l : List ℕ) (w : ℕ) → bit w i ≡ false → get_or (placed g s l w) i 0 ≡ get_or l i 0
  placed_not l w e =
      each_keeps (λ t. get_or t i 0 ≡ get_or l i 0) elements (place g s) w
      (λ t b h d p. place_other t b (λ q. clash (bit_one w b d) (ap (bit w) (sym q) ∙ e)) ∙ p) l refl

  -- an element that has its start keeps it
  abbrev Stored : List ℕ → Type 0
  Stored t = (i < length t) × (get_or t i 0 ≡ asked g s i)

  stays : (l : List ℕ) (w : ℕ) → Stored l → Stored (placed g s l w)
  stays l w p =
      each_keeps Stored elements (place g s) w
      (λ t b h d q. (omega (arith, q.0, length-set t b (asked g s b)), at_or_other (λ b. get_or (place g s t b) i 0 ≡ asked g s i) i b (place_same t q.0) (λ ne. place_other t b (λ e. ne (sym e)) ∙ q.1)))
      l p

  placed_in : (n : ℕ) (l : List ℕ) (w : ℕ) → w ≤ n → w < bound → i < length l → digit w i ≡ 1 → get_or (placed g s l w) i 0 ≡ asked g s i
  placed_in zero l w h f k d =
      let e : w ≡ 0 = omega arith in
      absurd (omega (arith, ap (λ (x : ℕ). digit x i) e, digit_none i))
  placed_in (suc n) l w h f k d =
      let ne : w ≡ 0 → ⊥ = λ e. omega (arith, ap (λ (x : ℕ). digit x i) e, digit_none i) in
      let b = first elements (bit w) in
      let r = rest_lt w ne in
      ap (λ (t : List ℕ). get_or t i 0) (each_more elements (place g s) l w (omega arith) (in_bound f))
      ∙ ⊎_elim
      (λ m. placed_in n (place g s l b) (rest w) (omega arith) (omega arith) (omega (arith, length-set l b (asked g s b))) m)
      (λ e. (stays (place g s l b) (rest w) (omega (arith, length-set l b (asked g s b)), ap (λ (x : ℕ). get_or (place g s l x) i 0) (sym e) ∙ place_same l k)).1)
      (digit_rest elements w i (in_bound f) d)

  placed_ready : (l : List ℕ) (w : ℕ) → w < bound → i < length l → bit w i ≡ true → get_or (placed g s l w) i 0 ≡ asked g s i
  placed_ready l w f k e = placed_in w l w (omega arith) f k (digit_one w i e)

placed_long : (g : Network) (s : Schedule) (l : List ℕ) (w : ℕ) → length (placed g s l w) ≡ length l
placed_long g s l w = each_keeps (λ t. length t ≡ length l) elements (place g s) w (λ t b h d p. length-set t b (asked g s b) ∙ p) l refl

-- ---- the starts of those that are done

or_none : (b : Bool) → b || false ≡ b
or_none true = refl
or_none false = refl

module _ (g : Network) (done : ℕ) where
  by_at : (i : ℕ) → i < elements → at (starts_by g done) i ≡ cond (bit done i) (earliest_of g i) 0
  unfolding starts_by
  by_at i l = get_d_table elements (λ i. cond (bit done i) (earliest_of g i) 0) i 0 l

  by_long : length (starts_by g done) ≡ elements
  unfolding starts_by
  by_long = length_table elements (λ i. cond (bit done i) (earliest_of g i) 0)

-- at first none is done
pub by_none : (g : Network) → replicate elements 0 ≡ starts_by g 0
unfolding starts_by
by_none g =
    is_table elements (λ i. cond (bit 0 i) (earliest_of g i) 0) (replicate elements 0) 0 refl λ i l. get_or-replicate elements i 0 0 l ∙ sym (cond_false (earliest_of g i) 0 (bit_zero i))

module _ (rows : List ℕ) (weight : ℕ → ℕ → ℕ) where
  -- no start and weight together pass 32 bits
  pub by_fits : (done b : ℕ) → (elements + 1) * b < 2 ^ 32 → ((i j : ℕ) → weight i j ≤ b) → FinishesFit (starts_by (net_of rows weight) done) weight
  by_fits done b h a i j l =
      omega (
        arith,
        by_at (net_of rows weight) done i l,
        cond_least (bit done i) (earliest_of (net_of rows weight) i) (elements * b) (λ e. earliest_bound (net_of rows weight) b (λ k m x. a k m) i l),
        a i j,
      )

  level_ready :
      (R : Ranked (net_of rows weight)) (done i : ℕ) → i < elements → bit (ready_of rows done) i ≡ true
      → at (placed (net_of rows weight) (at (starts_by (net_of rows weight) done)) (starts_by (net_of rows weight) done) (ready_of rows done)) i
      ≡ cond (bit (bit_or done (ready_of rows done)) i) (earliest_of (net_of rows weight) i) 0
  level_ready R done i l e =
      let g = net_of rows weight in
      let s = starts_by g done in
      let d = (ready_says rows done i l).0 e in
      placed_ready g (at s) i s (ready_of rows done) (ready_fit rows done) (omega (arith, by_long g done)) e
      ∙ asked_cong g (at s) (earliest_of g) i l (λ k a. by_at g done k a.from ∙ cond_true _ 0 (d.1 k a.from a.drawn))
      ∙ sym (earliest_fixed g R i l)
      ∙ sym (cond_true (earliest_of g i) 0 (bit_or_lem done (ready_of rows done) i ∙ or_right (bit done i) _ e))

  level_not :
      (done i : ℕ) → i < elements → bit (ready_of rows done) i ≡ false
      → at (placed (net_of rows weight) (at (starts_by (net_of rows weight) done)) (starts_by (net_of rows weight) done) (ready_of rows done)) i
      ≡ cond (bit (bit_or done (ready_of rows done)) i) (earliest_of (net_of rows weight) i) 0
  level_not done i l e =
      let g = net_of rows weight in
      placed_not g (at (starts_by g done)) i (starts_by g done) (ready_of rows done) e
      ∙ by_at g done i l
      ∙ ap (λ (b : Bool). cond b (earliest_of g i) 0) (sym (bit_or_lem done (ready_of rows done) i ∙ ap (λ (b : Bool). bit done i || b) e ∙ or_none (bit done i)))

  level_all :
      (R : Ranked (net_of rows weight)) (done : ℕ)
      → placed (net_of rows weight) (at (starts_by (net_of rows weight) done)) (starts_by (net_of rows weight) done) (ready_of rows done)
      ≡ starts_by (net_of rows weight) (bit_or done (ready_of rows done))
  unfolding starts_by
  level_all R done =
      let g = net_of rows weight in
      let s = starts_by g done in
      let w = ready_of rows done in
      is_table elements (λ i. cond (bit (bit_or done w) i) (earliest_of g i) 0) (placed g (at s) s w) 0 (placed_long g (at s) s w ∙ by_long g done)
      λ i l. by_test (bit w i) (level_ready R done i l) (level_not done i l)

  -- A LEVEL GIVES THE READY ELEMENTS THEIR EARLIEST STARTS
  pub by_level :
      (R : Ranked (net_of rows weight)) (done w : ℕ) (l l' : List ℕ) → l ≡ starts_by (net_of rows weight) done → w ≡ ready_of rows done
      → l' ≡ placed (net_of rows weight) (at l) l w → l' ≡ starts_by (net_of rows weight) (bit_or done w)
  by_level R done w l l' p q e =
      e ∙ ap₂ (λ (x : List ℕ) (y : ℕ). placed (net_of rows weight) (at x) x y) p q ∙ level_all R done
      ∙ ap (λ (y : ℕ). starts_by (net_of rows weight) (bit_or done y)) (sym q)

  -- and one rank more is done
  pub ranks_next : (done w r : ℕ) → w ≡ ready_of rows done → RanksDone rows weight done r → RanksDone rows weight (bit_or done w) (r + 1)
  ranks_next done w r q D R j hj l =
      bit_or_lem done w j
      ∙ by_test (bit done j)
      (λ y. or_left _ _ y)
      (λ n.
      or_right (bit done j) _
      (ap (λ (x : ℕ). bit x j) q
      ∙ (ready_says rows done j hj).1 (n, λ i h a. D R i h (omega (arith, R.rises i j (record { from = h; to = hj; drawn = a }))))))

  -- where none is ready, all are done
  pub ranks_stuck : (done r : ℕ) → ready_of rows done ≡ 0 → RanksDone rows weight done r
  ranks_stuck done zero e R j hj l = absurd (not-suc-le-zero l)
  ranks_stuck done (suc r) e R j hj l =
      holds (bit done j) λ n.
      clash
      ((ready_says rows done j hj).1 (n, λ i h a. ranks_stuck done r e R i h (omega (arith, R.rises i j (record { from = h; to = hj; drawn = a })))))
      (ap (λ (w : ℕ). bit w j) e ∙ bit_zero j)

  -- once all are done, the starts are the earliest ones
  pub by_all : (done r : ℕ) → Ranked (net_of rows weight) → RanksDone rows weight done r → elements ≤ r → starts_by (net_of rows weight) done ≡ starts_of rows weight
  unfolding starts_of
  by_all done r R D l =
      is_table elements (earliest_of (net_of rows weight)) (starts_by (net_of rows weight) done) 0 (by_long (net_of rows weight) done)
      λ i h. by_at (net_of rows weight) done i h ∙ cond_true _ 0 (D R i h (omega (arith, R.below i h)))
