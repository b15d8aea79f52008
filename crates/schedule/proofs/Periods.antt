-- Laws of periods: what is occupied rises only in the period that follows a start, so an overload is first seen there.
use mathlib.Core.Path.{◌≡◌, refl, sym, ◌∙◌, ap, subst}
use mathlib.Core.Bool.{Bool, true, false, cond, ◌&&◌, and-false}
use mathlib.Core.Logic.{◌⊎◌, inl, inr, ◌≢◌}
use Prim.Native.Nat.{ℕ, zero, suc, ◌+◌, ◌-◌, ◌≤◌, ◌<◌}
use native.Mathlib.Decide.{dec_lt}
use native.Mathlib.Omega.{arith}
use lib.Dec.{ltb, eqb}
use borrow.Author.Tests.{ltb-true, ltb-false, eqb-true, eqb-false, lt-ltb, lt-leb}
use Rattle.words.specs.Members.{first, IsFirst}
use Rattle.words.proofs.Firsts.{the_first, first_below}
use Rattle.words.proofs.Sums.{sum_le, sum_zero}
use Rattle.words.proofs.Tests.{clash, fails, by_test, cond_least, cond_true, cond_false}
use Rattle.flow_math.specs.Crew as crew
use Rattle.flow_math.proofs.Crew.{active_says, none_active}
use Rattle.schedule.specs.Starts.{end_of}
use Rattle.schedule.specs.Checks.{Work, at_work, occupied, exceeds, lowest_kind, overloaded, last_finish, quiet, first_period}
use Rattle.schedule.proofs.Starts.{end_largest}

-- ---- the first overloaded period

module _ (c : Work) where
  -- whoever is at work in the one period and in the other too adds no less there
  share_mono : (t u k i : ℕ) → (at_work c t i ≡ true → at_work c u i ≡ true) → cond (at_work c t i) (c.demand k i) 0 ≤ cond (at_work c u i) (c.demand k i) 0
  share_mono t u k i h = cond_least (at_work c t i) (c.demand k i) _ λ e. rw (h e) (omega arith)

  -- THE SUM ONLY RISES IN THE PERIOD THAT FOLLOWS A START
  pub only_rises : (t k : ℕ) → ((i : ℕ) → i < c.count → c.start i ≢ t) → occupied c (suc t) k ≤ occupied c t k
  unfolding crew.occupied
  only_rises t k h =
      sum_le c.count _ _ λ i l. share_mono (suc t) t k i λ e.
      let w = (active_says c.start c.worked (suc t) i).0 e in
      let ne = h i l in
      (active_says c.start c.worked t i).1 (omega (arith, w.0), omega (arith, w.1))

  -- a period in which nobody is at work is not overloaded
  idle_zero : (t k : ℕ) → ((i : ℕ) → i < c.count → at_work c t i ≡ false) → occupied c t k ≡ 0
  unfolding crew.occupied
  idle_zero t k h = sum_zero c.count _ λ i l. cond_false (c.demand k i) 0 (h i l)

  -- a period that is not overloaded has no kind exceeded, and one that is has
  pub not_exceeded : (t : ℕ) → overloaded c t ≡ false → (k : ℕ) → k < c.kinds → occupied c t k ≤ c.available k
  unfolding lowest_kind
  not_exceeded t h k l = ltb-false _ _ ((the_first c.kinds (exceeds c t)).before k (omega (arith, ltb-false (first c.kinds (exceeds c t)) c.kinds h)))

  -- THE KIND IS THE LOWEST THAT IS EXCEEDED
  pub lowest_first : (t : ℕ) → IsFirst c.kinds (exceeds c t) (lowest_kind c t)
  unfolding lowest_kind
  lowest_first t = the_first _ _

  -- a period with a kind exceeded is overloaded
  pub exceeded_over : (t k : ℕ) → k < c.kinds → exceeds c t k ≡ true → overloaded c t ≡ true
  unfolding lowest_kind
  exceeded_over t k l e = lt-ltb (first c.kinds (exceeds c t)) c.kinds (omega (arith, first_below c.kinds (exceeds c t) k e))

  pub over_exceeds : (t : ℕ) → overloaded c t ≡ true → exceeds c t (lowest_kind c t) ≡ true
  over_exceeds t h = (lowest_first t).found (ltb-true _ _ h)

  -- an overload stays behind where the sums are no larger
  over_mono : (t u : ℕ) → ((k : ℕ) → occupied c t k ≤ occupied c u k) → overloaded c t ≡ true → overloaded c u ≡ true
  over_mono t u m h =
      let k = lowest_kind c t in
      let q : c.available k < occupied c t k = ltb-true (c.available k) (occupied c t k) (over_exceeds t h) in
      exceeded_over u k (ltb-true k c.kinds h) (lt-ltb (c.available k) (occupied c u k) (omega (arith, m k)))

  idle : (t : ℕ) → ((i : ℕ) → i < c.count → at_work c t i ≡ false) → overloaded c t ≡ false
  idle t h =
      fails (overloaded c t) λ e.
      let k = lowest_kind c t in
      let q : c.available k < occupied c t k = ltb-true (c.available k) (occupied c t k) (over_exceeds t e) in
      omega (arith, idle_zero t k h)

  pub none_at_zero : overloaded c 0 ≡ false
  none_at_zero = idle 0 λ i l. none_active c.start c.worked i

  -- after the last finish no period is overloaded
  pub none_after : (t : ℕ) → last_finish c < t → overloaded c t ≡ false
  unfolding last_finish
  none_after t h =
      idle t λ i l.
      let f : c.start i + c.worked i ≤ end_of c.count c.start c.worked = (end_largest c.count c.start c.worked).upper _ (record { element = i; picked = l; finish = refl }) in
      ap (λ (x : Bool). ltb (c.start i) t && x) (lt-leb t (c.start i + c.worked i) (omega arith)) ∙ and-false (ltb (c.start i) t)

  -- a start at `t`, or none
  start_at : (t : ℕ) → ((i : ℕ) × (i < c.count) × (c.start i ≡ t)) ⊎ ((i : ℕ) → i < c.count → c.start i ≢ t)
  start_at t = go (first c.count p) (the_first c.count p) (dec_lt (first c.count p) c.count)
    where
      p : ℕ → Bool
      p = λ i. eqb (c.start i) t

      go : (r : ℕ) → IsFirst c.count p r → Dec (r < c.count) → ((i : ℕ) × (i < c.count) × (c.start i ≡ t)) ⊎ ((i : ℕ) → i < c.count → c.start i ≢ t)
      go r F (yes l) = inl (r, l, eqb-true _ _ (F.found l))
      go r F (no m) = inr λ i l. eqb-false _ _ (F.before i (omega arith))

  -- THE FIRST OVERLOADED PERIOD: none before it is overloaded, and it is, if it is found
  pub quiet_first : IsFirst (last_finish c) (λ u. overloaded c (suc u)) (quiet c)
  unfolding quiet
  quiet_first = the_first _ _

  pub none_before : (t : ℕ) → t ≤ quiet c → overloaded c t ≡ false
  none_before zero l = none_at_zero
  none_before (suc t) l = quiet_first.before t l

  -- WHERE NONE IS FOUND THERE IS NONE AT ALL
  pub none_at_all : last_finish c ≤ quiet c → (t : ℕ) → overloaded c t ≡ false
  none_at_all h t = go (dec_lt (last_finish c) t)
    where
      go : Dec (last_finish c < t) → overloaded c t ≡ false
      go (yes l) = none_after t l
      go (no m) = none_before t (omega arith)

  by_period :
      {P : Type 0} → (quiet c < last_finish c → first_period c ≡ suc (quiet c) → P) → (last_finish c ≤ quiet c → first_period c ≡ 0 → P) → P
  unfolding first_period
  by_period some none =
      by_test (ltb (quiet c) (last_finish c))
      (λ y. some (ltb-true (quiet c) (last_finish c) y) (cond_true (suc (quiet c)) 0 y))
      (λ n. none (ltb-false (quiet c) (last_finish c) n) (cond_false (suc (quiet c)) 0 n))

  -- THE LAW OF THE FIRST PERIOD: 0 where no period is overloaded, and else overloaded itself with none before it
  pub period_none : first_period c ≡ 0 → (t : ℕ) → overloaded c t ≡ false
  period_none e = by_period (λ l p. absurd (omega arith)) (λ l z. none_at_all l)

  pub period_over : 0 < first_period c → overloaded c (first_period c) ≡ true
  period_over h =
      by_period (λ l p. subst (λ (x : ℕ). overloaded c x ≡ true) (sym p) (quiet_first.found l)) (λ l z. absurd (omega arith))

  pub period_first : (t : ℕ) → t < first_period c → overloaded c t ≡ false
  period_first t h = by_period (λ l p. none_before t (omega arith)) (λ l z. absurd (omega arith))

  -- IT FOLLOWS A START, so a bound on the starts bounds it
  pub period_follows : 0 < first_period c → (i : ℕ) × (i < c.count) × (first_period c ≡ suc (c.start i))
  period_follows h = at (first_period c - 1) (omega arith) (start_at (first_period c - 1))
    where
      at :
          (t : ℕ) → first_period c ≡ suc t → ((i : ℕ) × (i < c.count) × (c.start i ≡ t)) ⊎ ((i : ℕ) → i < c.count → c.start i ≢ t)
          → (i : ℕ) × (i < c.count) × (first_period c ≡ suc (c.start i))
      at t e (inl w) = (w.0, w.1, omega (arith, w.2))
      at t e (inr n) =
          clash
          (over_mono (suc t) t (λ k. only_rises t k n) (subst (λ (x : ℕ). overloaded c x ≡ true) e (period_over h)))
          (period_first t (omega arith))

  pub period_bound : (b : ℕ) → ((i : ℕ) → i < c.count → c.start i < b) → first_period c ≤ b
  period_bound b h = go (dec_lt 0 (first_period c))
    where
      go : Dec (0 < first_period c) → first_period c ≤ b
      go (yes l) = let w = period_follows l in omega (arith, w.2, h w.0 w.1)
      go (no l) = omega arith
