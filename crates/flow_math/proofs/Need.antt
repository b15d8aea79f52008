-- The computed need is the need, and the only one; elements without a demand do not change it.
use mathlib.Core.Path.{◌≡◌, refl, sym, ◌∙◌, ap, ap₂}
use mathlib.Core.Bool.{Bool, true, false, not, ◌&&◌, cond}
use mathlib.Core.Logic.{by_cases, ◌⊎◌, inl, inr, ⊎_elim}
use Prim.Native.Nat.{ℕ, zero, suc, ◌+◌, ◌≤◌, ◌<◌}
use native.Mathlib.Decide.{dec_le, ℕ_discrete}
use native.Mathlib.Omega.{arith}
use lib.Dec.{eqb, ltb}
use borrow.Author.Tests.{eq-eqb, ne_eqb, lt-ltb, ltb-true}
use Rattle.words.specs.Sums.{sum}
use Rattle.words.proofs.Tests
use Rattle.words.proofs.Sums
use Rattle.order.specs.Arcs.{StrictOrder}
use Rattle.order.proofs.Before.{strict_first}
use Rattle.flow_math.specs.Need.{Antichain, weight, Need}
use Rattle.flow_math.specs.Heaviest.{besides, heaviest, need_of}

-- each member of S below n is allowed by A
abbrev Within : ℕ → (ℕ → Bool) → (ℕ → Bool) → Type 0
Within n A S = (i : ℕ) → i < n → S i ≡ true → A i ≡ true

-- S, with k in or out as v says
abbrev put : (ℕ → Bool) → ℕ → Bool → ℕ → Bool
put S k v i = cond (eqb i k) v (S i)

put_same : (S : ℕ → Bool) (k : ℕ) (v : Bool) → put S k v k ≡ v
put_same S k v = rw (eq-eqb k k refl)

put_other : (S : ℕ → Bool) (k : ℕ) (v : Bool) (i : ℕ) → i < k → put S k v i ≡ S i
put_other S k v i l = rw (ne_eqb i k (λ e. omega arith))

weight_last : (k : ℕ) (d : ℕ → ℕ) (S : ℕ → Bool) → weight (suc k) d S ≡ weight k d S + cond (S k) (d k) 0
unfolding weight
weight_last k d S = Sums.sum_last k (λ i. cond (S i) (d i) 0)

-- equal demands, or equal members: equal weights
pub weight_same : (n : ℕ) (d e : ℕ → ℕ) (S : ℕ → Bool) → ((i : ℕ) → i < n → d i ≡ e i) → weight n d S ≡ weight n e S
unfolding weight
weight_same n d e S h =
    Sums.sum_cong n (λ i. cond (S i) (d i) 0) (λ i. cond (S i) (e i) 0) (λ i l. ap (λ (x : ℕ). cond (S i) x 0) (h i l))

pub weight_cong : (n : ℕ) (d : ℕ → ℕ) (S T : ℕ → Bool) → ((i : ℕ) → i < n → S i ≡ T i) → weight n d S ≡ weight n d T
unfolding weight
weight_cong n d S T e =
    Sums.sum_cong n (λ i. cond (S i) (d i) 0) (λ i. cond (T i) (d i) 0) (λ i l. ap (λ (t : Bool). cond t (d i) 0) (e i l))

weight_put : (k : ℕ) (d : ℕ → ℕ) (S : ℕ → Bool) (v : Bool) → weight (suc k) d (put S k v) ≡ weight k d S + cond v (d k) 0
weight_put k d S v =
    omega (
      arith,
      weight_last k d (put S k v),
      weight_cong k d (put S k v) S (put_other S k v),
      ap (λ (t : Bool). cond t (d k) 0) (put_same S k v),
    )

-- what `besides` says of its members
besides_allowed : (b : ℕ → ℕ → Bool) (k : ℕ) (A : ℕ → Bool) (i : ℕ) → besides b k A i ≡ true → A i ≡ true
besides_allowed b k A i h = Tests.and_left (A i) (not (b i k) && not (b k i)) h

besides_before : (b : ℕ → ℕ → Bool) (k : ℕ) (A : ℕ → Bool) (i : ℕ) → besides b k A i ≡ true → b i k ≡ true → ⊥
besides_before b k A i h p =
    Tests.clash p
    (Tests.false_of_not (b i k)
    (Tests.and_left (not (b i k)) (not (b k i)) (Tests.and_right (A i) (not (b i k) && not (b k i)) h)))

besides_after : (b : ℕ → ℕ → Bool) (k : ℕ) (A : ℕ → Bool) (i : ℕ) → besides b k A i ≡ true → b k i ≡ true → ⊥
besides_after b k A i h p =
    Tests.clash p
    (Tests.false_of_not (b k i)
    (Tests.and_right (not (b i k)) (not (b k i)) (Tests.and_right (A i) (not (b i k) && not (b k i)) h)))

besides_in : (b : ℕ → ℕ → Bool) (k : ℕ) (A : ℕ → Bool) (i : ℕ) →
    A i ≡ true → (b i k ≡ true → ⊥) → (b k i ≡ true → ⊥) → besides b k A i ≡ true
besides_in b k A i h p q =
    let e : b i k ≡ false = Tests.fails (b i k) p in
    let f : b k i ≡ false = Tests.fails (b k i) q in
    rw (h, e, f)

-- the last element is left out, or it is taken
heaviest_out : (k : ℕ) (b : ℕ → ℕ → Bool) (d : ℕ → ℕ) (A : ℕ → Bool) → heaviest k b d A ≤ heaviest (suc k) b d A
unfolding heaviest
heaviest_out k b d A = omega arith

heaviest_in : (k : ℕ) (b : ℕ → ℕ → Bool) (d : ℕ → ℕ) (A : ℕ → Bool) → A k ≡ true →
    heaviest k b d (besides b k A) + d k ≤ heaviest (suc k) b d A
unfolding heaviest
heaviest_in k b d A h = rw h (omega arith)

heaviest_cases : (k : ℕ) (b : ℕ → ℕ → Bool) (d : ℕ → ℕ) (A : ℕ → Bool) →
    (heaviest (suc k) b d A ≡ heaviest k b d A)
    ⊎ ((A k ≡ true) × (heaviest (suc k) b d A ≡ heaviest k b d (besides b k A) + d k))
unfolding heaviest
heaviest_cases k b d A =
    by_cases (dec_le (cond (A k) (heaviest k b d (besides b k A) + d k) 0) (heaviest k b d A))
    (λ l. inl (omega arith))
    (λ l. Tests.by_test (A k)
    (λ e. inr (e, rw e (omega (arith, rw e at l))))
    (λ e. absurd (omega (arith, rw e at l))))

-- Every unrelated set that A allows weighs at most as much.
upper : (n : ℕ) (b : ℕ → ℕ → Bool) (d : ℕ → ℕ) (A S : ℕ → Bool) →
    Antichain n b S → Within n A S → weight n d S ≤ heaviest n b d A
unfolding weight sum
upper zero b d A S u w = omega arith
upper (suc k) b d A S u w =
    let v : Antichain k b S = λ i j l m. u i j (omega arith) (omega arith) in
    let o : weight k d S ≤ heaviest k b d A = upper k b d A S v (λ i l. w i (omega arith)) in
    Tests.by_test (S k)
    (λ e.
    let t : weight k d S ≤ heaviest k b d (besides b k A) =
    upper k b d (besides b k A) S v
    (λ i l s. besides_in b k A i (w i (omega arith) s)
    (u i k (omega arith) (omega arith) s e)
    (u k i (omega arith) (omega arith) e s)) in
    rw e (omega (arith, heaviest_in k b d A (w k (omega arith) e))))
    (λ e. rw e (omega (arith, heaviest_out k b d A)))

-- the members of a set into which the last element was put
put_out_members : (S : ℕ → Bool) (k i : ℕ) → i < suc k → put S k false i ≡ true → (i < k) × (S i ≡ true)
put_out_members S k i l h =
    by_cases (ℕ_discrete i k)
    (λ e. absurd (Tests.clash h (ap (put S k false) e ∙ put_same S k false)))
    (λ e. (omega arith, sym (put_other S k false i (omega arith)) ∙ h))

put_in_members : (S : ℕ → Bool) (k i : ℕ) → i < suc k → put S k true i ≡ true → (i ≡ k) ⊎ ((i < k) × (S i ≡ true))
put_in_members S k i l h =
    by_cases (ℕ_discrete i k)
    (λ e. inl e)
    (λ e. inr (omega arith, sym (put_other S k true i (omega arith)) ∙ h))

-- A set has the weight.
record Best (n : ℕ) (b : ℕ → ℕ → Bool) (d : ℕ → ℕ) (A : ℕ → Bool) : Type 0 where
  set : ℕ → Bool
  unrelated : Antichain n b set
  within : Within n A set
  weighs : weight n d set ≡ heaviest n b d A

module _ (k : ℕ) (b : ℕ → ℕ → Bool) (d : ℕ → ℕ) (A : ℕ → Bool) where
  best_out : Best k b d A → heaviest (suc k) b d A ≡ heaviest k b d A → Best (suc k) b d A
  best_out X e =
      record {
        set = put X.set k false;
        unrelated = λ i j l m s t.
            let p = put_out_members X.set k i l s in
            let q = put_out_members X.set k j m t in
            X.unrelated i j p.0 q.0 p.1 q.1;
        within = λ i l s. let p = put_out_members X.set k i l s in X.within i p.0 p.1;
        weighs = omega (arith, weight_put k d X.set false, X.weighs);
      }

  best_in : Best k b d (besides b k A) → (b k k ≡ true → ⊥) → A k ≡ true →
      heaviest (suc k) b d A ≡ heaviest k b d (besides b k A) + d k → Best (suc k) b d A
  best_in X r a e =
      record {
        set = put X.set k true;
        unrelated = λ i j l m s t h.
            pairs i j (put_in_members X.set k i l s) (put_in_members X.set k j m t) h;
        within = λ i l s. member i (put_in_members X.set k i l s);
        weighs = omega (arith, weight_put k d X.set true, X.weighs);
      }
    where
      member : (i : ℕ) → (i ≡ k) ⊎ ((i < k) × (X.set i ≡ true)) → A i ≡ true
      member i (inl p) = ap A p ∙ a
      member i (inr p) = besides_allowed b k A i (X.within i p.0 p.1)

      pairs : (i j : ℕ) → (i ≡ k) ⊎ ((i < k) × (X.set i ≡ true)) → (j ≡ k) ⊎ ((j < k) × (X.set j ≡ true)) →
          b i j ≡ true → ⊥
      pairs i j (inl p) (inl q) h = r (sym (ap₂ b p q) ∙ h)
      pairs i j (inl p) (inr q) h =
          besides_after b k A j (X.within j q.0 q.1) (sym (ap (λ (u : ℕ). b u j) p) ∙ h)
      pairs i j (inr p) (inl q) h = besides_before b k A i (X.within i p.0 p.1) (sym (ap (b i) q) ∙ h)
      pairs i j (inr p) (inr q) h = X.unrelated i j p.0 q.0 p.1 q.1 h

best : (n : ℕ) (b : ℕ → ℕ → Bool) (d : ℕ → ℕ) (A : ℕ → Bool) →
    ((i : ℕ) → i < n → b i i ≡ true → ⊥) → Best n b d A
unfolding weight sum heaviest
best zero b d A r =
    record {
      set = λ i. false;
      unrelated = λ i j l m s t h. omega arith;
      within = λ i l s. absurd (omega arith);
      weighs = refl;
    }
best (suc k) b d A r =
    ⊎_elim
    (λ e. best_out k b d A (best k b d A (λ i l. r i (omega arith))) e)
    (λ e. best_in k b d A (best k b d (besides b k A) (λ i l. r i (omega arith))) (r k (omega arith)) e.0 e.1)
    (heaviest_cases k b d A)

-- The computed need is the need.
pub need_of_need : (n : ℕ) (b : ℕ → ℕ → Bool) (d : ℕ → ℕ) → StrictOrder n b → Need n b d (need_of n b d)
unfolding need_of
need_of_need n b d o =
    let X = best n b d (λ i. true) o.irreflexive in
    record {
      set = X.set;
      unrelated = X.unrelated;
      weighs = X.weighs;
      most = λ S u. upper n b d (λ i. true) S u (λ i l s. refl);
    }

-- There is only one need.
pub need_unique : (n : ℕ) (b : ℕ → ℕ → Bool) (d : ℕ → ℕ) (x y : ℕ) → Need n b d x → Need n b d y → x ≡ y
need_unique n b d x y X Y =
    omega (arith, X.most Y.set Y.unrelated, Y.most X.set X.unrelated, X.weighs, Y.weighs)

pub need_is : (n : ℕ) (b : ℕ → ℕ → Bool) (d : ℕ → ℕ) (x : ℕ) → StrictOrder n b → Need n b d x → x ≡ need_of n b d
need_is n b d x o N = need_unique n b d x (need_of n b d) N (need_of_need n b d o)

-- Fewer pairs, no smaller need: what is unrelated in an order is unrelated in every order with fewer pairs.
pub need_fewer : (n : ℕ) (b c : ℕ → ℕ → Bool) (d : ℕ → ℕ) → StrictOrder n b → StrictOrder n c →
    ((i j : ℕ) → i < n → j < n → c i j ≡ true → b i j ≡ true) → need_of n b d ≤ need_of n c d
need_fewer n b c d o p fewer =
    let B = need_of_need n b d o in
    omega (arith, B.weighs, (need_of_need n c d p).most B.set (λ i j h l s t e. B.unrelated i j h l s t (fewer i j h l e)))

-- ---- elements without a demand

module _ (n m : ℕ) (b : ℕ → ℕ → Bool) (d : ℕ → ℕ) (l : n ≤ m) (z : (i : ℕ) → n ≤ i → i < m → d i ≡ 0) where
  pub weight_extend : (S : ℕ → Bool) → weight m d S ≡ weight n d S
  unfolding weight
  weight_extend S =
      Sums.sum_extend n m (λ i. cond (S i) (d i) 0) l
      (λ i h p. Tests.cond_has (λ x. x ≡ 0) (S i) (d i) 0 (λ e. z i h p) (λ e. refl))

  -- the need of the first n is the need of all m: its set, without what lies beyond n
  need_extend : Need n b d (need_of n b d) → Need m b d (need_of n b d)
  need_extend N =
      record {
        set = S;
        unrelated = λ i j h k s t.
            N.unrelated i j (within i s) (within j t) (Tests.and_right (ltb i n) (N.set i) s) (Tests.and_right (ltb j n) (N.set j) t);
        weighs = weight_extend S ∙ weight_cong n d S N.set (λ i h. rw (lt-ltb i n h)) ∙ N.weighs;
        most = λ T u. omega (arith, weight_extend T, N.most T (λ i j h k. u i j (omega arith) (omega arith)));
      }
    where
      S : ℕ → Bool
      S i = ltb i n && N.set i

      within : (i : ℕ) → S i ≡ true → i < n
      within i s = ltb-true i n (Tests.and_left (ltb i n) (N.set i) s)

-- Elements without a demand do not change the need.
pub need_of_extend : (n m : ℕ) (b : ℕ → ℕ → Bool) (d : ℕ → ℕ) → n ≤ m → ((i : ℕ) → n ≤ i → i < m → d i ≡ 0) →
    StrictOrder m b → need_of m b d ≡ need_of n b d
need_of_extend n m b d l z o =
    sym (need_is m b d (need_of n b d) o (need_extend n m b d l z (need_of_need n b d (strict_first n m b l o))))
