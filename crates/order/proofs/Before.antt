-- Laws of `Before`, the least transitive relation that holds the arcs, and of strict orders.
use Rattle.std.proofs.Common.{◌≡◌, ℕ, ◌<◌, ◌≤◌, Bool, ◌⊎◌, ◌↔◌, List, [], ◌∷◌, sym, refl, ap, subst, ap₂, inl, inr, ⊎_elim, arith}
use mathlib.Core.List.Memᴰ
use Rattle.order.specs.Before.{Before, last, more, Joined, Acyclic}
use Rattle.order.specs.Arcs.{With, NoArc, Within, StrictOrder, Drawn, Arc, arc, In}

-- ---- transitive, and the least such relation that holds the arcs

pub before_trans : {A : ℕ → ℕ → Type 0} {i j k : ℕ} → Before A i j → Before A j k → Before A i k
before_trans (last m) c = more m c
before_trans (more m b) c = more m (before_trans b c)

pub before_least : {A : ℕ → ℕ → Type 0} (R : ℕ → ℕ → Type 0) → ((i j : ℕ) → A i j → R i j) → ((i j k : ℕ) → R i j → R j k → R i k)
    → {i j : ℕ} → Before A i j → R i j
before_least R holds leads {i} {j} (last m) = holds i j m
before_least R holds leads {i} {j} (more {j = k} m b) = leads i k j (holds i k m) (before_least R holds leads b)

-- ---- other arcs

-- more arcs keep what is before what
pub before_map : {A B : ℕ → ℕ → Type 0} → ((i j : ℕ) → A i j → B i j) → {i j : ℕ} → Before A i j → Before B i j
before_map {A} {B} f b = before_least (Before B) (λ i j m. last (f i j m)) (λ i j k p q. before_trans p q) b

-- so the job order is part of the plan order
pub before_joined : {A B : ℕ → ℕ → Type 0} {i j : ℕ} → Before A i j → Before (Joined A B) i j
before_joined b = before_map (λ i j m. inl m) b

pub acyclic_joined : {A B : ℕ → ℕ → Type 0} → Acyclic (Joined A B) → Acyclic A
acyclic_joined free i b = free i (before_joined b)

-- the same arcs, the same order
pub before_same : {A B : ℕ → ℕ → Type 0} → ((i j : ℕ) → A i j ↔ B i j) → (i j : ℕ) → Before A i j ↔ Before B i j
before_same f i j = (before_map (λ x y. (f x y).0), before_map (λ x y. (f x y).1))

-- arcs that are implied already change nothing
pub before_implied : {A B : ℕ → ℕ → Type 0} → ((i j : ℕ) → B i j → Before A i j) → (i j : ℕ) → Before (Joined A B) i j ↔ Before A i j
before_implied {A} {B} f i j = (
  before_least (Before A) (λ x y. ⊎_elim (λ a. last a) (f x y)) (λ x y z p q. before_trans p q),
  before_joined,
)

-- the ends of a way are ends of arcs
pub before_within : (n : ℕ) {A : ℕ → ℕ → Type 0} → Within n A → {i j : ℕ} → Before A i j → (i < n) × (j < n)
before_within n w b = before_least (λ x y. (x < n) × (y < n)) w (λ x y z p q. (p.0, q.1)) b

pub drawn_within : (n : ℕ) (arcs : ℕ → ℕ → Bool) → Within n (Drawn n arcs)
drawn_within n arcs i j d = (d.from, d.to)

pub before_none : {i j : ℕ} → Before NoArc i j → ⊥
before_none b = before_least NoArc (λ x y m. m) (λ x y z p q. p) b

-- ---- the first n of the elements below m are in a strict order too

pub strict_first : (n m : ℕ) (b : ℕ → ℕ → Bool) → n ≤ m → StrictOrder m b → StrictOrder n b
strict_first n m b l o =
    record {
      irreflexive = λ i h. o.irreflexive i (omega arith);
      transitive = λ i j k h p q. o.transitive i j k (omega arith) (omega arith) (omega arith);
    }

-- ---- one arc more: a way that uses the arc goes to its one end, and on from its other

-- from i, in any number of steps, to j
abbrev pub Reaches : (ℕ → ℕ → Type 0) → ℕ → ℕ → Type 0
Reaches A i j = (i ≡ j) ⊎ Before A i j

abbrev pub Through : (ℕ → ℕ → Type 0) → ℕ → ℕ → ℕ → ℕ → Type 0
Through A x y i j = Reaches A i x × Reaches A y j

module _ {A : ℕ → ℕ → Type 0} (x y : ℕ) where
  reaches_on : {i j k : ℕ} → A i j → Reaches A j k → Reaches A i k
  reaches_on {i} m (inl e) = inr (subst (λ (z : ℕ). Before A i z) e (last m))
  reaches_on m (inr b) = inr (more m b)

  -- a step before nothing, or before a way
  ends : {i j : ℕ} → With A x y i j → Before A i j ⊎ Through A x y i j
  ends (inl m) = inl (last m)
  ends (inr e) = inr (inl e.0, inl (sym e.1))

  joins : {i j k : ℕ} → With A x y i j → Before A j k ⊎ Through A x y j k → Before A i k ⊎ Through A x y i k
  joins (inl m) (inl b) = inl (more m b)
  joins (inl m) (inr t) = inr (reaches_on m t.0, t.1)
  joins {k = k} (inr e) (inl b) = inr (inl e.0, inr (subst (λ (z : ℕ). Before A z k) e.1 b))
  joins (inr e) (inr t) = inr (inl e.0, t.1)

  there : {i j : ℕ} → Before (With A x y) i j → Before A i j ⊎ Through A x y i j
  there (last m) = ends m
  there (more m b) = joins m (there b)

  lift : {i j : ℕ} → Before A i j → Before (With A x y) i j
  lift b = before_map (λ i j m. inl m) b

  onward : {j : ℕ} → Reaches A y j → Before (With A x y) x j
  onward (inl e) = subst (λ (z : ℕ). Before (With A x y) x z) e (last (inr (refl, refl)))
  onward (inr b) = more (inr (refl, refl)) (lift b)

  around : {i j : ℕ} → Reaches A i x → Before (With A x y) x j → Before (With A x y) i j
  around {j = j} (inl e) b = subst (λ (z : ℕ). Before (With A x y) z j) (sym e) b
  around (inr c) b = before_trans (lift c) b

  pub before_with : (i j : ℕ) → Before (With A x y) i j ↔ (Before A i j ⊎ Through A x y i j)
  before_with i j = (there, ⊎_elim lift (λ t. around t.0 (onward t.1)))

-- a way from k that uses the arc would lead from k back to x: where x has an arc to k, and there is no circle, none does
pub before_lacking : {A : ℕ → ℕ → Type 0} (x y k : ℕ) → Acyclic (With A x y) → A x k → Before (With A x y) k y → Before A x y
before_lacking {A} x y k free m b = ⊎_elim (λ c. more m c) (λ t. absurd (back t.0)) ((before_with x y k y).0 b)
  where
    circle : Before A x x → ⊥
    circle c = free x (before_map (λ i j a. inl a) c)

    back : Reaches A k x → ⊥
    back (inl e) = circle (subst (λ (z : ℕ). Before A x z) e (last m))
    back (inr c) = circle (more m c)

-- ---- the arcs of a list

pub in_none : (i j : ℕ) → In [] i j ↔ NoArc i j
in_none i j = (Memᴰ.not-nil, λ m. absurd m)

pub in_cons : (a : Arc) (arcs : List Arc) (i j : ℕ) → In (a ∷ arcs) i j ↔ With (In arcs) a.from a.to i j
in_cons a arcs i j = (
  (λ m. ⊎_elim (λ e. inr (ap (λ (b : Arc). b.from) e, ap (λ (b : Arc). b.to) e)) (λ k. inl k) (Memᴰ.cases_cons m)),
  ⊎_elim (λ m. Memᴰ.tail m) (λ e. Memᴰ.head (same e.0 e.1)),
)
  where
    same : i ≡ a.from → j ≡ a.to → arc i j ≡ a
    same p q = ap₂ arc p q
