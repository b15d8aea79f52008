-- Laws of sets.
use Rattle.std.proofs.Common.{◌≡◌, ℕ, ◌^◌, ◌<◌, ◌≤◌, Bool, true, false, not, ◌&&◌, ◌||◌, eqb, Option, Some, None, sym, refl, ap, ◌∙◌, ⊎_elim, arith, eq-eqb, ne_eqb}
use native.Mathlib.Decide.{dec_lt}
use borrow.Author.Tests.{lt-ltb, le-ltb}
use lib.Bits.{bit_or}
use Rattle.words.specs.Bits.{bit, minus, rest}
use Rattle.words.specs.Members.{first}
use Rattle.std.specs.Bool.{then_some}
use Rattle.std.specs.Option.{MatchOption}
use Rattle.words.proofs.Bits.{bit_or_lem, bit_minus, bit_single, bit_zero}
use Rattle.words.proofs.Counts.{count_le}
use Rattle.words.proofs.Firsts.{at_first, first_none, first_stop}
use Rattle.words.proofs.Members.{low_place, bit_rest}
use Rattle.words.proofs.Tests.{same_or_not}
use Rattle.order.specs.Stored.{elements, bound, number_of, set_of}
use Rattle.order.specs.Sets.{member, without_element, without_lowest, union_of, size_of, lowest_of, found}
use Rattle.order.specs.declared.Set.{Set}
use Rattle.order.proofs.Stored.{number_set, in_bound}

-- the members of a set that is given by its number
pub member_set : (w i : ℕ) → member (set_of w) i ≡ bit w i
member_set w i = ap (λ (x : ℕ). bit x i) (number_set w)

-- ---- the members

pub member_without : (s : Set) (j i : ℕ) → member (without_element s j) i ≡ member s i && not (eqb i j)
member_without s j i = member_set (minus (number_of s) (2 ^ j)) i ∙ bit_minus (number_of s) (2 ^ j) i ∙ ap (λ (b : Bool). member s i && not b) (bit_single j i)

pub member_union : (s t : Set) (i : ℕ) → member (union_of s t) i ≡ member s i || member t i
member_union s t i = member_set (bit_or (number_of s) (number_of t)) i ∙ bit_or_lem (number_of s) (number_of t) i

-- ---- the lowest member

-- there is a lowest where there is a member
pub lowest_none : (s : Set) → number_of s ≡ 0 → elements ≤ lowest_of s
lowest_none s z = omega (arith, (first_none elements (member s)).1 (λ i h. ap (λ (w : ℕ). bit w i) z ∙ bit_zero i))

pub lowest_some : (s : Set) → (number_of s ≡ 0 → ⊥) → number_of s < bound → lowest_of s < elements
lowest_some s n fit = low_place elements (number_of s) n (in_bound fit) refl

pub lowest_member : (s : Set) → lowest_of s < elements → member s (lowest_of s) ≡ true
lowest_member s h = at_first elements (member s) h

-- ---- a first element as code hands it out: what it says

pub found_some : {i : ℕ} → i < elements → Some i ≡ found i
unfolding found
found_some {i} h = sym (ap (λ (t : Bool). then_some t i) (lt-ltb i elements h))

pub found_none : {i : ℕ} → elements ≤ i → None ≡ found i
unfolding found
found_none {i} h = sym (ap (λ (t : Bool). then_some t i) (le-ltb i elements h))

pub some_found : {i x : ℕ} → Some x ≡ found i → (x ≡ i) × (i < elements)
some_found {i} {x} e = at (dec_lt i elements)
  where
    at : Dec (i < elements) → (x ≡ i) × (i < elements)
    at (yes l) = let q = found_some l in (cc, l)
    at (no m) = let q : None ≡ found i = found_none (omega arith) in absurd (cc)

pub none_found : {i : ℕ} → None ≡ found i → elements ≤ i
none_found {i} e = at (dec_lt i elements)
  where
    at : Dec (i < elements) → elements ≤ i
    at (yes l) = let q = found_some l in absurd (cc)
    at (no m) = omega arith

-- the lowest member, where there is one
pub lowest_found : (s : Set) → number_of s < bound
    → then_some (not (eqb (number_of s) 0)) (lowest_of s) ≡ found (lowest_of s)
lowest_found s fit =
    ⊎_elim
    (λ z. ap (λ (t : Bool). then_some (not t) (lowest_of s)) (eq-eqb (number_of s) 0 z) ∙ found_none (lowest_none s z))
    (λ n. ap (λ (t : Bool). then_some (not t) (lowest_of s)) (ne_eqb (number_of s) 0 n) ∙ found_some (lowest_some s n fit))
    (same_or_not (number_of s) 0)

-- what a search through the elements finds
pub found_first : (r : Option ℕ) (p : ℕ → Bool)
    → MatchOption r ((k : ℕ) → 0 ≤ k → k < elements → p k ≡ false)
    (λ i. (0 ≤ i) × (i < elements) × (p i ≡ true) × ((k : ℕ) → 0 ≤ k → k < i → p k ≡ false))
    → r ≡ found (first elements p)
found_first None p none = found_none (omega (arith, (first_none elements p).1 (λ k l. none k (omega arith) l)))
found_first (Some i) p h =
    let e : i ≡ first elements p = first_stop elements p i (λ k l. h.3 k (omega arith) l) h.1 h.2 in
    ap Some e ∙ found_some (omega arith)

-- what `lowest` ensures of its answer, and what the answer says
abbrev pub Lowest : Set → Option ℕ → Type 0
Lowest s r = (r ≡ found (lowest_of s)) × (number_of s < bound)

module _ (s : Set) {r : Option ℕ} (e : Lowest s r) where
  pub given_lowest : {i : ℕ} → r ≡ Some i → (i ≡ lowest_of s) × (i < elements)
  given_lowest q = let f = some_found (sym q ∙ e.0) in (f.0, omega arith)

  pub given_some : {i : ℕ} → r ≡ Some i → number_of s ≡ 0 → ⊥
  given_some q z = omega (arith, some_found (sym q ∙ e.0), lowest_none s z)

  pub given_none : r ≡ None → number_of s ≡ 0
  given_none q =
      ⊎_elim (λ z. z) (λ n. absurd (omega (arith, none_found (sym q ∙ e.0), lowest_some s n e.1)))
      (same_or_not (number_of s) 0)

-- ---- the size

pub size_le : (s : Set) → size_of s ≤ elements
size_le s = count_le elements (member s)

-- ---- without its lowest member. The number of a set has a digit for each element: `is_empty` says so.

pub member_without_lowest : (s : Set) → number_of s < bound → (i : ℕ)
    → member (without_lowest s) i ≡ member s i && not (eqb i (lowest_of s))
member_without_lowest s fit i = member_set (rest (number_of s)) i ∙ bit_rest elements (number_of s) i (in_bound fit)
