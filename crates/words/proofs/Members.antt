-- The members of a number: the lowest, the number without it, and the list of all, ascending.
use mathlib.Core.Path.{◌≡◌, refl, sym, ap, ap₂, ◌∙◌}
use mathlib.Core.Bool.{Bool, true, false, not, ◌&&◌, and-true, and-false, cond}
use mathlib.Core.List.{List, [], ◌∷◌, ◌++◌, map}
use mathlib.Core.Logic.{◌⊎◌, inl, inr, ⊎_elim}
use Prim.Native.Nat.{ℕ, zero, suc, ◌+◌, ◌-◌, ◌*◌, ◌/◌, ◌%◌, ◌^◌, ◌≤◌, ◌<◌, min}
use native.Mathlib.Omega.{arith}
use lib.Arith.{lt-one}
use lib.Bits.{bit_and, and_step, and_self, and_le_l, and_le_r}
use lib.Count.{count_trailing_zeros}
use lib.Dec.{eqb, eqb-suc-suc, eqb-suc-zero}
use borrow.Author.Tests.{eqb-true}
use Rattle.words.specs.Bits.{digit, bit, rest}
use Rattle.words.specs.Members.{first}
use Rattle.words.specs.Listing.{lead, members}
use Rattle.words.proofs.Tests.{by_test}
use Rattle.words.proofs.Bits
use Rattle.words.proofs.Firsts.{first_cong, at_first}

-- the lowest member of a number of k digits
abbrev low : ℕ → ℕ → ℕ
low k w = first k (bit w)

-- ---- a digit at a time

rest_even : (w : ℕ) → 0 < w → w % 2 ≡ 0 → (rest w / 2 ≡ rest (w / 2)) × (rest w % 2 ≡ 0)
rest_even w p e =
    let m : (w - 1) / 2 ≡ w / 2 - 1 = omega arith in
    let s : rest w ≡ rest (w / 2) * 2 + min (w % 2) ((w - 1) % 2) = and_step w (w - 1) ∙ ap (λ (x : ℕ). bit_and (w / 2) x * 2 + min (w % 2) ((w - 1) % 2)) m in
    (omega arith, omega arith)

rest_odd : (w : ℕ) → w % 2 ≡ 1 → (rest w / 2 ≡ w / 2) × (rest w % 2 ≡ 0)
rest_odd w e =
    let m : (w - 1) / 2 ≡ w / 2 = omega arith in
    let s : rest w ≡ w / 2 * 2 + min (w % 2) ((w - 1) % 2) = and_step w (w - 1) ∙ ap (λ (x : ℕ). bit_and (w / 2) x * 2 + min (w % 2) ((w - 1) % 2)) m ∙ ap (λ (x : ℕ). x * 2 + min (w % 2) ((w - 1) % 2)) (and_self (w / 2)) in
    (omega arith, omega arith)

abbrev step : ℕ → ℕ → Bool → ℕ
step k w b = elim b [ true ↦ 0 | false ↦ suc (first k (λ i. bit w (suc i))) ]

low_odd : (k w : ℕ) → w % 2 ≡ 1 → low (suc k) w ≡ 0
unfolding first
low_odd k w e = ap (step k w) (Bits.bit_one w 0 (Bits.digit_first w ∙ e))

low_even : (k w : ℕ) → w % 2 ≡ 0 → low (suc k) w ≡ suc (low k (w / 2))
unfolding first
low_even k w e =
    ap (step k w) (Bits.bit_none w 0 (Bits.digit_first w ∙ e))
    ∙ ap suc (first_cong k (λ i. bit w (suc i)) (bit (w / 2)) (λ i h. Bits.bit_suc w i))

-- `trailing_zeros` is the lowest member
pub trailing_first : (k w : ℕ) → count_trailing_zeros k w ≡ first k (bit w)
unfolding count_trailing_zeros first
trailing_first zero w = refl
trailing_first (suc k) w =
    ⊎_elim
    (λ e. rw e (ap suc (trailing_first k (w / 2)) ∙ sym (low_even k w e)))
    (λ e. rw e (sym (low_odd k w e)))
    (Bits.even_or_odd w)

-- ---- the lowest member

none_or_more : (w : ℕ) → (w ≡ 0) ⊎ (0 < w)
none_or_more zero = inl refl
none_or_more (suc w) = inr (omega arith)

pub low_lt : (k w : ℕ) → 0 < w → w < 2 ^ k → first k (bit w) < k
low_lt zero w p h = absurd (omega arith)
low_lt (suc k) w p h =
    ⊎_elim
    (λ e. omega (arith, low_even k w e, low_lt k (w / 2) (omega arith) (Bits.half_lt k w h)))
    (λ e. omega (arith, low_odd k w e))
    (Bits.even_or_odd w)

-- the same of a number b that code has in hand
pub low_place : (k w : ℕ) {b : ℕ} → (w ≡ 0 → ⊥) → w < 2 ^ k → b ≡ first k (bit w) → b < k
low_place k w n h q = rw q (low_lt k w (omega arith) h)

pub low_member : (k w : ℕ) → 0 < w → w < 2 ^ k → bit w (first k (bit w)) ≡ true
low_member k w p h = at_first k (bit w) (low_lt k w p h)

-- ---- the number without its lowest member

pub rest_lt : (w : ℕ) → (w ≡ 0 → ⊥) → rest w < w
rest_lt w n = omega (arith, and_le_r w (w - 1))

-- the same of a number v that code has in hand
pub rest_less : {v : ℕ} (w : ℕ) → (w ≡ 0 → ⊥) → v ≡ rest w → v < w
rest_less w n e = rw e (rest_lt w n)

pub rest_le : (w : ℕ) → rest w ≤ w
rest_le w = and_le_l w (w - 1)

rest_none : (w i : ℕ) (t : Bool) → w ≡ 0 → bit (rest w) i ≡ bit w i && t
rest_none w i t z =
    ap (λ (x : ℕ). bit (rest x) i) z ∙ Bits.bit_zero i
    ∙ sym (ap (λ (b : Bool). b && t) (ap (λ (x : ℕ). bit x i) z ∙ Bits.bit_zero i))

pub bit_rest : (k w i : ℕ) → w < 2 ^ k → bit (rest w) i ≡ bit w i && not (eqb i (first k (bit w)))
bit_rest zero w i h = rest_none w i (not (eqb i (low 0 w))) (lt-one h)
bit_rest (suc k) w i h =
    ⊎_elim (rest_none w i (not (eqb i (low (suc k) w)))) (λ p. ⊎_elim (even (λ j. bit_rest k (w / 2) j (Bits.half_lt k w h)) i p) (odd i) (Bits.even_or_odd w)) (none_or_more w)
  where
    even : ((j : ℕ) → bit (rest (w / 2)) j ≡ bit (w / 2) j && not (eqb j (low k (w / 2)))) → (i : ℕ) → 0 < w → w % 2 ≡ 0 → bit (rest w) i ≡ bit w i && not (eqb i (low (suc k) w))
    even ih zero p e =
        Bits.bit_none (rest w) 0 (Bits.digit_first (rest w) ∙ (rest_even w p e).1)
        ∙ ap (λ (b : Bool). b && not (eqb 0 (low (suc k) w))) (sym (Bits.bit_none w 0 (Bits.digit_first w ∙ e)))
    even ih (suc i) p e =
        Bits.bit_suc (rest w) i ∙ ap (λ (x : ℕ). bit x i) (rest_even w p e).0 ∙ ih i
        ∙ ap₂ (λ (a b : Bool). a && not b) (sym (Bits.bit_suc w i)) (sym (ap (eqb (suc i)) (low_even k w e) ∙ eqb-suc-suc i (low k (w / 2))))

    odd : (i : ℕ) → w % 2 ≡ 1 → bit (rest w) i ≡ bit w i && not (eqb i (low (suc k) w))
    odd zero e =
        Bits.bit_none (rest w) 0 (Bits.digit_first (rest w) ∙ (rest_odd w e).1) ∙ sym (and-false (bit w 0))
        ∙ ap (λ (x : ℕ). bit w 0 && not (eqb 0 x)) (sym (low_odd k w e))
    odd (suc i) e =
        Bits.bit_suc (rest w) i ∙ ap (λ (x : ℕ). bit x i) (rest_odd w e).0 ∙ sym (Bits.bit_suc w i) ∙ sym (and-true (bit w (suc i)))
        ∙ ap (λ (b : Bool). bit w (suc i) && not b) (sym (ap (eqb (suc i)) (low_odd k w e) ∙ eqb-suc-zero i))

-- a member is the lowest, or one of the rest
pub digit_rest : (k w i : ℕ) → w < 2 ^ k → digit w i ≡ 1 → (digit (rest w) i ≡ 1) ⊎ (i ≡ first k (bit w))
digit_rest k w i h e =
    by_test (eqb i (low k w))
    (λ t. inr (eqb-true i (low k w) t))
    (λ f. inl (Bits.digit_one (rest w) i (bit_rest k w i h ∙ ap₂ (λ (a b : Bool). a && not b) (Bits.bit_one w i e) f)))

-- ---- the list of the members

pub members_none : (k : ℕ) → members k 0 ≡ []
unfolding members
members_none zero = refl
members_none (suc k) = ap (map suc) (members_none k)

-- a number that is not 0 is its lowest member, and then the rest
pub members_more : (k w : ℕ) → 0 < w → w < 2 ^ k → members k w ≡ first k (bit w) ∷ members k (rest w)
unfolding members
members_more zero w p h = absurd (omega arith)
members_more (suc k) w p h =
    ⊎_elim
    (λ e. rw (low_even k w e, (rest_even w p e).0, (rest_even w p e).1, e, members_more k (w / 2) (omega arith) (Bits.half_lt k w h)))
    (λ e. rw (low_odd k w e, (rest_odd w e).0, (rest_odd w e).1, e))
    (Bits.even_or_odd w)

-- b is in the list
abbrev pub Has : ℕ → List ℕ → Type 0
Has b [] = ⊥
Has b (x ∷ xs) = (b ≡ x) ⊎ Has b xs

has_suc : (b : ℕ) (xs : List ℕ) → Has b xs → Has (suc b) (map suc xs)
has_suc b [] h = h
has_suc b (x ∷ xs) h = ⊎_elim (λ e. inl (ap suc e)) (λ m. inr (has_suc b xs m)) h

has_lead : (d b : ℕ) (xs : List ℕ) → Has b xs → Has b (lead d xs)
has_lead zero b xs h = h
has_lead (suc d) b xs h = inr h

-- every member below k is in the list
pub member_has : (k w b : ℕ) → b < k → digit w b ≡ 1 → Has b (members k w)
unfolding members
member_has zero w b h e = absurd (omega arith)
member_has (suc k) w zero h e = rw (sym (Bits.digit_first w) ∙ e) (inl refl)
member_has (suc k) w (suc b) h e =
    has_lead (w % 2) (suc b) (map suc (members k (w / 2)))
    (has_suc b (members k (w / 2)) (member_has k (w / 2) b (omega arith) (sym (Bits.digit_next w b) ∙ e)))

has_pred : (b : ℕ) (xs : List ℕ) → Has (suc b) (map suc xs) → Has b xs
has_pred b [] h = h
has_pred b (x ∷ xs) h = ⊎_elim (λ e. inl (omega arith)) (λ m. inr (has_pred b xs m)) h

not_zero : (xs : List ℕ) → Has 0 (map suc xs) → ⊥
not_zero [] h = h
not_zero (x ∷ xs) h = ⊎_elim (λ e. omega arith) (λ m. not_zero xs m) h

lead_zero : (d : ℕ) (xs : List ℕ) → Has 0 (lead d (map suc xs)) → 0 < d
lead_zero zero xs h = absurd (not_zero xs h)
lead_zero (suc d) xs h = omega arith

lead_suc : (d b : ℕ) (xs : List ℕ) → Has (suc b) (lead d (map suc xs)) → Has b xs
lead_suc zero b xs h = has_pred b xs h
lead_suc (suc d) b xs h = ⊎_elim (λ e. absurd (omega arith)) (λ m. has_pred b xs m) h

-- and whatever is in the list is a member, below k
pub has_member : (k w b : ℕ) → Has b (members k w) → (digit w b ≡ 1) × (b < k)
unfolding members
has_member zero w b h = absurd h
has_member (suc k) w zero h = (omega (arith, Bits.digit_first w, lead_zero (w % 2) (members k (w / 2)) h), omega arith)
has_member (suc k) w (suc b) h =
    let r = has_member k (w / 2) b (lead_suc (w % 2) b (members k (w / 2)) h) in
    (Bits.digit_next w b ∙ r.0, omega (arith, r.1))

-- the list goes on with larger members
ascend_suc : (ys : List ℕ) → ((y c : ℕ) (zs : List ℕ) → ys ≡ y ∷ zs → Has c zs → y < c)
    → (b c : ℕ) (xs : List ℕ) → map suc ys ≡ b ∷ xs → Has c xs → b < c
ascend_suc [] ih b c xs e h = absurd (cc)
ascend_suc (y ∷ zs) ih b c xs e h =
    let p : b ≡ suc y = cc in
    let q : xs ≡ map suc zs = cc in
    later c (rw q at h) p
  where
    later : (c : ℕ) → Has c (map suc zs) → b ≡ suc y → b < c
    later zero m p = absurd (not_zero zs m)
    later (suc c) m p = omega (arith, ih y c zs refl (has_pred c zs m))

pub members_ascend : (k w b c : ℕ) (xs : List ℕ) → members k w ≡ b ∷ xs → Has c xs → b < c
unfolding members
members_ascend zero w b c xs e h = absurd (cc)
members_ascend (suc k) w b c xs e h =
    ⊎_elim
    (λ z. ascend_suc (members k (w / 2)) (λ y d zs. members_ascend k (w / 2) y d zs) b c xs
    (sym (ap (λ (d : ℕ). lead d (map suc (members k (w / 2)))) z) ∙ e) h)
    (λ o. odd (members k (w / 2)) c (sym (ap (λ (d : ℕ). lead d (map suc (members k (w / 2)))) o) ∙ e) h)
    (Bits.even_or_odd w)
  where
    odd : (ys : List ℕ) (c : ℕ) → 0 ∷ map suc ys ≡ b ∷ xs → Has c xs → b < c
    odd ys zero e h = let q : xs ≡ map suc ys = cc in absurd (not_zero ys (rw q at h))
    odd ys (suc c) e h = let p : b ≡ 0 = cc in omega arith

-- the members below k + 1 are those below k, and k if it is one
abbrev pub only : Bool → ℕ → List ℕ
only b x = cond b (x ∷ []) []

lead_append : (d : ℕ) (xs ys : List ℕ) → lead d (xs ++ ys) ≡ lead d xs ++ ys
lead_append zero xs ys = refl
lead_append (suc d) xs ys = refl

map_append : (xs ys : List ℕ) → map suc (xs ++ ys) ≡ map suc xs ++ map suc ys
map_append [] ys = refl
map_append (x ∷ xs) ys = ap (λ (l : List ℕ). suc x ∷ l) (map_append xs ys)

map_only : (b : Bool) (x : ℕ) → map suc (only b x) ≡ only b (suc x)
map_only true x = refl
map_only false x = refl

pub members_last : (k w : ℕ) → members (suc k) w ≡ members k w ++ only (bit w k) k
unfolding members
members_last zero w =
    ⊎_elim
    (λ e. ap (λ (d : ℕ). lead d []) e ∙ sym (ap (λ (b : Bool). only b 0) (Bits.bit_none w 0 (Bits.digit_first w ∙ e))))
    (λ e. ap (λ (d : ℕ). lead d []) e ∙ sym (ap (λ (b : Bool). only b 0) (Bits.bit_one w 0 (Bits.digit_first w ∙ e))))
    (Bits.even_or_odd w)
members_last (suc k) w =
    ap (λ (l : List ℕ). lead (w % 2) (map suc l)) (members_last k (w / 2))
    ∙ ap (lead (w % 2)) (map_append (members k (w / 2)) (only (bit (w / 2) k) k) ∙ ap (λ (l : List ℕ). map suc (members k (w / 2)) ++ l) (map_only (bit (w / 2) k) k))
    ∙ lead_append (w % 2) (map suc (members k (w / 2))) (only (bit (w / 2) k) (suc k))
    ∙ ap (λ (b : Bool). lead (w % 2) (map suc (members k (w / 2))) ++ only b (suc k)) (sym (Bits.bit_suc w k))
