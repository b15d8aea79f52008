-- The test for a repeated arc: what it says, and that it can be made on the part of a file in
-- which the arcs of a type stand.
use mathlib.Core.Path.{◌≡◌, sym, ap, ◌∙◌}
use mathlib.Core.Bool.{Bool, true, ◌&&◌}
use mathlib.Core.List.{List}
use mathlib.Core.Logic.{◌↔◌, ◌≢◌}
use Prim.Native.Nat.{ℕ, ◌+◌, ◌-◌, ◌<◌}
use native.Mathlib.Decide.{dec_lt}
use native.Mathlib.Omega.{arith}
use lib.Dec.{eqb}
use borrow.Author.Tests.{eqb-true, eq-eqb}
use Rattle.words.proofs.Tests.{and_left, and_right, and_both, test_same}
use Rattle.words.proofs.Firsts.{some_found, some_here}
use Rattle.records.specs.Bytes.{byte}
use Rattle.plan.specs.Records.{record_at, type_at, same_pair, arc_repeats}
use Rattle.plan.specs.Meaning.{Names}
use Rattle.plan.proofs.Places.{record_on}

-- a type and two ends are these others exactly where the three tests hold
pub ends_say : (a b c x y z : ℕ) → (eqb a x && (eqb b y && eqb c z) ≡ true) ↔ ((a ≡ x) × (b ≡ y) × (c ≡ z))
ends_say a b c x y z =
    let p : Bool = eqb a x in
    let q : Bool = eqb b y in
    let r : Bool = eqb c z in (
      (λ e. let f = and_right p (q && r) e in (eqb-true a x (and_left p (q && r) e), eqb-true b y (and_left q r f), eqb-true c z (and_right q r f))),
      (λ h. and_both p (q && r) (eq-eqb a x h.0) (and_both q r (eq-eqb b y h.1) (eq-eqb c z h.2))),
    )

pair_says : (q r : List ℕ) → (same_pair q r ≡ true) ↔ ((byte q 0 ≡ byte r 0) × (byte q 1 ≡ byte r 1) × (byte q 2 ≡ byte r 2))
pair_says q r = ends_say (byte q 0) (byte q 1) (byte q 2) (byte r 0) (byte r 1) (byte r 2)

-- AN EARLIER RECORD OF THE SAME TYPE NAMES THE PAIR
pub repeats_says : (s : List ℕ) (p i j : ℕ) → byte (record_at s p) 1 ≡ i + 1 → byte (record_at s p) 2 ≡ j + 1 → (arc_repeats s p ≡ true) ↔ Names s p (type_at s p) i j
unfolding arc_repeats
repeats_says s p i j f t =
    let same : ℕ → Bool = λ x. same_pair (record_at s x) (record_at s p) in (
      (λ e.
          let w = some_found p same e in
          let k = (pair_says (record_at s w.0) (record_at s p)).0 w.2 in
          record { place = w.0; there = w.1; typed = k.0; from = k.1 ∙ f; to = k.2 ∙ t }),
      (λ n. some_here p same n.place n.there ((pair_says (record_at s n.place) (record_at s p)).1 (n.typed, n.from ∙ sym f, n.to ∙ sym t))),
    )

-- where no record before a is of the type, the records from a on tell
pub repeats_on : (s : List ℕ) (a i type : ℕ) → ((x : ℕ) → x < a → type_at s x ≢ type) → type_at s (a + i) ≡ type → arc_repeats s (a + i) ≡ arc_repeats (record_at s a) i
unfolding arc_repeats
repeats_on s a i type none e = test_same _ _ (back, on)
  where
    -- record k of the part and record k of the rest of the file are one
    at : (k : ℕ) → same_pair (record_at (record_at s a) k) (record_at (record_at s a) i) ≡ same_pair (record_at s (a + k)) (record_at s (a + i))
    at k = rw (record_on s a k, record_on s a i)

    back : arc_repeats s (a + i) ≡ true → arc_repeats (record_at s a) i ≡ true
    back h =
        let w = some_found (a + i) (λ x. same_pair (record_at s x) (record_at s (a + i))) h in
        go w.0 w.1 w.2 (dec_lt w.0 a)
      where
        go : (x : ℕ) → x < a + i → same_pair (record_at s x) (record_at s (a + i)) ≡ true → Dec (x < a) → arc_repeats (record_at s a) i ≡ true
        go x l h (yes b) = absurd (none x b (((pair_says (record_at s x) (record_at s (a + i))).0 h).0 ∙ e))
        go x l h (no b) =
            let q : a + (x - a) ≡ x = omega arith in
            some_here i (λ k. same_pair (record_at (record_at s a) k) (record_at (record_at s a) i)) (x - a) (omega arith)
            (at (x - a) ∙ ap (λ (y : ℕ). same_pair (record_at s y) (record_at s (a + i))) q ∙ h)

    on : arc_repeats (record_at s a) i ≡ true → arc_repeats s (a + i) ≡ true
    on h =
        let w = some_found i (λ k. same_pair (record_at (record_at s a) k) (record_at (record_at s a) i)) h in
        some_here (a + i) (λ x. same_pair (record_at s x) (record_at s (a + i))) (a + w.0) (omega (arith, w.1)) (sym (at w.0) ∙ w.2)
