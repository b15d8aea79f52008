-- Where the records stand: the leading records of a type, and the record of a part of the file.
use mathlib.Core.Path.{◌≡◌, refl, sym, ap, ap₂, ◌∙◌}
use mathlib.Core.Bool.{Bool, true, false, cond}
use mathlib.Core.List.{List}
use Prim.Native.Nat.{ℕ, zero, suc, ◌+◌, ◌*◌, ◌≤◌, ◌<◌}
use native.Mathlib.Omega.{arith}
use lib.ListN.{drop}
use lib.Seq.{drop-drop}
use lib.Dec.{eqb}
use borrow.Author.Tests.{eqb-true, eqb-false}
use Rattle.records.specs.Bytes.{byte}
use Rattle.plan.specs.Records.{record_at, leading}

-- record i of the part of the file from record a on
pub record_on : (s : List ℕ) (a i : ℕ) → record_at (record_at s a) i ≡ record_at s (a + i)
record_on s a i =
    let e : 24 * a + 24 * i ≡ 24 * (a + i) = omega arith in
    drop-drop (24 * i) (24 * a) s ∙ ap (λ (x : ℕ). drop x s) e

-- what follows record a
pub record_next : (s : List ℕ) (a : ℕ) → drop 24 (record_at s a) ≡ record_at s (a + 1)
record_next s a =
    let e : 24 * a + 24 ≡ 24 * (a + 1) = omega arith in
    drop-drop 24 (24 * a) s ∙ ap (λ (x : ℕ). drop x s) e

-- ---- the leading records of a type

pub leading_le : (type n : ℕ) (t : List ℕ) → leading type n t ≤ n
unfolding leading
leading_le type zero t = omega arith
leading_le type (suc n) t = go (eqb (byte t 0) type) (leading_le type n (drop 24 t))
  where
    go : (b : Bool) {m : ℕ} → m ≤ n → cond b (suc m) 0 ≤ suc n
    go true h = omega arith
    go false h = omega arith

pub leading_typed : (type n : ℕ) (t : List ℕ) (i : ℕ) → i < leading type n t → byte (record_at t i) 0 ≡ type
unfolding leading
leading_typed type zero t i h = absurd (omega arith)
leading_typed type (suc n) t i h = go (eqb (byte t 0) type) refl i (leading_typed type n (drop 24 t)) h
  where
    go : (b : Bool) → eqb (byte t 0) type ≡ b → (i : ℕ) → ((x : ℕ) → x < leading type n (drop 24 t) → byte (drop (24 * x) (drop 24 t)) 0 ≡ type)
        → i < cond b (suc (leading type n (drop 24 t))) 0 → byte (drop (24 * i) t) 0 ≡ type
    go true e zero ih h = eqb-true (byte t 0) type e
    go true e (suc i) ih h =
        let z : 24 + 24 * i ≡ 24 * suc i = omega arith in
        ap (λ (x : ℕ). byte (drop x t) 0) (sym z) ∙ ap (λ (u : List ℕ). byte u 0) (sym (drop-drop (24 * i) 24 t)) ∙ ih i (omega arith)
    go false e i ih h = absurd (omega arith)

-- the record after them is of another type
pub leading_ends : (type n : ℕ) (t : List ℕ) → leading type n t < n → byte (record_at t (leading type n t)) 0 ≡ type → ⊥
unfolding leading
leading_ends type zero t h = absurd (omega arith)
leading_ends type (suc n) t h = go (eqb (byte t 0) type) refl (leading_ends type n (drop 24 t)) h
  where
    l : ℕ
    l = leading type n (drop 24 t)

    go : (b : Bool) → eqb (byte t 0) type ≡ b → (l < n → byte (drop (24 * l) (drop 24 t)) 0 ≡ type → ⊥) → cond b (suc l) 0 < suc n
        → byte (drop (24 * cond b (suc l) 0) t) 0 ≡ type → ⊥
    go true e ih h q =
        let z : 24 + 24 * l ≡ 24 * suc l = omega arith in
        ih (omega arith) (ap (λ (u : List ℕ). byte u 0) (drop-drop (24 * l) 24 t) ∙ ap (λ (x : ℕ). byte (drop x t) 0) z ∙ q)
    go false e ih h q = eqb-false (byte t 0) type e q

-- how many there are goes by the first bytes alone
pub leading_same : (type n : ℕ) (t u : List ℕ) → ((i : ℕ) → byte (record_at t i) 0 ≡ byte (record_at u i) 0) → leading type n t ≡ leading type n u
unfolding leading
leading_same type zero t u same = refl
leading_same type (suc n) t u same =
    let rest = leading_same type n (drop 24 t) (drop 24 u) (λ i. rw (record_on t 1 i, record_on u 1 i) (same (1 + i))) in
    ap₂ (λ (b m : ℕ). cond (eqb b type) (suc m) 0) (same 0) rest
