-- Numbers in columns: which characters stand there, and the loop that writes them from the right.
use mathlib.Core.Path.{◌≡◌, refl, sym, ap, subst, ◌∙◌}
use mathlib.Core.List.{List, [], ◌++◌, append-nil}
use Prim.Native.Nat.{ℕ, zero, suc, ◌+◌, ◌*◌, ◌-◌, ◌/◌, ◌%◌, ◌^◌, ◌≤◌, ◌<◌}
use native.Mathlib.Omega.{arith}
use native.Mathlib.Nat.{add-zero, add-suc, sub_self, div-one, pow-le-pow_right, div-lt_iff_lt-mul, le-div_iff_mul-le}
use lib.Dec.{ltb}
use lib.ListN.{length, get_or, set, take, drop, replicate, length-append, length-drop, length-replicate, get_or-replicate, get_or-append, take-append-drop}
use lib.Seq.{get_or-drop, get_or-append-add, drop-length}
use borrow.Author.Tests.{ltb-true, ltb-false, eq-eqb, ne_eqb}
use Rattle.words.proofs.Tests.{by_test}
use Rattle.lines.specs.Text.{text, more, places, decimal}
use Rattle.lines.proofs.Decimals.{positive, places_some, places_hold, places_least, length_decimal, decimal_at, divided}
use Rattle.lines.proofs.Texts.{set_before}
use Rattle.crew_sheet.specs.Sheet.{column}
use Rattle.crew_sheet.specs.model.Figures.{figure_of}

pub length_column : (w x : ℕ) → length (column w x) ≡ w
unfolding column
length_column w x = rw (length-drop, length-append, length-replicate, length_decimal) (omega arith)

-- a number that fits stands behind blanks
pub column_fits : (w x : ℕ) → places x ≤ w → column w x ≡ replicate (w - places x) 32 ++ decimal x
unfolding column
column_fits w x h = dropped (places x) w h
  where
    dropped : (p v : ℕ) → p ≤ v → drop p (replicate v 32 ++ decimal x) ≡ replicate (v - p) 32 ++ decimal x
    dropped zero v l =
        let e : v - 0 ≡ v = omega arith in
        rw e
    dropped (suc p) zero l = absurd (omega arith)
    dropped (suc p) (suc v) l =
        let e : suc v - suc p ≡ v - p = omega arith in
        rw e (dropped p v (omega arith))

-- ---- the character at a place

figure_none : (rest tail : ℕ) → rest ≡ 0 → (tail ≡ 0 → ⊥) → figure_of rest tail ≡ 32
figure_none rest tail e n = rw (eq-eqb rest 0 e, ne_eqb tail 0 n)

figure_last : (rest tail : ℕ) → tail ≡ 0 → figure_of rest tail ≡ 48 + rest % 10
figure_last rest tail t =
    by_test (ltb 0 rest)
    (λ h. rw (ne_eqb rest 0 (λ e. omega (arith, ltb-true 0 rest h))))
    (λ h.
    let e : rest ≡ 0 = omega (arith, ltb-false 0 rest h) in
    rw (eq-eqb rest 0 e, eq-eqb tail 0 t) (omega arith))

figure_some : (rest tail : ℕ) → 0 < rest → figure_of rest tail ≡ 48 + rest % 10
figure_some rest tail h = rw (ne_eqb rest 0 (λ e. omega arith))

module _ (x : ℕ) (small : x < 10 ^ 20) where
  -- t digits hold it
  held : (t : ℕ) → places x ≤ t → figure_of (x / 10 ^ t) t ≡ 32
  held t h =
      let less : x < 1 * 10 ^ t = omega (arith, places_hold x small, pow-le-pow_right {n = 10} (omega arith) {i = places x} {j = t} h) in
      let none = (div-lt_iff_lt-mul {k = 10 ^ t} {x = x} {y = 1} (positive t)).1 less in
      figure_none (x / 10 ^ t) t (omega arith) (λ e. omega (arith, places_some x))

  -- t digits do not
  not_held : (t : ℕ) → t < places x → figure_of (x / 10 ^ t) t ≡ 48 + x / 10 ^ t % 10
  not_held zero h = figure_last (x / 10 ^ 0) 0 refl
  not_held (suc t) h =
      let some = (le-div_iff_mul-le {k = 10 ^ suc t} {x = 1} {y = x} (positive (suc t))).1 (omega (arith, places_least x t h)) in
      figure_some (x / 10 ^ suc t) (suc t) (omega arith)

  pub column_at : (w j : ℕ) → j < w → get_or (column w x) j 0 ≡ figure_of (x / 10 ^ (w - suc j)) (w - suc j)
  unfolding column
  column_at w j h =
      let blanks : List ℕ = replicate w 32 in
      let p : ℕ = places x in
      let t : ℕ = w - suc j in
      let long : length blanks ≡ w = length-replicate w 32 in
      get_or-drop p (blanks ++ decimal x) j 0
      ∙ by_test (ltb t p)
      (λ l.
      let below : t < p = ltb-true t p l in
      let at : p + j ≡ length blanks + (p + j - w) = omega arith in
      let place : p - suc (p + j - w) ≡ t = omega arith in
      ap (λ k. get_or (blanks ++ decimal x) k 0) at
      ∙ get_or-append-add blanks (decimal x) (p + j - w) 0
      ∙ decimal_at x (p + j - w) (omega arith)
      ∙ ap (λ k. 48 + x / 10 ^ k % 10) place
      ∙ sym (not_held t below))
      (λ l.
      let above : p ≤ t = ltb-false t p l in
      get_or-append blanks (decimal x) 0 (p + j) (omega arith)
      ∙ get_or-replicate w (p + j) 32 0 (omega arith)
      ∙ sym (held t above))

-- ---- the loop that writes them, from the last to the first

-- the characters from the i-th on are written, and `rest` is what is left of x
pub record Aligning (at w x : ℕ) (old : List ℕ) (i rest : ℕ) (out : List ℕ) : Type 0 where
  pub some : i ≤ w
  pub left : rest ≡ x / 10 ^ (w - i)
  pub done : out ≡ take (at + i) old ++ drop i (column w x) ++ drop (at + w) old

module _ {at w x : ℕ} {old : List ℕ} where
  pub aligning_none : Aligning at w x old w x old
  aligning_none =
      let none : drop w (column w x) ≡ [] = ap (λ k. drop k (column w x)) (sym (length_column w x)) ∙ drop-length (column w x) in
      record { some = omega arith; left = rw (sub_self) (sym (div-one x)); done = rw (none, append-nil, take-append-drop) }

  aligning_one : (j rest : ℕ) (out : List ℕ) → x < 10 ^ 20 → Aligning at w x old (suc j) rest out → at + w ≤ length old
      → Aligning at w x old j (rest / 10) (set out (at + j) (figure_of rest (w - suc j)))
  aligning_one j rest out small s fits =
      let below : j < w = s.some in
      let e : w - j ≡ suc (w - suc j) = omega arith in
      let mark : get_or (column w x) j 0 ≡ figure_of rest (w - suc j) = column_at x small w j below ∙ rw s.left in
      record {
        some = omega arith;
        left = rw (e, s.left) (divided x (w - suc j));
        done =
            rw (s.done, ← mark, add-suc)
            (set_before old (column w x) (drop (at + w) old) (at + j) j (omega arith) (omega (arith, length_column w x)));
      }

  module _ {i rest : ℕ} {out : List ℕ} (s : Aligning at w x old i rest out) (fits : at + w ≤ length old) where
    pub aligning_next : x < 10 ^ 20 → 0 < i → {f : ℕ} → f ≡ figure_of rest (w - i)
        → Aligning at w x old (i - 1) (rest / 10) (set out (at + (i - 1)) f)
    aligning_next small h {f} q =
        let e : i ≡ suc (i - 1) = omega arith in
        rw q (subst (λ k. Aligning at w x old (i - 1) (rest / 10) (set out (at + (i - 1)) (figure_of rest (w - k)))) (sym e)
        (aligning_one (i - 1) rest out small (subst (λ k. Aligning at w x old k rest out) e s) fits))

    pub aligning_end : i ≡ 0 → text (at + w) out ≡ more (text at old) (column w x)
    aligning_end e = rw (length_column, s.done, e, add-zero)
