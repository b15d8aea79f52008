-- What is written one after another, each of at most some bytes: pieces, and what a loop keeps that writes lines.
use mathlib.Core.Path.{◌≡◌, sym, ap, ◌∙◌}
use mathlib.Core.List.{List, ◌++◌}
use Prim.Native.Nat.{ℕ, zero, suc, ◌+◌, ◌*◌, ◌≤◌, ◌<◌}
use native.Mathlib.Omega.{arith}
use native.Mathlib.Nat.{mul-le-mul_left}
use native.Mathlib.Numerals.{add-one}
use lib.ListN.{length, length-append}
use Rattle.records.specs.Records.{joined}
use Rattle.lines.specs.Text.{Text, text, more}
use Rattle.lines.proofs.Texts.{more_length, more_more, more_none, grown, grown_by}

-- ---- pieces

-- l, of at most `most` bytes, is written behind t
pub record Short (t : Text) (most : ℕ) (l : List ℕ) (u : Text) : Type 0 where
  pub done : u ≡ more t l
  pub few : length l ≤ most

module _ {t : Text} {most : ℕ} {l : List ℕ} {u : Text} (p : Short t most l u) where
  -- there is room for k more
  pub short_room : (k : ℕ) → t.at + (most + k) ≤ length t.out → u.at + k ≤ length u.out
  short_room k h =
      let at : u.at ≡ t.at + length l = ap (λ (x : Text). x.at) p.done in
      let long : length u.out ≡ length t.out =
      ap (λ (x : Text). length x.out) p.done ∙ more_length t l (omega (arith, p.few)) in
      omega (arith, p.few)

  pub short_more : {w : Text} (k : ℕ) (b : List ℕ) → w ≡ more u b → length b ≤ k → t.at + (most + k) ≤ length t.out
      → Short t (most + k) (l ++ b) w
  short_more k b done few h =
      record {
        done = done ∙ ap (λ (x : Text). more x b) p.done ∙ more_more t l b (omega (arith, p.few));
        few = omega (arith, p.few, length-append l b);
      }

-- ---- lines f 0, f 1, .., f (n - 1), each of at most `most` bytes

-- i of n lines are written behind the `at` bytes that were, up to byte `end`
pub record Putting (f : ℕ → List ℕ) (most n at : ℕ) (old : List ℕ) (i end : ℕ) (out : List ℕ) : Type 0 where
  pub some : i ≤ n
  pub short : end ≤ at + most * i
  pub done : text end out ≡ more (text at old) (joined f i)

pub joined_short : (f : ℕ → List ℕ) (most : ℕ) → ((k : ℕ) → length (f k) ≤ most) → (n : ℕ) → length (joined f n) ≤ most * n
unfolding joined
joined_short f most short zero = omega arith
joined_short f most short (suc n) =
    let e : most * suc n ≡ most * n + most = omega arith in
    omega (arith, length-append (joined f n) (f n), joined_short f most short n, short n)

joined_more : (f : ℕ → List ℕ) (n : ℕ) → joined f (n + 1) ≡ joined f n ++ f n
unfolding joined
joined_more f n = rw add-one

pub putting_none : {f : ℕ → List ℕ} {most n at : ℕ} {old : List ℕ} → Putting f most n at old 0 at old
unfolding joined
putting_none {f} {most} {n} {at} {old} = record { some = omega arith; short = omega arith; done = sym (more_none (text at old)) }

module _ {f : ℕ → List ℕ} {most n at : ℕ} {old : List ℕ} {i end : ℕ} {out : List ℕ}
    (p : Putting f most n at old i end out) (fits : at + most * n ≤ length old) where
  so_far : end ≡ at + length (joined f i)
  so_far = grown_by at end (joined f i) old out p.done

  -- the bytes stay as long
  pub putting_length : length out ≡ length old
  putting_length =
      let l : most * i ≤ most * n = mul-le-mul_left most p.some in
      (grown at end (joined f i) old out (omega (arith, so_far, p.short)) p.done).1

  module _ (h : i < n) where
    further : most * i + most ≤ most * n
    further =
        let e : most * suc i ≡ most * i + most = omega arith in
        let l : most * suc i ≤ most * n = mul-le-mul_left most h in
        omega arith

    -- one more has room
    pub putting_room : end + most ≤ length out
    putting_room = omega (arith, further, p.short, putting_length)

    pub putting_next : {e : ℕ} {o : List ℕ} → text e o ≡ more (text end out) (f i) → length (f i) ≤ most → Putting f most n at old (i + 1) e o
    putting_next {e} {o} w l =
        let m : most * (i + 1) ≡ most * i + most = omega arith in
        record {
          some = omega arith;
          short = omega (arith, p.short, grown_by end e (f i) out o w);
          done =
              w
              ∙ ap (λ (t : Text). more t (f i)) p.done
              ∙ more_more (text at old) (joined f i) (f i) (omega (arith, further, so_far, p.short))
              ∙ ap (more (text at old)) (sym (joined_more f i));
        }

  -- all are written
  pub putting_end : n ≤ i → (text end out ≡ more (text at old) (joined f n)) × (end ≤ at + most * n)
  putting_end h =
      let e : i ≡ n = omega (arith, p.some) in
      (p.done ∙ rw e, rw e at p.short)
