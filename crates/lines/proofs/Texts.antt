-- Text under way: what is written behind it, the loops that write, and how long lines are.
use mathlib.Core.Path.{◌≡◌, refl, sym, ap, subst, ◌∙◌}
use mathlib.Core.List.{List, [], ◌∷◌, ◌++◌, append_assoc, append-nil}
use Prim.Native.Nat.{ℕ, suc, ◌+◌, ◌*◌, ◌-◌, ◌/◌, ◌%◌, ◌^◌, ◌≤◌, ◌<◌}
use native.Mathlib.Omega.{arith}
use native.Mathlib.Nat.{add-zero, add-suc, add_assoc, sub_self, div-one}
use native.Mathlib.Numerals.{add-one}
use lib.ListN.{length, get_or, set, take, drop, length-append, take-append-drop}
use lib.Seq.{length-take-le, take_at, drop_at, drop-drop, set_split, set_at, append_snoc, take-suc, drop-cons, drop-length, take-length}
use Rattle.records.proofs.Steps.{length_written_at}
use Rattle.lines.specs.Text.{Text, places, decimal, spaced, line_of, text, more}
use Rattle.lines.proofs.Decimals.{places_most, length_decimal, decimal_at, divided}

-- ---- more bytes

pub more_length : (t : Text) (a : List ℕ) → t.at + length a ≤ length t.out → length (more t a).out ≡ length t.out
more_length t a h = length_written_at t.at a t.out h

pub more_more : (t : Text) (a b : List ℕ) → t.at + length a + length b ≤ length t.out → more (more t a) b ≡ more t (a ++ b)
more_more t a b h =
    let at : ℕ = t.at in
    let out : List ℕ = t.out in
    let new : List ℕ = take at out ++ a ++ drop (at + length a) out in
    let long : length (take at out ++ a) ≡ at + length a = rw (length-append, length-take-le at out (omega arith)) in
    let front : take (at + length a) new ≡ take at out ++ a = take_at (take at out ++ a) (drop (at + length a) out) (at + length a) long in
    let behind : drop (at + length a + length b) new ≡ drop (at + length a + length b) out =
    sym (drop-drop (length b) (at + length a) new)
    ∙ ap (drop (length b)) (drop_at (take at out ++ a) (drop (at + length a) out) (at + length a) long)
    ∙ drop-drop (length b) (at + length a) out in
    rw (front, behind, length-append, add_assoc, append_assoc (take at out) a b)

pub more_none : (t : Text) → more t [] ≡ t
more_none t = rw (add-zero, append-nil, take-append-drop)

-- one byte
pub more_one : (at b : ℕ) (out : List ℕ) → at < length out → text (at + 1) (set out at b) ≡ more (text at out) (b ∷ [])
more_one at b out h =
    ap (text (at + 1)) (set_split out at b h ∙ sym (append_snoc (take at out) b (drop (suc at) out)) ∙ rw add-one)

-- where text ends that some bytes were added to, and that it stays as long where there is room for them
pub grown_by : (at e : ℕ) (a old out : List ℕ) → text e out ≡ more (text at old) a → e ≡ at + length a
grown_by at e a old out w = ap (λ (t : Text). t.at) w

pub grown : (at e : ℕ) (a old out : List ℕ) → at + length a ≤ length old → text e out ≡ more (text at old) a
    → (e ≡ at + length a) × (length out ≡ length old)
grown at e a old out h w = (grown_by at e a old out w, ap (λ (t : Text). length t.out) w ∙ more_length (text at old) a h)

-- ---- the loop that writes digits, from the last to the first

-- the digits of x from the i-th on are written, and `rest` is what is left of x
pub record Spelling (at x : ℕ) (old : List ℕ) (i rest : ℕ) (out : List ℕ) : Type 0 where
  pub some : i ≤ places x
  pub left : rest ≡ x / 10 ^ (places x - i)
  pub done : out ≡ take (at + i) old ++ drop i (decimal x) ++ drop (at + places x) old

-- one byte more of a list, before those that are written
pub set_before : (old ds tail : List ℕ) (k j : ℕ) → k < length old → j < length ds
    → set (take (suc k) old ++ drop (suc j) ds ++ tail) k (get_or ds j 0) ≡ take k old ++ drop j ds ++ tail
set_before old ds tail k j h l =
    let long : length (take k old) ≡ k = length-take-le k old (omega arith) in
    rw (take-suc old k 0 h, drop-cons ds j 0 l, append_assoc (take k old ++ (get_or old k 0 ∷ [])) (drop (suc j) ds) tail, append_snoc)
    (set_at (take k old) (get_or old k 0) (drop (suc j) ds ++ tail) (get_or ds j 0) k long
    ∙ sym (append_assoc (take k old) (get_or ds j 0 ∷ drop (suc j) ds) tail))

module _ (at x : ℕ) (old : List ℕ) where
  spelling_one : (j rest : ℕ) (out : List ℕ) → Spelling at x old (suc j) rest out → at + 20 ≤ length old
      → Spelling at x old j (rest / 10) (set out (at + j) (48 + rest % 10))
  spelling_one j rest out s fits =
      let below : j < places x = s.some in
      let e : places x - j ≡ suc (places x - suc j) = omega arith in
      let digit : get_or (decimal x) j 0 ≡ 48 + rest % 10 = decimal_at x j below ∙ rw s.left in
      record {
        some = omega arith;
        left = rw (e, s.left) (divided x (places x - suc j));
        done =
            rw (s.done, ← digit, add-suc)
            (set_before old (decimal x) (drop (at + places x) old) (at + j) j (omega (arith, places_most x)) (omega (arith, length_decimal x)));
      }

  pub spelling_none : Spelling at x old (places x) x old
  spelling_none =
      let none : drop (places x) (decimal x) ≡ [] = rw (← length_decimal x, drop-length) in
      record { some = omega arith; left = rw (sub_self) (sym (div-one x)); done = rw (none, append-nil, take-append-drop) }

  module _ (i rest : ℕ) (out : List ℕ) (s : Spelling at x old i rest out) (fits : at + 20 ≤ length old) where
    pub spelling_next : 0 < i → Spelling at x old (i - 1) (rest / 10) (set out (at + (i - 1)) (48 + rest % 10))
    spelling_next h =
        let e : i ≡ suc (i - 1) = omega arith in
        spelling_one (i - 1) rest out (subst (λ k. Spelling at x old k rest out) e s) fits

    pub spelling_end : i ≡ 0 → text (at + places x) out ≡ more (text at old) (decimal x)
    spelling_end e = rw (length_decimal, s.done, e, add-zero)

-- ---- numbers

pub spaced_append : (a b : List ℕ) → spaced (a ++ b) ≡ spaced a ++ spaced b
unfolding spaced
spaced_append [] b = refl
spaced_append (n ∷ a) b = ap (λ l. 32 ∷ decimal n ++ l) (spaced_append a b) ∙ sym (append_assoc (32 ∷ decimal n) (spaced a) (spaced b))

pub length_spaced : (ns : List ℕ) → length (spaced ns) ≤ 21 * length ns
unfolding spaced
length_spaced [] = omega arith
length_spaced (n ∷ ns) =
    omega (arith, length-append (decimal n) (spaced ns), length_decimal n, places_most n, length_spaced ns)

pub spaced_next : (ns : List ℕ) (i : ℕ) → i < length ns → spaced (take (i + 1) ns) ≡ spaced (take i ns) ++ (32 ∷ decimal (get_or ns i 0))
unfolding spaced
spaced_next ns i h =
    let e : take (i + 1) ns ≡ take i ns ++ (get_or ns i 0 ∷ []) = rw add-one (take-suc ns i 0 h) in
    ap spaced e ∙ spaced_append (take i ns) (get_or ns i 0 ∷ [])
    ∙ ap (λ l. spaced (take i ns) ++ (32 ∷ l)) (append-nil (decimal (get_or ns i 0)))

-- i of the numbers are written behind the `at` bytes that were, up to byte `end`
pub record Listing (at : ℕ) (ns old : List ℕ) (i end : ℕ) (out : List ℕ) : Type 0 where
  pub some : i ≤ length ns
  pub done : text end out ≡ more (text at old) (spaced (take i ns))

module _ (at : ℕ) (ns old : List ℕ) where
  pub listing_none : Listing at ns old 0 at old
  unfolding spaced
  listing_none = record { some = omega arith; done = sym (more_none (text at old)) }

  module _ (i end : ℕ) (out : List ℕ) (l : Listing at ns old i end out) (fits : at + 21 * length ns ≤ length old) where
    so_far : length (spaced (take i ns)) ≤ 21 * i
    so_far = omega (arith, length_spaced (take i ns), length-take-le i ns l.some)

    so_long : (end ≡ at + length (spaced (take i ns))) × (length out ≡ length old)
    so_long = grown at end (spaced (take i ns)) old out (omega (arith, so_far, l.some)) l.done

    pub listing_room : i < length ns → end + 21 ≤ length out
    listing_room h = omega (arith, so_far, so_long)

    pub listing_next : i < length ns → (e : ℕ) (o : List ℕ) → text e o ≡ more (text (end + 1) (set out end 32)) (decimal (get_or ns i 0))
        → Listing at ns old (i + 1) e o
    listing_next h e o w =
        let d : List ℕ = decimal (get_or ns i 0) in
        let few : length d ≤ 20 = omega (arith, length_decimal (get_or ns i 0), places_most (get_or ns i 0)) in
        let room : end + 21 ≤ length out = listing_room h in
        record {
          some = omega arith;
          done =
              w
              ∙ ap (λ (t : Text). more t d) (more_one end 32 out (omega arith))
              ∙ more_more (text end out) (32 ∷ []) d (omega arith)
              ∙ ap (λ (t : Text). more t (32 ∷ d)) l.done
              ∙ more_more (text at old) (spaced (take i ns)) (32 ∷ d) (omega (arith, so_far))
              ∙ ap (more (text at old)) (sym (spaced_next ns i h));
        }

    pub listing_end : length ns ≤ i → text end out ≡ more (text at old) (spaced ns)
    listing_end h =
        let e : i ≡ length ns = omega (arith, l.some) in
        l.done ∙ rw (e, take-length)

-- ---- lines

-- a word, numbers, and the line's end are written one after another
module _ (at named : ℕ) (word ns old one : List ℕ) (fits : at + length word + 21 * length ns + 1 ≤ length old)
    (v : text named one ≡ more (text at old) word) where
  pub room_numbers : named + 21 * length ns ≤ length one
  room_numbers = omega (arith, grown at named word old one (omega arith) v)

  module _ (end : ℕ) (two : List ℕ) (w : text end two ≡ more (text named one) (spaced ns)) where
    pub line_end : end + 1 ≤ length two
    line_end =
        let a = grown at named word old one (omega arith) v in
        let l = length_spaced ns in
        let b = grown named end (spaced ns) one two (omega arith) w in
        omega arith

    pub line_more : {e : ℕ} {o : List ℕ} → text e o ≡ more (text end two) (10 ∷ []) → text e o ≡ more (text at old) (line_of word ns)
    unfolding line_of
    line_more u =
        let t : Text = text at old in
        let l = length_spaced ns in
        let long = length-append word (spaced ns) in
        u
        ∙ ap (λ (t : Text). more t (10 ∷ [])) (w ∙ ap (λ (t : Text). more t (spaced ns)) v ∙ more_more t word (spaced ns) (omega arith))
        ∙ more_more t (word ++ spaced ns) (10 ∷ []) (omega arith)

pub line_length : (word ns : List ℕ) → length (line_of word ns) ≤ length word + 21 * length ns + 1
unfolding line_of
line_length word ns = rw (length-append, length-append) (omega (arith, length_spaced ns))
