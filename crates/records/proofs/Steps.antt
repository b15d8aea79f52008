-- The steps by which a record is written, put together.
use mathlib.Core.Path.{◌≡◌, refl, sym, ap, ap₂, ◌∙◌}
use mathlib.Core.List.{List, [], ◌∷◌, ◌++◌, append_assoc, append-nil}
use Prim.Native.Nat.{ℕ, zero, suc, ◌+◌, ◌-◌, ◌/◌, ◌%◌, ◌^◌, ◌≤◌}
use native.Mathlib.Omega.{arith}
use native.Mathlib.Nat.{le_of_eq}
use lib.ListN.{length, set, take, drop, replicate, length-append, length-drop, drop_of_length-le}
use lib.Seq.{length-take-le, take_all, drop-drop}
use borrow.Rule.Slice.PartMut.{put_mid}
use Rattle.std.specs.Int.{to_le_bytes, w32, w64, bytes_low_first, byte_at}
use Rattle.std.proofs.Math.Nat.{div-div-eq-div-mul, pow-suc}
use Rattle.records.specs.Records.{bytes, flow_record, overload_record, starting_with, written_at}

-- a writing that has room changes no length
pub length_written_at : (at : ℕ) (r out : List ℕ) → at + length r ≤ length out → length (written_at at r out) ≡ length out
length_written_at at r out h = rw (length-append, length-append, length-take-le at out (omega arith), length-drop) (omega arith)

-- the front of the lent bytes, filled with zeros
pub zeroed : (out : List ℕ) {z : List ℕ} → z ≡ replicate (length (take 24 out)) 0 → 24 ≤ length out → z ≡ replicate 24 0
zeroed out e room = e ∙ ap (λ (n : ℕ). replicate n 0) (length-take-le 24 out room)

-- the bytes of a number from byte i on, as the library has them
low_first : (i k x : ℕ) → bytes_low_first i k x ≡ bytes k (x / 256 ^ i)
unfolding bytes
low_first i zero x = refl
low_first i (suc k) x =
    let on : x / 256 ^ suc i ≡ x / 256 ^ i / 256 = ap (λ (p : ℕ). x / p) (pow-suc 256 i) ∙ sym (div-div-eq-div-mul x (256 ^ i) 256) in
    ap₂ (λ (b : ℕ) (l : List ℕ). b ∷ l) (first i) (low_first (suc i) k x ∙ ap (λ (y : ℕ). bytes k y) on)
  where
    first : (j : ℕ) → byte_at j x ≡ x / 256 ^ j % 256
    first zero = omega arith
    first (suc j) = refl

pub four_bytes : (x : ℕ) → to_le_bytes w32 x ≡ bytes 4 x
four_bytes x = low_first 0 4 x ∙ ap (λ (y : ℕ). bytes 4 y) (omega arith)

pub eight_bytes : (x : ℕ) → to_le_bytes w64 x ≡ bytes 8 x
eight_bytes x = low_first 0 8 x ∙ ap (λ (y : ℕ). bytes 8 y) (omega arith)

pub flow_steps : (kind from to units mark : ℕ) (out z h u : List ℕ) → z ≡ replicate 24 0 → h ≡ 33 ∷ kind ∷ from ∷ to ∷ []
    → u ≡ bytes 4 units → set (put_mid 4 4 (h ++ drop 4 (z ++ drop 24 out)) u) 8 mark ≡ starting_with (flow_record kind from to units mark) out
unfolding bytes flow_record
flow_steps kind from to units mark out z h u e f g = rw (g, e, f)

pub overload_steps : (kind size need members : ℕ) (out z h u w : List ℕ) → z ≡ replicate 24 0 → h ≡ 32 ∷ kind ∷ size ∷ 0 ∷ []
    → u ≡ bytes 4 need → w ≡ bytes 8 members
    → put_mid 8 8 (put_mid 4 4 (h ++ drop 4 (z ++ drop 24 out)) u) w ≡ starting_with (overload_record kind size need members) out
unfolding bytes overload_record
overload_steps kind size need members out z h u w e f g i = rw (g, i, e, f)

-- ---- the tail `&mut out[a..]`, lent to a writer

pub rest_of_lem : (a : ℕ) (s : List ℕ) → take (length s - a) (drop a s) ≡ drop a s
rest_of_lem a s = take_all (length s - a) (drop a s) (le_of_eq (length-drop a s))

-- what was lent comes back as ys
pub tail_back : (a : ℕ) (d ys : List ℕ) → put_mid a (length d - a) d ys ≡ take a d ++ ys
tail_back a d ys = rw (drop_of_length-le (drop a d) (le_of_eq (length-drop a d)), append-nil)

-- a writing to the start of the tail is a writing from byte a on
pub tail_written : (a : ℕ) (r d ys : List ℕ) → ys ≡ starting_with r (take (length d - a) (drop a d)) → put_mid a (length d - a) d ys ≡ written_at a r d
tail_written a r d ys e = tail_back a d ys ∙ rw (e, rest_of_lem, drop-drop, append_assoc)
