-- Lines that are written piece by piece, and how long they are.
use mathlib.Core.Path.{◌≡◌, refl, ap, ◌∙◌}
use mathlib.Core.List.{List, ◌++◌}
use Prim.Native.Nat.{ℕ, ◌+◌, ◌≤◌}
use native.Mathlib.Omega.{arith}
use lib.ListN.{length, replicate, length-append, length-replicate}
use Rattle.lines.specs.Text.{Text, text, more}
use Rattle.lines.proofs.Texts.{more_more, grown, grown_by}
use Rattle.crew_sheet.specs.Sheet.{column, cell, row_line, blank_line, head_line}
use Rattle.crew_sheet.proofs.Columns.{length_column}

-- the n bytes l are written behind the `at` that were
pub record Grown (at : ℕ) (old : List ℕ) (n : ℕ) (l : List ℕ) (e : ℕ) (o : List ℕ) : Type 0 where
  pub done : text e o ≡ more (text at old) l
  pub long : length l ≡ n

module _ {at : ℕ} {old : List ℕ} {n : ℕ} {l : List ℕ} {e : ℕ} {o : List ℕ} (g : Grown at old n l e o) where
  pub grown_end : e ≡ at + n
  grown_end = grown_by at e l old o g.done ∙ ap (λ k. at + k) g.long

  pub grown_length : at + n ≤ length old → length o ≡ length old
  grown_length h = (grown at e l old o (omega (arith, g.long)) g.done).1

  pub grown_more : {k : ℕ} {b : List ℕ} {e' : ℕ} {o' : List ℕ} → Grown e o k b e' o' → at + (n + k) ≤ length old → Grown at old (n + k) (l ++ b) e' o'
  grown_more {k} {b} f h =
      record {
        done = f.done ∙ ap (λ (t : Text). more t b) g.done ∙ more_more (text at old) l b (omega (arith, g.long, f.long));
        long = length-append l b ∙ omega (arith, g.long, f.long);
      }

  -- there is room for k more
  pub grown_room : (k : ℕ) → at + (n + k) ≤ length old → e + k ≤ length o
  grown_room k h = omega (arith, grown_end, grown_length (omega arith))

-- ---- cells and lines

pub length_cell : (w gap x : ℕ) → length (cell w gap x) ≡ w + gap
unfolding cell
length_cell w gap x = length-append (column w x) (replicate gap 32) ∙ rw (length_column, length-replicate)

-- a cell more
pub grown_cell : {at : ℕ} {old : List ℕ} {n : ℕ} {l : List ℕ} {e : ℕ} {o : List ℕ} (g : Grown at old n l e o) (w gap x : ℕ) {e' : ℕ} {o' : List ℕ}
    → text e' o' ≡ more (text e o) (cell w gap x)
    → at + (n + (w + gap)) ≤ length old
    → Grown at old (n + (w + gap)) (l ++ cell w gap x) e' o'
grown_cell g w gap x done h = grown_more g (record { done = done; long = length_cell w gap x }) h

pub length_row : (from to units start : ℕ) → length (row_line from to units start) ≡ 41
unfolding row_line
length_row from to units start =
    rw (length-append, length-append, length-append, length-append, length_cell 3 1 from, length_cell 3 1 to, length_cell 8 1 units, length_cell 10 13 start)

pub length_blank : length blank_line ≡ 41
unfolding blank_line
length_blank = refl

pub length_head : (kind page : ℕ) → length (head_line kind page) ≡ 41
unfolding head_line
length_head kind page = rw (length-append, length-append, length-append, length_cell 1 1 kind, length_cell 3 30 page)
