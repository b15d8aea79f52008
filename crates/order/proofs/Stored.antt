-- What is known of sets as they are stored, and of tables of them: all that any other file goes by.
use Rattle.std.proofs.Common.{◌≡◌, ℕ, ◌-◌, ◌^◌, ◌<◌, ◌≤◌, Bool, true, List, length, get_or, replicate, sym, refl, ap, ◌∙◌, arith, length-set, get_or-set_other, get_or-set_same, ext_get_or, pow_pos}
use native.Mathlib.Decide.{dec_lt, ℕ_discrete}
use lib.Pow.{ones_lt}
use lib.ListN.{length-replicate, get_or-eq_default}
use Rattle.words.specs.Bits.{word_bits, bit, digit}
use Rattle.words.proofs.Bits.{bit_one, digit_not, digit_none}
use Rattle.words.specs.model.Loops.{upto}
use Rattle.words.proofs.Tables.{updated, length_table, get_d_table, table_same, get_d_zeros}
use Rattle.order.specs.Stored.{elements, bound, everyone, all_set, no_set, number_of, set_of, cells, row, put_row, row_table, RowsFit}
use Rattle.order.specs.model.Warshall.{update_row}
use Rattle.order.specs.declared.Set.{Set}

-- ---- the bound of the numbers of sets, for laws that speak of the number of digits

pub in_bound : {w : ℕ} → w < bound → w < 2 ^ elements
unfolding bound
in_bound h = h

pub to_bound : {w : ℕ} → w < 2 ^ elements → w < bound
unfolding bound
to_bound h = h

pub bound_pos : 0 < bound
unfolding bound
bound_pos = pow_pos elements

-- ---- a set

pub number_set : (w : ℕ) → number_of (set_of w) ≡ w
unfolding number_of set_of
number_set w = refl

pub number_none : number_of no_set ≡ 0
unfolding number_of
number_none = refl

pub number_all : number_of all_set ≡ everyone
unfolding number_of everyone
number_all = refl

pub everyone_fits : everyone < bound
unfolding everyone bound
everyone_fits = ones_lt elements

pub everyone_bit : (i : ℕ) → i < elements → bit everyone i ≡ true
unfolding everyone
everyone_bit i h = all_ones elements i h
  where
    all_ones : (n i : ℕ) → i < n → bit (2 ^ n - 1) i ≡ true
    all_ones n i l =
        let e : 2 ^ n - 1 - 0 ≡ 2 ^ n - 1 = omega arith in
        bit_one (2 ^ n - 1) i (omega (arith, digit_not i n 0 l (pow_pos n), digit_none i, ap (λ (x : ℕ). digit x i) e))

-- the same of a set that code has in hand
pub number_of_lem : (s : Set) {w : ℕ} → s ≡ set_of w → number_of s ≡ w
number_of_lem s {w} e = ap number_of e ∙ number_set w

-- what `has` says of a row that code read
pub row_asked : (s : Set) (w j : ℕ) {t r : Bool} → s ≡ set_of w → r ≡ bit (number_of s) j → r ≡ t → bit w j ≡ t
row_asked s w j e q p = sym (ap (λ (v : ℕ). bit v j) (number_of_lem s e)) ∙ sym q ∙ p

-- ---- a table of sets

-- there is nothing past the last row
pub row_past : (n : ℕ) (rows : List ℕ) (i : ℕ) → length rows ≡ cells n → n ≤ i → row rows i ≡ 0
unfolding cells row
row_past n rows i e h = get_or-eq_default rows 0 (omega arith)

-- one row is put, the others stay
pub row_put_same : (n : ℕ) (rows : List ℕ) (i w : ℕ) → length rows ≡ cells n → i < n → row (put_row rows i w) i ≡ w
unfolding cells row put_row
row_put_same n rows i w e h = get_or-set_same rows i w 0 (omega arith)

pub row_put_other : (rows : List ℕ) (i k w : ℕ) → (k ≡ i → ⊥) → row (put_row rows i w) k ≡ row rows k
unfolding row put_row
row_put_other rows i k w d = get_or-set_other rows i k w 0 d

pub length_put : (rows : List ℕ) (i w : ℕ) → length (put_row rows i w) ≡ length rows
unfolding put_row
length_put rows i w = length-set rows i w

-- a table that is given by its rows
module _ (n : ℕ) (f : ℕ → ℕ) where
  pub length_rows : length (row_table n f) ≡ cells n
  unfolding row_table cells
  length_rows = length_table n f

  pub row_table_lem : (i : ℕ) → i < n → row (row_table n f) i ≡ f i
  unfolding row_table row
  row_table_lem i h = get_d_table n f i 0 h

pub row_tables : (n : ℕ) (f g : ℕ → ℕ) → ((i : ℕ) → i < n → f i ≡ g i) → row_table n f ≡ row_table n g
unfolding row_table
row_tables n f g same = table_same n f g same

-- a loop that makes each row anew
pub rows_updated : (f : ℕ → ℕ → ℕ) (n : ℕ) (old : List ℕ) → length old ≡ cells n → upto (update_row f) n old ≡ row_table n (λ i. f i (row old i))
unfolding cells row_table row put_row
rows_updated f n old e = updated f n old e

-- the table of empty sets
pub length_blank : (n : ℕ) → length {A = ℕ} (replicate (cells n) 0) ≡ cells n
length_blank n = length-replicate {A = ℕ} (cells n) 0

pub row_blank : (n i : ℕ) → row (replicate (cells n) 0) i ≡ 0
unfolding row
row_blank n i = get_d_zeros (cells n) i

-- ---- rows of n digits

pub row_fit : (n : ℕ) (rows : List ℕ) → RowsFit n rows → (i : ℕ) → row rows i < 2 ^ n
unfolding RowsFit
row_fit n rows fit = fit

pub fit_table : (n : ℕ) (f : ℕ → ℕ) → ((i : ℕ) → i < n → f i < 2 ^ n) → RowsFit n (row_table n f)
unfolding RowsFit
fit_table n f h i = at (dec_lt i n)
  where
    at : Dec (i < n) → row (row_table n f) i < 2 ^ n
    at (yes l) = rw (row_table_lem n f i l) (h i l)
    at (no l) = rw (row_past n (row_table n f) i (length_rows n f) (omega arith)) (pow_pos n)

pub fit_blank : (n : ℕ) → RowsFit n (replicate (cells n) 0)
unfolding RowsFit
fit_blank n i = rw (row_blank n i) (pow_pos n)

pub fit_put : (n : ℕ) (rows : List ℕ) (i w : ℕ) → length rows ≡ cells n → i < n → RowsFit n rows → w < 2 ^ n → RowsFit n (put_row rows i w)
unfolding RowsFit
fit_put n rows i w e l fit h k = at (ℕ_discrete k i)
  where
    at : Dec (k ≡ i) → row (put_row rows i w) k < 2 ^ n
    at (yes q) = rw (q, row_put_same n rows i w e l) h
    at (no ne) = rw (row_put_other rows i k w ne) (fit k)

-- an array of words is such a table
pub words_fit : (rows : List ℕ) → ((k : ℕ) → get_or rows k 0 < 2 ^ word_bits) → RowsFit elements rows
unfolding RowsFit row
words_fit rows h = h

-- two tables with the same rows are equal
pub rows_same : (n : ℕ) (a b : List ℕ) → length a ≡ cells n → length b ≡ cells n → RowsFit n a → RowsFit n b → ((i : ℕ) → i < n → row a i ≡ row b i) → a ≡ b
unfolding cells row
rows_same n a b la lb fa fb same = ext_get_or 0 a b (la ∙ sym lb) (λ i h. same i (omega arith))

-- one turn of such a loop, with the row s that code read, and r that it put
pub put_turn : (f : ℕ → ℕ → ℕ) (rows : List ℕ) (i : ℕ) (s r : Set) {rows' : List ℕ}
    → s ≡ set_of (row rows i) → number_of r ≡ f i (number_of s) → rows' ≡ put_row rows i (number_of r) → rows' ≡ update_row f i rows
put_turn f rows i s r e q p = p ∙ ap (put_row rows i) (q ∙ ap (f i) (number_of_lem s e))
