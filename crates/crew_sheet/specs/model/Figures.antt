-- ONLY FOR THE PROOFS OF THE CODE: the characters of a right-aligned number, as they are written from the
-- last on. That these are those of `column` is `column_at` of proofs/Columns.antt.
use Rattle.std.specs.Prelude.{cond, ℕ, ◌+◌, ◌%◌, eqb}

-- the character at a place: `rest` is the number without the `tail` digits to the right of the place
abbrev pub figure_of : ℕ → ℕ → ℕ
figure_of rest tail = cond (eqb rest 0) (cond (eqb tail 0) 48 32) (48 + rest % 10)
