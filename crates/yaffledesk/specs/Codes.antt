-- The answers as numbers of 64 bits: the low 8 bits are the number of document 01 (0: done; that those of a
-- refusal are is `code_number` of proofs/Numbers.antt), and the bits above are its values.
use Rattle.std.specs.Prelude.{ℕ, ◌+◌, ◌*◌, Ok, Err}
use Rattle.order.specs.Stored.{number_of}
use Rattle.order.specs.Sets.{size_of}
use Rattle.schedule.specs.declared.Checked.{Checked}
use Rattle.schedule.specs.declared.Checked.TheVariants.{Fits, Broken, Overload}
use Rattle.planner.specs.Results.{Decision, Output, CrewChecked}
use Rattle.planner.specs.Numbers.{refusal_of}
use Rattle.planner.specs.declared.Cause.{Cause}
use Rattle.planner.specs.declared.Refusal.{Refusal}
use Rattle.planner.specs.declared.Values.{Values}
use Rattle.planner.specs.declared.Values.TheVariants.{Nothing, One, Need}

abbrev pub packed : ℕ → ℕ → ℕ
packed number rest = number + 256 * rest

-- A refusal: 1 has 0 above it, 2 to 6 and 8 to 13 have their one value, and 7 has kind + 256 * need +
-- 2^40 * size.
abbrev pub values_code : Values → ℕ
values_code Nothing = 0
values_code (One n) = n
values_code (Need k need set) = k + 256 * need + 1099511627776 * size_of set

abbrev pub refusal_code : Refusal → ℕ
refusal_code r = packed r.number (values_code r.values)

abbrev pub cause_code : Cause → ℕ
cause_code c = refusal_code (refusal_of c)

-- accepted: m + 256 * K
abbrev pub verdict_code : Decision → ℕ
verdict_code (Ok a) = packed 0 (a.activities + 256 * a.kinds)
verdict_code (Err c) = cause_code c

-- so many numbers or records are written, or pages there are
unfoldable pub output_code : Output → ℕ
output_code (Ok n) = packed 0 n
output_code (Err c) = cause_code c

-- 254: a broken arc, from + 256 * to; 255: an overload, kind + 256 * period
abbrev pub found_code : Checked → ℕ
found_code Fits = 0
found_code (Broken i j) = packed 254 (i + 256 * j)
found_code (Overload t k) = packed 255 (k + 256 * t)

abbrev pub crew_check_code : CrewChecked → ℕ
crew_check_code (Ok c) = found_code c
crew_check_code (Err c) = cause_code c

-- the number of the set that a refusal shows; 0 where it shows none
abbrev pub values_word : Values → ℕ
values_word Nothing = 0
values_word (One _) = 0
values_word (Need _ _ set) = number_of set

abbrev pub cause_word : Cause → ℕ
cause_word c = values_word (refusal_of c).values

abbrev pub shown_word : Decision → ℕ
shown_word (Ok a) = 0
shown_word (Err c) = cause_word c
