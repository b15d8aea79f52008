-- Lines of text, as bytes of ASCII.
use Rattle.std.specs.Prelude.{List, [], ◌∷◌, ◌++◌, ℕ, suc, ◌+◌, ◌*◌, ◌-◌, ◌/◌, ◌%◌, ◌^◌, ltb, length, take, drop}
use Rattle.words.specs.Members.{first}
use Rattle.words.specs.Tables.{table}

-- how many decimal digits a number below 10^20 takes: as few as hold it, and at least one
unfoldable pub places : ℕ → ℕ
places n = suc (first 19 (λ k. ltb n (10 ^ suc k)))

-- a number, in decimal: no leading zeros (`decimal_first` of proofs/Decimals.antt). 48 is the digit 0.
unfoldable pub decimal : ℕ → List ℕ
decimal n = table (places n) (λ i. 48 + n / 10 ^ (places n - suc i) % 10)

-- the number that digits in decimal stand for, most significant first, behind those of `acc`
unfoldable pub value_by : ℕ → List ℕ → ℕ
value_by acc [] = acc
value_by acc (d ∷ ds) = value_by (10 * acc + (d - 48)) ds

-- the number that they stand for
abbrev pub value_of : List ℕ → ℕ
value_of ds = value_by 0 ds

-- numbers, a single space (32) before each
unfoldable pub spaced : List ℕ → List ℕ
spaced [] = []
spaced (n ∷ ns) = 32 ∷ decimal n ++ spaced ns

-- a line: a word, numbers, and the line's end (10)
unfoldable pub line_of : List ℕ → List ℕ → List ℕ
line_of word ns = word ++ spaced ns ++ 10 ∷ []

-- ---- text under way: lent bytes that are filled up to `at`

pub record Text : Type 0 where
  pub at : ℕ
  pub out : List ℕ

abbrev pub text : ℕ → List ℕ → Text
text at out = record { at = at; out = out }

-- with some bytes more
abbrev pub more : Text → List ℕ → Text
more t bytes =
    text (t.at + length bytes)
    (take t.at t.out ++ bytes ++ drop (t.at + length bytes) t.out)
