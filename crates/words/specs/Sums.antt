-- The sum and the largest of finitely many numbers. The last is outside,
-- so that nearly every law is one line.
use Rattle.std.specs.Prelude.{ℕ, zero, suc, ◌+◌, max}

-- f 0 + f 1 + .. + f (n - 1)
unfoldable pub sum : ℕ → (ℕ → ℕ) → ℕ
sum zero f = 0
sum (suc n) f = sum n f + f n

-- the largest of f 0, .., f (n - 1); 0 where there are none
unfoldable pub maximum : ℕ → (ℕ → ℕ) → ℕ
maximum zero f = 0
maximum (suc n) f = max (maximum n f) (f n)
