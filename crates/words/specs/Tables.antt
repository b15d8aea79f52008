-- Lists that are given by their elements.
use Rattle.std.specs.Prelude.{List, [], ◌∷◌, ◌++◌, ℕ, zero, suc, take, drop}

-- the list f 0, f 1, .., f (n - 1)
unfoldable pub table : {A : Type 0} → ℕ → (ℕ → A) → List A
table zero f = []
table (suc n) f = f 0 ∷ table n (λ i. f (suc i))

-- what a list d holds when the first i elements of r are written over its start
abbrev pub over : ℕ → List ℕ → List ℕ → List ℕ
over i r d = take i r ++ drop i d
