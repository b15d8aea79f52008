-- A loop over `a.zip(b).enumerate()`, which has yielded `past`: what a turn has, and how many there were.
use mathlib.Core.List.{List}
use mathlib.Core.Path.{◌≡◌, ap, ◌∙◌}
use Prim.Native.Nat.{ℕ, ◌+◌, ◌<◌, min}
use native.Mathlib.Omega.{arith}
use lib.ListN.{length, get_or}
use Rattle.std.proofs.lemmas.Iterator.{YieldsList, YieldsList-from_zip, zips}
use Rattle.std.proofs.lemmas.Iterator.Consumers.{YieldsList-from_enumerate, YieldsList-turn, YieldsList-end}
use Rattle.std.proofs.lemmas.List.{get_or_default}
use Rattle.std.proofs.lemmas.List.FromFn.{length-enumerate_from, get_or-enumerate_from}
use Rattle.std.proofs.lemmas.Slice.Zip.{length-zip, get_or-zip}
use Rattle.std.specs.declared.iter.Enumerate.{Enumerate}
use Rattle.std.specs.declared.iter.Zip.{Zip}
use Rattle.std.specs.declared.option.Option.{Option}
use Rattle.std.specs.declared.option.Option.TheVariants.{None, Some}
use Rattle.std.specs.Iterator.{Yields}
use Rattle.std.specs.Iterator.Adapters.{zip_first, zip_second, enumerate_source, enumerate_count, enumerate_steps}
use Rattle.std.specs.List.{enumerate_from, zip}

-- what a turn has at n: the index, and what stands there in each list
pub record Turn {A B : Type 0} (xs : List A) (ys : List B) (n k : ℕ) (x : A) (y : B) : Type 0 where
  pub there : n < length xs
  pub also : n < length ys
  pub index : k ≡ n
  pub first : (d : A) → x ≡ get_or xs n d
  pub second : (d : B) → y ≡ get_or ys n d

module _ {A B : Type 0} (xs : List A) (ys : List B) where
  abbrev all : List (ℕ × (A × B))
  all = enumerate_from 0 (zip xs ys)

  found : (n k : ℕ) (x : A) (y : B) → (n < length all) × ((k, (x, y)) ≡ get_or all n (k, (x, y))) → Turn xs ys n k x y
  found n k x y h =
      let l : n < length (zip xs ys) = omega (arith, h.0, length-enumerate_from 0 (zip xs ys)) in
      let a : n < length xs = omega (arith, l, length-zip xs ys) in
      let b : n < length ys = omega (arith, l, length-zip xs ys) in
      let e =
      h.1 ∙ get_or-enumerate_from 0 (zip xs ys) n (k, (x, y)) l
      ∙ ap (λ (q : A × B). (0 + n, q)) (get_or-zip xs ys n (x, y) a b) in
      record {
        there = a;
        also = b;
        index = omega (arith, ap (λ (q : ℕ × (A × B)). q.0) e);
        first = λ d. ap (λ (q : ℕ × (A × B)). q.1.0) e ∙ get_or_default xs n x d a;
        second = λ d. ap (λ (q : ℕ × (A × B)). q.1.1) e ∙ get_or_default ys n y d b;
      }

-- the two sources are listed as xs and ys
module _ {S T A B C D : Type 0} {steps : S → Option A → S → Type 0} {others : T → Option B → T → Type 0} {v : A → C}
    {w : B → D} {xs : List C} {ys : List D} {s : Enumerate (Zip S T)}
    (first : YieldsList steps v (zip_first (enumerate_source s)) xs)
    (second : YieldsList others w (zip_second (enumerate_source s)) ys) (none : enumerate_count s ≡ 0)
    (past : List (ℕ × (A × B))) (t u : Enumerate (Zip S T)) (r : Option (ℕ × (A × B)))
    (y : Yields (enumerate_steps (zips steps others)) s past t) where
  listed : YieldsList (enumerate_steps (zips steps others)) (λ p. (p.0, (v p.1.0, w p.1.1))) s (all xs ys)
  listed = YieldsList-from_enumerate (YieldsList-from_zip first second) none

  pub turn : (p : ℕ × (A × B)) → r ≡ Some p → enumerate_steps (zips steps others) t r u
      → Turn xs ys (length past) p.0 (v p.1.0) (w p.1.1)
  turn p e h = found xs ys (length past) p.0 (v p.1.0) (w p.1.1) (YieldsList-turn listed past t y r u p e h)

  pub turns : r ≡ None → enumerate_steps (zips steps others) t r u → length past ≡ min (length xs) (length ys)
  turns e h =
      omega (arith, (YieldsList-end listed past t y r u e h).1, length-enumerate_from 0 (zip xs ys), length-zip xs ys)
