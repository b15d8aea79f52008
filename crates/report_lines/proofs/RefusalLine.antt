-- The numbers of a refused plan's line: they are written to the front of a list that has room for them.
use mathlib.Core.Path.{◌≡◌, refl, sym, ap, ◌∙◌}
use mathlib.Core.List.{List, [], ◌∷◌, ◌++◌, map, append-nil}
use Prim.Native.Nat.{ℕ, zero, suc, ◌+◌, ◌/◌, ◌%◌, ◌≤◌, ◌<◌}
use native.Mathlib.Omega.{arith}
use native.Mathlib.Numerals.{add-one}
use lib.ListN.{length, set, take, length-set}
use lib.Seq.{length-take-le}
use Rattle.lines.specs.Text.{Text, line_of, more}
use Rattle.lines.proofs.Texts.{line_length}
use Rattle.lines.proofs.Putting.{Short, short_room}
use Rattle.order.specs.Sets.{listed}
use Rattle.order.specs.Stored.{elements, number_of}
use Rattle.order.specs.declared.Set.{Set}
use Rattle.words.specs.Listing.{lead, members}
use Rattle.planner.specs.Numbers.{refusal_of}
use Rattle.planner.specs.declared.Cause.{Cause}
use Rattle.planner.specs.declared.Refusal.{Refusal}
use Rattle.planner.specs.declared.Values.{Values}
use Rattle.planner.specs.declared.Values.TheVariants.{Nothing, One, Need}
use Rattle.report_lines.specs.Lines.{refused_word, values_shown, refusal_numbers, refused_numbers, refused_line}
use Rattle.report_lines.specs.Lines.{slots, refused_room}

-- ---- numbers at the front

-- one number, two or three are written
pub fronts : (xs : List ℕ) (a b c : ℕ) → slots ≤ length xs
    → (take 1 (set xs 0 a) ≡ a ∷ [])
    × (take 2 (set (set xs 0 a) 1 b) ≡ a ∷ b ∷ [])
    × (take 3 (set (set (set xs 0 a) 1 b) 2 c) ≡ a ∷ b ∷ c ∷ [])
fronts [] a b c h = absurd (omega arith)
fronts (x ∷ []) a b c h = absurd (omega arith)
fronts (x ∷ y ∷ []) a b c h = absurd (omega arith)
fronts (x ∷ y ∷ z ∷ xs) a b c h = (refl, refl, refl)

-- a refusal's numbers, by what is returned with its own
pub told : {r s : Refusal} {v : Values} → r ≡ s → r.values ≡ v → r.number ∷ values_shown v ≡ refusal_numbers s
told {r} e q = ap (λ (v : Values). r.number ∷ values_shown v) (sym q) ∙ ap refusal_numbers e

-- ---- the members of a set

length_map : (xs : List ℕ) → length (map suc xs) ≡ length xs
length_map [] = refl
length_map (x ∷ xs) = ap suc (length_map xs)

length_lead : (d : ℕ) (xs : List ℕ) → length (lead d xs) ≤ suc (length xs)
length_lead zero xs = omega arith
length_lead (suc d) xs = omega arith

length_members : (k w : ℕ) → length (members k w) ≤ k
unfolding members
length_members zero w = omega arith
length_members (suc k) w =
    omega (arith, length_lead (w % 2) (map suc (members k (w / 2))), length_map (members k (w / 2)), length_members k (w / 2))

values_few : (v : Values) → length (values_shown v) < slots
values_few Nothing = omega arith
values_few (One n) = omega arith
values_few (Need k need set) =
    let w = members elements (number_of set) in
    omega (arith, length_map w, length_members elements (number_of set))

-- no cause has more numbers than there are slots, and its line has room
pub refused_short : (c : Cause) → length (refused_line c) ≤ refused_room
unfolding refused_line
refused_short c = omega (arith, line_length refused_word (refused_numbers c), values_few (refusal_of c).values)

-- the list with one number more of it set
take_set : (b : ℕ) (ys : List ℕ) (n : ℕ) (xs : List ℕ) → n < length xs → take (suc n) (set xs n b) ++ ys ≡ take n xs ++ (b ∷ ys)
take_set b ys zero [] h = absurd (omega arith)
take_set b ys zero (x ∷ xs) h = refl
take_set b ys (suc n) [] h = absurd (omega arith)
take_set b ys (suc n) (x ∷ xs) h = ap (λ (l : List ℕ). x ∷ l) (take_set b ys n xs (omega arith))

-- n numbers are written: the first k, and the members that are not left
pub record Listed (k : ℕ) (set old : List ℕ) (n : ℕ) (left numbers : List ℕ) : Type 0 where
  pub long : length numbers ≡ length old
  pub room : n + length left ≤ slots
  pub done : take n numbers ++ map suc left ≡ take k old ++ map suc set

pub set_listed : (k : ℕ) (set : Set) (old : List ℕ) → k ≤ 3 → Listed k (listed set) old k (listed set) old
unfolding listed
set_listed k set old few = record { long = refl; room = omega (arith, length_members elements (number_of set)); done = refl }

module _ {k n b : ℕ} {word old left next numbers : List ℕ} (l : Listed k word old n left numbers) (e : left ≡ b ∷ next) where
  pub listed_room : n < slots
  listed_room = omega (arith, l.room, ap length e)

  pub listed_next : slots ≤ length old → Listed k word old (n + 1) next (set numbers n (b + 1))
  listed_next enough =
      let h : n < length numbers = omega (arith, l.long, listed_room) in
      let t : take (n + 1) (set numbers n (b + 1)) ++ map suc next ≡ take n numbers ++ (suc b ∷ map suc next) =
      simp add-one (take_set (suc b) (map suc next) n numbers h) in
      record {
        long = length-set numbers n (b + 1) ∙ l.long;
        room = omega (arith, l.room, ap length e);
        done = t ∙ ap (λ (xs : List ℕ). take n numbers ++ map suc xs) (sym e) ∙ l.done;
      }

pub listed_end : (k : ℕ) (word : Set) (old : List ℕ) {n : ℕ} {left numbers : List ℕ} → Listed k (listed word) old n left numbers → left ≡ []
    → (n ≤ slots) × (take n numbers ≡ take k old ++ map suc (members elements (number_of word)))
unfolding listed
listed_end k word old {n} {left} {numbers} l e =
    (omega (arith, l.room), sym (append-nil (take n numbers)) ∙ ap (λ (xs : List ℕ). take n numbers ++ map suc xs) (sym e) ∙ l.done)

-- ---- the line

-- a list that begins with n numbers, no more than there are slots: its line has room
module _ (n : ℕ) (numbers ns : List ℕ) (t : Text) (held : (n ≤ slots) × (take n numbers ≡ ns))
    (long : length numbers ≡ slots) (fits : t.at + refused_room ≤ length t.out) where
  pub numbers_few : length (take n numbers) ≡ n
  numbers_few = length-take-le n numbers (omega (arith, held.0))

  pub refused_end : {u : Text} → u ≡ more t (line_of refused_word (take n numbers))
      → (u ≡ more t (line_of refused_word ns)) × (u.at ≤ length u.out)
  refused_end {u} w =
      let p : Short t refused_room (line_of refused_word (take n numbers)) u =
      record { done = w; few = omega (arith, line_length refused_word (take n numbers), numbers_few, held.0) } in
      (w ∙ ap (λ (xs : List ℕ). more t (line_of refused_word xs)) held.1, omega (arith, short_room p 0 (omega arith)))
