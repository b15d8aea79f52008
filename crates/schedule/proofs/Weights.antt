-- What goes by the weights of arcs goes by those of pairs of elements alone, as a table has them: the earliest starts,
-- and what a crew check finds.
use mathlib.Core.Path.{◌≡◌, refl, ap, ◌∙◌}
use mathlib.Core.Bool.{Bool, cond, ◌&&◌}
use mathlib.Core.List.{List}
use Prim.Native.Nat.{ℕ, zero, suc, ◌+◌, ◌<◌}
use lib.Dec.{ltb}
use borrow.Author.Tests.{ltb-true}
use Rattle.words.proofs.Firsts.{first_cong}
use Rattle.words.proofs.Maxima.{maximum_cong}
use Rattle.words.proofs.Tables.{table_same}
use Rattle.words.proofs.Tests.{by_test}
use Rattle.order.specs.Rows.{after}
use Rattle.order.specs.Stored.{elements}
use Rattle.schedule.specs.Network.{Network, Schedule}
use Rattle.schedule.specs.Starts.{asked, rounds, earliest_of}
use Rattle.schedule.specs.Checks.{Work, broken_to, broken_from, lowest_kind, first_period, check_of}
use Rattle.schedule.specs.declared.Checked.{Checked}
use Rattle.schedule.specs.declared.Checked.TheVariants.{Fits, Broken, Overload}
use Rattle.schedule.specs.model.Arrays.{starts_of}
use Rattle.schedule.proofs.Starts.{asked_cong}

module _ (n : ℕ) (arc : ℕ → ℕ → Bool) (v w : ℕ → ℕ → ℕ) (same : (i j : ℕ) → i < n → j < n → v i j ≡ w i j) where
  abbrev by : (ℕ → ℕ → ℕ) → Network
  by weight = record { elements = n; arc = arc; weight = weight }

  asked_weights : (s : Schedule) (j : ℕ) → j < n → asked (by v) s j ≡ asked (by w) s j
  unfolding asked
  asked_weights s j l = maximum_cong n _ _ (λ i h. ap (λ (x : ℕ). cond (arc i j) (s i + x) 0) (same i j h l))

  rounds_weights : (r j : ℕ) → j < n → rounds r (by v) j ≡ rounds r (by w) j
  unfolding rounds
  rounds_weights zero j l = refl
  rounds_weights (suc r) j l = asked_cong (by v) (rounds r (by v)) (rounds r (by w)) j l (λ i a. rounds_weights r i a.from) ∙ asked_weights (rounds r (by w)) j l

  earliest_weights : (j : ℕ) → j < n → earliest_of (by v) j ≡ earliest_of (by w) j
  unfolding earliest_of
  earliest_weights j l = rounds_weights n j l

  to_weights : (s : Schedule) (i : ℕ) → i < n → broken_to (by v) s i ≡ broken_to (by w) s i
  unfolding broken_to
  to_weights s i l = first_cong n _ _ (λ j h. ap (λ (x : ℕ). arc i j && ltb (s j) (s i + x)) (same i j l h))

  from_weights : (s : Schedule) → broken_from (by v) s ≡ broken_from (by w) s
  unfolding broken_from
  from_weights s = first_cong n _ _ (λ i l. ap (λ (x : ℕ). ltb x n) (to_weights s i l))

  -- WHAT A CREW CHECK FINDS
  pub check_weights : (c : Work) → check_of (by v) c ≡ check_of (by w) c
  unfolding check_of
  check_weights c =
      let found : ℕ → ℕ → Checked = λ i j. cond (ltb i n) (Broken (i + 1) (j + 1)) (cond (ltb 0 (first_period c)) (Overload (first_period c) (lowest_kind c (first_period c) + 1)) Fits) in
      let i : ℕ = broken_from (by w) c.start in
      ap (λ (x : ℕ). found x (broken_to (by v) c.start x)) (from_weights c.start)
      ∙ by_test (ltb i n) (λ t. ap (found i) (to_weights c.start i (ltb-true i n t))) (λ t. rw t)

-- THE EARLIEST STARTS
pub starts_weights : (rows : List ℕ) (v w : ℕ → ℕ → ℕ) → ((i j : ℕ) → i < elements → j < elements → v i j ≡ w i j) → starts_of rows v ≡ starts_of rows w
unfolding starts_of
starts_weights rows v w same = table_same elements _ _ (λ j l. earliest_weights elements (after rows) v w same j l)
