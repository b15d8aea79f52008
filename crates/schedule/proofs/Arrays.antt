-- What the list of earliest starts is worth: the laws of Starts.antt for arcs that are given as rows.
use mathlib.Core.Path.{◌≡◌, sym}
use mathlib.Core.List.{List}
use mathlib.Core.Logic.Iff
use Prim.Native.Nat.{ℕ, ◌+◌, ◌*◌, ◌^◌, ◌≤◌, ◌<◌}
use native.Mathlib.Omega.{arith}
use native.Mathlib.Decide.{dec_lt}
use lib.ListN.{length, get_or-eq_default}
use Rattle.words.proofs.Tables.{get_d_table, length_table}
use Rattle.order.specs.Before.{Before, Acyclic}
use Rattle.order.specs.Rows.{after}
use Rattle.order.specs.Orders.{Direct}
use Rattle.order.proofs.Before.{before_within, drawn_within}
use Rattle.schedule.specs.Network.{Schedule, Keeps}
use Rattle.schedule.specs.Starts.{earliest_of}
use Rattle.schedule.specs.Lists.{LargestOr0, FinishOf, at}
use Rattle.schedule.specs.model.Arrays.{net_of, with_waits, starts_of, AllAtMost, FinishesFit}
use Rattle.schedule.proofs.Starts.{earliest_least, earliest_bound, earliest_keeps, earliest_largest, largest_same}
use Rattle.schedule.proofs.Ranks.{ranked}
use Rattle.order.specs.Stored.{elements}

module _ (rows : List ℕ) (weight : ℕ → ℕ → ℕ) where
  pub starts_at_lem : (i : ℕ) → i < elements → at (starts_of rows weight) i ≡ earliest_of (net_of rows weight) i
  unfolding starts_of
  starts_at_lem i l = get_d_table elements (earliest_of (net_of rows weight)) i 0 l

  pub starts_long : length (starts_of rows weight) ≡ elements
  unfolding starts_of
  starts_long = length_table elements (earliest_of (net_of rows weight))

  -- EVERY SCHEDULE THAT KEEPS THE ARCS STARTS EACH NO EARLIER
  pub starts_least : (s : Schedule) → Keeps (net_of rows weight) s → (j : ℕ) → j < elements → at (starts_of rows weight) j ≤ s j
  starts_least s k j l = omega (arith, starts_at_lem j l, earliest_least (net_of rows weight) s k j l)

  -- each is at most elements times the largest weight
  pub starts_bound : (b : ℕ) → ((i j : ℕ) → weight i j ≤ b) → (i : ℕ) → at (starts_of rows weight) i ≤ elements * b
  starts_bound b a i = go (dec_lt i elements)
    where
      go : Dec (i < elements) → at (starts_of rows weight) i ≤ elements * b
      go (yes l) = omega (arith, starts_at_lem i l, earliest_bound (net_of rows weight) b (λ k m x. a k m) i l)
      go (no l) =
          let e : at (starts_of rows weight) i ≡ 0 = get_or-eq_default (starts_of rows weight) 0 (omega (arith, starts_long)) in
          omega arith

  -- THEY FIT 32 BITS with a weight added, where elements + 1 times the largest weight does
  pub starts_fit : (b : ℕ) → (elements + 1) * b < 2 ^ 32 → ((i j : ℕ) → weight i j ≤ b) → FinishesFit (starts_of rows weight) weight
  starts_fit b h a i j l = omega (arith, a i j, starts_bound b a i)

  module _ (free : Acyclic (Direct rows)) where
    -- THEY KEEP EVERY ARC
    pub starts_keep : Keeps (net_of rows weight) (at (starts_of rows weight))
    starts_keep i j a =
        omega (arith, starts_at_lem i a.from, starts_at_lem j a.to, earliest_keeps (net_of rows weight) (ranked rows weight free) i j a)

-- ---- durations and waits of at most 65,535 each: no weight passes the two together

pub weights_most : (durations waits : List ℕ) → AllAtMost 65535 durations → AllAtMost 65535 waits → (i j : ℕ) → with_waits durations waits i j ≤ 65535 + 65535
weights_most durations waits d w i j = omega (arith, d i, w (elements * j + i))

-- ---- where each weight is the duration alone, so that there is no wait

-- "An activity starts at the largest finish (start plus duration) of those before it, or at 0"
pub starts_largest :
    (rows : List ℕ) (weight : ℕ → ℕ → ℕ) (d : ℕ → ℕ) → ((i j : ℕ) → weight i j ≡ d i) → Acyclic (Direct rows) → (j : ℕ) → j < elements
    → LargestOr0 (FinishOf (λ i. Before (Direct rows) i j) (at (starts_of rows weight)) d) (at (starts_of rows weight) j)
starts_largest rows weight d alone free j l =
    largest_same (sym (starts_at_lem rows weight j l)) (λ i. Iff.rfl)
    (λ i b. omega (arith, starts_at_lem rows weight i (before_within elements (drawn_within elements (after rows)) b).0))
    (earliest_largest (net_of rows weight) d (ranked rows weight free) alone j l)
