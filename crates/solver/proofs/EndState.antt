-- What the solver ends with: a handover, and where the last search found nothing, a closed search.
use Rattle.std.proofs.Common.{◌≡◌, ℕ, ◌<◌, ◌≤◌, List, get_or, refl, ⊎_elim, arith}
use mathlib.Core.Logic.{by_cases}
use native.Mathlib.Decide.{dec_lt}
use Rattle.words.specs.Bits.{bit, digit}
use Rattle.words.proofs.Bits.{bit_one, digit_one}
use Rattle.words.proofs.Kept.{run_keeps}
use Rattle.words.proofs.Tests.{same_or_not}
use Rattle.order.specs.Stored.{elements, row as set_at}
use Rattle.order.specs.Rows.{after}
use Rattle.flow_math.specs.Handover.{Closed, Handover}
use Rattle.order.specs.model.Places.{positive}
use Rattle.solver.specs.model.Network.{Network, handed, leaders}
use Rattle.solver.specs.model.Solve.{Round, blanks, next, round, rounded, settled, solved, sought, started}
use Rattle.solver.proofs.Positive.{leads, positive_bit, positive_lt}
use Rattle.solver.proofs.Certificate.{Fit, Shut, certificate}
use Rattle.solver.proofs.Consistent.{Consistent, round_consistent, start_consistent}
use Rattle.solver.proofs.RoundsEnd.{round_stays}

module _ (d : ℕ → ℕ) (rows : List ℕ) (s : Network) (f : Consistent d rows s) where
  pub handover_kept : Handover elements (after rows) d (handed s.flow)
  handover_kept =
      record {
        along = λ i j hi hj e. bit_one (set_at rows i) j (f.ordered.along i j hi hj e);
        rows = λ i h. omega (arith, f.balanced.rows i h);
        cols = λ j h. omega (arith, f.balanced.cols j h);
      }

  -- where the elements from m on have no demand
  module _ (m : ℕ) (idle : (i : ℕ) → m ≤ i → i < elements → d i ≡ 0) (left right : ℕ)
      (c : Shut rows s.givers (positive m s.left) (positive m s.right) left right) where
    used : (i : ℕ) → i < elements → 0 < d i → i < m
    used i h p = by_cases (dec_lt i m) (λ l. l) (λ g. absurd (omega (arith, idle i (omega arith) h)))

    no_slack : (j : ℕ) → j < elements → digit right j ≡ 1 → get_or s.right j 0 ≡ 0
    no_slack j h e =
        ⊎_elim (λ z. z)
        (λ n. absurd (omega (arith, c.tight j h e, positive_bit m s.right j (used j h (omega (arith, f.balanced.cols j h))) (omega arith))))
        (same_or_not (get_or s.right j 0) 0)

    pub shut_closed : Closed elements (after rows) d (handed s.flow) (bit left) (bit right)
    shut_closed =
        record {
          begins = λ i h e. bit_one left i (c.start i h (positive_bit m s.left i (used i h (omega (arith, f.balanced.rows i h))) (omega (arith, f.balanced.rows i h))));
          forth = λ i j hi hj l b. bit_one right j (c.onto i hi (digit_one left i l) j hj (digit_one (set_at rows i) j b));
          back = λ i j hi hj r e. bit_one left i (c.back j hj (digit_one right j r) i hi ((f.linked.says i j hi hj).1 e));
          full = λ j h r. omega (arith, f.balanced.cols j h, no_slack j h (digit_one right j r));
        }

same_search : (m : ℕ) (rows : List ℕ) (s : Network) → (rounded m rows s).search ≡ (sought m rows s).search
unfolding rounded
same_search m rows s = refl

-- no way leads out of what the search of a round reached
abbrev pub ShutRound : ℕ → List ℕ → Round → Type 0
ShutRound m rows x = Shut rows x.now.givers (positive m x.now.left) (positive m x.now.right) x.search.left x.search.right

pub record Last (m : ℕ) (d : ℕ → ℕ) (rows : List ℕ) (x : Round) : Type 0 where
  pub consistent : Consistent d rows x.now
  pub shut : elements ≤ x.search.at → ShutRound m rows x

sought_shut : (m : ℕ) → m ≤ elements → (rows : List ℕ) (s : Network) → Fit s.givers → elements ≤ (sought m rows s).search.at → ShutRound m rows (round s (sought m rows s).search)
sought_shut m hm rows s fit h =
    certificate rows s.givers (leaders m rows) (positive m s.left) (positive m s.right) (λ i h. leads m rows s.left i) fit (positive_lt m s.right hm) (blanks elements) (blanks 0)
    (sought m rows s) refl (positive_lt m s.left hm) h

rounded_shut : (m : ℕ) → m ≤ elements → (rows : List ℕ) (s : Network) → Fit s.givers → elements ≤ (rounded m rows s).search.at → ShutRound m rows (rounded m rows s)
rounded_shut m hm rows s fit h =
    let k : elements ≤ (sought m rows s).search.at = rw (← same_search m rows s) h in
    rw (round_stays m rows s k) (sought_shut m hm rows s fit k)

module _ (m : ℕ) (hm : m ≤ elements) (d : ℕ → ℕ) (small : (p : ℕ) → p < elements → d p ≤ 65535) (rows : List ℕ) where
  round_last : (s : Network) → Consistent d rows s → Last m d rows (rounded m rows s)
  round_last s f = record { consistent = round_consistent m hm d small rows s f; shut = rounded_shut m hm rows s f.linked.fit }

  pub solved_last : (n : ℕ) (b : List ℕ) (s : Network) → Consistent d rows s → Last m d rows (solved m n rows b s)
  unfolding solved
  solved_last n b s f =
      run_keeps (Last m d rows) (Last m d rows) settled (λ y. y) (λ y. y) (next m rows)
      (λ x e p. round_last x.now p.consistent) (λ x e p. p) (λ x p. p)
      n (rounded m rows (started rows b s)) (round_last (started rows b s) (start_consistent m hm d small rows b s f))
