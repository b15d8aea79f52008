-- Laws of the load of a period: who passes both tests is who is at work, and the load that is added
-- activity by activity is the sum.
use mathlib.Core.Path.{◌≡◌, sym, ap, ap₂, ◌∙◌}
use mathlib.Core.Bool.{Bool, true, false, cond, ◌&&◌}
use mathlib.Core.List.{List}
use Prim.Native.Nat.{ℕ, ◌+◌, ◌-◌, ◌≤◌, ◌<◌}
use native.Mathlib.Omega.{arith}
use lib.ListN.{replicate, length-replicate}
use Rattle.words.specs.Sums.{sum}
use Rattle.words.proofs.Sums.{sum_cong, sum_more}
use Rattle.words.proofs.Tables.{get_d_table, get_d_zeros, is_table, table_same}
use Rattle.words.proofs.Tests.{cond_true, cond_false}
use Rattle.flow_math.specs.Crew as crew
use Rattle.flow_math.proofs.Crew.{active_reads}
use Rattle.schedule.specs.Lists.{at}
use Rattle.schedule.specs.Checks.{Work, at_work, occupied}
use Rattle.schedule.specs.PeriodLoad.{started_by, finished_no_sooner, passes, load_of}
use Rattle.schedule.specs.model.Loads.{with_demands, load_up_to}

module _ (c : Work) (t : ℕ) where
  -- AN ACTIVITY PASSES BOTH TESTS EXACTLY WHEN IT IS AT WORK, in every period t = 1, 2, ..
  pub both_tests : (i : ℕ) → 1 ≤ t → passes c t i ≡ at_work c t i
  both_tests i one = sym (active_reads c.start c.worked t i one)

  -- THE LOAD IS WHAT IS OCCUPIED, of each kind
  pub load_kind : (k : ℕ) → 1 ≤ t → k < c.kinds → at (load_of c t) k ≡ occupied c t k
  unfolding crew.occupied
  load_kind k one h =
      get_d_table c.kinds _ k 0 h ∙ sum_cong c.count _ _ (λ i l. ap (λ (b : Bool). cond b (c.demand k i) 0) (both_tests i one))

-- ---- only for the proofs of the code: the load as it grows

module _ (c : Work) (t : ℕ) where
  -- x and y are what the code's tests said
  pub tested : (i : ℕ) {a b : Bool} (x y : Bool) → a ≡ started_by (c.start i) (t - 1) → b ≡ finished_no_sooner (c.start i) (c.worked i) t → a ≡ x → b ≡ y → passes c t i ≡ x && y
  tested i x y d e f g = ap₂ (λ (a b : Bool). a && b) (sym d ∙ f) (sym e ∙ g)

  pub load_none : replicate c.kinds 0 ≡ load_up_to c t 0
  unfolding sum
  load_none = is_table c.kinds (λ k. 0) (replicate c.kinds 0) 0 (length-replicate {A = ℕ} c.kinds 0) (λ k l. get_d_zeros c.kinds k)

  -- an activity that passes adds its demands, and any other adds nothing
  pub load_more : (n : ℕ) {l r : List ℕ} → passes c t n ≡ true → l ≡ load_up_to c t n → r ≡ with_demands c.kinds (λ k. c.demand k n) l → r ≡ load_up_to c t (n + 1)
  load_more n {l} w e q = q ∙ table_same c.kinds _ _ λ k h.
      let at-k : at l k ≡ sum n (λ i. cond (passes c t i) (c.demand k i) 0) = rw e (get_d_table c.kinds _ k 0 h) in
      omega (arith, at-k, sum_more n (λ i. cond (passes c t i) (c.demand k i) 0), cond_true (c.demand k n) 0 w)

  pub load_same : (n : ℕ) {l : List ℕ} → passes c t n ≡ false → l ≡ load_up_to c t n → l ≡ load_up_to c t (n + 1)
  load_same n w e = e ∙ table_same c.kinds _ _ λ k h.
      omega (arith, sum_more n (λ i. cond (passes c t i) (c.demand k i) 0), cond_false (c.demand k n) 0 w)
