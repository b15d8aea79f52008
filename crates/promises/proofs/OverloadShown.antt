-- When a plan is overloaded, by which kind, and that the set shown is as document 01 says, in
-- the terms of the price list.
use mathlib.Core.Path.{◌≡◌, refl, sym, ap, ◌∙◌}
use mathlib.Core.Bool.{true, false}
use mathlib.Core.List.{List}
use Prim.Native.Nat.{ℕ, ◌+◌, ◌≤◌, ◌<◌}
use native.Mathlib.Omega.{arith}
use lib.Dec.{ltb}
use lib.ListN.{length, get_or, replicate, length-replicate}
use borrow.Author.Tests.{lt-ltb, ltb-true, ltb-false}
use Rattle.std.specs.Prelude.{Ok}
use Rattle.words.specs.Bits.{bit}
use Rattle.words.specs.Members.{count}
use Rattle.words.proofs.Firsts.{first_below, at_first, before_first}
use Rattle.words.proofs.Tables.{get_d_table, length_table}
use Rattle.words.proofs.Tests.{by_test}
use Rattle.records.specs.Bytes.{AreBytes}
use Rattle.order.specs.Stored.{elements, number_of}
use Rattle.plan.specs.Meaning.{Readable, file_kinds, file_available}
use Rattle.planner.specs.Open.{plan_in, fault_of, Opens}
use Rattle.planner.specs.Need.{available_for, need_for, over_kind, is_overloaded, shown_set}
use Rattle.planner.specs.Needs.{needs_fault, need_numbers, needs_answer, needs_out}
use Rattle.promises.specs.Ours.{ours}
use Rattle.promises.specs.PriceList.{quoted_need, Exceeds, Enough, Shown}
use Rattle.planner.proofs.FaultLaws.{short_none}
use Rattle.planner.proofs.OutputLaws.{output_fine, lent_front}
use Rattle.planner.proofs.OpenLaws.{opens_readable}
use Rattle.planner.proofs.QuotedNeeds.{kinds_in, kind_in, available_in_lem}
use Rattle.promises.proofs.FileNeeds.{set_unrelated, set_demands, set_members}

module _ (s : List ℕ) (small : AreBytes s) (o : Opens s) where
  readable : Readable s
  readable = opens_readable s o

  pub few : {k : ℕ} → k < file_kinds s → (k < (plan_in s).kinds) × (k < 8)
  few h = (omega (arith, h, kinds_in s readable), kind_in s readable h)

  -- ---- NEEDS WRITES THE NEED OF EACH KIND, whatever is lent, if it is long enough

  module _ (out : List ℕ) (h : file_kinds s ≤ length out) where
    needs_fine : needs_fault s (length out) ≡ Ok tt
    unfolding needs_fault
    needs_fine =
        short_none (fault_of s) (length out) (plan_in s).kinds o (omega (arith, h, kinds_in s readable))

    pub needs_answers : needs_answer s (length out) ≡ Ok (file_kinds s)
    needs_answers = output_fine (needs_fault s (length out)) (plan_in s).kinds needs_fine ∙ ap Ok (kinds_in s readable)

    pub need_written : (k : ℕ) → k < file_kinds s → get_or (needs_out s out) k 0 ≡ need_for (plan_in s) k
    unfolding needs_out need_numbers
    need_written k l =
        let hk : k < length (need_numbers s) = omega (arith, (few l).0, length_table (plan_in s).kinds (need_for (plan_in s))) in
        lent_front (needs_fault s (length out)) (need_numbers s) out needs_fine k hk
        ∙ get_d_table (plan_in s).kinds (need_for (plan_in s)) k 0 (few l).0

  pub quoted_is : (k : ℕ) → k < file_kinds s → quoted_need ours s k ≡ need_for (plan_in s) k
  quoted_is k h = need_written (replicate (file_kinds s) 0) (omega (arith, length-replicate {A = ℕ} (file_kinds s) 0)) k h

  -- ---- overload

  over_at : (k : ℕ) → k < file_kinds s → (available_for (plan_in s) k ≡ file_available s k) × (quoted_need ours s k ≡ need_for (plan_in s) k)
  over_at k h = (available_in_lem s readable k (few h).1, quoted_is k h)

  pub over_when : (k : ℕ) → Exceeds ours s k → is_overloaded (plan_in s) ≡ true
  unfolding is_overloaded over_kind
  over_when k x =
      let w = over_at k x.0 in
      let p : available_for (plan_in s) k < need_for (plan_in s) k = omega (arith, x.1, w.0, w.1) in
      let l = first_below (plan_in s).kinds (λ i. ltb (available_for (plan_in s) i) (need_for (plan_in s) i)) k
      (lt-ltb (available_for (plan_in s) k) (need_for (plan_in s) k) p) in
      lt-ltb (over_kind (plan_in s)) (plan_in s).kinds (omega (arith, l, (few x.0).0))

  module _ (e : is_overloaded (plan_in s) ≡ true) where
    pub over_below : over_kind (plan_in s) < file_kinds s
    unfolding is_overloaded
    over_below = omega (arith, ltb-true (over_kind (plan_in s)) (plan_in s).kinds e, kinds_in s readable)

    pub over_kind_lem : Exceeds ours s (over_kind (plan_in s))
    unfolding over_kind
    over_kind_lem =
        let w = over_at (over_kind (plan_in s)) over_below in
        let b = (few over_below).0 in
        let t = at_first (plan_in s).kinds (λ i. ltb (available_for (plan_in s) i) (need_for (plan_in s) i)) b in
        (over_below, omega (arith, w.0, w.1, ltb-true (available_for (plan_in s) (over_kind (plan_in s))) (need_for (plan_in s) (over_kind (plan_in s))) t))

    over_lowest : (k : ℕ) → k < over_kind (plan_in s) → quoted_need ours s k ≤ file_available s k
    unfolding over_kind
    over_lowest k h =
        let l : k < file_kinds s = omega (arith, h, over_below) in
        let w = over_at k l in
        let t = before_first (plan_in s).kinds (λ i. ltb (available_for (plan_in s) i) (need_for (plan_in s) i)) k h in
        omega (arith, w.0, w.1, ltb-false (available_for (plan_in s) k) (need_for (plan_in s) k) t)

    -- THE SET SHOWN
    pub shown : Shown ours s (over_kind (plan_in s) + 1) (need_for (plan_in s) (over_kind (plan_in s))) (number_of (shown_set (plan_in s) (over_kind (plan_in s))))
        (count elements (bit (number_of (shown_set (plan_in s) (over_kind (plan_in s))))))
    shown =
        let h = (few over_below).1 in
        record {
          index = over_kind (plan_in s);
          kind_is = refl;
          exceeds = over_kind_lem;
          lowest = over_lowest;
          need_is = sym (quoted_is (over_kind (plan_in s)) over_below);
          unrelated = set_unrelated s small o (over_kind (plan_in s)) h;
          demands = set_demands s small o (over_kind (plan_in s)) h;
          members = set_members s small o (over_kind (plan_in s)) h;
          size_is = refl;
        }

  -- where enough is available of every kind, the plan is not overloaded
  pub enough_not : Enough ours s → is_overloaded (plan_in s) ≡ false
  enough_not en =
      by_test (is_overloaded (plan_in s))
      (λ t. let x = over_kind_lem t in absurd (omega (arith, x.1, en (over_kind (plan_in s)) x.0)))
      (λ t. t)
