-- What the loops that store durations and demands leave in the plan's arrays: the tables of the fields.
use mathlib.Core.Path.{◌≡◌, refl, sym, ap, ◌∙◌}
use mathlib.Core.Bool.{cond}
use mathlib.Core.List.{List}
use mathlib.Core.Logic.{◌≢◌}
use Prim.Native.Nat.{ℕ, zero, suc, ◌+◌, ◌*◌, ◌/◌, ◌%◌, ◌≤◌, ◌<◌}
use native.Mathlib.Omega.{arith}
use lib.ListN.{length, get_or, replicate, length-set, length-replicate}
use lib.Seq.{get_or-set_same, get_or-set_other}
use lib.Dec.{ltb}
use borrow.Author.Tests.{ltb-true, ltb-false}
use Rattle.words.specs.model.Loops.{upto}
use Rattle.words.specs.Tables.{table}
use Rattle.words.proofs.Tests.{by_test, below_suc, cond_true, cond_false}
use Rattle.words.proofs.Tables.{is_table, stored, get_d_zeros}
use Rattle.order.specs.Stored.{elements}
use Rattle.plan.specs.Records.{record_at, activity_count, demand_in, demands_of}
use Rattle.plan.specs.Meaning.{file_duration, file_demand}
use Rattle.plan.specs.model.Plans.{durations_of, demand_table}
use Rattle.plan.specs.model.Phases.{put_duration, put_demand, put_demands}

pub durations_stored : (s : List ℕ) → activity_count s ≤ elements → upto (put_duration s) (activity_count s) (replicate elements 0) ≡ durations_of s
unfolding durations_of file_duration
durations_stored s h = stored (file_duration s) elements (activity_count s) h

-- ---- the demands of one activity, of which the first n are stored

record Put (r : List ℕ) (i n : ℕ) (old now : List ℕ) : Type 0 where
  long : length now ≡ length old
  here : (k : ℕ) → k < n → get_or now (elements * k + i) 0 ≡ demand_in r k
  other : (x : ℕ) → ((k : ℕ) → k < n → x ≢ elements * k + i) → get_or now x 0 ≡ get_or old x 0

put : (r : List ℕ) (i n : ℕ) (old : List ℕ) → n ≤ 8 → i < elements → length old ≡ 8 * elements → Put r i n old (upto (put_demand r i) n old)
unfolding upto
put r i zero old h l e = record { long = refl; here = λ k m. absurd (omega arith); other = λ x ne. refl }
put r i (suc n) old h l e = go (upto (put_demand r i) n old) (put r i n old (omega arith) l e)
  where
    go : (now : List ℕ) → Put r i n old now → Put r i (suc n) old (put_demand r i n now)
    go now u =
        record {
          long = length-set now (elements * n + i) (demand_in r n) ∙ u.long;
          here =
              below_suc (λ k. get_or (put_demand r i n now) (elements * k + i) 0 ≡ demand_in r k) n
              (λ k m. get_or-set_other now (elements * n + i) (elements * k + i) (demand_in r n) 0 (omega arith) ∙ u.here k m)
              (get_or-set_same now (elements * n + i) (demand_in r n) 0 (omega (arith, u.long)));
          other = λ x ne. get_or-set_other now (elements * n + i) x (demand_in r n) 0 (ne n (omega arith)) ∙ u.other x (λ k m. ne k (omega arith));
        }

-- ---- the demands of the activities below i

record Demands (s : List ℕ) (i : ℕ) (now : List ℕ) : Type 0 where
  long : length now ≡ 8 * elements
  done : (k c : ℕ) → k < 8 → c < i → get_or now (elements * k + c) 0 ≡ demand_in (record_at s c) k
  left : (k c : ℕ) → k < 8 → i ≤ c → c < elements → get_or now (elements * k + c) 0 ≡ 0

demands : (s : List ℕ) (i : ℕ) → i ≤ elements → Demands s i (upto (put_demands s) i (replicate (8 * elements) 0))
unfolding upto
demands s zero h = record { long = length-replicate {A = ℕ} (8 * elements) 0; done = λ k c l m. absurd (omega arith); left = λ k c l m b. get_d_zeros (8 * elements) (elements * k + c) }
demands s (suc i) h = go (upto (put_demands s) i (replicate (8 * elements) 0)) (demands s i (omega arith))
  where
    go : (now : List ℕ) → Demands s i now → Demands s (suc i) (put_demands s i now)
    go now u =
        let p = put (record_at s i) i 8 now (omega arith) (omega arith) u.long in
        record {
          long = p.long ∙ u.long;
          done =
              λ k c l. below_suc (λ x. get_or (put_demands s i now) (elements * k + x) 0 ≡ demand_in (record_at s x) k) i
              (λ x m. p.other (elements * k + x) (λ y b q. omega arith) ∙ u.done k x l m)
              (p.here k l) c;
          left = λ k c l m b. p.other (elements * k + c) (λ y a q. omega arith) ∙ u.left k c l (omega arith) b;
        }

pub demands_stored : (s : List ℕ) → activity_count s ≤ elements → upto (put_demands s) (activity_count s) (replicate (8 * elements) 0) ≡ demands_of s
unfolding demands_of
demands_stored s h = go (activity_count s) h
  where
    go : (m : ℕ) → m ≤ elements → upto (put_demands s) m (replicate (8 * elements) 0) ≡ table (8 * elements) (λ x. cond (ltb (x % elements) m) (demand_in (record_at s (x % elements)) (x / elements)) 0)
    go m h =
        let u = demands s m h in
        let l : List ℕ = upto (put_demands s) m (replicate (8 * elements) 0) in
        is_table (8 * elements) (λ x. cond (ltb (x % elements) m) (demand_in (record_at s (x % elements)) (x / elements)) 0) l 0 u.long
        (λ x b.
        let e : elements * (x / elements) + x % elements ≡ x = omega arith in
        ap (λ (y : ℕ). get_or l y 0) (sym e)
        ∙ by_test (ltb (x % elements) m)
        (λ t. u.done (x / elements) (x % elements) (omega arith) (ltb-true (x % elements) m t) ∙ sym (cond_true (demand_in (record_at s (x % elements)) (x / elements)) 0 t))
        (λ t. u.left (x / elements) (x % elements) (omega arith) (ltb-false (x % elements) m t) (omega arith) ∙ sym (cond_false (demand_in (record_at s (x % elements)) (x / elements)) 0 t)))

-- THE DEMANDS IN FORCE are those of the activity records, by which the crew record is checked
pub demands_told : (s : List ℕ) → demands_of s ≡ demand_table s
unfolding demands_of demand_table file_demand
demands_told s = refl
