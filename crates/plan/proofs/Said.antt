-- What a readable file says: `said`; files that say the same have equal plans: `plan_same`;
-- and how large the numbers are.
use mathlib.Core.Path.{◌≡◌, refl, sym, ap, ap₂, ◌∙◌}
use mathlib.Core.Bool.{Bool, true, false, cond}
use mathlib.Core.List.{List}
use mathlib.Core.Logic.{◌↔◌}
use Prim.Native.Nat.{ℕ, ◌+◌, ◌*◌, ◌/◌, ◌%◌, ◌≤◌, ◌<◌}
use native.Mathlib.Omega.{arith}
use lib.ListN.{length, get_or, get_or-eq_default}
use lib.Seq.{get_or-drop}
use lib.Dec.{ltb}
use borrow.Author.Tests.{lt-ltb, le-ltb, ltb-true, ltb-false}
use Rattle.words.specs.Tables.{table}
use Rattle.words.proofs.Tests.{by_test, cond_true, cond_false, cond_cong, cond_least}
use Rattle.words.proofs.Tables.{get_d_table, length_table, table_same}
use Rattle.records.specs.Bytes.{field, AreBytes}
use Rattle.order.specs.Stored.{elements}
use Rattle.std.specs.Prelude.{Err}
use Rattle.plan.specs.declared.Cause.TheVariants.{Length}
use Rattle.plan.specs.Records.{record_at, activity_count}
use Rattle.plan.specs.model.Plans.{durations_of, demand_table, available_of, plan_of, with_extra}
use Rattle.plan.specs.model.ArcRows.{arc_rows}
use Rattle.plan.specs.Causes.{is_readable, records_cause, is_length, answer_of}
use Rattle.plan.specs.Meaning.{Readable, file_duration, file_demand, file_kinds, file_available, JobArc, ExtraArc}
use Rattle.plan.specs.model.Said.{Said}
use Rattle.plan.proofs.Stores.{demands_told}
use Rattle.plan.proofs.NamedArcs.{arcs_said, arcs_same}
use Rattle.plan.proofs.Parts.{Faultless, faultless, faultless_says, few, crew_fine}

-- ---- a readable file has no cause

pub readable_length : (s : List ℕ) → Readable s → is_length (length s) ≡ true
unfolding answer_of
readable_length s e = go (is_length (length s)) e
  where
    go : (b : Bool) → is_readable (cond b (records_cause s) (Err Length)) ≡ true → b ≡ true
    go true e = refl
    go false e = e

pub readable_faultless : (s : List ℕ) → Readable s → Faultless s
unfolding answer_of
readable_faultless s e = faultless s (rw (cond_true (records_cause s) (Err Length) (readable_length s e)) at e)

-- and the other way round
pub faultless_readable : (s : List ℕ) → is_length (length s) ≡ true → Faultless s → Readable s
unfolding answer_of
faultless_readable s e F = ap is_readable (cond_true (records_cause s) (Err Length) e ∙ faultless_says s F)

-- ---- the tables of its fields

module _ (s : List ℕ) where
  duration_at : (i : ℕ) → i < elements → i < activity_count s → get_or (durations_of s) i 0 ≡ file_duration s i
  unfolding durations_of
  duration_at i l h = get_d_table elements (λ x. cond (ltb x (activity_count s)) (file_duration s x) 0) i 0 l ∙ cond_true _ 0 (lt-ltb i (activity_count s) h)

  demand_at_lem : (k i : ℕ) → k < 8 → i < elements → get_or (demand_table s) (elements * k + i) 0 ≡ cond (ltb i (activity_count s)) (file_demand s k i) 0
  unfolding demand_table
  demand_at_lem k i l b =
      let f : ℕ → ℕ → ℕ = λ c q. cond (ltb c (activity_count s)) (file_demand s q c) 0 in
      let low : (elements * k + i) % elements ≡ i = omega arith in
      let high : (elements * k + i) / elements ≡ k = omega arith in
      get_d_table (8 * elements) (λ x. f (x % elements) (x / elements)) (elements * k + i) 0 (omega arith) ∙ ap₂ f low high

  available_at : (k : ℕ) → k < 8 → get_or (available_of s) k 0 ≡ file_available s k
  unfolding available_of
  available_at k l = get_d_table 8 (file_available s) k 0 l

-- WHAT A READABLE FILE SAYS
said_of : (s : List ℕ) → Faultless s → Said s (plan_of s)
unfolding plan_of file_kinds JobArc ExtraArc
said_of s F =
    let m : ℕ = activity_count s in
    let C = crew_fine s F in
    let short = few s F in
    record {
      count = refl;
      few = short;
      kinds = refl;
      few_kinds = C.few;
      duration = λ i h. duration_at s i (omega arith) h;
      demand = λ k i l h. demand_at_lem s k i l (omega arith) ∙ cond_true _ 0 (lt-ltb i m h);
      no_demand = λ k i l h b. demand_at_lem s k i l b ∙ cond_false _ 0 (le-ltb i m h);
      no_kind = λ k i h l b. ap (λ (x : List ℕ). get_or x (elements * k + i) 0) (sym (demands_told s)) ∙ C.no_demand (elements * k + i) (omega arith) (omega arith);
      available = λ k l. available_at s k l;
      job = arcs_said s F 3 (omega arith);
      extra = arcs_said s F 4 (omega arith);
    }

pub said : (s : List ℕ) → Readable s → Said s (plan_of s)
said s e = said_of s (readable_faultless s e)

-- ---- FILES THAT SAY THE SAME: their plans are equal

module _ (s t : List ℕ) (e : Readable s) (f : Readable t) (count : activity_count s ≡ activity_count t) where
  -- a field of the activities
  told_same : (x y : ℕ → ℕ) (i : ℕ) → (i < activity_count s → x i ≡ y i) → cond (ltb i (activity_count s)) (x i) 0 ≡ cond (ltb i (activity_count t)) (y i) 0
  told_same x y i same =
      cond_cong (ltb i (activity_count s)) (x i) (y i) (λ l. same (ltb-true i (activity_count s) l)) ∙ ap (λ (m : ℕ). cond (ltb i m) (y i) 0) count

  -- but for their extra arcs
  pub plan_but : file_kinds s ≡ file_kinds t → ((i : ℕ) → i < activity_count s → file_duration s i ≡ file_duration t i)
      → ((k i : ℕ) → k < 8 → i < activity_count s → file_demand s k i ≡ file_demand t k i) → ((k : ℕ) → k < 8 → file_available s k ≡ file_available t k)
      → ((i j : ℕ) → JobArc s i j ↔ JobArc t i j) → plan_of s ≡ with_extra (plan_of t) (arc_rows s 4)
  unfolding plan_of durations_of demand_table available_of JobArc
  plan_but kinds duration demand available job =
      rw (
        table_same elements _ _ (λ i h. told_same (file_duration s) (file_duration t) i (duration i)),
        table_same (8 * elements) _ _ (λ x h. told_same (file_demand s (x / elements)) (file_demand t (x / elements)) (x % elements) (demand (x / elements) (x % elements) (omega arith))),
        table_same 8 _ _ available,
        arcs_same s t (readable_faultless s e) (readable_faultless t f) 3 (omega arith) job,
        kinds,
        count,
      )

  pub plan_same : file_kinds s ≡ file_kinds t → ((i : ℕ) → i < activity_count s → file_duration s i ≡ file_duration t i)
      → ((k i : ℕ) → k < 8 → i < activity_count s → file_demand s k i ≡ file_demand t k i) → ((k : ℕ) → k < 8 → file_available s k ≡ file_available t k)
      → ((i j : ℕ) → JobArc s i j ↔ JobArc t i j) → ((i j : ℕ) → ExtraArc s i j ↔ ExtraArc t i j) → plan_of s ≡ plan_of t
  unfolding plan_of ExtraArc
  plan_same kinds duration demand available job extra =
      plan_but kinds duration demand available job
      ∙ ap (with_extra (plan_of t)) (arcs_same s t (readable_faultless s e) (readable_faultless t f) 4 (omega arith) extra)

-- ---- how large the numbers are, where each byte is below 256

pub field_small : (s : List ℕ) → AreBytes s → (p i : ℕ) → field (record_at s p) i 2 ≤ 65535
unfolding field
field_small s small p i =
    omega (arith, get_or-drop (24 * p) s i 0, small (24 * p + i), get_or-drop (24 * p) s (i + 1) 0, small (24 * p + (i + 1)))

-- elements that are at most b; past the end there is 0
pub table_least : (n b : ℕ) (f : ℕ → ℕ) → ((x : ℕ) → f x ≤ b) → (i : ℕ) → get_or (table n f) i 0 ≤ b
table_least n b f h i =
    by_test (ltb i n)
    (λ t. rw (get_d_table n f i 0 (ltb-true i n t)) (h i))
    (λ t.
    let e : get_or (table n f) i 0 ≡ 0 = get_or-eq_default (table n f) 0 (omega (arith, length_table n f, ltb-false i n t)) in
    omega arith)

pub durations_small : (s : List ℕ) → AreBytes s → (i : ℕ) → get_or (plan_of s).duration i 0 ≤ 65535
unfolding plan_of durations_of file_duration
durations_small s small = table_least elements 65535 _ (λ i. cond_least (ltb i (activity_count s)) (file_duration s i) 65535 (λ t. field_small s small i 2))

-- a demand in the file, of any kind and at any place
pub file_demand_small : (s : List ℕ) → AreBytes s → (k i : ℕ) → file_demand s k i ≤ 65535
unfolding file_demand
file_demand_small s small k i = field_small s small i (4 + 2 * k)

pub demands_small : (s : List ℕ) → AreBytes s → (i : ℕ) → get_or (plan_of s).demand i 0 ≤ 65535
unfolding plan_of demand_table
demands_small s small =
    table_least (8 * elements) 65535 _
    (λ x. cond_least (ltb (x % elements) (activity_count s)) (file_demand s (x / elements) (x % elements)) 65535 (λ t. file_demand_small s small (x / elements) (x % elements)))

pub available_small : (s : List ℕ) → AreBytes s → (k : ℕ) → get_or (plan_of s).available k 0 ≤ 65535
unfolding plan_of available_of file_available
available_small s small = table_least 8 65535 (file_available s) (λ k. field_small s small (activity_count s) (4 + 2 * k))
