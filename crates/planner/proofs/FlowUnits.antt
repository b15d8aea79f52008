-- The flow of a kind of a plan that opens, in the plan's terms: it is the paper's, its units are small, its records
-- have room, the code writes them, and read back they say the same units.
use mathlib.Core.Path.{◌≡◌, refl, sym, ap, ap₂, ◌∙◌}
use mathlib.Core.List.{List, ◌++◌}
use mathlib.Core.Logic.{◌⊎◌, inl, inr, by_cases}
use Prim.Native.Nat.{ℕ, suc, ◌+◌, ◌*◌, ◌-◌, ◌/◌, ◌^◌, ◌≤◌, ◌<◌}
use native.Mathlib.Decide.{dec_lt}
use native.Mathlib.Nat.{mul-le-mul, mul-le-mul_left}
use native.Mathlib.Omega.{arith}
use lib.ListN.{length, get_or}
use Rattle.records.specs.Bytes.{AreBytes}
use Rattle.records.specs.Records.{starting_with, from_of, to_of, units_of}
use Rattle.order.specs.Stored.{elements}
use Rattle.order.specs.Arcs.{StrictOrder}
use Rattle.order.proofs.Before.{strict_first}
use Rattle.order.specs.Orders.{is_before}
use Rattle.plan.specs.Records.{activities}
use Rattle.plan.specs.model.Plans.{plan_of}
use Rattle.plan.specs.declared.Plan.{Plan}
use Rattle.plan.proofs.Said.{available_small}
use Rattle.flow_math.specs.Flow.{node_flow, ResourceFlow}
use Rattle.flow_math.proofs.Pairs.{units_few}
use Rattle.flow_math.proofs.Units.{units_spare, units_into_start, units_out_of_end, units_small, units_past as nodes-none}
use Rattle.solver.specs.model.Network.{handed}
use Rattle.solver.specs.model.Quote.{quote_of, flow_of}
use Rattle.solver.specs.Sound.{asked}
use Rattle.kinds.specs.Needs.{demands_for}
use Rattle.kinds.specs.Flows.{units as nodeUnits, kind_units, Bounded, flow_bytes, pairs_from, pairs_of}
use Rattle.kinds.specs.model.Writing.{Room, lent, put_flow}
use Rattle.kinds.specs.Reading.{units_read}
use Rattle.kinds.proofs.RecordsWritten.{length_flow, flow_written, flow_same, pairs_same}
use Rattle.kinds.proofs.RecordsRead.{flow_read, flow_read_none}
use Rattle.kinds.proofs.RecordsAscend.{Less, Says, Given, flow_ends, flow_ascends}
use Rattle.planner.specs.Open.{plan_in, plan_order, Opens}
use Rattle.planner.specs.Need.{demand_for, available_for, need_for}
use Rattle.planner.specs.Flow.{most_records, flow_units, flow_mark, flow_count, record_bytes}
use Rattle.planner.specs.File.{flow_length}
use Rattle.planner.proofs.OpenLaws.{plan_in_lem, opens_readable, count_few, count_within}
use Rattle.planner.proofs.FileOrders.{opens_strict}
use Rattle.planner.proofs.QuotedNeeds.{sound_in, need_quoted, demand_small}

-- the pairs of at most n elements are few, and so are those of the nodes of a file's activities
pub pairs_few : (n m : ℕ) → m ≤ n → m * (m - 1) ≤ n * (n - 1)
pairs_few n m h =
    let l : m - 1 ≤ n - 1 = omega arith in
    mul-le-mul h l

pairs_room : (m : ℕ) → m ≤ activities → m * (m - 1) / 2 + 2 * m + 1 ≤ most_records
pairs_room m h = omega (arith, pairs_few activities m h)

pub length_few : (m : ℕ) → m ≤ activities → flow_length m ≤ 24 * most_records
unfolding flow_length
length_few m h = omega (arith, pairs_room m h)

-- a record takes 24 bytes
pub records_length : (q : Plan) (k : ℕ) → length (record_bytes q k) ≡ 24 * flow_count q k
unfolding flow_count record_bytes
records_length q k = length_flow (k + 1) (flow_units q k) (flow_mark q) (q.count + 2)

-- they ascend by from, then to, whatever stands behind them
pub records_ascend : (q : Plan) (k : ℕ) (rest : List ℕ) (i j : ℕ) → i < j → j < flow_count q k
    → let F = record_bytes q k ++ rest in Less (from_of F i) (to_of F i) (from_of F j) (to_of F j)
unfolding flow_count record_bytes
records_ascend q k = flow_ascends (k + 1) (flow_units q k) (flow_mark q) (q.count + 2)

-- what each says: units pass between its ends, and its mark is the pair's
pub record_given : (q : Plan) (k : ℕ) (rest : List ℕ) (i : ℕ) → i < flow_count q k → Says (Given (flow_units q k) (flow_mark q)) (record_bytes q k ++ rest) i
unfolding flow_count record_bytes
record_given q k rest i h = (flow_ends (k + 1) (flow_units q k) (flow_mark q) (q.count + 2) rest i h).2

-- the units of kind k as the code has them
abbrev pub coded_units : List ℕ → ℕ → ℕ → ℕ → ℕ
coded_units s k = kind_units (plan_order s) (plan_in s).demand k (available_for (plan_in s) k) (plan_in s).count

module _ (s : List ℕ) (small : AreBytes s) (o : Opens s) (k : ℕ) (hk : k < 8) where
  available_below : available_for (plan_in s) k ≤ 65535
  available_below =
      let e : available_for (plan_in s) k ≡ get_or (plan_of s).available k 0 = ap (λ (q : Plan). get_or q.available k 0) (plan_in_lem s (opens_readable s o)) in
      omega (arith, available_small s small k)

  -- ---- IT IS A RESOURCE FLOW, where the need is available; what exceeds the need goes straight from the start to the end

  pub flow_made : need_for (plan_in s) k ≤ available_for (plan_in s) k
      → ResourceFlow (plan_in s).count (is_before (plan_order s)) (demand_for (plan_in s) k) (available_for (plan_in s) k) (flow_units (plan_in s) k)
  unfolding flow_units
  flow_made h = (sound_in s small o k hk).flow (available_for (plan_in s) k) h

  pub flow_spare : flow_units (plan_in s) k 0 (suc (plan_in s).count) ≡ available_for (plan_in s) k - need_for (plan_in s) k
  unfolding flow_units
  flow_spare = (sound_in s small o k hk).spare (available_for (plan_in s) k)

  -- ---- its units fit four bytes, and pass between the nodes 0 to m + 1

  units_most : (u v : ℕ) → flow_units (plan_in s) k u v ≤ 65535
  unfolding flow_units
  units_most u v =
      units_small (plan_in s).count (is_before (plan_order s)) (demand_for (plan_in s) k) (handed (flow_of (plan_in s).count (plan_order s) (demands_for (plan_in s).demand k)))
      (need_for (plan_in s) k) (available_for (plan_in s) k) 65535 (sound_in s small o k hk).handover
      (λ i h. demand_small s small o k i (omega (arith, count_few s))) available_below u v

  units_below : (u v : ℕ) → flow_units (plan_in s) k u v < 256 ^ 4
  units_below u v = omega (arith, units_most u v)

  pub units_past : (u v : ℕ) → ((plan_in s).count + 2 ≤ u) ⊎ ((plan_in s).count + 2 ≤ v) → flow_units (plan_in s) k u v ≡ 0
  unfolding flow_units
  units_past u v h =
      nodes-none (plan_in s).count (demand_for (plan_in s) k) (handed (flow_of (plan_in s).count (plan_order s) (demands_for (plan_in s).demand k)))
      (need_for (plan_in s) k) (available_for (plan_in s) k) u v h

  -- ---- ITS RECORDS are between such nodes, with such units, whatever stands behind them

  pub record_ends : (rest : List ℕ) (i : ℕ) → i < flow_count (plan_in s) k
      → let F = record_bytes (plan_in s) k ++ rest in (from_of F i < (plan_in s).count + 2) × (to_of F i < (plan_in s).count + 2) × (units_of F i ≤ 65535)
  unfolding flow_count record_bytes
  record_ends rest i h =
      let F : List ℕ = flow_bytes (k + 1) (flow_units (plan_in s) k) (flow_mark (plan_in s)) ((plan_in s).count + 2) ++ rest in
      let r = flow_ends (k + 1) (flow_units (plan_in s) k) (flow_mark (plan_in s)) ((plan_in s).count + 2) rest i h in
      (r.0, r.1, omega (arith, r.2.units (units_below (from_of F i) (to_of F i)), units_most (from_of F i) (to_of F i)))

  -- ---- THERE IS ROOM FOR THEM

  strict : StrictOrder (plan_in s).count (is_before (plan_order s))
  strict = strict_first (plan_in s).count elements (is_before (plan_order s)) (count_few s) (opens_strict s o)

  count_least : need_for (plan_in s) k ≤ available_for (plan_in s) k
      → flow_count (plan_in s) k ≤ (plan_in s).count * ((plan_in s).count - 1) / 2 + 2 * (plan_in s).count + 1
  unfolding flow_count pairs_of pairs_from
  count_least h = units_few (plan_in s).count (is_before (plan_order s)) (flow_units (plan_in s) k) strict (flow_made h).along

  pub count_room : need_for (plan_in s) k ≤ available_for (plan_in s) k → 24 * flow_count (plan_in s) k ≤ flow_length (plan_in s).count
  unfolding flow_length
  count_room h = mul-le-mul_left 24 (count_least h)

  -- ---- AS THE CODE HAS IT

  units_coded : (u v : ℕ) → coded_units s k u v ≡ flow_units (plan_in s) k u v
  unfolding nodeUnits flow_units
  units_coded u v =
      let f : ℕ → ℕ → ℕ = handed (flow_of (plan_in s).count (plan_order s) (demands_for (plan_in s).demand k)) in
      let a = available_for (plan_in s) k in
      ap (λ (x : ℕ). node_flow (plan_in s).count (demand_for (plan_in s) k) f 0 (a - x) u v) (need_quoted s small o k hk)
      ∙ units_spare (plan_in s).count (demand_for (plan_in s) k) f (need_for (plan_in s) k) a u v

  pub bounded_in : Bounded (plan_in s).count (asked (demands_for (plan_in s).demand k)) (handed (flow_of (plan_in s).count (plan_order s) (demands_for (plan_in s).demand k)))
  bounded_in =
      let H = (sound_in s small o k hk).handover in
      record {
        rows = H.rows;
        cols = H.cols;
        small = λ i h. omega (arith, demand_small s small o k i (omega (arith, count_few s)));
      }

  count_coded : pairs_of (coded_units s k) ((plan_in s).count + 2) ≡ flow_count (plan_in s) k
  unfolding flow_count
  count_coded = pairs_same (coded_units s k) (flow_units (plan_in s) k) ((plan_in s).count + 2) (λ u v a b. units_coded u v)

  bytes_coded : flow_bytes (k + 1) (coded_units s k) (flow_mark (plan_in s)) ((plan_in s).count + 2) ≡ record_bytes (plan_in s) k
  unfolding record_bytes
  bytes_coded =
      flow_same (k + 1) (coded_units s k) (flow_units (plan_in s) k) (flow_mark (plan_in s)) (flow_mark (plan_in s)) ((plan_in s).count + 2) (λ u v a b. units_coded u v) (λ u v a b. refl)

  pub room_in : (out : List ℕ) → need_for (plan_in s) k ≤ available_for (plan_in s) k → flow_length (plan_in s).count ≤ length out
      → Room (pairs_of (coded_units s k) ((plan_in s).count + 2)) out
  room_in out h l =
      record {
        few = omega (arith, count_coded, count_least h, pairs_room (plan_in s).count (count_within s));
        fits = omega (arith, count_coded, count_room h);
      }

  -- nothing goes into the start or out of the end
  none_in : (u : ℕ) → coded_units s k u 0 ≡ 0
  unfolding nodeUnits
  none_in u = units_into_start (plan_in s).count (demand_for (plan_in s) k) _ 0 _ u

  none_out : (v : ℕ) → coded_units s k (suc (plan_in s).count) v ≡ 0
  unfolding nodeUnits
  none_out v = units_out_of_end (plan_in s).count (demand_for (plan_in s) k) (handed (flow_of (plan_in s).count (plan_order s) (demands_for (plan_in s).demand k))) 0
      (available_for (plan_in s) k - (quote_of (plan_in s).count (plan_order s) (demands_for (plan_in s).demand k)).need) v

  pub flow_put_lem : (out : List ℕ)
      → put_flow (k + 1) (coded_units s k) (flow_mark (plan_in s)) (plan_in s).count (lent 0 out)
      ≡ lent (flow_count (plan_in s) k) (starting_with (record_bytes (plan_in s) k) out)
  flow_put_lem out =
      flow_written (k + 1) (coded_units s k) (flow_mark (plan_in s)) (plan_in s).count out none_in none_out
      ∙ ap₂ (λ (n : ℕ) (r : List ℕ). lent n (starting_with r out)) count_coded bytes_coded

  -- ---- READ BACK, its records say the same units

  pub flow_said : (rest : List ℕ) (u v : ℕ) → units_read (flow_count (plan_in s) k) (record_bytes (plan_in s) k ++ rest) u v ≡ flow_units (plan_in s) k u v
  unfolding flow_count record_bytes
  flow_said rest u v =
      by_cases (dec_lt u n)
      (λ p. by_cases (dec_lt v n)
      (λ q. flow_read (k + 1) (flow_units (plan_in s) k) mark n rest (λ a b i j. units_below a b) u v p q)
      (λ q. none (inr (omega arith))))
      (λ p. none (inl (omega arith)))
    where
      n : ℕ
      n = (plan_in s).count + 2

      mark : ℕ → ℕ → ℕ
      mark = flow_mark (plan_in s)

      none : ((plan_in s).count + 2 ≤ u) ⊎ ((plan_in s).count + 2 ≤ v)
          → units_read (pairs_of (flow_units (plan_in s) k) n) (flow_bytes (k + 1) (flow_units (plan_in s) k) mark n ++ rest) u v ≡ flow_units (plan_in s) k u v
      none h = flow_read_none (k + 1) (flow_units (plan_in s) k) mark n rest (λ a b i j. units_below a b) u v h ∙ sym (units_past u v h)
