-- The records as the code has them, in a list: each says what the bytes at its place say.
use mathlib.Core.Path.{◌≡◌, refl, sym, ap, ◌∙◌}
use mathlib.Core.Bool.{true, false, not, ◌||◌}
use mathlib.Core.List.{List, [], ◌∷◌}
use Prim.Native.Nat.{ℕ, zero, suc, ◌+◌, ◌*◌, ◌≤◌, ◌<◌}
use native.Mathlib.Omega.{arith}
use lib.ListN.{length, get_or, set, take, drop, length-drop}
use lib.Dec.{eqb}
use lib.Seq.{get_or-take, get_or-drop, drop-drop, length-take-le}
use Rattle.std.specs.Simd.{first_chunks}
use Rattle.words.specs.model.Loops.{upto}
use Rattle.words.proofs.Loops.{upto_cong}
use Rattle.words.specs.Tables.{table}
use Rattle.words.proofs.Tables.{table_same}
use Rattle.records.specs.Bytes.{byte, field}
use Rattle.order.specs.Stored.{elements}
use Rattle.plan.specs.Records.{record_at, leading, demand_in}
use Rattle.plan.specs.declared.Cause.TheVariants.{RepeatedArc}
use Rattle.plan.specs.Causes.{rule, activity_cause, crew_cause, arc_cause}
use Rattle.plan.specs.model.Lists.{RecordsOf}
use Rattle.plan.specs.model.ArcRows.{ArcRecord, with_arc, has_arc, picked_after, is_free, arcs_after}
use Rattle.plan.specs.model.Waits.{with_wait, ArcRecords, AreArcs}
use Rattle.plan.specs.model.Phases.{put_demand}
use Rattle.plan.proofs.Places.{record_on}
use Rattle.plan.proofs.Differing.{SameBytes, two_same, activity_same, crew_same, arc_same}

-- ---- a record goes by its own 24 bytes

own : (t : List ℕ) → SameBytes (take 24 t) t
own t b h = get_or-take 24 t b 0 h

module _ (r t : List ℕ) (e : r ≡ take 24 t) where
  pub own_byte : (b : ℕ) → b < 24 → byte r b ≡ byte t b
  own_byte b h = ap (λ (x : List ℕ). byte x b) e ∙ own t b h

  pub own_same : SameBytes r t
  own_same b h = own_byte b h

  pub activity_own : (place : ℕ) → activity_cause place r ≡ activity_cause place t
  activity_own place = activity_same r t own_same place

  pub crew_own : (place : ℕ) (demand : List ℕ) → crew_cause place demand r ≡ crew_cause place demand t
  crew_own place demand = crew_same place demand r t (own_byte 0 (omega arith)) (λ _. own_same)

  pub arc_own : (type place m : ℕ) → arc_cause type place m r ≡ arc_cause type place m t
  arc_own type place m = arc_same r t (λ b h _ _. own_byte b h) type place m

  pub two_own : (i : ℕ) → i ≤ 22 → field r i 2 ≡ field t i 2
  two_own i h = two_same r t own_same i h

  pub demands_own : (i : ℕ) (demands : List ℕ) → upto (put_demand r i) 8 demands ≡ upto (put_demand t i) 8 demands
  demands_own i demands = upto_cong (put_demand r i) (put_demand t i) 8 demands
      (λ k d l. ap (λ (v : ℕ). set d (elements * k + i) v) (two_own (4 + 2 * k) (omega arith)))

  pub eight_own : table 8 (demand_in r) ≡ table 8 (demand_in t)
  eight_own = table_same 8 (demand_in r) (demand_in t) (λ k l. two_own (4 + 2 * k) (omega arith))

  pub has_own : (rows : List ℕ) → has_arc rows r ≡ has_arc rows t
  has_own rows = rw (own_byte 1 (omega arith), own_byte 2 (omega arith))

  with_own : (rows : List ℕ) → with_arc r rows ≡ with_arc t rows
  unfolding with_arc
  with_own rows = rw (own_byte 1 (omega arith), own_byte 2 (omega arith))

  pub arcs_own : (type : ℕ) (rows : List ℕ) → arcs_after type r rows ≡ arcs_after type t rows
  arcs_own type rows = rw (own_byte 0 (omega arith), with_own rows)

  pub free_own : (rows : List ℕ) → picked_after is_free r rows ≡ picked_after is_free t rows
  free_own rows = rw (own_byte 0 (omega arith), two_own 4 (omega arith), with_own rows)

  pub wait_own : (waits : List ℕ) → with_wait r waits ≡ with_wait t waits
  wait_own waits = rw (own_byte 1 (omega arith), own_byte 2 (omega arith), two_own 4 (omega arith))

  pub rule_own : (type place m : ℕ) (rows : List ℕ)
      → rule (arc_cause type place m r) (not (has_arc rows r)) (RepeatedArc place)
      ≡ rule (arc_cause type place m t) (not (has_arc rows t)) (RepeatedArc place)
  rule_own type place m rows = rw (arc_own type place m, has_own rows)

  pub stays_own : (rows : List ℕ)
      → (not (eqb (byte r 0) 4) || has_arc rows r) ≡ (not (eqb (byte t 0) 4) || has_arc rows t)
  stays_own rows = rw (own_byte 0 (omega arith), has_own rows)

  pub own_arc : ArcRecord t → ArcRecord r
  own_arc h = rw (own_byte 1 (omega arith), own_byte 2 (omega arith))
      (omega (arith, ap length e, length-take-le 24 t h.0), h.1, h.2, h.3, h.4)

-- ---- the records of a file, and of its parts

-- what `as_chunks` gives
pub chunk_at : (n : ℕ) (s : List ℕ) → RecordsOf s (first_chunks 24 n s)
chunk_at zero s i h = absurd (omega arith)
chunk_at (suc n) s zero h = refl
chunk_at (suc n) s (suc i) h =
    let e : 24 + 24 * i ≡ 24 * suc i = omega arith in
    chunk_at n (drop 24 s) i (omega arith) ∙ ap (take 24) (drop-drop (24 * i) 24 s ∙ ap (λ (x : ℕ). drop x s) e)

-- the run of a type ends at p
leading_is : (type n : ℕ) (s : List ℕ) (p : ℕ) → p ≤ n → ((k : ℕ) → k < p → eqb (byte (record_at s k) 0) type ≡ true)
    → (p < n → eqb (byte (record_at s p) 0) type ≡ false) → p ≡ leading type n s
unfolding leading
leading_is type zero s p le before here = omega arith
leading_is type (suc n) s zero le before here = rw (here (omega arith))
leading_is type (suc n) s (suc p) le before here =
    let rest = leading_is type n (drop 24 s) p (omega arith)
    (λ k l. let q : 1 + k ≡ suc k = omega arith in rw (record_on s 1 k, q) (before (suc k) (omega arith)))
    (λ l. let q : 1 + p ≡ suc p = omega arith in rw (record_on s 1 p, q) (here (omega arith))) in
    rw (before 0 (omega arith)) (ap suc rest)

module _ (s : List ℕ) (rs : List (List ℕ)) (R : RecordsOf s rs) where
  pub front_records : (m : ℕ) → m ≤ length rs → RecordsOf s (take m rs)
  front_records m l i h = get_or-take m rs i [] (omega (arith, length-take-le m rs l))
      ∙ R i (omega (arith, length-take-le m rs l))

  pub are_arcs : ArcRecords (length rs) s → AreArcs rs
  are_arcs h p l = own_arc (get_or rs p []) (record_at s p) (R p l) (h p l)

  pub later_records : (m : ℕ) → RecordsOf (record_at s m) (drop m rs)
  later_records m i h =
      get_or-drop m rs i [] ∙ R (m + i) (omega (arith, length-drop m rs)) ∙ ap (take 24) (sym (record_on s m i))

  pub leading_here : (type p : ℕ) → p ≤ length rs → ((k : ℕ) → k < p → eqb (byte (get_or rs k []) 0) type ≡ true)
      → (p < length rs → eqb (byte (get_or rs p []) 0) type ≡ false) → p ≡ leading type (length rs) s
  leading_here type p le before here =
      leading_is type (length rs) s p le
      (λ k l. ap (λ (b : ℕ). eqb b type)
      (sym (own_byte (get_or rs k []) (record_at s k) (R k (omega arith)) 0 (omega arith))) ∙ before k l)
      (λ l. ap (λ (b : ℕ). eqb b type) (sym (own_byte (get_or rs p []) (record_at s p) (R p l) 0 (omega arith)))
      ∙ here l)

-- the first of them, and those after it
pub first_record : (t r : List ℕ) (rs : List (List ℕ)) → RecordsOf t (r ∷ rs) → r ≡ take 24 t
first_record t r rs R = R 0 (omega arith)

pub next_records : (t r : List ℕ) (rs : List (List ℕ)) → RecordsOf t (r ∷ rs) → RecordsOf (drop 24 t) rs
next_records t r rs R = later_records t (r ∷ rs) R 1
