-- The records of a readable file that a test keeps, all activities and the crew record among them, are a file without
-- some arc records: `filtered_selected`. And where it keeps of the extra arcs those that some rows have, the plan is
-- the same but for those: `stays_plan`.
use mathlib.Core.Path.{◌≡◌, refl, sym, ap, ap₂, ◌∙◌}
use mathlib.Core.Bool.{Bool, true, not, ◌||◌}
use mathlib.Core.List.{List, [], ◌++◌, append-nil}
use mathlib.Core.Logic.{◌↔◌, ◌≢◌}
use Prim.Native.Nat.{ℕ, zero, suc, ◌+◌, ◌-◌, ◌*◌, ◌≤◌, ◌<◌}
use native.Mathlib.Decide.{dec_lt}
use native.Mathlib.Omega.{arith}
use lib.ListN.{length, take, length-take, length-drop}
use lib.Seq.{get_or-take, take-add, take_all}
use lib.Dec.{eqb}
use borrow.Author.Tests.{eq-eqb, ne_eqb, eqb-true, eqb-false}
use Rattle.words.specs.Members.{count}
use Rattle.words.proofs.Counts.{count_more, count_less, count_same}
use Rattle.words.proofs.Tests.{by_test, or_left, or_right}
use Rattle.records.specs.Bytes.{byte}
use Rattle.records.specs.Records.{joined, kept}
use Rattle.records.proofs.Kept.{kept_one, kept_length, kept_at, kept_there}
use Rattle.order.specs.Rows.{after}
use Rattle.order.specs.Stored.{elements, cells, RowsFit}
use Rattle.plan.specs.Records.{record_at, record_count, type_at, activity_count}
use Rattle.plan.specs.Meaning.{Readable, Names, JobArc, ExtraArc}
use Rattle.plan.specs.Filtered.{filtered, LeavesArcs, KeptNames, Selected}
use Rattle.plan.specs.model.ArcRows.{has_arc, stays_by, arc_rows}
use Rattle.plan.specs.model.Plans.{plan_of, with_extra}
use Rattle.plan.proofs.Parts.{Faultless, crew_fine, no_arc}
use Rattle.plan.proofs.NamedArcs.{named_kept, all_named, rows_named}
use Rattle.plan.proofs.Said.{readable_length, readable_faultless, plan_but}
use Rattle.plan.proofs.Refused.{length_says}
use Rattle.plan.proofs.Selected.{selected_count, selected_readable, selected_kinds, selected_duration, selected_demand, selected_available}

module _ (keep : ℕ → Bool) (s : List ℕ) (e : Readable s) (arcs : LeavesArcs keep s) where
  abbrev t : List ℕ
  t = filtered keep s

  abbrev n : ℕ
  n = record_count s

  -- each record of s is whole
  abbrev one : ℕ → List ℕ
  one p = take 24 (record_at s p)

  each : (k : ℕ) → k < n → keep k ≡ true → length (one k) ≡ 24
  each k l b = omega (arith, length-take 24 (record_at s k), length-drop (24 * k) s)

  pub filtered_length : length (filtered keep s) ≡ 24 * count (record_count s) keep
  unfolding filtered
  filtered_length = kept_length keep one n each n (omega arith)

  pub filtered_count : record_count (filtered keep s) ≡ count (record_count s) keep
  filtered_count = omega (arith, filtered_length)

  -- record p is record k of s, where p of those before k are kept
  record From (p k : ℕ) : Type 0 where
    there : k < n
    chosen : keep k ≡ true
    rank : count k keep ≡ p
    is : take 24 (record_at t p) ≡ one k

  from_at : (p : ℕ) → p < record_count t → (k : ℕ) × From p k
  unfolding filtered
  from_at p l =
      let a = kept_at keep one n each n p [] (omega arith) (omega (arith, filtered_count)) in (
        a.k,
        record {
          there = a.there;
          chosen = a.chosen;
          rank = a.rank;
          is = ap (λ (r : List ℕ). take 24 (record_at r p)) (sym (append-nil (kept keep one n))) ∙ a.is;
        },
      )

  -- and each that is kept stands there
  kept_at_rank : (k : ℕ) → k < n → keep k ≡ true → (count k keep < record_count t) × (take 24 (record_at t (count k keep)) ≡ one k)
  unfolding filtered
  kept_at_rank k l b =
      let w = kept_there keep one n each n k [] (omega arith) l b in
      (omega (arith, filtered_count, w.0), ap (λ (r : List ℕ). take 24 (record_at r (count k keep))) (sym (append-nil (kept keep one n))) ∙ w.1)

  pick : (p : ℕ) → Dec (p < record_count t) → ℕ
  pick p (yes l) = (from_at p l).0
  pick p (no l) = 0

  picked : (p : ℕ) (d : Dec (p < record_count t)) → p < record_count t → From p (pick p d)
  unfolding pick
  picked p (yes l) h = (from_at p l).1
  picked p (no l) h = absurd (l h)

  origin : ℕ → ℕ
  origin p = pick p (dec_lt p (record_count t))

  from_origin : (p : ℕ) → p < record_count t → From p (origin p)
  unfolding origin
  from_origin p = picked p (dec_lt p (record_count t))

  -- so many of the first are kept
  all_front : (p : ℕ) → p ≤ activity_count s → count p keep ≡ p
  unfolding count
  all_front zero l = refl
  all_front (suc p) l = count_more keep p (arcs p (omega arith)) ∙ ap suc (all_front p (omega arith))

  pub filtered_selected : Selected s (filtered keep s)
  filtered_selected =
      record {
        whole = filtered_length ∙ ap (λ (x : ℕ). 24 * x) (sym filtered_count);
        origin = origin;
        there = λ p l. (from_origin p l).there;
        ascend = ascend;
        same = λ p l. (from_origin p l).is;
        front = front;
      }
    where
      ascend : (p q : ℕ) → p < q → q < record_count t → origin p < origin q
      ascend p q h l = go (dec_lt (origin p) (origin q)) (dec_lt (origin q) (origin p))
        where
          P : From p (origin p)
          P = from_origin p (omega arith)

          Q : From q (origin q)
          Q = from_origin q l

          go : Dec (origin p < origin q) → Dec (origin q < origin p) → origin p < origin q
          go (yes b) d = b
          go (no b) (yes c) = absurd (omega (arith, P.rank, Q.rank, count_less keep (origin q) (origin p) c Q.chosen))
          go (no b) (no c) =
              let same : origin p ≡ origin q = omega arith in
              absurd (omega (arith, P.rank, Q.rank, ap (λ (x : ℕ). count x keep) same))

      front : (p : ℕ) → p ≤ activity_count s → (p < record_count t) × (origin p ≡ p)
      front p l =
          let b = arcs p l in
          let less : p < record_count t = omega (arith, filtered_count, all_front p l, count_less keep p n (omega (arith, (readable_faultless s e).crewed)) b) in
          let P = from_origin p less in
          (less, count_same keep (origin p) p P.chosen b (P.rank ∙ sym (all_front p l)))

  -- ---- THE ARCS: those that are kept

  -- a byte of a record of which 24 bytes are said
  byte_of : (q : List ℕ) (k b : ℕ) → take 24 q ≡ one k → b < 24 → byte q b ≡ byte (record_at s k) b
  byte_of q k b same l = sym (get_or-take 24 q b 0 l) ∙ ap (λ (r : List ℕ). byte r b) same ∙ get_or-take 24 (record_at s k) b 0 l

  pub filtered_names : (type i j : ℕ) → Names (filtered keep s) (record_count (filtered keep s)) type i j ↔ KeptNames keep s type i j
  filtered_names type i j = (to_kept, from_kept)
    where
      to_kept : Names t (record_count t) type i j → KeptNames keep s type i j
      to_kept h =
          let p = h.place in
          let P = from_origin p h.there in
          let at : (b : ℕ) → b < 24 → byte (record_at t p) b ≡ byte (record_at s (origin p)) b = λ b. byte_of (record_at t p) (origin p) b P.is in
          record {
            place = origin p;
            there = P.there;
            chosen = P.chosen;
            typed = sym (at 0 (omega arith)) ∙ h.typed;
            from = sym (at 1 (omega arith)) ∙ h.from;
            to = sym (at 2 (omega arith)) ∙ h.to;
          }

      from_kept : KeptNames keep s type i j → Names t (record_count t) type i j
      from_kept h =
          let k = h.place in
          let p : ℕ = count k keep in
          let w = kept_at_rank k h.there h.chosen in
          let at : (b : ℕ) → b < 24 → byte (record_at t p) b ≡ byte (record_at s k) b = λ b. byte_of (record_at t p) k b w.1 in
          record {
            place = p;
            there = w.0;
            typed = at 0 (omega arith) ∙ h.typed;
            from = at 1 (omega arith) ∙ h.from;
            to = at 2 (omega arith) ∙ h.to;
          }

-- ---- WHERE THE EXTRA ARCS THAT SOME ROWS HAVE STAY, and all else

module _ (s : List ℕ) (e : Readable s) (rows : List ℕ) where
  -- a record that is no extra arc stays
  other_stays : (p : ℕ) → type_at s p ≢ 4 → stays_by rows s p ≡ true
  other_stays p ne = or_left (not (eqb (type_at s p) 4)) (has_arc rows (record_at s p)) (ap not (ne_eqb (type_at s p) 4 ne))

  pub stays_arcs : LeavesArcs (stays_by rows s) s
  stays_arcs p l = other_stays p (no_arc s (crew_fine s (readable_faultless s e)).typed 4 p (omega arith) l)

  -- an extra arc stays exactly where the rows have it
  extra_stays : (p i j : ℕ) → type_at s p ≡ 4 → byte (record_at s p) 1 ≡ i + 1 → byte (record_at s p) 2 ≡ j + 1 → stays_by rows s p ≡ after rows i j
  extra_stays p i j typed from to =
      let a : byte (record_at s p) 1 - 1 ≡ i = omega arith in
      let b : byte (record_at s p) 2 - 1 ≡ j = omega arith in
      ap (λ (x : Bool). not x || has_arc rows (record_at s p)) (eq-eqb (type_at s p) 4 typed) ∙ ap₂ (after rows) a b

  abbrev u : List ℕ
  u = filtered (stays_by rows s) s

  pub stays_job : (i j : ℕ) → JobArc (filtered (stays_by rows s) s) i j ↔ JobArc s i j
  unfolding JobArc
  stays_job i j =
      let f = filtered_names (stays_by rows s) s e stays_arcs 3 i j in (
        (λ h. let k = f.0 h in record { place = k.place; there = k.there; typed = k.typed; from = k.from; to = k.to }),
        (λ h.
            f.1
            (record { place = h.place; there = h.there; chosen = other_stays h.place (λ q. omega (arith, h.typed)); typed = h.typed; from = h.from; to = h.to })),
      )

  pub stays_extra : (i j : ℕ) → ExtraArc (filtered (stays_by rows s) s) i j ↔ (ExtraArc s i j × (after rows i j ≡ true))
  unfolding ExtraArc
  stays_extra i j =
      let f = filtered_names (stays_by rows s) s e stays_arcs 4 i j in (
        (λ h.
            let k = f.0 h in (
              record { place = k.place; there = k.there; typed = k.typed; from = k.from; to = k.to },
              sym (extra_stays k.place i j k.typed k.from k.to) ∙ k.chosen,
            )),
        (λ w.
            let h = w.0 in
            f.1
            (record {
              place = h.place;
              there = h.there;
              chosen = extra_stays h.place i j h.typed h.from h.to ∙ w.1;
              typed = h.typed;
              from = h.from;
              to = h.to;
            })),
      )

  -- THE PLAN is the same with these extra arcs, where they are some of its own
  module _ (long : length rows ≡ cells elements) (fit : RowsFit elements rows) (fewer : (i j : ℕ) → after rows i j ≡ true → after (arc_rows s 4) i j ≡ true) where
    pub stays_plan : plan_of (filtered (stays_by rows s) s) ≡ with_extra (plan_of s) rows
    unfolding ExtraArc
    stays_plan =
        let S = filtered_selected (stays_by rows s) s e stays_arcs in
        let r = selected_readable s u e S in
        let m = selected_count s u e S in
        plan_but u s r e m (selected_kinds s u e S)
        (λ i l. selected_duration s u e S i (omega (arith, m)))
        (λ k i b l. selected_demand s u e S k i b (omega (arith, m)))
        (selected_available s u e S)
        stays_job
        ∙ ap (with_extra (plan_of s))
        (rows_named u (readable_faultless u r) 4 (omega arith) rows long fit
        (λ i j. ((λ h. ((stays_extra i j).0 h).1), (λ h. (stays_extra i j).1 ((all_named s (readable_faultless s e) 4 (omega arith) i j).0 (fewer i j h), h)))))

-- ---- WHERE ALL STAY, the file is as it was

all_kept : (keep : ℕ → Bool) (s : List ℕ) (n : ℕ) → ((p : ℕ) → p < n → keep p ≡ true) → kept keep (λ p. take 24 (record_at s p)) n ≡ take (24 * n) s
unfolding joined
all_kept keep s zero all = refl
all_kept keep s (suc n) all =
    let one : ℕ → List ℕ = λ p. take 24 (record_at s p) in
    let q : 24 * n + 24 ≡ 24 * suc n = omega arith in
    kept_one keep one n (all n (omega arith))
    ∙ ap (λ (l : List ℕ). l ++ one n) (all_kept keep s n (λ p l. all p (omega arith)))
    ∙ sym (take-add (24 * n) 24 s)
    ∙ ap (λ (x : ℕ). take x s) q

pub stays_all : (s : List ℕ) → Readable s → filtered (stays_by (arc_rows s 4) s) s ≡ s
unfolding filtered
stays_all s e =
    let whole = ((length_says (length s)).0 (readable_length s e)).2 in
    all_kept (stays_by (arc_rows s 4) s) s (record_count s) all ∙ take_all (24 * record_count s) s (omega arith)
  where
    F : Faultless s
    F = readable_faultless s e

    all : (p : ℕ) → p < record_count s → stays_by (arc_rows s 4) s p ≡ true
    all p l =
        by_test (eqb (type_at s p) 4)
        (λ t.
        let typed = eqb-true (type_at s p) 4 t in
        let r : List ℕ = record_at s p in
        let K = named_kept s F 4 (omega arith) p l typed in
        let from : byte r 1 ≡ byte r 1 - 1 + 1 = omega (arith, K.from_low) in
        let to : byte r 2 ≡ byte r 2 - 1 + 1 = omega (arith, K.to_low) in
        or_right (not (eqb (type_at s p) 4)) (has_arc (arc_rows s 4) r)
        ((all_named s F 4 (omega arith) (byte r 1 - 1) (byte r 2 - 1)).1 (record { place = p; there = l; typed = typed; from = from; to = to })))
        (λ t. other_stays s e (arc_rows s 4) p (eqb-false (type_at s p) 4 t))
