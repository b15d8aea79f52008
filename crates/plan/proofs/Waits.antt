-- The waits of a file's arcs: that each is what its record says, that the table that is read holds
-- them, and how large they are.
use mathlib.Core.Path.{◌≡◌, sym, ap, ap₂, ◌∙◌}
use mathlib.Core.Bool.{true, false}
use mathlib.Core.List.{List}
use mathlib.Core.Logic.{◌↔◌, ◌≢◌, by_cases}
use Prim.Native.Nat.{ℕ, zero, suc, ◌+◌, ◌-◌, ◌*◌, ◌/◌, ◌%◌, ◌≤◌, ◌<◌, max}
use native.Mathlib.Nat.{add-zero, add-suc}
use native.Mathlib.Decide.{dec_lt, ℕ_discrete}
use native.Mathlib.Omega.{arith}
use lib.Dec.{ltb}
use lib.ListN.{length, get_or, replicate, length-set, length-replicate, length-drop}
use lib.Seq.{get_or-set_same, get_or-set_other}
use Rattle.words.specs.model.Loops.{upto}
use Rattle.words.proofs.Tests.{by_test, clash, fails, cond_true, cond_false}
use Rattle.words.proofs.Tables.{get_d_table, is_table, get_d_zeros}
use Rattle.records.specs.Bytes.{byte, AreBytes}
use Rattle.order.specs.Stored.{elements}
use Rattle.plan.specs.Records.{record_at, record_count, type_at, activity_count, job_count, due_type, wait_in}
use Rattle.plan.specs.Meaning.{Readable, Names, JobArc, ExtraArc, names_at, wait_up_to, job_wait, extra_wait, file_wait}
use Rattle.plan.specs.model.Waits.{wait_table, wait_place, with_wait, put_wait, ArcRecords}
use Rattle.plan.proofs.Places.{record_on}
use Rattle.plan.proofs.RecordRules.{ArcKept}
use Rattle.plan.proofs.Parts.{Faultless, few, crew_fine, arc_fine, arc_new, no_arc}
use Rattle.plan.proofs.Repeats.{ends_say, repeats_says}
use Rattle.plan.proofs.NamedArcs.{names_wider}
use Rattle.plan.proofs.Said.{readable_faultless, field_small, table_least}
use Rattle.plan.proofs.RepeatedArcs.{arcs_once}

-- ---- the wait that the first records give an arc of a type

module _ (s : List ℕ) (type i j : ℕ) where
  names_says : (p : ℕ) → (names_at s type i j p ≡ true) ↔ ((type_at s p ≡ type) × (byte (record_at s p) 1 ≡ i + 1) × (byte (record_at s p) 2 ≡ j + 1))
  names_says p = let r = record_at s p in ends_say (byte r 0) (byte r 1) (byte r 2) type (i + 1) (j + 1)

  named : (n p : ℕ) → p < n → names_at s type i j p ≡ true → Names s n type i j
  named n p l e = let h = (names_says p).0 e in record { place = p; there = l; typed = h.0; from = h.1; to = h.2 }

  wait_here : (p : ℕ) → names_at s type i j p ≡ true → wait_up_to s type i j (suc p) ≡ wait_in (record_at s p)
  unfolding wait_up_to
  wait_here p e = cond_true _ _ e

  wait_skip : (p : ℕ) → names_at s type i j p ≡ false → wait_up_to s type i j (suc p) ≡ wait_up_to s type i j p
  unfolding wait_up_to
  wait_skip p e = cond_false _ _ e

  -- where there is a wait, a record names the arc
  wait_named : (n : ℕ) → 0 < wait_up_to s type i j n → Names s n type i j
  unfolding wait_up_to
  wait_named zero some = absurd (omega arith)
  wait_named (suc n) some =
      by_test (names_at s type i j n)
      (λ t. named (suc n) n (omega arith) t)
      (λ t. names_wider (omega arith) (wait_named n (omega (arith, wait_skip n t))))

  wait_none : (n : ℕ) → (Names s n type i j → ⊥) → wait_up_to s type i j n ≡ 0
  wait_none n none = by_cases (dec_lt 0 (wait_up_to s type i j n)) (λ some. absurd (none (wait_named n some))) (λ no. omega arith)

  -- the record at place p names it, and none of the first n does after p
  wait_last : (n p : ℕ) → p < n → names_at s type i j p ≡ true → ((q : ℕ) → q < n → p < q → names_at s type i j q ≡ false) → wait_up_to s type i j n ≡ wait_in (record_at s p)
  wait_last zero p l e none = absurd (omega arith)
  wait_last (suc n) p l e none = go (ℕ_discrete p n) (λ b. wait_last n p b e (λ q m after. none q (omega arith) after))
    where
      go : Dec (p ≡ n) → (p < n → wait_up_to s type i j n ≡ wait_in (record_at s p)) → wait_up_to s type i j (suc n) ≡ wait_in (record_at s p)
      go (yes q) before = wait_here n (ap (names_at s type i j) (sym q) ∙ e) ∙ ap (λ (x : ℕ). wait_in (record_at s x)) (sym q)
      go (no q) before = wait_skip n (none n (omega arith) (omega arith)) ∙ before (omega arith)

  wait_least : AreBytes s → (n : ℕ) → wait_up_to s type i j n ≤ 65535
  unfolding wait_up_to
  wait_least bytes zero = omega arith
  wait_least bytes (suc n) = by_test (names_at s type i j n) (λ t. omega (arith, wait_here n t, field_small s bytes n 4)) (λ t. omega (arith, wait_skip n t, wait_least bytes n))

-- IN A READABLE FILE THE WAIT IS WHAT THE RECORD THAT NAMES THE ARC SAYS, and 0 where none does
pub wait_of : (s : List ℕ) → Readable s → (type i j : ℕ) → 3 ≤ type → (n : Names s (record_count s) type i j)
    → wait_up_to s type i j (record_count s) ≡ wait_in (record_at s n.place)
unfolding named
wait_of s e type i j some n =
    wait_last s type i j (record_count s) n.place n.there ((names_says s type i j n.place).1 (n.typed, n.from, n.to))
    (λ q l after. fails (names_at s type i j q) (λ t. let one : n.place ≡ q = arcs_once s e type i j some n (named s type i j (record_count s) q l t) in omega arith))

pub job_wait_lem : (s : List ℕ) → Readable s → (i j : ℕ) (n : Names s (record_count s) 3 i j) → job_wait s i j ≡ wait_in (record_at s n.place)
unfolding job_wait
job_wait_lem s e i j n = wait_of s e 3 i j (omega arith) n

pub extra_wait_lem : (s : List ℕ) → Readable s → (i j : ℕ) (n : Names s (record_count s) 4 i j) → extra_wait s i j ≡ wait_in (record_at s n.place)
unfolding extra_wait
extra_wait_lem s e i j n = wait_of s e 4 i j (omega arith) n

pub no_job_wait : (s : List ℕ) (i j : ℕ) → (JobArc s i j → ⊥) → job_wait s i j ≡ 0
unfolding job_wait JobArc
no_job_wait s i j none = wait_none s 3 i j (record_count s) none

pub no_extra_wait : (s : List ℕ) (i j : ℕ) → (ExtraArc s i j → ⊥) → extra_wait s i j ≡ 0
unfolding extra_wait ExtraArc
no_extra_wait s i j none = wait_none s 4 i j (record_count s) none

pub job_waits : (s : List ℕ) (i j : ℕ) → 0 < job_wait s i j → JobArc s i j
unfolding job_wait JobArc
job_waits s i j = wait_named s 3 i j (record_count s)

pub extra_waits : (s : List ℕ) (i j : ℕ) → 0 < extra_wait s i j → ExtraArc s i j
unfolding extra_wait ExtraArc
extra_waits s i j = wait_named s 4 i j (record_count s)

pub file_wait_small : (s : List ℕ) → AreBytes s → (i j : ℕ) → file_wait s i j ≤ 65535
unfolding job_wait extra_wait
file_wait_small s bytes i j = omega (arith, wait_least s 3 i j bytes (record_count s), wait_least s 4 i j bytes (record_count s))

-- ---- the table

pub waits_at : (s : List ℕ) (i j : ℕ) → i < elements → j < elements → get_or (wait_table s) (elements * j + i) 0 ≡ file_wait s i j
unfolding wait_table
waits_at s i j l h =
    let low : (elements * j + i) % elements ≡ i = omega arith in
    let high : (elements * j + i) / elements ≡ j = omega arith in
    get_d_table (elements * elements) (λ x. file_wait s (x % elements) (x / elements)) (elements * j + i) 0 (omega arith) ∙ ap₂ (file_wait s) low high

pub waits_small : (s : List ℕ) → AreBytes s → (x : ℕ) → get_or (wait_table s) x 0 ≤ 65535
unfolding wait_table
waits_small s bytes = table_least (elements * elements) 65535 (λ x. file_wait s (x % elements) (x / elements)) (λ x. file_wait_small s bytes (x % elements) (x / elements))

-- ---- THE TABLE IS WHAT IS READ, record by record

module _ (s : List ℕ) (F : Faultless s) where
  abbrev first : ℕ
  first = activity_count s + 1

  -- the longer of the waits that the records before place p give an arc from i to j
  abbrev longer : ℕ → ℕ → ℕ → ℕ
  longer p i j = max (wait_up_to s 3 i j p) (wait_up_to s 4 i j p)

  record Raised (p : ℕ) (now : List ℕ) : Type 0 where
    long : length now ≡ elements * elements
    here : (i j : ℕ) → i < elements → j < elements → get_or now (elements * j + i) 0 ≡ longer p i j

  -- before the first arc no record names one
  none_before : (type i j : ℕ) → 3 ≤ type → wait_up_to s type i j first ≡ 0
  none_before type i j some = wait_none s type i j first (λ n. no_arc s (crew_fine s F).typed type n.place some (omega (arith, n.there)) n.typed)

  module _ (p : ℕ) (after : activity_count s < p) (there : p < record_count s) where
    abbrev r : List ℕ
    r = record_at s p

    K : ArcKept (due_type s p) (activity_count s) r
    K = arc_fine s F p after there

    -- of the type of the record, no record before it names its pair; of the other type it names none
    fresh : (type i j : ℕ) → type_at s p ≡ type → byte r 1 ≡ i + 1 → byte r 2 ≡ j + 1 → wait_up_to s type i j p ≡ 0
    fresh type i j e f t =
        wait_none s type i j p
        (λ n. clash ((repeats_says s p i j f t).1 (record { place = n.place; there = n.there; typed = n.typed ∙ sym e; from = n.from; to = n.to })) (arc_new s F p after there))

    stays : (type i j : ℕ) → ((type_at s p ≡ type) × (byte r 1 ≡ i + 1) × (byte r 2 ≡ j + 1) → ⊥) → wait_up_to s type i j (suc p) ≡ wait_up_to s type i j p
    stays type i j other = wait_skip s type i j p (fails (names_at s type i j p) (λ t. other ((names_says s type i j p).0 t)))

    -- the pair of the record
    raised_here : (i j : ℕ) → byte r 1 ≡ i + 1 → byte r 2 ≡ j + 1 → longer (suc p) i j ≡ max (longer p i j) (wait_in r)
    raised_here i j f t = by_test (ltb p (activity_count s + 1 + job_count s)) (λ d. of_job (K.typed ∙ cond_true 3 4 d)) (λ d. of_extra (K.typed ∙ cond_false 3 4 d))
      where
        of_job : type_at s p ≡ 3 → longer (suc p) i j ≡ max (longer p i j) (wait_in r)
        of_job e =
            let x = wait_here s 3 i j p ((names_says s 3 i j p).1 (e, f, t)) in
            let y = stays 4 i j (λ h. omega (arith, e, h.0)) in
            omega (arith, x, y, fresh 3 i j e f t)

        of_extra : type_at s p ≡ 4 → longer (suc p) i j ≡ max (longer p i j) (wait_in r)
        of_extra e =
            let x = wait_here s 4 i j p ((names_says s 4 i j p).1 (e, f, t)) in
            let y = stays 3 i j (λ h. omega (arith, e, h.0)) in
            omega (arith, x, y, fresh 4 i j e f t)

    -- and any other
    raised_other : (i j : ℕ) → ((byte r 1 ≡ i + 1) × (byte r 2 ≡ j + 1) → ⊥) → longer (suc p) i j ≡ longer p i j
    raised_other i j ne = ap₂ max (stays 3 i j (λ h. ne (h.1, h.2))) (stays 4 i j (λ h. ne (h.1, h.2)))

    raised : (now : List ℕ) → Raised p now → Raised (suc p) (with_wait r now)
    raised now u =
        record {
          long = length-set now (wait_place r) (max (get_or now (wait_place r) 0) (wait_in r)) ∙ u.long;
          here = λ i j l h. go i j l h (ℕ_discrete (byte r 1) (i + 1)) (ℕ_discrete (byte r 2) (j + 1));
        }
      where
        new : ℕ
        new = max (get_or now (wait_place r) 0) (wait_in r)

        apart : (i j : ℕ) → i < elements → j < elements → ((byte r 1 ≡ i + 1) × (byte r 2 ≡ j + 1) → ⊥) → elements * j + i ≢ wait_place r
            → get_or (with_wait r now) (elements * j + i) 0 ≡ longer (suc p) i j
        apart i j l h ne q = get_or-set_other now (wait_place r) (elements * j + i) new 0 q ∙ u.here i j l h ∙ sym (raised_other i j ne)

        go : (i j : ℕ) → i < elements → j < elements → Dec (byte r 1 ≡ i + 1) → Dec (byte r 2 ≡ j + 1) → get_or (with_wait r now) (elements * j + i) 0 ≡ longer (suc p) i j
        go i j l h (yes f) (yes t) =
            let q : wait_place r ≡ elements * j + i = omega (arith, f, t) in
            ap (λ (x : ℕ). get_or (with_wait r now) x 0) (sym q)
            ∙ get_or-set_same now (wait_place r) new 0 (omega (arith, u.long))
            ∙ ap (λ (x : ℕ). max (get_or now x 0) (wait_in r)) q
            ∙ ap (λ (x : ℕ). max x (wait_in r)) (u.here i j l h)
            ∙ sym (raised_here i j f t)
        go i j l h (no f) t = apart i j l h (λ e. f e.0) (λ e. f (omega (arith, K.from_low, K.from_high, few s F, e)))
        go i j l h (yes f) (no t) = apart i j l h (λ e. t e.1) (λ e. t (omega (arith, f, K.to_low, e)))

  raising : (k : ℕ) → first + k ≤ record_count s → Raised (first + k) (upto (put_wait (record_at s first)) k (replicate (elements * elements) 0))
  unfolding upto
  raising zero b =
      rw (add-zero first)
      (record {
        long = length-replicate {A = ℕ} (elements * elements) 0;
        here = λ i j l h. get_d_zeros (elements * elements) (elements * j + i) ∙ sym (ap₂ max (none_before 3 i j (omega arith)) (none_before 4 i j (omega arith)));
      })
  raising (suc k) b =
      rw (add-suc first k, record_on s first k) (raised (first + k) (omega arith) (omega arith) (upto (put_wait (record_at s first)) k (replicate (elements * elements) 0)) (raising k (omega arith)))

-- so many records stand there, and all are arcs
pub arcs_there : (s : List ℕ) → Readable s → activity_count s + 1 ≤ record_count s
arcs_there s e = omega (arith, (readable_faultless s e).crewed)

pub arcs_recorded : (s : List ℕ) → Readable s → ArcRecords (record_count s - (activity_count s + 1)) (record_at s (activity_count s + 1))
arcs_recorded s e p l =
    let F = readable_faultless s e in
    let q : ℕ = activity_count s + 1 + p in
    let K = arc_fine s F q (omega arith) (omega arith) in
    rw (record_on s (activity_count s + 1) p) (omega (arith, length-drop (24 * q) s), K.from_low, omega (arith, K.from_high, few s F), K.to_low, omega (arith, K.to_high, few s F))

pub waits_stored : (s : List ℕ) → Readable s → upto (put_wait (record_at s (activity_count s + 1))) (record_count s - (activity_count s + 1)) (replicate (elements * elements) 0) ≡ wait_table s
unfolding wait_table job_wait extra_wait
waits_stored s e =
    let F = readable_faultless s e in
    let q : activity_count s + 1 + (record_count s - (activity_count s + 1)) ≡ record_count s = omega (arith, F.crewed) in
    let u = raising s F (record_count s - (activity_count s + 1)) (omega arith) in
    is_table (elements * elements) (λ x. file_wait s (x % elements) (x / elements)) _ 0 u.long
    (λ x l.
    let y : elements * (x / elements) + x % elements ≡ x = omega arith in
    ap (λ (z : ℕ). get_or (upto (put_wait (record_at s (activity_count s + 1))) (record_count s - (activity_count s + 1)) (replicate (elements * elements) 0)) z 0) (sym y)
    ∙ u.here (x % elements) (x / elements) (omega arith) (omega arith)
    ∙ ap (λ (n : ℕ). max (wait_up_to s 3 (x % elements) (x / elements) n) (wait_up_to s 4 (x % elements) (x / elements) n)) q)
