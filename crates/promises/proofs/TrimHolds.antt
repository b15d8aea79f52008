-- CHANGE 7 OF DOCUMENT 02 HOLDS OF OURS: `trim_keeps`. It rests on TrimChoices (which arcs go), TrimLeast (no
-- more can) and TrimVerdicts.
use mathlib.Core.Path.{◌≡◌, refl, sym, ap, ◌∙◌, subst}
use mathlib.Core.Bool.{true, false}
use mathlib.Core.List.{List, [], ◌∷◌, ◌++◌}
use mathlib.Core.Logic.{◌≢◌, inl, inr, ⊎_elim}
use Prim.Native.Nat.{ℕ, ◌*◌, ◌≤◌}
use native.Mathlib.Omega.{arith}
use lib.ListN.{length, take, drop, length-append, length-drop}
use lib.Seq.{take_at, drop_at}
use Rattle.std.specs.Prelude.{Ok, Err}
use Rattle.words.proofs.Counts.{count_le}
use Rattle.records.specs.Bytes.{AreBytes}
use Rattle.order.specs.Stored.{elements}
use Rattle.order.specs.Orders.{without_arc}
use Rattle.plan.specs.Records.{record_count}
use Rattle.plan.specs.Meaning.{Readable}
use Rattle.plan.specs.Filtered.{filtered}
use Rattle.plan.specs.model.ArcRows.{stays_by}
use Rattle.plan.specs.model.Plans.{with_extra}
use Rattle.plan.proofs.Filtered.{filtered_count, stays_arcs}
use Rattle.planner.specs.Faults.{Fault}
use Rattle.planner.specs.Open.{plan_in, fault_of, Opens}
use Rattle.planner.specs.Need.{is_overloaded, over_cause}
use Rattle.planner.specs.Answers.{cause_number}
use Rattle.planner.specs.Verdict.{is_accepted, verdict_fault, verdict_of}
use Rattle.planner.specs.Trim.{trimmed_rows, trimmed_file, trim_fault, trim_answer, trim_out}
use Rattle.planner.specs.declared.Cause.{Cause}
use Rattle.planner.specs.declared.Cause.TheVariants.{Short}
use Rattle.planner.proofs.FaultLaws.{cause_before, cause_from, from_before}
use Rattle.planner.proofs.OutputLaws.{output_refused, output_fine, output_is_refused, lent_fine}
use Rattle.planner.proofs.TrimLaws.{fine_trim, trim_before, trim_from, trim_short, trim_over}
use Rattle.planner.proofs.OpenLaws.{opens_readable}
use Rattle.planner.proofs.FileOrders.{opens_when}
use Rattle.planner.proofs.TrimPairs.{left_readable, left_bytes, left_plan, accepted_at}
use Rattle.promises.specs.Ours.{ours, our_trim}
use Rattle.promises.specs.EveryInput.{opening}
use Rattle.promises.specs.Trim.{Accepts, Trimmed, Trims, TrimSentence}
use Rattle.promises.proofs.EveryInputHolds.{is_one, one_after, one_not, Only, only_cause, only_more, fault_only, output_by, kept}
use Rattle.promises.proofs.RefusalsHold.{given}
use Rattle.promises.proofs.TrimVerdicts.{refused_fault, accepts_opens, accepts_plan, plan_accepts}
use Rattle.promises.proofs.TrimChoices.{left, readable_t, leaves, then_left, goes, stays}
use Rattle.promises.proofs.TrimLeast.{least, opens_t, bytes_t, again}
use Rattle.promises.proofs.TrimmedPlans.{with_selected, left_one, one_less}

module _ (s : List ℕ) (bytes : AreBytes s) (o : Opens s) where
  abbrev t : List ℕ
  t = filtered (stays_by (trimmed_rows s) s) s

  -- ---- THE TRIMMED PLAN

  accepted_end : is_accepted (plan_in s) ≡ true → is_accepted (with_extra (plan_in s) (trimmed_rows s)) ≡ true
  unfolding trimmed_rows
  accepted_end acc = accepted_at s bytes o acc (elements * (plan_in s).count)

  pub trimmed : is_accepted (plan_in s) ≡ true → Trimmed ours s (trimmed_file s)
  unfolding trimmed_file
  trimmed acc =
      record {
        selected = with_selected s bytes o (trimmed_rows s) (left s bytes o);
        readable = readable_t s bytes o;
        leaves = leaves s bytes o;
        then_left = then_left s bytes o;
        goes = λ i j a z u small f T. goes s bytes o i j a z u f T;
        stays = λ i j a z u small f T. stays s bytes o i j a z u f T;
        accepted = plan_accepts t (readable_t s bytes o) (ap is_accepted (left_plan s bytes o (trimmed_rows s) (left s bytes o)) ∙ accepted_end acc);
        one_less = λ i j a z.
            let b = bytes_t s bytes o in
            let p = opens_t s bytes o in
            let L = left_one t b p i j a z in
            let rows : List ℕ = without_arc (plan_in t).extra i j in
            let one = one_less t b p i j a z in
            (filtered (stays_by rows t) t, left_bytes t b p rows L, left_readable t b p rows L, one.0, one.1);
        least = λ u small f lacks i j gone. least s bytes o u f lacks i j gone small;
      }

-- ---- what is answered, and left

trimmed_short : (s : List ℕ) → Readable s → 24 * record_count (trimmed_file s) ≤ length s
unfolding trimmed_file
trimmed_short s e =
    let keep = stays_by (trimmed_rows s) s in
    omega (arith, filtered_count keep s e (stays_arcs s e (trimmed_rows s)), count_le (record_count s) keep)

trim_only : (s : List ℕ) (n : ℕ) → Only (opening ++ 9 ∷ 7 ∷ []) (trim_fault s n)
unfolding trim_fault over_cause
trim_only s n =
    let M : List ℕ = 9 ∷ 7 ∷ [] in
    let L : List ℕ = opening ++ M in
    only_cause L _ _ _ (only_cause L _ _ _ (only_more opening M (fault_of s) (fault_only s)) (one_after opening M 9 (inl refl))) (one_after opening M 7 (inr (inl refl)))

-- the trimmed file, trimmed again
trimmed_again : (s : List ℕ) → AreBytes s → Opens s → Accepts ours s → (more : List ℕ) → length (trimmed_file s) ≤ length more
    → (trim_answer (trimmed_file s) (length more) ≡ Ok (record_count (trimmed_file s))) × (trim_out (trimmed_file s) more ≡ trimmed_file s ++ drop (length (trimmed_file s)) more)
unfolding trim_out trimmed_file
trimmed_again s bytes o acc more h =
    let file : List ℕ = filtered (stays_by (trimmed_rows s) s) s in
    let same = again s bytes o in
    let w = accepts_opens file (trimmed s bytes o (accepts_plan s (opens_readable s o) acc)).accepted in
    let fine = fine_trim file (length more) w.0 h w.1 in (
      output_fine (trim_fault file (length more)) (record_count (trimmed_file file)) fine ∙ ap (λ (x : List ℕ). Ok (record_count x)) same,
      lent_fine (trim_fault file (length more)) (trimmed_file file) more fine ∙ ap (λ (x : List ℕ). x ++ drop (length x) more) same,
    )

trims : (s : List ℕ) → AreBytes s → Accepts ours s → (out : List ℕ) → length s ≤ length out → Trims ours our_trim s out
unfolding trim_out
trims s bytes acc out l =
    let w = accepts_opens s acc in
    let o = w.0 in
    let e = opens_readable s o in
    let file : List ℕ = trimmed_file s in
    let fine = fine_trim s (length out) o l w.1 in
    let T = trimmed s bytes o (accepts_plan s e acc) in
    let whole = T.selected.whole in
    let left_is : trim_out s out ≡ file ++ drop (length file) out = lent_fine (trim_fault s (length out)) file out fine in
    let few = trimmed_short s e in
    let front : take (24 * record_count file) (trim_out s out) ≡ file = ap (take (24 * record_count file)) left_is ∙ take_at file (drop (length file) out) (24 * record_count file) whole in
    record {
      count = record_count file;
      answers = output_fine (trim_fault s (length out)) (record_count file) fine;
      trimmed = subst (Trimmed ours s) (sym front) T;
      no_longer = few;
      rest = ap (drop (24 * record_count file)) left_is ∙ drop_at file (drop (length file) out) (24 * record_count file) whole ∙ ap (λ (n : ℕ). drop n out) whole;
      again = λ more h. subst (λ (x : List ℕ). length x ≤ length more → (trim_answer x (length more) ≡ Ok (record_count file)) × (trim_out x more ≡ x ++ drop (length x) more)) (sym front)
          (λ h. trimmed_again s bytes o acc more h) h;
      room = ap length left_is ∙ length-append file (drop (length file) out) ∙ omega (arith, length-drop (length file) out, whole, few, l);
    }

pub trim_keeps : TrimSentence ours our_trim
unfolding trim_out verdict_fault fault_of over_cause
trim_keeps =
    record {
      one = λ s n. output_by (opening ++ 9 ∷ 7 ∷ []) (trim_fault s n) (record_count (trimmed_file s)) (trim_only s n);
      kept = λ s out. kept (trim_fault s (length out)) (record_count (trimmed_file s)) (trimmed_file s) out;
      opens = λ s n c one.
          let other : (k : ℕ) → is_one opening k ≡ false → cause_number c ≢ k = λ k. one_not opening (cause_number c) k one in (
            (λ e. output_refused (trim_fault s n) c (record_count (trimmed_file s))
                (trim_before s n c
                (from_before (fault_of s) (is_overloaded (plan_in s)) (over_cause (plan_in s)) c (other 7 refl) (refused_fault (verdict_fault s) (plan_in s).count (plan_in s).kinds c e)))),
            (λ e. ap (λ (f : Fault). verdict_of f (plan_in s).count (plan_in s).kinds)
                (cause_before (fault_of s) (is_overloaded (plan_in s)) (over_cause (plan_in s)) c
                (trim_from s n c (other 7 refl) (other 9 refl) (output_is_refused (trim_fault s n) (record_count (trimmed_file s)) c e)))),
          );
      short = λ s e free n h. given (trim_fault s n) (record_count (trimmed_file s)) (Short (length s)) (trim_short s n ((opens_when s).1 (e, free)) h);
      overloaded = λ s e free n h c v.
          let o = (opens_when s).1 (e, free) in
          overloads s o n h c v;
      trims = trims;
    }
  where
    overloads : (s : List ℕ) → Opens s → (n : ℕ) → length s ≤ n → (c : Cause) → ours.verdict s ≡ Err c → our_trim.answer s n ≡ Err c
    overloads s o n h c v =
        let r = refused_fault (verdict_fault s) (plan_in s).count (plan_in s).kinds c v in
        ⊎_elim
        (λ e. output_refused (trim_fault s n) c (record_count (trimmed_file s)) (trim_before s n c e))
        (λ w. output_refused (trim_fault s n) c (record_count (trimmed_file s)) (trim_over s n o h w.1 ∙ ap Err w.2))
        (cause_from (fault_of s) (is_overloaded (plan_in s)) (over_cause (plan_in s)) c r)
