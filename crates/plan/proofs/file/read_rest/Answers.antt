-- `plan::file::read_rest` meets its contract: what follows each answer is what the definition has follow it.
use mathlib.Core.Path.{◌≡◌, refl, sym, ap, ◌∙◌, subst}
use mathlib.Core.List.{List, ◌∷◌}
use Prim.Native.Nat.{ℕ, ◌-◌, ◌*◌}
use native.Mathlib.Omega.{arith}
use borrow.Author.Rules.{rules}
use lib.ListN.{length, take, drop}
use Rattle.plan.specs.Records.{leading}
use Rattle.plan.specs.model.Lists.{RecordsOf}
use Rattle.plan.specs.model.Phases.{rest_of}
use Rattle.plan.proofs.RecordLists.{own_byte, eight_own, crew_own, first_record, next_records, front_records, later_records}
use Rattle.plan.proofs.ReaderLoops.{passed, refusal_passed, given_fine, given_on, given_refused}
use Rattle.plan.proofs.file.read_rest.Goals.{In-Some, After-split_at}
use Rattle.plan.proofs.file.read_rest.Goals as goal

-- the first record is there, of those that t begins with
module _ (c : In-Some) (t : List ℕ) (R : RecordsOf t c.args.rest.now) where
  abbrev crew : List ℕ
  crew = c.in-Some.crew.now

  abbrev arcs : List (List ℕ)
  arcs = c.in-Some.arcs.now

  whole : c.args.rest.now ≡ crew ∷ arcs
  whole = c.in-Some.ensures.cases.0

  counted : length c.args.rest.now ≡ length (crew ∷ arcs)
  counted = ap length whole

  first : crew ≡ take 24 t
  first = first_record t crew arcs (rw whole at R)

  next : RecordsOf (drop 24 t) arcs
  next = next_records t crew arcs (rw whole at R)

-- and the arcs after it are parted: jobs, and extra arcs
module _ (c : After-split_at) (t : List ℕ) (R : RecordsOf t c.args.rest.now) where
  abbrev all : List (List ℕ)
  all = c.in-Some.arcs.now

  abbrev u : List ℕ
  u = drop 24 t

  abbrev j : ℕ
  j = c.leading_records-j.result

  behind : RecordsOf u all
  behind = next_records t c.in-Some.crew.now all (rw c.in-Some.ensures.cases.0 at R)

  run : j ≡ leading 3 (length all) u
  run = c.leading_records-j.ensures.value u behind

  jobs : RecordsOf u c.split_at.result.0.now
  jobs = rw c.split_at.ensures.front
      (front_records u all behind j (omega (arith, c.leading_records-j.ensures.upper_bound)))

  extras : RecordsOf (drop (24 * j) u) c.split_at.result.1.now
  extras = subst (λ (x : List (List ℕ)). RecordsOf (drop (24 * j) u) x) (sym c.split_at.ensures.back)
      (later_records u all behind j)

  left : length c.split_at.result.1.now ≡ length all - j
  left = omega (arith, c.split_at.ensures.back_len)

pub returns-in_default : goal.returns-in_default
unfolding rest_of
returns-in_default c = λ t R. rw c.in_default.ensures.cases refl

pub returns-in_err-crew_cause : goal.returns-in_err-crew_cause
unfolding rest_of
returns-in_err-crew_cause c =
    λ t R.
    let b = (goal.at.returns-in_err-crew_cause c).In-Some in
    let a = c.args in
    rw (passed c.from_residual.ensures, counted b t R)
    (given_refused (c.crew_cause.ensures
    ∙ crew_own (crew b t R) t (first b t R) a.m a.plan.now.demand) _ c.in_err-crew_cause.was)

pub read_arcs-requires : goal.read_arcs-requires
read_arcs-requires c = (search rules, search rules, c.requires.2)

pub read_arcs-requires-2 : goal.read_arcs-requires-2
read_arcs-requires-2 c = (search rules, search rules, c.requires.3)

pub returns-in_err-read_arcs : goal.returns-in_err-read_arcs
unfolding rest_of
returns-in_err-read_arcs c =
    λ t R.
    let a = c.args in
    let b = (goal.at.returns-in_err-read_arcs c).In-Some in
    let d = (goal.at.returns-in_err-read_arcs c).After-split_at in
    let job = rw (c.split_at.ensures.front_len, run d t R) at (c.read_arcs.ensures.value (u d t R) (jobs d t R)) in
    rw (passed c.from_residual-in_err-read_arcs.ensures, counted b t R)
    (given_on (c.crew_cause.ensures
    ∙ crew_own (crew b t R) t (first b t R) a.m a.plan.now.demand) _ c.in_ok-crew_cause.was
    (given_refused job _ c.in_err-read_arcs.was))

pub returns-in_err-read_arcs-2 : goal.returns-in_err-read_arcs-2
unfolding rest_of
returns-in_err-read_arcs-2 c =
    λ t R.
    let a = c.args in
    let b = (goal.at.returns-in_err-read_arcs-2 c).In-Some in
    let d = (goal.at.returns-in_err-read_arcs-2 c).After-split_at in
    let job = rw (c.split_at.ensures.front_len, run d t R) at (c.read_arcs.ensures.value (u d t R) (jobs d t R)) in
    let extra = rw (left d t R, run d t R) at (c.read_arcs-2.ensures.value _ (extras d t R)) in
    rw (passed c.from_residual-in_err-read_arcs-2.ensures, counted b t R)
    (given_on (c.crew_cause.ensures
    ∙ crew_own (crew b t R) t (first b t R) a.m a.plan.now.demand) _ c.in_ok-crew_cause.was
    (given_on job _ c.in_ok-read_arcs.was
    (given_refused extra _ c.in_err-read_arcs-2.was)))

pub returns : goal.returns
unfolding rest_of
returns c =
    λ t R.
    let a = c.args in
    let b = (goal.at.returns c).In-Some in
    let d = (goal.at.returns c).After-split_at in
    let len = c.split_at.ensures.front_len in
    let job = c.read_arcs.ensures.value (u d t R) (jobs d t R) in
    let extra = c.read_arcs-2.ensures.value _ (extras d t R) in
    let no_job = refusal_passed _ _ (given_fine job c.in_ok-read_arcs.was) in
    let no_extra = refusal_passed _ _ (given_fine extra c.in_ok-read_arcs-2.was) in
    let job_rows = rw (no_job, c.requires.2, len, run d t R) at
    (c.read_arcs.ensures.rows_after (u d t R) (jobs d t R)) in
    let extra_rows = rw (no_extra, c.requires.3, left d t R, run d t R) at
    (c.read_arcs-2.ensures.rows_after _ (extras d t R)) in
    let kinds = c.from-plan.ensures ∙ own_byte (crew b t R) t (first b t R) 1 (omega arith) in
    let available = c.eight-available.ensures ∙ eight_own (crew b t R) t (first b t R) in
    rw (counted b t R)
    (given_on (c.crew_cause.ensures
    ∙ crew_own (crew b t R) t (first b t R) a.m a.plan.now.demand) _ c.in_ok-crew_cause.was
    (given_on (rw (len, run d t R) at job) _ c.in_ok-read_arcs.was
    (given_on (rw (left d t R, run d t R) at extra) _ c.in_ok-read_arcs-2.was
    (simp (kinds, available, job_rows, extra_rows)))))
