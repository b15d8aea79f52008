-- The whole text: the first lines of an accepted plan and those of its flows behind them, or a refused plan's line.
use mathlib.Core.Path.{◌≡◌, sym, ap, ap₂, ◌∙◌}
use mathlib.Core.List.{List, ◌++◌}
use Prim.Native.Nat.{ℕ, ◌+◌, ◌*◌, ◌≤◌}
use native.Mathlib.Omega.{arith}
use lib.ListN.{length}
use lib.Seq.{length-take-le}
use Rattle.records.specs.Records.{joined}
use Rattle.lines.specs.Text.{Text, more}
use Rattle.lines.proofs.Putting.{Short, short_room, short_more}
use Rattle.plan.specs.Records.{activities as most}
use Rattle.planner.specs.Results.{Decision}
use Rattle.planner.specs.Open.{plan_in}
use Rattle.planner.specs.Verdict.{verdict_answer}
use Rattle.planner.specs.Needs.{need_numbers, needs_out}
use Rattle.planner.specs.Starts.{start_numbers, starts_out}
use Rattle.planner.proofs.OpenLaws.{count_within}
use Rattle.planner.proofs.QuotedNeeds.{kinds_few}
use Rattle.report_lines.specs.Lines.{head_room, head_lines}
use Rattle.report_lines.proofs.HeadLines.{head_short, head_same}
use Rattle.report_lines.specs.Report.{flow_room, text_room, Accepts, kind_lines, plan_lines, report_by, report_of, Counts}
use Rattle.report_lines.proofs.Accepted.{need_front, start_front}

-- so many bytes at the front of a list that has them
pub counts_within : (r : ℕ) (out : List ℕ) → r ≤ length out → Counts r out
counts_within r out h = (h, sym (length-take-le r out h))

-- the first lines of a file's plan of m activities and n kinds
abbrev pub head_of : List ℕ → ℕ → ℕ → List ℕ
head_of s m n = head_lines m n (need_numbers s) (plan_in s).available (start_numbers s)

module _ (s : List ℕ) {m n : ℕ} (activities : m ≡ (plan_in s).count) (kinds : n ≡ (plan_in s).kinds) where
  pub sizes_few : (m ≤ most) × (n ≤ 8)
  sizes_few = (omega (arith, count_within s), omega (arith, kinds_few s))

  -- what the code holds: `needs` and `starts` are what it lent, `available` is what it was told
  pub head_read : Accepts s → (needs starts : List ℕ) {needs' starts' available : List ℕ} → 8 ≤ length needs → most + 1 ≤ length starts
      → needs' ≡ needs_out s needs → starts' ≡ starts_out s starts → available ≡ (plan_in s).available
      → (t : Text) {u : Text} → u ≡ more t (head_lines m n needs' available starts') → u ≡ more t (head_of s m n)
  head_read fine needs starts {needs'} {starts'} many long a b e t w =
      w
      ∙ ap (λ (x : List ℕ). more t (head_lines m n needs' x starts')) e
      ∙ ap (more t)
      (head_same m n needs' (need_numbers s) (plan_in s).available starts' (start_numbers s)
      (λ k h. rw a (need_front s fine needs (omega (arith, sizes_few)) k (omega arith)))
      (λ i h. rw b (start_front s fine starts (omega (arith, sizes_few)) i (omega arith))))

  -- and of the text: the head is written, then the flows behind it
  module _ (t : Text) {one : Text} (fits : t.at + text_room ≤ length t.out) (first : one ≡ more t (head_of s m n)) where
    headed : Short t head_room (head_of s m n) one
    headed =
        let few = head_short m n (need_numbers s) (plan_in s).available (start_numbers s) sizes_few.0 sizes_few.1 in
        record { done = first; few = few }

    pub flows_room : one.at + flow_room * n + 78 ≤ length one.out
    flows_room = omega (arith, short_room headed (flow_room * n + 78) (omega (arith, sizes_few)))

    pub plan_end : {two : Text} → two ≡ more one (joined (kind_lines (plan_in s)) n) → two.at ≤ one.at + flow_room * n
        → (two ≡ more t (plan_lines s)) × (two.at ≤ length two.out)
    unfolding plan_lines
    plan_end {two} second short =
        let flows : List ℕ = joined (kind_lines (plan_in s)) n in
        let long : two.at ≡ one.at + length flows = ap (λ (x : Text). x.at) second in
        let whole = short_more headed (flow_room * n) flows second (omega arith) (omega (arith, sizes_few)) in (
          whole.done ∙ ap₂ (λ (x y : ℕ). more t (head_of s x y ++ joined (kind_lines (plan_in s)) y)) activities kinds,
          omega (arith, short_room whole 0 (omega (arith, sizes_few))),
        )

-- ---- the report is the one of the answer that the code holds

pub report_is : (s : List ℕ) {r d : Decision} → r ≡ verdict_answer s → r ≡ d → report_by d s ≡ report_of s
unfolding report_of
report_is s q e = ap (λ (x : Decision). report_by x s) (sym e ∙ q)
