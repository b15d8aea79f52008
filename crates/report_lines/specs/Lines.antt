-- The lines of the report (document 01, "Plans A to F"): "Fields: m, K; kind, need, availability; activity,
-- start; end's start; kind, from, to, units, added mark. Kinds ascend." Every line ends in a newline.
use Rattle.std.specs.Prelude.{List, [], ◌∷◌, ◌++◌, map, ℕ, suc, ◌+◌, ◌*◌, get_or, drop}
use Rattle.words.specs.Listing.{members}
use Rattle.order.specs.Stored.{elements, number_of}
use Rattle.records.specs.Bytes.{byte, field}
use Rattle.records.specs.Records.{joined}
use Rattle.lines.specs.Text.{line_of}
use Rattle.plan.specs.Records.{activities}
use Rattle.planner.specs.Numbers.{refusal_of}
use Rattle.planner.specs.declared.Cause.{Cause}
use Rattle.planner.specs.declared.Refusal.{Refusal}
use Rattle.planner.specs.declared.Values.{Values}
use Rattle.planner.specs.declared.Values.TheVariants.{Nothing, One, Need}

-- plan, need, start, end, flow, refused
abbrev pub plan_word : List ℕ
plan_word = 112 ∷ 108 ∷ 97 ∷ 110 ∷ []

abbrev pub need_word : List ℕ
need_word = 110 ∷ 101 ∷ 101 ∷ 100 ∷ []

abbrev pub start_word : List ℕ
start_word = 115 ∷ 116 ∷ 97 ∷ 114 ∷ 116 ∷ []

abbrev pub end_word : List ℕ
end_word = 101 ∷ 110 ∷ 100 ∷ []

abbrev pub flow_word : List ℕ
flow_word = 102 ∷ 108 ∷ 111 ∷ 119 ∷ []

abbrev pub refused_word : List ℕ
refused_word = 114 ∷ 101 ∷ 102 ∷ 117 ∷ 115 ∷ 101 ∷ 100 ∷ []

-- ---- an accepted plan of m activities and n kinds, with its needs, availabilities and starts

unfoldable pub need_lines : ℕ → List ℕ → List ℕ → List ℕ
need_lines n needs available =
    joined (λ k. line_of need_word ((k + 1) ∷ get_or needs k 0 ∷ get_or available k 0 ∷ [])) n

unfoldable pub start_lines : ℕ → List ℕ → List ℕ
start_lines m starts = joined (λ i. line_of start_word ((i + 1) ∷ get_or starts i 0 ∷ [])) m

unfoldable pub head_lines : ℕ → ℕ → List ℕ → List ℕ → List ℕ → List ℕ
head_lines m n needs available starts =
    line_of plan_word (m ∷ n ∷ [])
    ++ need_lines n needs available
    ++ start_lines m starts
    ++ line_of end_word (get_or starts m 0 ∷ [])

-- so many bytes have room for these lines
abbrev pub head_room : ℕ
head_room = 1024 + 48 * activities

-- then, for each kind, the n records of its flow
abbrev pub flow_numbers : List ℕ → List ℕ
flow_numbers r = byte r 1 ∷ byte r 2 ∷ byte r 3 ∷ field r 4 4 ∷ byte r 8 ∷ []

unfoldable pub flow_lines : ℕ → List ℕ → List ℕ
flow_lines n records = joined (λ i. line_of flow_word (flow_numbers (drop (24 * i) records))) n

-- ---- "A refused plan prints one line: `refused`, the number, then nothing (1), place (2–4),
-- activity (5, 6), or kind, need and members ascending (7).
-- A number added later is followed by what it returns."

-- of a set its members, as activities
abbrev pub values_shown : Values → List ℕ
values_shown Nothing = []
values_shown (One n) = n ∷ []
values_shown (Need k need set) = k ∷ need ∷ map suc (members elements (number_of set))

abbrev pub refusal_numbers : Refusal → List ℕ
refusal_numbers r = r.number ∷ values_shown r.values

abbrev pub refused_numbers : Cause → List ℕ
refused_numbers c = refusal_numbers (refusal_of c)

-- no cause has more numbers, and so many bytes have room for its line
abbrev pub slots : ℕ
slots = 3 + elements

abbrev pub refused_room : ℕ
refused_room = 32 * elements

unfoldable pub refused_line : Cause → List ℕ
refused_line c = line_of refused_word (refused_numbers c)
