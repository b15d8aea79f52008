-- THE STARRED CASES of document 01, "Plans A to F", and cases of document 02, on the files' bytes, as one
-- table about a planner P: each line is one case and what P says of it, by the numbers of the answers
-- (planner's Answers): "6, activity 1" is the list of 6 and 1; 0 is a result, 254 a broken arc, 255 an
-- overload with period and kind. Every line holds of ours: `cases` of proofs/CasesHold.antt, by computation
-- of the definitions alone; and some plans trimmed (`TrimCases`).
use Rattle.std.specs.Prelude.{◌≡◌, List, [], ◌∷◌, ◌++◌, ℕ, replicate}
use Rattle.planner.specs.Answers.{verdict_numbers, output_numbers, crew_check_numbers}
use Rattle.promises.specs.Planner.{Writing, Planner}

-- an activity with a demand of kind 1, a crew of one kind, and an arc
abbrev pub activity_bytes : ℕ → ℕ → ℕ → List ℕ
activity_bytes i duration demand = 1 ∷ i ∷ duration ∷ 0 ∷ demand ∷ replicate 19 0

abbrev pub crew_bytes : ℕ → List ℕ
crew_bytes available = 2 ∷ 1 ∷ 0 ∷ 0 ∷ available ∷ replicate 19 0

abbrev pub arc_bytes : ℕ → ℕ → ℕ → List ℕ
arc_bytes type i j = type ∷ i ∷ j ∷ replicate 21 0

-- an arc with a wait, as bytes 4 and 5
abbrev pub wait_bytes : ℕ → ℕ → ℕ → ℕ → ℕ → List ℕ
wait_bytes type i j low high = type ∷ i ∷ j ∷ 0 ∷ low ∷ high ∷ replicate 18 0

-- the activities and the crew of the plans A to E; plan C has no arcs
abbrev pub plan_c : List ℕ
plan_c =
    activity_bytes 1 1 2
    ++ (activity_bytes 2 2 2 ++ (activity_bytes 3 3 2 ++ (activity_bytes 4 1 2 ++ crew_bytes 4)))

-- extra arcs: plan A has 1 to 2 and 2 to 4, plan B 1 to 2, 1 to 3 and 1 to 4, plan D 1 to 3, 1 to 4, 2 to 3
-- and 2 to 4, plan E 1 to 2 and 2 to 1
abbrev pub plan_a : List ℕ
plan_a = plan_c ++ (arc_bytes 4 1 2 ++ arc_bytes 4 2 4)

abbrev pub plan_b : List ℕ
plan_b = plan_c ++ (arc_bytes 4 1 2 ++ (arc_bytes 4 1 3 ++ arc_bytes 4 1 4))

abbrev pub plan_d : List ℕ
plan_d = plan_c ++ (arc_bytes 4 1 3 ++ (arc_bytes 4 1 4 ++ (arc_bytes 4 2 3 ++ arc_bytes 4 2 4)))

abbrev pub plan_e : List ℕ
plan_e = plan_c ++ (arc_bytes 4 1 2 ++ arc_bytes 4 2 1)

-- plan E with both as job arcs
abbrev pub plan_e_job : List ℕ
plan_e_job = plan_c ++ (arc_bytes 3 1 2 ++ arc_bytes 3 2 1)

-- plan F: one activity, with this demand of the 4 available
abbrev pub plan_f : ℕ → List ℕ
plan_f demand = activity_bytes 1 1 demand ++ crew_bytes 4

-- one activity of duration 0, with this demand of the 4 available
abbrev pub plan_g : ℕ → List ℕ
plan_g demand = activity_bytes 1 0 demand ++ crew_bytes 4

-- plan D by a milestone, its activity 3: extra arcs 1 to 3 and 2 to 3, 3 to 4 and 3 to 5
abbrev pub plan_h : List ℕ
plan_h =
    activity_bytes 1 1 2 ++ (activity_bytes 2 2 2 ++ (activity_bytes 3 0 0
    ++ (activity_bytes 4 3 2 ++ (activity_bytes 5 1 2 ++ (crew_bytes 4
    ++ (arc_bytes 4 1 3 ++ (arc_bytes 4 2 3 ++ (arc_bytes 4 3 4 ++ arc_bytes 4 3 5))))))))

-- plan A with its first arc as a job arc too
abbrev pub plan_a_both : List ℕ
plan_a_both = plan_c ++ (arc_bytes 3 1 2 ++ (arc_bytes 4 1 2 ++ arc_bytes 4 2 4))

-- plan A with both arcs pasted twice, plan E with its first arc pasted twice, plan C with one arc three
-- times, and plan A with a copy of its first arc that has a spare byte
abbrev pub plan_a_pasted : List ℕ
plan_a_pasted = plan_a ++ (arc_bytes 4 1 2 ++ arc_bytes 4 2 4)

abbrev pub plan_e_pasted : List ℕ
plan_e_pasted = plan_e ++ arc_bytes 4 1 2

abbrev pub plan_c_thrice : List ℕ
plan_c_thrice = plan_c ++ (arc_bytes 3 1 2 ++ (arc_bytes 3 1 2 ++ arc_bytes 3 1 2))

abbrev pub plan_a_spare : List ℕ
plan_a_spare = plan_a ++ (4 ∷ 1 ∷ 2 ∷ 1 ∷ replicate 20 0)

-- plan A with a wait of 3 on its arc 1 to 2; and with a job arc 1 to 2 of wait 256 beside an extra arc of
-- wait 3, or the other way round
abbrev pub plan_a_wait : List ℕ
plan_a_wait = plan_c ++ (wait_bytes 4 1 2 3 0 ++ arc_bytes 4 2 4)

abbrev pub plan_a_job_waits : List ℕ
plan_a_job_waits = plan_c ++ (wait_bytes 3 1 2 0 1 ++ (wait_bytes 4 1 2 3 0 ++ arc_bytes 4 2 4))

abbrev pub plan_a_extra_waits : List ℕ
plan_a_extra_waits = plan_c ++ (wait_bytes 3 1 2 3 0 ++ (wait_bytes 4 1 2 0 1 ++ arc_bytes 4 2 4))

-- with a copy of its first arc that has another wait, and with an arc whose byte 6 is not zero
abbrev pub plan_a_wait_pasted : List ℕ
plan_a_wait_pasted = plan_a_wait ++ wait_bytes 4 1 2 5 0

abbrev pub plan_a_wait_spare : List ℕ
plan_a_wait_spare = plan_a_wait ++ (4 ∷ 1 ∷ 3 ∷ 0 ∷ 5 ∷ 0 ∷ 1 ∷ replicate 17 0)

-- three activities in a row, of which the second demands nobody, with 2 available; both arcs as job arcs, the
-- second as an extra arc, and both with an extra arc from 1 to 3
abbrev pub plan_i : List ℕ
plan_i = activity_bytes 1 1 2 ++ (activity_bytes 2 1 0 ++ (activity_bytes 3 1 2 ++ crew_bytes 2))

abbrev pub plan_i_job : List ℕ
plan_i_job = plan_i ++ (arc_bytes 3 1 2 ++ arc_bytes 3 2 3)

abbrev pub plan_i_extra : List ℕ
plan_i_extra = plan_i ++ (arc_bytes 3 1 2 ++ arc_bytes 4 2 3)

abbrev pub plan_i_both : List ℕ
plan_i_both = plan_i_job ++ arc_bytes 4 1 3

-- a flow record of kind 1, as the report prints it: from, to, units, added mark
abbrev pub handover_bytes : ℕ → ℕ → ℕ → ℕ → List ℕ
handover_bytes from to units mark = 33 ∷ 1 ∷ from ∷ to ∷ units ∷ 0 ∷ 0 ∷ 0 ∷ mark ∷ replicate 15 0

-- the flow of plan A, at the front of the 360 bytes that it needs; and that of the plans I, where the
-- handover from 1 to 3 has this mark, at the front of 240
abbrev pub flow_a : List ℕ
flow_a =
    handover_bytes 0 1 2 0
    ++ (handover_bytes 0 3 2 0
    ++ (handover_bytes 1 2 2 1
    ++ (handover_bytes 2 4 2 1
    ++ (handover_bytes 3 5 2 0
    ++ (handover_bytes 4 5 2 0 ++ replicate 216 9)))))

abbrev pub flow_i : ℕ → List ℕ
flow_i mark = handover_bytes 0 1 2 0 ++ (handover_bytes 1 3 2 mark ++ (handover_bytes 3 4 2 0 ++ replicate 168 9))

pub record Cases (P : Planner) : Type 0 where
  -- "*A accepted, need 4."
  pub a_accepted : verdict_numbers (P.verdict plan_a) ≡ 0 ∷ 4 ∷ 1 ∷ []
  pub a_need : P.needs.left plan_a (9 ∷ 9 ∷ []) ≡ 4 ∷ 9 ∷ []
  -- "*B, A with extra arcs 1→2, 1→3, 1→4: `refused 7 1 6 2 3 4`":
  -- the set of the activities 2, 3 and 4 is the number 14
  pub b_overloaded : verdict_numbers (P.verdict plan_b) ≡ 7 ∷ 1 ∷ 6 ∷ 14 ∷ 3 ∷ []
  pub b_need : P.needs.left plan_b (9 ∷ []) ≡ 6 ∷ []
  -- "*C, A with none: need 8, set all four."
  pub c_overloaded : verdict_numbers (P.verdict plan_c) ≡ 7 ∷ 1 ∷ 8 ∷ 15 ∷ 4 ∷ []
  pub c_need : P.needs.left plan_c (9 ∷ []) ≡ 8 ∷ []
  pub c_record : P.overload.left plan_c (replicate 25 9)
      ≡ 32 ∷ 1 ∷ 4 ∷ 0 ∷ 8 ∷ 0 ∷ 0 ∷ 0 ∷ 15 ∷ replicate 15 0 ++ 9 ∷ []
  -- "*D, A with 1→3, 1→4, 2→3, 2→4: need 4."
  pub d_accepted : verdict_numbers (P.verdict plan_d) ≡ 0 ∷ 4 ∷ 1 ∷ []
  pub d_need : P.needs.left plan_d (9 ∷ []) ≡ 4 ∷ []
  pub d_none : output_numbers (P.overload.answer plan_d 24) ≡ 0 ∷ 0 ∷ []
  -- "*E, A with only extra arcs 1→2, 2→1: 6, activity 1; *both as job arcs: 5."
  pub e_extra : verdict_numbers (P.verdict plan_e) ≡ 6 ∷ 1 ∷ []
  pub e_job : verdict_numbers (P.verdict plan_e_job) ≡ 5 ∷ 1 ∷ []
  pub e_starts : output_numbers (P.starts.answer plan_e 5) ≡ 6 ∷ 1 ∷ []
  pub e_needs : output_numbers (P.needs.answer plan_e_job 0) ≡ 5 ∷ 1 ∷ []
  -- "*F, one activity, demand 4 of 4: accepted; *demand 5: 7, need 5."
  pub f_accepted : verdict_numbers (P.verdict (plan_f 4)) ≡ 0 ∷ 1 ∷ 1 ∷ []
  pub f_overloaded : verdict_numbers (P.verdict (plan_f 5)) ≡ 7 ∷ 1 ∷ 5 ∷ 1 ∷ 1 ∷ []
  -- Starts of A, as the report prints them, and cause 9
  pub a_starts : P.starts.left plan_a (9 ∷ 9 ∷ 9 ∷ 9 ∷ 9 ∷ 9 ∷ []) ≡ 0 ∷ 1 ∷ 0 ∷ 3 ∷ 4 ∷ 9 ∷ []
  pub a_short : output_numbers (P.starts.answer plan_a 4) ≡ 9 ∷ 5 ∷ []
  -- "Crew check: *A with its durations, starts 0, 1, 0, 3 fits; *starts 0, 1, 0, 2 breaks 2→4."; and cause 10
  pub a_fits : crew_check_numbers (P.crew_check plan_a (0 ∷ 1 ∷ 0 ∷ 3 ∷ []) (1 ∷ 2 ∷ 3 ∷ 1 ∷ [])) ≡ 0 ∷ []
  pub a_breaks :
      crew_check_numbers (P.crew_check plan_a (0 ∷ 1 ∷ 0 ∷ 2 ∷ []) (1 ∷ 2 ∷ 3 ∷ 1 ∷ [])) ≡ 254 ∷ 2 ∷ 4 ∷ []
  pub a_idle : crew_check_numbers (P.crew_check plan_a (0 ∷ 1 ∷ 0 ∷ 2 ∷ []) (1 ∷ 2 ∷ 0 ∷ 1 ∷ [])) ≡ 10 ∷ 4 ∷ []
  -- "*C, all starts 0, durations 1: period 1, kind 1.
  -- *C, starts 0, 0, 1, 1: durations 1 fit; *durations 2, 2, 1, 1: period 2."
  pub c_at_once :
      crew_check_numbers (P.crew_check plan_c (0 ∷ 0 ∷ 0 ∷ 0 ∷ []) (1 ∷ 1 ∷ 1 ∷ 1 ∷ [])) ≡ 255 ∷ 1 ∷ 1 ∷ []
  pub c_two_by_two : crew_check_numbers (P.crew_check plan_c (0 ∷ 0 ∷ 1 ∷ 1 ∷ []) (1 ∷ 1 ∷ 1 ∷ 1 ∷ [])) ≡ 0 ∷ []
  pub c_longer :
      crew_check_numbers (P.crew_check plan_c (0 ∷ 0 ∷ 1 ∷ 1 ∷ []) (2 ∷ 2 ∷ 1 ∷ 1 ∷ [])) ≡ 255 ∷ 2 ∷ 1 ∷ []
  -- "one timetable by list durations: C passes .. with starts 0, 0, 2, 1" (01, False turns),
  -- and its need is 8, as above
  pub c_false_turn : crew_check_numbers (P.crew_check plan_c (0 ∷ 0 ∷ 2 ∷ 1 ∷ []) (1 ∷ 2 ∷ 3 ∷ 1 ∷ [])) ≡ 0 ∷ []
  -- "Document 01's case of a duration 0 is now read without demands
  -- and refused as 12 with one." (02, change 2)
  pub g_read : verdict_numbers (P.verdict (plan_g 0)) ≡ 0 ∷ 1 ∷ 1 ∷ []
  pub g_refused : verdict_numbers (P.verdict (plan_g 1)) ≡ 12 ∷ 0 ∷ []
  -- a milestone "is never at work and still passes order on": H is accepted as D is,
  -- and 4 and 5 start when 2 is done
  pub h_accepted : verdict_numbers (P.verdict plan_h) ≡ 0 ∷ 5 ∷ 1 ∷ []
  pub h_need : P.needs.left plan_h (9 ∷ []) ≡ 4 ∷ []
  pub h_starts : P.starts.left plan_h (9 ∷ 9 ∷ 9 ∷ 9 ∷ 9 ∷ 9 ∷ 9 ∷ []) ≡ 0 ∷ 0 ∷ 2 ∷ 2 ∷ 2 ∷ 5 ∷ 9 ∷ []
  -- "its worked duration is 0 too": worked 0 it fits, and worked 1 gives 10,
  -- as does a worked 0 on another activity
  pub h_fits :
      crew_check_numbers (P.crew_check plan_h (0 ∷ 0 ∷ 2 ∷ 2 ∷ 2 ∷ []) (1 ∷ 2 ∷ 0 ∷ 3 ∷ 1 ∷ [])) ≡ 0 ∷ []
  pub h_worked :
      crew_check_numbers (P.crew_check plan_h (0 ∷ 0 ∷ 2 ∷ 3 ∷ 3 ∷ []) (1 ∷ 2 ∷ 1 ∷ 3 ∷ 1 ∷ [])) ≡ 10 ∷ 5 ∷ []
  pub h_idle :
      crew_check_numbers (P.crew_check plan_h (0 ∷ 0 ∷ 2 ∷ 2 ∷ 2 ∷ []) (1 ∷ 0 ∷ 0 ∷ 3 ∷ 1 ∷ [])) ≡ 10 ∷ 5 ∷ []
  -- "A pair repeated within the same type is now refused. The same pair as a job arc and an extra arc is
  -- still fine." (02, change 3)
  pub a_both : verdict_numbers (P.verdict plan_a_both) ≡ 0 ∷ 4 ∷ 1 ∷ []
  pub a_pasted : verdict_numbers (P.verdict plan_a_pasted) ≡ 13 ∷ 7 ∷ []
  -- "with the place of the later record, in each record after 4, hence before any circle"; of three copies
  -- the second is the first that repeats
  pub a_spare : verdict_numbers (P.verdict plan_a_spare) ≡ 4 ∷ 7 ∷ []
  pub e_pasted : verdict_numbers (P.verdict plan_e_pasted) ≡ 13 ∷ 7 ∷ []
  pub c_thrice : verdict_numbers (P.verdict plan_c_thrice) ≡ 13 ∷ 6 ∷ []
  -- "An arc is kept when start plus duration plus wait is at most the next start. .. the end still follows
  -- the last finish. .. Need and flow do not read waits." (02, change 5): 2 starts 3 periods after 1 is done,
  -- 4 follows it, and the need is that of A
  pub w_accepted : verdict_numbers (P.verdict plan_a_wait) ≡ 0 ∷ 4 ∷ 1 ∷ []
  pub w_need : P.needs.left plan_a_wait (9 ∷ []) ≡ 4 ∷ []
  pub w_starts : P.starts.left plan_a_wait (9 ∷ 9 ∷ 9 ∷ 9 ∷ 9 ∷ 9 ∷ []) ≡ 0 ∷ 4 ∷ 0 ∷ 6 ∷ 7 ∷ 9 ∷ []
  pub w_fits : crew_check_numbers (P.crew_check plan_a_wait (0 ∷ 4 ∷ 0 ∷ 6 ∷ []) (1 ∷ 2 ∷ 3 ∷ 1 ∷ [])) ≡ 0 ∷ []
  pub w_breaks :
      crew_check_numbers (P.crew_check plan_a_wait (0 ∷ 3 ∷ 0 ∷ 6 ∷ []) (1 ∷ 2 ∷ 3 ∷ 1 ∷ [])) ≡ 254 ∷ 1 ∷ 2 ∷ []
  -- "Where a job arc and an extra arc share a pair, both waits bind."
  pub w_job_starts : P.starts.left plan_a_job_waits (9 ∷ 9 ∷ 9 ∷ 9 ∷ 9 ∷ []) ≡ 0 ∷ 257 ∷ 0 ∷ 259 ∷ 260 ∷ []
  pub w_extra_starts : P.starts.left plan_a_extra_waits (9 ∷ 9 ∷ 9 ∷ 9 ∷ 9 ∷ []) ≡ 0 ∷ 257 ∷ 0 ∷ 259 ∷ 260 ∷ []
  pub w_extra_breaks :
      crew_check_numbers (P.crew_check plan_a_extra_waits (0 ∷ 256 ∷ 0 ∷ 259 ∷ []) (1 ∷ 2 ∷ 3 ∷ 1 ∷ []))
      ≡ 254 ∷ 1 ∷ 2 ∷ []
  -- "so 4 covers the other spare bytes only"; and another wait makes no other pair, so that 13 is given
  pub w_spare : verdict_numbers (P.verdict plan_a_wait_spare) ≡ 4 ∷ 7 ∷ []
  pub w_pasted : verdict_numbers (P.verdict plan_a_wait_pasted) ≡ 13 ∷ 7 ∷ []
  -- "and plan A's listing keeps its marks" (02, change 6): its six flow lines, as document 01 has them
  pub a_flow : (P.flow 1).left plan_a (replicate 360 9) ≡ flow_a
  -- "a handover .. that the job order forces through a third job" is not added; one on a way that uses an
  -- extra arc is; and one that has both ways is not
  pub i_job : (P.flow 1).left plan_i_job (replicate 240 9) ≡ flow_i 0
  pub i_extra : (P.flow 1).left plan_i_extra (replicate 240 9) ≡ flow_i 1
  pub i_both : (P.flow 1).left plan_i_both (replicate 240 9) ≡ flow_i 0

-- "Trim the extra arcs" (02, change 7), about an operation T. Every line holds of ours:
-- `trim_cases` of proofs/CaseTrims.antt
pub record TrimCases (T : Writing) : Type 0 where
  -- of D 1 to 3 goes, being the first; then 1 to 4 and 2 to 3 have to stay, and 2 to 4 goes too: 7 records
  -- are left, and the 48 bytes behind them are as they were
  pub d_count : output_numbers (T.answer plan_d 216) ≡ 0 ∷ 7 ∷ []
  pub d_left :
      T.left plan_d (replicate 216 9) ≡ plan_c ++ (arc_bytes 4 1 4 ++ (arc_bytes 4 2 3 ++ replicate 48 9))
  -- A with its first arc as a job arc too: the extra arc goes
  pub both_left :
      T.left plan_a_both (replicate 192 9) ≡ plan_c ++ (arc_bytes 3 1 2 ++ (arc_bytes 4 2 4 ++ replicate 24 9))
  -- "an arc with a longer wait always remains": the same, with a wait on the extra arc
  pub wait_left : T.left plan_a_job_waits (replicate 192 9) ≡ plan_a_job_waits
  -- "9 comes after the circles and needs the given file's length; 7 comes last.": B is overloaded, and its 7
  -- is Verdict's (`overloaded` of Trim)
  pub d_short : output_numbers (T.answer plan_d 215) ≡ 9 ∷ 216 ∷ []
  pub e_circle : output_numbers (T.answer plan_e 0) ≡ 6 ∷ 1 ∷ []
  pub b_short : output_numbers (T.answer plan_b 191) ≡ 9 ∷ 192 ∷ []
