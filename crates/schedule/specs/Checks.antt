-- The crew check: the first arc that a schedule breaks, and the first period in which more of a
-- kind is occupied than there is.
use Rattle.std.specs.Prelude.{Bool, cond, ◌&&◌, ℕ, suc, ◌+◌, ◌≤◌, ◌<◌, ltb}
use Rattle.words.specs.Members.{first}
use Rattle.flow_math.specs.Breaks.{is_broken}
use Rattle.flow_math.specs.Crew.{active}
use Rattle.flow_math.specs.Crew as crew
use Rattle.schedule.specs.Network.{Network, Schedule}
use Rattle.schedule.specs.Starts.{end_of}
use Rattle.schedule.specs.declared.Checked.{Checked}
use Rattle.schedule.specs.declared.Checked.TheVariants.{Fits, Broken, Overload}

-- ---- "find the first arc i to j, by from and then to, with start of i plus its duration greater than
-- the start of j", where "start plus duration plus wait" counts (02, change 5)

-- the arc from i to j is there, and is broken
abbrev pub breaks : Network → Schedule → ℕ → ℕ → Bool
breaks g s i j = g.arc i j && is_broken s g.weight i j

-- the first element to which an arc from i is broken; the number of elements where none is
unfoldable pub broken_to : Network → Schedule → ℕ → ℕ
broken_to g s i = first g.elements (breaks g s i)

-- the first element from which an arc is broken; the number of elements where none is
unfoldable pub broken_from : Network → Schedule → ℕ
broken_from g s = first g.elements (λ i. ltb (broken_to g s i) g.elements)

-- ---- "If none, find the first period, then lowest kind, whose occupied sum exceeds the availability."

-- the work of a crew: "one start and one duration" for each of `count` activities, what each demands of each
-- of `kinds` kinds, and how much of each kind is available
pub record Work : Type 0 where
  pub count : ℕ
  pub start : Schedule
  pub worked : ℕ → ℕ
  pub kinds : ℕ
  pub demand : ℕ → ℕ → ℕ
  pub available : ℕ → ℕ

-- WHO IS AT WORK AND WHAT IS OCCUPIED, of the work c in period t: what flow_math's Crew says of any crew.
abbrev pub at_work : Work → ℕ → ℕ → Bool
at_work c t i = active c.start c.worked t i

-- of kind k. "Sums never wrap": it is a sum of whole numbers.
abbrev pub occupied : Work → ℕ → ℕ → ℕ
occupied c t k = crew.occupied c.count (c.demand k) c.start c.worked t

-- in period t more of kind k is occupied than there is
abbrev pub exceeds : Work → ℕ → ℕ → Bool
exceeds c t k = ltb (c.available k) (occupied c t k)

-- the lowest kind that is exceeded in period t; the number of kinds where none is
unfoldable pub lowest_kind : Work → ℕ → ℕ
lowest_kind c t = first c.kinds (exceeds c t)

-- some kind is exceeded in period t
abbrev pub overloaded : Work → ℕ → Bool
overloaded c t = ltb (lowest_kind c t) c.kinds

-- the last finish of all, after which nobody is at work
unfoldable pub last_finish : Work → ℕ
last_finish c = end_of c.count c.start c.worked

-- how many periods, from period 1 on, are not overloaded before the first that is; `last_finish` where none is
unfoldable pub quiet : Work → ℕ
quiet c = first (last_finish c) (λ u. overloaded c (suc u))

-- the first overloaded period, or 0 where there is none
unfoldable pub first_period : Work → ℕ
first_period c = cond (ltb (quiet c) (last_finish c)) (suc (quiet c)) 0

-- ---- the answer, with activities and kinds numbered from 1

-- "fits, broken arc, or overload with period .. and kind" (01, Operations and causes)
unfoldable pub check_of : Network → Work → Checked
check_of g c =
    cond (ltb (broken_from g c.start) g.elements)
    (Broken (broken_from g c.start + 1) (broken_to g c.start (broken_from g c.start) + 1))
    (cond (ltb 0 (first_period c)) (Overload (first_period c) (lowest_kind c (first_period c) + 1)) Fits)

-- ---- what the answers mean, without any search (proofs/Answers.antt shows it);
-- the first broken arc is flow_math's FirstBroken

-- in no period at all is more of a kind occupied than there is
abbrev pub Enough : Work → Type 0
Enough c = (t k : ℕ) → k < c.kinds → occupied c t k ≤ c.available k

-- kind k is exceeded in period t, no kind is in an earlier period, and no lower kind is in t
pub record FirstOver (c : Work) (t k : ℕ) : Type 0 where
  pub kind : k < c.kinds
  pub over : c.available k < occupied c t k
  pub quiet : (u : ℕ) → u < t → (x : ℕ) → x < c.kinds → occupied c u x ≤ c.available x
  pub lowest : (x : ℕ) → x < k → occupied c t x ≤ c.available x
