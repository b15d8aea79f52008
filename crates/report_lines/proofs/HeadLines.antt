-- The first lines of an accepted plan: how long they are, what they are given by, and that they
-- are written one after another.
use mathlib.Core.Path.{◌≡◌, refl, ap, ◌∙◌}
use mathlib.Core.List.{List, [], ◌∷◌, ◌++◌}
use Prim.Native.Nat.{ℕ, ◌+◌, ◌*◌, ◌≤◌, ◌<◌}
use native.Mathlib.Omega.{arith}
use lib.ListN.{length, get_or, length-append}
use Rattle.records.specs.Records.{joined}
use Rattle.records.proofs.Runs.{joined_same}
use Rattle.plan.specs.Records.{activities}
use Rattle.lines.specs.Text.{Text, line_of, more}
use Rattle.lines.proofs.Texts.{line_length}
use Rattle.lines.proofs.Putting.{Short, short_room, short_more, joined_short}
use Rattle.report_lines.specs.Lines.{head_room, need_word, start_word, plan_word, end_word, need_lines, start_lines, head_lines}

-- ---- the needs and the starts

abbrev pub need_line : List ℕ → List ℕ → ℕ → List ℕ
need_line needs available k = line_of need_word ((k + 1) ∷ get_or needs k 0 ∷ get_or available k 0 ∷ [])

abbrev pub start_line : List ℕ → ℕ → List ℕ
start_line starts i = line_of start_word ((i + 1) ∷ get_or starts i 0 ∷ [])

pub need_short : (needs available : List ℕ) (k : ℕ) → length (need_line needs available k) ≤ 68
need_short needs available k = line_length need_word ((k + 1) ∷ get_or needs k 0 ∷ get_or available k 0 ∷ [])

pub start_short : (starts : List ℕ) (i : ℕ) → length (start_line starts i) ≤ 48
start_short starts i = line_length start_word ((i + 1) ∷ get_or starts i 0 ∷ [])

pub need_line_lem : (needs available : List ℕ) (k : ℕ) {i x y : ℕ} → i ≡ k + 1 → x ≡ get_or needs k 0
    → y ≡ get_or available k 0 → line_of need_word (i ∷ x ∷ y ∷ []) ≡ need_line needs available k
need_line_lem needs available k e p q = rw (e, p, q)

pub start_line_lem : (starts : List ℕ) (i : ℕ) {x : ℕ} → x ≡ get_or starts i 0 → line_of start_word ((i + 1) ∷ x ∷ []) ≡ start_line starts i
start_line_lem starts i p = rw p

pub needs_end : (n : ℕ) (needs available : List ℕ) → joined (need_line needs available) n ≡ need_lines n needs available
unfolding need_lines
needs_end n needs available = refl

pub starts_end : (m : ℕ) (starts : List ℕ) → joined (start_line starts) m ≡ start_lines m starts
unfolding start_lines
starts_end m starts = refl

pub needs_short : (n : ℕ) (needs available : List ℕ) → length (need_lines n needs available) ≤ 68 * n
unfolding need_lines
needs_short n needs available = joined_short (need_line needs available) 68 (need_short needs available) n

pub starts_short : (m : ℕ) (starts : List ℕ) → length (start_lines m starts) ≤ 48 * m
unfolding start_lines
starts_short m starts = joined_short (start_line starts) 48 (start_short starts) m

-- ---- the head: the plan, the needs, the starts and the end

pub head_short : (m n : ℕ) (needs available starts : List ℕ) → m ≤ activities → n ≤ 8 → length (head_lines m n needs available starts) ≤ head_room
unfolding head_lines
head_short m n needs available starts few kinds =
    let last : List ℕ = line_of end_word (get_or starts m 0 ∷ []) in
    rw (length-append, length-append, length-append) (
    omega (
      arith,
      line_length plan_word (m ∷ n ∷ []),
      needs_short n needs available,
      starts_short m starts,
      line_length end_word (get_or starts m 0 ∷ []),
    )
    )

-- they are given by the first n needs and the first m + 1 starts
pub head_same : (m n : ℕ) (needs needs' available starts starts' : List ℕ) → ((k : ℕ) → k < n → get_or needs k 0 ≡ get_or needs' k 0)
    → ((i : ℕ) → i ≤ m → get_or starts i 0 ≡ get_or starts' i 0) → head_lines m n needs available starts ≡ head_lines m n needs' available starts'
unfolding head_lines need_lines start_lines
head_same m n needs needs' available starts starts' p q =
    let a =
    joined_same (need_line needs available) (need_line needs' available) n
    (λ k h. need_line_lem needs' available k refl (p k h) refl) in
    let b =
    joined_same (start_line starts) (start_line starts') m (λ i h. start_line_lem starts' i (q i (omega arith))) in
    rw (a, b, q m (omega arith))

module _ (m n : ℕ) (needs available starts : List ℕ) (t : Text) (few : m ≤ activities) (kinds : n ≤ 8)
    (fits : t.at + head_room ≤ length t.out) {one : Text} (first : one ≡ more t (line_of plan_word (m ∷ n ∷ []))) where
  named : Short t 47 (line_of plan_word (m ∷ n ∷ [])) one
  named = record { done = first; few = line_length plan_word (m ∷ n ∷ []) }

  pub needs_room : one.at + 68 * n ≤ length one.out
  needs_room = short_room named (68 * n) (omega arith)

  module _ {two : Text} (second : two ≡ more one (need_lines n needs available)) where
    needed : Short t (47 + 68 * n) (line_of plan_word (m ∷ n ∷ []) ++ need_lines n needs available) two
    needed = short_more named (68 * n) (need_lines n needs available) second (needs_short n needs available) (omega arith)

    pub starts_room : two.at + 48 * m ≤ length two.out
    starts_room = short_room needed (48 * m) (omega arith)

    module _ {three : Text} (third : three ≡ more two (start_lines m starts)) where
      started : Short t (47 + 68 * n + 48 * m)
          (line_of plan_word (m ∷ n ∷ []) ++ need_lines n needs available ++ start_lines m starts) three
      started = short_more needed (48 * m) (start_lines m starts) third (starts_short m starts) (omega arith)

      pub end_room : three.at + 25 ≤ length three.out
      end_room = short_room started 25 (omega arith)

      pub head_end : {four : Text} {last : ℕ} → four ≡ more three (line_of end_word (last ∷ [])) → last ≡ get_or starts m 0
          → four ≡ more t (head_lines m n needs available starts)
      unfolding head_lines
      head_end fourth is =
          let numbers : List ℕ = get_or starts m 0 ∷ [] in
          let last = ap (λ (x : ℕ). more three (line_of end_word (x ∷ []))) is in
          (short_more started 25 (line_of end_word numbers) (fourth ∙ last) (line_length end_word numbers) (omega arith)).done
