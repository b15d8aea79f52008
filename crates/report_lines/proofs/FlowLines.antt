-- The lines of a flow: how long one is, what the code holds of one, and that only the records matter.
use mathlib.Core.Path.{◌≡◌, refl, sym, ◌∙◌}
use mathlib.Core.List.{List, [], ◌∷◌, ◌++◌}
use Prim.Native.Nat.{ℕ, ◌+◌, ◌*◌, ◌^◌, ◌≤◌, ◌<◌}
use native.Mathlib.Omega.{arith}
use lib.ListN.{length, get_or, take, drop, length-append, get_or-append}
use lib.Seq.{get_or-take, get_or-drop}
use Rattle.records.specs.Bytes.{AreBytes, byte, field}
use Rattle.records.specs.Records.{joined}
use Rattle.records.proofs.Fields.{field_below}
use Rattle.records.proofs.Runs.{joined_same}
use Rattle.plan.specs.Records.{record_at}
use Rattle.plan.specs.model.Lists.{RecordsOf}
use Rattle.plan.proofs.RecordLists.{own_byte}
use Rattle.lines.specs.Text.{places, decimal, spaced, line_of}
use Rattle.lines.proofs.Decimals.{places_fewest, length_decimal}
use Rattle.report_lines.specs.Lines.{flow_word, flow_numbers, flow_lines}

length_more : (x : ℕ) (ns : List ℕ) → length (spaced (x ∷ ns)) ≡ 1 + places x + length (spaced ns)
unfolding spaced
length_more x ns = omega (arith, length-append (decimal x) (spaced ns), length_decimal x)

length_none : length (spaced []) ≡ 0
unfolding spaced
length_none = refl

-- a byte takes at most 3 digits, a number of four bytes at most 10
byte_short : (x : ℕ) → x < 256 → places x ≤ 3
byte_short x h = places_fewest x 3 (omega arith) (omega arith) (omega arith)

four_short : (x : ℕ) → x < 256 ^ 4 → places x ≤ 10
four_short x h = places_fewest x 10 (omega arith) (omega arith) (omega arith)

line_short : (r : List ℕ) → AreBytes r → length (line_of flow_word (flow_numbers r)) ≤ 32
unfolding line_of
line_short r b =
    let u = field r 4 4 in
    let e0 = length-append (flow_word ++ spaced (flow_numbers r)) (10 ∷ []) in
    let e1 = length-append flow_word (spaced (flow_numbers r)) in
    let l1 = length_more (byte r 1) (byte r 2 ∷ byte r 3 ∷ u ∷ byte r 8 ∷ []) in
    let l2 = length_more (byte r 2) (byte r 3 ∷ u ∷ byte r 8 ∷ []) in
    let l3 = length_more (byte r 3) (u ∷ byte r 8 ∷ []) in
    let l4 = length_more u (byte r 8 ∷ []) in
    let l5 = length_more (byte r 8) [] in
    omega (
      arith,
      length_none,
      byte_short (byte r 1) (b 1),
      byte_short (byte r 2) (b 2),
      byte_short (byte r 3) (b 3),
      four_short u (field_below r 4 4 b),
      byte_short (byte r 8) (b 8),
    )

abbrev pub flow_line : List ℕ → ℕ → List ℕ
flow_line records i = line_of flow_word (flow_numbers (drop (24 * i) records))

pub flow_short : (records : List ℕ) → AreBytes records → (i : ℕ) → length (flow_line records i) ≤ 32
flow_short records b i = line_short (drop (24 * i) records) (λ j. rw (get_or-drop) (b (24 * i + j)))

pub flow_end : (n : ℕ) (records : List ℕ) → joined (flow_line records) n ≡ flow_lines n records
unfolding flow_lines
flow_end n records = refl

-- the numbers that the code reads of a record
pub record_line_lem : (r : List ℕ) {a b c u d : ℕ} → a ≡ byte r 1 → b ≡ byte r 2 → c ≡ byte r 3 → u ≡ field r 4 4 → d ≡ byte r 8
    → line_of flow_word (a ∷ b ∷ c ∷ u ∷ d ∷ []) ≡ line_of flow_word (flow_numbers r)
record_line_lem r p q s t v = rw (p, q, s, t, v)

pub units_field : (r : List ℕ) {a b c d : ℕ} → a ≡ byte r 4 → b ≡ byte r 5 → c ≡ byte r 6 → d ≡ byte r 7
    → a + 256 * (b + 256 * (c + 256 * d)) ≡ field r 4 4
unfolding field
units_field r p q s t = rw (p, q, s, t) (omega arith)

-- ---- what stands behind the n records does not matter

line_same : (r t : List ℕ) → ((i : ℕ) → i < 24 → byte r i ≡ byte t i) → line_of flow_word (flow_numbers r) ≡ line_of flow_word (flow_numbers t)
line_same r t e =
    let at : (i : ℕ) → i < 9 → byte r i ≡ byte t i = λ i h. e i (omega arith) in
    record_line_lem t (at 1 (omega arith)) (at 2 (omega arith)) (at 3 (omega arith))
    (sym (units_field r refl refl refl refl) ∙ units_field t (at 4 (omega arith)) (at 5 (omega arith)) (at 6 (omega arith)) (at 7 (omega arith)))
    (at 8 (omega arith))

-- the line of the record that the code hands on: a chunk of the first 24 * n bytes
pub flow_line_lem : (records : List ℕ) (n : ℕ) (rs : List (List ℕ)) → RecordsOf (take (24 * n) records) rs
    → 24 * n ≤ length records → (i : ℕ) → i < n → i < length rs → line_of flow_word (flow_numbers (get_or rs i [])) ≡ flow_line records i
flow_line_lem records n rs each enough i h l =
    let front : List ℕ = take (24 * n) records in
    line_same (get_or rs i []) (drop (24 * i) records)
    (λ b k.
    own_byte (get_or rs i []) (record_at front i) (each i l) b k
    ∙ get_or-drop (24 * i) front b 0
    ∙ get_or-take (24 * n) records (24 * i + b) 0 (omega arith)
    ∙ sym (get_or-drop (24 * i) records b 0))

pub flow_front : (n : ℕ) (r rest : List ℕ) → 24 * n ≤ length r → flow_lines n (r ++ rest) ≡ flow_lines n r
unfolding flow_lines
flow_front n r rest enough =
    joined_same (flow_line (r ++ rest)) (flow_line r) n
    (λ k h. line_same (drop (24 * k) (r ++ rest)) (drop (24 * k) r)
    (λ i l.
    get_or-drop (24 * k) (r ++ rest) i 0
    ∙ get_or-append r rest 0 (24 * k + i) (omega arith)
    ∙ sym (get_or-drop (24 * k) r i 0)))
