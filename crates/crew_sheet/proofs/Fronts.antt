-- A page shows the first n records of the flow's bytes and the starts of nodes, and nothing else of what is lent.
use mathlib.Core.Path.{◌≡◌, refl, sym, ap, ◌∙◌}
use mathlib.Core.Bool.{cond}
use mathlib.Core.List.{List, [], ◌∷◌, ◌++◌}
use Prim.Native.Nat.{ℕ, zero, suc, ◌+◌, ◌*◌, ◌-◌, ◌≤◌, ◌<◌}
use native.Mathlib.Omega.{arith}
use lib.Dec.{eqb, ltb}
use lib.ListN.{length, get_or, replicate, get_or-append, get_or-eq_default}
use lib.Seq.{get_or-append-add}
use borrow.Author.Tests.{ltb-true, ltb-false}
use Rattle.words.specs.Sums.{maximum}
use Rattle.words.proofs.Tests.{by_test}
use Rattle.words.proofs.Tables.{get_d_zeros}
use Rattle.words.proofs.Maxima.{maximum_cong}
use Rattle.records.specs.Bytes.{byte}
use Rattle.records.specs.Records.{joined, to_of, units_of}
use Rattle.records.proofs.Fields.{field_same}
use Rattle.records.proofs.Runs.{joined_same}
use Rattle.crew_sheet.specs.Sheet.{node_start, start_of, starting_at, sheet_lines, head_line, record_line, on_line, page_lines, sheet_page}
use Rattle.crew_sheet.proofs.Filling.{record_some, record_none}

module _ (flow flow' starts starts' : List ℕ) (n : ℕ)
    (same : (i k : ℕ) → i < n → k < 24 → byte flow (24 * i + k) ≡ byte flow' (24 * i + k))
    (alike : (i : ℕ) → i < n → node_start starts (to_of flow i) ≡ node_start starts' (to_of flow i)) where
  start_same : (i : ℕ) → i < n → start_of flow starts i ≡ start_of flow' starts' i
  unfolding start_of
  start_same i h = alike i h ∙ ap (node_start starts') (same i 3 h (omega arith))

  at_same : (s : ℕ) → starting_at flow starts n s ≡ starting_at flow' starts' n s
  unfolding starting_at
  at_same s =
      joined_same (λ i. cond (eqb (start_of flow starts i) s) (i ∷ []) []) (λ i. cond (eqb (start_of flow' starts' i) s) (i ∷ []) []) n
      (λ i h. ap {B = List ℕ} (λ x. cond (eqb x s) (i ∷ []) []) (start_same i h))

  lines_same : sheet_lines flow starts n ≡ sheet_lines flow' starts' n
  unfolding sheet_lines
  lines_same =
      joined_same (starting_at flow starts n) (starting_at flow' starts' n) (suc (maximum n (start_of flow starts))) (λ s _. at_same s)
      ∙ ap (λ m. joined (starting_at flow' starts' n) (suc m)) (maximum_cong n (start_of flow starts) (start_of flow' starts') start_same)

  units_same : (i : ℕ) → i < n → units_of flow i ≡ units_of flow' i
  units_same i h =
      field_same flow flow' (24 * i + 4) 4
      (λ k l. let e : 24 * i + (4 + k) ≡ 24 * i + 4 + k = omega arith in rw e at (same i (4 + k) h (omega arith)))

  record_same : (i : ℕ) → record_line flow starts n i ≡ record_line flow' starts' n i
  record_same i =
      by_test (ltb i n)
      (λ t.
      let h : i < n = ltb-true i n t in
      sym (record_some flow starts n i h refl refl refl refl)
      ∙ record_some flow' starts' n i h (same i 2 h (omega arith)) (same i 3 h (omega arith)) (units_same i h) (start_same i h))
      (λ t. sym (record_none flow starts n i (ltb-false i n t)) ∙ record_none flow' starts' n i (ltb-false i n t))

  pub page_same : (kind page : ℕ) → sheet_page flow starts n kind page ≡ sheet_page flow' starts' n kind page
  unfolding sheet_page page_lines on_line
  page_same kind page =
      ap (λ (x : List ℕ). head_line kind page ++ x)
      (joined_same (λ l. record_line flow starts n (get_or (sheet_lines flow starts n) (59 * (page - 1) + l) n))
      (λ l. record_line flow' starts' n (get_or (sheet_lines flow' starts' n) (59 * (page - 1) + l) n)) 59
      (λ l _. record_same (get_or (sheet_lines flow starts n) (59 * (page - 1) + l) n) ∙ ap (λ x. record_line flow' starts' n (get_or x (59 * (page - 1) + l) n)) lines_same))

-- zeros behind the starts are no starts
pub starts_padded : (starts : List ℕ) (k node : ℕ) → node_start (starts ++ replicate k 0) node ≡ node_start starts node
unfolding node_start
starts_padded starts k zero = refl
starts_padded starts k (suc i) =
    by_test (ltb i (length starts))
    (λ t. get_or-append starts (replicate k 0) 0 i (ltb-true i (length starts) t))
    (λ t.
    let past : length starts ≤ i = ltb-false i (length starts) t in
    let e : i ≡ length starts + (i - length starts) = omega arith in
    ap (λ j. get_or (starts ++ replicate k 0) j 0) e
    ∙ get_or-append-add starts (replicate k 0) (i - length starts) 0
    ∙ get_d_zeros k (i - length starts)
    ∙ sym (get_or-eq_default starts 0 past))

-- what a caller has that keeps a flow and starts at the front of longer memory
pub page_front : (flow rest starts : List ℕ) (k n kind page : ℕ) → 24 * n ≤ length flow
    → sheet_page (flow ++ rest) (starts ++ replicate k 0) n kind page ≡ sheet_page flow starts n kind page
page_front flow rest starts k n kind page h =
    page_same (flow ++ rest) flow (starts ++ replicate k 0) starts n (λ i j l s. get_or-append flow rest 0 (24 * i + j) (omega arith))
    (λ i _. starts_padded starts k (to_of (flow ++ rest) i)) kind page

-- nor is what stands behind the starts, where no receiver is behind them
pub starts_before : (starts more : List ℕ) (node : ℕ) → node ≤ length starts → node_start (starts ++ more) node ≡ node_start starts node
unfolding node_start
starts_before starts more zero h = refl
starts_before starts more (suc i) h = get_or-append starts more 0 i (omega arith)

pub page_behind : (flow rest starts more : List ℕ) (n kind page : ℕ) → 24 * n ≤ length flow → ((i : ℕ) → i < n → to_of (flow ++ rest) i ≤ length starts)
    → sheet_page (flow ++ rest) (starts ++ more) n kind page ≡ sheet_page flow starts n kind page
page_behind flow rest starts more n kind page h near =
    page_same (flow ++ rest) flow (starts ++ more) starts n (λ i j l s. get_or-append flow rest 0 (24 * i + j) (omega arith))
    (λ i l. starts_before starts more (to_of (flow ++ rest) i) (near i l)) kind page
