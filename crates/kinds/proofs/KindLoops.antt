-- The loops over the kinds: the demands of one kind, the needs as they are written, the search for the
-- lowest overload, and its record.
use mathlib.Core.Path.{◌≡◌, refl, sym, ap, ap₂, ◌∙◌}
use mathlib.Core.Bool.{Bool, true, false, cond}
use mathlib.Core.List.{List, [], ◌++◌}
use Rattle.std.proofs.lemmas.List.{length-drop, length-take-le, get_or-take, get_or-drop}
use Prim.Native.Nat.{ℕ, ◌+◌, ◌*◌, ◌%◌, ◌^◌, ◌≤◌, ◌<◌}
use native.Mathlib.Omega.{arith}
use Rattle.std.specs.Prelude.{Some, None}
use lib.Dec.{ltb}
use lib.ListN.{length, get_or, take, drop}
use borrow.Author.Tests.{lt-ltb, le-ltb, ltb-true, ltb-false}
use Rattle.words.specs.Tables.{over}
use Rattle.words.proofs.Firsts.{first_le, first_stop, first_end}
use Rattle.words.proofs.Tables.{is_table, length_table, get_d_table, over_all}
use Rattle.words.proofs.Tests.{cond_true, cond_false, cond_has}
use Rattle.order.specs.Stored.{elements, number_of}
use Rattle.order.specs.Sets.{size_of}
use Rattle.order.specs.Orders.{after_rows}
use Rattle.order.specs.declared.Order.{Order}
use Rattle.records.specs.Records.{overload_record, starting_with}
use Rattle.records.proofs.Records.{overload_low}
use Rattle.solver.specs.model.Quote.{quote_in}
use Rattle.solver.specs.declared.Quoted.{Quoted}
use Rattle.kinds.specs.Needs.{demand_at, demands_for, quote_for, needs_for, exceeds, lowest_kind}
use Rattle.kinds.specs.Needs.{overload_of, no_overload, lowest_overload, some_overload}
use Rattle.kinds.specs.Needs.{shown_count, shown_bytes, given_count, given_bytes}
use Rattle.kinds.specs.declared.Overload.{Overload}

-- ---- the demands of one kind

pub demands_made : (demand : List ℕ) (k : ℕ) {n : ℕ} {own : List ℕ} → k < 8 → length demand ≡ 8 * elements
    → own ≡ take n (drop (elements * k) demand) → n ≡ elements → own ≡ demands_for demand k
unfolding demands_for
demands_made demand k {n} {own} h l e w =
    is_table elements (demand_at demand k) own 0
    (ap (λ (x : List ℕ). length x) e ∙ length-take-le n (drop (elements * k) demand) (omega (arith, l, w, length-drop (elements * k) demand)) ∙ w)
    (λ i p. ap (λ (x : List ℕ). get_or x i 0) e ∙ get_or-take n (drop (elements * k) demand) i 0 (omega arith) ∙ get_or-drop (elements * k) demand i 0)

-- what is quoted for them, by the rows of the order
pub quoted_for : (m : ℕ) (o : Order) (demand : List ℕ) (k : ℕ) {n : ℕ} {own rows : List ℕ} {q : Quoted} → n ≡ m → rows ≡ after_rows o
    → own ≡ demands_for demand k → q ≡ quote_in n rows own → q ≡ quote_for m o demand k
quoted_for m o demand k n r e w = cc (n, r, e, w)

-- ---- the needs

pub length_needs : (m : ℕ) (o : Order) (demand : List ℕ) (n : ℕ) → length (needs_for m o demand n) ≡ n
unfolding needs_for
length_needs m o demand n = length_table n (λ k. (quote_for m o demand k).need)

pub need_at : (m : ℕ) (o : Order) (demand : List ℕ) (n k : ℕ) → k < n → get_or (needs_for m o demand n) k 0 ≡ (quote_for m o demand k).need
unfolding needs_for
need_at m o demand n k l = get_d_table n (λ i. (quote_for m o demand i).need) k 0 l

-- all needs are written, to the front of what is lent
pub needs_made : (m : ℕ) (o : Order) (demand : List ℕ) (n : ℕ) (out items : List ℕ) → length items ≡ n
    → ((j : ℕ) → j < n → get_or items j 0 ≡ (quote_for m o demand j).need) → items ++ drop n out ≡ over n (needs_for m o demand n) out
unfolding needs_for
needs_made m o demand n out items l h =
    ap (λ (x : List ℕ). x ++ drop n out) (is_table n (λ j. (quote_for m o demand j).need) items 0 l h)
    ∙ ap (λ (k : ℕ). needs_for m o demand n ++ drop k out) (sym (length_needs m o demand n))
    ∙ sym (over_all n (needs_for m o demand n) out (length_needs m o demand n))

-- ---- the lowest overload

-- one of the first n kinds, and none of them
pub some_is : (n : ℕ) {v w : Overload} → v ≡ w → v.kind < n → Some v ≡ some_overload n w
unfolding some_overload
some_is n {v} e l = sym (cond_true (Some v) None (lt-ltb v.kind n l)) ∙ ap (some_overload n) e

pub none_is : (n : ℕ) {v w : Overload} → v ≡ w → n ≤ v.kind → None ≡ some_overload n w
unfolding some_overload
none_is n {v} e l = sym (cond_false (Some v) None (le-ltb v.kind n l)) ∙ ap (some_overload n) e

-- what a caller learns who is given one, or none
module _ (n : ℕ) (v : Overload) where
  some_by : (t : Bool) {w : Overload} → Some w ≡ cond t (Some v) None → (w ≡ v) × (t ≡ true)
  some_by true e = (cc, refl)
  some_by false e = absurd (cc)

  pub some_told : {w : Overload} → Some w ≡ some_overload n v → (w ≡ v) × (v.kind < n)
  unfolding some_overload
  some_told e = let h = some_by (ltb v.kind n) e in (h.0, ltb-true v.kind n h.1)

  none_by : (t : Bool) → None ≡ cond t (Some v) None → t ≡ false
  none_by true e = absurd (cc)
  none_by false e = refl

  pub none_told : None ≡ some_overload n v → n ≤ v.kind
  unfolding some_overload
  none_told e = ltb-false v.kind n (none_by (ltb v.kind n) e)

module _ (m : ℕ) (o : Order) (demand available : List ℕ) (n : ℕ) where
  abbrev pub NoneBelow : ℕ → Type 0
  NoneBelow k = (i : ℕ) → i < k → exceeds m o demand available i ≡ false

  lowest_at : (k : ℕ) (q : Quoted) → NoneBelow k → k < n → q ≡ quote_for m o demand k → get_or available k 0 < q.need
      → overload_of k q ≡ lowest_overload m o demand available n
  unfolding lowest_overload
  lowest_at k q h l w e =
      let t : exceeds m o demand available k ≡ true =
      lt-ltb (get_or available k 0) (quote_for m o demand k).need (omega (arith, ap (λ (x : Quoted). x.need) w)) in
      ap (overload_of k) w ∙ rw (← first_stop n (exceeds m o demand available) k h l t, lt-ltb k n l)

  pub lowest_found : (k : ℕ) (q : Quoted) → NoneBelow k → k < n → q ≡ quote_for m o demand k → get_or available k 0 < q.need
      → Some (overload_of k q) ≡ some_overload n (lowest_overload m o demand available n)
  lowest_found k q h l w e = some_is n (lowest_at k q h l w e) l

  nowhere : (k : ℕ) → NoneBelow k → k ≡ n → no_overload n ≡ lowest_overload m o demand available n
  unfolding lowest_overload
  nowhere k h e = rw (← first_end n (exceeds m o demand available) k h e, le-ltb n n (omega arith))

  pub lowest_none : (k : ℕ) → NoneBelow k → k ≡ n → None ≡ some_overload n (lowest_overload m o demand available n)
  lowest_none k h e = none_is n (nowhere k h e) (omega arith)

  pub lowest_le : (lowest_overload m o demand available n).kind ≤ n
  unfolding lowest_overload
  lowest_le =
      let k = lowest_kind m o demand available n in
      let found = overload_of k (quote_for m o demand k) in
      cond_has (λ (v : Overload). v.kind ≤ n) (ltb k n) found (no_overload n)
      (λ e. first_le n (exceeds m o demand available)) (λ e. omega arith)

-- ---- its record

-- what is shown of an overload of the first n kinds, or none, is what is shown among these
module _ (n : ℕ) (v : Overload) (few : n ≤ 8) where
  count_by : (t : Bool) → (t ≡ true → v.kind < 8) → given_count (cond t (Some v) None) ≡ cond t 1 0
  unfolding given_count shown_count
  count_by true h = cond_true 1 0 (lt-ltb v.kind 8 (h refl))
  count_by false h = refl

  pub count_given : given_count (some_overload n v) ≡ shown_count v n
  unfolding some_overload shown_count
  count_given = count_by (ltb v.kind n) (λ e. omega (arith, ltb-true v.kind n e))

  bytes_by : (t : Bool) → (t ≡ true → v.kind < 8)
      → given_bytes (cond t (Some v) None) ≡ cond t (overload_record (v.kind + 1) (size_of v.set) v.need (number_of v.set)) []
  unfolding given_bytes shown_bytes
  bytes_by true h = cond_true (overload_record (v.kind + 1) (size_of v.set) v.need (number_of v.set)) [] (lt-ltb v.kind 8 (h refl))
  bytes_by false h = refl

  pub bytes_given : given_bytes (some_overload n v) ≡ shown_bytes v n
  unfolding some_overload shown_bytes
  bytes_given = bytes_by (ltb v.kind n) (λ e. omega (arith, ltb-true v.kind n e))

-- no overload writes nothing
pub given_none : (out : List ℕ) → (0 ≡ given_count None) × (out ≡ starting_with (given_bytes None) out)
unfolding given_count given_bytes
given_none out = (refl, refl)

module _ (v : Overload) (out : List ℕ) where
  -- of no kind that a file has
  pub shown_none : 8 ≤ v.kind → (0 ≡ given_count (Some v)) × (out ≡ starting_with (given_bytes (Some v)) out)
  unfolding given_count given_bytes shown_count shown_bytes
  shown_none h =
      let t = le-ltb v.kind 8 h in
      let bytes : List ℕ = overload_record (v.kind + 1) (size_of v.set) v.need (number_of v.set) in
      (sym (cond_false 1 0 t), ap (λ (r : List ℕ). starting_with r out) (sym (cond_false bytes [] t)))

  -- one of them: the record is written by bytes a and b that are its kind and the size of its set, and by the first word of the set
  pub shown_one : (a b w : ℕ) (now : List ℕ) → v.kind < 8 → a ≡ v.kind + 1 → b ≡ size_of v.set → w ≡ number_of v.set % 256 ^ 8
      → now ≡ starting_with (overload_record a b v.need w) out → (1 ≡ given_count (Some v)) × (now ≡ starting_with (given_bytes (Some v)) out)
  unfolding given_count given_bytes shown_count shown_bytes
  shown_one a b x now h p q s w =
      let t = lt-ltb v.kind 8 h in
      let bytes : List ℕ = overload_record (v.kind + 1) (size_of v.set) v.need (number_of v.set) in (
        sym (cond_true 1 0 t),
        w
            ∙ ap (λ (i : ℕ). starting_with (overload_record a b v.need i) out) s
            ∙ ap (λ (r : List ℕ). starting_with r out) (overload_low a b v.need (number_of v.set))
            ∙ ap₂ (λ (i j : ℕ). starting_with (overload_record i j v.need (number_of v.set)) out) p q
            ∙ ap (λ (r : List ℕ). starting_with r out) (sym (cond_true bytes [] t)),
      )
