-- What the kinds need, as the solver quotes it, and the lowest kind that needs more than there is.
use Rattle.std.specs.Prelude.{Bool, cond, List, [], Option, Some, None, ℕ, ◌+◌, ◌*◌, ltb, get_or}
use Rattle.words.specs.Members.{first}
use Rattle.words.specs.Tables.{table}
use Rattle.order.specs.Stored.{elements, no_set, number_of}
use Rattle.order.specs.Sets.{size_of}
use Rattle.order.specs.declared.Order.{Order}
use Rattle.records.specs.Records.{overload_record}
use Rattle.solver.specs.model.Quote.{quote_of}
use Rattle.solver.specs.declared.Quoted.{Quoted}
use Rattle.kinds.specs.declared.Overload.{Overload}

-- the demand of the element i for kind k, in the table of all demands
abbrev pub demand_at : List ℕ → ℕ → ℕ → ℕ
demand_at demand k i = get_or demand (elements * k + i) 0

-- the demands of kind k alone
unfoldable pub demands_for : List ℕ → ℕ → List ℕ
demands_for demand k = table elements (demand_at demand k)

-- what the solver quotes for kind k of a plan of m elements: a need, and a set that has it
abbrev pub quote_for : ℕ → Order → List ℕ → ℕ → Quoted
quote_for m o demand k = quote_of m o (demands_for demand k)

-- the needs of the first n kinds
unfoldable pub needs_for : ℕ → Order → List ℕ → ℕ → List ℕ
needs_for m o demand n = table n (λ k. (quote_for m o demand k).need)

-- kind k needs more than there is
abbrev pub exceeds : ℕ → Order → List ℕ → List ℕ → ℕ → Bool
exceeds m o demand available k = ltb (get_or available k 0) (quote_for m o demand k).need

-- the lowest of the first n kinds that does; n where none does
abbrev pub lowest_kind : ℕ → Order → List ℕ → List ℕ → ℕ → ℕ
lowest_kind m o demand available n = first n (exceeds m o demand available)

abbrev pub overload_of : ℕ → Quoted → Overload
overload_of k q = record { kind = k; need = q.need; set = q.set }

abbrev pub no_overload : ℕ → Overload
no_overload n = record { kind = n; need = 0; set = no_set }

-- that kind, with what is quoted for it
unfoldable pub lowest_overload : ℕ → Order → List ℕ → List ℕ → ℕ → Overload
lowest_overload m o demand available n =
    let shown = overload_of (lowest_kind m o demand available n)
    (quote_for m o demand (lowest_kind m o demand available n)) in
    cond (ltb (lowest_kind m o demand available n) n) shown (no_overload n)

-- the same as the code has it: an overload of one of the first n kinds, or none
unfoldable pub some_overload : ℕ → Overload → Option Overload
some_overload n v = cond (ltb v.kind n) (Some v) None

-- ---- how it is shown

-- so many records, and their bytes: one for a kind of the first n, else none. "its size is the count of ones"
unfoldable pub shown_count : Overload → ℕ → ℕ
shown_count v n = cond (ltb v.kind n) 1 0

unfoldable pub shown_bytes : Overload → ℕ → List ℕ
shown_bytes v n =
    cond (ltb v.kind n)
    (overload_record (v.kind + 1) (size_of v.set) v.need (number_of v.set))
    []

-- of an overload, or none, as the code has it: a file has at most 8 kinds. (Of `some_overload n v` that is
-- what is shown of v among the first n: `count_given` and `bytes_given` of proofs/KindLoops.antt.)
unfoldable pub given_count : Option Overload → ℕ
given_count None = 0
given_count (Some v) = shown_count v 8

unfoldable pub given_bytes : Option Overload → List ℕ
given_bytes None = []
given_bytes (Some v) = shown_bytes v 8
