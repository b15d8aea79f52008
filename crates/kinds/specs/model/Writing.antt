-- ONLY FOR THE PROOFS OF THE CODE: records as they are written, one after another, to the start of what is
-- left of the lent bytes. That this comes to the records of `Flows` is `flow_written` of
-- proofs/RecordsWritten.antt.
use Rattle.std.specs.Prelude.{cond, List, ◌++◌, ℕ, suc, ◌+◌, ◌*◌, ◌≤◌, eqb, length, take, drop}
use Rattle.words.specs.model.Loops.{upto}
use Rattle.records.specs.Records.{flow_record}

-- there is room for n records (a pair of nodes is two bytes)
pub record Room (n : ℕ) (out : List ℕ) : Type 0 where
  pub few : n ≤ 65536
  pub fits : 24 * n ≤ length out

-- the lent bytes, with the number of records that are written to them
pub record Lent : Type 0 where
  pub count : ℕ
  pub out : List ℕ

abbrev pub lent : ℕ → List ℕ → Lent
lent n out = record { count = n; out = out }

-- one record more
abbrev pub appended : Lent → List ℕ → Lent
appended l r = lent (l.count + 1) (take (24 * l.count) l.out ++ r ++ drop (24 * l.count + 24) l.out)

-- that of a pair, where its units x are positive
unfoldable pub put_pair : ℕ → ℕ → ℕ → ℕ → ℕ → Lent → Lent
put_pair kind u v x mark l = cond (eqb x 0) l (appended l (flow_record kind u v x mark))

-- those of the pairs from node u to the nodes 1 to m + 1
unfoldable pub put_row : ℕ → (ℕ → ℕ → ℕ) → (ℕ → ℕ → ℕ) → ℕ → ℕ → Lent → Lent
put_row kind g mark m u l = upto (λ j. put_pair kind u (suc j) (g u (suc j)) (mark u (suc j))) (m + 1) l

-- those of the pairs from the nodes 0 to m
unfoldable pub put_flow : ℕ → (ℕ → ℕ → ℕ) → (ℕ → ℕ → ℕ) → ℕ → Lent → Lent
put_flow kind g mark m l = upto (λ u. put_row kind g mark m u) (m + 1) l
