-- `Members::next` meets its contract: the list begins with the lowest member, and goes on without it.
use Rattle.std.proofs.Common.{◌≡◌, ℕ, ◌∷◌, length, Option, Some, ap, sym, ◌∙◌, rules}
use Rattle.order.specs.Sets.{without_lowest, listed}
use Rattle.order.specs.declared.Set.{Set}
use Rattle.order.proofs.Sets.{Lowest, given_lowest, given_some, given_none}
use Rattle.order.proofs.Turns.{listed_none, listed_more}
use Rattle.order.proofs.members.MembersIterator.next.Goals as goal

pub returns-in_err-i-clause-steps : goal.returns-in_err-i-clause-steps
returns-in_err-i-clause-steps c =
    let none = listed_none _ (given_none _ c.lowest.ensures (c.in_err-i.was)) in
    rw c.from_residual.ensures (none, none)

-- with what the list begins, and goes on
first : (w v : Set) (r : Option ℕ) (i : ℕ) → Lowest w r → r ≡ Some i → v ≡ without_lowest w → listed w ≡ i ∷ listed v
first w v r i e q l = listed_more w v (given_some w e q) e.1 l ∙ ap (λ (x : ℕ). x ∷ listed v) (sym (given_lowest w e q).0)

pub returns-clause-steps : goal.returns-clause-steps
returns-clause-steps c = first _ _ _ _ c.lowest.ensures c.in_ok-i.was c.without_lowest-self.ensures

pub returns-clause-goes : goal.returns-clause-goes
returns-clause-goes c =
    let e = ap length (first _ _ _ _ c.lowest.ensures c.in_ok-i.was c.without_lowest-self.ensures) in
    search rules
