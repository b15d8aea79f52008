-- `Page::head` meets its contract: the page has its line, and has come as far (`head_said`).
use mathlib.Core.Path.{ap₂}
use Prim.Native.Nat.{ℕ}
use mathlib.Core.List.{List}
use borrow.Rule.Slice.Mut.{set_vals}
use Rattle.crew_sheet.proofs.Filling.{head_said}
use Rattle.crew_sheet.proofs.Page.head.Goals as goal

pub returns : goal.returns
returns c =
    let a = c.args in
    let w = head_said a.self.at c.put_head-next.result a.kind a.page a.self.out.now c.put_head-next.new.out c.put_head-next.ensures in
    ap₂ (λ (xs : List ℕ) (n : ℕ). record { out = set_vals xs a.self.out; at = n }) w.1 w.0
