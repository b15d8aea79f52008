-- OURS KEEPS THE THREE DEMANDS; and the third leaves one need alone to be quoted, so that two planners that keep it
-- also refuse the same plans.
use mathlib.Core.Path.{◌≡◌}
use mathlib.Core.List.{List}
use mathlib.Core.Logic.{◌↔◌}
use Prim.Native.Nat.{ℕ, ◌<◌}
use native.Mathlib.Omega.{arith}
use Rattle.std.specs.Prelude.{Err}
use Rattle.plan.specs.Meaning.{file_kinds}
use Rattle.planner.specs.declared.Cause.{Cause}
use Rattle.promises.specs.Planner.{Planner}
use Rattle.promises.specs.Ours.{ours}
use Rattle.promises.specs.PriceList.{quoted_need, PriceList}
use Rattle.promises.specs.Demands.{Demands}
use Rattle.promises.proofs.EveryInputHolds.{every_input}
use Rattle.promises.proofs.PaperHolds.{paper}
use Rattle.promises.proofs.RefusalsHold.{refusals}
use Rattle.promises.proofs.EqualFlowsHold.{equal_flows}
use Rattle.promises.proofs.PriceListHolds.{price_list}

pub ours_keeps : Demands ours
ours_keeps = record { one = every_input; which = refusals; two = paper; same = equal_flows; three = price_list }

module _ (P Q : Planner) (s : List ℕ) (L : PriceList P s) (M : PriceList Q s) where
  pub same_need : (k : ℕ) → k < file_kinds s → quoted_need P s k ≡ quoted_need Q s k
  same_need k h =
      let a = L.some_set k h in
      let b = M.some_set k h in
      omega (arith, a.2, M.every_set k h a.0 a.1, b.2, L.every_set k h b.0 b.1)

  same_refusal : (c : Cause) → P.verdict s ≡ Err c → (d : Cause) × (Q.verdict s ≡ Err d)
  same_refusal c e =
      let x = L.refuses.0 (c, e) in
      M.refuses.1 (x.0, (x.1.0, omega (arith, x.1.1, same_need x.0 x.1.0)))

-- two planners that keep the sentence refuse the same plans
pub same_verdict : (P Q : Planner) (s : List ℕ) → PriceList P s → PriceList Q s
    → ((c : Cause) × (P.verdict s ≡ Err c)) ↔ ((c : Cause) × (Q.verdict s ≡ Err c))
same_verdict P Q s L M = ((λ r. same_refusal P Q s L M r.0 r.1), (λ r. same_refusal Q P s M L r.0 r.1))
