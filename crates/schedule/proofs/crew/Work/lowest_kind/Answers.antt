-- `schedule::crew::Work::lowest_kind` meets its contract: the first kind whose test holds is the first that is exceeded.
use mathlib.Core.Path.{◌≡◌, sym, ap, ◌∙◌}
use Prim.Native.Nat.{ℕ}
use native.Mathlib.Omega.{arith}
use lib.Dec.{ltb}
use lib.ListN.{length}
use Rattle.std.proofs.Common.{Bool, rules, tests}
use Rattle.std.proofs.lemmas.Iterator.{YieldsList-from_slice, YieldsList-from_zip}
use Rattle.std.proofs.lemmas.Iterator.Search.{position_from_yields_List}
use Rattle.std.proofs.lemmas.Slice.Zip.{length-zip, get_or-zip}
use Rattle.std.specs.List.{zip}
use Rattle.schedule.specs.Checks.{exceeds, lowest_kind}
use Rattle.schedule.specs.model.Held.{work_in}
use Rattle.schedule.proofs.Candidates.{exceeds_by}
use Rattle.schedule.proofs.Found.{position_there}
use Rattle.schedule.proofs.crew.Work.lowest_kind.Goals as goal

pub returns : goal.returns
unfolding lowest_kind
returns c =
    let W = work_in c.args.self.now in
    let A = c.args.self.now.available.now in
    let L = c.period_load-load.result in
    let test : ℕ × ℕ → Bool = λ p. ltb p.0 p.1 in
    let a : length A ≡ 8 = search rules in
    let l : length L ≡ 8 = search rules in
    position_from_yields_List test c.position.new.self _ c.position.result c.position.ensures.ran (YieldsList-from_zip {s = c.zip.result} (YieldsList-from_slice A cc) (YieldsList-from_slice L cc)) (λ x b q k. search (rules, tests))
    ∙ position_there test (exceeds W c.args.t) (zip A L) (0, 0) 8 (omega (arith, length-zip A L))
    (λ i h. ap test (get_or-zip A L i (0, 0) (omega arith) (omega arith)) ∙ sym (exceeds_by W c.args.t i c.requires.le_t h c.period_load-load.ensures))
