-- The theorems on need, handover, flow and crew, for one kind and any number n of elements in a strict
-- order b with the demands d.
--
--   need_of_need         the computed need is the need: an unrelated set has that weight, and none has more
--   need_only           there is no other need
--   need_fewer          an order with fewer pairs has no smaller need
--   closed_need         where a search for a better handover failed, the need and the units handed over are exactly all demands
--   closed_flow         then the handover makes a resource flow of any a units that are at least the need;
--                       exactly a - need_of of them go straight from the start to the end
--   no_flow_frees_more  no resource flow of a units sends more than that straight from the start to the end
--   crew_bound          no crew that keeps the order occupies more than the need, in any period, whatever its durations are
--   crew_peak           for all durations up to `gap`, of 1 or more where there is a demand, some crew occupies all of the need in one
--                       period; its ordered elements start at least `gap` periods apart
use mathlib.Core.Path.{◌≡◌}
use mathlib.Core.Bool.{Bool, true}
use Prim.Native.Nat.{ℕ, suc, ◌+◌, ◌-◌, ◌≤◌, ◌<◌}
use Rattle.words.specs.Sums.{sum}
use Rattle.order.specs.Arcs.{StrictOrder, Drawn}
use Rattle.flow_math.specs.Need.{Need}
use Rattle.flow_math.specs.Heaviest.{need_of}
use Rattle.flow_math.specs.Handover.{total, Handover, Closed}
use Rattle.flow_math.specs.Flow.{node_flow, ResourceFlow}
use Rattle.flow_math.specs.Kept.{Keeps}
use Rattle.flow_math.specs.Crew.{occupied}
use Rattle.flow_math.specs.Peak.{Peak}
use Rattle.flow_math.proofs.Need as Needs
use Rattle.flow_math.proofs.Strong
use Rattle.flow_math.proofs.Flow as Flows
use Rattle.flow_math.proofs.Crew as Crews

pub need_of_need : (n : ℕ) (b : ℕ → ℕ → Bool) (d : ℕ → ℕ) → StrictOrder n b → Need n b d (need_of n b d)
need_of_need n b d o = Needs.need_of_need n b d o

pub need_only : (n : ℕ) (b : ℕ → ℕ → Bool) (d : ℕ → ℕ) (x : ℕ) → StrictOrder n b → Need n b d x → x ≡ need_of n b d
need_only n b d x o N = Needs.need_is n b d x o N

pub need_fewer : (n : ℕ) (b c : ℕ → ℕ → Bool) (d : ℕ → ℕ) → StrictOrder n b → StrictOrder n c →
    ((i j : ℕ) → i < n → j < n → c i j ≡ true → b i j ≡ true) → need_of n b d ≤ need_of n c d
need_fewer n b c d o p fewer = Needs.need_fewer n b c d o p fewer

pub closed_need : (n : ℕ) (b : ℕ → ℕ → Bool) (d : ℕ → ℕ) (f : ℕ → ℕ → ℕ) (L R : ℕ → Bool) →
    StrictOrder n b → Handover n b d f → Closed n b d f L R → need_of n b d + total n f ≡ sum n d
closed_need n b d f L R o F C = Strong.closed_need n b d f L R C o F

pub closed_flow : (n : ℕ) (b : ℕ → ℕ → Bool) (d : ℕ → ℕ) (f : ℕ → ℕ → ℕ) (L R : ℕ → Bool) (a : ℕ) →
    StrictOrder n b → Handover n b d f → Closed n b d f L R → need_of n b d ≤ a →
    ResourceFlow n b d a (node_flow n d f (need_of n b d) a) × (node_flow n d f (need_of n b d) a 0 (suc n) ≡ a - need_of n b d)
closed_flow n b d f L R a o F C h =
    (Flows.flow_made n d f (need_of n b d) a b F (closed_need n b d f L R o F C) h, Flows.spare n d f (need_of n b d) a)

pub no_flow_frees_more : (n : ℕ) (b : ℕ → ℕ → Bool) (d : ℕ → ℕ) (a : ℕ) (g : ℕ → ℕ → ℕ) →
    StrictOrder n b → ResourceFlow n b d a g → g 0 (suc n) + need_of n b d ≤ a
no_flow_frees_more n b d a g o G = Flows.no_flow_frees_more n b d a g o G

pub crew_bound : (n : ℕ) (b : ℕ → ℕ → Bool) (d : ℕ → ℕ) (s w : ℕ → ℕ) (t : ℕ) →
    StrictOrder n b → Keeps (Drawn n b) s (λ i j. w i) → occupied n d s w t ≤ need_of n b d
crew_bound n b d s w t o k = Crews.occupied_at_most n b d (need_of n b d) s w t (Needs.need_of_need n b d o) k

pub crew_peak : (n : ℕ) (b : ℕ → ℕ → Bool) (d : ℕ → ℕ) (w : ℕ → ℕ) (gap : ℕ) →
    StrictOrder n b → ((i : ℕ) → i < n → (0 < d i → 1 ≤ w i) × (w i ≤ gap)) → Peak n b d w gap
crew_peak n b d w gap o h = Crews.crew_peak n b d w gap o h
