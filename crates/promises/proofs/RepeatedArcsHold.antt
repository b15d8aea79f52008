-- CHANGE 3 OF DOCUMENT 02 HOLDS OF OURS: `arcs_once_keep`.
use mathlib.Core.Path.{◌≡◌, refl, ap}
use mathlib.Core.List.{List, ◌∷◌}
use Prim.Native.Nat.{ℕ}
use native.Mathlib.Omega.{arith}
use Rattle.std.specs.Prelude.{Ok, Err}
use Rattle.plan.specs.Causes.{is_readable, answer_of, Answer}
use Rattle.plan.specs.Meaning.{Readable}
use Rattle.plan.specs.declared.Cause.TheVariants.{RepeatedArc}
use Rattle.plan.proofs.RepeatedArcs.{repeated_refused, refused_repeated, arcs_once}
use Rattle.promises.specs.Ours.{ours}
use Rattle.promises.specs.EveryInput.{OneOf, reading}
use Rattle.promises.specs.Paper.{EveryGives}
use Rattle.promises.specs.RepeatedArcs.{ArcsOnceSentence}
use Rattle.promises.proofs.EveryInputHolds.{unread_one}
use Rattle.promises.proofs.RefusalsHold.{unreadables, unread_given}

-- a file that is not readable has one of the reader's numbers
one_given : (s : List ℕ) → (Readable s → ⊥) → (n : ℕ) × (values : List ℕ) × OneOf reading n × EveryGives ours s (n ∷ values)
one_given s never = go (answer_of s) refl
  where
    go : (a : Answer) → answer_of s ≡ a → (n : ℕ) × (values : List ℕ) × OneOf reading n × EveryGives ours s (n ∷ values)
    go (Ok _) e = absurd (never (ap is_readable e))
    go (Err u) e = (_, _, unread_one u, (unreadables s).every u e)

pub arcs_once_keep : ArcsOnceSentence ours
arcs_once_keep s =
    record {
      thirteen = λ p R. (unreadables s).every (RepeatedArc p) (repeated_refused s p R);
      thirteen_means = λ p g. refused_repeated s p (unread_given s (RepeatedArc p) g);
      once = λ type i j some a b later. one_given s (λ r. omega (arith, arcs_once s r type i j some a b));
    }
