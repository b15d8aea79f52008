-- What the reader's causes tell is small: the number has 8 bits, and no place is past the last record.
use mathlib.Core.Path.{◌≡◌, sym, ◌∙◌, subst}
use mathlib.Core.List.{List}
use mathlib.Core.Logic.{⊎_elim}
use Prim.Native.Nat.{ℕ, ◌≤◌, ◌<◌}
use native.Mathlib.Omega.{arith}
use lib.ListN.{length}
use Rattle.words.proofs.Tests.{by_test}
use Rattle.std.specs.Prelude.{Err}
use Rattle.plan.specs.declared.Cause.{Cause}
use Rattle.plan.specs.declared.Cause.TheVariants.{Length}
use Rattle.plan.specs.Causes.{cause_at, is_length, answer_of}
use Rattle.plan.specs.Numbers.{told_by, place_of}
use Rattle.plan.proofs.RecordRules.{Holds, cause_holds}
use Rattle.plan.proofs.Refused.{length_says, refused_length, refused_means}

-- the number has 8 bits, and the place is at most p
pub record Within (p : ℕ) (c : Cause) : Type 0 where
  pub number : (told_by c).number < 256
  pub place : place_of (told_by c) ≤ p

-- the same of a cause that is said otherwise
within_of : {p : ℕ} {c d : Cause} → c ≡ d → Within p d → Within p c
within_of {p} e w = subst (Within p) (sym e) w

-- ---- a refusal at a record tells that record's place

cause_within : (s : List ℕ) (p : ℕ) (c : Cause) → cause_at s p ≡ Err c → Within p c
cause_within s p c e =
    subst (Holds (Within p)) e
    (cause_holds (Within p) s p
    (record { number = omega arith; place = omega arith })
    (record { number = omega arith; place = omega arith })
    (λ _ _ _. record { number = omega arith; place = omega arith })
    (record { number = omega arith; place = omega arith })
    (λ _ _ _. record { number = omega arith; place = omega arith }))

-- ---- a file that is refused for its length tells no place, and others have at most 2,048 records

pub told_small : (s : List ℕ) (c : Cause) → answer_of s ≡ Err c → Within 2048 c
told_small s c e =
    by_test (is_length (length s))
    (λ legal.
    let l = ((length_says (length s)).0 legal).1 in
    ⊎_elim
    (λ w. none w.cause)
    (⊎_elim
    (λ w. let h = w.1.there in let i = cause_within s w.0 c w.1.fault in record { number = i.number; place = omega (arith, i.place) })
    (λ w. within_of w.cause (record { number = omega arith; place = omega arith })))
    (refused_means s c e))
    (λ wrong. let h = sym (refused_length s wrong) ∙ e in none (cc h))
  where
    none : c ≡ Length → Within 2048 c
    none q = within_of q (record { number = omega arith; place = omega arith })
