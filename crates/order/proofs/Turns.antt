-- What a loop `for b in set` goes by: its invariant is `each elements f s (number_of l.b-iterator.left) ≡ r`, with r
-- the run from the start. Each law takes what `next` ensures in this turn: `c.in-Some.ensures.steps`, and after the loop
-- `c.in-None.ensures.steps.0`. `member_below` goes onto the function, by
-- `#[tactic(auto, using(order::proofs::Turns::member_below))]`: so each index is found to be below `elements`.
use Rattle.std.proofs.Common.{◌≡◌, ℕ, ◌<◌, true, false, [], ◌∷◌, sym, refl, ap, ◌∙◌, ⊎_elim, inl, inr, arith, not, ◌&&◌, eqb, ne_eqb}
use Rattle.words.specs.Listing.{members}
use Rattle.words.specs.model.Loops.{each}
use Rattle.words.proofs.Loops.{each_listed, each_listed_end, each_kept}
use Rattle.words.proofs.Bits.{bit_one, digit_one}
use Rattle.words.proofs.Members.{Has, has_member, member_has, members_ascend, members_none, members_more}
use Rattle.words.proofs.Tests.{clash, fails, test_same, and_says, and_both, not_of_false, false_of_not, eqb_says}
use Rattle.order.specs.Stored.{elements, bound, number_of}
use Rattle.order.specs.Sets.{member, lowest_of, without_lowest, listed}
use Rattle.order.specs.declared.Set.{Set}
use Rattle.order.proofs.Stored.{number_of_lem, in_bound}

-- ---- the list

pub listed_none : (w : Set) → number_of w ≡ 0 → listed w ≡ []
unfolding listed
listed_none w z = ap (members elements) z ∙ members_none elements

pub listed_more : (w v : Set) → (number_of w ≡ 0 → ⊥) → number_of w < bound → v ≡ without_lowest w
    → listed w ≡ lowest_of w ∷ listed v
unfolding listed
listed_more w v n fit e =
    members_more elements (number_of w) (omega arith) (in_bound fit)
    ∙ ap (λ (x : ℕ). lowest_of w ∷ members elements x) (sym (number_of_lem v e))

-- ---- a turn, at the first member b of w; v is what is left

module _ (w v : Set) {b : ℕ} (e : listed w ≡ b ∷ listed v) where
  has : Has b (members elements (number_of w))
  unfolding listed
  has = rw e (inl refl)

  pub member_below : b < elements
  member_below = (has_member elements (number_of w) b has).1

  pub member_first : member w b ≡ true
  member_first = bit_one (number_of w) b (has_member elements (number_of w) b has).0

  -- what is left: all others
  pub member_others : (i : ℕ) → i < elements → member v i ≡ member w i && not (eqb i b)
  unfolding listed
  member_others i h =
      test_same (member v i) (member w i && not (eqb i b)) (
        (λ t. let m = there v t in and_both (member w i) (not (eqb i b)) (back w (rw e (inr m))) (not_of_false (eqb i b) (ne_eqb i b (λ q. omega (arith, members_ascend elements (number_of w) b i (listed v) e m))))),
        (λ t. let p = (and_says (member w i) (not (eqb i b))).0 t in
            ⊎_elim (λ q. clash ((eqb_says i b).1 q) (false_of_not (eqb i b) p.1)) (λ m. back v m) (rw e at (there w p.0))),
      )
    where
      there : (s : Set) → member s i ≡ true → Has i (members elements (number_of s))
      there s t = member_has elements (number_of s) i h (digit_one (number_of s) i t)

      back : (s : Set) → Has i (members elements (number_of s)) → member s i ≡ true
      back s m = bit_one (number_of s) i (has_member elements (number_of s) i m).0

  pub members_again : {S : Type 0} (f : S → ℕ → S) (s : S) {s' r : S} → each elements f s (number_of w) ≡ r → s' ≡ f s b
      → each elements f s' (number_of v) ≡ r
  unfolding listed
  members_again f s i t = each_listed elements f s (number_of w) b (number_of v) e i t

-- where no step changes the state any more, a loop may end early
pub members_still : (w : Set) {S : Type 0} (f : S → ℕ → S) (s : S) {r : S} → ((b : ℕ) → f s b ≡ s)
    → each elements f s (number_of w) ≡ r → s ≡ r
members_still w f s h i = each_kept elements f s (number_of w) h i

-- ---- at the end

module _ (w : Set) (e : listed w ≡ []) where
  pub member_none : (i : ℕ) → i < elements → member w i ≡ false
  unfolding listed
  member_none i h = fails (member w i) (λ t. rw e at (member_has elements (number_of w) i h (digit_one (number_of w) i t)))

  pub members_end : {S : Type 0} (f : S → ℕ → S) (s : S) {r : S} → each elements f s (number_of w) ≡ r → s ≡ r
  unfolding listed
  members_end f s i = each_listed_end elements f s (number_of w) e i
