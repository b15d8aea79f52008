-- The words of givers say where there is flow: so taking that back leaves nothing handed over.
use Rattle.std.proofs.Common.{◌≡◌, ℕ, ◌*◌, ◌/◌, ◌%◌, ◌<◌, List, [], ◌∷◌, length, get_or, set, replicate, sym, refl, ap, ◌∙◌, ⊎_elim, arith, length-set, get_or-set_other, get_or-set_same, ext_get_or}
use mathlib.Core.Logic.{by_cases}
use native.Mathlib.Decide.{dec_lt}
use lib.ListN.{get_or-eq_default}
use Rattle.words.specs.Bits.{digit}
use Rattle.words.specs.model.Loops.{each, fold}
use Rattle.words.specs.Listing.{members}
use Rattle.words.proofs.Bits.{digit_none}
use Rattle.words.proofs.Kept.{each_keeps}
use Rattle.words.proofs.Members.{Has, member_has}
use Rattle.words.proofs.Tables.{get_d_zeros}
use Rattle.words.proofs.Tests.{same_or_not}
use Rattle.order.specs.Stored.{elements, row as set_at}
use Rattle.solver.specs.model.Network.{Network, cell, dropping, handed, leaders, taken_back, taken_from}
use Rattle.solver.specs.model.Solve.{ranked}
use Rattle.solver.specs.model.Quote.{outcome, untouched, unused}
use Rattle.solver.proofs.StartState.{untouched_linked, unused_long}
use Rattle.solver.proofs.Cleared.{set_zero}
use Rattle.solver.proofs.Kept.{solved_keeps}
use Rattle.solver.proofs.Linked.{Linked, joined_linked, shifted_linked}
use Rattle.order.proofs.Nonzero.{nonzero_bit}

-- ---- a loop over members that makes something so, and keeps it so

module _ {S : Type 0} (Z I : S → Type 0) (f : S → ℕ → S) (b : ℕ) (keep : (s : S) (x : ℕ) → Z s → Z (f s x)) (inv : (s : S) (x : ℕ) → I s → I (f s x))
    (hit : (s : S) → I s → Z (f s b)) where
  fold_stays : (bs : List ℕ) (s : S) → Z s → Z (fold f s bs)
  fold_stays [] s z = z
  fold_stays (x ∷ bs) s z = fold_stays bs (f s x) (keep s x z)

  fold_reaches : (bs : List ℕ) → Has b bs → (s : S) → I s → Z (fold f s bs)
  fold_reaches [] h s i = absurd h
  fold_reaches (x ∷ bs) h s i =
      ⊎_elim (λ q. fold_stays bs (f s x) (rw (← q) (hit s i))) (λ k. fold_reaches bs k (f s x) (inv s x i)) h

  each_reaches : (k w : ℕ) → b < k → digit w b ≡ 1 → (s : S) → I s → Z (each k f s w)
  unfolding each
  each_reaches k w h e s i = fold_reaches (members k w) (member_has k w b h e) s i

-- ---- taking back

zero_stays : (l : List ℕ) (c p : ℕ) → get_or l p 0 ≡ 0 → get_or (set l c 0) p 0 ≡ 0
zero_stays l c p z =
    by_cases (dec_lt c (length l))
    (λ h. set_zero l c 0 p h z (λ q. refl))
    (λ g.
    ⊎_elim (λ q. get_or-eq_default (set l c 0) 0 (omega (arith, length-set l c 0))) (λ n. get_or-set_other l c p 0 0 n ∙ z) (same_or_not p c))

abbrev Zero : ℕ → List ℕ → Type 0
Zero c f = get_or f c 0 ≡ 0

abbrev Wide : List ℕ → Type 0
Wide f = length f ≡ elements * elements

module _ (givers : List ℕ) where
  from_zero : (c : ℕ) (f : List ℕ) (j : ℕ) → Zero c f → Zero c (taken_from givers f j)
  from_zero c f j z = each_keeps (Zero c) elements (dropping j) (set_at givers j) (λ s i h e y. zero_stays s (cell i j) c y) f z

  from_wide : (f : List ℕ) (j : ℕ) → Wide f → Wide (taken_from givers f j)
  from_wide f j l = each_keeps Wide elements (dropping j) (set_at givers j) (λ s i h e y. length-set s (cell i j) 0 ∙ y) f l

  from_hit : (p q : ℕ) → p < elements → q < elements → digit (set_at givers q) p ≡ 1 → (f : List ℕ) → Wide f → Zero (cell p q) (taken_from givers f q)
  from_hit p q hp hq e f l =
      each_reaches (Zero (cell p q)) Wide (dropping q) p (λ s i z. zero_stays s (cell i q) (cell p q) z) (λ s i y. length-set s (cell i q) 0 ∙ y)
      (λ s y. get_or-set_same s (cell p q) 0 0 (omega arith)) elements (set_at givers q) hp e f l

  module _ (f : List ℕ) (w : ℕ) (l : Wide f)
      (known : (p q : ℕ) → p < elements → q < elements → 0 < handed f p q → (digit w q ≡ 1) × (digit (set_at givers q) p ≡ 1)) where
    back_zero : (p q : ℕ) → p < elements → q < elements → Zero (cell p q) (taken_back givers f w)
    unfolding taken_back
    back_zero p q hp hq =
        ⊎_elim
        (λ z. each_keeps (Zero (cell p q)) elements (taken_from givers) w (λ s j h e y. from_zero (cell p q) s j y) f z)
        (λ n.
        let k = known p q hp hq (omega arith) in
        each_reaches (Zero (cell p q)) Wide (taken_from givers) q (λ s j z. from_zero (cell p q) s j z) (λ s j y. from_wide s j y)
        (λ s y. from_hit p q hp hq k.1 s y) elements w hq k.0 f l)
        (same_or_not (handed f p q) 0)

    back_wide : Wide (taken_back givers f w)
    unfolding taken_back
    back_wide = each_keeps Wide elements (taken_from givers) w (λ s j h e y. from_wide s j y) f l

    taken_back_lem : taken_back givers f w ≡ unused
    unfolding unused
    taken_back_lem =
        ext_get_or 0 (taken_back givers f w) (replicate (elements * elements) 0) (back_wide ∙ sym unused_long)
        (λ c h.
        let i = c / elements in
        let j = c % elements in
        let e : c ≡ cell i j = omega arith in
        ap (λ (x : ℕ). get_or (taken_back givers f w) x 0) e ∙ back_zero i j (omega (arith, back_wide)) (omega arith) ∙ sym (get_d_zeros (elements * elements) c))

-- ---- what a quote has handed over is taken back

module _ (m : ℕ) (rows demand : List ℕ) where
  abbrev s : Network
  s = (outcome m rows demand).now

  linked : Linked s
  unfolding outcome
  linked = solved_keeps Linked joined_linked shifted_linked m (elements * 65535) rows (ranked m rows) (untouched m demand) (untouched_linked m demand)

  -- who is given something has a giver
  pub taken_all : taken_back s.givers s.flow (leaders elements s.givers) ≡ unused
  taken_all =
      taken_back_lem s.givers s.flow (leaders elements s.givers) linked.wide
      (λ p q hp hq x.
      let e = (linked.says p q hp hq).1 x in
      (nonzero_bit (λ i. set_at s.givers i) elements q hq (λ z. omega (arith, e, ap (λ (y : ℕ). digit y p) z, digit_none p)), e))

  pub takes : {t : Network} {f : List ℕ} → t ≡ (outcome m rows demand).now
      → f ≡ taken_back t.givers t.flow (leaders elements t.givers) → f ≡ unused
  takes e a = a ∙ ap (λ (x : Network). taken_back x.givers x.flow (leaders elements x.givers)) e ∙ taken_all
