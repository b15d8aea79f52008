-- The parents of the givers as the numbers of the model: `takers_of` goes along with a search and with a walk back.
use Rattle.std.proofs.Common.{◌≡◌, ℕ, ◌%◌, ◌<◌, ◌≤◌, Option, Some, None, List, [], ◌∷◌}
use Rattle.std.proofs.Common.{length, map, get_or, set, replicate, refl, ap, ◌∙◌, mod-eq_of_lt, arith}
use Rattle.std.proofs.lemmas.List.{map-set, get_or-map}
use Rattle.words.specs.Listing.{members}
use Rattle.words.specs.model.Loops.{each, fold}
use Rattle.order.specs.Stored.{elements}
use Rattle.solver.specs.model.Search.{taker_of, takers_of, marks, put}
use Rattle.solver.specs.model.Network.{Network, Walk, walk, source, back, shifted}
use Rattle.solver.specs.model.Solve.{blanks}
use Rattle.solver.proofs.Digits.{masked}

put_led : (v : Option ℕ) (bs : List ℕ) (ps : List (Option ℕ))
    → map taker_of (fold (put v) ps bs) ≡ fold (put (taker_of v)) (map taker_of ps) bs
put_led v [] ps = refl
put_led v (b ∷ bs) ps =
    put_led v bs (set ps b v) ∙ ap (λ (x : List ℕ). fold (put (taker_of v)) x bs) (map-set taker_of ps b v)

-- each member of w gets the taker j as its parent
pub marks_led : (ps : List (Option ℕ)) (w j : ℕ) → j < elements → {qs : List (Option ℕ)} → qs ≡ marks ps w (Some j)
    → takers_of qs ≡ marks (takers_of ps) w j
unfolding each takers_of
marks_led ps w j h e = ap (map taker_of) e ∙ put_led (Some j) (members elements w) ps
    ∙ ap (λ (x : ℕ). fold (put x) (map taker_of ps) (members elements w)) (mod-eq_of_lt h)

-- where a search begins no giver has one
pub none_led : takers_of (replicate elements None) ≡ blanks elements
unfolding blanks takers_of
none_led = refl

module _ (ps : List (Option ℕ)) (i : ℕ) (h : i < length ps) where
  led_as : get_or (takers_of ps) i 0 ≡ taker_of (get_or ps i None)
  unfolding takers_of
  led_as = get_or-map taker_of ps i None 0 h

  pub led_none : get_or ps i None ≡ None → elements ≤ get_or (takers_of ps) i 0
  led_none e = rw (led_as, e) (omega arith)

  led_some : {p : ℕ} → get_or ps i None ≡ Some p → get_or (takers_of ps) i 0 ≡ p % elements
  led_some e = led_as ∙ ap taker_of e

  pub led_below : {p : ℕ} → get_or ps i None ≡ Some p → get_or (takers_of ps) i 0 < elements
  led_below {p} e = rw (led_some e) (masked p)

-- a walk goes back to it
pub led_back : (ps : List (Option ℕ)) (rights : List ℕ) (w : Walk) {p : ℕ} {s : Network} → source rights w < length ps
    → get_or ps (source rights w) None ≡ Some p → s ≡ shifted w.now (source rights w) (p % elements) w.at
    → walk s (p % elements) ≡ back (takers_of ps) rights w
led_back ps rights w {p} h e t = rw (led_some ps (source rights w) h e) (ap (λ (x : Network). walk x (p % elements)) t)
