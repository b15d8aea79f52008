-- `halves::places_word` meets its contract. The invariant: both halves have the places passed.
use Rattle.std.proofs.Common.{◌≡◌, ℕ, ◌+◌, ◌*◌, ◌%◌, ◌^◌, ◌≤◌, List, drop, sym, refl, ap, ◌∙◌, mod-eq_of_lt, arith}
use lib.Bits.{bit_or, or_shifted}
use Rattle.order.specs.Stored.{elements}
use Rattle.order.specs.model.Places.{positive}
use Rattle.order.proofs.Nonzero.{nonzero_start, positive_more, positive_front, positive_fits, positive_cat, positive_first}
use Rattle.order.proofs.halves.places_word.Goals as goal

pub loop-i-init : goal.loop-i-init
loop-i-init c = (nonzero_start _, nonzero_start _)

pub loop-i-preserved : goal.loop-i-preserved
loop-i-preserved c =
    let l = c.loop-i in (
      positive_more _ l.i l.low _ _ l.invariant.0 c.half_bit-low.ensures refl,
      positive_more _ l.i l.high _ _ l.invariant.1 c.half_bit-high.ensures refl,
    )

-- both halves in a word, and the first m places of it
word : (a : List ℕ) (m low high r : ℕ) → m ≤ elements → low ≡ positive 32 a → high ≡ positive 32 (drop 32 a) → r ≡ bit_or (high * 2 ^ 32 % 2 ^ 64) low % 2 ^ m → r ≡ positive m a
word a m low high r hm el eh q =
    let fl = positive_fits 32 a in
    let fh = positive_fits 32 (drop 32 a) in
    let small : high * 2 ^ 32 % 2 ^ 64 ≡ high * 2 ^ 32 = mod-eq_of_lt (omega (arith, fh, eh)) in
    let e : bit_or (high * 2 ^ 32 % 2 ^ 64) low ≡ positive 64 a =
    ap (λ (x : ℕ). bit_or x low) small ∙ or_shifted high 32 low (omega (arith, fl, el)) ∙ ap (λ (x : ℕ). x * 2 ^ 32 + low) eh ∙ ap (λ (x : ℕ). positive 32 (drop 32 a) * 2 ^ 32 + x) el
    ∙ sym (positive_cat 32 32 a) in
    q ∙ ap (λ (x : ℕ). x % 2 ^ m) e ∙ positive_first 64 m hm a

pub returns : goal.returns
returns c =
    let l = c.loop-i in
    let a = c.args.a.now in
    let end : l.i ≡ 32 = omega (arith, c.split_at.ensures.front_len) in
    let at = λ (xs : List ℕ). ap (λ (x : ℕ). positive x xs) end in
    word a c.args.m _ _ _ c.requires
    (c.from-2.ensures ∙ l.invariant.0 ∙ at _ ∙ ap (positive 32) c.split_at.ensures.front ∙ positive_front 32 a 32 (omega arith))
    (c.from.ensures ∙ l.invariant.1 ∙ at _ ∙ ap (positive 32) c.split_at.ensures.back) c.lowest_bits.ensures
