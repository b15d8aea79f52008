-- Lists that are given by their elements.
use mathlib.Core.Path.{◌≡◌, refl, sym, ap, ◌∙◌}
use mathlib.Core.Bool.{cond}
use mathlib.Core.List.{List, ◌++◌}
use Prim.Native.Nat.{ℕ, zero, suc, ◌+◌, ◌≤◌, ◌<◌}
use native.Mathlib.Omega.{arith}
use native.Mathlib.Nat.{zero-add}
use native.Mathlib.Numerals.{add-one}
use lib.Dec.{ltb}
use lib.ListN.{length, get_or, set, take, drop, replicate, length-set, length-replicate}
use lib.Seq.{ext_get_or, get_or-set_same, get_or-set_other, paste-suc, length-take-le, take-length, take_at}
use borrow.Author.Count.{below_more}
use borrow.Author.Tests.{ltb-true, ltb-false}
use Rattle.words.specs.Tables.{table, over}
use Rattle.words.specs.model.Loops.{upto, update}
use Rattle.words.proofs.Tests.{below_suc, by_test, cond_true, cond_false}

pub length_table : {A : Type 0} (n : ℕ) (f : ℕ → A) → length (table n f) ≡ n
unfolding table
length_table zero f = refl
length_table (suc n) f = ap suc (length_table n (λ i. f (suc i)))

pub get_d_table : {A : Type 0} (n : ℕ) (f : ℕ → A) (i : ℕ) (d : A) → i < n → get_or (table n f) i d ≡ f i
unfolding table
get_d_table zero f i d h = absurd (omega arith)
get_d_table (suc n) f zero d h = refl
get_d_table (suc n) f (suc i) d h = get_d_table n (λ i. f (suc i)) i d (omega arith)

-- a list is a table if it is as long and agrees at each place
pub is_table : {A : Type 0} (n : ℕ) (f : ℕ → A) (l : List A) (d : A) → length l ≡ n → ((i : ℕ) → i < n → get_or l i d ≡ f i) → l ≡ table n f
is_table n f l d e at = ext_get_or d l (table n f) (e ∙ sym (length_table n f)) (λ i h. at i (omega arith) ∙ sym (get_d_table n f i d (omega arith)))

-- one store of a loop that fills a list from the front
pub stored_next :
    {A : Type 0} (d : A) (f : ℕ → A) (xs : List A) (i : ℕ) (v : A) → i < length xs
    → ((k : ℕ) → k < i → get_or xs k d ≡ f k) → v ≡ f i → (k : ℕ) → k < i + 1 → get_or (set xs i v) k d ≡ f k
stored_next {A} d f xs i v l h e =
    below_more (λ k. get_or (set xs i v) k d ≡ f k) i (λ k m. get_or-set_other xs i k v d (omega arith) ∙ h k m)
    (get_or-set_same xs i v d l ∙ e)

-- ---- a list written over the start of another

pub over_turn : (i : ℕ) (r d : List ℕ) → i < length r → i < length d → set (over i r d) i (get_or r i 0) ≡ over (i + 1) r d
over_turn i r d hr hd =
    let e : 0 + i < length d = omega arith in
    rw add-one (rw (zero-add i, zero-add (suc i)) at (paste-suc d 0 r i 0 e hr))

-- what is written over one front, and then from there over another
pub over_again : (n : ℕ) (r z d : List ℕ) → n ≤ length r → over n (over n r z) d ≡ over n r d
over_again n r z d h = ap (λ (l : List ℕ). l ++ drop n d) (take_at (take n r) (drop n z) n (length-take-le n r h))

-- the whole of r is written
pub over_all : (n : ℕ) (r d : List ℕ) → length r ≡ n → over n r d ≡ r ++ drop (length r) d
over_all n r d e = rw (← e, take-length)

-- ---- a list whose elements a loop replaces, one after the other

-- of the list `old`, the elements below i are replaced, and the others are as they were
record Updating (f : ℕ → ℕ → ℕ) (old : List ℕ) (i : ℕ) (now : List ℕ) : Type 0 where
  long : length now ≡ length old
  done : (k : ℕ) → k < i → get_or now k 0 ≡ f k (get_or old k 0)
  left : (k : ℕ) → i ≤ k → get_or now k 0 ≡ get_or old k 0

updating : (f : ℕ → ℕ → ℕ) (old : List ℕ) (i : ℕ) → i ≤ length old → Updating f old i (upto (update f) i old)
unfolding upto
updating f old zero h = record { long = refl; done = λ k l. absurd (omega arith); left = λ k l. refl }
updating f old (suc i) h = go (upto (update f) i old) (updating f old i (omega arith))
  where
    go : (now : List ℕ) → Updating f old i now → Updating f old (suc i) (update f i now)
    go now u =
        let l : i < length now = omega (arith, u.long) in
        record {
          long = length-set now i (f i (get_or now i 0)) ∙ u.long;
          done =
              below_suc (λ k. get_or (update f i now) k 0 ≡ f k (get_or old k 0)) i
              (λ k m. get_or-set_other now i k (f i (get_or now i 0)) 0 (omega arith) ∙ u.done k m)
              (get_or-set_same now i (f i (get_or now i 0)) 0 l ∙ ap (f i) (u.left i (omega arith)));
          left = λ k m. get_or-set_other now i k (f i (get_or now i 0)) 0 (omega arith) ∙ u.left k (omega arith);
        }

-- at the end they all are
pub updated : (f : ℕ → ℕ → ℕ) (n : ℕ) (old : List ℕ) → length old ≡ n → upto (update f) n old ≡ table n (λ i. f i (get_or old i 0))
updated f n old e =
    let u = updating f old n (omega arith) in
    is_table n (λ i. f i (get_or old i 0)) (upto (update f) n old) 0 (u.long ∙ e) u.done

-- tables of the same elements
pub table_same : (n : ℕ) (f g : ℕ → ℕ) → ((i : ℕ) → i < n → f i ≡ g i) → table n f ≡ table n g
table_same n f g same = is_table n g (table n f) 0 (length_table n f) (λ i h. get_d_table n f i 0 h ∙ same i h)

-- zeros, also past the end
pub get_d_zeros : (n i : ℕ) → get_or {A = ℕ} (replicate n 0) i 0 ≡ 0
get_d_zeros zero i = refl
get_d_zeros (suc n) zero = refl
get_d_zeros (suc n) (suc i) = get_d_zeros n i

-- ---- a list of n zeros, into which a loop stores f 0, f 1, .., f (i - 1) at the start

record Storing (f : ℕ → ℕ) (n i : ℕ) (now : List ℕ) : Type 0 where
  long : length now ≡ n
  done : (k : ℕ) → k < i → get_or now k 0 ≡ f k
  left : (k : ℕ) → i ≤ k → get_or now k 0 ≡ 0

storing : (f : ℕ → ℕ) (n i : ℕ) → i ≤ n → Storing f n i (upto (λ k l. set l k (f k)) i (replicate n 0))
unfolding upto
storing f n zero h = record { long = length-replicate {A = ℕ} n 0; done = λ k l. absurd (omega arith); left = λ k l. get_d_zeros n k }
storing f n (suc i) h = go (upto (λ k l. set l k (f k)) i (replicate n 0)) (storing f n i (omega arith))
  where
    go : (now : List ℕ) → Storing f n i now → Storing f n (suc i) (set now i (f i))
    go now u =
        record {
          long = length-set now i (f i) ∙ u.long;
          done =
              below_suc (λ k. get_or (set now i (f i)) k 0 ≡ f k) i
              (λ k m. get_or-set_other now i k (f i) 0 (omega arith) ∙ u.done k m)
              (get_or-set_same now i (f i) 0 (omega (arith, u.long)));
          left = λ k m. get_or-set_other now i k (f i) 0 (omega arith) ∙ u.left k (omega arith);
        }

-- it is the table of f up to i, and of zeros from there on
pub stored : (f : ℕ → ℕ) (n i : ℕ) → i ≤ n → upto (λ k l. set l k (f k)) i (replicate n 0) ≡ table n (λ k. cond (ltb k i) (f k) 0)
stored f n i h =
    let u = storing f n i h in
    is_table n (λ k. cond (ltb k i) (f k) 0) (upto (λ k l. set l k (f k)) i (replicate n 0)) 0 u.long
    (λ k l. by_test (ltb k i) (λ t. u.done k (ltb-true k i t) ∙ sym (cond_true (f k) 0 t)) (λ t. u.left k (ltb-false k i t) ∙ sym (cond_false (f k) 0 t)))
