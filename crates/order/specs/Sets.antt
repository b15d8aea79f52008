-- Sets of elements, as the numbers that they mean.
use Rattle.std.specs.Prelude.{ℕ, ◌^◌, Bool, nat_lt, bit_and, bit_or, List, Option}
use Rattle.std.specs.Bool.{then_some}
use Rattle.words.specs.Bits.{bit, with_bit, minus, rest}
use Rattle.words.specs.Members.{count, first}
use Rattle.words.specs.Listing.{members}
use Rattle.order.specs.declared.Set.{Set}
use Rattle.order.specs.Stored.{elements, number_of, set_of}

-- "A set is a 64-bit word, bit i−1 for activity i" (01, Need and overload): whether the element i, which is
-- activity i + 1, is a member
abbrev pub member : Set → ℕ → Bool
member s i = bit (number_of s) i

-- "the set without activities": `Set::EMPTY`
abbrev pub empty_set : Set
empty_set = set_of 0

abbrev pub with_element : Set → ℕ → Set
with_element s i = set_of (with_bit (number_of s) i)

abbrev pub without_element : Set → ℕ → Set
without_element s i = set_of (minus (number_of s) (2 ^ i))

abbrev pub union_of : Set → Set → Set
union_of s t = set_of (bit_or (number_of s) (number_of t))

abbrev pub meet_of : Set → Set → Set
meet_of s t = set_of (bit_and (number_of s) (number_of t))

abbrev pub minus_of : Set → Set → Set
minus_of s t = set_of (minus (number_of s) (number_of t))

-- "its size is the count of ones" (01, Need and overload): how many members
abbrev pub size_of : Set → ℕ
size_of s = count elements (member s)

-- the lowest member, which a listing of the members begins with; the number of elements where there is none
abbrev pub lowest_of : Set → ℕ
lowest_of s = first elements (member s)

-- a number below the number of elements, or none: how code hands out a first element, where the number of
-- elements stands for none
unfoldable pub found : ℕ → Option ℕ
found i = then_some (nat_lt i elements) i

-- the set without its lowest member: with what a listing goes on
abbrev pub without_lowest : Set → Set
without_lowest s = set_of (rest (number_of s))

-- the members, ascending: what a loop over a set goes through
unfoldable pub listed : Set → List ℕ
listed s = members elements (number_of s)
