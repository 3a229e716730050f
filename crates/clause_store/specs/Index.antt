-- The index: pairs of a literal set's key and an id.
use Rattle.std.specs.Prelude.{ℕ, min, ◌+◌, ◌*◌, ◌/◌, ◌%◌, ◌^◌, Bool, false, nat_eq, ◌||◌, List, Option, None, Some}
use Rattle.std.specs.List.{sum_by}
use Rattle.std.specs.Map.{lookup}
use Rattle.clause_store.specs.declared.index.Pairs.{Pairs}
use Rattle.std.specs.declared.cmp.Ordering.{Ordering}
use Rattle.std.specs.Ordering.{nat_cmp, ordering_then}
use Rattle.std.specs.BTreeSet.{BTreeSet, contains}

-- the order of pairs: by key, and then by id
abbrev pub pair_cmp : ℕ × ℕ → ℕ × ℕ → Ordering
pair_cmp p q = ordering_then (nat_cmp p.0 q.0) (nat_cmp p.1 q.1)

-- whether a pair is in an ordered set of pairs
abbrev pub in_more : BTreeSet (ℕ × ℕ) → ℕ → ℕ → Bool
in_more s key id = contains pair_cmp s (key, id)

-- whether an id is the one that is given
abbrev pub is_given : Option ℕ → ℕ → Bool
is_given None id = false
is_given (Some i) id = nat_eq i id

-- the id that stands first at a key
abbrev pub first_of : List (ℕ × ℕ) → ℕ → Option ℕ
first_of es key = lookup (nat_eq key) es

-- whether a pair is in an index: its id stands first at its key, or among the further ones
abbrev pub has_pair : Pairs → ℕ → ℕ → Bool
has_pair s key id = is_given (first_of s.first.entries key) id || in_more s.more key id

-- a number times one more than its upper half
abbrev pub folded : ℕ → ℕ
folded x = (x * (x / 2 ^ 32 + 1)) % 2 ^ 64

-- a literal as a term of a key. Folded twice, since with one folding many small sets have one sum
unfoldable pub scrambled : ℕ → ℕ
scrambled l = folded (folded (((l + 1) * 6364136223846793005) % 2 ^ 64))

-- the key of a literal set, for any list that has each of its literals once: a sum, whatever their order
unfoldable pub key_of : List ℕ → ℕ
key_of ls = sum_by scrambled ls % 2 ^ 64

-- the lesser of two ids, of which each may be missing
abbrev pub least_of : Option ℕ → Option ℕ → Option ℕ
least_of None b = b
least_of (Some x) None = Some x
least_of (Some x) (Some y) = Some (min x y)
