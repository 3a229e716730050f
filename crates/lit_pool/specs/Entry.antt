-- What callers see of a pool: a finite map from slots to entries.
use Rattle.std.specs.Prelude.{ℕ, List, [], Option, None, IsTrue, unwrap_or, swap, refl}
use Rattle.std.specs.Ordering.{nat_cmp}
use Rattle.std.specs.FinMap.{FinMap, get, insert, contains_key}
use Rattle.std.specs.Coded.{Coded, code_by, coded×, coded_list, coded_option, coded_ℕ}
use Rattle.lit_pool.specs.declared.Which.{Which}
use Rattle.lit_pool.specs.declared.Which.TheVariants.{One, Two}

-- an entry: its literals in order, and its two links
pub record Entry : Type 0 where
  pub lits : List ℕ
  pub one : Option ℕ
  pub two : Option ℕ

-- an entry is stored as its parts
abbrev pub entry_code : Coded Entry
entry_code =
    code_by (List ℕ × (Option ℕ × Option ℕ)) (coded× (coded_list coded_ℕ) (coded× (coded_option coded_ℕ) (coded_option coded_ℕ)))
    (λ e. (e.lits, (e.one, e.two))) (λ p. record { lits = p.0; one = p.1.0; two = p.1.1 }) (λ _. refl)

-- the pool: from each live slot to its entry
abbrev pub Entries : Type 0
Entries = FinMap nat_cmp Entry

-- the slot names an entry
abbrev pub IsLive : Entries → ℕ → Type 0
IsLive m s = IsTrue (contains_key m s)

-- an entry of these literals, with no links
abbrev pub new_entry : List ℕ → Entry
new_entry xs = record { lits = xs; one = None; two = None }

-- the entry at a slot, which is an empty one where the slot isn't live
abbrev pub entry_at : Entries → ℕ → Entry
entry_at m s = unwrap_or (get m s) (new_entry [])

abbrev pub lits_at : Entries → ℕ → List ℕ
lits_at m s = (entry_at m s).lits

-- the link of this name
abbrev pub link_of : Entry → Which → Option ℕ
link_of e One = e.one
link_of e Two = e.two

-- a link of the entry at a slot
abbrev pub link_at : Entries → ℕ → Which → Option ℕ
link_at m s which = link_of (entry_at m s) which

-- the entry with one link changed
abbrev pub relinked : Entry → Which → Option ℕ → Entry
relinked e One to = record { lits = e.lits; one = to; two = e.two }
relinked e Two to = record { lits = e.lits; one = e.one; two = to }

-- the pool with two literals of one entry exchanged
abbrev pub with_swap : Entries → ℕ → ℕ → ℕ → Entries
with_swap m s a b = let e = entry_at m s in insert m s (record { lits = swap e.lits a b; one = e.one; two = e.two })

-- the pool with one link of one entry changed
abbrev pub with_link : Entries → ℕ → Which → Option ℕ → Entries
with_link m s which to = insert m s (relinked (entry_at m s) which to)
