-- Faults that are listed line by line, in the order of their keys: the first in the list is the one with the least key.
use Rattle.std.proofs.Common.{◌≡◌, ℕ, suc, ◌≤◌, ◌⊎◌, List, [], ◌∷◌, ◌++◌, length, map, take, drop, Contains, slice_get, Some, Result, Ok, Err, refl, sym, ◌∙◌, ap, subst, inl, inr, arith}
use Rattle.std.proofs.lemmas.Option.{slice_get_within}
use Rattle.lits.proofs.Members.{here, not_in_nil, here_or_there}
use Rattle.session_rules.specs.declared.Rule.{Rule}
use Rattle.session_rules.specs.Lines.{Line}
use Rattle.session_rules.specs.Reading.{Fault, value_of}
use Rattle.session_rules.specs.Pair.{Refusal}
use Rattle.session_rules.specs.Keys.{Key, rank, IsAtMost}
use Rattle.session_rules.specs.Verdicts.{IsFirstBy, IsFirst, HasNone}
use Rattle.session_rules.proofs.Positions.{le_cases, get_same, take_next, take_all, get_dropped, drop_all, said, said_within, said_stops, said_next}
use Rattle.session_rules.proofs.Ascending.{at_most_same, KeysAscend, keys_unique}

-- ---- The first of a list

-- the list's first is the first fault, and the list is empty where there is none; here faults go by the numbers of their keys
abbrev pub First : (List ℕ → Refusal → Type 0) → List Refusal → Type 0
First Faults [] = HasNone Faults
First Faults (r ∷ more) = IsFirstBy (λ ns. ns) Faults r

-- faults by the numbers of their keys
abbrev pub Ranked : (Key → Refusal → Type 0) → List ℕ → Refusal → Type 0
Ranked Faults ns r = (key : Key) × (rank key ≡ ns) × Faults key r

pub ranked : (Faults : Key → Refusal → Type 0) (ns : List ℕ) (key : Key) (r s : Refusal) → ns ≡ rank key → r ≡ s → Faults key s → Ranked Faults ns r
ranked Faults ns key r s e f h = (key, sym e, subst (λ z. Faults key z) (sym f) h)

-- the first by numbers is the first
pub first_ranked : (Faults : Key → Refusal → Type 0) (r : Refusal) → IsFirstBy (λ ns. ns) (Ranked Faults) r → IsFirst Faults r
first_ranked Faults r h = record {
  key = h.is_fault.0;
  is_fault = h.is_fault.2;
  is_least = λ other s f. subst (λ z. IsAtMost z (rank other)) (sym h.is_fault.1) (h.is_least (rank other) s (other, refl, f));
}

pub none_ranked : (Faults : Key → Refusal → Type 0) → HasNone (Ranked Faults) → HasNone Faults
none_ranked Faults h key r f = h (rank key) r (key, refl, f)

-- under another name of the same faults
pub first_same : (P Q : List ℕ → Refusal → Type 0) (rs : List Refusal) → ((key : List ℕ) (r : Refusal) → P key r → Q key r) → ((key : List ℕ) (r : Refusal) → Q key r → P key r) → First P rs → First Q rs
first_same P Q [] f g h = λ key r q. h key r (g key r q)
first_same P Q (r ∷ more) f g h = record { key = h.key; is_fault = f h.key r h.is_fault; is_least = λ other s q. h.is_least other s (g other s q) }

-- faults before other faults
pub first_join : (P Q : List ℕ → Refusal → Type 0) (rs qs : List Refusal) → ((key other : List ℕ) (r s : Refusal) → P key r → Q other s → IsAtMost key other)
    → First P rs → First Q qs → First (λ key r. P key r ⊎ Q key r) (rs ++ qs)
first_join P Q [] [] order f g = λ key r h. elim h [ inl p ↦ f key r p | inr q ↦ g key r q ]
first_join P Q [] (q ∷ qs) order f g = record {
  key = g.key;
  is_fault = inr g.is_fault;
  is_least = λ other s h. elim h [ inl p ↦ absurd (f other s p) | inr x ↦ g.is_least other s x ];
}
first_join P Q (r ∷ rs) qs order f g = record {
  key = f.key;
  is_fault = inl f.is_fault;
  is_least = λ other s h. elim h [ inl p ↦ f.is_least other s p | inr x ↦ order f.key other r s f.is_fault x ];
}

-- ---- Faults that are listed line by line

-- the faults of line k
abbrev Here : ℕ → List (List ℕ × Refusal) → List ℕ → Refusal → Type 0
Here k es key r = (rest : List ℕ) × (key ≡ 3 ∷ k ∷ rest) × Contains es (rest, r)

at_line : (k : ℕ) (ns ms key : List ℕ) → key ≡ 3 ∷ k ∷ ms → IsAtMost ns ms → IsAtMost (3 ∷ k ∷ ns) key
at_line k ns ms key e h = subst (λ z. IsAtMost (3 ∷ k ∷ ns) z) (sym e) (inr (refl, inr (refl, h)))

first_here : (k : ℕ) (es : List (List ℕ × Refusal)) → KeysAscend es → First (Here k es) (map (λ e. e.1) es)
unfolding KeysAscend
first_here k [] b = λ key r h. not_in_nil (h.0, r) h.2
first_here k (e ∷ es) b = record {
  key = 3 ∷ k ∷ e.0;
  is_fault = (e.0, refl, here e es);
  is_least = λ other s h. elim (here_or_there e (h.0, s) es h.2) [
    | inl is ↦ at_line k e.0 h.0 other h.1 (at_most_same e.0 h.0 (ap (λ (z : List ℕ × Refusal). z.0) (sym is)))
    | inr later ↦ at_line k e.0 h.0 other h.1 (b.0 (h.0, s) later).0
  ];
}

-- a fault of line k, behind lines that say steps
pub record AtLine {S : Type 0} (read : List (List ℕ) → Result S Fault) (entries : List S → Line → List (List ℕ × Refusal)) (ls : List Line) (key : List ℕ) (r : Refusal) : Type 0 where
  pub place : ℕ
  pub rest : List ℕ
  pub line : Line
  pub is_key : key ≡ 3 ∷ place ∷ rest
  pub within : place ≤ length (said read ls)
  pub is_line : slice_get ls place ≡ Some line
  pub member : Contains (entries (take place (said read ls)) line) (rest, r)

-- a fault at the end, where all lines say steps
pub record AtEnd {S : Type 0} (read : List (List ℕ) → Result S Fault) (Last : List ℕ → Refusal → Type 0) (ls : List Line) (key : List ℕ) (r : Refusal) : Type 0 where
  pub whole : length (said read ls) ≡ length ls
  pub last : Last key r

module _ {S : Type 0} (read : List (List ℕ) → Result S Fault) (entries : List S → Line → List (List ℕ × Refusal)) (ls : List Line)
    (ascend : (ps : List S) (line : Line) → KeysAscend (entries ps line))
    (Last : List ℕ → Refusal → Type 0) (last_key : (key : List ℕ) (r : Refusal) → Last key r → IsAtMost (4 ∷ []) key) where
  abbrev pub Listed : List ℕ → Refusal → Type 0
  Listed key r = AtLine read entries ls key r ⊎ AtEnd read Last ls key r

  -- one fault a key
  pub listed_unique : ((key : List ℕ) (r s : Refusal) → Last key r → Last key s → r ≡ s) → (key : List ℕ) (r s : Refusal) → Listed key r → Listed key s → r ≡ s
  listed_unique unique key r s (inl f) (inl g) =
      let keys : 3 ∷ f.place ∷ f.rest ≡ 3 ∷ g.place ∷ g.rest = sym f.is_key ∙ g.is_key in
      let places : g.place ≡ f.place = cc keys in let rests : g.rest ≡ f.rest = cc keys in
      let at : slice_get ls f.place ≡ Some g.line = subst (λ k. slice_get ls k ≡ Some g.line) places g.is_line in
      let lines : g.line ≡ f.line = get_same ls f.place _ _ at f.is_line in
      let member : Contains (entries (take f.place (said read ls)) f.line) (f.rest, s) =
      subst (λ k. Contains (entries (take k (said read ls)) f.line) (f.rest, s)) places
      (subst (λ l. Contains (entries (take g.place (said read ls)) l) (f.rest, s)) lines
      (subst (λ n. Contains (entries (take g.place (said read ls)) g.line) (n, s)) rests g.member)) in
      keys_unique f.rest _ r s (ascend _ _) f.member member
  listed_unique unique key r s (inl f) (inr g) = absurd (elim (subst (λ z. IsAtMost (4 ∷ []) z) f.is_key (last_key key s g.last)) [ inl lt ↦ omega arith | inr e ↦ omega (arith, e.0) ])
  listed_unique unique key r s (inr f) (inl g) = absurd (elim (subst (λ z. IsAtMost (4 ∷ []) z) g.is_key (last_key key r f.last)) [ inl lt ↦ omega arith | inr e ↦ omega (arith, e.0) ])
  listed_unique unique key r s (inr f) (inr g) = unique key r s f.last g.last

  -- no listed fault comes before the lines
  pub listed_key : (key : List ℕ) (r : Refusal) → Listed key r → IsAtMost (3 ∷ []) key
  listed_key key r (inl f) = subst (λ z. IsAtMost (3 ∷ []) z) (sym f.is_key) (inr (refl, tt))
  listed_key key r (inr f) = before_end key (last_key key r f.last)
    where
      before_end : (key : List ℕ) → IsAtMost (4 ∷ []) key → IsAtMost (3 ∷ []) key
      before_end [] h = absurd h
      before_end (m ∷ ms) h = inl (elim h [ inl lt ↦ omega (arith, lt) | inr e ↦ omega (arith, e.0) ])

  -- the faults from line k on
  abbrev From : ℕ → List ℕ → Refusal → Type 0
  From k key r = Listed key r × IsAtMost (3 ∷ k ∷ []) key

  place_from : (k : ℕ) (key : List ℕ) (r : Refusal) (f : AtLine read entries ls key r) → IsAtMost (3 ∷ k ∷ []) key → k ≤ f.place
  place_from k key r f h = elim (subst (λ z. IsAtMost (3 ∷ k ∷ []) z) f.is_key h) [
    | inl lt ↦ absurd (omega arith)
    | inr e ↦ elim e.1 [ inl lt ↦ omega (arith, lt) | inr same ↦ omega (arith, same.0) ]
  ]

  from_key : (k : ℕ) (rest : List ℕ) (j : ℕ) (key : List ℕ) → key ≡ 3 ∷ j ∷ rest → k ≤ j → IsAtMost (3 ∷ k ∷ []) key
  from_key k rest j key e h = subst (λ z. IsAtMost (3 ∷ k ∷ []) z) (sym e) (inr (refl, elim (le_cases k j h) [ inl lt ↦ inl lt | inr same ↦ inr (same, tt) ]))

  end_after : (k : ℕ) (key : List ℕ) → IsAtMost (4 ∷ []) key → IsAtMost (3 ∷ k ∷ []) key
  end_after k [] h = absurd h
  end_after k (n ∷ ns) h = inl (elim h [ inl lt ↦ omega (arith, lt) | inr e ↦ omega (arith, e.0) ])

  here_from : (k : ℕ) (line : Line) → k ≤ length (said read ls) → slice_get ls k ≡ Some line → (key : List ℕ) (r : Refusal) → Here k (entries (take k (said read ls)) line) key r → From k key r
  here_from k line h e key r f = (inl (record { place = k; rest = f.0; line = line; is_key = f.1; within = h; is_line = e; member = f.2 }), from_key k f.0 k key f.1 (omega arith))

  -- a fault of line k itself
  here_at : (k : ℕ) (line : Line) → slice_get ls k ≡ Some line → (key : List ℕ) (r : Refusal) (f : AtLine read entries ls key r) → f.place ≡ k → Here k (entries (take k (said read ls)) line) key r
  here_at k line e key r f same =
      let at : slice_get ls k ≡ Some f.line = subst (λ j. slice_get ls j ≡ Some f.line) same f.is_line in
      let lines : f.line ≡ line = get_same ls k _ _ at e in (
        f.rest,
        subst (λ j. key ≡ 3 ∷ j ∷ f.rest) same f.is_key,
        subst (λ l. Contains (entries (take k (said read ls)) l) (f.rest, r)) lines (subst (λ j. Contains (entries (take j (said read ls)) f.line) (f.rest, r)) same f.member),
      )

  -- at a line that is broken
  from_broken : (k : ℕ) (line : Line) (rule : Rule) → k ≤ length (said read ls) → slice_get ls k ≡ Some line → value_of read line ≡ Err rule
      → (key : List ℕ) (r : Refusal) → From k key r → Here k (entries (take k (said read ls)) line) key r
  from_broken k line rule h e v key r (inl f, order) =
      let stops = said_stops read ls k line rule h e v in
      here_at k line e key r f (omega (arith, place_from k key r f order, f.within, stops))
  from_broken k line rule h e v key r (inr f, order) = absurd (omega (arith, said_stops read ls k line rule h e v, f.whole, slice_get_within ls k line e))

  -- at a line that says a step
  from_step : (k : ℕ) (line : Line) → slice_get ls k ≡ Some line → (key : List ℕ) (r : Refusal) → From k key r
      → Here k (entries (take k (said read ls)) line) key r ⊎ From (suc k) key r
  from_step k line e key r (inl f, order) = elim (le_cases k f.place (place_from k key r f order)) [
    | inl lt ↦ inr (inl f, from_key (suc k) f.rest f.place key f.is_key (omega (arith, lt)))
    | inr same ↦ inl (here_at k line e key r f (sym same))
  ]
  from_step k line e key r (inr f, order) = inr (inr f, end_after (suc k) key (last_key key r f.last))

  from_next : (k : ℕ) (key : List ℕ) (r : Refusal) → From (suc k) key r → From k key r
  from_next k key r (inl f, order) = (inl f, from_key k f.rest f.place key f.is_key (omega (arith, place_from (suc k) key r f order)))
  from_next k key r (inr f, order) = (inr f, end_after k key (last_key key r f.last))

  here_before : (k : ℕ) (es : List (List ℕ × Refusal)) (key other : List ℕ) (r s : Refusal) → Here k es key r → From (suc k) other s → IsAtMost key other
  here_before k es key other r s h (inl f, order) = subst (λ z. IsAtMost key z) (sym f.is_key)
      (subst (λ z. IsAtMost z (3 ∷ f.place ∷ f.rest)) (sym h.1) (inr (refl, inl (omega (arith, place_from (suc k) other s f order)))))
  here_before k es key other r s h (inr f, order) = subst (λ z. IsAtMost z other) (sym h.1) (before_end h.0 k other (last_key other s f.last))
    where
      before_end : (rest : List ℕ) (j : ℕ) (key : List ℕ) → IsAtMost (4 ∷ []) key → IsAtMost (3 ∷ j ∷ rest) key
      before_end rest j [] h = absurd h
      before_end rest j (m ∷ ms) h = inl (elim h [ inl lt ↦ omega (arith, lt) | inr e ↦ omega (arith, e.0) ])

  -- a list of refusals, line by line, behind these steps
  module _ (list : List S → List Line → List Refusal) (tail : List S → List Refusal)
      (list_end : (ps : List S) → list ps [] ≡ tail ps)
      (list_ok : (ps : List S) (line : Line) (more : List Line) (p : S) → value_of read line ≡ Ok p → list ps (line ∷ more) ≡ map (λ e. e.1) (entries ps line) ++ list (ps ++ p ∷ []) more)
      (list_err : (ps : List S) (line : Line) (more : List Line) (r : Rule) → value_of read line ≡ Err r → list ps (line ∷ more) ≡ map (λ e. e.1) (entries ps line))
      (tail_first : First Last (tail (said read ls))) where
    at_end : (k : ℕ) → drop k ls ≡ [] → k ≤ length (said read ls) → First (From k) (list (take k (said read ls)) [])
    at_end k e h =
        let past = drop_all ls k e in
        let whole : length (said read ls) ≡ length ls = omega (arith, said_within read ls, past, h) in
        let all : take k (said read ls) ≡ said read ls = take_all (said read ls) k (omega (arith, said_within read ls, past)) in
        subst (λ zs. First (From k) zs) (sym (ap (λ zs. list zs []) all ∙ list_end (said read ls)))
        (first_same Last (From k) (tail (said read ls)) (λ key r f. (inr (record { whole = whole; last = f }), end_after k key (last_key key r f)))
        (λ key r f. last_at past key r f.0 f.1) tail_first)
      where
        last_at : length ls ≤ k → (key : List ℕ) (r : Refusal) → Listed key r → IsAtMost (3 ∷ k ∷ []) key → Last key r
        last_at past key r (inl f) order = absurd (omega (arith, place_from k key r f order, slice_get_within ls f.place f.line f.is_line, past))
        last_at past key r (inr f) order = f.last

    at_value : (k : ℕ) (line : Line) (more : List Line) → slice_get ls k ≡ Some line → k ≤ length (said read ls)
        → ((p : S) → slice_get (said read ls) k ≡ Some p → First (From (suc k)) (list (take (suc k) (said read ls)) more))
        → (o : Result S Rule) → value_of read line ≡ o → First (From k) (list (take k (said read ls)) (line ∷ more))
    at_value k line more e h next (Err rule) v = subst (λ zs. First (From k) zs) (sym (list_err _ line more rule v))
        (first_same (Here k (entries (take k (said read ls)) line)) (From k) _ (here_from k line h e) (from_broken k line rule h e v) (first_here k _ (ascend _ line)))
    at_value k line more e h next (Ok p) v =
        let at = said_next read ls k line p h e v in
        let rest : First (From (suc k)) (list (take k (said read ls) ++ p ∷ []) more) = subst (λ zs. First (From (suc k)) (list zs more)) (take_next (said read ls) k p at) (next p at) in
        subst (λ zs. First (From k) zs) (sym (list_ok _ line more p v))
        (first_same (λ key r. Here k (entries (take k (said read ls)) line) key r ⊎ From (suc k) key r) (From k) _
        (λ key r f. elim f [ inl g ↦ here_from k line h e key r g | inr g ↦ from_next k key r g ])
        (from_step k line e)
        (first_join (Here k (entries (take k (said read ls)) line)) (From (suc k)) _ _ (here_before k (entries (take k (said read ls)) line)) (first_here k _ (ascend _ line)) rest))

    first_from : (rest : List Line) (k : ℕ) → drop k ls ≡ rest → k ≤ length (said read ls) → First (From k) (list (take k (said read ls)) rest)
    first_from [] k e h = at_end k e h
    first_from (line ∷ more) k e h = let at = get_dropped ls k line more e in
        at_value k line more at.0 h (λ p is. first_from more (suc k) at.1 (omega (arith, slice_get_within (said read ls) k p is))) (value_of read line) refl

    -- the list's first is the first of the faults
    pub first_listed : First Listed (list [] ls)
    first_listed = first_same (From 0) Listed _ (λ key r f. f.0) (λ key r f. (f, all_from key r f)) (first_from ls 0 refl (omega arith))
      where
        all_from : (key : List ℕ) (r : Refusal) → Listed key r → IsAtMost (3 ∷ 0 ∷ []) key
        all_from key r (inl f) = from_key 0 f.rest f.place key f.is_key (omega arith)
        all_from key r (inr f) = end_after 0 key (last_key key r f.last)
