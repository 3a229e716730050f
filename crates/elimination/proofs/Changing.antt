-- Clauses of which one changes, by their standings: what stays, and what is listed where it becomes irredundant.
use Rattle.std.proofs.Common.{◌≡◌, ◌≢◌, ℕ, ◌+◌, ◌*◌, ◌<◌, ◌≤◌, ◌^◌, ◌⊎◌, Bool, true, false, nat_eq, List, [], ◌∷◌, ◌++◌, length, map, Contains, Option, Some, None, is_some, refl, sym, ap, ◌∙◌, subst, inl, inr, arith, eq-eqb}
use Rattle.std.specs.Prelude.{option_map, IsPermutation}
use Rattle.std.specs.List.{IsDistinct}
use Rattle.std.specs.FinMap as finmap
use Rattle.std.proofs.lemmas.Bool.{cases_Bool, both_ways}
use Rattle.std.proofs.lemmas.Option.{same_Some, none-some}
use Rattle.std.proofs.lemmas.List.Sorted.{IsPermutation-middle, IsPermutation-sym}
use Rattle.std.proofs.lemmas.Map.Keys.{IsDistinct-head, IsDistinct-tail, IsDistinct-IsPermutation}
use Rattle.lits.specs.Literal.{var}
use Rattle.lits.specs.Clause.{has, set_of, same_set, is_tautology}
use Rattle.lits.proofs.Members.{here, has_at}
use Rattle.lits.proofs.Ascending.{set_of_at, same_set-set_of}
use Rattle.lits.proofs.Sets.{tautology-same}
use Rattle.propagation.specs.Clauses.{Clauses, active_at, literals_at}
use Rattle.propagation.specs.Engine.{EngineView, HasRoomFor, level_after}
use Rattle.propagation.proofs.Changes.{cases}
use Rattle.elimination_laws.specs.Eligible.{how_many}
use Rattle.occurrence_lists.specs.Occurring.{AreListed, IsAdded, IsRemoved, StandsFor, Numbered}
use Rattle.occurrence_lists.proofs.Standing.{added, removed, reordered}
use Rattle.elimination.specs.declared.database.Database.{Database}
use Rattle.elimination.specs.Boards.{AreIrredundant}
use Rattle.elimination.specs.Steps.{Standing, standing}
use Rattle.elimination.specs.Known.{AreListedBy, numbered_in}
use Rattle.elimination.specs.Inside.{IsInserted}
use Rattle.elimination.specs.Databases.{IsDatabase, irredundant_of}
use Rattle.elimination.proofs.Admitting.{map-same, middle_at, middle_old, map-middle, map-parts, count_middle, inserted_once}
use Rattle.elimination.proofs.Admitting.{flips as swaps}
use Rattle.elimination.proofs.Restored.{all_rec_at}
use Rattle.elimination.proofs.Standings.{key-by, active-by, same_literals, same_active, same_key, active_from, literals_from}

-- what was there stays where an id comes between
pub member_old : (ids new : List ℕ) (n : ℕ) → IsInserted ids n new → (id : ℕ) → Contains ids id → Contains new id
member_old ids new n i id m = subst (λ z. Contains z id) (sym i.after) (middle_old i.front i.back n id (subst (λ z. Contains z id) i.before m))

pub member_at : (ids new : List ℕ) (n : ℕ) → IsInserted ids n new → (id : ℕ) → Contains new id → (id ≡ n) ⊎ Contains ids id
member_at ids new n i id m = elim (middle_at i.front i.back n id (subst (λ z. Contains z id) i.after m)) [ inl e ↦ inl e | inr k ↦ inr (subst (λ z. Contains z id) (sym i.before) k) ]

-- an id that comes between others that differ comes to their front, and it is none of them
inserted_front : (ids new : List ℕ) (n : ℕ) (i : IsInserted ids n new) → IsDistinct nat_eq new → IsDistinct nat_eq (n ∷ (i.front ++ i.back))
inserted_front ids new n i d = IsDistinct-IsPermutation nat_eq swaps (i.front ++ n ∷ i.back) (n ∷ (i.front ++ i.back)) (IsPermutation-middle i.front n i.back) (subst (λ z. IsDistinct nat_eq z) i.after d)

pub inserted_other : (ids new : List ℕ) (n : ℕ) (i : IsInserted ids n new) → IsDistinct nat_eq new → (id : ℕ) → Contains ids id → id ≢ n
inserted_other ids new n i d id m q = both_ways _ (all_rec_at (λ y. nat_eq n y ≡ false) (i.front ++ i.back) (IsDistinct-head nat_eq n (i.front ++ i.back) (inserted_front ids new n i d)) id (subst (λ z. Contains z id) i.before m)) (eq-eqb n id (sym q))

-- a clause of these literals is active now, and irredundant
module _ (d : Database) (h : IsDatabase d) (n next : ℕ) (ls : List ℕ) (e : EngineView) (ids : List ℕ) (rows : List (List ℕ))
    (fresh : Contains d.irredundant n → ⊥)
    (now : standing e.clauses n ≡ Some (record { literals = set_of ls; active = true }))
    (others : (id : ℕ) → id ≢ n → standing e.clauses id ≡ standing d.engine.clauses id)
    (small : HasRoomFor d.engine ls) (clean : is_tautology ls ≡ false)
    (i : IsInserted d.irredundant n ids) (r : IsAdded d.occurrences n (literals_at e.clauses n) rows) where
  abbrev m2 : Clauses
  m2 = e.clauses

  elsewhere : (id : ℕ) → Contains d.irredundant id → id ≢ n
  elsewhere id m q = fresh (subst (λ z. Contains d.irredundant z) q m)

  set_now : literals_at m2 n ≡ set_of ls
  set_now = literals_from m2 n (set_of ls) true now

  clean_set : is_tautology (set_of ls) ≡ false
  clean_set = tautology-same (set_of ls) ls (same_set-set_of ls) ∙ clean

  literals_kept : (id : ℕ) → Contains d.irredundant id → literals_at m2 id ≡ literals_at d.engine.clauses id
  literals_kept id m = same_literals d.engine.clauses m2 id (others id (elsewhere id m))

  clauses_kept : map (literals_at m2) d.irredundant ≡ irredundant_of d
  clauses_kept = map-same (literals_at m2) (literals_at d.engine.clauses) d.irredundant literals_kept

  numbered_kept : numbered_in m2 d.irredundant ≡ numbered_in d.engine.clauses d.irredundant
  numbered_kept = map-same (λ id. (id, literals_at m2 id)) (λ id. (id, literals_at d.engine.clauses id)) d.irredundant (λ id m. ap (λ (z : List ℕ). (id, z)) (literals_kept id m))

  active_now : (id : ℕ) → Contains ids id → (c : List ℕ) × (active_at m2 id ≡ Some c) × (is_tautology c ≡ false)
  active_now id m = elim (member_at d.irredundant ids n i id m) [
    | inl q ↦ (set_of ls, ap (active_at m2) q ∙ active_from m2 n (set_of ls) now, clean_set)
    | inr k ↦ let a = h.irredundant.active id k in (a.0, same_active d.engine.clauses m2 id (others id (elsewhere id k)) ∙ a.1, a.2)
  ]

  stands_now : StandsFor rows (numbered_in m2 ids)
  stands_now =
      let g : ℕ → Numbered = λ id. (id, literals_at m2 id) in
      let olds : numbered_in d.engine.clauses d.irredundant ≡ map g i.front ++ map g i.back = sym numbered_kept ∙ map-parts g d.irredundant ids n i in
      let news : numbered_in m2 ids ≡ map g i.front ++ (n, literals_at m2 n) ∷ map g i.back = map-middle g d.irredundant ids n i in
      subst (λ z. StandsFor rows z) (sym news) (reordered rows ((n, literals_at m2 n) ∷ (map g i.front ++ map g i.back)) (map g i.front ++ (n, literals_at m2 n) ∷ map g i.back)
      (IsPermutation-sym _ _ (IsPermutation-middle (map g i.front) (n, literals_at m2 n) (map g i.back)))
      (added d.occurrences rows (map g i.front ++ map g i.back) n (literals_at m2 n) listed r (subst (λ z. StandsFor d.occurrences z) olds h.listed.stands)))
    where
      listed : AreListed d.occurrences (literals_at m2 n)
      listed l k = let k2 : has (set_of ls) l ≡ true = ap (λ z. has z l) (sym set_now) ∙ k in let v = small l (set_of_at ls l (has_at (set_of ls) l k2)) in let w = h.wide in omega (arith, v, w)

  counted_now : (p : List ℕ → Bool) → how_many p (map (literals_at m2) ids) ≡ how_many p (set_of ls ∷ irredundant_of d)
  counted_now p =
      let f = literals_at m2 in
      let old : irredundant_of d ≡ map f i.front ++ map f i.back = sym clauses_kept ∙ map-parts f d.irredundant ids n i in
      let new : map f ids ≡ map f i.front ++ set_of ls ∷ map f i.back = map-middle f d.irredundant ids n i ∙ ap (λ z. map f i.front ++ z ∷ map f i.back) set_now in
      ap (how_many p) new ∙ count_middle p (map f i.front) (map f i.back) (set_of ls) ∙ ap (λ z. how_many p (set_of ls ∷ z)) (sym old)

  pub more_sound : e.trail ≡ d.engine.trail → e.vars ≡ d.engine.vars → n < next → d.next_id ≤ next → next ≤ 2 ^ 63
      → IsDatabase (record { engine = e; irredundant = ids; occurrences = rows; next_id = next })
  more_sound t v below le limit = record {
    level = ap level_after t ∙ h.level;
    ids = λ id k. elim (cases id n) [
      | inl q ↦ omega (arith, q, below)
      | inr ne ↦ let lt = h.ids id (sym (same_key d.engine.clauses m2 id (others id ne)) ∙ k) in omega (arith, lt, le)
    ];
    irredundant = record { once = inserted_once d.irredundant ids n elsewhere h.irredundant.once i; active = active_now };
    listed = record { stands = stands_now; active = active_now };
    wide = let w = h.wide in let z = r.sized in omega (arith, w, z, v);
    first_id = let f = h.first_id in omega (arith, f, le);
    last_id = limit;
  }

  -- counted as the list that was told
  pub more_counted : (p : List ℕ → Bool) → p (set_of ls) ≡ p ls → how_many p (map (literals_at m2) ids) + 0 ≡ how_many p (irredundant_of d) + how_many p (ls ∷ [])
  more_counted p s = let a = counted_now p in elim (cases_Bool (p ls)) [
    | inl y ↦ let z = s ∙ y in let b : how_many p (set_of ls ∷ irredundant_of d) ≡ how_many p (irredundant_of d) + 1 = rw z (omega arith) in rw y (omega (arith, a, b))
    | inr y ↦ let z = s ∙ y in let b : how_many p (set_of ls ∷ irredundant_of d) ≡ how_many p (irredundant_of d) + 0 = rw z (omega arith) in rw y (omega (arith, a, b))
  ]

-- ---- No irredundant clause changes

module _ (d : Database) (h : IsDatabase d) (n : ℕ) (e : EngineView) (absent : Contains d.irredundant n → ⊥)
    (others : (id : ℕ) → id ≢ n → standing e.clauses id ≡ standing d.engine.clauses id) where
  unchanged : (id : ℕ) → Contains d.irredundant id → standing e.clauses id ≡ standing d.engine.clauses id
  unchanged id m = others id (λ q. absent (subst (λ z. Contains d.irredundant z) q m))

  pub same_clauses : map (literals_at e.clauses) d.irredundant ≡ irredundant_of d
  same_clauses = map-same (literals_at e.clauses) (literals_at d.engine.clauses) d.irredundant (λ id m. same_literals d.engine.clauses e.clauses id (unchanged id m))

  same_numbered : numbered_in e.clauses d.irredundant ≡ numbered_in d.engine.clauses d.irredundant
  same_numbered = map-same (λ id. (id, literals_at e.clauses id)) (λ id. (id, literals_at d.engine.clauses id)) d.irredundant (λ id m. ap (λ (z : List ℕ). (id, z)) (same_literals d.engine.clauses e.clauses id (unchanged id m)))

  active_still : (id : ℕ) → Contains d.irredundant id → (c : List ℕ) × (active_at e.clauses id ≡ Some c) × (is_tautology c ≡ false)
  active_still id m = let a = h.irredundant.active id m in (a.0, same_active d.engine.clauses e.clauses id (unchanged id m) ∙ a.1, a.2)

  pub same_sound : e.trail ≡ d.engine.trail → e.vars ≡ d.engine.vars → (finmap.contains_key e.clauses n ≡ true → n < d.next_id)
      → IsDatabase (record { engine = e; irredundant = d.irredundant; occurrences = d.occurrences; next_id = d.next_id })
  same_sound t v key = record {
    level = ap level_after t ∙ h.level;
    ids = λ id k. elim (cases id n) [
      | inl q ↦ subst (λ z. z < d.next_id) (sym q) (key (ap (finmap.contains_key e.clauses) (sym q) ∙ k))
      | inr ne ↦ h.ids id (sym (same_key d.engine.clauses e.clauses id (others id ne)) ∙ k)
    ];
    irredundant = record { once = h.irredundant.once; active = active_still };
    listed = record { stands = subst (λ z. StandsFor d.occurrences z) (sym same_numbered) h.listed.stands; active = active_still };
    wide = let w = h.wide in omega (arith, w, v);
    first_id = h.first_id;
    last_id = h.last_id;
  }

-- ---- A clause is irredundant no more

module _ (d : Database) (h : IsDatabase d) (n : ℕ) (e : EngineView) (ids : List ℕ) (rows : List (List ℕ))
    (others : (id : ℕ) → id ≢ n → standing e.clauses id ≡ standing d.engine.clauses id)
    (i : IsInserted ids n d.irredundant) (r : IsRemoved d.occurrences n (literals_at d.engine.clauses n) rows) where
  pub once_less : IsDistinct nat_eq ids
  once_less = subst (λ z. IsDistinct nat_eq z) (sym i.before) (IsDistinct-tail nat_eq n (i.front ++ i.back) (inserted_front ids d.irredundant n i h.irredundant.once))

  other_less : (id : ℕ) → Contains ids id → id ≢ n
  other_less = inserted_other ids d.irredundant n i h.irredundant.once

  stays_less : (id : ℕ) → Contains ids id → standing e.clauses id ≡ standing d.engine.clauses id
  stays_less id m = others id (other_less id m)

  clauses_less : map (literals_at e.clauses) ids ≡ map (literals_at d.engine.clauses) ids
  clauses_less = map-same (literals_at e.clauses) (literals_at d.engine.clauses) ids (λ id m. same_literals d.engine.clauses e.clauses id (stays_less id m))

  numbered_less : numbered_in e.clauses ids ≡ numbered_in d.engine.clauses ids
  numbered_less = map-same (λ id. (id, literals_at e.clauses id)) (λ id. (id, literals_at d.engine.clauses id)) ids (λ id m. ap (λ (z : List ℕ). (id, z)) (same_literals d.engine.clauses e.clauses id (stays_less id m)))

  active_less : (id : ℕ) → Contains ids id → (c : List ℕ) × (active_at e.clauses id ≡ Some c) × (is_tautology c ≡ false)
  active_less id m = let a = h.irredundant.active id (member_old ids d.irredundant n i id m) in (a.0, same_active d.engine.clauses e.clauses id (stays_less id m) ∙ a.1, a.2)

  stands_less : StandsFor rows (numbered_in e.clauses ids)
  stands_less =
      let g : ℕ → Numbered = λ id. (id, literals_at d.engine.clauses id) in
      let olds : numbered_in d.engine.clauses d.irredundant ≡ map g i.front ++ (n, literals_at d.engine.clauses n) ∷ map g i.back = map-middle g ids d.irredundant n i in
      let news : numbered_in e.clauses ids ≡ map g i.front ++ map g i.back = numbered_less ∙ map-parts g ids d.irredundant n i in
      subst (λ z. StandsFor rows z) (sym news) (removed d.occurrences rows (map g i.front ++ map g i.back) n (literals_at d.engine.clauses n) r
      (reordered d.occurrences (map g i.front ++ (n, literals_at d.engine.clauses n) ∷ map g i.back) ((n, literals_at d.engine.clauses n) ∷ (map g i.front ++ map g i.back))
      (IsPermutation-middle (map g i.front) (n, literals_at d.engine.clauses n) (map g i.back)) (subst (λ z. StandsFor d.occurrences z) olds h.listed.stands)))

  pub less_sound : e.trail ≡ d.engine.trail → e.vars ≡ d.engine.vars → n < d.next_id
      → IsDatabase (record { engine = e; irredundant = ids; occurrences = rows; next_id = d.next_id })
  less_sound t v below = record {
    level = ap level_after t ∙ h.level;
    ids = λ id k. elim (cases id n) [
      | inl q ↦ omega (arith, q, below)
      | inr ne ↦ h.ids id (sym (same_key d.engine.clauses e.clauses id (others id ne)) ∙ k)
    ];
    irredundant = record { once = once_less; active = active_less };
    listed = record { stands = stands_less; active = active_less };
    wide = let w = h.wide in let z = r.sized in omega (arith, w, z, v);
    first_id = h.first_id;
    last_id = h.last_id;
  }

  pub less_counted : (p : List ℕ → Bool) (ls : List ℕ) → p (literals_at d.engine.clauses n) ≡ p ls → how_many p (map (literals_at e.clauses) ids) + how_many p (ls ∷ []) ≡ how_many p (irredundant_of d) + 0
  less_counted p ls s =
      let f = literals_at d.engine.clauses in
      let old : irredundant_of d ≡ map f i.front ++ f n ∷ map f i.back = map-middle f ids d.irredundant n i in
      let new : map (literals_at e.clauses) ids ≡ map f i.front ++ map f i.back = clauses_less ∙ map-parts f ids d.irredundant n i in
      let a : how_many p (irredundant_of d) ≡ how_many p (f n ∷ (map f i.front ++ map f i.back)) = ap (how_many p) old ∙ count_middle p (map f i.front) (map f i.back) (f n) in
      let b = ap (how_many p) new in
      elim (cases_Bool (p ls)) [
        | inl y ↦ let z = s ∙ y in let k : how_many p (f n ∷ (map f i.front ++ map f i.back)) ≡ how_many p (map f i.front ++ map f i.back) + 1 = rw z (omega arith) in rw y (omega (arith, a, b, k))
        | inr y ↦ let z = s ∙ y in let k : how_many p (f n ∷ (map f i.front ++ map f i.back)) ≡ how_many p (map f i.front ++ map f i.back) + 0 = rw z (omega arith) in rw y (omega (arith, a, b, k))
      ]
