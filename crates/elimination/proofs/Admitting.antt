-- What an input that was added makes of a board.
use Rattle.std.proofs.Common.{◌≡◌, ◌≢◌, ℕ, suc, ◌+◌, ◌*◌, ◌<◌, ◌≤◌, ◌^◌, ◌⊎◌, Bool, true, false, not, ◌&&◌, nat_eq, if◌then◌else◌, List, [], ◌∷◌, ◌++◌, length, length-append, map, filter, Contains, Option, Some, None, Result, Ok, Err, refl, sym, ap, ◌∙◌, subst, inl, inr, arith, eqb-true, eq-eqb}
use Rattle.std.specs.Prelude.{OnOk, IfOk, is_some, is_none, is_err, option_map, IsPermutation}
use Rattle.std.specs.List.{IsDistinct, AllByRecursion, list_any}
use Rattle.std.specs.FinMap as finmap
use Rattle.std.specs.FinMap.{get-insert}
use Rattle.std.specs.Ordering.{nat_cmp}
use Rattle.std.specs.Cmp.{nat_cmp_total}
use Rattle.std.proofs.lemmas.Bool.{cases_Bool, both_ways, and_parts, and_from, false_from_ne_true, ne_eqb}
use Rattle.std.proofs.lemmas.Option.{same_Some, none-some}
use Rattle.std.proofs.lemmas.List.{map-append}
use Rattle.std.proofs.lemmas.List.Elements.{filter-append}
use Rattle.std.proofs.lemmas.List.Sorted.{IsPermutation-middle, IsPermutation-sym}
use Rattle.std.proofs.lemmas.Map.Keys.{IsDistinct-cons, IsDistinct-IsPermutation}
use Rattle.lits.specs.Literal.{var}
use Rattle.lits.specs.Clause.{has, set_of, same_set, is_tautology}
use Rattle.lits.proofs.Members.{here, there, here_or_there, not_in_nil, all_at, any_at, any_from, has_at, has_from}
use Rattle.lits.proofs.Ascending.{set_of_at, same_set-set_of}
use Rattle.lits.proofs.Sets.{tautology-same}
use Rattle.session_rules.specs.Logic.{satisfies, satisfies_clause, satisfies_formula}
use Rattle.session_rules.specs.declared.Told.TheVariants as told
use Rattle.propagation.specs.Clauses.{Clauses, Clause, active_at, literals_at, slot_of, is_weakened, if_active}
use Rattle.propagation.specs.Engine.{EngineView, IsEngine, HasRoomFor, added_clause, with_added, has_clause}
use Rattle.propagation.proofs.Changes.{ties, differs, cases}
use Rattle.restore.specs.Resolution.{of_variable, has_variable, Entails}
use Rattle.restore.specs.declared.lists.Kept.{Kept}
use Rattle.restore.specs.declared.lists.Elim.{Elim}
use Rattle.restore.specs.Stack.{stacked, KeepsResolvents, has_entry}
use Rattle.restore.proofs.Joined.{append_at, append_left, append_right, map_at, map_from}
use Rattle.restore.proofs.Keeping.{Among, Kept-more, Kept-apart, Entails-among}
use Rattle.restore.proofs.Extending.{tautology_satisfied}
use Rattle.elimination_laws.specs.Eligible.{how_many, OftenAs}
use Rattle.elimination_laws.proofs.Counting.{any_same}
use Rattle.occurrence_lists.specs.Occurring.{AreListed, IsAdded, StandsFor, Numbered}
use Rattle.occurrence_lists.proofs.Standing.{added, reordered}
use Rattle.elimination.specs.Boards.{BoardView, IsBoard, IsSearched, AreIrredundant, IsWeakenedCopy, irredundant_clauses}
use Rattle.elimination.specs.Steps.{standing, after_steps}
use Rattle.elimination.specs.Known.{AreListedBy, numbered_in}
use Rattle.elimination.specs.Inside.{IsBoardInside, IsInserted, IsListed, IsAdmission}
use Rattle.elimination.specs.Calls.{IsAdmitted}

-- ---- Clauses with one more

module _ (m : Clauses) (n s : ℕ) (c : List ℕ) where
  abbrev more : Clauses
  more = finmap.insert m n (added_clause c s)

  get_new : finmap.get more n ≡ Some (added_clause c s)
  get_new = rw (get-insert nat_cmp_total, ties n) refl

  get_old : (id : ℕ) → id ≢ n → finmap.get more id ≡ finmap.get m id
  get_old id ne = rw (get-insert nat_cmp_total, differs id n ne) refl

  active_new : active_at more n ≡ Some (set_of c)
  active_new = rw (get-insert nat_cmp_total, ties n) refl

  active_old : (id : ℕ) → id ≢ n → active_at more id ≡ active_at m id
  active_old id ne = rw (get-insert nat_cmp_total, differs id n ne) refl

  literals_new : literals_at more n ≡ set_of c
  literals_new = rw (get-insert nat_cmp_total, ties n) refl

  literals_old : (id : ℕ) → id ≢ n → literals_at more id ≡ literals_at m id
  literals_old id ne = rw (get-insert nat_cmp_total, differs id n ne) refl

  weakened_new : is_weakened more n ≡ false
  weakened_new = rw (get-insert nat_cmp_total, ties n) refl

  weakened_old : (id : ℕ) → id ≢ n → is_weakened more id ≡ is_weakened m id
  weakened_old id ne = rw (get-insert nat_cmp_total, differs id n ne) refl

  held_old : (id : ℕ) → id ≢ n → finmap.contains_key more id ≡ finmap.contains_key m id
  held_old id ne = rw (get-insert nat_cmp_total, differs id n ne) refl

pub active_added : (e new : EngineView) (id s : ℕ) (c : List ℕ) → new ≡ with_added e id c s → active_at new.clauses id ≡ Some (set_of c)
active_added e new id s c h = ap (λ (z : EngineView). active_at z.clauses id) h ∙ active_new e.clauses id s c

pub literals_added : (e new : EngineView) (id s : ℕ) (c : List ℕ) → new ≡ with_added e id c s → literals_at new.clauses id ≡ set_of c
literals_added e new id s c h = ap (λ (z : EngineView). literals_at z.clauses id) h ∙ literals_new e.clauses id s c

pub admission : {F : Type 0} (r : Result (Unit {0}) F) (e new : EngineView) (ids new_ids : List ℕ) (rows new_rows ins new_ins : List (List ℕ)) (id s : ℕ) (c set : List ℕ) (b : Bool)
    → new ≡ with_added e id c s → set ≡ set_of c → b ≡ is_tautology set → IsListed b id (literals_at new.clauses id) ids rows new_ids new_rows → OnOk r (new_ins ≡ ins ++ c ∷ [])
    → OnOk r (IsAdmission e ids rows ins id c new new_ids new_rows new_ins)
admission (Err f) e new ids new_ids rows new_rows ins new_ins id s c set b h q t l p = p
admission (Ok u) e new ids new_ids rows new_rows ins new_ins id s c set b h q t l p = record {
  slot = s;
  engine = h;
  listed = subst (λ (z : List ℕ). IsListed (is_tautology c) id z ids rows new_ids new_rows) (literals_added e new id s c h)
      (subst (λ z. IsListed z id (literals_at new.clauses id) ids rows new_ids new_rows) (t ∙ ap is_tautology q ∙ tautology-same (set_of c) c (same_set-set_of c)) l);
  pushed = p;
}

-- ---- Lists

pub map-same : {X Y : Type 0} (f g : X → Y) (xs : List X) → ((x : X) → Contains xs x → f x ≡ g x) → map f xs ≡ map g xs
map-same f g [] h = refl
map-same f g (x ∷ xs) h = let e = h x (here x xs) in let r = map-same f g xs (λ y m. h y (there x y xs m)) in ap (λ z. z ∷ map f xs) e ∙ ap (λ z. g x ∷ z) r

-- what stands with one more is the one, or was there
module _ {X : Type 0} where
  pub middle_at : (front back : List X) (x y : X) → Contains (front ++ x ∷ back) y → (y ≡ x) ⊎ Contains (front ++ back) y
  middle_at front back x y m = elim (append_at front (x ∷ back) y m) [
    | inl k ↦ inr (append_left front back y k)
    | inr k ↦ elim (here_or_there x y back k) [ inl e ↦ inl (sym e) | inr o ↦ inr (append_right front back y o) ]
  ]

  pub middle_old : (front back : List X) (x y : X) → Contains (front ++ back) y → Contains (front ++ x ∷ back) y
  middle_old front back x y m = elim (append_at front back y m) [
    | inl k ↦ append_left front (x ∷ back) y k
    | inr k ↦ append_right front (x ∷ back) y (there x y back k)
  ]

  pub middle_new : (front back : List X) (x : X) → Contains (front ++ x ∷ back) x
  middle_new front back x = append_right front (x ∷ back) x (here x back)

apart_all : (n : ℕ) (ids : List ℕ) → ((id : ℕ) → Contains ids id → id ≢ n) → AllByRecursion (λ y. nat_eq n y ≡ false) ids
apart_all n [] h = tt
apart_all n (id ∷ ids) h = (ne_eqb n id (λ e. h id (here id ids) (sym e)), apart_all n ids (λ j m. h j (there id j ids m)))

pub flips : (a b : ℕ) → nat_eq a b ≡ nat_eq b a
flips a b = elim (cases_Bool (nat_eq a b)) [
  | inl y ↦ y ∙ sym (eq-eqb b a (sym (eqb-true a b y)))
  | inr k ↦ k ∙ sym (ne_eqb b a (λ e. both_ways _ k (eq-eqb a b (sym e))))
]

pub inserted_once : (ids new : List ℕ) (n : ℕ) → ((id : ℕ) → Contains ids id → id ≢ n) → IsDistinct nat_eq ids → IsInserted ids n new → IsDistinct nat_eq new
inserted_once ids new n h d i = subst (λ z. IsDistinct nat_eq z) (sym i.after)
    (IsDistinct-IsPermutation nat_eq flips (n ∷ (i.front ++ i.back)) (i.front ++ n ∷ i.back) (IsPermutation-sym (i.front ++ n ∷ i.back) (n ∷ (i.front ++ i.back)) (IsPermutation-middle i.front n i.back))
    (IsDistinct-cons nat_eq n (i.front ++ i.back) (subst (λ z. AllByRecursion (λ y. nat_eq n y ≡ false) z) i.before (apart_all n ids h)) (subst (λ z. IsDistinct nat_eq z) i.before d)))

pub map-middle : {Y : Type 0} (f : ℕ → Y) (ids new : List ℕ) (n : ℕ) (i : IsInserted ids n new) → map f new ≡ map f i.front ++ f n ∷ map f i.back
map-middle f ids new n i = ap (map f) i.after ∙ map-append f i.front (n ∷ i.back)

pub map-parts : {Y : Type 0} (f : ℕ → Y) (ids new : List ℕ) (n : ℕ) (i : IsInserted ids n new) → map f ids ≡ map f i.front ++ map f i.back
map-parts f ids new n i = ap (map f) i.before ∙ map-append f i.front i.back

pub count_middle : (p : List ℕ → Bool) (front back : List (List ℕ)) (d : List ℕ) → how_many p (front ++ d ∷ back) ≡ how_many p (d ∷ (front ++ back))
count_middle p front back d = ap length (filter-append p front (d ∷ back)) ∙ length-append (filter p front) (filter p (d ∷ back)) ∙ by_test (p d) refl
  where
    rest : length (filter p (front ++ back)) ≡ length (filter p front) + length (filter p back)
    rest = ap length (filter-append p front back) ∙ length-append (filter p front) (filter p back)

    by_test : (b : Bool) → p d ≡ b → length (filter p front) + length (filter p (d ∷ back)) ≡ length (filter p (d ∷ (front ++ back)))
    by_test true e = rw e (omega (arith, rest))
    by_test false e = rw e (sym rest)

-- ---- The board

module _ (b : BoardView) (rows : List (List ℕ)) (h : IsBoardInside b rows) (c : List ℕ) (small : HasRoomFor b.engine c) (clear : (l : ℕ) → Contains c l → has_entry b.stack (var l) ≡ false) where
  s : IsSearched b
  s = h.board.searched

  held_below : (id : ℕ) → finmap.contains_key b.engine.clauses id ≡ true → id ≢ b.next_id
  held_below id k e = let lt = s.ids id k in omega (arith, lt, e)

  active_held : (id : ℕ) (d : List ℕ) → active_at b.engine.clauses id ≡ Some d → finmap.contains_key b.engine.clauses id ≡ true
  active_held id d a = by_entry (finmap.get b.engine.clauses id) refl
    where
      by_entry : (o : Option Clause) → finmap.get b.engine.clauses id ≡ o → finmap.contains_key b.engine.clauses id ≡ true
      by_entry (Some k) g = rw g refl
      by_entry None g = let f : None ≡ Some d = rw g at a in absurd (none-some d f)

  listed_below : (id : ℕ) → Contains b.irredundant id → id ≢ b.next_id
  listed_below id m = let a = s.irredundant.active id m in held_below id (active_held id a.0 a.1)

  pub next_unlisted : Contains b.irredundant b.next_id → ⊥
  next_unlisted m = listed_below b.next_id m refl

  -- no entry's variable stands in the input
  apart_input : (e : Elim) → Contains b.stack e → has_variable e.var (set_of c) ≡ false
  apart_input e m = false_from_ne_true _ (λ y.
      let a = any_at (of_variable e.var) (set_of c) y in let v : var a.0 ≡ e.var = eqb-true (var a.0) e.var a.2 in
      both_ways _ (clear a.0 (set_of_at c a.0 a.1)) (any_from (λ (f : Elim). nat_eq f.var (var a.0)) b.stack e m (eq-eqb e.var (var a.0) (sym v))))

  module _ (new_e : EngineView) (new_ids : List ℕ) (new_rows new_ins : List (List ℕ)) (a : IsAdmission b.engine b.irredundant rows b.inputs b.next_id c new_e new_ids new_rows new_ins) where
    abbrev new : BoardView
    new = record { engine = with_added b.engine b.next_id c a.slot; irredundant = new_ids; stack = b.stack; inputs = b.inputs ++ c ∷ []; next_id = b.next_id + 1 }

    abbrev m2 : Clauses
    m2 = new.engine.clauses

    same_literals : (id : ℕ) → Contains b.irredundant id → literals_at m2 id ≡ literals_at b.engine.clauses id
    same_literals id m = literals_old b.engine.clauses b.next_id a.slot c id (listed_below id m)

    same_clauses : map (literals_at m2) b.irredundant ≡ irredundant_clauses b
    same_clauses = map-same (literals_at m2) (literals_at b.engine.clauses) b.irredundant same_literals

    same_numbered : numbered_in m2 b.irredundant ≡ numbered_in b.engine.clauses b.irredundant
    same_numbered = map-same (λ id. (id, literals_at m2 id)) (λ id. (id, literals_at b.engine.clauses id)) b.irredundant (λ id m. ap (λ (z : List ℕ). (id, z)) (same_literals id m))

    -- each irredundant clause was one before, or is the input
    record Grown : Type 0 where
      ids_from : (id : ℕ) → Contains new_ids id → Contains b.irredundant id ⊎ ((id ≡ b.next_id) × (is_tautology c ≡ false))
      among : Among (irredundant_clauses b) (irredundant_clauses new)
      either : (d : List ℕ) → Contains (irredundant_clauses new) d → Contains (irredundant_clauses b) d ⊎ (d ≡ set_of c)
      covered : (is_tautology c ≡ true) ⊎ Contains (irredundant_clauses new) (set_of c)
      once : IsDistinct nat_eq new_ids
      often : OftenAs (irredundant_clauses new) (if is_tautology c then irredundant_clauses b else set_of c ∷ irredundant_clauses b)
      stands : StandsFor new_rows (numbered_in m2 new_ids)
      sized : length new_rows ≡ length rows

    grown_same : is_tautology c ≡ true → (new_ids ≡ b.irredundant) × (new_rows ≡ rows) → Grown
    grown_same t l = let e : irredundant_clauses new ≡ irredundant_clauses b = ap (map (literals_at m2)) l.0 ∙ same_clauses in record {
      ids_from = λ id m. inl (subst (λ z. Contains z id) l.0 m);
      among = λ d m. subst (λ z. Contains z d) (sym e) m;
      either = λ d m. inl (subst (λ z. Contains z d) e m);
      covered = inl t;
      once = subst (λ z. IsDistinct nat_eq z) (sym l.0) s.irredundant.once;
      often = λ d. ap (how_many (same_set d)) e ∙ rw t refl;
      stands = subst (λ z. StandsFor z (numbered_in m2 new_ids)) (sym l.1) (subst (λ z. StandsFor rows z) (sym (ap (numbered_in m2) l.0 ∙ same_numbered)) h.listed.stands);
      sized = ap length l.1;
    }

    grown_more : is_tautology c ≡ false → IsInserted b.irredundant b.next_id new_ids → IsAdded rows b.next_id (set_of c) new_rows → Grown
    grown_more t i r =
        let f = literals_at m2 in let n : f b.next_id ≡ set_of c = literals_new b.engine.clauses b.next_id a.slot c in
        let old : irredundant_clauses b ≡ map f i.front ++ map f i.back = sym same_clauses ∙ map-parts f b.irredundant new_ids b.next_id i in
        let e : irredundant_clauses new ≡ map f i.front ++ set_of c ∷ map f i.back = map-middle f b.irredundant new_ids b.next_id i ∙ ap (λ z. map f i.front ++ z ∷ map f i.back) n in
        record {
          ids_from = λ id m. elim (middle_at i.front i.back b.next_id id (subst (λ z. Contains z id) i.after m)) [
            | inl q ↦ inr (q, t)
            | inr q ↦ inl (subst (λ z. Contains z id) (sym i.before) q)
          ];
          among = λ d m. subst (λ z. Contains z d) (sym e) (middle_old (map f i.front) (map f i.back) (set_of c) d (subst (λ z. Contains z d) old m));
          either = λ d m. elim (middle_at (map f i.front) (map f i.back) (set_of c) d (subst (λ z. Contains z d) e m)) [
            | inl q ↦ inr q
            | inr q ↦ inl (subst (λ z. Contains z d) (sym old) q)
          ];
          covered = inr (subst (λ z. Contains z (set_of c)) (sym e) (middle_new (map f i.front) (map f i.back) (set_of c)));
          once = inserted_once b.irredundant new_ids b.next_id listed_below s.irredundant.once i;
          often = λ d. ap (how_many (same_set d)) e ∙ count_middle (same_set d) (map f i.front) (map f i.back) (set_of c) ∙ ap (λ z. how_many (same_set d) (set_of c ∷ z)) (sym old) ∙ rw t refl;
          stands =
              let g : ℕ → Numbered = λ id. (id, literals_at m2 id) in
              let olds : numbered_in b.engine.clauses b.irredundant ≡ map g i.front ++ map g i.back = sym same_numbered ∙ map-parts g b.irredundant new_ids b.next_id i in
              let news : numbered_in m2 new_ids ≡ map g i.front ++ (b.next_id, set_of c) ∷ map g i.back = map-middle g b.irredundant new_ids b.next_id i ∙ ap (λ (z : List ℕ). map g i.front ++ (b.next_id, z) ∷ map g i.back) n in
              subst (λ z. StandsFor new_rows z) (sym news) (reordered new_rows ((b.next_id, set_of c) ∷ (map g i.front ++ map g i.back)) (map g i.front ++ (b.next_id, set_of c) ∷ map g i.back)
              (IsPermutation-sym _ _ (IsPermutation-middle (map g i.front) (b.next_id, set_of c) (map g i.back)))
              (added rows new_rows (map g i.front ++ map g i.back) b.next_id (set_of c) room r (subst (λ z. StandsFor rows z) olds h.listed.stands)));
          sized = r.sized;
        }
      where
        room : AreListed rows (set_of c)
        room l k = let v = small l (set_of_at c l (has_at (set_of c) l k)) in let w = h.wide in omega (arith, v, w)

    grown_by : (t : Bool) → is_tautology c ≡ t → IsListed t b.next_id (set_of c) b.irredundant rows new_ids new_rows → Grown
    grown_by true e l = grown_same e l
    grown_by false e l = grown_more e l.0 l.1

    grown : Grown
    grown = grown_by (is_tautology c) refl a.listed

    same_active : (id : ℕ) (d : List ℕ) → active_at m2 id ≡ Some d → (id ≢ b.next_id) → active_at b.engine.clauses id ≡ Some d
    same_active id d k ne = sym (active_old b.engine.clauses b.next_id a.slot c id ne) ∙ k

    irredundant_active : (id : ℕ) → Contains new_ids id → (d : List ℕ) × (active_at m2 id ≡ Some d) × (is_tautology d ≡ false)
    irredundant_active id m = elim (grown.ids_from id m) [
      | inl k ↦ let q = s.irredundant.active id k in (q.0, active_old b.engine.clauses b.next_id a.slot c id (listed_below id k) ∙ q.1, q.2)
      | inr k ↦ (set_of c, ap (active_at m2) k.0 ∙ active_new b.engine.clauses b.next_id a.slot c, tautology-same (set_of c) c (same_set-set_of c) ∙ k.1)
    ]

    weakened_before : (id : ℕ) → is_weakened m2 id ≡ true → is_weakened b.engine.clauses id ≡ true
    weakened_before id w = elim (cases id b.next_id) [
      | inl e ↦ absurd (both_ways _ (weakened_new b.engine.clauses b.next_id a.slot c) (subst (λ z. is_weakened m2 z ≡ true) e w))
      | inr ne ↦ sym (weakened_old b.engine.clauses b.next_id a.slot c id ne) ∙ w
    ]

    implied_new : (d : List ℕ) → Contains (b.inputs ++ c ∷ []) d → Entails (stacked b.stack ++ irredundant_clauses new) d
    implied_new d m = elim (append_at b.inputs (c ∷ []) d m) [
      | inl k ↦ Entails-among (stacked b.stack ++ irredundant_clauses b) (stacked b.stack ++ irredundant_clauses new) d
          (λ q w. elim (append_at (stacked b.stack) (irredundant_clauses b) q w) [
            | inl y ↦ append_left (stacked b.stack) (irredundant_clauses new) q y
            | inr y ↦ append_right (stacked b.stack) (irredundant_clauses new) q (grown.among q y)
          ]) (s.implied d k)
      | inr k ↦ elim (here_or_there c d [] k) [
        | inl e ↦ subst (λ z. Entails (stacked b.stack ++ irredundant_clauses new) z) e input_holds
        | inr o ↦ absurd (not_in_nil d o)
      ]
    ]
      where
        input_holds : Entails (stacked b.stack ++ irredundant_clauses new) c
        input_holds v f = elim grown.covered [
          | inl t ↦ tautology_satisfied v c t
          | inr k ↦ sym (any_same (satisfies v) (set_of c) c (same_set-set_of c)) ∙ all_at (satisfies_clause v) (stacked b.stack ++ irredundant_clauses new) (set_of c) f (append_right (stacked b.stack) (irredundant_clauses new) (set_of c) k)
        ]

    copy_kept : (e : Elim) (k : Kept) → Contains b.stack e → Contains e.clauses k → IsWeakenedCopy m2 k
    copy_kept e k m o =
        let w = s.copies e k m o in
        let ne : k.id ≢ b.next_id = held_below k.id (and_parts _ _ w.weakened).0 in
        record {
          weakened = weakened_old b.engine.clauses b.next_id a.slot c k.id ne ∙ w.weakened;
          same = w.same ∙ sym (literals_old b.engine.clauses b.next_id a.slot c k.id ne);
          once = w.once;
          clean = w.clean;
        }

    gone_still : (e : Elim) (id : ℕ) (d : List ℕ) → Contains b.stack e → active_at m2 id ≡ Some d → has_variable e.var d ≡ true → is_tautology d ≡ true
    gone_still e id d m k v = elim (cases id b.next_id) [
      | inl q ↦
          let f : set_of c ≡ d = same_Some (set_of c) d (sym (active_new b.engine.clauses b.next_id a.slot c) ∙ ap (active_at m2) (sym q) ∙ k) in
          absurd (both_ways _ (apart_input e m) (subst (λ z. has_variable e.var z ≡ true) (sym f) v))
      | inr ne ↦ s.gone e id d m (same_active id d k ne) v
    ]

    ids_below : (id : ℕ) → finmap.contains_key m2 id ≡ true → id < b.next_id + 1
    ids_below id k = elim (cases id b.next_id) [
      | inl e ↦ omega (arith, e)
      | inr ne ↦ let lt = s.ids id (sym (held_old b.engine.clauses b.next_id a.slot c id ne) ∙ k) in omega (arith, lt)
    ]

    new_inside : IsEngine new.engine → b.next_id < 2 ^ 63 → IsBoardInside new new_rows
    new_inside en limit = record {
      board = record {
        searched = record {
          engine = en;
          kept = Kept-more b.stack (irredundant_clauses b) (irredundant_clauses new) s.kept grown.among
              (λ e d m k. elim (grown.either d k) [
                | inl q ↦ Kept-apart b.stack (irredundant_clauses b) s.kept e d m q
                | inr q ↦ subst (λ z. has_variable e.var z ≡ false) (sym q) (apart_input e m)
              ]);
          implied = implied_new;
          irredundant = record { once = grown.once; active = irredundant_active };
          copies = copy_kept;
          whole = λ id w. s.whole id (weakened_before id w);
          gone = gone_still;
          single = s.single;
          apart = s.apart;
          positive = s.positive;
          reserved = s.reserved;
          ids = ids_below;
          first_id = let f = s.first_id in omega (arith, f);
          last_id = omega (arith, limit);
        };
        level = h.board.level;
      };
      listed = record { stands = grown.stands; active = irredundant_active };
      wide = let w = h.wide in let z = grown.sized in omega (arith, w, z);
    }

    -- the board as the call leaves it
    abbrev left : BoardView
    left = record { engine = new_e; irredundant = new_ids; stack = b.stack; inputs = new_ins; next_id = b.next_id + 1 }

    left_is : left ≡ new
    left_is = ap (λ (z : EngineView). record { engine = z; irredundant = new_ids; stack = b.stack; inputs = new_ins; next_id = b.next_id + 1 }) a.engine
        ∙ ap (λ (z : List (List ℕ)). record { engine = with_added b.engine b.next_id c a.slot; irredundant = new_ids; stack = b.stack; inputs = z; next_id = b.next_id + 1 }) a.pushed

    pub left_inside : IsEngine new_e → b.next_id < 2 ^ 63 → IsBoardInside left new_rows
    left_inside en limit = subst (λ z. IsBoardInside z new_rows) (sym left_is) (new_inside (subst IsEngine a.engine en) limit)

    stands_new : (id : ℕ) → standing m2 id ≡ after_steps (standing b.engine.clauses) (told.Lemma b.next_id c [] ∷ []) id
    stands_new id = elim (cases id b.next_id) [
      | inl e ↦ let q = eq-eqb id b.next_id e in let g = ap (finmap.get m2) e ∙ get_new b.engine.clauses b.next_id a.slot c in rw (q, g) refl
      | inr ne ↦ let q = ne_eqb id b.next_id ne in let g = get_old b.engine.clauses b.next_id a.slot c id ne in rw (q, g) refl
    ]

    pub left_admitted : IsAdmitted b c left
    left_admitted = subst (λ z. IsAdmitted b c z) (sym left_is) (record {
      clauses = stands_new;
      irredundant = grown.often;
      inputs = refl;
      stack = refl;
      next_id = refl;
      vars = refl;
    })

-- what holds of a success holds where there is no error
pub when_ok : {F P : Type 0} (r : Result (Unit {0}) F) → is_err r ≡ false → OnOk r P → P
when_ok (Ok u) e p = p
when_ok (Err f) e p = cc e

-- and the value of a success
pub some_ok : {X F : Type 0} (P : X → Type 0) (r : Result X F) → is_err r ≡ false → IfOk r P → (x : X) × P x
some_ok P (Ok x) e p = (x, p)
some_ok P (Err f) e p = cc e
