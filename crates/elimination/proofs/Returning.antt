-- A board whose entries for some literals were taken out and restored.
use Rattle.std.proofs.Common.{◌≡◌, ◌≢◌, ℕ, ◌+◌, ◌*◌, ◌<◌, ◌≤◌, ◌⊎◌, Bool, true, false, not, ◌&&◌, nat_eq, List, [], ◌∷◌, ◌++◌, map, filter, flat_map, filter_map, Contains, All, Option, Some, None, refl, sym, ap, ◌∙◌, subst, inl, inr, arith, eqb-true, eq-eqb}
use Rattle.std.specs.Prelude.{is_some, option_and_then}
use Rattle.std.specs.List.{list_any, IsDistinct, AllByRecursion}
use Rattle.std.proofs.lemmas.Bool.{cases_Bool, both_ways, not-true, not_from_false, ne_eqb}
use Rattle.std.proofs.lemmas.Option.{same_Some}
use Rattle.lits.specs.Literal.{var}
use Rattle.lits.specs.Clause.{has, set_of, same_set, is_tautology}
use Rattle.lits.proofs.Members.{here, there, here_or_there, not_in_nil, any_from, filter_at, filter_from, has_from}
use Rattle.lits.proofs.Ascending.{same_set-set_of}
use Rattle.session_rules.specs.Own.{added_clause, weakened_clause}
use Rattle.session_rules.specs.declared.Told.{Told}
use Rattle.session_rules.specs.declared.Step.{Step}
use Rattle.propagation.specs.Clauses.{Clauses, active_at, literals_at, is_weakened}
use Rattle.propagation.specs.Engine.{IsEngine}
use Rattle.propagation.proofs.Changes.{cases}
use Rattle.restore.specs.declared.lists.Kept.{Kept}
use Rattle.restore.specs.declared.lists.Elim.{Elim}
use Rattle.restore.specs.Resolution.{of_variable, has_variable, variables, Entails}
use Rattle.restore.specs.Stack.{clauses_of, stacked, KeepsResolvents, has_entry, taken, left_in, is_wanted, wants, IsClosed}
use Rattle.restore.proofs.Joined.{append_at, append_left, append_right, map_at, map_from}
use Rattle.restore.proofs.Keeping.{Kept-take, Entails-take}
use Rattle.restore.proofs.Taking.{is_wanted-closed, none_left}
use Rattle.elimination_laws.specs.Eligible.{how_many, OftenAs, Covered}
use Rattle.elimination_laws.specs.Irredundant.{no_tautologies, stepped}
use Rattle.elimination_laws.proofs.Counting.{any_same}
use Rattle.elimination_laws.proofs.Running.{how_many-append}
use Rattle.elimination_laws.proofs.Joining.{Entails-covered, Covered-behind, Kept-covered, Covered-from_OftenAs}
use Rattle.elimination.specs.declared.database.Database.{Database}
use Rattle.elimination.specs.Boards.{BoardView, IsBoard, IsSearched, IsWeakenedCopy}
use Rattle.elimination.specs.Steps.{TakesEach, Standing, standing, steps_of, if_weakened}
use Rattle.elimination.specs.Calls.{AreTold, IsRestoring, IsTouched}
use Rattle.elimination.specs.Inside.{IsBoardInside}
use Rattle.elimination.specs.Databases.{IsDatabase, LeadTo, irredundant_of, board_of}
use Rattle.elimination.specs.Restoring.{ids_of, kept_of, restoring, restorings, AreCopies, Restores}
use Rattle.elimination.proofs.Modelling.{all_by}
use Rattle.elimination.proofs.Standings.{weakened_set, weakened_inactive, same_literals, same_active, same_weakened, active_from, key-by, weakened-by}
use Rattle.elimination.proofs.Restored.{apart_back, apart_both, apart_chosen, all_rec_at, all_rec_from, kept_at, kept_from, kept_chosen, restored_other, restored_back}

-- ---- Clauses of a list, by their ids

-- an id is that of one of the clauses, or of none
among_ids : (ks : List Kept) (id : ℕ) → ((k : Kept) × Contains ks k × (k.id ≡ id)) ⊎ ((k : Kept) → Contains ks k → id ≢ k.id)
among_ids [] id = inr (λ k m e. not_in_nil k m)
among_ids (j ∷ ks) id = elim (cases j.id id) [
  | inl e ↦ inl (j, here j ks, e)
  | inr ne ↦ elim (among_ids ks id) [
    | inl r ↦ inl (r.0, there j r.0 ks r.1, r.2)
    | inr h ↦ inr (λ k m e. elim (here_or_there j k ks m) [ inl q ↦ ne (ap (λ (z : Kept). z.id) q ∙ sym e) | inr n ↦ h k n e ])
  ]
]

-- chosen entries have other ids than the others
chosen_apart : (p : Elim → Bool) (es : List Elim) → IsDistinct nat_eq (ids_of (kept_of es)) → (j k : Kept) → Contains (kept_of (filter p es)) j → Contains (kept_of (filter (λ e. not (p e)) es)) k → j.id ≢ k.id
chosen_apart p [] d j k m n q = not_in_nil j m
chosen_apart p (e ∷ es) d j k m n q = elim (cases_Bool (p e)) [
  | inl y ↦
      let m2 : Contains (e.clauses ++ kept_of (filter p es)) j = rw y at m in
      let n2 : Contains (kept_of (filter (λ e. not (p e)) es)) k = rw y at n in
      elim (append_at e.clauses (kept_of (filter p es)) j m2) [
        | inl i ↦ apart_both e.clauses (kept_of es) d j k i (kept_chosen (λ e. not (p e)) es k n2) q
        | inr i ↦ chosen_apart p es (apart_back e.clauses (kept_of es) d) j k i n2 q
      ]
  | inr y ↦
      let m2 : Contains (kept_of (filter p es)) j = rw y at m in
      let n2 : Contains (e.clauses ++ kept_of (filter (λ e. not (p e)) es)) k = rw y at n in
      elim (append_at e.clauses (kept_of (filter (λ e. not (p e)) es)) k n2) [
        | inl i ↦ apart_both e.clauses (kept_of es) d k j i (kept_chosen p es j m2) (sym q)
        | inr i ↦ chosen_apart p es (apart_back e.clauses (kept_of es) d) j k m2 i q
      ]
]

-- chosen entries have different variables
single_chosen : (p : Elim → Bool) (es : List Elim) → IsDistinct nat_eq (map (λ (e : Elim). e.var) es) → IsDistinct nat_eq (map (λ (e : Elim). e.var) (filter p es))
unfolding IsDistinct
single_chosen p [] d = tt
single_chosen p (e ∷ es) d = let r = single_chosen p es d.1 in elim (cases_Bool (p e)) [
  | inl y ↦
      let f : AllByRecursion (λ x. nat_eq e.var x ≡ false) (map (λ (e : Elim). e.var) (filter p es)) = all_rec_from (λ x. nat_eq e.var x ≡ false) (map (λ (e : Elim). e.var) (filter p es))
      (λ x m. let q = map_at (λ (e : Elim). e.var) (filter p es) x m in
      all_rec_at (λ x. nat_eq e.var x ≡ false) (map (λ (e : Elim). e.var) es) d.0 x (subst (λ z. Contains (map (λ (e : Elim). e.var) es) z) q.2 (map_from (λ (e : Elim). e.var) es q.0 (filter_at p es q.0 q.1).0))) in
      rw y (f, r)
  | inr n ↦ rw n r
]

-- ---- The clauses that restorings give

abbrev lists_of : List Kept → List (List ℕ)
lists_of ks = map (λ (k : Kept). k.lits) ks

none_weakened : (ks : List Kept) → filter_map weakened_clause (steps_of (restorings ks)) ≡ []
none_weakened [] = refl
none_weakened (k ∷ ks) = none_weakened ks

added_lists : (ks : List Kept) → filter_map added_clause (steps_of (restorings ks)) ≡ lists_of ks
added_lists [] = refl
added_lists (k ∷ ks) = ap (λ z. k.lits ∷ z) (added_lists ks)

stacked_lists : (es : List Elim) → lists_of (kept_of es) ≡ stacked es
stacked_lists [] = refl
stacked_lists (e ∷ es) = split e.clauses (kept_of es) ∙ ap (λ z. clauses_of e ++ z) (stacked_lists es)
  where
    split : (js bs : List Kept) → lists_of (js ++ bs) ≡ lists_of js ++ lists_of bs
    split [] bs = refl
    split (k ∷ js) bs = ap (λ z. k.lits ∷ z) (split js bs)

all_clean : (cs : List (List ℕ)) → ((c : List ℕ) → Contains cs c → is_tautology c ≡ false) → no_tautologies cs ≡ cs
all_clean [] h = refl
all_clean (c ∷ cs) h = let q = h c (here c cs) in rw q (ap (λ z. c ∷ z) (all_clean cs (λ d m. h d (there c d cs m))))

-- ---- The board

module _ (d : Database) (stack : List Elim) (inputs : List (List ℕ)) (h : IsBoardInside (board_of d stack inputs) d.occurrences) where
  s : IsSearched (board_of d stack inputs)
  s = h.board.searched

  -- the clauses of all entries are copies of the weakened ones
  pub copies_in : AreCopies (standing d.engine.clauses) (kept_of stack)
  copies_in = record {
    weakened = λ k m. let e = kept_at stack k m in let w = s.copies e.0 k e.1 e.2 in weakened_set d.engine.clauses k.id w.weakened ∙ ap Some (sym w.same);
    once = λ k m. let e = kept_at stack k m in (s.copies e.0 k e.1 e.2).once;
    clean = λ k m. let e = kept_at stack k m in (s.copies e.0 k e.1 e.2).clean;
    apart = s.apart;
  }

  module _ {L : Type 0} (takes : L → Told → L → Type 0) (before after : L) (lits : List ℕ) (e : Database)
      (r : Restores takes before d (kept_of (taken (is_wanted stack (variables lits)) stack)) e after) where
    abbrev w : ℕ → Bool
    w = is_wanted stack (variables lits)

    abbrev ks : List Kept
    ks = kept_of (taken w stack)

    abbrev rest : List Elim
    rest = left_in w stack

    z : IsClosed stack w
    z = is_wanted-closed stack (variables lits)

    left_at : (f : Elim) → Contains rest f → Contains stack f × (w f.var ≡ false)
    left_at f m = let q = filter_at (λ (e : Elim). not (w e.var)) stack f m in (q.0, not-true _ q.1)

    taken_or_left : (f : Elim) → Contains stack f → Contains rest f ⊎ Contains (taken w stack) f
    taken_or_left f m = elim (cases_Bool (w f.var)) [
      | inl q ↦ inr (filter_from (λ (e : Elim). w e.var) stack f m q)
      | inr q ↦ inl (filter_from (λ (e : Elim). not (w e.var)) stack f m (not_from_false _ q))
    ]

    back : (k : Kept) → Contains ks k → standing e.engine.clauses k.id ≡ Some (record { literals = set_of k.lits; active = true })
    back k m = r.leads.replayed k.id ∙ restored_back (standing d.engine.clauses) ks (apart_chosen (λ (e : Elim). w e.var) stack s.apart) k m

    others : (id : ℕ) → ((k : Kept) → Contains ks k → id ≢ k.id) → standing e.engine.clauses id ≡ standing d.engine.clauses id
    others id n = r.leads.replayed id ∙ restored_other (standing d.engine.clauses) ks id n

    often : OftenAs (irredundant_of e) (stacked (taken w stack) ++ irredundant_of d)
    often c =
        let a = r.leads.counted c in
        let n = ap (how_many (same_set c)) (none_weakened ks) in
        let g = ap (how_many (same_set c)) (added_lists ks ∙ stacked_lists (taken w stack)) in
        let j = how_many-append (same_set c) (stacked (taken w stack)) (irredundant_of d) in
        omega (arith, a, n, g, j)

    onto : Covered (stacked (taken w stack) ++ irredundant_of d) (irredundant_of e)
    onto = Covered-from_OftenAs (stacked (taken w stack) ++ irredundant_of d) (irredundant_of e) (λ c. sym (often c))

    from : Covered (irredundant_of e) (stacked (taken w stack) ++ irredundant_of d)
    from = Covered-from_OftenAs (irredundant_of e) (stacked (taken w stack) ++ irredundant_of d) often

    copy_left : (f : Elim) (k : Kept) → Contains rest f → Contains f.clauses k → IsWeakenedCopy e.engine.clauses k
    copy_left f k m n =
        let o = left_at f m in
        let c = s.copies f k o.0 n in
        let same = others k.id (λ j i q. chosen_apart (λ (e : Elim). w e.var) stack s.apart j k i (kept_from rest f k m n) (sym q)) in
        record {
          weakened = same_weakened d.engine.clauses e.engine.clauses k.id same ∙ c.weakened;
          same = c.same ∙ sym (same_literals d.engine.clauses e.engine.clauses k.id same);
          once = c.once;
          clean = c.clean;
        }

    whole_left : (id : ℕ) → is_weakened e.engine.clauses id ≡ true → (f : Elim) × (k : Kept) × Contains rest f × Contains f.clauses k × (k.id ≡ id)
    whole_left id h = elim (among_ids ks id) [
      | inl k ↦
          let no : is_weakened e.engine.clauses id ≡ false = ap (is_weakened e.engine.clauses) (sym k.2) ∙ awake k.0.id (set_of k.0.lits) (back k.0 k.1) in
          absurd (both_ways _ no h)
      | inr n ↦
          let o = s.whole id (sym (same_weakened d.engine.clauses e.engine.clauses id (others id n)) ∙ h) in
          elim (taken_or_left o.0 o.2) [
            | inl q ↦ (o.0, o.1, q, o.3, o.4)
            | inr q ↦ absurd (n o.1 (kept_from (taken w stack) o.0 o.1 q o.3) (sym o.4))
          ]
    ]
      where
        awake : (id : ℕ) (c : List ℕ) → standing e.engine.clauses id ≡ Some (record { literals = c; active = true }) → is_weakened e.engine.clauses id ≡ false
        awake id c q = weakened-by e.engine.clauses id ∙ ap (λ (o : Option Standing). is_some (option_and_then if_weakened o)) q

    gone_left : (f : Elim) (id : ℕ) (c : List ℕ) → Contains rest f → active_at e.engine.clauses id ≡ Some c → has_variable f.var c ≡ true → is_tautology c ≡ true
    gone_left f id c m a v = elim (among_ids ks id) [
      | inl k ↦
          let is : set_of k.0.lits ≡ c = same_Some (set_of k.0.lits) c (sym (active_from e.engine.clauses k.0.id (set_of k.0.lits) (back k.0 k.1)) ∙ ap (active_at e.engine.clauses) k.2 ∙ a) in
          let v2 : has_variable f.var k.0.lits ≡ true = sym (any_same (of_variable f.var) (set_of k.0.lits) k.0.lits (same_set-set_of k.0.lits)) ∙ ap (has_variable f.var) is ∙ v in
          let g = kept_at (taken w stack) k.0 k.1 in
          let t = filter_at (λ (e : Elim). w e.var) stack g.0 g.1 in
          let u : wants g.0 f ≡ true = any_from (has_variable f.var) (clauses_of g.0) k.0.lits (map_from (λ (j : Kept). j.lits) g.0.clauses k.0 g.2) v2 in
          absurd (both_ways _ (left_at f m).1 (z g.0 f t.0 (left_at f m).0 t.1 u))
      | inr n ↦ s.gone f id c (left_at f m).0 (sym (same_active d.engine.clauses e.engine.clauses id (others id n)) ∙ a) v
    ]

    abbrev new : BoardView
    new = board_of e rest inputs

    left_inside : IsEngine e.engine → IsBoardInside new e.occurrences
    left_inside en = record {
      board = record {
        searched = record {
          engine = en;
          kept = Kept-covered rest (stacked (taken w stack) ++ irredundant_of d) (irredundant_of e) onto from (Kept-take w stack (irredundant_of d) z s.kept);
          implied = λ c m. Entails-covered (stacked rest ++ (stacked (taken w stack) ++ irredundant_of d)) (stacked rest ++ irredundant_of e) c
              (Covered-behind (stacked rest) (stacked (taken w stack) ++ irredundant_of d) (irredundant_of e) onto) (Entails-take w stack (irredundant_of d) c (s.implied c m));
          irredundant = r.sound.irredundant;
          copies = copy_left;
          whole = whole_left;
          gone = gone_left;
          single = single_chosen (λ (e : Elim). not (w e.var)) stack s.single;
          apart = apart_chosen (λ (e : Elim). not (w e.var)) stack s.apart;
          positive = λ f m. s.positive f (left_at f m).0;
          reserved = λ f m. let le = s.reserved f (left_at f m).0 in let v = r.leads.vars in omega (arith, le, v);
          ids = r.sound.ids;
          first_id = r.sound.first_id;
          last_id = r.sound.last_id;
        };
        level = r.sound.level;
      };
      listed = r.sound.listed;
      wide = r.sound.wide;
    }

    clean_lists : (c : List ℕ) → Contains (lists_of ks) c → is_tautology c ≡ false
    clean_lists c m = let k = map_at (λ (k : Kept). k.lits) ks c m in ap is_tautology (sym k.2) ∙ copies_in.clean k.0 (kept_chosen (λ (e : Elim). w e.var) stack k.0 k.1)

    left_touched : IsTouched (board_of d stack inputs) lits (restorings ks) new
    left_touched = record {
      told = record { due = r.leads.due; replayed = r.leads.replayed; numbered = r.leads.numbered; inputs = refl; vars = r.leads.vars };
      restorings = all_by IsRestoring (restorings ks) (λ t m. let k = map_at restoring ks t m in subst (λ (z : Told). IsRestoring z) k.2 tt);
      stack = refl;
      gone = λ l m. none_left stack (variables lits) (var l) (has_from (variables lits) (var l) (map_from var lits l m));
      irredundant = λ c.
          let a = r.leads.counted c in
          let n = ap (how_many (same_set c)) (none_weakened ks) in
          let g = ap (how_many (same_set c)) (added_lists ks) in
          let t : how_many (same_set c) (no_tautologies (filter_map added_clause (steps_of (restorings ks)))) ≡ how_many (same_set c) (lists_of ks) = ap (λ x. how_many (same_set c) (no_tautologies x)) (added_lists ks) ∙ ap (how_many (same_set c)) (all_clean (lists_of ks) clean_lists) in
          let j = how_many-append (same_set c) (irredundant_of d) (no_tautologies (filter_map added_clause (steps_of (restorings ks)))) in
          omega (arith, a, n, g, t, j);
    }

    module _ (left : List Elim) (is : left ≡ left_in (is_wanted stack (variables lits)) stack) where
      pub touched_inside : IsEngine e.engine → IsBoardInside (board_of e left inputs) e.occurrences
      touched_inside en = subst (λ (x : List Elim). IsBoardInside (board_of e x inputs) e.occurrences) (sym is) (left_inside en)

      pub touched : (ts : List Told) × TakesEach takes before ts after × IsTouched (board_of d stack inputs) lits ts (board_of e left inputs)
      touched = (restorings ks, r.taken, subst (λ (x : List Elim). IsTouched (board_of d stack inputs) lits (restorings ks) (board_of e x inputs)) (sym is) left_touched)
