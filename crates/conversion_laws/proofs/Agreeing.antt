-- What steps without ids leave of each id is what their conversion leaves of it, and their events are the same.
use Rattle.std.proofs.Common.{◌≡◌, ◌≢◌, ℕ, zero, suc, ◌<◌, Bool, false, if◌then◌else◌, nat_eq, List, [], ◌∷◌, ◌++◌, filter, filter_map, flat_map, Option, Some, None, refl, sym, ◌∙◌, ap, inl, inr, arith, eq-eqb, ne_eqb, append-nil}
use Rattle.std.specs.Prelude.{slice_get, option_map}
use Rattle.std.specs.List.{cons_option, position_from}
use Rattle.std.proofs.lemmas.Bool.{cases_Bool}
use Rattle.std.proofs.lemmas.List.Elements.{filter_map-append, filter-append}
use Rattle.session_rules.specs.declared.Event.TheVariants as events
use Rattle.session_rules.specs.declared.Step.{Step}
use Rattle.session_rules.specs.declared.Step.TheVariants as steps
use Rattle.session_rules.specs.declared.LStep.{LStep}
use Rattle.session_rules.specs.declared.LStep.TheVariants as lsteps
use Rattle.session_rules.specs.declared.Standing.{Standing}
use Rattle.session_rules.specs.declared.Standing.TheVariants.{Active, Weakened, Absent}
use Rattle.session_rules.specs.Own.{is_active, is_weakened, event_of, events_of, mentions, standing, standing_after, given_clause, clause_of, id_event_of, id_events_of}
use Rattle.side_laws.specs.Sets.{GivenClause, standing_so, is_such, with_first, behind_step, given_by, with_id, standing_or_absent, standing_at, clause_at, next_id, IsLeastSuch}
use Rattle.side_laws.proofs.Maps.{same_or_other}
use Rattle.side_laws.proofs.Ids.{mentions-push}
use Rattle.side_laws.proofs.Given.{given-push, none_given, id-push, id-other, IsFirst, turned-there, turned-others}
use Rattle.side_laws.proofs.Named.{least-such}
use Rattle.elimination_laws.proofs.Appending.{last_or-push}
use Rattle.conversion_laws.specs.Converted.{IsConvertedStep, input, lemma, deletion, weakening, restoring, query, status, model, core}

-- ---- One more place that names an id

standing-push : (ms : List (ℕ × Standing)) (i : ℕ) (s : Standing) (id : ℕ) → standing (ms ++ (i, s) ∷ []) id ≡ (if nat_eq i id then s else standing ms id)
standing-push ms i s id = rw filter-append (elim (cases_Bool (nat_eq i id)) [
  | inl y ↦ rw (y, last_or-push (filter (λ (m : ℕ × Standing). nat_eq m.0 id) ms) None (i, s)) refl
  | inr n ↦ rw (n, append-nil) refl
])

-- ---- Each kind of step

-- of each id both leave the same standing and the same clause, and both say the same events
pub record Agrees (ps : List Step) (qs : List LStep) : Type 0 where
  pub standings : (id : ℕ) → standing_after qs id ≡ standing_at ps id
  pub clauses : (id : ℕ) → clause_of qs id ≡ clause_at ps id
  pub told : id_events_of qs ≡ events_of ps

pub nothing_agrees : Agrees [] []
unfolding Rattle.side_laws.specs.Sets.behind_steps
nothing_agrees = record {
  standings = λ id. sym (ap standing_or_absent (none_given id));
  clauses = λ id. sym (ap (option_map (λ (g : GivenClause). g.clause)) (none_given id));
  told = refl;
}

-- how an id stands, and its clause, where the clauses that were given are these
abbrev standing_in : List GivenClause → ℕ → Standing
standing_in gs id = standing_or_absent (with_id gs id)

abbrev clause_in : List GivenClause → ℕ → Option (List ℕ)
clause_in gs id = option_map (λ (g : GivenClause). g.clause) (with_id gs id)

module _ (ps : List Step) (qs : List LStep) (p : Step) (q : LStep) (same_event : id_event_of q ≡ event_of p) (a : Agrees ps qs) where
  told-push : id_events_of (qs ++ q ∷ []) ≡ events_of (ps ++ p ∷ [])
  told-push = filter_map-append id_event_of qs (q ∷ []) ∙ ap (λ z. z ++ filter_map id_event_of (q ∷ [])) a.told
      ∙ ap (λ o. events_of ps ++ cons_option o []) same_event ∙ sym (filter_map-append event_of ps (p ∷ []))

  agrees_by : (gs : List GivenClause) → behind_step (given_by ps) p ≡ gs → ((id : ℕ) → standing (flat_map mentions qs ++ mentions q) id ≡ standing_in gs id)
      → ((id : ℕ) → clause_of (qs ++ q ∷ []) id ≡ clause_in gs id) → Agrees (ps ++ p ∷ []) (qs ++ q ∷ [])
  agrees_by gs e f g = let all = given-push ps p ∙ e in record {
    standings = λ id. ap (λ ms. standing ms id) (mentions-push qs q) ∙ f id ∙ sym (ap (λ z. standing_in z id) all);
    clauses = λ id. g id ∙ sym (ap (λ z. clause_in z id) all);
    told = told-push;
  }

  clause-kept : given_clause q ≡ None → (id : ℕ) → clause_of (qs ++ q ∷ []) id ≡ clause_of qs id
  clause-kept gives id = rw (filter_map-append, gives, append-nil) refl

  -- a step that changes no clause
  agrees_silent : given_clause q ≡ None → mentions q ≡ [] → behind_step (given_by ps) p ≡ given_by ps → Agrees (ps ++ p ∷ []) (qs ++ q ∷ [])
  agrees_silent gives names e = agrees_by (given_by ps) e
      (λ id. ap (λ ms. standing (flat_map mentions qs ++ ms) id) names ∙ ap (λ ms. standing ms id) (append-nil (flat_map mentions qs)) ∙ a.standings id)
      (λ id. clause-kept gives id ∙ a.clauses id)

  -- a step that gives a clause
  module _ (c : List ℕ) (gives : given_clause q ≡ Some (next_id ps, c)) (names : mentions q ≡ (next_id ps, Active) ∷ [])
      (e : behind_step (given_by ps) p ≡ given_by ps ++ standing_so Active c ∷ []) where
    abbrev new : List GivenClause
    new = given_by ps ++ standing_so Active c ∷ []

    given_now : clause_of (qs ++ q ∷ []) (next_id ps) ≡ Some c
    given_now = rw (
      filter_map-append,
      gives,
      filter-append,
      eq-eqb (next_id ps) (next_id ps) refl,
      last_or-push (filter (λ (r : ℕ × List ℕ). nat_eq r.0 (next_id ps)) (filter_map given_clause qs)) None (next_id ps, c),
    ) refl

    given_before : (id : ℕ) → id ≢ next_id ps → clause_of (qs ++ q ∷ []) id ≡ clause_of qs id
    given_before id ne = let other : nat_eq (next_id ps) id ≡ false = ne_eqb (next_id ps) id (λ f. ne (sym f)) in rw (filter_map-append, gives, filter-append, other, append-nil) refl

    stands : (id : ℕ) → standing (flat_map mentions qs ++ (next_id ps, Active) ∷ []) id ≡ standing_in new id
    stands id = elim (same_or_other id (next_id ps)) [
      | inl y ↦ standing-push (flat_map mentions qs) (next_id ps) Active id ∙ rw (eq-eqb (next_id ps) id (sym y))
          (sym (ap standing_or_absent (id-push (given_by ps) (standing_so Active c) id y)))
      | inr ne ↦ standing-push (flat_map mentions qs) (next_id ps) Active id ∙ rw (ne_eqb (next_id ps) id (λ y. ne (sym y)))
          (a.standings id ∙ sym (ap standing_or_absent (id-other (given_by ps) (standing_so Active c) id ne)))
    ]

    clauses_now : (id : ℕ) → clause_of (qs ++ q ∷ []) id ≡ clause_in new id
    clauses_now id = elim (same_or_other id (next_id ps)) [
      | inl y ↦ ap (clause_of (qs ++ q ∷ [])) y ∙ given_now ∙ sym (ap (option_map (λ (g : GivenClause). g.clause)) (id-push (given_by ps) (standing_so Active c) id y))
      | inr ne ↦ given_before id ne ∙ a.clauses id ∙ sym (ap (option_map (λ (g : GivenClause). g.clause)) (id-other (given_by ps) (standing_so Active c) id ne))
    ]

    agrees_given : Agrees (ps ++ p ∷ []) (qs ++ q ∷ [])
    agrees_given = agrees_by new e (λ id. ap (λ ms. standing (flat_map mentions qs ++ ms) id) names ∙ stands id) clauses_now

  -- a step that leaves the least id of a set otherwise
  module _ (is_so : Standing → Bool) (left : Standing) (c : List ℕ) (id : ℕ) (gives : given_clause q ≡ None) (names : mentions q ≡ (id, left) ∷ [])
      (e : behind_step (given_by ps) p ≡ with_first is_so left c (given_by ps)) where
    abbrev turned : List GivenClause
    turned = with_first is_so left c (given_by ps)

    module _ (k : ℕ) (at : id ≡ suc k) (g : GivenClause) (f : IsFirst is_so c (given_by ps) k g) where
      there : (x : ℕ) → x ≡ id → with_id turned x ≡ Some (standing_so left g.clause)
      there x y = ap (with_id turned) (y ∙ at) ∙ turned-there is_so left c (given_by ps) k g f

      others : (x : ℕ) → x ≢ id → with_id turned x ≡ with_id (given_by ps) x
      others x ne = turned-others is_so left c (given_by ps) k g f x (λ y. ne (y ∙ sym at))

      turned_stands : (x : ℕ) → standing (flat_map mentions qs ++ (id, left) ∷ []) x ≡ standing_in turned x
      turned_stands x = elim (same_or_other x id) [
        | inl y ↦ standing-push (flat_map mentions qs) id left x ∙ rw (eq-eqb id x (sym y)) (sym (ap standing_or_absent (there x y)))
        | inr ne ↦ standing-push (flat_map mentions qs) id left x ∙ rw (ne_eqb id x (λ y. ne (sym y))) (a.standings x ∙ sym (ap standing_or_absent (others x ne)))
      ]

      turned_clauses : (x : ℕ) → clause_of (qs ++ q ∷ []) x ≡ clause_in turned x
      turned_clauses x = elim (same_or_other x id) [
        | inl y ↦ clause-kept gives x ∙ a.clauses x ∙ ap (option_map (λ (h : GivenClause). h.clause)) (ap (with_id (given_by ps)) (y ∙ at) ∙ f.there)
            ∙ sym (ap (option_map (λ (h : GivenClause). h.clause)) (there x y))
        | inr ne ↦ clause-kept gives x ∙ a.clauses x ∙ sym (ap (option_map (λ (h : GivenClause). h.clause)) (others x ne))
      ]

      agrees_first : Agrees (ps ++ p ∷ []) (qs ++ q ∷ [])
      agrees_first = agrees_by turned e (λ x. ap (λ ms. standing (flat_map mentions qs ++ ms) x) names ∙ turned_stands x) turned_clauses

    by_least : (x : ℕ) → id ≡ x → IsLeastSuch is_so ps c x → Agrees (ps ++ p ∷ []) (qs ++ q ∷ [])
    by_least zero at l = let f = l.there in cc f
    by_least (suc k) at l = agrees_first k at l.given (record { there = l.there; such = l.such; none = none })
      where
        none : (j : ℕ) (g : GivenClause) → j < k → slice_get (given_by ps) j ≡ Some g → is_such is_so c g ≡ false
        none j g lt t = elim (cases_Bool (is_such is_so c g)) [
          | inr n ↦ n
          | inl y ↦ absurd (let le = l.least (suc j) g t y in omega arith)
        ]

    agrees_turned : position_from (is_such is_so c) 1 (given_by ps) ≡ Some id → Agrees (ps ++ p ∷ []) (qs ++ q ∷ [])
    agrees_turned found = by_least id refl (least-such is_so c ps id found)

-- a step and its conversion keep agreement
pub agrees-push : (ps : List Step) (qs : List LStep) (p : Step) (q : LStep) → Agrees ps qs → IsConvertedStep ps p q → Agrees (ps ++ p ∷ []) (qs ++ q ∷ [])
agrees-push ps qs _ _ a (input c) = agrees_given ps qs (steps.Event (events.Input c)) (lsteps.Input (next_id ps) c) refl a c refl refl refl
agrees-push ps qs _ _ a (lemma c hs h) = agrees_given ps qs (steps.Lemma c) (lsteps.Lemma (next_id ps) c hs) refl a c refl refl refl
agrees-push ps qs _ _ a (deletion c id e) = agrees_turned ps qs (steps.Delete c) (lsteps.Delete (id ∷ [])) refl a is_active Absent c id refl refl refl e
agrees-push ps qs _ _ a (weakening c id e) = agrees_turned ps qs (steps.Weaken c) (lsteps.Weaken (id ∷ [])) refl a is_active Weakened c id refl refl refl e
agrees-push ps qs _ _ a (restoring c id e) = agrees_turned ps qs (steps.Restore c) (lsteps.Restore (id ∷ [])) refl a is_weakened Active c id refl refl refl e
agrees-push ps qs _ _ a (query ls) = agrees_silent ps qs (steps.Event (events.Query ls)) (lsteps.Query ls) refl a refl refl refl
agrees-push ps qs _ _ a (status w) = agrees_silent ps qs (steps.Event (events.Status w)) (lsteps.Status w) refl a refl refl refl
agrees-push ps qs _ _ a (model ls) = agrees_silent ps qs (steps.Event (events.Model ls)) (lsteps.Model ls) refl a refl refl refl
agrees-push ps qs _ _ a (core ls hs h) = agrees_silent ps qs (steps.Event (events.Core ls)) (lsteps.Core ls hs) refl a refl refl refl
