-- Translated steps with ids break the translated rules: ids stand as before, and what they name is translated.
use Rattle.std.proofs.Common.{◌≡◌, ℕ, Bool, true, nat_eq, if◌then◌else◌, List, map, filter, filter_map, flat_map, Option, Some, None, option_map, refl, ap, ◌∙◌, subst}
use Rattle.std.specs.Prelude.{false}
use Rattle.std.specs.List.{list_all}
use Rattle.lits.specs.Literal.{neg}
use Rattle.lits.specs.Numbering.{are_known, dense_lits}
use Rattle.session_rules.specs.declared.Event.{Event}
use Rattle.session_rules.specs.declared.Event.TheVariants as events
use Rattle.session_rules.specs.declared.LStep.{LStep}
use Rattle.session_rules.specs.declared.LStep.TheVariants as lsteps
use Rattle.session_rules.specs.declared.Rule.{Rule}
use Rattle.session_rules.specs.declared.Rule.TheVariants as rules
use Rattle.session_rules.specs.declared.Standing.{Standing}
use Rattle.session_rules.specs.declared.Standing.TheVariants.{Active, Weakened, Absent}
use Rattle.session_rules.specs.Logic.{hints_fail}
use Rattle.session_rules.specs.History.{last, broken_at, broken_unless, order_faults, model_faults, core_faults}
use Rattle.session_rules.specs.Own.{is_active, is_weakened, is_absent, mentions, standing, standing_after, given_clause, clause_or_none, clause_of, active_clause, first_not, id_event_of, id_events_of, id_faults, hint_faults, own_id_faults}
use Rattle.numbering_laws.specs.Dense.{dense_event, dense_id_step, dense_id_steps, is_known_id_step, are_known_id_steps, dense_rule, KnownById}
use Rattle.numbering_laws.proofs.Mapped.{filter-mapped, last-mapped, filter_map-mapped, flat_map-mapped, all-taken, all-filtered, last-has}
use Rattle.numbering_laws.proofs.Propagated.{negs-dense, negs-known}
use Rattle.numbering_laws.proofs.Events.{is_known_event, dense_rules, unless-dense, position-dense, both-dense, order-dense, model-dense, core-dense}
use Rattle.numbering_laws.proofs.Hints.{fail-dense}

module _ (vars : List ℕ) where
  -- ---- Ids

  mentions-dense : (p : LStep) → mentions (dense_id_step vars p) ≡ mentions p
  mentions-dense (lsteps.Input id c) = refl
  mentions-dense (lsteps.Lemma id c hs) = refl
  mentions-dense (lsteps.Delete is) = refl
  mentions-dense (lsteps.Weaken is) = refl
  mentions-dense (lsteps.Restore is) = refl
  mentions-dense (lsteps.Query c) = refl
  mentions-dense (lsteps.Status s) = refl
  mentions-dense (lsteps.Model m) = refl
  mentions-dense (lsteps.Core u hs) = refl

  pub all_mentions-dense : (ps : List LStep) → flat_map mentions (dense_id_steps vars ps) ≡ flat_map mentions ps
  all_mentions-dense ps = flat_map-mapped (dense_id_step vars) mentions mentions mentions-dense ps

  pub standing-dense : (ps : List LStep) (id : ℕ) → standing_after (dense_id_steps vars ps) id ≡ standing_after ps id
  standing-dense ps id = ap (λ ms. standing ms id) (all_mentions-dense ps)

  -- ---- The clauses of ids

  abbrev dense_given : ℕ × List ℕ → ℕ × List ℕ
  dense_given p = (p.0, dense_lits vars p.1)

  abbrev is_known_given : ℕ × List ℕ → Bool
  is_known_given p = are_known vars p.1

  abbrev names : ℕ → ℕ × List ℕ → Bool
  names id p = nat_eq p.0 id

  given-dense : (p : LStep) → given_clause (dense_id_step vars p) ≡ option_map dense_given (given_clause p)
  given-dense (lsteps.Input id c) = refl
  given-dense (lsteps.Lemma id c hs) = refl
  given-dense (lsteps.Delete is) = refl
  given-dense (lsteps.Weaken is) = refl
  given-dense (lsteps.Restore is) = refl
  given-dense (lsteps.Query c) = refl
  given-dense (lsteps.Status s) = refl
  given-dense (lsteps.Model m) = refl
  given-dense (lsteps.Core u hs) = refl

  given-if : (id : ℕ) (c : List ℕ) (g : ℕ × List ℕ) → Some (id, c) ≡ Some g → are_known vars c ≡ true → is_known_given g ≡ true
  given-if id c g e k = let f : (id, c) ≡ g = cc in subst (λ z. is_known_given z ≡ true) f k

  given-known : (p : LStep) (g : ℕ × List ℕ) → given_clause p ≡ Some g → is_known_id_step vars p ≡ true → is_known_given g ≡ true
  given-known (lsteps.Input id c) g e k = given-if id c g e k
  given-known (lsteps.Lemma id c hs) g e k = given-if id c g e k
  given-known (lsteps.Delete is) g e k = cc
  given-known (lsteps.Weaken is) g e k = cc
  given-known (lsteps.Restore is) g e k = cc
  given-known (lsteps.Query c) g e k = cc
  given-known (lsteps.Status s) g e k = cc
  given-known (lsteps.Model m) g e k = cc
  given-known (lsteps.Core u hs) g e k = cc

  clause_of-dense : (ps : List LStep) (id : ℕ) → clause_of (dense_id_steps vars ps) id ≡ option_map (dense_lits vars) (clause_of ps id)
  clause_of-dense ps id = ap (λ gs. clause_or_none (last (filter (names id) gs))) (filter_map-mapped (dense_id_step vars) dense_given given_clause given_clause given-dense ps)
      ∙ ap (λ gs. clause_or_none (last gs)) (filter-mapped dense_given (names id) (names id) (filter_map given_clause ps) (λ g m. refl))
      ∙ ap clause_or_none (last-mapped dense_given (filter (names id) (filter_map given_clause ps)))
      ∙ or_none (last (filter (names id) (filter_map given_clause ps)))
    where
      or_none : (o : Option (ℕ × List ℕ)) → clause_or_none (option_map dense_given o) ≡ option_map (dense_lits vars) (clause_or_none o)
      or_none None = refl
      or_none (Some g) = refl

  clause_of-known : (ps : List LStep) (id : ℕ) (c : List ℕ) → are_known_id_steps vars ps ≡ true → clause_of ps id ≡ Some c → are_known vars c ≡ true
  clause_of-known ps id c k e = of_last (last (filter (names id) (filter_map given_clause ps))) refl e
    where
      of_last : (o : Option (ℕ × List ℕ)) → last (filter (names id) (filter_map given_clause ps)) ≡ o → clause_or_none o ≡ Some c → are_known vars c ≡ true
      of_last None q e = cc
      of_last (Some g) q e = let f : g.1 ≡ c = cc e in subst (λ z. are_known vars z ≡ true) f
          (last-has is_known_given None (filter (names id) (filter_map given_clause ps)) g (λ y h. cc h)
          (all-filtered (names id) is_known_given (filter_map given_clause ps) (all-taken given_clause (is_known_id_step vars) is_known_given given-known ps k)) q)

  pub active_clause-dense : (ps : List LStep) (id : ℕ) → active_clause (dense_id_steps vars ps) id ≡ option_map (dense_lits vars) (active_clause ps id)
  active_clause-dense ps id = ap (λ s. if is_active s then clause_of (dense_id_steps vars ps) id else None) (standing-dense ps id)
      ∙ ap (λ o. if is_active (standing_after ps id) then o else None) (clause_of-dense ps id)
      ∙ through (is_active (standing_after ps id)) (clause_of ps id)
    where
      through : (b : Bool) (o : Option (List ℕ)) → (if b then option_map (dense_lits vars) o else None) ≡ option_map (dense_lits vars) (if b then o else None)
      through true o = refl
      through false o = refl

  pub active_clause-known : (ps : List LStep) → are_known_id_steps vars ps ≡ true → KnownById vars (active_clause ps)
  active_clause-known ps k = λ id c e. through id c (is_active (standing_after ps id)) e
    where
      through : (id : ℕ) (c : List ℕ) (b : Bool) → (if b then clause_of ps id else None) ≡ Some c → are_known vars c ≡ true
      through id c true e = clause_of-known ps id c k e
      through id c false e = cc

  -- ---- Events

  id_event-dense : (p : LStep) → id_event_of (dense_id_step vars p) ≡ option_map (dense_event vars) (id_event_of p)
  id_event-dense (lsteps.Input id c) = refl
  id_event-dense (lsteps.Lemma id c hs) = refl
  id_event-dense (lsteps.Delete is) = refl
  id_event-dense (lsteps.Weaken is) = refl
  id_event-dense (lsteps.Restore is) = refl
  id_event-dense (lsteps.Query c) = refl
  id_event-dense (lsteps.Status s) = refl
  id_event-dense (lsteps.Model m) = refl
  id_event-dense (lsteps.Core u hs) = refl

  pub id_events-dense : (ps : List LStep) → id_events_of (dense_id_steps vars ps) ≡ map (dense_event vars) (id_events_of ps)
  id_events-dense ps = filter_map-mapped (dense_id_step vars) (dense_event vars) id_event_of id_event_of id_event-dense ps

  event-if : (d e : Event) → Some d ≡ Some e → is_known_event vars d ≡ true → is_known_event vars e ≡ true
  event-if d e f k = let g : d ≡ e = cc in subst (λ z. is_known_event vars z ≡ true) g k

  id_event-known : (p : LStep) (e : Event) → id_event_of p ≡ Some e → is_known_id_step vars p ≡ true → is_known_event vars e ≡ true
  id_event-known (lsteps.Input id c) e f k = event-if (events.Input c) e f k
  id_event-known (lsteps.Lemma id c hs) e f k = cc
  id_event-known (lsteps.Delete is) e f k = cc
  id_event-known (lsteps.Weaken is) e f k = cc
  id_event-known (lsteps.Restore is) e f k = cc
  id_event-known (lsteps.Query c) e f k = event-if (events.Query c) e f k
  id_event-known (lsteps.Status s) e f k = event-if (events.Status s) e f k
  id_event-known (lsteps.Model m) e f k = event-if (events.Model m) e f k
  id_event-known (lsteps.Core u hs) e f k = event-if (events.Core u) e f k

  pub id_events-known : (ps : List LStep) → are_known_id_steps vars ps ≡ true → list_all (is_known_event vars) (id_events_of ps) ≡ true
  id_events-known ps k = all-taken id_event_of (is_known_id_step vars) (is_known_event vars) id_event-known ps k

  -- ---- The rules of a step

  order-step : (ps : List LStep) (e : Event) → order_faults (id_events_of (dense_id_steps vars ps)) (dense_event vars e) ≡ dense_rules vars (order_faults (id_events_of ps) e)
  order-step ps e = ap (λ es. order_faults es (dense_event vars e)) (id_events-dense ps) ∙ order-dense vars (id_events_of ps) e

  id-step : (ps : List LStep) (id : ℕ) → id_faults (dense_id_steps vars ps) id ≡ dense_rules vars (id_faults ps id)
  id-step ps id = ap (λ s. broken_unless (is_absent s) rules.IdTaken) (standing-dense ps id) ∙ unless-dense vars (is_absent (standing_after ps id)) rules.IdTaken rules.IdTaken refl

  hint-step : (ps : List LStep) (ls hs : List ℕ) → are_known_id_steps vars ps ≡ true → are_known vars ls ≡ true
      → hint_faults (dense_id_steps vars ps) (dense_lits vars ls) hs ≡ dense_rules vars (hint_faults ps ls hs)
  hint-step ps ls hs k kl = ap (broken_at rules.Hint)
      (fail-dense vars (active_clause ps) (active_clause (dense_id_steps vars ps)) (active_clause-known ps k) (λ id. active_clause-dense ps id) ls hs kl)
      ∙ position-dense vars rules.Hint (λ n. refl) (hints_fail (active_clause ps) ls hs)

  places-step : (is_so : Standing → Bool) (s : Standing) (f : ℕ → Rule) → ((n : ℕ) → dense_rule vars (f n) ≡ f n) → (ps : List LStep) (is : List ℕ)
      → broken_at f (first_not is_so s (flat_map mentions (dense_id_steps vars ps)) 1 is) ≡ dense_rules vars (broken_at f (first_not is_so s (flat_map mentions ps) 1 is))
  places-step is_so s f h ps is = ap (λ ms. broken_at f (first_not is_so s ms 1 is)) (all_mentions-dense ps) ∙ position-dense vars f h (first_not is_so s (flat_map mentions ps) 1 is)

  -- a step breaks the rules of its translation, with their literals translated
  pub own_id-dense : (ps : List LStep) (p : LStep) → are_known_id_steps vars ps ≡ true → is_known_id_step vars p ≡ true
      → own_id_faults (dense_id_steps vars ps) (dense_id_step vars p) ≡ dense_rules vars (own_id_faults ps p)
  unfolding own_id_faults
  own_id-dense ps (lsteps.Input id c) k kp = both-dense vars _ _ _ _ (order-step ps (events.Input c)) (id-step ps id)
  own_id-dense ps (lsteps.Lemma id c hs) k kp = both-dense vars _ _ _ _ (id-step ps id)
      (ap (λ ls. hint_faults (dense_id_steps vars ps) ls hs) (negs-dense vars c) ∙ hint-step ps (map neg c) hs k (negs-known vars c kp))
  own_id-dense ps (lsteps.Delete is) k kp = places-step is_active Absent rules.NotActive (λ n. refl) ps is
  own_id-dense ps (lsteps.Weaken is) k kp = places-step is_active Weakened rules.NotActive (λ n. refl) ps is
  own_id-dense ps (lsteps.Restore is) k kp = places-step is_weakened Active rules.NotWeakened (λ n. refl) ps is
  own_id-dense ps (lsteps.Query c) k kp = order-step ps (events.Query c)
  own_id-dense ps (lsteps.Status s) k kp = order-step ps (events.Status s)
  own_id-dense ps (lsteps.Model m) k kp = both-dense vars _ _ _ _ (order-step ps (events.Model m))
      (ap (λ es. model_faults es (dense_lits vars m)) (id_events-dense ps) ∙ model-dense vars (id_events_of ps) m kp)
  own_id-dense ps (lsteps.Core u hs) k kp = both-dense vars _ _ _ _
      (both-dense vars _ _ _ _ (order-step ps (events.Core u)) (hint-step ps u hs k kp))
      (ap (λ es. core_faults es (dense_lits vars u)) (id_events-dense ps) ∙ core-dense vars (id_events_of ps) u (id_events-known ps k))
