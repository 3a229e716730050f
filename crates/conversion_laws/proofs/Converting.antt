-- The conversion of steps without own faults has none, and says the same events.
use Rattle.std.proofs.Common.{◌≡◌, ℕ, zero, suc, ◌+◌, Bool, true, if◌then◌else◌, List, [], ◌∷◌, ◌++◌, length, map, take, flat_map, Contains, slice_get, Option, Some, None, refl, sym, ◌∙◌, ap, subst, arith, append_assoc, append-nil}
use Rattle.std.specs.Prelude.{⊤}
use Rattle.std.proofs.Math.Path.{fun_ext}
use Rattle.std.proofs.lemmas.Bool.{and_parts}
use Rattle.std.proofs.lemmas.Option.{same_Some}
use Rattle.lits.specs.Literal.{neg}
use Rattle.lits.specs.Clause.{same_set}
use Rattle.lits.proofs.Members.{not_in_nil}
use Rattle.session_rules.specs.declared.Form.TheVariants.{Idrup, Lidrup}
use Rattle.session_rules.specs.declared.Event.{Event}
use Rattle.session_rules.specs.declared.Event.TheVariants as events
use Rattle.session_rules.specs.declared.Rule.{Rule}
use Rattle.session_rules.specs.declared.Rule.TheVariants as rules
use Rattle.session_rules.specs.declared.Step.{Step}
use Rattle.session_rules.specs.declared.LStep.{LStep}
use Rattle.session_rules.specs.declared.Standing.{Standing}
use Rattle.session_rules.specs.declared.Standing.TheVariants.{Active, Weakened, Absent}
use Rattle.session_rules.specs.Logic.{closes, hints_fail}
use Rattle.session_rules.specs.History.{order_faults, model_faults, core_faults, broken_at, broken_unless}
use Rattle.session_rules.specs.Own.{is_active, is_weakened, is_absent, mentions, standing_after, clause_of, active_clause, active_clauses, events_of, own_faults, first_not, id_events_of, id_faults, hint_faults, own_id_faults}
use Rattle.session_rules.specs.Verdicts.{OwnFault}
use Rattle.side_laws.specs.Sets.{GivenClause, given_by, with_id, standing_or_absent, standing_at, next_id, IsLeastSuch}
use Rattle.side_laws.proofs.Given.{id-within}
use Rattle.side_laws.proofs.Named.{least-such}
use Rattle.elimination_laws.proofs.Accepting.{faultless_at}
use Rattle.conversion_laws.specs.Converted.{active_at, HintsClose, IsConvertedStep, input, lemma, deletion, weakening, restoring, query, status, model, core, AreConverted, IsConverted}
use Rattle.conversion_laws.proofs.Joined.{parts_nil, join_nil}
use Rattle.conversion_laws.proofs.Agreeing.{Agrees, nothing_agrees, agrees-push}

-- ---- One step

-- the next id has no clause
none_next : (gs : List GivenClause) (id : ℕ) → id ≡ 1 + length gs → with_id gs id ≡ None
none_next gs id e = by_given (with_id gs id) refl
  where
    by_given : (o : Option GivenClause) → with_id gs id ≡ o → with_id gs id ≡ None
    by_given None f = f
    by_given (Some g) f = absurd (let r = id-within gs id g f in let lt = r.1 in omega arith)

module _ (ps : List Step) (qs : List LStep) (a : Agrees ps qs) where
  same_active : active_clause qs ≡ active_at ps
  same_active = fun_ext (λ id. ap (λ s. if is_active s then clause_of qs id else None) (a.standings id) ∙ ap (λ o. if is_active (standing_at ps id) then o else None) (a.clauses id))

  hints_kept : (ls hs : List ℕ) → HintsClose ps ls hs → hint_faults qs ls hs ≡ []
  hints_kept ls hs h = ap (λ f. broken_at rules.Hint (hints_fail f ls hs)) same_active ∙ ap (broken_at rules.Hint) h.close

  id_free : id_faults qs (next_id ps) ≡ []
  id_free = ap (λ s. broken_unless (is_absent s) rules.IdTaken) (a.standings (next_id ps) ∙ ap standing_or_absent (none_next (given_by ps) (next_id ps) refl))

  order_kept : (e : Event) → order_faults (events_of ps) e ≡ [] → order_faults (id_events_of qs) e ≡ []
  order_kept e h = ap (λ es. order_faults es e) a.told ∙ h

  stands_so : (is_so : Standing → Bool) (c : List ℕ) (id : ℕ) → IsLeastSuch is_so ps c id → is_so (standing_after qs id) ≡ true
  stands_so is_so c id l = ap is_so (a.standings id) ∙ ap (λ o. is_so (standing_or_absent o)) l.there ∙ (and_parts (is_so l.given.standing) (same_set c l.given.clause) l.such).0

  one_so : (rule : ℕ → Rule) (is_so : Standing → Bool) (left : Standing) (c : List ℕ) (id : ℕ) → IsLeastSuch is_so ps c id
      → broken_at rule (first_not is_so left (flat_map mentions qs) 1 (id ∷ [])) ≡ []
  one_so rule is_so left c id l = let e = stands_so is_so c id l in rw e refl

  pub step_kept : (p : Step) (q : LStep) → own_faults ps p ≡ [] → IsConvertedStep ps p q → own_id_faults qs q ≡ []
  unfolding own_faults own_id_faults
  step_kept _ _ h (input c) = join_nil (order_faults (id_events_of qs) (events.Input c)) _ (order_kept (events.Input c) h) id_free
  step_kept _ _ h (lemma c hs k) = join_nil (id_faults qs (next_id ps)) _ id_free (hints_kept (map neg c) hs k)
  step_kept _ _ h (deletion c id e) = one_so rules.NotActive is_active Absent c id (least-such is_active c ps id e)
  step_kept _ _ h (weakening c id e) = one_so rules.NotActive is_active Weakened c id (least-such is_active c ps id e)
  step_kept _ _ h (restoring c id e) = one_so rules.NotWeakened is_weakened Active c id (least-such is_weakened c ps id e)
  step_kept _ _ h (query ls) = order_kept (events.Query ls) h
  step_kept _ _ h (status w) = order_kept (events.Status w) h
  step_kept _ _ h (model m) = ap (λ es. order_faults es (events.Model m) ++ model_faults es m) a.told ∙ h
  step_kept _ _ h (core u hs k) =
      let es = events_of ps in
      let one = parts_nil (order_faults es (events.Core u) ++ core_faults es u) (broken_unless (closes (active_clauses ps) u) rules.CoreOpen) h in
      let two = parts_nil (order_faults es (events.Core u)) (core_faults es u) one.0 in
      join_nil (order_faults (id_events_of qs) (events.Core u) ++ hint_faults qs u hs) _
      (join_nil (order_faults (id_events_of qs) (events.Core u)) _ (order_kept (events.Core u) two.0) (hints_kept u hs k))
      (ap (λ z. core_faults z u) a.told ∙ two.1)

-- ---- All steps

module _ {S : Type 0} (faults : List S → S → List Rule) where
  -- no step ahead has a fault behind those before it
  abbrev pub AreClean : List S → List S → Type 0
  AreClean before [] = ⊤
  AreClean before (p ∷ ps) = (faults before p ≡ []) × AreClean (before ++ p ∷ []) ps

  pub clean-from : (ps before : List S) → ((front : List S) (p : S) (after : List S) → before ++ ps ≡ front ++ p ∷ after → faults front p ≡ []) → AreClean before ps
  clean-from [] before h = tt
  clean-from (p ∷ ps) before h = (h before p ps refl, clean-from ps (before ++ p ∷ []) (λ front q after e. h front q after (sym (append_assoc before (p ∷ []) ps) ∙ e)))

  pub clean-at : (ps before : List S) → AreClean before ps → (k : ℕ) (p : S) → slice_get ps k ≡ Some p → faults (before ++ take k ps) p ≡ []
  clean-at [] before h k p e = cc e
  clean-at (q ∷ ps) before h zero p e = let f : q ≡ p = same_Some _ _ e in subst (λ z. faults (before ++ []) z ≡ []) f (subst (λ z. faults z q ≡ []) (sym (append-nil before)) h.0)
  clean-at (q ∷ ps) before h (suc k) p e = subst (λ z. faults z p ≡ []) (append_assoc before (q ∷ []) (take k ps)) (clean-at ps (before ++ q ∷ []) h.1 k p e)

all_kept : (ps before : List Step) (qs qbefore : List LStep) → Agrees before qbefore → AreConverted before ps qs → AreClean own_faults before ps → AreClean own_id_faults qbefore qs
all_kept [] before [] qbefore a k c = tt
all_kept [] before (q ∷ qs) qbefore a k c = absurd k
all_kept (p ∷ ps) before [] qbefore a k c = absurd k
all_kept (p ∷ ps) before (q ∷ qs) qbefore a k c = (step_kept before qbefore a p q c.0 k.0, all_kept ps (before ++ p ∷ []) qs (qbefore ++ q ∷ []) (agrees-push before qbefore p q a k.0) k.1 c.1)

all_agree : (ps before : List Step) (qs qbefore : List LStep) → Agrees before qbefore → AreConverted before ps qs → Agrees (before ++ ps) (qbefore ++ qs)
all_agree [] before [] qbefore a k = subst (λ z. Agrees z (qbefore ++ [])) (sym (append-nil before)) (subst (Agrees before) (sym (append-nil qbefore)) a)
all_agree [] before (q ∷ qs) qbefore a k = absurd k
all_agree (p ∷ ps) before [] qbefore a k = absurd k
all_agree (p ∷ ps) before (q ∷ qs) qbefore a k =
    subst (λ z. Agrees z (qbefore ++ q ∷ qs)) (append_assoc before (p ∷ []) ps) (subst (Agrees ((before ++ p ∷ []) ++ ps)) (append_assoc qbefore (q ∷ []) qs)
    (all_agree ps (before ++ p ∷ []) qs (qbefore ++ q ∷ []) (agrees-push before qbefore p q a k.0) k.1))

-- a proof and its conversion agree
pub converted_agrees : (ps : List Step) (qs : List LStep) → IsConverted ps qs → Agrees ps qs
converted_agrees ps qs k = all_agree ps [] qs [] nothing_agrees k

-- and the conversion of one without own faults has none
pub converted_kept : (ps : List Step) (qs : List LStep) → IsConverted ps qs → ((k : ℕ) (rule : Rule) → OwnFault Idrup ps k rule → ⊥) → (k : ℕ) (rule : Rule) → OwnFault Lidrup qs k rule → ⊥
converted_kept ps qs k none n rule f =
    let clean = all_kept ps [] qs [] nothing_agrees k (clean-from own_faults ps [] (faultless_at Idrup ps none)) in
    not_in_nil rule (subst (λ z. Contains z rule) (clean-at own_id_faults qs [] clean n f.step f.is_step) f.breaks)
