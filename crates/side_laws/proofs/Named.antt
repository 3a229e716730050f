-- The id that a step names: which it is, and what the step changes of each id. Small cases, each computed, stand at the end.
use Rattle.std.proofs.Common.{◌≡◌, ℕ, zero, suc, ◌+◌, ◌<◌, ◌≤◌, Bool, true, false, List, [], ◌∷◌, ◌++◌, Some, None, refl, sym, ◌∙◌, ap, inl, inr, arith}
use Rattle.std.specs.Prelude.{slice_get}
use Rattle.std.specs.List.{position_from}
use Rattle.std.proofs.lemmas.Option.{same_Some}
use Rattle.std.proofs.lemmas.Bool.{cases_Bool}
use Rattle.session_rules.specs.declared.Event.TheVariants as events
use Rattle.session_rules.specs.declared.Step.{Step}
use Rattle.session_rules.specs.declared.Step.TheVariants as steps
use Rattle.session_rules.specs.declared.Standing.{Standing}
use Rattle.session_rules.specs.declared.Standing.TheVariants.{Active, Weakened, Absent}
use Rattle.session_rules.specs.Own.{is_active, is_weakened}
use Rattle.side_laws.specs.Sets.{GivenClause, standing_so, is_such, with_first, behind_step, behind_steps, given_by, with_id, standing_or_absent, standing_at, clause_at, next_id, named_id, IsLeastSuch, LeavesOthers, left_by, kept_of_given, kept_at, HoldsSets}
use Rattle.side_laws.specs.ClauseStates.{Clauses, ChangesAt}
use Rattle.side_laws.proofs.Given.{IsFirst, given-push, id-push, id-other, turned-there, turned-others}

-- ---- The least of a set

-- a position that was found is that of the first
pub record FoundAt (is_so : Standing → Bool) (c : List ℕ) (gs : List GivenClause) (i id : ℕ) : Type 0 where
  pub place : ℕ
  pub given : GivenClause
  pub is : id ≡ i + place
  pub first : IsFirst is_so c gs place given

first-of-more : (is_so : Standing → Bool) (c : List ℕ) (h : GivenClause) (gs : List GivenClause) (k : ℕ) (g : GivenClause) → is_such is_so c h ≡ false → IsFirst is_so c gs k g → IsFirst is_so c (h ∷ gs) (suc k) g
first-of-more is_so c h gs k g n f = record { there = f.there; such = f.such; none = none }
  where
    none : (j : ℕ) (x : GivenClause) → j < suc k → slice_get (h ∷ gs) j ≡ Some x → is_such is_so c x ≡ false
    none zero x lt t = ap (is_such is_so c) (sym (same_Some _ _ t)) ∙ n
    none (suc j) x lt t = f.none j x (omega arith) t

found-at : (is_so : Standing → Bool) (c : List ℕ) (gs : List GivenClause) (i id : ℕ) → position_from (is_such is_so c) i gs ≡ Some id → FoundAt is_so c gs i id
found-at is_so c [] i id e = cc e
found-at is_so c (h ∷ gs) i id e = elim (cases_Bool (is_such is_so c h)) [
  | inl y ↦ let f : i ≡ id = same_Some _ _ (rw y at e) in
      record { place = 0; given = h; is = omega arith; first = record { there = refl; such = y; none = λ j x lt t. absurd (omega arith) } }
  | inr n ↦ let r = found-at is_so c gs (i + 1) id (rw n at e) in let f = r.is in
      record { place = suc r.place; given = r.given; is = omega arith; first = first-of-more is_so c h gs r.place r.given n r.first }
]

module _ (is_so : Standing → Bool) (c : List ℕ) (ps : List Step) (id : ℕ) where
  least-at : (k : ℕ) (g : GivenClause) → id ≡ suc k → IsFirst is_so c (given_by ps) k g → IsLeastSuch is_so ps c id
  least-at k g e f = record { given = g; there = ap (with_id (given_by ps)) e ∙ f.there; such = f.such; least = least }
    where
      least : (x : ℕ) (h : GivenClause) → with_id (given_by ps) x ≡ Some h → is_such is_so c h ≡ true → id ≤ x
      least zero h t y = cc t
      least (suc j) h t y = grind (arith, f.none j h, e, t, y)

  pub least-such : position_from (is_such is_so c) 1 (given_by ps) ≡ Some id → IsLeastSuch is_so ps c id
  least-such e = let r = found-at is_so c (given_by ps) 1 id e in let f = r.is in least-at r.place r.given (omega arith) r.first

-- ---- What a step changes

module _ (ps : List Step) (p : Step) (id : ℕ) where
  leaves-turned : (is_so : Standing → Bool) (left : Standing) (c : List ℕ) → behind_step (given_by ps) p ≡ with_first is_so left c (given_by ps) → left ≡ left_by p
      → position_from (is_such is_so c) 1 (given_by ps) ≡ Some id → LeavesOthers ps p id
  leaves-turned is_so left c turns is e = let r = found-at is_so c (given_by ps) 1 id e in let f = r.is in
      let at : id ≡ suc r.place = omega arith in
      let all = given-push ps p ∙ turns in record {
        there = ap (λ gs. standing_or_absent (with_id gs id)) all
            ∙ ap standing_or_absent (ap (with_id (with_first is_so left c (given_by ps))) at ∙ turned-there is_so left c (given_by ps) r.place r.given r.first) ∙ is;
        others = λ x ne. ap (λ gs. with_id gs x) all ∙ turned-others is_so left c (given_by ps) r.place r.given r.first x (λ y. ne (y ∙ sym at));
      }

  leaves-given : (c : List ℕ) → behind_step (given_by ps) p ≡ given_by ps ++ standing_so Active c ∷ [] → Active ≡ left_by p → Some (next_id ps) ≡ Some id → LeavesOthers ps p id
  leaves-given c gives is e = let at : next_id ps ≡ id = same_Some _ _ e in let all = given-push ps p ∙ gives in record {
    there = ap (λ gs. standing_or_absent (with_id gs id)) all ∙ ap standing_or_absent (id-push (given_by ps) (standing_so Active c) id (sym at)) ∙ is;
    others = λ x ne. ap (λ gs. with_id gs x) all ∙ id-other (given_by ps) (standing_so Active c) x (λ y. ne (y ∙ at));
  }

pub leaves-others : (ps : List Step) (p : Step) (id : ℕ) → named_id ps p ≡ Some id → LeavesOthers ps p id
leaves-others ps (steps.Event (events.Input c)) id e = leaves-given ps (steps.Event (events.Input c)) id c refl refl e
leaves-others ps (steps.Event (events.Query c)) id e = cc e
leaves-others ps (steps.Event (events.Status w)) id e = cc e
leaves-others ps (steps.Event (events.Model c)) id e = cc e
leaves-others ps (steps.Event (events.Core c)) id e = cc e
leaves-others ps (steps.Event (events.Values c)) id e = cc e
leaves-others ps (steps.Event (events.Failed c)) id e = cc e
leaves-others ps (steps.Lemma c) id e = leaves-given ps (steps.Lemma c) id c refl refl e
leaves-others ps (steps.Delete c) id e = leaves-turned ps (steps.Delete c) id is_active Absent c refl refl e
leaves-others ps (steps.Weaken c) id e = leaves-turned ps (steps.Weaken c) id is_active Weakened c refl refl e
leaves-others ps (steps.Restore c) id e = leaves-turned ps (steps.Restore c) id is_weakened Active c refl refl e

-- of two maps that hold what the steps leave before a step and behind it, one id differs
pub changes-named : (m n : Clauses) (next after : ℕ) (ps : List Step) (p : Step) (id : ℕ) → HoldsSets m next ps → HoldsSets n after (ps ++ p ∷ []) → named_id ps p ≡ Some id
    → ChangesAt m n id (kept_at (ps ++ p ∷ []) id)
changes-named m n next after ps p id h k e = record {
  there = k.clauses id;
  others = λ x ne. k.clauses x ∙ ap kept_of_given ((leaves-others ps p id e).others x ne) ∙ sym (h.clauses x);
}

-- ---- Small cases

-- `i 1 2`, `i 2 1 1`, `l 1 2`, `w 2 1`, `d 1 2`: the weakening names id 1, the deletion id 2
abbrev some_steps : List Step
some_steps = steps.Event (events.Input (2 ∷ 4 ∷ [])) ∷ steps.Event (events.Input (4 ∷ 2 ∷ 2 ∷ [])) ∷ steps.Lemma (2 ∷ 4 ∷ []) ∷ steps.Weaken (4 ∷ 2 ∷ []) ∷ steps.Delete (2 ∷ 4 ∷ []) ∷ []

first_is_weakened : standing_at some_steps 1 ≡ Weakened
unfolding behind_steps with_first
first_is_weakened = refl

second_is_deleted : standing_at some_steps 2 ≡ Absent
unfolding behind_steps with_first
second_is_deleted = refl

third_is_active : standing_at some_steps 3 ≡ Active
unfolding behind_steps with_first
third_is_active = refl

second_has_its_literals : clause_at some_steps 2 ≡ Some (4 ∷ 2 ∷ 2 ∷ [])
unfolding behind_steps with_first
second_has_its_literals = refl

a_further_deletion_names_3 : named_id some_steps (steps.Delete (4 ∷ 2 ∷ [])) ≡ Some 3
unfolding behind_steps with_first
a_further_deletion_names_3 = refl

a_restoring_names_1 : named_id some_steps (steps.Restore (2 ∷ 4 ∷ [])) ≡ Some 1
unfolding behind_steps with_first
a_restoring_names_1 = refl

no_id_has_another_set : named_id some_steps (steps.Delete (2 ∷ [])) ≡ None
unfolding behind_steps with_first
no_id_has_another_set = refl

a_lemma_gets_4 : named_id some_steps (steps.Lemma (2 ∷ [])) ≡ Some 4
unfolding behind_steps with_first
a_lemma_gets_4 = refl
