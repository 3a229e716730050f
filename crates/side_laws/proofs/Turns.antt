-- Going through a list of ids in turn: what is held after some of them, and where the first id is that isn't so.
use Rattle.std.proofs.Common.{◌≡◌, ℕ, suc, ◌+◌, ◌<◌, ◌≤◌, Bool, true, false, if◌then◌else◌, List, [], ◌∷◌, ◌++◌, length, take, drop, get_or, flat_map, Some, None, refl, sym, ap, ◌∙◌, subst, arith, append-nil, append_assoc, add-one, length-drop}
use Rattle.std.proofs.Math.Seq.{take-suc, drop-cons}
use Rattle.std.proofs.lemmas.List.{map-append, take_all, nil_from_length}
use Rattle.std.specs.FinMap.{get}
use Rattle.session_rules.specs.declared.LStep.{LStep}
use Rattle.session_rules.specs.declared.Standing.{Standing}
use Rattle.session_rules.specs.Own.{each_is, mentions, given_clause, first_not}
use Rattle.side_laws.specs.ClauseStates.{Clauses, standing_of, AreWithin}
use Rattle.side_laws.specs.Ids.{HoldsIds}
use Rattle.side_laws.proofs.Ids.{holds_silent, mentions-push, first_not-named}

-- a kind of step with a list of ids, each of which it leaves so
pub record IsKind (step : List ℕ → LStep) (left : Standing) : Type 0 where
  pub gives : (is : List ℕ) → given_clause (step is) ≡ None
  pub names : (is : List ℕ) → mentions (step is) ≡ each_is left is

-- what holds after the first ids of a list were so
pub record Went (step : List ℕ → LStep) (is_so : Standing → Bool) (left : Standing) (start now : Clauses) (ids : List ℕ) (i : ℕ) : Type 0 where
  pub holds : (ps : List LStep) → HoldsIds start ps → HoldsIds now (ps ++ step (take i ids) ∷ [])
  pub place : (ps : List LStep) → HoldsIds start ps → first_not is_so left (flat_map mentions ps) 1 ids ≡ first_not is_so left (flat_map mentions (ps ++ step (take i ids) ∷ [])) (i + 1) (drop i ids)
  pub within : (vars : ℕ) → AreWithin start vars → AreWithin now vars

drop_all : (xs : List ℕ) (i : ℕ) → length xs ≤ i → drop i xs ≡ []
drop_all xs i ge = nil_from_length (drop i xs) (simp length-drop (omega arith))

module _ (step : List ℕ → LStep) (is_so : Standing → Bool) (left : Standing) (kind : IsKind step left) where
  pub went-start : (m : Clauses) (ids : List ℕ) → Went step is_so left m m ids 0
  went-start m ids = record {
    holds = λ ps h. holds_silent m ps (step []) (kind.gives []) (kind.names []) h;
    place = λ ps h. ap (λ ms. first_not is_so left ms 1 ids) (sym (mentions-push ps (step []) ∙ ap (λ ns. flat_map mentions ps ++ ns) (kind.names []) ∙ append-nil (flat_map mentions ps)));
    within = λ vars w. w;
  }

  module _ (m n : Clauses) (ids : List ℕ) (i : ℕ) (went : Went step is_so left m n ids i) where
    module _ (lt : i < length ids) where
      -- the next id decides
      next_place : (ps : List LStep) → HoldsIds m ps → first_not is_so left (flat_map mentions ps) 1 ids
          ≡ (if is_so (standing_of (get n (get_or ids i 0))) then first_not is_so left (flat_map mentions (ps ++ step (take i ids) ∷ []) ++ (get_or ids i 0, left) ∷ []) (i + 1 + 1) (drop (suc i) ids) else Some (i + 1))
      next_place ps h = went.place ps h ∙ ap (first_not is_so left (flat_map mentions (ps ++ step (take i ids) ∷ [])) (i + 1)) (drop-cons ids i 0 lt)
          ∙ first_not-named step left is_so kind.names n ps (take i ids) (get_or ids i 0) (drop (suc i) ids) (i + 1) (went.holds ps h)

      pub went-stop : is_so (standing_of (get n (get_or ids i 0))) ≡ false → (ps : List LStep) → HoldsIds m ps → first_not is_so left (flat_map mentions ps) 1 ids ≡ Some (i + 1)
      went-stop f ps h = next_place ps h ∙ rw f refl

      more_ids : take (i + 1) ids ≡ take i ids ++ get_or ids i 0 ∷ []
      more_ids = ap (λ k. take k ids) (add-one i) ∙ take-suc ids i 0 lt

      more_named : (ps : List LStep) → flat_map mentions (ps ++ step (take i ids ++ get_or ids i 0 ∷ []) ∷ []) ≡ flat_map mentions (ps ++ step (take i ids) ∷ []) ++ (get_or ids i 0, left) ∷ []
      more_named ps = rw (mentions-push ps (step (take i ids ++ get_or ids i 0 ∷ [])), mentions-push ps (step (take i ids)), kind.names (take i ids ++ get_or ids i 0 ∷ []), kind.names (take i ids), map-append, append_assoc) refl

      pub went-on : (next : Clauses) → is_so (standing_of (get n (get_or ids i 0))) ≡ true
          → ((ps : List LStep) → HoldsIds n (ps ++ step (take i ids) ∷ []) → HoldsIds next (ps ++ step (take i ids ++ get_or ids i 0 ∷ []) ∷ []))
          → ((vars : ℕ) → AreWithin n vars → AreWithin next vars) → Went step is_so left m next ids (i + 1)
      went-on next so move within = record {
        holds = λ ps h. subst (λ is. HoldsIds next (ps ++ step is ∷ [])) (sym more_ids) (move ps (went.holds ps h));
        place = λ ps h. next_place ps h ∙ rw so (ap (λ ms. first_not is_so left ms (i + 1 + 1) (drop (suc i) ids)) (sym (more_named ps) ∙ ap (λ is. flat_map mentions (ps ++ step is ∷ [])) (sym more_ids))
            ∙ ap (λ k. first_not is_so left (flat_map mentions (ps ++ step (take (i + 1) ids) ∷ [])) (i + 1 + 1) (drop k ids)) (sym (add-one i)));
        within = λ vars w. within vars (went.within vars w);
      }

    module _ (ge : length ids ≤ i) where
      pub went-all : (ps : List LStep) → HoldsIds m ps → first_not is_so left (flat_map mentions ps) 1 ids ≡ None
      went-all ps h = went.place ps h ∙ rw (drop_all ids i ge) refl

      pub went-end : (ps : List LStep) → HoldsIds m ps → HoldsIds n (ps ++ step ids ∷ [])
      went-end ps h = subst (λ is. HoldsIds n (ps ++ step is ∷ [])) (take_all i ids ge) (went.holds ps h)
