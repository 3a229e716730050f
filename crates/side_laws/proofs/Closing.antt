-- Closing looks at the sets of clauses alone.
use Rattle.std.proofs.Common.{◌≡◌, ℕ, Bool, true, false, nat_eq, ◌||◌, List, [], ◌∷◌, Contains, refl, sym, ◌∙◌, inl, inr}
use Rattle.std.proofs.lemmas.Bool.{and_parts, and_from, or_cases, or_left, or_right}
use Rattle.lits.specs.Literal.{neg}
use Rattle.lits.specs.Clause.{has, same_set}
use Rattle.lits.proofs.Members.{all_at, all_from, any_at, any_from, has_at, has_from}
use Rattle.lits.proofs.Sets.{same_at}
use Rattle.session_rules.specs.Logic.{is_tautology, is_falsified, is_unit, is_closed, Propagates, trues_after, Closes, closes}
use Rattle.session_rules.proofs.Closing.{Closes-cons, Closes-from_closes}
use Rattle.session_rules.proofs.Rounds.{closes-from_Closes}
use Rattle.side_laws.specs.Sets.{SetsAmong}

-- what is true of all members of a clause is true of all members of one with the same set
all_by_set : (test : ℕ → Bool) (c d : List ℕ) → same_set c d ≡ true → ((l : ℕ) → Contains c l → test l ≡ true) → (l : ℕ) → Contains d l → test l ≡ true
all_by_set test c d same h l m = h l (has_at c l (same_at c d same l ∙ has_from d l m))

falsified-same : (trues c d : List ℕ) → same_set c d ≡ true → is_falsified trues c ≡ true → is_falsified trues d ≡ true
falsified-same trues c d same h = all_from (λ m. has trues (neg m)) d (all_by_set (λ m. has trues (neg m)) c d same (λ l m. all_at (λ m. has trues (neg m)) c l h m))

unit-same : (trues c d : List ℕ) (l : ℕ) → same_set c d ≡ true → is_unit trues c l ≡ true → is_unit trues d l ≡ true
unit-same trues c d l same h = let parts = and_parts _ _ h in
    and_from _ _ (sym (same_at c d same l) ∙ parts.0)
    (all_from (λ m. nat_eq l m || has trues (neg m)) d (all_by_set (λ m. nat_eq l m || has trues (neg m)) c d same (λ x m. all_at (λ m. nat_eq l m || has trues (neg m)) c x parts.1 m)))

module _ (cs ds : List (List ℕ)) (among : SetsAmong cs ds) where
  closed-same : (trues : List ℕ) → is_closed cs trues ≡ true → is_closed ds trues ≡ true
  closed-same trues h = elim (or_cases (is_tautology trues) _ h) [
    | inl y ↦ or_left _ _ y
    | inr f ↦ let c = any_at (is_falsified trues) cs f in let d = among c.0 c.1 in
        or_right (is_tautology trues) _ (any_from (is_falsified trues) ds d.0 d.1 (falsified-same trues c.0 d.0 d.2 c.2))
  ]

  Closes-along : (ps : List (List ℕ × ℕ)) (trues : List ℕ) → Propagates cs trues ps → is_closed cs (trues_after trues ps) ≡ true → Closes ds trues
  Closes-along [] trues h e = ([], tt, closed-same trues e)
  Closes-along (p ∷ ps) trues h e = let d = among p.0 h.0 in
      Closes-cons ds trues d.0 p.1 d.1 (unit-same trues p.0 d.0 p.1 d.2 h.1) (Closes-along ps (p.1 ∷ trues) h.2 e)

  pub Closes-same : (ls : List ℕ) → Closes cs ls → Closes ds ls
  Closes-same ls r = Closes-along r.0 ls r.1 r.2

pub closes-same : (cs ds : List (List ℕ)) (ls : List ℕ) → SetsAmong cs ds → SetsAmong ds cs → closes cs ls ≡ closes ds ls
closes-same cs ds ls f g = both _ _ (λ e. closes-from_Closes ds ls (Closes-same cs ds f ls (Closes-from_closes cs ls e)))
    (λ e. closes-from_Closes cs ls (Closes-same ds cs g ls (Closes-from_closes ds ls e)))
  where
    both : (a b : Bool) → (a ≡ true → b ≡ true) → (b ≡ true → a ≡ true) → a ≡ b
    both true b f g = sym (f refl)
    both false true f g = g refl
    both false false f g = refl
