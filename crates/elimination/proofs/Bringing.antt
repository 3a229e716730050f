-- Clauses that are restored one after another, in a list and in a list of entries.
use Rattle.std.proofs.Common.{◌≡◌, ℕ, ◌+◌, ◌<◌, List, [], ◌∷◌, ◌++◌, length, map, flat_map, take, drop, get_or, Contains, Option, refl, sym, ap, ◌∙◌, subst, append_assoc}
use Rattle.std.proofs.lemmas.List.{map-append, take_more, drop_more, take-append-drop}
use Rattle.lits.proofs.Members.{here}
use Rattle.session_rules.specs.declared.Told.{Told}
use Rattle.session_rules.specs.declared.LogFault.{LogFault}
use Rattle.restore.specs.declared.lists.Kept.{Kept}
use Rattle.restore.specs.declared.lists.Elim.{Elim}
use Rattle.elimination.specs.declared.database.Database.{Database}
use Rattle.elimination.specs.declared.fault.BoardFault.{BoardFault}
use Rattle.elimination.specs.Steps.{TakesEach, Standing, standing, IsDue}
use Rattle.elimination.specs.Databases.{IsDatabase, LeadTo, BreaksOff}
use Rattle.elimination.specs.Restoring.{kept_of, restoring, restorings, AreCopies, Restores}
use Rattle.elimination.proofs.Joining.{takes_joined}
use Rattle.elimination.proofs.Leading.{none_lead, leads_on, broken_behind}
use Rattle.elimination.proofs.Restored.{copies_later}

module _ {L : Type 0} (takes : L → Told → L → Type 0) where
  pub none_restored : (l : L) (d : Database) → IsDatabase d → Restores takes l d [] d l
  none_restored l d h = record { taken = refl; leads = none_lead d; sound = h }

  pub restored_more : (l m n : L) (a b c : Database) (ks js ls : List Kept) → Restores takes l a ks b m → Restores takes m b js c n → ls ≡ ks ++ js → Restores takes l a ls c n
  restored_more l m n a b c ks js ls r s e = let steps : restorings ls ≡ restorings ks ++ restorings js = ap restorings e ∙ map-append restoring ks js in record {
    taken = subst (λ ts. TakesEach takes l ts n) (sym steps) (takes_joined takes l m n (restorings ks) (restorings js) r.taken s.taken);
    leads = subst (λ ts. LeadTo a ts c) (sym steps) (leads_on a b c (restorings ks) (restorings js) r.leads s.leads);
    sound = s.sound;
  }

  pub copies_on : (l m : L) (a b : Database) (ks js rest whole : List Kept) → Restores takes l a ks b m → AreCopies (standing a.engine.clauses) whole → whole ≡ ks ++ (js ++ rest) → AreCopies (standing b.engine.clauses) js
  copies_on l m a b ks js rest whole r h e = copies_later (standing a.engine.clauses) (standing b.engine.clauses) ks js rest (subst (λ z. AreCopies (standing a.engine.clauses) z) e h) r.leads.replayed

  pub broken_on : (refuses : L → Told → LogFault → L → Type 0) (l m n : L) (a b : Database) (ks : List Kept) (e : BoardFault) → Restores takes l a ks b m
      → BreaksOff takes refuses (standing b.engine.clauses) m e n → BreaksOff takes refuses (standing a.engine.clauses) l e n
  broken_on refuses l m n a b ks e r k = broken_behind takes refuses a b (restorings ks) l m n e r.leads r.taken k

-- ---- A list of clauses

pub clause_more : (ks : List Kept) (i : ℕ) (k : Kept) → i < length ks → k ≡ get_or ks i k → take (i + 1) ks ≡ take i ks ++ k ∷ []
clause_more ks i k lt e = take_more ks i k lt ∙ ap (λ (y : Kept). take i ks ++ y ∷ []) (sym e)

pub clause_parts : (ks : List Kept) (i : ℕ) (k : Kept) → i < length ks → k ≡ get_or ks i k → ks ≡ take i ks ++ ((k ∷ []) ++ drop (i + 1) ks)
clause_parts ks i k lt e = sym (take-append-drop i ks) ∙ ap (λ z. take i ks ++ z) (drop_more ks i k lt ∙ ap (λ (y : Kept). y ∷ drop (i + 1) ks) (sym e))

pub clause_due : (f : ℕ → Option Standing) (k : Kept) → AreCopies f (k ∷ []) → IsDue f (restoring k)
clause_due f k h = (h.once k (here k []), h.weakened k (here k []))

-- ---- A list of entries

kept_append : (es fs : List Elim) → kept_of (es ++ fs) ≡ kept_of es ++ kept_of fs
kept_append [] fs = refl
kept_append (e ∷ es) fs = ap (λ z. e.clauses ++ z) (kept_append es fs) ∙ sym (append_assoc e.clauses (kept_of es) (kept_of fs))

right_nil : (ks : List Kept) → ks ++ [] ≡ ks
right_nil [] = refl
right_nil (k ∷ ks) = ap (λ z. k ∷ z) (right_nil ks)

pub entry_more : (es : List Elim) (i : ℕ) (e : Elim) (ks : List Kept) → i < length es → e ≡ get_or es i e → ks ≡ e.clauses → kept_of (take (i + 1) es) ≡ kept_of (take i es) ++ ks
entry_more es i e ks lt s c = ap kept_of (take_more es i e lt ∙ ap (λ (y : Elim). take i es ++ y ∷ []) (sym s)) ∙ kept_append (take i es) (e ∷ []) ∙ ap (λ z. kept_of (take i es) ++ z) (right_nil e.clauses ∙ sym c)

pub entry_parts : (es : List Elim) (i : ℕ) (e : Elim) (ks : List Kept) → i < length es → e ≡ get_or es i e → ks ≡ e.clauses → kept_of es ≡ kept_of (take i es) ++ (ks ++ kept_of (drop (i + 1) es))
entry_parts es i e ks lt s c = ap kept_of (sym (take-append-drop i es)) ∙ kept_append (take i es) (drop i es)
    ∙ ap (λ z. kept_of (take i es) ++ kept_of z) (drop_more es i e lt ∙ ap (λ (y : Elim). y ∷ drop (i + 1) es) (sym s)) ∙ ap (λ z. kept_of (take i es) ++ (z ++ kept_of (drop (i + 1) es))) (sym c)
