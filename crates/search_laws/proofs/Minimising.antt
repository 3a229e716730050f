-- Literals that may be left out of a lemma.
use Rattle.std.proofs.Common.{◌≡◌, ℕ, zero, suc, Bool, true, false, ◌||◌, List, [], ◌∷◌, ◌++◌, length, Contains, Option, Some, None, refl, sym, ◌∙◌, ap, subst, inl, inr, arith, append_assoc}
use Rattle.std.specs.Prelude.{is_none}
use Rattle.std.proofs.lemmas.Bool.{cases_Bool, or_right}
use Rattle.std.proofs.lemmas.List.{append-nil}
use Rattle.lits.specs.Literal.{neg}
use Rattle.session_rules.specs.Logic.{has}
use Rattle.lits.proofs.Literal.{neg-neg}
use Rattle.lits.proofs.Members.{here, there, not_in_nil, here_or_there}
use Rattle.propagation.specs.declared.TrailEntry.{TrailEntry}
use Rattle.propagation.specs.Engine.{EngineView, IsEngine, literals, level_after, up_to_level, is_assumed}
use Rattle.propagation.proofs.Assigning.{cut_at}
use Rattle.propagation.proofs.Levels.{up_to_level-prefix, level_after-up_to_level}
use Rattle.search_laws.specs.Analysis.{IsAnalysed, IsForcedBy, AreRedundant, IsMinimised}
use Rattle.propagation.proofs.Parts.{has-front}
use Rattle.search_laws.proofs.Placing.{level_after-assumed}
use Rattle.search_laws.proofs.Analysis.{forces, analysis-skip, analysis-keep, analysis-resolve, analysis-more}

-- a list is empty or has a last item
record HasLast (ss : List TrailEntry) : Type 0 where
  pub init : List TrailEntry
  pub last : TrailEntry
  pub is : ss ≡ init ++ last ∷ []

last_of : (s : TrailEntry) (ss : List TrailEntry) → HasLast (s ∷ ss)
last_of s [] = record { init = []; last = s; is = refl }
last_of s (x ∷ ss) = let r = last_of x ss in record { init = s ∷ r.init; last = r.last; is = ap (λ z. s ∷ z) r.is }

length-init : (init : List TrailEntry) (s : TrailEntry) → length (init ++ s ∷ []) ≡ suc (length init)
length-init [] s = refl
length-init (x ∷ init) s = ap suc (length-init init s)

module _ (e : EngineView) (k : IsEngine e) (kept redundant : ℕ → Bool) (may : AreRedundant e.clauses e.trail kept redundant) where
  abbrev pub both : ℕ → Bool
  both l = kept l || redundant l

  step_in : (before after : List TrailEntry) (s : TrailEntry) → e.trail ≡ before ++ s ∷ after → Contains e.trail s
  step_in before after s at = subst (λ z. Contains z s) (sym at) (middle before)
    where
      middle : (before : List TrailEntry) → Contains (before ++ s ∷ after) s
      middle [] = here s after
      middle (x ∷ before) = there x s (before ++ s ∷ after) (middle before)

  walk : (n : ℕ) (before after : List TrailEntry) (lemma hints : List ℕ) → length before ≡ n → e.trail ≡ before ++ after → IsAnalysed e.clauses before both lemma hints → IsMinimised e.clauses both kept redundant lemma hints
  walk n [] after lemma hints size at h = record {
    more = [];
    reasons = [];
    analysed = subst (λ z. IsAnalysed e.clauses [] both z hints) (sym (append-nil lemma)) h;
    left = λ l m. absurd (not_in_nil l m);
  }
  walk zero (x ∷ before) after lemma hints size at h = absurd (omega (arith, size))
  walk (suc n) (x ∷ before) after lemma hints size at h =
      let r = last_of x before in
      let s = r.last in
      let at2 : e.trail ≡ r.init ++ s ∷ after = at ∙ ap (λ z. z ++ after) r.is ∙ append_assoc r.init (s ∷ []) after in
      let len : length r.init ≡ n = let a : suc (length before) ≡ length (r.init ++ s ∷ []) = ap length r.is in let b = length-init r.init s in omega (arith, a, b, size) in
      let h2 : IsAnalysed e.clauses (r.init ++ s ∷ []) both lemma hints = subst (λ z. IsAnalysed e.clauses z both lemma hints) r.is h in
      elim (cases_Bool (redundant s.lit)) [
        | inl y ↦
            let f = may s (step_in r.init after s at2) y in
            let h3 = analysis-resolve e k r.init after s both both lemma hints f.0 f.1 at2 f.2 (λ m q. elim (f.3 m q) [ inl w ↦ inl (sym w) | inr w ↦ inr w ]) (λ l p q. q) h2 in
            let t = walk n r.init (s ∷ after) lemma (f.0 ∷ hints) len at2 h3 in
            record { more = t.more; reasons = t.reasons ++ f.0 ∷ []; analysed = subst (λ z. IsAnalysed e.clauses [] both (lemma ++ t.more) z) (sym (append_assoc t.reasons (f.0 ∷ []) hints)) t.analysed; left = t.left }
        | inr o ↦ elim (cases_Bool (kept s.lit)) [
          | inl y ↦
              let h3 = analysis-keep e k r.init s both lemma hints h2 in
              let t = walk n r.init (s ∷ after) (lemma ++ neg s.lit ∷ []) hints len at2 h3 in
              record {
                more = neg s.lit ∷ t.more;
                reasons = t.reasons;
                analysed = subst (λ z. IsAnalysed e.clauses [] both z (t.reasons ++ hints)) (append_assoc lemma (neg s.lit ∷ []) t.more) t.analysed;
                left = λ l m. elim (here_or_there (neg s.lit) l t.more m) [
                  | inl q ↦ subst (λ z. (kept (neg z) ≡ true) × (redundant (neg z) ≡ false)) q
                      (subst (λ z. kept z ≡ true) (sym (neg-neg s.lit)) y, subst (λ z. redundant z ≡ false) (sym (neg-neg s.lit)) o)
                  | inr q ↦ t.left l q
                ];
              }
          | inr u ↦ walk n r.init (s ∷ after) lemma hints len at2 (analysis-skip e k r.init s both lemma hints (λ i. u i || o i) h2)
        ]
      ]

  -- the literals that may be left out are left out, and what stays has hints
  pub minimised : (before after : List TrailEntry) (pending : ℕ → Bool) (lemma hints : List ℕ) → e.trail ≡ before ++ after → ((l : ℕ) → has (literals before) l ≡ true → pending l ≡ true → (kept l || redundant l) ≡ true)
      → IsAnalysed e.clauses before pending lemma hints → IsMinimised e.clauses both kept redundant lemma hints
  minimised before after pending lemma hints at w h = walk (length before) before after lemma hints refl at (analysis-more e k before pending both lemma hints w h)

-- at level 0 each literal may be left out
some_reason : (m : TrailEntry) (o : Option ℕ) → m.reason ≡ o → (is_assumed m ≡ true → ⊥) → (r : ℕ) × (m.reason ≡ Some r)
some_reason m None e h = absurd (h (ap is_none e))
some_reason m (Some r) e h = (r, e)

pub redundant_at_zero : (e : EngineView) (kept : ℕ → Bool) → IsEngine e → AreRedundant e.clauses (up_to_level 0 e.trail) kept (λ l. has (literals (up_to_level 0 e.trail)) l)
redundant_at_zero e kept k s m y =
    let q = cut_at (up_to_level 0 e.trail) s m in
    let p = up_to_level-prefix 0 e.trail in
    let at : e.trail ≡ q.0 ++ s ∷ (q.1 ++ p.0) = p.1 ∙ ap (λ z. z ++ p.0) q.2 ∙ append_assoc q.0 (s ∷ q.1) p.0 in
    let z = level_after-up_to_level 0 e.trail in
    let a : level_after (up_to_level 0 e.trail) ≡ level_after (q.0 ++ s ∷ q.1) = ap level_after q.2 in
    let reason = some_reason s s.reason refl (λ b. let w = level_after-assumed q.0 q.1 s (none_at s.reason b) in omega (arith, z, a, w)) in
    let r = (k.entries q.0 (q.1 ++ p.0) s at).reason reason.0 reason.1 in
    let f : IsForcedBy e.clauses s r.0 r.1 = record { slot = reason.0; reason_is = reason.1; slot_is = r.2; clause_is = r.3 } in
    let w = forces e q.0 (q.1 ++ p.0) s r.0 r.1 k at f in (
      r.0,
      r.1,
      f,
      λ l n. elim (w.others l n) [
        | inl x ↦ inl (sym x)
        | inr x ↦ inr (or_right (kept (neg l)) _ (subst (λ z. has (literals z) (neg l) ≡ true) (sym q.2) (has-front q.0 (s ∷ q.1) (neg l) x)))
      ],
    )
  where
    none_at : (o : Option ℕ) → is_none o ≡ true → o ≡ None
    none_at None h = refl
    none_at (Some r) h = cc h
