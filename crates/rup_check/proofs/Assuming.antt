-- Trails that assume literals of a list.
use Rattle.std.proofs.Common.{◌≡◌, ℕ, suc, ◌⊎◌, List, [], ◌∷◌, ◌++◌, Option, Some, None, refl, sym, ap, ◌∙◌, subst, inl, inr, arith, true, false, Contains, append_assoc}
use Rattle.std.specs.Prelude.{is_some, IfSome, IfNone}
use Rattle.std.proofs.lemmas.List.{append-nil}
use Rattle.std.proofs.lemmas.Bool.{cases_Bool, both_ways}
use Rattle.lits.specs.Literal.{neg}
use Rattle.session_rules.specs.Logic.{has, Closes}
use Rattle.lits.proofs.Members.{here, there, not_in_nil, here_or_there, has_from}
use Rattle.propagation.specs.declared.TrailEntry.{TrailEntry}
use Rattle.propagation.specs.Clauses.{active}
use Rattle.propagation.specs.Engine.{EngineView, literals, with_trail, with_entry, Grows, level_after, is_assumed, value_in, up_to_level, AssumesFrom}
use Rattle.propagation.proofs.Closing.{has-push_old, has-push_new}
use Rattle.propagation.proofs.Parts.{has-front}
use Rattle.propagation.proofs.Levels.{up_to_level-append, level_after-up_to_level}
use Rattle.rup_check.specs.Assuming.{Assumes}

-- ---- Members of lists that are joined

module _ {X : Type 0} where
  pub in_append : (xs ys : List X) (x : X) → Contains (xs ++ ys) x → Contains xs x ⊎ Contains ys x
  in_append [] ys x h = inr h
  in_append (y ∷ xs) ys x h = elim (here_or_there y x (xs ++ ys) h) [
    | inl e ↦ inl (subst (λ z. Contains (y ∷ xs) z) e (here y xs))
    | inr n ↦ elim (in_append xs ys x n) [ inl f ↦ inl (there y x xs f) | inr f ↦ inr f ]
  ]

  pub in_middle : (xs ys : List X) (x : X) → Contains (xs ++ x ∷ ys) x
  in_middle [] ys x = here x ys
  in_middle (y ∷ xs) ys x = there y x (xs ++ x ∷ ys) (in_middle xs ys x)

-- ---- Assumed literals

abbrev pub AssumesBy : List TrailEntry → List ℕ → Type 0
AssumesBy ss ls = (s : TrailEntry) → Contains ss s → s.reason ≡ None → has ls s.lit ≡ true

pub from_by : (ss : List TrailEntry) (ls : List ℕ) → AssumesBy ss ls → AssumesFrom ss ls
from_by ss ls h = λ before after s at none. h s (subst (λ z. Contains z s) (sym at) (in_middle before after s)) none

pub by_append : (xs ys : List TrailEntry) (ls : List ℕ) → AssumesBy xs ls → AssumesBy ys ls → AssumesBy (xs ++ ys) ls
by_append xs ys ls h k = λ s m none. elim (in_append xs ys s m) [ inl f ↦ h s f none | inr f ↦ k s f none ]

none_assumed : (ss : List TrailEntry) (s : TrailEntry) → level_after ss ≡ 0 → Contains ss s → s.reason ≡ None → ⊥
none_assumed [] s e m none = not_in_nil s m
none_assumed (x ∷ ss) s e m none = elim (cases_Bool (is_assumed x)) [
  | inl y ↦ let f : suc (level_after ss) ≡ 0 = rw y at e in omega arith
  | inr o ↦ let f : level_after ss ≡ 0 = rw o at e in elim (here_or_there x s ss m) [
    | inl g ↦ let h : is_assumed x ≡ true = rw (g, none) refl in both_ways _ o h
    | inr n ↦ none_assumed ss s f n none
  ]
]

pub by_level : (ss : List TrailEntry) (ls : List ℕ) → level_after ss ≡ 0 → AssumesBy ss ls
by_level ss ls e = λ s m none. absurd (none_assumed ss s e m none)

pub by_added : (old new : EngineView) (ls : List ℕ) (a : Assumes ls old new) → AssumesBy a.added ls
by_added old new ls a = λ s m none. has_from ls s.lit (a.each s m).1

-- ---- Steps of the loop

pub Assumes-none : (ls : List ℕ) (e : EngineView) → Assumes ls e e
Assumes-none ls e = record { added = []; grown = λ i. record { clauses = e.clauses; trail = sym (append-nil e.trail) i; vars = e.vars }; each = λ s m. absurd (not_in_nil s m) }

pub Assumes-entry : (ls : List ℕ) (old e new : EngineView) (l : ℕ) → Assumes ls old e → Contains ls l → new ≡ with_entry e l None → Assumes ls old new
Assumes-entry ls old e new l a m is = let t : TrailEntry = record { lit = l; reason = None } in record {
  added = a.added ++ t ∷ [];
  grown = is ∙ ap (λ z. with_entry z l None) a.grown ∙ ap (with_trail old) (append_assoc old.trail a.added (t ∷ []));
  each = λ s n. elim (in_append a.added (t ∷ []) s n) [
    | inl f ↦ a.each s f
    | inr f ↦ elim (here_or_there t s [] f) [
      | inl g ↦ (sym (ap (λ z. z.reason) g), subst (λ z. Contains ls z) (ap (λ z. z.lit) g) m)
      | inr n ↦ absurd (not_in_nil s n)
    ]
  ];
}

pub value_true : (trues : List ℕ) (l : ℕ) → Some true ≡ value_in trues l → has trues l ≡ true
value_true trues l e = elim (cases_Bool (has trues l)) [
  | inl y ↦ y
  | inr n ↦ elim (cases_Bool (has trues (neg l))) [
    | inl y ↦ let f : Some true ≡ Some false = rw (n, y) at e in cc f
    | inr o ↦ let f : Some true ≡ None = rw (n, o) at e in cc f
  ]
]

pub value_false : (trues : List ℕ) (l : ℕ) → Some false ≡ value_in trues l → has trues (neg l) ≡ true
value_false trues l e = elim (cases_Bool (has trues l)) [
  | inl y ↦ let f : Some false ≡ Some true = rw y at e in cc f
  | inr n ↦ elim (cases_Bool (has trues (neg l))) [
    | inl y ↦ y
    | inr o ↦ let f : Some false ≡ None = rw (n, o) at e in cc f
  ]
]

pub has-entry : (e new : EngineView) (l q : ℕ) (r : Option ℕ) → new ≡ with_entry e l r → has (literals e.trail) q ≡ true → has (literals new.trail) q ≡ true
has-entry e new l q r is h = subst (λ z. has (literals z.trail) q ≡ true) (sym is) (has-push_old e.trail (record { lit = l; reason = r }) q h)

pub has-step_new : (e new : EngineView) (l : ℕ) (r : Option ℕ) → new ≡ with_entry e l r → has (literals new.trail) l ≡ true
has-step_new e new l r is = subst (λ z. has (literals z.trail) l ≡ true) (sym is) (has-push_new e.trail (record { lit = l; reason = r }))

-- ---- Growing twice

pub extended : (a b c : EngineView) (xs ys : List TrailEntry) → b ≡ with_trail a (a.trail ++ xs) → c ≡ with_trail b (b.trail ++ ys) → c ≡ with_trail a (a.trail ++ (xs ++ ys))
extended a b c xs ys e f = f ∙ ap (λ z. with_trail z (z.trail ++ ys)) e ∙ ap (with_trail a) (append_assoc a.trail xs ys)

pub has-grown : (a b : EngineView) (ys : List TrailEntry) (q : ℕ) → b ≡ with_trail a (a.trail ++ ys) → has (literals a.trail) q ≡ true → has (literals b.trail) q ≡ true
has-grown a b ys q e h = subst (λ z. has (literals z.trail) q ≡ true) (sym e) (has-front a.trail ys q h)

-- back at level 0, what had no assumption is kept
pub Grows-back : (a b c : EngineView) (xs : List TrailEntry) → level_after a.trail ≡ 0 → b ≡ with_trail a (a.trail ++ xs) → c ≡ with_trail b (up_to_level 0 b.trail) → Grows a c
Grows-back a b c xs l e f = (
  up_to_level 0 xs,
  f ∙ ap (λ z. with_trail z (up_to_level 0 z.trail)) e ∙ ap (with_trail a) (up_to_level-append 0 a.trail xs l),
  (let h = level_after-up_to_level 0 xs in omega arith),
)

pub same_closes : (a b : EngineView) (xs : List TrailEntry) (ls : List ℕ) → b ≡ with_trail a (a.trail ++ xs) → Closes (active b.clauses) ls → Closes (active a.clauses) ls
same_closes a b xs ls e r = subst (λ z. Closes (active z.clauses) ls) e r

pub same_closes_back : (a b : EngineView) (xs : List TrailEntry) (ls : List ℕ) → b ≡ with_trail a (a.trail ++ xs) → Closes (active a.clauses) ls → Closes (active b.clauses) ls
same_closes_back a b xs ls e r = subst (λ z. Closes (active z.clauses) ls) (sym e) r

pub the_some : (o : Option ℕ) (P : ℕ → Type 0) → is_some o ≡ true → IfSome o P → (s : ℕ) × P s
the_some None P e h = cc e
the_some (Some s) P e h = (s, h)

pub the_none : (o : Option ℕ) (P : Type 0) → is_some o ≡ false → IfNone o P → P
the_none None P e h = h
the_none (Some s) P e h = cc e

pub trail-of : (a b : EngineView) (xs : List TrailEntry) → b ≡ with_trail a (a.trail ++ xs) → b.trail ≡ a.trail ++ xs
trail-of a b xs e = ap (λ z. z.trail) e
