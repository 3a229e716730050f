-- What a stack keeps when an entry is pushed and when entries are taken out, and what stays implied and forced.
use Rattle.std.proofs.Common.{◌≡◌, ℕ, ◌⊎◌, Bool, true, false, not, ◌&&◌, ◌||◌, nat_eq, List, [], ◌∷◌, ◌++◌, map, filter, flat_map, Contains, refl, sym, ◌∙◌, subst, ap, inl, inr, arith, append_assoc, eqb-true, eq-eqb}
use Rattle.std.specs.List.{list_any, list_all}
use Rattle.std.proofs.lemmas.Bool.{and_parts, and_from, or_cases, or_parts, or_left, or_right, cases_Bool, both_ways, not-true, not_from_true, not_from_false}
use Rattle.lits.specs.Literal.{var, positive, neg}
use Rattle.session_rules.specs.Logic.{has, is_part, same_set, is_tautology, satisfies, satisfies_clause, satisfies_formula}
use Rattle.lits.proofs.Members.{here, there, not_in_nil, here_or_there, all_at, all_from, any_at, any_from, filter_from, filter_at, has_at, has_from}
use Rattle.restore.specs.Resolution.{of_variable, is_plain, is_negated, has_variable, holds, holds_negated, without, resolvent, resolvents, resolvents_with, all_variables, variables, Entails}
use Rattle.restore.specs.declared.lists.Elim.{Elim}
use Rattle.restore.specs.Stack.{clauses_of, stacked, IsKeptBy, KeepsResolvents, taken, left_in, IsClosed, IsEntryOf, Eliminates, has_set, differ, due_resolvents, are_due, behind_elimination}
use Rattle.lits.proofs.Sets.{same_set-flip, same_set-chain}
use Rattle.restore.proofs.Joined.{append_at, append_left, append_right, map_at, map_from, flat_at, flat_from}
use Rattle.restore.proofs.Extending.{none_at, none_from}

-- each clause of the first list is in the second
abbrev pub Among : List (List ℕ) → List (List ℕ) → Type 0
Among cs ds = (c : List ℕ) → Contains cs c → Contains ds c

pub Entails-among : (cs ds : List (List ℕ)) (c : List ℕ) → Among cs ds → Entails cs c → Entails ds c
Entails-among cs ds c a h = λ v f. h v (all_from (satisfies_clause v) cs (λ d m. all_at (satisfies_clause v) ds d f (a d m)))

-- ---- Stacks

pub stacked_at : (es : List Elim) (c : List ℕ) → Contains (stacked es) c → (e : Elim) × Contains es e × Contains (clauses_of e) c
stacked_at es c m = flat_at clauses_of es c m

pub stacked_from : (es : List Elim) (e : Elim) (c : List ℕ) → Contains es e → Contains (clauses_of e) c → Contains (stacked es) c
stacked_from es e c m n = flat_from clauses_of es e c m n

-- more clauses behind an entry, none with its variable
KeptBy-among : (e : Elim) (cs ds : List (List ℕ)) → IsKeptBy e cs → Among cs ds → ((c : List ℕ) → Contains ds c → has_variable e.var c ≡ false) → IsKeptBy e ds
KeptBy-among e cs ds k a h = record {
  holding = k.holding;
  apart = h;
  implied = λ c d m n p q t. Entails-among cs ds (resolvent e.var c d) a (k.implied c d m n p q t);
}

-- no variable of an entry is in an irredundant clause
pub Kept-apart : (es : List Elim) (cs : List (List ℕ)) → KeepsResolvents es cs → (e : Elim) (c : List ℕ) → Contains es e → Contains cs c → has_variable e.var c ≡ false
Kept-apart [] cs k e c m n = absurd (not_in_nil e m)
Kept-apart (f ∷ es) cs k e c m n = elim (here_or_there f e es m) [
  | inl q ↦ subst (λ (z : Elim). has_variable z.var c ≡ false) q (k.0.apart c (append_right (stacked es) cs c n))
  | inr q ↦ Kept-apart es cs k.1 e c q n
]

-- more irredundant clauses, none with a variable of the stack
pub Kept-more : (es : List Elim) (cs ds : List (List ℕ)) → KeepsResolvents es cs → Among cs ds
    → ((e : Elim) (c : List ℕ) → Contains es e → Contains ds c → has_variable e.var c ≡ false) → KeepsResolvents es ds
Kept-more [] cs ds k a h = tt
Kept-more (e ∷ es) cs ds k a h = (
  KeptBy-among e (stacked es ++ cs) (stacked es ++ ds) k.0
      (λ c m. elim (append_at (stacked es) cs c m) [ inl n ↦ append_left (stacked es) ds c n | inr n ↦ append_right (stacked es) ds c (a c n) ])
      (λ c m. elim (append_at (stacked es) ds c m) [ inl n ↦ k.0.apart c (append_left (stacked es) cs c n) | inr n ↦ h e c (here e es) n ]),
  Kept-more es cs ds k.1 a (λ f c m n. h f c (there e f es m) n),
)

-- ---- Pushing an entry

-- the clauses before are the entry's or among those after
before_or_after : (x : Elim) (cs ds : List (List ℕ)) → Eliminates x cs ds → (c : List ℕ) → Contains cs c → Contains (clauses_of x) c ⊎ Contains ds c
before_or_after x cs ds r c m = elim (cases_Bool (has_variable x.var c)) [
  | inl q ↦ inl (r.entry.whole c m q)
  | inr q ↦ inr (r.others c m q)
]

-- behind an entry the pushed one stands with the new irredundant clauses
among_pushed : (es : List Elim) (x : Elim) (cs ds : List (List ℕ)) → Eliminates x cs ds → Among (stacked es ++ cs) (stacked (es ++ x ∷ []) ++ ds)
among_pushed es x cs ds r c m = let fs = es ++ x ∷ [] in elim (append_at (stacked es) cs c m) [
  | inl n ↦ let e = stacked_at es c n in append_left (stacked fs) ds c (stacked_from fs e.0 c (append_left es (x ∷ []) e.0 e.1) e.2)
  | inr n ↦ elim (before_or_after x cs ds r c n) [
    | inl q ↦ append_left (stacked fs) ds c (stacked_from fs x c (append_right es (x ∷ []) x (here x [])) q)
    | inr q ↦ append_right (stacked fs) ds c q
  ]
]

pub Kept-push : (es : List Elim) (x : Elim) (cs ds : List (List ℕ)) → KeepsResolvents es cs → Eliminates x cs ds → KeepsResolvents (es ++ x ∷ []) ds
Kept-push [] x cs ds k r = (
  record {
    holding = r.entry.holding;
    apart = r.gone;
    implied = r.resolved;
  },
  tt,
)
Kept-push (e ∷ es) x cs ds k r = (
  KeptBy-among e (stacked es ++ cs) (stacked (es ++ x ∷ []) ++ ds) k.0 (among_pushed es x cs ds r)
      (λ c m. elim (append_at (stacked (es ++ x ∷ [])) ds c m) [
        | inl n ↦ at_entry c (stacked_at (es ++ x ∷ []) c n)
        | inr n ↦ elim (cases_Bool (has_variable e.var c)) [
          | inl q ↦ let d = r.old c e.var n q in absurd (both_ways _ (k.0.apart d.0 (append_right (stacked es) cs d.0 d.1)) d.2)
          | inr q ↦ q
        ]
      ]),
  Kept-push es x cs ds k.1 r,
)
  where
    at_entry : (c : List ℕ) → ((f : Elim) × Contains (es ++ x ∷ []) f × Contains (clauses_of f) c) → has_variable e.var c ≡ false
    at_entry c f = elim (append_at es (x ∷ []) f.0 f.1) [
      | inl n ↦ k.0.apart c (append_left (stacked es) cs c (stacked_from es f.0 c n f.2))
      | inr n ↦ elim (here_or_there x f.0 [] n) [
        | inl q ↦ let g : Contains (clauses_of x) c = subst (λ (z : Elim). Contains (clauses_of z) c) (sym q) f.2 in
            k.0.apart c (append_right (stacked es) cs c (r.entry.before c g))
        | inr q ↦ absurd (not_in_nil f.0 q)
      ]
    ]

-- ---- The resolvents that are written

pub resolvents_from : (x : ℕ) (cs : List (List ℕ)) (c d : List ℕ) → Contains cs c → Contains cs d → holds x c ≡ true → holds_negated x d ≡ true
    → is_tautology (resolvent x c d) ≡ false → Contains (resolvents x cs) (resolvent x c d)
resolvents_from x cs c d m n p q t = flat_from (resolvents_with x cs) (filter (holds x) cs) c (resolvent x c d) (filter_from (holds x) cs c m p)
    (filter_from (λ r. not (is_tautology r)) (map (resolvent x c) (filter (holds_negated x) cs)) (resolvent x c d)
    (map_from (resolvent x c) (filter (holds_negated x) cs) d (filter_from (holds_negated x) cs d n q)) (not_from_false _ t))

-- the clauses of a resolvent
pub resolvents_at : (x : ℕ) (cs : List (List ℕ)) (r : List ℕ) → Contains (resolvents x cs) r
    → (c d : List ℕ) × Contains cs c × Contains cs d × (holds x c ≡ true) × (holds_negated x d ≡ true) × (is_tautology r ≡ false) × (resolvent x c d ≡ r)
resolvents_at x cs r m = let c = flat_at (resolvents_with x cs) (filter (holds x) cs) r m in
    let p = filter_at (holds x) cs c.0 c.1 in
    let t = filter_at (λ r. not (is_tautology r)) (map (resolvent x c.0) (filter (holds_negated x) cs)) r c.2 in
    let d = map_at (resolvent x c.0) (filter (holds_negated x) cs) r t.0 in
    let q = filter_at (holds_negated x) cs d.0 d.1 in
    (c.0, d.0, p.0, q.0, p.1, q.1, not-true _ t.1, d.2)

-- a resolvent doesn't hold its variable
pub resolvent_apart : (x : ℕ) (c d : List ℕ) → has_variable x (resolvent x c d) ≡ false
resolvent_apart x c d = none_from (of_variable x) (resolvent x c d) (λ l m. elim (append_at (without x c) (without x d) l m) [
  | inl n ↦ not-true _ (filter_at (λ l. not (of_variable x l)) c l n).1
  | inr n ↦ not-true _ (filter_at (λ l. not (of_variable x l)) d l n).1
])

-- a variable of a resolvent is one of its clauses'
resolvent_old : (x : ℕ) (c d : List ℕ) (y : ℕ) → has_variable y (resolvent x c d) ≡ true → (has_variable y c ≡ true) ⊎ (has_variable y d ≡ true)
resolvent_old x c d y h = let l = any_at (of_variable y) (resolvent x c d) h in elim (append_at (without x c) (without x d) l.0 l.1) [
  | inl n ↦ inl (any_from (of_variable y) c l.0 (filter_at (λ l. not (of_variable x l)) c l.0 n).0 l.2)
  | inr n ↦ inr (any_from (of_variable y) d l.0 (filter_at (λ l. not (of_variable x l)) d l.0 n).0 l.2)
]

part_mentions : (y : ℕ) (c d : List ℕ) → is_part c d ≡ true → has_variable y c ≡ true → has_variable y d ≡ true
part_mentions y c d p h = let l = any_at (of_variable y) c h in any_from (of_variable y) d l.0 (has_at d l.0 (all_at (has d) c l.0 p l.1)) l.2

part_satisfied : (v : ℕ → Bool) (c d : List ℕ) → is_part c d ≡ true → satisfies_clause v c ≡ true → satisfies_clause v d ≡ true
part_satisfied v c d p h = let l = any_at (satisfies v) c h in any_from (satisfies v) d l.0 (has_at d l.0 (all_at (has d) c l.0 p l.1)) l.2

-- of clauses that differ none has the set of another
differ_once : (before after : List (List ℕ)) (c : List ℕ) → differ (before ++ c ∷ after) ≡ true → has_set (before ++ after) c ≡ false
differ_once [] after c h = not-true _ (and_parts _ _ h).0
differ_once (b ∷ before) after c h =
    let parts = and_parts _ _ h in
    none_from (same_set c) (b ∷ before ++ after) (λ d m. elim (here_or_there b d (before ++ after) m) [
      | inl q ↦ subst (λ z. same_set c z ≡ false) q (flipped (none_at (same_set b) (before ++ c ∷ after) c (not-true _ parts.0) (append_right before (c ∷ after) c (here c after))))
      | inr n ↦ none_at (same_set c) (before ++ after) d (differ_once before after c parts.1) n
    ])
  where
    flipped : same_set b c ≡ false → same_set c b ≡ false
    flipped e = elim (cases_Bool (same_set c b)) [ inl q ↦ absurd (both_ways _ e (same_set-flip c b q)) | inr q ↦ q ]

pub due_once : (x : ℕ) (cs before after : List (List ℕ)) (c : List ℕ) → are_due x cs (before ++ c ∷ after) ≡ true → has_set (before ++ after) c ≡ false
due_once x cs before after c h = differ_once before after c (and_parts _ _ h).0

-- an elimination that writes the resolvents that are due
module _ (x : ℕ) (cs ls : List (List ℕ)) (h : are_due x cs ls ≡ true) where
  parts : (differ ls ≡ true) × (list_all (has_set (due_resolvents x cs)) ls ≡ true) × (list_all (has_set ls) (due_resolvents x cs) ≡ true)
  parts = let outer = and_parts _ _ h in let inner = and_parts _ _ outer.1 in (outer.0, inner.0, inner.1)

  abbrev others_of : List (List ℕ)
  others_of = filter (λ c. not (has_variable x c)) cs

  due_at : (c : List ℕ) → Contains ls c → (r : List ℕ) × Contains (due_resolvents x cs) r × (same_set c r ≡ true)
  due_at c m = any_at (same_set c) (due_resolvents x cs) (all_at (has_set (due_resolvents x cs)) ls c parts.1 m)

  written_at : (c : List ℕ) → Contains ls c → (r : List ℕ) × Contains (resolvents x cs) r × (same_set c r ≡ true)
  written_at c m = let r = due_at c m in (r.0, (filter_at (λ r. not (has_set cs r)) (resolvents x cs) r.0 r.1).0, r.2)

  -- the written ones are resolvents, and none is an irredundant clause; each resolvent that is none is among them
  pub due_resolvent : (c : List ℕ) → Contains ls c → has_set (resolvents x cs) c ≡ true
  due_resolvent c m = let r = written_at c m in any_from (same_set c) (resolvents x cs) r.0 r.1 r.2

  pub due_new : (c : List ℕ) → Contains ls c → has_set cs c ≡ false
  due_new c m =
      let r = due_at c m in
      let none = not-true _ (filter_at (λ r. not (has_set cs r)) (resolvents x cs) r.0 r.1).1 in
      none_from (same_set c) cs (λ d n. elim (cases_Bool (same_set c d)) [
        | inl q ↦ absurd (both_ways _ (none_at (same_set r.0) cs d none n) (same_set-chain r.0 c d (same_set-flip c r.0 r.2) q))
        | inr q ↦ q
      ])

  pub due_written : (r : List ℕ) → Contains (resolvents x cs) r → has_set cs r ≡ false → has_set ls r ≡ true
  due_written r m n = all_at (has_set ls) (due_resolvents x cs) r parts.2 (filter_from (λ r. not (has_set cs r)) (resolvents x cs) r m (not_from_false _ n))

  written_gone : (c : List ℕ) → Contains ls c → has_variable x c ≡ false
  written_gone c m = elim (cases_Bool (has_variable x c)) [
    | inl q ↦ let r = written_at c m in let p = resolvents_at x cs r.0 r.1 in
        let a : has_variable x (resolvent x p.0 p.1) ≡ true = subst (λ z. has_variable x z ≡ true) (sym p.7) (part_mentions x c r.0 (and_parts _ _ r.2).0 q) in
        absurd (both_ways _ (resolvent_apart x p.0 p.1) a)
    | inr q ↦ q
  ]

  written_old : (c : List ℕ) (y : ℕ) → Contains ls c → has_variable y c ≡ true → (d : List ℕ) × Contains cs d × (has_variable y d ≡ true)
  written_old c y m q = let r = written_at c m in let p = resolvents_at x cs r.0 r.1 in
      let a : has_variable y (resolvent x p.0 p.1) ≡ true = subst (λ z. has_variable y z ≡ true) (sym p.7) (part_mentions y c r.0 (and_parts _ _ r.2).0 q) in
      elim (resolvent_old x p.0 p.1 y a) [ inl b ↦ (p.0, p.2, b) | inr b ↦ (p.1, p.3, b) ]

  not_gone : (c : List ℕ) → Contains (cs ++ ls) c → has_variable x c ≡ false → Contains (behind_elimination x cs ls) c
  not_gone c m q = elim (append_at cs ls c m) [
    | inl n ↦ append_left others_of ls c (filter_from (λ c. not (has_variable x c)) cs c n (not_from_false _ q))
    | inr n ↦ append_right others_of ls c n
  ]

  -- each resolvent is among the irredundant clauses or the written ones
  found_at : (r : List ℕ) → Contains (resolvents x cs) r → (d : List ℕ) × Contains (cs ++ ls) d × (same_set r d ≡ true)
  found_at r m = elim (cases_Bool (has_set cs r)) [
    | inl q ↦ let c = any_at (same_set r) cs q in (c.0, append_left cs ls c.0 c.1, c.2)
    | inr q ↦ let c = any_at (same_set r) ls (due_written r m q) in (c.0, append_right cs ls c.0 c.1, c.2)
  ]

  resolvent_entailed : (r : List ℕ) → Contains (resolvents x cs) r → has_variable x r ≡ false → Entails (behind_elimination x cs ls) r
  resolvent_entailed r m a = let d = found_at r m in
      let s = and_parts (is_part r d.0) (is_part d.0 r) d.2 in
      let b : has_variable x d.0 ≡ false = elim (cases_Bool (has_variable x d.0)) [
        | inl q ↦ absurd (both_ways _ a (part_mentions x d.0 r s.1 q))
        | inr q ↦ q
      ] in
      λ v f. part_satisfied v d.0 r s.1 (all_at (satisfies_clause v) (behind_elimination x cs ls) d.0 f (not_gone d.0 d.1 b))

  pub Eliminates-written : (e : Elim) → e.var ≡ x → IsEntryOf e cs → Eliminates e cs (behind_elimination x cs ls)
  Eliminates-written e is entry = record {
    entry = entry;
    others = λ c m q. not_gone c (append_left cs ls c m) (subst (λ y. has_variable y c ≡ false) is q);
    gone = λ c m. subst (λ y. has_variable y c ≡ false) (sym is) (elim (append_at others_of ls c m) [
      | inl n ↦ not-true _ (filter_at (λ c. not (has_variable x c)) cs c n).1
      | inr n ↦ written_gone c n
    ]);
    old = λ c y m q. elim (append_at others_of ls c m) [
      | inl n ↦ (c, (filter_at (λ c. not (has_variable x c)) cs c n).0, q)
      | inr n ↦ written_old c y n q
    ];
    resolved = λ c d m n p q t. subst (λ y. Entails (behind_elimination x cs ls) (resolvent y c d)) (sym is)
        (resolvent_entailed (resolvent x c d)
        (resolvents_from x cs c d (entry.before c m) (entry.before d n) (subst (λ y. holds y c ≡ true) is p) (subst (λ y. holds_negated y d ≡ true) is q)
        (subst (λ y. is_tautology (resolvent y c d) ≡ false) is t))
        (resolvent_apart x c d));
  }

-- ---- Taking entries out

-- the entries of a stack are taken or left
taken_or_left : (s : ℕ → Bool) (es : List Elim) (e : Elim) → Contains es e → Contains (left_in s es) e ⊎ Contains (taken s es) e
taken_or_left s es e m = elim (cases_Bool (s e.var)) [
  | inl q ↦ inr (filter_from (λ (e : Elim). s e.var) es e m q)
  | inr q ↦ inl (filter_from (λ (e : Elim). not (s e.var)) es e m (not_from_false _ q))
]

among_taken : (s : ℕ → Bool) (es : List Elim) (cs : List (List ℕ)) → Among (stacked es ++ cs) (stacked (left_in s es) ++ (stacked (taken s es) ++ cs))
among_taken s es cs c m = elim (append_at (stacked es) cs c m) [
  | inl n ↦ let e = stacked_at es c n in elim (taken_or_left s es e.0 e.1) [
    | inl q ↦ append_left (stacked (left_in s es)) (stacked (taken s es) ++ cs) c (stacked_from (left_in s es) e.0 c q e.2)
    | inr q ↦ append_right (stacked (left_in s es)) (stacked (taken s es) ++ cs) c (append_left (stacked (taken s es)) cs c (stacked_from (taken s es) e.0 c q e.2))
  ]
  | inr n ↦ append_right (stacked (left_in s es)) (stacked (taken s es) ++ cs) c (append_right (stacked (taken s es)) cs c n)
]

taken_among : (s : ℕ → Bool) (es : List Elim) (cs : List (List ℕ)) → Among (stacked (left_in s es) ++ (stacked (taken s es) ++ cs)) (stacked es ++ cs)
taken_among s es cs c m = elim (append_at (stacked (left_in s es)) (stacked (taken s es) ++ cs) c m) [
  | inl n ↦ let e = stacked_at (left_in s es) c n in
      append_left (stacked es) cs c (stacked_from es e.0 c (filter_at (λ (e : Elim). not (s e.var)) es e.0 e.1).0 e.2)
  | inr n ↦ elim (append_at (stacked (taken s es)) cs c n) [
    | inl k ↦ let e = stacked_at (taken s es) c k in
        append_left (stacked es) cs c (stacked_from es e.0 c (filter_at (λ (e : Elim). s e.var) es e.0 e.1).0 e.2)
    | inr k ↦ append_right (stacked es) cs c k
  ]
]

-- the entries of a closed set are taken out, and their clauses are irredundant again
pub Kept-take : (s : ℕ → Bool) (es : List Elim) (cs : List (List ℕ)) → IsClosed es s → KeepsResolvents es cs → KeepsResolvents (left_in s es) (stacked (taken s es) ++ cs)
Kept-take s [] cs z k = tt
Kept-take s (e ∷ es) cs z k = let next = Kept-take s es cs (λ f g m n. z f g (there e f es m) (there e g es n)) k.1 in elim (cases_Bool (s e.var)) [
  | inl q ↦ let r : KeepsResolvents (left_in s es) (((clauses_of e) ++ stacked (taken s es)) ++ cs) =
      Kept-more (left_in s es) (stacked (taken s es) ++ cs) (((clauses_of e) ++ stacked (taken s es)) ++ cs) next
      (λ c m. rw append_assoc (append_right (clauses_of e) (stacked (taken s es) ++ cs) c m))
      (λ f c m n. let n2 : Contains ((clauses_of e) ++ (stacked (taken s es) ++ cs)) c = rw append_assoc at n in
      elim (append_at (clauses_of e) (stacked (taken s es) ++ cs) c n2) [
        | inl i ↦ outside f c m i q
        | inr i ↦ Kept-apart (left_in s es) (stacked (taken s es) ++ cs) next f c m i
      ]) in
      rw q r
  | inr q ↦ let r : KeepsResolvents (e ∷ left_in s es) (stacked (taken s es) ++ cs) = (
    KeptBy-among e (stacked es ++ cs) (stacked (left_in s es) ++ (stacked (taken s es) ++ cs)) k.0 (among_taken s es cs)
        (λ c m. k.0.apart c (taken_among s es cs c m)),
    next,
  ) in
      rw q r
]
  where
    outside : (f : Elim) (c : List ℕ) → Contains (left_in s es) f → Contains (clauses_of e) c → s e.var ≡ true → has_variable f.var c ≡ false
    outside f c m n q = elim (cases_Bool (has_variable f.var c)) [
      | inl i ↦ absurd (both_ways _ (not-true _ (filter_at (λ (e : Elim). not (s e.var)) es f m).1)
          (z e f (here e es) (there e f es (filter_at (λ (e : Elim). not (s e.var)) es f m).0) q (any_from (has_variable f.var) (clauses_of e) c n i)))
      | inr i ↦ i
    ]

-- ---- Inputs

pub Entails-push : (es : List Elim) (x : Elim) (cs ds : List (List ℕ)) (c : List ℕ) → Eliminates x cs ds → Entails (stacked es ++ cs) c
    → Entails (stacked (es ++ x ∷ []) ++ ds) c
Entails-push es x cs ds c r h = Entails-among (stacked es ++ cs) (stacked (es ++ x ∷ []) ++ ds) c (among_pushed es x cs ds r) h

pub Entails-take : (s : ℕ → Bool) (es : List Elim) (cs : List (List ℕ)) (c : List ℕ) → Entails (stacked es ++ cs) c
    → Entails (stacked (left_in s es) ++ (stacked (taken s es) ++ cs)) c
Entails-take s es cs c h = Entails-among (stacked es ++ cs) (stacked (left_in s es) ++ (stacked (taken s es) ++ cs)) c (among_taken s es cs) h
