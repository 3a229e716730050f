-- Choosing the entries of variables, one after another, and what is chosen when none is due.
use Rattle.std.proofs.Common.{◌≡◌, ◌≢◌, ℕ, zero, suc, ◌+◌, ◌-◌, ◌<◌, ◌≤◌, ◌⊎◌, Bool, true, false, not, ◌&&◌, ◌||◌, nat_eq, List, [], ◌∷◌, ◌++◌, length, map, replicate, take, drop, flat_map, get_or, Contains, refl, sym, ◌∙◌, ap, subst, inl, inr, arith, append_assoc, length-append, eqb-true, eq-eqb}
use Rattle.std.specs.Prelude.{slice_index, slice_set}
use Rattle.std.specs.List.{list_any, slice_index_or}
use Rattle.std.proofs.Math.ListN.{length-set}
use Rattle.std.proofs.Math.Seq.{get_or-set_same, get_or-set_other}
use Rattle.std.proofs.lemmas.List.{get_or_default, length-replicate, take_more, map-append}
use Rattle.std.proofs.lemmas.List.Folds.{list_any-append}
use Rattle.std.proofs.lemmas.Bool.{cases_Bool, both_ways, or_cases, or_left, or_right}
use Rattle.lits.proofs.Members.{here, not_in_nil, here_or_there, any_from, any_at, has_at, has_from}
use Rattle.session_rules.specs.Logic.{has}
use Rattle.restore.specs.declared.lists.Elim.{Elim}
use Rattle.restore.specs.declared.lists.Kept.{Kept}
use Rattle.lits.specs.Literal.{var}
use Rattle.restore.specs.Resolution.{has_variable, variables, all_variables}
use Rattle.restore.specs.Stack.{clauses_of, wants, IsClosed, is_wanted}
use Rattle.restore.specs.Indexed.{variables_of, IsIndexed}
use Rattle.restore.specs.Choice.{is_chosen, unchosen, Chosen}
use Rattle.restore.proofs.Joined.{append_at, append_left, append_right}
use Rattle.restore.proofs.Taking.{is_wanted-closed, is_wanted-asked, is_wanted-least, all_variables_from, all_variables_at}
use Rattle.restore.proofs.Indexing.{same_or_not, length-variables}

chosen-same : (m : List Bool) (i : ℕ) → i < length m → is_chosen (slice_set m i true) i ≡ true
chosen-same m i lt = get_or-set_same m i true false lt

chosen-other : (m : List Bool) (i j : ℕ) → j ≢ i → is_chosen (slice_set m i true) j ≡ is_chosen m j
chosen-other m i j n = get_or-set_other m i j true false n

unchosen-set : (m : List Bool) (i : ℕ) → i < length m → is_chosen m i ≡ false → suc (unchosen (slice_set m i true)) ≡ unchosen m
unchosen-set [] i lt h = absurd (omega arith)
unchosen-set (true ∷ m) zero lt h = absurd (both_ways true h refl)
unchosen-set (false ∷ m) zero lt h = refl
unchosen-set (true ∷ m) (suc i) lt h = unchosen-set m i (omega arith) h
unchosen-set (false ∷ m) (suc i) lt h = ap suc (unchosen-set m i (omega arith) h)

-- nothing is chosen anew
pub chosen-none : (vs : List ℕ) (m : List Bool) (d asked : List ℕ) → ((i : ℕ) → i < length vs → has asked (slice_index vs i) ≡ true → is_chosen m i ≡ true) → Chosen vs m m d d asked
chosen-none vs m d asked h = record {
  size = refl;
  kept = λ i p. p;
  named = λ i p q. absurd (both_ways _ q p);
  added = λ i p q. absurd (both_ways _ q p);
  done = h;
  due_kept = λ i c. c;
  due_chosen = λ i c. inl c;
  sum = refl;
}

-- one variable after others
pub chosen-join : (vs : List ℕ) (m n o : List Bool) (d e f a b : List ℕ) → Chosen vs m n d e a → Chosen vs n o e f b → Chosen vs m o d f (a ++ b)
chosen-join vs m n o d e f a b x y = record {
  size = y.size ∙ x.size;
  kept = λ i p. y.kept i (x.kept i p);
  named = λ i p q. elim (cases_Bool (is_chosen n i)) [
    | inl r ↦ list_any-append (nat_eq (slice_index vs i)) a b ∙ or_left _ _ (x.named i r q)
    | inr r ↦ list_any-append (nat_eq (slice_index vs i)) a b ∙ or_right _ _ (y.named i p r)
  ];
  added = λ i p q. elim (cases_Bool (is_chosen n i)) [
    | inl r ↦ y.due_kept i (x.added i r q)
    | inr r ↦ y.added i p r
  ];
  done = λ i lt h. elim (or_cases _ _ (sym (list_any-append (nat_eq (slice_index vs i)) a b) ∙ h)) [
    | inl r ↦ y.kept i (x.done i lt r)
    | inr r ↦ y.done i lt r
  ];
  due_kept = λ i c. y.due_kept i (x.due_kept i c);
  due_chosen = λ i c. elim (y.due_chosen i c) [
    | inl r ↦ elim (x.due_chosen i r) [ inl s ↦ inl s | inr s ↦ inr (y.kept i s) ]
    | inr r ↦ inr r
  ];
  sum = y.sum ∙ x.sum;
}

-- the variable stands at the place alone
one_place : (vs ps : List ℕ) (v p i : ℕ) → IsIndexed vs ps → slice_index ps v ≡ p + 1 → i < length vs → has (v ∷ []) (slice_index vs i) ≡ true → i ≡ p
one_place vs ps v p i x e lt h =
    let m = any_at (nat_eq (slice_index vs i)) (v ∷ []) h in
    let is : slice_index vs i ≡ v = elim (here_or_there v m.0 [] m.1) [
      | inl q ↦ eqb-true _ _ m.2 ∙ sym q
      | inr q ↦ absurd (not_in_nil m.0 q)
    ] in
    let at = x.there i lt in
    let at2 : slice_index ps v ≡ i + 1 = subst (λ k. slice_index ps k ≡ i + 1) is at in
    omega arith

pub chosen-absent : (vs ps : List ℕ) (v : ℕ) (m : List Bool) (d : List ℕ) → IsIndexed vs ps → slice_index ps v ≡ 0 → Chosen vs m m d d (v ∷ [])
chosen-absent vs ps v m d x e = chosen-none vs m d (v ∷ []) (λ i lt h.
    let w = any_at (nat_eq (slice_index vs i)) (v ∷ []) h in
    let is : slice_index vs i ≡ v = elim (here_or_there v w.0 [] w.1) [
      | inl q ↦ eqb-true _ _ w.2 ∙ sym q
      | inr q ↦ absurd (not_in_nil w.0 q)
    ] in
    let at = x.there i lt in
    absurd (let at2 : slice_index ps v ≡ i + 1 = subst (λ k. slice_index ps k ≡ i + 1) is at in omega arith))

pub chosen-again : (vs ps : List ℕ) (v p : ℕ) (m : List Bool) (d : List ℕ) → IsIndexed vs ps → slice_index ps v ≡ p + 1 → is_chosen m p ≡ true → Chosen vs m m d d (v ∷ [])
chosen-again vs ps v p m d x e h = chosen-none vs m d (v ∷ []) (λ i lt a. let is = one_place vs ps v p i x e lt a in rw is h)

pub chosen-new : (vs ps : List ℕ) (v p : ℕ) (m : List Bool) (d : List ℕ) → IsIndexed vs ps → slice_index ps v ≡ p + 1 → length vs ≡ length m → is_chosen m p ≡ false
    → Chosen vs m (slice_set m p true) d (d ++ p ∷ []) (v ∷ [])
chosen-new vs ps v p m d x e size h =
    let low = x.within v (omega arith) in
    let lt : p < length m = omega arith in
    let back : slice_index vs (slice_index ps v - 1) ≡ v = x.back v (omega arith) in
    let at : slice_index vs p ≡ v = subst (λ k. slice_index vs k ≡ v) (let q : slice_index ps v - 1 ≡ p = omega arith in q) back in
    record {
      size = length-set m p true;
      kept = λ i q. elim (same_or_not i p) [
        | inl is ↦ rw is (chosen-same m p lt)
        | inr n ↦ chosen-other m p i n ∙ q
      ];
      named = λ i q r. elim (same_or_not i p) [
        | inl is ↦ rw (is, at) (has_from (v ∷ []) v (here v []))
        | inr n ↦ absurd (both_ways _ r (sym (chosen-other m p i n) ∙ q))
      ];
      added = λ i q r. elim (same_or_not i p) [
        | inl is ↦ rw is (append_right d (p ∷ []) p (here p []))
        | inr n ↦ absurd (both_ways _ r (sym (chosen-other m p i n) ∙ q))
      ];
      done = λ i l a. let is = one_place vs ps v p i x e l a in rw is (chosen-same m p lt);
      due_kept = λ i c. append_left d (p ∷ []) i c;
      due_chosen = λ i c. elim (append_at d (p ∷ []) i c) [
        | inl r ↦ inl r
        | inr r ↦ elim (here_or_there p i [] r) [
          | inl s ↦ inr (rw (← s) (chosen-same m p lt))
          | inr s ↦ absurd (not_in_nil i s)
        ]
      ];
      sum = let u = unchosen-set m p lt h in let l : length (d ++ p ∷ []) ≡ length d + 1 = length-append d (p ∷ []) ∙ omega arith in omega arith;
    }

-- ---- Until none is due

-- what is chosen is wanted, and what a chosen entry wants is chosen, or it is still due
pub record Wanting (es : List Elim) (asked : List ℕ) (m : List Bool) (due : List ℕ) : Type 0 where
  pub size : length m ≡ length es
  pub sound : (i : ℕ) → i < length es → is_chosen m i ≡ true → is_wanted es asked (slice_index (variables_of es) i) ≡ true
  pub done : (i : ℕ) → i < length es → has asked (slice_index (variables_of es) i) ≡ true → is_chosen m i ≡ true
  pub choice : (i : ℕ) → Contains due i → is_chosen m i ≡ true
  pub closed : (i : ℕ) (e : Elim) → i < length es → e ≡ get_or es i e → is_chosen m i ≡ true
      → Contains due i ⊎ ((j : ℕ) → j < length es → list_any (has_variable (slice_index (variables_of es) j)) (clauses_of e) ≡ true → is_chosen m j ≡ true)

none_chosen : (n i : ℕ) → is_chosen (replicate n false) i ≡ false
none_chosen zero i = refl
none_chosen (suc n) zero = refl
none_chosen (suc n) (suc i) = none_chosen n i

pub wanting-begin : (es : List Elim) (asked : List ℕ) (m : List Bool) (due : List ℕ) (n : ℕ) → n ≡ length es → Chosen (variables_of es) (replicate n false) m [] due asked → Wanting es asked m due
wanting-begin es asked m due n en x = record {
  size = x.size ∙ length-replicate n false ∙ en;
  sound = λ i lt p. is_wanted-asked es asked (slice_index (variables_of es) i) (x.named i p (none_chosen n i));
  done = λ i lt h. x.done i (rw (length-variables es) lt) h;
  choice = λ i c. elim (x.due_chosen i c) [ inl r ↦ absurd (not_in_nil i r) | inr r ↦ r ];
  closed = λ i e lt at p. inl (x.added i p (none_chosen n i));
}

element_at : (es : List Elim) (i : ℕ) (e : Elim) → i < length es → e ≡ get_or es i e → Contains es e
element_at es i e lt at = (i, lt, sym at)

pub variable_at : (es : List Elim) (i : ℕ) (e : Elim) → i < length es → e ≡ get_or es i e → slice_index (variables_of es) i ≡ e.var
variable_at [] i e lt at = absurd (omega arith)
variable_at (d ∷ es) zero e lt at = ap (λ (x : Elim). x.var) (sym at)
variable_at (d ∷ es) (suc i) e lt at = variable_at es i e (omega arith) at

-- of an entry the variable is in its clauses
wants_place : (es : List Elim) (p i : ℕ) (e : Elim) → p < length es → e ≡ get_or es p e → i < length es
    → has (all_variables (clauses_of e)) (slice_index (variables_of es) i) ≡ true → list_any (has_variable (slice_index (variables_of es) i)) (clauses_of e) ≡ true
wants_place es p i e lp at li h = all_variables_at (clauses_of e) (slice_index (variables_of es) i) (has_at _ _ h)

pub wanting-step : (es : List Elim) (asked : List ℕ) (m n : List Bool) (due rest left : List ℕ) (p : ℕ) (e : Elim) → due ≡ rest ++ p ∷ [] → p < length es → e ≡ get_or es p e
    → Chosen (variables_of es) m n rest left (all_variables (clauses_of e)) → Wanting es asked m due → Wanting es asked n left
wanting-step es asked m n due rest left p e ed lp at x w =
    let here_due : Contains due p = rw ed (append_right rest (p ∷ []) p (here p [])) in
    let chosen_p : is_chosen m p ≡ true = w.choice p here_due in
    let wanted_p : is_wanted es asked e.var ≡ true = subst (λ v. is_wanted es asked v ≡ true) (variable_at es p e lp at) (w.sound p lp chosen_p) in
    let mentioned : (i : ℕ) → i < length es → list_any (has_variable (slice_index (variables_of es) i)) (clauses_of e) ≡ true → is_chosen n i ≡ true
    = λ i lt h. x.done i (rw (length-variables es) lt) (mentioned_has (slice_index (variables_of es) i) h) in
    record {
      size = x.size ∙ w.size;
      sound = λ i lt q. elim (cases_Bool (is_chosen m i)) [
        | inl r ↦ w.sound i lt r
        | inr r ↦
            let h = wants_place es p i e lp at lt (x.named i q r) in
            let f = get_or es i e in
            let fat : f ≡ get_or es i f = get_or_default es i e f lt in
            let fv : slice_index (variables_of es) i ≡ f.var = variable_at es i f lt fat in
            let wf : wants e f ≡ true = subst (λ v. list_any (has_variable v) (clauses_of e) ≡ true) fv h in
            subst (λ v. is_wanted es asked v ≡ true) (sym fv)
            (is_wanted-closed es asked e f (element_at es p e lp at) (element_at es i f lt fat) wanted_p wf)
      ];
      done = λ i lt h. x.kept i (w.done i lt h);
      choice = λ i c. elim (x.due_chosen i c) [
        | inl r ↦ x.kept i (w.choice i (rw ed (append_left rest (p ∷ []) i r)))
        | inr r ↦ r
      ];
      closed = λ i d lt dat q. elim (cases_Bool (is_chosen m i)) [
        | inl r ↦ elim (w.closed i d lt dat r) [
          | inl c ↦ elim (append_at rest (p ∷ []) i (subst (λ xs. Contains xs i) ed c)) [
            | inl s ↦ inl (x.due_kept i s)
            | inr s ↦ elim (here_or_there p i [] s) [
              | inl t ↦
                  let same : d ≡ e = dat ∙ ap (λ k. get_or es k d) (sym t) ∙ get_or_default es p d e lp ∙ sym at in
                  inr (λ j lj h. mentioned j lj (subst (λ (z : Elim). list_any (has_variable (slice_index (variables_of es) j)) (clauses_of z) ≡ true) same h))
              | inr t ↦ absurd (not_in_nil i t)
            ]
          ]
          | inr c ↦ inr (λ j lj h. x.kept j (c j lj h))
        ]
        | inr r ↦ inl (x.added i q r)
      ];
    }
  where
    mentioned_has : (v : ℕ) → list_any (has_variable v) (clauses_of e) ≡ true → has (all_variables (clauses_of e)) v ≡ true
    mentioned_has v h = let c = any_at (has_variable v) (clauses_of e) h in has_from _ v (all_variables_from (clauses_of e) c.0 v c.1 c.2)

same_choice : (es : List Elim) (m : List Bool) (p : ℕ → Bool) → length m ≡ length es → ((i : ℕ) (e : Elim) → i < length es → e ≡ get_or es i e → is_chosen m i ≡ p e.var)
    → m ≡ map (λ (e : Elim). p e.var) es
same_choice [] [] p le h = refl
same_choice [] (b ∷ m) p le h = absurd (omega arith)
same_choice (e ∷ es) [] p le h = absurd (omega arith)
same_choice (e ∷ es) (b ∷ m) p le h = (λ i. h 0 e (omega arith) refl i ∷ same_choice es m p (omega arith) (λ k d lt at. h (suc k) d (omega arith) at) i)

-- where none is due the wanted entries are chosen
pub wanting-end : (es : List Elim) (ps asked : List ℕ) (m : List Bool) (due : List ℕ) → IsIndexed (variables_of es) ps → due ≡ [] → Wanting es asked m due
    → m ≡ map (λ (e : Elim). is_wanted es asked e.var) es
wanting-end es ps asked m due x none w = same_choice es m (is_wanted es asked) w.size (λ i e lt at.
    both (is_chosen m i) (is_wanted es asked e.var) (λ q. subst (λ v. is_wanted es asked v ≡ true) (variable_at es i e lt at) (w.sound i lt q)) (found i e lt at))
  where
    both : (a b : Bool) → (a ≡ true → b ≡ true) → (b ≡ true → a ≡ true) → a ≡ b
    both true b f g = sym (f refl)
    both false true f g = g refl
    both false false f g = refl

    -- whether the place of the variable is chosen
    place_chosen : ℕ → Bool
    place_chosen v = is_chosen m (slice_index ps v - 1)

    at_place : (i : ℕ) → i < length es → place_chosen (slice_index (variables_of es) i) ≡ is_chosen m i
    at_place i lt = let there = x.there i (rw (length-variables es) lt) in let k : slice_index ps (slice_index (variables_of es) i) - 1 ≡ i = omega arith in ap (is_chosen m) k

    at_entry : (e : Elim) (c : Contains es e) → place_chosen e.var ≡ is_chosen m c.0
    at_entry e c = ap place_chosen (sym (variable_at es c.0 e c.1 (sym c.2))) ∙ at_place c.0 c.1

    next : (e f : Elim) (ce : Contains es e) (cf : Contains es f) → wants e f ≡ true
        → Contains due ce.0 ⊎ ((j : ℕ) → j < length es → list_any (has_variable (slice_index (variables_of es) j)) (clauses_of e) ≡ true → is_chosen m j ≡ true)
        → is_chosen m cf.0 ≡ true
    next e f ce cf we (inl d) = absurd (not_in_nil ce.0 (subst (λ xs. Contains xs ce.0) none d))
    next e f ce cf we (inr g) = g cf.0 cf.1 (subst (λ v. list_any (has_variable v) (clauses_of e) ≡ true) (sym (variable_at es cf.0 f cf.1 (sym cf.2))) we)

    closed_choice : IsClosed es place_chosen
    closed_choice e f ce cf se we = at_entry f cf ∙ next e f ce cf we (w.closed ce.0 e ce.1 (sym ce.2) (sym (at_entry e ce) ∙ se))

    found : (i : ℕ) (e : Elim) → i < length es → e ≡ get_or es i e → is_wanted es asked e.var ≡ true → is_chosen m i ≡ true
    found i e lt at h = sym (at_entry e (i, lt, sym at)) ∙ is_wanted-least es asked place_chosen closed_choice
        (λ f cf a. at_entry f cf ∙ w.done cf.0 cf.1 (subst (λ v. has asked v ≡ true) (sym (variable_at es cf.0 f cf.1 (sym cf.2))) a)) e (i, lt, sym at) h

-- ---- Loops that choose

-- after some of the variables
pub record SoFar (ps : List ℕ) (m n : List Bool) (d e asked : List ℕ) : Type 0 where
  pub size : length n ≡ length m
  pub ok : (vs : List ℕ) → IsIndexed vs ps → length vs ≡ length m → Chosen vs m n d e asked

pub so_far-begin : (ps : List ℕ) (m : List Bool) (d : List ℕ) → SoFar ps m m d d []
so_far-begin ps m d = record {
  size = refl;
  ok = λ vs x l. chosen-none vs m d [] (λ i lt h. absurd (both_ways false refl h));
}

pub so_far-step : (ps : List ℕ) (m n o : List Bool) (d e f a b c : List ℕ) → length o ≡ length n → ((vs : List ℕ) → IsIndexed vs ps → length vs ≡ length n → Chosen vs n o e f b)
    → c ≡ a ++ b → SoFar ps m n d e a → SoFar ps m o d f c
so_far-step ps m n o d e f a b c len g ec s = record {
  size = len ∙ s.size;
  ok = λ vs x l. rw ec (chosen-join vs m n o d e f a b (s.ok vs x l) (g vs x (l ∙ sym s.size)));
}

-- what was read of the choice
pub unchosen_read : (m : List Bool) (i : ℕ) (b : Bool) → i < length m → b ≡ get_or m i b → b ≡ false → is_chosen m i ≡ false
unchosen_read m i b lt e h = get_or_default m i false b lt ∙ sym e ∙ h

-- one more of a list
pub more-taken : (xs : List ℕ) (k x : ℕ) → k < length xs → x ≡ slice_index xs k → take (k + 1) xs ≡ take k xs ++ x ∷ []
more-taken xs k x lt e = take_more xs k 0 lt ∙ ap (λ y. take k xs ++ y ∷ []) (sym e)

pub more-variables : (c : List ℕ) (k l x : ℕ) → k < length c → l ≡ get_or c k l → x ≡ var l → variables (take (k + 1) c) ≡ variables (take k c) ++ x ∷ []
more-variables c k l x lt e ex = ap variables (take_more c k l lt ∙ ap (λ y. take k c ++ y ∷ []) (sym e)) ∙ map-append var (take k c) (l ∷ []) ∙ ap (λ y. variables (take k c) ++ y ∷ []) (sym ex)

pub more-clauses : (cs : List Kept) (k : ℕ) (c : Kept) (ls : List ℕ) → k < length cs → c ≡ get_or cs k c → ls ≡ c.lits
    → all_variables (map (λ (x : Kept). x.lits) (take (k + 1) cs)) ≡ all_variables (map (λ (x : Kept). x.lits) (take k cs)) ++ variables ls
more-clauses cs k c ls lt e el =
    ap (λ (xs : List Kept). all_variables (map (λ (x : Kept). x.lits) xs)) (take_more cs k c lt ∙ ap (λ (y : Kept). take k cs ++ y ∷ []) (sym e))
    ∙ joined (take k cs) ∙ ap (λ ys. all_variables (map (λ (x : Kept). x.lits) (take k cs)) ++ variables ys) (sym el)
  where
    right_nil : (xs : List ℕ) → xs ++ [] ≡ xs
    right_nil [] = refl
    right_nil (x ∷ xs) = ap (λ ys. x ∷ ys) (right_nil xs)

    joined : (xs : List Kept) → all_variables (map (λ (x : Kept). x.lits) (xs ++ c ∷ [])) ≡ all_variables (map (λ (x : Kept). x.lits) xs) ++ variables c.lits
    joined [] = right_nil (variables c.lits)
    joined (x ∷ xs) = ap (λ ys. variables x.lits ++ ys) (joined xs) ∙ sym (append_assoc (variables x.lits) (all_variables (map (λ (y : Kept). y.lits) xs)) (variables c.lits))

-- the whole list
pub so_far-end : (ps : List ℕ) (m n : List Bool) (d e : List ℕ) (a b : List ℕ) → a ≡ b → SoFar ps m n d e a
    → (vs : List ℕ) → IsIndexed vs ps → length vs ≡ length m → Chosen vs m n d e b
so_far-end ps m n d e a b q s = λ vs x l. subst (λ z. Chosen vs m n d e z) q (s.ok vs x l)

-- a due place is one of an entry
pub wanting-place : (es : List Elim) (asked : List ℕ) (m : List Bool) (due rest : List ℕ) (p : ℕ) → due ≡ rest ++ p ∷ [] → Wanting es asked m due → p < length es
wanting-place es asked m due rest p ed w =
    let h : is_chosen m p ≡ true = w.choice p (rw ed (append_right rest (p ∷ []) p (here p []))) in
    rw (← w.size) (chosen_within m p h)
  where
    chosen_within : (m : List Bool) (i : ℕ) → is_chosen m i ≡ true → i < length m
    chosen_within [] i h = absurd (both_ways false refl h)
    chosen_within (b ∷ m) zero h = omega arith
    chosen_within (b ∷ m) (suc i) h = let r = chosen_within m i h in omega arith

pub no_items : (xs : List ℕ) (n : ℕ) → n ≡ length xs → n ≡ 0 → xs ≡ []
no_items [] n e z = refl
no_items (x ∷ xs) n e z = absurd (omega arith)
