-- What each step without ids changes of the clauses that are held, and what these say of the steps.
use Rattle.std.proofs.Common.{◌≡◌, ℕ, zero, suc, ◌+◌, ◌<◌, Bool, true, false, nat_lt, List, [], ◌∷◌, ◌++◌, length, filter, filter_map, Contains, Option, Some, None, refl, sym, ◌∙◌, ap, subst, inl, inr, arith, ltb-true}
use Rattle.std.specs.Prelude.{slice_get}
use Rattle.std.specs.List.{list_any, position_from}
use Rattle.std.proofs.Math.Path.{fun_ext}
use Rattle.std.proofs.lemmas.Option.{same_Some}
use Rattle.std.specs.Prelude.{count_by}
use Rattle.std.proofs.lemmas.Bool.{cases_Bool, and_parts, and_from}
use Rattle.std.proofs.lemmas.Bool.Decides.{nat_tests}
use Rattle.std.proofs.lemmas.List.Sums.{length-filter}
use Rattle.std.proofs.lemmas.List.{length-append}
use Rattle.std.specs.Ordering.{nat_cmp}
use Rattle.std.specs.FinMap.{get, empty, get-empty}
use Rattle.lits.specs.Clause.{same_set, set_of}
use Rattle.lits.proofs.Members.{here, filter_from, filter_at}
use Rattle.lits.proofs.Sets.{same_from, same_set-itself}
use Rattle.lits.proofs.Ascending.{has-set_of, set_of-same}
use Rattle.session_rules.specs.declared.Step.{Step}
use Rattle.session_rules.specs.declared.Step.TheVariants as steps
use Rattle.session_rules.specs.declared.Standing.{Standing}
use Rattle.session_rules.specs.declared.Standing.TheVariants.{Active, Weakened, Absent}
use Rattle.session_rules.specs.Logic.{closes}
use Rattle.session_rules.specs.Own.{is_active, is_weakened, added_clause, removed_clause, restored_clause, copies, active_copies, weakened_copies, active_clauses}
use Rattle.side_laws.specs.ClauseStates.{ClauseState, Clauses, kept, ChangesAt}
use Rattle.side_laws.specs.Sets.{GivenClause, standing_so, is_such, with_first, behind_step, given_by, with_id, next_id, named_id, how_many, new_clause, finds, kept_as, kept_of_given, HoldsSets, IsLeast, SetsAmong, AreActive}
use Rattle.side_laws.proofs.Maps.{same_or_other}
use Rattle.side_laws.proofs.Given.{IsFirst, sets_pass, sets_pass_right, given-push, find-push, silent_step, giving_step, none_given, id-push, id-other, id-within, first-length, turned-there, turned-others, first-found, first-position, many-at, many-some, many-none, count-active, count-weakened}
use Rattle.side_laws.proofs.Closing.{closes-same}

-- ---- Sets

to_its_set : (c : List ℕ) → same_set (set_of c) c ≡ true
to_its_set c = same_from (set_of c) c (λ x. has-set_of c x)

of_its_set : (c d : List ℕ) → same_set c (set_of d) ≡ same_set c d
of_its_set c d = sets_pass_right c (set_of d) d (to_its_set d)

pub set_of_set : (c : List ℕ) → set_of (set_of c) ≡ set_of c
set_of_set c = set_of-same (set_of c) c (to_its_set c)

-- ---- What is kept of a clause that was given

-- the test of a standing that what is kept answers for
abbrev pub so : Bool → Standing → Bool
so true = is_active
so false = is_weakened

kept_from : (b : Bool) (s : Standing) (c : List ℕ) → so b s ≡ true → kept_as s c ≡ Some (kept b (set_of c))
kept_from true Active c e = refl
kept_from true Weakened c e = cc e
kept_from true Absent c e = cc e
kept_from false Active c e = cc e
kept_from false Weakened c e = refl
kept_from false Absent c e = cc e

-- a clause that is kept was given
pub record WasGiven (o : Option GivenClause) (b : Bool) (ls : List ℕ) : Type 0 where
  pub given : GivenClause
  pub is : o ≡ Some given
  pub stands : so b given.standing ≡ true
  pub set : set_of given.clause ≡ ls

was_given_as : (g : GivenClause) (s : Standing) (b : Bool) (ls : List ℕ) → s ≡ g.standing → kept_as s g.clause ≡ Some (kept b ls) → WasGiven (Some g) b ls
was_given_as g Active b ls e f = let k : kept true (set_of g.clause) ≡ kept b ls = same_Some _ _ f in
    record { given = g; is = refl; stands = subst (λ z. so z g.standing ≡ true) (ap (λ z. z.active) k) (ap is_active (sym e)); set = ap (λ z. z.literals) k }
was_given_as g Weakened b ls e f = let k : kept false (set_of g.clause) ≡ kept b ls = same_Some _ _ f in
    record { given = g; is = refl; stands = subst (λ z. so z g.standing ≡ true) (ap (λ z. z.active) k) (ap is_weakened (sym e)); set = ap (λ z. z.literals) k }
was_given_as g Absent b ls e f = cc f

was_given : (o : Option GivenClause) (b : Bool) (ls : List ℕ) → kept_of_given o ≡ Some (kept b ls) → WasGiven o b ls
was_given None b ls e = cc e
was_given (Some g) b ls e = was_given_as g g.standing b ls refl e

module _ (m : Clauses) (next : ℕ) (ps : List Step) (h : HoldsSets m next ps) where
  given_at : (id : ℕ) (b : Bool) (ls : List ℕ) → get m id ≡ Some (kept b ls) → WasGiven (with_id (given_by ps) id) b ls
  given_at id b ls e = was_given (with_id (given_by ps) id) b ls (sym (h.clauses id) ∙ e)

  pub held-within : (id : ℕ) (k : ClauseState) → get m id ≡ Some k → (0 < id) × (id < next)
  held-within id k e = let w = given_at id k.active k.literals e in let r = id-within (given_by ps) id w.given w.is in
      let f = h.given in let lt = r.1 in (r.0, omega arith)

  pub held-set : (id : ℕ) (k : ClauseState) → get m id ≡ Some k → set_of k.literals ≡ k.literals
  held-set id k e = let w = given_at id k.active k.literals e in ap set_of (sym w.set) ∙ set_of_set w.given.clause ∙ w.set

-- ---- What is held

pub holds_no_sets : HoldsSets empty 1 []
unfolding Rattle.side_laws.specs.Sets.behind_steps Rattle.side_laws.specs.Sets.all_find
holds_no_sets = record {
  given = refl;
  clauses = λ id. get-empty nat_cmp id ∙ sym (ap kept_of_given (none_given id));
  found = refl;
}

-- a step that changes no clause
pub sets_silent : (m : Clauses) (next : ℕ) (ps : List Step) (p : Step) → new_clause p ≡ None → removed_clause p ≡ None → restored_clause p ≡ None
    → HoldsSets m next ps → HoldsSets m next (ps ++ p ∷ [])
sets_silent m next ps p gives removes restores h = let same = silent_step (given_by ps) p gives removes restores in
    let all = given-push ps p ∙ same.0 in record {
      given = h.given ∙ ap (λ gs. 1 + length gs) (sym all);
      clauses = λ id. h.clauses id ∙ ap (λ gs. kept_of_given (with_id gs id)) (sym all);
      found = find-push ps p h.found same.1;
    }

-- a step that gives a clause
module _ (m n : Clauses) (next : ℕ) (ps : List Step) (p : Step) (c : List ℕ) (gives : new_clause p ≡ Some c)
    (change : ChangesAt m n next (Some (kept true (set_of c)))) (h : HoldsSets m next ps) where
  one_more : given_by (ps ++ p ∷ []) ≡ given_by ps ++ standing_so Active c ∷ []
  one_more = given-push ps p ∙ (giving_step (given_by ps) p c gives).0

  new_kept : (id : ℕ) → get n id ≡ kept_of_given (with_id (given_by ps ++ standing_so Active c ∷ []) id)
  new_kept id = elim (same_or_other id next) [
    | inl y ↦ ap (get n) y ∙ change.there ∙ ap kept_of_given (sym (id-push (given_by ps) (standing_so Active c) id (y ∙ h.given)))
    | inr ne ↦ change.others id ne ∙ h.clauses id ∙ ap kept_of_given (sym (id-other (given_by ps) (standing_so Active c) id (λ e. ne (e ∙ sym h.given))))
  ]

  pub sets_given : HoldsSets n (next + 1) (ps ++ p ∷ [])
  sets_given = record {
    given = let f = h.given in let k = length-append (given_by ps) (standing_so Active c ∷ []) in
        let e : next + 1 ≡ 1 + length (given_by ps ++ standing_so Active c ∷ []) = omega arith in e ∙ ap (λ gs. 1 + length gs) (sym one_more);
    clauses = λ id. new_kept id ∙ ap (λ gs. kept_of_given (with_id gs id)) (sym one_more);
    found = find-push ps p h.found (giving_step (given_by ps) p c gives).1;
  }

-- the least id of a set is that of the first clause
module _ (m : Clauses) (next : ℕ) (ps : List Step) (b : Bool) (c : List ℕ) (id : ℕ) (ls : List ℕ) (h : HoldsSets m next ps) (least : IsLeast m b c id ls) where
  least_given : WasGiven (with_id (given_by ps) id) b ls
  least_given = given_at m next ps h id b ls least.there

  such_set : is_such (so b) c least_given.given ≡ true
  such_set = and_from _ _ least_given.stands (sym (of_its_set c least_given.given.clause) ∙ ap (same_set c) least_given.set ∙ least.same)

  others_not : (k : ℕ) → id ≡ suc k → (j : ℕ) (g : GivenClause) → j < k → slice_get (given_by ps) j ≡ Some g → is_such (so b) c g ≡ false
  others_not k e j g lt there = elim (cases_Bool (is_such (so b) c g)) [
    | inr n ↦ n
    | inl y ↦ let parts = and_parts (so b g.standing) (same_set c g.clause) y in
        let le = least.least (suc j) (set_of g.clause) (h.clauses (suc j) ∙ ap kept_of_given there ∙ kept_from b g.standing g.clause parts.0) (of_its_set c g.clause ∙ parts.1) in
        absurd (omega arith)
  ]

  record Placed : Type 0 where
    place : ℕ
    is : id ≡ suc place
    first : IsFirst (so b) c (given_by ps) place least_given.given

  placed_at : (x : ℕ) → id ≡ x → with_id (given_by ps) x ≡ Some least_given.given → Placed
  placed_at zero e f = cc f
  placed_at (suc k) e f = record { place = k; is = e; first = record { there = f; such = such_set; none = others_not k e } }

  placed : Placed
  placed = placed_at id refl least_given.is

  pub least_named : position_from (is_such (so b) c) 1 (given_by ps) ≡ Some id
  least_named = let e : 1 + placed.place ≡ id = (let f = placed.is in omega arith) in first-position (so b) c (given_by ps) 1 placed.place least_given.given placed.first ∙ ap Some e

  -- a step that turns it
  module _ (n : Clauses) (left : Standing) (p : Step) (turns : behind_step (given_by ps) p ≡ with_first (so b) left c (given_by ps)) (needs : finds (given_by ps) p ≡ list_any (is_such (so b) c) (given_by ps))
      (now : Option ClauseState) (is : (d : List ℕ) → set_of d ≡ ls → now ≡ kept_as left d) (change : ChangesAt m n id now) where
    all_turned : given_by (ps ++ p ∷ []) ≡ with_first (so b) left c (given_by ps)
    all_turned = given-push ps p ∙ turns

    turned_kept : (x : ℕ) → get n x ≡ kept_of_given (with_id (with_first (so b) left c (given_by ps)) x)
    turned_kept x = elim (same_or_other x id) [
      | inl y ↦ ap (get n) y ∙ change.there ∙ is least_given.given.clause least_given.set
          ∙ ap kept_of_given (sym (ap (with_id (with_first (so b) left c (given_by ps))) (y ∙ placed.is) ∙ turned-there (so b) left c (given_by ps) placed.place least_given.given placed.first))
      | inr ne ↦ change.others x ne ∙ h.clauses x
          ∙ ap kept_of_given (sym (turned-others (so b) left c (given_by ps) placed.place least_given.given placed.first x (λ e. ne (e ∙ sym placed.is))))
    ]

    there_is : list_any (is_such (so b) c) (given_by ps) ≡ true
    there_is = first-found (so b) c (given_by ps) placed.place least_given.given (placed.first).there such_set

    pub sets_turned : HoldsSets n next (ps ++ p ∷ [])
    sets_turned = record {
      given = h.given ∙ ap (λ z. 1 + z) (sym (first-length (so b) left c (given_by ps))) ∙ ap (λ gs. 1 + length gs) (sym all_turned);
      clauses = λ x. turned_kept x ∙ ap (λ gs. kept_of_given (with_id gs x)) (sym all_turned);
      found = find-push ps p h.found (needs ∙ there_is);
    }

-- the steps that take a copy or give one back
module _ (m n : Clauses) (next : ℕ) (ps : List Step) (c : List ℕ) (id : ℕ) (ls : List ℕ) (h : HoldsSets m next ps) where
  pub sets_deleted : IsLeast m true c id ls → ChangesAt m n id None → HoldsSets n next (ps ++ steps.Delete c ∷ [])
  sets_deleted least change = sets_turned m next ps true c id ls h least n Absent (steps.Delete c) refl refl None (λ d e. refl) change

  pub sets_weakened : IsLeast m true c id ls → ChangesAt m n id (Some (kept false ls)) → HoldsSets n next (ps ++ steps.Weaken c ∷ [])
  sets_weakened least change = sets_turned m next ps true c id ls h least n Weakened (steps.Weaken c) refl refl (Some (kept false ls)) (λ d e. ap (λ z. Some (kept false z)) (sym e)) change

  pub sets_restored : IsLeast m false c id ls → ChangesAt m n id (Some (kept true ls)) → HoldsSets n next (ps ++ steps.Restore c ∷ [])
  sets_restored least change = sets_turned m next ps false c id ls h least n Active (steps.Restore c) refl refl (Some (kept true ls)) (λ d e. ap (λ z. Some (kept true z)) (sym e)) change

-- ---- Whether there is a copy

test_some : (n : ℕ) → 0 < n → nat_lt 0 n ≡ true
test_some n lt = grind (arith, nat_tests)

test_none : (n : ℕ) → n ≡ 0 → nat_lt 0 n ≡ false
test_none n e = grind (arith, nat_tests)

module _ (m : Clauses) (next : ℕ) (ps : List Step) (h : HoldsSets m next ps) (c : List ℕ) where
  held_some : (b : Bool) (i : ℕ) (ls : List ℕ) → get m i ≡ Some (kept b ls) → same_set c ls ≡ true → 0 < how_many (so b) c (given_by ps)
  held_some b i ls e s = let w = given_at m next ps h i b ls e in
      at i w.given w.is (and_from _ _ w.stands (sym (of_its_set c w.given.clause) ∙ ap (same_set c) w.set ∙ s))
    where
      at : (x : ℕ) (g : GivenClause) → with_id (given_by ps) x ≡ Some g → is_such (so b) c g ≡ true → 0 < how_many (so b) c (given_by ps)
      at zero g e y = cc e
      at (suc k) g e y = many-at (so b) c (given_by ps) k g e y

  held_none : (b : Bool) → ((i : ℕ) (ls : List ℕ) → get m i ≡ Some (kept b ls) → same_set c ls ≡ true → ⊥) → how_many (so b) c (given_by ps) ≡ 0
  held_none b none = many-none (so b) c (given_by ps) (λ k g e. elim (cases_Bool (is_such (so b) c g)) [
    | inr n ↦ n
    | inl y ↦ let parts = and_parts (so b g.standing) (same_set c g.clause) y in
        absurd (none (suc k) (set_of g.clause) (h.clauses (suc k) ∙ ap kept_of_given e ∙ kept_from b g.standing g.clause parts.0) (of_its_set c g.clause ∙ parts.1))
  ])

  pub active_some : (i : ℕ) (ls : List ℕ) → get m i ≡ Some (kept true ls) → same_set c ls ≡ true → nat_lt 0 (active_copies ps c) ≡ true
  active_some i ls e s = test_some _ (subst (λ z. 0 < z) (sym (count-active ps h.found c)) (held_some true i ls e s))

  pub weakened_some : (i : ℕ) (ls : List ℕ) → get m i ≡ Some (kept false ls) → same_set c ls ≡ true → nat_lt 0 (weakened_copies ps c) ≡ true
  weakened_some i ls e s = test_some _ (subst (λ z. 0 < z) (sym (count-weakened ps h.found c)) (held_some false i ls e s))

  pub active_none : ((i : ℕ) (ls : List ℕ) → get m i ≡ Some (kept true ls) → same_set c ls ≡ true → ⊥) → nat_lt 0 (active_copies ps c) ≡ false
  active_none none = test_none _ (count-active ps h.found c ∙ held_none true none)

  pub weakened_none : ((i : ℕ) (ls : List ℕ) → get m i ≡ Some (kept false ls) → same_set c ls ≡ true → ⊥) → nat_lt 0 (weakened_copies ps c) ≡ false
  weakened_none none = test_none _ (count-weakened ps h.found c ∙ held_none false none)

-- ---- Closing

copies-same : (given : Step → Option (List ℕ)) (ps : List Step) (c d : List ℕ) → same_set c d ≡ true → copies given ps c ≡ copies given ps d
copies-same given ps c d h = ap (λ test. count_by test (filter_map given ps)) (fun_ext (λ e. sets_pass c d e h))

active_copies-same : (ps : List Step) (c d : List ℕ) → same_set c d ≡ true → active_copies ps c ≡ active_copies ps d
active_copies-same ps c d h = rw (copies-same added_clause ps c d h, copies-same removed_clause ps c d h) refl

copies_some : (given : Step → Option (List ℕ)) (ps : List Step) (c : List ℕ) → 0 < copies given ps c → (d : List ℕ) × Contains (filter_map given ps) d × (same_set c d ≡ true)
copies_some given ps c lt = let e = length-filter (same_set c) (filter_map given ps) in first (filter (same_set c) (filter_map given ps)) refl
  where
    first : (xs : List (List ℕ)) → filter (same_set c) (filter_map given ps) ≡ xs → (d : List ℕ) × Contains (filter_map given ps) d × (same_set c d ≡ true)
    first [] e = let f = length-filter (same_set c) (filter_map given ps) in let g = ap length e in absurd (omega arith)
    first (x ∷ xs) e = let r = filter_at (same_set c) (filter_map given ps) x (subst (λ z. Contains z x) (sym e) (here x xs)) in (x, r.0, r.1)

module _ (m : Clauses) (next : ℕ) (ps : List Step) (h : HoldsSets m next ps) (cs : List (List ℕ)) (are : AreActive m cs) where
  among_steps : SetsAmong cs (active_clauses ps)
  among_steps c k = let at = are.sound c k in
      let test = active_some m next ps h c at.0 c at.1 (same_set-itself c) in
      let lt = ltb-true _ _ test in
      let d = copies_some added_clause ps c (omega arith) in
      (d.0, filter_from (λ x. nat_lt 0 (active_copies ps x)) (filter_map added_clause ps) d.0 d.1 (subst (λ z. nat_lt 0 z ≡ true) (active_copies-same ps c d.0 d.2) test), d.2)

  among_kept : SetsAmong (active_clauses ps) cs
  among_kept d k = let r = filter_at (λ x. nat_lt 0 (active_copies ps x)) (filter_map added_clause ps) d k in
      let lt : 0 < how_many is_active d (given_by ps) = subst (λ z. 0 < z) (count-active ps h.found d) (ltb-true _ _ r.1) in
      let found = many-some is_active d (given_by ps) lt in
      let parts = and_parts (is_active found.1.standing) (same_set d found.1.clause) found.3 in (
        set_of found.1.clause,
        are.whole (suc found.0) (set_of found.1.clause) (h.clauses (suc found.0) ∙ ap kept_of_given found.2 ∙ kept_from true found.1.standing found.1.clause parts.0),
        of_its_set d found.1.clause ∙ parts.1,
      )

  pub closes_over_kept : (ls : List ℕ) → closes cs ls ≡ closes (active_clauses ps) ls
  closes_over_kept ls = closes-same cs (active_clauses ps) ls among_steps among_kept
