-- Steps of a propagation.
use Rattle.std.proofs.Common.{◌≡◌, ℕ, suc, ◌+◌, ◌<◌, ◌≤◌, List, [], ◌∷◌, ◌++◌, length, drop, get_or, Some, refl, sym, ap, ◌∙◌, subst, inl, inr, arith, true, append_assoc, length-append, drop-cons}
use Rattle.std.proofs.lemmas.List.{append-nil}
use Rattle.session_rules.specs.Logic.{has}
use Rattle.clause_store.specs.Clauses.{Store, slot_at, lits_at}
use Rattle.watch_lists.specs.Watched.{Watched}
use Rattle.propagation.specs.declared.TrailEntry.{TrailEntry}
use Rattle.propagation.specs.Assigned.{Assigned, with_last}
use Rattle.propagation.specs.Clauses.{clauses_of}
use Rattle.propagation.specs.Engine.{EngineView, IsEngine, IsEntry, IsFree, IsReason, literals}
use Rattle.propagation.specs.Watching.{engine_of, IsSatisfied, IsCovered, IsDone, IsReady, IsMoved, Advances}
use Rattle.propagation.proofs.Trail.{IsEngine-push, entry_of_reason, literals-push, level_after-append, length-literals}
use Rattle.propagation.proofs.Covering.{has_more, has_end, covered_more, done_covered}
use Rattle.watch_lists.proofs.Members.{member_cases}

pub literals-append : (xs ys : List TrailEntry) → literals (xs ++ ys) ≡ literals xs ++ literals ys
literals-append [] ys = refl
literals-append (x ∷ xs) ys = ap (λ z. x.lit ∷ z) (literals-append xs ys)

-- ---- One look

pub moved_none : (trues : List ℕ) (m : Store) → IsMoved trues m m
moved_none trues m = record { slots = λ q. refl; seen = refl; members = λ q x. refl; kept = λ q h ts w c. c }

pub advances_settled : (w w' : Watched) (a : Assigned) → IsEngine (engine_of w.clauses a.entries a.vars) → IsMoved (literals a.entries) w.clauses w'.clauses → length w'.lists ≡ length w.lists → Advances w w' a a
advances_settled w w' a k m wide = record {
  moved = m;
  more = [];
  grown = sym (append-nil a.entries);
  forced = refl;
  vars = refl;
  wide = wide;
  engine = subst (λ z. IsEngine (record { clauses = z; trail = a.entries; vars = a.vars })) (sym m.seen) k;
}

pub new_step : (w : Watched) (a : Assigned) (l s : ℕ) → IsEngine (engine_of w.clauses a.entries a.vars) → IsReason (clauses_of w.clauses) (literals a.entries) l s → IsFree (literals a.entries) l
    → IsEntry (clauses_of w.clauses) a.vars a.entries (record { lit = l; reason = Some s })
new_step w a l s k r free = entry_of_reason (engine_of w.clauses a.entries a.vars) (literals a.entries) l s k refl r free

pub advances_put : (w w' : Watched) (a a' : Assigned) (l s : ℕ) → IsEngine (engine_of w.clauses a.entries a.vars) → IsMoved (literals a.entries) w.clauses w'.clauses → length w'.lists ≡ length w.lists
    → IsReason (clauses_of w.clauses) (literals a.entries) l s → IsFree (literals a.entries) l → a' ≡ with_last a (record { lit = l; reason = Some s }) → Advances w w' a a'
advances_put w w' a a' l s k m wide r free is = let t : TrailEntry = record { lit = l; reason = Some s } in
    let e : EngineView = engine_of w.clauses a.entries a.vars in
    record {
      moved = m;
      more = t ∷ [];
      grown = ap (λ z. z.entries) is;
      forced = refl;
      vars = ap (λ z. z.vars) is;
      wide = wide;
      engine = subst (λ z. IsEngine (engine_of w'.clauses z.entries z.vars)) (sym is) (subst (λ z. IsEngine (record { clauses = z; trail = a.entries ++ t ∷ []; vars = a.vars })) (sym m.seen) (IsEngine-push e t k (new_step w a l s k r free)));
    }

-- a literal that was put is true
pub put_true : (a a' : Assigned) (ls : List ℕ) (l s : ℕ) → a' ≡ with_last a (record { lit = l; reason = Some s }) → has ls l ≡ true → IsSatisfied (literals a'.entries) ls
put_true a a' ls l s is m = let t : TrailEntry = record { lit = l; reason = Some s } in
    (l, m, subst (λ z. has z l ≡ true) (sym (ap (λ z. literals z.entries) is ∙ literals-push a.entries t)) (has_end (literals a.entries) l))

-- ---- One after another

pub advances_then : (u v w : Watched) (a b c : Assigned) → Advances u v a b → Advances v w b c → Advances u w a c
advances_then u v w a b c x y = record {
  moved = record {
    slots = λ q. y.moved.slots q ∙ x.moved.slots q;
    seen = y.moved.seen ∙ x.moved.seen;
    members = λ q l. y.moved.members q l ∙ x.moved.members q l;
    kept = λ q h ts within k. y.moved.kept q h ts (λ l m. subst (λ z. has z l ≡ true) (sym (ap literals x.grown ∙ literals-append a.entries x.more)) (has_more (literals a.entries) (literals x.more) l (within l m))) (x.moved.kept q h ts within k);
  };
  more = x.more ++ y.more;
  grown = y.grown ∙ ap (λ z. z ++ y.more) x.grown ∙ append_assoc a.entries x.more y.more;
  forced = let e = level_after-append x.more y.more in let f = x.forced in let g = y.forced in omega (arith, e, f, g);
  vars = y.vars ∙ x.vars;
  wide = y.wide ∙ x.wide;
  engine = y.engine;
}

module _ (u v : Watched) (a b : Assigned) (x : Advances u v a b) where
  pub longer : literals b.entries ≡ literals a.entries ++ literals x.more
  longer = ap literals x.grown ∙ literals-append a.entries x.more

  pub length_longer : length a.entries ≤ length b.entries
  length_longer = let e = ap length x.grown in omega (arith, e, length-append a.entries x.more)

  pub satisfied_still : (id : ℕ) → IsSatisfied (literals a.entries) (lits_at u.clauses id) → IsSatisfied (literals b.entries) (lits_at v.clauses id)
  satisfied_still id s = (s.0, x.moved.members id s.0 ∙ s.1, subst (λ z. has z s.0 ≡ true) (sym longer) (has_more (literals a.entries) (literals x.more) s.0 s.2))

  pub ready_still : (h : ℕ) (ids : List ℕ) → h ≤ length a.entries → IsReady u.clauses (literals a.entries) h ids → IsReady v.clauses (literals b.entries) h ids
  ready_still h ids le r id s at = elim (r id s (sym (x.moved.slots id) ∙ at)) [
    | inl y ↦ inl y
    | inr c ↦ inr (subst (λ z. IsCovered z h (lits_at v.clauses id)) (sym longer)
        (covered_more (literals a.entries) (literals x.more) (lits_at v.clauses id) h (subst (λ z. h ≤ z) (sym (length-literals a.entries)) le) (x.moved.kept id h (literals a.entries) (λ l m. m) c)))
  ]

  pub done_now : (h : ℕ) (ls : List ℕ) → h ≤ length a.entries → IsDone (literals a.entries) (literals b.entries) ls → IsCovered (literals b.entries) h ls
  done_now h ls le d = subst (λ z. IsCovered z h ls) (sym longer) (done_covered (literals a.entries) (literals x.more) ls h (subst (λ z. h ≤ z) (sym (length-literals a.entries)) le) (subst (λ z. IsDone (literals a.entries) z ls) longer d))

  -- a look at the next id
  pub ready_next : (h from id : ℕ) (ids : List ℕ) → h ≤ length a.entries → from < length ids → id ≡ get_or ids from 0
      → ((s : ℕ) → slot_at v.clauses id ≡ Some s → IsDone (literals a.entries) (literals b.entries) (lits_at v.clauses id))
      → IsReady u.clauses (literals a.entries) h (drop from ids) → IsReady v.clauses (literals b.entries) h (drop (from + 1) ids)
  ready_next h from id ids le lt is done r q s at = elim (ready_still h (drop from ids) le r q s at) [
    | inl y ↦
        let f : has (get_or ids from 0 ∷ drop (suc from) ids) q ≡ true = subst (λ z. has z q ≡ true) (drop-cons ids from 0 lt) y in
        elim (member_cases (get_or ids from 0) q (drop (suc from) ids) f) [
          | inl e ↦ let same : q ≡ id = e ∙ sym is in inr (subst (λ z. IsCovered (literals b.entries) h (lits_at v.clauses z)) (sym same) (done_now h (lits_at v.clauses id) le (done s (subst (λ z. slot_at v.clauses z ≡ Some s) same at))))
          | inr n ↦ inl (subst (λ z. has (drop z ids) q ≡ true) (let g : suc from ≡ from + 1 = omega arith in g) n)
        ]
    | inr c ↦ inr c
  ]
