-- A clause that gives up its literal to another one.
use Rattle.std.proofs.Common.{◌≡◌, ◌≢◌, ℕ, ◌≤◌, List, [], ◌∷◌, ◌++◌, Option, Some, None, refl, sym, ap, ◌∙◌, subst, inl, inr, arith, true, false, nat_eq, Contains, eqb-true, eq-eqb, ◌||◌}
use Rattle.std.specs.Prelude.{is_some, option_map, option_and_then, unwrap_or, IfSome, IfNone}
use Rattle.std.specs.FinMap.{get}
use Rattle.std.proofs.lemmas.Bool.{cases_Bool, and_parts, or_cases, eqb-false}
use Rattle.std.proofs.lemmas.Option.{same_Some, none-some}
use Rattle.lits.specs.Literal.{var, neg}
use Rattle.lits.specs.Clause.{set_of, with_literal}
use Rattle.lits.proofs.Members.{has_at, all_at}
use Rattle.session_rules.specs.Logic.{has, is_unit}
use Rattle.clause_store.specs.Clauses.{ClauseEntry, Place, Store, IsStore, IsActiveWith, slot_at, lits_at}
use Rattle.watch_lists.specs.Watched.{Watched}
use Rattle.propagation.specs.declared.TrailEntry.{TrailEntry}
use Rattle.propagation.specs.declared.Heads.{Heads}
use Rattle.propagation.specs.Assigned.{Assigned, AreNew, with_entries, with_reason, rested}
use Rattle.propagation.specs.Clauses.{clause_of, clauses_of, if_active, slot_of, active_at}
use Rattle.propagation.specs.Engine.{EngineView, IsEngine, IsFree, IsReason, IsNoReason, IsSomeReason, IsReasonOf, IsOtherUnit, literals, level_after, reason_in, with_trail}
use Rattle.propagation.specs.Watching.{engine_of}
use Rattle.propagation.specs.Inside.{AreHeads, IsEngineInside}
use Rattle.propagation.proofs.ClausesMap.{get-clauses_of, slot_of-clauses_of, active-at_slot}
use Rattle.propagation.proofs.Trail.{new_entries}
use Rattle.propagation.proofs.Covering.{has_more}
use Rattle.propagation.proofs.Advancing.{literals-append}
use Rattle.propagation.proofs.Closing.{consistent_trail}
use Rattle.propagation.proofs.Assigning.{cut_at, reason_at, forced_literal, reason-found}
use Rattle.propagation.proofs.Resting.{lit-rested, literals-rested, cut_map, cut-literal, true-reason, level_after-rested}

-- ---- One clause is the reason of one literal

-- the entry of a literal that has a reason
reason_step : (e : EngineView) (l q : ℕ) → IsEngine e → reason_in e.trail l ≡ Some q → (before : List TrailEntry) × (t : TrailEntry) × (after : List TrailEntry) × (e.trail ≡ before ++ t ∷ after) × (t.lit ≡ l) × (t.reason ≡ Some q)
reason_step e l q k at =
    let r = cut-literal e.trail l (true-reason e.trail l (ap is_some at)) in
    (r.0, r.1, r.2, r.3, r.4, sym (reason_at e.vars r.0 r.2 r.1 (subst (AreNew e.vars) r.3 (new_entries e k))) ∙ (λ i. reason_in (sym r.3 i) (r.4 i)) ∙ at)

one_literal : (e : EngineView) (before after : List TrailEntry) (t : TrailEntry) (l q : ℕ) → IsEngine e → e.trail ≡ before ++ t ∷ after → t.reason ≡ Some q → reason_in e.trail l ≡ Some q → t.lit ≡ l
one_literal e before after t l q k cut is at =
    let y = (k.entries before after t cut).reason q is in
    let r = reason_step e l q k at in
    let z = (k.entries r.0 r.2 r.1 r.3).reason q r.5 in
    let same : z.0 ≡ y.0 = k.slots_apart z.0 y.0 q z.2 y.2 in
    let set : z.1 ≡ y.1 = same_Some _ _ (sym z.3 ∙ ap (active_at e.clauses) same ∙ y.3) in
    let member : has y.1 l ≡ true = (λ i. has (sym set i) (sym r.4 i)) ∙ (and_parts _ _ z.4).0 in
    elim (or_cases (nat_eq t.lit l) (has (literals before) (neg l)) (all_at (λ m. nat_eq t.lit m || has (literals before) (neg m)) y.1 l (and_parts _ _ y.4).1 (has_at y.1 l member))) [
      | inl f ↦ eqb-true t.lit l f
      | inr f ↦ absurd (consistent_trail e k l (true-reason e.trail l (ap is_some at)) (subst (λ z. has z (neg l) ≡ true) (sym (ap literals cut ∙ literals-append before (t ∷ after))) (has_more (literals before) (literals (t ∷ after)) (neg l) f)))
    ]

pub same_literal : (e : EngineView) (id l m : ℕ) → IsEngine e → IsReasonOf e id l → IsReasonOf e id m → l ≡ m
same_literal e id l m k a b =
    let r = reason_step e l a.0 k a.2 in
    sym r.4 ∙ one_literal e r.0 r.2 r.1 m a.0 k r.3 r.5 (b.2 ∙ sym b.1 ∙ a.1)

-- ---- The trail

alone_is_unit : (trues : List ℕ) (l : ℕ) → is_unit trues (l ∷ []) l ≡ true
alone_is_unit trues l = rw (eq-eqb l l refl) refl

-- what an entry of the new trail was
source : (ss : List TrailEntry) (l s : ℕ) (t : TrailEntry) → Contains (with_reason ss l s) t → (before : List TrailEntry) × (u : TrailEntry) × (after : List TrailEntry) × (ss ≡ before ++ u ∷ after) × (t ≡ rested l s u)
source ss l s t m = let c = cut_at (with_reason ss l s) t m in let r = cut_map (rested l s) ss c.0 t c.1 c.2 in (r.0, r.1, r.2, r.3, r.5)

same_step : (l s : ℕ) (u : TrailEntry) → nat_eq u.lit l ≡ false → rested l s u ≡ u
same_step l s u o = rw o refl

new_reason : (l s : ℕ) (u : TrailEntry) → nat_eq u.lit l ≡ true → (rested l s u).reason ≡ Some s
new_reason l s u y = rw y refl

pub engine_rested : (e : EngineView) (id l s : ℕ) → IsEngine e → IsOtherUnit e id l s → IsEngine (with_trail e (with_reason e.trail l s))
engine_rested e id l s k unit = record {
  entries = λ before after t at.
      let r = cut_map (rested l s) e.trail before t after at in
      let entry = k.entries r.0 r.2 r.1 r.3 in
      let lit : t.lit ≡ r.1.lit = ap (λ z. z.lit) r.5 ∙ lit-rested l s r.1 in
      let front : literals before ≡ literals r.0 = ap literals r.4 ∙ literals-rested r.0 l s in
      record {
        reserved = subst (λ z. var z ≤ e.vars) (sym lit) entry.reserved;
        free = subst (λ z. IsFree z t.lit) (sym front) (subst (IsFree (literals r.0)) (sym lit) entry.free);
        reason = λ q is. elim (cases_Bool (nat_eq r.1.lit l)) [
          | inl y ↦
              let here : s ≡ q = same_Some _ _ (sym (new_reason l s r.1 y) ∙ ap (λ z. z.reason) (sym r.5) ∙ is) in
              let all : IsReason e.clauses (literals before) l s = (unit.0, l ∷ [], unit.2, unit.3, alone_is_unit (literals before) l) in
              subst (λ z. IsReason e.clauses (literals before) z q) (sym (lit ∙ eqb-true r.1.lit l y)) (subst (IsReason e.clauses (literals before) l) here all)
          | inr o ↦
              let same : t ≡ r.1 = r.5 ∙ same_step l s r.1 o in
              subst (λ z. IsReason e.clauses z t.lit q) (sym front) (subst (λ z. IsReason e.clauses (literals r.0) z q) (sym lit) (entry.reason q (ap (λ z. z.reason) (sym same) ∙ is)))
        ];
      };
  slots_apart = k.slots_apart;
  clauses_reserved = k.clauses_reserved;
  vars_limit = k.vars_limit;
}

pub none_rested : (e : EngineView) (id l s : ℕ) → IsEngine e → IsReasonOf e id l → IsOtherUnit e id l s → IsNoReason (with_trail e (with_reason e.trail l s)) id
none_rested e id l s k was unit t q m is at =
    let r = source e.trail l s t m in
    elim (cases_Bool (nat_eq r.1.lit l)) [
      | inl y ↦
          let here : s ≡ q = same_Some _ _ (sym (new_reason l s r.1 y) ∙ ap (λ z. z.reason) (sym r.4) ∙ is) in
          unit.1 (k.slots_apart unit.0 id q (unit.2 ∙ ap Some here) at)
      | inr o ↦
          let same : t ≡ r.1 = r.4 ∙ same_step l s r.1 o in
          let why : r.1.reason ≡ Some q = ap (λ z. z.reason) (sym same) ∙ is in
          eqb-false r.1.lit l o (one_literal e r.0 r.2 r.1 l q k r.3 why (was.2 ∙ sym was.1 ∙ at))
    ]

pub inside_rested : (w : Watched) (a b : Assigned) (head : ℕ) (ids : List ℕ) (pending_head : ℕ) (levels : List Heads) (room id l s : ℕ) → IsEngineInside w a head ids pending_head levels room → level_after a.entries ≡ 0
    → IsReasonOf (engine_of w.clauses a.entries a.vars) id l → IsOtherUnit (engine_of w.clauses a.entries a.vars) id l s → b ≡ with_entries a (with_reason a.entries l s) → IsEngineInside w b head ids pending_head levels room
inside_rested w a b head ids pending_head levels room id l s h level was unit is =
    let e : EngineView = engine_of w.clauses a.entries a.vars in
    let all : IsEngineInside w (with_entries a (with_reason a.entries l s)) head ids pending_head levels room = record {
      sound = engine_rested e id l s h.sound unit;
      wide = h.wide;
      pending = h.pending;
      now = subst (λ z. AreHeads w.clauses z head ids pending_head) (sym (literals-rested a.entries l s)) h.now;
      counted = h.counted ∙ sym (level_after-rested a.vars a.entries l s (new_entries e h.sound) (ap is_some was.2));
      before = λ j d lt at. absurd (let g = h.counted in omega (arith, g, level, lt));
      levels_fit = h.levels_fit;
    } in
    subst (λ z. IsEngineInside w z head ids pending_head levels room) (sym is) all

-- ---- Clauses that are found by their sets

found_by : (o : Option ClauseEntry) (set : List ℕ) → is_some (option_map (λ (p : Place). p.slot) (option_and_then (λ (h : ClauseEntry). h.place) o)) ≡ true → unwrap_or (option_map (λ (h : ClauseEntry). h.literals) o) [] ≡ set
    → option_and_then if_active (option_map clause_of o) ≡ Some set
found_by None set on is = cc on
found_by (Some h) set on is = by_place h.place on
  where
    by_place : (p : Option Place) → is_some (option_map (λ (q : Place). q.slot) p) ≡ true → if_active (clause_of (record { literals = h.literals; slot = h.slot; place = p })) ≡ Some set
    by_place None f = cc f
    by_place (Some q) f = ap Some is

with_set : (o : Option ClauseEntry) (set : List ℕ) → option_and_then if_active (option_map clause_of o) ≡ Some set
    → (is_some (option_map (λ (p : Place). p.slot) (option_and_then (λ (h : ClauseEntry). h.place) o)) ≡ true) × (unwrap_or (option_map (λ (h : ClauseEntry). h.literals) o) [] ≡ set)
with_set None set e = cc e
with_set (Some h) set e = by_place h.place e
  where
    by_place : (p : Option Place) → if_active (clause_of (record { literals = h.literals; slot = h.slot; place = p })) ≡ Some set → (is_some (option_map (λ (q : Place). q.slot) p) ≡ true) × (h.literals ≡ set)
    by_place None f = cc f
    by_place (Some q) f = (refl, same_Some _ _ f)

pub active_found : (m : Store) (id : ℕ) (set : List ℕ) → IsActiveWith m set id → active_at (clauses_of m) id ≡ Some set
active_found m id set h = ap (option_and_then if_active) (get-clauses_of m id) ∙ found_by (get m id) set h.0 h.1

pub found_active : (m : Store) (id : ℕ) (set : List ℕ) → active_at (clauses_of m) id ≡ Some set → IsActiveWith m set id
found_active m id set e = with_set (get m id) set (ap (option_and_then if_active) (sym (get-clauses_of m id)) ∙ e)

-- ---- What calls answer

-- the literal that is there, or what holds where there is none
pub if_there : (P : ℕ → Type 0) (o : Option ℕ) → IfSome o P → is_some o ≡ true → (l : ℕ) × P l
if_there P None h on = cc on
if_there P (Some l) h on = (l, h)

pub if_not_there : (P : Type 0) (o : Option ℕ) → IfNone o P → is_some o ≡ false → P
if_not_there P None h off = h
if_not_there P (Some l) h off = cc off

pub reason_here : (e : EngineView) (id s l : ℕ) → slot_of e.clauses id ≡ Some s → reason_in e.trail l ≡ Some s → IsReasonOf e id l
reason_here e id s l slot at = (s, slot, at)

-- a clause that is a literal's reason has the literal
pub no_reason-listed : (m : Store) (ss : List TrailEntry) (vars id s : ℕ) (ls : List ℕ) → IsStore m → IsEngine (engine_of m ss vars) → slot_at m id ≡ Some s → lits_at m id ≡ ls
    → ((l : ℕ) → Contains ls l → reason_in ss l ≡ Some s → ⊥) → IsNoReason (engine_of m ss vars) id
no_reason-listed m ss vars id s ls stored k found list none t r mem is at =
    let e : EngineView = engine_of m ss vars in
    let slot : r ≡ s = same_Some _ _ (sym at ∙ slot_of-clauses_of m id ∙ found) in
    let forced = forced_literal e id r t k mem is at in
    let a = active-at_slot m id s stored found in
    let set : a.lits ≡ forced.0 = same_Some _ _ (sym a.here ∙ forced.1) in
    let member : has (lits_at m id) t.lit ≡ true = a.same t.lit ∙ ap (λ z. has z t.lit) set ∙ forced.2 in
    none t.lit (has_at ls t.lit (ap (λ z. has z t.lit) (sym list) ∙ member)) (forced.3 ∙ ap Some slot)

pub no_reason-inactive : (m : Store) (ss : List TrailEntry) (vars id : ℕ) → slot_at m id ≡ None → IsNoReason (engine_of m ss vars) id
no_reason-inactive m ss vars id gone t r mem is at = none-some r (sym gone ∙ sym (slot_of-clauses_of m id) ∙ at)

pub some_reason : (e : EngineView) (id l : ℕ) → IsReasonOf e id l → IsSomeReason e id
some_reason e id l h = let s = reason-found e.trail l h.0 h.2 in (s.0, h.0, s.1, s.2, h.1)

pub one_set : (l : ℕ) → set_of (l ∷ []) ≡ l ∷ []
unfolding set_of with_literal
one_set l = refl

-- another clause of the literal alone
pub unit_found : (m : Store) (ss : List TrailEntry) (vars id x l : ℕ) (set : List ℕ) → set ≡ l ∷ [] → IsActiveWith m set x → x ≢ id → (o : Option ℕ) → o ≡ slot_at m x → IfSome o (λ s. IsOtherUnit (engine_of m ss vars) id l s)
unit_found m ss vars id x l set is found other None slot = tt
unit_found m ss vars id x l set is found other (Some s) slot = (x, other, slot_of-clauses_of m x ∙ sym slot, active_found m x set found ∙ ap Some is)

-- where only the clause itself is found
pub unit_itself : (m : Store) (e : EngineView) (id l : ℕ) (set : List ℕ) → clauses_of m ≡ e.clauses → set ≡ l ∷ [] → IsActiveWith m set id → active_at e.clauses id ≡ Some (l ∷ [])
unit_itself m e id l set seen is found = ap (λ z. active_at z id) (sym seen) ∙ active_found m id set found ∙ ap Some is

-- where none is found
pub unit_none : (m : Store) (e : EngineView) (l x : ℕ) (set : List ℕ) → clauses_of m ≡ e.clauses → set ≡ l ∷ [] → ((y : ℕ) → IsActiveWith m set y → ⊥) → active_at e.clauses x ≡ Some (l ∷ []) → ⊥
unit_none m e l x set seen is none at = none x (found_active m x set (ap (λ z. active_at z x) seen ∙ at ∙ ap Some (sym is)))

-- a clause that is a literal's reason isn't no reason
pub not_both : (e : EngineView) (id l : ℕ) → IsReasonOf e id l → IsNoReason e id → ⊥
not_both e id l h none = let r = some_reason e id l h in none r.0 r.1 r.2 r.3 r.4
