-- How the tables of an assignment follow its entries.
use Rattle.std.proofs.Common.{◌≡◌, ◌≢◌, ℕ, suc, zero, ◌+◌, ◌-◌, ◌*◌, ◌<◌, ◌≤◌, ◌⊎◌, List, [], ◌∷◌, ◌++◌, length, length-append, take, replicate, get_or, Option, Some, None, refl, sym, ap, ◌∙◌, subst, inl, inr, arith, true, false, Bool, nat_eq, ◌||◌, eqb-true, eq-eqb, ne_eqb, append_assoc, Contains}
use Rattle.std.proofs.lemmas.Option.{same_Some, none-some}
use Rattle.std.proofs.lemmas.Bool.{cases_Bool, both_ways, and_parts, or_cases, or_left, or_right, eqb-false}
use Rattle.std.proofs.lemmas.List.{get_or_default, get_or_past, take_all}
use Rattle.std.proofs.lemmas.List.Folds.{list_any-append}
use Rattle.std.proofs.Math.Seq.{get_or-set_same, get_or-set_other, get_or-append_right}
use Rattle.std.proofs.Math.ListN.{length-set, get_or-append, length-replicate}
use Rattle.std.specs.Prelude.{slice_set, is_none}
use Rattle.lits.specs.Literal.{max_var, var, neg}
use Rattle.lits.proofs.Literal.{neg-neg}
use Rattle.lits.proofs.Members.{here, there, not_in_nil, here_or_there}
use Rattle.propagation.specs.Clauses.{slot_of, active_at}
use Rattle.session_rules.specs.Logic.{has}
use Rattle.propagation.specs.declared.TrailEntry.{TrailEntry}
use Rattle.propagation.specs.declared.assignment.Origin.{Origin}
use Rattle.propagation.specs.declared.assignment.Value.{Value}
use Rattle.propagation.specs.declared.assignment.Value.TheVariants as value
use Rattle.propagation.specs.Engine.{EngineView, IsEngine, literals, level_after, level_behind, reason_in, value_in, IsFree}
use Rattle.propagation.specs.Assigned.{IsNew, IsAt, AreNew, AreValues, AreOrigins, IsAssigned, raised, lowered, value_of}
use Rattle.propagation.proofs.Trail.{literals-push, length-literals, AreNew-push, AreNew-more, new-room, level_after-append}
use Rattle.propagation.proofs.Levels.{level_after-le}
use Rattle.propagation.proofs.Closing.{new-consistent}

-- ---- One literal more

has-push : (ss : List TrailEntry) (s : TrailEntry) (l : ℕ) → has (literals (ss ++ s ∷ [])) l ≡ (has (literals ss) l || nat_eq l s.lit)
has-push ss s l = ap (λ z. has z l) (literals-push ss s) ∙ list_any-append (nat_eq l) (literals ss) (s.lit ∷ []) ∙ ap (λ b. has (literals ss) l || b) (or_false (nat_eq l s.lit))
  where
    or_false : (b : Bool) → (b || false) ≡ b
    or_false true = refl
    or_false false = refl

has-push_other : (ss : List TrailEntry) (s : TrailEntry) (l : ℕ) → l ≢ s.lit → has (literals (ss ++ s ∷ [])) l ≡ has (literals ss) l
has-push_other ss s l n = has-push ss s l ∙ ap (λ b. has (literals ss) l || b) (ne_eqb _ _ n) ∙ or_false (has (literals ss) l)
  where
    or_false : (b : Bool) → (b || false) ≡ b
    or_false true = refl
    or_false false = refl

has-push_same : (ss : List TrailEntry) (s : TrailEntry) → has (literals (ss ++ s ∷ [])) s.lit ≡ true
has-push_same ss s = has-push ss s s.lit ∙ or_right (has (literals ss) s.lit) (nat_eq s.lit s.lit) (eq-eqb s.lit s.lit refl)

value-push_same : (ss : List TrailEntry) (s : TrailEntry) → value_in (literals (ss ++ s ∷ [])) s.lit ≡ Some true
value-push_same ss s = rw (has-push_same ss s) refl

value-push_neg : (ss : List TrailEntry) (s : TrailEntry) → IsFree (literals ss) s.lit → value_in (literals (ss ++ s ∷ [])) (neg s.lit) ≡ Some false
value-push_neg ss s free =
    let ne : neg s.lit ≢ s.lit = λ e. omega (arith, e) in
    let one : has (literals (ss ++ s ∷ [])) (neg s.lit) ≡ false = has-push_other ss s (neg s.lit) ne ∙ free.1 in
    let two : has (literals (ss ++ s ∷ [])) (neg (neg s.lit)) ≡ true = ap (has (literals (ss ++ s ∷ []))) (neg-neg s.lit) ∙ has-push_same ss s in
    rw (one, two) refl

value-push_other : (ss : List TrailEntry) (s : TrailEntry) (l : ℕ) → l ≢ s.lit → l ≢ neg s.lit → value_in (literals (ss ++ s ∷ [])) l ≡ value_in (literals ss) l
value-push_other ss s l n m =
    let other : neg l ≢ s.lit = λ e. m (sym (neg-neg l) ∙ ap neg e) in
    rw (has-push_other ss s l n, has-push_other ss s (neg l) other) refl

pub value-free : (trues : List ℕ) (l : ℕ) → IsFree trues l → value_in trues l ≡ None
value-free trues l free = rw (free.0, free.1) refl

pub value-free_neg : (trues : List ℕ) (l : ℕ) → IsFree trues l → value_in trues (neg l) ≡ None
value-free_neg trues l free = let two : has trues (neg (neg l)) ≡ false = ap (has trues) (neg-neg l) ∙ free.0 in rw (free.1, two) refl

cases : (i j : ℕ) → (i ≡ j) ⊎ (i ≢ j)
cases i j = grind arith

-- ---- The values

-- what a table has behind two writes
pub two_writes : (xs : List Value) (i j k : ℕ) (a b : Value) → i < length xs → j < length xs → i ≢ j
    → ((k ≡ i) × (get_or (slice_set (slice_set xs i a) j b) k value.Free ≡ a)) ⊎ (((k ≡ j) × (get_or (slice_set (slice_set xs i a) j b) k value.Free ≡ b)) ⊎ ((k ≢ i) × (k ≢ j) × (get_or (slice_set (slice_set xs i a) j b) k value.Free ≡ get_or xs k value.Free)))
two_writes xs i j k a b il jl n =
    let jl2 : j < length (slice_set xs i a) = subst (λ z. j < z) (sym (length-set xs i a)) jl in
    elim (cases k j) [
      | inl y ↦ inr (inl (y, rw y (get_or-set_same (slice_set xs i a) j b value.Free jl2)))
      | inr o ↦ elim (cases k i) [
        | inl y ↦ inl (y, get_or-set_other (slice_set xs i a) j k b value.Free o ∙ rw y (get_or-set_same xs i a value.Free il))
        | inr p ↦ inr (inr (p, o, get_or-set_other (slice_set xs i a) j k b value.Free o ∙ get_or-set_other xs i k a value.Free p))
      ]
    ]

values-put : (ss : List TrailEntry) (s : TrailEntry) (xs : List Value) → AreValues ss xs → IsFree (literals ss) s.lit → s.lit < length xs → neg s.lit < length xs
    → AreValues (ss ++ s ∷ []) (slice_set (slice_set xs s.lit value.True) (neg s.lit) value.False)
values-put ss s xs h free il jl l = elim (two_writes xs s.lit (neg s.lit) l value.True value.False il jl (λ e. omega (arith, e))) [
  | inl r ↦ ap value_of r.1 ∙ sym (ap (value_in (literals (ss ++ s ∷ []))) r.0 ∙ value-push_same ss s)
  | inr o ↦ elim o [
    | inl r ↦ ap value_of r.1 ∙ sym (ap (value_in (literals (ss ++ s ∷ []))) r.0 ∙ value-push_neg ss s free)
    | inr r ↦ ap value_of r.2 ∙ h l ∙ sym (value-push_other ss s l r.0 r.1)
  ]
]

-- ---- Scans that the tables spare

-- what is added behind a literal that is true changes neither its level nor its reason
pub level-kept : (n : ℕ) (ss rest : List TrailEntry) (l : ℕ) → has (literals ss) l ≡ true → level_behind n (ss ++ rest) l ≡ level_behind n ss l
unfolding level_behind
level-kept n [] rest l h = cc h
level-kept n (x ∷ ss) rest l h = elim (cases_Bool (nat_eq (var x.lit) (var l))) [
  | inl y ↦ rw y refl
  | inr o ↦ rw o (level-kept (raised n x.reason) ss rest l (later o))
]
  where
    later : nat_eq (var x.lit) (var l) ≡ false → has (literals ss) l ≡ true
    later o = elim (or_cases (nat_eq l x.lit) (has (literals ss) l) h) [
      | inl e ↦ absurd (eqb-false (var x.lit) (var l) o (ap var (sym (eqb-true l x.lit e))))
      | inr n ↦ n
    ]

pub reason-kept : (ss rest : List TrailEntry) (l : ℕ) → has (literals ss) l ≡ true → reason_in (ss ++ rest) l ≡ reason_in ss l
reason-kept [] rest l h = cc h
reason-kept (x ∷ ss) rest l h = elim (cases_Bool (nat_eq x.lit l)) [
  | inl y ↦ rw y refl
  | inr o ↦ rw o (reason-kept ss rest l (later o))
]
  where
    later : nat_eq x.lit l ≡ false → has (literals ss) l ≡ true
    later o = elim (or_cases (nat_eq l x.lit) (has (literals ss) l) h) [
      | inl e ↦ absurd (eqb-false x.lit l o (sym (eqb-true l x.lit e)))
      | inr n ↦ n
    ]

-- a variable that is another one is passed over
var-apart : (l m : ℕ) → l ≢ m → neg l ≢ m → nat_eq (var m) (var l) ≡ false
var-apart l m n o = ne_eqb (var m) (var l) (λ e. omega (arith, n, o, e))

pub free-rest : (x : TrailEntry) (ss : List TrailEntry) (l : ℕ) → IsFree (literals (x ∷ ss)) l → (nat_eq (var x.lit) (var l) ≡ false) × IsFree (literals ss) l
free-rest x ss l free = elim (cases_Bool (nat_eq l x.lit)) [
  | inl y ↦ absurd (both_ways _ free.0 (or_left (nat_eq l x.lit) (has (literals ss) l) y))
  | inr n ↦ elim (cases_Bool (nat_eq (neg l) x.lit)) [
    | inl y ↦ absurd (both_ways _ free.1 (or_left (nat_eq (neg l) x.lit) (has (literals ss) (neg l)) y))
    | inr o ↦
        let h : has (literals ss) l ≡ false = rw n at free.0 in
        let k : has (literals ss) (neg l) ≡ false = rw o at free.1 in
        (var-apart l x.lit (eqb-false _ _ n) (eqb-false _ _ o), (h, k))
  ]
]

pub level-free : (n : ℕ) (ss : List TrailEntry) (l : ℕ) → IsFree (literals ss) l → level_behind n ss l ≡ None
unfolding level_behind
level-free n [] l free = refl
level-free n (x ∷ ss) l free = let r = free-rest x ss l free in rw r.0 (level-free (raised n x.reason) ss l r.1)

raised-on : (n : ℕ) (x : TrailEntry) (ss : List TrailEntry) → raised n x.reason + level_after ss ≡ n + level_after (x ∷ ss)
raised-on n x ss = elim (cases_Bool (is_none x.reason)) [ inl y ↦ rw y (omega arith) | inr o ↦ rw o refl ]

pub level-new : (n : ℕ) (ss : List TrailEntry) (s : TrailEntry) → IsFree (literals ss) s.lit → level_behind n (ss ++ s ∷ []) s.lit ≡ Some (raised (n + level_after ss) s.reason)
unfolding level_behind
level-new n [] s free = let same : nat_eq (var s.lit) (var s.lit) ≡ true = eq-eqb _ _ refl in rw same (ap (λ k. Some (raised k s.reason)) (omega arith))
level-new n (x ∷ ss) s free = let r = free-rest x ss s.lit free in
    rw r.0 (level-new (raised n x.reason) ss s r.1 ∙ ap (λ k. Some (raised k s.reason)) (raised-on n x ss))

pub reason-new : (ss : List TrailEntry) (s : TrailEntry) → has (literals ss) s.lit ≡ false → reason_in (ss ++ s ∷ []) s.lit ≡ s.reason
reason-new [] s free = let same : nat_eq s.lit s.lit ≡ true = eq-eqb _ _ refl in rw same refl
reason-new (x ∷ ss) s free = elim (cases_Bool (nat_eq s.lit x.lit)) [
  | inl y ↦ absurd (both_ways _ free (or_left (nat_eq s.lit x.lit) (has (literals ss) s.lit) y))
  | inr o ↦
      let h : has (literals ss) s.lit ≡ false = rw o at free in
      let n : nat_eq x.lit s.lit ≡ false = ne_eqb x.lit s.lit (λ e. eqb-false s.lit x.lit o (sym e)) in
      rw n (reason-new ss s h)
]

pub reason-none : (ss : List TrailEntry) (l : ℕ) → has (literals ss) l ≡ false → reason_in ss l ≡ None
reason-none [] l h = refl
reason-none (x ∷ ss) l h = elim (cases_Bool (nat_eq l x.lit)) [
  | inl y ↦ absurd (both_ways _ h (or_left (nat_eq l x.lit) (has (literals ss) l) y))
  | inr o ↦
      let f : has (literals ss) l ≡ false = rw o at h in
      let n : nat_eq x.lit l ≡ false = ne_eqb x.lit l (λ e. eqb-false l x.lit o (sym e)) in
      rw n (reason-none ss l f)
]

pub level-same_var : (n : ℕ) (ss : List TrailEntry) (l m : ℕ) → var l ≡ var m → level_behind n ss l ≡ level_behind n ss m
unfolding level_behind
level-same_var n [] l m e = refl
level-same_var n (x ∷ ss) l m e = elim (cases_Bool (nat_eq (var x.lit) (var m))) [
  | inl y ↦ let f : nat_eq (var x.lit) (var l) ≡ true = ap (nat_eq (var x.lit)) e ∙ y in rw (f, y) refl
  | inr o ↦ let f : nat_eq (var x.lit) (var l) ≡ false = ap (nat_eq (var x.lit)) e ∙ o in rw (f, o) (level-same_var (raised n x.reason) ss l m e)
]

-- ---- Reasons of the trail

pub reason-found : (ss : List TrailEntry) (l r : ℕ) → reason_in ss l ≡ Some r → (s : TrailEntry) × Contains ss s × (s.reason ≡ Some r)
reason-found [] l r e = absurd (none-some r e)
reason-found (x ∷ ss) l r e = elim (cases_Bool (nat_eq x.lit l)) [
  | inl y ↦ let f : reason_in (x ∷ ss) l ≡ x.reason = rw y refl in (x, here x ss, sym f ∙ e)
  | inr o ↦ let f : reason_in ss l ≡ Some r = rw o at e in let n = reason-found ss l r f in (n.0, there x n.0 ss n.1, n.2)
]

pub cut_at : (ss : List TrailEntry) (s : TrailEntry) → Contains ss s → (before : List TrailEntry) × (after : List TrailEntry) × (ss ≡ before ++ s ∷ after)
cut_at [] s m = absurd (not_in_nil s m)
cut_at (x ∷ ss) s m = elim (here_or_there x s ss m) [
  | inl e ↦ ([], ss, ap (λ z. z ∷ ss) e)
  | inr n ↦ let r = cut_at ss s n in (x ∷ r.0, r.1, ap (λ z. x ∷ z) r.2)
]

-- the reason of an entry's literal
pub reason_at : (n : ℕ) (before after : List TrailEntry) (t : TrailEntry) → AreNew n (before ++ t ∷ after) → reason_in (before ++ t ∷ after) t.lit ≡ t.reason
reason_at n before after t k =
    ap (λ z. reason_in z t.lit) (sym (append_assoc before (t ∷ []) after)) ∙ reason-kept (before ++ t ∷ []) after t.lit (has-push_same before t) ∙ reason-new before t (k before after t refl).free.0

-- the literal that a clause forced is one of the clause
pub forced_literal : (e : EngineView) (id r : ℕ) (s : TrailEntry) → IsEngine e → Contains e.trail s → s.reason ≡ Some r → slot_of e.clauses id ≡ Some r
    → (c : List ℕ) × (active_at e.clauses id ≡ Some c) × (has c s.lit ≡ true) × (reason_in e.trail s.lit ≡ Some r)
forced_literal e id r s k m is at =
    let cut = cut_at e.trail s m in
    let entry = k.entries cut.0 cut.1 s cut.2 in
    let y = entry.reason r is in
    let same : y.0 ≡ id = k.slots_apart y.0 id r y.2 at in (
      y.1,
      sym (ap (active_at e.clauses) same) ∙ y.3,
      (and_parts _ _ y.4).0,
      ap (λ z. reason_in z s.lit) (cut.2 ∙ sym (append_assoc cut.0 (s ∷ []) cut.1)) ∙ reason-kept (cut.0 ++ s ∷ []) cut.1 s.lit (has-push_same cut.0 s) ∙ reason-new cut.0 s entry.free.0 ∙ is,
    )

-- ---- The origins

abbrev origin_of : ℕ → ℕ → TrailEntry → Origin
origin_of level place s = record { level = raised level s.reason; place = place }

-- an entry has its place before the ones that are added
at-more : (ss : List TrailEntry) (s : TrailEntry) (l place : ℕ) → IsAt ss l place → IsAt (ss ++ s ∷ []) l place
at-more ss s l place k = record {
  before = k.before;
  entry = k.entry;
  after = k.after ++ s ∷ [];
  cut = ap (λ z. z ++ s ∷ []) k.cut ∙ append_assoc k.before (k.entry ∷ k.after) (s ∷ []);
  counted = k.counted;
  lit = k.lit;
}

origins-put : (n : ℕ) (ss : List TrailEntry) (s : TrailEntry) (origins : List Origin) (level place : ℕ) → AreOrigins ss origins → IsNew n ss s.lit → n ≤ length origins → level ≡ level_after ss → place ≡ length ss
    → AreOrigins (ss ++ s ∷ []) (slice_set origins (var s.lit - 1) (record { level = raised level s.reason; place = place }))
origins-put n ss s origins level place k new le count long l m h at = elim (cases l s.lit) [
  | inl y ↦
      let here : get_or (slice_set origins (var s.lit - 1) (origin_of level place s)) (var s.lit - 1) m ≡ origin_of level place s = get_or-set_same origins (var s.lit - 1) (origin_of level place s) m (omega (arith, new.reserved)) in
      let reached : 0 + level_after ss ≡ level = omega (arith, count) in
      let is : m ≡ origin_of level place s = at ∙ ap (λ z. get_or (slice_set origins (var s.lit - 1) (origin_of level place s)) (var z - 1) m) y ∙ here in
      record {
        level = ap (level_behind 0 (ss ++ s ∷ [])) y ∙ level-new 0 ss s new.free ∙ ap (λ z. Some (raised z s.reason)) reached ∙ ap (λ z. Some z.level) (sym is);
        at = record { before = ss; entry = s; after = []; cut = refl; counted = ap (λ z. z.place) is ∙ long; lit = sym y };
      }
  | inr o ↦
      let old : has (literals ss) l ≡ true = sym (has-push_other ss s l o) ∙ h in
      let far : l ≢ neg s.lit = λ e. both_ways _ new.free.1 (subst (λ z. has (literals ss) z ≡ true) e old) in
      let apart : var l - 1 ≢ var s.lit - 1 = λ e. omega (arith, o, far, e) in
      let origin_at = k l m old (at ∙ get_or-set_other origins (var s.lit - 1) (var l - 1) (origin_of level place s) m apart) in
      record { level = level-kept 0 ss (s ∷ []) l old ∙ origin_at.level; at = at-more ss s l m.place origin_at.at }
]

-- ---- The level

pub level_after-push : (ss : List TrailEntry) (s : TrailEntry) → level_after (ss ++ s ∷ []) ≡ raised (level_after ss) s.reason
level_after-push ss s = level_after-append ss (s ∷ []) ∙ last
  where
    last : level_after ss + level_after (s ∷ []) ≡ raised (level_after ss) s.reason
    last = elim (cases_Bool (is_none s.reason)) [ inl y ↦ rw y refl | inr o ↦ rw o (omega arith) ]

pub lowered-raised : (n : ℕ) (r : Option ℕ) → lowered (raised n r) r ≡ n
lowered-raised n None = omega arith
lowered-raised n (Some r) = refl

-- ---- What holds after each call

pub assigned-new : (a b : ℕ) → IsAssigned [] [] [] [] 0 a b
assigned-new a b = record {
  each_new = λ before after s at. absurd (no_step before after s at);
  same = refl;
  rows = refl;
  each_value = λ l. refl;
  each_origin = λ l m h at. cc h;
  counted = refl;
  limit = omega arith;
  entries_fit = omega arith;
  lits_fit = omega arith;
}
  where
    no_step : (before after : List TrailEntry) (s : TrailEntry) → [] ≡ before ++ s ∷ after → ⊥
    no_step [] after s e = cc e
    no_step (b ∷ before) after s e = let f : [] ≡ b ∷ (before ++ s ∷ after) = e in cc f

pub assigned-put : (ss : List TrailEntry) (lits : List ℕ) (values : List Value) (origins : List Origin) (level place a b c d : ℕ) (s : TrailEntry) → IsAssigned ss lits values origins level a b → IsNew (length origins) ss s.lit → place ≡ length ss → a ≤ c → b ≤ d
    → IsAssigned (ss ++ s ∷ []) (lits ++ s.lit ∷ []) (slice_set (slice_set values s.lit value.True) (neg s.lit) value.False) (slice_set origins (var s.lit - 1) (origin_of level place s)) (raised level s.reason) c d
assigned-put ss lits values origins level place a b c d s k new long ac bd =
    let stay : length (slice_set origins (var s.lit - 1) (origin_of level place s)) ≡ length origins = length-set origins (var s.lit - 1) (origin_of level place s) in
    let wide : length (slice_set (slice_set values s.lit value.True) (neg s.lit) value.False) ≡ length values = length-set (slice_set values s.lit value.True) (neg s.lit) value.False ∙ length-set values s.lit value.True in
    record {
      each_new = subst (λ z. AreNew z (ss ++ s ∷ [])) (sym stay) (AreNew-push (length origins) ss s k.each_new new);
      same = ap (λ z. z ++ s.lit ∷ []) k.same ∙ sym (literals-push ss s);
      rows = wide ∙ k.rows ∙ ap (λ z. 2 * z) (sym stay);
      each_value = values-put ss s values k.each_value new.free (omega (arith, new.reserved, k.rows)) (omega (arith, new.reserved, k.rows));
      each_origin = origins-put (length origins) ss s origins level place k.each_origin new (omega arith) k.counted long;
      counted = ap (λ z. raised z s.reason) k.counted ∙ sym (level_after-push ss s);
      limit = omega (arith, stay, k.limit);
      entries_fit = omega (arith, stay, k.entries_fit, ac);
      lits_fit = omega (arith, stay, k.lits_fit, bd);
    }

-- there is room for one more
pub assigned-room : (ss : List TrailEntry) (lits : List ℕ) (values : List Value) (origins : List Origin) (level a b : ℕ) (s : TrailEntry) → IsAssigned ss lits values origins level a b → IsNew (length origins) ss s.lit
    → (length ss < a) × (length lits < b) × (level < max_var) × (length ss < max_var)
assigned-room ss lits values origins level a b s k new =
    let lt : length ss < length origins = new-room (length origins) ss s k.each_new new in
    let few : level_after ss ≤ length ss = level_after-le ss in
    let same : length lits ≡ length ss = ap length k.same ∙ length-literals ss in
    (omega (arith, lt, k.entries_fit), omega (arith, lt, same, k.lits_fit), omega (arith, lt, few, k.counted, k.limit), omega (arith, lt, k.limit))

-- a literal that has come on the trail is of a reserved variable
pub reserved-true : (n : ℕ) (ss : List TrailEntry) (l : ℕ) → AreNew n ss → has (literals ss) l ≡ true → var l ≤ n
reserved-true n ss l k h = along [] ss l refl h
  where
    along : (before after : List TrailEntry) (q : ℕ) → ss ≡ before ++ after → has (literals after) q ≡ true → var q ≤ n
    along before [] q at g = cc g
    along before (x ∷ after) q at g = elim (or_cases (nat_eq q x.lit) (has (literals after) q) g) [
      | inl e ↦ subst (λ z. var z ≤ n) (sym (eqb-true q x.lit e)) (k before after x at).reserved
      | inr m ↦ along (before ++ x ∷ []) after q (at ∙ sym (append_assoc before (x ∷ []) after)) m
    ]

-- ---- Room is made

grown_get : {X : Type 0} (xs : List X) (n m i : ℕ) (x d : X) → length xs ≤ n → m ≡ length xs → i < length xs → get_or (take n xs ++ replicate (n - m) x) i d ≡ get_or xs i d
grown_get xs n m i x d le e lt = rw (take_all n xs le) (get_or-append xs (replicate (n - m) x) d i lt)

grown_free : (xs : List Value) (n m i : ℕ) → length xs ≤ n → m ≡ length xs → get_or (take n xs ++ replicate (n - m) value.Free) i value.Free ≡ get_or xs i value.Free
grown_free xs n m i le e = elim (below i) [
  | inl lt ↦ grown_get xs n m i value.Free value.Free le e lt
  | inr past ↦ rw (take_all n xs le) (get_or-append_right xs (replicate (n - m) value.Free) i value.Free past ∙ frees (n - m) (i - length xs)) ∙ sym (get_or_past xs i value.Free past)
]
  where
    below : (k : ℕ) → (k < length xs) ⊎ (length xs ≤ k)
    below k = grind arith

    frees : (k j : ℕ) → get_or (replicate k value.Free) j value.Free ≡ value.Free
    frees zero j = refl
    frees (suc k) zero = refl
    frees (suc k) (suc j) = frees k j

grown_length : {X : Type 0} (xs : List X) (n m : ℕ) (x : X) → length xs ≤ n → m ≡ length xs → length (take n xs ++ replicate (n - m) x) ≡ n
grown_length xs n m x le e = rw (take_all n xs le) (length-append xs (replicate (n - m) x) ∙ ap (λ z. length xs + z) (length-replicate (n - m) x) ∙ omega (arith, le, e))

pub assigned-grown : (ss : List TrailEntry) (lits : List ℕ) (values more : List Value) (origins wider : List Origin) (level n v m a b c d : ℕ) (x : Origin) → IsAssigned ss lits values origins level a b → length origins ≤ n → n ≤ max_var
    → v ≡ length values → m ≡ length origins → more ≡ take (2 * n) values ++ replicate (2 * n - v) value.Free → wider ≡ take n origins ++ replicate (n - m) x → n ≤ c → n ≤ d → IsAssigned ss lits more wider level c d
assigned-grown ss lits values more origins wider level n v m a b c d x k le limit vs ms es em nc nd =
    let two : length values ≤ 2 * n = omega (arith, k.rows, le) in
    let wide : length wider ≡ n = ap length em ∙ grown_length origins n m x le ms in
    record {
      each_new = AreNew-more (length origins) (length wider) ss k.each_new (omega (arith, wide, le));
      same = k.same;
      rows = ap length es ∙ grown_length values (2 * n) v value.Free two vs ∙ ap (λ z. 2 * z) (sym wide);
      each_value = λ l. ap (λ z. value_of (get_or z l value.Free)) es ∙ ap value_of (grown_free values (2 * n) v l two vs) ∙ k.each_value l;
      each_origin = λ l y h at.
          let low = reserved-true (length origins) ss l k.each_new h in
          k.each_origin l y h (at ∙ ap (λ z. get_or z (var l - 1) y) em ∙ grown_get origins n m (var l - 1) x y le ms (omega (arith, low)));
      counted = k.counted;
      limit = omega (arith, wide, limit);
      entries_fit = omega (arith, wide, nc);
      lits_fit = omega (arith, wide, nd);
    }

-- ---- What is read

-- a literal whose value is known is true, or its negation is
pub true-read : (trues : List ℕ) (l : ℕ) → value_in trues l ≡ Some true → has trues l ≡ true
true-read trues l e = elim (cases_Bool (has trues l)) [
  | inl y ↦ y
  | inr o ↦ elim (cases_Bool (has trues (neg l))) [
    | inl z ↦ let f : value_in trues l ≡ Some false = rw (o, z) refl in let g : true ≡ false = same_Some _ _ (sym e ∙ f) in cc g
    | inr z ↦ let f : value_in trues l ≡ None = rw (o, z) refl in absurd (none-some true (sym f ∙ e))
  ]
]

-- a literal of a reserved variable whose entry says so is true
pub true-table : (ss : List TrailEntry) (lits : List ℕ) (values : List Value) (origins : List Origin) (level a b l k : ℕ) (v : Value) → IsAssigned ss lits values origins level a b → var l ≤ length origins → k ≡ l → v ≡ get_or values k v → v ≡ value.True → has (literals ss) l ≡ true
true-table ss lits values origins level a b l k v o low at read is =
    let within : l < length values = let e = o.rows in omega (arith, e) in
    let here : v ≡ get_or values l value.Free = read ∙ ap (λ z. get_or values z v) at ∙ get_or_default values l v value.Free within in
    true-read (literals ss) l (sym (o.each_value l) ∙ ap value_of (sym here ∙ is))

pub false-read : (trues : List ℕ) (l : ℕ) → value_in trues l ≡ Some false → (has trues l ≡ false) × (has trues (neg l) ≡ true)
false-read trues l e = elim (cases_Bool (has trues l)) [
  | inl y ↦ let f : value_in trues l ≡ Some true = rw y refl in let g : false ≡ true = same_Some _ _ (sym e ∙ f) in cc g
  | inr o ↦ elim (cases_Bool (has trues (neg l))) [
    | inl z ↦ (o, z)
    | inr z ↦ let f : value_in trues l ≡ None = rw (o, z) refl in absurd (none-some false (sym f ∙ e))
  ]
]

-- the negation of a true literal isn't true
pub true-alone : (n : ℕ) (ss : List TrailEntry) (l : ℕ) → AreNew n ss → has (literals ss) l ≡ true → has (literals ss) (neg l) ≡ false
true-alone n ss l k y = elim (cases_Bool (has (literals ss) (neg l))) [ inl z ↦ absurd (new-consistent n ss k l y z) | inr z ↦ z ]

pub value-none : (trues : List ℕ) (l : ℕ) → value_in trues l ≡ None → IsFree trues l
value-none trues l e = elim (cases_Bool (has trues l)) [
  | inl y ↦ let f : value_in trues l ≡ Some true = rw y refl in absurd (none-some true (sym e ∙ f))
  | inr o ↦ elim (cases_Bool (has trues (neg l))) [
    | inl z ↦ let f : value_in trues l ≡ Some false = rw (o, z) refl in absurd (none-some false (sym e ∙ f))
    | inr z ↦ (o, z)
  ]
]

-- one of the two literals is true
either-true : (trues : List ℕ) (l : ℕ) (v : Bool) → value_in trues l ≡ Some v → (has trues l ≡ true) ⊎ (has trues (neg l) ≡ true)
either-true trues l v e = elim (cases_Bool (has trues l)) [
  | inl y ↦ inl y
  | inr o ↦ elim (cases_Bool (has trues (neg l))) [
    | inl z ↦ inr z
    | inr z ↦ let f : value_in trues l ≡ None = rw (o, z) refl in absurd (none-some v (sym f ∙ e))
  ]
]

pub reserved-valued : (n : ℕ) (ss : List TrailEntry) (l : ℕ) (v : Bool) → AreNew n ss → value_in (literals ss) l ≡ Some v → var l ≤ n
reserved-valued n ss l v k e = elim (either-true (literals ss) l v e) [
  | inl y ↦ reserved-true n ss l k y
  | inr z ↦ let r = reserved-true n ss (neg l) k z in omega (arith, r)
]

pub level-read : (ss : List TrailEntry) (origins : List Origin) (l : ℕ) (v : Bool) (m : Origin) → AreOrigins ss origins → value_in (literals ss) l ≡ Some v → m ≡ get_or origins (var l - 1) m → Some m.level ≡ level_behind 0 ss l
level-read ss origins l v m k e at = elim (either-true (literals ss) l v e) [
  | inl y ↦ sym (k l m y at).level
  | inr z ↦
      let same : var (neg l) ≡ var l = omega arith in
      let r = k (neg l) m z (at ∙ ap (λ q. get_or origins (q - 1) m) (sym same)) in
      sym (level-same_var 0 ss l (neg l) (sym same) ∙ r.level)
]
