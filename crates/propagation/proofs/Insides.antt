-- What holds inside an engine, and is kept by each call.
use Rattle.std.proofs.Common.{◌≡◌, ℕ, suc, zero, ◌+◌, ◌-◌, ◌*◌, ◌<◌, ◌≤◌, ◌⊎◌, List, [], ◌∷◌, ◌++◌, length, take, drop, get_or, Option, Some, None, refl, sym, ap, ◌∙◌, subst, inl, inr, arith, true, false, Contains, length-append, not}
use Rattle.std.proofs.Math.Seq.{take-append_seam}
use Rattle.std.specs.Prelude.{option_map, is_some, IsTrue, Result, Ok, Err, IfOk, IfErr, IfNone}
use Rattle.std.proofs.lemmas.List.{length-take-le}
use Rattle.std.proofs.lemmas.Bool.{both_ways, and_parts}
use Rattle.std.proofs.lemmas.Option.{none-some}
use Rattle.std.specs.FinMap.{insert, remove, empty, contains_key, get-empty}
use Rattle.std.specs.Ordering.{nat_cmp}
use Rattle.lits.specs.Literal.{max_var, var}
use Rattle.session_rules.specs.Logic.{has}
use Rattle.clause_store.specs.declared.StoreFault.{StoreFault}
use Rattle.clause_store.specs.declared.StoreFault.TheVariants.{NotActive}
use Rattle.clause_store.specs.Clauses as held
use Rattle.clause_store.specs.Clauses.{ClauseEntry, Store, IsStore, IsFresh, slot_at, lits_at, is_active, is_held, new_clause}
use Rattle.watch_lists.specs.Watched.{Watched, IsWatched}
use Rattle.propagation.specs.declared.TrailEntry.{TrailEntry}
use Rattle.propagation.specs.declared.Heads.{Heads}
use Rattle.propagation.specs.Assigned.{Assigned, with_last, with_entries, nothing_assigned}
use Rattle.propagation.specs.Clauses as seen
use Rattle.propagation.specs.Clauses.{Clause, Clauses, clauses_of, slot_of}
use Rattle.propagation.specs.Engine.{EngineView, IsEngine, IsEntry, IsNoReason, literals, level_after, up_to_level, Grows, added_clause, weakened_clause}
use Rattle.propagation.specs.Watching.{engine_of, IsReady, IsMoved, Advances, NeedsNoVisit}
use Rattle.propagation.specs.Inside.{ArePending, AreHeads, IsEngineInside}
use Rattle.propagation.proofs.Levels.{up_to_level-prefix, up_to_level-below, up_to_level-assumed, up_to_level-lower, level_after-exactly}
use Rattle.propagation.proofs.ClausesMap.{get-clauses_of, slot_of-clauses_of}
use Rattle.propagation.proofs.Changes.{clauses_of-insert, clauses_of-remove, clauses_of-empty, clauses_of-weakened, clauses_of-restored, get-from_held, IsEngine-insert, IsEngine-remove, IsEngine-put, IsEngine-none, IsEngine-vars, no_reason-slotless, literals-reserved, held_seen, held_if_active, value_new}
use Rattle.propagation.proofs.Trail.{IsEngine-push, IsEngine-prefix, level_after-append, length-literals}
use Rattle.propagation.proofs.Covering.{has_more, covered_more}
use Rattle.propagation.proofs.Advancing.{literals-append, moved_none, advances_settled, ready_still, length_longer}
use Rattle.propagation.proofs.HowFar.{heads_moved, heads_start, heads_pushed, heads_popped, heads_removed, heads_weakened, pending_pushed, pending_popped, pending_removed, pending_kept}

-- a lower level's literals are literals of the trail
level_within : (j : ℕ) (ss : List TrailEntry) (x : ℕ) → has (literals (up_to_level j ss)) x ≡ true → has (literals ss) x ≡ true
level_within j ss x m = let r = up_to_level-prefix j ss in
    subst (λ z. has z x ≡ true) (sym (ap literals r.1 ∙ literals-append (up_to_level j ss) r.0)) (has_more (literals (up_to_level j ss)) (literals r.0) x m)

-- ---- Literals that follow

pub inside_advanced : (w v : Watched) (a b : Assigned) (head : ℕ) (ids : List ℕ) (pending_head : ℕ) (levels : List Heads) (room head2 short_head2 : ℕ) → IsEngineInside w a head ids pending_head levels room → Advances w v a b
    → AreHeads v.clauses (literals b.entries) head2 ids short_head2 → IsEngineInside v b head2 ids short_head2 levels room
inside_advanced w v a b head ids pending_head levels room head2 short_head2 h x origin = record {
  sound = x.engine;
  wide = let e = x.vars in let f = x.wide in let g = h.wide in omega (arith, e, f, g);
  pending = subst (λ z. ArePending z ids) (sym x.moved.seen) h.pending;
  now = origin;
  counted = let e = level_after-append a.entries x.more in let f = x.forced in let g = h.counted in let i = ap level_after x.grown in omega (arith, e, f, g, i);
  before = λ j d lt at.
      let below : j < level_after a.entries = let g = h.counted in omega (arith, g) in
      let same : up_to_level j b.entries ≡ up_to_level j a.entries = ap (up_to_level j) x.grown ∙ up_to_level-below j a.entries x.more below in
      subst (λ z. AreHeads v.clauses (literals z) d.trail ids d.pending) (sym same)
      (heads_moved (literals a.entries) (literals (up_to_level j a.entries)) w.clauses v.clauses d.trail d.pending ids x.moved (level_within j a.entries) (h.before j d lt at));
  levels_fit = let e = x.vars in let g = h.levels_fit in omega (arith, e, g);
}

pub grows_advanced : (w v : Watched) (a b : Assigned) (e : EngineView) → engine_of w.clauses a.entries a.vars ≡ e → Advances w v a b → Grows e (engine_of v.clauses b.entries b.vars)
grows_advanced w v a b e is x = subst (λ z. Grows z (engine_of v.clauses b.entries b.vars)) is (x.more, (λ i. record { clauses = x.moved.seen i; trail = x.grown i; vars = x.vars i }), x.forced)

pub inside_put : (w : Watched) (a b : Assigned) (head : ℕ) (ids : List ℕ) (pending_head : ℕ) (levels : List Heads) (room l s : ℕ) → IsEngineInside w a head ids pending_head levels room
    → b ≡ with_last a (record { lit = l; reason = Some s }) → IsEntry (clauses_of w.clauses) a.vars a.entries (record { lit = l; reason = Some s }) → IsEngineInside w b head ids pending_head levels room
inside_put w a b head ids pending_head levels room l s h is entry =
    let t : TrailEntry = record { lit = l; reason = Some s } in
    let e : EngineView = engine_of w.clauses a.entries a.vars in
    let x : Advances w w a b = record {
      moved = moved_none (literals a.entries) w.clauses;
      more = t ∷ [];
      grown = ap (λ z. z.entries) is;
      forced = refl;
      vars = ap (λ z. z.vars) is;
      wide = refl;
      engine = subst (λ z. IsEngine (engine_of w.clauses z.entries z.vars)) (sym is) (IsEngine-push e t h.sound entry);
    } in
    inside_advanced w w a b head ids pending_head levels room head pending_head h x (record {
      head_in = let g = h.now.head_in in let f = ap literals x.grown in let i = literals-append a.entries x.more in let j = ap length (f ∙ i) in omega (arith, g, j, length-append (literals a.entries) (literals x.more));
      ids_in = h.now.ids_in;
      ready = ready_still w w a b x head (drop pending_head ids) (let g = h.now.head_in in omega (arith, g, length-literals a.entries)) h.now.ready;
    })

-- ---- Levels

get_push : (xs : List Heads) (x d : Heads) (j : ℕ) → j < length xs → d ≡ get_or (xs ++ x ∷ []) j d → d ≡ get_or xs j d
get_push [] x d j lt e = absurd (omega arith)
get_push (y ∷ ys) x d zero lt e = e
get_push (y ∷ ys) x d (suc j) lt e = get_push ys x d j (omega arith) e

get_last : (xs : List Heads) (x d : Heads) (j : ℕ) → j ≡ length xs → d ≡ get_or (xs ++ x ∷ []) j d → d ≡ x
get_last [] x d j lt e = let f : j ≡ 0 = lt in e ∙ ap (λ z. get_or (x ∷ []) z d) f
get_last (y ∷ ys) x d zero lt e = absurd (omega arith)
get_last (y ∷ ys) x d (suc j) lt e = get_last ys x d j (omega arith) e

pub inside_assumed : (w : Watched) (a b : Assigned) (head : ℕ) (ids : List ℕ) (pending_head : ℕ) (levels more : List Heads) (room room2 l : ℕ) → IsEngineInside w a head ids pending_head levels room
    → b ≡ with_last a (record { lit = l; reason = None }) → IsEntry (clauses_of w.clauses) a.vars a.entries (record { lit = l; reason = None })
    → more ≡ levels ++ record { trail = head; pending = pending_head } ∷ [] → room ≤ room2 → IsEngineInside w b head ids pending_head more room2
inside_assumed w a b head ids pending_head levels more room room2 l h is entry pushed le =
    let t : TrailEntry = record { lit = l; reason = None } in
    let e : EngineView = engine_of w.clauses a.entries a.vars in
    let d0 : Heads = record { trail = head; pending = pending_head } in
    let same : literals (a.entries ++ t ∷ []) ≡ literals a.entries ++ l ∷ [] = literals-append a.entries (t ∷ []) in
    let now : AreHeads w.clauses (literals a.entries ++ l ∷ []) head ids pending_head = record {
      head_in = let g = h.now.head_in in omega (arith, g, length-append (literals a.entries) (l ∷ []));
      ids_in = h.now.ids_in;
      ready = λ id s at. elim (h.now.ready id s at) [ inl y ↦ inl y | inr c ↦ inr (covered_more (literals a.entries) (l ∷ []) (lits_at w.clauses id) head h.now.head_in c) ];
    } in
    let all : IsEngineInside w (with_last a t) head ids pending_head (levels ++ d0 ∷ []) room2 = record {
      sound = IsEngine-push e t h.sound entry;
      wide = h.wide;
      pending = h.pending;
      now = subst (λ z. AreHeads w.clauses z head ids pending_head) (sym same) now;
      counted = let x = h.counted in omega (arith, x, length-append levels (d0 ∷ []), level_after-append a.entries (t ∷ []), one);
      before = λ j d lt at. elim (nearer j (length levels) (let x = length-append levels (d0 ∷ []) in omega (arith, x))) [
        | inl below ↦
            let f : j < level_after a.entries = let x = h.counted in omega (arith, x) in
            subst (λ z. AreHeads w.clauses (literals z) d.trail ids d.pending) (sym (up_to_level-below j a.entries (t ∷ []) f)) (h.before j d below (get_push levels d0 d j below at))
        | inr here ↦
            let f : up_to_level j (a.entries ++ t ∷ []) ≡ a.entries = ap (λ z. up_to_level z (a.entries ++ t ∷ [])) (here ∙ h.counted) ∙ up_to_level-assumed a.entries [] t refl in
            subst (λ z. AreHeads w.clauses (literals z) d.trail ids d.pending) (sym f) (subst (λ z. AreHeads w.clauses (literals a.entries) z.trail ids z.pending) (sym (get_last levels d0 d j here at)) h.now)
      ];
      levels_fit = let x = h.levels_fit in omega (arith, x);
    } in
    subst (λ z. IsEngineInside w z head ids pending_head more room2) (sym is) (subst (λ z. IsEngineInside w (with_last a t) head ids pending_head z room2) (sym pushed) all)
  where
    one : level_after (record { lit = l; reason = None } ∷ []) ≡ 1
    one = refl

    nearer : (j n : ℕ) → j < n + 1 → (j < n) ⊎ (j ≡ n)
    nearer j n lt = grind arith

get_front : (xs : List Heads) (d : Heads) (n j : ℕ) → j < n → n ≤ length xs → d ≡ get_or (take n xs) j d → d ≡ get_or xs j d
get_front xs d zero j lt le e = absurd (omega arith)
get_front [] d (suc n) j lt le e = absurd (omega arith)
get_front (x ∷ xs) d (suc n) zero lt le e = e
get_front (x ∷ xs) d (suc n) (suc j) lt le e = get_front xs d n j (omega arith) (omega arith) e

pub inside_back : (w : Watched) (a b : Assigned) (head : ℕ) (ids : List ℕ) (pending_head : ℕ) (levels fewer : List Heads) (room room2 n : ℕ) (d : Heads) → IsEngineInside w a head ids pending_head levels room
    → n < length levels → d ≡ get_or levels n d → fewer ≡ take n levels → b ≡ with_entries a (up_to_level n a.entries) → room ≤ room2 → IsEngineInside w b d.trail ids d.pending fewer room2
inside_back w a b head ids pending_head levels fewer room room2 n d h lt at cut is le =
    let e : EngineView = engine_of w.clauses a.entries a.vars in
    let r = up_to_level-prefix n a.entries in
    let within : n ≤ level_after a.entries = let x = h.counted in omega (arith, x) in
    let few : length (take n levels) ≡ n = length-take-le n levels (omega arith) in
    let all : IsEngineInside w (with_entries a (up_to_level n a.entries)) d.trail ids d.pending (take n levels) room2 = record {
      sound = IsEngine-prefix e (up_to_level n a.entries) r.0 h.sound r.1;
      wide = h.wide;
      pending = h.pending;
      now = h.before n d lt at;
      counted = few ∙ sym (level_after-exactly n a.entries within);
      before = λ j f below here.
          let less : j < n = omega (arith, few) in
          let same = up_to_level-lower j n a.entries less within in
          subst (λ z. AreHeads w.clauses (literals z) f.trail ids f.pending) (sym same) (h.before j f (omega arith) (get_front levels f n j less (omega arith) here));
      levels_fit = let x = h.levels_fit in omega (arith, x);
    } in
    subst (λ z. IsEngineInside w z d.trail ids d.pending fewer room2) (sym is) (subst (λ z. IsEngineInside w (with_entries a (up_to_level n a.entries)) d.trail ids d.pending z room2) (sym cut) all)

pub inside_cleared : (w : Watched) (a b : Assigned) (head : ℕ) (ids fewer : List ℕ) (pending_head : ℕ) (levels none : List Heads) (room room2 : ℕ) → IsEngineInside w a head ids pending_head levels room → IsWatched w
    → (ArePending (clauses_of w.clauses) ids → ArePending (clauses_of w.clauses) fewer) → none ≡ [] → b ≡ with_entries a [] → room ≤ room2 → IsEngineInside w b 0 fewer 0 none room2
inside_cleared w a b head ids fewer pending_head levels none room room2 h k keep e is le =
    let all : IsEngineInside w (with_entries a []) 0 fewer 0 [] room2 = record {
      sound = IsEngine-prefix (engine_of w.clauses a.entries a.vars) [] a.entries h.sound refl;
      wide = h.wide;
      pending = keep h.pending;
      now = heads_start w.clauses [] fewer k.store (keep h.pending);
      counted = refl;
      before = λ j d lt at. absurd (omega arith);
      levels_fit = let x = h.levels_fit in omega (arith, x);
    } in
    subst (λ z. IsEngineInside w z 0 fewer 0 none room2) (sym is) (subst (λ z. IsEngineInside w (with_entries a []) 0 fewer 0 z room2) (sym e) all)

-- ---- A propagation

drop_all : (n : ℕ) (xs : List ℕ) → n ≡ length xs → drop n xs ≡ []
drop_all zero [] e = refl
drop_all zero (x ∷ xs) e = absurd (omega (arith, e))
drop_all (suc n) [] e = refl
drop_all (suc n) (x ∷ xs) e = drop_all n xs (omega arith)

pub looked_mark : (w v : Watched) (a b : Assigned) (head : ℕ) (ids ids2 : List ℕ) (pending_head short_head2 : ℕ) → AreHeads w.clauses (literals a.entries) head ids pending_head → Advances w v a b → ids2 ≡ ids
    → ((h : ℕ) → h ≤ length a.entries → IsReady w.clauses (literals a.entries) h (drop pending_head ids2) → IsReady v.clauses (literals b.entries) h (drop short_head2 ids2)) → short_head2 ≤ length ids2 → AreHeads v.clauses (literals b.entries) head ids short_head2
looked_mark w v a b head ids ids2 pending_head short_head2 k x same ready within = record {
  head_in = let g = k.head_in in let l = length_longer w v a b x in omega (arith, g, l, length-literals a.entries, length-literals b.entries);
  ids_in = subst (λ z. short_head2 ≤ length z) same within;
  ready = subst (λ z. IsReady v.clauses (literals b.entries) head (drop short_head2 z)) same
      (ready head (let g = k.head_in in omega (arith, g, length-literals a.entries)) (subst (λ z. IsReady w.clauses (literals a.entries) head (drop pending_head z)) (sym same) k.ready));
}

-- all ids have been looked at
pub ready_all : (m : Store) (ts ids : List ℕ) (h n : ℕ) → n ≡ length ids → IsReady m ts h (drop n ids) → IsReady m ts h []
ready_all m ts ids h n e r = subst (λ z. IsReady m ts h z) (drop_all n ids e) r

pub mark_all : (m : Store) (ts ids : List ℕ) (h n : ℕ) → h ≤ length ts → n ≤ length ids → IsReady m ts h [] → AreHeads m ts h ids n
mark_all m ts ids h n le within r = record {
  head_in = le;
  ids_in = within;
  ready = λ id s at. elim (r id s at) [
    | inl none ↦ absurd (let g : false ≡ true = none in cc g)
    | inr c ↦ inr c
  ];
}

pub if_none : (r : Option ℕ) (P Q : Type 0) → (P → Q) → IfNone r P → IfNone r Q
if_none None P Q f p = f p
if_none (Some s) P Q f p = p

-- ---- Clauses that come

pub inside_same : (w v : Watched) (a : Assigned) (head : ℕ) (ids : List ℕ) (pending_head : ℕ) (levels : List Heads) (room : ℕ) → IsEngineInside w a head ids pending_head levels room → v.clauses ≡ w.clauses → length v.lists ≡ length w.lists
    → IsEngineInside v a head ids pending_head levels room
inside_same w v a head ids pending_head levels room h e wide = record {
  sound = subst (λ z. IsEngine (engine_of z a.entries a.vars)) (sym e) h.sound;
  wide = let g = h.wide in omega (arith, g, wide);
  pending = subst (λ z. ArePending (clauses_of z) ids) (sym e) h.pending;
  now = subst (λ z. AreHeads z (literals a.entries) head ids pending_head) (sym e) h.now;
  counted = h.counted;
  before = λ j d lt at. subst (λ z. AreHeads z (literals (up_to_level j a.entries)) d.trail ids d.pending) (sym e) (h.before j d lt at);
  levels_fit = h.levels_fit;
}

pub inside_pushed : (w v : Watched) (a : Assigned) (head : ℕ) (ids : List ℕ) (pending_head : ℕ) (levels : List Heads) (room id s : ℕ) (ls : List ℕ) → IsEngineInside w a head ids pending_head levels room
    → v.clauses ≡ insert w.clauses id (new_clause ls s) → IsFresh w.clauses s → is_held w.clauses id ≡ false → ((l : ℕ) → Contains ls l → var l ≤ a.vars) → length v.lists ≡ length w.lists
    → IsEngineInside v a head (ids ++ id ∷ []) pending_head levels room
inside_pushed w v a head ids pending_head levels room id s ls h is fresh free reserved wide =
    let at : clauses_of v.clauses ≡ insert (clauses_of w.clauses) id (added_clause ls s) = ap clauses_of is ∙ clauses_of-insert w.clauses id (new_clause ls s) in
    record {
      sound = subst (λ z. IsEngine (record { clauses = z; trail = a.entries; vars = a.vars })) (sym at)
          (IsEngine-insert (engine_of w.clauses a.entries a.vars) id s ls h.sound (get-clauses_of w.clauses id ∙ ap (option_map seen.clause_of) (get-from_held w.clauses id free)) (λ q e. fresh q (sym (slot_of-clauses_of w.clauses q) ∙ e)) reserved);
      wide = let g = h.wide in omega (arith, g, wide);
      pending = pending_pushed (clauses_of w.clauses) (clauses_of v.clauses) ids id (added_clause ls s) at h.pending;
      now = heads_pushed w.clauses v.clauses (literals a.entries) head pending_head ids id (new_clause ls s) is h.now;
      counted = h.counted;
      before = λ j d lt e. heads_pushed w.clauses v.clauses (literals (up_to_level j a.entries)) d.trail d.pending ids id (new_clause ls s) is (h.before j d lt e);
      levels_fit = h.levels_fit;
    }

pub inside_listed : (w v : Watched) (a : Assigned) (head : ℕ) (ids more : List ℕ) (pending_head : ℕ) (levels : List Heads) (room id : ℕ) (ls : List ℕ) (r : Result ℕ StoreFault) → IsEngineInside w a head ids pending_head levels room
    → length v.lists ≡ length w.lists → IfOk r (λ _. more ≡ ids ++ id ∷ []) → IfOk r (λ s. IsFresh w.clauses s) → IfOk r (λ s. v.clauses ≡ insert w.clauses id (new_clause ls s)) → IfOk r (λ _. is_held w.clauses id ≡ false)
    → IfErr r (λ _. (v.clauses ≡ w.clauses) × (more ≡ ids)) → ((l : ℕ) → Contains ls l → var l ≤ a.vars) → IsEngineInside v a head more pending_head levels room
inside_listed w v a head ids more pending_head levels room id ls (Ok s) h wide listed fresh ok free err reserved =
    subst (λ z. IsEngineInside v a head z pending_head levels room) (sym listed) (inside_pushed w v a head ids pending_head levels room id s ls h ok fresh free reserved wide)
inside_listed w v a head ids more pending_head levels room id ls (Err f) h wide listed fresh ok free err reserved =
    subst (λ z. IsEngineInside v a head z pending_head levels room) (sym err.1) (inside_same w v a head ids pending_head levels room h err.0 wide)

pub inside_moved : (w v : Watched) (a : Assigned) (head : ℕ) (ids : List ℕ) (pending_head : ℕ) (levels : List Heads) (room : ℕ) → IsEngineInside w a head ids pending_head levels room → IsMoved (literals a.entries) w.clauses v.clauses
    → length v.lists ≡ length w.lists → IsEngineInside v a head ids pending_head levels room
inside_moved w v a head ids pending_head levels room h m wide =
    inside_advanced w v a a head ids pending_head levels room head pending_head h (advances_settled w v a h.sound m wide)
    (heads_moved (literals a.entries) (literals a.entries) w.clauses v.clauses head pending_head ids m (λ x y. y) h.now)

pub inside_popped : (v : Watched) (a : Assigned) (head : ℕ) (ids : List ℕ) (pending_head : ℕ) (levels : List Heads) (room id s : ℕ) → IsEngineInside v a head (ids ++ id ∷ []) pending_head levels room → level_after a.entries ≡ 0
    → pending_head ≤ length ids → IsWatched v → slot_at v.clauses id ≡ Some s → ((q : ℕ) → slot_at v.clauses q ≡ Some s → NeedsNoVisit (literals a.entries) (lits_at v.clauses q)) → IsEngineInside v a head ids pending_head levels room
inside_popped v a head ids pending_head levels room id s h level within k here rest = record {
  sound = h.sound;
  wide = h.wide;
  pending = pending_popped v.clauses ids id s k.store here (rest id here).0 h.pending;
  now = heads_popped v.clauses (literals a.entries) head pending_head ids id s within here rest h.now;
  counted = h.counted;
  before = λ j d lt e. absurd (let g = h.counted in omega (arith, g, level, lt));
  levels_fit = h.levels_fit;
}

-- ---- Clauses that go

-- at level 0 no level has begun
none_before : (w v : Watched) (a : Assigned) (head : ℕ) (ids : List ℕ) (pending_head : ℕ) (levels : List Heads) (room : ℕ) → IsEngineInside w a head ids pending_head levels room → level_after a.entries ≡ 0
    → IsEngine (engine_of v.clauses a.entries a.vars) → length v.lists ≡ length w.lists → ArePending (clauses_of v.clauses) ids → (head2 short_head2 : ℕ) → AreHeads v.clauses (literals a.entries) head2 ids short_head2 → IsEngineInside v a head2 ids short_head2 levels room
none_before w v a head ids pending_head levels room h level sound wide pending head2 short_head2 origin = record {
  sound = sound;
  wide = let g = h.wide in omega (arith, g, wide);
  pending = pending;
  now = origin;
  counted = h.counted;
  before = λ j d lt e. absurd (let g = h.counted in omega (arith, g, level, lt));
  levels_fit = h.levels_fit;
}

pub inside_deleted : (w v : Watched) (a : Assigned) (head : ℕ) (ids : List ℕ) (pending_head : ℕ) (levels : List Heads) (room : ℕ) (e : EngineView) (id : ℕ) (r : Result (Unit {0}) StoreFault) → IsEngineInside w a head ids pending_head levels room
    → engine_of w.clauses a.entries a.vars ≡ e → level_after e.trail ≡ 0 → IsNoReason e id → IfOk r (λ _. v.clauses ≡ remove w.clauses id) → IfErr r (λ f. (f ≡ NotActive) × (v ≡ w)) → length v.lists ≡ length w.lists → IsEngineInside v a head ids pending_head levels room
inside_deleted w v a head ids pending_head levels room e id (Ok u) h is level none gone err wide =
    let at : clauses_of v.clauses ≡ remove (clauses_of w.clauses) id = ap clauses_of gone ∙ clauses_of-remove w.clauses id in
    none_before w v a head ids pending_head levels room h (ap (λ z. level_after z.trail) is ∙ level)
    (subst (λ z. IsEngine (record { clauses = z; trail = a.entries; vars = a.vars })) (sym at) (IsEngine-remove (engine_of w.clauses a.entries a.vars) id h.sound (subst (λ z. IsNoReason z id) (sym is) none)))
    wide (pending_removed (clauses_of w.clauses) (clauses_of v.clauses) ids id at h.pending) head pending_head (heads_removed w.clauses v.clauses (literals a.entries) head pending_head ids id gone h.now)
inside_deleted w v a head ids pending_head levels room e id (Err f) h is level none gone err wide = subst (λ z. IsEngineInside z a head ids pending_head levels room) (sym err.1) h

pub inside_weakened : (w v : Watched) (a : Assigned) (head : ℕ) (ids : List ℕ) (pending_head : ℕ) (levels : List Heads) (room : ℕ) (e : EngineView) (id : ℕ) (r : Result (Unit {0}) StoreFault) → IsEngineInside w a head ids pending_head levels room
    → engine_of w.clauses a.entries a.vars ≡ e → level_after e.trail ≡ 0 → IsNoReason e id → IfOk r (λ _. v.clauses ≡ insert w.clauses id (held.weakened_entry (held.literals_at w.clauses id) (held.kept_at w.clauses id))) → IfOk r (λ _. IsTrue (is_active w.clauses id))
    → IfErr r (λ _. v ≡ w) → length v.lists ≡ length w.lists → IsEngineInside v a head ids pending_head levels room
inside_weakened w v a head ids pending_head levels room e id (Ok u) h is level none gone on err wide =
    let at = clauses_of-weakened w.clauses v.clauses id gone in
    none_before w v a head ids pending_head levels room h (ap (λ z. level_after z.trail) is ∙ level)
    (subst (λ z. IsEngine (record { clauses = z; trail = a.entries; vars = a.vars })) (sym at)
    (IsEngine-put (engine_of w.clauses a.entries a.vars) id (weakened_clause (seen.literals_at (clauses_of w.clauses) id)) h.sound (subst (λ z. IsNoReason z id) (sym is) none) (λ s so. absurd (none-some s so)) (λ l c. literals-reserved (engine_of w.clauses a.entries a.vars) id l h.sound c)))
    wide (pending_kept (clauses_of w.clauses) (clauses_of v.clauses) ids id _ at (held_seen w.clauses id ∙ held_if_active w.clauses id on) refl h.pending) head pending_head (heads_weakened w.clauses v.clauses (literals a.entries) head pending_head ids id gone h.now)
inside_weakened w v a head ids pending_head levels room e id (Err f) h is level none gone on err wide = subst (λ z. IsEngineInside z a head ids pending_head levels room) (sym err) h

-- ---- A clause that comes back

none_of : (o : Option ℕ) → not (is_some o) ≡ true → o ≡ None
none_of None e = refl
none_of (Some s) e = cc e

pub inside_restored : (w v : Watched) (a : Assigned) (head : ℕ) (ids : List ℕ) (pending_head : ℕ) (levels : List Heads) (room : ℕ) (e : EngineView) (id : ℕ) → IsEngineInside w a head ids pending_head levels room
    → engine_of w.clauses a.entries a.vars ≡ e → level_after e.trail ≡ 0 → IsWatched v → held.IsRestored w.clauses id v.clauses → IsTrue (held.is_weakened w.clauses id) → length v.lists ≡ length w.lists → IsEngineInside v a 0 ids 0 levels room
inside_restored w v a head ids pending_head levels room e id h is level k r weak wide =
    let parts = and_parts (is_held w.clauses id) _ weak in
    let off : slot_of (clauses_of w.clauses) id ≡ None = slot_of-clauses_of w.clauses id ∙ none_of (slot_at w.clauses id) parts.1 in
    let at = clauses_of-restored w.clauses v.clauses id r in
    let pending : ArePending (clauses_of v.clauses) ids = pending_kept (clauses_of w.clauses) (clauses_of v.clauses) ids id _ at (held_seen w.clauses id ∙ parts.0) refl h.pending in
    none_before w v a head ids pending_head levels room h (ap (λ z. level_after z.trail) is ∙ level)
    (subst (λ z. IsEngine (record { clauses = z; trail = a.entries; vars = a.vars })) (sym at)
    (IsEngine-put (engine_of w.clauses a.entries a.vars) id (record { literals = seen.literals_at (clauses_of w.clauses) id; slot = Some r.slot }) h.sound (no_reason-slotless (engine_of w.clauses a.entries a.vars) id off)
    (λ s so q to. r.fresh q (sym (slot_of-clauses_of w.clauses q) ∙ to ∙ sym so)) (λ l c. literals-reserved (engine_of w.clauses a.entries a.vars) id l h.sound c)))
    wide pending 0 0 (heads_start v.clauses (literals a.entries) ids k.store pending)

-- ---- The beginning, and more variables

pub inside_new : (w : Watched) (a : Assigned) (ids : List ℕ) (levels : List Heads) (room : ℕ) → w.clauses ≡ empty → a ≡ nothing_assigned → ids ≡ [] → levels ≡ [] → IsEngineInside w a 0 ids 0 levels room
inside_new w a ids levels room e f g i =
    let none : clauses_of w.clauses ≡ empty = ap clauses_of e ∙ clauses_of-empty in
    let all : IsEngineInside w nothing_assigned 0 [] 0 [] room = record {
      sound = subst IsEngine (sym (value_new w.clauses [] e refl)) IsEngine-none;
      wide = omega arith;
      pending = λ id on. absurd (both_ways _ (let x : contains_key empty id ≡ false = rw (get-empty nat_cmp id) refl in x) (subst (λ z. contains_key z id ≡ true) none on));
      now = record { head_in = omega arith; ids_in = omega arith; ready = λ id s at. absurd (none-some s (let x : slot_at empty id ≡ None = rw (get-empty nat_cmp id) refl in sym x ∙ subst (λ z. slot_at z id ≡ Some s) e at)) };
      counted = refl;
      before = λ j d lt at. absurd (omega arith);
      levels_fit = omega arith;
    } in
    subst (λ z. IsEngineInside w z 0 ids 0 levels room) (sym f) (subst (λ z. IsEngineInside w nothing_assigned 0 z 0 levels room) (sym g) (subst (λ z. IsEngineInside w nothing_assigned 0 [] 0 z room) (sym i) all))

pub inside_wider : (w v : Watched) (a : Assigned) (head : ℕ) (ids : List ℕ) (pending_head : ℕ) (levels more : List Heads) (room room2 vars : ℕ) → IsEngineInside w a head ids pending_head levels room → v.clauses ≡ w.clauses → 2 * vars ≤ length v.lists
    → a.vars ≤ vars → vars ≤ max_var → more ≡ levels → vars ≤ room2 → IsEngineInside v (record { entries = a.entries; vars = vars }) head ids pending_head more room2
inside_wider w v a head ids pending_head levels more room room2 vars h e wide up limit same le =
    let all : IsEngineInside v (record { entries = a.entries; vars = vars }) head ids pending_head levels room2 = record {
      sound = subst (λ z. IsEngine (engine_of z a.entries vars)) (sym e) (IsEngine-vars (engine_of w.clauses a.entries a.vars) vars h.sound up limit);
      wide = wide;
      pending = subst (λ z. ArePending (clauses_of z) ids) (sym e) h.pending;
      now = subst (λ z. AreHeads z (literals a.entries) head ids pending_head) (sym e) h.now;
      counted = h.counted;
      before = λ j d lt at. subst (λ z. AreHeads z (literals (up_to_level j a.entries)) d.trail ids d.pending) (sym e) (h.before j d lt at);
      levels_fit = le;
    } in
    subst (λ z. IsEngineInside v (record { entries = a.entries; vars = vars }) head ids pending_head z room2) (sym same) all

-- the id that was put at the end is taken off again
pub last_taken : (xs ys zs : List ℕ) (x n : ℕ) → ys ≡ xs ++ x ∷ [] → n ≡ length ys → zs ≡ take (n - 1) ys → xs ≡ zs
last_taken xs ys zs x n e count cut =
    let few : n - 1 ≡ length xs = let l = ap length e in omega (arith, l, count, length-append xs (x ∷ [])) in
    sym (cut ∙ ap (λ z. take z ys) few ∙ ap (take (length xs)) e ∙ take-append_seam xs (x ∷ []))
