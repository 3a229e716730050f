-- A clause that comes back, of which nothing follows.
use Rattle.std.proofs.Common.{◌≡◌, ℕ, List, [], ◌∷◌, ◌++◌, length, Option, Some, None, refl, sym, ap, ◌∙◌, subst, arith, true, not}
use Rattle.std.specs.Prelude.{is_some, IsTrue}
use Rattle.std.proofs.lemmas.Bool.{and_parts}
use Rattle.clause_store.specs.Clauses as held
use Rattle.clause_store.specs.Clauses.{slot_at, lits_at, is_held}
use Rattle.watch_lists.specs.Watched.{Watched, IsWatched}
use Rattle.propagation.specs.declared.Heads.{Heads}
use Rattle.propagation.specs.Assigned.{Assigned}
use Rattle.propagation.specs.Clauses as seen
use Rattle.propagation.specs.Clauses.{clauses_of, slot_of}
use Rattle.propagation.specs.Engine.{EngineView, IsEngine, literals, level_after}
use Rattle.propagation.specs.Watching.{engine_of, IsMoved, NeedsNoVisit}
use Rattle.propagation.specs.Inside.{IsEngineInside}
use Rattle.propagation.proofs.ClausesMap.{slot_of-clauses_of}
use Rattle.propagation.proofs.Changes.{clauses_of-restored, IsEngine-put, no_reason-slotless, literals-reserved}
use Rattle.propagation.proofs.HowFar.{heads_pushed, pending_pushed}
use Rattle.propagation.proofs.Insides.{inside_moved, inside_popped}

none_of : (o : Option ℕ) → not (is_some o) ≡ true → o ≡ None
none_of None e = refl
none_of (Some s) e = cc e

active_slot : (o : Option ℕ) → is_some o ≡ true → (s : ℕ) × (o ≡ Some s)
active_slot None e = cc e
active_slot (Some s) e = (s, refl)

-- where the id is listed, the heads may stay
inside_back_listed : (w v : Watched) (a : Assigned) (head : ℕ) (ids : List ℕ) (pending_head : ℕ) (levels : List Heads) (room : ℕ) (e : EngineView) (id : ℕ) → IsEngineInside w a head ids pending_head levels room
    → engine_of w.clauses a.entries a.vars ≡ e → level_after e.trail ≡ 0 → held.IsRestored w.clauses id v.clauses → IsTrue (held.is_weakened w.clauses id) → length v.lists ≡ length w.lists → IsEngineInside v a head (ids ++ id ∷ []) pending_head levels room
inside_back_listed w v a head ids pending_head levels room e id h is level r weak long =
    let parts = and_parts (is_held w.clauses id) _ weak in
    let off : slot_of (clauses_of w.clauses) id ≡ None = slot_of-clauses_of w.clauses id ∙ none_of (slot_at w.clauses id) parts.1 in
    let at = clauses_of-restored w.clauses v.clauses id r in
    let none : level_after a.entries ≡ 0 = ap (λ z. level_after z.trail) is ∙ level in
    record {
      sound = subst (λ z. IsEngine (record { clauses = z; trail = a.entries; vars = a.vars })) (sym at)
          (IsEngine-put (engine_of w.clauses a.entries a.vars) id (record { literals = seen.literals_at (clauses_of w.clauses) id; slot = Some r.slot }) h.sound (no_reason-slotless (engine_of w.clauses a.entries a.vars) id off)
          (λ s so q to. r.fresh q (sym (slot_of-clauses_of w.clauses q) ∙ to ∙ sym so)) (λ l c. literals-reserved (engine_of w.clauses a.entries a.vars) id l h.sound c));
      wide = let g = h.wide in omega (arith, g, long);
      pending = pending_pushed (clauses_of w.clauses) (clauses_of v.clauses) ids id _ at h.pending;
      now = heads_pushed w.clauses v.clauses (literals a.entries) head pending_head ids id _ r.changed h.now;
      counted = h.counted;
      before = λ j d lt x. absurd (let g = h.counted in omega (arith, g, none, lt));
      levels_fit = h.levels_fit;
    }

-- where nothing follows of the clause, the heads and the ids may stay
pub inside_back_resting : (w v u : Watched) (a : Assigned) (head : ℕ) (ids : List ℕ) (pending_head : ℕ) (levels : List Heads) (room : ℕ) (e : EngineView) (id : ℕ) → IsEngineInside w a head ids pending_head levels room
    → engine_of w.clauses a.entries a.vars ≡ e → level_after e.trail ≡ 0 → held.IsRestored w.clauses id v.clauses → IsTrue (held.is_weakened w.clauses id) → length v.lists ≡ length w.lists → IsMoved (literals a.entries) v.clauses u.clauses → length u.lists ≡ length v.lists → IsWatched u
    → IsTrue (is_some (slot_at u.clauses id)) → ((q s : ℕ) → slot_at u.clauses id ≡ Some s → slot_at u.clauses q ≡ Some s → NeedsNoVisit (literals a.entries) (lits_at u.clauses q)) → IsEngineInside u a head ids pending_head levels room
inside_back_resting w v u a head ids pending_head levels room e id h is level r weak long moved wide k on rest =
    let s = active_slot (slot_at u.clauses id) on in
    inside_popped u a head ids pending_head levels room id s.0
    (inside_moved v u a head (ids ++ id ∷ []) pending_head levels room (inside_back_listed w v a head ids pending_head levels room e id h is level r weak long) moved wide)
    (ap (λ z. level_after z.trail) is ∙ level) h.now.ids_in k s.1 (λ q to. rest q s.0 s.1 to)
