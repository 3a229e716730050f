-- What a told step makes of the clauses.
use Rattle.std.proofs.Common.{◌≡◌, ◌≢◌, ℕ, ◌+◌, ◌*◌, ◌<◌, ◌≤◌, ◌^◌, true, false, List, [], ◌∷◌, length, Contains, Option, Some, None, refl, sym, ap, ◌∙◌, subst, arith}
use Rattle.std.specs.FinMap as finmap
use Rattle.std.specs.Prelude.{is_some}
use Rattle.std.proofs.lemmas.Bool.{both_ways}
use Rattle.std.proofs.lemmas.Option.{none-some}
use Rattle.lits.specs.Clause.{set_of, same_set, is_tautology}
use Rattle.lits.proofs.Ascending.{set_of_from, same_set-set_of}
use Rattle.session_rules.specs.declared.Told.{Told}
use Rattle.session_rules.specs.declared.Told.TheVariants as told
use Rattle.propagation.specs.Clauses.{Clauses, active_at, literals_at}
use Rattle.propagation.specs.Engine.{EngineView, IsEngine, HasRoomFor, IsRestored, added_clause, weakened_clause, with_added, with_weakened, without_clause}
use Rattle.propagation.proofs.Changes.{literals-reserved}
use Rattle.restore.specs.declared.lists.Kept.{Kept}
use Rattle.occurrence_lists.specs.Occurring.{IsAdded, IsRemoved}
use Rattle.elimination.specs.declared.database.Database.{Database}
use Rattle.elimination.specs.Steps.{Standing, standing, weakened_in, IsDue}
use Rattle.elimination.specs.Inside.{IsInserted}
use Rattle.elimination.specs.Databases.{IsDatabase, LeadTo}
use Rattle.elimination.specs.Restoring.{Restores}
use Rattle.elimination_laws.specs.Eligible.{how_many}
use Rattle.elimination.proofs.Seen.{flips, literals-active}
use Rattle.elimination.proofs.Standings.{active_key, active_from, weakened_literals, weakened_inactive, weakened_key, standing_put, standing_other, standing_removed, standing_left, standing_at, active-by, key-by}
use Rattle.elimination.proofs.Changing.{more_sound, more_counted, same_clauses, same_sound, less_sound, less_counted}

-- no irredundant clause has the next id
pub next_free : (d : Database) → IsDatabase d → Contains d.irredundant d.next_id → ⊥
next_free d h m = let a = h.irredundant.active d.next_id m in let lt = h.ids d.next_id (active_key d.engine.clauses d.next_id a.0 a.1) in omega (arith, lt)

-- ---- A lemma

module _ (d : Database) (h : IsDatabase d) (ls hints : List ℕ) (due : IsDue (standing d.engine.clauses) (told.Lemma d.next_id ls hints)) (clean : is_tautology ls ≡ false) (small : HasRoomFor d.engine ls)
    (e : EngineView) (s : ℕ) (a : e ≡ with_added d.engine d.next_id ls s) (ids : List ℕ) (rows : List (List ℕ)) (i : IsInserted d.irredundant d.next_id ids)
    (r : IsAdded d.occurrences d.next_id (literals_at e.clauses d.next_id) rows) where
  lemma_put : e.clauses ≡ finmap.insert d.engine.clauses d.next_id (added_clause ls s)
  lemma_put = ap (λ (z : EngineView). z.clauses) a

  lemma_now : standing e.clauses d.next_id ≡ Some (record { literals = set_of ls; active = true })
  lemma_now = ap (λ (z : Clauses). standing z d.next_id) lemma_put ∙ standing_put d.engine.clauses d.next_id (added_clause ls s)

  lemma_others : (id : ℕ) → id ≢ d.next_id → standing e.clauses id ≡ standing d.engine.clauses id
  lemma_others id ne = ap (λ (z : Clauses). standing z id) lemma_put ∙ standing_other d.engine.clauses d.next_id (added_clause ls s) id ne

  abbrev with_lemma : Database
  with_lemma = record { engine = e; irredundant = ids; occurrences = rows; next_id = d.next_id + 1 }

  pub lemma_sound : d.next_id < 2 ^ 63 → IsDatabase with_lemma
  lemma_sound limit = more_sound d h d.next_id (d.next_id + 1) ls e ids rows (next_free d h) lemma_now lemma_others small clean i r
      (ap (λ (z : EngineView). z.trail) a) (ap (λ (z : EngineView). z.vars) a) (omega arith) (omega arith) (omega (arith, limit))

  pub lemma_leads : LeadTo d (told.Lemma d.next_id ls hints ∷ []) with_lemma
  lemma_leads = record {
    due = (due, tt);
    replayed = standing_at d.engine.clauses e.clauses d.next_id (Some (record { literals = set_of ls; active = true })) lemma_now lemma_others;
    numbered = (refl, refl);
    trail = ap (λ (z : EngineView). z.trail) a;
    vars = ap (λ (z : EngineView). z.vars) a;
    counted = λ c. more_counted d h d.next_id (d.next_id + 1) ls e ids rows (next_free d h) lemma_now lemma_others small clean i r (same_set c) (flips c (set_of ls) ls (same_set-set_of ls));
  }

-- ---- A restoring

module _ (d : Database) (h : IsDatabase d) (k : Kept) (due : IsDue (standing d.engine.clauses) (told.Restore k.id k.lits)) where
  weak : weakened_in (standing d.engine.clauses) k.id ≡ Some (set_of k.lits)
  weak = due.1

  pub restored_fresh : Contains d.irredundant k.id → ⊥
  restored_fresh m = let a = h.irredundant.active k.id m in none-some a.0 (sym (weakened_inactive d.engine.clauses k.id (set_of k.lits) weak) ∙ a.1)

  pub restored_limit : k.id < 2 ^ 63
  restored_limit = let lt = h.ids k.id (weakened_key d.engine.clauses k.id (set_of k.lits) weak) in let l = h.last_id in omega (arith, lt, l)

  module _ (e : EngineView) (b : IsRestored d.engine k.id e) where
    restored_now : standing e.clauses k.id ≡ Some (record { literals = set_of k.lits; active = true })
    restored_now = ap (λ (z : EngineView). standing z.clauses k.id) b.changed ∙ standing_put d.engine.clauses k.id (record { literals = literals_at d.engine.clauses k.id; slot = Some (b.slot) })
        ∙ ap (λ (z : List ℕ). Some (record { literals = z; active = true })) (weakened_literals d.engine.clauses k.id (set_of k.lits) weak)

    restored_others : (id : ℕ) → id ≢ k.id → standing e.clauses id ≡ standing d.engine.clauses id
    restored_others id ne = ap (λ (z : EngineView). standing z.clauses id) b.changed ∙ standing_other d.engine.clauses k.id (record { literals = literals_at d.engine.clauses k.id; slot = Some (b.slot) }) id ne

    pub restored_active : (c : List ℕ) × (active_at e.clauses k.id ≡ Some c)
    restored_active = (set_of k.lits, active_from e.clauses k.id (set_of k.lits) restored_now)

    pub restored_wide : 2 * e.vars ≤ length d.occurrences
    restored_wide = let w = h.wide in let v = ap (λ (z : EngineView). z.vars) b.changed in omega (arith, w, v)

    module _ (en : IsEngine d.engine) (clean : is_tautology k.lits ≡ false) (ids : List ℕ) (rows : List (List ℕ)) (i : IsInserted d.irredundant k.id ids) (r : IsAdded d.occurrences k.id (literals_at e.clauses k.id) rows) where
      restored_small : HasRoomFor d.engine k.lits
      restored_small l m = literals-reserved d.engine k.id l en (subst (λ z. Contains z l) (sym (weakened_literals d.engine.clauses k.id (set_of k.lits) weak)) (set_of_from k.lits l m))

      abbrev with_restored : Database
      with_restored = record { engine = e; irredundant = ids; occurrences = rows; next_id = d.next_id }

      pub restored : {L : Type 0} (takes : L → Told → L → Type 0) (before after : L) → takes before (told.Restore k.id k.lits) after → Restores takes before d (k ∷ []) with_restored after
      restored takes before after t = record {
        taken = (after, t, refl);
        leads = record {
          due = (due, tt);
          replayed = standing_at d.engine.clauses e.clauses k.id (Some (record { literals = set_of k.lits; active = true })) restored_now restored_others;
          numbered = refl;
          trail = ap (λ (z : EngineView). z.trail) b.changed;
          vars = ap (λ (z : EngineView). z.vars) b.changed;
          counted = λ c. more_counted d h k.id d.next_id k.lits e ids rows restored_fresh restored_now restored_others restored_small clean i r (same_set c) (flips c (set_of k.lits) k.lits (same_set-set_of k.lits));
        };
        sound = more_sound d h k.id d.next_id k.lits e ids rows restored_fresh restored_now restored_others restored_small clean i r
            (ap (λ (z : EngineView). z.trail) b.changed) (ap (λ (z : EngineView). z.vars) b.changed)
            (h.ids k.id (weakened_key d.engine.clauses k.id (set_of k.lits) weak)) (omega arith) h.last_id;
      }

-- ---- A deletion

module _ (d : Database) (h : IsDatabase d) (id : ℕ) (ls : List ℕ) (due : IsDue (standing d.engine.clauses) (told.Delete id ls)) (redundant : Contains d.irredundant id → ⊥)
    (e : EngineView) (gone : e ≡ without_clause d.engine id) where
  gone_now : standing e.clauses id ≡ None
  gone_now = ap (λ (z : EngineView). standing z.clauses id) gone ∙ standing_removed d.engine.clauses id

  gone_others : (q : ℕ) → q ≢ id → standing e.clauses q ≡ standing d.engine.clauses q
  gone_others q ne = ap (λ (z : EngineView). standing z.clauses q) gone ∙ standing_left d.engine.clauses id q ne

  pub deleted_sound : IsDatabase (record { engine = e; irredundant = d.irredundant; occurrences = d.occurrences; next_id = d.next_id })
  deleted_sound = same_sound d h id e redundant gone_others (ap (λ (z : EngineView). z.trail) gone) (ap (λ (z : EngineView). z.vars) gone)
      (λ k. absurd (both_ways _ (key-by e.clauses id ∙ ap is_some gone_now) k))

  pub deleted_leads : LeadTo d (told.Delete id ls ∷ []) (record { engine = e; irredundant = d.irredundant; occurrences = d.occurrences; next_id = d.next_id })
  deleted_leads = record {
    due = (due, tt);
    replayed = standing_at d.engine.clauses e.clauses id None gone_now gone_others;
    numbered = refl;
    trail = ap (λ (z : EngineView). z.trail) gone;
    vars = ap (λ (z : EngineView). z.vars) gone;
    counted = λ c. let a = ap (how_many (same_set c)) (same_clauses d h id e redundant gone_others) in omega (arith, a);
  }

-- ---- A weakening

module _ (d : Database) (h : IsDatabase d) (id : ℕ) (ls : List ℕ) (due : IsDue (standing d.engine.clauses) (told.Weaken id ls))
    (ids : List ℕ) (rows : List (List ℕ)) (i : IsInserted ids id d.irredundant) (r : IsRemoved d.occurrences id (literals_at d.engine.clauses id) rows)
    (e : EngineView) (weak : e ≡ with_weakened d.engine id) where
  was : literals_at d.engine.clauses id ≡ set_of ls
  was = literals-active d.engine.clauses id (set_of ls) (active-by d.engine.clauses id ∙ due.1)

  asleep_now : standing e.clauses id ≡ Some (record { literals = set_of ls; active = false })
  asleep_now = ap (λ (z : EngineView). standing z.clauses id) weak ∙ standing_put d.engine.clauses id (weakened_clause (literals_at d.engine.clauses id))
      ∙ ap (λ (z : List ℕ). Some (record { literals = z; active = false })) was

  asleep_others : (q : ℕ) → q ≢ id → standing e.clauses q ≡ standing d.engine.clauses q
  asleep_others q ne = ap (λ (z : EngineView). standing z.clauses q) weak ∙ standing_other d.engine.clauses id (weakened_clause (literals_at d.engine.clauses id)) q ne

  pub weakened_sound : IsDatabase (record { engine = e; irredundant = ids; occurrences = rows; next_id = d.next_id })
  weakened_sound = less_sound d h id e ids rows asleep_others i r (ap (λ (z : EngineView). z.trail) weak) (ap (λ (z : EngineView). z.vars) weak)
      (h.ids id (active_key d.engine.clauses id (set_of ls) (active-by d.engine.clauses id ∙ due.1)))

  pub weakened_leads : LeadTo d (told.Weaken id ls ∷ []) (record { engine = e; irredundant = ids; occurrences = rows; next_id = d.next_id })
  weakened_leads = record {
    due = (due, tt);
    replayed = standing_at d.engine.clauses e.clauses id (Some (record { literals = set_of ls; active = false })) asleep_now asleep_others;
    numbered = refl;
    trail = ap (λ (z : EngineView). z.trail) weak;
    vars = ap (λ (z : EngineView). z.vars) weak;
    counted = λ c. less_counted d h id e ids rows asleep_others i r (same_set c) ls (ap (same_set c) was ∙ flips c (set_of ls) ls (same_set-set_of ls));
  }
