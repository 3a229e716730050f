-- What holds of a board that is searched: where its trail changes, and where a lemma is learned.
use Rattle.std.proofs.Common.{◌≡◌, ◌≢◌, ℕ, ◌+◌, ◌<◌, ◌^◌, true, false, List, ◌++◌, map, Contains, Option, Some, None, Result, Ok, Err, refl, sym, ap, ◌∙◌, subst, inl, inr, arith}
use Rattle.std.specs.Prelude.{nat_eq, is_some, is_err, option_and_then, IfErr}
use Rattle.std.proofs.Math.Path.{fun_ext}
use Rattle.std.specs.FinMap as finmap
use Rattle.std.specs.List.{list_any}
use Rattle.std.proofs.lemmas.Bool.{both_ways, false_from_ne_true, eqb-true, eq-eqb}
use Rattle.std.proofs.lemmas.Option.{same_Some, none-some}
use Rattle.lits.specs.Literal.{var, neg}
use Rattle.lits.specs.Clause.{set_of, is_tautology}
use Rattle.lits.proofs.Members.{any_at, any_from}
use Rattle.lits.proofs.Ascending.{set_of_at}
use Rattle.session_rules.specs.declared.Told.TheVariants as told
use Rattle.session_rules.specs.Logic.{hints_fail}
use Rattle.propagation.specs.declared.TrailEntry.{TrailEntry}
use Rattle.propagation.specs.Clauses.{Clauses, active_at, literals_at, is_weakened}
use Rattle.propagation.specs.Engine.{EngineView, IsEngine, added_clause, with_trail, level_after}
use Rattle.propagation.proofs.Changes.{cases}
use Rattle.restore.specs.declared.lists.Elim.{Elim}
use Rattle.restore.specs.declared.lists.Kept.{Kept}
use Rattle.restore.specs.Resolution.{has_variable, of_variable, Entails}
use Rattle.restore.specs.Stack.{KeepsResolvents, stacked}
use Rattle.occurrence_lists.specs.Occurring.{StandsFor}
use Rattle.elimination.specs.Boards.{BoardView, IsWeakenedCopy, irredundant_clauses}
use Rattle.elimination.specs.Inside.{IsBoardInside}
use Rattle.elimination.specs.Steps.{Standing, standing, weakened_in, if_weakened, IsDue}
use Rattle.elimination.specs.Known.{numbered_in}
use Rattle.elimination.specs.Searching.{IsSearchedInside, IsLearnable, with_engine, learned}
use Rattle.elimination.proofs.Admitting.{map-same}
use Rattle.elimination.proofs.Standings.{active-by, weakened-by, key-by, weakened_set, active_key, weakened_key, same_literals, same_active, same_weakened, same_key, active_from, standing_put, standing_other}

-- a board is one that is searched, and back
pub searched_board : (b : BoardView) (rows : List (List ℕ)) → IsBoardInside b rows → IsSearchedInside b rows
searched_board b rows h = record { searched = h.board.searched; listed = h.listed; wide = h.wide }

pub board_searched : (b : BoardView) (rows : List (List ℕ)) → IsSearchedInside b rows → level_after b.engine.trail ≡ 0 → IsBoardInside b rows
board_searched b rows h e = record { board = record { searched = h.searched; level = e }; listed = h.listed; wide = h.wide }

-- another trail
pub moved : (b : BoardView) (rows : List (List ℕ)) (e : EngineView) (ss : List TrailEntry) → IsSearchedInside b rows → IsEngine e → e ≡ with_trail b.engine ss → IsSearchedInside (with_engine b e) rows
moved b rows e ss h en q = subst (λ (z : EngineView). IsSearchedInside (with_engine b z) rows) (sym q) (record {
  searched = record {
    engine = subst (λ z. IsEngine z) q en;
    kept = h.searched.kept;
    implied = h.searched.implied;
    irredundant = h.searched.irredundant;
    copies = h.searched.copies;
    whole = h.searched.whole;
    gone = h.searched.gone;
    single = h.searched.single;
    apart = h.searched.apart;
    positive = h.searched.positive;
    reserved = h.searched.reserved;
    ids = h.searched.ids;
    first_id = h.searched.first_id;
    last_id = h.searched.last_id;
  };
  listed = h.listed;
  wide = h.wide;
})

-- ---- A lemma

free_at : (m : Clauses) (n : ℕ) → ((id : ℕ) → finmap.contains_key m id ≡ true → id < n) → standing m n ≡ None
free_at m n below = by_standing (standing m n) refl
  where
    by_standing : (o : Option Standing) → standing m n ≡ o → standing m n ≡ None
    by_standing None e = e
    by_standing (Some k) e = let lt = below n (key-by m n ∙ ap is_some e) in absurd (omega (arith, lt))

module _ (b : BoardView) (rows : List (List ℕ)) (h : IsSearchedInside b rows) (ls hints : List ℕ) (r : IsLearnable b ls hints) where
  pub lemma_due : IsDue (standing b.engine.clauses) (told.Lemma b.next_id ls hints)
  lemma_due = (
    free_at b.engine.clauses b.next_id h.searched.ids,
    r.once,
    r.hints_once,
    λ k m. let a = r.hints_active k m in (a.0, sym (active-by b.engine.clauses k) ∙ a.1),
    subst (λ f. hints_fail f (map neg ls) hints ≡ None) (fun_ext (active-by b.engine.clauses)) r.closed,
  )

  -- no clause of the next id was there
  below : (id : ℕ) → finmap.contains_key b.engine.clauses id ≡ true → id ≢ b.next_id
  below id k e = let lt = h.searched.ids id k in omega (arith, lt, e)

  -- an entry's variable isn't in the lemma
  apart_lemma : (e : Elim) → Contains b.stack e → has_variable e.var (set_of ls) ≡ false
  apart_lemma e m = false_from_ne_true _ (λ y.
      let a = any_at (of_variable e.var) (set_of ls) y in let v : var a.0 ≡ e.var = eqb-true (var a.0) e.var a.2 in
      both_ways _ (r.present a.0 (set_of_at ls a.0 a.1)) (any_from (λ (f : Elim). nat_eq f.var (var a.0)) b.stack e m (eq-eqb e.var (var a.0) (sym v))))

  module _ (slot : ℕ) where
    abbrev m2 : Clauses
    m2 = finmap.insert b.engine.clauses b.next_id (added_clause ls slot)

    now : standing m2 b.next_id ≡ Some (record { literals = set_of ls; active = true })
    now = standing_put b.engine.clauses b.next_id (added_clause ls slot)

    others : (id : ℕ) → id ≢ b.next_id → standing m2 id ≡ standing b.engine.clauses id
    others id ne = standing_other b.engine.clauses b.next_id (added_clause ls slot) id ne

    not_weak : (id : ℕ) → id ≡ b.next_id → is_weakened m2 id ≡ false
    not_weak id e = weakened-by m2 id ∙ ap (λ z. is_some (weakened_in (standing m2) z)) e ∙ ap (λ (o : Option Standing). is_some (option_and_then if_weakened o)) now

    weak_below : (id : ℕ) → is_weakened b.engine.clauses id ≡ true → id ≢ b.next_id
    weak_below id w = below id (weakened_key b.engine.clauses id (literals_at b.engine.clauses id) (weakened_set b.engine.clauses id w))

    active_below : (id : ℕ) (c : List ℕ) → active_at b.engine.clauses id ≡ Some c → id ≢ b.next_id
    active_below id c a = below id (active_key b.engine.clauses id c a)

    listed_below : (id : ℕ) → Contains b.irredundant id → id ≢ b.next_id
    listed_below id m = let a = h.searched.irredundant.active id m in active_below id a.0 a.1

    kept_literals : (id : ℕ) → Contains b.irredundant id → literals_at m2 id ≡ literals_at b.engine.clauses id
    kept_literals id m = same_literals b.engine.clauses m2 id (others id (listed_below id m))

    kept_clauses : map (literals_at m2) b.irredundant ≡ irredundant_clauses b
    kept_clauses = map-same (literals_at m2) (literals_at b.engine.clauses) b.irredundant kept_literals

    kept_numbered : numbered_in m2 b.irredundant ≡ numbered_in b.engine.clauses b.irredundant
    kept_numbered = map-same (λ id. (id, literals_at m2 id)) (λ id. (id, literals_at b.engine.clauses id)) b.irredundant (λ id m. ap (λ (z : List ℕ). (id, z)) (kept_literals id m))

    kept_active : (id : ℕ) → Contains b.irredundant id → (c : List ℕ) × (active_at m2 id ≡ Some c) × (is_tautology c ≡ false)
    kept_active id m = let a = h.searched.irredundant.active id m in (a.0, same_active b.engine.clauses m2 id (others id (listed_below id m)) ∙ a.1, a.2)

    kept_copy : (k : Kept) → IsWeakenedCopy b.engine.clauses k → IsWeakenedCopy m2 k
    kept_copy k c = let o = others k.id (weak_below k.id c.weakened) in record {
      weakened = same_weakened b.engine.clauses m2 k.id o ∙ c.weakened;
      same = c.same ∙ sym (same_literals b.engine.clauses m2 k.id o);
      once = c.once;
      clean = c.clean;
    }

    pub learned_inside : IsEngine (learned b ls slot).engine → b.next_id < 2 ^ 63 → IsSearchedInside (learned b ls slot) rows
    learned_inside en limit = record {
      searched = record {
        engine = en;
        kept = subst (λ z. KeepsResolvents b.stack z) (sym kept_clauses) h.searched.kept;
        implied = λ c m. subst (λ z. Entails (stacked b.stack ++ z) c) (sym kept_clauses) (h.searched.implied c m);
        irredundant = record { once = h.searched.irredundant.once; active = kept_active };
        copies = λ e k m n. kept_copy k (h.searched.copies e k m n);
        whole = λ id w. elim (cases id b.next_id) [
          | inl e ↦ absurd (both_ways _ (not_weak id e) w)
          | inr ne ↦ h.searched.whole id (sym (same_weakened b.engine.clauses m2 id (others id ne)) ∙ w)
        ];
        gone = λ e id c m a y. elim (cases id b.next_id) [
          | inl q ↦ absurd (both_ways _ (apart_lemma e m) (subst (λ z. has_variable e.var z ≡ true) (same_Some c (set_of ls) (sym a ∙ ap (active_at m2) q ∙ active_from m2 b.next_id (set_of ls) now)) y))
          | inr ne ↦ h.searched.gone e id c m (sym (same_active b.engine.clauses m2 id (others id ne)) ∙ a) y
        ];
        single = h.searched.single;
        apart = h.searched.apart;
        positive = h.searched.positive;
        reserved = h.searched.reserved;
        ids = λ id k. elim (cases id b.next_id) [
          | inl q ↦ omega (arith, q)
          | inr ne ↦ let lt = h.searched.ids id (sym (same_key b.engine.clauses m2 id (others id ne)) ∙ k) in omega (arith, lt)
        ];
        first_id = omega arith;
        last_id = omega (arith, limit);
      };
      listed = record { stands = subst (λ z. StandsFor rows z) (sym kept_numbered) h.listed.stands; active = kept_active };
      wide = h.wide;
    }

-- what holds of a refusal
pub when_err : {X F P : Type 0} (r : Result X F) → is_err r ≡ true → IfErr r (λ _. P) → P
when_err (Ok x) e p = cc e
when_err (Err f) e p = p
