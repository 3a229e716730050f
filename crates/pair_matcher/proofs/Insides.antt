-- That all variables stay within the room that was made.
use Rattle.std.proofs.Common.{◌≡◌, ℕ, ◌+◌, ◌<◌, ◌≤◌, max, List, [], ◌∷◌, ◌++◌, length, map, take, get_or, true, Contains, Some, None, option_map, refl, sym, ap, ◌∙◌, subst, arith, add-one, le_trans}
use Rattle.std.proofs.Math.Seq.{take-suc}
use Rattle.std.proofs.lemmas.List.{map-append, take_all}
use Rattle.std.proofs.lemmas.List.Elements.{All-contains, All-more, All-map, All-weaker}
use Rattle.std.proofs.lemmas.Option.{same_Some}
use Rattle.std.specs.FinMap as finmap
use Rattle.lits.specs.Literal.{neg, var}
use Rattle.lits.specs.Clause.{set_of}
use Rattle.lits.proofs.Literal.{var-neg}
use Rattle.lits.proofs.Ascending.{set_of_at}
use Rattle.clause_store.specs.Clauses.{ClauseEntry, Store, new_clause}
use Rattle.session_events.specs.State.{State, StandsFor, start, AreReserved, with_reserved}
use Rattle.side_laws.specs.ClauseStates.{kept, kept_of_held, clauses_of_store, AreWithin}
use Rattle.side_laws.proofs.Maps.{get-kept_by, empty-kept_by}
use Rattle.side_laws.proofs.Stores.{store_added, within-change, within-empty}
use Rattle.side_laws.specs.Ids.{HoldsIds}
use Rattle.pair_matcher.specs.Sides.{AreAfterIds, holding_ids}
use Rattle.propagation.specs.Engine.{EngineView, level_after, no_engine, Grows}
use Rattle.propagation.proofs.Trail.{level_after-append}
use Rattle.pair_matcher.specs.Inside.{HasHintRoom, AreBelow, IsBetweenLines}

-- ---- Lists of literals

pub below-more : (ls : List ℕ) (v w : ℕ) → v ≤ w → AreBelow ls v → AreBelow ls w
below-more ls v w le h = All-weaker (λ l. var l ≤ v) (λ l. var l ≤ w) (λ l k. le_trans k le) ls h

pub below-neg : (ls : List ℕ) (v : ℕ) → AreBelow ls v → AreBelow (map neg ls) v
below-neg ls v h = All-map (λ l. var l ≤ v) neg ls (All-weaker (λ l. var l ≤ v) (λ l. var (neg l) ≤ v) (λ l k. subst (λ z. z ≤ v) (sym (var-neg l)) k) ls h)

pub below-step : (ls : List ℕ) (i v w : ℕ) → i < length ls → v ≤ w → var (get_or ls i 0) ≤ w → AreBelow (take i ls) v → AreBelow (take (i + 1) ls) w
below-step ls i v w lt le at h = All-more (λ l. var l ≤ w) ls i 0 lt (below-more (take i ls) v w le h) at

pub below-all : (ls : List ℕ) (i v : ℕ) → length ls ≤ i → AreBelow (take i ls) v → AreBelow ls v
below-all ls i v ge h = subst (λ z. AreBelow z v) (take_all i ls ge) h

pub negated-step : (ls : List ℕ) (i : ℕ) → i < length ls → map neg (take (i + 1) ls) ≡ map neg (take i ls) ++ neg (get_or ls i 0) ∷ []
negated-step ls i lt = ap (λ k. map neg (take k ls)) (add-one i) ∙ ap (map neg) (take-suc ls i 0 lt) ∙ map-append neg (take i ls) (get_or ls i 0 ∷ [])

pub negated-all : (ls : List ℕ) (i : ℕ) → length ls ≤ i → map neg (take i ls) ≡ map neg ls
negated-all ls i ge = ap (map neg) (take_all i ls ge)

pub at_below : (ls : List ℕ) (v l : ℕ) → AreBelow ls v → Contains ls l → var l ≤ v
at_below ls v l h m = All-contains (λ x. var x ≤ v) ls l h m

-- ---- Inside a side

module _ (m : Store) (s : State) (v : ℕ) (h : HasHintRoom m s v) where
  pub reserved_within : (ls : List ℕ) → AreReserved s ls → (l : ℕ) → Contains ls l → var l ≤ v
  reserved_within ls r l k = le_trans (at_below ls s.reserved l r k) h.events

  pub negations_within : (ls negations : List ℕ) → negations ≡ map neg ls → AreReserved s ls → (l : ℕ) → Contains negations l → var l ≤ v
  negations_within ls negations e r l k = le_trans (at_below (map neg ls) s.reserved l (below-neg ls s.reserved r) (subst (λ z. Contains z l) e k)) h.events

  pub store_within : (id l : ℕ) (held : ClauseEntry) → finmap.get m id ≡ Some held → Contains held.literals l → var l ≤ v
  store_within id l held e k = h.clauses id (kept_of_held held) (get-kept_by kept_of_held m id ∙ ap (option_map kept_of_held) e) l k

  pub inside-added : (n : Store) (t : State) (id slot : ℕ) (c : List ℕ) → AreReserved s c → n ≡ finmap.insert m id (new_clause c slot) → t.reserved ≡ s.reserved → HasHintRoom n t v
  inside-added n t id slot c r e same = record {
    clauses = within-change (clauses_of_store m) (clauses_of_store n) id v (Some (kept true (set_of c))) (store_added m n id slot c e)
        (λ k f l x. reserved_within c r l (set_of_at c l (subst (λ z. Contains z.literals l) (sym (same_Some _ _ f)) x))) h.clauses;
    events = subst (λ z. z ≤ v) (sym same) h.events;
  }

  pub inside-turned : (n : Store) → ((w : ℕ) → AreWithin (clauses_of_store m) w → AreWithin (clauses_of_store n) w) → HasHintRoom n s v
  inside-turned n within = record { clauses = within v h.clauses; events = h.events }

  pub inside-events : (t : State) → t.reserved ≡ s.reserved → HasHintRoom m t v
  inside-events t same = record { clauses = h.clauses; events = subst (λ z. z ≤ v) (sym same) h.events }

  pub inside-more : (w : ℕ) → v ≤ w → HasHintRoom m s w
  inside-more w le = record { clauses = λ id k e l x. le_trans (h.clauses id k e l x) le; events = le_trans h.events le }

-- room for one more variable in both
pub inside-reserved : (m : Store) (s t : State) (v w vars : ℕ) → HasHintRoom m s v → w ≡ max v vars → t ≡ with_reserved s vars → HasHintRoom m t w
inside-reserved m s t v w vars h e f = let g : t.reserved ≡ max s.reserved vars = ap (λ z. z.reserved) f in let k = h.events in record {
  clauses = λ id x is l n. let b = h.clauses id x is l n in omega arith;
  events = omega arith;
}

-- ---- Between two lines without ids

module _ (e : EngineView) (s : State) (h : IsBetweenLines e s) where
  pub between-kept : (f : EngineView) (t : State) → f.vars ≡ e.vars → level_after f.trail ≡ 0 → t.reserved ≡ s.reserved → IsBetweenLines f t
  between-kept f t vars level same = let k = h.events in record { events = omega arith; level = level }

  pub between-grown : (f : EngineView) (t : State) → Grows e f → t.reserved ≡ s.reserved → IsBetweenLines f t
  between-grown f t g same = let k = h.level in let added = g.2 in let sum = level_after-append e.trail g.0 in
      between-kept f t (ap (λ z. z.vars) g.1) (ap (λ z. level_after z.trail) g.1 ∙ omega arith) same

  pub between-events : (t : State) → t.reserved ≡ s.reserved → IsBetweenLines e t
  between-events t same = between-kept e t refl h.level same

  pub negations_between : (ls negations : List ℕ) → negations ≡ map neg ls → AreReserved s ls → (l : ℕ) → Contains negations l → var l ≤ e.vars
  negations_between ls negations is r l k = le_trans (at_below (map neg ls) s.reserved l (below-neg ls s.reserved r) (subst (λ z. Contains z l) is k)) h.events

-- ---- The start

pub between-new : (e : EngineView) (s : State) → e ≡ no_engine → s ≡ start → IsBetweenLines e s
between-new e s is same = let g : s.reserved ≡ 0 = ap (λ z. z.reserved) same in record {
  events = omega arith;
  level = ap (λ z. level_after z.trail) is;
}

pub inside-new : (m : Store) (s : State) (v : ℕ) → m ≡ finmap.empty → s ≡ start → HasHintRoom m s v
inside-new m s v e f = let g : s.reserved ≡ 0 = ap (λ z. z.reserved) f in record {
  clauses = subst (λ z. AreWithin (clauses_of_store z) v) (sym e) (within-empty v);
  events = omega arith;
}

pub stands-new : (m : Store) (s : State) → m ≡ finmap.empty → StandsFor s [] → AreAfterIds (holding_ids (clauses_of_store m) s) []
stands-new m s e h = record {
  clauses = subst (λ z. HoldsIds (clauses_of_store z) []) (sym e) (record {
    standings = λ id. rw (empty-kept_by kept_of_held id) refl;
    literals = λ id k f. let g : None ≡ Some k = sym (empty-kept_by kept_of_held id) ∙ f in cc g;
  });
  events = h;
}
