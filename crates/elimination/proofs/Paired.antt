-- The resolvent of a pair of clauses: its lemma is due, and what is known behind it.
use Rattle.std.proofs.Common.{◌≡◌, ◌≢◌, ℕ, ◌+◌, ◌<◌, ◌≤◌, ◌⊎◌, ◌||◌, Bool, true, false, not, nat_eq, List, [], ◌∷◌, length, map, Contains, Option, Some, None, refl, sym, ap, ◌∙◌, subst, inl, inr, arith}
use Rattle.std.specs.Prelude.{is_some}
use Rattle.std.specs.List.{list_any}
use Rattle.std.specs.FinMap as finmap
use Rattle.std.proofs.lemmas.Bool.{cases_Bool, both_ways, and_parts, ne_eqb}
use Rattle.lits.specs.Literal.{neg}
use Rattle.lits.specs.Clause.{has, is_part, same_set, is_tautology}
use Rattle.lits.proofs.Members.{here, there, here_or_there, not_in_nil, has_at, has_from, all_at, any_from, filter_at, filter_from}
use Rattle.lits.proofs.Sets.{same_from, same_set-itself, same_set-flip, same_set-chain, tautology-same}
use Rattle.session_rules.specs.declared.Told.{Told}
use Rattle.session_rules.specs.declared.Told.TheVariants as told
use Rattle.session_rules.specs.Logic.{hints_fail}
use Rattle.propagation.specs.Clauses.{Clauses, active_at, literals_at}
use Rattle.propagation.specs.Engine.{EngineView, IsEngine, HasRoomFor, IsOnce}
use Rattle.propagation.proofs.Changes.{literals-reserved}
use Rattle.resolvents.specs.Held.{AreReserved}
use Rattle.restore.specs.Resolution.{of_variable, holds, holds_negated, without, resolvent}
use Rattle.restore.specs.Stack.{has_set}
use Rattle.restore.proofs.Joined.{append_at}
use Rattle.elimination_laws.proofs.Counting.{resolvent_same}
use Rattle.elimination_laws.proofs.Hinting.{no_tautology_alone, two_hints_close}
use Rattle.elimination.specs.declared.database.Database.{Database}
use Rattle.elimination.specs.Steps.{TakesEach, Standing, standing, active_in, IsDue}
use Rattle.elimination.specs.Inside.{IsInserted}
use Rattle.elimination.specs.Databases.{IsDatabase, LeadTo, irredundant_of}
use Rattle.elimination.specs.Resolving.{IsNew, AreWritten, IsRecalled, IsJudged, ResolvesEach, IsFirst, IsSecond, IsHeld}
use Rattle.elimination.proofs.Seen.{literals-active}
use Rattle.elimination.proofs.Standings.{active-by, key-by}
use Rattle.elimination.proofs.Standings as stand
use Rattle.elimination.proofs.Changing.{member_old}
use Rattle.elimination.proofs.Stepping.{next_free}
use Rattle.elimination.proofs.Leading.{none_lead}
use Rattle.elimination.proofs.Recalling.{known_often}
use Rattle.elimination.proofs.Making.{known_same}
use Rattle.elimination.proofs.Resolved.{often_behind}

-- ---- Irredundant clauses

module _ (d : Database) (h : IsDatabase d) (i : ℕ) (m : Contains d.irredundant i) where
  pub active_here : active_at d.engine.clauses i ≡ Some (literals_at d.engine.clauses i)
  active_here = let a = h.irredundant.active i m in a.1 ∙ ap Some (sym (literals-active d.engine.clauses i a.0 a.1))

  pub clean_here : is_tautology (literals_at d.engine.clauses i) ≡ false
  clean_here = let a = h.irredundant.active i m in ap is_tautology (literals-active d.engine.clauses i a.0 a.1) ∙ a.2

  -- a list with its literals
  module _ (c : List ℕ) (held : IsHeld d i c) where
    pub held_same : same_set c (literals_at d.engine.clauses i) ≡ true
    held_same = same_from c (literals_at d.engine.clauses i) held.same

    pub held_clean : is_tautology c ≡ false
    held_clean = tautology-same c (literals_at d.engine.clauses i) held_same ∙ clean_here

    pub held_within : IsEngine d.engine → AreReserved d.engine.vars c
    held_within en l k = literals-reserved d.engine i l en (has_at (literals_at d.engine.clauses i) l (sym (held.same l) ∙ k))

    pub held_wider : (x : ℕ) → 0 < length (without x (literals_at d.engine.clauses i)) → 0 < length (without x c)
    held_wider x lt =
        let q = some_of (without x (literals_at d.engine.clauses i)) lt in
        let r = filter_at (λ l. not (of_variable x l)) (literals_at d.engine.clauses i) q.0 q.1 in
        some_in (without x c) q.0 (filter_from (λ l. not (of_variable x l)) c q.0 (has_at c q.0 (held.same q.0 ∙ has_from (literals_at d.engine.clauses i) q.0 r.0)) r.1)
      where
        some_of : (ls : List ℕ) → 0 < length ls → (l : ℕ) × Contains ls l
        some_of [] lt = absurd (omega (arith, lt))
        some_of (l ∷ ls) lt = (l, here l ls)

        some_in : (ls : List ℕ) (l : ℕ) → Contains ls l → 0 < length ls
        some_in [] l k = absurd (not_in_nil l k)
        some_in (m ∷ ls) l k = omega arith

-- ---- A pair

module _ (x i j : ℕ) (d : Database) (h : IsDatabase d) (f : IsFirst x d i) (s : IsSecond x d j) where
  abbrev one : List ℕ
  one = literals_at d.engine.clauses i

  abbrev two : List ℕ
  two = literals_at d.engine.clauses j

  none_negated : holds_negated x one ≡ false
  none_negated = elim (cases_Bool (holds_negated x one)) [
    | inl y ↦ absurd (no_tautology_alone x one (clean_here d h i f.irredundant) f.holding y)
    | inr n ↦ n
  ]

  none_plain : holds x two ≡ false
  none_plain = elim (cases_Bool (holds x two)) [
    | inl y ↦ absurd (no_tautology_alone x two (clean_here d h j s.irredundant) y s.holding)
    | inr n ↦ n
  ]

  pair_apart : i ≢ j
  pair_apart e = both_ways _ none_negated (subst (λ z. holds_negated x (literals_at d.engine.clauses z) ≡ true) (sym e) s.holding)

  free_standing : standing d.engine.clauses d.next_id ≡ None
  free_standing = by_standing (standing d.engine.clauses d.next_id) refl
    where
      by_standing : (o : Option Standing) → standing d.engine.clauses d.next_id ≡ o → standing d.engine.clauses d.next_id ≡ None
      by_standing None e = e
      by_standing (Some k) e = let lt = h.ids d.next_id (key-by d.engine.clauses d.next_id ∙ ap is_some e) in absurd (omega (arith, lt))

  standing_here : (n : ℕ) → Contains d.irredundant n → active_in (standing d.engine.clauses) n ≡ Some (literals_at d.engine.clauses n)
  standing_here n m = sym (active-by d.engine.clauses n) ∙ active_here d h n m

  hints_stand : (k : ℕ) → Contains (i ∷ j ∷ []) k → (c : List ℕ) × (active_in (standing d.engine.clauses) k ≡ Some c)
  hints_stand k m = elim (here_or_there i k (j ∷ []) m) [
    | inl e ↦ (one, ap (active_in (standing d.engine.clauses)) (sym e) ∙ standing_here i f.irredundant)
    | inr o ↦ elim (here_or_there j k [] o) [
      | inl e ↦ (two, ap (active_in (standing d.engine.clauses)) (sym e) ∙ standing_here j s.irredundant)
      | inr n ↦ absurd (not_in_nil k n)
    ]
  ]

  hints_once : IsOnce (i ∷ j ∷ [])
  hints_once = let q = ne_eqb i j pair_apart in (rw q refl, (refl, tt))

  pub resolvent_due : (ls : List ℕ) → IsNew x (irredundant_of d) one two ls → IsDue (standing d.engine.clauses) (told.Lemma d.next_id ls (i ∷ j ∷ []))
  resolvent_due ls n = (
    free_standing,
    n.once,
    hints_once,
    hints_stand,
    two_hints_close x one two ls f.holding none_negated s.holding none_plain n.same (active_in (standing d.engine.clauses)) i j (standing_here i f.irredundant) (standing_here j s.irredundant),
  )

  pub resolvent_clean : (ls : List ℕ) → IsNew x (irredundant_of d) one two ls → is_tautology ls ≡ false
  resolvent_clean ls n = tautology-same ls (resolvent x one two) n.same ∙ n.clean

-- what is judged of a list with the literals of a clause is judged of the clause
pub judged_held : (b : Bool) (x : ℕ) (known : List (List ℕ)) (c d e ls : List ℕ) → same_set c d ≡ true → IsJudged b x known c e ls → IsJudged b x known d e ls
judged_held true x known c d e ls s n =
    let r = resolvent_same x c d e e s (same_set-itself e) in
    record { clean = sym (tautology-same (resolvent x c e) (resolvent x d e) r) ∙ n.clean; same = same_set-chain ls (resolvent x c e) (resolvent x d e) n.same r; once = n.once; unknown = n.unknown }
judged_held false x known c d e ls s n =
    let r = resolvent_same x c d e e s (same_set-itself e) in
    λ clean. sym (known_same known (resolvent x c e) (resolvent x d e) r) ∙ n (tautology-same (resolvent x c e) (resolvent x d e) r ∙ clean)

module _ {L : Type 0} (takes : L → Told → L → Type 0) (x i j : ℕ) (l m : L) (d e : Database) where
  abbrev left_one : List ℕ
  left_one = literals_at d.engine.clauses i

  abbrev right_one : List ℕ
  right_one = literals_at d.engine.clauses j

  only : (n k : ℕ) → Contains (n ∷ []) k → k ≡ n
  only n k c = elim (here_or_there n k [] c) [ inl q ↦ sym q | inr o ↦ absurd (not_in_nil k o) ]

  -- nothing was told of a pair
  pub pair_passed : IsDatabase d → IsRecalled x (irredundant_of d) left_one right_one → ResolvesEach takes x l d (i ∷ []) (j ∷ []) d l
  pair_passed h r = record {
    steps = [];
    taken = refl;
    leads = none_lead d;
    sound = h;
    written = λ cs f g. tt;
    recalled = λ p q a b. subst (λ z. IsRecalled x (irredundant_of d) z (literals_at d.engine.clauses q)) (ap (literals_at d.engine.clauses) (sym (only i p a)))
        (subst (λ z. IsRecalled x (irredundant_of d) left_one z) (ap (literals_at d.engine.clauses) (sym (only j q b))) r);
    kept = λ id c. (c, refl);
  }

  -- the resolvent was told
  module _ (ls : List ℕ) (h : IsDatabase d) (f : IsFirst x d i) (s : IsSecond x d j) (n : IsNew x (irredundant_of d) left_one right_one ls)
      (tk : takes l (told.Lemma d.next_id ls (i ∷ j ∷ [])) m) (leads : LeadTo d (told.Lemma d.next_id ls (i ∷ j ∷ []) ∷ []) e) (sound : IsDatabase e) (listed : IsInserted d.irredundant d.next_id e.irredundant) where
    known_now : has_set (irredundant_of e) (resolvent x left_one right_one) ≡ true
    known_now =
        let w : AreWritten x (left_one ∷ right_one ∷ []) (irredundant_of d) (told.Lemma d.next_id ls (i ∷ j ∷ []) ∷ []) = (record { first = left_one; second = right_one; has_first = here left_one (right_one ∷ []); has_second = there_one; holding = f.holding; holding_negation = s.holding; clean = n.clean; same = n.same }, n.unknown, tt) in
        let o = often_behind x (left_one ∷ right_one ∷ []) d e (told.Lemma d.next_id ls (i ∷ j ∷ []) ∷ []) leads w in
        let q = same_set-flip ls (resolvent x left_one right_one) n.same in
        known_often (irredundant_of e) (ls ∷ irredundant_of d) (resolvent x left_one right_one) o ∙ any_from (same_set (resolvent x left_one right_one)) (ls ∷ irredundant_of d) ls (here ls (irredundant_of d)) q
      where
        there_one : Contains (left_one ∷ right_one ∷ []) right_one
        there_one = there left_one right_one (right_one ∷ []) (here right_one [])

    same_here : (id : ℕ) → Contains d.irredundant id → literals_at e.engine.clauses id ≡ literals_at d.engine.clauses id
    same_here id c =
        let ne : id ≢ d.next_id = λ q. next_free d h (subst (λ z. Contains d.irredundant z) q c) in
        let t = ne_eqb id d.next_id ne in
        let r = leads.replayed id in
        stand.same_literals d.engine.clauses e.engine.clauses id (rw t at r)

    pub pair_told : ResolvesEach takes x l d (i ∷ []) (j ∷ []) e m
    pair_told = record {
      steps = told.Lemma d.next_id ls (i ∷ j ∷ []) ∷ [];
      taken = (m, tk, refl);
      leads = leads;
      sound = sound;
      written = λ cs g k. (record { first = left_one; second = right_one; has_first = g i (here i []); has_second = k j (here j []); holding = f.holding; holding_negation = s.holding; clean = n.clean; same = n.same }, n.unknown, tt);
      recalled = λ p q a b. subst (λ z. IsRecalled x (irredundant_of e) z (literals_at d.engine.clauses q)) (ap (literals_at d.engine.clauses) (sym (only i p a)))
          (subst (λ z. IsRecalled x (irredundant_of e) left_one z) (ap (literals_at d.engine.clauses) (sym (only j q b))) (λ clean. known_now));
      kept = λ id c. (member_old d.irredundant e.irredundant d.next_id listed id c, same_here id c);
    }

module _ (x i j : ℕ) (d : Database) (h : IsDatabase d) (f : IsFirst x d i) (c : List ℕ) (held : IsHeld d i c) (b : Bool) (ls : List ℕ)
    (u : IsJudged b x (irredundant_of d) c (literals_at d.engine.clauses j) ls) where
  turned : (v : Bool) → b ≡ v → IsJudged v x (irredundant_of d) (literals_at d.engine.clauses i) (literals_at d.engine.clauses j) ls
  turned v e = judged_held v x (irredundant_of d) c (literals_at d.engine.clauses i) (literals_at d.engine.clauses j) ls (held_same d h i f.irredundant c held)
      (subst (λ (z : Bool). IsJudged z x (irredundant_of d) c (literals_at d.engine.clauses j) ls) e u)

  pub new_pair : b ≡ true → IsNew x (irredundant_of d) (literals_at d.engine.clauses i) (literals_at d.engine.clauses j) ls
  new_pair e = turned true e

  pub passed_pair : b ≡ false → IsRecalled x (irredundant_of d) (literals_at d.engine.clauses i) (literals_at d.engine.clauses j)
  passed_pair e = turned false e

-- the literals of a resolvent are reserved
pub resolvent_within : (x i j : ℕ) (d : Database) (ls : List ℕ) → IsEngine d.engine → IsNew x (irredundant_of d) (literals_at d.engine.clauses i) (literals_at d.engine.clauses j) ls → HasRoomFor d.engine ls
resolvent_within x i j d ls en n = λ l m.
    let a = literals_at d.engine.clauses i in
    let b = literals_at d.engine.clauses j in
    let r = all_at (has (resolvent x a b)) ls l (and_parts (is_part ls (resolvent x a b)) (is_part (resolvent x a b) ls) n.same).0 m in
    elim (append_at (without x a) (without x b) l (has_at (resolvent x a b) l r)) [
      | inl q ↦ literals-reserved d.engine i l en (filter_at (λ k. not (of_variable x k)) a l q).0
      | inr q ↦ literals-reserved d.engine j l en (filter_at (λ k. not (of_variable x k)) b l q).0
    ]
