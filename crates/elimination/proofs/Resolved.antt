-- Resolvents that are told one after another.
use Rattle.std.proofs.Common.{◌≡◌, ◌≢◌, ℕ, ◌+◌, ◌<◌, ◌≤◌, ◌⊎◌, ◌||◌, Bool, true, false, List, [], ◌∷◌, ◌++◌, length, map, filter_map, Contains, Option, Some, None, refl, sym, ap, ◌∙◌, subst, inl, inr, arith}
use Rattle.std.specs.List.{list_any}
use Rattle.std.proofs.lemmas.Bool.{cases_Bool, both_ways}
use Rattle.lits.specs.Clause.{same_set, is_tautology, set_of}
use Rattle.lits.proofs.Members.{here, any_at, any_from, not_in_nil, here_or_there}
use Rattle.lits.proofs.Sets.{same_set-itself, same_set-chain, tautology-same}
use Rattle.session_rules.specs.declared.Told.{Told}
use Rattle.session_rules.specs.declared.Told.TheVariants as told
use Rattle.session_rules.specs.Own.{added_clause, weakened_clause}
use Rattle.propagation.specs.Clauses.{Clauses, literals_at}
use Rattle.restore.specs.Resolution.{resolvent}
use Rattle.restore.specs.Stack.{has_set}
use Rattle.restore.proofs.Joined.{map_at, map_from}
use Rattle.elimination_laws.specs.Eligible.{how_many, OftenAs}
use Rattle.elimination_laws.proofs.Counting.{resolvent_same}
use Rattle.elimination.specs.declared.database.Database.{Database}
use Rattle.elimination.specs.Steps.{TakesEach, steps_of}
use Rattle.elimination.specs.Databases.{IsDatabase, LeadTo, irredundant_of}
use Rattle.elimination.specs.Resolving.{IsResolventOf, AreWritten, IsRecalled, ResolvesEach}
use Rattle.elimination.proofs.Joining.{takes_joined}
use Rattle.elimination.proofs.Leading.{none_lead, leads_on}
use Rattle.elimination.proofs.Recalling.{known_often}

-- ---- Written resolvents

-- the known clauses with the lemmas of steps
abbrev behind : List (List ℕ) → List Told → List (List ℕ)
behind known [] = known
behind known (told.Lemma id ls hints ∷ ts) = behind (ls ∷ known) ts
behind known (t ∷ ts) = behind known ts

module _ (x : ℕ) (cs : List (List ℕ)) where
  -- what is written depends on the sets of the known clauses alone
  written_same : (k l : List (List ℕ)) (ts : List Told) → ((c : List ℕ) → has_set k c ≡ has_set l c) → AreWritten x cs k ts → AreWritten x cs l ts
  written_same k l [] h w = tt
  written_same k l (told.Lemma id ls hints ∷ ts) h w = (w.0, sym (h ls) ∙ w.1, written_same (ls ∷ k) (ls ∷ l) ts (λ c. ap (λ b. same_set c ls || b) (h c)) w.2)
  written_same k l (told.Delete id ls ∷ ts) h w = absurd w
  written_same k l (told.Weaken id ls ∷ ts) h w = absurd w
  written_same k l (told.Restore id ls ∷ ts) h w = absurd w

  written_append : (k : List (List ℕ)) (ts us : List Told) → AreWritten x cs k ts → AreWritten x cs (behind k ts) us → AreWritten x cs k (ts ++ us)
  written_append k [] us w v = v
  written_append k (told.Lemma id ls hints ∷ ts) us w v = (w.0, w.1, written_append (ls ∷ k) ts us w.2 v)
  written_append k (told.Delete id ls ∷ ts) us w v = absurd w
  written_append k (told.Weaken id ls ∷ ts) us w v = absurd w
  written_append k (told.Restore id ls ∷ ts) us w v = absurd w

  -- lemmas weaken nothing, and they are counted among the known ones
  none_weakened : (k : List (List ℕ)) (ts : List Told) → AreWritten x cs k ts → filter_map weakened_clause (steps_of ts) ≡ []
  none_weakened k [] w = refl
  none_weakened k (told.Lemma id ls hints ∷ ts) w = none_weakened (ls ∷ k) ts w.2
  none_weakened k (told.Delete id ls ∷ ts) w = absurd w
  none_weakened k (told.Weaken id ls ∷ ts) w = absurd w
  none_weakened k (told.Restore id ls ∷ ts) w = absurd w

  one_more : (p : List ℕ → Bool) (c : List ℕ) (ds : List (List ℕ)) → how_many p (c ∷ ds) ≡ how_many p (c ∷ []) + how_many p ds
  one_more p c ds = elim (cases_Bool (p c)) [ inl y ↦ rw y (omega arith) | inr n ↦ rw n (omega arith) ]

  counted_behind : (p : List ℕ → Bool) (k : List (List ℕ)) (ts : List Told) → AreWritten x cs k ts → how_many p (behind k ts) ≡ how_many p k + how_many p (filter_map added_clause (steps_of ts))
  counted_behind p k [] w = omega arith
  counted_behind p k (told.Lemma id ls hints ∷ ts) w =
      let a = counted_behind p (ls ∷ k) ts w.2 in let b = one_more p ls k in let e = one_more p ls (filter_map added_clause (steps_of ts)) in omega (arith, a, b, e)
  counted_behind p k (told.Delete id ls ∷ ts) w = absurd w
  counted_behind p k (told.Weaken id ls ∷ ts) w = absurd w
  counted_behind p k (told.Restore id ls ∷ ts) w = absurd w

  pub often_behind : (a b : Database) (ts : List Told) → LeadTo a ts b → AreWritten x cs (irredundant_of a) ts → OftenAs (irredundant_of b) (behind (irredundant_of a) ts)
  often_behind a b ts h w = λ c.
      let n = ap (how_many (same_set c)) (none_weakened (irredundant_of a) ts w) in
      let e = counted_behind (same_set c) (irredundant_of a) ts w in
      let f = h.counted c in
      omega (arith, n, e, f)

  pub written_joined : (a b : Database) (ts us : List Told) → LeadTo a ts b → AreWritten x cs (irredundant_of a) ts → AreWritten x cs (irredundant_of b) us → AreWritten x cs (irredundant_of a) (ts ++ us)
  written_joined a b ts us h w v = written_append (irredundant_of a) ts us w (written_same (irredundant_of b) (behind (irredundant_of a) ts) us (λ c. known_often (irredundant_of b) (behind (irredundant_of a) ts) c (often_behind a b ts h w)) v)

-- ---- What is known stays known

pub stays_known : (a b : Database) (c : List ℕ) → ((id : ℕ) → Contains a.irredundant id → Contains b.irredundant id × (literals_at b.engine.clauses id ≡ literals_at a.engine.clauses id))
    → has_set (irredundant_of a) c ≡ true → has_set (irredundant_of b) c ≡ true
stays_known a b c k h =
    let r = any_at (same_set c) (irredundant_of a) h in
    let q = map_at (literals_at a.engine.clauses) a.irredundant r.0 r.1 in
    let z = k q.0 q.1 in
    any_from (same_set c) (irredundant_of b) r.0 (subst (λ y. Contains (irredundant_of b) y) (z.1 ∙ q.2) (map_from (literals_at b.engine.clauses) b.irredundant q.0 z.0)) r.2

-- ---- One after another

module _ {L : Type 0} (takes : L → Told → L → Type 0) (x : ℕ) where
  -- with no clause yet there is nothing to resolve
  pub none_first : (l : L) (d : Database) (seconds : List ℕ) → IsDatabase d → ResolvesEach takes x l d [] seconds d l
  none_first l d seconds h = record {
    steps = [];
    taken = refl;
    leads = none_lead d;
    sound = h;
    written = λ cs f g. tt;
    recalled = λ i j m n. absurd (not_in_nil i m);
    kept = λ id m. (m, refl);
  }

  pub none_second : (l : L) (d : Database) (firsts : List ℕ) → IsDatabase d → ResolvesEach takes x l d firsts [] d l
  none_second l d firsts h = record {
    steps = [];
    taken = refl;
    leads = none_lead d;
    sound = h;
    written = λ cs f g. tt;
    recalled = λ i j m n. absurd (not_in_nil j n);
    kept = λ id m. (m, refl);
  }

  -- the pairs of two calls
  pub joined : (l m n : L) (a b c : Database) (is js ks ls fs gs : List ℕ) → ResolvesEach takes x l a is js b m → ResolvesEach takes x m b ks ls c n
      → ((i : ℕ) → Contains is i → Contains fs i) → ((j : ℕ) → Contains js j → Contains gs j)
      → ((i : ℕ) → Contains ks i → Contains fs i × Contains a.irredundant i) → ((j : ℕ) → Contains ls j → Contains gs j × Contains a.irredundant j)
      → ((i j : ℕ) → Contains fs i → Contains gs j → (Contains is i × Contains js j) ⊎ (Contains ks i × Contains ls j))
      → ResolvesEach takes x l a fs gs c n
  joined l m n a b c is js ks ls fs gs r s inf ing inf2 ing2 split = record {
    steps = r.steps ++ s.steps;
    taken = takes_joined takes l m n r.steps s.steps r.taken s.taken;
    leads = leads_on a b c r.steps s.steps r.leads s.leads;
    sound = s.sound;
    written = λ cs f g. written_joined x cs a b r.steps s.steps r.leads (r.written cs (λ i k. f i (inf i k)) (λ j k. g j (ing j k)))
        (s.written cs (λ i k. let z = inf2 i k in subst (λ y. Contains cs y) (sym (r.kept i z.1).1) (f i z.0)) (λ j k. let z = ing2 j k in subst (λ y. Contains cs y) (sym (r.kept j z.1).1) (g j z.0)));
    recalled = λ i j p q. elim (split i j p q) [
      | inl y ↦ λ clean. stays_known b c (resolvent x (literals_at a.engine.clauses i) (literals_at a.engine.clauses j)) s.kept (r.recalled i j y.0 y.1 clean)
      | inr y ↦
          let e = (r.kept i (inf2 i y.0).1).1 in let f = (r.kept j (ing2 j y.1).1).1 in
          subst (λ z. IsRecalled x (irredundant_of c) z (literals_at a.engine.clauses j)) e (subst (λ z. IsRecalled x (irredundant_of c) (literals_at b.engine.clauses i) z) f (s.recalled i j y.0 y.1))
    ];
    kept = λ id k. let y = r.kept id k in let z = s.kept id y.0 in (z.0, z.1 ∙ y.1);
  }
