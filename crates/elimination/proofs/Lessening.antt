-- Irredundant clauses that are weakened one after another: what is told of one more, and what stays of the others.
use Rattle.std.proofs.Common.{◌≡◌, ◌≢◌, ℕ, ◌⊎◌, true, false, nat_eq, List, [], ◌∷◌, ◌++◌, map, Contains, Option, Some, refl, sym, ap, ◌∙◌, subst, inl, inr, eq-eqb}
use Rattle.std.specs.List.{IsDistinct}
use Rattle.std.proofs.lemmas.Bool.{both_ways, ne_eqb}
use Rattle.std.proofs.lemmas.List.{map-append}
use Rattle.lits.specs.Clause.{has}
use Rattle.lits.proofs.Members.{here, here_or_there, not_in_nil, has_from}
use Rattle.session_rules.specs.declared.Told.{Told}
use Rattle.session_rules.specs.declared.Told.TheVariants as told
use Rattle.session_rules.specs.declared.LogFault.{LogFault}
use Rattle.clause_store.specs.Clauses.{IsOnce}
use Rattle.propagation.specs.Clauses.{active_at, literals_at}
use Rattle.propagation.specs.Engine.{IsEngine, IsNoReason, literals}
use Rattle.restore.specs.declared.lists.Kept.{Kept}
use Rattle.restore.specs.Resolution.{has_variable}
use Rattle.restore.proofs.Joined.{append_at, append_left, append_right, map_from}
use Rattle.elimination.specs.declared.database.Database.{Database}
use Rattle.elimination.specs.declared.fault.BoardFault.{BoardFault}
use Rattle.elimination.specs.declared.fault.BoardFault.TheVariants as faults
use Rattle.elimination.specs.Inside.{IsInserted}
use Rattle.elimination.specs.Steps.{TakesEach, Standing, standing, after_step, after_steps}
use Rattle.elimination.specs.Databases.{IsDatabase, LeadTo, BreaksOff, HasWeakened}
use Rattle.elimination.specs.Restoring.{ids_of}
use Rattle.elimination.specs.Weakening.{weakening, weakenings, WeakensEach}
use Rattle.elimination.proofs.Joining.{takes_joined}
use Rattle.elimination.proofs.Seen.{literals-active}
use Rattle.elimination.proofs.Standings.{same_literals}
use Rattle.elimination.proofs.Changing.{member_old, member_at, inserted_other}
use Rattle.elimination.proofs.Leading.{none_lead, leads_on, broken_behind, untold}
use Rattle.elimination.proofs.Unforced.{unforced}

-- ---- A list without repeats

once_apart : (xs : List ℕ) (y : ℕ) (zs : List ℕ) → IsOnce (xs ++ y ∷ zs) → Contains xs y → ⊥
once_apart [] y zs o m = not_in_nil y m
once_apart (x ∷ xs) y zs o m = elim (here_or_there x y xs m) [
  | inl e ↦ both_ways _ o.0 (has_from (xs ++ y ∷ zs) x (subst (λ z. Contains (xs ++ y ∷ zs) z) (sym e) (append_right xs (y ∷ zs) y (here y zs))))
  | inr n ↦ once_apart xs y zs o.1 n
]

pub next_apart : (ids before : List ℕ) (id : ℕ) (after : List ℕ) → IsOnce ids → ids ≡ before ++ id ∷ after → Contains before id → ⊥
next_apart ids before id after o e = once_apart before id after (subst (λ z. IsOnce z) e o)

-- what weakenings make of other clauses
other_step : (f : ℕ → Option Standing) (k : Kept) (id : ℕ) → id ≢ k.id → after_step f (weakening k) id ≡ f id
other_step f k id ne = let t = ne_eqb id k.id ne in rw t refl

weakened_other : (f : ℕ → Option Standing) (ks : List Kept) (id : ℕ) → (Contains (ids_of ks) id → ⊥) → after_steps f (weakenings ks) id ≡ f id
weakened_other f [] id h = refl
weakened_other f (k ∷ ks) id h =
    weakened_other (after_step f (weakening k)) ks id (λ m. h (append_right (k.id ∷ []) (ids_of ks) id m))
    ∙ other_step f k id (λ e. h (subst (λ z. Contains (ids_of (k ∷ ks)) z) (sym e) (here k.id (ids_of ks))))

module _ {L : Type 0} (takes : L → Told → L → Type 0) where
  pub none_weakened : (l : L) (d : Database) → IsDatabase d → WeakensEach takes l d [] [] d l
  none_weakened l d h = record { taken = refl; leads = none_lead d; sound = h; named = refl; left = λ id m. (m, λ n. not_in_nil id n); stays = λ id m n. m }

  module _ (l m : L) (a b : Database) (ids : List ℕ) (ks : List Kept) (r : WeakensEach takes l a ids ks b m) where
    -- a clause that isn't weakened stands as before
    pub weakened_stands : (id : ℕ) → (Contains ids id → ⊥) → standing b.engine.clauses id ≡ standing a.engine.clauses id
    weakened_stands id n = r.leads.replayed id ∙ weakened_other (standing a.engine.clauses) ks id (λ c. n (subst (λ z. Contains z id) r.named c))

    -- and is no literal's reason, where it has a variable that isn't assigned
    pub unreasoned : (x id : ℕ) → IsEngine b.engine → Contains b.irredundant id → has_variable x (literals_at a.engine.clauses id) ≡ true → has_variable x (literals a.engine.trail) ≡ false → IsNoReason b.engine id
    unreasoned x id en c v free =
        let k = r.sound.irredundant.active id c in
        let is : literals_at a.engine.clauses id ≡ k.0 = sym (same_literals a.engine.clauses b.engine.clauses id (weakened_stands id (r.left id c).1)) ∙ literals-active b.engine.clauses id k.0 k.1 in
        unforced b.engine id x k.0 en k.1 (ap (has_variable x) (sym is) ∙ v) (ap (λ z. has_variable x (literals z)) r.leads.trail ∙ free)

    pub broken_weakening : (refuses : L → Told → LogFault → L → Type 0) (n : L) (e : BoardFault) → BreaksOff takes refuses (standing b.engine.clauses) m e n → BreaksOff takes refuses (standing a.engine.clauses) l e n
    broken_weakening refuses n e k = broken_behind takes refuses a b (weakenings ks) l m n e r.leads r.taken k

    -- one more clause
    module _ (n : L) (c : Database) (id : ℕ) (k : Kept) (h : HasWeakened takes m b id c n k) (there : Contains a.irredundant id) (fresh : Contains ids id → ⊥) (more : List ℕ) (all : more ≡ ids ++ id ∷ []) (js : List Kept) (kept : js ≡ ks ++ k ∷ []) where
      told_more : weakenings js ≡ weakenings ks ++ told.Weaken id k.lits ∷ []
      told_more = ap weakenings kept ∙ map-append weakening ks (k ∷ []) ∙ ap (λ (z : ℕ). weakenings ks ++ told.Weaken z k.lits ∷ []) h.named

      pub weakened_more : WeakensEach takes l a more js c n
      weakened_more = record {
        taken = subst (λ ts. TakesEach takes l ts n) (sym told_more) (takes_joined takes l m n (weakenings ks) (told.Weaken id k.lits ∷ []) r.taken (n, h.taken, refl));
        leads = subst (λ ts. LeadTo a ts c) (sym told_more) (leads_on a b c (weakenings ks) (told.Weaken id k.lits ∷ []) r.leads h.leads);
        sound = h.sound;
        named = ap ids_of kept ∙ map-append (λ (k : Kept). k.id) ks (k ∷ []) ∙ ap (λ z. z ++ k.id ∷ []) r.named ∙ ap (λ (z : ℕ). ids ++ z ∷ []) h.named ∙ sym all;
        left = λ j u.
            let v = r.left j (member_old c.irredundant b.irredundant id h.taken_out j u) in (
              v.0,
              λ w. elim (append_at ids (id ∷ []) j (subst (λ z. Contains z j) all w)) [
                | inl q ↦ v.1 q
                | inr q ↦ elim (here_or_there id j [] q) [
                  | inl e ↦ inserted_other c.irredundant b.irredundant id h.taken_out r.sound.irredundant.once j u (sym e)
                  | inr o ↦ not_in_nil j o
                ]
              ],
            );
        stays = λ j u w.
            let v = r.stays j u (λ q. w (subst (λ z. Contains z j) (sym all) (append_left ids (id ∷ []) j q))) in
            elim (member_at c.irredundant b.irredundant id h.taken_out j v) [
              | inl e ↦ absurd (w (subst (λ z. Contains z j) (sym all) (append_right ids (id ∷ []) j (subst (λ z. Contains (id ∷ []) z) (sym e) (here id [])))))
              | inr q ↦ q
            ];
      }
