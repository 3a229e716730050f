-- Steps that lead from clauses to others, one row after another, and what is told where a call breaks off behind them.
use Rattle.std.proofs.Common.{◌≡◌, ℕ, ◌+◌, Bool, List, [], ◌∷◌, ◌++◌, filter_map, Option, refl, sym, ap, ◌∙◌, subst, arith}
use Rattle.std.proofs.Math.Path.{fun_ext}
use Rattle.std.proofs.lemmas.List.{map-append}
use Rattle.std.proofs.lemmas.List.Elements.{filter_map-append}
use Rattle.session_rules.specs.Logic.{same_set}
use Rattle.session_rules.specs.Own.{added_clause, weakened_clause}
use Rattle.session_rules.specs.declared.Step.{Step}
use Rattle.session_rules.specs.declared.Told.{Told}
use Rattle.session_rules.specs.declared.LogFault.{LogFault}
use Rattle.session_rules.specs.Telling.{step_of}
use Rattle.elimination_laws.specs.Eligible.{how_many}
use Rattle.elimination_laws.proofs.Running.{how_many-append}
use Rattle.elimination.specs.declared.database.Database.{Database}
use Rattle.elimination.specs.declared.fault.BoardFault.{BoardFault}
use Rattle.elimination.specs.declared.fault.BoardFault.TheVariants as faults
use Rattle.elimination.specs.Steps.{TakesEach, Standing, steps_of, standing, after_step, after_steps, IsDue, AreDue, NumbersLemmas}
use Rattle.elimination.specs.Databases.{LeadTo, IsCause, BreaksOff, irredundant_of}
use Rattle.elimination.proofs.Joining.{after-append, due-append, numbers-append, takes_joined}

pub none_lead : (d : Database) → LeadTo d [] d
none_lead d = record { due = tt; replayed = λ id. refl; numbered = refl; trail = refl; vars = refl; counted = λ c. refl }

-- what steps give is what the first and the later ones give
given_append : (given : Step → Option (List ℕ)) (p : List ℕ → Bool) (ts us : List Told) → how_many p (filter_map given (steps_of (ts ++ us)))
    ≡ how_many p (filter_map given (steps_of ts)) + how_many p (filter_map given (steps_of us))
given_append given p ts us = ap (λ z. how_many p (filter_map given z)) (map-append step_of ts us) ∙ ap (how_many p) (filter_map-append given (steps_of ts) (steps_of us))
    ∙ how_many-append p (filter_map given (steps_of ts)) (filter_map given (steps_of us))

pub leads_on : (a b c : Database) (ts us : List Told) → LeadTo a ts b → LeadTo b us c → LeadTo a (ts ++ us) c
leads_on a b c ts us h k =
    let same : standing b.engine.clauses ≡ after_steps (standing a.engine.clauses) ts = fun_ext h.replayed in
    record {
      due = due-append (standing a.engine.clauses) ts us h.due (subst (λ f. AreDue f us) same k.due);
      replayed = λ id. k.replayed id ∙ ap (λ f. after_steps f us id) same ∙ ap (λ f. f id) (sym (after-append (standing a.engine.clauses) ts us));
      numbered = numbers-append a.next_id b.next_id c.next_id ts us h.numbered k.numbered;
      trail = k.trail ∙ h.trail;
      vars = k.vars ∙ h.vars;
      counted = λ s.
          let w = given_append weakened_clause (same_set s) ts us in
          let g = given_append added_clause (same_set s) ts us in
          let p = h.counted s in
          let q = k.counted s in
          omega (arith, w, g, p, q);
    }

-- ---- Where a call breaks off

module _ {L : Type 0} (takes : L → Told → L → Type 0) (refuses : L → Told → LogFault → L → Type 0) where
  -- memory was wanting before anything was told
  pub untold : (f : ℕ → Option Standing) (l : L) → BreaksOff takes refuses f l faults.Memory l
  untold f l = record { steps = []; between = l; taken = refl; due = tt; cause = refl }

  -- a step was told, and memory was wanting behind it
  pub told_at : (f : ℕ → Option Standing) (l m : L) (t : Told) → IsDue f t → takes l t m → BreaksOff takes refuses f l faults.Memory m
  told_at f l m t d k = record { steps = t ∷ []; between = m; taken = (m, k, refl); due = (d, tt); cause = refl }

  -- the log refused a step
  pub refused_at : (f : ℕ → Option Standing) (l m : L) (t : Told) (fault : LogFault) → IsDue f t → refuses l t fault m → BreaksOff takes refuses f l (faults.Log fault) m
  refused_at f l m t fault d r = record { steps = []; between = l; taken = refl; due = tt; cause = (t, d, r) }

  -- a call breaks off behind steps that lead to its clauses
  pub broken_behind : (a b : Database) (ts : List Told) (l m n : L) (e : BoardFault) → LeadTo a ts b → TakesEach takes l ts m
      → BreaksOff takes refuses (standing b.engine.clauses) m e n → BreaksOff takes refuses (standing a.engine.clauses) l e n
  broken_behind a b ts l m n e h k r =
      let same : standing b.engine.clauses ≡ after_steps (standing a.engine.clauses) ts = fun_ext h.replayed in
      let both : after_steps (standing b.engine.clauses) r.steps ≡ after_steps (standing a.engine.clauses) (ts ++ r.steps) = ap (λ f. after_steps f r.steps) same ∙ sym (after-append (standing a.engine.clauses) ts r.steps) in
      record {
        steps = ts ++ r.steps;
        between = r.between;
        taken = takes_joined takes l m r.between ts r.steps k r.taken;
        due = due-append (standing a.engine.clauses) ts r.steps h.due (subst (λ f. AreDue f r.steps) same r.due);
        cause = subst (λ (f : ℕ → Option Standing). IsCause refuses f r.between e n) both r.cause;
      }
