-- Steps that are told after others.
use Rattle.std.proofs.Common.{◌≡◌, ℕ, ◌+◌, List, [], ◌∷◌, ◌++◌, Option, refl, sym, ap, ◌∙◌, subst}
use Rattle.std.proofs.Math.Path.{fun_ext}
use Rattle.session_rules.specs.declared.Told.{Told}
use Rattle.session_rules.specs.declared.Told.TheVariants as told
use Rattle.elimination.specs.Boards.{BoardView}
use Rattle.elimination.specs.Steps.{TakesEach, Standing, standing, after_step, after_steps, AreDue, NumbersLemmas}
use Rattle.elimination.specs.Calls.{AreTold}

pub none_told : (b : BoardView) → AreTold b [] b
none_told b = record { due = tt; replayed = λ id. refl; numbered = refl; inputs = refl; vars = refl }

pub after-append : (f : ℕ → Option Standing) (ts us : List Told) → after_steps f (ts ++ us) ≡ after_steps (after_steps f ts) us
after-append f [] us = refl
after-append f (t ∷ ts) us = after-append (after_step f t) ts us

pub due-append : (f : ℕ → Option Standing) (ts us : List Told) → AreDue f ts → AreDue (after_steps f ts) us → AreDue f (ts ++ us)
due-append f [] us h k = k
due-append f (t ∷ ts) us h k = (h.0, due-append (after_step f t) ts us h.1 k)

pub numbers-append : (n m k : ℕ) (ts us : List Told) → NumbersLemmas n ts m → NumbersLemmas m us k → NumbersLemmas n (ts ++ us) k
numbers-append n m k [] us h g = subst (λ z. NumbersLemmas z us k) (sym h) g
numbers-append n m k (told.Lemma id ls hints ∷ ts) us h g = (h.0, numbers-append (n + 1) m k ts us h.1 g)
numbers-append n m k (told.Delete id ls ∷ ts) us h g = numbers-append n m k ts us h g
numbers-append n m k (told.Weaken id ls ∷ ts) us h g = numbers-append n m k ts us h g
numbers-append n m k (told.Restore id ls ∷ ts) us h g = numbers-append n m k ts us h g

pub joined : (a b c : BoardView) (ts us : List Told) → AreTold a ts b → AreTold b us c → AreTold a (ts ++ us) c
joined a b c ts us h k =
    let same : standing b.engine.clauses ≡ after_steps (standing a.engine.clauses) ts = fun_ext h.replayed in
    record {
      due = due-append (standing a.engine.clauses) ts us h.due (subst (λ f. AreDue f us) same k.due);
      replayed = λ id. k.replayed id ∙ ap (λ f. after_steps f us id) same ∙ ap (λ f. f id) (sym (after-append (standing a.engine.clauses) ts us));
      numbered = numbers-append a.next_id b.next_id c.next_id ts us h.numbered k.numbered;
      inputs = k.inputs ∙ h.inputs;
      vars = k.vars ∙ h.vars;
    }

pub takes_joined : {L : Type 0} (takes : L → Told → L → Type 0) (a b c : L) (ts us : List Told) → TakesEach takes a ts b → TakesEach takes b us c → TakesEach takes a (ts ++ us) c
takes_joined takes a b c [] us h k = subst (λ z. TakesEach takes z us c) (sym h) k
takes_joined takes a b c (t ∷ ts) us h k = (h.0, h.1, takes_joined takes h.0 b c ts us h.2 k)
