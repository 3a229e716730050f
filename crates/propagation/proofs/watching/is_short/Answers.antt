use Rattle.std.proofs.Common.{◌≡◌, [], Option, Some, None, refl, sym, ap, ◌∙◌, length}
use Rattle.std.specs.Prelude.{nat_lt, option_map, unwrap_or}
use Rattle.std.proofs.lemmas.Option.{none-some}
use Rattle.clause_store.specs.Clauses.{Place, lits_at, place_at}
use Rattle.propagation.proofs.watching.is_short.Goals as goal

no_list : (o : Option Place) → option_map (λ p. p.slot) o ≡ None → unwrap_or (option_map (λ p. p.lits) o) [] ≡ []
no_list None e = refl
no_list (Some p) e = absurd (none-some p.slot (sym e))

pub returns-in-None : goal.returns-in-None
returns-in-None c = let e : lits_at c.args.watches.now.clauses c.args.id ≡ [] = no_list (place_at c.args.watches.now.clauses c.args.id) (sym c.find.ensures.slot ∙ c.in-None.is) in
    sym (ap (λ ls. nat_lt (length ls) 2) e)
