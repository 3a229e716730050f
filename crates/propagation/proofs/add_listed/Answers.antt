use Rattle.std.proofs.Common.{◌≡◌, false, sym, ◌∙◌, refl}
use Rattle.std.specs.Prelude.{is_ok}
use Rattle.clause_store.specs.Clauses.{new_clause}
use Rattle.propagation.proofs.Changes.{taken_back}
use Rattle.propagation.proofs.add_listed.Goals as goal

pub returns-else-is_ok-clause-err : goal.returns-else-is_ok-clause-err
returns-else-is_ok-clause-err c =
    let okay : is_ok c.push.result ≡ false = sym c.is_ok.ensures.value ∙ c.if-is_ok.false in
    let kept : c.push.new.self.items ≡ c.args.ids.now.items = rw okay at c.push.ensures.items in (
      taken_back c.args.watches.now.clauses c.add.new.self.clauses c.delete.new.self.clauses c.args.id (new_clause c.args.lits.now c.in-Ok.slot) c.in-Ok.slot c.delete.result c.in-Ok.ensures.free c.in-Ok.ensures.ok refl
          c.delete.ensures.ok c.delete.ensures.inactive,
      kept,
    )
