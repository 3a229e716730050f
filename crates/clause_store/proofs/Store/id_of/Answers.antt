use Rattle.std.proofs.Common.{◌≡◌, ◌<◌, sym, subst, ap, ◌∙◌, arith, length}
use Rattle.std.proofs.lemmas.List.{get_or_default}
use Rattle.clause_store.specs.Clauses.{slot_at}
use Rattle.clause_store.specs.Rows.{IsListed, noted}
use Rattle.clause_store.proofs.Stored.{listed_at}
use Rattle.clause_store.proofs.Store.id_of.Goals as goal

pub index-requires : goal.index-requires
index-requires c =
    let r : IsListed c.self.inside.noted.items c.args.s c.requires.0 = listed_at c.self.inside.pool c.self.inside.rows.clauses c.self.inside.noted.items c.args.self.now c.requires.0 c.args.s c.self.view_is c.self.invariant.rows c.requires.1 in
    omega (arith, r.0, c.number.ensures, c.self.inside.noted.ok.0)

pub returns : goal.returns
returns c =
    let r : IsListed c.self.inside.noted.items c.args.s c.requires.0 = listed_at c.self.inside.pool c.self.inside.rows.clauses c.self.inside.noted.items c.args.self.now c.requires.0 c.args.s c.self.view_is c.self.invariant.rows c.requires.1 in
    let same : c.index.result.now.id ≡ c.requires.0 = ap (λ z. z.id) (c.index.ensures ∙ get_or_default c.self.inside.noted.items c.number.result c.index.result.now (record { id = 0; key = 0 }) (subst (λ n. n < length c.self.inside.noted.items) (sym c.number.ensures) r.0)) ∙ ap (λ n. (noted c.self.inside.noted.items n).id) c.number.ensures ∙ r.1 in
    ap (slot_at c.args.self.now) same ∙ c.requires.1
