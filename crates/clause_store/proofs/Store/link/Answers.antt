use Rattle.std.proofs.Common.{sym, ap, ◌∙◌}
use Rattle.clause_store.specs.Clauses.{link_at, slot_at}
use Rattle.clause_store.proofs.Stored.{live_at}
use Rattle.clause_store.proofs.Changed.{link_at-row}
use Rattle.clause_store.proofs.Store.link.Goals as goal

pub link-requires : goal.link-requires
link-requires c = record { live = live_at c.self.inside.pool c.self.inside.rows.clauses _ c.args.self.now c.requires.0 c.args.s c.self.view_is c.self.invariant.rows c.requires.1 }

pub returns : goal.returns
returns c = λ id e. c.link.ensures ∙ sym (link_at-row c.self.inside.pool c.self.inside.rows.clauses id c.args.s c.args.which (ap (λ m. slot_at m id) c.self.view_is ∙ e)) ∙ ap (λ m. link_at m id c.args.which) c.self.view_is
