use Rattle.std.proofs.Common.{sym, subst, ap, ◌∙◌, true}
use Rattle.std.specs.Prelude.{is_some}
use Rattle.std.specs.FinMap.{remove}
use Rattle.clause_store.specs.Clauses.{is_active}
use Rattle.clause_store.specs.Rows.{store_of, IsStoreInside, row, noted}
use Rattle.clause_store.proofs.Stored.{slot_at-row, found, Found, Cuts, store-cut, inside-cut, inside-framed, within_noted}
use Rattle.clause_store.proofs.Store.delete.Goals as goal

pub returns-in_default-clause-inactive : goal.returns-in_default-clause-inactive
returns-in_default-clause-inactive c = ap (λ m. is_active m c.args.id) (sym c.self.view_is) ∙ ap is_some (slot_at-row c.self.inside.pool c.self.inside.rows.clauses c.args.id ∙ sym c.active_slot.ensures ∙ c.in_default.is)

pub key_at-key-requires : goal.key_at-key-requires
key_at-key-requires c = within_noted true c.self.inside.pool c.self.inside.rows.clauses c.self.inside.noted.items c.args.id c.in-Some.slot c.self.invariant.rows (sym c.active_slot.ensures ∙ c.in-Some.is)

pub invariant_of-self : goal.invariant_of-self
invariant_of-self c =
    let f : Found true (row c.self.inside.rows.clauses c.args.id) c.in-Some.slot = found true _ _ (sym c.active_slot.ensures ∙ c.in-Some.is) in
    let h : Cuts c.self.inside.rows.indexed c.self.inside.pool c.self.inside.rows.clauses c.leave.new.self.clauses c.self.inside.rows.active c.leave.new.self.active c.self.inside.rows.weakened c.self.inside.noted.items c.args.id c.key_at-key.result f.k =
    record { inside = c.self.invariant; here = f.is; on = f.on; keyed = λ t. ap (λ z. (noted c.self.inside.noted.items z).key) f.slot ∙ c.key_at-key.ensures t; rows = c.leave.ensures.rows; pairs = c.leave.ensures.pairs } in
    inside-framed _ _ _ _ _ _ _ _ c.leave.ensures.indexed c.leave.ensures.weakened (subst (λ z. IsStoreInside c.self.inside.rows.indexed z c.leave.new.self.clauses c.leave.new.self.active c.self.inside.rows.weakened c.self.inside.noted.items) (ap (remove c.self.inside.pool) f.slot ∙ sym c.free.ensures) (inside-cut _ _ _ _ _ _ _ _ _ _ h))

pub returns-clause-ok : goal.returns-clause-ok
returns-clause-ok c =
    let f : Found true (row c.self.inside.rows.clauses c.args.id) c.in-Some.slot = found true _ _ (sym c.active_slot.ensures ∙ c.in-Some.is) in
    let h : Cuts c.self.inside.rows.indexed c.self.inside.pool c.self.inside.rows.clauses c.leave.new.self.clauses c.self.inside.rows.active c.leave.new.self.active c.self.inside.rows.weakened c.self.inside.noted.items c.args.id c.key_at-key.result f.k =
    record { inside = c.self.invariant; here = f.is; on = f.on; keyed = λ t. ap (λ z. (noted c.self.inside.noted.items z).key) f.slot ∙ c.key_at-key.ensures t; rows = c.leave.ensures.rows; pairs = c.leave.ensures.pairs } in
    ap (λ z. store_of z c.leave.new.self.clauses) (c.free.ensures ∙ ap (remove c.self.inside.pool) (sym f.slot)) ∙ store-cut _ _ _ _ _ _ _ _ _ _ h ∙ ap (λ m. remove m c.args.id) c.self.view_is

pub returns-clause-active : goal.returns-clause-active
returns-clause-active c = ap (λ m. is_active m c.args.id) (sym c.self.view_is) ∙ ap is_some (slot_at-row c.self.inside.pool c.self.inside.rows.clauses c.args.id ∙ sym c.active_slot.ensures ∙ c.in-Some.is)
