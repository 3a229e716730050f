use Rattle.std.proofs.Common.{◌<◌, length, None, sym, subst, arith}
use Rattle.std.proofs.lemmas.Option.{none-some}
use Rattle.propagation.specs.declared.TrailEntry.{TrailEntry}
use Rattle.propagation.specs.Engine.{EngineView, IsEntry}
use Rattle.propagation.specs.Watching.{engine_of}
use Rattle.propagation.proofs.Trail.{room}
use Rattle.propagation.proofs.Changes.{level_after-le}
use Rattle.propagation.proofs.Insides.{inside_assumed}
use Rattle.propagation.proofs.Engine.assume.Goals as goal

pub push_reserved-requires : goal.push_reserved-requires
push_reserved-requires c =
    let o = c.self.inside in
    let s : TrailEntry = record { lit = c.args.l; reason = None } in
    let e : EngineView = engine_of o.watches.clauses o.trail.entries o.trail.vars in
    let step0 : IsEntry c.args.self.now.clauses c.args.self.now.vars c.args.self.now.trail s = record { reserved = c.requires.reserved; free = c.requires.free; reason = λ r is. absurd (none-some r is) } in
    let entry : IsEntry e.clauses e.vars e.trail s = subst (λ z. IsEntry z.clauses z.vars z.trail s) (sym c.self.view_is) step0 in
    let lt : length o.trail.entries < o.trail.vars = room e s c.self.invariant.sound entry in
    omega (arith, level_after-le o.trail.entries, lt, c.self.invariant.counted, c.self.invariant.levels_fit, o.levels.ok.0)

pub invariant_of-self : goal.invariant_of-self
invariant_of-self c =
    let o = c.self.inside in
    let s : TrailEntry = record { lit = c.args.l; reason = None } in
    let e : EngineView = engine_of o.watches.clauses o.trail.entries o.trail.vars in
    let step0 : IsEntry c.args.self.now.clauses c.args.self.now.vars c.args.self.now.trail s = record { reserved = c.requires.reserved; free = c.requires.free; reason = λ r is. absurd (none-some r is) } in
    let entry : IsEntry e.clauses e.vars e.trail s = subst (λ z. IsEntry z.clauses z.vars z.trail s) (sym c.self.view_is) step0 in
    inside_assumed o.watches o.trail c.put.new.self o.head o.pending.items o.pending_head o.levels.items c.push_reserved.new.self.items _ _ c.args.l c.self.invariant c.put.ensures entry c.push_reserved.ensures.items (omega (arith, c.push_reserved.ensures.capacity))
