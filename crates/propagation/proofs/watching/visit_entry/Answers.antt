use Rattle.std.proofs.Common.{refl, sym, ap, ◌∙◌, inl}
use Rattle.session_rules.specs.Logic.{has}
use Rattle.clause_store.specs.Clauses.{lits_at}
use Rattle.propagation.specs.Engine.{literals, IsFree}
use Rattle.propagation.proofs.Advancing.{advances_put, new_step, put_true, moved_none}
use Rattle.propagation.proofs.Passing.{Looks, reads_active, looks_watch, looks_reserved, looks_here, looks_beside, lits_reserved, beside_unit, beside_false, beside_has}
use Rattle.propagation.proofs.watching.visit_entry.Goals as goal

pub lits-lits-requires : goal.lits-lits-requires
lits-lits-requires c = reads_active c.args.watches.now c.args.w c.args.i c.slot-slot.result c.list.result.now c.index-list-i.result (record { sound = c.requires.sound; within = c.requires.within; list_is = c.list.ensures.list; entry_is = c.index-list-i.is; slot_is = c.slot-slot.ensures })

pub other_watch-other-requires : goal.other_watch-other-requires
other_watch-other-requires c =
    let r : Looks c.args.watches.now c.args.w c.args.i c.slot-slot.result c.list.result.now c.index-list-i.result c.lits-lits.result.now = record { reads = record { sound = c.requires.sound; within = c.requires.within; list_is = c.list.ensures.list; entry_is = c.index-list-i.is; slot_is = c.slot-slot.ensures }; lits = c.lits-lits.ensures.list } in
    (looks_watch _ _ _ _ _ _ _ r).long

pub is_true-requires : goal.is_true-requires
is_true-requires c =
    let r : Looks c.args.watches.now c.args.w c.args.i c.slot-slot.result c.list.result.now c.index-list-i.result c.lits-lits.result.now = record { reads = record { sound = c.requires.sound; within = c.requires.within; list_is = c.list.ensures.list; entry_is = c.index-list-i.is; slot_is = c.slot-slot.ensures }; lits = c.lits-lits.ensures.list } in
    let at = looks_here _ _ _ _ _ _ _ r in
    let b = looks_beside _ _ _ _ _ _ _ r (literals c.args.trail.now.entries) c.other_watch-other.result c.other_watch-other.ensures c.requires.falsified at.0 at.1 in
    lits_reserved c.args.watches.now.clauses c.args.trail.now.entries c.args.trail.now.vars at.0 c.slot-slot.result c.other_watch-other.result b.store c.requires.engine b.slot (ap (λ z. has z c.other_watch-other.result) b.list ∙ beside_has _ _ _ _ _ _ _ _ b)

pub block-requires-clause-member : goal.block-requires-clause-member
block-requires-clause-member c = λ id at.
    let r : Looks c.args.watches.now c.args.w c.args.i c.slot-slot.result c.list.result.now c.index-list-i.result c.lits-lits.result.now = record { reads = record { sound = c.requires.sound; within = c.requires.within; list_is = c.list.ensures.list; entry_is = c.index-list-i.is; slot_is = c.slot-slot.ensures }; lits = c.lits-lits.ensures.list } in
    let b = looks_beside _ _ _ _ _ _ _ r (literals c.args.trail.now.entries) c.other_watch-other.result c.other_watch-other.ensures c.requires.falsified id at in
    ap (λ z. has z c.other_watch-other.result) b.list ∙ beside_has _ _ _ _ _ _ _ _ b

pub returns-then-is_true-clause-passed : goal.returns-then-is_true-clause-passed
returns-then-is_true-clause-passed c = λ id at.
    let r : Looks c.args.watches.now c.args.w c.args.i c.slot-slot.result c.list.result.now c.index-list-i.result c.lits-lits.result.now = record { reads = record { sound = c.requires.sound; within = c.requires.within; list_is = c.list.ensures.list; entry_is = c.index-list-i.is; slot_is = c.slot-slot.ensures }; lits = c.lits-lits.ensures.list } in
    let b = looks_beside _ _ _ _ _ _ _ r (literals c.args.trail.now.entries) c.other_watch-other.result c.other_watch-other.ensures c.requires.falsified id at in
    inl (
      c.other_watch-other.result,
      ap (λ z. has (lits_at z.clauses id) c.other_watch-other.result) c.block.ensures.blocked ∙ ap (λ z. has z c.other_watch-other.result) b.list ∙ beside_has _ _ _ _ _ _ _ _ b,
      sym c.is_true.ensures ∙ c.if-is_true.true,
    )

pub next_not_false-requires : goal.next_not_false-requires
next_not_false-requires c =
    let r : Looks c.args.watches.now c.args.w c.args.i c.slot-slot.result c.list.result.now c.index-list-i.result c.lits-lits.result.now = record { reads = record { sound = c.requires.sound; within = c.requires.within; list_is = c.list.ensures.list; entry_is = c.index-list-i.is; slot_is = c.slot-slot.ensures }; lits = c.lits-lits.ensures.list } in
    looks_reserved _ _ _ _ _ _ _ r c.args.trail.now.entries c.args.trail.now.vars c.requires.engine

pub is_false-requires : goal.is_false-requires
is_false-requires c =
    let r : Looks c.args.watches.now c.args.w c.args.i c.slot-slot.result c.list.result.now c.index-list-i.result c.lits-lits.result.now = record { reads = record { sound = c.requires.sound; within = c.requires.within; list_is = c.list.ensures.list; entry_is = c.index-list-i.is; slot_is = c.slot-slot.ensures }; lits = c.lits-lits.ensures.list } in
    let at = looks_here _ _ _ _ _ _ _ r in
    let b = looks_beside _ _ _ _ _ _ _ r (literals c.args.trail.now.entries) c.other_watch-other.result c.other_watch-other.ensures c.requires.falsified at.0 at.1 in
    lits_reserved c.args.watches.now.clauses c.args.trail.now.entries c.args.trail.now.vars at.0 c.slot-slot.result c.other_watch-other.result b.store c.requires.engine b.slot (ap (λ z. has z c.other_watch-other.result) b.list ∙ beside_has _ _ _ _ _ _ _ _ b)

pub returns-then-is_false-clause-found : goal.returns-then-is_false-clause-found
returns-then-is_false-clause-found c =
    let r : Looks c.args.watches.now c.args.w c.args.i c.slot-slot.result c.list.result.now c.index-list-i.result c.lits-lits.result.now = record { reads = record { sound = c.requires.sound; within = c.requires.within; list_is = c.list.ensures.list; entry_is = c.index-list-i.is; slot_is = c.slot-slot.ensures }; lits = c.lits-lits.ensures.list } in
    let at = looks_here _ _ _ _ _ _ _ r in
    let b = looks_beside _ _ _ _ _ _ _ r (literals c.args.trail.now.entries) c.other_watch-other.result c.other_watch-other.ensures c.requires.falsified at.0 at.1 in
    beside_false _ _ _ _ _ _ _ _ b c.in_default.ensures (sym c.is_false.ensures ∙ c.if-is_false.true)

pub put-requires : goal.put-requires
put-requires c =
    let r : Looks c.args.watches.now c.args.w c.args.i c.slot-slot.result c.list.result.now c.index-list-i.result c.lits-lits.result.now = record { reads = record { sound = c.requires.sound; within = c.requires.within; list_is = c.list.ensures.list; entry_is = c.index-list-i.is; slot_is = c.slot-slot.ensures }; lits = c.lits-lits.ensures.list } in
    let at = looks_here _ _ _ _ _ _ _ r in
    let b = looks_beside _ _ _ _ _ _ _ r (literals c.args.trail.now.entries) c.other_watch-other.result c.other_watch-other.ensures c.requires.falsified at.0 at.1 in
    let free : IsFree (literals c.args.trail.now.entries) c.other_watch-other.result = (sym c.is_true.ensures ∙ c.if-is_true.false, sym c.is_false.ensures ∙ c.if-is_false.false) in
    let entry = new_step c.args.watches.now c.args.trail.now c.other_watch-other.result c.slot-slot.result c.requires.engine (beside_unit _ _ _ _ _ _ _ _ b c.in_default.ensures) free in
    record { reserved = entry.reserved; free = entry.free }

pub returns-clause-entries : goal.returns-clause-entries
returns-clause-entries c =
    let r : Looks c.args.watches.now c.args.w c.args.i c.slot-slot.result c.list.result.now c.index-list-i.result c.lits-lits.result.now = record { reads = record { sound = c.requires.sound; within = c.requires.within; list_is = c.list.ensures.list; entry_is = c.index-list-i.is; slot_is = c.slot-slot.ensures }; lits = c.lits-lits.ensures.list } in
    let at = looks_here _ _ _ _ _ _ _ r in
    let b = looks_beside _ _ _ _ _ _ _ r (literals c.args.trail.now.entries) c.other_watch-other.result c.other_watch-other.ensures c.requires.falsified at.0 at.1 in
    let free : IsFree (literals c.args.trail.now.entries) c.other_watch-other.result = (sym c.is_true.ensures ∙ c.if-is_true.false, sym c.is_false.ensures ∙ c.if-is_false.false) in
    advances_put c.args.watches.now c.args.watches.now c.args.trail.now c.put.new.self c.other_watch-other.result c.slot-slot.result c.requires.engine (moved_none _ c.args.watches.now.clauses) refl (beside_unit _ _ _ _ _ _ _ _ b c.in_default.ensures) free c.put.ensures

pub returns-clause-passed : goal.returns-clause-passed
returns-clause-passed c = λ id at.
    let r : Looks c.args.watches.now c.args.w c.args.i c.slot-slot.result c.list.result.now c.index-list-i.result c.lits-lits.result.now = record { reads = record { sound = c.requires.sound; within = c.requires.within; list_is = c.list.ensures.list; entry_is = c.index-list-i.is; slot_is = c.slot-slot.ensures }; lits = c.lits-lits.ensures.list } in
    let b = looks_beside _ _ _ _ _ _ _ r (literals c.args.trail.now.entries) c.other_watch-other.result c.other_watch-other.ensures c.requires.falsified id at in
    inl (put_true c.args.trail.now c.put.new.self (lits_at c.args.watches.now.clauses id) c.other_watch-other.result c.slot-slot.result c.put.ensures (ap (λ z. has z c.other_watch-other.result) b.list ∙ beside_has _ _ _ _ _ _ _ _ b))
