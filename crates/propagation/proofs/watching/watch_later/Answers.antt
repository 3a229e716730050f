use Rattle.std.proofs.Common.{◌≡◌, ◌<◌, ◌≤◌, length, true, rules, sym, subst, ap, ◌∙◌, inl, inr}
use Rattle.std.proofs.lemmas.List.{get_or_default}
use Rattle.lits.specs.Literal.{var}
use Rattle.session_rules.specs.Logic.{has}
use Rattle.clause_store.specs.Clauses.{lits_at}
use Rattle.watch_lists.specs.Watched.{watch_at, watch_place}
use Rattle.watch_lists.proofs.Members.{has-place}
use Rattle.watch_lists.proofs.FirstTwo.{watch_place-low}
use Rattle.propagation.specs.Engine.{literals}
use Rattle.propagation.proofs.Reordering.{brought_later}
use Rattle.propagation.proofs.Passing.{Looks, Rewatches, reads_active, looks_lits, looks_reserved, looks_here, moved_same, rewatched, rewatched_moved}
use Rattle.propagation.proofs.watching.watch_later.Goals as goal

pub lits-requires : goal.lits-requires
lits-requires c = reads_active c.args.watches.now c.args.w c.args.i c.slot-slot.result c.list.result.now c.index-list-i.result (record { sound = c.requires.sound; within = c.requires.within; list_is = c.list.ensures.list; entry_is = c.index-list-i.is; slot_is = c.slot-slot.ensures })

pub bounds-lits-k : goal.bounds-lits-k
bounds-lits-k c =
    let r : Looks c.args.watches.now c.args.w c.args.i c.slot-slot.result c.list.result.now c.index-list-i.result c.lits.result.now = record { reads = record { sound = c.requires.sound; within = c.requires.within; list_is = c.list.ensures.list; entry_is = c.index-list-i.is; slot_is = c.slot-slot.ensures }; lits = c.lits.ensures.list } in
    let at = looks_here _ _ _ _ _ _ _ r in
    subst (λ z. c.args.k < length z) (looks_lits _ _ _ _ _ _ _ r at.0 at.1) (c.requires.in_bounds at.0 at.1)

pub offset_bounds-lits-k : goal.offset_bounds-lits-k
offset_bounds-lits-k c =
    let r : Looks c.args.watches.now c.args.w c.args.i c.slot-slot.result c.list.result.now c.index-list-i.result c.lits.result.now = record { reads = record { sound = c.requires.sound; within = c.requires.within; list_is = c.list.ensures.list; entry_is = c.index-list-i.is; slot_is = c.slot-slot.ensures }; lits = c.lits.ensures.list } in
    let at = looks_here _ _ _ _ _ _ _ r in
    let lt : c.args.k < length c.lits.result.now = subst (λ z. c.args.k < length z) (looks_lits _ _ _ _ _ _ _ r at.0 at.1) (c.requires.in_bounds at.0 at.1) in
    search rules

pub is_true-requires : goal.is_true-requires
is_true-requires c =
    let r : Looks c.args.watches.now c.args.w c.args.i c.slot-slot.result c.list.result.now c.index-list-i.result c.lits.result.now = record { reads = record { sound = c.requires.sound; within = c.requires.within; list_is = c.list.ensures.list; entry_is = c.index-list-i.is; slot_is = c.slot-slot.ensures }; lits = c.lits.ensures.list } in
    let at = looks_here _ _ _ _ _ _ _ r in
    let lt : c.args.k < length c.lits.result.now = subst (λ z. c.args.k < length z) (looks_lits _ _ _ _ _ _ _ r at.0 at.1) (c.requires.in_bounds at.0 at.1) in
    subst (λ z. var z ≤ c.args.trail.now.vars) (sym (c.index-lits-k.is ∙ get_or_default _ _ c.index-lits-k.result 0 lt)) (looks_reserved _ _ _ _ _ _ _ r c.args.trail.now.entries c.args.trail.now.vars c.requires.engine c.args.k lt)

pub block-requires-clause-member : goal.block-requires-clause-member
block-requires-clause-member c = λ id at.
    let r : Looks c.args.watches.now c.args.w c.args.i c.slot-slot.result c.list.result.now c.index-list-i.result c.lits.result.now = record { reads = record { sound = c.requires.sound; within = c.requires.within; list_is = c.list.ensures.list; entry_is = c.index-list-i.is; slot_is = c.slot-slot.ensures }; lits = c.lits.ensures.list } in
    let list = looks_lits _ _ _ _ _ _ _ r id at in
    let lt : c.args.k < length c.lits.result.now = subst (λ z. c.args.k < length z) list (c.requires.in_bounds id at) in
    subst (λ z. has z c.index-lits-k.result ≡ true) (sym list) (subst (λ z. has c.lits.result.now z ≡ true) (sym (c.index-lits-k.is ∙ get_or_default _ _ c.index-lits-k.result 0 lt)) (has-place c.lits.result.now c.args.k lt))

pub returns-then-is_true-clause-moved : goal.returns-then-is_true-clause-moved
returns-then-is_true-clause-moved c = moved_same _ c.args.watches.now.clauses c.block.new.self.clauses (ap (λ z. z.clauses) c.block.ensures.blocked)

pub returns-then-is_true-clause-passed : goal.returns-then-is_true-clause-passed
returns-then-is_true-clause-passed c = λ id at.
    let r : Looks c.args.watches.now c.args.w c.args.i c.slot-slot.result c.list.result.now c.index-list-i.result c.lits.result.now = record { reads = record { sound = c.requires.sound; within = c.requires.within; list_is = c.list.ensures.list; entry_is = c.index-list-i.is; slot_is = c.slot-slot.ensures }; lits = c.lits.ensures.list } in
    let list = looks_lits _ _ _ _ _ _ _ r id at in
    let lt : c.args.k < length c.lits.result.now = subst (λ z. c.args.k < length z) list (c.requires.in_bounds id at) in
    inl (
      c.index-lits-k.result,
      ap (λ z. has (lits_at z.clauses id) c.index-lits-k.result) c.block.ensures.blocked
          ∙ subst (λ z. has z c.index-lits-k.result ≡ true) (sym list) (subst (λ z. has c.lits.result.now z ≡ true) (sym (c.index-lits-k.is ∙ get_or_default _ _ c.index-lits-k.result 0 lt)) (has-place c.lits.result.now c.args.k lt)),
      sym c.is_true.ensures ∙ c.if-is_true.true,
    )

pub returns-else-is_true-clause-moved : goal.returns-else-is_true-clause-moved
returns-else-is_true-clause-moved c =
    let r : Looks c.args.watches.now c.args.w c.args.i c.slot-slot.result c.list.result.now c.index-list-i.result c.lits.result.now = record { reads = record { sound = c.requires.sound; within = c.requires.within; list_is = c.list.ensures.list; entry_is = c.index-list-i.is; slot_is = c.slot-slot.ensures }; lits = c.lits.ensures.list } in
    let at = looks_here _ _ _ _ _ _ _ r in
    let lt = c.requires.in_bounds at.0 at.1 in
    let x : Rewatches (literals c.args.trail.now.entries) c.args.watches.now c.move_watch.new.self at.0 (watch_place (lits_at c.args.watches.now.clauses at.0) c.args.w) c.args.k = record {
      brought = brought_later _ _ at.0 (watch_at c.args.watches.now c.args.w c.args.i).slot _ c.args.k (record { slot = at.1; before = c.requires.sound; after = c.move_watch.ensures.sound; is = c.move_watch.ensures.exchanged at.0 at.1; wide = c.move_watch.ensures.wide }) (watch_place-low (lits_at c.args.watches.now.clauses at.0) c.args.w) c.requires.later lt;
      low = watch_place-low (lits_at c.args.watches.now.clauses at.0) c.args.w;
      later = c.requires.later;
      within = lt;
      free = c.requires.free at.0 at.1;
    } in
    rewatched_moved _ _ _ _ _ _ x

pub returns-else-is_true-clause-passed : goal.returns-else-is_true-clause-passed
returns-else-is_true-clause-passed c = λ id at.
    let lt = c.requires.in_bounds id at in
    let x : Rewatches (literals c.args.trail.now.entries) c.args.watches.now c.move_watch.new.self id (watch_place (lits_at c.args.watches.now.clauses id) c.args.w) c.args.k = record {
      brought = brought_later _ _ id (watch_at c.args.watches.now c.args.w c.args.i).slot _ c.args.k (record { slot = at; before = c.requires.sound; after = c.move_watch.ensures.sound; is = c.move_watch.ensures.exchanged id at; wide = c.move_watch.ensures.wide }) (watch_place-low (lits_at c.args.watches.now.clauses id) c.args.w) c.requires.later lt;
      low = watch_place-low (lits_at c.args.watches.now.clauses id) c.args.w;
      later = c.requires.later;
      within = lt;
      free = c.requires.free id at;
    } in
    inr (rewatched _ _ _ _ _ _ x)
