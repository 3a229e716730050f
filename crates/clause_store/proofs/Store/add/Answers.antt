use Rattle.std.proofs.Common.{◌≡◌, refl, sym, subst, ap, ◌∙◌, true, false}
use Rattle.std.specs.Prelude.{is_err}
use Rattle.std.specs.FinMap.{insert}
use Rattle.std.proofs.lemmas.Bool.{both_ways}
use Rattle.lit_pool.specs.Entry.{new_entry}
use Rattle.clause_store.specs.Clauses.{is_held, firsts, new_clause, IsFresh}
use Rattle.clause_store.specs.Rows.{store_of, IsStoreInside}
use Rattle.clause_store.proofs.Stored.{held-row, live_added, freed_again, inside-noted, inside-same, inside-framed, store_same, Adds, store-added, inside-added, fresh-added, on_err, on_ok, free_row}
use Rattle.clause_store.proofs.Store.add.Goals as goal

pub returns-then-contains_key-clause-memory : goal.returns-then-contains_key-clause-memory
returns-then-contains_key-clause-memory c = λ h. absurd (both_ways _ h (ap (λ m. is_held m c.args.id) (sym c.self.view_is) ∙ held-row c.self.inside.pool c.self.inside.rows.clauses c.args.id ∙ sym c.contains_key.ensures ∙ c.if-contains_key.true))

pub returns-in_default-clause-taken : goal.returns-in_default-clause-taken
returns-in_default-clause-taken c = λ h. absurd (both_ways _ (ap (λ m. is_held m c.args.id) (sym c.self.view_is) ∙ held-row c.self.inside.pool c.self.inside.rows.clauses c.args.id ∙ sym c.contains_key.ensures ∙ c.if-contains_key.false) h)

pub returns-then-is_err-clause-taken : goal.returns-then-is_err-clause-taken
returns-then-is_err-clause-taken c = λ h. absurd (both_ways _ (ap (λ m. is_held m c.args.id) (sym c.self.view_is) ∙ held-row c.self.inside.pool c.self.inside.rows.clauses c.args.id ∙ sym c.contains_key.ensures ∙ c.if-contains_key.false) h)

pub returns-then-is_err-2-clause-taken : goal.returns-then-is_err-2-clause-taken
returns-then-is_err-2-clause-taken c = λ h. absurd (both_ways _ (ap (λ m. is_held m c.args.id) (sym c.self.view_is) ∙ held-row c.self.inside.pool c.self.inside.rows.clauses c.args.id ∙ sym c.contains_key.ensures ∙ c.if-contains_key.false) h)

pub free-requires : goal.free-requires
free-requires c = record { live = live_added c.self.inside.pool c.put.new.pool c.in-Ok.pooled.slot (new_entry (firsts c.args.lits.now)) c.in-Ok.ensures.ok }

pub free-requires-then-is_err-2 : goal.free-requires-then-is_err-2
free-requires-then-is_err-2 c = record { live = live_added c.self.inside.pool c.put.new.pool c.in-Ok.pooled.slot (new_entry (firsts c.args.lits.now)) c.in-Ok.ensures.ok }

pub invariant_of-self-then-is_err : goal.invariant_of-self-then-is_err
invariant_of-self-then-is_err c =
    let back : c.self.inside.pool ≡ c.free.new.self = freed_again c.self.inside.pool c.put.new.pool c.free.new.self c.in-Ok.pooled.slot (new_entry (firsts c.args.lits.now)) c.in-Ok.ensures.fresh c.in-Ok.ensures.ok c.free.ensures in
    subst (λ z. IsStoreInside c.self.inside.rows.indexed z c.self.inside.rows.clauses c.self.inside.rows.active c.self.inside.rows.weakened c.note.new.noted.items) back (inside-noted c.self.inside.pool c.self.inside.rows.clauses c.self.inside.rows.active c.self.inside.rows.weakened c.self.inside.noted.items c.note.new.noted.items c.in-Ok.pooled.slot c.self.invariant c.in-Ok.ensures.fresh c.note.ensures.others)

pub returns-then-is_err-clause-err : goal.returns-then-is_err-clause-err
returns-then-is_err-clause-err c =
    let back : c.self.inside.pool ≡ c.free.new.self = freed_again c.self.inside.pool c.put.new.pool c.free.new.self c.in-Ok.pooled.slot (new_entry (firsts c.args.lits.now)) c.in-Ok.ensures.fresh c.in-Ok.ensures.ok c.free.ensures in
    ap (λ z. store_of z c.self.inside.rows.clauses) (sym back) ∙ c.self.view_is

pub invariant_of-self-then-is_err-2 : goal.invariant_of-self-then-is_err-2
invariant_of-self-then-is_err-2 c =
    let back : c.self.inside.pool ≡ c.free-then-is_err-2.new.self = freed_again c.self.inside.pool c.put.new.pool c.free-then-is_err-2.new.self c.in-Ok.pooled.slot (new_entry (firsts c.args.lits.now)) c.in-Ok.ensures.fresh c.in-Ok.ensures.ok c.free-then-is_err-2.ensures in
    let bad : is_err c.enter.result ≡ true = sym c.is_err-2.ensures.value ∙ c.if-is_err-2.true in
    inside-framed _ _ _ _ _ _ _ _ c.enter.ensures.indexed c.enter.ensures.weakened (subst (λ z. IsStoreInside c.self.inside.rows.indexed z c.enter.new.self.clauses c.enter.new.self.active c.self.inside.rows.weakened c.note.new.noted.items) back
    (inside-same c.self.inside.pool c.self.inside.rows.clauses c.enter.new.self.clauses c.self.inside.rows.active c.enter.new.self.active c.self.inside.rows.weakened c.self.inside.rows.weakened c.note.new.noted.items (on_err c.enter.result _ bad c.enter.ensures.err) (on_err c.enter.result _ bad c.enter.ensures.unput) (λ k i. refl)
    (inside-noted c.self.inside.pool c.self.inside.rows.clauses c.self.inside.rows.active c.self.inside.rows.weakened c.self.inside.noted.items c.note.new.noted.items c.in-Ok.pooled.slot c.self.invariant c.in-Ok.ensures.fresh c.note.ensures.others)))

pub returns-then-is_err-2-clause-err : goal.returns-then-is_err-2-clause-err
returns-then-is_err-2-clause-err c =
    let back : c.self.inside.pool ≡ c.free-then-is_err-2.new.self = freed_again c.self.inside.pool c.put.new.pool c.free-then-is_err-2.new.self c.in-Ok.pooled.slot (new_entry (firsts c.args.lits.now)) c.in-Ok.ensures.fresh c.in-Ok.ensures.ok c.free-then-is_err-2.ensures in
    let bad : is_err c.enter.result ≡ true = sym c.is_err-2.ensures.value ∙ c.if-is_err-2.true in
    ap (λ z. store_of z c.enter.new.self.clauses) (sym back) ∙ store_same c.self.inside.pool c.self.inside.rows.clauses c.enter.new.self.clauses (on_err c.enter.result _ bad c.enter.ensures.err) ∙ c.self.view_is

pub invariant_of-self-else-is_err-2 : goal.invariant_of-self-else-is_err-2
invariant_of-self-else-is_err-2 c =
    let good : is_err c.enter.result ≡ false = sym c.is_err-2.ensures.value ∙ c.if-is_err-2.false in
    let h : Adds c.self.inside.rows.indexed c.self.inside.pool c.self.inside.rows.clauses c.enter.new.self.clauses c.self.inside.rows.active c.enter.new.self.active c.self.inside.rows.weakened c.note.new.noted.items c.args.id c.in-Ok.pooled.key c.in-Ok.pooled.slot c.args.lits.now = record {
      inside = inside-noted c.self.inside.pool c.self.inside.rows.clauses c.self.inside.rows.active c.self.inside.rows.weakened c.self.inside.noted.items c.note.new.noted.items c.in-Ok.pooled.slot c.self.invariant c.in-Ok.ensures.fresh c.note.ensures.others;
      dead = c.in-Ok.ensures.fresh;
      listed = on_ok c.note.result _ (sym c.is_err.ensures.value ∙ c.if-is_err.false) c.note.ensures.ok;
      free = free_row c.self.inside.rows.clauses c.args.id (sym c.contains_key.ensures ∙ c.if-contains_key.false);
      keyed = c.in-Ok.ensures.key;
      rows = on_ok c.enter.result _ good c.enter.ensures.ok;
      pairs = on_ok c.enter.result _ good c.enter.ensures.put;
    } in
    inside-framed _ _ _ _ _ _ _ _ c.enter.ensures.indexed c.enter.ensures.weakened (subst (λ z. IsStoreInside c.self.inside.rows.indexed z c.enter.new.self.clauses c.enter.new.self.active c.self.inside.rows.weakened c.note.new.noted.items) (sym c.in-Ok.ensures.ok) (inside-added _ _ _ _ _ _ _ _ _ _ _ h))

pub returns-clause-fresh : goal.returns-clause-fresh
returns-clause-fresh c =
    let good : is_err c.enter.result ≡ false = sym c.is_err-2.ensures.value ∙ c.if-is_err-2.false in
    let h : Adds c.self.inside.rows.indexed c.self.inside.pool c.self.inside.rows.clauses c.enter.new.self.clauses c.self.inside.rows.active c.enter.new.self.active c.self.inside.rows.weakened c.note.new.noted.items c.args.id c.in-Ok.pooled.key c.in-Ok.pooled.slot c.args.lits.now = record {
      inside = inside-noted c.self.inside.pool c.self.inside.rows.clauses c.self.inside.rows.active c.self.inside.rows.weakened c.self.inside.noted.items c.note.new.noted.items c.in-Ok.pooled.slot c.self.invariant c.in-Ok.ensures.fresh c.note.ensures.others;
      dead = c.in-Ok.ensures.fresh;
      listed = on_ok c.note.result _ (sym c.is_err.ensures.value ∙ c.if-is_err.false) c.note.ensures.ok;
      free = free_row c.self.inside.rows.clauses c.args.id (sym c.contains_key.ensures ∙ c.if-contains_key.false);
      keyed = c.in-Ok.ensures.key;
      rows = on_ok c.enter.result _ good c.enter.ensures.ok;
      pairs = on_ok c.enter.result _ good c.enter.ensures.put;
    } in
    subst (λ m. IsFresh m c.in-Ok.pooled.slot) c.self.view_is (fresh-added _ _ _ _ _ _ _ _ _ _ _ h)

pub returns-clause-ok : goal.returns-clause-ok
returns-clause-ok c =
    let good : is_err c.enter.result ≡ false = sym c.is_err-2.ensures.value ∙ c.if-is_err-2.false in
    let h : Adds c.self.inside.rows.indexed c.self.inside.pool c.self.inside.rows.clauses c.enter.new.self.clauses c.self.inside.rows.active c.enter.new.self.active c.self.inside.rows.weakened c.note.new.noted.items c.args.id c.in-Ok.pooled.key c.in-Ok.pooled.slot c.args.lits.now = record {
      inside = inside-noted c.self.inside.pool c.self.inside.rows.clauses c.self.inside.rows.active c.self.inside.rows.weakened c.self.inside.noted.items c.note.new.noted.items c.in-Ok.pooled.slot c.self.invariant c.in-Ok.ensures.fresh c.note.ensures.others;
      dead = c.in-Ok.ensures.fresh;
      listed = on_ok c.note.result _ (sym c.is_err.ensures.value ∙ c.if-is_err.false) c.note.ensures.ok;
      free = free_row c.self.inside.rows.clauses c.args.id (sym c.contains_key.ensures ∙ c.if-contains_key.false);
      keyed = c.in-Ok.ensures.key;
      rows = on_ok c.enter.result _ good c.enter.ensures.ok;
      pairs = on_ok c.enter.result _ good c.enter.ensures.put;
    } in
    ap (λ z. store_of z c.enter.new.self.clauses) c.in-Ok.ensures.ok ∙ store-added _ _ _ _ _ _ _ _ _ _ _ h ∙ ap (λ m. insert m c.args.id (new_clause c.args.lits.now c.in-Ok.pooled.slot)) c.self.view_is

pub returns-clause-free : goal.returns-clause-free
returns-clause-free c = ap (λ m. is_held m c.args.id) (sym c.self.view_is) ∙ held-row c.self.inside.pool c.self.inside.rows.clauses c.args.id ∙ sym c.contains_key.ensures ∙ c.if-contains_key.false
