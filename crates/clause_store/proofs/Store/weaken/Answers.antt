use Rattle.std.proofs.Common.{◌≡◌, refl, sym, ap, ◌∙◌, true, false}
use Rattle.std.specs.Prelude.{is_some, is_err}
use Rattle.std.specs.FinMap.{insert}
use Rattle.std.proofs.lemmas.Bool.{both_ways}
use Rattle.clause_store.specs.Clauses.{is_active, weakened_entry, literals_at, kept_at}
use Rattle.clause_store.specs.Rows.{IsStoreInside, row, entry_of, noted}
use Rattle.clause_store.proofs.Stored.{slot_at-row, found, Found, Switches, store-switched, all-switched, to-switched, from-switched, inside-same, inside-framed, store_same, on_err, on_ok, entry_live, literals_here, kept_here, within_noted}
use Rattle.clause_store.proofs.Store.weaken.Goals as goal

pub returns-in_default-clause-memory : goal.returns-in_default-clause-memory
returns-in_default-clause-memory c =
    λ h. absurd (both_ways _ (ap (λ m. is_active m c.args.id) (sym c.self.view_is) ∙ ap is_some (slot_at-row c.self.inside.pool c.self.inside.rows.clauses c.args.id ∙ sym c.active_slot.ensures ∙ c.in_default.is)) h)

pub key_at-key-requires : goal.key_at-key-requires
key_at-key-requires c = within_noted true c.self.inside.pool c.self.inside.rows.clauses c.self.inside.noted.items c.args.id c.in-Some.slot c.self.invariant.rows (sym c.active_slot.ensures ∙ c.in-Some.is)

pub invariant_of-self : goal.invariant_of-self
invariant_of-self c =
    let bad : is_err c.set_weakened.result ≡ true = sym c.is_err.ensures.value ∙ c.if-is_err.true in
    inside-framed _ _ _ _ _ _ _ _ c.set_weakened.ensures.indexed refl (inside-same c.self.inside.pool c.self.inside.rows.clauses c.set_weakened.new.self.clauses c.self.inside.rows.active c.set_weakened.new.self.active c.self.inside.rows.weakened c.set_weakened.new.self.weakened c.self.inside.noted.items (on_err c.set_weakened.result _ bad c.set_weakened.ensures.same_rows) (on_err c.set_weakened.result _ bad c.set_weakened.ensures.same_from) (on_err c.set_weakened.result _ bad c.set_weakened.ensures.same_to) c.self.invariant)

pub returns-then-is_err-clause-err : goal.returns-then-is_err-clause-err
returns-then-is_err-clause-err c =
    let bad : is_err c.set_weakened.result ≡ true = sym c.is_err.ensures.value ∙ c.if-is_err.true in
    store_same c.self.inside.pool c.self.inside.rows.clauses c.set_weakened.new.self.clauses (on_err c.set_weakened.result _ bad c.set_weakened.ensures.same_rows) ∙ c.self.view_is

pub returns-then-is_err-clause-inactive : goal.returns-then-is_err-clause-inactive
returns-then-is_err-clause-inactive c =
    λ h. absurd (both_ways _ h (ap (λ m. is_active m c.args.id) (sym c.self.view_is) ∙ ap is_some (slot_at-row c.self.inside.pool c.self.inside.rows.clauses c.args.id ∙ sym c.active_slot.ensures ∙ c.in-Some.is)))

pub invariant_of-self-2 : goal.invariant_of-self-2
invariant_of-self-2 c =
    let good : is_err c.set_weakened.result ≡ false = sym c.is_err.ensures.value ∙ c.if-is_err.false in
    let f : Found true (row c.self.inside.rows.clauses c.args.id) c.in-Some.slot = found true _ _ (sym c.active_slot.ensures ∙ c.in-Some.is) in
    let h : Switches c.self.inside.rows.indexed c.self.inside.pool c.self.inside.rows.clauses c.set_weakened.new.self.clauses c.self.inside.rows.active c.set_weakened.new.self.active c.self.inside.rows.weakened c.set_weakened.new.self.weakened c.self.inside.noted.items c.args.id c.key_at-key.result f.k false = record {
      all = c.self.invariant.rows;
      from_index = c.self.invariant.active_index;
      to_index = c.self.invariant.weakened_index;
      here = f.is;
      keyed = λ t. ap (λ z. (noted c.self.inside.noted.items z).key) f.slot ∙ c.key_at-key.ensures t;
      off = f.on;
      rows = on_ok c.set_weakened.result _ good c.set_weakened.ensures.rows;
      cut = on_ok c.set_weakened.result _ good c.set_weakened.ensures.cut;
      put = on_ok c.set_weakened.result _ good c.set_weakened.ensures.put;
    } in
    let live = entry_live c.self.inside.pool c.self.inside.rows.clauses c.self.inside.noted.items c.args.id f.k c.self.invariant.rows f.is in
    let inside : IsStoreInside c.self.inside.rows.indexed c.self.inside.pool c.set_weakened.new.self.clauses c.set_weakened.new.self.active c.set_weakened.new.self.weakened c.self.inside.noted.items = record {
      rows = all-switched _ c.self.inside.pool _ _ _ _ _ _ _ _ _ _ _ h (λ t ne. refl) live.0 live.1 (ap (λ o. (entry_of o).lits) (sym live.1));
      active_index = from-switched _ c.self.inside.pool _ _ _ _ _ _ _ _ _ _ _ h (λ t ne. refl) live.0 live.1 (ap (λ o. (entry_of o).lits) (sym live.1));
      weakened_index = to-switched _ c.self.inside.pool _ _ _ _ _ _ _ _ _ _ _ h (λ t ne. refl) live.0 live.1 (ap (λ o. (entry_of o).lits) (sym live.1));
    } in
    inside-framed _ _ _ _ _ _ _ _ c.set_weakened.ensures.indexed refl inside

pub returns-clause-ok : goal.returns-clause-ok
returns-clause-ok c =
    let good : is_err c.set_weakened.result ≡ false = sym c.is_err.ensures.value ∙ c.if-is_err.false in
    let f : Found true (row c.self.inside.rows.clauses c.args.id) c.in-Some.slot = found true _ _ (sym c.active_slot.ensures ∙ c.in-Some.is) in
    let h : Switches c.self.inside.rows.indexed c.self.inside.pool c.self.inside.rows.clauses c.set_weakened.new.self.clauses c.self.inside.rows.active c.set_weakened.new.self.active c.self.inside.rows.weakened c.set_weakened.new.self.weakened c.self.inside.noted.items c.args.id c.key_at-key.result f.k false = record {
      all = c.self.invariant.rows;
      from_index = c.self.invariant.active_index;
      to_index = c.self.invariant.weakened_index;
      here = f.is;
      keyed = λ t. ap (λ z. (noted c.self.inside.noted.items z).key) f.slot ∙ c.key_at-key.ensures t;
      off = f.on;
      rows = on_ok c.set_weakened.result _ good c.set_weakened.ensures.rows;
      cut = on_ok c.set_weakened.result _ good c.set_weakened.ensures.cut;
      put = on_ok c.set_weakened.result _ good c.set_weakened.ensures.put;
    } in
    let live = entry_live c.self.inside.pool c.self.inside.rows.clauses c.self.inside.noted.items c.args.id f.k c.self.invariant.rows f.is in
    store-switched _ c.self.inside.pool _ _ _ _ _ _ _ _ _ _ _ h (λ t ne. refl) live.0 live.1 (ap (λ o. (entry_of o).lits) (sym live.1)) (weakened_entry (literals_at c.args.self.now c.args.id) (kept_at c.args.self.now c.args.id))
    (λ i. weakened_entry (literals_here c.self.inside.pool c.self.inside.rows.clauses c.args.self.now c.args.id f.k live.0 c.self.view_is f.is live.1 i) (kept_here c.self.inside.pool c.self.inside.rows.clauses c.args.self.now c.args.id f.k c.self.view_is f.is i))
    ∙ ap (λ m. insert m c.args.id (weakened_entry (literals_at c.args.self.now c.args.id) (kept_at c.args.self.now c.args.id))) c.self.view_is

pub returns-clause-active : goal.returns-clause-active
returns-clause-active c =
    ap (λ m. is_active m c.args.id) (sym c.self.view_is) ∙ ap is_some (slot_at-row c.self.inside.pool c.self.inside.rows.clauses c.args.id ∙ sym c.active_slot.ensures ∙ c.in-Some.is)
