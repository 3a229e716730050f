use Rattle.std.proofs.Common.{refl, ◌≡◌, sym, subst, ap, ◌∙◌, true, false, None}
use Rattle.std.specs.Prelude.{is_some, is_err}
use Rattle.std.specs.FinMap.{get}
use Rattle.std.proofs.lemmas.Bool.{both_ways}
use Rattle.lit_pool.specs.Entry.{with_link}
use Rattle.lit_pool.specs.declared.Which.TheVariants as which
use Rattle.clause_store.specs.Clauses.{is_weakened}
use Rattle.clause_store.specs.Rows.{IsStoreInside, row, entry_of, noted}
use Rattle.clause_store.proofs.Stored.{weakened-row, found, Found, Switches, store-switched, all-switched, to-switched, from-switched, inside-same, inside-framed, store_same, on_err, on_ok, entry_live, restored, unlinked_at, unlinked_other, within_noted}
use Rattle.clause_store.proofs.Stored.{is_off, live_found}
use Rattle.clause_store.proofs.Store.restore.Goals as goal

pub returns-in_default-clause-memory : goal.returns-in_default-clause-memory
returns-in_default-clause-memory c =
    λ h. absurd (both_ways _ (ap (λ m. is_weakened m c.args.id) (sym c.self.view_is) ∙ weakened-row c.self.inside.pool c.self.inside.rows.clauses c.args.id ∙ ap is_some (sym c.weakened_slot.ensures ∙ c.in_default.is)) h)

pub key_at-key-requires : goal.key_at-key-requires
key_at-key-requires c = within_noted false c.self.inside.pool c.self.inside.rows.clauses c.self.inside.noted.items c.args.id c.in-Some.slot c.self.invariant.rows (sym c.weakened_slot.ensures ∙ c.in-Some.is)

pub invariant_of-self : goal.invariant_of-self
invariant_of-self c =
    let bad : is_err c.set_active.result ≡ true = sym c.is_err.ensures.value ∙ c.if-is_err.true in
    inside-framed _ _ _ _ _ _ _ _ c.set_active.ensures.indexed refl (inside-same c.self.inside.pool c.self.inside.rows.clauses c.set_active.new.self.clauses c.self.inside.rows.active c.set_active.new.self.active c.self.inside.rows.weakened c.set_active.new.self.weakened c.self.inside.noted.items (on_err c.set_active.result _ bad c.set_active.ensures.same_rows) (on_err c.set_active.result _ bad c.set_active.ensures.same_to) (on_err c.set_active.result _ bad c.set_active.ensures.same_from) c.self.invariant)

pub returns-then-is_err-clause-err : goal.returns-then-is_err-clause-err
returns-then-is_err-clause-err c =
    let bad : is_err c.set_active.result ≡ true = sym c.is_err.ensures.value ∙ c.if-is_err.true in
    store_same c.self.inside.pool c.self.inside.rows.clauses c.set_active.new.self.clauses (on_err c.set_active.result _ bad c.set_active.ensures.same_rows) ∙ c.self.view_is

pub returns-then-is_err-clause-held : goal.returns-then-is_err-clause-held
returns-then-is_err-clause-held c =
    λ h. absurd (both_ways _ h (ap (λ m. is_weakened m c.args.id) (sym c.self.view_is) ∙ weakened-row c.self.inside.pool c.self.inside.rows.clauses c.args.id ∙ ap is_some (sym c.weakened_slot.ensures ∙ c.in-Some.is)))

pub set_link-requires-2 : goal.set_link-requires-2
set_link-requires-2 c =
    record { live = live_found c.self.inside.pool c.set_link.new.self c.in-Some.slot _ c.set_link.ensures }

pub invariant_of-self-2 : goal.invariant_of-self-2
invariant_of-self-2 c =
    let good : is_err c.set_active.result ≡ false = sym c.is_err.ensures.value ∙ c.if-is_err.false in
    let f : Found false (row c.self.inside.rows.clauses c.args.id) c.in-Some.slot = found false _ _ (sym c.weakened_slot.ensures ∙ c.in-Some.is) in
    let h : Switches c.self.inside.rows.indexed c.self.inside.pool c.self.inside.rows.clauses c.set_active.new.self.clauses c.self.inside.rows.weakened c.set_active.new.self.weakened c.self.inside.rows.active c.set_active.new.self.active c.self.inside.noted.items c.args.id c.key_at-key.result f.k true = record {
      all = c.self.invariant.rows;
      from_index = c.self.invariant.weakened_index;
      to_index = c.self.invariant.active_index;
      here = f.is;
      keyed = λ t. ap (λ z. (noted c.self.inside.noted.items z).key) f.slot ∙ c.key_at-key.ensures t;
      off = is_off f.k.active f.on;
      rows = on_ok c.set_active.result _ good c.set_active.ensures.rows;
      cut = on_ok c.set_active.result _ good c.set_active.ensures.cut;
      put = on_ok c.set_active.result _ good c.set_active.ensures.put;
    } in
    let live = entry_live c.self.inside.pool c.self.inside.rows.clauses c.self.inside.noted.items c.args.id f.k c.self.invariant.rows f.is in
    let after : c.set_link-2.new.self ≡ with_link (with_link c.self.inside.pool f.k.slot which.One None) f.k.slot which.Two None = subst (λ s. c.set_link-2.new.self ≡ with_link (with_link c.self.inside.pool s which.One None) s which.Two None) (sym f.slot) (c.set_link-2.ensures ∙ ap (λ z. with_link z c.in-Some.slot which.Two None) c.set_link.ensures) in
    let inside : IsStoreInside c.self.inside.rows.indexed c.set_link-2.new.self c.set_active.new.self.clauses c.set_active.new.self.active c.set_active.new.self.weakened c.self.inside.noted.items = record {
      rows = all-switched _ c.set_link-2.new.self _ _ _ _ _ _ _ _ _ _ _ h (λ t ne. ap (λ z. get z t) after ∙ unlinked_other c.self.inside.pool f.k.slot t ne) (record { lits = live.0.lits; one = None; two = None }) (ap (λ z. get z f.k.slot) after ∙ unlinked_at c.self.inside.pool f.k.slot live.0 live.1) (ap (λ o. (entry_of o).lits) (sym live.1));
      active_index = to-switched _ c.set_link-2.new.self _ _ _ _ _ _ _ _ _ _ _ h (λ t ne. ap (λ z. get z t) after ∙ unlinked_other c.self.inside.pool f.k.slot t ne) (record { lits = live.0.lits; one = None; two = None }) (ap (λ z. get z f.k.slot) after ∙ unlinked_at c.self.inside.pool f.k.slot live.0 live.1) (ap (λ o. (entry_of o).lits) (sym live.1));
      weakened_index = from-switched _ c.set_link-2.new.self _ _ _ _ _ _ _ _ _ _ _ h (λ t ne. ap (λ z. get z t) after ∙ unlinked_other c.self.inside.pool f.k.slot t ne) (record { lits = live.0.lits; one = None; two = None }) (ap (λ z. get z f.k.slot) after ∙ unlinked_at c.self.inside.pool f.k.slot live.0 live.1) (ap (λ o. (entry_of o).lits) (sym live.1));
    } in
    inside-framed _ _ _ _ _ _ _ _ c.set_active.ensures.indexed refl inside

pub returns-clause-ok : goal.returns-clause-ok
returns-clause-ok c =
    let good : is_err c.set_active.result ≡ false = sym c.is_err.ensures.value ∙ c.if-is_err.false in
    let f : Found false (row c.self.inside.rows.clauses c.args.id) c.in-Some.slot = found false _ _ (sym c.weakened_slot.ensures ∙ c.in-Some.is) in
    let h : Switches c.self.inside.rows.indexed c.self.inside.pool c.self.inside.rows.clauses c.set_active.new.self.clauses c.self.inside.rows.weakened c.set_active.new.self.weakened c.self.inside.rows.active c.set_active.new.self.active c.self.inside.noted.items c.args.id c.key_at-key.result f.k true = record {
      all = c.self.invariant.rows;
      from_index = c.self.invariant.weakened_index;
      to_index = c.self.invariant.active_index;
      here = f.is;
      keyed = λ t. ap (λ z. (noted c.self.inside.noted.items z).key) f.slot ∙ c.key_at-key.ensures t;
      off = is_off f.k.active f.on;
      rows = on_ok c.set_active.result _ good c.set_active.ensures.rows;
      cut = on_ok c.set_active.result _ good c.set_active.ensures.cut;
      put = on_ok c.set_active.result _ good c.set_active.ensures.put;
    } in
    let live = entry_live c.self.inside.pool c.self.inside.rows.clauses c.self.inside.noted.items c.args.id f.k c.self.invariant.rows f.is in
    let after : c.set_link-2.new.self ≡ with_link (with_link c.self.inside.pool f.k.slot which.One None) f.k.slot which.Two None = subst (λ s. c.set_link-2.new.self ≡ with_link (with_link c.self.inside.pool s which.One None) s which.Two None) (sym f.slot) (c.set_link-2.ensures ∙ ap (λ z. with_link z c.in-Some.slot which.Two None) c.set_link.ensures) in
    restored c.self.inside.pool c.self.inside.rows.clauses c.self.inside.noted.items c.args.self.now c.args.id f.k live.0 c.self.view_is c.self.invariant.rows f.is f.on live.1 _
    (λ d e. store-switched _ c.set_link-2.new.self _ _ _ _ _ _ _ _ _ _ _ h (λ t ne. ap (λ z. get z t) after ∙ unlinked_other c.self.inside.pool f.k.slot t ne) (record { lits = live.0.lits; one = None; two = None }) (ap (λ z. get z f.k.slot) after ∙ unlinked_at c.self.inside.pool f.k.slot live.0 live.1) (ap (λ o. (entry_of o).lits) (sym live.1)) d e)

pub returns-clause-weakened : goal.returns-clause-weakened
returns-clause-weakened c =
    ap (λ m. is_weakened m c.args.id) (sym c.self.view_is) ∙ weakened-row c.self.inside.pool c.self.inside.rows.clauses c.args.id ∙ ap is_some (sym c.weakened_slot.ensures ∙ c.in-Some.is)
