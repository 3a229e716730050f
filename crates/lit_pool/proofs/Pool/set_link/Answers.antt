use Rattle.std.proofs.Common.{◌≡◌, ℕ, Option, length, refl, sym, ap, ◌∙◌}
use Rattle.std.specs.FinMap.{len}
use Rattle.lit_pool.specs.declared.Which.{Which}
use Rattle.lit_pool.specs.declared.Which.TheVariants.{One, Two}
use Rattle.lit_pool.specs.Entry.{Entry, entry_at, relinked}
use Rattle.lit_pool.proofs.PiecesMap.{found, len_replaced}
use Rattle.lit_pool.proofs.Pool.set_link.Goals as goal

same_lits : (e : Entry) (which : Which) (to : Option ℕ) → (relinked e which to).lits ≡ e.lits
same_lits e One to = refl
same_lits e Two to = refl

pub set_link-requires : goal.set_link-requires
set_link-requires c = let f = found _ _ _ _ c.self.view_is c.self.invariant.pieces c.requires.live in f.head

pub invariant_of-self : goal.invariant_of-self
invariant_of-self c = let f = found _ _ _ _ c.self.view_is c.self.invariant.pieces c.requires.live in
    let w = f.written _ _ c.set_link.ensures.within (c.set_link.ensures.entry ∙ ap (λ e. relinked e c.args.which c.args.to) f.read) (ap length (same_lits (entry_at c.args.self.now c.args.s) c.args.which c.args.to) ∙ sym f.len) in
    record { pieces = w.1; counted = c.self.invariant.counted ∙ ap len c.self.view_is ∙ sym (len_replaced _ _ _ f.held) ∙ ap len (sym w.0) }

pub returns : goal.returns
returns c = let f = found _ _ _ _ c.self.view_is c.self.invariant.pieces c.requires.live in
    let w = f.written _ _ c.set_link.ensures.within (c.set_link.ensures.entry ∙ ap (λ e. relinked e c.args.which c.args.to) f.read) (ap length (same_lits (entry_at c.args.self.now c.args.s) c.args.which c.args.to) ∙ sym f.len) in
    w.0
