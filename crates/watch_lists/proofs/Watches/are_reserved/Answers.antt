use Rattle.std.proofs.Common.{◌≡◌, length, sym, ap, ◌∙◌, arith}
use Rattle.watch_lists.proofs.Calling.{wide_seen}
use Rattle.watch_lists.proofs.Putting.{below_all}
use Rattle.watch_lists.proofs.Watches.are_reserved.Goals as goal

pub returns : goal.returns
returns c =
    let size : length c.args.self.now.lists ≡ length c.self.inside.table.rows.items = sym (ap (λ w. length w.lists) c.self.view_is) ∙ wide_seen c.self.inside.table.rows.items in
    let end : c.len.result ≡ length c.args.self.now.lists = omega (arith, size, c.len.ensures, c.self.inside.table.rows.ok.0) in
    let both = below_all c.args.lits.now c.len.result (length c.args.self.now.lists) end in
    (λ h. both.0 (sym c.are_below.ensures ∙ h), λ h. c.are_below.ensures ∙ both.1 h)
