use Rattle.std.proofs.Common.{◌≡◌, ◌+◌, [], ◌∷◌, ◌++◌, length, arith, sym, ap, ◌∙◌, false, cond, nat_eq, Some}
use Rattle.std.specs.Prelude.{is_err}
use Rattle.lits.specs.Clause.{has}
use Rattle.lits.specs.Dense.{noted}
use Rattle.lits.proofs.Places.{number-limit, place-missing}
use Rattle.lits.proofs.Noted.{dense-push, on_ok}
use Rattle.lits.proofs.numbering.Dense.enter.Goals as goal

pub invariant_of-self-2 : goal.invariant_of-self-2
invariant_of-self-2 c =
    let good : is_err c.put.result ≡ false = sym c.is_err-2.ensures.value ∙ c.if-is_err-2.false in
    let missing : has c.self.inside.vars.items c.args.var ≡ false = ap (λ xs. has xs c.args.var) c.self.view_is ∙ c.requires.missing in
    let count : c.len-count.result ≡ length c.self.inside.vars.items = omega (arith, c.len-count.ensures) in
    let pushed : c.push_reserved.new.self.items ≡ c.self.inside.vars.items ++ c.args.var ∷ [] = c.push_reserved.ensures.items ∙ ap (λ xs. xs ++ c.args.var ∷ []) c.reserve.ensures.items in
    rw pushed (dense-push c.self.inside.table.near.items c.put.new.self.near.items c.self.inside.table.far.entries c.put.new.self.far.entries c.self.inside.vars.items c.args.var
    c.self.invariant c.requires.variable missing
    (λ q. on_ok c.put.result _ good c.put.ensures.ok q ∙ ap (λ n. cond (nat_eq c.args.var q) (Some (n + 1)) (noted c.self.inside.table.near.items c.self.inside.table.far.entries q)) count)
    (omega (arith, c.put.ensures.near_size, c.near_limit.ensures, count))
    (on_ok c.put.result _ good c.put.ensures.far_size))

pub returns-clause-number : goal.returns-clause-number
returns-clause-number c = omega (arith, place-missing c.args.self.now c.args.var c.requires.missing, ap length c.self.view_is, c.len-count.ensures)

pub returns-clause-limit : goal.returns-clause-limit
returns-clause-limit c =
    let missing : has c.self.inside.vars.items c.args.var ≡ false = ap (λ xs. has xs c.args.var) c.self.view_is ∙ c.requires.missing in
    (omega arith, omega (arith, number-limit c.self.inside.vars.items c.args.var c.self.invariant.numbering c.requires.variable, place-missing c.self.inside.vars.items c.args.var missing, c.len-count.ensures))
