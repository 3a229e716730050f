use Rattle.std.proofs.Common.{◌≡◌, ◌+◌, ◌-◌, length, get_or, eq-eqb, sym, ap, ◌∙◌, inl, inr, arith}
use Rattle.std.proofs.lemmas.Bool.{cases_Bool, ne_eqb}
use Rattle.lits.specs.Clause.{has}
use Rattle.lits.specs.Numbering.{place, number_of}
use Rattle.lits.proofs.Places.{place-known, place-missing, known-place, get-place, place-get, place-injective, numbering_limit}
use Rattle.lits.proofs.laws.numbers_are_a_bijection.Goals as goal

pub returns-clause-known : goal.returns-clause-known
returns-clause-known c = λ vars v. (λ h. omega (arith, place-known vars v h), λ le. known-place vars v (omega (arith, le)))

pub returns-clause-missing : goal.returns-clause-missing
returns-clause-missing c = λ vars v. elim (cases_Bool (has vars v)) [
  | inl y ↦ rw y (sym (ne_eqb (number_of vars v) (length vars + 1) (λ e. omega (arith, e, place-known vars v y))))
  | inr n ↦ rw n (sym (eq-eqb (number_of vars v) (length vars + 1) (ap (λ k. k + 1) (place-missing vars v n))))
]

pub returns-clause-variable : goal.returns-clause-variable
returns-clause-variable c = λ vars v h. let e : number_of vars v - 1 ≡ place vars v = omega arith in ap (λ n. get_or vars n 0) e ∙ get-place vars v h

pub returns-clause-number : goal.returns-clause-number
returns-clause-number c = λ vars n o positive le. omega (arith, place-get vars (n - 1) o.once (omega (arith, positive, le)), positive)

pub returns-clause-injective : goal.returns-clause-injective
returns-clause-injective c = λ vars v w h e. place-injective vars v w h (omega (arith, e))

pub returns-clause-limit : goal.returns-clause-limit
returns-clause-limit c = numbering_limit
