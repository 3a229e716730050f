use Rattle.std.proofs.Common.{◌≡◌, ℕ, ◌-◌, if◌then◌else◌, List, length, take, drop, sym, ap, ◌∙◌, subst, arith, length-drop}
use Rattle.std.proofs.lemmas.List.{take_all}
use Rattle.lits.specs.Literal.{var}
use Rattle.lits.specs.Word.{IsNumeralFront}
use Rattle.lits.proofs.Front.{literal_at, literal_found, literal_front_is}
use Rattle.lits.proofs.reading.front_literal.Goals as goal
use Rattle.lits.proofs.reading.front_literal.Goals.{then-minus, else-minus}

-- the bytes that were looked at
all_of : (bytes : List ℕ) (from : ℕ) → take (length bytes - from) (drop from bytes) ≡ drop from bytes
all_of bytes from = take_all (length bytes - from) (drop from bytes) (omega (arith, length-drop from bytes))

pub returns-in-Value-clause-some : goal.returns-in-Value-clause-some
returns-in-Value-clause-some c =
    let minus = c.starts_with_minus-minus.result in
    let from : c.if-minus.from ≡ (if minus then 1 else 0) = elim c.if-minus.branch [
      | then-minus w ↦ w.from-is ∙ ap (λ m. if m then 1 else 0) (sym w.if-minus.true)
      | else-minus w ↦ w.from-is ∙ ap (λ m. if m then 1 else 0) (sym w.if-minus.false)
    ] in
    let front : IsNumeralFront (drop c.if-minus.from c.args.bytes.now) c.in-Some.count c.in-Some.size = subst (λ l. IsNumeralFront l c.in-Some.count c.in-Some.size) (all_of c.args.bytes.now c.if-minus.from) c.in-Some.ensures.some in
    let at = literal_at c.args.bytes.now minus c.if-minus.from c.in-Some.count c.in-Some.size (sym c.starts_with_minus-minus.ensures) from front in
    (at.0, at.1 ∙ sym c.literal_of.ensures ∙ c.in-Value.is)

pub returns-in-None-clause-none : goal.returns-in-None-clause-none
returns-in-None-clause-none c = λ n l f e.
    let minus = c.starts_with_minus-minus.result in
    let from : c.if-minus.from ≡ (if minus then 1 else 0) = elim c.if-minus.branch [
      | then-minus w ↦ w.from-is ∙ ap (λ m. if m then 1 else 0) (sym w.if-minus.true)
      | else-minus w ↦ w.from-is ∙ ap (λ m. if m then 1 else 0) (sym w.if-minus.false)
    ] in
    let h = literal_front_is c.args.bytes.now minus c.if-minus.from n l (sym c.starts_with_minus-minus.ensures) from f e in
    c.in-None.ensures.none h.0 (var l) (subst (λ bs. IsNumeralFront bs h.0 (var l)) (sym (all_of c.args.bytes.now c.if-minus.from)) h.1)

pub returns-in-Zero-clause-none : goal.returns-in-Zero-clause-none
returns-in-Zero-clause-none c = λ n l f e.
    let minus = c.starts_with_minus-minus.result in
    let from : c.if-minus.from ≡ (if minus then 1 else 0) = elim c.if-minus.branch [
      | then-minus w ↦ w.from-is ∙ ap (λ m. if m then 1 else 0) (sym w.if-minus.true)
      | else-minus w ↦ w.from-is ∙ ap (λ m. if m then 1 else 0) (sym w.if-minus.false)
    ] in
    let front : IsNumeralFront (drop c.if-minus.from c.args.bytes.now) c.in-Some.count c.in-Some.size = subst (λ l. IsNumeralFront l c.in-Some.count c.in-Some.size) (all_of c.args.bytes.now c.if-minus.from) c.in-Some.ensures.some in
    let same = sym c.in-Zero.is ∙ c.literal_of.ensures ∙ literal_found c.args.bytes.now minus c.if-minus.from c.in-Some.count c.in-Some.size n l (sym c.starts_with_minus-minus.ensures) from front f e in
    cc same

pub returns-in-NotNumber-clause-none : goal.returns-in-NotNumber-clause-none
returns-in-NotNumber-clause-none c = λ n l f e.
    let minus = c.starts_with_minus-minus.result in
    let from : c.if-minus.from ≡ (if minus then 1 else 0) = elim c.if-minus.branch [
      | then-minus w ↦ w.from-is ∙ ap (λ m. if m then 1 else 0) (sym w.if-minus.true)
      | else-minus w ↦ w.from-is ∙ ap (λ m. if m then 1 else 0) (sym w.if-minus.false)
    ] in
    let front : IsNumeralFront (drop c.if-minus.from c.args.bytes.now) c.in-Some.count c.in-Some.size = subst (λ l. IsNumeralFront l c.in-Some.count c.in-Some.size) (all_of c.args.bytes.now c.if-minus.from) c.in-Some.ensures.some in
    let same = sym c.in-NotNumber.is ∙ c.literal_of.ensures ∙ literal_found c.args.bytes.now minus c.if-minus.from c.in-Some.count c.in-Some.size n l (sym c.starts_with_minus-minus.ensures) from front f e in
    cc same

pub returns-in-OutOfRange-clause-none : goal.returns-in-OutOfRange-clause-none
returns-in-OutOfRange-clause-none c = λ n l f e.
    let minus = c.starts_with_minus-minus.result in
    let from : c.if-minus.from ≡ (if minus then 1 else 0) = elim c.if-minus.branch [
      | then-minus w ↦ w.from-is ∙ ap (λ m. if m then 1 else 0) (sym w.if-minus.true)
      | else-minus w ↦ w.from-is ∙ ap (λ m. if m then 1 else 0) (sym w.if-minus.false)
    ] in
    let front : IsNumeralFront (drop c.if-minus.from c.args.bytes.now) c.in-Some.count c.in-Some.size = subst (λ l. IsNumeralFront l c.in-Some.count c.in-Some.size) (all_of c.args.bytes.now c.if-minus.from) c.in-Some.ensures.some in
    let same = sym c.in-OutOfRange.is ∙ c.literal_of.ensures ∙ literal_found c.args.bytes.now minus c.if-minus.from c.in-Some.count c.in-Some.size n l (sym c.starts_with_minus-minus.ensures) from front f e in
    cc same
