use Rattle.std.proofs.Common.{◌≡◌, ℕ, take, sym, subst, ◌∙◌, arith}
use Rattle.std.proofs.lemmas.List.{take_rest}
use Rattle.lits.specs.declared.LitWord.TheVariants as literals
use Rattle.lits.specs.Word.{literal_word, IsFront}
use Rattle.line_reading.proofs.Running.{spaced_literal, no_literal}
use Rattle.line_reading.proofs.runs.spaced_literal.Goals as goal

pub returns-in-Some-clause-some : goal.returns-in-Some-clause-some
returns-in-Some-clause-some c =
    let b = c.args.bytes.now in
    let e = take_rest b 1 in
    grind (spaced_literal b c.in-Some.count c.in-Some.l (sym c.begins_with_space.ensures ∙ c.if-not-begins_with_space.false) (rw e at c.in-Some.ensures.some.0) (rw e at c.in-Some.ensures.some.1), arith, c.in-Some.l-is)

pub returns-in-None-clause-none : goal.returns-in-None-clause-none
returns-in-None-clause-none c =
    let b = c.args.bytes.now in
    no_literal b (sym c.begins_with_space.ensures ∙ c.if-not-begins_with_space.false)
    (subst (λ r. (n l : ℕ) → IsFront r n → literal_word (take n r) ≡ literals.Value l → ⊥) (take_rest b 1) c.in-None.ensures.none)
