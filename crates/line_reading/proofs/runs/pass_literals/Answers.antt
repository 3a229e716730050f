use Rattle.std.proofs.Common.{ℕ, Ok, refl, sym, subst}
use Rattle.session_rules.specs.Reading.{literal_list}
use Rattle.slice_tokens.specs.Place.{ahead, WhereTold}
use Rattle.slice_tokens.specs.Front.{coming}
use Rattle.line_reading.specs.Parts.{ReadsPart}
use Rattle.line_reading.specs.Runs.{IsWholeRun}
use Rattle.line_reading.proofs.Running.{whole_read, whole_within}
use Rattle.line_reading.proofs.runs.pass_literals.Goals as goal

pub pass_over-requires : goal.pass_over-requires
pass_over-requires c =
    whole_within c.args.lits.now (coming c.args.window.now) c.in-Some.count (subst (λ b. IsWholeRun c.args.lits.now b c.in-Some.count) c.coming.ensures.value c.in-Some.ensures.some)

pub returns-in-Some-clause-yes : goal.returns-in-Some-clause-yes
returns-in-Some-clause-yes c = λ left.
    let p = c.args.window.now in
    let run = subst (λ b. IsWholeRun c.args.lits.now b c.in-Some.count) c.coming.ensures.value c.in-Some.ensures.some in
    subst (λ q. WhereTold (ahead p left) (ahead q left) (λ t u. ReadsPart literal_list (Ok c.args.lits.now) p t q u)) (sym c.pass_over.ensures.place)
    (whole_read c.args.lits.now p c.in-Some.count left c.coming.ensures.sound.bounded run)

pub returns-in-None-clause-stays : goal.returns-in-None-clause-stays
returns-in-None-clause-stays c = record { moves = c.coming.ensures.sound; line = refl; standing = refl; taken = λ e. e }

pub returns-in-None-clause-no : goal.returns-in-None-clause-no
returns-in-None-clause-no c = λ _. subst (λ b. (n : ℕ) → IsWholeRun c.args.lits.now b n → ⊥) c.coming.ensures.value c.in-None.ensures.none
