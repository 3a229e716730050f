use Rattle.std.proofs.Common.{◌∙◌, ap}
use Rattle.lits.specs.Word.{literal_word}
use Rattle.lits.proofs.Words.{literal_word-literal_text}
use Rattle.lits.proofs.Back.{literal_text-literal_word}
use Rattle.lits.proofs.WordKinds.{literal_zero_at, literal_zero_from, literal_beyond, literal_beyond_from, literal_none, literal_none_from}
use Rattle.lits.proofs.laws.words_are_literals.Goals as goal

pub returns-clause-zero : goal.returns-clause-zero
returns-clause-zero c = λ w. (literal_zero_at w, literal_zero_from w)

pub returns-clause-value : goal.returns-clause-value
returns-clause-value c = λ w l. (literal_text-literal_word w l, λ h. ap literal_word h.1 ∙ literal_word-literal_text l h.0)

pub returns-clause-out_of_range : goal.returns-clause-out_of_range
returns-clause-out_of_range c = λ w. (literal_beyond w, literal_beyond_from w)

pub returns-clause-not_number : goal.returns-clause-not_number
returns-clause-not_number c = λ w. (literal_none w, literal_none_from w)
