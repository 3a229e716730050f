use Rattle.std.proofs.Common.{◌∙◌, ap}
use Rattle.lits.specs.Word.{id_word}
use Rattle.lits.proofs.Words.{id_word-decimal}
use Rattle.lits.proofs.WordKinds.{id_zero_at, id_zero_from, decimal-id_word, id_beyond, id_beyond_from, id_none, id_none_from}
use Rattle.lits.proofs.laws.words_are_ids.Goals as goal

pub returns-clause-zero : goal.returns-clause-zero
returns-clause-zero c = λ w. (id_zero_at w, id_zero_from w)

pub returns-clause-value : goal.returns-clause-value
returns-clause-value c = λ w n. (decimal-id_word w n, λ h. ap id_word h.2 ∙ id_word-decimal n h.0 h.1)

pub returns-clause-out_of_range : goal.returns-clause-out_of_range
returns-clause-out_of_range c = λ w. (id_beyond w, id_beyond_from w)

pub returns-clause-not_number : goal.returns-clause-not_number
returns-clause-not_number c = λ w. (id_none w, id_none_from w)
