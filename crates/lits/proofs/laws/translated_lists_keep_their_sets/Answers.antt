use Rattle.lits.proofs.Translated.{has-dense, dense_lits-member, part-dense, same_set-dense, tautology-dense, set_of-dense_lits, file-dense_lits, dense_lits-append}
use Rattle.lits.proofs.laws.translated_lists_keep_their_sets.Goals as goal

pub returns-clause-member : goal.returns-clause-member
returns-clause-member c = has-dense

pub returns-clause-no_others : goal.returns-clause-no_others
returns-clause-no_others c = dense_lits-member

pub returns-clause-part : goal.returns-clause-part
returns-clause-part c = part-dense

pub returns-clause-same : goal.returns-clause-same
returns-clause-same c = same_set-dense

pub returns-clause-tautology : goal.returns-clause-tautology
returns-clause-tautology c = tautology-dense

pub returns-clause-set : goal.returns-clause-set
returns-clause-set c = set_of-dense_lits

pub returns-clause-back : goal.returns-clause-back
returns-clause-back c = file-dense_lits

pub returns-clause-stays : goal.returns-clause-stays
returns-clause-stays c = dense_lits-append
