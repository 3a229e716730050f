use Rattle.std.proofs.Common.{◌≡◌, Some, None, sym, ◌∙◌}
use Rattle.session_rules.specs.declared.Form.TheVariants.{Idrup, Lidrup}
use Rattle.session_rules.proofs.LeastFault.{own_verdict_none, accepted_own}
use Rattle.elimination_laws.specs.Accepted.{proof_text}
use Rattle.conversion_laws.proofs.Alike.{target_keeps, accepted_alike}
use Rattle.conversion_laws.proofs.Fitting.{conversion_fits}
use Rattle.conversion_laws.proofs.conversions_are_accepted_alike.Goals as goal

pub returns-clause-alike : goal.returns-clause-alike
returns-clause-alike c = λ source qs e k small. accepted_alike source qs ((own_verdict_none Idrup source).0 e) k (conversion_fits source qs k small) small

pub returns-clause-keeps : goal.returns-clause-keeps
returns-clause-keeps c = λ source qs e k small.
    (own_verdict_none Lidrup (proof_text Lidrup qs)).1 (target_keeps source qs ((own_verdict_none Idrup source).0 e) k (conversion_fits source qs k small) small)

pub returns-clause-never : goal.returns-clause-never
returns-clause-never c = λ source fault own a n e. let f : None ≡ Some fault = sym (accepted_own Idrup source a n e) ∙ own in cc f
