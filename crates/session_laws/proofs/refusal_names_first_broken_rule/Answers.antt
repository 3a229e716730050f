use Rattle.session_rules.specs.declared.Side.TheVariants.{Interaction, Proof}
use Rattle.session_laws.proofs.Refusals.{refused_line, refused_is_there, refused_says}
use Rattle.session_laws.proofs.refusal_names_first_broken_rule.Goals as goal

pub returns-clause-line_is_there : goal.returns-clause-line_is_there
returns-clause-line_is_there c = refused_is_there

pub returns-clause-rule_is_broken : goal.returns-clause-rule_is_broken
returns-clause-rule_is_broken c = λ form a b side number rule e. let h = refused_line form a b side number rule e in (h.key, h.is_fault)

pub returns-clause-proof : goal.returns-clause-proof
returns-clause-proof c = λ form a b number rule e. refused_says form a b Proof number rule e

pub returns-clause-interaction : goal.returns-clause-interaction
returns-clause-interaction c = λ form a b number rule e. refused_says form a b Interaction number rule e
