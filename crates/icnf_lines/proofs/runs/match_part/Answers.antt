use Rattle.std.proofs.Common.{Err, sym, ap, ◌∙◌}
use Rattle.icnf_lines.proofs.Running.{next_agrees, next_differs, next_broken, next_unentered}
use Rattle.icnf_lines.proofs.runs.match_part.Goals as goal

pub returns-in-None-clause-part : goal.returns-in-None-clause-part
returns-in-None-clause-part g c = λ qs. next_agrees c.args.event.now qs _ _ _ c.in-Ok-Some.field-0-0 (rw c.in-Ok-Some.field-0-is at c.in-Ok-Some.ensures.letter) c.requires.free c.args.dense.now c.args.table.now _
    c.requires.held c.in-Ok.found c.in-Ok.ensures.found (sym c.part_rule.ensures ∙ c.in-None.is)

pub returns-in-Some-clause-part : goal.returns-in-Some-clause-part
returns-in-Some-clause-part g c = λ qs. next_differs c.args.event.now qs _ _ _ c.in-Ok-Some.field-0-0 (rw c.in-Ok-Some.field-0-is at c.in-Ok-Some.ensures.letter) c.requires.free c.args.dense.now c.args.table.now _
    c.requires.held c.in-Ok.found c.in-Ok.ensures.found c.in-Some.rule (sym c.part_rule.ensures ∙ c.in-Some.is)

pub returns-in-Err-find_literals-clause-part : goal.returns-in-Err-find_literals-clause-part
returns-in-Err-find_literals-clause-part g c = λ qs. rw c.match_fault.ensures (next_broken c.args.event.now qs _ _ _ c.in-Ok-Some.field-0-0 (rw c.in-Ok-Some.field-0-is at c.in-Ok-Some.ensures.letter)
    c.in-Err-find_literals.fault (λ e. c.in-Err-find_literals.ensures.memory (ap (λ z. Err z) e)) c.in-Err-find_literals.ensures.found)

pub returns-in-Err-clause-part : goal.returns-in-Err-clause-part
returns-in-Err-clause-part g c = λ qs. rw c.match_fault-in-Err.ensures (next_unentered c.args.event.now qs _ _ c.in-Err.fault (λ e. c.in-Err.ensures.memory (ap (λ z. Err z) e)) c.in-Err.ensures.letter)
