use Rattle.icnf_lines.proofs.Seeing.{held_seen}
use Rattle.icnf_lines.proofs.runs.match_run.Goals as goal

pub match_parts-answer-requires-clause-held : goal.match_parts-answer-requires-clause-held
match_parts-answer-requires-clause-held g c = held_seen c.args.dense.now c.args.table.now c.mark_held.new.table _ c.requires.blank c.requires.event (rw c.lits.ensures at c.mark_held.ensures)
