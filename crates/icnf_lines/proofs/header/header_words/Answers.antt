use Rattle.std.proofs.Common.{Ok, Err}
use Rattle.icnf_lines.proofs.HeaderWords.{header_ended, header_unnamed, header_unbegun}
use Rattle.icnf_lines.proofs.header.header_words.Goals as goal

pub returns-in-Ok-expect_end-clause-body : goal.returns-in-Ok-expect_end-clause-body
returns-in-Ok-expect_end-clause-body g c = header_ended c.args.name.now c.requires.short tt tt (Ok tt) _ _ _ _ c.in-Ok.ensures.part c.in-Ok-expect_word.ensures.part c.in-Ok-expect_end.ensures.body

pub returns-in-Err-expect_end-clause-body : goal.returns-in-Err-expect_end-clause-body
returns-in-Err-expect_end-clause-body g c =
    header_ended c.args.name.now c.requires.short tt tt (Err c.in-Err-expect_end.fault) _ _ _ _ c.in-Ok.ensures.part c.in-Ok-expect_word.ensures.part c.in-Err-expect_end.ensures.body

pub returns-in-Err-expect_word-clause-body : goal.returns-in-Err-expect_word-clause-body
returns-in-Err-expect_word-clause-body g c = header_unnamed c.args.name.now c.requires.short tt c.in-Err-expect_word.fault _ _ _ c.in-Ok.ensures.part c.in-Err-expect_word.ensures.part

pub returns-in-Err-clause-body : goal.returns-in-Err-clause-body
returns-in-Err-clause-body g c = header_unbegun c.args.name.now c.requires.short c.in-Err.fault _ _ c.in-Err.ensures.part
