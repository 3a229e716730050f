use Rattle.std.proofs.Common.{◌-◌, take, ap, ◌∙◌}
use Rattle.slice_tokens.proofs.Buffer.{front_after}
use Rattle.slice_tokens.proofs.filling.move_to_front.Goals as goal

pub returns : goal.returns
returns c =
    ap (take (c.args.end - c.args.start)) c.copy_within.ensures.after ∙ front_after c.args.buf.now c.args.start c.args.end c.requires.within
