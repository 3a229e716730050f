use Rattle.std.proofs.Common.{◌≡◌, ◌++◌, ◌∷◌, [], sym, ◌∙◌, subst, ap, arith}
use Rattle.restore.specs.Choice.{Chosen}
use Rattle.restore.proofs.Choosing.{chosen-new, unchosen_read}
use Rattle.restore.proofs.take.choose.Goals as goal

pub returns-in_ok-push-clause-ok : goal.returns-in_ok-push-clause-ok
returns-in_ok-push-clause-ok c = λ vars x l. rw c.in_ok-push.ensures.items (chosen-new vars c.args.places.now c.args.var c.in-Some.place c.args.choice.now.chosen.items c.args.choice.now.due.items x c.in-Some.ensures.some l (unchosen_read c.args.choice.now.chosen.items c.in-Some.place c.index.result.now (let w = x.within c.args.var (omega (arith, c.in-Some.ensures.some)) in omega (arith, c.in-Some.ensures.some, w, l)) c.index.ensures c.if-not-index.true))
