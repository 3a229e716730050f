use Rattle.std.proofs.Common.{◌≡◌, ℕ, ◌<◌, Ok, true, refl, arith}
use Rattle.std.specs.declared.result.Result.{Result}
use Rattle.slice_tokens.specs.declared.token.TokenFault.{TokenFault}
use Rattle.slice_tokens.specs.Place.{ahead}
use Rattle.slice_tokens.specs.Calls.{at_line_end}
use Rattle.slice_tokens.proofs.Taking.{leaves_word, answers_word}
use Rattle.slice_tokens.proofs.window.Window.next.Goals as goal

pub returns : goal.returns
returns g c =
    let p = c.args.self.now in
    let m = c.seek.new.self in
    let n = c.in_ok-count.count in
    let left = g.S.Source.left in
    let seek = c.in_ok-count.ensures in
    let some : 0 < n = omega (arith, c.if-count-eq0.false) in
    let going : at_line_end p ≡ true → ⊥ = λ e. let none : (let a : Result ℕ TokenFault = Ok n in a) ≡ Ok 0 = (seek.again e).0 in let zero : n ≡ 0 = cc none in c.if-count-eq0.false zero in (
      (
        refl,
        λ _. tt,
        leaves_word p m c.take.follows.lender-at-none n c.take.result (left c.args.src.now) (left c.seek.new.src) some c.take.follows.holds-at-none c.take.ensures.word seek.takes going seek.told (seek.word some),
      ),
      record {
        answer = answers_word (ahead p (left c.args.src.now)) (ahead m (left c.seek.new.src)) p m n c.take.result.now some c.take.ensures.word seek.told;
        again = λ e. absurd (going e);
        ended = seek.ended;
        count = seek.count;
        read = λ e. cc e;
        after = tt;
      },
    )
