use Rattle.std.proofs.Common.{◌≡◌, [], ◌++◌, Ok, sym, ap, ◌∙◌, subst, arith}
use Rattle.session_rules.specs.Reading.{literal_list}
use Rattle.slice_tokens.specs.Place.{ahead, WhereTold}
use Rattle.slice_tokens.specs.Held.{passed_over}
use Rattle.line_reading.specs.Parts.{ReadsPart}
use Rattle.line_reading.specs.Runs.{IsRun, IsWholeRun}
use Rattle.line_reading.specs.Kinds.{literal_says}
use Rattle.line_reading.proofs.Joined.{told_at_start}
use Rattle.line_reading.proofs.Collecting.{literal_list_is, succeeded, Collects, Collects-start, collecting_more, collecting_last, collecting_fault, collecting_memory}
use Rattle.line_reading.proofs.Running.{run_read, whole_read}
use Rattle.line_reading.proofs.lists.read_literals.Goals as goal

pub literals-init : goal.literals-init
literals-init g c =
    let p = c.args.window.now in
    let left = g.S.Source.left c.args.src.now in
    let n = c.in-Ok-default-false.count in
    let run = rw c.in-Ok-default-false.field-0-1-test at c.in-Ok-default-false.ensures.run in
    let all : c.push_run.new.lits ≡ run.0 = run.2 ∙ ap (λ l. l ++ run.0) c.empty_literals-lits.ensures in
    let read = run_read run.0 [] p p n left left c.coming.ensures.sound.bounded (subst (λ b. IsRun run.0 b n) c.coming.ensures.value run.1)
    (told_at_start (ahead p left) (λ t u. Collects literal_list [] p t p u) (Collects-start literal_list p)) in
    record {
      passed = c.pass_over-in-Ok-default-false.ensures.moves.passed;
      line = c.pass_over-in-Ok-default-false.ensures.line;
      standing = c.pass_over-in-Ok-default-false.ensures.standing;
      taken = c.pass_over-in-Ok-default-false.ensures.taken;
      ended = c.pass_over-in-Ok-default-false.ensures.moves.ended;
      told =
          subst (λ q. WhereTold (ahead p left) (ahead q left) (λ t u. Collects literal_list c.push_run.new.lits p t q u)) (sym c.pass_over-in-Ok-default-false.ensures.place)
          (subst (λ l. WhereTold (ahead p left) (ahead (passed_over n p) left) (λ t u. Collects literal_list l p t (passed_over n p) u)) (sym all) read);
      count = omega arith;
    }

pub returns-in-Ok-default-true : goal.returns-in-Ok-default-true
returns-in-Ok-default-true g c =
    let p = c.args.window.now in
    let left = g.S.Source.left c.args.src.now in
    let n = c.in-Ok-default-true.count in
    let run = rw c.in-Ok-default-true.field-0-1-test at c.in-Ok-default-true.ensures.run in
    let all : c.push_run.new.lits ≡ run.0 = run.2 ∙ ap (λ l. l ++ run.0) c.empty_literals-lits.ensures in
    record {
      part = record {
        stays = record { moves = c.pass_over.ensures.moves; line = c.pass_over.ensures.line; standing = c.pass_over.ensures.standing; taken = c.pass_over.ensures.taken };
        told =
            subst (λ q. WhereTold (ahead p left) (ahead q left) (λ t u. ReadsPart literal_list (Ok c.push_run.new.lits) p t q u)) (sym c.pass_over.ensures.place)
            (subst (λ l. WhereTold (ahead p left) (ahead (passed_over n p) left) (λ t u. ReadsPart literal_list (Ok l) p t (passed_over n p) u)) (sym all)
            (whole_read run.0 p n left c.coming.ensures.sound.bounded (subst (λ b. IsWholeRun run.0 b n) c.coming.ensures.value run.1)));
        count = omega arith;
        read = λ e. cc e;
      };
    }

pub literals-preserved : goal.literals-preserved
literals-preserved g c =
    let grown = succeeded c.push.result _ (sym c.is_err.ensures.value ∙ c.if-is_err.false) c.push.ensures.ok in
    rw grown (collecting_more literal_list literal_says literal_list_is c.literals.lits _ _ _ c.literals.invariant c.in-Ok-Some.l (rw c.in-Ok-Some.field-0-is at c.in-Ok-Some.ensures.part))

pub returns-in-Ok-None : goal.returns-in-Ok-None
returns-in-Ok-None g c = record { part = collecting_last literal_list literal_says literal_list_is c.literals.lits _ _ _ c.literals.invariant (rw c.in-Ok-None.field-0-is at c.in-Ok-None.ensures.part) }

pub returns-in-Err-next_word : goal.returns-in-Err-next_word
returns-in-Err-next_word g c = record { part = collecting_fault literal_list literal_says literal_list_is c.literals.lits _ _ _ c.literals.invariant c.in-Err-next_word.fault c.in-Err-next_word.ensures.part }

pub returns-then-is_err : goal.returns-then-is_err
returns-then-is_err g c = record { part = collecting_memory literal_list literal_says literal_list_is c.literals.lits _ _ _ c.literals.invariant c.in-Ok-Some.l (rw c.in-Ok-Some.field-0-is at c.in-Ok-Some.ensures.part) }
