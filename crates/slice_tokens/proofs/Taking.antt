-- What `next` leaves and answers where it takes a word.
use Rattle.std.proofs.Common.{◌≡◌, ℕ, zero, suc, ◌<◌, ◌≤◌, true, List, length, take, Option, Some, None, IfSome, Ok, sym, ap, ◌∙◌, subst, arith, length-take}
use Rattle.std.specs.Borrow.{Bor}
use Rattle.slice_tokens.specs.declared.token.Token.TheVariants.{Word}
use Rattle.slice_tokens.specs.Place.{Place, WhereTold, ahead, room, present}
use Rattle.slice_tokens.specs.Due.{due, due_word}
use Rattle.slice_tokens.specs.Calls.{SameLines, Leaves, at_line_end}
use Rattle.slice_tokens.specs.Held.{passed_over, Takes, Holds, Finds, Next}
use Rattle.slice_tokens.proofs.Places.{passed_some}
use Rattle.slice_tokens.proofs.Told.{told_word}

-- a word that is held
word_sizes : (m : Place) (n : ℕ) → 0 < n → Holds m (Ok n) → (n ≤ 32) × (n ≤ length m.held) × (n ≤ room m)
word_sizes m zero some h = absurd (omega (arith, some))
word_sizes m (suc n) some h = h

pub leaves_word : (p m q : Place) (n : ℕ) (word : Bor (List ℕ)) (a b : Option (List ℕ)) → 0 < n → q ≡ passed_over n m → word.now ≡ take n m.held → Takes p m (Ok n) → (at_line_end p ≡ true → ⊥)
    → WhereTold (ahead p a) (ahead m b) (λ t u. SameLines p t m u × Finds m u (Ok n)) → WhereTold (ahead m b) (ahead (passed_over n m) b) (λ u v. Next m u (passed_over n m) v)
    → Leaves (Ok (Word word)) p q (ahead p a) (ahead q b)
leaves_word p m q n word a b some after held takes going told next =
    let sizes = word_sizes m n some takes.holds in
    let long : length word.now ≡ n = ap length held ∙ omega (arith, length-take n m.held, sizes.1) in
    subst (λ z. Leaves (Ok (Word word)) p z (ahead p a) (ahead z b)) (sym after) (record {
      moves = record {
        passed = omega (arith, takes.moves.passed);
        bounded = omega (arith, takes.moves.bounded, sizes.2);
        counted = omega (arith, takes.moves.counted);
        ended = takes.moves.ended;
      };
      line = takes.line;
      standing = takes.standing;
      fresh = passed_some n m some;
      passes = (omega (arith, long, some), omega (arith, long, sizes.0), omega (arith, long, takes.moves.passed));
      again = λ e. absurd (going e);
      told = told_word (ahead p a) (ahead m b) (ahead (passed_over n m) b) p m (passed_over n m) word (λ u. Finds m u (Ok n)) told next;
    })

-- the word was due
found_word : (p m : Place) (t u : List ℕ) (n : ℕ) (w : List ℕ) → 0 < n → w ≡ take n m.held → SameLines p t m u → Finds m u (Ok n) → due (present p t) ≡ due_word w
found_word p m t u zero w some held same found = absurd (omega (arith, some))
found_word p m t u (suc n) w some held same found = ap due (sym same.present) ∙ found ∙ ap due_word (sym held)

pub answers_word : (a b : Option (List ℕ)) (p m : Place) (n : ℕ) (w : List ℕ) → 0 < n → w ≡ take n m.held
    → WhereTold a b (λ t u. SameLines p t m u × Finds m u (Ok n)) → IfSome a (λ t. due (present p t) ≡ due_word w)
answers_word None b p m n w some held told = tt
answers_word (Some t) None p m n w some held told = absurd told
answers_word (Some t) (Some u) p m n w some held told = found_word p m t u n w some held told.0 told.1
