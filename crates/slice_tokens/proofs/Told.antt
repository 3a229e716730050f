-- What two places of one stream have in common, where its bytes are told.
use Rattle.std.proofs.Common.{◌≡◌, ℕ, ◌≤◌, true, false, List, [], ◌++◌, drop, if◌then◌else◌, Option, Some, None, IfSome, Ok, refl, sym, ap, ◌∙◌, subst, add-zero}
use Rattle.std.specs.Io.KnownBytes.{Keeps}
use Rattle.session_rules.specs.Lines.{Line, is_nil, most_bytes}
use Rattle.slice_tokens.specs.declared.window.Standing.{Standing}
use Rattle.slice_tokens.specs.declared.window.Standing.TheVariants.{Start, Content, Comment}
use Rattle.std.specs.Borrow.{Bor}
use Rattle.slice_tokens.specs.declared.token.Token.TheVariants.{Word}
use Rattle.slice_tokens.specs.Place.{Place, WhereTold, ahead, present, following, lines_behind, is_cut, last_line}
use Rattle.slice_tokens.specs.Due.{due, due_end}
use Rattle.slice_tokens.specs.Calls.{Moves, SameLater, SameLines, LeavesLines, without_first, begins_line_feed, stands_in_content, at_line_end}
use Rattle.slice_tokens.specs.Held.{Stays, Same, Next, readable, blanks}
use Rattle.slice_tokens.proofs.Places.{passed_refl, passed_trans, later_same, looked, looked_same, present_bare}

-- ---- one call after the other

pub told_refl : (a : Option (List ℕ)) (P : List ℕ → List ℕ → Type 0) → ((t : List ℕ) → P t t) → WhereTold a a P
told_refl None P f = tt
told_refl (Some t) P f = f t

pub told_keeps : (a b c : Option (List ℕ)) (P : List ℕ → List ℕ → Type 0) → WhereTold a b P → Keeps b c → WhereTold a c P
told_keeps None b c P h k = tt
told_keeps (Some t) None c P h k = absurd h
told_keeps (Some t) (Some u) None P h k = absurd k
told_keeps (Some t) (Some u) (Some v) P h k = subst (P t) (sym k) h

pub told_weaker : (a b : Option (List ℕ)) (P Q : List ℕ → List ℕ → Type 0) → ((t u : List ℕ) → P t u → Q t u) → WhereTold a b P → WhereTold a b Q
told_weaker None b P Q f h = tt
told_weaker (Some t) None P Q f h = absurd h
told_weaker (Some t) (Some u) P Q f h = f t u h

-- a step over what is held, whatever comes behind it
pub told_step : (o a : Option (List ℕ)) (p q : Place) (P Q R : List ℕ → List ℕ → Type 0) → q.ended ≡ p.ended → WhereTold o (ahead p a) P
    → ((b : List ℕ) → (p.ended ≡ true → b ≡ []) → Q (p.held ++ b) (q.held ++ b)) → ((t u v : List ℕ) → P t u → Q u v → R t v) → WhereTold o (ahead q a) R
told_step None a p q P Q R e h f g = tt
told_step (Some t) None p q P Q R e h f g = absurd h
told_step (Some t) (Some x) p q P Q R e h f g =
    rw e (let b = if p.ended then [] else x in g t (p.held ++ b) (q.held ++ b) h (f b (λ k. ap (λ c. if c then [] else x) k)))

-- ---- the same lines

pub later_refl : (p : Place) (t : List ℕ) → SameLater p t p t
later_refl p t = record { lines = refl; cut = refl; last = refl; passed = passed_refl p t }

pub later_trans : (p q r : Place) (t u v : List ℕ) → SameLater p t q u → SameLater q u r v → SameLater p t r v
later_trans p q r t u v h k = record { lines = k.lines ∙ h.lines; cut = k.cut ∙ h.cut; last = k.last ∙ h.last; passed = passed_trans p q r t u v h.passed k.passed }

pub same_refl : (p : Place) (t : List ℕ) → Same p t p t
same_refl p t = record { present = refl; behind = later_refl p t }

pub same_trans : (p q r : Place) (t u v : List ℕ) → Same p t q u → Same q u r v → Same p t r v
same_trans p q r t u v h k = record { present = k.present ∙ h.present; behind = later_trans p q r t u v h.behind k.behind }

-- where the window stands as it did in its line, all that was due still is
pub same_lines : (p q : Place) (t u : List ℕ) → q.fresh ≡ p.fresh → Same p t q u → SameLines p t q u
same_lines p q t u e h = record { present = h.present; later = later_same p q t u e h.present h.behind.lines; behind = h.behind }

pub told_lines : (a b : Option (List ℕ)) (p q : Place) (Q : List ℕ → Type 0) → q.fresh ≡ p.fresh
    → WhereTold a b (λ t u. Same p t q u × Q u) → WhereTold a b (λ t u. SameLines p t q u × Q u)
told_lines a b p q Q e h = told_weaker a b (λ t u. Same p t q u × Q u) (λ t u. SameLines p t q u × Q u) (λ t u k. (same_lines p q t u e k.0, k.1)) h

-- a word was taken behind that
pub told_word : (a b c : Option (List ℕ)) (p m q : Place) (word : Bor (List ℕ)) (Q : List ℕ → Type 0)
    → WhereTold a b (λ t u. SameLines p t m u × Q u) → WhereTold b c (λ u v. Next m u q v) → WhereTold a c (λ t v. LeavesLines (Ok (Word word)) p t q v)
told_word None b c p m q word Q h k = tt
told_word (Some t) None c p m q word Q h k = absurd h
told_word (Some t) (Some u) None p m q word Q h k = absurd k
told_word (Some t) (Some u) (Some v) p m q word Q h k = record {
  present = k.present ∙ ap (λ (l : Line). let n : Line = record l { words = without_first l.words } in n) h.0.present;
  behind = later_trans p m q t u v h.0.behind k.behind;
}

-- a read changes nothing of the lines to come
pub present_stays : (q r : Place) (u : List ℕ) → Stays q r → present r u ≡ present q u
unfolding present
present_stays q r u k = rw (k.standing, k.line, k.passed)

pub later_stays : (q r : Place) (u : List ℕ) → Stays q r → SameLater q u r u
unfolding lines_behind following is_cut last_line
later_stays q r u k = record { lines = rw (k.standing, k.line, k.passed); cut = rw k.passed; last = rw (k.line, k.passed); passed = record { front = []; whole = refl; count = k.passed ∙ sym (add-zero q.passed) } }

pub same_stays : (s q r : Place) (t u : List ℕ) → Stays q r → Same s t q u → Same s t r u
same_stays s q r t u k h = same_trans s q r t u u h (record { present = present_stays q r u k; behind = later_stays q r u k })

-- ---- before the first line, and in a comment

pub due_bare : (p : Place) (t : List ℕ) → stands_in_content p.standing ≡ false → due (present p t) ≡ due_end
due_bare p t n = by_standing p.standing refl n
  where
    by_standing : (st : Standing) → p.standing ≡ st → stands_in_content st ≡ false → due (present p t) ≡ due_end
    by_standing Start e n = ap due (present_bare p t Start e refl)
    by_standing Content e n = cc
    by_standing Comment e n = ap due (present_bare p t Comment e refl)

pub told_bare : (p : Place) (a : Option (List ℕ)) → stands_in_content p.standing ≡ false → IfSome (ahead p a) (λ t. due (present p t) ≡ due_end)
told_bare p None n = tt
told_bare p (Some x) n = due_bare p _ n

-- outside of content lines the line's end is seen
pub end_bare : (p : Place) → stands_in_content p.standing ≡ false → at_line_end p ≡ true
end_bare p n = ap (λ q. if q then (if is_nil p.held then p.ended else begins_line_feed (readable p)) else true) n

-- ---- what `find` keeps

-- the window is before the same word, and where it was at the line's end nothing has changed
pub record Finding {S : Type 0} (p q : Place) (x y : S) (a b : Option (List ℕ)) (m n : ℕ) : Type 0 where
  pub standing : q.standing ≡ Content
  pub line : q.line ≡ p.line
  pub fresh : q.fresh ≡ p.fresh
  pub moves : Moves p q
  pub again : at_line_end p ≡ true → (q ≡ p) × (y ≡ x)
  pub ended : p.ended ≡ true → y ≡ x
  pub told : WhereTold (ahead p a) (ahead q b) (λ t u. Same p t q u)
  pub count : m ≤ n

-- what is known after a look of every tail that may come
pub told_look : (o a : Option (List ℕ)) (s p : Place) (Q : List ℕ → Type 0) → p.passed ≤ most_bytes → p.standing ≡ Content → WhereTold o (ahead p a) (λ t u. Same s t p u)
    → ((b : List ℕ) → (p.ended ≡ true → b ≡ []) → Q (drop (blanks p) p.held ++ b)) → WhereTold o (ahead (looked p) a) (λ t u. Same s t (looked p) u × Q u)
told_look o a s p Q bound content h f =
    told_step o a p (looked p) (λ t u. Same s t p u) (λ u v. Same p u (looked p) v × Q v) (λ t u. Same s t (looked p) u × Q u) refl h
    (λ b none. (looked_same p b bound content, f b none)) (λ t u v k l. (same_trans s p (looked p) t u v k l.0, l.1))

pub told_looked : (o a : Option (List ℕ)) (s p : Place) → p.passed ≤ most_bytes → p.standing ≡ Content → WhereTold o (ahead p a) (λ t u. Same s t p u)
    → WhereTold o (ahead (looked p) a) (λ t u. Same s t (looked p) u)
told_looked o a s p bound content h =
    told_step o a p (looked p) (λ t u. Same s t p u) (λ u v. Same p u (looked p) v) (λ t u. Same s t (looked p) u) refl h
    (λ b none. looked_same p b bound content) (λ t u v k l. same_trans s p (looked p) t u v k l)

pub told_stays : (a b : Option (List ℕ)) (s q r : Place) → Stays q r → WhereTold a b (λ t u. Same s t q u) → WhereTold a b (λ t u. Same s t r u)
told_stays a b s q r k h = told_weaker a b (λ t u. Same s t q u) (λ t u. Same s t r u) (λ t u. same_stays s q r t u k) h
