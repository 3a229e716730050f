-- What `find` learns from a look.
use Rattle.std.proofs.Common.{◌≡◌, ℕ, zero, suc, ◌+◌, ◌-◌, ◌<◌, ◌≤◌, Bool, true, false, not, ◌&&◌, ◌||◌, nat_lt, List, [], ◌∷◌, ◌++◌, length, take, drop, filter, if◌then◌else◌, Option, Some, None, Ok, refl, sym, ap, ◌∙◌, subst, arith, append-nil, length-append, length-take, length-drop}
use Rattle.std.proofs.lemmas.Bool.{lt-ltb, le-ltb, true≢false}
use Rattle.std.proofs.lemmas.List.{drop_at, nil_from_length}
use Rattle.std.specs.List.{count_by}
use Rattle.session_rules.specs.Lines.{Line, is_nil, is_blank, is_line_feed, line_of, numbered, counts, most_bytes}
use Rattle.slice_tokens.specs.declared.window.Standing.TheVariants.{Content}
use Rattle.slice_tokens.specs.Place.{Place, WhereTold, ahead, room, lines_from, first_of, behind_first, bare_line, present, following_of, is_cut}
use Rattle.slice_tokens.specs.Due.{due, due_word, due_end, due_long, due_cut}
use Rattle.slice_tokens.specs.Calls.{without_first}
use Rattle.slice_tokens.specs.Held.{passed_over, is_word_byte, readable, blanks, word_len, Next, Finds}
use Rattle.slice_tokens.proofs.Texts.{Runs, Free-from_Runs}
use Rattle.slice_tokens.proofs.Rows.{rows, first_text, more_texts, Stops, Closes, rows_word, rows_shape, word_before, due_at_word, due_at_end, due_at_long, due_at_cut, word_not_line_feed}
use Rattle.slice_tokens.proofs.Places.{Fails, fails_prefix, visible, lines_are, present_is, following_is, behind_is, last_is, visible_after, cut_after, count_free, beyond, word, behind, looked, looked_bounds, looked_visible, looked_cut, passed_held, Stands, word_held, runs_word, length-word}

-- a byte that is no word's and no blank is a line feed
pub line_feed_left : (y : ℕ) → is_word_byte y ≡ false → is_blank y ≡ false → is_line_feed y ≡ true
line_feed_left y h b = by_test (is_blank y) (is_line_feed y) h b
  where
    by_test : (a c : Bool) → not (a || c) ≡ false → a ≡ false → c ≡ true
    by_test true c h b = absurd (true≢false b)
    by_test false true h b = refl
    by_test false false h b = absurd (true≢false h)

stops_at : (c : Bool) (r m : List ℕ) → 0 < length r → Fails is_word_byte r → Stops c (r ++ m)
stops_at c [] m some h = absurd (omega arith)
stops_at c (y ∷ r) m some h = h

closes_at : (c : Bool) (r m : List ℕ) → 0 < length r → Fails is_word_byte r → Fails is_blank r → Closes c (r ++ m)
closes_at c [] m some h b = absurd (omega arith)
closes_at c (y ∷ r) m some h b = line_feed_left y h b

-- the word ends within what is held
pub stands_ended : (p : Place) (b : List ℕ) → p.passed ≤ most_bytes → blanks p + word_len p < length (readable p) → Stands (looked p) (drop (blanks p) p.held ++ b) (word_len p)
stands_ended p b h inside =
    let c = is_cut (looked p) (drop (blanks p) p.held ++ b) in
    let long = length-drop (blanks p) (readable p) in
    let some : 0 < length (behind p) = omega (arith, long, length-drop (word_len p) (drop (blanks p) (readable p))) in
    let fails = fails_prefix is_word_byte (drop (blanks p) (readable p)) in
    record {
      word = word p;
      rest = behind p ++ beyond p b;
      whole = looked_visible p b h;
      runs = runs_word p;
      long = length-word p;
      held = word_held p (omega arith);
      stops = stops_at c (behind p) (beyond p b) some fails;
      closes = λ zero.
          let same : behind p ≡ drop (blanks p) (readable p) = ap (λ k. drop k (drop (blanks p) (readable p))) zero in
          closes_at c (behind p) (beyond p b) some fails (subst (Fails is_blank) (sym same) (fails_prefix is_blank (readable p)));
    }

-- whether a further byte comes, as a test
pub cut_is : (p : Place) (t : List ℕ) → is_cut p t ≡ nat_lt (room p) (length t)
unfolding is_cut
cut_is p t = refl

-- the word ends with the stream
pub stands_last : (p : Place) → p.passed ≤ most_bytes → blanks p + word_len p ≡ length (readable p) → length p.held ≤ room p → Stands (looked p) (drop (blanks p) p.held ++ []) (word_len p)
stands_last p h whole all =
    let bounds = looked_bounds p h in
    let u = drop (blanks p) p.held ++ [] in
    let long = length-drop (blanks p) (readable p) in
    let none : behind p ++ beyond p [] ≡ [] = nil_from_length (behind p ++ beyond p [])
    (omega (arith, long, length-append (behind p) (beyond p []), length-drop (word_len p) (drop (blanks p) (readable p)), length-take {A = ℕ} (room p - length p.held) [])) in
    let uncut : is_cut (looked p) u ≡ false = looked_cut p [] h ∙ cut_is p (p.held ++ []) ∙ le-ltb (room p) (length (p.held ++ [])) (omega (arith, length-append p.held [])) in
    record {
      word = word p;
      rest = [];
      whole = looked_visible p [] h ∙ ap (λ l. word p ++ l) none;
      runs = runs_word p;
      long = length-word p;
      held = word_held p (omega arith);
      stops = uncut;
      closes = λ _. uncut;
    }

-- the lines at a place, as its word and the rest
stands_lines : (p : Place) (t : List ℕ) (w rest : List ℕ) → visible p t ≡ w ++ rest → lines_from p t ≡ rows p.line (is_cut p t) (w ++ rest)
stands_lines p t w rest e = lines_are p t ∙ ap (rows p.line (is_cut p t)) e

pub due_zero : (p : Place) (t : List ℕ) → p.standing ≡ Content → Stands p t 0 → due (present p t) ≡ due_end
due_zero p t f s =
    let none : s.word ≡ [] = nil_from_length s.word s.long in
    let seen : visible p t ≡ s.rest = s.whole ∙ ap (λ l. l ++ s.rest) none in
    ap due (present_is p t f ∙ ap (first_of (bare_line p.line)) (stands_lines p t [] s.rest seen)) ∙ due_at_end (bare_line p.line) p.line (is_cut p t) s.rest (s.closes refl)

-- where a word of some bytes stands
word_lines : (p : Place) (t w rest : List ℕ) → visible p t ≡ w ++ rest → 0 < length w → Runs is_word_byte w → Stops (is_cut p t) rest
    → lines_from p t ≡ word_before w (line_of p.line (is_cut p t && is_nil (more_texts rest)) (first_text rest)) ∷ numbered (p.line + 1) (is_cut p t) (more_texts rest)
word_lines p t [] rest e some r stops = absurd (omega arith)
word_lines p t (x ∷ w) rest e some r stops = stands_lines p t (x ∷ w) rest e ∙ rows_word p.line (is_cut p t) x w rest r stops

pub due_some : (p : Place) (t : List ℕ) (n : ℕ) → p.standing ≡ Content → 0 < n → n ≤ 32 → Stands p t n → due (present p t) ≡ due_word (take n p.held)
due_some p t n f some short s =
    ap due (present_is p t f ∙ ap (first_of (bare_line p.line)) (word_lines p t s.word s.rest s.whole (omega (arith, s.long)) s.runs s.stops))
    ∙ due_at_word p.line (is_cut p t && is_nil (more_texts s.rest)) s.word (first_text s.rest) (omega (arith, s.long)) ∙ ap due_word (sym s.held)

-- passing over a word
pub next_some : (p : Place) (b : List ℕ) (n : ℕ) → p.standing ≡ Content → 0 < n → n ≤ length p.held → p.passed + n ≤ most_bytes → Stands p (p.held ++ b) n
    → Next p (p.held ++ b) (passed_over n p) (drop n p.held ++ b)
next_some p b n f some here bound s =
    let t = p.held ++ b in
    let q = passed_over n p in
    let u = drop n p.held ++ b in
    let c = is_cut p t in
    let before = word_lines p t s.word s.rest s.whole (omega (arith, s.long)) s.runs s.stops in
    let seen : visible q u ≡ s.rest = visible_after n p b here bound ∙ ap (drop n) s.whole ∙ drop_at s.word s.rest n s.long in
    let after : lines_from q u ≡ line_of p.line (c && is_nil (more_texts s.rest)) (first_text s.rest) ∷ numbered (p.line + 1) c (more_texts s.rest) =
    lines_are q u ∙ ap (λ d. rows p.line d (visible q u)) (cut_after n p b here bound) ∙ ap (rows p.line c) seen ∙ rows_shape p.line c s.rest in
    record {
      present = present_is q u f ∙ ap (first_of (bare_line p.line)) after
          ∙ sym (ap (λ (l : Line). let k : Line = record l { words = without_first l.words } in k) (present_is p t f ∙ ap (first_of (bare_line p.line)) before));
      behind = record {
        lines = behind_is q u ∙ ap (filter counts) (following_is q u ∙ ap (λ st. following_of st (lines_from q u)) f ∙ ap behind_first after)
            ∙ sym (behind_is p t ∙ ap (filter counts) (following_is p t ∙ ap (λ st. following_of st (lines_from p t)) f ∙ ap behind_first before));
        cut = cut_after n p b here bound;
        passed = passed_held n p q b here refl;
        last = last_is q u ∙ ap (λ l. p.line + count_by is_line_feed l) seen
            ∙ sym (last_is p t ∙ ap (λ l. p.line + count_by is_line_feed l) s.whole ∙ ap (λ k. p.line + k) (count_free is_line_feed s.word s.rest (Free-from_Runs is_word_byte is_line_feed word_not_line_feed s.word s.runs)));
      };
    }

-- a word that is too long
pub due_too_long : (p : Place) (b : List ℕ) → p.passed ≤ most_bytes → p.standing ≡ Content → 32 < word_len p → due (present (looked p) (drop (blanks p) p.held ++ b)) ≡ due_long
due_too_long p b h f long =
    let u = drop (blanks p) p.held ++ b in
    ap due (present_is (looked p) u f ∙ ap (first_of (bare_line p.line)) (stands_lines (looked p) u (word p) (behind p ++ beyond p b) (looked_visible p b h)))
    ∙ by_word (word p) (runs_word p) (omega (arith, length-word p))
  where
    by_word : (w : List ℕ) → Runs is_word_byte w → 32 < length w
        → due (first_of (bare_line p.line) (rows p.line (is_cut (looked p) (drop (blanks p) p.held ++ b)) (w ++ (behind p ++ beyond p b)))) ≡ due_long
    by_word [] r l = absurd (omega arith)
    by_word (x ∷ w) r l = due_at_long (bare_line p.line) p.line _ x w _ r l

-- a word at the bound
pub due_at_bound : (p : Place) (b : List ℕ) → p.passed ≤ most_bytes → p.standing ≡ Content → word_len p ≤ 32 → blanks p + word_len p ≡ length (readable p) → room p < length p.held
    → due (present (looked p) (drop (blanks p) p.held ++ b)) ≡ due_cut
due_at_bound p b h f short whole over =
    let bounds = looked_bounds p h in
    let u = drop (blanks p) p.held ++ b in
    let long = length-drop (blanks p) (readable p) in
    let none : behind p ++ beyond p b ≡ [] = nil_from_length (behind p ++ beyond p b)
    (omega (arith, long, length-append (behind p) (beyond p b), length-drop (word_len p) (drop (blanks p) (readable p)), length-take (room p - length p.held) b)) in
    let cut : is_cut (looked p) u ≡ true = looked_cut p b h ∙ cut_is p (p.held ++ b) ∙ lt-ltb (room p) (length (p.held ++ b)) (omega (arith, length-append p.held b)) in
    ap due (present_is (looked p) u f ∙ ap (first_of (bare_line p.line)) (lines_are (looked p) u))
    ∙ ap (λ l. due (first_of (bare_line p.line) (rows p.line (is_cut (looked p) u) l))) (looked_visible p b h ∙ ap (λ l. word p ++ l) none ∙ append-nil (word p))
    ∙ ap (λ c. due (first_of (bare_line p.line) (rows p.line c (word p)))) cut
    ∙ due_at_cut (bare_line p.line) p.line (word p) (runs_word p) (omega (arith, length-word p))

-- ---- what `find` learns

pub finds_ok : (q : Place) (u : List ℕ) (n : ℕ) → q.standing ≡ Content → n ≤ 32 → Stands q u n → Finds q u (Ok n)
finds_ok q u zero f short s = due_zero q u f s
finds_ok q u (suc n) f short s = due_some q u (suc n) f (omega arith) short s

pub word_bounds : (p : Place) → p.passed ≤ most_bytes → blanks p + word_len p ≤ length (readable p) → (word_len p ≤ length (drop (blanks p) p.held)) × (p.passed + blanks p + word_len p ≤ most_bytes)
word_bounds p h inside =
    let l = length-take (room p) p.held in
    let d = length-drop (blanks p) p.held in
    (omega arith, omega arith)

-- what is behind the word that was found
pub next_told : (a : Option (List ℕ)) (p : Place) (n : ℕ) → p.passed ≤ most_bytes → p.standing ≡ Content → n ≡ word_len p → 0 < n → blanks p + n ≤ length (readable p)
    → ((b : List ℕ) → (p.ended ≡ true → b ≡ []) → Stands (looked p) (drop (blanks p) p.held ++ b) (word_len p))
    → WhereTold (ahead (looked p) a) (ahead (passed_over n (looked p)) a) (λ t u. Next (looked p) t (passed_over n (looked p)) u)
next_told None p n bound f e some inside stands = tt
next_told (Some x) p n bound f e some inside stands =
    let b = if p.ended then [] else x in
    let bounds = word_bounds p bound (omega arith) in
    next_some (looked p) b n f some (omega (arith, bounds.0)) (omega (arith, bounds.1)) (subst (Stands (looked p) (drop (blanks p) p.held ++ b)) (sym e) (stands b (λ h. ap (λ q. if q then [] else x) h)))

-- the same for a word that ends with the stream
pub stands_last_at : (p : Place) (b : List ℕ) → p.passed ≤ most_bytes → blanks p + word_len p ≡ length (readable p) → length p.held ≤ room p → b ≡ [] → Stands (looked p) (drop (blanks p) p.held ++ b) (word_len p)
stands_last_at p b h whole all none = subst (λ l. Stands (looked p) (drop (blanks p) p.held ++ l) (word_len p)) (sym none) (stands_last p h whole all)
