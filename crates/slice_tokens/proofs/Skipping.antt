-- What a step to the next content line keeps.
use Rattle.std.proofs.Common.{◌≡◌, ◌≢◌, ℕ, zero, suc, ◌+◌, ◌<◌, ◌≤◌, Bool, true, false, not, ◌&&◌, ◌||◌, ◌==◌, nat_eq, List, [], ◌∷◌, ◌++◌, length, take, drop, get_or, filter, if◌then◌else◌, refl, sym, ap, ◌∙◌, arith, append-nil, add_assoc}
use Rattle.std.proofs.lemmas.Bool.{eqb-true}
use Rattle.std.proofs.lemmas.List.Sums.{prefix_len_stops}
use Rattle.std.specs.List.{count_by}
use Rattle.session_rules.specs.Lines.{Line, is_nil, is_blank, is_line_feed, words, line_of, numbered, has_content, counts, most_bytes}
use Rattle.slice_tokens.specs.declared.window.Standing.{Standing}
use Rattle.slice_tokens.specs.declared.window.Standing.TheVariants.{Start, Content, Comment}
use Rattle.slice_tokens.specs.Place.{Place, begins_content, lines_from, first_of, behind_first, in_comment, without_words, bare_line, present, following_of, lines_behind, is_cut, last_line}
use Rattle.slice_tokens.specs.Calls.{but_comment}
use Rattle.slice_tokens.specs.Held.{same_standing, passed_over, past_line, is_word_byte, readable, blanks, SameBehind, EntersLine}
use Rattle.slice_tokens.proofs.LineEnd.{looked_readable}
use Rattle.std.proofs.lemmas.List.{drop_more}
use Rattle.slice_tokens.proofs.Texts.{Free, words_blanks, words_nil}
use Rattle.slice_tokens.proofs.Rows.{rows, first_text, more_texts, rows_shape, rows_end, rows_blanks, content_at_word, uncounted, following_front, following_end}
use Rattle.slice_tokens.proofs.Places.{runs_prefix, visible, lines_are, present_is, following_is, behind_is, last_is, cut_after, count_free, count_one, looked, looked_lines, looked_cut, looked_last, looked_later, free_blanks, pass_bounds, passed_held, looked_bounds, left, seen_after, seen_before, seen_at, last_free}

-- the lines to come as those of what may be read
behind_rows : (p : Place) (t : List ℕ) (st : Standing) (c : Bool) (v : List ℕ) → p.standing ≡ st → is_cut p t ≡ c → visible p t ≡ v → lines_behind p t ≡ filter counts (following_of st (rows p.line c v))
behind_rows p t st c v e k s =
    behind_is p t ∙ ap (filter counts) (following_is p t ∙ ap (λ x. following_of x (lines_from p t)) e ∙ ap (following_of st) (lines_are p t ∙ ap (λ x. rows p.line x (visible p t)) k ∙ ap (rows p.line c) s))

-- ---- over the rest of a line

pub rest_skip : (n : ℕ) (p : Place) (b : List ℕ) → p.passed ≤ most_bytes → same_standing p.standing Start ≡ false → n ≤ length (readable p) → Free is_line_feed (take n (readable p))
    → SameBehind p (p.held ++ b) (passed_over n p) (drop n p.held ++ b)
rest_skip n p b h f inside free =
    let t = p.held ++ b in
    let q = passed_over n p in
    let u = drop n p.held ++ b in
    let c = is_cut p t in
    let bounds = pass_bounds n p h inside in
    let cut = cut_after n p b bounds.0 bounds.1 in
    let before = behind_rows p t p.standing c (take n (readable p) ++ left n p b) refl refl (seen_before n p b) in
    let after = behind_rows q u p.standing c (left n p b) refl cut (seen_after n p b h inside) in
    record {
      lines = ap but_comment (after ∙ sym (before ∙ ap (filter counts) (following_front p.standing p.line c (take n (readable p)) (left n p b) f free)));
      cut = cut;
      last = last_free n p b h inside free;
      passed = passed_held n p q b bounds.0 refl;
    }

-- the last line is the same behind a line feed
last_after : (n : ℕ) (p : Place) (b : List ℕ) (d : ℕ) → p.passed ≤ most_bytes → n < length (readable p) → Free is_line_feed (take n (readable p)) → is_line_feed (get_or (readable p) n d) ≡ true
    → last_line (past_line (n + 1) p) (drop (n + 1) p.held ++ b) ≡ last_line p (p.held ++ b)
last_after n p b d h inside free e =
    let r = left (n + 1) p b in
    let y = get_or (readable p) n d in
    last_is (past_line (n + 1) p) (drop (n + 1) p.held ++ b)
    ∙ ap (λ l. p.line + 1 + count_by is_line_feed l) (seen_after (n + 1) p b h (omega arith))
    ∙ add_assoc p.line 1 (count_by is_line_feed r)
    ∙ ap (λ k. p.line + k) (sym (count_one is_line_feed y r e) ∙ sym (count_free is_line_feed (take n (readable p)) (y ∷ r) free))
    ∙ sym (last_is p (p.held ++ b) ∙ ap (λ l. p.line + count_by is_line_feed l) (seen_at n p b d inside))

-- whether a further byte comes doesn't depend on the line
cut_past : (n : ℕ) (p : Place) (b : List ℕ) → n ≤ length p.held → p.passed + n ≤ most_bytes → is_cut (past_line n p) (drop n p.held ++ b) ≡ is_cut p (p.held ++ b)
unfolding is_cut
cut_past n p b here bound = cut_after n p b here bound

-- the lines to come behind a line feed
behind_past : (n : ℕ) (p : Place) (b : List ℕ) → p.passed ≤ most_bytes → n ≤ length (readable p)
    → lines_behind (past_line n p) (drop n p.held ++ b) ≡ filter counts (rows (p.line + 1) (is_cut p (p.held ++ b)) (left n p b))
behind_past n p b h inside =
    let bounds = pass_bounds n p h inside in
    behind_rows (past_line n p) (drop n p.held ++ b) Start (is_cut p (p.held ++ b)) (left n p b) refl (cut_past n p b bounds.0 bounds.1) (seen_after n p b h inside)

pub line_skip : (n : ℕ) (p : Place) (b : List ℕ) (d : ℕ) → p.passed ≤ most_bytes → same_standing p.standing Start ≡ false → n < length (readable p) → Free is_line_feed (take n (readable p)) → is_line_feed (get_or (readable p) n d) ≡ true
    → SameBehind p (p.held ++ b) (past_line (n + 1) p) (drop (n + 1) p.held ++ b)
line_skip n p b d h f inside free e =
    let t = p.held ++ b in
    let c = is_cut p t in
    let y = get_or (readable p) n d in
    let more : n + 1 ≤ length (readable p) = omega arith in
    let bounds = pass_bounds (n + 1) p h more in
    let before = behind_rows p t p.standing c (take n (readable p) ++ (y ∷ left (n + 1) p b)) refl refl (seen_at n p b d inside) in
    record {
      lines = ap but_comment (behind_past (n + 1) p b h more ∙ sym (before ∙ following_end p.standing p.line c (take n (readable p)) y (left (n + 1) p b) f free e));
      cut = cut_past (n + 1) p b bounds.0 bounds.1;
      last = last_after n p b d h inside free e;
      passed = passed_held (n + 1) p (past_line (n + 1) p) b bounds.0 refl;
    }

-- ---- from a line's beginning

pub blanks_skip : (p : Place) (b : List ℕ) → p.passed ≤ most_bytes → SameBehind p (p.held ++ b) (looked p) (drop (blanks p) p.held ++ b)
blanks_skip p b h = let same = looked_later p b h in record { lines = ap but_comment same.lines; cut = same.cut; last = same.last; passed = same.passed }

-- blanks alone are no content
bare_content : (p : Place) → has_content (words (take (blanks p) (readable p))) ≡ false
bare_content p =
    ap (λ l. has_content (words l)) (sym (append-nil (take (blanks p) (readable p))))
    ∙ ap has_content (words_blanks (take (blanks p) (readable p)) [] (runs_prefix is_blank (readable p)) ∙ words_nil)

pub bare_skip : (p : Place) (b : List ℕ) (d : ℕ) → p.passed ≤ most_bytes → p.standing ≡ Start → blanks p < length (readable p) → is_line_feed (get_or (readable p) (blanks p) d) ≡ true
    → SameBehind p (p.held ++ b) (past_line (blanks p + 1) p) (drop (blanks p + 1) p.held ++ b)
bare_skip p b d h f inside e =
    let n = blanks p in
    let t = p.held ++ b in
    let c = is_cut p t in
    let s = take n (readable p) in
    let r = left (n + 1) p b in
    let more : n + 1 ≤ length (readable p) = omega arith in
    let bounds = pass_bounds (n + 1) p h more in
    let before : lines_behind p t ≡ filter counts (line_of p.line false s ∷ rows (p.line + 1) c r) =
    behind_rows p t Start c (s ++ (get_or (readable p) n d ∷ r)) f refl (seen_at n p b d inside) ∙ ap (filter counts) (rows_end p.line c s (get_or (readable p) n d) r (free_blanks p) e) in
    record {
      lines = ap but_comment (behind_past (n + 1) p b h more ∙ sym (before ∙ uncounted (line_of p.line false s) (rows (p.line + 1) c r) (bare_content p) refl));
      cut = cut_past (n + 1) p b bounds.0 bounds.1;
      last = last_after n p b d h inside (free_blanks p) e;
      passed = passed_held (n + 1) p (past_line (n + 1) p) b bounds.0 refl;
    }

-- the lines from a line's beginning on, where a byte stands behind the blanks
first_lines : (p : Place) (b : List ℕ) (d : ℕ) → blanks p < length (readable p) → lines_from p (p.held ++ b) ≡ rows p.line (is_cut p (p.held ++ b)) (get_or (readable p) (blanks p) d ∷ left (blanks p + 1) p b)
first_lines p b d inside =
    let t = p.held ++ b in
    lines_are p t ∙ ap (rows p.line (is_cut p t)) (seen_at (blanks p) p b d inside)
    ∙ rows_blanks p.line (is_cut p t) (take (blanks p) (readable p)) (get_or (readable p) (blanks p) d ∷ left (blanks p + 1) p b) (runs_prefix is_blank (readable p))

-- a line without content counts if it is cut, and then without its words
without_content : (l : Line) (ls : List Line) → has_content l.words ≡ false → but_comment (filter counts (without_words l ∷ ls)) ≡ but_comment (filter counts (l ∷ ls))
without_content l ls e = by_cut l.cut refl
  where
    by_cut : (q : Bool) → l.cut ≡ q → but_comment (filter counts (without_words l ∷ ls)) ≡ but_comment (filter counts (l ∷ ls))
    by_cut true f =
        ap (λ q. but_comment (if (q || false) then without_words l ∷ filter counts ls else filter counts ls)) f
        ∙ sym (ap (λ q. but_comment (if (q || has_content l.words) then l ∷ filter counts ls else filter counts ls)) f ∙ ap (λ q. (if q then l else without_words l) ∷ filter counts ls) e)
    by_cut false f = ap but_comment (uncounted (without_words l) ls refl f ∙ sym (uncounted l ls e f))

-- a comment goes on to the end of its line
comment_content : (m : ℕ) (c : Bool) (y : ℕ) (r : List ℕ) → y ≡ 99 → but_comment (filter counts (in_comment (rows m c r))) ≡ but_comment (filter counts (rows m c (y ∷ r)))
comment_content m c y r e =
    let word : is_word_byte y ≡ true = ap is_word_byte e in
    let l = line_of m (c && is_nil (more_texts (y ∷ r))) (first_text (y ∷ r)) in
    let ls = numbered (m + 1) c (more_texts (y ∷ r)) in
    let none : has_content l.words ≡ false =
    sym (ap (λ ls. has_content (first_of l ls).words) (rows_shape m c (y ∷ r))) ∙ content_at_word l m c y r word ∙ ap (λ k. not (k == 99)) e in
    ap (λ ls. but_comment (filter counts ls)) (sym (following_front Comment m c (y ∷ []) r refl (ap is_line_feed e, tt)) ∙ ap in_comment (rows_shape m c (y ∷ r)))
    ∙ without_content l ls none ∙ ap (λ ls. but_comment (filter counts ls)) (sym (rows_shape m c (y ∷ r)))

-- the place behind the sign of a comment
abbrev pub in_comment_at : ℕ → Place → Place
in_comment_at n p = record (passed_over n p) { standing = Comment; fresh = false }

cut_in_comment : (n : ℕ) (p : Place) (b : List ℕ) → n ≤ length p.held → p.passed + n ≤ most_bytes → is_cut (in_comment_at n p) (drop n p.held ++ b) ≡ is_cut p (p.held ++ b)
unfolding is_cut
cut_in_comment n p b here bound = cut_after n p b here bound

pub comment_skip : (p : Place) (b : List ℕ) (d : ℕ) → p.passed ≤ most_bytes → p.standing ≡ Start → blanks p < length (readable p) → get_or (readable p) (blanks p) d ≡ 99
    → SameBehind p (p.held ++ b) (in_comment_at (blanks p + 1) p) (drop (blanks p + 1) p.held ++ b)
comment_skip p b d h f inside e =
    let n = blanks p in
    let t = p.held ++ b in
    let q = in_comment_at (n + 1) p in
    let u = drop (n + 1) p.held ++ b in
    let c = is_cut p t in
    let y = get_or (readable p) n d in
    let r = left (n + 1) p b in
    let more : n + 1 ≤ length (readable p) = omega arith in
    let bounds = pass_bounds (n + 1) p h more in
    let seen = seen_after (n + 1) p b h more in
    let before : lines_behind p t ≡ filter counts (rows p.line c (y ∷ r)) =
    behind_is p t ∙ ap (filter counts) (following_is p t ∙ ap (λ st. following_of st (lines_from p t)) f ∙ first_lines p b d inside) in
    let cut : is_cut q u ≡ c = cut_in_comment (n + 1) p b bounds.0 bounds.1 in
    record {
      lines = ap but_comment (behind_rows q u Comment c r refl cut seen) ∙ comment_content p.line c y r e ∙ sym (ap but_comment before);
      cut = cut;
      passed = passed_held (n + 1) p q b bounds.0 refl;
      last = last_is q u ∙ ap (λ l. p.line + count_by is_line_feed l) seen
          ∙ ap (λ k. p.line + k) (sym (count_free is_line_feed (y ∷ []) r (ap is_line_feed e, tt)) ∙ sym (count_free is_line_feed (take n (readable p)) (y ∷ r) (free_blanks p)))
          ∙ sym (last_is p t ∙ ap (λ l. p.line + count_by is_line_feed l) (seen_at n p b d inside));
    }

-- ---- at a content line

not_ten : (y : ℕ) → y ≢ 10 → is_line_feed y ≡ false
not_ten y h = by_test (y == 10) refl
  where
    by_test : (q : Bool) → (y == 10) ≡ q → (y == 10) ≡ false
    by_test true e = absurd (h (eqb-true y 10 e))
    by_test false e = e

not_c : (y : ℕ) → y ≢ 99 → not (y == 99) ≡ true
not_c y h = by_test (y == 99) refl
  where
    by_test : (q : Bool) → (y == 99) ≡ q → not (y == 99) ≡ true
    by_test true e = absurd (h (eqb-true y 99 e))
    by_test false e = ap not e

-- the place before the first word of a line
abbrev pub at_content : Place → Place
at_content p = record (looked p) { standing = Content; fresh = true }

cut_at_content : (p : Place) (b : List ℕ) → p.passed ≤ most_bytes → is_cut (at_content p) (drop (blanks p) p.held ++ b) ≡ is_cut p (p.held ++ b)
unfolding is_cut
cut_at_content p b h = looked_cut p b h

last_at_content : (p : Place) (b : List ℕ) → p.passed ≤ most_bytes → last_line (at_content p) (drop (blanks p) p.held ++ b) ≡ last_line p (p.held ++ b)
unfolding last_line
last_at_content p b h = looked_last p b h

pub content_enters : (p : Place) (b : List ℕ) (d : ℕ) → p.passed ≤ most_bytes → p.standing ≡ Start → blanks p < length (readable p) → get_or (readable p) (blanks p) d ≢ 10 → get_or (readable p) (blanks p) d ≢ 99
    → EntersLine p (p.held ++ b) (at_content p) (drop (blanks p) p.held ++ b)
content_enters p b d h f inside no_feed no_c =
    let n = blanks p in
    let t = p.held ++ b in
    let q = at_content p in
    let u = drop n p.held ++ b in
    let c = is_cut p t in
    let y = get_or (readable p) n d in
    let r = left (n + 1) p b in
    let word : is_word_byte y ≡ true =
    ap (λ k. not (k || is_line_feed y)) (prefix_len_stops is_blank (readable p) d inside) ∙ ap not (not_ten y no_feed) in
    let same : lines_from q u ≡ lines_from p t = looked_lines p b h in
    let shape : lines_from p t ≡ line_of p.line (c && is_nil (more_texts (y ∷ r))) (first_text (y ∷ r)) ∷ numbered (p.line + 1) c (more_texts (y ∷ r)) =
    first_lines p b d inside ∙ rows_shape p.line c (y ∷ r) in
    let here : present q u ≡ line_of p.line (c && is_nil (more_texts (y ∷ r))) (first_text (y ∷ r)) =
    present_is q u refl ∙ ap (first_of (bare_line p.line)) (same ∙ shape) in
    record {
      lines = following_is p t ∙ ap (λ st. following_of st (lines_from p t)) f ∙ shape ∙ ap (λ l. l ∷ numbered (p.line + 1) c (more_texts (y ∷ r))) (sym here)
          ∙ ap (λ ls. present q u ∷ ls) (sym (following_is q u ∙ ap behind_first (same ∙ shape)));
      content = ap (λ l. has_content l.words) (present_is q u refl ∙ ap (first_of (bare_line p.line)) (same ∙ first_lines p b d inside))
          ∙ content_at_word (bare_line p.line) p.line c y r word ∙ not_c y no_c;
      cut = cut_at_content p b h;
      last = last_at_content p b h;
      passed = passed_held n p q b (looked_bounds p h).0 refl;
    }

-- it begins there with its content
pub begins_here : (p : Place) (d : ℕ) → p.passed ≤ most_bytes → blanks p < length (readable p) → get_or (readable p) (blanks p) d ≢ 10 → get_or (readable p) (blanks p) d ≢ 99
    → begins_content (readable (looked p)) ≡ true
begins_here p d h inside no_feed no_c =
    let y = get_or (readable p) (blanks p) d in
    let word : is_word_byte y ≡ true =
    ap (λ k. not (k || is_line_feed y)) (prefix_len_stops is_blank (readable p) d inside) ∙ ap not (not_ten y no_feed) in
    ap begins_content (looked_readable p h ∙ drop_more (readable p) (blanks p) d inside) ∙ ap (λ k. k && not (nat_eq y 99)) word ∙ not_c y no_c

-- ---- where no byte is left to read

-- what memchr says, byte by byte
pub free_before : (s : List ℕ) (n : ℕ) → ((k : ℕ) → k < n → k < length s → (is_line_feed (get_or s k 0) ≡ true → ⊥)) → Free is_line_feed (take n s)
free_before s zero h = tt
free_before [] (suc n) h = tt
free_before (x ∷ s) (suc n) h = (not_true (is_line_feed x) (h 0 (omega arith) (omega arith)), free_before s n (λ k a b. h (suc k) (omega arith) (omega arith)))
  where
    not_true : (q : Bool) → (q ≡ true → ⊥) → q ≡ false
    not_true true f = absurd (f refl)
    not_true false f = refl
