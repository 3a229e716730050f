-- Laws on where a window stands.
use Rattle.std.proofs.Common.{◌≡◌, ℕ, zero, suc, ◌+◌, ◌-◌, ◌<◌, ◌≤◌, Bool, true, false, ◌&&◌, nat_eq, nat_lt, List, [], ◌∷◌, ◌++◌, length, take, drop, get_or, filter, if◌then◌else◌, refl, sym, ap, ◌∙◌, subst, arith, zero-add, add-zero, ne_eqb, append-nil, append_assoc, length-append, length-take, length-drop, take-append-drop}
use Rattle.std.proofs.lemmas.Bool.{ltb_from_iff, ltb-true, lt-ltb, ltb-false, false≢true, true≢false}
use Rattle.std.proofs.lemmas.List.{drop-drop, drop-take, take-take, take-append-le, drop-append-le, drop_more, take_all}
use Rattle.std.proofs.Math.Seq.{take-append-add}
use Rattle.std.proofs.lemmas.List.Sums.{prefix_len-le-length, sum_by-cons}
use Rattle.std.proofs.lemmas.List.Folds.{length-prefix_len}
use Rattle.std.specs.List.{prefix_len, count_by}
use Rattle.session_rules.specs.Lines.{is_blank, is_line_feed, is_nil, ends_in_word, line_of, all_lines, counts, most_bytes}
use Rattle.slice_tokens.specs.declared.window.Standing.{Standing}
use Rattle.slice_tokens.specs.declared.window.Standing.TheVariants.{Start, Content, Comment}
use Rattle.slice_tokens.specs.Place.{Place, room, lines_from, first_of, bare_line, present_of, following_of, present, following, lines_behind, later, is_cut, last_line}
use Rattle.slice_tokens.specs.Calls.{Passed, SameLater}
use Rattle.slice_tokens.specs.Held.{passed_over, is_word_byte, readable, blanks, word_len, Same, same_standing}
use Rattle.slice_tokens.proofs.Texts.{Runs, Free, Free-from_Runs}
use Rattle.slice_tokens.proofs.Rows.{rows, more_texts, first_text, rows_shape, Stops, Closes, rows_blanks, blank_not_line_feed}

-- ---- the front that passes a test

pub runs_prefix : (p : ℕ → Bool) (xs : List ℕ) → Runs p (take (prefix_len p xs) xs)
runs_prefix p [] = tt
runs_prefix p (x ∷ xs) = by_test (runs_prefix p xs) (p x) refl
  where
    by_test : Runs p (take (prefix_len p xs) xs) → (b : Bool) → p x ≡ b → Runs p (take (if b then (1 + prefix_len p xs) else 0) (x ∷ xs))
    by_test rest false e = tt
    by_test rest true e = let one : 1 + prefix_len p xs ≡ suc (prefix_len p xs) = omega arith in subst (λ n. Runs p (take n (x ∷ xs))) (sym one) (e, rest)

-- the first element, if there is one, fails the test
abbrev pub Fails : (ℕ → Bool) → List ℕ → Type 0
Fails p [] = Unit {0}
Fails p (x ∷ xs) = p x ≡ false

pub fails_prefix : (p : ℕ → Bool) (xs : List ℕ) → Fails p (drop (prefix_len p xs) xs)
fails_prefix p [] = tt
fails_prefix p (x ∷ xs) = by_test (fails_prefix p xs) (p x) refl
  where
    by_test : Fails p (drop (prefix_len p xs) xs) → (b : Bool) → p x ≡ b → Fails p (drop (if b then (1 + prefix_len p xs) else 0) (x ∷ xs))
    by_test rest false e = e
    by_test rest true e = let one : 1 + prefix_len p xs ≡ suc (prefix_len p xs) = omega arith in subst (λ n. Fails p (drop n (x ∷ xs))) (sym one) rest

-- ---- what may be read

-- the bytes from a place on that may be read
abbrev pub visible : Place → List ℕ → List ℕ
visible p t = take (room p) t

pub lines_are : (p : Place) (t : List ℕ) → lines_from p t ≡ rows p.line (is_cut p t) (visible p t)
unfolding all_lines is_cut
lines_are p t = refl

pub present_is : (p : Place) (t : List ℕ) → p.standing ≡ Content → present p t ≡ first_of (bare_line p.line) (lines_from p t)
unfolding present
present_is p t e = ap (λ st. present_of st p.line (lines_from p t)) e

pub following_is : (p : Place) (t : List ℕ) → following p t ≡ following_of p.standing (lines_from p t)
unfolding following
following_is p t = refl

pub behind_is : (p : Place) (t : List ℕ) → lines_behind p t ≡ filter counts (following p t)
unfolding lines_behind
behind_is p t = refl

-- what is due, once a word of the present line was taken, and before that
pub later_taken : (p : Place) (t : List ℕ) → p.fresh ≡ false → later p t ≡ lines_behind p t
unfolding later
later_taken p t e = ap (λ q. if q then present p t ∷ lines_behind p t else lines_behind p t) e

pub later_fresh : (p : Place) (t : List ℕ) → p.fresh ≡ true → later p t ≡ present p t ∷ lines_behind p t
unfolding later
later_fresh p t e = ap (λ q. if q then present p t ∷ lines_behind p t else lines_behind p t) e

-- what is due is the same where both of these are
pub later_same : (p q : Place) (t u : List ℕ) → q.fresh ≡ p.fresh → present q u ≡ present p t → lines_behind q u ≡ lines_behind p t → later q u ≡ later p t
unfolding later
later_same p q t u e here behind =
    ap (λ c. if c then present q u ∷ lines_behind q u else lines_behind q u) e
    ∙ ap (λ l. if p.fresh then l ∷ lines_behind q u else lines_behind q u) here
    ∙ ap (λ ls. if p.fresh then present p t ∷ ls else ls) behind

pub last_is : (p : Place) (t : List ℕ) → last_line p t ≡ p.line + count_by is_line_feed (visible p t)
unfolding last_line
last_is p t = refl

pub visible_after : (n : ℕ) (p : Place) (b : List ℕ) → n ≤ length p.held → p.passed + n ≤ most_bytes
    → visible (passed_over n p) (drop n p.held ++ b) ≡ drop n (visible p (p.held ++ b))
visible_after n p b here bound =
    let sum : room p ≡ n + room (passed_over n p) = omega arith in
    ap (take (room (passed_over n p))) (sym (drop-append-le n p.held b here))
    ∙ sym (drop-take n (room (passed_over n p)) (p.held ++ b)) ∙ ap (λ k. drop n (take k (p.held ++ b))) (sym sum)

same_test : (a b c d : ℕ) → (a < b → c < d) → (c < d → a < b) → nat_lt a b ≡ nat_lt c d
same_test a b c d f g = ltb_from_iff (λ e. f (ltb-true a b e), λ h. lt-ltb a b (g h))

-- whether a further byte comes doesn't depend on what was passed over
pub cut_after : (n : ℕ) (p : Place) (b : List ℕ) → n ≤ length p.held → p.passed + n ≤ most_bytes
    → is_cut (passed_over n p) (drop n p.held ++ b) ≡ is_cut p (p.held ++ b)
unfolding is_cut
cut_after n p b here bound =
    let long = length-append (drop n p.held) b in
    let short = length-drop n p.held in
    let all = length-append p.held b in
    same_test (most_bytes - (p.passed + n)) (length (drop n p.held ++ b)) (most_bytes - p.passed) (length (p.held ++ b)) (λ h. omega (arith, long, short, all)) (λ h. omega (arith, long, short, all))

-- the front of two lists
pub take_two : (n : ℕ) (xs ys : List ℕ) → take n (xs ++ ys) ≡ take n xs ++ take (n - length xs) ys
take_two n xs ys = by_test (nat_lt n (length xs)) refl
  where
    by_test : (b : Bool) → nat_lt n (length xs) ≡ b → take n (xs ++ ys) ≡ take n xs ++ take (n - length xs) ys
    by_test true e =
        let less = ltb-true n (length xs) e in
        let none : n - length xs ≡ 0 = omega arith in
        take-append-le n xs ys (omega arith) ∙ sym (append-nil (take n xs)) ∙ ap (λ k. take n xs ++ take k ys) (sym none)
    by_test false e =
        let more : length xs ≤ n = ltb-false n (length xs) e in
        let sum : n ≡ length xs + (n - length xs) = omega arith in
        ap (λ k. take k (xs ++ ys)) sum ∙ take-append-add xs ys (n - length xs) ∙ ap (λ l. l ++ take (n - length xs) ys) (sym (take_all n xs more))

-- what may be read behind what is held
abbrev pub beyond : Place → List ℕ → List ℕ
beyond p b = take (room p - length p.held) b

pub visible_two : (p : Place) (b : List ℕ) → visible p (p.held ++ b) ≡ readable p ++ beyond p b
visible_two p b = take_two (room p) p.held b

-- ---- after a look

pub blanks_le : (p : Place) → blanks p ≤ length (readable p)
blanks_le p = prefix_len-le-length is_blank (readable p)

-- the word that a look found, and what follows it
abbrev pub word : Place → List ℕ
word p = take (word_len p) (drop (blanks p) (readable p))

abbrev pub behind : Place → List ℕ
behind p = drop (word_len p) (drop (blanks p) (readable p))

abbrev pub looked : Place → Place
looked p = passed_over (blanks p) p

pub looked_bounds : (p : Place) → p.passed ≤ most_bytes → (blanks p ≤ length p.held) × (p.passed + blanks p ≤ most_bytes)
looked_bounds p h =
    let k = blanks_le p in
    let l = length-take (room p) p.held in
    (omega arith, omega arith)

pub looked_visible : (p : Place) (b : List ℕ) → p.passed ≤ most_bytes → visible (looked p) (drop (blanks p) p.held ++ b) ≡ word p ++ (behind p ++ beyond p b)
looked_visible p b h =
    let bounds = looked_bounds p h in
    visible_after (blanks p) p b bounds.0 bounds.1 ∙ ap (drop (blanks p)) (visible_two p b)
    ∙ drop-append-le (blanks p) (readable p) (beyond p b) (blanks_le p)
    ∙ ap (λ l. l ++ beyond p b) (sym (take-append-drop (word_len p) (drop (blanks p) (readable p))))
    ∙ append_assoc (word p) (behind p) (beyond p b)

pub looked_lines : (p : Place) (b : List ℕ) → p.passed ≤ most_bytes → lines_from (looked p) (drop (blanks p) p.held ++ b) ≡ lines_from p (p.held ++ b)
looked_lines p b h =
    let bounds = looked_bounds p h in
    let t = p.held ++ b in
    let u = drop (blanks p) p.held ++ b in
    let s = take (blanks p) (readable p) in
    let after = drop (blanks p) (readable p) ++ beyond p b in
    let seen : visible (looked p) u ≡ after =
    visible_after (blanks p) p b bounds.0 bounds.1 ∙ ap (drop (blanks p)) (visible_two p b) ∙ drop-append-le (blanks p) (readable p) (beyond p b) (blanks_le p) in
    let whole : s ++ after ≡ visible p t =
    sym (append_assoc s (drop (blanks p) (readable p)) (beyond p b)) ∙ ap (λ l. l ++ beyond p b) (take-append-drop (blanks p) (readable p)) ∙ sym (visible_two p b) in
    lines_are (looked p) u
    ∙ ap (λ c. rows p.line c (visible (looked p) u)) (cut_after (blanks p) p b bounds.0 bounds.1)
    ∙ ap (rows p.line (is_cut p t)) seen
    ∙ sym (rows_blanks p.line (is_cut p t) s after (runs_prefix is_blank (readable p)))
    ∙ ap (rows p.line (is_cut p t)) whole
    ∙ sym (lines_are p t)

-- ---- counting line feeds

pub count_free : (p : ℕ → Bool) (xs t : List ℕ) → Free p xs → count_by p (xs ++ t) ≡ count_by p t
count_free p [] t h = refl
count_free p (x ∷ xs) t h = sum_by-cons (λ k. if p k then 1 else 0) x (xs ++ t) ∙ ap (λ q. (if q then 1 else 0) + count_by p (xs ++ t)) h.0 ∙ zero-add (count_by p (xs ++ t)) ∙ count_free p xs t h.1

pub count_one : (p : ℕ → Bool) (x : ℕ) (t : List ℕ) → p x ≡ true → count_by p (x ∷ t) ≡ 1 + count_by p t
count_one p x t h = sum_by-cons (λ k. if p k then 1 else 0) x t ∙ ap (λ q. (if q then 1 else 0) + count_by p t) h

-- ---- the bytes after n of those that may be read

pub pass_bounds : (n : ℕ) (p : Place) → p.passed ≤ most_bytes → n ≤ length (readable p) → (n ≤ length p.held) × (p.passed + n ≤ most_bytes)
pass_bounds n p h inside = let l = length-take (room p) p.held in (omega arith, omega arith)

-- what may be read behind n bytes
abbrev pub left : ℕ → Place → List ℕ → List ℕ
left n p b = drop n (readable p) ++ beyond p b

pub seen_after : (n : ℕ) (p : Place) (b : List ℕ) → p.passed ≤ most_bytes → n ≤ length (readable p) → visible (passed_over n p) (drop n p.held ++ b) ≡ left n p b
seen_after n p b h inside =
    let bounds = pass_bounds n p h inside in
    visible_after n p b bounds.0 bounds.1 ∙ ap (drop n) (visible_two p b) ∙ drop-append-le n (readable p) (beyond p b) inside

pub seen_before : (n : ℕ) (p : Place) (b : List ℕ) → visible p (p.held ++ b) ≡ take n (readable p) ++ left n p b
seen_before n p b =
    visible_two p b ∙ ap (λ l. l ++ beyond p b) (sym (take-append-drop n (readable p))) ∙ append_assoc (take n (readable p)) (drop n (readable p)) (beyond p b)

-- the same, with the byte at n
pub seen_at : (n : ℕ) (p : Place) (b : List ℕ) (d : ℕ) → n < length (readable p) → visible p (p.held ++ b) ≡ take n (readable p) ++ (get_or (readable p) n d ∷ left (n + 1) p b)
seen_at n p b d inside = seen_before n p b ∙ ap (λ l. take n (readable p) ++ (l ++ beyond p b)) (drop_more (readable p) n d inside)

-- the last line is the same behind bytes without a line feed
pub last_free : (n : ℕ) (p : Place) (b : List ℕ) → p.passed ≤ most_bytes → n ≤ length (readable p) → Free is_line_feed (take n (readable p))
    → last_line (passed_over n p) (drop n p.held ++ b) ≡ last_line p (p.held ++ b)
last_free n p b h inside free =
    last_is (passed_over n p) (drop n p.held ++ b) ∙ ap (λ l. p.line + count_by is_line_feed l) (seen_after n p b h inside)
    ∙ sym (last_is p (p.held ++ b) ∙ ap (λ l. p.line + count_by is_line_feed l) (seen_before n p b) ∙ ap (λ k. p.line + k) (count_free is_line_feed (take n (readable p)) (left n p b) free))

-- ---- behind the blanks

pub free_blanks : (p : Place) → Free is_line_feed (take (blanks p) (readable p))
free_blanks p = Free-from_Runs is_blank is_line_feed blank_not_line_feed (take (blanks p) (readable p)) (runs_prefix is_blank (readable p))

pub looked_cut : (p : Place) (b : List ℕ) → p.passed ≤ most_bytes → is_cut (looked p) (drop (blanks p) p.held ++ b) ≡ is_cut p (p.held ++ b)
looked_cut p b h = let bounds = looked_bounds p h in cut_after (blanks p) p b bounds.0 bounds.1

pub looked_last : (p : Place) (b : List ℕ) → p.passed ≤ most_bytes → last_line (looked p) (drop (blanks p) p.held ++ b) ≡ last_line p (p.held ++ b)
looked_last p b h = last_free (blanks p) p b h (blanks_le p) (free_blanks p)

-- ---- the bytes that were passed over

pub passed_refl : (p : Place) (t : List ℕ) → Passed p t p t
passed_refl p t = record { front = []; whole = refl; count = sym (add-zero p.passed) }

pub passed_trans : (p q r : Place) (t u v : List ℕ) → Passed p t q u → Passed q u r v → Passed p t r v
passed_trans p q r t u v h k = record {
  front = h.front ++ k.front;
  whole = h.whole ∙ ap (λ l. h.front ++ l) k.whole ∙ sym (append_assoc h.front k.front v);
  count = omega (arith, h.count, k.count, length-append h.front k.front);
}

-- n of those that are held
pub passed_held : (n : ℕ) (p q : Place) (b : List ℕ) → n ≤ length p.held → q.passed ≡ p.passed + n → Passed p (p.held ++ b) q (drop n p.held ++ b)
passed_held n p q b here e = record {
  front = take n p.held;
  whole = ap (λ l. l ++ b) (sym (take-append-drop n p.held)) ∙ append_assoc (take n p.held) (drop n p.held) b;
  count = omega (arith, e, length-take n p.held);
}

-- ---- whether a word was taken

and_false : (q : Bool) → (q && false) ≡ false
and_false true = refl
and_false false = refl

-- a line of which a word was taken stays so
pub passed_taken : (n : ℕ) (p : Place) → p.fresh ≡ false → (passed_over n p).fresh ≡ false
passed_taken n p e = ap (λ q. nat_eq n 0 && q) e ∙ and_false (nat_eq n 0)

-- and it is so behind some bytes
pub passed_some : (n : ℕ) (p : Place) → 0 < n → (passed_over n p).fresh ≡ false
passed_some n p h = ap (λ q. q && p.fresh) (ne_eqb n 0 (λ e. omega (arith, h, e)))

fresh_twice : (m n : ℕ) (f : Bool) → (nat_eq n 0 && (nat_eq m 0 && f)) ≡ (nat_eq (m + n) 0 && f)
fresh_twice zero n f = ap (λ k. nat_eq k 0 && f) (sym (zero-add n))
fresh_twice (suc m) n f =
    ap (λ q. nat_eq n 0 && (q && f)) (ne_eqb (suc m) 0 (λ e. omega (arith, e))) ∙ and_false (nat_eq n 0)
    ∙ sym (ap (λ q. q && f) (ne_eqb (suc m + n) 0 (λ e. omega (arith, e))))

-- n bytes behind m are so many together
pub passed_twice : (p : Place) (m n : ℕ) → passed_over n (passed_over m p) ≡ passed_over (m + n) p
passed_twice p m n =
    let sum : p.passed + m + n ≡ p.passed + (m + n) = omega arith in
    let f = nat_eq n 0 && (nat_eq m 0 && p.fresh) in
    ap (λ (l : List ℕ). let q : Place = record p { held = l; passed = p.passed + m + n; fresh = f } in q) (drop-drop n m p.held)
    ∙ ap (λ (k : ℕ). let q : Place = record p { held = drop (m + n) p.held; passed = k; fresh = f } in q) sum
    ∙ ap (λ (c : Bool). let q : Place = record p { held = drop (m + n) p.held; passed = p.passed + (m + n); fresh = c } in q) (fresh_twice m n p.fresh)

-- blanks change nothing of the lines to come
pub looked_later : (p : Place) (b : List ℕ) → p.passed ≤ most_bytes → SameLater p (p.held ++ b) (looked p) (drop (blanks p) p.held ++ b)
looked_later p b h =
    let t = p.held ++ b in
    let u = drop (blanks p) p.held ++ b in
    record {
      lines = behind_is (looked p) u ∙ ap (filter counts) (following_is (looked p) u ∙ ap (following_of p.standing) (looked_lines p b h) ∙ sym (following_is p t)) ∙ sym (behind_is p t);
      cut = looked_cut p b h;
      last = looked_last p b h;
      passed = passed_held (blanks p) p (looked p) b (looked_bounds p h).0 refl;
    }

pub looked_same : (p : Place) (b : List ℕ) → p.passed ≤ most_bytes → p.standing ≡ Content → Same p (p.held ++ b) (looked p) (drop (blanks p) p.held ++ b)
looked_same p b h e =
    let t = p.held ++ b in
    let u = drop (blanks p) p.held ++ b in
    record {
      present = present_is (looked p) u e ∙ ap (first_of (bare_line p.line)) (looked_lines p b h) ∙ sym (present_is p t e);
      behind = looked_later p b h;
    }

-- ---- a word that stands at a place

pub record Stands (p : Place) (t : List ℕ) (n : ℕ) : Type 0 where
  pub word : List ℕ
  pub rest : List ℕ
  pub whole : visible p t ≡ word ++ rest
  pub runs : Runs is_word_byte word
  pub long : length word ≡ n
  pub held : take n p.held ≡ word
  pub stops : Stops (is_cut p t) rest
  pub closes : n ≡ 0 → Closes (is_cut p t) rest

pub word_held : (p : Place) → blanks p + word_len p ≤ length (readable p) → take (word_len p) (drop (blanks p) p.held) ≡ word p
word_held p h =
    let l = length-take (room p) p.held in
    let sum : room p ≡ blanks p + (room p - blanks p) = omega arith in
    let less : word_len p ≤ room p - blanks p = omega arith in
    sym (take-take (word_len p) (room p - blanks p) (drop (blanks p) p.held) less)
    ∙ ap (take (word_len p)) (sym (drop-take (blanks p) (room p - blanks p) p.held) ∙ ap (λ k. drop (blanks p) (take k p.held)) (sym sum))

pub runs_word : (p : Place) → Runs is_word_byte (word p)
runs_word p = runs_prefix is_word_byte (drop (blanks p) (readable p))

pub length-word : (p : Place) → length (word p) ≡ word_len p
length-word p = length-prefix_len is_word_byte (drop (blanks p) (readable p))

-- ---- the present line

-- the present line as that of some bytes
pub present_line : (p : Place) (t : List ℕ) → p.standing ≡ Content → present p t ≡ line_of p.line (is_cut p t && is_nil (more_texts (visible p t))) (first_text (visible p t))
present_line p t e = present_is p t e ∙ ap (first_of (bare_line p.line)) (lines_are p t ∙ rows_shape p.line (is_cut p t) (visible p t))

-- where the window isn't in a content line, the present line has nothing
pub present_bare : (p : Place) (t : List ℕ) (st : Standing) → p.standing ≡ st → same_standing st Content ≡ false → present p t ≡ bare_line p.line
unfolding present
present_bare p t Start e n = ap (λ st. present_of st p.line (lines_from p t)) e
present_bare p t Content e n = absurd (true≢false n)
present_bare p t Comment e n = ap (λ st. present_of st p.line (lines_from p t)) e

pub number_is : (p : Place) (t : List ℕ) → (present p t).number ≡ p.line
number_is p t = by_standing p.standing refl
  where
    by_standing : (st : Standing) → p.standing ≡ st → (present p t).number ≡ p.line
    by_standing Start e = ap (λ l. l.number) (present_bare p t Start e refl)
    by_standing Content e = ap (λ l. l.number) (present_line p t e)
    by_standing Comment e = ap (λ l. l.number) (present_bare p t Comment e refl)

-- only the last word of a cut line is cut
pub word_uncut : (p : Place) (t : List ℕ) → (present p t).cut ≡ false → (present p t).word_cut ≡ false
word_uncut p t h = by_standing p.standing refl
  where
    by_standing : (st : Standing) → p.standing ≡ st → (present p t).word_cut ≡ false
    by_standing Start e = ap (λ l. l.word_cut) (present_bare p t Start e refl)
    by_standing Content e =
        let here = present_line p t e in
        let uncut : (is_cut p t && is_nil (more_texts (visible p t))) ≡ false = sym (ap (λ l. l.cut) here) ∙ h in
        ap (λ l. l.word_cut) here ∙ ap (λ q. q && ends_in_word (first_text (visible p t))) uncut
    by_standing Comment e = ap (λ l. l.word_cut) (present_bare p t Comment e refl)

-- only where a further byte comes a line is cut
pub present_over : (p : Place) (t : List ℕ) → (present p t).cut ≡ true → is_cut p t ≡ true
present_over p t h = by_standing p.standing refl
  where
    front : (c d : Bool) → (c && d) ≡ true → c ≡ true
    front true d h = refl
    front false d h = absurd (false≢true h)

    by_standing : (st : Standing) → p.standing ≡ st → is_cut p t ≡ true
    by_standing Start e = absurd (false≢true (sym (ap (λ l. l.cut) (present_bare p t Start e refl)) ∙ h))
    by_standing Content e = front (is_cut p t) (is_nil (more_texts (visible p t))) (sym (ap (λ l. l.cut) (present_line p t e)) ∙ h)
    by_standing Comment e = absurd (false≢true (sym (ap (λ l. l.cut) (present_bare p t Comment e refl)) ∙ h))
