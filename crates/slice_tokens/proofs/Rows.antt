-- Laws on the lines of a text, as a window passes over its bytes.
use Rattle.std.proofs.Common.{◌≡◌, ℕ, ◌+◌, ◌<◌, ◌≤◌, Bool, true, false, not, ◌&&◌, ◌||◌, ◌==◌, nat_lt, List, [], ◌∷◌, ◌++◌, length, filter, if◌then◌else◌, refl, sym, ap, ◌∙◌, subst, arith, append-nil, eqb-true, length-append}
use Rattle.std.proofs.lemmas.Bool.{false≢true, true≢false, le-ltb, lt-ltb}
use Rattle.std.specs.List.{slice_split}
use Rattle.std.proofs.lemmas.List.Splits.{slice_split-cons_yes}
use Rattle.session_rules.specs.Lines.{Line, is_nil, is_blank, is_line_feed, words, ends_in_word, line_of, numbered, has_content, counts, without_cut_word}
use Rattle.slice_tokens.specs.declared.window.Standing.{Standing}
use Rattle.slice_tokens.specs.declared.window.Standing.TheVariants.{Start, Content, Comment}
use Rattle.slice_tokens.specs.Place.{first_of, behind_first, in_comment, without_words, following_of}
use Rattle.slice_tokens.specs.Due.{due_of, due, due_word, due_end, due_long, due_cut, known_words}
use Rattle.slice_tokens.specs.Held.{is_word_byte, same_standing}
use Rattle.slice_tokens.proofs.Texts.{Runs, Free, Free-from_Runs, head_text, tail_texts, split_shape, split_front, AtBlank, words_blanks, ends_blanks, words_start, words_word, ends_behind, ends_words, ends_word, words_nil}

-- the lines of a text, the first of which has this number
abbrev pub rows : ℕ → Bool → List ℕ → List Line
rows m c t = numbered m c (slice_split is_line_feed t)

abbrev pub first_text : List ℕ → List ℕ
first_text t = head_text (slice_split is_line_feed t)

abbrev pub more_texts : List ℕ → List (List ℕ)
more_texts t = tail_texts (slice_split is_line_feed t)

-- ---- bytes

pub blank_not_line_feed : (x : ℕ) → is_blank x ≡ true → is_line_feed x ≡ false
blank_not_line_feed x h = by_test (is_line_feed x) refl
  where
    by_test : (b : Bool) → is_line_feed x ≡ b → is_line_feed x ≡ false
    by_test false e = e
    by_test true e = absurd (false≢true (subst (λ k. is_blank k ≡ true) (eqb-true x 10 e) h))

neither : (a b : Bool) → not (a || b) ≡ true → (a ≡ false) × (b ≡ false)
neither false false h = (refl, refl)
neither false true h = absurd (false≢true h)
neither true b h = absurd (false≢true h)

pub word_not_blank : (x : ℕ) → is_word_byte x ≡ true → is_blank x ≡ false
word_not_blank x h = (neither (is_blank x) (is_line_feed x) h).0

pub word_not_line_feed : (x : ℕ) → is_word_byte x ≡ true → is_line_feed x ≡ false
word_not_line_feed x h = (neither (is_blank x) (is_line_feed x) h).1

one_of : (a b : Bool) → not (a || b) ≡ false → b ≡ false → a ≡ true
one_of true b h n = refl
one_of false true h n = absurd (true≢false n)
one_of false false h n = absurd (true≢false h)

-- ---- lines

pub rows_front : (m : ℕ) (c : Bool) (s t : List ℕ) → Free is_line_feed s → rows m c (s ++ t) ≡ line_of m (c && is_nil (more_texts t)) (s ++ first_text t) ∷ numbered (m + 1) c (more_texts t)
unfolding numbered
rows_front m c s t h = ap (numbered m c) (split_front is_line_feed s t h)

pub rows_shape : (m : ℕ) (c : Bool) (t : List ℕ) → rows m c t ≡ line_of m (c && is_nil (more_texts t)) (first_text t) ∷ numbered (m + 1) c (more_texts t)
rows_shape m c t = rows_front m c [] t tt

is_nil_split : (t : List ℕ) → is_nil (slice_split is_line_feed t) ≡ false
is_nil_split t = ap is_nil (split_shape is_line_feed t)

and_false : (e : Bool) → (e && false) ≡ false
and_false true = refl
and_false false = refl

-- the first line ends at the first line feed
pub rows_end : (m : ℕ) (c : Bool) (s : List ℕ) (b : ℕ) (t : List ℕ) → Free is_line_feed s → is_line_feed b ≡ true → rows m c (s ++ (b ∷ t)) ≡ line_of m false s ∷ rows (m + 1) c t
rows_end m c s b t h e =
    let parts = slice_split-cons_yes is_line_feed b t e in
    rows_front m c s (b ∷ t) h
    ∙ ap (λ ts. line_of m (c && is_nil (tail_texts ts)) (s ++ head_text ts) ∷ numbered (m + 1) c (tail_texts ts)) parts
    ∙ ap (λ q. line_of m q (s ++ []) ∷ rows (m + 1) c t) (ap (λ n. c && n) (is_nil_split t) ∙ and_false c)
    ∙ ap (λ l. line_of m false l ∷ rows (m + 1) c t) (append-nil s)

-- a line by what its words are
abbrev made : ℕ → Bool → List (List ℕ) → Bool → Line
made m c ws e = record { number = m; words = ws; cut = c; word_cut = c && e }

-- blanks before a line change nothing
pub rows_blanks : (m : ℕ) (c : Bool) (s t : List ℕ) → Runs is_blank s → rows m c (s ++ t) ≡ rows m c t
rows_blanks m c s t h =
    let rest = numbered (m + 1) c (more_texts t) in
    let d = c && is_nil (more_texts t) in
    let f = first_text t in
    rows_front m c s t (Free-from_Runs is_blank is_line_feed blank_not_line_feed s h)
    ∙ ap (λ ws. made m d ws (ends_in_word (s ++ f)) ∷ rest) (words_blanks s f h)
    ∙ ap (λ e. made m d (words f) e ∷ rest) (ends_blanks s f h)
    ∙ sym (rows_shape m c t)

-- what stands behind a word: the end of all, or a byte of no word
abbrev pub Stops : Bool → List ℕ → Type 0
Stops c [] = c ≡ false
Stops c (y ∷ ys) = is_word_byte y ≡ false

-- what stands at a line's end: the end of all, or a line feed
abbrev pub Closes : Bool → List ℕ → Type 0
Closes c [] = c ≡ false
Closes c (y ∷ ys) = is_line_feed y ≡ true

stops_head : (c : Bool) (t : List ℕ) → Stops c t → AtBlank (first_text t)
stops_head c [] h = tt
stops_head c (y ∷ ys) h = by_test (is_line_feed y) refl
  where
    by_test : (b : Bool) → is_line_feed y ≡ b → AtBlank (first_text (y ∷ ys))
    by_test true e = subst (λ ts. AtBlank (head_text ts)) (sym (slice_split-cons_yes is_line_feed y ys e)) tt
    by_test false e = subst (λ ts. AtBlank (head_text ts)) (sym (split_front is_line_feed (y ∷ []) ys (e, tt))) (one_of (is_blank y) (is_line_feed y) h e)

stops_cut : (c : Bool) (t : List ℕ) → Stops c t → first_text t ≡ [] → (c && is_nil (more_texts t)) ≡ false
stops_cut c [] h e = ap (λ q. q && true) h
stops_cut c (y ∷ ys) h e = by_test (is_line_feed y) refl
  where
    by_test : (b : Bool) → is_line_feed y ≡ b → (c && is_nil (more_texts (y ∷ ys))) ≡ false
    by_test true i = ap (λ ts. c && is_nil (tail_texts ts)) (slice_split-cons_yes is_line_feed y ys i) ∙ ap (λ n. c && n) (is_nil_split ys) ∙ and_false c
    by_test false i = let none : (y ∷ first_text ys) ≡ [] = sym (ap head_text (split_front is_line_feed (y ∷ []) ys (i, tt))) ∙ e in cc

word_ends_same : (d : Bool) (x : ℕ) (w f : List ℕ) → (f ≡ [] → d ≡ false) → (d && ends_in_word ((x ∷ w) ++ f)) ≡ (d && ends_in_word f)
word_ends_same d x w [] h = ap (λ q. q && ends_in_word ((x ∷ w) ++ [])) (h refl) ∙ sym (ap (λ q. q && ends_in_word []) (h refl))
word_ends_same d x w (b ∷ t) h = ap (λ e. d && e) (ends_behind (x ∷ w) b t)

abbrev pub word_before : List ℕ → Line → Line
word_before w line = record line { words = w ∷ line.words }

-- a word before a place that it ends at
pub rows_word : (m : ℕ) (c : Bool) (x : ℕ) (w t : List ℕ) → Runs is_word_byte (x ∷ w) → Stops c t
    → rows m c ((x ∷ w) ++ t) ≡ word_before (x ∷ w) (line_of m (c && is_nil (more_texts t)) (first_text t)) ∷ numbered (m + 1) c (more_texts t)
rows_word m c x w t h stops =
    let rest = numbered (m + 1) c (more_texts t) in
    let d = c && is_nil (more_texts t) in
    let f = first_text t in
    rows_front m c (x ∷ w) t (Free-from_Runs is_word_byte is_line_feed word_not_line_feed (x ∷ w) h)
    ∙ ap (λ ws. made m d ws (ends_in_word ((x ∷ w) ++ f)) ∷ rest) (words_word x w f (Free-from_Runs is_word_byte is_blank word_not_blank (x ∷ w) h) (stops_head c t stops))
    ∙ ap (λ e. (let l : Line = record { number = m; words = (x ∷ w) ∷ words f; cut = d; word_cut = e } in l) ∷ rest) (word_ends_same d x w f (stops_cut c t stops))

-- ---- what is due

and_assoc : (a b c : Bool) → ((a && b) && c) ≡ (a && (b && c))
and_assoc true b c = refl
and_assoc false b c = refl

-- a word that something stands behind is known
known_front : (e : Bool) (w : List ℕ) (ws : List (List ℕ)) → (e && is_nil ws) ≡ false → (if e then without_cut_word (w ∷ ws) else w ∷ ws) ≡ w ∷ (if e then without_cut_word ws else ws)
known_front false w ws h = refl
known_front true w [] h = absurd (true≢false h)
known_front true w (v ∷ vs) h = refl

pub known_before : (w : List ℕ) (l : Line) → (l.word_cut && is_nil l.words) ≡ false → known_words (word_before w l) ≡ w ∷ known_words l
known_before w l h = known_front l.word_cut w l.words h

-- a line that ends in a cut word has a word
cut_word : (m : ℕ) (c : Bool) (f : List ℕ) → ((line_of m c f).word_cut && is_nil (line_of m c f).words) ≡ false
cut_word m c f = and_assoc c (ends_in_word f) (is_nil (words f)) ∙ ap (λ q. c && q) (ends_words f) ∙ and_false c

-- no word is known of a line without words
known_none : (e : Bool) (ws : List (List ℕ)) → ws ≡ [] → (if e then without_cut_word ws else ws) ≡ []
known_none true ws h = ap without_cut_word h
known_none false ws h = h

-- a word that is too long is known, also as the last word of a cut line
long_front : (c e : Bool) (w : List ℕ) (ws : List (List ℕ)) → nat_lt 32 (length w) ≡ true → due_of c (if e then without_cut_word (w ∷ ws) else w ∷ ws) ≡ due_long
long_front c false w ws h = ap (λ q. if q then due_long else due_word w) h
long_front c true w [] h = ap (λ q. due_of c (if q then w ∷ [] else [])) h ∙ ap (λ q. if q then due_long else due_word w) h
long_front c true w (v ∷ vs) h = ap (λ q. if q then due_long else due_word w) h

pub due_at_word : (m : ℕ) (c : Bool) (w f : List ℕ) → length w ≤ 32 → due (word_before w (line_of m c f)) ≡ due_word w
due_at_word m c w f short =
    ap (due_of c) (known_before w (line_of m c f) (cut_word m c f)) ∙ ap (λ q. if q then due_long else due_word w) (le-ltb 32 (length w) short)

pub due_at_end : (other : Line) (m : ℕ) (c : Bool) (t : List ℕ) → Closes c t → due (first_of other (rows m c t)) ≡ due_end
due_at_end other m c [] h =
    ap (λ l. due (first_of other l)) (rows_shape m c [])
    ∙ ap (due_of (c && true)) (known_none ((c && true) && ends_in_word []) (words []) words_nil)
    ∙ ap (λ q. if (q && true) then due_cut else due_end) h
due_at_end other m c (y ∷ t) h =
    ap (λ l. due (first_of other l)) (rows_end m c [] y t tt h) ∙ ap (due_of false) words_nil

pub due_at_long : (other : Line) (m : ℕ) (c : Bool) (x : ℕ) (w t : List ℕ) → Runs is_word_byte (x ∷ w) → 32 < length (x ∷ w) → due (first_of other (rows m c ((x ∷ w) ++ t))) ≡ due_long
due_at_long other m c x w t h long =
    let d = c && is_nil (more_texts t) in
    let f = first_text t in
    let u = head_text (slice_split is_blank f) in
    let e = d && ends_in_word ((x ∷ w) ++ f) in
    ap (λ l. due (first_of other l)) (rows_front m c (x ∷ w) t (Free-from_Runs is_word_byte is_line_feed word_not_line_feed (x ∷ w) h))
    ∙ ap (λ ws. due_of d (if e then without_cut_word ws else ws)) (words_start x w f (Free-from_Runs is_word_byte is_blank word_not_blank (x ∷ w) h))
    ∙ long_front d e ((x ∷ w) ++ u) (filter (λ word. not (is_nil word)) (tail_texts (slice_split is_blank f))) (lt-ltb 32 (length ((x ∷ w) ++ u)) (omega (arith, length-append (x ∷ w) u)))

pub due_at_cut : (other : Line) (m : ℕ) (w : List ℕ) → Runs is_word_byte w → length w ≤ 32 → due (first_of other (rows m true w)) ≡ due_cut
due_at_cut other m [] h short =
    ap (λ l. due (first_of other l)) (rows_shape m true []) ∙ ap (due_of true) (known_none (true && ends_in_word []) (words []) words_nil)
due_at_cut other m (x ∷ w) h short =
    let free = Free-from_Runs is_word_byte is_blank word_not_blank (x ∷ w) h in
    let ends : ends_in_word ((x ∷ w) ++ []) ≡ true = ap ends_in_word (append-nil (x ∷ w)) ∙ ends_word x w free in
    let alone : words ((x ∷ w) ++ []) ≡ (x ∷ w) ∷ [] = words_word x w [] free tt ∙ ap (λ l. (x ∷ w) ∷ l) words_nil in
    ap (λ t. due (first_of other (rows m true t))) (sym (append-nil (x ∷ w)))
    ∙ ap (λ l. due (first_of other l)) (rows_front m true (x ∷ w) [] (Free-from_Runs is_word_byte is_line_feed word_not_line_feed (x ∷ w) h))
    ∙ ap (λ ws. due_of true (if (true && ends_in_word ((x ∷ w) ++ [])) then without_cut_word ws else ws)) alone
    ∙ ap (λ e. due_of true (if (true && e) then without_cut_word ((x ∷ w) ∷ []) else (x ∷ w) ∷ [])) ends
    ∙ ap (λ q. due_of true (if q then (x ∷ w) ∷ [] else [])) (le-ltb 32 (length (x ∷ w)) short)

-- ---- content

pub content_at_word : (other : Line) (m : ℕ) (c : Bool) (x : ℕ) (t : List ℕ) → is_word_byte x ≡ true → has_content (first_of other (rows m c (x ∷ t))).words ≡ not (x == 99)
content_at_word other m c x t h =
    ap (λ l. has_content (first_of other l).words) (rows_front m c (x ∷ []) t (word_not_line_feed x h, tt))
    ∙ ap has_content (words_start x [] (first_text t) (word_not_blank x h, tt))

-- ---- the lines behind the present one

-- a line with content counts
pub counted : (l : Line) (ls : List Line) → has_content l.words ≡ true → filter counts (l ∷ ls) ≡ l ∷ filter counts ls
counted l ls e = ap (λ q. if (l.cut || q) then l ∷ filter counts ls else filter counts ls) e ∙ ap (λ q. if q then l ∷ filter counts ls else filter counts ls) (or_true l.cut)
  where
    or_true : (q : Bool) → (q || true) ≡ true
    or_true true = refl
    or_true false = refl

-- a line without content counts only if it is cut
pub uncounted : (l : Line) (ls : List Line) → has_content l.words ≡ false → l.cut ≡ false → filter counts (l ∷ ls) ≡ filter counts ls
uncounted l ls e f = ap (λ q. if (l.cut || q) then l ∷ filter counts ls else filter counts ls) e ∙ ap (λ q. if (q || false) then l ∷ filter counts ls else filter counts ls) f

-- what is passed over of a line changes nothing of those behind it
pub following_front : (st : Standing) (m : ℕ) (c : Bool) (s t : List ℕ) → same_standing st Start ≡ false → Free is_line_feed s → following_of st (rows m c (s ++ t)) ≡ following_of st (rows m c t)
following_front Start m c s t e h = absurd (true≢false e)
following_front Content m c s t e h = ap behind_first (rows_front m c s t h) ∙ sym (ap behind_first (rows_shape m c t))
following_front Comment m c s t e h = ap in_comment (rows_front m c s t h) ∙ sym (ap in_comment (rows_shape m c t))

-- nor does the end of the line
pub following_end : (st : Standing) (m : ℕ) (c : Bool) (s : List ℕ) (b : ℕ) (t : List ℕ) → same_standing st Start ≡ false → Free is_line_feed s → is_line_feed b ≡ true
    → filter counts (following_of st (rows m c (s ++ (b ∷ t)))) ≡ filter counts (rows (m + 1) c t)
following_end Start m c s b t e h f = absurd (true≢false e)
following_end Content m c s b t e h f = ap (λ ls. filter counts (behind_first ls)) (rows_end m c s b t h f)
following_end Comment m c s b t e h f =
    ap (λ ls. filter counts (in_comment ls)) (rows_end m c s b t h f) ∙ uncounted (without_words (line_of m false s)) (rows (m + 1) c t) refl refl
