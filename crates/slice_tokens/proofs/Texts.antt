-- Laws on the words of a text, byte by byte.
use Rattle.std.proofs.Common.{◌≡◌, ℕ, Bool, true, false, not, ◌&&◌, List, [], ◌∷◌, ◌++◌, filter, if◌then◌else◌, refl, sym, ap, ◌∙◌, append-nil}
use Rattle.std.specs.List.{slice_split, onto_first}
use Rattle.std.proofs.lemmas.List.Splits.{slice_split-cons_yes, slice_split-cons_no}
use Rattle.session_rules.specs.Lines.{is_nil, is_blank, words, ends_in_word}

-- each byte passes the test
abbrev pub Runs : (ℕ → Bool) → List ℕ → Type 0
Runs p [] = Unit {0}
Runs p (x ∷ xs) = (p x ≡ true) × Runs p xs

-- no byte passes the test
abbrev pub Free : (ℕ → Bool) → List ℕ → Type 0
Free p [] = Unit {0}
Free p (x ∷ xs) = (p x ≡ false) × Free p xs

pub Free-from_Runs : (p q : ℕ → Bool) → ((x : ℕ) → p x ≡ true → q x ≡ false) → (xs : List ℕ) → Runs p xs → Free q xs
Free-from_Runs p q f [] h = tt
Free-from_Runs p q f (x ∷ xs) h = (f x h.0, Free-from_Runs p q f xs h.1)

abbrev pub head_text : List (List ℕ) → List ℕ
head_text [] = []
head_text (t ∷ ts) = t

abbrev pub tail_texts : List (List ℕ) → List (List ℕ)
tail_texts [] = []
tail_texts (t ∷ ts) = ts

onto_first_shape : (x : ℕ) (ts : List (List ℕ)) → onto_first x ts ≡ (x ∷ head_text ts) ∷ tail_texts ts
onto_first_shape x [] = refl
onto_first_shape x (t ∷ ts) = refl

pub split_shape : (p : ℕ → Bool) (t : List ℕ) → slice_split p t ≡ head_text (slice_split p t) ∷ tail_texts (slice_split p t)
split_shape p [] = refl
split_shape p (x ∷ t) = by_test (p x)
  where
    by_test : (b : Bool) → (if b then ([] ∷ slice_split p t) else (onto_first x (slice_split p t)))
        ≡ head_text (if b then ([] ∷ slice_split p t) else (onto_first x (slice_split p t))) ∷ tail_texts (if b then ([] ∷ slice_split p t) else (onto_first x (slice_split p t)))
    by_test true = refl
    by_test false = onto_first_shape x (slice_split p t) ∙ sym (ap (λ ts. head_text ts ∷ tail_texts ts) (onto_first_shape x (slice_split p t)))

-- the first part takes up a front in which no byte passes
pub split_front : (p : ℕ → Bool) (w t : List ℕ) → Free p w → slice_split p (w ++ t) ≡ (w ++ head_text (slice_split p t)) ∷ tail_texts (slice_split p t)
split_front p [] t h = split_shape p t
split_front p (x ∷ w) t h = slice_split-cons_no p x (w ++ t) h.0 ∙ ap (onto_first x) (split_front p w t h.1)

-- a text that has nothing before its first blank
abbrev pub AtBlank : List ℕ → Type 0
AtBlank [] = Unit {0}
AtBlank (b ∷ bs) = is_blank b ≡ true

at_blank_head : (t : List ℕ) → AtBlank t → head_text (slice_split is_blank t) ≡ []
at_blank_head [] h = refl
at_blank_head (b ∷ t) h = ap head_text (slice_split-cons_yes is_blank b t h)

abbrev filled : List ℕ → Bool
filled word = not (is_nil word)

pub words_blank : (b : ℕ) (t : List ℕ) → is_blank b ≡ true → words (b ∷ t) ≡ words t
unfolding words
words_blank b t h = ap (filter filled) (slice_split-cons_yes is_blank b t h)

pub words_blanks : (s t : List ℕ) → Runs is_blank s → words (s ++ t) ≡ words t
words_blanks [] t h = refl
words_blanks (b ∷ s) t h = words_blank b (s ++ t) h.0 ∙ words_blanks s t h.1

pub ends_blank : (b : ℕ) (t : List ℕ) → is_blank b ≡ true → ends_in_word (b ∷ t) ≡ ends_in_word t
unfolding ends_in_word
ends_blank b [] h = ap not h
ends_blank b (x ∷ t) h = refl

pub ends_blanks : (s t : List ℕ) → Runs is_blank s → ends_in_word (s ++ t) ≡ ends_in_word t
ends_blanks [] t h = refl
ends_blanks (b ∷ s) t h = ends_blank b (s ++ t) h.0 ∙ ends_blanks s t h.1

-- a text that begins with bytes of a word begins with a word that begins with them
pub words_start : (x : ℕ) (w t : List ℕ) → Free is_blank (x ∷ w) → words ((x ∷ w) ++ t) ≡ ((x ∷ w) ++ head_text (slice_split is_blank t)) ∷ filter filled (tail_texts (slice_split is_blank t))
unfolding words
words_start x w t h = ap (filter filled) (split_front is_blank (x ∷ w) t h)

words_at_blank : (t : List ℕ) → AtBlank t → words t ≡ filter filled (tail_texts (slice_split is_blank t))
unfolding words
words_at_blank t h = ap (filter filled) (split_shape is_blank t ∙ ap (λ l. l ∷ tail_texts (slice_split is_blank t)) (at_blank_head t h))

-- a word ends at a blank or at the end of the text
pub words_word : (x : ℕ) (w t : List ℕ) → Free is_blank (x ∷ w) → AtBlank t → words ((x ∷ w) ++ t) ≡ (x ∷ w) ∷ words t
words_word x w t h at =
    words_start x w t h ∙ ap (λ l. ((x ∷ w) ++ l) ∷ filter filled (tail_texts (slice_split is_blank t))) (at_blank_head t at)
    ∙ ap (λ l. l ∷ filter filled (tail_texts (slice_split is_blank t))) (append-nil (x ∷ w)) ∙ ap (λ l. (x ∷ w) ∷ l) (sym (words_at_blank t at))

pub ends_cons : (x y : ℕ) (t : List ℕ) → ends_in_word (x ∷ y ∷ t) ≡ ends_in_word (y ∷ t)
unfolding ends_in_word
ends_cons x y t = refl

pub ends_one : (x : ℕ) → ends_in_word (x ∷ []) ≡ not (is_blank x)
unfolding ends_in_word
ends_one x = refl

pub ends_nil : ends_in_word [] ≡ false
unfolding ends_in_word
ends_nil = refl

pub ends_behind : (w : List ℕ) (b : ℕ) (t : List ℕ) → ends_in_word (w ++ (b ∷ t)) ≡ ends_in_word (b ∷ t)
ends_behind [] b t = refl
ends_behind (x ∷ []) b t = ends_cons x b t
ends_behind (x ∷ y ∷ w) b t = ends_cons x y (w ++ (b ∷ t)) ∙ ends_behind (y ∷ w) b t

-- where a text has no word, it does not end in one
pub ends_words : (t : List ℕ) → (ends_in_word t && is_nil (words t)) ≡ false
ends_words [] = ap (λ e. e && is_nil (words [])) ends_nil
ends_words (b ∷ t) = by_test (ends_words t) (is_blank b) refl
  where
    and_false : (e : Bool) → (e && false) ≡ false
    and_false true = refl
    and_false false = refl

    by_test : (ends_in_word t && is_nil (words t)) ≡ false → (e : Bool) → is_blank b ≡ e → (ends_in_word (b ∷ t) && is_nil (words (b ∷ t))) ≡ false
    by_test rest true h = ap (λ e. e && is_nil (words (b ∷ t))) (ends_blank b t h) ∙ ap (λ l. ends_in_word t && is_nil l) (words_blank b t h) ∙ rest
    by_test rest false h = ap (λ l. ends_in_word (b ∷ t) && is_nil l) (words_start b [] t (h, tt)) ∙ and_false (ends_in_word (b ∷ t))

-- a text of a word alone ends in it
pub ends_word : (x : ℕ) (w : List ℕ) → Free is_blank (x ∷ w) → ends_in_word (x ∷ w) ≡ true
ends_word x [] h = ends_one x ∙ ap not h.0
ends_word x (y ∷ w) h = ends_cons x y w ∙ ends_word y w h.1

pub words_nil : words [] ≡ []
unfolding words
words_nil = refl
