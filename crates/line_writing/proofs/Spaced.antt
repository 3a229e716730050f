-- The text of a line is its letter, its words behind their spaces, and the line's end.
use Rattle.std.proofs.Common.{◌≡◌, ℕ, ◌+◌, ◌<◌, List, [], ◌∷◌, ◌++◌, length, get_or, take, drop, map, refl, sym, ◌∙◌, ap, append_assoc, decimal, codes}
use Rattle.std.proofs.lemmas.List.{append-nil, take_more, take-append-drop, drop_more}
use Rattle.std.proofs.lemmas.Grind.{flat_map-append}
use Rattle.std.specs.List.{flat_map}
use Rattle.lits.specs.Word.{literal_text}
use Rattle.lits.specs.Numbering.{file_lit, file_lits}
use Rattle.session_rules.specs.Spelling.{line_text, literal_words}
use Rattle.line_writing.specs.declared.writing.Part.{Part}
use Rattle.line_writing.specs.declared.writing.Part.TheVariants as parts
use Rattle.line_writing.specs.Held.{list_text, part_text, parts_text, line_bytes}
use Rattle.line_writing.specs.Writing.{part_words, parts_words, line_words}

-- words, each behind a space
abbrev spaced : List (List ℕ) → List ℕ
spaced [] = []
spaced (w ∷ ws) = (32 ∷ w) ++ spaced ws

spaced-append : (vs ws : List (List ℕ)) → spaced (vs ++ ws) ≡ spaced vs ++ spaced ws
spaced-append [] ws = refl
spaced-append (v ∷ vs) ws = ap (λ (l : List ℕ). (32 ∷ v) ++ l) (spaced-append vs ws) ∙ sym (append_assoc (32 ∷ v) (spaced vs) (spaced ws))

spaced-list : {A : Type 0} (word : A → List ℕ) (xs : List A) → spaced (map word xs ++ codes "0" ∷ []) ≡ list_text word xs
spaced-list word [] = refl
spaced-list word (x ∷ xs) = ap (λ (l : List ℕ). (32 ∷ word x) ++ l) (spaced-list word xs) ∙ sym (append_assoc (32 ∷ word x) (flat_map (λ x. 32 ∷ word x) xs) (codes " 0"))

spaced-numbered : (vars ls : List ℕ) → spaced (literal_words (file_lits vars ls)) ≡ list_text (λ l. literal_text (file_lit vars l)) ls
spaced-numbered vars [] = refl
spaced-numbered vars (l ∷ ls) =
    let word = λ (x : ℕ). literal_text (file_lit vars x) in
    ap (λ (z : List ℕ). (32 ∷ word l) ++ z) (spaced-numbered vars ls) ∙ sym (append_assoc (32 ∷ word l) (flat_map (λ x. 32 ∷ word x) ls) (codes " 0"))

spaced-part_words : (p : Part) → spaced (part_words p) ≡ part_text p
spaced-part_words (parts.Word w) = append-nil (32 ∷ w.now)
spaced-part_words (parts.Id id) = append-nil (32 ∷ decimal id)
spaced-part_words (parts.Lits ls) = spaced-list literal_text ls.now
spaced-part_words (parts.Numbered d ls) = spaced-numbered d.now ls.now
spaced-part_words (parts.Ids is) = spaced-list decimal is.now

line_text-spaced : (w : List ℕ) (ws : List (List ℕ)) → line_text (w ∷ ws) ≡ w ++ (spaced ws ++ 10 ∷ [])
line_text-spaced w [] = refl
line_text-spaced w (v ∷ vs) = ap (λ (l : List ℕ). w ++ 32 ∷ l) (line_text-spaced v vs ∙ sym (append_assoc v (spaced vs) (10 ∷ [])))

spaced-parts_words : (ps : List Part) → spaced (parts_words ps) ≡ parts_text ps
spaced-parts_words [] = refl
spaced-parts_words (p ∷ []) = spaced-part_words p ∙ sym (append-nil (part_text p))
spaced-parts_words (p ∷ q ∷ ps) = spaced-append (part_words p) (parts_words (q ∷ ps)) ∙ ap (λ (l : List ℕ). l ++ spaced (parts_words (q ∷ ps))) (spaced-part_words p) ∙ ap (λ (l : List ℕ). part_text p ++ l) (spaced-parts_words (q ∷ ps))

-- a line's text is what is put for it
pub line_text-line_words : (letter : ℕ) (ps : List Part) → line_text (line_words letter ps) ≡ line_bytes letter ps
line_text-line_words letter ps = line_text-spaced (letter ∷ []) (parts_words ps) ∙ ap (λ (l : List ℕ). letter ∷ (l ++ 10 ∷ [])) (spaced-parts_words ps)

-- the texts of the first values and of one more
pub flat_map-taken : {A : Type 0} (f : A → List ℕ) (xs : List A) (i : ℕ) (x : A) → i < length xs → x ≡ get_or xs i x → flat_map f (take (i + 1) xs) ≡ flat_map f (take i xs) ++ f x
flat_map-taken {A = A} f xs i x within here =
    ap (flat_map f) (take_more xs i x within ∙ ap (λ (y : A). take i xs ++ y ∷ []) (sym here)) ∙ flat_map-append f (take i xs) (x ∷ []) ∙ ap (λ (l : List ℕ). flat_map f (take i xs) ++ l) (append-nil (f x))

-- all texts: those of the first values, of one, and of the rest
pub flat_map-parted : {A : Type 0} (f : A → List ℕ) (xs : List A) (i : ℕ) (x : A) → i < length xs → x ≡ get_or xs i x → flat_map f xs ≡ flat_map f (take i xs) ++ (f x ++ flat_map f (drop (i + 1) xs))
flat_map-parted {A = A} f xs i x within here =
    ap (flat_map f) (sym (take-append-drop i xs) ∙ ap (λ (l : List A). take i xs ++ l) (drop_more xs i x within ∙ ap (λ (y : A). y ∷ drop (i + 1) xs) (sym here))) ∙ flat_map-append f (take i xs) (x ∷ drop (i + 1) xs)

-- a list: its first values, one, and the rest
pub list-parted : (xs : List ℕ) (i : ℕ) → i < length xs → xs ≡ take i xs ++ (get_or xs i 0 ∷ drop (i + 1) xs)
list-parted xs i within = sym (take-append-drop i xs) ∙ ap (λ (l : List ℕ). take i xs ++ l) (drop_more xs i 0 within)
