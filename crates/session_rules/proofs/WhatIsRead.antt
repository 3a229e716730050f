-- What the words of a line are read as has these words as its spelling.
use Rattle.std.proofs.Common.{◌≡◌, ℕ, ◌⊎◌, true, nat_eq, List, [], ◌∷◌, ◌++◌, length, take, take_all, decimal, Result, Ok, Err, codes, refl, sym, ◌∙◌, ap, subst, inl, inr, arith, append-nil, eqb-true}
use Rattle.std.specs.List.{starts_with}
use Rattle.std.specs.Cmp.Lexicographic.{pointwise, same_text}
use Rattle.std.proofs.lemmas.Bool.{and_parts, cases_Bool}
use Rattle.lits.specs.declared.LitWord.{LitWord}
use Rattle.lits.specs.declared.LitWord.TheVariants as literals
use Rattle.lits.specs.declared.IdWord.{IdWord}
use Rattle.lits.specs.declared.IdWord.TheVariants as ids
use Rattle.lits.specs.Literal.{IsLiteral}
use Rattle.lits.specs.Word.{literal_word, id_word, literal_text}
use Rattle.lits.proofs.Back.{literal_text-literal_word}
use Rattle.lits.proofs.WordKinds.{literal_zero_at, id_zero_at, decimal-id_word}
use Rattle.session_rules.specs.declared.StatusWord.{StatusWord}
use Rattle.session_rules.specs.declared.StatusWord.TheVariants.{Satisfiable, Unsatisfiable, Unknown}
use Rattle.session_rules.specs.declared.Event.{Event}
use Rattle.session_rules.specs.declared.Event.TheVariants as events
use Rattle.session_rules.specs.declared.Step.{Step}
use Rattle.session_rules.specs.declared.Step.TheVariants as steps
use Rattle.session_rules.specs.declared.LStep.{LStep}
use Rattle.session_rules.specs.declared.LStep.TheVariants as lsteps
use Rattle.session_rules.specs.declared.Rule.TheVariants as rules
use Rattle.session_rules.specs.declared.Letter.{Letter}
use Rattle.session_rules.specs.declared.Letter.TheVariants as letters
use Rattle.session_rules.specs.Reading.{Fault, wrong, ◌>>=◌, Part, whole, literals_after, literal_list, ids_after, id_list, id_or_fault, own_id, status_word, same_word, of_literals, of_ids, of_status, letter_of, letter_of_byte, event_at, script_at, step_at, id_step_at, by_letter, icnf_line, script_line, idrup_line, lidrup_line}
use Rattle.session_rules.specs.Spelling.{literal_words, id_words, status_text, event_words, step_words, id_step_words, AreLiterals, AreIds, IsId, IsEvent, IsProofEvent, IsScriptLine, IsStep, IsIdStep, Spells}
use Rattle.session_rules.proofs.Parts.{ok_same}
use Rattle.session_rules.proofs.Spelled.{All-cons}

-- ---- Words

-- a word that is read as an id is the word of this id
id_back : (w : List ℕ) (n : ℕ) → id_word w ≡ ids.Value n → IsId n × (w ≡ decimal n)
id_back w n e = let own = decimal-id_word w n e in ((own.0, own.1), own.2)

-- words that are the same are one
pub same_word-true : (v w : List ℕ) → same_word v w ≡ true → v ≡ w
unfolding same_word
same_word-true v w e = let parts = and_parts (nat_eq (length v) (length w)) (starts_with nat_eq v w) e in
    let long : length v ≡ length w = eqb-true _ _ parts.0 in
    let front : take (length w) v ≡ v = take_all (length w) v (omega arith) in
    let same : pointwise nat_eq w v ≡ true = ap (pointwise nat_eq w) (sym front) ∙ parts.1 in
    sym (same_text w v (sym same))

-- ---- Parts

literals_sound : (w : List ℕ) (ws : List (List ℕ)) (k : LitWord) → literal_word w ≡ k → (o : Part (List ℕ)) → literal_list ws ≡ o
    → ((ls : List ℕ) (rest : List (List ℕ)) → literal_list ws ≡ Ok (ls, rest) → AreLiterals ls × (ws ≡ literal_words ls ++ rest))
    → (m : List ℕ × List (List ℕ)) → literals_after k ws o ≡ Ok m → AreLiterals m.0 × (w ∷ ws ≡ literal_words m.0 ++ m.1)
literals_sound w ws literals.Zero k o e back m h = subst (λ n. AreLiterals n.0 × (w ∷ ws ≡ literal_words n.0 ++ n.1)) (ok_same (Ok ([], ws)) ([], ws) m refl h)
    (λ i d lt. absurd (omega arith), ap (λ v. v ∷ ws) (literal_zero_at w k))
literals_sound w ws (literals.Value l) k (Ok n) e back m h = let own = literal_text-literal_word w l k in let more = back n.0 n.1 e in
    subst (λ n. AreLiterals n.0 × (w ∷ ws ≡ literal_words n.0 ++ n.1)) (ok_same (Ok (l ∷ n.0, n.1)) (l ∷ n.0, n.1) m refl h)
    (All-cons IsLiteral l n.0 own.0 more.0, ap (λ v. v ∷ ws) own.1 ∙ ap (λ vs. literal_text l ∷ vs) more.1)
literals_sound w ws (literals.Value l) k (Err f) e back m h = cc h
literals_sound w ws literals.NotNumber k o e back m h = cc h
literals_sound w ws literals.OutOfRange k o e back m h = cc h

pub literal_list-sound : (ws : List (List ℕ)) (ls : List ℕ) (rest : List (List ℕ)) → literal_list ws ≡ Ok (ls, rest) → AreLiterals ls × (ws ≡ literal_words ls ++ rest)
unfolding literal_list
literal_list-sound [] ls rest e = cc e
literal_list-sound (w ∷ ws) ls rest e = literals_sound w ws (literal_word w) refl (literal_list ws) refl (literal_list-sound ws) (ls, rest) e

ids_sound : (w : List ℕ) (ws : List (List ℕ)) (k : IdWord) → id_word w ≡ k → (o : Part (List ℕ)) → id_list ws ≡ o
    → ((is : List ℕ) (rest : List (List ℕ)) → id_list ws ≡ Ok (is, rest) → AreIds is × (ws ≡ id_words is ++ rest))
    → (m : List ℕ × List (List ℕ)) → ids_after k ws o ≡ Ok m → AreIds m.0 × (w ∷ ws ≡ id_words m.0 ++ m.1)
ids_sound w ws ids.Zero k o e back m h = subst (λ n. AreIds n.0 × (w ∷ ws ≡ id_words n.0 ++ n.1)) (ok_same (Ok ([], ws)) ([], ws) m refl h)
    (λ i d lt. absurd (omega arith), ap (λ v. v ∷ ws) (id_zero_at w k))
ids_sound w ws (ids.Value i) k (Ok n) e back m h = let own = id_back w i k in let more = back n.0 n.1 e in
    subst (λ n. AreIds n.0 × (w ∷ ws ≡ id_words n.0 ++ n.1)) (ok_same (Ok (i ∷ n.0, n.1)) (i ∷ n.0, n.1) m refl h)
    (All-cons IsId i n.0 own.0 more.0, ap (λ v. v ∷ ws) own.1 ∙ ap (λ vs. decimal i ∷ vs) more.1)
ids_sound w ws (ids.Value i) k (Err f) e back m h = cc h
ids_sound w ws ids.NotNumber k o e back m h = cc h
ids_sound w ws ids.OutOfRange k o e back m h = cc h

pub id_list-sound : (ws : List (List ℕ)) (is : List ℕ) (rest : List (List ℕ)) → id_list ws ≡ Ok (is, rest) → AreIds is × (ws ≡ id_words is ++ rest)
unfolding id_list
id_list-sound [] is rest e = cc e
id_list-sound (w ∷ ws) is rest e = ids_sound w ws (id_word w) refl (id_list ws) refl (id_list-sound ws) (is, rest) e

own_sound : (w : List ℕ) (ws : List (List ℕ)) (k : IdWord) → id_word w ≡ k → (m : ℕ × List (List ℕ)) → id_or_fault k ws ≡ Ok m → IsId m.0 × (w ∷ ws ≡ decimal m.0 ∷ m.1)
own_sound w ws ids.Zero k m h = cc h
own_sound w ws (ids.Value i) k m h = let own = id_back w i k in
    subst (λ n. IsId n.0 × (w ∷ ws ≡ decimal n.0 ∷ n.1)) (ok_same (Ok (i, ws)) (i, ws) m refl h) (own.0, ap (λ v. v ∷ ws) own.1)
own_sound w ws ids.NotNumber k m h = cc h
own_sound w ws ids.OutOfRange k m h = cc h

own_id-sound : (ws : List (List ℕ)) (i : ℕ) (rest : List (List ℕ)) → own_id ws ≡ Ok (i, rest) → IsId i × (ws ≡ decimal i ∷ rest)
unfolding own_id
own_id-sound [] i rest e = cc e
own_id-sound (w ∷ ws) i rest e = own_sound w ws (id_word w) refl (i, rest) e

-- a reading has this value
abbrev Reads : {A : Type 0} → Result A Fault → A → Type 0
Reads o x = o ≡ Ok x

status_sound : (ws : List (List ℕ)) (m : StatusWord × List (List ℕ)) → status_word ws ≡ Ok m → ws ≡ status_text m.0 ∷ m.1
unfolding status_word
status_sound [] m e = cc e
status_sound (w ∷ ws) m e = elim (cases_Bool (same_word w (codes "SATISFIABLE"))) [
  | inl a ↦ let f : Reads (Ok (Satisfiable, ws)) m = rw a at e in is Satisfiable (same_word-true w (codes "SATISFIABLE") a) f
  | inr a ↦ elim (cases_Bool (same_word w (codes "UNSATISFIABLE"))) [
    | inl b ↦ let f : Reads (Ok (Unsatisfiable, ws)) m = rw (a, b) at e in is Unsatisfiable (same_word-true w (codes "UNSATISFIABLE") b) f
    | inr b ↦ elim (cases_Bool (same_word w (codes "UNKNOWN"))) [
      | inl c ↦ let f : Reads (Ok (Unknown, ws)) m = rw (a, b, c) at e in is Unknown (same_word-true w (codes "UNKNOWN") c) f
      | inr c ↦ let f : Reads (Err (wrong rules.Word)) m = rw (a, b, c) at e in cc f
    ]
  ]
]
  where
    is : (s : StatusWord) → w ≡ status_text s → Reads (Ok (s, ws)) m → w ∷ ws ≡ status_text m.0 ∷ m.1
    is s p f = subst (λ n. w ∷ ws ≡ status_text n.0 ∷ n.1) (ok_same (Ok (s, ws)) (s, ws) m refl f) (ap (λ v. v ∷ ws) p)

-- ---- What stands behind a letter

whole_sound : {A : Type 0} (x y : A) (ws : List (List ℕ)) → whole x ws ≡ Ok y → (ws ≡ []) × (x ≡ y)
whole_sound x y [] e = (refl, ok_same (Ok x) x y refl e)
whole_sound x y (w ∷ ws) e = cc e

-- a part was read, and what is behind it
chain_parts : {A B : Type 0} (behind : A → List (List ℕ) → Result B Fault) (y : B) (o : Part A) → (o >>= λ m. behind m.0 m.1) ≡ Ok y
    → (x : A) × (rest : List (List ℕ)) × (o ≡ Ok (x, rest)) × (behind x rest ≡ Ok y)
chain_parts behind y (Ok m) e = (m.0, m.1, refl, e)
chain_parts behind y (Err f) e = cc e

module _ {A : Type 0} (make : List ℕ → A) (y : A) (ws : List (List ℕ)) where
  pub literals_end : of_literals make ws ≡ Ok y → (ls : List ℕ) × AreLiterals ls × (ws ≡ literal_words ls) × (make ls ≡ y)
  literals_end e = let at = chain_parts (λ ls. whole (make ls)) y (literal_list ws) e in let end = whole_sound (make at.0) y at.1 at.3 in
      let own = literal_list-sound ws at.0 at.1 at.2 in
      (at.0, own.0, own.1 ∙ ap (λ vs. literal_words at.0 ++ vs) end.0 ∙ append-nil (literal_words at.0), end.1)

  pub ids_end : of_ids make ws ≡ Ok y → (is : List ℕ) × AreIds is × (ws ≡ id_words is) × (make is ≡ y)
  ids_end e = let at = chain_parts (λ is. whole (make is)) y (id_list ws) e in let end = whole_sound (make at.0) y at.1 at.3 in
      let own = id_list-sound ws at.0 at.1 at.2 in
      (at.0, own.0, own.1 ∙ ap (λ vs. id_words at.0 ++ vs) end.0 ∙ append-nil (id_words at.0), end.1)

status_end : {A : Type 0} (make : StatusWord → A) (y : A) (ws : List (List ℕ)) → of_status make ws ≡ Ok y → (s : StatusWord) × (ws ≡ status_text s ∷ []) × (make s ≡ y)
status_end make y ws e = let at = chain_parts (λ s. whole (make s)) y (status_word ws) e in let end = whole_sound (make at.0) y at.1 at.3 in
    (at.0, status_sound ws (at.0, at.1) at.2 ∙ ap (λ vs. status_text at.0 ∷ vs) end.0, end.1)

-- ---- Letters

-- the word of a letter
pub letter_text : Letter → List ℕ
letter_text letters.Input = codes "i"
letter_text letters.Query = codes "q"
letter_text letters.Status = codes "s"
letter_text letters.Model = codes "m"
letter_text letters.Core = codes "u"
letter_text letters.Lemma = codes "l"
letter_text letters.Deletion = codes "d"
letter_text letters.Weakening = codes "w"
letter_text letters.Restoring = codes "r"
letter_text letters.Values = codes "v"
letter_text letters.Failed = codes "f"
letter_text letters.NoLetter = []

byte_back : (b : ℕ) → (letter_of_byte b ≡ letters.NoLetter) ⊎ (b ∷ [] ≡ letter_text (letter_of_byte b))
unfolding letter_text
byte_back b = elim (cases_Bool (nat_eq b 105)) [
  | inl e0 ↦ rw e0 (inr (ap (λ a. a ∷ []) (eqb-true b 105 e0)))
  | inr e0 ↦ elim (cases_Bool (nat_eq b 113)) [
    | inl e1 ↦ rw (e0, e1) (inr (ap (λ a. a ∷ []) (eqb-true b 113 e1)))
    | inr e1 ↦ elim (cases_Bool (nat_eq b 115)) [
      | inl e2 ↦ rw (e0, e1, e2) (inr (ap (λ a. a ∷ []) (eqb-true b 115 e2)))
      | inr e2 ↦ elim (cases_Bool (nat_eq b 109)) [
        | inl e3 ↦ rw (e0, e1, e2, e3) (inr (ap (λ a. a ∷ []) (eqb-true b 109 e3)))
        | inr e3 ↦ elim (cases_Bool (nat_eq b 117)) [
          | inl e4 ↦ rw (e0, e1, e2, e3, e4) (inr (ap (λ a. a ∷ []) (eqb-true b 117 e4)))
          | inr e4 ↦ elim (cases_Bool (nat_eq b 108)) [
            | inl e5 ↦ rw (e0, e1, e2, e3, e4, e5) (inr (ap (λ a. a ∷ []) (eqb-true b 108 e5)))
            | inr e5 ↦ elim (cases_Bool (nat_eq b 100)) [
              | inl e6 ↦ rw (e0, e1, e2, e3, e4, e5, e6) (inr (ap (λ a. a ∷ []) (eqb-true b 100 e6)))
              | inr e6 ↦ elim (cases_Bool (nat_eq b 119)) [
                | inl e7 ↦ rw (e0, e1, e2, e3, e4, e5, e6, e7) (inr (ap (λ a. a ∷ []) (eqb-true b 119 e7)))
                | inr e7 ↦ elim (cases_Bool (nat_eq b 114)) [
                  | inl e8 ↦ rw (e0, e1, e2, e3, e4, e5, e6, e7, e8) (inr (ap (λ a. a ∷ []) (eqb-true b 114 e8)))
                  | inr e8 ↦ elim (cases_Bool (nat_eq b 118)) [
                    | inl e9 ↦ rw (e0, e1, e2, e3, e4, e5, e6, e7, e8, e9) (inr (ap (λ a. a ∷ []) (eqb-true b 118 e9)))
                    | inr e9 ↦ elim (cases_Bool (nat_eq b 102)) [
                      | inl e10 ↦ rw (e0, e1, e2, e3, e4, e5, e6, e7, e8, e9, e10) (inr (ap (λ a. a ∷ []) (eqb-true b 102 e10)))
                      | inr e10 ↦ rw (e0, e1, e2, e3, e4, e5, e6, e7, e8, e9, e10) (inl refl)
                    ]
                  ]
                ]
              ]
            ]
          ]
        ]
      ]
    ]
  ]
]

pub letter_back : (w : List ℕ) → (letter_of w ≡ letters.NoLetter) ⊎ (w ≡ letter_text (letter_of w))
letter_back [] = inl refl
letter_back (b ∷ []) = byte_back b
letter_back (b ∷ c ∷ bs) = inl refl

pub status_word_is_s : (w : List ℕ) → letter_of w ≡ letters.Status → w ≡ codes "s"
unfolding letter_text
status_word_is_s w e = elim (letter_back w) [ inl n ↦ cc (sym e ∙ n) | inr p ↦ p ∙ ap letter_text e ]

-- ---- Lines

module _ {A : Type 0} (Fits : A → Type 0) (words_of : A → List (List ℕ)) where
  -- a line of literals alone behind this word
  literals_line : (v : List ℕ) (make : List ℕ → A) → ((ls : List ℕ) → AreLiterals ls → Spells Fits words_of (v ∷ literal_words ls) (make ls))
      → (ws : List (List ℕ)) (y : A) → of_literals make ws ≡ Ok y → Spells Fits words_of (v ∷ ws) y
  literals_line v make spells ws y e = let end = literals_end make y ws e in let own = spells end.0 end.1 in
      subst (Spells Fits words_of (v ∷ ws)) end.3 (own.0, ap (λ vs. v ∷ vs) end.2 ∙ own.1)

  ids_line : (v : List ℕ) (make : List ℕ → A) → ((is : List ℕ) → AreIds is → Spells Fits words_of (v ∷ id_words is) (make is))
      → (ws : List (List ℕ)) (y : A) → of_ids make ws ≡ Ok y → Spells Fits words_of (v ∷ ws) y
  ids_line v make spells ws y e = let end = ids_end make y ws e in let own = spells end.0 end.1 in
      subst (Spells Fits words_of (v ∷ ws)) end.3 (own.0, ap (λ vs. v ∷ vs) end.2 ∙ own.1)

  status_line : (v : List ℕ) (make : StatusWord → A) → ((s : StatusWord) → Spells Fits words_of (v ∷ status_text s ∷ []) (make s))
      → (ws : List (List ℕ)) (y : A) → of_status make ws ≡ Ok y → Spells Fits words_of (v ∷ ws) y
  status_line v make spells ws y e = let end = status_end make y ws e in let own = spells end.0 in
      subst (Spells Fits words_of (v ∷ ws)) end.2 (own.0, ap (λ vs. v ∷ vs) end.1 ∙ own.1)

  -- what is read letter by letter is spelled
  by_letter-sound : (at : Letter → List (List ℕ) → Result A Fault) → ((c : Letter) (ws : List (List ℕ)) (x : A) → at c ws ≡ Ok x → Spells Fits words_of (letter_text c ∷ ws) x)
      → ((ws : List (List ℕ)) → at letters.NoLetter ws ≡ Err (wrong rules.Letter)) → (ws : List (List ℕ)) (x : A) → by_letter at ws ≡ Ok x → Spells Fits words_of ws x
  by_letter-sound at sound none [] x e = cc e
  by_letter-sound at sound none (w ∷ ws) x e = elim (letter_back w) [
    | inl n ↦ cc (sym (ap (λ c. at c ws) n ∙ none ws) ∙ e)
    | inr p ↦ subst (λ v. Spells Fits words_of (v ∷ ws) x) (sym p) (sound (letter_of w) ws x e)
  ]

event_sound : (c : Letter) (ws : List (List ℕ)) (x : Event) → event_at c ws ≡ Ok x → Spells IsEvent event_words (letter_text c ∷ ws) x
unfolding letter_text
event_sound letters.Input ws x e = literals_line IsEvent event_words (codes "i") events.Input (λ ls h. (h, refl)) ws x e
event_sound letters.Query ws x e = literals_line IsEvent event_words (codes "q") events.Query (λ ls h. (h, refl)) ws x e
event_sound letters.Status ws x e = status_line IsEvent event_words (codes "s") events.Status (λ s. (tt, refl)) ws x e
event_sound letters.Model ws x e = literals_line IsEvent event_words (codes "m") events.Model (λ ls h. (h, refl)) ws x e
event_sound letters.Core ws x e = literals_line IsEvent event_words (codes "u") events.Core (λ ls h. (h, refl)) ws x e
event_sound letters.Values ws x e = literals_line IsEvent event_words (codes "v") events.Values (λ ls h. (h, refl)) ws x e
event_sound letters.Failed ws x e = literals_line IsEvent event_words (codes "f") events.Failed (λ ls h. (h, refl)) ws x e
event_sound letters.Lemma ws x e = cc e
event_sound letters.Deletion ws x e = cc e
event_sound letters.Weakening ws x e = cc e
event_sound letters.Restoring ws x e = cc e
event_sound letters.NoLetter ws x e = cc e

script_sound : (c : Letter) (ws : List (List ℕ)) (x : Event) → script_at c ws ≡ Ok x → Spells IsScriptLine event_words (letter_text c ∷ ws) x
unfolding letter_text
script_sound letters.Input ws x e = literals_line IsScriptLine event_words (codes "i") events.Input (λ ls h. (h, refl)) ws x e
script_sound letters.Query ws x e = literals_line IsScriptLine event_words (codes "q") events.Query (λ ls h. (h, refl)) ws x e
script_sound letters.Status ws x e = cc e
script_sound letters.Model ws x e = cc e
script_sound letters.Core ws x e = cc e
script_sound letters.Lemma ws x e = cc e
script_sound letters.Deletion ws x e = cc e
script_sound letters.Weakening ws x e = cc e
script_sound letters.Restoring ws x e = cc e
script_sound letters.Values ws x e = cc e
script_sound letters.Failed ws x e = cc e
script_sound letters.NoLetter ws x e = cc e

-- an event's line in a proof without ids
event_step_sound : (v : List ℕ) (ws : List (List ℕ)) (x : Step) (o : Result Event Fault) → ((e : Event) → o ≡ Ok e → Spells IsProofEvent event_words (v ∷ ws) e)
    → (o >>= λ e. Ok (steps.Event e)) ≡ Ok x → Spells IsStep step_words (v ∷ ws) x
event_step_sound v ws x (Ok e) sound h = subst (Spells IsStep step_words (v ∷ ws)) (ok_same (Ok (steps.Event e)) (steps.Event e) x refl h) (sound e refl)
event_step_sound v ws x (Err f) sound h = cc h

step_sound : (c : Letter) (ws : List (List ℕ)) (x : Step) → step_at c ws ≡ Ok x → Spells IsStep step_words (letter_text c ∷ ws) x
unfolding letter_text
step_sound letters.Lemma ws x e = literals_line IsStep step_words (codes "l") steps.Lemma (λ ls h. (h, refl)) ws x e
step_sound letters.Deletion ws x e = literals_line IsStep step_words (codes "d") steps.Delete (λ ls h. (h, refl)) ws x e
step_sound letters.Weakening ws x e = literals_line IsStep step_words (codes "w") steps.Weaken (λ ls h. (h, refl)) ws x e
step_sound letters.Restoring ws x e = literals_line IsStep step_words (codes "r") steps.Restore (λ ls h. (h, refl)) ws x e
step_sound letters.Input ws x e = event_step_sound (codes "i") ws x (event_at letters.Input ws) (literals_line IsProofEvent event_words (codes "i") events.Input (λ ls h. (h, refl)) ws) e
step_sound letters.Query ws x e = event_step_sound (codes "q") ws x (event_at letters.Query ws) (literals_line IsProofEvent event_words (codes "q") events.Query (λ ls h. (h, refl)) ws) e
step_sound letters.Status ws x e = event_step_sound (codes "s") ws x (event_at letters.Status ws) (status_line IsProofEvent event_words (codes "s") events.Status (λ s. (tt, refl)) ws) e
step_sound letters.Model ws x e = event_step_sound (codes "m") ws x (event_at letters.Model ws) (literals_line IsProofEvent event_words (codes "m") events.Model (λ ls h. (h, refl)) ws) e
step_sound letters.Core ws x e = event_step_sound (codes "u") ws x (event_at letters.Core ws) (literals_line IsProofEvent event_words (codes "u") events.Core (λ ls h. (h, refl)) ws) e
step_sound letters.Values ws x e = cc e
step_sound letters.Failed ws x e = cc e
step_sound letters.NoLetter ws x e = cc e

id_input_sound : (ws : List (List ℕ)) (x : LStep) → id_step_at letters.Input ws ≡ Ok x → Spells IsIdStep id_step_words (codes "i" ∷ ws) x
id_input_sound ws x e = let at = chain_parts (λ i. of_literals (lsteps.Input i)) x (own_id ws) e in let id = own_id-sound ws at.0 at.1 at.2 in
    let end = literals_end (lsteps.Input at.0) x at.1 at.3 in
    subst (Spells IsIdStep id_step_words (codes "i" ∷ ws)) end.3 ((id.0, end.1), ap (λ vs. codes "i" ∷ vs) (id.1 ∙ ap (λ vs. decimal at.0 ∷ vs) end.2))

-- a lemma's line, of its parts
lemma_spelled : (ws behind rest : List (List ℕ)) (id : ℕ) (ls hs : List ℕ) → IsId id × (ws ≡ decimal id ∷ behind) → AreLiterals ls × (behind ≡ literal_words ls ++ rest)
    → AreIds hs → rest ≡ id_words hs → Spells IsIdStep id_step_words (codes "l" ∷ ws) (lsteps.Lemma id ls hs)
lemma_spelled ws behind rest id ls hs i l h e =
    ((i.0, l.0, h), ap (λ vs. codes "l" ∷ vs) i.1 ∙ ap (λ vs. codes "l" ∷ decimal id ∷ vs) (l.1 ∙ ap (λ vs. literal_words ls ++ vs) e))

id_lemma_ends : (ws behind : List (List ℕ)) (id : ℕ) (x : LStep) → IsId id × (ws ≡ decimal id ∷ behind)
    → (literal_list behind >>= λ ls. of_ids (lsteps.Lemma id ls.0) ls.1) ≡ Ok x → Spells IsIdStep id_step_words (codes "l" ∷ ws) x
id_lemma_ends ws behind id x i e = let at = chain_parts (λ ls. of_ids (lsteps.Lemma id ls)) x (literal_list behind) e in let end = ids_end (lsteps.Lemma id at.0) x at.1 at.3 in
    subst (Spells IsIdStep id_step_words (codes "l" ∷ ws)) end.3 (lemma_spelled ws behind at.1 id at.0 end.0 i (literal_list-sound behind at.0 at.1 at.2) end.1 end.2)

id_lemma_sound : (ws : List (List ℕ)) (x : LStep) → id_step_at letters.Lemma ws ≡ Ok x → Spells IsIdStep id_step_words (codes "l" ∷ ws) x
id_lemma_sound ws x e = let at = chain_parts (λ i vs. literal_list vs >>= λ ls. of_ids (lsteps.Lemma i ls.0) ls.1) x (own_id ws) e in
    id_lemma_ends ws at.1 at.0 x (own_id-sound ws at.0 at.1 at.2) at.3

id_core_sound : (ws : List (List ℕ)) (x : LStep) → id_step_at letters.Core ws ≡ Ok x → Spells IsIdStep id_step_words (codes "u" ∷ ws) x
id_core_sound ws x e = let next = chain_parts (λ ls. of_ids (lsteps.Core ls)) x (literal_list ws) e in let own = literal_list-sound ws next.0 next.1 next.2 in
    let end = ids_end (lsteps.Core next.0) x next.1 next.3 in
    subst (Spells IsIdStep id_step_words (codes "u" ∷ ws)) end.3 ((own.0, end.1), ap (λ vs. codes "u" ∷ vs) (own.1 ∙ ap (λ vs. literal_words next.0 ++ vs) end.2))

id_step_sound : (c : Letter) (ws : List (List ℕ)) (x : LStep) → id_step_at c ws ≡ Ok x → Spells IsIdStep id_step_words (letter_text c ∷ ws) x
unfolding letter_text
id_step_sound letters.Input ws x e = id_input_sound ws x e
id_step_sound letters.Lemma ws x e = id_lemma_sound ws x e
id_step_sound letters.Core ws x e = id_core_sound ws x e
id_step_sound letters.Query ws x e = literals_line IsIdStep id_step_words (codes "q") lsteps.Query (λ ls h. (h, refl)) ws x e
id_step_sound letters.Status ws x e = status_line IsIdStep id_step_words (codes "s") lsteps.Status (λ s. (tt, refl)) ws x e
id_step_sound letters.Model ws x e = literals_line IsIdStep id_step_words (codes "m") lsteps.Model (λ ls h. (h, refl)) ws x e
id_step_sound letters.Deletion ws x e = ids_line IsIdStep id_step_words (codes "d") lsteps.Delete (λ is h. (h, refl)) ws x e
id_step_sound letters.Weakening ws x e = ids_line IsIdStep id_step_words (codes "w") lsteps.Weaken (λ is h. (h, refl)) ws x e
id_step_sound letters.Restoring ws x e = ids_line IsIdStep id_step_words (codes "r") lsteps.Restore (λ is h. (h, refl)) ws x e
id_step_sound letters.Values ws x e = cc e
id_step_sound letters.Failed ws x e = cc e
id_step_sound letters.NoLetter ws x e = cc e

-- what is read as a line of the interaction is spelled, and so in the other forms
pub icnf_line-sound : (ws : List (List ℕ)) (x : Event) → icnf_line ws ≡ Ok x → Spells IsEvent event_words ws x
unfolding icnf_line
icnf_line-sound ws x e = by_letter-sound IsEvent event_words event_at event_sound (λ vs. refl) ws x e

pub script_line-sound : (ws : List (List ℕ)) (x : Event) → script_line ws ≡ Ok x → Spells IsScriptLine event_words ws x
unfolding script_line
script_line-sound ws x e = by_letter-sound IsScriptLine event_words script_at script_sound (λ vs. refl) ws x e

pub idrup_line-sound : (ws : List (List ℕ)) (x : Step) → idrup_line ws ≡ Ok x → Spells IsStep step_words ws x
unfolding idrup_line
idrup_line-sound ws x e = by_letter-sound IsStep step_words step_at step_sound (λ vs. refl) ws x e

pub lidrup_line-sound : (ws : List (List ℕ)) (x : LStep) → lidrup_line ws ≡ Ok x → Spells IsIdStep id_step_words ws x
unfolding lidrup_line
lidrup_line-sound ws x e = by_letter-sound IsIdStep id_step_words id_step_at id_step_sound (λ vs. refl) ws x e
