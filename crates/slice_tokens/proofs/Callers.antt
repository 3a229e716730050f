-- Laws for callers: one call after another where the bytes are told, and what is due by the words that are known.
use Rattle.std.proofs.Common.{◌≡◌, ℕ, ◌<◌, ◌≤◌, Bool, true, false, nat_lt, List, [], ◌∷◌, length, if◌then◌else◌, Option, Some, None, IfSome, Result, Ok, refl, sym, ap, ◌∙◌, subst}
use Rattle.std.proofs.lemmas.Bool.{ltb-true, ltb-false}
use Rattle.session_rules.specs.Lines.{Line, without_cut_word}
use Rattle.std.specs.Borrow.{Bor}
use Rattle.slice_tokens.specs.declared.token.Token.{Token}
use Rattle.slice_tokens.specs.declared.token.Token.TheVariants.{Word}
use Rattle.slice_tokens.specs.declared.token.TokenFault.{TokenFault}
use Rattle.slice_tokens.specs.Place.{Place, WhereTold, present}
use Rattle.slice_tokens.specs.Due.{Due, due_of, due, due_word, due_end, due_long, due_cut, known_words}
use Rattle.slice_tokens.specs.Calls.{Answers, Leaves, LeavesLines, without_first}

-- ---- one call after another

pub told_then : (a b c : Option (List ℕ)) (P Q R : List ℕ → List ℕ → Type 0) → WhereTold a b P → WhereTold b c Q → ((t u v : List ℕ) → P t u → Q u v → R t v) → WhereTold a c R
told_then None b c P Q R h k f = tt
told_then (Some t) None c P Q R h k f = absurd h
told_then (Some t) (Some u) None P Q R h k f = absurd k
told_then (Some t) (Some u) (Some v) P Q R h k f = f t u v h k

-- a call of `next` after others: what it answered, `r`, is `r'` in the arm that ran
pub told_next : (a b c : Option (List ℕ)) (P R : List ℕ → List ℕ → Type 0) (p q : Place) (r r' : Result Token TokenFault) → r ≡ r' → WhereTold a b P
    → IfSome b (λ t. Answers (due (present p t)) r) → Leaves r p q b c
    → ((t u v : List ℕ) → P t u → Answers (due (present p u)) r' → LeavesLines r' p u q v → R t v) → WhereTold a c R
told_next a b c P R p q r r' e h d k f = by_told a b c h d k.told
  where
    by_told : (a b c : Option (List ℕ)) → WhereTold a b P → IfSome b (λ t. Answers (due (present p t)) r) → WhereTold b c (λ t u. LeavesLines r p t q u) → WhereTold a c R
    by_told None b c h d k = tt
    by_told (Some t) None c h d k = absurd h
    by_told (Some t) (Some u) None h d k = absurd k
    by_told (Some t) (Some u) (Some v) h d k = f t u v h (subst (λ x. Answers (due (present p u)) x) e d) (subst (λ x. LeavesLines x p u q v) e k)

-- ---- what is due

-- what is due is found by cases of the known words
by_due : (l : Line) (d : Due) (R : Type 0) → due l ≡ d
    → (known_words l ≡ [] → l.cut ≡ true → due_cut ≡ d → R)
    → (known_words l ≡ [] → l.cut ≡ false → due_end ≡ d → R)
    → ((v : List ℕ) (vs : List (List ℕ)) → known_words l ≡ v ∷ vs → 32 < length v → due_long ≡ d → R)
    → ((v : List ℕ) (vs : List (List ℕ)) → known_words l ≡ v ∷ vs → length v ≤ 32 → due_word v ≡ d → R) → R
by_due l d R h cut end long word = by_words (known_words l) refl h
  where
    by_cut : (q : Bool) → l.cut ≡ q → known_words l ≡ [] → (if q then due_cut else due_end) ≡ d → R
    by_cut true e none h = cut none e h
    by_cut false e none h = end none e h

    by_length : (v : List ℕ) (vs : List (List ℕ)) → known_words l ≡ v ∷ vs → (q : Bool) → nat_lt 32 (length v) ≡ q → (if q then due_long else due_word v) ≡ d → R
    by_length v vs e true f h = long v vs e (ltb-true 32 (length v) f) h
    by_length v vs e false f h = word v vs e (ltb-false 32 (length v) f) h

    by_words : (ws : List (List ℕ)) → known_words l ≡ ws → due_of l.cut ws ≡ d → R
    by_words [] e h = by_cut l.cut refl e h
    by_words (v ∷ vs) e h = by_length v vs e (nat_lt 32 (length v)) refl h

-- the known words behind the first
known_rest : (e : Bool) (ws : List (List ℕ)) (v : List ℕ) (vs : List (List ℕ)) → (if e then without_cut_word ws else ws) ≡ v ∷ vs
    → (if e then without_cut_word (without_first ws) else without_first ws) ≡ vs
known_rest false ws v vs h = ap without_first h
known_rest true [] v vs h = cc
known_rest true (w ∷ []) v vs h = by_length (nat_lt 32 (length w)) h
  where
    by_length : (q : Bool) → (if q then w ∷ [] else []) ≡ v ∷ vs → [] ≡ vs
    by_length true h = ap without_first h
    by_length false h = cc
known_rest true (w ∷ x ∷ ws) v vs h = ap without_first h

-- a word that is due is the first that is known, and the others are known behind it
pub due_word-is : (l : Line) (w : List ℕ) → due l ≡ due_word w → (known_words l ≡ w ∷ known_words (record l { words = without_first l.words })) × (length w ≤ 32)
due_word-is l w h =
    by_due l (due_word w) ((known_words l ≡ w ∷ known_words (record l { words = without_first l.words })) × (length w ≤ 32)) h
    (λ none e f. cc) (λ none e f. cc) (λ v vs e long f. cc)
    (λ v vs e short f.
    let same : v ≡ w = cc in
    (e ∙ ap (λ x. x ∷ vs) same ∙ ap (λ xs. w ∷ xs) (sym (known_rest l.word_cut l.words v vs e)), subst (λ x. length x ≤ 32) same short))

-- a word that `next` handed out is the first that was known
pub word_taken : (p : Place) (t : List ℕ) (q : Place) (u : List ℕ) (w : Bor (List ℕ)) → Answers (due (present p t)) (Ok (Word w)) → LeavesLines (Ok (Word w)) p t q u
    → known_words (present p t) ≡ w.now ∷ known_words (present q u)
word_taken p t q u w d leaves = (due_word-is (present p t) w.now d).0 ∙ ap (λ l. w.now ∷ known_words l) (sym leaves.present)

pub due_end-is : (l : Line) → due l ≡ due_end → (known_words l ≡ []) × (l.cut ≡ false)
due_end-is l h = by_due l due_end ((known_words l ≡ []) × (l.cut ≡ false)) h (λ none e f. cc) (λ none e f. (none, e)) (λ v vs e long f. cc) (λ v vs e short f. cc)

pub due_cut-is : (l : Line) → due l ≡ due_cut → (known_words l ≡ []) × (l.cut ≡ true)
due_cut-is l h = by_due l due_cut ((known_words l ≡ []) × (l.cut ≡ true)) h (λ none e f. (none, e)) (λ none e f. cc) (λ v vs e long f. cc) (λ v vs e short f. cc)

-- some words, of which the first is too long
pub record LongFirst (ws : List (List ℕ)) : Type 0 where
  pub word : List ℕ
  pub more : List (List ℕ)
  pub is : ws ≡ word ∷ more
  pub long : 32 < length word

pub due_long-is : (l : Line) → due l ≡ due_long → LongFirst (known_words l)
due_long-is l h = by_due l due_long (LongFirst (known_words l)) h (λ none e f. cc) (λ none e f. cc) (λ v vs e long f. record { word = v; more = vs; is = e; long = long }) (λ v vs e short f. cc)
