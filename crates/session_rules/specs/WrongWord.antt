-- The first wrong word of a line and its rule, said of the lines that are spelled: a word is wrong where the words up to
-- and with it begin no spelled line, and its rule is told by what could stand in its place.
use Rattle.std.specs.Prelude.{ℕ, ◌≡◌, true, false, if◌then◌else◌, List, [], ◌∷◌, ◌++◌, codes}
use Rattle.lits.specs.declared.LitWord.{LitWord}
use Rattle.lits.specs.declared.LitWord.TheVariants as literals
use Rattle.lits.specs.declared.IdWord.{IdWord}
use Rattle.lits.specs.declared.IdWord.TheVariants as ids
use Rattle.lits.specs.Word.{literal_word, id_word}
use Rattle.session_rules.specs.declared.Rule.{Rule}
use Rattle.session_rules.specs.declared.Rule.TheVariants as rules
use Rattle.session_rules.specs.Lines.{Line, has_content, judged_words}
use Rattle.session_rules.specs.Reading.{same_word}
use Rattle.session_rules.specs.Spelling.{Spells, header_words}

-- ---- Words that begin a spelled line

-- some spelled line begins with these words
pub record Begins {A : Type 0} (Fits : A → Type 0) (words_of : A → List (List ℕ)) (us : List (List ℕ)) : Type 0 where
  pub value : A
  pub fits : Fits value
  pub more : List (List ℕ)
  pub spelled : words_of value ≡ us ++ more

-- the first word of a line up to and with which no spelled line begins
pub record FirstWrong {A : Type 0} (Fits : A → Type 0) (words_of : A → List (List ℕ)) (ws : List (List ℕ)) : Type 0 where
  pub before : List (List ℕ)
  pub word : List ℕ
  pub after : List (List ℕ)
  pub parts : ws ≡ before ++ word ∷ after
  pub begins : Begins Fits words_of before
  pub ends : Begins Fits words_of (before ++ word ∷ []) → ⊥

-- a line that ends where a word is due: it begins a spelled line and is none
pub record EndsEarly {A : Type 0} (Fits : A → Type 0) (words_of : A → List (List ℕ)) (ws : List (List ℕ)) : Type 0 where
  pub begins : Begins Fits words_of ws
  pub unspelled : (x : A) → Spells Fits words_of ws x → ⊥

-- ---- The rule of a place

-- the rule of a word that is wrong where a literal is due
abbrev pub literal_rule : LitWord → Rule
literal_rule literals.OutOfRange = rules.Range
literal_rule _ = rules.Number

-- the rule of a word that is wrong where an id is due
abbrev pub id_rule : IdWord → Rule
id_rule ids.NotNumber = rules.Number
id_rule _ = rules.Range

-- the rule of a wrong word behind these words, by what is due there: a letter, a status word, nothing more, a literal
-- (-1 could stand there), or an id (1 could stand there, and -1 couldn't)
pub data RuleAt {A : Type 0} (Fits : A → Type 0) (words_of : A → List (List ℕ)) (before : List (List ℕ)) (word : List ℕ) (r : Rule) : Type 0 where
  letter_due : before ≡ [] → r ≡ rules.Letter → RuleAt Fits words_of before word r
  status_due : before ≡ codes "s" ∷ [] → r ≡ rules.Word → RuleAt Fits words_of before word r
  nothing_due : (x : A) → Spells Fits words_of before x → r ≡ rules.Excess → RuleAt Fits words_of before word r
  literal_due : Begins Fits words_of (before ++ codes "-1" ∷ []) → r ≡ literal_rule (literal_word word) → RuleAt Fits words_of before word r
  id_due : Begins Fits words_of (before ++ codes "1" ∷ []) → (Begins Fits words_of (before ++ codes "-1" ∷ []) → ⊥) → r ≡ id_rule (id_word word) → RuleAt Fits words_of before word r

-- the rule of a line that ends behind these words, where one more is due
abbrev pub rule_at_end : List (List ℕ) → Rule
rule_at_end [] = rules.Letter
rule_at_end (w ∷ []) = if same_word w (codes "s") then rules.Word else rules.Unclosed
rule_at_end (w ∷ x ∷ ws) = rules.Unclosed

-- the first wrong word of a line breaks this rule
pub record BreaksByWord {A : Type 0} (Fits : A → Type 0) (words_of : A → List (List ℕ)) (ws : List (List ℕ)) (r : Rule) : Type 0 where
  pub first : FirstWrong Fits words_of ws
  pub rule : RuleAt Fits words_of first.before first.word r

-- the line ends early and breaks this rule
pub record BreaksAtEnd {A : Type 0} (Fits : A → Type 0) (words_of : A → List (List ℕ)) (ws : List (List ℕ)) (r : Rule) : Type 0 where
  pub early : EndsEarly Fits words_of ws
  pub rule : r ≡ rule_at_end ws

-- ---- Headers

-- a name has one header, which says nothing more
abbrev pub IsHeader : Unit {0} → Type 0
IsHeader u = Unit {0}

-- the words of the header with this name
abbrev pub words_of_header : List ℕ → Unit {0} → List (List ℕ)
words_of_header name u = header_words name

-- the first wrong word of a header's line breaks the rule Header
abbrev pub HeaderBreaksByWord : List ℕ → List (List ℕ) → Rule → Type 0
HeaderBreaksByWord name ws r = FirstWrong IsHeader (words_of_header name) ws × (r ≡ rules.Header)

-- and so does its end, where a word is due
abbrev pub HeaderBreaksAtEnd : List ℕ → List (List ℕ) → Rule → Type 0
HeaderBreaksAtEnd name ws r = EndsEarly IsHeader (words_of_header name) ws × (r ≡ rules.Header)

-- ---- Lines, cut or not

-- a line breaks this rule, by what it is for words to break one at a word or at their end: a line that isn't cut by its
-- words, and one that is cut by a wrong word that it has before the cut, or else Length
pub data BreaksLine (ByWord AtEnd : List (List ℕ) → Rule → Type 0) (line : Line) (r : Rule) : Type 0 where
  at_word : line.cut ≡ false → ByWord line.words r → BreaksLine ByWord AtEnd line r
  at_end : line.cut ≡ false → AtEnd line.words r → BreaksLine ByWord AtEnd line r
  cut_without_content : line.cut ≡ true → has_content line.words ≡ false → r ≡ rules.Length → BreaksLine ByWord AtEnd line r
  at_word_before_cut : line.cut ≡ true → has_content line.words ≡ true → ByWord (judged_words line) r → BreaksLine ByWord AtEnd line r
  at_cut : line.cut ≡ true → has_content line.words ≡ true → ((s : Rule) → ByWord (judged_words line) s → ⊥) → r ≡ rules.Length → BreaksLine ByWord AtEnd line r
