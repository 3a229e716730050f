-- The readers of the four forms and of headers against what is spelled.
use Rattle.std.proofs.Common.{◌≡◌, ℕ, List, [], ◌∷◌, codes, Result, Ok, Err, refl, sym, ◌∙◌, ap, Bool, true, false, inl, inr, ◌&&◌, if◌then◌else◌, length, take_all, nat_eq, eq-eqb, arith}
use Rattle.std.proofs.lemmas.Bool.{cases_Bool, and_parts, and_from}
use Rattle.std.specs.Cmp.Lexicographic.{pointwise, other_text}
use Rattle.session_rules.specs.declared.Rule.{Rule}
use Rattle.session_rules.specs.declared.Rule.TheVariants as rules
use Rattle.session_rules.specs.declared.Event.TheVariants as events
use Rattle.session_rules.specs.declared.Step.TheVariants as steps
use Rattle.session_rules.specs.declared.LStep.TheVariants as lsteps
use Rattle.session_rules.specs.declared.Letter.{Letter}
use Rattle.session_rules.specs.declared.Letter.TheVariants as letters
use Rattle.session_rules.specs.Reading.{Fault, wrong, missing, ◌>>=◌, literal_list, own_id, status_word, same_word, of_literals, of_ids, event_at, script_at, step_at, id_step_at, icnf_line, script_line, idrup_line, lidrup_line, header_line}
use Rattle.session_rules.specs.Spelling.{event_words, step_words, id_step_words, header_words, IsEvent, IsScriptLine, IsStep, IsIdStep, Spells}
use Rattle.session_rules.specs.WrongWord.{Begins, FirstWrong, BreaksByWord, BreaksAtEnd, IsHeader, words_of_header, HeaderBreaksByWord, HeaderBreaksAtEnd}
use Rattle.session_rules.proofs.Readers.{IsTail, chained_tail, statusless, mapped_tail}
use Rattle.session_rules.proofs.Parts.{literal_list_part, own_id_part, literals_tail, ids_tail, status_tail}
use Rattle.session_rules.proofs.Spelled.{icnf_line-event_words, script_line-event_words, idrup_line-step_words, lidrup_line-id_step_words}
use Rattle.session_rules.proofs.WhatIsRead.{icnf_line-sound, script_line-sound, idrup_line-sound, lidrup_line-sound, same_word-true}
use Rattle.session_rules.proofs.FirstWrong.{LetterCase, no_line, line, IsRead, is_read, form_read}

-- ---- What each form makes of each letter

event_case : (c : Letter) → LetterCase event_at c
event_case letters.Input = line (statusless (event_at letters.Input) (λ e. cc e) (literals_tail events.Input))
event_case letters.Query = line (statusless (event_at letters.Query) (λ e. cc e) (literals_tail events.Query))
event_case letters.Status = line (status_tail (letters.Status ≡ letters.Status) refl events.Status)
event_case letters.Model = line (statusless (event_at letters.Model) (λ e. cc e) (literals_tail events.Model))
event_case letters.Core = line (statusless (event_at letters.Core) (λ e. cc e) (literals_tail events.Core))
event_case letters.Lemma = no_line (λ ws. refl)
event_case letters.Deletion = no_line (λ ws. refl)
event_case letters.Weakening = no_line (λ ws. refl)
event_case letters.Restoring = no_line (λ ws. refl)
event_case letters.Values = line (statusless (event_at letters.Values) (λ e. cc e) (literals_tail events.Values))
event_case letters.Failed = line (statusless (event_at letters.Failed) (λ e. cc e) (literals_tail events.Failed))
event_case letters.NoLetter = no_line (λ ws. refl)

script_case : (c : Letter) → LetterCase script_at c
script_case letters.Input = line (statusless (script_at letters.Input) (λ e. cc e) (literals_tail events.Input))
script_case letters.Query = line (statusless (script_at letters.Query) (λ e. cc e) (literals_tail events.Query))
script_case letters.Status = no_line (λ ws. refl)
script_case letters.Model = no_line (λ ws. refl)
script_case letters.Core = no_line (λ ws. refl)
script_case letters.Lemma = no_line (λ ws. refl)
script_case letters.Deletion = no_line (λ ws. refl)
script_case letters.Weakening = no_line (λ ws. refl)
script_case letters.Restoring = no_line (λ ws. refl)
script_case letters.Values = no_line (λ ws. refl)
script_case letters.Failed = no_line (λ ws. refl)
script_case letters.NoLetter = no_line (λ ws. refl)

step_case : (c : Letter) → LetterCase step_at c
step_case letters.Input = line (mapped_tail steps.Event (event_at letters.Input) (statusless (event_at letters.Input) (λ e. cc e) (literals_tail events.Input)))
step_case letters.Query = line (mapped_tail steps.Event (event_at letters.Query) (statusless (event_at letters.Query) (λ e. cc e) (literals_tail events.Query)))
step_case letters.Status = line (mapped_tail steps.Event (event_at letters.Status) (status_tail (letters.Status ≡ letters.Status) refl events.Status))
step_case letters.Model = line (mapped_tail steps.Event (event_at letters.Model) (statusless (event_at letters.Model) (λ e. cc e) (literals_tail events.Model)))
step_case letters.Core = line (mapped_tail steps.Event (event_at letters.Core) (statusless (event_at letters.Core) (λ e. cc e) (literals_tail events.Core)))
step_case letters.Lemma = line (statusless (step_at letters.Lemma) (λ e. cc e) (literals_tail steps.Lemma))
step_case letters.Deletion = line (statusless (step_at letters.Deletion) (λ e. cc e) (literals_tail steps.Delete))
step_case letters.Weakening = line (statusless (step_at letters.Weakening) (λ e. cc e) (literals_tail steps.Weaken))
step_case letters.Restoring = line (statusless (step_at letters.Restoring) (λ e. cc e) (literals_tail steps.Restore))
step_case letters.Values = no_line (λ ws. refl)
step_case letters.Failed = no_line (λ ws. refl)
step_case letters.NoLetter = no_line (λ ws. refl)

id_input_tail : IsTail ⊥ (id_step_at letters.Input)
id_input_tail = chained_tail own_id (λ i. of_literals (lsteps.Input i)) own_id_part (λ i. literals_tail (lsteps.Input i))

id_core_tail : IsTail ⊥ (id_step_at letters.Core)
id_core_tail = chained_tail literal_list (λ ls. of_ids (lsteps.Core ls)) literal_list_part (λ ls. ids_tail (lsteps.Core ls))

id_lemma_tail : IsTail ⊥ (id_step_at letters.Lemma)
id_lemma_tail = chained_tail own_id (λ i ws. literal_list ws >>= λ ls. of_ids (lsteps.Lemma i ls.0) ls.1) own_id_part
    (λ i. chained_tail literal_list (λ ls. of_ids (lsteps.Lemma i ls)) literal_list_part (λ ls. ids_tail (lsteps.Lemma i ls)))

id_step_case : (c : Letter) → LetterCase id_step_at c
id_step_case letters.Input = line (statusless (id_step_at letters.Input) (λ e. cc e) id_input_tail)
id_step_case letters.Query = line (statusless (id_step_at letters.Query) (λ e. cc e) (literals_tail lsteps.Query))
id_step_case letters.Status = line (status_tail (letters.Status ≡ letters.Status) refl lsteps.Status)
id_step_case letters.Model = line (statusless (id_step_at letters.Model) (λ e. cc e) (literals_tail lsteps.Model))
id_step_case letters.Core = line (statusless (id_step_at letters.Core) (λ e. cc e) id_core_tail)
id_step_case letters.Lemma = line (statusless (id_step_at letters.Lemma) (λ e. cc e) id_lemma_tail)
id_step_case letters.Deletion = line (statusless (id_step_at letters.Deletion) (λ e. cc e) (ids_tail lsteps.Delete))
id_step_case letters.Weakening = line (statusless (id_step_at letters.Weakening) (λ e. cc e) (ids_tail lsteps.Weaken))
id_step_case letters.Restoring = line (statusless (id_step_at letters.Restoring) (λ e. cc e) (ids_tail lsteps.Restore))
id_step_case letters.Values = no_line (λ ws. refl)
id_step_case letters.Failed = no_line (λ ws. refl)
id_step_case letters.NoLetter = no_line (λ ws. refl)

-- ---- The four forms

-- the reading of a line of the interaction, a script and a proof
pub icnf_read : IsRead IsEvent event_words icnf_line (BreaksByWord IsEvent event_words) (BreaksAtEnd IsEvent event_words)
unfolding icnf_line status_word same_word
icnf_read = form_read IsEvent event_words event_at record {
  complete = icnf_line-event_words;
  sound = icnf_line-sound;
  cases = event_case;
  some = (events.Input [], λ i d lt. absurd (omega arith));
  none = λ ws. refl;
  no_end = λ x e. cc e;
  no_minus_one = λ more x e. cc e;
  no_one = λ more x e. cc e;
}

pub script_read : IsRead IsScriptLine event_words script_line (BreaksByWord IsScriptLine event_words) (BreaksAtEnd IsScriptLine event_words)
unfolding script_line
script_read = form_read IsScriptLine event_words script_at record {
  complete = script_line-event_words;
  sound = script_line-sound;
  cases = script_case;
  some = (events.Input [], λ i d lt. absurd (omega arith));
  none = λ ws. refl;
  no_end = λ x e. cc e;
  no_minus_one = λ more x e. cc e;
  no_one = λ more x e. cc e;
}

pub idrup_read : IsRead IsStep step_words idrup_line (BreaksByWord IsStep step_words) (BreaksAtEnd IsStep step_words)
unfolding idrup_line status_word same_word
idrup_read = form_read IsStep step_words step_at record {
  complete = idrup_line-step_words;
  sound = idrup_line-sound;
  cases = step_case;
  some = (steps.Lemma [], λ i d lt. absurd (omega arith));
  none = λ ws. refl;
  no_end = λ x e. cc e;
  no_minus_one = λ more x e. cc e;
  no_one = λ more x e. cc e;
}

pub lidrup_read : IsRead IsIdStep id_step_words lidrup_line (BreaksByWord IsIdStep id_step_words) (BreaksAtEnd IsIdStep id_step_words)
unfolding lidrup_line status_word same_word
lidrup_read = form_read IsIdStep id_step_words id_step_at record {
  complete = lidrup_line-id_step_words;
  sound = lidrup_line-sound;
  cases = id_step_case;
  some = (lsteps.Query [], λ i d lt. absurd (omega arith));
  none = λ ws. refl;
  no_end = λ x e. cc e;
  no_minus_one = λ more x e. cc e;
  no_one = λ more x e. cc e;
}

-- ---- Headers

-- each word is the same as itself
same_word-refl : (w : List ℕ) → same_word w w ≡ true
unfolding same_word
same_word-refl w = and_from _ _ (eq-eqb (length w) (length w) refl) (ap (pointwise nat_eq w) (take_all (length w) w (omega arith)) ∙ alike w)
  where
    alike : (v : List ℕ) → pointwise nat_eq v v ≡ true
    alike v = elim (cases_Bool (pointwise nat_eq v v)) [ inl q ↦ q | inr q ↦ absurd (other_text v v (sym q) refl) ]

no_other : (v w : List ℕ) → same_word v w ≡ false → v ≡ w → ⊥
no_other v w e f = cc (sym e ∙ ap (λ u. same_word u w) f ∙ same_word-refl w)

-- two readings of a header are one
abbrev ReadsHeader : Result (Unit {0}) Fault → Result (Unit {0}) Fault → Type 0
ReadsHeader o p = o ≡ p

-- a header's line of one word, and of two
one_wrong : (b : Bool) (r : Rule) → ReadsHeader (Err (if b then missing rules.Header else wrong rules.Header)) (Err (wrong r)) → (b ≡ false) × (r ≡ rules.Header)
one_wrong true r e = cc e
one_wrong false r e = (refl, cc e)

one_missing : (b : Bool) (r : Rule) → ReadsHeader (Err (if b then missing rules.Header else wrong rules.Header)) (Err (missing r)) → (b ≡ true) × (r ≡ rules.Header)
one_missing true r e = (refl, cc e)
one_missing false r e = cc e

two_ok : (b : Bool) (u : Unit {0}) → ReadsHeader (if b then Ok tt else Err (wrong rules.Header)) (Ok u) → b ≡ true
two_ok true u e = refl
two_ok false u e = cc e

two_wrong : (b : Bool) (r : Rule) → ReadsHeader (if b then Ok tt else Err (wrong rules.Header)) (Err (wrong r)) → (b ≡ false) × (r ≡ rules.Header)
two_wrong true r e = cc e
two_wrong false r e = (refl, cc e)

two_missing : (b : Bool) (r : Rule) → ReadsHeader (if b then Ok tt else Err (wrong rules.Header)) (Err (missing r)) → ⊥
two_missing true r e = cc e
two_missing false r e = cc e

module _ (name : List ℕ) where
  abbrev HeaderBegins : List (List ℕ) → Type 0
  HeaderBegins us = Begins IsHeader (words_of_header name) us

  abbrev HeaderWrong : List (List ℕ) → Type 0
  HeaderWrong ws = FirstWrong IsHeader (words_of_header name) ws

  nothing_begins : HeaderBegins []
  nothing_begins = record { value = tt; fits = tt; more = header_words name; spelled = refl }

  p_begins : (w : List ℕ) → w ≡ codes "p" → HeaderBegins (w ∷ [])
  p_begins w e = record { value = tt; fits = tt; more = name ∷ []; spelled = ap (λ v. v ∷ name ∷ []) (sym e) }

  header_begins : (w x : List ℕ) → w ≡ codes "p" → x ≡ name → HeaderBegins (w ∷ x ∷ [])
  header_begins w x e f = record { value = tt; fits = tt; more = []; spelled = cc }

  at_first : (w : List ℕ) (ws : List (List ℕ)) → same_word w (codes "p") ≡ false → HeaderWrong (w ∷ ws)
  at_first w ws e = record { before = []; word = w; after = ws; parts = refl; begins = nothing_begins; ends = λ b. no_other w (codes "p") e (cc b.spelled) }

  at_second : (w x : List ℕ) (ws : List (List ℕ)) → w ≡ codes "p" → same_word x name ≡ false → HeaderWrong (w ∷ x ∷ ws)
  at_second w x ws e f = record { before = w ∷ []; word = x; after = ws; parts = refl; begins = p_begins w e; ends = λ b. no_other x name f (cc b.spelled) }

  at_third : (w x y : List ℕ) (ws : List (List ℕ)) → w ≡ codes "p" → x ≡ name → HeaderWrong (w ∷ x ∷ y ∷ ws)
  at_third w x y ws e f = record { before = w ∷ x ∷ []; word = y; after = ws; parts = refl; begins = header_begins w x e f; ends = λ b. cc b.spelled }

  -- where the first two words are not those of the header
  in_two : (w x : List ℕ) (ws : List (List ℕ)) → (same_word w (codes "p") && same_word x name) ≡ false → HeaderWrong (w ∷ x ∷ ws)
  in_two w x ws e = elim (cases_Bool (same_word w (codes "p"))) [
    | inl p ↦ let f : same_word x name ≡ false = rw p at e in at_second w x ws (same_word-true w (codes "p") p) f
    | inr p ↦ at_first w (x ∷ ws) p
  ]

  header_complete : (u : Unit {0}) → IsHeader u → header_line name (header_words name) ≡ Ok u
  unfolding header_line
  header_complete u h = rw (and_from _ _ (same_word-refl (codes "p")) (same_word-refl name)) refl

  header_sound : (ws : List (List ℕ)) (u : Unit {0}) → header_line name ws ≡ Ok u → Spells IsHeader (words_of_header name) ws u
  unfolding header_line
  header_sound [] u e = cc e
  header_sound (w ∷ []) u e = cc e
  header_sound (w ∷ x ∷ []) u e = let parts = and_parts (same_word w (codes "p")) (same_word x name) (two_ok (same_word w (codes "p") && same_word x name) u e) in
      let first = same_word-true w (codes "p") parts.0 in let second = same_word-true x name parts.1 in (tt, cc (first, second))
  header_sound (w ∷ x ∷ y ∷ ws) u e = cc e

  header_wrong : (ws : List (List ℕ)) (r : Rule) → header_line name ws ≡ Err (wrong r) → HeaderBreaksByWord name ws r
  unfolding header_line
  header_wrong [] r e = cc e
  header_wrong (w ∷ []) r e = let c = one_wrong (same_word w (codes "p")) r e in (at_first w [] c.0, c.1)
  header_wrong (w ∷ x ∷ []) r e = let c = two_wrong (same_word w (codes "p") && same_word x name) r e in (in_two w x [] c.0, c.1)
  header_wrong (w ∷ x ∷ y ∷ ws) r e = (
    elim (cases_Bool (same_word w (codes "p") && same_word x name)) [
      | inl p ↦ let parts = and_parts (same_word w (codes "p")) (same_word x name) p in at_third w x y ws (same_word-true w (codes "p") parts.0) (same_word-true x name parts.1)
      | inr p ↦ in_two w x (y ∷ ws) p
    ],
    cc e,
  )

  header_missing : (ws : List (List ℕ)) (r : Rule) → header_line name ws ≡ Err (missing r) → HeaderBreaksAtEnd name ws r
  unfolding header_line
  header_missing [] r e = (record { begins = nothing_begins; unspelled = λ u s. cc s.1 }, cc e)
  header_missing (w ∷ []) r e = let c = one_missing (same_word w (codes "p")) r e in
      (record { begins = p_begins w (same_word-true w (codes "p") c.0); unspelled = λ u s. cc s.1 }, c.1)
  header_missing (w ∷ x ∷ []) r e = absurd (two_missing (same_word w (codes "p") && same_word x name) r e)
  header_missing (w ∷ x ∷ y ∷ ws) r e = cc e

  -- the reading of a header's line
  pub header_read : IsRead IsHeader (words_of_header name) (header_line name) (HeaderBreaksByWord name) (HeaderBreaksAtEnd name)
  header_read = is_read IsHeader (words_of_header name) (header_line name) (HeaderBreaksByWord name) (HeaderBreaksAtEnd name) header_complete header_sound header_wrong header_missing
      (λ ws r h. h.0) (λ ws r h. h.0) (λ ws r s h k. h.1 ∙ sym k.1) (λ ws r s h k. h.1 ∙ sym k.1)
