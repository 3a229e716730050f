-- The steps of a conversion have a spelling: ids are counted from 1 on, and no more of them are given than the text has bytes.
use Rattle.std.proofs.Common.{◌≡◌, ◌<◌, ◌≤◌, ◌^◌, ℕ, suc, ◌+◌, Bool, true, false, if◌then◌else◌, List, [], ◌∷◌, ◌++◌, length, flat_map, All, Option, Some, None, Result, Ok, Err, codes, refl, sym, ◌∙◌, ap, arith, append_assoc, append-nil}
use Rattle.std.specs.List.{list_all}
use Rattle.std.proofs.lemmas.Bool.{and_parts}
use Rattle.std.proofs.lemmas.List.{length-append}
use Rattle.std.proofs.lemmas.Grind.{flat_map-append}
use Rattle.session_rules.specs.declared.Form.TheVariants.{Idrup, Lidrup}
use Rattle.session_rules.specs.declared.Event.TheVariants as events
use Rattle.session_rules.specs.declared.Rule.{Rule}
use Rattle.session_rules.specs.declared.Step.{Step}
use Rattle.session_rules.specs.declared.Step.TheVariants as steps
use Rattle.session_rules.specs.declared.LStep.{LStep}
use Rattle.session_rules.specs.Lines.{Line, judged_words, most_bytes}
use Rattle.session_rules.specs.Reading.{Fault, wrong, missing, of_whole_line, of_cut_line, value_of, idrup_line}
use Rattle.session_rules.specs.Spelling.{line_text, header_words, id_step_words, IsId, AreIds, IsStep, IsIdStep}
use Rattle.session_rules.specs.Own.{is_active, is_weakened}
use Rattle.session_rules.specs.Verdicts.{body, steps_in}
use Rattle.session_rules.proofs.Positions.{said, said_within}
use Rattle.session_rules.proofs.Spelled.{All-cons}
use Rattle.session_rules.proofs.WhatIsRead.{idrup_line-sound}
use Rattle.side_laws.specs.Sets.{GivenClause, behind_step, behind_steps, given_by, with_id, standing_or_absent, standing_at, next_id}
use Rattle.side_laws.proofs.Given.{id-within, first-length}
use Rattle.side_laws.proofs.Named.{least-such}
use Rattle.elimination_laws.specs.Accepted.{proof_text}
use Rattle.elimination_laws.proofs.TextLines.{All-first, All-more}
use Rattle.conversion_laws.specs.Converted.{IsConvertedStep, input, lemma, deletion, weakening, restoring, query, status, model, core, AreConverted, IsConverted}
use Rattle.conversion_laws.proofs.Joined.{said-ok, said-err}

All-nil : {X : Type 0} (P : X → Type 0) → All P []
All-nil P = λ k d lt. absurd (omega arith)

-- ---- One step

module _ (ps : List Step) (small : next_id ps < 2 ^ 63) where
  given_fits : (id : ℕ) (g : GivenClause) → with_id (given_by ps) id ≡ Some g → IsId id
  given_fits id g e = let r = id-within (given_by ps) id g e in let lt = r.1 in (r.0, omega arith)

  active_fits : (id : ℕ) → is_active (standing_at ps id) ≡ true → IsId id
  active_fits id h = by_given (with_id (given_by ps) id) refl h
    where
      by_given : (o : Option GivenClause) → with_id (given_by ps) id ≡ o → is_active (standing_or_absent o) ≡ true → IsId id
      by_given None e h = cc h
      by_given (Some g) e h = given_fits id g e

  hints_fit : (hs : List ℕ) → list_all (λ id. is_active (standing_at ps id)) hs ≡ true → AreIds hs
  hints_fit [] h = All-nil IsId
  hints_fit (i ∷ is) h = let parts = and_parts (is_active (standing_at ps i)) _ h in All-cons IsId i is (active_fits i parts.0) (hints_fit is parts.1)

  one_fits : (id : ℕ) → IsId id → AreIds (id ∷ [])
  one_fits id h = All-cons IsId id [] h (All-nil IsId)

  pub step_fits : (p : Step) (q : LStep) → IsConvertedStep ps p q → IsStep p → IsIdStep q
  step_fits _ _ (input c) f = ((omega arith, small), f)
  step_fits _ _ (lemma c hs h) f = ((omega arith, small), f, hints_fit hs h.active)
  step_fits _ _ (deletion c id e) f = let l = least-such is_active c ps id e in one_fits id (given_fits id l.given l.there)
  step_fits _ _ (weakening c id e) f = let l = least-such is_active c ps id e in one_fits id (given_fits id l.given l.there)
  step_fits _ _ (restoring c id e) f = let l = least-such is_weakened c ps id e in one_fits id (given_fits id l.given l.there)
  step_fits _ _ (query ls) f = f
  step_fits _ _ (status w) f = tt
  step_fits _ _ (model ls) f = f
  step_fits _ _ (core ls hs h) f = (f, hints_fit hs h.active)

-- ---- All steps

one_longer : (gs : List GivenClause) (p : Step) → length (behind_step gs p) ≤ length gs + 1
one_longer gs (steps.Event (events.Input c)) = simp length-append (omega arith)
one_longer gs (steps.Event (events.Query c)) = omega arith
one_longer gs (steps.Event (events.Status c)) = omega arith
one_longer gs (steps.Event (events.Model c)) = omega arith
one_longer gs (steps.Event (events.Core c)) = omega arith
one_longer gs (steps.Event (events.Values c)) = omega arith
one_longer gs (steps.Event (events.Failed c)) = omega arith
one_longer gs (steps.Lemma c) = simp length-append (omega arith)
one_longer gs (steps.Delete c) = simp first-length (omega arith)
one_longer gs (steps.Weaken c) = simp first-length (omega arith)
one_longer gs (steps.Restore c) = simp first-length (omega arith)

given_length : (gs : List GivenClause) (ps : List Step) → length (behind_steps gs ps) ≤ length gs + length ps
unfolding behind_steps
given_length gs [] = omega arith
given_length gs (p ∷ ps) = let one = one_longer gs p in let more = given_length (behind_step gs p) ps in omega arith

next_small : (ps : List Step) → next_id ps ≤ 1 + length ps
next_small ps = let h = given_length [] ps in omega arith

all_fit : (ps before : List Step) (qs : List LStep) → AreConverted before ps qs → All IsStep ps → length before + length ps + 1 < 2 ^ 63 → All IsIdStep qs
all_fit [] before [] k f lt = All-nil IsIdStep
all_fit [] before (q ∷ qs) k f lt = absurd k
all_fit (p ∷ ps) before [] k f lt = absurd k
all_fit (p ∷ ps) before (q ∷ qs) k f lt = All-cons IsIdStep q qs
    (step_fits before (let h = next_small before in omega arith) p q k.0 (All-first IsStep p ps f))
    (all_fit ps (before ++ p ∷ []) qs k.1 (All-more IsStep p ps f) (let h = length-append before (p ∷ []) in omega arith))

same_length : (ps before : List Step) (qs : List LStep) → AreConverted before ps qs → length ps ≡ length qs
same_length [] before [] k = refl
same_length [] before (q ∷ qs) k = absurd k
same_length (p ∷ ps) before [] k = absurd k
same_length (p ∷ ps) before (q ∷ qs) k = ap suc (same_length ps (before ++ p ∷ []) qs k.1)

-- ---- The text, and what is read

line_long : (ws : List (List ℕ)) → 1 ≤ length (line_text ws)
line_long [] = omega arith
line_long (w ∷ []) = let h = length-append w (10 ∷ []) in omega arith
line_long (w ∷ x ∷ ws) = let h = length-append w (32 ∷ line_text (x ∷ ws)) in omega arith

lines_long : {A : Type 0} (words_of : A → List (List ℕ)) (xs : List A) → length xs ≤ length (flat_map (λ v. line_text (words_of v)) xs)
lines_long words_of [] = omega arith
lines_long words_of (x ∷ xs) = let one = line_long (words_of x) in let more = lines_long words_of xs in
    let h = length-append (line_text (words_of x)) (flat_map (λ v. line_text (words_of v)) xs) in omega arith

text_long : (qs : List LStep) → length qs ≤ length (proof_text Lidrup qs)
text_long qs = let more = lines_long id_step_words qs in let h = length-append (line_text (header_words (codes "lidrup"))) (flat_map (λ v. line_text (id_step_words v)) qs) in omega arith

whole_is : {A : Type 0} (r : Result A Fault) (x : A) → of_whole_line r ≡ Ok x → r ≡ Ok x
whole_is (Ok y) x h = let same : y ≡ x = cc h in ap Ok same
whole_is (Err f) x h = cc h

never_cut : {A : Type 0} (r : Result A Fault) (x : A) → of_cut_line r ≡ Ok x → ⊥
never_cut (Ok y) x h = cc h
never_cut (Err (wrong rule)) x h = cc h
never_cut (Err (missing rule)) x h = cc h

line_fits : (line : Line) (p : Step) → value_of idrup_line line ≡ Ok p → IsStep p
line_fits line p v = by_cut line.cut v
  where
    by_cut : (cut : Bool) → (if cut then of_cut_line (idrup_line (judged_words line)) else of_whole_line (idrup_line line.words)) ≡ Ok p → IsStep p
    by_cut true v = absurd (never_cut _ p v)
    by_cut false v = (idrup_line-sound line.words p (whole_is _ p v)).0

more_fit : (line : Line) (ls : List Line) → All IsStep (said idrup_line ls) → (v : Result Step Rule) → value_of idrup_line line ≡ v → All IsStep (said idrup_line (line ∷ ls))
more_fit line ls next (Err r) e = rw (said-err idrup_line line ls r e) (All-nil IsStep)
more_fit line ls next (Ok p) e = rw (said-ok idrup_line line ls p e) (All-cons IsStep p (said idrup_line ls) (line_fits line p e) next)

said_fit : (ls : List Line) → All IsStep (said idrup_line ls)
said_fit [] = nothing
  where
    nothing : All IsStep (said idrup_line [])
    nothing = λ k d lt. absurd (let h = said_within idrup_line [] in omega arith)
said_fit (l ∷ ls) = more_fit l ls (said_fit ls) (value_of idrup_line l) refl

pub as_many : (ps : List Step) (qs : List LStep) → IsConverted ps qs → length qs ≡ length ps
as_many ps qs k = sym (same_length ps [] qs k)

-- one more line
pub text_grows : (qs : List LStep) (q : LStep) → proof_text Lidrup (qs ++ q ∷ []) ≡ proof_text Lidrup qs ++ line_text (id_step_words q)
text_grows qs q = ap (λ z. line_text (header_words (codes "lidrup")) ++ z) (flat_map-append (λ v. line_text (id_step_words v)) qs (q ∷ []) ∙ ap (λ z. flat_map (λ v. line_text (id_step_words v)) qs ++ z) (append-nil (line_text (id_step_words q))))
    ∙ sym (append_assoc (line_text (header_words (codes "lidrup"))) (flat_map (λ v. line_text (id_step_words v)) qs) (line_text (id_step_words q)))

-- a conversion of steps that were read has a spelling, where its text isn't too long
pub conversion_fits : (source : List ℕ) (qs : List LStep) → IsConverted (steps_in Idrup source) qs → length (proof_text Lidrup qs) ≤ most_bytes → All IsIdStep qs
conversion_fits source qs k small = let same = same_length (steps_in Idrup source) [] qs k in let long = text_long qs in
    all_fit (steps_in Idrup source) [] qs k (said_fit (body source)) (omega arith)
