-- Two proofs with the same events that keep all rules by themselves accept the same interactions; a written conversion is one of them.
use Rattle.std.proofs.Common.{◌≡◌, ◌≤◌, ℕ, suc, ◌+◌, true, List, [], ◌∷◌, length, map, All, Contains, Result, Ok, Err, refl, sym, ◌∙◌, ap, subst, ◌↔◌, inl, inr, arith}
use Rattle.lits.proofs.Members.{not_in_nil, here_or_there}
use Rattle.session_rules.specs.declared.Form.{Form}
use Rattle.session_rules.specs.declared.Form.TheVariants.{Idrup, Lidrup}
use Rattle.session_rules.specs.declared.Phase.TheVariants.{Idle}
use Rattle.session_rules.specs.declared.Rule.{Rule}
use Rattle.session_rules.specs.declared.LStep.{LStep}
use Rattle.session_rules.specs.declared.Verdict.TheVariants.{Accepted}
use Rattle.session_rules.specs.Lines.{Line, most_bytes}
use Rattle.session_rules.specs.Reading.{Fault, value_of}
use Rattle.session_rules.specs.History.{phase}
use Rattle.session_rules.specs.Pair.{verdict}
use Rattle.session_rules.specs.Spelling.{IsIdStep, numbered_values}
use Rattle.session_rules.specs.Verdicts.{StepOf, rules_of, body, steps_in, events_among, OwnFault, KeepsOwnRules, IsReadAs}
use Rattle.session_rules.proofs.Positions.{said}
use Rattle.session_rules.proofs.Spelled.{lidrup_text_back}
use Rattle.elimination_laws.specs.Accepted.{proof_text}
use Rattle.conversion_laws.specs.Converted.{IsConverted}
use Rattle.conversion_laws.specs.Matched.{all_matched, query_count, IsAccepted}
use Rattle.conversion_laws.proofs.Joined.{said-ok, said-err}
use Rattle.conversion_laws.proofs.Matching.{accepted_by_events}
use Rattle.conversion_laws.proofs.Converting.{converted_agrees, converted_kept}

-- ---- The same events

same_matched : (form other : Form) (a b c : List ℕ) (n : ℕ) → KeepsOwnRules other c → events_among form (steps_in form b) ≡ events_among other (steps_in other c)
    → IsAccepted form a b n → IsAccepted other a c n
same_matched form other a b c n keeps e h = record {
  header_spells = h.header_spells;
  proof_keeps = keeps;
  matched = subst (λ es. all_matched [] es (body a) ≡ true) e h.matched;
  counted = h.counted ∙ ap query_count e;
}

pub same_accepted : (form other : Form) (b c : List ℕ) → KeepsOwnRules form b → KeepsOwnRules other c → events_among form (steps_in form b) ≡ events_among other (steps_in other c)
    → (a : List ℕ) (n : ℕ) → (verdict form a b ≡ Accepted n) ↔ (verdict other a c ≡ Accepted n)
same_accepted form other b c kb kc e a n = (
  λ h. (accepted_by_events other a c n).1 (same_matched form other a b c n kc e ((accepted_by_events form a b n).0 h)),
  λ h. (accepted_by_events form a b n).1 (same_matched other form a c b n kb (sym e) ((accepted_by_events other a c n).0 h)),
)

-- ---- A text that is read back

module _ {S : Type 0} (read : List (List ℕ) → Result S Fault) where
  abbrev AllSay : List Line → Type 0
  AllSay ls = (line : Line) (r : Rule) → Contains ls line → value_of read line ≡ Err r → ⊥

  more_say : (l : Line) (ls : List Line) → (length (said read ls) ≡ length ls → AllSay ls) → (v : Result S Rule) → value_of read l ≡ v
      → length (said read (l ∷ ls)) ≡ suc (length ls) → AllSay (l ∷ ls)
  more_say l ls next (Err r) e h = absurd (let f = ap length (said-err read l ls r e) in omega arith)
  more_say l ls next (Ok p) e h = λ line r m v. elim (here_or_there l line ls m) [
    | inl y ↦ let f : Ok p ≡ Err r = sym e ∙ ap (value_of read) y ∙ v in cc f
    | inr k ↦ let f = ap length (said-ok read l ls p e) in next (omega arith) line r k v
  ]

  all_say : (ls : List Line) → length (said read ls) ≡ length ls → AllSay ls
  all_say [] h = λ line r m v. not_in_nil line m
  all_say (l ∷ ls) h = more_say l ls (all_say ls) (value_of read l) refl h

values_back : {S : Type 0} (ps : List S) (n : ℕ) → map (λ (p : ℕ × S). p.1) (numbered_values n ps) ≡ ps
unfolding numbered_values
values_back [] n = refl
values_back (p ∷ ps) n = ap (λ z. p ∷ z) (values_back ps (n + 1))

module _ (form : Form) (b : List ℕ) (ps : List (StepOf form)) (is : IsReadAs (rules_of form).read (rules_of form).name b ps) where
  pub steps_back : steps_in form b ≡ ps
  steps_back = ap (λ z. map (λ p. p.1) z) is.lines_say ∙ values_back ps 2

  pub read_keeps : ((k : ℕ) (rule : Rule) → OwnFault form ps k rule → ⊥) → phase (events_among form ps) ≡ Idle → KeepsOwnRules form b
  read_keeps none idle = record {
    header_spells = is.header_spells;
    lines_spell = λ line rule m v. all_say (rules_of form).read (body b) (ap length steps_back ∙ sym is.none_left) line rule m v;
    steps_keep = λ k rule f. none k rule (subst (λ z. OwnFault form z k rule) steps_back f);
    ends_idle = ap (λ z. phase (events_among form z)) steps_back ∙ idle;
  }

-- ---- A conversion that is written

module _ (source : List ℕ) (qs : List LStep) (keeps : KeepsOwnRules Idrup source) (k : IsConverted (steps_in Idrup source) qs) (fit : All IsIdStep qs)
    (small : length (proof_text Lidrup qs) ≤ most_bytes) where
  same_events : events_among Lidrup qs ≡ events_among Idrup (steps_in Idrup source)
  same_events = (converted_agrees (steps_in Idrup source) qs k).told

  pub target_keeps : KeepsOwnRules Lidrup (proof_text Lidrup qs)
  target_keeps = read_keeps Lidrup (proof_text Lidrup qs) qs (lidrup_text_back qs fit small) (converted_kept (steps_in Idrup source) qs k keeps.steps_keep)
      (ap phase same_events ∙ keeps.ends_idle)

  pub accepted_alike : (a : List ℕ) (n : ℕ) → (verdict Lidrup a (proof_text Lidrup qs) ≡ Accepted n) ↔ (verdict Idrup a source ≡ Accepted n)
  accepted_alike = same_accepted Lidrup Idrup (proof_text Lidrup qs) source target_keeps keeps
      (ap (events_among Lidrup) (steps_back Lidrup (proof_text Lidrup qs) qs (lidrup_text_back qs fit small)) ∙ same_events)
