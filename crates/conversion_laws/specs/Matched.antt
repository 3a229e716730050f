-- What acceptance asks of an interaction, told by the proof's events alone: no step, id or hint of the proof counts.
use Rattle.std.specs.Prelude.{◌≡◌, ℕ, Bool, not, ◌&&◌, ◌||◌, List, [], ◌∷◌, ◌++◌, length, take, drop, filter_map, None, IsTrue, codes}
use Rattle.std.specs.List.{list_all}
use Rattle.session_rules.specs.declared.Form.{Form}
use Rattle.session_rules.specs.declared.Event.{Event}
use Rattle.session_rules.specs.Lines.{Line, is_nil}
use Rattle.session_rules.specs.Reading.{value_of, icnf_line, header_fault}
use Rattle.session_rules.specs.History.{assumed, query_of}
use Rattle.session_rules.specs.Pair.{partner_count, owes_partner, partner_rules}
use Rattle.session_rules.specs.Verdicts.{body, steps_in, events_among, KeepsOwnRules}

-- whether a line of the interaction says an event that agrees with the proof's, under these assumptions
abbrev pub agrees : List ℕ → Event → Line → Bool
agrees assumptions event line = is_nil (partner_rules assumptions event (value_of icnf_line line))

-- whether an event has the partner that it owes among the lines that are left, and each of its partners agrees with it
abbrev pub has_partners : List ℕ → Event → List Line → Bool
has_partners assumptions event ls = (not (owes_partner event) || not (is_nil ls)) && list_all (agrees assumptions event) (take (partner_count event ls) ls)

-- whether the events ahead, behind these, have their partners in turn, and no line is left behind those of the last
unfoldable pub all_matched : List Event → List Event → List Line → Bool
all_matched before [] ls = is_nil ls
all_matched before (event ∷ more) ls = let rest = all_matched (before ++ event ∷ []) more (drop (partner_count event ls) ls) in
    has_partners (assumed before) event ls && rest

-- how many queries are among events
abbrev pub query_count : List Event → ℕ
query_count es = length (filter_map query_of es)

-- an interaction is accepted with so many queries: its header is spelled, the proof keeps all rules by itself, and the
-- interaction's lines are the partners of the proof's events, one event after another
pub record IsAccepted (form : Form) (a b : List ℕ) (queries : ℕ) : Type 0 where
  pub header_spells : header_fault (codes "icnf") a ≡ None
  pub proof_keeps : KeepsOwnRules form b
  pub matched : IsTrue (all_matched [] (events_among form (steps_in form b)) (body a))
  pub counted : queries ≡ query_count (events_among form (steps_in form b))
