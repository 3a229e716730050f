-- Small cases, each computed.
use Rattle.std.proofs.Common.{◌≡◌, ℕ, Bool, true, false, List, [], ◌∷◌, length, map, Some, None, refl, codes, inr, arith, slice_get, ◌≤◌}
use Rattle.std.proofs.lemmas.Option.{slice_get_past}
use Rattle.std.specs.Fmt.{digits}
use Prim.Native.String.{String}
use Rattle.lits.specs.Word.{literal_word, id_word, magnitude, numeral}
use Rattle.session_rules.specs.declared.Form.TheVariants.{Idrup, Lidrup}
use Rattle.session_rules.specs.declared.Verdict.TheVariants.{Accepted}
use Rattle.session_rules.specs.declared.Event.{Event}
use Rattle.session_rules.specs.declared.Event.TheVariants as events
use Rattle.session_rules.specs.declared.Step.{Step}
use Rattle.session_rules.specs.declared.Step.TheVariants as steps
use Rattle.session_rules.specs.declared.LStep.{LStep}
use Rattle.session_rules.specs.Lines.{lines, lines_within, all_lines, numbered, words, ends_in_word}
use Rattle.session_rules.specs.Reading.{icnf_line, idrup_line, lidrup_line, id_list, own_id, literal_list, status_word, same_word, values_of, steps_of}
use Rattle.session_rules.specs.Logic.{closes, propagated, propagated_times}
use Rattle.session_rules.specs.Own.{active_copies, weakened_copies, active_clauses, active_id_clauses}
use Rattle.session_rules.proofs.Rows.{row}
use Rattle.restore.specs.Resolution.{resolvents}
use Rattle.elimination_laws.specs.Eligible.{eligible, any_eligible}
use Rattle.elimination_laws.specs.Parts.{search_lemmas}
use Rattle.elimination_laws.specs.Irredundant.{irredundant}
use Rattle.restore.specs.Stack.{are_due}
use Rattle.elimination_laws.specs.Blocks.{is_block, is_block_of, blocks}
use Rattle.elimination_laws.specs.Settled.{settled}
use Rattle.elimination_laws.specs.ByClauses.{by_clauses, each_stands, is_id_of, count_below}
use Rattle.elimination_laws.specs.Answers.{answers_from, keeps_within, solver_steps, id_solver_steps}
use Rattle.elimination_laws.specs.Fresh.{is_fresh, is_fresh_step}
use Rattle.elimination_laws.specs.Underway.{Underway}

-- the literal v is 2 (v - 1), its negation one more: 1 is 0, -1 is 1, 2 is 2, -2 is 3, 3 is 4, -3 is 5, 4 is 6, 5 is 8
eligible_one : eligible ((0 ∷ 2 ∷ []) ∷ (1 ∷ 4 ∷ []) ∷ []) [] [] 1 ≡ true
unfolding eligible
eligible_one = refl

frozen_one : eligible ((0 ∷ 2 ∷ []) ∷ (1 ∷ 4 ∷ []) ∷ []) (0 ∷ []) [] 1 ≡ false
unfolding eligible
frozen_one = refl

assigned_one : eligible ((0 ∷ 2 ∷ []) ∷ (1 ∷ 4 ∷ []) ∷ []) [] (1 ∷ []) 1 ≡ false
unfolding eligible
assigned_one = refl

resolvents_one : resolvents 1 ((0 ∷ 2 ∷ []) ∷ (1 ∷ 4 ∷ []) ∷ (1 ∷ 3 ∷ []) ∷ []) ≡ (2 ∷ 4 ∷ []) ∷ []
resolvents_one = refl

-- the session of two queries over (1 2) and (-1 3): eliminating 1 writes 2 3, then 2 and 3 have no resolvents
first_steps : List Step
first_steps = steps.Event (events.Input (0 ∷ 2 ∷ [])) ∷ steps.Event (events.Input (1 ∷ 4 ∷ [])) ∷ steps.Event (events.Query []) ∷ steps.Lemma (2 ∷ 4 ∷ []) ∷ steps.Weaken (0 ∷ 2 ∷ []) ∷ steps.Weaken (1 ∷ 4 ∷ []) ∷ steps.Weaken (2 ∷ 4 ∷ []) ∷ []

first_irredundant : irredundant first_steps 4 ≡ (0 ∷ 2 ∷ []) ∷ (1 ∷ 4 ∷ []) ∷ (2 ∷ 4 ∷ []) ∷ []
unfolding first_steps irredundant
first_irredundant = refl

first_block : is_block first_steps 1 3 6 ≡ true
unfolding first_steps is_block is_block_of irredundant eligible closes propagated_times propagated
first_block = refl

second_block : is_block first_steps 2 6 7 ≡ true
unfolding first_steps is_block is_block_of irredundant eligible closes propagated_times propagated
second_block = refl

first_blocks : blocks 7 first_steps 3 7 ≡ true
unfolding first_steps blocks is_block is_block_of irredundant eligible closes propagated_times propagated
first_blocks = refl

-- ---- Whole proofs, from their texts

unfoldable pub proof_steps : String → List Step
unfolding values_of idrup_line literal_list status_word same_word literal_word magnitude numeral lines lines_within all_lines numbered words ends_in_word
proof_steps text = map (λ p. p.1) (steps_of idrup_line (codes text))

-- whether the proof with this text is settled
unfoldable pub settled_text : String → Bool
unfolding proof_steps settled blocks is_block is_block_of irredundant any_eligible eligible closes propagated_times propagated
settled_text text = settled (proof_steps text)

-- the second query restores all, and eliminates 2 again
eliminated_and_restored : settled_text "p idrup\ni 1 2 0\ni -1 3 0\nq 0\nl 2 3 0\nw 1 2 0\nw -1 3 0\nw 2 3 0\ns SATISFIABLE\nm -1 2 -3 0\nr 1 2 0\nr -1 3 0\nr 2 3 0\nq 1 -3 0\nw 1 2 0\nw 2 3 0\ns UNSATISFIABLE\nu 1 -3 0\n" ≡ true
unfolding settled_text
eliminated_and_restored = refl

-- and the checker accepts it
eliminated_and_accepted : row Idrup "p icnf\ni 1 2 0\ni -1 3 0\nq 0\ns SATISFIABLE\nm -1 2 -3 0\nq 1 -3 0\ns UNSATISFIABLE\nu 1 -3 0\n" "p idrup\ni 1 2 0\ni -1 3 0\nq 0\nl 2 3 0\nw 1 2 0\nw -1 3 0\nw 2 3 0\ns SATISFIABLE\nm -1 2 -3 0\nr 1 2 0\nr -1 3 0\nr 2 3 0\nq 1 -3 0\nw 1 2 0\nw 2 3 0\ns UNSATISFIABLE\nu 1 -3 0\n" ≡ Accepted 2
unfolding row
eliminated_and_accepted = refl

-- 2 first: no resolvent is due, then none for 1 either
other_order : settled_text "p idrup\ni 1 2 0\ni -1 3 0\nq 0\nw 1 2 0\nw -1 3 0\ns SATISFIABLE\nm -1 2 -3 0\nr 1 2 0\nr -1 3 0\nq 1 -3 0\nw 1 2 0\ns UNSATISFIABLE\nu 1 -3 0\n" ≡ true
unfolding settled_text
other_order = refl

-- without elimination
not_eliminated : settled_text "p idrup\ni 1 2 0\ni -1 3 0\nq 0\ns SATISFIABLE\nm -1 2 -3 0\nq 1 -3 0\ns UNSATISFIABLE\nu 1 -3 0\n" ≡ false
unfolding settled_text
not_eliminated = refl

-- d in place of w
deleted_instead : settled_text "p idrup\ni 1 2 0\ni -1 3 0\nq 0\nl 2 3 0\nd 1 2 0\nd -1 3 0\nw 2 3 0\ns SATISFIABLE\nm -1 2 -3 0\n" ≡ false
unfolding settled_text
deleted_instead = refl

all_deleted : settled_text "p idrup\ni 1 2 0\ni -1 3 0\nq 0\nd 1 2 0\nd -1 3 0\ns SATISFIABLE\nm -1 2 -3 0\n" ≡ false
unfolding settled_text
all_deleted = refl

-- the resolvent isn't written
resolvent_missing : settled_text "p idrup\ni 1 2 0\ni -1 3 0\nq 2 0\nw 1 2 0\nw -1 3 0\ns SATISFIABLE\nm -1 2 -3 0\n" ≡ false
unfolding settled_text
resolvent_missing = refl

-- it is written for that query
resolvent_written : settled_text "p idrup\ni 1 2 0\ni -1 3 0\nq 2 3 0\nl 2 3 0\nw 1 2 0\nw -1 3 0\ns SATISFIABLE\nm -1 2 3 0\n" ≡ true
unfolding settled_text
resolvent_written = refl

-- a restoring in a part, a lemma outside
restored_inside : settled_text "p idrup\ni 1 2 0\nq 0\nw 1 2 0\nr 1 2 0\nw 1 2 0\ns SATISFIABLE\nm 1 2 0\n" ≡ false
unfolding settled_text
restored_inside = refl

lemma_outside : settled_text "p idrup\ni 1 2 0\ni 1 -2 0\nl 1 0\nq 0\ns UNKNOWN\n" ≡ false
unfolding settled_text
lemma_outside = refl

-- a lemma of the search behind the last weakening is no irredundant clause, and is deleted before its variable goes
learned_and_deleted : settled_text "p idrup\ni 1 2 0\ni 1 -2 0\nq -1 -2 0\nl 1 2 3 0\ns UNSATISFIABLE\nu -1 -2 0\nq 1 2 0\nd 1 2 3 0\ns SATISFIABLE\nm 1 2 0\n" ≡ true
unfolding settled_text
learned_and_deleted = refl

-- the session's own order, but the resolvent isn't written: 2 first, so none is due
resolvent_not_due : settled_text "p idrup\ni 1 2 0\ni -1 3 0\nq 0\nw 1 2 0\nw -1 3 0\ns SATISFIABLE\nm -1 2 -3 0\n" ≡ true
unfolding settled_text
resolvent_not_due = refl

-- ---- With ids

unfoldable id_proof_steps : String → List LStep
unfolding values_of lidrup_line literal_list id_list own_id status_word same_word literal_word magnitude numeral id_word lines lines_within all_lines numbered words ends_in_word
id_proof_steps text = map (λ p. p.1) (steps_of lidrup_line (codes text))

unfoldable settled_id_text : String → Bool
unfolding id_proof_steps by_clauses settled blocks is_block is_block_of irredundant any_eligible eligible closes propagated_times propagated
settled_id_text text = settled (by_clauses (id_proof_steps text))

unfoldable interaction : String → List Event
unfolding values_of icnf_line literal_list status_word same_word literal_word magnitude numeral lines lines_within all_lines numbered words ends_in_word
interaction text = map (λ p. p.1) (steps_of icnf_line (codes text))

ids_settled : settled_id_text "p lidrup\ni 1 1 2 0\ni 2 -1 3 0\nq 0\nl 3 2 3 0 1 2 0\nw 1 0\nw 2 0\nw 3 0\ns SATISFIABLE\nm -1 2 -3 0\nr 1 0\nr 2 0\nr 3 0\nq 1 -3 0\nw 1 0\nw 3 0\ns UNSATISFIABLE\nu 1 -3 0 2 0\n" ≡ true
unfolding settled_id_text
ids_settled = refl

ids_not_settled : settled_id_text "p lidrup\ni 1 1 2 0\ni 2 -1 3 0\nq 0\nl 3 2 3 0 1 2 0\nd 1 0\nd 2 0\nw 3 0\ns SATISFIABLE\nm -1 2 -3 0\n" ≡ false
unfolding settled_id_text
ids_not_settled = refl

ids_accepted : row Lidrup "p icnf\ni 1 2 0\ni -1 3 0\nq 0\ns SATISFIABLE\nm -1 2 -3 0\nq 1 -3 0\ns UNSATISFIABLE\nu 1 -3 0\n" "p lidrup\ni 1 1 2 0\ni 2 -1 3 0\nq 0\nl 3 2 3 0 1 2 0\nw 1 0\nw 2 0\nw 3 0\ns SATISFIABLE\nm -1 2 -3 0\nr 1 0\nr 2 0\nr 3 0\nq 1 -3 0\nw 1 0\nw 3 0\ns UNSATISFIABLE\nu 1 -3 0 2 0\n" ≡ Accepted 2
unfolding row
ids_accepted = refl

-- ---- Answers

answered : answers_from None [] (interaction "p icnf\ni 1 2 0\ni -1 3 0\nq 0\ns SATISFIABLE\nm -1 2 -3 0\nq 1 -3 0\ns UNSATISFIABLE\nu 1 -3 0\n") ≡ true
unfolding interaction
answered = refl

-- a model that names a variable too few, a core in another order, no answer, an answer that says nothing
variable_missing : answers_from None [] (interaction "p icnf\ni 1 2 0\ni -1 3 0\nq 0\ns SATISFIABLE\nm -1 2 0\n") ≡ false
unfolding interaction
variable_missing = refl

core_out_of_order : answers_from None [] (interaction "p icnf\ni 1 2 0\ni -1 3 0\nq 1 -3 0\ns UNSATISFIABLE\nu -3 1 0\n") ≡ false
unfolding interaction
core_out_of_order = refl

not_answered : answers_from None [] (interaction "p icnf\ni 1 2 0\nq 0\n") ≡ false
unfolding interaction
not_answered = refl

unknown_answer : answers_from None [] (interaction "p icnf\ni 1 2 0\nq 0\ns UNKNOWN\n") ≡ false
unfolding interaction
unknown_answer = refl

solver_writes : solver_steps [] (proof_steps "p idrup\ni 1 2 0\ni -1 3 0\nq 0\nl 2 3 0\nw 1 2 0\nw -1 3 0\nw 2 3 0\ns SATISFIABLE\nm -1 2 -3 0\nr 1 2 0\nr -1 3 0\nr 2 3 0\nq 1 -3 0\nw 1 2 0\nw 2 3 0\ns UNSATISFIABLE\nu 1 -3 0\n") ≡ true
unfolding proof_steps closes propagated_times propagated
solver_writes = refl

solver_writes_ids : id_solver_steps [] (id_proof_steps "p lidrup\ni 1 1 2 0\ni 2 -1 3 0\nq 0\nl 3 2 3 0 1 2 0\nw 1 0\nw 2 0\nw 3 0\ns SATISFIABLE\nm -1 2 -3 0\nr 1 0\nr 2 0\nr 3 0\nq 1 -3 0\nw 1 0\nw 3 0\ns UNSATISFIABLE\nu 1 -3 0 2 0\n") ≡ true
unfolding id_proof_steps closes propagated_times propagated
solver_writes_ids = refl

-- once closed, each later query has an empty core
closed_before : solver_steps [] (proof_steps "p idrup\ni 0\nq 1 0\ns UNSATISFIABLE\nu 1 0\n") ≡ false
unfolding proof_steps closes propagated_times propagated
closed_before = refl

-- ---- Blocks with a lemma to be deleted, and the same set twice

-- (1 2) stands twice, and the lemma 1 2 3 of an earlier search is deleted before 1 goes
deleted_first : settled_text "p idrup\ni 1 2 0\ni 2 1 0\nq 1 2 0\nl 1 2 3 0\ns SATISFIABLE\nm 1 2 0\nq 2 0\nd 1 2 3 0\nw 1 2 0\nw 1 2 0\ns SATISFIABLE\nm 1 2 0\n" ≡ true
unfolding settled_text
deleted_first = refl

not_deleted : settled_text "p idrup\ni 1 2 0\ni 2 1 0\nq 1 2 0\nl 1 2 3 0\ns SATISFIABLE\nm 1 2 0\nq 2 0\nw 1 2 0\nw 1 2 0\ns SATISFIABLE\nm 1 2 0\n" ≡ false
unfolding settled_text
not_deleted = refl

one_copy_left : settled_text "p idrup\ni 1 2 0\ni 2 1 0\nq 2 0\nw 1 2 0\ns SATISFIABLE\nm 1 2 0\n" ≡ false
unfolding settled_text
one_copy_left = refl

-- a tautology with the variable stays
tautology_stays : settled_text "p idrup\ni 1 -1 0\ni 1 2 0\nq 2 0\nw 1 2 0\ns SATISFIABLE\nm 1 2 0\n" ≡ true
unfolding settled_text
tautology_stays = refl

tautology_weakened : settled_text "p idrup\ni 1 -1 0\ni 1 2 0\nq 2 0\nw 1 2 0\nw 1 -1 0\ns SATISFIABLE\nm 1 2 0\n" ≡ false
unfolding settled_text
tautology_weakened = refl

-- ---- What tells a missing resolvent

-- with 2 frozen the resolvent is due where 1 goes before 3, and isn't where 3 goes first
three_first : settled_text "p idrup\ni 1 2 0\ni -1 3 0\nq 2 0\nw -1 3 0\nw 1 2 0\ns SATISFIABLE\nm -1 2 -3 0\n" ≡ true
unfolding settled_text
three_first = refl

-- with 2 and 3 frozen 1 alone is eligible, so it is due in any order
both_frozen : settled_text "p idrup\ni 1 2 0\ni -1 3 0\nq 2 3 0\nw 1 2 0\nw -1 3 0\ns SATISFIABLE\nm -1 2 3 0\n" ≡ false
unfolding settled_text
both_frozen = refl

both_frozen_other : settled_text "p idrup\ni 1 2 0\ni -1 3 0\nq 2 3 0\nw -1 3 0\nw 1 2 0\ns SATISFIABLE\nm -1 2 3 0\n" ≡ false
unfolding settled_text
both_frozen_other = refl

-- the second query, where all is weakened again
all_weakened_again : settled_text "p idrup\ni 1 2 0\ni -1 3 0\nq 0\nw 1 2 0\nw -1 3 0\ns SATISFIABLE\nm -1 2 -3 0\nr 1 2 0\nr -1 3 0\nq 1 -3 0\nw 1 2 0\nw -1 3 0\ns UNSATISFIABLE\nu 1 -3 0\n" ≡ false
unfolding settled_text
all_weakened_again = refl

-- the resolvent is written, but stands there already as an input with another order
resolvent_twice : settled_text "p idrup\ni 1 2 0\ni -1 3 0\ni 3 2 0\nq 2 3 0\nl 2 3 0\nw 1 2 0\nw -1 3 0\ns SATISFIABLE\nm -1 2 3 0\n" ≡ false
unfolding settled_text
resolvent_twice = refl

resolvent_there : settled_text "p idrup\ni 1 2 0\ni -1 3 0\ni 3 2 0\nq 2 3 0\nw 1 2 0\nw -1 3 0\ns SATISFIABLE\nm -1 2 3 0\n" ≡ true
unfolding settled_text
resolvent_there = refl

-- a lemma before the block that is no resolvent
stranger_lemma : settled_text "p idrup\ni 1 2 0\ni -1 3 0\nq 2 3 0\nl 2 3 4 0\nl 2 3 0\nw 1 2 0\nw -1 3 0\ns SATISFIABLE\nm -1 2 3 0\n" ≡ false
unfolding settled_text
stranger_lemma = refl

-- 3 clauses with 1 and 3 with -1 have 9 resolvents, more than 6 clauses
too_many_resolvents : eligible ((0 ∷ 2 ∷ []) ∷ (0 ∷ 4 ∷ []) ∷ (0 ∷ 6 ∷ []) ∷ (1 ∷ 8 ∷ []) ∷ (1 ∷ 10 ∷ []) ∷ (1 ∷ 12 ∷ []) ∷ []) [] [] 1 ≡ false
unfolding eligible
too_many_resolvents = refl

-- 0 is no variable
zero_not_eligible : eligible ((0 ∷ 2 ∷ []) ∷ []) [] [] 0 ≡ false
unfolding eligible
zero_not_eligible = refl

-- ---- Resolvents that are due

-- the one resolvent of 1 2 and -1 3, in any order of its literals
written_once : are_due 1 ((0 ∷ 2 ∷ []) ∷ (1 ∷ 4 ∷ []) ∷ []) ((4 ∷ 2 ∷ []) ∷ []) ≡ true
written_once = refl

written_twice : are_due 1 ((0 ∷ 2 ∷ []) ∷ (1 ∷ 4 ∷ []) ∷ []) ((4 ∷ 2 ∷ []) ∷ (2 ∷ 4 ∷ []) ∷ []) ≡ false
written_twice = refl

not_written : are_due 1 ((0 ∷ 2 ∷ []) ∷ (1 ∷ 4 ∷ []) ∷ []) [] ≡ false
not_written = refl

-- it stands among the clauses already
already_there : are_due 1 ((0 ∷ 2 ∷ []) ∷ (1 ∷ 4 ∷ []) ∷ (4 ∷ 2 ∷ []) ∷ []) [] ≡ true
already_there = refl

written_again : are_due 1 ((0 ∷ 2 ∷ []) ∷ (1 ∷ 4 ∷ []) ∷ (4 ∷ 2 ∷ []) ∷ []) ((2 ∷ 4 ∷ []) ∷ []) ≡ false
written_again = refl

-- ---- Queries that are given up

-- within one conflict
given_up : answers_from (Some 1) [] (interaction "p icnf\ni 1 2 0\nq 1 0\ns UNKNOWN\n") ≡ true
unfolding interaction
given_up = refl

-- without a number no query is
given_up_without_number : answers_from None [] (interaction "p icnf\ni 1 2 0\nq 1 0\ns UNKNOWN\n") ≡ false
unfolding interaction
given_up_without_number = refl

-- exactly where the part has as many search lemmas
one_lemma_given_up : keeps_within (Some 1) (proof_steps "p idrup\ni 1 2 0\ni 1 -2 0\nq 3 0\nl 1 0\ns UNKNOWN\n") ≡ true
unfolding proof_steps
one_lemma_given_up = refl

one_lemma_answered : keeps_within (Some 1) (proof_steps "p idrup\ni 1 2 0\ni 1 -2 0\nq 3 0\nl 1 0\ns SATISFIABLE\nm 1 2 3 0\n") ≡ false
unfolding proof_steps
one_lemma_answered = refl

one_lemma_of_two_answered : keeps_within (Some 2) (proof_steps "p idrup\ni 1 2 0\ni 1 -2 0\nq 3 0\nl 1 0\ns SATISFIABLE\nm 1 2 3 0\n") ≡ true
unfolding proof_steps
one_lemma_of_two_answered = refl

given_up_too_early : keeps_within (Some 2) (proof_steps "p idrup\ni 1 2 0\ni 1 -2 0\nq 3 0\nl 1 0\ns UNKNOWN\n") ≡ false
unfolding proof_steps
given_up_too_early = refl

too_many_lemmas : keeps_within (Some 1) (proof_steps "p idrup\ni 1 2 0\ni 1 -2 0\nq 3 0\nl 1 0\nl 1 3 0\ns SATISFIABLE\nm 1 2 3 0\n") ≡ false
unfolding proof_steps
too_many_lemmas = refl

-- a resolvent is no search lemma
resolvents_not_counted : map length (search_lemmas (proof_steps "p idrup\nl 2 3 0\nw 1 2 0\nw -1 3 0\nl 2 0\nd 2 0\ns SATISFIABLE\nl 3 0\n")) ≡ 1 ∷ []
unfolding proof_steps
resolvents_not_counted = refl

-- ---- Fresh lemmas

part_of_it_active : is_fresh ((0 ∷ 2 ∷ []) ∷ []) (2 ∷ 4 ∷ 0 ∷ []) ≡ false
part_of_it_active = refl

none_part_of_it : is_fresh ((0 ∷ 2 ∷ []) ∷ []) (2 ∷ 4 ∷ []) ≡ true
none_part_of_it = refl

-- a search lemma that is a tautology, one that is active, and a resolvent, which needn't be fresh
tautology_lemma : is_fresh_step (proof_steps "p idrup\ni 1 2 0\nq 0\n") (steps.Lemma (4 ∷ 5 ∷ [])) [] ≡ false
unfolding proof_steps
tautology_lemma = refl

active_lemma : is_fresh_step (proof_steps "p idrup\ni 1 2 0\nq 0\n") (steps.Lemma (2 ∷ 0 ∷ [])) [] ≡ false
unfolding proof_steps
active_lemma = refl

resolvent_lemma : is_fresh_step (proof_steps "p idrup\ni 1 2 0\nq 0\n") (steps.Lemma (2 ∷ 0 ∷ [])) (steps.Weaken (0 ∷ 2 ∷ []) ∷ []) ≡ true
unfolding proof_steps
resolvent_lemma = refl

weakened_lemma : is_fresh_step (proof_steps "p idrup\ni 1 2 0\nq 0\nw 1 2 0\n") (steps.Lemma (2 ∷ 0 ∷ [])) [] ≡ true
unfolding proof_steps
weakened_lemma = refl

-- ---- A session that was cut off

cut_off : Underway Idrup (events.Input (0 ∷ []) ∷ events.Query [] ∷ []) (codes "p icnf\ni 1") (codes "p id")
unfolding digits
cut_off = record {
  events = events.Input (0 ∷ []) ∷ [];
  steps = [];
  out_text = record { begins = record { rest = codes " 0\n"; is = refl }; lines = λ x more e. omega arith };
  proof_text = record { begins = record { rest = codes "rup\n"; is = refl }; lines = λ x more e. cc e };
  out_asked = record { rest = events.Query [] ∷ []; is = refl };
  proof_asked = record { rest = events.Input (0 ∷ []) ∷ events.Query [] ∷ []; is = refl };
  agree = inr (record { rest = events.Input (0 ∷ []) ∷ []; is = refl });
  no_faults = λ k rule f. no_step k f.step f.is_step;
}
  where
    no_step : (k : ℕ) (p : Step) → slice_get [] k ≡ Some p → ⊥
    no_step k p e = let le : 0 ≤ k = omega arith in let n : slice_get {X = Step} [] k ≡ None = slice_get_past {X = Step} [] k le in cc (n, e)

-- ---- Ids that stand as the steps take them

stand_in : String → Bool
unfolding id_proof_steps
stand_in text = each_stands [] (id_proof_steps text)

-- an id may be given anew once its clause is deleted; then the clauses of the ids have the new one twice
given_anew : stand_in "p lidrup\ni 1 1 0\nq 0\nd 1 0\ns UNKNOWN\ni 1 2 0\n" ≡ true
unfolding stand_in
given_anew = refl

anew_by_ids : active_id_clauses (id_proof_steps "p lidrup\ni 1 1 0\nq 0\nd 1 0\ns UNKNOWN\ni 1 2 0\n") ≡ (2 ∷ []) ∷ (2 ∷ []) ∷ []
unfolding id_proof_steps
anew_by_ids = refl

anew_by_clauses : active_clauses (by_clauses (id_proof_steps "p lidrup\ni 1 1 0\nq 0\nd 1 0\ns UNKNOWN\ni 1 2 0\n")) ≡ (2 ∷ []) ∷ []
unfolding id_proof_steps by_clauses
anew_by_clauses = refl

-- an id that is taken: its first clause stays by clauses, and goes by ids
taken_id : stand_in "p lidrup\ni 1 1 0\ni 1 2 0\n" ≡ false
unfolding stand_in
taken_id = refl

taken_by_clauses : active_clauses (by_clauses (id_proof_steps "p lidrup\ni 1 1 0\ni 1 2 0\n")) ≡ (0 ∷ []) ∷ (2 ∷ []) ∷ []
unfolding id_proof_steps by_clauses
taken_by_clauses = refl

taken_by_ids : active_id_clauses (id_proof_steps "p lidrup\ni 1 1 0\ni 1 2 0\n") ≡ (2 ∷ []) ∷ (2 ∷ []) ∷ []
unfolding id_proof_steps
taken_by_ids = refl

-- a list that names an id twice, and an active id restored
weakened_twice : stand_in "p lidrup\ni 1 1 0\nq 0\nw 1 1 0\n" ≡ false
unfolding stand_in
weakened_twice = refl

restored_active : stand_in "p lidrup\ni 1 1 0\nr 1 0\n" ≡ false
unfolding stand_in
restored_active = refl

-- two ids with one set, of which one is weakened
one_of_two_active : active_copies (by_clauses (id_proof_steps "p lidrup\ni 1 1 2 0\ni 2 2 1 0\nq 0\nw 1 0\n")) (0 ∷ 2 ∷ []) ≡ 1
unfolding id_proof_steps by_clauses
one_of_two_active = refl

one_id_of_two : count_below (is_id_of true (id_proof_steps "p lidrup\ni 1 1 2 0\ni 2 2 1 0\nq 0\nw 1 0\n") (0 ∷ 2 ∷ [])) 3 ≡ 1
unfolding id_proof_steps count_below
one_id_of_two = refl

one_of_two_weakened : weakened_copies (by_clauses (id_proof_steps "p lidrup\ni 1 1 2 0\ni 2 2 1 0\nq 0\nw 1 0\n")) (0 ∷ 2 ∷ []) ≡ 1
unfolding id_proof_steps by_clauses
one_of_two_weakened = refl
