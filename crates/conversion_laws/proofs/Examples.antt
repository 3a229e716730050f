-- A small proof and its conversion: two copies of a clause, a weakening and a restoring, a lemma, a deletion and a core.
use Rattle.std.proofs.Common.{◌≡◌, List, [], ◌∷◌, None, Some, refl}
use Rattle.session_rules.specs.declared.StatusWord.TheVariants.{Unsatisfiable}
use Rattle.session_rules.specs.declared.Event.TheVariants as events
use Rattle.session_rules.specs.declared.Step.{Step}
use Rattle.session_rules.specs.declared.Step.TheVariants as steps
use Rattle.session_rules.specs.declared.LStep.{LStep}
use Rattle.session_rules.specs.declared.LStep.TheVariants as lsteps
use Rattle.side_laws.specs.Sets.{named_id}
use Rattle.conversion_laws.specs.Converted.{input, lemma, deletion, weakening, restoring, query, status, core, IsConverted, active_at}

-- the literal 1 is 0 and its negation 1; 2 is 2 and its negation 3; 3 is 4
-- `i 1 2`, `i 2 1 1`, `i -1 2`, `q -2`, `w 2 1`, `l 2`, `r 1 2`, `d 1 2`, `s UNSATISFIABLE`, `u -2`
source : List Step
source = steps.Event (events.Input (0 ∷ 2 ∷ [])) ∷ steps.Event (events.Input (2 ∷ 0 ∷ 0 ∷ [])) ∷ steps.Event (events.Input (1 ∷ 2 ∷ []))
    ∷ steps.Event (events.Query (3 ∷ [])) ∷ steps.Weaken (2 ∷ 0 ∷ []) ∷ steps.Lemma (2 ∷ []) ∷ steps.Restore (0 ∷ 2 ∷ []) ∷ steps.Delete (0 ∷ 2 ∷ [])
    ∷ steps.Event (events.Status Unsatisfiable) ∷ steps.Event (events.Core (3 ∷ [])) ∷ []

-- `i 1 1 2`, `i 2 2 1 1`, `i 3 -1 2`, `q -2`, `w 1`, `l 4 2` by the hints 2 and 3, `r 1`, `d 1`, the status, `u -2` by the hint 4
target : List LStep
target = lsteps.Input 1 (0 ∷ 2 ∷ []) ∷ lsteps.Input 2 (2 ∷ 0 ∷ 0 ∷ []) ∷ lsteps.Input 3 (1 ∷ 2 ∷ [])
    ∷ lsteps.Query (3 ∷ []) ∷ lsteps.Weaken (1 ∷ []) ∷ lsteps.Lemma 4 (2 ∷ []) (2 ∷ 3 ∷ []) ∷ lsteps.Restore (1 ∷ []) ∷ lsteps.Delete (1 ∷ [])
    ∷ lsteps.Status Unsatisfiable ∷ lsteps.Core (3 ∷ []) (4 ∷ []) ∷ []

-- the steps before the lemma, and before the core
before_lemma : List Step
before_lemma = steps.Event (events.Input (0 ∷ 2 ∷ [])) ∷ steps.Event (events.Input (2 ∷ 0 ∷ 0 ∷ [])) ∷ steps.Event (events.Input (1 ∷ 2 ∷ []))
    ∷ steps.Event (events.Query (3 ∷ [])) ∷ steps.Weaken (2 ∷ 0 ∷ []) ∷ []

weakened_is_not_active : active_at before_lemma 1 ≡ None
unfolding before_lemma Rattle.side_laws.specs.Sets.behind_steps Rattle.side_laws.specs.Sets.with_first
weakened_is_not_active = refl

is_converted : IsConverted source target
unfolding source target Rattle.side_laws.specs.Sets.behind_steps Rattle.side_laws.specs.Sets.with_first Rattle.session_rules.specs.Logic.hints_fail Rattle.session_rules.specs.Logic.hints_fail_from
is_converted = (
  input (0 ∷ 2 ∷ []),
  (
    input (2 ∷ 0 ∷ 0 ∷ []),
    (
      input (1 ∷ 2 ∷ []),
      (
        query (3 ∷ []),
        (
          weakening (2 ∷ 0 ∷ []) 1 refl,
          (
            lemma (2 ∷ []) (2 ∷ 3 ∷ []) (record { close = refl; once = refl; active = refl }),
            (
              restoring (0 ∷ 2 ∷ []) 1 refl,
              (
                deletion (0 ∷ 2 ∷ []) 1 refl,
                (
                  status Unsatisfiable,
                  (core (3 ∷ []) (4 ∷ []) (record { close = refl; once = refl; active = refl }), tt),
                ),
              ),
            ),
          ),
        ),
      ),
    ),
  ),
)

-- behind the weakening a deletion names the other copy
the_least_is_named : named_id before_lemma (steps.Delete (0 ∷ 2 ∷ [])) ≡ Some 2
unfolding before_lemma Rattle.side_laws.specs.Sets.behind_steps Rattle.side_laws.specs.Sets.with_first
the_least_is_named = refl
