-- The first of the rules that a step breaks.
use Rattle.std.proofs.Common.{◌≡◌, ℕ, Bool, true, false, List, [], ◌∷◌, ◌++◌, Option, Some, None, option_map, refl, sym, ap, ◌∙◌}
use Rattle.std.specs.Prelude.{slice_get}
use Rattle.session_rules.specs.declared.Event.{Event}
use Rattle.session_rules.specs.declared.Rule.{Rule}
use Rattle.session_rules.specs.History.{broken_at, broken_unless, order_faults, model_faults, core_faults}
use Rattle.session_events.specs.State.{State, StandsFor, kind_of, order_rules, model_rules, core_rules}
use Rattle.session_events.proofs.Standing.{order_rules-stands, model_rules-stands, core_rules-stands}
use Rattle.pair_matcher.specs.Sides.{first_rule}

pub first-get : (rs : List Rule) → slice_get rs 0 ≡ first_rule rs
first-get [] = refl
first-get (r ∷ rs) = refl

pub first-skip : (xs ys : List Rule) → first_rule xs ≡ None → first_rule (xs ++ ys) ≡ first_rule ys
first-skip [] ys e = refl
first-skip (x ∷ xs) ys e = cc e

pub first-here : (xs ys : List Rule) (r : Rule) → first_rule xs ≡ Some r → first_rule (xs ++ ys) ≡ Some r
first-here [] ys r e = cc e
first-here (x ∷ xs) ys r e = e

pub first-broken : {A : Type 0} (rule : A → Rule) (o : Option A) → first_rule (broken_at rule o) ≡ option_map rule o
first-broken rule None = refl
first-broken rule (Some x) = refl

pub first-kept : (b : Bool) (rule : Rule) → b ≡ true → first_rule (broken_unless b rule) ≡ None
first-kept b rule e = rw e refl

pub first-unkept : (b : Bool) (rule : Rule) → b ≡ false → first_rule (broken_unless b rule) ≡ Some rule
first-unkept b rule e = rw e refl

-- the rules by what the events say are those of the events
module _ (s : State) (es : List Event) (h : StandsFor s es) (answer : Option Rule) where
  pub order_is : (e : Event) → answer ≡ slice_get (order_rules s (kind_of e)) 0 → first_rule (order_faults es e) ≡ answer
  order_is e given = sym (given ∙ first-get (order_rules s (kind_of e)) ∙ ap first_rule (order_rules-stands s es e h))

  pub model_is : (ls : List ℕ) → answer ≡ slice_get (model_rules s ls) 0 → first_rule (model_faults es ls) ≡ answer
  model_is ls given = sym (given ∙ first-get (model_rules s ls) ∙ ap first_rule (model_rules-stands s es ls h))

  pub core_is : (ls : List ℕ) → answer ≡ slice_get (core_rules s ls) 0 → first_rule (core_faults es ls) ≡ answer
  core_is ls given = sym (given ∙ first-get (core_rules s ls) ∙ ap first_rule (core_rules-stands s es ls h))
