-- The rules that a step breaks by itself, and those that an event and one of its partners break, are listed in the order of their
-- numbers.
use Rattle.std.proofs.Common.{◌≡◌, ℕ, ◌<◌, ◌≤◌, ◌⊎◌, Bool, true, false, not, List, [], ◌++◌, Contains, Option, Some, None, refl, subst, inl, inr, arith, append-nil}
use Rattle.std.specs.List.{list_any, position_from}
use Rattle.session_rules.specs.declared.Form.{Form}
use Rattle.session_rules.specs.declared.Form.TheVariants.{Idrup, Lidrup}
use Rattle.session_rules.specs.declared.Event.{Event}
use Rattle.session_rules.specs.declared.Event.TheVariants as events
use Rattle.session_rules.specs.declared.Step.{Step}
use Rattle.session_rules.specs.declared.Step.TheVariants as steps
use Rattle.session_rules.specs.declared.LStep.{LStep}
use Rattle.session_rules.specs.declared.LStep.TheVariants as lsteps
use Rattle.session_rules.specs.declared.Rule.{Rule}
use Rattle.session_rules.specs.declared.Rule.TheVariants as rules
use Rattle.session_rules.specs.Logic.{has}
use Rattle.session_rules.specs.Numbers.{rule_number}
use Rattle.session_rules.specs.History.{assumed, inputs, broken_unless, broken_at, first_clash, first_missing, order_faults, model_faults, core_faults}
use Rattle.session_rules.specs.Own.{events_of, id_events_of, own_faults, own_id_faults}
use Rattle.session_rules.specs.Pair.{pair_faults}
use Rattle.session_rules.specs.Lines.{Line}
use Rattle.session_rules.specs.Verdicts.{StepOf, rules_of, OwnFault, PairFault}
use Rattle.session_rules.proofs.Ascending.{Ascends, ascends_weaken, ascends_append, above_low, below_high}

ascends_unless : (kept : Bool) (rule : Rule) (low high : ℕ) → low < rule_number rule → rule_number rule ≤ high → Ascends rule_number low (broken_unless kept rule) high
unfolding Ascends
ascends_unless true rule low high l h = omega arith
ascends_unless false rule low high l h = (l, h)

ascends_at : {A : Type 0} (rule : A → Rule) (o : Option A) (low n high : ℕ) → ((x : A) → rule_number (rule x) ≡ n) → low < n → n ≤ high → Ascends rule_number low (broken_at rule o) high
unfolding Ascends
ascends_at rule None low n high is l h = omega arith
ascends_at rule (Some x) low n high is l h = (omega (arith, is x), omega (arith, is x))

order_ascends : (es : List Event) (e : Event) → Ascends rule_number 8 (order_faults es e) 9
order_ascends es e = ascends_unless _ rules.Order 8 9 (omega arith) (omega arith)

-- two rules that may be broken at a detail
two_ascend : {A B : Type 0} (rule : A → Rule) (o : Option A) (other : B → Rule) (p : Option B) (low n m high : ℕ) → ((x : A) → rule_number (rule x) ≡ n) → ((x : B) → rule_number (other x) ≡ m)
    → low < n → n < m → m ≤ high → Ascends rule_number low (broken_at rule o ++ broken_at other p) high
two_ascend rule o other p low n m high is too l k h = ascends_append rule_number low n high (broken_at rule o) (broken_at other p) (ascends_at rule o low n n is l (omega arith)) (ascends_at other p n m high too k h)

model_ascends : (es : List Event) (m : List ℕ) → Ascends rule_number 14 (model_faults es m) 17
model_ascends es m =
    let clash = first_clash [] m in let lacks = first_missing (assumed es) m in
    ascends_append rule_number 14 16 17 (broken_at rules.ModelClash clash ++ broken_at rules.ModelAssumption lacks) _
    (two_ascend rules.ModelClash clash rules.ModelAssumption lacks 14 15 16 16 (λ x. refl) (λ x. refl) (omega arith) (omega arith) (omega arith))
    (ascends_at rules.ModelInput (position_from (λ c. not (list_any (has m) c)) 1 (inputs es)) 16 17 17 (λ x. refl) (omega arith) (omega arith))

core_ascends : (es : List Event) (u : List ℕ) → Ascends rule_number 17 (core_faults es u) 18
core_ascends es u = ascends_at rules.CoreStranger _ 17 18 18 (λ x. refl) (omega arith) (omega arith)

-- rules from 9 to a last one
raised : (n : ℕ) (rs : List Rule) → Ascends rule_number 8 rs n → n ≤ 19 → Ascends rule_number 8 rs 19
unfolding Ascends
raised n rs a h = subst (λ zs. Ascends rule_number 8 zs 19) (append-nil rs) (ascends_append rule_number 8 n 19 rs [] a h)

own_ascends-without_ids : (ps : List Step) (p : Step) → Ascends rule_number 8 (own_faults ps p) 19
unfolding own_faults
own_ascends-without_ids ps (steps.Event (events.Input c)) = raised 9 _ (order_ascends (events_of ps) (events.Input c)) (omega arith)
own_ascends-without_ids ps (steps.Event (events.Query c)) = raised 9 _ (order_ascends (events_of ps) (events.Query c)) (omega arith)
own_ascends-without_ids ps (steps.Event (events.Status s)) = raised 9 _ (order_ascends (events_of ps) (events.Status s)) (omega arith)
own_ascends-without_ids ps (steps.Event (events.Model m)) = raised 17 _ (ascends_append rule_number 8 9 17 _ _ (order_ascends (events_of ps) (events.Model m)) (ascends_weaken rule_number 9 14 17 _ (omega arith) (model_ascends (events_of ps) m))) (omega arith)
own_ascends-without_ids ps (steps.Event (events.Core u)) = ascends_append rule_number 8 18 19 _ _
    (ascends_append rule_number 8 9 18 _ _ (order_ascends (events_of ps) (events.Core u)) (ascends_weaken rule_number 9 17 18 _ (omega arith) (core_ascends (events_of ps) u)))
    (ascends_unless _ rules.CoreOpen 18 19 (omega arith) (omega arith))
own_ascends-without_ids ps (steps.Event (events.Values c)) = raised 9 _ (order_ascends (events_of ps) (events.Values c)) (omega arith)
own_ascends-without_ids ps (steps.Event (events.Failed c)) = raised 9 _ (order_ascends (events_of ps) (events.Failed c)) (omega arith)
own_ascends-without_ids ps (steps.Lemma c) = ascends_unless _ rules.Lemma 8 19 (omega arith) (omega arith)
own_ascends-without_ids ps (steps.Delete c) = ascends_unless _ (rules.NotActive 1) 8 19 (omega arith) (omega arith)
own_ascends-without_ids ps (steps.Weaken c) = ascends_unless _ (rules.NotActive 1) 8 19 (omega arith) (omega arith)
own_ascends-without_ids ps (steps.Restore c) = ascends_unless _ (rules.NotWeakened 1) 8 19 (omega arith) (omega arith)

own_ascends-with_ids : (ps : List LStep) (p : LStep) → Ascends rule_number 8 (own_id_faults ps p) 19
unfolding own_id_faults
own_ascends-with_ids ps (lsteps.Input id c) = raised 10 _ (ascends_append rule_number 8 9 10 _ _ (order_ascends (id_events_of ps) (events.Input c)) (ascends_unless _ rules.IdTaken 9 10 (omega arith) (omega arith))) (omega arith)
own_ascends-with_ids ps (lsteps.Lemma id c hs) = raised 14 _ (ascends_append rule_number 8 10 14 _ _ (ascends_unless _ rules.IdTaken 8 10 (omega arith) (omega arith)) (ascends_at rules.Hint _ 10 14 14 (λ x. refl) (omega arith) (omega arith))) (omega arith)
own_ascends-with_ids ps (lsteps.Delete is) = ascends_at rules.NotActive _ 8 11 19 (λ x. refl) (omega arith) (omega arith)
own_ascends-with_ids ps (lsteps.Weaken is) = ascends_at rules.NotActive _ 8 11 19 (λ x. refl) (omega arith) (omega arith)
own_ascends-with_ids ps (lsteps.Restore is) = ascends_at rules.NotWeakened _ 8 12 19 (λ x. refl) (omega arith) (omega arith)
own_ascends-with_ids ps (lsteps.Query c) = raised 9 _ (order_ascends (id_events_of ps) (events.Query c)) (omega arith)
own_ascends-with_ids ps (lsteps.Status s) = raised 9 _ (order_ascends (id_events_of ps) (events.Status s)) (omega arith)
own_ascends-with_ids ps (lsteps.Model m) = raised 17 _ (ascends_append rule_number 8 9 17 _ _ (order_ascends (id_events_of ps) (events.Model m)) (ascends_weaken rule_number 9 14 17 _ (omega arith) (model_ascends (id_events_of ps) m))) (omega arith)
own_ascends-with_ids ps (lsteps.Core u hs) = raised 18 _ (ascends_append rule_number 8 14 18 _ _
    (ascends_append rule_number 8 9 14 _ _ (order_ascends (id_events_of ps) (events.Core u)) (ascends_at rules.Hint _ 9 14 14 (λ x. refl) (omega arith) (omega arith)))
    (ascends_weaken rule_number 14 17 18 _ (omega arith) (core_ascends (id_events_of ps) u))) (omega arith)

pub own_ascends : (form : Form) (ps : List (StepOf form)) (p : StepOf form) → Ascends rule_number 8 ((rules_of form).faults ps p) 19
own_ascends Idrup ps p = own_ascends-without_ids ps p
own_ascends Lidrup ps p = own_ascends-with_ids ps p

-- the rules of one partner: those with numbers up to 26, or of a part of a core the one with number 29
abbrev PairRange : List Rule → Type 0
PairRange rs = Ascends rule_number 20 rs 26 ⊎ Ascends rule_number 28 rs 29

pair_range : (qs : List ℕ) (e f : Event) → PairRange (pair_faults qs e f)
unfolding pair_faults Ascends
pair_range qs (events.Input c) (events.Input d) = inl (ascends_unless _ rules.Content 20 26 (omega arith) (omega arith))
pair_range qs (events.Query c) (events.Query d) = inl (ascends_unless _ rules.Content 20 26 (omega arith) (omega arith))
pair_range qs (events.Status s) (events.Status t) = inl (ascends_unless _ rules.Status 20 26 (omega arith) (omega arith))
pair_range qs (events.Model m) (events.Model n) = inl (ascends_at rules.ModelPart _ 20 24 26 (λ x. refl) (omega arith) (omega arith))
pair_range qs (events.Model m) (events.Values n) = inl (ascends_at rules.ModelPart _ 20 24 26 (λ x. refl) (omega arith) (omega arith))
pair_range qs (events.Core u) (events.Core v) = inl (two_ascend rules.CorePart (first_missing u v) rules.CoreClaim (first_missing v qs) 20 25 26 26 (λ x. refl) (λ x. refl) (omega arith) (omega arith) (omega arith))
pair_range qs (events.Core u) (events.Failed v) = inr (ascends_at rules.FailedPart _ 28 29 29 (λ x. refl) (omega arith) (omega arith))
pair_range qs _ _ = inl (omega arith, omega arith)

up_to_last : (rs : List Rule) → Ascends rule_number 20 rs 26 → Ascends rule_number 20 rs 29
unfolding Ascends
up_to_last rs h = subst (λ zs. Ascends rule_number 20 zs 29) (append-nil rs) (ascends_append rule_number 20 26 29 rs [] h (omega arith))

pub pair_ascends : (qs : List ℕ) (e f : Event) → Ascends rule_number 20 (pair_faults qs e f) 29
pair_ascends qs e f = elim (pair_range qs e f) [
  | inl h ↦ up_to_last _ h
  | inr h ↦ ascends_weaken rule_number 20 28 29 _ (omega arith) h
]

pub own_rule_number : (form : Form) (ps : List (StepOf form)) (p : StepOf form) (rule : Rule) → Contains ((rules_of form).faults ps p) rule → rule_number rule ≤ 19
own_rule_number form ps p rule m = below_high rule_number 8 19 _ rule (own_ascends form ps p) m

pub pair_rule_number : (qs : List ℕ) (e f : Event) (rule : Rule) → Contains (pair_faults qs e f) rule → 19 < rule_number rule
pair_rule_number qs e f rule m = omega (arith, above_low rule_number 20 29 _ rule (pair_ascends qs e f) m)

-- the numbers of a step's own rules, and of those that it and one of its partners break
pub own_numbers : (form : Form) (ps : List (StepOf form)) (k : ℕ) (rule : Rule) → OwnFault form ps k rule → (9 ≤ rule_number rule) × (rule_number rule ≤ 19)
own_numbers form ps k rule f = (omega (arith, above_low rule_number 8 19 _ rule (own_ascends form _ f.step) f.breaks), own_rule_number form _ f.step rule f.breaks)

pair_rule_range : (qs : List ℕ) (e f : Event) (rule : Rule) → Contains (pair_faults qs e f) rule → (21 ≤ rule_number rule) × ((rule_number rule ≤ 26) ⊎ (rule_number rule ≡ 29))
pair_rule_range qs e f rule m = elim (pair_range qs e f) [
  | inl h ↦ (omega (arith, above_low rule_number 20 26 _ rule h m), inl (below_high rule_number 20 26 _ rule h m))
  | inr h ↦ let low = above_low rule_number 28 29 _ rule h m in let high = below_high rule_number 28 29 _ rule h m in
      (omega (arith, low), inr (omega (arith, low, high)))
]

pub pair_numbers : (form : Form) (a : List ℕ) (ps : List (StepOf form)) (k n : ℕ) (line : Line) (rule : Rule) → PairFault form a ps k n line rule
    → (21 ≤ rule_number rule) × ((rule_number rule ≤ 26) ⊎ (rule_number rule ≡ 29))
pair_numbers form a ps k n line rule f = pair_rule_range _ f.event f.said rule f.breaks
