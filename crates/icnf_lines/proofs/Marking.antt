-- Marks of what is met, one literal after another.
use Rattle.std.proofs.Common.{◌≡◌, ℕ, Bool, true, false, ◌&&◌, ◌||◌, nat_eq, List, [], ◌∷◌, ◌++◌, refl, sym, ◌∙◌, ap}
use Rattle.std.proofs.lemmas.List.Folds.{list_any-append}
use Rattle.lits.specs.Clause.{has}
use Rattle.icnf_lines.specs.declared.marks.Mark.{Mark}
use Rattle.icnf_lines.specs.Marks.{mark_of, also_met, Changes}

pub or_false : (b : Bool) → (b || false) ≡ b
or_false true = refl
or_false false = refl

or_assoc : (a b c : Bool) → (a || (b || c)) ≡ ((a || b) || c)
or_assoc true b c = refl
or_assoc false b c = refl

has-push : (ls : List ℕ) (l k : ℕ) → has (ls ++ l ∷ []) k ≡ (has ls k || nat_eq k l)
has-push ls l k = list_any-append (nat_eq k) ls (l ∷ []) ∙ ap (λ b. has ls k || b) (or_false (nat_eq k l))

met_both : (held met a b : Bool) → (met || (held && (a || b))) ≡ ((met || (held && a)) || (held && b))
met_both true met a b = or_assoc met a b
met_both false met a b = sym (or_false (met || false))

-- what two are met by is met by one after the other
also_met-both : (a b : Bool) (m : Mark) → also_met (a || b) m ≡ also_met b (also_met a m)
also_met-both a b m = ap (λ z. with_met z) (met_both m.held m.met a b)
  where
    with_met : Bool → Mark
    with_met z = record m { met = z }

pub met_push : (vars : List ℕ) (old now new : List Mark) (ls : List ℕ) (l : ℕ) → Changes vars also_met old now ls → Changes vars also_met now new (l ∷ []) → Changes vars also_met old new (ls ++ l ∷ [])
met_push vars old now new ls l h k = record {
  each = λ x. k.each x ∙ ap (λ b. also_met b (mark_of vars now x)) (or_false (nat_eq x l)) ∙ ap (also_met (nat_eq x l)) (h.each x) ∙ sym (also_met-both (has ls x) (nat_eq x l) (mark_of vars old x))
      ∙ ap (λ b. also_met b (mark_of vars old x)) (sym (has-push ls l x));
}
