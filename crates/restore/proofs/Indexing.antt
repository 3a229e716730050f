-- The table of places stays one where an entry is added.
use Rattle.std.proofs.Common.{◌≡◌, ◌≢◌, ℕ, zero, suc, ◌+◌, ◌-◌, ◌<◌, ◌≤◌, ◌⊎◌, Bool, true, false, ◌||◌, nat_eq, List, [], ◌∷◌, ◌++◌, length, map, get_or, refl, sym, ◌∙◌, ap, subst, inl, inr, arith, length-append, eqb-true, eq-eqb}
use Rattle.std.specs.Prelude.{slice_index, slice_set, Option, Some, None, IfSome, IfNone, is_some}
use Rattle.std.specs.List.{list_any}
use Rattle.std.proofs.Math.ListN.{get_or-append}
use Rattle.std.proofs.Math.Seq.{get_or-set_same, get_or-set_other, get_or-append_seam}
use Rattle.std.proofs.lemmas.Bool.{cases_Bool, both_ways}
use Rattle.std.proofs.lemmas.List.Folds.{list_any_at}
use Rattle.lits.proofs.Members.{any_at, any_from}
use Rattle.restore.specs.declared.lists.Elim.{Elim}
use Rattle.restore.specs.Stack.{has_entry}
use Rattle.restore.specs.Indexed.{variables_of, IsIndexed}

pub same_or_not : (i j : ℕ) → (i ≡ j) ⊎ (i ≢ j)
same_or_not i j = grind arith

-- an entry of a variable, by the variables
pub has-variables : (es : List Elim) (x : ℕ) → has_entry es x ≡ list_any (λ y. nat_eq y x) (variables_of es)
has-variables [] x = refl
has-variables (e ∷ es) x = ap (λ b. nat_eq e.var x || b) (has-variables es x)

pub length-variables : (es : List Elim) → length (variables_of es) ≡ length es
length-variables [] = refl
length-variables (e ∷ es) = ap suc (length-variables es)

pub variables-push : (es : List Elim) (e : Elim) → variables_of (es ++ e ∷ []) ≡ variables_of es ++ e.var ∷ []
variables-push [] e = refl
variables-push (d ∷ es) e = ap (λ vs. d.var ∷ vs) (variables-push es e)

pub new_index : IsIndexed [] []
new_index = record {
  there = λ i lt. absurd (omega arith);
  within = λ v h. absurd (omega arith);
  back = λ v h. absurd (omega arith);
}

-- a variable has an entry exactly where it has a place
pub placed_has : (es : List Elim) (ps : List ℕ) (v i : ℕ) → IsIndexed (variables_of es) ps → slice_index ps v ≡ i + 1 → has_entry es v ≡ true
placed_has es ps v i x e =
    let low = x.within v (omega arith) in
    let is = x.back v (omega arith) in
    has-variables es v ∙ list_any_at (λ y. nat_eq y v) (variables_of es) (slice_index ps v - 1) 0 (omega arith) (eq-eqb _ v is)

pub unplaced_has : (es : List Elim) (ps : List ℕ) (v : ℕ) → IsIndexed (variables_of es) ps → slice_index ps v ≡ 0 → has_entry es v ≡ false
unplaced_has es ps v x e = elim (cases_Bool (has_entry es v)) [
  | inl h ↦
      let m = any_at (λ y. nat_eq y v) (variables_of es) (sym (has-variables es v) ∙ h) in
      let is : m.0 ≡ v = eqb-true m.0 v m.2 in
      let there = x.there m.1.0 m.1.1 in
      let at : slice_index (variables_of es) m.1.0 ≡ v = default (variables_of es) m.1.0 m.0 m.1.1 ∙ m.1.2 ∙ is in
      absurd (let now : slice_index ps v ≡ m.1.0 + 1 = subst (λ k. slice_index ps k ≡ m.1.0 + 1) at there in omega arith)
  | inr h ↦ h
]
  where
    default : (xs : List ℕ) (i d : ℕ) → i < length xs → slice_index xs i ≡ get_or xs i d
    default [] i d lt = absurd (omega arith)
    default (x ∷ xs) zero d lt = refl
    default (x ∷ xs) (suc i) d lt = default xs i d (omega arith)

no_place : (es : List Elim) (ps : List ℕ) (v : ℕ) → IsIndexed (variables_of es) ps → has_entry es v ≡ false → slice_index ps v ≡ 0
no_place es ps v x h = elim (same_or_not (slice_index ps v) 0) [
  | inl e ↦ e
  | inr n ↦ absurd (both_ways _ h (placed_has es ps v (slice_index ps v - 1) x (omega arith)))
]

-- a table with more rows of no place
pub indexed_more : (vs ps qs : List ℕ) → ((k : ℕ) → slice_index qs k ≡ slice_index ps k) → IsIndexed vs ps → IsIndexed vs qs
indexed_more vs ps qs same x = record {
  there = λ i lt. same (slice_index vs i) ∙ x.there i lt;
  within = λ v h. let e = same v in let le = x.within v (omega arith) in omega arith;
  back = λ v h. let e = same v in rw e (x.back v (omega arith));
}

-- an entry is added
pub indexed_push : (es : List Elim) (e : Elim) (ps : List ℕ) (n : ℕ) → IsIndexed (variables_of es) ps → has_entry es e.var ≡ false → e.var < length ps → n ≡ length (es ++ e ∷ [])
    → IsIndexed (variables_of (es ++ e ∷ [])) (slice_set ps e.var n)
indexed_push es e ps n x absent lt en = rw (variables-push es e) (pushed (variables_of es) e.var x (no_place es ps e.var x absent) lt
    (en ∙ length-append es (e ∷ []) ∙ ap (λ k. k + 1) (sym (length-variables es))))
  where
    pushed : (vs : List ℕ) (v : ℕ) → IsIndexed vs ps → slice_index ps v ≡ 0 → v < length ps → n ≡ length vs + 1
        → IsIndexed (vs ++ v ∷ []) (slice_set ps v n)
    pushed vs v x free lt e =
        let long : length (vs ++ v ∷ []) ≡ length vs + 1 = length-append vs (v ∷ []) ∙ omega arith in
        let last : slice_index (vs ++ v ∷ []) (length vs) ≡ v = get_or-append_seam vs v [] 0 in
        let here : slice_index (slice_set ps v n) v ≡ n = get_or-set_same ps v n 0 lt in
        let other : (k : ℕ) → k ≢ v → slice_index (slice_set ps v n) k ≡ slice_index ps k = λ k d. get_or-set_other ps v k n 0 d in
        let old : (i : ℕ) → i < length vs → slice_index (vs ++ v ∷ []) i ≡ slice_index vs i = λ i l. get_or-append vs (v ∷ []) 0 i l in
        record {
          there = λ i l. elim (same_or_not i (length vs)) [
            | inl is ↦ rw (is, last) (here ∙ e)
            | inr d ↦
                let at = x.there i (omega arith) in
                let apart : slice_index vs i ≢ v = λ same. omega (arith, rw same at at) in
                rw (old i (omega arith)) (other (slice_index vs i) apart ∙ at)
          ];
          within = λ k h. elim (same_or_not k v) [
            | inl is ↦ rw (is, here) (omega arith)
            | inr d ↦ let o = other k d in let le = x.within k (omega arith) in omega arith
          ];
          back = λ k h. elim (same_or_not k v) [
            | inl is ↦ rw (is, here) (subst (λ m. slice_index (vs ++ v ∷ []) m ≡ v) (let a : length vs ≡ n - 1 = omega arith in a) last)
            | inr d ↦
                let o = other k d in
                let le = x.within k (omega arith) in
                rw o (old (slice_index ps k - 1) (omega arith) ∙ x.back k (omega arith))
          ];
        }

pub has_from_place : (es : List Elim) (ps : List ℕ) (v : ℕ) (r : Option ℕ) → IsIndexed (variables_of es) ps → IfSome r (λ i. slice_index ps v ≡ i + 1) → IfNone r (slice_index ps v ≡ 0)
    → is_some r ≡ has_entry es v
has_from_place es ps v (Some i) x s n = sym (placed_has es ps v i x s)
has_from_place es ps v None x s n = sym (unplaced_has es ps v x n)
