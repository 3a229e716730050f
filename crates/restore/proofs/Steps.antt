-- The loop that extends values from the last entry to the first.
use Rattle.std.proofs.Common.{◌≡◌, ◌≢◌, ℕ, zero, suc, ◌+◌, ◌-◌, ◌<◌, ◌≤◌, ◌⊎◌, Bool, true, false, nat_eq, List, [], ◌∷◌, ◌||◌, map, length, drop, get_or, refl, sym, ◌∙◌, ap, subst, inl, inr, arith, add-one, drop-cons, eq-eqb, eqb-true}
use Rattle.std.specs.Prelude.{slice_set, All}
use Rattle.std.specs.List.{list_any, slice_index_or}
use Rattle.std.proofs.Math.ListN.{length-set}
use Rattle.std.proofs.Math.Seq.{get_or-set_same, get_or-set_other}
use Rattle.std.proofs.lemmas.List.{drop_all}
use Rattle.std.proofs.lemmas.Bool.{cases_Bool}
use Rattle.lits.specs.Literal.{var}
use Rattle.restore.specs.declared.lists.Elim.{Elim}
use Rattle.restore.specs.declared.lists.Kept.{Kept}
use Rattle.restore.specs.Stack.{clauses_of, with_value, needs, extended, Extends, IsCovered, IsCoveredClause}
use Rattle.restore.specs.Values.{value, IsReserved}

-- the values over the entries from a place on
pub record Extending (es : List Elim) (old now : List Bool) (left : ℕ) : Type 0 where
  pub within : left ≤ length es
  pub extended : Extends (drop left es) (value old) (value now)
  pub reserved : length now ≡ length old

pub extending-begin : (es : List Elim) (vs : List Bool) (n : ℕ) → n ≡ length es → Extending es vs vs n
extending-begin es vs n e = record {
  within = omega arith;
  extended = rw (drop_all n es (omega arith)) (λ x. refl);
  reserved = refl;
}

-- a write of a value
written : (vs : List Bool) (v : ℕ) (b : Bool) → IsReserved vs v → (x : ℕ) → value (slice_set vs (v - 1) b) x ≡ with_value (value vs) v b x
written vs v b r zero = let z = r.0 in rw (differs 0 v (λ e. omega arith)) refl
  where
    differs : (a b : ℕ) → a ≢ b → nat_eq a b ≡ false
    differs a b n = elim (cases_Bool (nat_eq a b)) [ inl e ↦ absurd (n (eqb-true a b e)) | inr e ↦ e ]
written vs v b r (suc k) = elim (cases_Bool (nat_eq (suc k) v)) [
  | inl e ↦ let is = eqb-true (suc k) v e in let at : k ≡ v - 1 = omega arith in
      rw e (subst (λ i. slice_index_or (slice_set vs (v - 1) b) i false ≡ b) (sym at) (get_or-set_same vs (v - 1) b false (omega (arith, r.0, r.1))))
  | inr e ↦ rw e (get_or-set_other vs (v - 1) k b false (λ at. apart at (r.0) e))
]
  where
    apart : k ≡ v - 1 → 0 < v → nat_eq (suc k) v ≡ false → ⊥
    apart at z e = let is : suc k ≡ v = omega arith in let t = eq-eqb (suc k) v is in cc

covered : (vs ws : List Bool) (e : Elim) → length ws ≡ length vs → IsCovered vs e → IsCovered ws e
covered vs ws e len h = record {
  variable = (h.variable.0, rw len h.variable.1);
  clauses = λ k d lt i f l. let r = h.clauses k d lt i f l in (r.0, rw len r.1);
}

-- an entry of a covered stack is covered by values of as many variables
pub covered_at : (es : List Elim) (vs ws : List Bool) (k : ℕ) (e : Elim) → All (IsCovered vs) es → k < length es → e ≡ get_or es k e → length ws ≡ length vs → IsCovered ws e
covered_at es vs ws k e all lt is len = covered vs ws e len (subst (λ (d : Elim). IsCovered vs d) (sym is) (all k e lt))

pub extending-step : (es : List Elim) (old now next : List Bool) (k n : ℕ) (e : Elim) (b : Bool) → n ≡ k + 1 → e ≡ get_or es k e → IsReserved now e.var
    → b ≡ list_any (λ (c : Kept). needs (value now) e.var c.lits) e.clauses → next ≡ slice_set now (e.var - 1) b → Extending es old now n → Extending es old next k
extending-step es old now next k n e b en is r eb ew h =
    let low = h.within in
    let lt : k < length es = omega arith in
    let more : drop k es ≡ e ∷ drop n es = drop-cons es k e lt ∙ (λ i. sym is i ∷ drop (next_place i) es) in
    let same : value now ≡ extended (drop n es) (value old) = λ i x. h.extended x i in
    record {
      within = omega arith;
      extended = λ x. rw (ew, more) (written now e.var b r x ∙ (λ i. with_value (same i) e.var ((eb ∙ sym (any-mapped (needs (value now) e.var) e.clauses) ∙ ap (λ w. list_any (needs w e.var) (clauses_of e)) same) i) x));
      reserved = ap length ew ∙ length-set now (e.var - 1) b ∙ h.reserved;
    }
  where
    next_place : suc k ≡ n
    next_place = omega arith

    any-mapped : (p : List ℕ → Bool) (cs : List Kept) → list_any p (map (λ (c : Kept). c.lits) cs) ≡ list_any (λ (c : Kept). p c.lits) cs
    any-mapped p [] = refl
    any-mapped p (c ∷ cs) = ap (λ b. p c.lits || b) (any-mapped p cs)

pub extending-end : (es : List Elim) (old now : List Bool) (k : ℕ) → k ≡ 0 → Extending es old now k → Extends es (value old) (value now)
extending-end es old now k e h = λ x. subst (λ i. value now x ≡ extended (drop i es) (value old) x) e (h.extended x)
