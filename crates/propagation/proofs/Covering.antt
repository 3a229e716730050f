-- Clauses that are covered: what keeps them so, and what follows of them at the end.
use Rattle.std.proofs.Common.{◌≡◌, ℕ, suc, zero, ◌≤◌, ◌⊎◌, List, [], ◌∷◌, ◌++◌, length, take, get_or, refl, sym, ap, subst, inl, inr, arith, true, false, nat_eq, ◌||◌, eqb-true, eq-eqb}
use Rattle.std.specs.Prelude.{slice_index}
use Rattle.std.proofs.lemmas.List.{take-append-le}
use Rattle.std.proofs.lemmas.Bool.{both_ways, or_cases, false_from_ne_true}
use Rattle.lits.specs.Literal.{neg}
use Rattle.session_rules.specs.Logic.{has}
use Rattle.lits.proofs.Members.{all_at, has_at}
use Rattle.clause_store.specs.Clauses.{IsOnce}
use Rattle.watch_lists.proofs.Members.{has-here, has-there, member_cases}
use Rattle.watch_lists.proofs.FirstTwo.{has-first, has-second, firsts-apart}
use Rattle.propagation.specs.Engine.{IsQuiet}
use Rattle.propagation.specs.Watching.{IsSatisfied, HasTwo, IsCovered, IsDone}
use Rattle.propagation.proofs.Scan.{quiet_true, quiet_two}

-- ---- Beginnings of a list

pub has_take : (h x : ℕ) (ts : List ℕ) → has (take h ts) x ≡ true → has ts x ≡ true
has_take zero x ts m = cc
has_take (suc h) x [] m = cc
has_take (suc h) x (t ∷ ts) m = elim (member_cases t x (take h ts) m) [
  | inl e ↦ subst (λ z. has (t ∷ ts) z ≡ true) (sym e) (has-here t ts)
  | inr n ↦ has-there t x ts (has_take h x ts n)
]

pub has_more : (ts more : List ℕ) (x : ℕ) → has ts x ≡ true → has (ts ++ more) x ≡ true
has_more [] more x m = cc
has_more (t ∷ ts) more x m = elim (member_cases t x ts m) [
  | inl e ↦ subst (λ z. has (t ∷ (ts ++ more)) z ≡ true) (sym e) (has-here t (ts ++ more))
  | inr n ↦ has-there t x (ts ++ more) (has_more ts more x n)
]

pub has_end : (ts : List ℕ) (x : ℕ) → has (ts ++ x ∷ []) x ≡ true
has_end [] x = has-here x []
has_end (t ∷ ts) x = has-there t x (ts ++ x ∷ []) (has_end ts x)

pub take_all : (h : ℕ) (ts : List ℕ) → length ts ≤ h → take h ts ≡ ts
take_all zero [] le = refl
take_all zero (t ∷ ts) le = absurd (omega arith)
take_all (suc h) [] le = refl
take_all (suc h) (t ∷ ts) le = ap (λ z. t ∷ z) (take_all h ts (omega arith))

-- one more literal of a beginning
pub take_next : (h x : ℕ) (ts : List ℕ) → has (take (suc h) ts) x ≡ true → (has (take h ts) x ≡ true) ⊎ (x ≡ get_or ts h 0)
take_next zero x [] m = absurd (let g : false ≡ true = m in cc g)
take_next zero x (t ∷ ts) m = elim (member_cases t x [] m) [
  | inl e ↦ inr e
  | inr n ↦ let f : has [] x ≡ true = n in absurd (let g : false ≡ true = f in cc g)
]
take_next (suc h) x [] m = absurd (let g : false ≡ true = m in cc g)
take_next (suc h) x (t ∷ ts) m = elim (member_cases t x (take (suc h) ts) m) [
  | inl e ↦ inl (subst (λ z. has (t ∷ take h ts) z ≡ true) (sym e) (has-here t (take h ts)))
  | inr n ↦ elim (take_next h x ts n) [ inl y ↦ inl (has-there t x (take h ts) y) | inr y ↦ inr y ]
]

-- ---- One clause

pub satisfied_more : (ts more ls : List ℕ) → IsSatisfied ts ls → IsSatisfied (ts ++ more) ls
satisfied_more ts more ls s = (s.0, s.1, has_more ts more s.0 s.2)

pub two_fewer : (ts us ls : List ℕ) → ((x : ℕ) → has ts x ≡ true → has us x ≡ true) → HasTwo us ls → HasTwo ts ls
two_fewer ts us ls w t = record {
  long = t.long;
  one = false_from_ne_true _ (λ e. both_ways _ t.one (w _ e));
  two = false_from_ne_true _ (λ e. both_ways _ t.two (w _ e));
}

-- a longer trail covers what was covered
pub covered_more : (ts more ls : List ℕ) (h : ℕ) → h ≤ length ts → IsCovered ts h ls → IsCovered (ts ++ more) h ls
covered_more ts more ls h le (inl s) = inl (satisfied_more ts more ls s)
covered_more ts more ls h le (inr t) = inr (subst (λ z. HasTwo z ls) (sym (take-append-le h ts more le)) t)

-- what has been looked at is covered
pub done_covered : (ts more ls : List ℕ) (h : ℕ) → h ≤ length ts → IsDone ts (ts ++ more) ls → IsCovered (ts ++ more) h ls
done_covered ts more ls h le (inl s) = inl s
done_covered ts more ls h le (inr t) = inr (subst (λ z. HasTwo z ls) (sym (take-append-le h ts more le)) (two_fewer (take h ts) ts ls (λ x m. has_take h x ts m) t))

-- nothing follows of a covered clause where all has been propagated
pub covered_quiet : (ts ls : List ℕ) → ((x : ℕ) → has ts x ≡ true → has ts (neg x) ≡ true → ⊥) → IsOnce ls → IsCovered ts (length ts) ls → IsQuiet ts ls
covered_quiet ts ls apart once (inl s) = quiet_true ts ls s.0 (has_at ls s.0 s.1) (false_from_ne_true _ (λ e. apart s.0 s.2 e)) s.2
covered_quiet ts ls apart once (inr t) =
    let two : HasTwo ts ls = subst (λ z. HasTwo z ls) (take_all (length ts) ts (omega arith)) t in
    quiet_two ts ls (slice_index ls 0) (has_at ls _ (has-first ls two.long)) two.one
    (false_from_ne_true _ (λ e. elim (or_cases (nat_eq (slice_index ls 0) (slice_index ls 1)) (has ts (neg (slice_index ls 1))) (all_at (λ x. nat_eq (slice_index ls 0) x || has ts (neg x)) ls (slice_index ls 1) e (has_at ls _ (has-second ls two.long)))) [
      | inl y ↦ both_ways _ (firsts-apart ls once two.long) (eq-eqb (slice_index ls 1) (slice_index ls 0) (sym (eqb-true (slice_index ls 0) (slice_index ls 1) y)))
      | inr y ↦ both_ways _ two.two y
    ]))
