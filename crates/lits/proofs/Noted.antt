-- What holds inside `Dense`, after a variable got a number.
use Rattle.std.proofs.Common.{◌≡◌, ℕ, ◌+◌, ◌*◌, ◌≤◌, max, false, nat_eq, cond, List, [], ◌∷◌, ◌++◌, length, length-append, get_or, Some, Result, Ok, Err, OnOk, is_err, sym, ap, ◌∙◌, arith}
use Rattle.std.proofs.lemmas.Bool.{ne_eqb}
use Rattle.lits.specs.Clause.{has}
use Rattle.lits.specs.Numbering.{IsVariable, find_number}
use Rattle.lits.specs.Dense.{noted, IsDense}
use Rattle.lits.proofs.Places.{numbering-push, find-push}

-- a missing variable got the next number
pub dense-push : (near near' : List ℕ) (far far' : List (ℕ × ℕ)) (vars : List ℕ) (v : ℕ) → IsDense near far vars → IsVariable v → has vars v ≡ false
    → ((q : ℕ) → noted near' far' q ≡ cond (nat_eq v q) (Some (length vars + 1)) (noted near far q))
    → length near' ≤ max (length near) (8 * length vars + 4097) → length far' ≤ length far + 1 → IsDense near' far' (vars ++ v ∷ [])
dense-push near near' far far' vars v d k n puts near_le far_le = record {
  numbering = numbering-push vars v d.numbering k n;
  numbers = λ q. puts q ∙ ap (cond (nat_eq v q) (Some (length vars + 1))) (d.numbers q) ∙ sym (find-push vars v q n);
  near_size = omega (arith, near_le, d.near_size, length-append vars (v ∷ []));
  far_size = omega (arith, far_le, d.far_size, length-append vars (v ∷ []));
}

-- a number that the table has is the variable's
pub near-found : (near vars : List ℕ) (far : List (ℕ × ℕ)) (v n : ℕ) → IsDense near far vars → n ≡ get_or near v 0 → (n ≡ 0 → ⊥) → Some n ≡ find_number vars v
near-found near vars far v n d e ne =
    let g : nat_eq (get_or near v 0) 0 ≡ false = ne_eqb (get_or near v 0) 0 (λ z. ne (e ∙ z)) in
    let f : Some n ≡ noted near far v = rw g (ap Some e) in
    f ∙ d.numbers v

pub on_ok : {T E : Type 0} (r : Result T E) (P : Type 0) → is_err r ≡ false → OnOk r P → P
on_ok (Ok x) P e h = h
on_ok (Err y) P e h = cc
