-- A window at the first word of its line.
use Rattle.std.proofs.Common.{◌≡◌, ℕ, zero, suc, ◌+◌, ◌≤◌, Bool, true, false, ◌&&◌, nat_eq, List, [], ◌∷◌, ◌++◌, take, refl, sym, ap, ◌∙◌, arith, add-zero, ne_eqb}
use Rattle.std.proofs.lemmas.Bool.{false≢true}
use Rattle.slice_tokens.specs.declared.window.Standing.{Standing}
use Rattle.slice_tokens.specs.declared.window.Standing.TheVariants.{Start, Content, Comment}
use Rattle.slice_tokens.specs.Place.{is_fresh, begins_content}

and_false : (q : Bool) → (q && false) ≡ false
and_false true = refl
and_false false = refl

-- behind some bytes it no longer stands there
pub fresh_passed : (st : Standing) (passed first n : ℕ) → first ≤ passed → is_fresh st (passed + n) first ≡ (nat_eq n 0 && is_fresh st passed first)
fresh_passed Start passed first n h = sym (and_false (nat_eq n 0))
fresh_passed Content passed first zero h = ap (λ k. nat_eq k first) (add-zero passed)
fresh_passed Content passed first (suc n) h =
    ne_eqb (passed + suc n) first (λ e. omega (arith, h, e)) ∙ sym (ap (λ q. q && nat_eq passed first) (ne_eqb (suc n) 0 (λ e. omega (arith, e))))
fresh_passed Comment passed first n h = sym (and_false (nat_eq n 0))

-- a read adds bytes behind
pub begins_more : (count : ℕ) (held more : List ℕ) → begins_content (take count held) ≡ true → begins_content (take count (held ++ more)) ≡ true
begins_more zero held more h = absurd (false≢true h)
begins_more (suc n) [] more h = absurd (false≢true h)
begins_more (suc n) (b ∷ held) more h = h
