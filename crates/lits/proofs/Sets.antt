-- What the tests of sets say of members.
use Rattle.std.proofs.Common.{◌≡◌, ℕ, true, List, Contains, refl, sym, ◌∙◌}
use Rattle.std.specs.Cmp.{both_ways}
use Rattle.std.proofs.lemmas.Bool.{and_parts, and_from}
use Rattle.lits.specs.Literal.{neg}
use Rattle.lits.specs.Clause.{has, is_part, same_set, is_tautology}
use Rattle.lits.proofs.Members.{all_at, all_from, any_at, any_from, has_at, has_from}

pub part_at : (c d : List ℕ) → is_part c d ≡ true → (l : ℕ) → Contains c l → Contains d l
part_at c d h l m = has_at d l (all_at (has d) c l h m)

pub part_from : (c d : List ℕ) → ((l : ℕ) → Contains c l → Contains d l) → is_part c d ≡ true
part_from c d h = all_from (has d) c (λ l m. has_from d l (h l m))

-- the same members, by the test of each
pub has-same : (c d : List ℕ) → ((l : ℕ) → Contains c l → Contains d l) → ((l : ℕ) → Contains d l → Contains c l) → (l : ℕ) → has c l ≡ has d l
has-same c d f g l = both_ways (has c l) (has d l) (λ h. has_from d l (f l (has_at c l h))) (λ h. has_from c l (g l (has_at d l h)))

pub same_at : (c d : List ℕ) → same_set c d ≡ true → (l : ℕ) → has c l ≡ has d l
same_at c d h = let parts = and_parts (is_part c d) (is_part d c) h in has-same c d (part_at c d parts.0) (part_at d c parts.1)

pub same_from : (c d : List ℕ) → ((l : ℕ) → has c l ≡ has d l) → same_set c d ≡ true
same_from c d h = and_from _ _
    (part_from c d (λ l m. has_at d l (sym (h l) ∙ has_from c l m)))
    (part_from d c (λ l m. has_at c l (h l ∙ has_from d l m)))

pub same_set-itself : (c : List ℕ) → same_set c c ≡ true
same_set-itself c = same_from c c (λ l. refl)

pub same_set-flip : (c d : List ℕ) → same_set c d ≡ true → same_set d c ≡ true
same_set-flip c d h = same_from d c (λ l. sym (same_at c d h l))

pub same_set-chain : (c d e : List ℕ) → same_set c d ≡ true → same_set d e ≡ true → same_set c e ≡ true
same_set-chain c d e h g = same_from c e (λ l. same_at c d h l ∙ same_at d e g l)

pub tautology_at : (c : List ℕ) → is_tautology c ≡ true → (l : ℕ) × Contains c l × Contains c (neg l)
tautology_at c h = let r = any_at (λ l. has c (neg l)) c h in (r.0, r.1, has_at c (neg r.0) r.2)

pub tautology_from : (c : List ℕ) (l : ℕ) → Contains c l → Contains c (neg l) → is_tautology c ≡ true
tautology_from c l m n = any_from (λ l. has c (neg l)) c l m (has_from c (neg l) n)

-- ---- The tests depend on the sets alone

pub part-same : (c c2 d d2 : List ℕ) → same_set c c2 ≡ true → same_set d d2 ≡ true → is_part c d ≡ is_part c2 d2
part-same c c2 d d2 h g = both_ways (is_part c d) (is_part c2 d2)
    (part_along c c2 d d2 (same_at c c2 h) (same_at d d2 g))
    (part_along c2 c d2 d (λ l. sym (same_at c c2 h l)) (λ l. sym (same_at d d2 g l)))
  where
    part_along : (c c2 d d2 : List ℕ) → ((l : ℕ) → has c l ≡ has c2 l) → ((l : ℕ) → has d l ≡ has d2 l) → is_part c d ≡ true → is_part c2 d2 ≡ true
    part_along c c2 d d2 h g p = part_from c2 d2 (λ l m. has_at d2 l (sym (g l) ∙ has_from d l (part_at c d p l (has_at c l (h l ∙ has_from c2 l m)))))

pub tautology-same : (c d : List ℕ) → same_set c d ≡ true → is_tautology c ≡ is_tautology d
tautology-same c d h = both_ways (is_tautology c) (is_tautology d) (tautology_along c d (same_at c d h)) (tautology_along d c (λ l. sym (same_at c d h l)))
  where
    tautology_along : (c d : List ℕ) → ((l : ℕ) → has c l ≡ has d l) → is_tautology c ≡ true → is_tautology d ≡ true
    tautology_along c d h t =
        let r = tautology_at c t in
        tautology_from d r.0 (has_at d r.0 (sym (h r.0) ∙ has_from c r.0 r.1)) (has_at d (neg r.0) (sym (h (neg r.0)) ∙ has_from c (neg r.0) r.2))
