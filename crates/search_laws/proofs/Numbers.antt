-- How the number of a trail changes, and the bounds that come of it.
use Rattle.std.proofs.Common.{◌≡◌, ℕ, zero, suc, ◌+◌, ◌-◌, ◌*◌, ◌^◌, ◌<◌, ◌≤◌, List, [], ◌∷◌, ◌++◌, length, length-append, Option, Some, None, sym, ◌∙◌, ap, subst, arith}
use Rattle.std.proofs.Math.Nat.{pow-succ', mul_comm}
use Rattle.std.proofs.lemmas.Nat.{mul-add-lt}
use Rattle.lits.specs.Literal.{var}
use Rattle.propagation.specs.declared.TrailEntry.{TrailEntry}
use Rattle.propagation.specs.Engine.{EngineView, IsEngine, IsFree, Grows, literals, level_after, up_to_level}
use Rattle.propagation.proofs.Trail.{new_entries, new-room, trail-le}
use Rattle.search_laws.specs.Number.{digit, number}
use Rattle.search_laws.proofs.Placing.{cut-below}

power_pos : (k : ℕ) → 0 < 3 ^ k
power_pos zero = omega arith
power_pos (suc k) = let h = power_pos k in rw (pow-succ' 3 k) (omega arith)

digit-le : (o : Option ℕ) (x : ℕ) → digit o * x ≤ 2 * x
digit-le None x = omega arith
digit-le (Some r) x = omega arith

digit-pos : (o : Option ℕ) (x : ℕ) → 0 < x → 0 < digit o * x
digit-pos None x h = omega arith
digit-pos (Some r) x h = omega arith

pub number-lt : (v : ℕ) (ss : List TrailEntry) → number v ss < 3 ^ v
unfolding number
number-lt zero ss = omega arith
number-lt (suc v) [] = power_pos (suc v)
number-lt (suc v) (s ∷ ss) = let r = number-lt v ss in let d = digit-le s.reason (3 ^ v) in rw (pow-succ' 3 v) (omega arith)

pub number-push : (v : ℕ) (ss : List TrailEntry) (s : TrailEntry) → length ss < v → number v ss < number v (ss ++ s ∷ [])
unfolding number
number-push zero ss s h = absurd (omega arith)
number-push (suc v) [] s h = let d = digit-pos s.reason (3 ^ v) (power_pos v) in omega arith
number-push (suc v) (x ∷ ss) s h = let r = number-push v ss s (omega arith) in omega arith

pub number-append : (v : ℕ) (xs ys : List TrailEntry) → number v xs ≤ number v (xs ++ ys)
unfolding number
number-append zero xs ys = omega arith
number-append (suc v) [] ys = omega arith
number-append (suc v) (x ∷ xs) ys = let r = number-append v xs ys in omega arith

-- a literal with a reason in the place of an assumed one, whatever stands behind
number-replace : (v r : ℕ) (xs ys zs : List TrailEntry) (d a : TrailEntry) → d.reason ≡ None → a.reason ≡ Some r → length xs < v → number v (xs ++ d ∷ ys) < number v (xs ++ a ∷ zs)
unfolding number
number-replace zero r xs ys zs d a p q h = absurd (omega arith)
number-replace (suc v) r [] ys zs d a p q h =
    let k = number-lt v ys in
    let e : digit d.reason * 3 ^ v ≡ 1 * 3 ^ v = ap (λ z. digit z * 3 ^ v) p in
    let f : digit a.reason * 3 ^ v ≡ 2 * 3 ^ v = ap (λ z. digit z * 3 ^ v) q in
    omega arith
number-replace (suc v) r (x ∷ xs) ys zs d a p q h = let k = number-replace v r xs ys zs d a p q (omega arith) in omega arith

pub number-assume : (e : EngineView) (s : TrailEntry) → IsEngine e → var s.lit ≤ e.vars → IsFree (literals e.trail) s.lit → number e.vars e.trail < number e.vars (e.trail ++ s ∷ [])
number-assume e s k reserved free = number-push e.vars e.trail s (new-room e.vars e.trail s (new_entries e k) (record { reserved = reserved; free = free }))

pub number-grows : (v : ℕ) (e new : EngineView) → Grows e new → number v e.trail ≤ number v new.trail
number-grows v e new g = subst (λ (z : EngineView). number v e.trail ≤ number v z.trail) (sym g.1) (number-append v e.trail g.0)

pub number-learn : (e : EngineView) (n r : ℕ) (s : TrailEntry) → IsEngine e → n < level_after e.trail → s.reason ≡ Some r → number e.vars e.trail < number e.vars (up_to_level n e.trail ++ s ∷ [])
number-learn e n r s k h is =
    let c = cut-below n e.trail h in
    let le = trail-le e k in
    let a : length e.trail ≡ length (up_to_level n e.trail ++ c.step ∷ c.after) = ap length c.cut in
    let b = length-append (up_to_level n e.trail) (c.step ∷ c.after) in
    let lt : length (up_to_level n e.trail) < e.vars = room (length e.trail) (length (up_to_level n e.trail)) (length c.after) e.vars (a ∙ b) le in
    subst (λ z. number e.vars z < number e.vars (up_to_level n e.trail ++ s ∷ [])) (sym c.cut) (number-replace e.vars r (up_to_level n e.trail) c.after [] c.step s c.assumed is lt)
  where
    room : (t u w v : ℕ) → t ≡ u + suc w → t ≤ v → u < v
    room t u w v e h = omega arith

more : (r p : ℕ) → (r + 1) * p ≡ r * p + p
more r p = omega arith

-- ---- Lemmas, and the measure

pub lemmas-step : (v lemmas restarts : ℕ) (t s : List TrailEntry) → lemmas ≤ restarts * 3 ^ v + number v t → number v t < number v s → lemmas + 1 ≤ restarts * 3 ^ v + number v s
lemmas-step v lemmas restarts t s h r = omega arith

pub lemmas-restart : (v lemmas restarts : ℕ) (t s : List TrailEntry) → lemmas ≤ restarts * 3 ^ v + number v t → lemmas ≤ (restarts + 1) * 3 ^ v + number v s
lemmas-restart v lemmas restarts t s h = let k = number-lt v t in let e : (restarts + 1) * 3 ^ v ≡ restarts * 3 ^ v + 3 ^ v = more restarts (3 ^ v) in rw e (omega arith)

pub lemmas-between : (v lemmas : ℕ) (t : List TrailEntry) → lemmas ≤ number v t → lemmas < 3 ^ v
lemmas-between v lemmas t h = let k = number-lt v t in omega arith

pub lemmas-lt : (v lemmas restarts limit : ℕ) (t : List TrailEntry) → restarts ≤ limit → lemmas ≤ restarts * 3 ^ v + number v t → lemmas < (limit + 1) * 3 ^ v
lemmas-lt v lemmas restarts limit t r h =
    let k = mul-add-lt restarts (3 ^ v) (number v t) (limit + 1) (omega arith) (number-lt v t) in
    let e : (limit + 1) * 3 ^ v ≡ 3 ^ v * (limit + 1) = mul_comm (limit + 1) (3 ^ v) in
    omega arith

pub measure-step : (v : ℕ) (t s : List TrailEntry) → number v t < number v s → 3 ^ v - number v s < 3 ^ v - number v t
measure-step v t s h = let k = number-lt v s in omega arith

pub measure-restart : (v limit restarts : ℕ) (t s : List TrailEntry) → restarts < limit
    → (limit - (restarts + 1)) * 3 ^ v + (3 ^ v - number v s) < (limit - restarts) * 3 ^ v + (3 ^ v - number v t)
measure-restart v limit restarts t s h =
    let k = number-lt v t in
    let same : limit - restarts ≡ limit - (restarts + 1) + 1 = omega arith in
    let e : (limit - restarts) * 3 ^ v ≡ (limit - (restarts + 1)) * 3 ^ v + 3 ^ v = ap (λ z. z * 3 ^ v) same ∙ more (limit - (restarts + 1)) (3 ^ v) in
    omega arith
