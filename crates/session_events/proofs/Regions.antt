-- Clauses in one list of literals: one more clause, and a walk from clause to clause.
use Rattle.std.proofs.Common.{◌≡◌, ℕ, ◌+◌, ◌-◌, ◌<◌, ◌≤◌, Bool, false, cond, List, [], ◌∷◌, ◌++◌, length, get_or, take, drop, slice_range, Some, sym, ◌∙◌, ap, subst, arith, All, length-append, length-drop}
use Rattle.std.specs.List.{position_from}
use Rattle.std.proofs.lemmas.List.{drop-append-le, take-append-le, drop_at, take_all, drop_more}
use Rattle.std.proofs.lemmas.List.Elements.{All-head, All-tail}
use Rattle.session_events.specs.Pieces.{pieces, ReachesFrom}

-- ---- One more clause

pub reaches-le : (start : ℕ) (ends : List ℕ) (last : ℕ) → ReachesFrom start ends last → start ≤ last
reaches-le start [] last h = omega arith
reaches-le start (end ∷ ends) last h = let more = reaches-le end ends last h.1 in omega (arith, h.0)

pub reaches-push : (start : ℕ) (ends : List ℕ) (last more whole : ℕ) → ReachesFrom start ends last → last ≤ more → more ≡ whole → ReachesFrom start (ends ++ more ∷ []) whole
reaches-push start [] last more whole h le is = (omega arith, is)
reaches-push start (end ∷ ends) last more whole h le is = (h.0, reaches-push end ends last more whole h.1 le is)

-- a part within the front
range-append : (region more : List ℕ) (start end : ℕ) → start ≤ end → end ≤ length region → slice_range (region ++ more) start end ≡ slice_range region start end
range-append region more start end le within =
    ap (take (end - start)) (drop-append-le start region more (omega arith))
    ∙ take-append-le (end - start) (drop start region) more (omega (arith, length-drop start region))

-- the part behind the front
range-behind : (region more : List ℕ) (start end : ℕ) → start ≡ length region → end ≡ length (region ++ more) → slice_range (region ++ more) start end ≡ more
range-behind region more start end is to =
    ap (take (end - start)) (drop_at region more start (sym is)) ∙ take_all (end - start) more (omega (arith, length-append region more))

pub pieces-push : (region more : List ℕ) (start : ℕ) (ends : List ℕ) (end : ℕ) → ReachesFrom start ends (length region) → end ≡ length (region ++ more)
    → pieces (region ++ more) start (ends ++ end ∷ []) ≡ pieces region start ends ++ more ∷ []
pieces-push region more start [] end h to = ap (λ z. z ∷ []) (range-behind region more start end h to)
pieces-push region more start (e ∷ ends) end h to =
    ap (λ z. z ∷ pieces (region ++ more) e (ends ++ end ∷ [])) (range-append region more start e h.0 (reaches-le e ends (length region) h.1))
    ∙ ap (λ z. slice_range region start e ∷ z) (pieces-push region more e ends end h.1 to)

-- ---- From clause to clause

-- the walk so far found none: the first clause that passes is among those from here on
pub record IsWalk (passes : List ℕ → Bool) (fits : List ℕ → Type 0) (region ends : List ℕ) (start i : ℕ) : Type 0 where
  pub first : position_from passes 1 (pieces region 0 ends) ≡ position_from passes (i + 1) (pieces region start (drop i ends))
  pub reaches : ReachesFrom start (drop i ends) (length region)
  pub fit : All fits (pieces region start (drop i ends))

module _ (passes : List ℕ → Bool) (fits : List ℕ → Type 0) (region ends : List ℕ) (start i end : ℕ) (lt : i < length ends) (is : end ≡ get_or ends i 0)
    (h : IsWalk passes fits region ends start i) where
  next : drop i ends ≡ end ∷ drop (i + 1) ends
  next = drop_more ends i 0 lt ∙ ap (λ z. z ∷ drop (i + 1) ends) (sym is)

  reaches : ReachesFrom start (end ∷ drop (i + 1) ends) (length region)
  reaches = subst (λ z. ReachesFrom start z (length region)) next h.reaches

  fit : All fits (pieces region start (end ∷ drop (i + 1) ends))
  fit = subst (λ z. All fits (pieces region start z)) next h.fit

  -- the clause here lies within the region
  pub walk-range : (start ≤ end) × (end ≤ length region)
  walk-range = (reaches.0, reaches-le end (drop (i + 1) ends) (length region) reaches.1)

  pub walk-fits : fits (slice_range region start end)
  walk-fits = All-head fits (slice_range region start end) (pieces region end (drop (i + 1) ends)) fit

  here : position_from passes 1 (pieces region 0 ends)
      ≡ cond (passes (slice_range region start end)) (Some (i + 1)) (position_from passes (i + 1 + 1) (pieces region end (drop (i + 1) ends)))
  here = h.first ∙ ap (λ z. position_from passes (i + 1) (pieces region start z)) next

  pub walk-more : passes (slice_range region start end) ≡ false → IsWalk passes fits region ends end (i + 1)
  walk-more unmet = record {
    first = here ∙ ap (λ z. cond z (Some (i + 1)) (position_from passes (i + 1 + 1) (pieces region end (drop (i + 1) ends)))) unmet;
    reaches = reaches.1;
    fit = All-tail fits (slice_range region start end) (pieces region end (drop (i + 1) ends)) fit;
  }
