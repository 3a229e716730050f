-- How much of a stream a window has taken, by where it stands.
use Rattle.std.proofs.Common.{◌≡◌, ℕ, ◌+◌, ◌-◌, ◌<◌, ◌≤◌, ◌⊎◌, Bool, true, false, List, [], ◌++◌, length, take, count_by, Option, Some, None, if◌then◌else◌, refl, sym, ap, ◌∙◌, subst, inl, inr, arith, append_assoc, length-append}
use Rattle.std.proofs.lemmas.List.{take-append-le}
use Rattle.std.proofs.Math.Seq.{take-append-add}
use Rattle.std.proofs.lemmas.List.Sums.{sum_by-append, sum_by-take-le}
use Rattle.session_rules.specs.declared.Side.TheVariants.{Interaction, Proof}
use Rattle.session_rules.specs.declared.Rule.{Rule}
use Rattle.session_rules.specs.declared.Verdict.{Verdict}
use Rattle.session_rules.specs.declared.Verdict.TheVariants.{Accepted, Refused}
use Rattle.session_rules.specs.Pair.{ProofForm, verdict_by}
use Rattle.session_rules.specs.Lines.{end_line, end_line_within, is_line_feed, most_bytes}
use Rattle.slice_tokens.specs.Place.{Place, WhereTold, at_start, ahead, last_line}
use Rattle.slice_tokens.specs.Calls.{Passed}
use Rattle.slice_tokens.proofs.Places.{last_is, passed_trans}
use Rattle.pair_matcher.specs.Taken.{IsWithin, TakesUpTo, TakenBy}
use Rattle.pair_matcher.specs.declared.checking.Position.{Position}
use Rattle.pair_matcher.specs.Checks.{at, StandsNamed, BothTold, PassesHeader, IsVerdictOf}
use Rattle.pair_matcher.proofs.TwoStreams.{to_come_told, both_known}

pub last_at_start : (bytes : List ℕ) → last_line at_start bytes ≡ end_line bytes
unfolding last_line end_line end_line_within
last_at_start bytes = refl

end_is : (bytes : List ℕ) → end_line bytes ≡ 1 + count_by is_line_feed (take most_bytes bytes)
unfolding end_line end_line_within
end_is bytes = refl

-- a call moved the window on
pub within_on : (all : List ℕ) (p q : Place) (t u : List ℕ) → IsWithin all p t → Passed p t q u → last_line q u ≡ last_line p t → IsWithin all q u
within_on all p q t u w passed last = record { passed = passed_trans at_start p q all t u w.passed passed; last = last ∙ w.last }

-- the first call did
pub within_first : (all : List ℕ) (q : Place) (u : List ℕ) → Passed at_start all q u → last_line q u ≡ last_line at_start all → IsWithin all q u
within_first all q u passed last = record { passed = passed; last = last ∙ last_at_start all }

-- ---- The line of a place

feeds-append : (xs ys : List ℕ) → count_by is_line_feed (xs ++ ys) ≡ count_by is_line_feed xs + count_by is_line_feed ys
feeds-append xs ys = sum_by-append (λ b. if is_line_feed b then 1 else 0) xs ys

feeds-take : (xs : List ℕ) (n : ℕ) → count_by is_line_feed (take n xs) ≤ count_by is_line_feed xs
feeds-take xs n = sum_by-take-le (λ b. if is_line_feed b then 1 else 0) xs n

same_rest : (line before after : ℕ) → line + after ≡ 1 + (before + after) → line ≡ 1 + before
same_rest line before after e = omega (arith, e)

line_by : (most line passed : ℕ) (front rest : List ℕ) → passed ≡ length front → passed ≤ most
    → line + count_by is_line_feed (take (most - passed) rest) ≡ 1 + count_by is_line_feed (take most (front ++ rest)) → line ≡ 1 + count_by is_line_feed front
line_by most line passed front rest e le h =
    let sum : most ≡ length front + (most - passed) = omega (arith, e, le) in
    let split : take most (front ++ rest) ≡ front ++ take (most - passed) rest = ap (λ k. take k (front ++ rest)) sum ∙ take-append-add front rest (most - passed) in
    same_rest line (count_by is_line_feed front) (count_by is_line_feed (take (most - passed) rest))
    (h ∙ ap (λ bs. 1 + count_by is_line_feed bs) split ∙ ap (λ k. 1 + k) (feeds-append front (take (most - passed) rest)))

below : (x y z line : ℕ) → x ≡ y → y ≤ z → line ≡ 1 + z → x < line
below x y z line e le l = omega (arith, e, le, l)

module _ (all rest : List ℕ) (place : Place) (w : IsWithin all place rest) where
  -- it is 1 plus the line feeds that were passed over
  line_of_place : place.passed ≤ most_bytes → place.line ≡ 1 + count_by is_line_feed w.passed.front
  line_of_place bound = line_by most_bytes place.line place.passed w.passed.front rest (let c = w.passed.count in omega (arith, c)) bound
      (sym (last_is place rest) ∙ w.last ∙ end_is all ∙ ap (λ bs. 1 + count_by is_line_feed (take most_bytes bs)) w.passed.whole)

  -- what was taken is what was passed over, and what is held
  taken_with : (bytes : List ℕ) (line : ℕ) → place.passed ≤ most_bytes → length place.held ≤ 65536 → rest ≡ place.held ++ (if place.ended then [] else bytes) → line ≡ place.line → TakesUpTo all (Some bytes) line
  taken_with bytes line bound held e named =
      let front = w.passed.front in
      let more = (if place.ended then [] else bytes) in
      let n = length (front ++ place.held) - 65536 in
      let inside : n ≤ length front = omega (arith, length-append front place.held, held) in record {
        taken = front ++ place.held;
        rest = more;
        whole = w.passed.whole ∙ ap (λ r. front ++ r) e ∙ sym (append_assoc front place.held more);
        has_rest = by_end place.ended refl;
        within = below _ _ _ line (ap (λ bs. count_by is_line_feed (take n bs)) w.passed.whole ∙ ap (count_by is_line_feed) (take-append-le n front rest inside))
            (feeds-take front n) (named ∙ line_of_place bound);
      }
    where
      by_end : (b : Bool) → place.ended ≡ b → (Some bytes ≡ Some (if place.ended then [] else bytes)) ⊎ ((if place.ended then [] else bytes) ≡ [])
      by_end true e = inr (ap (λ c. if c then [] else bytes) e)
      by_end false e = inl (sym (ap (λ c. Some (if c then [] else bytes)) e))

  pub takes_up_to : (left : Option (List ℕ)) (line : ℕ) → place.passed ≤ most_bytes → length place.held ≤ 65536 → ahead place left ≡ Some rest → line ≡ place.line → TakesUpTo all left line
  takes_up_to None line bound held e named = cc e
  takes_up_to (Some bytes) line bound held e named =
      let f : rest ≡ place.held ++ (if place.ended then [] else bytes) = cc e in taken_with bytes line bound held f named

-- ---- By the verdict

pub taken_by : (v : Verdict) (n : ℕ) (p q : Place) (a ta b tb : List ℕ) (left others : Option (List ℕ)) → StandsNamed v (at n p q) a ta b tb → ahead p left ≡ Some ta → ahead q others ≡ Some tb
    → p.passed ≤ most_bytes → length p.held ≤ 65536 → q.passed ≤ most_bytes → length q.held ≤ 65536 → TakenBy v a b left others
taken_by (Accepted queries) n p q a ta b tb left others s e f bound held bounded holds = tt
taken_by (Refused Interaction line rule) n p q a ta b tb left others s e f bound held bounded holds = takes_up_to a ta p s.0 left line bound held e s.1
taken_by (Refused Proof line rule) n p q a ta b tb left others s e f bound held bounded holds = takes_up_to b tb q s.0 others line bounded holds f s.1

-- a header is broken at the line at which the window stands
pub interaction_broken : (name : List ℕ) (r : Rule) (q : Place) (told left others : Option (List ℕ)) (a b : List ℕ) (v : Verdict) → v ≡ Refused Interaction q.line r
    → WhereTold told (ahead q left) (λ t u. PassesHeader name (Some r) t q u) → told ≡ Some a → q.passed ≤ most_bytes → length q.held ≤ 65536 → TakenBy v a b left others
interaction_broken name r q told left others a b v e h is bound held = let k = to_come_told told (ahead q left) (λ t u. PassesHeader name (Some r) t q u) h a is in
    subst (λ u. TakenBy u a b left others) (sym e) (takes_up_to a k.0 q k.2.1 left q.line bound held k.1 refl)

pub proof_broken : (name : List ℕ) (r : Rule) (q : Place) (told left others : Option (List ℕ)) (a b : List ℕ) (v : Verdict) → v ≡ Refused Proof q.line r
    → WhereTold told (ahead q others) (λ t u. PassesHeader name (Some r) t q u) → told ≡ Some b → q.passed ≤ most_bytes → length q.held ≤ 65536 → TakenBy v a b left others
proof_broken name r q told left others a b v e h is bound held = let k = to_come_told told (ahead q others) (λ t u. PassesHeader name (Some r) t q u) h b is in
    subst (λ u. TakenBy u a b left others) (sym e) (takes_up_to b k.0 q k.2.1 others q.line bound held k.1 refl)

-- the verdict is known of what both sources have left
module _ {S : Type 0} (form : ProofForm S) (v : Verdict) where
  pub known_taken : (at : Position) (told other left others : Option (List ℕ)) (a b : List ℕ) → BothTold told (ahead at.interaction left) other (ahead at.proof others) (IsVerdictOf form v at) → told ≡ Some a → other ≡ Some b
      → at.interaction.passed ≤ most_bytes → length at.interaction.held ≤ 65536 → at.proof.passed ≤ most_bytes → length at.proof.held ≤ 65536 → TakenBy v a b left others
  known_taken at told other left others a b h e f bound held bounded holds =
      let k = both_known told (ahead at.interaction left) other (ahead at.proof others) (IsVerdictOf form v at) h a b e f in
      taken_by v at.queries at.interaction at.proof a k.interaction b k.proof left others k.holds.named k.interaction_told k.proof_told bound held bounded holds

  pub known_verdict : (at : Position) (told t other u : Option (List ℕ)) (a b : List ℕ) → BothTold told t other u (IsVerdictOf form v at) → told ≡ Some a → other ≡ Some b → v ≡ verdict_by form a b
  known_verdict at told t other u a b h e f = (both_known told t other u (IsVerdictOf form v at) h a b e f).holds.is

  -- the window over the proof is where it was
  pub proof_stays : (at : Position) (p : Place) (told t other others : Option (List ℕ)) → at.proof ≡ p → BothTold told t other (ahead p others) (IsVerdictOf form v at) → BothTold told t other (ahead at.proof others) (IsVerdictOf form v at)
  proof_stays at p told t other others e h = subst (λ q. BothTold told t other (ahead q others) (IsVerdictOf form v at)) (sym e) h
