-- What a look holds of the next word, and of a line's end.
use Rattle.std.proofs.Common.{◌≡◌, ℕ, zero, suc, ◌+◌, ◌<◌, ◌≤◌, true, false, List, [], ◌∷◌, length, take, drop, Ok, if◌then◌else◌, refl, sym, ap, ◌∙◌, subst, arith, add-zero, length-take, length-drop, eqb-true}
use Rattle.std.proofs.lemmas.Bool.{false≢true}
use Rattle.std.proofs.lemmas.List.{drop-take, nil_from_length}
use Rattle.std.proofs.lemmas.List.Sums.{prefix_len-le-length}
use Rattle.std.specs.List.{prefix_len}
use Rattle.session_rules.specs.Lines.{is_nil, is_blank, most_bytes}
use Rattle.slice_tokens.specs.declared.window.Standing.TheVariants.{Content}
use Rattle.slice_tokens.specs.Place.{Place, room}
use Rattle.slice_tokens.specs.Calls.{begins_line_feed, stands_in_content, at_line_end}
use Rattle.slice_tokens.specs.Held.{passed_over, is_word_byte, readable, blanks, word_len, Holds}
use Rattle.slice_tokens.proofs.Places.{Fails, fails_prefix, looked, looked_bounds}
use Rattle.slice_tokens.proofs.Finding.{line_feed_left}

-- what may be read behind the blanks
pub looked_readable : (p : Place) → p.passed ≤ most_bytes → readable (looked p) ≡ drop (blanks p) (readable p)
looked_readable p h =
    let bounds = looked_bounds p h in
    let sum : room p ≡ blanks p + room (looked p) = omega arith in
    sym (drop-take (blanks p) (room (looked p)) p.held) ∙ ap (λ k. drop (blanks p) (take k p.held)) (sym sum)

-- the word is a part of what is held
pub word_inside : (p : Place) → p.passed ≤ most_bytes → (word_len p ≤ length (looked p).held) × (word_len p ≤ room (looked p))
word_inside p h =
    let less = prefix_len-le-length is_word_byte (drop (blanks p) (readable p)) in
    let l = length-take (room p) p.held in
    let d = length-drop (blanks p) (readable p) in
    let e = length-drop (blanks p) p.held in
    (omega arith, omega arith)

-- ---- at a line's end

-- in a content line, as a test of what is held
at_end_is : (p : Place) → p.standing ≡ Content → at_line_end p ≡ (if is_nil p.held then p.ended else begins_line_feed (readable p))
at_end_is p e = ap (λ st. if stands_in_content st then (if is_nil p.held then p.ended else begins_line_feed (readable p)) else true) e

begins_at : (r : List ℕ) → 0 < length r → Fails is_word_byte r → Fails is_blank r → begins_line_feed r ≡ true
begins_at [] some w b = absurd (omega arith)
begins_at (y ∷ r) some w b = line_feed_left y w b

holds_some : (xs : List ℕ) (n : ℕ) → 0 < length (take n xs) → is_nil xs ≡ false
holds_some [] n some = absurd (omega (arith, length-take {A = ℕ} n []))
holds_some (x ∷ xs) n some = refl

-- where the blanks are followed by no word, the line ends there
pub ends_here : (p : Place) → p.passed ≤ most_bytes → p.standing ≡ Content → word_len p ≡ 0 → blanks p < length (readable p) → at_line_end (looked p) ≡ true
ends_here p h e alone inside =
    let r = drop (blanks p) (readable p) in
    let seen = looked_readable p h in
    let some : 0 < length r = omega (arith, length-drop (blanks p) (readable p)) in
    let no_word : Fails is_word_byte r = subst (λ k. Fails is_word_byte (drop k r)) alone (fails_prefix is_word_byte r) in
    at_end_is (looked p) e
    ∙ ap (λ q. if q then p.ended else begins_line_feed (readable (looked p))) (holds_some (looked p).held (room (looked p)) (omega (arith, ap length seen)))
    ∙ ap begins_line_feed seen ∙ begins_at r some no_word (fails_prefix is_blank (readable p))

-- where nothing follows and the stream has ended, the line ends too
pub ends_last : (p : Place) → p.standing ≡ Content → p.held ≡ [] → p.ended ≡ true → at_line_end p ≡ true
ends_last p e none ended = at_end_is p e ∙ ap (λ l. if is_nil l then p.ended else begins_line_feed (take (room p) l)) none ∙ ended

-- what is held at a line's end: nothing, and the stream has ended; or the line feed
pub record EndHeld (p : Place) : Type 0 where
  pub blanks : blanks p ≡ 0
  pub word : word_len p ≡ 0
  pub none : length (readable p) ≡ 0 → p.ended ≡ true

-- a line feed has no blank and no word before it
pub no_word : (r : List ℕ) → begins_line_feed r ≡ true → (prefix_len is_blank r ≡ 0) × (prefix_len is_word_byte (drop (prefix_len is_blank r) r) ≡ 0) × (0 < length r)
no_word [] h = absurd (false≢true h)
no_word (y ∷ r) h =
    let feed : y ≡ 10 = eqb-true y 10 h in
    (ap (λ k. prefix_len is_blank (k ∷ r)) feed, ap (λ k. prefix_len is_word_byte (drop (prefix_len is_blank (k ∷ r)) (k ∷ r))) feed, omega arith)

pub end_held : (p : Place) → p.standing ≡ Content → at_line_end p ≡ true → EndHeld p
end_held p e h = by_held p.held refl
  where
    by_held : (l : List ℕ) → p.held ≡ l → EndHeld p
    by_held [] f =
        let nothing : readable p ≡ [] = nil_from_length (readable p) (omega (arith, length-take (room p) p.held, ap length f)) in
        record {
          blanks = ap (prefix_len is_blank) nothing;
          word = ap (λ r. prefix_len is_word_byte (drop (prefix_len is_blank r) r)) nothing;
          none = λ _. sym (ap (λ l. if is_nil l then p.ended else begins_line_feed (readable p)) f) ∙ sym (at_end_is p e) ∙ h;
        }
    by_held (x ∷ l) f =
        let begins : begins_line_feed (readable p) ≡ true = sym (ap (λ l. if is_nil l then p.ended else begins_line_feed (readable p)) f) ∙ sym (at_end_is p e) ∙ h in
        let n = no_word (readable p) begins in
        record { blanks = n.0; word = n.1; none = λ z. absurd (omega (arith, n.2)) }

-- nothing is passed over where nothing is there to pass
pub passed_none : (p : Place) → passed_over 0 p ≡ p
passed_none p = ap (λ k. let q : Place = record p { passed = k } in q) (add-zero p.passed)

pub looked_none : (p : Place) → blanks p ≡ 0 → looked p ≡ p
looked_none p e = ap (λ k. passed_over k p) e ∙ passed_none p

-- ---- what `find` holds

pub holds_word : (q : Place) (n : ℕ) → n ≤ 32 → n ≤ length q.held → n ≤ room q → (n ≡ 0 → at_line_end q ≡ true) → Holds q (Ok n)
holds_word q zero short here bound h = h refl
holds_word q (suc n) short here bound h = (short, here, bound)
