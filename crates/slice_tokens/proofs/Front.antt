-- Taking a word that stands behind one space.
use Rattle.std.proofs.Common.{◌≡◌, ℕ, ◌+◌, ◌<◌, ◌≤◌, Bool, true, false, not, ◌||◌, nat_eq, List, [], ◌∷◌, ◌++◌, length, take, drop, if◌then◌else◌, Option, Some, None, IfSome, refl, sym, ap, ◌∙◌, subst, arith, eqb-true}
use Rattle.std.proofs.Common.{length-take}
use Rattle.std.proofs.Math.Seq.{drop-nil}
use Rattle.std.proofs.lemmas.List.{drop-take}
use Rattle.std.proofs.lemmas.Bool.{and_parts}
use Rattle.std.specs.List.{prefix_len}
use Rattle.session_rules.specs.Lines.{Line, is_blank, is_line_feed, most_bytes}
use Rattle.slice_tokens.specs.declared.window.Standing.{Standing}
use Rattle.slice_tokens.specs.declared.window.Standing.TheVariants.{Start, Content, Comment}
use Rattle.slice_tokens.specs.Place.{Place, WhereTold, ahead, room, present}
use Rattle.slice_tokens.specs.Due.{due, due_word, due_end}
use Rattle.slice_tokens.specs.Calls.{without_first, stands_in_content}
use Rattle.slice_tokens.specs.Held.{passed_over, is_word_byte, readable, blanks, word_len}
use Rattle.slice_tokens.specs.Front.{without_space, behind_space, coming, at_line_feed, IsWordFront, TakesWord}
use Rattle.slice_tokens.proofs.Places.{passed_twice, looked, looked_same, Stands, word_held}
use Rattle.slice_tokens.proofs.Finding.{stands_ended, due_zero, due_some, next_some, word_bounds}
use Rattle.slice_tokens.proofs.LineEnd.{no_word, looked_none}
use Rattle.slice_tokens.proofs.Told.{told_refl, told_step, later_trans}

-- ---- What stands there

of_space : (b : ℕ) (bs : List ℕ) (n : ℕ) (c : Bool) → nat_eq b 32 ≡ c → IsWordFront (if c then bs else []) n → (b ∷ bs) ≡ 32 ∷ (if c then bs else [])
of_space b bs n true e h = ap (λ k. k ∷ bs) (eqb-true b 32 e)
of_space b bs n false e h = absurd (omega (arith, h.within))

of_bytes : (r : List ℕ) (n : ℕ) → IsWordFront (without_space r) n → r ≡ 32 ∷ without_space r
of_bytes [] n h = absurd (omega (arith, h.within))
of_bytes (b ∷ bs) n h = of_space b bs n (nat_eq b 32) refl h

of_standing : (st : Standing) (r : List ℕ) (n : ℕ) → IsWordFront (if stands_in_content st then without_space r else []) n
    → (st ≡ Content) × (r ≡ 32 ∷ (if stands_in_content st then without_space r else []))
of_standing Start r n h = absurd (omega (arith, h.within))
of_standing Content r n h = (refl, of_bytes r n h)
of_standing Comment r n h = absurd (omega (arith, h.within))

no_blank : (s : List ℕ) → 0 < prefix_len is_word_byte s → prefix_len is_blank s ≡ 0
no_blank [] h = refl
no_blank (x ∷ s) h = by_test (is_blank x) refl h
  where
    by_test : (c : Bool) → is_blank x ≡ c → 0 < (if not (c || is_line_feed x) then (1 + prefix_len is_word_byte s) else 0) → (if c then (1 + prefix_len is_blank s) else 0) ≡ 0
    by_test true e h = absurd (omega (arith, h))
    by_test false e h = refl

-- what a look finds are blanks, and then a word at the front of these bytes
pub record Found (p : Place) (n : ℕ) (s : List ℕ) : Type 0 where
  pub standing : p.standing ≡ Content
  pub some : 0 < n
  pub short : n ≤ 32
  pub word : word_len p ≡ n
  pub inside : blanks p + word_len p < length (readable p)
  pub bytes : drop (blanks p) (readable p) ≡ s

one_space : (p : Place) (n : ℕ) → IsWordFront (behind_space p) n → blanks p ≡ 1
one_space p n h =
    let at = of_standing p.standing (readable p) n h in
    ap (prefix_len is_blank) at.1 ∙ ap (λ k. 1 + k) (no_blank (behind_space p) (omega (arith, h.some, h.word)))

found_space : (p : Place) (n : ℕ) → IsWordFront (behind_space p) n → Found p n (behind_space p)
found_space p n h =
    let at = of_standing p.standing (readable p) n h in
    let one = one_space p n h in
    let bytes : drop (blanks p) (readable p) ≡ behind_space p = ap (λ k. drop k (readable p)) one ∙ ap (drop 1) at.1 in
    let word : word_len p ≡ n = ap (prefix_len is_word_byte) bytes ∙ h.word in
    record { standing = at.0; some = h.some; short = h.short; word = word; inside = omega (arith, ap length at.1, one, word, h.within); bytes = bytes }

coming_at : (st : Standing) (r : List ℕ) (n : ℕ) → IsWordFront (if stands_in_content st then r else []) n → (st ≡ Content) × (r ≡ (if stands_in_content st then r else []))
coming_at Start r n h = absurd (omega (arith, h.within))
coming_at Content r n h = (refl, refl)
coming_at Comment r n h = absurd (omega (arith, h.within))

no_space : (p : Place) (n : ℕ) → IsWordFront (coming p) n → blanks p ≡ 0
no_space p n h = ap (prefix_len is_blank) (coming_at p.standing (readable p) n h).1 ∙ no_blank (coming p) (omega (arith, h.some, h.word))

found_first : (p : Place) (n : ℕ) → IsWordFront (coming p) n → Found p n (coming p)
found_first p n h =
    let at = coming_at p.standing (readable p) n h in
    let none = no_space p n h in
    let bytes : drop (blanks p) (readable p) ≡ coming p = ap (λ k. drop k (readable p)) none ∙ at.1 in
    let word : word_len p ≡ n = ap (prefix_len is_word_byte) bytes ∙ h.word in
    record { standing = at.0; some = h.some; short = h.short; word = word; inside = omega (arith, ap length at.1, none, word, h.within); bytes = bytes }

-- ---- Taking it

space_passed : (p : Place) (n : ℕ) → blanks p ≡ 1 → passed_over n (looked p) ≡ passed_over (n + 1) p
space_passed p n e =
    let both : 1 + n ≡ n + 1 = omega arith in
    ap (λ k. passed_over n (passed_over k p)) e ∙ passed_twice p 1 n ∙ ap (λ k. passed_over k p) both

takes : (p : Place) (n : ℕ) (s b : List ℕ) → p.passed ≤ most_bytes → Found p n s → TakesWord (take n s) p (p.held ++ b) (passed_over n (looked p)) (drop n (drop (blanks p) p.held) ++ b)
takes p n s b bound f =
    let u = drop (blanks p) p.held ++ b in
    let bounds = word_bounds p bound (omega (arith, f.inside)) in
    let stands : Stands (looked p) u n = subst (Stands (looked p) u) f.word (stands_ended p b bound f.inside) in
    let same = looked_same p b bound f.standing in
    let next = next_some (looked p) b n f.standing f.some (omega (arith, bounds.0, f.word)) (omega (arith, bounds.1, f.word)) stands in
    let held : take n (drop (blanks p) p.held) ≡ take n s =
    ap (λ k. take k (drop (blanks p) p.held)) (sym f.word) ∙ word_held p (omega (arith, f.inside)) ∙ ap (λ k. take k (drop (blanks p) (readable p))) f.word ∙ ap (take n) f.bytes in
    record {
      due = ap due (sym same.present) ∙ due_some (looked p) u n f.standing f.some f.short stands ∙ ap due_word held;
      present = next.present ∙ ap (λ (l : Line). let k : Line = record l { words = without_first l.words } in k) same.present;
      behind = later_trans p (looked p) (passed_over n (looked p)) (p.held ++ b) u (drop n (drop (blanks p) p.held) ++ b) same.behind next.behind;
    }

found_told : (p r : Place) (n : ℕ) (s : List ℕ) (a : Option (List ℕ)) → p.passed ≤ most_bytes → Found p n s → passed_over n (looked p) ≡ r
    → WhereTold (ahead p a) (ahead r a) (λ t u. TakesWord (take n s) p t r u)
found_told p r n s a bound f e =
    let q = passed_over n (looked p) in
    subst (λ z. WhereTold (ahead p a) (ahead z a) (λ t u. TakesWord (take n s) p t z u)) e
    (told_step (ahead p a) a p q (λ t u. t ≡ u) (λ u v. TakesWord (take n s) p u q v) (λ t v. TakesWord (take n s) p t q v) refl (told_refl (ahead p a) (λ t u. t ≡ u) (λ t. refl))
    (λ b _. takes p n s b bound f) (λ t u v h k. subst (λ x. TakesWord (take n s) p x q v) (sym h) k))

pub takes_told : (p : Place) (n : ℕ) (a : Option (List ℕ)) → p.passed ≤ most_bytes → IsWordFront (behind_space p) n
    → WhereTold (ahead p a) (ahead (passed_over (n + 1) p) a) (λ t u. TakesWord (take n (behind_space p)) p t (passed_over (n + 1) p) u)
takes_told p n a bound h = found_told p (passed_over (n + 1) p) n (behind_space p) a bound (found_space p n h) (space_passed p n (one_space p n h))

pub first_told : (p : Place) (n : ℕ) (a : Option (List ℕ)) → p.passed ≤ most_bytes → IsWordFront (coming p) n
    → WhereTold (ahead p a) (ahead (passed_over n p) a) (λ t u. TakesWord (take n (coming p)) p t (passed_over n p) u)
first_told p n a bound h = found_told p (passed_over n p) n (coming p) a bound (found_first p n h) (ap (passed_over n) (looked_none p (no_space p n h)))

-- ---- Several words

bytes_coming : (st : Standing) (r : List ℕ) (n : ℕ) → n ≤ length (if stands_in_content st then r else []) → n ≤ length r
bytes_coming Start r n h = omega (arith, h)
bytes_coming Content r n h = h
bytes_coming Comment r n h = omega (arith, h)

-- the bytes that come are held, and end before the bound
pub coming_bounds : (p : Place) (n : ℕ) → p.passed ≤ most_bytes → n ≤ length (coming p) → (n ≤ length p.held) × (p.passed + n ≤ most_bytes)
coming_bounds p n bound h =
    let within = bytes_coming p.standing (readable p) n h in
    let long = length-take (room p) p.held in
    (omega (arith, within, long), omega (arith, within, long, bound))

-- what comes behind the first m bytes
coming_behind : (st : Standing) (r s : List ℕ) (m : ℕ) → (m ≤ length r → s ≡ drop m r) → m ≤ length (if stands_in_content st then r else []) → (if stands_in_content st then s else []) ≡ drop m (if stands_in_content st then r else [])
coming_behind Start r s m same h = sym (drop-nil m)
coming_behind Content r s m same h = same h
coming_behind Comment r s m same h = sym (drop-nil m)

pub coming_passed : (p : Place) (m : ℕ) → p.passed ≤ most_bytes → m ≤ length (coming p) → coming (passed_over m p) ≡ drop m (coming p)
coming_passed p m bound h = coming_behind p.standing (readable p) (readable (passed_over m p)) m by_room h
  where
    by_room : m ≤ length (readable p) → readable (passed_over m p) ≡ drop m (readable p)
    by_room within =
        let less : room (passed_over m p) + m ≡ room p = omega (arith, length-take (room p) p.held, within, bound) in
        let more : m + room (passed_over m p) ≡ room p = omega (arith, less) in
        sym (drop-take m (room (passed_over m p)) p.held) ∙ ap (λ k. drop m (take k p.held)) more

-- the bytes behind a space are those that come, without it
spaced : (st : Standing) (r : List ℕ) → (if stands_in_content st then without_space r else []) ≡ without_space (if stands_in_content st then r else [])
spaced Start r = refl
spaced Content r = refl
spaced Comment r = refl

pub coming_space : (p : Place) → behind_space p ≡ without_space (coming p)
coming_space p = spaced p.standing (readable p)

-- ---- A line feed

content_from : (st : Standing) → stands_in_content st ≡ true → st ≡ Content
content_from Start e = cc
content_from Content e = refl
content_from Comment e = cc

pub end_due : (p : Place) (b : List ℕ) → p.passed ≤ most_bytes → at_line_feed p ≡ true → due (present p (p.held ++ b)) ≡ due_end
end_due p b bound h =
    let parts = and_parts _ _ h in
    let content = content_from p.standing parts.0 in
    let none = no_word (readable p) parts.1 in
    let stands : Stands (looked p) (drop (blanks p) p.held ++ b) 0 = subst (Stands (looked p) (drop (blanks p) p.held ++ b)) none.1 (stands_ended p b bound (omega (arith, none.0, none.1, none.2))) in
    let same = looked_same p b bound content in
    ap due (sym same.present) ∙ due_zero (looked p) (drop (blanks p) p.held ++ b) content stands

pub end_told : (p : Place) (a : Option (List ℕ)) → p.passed ≤ most_bytes → at_line_feed p ≡ true → IfSome (ahead p a) (λ t. due (present p t) ≡ due_end)
end_told p None bound h = tt
end_told p (Some x) bound h = end_due p _ bound h
