-- What the word at the front of some bytes says, as one of a kind.
use Rattle.std.proofs.Common.{◌≡◌, ℕ, zero, suc, ◌+◌, ◌<◌, ◌≤◌, true, false, nat_eq, if◌then◌else◌, List, [], ◌∷◌, length, get_or, take, Some, None, Ok, refl, ap, ◌∙◌, inl, inr, arith, ne_eqb, eqb-true, leb-true}
use Rattle.std.proofs.lemmas.Bool.{and_parts, cases_Bool}
use Rattle.std.specs.List.{list_all, prefix_len}
use Rattle.std.specs.Char.{is_ascii_digit}
use Rattle.lits.specs.declared.LitWord.TheVariants as words
use Rattle.lits.specs.declared.IdWord.TheVariants as ids
use Rattle.lits.specs.Word.{literal_word, id_word, is_number_byte, is_end_byte, IsFront}
use Rattle.slice_tokens.specs.Held.{is_word_byte}
use Rattle.slice_tokens.specs.Front.{IsWordFront}
use Rattle.line_reading.specs.Kinds.{literal_says, id_says, own_id_says}

-- ---- The bytes of a number's word are bytes of words

above_minus : (b : ℕ) → is_number_byte b ≡ true → 45 ≤ b
above_minus b h = elim (cases_Bool (is_ascii_digit b)) [
  | inl q ↦ omega (arith, leb-true 48 b (and_parts _ _ q).0)
  | inr q ↦ let e : nat_eq b 45 ≡ true = rw q at h in omega (arith, eqb-true b 45 e)
]

number_is_word : (b : ℕ) → is_number_byte b ≡ true → is_word_byte b ≡ true
number_is_word b h =
    let above = above_minus b h in
    let space : nat_eq b 32 ≡ false = ne_eqb b 32 (λ e. omega (arith, above)) in
    let tab : nat_eq b 9 ≡ false = ne_eqb b 9 (λ e. omega (arith, above)) in
    let back : nat_eq b 13 ≡ false = ne_eqb b 13 (λ e. omega (arith, above)) in
    let feed : nat_eq b 10 ≡ false = ne_eqb b 10 (λ e. omega (arith, above)) in
    rw (space, tab, back, feed) refl

end_is_no_word : (b : ℕ) → is_end_byte b ≡ true → is_word_byte b ≡ false
end_is_no_word b h = elim (cases_Bool (nat_eq b 32)) [
  | inl q ↦ ap is_word_byte (eqb-true b 32 q)
  | inr q ↦ let e : nat_eq b 10 ≡ true = rw q at h in ap is_word_byte (eqb-true b 10 e)
]

front_len : (bytes : List ℕ) (n : ℕ) → n < length bytes → list_all is_number_byte (take n bytes) ≡ true → is_end_byte (get_or bytes n 0) ≡ true → prefix_len is_word_byte bytes ≡ n
front_len [] n lt h e = absurd (omega arith)
front_len (b ∷ bs) zero lt h e = let no = end_is_no_word b e in ap (λ c. if c then (1 + prefix_len is_word_byte bs) else 0) no
front_len (b ∷ bs) (suc n) lt h e =
    let parts = and_parts _ _ h in
    ap (λ c. if c then (1 + prefix_len is_word_byte bs) else 0) (number_is_word b parts.0) ∙ ap (λ k. 1 + k) (front_len bs n (omega arith) parts.1 e) ∙ (let sum : 1 + n ≡ suc n = omega arith in sum)

pub is_front : (bytes : List ℕ) (n : ℕ) → IsFront bytes n → IsWordFront bytes n
is_front bytes n h = record { some = h.some; short = h.short; within = h.within; word = front_len bytes n h.within h.word h.behind }

above_space : (b : ℕ) → 32 < b → is_word_byte b ≡ true
above_space b h =
    let space : nat_eq b 32 ≡ false = ne_eqb b 32 (λ e. omega (arith, h)) in
    let tab : nat_eq b 9 ≡ false = ne_eqb b 9 (λ e. omega (arith, h)) in
    let back : nat_eq b 13 ≡ false = ne_eqb b 13 (λ e. omega (arith, h)) in
    let feed : nat_eq b 10 ≡ false = ne_eqb b 10 (λ e. omega (arith, h)) in
    rw (space, tab, back, feed) refl

pub single_front : (bytes : List ℕ) → 1 < length bytes → 32 < get_or bytes 0 0 → get_or bytes 1 0 ≡ 32 → IsWordFront bytes 1
single_front [] some a e = absurd (omega arith)
single_front (b ∷ []) some a e = absurd (omega arith)
single_front (b ∷ c ∷ bs) some a e =
    let none : prefix_len is_word_byte (c ∷ bs) ≡ 0 = ap (λ x. prefix_len is_word_byte (x ∷ bs)) e in
    record {
      some = omega arith;
      short = omega arith;
      within = some;
      word = ap (λ t. if t then (1 + prefix_len is_word_byte (c ∷ bs)) else 0) (above_space b a) ∙ ap (λ k. 1 + k) none;
    }

-- ---- The kinds

pub literal_front : (bytes : List ℕ) (n l : ℕ) → IsFront bytes n → literal_word (take n bytes) ≡ words.Value l → IsWordFront bytes n × (literal_says (take n bytes) ≡ Ok (Some l))
unfolding literal_says
literal_front bytes n l h e = (is_front bytes n h, rw e refl)

pub literal_zero : (bytes : List ℕ) → IsFront bytes 1 → literal_word (take 1 bytes) ≡ words.Zero → IsWordFront bytes 1 × (literal_says (take 1 bytes) ≡ Ok None)
unfolding literal_says
literal_zero bytes h e = (is_front bytes 1 h, rw e refl)

pub id_front : (bytes : List ℕ) (n i : ℕ) → IsFront bytes n → id_word (take n bytes) ≡ ids.Value i → IsWordFront bytes n × (id_says (take n bytes) ≡ Ok (Some i))
unfolding id_says
id_front bytes n i h e = (is_front bytes n h, rw e refl)

pub id_zero : (bytes : List ℕ) → IsFront bytes 1 → id_word (take 1 bytes) ≡ ids.Zero → IsWordFront bytes 1 × (id_says (take 1 bytes) ≡ Ok None)
unfolding id_says
id_zero bytes h e = (is_front bytes 1 h, rw e refl)

pub own_id_front : (bytes : List ℕ) (n i : ℕ) → IsFront bytes n → id_word (take n bytes) ≡ ids.Value i → IsWordFront bytes n × (own_id_says (take n bytes) ≡ Ok i)
unfolding own_id_says
own_id_front bytes n i h e = (is_front bytes n h, rw e refl)
