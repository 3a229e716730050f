-- Literals that stand one after another, and the parts of a line that they are.
use Rattle.std.proofs.Common.{◌≡◌, ◌≢◌, ℕ, suc, ◌+◌, ◌-◌, ◌<◌, ◌≤◌, Bool, true, false, not, nat_eq, nat_lt, nat_le, if◌then◌else◌, List, [], ◌∷◌, ◌++◌, length, get_or, take, drop, Option, Some, None, Ok, refl, sym, ap, ◌∙◌, subst, append_assoc, append-nil, length-drop, length-take, eqb-true, eq-eqb, inl, inr, arith}
use Rattle.std.proofs.lemmas.Bool.{and_parts, cases_Bool}
use Rattle.std.proofs.lemmas.List.{drop-drop, take_rest, get_or-take}
use Rattle.std.proofs.Math.Seq.{take-suc, drop-cons}
use Rattle.std.proofs.Math.ListN.{drop_of_length-le}
use Rattle.std.specs.Bool.{OnTrue}
use Rattle.std.specs.declared.result.Result.{Result}
use Rattle.lits.specs.declared.LitWord.TheVariants as literals
use Rattle.lits.specs.Literal.{max_var}
use Rattle.lits.specs.Word.{literal_word, literal_of, signed, magnitude, starts_with_minus, is_zero, IsFront}
use Rattle.lits.specs.declared.LitWord.{LitWord}
use Rattle.session_rules.specs.declared.Rule.{Rule}
use Rattle.session_rules.specs.declared.Rule.TheVariants as rules
use Rattle.session_rules.specs.Lines.{without_cut_word, most_bytes}
use Rattle.session_rules.specs.Reading.{literal_list}
use Rattle.slice_tokens.specs.Place.{Place, WhereTold, ahead, present}
use Rattle.slice_tokens.specs.Due.{due_word, due_long, due_of, known_words}
use Rattle.slice_tokens.specs.Calls.{without_first}
use Rattle.slice_tokens.specs.Held.{passed_over}
use Rattle.slice_tokens.specs.Front.{without_space, behind_space, coming, IsWordFront, TakesWord}
use Rattle.slice_tokens.proofs.LineEnd.{passed_none}
use Rattle.slice_tokens.proofs.Front.{takes_told, coming_bounds, coming_passed, coming_space}
use Rattle.slice_tokens.proofs.Places.{passed_twice}
use Rattle.line_reading.specs.Parts.{ReadsPart, word_part, word_or_fault}
use Rattle.line_reading.specs.Kinds.{literal_says, literal_or_rule}
use Rattle.line_reading.specs.Runs.{begins_with_space, IsSpaced, IsRun, IsWholeRun}
use Rattle.line_reading.proofs.Fronts.{is_front, literal_front, literal_zero}
use Rattle.line_reading.proofs.Joined.{told_then, told_at_start}
use Rattle.line_reading.proofs.Collecting.{literal_list_is, Collects, Collects-start, collects_more, collects_last}

pub on_true : (b : Bool) (P Q : Type 0) → (P → Q) → OnTrue b P → OnTrue b Q
on_true true P Q f h = f h
on_true false P Q f h = tt

-- ---- Behind a space

behind : (bytes : List ℕ) → begins_with_space bytes ≡ true → without_space bytes ≡ drop 1 bytes
behind [] h = cc h
behind (b ∷ bs) h = ap (λ c. if c then bs else []) h

pub spaced_literal : (bytes : List ℕ) (n l : ℕ) → begins_with_space bytes ≡ true → IsFront (drop 1 bytes) n → literal_word (take n (drop 1 bytes)) ≡ literals.Value l → IsSpaced (Some l) bytes n
spaced_literal bytes n l h front says =
    let e = behind bytes h in
    record { front = subst (λ r. IsFront r n) (sym e) front; says = ap (λ r. literal_says (take n r)) e ∙ (literal_front (drop 1 bytes) n l front says).1 }

pub spaced_zero : (bytes : List ℕ) → begins_with_space bytes ≡ true → IsFront (drop 1 bytes) 1 → literal_word (take 1 (drop 1 bytes)) ≡ literals.Zero → IsSpaced None bytes 1
spaced_zero bytes h front says =
    let e = behind bytes h in
    record { front = subst (λ r. IsFront r 1) (sym e) front; says = ap (λ r. literal_says (take 1 r)) e ∙ (literal_zero (drop 1 bytes) front says).1 }

-- ---- And nowhere else

said_literal : (w : List ℕ) (l : ℕ) → literal_says w ≡ Ok (Some l) → literal_word w ≡ literals.Value l
unfolding literal_says
said_literal w l h = by_word (literal_word w) h
  where
    by_word : (o : LitWord) → literal_or_rule o ≡ Ok (Some l) → o ≡ literals.Value l
    by_word literals.Zero h = cc h
    by_word (literals.Value k) h = let same : k ≡ l = cc h in ap literals.Value same
    by_word literals.NotNumber h = cc h
    by_word literals.OutOfRange h = cc h

said_zero : (w : List ℕ) → literal_says w ≡ Ok None → literal_word w ≡ literals.Zero
unfolding literal_says
said_zero w h = by_word (literal_word w) h
  where
    by_word : (o : LitWord) → literal_or_rule o ≡ Ok None → o ≡ literals.Zero
    by_word literals.Zero h = refl
    by_word (literals.Value k) h = cc h
    by_word literals.NotNumber h = cc h
    by_word literals.OutOfRange h = cc h

zero_word : (w : List ℕ) → literal_word w ≡ literals.Zero → is_zero w ≡ true
unfolding literal_word
zero_word w h = by_test (is_zero w) refl h
  where
    by_size : (b : Bool) (o : Option ℕ) → literal_of b o ≡ literals.Zero → ⊥
    by_size b None h = cc h
    by_size b (Some v) h = elim (cases_Bool (nat_le v max_var)) [
      | inl q ↦ let f : literals.Value (signed b v) ≡ literals.Zero = rw q at h in cc f
      | inr q ↦ let f : literals.OutOfRange ≡ literals.Zero = rw q at h in cc f
    ]

    by_test : (c : Bool) → is_zero w ≡ c → (if c then literals.Zero else literal_of (starts_with_minus w) (magnitude w)) ≡ literals.Zero → is_zero w ≡ true
    by_test true e h = e
    by_test false e h = absurd (by_size (starts_with_minus w) (magnitude w) h)

pub no_literal : (bytes : List ℕ) → begins_with_space bytes ≡ true → ((n l : ℕ) → IsFront (drop 1 bytes) n → literal_word (take n (drop 1 bytes)) ≡ literals.Value l → ⊥) → (n l : ℕ) → IsSpaced (Some l) bytes n → ⊥
no_literal bytes h none n l s =
    let e = behind bytes h in
    none n l (subst (λ r. IsFront r n) e s.front) (said_literal (take n (drop 1 bytes)) l (ap (λ r. literal_says (take n r)) (sym e) ∙ s.says))

pub no_zero : (bytes : List ℕ) → begins_with_space bytes ≡ true → (IsFront (drop 1 bytes) 1 → get_or (drop 1 bytes) 0 0 ≢ 48) → (n : ℕ) → IsSpaced None bytes n → ⊥
no_zero bytes h none n s =
    let e = behind bytes h in
    let b = drop 1 bytes in
    let front : IsFront b n = subst (λ r. IsFront r n) e s.front in
    let zero = and_parts _ _ (zero_word (take n b) (said_zero (take n b) (ap (λ r. literal_says (take n r)) (sym e) ∙ s.says))) in
    let one : n ≡ 1 = omega (arith, eqb-true (length (take n b)) 1 zero.1, length-take n b, front.within) in
    let first : get_or b 0 0 ≡ 48 = sym (get_or-take n b 0 0 front.some) ∙ eqb-true (get_or (take n b) 0 0) 48 zero.0 in
    none (subst (IsFront b) one front) first

shorter : (bytes : List ℕ) (n : ℕ) → n < length (without_space bytes) → n + 1 < length bytes
shorter [] n h = absurd (omega (arith, h))
shorter (b ∷ bs) n h = by_test (nat_eq b 32) h
  where
    by_test : (c : Bool) → n < length (if c then bs else []) → n + 1 < length (b ∷ bs)
    by_test true h = omega (arith, h)
    by_test false h = absurd (omega (arith, h))

-- a word and its space are fewer than the bytes
pub spaced_within : (said : Option ℕ) (bytes : List ℕ) (n : ℕ) → IsSpaced said bytes n → n + 1 < length bytes
spaced_within said bytes n h = shorter bytes n h.front.within

-- ---- One literal more

pub run_push : (ls bytes : List ℕ) (n m l : ℕ) → IsRun ls bytes n → IsSpaced (Some l) (drop n bytes) m → IsRun (ls ++ l ∷ []) bytes (n + (m + 1))
run_push [] bytes n m l e h = (m, 0, subst (λ k. IsSpaced (Some l) (drop k bytes) m) e h, refl, omega (arith, e))
run_push (x ∷ xs) bytes n m l r h =
    let here : drop n bytes ≡ drop r.1 (drop (r.0 + 1) bytes) = ap (λ k. drop k bytes) r.4 ∙ sym (drop-drop r.1 (r.0 + 1) bytes) in
    (r.0, r.1 + (m + 1), r.2, run_push xs (drop (r.0 + 1) bytes) r.1 m l r.3 (subst (λ b. IsSpaced (Some l) b m) here h), omega (arith, r.4))

-- what the loop over a run keeps: these literals so far
pub record Pushing (bytes old now : List ℕ) (at : ℕ) : Type 0 where
  pub ls : List ℕ
  pub run : IsRun ls bytes at
  pub lits : now ≡ old ++ ls
  pub within : at ≤ length bytes

-- the bytes from a place on, as a slice gives them
rest_at : (bytes : List ℕ) (at : ℕ) (said : Option ℕ) (m : ℕ) → IsSpaced said (take (length bytes - at) (drop at bytes)) m → IsSpaced said (drop at bytes) m
rest_at bytes at said m h = subst (λ b. IsSpaced said b m) (take_rest bytes at) h

pub pushing-more : (bytes old now next : List ℕ) (at m l : ℕ) → Pushing bytes old now at → IsSpaced (Some l) (take (length bytes - at) (drop at bytes)) m → next ≡ now ++ l ∷ [] → Pushing bytes old next (at + (m + 1))
pushing-more bytes old now next at m l p h e =
    let here = rest_at bytes at (Some l) m h in
    record {
      ls = p.ls ++ l ∷ [];
      run = run_push p.ls bytes at m l p.run here;
      lits = e ∙ ap (λ k. k ++ l ∷ []) p.lits ∙ append_assoc old p.ls (l ∷ []);
      within = omega (arith, p.within, spaced_within (Some l) (drop at bytes) m here, length-drop at bytes);
    }

-- ---- Given literals

-- two numbers that a test of their difference says to be the same, and two that it says to differ
pub same_as : (a b : ℕ) (r : Bool) → r ≡ not (nat_eq a b) → r ≡ false → a ≡ b
same_as a b r e f = elim (cases_Bool (nat_eq a b)) [
  | inl q ↦ eqb-true a b q
  | inr q ↦ let g : r ≡ true = e ∙ ap not q in cc (f, g)
]

pub other_than : (a b : ℕ) (r : Bool) → r ≡ not (nat_eq a b) → r ≡ true → a ≡ b → ⊥
other_than a b r e f same = let g : r ≡ false = e ∙ ap not (eq-eqb a b same) in cc (f, g)

-- the literals and the 0 at their list's end stand in front of some bytes
pub record IsRest (ls bytes : List ℕ) : Type 0 where
  pub count : ℕ
  pub run : IsRun ls bytes count
  pub zero : IsSpaced None (drop count bytes) 1

-- one word alone stands in front
spaced_unique : (bytes : List ℕ) (n m k l : ℕ) → IsSpaced (Some k) bytes n → IsSpaced (Some l) bytes m → (n ≡ m) × (k ≡ l)
spaced_unique bytes n m k l h g =
    let same : n ≡ m = sym (is_front (without_space bytes) n h.front).word ∙ (is_front (without_space bytes) m g.front).word in
    let both : (let o : Result (Option ℕ) Rule = Ok (Some k) in o) ≡ Ok (Some l) = sym h.says ∙ ap (λ z. literal_says (take z (without_space bytes))) same ∙ g.says in
    (same, cc both)

rest_first : (y : ℕ) (ys bytes : List ℕ) → IsRest (y ∷ ys) bytes → (m : ℕ) × IsSpaced (Some y) bytes m × IsRest ys (drop (m + 1) bytes)
rest_first y ys bytes r =
    let u = r.run in
    (u.0, u.2, record { count = u.1; run = u.3; zero = subst (λ b. IsSpaced None b 1) (ap (λ k. drop k bytes) u.4 ∙ sym (drop-drop u.1 (u.0 + 1) bytes)) r.zero })

module _ (bytes ls : List ℕ) (i x : ℕ) (lt : i < length ls) where
  next_is : drop i ls ≡ get_or ls i x ∷ drop (i + 1) ls
  next_is = drop-cons ls i x lt ∙ ap (λ k. get_or ls i x ∷ drop k ls) (let one : suc i ≡ i + 1 = omega arith in one)

  pub rest_none : (at : ℕ) → ((n l : ℕ) → IsSpaced (Some l) (drop at bytes) n → ⊥) → IsRest (drop i ls) (drop at bytes) → ⊥
  rest_none at none r = let u = rest_first (get_or ls i x) (drop (i + 1) ls) (drop at bytes) (subst (λ k. IsRest k (drop at bytes)) next_is r) in none u.0 (get_or ls i x) u.1

  pub rest_found : (at m l : ℕ) → IsSpaced (Some l) (drop at bytes) m → IsRest (drop i ls) (drop at bytes) → (l ≡ get_or ls i x) × IsRest (drop (i + 1) ls) (drop (at + (m + 1)) bytes)
  rest_found at m l h r =
      let u = rest_first (get_or ls i x) (drop (i + 1) ls) (drop at bytes) (subst (λ k. IsRest k (drop at bytes)) next_is r) in
      let one = spaced_unique (drop at bytes) m u.0 l (get_or ls i x) h u.1 in
      let here : drop (u.0 + 1) (drop at bytes) ≡ drop (at + (m + 1)) bytes = ap (λ k. drop (k + 1) (drop at bytes)) (sym one.0) ∙ drop-drop (m + 1) at bytes in
      (one.1, subst (IsRest (drop (i + 1) ls)) here u.2)

-- what the loop over given literals keeps: the first i of them are a run, and the others stand behind it, if all stand there
pub record Matching (bytes ls : List ℕ) (i at : ℕ) : Type 0 where
  pub run : IsRun (take i ls) bytes at
  pub within : at ≤ length bytes
  pub only : (n : ℕ) → IsWholeRun ls bytes n → IsRest (drop i ls) (drop at bytes)

pub matching-more : (bytes ls : List ℕ) (i at m l x : ℕ) → i < length ls → get_or ls i x ≡ l → Matching bytes ls i at → IsSpaced (Some l) (take (length bytes - at) (drop at bytes)) m → Matching bytes ls (i + 1) (at + (m + 1))
matching-more bytes ls i at m l x lt e p h =
    let here = rest_at bytes at (Some l) m h in
    let more : take (i + 1) ls ≡ take i ls ++ l ∷ [] = ap (λ k. take k ls) (let one : i + 1 ≡ suc i = omega arith in one) ∙ take-suc ls i x lt ∙ ap (λ z. take i ls ++ z ∷ []) e in
    record {
      run = subst (λ k. IsRun k bytes (at + (m + 1))) (sym more) (run_push (take i ls) bytes at m l p.run here);
      within = omega (arith, p.within, spaced_within (Some l) (drop at bytes) m here, length-drop at bytes);
      only = λ n w. (rest_found bytes ls i x lt at m l here (p.only n w)).1;
    }

-- where another word stands, or none, not all of them stand there
pub matching-none : (bytes ls : List ℕ) (i at : ℕ) → i < length ls → Matching bytes ls i at → ((n l : ℕ) → IsSpaced (Some l) (take (length bytes - at) (drop at bytes)) n → ⊥) → (n : ℕ) → IsWholeRun ls bytes n → ⊥
matching-none bytes ls i at lt p none n w = rest_none bytes ls i 0 lt at (subst (λ b. (n l : ℕ) → IsSpaced (Some l) b n → ⊥) (take_rest bytes at) none) (p.only n w)

pub matching-other : (bytes ls : List ℕ) (i at m l x : ℕ) → i < length ls → (l ≡ get_or ls i x → ⊥) → Matching bytes ls i at → IsSpaced (Some l) (take (length bytes - at) (drop at bytes)) m → (n : ℕ) → IsWholeRun ls bytes n → ⊥
matching-other bytes ls i at m l x lt other p h n w = other (rest_found bytes ls i x lt at m l (rest_at bytes at (Some l) m h) (p.only n w)).0

pub matching-open : (bytes ls : List ℕ) (i at : ℕ) → length ls ≤ i → Matching bytes ls i at → ((n : ℕ) → IsSpaced None (take (length bytes - at) (drop at bytes)) n → ⊥) → (n : ℕ) → IsWholeRun ls bytes n → ⊥
matching-open bytes ls i at all p none n w =
    let r = subst (λ k. IsRest k (drop at bytes)) (drop_of_length-le ls all) (p.only n w) in
    none 1 (subst (λ b. IsSpaced None b 1) (ap (λ k. drop k (drop at bytes)) r.run ∙ sym (take_rest bytes at)) r.zero)

-- ---- What is read

module _ {A : Type 0} (says : List ℕ → Result A Rule) (none long : Rule) (w : List ℕ) (x : A) (said : says w ≡ Ok x) where
  first_word : (cut : Bool) (v : List ℕ) (vs : List (List ℕ)) → due_of cut (v ∷ vs) ≡ due_word w → word_part says none long (v ∷ vs) ≡ Ok (x, vs)
  first_word cut v vs d = elim (cases_Bool (nat_lt 32 (length v))) [
    | inl q ↦ let f : due_long ≡ due_word w = rw q at d in cc f
    | inr q ↦ let f : due_word v ≡ due_word w = rw q at d in let same : v ≡ w = cc f in rw q (ap (λ o. word_or_fault o vs) (ap says same ∙ said))
  ]

  no_word_due : (cut : Bool) → due_of cut [] ≡ due_word w → ⊥
  no_word_due true d = cc d
  no_word_due false d = cc d

  words_after : (word_cut cut : Bool) (vs : List (List ℕ)) → due_of cut (if word_cut then without_cut_word vs else vs) ≡ due_word w
      → word_part says none long (if word_cut then without_cut_word vs else vs) ≡ Ok (x, if word_cut then without_cut_word (without_first vs) else without_first vs)
  words_after false cut [] d = absurd (no_word_due cut d)
  words_after false cut (v ∷ vs) d = first_word cut v vs d
  words_after true cut [] d = absurd (no_word_due cut d)
  words_after true cut (v ∷ []) d = elim (cases_Bool (nat_lt 32 (length v))) [
    | inl q ↦ let f : due_long ≡ due_word w = rw (q, q) at d in cc f
    | inr q ↦ absurd (no_word_due cut (rw q at d))
  ]
  words_after true cut (v ∷ next ∷ vs) d = first_word cut v (without_cut_word (next ∷ vs)) d

-- a word that was taken off the line is a part of it
word_read : (w : List ℕ) (x : Option ℕ) (p q : Place) (t u : List ℕ) → literal_says w ≡ Ok x → TakesWord w p t q u → ReadsPart (word_part literal_says rules.Unclosed rules.Number) (Ok x) p t q u
word_read w x p q t u s h = record {
  answer = words_after literal_says rules.Unclosed rules.Number w x s (present p t).word_cut (present p t).cut (present p t).words h.due ∙ ap (λ l. Ok (x, known_words l)) (sym h.present);
  line = record { number = ap (λ l. l.number) h.present; cut = ap (λ l. l.cut) h.present };
  behind = h.behind;
}

-- a word behind a space is passed over
spaced_read : (said : Option ℕ) (p : Place) (n : ℕ) (a : Option (List ℕ)) → p.passed ≤ most_bytes → IsSpaced said (coming p) n
    → WhereTold (ahead p a) (ahead (passed_over (n + 1) p) a) (λ t u. ReadsPart (word_part literal_says rules.Unclosed rules.Number) (Ok said) p t (passed_over (n + 1) p) u)
spaced_read said p n a bound h =
    let q = passed_over (n + 1) p in
    let space = coming_space p in
    let says : literal_says (take n (behind_space p)) ≡ Ok said = ap (λ r. literal_says (take n r)) space ∙ h.says in
    told_then _ _ _ _ _ _ (told_at_start (ahead p a) (λ t u. t ≡ u) (λ t. refl)) (takes_told p n a bound (subst (λ r. IsWordFront r n) (sym space) (is_front _ n h.front)))
    (λ t u v e w. subst (λ z. ReadsPart (word_part literal_says rules.Unclosed rules.Number) (Ok said) p z q v) (sym e) (word_read (take n (behind_space p)) said p q u v says w))

-- a run of literals is passed over
pub run_read : (ls xs : List ℕ) (o p : Place) (n : ℕ) (a b : Option (List ℕ)) → p.passed ≤ most_bytes → IsRun ls (coming p) n → WhereTold (ahead o a) (ahead p b) (λ t u. Collects literal_list xs o t p u)
    → WhereTold (ahead o a) (ahead (passed_over n p) b) (λ t u. Collects literal_list (xs ++ ls) o t (passed_over n p) u)
run_read [] xs o p n a b bound e told =
    let here : p ≡ passed_over n p = sym (ap (λ k. passed_over k p) e ∙ passed_none p) in
    subst (λ q. WhereTold (ahead o a) (ahead q b) (λ t u. Collects literal_list (xs ++ []) o t q u)) here
    (subst (λ l. WhereTold (ahead o a) (ahead p b) (λ t u. Collects literal_list l o t p u)) (sym (append-nil xs)) told)
run_read (l ∷ ls) xs o p n a b bound r told =
    let m = r.0 in
    let k = r.1 in
    let q = passed_over (m + 1) p in
    let within : m + 1 ≤ length (coming p) = omega (arith, spaced_within (Some l) (coming p) m r.2) in
    let ends = coming_bounds p (m + 1) bound within in
    let one = told_then _ _ _ _ _ _ told (spaced_read (Some l) p m b bound r.2) (λ t u v h w. collects_more literal_list literal_says literal_list_is xs l o p q t u v h w) in
    let rest : IsRun ls (coming q) k = subst (λ c. IsRun ls c k) (sym (coming_passed p (m + 1) bound within)) r.3 in
    let all = run_read ls (xs ++ l ∷ []) o q k a b (omega (arith, ends.1)) rest one in
    let here : passed_over k q ≡ passed_over n p = passed_twice p (m + 1) k ∙ ap (λ z. passed_over z p) (sym r.4) in
    subst (λ z. WhereTold (ahead o a) (ahead z b) (λ t u. Collects literal_list (xs ++ l ∷ ls) o t z u)) here
    (subst (λ z. WhereTold (ahead o a) (ahead (passed_over k q) b) (λ t u. Collects literal_list z o t (passed_over k q) u)) (append_assoc xs (l ∷ []) ls) all)

run_within : (ls bytes : List ℕ) (n : ℕ) → IsRun ls bytes n → n ≤ length bytes
run_within [] bytes n e = omega (arith, e)
run_within (l ∷ ls) bytes n r = omega (arith, spaced_within (Some l) bytes r.0 r.2, run_within ls (drop (r.0 + 1) bytes) r.1 r.3, length-drop (r.0 + 1) bytes, r.4)

-- literals and the 0 at their list's end are passed over
pub whole_read : (ls : List ℕ) (p : Place) (n : ℕ) (a : Option (List ℕ)) → p.passed ≤ most_bytes → IsWholeRun ls (coming p) n
    → WhereTold (ahead p a) (ahead (passed_over n p) a) (λ t u. ReadsPart literal_list (Ok ls) p t (passed_over n p) u)
whole_read ls p n a bound h =
    let q = passed_over h.count p in
    let within = run_within ls (coming p) h.count h.run in
    let ends = coming_bounds p h.count bound within in
    let zero : IsSpaced None (coming q) 1 = subst (λ c. IsSpaced None c 1) (sym (coming_passed p h.count bound within)) h.zero in
    let here : passed_over 2 q ≡ passed_over n p = passed_twice p h.count 2 ∙ ap (λ z. passed_over z p) (sym h.all) in
    subst (λ z. WhereTold (ahead p a) (ahead z a) (λ t u. ReadsPart literal_list (Ok ls) p t z u)) here
    (told_then _ _ _ _ _ _ (run_read ls [] p p h.count a a bound h.run (told_at_start (ahead p a) (λ t u. Collects literal_list [] p t p u) (Collects-start literal_list p)))
    (spaced_read None q 1 a (omega (arith, ends.1)) zero)
    (λ t u v c w. collects_last literal_list literal_says literal_list_is ls p q (passed_over 2 q) t u v c w))

pub whole_within : (ls bytes : List ℕ) (n : ℕ) → IsWholeRun ls bytes n → n ≤ length bytes
whole_within ls bytes n h = omega (arith, h.all, run_within ls bytes h.count h.run, spaced_within None (drop h.count bytes) 1 h.zero, length-drop h.count bytes)
