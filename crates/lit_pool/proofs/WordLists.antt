-- Lists of words: what a run of them is, and what a write into them leaves.
use Rattle.std.proofs.Common.{◌≡◌, ◌≢◌, ℕ, zero, suc, ◌+◌, ◌*◌, ◌-◌, ◌<◌, ◌≤◌, ◌⊎◌, List, ◌∷◌, length, get_or, set, take, drop, swap, slice_range, Option, inl, inr, refl, sym, ap, ◌∙◌, arith, length-set}
use Rattle.std.proofs.lemmas.List.{ext_get_or, get_or-set_same, get_or-set_other}
use Rattle.std.proofs.lemmas.List.Edits.{swap_is}
use Rattle.std.proofs.Math.Seq.{drop-cons}
use Rattle.lit_pool.specs.Limit.{slots_end}
use Rattle.lit_pool.specs.Pieces.{word, words_from, entry_in, room_in, len_in, link_of_word, place_of_link, IsWithin}
use Rattle.lit_pool.specs.Entry.{Entry, new_entry, relinked}
use Rattle.lit_pool.specs.declared.Which.{Which}
use Rattle.lit_pool.specs.declared.Which.TheVariants.{One, Two}

pub length-words_from : (ws : List ℕ) (at n : ℕ) → length (words_from ws at n) ≡ n
unfolding words_from
length-words_from ws at zero = refl
length-words_from ws at (suc n) = ap suc (length-words_from ws (suc at) n)

-- the word at a place of a run
pub word_of_run : (ws : List ℕ) (at n k : ℕ) → k < n → get_or (words_from ws at n) k 0 ≡ word ws (at + k)
unfolding words_from
word_of_run ws at zero k lt = absurd (omega arith)
word_of_run ws at (suc n) zero lt =
    let e : at ≡ at + 0 = omega arith in
    ap (λ i. word ws i) e
word_of_run ws at (suc n) (suc k) lt =
    let e : suc at + k ≡ at + suc k = omega arith in
    word_of_run ws (suc at) n k (omega arith) ∙ ap (λ i. word ws i) e

-- a run as the list's part
pub run_is : (ws : List ℕ) (at n : ℕ) → at + n ≤ length ws → take n (drop at ws) ≡ words_from ws at n
unfolding words_from
run_is ws at zero within = refl
run_is ws at (suc n) within =
    let lt : at < length ws = omega arith in
    ap (λ xs. take (suc n) xs) (drop-cons ws at 0 lt) ∙ ap (λ xs. word ws at ∷ xs) (run_is ws (suc at) n (omega arith))

pub range_is : (ws : List ℕ) (at n : ℕ) → at + n ≤ length ws → slice_range ws at (at + n) ≡ words_from ws at n
range_is ws at n within =
    let e : (at + n) - at ≡ n = omega arith in
    ap (λ k. take k (drop at ws)) e ∙ run_is ws at n within

-- two runs are equal where their words are
pub run_same : (vs ws : List ℕ) (at n : ℕ) → ((k : ℕ) → k < n → word vs (at + k) ≡ word ws (at + k)) → words_from vs at n ≡ words_from ws at n
run_same vs ws at n same =
    ext_get_or 0 (words_from vs at n) (words_from ws at n) (length-words_from vs at n ∙ sym (length-words_from ws at n)) (λ k lt.
    let in_run : k < n = omega (arith, length-words_from vs at n) in
    word_of_run vs at n k in_run ∙ same k in_run ∙ sym (word_of_run ws at n k in_run))

-- a write leaves the other words
pub word-set_other : (ws : List ℕ) (i j x : ℕ) → j ≢ i → word (set ws i x) j ≡ word ws j
word-set_other ws i j x other = get_or-set_other ws i j x 0 other

pub word-set_same : (ws : List ℕ) (i x : ℕ) → i < length ws → word (set ws i x) i ≡ x
word-set_same ws i x lt = get_or-set_same ws i x 0 lt

-- a write outside of a run leaves it
pub run-set_before : (ws : List ℕ) (at n i x : ℕ) → i < at → words_from (set ws i x) at n ≡ words_from ws at n
run-set_before ws at n i x before = run_same (set ws i x) ws at n (λ k lt. word-set_other ws i (at + k) x (omega arith))

pub run-set_behind : (ws : List ℕ) (at n i x : ℕ) → at + n ≤ i → words_from (set ws i x) at n ≡ words_from ws at n
run-set_behind ws at n i x behind = run_same (set ws i x) ws at n (λ k lt. word-set_other ws i (at + k) x (omega arith))

-- a write into a run
pub run-set : (ws : List ℕ) (at n k x : ℕ) → k < n → at + k < length ws → words_from (set ws (at + k) x) at n ≡ set (words_from ws at n) k x
unfolding words_from
run-set ws at zero k x lt within = absurd (omega arith)
run-set ws at (suc n) zero x lt within =
    let same : at + 0 ≡ at = omega arith in
    let e : words_from (set ws (at + 0) x) (suc at) n ≡ words_from ws (suc at) n = run-set_before ws (suc at) n (at + 0) x (omega arith) in
    let h : word (set ws (at + 0) x) at ≡ x = ap (λ i. word (set ws i x) at) same ∙ word-set_same ws at x (omega arith) in
    cc
run-set ws at (suc n) (suc k) x lt within =
    let same : at + suc k ≡ suc at + k = omega arith in
    let e : words_from (set ws (suc at + k) x) (suc at) n ≡ set (words_from ws (suc at) n) k x = run-set ws (suc at) n k x (omega arith) (omega arith) in
    let f : words_from (set ws (at + suc k) x) (suc at) n ≡ words_from (set ws (suc at + k) x) (suc at) n = ap (λ i. words_from (set ws i x) (suc at) n) same in
    let h : word (set ws (at + suc k) x) at ≡ word ws at = word-set_other ws (at + suc k) at x (omega arith) in
    ap (λ y. y ∷ words_from (set ws (at + suc k) x) (suc at) n) h ∙ ap (λ ys. word ws at ∷ ys) (f ∙ e)

-- two places of a run exchanged
pub run-swap : (ws : List ℕ) (at n a b : ℕ) → a < n → b < n → at + n ≤ length ws
    → words_from (set (set ws (at + a) (word ws (at + b))) (at + b) (word ws (at + a))) at n ≡ swap (words_from ws at n) a b
run-swap ws at n a b a_in b_in within =
    let xs = words_from ws at n in
    let vs = set ws (at + a) (word ws (at + b)) in
    let long : length vs ≡ length ws = length-set ws (at + a) (word ws (at + b)) in
    let first : words_from vs at n ≡ set xs a (word ws (at + b)) = run-set ws at n a (word ws (at + b)) a_in (omega arith) in
    let second : words_from (set vs (at + b) (word ws (at + a))) at n ≡ set (words_from vs at n) b (word ws (at + a)) = run-set vs at n b (word ws (at + a)) b_in (omega arith) in
    let x : get_or xs a 0 ≡ word ws (at + a) = word_of_run ws at n a a_in in
    let y : get_or xs b 0 ≡ word ws (at + b) = word_of_run ws at n b b_in in
    let swapped : set (set xs a (get_or xs b 0)) b (get_or xs a 0) ≡ swap xs a b = swap_is xs a b 0 (omega (arith, length-words_from ws at n)) (omega (arith, length-words_from ws at n)) in
    cc

-- a place outside of some bounds is none within them
outside_differs : (low high i j : ℕ) → low < i → i < high → (j ≤ low) ⊎ (high ≤ j) → j ≢ i
outside_differs low high i j above below (inl h) = omega arith
outside_differs low high i j above below (inr h) = omega arith

abbrev the_entry : List ℕ → Option ℕ → Option ℕ → Entry
the_entry xs p q = record { lits = xs; one = p; two = q }

-- an entry of equal parts
pub entry_same : (xs ys : List ℕ) (p q r t : Option ℕ) → xs ≡ ys → p ≡ q → r ≡ t → the_entry xs p r ≡ the_entry ys q t
entry_same xs ys p q r t e f g = ap (λ zs. the_entry zs p r) e ∙ ap (λ o. the_entry ys o r) f ∙ ap (λ o. the_entry ys q o) g

-- a write into a piece's literals, or behind its first word
pub within-set : (s : ℕ) (ws vs : List ℕ) (i x : ℕ) → IsWithin s ws vs → 8 * s < i → i < 8 * s + 4 + room_in ws s → IsWithin s ws (set vs i x)
within-set s ws vs i x was low high = record {
  long = length-set vs i x ∙ was.long;
  kept = λ j outside. word-set_other vs i j x (outside_differs (8 * s) (8 * s + 4 + room_in ws s) i j low high outside) ∙ was.kept j outside;
}

pub within_same : (s : ℕ) (ws : List ℕ) → IsWithin s ws ws
within_same s ws = record { long = refl; kept = λ _ _. refl }

-- a write to a link
pub relinked_is : (ws : List ℕ) (s : ℕ) (which : Which) (to : Option ℕ) (x : ℕ) → link_of_word x ≡ to → 8 * s + 4 ≤ length ws
    → entry_in (set ws (8 * s + place_of_link which) x) s ≡ relinked (entry_in ws s) which to
relinked_is ws s One to x is within =
    let vs = set ws (8 * s + 2) x in
    let counted : len_in vs s ≡ len_in ws s = word-set_other ws (8 * s + 2) (8 * s + 1) x (omega arith) in
    let lits : words_from vs (8 * s + 4) (len_in vs s) ≡ words_from ws (8 * s + 4) (len_in ws s) = ap (λ n. words_from vs (8 * s + 4) n) counted ∙ run-set_before ws (8 * s + 4) (len_in ws s) (8 * s + 2) x (omega arith) in
    let one : word vs (8 * s + 2) ≡ x = word-set_same ws (8 * s + 2) x (omega arith) in
    let two : word vs (8 * s + 3) ≡ word ws (8 * s + 3) = word-set_other ws (8 * s + 2) (8 * s + 3) x (omega arith) in
    entry_same _ _ _ _ _ _ lits (ap link_of_word one ∙ is) (ap link_of_word two)
relinked_is ws s Two to x is within =
    let vs = set ws (8 * s + 3) x in
    let counted : len_in vs s ≡ len_in ws s = word-set_other ws (8 * s + 3) (8 * s + 1) x (omega arith) in
    let lits : words_from vs (8 * s + 4) (len_in vs s) ≡ words_from ws (8 * s + 4) (len_in ws s) = ap (λ n. words_from vs (8 * s + 4) n) counted ∙ run-set_before ws (8 * s + 4) (len_in ws s) (8 * s + 3) x (omega arith) in
    let one : word vs (8 * s + 2) ≡ word ws (8 * s + 2) = word-set_other ws (8 * s + 3) (8 * s + 2) x (omega arith) in
    let two : word vs (8 * s + 3) ≡ x = word-set_same ws (8 * s + 3) x (omega arith) in
    entry_same _ _ _ _ _ _ lits (ap link_of_word one) (ap link_of_word two ∙ is)

-- two literals exchanged
pub swapped_is : (ws : List ℕ) (s a b : ℕ) → a < len_in ws s → b < len_in ws s → 8 * s + 4 + len_in ws s ≤ length ws
    → entry_in (set (set ws (8 * s + 4 + a) (word ws (8 * s + 4 + b))) (8 * s + 4 + b) (word ws (8 * s + 4 + a))) s ≡ the_entry (swap (entry_in ws s).lits a b) (entry_in ws s).one (entry_in ws s).two
swapped_is ws s a b a_in b_in within =
    let at = 8 * s + 4 in
    let x = word ws (at + a) in
    let y = word ws (at + b) in
    let us = set ws (at + a) y in
    let vs = set us (at + b) x in
    let head : (j : ℕ) → j < at → word vs j ≡ word ws j = λ j lt. word-set_other us (at + b) j x (omega arith) ∙ word-set_other ws (at + a) j y (omega arith) in
    let lits : words_from vs at (len_in vs s) ≡ swap (words_from ws at (len_in ws s)) a b = ap (λ n. words_from vs at n) (head (8 * s + 1) (omega arith)) ∙ run-swap ws at (len_in ws s) a b a_in b_in within in
    entry_same _ _ _ _ _ _ lits (ap link_of_word (head (8 * s + 2) (omega arith))) (ap link_of_word (head (8 * s + 3) (omega arith)))

-- a piece whose first i literals are those of a list, and whose links are none
pub record Filling (s : ℕ) (ws vs xs : List ℕ) (i : ℕ) : Type 0 where
  pub within : IsWithin s ws vs
  pub counted : word vs (8 * s + 1) ≡ length xs
  pub one : word vs (8 * s + 2) ≡ slots_end
  pub two : word vs (8 * s + 3) ≡ slots_end
  pub filled : (k : ℕ) → k < i → word vs (8 * s + 4 + k) ≡ word xs k

-- all literals
pub filling_all : (s : ℕ) (ws vs xs : List ℕ) → Filling s ws vs xs (length xs) → entry_in vs s ≡ new_entry xs
filling_all s ws vs xs f =
    let same : words_from vs (8 * s + 4) (length xs) ≡ xs = ext_get_or 0 (words_from vs (8 * s + 4) (length xs)) xs (length-words_from vs (8 * s + 4) (length xs)) (λ k lt.
    let low : k < length xs = omega (arith, length-words_from vs (8 * s + 4) (length xs)) in
    word_of_run vs (8 * s + 4) (length xs) k low ∙ f.filled k low) in
    entry_same _ _ _ _ _ _ (ap (λ n. words_from vs (8 * s + 4) n) f.counted ∙ same) (ap link_of_word f.one) (ap link_of_word f.two)

-- the head of a new entry
pub filling_none : (s : ℕ) (ws xs : List ℕ) → 8 * s + 4 + room_in ws s ≤ length ws
    → Filling s ws (set (set (set ws (8 * s + 1) (length xs)) (8 * s + 2) slots_end) (8 * s + 3) slots_end) xs 0
filling_none s ws xs within =
    let a = set ws (8 * s + 1) (length xs) in
    let b = set a (8 * s + 2) slots_end in
    let long : length a ≡ length ws = length-set ws (8 * s + 1) (length xs) in
    let long_too : length b ≡ length a = length-set a (8 * s + 2) slots_end in
    record {
      within = within-set s ws b (8 * s + 3) slots_end (within-set s ws a (8 * s + 2) slots_end (within-set s ws ws (8 * s + 1) (length xs) (within_same s ws) (omega arith) (omega arith)) (omega arith) (omega arith)) (omega arith) (omega arith);
      counted = word-set_other b (8 * s + 3) (8 * s + 1) slots_end (omega arith) ∙ word-set_other a (8 * s + 2) (8 * s + 1) slots_end (omega arith) ∙ word-set_same ws (8 * s + 1) (length xs) (omega arith);
      one = word-set_other b (8 * s + 3) (8 * s + 2) slots_end (omega arith) ∙ word-set_same a (8 * s + 2) slots_end (omega arith);
      two = word-set_same b (8 * s + 3) slots_end (omega arith);
      filled = λ k low. absurd (omega arith);
    }
