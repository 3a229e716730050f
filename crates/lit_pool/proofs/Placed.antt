-- Words at the front of a block whose other items are the default literal.
use Rattle.std.proofs.Common.{◌≡◌, ℕ, ◌+◌, ◌-◌, ◌≤◌, List, ◌++◌, length, take, drop, replicate, sym, ap, ◌∙◌, arith, length-append}
use Rattle.std.proofs.lemmas.List.{length-replicate, length-take-le, take-append-drop, take_at, drop_at, append_assoc, replicate-append-replicate}
use Rattle.lit_pool.specs.Words.{Placed}

-- what a block has where more of its items are words, and what those are
pub record Raised (items words : List ℕ) (n : ℕ) : Type 0 where
  pub placed : Placed items n
  pub words_are : take n items ≡ words ++ replicate (n - length words) 0

-- the items in three parts: the words, those that become words, and the others
parts : (items words : List ℕ) (n : ℕ) → items ≡ words ++ replicate (length items - length words) 0 → length words ≤ n → n ≤ length items
    → items ≡ (words ++ replicate (n - length words) 0) ++ replicate (length items - n) 0
parts items words n is low high =
    let counts : (n - length words) + (length items - n) ≡ length items - length words = omega arith in
    is ∙ ap (λ k. words ++ replicate k 0) (sym counts) ∙ ap (λ xs. words ++ xs) (sym (replicate-append-replicate (n - length words) (length items - n) 0)) ∙ sym (append_assoc words _ _)

pub raised : (items words : List ℕ) (n : ℕ) → items ≡ words ++ replicate (length items - length words) 0 → length words ≤ n → n ≤ length items → Raised items words n
raised items words n is low high =
    let front = words ++ replicate (n - length words) 0 in
    let whole = parts items words n is low high in
    let long : length front ≡ n = omega (arith, length-append words (replicate (n - length words) 0), length-replicate {A = ℕ} (n - length words) 0) in
    record {
      placed = record { within = high; unused = ap (drop n) whole ∙ drop_at front _ n long };
      words_are = ap (take n) whole ∙ take_at front _ n long;
    }

-- the same from items that are placed
pub raised_further : (items words : List ℕ) (used n : ℕ) → Placed items used → take used items ≡ words → used ≤ n → n ≤ length items → Raised items words n
raised_further items words used n placed is low high =
    let long : length words ≡ used = ap length (sym is) ∙ length-take-le used items placed.within in
    let rest : drop used items ≡ replicate (length items - length words) 0 = placed.unused ∙ ap (λ k. replicate (length items - k) 0) (sym long) in
    raised items words n (sym (take-append-drop used items) ∙ ap (λ xs. xs ++ drop used items) is ∙ ap (λ xs. words ++ xs) rest) (omega (arith, long)) high
