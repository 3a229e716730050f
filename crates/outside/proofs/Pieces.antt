-- Pieces that are read one after the other.
use Rattle.std.proofs.Common.{◌≡◌, ℕ, zero, suc, ◌+◌, ◌<◌, ◌≤◌, List, [], ◌∷◌, ◌++◌, length, get_or, take, drop, map, refl, sym, ◌∙◌, ap, arith, append_assoc, Vec}
use Rattle.std.proofs.lemmas.List.{take-append-drop, drop-drop, drop_more, length-drop}
use Rattle.std.specs.declared.alloc.Global.{Global}
use Rattle.std.specs.List.{concat}
use Rattle.outside.specs.Memory.{before_pieces, without_empty, first_piece, taken_off, left_from}

pub concat-before_pieces : (p : List ℕ) (ps : List (List ℕ)) → concat (before_pieces p ps) ≡ p ++ concat ps
concat-before_pieces [] ps = refl
concat-before_pieces (x ∷ xs) ps = refl

pub concat-without_empty : (ps : List (List ℕ)) → concat (without_empty ps) ≡ concat ps
concat-without_empty [] = refl
concat-without_empty (p ∷ ps) = concat-before_pieces p (without_empty ps) ∙ ap (λ (l : List ℕ). p ++ l) (concat-without_empty ps)

-- a new source has all the bytes
pub concat-left_from : (ps : List (Vec ℕ Global)) → concat (left_from 0 ps) ≡ concat (map (λ v. v.items) ps)
concat-left_from [] = refl
concat-left_from (p ∷ ps) = concat-before_pieces p.items (without_empty (map (λ v. v.items) ps)) ∙ ap (λ (l : List ℕ). p.items ++ l) (concat-without_empty (map (λ v. v.items) ps))

pub left_from_new : (ps : List (Vec ℕ Global)) → left_from 0 ps ≡ without_empty (map (λ v. v.items) ps)
left_from_new [] = refl
left_from_new (p ∷ ps) = refl

-- a read takes its bytes off the front
pub concat-taken_off : (n : ℕ) (ps : List (List ℕ)) → concat ps ≡ take n (first_piece ps) ++ concat (taken_off n ps)
concat-taken_off zero [] = refl
concat-taken_off (suc n) [] = refl
concat-taken_off n (p ∷ ps) =
    ap (λ (l : List ℕ). l ++ concat ps) (sym (take-append-drop n p)) ∙ append_assoc (take n p) (drop n p) (concat ps) ∙ ap (λ (l : List ℕ). take n p ++ l) (sym (concat-before_pieces (drop n p) ps))

before_pieces-nil : (p : List ℕ) (ps : List (List ℕ)) → length p ≡ 0 → before_pieces p ps ≡ ps
before_pieces-nil [] ps is = refl
before_pieces-nil (x ∷ xs) ps is = absurd (omega arith)

before_pieces-some : (p : List ℕ) (ps : List (List ℕ)) → 0 < length p → before_pieces p ps ≡ p ∷ ps
before_pieces-some [] ps is = absurd (omega arith)
before_pieces-some (x ∷ xs) ps is = refl

module _ (ps : List (Vec ℕ Global)) (next used : ℕ) (d : Vec ℕ Global) (within : next < length ps) where
  after : List (List ℕ)
  after = without_empty (map (λ v. v.items) (drop (next + 1) ps))

  opened : left_from used (drop next ps) ≡ before_pieces (drop used (get_or ps next d).items) after
  unfolding after
  opened = rw (drop_more ps next d within) refl

  -- a piece that is used up is passed over
  pub left_from-next : length (get_or ps next d).items ≤ used → left_from 0 (drop (next + 1) ps) ≡ left_from used (drop next ps)
  unfolding after
  left_from-next over =
      left_from_new (drop (next + 1) ps) ∙ sym (opened ∙ before_pieces-nil (drop used (get_or ps next d).items) after (omega (arith, length-drop used (get_or ps next d).items)))

  pub left_from-here : used < length (get_or ps next d).items → left_from used (drop next ps) ≡ drop used (get_or ps next d).items ∷ without_empty (map (λ v. v.items) (drop (next + 1) ps))
  unfolding after
  left_from-here here = opened ∙ before_pieces-some (drop used (get_or ps next d).items) after (omega (arith, length-drop used (get_or ps next d).items))

  pub first_piece-here : used < length (get_or ps next d).items → first_piece (left_from used (drop next ps)) ≡ drop used (get_or ps next d).items
  first_piece-here here = ap first_piece (left_from-here here)

  pub taken_off-here : (n : ℕ) → used < length (get_or ps next d).items → left_from (used + n) (drop next ps) ≡ taken_off n (left_from used (drop next ps))
  unfolding after
  taken_off-here n here =
      rw (drop_more ps next d within) (ap (λ (l : List ℕ). before_pieces l after) (sym (drop-drop n used (get_or ps next d).items))) ∙ sym (ap (taken_off n) (left_from-here here))

pub concat_gave : (old new : List (List ℕ)) (buf : List ℕ) (n : ℕ) → take n buf ≡ take n (first_piece old) → new ≡ taken_off n old → concat old ≡ take n buf ++ concat new
concat_gave old new buf n copied is = rw (copied, is) (concat-taken_off n old)
