-- The line of a told step has a byte.
use Rattle.std.proofs.Common.{◌≡◌, ℕ, ◌+◌, ◌<◌, ◌≤◌, List, [], ◌∷◌, ◌++◌, length, length-append, arith}
use Rattle.session_rules.specs.declared.Form.{Form}
use Rattle.session_rules.specs.declared.Told.{Told}
use Rattle.session_rules.specs.Spelling.{line_text}
use Rattle.session_rules.specs.Telling.{Names, told_words, told_length}

line_some : (ws : List (List ℕ)) → 0 < length (line_text ws)
line_some [] = omega arith
line_some (w ∷ []) = let e = length-append w (10 ∷ []) in omega (arith, e)
line_some (w ∷ x ∷ ws) = let r = line_some (x ∷ ws) in let e = length-append w (32 ∷ line_text (x ∷ ws)) in omega (arith, e)

pub told_some : (form : Form) (names : Names) (t : Told) → 0 < told_length form names t
unfolding told_length
told_some form names t = line_some (told_words form names t)
