-- Small cases of numberings, each computed: the variables 7, 3 and 9 came in this order, with literals of both signs.
use Rattle.std.proofs.Common.{◌≡◌, ℕ, List, [], ◌∷◌, refl, Some, None, pos, negsuc}
use Rattle.lits.specs.Literal.{of_number}
use Rattle.lits.specs.Clause.{set_of, with_literal}
use Rattle.lits.specs.Numbering.{place, number_of, find_number, var_of, with_var, with_lits, dense_lits, file_lits}

-- 7 -3 -7 9 3
came : List ℕ
came = of_number (pos 7) ∷ of_number (negsuc 2) ∷ of_number (negsuc 6) ∷ of_number (pos 9) ∷ of_number (pos 3) ∷ []

three : List ℕ
three = 7 ∷ 3 ∷ 9 ∷ []

each_once : with_lits [] came ≡ three
unfolding came three with_lits
each_once = refl

second : find_number three 3 ≡ Some 2
unfolding three place
second = refl

none : find_number three 8 ≡ None
unfolding three place
none = refl

-- 8 is to get the number 4, and gets it
next : number_of three 8 ≡ 4
unfolding three place
next = refl

comes : with_var three 8 ≡ 7 ∷ 3 ∷ 9 ∷ 8 ∷ []
unfolding three
comes = refl

stays : with_var three 9 ≡ three
unfolding three
stays = refl

third : var_of three 3 ≡ 9
unfolding three
third = refl

-- 1 -2 -1 3 2
translated : dense_lits three came ≡ of_number (pos 1) ∷ of_number (negsuc 1) ∷ of_number (negsuc 0) ∷ of_number (pos 3) ∷ of_number (pos 2) ∷ []
unfolding three came place
translated = refl

back : file_lits three (dense_lits three came) ≡ came
unfolding three came place
back = refl

-- a set in ascending order isn't translated into one: 3 7 becomes 2 1
disordered : dense_lits three (set_of (of_number (pos 7) ∷ of_number (pos 3) ∷ [])) ≡ of_number (pos 2) ∷ of_number (pos 1) ∷ []
unfolding three place set_of with_literal
disordered = refl
