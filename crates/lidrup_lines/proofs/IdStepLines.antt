-- What stands in a line of a proof with ids behind its letter.
use Rattle.std.proofs.Common.{◌≡◌, ℕ, List, [], ◌∷◌, Ok, Err, refl}
use Rattle.session_rules.specs.declared.Letter.TheVariants as letters
use Rattle.session_rules.specs.declared.LStep.{LStep}
use Rattle.session_rules.specs.declared.LStep.TheVariants as lsteps
use Rattle.session_rules.specs.Reading.{◌>>=◌, Part, own_id, literal_list, id_list, whole, id_step_at, lidrup_line, by_letter}
use Rattle.line_reading.specs.Whole.{id_literals_body, id_literals_ids_body, literals_ids_body}
use Rattle.line_reading.proofs.WholeBodies.{mapped}

-- a value that is read to a line's end, as another
whole_as : {A B : Type 0} (f : A → B) (x : A) (ws : List (List ℕ)) → whole (f x) ws ≡ mapped f (whole x ws)
whole_as f x [] = refl
whole_as f x (w ∷ ws) = refl

list_as : {A B : Type 0} (f : A → B) (g : List ℕ → A) (o : Part (List ℕ)) → (o >>= λ ls. whole (f (g ls.0)) ls.1) ≡ mapped f (o >>= λ ls. whole (g ls.0) ls.1)
list_as f g (Ok m) = whole_as f (g m.0) m.1
list_as f g (Err e) = refl

lists_as : {A B : Type 0} (f : A → B) (g : List ℕ → List ℕ → A) (o : Part (List ℕ))
    → (o >>= λ ls. id_list ls.1 >>= λ hs. whole (f (g ls.0 hs.0)) hs.1) ≡ mapped f (o >>= λ ls. id_list ls.1 >>= λ hs. whole (g ls.0 hs.0) hs.1)
lists_as f g (Ok m) = list_as f (g m.0) (id_list m.1)
lists_as f g (Err e) = refl

abbrev pub input : ℕ × List ℕ → LStep
input x = lsteps.Input x.0 x.1

abbrev pub lemma_step : ℕ × List ℕ × List ℕ → LStep
lemma_step x = lsteps.Lemma x.0 x.1 x.2

abbrev pub core : List ℕ × List ℕ → LStep
core x = lsteps.Core x.0 x.1

input_as : (o : Part ℕ) → (o >>= λ i. literal_list i.1 >>= λ ls. whole (lsteps.Input i.0 ls.0) ls.1) ≡ mapped input (o >>= λ i. literal_list i.1 >>= λ ls. whole (i.0, ls.0) ls.1)
input_as (Ok i) = list_as input (λ ls. (i.0, ls)) (literal_list i.1)
input_as (Err e) = refl

lemma_as : (o : Part ℕ) → (o >>= λ i. literal_list i.1 >>= λ ls. id_list ls.1 >>= λ hs. whole (lsteps.Lemma i.0 ls.0 hs.0) hs.1)
    ≡ mapped lemma_step (o >>= λ i. literal_list i.1 >>= λ ls. id_list ls.1 >>= λ hs. whole (i.0, ls.0, hs.0) hs.1)
lemma_as (Ok i) = lists_as lemma_step (λ ls hs. (i.0, ls, hs)) (literal_list i.1)
lemma_as (Err e) = refl

pub input_step : (ws : List (List ℕ)) → id_step_at letters.Input ws ≡ mapped input (id_literals_body ws)
input_step ws = input_as (own_id ws)

pub lemma_line : (ws : List (List ℕ)) → id_step_at letters.Lemma ws ≡ mapped lemma_step (id_literals_ids_body ws)
lemma_line ws = lemma_as (own_id ws)

pub core_step : (ws : List (List ℕ)) → id_step_at letters.Core ws ≡ mapped core (literals_ids_body ws)
core_step ws = lists_as core (λ ls hs. (ls, hs)) (literal_list ws)

-- the lines of a proof with ids are read by their letter
pub lidrup_line_is : (ws : List (List ℕ)) → by_letter id_step_at ws ≡ lidrup_line ws
unfolding lidrup_line
lidrup_line_is ws = refl
