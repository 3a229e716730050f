-- What a stack keeps depends on the sets of the irredundant clauses, so the counted ones behind a block keep it too.
use Rattle.std.proofs.Common.{◌≡◌, ℕ, ◌+◌, ◌-◌, Bool, true, not, List, [], ◌∷◌, ◌++◌, filter, filter_map, Contains, refl, sym, ◌∙◌, ap, inl, inr, arith}
use Rattle.std.proofs.lemmas.Bool.{cases_Bool, not_from_false}
use Rattle.lits.proofs.Members.{here, there, all_at, all_from, any_at, any_from}
use Rattle.lits.proofs.Sets.{same_set-itself}
use Rattle.session_rules.specs.Logic.{same_set, is_tautology, satisfies, satisfies_clause}
use Rattle.session_rules.specs.declared.Step.{Step}
use Rattle.session_rules.specs.Own.{weakened_clause}
use Rattle.restore.specs.Resolution.{of_variable, has_variable, resolvent, Entails}
use Rattle.restore.specs.declared.lists.Elim.{Elim}
use Rattle.restore.specs.Stack.{stacked, KeepsResolvents, IsEntryOf, behind_elimination}
use Rattle.restore.proofs.Keeping.{Entails-push}
use Rattle.restore.proofs.Joined.{append_at, append_left, append_right}
use Rattle.elimination_laws.specs.Eligible.{how_many, OftenAs, Covered}
use Rattle.elimination_laws.specs.Parts.{lemma_clause}
use Rattle.elimination_laws.specs.Blocks.{is_block_of}
use Rattle.elimination_laws.specs.Irredundant.{less_each, stepped}
use Rattle.elimination_laws.proofs.Counting.{any_same, often_at, how_many-less_each}
use Rattle.elimination_laws.proofs.Invariance.{OftenAs-from_test}
use Rattle.elimination_laws.proofs.Running.{how_many-append}
use Rattle.elimination_laws.proofs.Resolvents.{due-no_tautology}
use Rattle.elimination_laws.proofs.Settling.{block-writes, block-weakens, block-eliminates, block-kept}

pub Entails-covered : (cs ds : List (List ℕ)) (r : List ℕ) → Covered cs ds → Entails cs r → Entails ds r
Entails-covered cs ds r v h = λ a f. h a (all_from (satisfies_clause a) cs (λ c m. let d = any_at (same_set c) ds (v c m) in
    any_same (satisfies a) c d.0 d.2 ∙ all_at (satisfies_clause a) ds d.0 f d.1))

pub Covered-behind : (es cs ds : List (List ℕ)) → Covered cs ds → Covered (es ++ cs) (es ++ ds)
Covered-behind es cs ds v = λ c m. elim (append_at es cs c m) [
  | inl n ↦ any_from (same_set c) (es ++ ds) c (append_left es ds c n) (same_set-itself c)
  | inr n ↦ let d = any_at (same_set c) ds (v c n) in any_from (same_set c) (es ++ ds) d.0 (append_right es ds d.0 d.1) d.2
]

pub Kept-covered : (es : List Elim) (cs ds : List (List ℕ)) → Covered cs ds → Covered ds cs → KeepsResolvents es cs → KeepsResolvents es ds
Kept-covered [] cs ds v w k = tt
Kept-covered (e ∷ es) cs ds v w k = (
  record {
    holding = k.0.holding;
    apart = λ c m. let d = any_at (same_set c) (stacked es ++ cs) (Covered-behind (stacked es) ds cs w c m) in any_same (of_variable e.var) c d.0 d.2 ∙ k.0.apart d.0 d.1;
    implied = λ c d m n p q t. Entails-covered (stacked es ++ cs) (stacked es ++ ds) (resolvent e.var c d) (Covered-behind (stacked es) cs ds v) (k.0.implied c d m n p q t);
  },
  Kept-covered es cs ds v w k.1,
)

pub Covered-from_OftenAs : (cs ds : List (List ℕ)) → OftenAs cs ds → Covered cs ds
Covered-from_OftenAs cs ds o = λ c m. let d = often_at cs ds c o m in any_from (same_set c) ds d.0 d.1 d.2

-- the clauses with a variable and those without
both_filters : (x : ℕ) (t : List ℕ → Bool) (cs : List (List ℕ)) → how_many t cs ≡ how_many t (filter (has_variable x) cs) + how_many t (filter (λ c. not (has_variable x c)) cs)
both_filters x t [] = omega arith
both_filters x t (c ∷ cs) = let next = both_filters x t cs in elim (cases_Bool (has_variable x c)) [
  | inl q ↦ elim (cases_Bool (t c)) [ inl k ↦ rw (q, k) (omega arith) | inr k ↦ rw (q, k) (omega arith) ]
  | inr q ↦ elim (cases_Bool (t c)) [ inl k ↦ rw (q, k) (omega arith) | inr k ↦ rw (q, k) (omega arith) ]
]

all_pass : (p : List ℕ → Bool) (cs : List (List ℕ)) → ((c : List ℕ) → Contains cs c → p c ≡ true) → filter p cs ≡ cs
all_pass p [] h = refl
all_pass p (c ∷ cs) h = let q = h c (here c cs) in rw q (ap (λ z. c ∷ z) (all_pass p cs (λ d m. h d (there c d cs m))))

module _ (x : ℕ) (irr active after : List (List ℕ)) (frozen : List ℕ) (run : List Step) (h : is_block_of x irr active after frozen run ≡ true) where
  written_no_tautology : (l : List ℕ) → Contains (filter_map lemma_clause run) l → not (is_tautology l) ≡ true
  written_no_tautology l m = not_from_false _ (due-no_tautology x irr (filter_map lemma_clause run) (block-writes x irr active after frozen run h) l m)

  pub block-counts : OftenAs (behind_elimination x irr (filter_map lemma_clause run)) (stepped irr (filter_map lemma_clause run) (filter_map weakened_clause run))
  block-counts = λ c. let t = same_set c in let ls = filter_map lemma_clause run in let ws = filter_map weakened_clause run in
      let e = all_pass (λ c. not (is_tautology c)) ls written_no_tautology in
      let a = how_many-append t (filter (λ c. not (has_variable x c)) irr) ls in
      let b = how_many-less_each c ws (irr ++ filter (λ c. not (is_tautology c)) ls) in
      let d = how_many-append t irr (filter (λ c. not (is_tautology c)) ls) in
      let f : how_many t (filter (λ c. not (is_tautology c)) ls) ≡ how_many t ls = ap (how_many t) e in
      let g = both_filters x t irr in
      let o = OftenAs-from_test ws (filter (has_variable x) irr) (block-weakens x irr active after frozen run h) c in
      by_numbers (how_many t (filter (λ c. not (has_variable x c)) irr ++ ls)) (how_many t (filter (λ c. not (has_variable x c)) irr)) (how_many t ls)
      (how_many t (less_each (irr ++ filter (λ c. not (is_tautology c)) ls) ws)) (how_many t (irr ++ filter (λ c. not (is_tautology c)) ls)) (how_many t ws) (how_many t irr)
      (how_many t (filter (λ c. not (is_tautology c)) ls)) (how_many t (filter (has_variable x) irr)) a b d f g o
    where
      by_numbers : (i n l e s w r k m : ℕ) → i ≡ n + l → e ≡ s - w → s ≡ r + k → k ≡ l → r ≡ m + n → w ≡ m → i ≡ e
      by_numbers i n l e s w r k m a b d f g o = omega arith

  -- so the irredundant clauses as they are counted keep the stack with the entry
  pub block-kept_counted : (es : List Elim) (e : Elim) → e.var ≡ x → IsEntryOf e irr → KeepsResolvents es irr
      → KeepsResolvents (es ++ e ∷ []) (stepped irr (filter_map lemma_clause run) (filter_map weakened_clause run))
  block-kept_counted es e is entry k = let a = behind_elimination x irr (filter_map lemma_clause run) in let b = stepped irr (filter_map lemma_clause run) (filter_map weakened_clause run) in
      Kept-covered (es ++ e ∷ []) a b (Covered-from_OftenAs a b block-counts) (Covered-from_OftenAs b a (λ c. sym (block-counts c))) (block-kept x irr active after frozen run h es e is entry k)

  -- and what was implied stays implied
  pub block-implied : (es : List Elim) (e : Elim) → e.var ≡ x → IsEntryOf e irr → (c : List ℕ) → Entails (stacked es ++ irr) c
      → Entails (stacked (es ++ e ∷ []) ++ stepped irr (filter_map lemma_clause run) (filter_map weakened_clause run)) c
  block-implied es e is entry c i = let a = behind_elimination x irr (filter_map lemma_clause run) in let b = stepped irr (filter_map lemma_clause run) (filter_map weakened_clause run) in
      Entails-covered (stacked (es ++ e ∷ []) ++ a) (stacked (es ++ e ∷ []) ++ b) c (Covered-behind (stacked (es ++ e ∷ [])) a b (Covered-from_OftenAs a b block-counts))
      (Entails-push es e irr a c (block-eliminates x irr active after frozen run h e is entry) i)
