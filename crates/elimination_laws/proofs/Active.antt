-- The active clauses behind a block have each clause without its variable, so what was forced is.
use Rattle.std.proofs.Common.{◌≡◌, ℕ, zero, suc, ◌+◌, ◌-◌, ◌<◌, ◌⊎◌, true, false, not, ◌&&◌, nat_lt, List, [], ◌∷◌, ◌++◌, filter, filter_map, take, drop, Contains, Option, refl, sym, ◌∙◌, subst, ap, inl, inr, arith}
use Rattle.std.proofs.lemmas.List.Elements.{filter_map-append}
use Rattle.std.proofs.lemmas.List.Sums.{length-filter}
use Rattle.std.proofs.Math.Seq.{take-add}
use Rattle.std.proofs.lemmas.Bool.{and_parts, both_ways, ltb-true, lt-ltb}
use Rattle.lits.proofs.Members.{here, there, here_or_there, all_at, filter_at, filter_from}
use Rattle.session_rules.specs.declared.Step.{Step}
use Rattle.session_rules.specs.Logic.{same_set, is_tautology, Forced}
use Rattle.session_rules.specs.History.{assumed}
use Rattle.session_rules.specs.Own.{added_clause, removed_clause, weakened_clause, copies, active_copies, active_clauses, events_of}
use Rattle.restore.specs.Resolution.{of_variable, has_variable}
use Rattle.restore.proofs.Joined.{append_left}
use Rattle.elimination_laws.specs.Eligible.{how_many}
use Rattle.elimination_laws.specs.Parts.{deleted_clause}
use Rattle.elimination_laws.specs.Blocks.{is_block_of, is_block}
use Rattle.elimination_laws.specs.Irredundant.{irredundant}
use Rattle.elimination_laws.proofs.Counting.{any_same, often_at}
use Rattle.elimination_laws.proofs.Invariance.{has_positive, OftenAs-from_test}
use Rattle.elimination_laws.proofs.Running.{how_many-append}
use Rattle.elimination_laws.proofs.Settling.{block-forced, block-before, block-deletes, block-weakens}
use Rattle.session_rules.specs.declared.Step.TheVariants as steps

pub copies-count : (given : Step → Option (List ℕ)) (ps : List Step) (c : List ℕ) → copies given ps c ≡ how_many (same_set c) (filter_map given ps)
copies-count given ps c = sym (length-filter (same_set c) (filter_map given ps))

pub copies-append : (given : Step → Option (List ℕ)) (ps qs : List Step) (c : List ℕ) → copies given (ps ++ qs) c ≡ copies given ps c + how_many (same_set c) (filter_map given qs)
copies-append given ps qs c = copies-count given (ps ++ qs) c ∙ ap (how_many (same_set c)) (filter_map-append given ps qs)
    ∙ how_many-append (same_set c) (filter_map given ps) (filter_map given qs) ∙ ap (λ n. n + how_many (same_set c) (filter_map given qs)) (sym (copies-count given ps c))

-- no copy of a clause without the variable is taken away by steps that take away clauses with it
none_removed : (x : ℕ) (ds : List (List ℕ)) (c : List ℕ) → ((d : List ℕ) → Contains ds d → has_variable x d ≡ true) → has_variable x c ≡ false → (n : ℕ) → how_many (same_set c) ds ≡ n → n ≡ 0
none_removed x ds c h m zero e = refl
none_removed x ds c h m (suc n) e = let g : 0 < how_many (same_set c) ds = omega arith in let d = has_positive ds c g in
    absurd (both_ways _ m (any_same (of_variable x) c d.0 d.2 ∙ h d.0 d.1))

pub active-behind : (x : ℕ) (before run : List Step) → ((d : List ℕ) → Contains (filter_map removed_clause run) d → has_variable x d ≡ true)
    → (c : List ℕ) → Contains (active_clauses before) c → has_variable x c ≡ false → Contains (active_clauses (before ++ run)) c
active-behind x before run h c m q = let r = filter_at (λ c. nat_lt 0 (active_copies before c)) (filter_map added_clause before) c m in
    let a = copies-append added_clause before run c in let d = copies-append removed_clause before run c in
    let z = none_removed x (filter_map removed_clause run) c h q (how_many (same_set c) (filter_map removed_clause run)) refl in
    let g : 0 < active_copies before c = ltb-true _ _ r.1 in
    let k : 0 < active_copies (before ++ run) c = omega arith in
    filter_from (λ c. nat_lt 0 (active_copies (before ++ run) c)) (filter_map added_clause (before ++ run)) c
    (subst (λ z. Contains z c) (sym (filter_map-append added_clause before run)) (append_left (filter_map added_clause before) (filter_map added_clause run) c r.0)) (lt-ltb _ _ k)

-- what steps take away they delete or weaken
removed_at : (run : List Step) (d : List ℕ) → Contains (filter_map removed_clause run) d → Contains (filter_map deleted_clause run) d ⊎ Contains (filter_map weakened_clause run) d
removed_at [] d m = inl m
removed_at (steps.Event e ∷ run) d m = removed_at run d m
removed_at (steps.Lemma c ∷ run) d m = removed_at run d m
removed_at (steps.Restore c ∷ run) d m = removed_at run d m
removed_at (steps.Delete c ∷ run) d m = elim (here_or_there c d (filter_map removed_clause run) m) [
  | inl e ↦ inl (subst (λ z. Contains (c ∷ filter_map deleted_clause run) z) e (here c (filter_map deleted_clause run)))
  | inr n ↦ elim (removed_at run d n) [ inl k ↦ inl (there c d (filter_map deleted_clause run) k) | inr k ↦ inr k ]
]
removed_at (steps.Weaken c ∷ run) d m = elim (here_or_there c d (filter_map removed_clause run) m) [
  | inl e ↦ inr (subst (λ z. Contains (c ∷ filter_map weakened_clause run) z) e (here c (filter_map weakened_clause run)))
  | inr n ↦ elim (removed_at run d n) [ inl k ↦ inl k | inr k ↦ inr (there c d (filter_map weakened_clause run) k) ]
]

-- a block takes away clauses with its variable alone
pub block-removes : (x : ℕ) (irr active after : List (List ℕ)) (frozen : List ℕ) (run : List Step) → is_block_of x irr active after frozen run ≡ true
    → (d : List ℕ) → Contains (filter_map removed_clause run) d → has_variable x d ≡ true
block-removes x irr active after frozen run h d m = elim (removed_at run d m) [
  | inl n ↦ (and_parts _ _ (all_at (λ c. has_variable x c && not (is_tautology c)) (filter_map deleted_clause run) d (block-deletes x irr active after frozen run h) n)).0
  | inr n ↦ let o = OftenAs-from_test (filter_map weakened_clause run) (filter (has_variable x) irr) (block-weakens x irr active after frozen run h) in
      let e = often_at (filter_map weakened_clause run) (filter (has_variable x) irr) d o n in any_same (of_variable x) d e.0 e.2 ∙ (filter_at (has_variable x) irr e.0 e.1).1
]

-- what is forced before a block of a proof is forced after it
pub is_block-forced : (ps : List Step) (x b e : ℕ) → is_block ps x b e ≡ true → (l : ℕ) → Forced (active_clauses (take b ps)) l → Forced (active_clauses (take e ps)) l
unfolding is_block
is_block-forced ps x b e h l f = let lt = block-before ps x b e h in let z : b + (e - b) ≡ e = omega arith in let run = take (e - b) (drop b ps) in
    let k : is_block_of x (irredundant ps b) (active_clauses (take b ps)) (active_clauses (take e ps)) (assumed (events_of (take b ps))) run ≡ true = (and_parts _ _ h).1 in
    let t : take e ps ≡ take b ps ++ run = ap (λ n. take n ps) (sym z) ∙ take-add b (e - b) ps in
    block-forced x (irredundant ps b) (active_clauses (take b ps)) (active_clauses (take e ps)) (assumed (events_of (take b ps))) run k
    (λ c m q. subst (λ w. Contains (active_clauses w) c) (sym t)
    (active-behind x (take b ps) run (block-removes x (irredundant ps b) (active_clauses (take b ps)) (active_clauses (take e ps)) (assumed (events_of (take b ps))) run k) c m q)) l f
