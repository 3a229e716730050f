-- Elimination blocks and settled proofs: the tests agree with the relations, and what a block keeps.
use Rattle.std.proofs.Common.{◌≡◌, ℕ, zero, suc, ◌+◌, ◌-◌, ◌<◌, ◌≤◌, Bool, true, false, not, cond, ◌&&◌, ◌||◌, nat_eq, List, [], ◌∷◌, ◌++◌, length, filter, filter_map, take, drop, Contains, refl, sym, ◌∙◌, subst, ap, inl, inr, arith, eqb-true, append_assoc, length-append, length-drop}
use Rattle.std.proofs.lemmas.List.{append-nil}
use Rattle.std.specs.List.{list_any, list_all}
use Rattle.std.proofs.lemmas.Bool.{and_parts, and_from, or_cases, or_left, or_right, cases_Bool, both_ways, not-true, eqb-false, ltb-true}
use Rattle.lits.proofs.Members.{here, there, any_at, any_from, has_at}
use Rattle.session_rules.specs.Logic.{is_tautology, closes, Forced}
use Rattle.session_rules.specs.declared.Step.{Step}
use Rattle.session_rules.specs.Own.{active_clauses, events_of, weakened_clause}
use Rattle.session_rules.specs.History.{assumed}
use Rattle.restore.specs.Resolution.{of_variable, has_variable, all_variables}
use Rattle.restore.specs.declared.lists.Elim.{Elim}
use Rattle.restore.specs.Stack.{KeepsResolvents, IsEntryOf, Eliminates, are_due, behind_elimination}
use Rattle.restore.proofs.Keeping.{Kept-push, Eliminates-written}
use Rattle.elimination_laws.specs.Eligible.{eligible, forced}
use Rattle.elimination_laws.specs.Blocks.{in_turn, equally_often, is_block_of, is_block, are_blocks, Blocks, places_behind, blocks}
use Rattle.elimination_laws.specs.Parts.{is_query, is_status, lemma_clause, deleted_clause, to_last_weakening}
use Rattle.elimination_laws.specs.Settled.{each_step, is_settled_at, is_eliminated, last_weakened, settled, Settled}
use Rattle.elimination_laws.specs.Irredundant.{irredundant}
use Rattle.elimination_laws.proofs.Forcing.{Forced-without, forced-from_Forced}
use Rattle.elimination_laws.proofs.Deciding.{eligible-stands, eligible-free}
use Rattle.session_rules.specs.declared.Step.TheVariants as steps

-- ---- What a block keeps

-- the parts of a block
module _ (x : ℕ) (irr active after : List (List ℕ)) (frozen : List ℕ) (run : List Step) (h : is_block_of x irr active after frozen run ≡ true) where
  pub block-open : closes active [] ≡ false
  unfolding is_block_of
  block-open = not-true _ (and_parts _ _ (and_parts _ _ (and_parts _ _ h).0).0).1

  pub block-eligible : eligible irr frozen (forced active) x ≡ true
  unfolding is_block_of
  block-eligible = (and_parts _ _ (and_parts _ _ h).0).1

  pub block-writes : are_due x irr (filter_map lemma_clause run) ≡ true
  unfolding is_block_of
  block-writes = (and_parts _ _ (and_parts _ _ (and_parts _ _ h).1).0).0

  pub block-deletes : list_all (λ c. has_variable x c && not (is_tautology c)) (filter_map deleted_clause run) ≡ true
  unfolding is_block_of
  block-deletes = (and_parts _ _ (and_parts _ _ (and_parts _ _ h).1).0).1

  pub block-weakens : equally_often (filter_map weakened_clause run) (filter (has_variable x) irr) ≡ true
  unfolding is_block_of
  block-weakens = (and_parts _ _ (and_parts _ _ (and_parts _ _ h).1).1).0

  pub block-gone : list_all (λ c. not (has_variable x c) || is_tautology c) after ≡ true
  unfolding is_block_of
  block-gone = let a = equally_often (filter_map weakened_clause run) (filter (has_variable x) irr) in let b = list_all (λ c. not (has_variable x c) || is_tautology c) after in
      let d = are_due x irr (filter_map lemma_clause run) && list_all (λ c. has_variable x c && not (is_tautology c)) (filter_map deleted_clause run) in
      let e = (in_turn 1 run && not (closes active [])) && eligible irr frozen (forced active) x in
      (and_parts a b (and_parts d (a && b) (and_parts e (d && (a && b)) h).1).1).1

  pub block-turns : in_turn 1 run ≡ true
  unfolding is_block_of
  block-turns = (and_parts _ _ (and_parts _ _ (and_parts _ _ h).0).0).0

  -- no literal of the variable is forced
  pub block-free : (l : ℕ) → Forced active l → of_variable x l ≡ true → ⊥
  block-free l f v = both_ways _ (eligible-free irr frozen (forced active) x block-eligible).1
      (any_from (of_variable x) (forced active) l (has_at (forced active) l (forced-from_Forced active l block-open f)) v)

  -- so what was forced is, where each clause without the variable stays
  pub block-forced : ((c : List ℕ) → Contains active c → has_variable x c ≡ false → Contains after c) → (l : ℕ) → Forced active l → Forced after l
  block-forced a l f = Forced-without x active after a block-free l f

  -- so the block eliminates the variable with its entry
  pub block-eliminates : (e : Elim) → e.var ≡ x → IsEntryOf e irr → Eliminates e irr (behind_elimination x irr (filter_map lemma_clause run))
  block-eliminates e is entry = Eliminates-written x irr (filter_map lemma_clause run) block-writes e is entry

  -- and the stack with the entry is kept by the irredundant clauses behind the block
  pub block-kept : (es : List Elim) (e : Elim) → e.var ≡ x → IsEntryOf e irr → KeepsResolvents es irr
      → KeepsResolvents (es ++ e ∷ []) (behind_elimination x irr (filter_map lemma_clause run))
  block-kept es e is entry k = Kept-push es e irr (behind_elimination x irr (filter_map lemma_clause run)) k (block-eliminates e is entry)

-- ---- The blocks of a part

pub block-before : (ps : List Step) (x b e : ℕ) → is_block ps x b e ≡ true → b < e
unfolding is_block
block-before ps x b e h = ltb-true _ _ (and_parts _ _ (and_parts _ _ h).0).1

block-stands : (ps : List Step) (x b e : ℕ) → is_block ps x b e ≡ true → Contains (all_variables (irredundant ps b)) x
unfolding is_block
block-stands ps x b e h = let r = (and_parts _ _ h).1 in
    eligible-stands (irredundant ps b) _ _ x (block-eligible x (irredundant ps b) (active_clauses (take b ps)) (active_clauses (take e ps)) (assumed (events_of (take b ps))) (take (e - b) (drop b ps)) r)

places-from : (n b m : ℕ) → b < m → m ≤ b + n → Contains (places_behind b n) m
places-from zero b m lt le = absurd (omega arith)
places-from (suc n) b m lt le = elim (cases_Bool (nat_eq (b + 1) m)) [
  | inl q ↦ subst (λ z. Contains (places_behind b (suc n)) z) (eqb-true _ _ q) (here (b + 1) (places_behind (b + 1) n))
  | inr q ↦ let ne : (b + 1 ≡ m) → ⊥ = eqb-false _ _ q in
      let g : b + 1 < m = omega arith in let k : m ≤ b + 1 + n = omega arith in
      there (b + 1) m (places_behind (b + 1) n) (places-from n (b + 1) m g k)
]

-- the test of one end
abbrev ends_block : ℕ → List Step → ℕ → ℕ → ℕ → Bool
ends_block n ps b e m = let rest = blocks n ps m e in cond (list_any (λ x. is_block ps x b m) (all_variables (irredundant ps b))) rest false

Blocks-at_end : (n : ℕ) (ps : List Step) (b e m : ℕ) → ends_block n ps b e m ≡ true → (blocks n ps m e ≡ true → Blocks ps m e) → Blocks ps b e
Blocks-at_end n ps b e m f next = elim (cases_Bool (list_any (λ x. is_block ps x b m) (all_variables (irredundant ps b)))) [
  | inl q ↦ let g : blocks n ps m e ≡ true = rw q at f in let x = any_at (λ x. is_block ps x b m) (all_variables (irredundant ps b)) q in
      let r = next g in ((x.0, m) ∷ r.0, and_from _ _ x.2 r.1)
  | inr q ↦ let g : false ≡ true = rw q at f in cc g
]

pub Blocks-from_blocks : (n : ℕ) (ps : List Step) (b e : ℕ) → blocks n ps b e ≡ true → Blocks ps b e
unfolding blocks
Blocks-from_blocks zero ps b e h = ([], h)
Blocks-from_blocks (suc n) ps b e h = elim (or_cases _ _ h) [
  | inl q ↦ ([], q)
  | inr q ↦ let m = any_at (ends_block n ps b e) (places_behind b (e - b)) q in Blocks-at_end n ps b e m.0 m.2 (λ g. Blocks-from_blocks n ps m.0 e g)
]

pub blocks-within : (ps : List Step) (b : ℕ) (ms : List (ℕ × ℕ)) (e : ℕ) → are_blocks ps b ms e ≡ true → b + length ms ≤ e
blocks-within ps b [] e h = let q : b ≡ e = eqb-true _ _ h in omega arith
blocks-within ps b (m ∷ ms) e h = let p = and_parts _ _ h in let lt = block-before ps m.0 b m.1 p.0 in let r = blocks-within ps m.1 ms e p.1 in omega arith

pub blocks-from_Blocks : (n : ℕ) (ps : List Step) (b : ℕ) (ms : List (ℕ × ℕ)) (e : ℕ) → length ms ≤ n → are_blocks ps b ms e ≡ true → blocks n ps b e ≡ true
unfolding blocks
blocks-from_Blocks zero ps b [] e le h = h
blocks-from_Blocks (suc n) ps b [] e le h = or_left _ _ h
blocks-from_Blocks zero ps b (m ∷ ms) e le h = absurd (omega arith)
blocks-from_Blocks (suc n) ps b (m ∷ ms) e le h = let p = and_parts _ _ h in
    let lt = block-before ps m.0 b m.1 p.0 in let w = blocks-within ps m.1 ms e p.1 in
    let k : m.1 ≤ b + (e - b) = omega arith in let shorter : length ms ≤ n = omega arith in
    let next = blocks-from_Blocks n ps m.1 ms e shorter p.1 in
    let q : list_any (λ x. is_block ps x b m.1) (all_variables (irredundant ps b)) ≡ true =
    any_from (λ x. is_block ps x b m.1) (all_variables (irredundant ps b)) m.0 (block-stands ps m.0 b m.1 p.0) p.0 in
    or_right _ _ (any_from (ends_block n ps b e) (places_behind b (e - b)) m.1 (places-from (e - b) b m.1 lt k) (rw (q, next) refl))

-- ---- Settled proofs

pub each_step-at : (test : List Step → Step → ℕ → Bool) (mid before : List Step) (k : ℕ) (ahead : List Step) (p : Step) (after : List Step)
    → ahead ≡ mid ++ p ∷ after → each_step test before k ahead ≡ true → test (before ++ mid) p (k + length mid) ≡ true
each_step-at test [] before k [] p after e h = cc e
each_step-at test (m ∷ ms) before k [] p after e h = cc e
each_step-at test [] before k (q ∷ qs) p after e h = let f : q ≡ p = cc e in let g : test before q k ≡ true = (and_parts _ _ h).0 in
    let z : k + 0 ≡ k = omega arith in rw (append-nil, z) (subst (λ w. test before w k ≡ true) f g)
each_step-at test (m ∷ ms) before k (q ∷ qs) p after e h = let f : q ≡ m = cc e in let g : qs ≡ ms ++ p ∷ after = cc e in
    let z : k + 1 + length ms ≡ k + length (m ∷ ms) = omega arith in
    let next = each_step-at test ms (before ++ q ∷ []) (k + 1) qs p after g (and_parts _ _ h).1 in
    let w : (before ++ q ∷ []) ++ ms ≡ before ++ m ∷ ms = append_assoc before (q ∷ []) ms ∙ ap (λ z. before ++ z ∷ ms) f in
    subst (λ v. test v p (k + length (m ∷ ms)) ≡ true) w (subst (λ v. test ((before ++ q ∷ []) ++ ms) p v ≡ true) z next)

pub each_step-from : (test : List Step → Step → ℕ → Bool) (before : List Step) (k : ℕ) (ahead : List Step)
    → ((mid : List Step) (p : Step) (after : List Step) → ahead ≡ mid ++ p ∷ after → test (before ++ mid) p (k + length mid) ≡ true) → each_step test before k ahead ≡ true
each_step-from test before k [] h = refl
each_step-from test before k (q ∷ qs) h =
    let first : test before q k ≡ true = let z : k + 0 ≡ k = omega arith in
    subst (λ v. test before q v ≡ true) z (subst (λ v. test v q (k + 0) ≡ true) (append-nil before) (h [] q qs refl)) in
    and_from _ _ first (each_step-from test (before ++ q ∷ []) (k + 1) qs (λ mid p after e.
    let r = h (q ∷ mid) p after (ap (λ z. q ∷ z) e) in
    let z : k + length (q ∷ mid) ≡ k + 1 + length mid = omega arith in
    subst (λ v. test v p (k + 1 + length mid) ≡ true) (sym (append_assoc before (q ∷ []) mid)) (subst (λ v. test (before ++ q ∷ mid) p v ≡ true) z r)))

-- the test of each step, by the splits of the steps
pub settled-at : (ps before : List Step) (p : Step) (after : List Step) → settled ps ≡ true → ps ≡ before ++ p ∷ after → is_settled_at ps before p (length before) ≡ true
unfolding settled
settled-at ps before p after h e = let z : 0 + length before ≡ length before = omega arith in
    subst (λ v. is_settled_at ps before p v ≡ true) z (each_step-at (is_settled_at ps) before [] 0 ps p after e h)

pub when_true : (b c : Bool) → cond b c true ≡ true → b ≡ true → c ≡ true
when_true b c h q = let g : c ≡ true = rw q at h in g

pub unless_false : (b c : Bool) → (b ≡ true → c ≡ true) → cond b c true ≡ true
unless_false true c h = h refl
unless_false false c h = refl

pub Settled-from_settled : (ps : List Step) → settled ps ≡ true → Settled ps
Settled-from_settled ps h = record {
  placed = λ before p after e. (and_parts _ _ (settled-at ps before p after h e)).0;
  parts = λ before p after e q. let r = (and_parts _ _ (and_parts _ _ (settled-at ps before p after h e)).1).0 in
      Blocks-from_blocks (length ps) ps (length before + 1) (last_weakened ps (length before + 1))
      (when_true (is_query p) (blocks (length ps) ps (length before + 1) (last_weakened ps (length before + 1))) r q);
  ends = λ before p after e q. let r = (and_parts _ _ (and_parts _ _ (settled-at ps before p after h e)).1).1 in
      when_true (is_status p) (is_eliminated ps before (length before)) r q;
}

to_last_weakening-le : (ps : List Step) → to_last_weakening ps ≤ length ps
to_last_weakening-le [] = omega arith
to_last_weakening-le (steps.Event e ∷ ps) = omega arith
to_last_weakening-le (steps.Weaken c ∷ ps) = let r = to_last_weakening-le ps in omega arith
to_last_weakening-le (steps.Lemma c ∷ ps) = let r = to_last_weakening-le ps in at_count (to_last_weakening ps) refl r
  where
    at_count : (n : ℕ) → to_last_weakening ps ≡ n → to_last_weakening ps ≤ length ps → to_last_weakening (steps.Lemma c ∷ ps) ≤ length (steps.Lemma c ∷ ps)
    at_count zero e r = rw e (omega arith)
    at_count (suc n) e r = rw e (let s : suc n ≤ length ps = rw e at r in omega arith)
to_last_weakening-le (steps.Delete c ∷ ps) = let r = to_last_weakening-le ps in at_count (to_last_weakening ps) refl r
  where
    at_count : (n : ℕ) → to_last_weakening ps ≡ n → to_last_weakening ps ≤ length ps → to_last_weakening (steps.Delete c ∷ ps) ≤ length (steps.Delete c ∷ ps)
    at_count zero e r = rw e (omega arith)
    at_count (suc n) e r = rw e (let s : suc n ≤ length ps = rw e at r in omega arith)
to_last_weakening-le (steps.Restore c ∷ ps) = let r = to_last_weakening-le ps in at_count (to_last_weakening ps) refl r
  where
    at_count : (n : ℕ) → to_last_weakening ps ≡ n → to_last_weakening ps ≤ length ps → to_last_weakening (steps.Restore c ∷ ps) ≤ length (steps.Restore c ∷ ps)
    at_count zero e r = rw e (omega arith)
    at_count (suc n) e r = rw e (let s : suc n ≤ length ps = rw e at r in omega arith)

pub last_weakened-le : (ps before : List Step) (p : Step) (after : List Step) → ps ≡ before ++ p ∷ after → last_weakened ps (length before + 1) ≤ length ps
last_weakened-le ps before p after e = let a = to_last_weakening-le (drop (length before + 1) ps) in let b = length-drop (length before + 1) ps in
    let c : length ps ≡ length before + length (p ∷ after) = ap length e ∙ length-append before (p ∷ after) in omega arith

pub settled-from_Settled : (ps : List Step) → Settled ps → settled ps ≡ true
unfolding settled
settled-from_Settled ps s = each_step-from (is_settled_at ps) [] 0 ps (λ mid p after e.
    let z : length mid ≡ 0 + length mid = omega arith in
    subst (λ v. is_settled_at ps mid p v ≡ true) z (and_from _ _ (s.placed mid p after e) (and_from _ _
    (unless_false (is_query p) (blocks (length ps) ps (length mid + 1) (last_weakened ps (length mid + 1)))
    (λ q. let r = s.parts mid p after e q in
    let w = blocks-within ps (length mid + 1) r.0 (last_weakened ps (length mid + 1)) r.1 in let l = last_weakened-le ps mid p after e in
    let k : length r.0 ≤ length ps = omega arith in
    blocks-from_Blocks (length ps) ps (length mid + 1) r.0 (last_weakened ps (length mid + 1)) k r.1))
    (unless_false (is_status p) (is_eliminated ps mid (length mid)) (λ q. s.ends mid p after e q)))))
