-- A part that has elimination blocks and then a search: its search lemmas, its turns, and that the proof stays balanced.
use Rattle.std.proofs.Common.{◌≡◌, ℕ, zero, suc, ◌+◌, ◌-◌, ◌<◌, ◌≤◌, Bool, true, false, not, ◌&&◌, nat_lt, List, [], ◌∷◌, ◌++◌, length, filter, filter_map, take, drop, refl, sym, ◌∙◌, subst, ap, inl, inr, arith, eqb-true, append-nil, length-append}
use Rattle.std.proofs.lemmas.List.Elements.{filter_map-append}
use Rattle.std.proofs.lemmas.List.Folds.{list_all-append}
use Rattle.std.proofs.Math.Seq.{drop-append_seam, take-add, take-length}
use Rattle.std.proofs.lemmas.Bool.{and_parts, and_from, cases_Bool, ltb-true, lt-ltb}
use Rattle.lits.proofs.Members.{filter_from}
use Rattle.lits.proofs.Sets.{same_set-itself}
use Rattle.session_rules.specs.declared.Event.{Event}
use Rattle.session_rules.specs.declared.Step.{Step}
use Rattle.session_rules.specs.declared.Step.TheVariants as steps
use Rattle.session_rules.specs.Logic.{same_set, is_tautology}
use Rattle.session_rules.specs.Own.{weakened_clause, added_clause, removed_clause, copies, active_copies, events_of}
use Rattle.session_rules.specs.History.{assumed}
use Rattle.restore.specs.Resolution.{has_variable}
use Rattle.elimination_laws.specs.Eligible.{how_many, forced, OftenAs}
use Rattle.elimination_laws.specs.Irredundant.{no_tautologies, irredundant, Balanced}
use Rattle.elimination_laws.specs.Parts.{is_search, in_part, part, more_weakening, to_last_weakening, lemma_clause, is_resolvent_step, search_lemmas}
use Rattle.elimination_laws.specs.Blocks.{turn, have_turns, in_turn, is_block_of, Blocks}
use Rattle.elimination_laws.specs.Told.{irredundant_told, active_told, is_told_block, are_told_blocks, ToldBlocks}
use Rattle.elimination_laws.proofs.Invariance.{OftenAs-from_test}
use Rattle.elimination_laws.proofs.Running.{more_weakening-le, lemma_before, weakens_on, how_many-append, filter-append, Balanced-run}
use Rattle.elimination_laws.proofs.Active.{copies-count}
use Rattle.elimination_laws.proofs.Telling.{told_blocks, shifted}
use Rattle.elimination_laws.proofs.Counting.{how_many-less_each}
use Rattle.elimination_laws.proofs.Searching.{no_weakening}
use Rattle.elimination_laws.proofs.Settling.{block-turns, block-weakens, block-eligible}
use Rattle.elimination_laws.proofs.Deciding.{eligible-occurs}

-- ---- Search lemmas

-- a part up to the next event
part-search : (search : List Step) (e : Event) (rest : List Step) → is_search search ≡ true → part (search ++ steps.Event e ∷ rest) ≡ search
part-search [] e rest t = refl
part-search (steps.Lemma c ∷ ps) e rest t = ap (λ z. steps.Lemma c ∷ z) (part-search ps e rest t)
part-search (steps.Delete c ∷ ps) e rest t = ap (λ z. steps.Delete c ∷ z) (part-search ps e rest t)
part-search (steps.Event d ∷ ps) e rest t = cc t
part-search (steps.Weaken c ∷ ps) e rest t = cc t
part-search (steps.Restore c ∷ ps) e rest t = cc t

part-run : (run tail : List Step) → have_turns run ≡ true → part (run ++ tail) ≡ run ++ part tail
part-run [] tail t = refl
part-run (steps.Lemma c ∷ ps) tail t = ap (λ z. steps.Lemma c ∷ z) (part-run ps tail t)
part-run (steps.Delete c ∷ ps) tail t = ap (λ z. steps.Delete c ∷ z) (part-run ps tail t)
part-run (steps.Weaken c ∷ ps) tail t = ap (λ z. steps.Weaken c ∷ z) (part-run ps tail t)
part-run (steps.Event d ∷ ps) tail t = cc t
part-run (steps.Restore c ∷ ps) tail t = cc t

-- the last weakening is that of the first steps, where they end with one and none follows
pub to_last_weakening-run : (run tail : List Step) → to_last_weakening run ≡ length run → to_last_weakening tail ≡ 0 → to_last_weakening (run ++ tail) ≡ length run
to_last_weakening-run [] tail w z = z
to_last_weakening-run (p ∷ run) tail w z = let n = more_weakening-le p (to_last_weakening run) (length run) w in
    ap (more_weakening p) (to_last_weakening-run run tail n z ∙ sym n) ∙ w

pub search_lemmas-split : (run search : List Step) (e : Event) (rest : List Step) → have_turns run ≡ true → to_last_weakening run ≡ length run → is_search search ≡ true
    → search_lemmas (run ++ (search ++ steps.Event e ∷ rest)) ≡ filter_map lemma_clause search
search_lemmas-split run search e rest t w s = let tail = search ++ steps.Event e ∷ rest in
    ap (λ n. filter_map lemma_clause (drop n (part (run ++ tail)))) (to_last_weakening-run run tail w (no_weakening search e rest s))
    ∙ ap (λ z. filter_map lemma_clause (drop (length run) z)) (part-run run tail t ∙ ap (λ z. run ++ z) (part-search search e rest s))
    ∙ ap (filter_map lemma_clause) (drop-append_seam run search)

-- a lemma before a part's last weakening is a resolvent step, and one behind it isn't
pub lemma-resolvent : (before : List Step) (c : List ℕ) (run rest : List Step) → in_part before ≡ true → to_last_weakening (steps.Lemma c ∷ run) ≡ length (steps.Lemma c ∷ run)
    → is_resolvent_step before (run ++ rest) ≡ true
lemma-resolvent before c run rest i w = let g : 0 < to_last_weakening (run ++ rest) = weakens_on run rest (lemma_before c (to_last_weakening run) (length run) w) in and_from _ _ i (lt-ltb _ _ g)

pub lemma-searched : (before search : List Step) (e : Event) (rest : List Step) → is_search search ≡ true → is_resolvent_step before (search ++ steps.Event e ∷ rest) ≡ false
lemma-searched before search e rest s = let z = no_weakening search e rest s in elim (cases_Bool (in_part before)) [ inl q ↦ rw (q, z) refl | inr q ↦ rw q refl ]

-- ---- The turns of a block

-- steps in turn have turns
in_turn-turns : (n : ℕ) (run : List Step) → in_turn n run ≡ true → have_turns run ≡ true
in_turn-turns n [] h = refl
in_turn-turns n (p ∷ ps) h = let r = and_parts (nat_lt 0 (turn p)) (not (nat_lt (turn p) n) && in_turn (turn p) ps) h in
    and_from _ _ r.0 (in_turn-turns (turn p) ps (and_parts (not (nat_lt (turn p) n)) (in_turn (turn p) ps) r.1).1)

-- behind a weakening come weakenings alone
weakened_first : (p : Step) (ps : List Step) → in_turn 3 (p ∷ ps) ≡ true → 0 < length (filter_map weakened_clause (p ∷ ps))
weakened_first (steps.Weaken c) ps h = omega arith
weakened_first (steps.Event e) ps h = cc h
weakened_first (steps.Restore c) ps h = cc h
weakened_first (steps.Lemma c) ps h = cc h
weakened_first (steps.Delete c) ps h = cc h

-- steps in turn with a weakening end with one
in_turn-ends : (n : ℕ) (run : List Step) → in_turn n run ≡ true → 0 < length (filter_map weakened_clause run) → to_last_weakening run ≡ length run
in_turn-ends n [] h w = absurd (omega arith)
in_turn-ends n (steps.Event e ∷ ps) h w = cc h
in_turn-ends n (steps.Restore c ∷ ps) h w = cc h
in_turn-ends n (steps.Lemma c ∷ ps) h w = let r = (and_parts (not (nat_lt 1 n)) (in_turn 1 ps) h).1 in lemma_end (to_last_weakening ps) (length ps) (in_turn-ends 1 ps r w) (weakened_length ps w)
  where
    weakened_length : (ps : List Step) → 0 < length (filter_map weakened_clause ps) → 0 < length ps
    weakened_length [] w = absurd (omega arith)
    weakened_length (p ∷ ps) w = omega arith

    lemma_end : (n m : ℕ) → n ≡ m → 0 < m → more_weakening (steps.Lemma c) n ≡ suc m
    lemma_end zero m e g = absurd (omega arith)
    lemma_end (suc n) m e g = omega arith
in_turn-ends n (steps.Delete c ∷ ps) h w = let r = (and_parts (not (nat_lt 2 n)) (in_turn 2 ps) h).1 in delete_end (to_last_weakening ps) (length ps) (in_turn-ends 2 ps r w) (weakened_length ps w)
  where
    weakened_length : (ps : List Step) → 0 < length (filter_map weakened_clause ps) → 0 < length ps
    weakened_length [] w = absurd (omega arith)
    weakened_length (p ∷ ps) w = omega arith

    delete_end : (n m : ℕ) → n ≡ m → 0 < m → more_weakening (steps.Delete c) n ≡ suc m
    delete_end zero m e g = absurd (omega arith)
    delete_end (suc n) m e g = omega arith
in_turn-ends n (steps.Weaken c ∷ []) h w = refl
in_turn-ends n (steps.Weaken c ∷ (p ∷ ps)) h w = let r = (and_parts (not (nat_lt 3 n)) (in_turn 3 (p ∷ ps)) h).1 in
    let e = in_turn-ends 3 (p ∷ ps) r (weakened_first p ps r) in omega arith

-- a block has turns, and ends with a weakening
module _ (x : ℕ) (irr active after : List (List ℕ)) (frozen : List ℕ) (run : List Step) (h : is_block_of x irr active after frozen run ≡ true) where
  pub block-have_turns : have_turns run ≡ true
  block-have_turns = in_turn-turns 1 run (block-turns x irr active after frozen run h)

  some_weakened : 0 < length (filter_map weakened_clause run)
  some_weakened = let c = eligible-occurs irr frozen (forced active) x (block-eligible x irr active after frozen run h) in
      let m = filter_from (same_set c.0) (filter (has_variable x) irr) c.0 (filter_from (has_variable x) irr c.0 c.1 c.2) (same_set-itself c.0) in let lt = m.1 in
      let o = OftenAs-from_test (filter_map weakened_clause run) (filter (has_variable x) irr) (block-weakens x irr active after frozen run h) c.0 in
      let g : 0 < how_many (same_set c.0) (filter_map weakened_clause run) = omega arith in
      some_of (same_set c.0) (filter_map weakened_clause run) g
    where
      some_of : (t : List ℕ → Bool) (cs : List (List ℕ)) → 0 < length (filter t cs) → 0 < length cs
      some_of t [] g = absurd (omega arith)
      some_of t (c ∷ cs) g = omega arith

  pub block-ends : to_last_weakening run ≡ length run
  block-ends = in_turn-ends 1 run (block-turns x irr active after frozen run h) some_weakened

  -- and weakens no clause more often than it was irredundant
  pub block-weakens_irredundant : (c : List ℕ) → how_many (same_set c) (filter_map weakened_clause run) ≤ how_many (same_set c) irr
  block-weakens_irredundant c = let o = OftenAs-from_test (filter_map weakened_clause run) (filter (has_variable x) irr) (block-weakens x irr active after frozen run h) c in
      let n = narrowed (same_set c) irr in omega arith
    where
      narrowed : (t : List ℕ → Bool) (cs : List (List ℕ)) → how_many t (filter (has_variable x) cs) ≤ how_many t cs
      narrowed t [] = omega arith
      narrowed t (c ∷ cs) = let next = narrowed t cs in elim (cases_Bool (has_variable x c)) [
        | inl q ↦ elim (cases_Bool (t c)) [ inl k ↦ rw (q, k) (omega arith) | inr k ↦ rw (q, k) (omega arith) ]
        | inr q ↦ elim (cases_Bool (t c)) [ inl k ↦ rw (q, k) (omega arith) | inr k ↦ rw (q, k) (omega arith) ]
      ]

-- ---- The blocks that a board tells

-- steps with turns that end with a weakening, one behind the other
ends-append : (xs ys : List Step) → have_turns xs ≡ true → to_last_weakening xs ≡ length xs → to_last_weakening ys ≡ length ys → to_last_weakening (xs ++ ys) ≡ length (xs ++ ys)
ends-append xs [] t e f = subst (λ z. to_last_weakening z ≡ length z) (sym (append-nil xs)) e
ends-append xs (y ∷ ys) t e f = onto xs t
  where
    more : (p : Step) (n m : ℕ) → nat_lt 0 (turn p) ≡ true → n ≡ suc m → more_weakening p n ≡ suc (suc m)
    more (steps.Event d) n m t e = cc t
    more (steps.Restore c) n m t e = cc t
    more (steps.Weaken c) n m t e = omega arith
    more (steps.Lemma c) zero m t e = cc e
    more (steps.Lemma c) (suc n) m t e = omega arith
    more (steps.Delete c) zero m t e = cc e
    more (steps.Delete c) (suc n) m t e = omega arith

    onto : (xs : List Step) → have_turns xs ≡ true → to_last_weakening (xs ++ y ∷ ys) ≡ length (xs ++ y ∷ ys)
    onto [] t = f
    onto (p ∷ xs) t = let r = and_parts (nat_lt 0 (turn p)) (have_turns xs) t in let next = onto xs r.1 in
        let l = length-append xs (y ∷ ys) in let n : length (xs ++ y ∷ ys) ≡ suc (length xs + length ys) = omega arith in
        more p (to_last_weakening (xs ++ y ∷ ys)) (length xs + length ys) r.0 (next ∙ n) ∙ ap suc (sym n)

-- steps as blocks are: with turns, with a weakening at their end, and of no clause more weakenings than there were and came
pub record AreRun (irr : List (List ℕ)) (ps : List Step) : Type 0 where
  pub turns : have_turns ps ≡ true
  pub ends : to_last_weakening ps ≡ length ps
  pub weakens : (c : List ℕ) → how_many (same_set c) (filter_map weakened_clause ps) ≤ how_many (same_set c) irr + how_many (same_set c) (no_tautologies (filter_map lemma_clause ps))

pub AreRun-nil : (irr : List (List ℕ)) → AreRun irr []
AreRun-nil irr = record { turns = refl; ends = refl; weakens = λ c. omega arith }

-- one more block
pub AreRun-block : (x : ℕ) (irr active after : List (List ℕ)) (frozen : List ℕ) (xs ys : List Step) → AreRun irr xs → is_block_of x (irredundant_told irr xs) active after frozen ys ≡ true → AreRun irr (xs ++ ys)
AreRun-block x irr active after frozen xs ys r h = let turns = block-have_turns x (irredundant_told irr xs) active after frozen ys h in record {
  turns = list_all-append (λ p. nat_lt 0 (turn p)) xs ys ∙ and_from _ _ r.turns turns;
  ends = ends-append xs ys r.turns r.ends (block-ends x (irredundant_told irr xs) active after frozen ys h);
  weakens = λ c. let t = same_set c in let keep = λ (c : List ℕ). not (is_tautology c) in
      let w = ap (how_many t) (filter_map-append weakened_clause xs ys) ∙ how_many-append t (filter_map weakened_clause xs) (filter_map weakened_clause ys) in
      let l = ap (λ z. how_many t (no_tautologies z)) (filter_map-append lemma_clause xs ys) ∙ ap (how_many t) (filter-append keep (filter_map lemma_clause xs) (filter_map lemma_clause ys))
      ∙ how_many-append t (no_tautologies (filter_map lemma_clause xs)) (no_tautologies (filter_map lemma_clause ys)) in
      let b = block-weakens_irredundant x (irredundant_told irr xs) active after frozen ys h c in
      let i = how_many-less_each c (filter_map weakened_clause xs) (irr ++ no_tautologies (filter_map lemma_clause xs)) in
      let j = how_many-append t irr (no_tautologies (filter_map lemma_clause xs)) in
      let k = r.weakens c in
      by_numbers (how_many t (filter_map weakened_clause (xs ++ ys))) (how_many t (filter_map weakened_clause xs)) (how_many t (filter_map weakened_clause ys))
      (how_many t (no_tautologies (filter_map lemma_clause (xs ++ ys)))) (how_many t (no_tautologies (filter_map lemma_clause xs))) (how_many t (no_tautologies (filter_map lemma_clause ys)))
      (how_many t irr) (how_many t (irredundant_told irr xs)) (how_many t (irr ++ no_tautologies (filter_map lemma_clause xs))) w l b i j k;
}
  where
    by_numbers : (w wx wy l lx ly i r s : ℕ) → w ≡ wx + wy → l ≡ lx + ly → wy ≤ r → r ≡ s - wx → s ≡ i + lx → wx ≤ i + lx → w ≤ i + l
    by_numbers w wx wy l lx ly i r s a b c d e f = omega arith

module _ (irr active : List (List ℕ)) (frozen : List ℕ) (run : List Step) where
  told-run : (b : ℕ) (ms : List (ℕ × ℕ)) (e : ℕ) → e ≤ length run → are_told_blocks irr active frozen run b ms e ≡ true → AreRun irr (take b run) → AreRun irr (take e run)
  told-run b [] e le h r = subst (λ z. AreRun irr (take z run)) (eqb-true _ _ h) r
  told-run b (m ∷ ms) e le h r =
      let p = and_parts (is_told_block irr active frozen run m.0 b m.1) (are_told_blocks irr active frozen run m.1 ms e) h in
      let ys = take (m.1 - b) (drop b run) in
      let q = and_parts (nat_lt b m.1) (is_block_of m.0 (irredundant_told irr (take b run)) (active_told active (take b run)) (active_told active (take m.1 run)) frozen ys) p.0 in
      let lt : b < m.1 = ltb-true _ _ q.0 in let z : b + (m.1 - b) ≡ m.1 = omega arith in
      let is : take m.1 run ≡ take b run ++ ys = ap (λ n. take n run) (sym z) ∙ take-add b (m.1 - b) run in
      told-run m.1 ms e le p.1 (subst (λ z. AreRun irr z) (sym is)
      (AreRun-block m.0 irr (active_told active (take b run)) (active_told active (take m.1 run)) frozen (take b run) ys r q.1))

  pub ToldBlocks-run : ToldBlocks irr active frozen run → AreRun irr run
  ToldBlocks-run t = let le : length run ≤ length run = omega arith in
      subst (λ z. AreRun irr z) (take-length run) (told-run 0 t.0 (length run) le t.1 (AreRun-nil irr))

-- so they are blocks of the proof that they are written to
pub Blocks-from_told : (irr active : List (List ℕ)) (ps run rest : List Step) → in_part ps ≡ true → Balanced (ps ++ (run ++ rest)) (length ps)
    → ((c : List ℕ) → how_many (same_set c) (filter_map removed_clause ps) ≤ how_many (same_set c) (filter_map added_clause ps))
    → OftenAs irr (irredundant (ps ++ (run ++ rest)) (length ps))
    → ((c : List ℕ) → how_many (same_set c) active ≡ how_many (same_set c) (filter_map added_clause ps) - how_many (same_set c) (filter_map removed_clause ps))
    → ToldBlocks irr active (assumed (events_of ps)) run → Blocks (ps ++ (run ++ rest)) (length ps + 0) (length ps + length run)
Blocks-from_told irr active ps run rest i b f o a t = let r = ToldBlocks-run irr active (assumed (events_of ps)) run t in let le : length run ≤ length run = omega arith in
    (shifted irr active ps run rest i r.turns r.ends b f o a t.0, told_blocks irr active ps run rest i r.turns r.ends b f o a 0 t.0 (length run) le t.1)

-- the same where copies are counted
pub Blocks-from_copies : (irr active : List (List ℕ)) (ps run rest : List Step) → in_part ps ≡ true → Balanced (ps ++ (run ++ rest)) (length ps)
    → ((c : List ℕ) → copies removed_clause ps c ≤ copies added_clause ps c)
    → OftenAs irr (irredundant (ps ++ (run ++ rest)) (length ps)) → ((c : List ℕ) → how_many (same_set c) active ≡ active_copies ps c)
    → ToldBlocks irr active (assumed (events_of ps)) run → Blocks (ps ++ (run ++ rest)) (length ps + 0) (length ps + length run)
Blocks-from_copies irr active ps run rest i b f o a = Blocks-from_told irr active ps run rest i b
    (λ c. let r = copies-count removed_clause ps c in let g = copies-count added_clause ps c in let le = f c in omega arith) o
    (λ c. let r = copies-count removed_clause ps c in let g = copies-count added_clause ps c in let e = a c in omega arith)

pub Balanced-told : (irr active : List (List ℕ)) (frozen : List ℕ) (ps run rest : List Step) → in_part ps ≡ true → Balanced (ps ++ (run ++ rest)) (length ps)
    → OftenAs irr (irredundant (ps ++ (run ++ rest)) (length ps)) → ToldBlocks irr active frozen run → Balanced (ps ++ (run ++ rest)) (length ps + length run)
Balanced-told irr active frozen ps run rest i b o t = let r = ToldBlocks-run irr active frozen run t in
    Balanced-run ps run rest i r.turns r.ends b (λ c. let w = r.weakens c in let e = o c in omega arith)
