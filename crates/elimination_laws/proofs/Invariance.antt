-- Whether steps are a block depends on how often each set stands in the irredundant clauses, and on the sets of the active ones.
use Rattle.std.proofs.Common.{◌≡◌, ℕ, zero, suc, ◌<◌, Bool, true, false, not, ◌&&◌, ◌||◌, nat_eq, List, [], ◌∷◌, ◌++◌, length, filter, filter_map, Contains, refl, sym, ◌∙◌, subst, ap, inl, inr, arith, eqb-true, eq-eqb}
use Rattle.std.specs.List.{list_any, list_all}
use Rattle.std.proofs.lemmas.Bool.{and_parts, and_from, or_cases, or_left, or_right, cases_Bool, both_ways, not-true, not_from_false}
use Rattle.lits.specs.Literal.{neg}
use Rattle.lits.proofs.Members.{here, all_at, all_from, any_at, any_from, filter_from, filter_at, has_at, has_from}
use Rattle.lits.proofs.Sets.{part_at, same_set-flip, same_set-chain, tautology-same}
use Rattle.session_rules.specs.declared.Step.{Step}
use Rattle.session_rules.specs.Logic.{has, is_part, same_set, is_tautology, is_falsified, is_unit, is_closed, Propagates, trues_after, Closes, Forced, closes}
use Rattle.session_rules.proofs.Closing.{Closes-from_closes}
use Rattle.session_rules.proofs.Rounds.{closes-from_Closes}
use Rattle.session_rules.specs.Own.{weakened_clause}
use Rattle.restore.specs.Resolution.{of_variable, is_plain, is_negated, has_variable, holds, holds_negated, resolvent, resolvents}
use Rattle.restore.specs.Stack.{has_set, differ, due_resolvents, are_due}
use Rattle.restore.proofs.Joined.{append_left, append_right}
use Rattle.restore.proofs.Keeping.{resolvents_at, resolvents_from}
use Rattle.elimination_laws.specs.Eligible.{how_many, eligible, forced, OftenAs, Covered}
use Rattle.elimination_laws.specs.Parts.{lemma_clause, deleted_clause}
use Rattle.elimination_laws.specs.Blocks.{equally_often, is_block_of, IsBlock}
use Rattle.elimination_laws.proofs.Settling.{block-turns, block-gone, block-open, block-eligible, block-writes, block-deletes, block-weakens}
use Rattle.elimination_laws.proofs.Forcing.{Forced-from_forced, forced-from_Forced}
use Rattle.elimination_laws.proofs.Counting.{any_same, resolvent_same, how_many-same, often_at}
use Rattle.elimination_laws.proofs.Deciding.{eligible-often, eligible-fewer}
use Rattle.std.specs.Cmp as cmp

-- ---- Clauses with the same sets propagate alike

unit_same : (trues c d : List ℕ) (l : ℕ) → same_set c d ≡ true → is_unit trues c l ≡ true → is_unit trues d l ≡ true
unit_same trues c d l s u = let p = and_parts (is_part c d) (is_part d c) s in let q = and_parts _ _ u in
    and_from _ _ (has_from d l (part_at c d p.0 l (has_at c l q.0)))
    (all_from (λ m. nat_eq l m || has trues (neg m)) d (λ m n. all_at (λ m. nat_eq l m || has trues (neg m)) c m q.1 (part_at d c p.1 m n)))

falsified_same : (trues c d : List ℕ) → same_set c d ≡ true → is_falsified trues c ≡ true → is_falsified trues d ≡ true
falsified_same trues c d s h = let p = and_parts (is_part c d) (is_part d c) s in
    all_from (λ m. has trues (neg m)) d (λ m n. all_at (λ m. has trues (neg m)) c m h (part_at d c p.1 m n))

covered_pairs : (cs ds : List (List ℕ)) → Covered cs ds → (ps : List (List ℕ × ℕ)) (trues : List ℕ) → Propagates cs trues ps
    → (qs : List (List ℕ × ℕ)) × Propagates ds trues qs × (trues_after trues qs ≡ trues_after trues ps)
covered_pairs cs ds v [] trues h = ([], tt, refl)
covered_pairs cs ds v (p ∷ ps) trues h = let d = any_at (same_set p.0) ds (v p.0 h.0) in let r = covered_pairs cs ds v ps (p.1 ∷ trues) h.2 in
    ((d.0, p.1) ∷ r.0, (d.1, unit_same trues p.0 d.0 p.1 d.2 h.1, r.1), r.2)

pub Closes-covered : (cs ds : List (List ℕ)) (ls : List ℕ) → Covered cs ds → Closes cs ls → Closes ds ls
Closes-covered cs ds ls v r = let q = covered_pairs cs ds v r.0 ls r.1 in
    (q.0, q.1, subst (λ z. is_closed ds z ≡ true) (sym q.2) (closed (trues_after ls r.0) r.2))
  where
    closed : (trues : List ℕ) → is_closed cs trues ≡ true → is_closed ds trues ≡ true
    closed trues h = elim (or_cases (is_tautology trues) (list_any (is_falsified trues) cs) h) [
      | inl t ↦ or_left (is_tautology trues) (list_any (is_falsified trues) ds) t
      | inr f ↦ let c = any_at (is_falsified trues) cs f in let d = any_at (same_set c.0) ds (v c.0 c.1) in
          or_right (is_tautology trues) (list_any (is_falsified trues) ds) (any_from (is_falsified trues) ds d.0 d.1 (falsified_same trues c.0 d.0 d.2 c.2))
    ]

pub Forced-covered : (cs ds : List (List ℕ)) (l : ℕ) → Covered cs ds → Forced cs l → Forced ds l
Forced-covered cs ds l v f = let q = covered_pairs cs ds v f.0 [] f.1 in (q.0, q.1, subst (λ z. has z l ≡ true) (sym q.2) f.2)

-- ---- Counts

pub same_set-left : (c d e : List ℕ) → same_set c d ≡ true → same_set c e ≡ same_set d e
same_set-left c d e s = cmp.both_ways _ _ (λ h. same_set-chain d c e (same_set-flip c d s) h) (λ h. same_set-chain c d e s h)

pub how_many-ext : (p q : List ℕ → Bool) → ((c : List ℕ) → p c ≡ q c) → (cs : List (List ℕ)) → how_many p cs ≡ how_many q cs
how_many-ext p q h [] = refl
how_many-ext p q h (c ∷ cs) = let next = how_many-ext p q h cs in elim (cases_Bool (q c)) [
  | inl k ↦ rw (h c, k) (ap suc next)
  | inr k ↦ rw (h c, k) next
]

pub has_positive : (cs : List (List ℕ)) (c : List ℕ) → 0 < how_many (same_set c) cs → (d : List ℕ) × Contains cs d × (same_set c d ≡ true)
has_positive cs c g = first_at (filter (same_set c) cs) g (λ d k. filter_at (same_set c) cs d k)
  where
    first_at : (fs : List (List ℕ)) → 0 < length fs → ((d : List ℕ) → Contains fs d → Contains cs d × (same_set c d ≡ true)) → (d : List ℕ) × Contains cs d × (same_set c d ≡ true)
    first_at [] g h = absurd (omega arith)
    first_at (f ∷ fs) g h = let r = h f (here f fs) in (f, r.0, r.1)

-- the test of equal counts agrees with the relation
pub OftenAs-from_test : (cs ds : List (List ℕ)) → equally_often cs ds ≡ true → OftenAs cs ds
OftenAs-from_test cs ds h = λ c. by_counts c (how_many (same_set c) cs) (how_many (same_set c) ds) refl refl
  where
    at_copy : (c d : List ℕ) → Contains (cs ++ ds) d → same_set c d ≡ true → how_many (same_set c) cs ≡ how_many (same_set c) ds
    at_copy c d m s = let e = eqb-true _ _ (all_at (λ c. nat_eq (how_many (same_set c) cs) (how_many (same_set c) ds)) (cs ++ ds) d h m) in
        how_many-ext (same_set c) (same_set d) (λ e. same_set-left c d e s) cs ∙ e ∙ sym (how_many-ext (same_set c) (same_set d) (λ e. same_set-left c d e s) ds)

    by_counts : (c : List ℕ) (m n : ℕ) → how_many (same_set c) cs ≡ m → how_many (same_set c) ds ≡ n → how_many (same_set c) cs ≡ how_many (same_set c) ds
    by_counts c zero zero e f = e ∙ sym f
    by_counts c (suc m) n e f = let g : 0 < how_many (same_set c) cs = omega arith in let d = has_positive cs c g in at_copy c d.0 (append_left cs ds d.0 d.1) d.2
    by_counts c zero (suc n) e f = let g : 0 < how_many (same_set c) ds = omega arith in let d = has_positive ds c g in at_copy c d.0 (append_right cs ds d.0 d.1) d.2

pub test-from_OftenAs : (cs ds : List (List ℕ)) → OftenAs cs ds → equally_often cs ds ≡ true
test-from_OftenAs cs ds o = all_from (λ c. nat_eq (how_many (same_set c) cs) (how_many (same_set c) ds)) (cs ++ ds) (λ c m. eq-eqb _ _ (o c))

-- ---- Blocks

-- one direction of what a block depends on
module _ (x : ℕ) (irr jrr active bctive after bfter : List (List ℕ)) (frozen : List ℕ) (o : OftenAs irr jrr) (ab : Covered active bctive) (ba : Covered bctive active)
    (fg : Covered bfter after) where
  back : OftenAs jrr irr
  back = λ c. sym (o c)

  open_same : closes active [] ≡ false → closes bctive [] ≡ false
  open_same h = elim (cases_Bool (closes bctive [])) [
    | inl q ↦ absurd (both_ways _ h (closes-from_Closes active [] (Closes-covered bctive active [] ba (Closes-from_closes bctive [] q))))
    | inr q ↦ q
  ]

  eligible_same : closes active [] ≡ false → eligible irr frozen (forced active) x ≡ true → eligible jrr frozen (forced bctive) x ≡ true
  eligible_same n h = eligible-fewer jrr frozen frozen (forced active) (forced bctive) x (λ l m. m)
      (λ l m. has_at (forced active) l (forced-from_Forced active l n (Forced-covered bctive active l ba (Forced-from_forced bctive l (has_from (forced bctive) l m)))))
      (sym (eligible-often irr jrr frozen (forced active) x o) ∙ h)

  set_back : (r s : List ℕ) → same_set r s ≡ true → has_set irr r ≡ false → has_set jrr s ≡ false
  set_back r s e h = elim (cases_Bool (has_set jrr s)) [
    | inl q ↦ let c = any_at (same_set s) jrr q in let d = often_at jrr irr c.0 back c.1 in
        absurd (both_ways _ h (any_from (same_set r) irr d.0 d.1 (same_set-chain r s d.0 e (same_set-chain s c.0 d.0 c.2 d.2))))
    | inr q ↦ q
  ]

  -- a resolvent that is due of the first is due of the second
  due_same : (r : List ℕ) → Contains (due_resolvents x irr) r → (s : List ℕ) × Contains (due_resolvents x jrr) s × (same_set r s ≡ true)
  due_same r m = let k = filter_at (λ r. not (has_set irr r)) (resolvents x irr) r m in let p = resolvents_at x irr r k.0 in
      let c = often_at irr jrr p.0 o p.2 in let d = often_at irr jrr p.1 o p.3 in
      let s = resolvent_same x p.0 c.0 p.1 d.0 c.2 d.2 in
      let e : same_set r (resolvent x c.0 d.0) ≡ true = subst (λ z. same_set z (resolvent x c.0 d.0) ≡ true) p.7 s in
      let t : is_tautology (resolvent x c.0 d.0) ≡ false = sym (tautology-same r (resolvent x c.0 d.0) e) ∙ p.6 in
      let a : holds x c.0 ≡ true = sym (any_same (is_plain x) p.0 c.0 c.2) ∙ p.4 in
      let b : holds_negated x d.0 ≡ true = sym (any_same (is_negated x) p.1 d.0 d.2) ∙ p.5 in
      let n = resolvents_from x jrr c.0 d.0 c.1 d.1 a b t in
      (resolvent x c.0 d.0, filter_from (λ r. not (has_set jrr r)) (resolvents x jrr) (resolvent x c.0 d.0) n (not_from_false _ (set_back r (resolvent x c.0 d.0) e (not-true _ k.1))), e)

  -- the weakened clauses are as often those of the second
  mentioning_same : (c : List ℕ) → how_many (same_set c) (filter (has_variable x) irr) ≡ how_many (same_set c) (filter (has_variable x) jrr)
  mentioning_same c = both_tests irr ∙ how_many-same (λ d. has_variable x d && same_set c d) (λ d e s. cc (any_same (of_variable x) d e s, right d e s)) irr jrr o ∙ sym (both_tests jrr)
    where
      right : (d e : List ℕ) → same_set d e ≡ true → same_set c d ≡ same_set c e
      right d e s = cmp.both_ways (same_set c d) (same_set c e) (λ h. same_set-chain c d e h s) (λ h. same_set-chain c e d h (same_set-flip d e s))

      both_tests : (ds : List (List ℕ)) → how_many (same_set c) (filter (has_variable x) ds) ≡ how_many (λ d. has_variable x d && same_set c d) ds
      both_tests [] = refl
      both_tests (d ∷ ds) = let next = both_tests ds in elim (cases_Bool (has_variable x d)) [
        | inl q ↦ elim (cases_Bool (same_set c d)) [ inl s ↦ rw (q, s) (ap suc next) | inr s ↦ rw (q, s) next ]
        | inr q ↦ rw q next
      ]

  block_one_way : (run : List Step) → is_block_of x irr active after frozen run ≡ true → (due_back : (r : List ℕ) → Contains (due_resolvents x jrr) r → (s : List ℕ) × Contains (due_resolvents x irr) s × (same_set r s ≡ true))
      → is_block_of x jrr bctive bfter frozen run ≡ true
  unfolding is_block_of
  block_one_way run h due_back =
      let ls = filter_map lemma_clause run in let ws = filter_map weakened_clause run in
      let h1 = (and_parts _ _ h).0 in let h2 = (and_parts _ _ h).1 in
      let turn = (and_parts _ _ (and_parts _ _ h1).0).0 in let n = not-true _ (and_parts _ _ (and_parts _ _ h1).0).1 in let e = (and_parts _ _ h1).1 in
      let w = (and_parts _ _ (and_parts _ _ h2).0).0 in let dels = (and_parts _ _ (and_parts _ _ h2).0).1 in
      let often = (and_parts _ _ (and_parts _ _ h2).1).0 in let gone = (and_parts _ _ (and_parts _ _ h2).1).1 in
      let w1 = and_parts (differ ls) (list_all (has_set (due_resolvents x irr)) ls && list_all (has_set ls) (due_resolvents x irr)) w in
      let w2 = and_parts (list_all (has_set (due_resolvents x irr)) ls) (list_all (has_set ls) (due_resolvents x irr)) w1.1 in
      let new_w : are_due x jrr ls ≡ true = and_from _ _ w1.0 (and_from _ _
      (all_from (has_set (due_resolvents x jrr)) ls (λ l m. let r = any_at (same_set l) (due_resolvents x irr) (all_at (has_set (due_resolvents x irr)) ls l w2.0 m) in let s = due_same r.0 r.1 in
      any_from (same_set l) (due_resolvents x jrr) s.0 s.1 (same_set-chain l r.0 s.0 r.2 s.2)))
      (all_from (has_set ls) (due_resolvents x jrr) (λ r m. let s = due_back r m in let l = any_at (same_set s.0) ls (all_at (has_set ls) (due_resolvents x irr) s.0 w2.1 s.1) in
      any_from (same_set r) ls l.0 l.1 (same_set-chain r s.0 l.0 s.2 l.2)))) in
      let new_often : equally_often ws (filter (has_variable x) jrr) ≡ true = test-from_OftenAs ws (filter (has_variable x) jrr)
      (λ c. OftenAs-from_test ws (filter (has_variable x) irr) often c ∙ mentioning_same c) in
      let new_gone : list_all (λ c. not (has_variable x c) || is_tautology c) bfter ≡ true = all_from (λ c. not (has_variable x c) || is_tautology c) bfter (λ c m.
      let d = any_at (same_set c) after (fg c m) in
      let i = any_same (of_variable x) c d.0 d.2 in let j = tautology-same c d.0 d.2 in rw (i, j) (all_at (λ c. not (has_variable x c) || is_tautology c) after d.0 gone d.1)) in
      and_from _ _ (and_from _ _ (and_from _ _ turn (not_from_false _ (open_same n))) (eligible_same n e))
      (and_from _ _ (and_from _ _ new_w dels) (and_from _ _ new_often new_gone))

-- a block is one also by other lists with as many irredundant clauses of each set, and the same sets of active ones
pub block-same : (x : ℕ) (irr jrr active bctive after bfter : List (List ℕ)) (frozen : List ℕ) (run : List Step) → OftenAs irr jrr → Covered active bctive → Covered bctive active
    → Covered after bfter → Covered bfter after → is_block_of x irr active after frozen run ≡ is_block_of x jrr bctive bfter frozen run
block-same x irr jrr active bctive after bfter frozen run o ab ba fg gf =
    let there_due = due_same x irr jrr active bctive after bfter frozen o ab ba gf in
    let back_due = due_same x jrr irr bctive active bfter after frozen (λ c. sym (o c)) ba ab fg in
    cmp.both_ways _ _
    (λ h. block_one_way x irr jrr active bctive after bfter frozen o ab ba gf run h back_due)
    (λ h. block_one_way x jrr irr bctive active bfter after frozen (λ c. sym (o c)) ba ab fg run h there_due)

-- ---- The test of a block agrees with its points

gone_at : (m t : Bool) → (not m || t) ≡ true → m ≡ true → t ≡ true
gone_at true t h q = h
gone_at false t h q = cc q

gone_from : (m t : Bool) → (m ≡ true → t ≡ true) → (not m || t) ≡ true
gone_from true t h = h refl
gone_from false t h = refl

module _ (x : ℕ) (irr active after : List (List ℕ)) (frozen : List ℕ) (run : List Step) where
  pub IsBlock-from_test : is_block_of x irr active after frozen run ≡ true → IsBlock x irr active after frozen run
  IsBlock-from_test h = record {
    in_order = block-turns x irr active after frozen run h;
    unclosed = block-open x irr active after frozen run h;
    may_go = block-eligible x irr active after frozen run h;
    writes = block-writes x irr active after frozen run h;
    deletes = λ c m. all_at (λ c. has_variable x c && not (is_tautology c)) (filter_map deleted_clause run) c (block-deletes x irr active after frozen run h) m;
    weakens = OftenAs-from_test (filter_map weakened_clause run) (filter (has_variable x) irr) (block-weakens x irr active after frozen run h);
    gone = λ c m q. gone_at (has_variable x c) (is_tautology c) (all_at (λ c. not (has_variable x c) || is_tautology c) after c (block-gone x irr active after frozen run h) m) q;
  }

  pub test-from_IsBlock : IsBlock x irr active after frozen run → is_block_of x irr active after frozen run ≡ true
  unfolding is_block_of
  test-from_IsBlock b = and_from _ _ (and_from _ _ (and_from _ _ b.in_order (not_from_false _ b.unclosed)) b.may_go)
      (and_from _ _ (and_from _ _ b.writes (all_from (λ c. has_variable x c && not (is_tautology c)) (filter_map deleted_clause run) b.deletes))
      (and_from _ _ (test-from_OftenAs (filter_map weakened_clause run) (filter (has_variable x) irr) b.weakens)
      (all_from (λ c. not (has_variable x c) || is_tautology c) after (λ c m. gone_from (has_variable x c) (is_tautology c) (b.gone c m)))))
