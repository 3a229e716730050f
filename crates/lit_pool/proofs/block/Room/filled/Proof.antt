-- `filled` writes one literal a turn.
use Rattle.std.proofs.Common.{◌≡◌, ℕ, suc, ◌+◌, ◌-◌, ◌*◌, ◌^◌, ◌<◌, ◌≤◌, List, [], ◌∷◌, replicate, refl, sym, arith, lit<, ltb→lt, nltb→le}
use Rattle.std.proofs.raw_atomic.Walks.{proved, leaves}
use Rattle.std.proofs.alloc.Calls.{Goes-blank}
use Rattle.std.proofs.VecSteps.Shapes.{after, head}
use lib.ListN.{length-replicate}
use lib.WfN.{lt-wf_rel}
use mathlib.Core.WellFounded.InvImage
use base.Fraction.{full_share}
use base.Logic.{SProp, id⊢, emp}
use base.Fml.{Fml, ftrue, fat, froom}
use mir.Syntax.{Body, w64, ty_int}
use mir.Val.{Val, vint, vptr, vstruct, vcons, vnil}
use prog.Wp.{Env, Out, Wp, WpFn, at_return, after_seq, after_block, after_turn}
use contract.Monad.{fact, fact_i}
use contract.Running.{tables, tables_of}
use types.Kit.{Item, any_q, prop, ‵, raw, ◌⊛◌, at_ret, ◌$◌, ◌∵◌, !, qed, by, move, keep, drop, use0, use1, use2, split, join, rewrite, regoal, fsplit, fjoin}
use types.Part.{agg, sub, whole}
use types.Run.{enter, of_opd, lit, bin, and_then, no_more, fld, stop, init, assigns_last, first, blocks, skips, jumps, branches, exec, returns, loops, again, Below}
use types.ByLocal.{alloc_all, pass_all, free_all, look_at, get, get_in, through, sets, sets_last, env, holding, forget_but, take_at, give_at}
use denote.Array.{Array}
use denote.Exit.{yes}
use denote.Memory.{part_at}
use denote.RawPtr.{Ptr, block_ptr, ptr_val, in_a_block}
use denote.Signature.{plain}
use denote.Steps.{nothing}
use denote.Struct.Struct.{Struct}
use denote.Struct.Owning.{shape}
use denote.Triple.Walked.{Stays, walk_of, stay_dropped, Goes-dropped}
use Rattle.lits.specs.contracts.Lit.{the_row as Lit}
use Rattle.lits.proofs.Lit.TheLaws.{mir as lit_type, lowered as lit_val, lowers as lit_lowers, the_row_laws as lit_laws}
use Rattle.lit_pool.specs.Block.{room_owns, block_owns}
use Rattle.lit_pool.specs.contracts.block.Block as B
use Rattle.lit_pool.specs.contracts.block.Room as R
use Rattle.lit_pool.specs.contracts.block.Room.filled as f
use Rattle.lit_pool.proofs.block.Room.TheLaws.{lowers, lowered as room_val}
use Rattle.lit_pool.proofs.block.Room.filled.Statement.{statement}
use Rattle.lit_pool.proofs.block.Room.filled.Code as code
use Rattle.lit_pool.proofs.Raw.{Filled, Filling, fill_start, fill_out, fill_in, fill_end}

abbrev stayed : Stays f.ended.signature.params f.ended.kept
stayed = (stay_dropped _ yes, (stay_dropped _ yes, tt))

abbrev two : Ptr → ℕ → Val
two p n = vstruct (vcons (ptr_val p) (vcons (vint w64 n) vnil))

-- what the words of the room own
abbrev Owned : (R.the_row).Denot → Fml
Owned d = (Struct (shape R.the_type)).own_val (d.at, (d.len, tt)) (room_val d ∷ [])

-- how many places are filled
abbrev Done : ℕ → Type 0
Done n = (i : ℕ) × (i ≤ n)

abbrev Nearer : (n : ℕ) → Done n → Done n → Type 0
Nearer n t u = n - t.0 < n - u.0

pub filled_spec : {M : Type 1} → statement M
unfolding tables_of after_turn
filled_spec 𝓤 𝓛 𝓜 𝓡 wired =
    let c = f.clauses 𝓛 𝓜.mem 𝓡.returns in let W = walk_of 𝓛 f.ended stayed c in let 𝓣 = tables 𝓤 𝓛.H 𝓜 𝓡 𝓡.env in
    proved 𝓛 f.ended stayed c 𝓜 𝓡
    (Goes-blank 𝓛 0 (plain (λ _. R.the_row)) yes (λ κs x w. tt), (Goes-dropped 𝓛 0 (plain (λ _. Lit)) yes (λ κs x w. refl), tt))
    f.Key.name code.function (code.unfolded 𝓤 𝓛.H 𝓜 𝓡 wired)
    (λ κs. ((λ d. room_val d ∷ []), ((λ x. lit_val x ∷ []), tt))) (λ κs. (lowers.val_is, (lit_lowers.val_is, tt))) (λ κs qs bounds a _ are.
    let d = a.0 in let x = a.1.0 in let n = d.len in
    let fits : n < 2 ^ 64 = omega (arith, d.small) in
    let typed = ((lit_laws.lawful 𝓛).typed x (lit_val x ∷ []) are.1.0).0 in
    let y : W.Ghost = ((κs, qs, bounds, a, (room_val d ∷ [], (lit_val x ∷ [], tt))), tt) in
    qed 𝓛 ((‵ ftrue ⊛ ‵ ((R.the_row).own_val d (room_val d ∷ [])) ⊛ ‵ (Lit.own_val x (lit_val x ∷ [])) ⊛ ‵ ftrue) ∷ ‵ ftrue ∷ []) ∵
    split ! $ drop ! $ split ! $ keep ! (0 ∷ []) $ fsplit ! $ move ! (1 ∷ []) $
    in_a_block ! d.at (λ p. room_owns p n) (id⊢ 𝓤 _) (λ b o e.
    use1 𝓛 (‵ (Filled 𝓛 x n b o 0)) (fill_start 𝓛 x n b o) $
    regoal ! (λ (p : Ptr). prop (WpFn 𝓤 𝓛.H 𝓣.C 𝓣.Λ code.function (two p n ∷ lit_val x ∷ []) (W.post y))) e refl $
    enter ! _ _ _ _ _ $ alloc_all ! (λ l. pass_all ! refl ((tt, (tt, (record { fits = fits }, tt))), (typed, tt)) $
    -- [the literals so far; what the words own]
    let En : Env 𝓤 𝓛.H = env code.Mir.locals l in
    let Now : Done n → List (Item 𝓤) = λ t. ‵ (Filled 𝓛 x n b o t.0) ∷ ‵ (Owned d) ∷ holding 𝓛 En ((2, lit_val x) ∷ (3, vptr b o) ∷ (4, vint w64 n) ∷ (5, vint w64 t.0) ∷ []) in
    sets ! (of_opd ! (get_in ! (fld ! refl (stop !)) (sub ! 0 refl (whole !)))) refl (tt, tt) $
    sets ! (of_opd ! (get_in ! (fld ! refl (stop !)) (sub ! 1 refl (whole !)))) refl (tt, record { fits = fits }) $
    sets ! (of_opd ! (lit ! tt)) refl (tt, record { fits = lit< tt }) $
    forget_but ! En (2 ∷ 3 ∷ 4 ∷ 5 ∷ []) refl $
    first ! $ blocks ! $ loops ! (tables_of 𝓤 𝓛.H 𝓜 𝓣) (Nearer n) (InvImage.wf (λ (t : Done n). n - t.0) lt-wf_rel.wf) Now (λ t.
    let i : ℕ = t.0 in
    let turn : Body = head (head (head (after 3 code.function.body))) in
    let ends = at_return 𝓤 𝓛.H En (W.post y) in
    let Turned : Out → SProp 𝓤 = after_turn 𝓤 𝓛.H (Below 𝓛 (Nearer n) Now t) (after_block 𝓤 𝓛.H (after_seq 𝓤 𝓛.H (Wp 𝓤 𝓛.H 𝓣.C 𝓣.Λ En code.Mir.t-5 ends) ends)) in
    sets ! (bin ! (get ! refl) (get ! refl) tt) refl (tt, tt) $ first ! $ branches ! (get ! refl)
    (λ less. let inside : i < n = ltb→lt i n less in let far : i * 4 < 2 ^ 64 = omega (arith, inside, d.small) in let next : i + 1 < 2 ^ 64 = omega arith in
    skips ! $ exec ! 𝓣.C 𝓣.Λ En (after 2 turn) (any_q Turned) $
    first ! $ blocks ! $
    sets ! (bin ! (get ! refl) (lit ! tt) (record { fits = far })) refl (tt, record { fits = far }) $
    sets ! (bin ! (get ! refl) (get ! refl) tt) refl (tt, tt) $
    use1 𝓛 (‵ (froom lit_type b (i * 4 + o)) ⊛ ‵ (Filling 𝓛 x n b o i)) (fill_out 𝓛 x n b o i inside) $ split ! $
    assigns_last ! (of_opd ! (get ! refl)) (through ! refl (stop !)) (init ! 0 refl typed) $
    use2 𝓛 (‵ (Filled 𝓛 x n b o (suc i))) (fill_in 𝓛 x n b o are.1.0 i) $
    exec ! 𝓣.C 𝓣.Λ En (after 3 turn) (any_q Turned) $ sets_last ! (bin ! (get ! refl) (lit ! tt) (record { fits = next })) refl (tt, record { fits = next }) $
    forget_but ! En (2 ∷ 3 ∷ 4 ∷ 5 ∷ []) refl $ take_at ! 5 $ rewrite ! 0 (λ (k : ℕ). ‵ (fat full_share (ty_int w64) (l 5) 0 (vint w64 k))) {x = suc i} (omega arith) refl $ give_at ! 5 $
    again ! (Nearer n) Now t (suc i, omega arith) (omega arith))
    (λ over. let beyond : n ≤ i = nltb→le i n over in let all : i ≡ n = omega (arith, beyond, t.1) in
    let xs : List ℕ = replicate n x in let v : Val = two (block_ptr b o) n in
    let new : (B.the_row).Denot = record { at = d.at; len = n; items = xs; long = (sym (length-replicate n x), d.small) } in
    let Same : Type 0 = (new.at ≡ d.at) × (new.len ≡ n) in let Set : Type 0 = new.items ≡ xs in
    jumps ! $ exec ! 𝓣.C 𝓣.Λ En code.Mir.t-5 (at_ret _ (W.post y)) $
    rewrite ! 0 (λ (k : ℕ). ‵ (Filled 𝓛 x n b o k)) all refl $ use1 𝓛 (‵ (part_at (Array Lit n) full_share xs b o)) (fill_end 𝓛 x n b o) $
    sets ! (agg ! (and_then ! (get ! refl) (and_then ! (get ! refl) (no_more !)))) refl (tt, (tt, (record { fits = fits }, tt))) $
    returns ! (look_at ! 0 refl) $ free_all ! refl $
    rewrite ! 0 (λ (p : Ptr). ‵ (block_owns p n xs)) (sym e) refl $ rewrite ! 1 (λ (p : Ptr). ‵ ((Struct (shape R.the_type)).own_val (d.at, (n, tt)) (two p n ∷ []))) e refl $
    move ! (1 ∷ []) $ fjoin ! $
    use0 𝓛 (raw (fact 𝓤 Set)) (fact_i 𝓤 Set (emp 𝓤) refl) $ use0 𝓛 (raw (fact 𝓤 Same)) (fact_i 𝓤 Same (emp 𝓤) (refl, refl)) $ join ! $
    nothing ! $ nothing ! $ fjoin ! $ nothing ! $ fjoin ! $ nothing ! $ move ! (0 ∷ 1 ∷ 3 ∷ 2 ∷ []) $
    by ! (leaves 𝓛 f.ended stayed c y v new (tt, (tt, tt)) (tt, (tt, tt))))) (0, omega arith))))
