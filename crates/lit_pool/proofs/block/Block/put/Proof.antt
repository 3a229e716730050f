-- `put` takes one literal's cell out of the row, writes it, and puts it back.
use Rattle.std.proofs.Common.{◌≡◌, ℕ, ◌+◌, ◌*◌, ◌^◌, ◌<◌, List, [], ◌∷◌, length, set, refl, sym, ap, ◌∙◌, arith, length-set, w64}
use Rattle.std.proofs.raw_atomic.Walks.{proved, leaves}
use base.Fraction.{full_share}
use base.Logic.{id⊢, emp}
use base.Fml.{ftrue, fat, flft}
use mir.Syntax.{named}
use mir.Val.{Val, vunit}
use contract.Monad.{fact, fact_i}
use contract.Running.{tables}
use types.Kit.{‵, raw, ◌⊛◌, some, at_ret, ◌$◌, ◌∵◌, !, qed, by, move, keep, drop, use0, use1, use3, split, join, pick, rewrite, fsplit, fsplit3, fjoin, fjoin3, feq_i}
use types.Part.{look_in, sub, whole}
use types.Run.{enter, of_opd, lit, bin, unit_lit, load, store, fld, stop, assigns_last, first, blocks, exec, returns}
use types.ByLocal.{alloc_all, pass_all, free_all, look_at, get, through, sets, env}
use denote.Array.{Array}
use denote.Builtin.{usize}
use denote.Exit.{yes}
use denote.Laws.{shows}
use denote.Memory.{part_at, cell_at}
use denote.Plain.{uint_vals, uint_Tells}
use denote.RawPtr.{Ptr, in_a_block}
use denote.Ref.{MutRef, mut_vals, mut_Tells}
use denote.Signature.{plain}
use denote.Steps.{nothing, opens, closes, peeks, heard}
use denote.Triple.Walked.{Stays, walk_of, stay_dropped, stay_ref, Goes-dropped, Goes-ref}
use Rattle.lits.specs.contracts.Lit.{the_row as Lit}
use Rattle.lits.proofs.Lit.TheLaws.{mir as lit_type, lowered as lit_val, lowers as lit_lowers, the_row_laws as lit_laws}
use Rattle.lit_pool.specs.Block.{block_owns}
use Rattle.lit_pool.specs.contracts.block.Block as B
use Rattle.lit_pool.specs.contracts.block.Block.put as f
use Rattle.lit_pool.proofs.block.Block.TheLaws.{lowers}
use Rattle.lit_pool.proofs.block.Block.put.Statement.{statement}
use Rattle.lit_pool.proofs.block.Block.put.Code as code
use Rattle.lit_pool.proofs.Raw.{Besides, lit_out, lit_in}

abbrev stayed : Stays f.ended.signature.params f.ended.kept
stayed = (stay_ref (0 ∷ []) tt (plain (λ _. B.the_row)), (stay_dropped _ yes, (stay_dropped _ yes, tt)))

pub put_spec : {M : Type 1} → statement M
put_spec 𝓤 𝓛 𝓜 𝓡 wired =
    let c = f.clauses 𝓛 𝓜.mem 𝓡.returns in let W = walk_of 𝓛 f.ended stayed c in let 𝓣 = tables 𝓤 𝓛.H 𝓜 𝓡 𝓡.env in
    proved 𝓛 f.ended stayed c 𝓜 𝓡
    (Goes-ref 𝓛 1 0 tt (plain (λ _. B.the_row)), (Goes-dropped 𝓛 1 (plain (λ _. usize)) yes (λ κs x w. refl), (Goes-dropped 𝓛 1 (plain (λ _. Lit)) yes (λ κs x w. refl), tt)))
    f.Key.name code.function (code.unfolded 𝓤 𝓛.H 𝓜 𝓡 wired)
    (λ κs. (mut_vals, (uint_vals w64, ((λ x. lit_val x ∷ []), tt)))) (λ κs. (mut_Tells (named 0) κs.0 B.the_row, (uint_Tells w64, (lit_lowers.val_is, tt)))) (λ κs qs bounds a _ are.
    let κ = κs.0 in let q = qs.0 in let b = a.0.ref_ptr.0 in let o = a.0.ref_ptr.1 in let d = a.0.now in let i = a.1.0 in let x = a.1.1.0 in let vs = mut_vals a.0 in
    let fi : i < 2 ^ 64 = are.1.0.1 in
    let y : W.Ghost = ((κs, qs, bounds, a, (vs, (uint_vals w64 i, (lit_val x ∷ [], tt)))), tt) in
    qed 𝓛 (((‵ (flft κ q) ⊛ ‵ ftrue) ⊛ ‵ ((MutRef (named 0) κ B.the_row).own_val a.0 vs) ⊛ ‵ (usize.own_val i (uint_vals w64 i)) ⊛ ‵ (Lit.own_val x (lit_val x ∷ [])) ⊛ ‵ ftrue) ∷ raw (fact 𝓤 (i < length d.items)) ∷ []) ∵
    move ! (1 ∷ []) $ heard ! (i < length d.items) (λ inside.
    let long = d.long.0 in let small = d.long.1 in
    let ys : List ℕ = set d.items i x in
    let new : (B.the_row).Denot = record d { items = ys; long = (long ∙ sym (length-set d.items i x), small) } in
    let far : i * 4 < 2 ^ 64 = omega (arith, inside, long, small) in
    let typed = ((lit_laws.lawful 𝓛).typed x (lit_val x ∷ []) are.1.1.0).0 in
    split ! $ split ! $ move ! (2 ∷ []) $ split ! $ move ! (1 ∷ []) $ split ! $ drop ! $ split ! $ keep ! (2 ∷ 3 ∷ 0 ∷ []) $
    enter ! _ _ _ _ _ $ alloc_all ! (λ l. pass_all ! refl ((tt, tt), ((tt, record { fits = fi }), (typed, tt))) $
    fsplit3 ! $ move ! (1 ∷ 2 ∷ 3 ∷ []) $ opens ! tt B.the_row b o (λ us. move ! (1 ∷ []) $ peeks ! B.the_row _ (shows 𝓛 B.the_row) d us (λ is.
    fsplit ! $ move ! (1 ∷ []) $ in_a_block ! d.at (λ p. block_owns p d.len d.items) (id⊢ 𝓤 _) (λ b' o' e.
    use1 𝓛 (some (λ (v : Val). ‵ (fat full_share lit_type b' (i * 4 + o') v) ⊛ ‵ (Besides 𝓛 d.len d.items i b' o'))) (lit_out 𝓛 d.len d.items i b' o' (omega (arith, inside, long))) $ pick ! (λ v. split ! $
    let word = lowers.val_is d us is ∙ ap (λ (p : Ptr). lowers.lowered (record d { at = p }) ∷ []) e in
    let Cell = λ (ws : List Val). ‵ (cell_at full_share (B.the_row).mir ws b o) in
    rewrite ! 3 Cell word refl $
    -- [the literal's cell; the others; what the fields own; the struct's cell; the open borrow, in three entries; ..; what `x` owns]
    first ! $ blocks ! $
    sets ! (of_opd ! (load ! (through ! refl (fld ! refl (stop !))) (look_in ! 3 (sub ! 0 refl (whole !))))) refl (tt, tt) $
    sets ! (bin ! (get ! refl) (lit ! tt) (record { fits = far })) refl (tt, record { fits = far }) $
    sets ! (bin ! (get ! refl) (get ! refl) tt) refl (tt, tt) $
    assigns_last ! (of_opd ! (get ! refl)) (through ! refl (stop !)) (store ! 0 refl typed) $
    exec ! 𝓣.C 𝓣.Λ (env code.Mir.locals l) code.Mir.t-2 (at_ret _ (W.post y)) $
    sets ! (of_opd ! (unit_lit !)) refl (tt, tt) $
    move ! (0 ∷ 8 ∷ 1 ∷ []) $ use3 𝓛 (‵ (part_at (Array Lit d.len) full_share ys b' o')) (lit_in 𝓛 d.len d.items i b' o' x (omega (arith, inside, long)) (sym long)) $
    rewrite ! 0 (λ (p : Ptr). ‵ (block_owns p d.len ys)) (sym e) refl $ rewrite ! 2 Cell (sym word) refl $
    move ! (1 ∷ []) $ fjoin ! $ move ! (1 ∷ []) $ closes ! tt B.the_row new us b o $
    returns ! (look_at ! 0 refl) $ free_all ! refl $
    -- [two parts of the reference; the token; its first part]
    let Same : Type 0 = (new.at ≡ d.at) × (new.len ≡ d.len) in let Set : Type 0 = new.items ≡ ys in
    move ! (3 ∷ 0 ∷ 1 ∷ []) $ fjoin3 ! $ nothing ! $ nothing ! $ fjoin ! $ nothing ! $ fjoin ! $ move ! (1 ∷ 0 ∷ []) $ fjoin ! $
    move ! (1 ∷ []) $ nothing ! $ move ! (1 ∷ 0 ∷ []) $ join ! $
    use0 𝓛 (raw (fact 𝓤 Set)) (fact_i 𝓤 Set (emp 𝓤) refl) $ use0 𝓛 (raw (fact 𝓤 Same)) (fact_i 𝓤 Same (emp 𝓤) (refl, refl)) $ join ! $
    feq_i ! (List Val) (vunit ∷ []) (vunit ∷ []) refl $ move ! (2 ∷ 3 ∷ 0 ∷ 1 ∷ []) $
    by ! (leaves 𝓛 f.ended stayed c y vunit tt (new, (tt, (tt, tt))) (tt, (tt, (tt, tt)))))))))))
