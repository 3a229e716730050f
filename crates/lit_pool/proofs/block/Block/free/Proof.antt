-- `free` gives the room and the token back.
use Rattle.std.proofs.Common.{◌≡◌, ℕ, ◌*◌, ◌^◌, ◌<◌, List, [], ◌∷◌, refl, sym, ◌∙◌, subst, arith, lit<, T, w64}
use Rattle.std.proofs.raw_atomic.Walks.{proved, leaves}
use Rattle.std.proofs.alloc.Calls.{Al, seen, Goes-blank, Gives, at_gives, Gives-goes, Gives-Gives}
use Rattle.std.proofs.VecSteps.Shapes.{after}
use base.Logic.{id⊢}
use base.Fml.{Lft, ftrue, flft, froom}
use mir.Syntax.{Fn, Args, a_type, dcons, dnil, named, ty_unit}
use mir.MapTy.{inst_fn}
use mir.Val.{Val, vint, vptr, vunit, vstruct, vcons, vnil, has_ty, WT}
use prog.Wp.{WpFn}
use contract.BorrowLft.{◌⊑◌, ⊑_trans}
use contract.Monad.{fact}
use contract.Running.{tables}
use types.Kit.{prop, ‵, raw, ◌⊛◌, later, given, at_ret, ◌$◌, ◌∵◌, !, qed, by, move, drop, use1, use3, split, join, learn, rewrite, regoal, fsplit, fjoin, feq_i, await}
use types.Part.{sub, whole}
use types.Run.{enter, of_opd, lit, bin, unit_lit, and_then, no_more, fld, stop, first, blocks, exec, returns}
use types.ByLocal.{alloc_all, pass_all, free_all, look_at, get, get_in, sets, lands_last, env}
use denote.Builtin.{RefOf}
use denote.Exit.{yes, no}
use denote.Param.{param, bounded}
use denote.Param.Laws.{param_laws}
use denote.RawPtr.{Ptr, ptr_val, in_a_block}
use denote.Ref.{ShrRef, shr_vals, shr_Tells}
use denote.Signature.{plain}
use denote.Steps.{nothing, heard}
use denote.Triple.Call.{calls_at_last}
use denote.Triple.Table.{framed}
use denote.Triple.Walked.{Stays, walk_of, stay_dropped, Goes-dropped}
use Rattle.lit_pool.specs.Block.{block_type, block_owns}
use Rattle.lit_pool.specs.contracts.block.Block as B
use Rattle.lit_pool.specs.contracts.block.Lease as L
use Rattle.lit_pool.specs.contracts.block.Block.free as f
use Rattle.lit_pool.proofs.block.Block.TheLaws.{lowers, lowered as block_val}
use Rattle.lit_pool.proofs.block.Lease.TheLaws as lease
use Rattle.lit_pool.proofs.block.Block.free.Statement.{statement}
use Rattle.lit_pool.proofs.block.Block.free.Code as code
use Rattle.lit_pool.proofs.Raw.{block_room, block_size, block_align}

abbrev two : Ptr → ℕ → Val
two p n = vstruct (vcons (ptr_val p) (vcons (vint w64 n) vnil))

abbrev none : Val
none = vstruct (vcons (vstruct vnil) vnil)

pub free_spec : {M : Type 1} → statement M
free_spec 𝓤 𝓛 𝓜 𝓡 wired A LA g dict drops met meets =
    let P = param 0 A in let LP = param_laws 0 A LA in
    let args : Args = bounded (a_type ∷ []) (A, tt) (dcons dict (dcons drops dnil)) in
    let function : Fn = inst_fn args code.function in
    let ended = f.ended A g dict drops in
    let stayed : Stays ended.signature.params ended.kept = (stay_dropped _ yes, (stay_dropped _ no, (stay_dropped _ yes, tt))) in
    let c = f.clauses A g dict drops 𝓛 𝓜.mem 𝓡.returns in let W = walk_of 𝓛 ended stayed c in let 𝓣 = tables 𝓤 𝓛.H 𝓜 𝓡 𝓡.env in
    proved 𝓛 ended stayed c 𝓜 𝓡
    (Goes-blank 𝓛 2 (plain (λ _. B.the_row)) yes (λ κs x w. tt), (Goes-blank 𝓛 2 (plain (λ _. L.the_row P g)) no (λ κs x w. tt), (Goes-dropped 𝓛 2 (RefOf (0 ∷ []) tt (plain (λ _. P)) (λ _. tt)) yes (λ κs x w. refl), tt)))
    (f.Key.name args) function (code.unfolded 𝓤 𝓛.H 𝓜 𝓡 wired (A, tt) dict drops)
    (λ κs. ((λ d. block_val d ∷ []), ((λ k. none ∷ []), (shr_vals, tt)))) (λ κs. (lowers.val_is, ((lease.lowers P g LP).val_is, (shr_Tells (named 0) κs.0 P, tt)))) (λ κs qs bounds a _ are.
    let κ : Lft = κs.0 in let q = qs.0 in let κ' : Lft = κs.1.0 in let q' = qs.1.0 in
    let d = a.0 in let n = d.len in let k = a.1.0 in let handle = a.1.1.0.ref_ptr in let h = a.1.1.0.now in
    let Y : Al = record { row = A; laws = LA; g = g; d = dict; drops = drops } in
    let fits : n < 2 ^ 64 = omega (arith, d.long.1) in let bytes : n * 4 < 2 ^ 64 = omega (arith, d.long.1) in
    let y : W.Ghost = ((κs, qs, bounds, a, (block_val d ∷ [], (none ∷ [], (shr_vals a.1.1.0, tt)))), tt) in
    let Asked : Type 0 = (k.alloc ≡ h) × (k.at ≡ d.at) × (k.len ≡ n) in
    qed 𝓛 (((‵ (flft κ q) ⊛ ‵ (flft κ' q') ⊛ ‵ ftrue) ⊛ ‵ ((B.the_row).own_val d (block_val d ∷ [])) ⊛ ‵ ((L.the_row P g).own_val k (none ∷ [])) ⊛ ‵ ((ShrRef (named 0) κ P).own_val a.1.1.0 (shr_vals a.1.1.0)) ⊛ ‵ ftrue)
    ∷ (raw (fact 𝓤 (κ' ⊑ A.lives)) ⊛ raw (fact 𝓤 Asked)) ∷ []) ∵
    move ! (1 ∷ []) $ split ! $ heard ! (κ' ⊑ A.lives) (λ outlives. heard ! Asked (λ asked.
    split ! $ split ! $ move ! (2 ∷ []) $ split ! $ fsplit ! $ drop ! $ in_a_block ! d.at (λ p. block_owns p n d.items) (id⊢ 𝓤 _) (λ b o e.
    use1 𝓛 (‵ (froom (block_type n) b o)) (block_room 𝓛 b n d.items o) $
    -- [the room; what the lease and the `&` own; the tokens]
    move ! (1 ∷ []) $ split ! $ fsplit ! $ drop ! $
    rewrite ! 0 (λ (u : A.Denot). ‵ (g.dealloc_token u (block_type k.len) k.at)) asked.0 refl $
    rewrite ! 0 (λ (m : ℕ). ‵ (g.dealloc_token h (block_type m) k.at)) asked.2 refl $
    rewrite ! 0 (λ (p : Ptr). ‵ (g.dealloc_token h (block_type n) p)) (asked.1 ∙ e) refl $
    move ! (1 ∷ []) $ split ! $ fsplit ! $ drop ! $ use1 𝓛 (‵ (seen Y κ handle h)) (id⊢ 𝓤 _) $ move ! (1 ∷ []) $ drop ! $
    -- [the `&`; the token; the room; the tokens of both lifetimes]
    regoal ! (λ (p : Ptr). prop (WpFn 𝓤 𝓛.H 𝓣.C 𝓣.Λ function (two p n ∷ none ∷ vptr handle.0 handle.1 ∷ []) (W.post y))) e refl $
    let G = Gives Y 𝓛 𝓜.mem 𝓡.returns in
    let z = at_gives Y 𝓛 𝓜.mem 𝓡.returns κ q handle h b o (n * 4) 4 (block_type n) in
    move ! (0 ∷ 3 ∷ []) $ join ! $ move ! (2 ∷ 1 ∷ 0 ∷ []) $
    use3 𝓛 (raw (G.pre z)) (Gives-goes Y 𝓛 𝓜.mem 𝓡.returns κ q handle h (⊑_trans κ κ' A.lives bounds.0 outlives) b o (n * 4) 4 (block_type n) (block_size n d.long.1) (block_align n) bytes (lit< tt)) $
    enter ! _ _ _ _ _ $ alloc_all ! (λ l. pass_all ! refl ((tt, (tt, (record { fits = fits }, tt))), ((tt, (tt, tt)), ((tt, tt), tt))) $
    sets ! (of_opd ! (get_in ! (fld ! refl (stop !)) (sub ! 0 refl (whole !)))) refl (tt, tt) $
    sets ! (of_opd ! (get_in ! (fld ! refl (stop !)) (sub ! 1 refl (whole !)))) refl (tt, record { fits = fits }) $
    first ! $ blocks ! $
    sets ! (of_opd ! (get ! refl)) refl (tt, tt) $
    sets ! (bin ! (get ! refl) (lit ! tt) (record { fits = bytes })) refl (tt, record { fits = bytes }) $
    calls_at_last ! (framed 𝓤 𝓛.H 𝓜 𝓣) G (met.deallocate drops) z (and_then ! (get ! refl) (and_then ! (get ! refl) (and_then ! (get ! refl) (and_then ! (lit ! tt) (no_more !))))) (λ v.
    use1 𝓛 (later (given (v ≡ vunit) (‵ (flft κ q)))) (Gives-Gives Y 𝓛 𝓜.mem 𝓡.returns κ q handle h b o (n * 4) 4 (block_type n) v) $ await ! tt $ learn ! (λ is_unit.
    lands_last ! refl (subst (λ (u : Val). T (has_ty ty_unit u) × WT u) (sym is_unit) (tt, tt)) $
    exec ! 𝓣.C 𝓣.Λ (env function.locals l) (after 3 function.body) (at_ret _ (W.post y)) $
    sets ! (of_opd ! (unit_lit !)) refl (tt, tt) $
    returns ! (look_at ! 0 refl) $ free_all ! refl $
    -- [the tokens]
    join ! $ nothing ! $ nothing ! $ nothing ! $ fjoin ! $ nothing ! $ fjoin ! $ nothing ! $ fjoin ! $
    feq_i ! (List Val) (vunit ∷ []) (vunit ∷ []) refl $ move ! (3 ∷ 1 ∷ 0 ∷ 2 ∷ []) $
    by ! (leaves 𝓛 ended stayed c y vunit tt (tt, (tt, (tt, tt))) (tt, (tt, (tt, tt)))))))))))
