-- `new` asks the allocator for a block, and parts the room from the right to give it back.
use Rattle.std.proofs.Common.{◌≡◌, ℕ, ◌*◌, ◌^◌, ◌<◌, [], ◌∷◌, refl, arith, lit<, Some, None, w64}
use Rattle.std.proofs.raw_atomic.Walks.{proved, leaves}
use Rattle.std.proofs.alloc.Calls.{Al, seen, Takes, at_takes, Answered, Takes-goes, Takes-gives, answers}
use Rattle.std.proofs.alloc.Shapes.{after, head, arm_body}
use Rattle.std.proofs.option.Made.{Some-of, none_of}
use seplogic.Ra.Ura.{Ura}
use base.Logic.{SProp, ent, id⊢, emp}
use types.Logic.{Logic, sem}
use base.Fml.{Lft, ftrue, flft}
use mir.Syntax.{Fn, Args, a_type, dcons, dnil, named}
use mir.MapTy.{inst_fn}
use mir.Val.{Val, vint, vptr, vstruct, vcons, vnil}
use prog.Wp.{Env, Out, Wp, at_return, after_seq}
use contract.BorrowLft.{◌⊑◌, ⊑_trans}
use contract.Monad.{fact, fact_i}
use contract.Running.{tables}
use types.Kit.{any_q, ‵, raw, ◌⊛◌, later, at_ret, ◌$◌, ◌∵◌, !, qed, by, move, drop, use0, use1, use2, split, join, fsplit, fjoin, await}
use types.Match.{live, vrt, in_variant}
use types.Part.{agg, whole}
use types.Run.{enter, of_opd, lit, bin, and_then, no_more, fld, stop, first, switches_on, exec, returns}
use types.ByLocal.{alloc_all, pass_all, free_all, look_at, get, get_in, get_tag, sets, sets_last, lands_as, env}
use denote.Builtin.{RefOf, usize}
use denote.Exit.{yes}
use denote.Param.{param, bounded}
use denote.Plain.{uint_vals, uint_Tells}
use denote.RawPtr.{Ptr, block_ptr}
use denote.Ref.{ShrRef, shr_vals, shr_Tells}
use denote.Signature.{plain}
use denote.RattleType.{RattleType}
use denote.Shadow.{makes_shadow}
use denote.Steps.{nothing, heard}
use denote.Struct.Laws.{RawPtr-plain, usize-plain}
use denote.Struct.Owning.{shape}
use denote.Struct.Struct.{Struct, Struct-Makes}
use denote.Struct.Tuple.{Tuple}
use denote.Triple.Call.{calls_at}
use denote.Triple.Table.{framed}
use denote.Triple.Walked.{Stays, walk_of, stay_dropped, Goes-dropped}
use Rattle.std.specs.contracts.option.Option as O
use Rattle.std.specs.declared.alloc.Allocator.{Ghosts}
use Rattle.lit_pool.specs.Block.{block_type}
use Rattle.lit_pool.specs.contracts.block.Lease as L
use Rattle.lit_pool.specs.contracts.block.Room as R
use Rattle.lit_pool.specs.contracts.block.Room.new as f
use Rattle.lit_pool.proofs.block.Room.new.Statement.{statement}
use Rattle.lit_pool.proofs.block.Room.new.Code as code
use Rattle.std_alloc.proofs.Pairs.{pair_val, pair_of}
use Rattle.lit_pool.proofs.Raw.{block_size, block_align}

abbrev two : ℕ → ℕ → ℕ → Val
two b o n = vstruct (vcons (vptr b o) (vcons (vint w64 n) vnil))

abbrev none : Val
none = vstruct (vcons (vstruct vnil) vnil)

-- the words of a room and of a lease are made of nothing
room_words : {M : Type 1} {𝓤 : Ura M} (𝓛 : Logic 𝓤) (b o n : ℕ) → n < 2 ^ 64 → ent 𝓤 (emp 𝓤) (sem 𝓛 ((Struct (shape R.the_type)).own_val (block_ptr b o, (n, tt)) (two b o n ∷ [])))
room_words 𝓛 b o n fits =
    Struct-Makes 𝓛 (shape R.the_type) (RawPtr-plain, (usize-plain, tt)) (block_ptr b o, (n, tt)) (two b o n ∷ []) ((vptr b o ∷ [], (vint w64 n ∷ [], tt)), (refl, (refl, ((refl, fits), tt))))

lease_words : (P : RattleType) (g : Ghosts P.Denot) {M : Type 1} {𝓤 : Ura M} (𝓛 : Logic 𝓤) → ent 𝓤 (emp 𝓤) (sem 𝓛 ((Struct (shape (L.the_type P g))).own_val (record {}, tt) (none ∷ [])))
lease_words P g 𝓛 =
    makes_shadow 𝓛 ((Struct (shape (L.the_type P g))).own_val (record {}, tt) (none ∷ [])) (λ _. (tt, ((λ _. (tt, tt)), tt))) ((vstruct vnil ∷ [], tt), (refl, ((tt, (refl, tt)), tt)))

pub new_spec : {M : Type 1} → statement M
new_spec 𝓤 𝓛 𝓜 𝓡 wired A LA g dict drops met meets =
    let P = param 0 A in
    let args : Args = bounded (a_type ∷ []) (A, tt) (dcons dict (dcons drops dnil)) in
    let function : Fn = inst_fn args code.function in
    let ended = f.ended A g dict drops in
    let stayed : Stays ended.signature.params ended.kept = (stay_dropped _ yes, (stay_dropped _ yes, tt)) in
    let c = f.clauses A g dict drops 𝓛 𝓜.mem 𝓡.returns in let W = walk_of 𝓛 ended stayed c in let 𝓣 = tables 𝓤 𝓛.H 𝓜 𝓡 𝓡.env in
    proved 𝓛 ended stayed c 𝓜 𝓡
    (Goes-dropped 𝓛 2 (RefOf (0 ∷ []) tt (plain (λ _. P)) (λ _. tt)) yes (λ κs x w. refl), (Goes-dropped 𝓛 2 (plain (λ _. usize)) yes (λ κs x w. refl), tt))
    (f.Key.name args) function (code.unfolded 𝓤 𝓛.H 𝓜 𝓡 wired (A, tt) dict drops)
    (λ κs. (shr_vals, (uint_vals w64, tt))) (λ κs. (shr_Tells (named 0) κs.0 P, (uint_Tells w64, tt))) (λ κs qs bounds a _ are.
    let κ : Lft = κs.0 in let q = qs.0 in let κ' : Lft = κs.1.0 in let q' = qs.1.0 in
    let handle = a.0.ref_ptr in let h = a.0.now in let n = a.1.0 in
    let Y : Al = record { row = A; laws = LA; g = g; d = dict; drops = drops } in
    let fits : n < 2 ^ 64 = are.1.0.1 in
    let y : W.Ghost = ((κs, qs, bounds, a, (shr_vals a.0, (uint_vals w64 n, tt))), tt) in
    let Asked : Type 0 = n < 2 ^ 40 in
    qed 𝓛 (((‵ (flft κ q) ⊛ ‵ (flft κ' q') ⊛ ‵ ftrue) ⊛ ‵ ((ShrRef (named 0) κ P).own_val a.0 (shr_vals a.0)) ⊛ ‵ (usize.own_val n (uint_vals w64 n)) ⊛ ‵ ftrue)
    ∷ (raw (fact 𝓤 (κ' ⊑ A.lives)) ⊛ raw (fact 𝓤 Asked)) ∷ []) ∵
    move ! (1 ∷ []) $ split ! $ heard ! (κ' ⊑ A.lives) (λ outlives. heard ! Asked (λ small.
    let bytes : n * 4 < 2 ^ 64 = omega (arith, small) in
    split ! $ split ! $ move ! (2 ∷ []) $ split ! $ fsplit ! $ drop ! $ use1 𝓛 (‵ (seen Y κ handle h)) (id⊢ 𝓤 _) $ move ! (1 ∷ []) $ drop ! $
    -- [the `&`; the tokens of both lifetimes]
    let T = Takes Y 𝓛 𝓜.mem 𝓡.returns in
    let z = at_takes Y 𝓛 𝓜.mem 𝓡.returns κ q handle h (n * 4) 4 (block_type n) in
    use2 𝓛 (raw (T.pre z)) (Takes-goes Y 𝓛 𝓜.mem 𝓡.returns κ q handle h (⊑_trans κ κ' A.lives bounds.0 outlives) (n * 4) 4 (block_type n) (block_size n small) (block_align n) bytes (lit< tt)) $
    enter ! _ _ _ _ _ $ alloc_all ! (λ l. pass_all ! refl ((tt, tt), ((tt, record { fits = fits }), tt)) $
    sets ! (bin ! (get ! refl) (lit ! tt) (record { fits = bytes })) refl (tt, record { fits = bytes }) $
    calls_at ! (framed 𝓤 𝓛.H 𝓜 𝓣) T (met.allocate drops) z (and_then ! (get ! refl) (and_then ! (get ! refl) (and_then ! (lit ! tt) (no_more !)))) (λ v.
    use1 𝓛 (later (raw (Answered Y 𝓛 𝓜.mem 𝓡.returns h (block_type n) v) ⊛ ‵ (flft κ q))) (Takes-gives Y 𝓛 𝓜.mem 𝓡.returns κ q handle h (n * 4) 4 (block_type n) v) $ await ! tt $ split ! $
    let En : Env 𝓤 𝓛.H = env function.locals l in
    let ends = at_return 𝓤 𝓛.H En (W.post y) in
    let Then : Out → SProp 𝓤 = after_seq 𝓤 𝓛.H (Wp 𝓤 𝓛.H 𝓣.C 𝓣.Λ En (after 3 function.body) ends) ends in
    answers Y ! 𝓜.mem 𝓡.returns h (block_type n) v
    (λ b o e. lands_as ! e refl (tt, (record { fits = lit< tt }, (tt, tt))) $
    first ! $ switches_on ! (get_tag ! (vrt ! refl (fld ! refl (stop !))) (whole !)) $ exec ! 𝓣.C 𝓣.Λ En (arm_body 0 (head (after 2 function.body))) (any_q Then) $
    let p : Ptr = block_ptr b o in
    let x : (R.the_row).Denot = record { at = p; len = n; small = small } in
    let k : (L.the_row P g).Denot = record { by = record {}; alloc = h; at = p; len = n } in
    let u : Val = pair_val (two b o n) none in
    let Told : Type 0 = (n ≡ n) × (p ≡ p) × (n ≡ n) × (h ≡ h) in
    sets ! (of_opd ! (get_in ! (vrt ! refl (fld ! refl (stop !))) (in_variant ! 0 0 refl refl (whole !)))) refl (tt, tt) $
    sets ! (of_opd ! (get ! refl)) refl (tt, tt) $
    sets ! (agg ! (and_then ! (get ! refl) (and_then ! (get ! refl) (no_more !)))) refl (tt, (tt, (record { fits = fits }, tt))) $
    sets ! (agg ! (no_more !)) refl (tt, tt) $
    sets ! (agg ! (and_then ! (get ! refl) (no_more !))) refl (tt, (tt, tt)) $
    sets ! (agg ! (and_then ! (get ! refl) (and_then ! (get ! refl) (no_more !)))) refl (tt, ((tt, (record { fits = fits }, tt)), ((tt, tt), tt))) $
    sets_last ! (agg ! (and_then ! (lit ! tt) (and_then ! (get ! refl) (no_more !)))) refl (tt, (record { fits = lit< tt }, (((tt, (record { fits = fits }, tt)), ((tt, tt), tt)), tt))) $
    exec ! 𝓣.C 𝓣.Λ En (after 3 function.body) (at_ret En (W.post y)) $
    sets ! (of_opd ! (get ! refl)) refl (tt, (record { fits = lit< tt }, (((tt, (record { fits = fits }, tt)), ((tt, tt), tt)), tt))) $
    returns ! (look_at ! 0 refl) $ free_all ! refl $
    -- [the room; the right to free it; the tokens]
    use0 𝓛 (‵ ((Struct (shape R.the_type)).own_val (p, (n, tt)) (two b o n ∷ []))) (room_words 𝓛 b o n fits) $ fjoin ! $ move ! (1 ∷ []) $
    use0 𝓛 (‵ ((Struct (shape (L.the_type P g))).own_val (record {}, tt) (none ∷ []))) (lease_words P g 𝓛) $ fjoin ! $ move ! (1 ∷ 0 ∷ []) $
    use2 𝓛 (‵ ((Tuple (R.the_row ∷ L.the_row P g ∷ [])).own_val (x, k) (u ∷ []))) (pair_of 𝓛 R.the_row (L.the_row P g) x k (two b o n) none) $
    use1 𝓛 (‵ ((O.the_row (Tuple (R.the_row ∷ L.the_row P g ∷ []))).own_val (Some (x, k)) (live 1 (vcons u vnil) ∷ []))) (Some-of 𝓛 (Tuple (R.the_row ∷ L.the_row P g ∷ [])) (x, k) u) $
    move ! (1 ∷ 2 ∷ []) $ join ! $ nothing ! $ nothing ! $ fjoin ! $ nothing ! $ fjoin ! $
    use0 𝓛 (raw (fact 𝓤 Told)) (fact_i 𝓤 Told (emp 𝓤) (refl, refl, refl, refl)) $ move ! (2 ∷ 1 ∷ 3 ∷ 0 ∷ []) $
    by ! (leaves 𝓛 ended stayed c y (live 1 (vcons u vnil)) (Some (x, k)) (tt, (tt, tt)) (tt, (tt, tt))))
    (λ e. lands_as ! e refl (tt, (record { fits = lit< tt }, (tt, tt))) $
    first ! $ switches_on ! (get_tag ! (vrt ! refl (fld ! refl (stop !))) (whole !)) $ exec ! 𝓣.C 𝓣.Λ En (arm_body 1 (head (after 2 function.body))) (any_q Then) $
    sets_last ! (agg ! (and_then ! (lit ! tt) (no_more !))) refl (tt, (record { fits = lit< tt }, tt)) $
    exec ! 𝓣.C 𝓣.Λ En (after 3 function.body) (at_ret En (W.post y)) $
    sets ! (of_opd ! (get ! refl)) refl (tt, (record { fits = lit< tt }, tt)) $
    returns ! (look_at ! 0 refl) $ free_all ! refl $
    -- [the tokens]
    use0 𝓛 (‵ ((O.the_row (Tuple (R.the_row ∷ L.the_row P g ∷ []))).own_val None (live 0 vnil ∷ []))) (none_of 𝓛 (Tuple (R.the_row ∷ L.the_row P g ∷ []))) $
    move ! (1 ∷ 2 ∷ []) $ join ! $ nothing ! $ nothing ! $ fjoin ! $ nothing ! $ fjoin ! $
    use0 𝓛 (raw (fact 𝓤 (Unit {0}))) (fact_i 𝓤 (Unit {0}) (emp 𝓤) tt) $ move ! (2 ∷ 1 ∷ 3 ∷ 0 ∷ []) $
    by ! (leaves 𝓛 ended stayed c y (live 0 vnil) None (tt, (tt, tt)) (tt, (tt, tt)))))))))
