-- `lits` shows the literals as a slice: the pointer and the length are read through the `&`.
use Rattle.std.proofs.Common.{ℕ, ◌+◌, ◌*◌, ◌^◌, List, [], ◌∷◌, length, refl, ap, arith}
use Rattle.std.proofs.raw_atomic.Walks.{proved}
use Rattle.std.proofs.Words.{word_in, word_out, pointer_in, pointer_out}
use mir.Syntax.{named}
use mir.Val.{Val}
use base.Fml.{ftrue, fhide, flft}
use contract.Monad.{fact}
use contract.Running.{tables}
use types.Kit.{‵, raw, ◌⊛◌, at_ret, ◌$◌, ◌∵◌, !, qed, done, move, keep, drop, use1, split, join, fsplit, fjoin, feq_i, flt_i, suffices}
use types.Part.{agg}
use types.Run.{enter, of_opd, and_then, no_more, load, look, fld, stop, first, blocks, exec, returns}
use types.ByLocal.{alloc_all, pass_all, free_all, look_at, get, through, sets, sets_last, env}
use denote.Builtin.{RefOf}
use denote.Exit.{yes}
use denote.Memory.{hidden_shr}
use denote.Opens.{unhide, hide}
use denote.RawPtr.{InBlock, block_of, count_of}
use denote.Ref.{ShrRef, shr_vals, shr_Tells}
use denote.Signature.{plain}
use denote.Slice.{slice_val}
use denote.Steps.{nothing, heard}
use denote.Struct.Lending.{in_block_says, lent_out}
use denote.Triple.Walked.{Stays, walk_of, says, stay_dropped, Goes-dropped, ends_at}
use Rattle.lit_pool.specs.contracts.block.Block as B
use Rattle.lit_pool.specs.contracts.block.Block.lits as f
use Rattle.lit_pool.proofs.block.Block.lits.Statement.{statement}
use Rattle.lit_pool.proofs.block.Block.lits.Code as code
use Rattle.lit_pool.proofs.Raw.{Words, words, shows_at, shows_len}

abbrev stayed : Stays f.ended.signature.params f.ended.kept
stayed = (stay_dropped _ yes, tt)

pub lits_spec : {M : Type 1} → statement M
lits_spec 𝓤 𝓛 𝓜 𝓡 wired =
    let c = f.clauses 𝓛 𝓜.mem 𝓡.returns in let W = walk_of 𝓛 f.ended stayed c in let 𝓣 = tables 𝓤 𝓛.H 𝓜 𝓡 𝓡.env in
    proved 𝓛 f.ended stayed c 𝓜 𝓡 (Goes-dropped 𝓛 1 (RefOf (0 ∷ []) tt (plain (λ _. B.the_row)) (λ _. tt)) yes (λ κs x w. refl), tt)
    f.Key.name code.function (code.unfolded 𝓤 𝓛.H 𝓜 𝓡 wired)
    (λ κs. (shr_vals, tt)) (λ κs. (shr_Tells (named 0) κs.0 B.the_row, tt)) (λ κs qs bounds a _ are.
    let κ = κs.0 in let q = qs.0 in let b = a.0.ref_ptr.0 in let o = a.0.ref_ptr.1 in let d = a.0.now in
    let start : ℕ × ℕ = (block_of d.at, count_of d.at) in
    let y : W.Ghost = ((κs, qs, bounds, a, (shr_vals a.0, tt)), tt) in
    qed 𝓛 (((‵ (flft κ q) ⊛ ‵ ftrue) ⊛ ‵ ((ShrRef (named 0) κ B.the_row).own_val a.0 (shr_vals a.0)) ⊛ ‵ ftrue) ∷ ‵ ftrue ∷ []) ∵
    split ! $ split ! $ move ! (2 ∷ []) $ split ! $ keep ! (0 ∷ 2 ∷ []) $
    enter ! _ _ _ _ _ $ alloc_all ! (λ l. pass_all ! refl ((tt, tt), tt) $
    -- [the `&`; the token]
    fsplit ! $ drop ! $
    use1 𝓛 (‵ (hidden_shr Words κ (words d) b o) ⊛ ‵ (fhide (B.the_lent d d.at κ))) (lent_out 𝓛 B.struct B.the_codes B.the_heap B.the_lent κ d b o) $ split ! $
    move ! (1 ∷ []) $ unhide ! $ fsplit ! $ use1 𝓛 (raw (fact 𝓤 (InBlock d.at))) (in_block_says 𝓛 d.at) $ heard ! (InBlock d.at) (λ inside.
    fsplit ! $ drop ! $ hide ! $ move ! (1 ∷ 2 ∷ []) $
    -- [the words; the token; the literals]
    first ! $ blocks ! $
    pointer_in ! tt d.at inside b (o + 0) (shows_at 𝓛 κ b o d) (λ q₀.
    sets ! (of_opd ! (load ! (through ! refl (fld ! refl (stop !))) (look ! 1 refl))) refl (tt, tt) $
    pointer_out ! tt d.at inside b (o + 0) $ move ! (1 ∷ 0 ∷ []) $
    word_in ! tt d.len b (o + 8) (shows_len 𝓛 κ b o d) (λ q₁ fits.
    sets ! (of_opd ! (load ! (through ! refl (fld ! refl (stop !))) (look ! 1 refl))) refl (tt, record { fits = fits }) $
    word_out ! tt d.len b (o + 8) fits $
    sets_last ! (agg ! (and_then ! (get ! refl) (and_then ! (get ! refl) (no_more !)))) refl (tt, (tt, (record { fits = fits }, tt))) $
    exec ! 𝓣.C 𝓣.Λ (env code.Mir.locals l) code.Mir.t-2 (at_ret _ (W.post y)) $
    sets ! (of_opd ! (get ! refl)) refl (tt, (tt, (record { fits = fits }, tt))) $
    returns ! (look_at ! 0 refl) $ free_all ! refl $ keep ! (2 ∷ 0 ∷ []) $
    -- [the literals; the token]
    let long = d.long.0 in let items = d.items in
    flt_i ! (length items * 4) (2 ^ 63) (omega (arith, long, d.long.1)) $ flt_i ! (length items) (2 ^ 64) (omega (arith, long, d.long.1)) $ fjoin ! $
    feq_i ! (List Val) (slice_val start d.len ∷ []) (slice_val start (length items) ∷ []) (ap (λ n. slice_val start n ∷ []) long) $ fjoin ! $ fjoin ! $
    suffices ! _ (ends_at 𝓛 f.ended stayed c y (slice_val start d.len) (record { ref_ptr = start; now = items }) (tt, tt) (tt, tt)) $ says ! refl $
    move ! (1 ∷ []) $ nothing ! $ move ! (1 ∷ 0 ∷ []) $ join ! $ nothing ! $ nothing ! $ fjoin ! $ move ! (1 ∷ 0 ∷ 2 ∷ []) $ done !)))))
