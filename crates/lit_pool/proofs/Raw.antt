-- What the walks over raw memory share: a literal's cell, the literals in a row, and what a `&` to a block shows.
use Rattle.std.proofs.Common.{◌≡◌, ℕ, zero, suc, ◌+◌, ◌-◌, ◌*◌, ◌<◌, List, [], ◌∷◌, length, set, get_or, replicate, refl, sym, ap, ◌∙◌, subst, arith, length-set, ◌^◌, w64}
use lib.ListN.{length-replicate}
use prog.Memory.{size, align, capped}
use prog.Capped.{capped_is}
use prog.RawLaws.{size-raw, align-raw}
use seplogic.Ra.Ura.{Ura}
use base.Fraction.{full_share}
use base.Logic.{ent, sep, ex}
use base.Fml.{Fml, Lft, feq, fsep, fat, froom}
use mir.Syntax.{ty_array}
use mir.Val.{Val}
use types.Logic.{Logic, sem}
use types.Kit.{‵, ◌⊛◌, some, ◌$◌, ◌∵◌, !, qed, by, move, keep, drop, use1, use2, split, pick, rewrite, fsplit, fjoin, feq_l, feq_i, show, done}
use borrow.Table.OneValue.{part_in, part_out}
use denote.Array.{Array}
use denote.ArrayMemory.{Array-apart, Array-whole}
use denote.Index.{row, others, takes, puts, place_is, place}
use denote.Model.Fixed.{row_Makes}
use denote.RattleType.{RattleType, RowLaws}
use denote.Laws.{Is}
use denote.Steps.{nothing, owned}
use denote.Builtin.{usize}
use denote.Memory.{hidden_shr, part_at, shares}
use denote.Opens.{shr_dup, unhide, hide}
use denote.Plain.{uint_row_laws}
use denote.RawPtr.{RawPtr, ptr_row_laws}
use denote.Struct.Struct.{Struct, Struct-row_laws}
use denote.Struct.Owning.{shape}
use Rattle.lits.specs.contracts.Lit.{the_row as Lit}
use Rattle.lits.proofs.Lit.TheLaws.{mir as lit_type, lowered as lit_val, the_row_plain as lit_plain}
use Rattle.lit_pool.specs.declared.block.Block.{Block as IsBlock}
use Rattle.lit_pool.specs.contracts.block.Block.{the_type}
use Rattle.lit_pool.specs.Block.{block_type}

-- the two words of a block
abbrev pub Words : RattleType
Words = Struct (shape the_type)

abbrev pub words : IsBlock → Words.Denot
words d = (d.at, (d.len, tt))

module _ {M : Type 1} {𝓤 : Ura M} (𝓛 : Logic 𝓤) (κ : Lft) (b o : ℕ) (d : IsBlock) where
  abbrev Seen : Fml
  Seen = hidden_shr Words κ (words d) b o

  laws : RowLaws Words
  laws = Struct-row_laws (shape the_type) (ptr_row_laws, (uint_row_laws w64, tt))

  pub shows_at : ent 𝓤 (sem 𝓛 Seen) (sep 𝓤 (sem 𝓛 (hidden_shr RawPtr κ d.at b (o + 0))) (sem 𝓛 Seen))
  shows_at = qed 𝓛 (‵ Seen ∷ []) ∵ shr_dup ! Words laws (words d) b o κ $ unhide ! $ fsplit ! $ fsplit ! $ hide ! $ keep ! (0 ∷ 3 ∷ []) $ done !

  pub shows_len : ent 𝓤 (sem 𝓛 Seen) (sep 𝓤 (sem 𝓛 (hidden_shr usize κ d.len b (o + 8))) (sem 𝓛 Seen))
  shows_len = qed 𝓛 (‵ Seen ∷ []) ∵ shr_dup ! Words laws (words d) b o κ $ unhide ! $ fsplit ! $ fsplit ! $ drop ! $ fsplit ! $ hide ! $ keep ! (0 ∷ 3 ∷ []) $ done !

-- one literal of a row is taken out, and another is put in its place
module _ {M : Type 1} {𝓤 : Ura M} (𝓛 : Logic 𝓤) (n : ℕ) (xs : List ℕ) (i b o : ℕ) where
  open 𝓛 use {H}

  abbrev pub Besides : Fml
  Besides = others (shares Lit) full_share xs i b o

  pub lit_out : i < n → ent 𝓤 (sem 𝓛 (part_at (Array Lit n) full_share xs b o)) (ex 𝓤 (λ (v : Val). sep 𝓤 (H.at full_share lit_type b (i * 4 + o) v) (sem 𝓛 Besides)))
  lit_out inside = qed 𝓛 (‵ (part_at (Array Lit n) full_share xs b o) ∷ []) ∵
      use1 𝓛 (‵ (fsep (feq ℕ (length xs) n) (row Lit full_share xs b o))) (Array-apart 𝓛 Lit full_share tt n xs b o) $ fsplit ! $ feq_l ! (λ long.
      use1 𝓛 (‵ (part_at Lit full_share (get_or xs i 0) b (place 4 o i)) ⊛ ‵ Besides) (takes (shares Lit) full_share 𝓛 xs i 0 b o (subst (λ k. i < k) (sym long) inside)) $ split ! $
      rewrite ! 0 (λ (k : ℕ). ‵ (part_at Lit full_share (get_or xs i 0) b k)) (place_is 4 o i) refl $
      use1 𝓛 (some (λ (v : Val). ‵ (fat full_share lit_type b (i * 4 + o) v) ⊛ ‵ (Lit.own_val (get_or xs i 0) (v ∷ [])))) (part_out 𝓛 Lit refl full_share (get_or xs i 0) b (i * 4 + o)) $ pick ! (λ v. split ! $
      keep ! (0 ∷ 2 ∷ []) $ show ! (λ (w : Val). sep 𝓤 (H.at full_share lit_type b (i * 4 + o) w) (sem 𝓛 Besides)) v $ done !))

  pub lit_in : (y : ℕ) → i < n → length xs ≡ n
      → ent 𝓤 (sep 𝓤 (H.at full_share lit_type b (i * 4 + o) (lit_val y)) (sep 𝓤 (sem 𝓛 (Lit.own_val y (lit_val y ∷ []))) (sem 𝓛 Besides))) (sem 𝓛 (part_at (Array Lit n) full_share (set xs i y) b o))
  lit_in y inside long = qed 𝓛 (‵ (fat full_share lit_type b (i * 4 + o) (lit_val y)) ∷ ‵ (Lit.own_val y (lit_val y ∷ [])) ∷ ‵ Besides ∷ []) ∵
      use2 𝓛 (‵ (part_at Lit full_share y b (i * 4 + o))) (part_in 𝓛 Lit refl full_share y b (i * 4 + o) (lit_val y)) $
      rewrite ! 0 (λ (k : ℕ). ‵ (part_at Lit full_share y b k)) (sym (place_is 4 o i)) refl $
      use2 𝓛 (‵ (row Lit full_share (set xs i y) b o)) (puts (shares Lit) full_share 𝓛 xs i y b o (subst (λ k. i < k) (sym long) inside)) $
      feq_i ! ℕ (length (set xs i y)) n (length-set xs i y ∙ long) $ fjoin ! $ by ! (Array-whole 𝓛 Lit full_share n (set xs i y) b o)

-- room for n literals is filled with x: i of them lie there, and room for the others is after them
module _ {M : Type 1} {𝓤 : Ura M} (𝓛 : Logic 𝓤) (x n b o : ℕ) where
  open 𝓛 use {H}

  abbrev pub Filled : ℕ → Fml
  Filled i = fsep (row Lit full_share (replicate i x) b o) (froom (ty_array lit_type (n - i)) b (i * 4 + o))

  -- the same, without the room for one literal
  abbrev pub Filling : ℕ → Fml
  Filling i = fsep (row Lit full_share (replicate i x) b o) (froom (ty_array lit_type (n - suc i)) b (suc i * 4 + o))

  pub fill_start : ent 𝓤 (H.room (block_type n) b o) (sem 𝓛 (Filled 0))
  fill_start = qed 𝓛 (‵ (froom (block_type n) b o) ∷ []) ∵
      use1 𝓛 (‵ (froom (ty_array lit_type n) b o)) (𝓛.laws.raw-room (ty_array lit_type n) b o) $
      rewrite ! 0 (λ (k : ℕ). ‵ (froom (ty_array lit_type n) b k)) {x = 0 * 4 + o} (omega arith) refl $
      rewrite ! 0 (λ (k : ℕ). ‵ (froom (ty_array lit_type k) b (0 * 4 + o))) {x = n - 0} (omega arith) refl $
      nothing ! $ fjoin ! $ done !

  pub fill_out : (i : ℕ) → i < n → ent 𝓤 (sem 𝓛 (Filled i)) (sep 𝓤 (H.room lit_type b (i * 4 + o)) (sem 𝓛 (Filling i)))
  fill_out i less = qed 𝓛 (‵ (Filled i) ∷ []) ∵ fsplit ! $ move ! (1 ∷ []) $
      rewrite ! 0 (λ (k : ℕ). ‵ (froom (ty_array lit_type k) b (i * 4 + o))) {x = suc (n - suc i)} (omega arith) refl $
      use1 𝓛 (‵ (froom lit_type b (i * 4 + o)) ⊛ ‵ (froom (ty_array lit_type (n - suc i)) b (i * 4 + o + 4))) (𝓛.laws.room_uncons lit_type (n - suc i) b (i * 4 + o)) $ split ! $ move ! (1 ∷ []) $
      rewrite ! 0 (λ (k : ℕ). ‵ (froom (ty_array lit_type (n - suc i)) b k)) {x = suc i * 4 + o} (omega arith) refl $
      move ! (2 ∷ 0 ∷ []) $ fjoin ! $ move ! (1 ∷ 0 ∷ []) $ done !

  grow : (i at : ℕ) → ent 𝓤 (sep 𝓤 (sem 𝓛 (row Lit full_share (replicate i x) b at)) (sem 𝓛 (part_at Lit full_share x b (i * 4 + at)))) (sem 𝓛 (row Lit full_share (replicate (suc i) x) b at))
  grow zero at = qed 𝓛 (‵ (row Lit full_share [] b at) ∷ ‵ (part_at Lit full_share x b (0 * 4 + at)) ∷ []) ∵ move ! (1 ∷ []) $
      rewrite ! 0 (λ (k : ℕ). ‵ (part_at Lit full_share x b k)) {x = at} (omega arith) refl $ fjoin ! $ done !
  grow (suc i) at = qed 𝓛 (‵ (row Lit full_share (replicate (suc i) x) b at) ∷ ‵ (part_at Lit full_share x b (suc i * 4 + at)) ∷ []) ∵ fsplit ! $ move ! (2 ∷ []) $
      rewrite ! 0 (λ (k : ℕ). ‵ (part_at Lit full_share x b k)) {x = i * 4 + (at + 4)} (omega arith) refl $ move ! (2 ∷ 0 ∷ []) $
      use2 𝓛 (‵ (row Lit full_share (replicate (suc i) x) b (at + 4))) (grow i (at + 4)) $ move ! (1 ∷ 0 ∷ []) $ fjoin ! $ done !

  pub fill_in : Is Lit x (lit_val x ∷ []) → (i : ℕ) → ent 𝓤 (sep 𝓤 (H.at full_share lit_type b (i * 4 + o) (lit_val x)) (sem 𝓛 (Filling i))) (sem 𝓛 (Filled (suc i)))
  fill_in is i = qed 𝓛 (‵ (fat full_share lit_type b (i * 4 + o) (lit_val x)) ∷ ‵ (Filling i) ∷ []) ∵
      owned ! Lit (Is Lit) (row_Makes Lit lit_plain 𝓛) x (lit_val x ∷ []) is $ move ! (1 ∷ 0 ∷ []) $
      use2 𝓛 (‵ (part_at Lit full_share x b (i * 4 + o))) (part_in 𝓛 Lit refl full_share x b (i * 4 + o) (lit_val x)) $ move ! (1 ∷ []) $ fsplit ! $ move ! (0 ∷ 2 ∷ []) $
      use2 𝓛 (‵ (row Lit full_share (replicate (suc i) x) b o)) (grow i o) $ fjoin ! $ done !

  pub fill_end : ent 𝓤 (sem 𝓛 (Filled n)) (sem 𝓛 (part_at (Array Lit n) full_share (replicate n x) b o))
  fill_end = qed 𝓛 (‵ (Filled n) ∷ []) ∵ fsplit ! $ keep ! (0 ∷ []) $ feq_i ! ℕ (length (replicate n x)) n (length-replicate n x) $ fjoin ! $
      by ! (Array-whole 𝓛 Lit full_share n (replicate n x) b o)

-- the room that literals lie in
module _ {M : Type 1} {𝓤 : Ura M} (𝓛 : Logic 𝓤) (b : ℕ) where
  open 𝓛 use {H}

  lit_room : (x o : ℕ) → ent 𝓤 (sem 𝓛 (part_at Lit full_share x b o)) (H.room lit_type b o)
  lit_room x o = qed 𝓛 (‵ (part_at Lit full_share x b o) ∷ []) ∵
      use1 𝓛 (some (λ (v : Val). ‵ (fat full_share lit_type b o v) ⊛ ‵ (Lit.own_val x (v ∷ [])))) (part_out 𝓛 Lit refl full_share x b o) $ pick ! (λ v. split ! $
      keep ! (0 ∷ []) $ by ! (𝓛.laws.at_room lit_type b o v))

  row_room : (xs : List ℕ) (o : ℕ) → ent 𝓤 (sem 𝓛 (row Lit full_share xs b o)) (H.room (ty_array lit_type (length xs)) b o)
  row_room [] o = 𝓛.laws.room_nil lit_type b o
  row_room (x ∷ xs) o = qed 𝓛 (‵ (row Lit full_share (x ∷ xs) b o) ∷ []) ∵ fsplit ! $ use1 𝓛 (‵ (froom lit_type b o)) (lit_room x o) $ move ! (1 ∷ []) $
      use1 𝓛 (‵ (froom (ty_array lit_type (length xs)) b (o + 4))) (row_room xs (o + 4)) $ move ! (1 ∷ 0 ∷ []) $ by ! (𝓛.laws.room_cons lit_type (length xs) b o)

  pub block_room : (n : ℕ) (xs : List ℕ) (o : ℕ) → ent 𝓤 (sem 𝓛 (part_at (Array Lit n) full_share xs b o)) (H.room (block_type n) b o)
  block_room n xs o = qed 𝓛 (‵ (part_at (Array Lit n) full_share xs b o) ∷ []) ∵
      use1 𝓛 (‵ (fsep (feq ℕ (length xs) n) (row Lit full_share xs b o))) (Array-apart 𝓛 Lit full_share tt n xs b o) $ fsplit ! $ feq_l ! (λ long.
      use1 𝓛 (‵ (froom (ty_array lit_type (length xs)) b o)) (row_room xs o) $
      rewrite ! 0 (λ (k : ℕ). ‵ (froom (ty_array lit_type k) b o)) long refl $ by ! (𝓛.laws.room-raw (ty_array lit_type n) b o))

-- the size and the alignment of a block
pub block_size : (n : ℕ) → n < 2 ^ 40 → capped (size (block_type n)) ≡ n * 4
block_size n small = ap capped (size-raw (ty_array lit_type n)) ∙ capped_is (n * 4) (omega arith)

pub block_align : (n : ℕ) → capped (align (block_type n)) ≡ 4
block_align n = ap capped (align-raw (ty_array lit_type n))
