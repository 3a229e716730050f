-- A piece without an entry takes in the one that follows it.
use Rattle.std.proofs.Common.{◌≡◌, ◌≢◌, ℕ, ◌+◌, ◌-◌, ◌*◌, ◌<◌, ◌≤◌, List, length, sym, ap, ◌∙◌, inl, inr, arith, true, false}
use Rattle.std.proofs.Math.ListN.{set}
use Rattle.std.proofs.lemmas.List.{get_or-set_same, get_or-set_other, length-set}
use Rattle.lit_pool.specs.declared.kind.Kind.{Kind}
use Rattle.lit_pool.specs.declared.kind.Kind.TheVariants.{Inside, Freed}
use Rattle.lit_pool.specs.Pieces.{word, room_in, len_in, kind_at, is_piece, is_live, seen, live_pieces, ArePieces}
use Rattle.lit_pool.proofs.PiecesMap.{cases, three, seen_by, entry_same, unchanged, kind_set, kind_other, live_piece}

-- what holds where the piece at s took in the next one
pub record IsJoined (ws vs : List ℕ) (ks js : List Kind) (s : ℕ) : Type 0 where
  pub pieces : ArePieces vs js
  pub stays : live_pieces vs js ≡ live_pieces ws ks
  pub freed : kind_at js s ≡ Freed

module _ (ws vs : List ℕ) (ks js : List Kind) (s t : ℕ) (pieces : ArePieces ws ks) (was : kind_at ks s ≡ Freed) (next : kind_at ks t ≡ Freed)
    (lt : s < t) (near : 8 * t ≤ 8 * s + 4 + room_in ws s) (here : 8 * s + 4 + room_in vs s ≤ 8 * t + 4 + room_in ws t)
    (long_words : length vs ≡ length ws) (long_kinds : length js ≡ length ks)
    (kept : (i : ℕ) → i ≢ 8 * s → word vs i ≡ word ws i)
    (gone : kind_at js t ≡ Inside) (others : (q : ℕ) → q ≢ t → kind_at js q ≡ kind_at ks q) where
  at_s : is_piece (kind_at ks s) ≡ true
  at_s = ap is_piece was

  at_t : is_piece (kind_at ks t) ≡ true
  at_t = ap is_piece next

  -- a piece is another than the one that was taken in
  piece_ne : (q : ℕ) → is_piece (kind_at js q) ≡ true → q ≢ t
  piece_ne q piece e = absurd (let none : is_piece (kind_at js q) ≡ false = ap (λ n. is_piece (kind_at js n)) e ∙ ap is_piece gone in cc)

  piece_was : (q : ℕ) → is_piece (kind_at js q) ≡ true → is_piece (kind_at ks q) ≡ true
  piece_was q piece = sym (ap is_piece (others q (piece_ne q piece))) ∙ piece

  room_was : (q : ℕ) → q ≢ s → room_in vs q ≡ room_in ws q
  room_was q ne = kept (8 * q) (λ e. ne (omega (arith, e)))

  -- what begins behind s begins behind the one that was taken in
  behind : (q : ℕ) → is_piece (kind_at js q) ≡ true → s < q → 8 * t + 4 + room_in ws t ≤ 8 * q
  behind q piece more =
      let a = pieces.apart s q at_s (piece_was q piece) more in
      let ne = piece_ne q piece in
      elim (three q t) [
        | inl before ↦ absurd (omega (arith, a, near, before))
        | inr (inl same) ↦ absurd (ne same)
        | inr (inr after) ↦ pieces.apart t q at_t (piece_was q piece) after
      ]

  joined_within : (q : ℕ) → is_piece (kind_at js q) ≡ true → 8 * q + 4 + room_in vs q ≤ 8 * length js
  joined_within q piece = elim (cases q s) [
    | inl is ↦ let r : room_in vs q ≡ room_in vs s = ap (room_in vs) is in let end = pieces.within t at_t in omega (arith, r, is, end, here, long_kinds)
    | inr ne ↦ let w = pieces.within q (piece_was q piece) in let r = room_was q ne in omega (arith, w, r, long_kinds)
  ]

  joined_apart : (a b : ℕ) → is_piece (kind_at js a) ≡ true → is_piece (kind_at js b) ≡ true → a < b → 8 * a + 4 + room_in vs a ≤ 8 * b
  joined_apart a b piece_a piece_b more = elim (cases a s) [
    | inl is ↦ let r : room_in vs a ≡ room_in vs s = ap (room_in vs) is in let far = behind b piece_b (omega (arith, is, more)) in omega (arith, r, is, here, far)
    | inr ne ↦ let r = room_was a ne in let p = pieces.apart a b (piece_was a piece_a) (piece_was b piece_b) more in omega (arith, r, p)
  ]

  live_was : (q : ℕ) → is_live (kind_at js q) ≡ true → is_live (kind_at ks q) ≡ true
  live_was q live = sym (ap is_live (others q (piece_ne q (live_piece (kind_at js q) live)))) ∙ live

  live_ne : (q : ℕ) → is_live (kind_at ks q) ≡ true → q ≢ s
  live_ne q live e = absurd (let dead : is_live (kind_at ks q) ≡ false = ap (λ n. is_live (kind_at ks n)) e ∙ ap is_live was in cc)

  len_was : (q : ℕ) → len_in vs q ≡ len_in ws q
  len_was q = kept (8 * q + 1) (λ e. absurd (omega (arith, e)))

  seen_was : (q : ℕ) → q ≢ t → seen vs q (kind_at js q) ≡ seen ws q (kind_at ks q)
  seen_was q ne = ap (λ k. seen vs q k) (others q ne) ∙ seen_by ws vs q (kind_at ks q) (λ live.
      let apart = live_ne q live in
      let fits : len_in ws q ≤ room_in ws q = pieces.fits q live in
      let piece : is_piece (kind_at ks q) ≡ true = live_piece (kind_at ks q) live in
      elim (three q s) [
        | inl before ↦ let a = pieces.apart q s piece at_s before in entry_same ws vs q (λ i low high. kept i (λ e. absurd (omega (arith, e, a, high, fits))))
        | inr (inl same) ↦ absurd (apart same)
        | inr (inr after) ↦ entry_same ws vs q (λ i low high. kept i (λ e. absurd (omega (arith, e, low, after))))
      ])

  pub joined_by : IsJoined ws vs ks js s
  joined_by = record {
    pieces = record {
      wide = let w = pieces.wide in omega (arith, w, long_words, long_kinds);
      within = joined_within;
      apart = joined_apart;
      fits = λ q live. let l = live_was q live in let f = pieces.fits q l in let n = len_was q in let r = room_was q (live_ne q l) in omega (arith, f, n, r);
      few = λ q live. let f = pieces.few q (live_was q live) in let n = len_was q in omega (arith, f, n);
    };
    stays = unchanged ws vs ks js (λ q. elim (cases q t) [
      | inl is ↦ ap (λ n. seen vs n (kind_at js n)) is ∙ ap (λ k. seen vs t k) gone ∙ sym (ap (λ n. seen ws n (kind_at ks n)) is ∙ ap (λ k. seen ws t k) next)
      | inr ne ↦ seen_was q ne
    ]);
    freed = others s (λ e. absurd (omega (arith, e, lt))) ∙ was;
  }

-- the same by the word and the kind that are written
pub joined : (ws : List ℕ) (ks : List Kind) (s u v : ℕ) → ArePieces ws ks → kind_at ks s ≡ Freed → kind_at ks (s + u) ≡ Freed → 1 ≤ u → 8 * u ≤ room_in ws s + 4 → room_in ws s + 4 < 8 * u + 8 → 8 * v ≤ room_in ws (s + u) + 4
    → IsJoined ws (set ws (8 * s) (8 * (u + v) - 4)) ks (set ks (s + u) Inside) s
joined ws ks s u v pieces was next some fits close more =
    let vs = set ws (8 * s) (8 * (u + v) - 4) in
    let at_s : is_piece (kind_at ks s) ≡ true = ap is_piece was in
    let at_t : is_piece (kind_at ks (s + u)) ≡ true = ap is_piece next in
    let end : 8 * (s + u) + 4 + room_in ws (s + u) ≤ 8 * length ks = pieces.within (s + u) at_t in
    let wide : 8 * length ks ≤ length ws = pieces.wide in
    let lt : s < s + u = omega (arith, some) in
    let here : word vs (8 * s) ≡ 8 * (u + v) - 4 = get_or-set_same ws (8 * s) (8 * (u + v) - 4) 0 (omega (arith, end, wide, lt)) in
    joined_by ws vs ks (set ks (s + u) Inside) s (s + u) pieces was next lt (omega (arith, fits, some)) (omega (arith, here, more, some))
    (length-set ws (8 * s) (8 * (u + v) - 4)) (length-set ks (s + u) Inside)
    (λ i ne. get_or-set_other ws (8 * s) i (8 * (u + v) - 4) 0 ne)
    (kind_set ks (s + u) Inside (omega (arith, end)))
    (λ q apart. kind_other ks (s + u) Inside q apart)
