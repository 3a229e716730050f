-- What the answers of `next_line` mean of the place where it began.
use Rattle.std.proofs.Common.{◌≡◌, ℕ, ◌+◌, ◌<◌, ◌≤◌, Bool, true, false, not, ◌&&◌, nat_eq, List, [], ◌∷◌, ◌++◌, length, take, filter, if◌then◌else◌, Option, Some, None, refl, sym, ap, ◌∙◌, subst, arith, add-zero, length-take, length-append}
use Rattle.std.proofs.lemmas.Bool.{lt-ltb, le-ltb, and_parts, false≢true}
use Rattle.std.proofs.lemmas.List.{nil_from_length}
use Rattle.std.specs.List.{count_by}
use Rattle.std.specs.Io.KnownBytes.{Keeps}
use Rattle.session_rules.specs.Lines.{Line, is_nil, is_line_feed, words, ends_in_word, line_of, numbered, has_content, counts}
use Rattle.slice_tokens.specs.declared.window.Standing.{Standing}
use Rattle.slice_tokens.specs.declared.window.Standing.TheVariants.{Start, Content, Comment}
use Rattle.slice_tokens.specs.Place.{Place, WhereTold, room, ahead, begins_content, lines_from, first_of, without_words, bare_line, present, following_of, following, lines_behind, later, is_cut, last_line}
use Rattle.slice_tokens.specs.Calls.{Moves, Begins, but_comment, SameContent, InLine, AtEnd, AtBound, OnlyCut}
use Rattle.slice_tokens.specs.Held.{Stays, SameBehind, Skips, Enters, EntersLine, is_word_byte, readable}
use Rattle.slice_tokens.proofs.Rows.{rows, more_texts, first_text, counted, content_at_word}
use Rattle.slice_tokens.proofs.Places.{passed_refl, passed_trans, visible, visible_two, beyond, lines_are, present_is, present_line, present_bare, number_is, word_uncut, present_over, following_is, behind_is, later_taken, later_fresh, last_is}
use Rattle.slice_tokens.proofs.Finding.{cut_is}
use Rattle.slice_tokens.proofs.Told.{told_keeps, told_weaker, told_step, later_stays}

-- ---- lists of lines, but for the words of a comment

-- a first line with content is the same
pub but_comment_content : (ls : List Line) (l : Line) (more : List Line) → but_comment ls ≡ l ∷ more → has_content l.words ≡ true → ls ≡ l ∷ more
but_comment_content [] l more e h = cc
but_comment_content (k ∷ ks) l more e h = by_content (has_content k.words) refl
  where
    by_content : (q : Bool) → has_content k.words ≡ q → k ∷ ks ≡ l ∷ more
    by_content true f = sym (ap (λ q. (if q then k else without_words k) ∷ ks) f) ∙ e
    by_content false f =
        let bare : without_words k ∷ ks ≡ l ∷ more = sym (ap (λ q. (if q then k else without_words k) ∷ ks) f) ∙ e in
        let same : without_words k ≡ l = cc in
        let none : has_content l.words ≡ false = sym (ap (λ x. has_content x.words) same) in
        cc

pub but_comment_none : (ls : List Line) → but_comment ls ≡ [] → ls ≡ []
but_comment_none [] e = refl
but_comment_none (k ∷ ks) e = cc

-- a line that is cut without content stays one
pub but_comment_only : (ls ks : List Line) (last : ℕ) → but_comment ks ≡ but_comment ls → OnlyCut ks last → OnlyCut ls last
but_comment_only [] ks last e h = tt
but_comment_only (l ∷ ls) [] last e h = cc
but_comment_only (l ∷ ls) (k ∷ ks) last e h = by_content (has_content l.words) refl
  where
    bare : without_words k ∷ ks ≡ but_comment (l ∷ ls)
    bare = sym (ap (λ q. (if q then k else without_words k) ∷ ks) h.2) ∙ e

    by_content : (q : Bool) → has_content l.words ≡ q → (ls ≡ []) × (l.cut ≡ true) × (has_content l.words ≡ false) × (l.number ≡ last)
    by_content true f =
        let same : without_words k ∷ ks ≡ l ∷ ls = bare ∙ ap (λ q. (if q then l else without_words l) ∷ ls) f in
        let first : without_words k ≡ l = cc in
        let none : has_content l.words ≡ false = sym (ap (λ x. has_content x.words) first) in
        cc
    by_content false f =
        let same : without_words k ∷ ks ≡ without_words l ∷ ls = bare ∙ ap (λ q. (if q then l else without_words l) ∷ ls) f in
        let first : without_words k ≡ without_words l = cc in
        let behind : ks ≡ ls = cc in
        (sym behind ∙ h.0, sym (ap (λ x. x.cut) first) ∙ h.1, f, sym (ap (λ x. x.number) first) ∙ h.3)

-- ---- the same lines behind

pub behind_refl : (p : Place) (t : List ℕ) → SameBehind p t p t
behind_refl p t = record { lines = refl; cut = refl; last = refl; passed = passed_refl p t }

pub behind_trans : (p q r : Place) (t u v : List ℕ) → SameBehind p t q u → SameBehind q u r v → SameBehind p t r v
behind_trans p q r t u v h k = record { lines = k.lines ∙ h.lines; cut = k.cut ∙ h.cut; last = k.last ∙ h.last; passed = passed_trans p q r t u v h.passed k.passed }

pub behind_stays : (s q r : Place) (t u : List ℕ) → Stays q r → SameBehind s t q u → SameBehind s t r u
behind_stays s q r t u k h =
    let same = later_stays q r u k in
    behind_trans s q r t u u h (record { lines = ap but_comment same.lines; cut = same.cut; last = same.last; passed = same.passed })

-- they are all that is due, once words of both lines were taken
content_of : (p q : Place) (t u : List ℕ) → p.fresh ≡ false → q.fresh ≡ false → SameBehind p t q u → SameContent p t q u
content_of p q t u e f h = record { later = ap but_comment (later_taken q u f) ∙ h.lines ∙ sym (ap but_comment (later_taken p t e)); cut = h.cut; last = h.last; passed = h.passed }

-- what `next_line` keeps as it goes on
pub record Skipping {S : Type 0} (p q : Place) (x y : S) (a b : Option (List ℕ)) (m n : ℕ) : Type 0 where
  pub taken : q.fresh ≡ false
  pub moves : Moves p q
  pub ended : p.ended ≡ true → y ≡ x
  pub told : WhereTold (ahead p a) (ahead q b) (λ t u. SameBehind p t q u)
  pub count : m ≤ n

-- a read keeps it
pub told_filled : (o a b : Option (List ℕ)) (s p m : Place) → Stays p m → Keeps (ahead p a) (ahead m b) → WhereTold o (ahead p a) (λ t u. SameBehind s t p u) → WhereTold o (ahead m b) (λ t u. SameBehind s t m u)
told_filled o a b s p m stays keeps told =
    told_weaker o (ahead m b) (λ t u. SameBehind s t p u) (λ t u. SameBehind s t m u) (λ t u. behind_stays s p m t u stays) (told_keeps o (ahead p a) (ahead m b) (λ t u. SameBehind s t p u) told keeps)

-- and so does a step
pub told_skipped : (o a : Option (List ℕ)) (s m q : Place) → q.ended ≡ m.ended → Skips m q → WhereTold o (ahead m a) (λ t u. SameBehind s t m u) → WhereTold o (ahead q a) (λ t u. SameBehind s t q u)
told_skipped o a s m q e skips told =
    told_step o a m q (λ t u. SameBehind s t m u) (λ u v. SameBehind m u q v) (λ t u. SameBehind s t q u) e told (λ b _. skips.content b) (λ t u v. behind_trans s m q t u v)

-- ---- before the first word of a line

reaches_line : (p m q : Place) (t u v : List ℕ) → p.fresh ≡ false → q.fresh ≡ true → SameBehind p t m u → EntersLine m u q v → InLine p t q v
reaches_line p m q t u v e f h k =
    let came : lines_behind m u ≡ present q v ∷ lines_behind q v =
    behind_is m u ∙ ap (filter counts) k.lines ∙ counted (present q v) (following q v) k.content ∙ ap (λ ls. present q v ∷ ls) (sym (behind_is q v)) in
    let first : but_comment (present q v ∷ lines_behind q v) ≡ present q v ∷ lines_behind q v = ap (λ c. (if c then present q v else without_words (present q v)) ∷ lines_behind q v) k.content in
    let lines : later p t ≡ present q v ∷ lines_behind q v =
    later_taken p t e ∙ but_comment_content (lines_behind p t) (present q v) (lines_behind q v) (sym h.lines ∙ ap but_comment came ∙ first) k.content in
    record {
      lines = lines;
      due = later_fresh q v f ∙ sym lines;
      content = k.content;
      number = number_is q v;
      whole = word_uncut q v;
      over = present_over q v;
      cut = k.cut ∙ h.cut;
      last = k.last ∙ h.last;
      passed = passed_trans p m q t u v h.passed k.passed;
    }

pub told_line : (o a : Option (List ℕ)) (s m q : Place) → s.fresh ≡ false → q.ended ≡ m.ended → Enters m q → WhereTold o (ahead m a) (λ t u. SameBehind s t m u) → WhereTold o (ahead q a) (λ t u. InLine s t q u)
told_line o a s m q taken e enters told =
    told_step o a m q (λ t u. SameBehind s t m u) (λ u v. EntersLine m u q v) (λ t u. InLine s t q u) e told (λ b _. enters.lines b) (λ t u v. reaches_line s m q t u v taken enters.fresh)

-- where the window stands there already
stands_in : (p : Place) (t : List ℕ) → p.fresh ≡ true → has_content (present p t).words ≡ true → InLine p t p t
stands_in p t e f = record {
  lines = later_fresh p t e;
  due = refl;
  content = f;
  number = number_is p t;
  whole = word_uncut p t;
  over = present_over p t;
  cut = refl;
  last = refl;
  passed = passed_refl p t;
}

-- the first byte that may be read makes content
content_here : (p : Place) (t m : List ℕ) (r : List ℕ) → p.standing ≡ Content → visible p t ≡ r ++ m → begins_content r ≡ true → has_content (present p t).words ≡ true
content_here p t m [] e seen h = absurd (false≢true h)
content_here p t m (y ∷ r) e seen h =
    let parts = and_parts (is_word_byte y) (not (nat_eq y 99)) h in
    ap (λ l. has_content l.words) (present_is p t e ∙ ap (first_of (bare_line p.line)) (lines_are p t ∙ ap (rows p.line (is_cut p t)) seen))
    ∙ content_at_word (bare_line p.line) p.line (is_cut p t) y (r ++ m) parts.0 ∙ parts.1

pub told_here : (a : Option (List ℕ)) (p : Place) → Begins p → p.fresh ≡ true → WhereTold (ahead p a) (ahead p a) (λ t u. InLine p t p u)
told_here None p h e = tt
told_here (Some x) p h e =
    let b = if p.ended then [] else x in
    stands_in p (p.held ++ b) e (content_here p (p.held ++ b) (beyond p b) (readable p) (h e).0 (visible_two p b) (h e).1)

-- ---- where nothing may be read

-- the lines of no bytes: one that has nothing, but it may be cut
abbrev nothing : ℕ → Bool → Line
nothing number cut = record { number = number; words = []; cut = cut; word_cut = false }

no_lines : (p : Place) (t : List ℕ) (c : Bool) → is_cut p t ≡ c → visible p t ≡ [] → lines_from p t ≡ nothing p.line c ∷ []
unfolding numbered words ends_in_word
no_lines p t c e none =
    lines_are p t ∙ ap (λ v. rows p.line (is_cut p t) v) none ∙ ap (λ q. rows p.line q []) e ∙ by_cut c
  where
    by_cut : (q : Bool) → rows p.line q [] ≡ nothing p.line q ∷ []
    by_cut true = refl
    by_cut false = refl

none_behind : (p : Place) (t : List ℕ) (c : Bool) (st : Standing) → is_cut p t ≡ c → visible p t ≡ [] → p.standing ≡ st → lines_behind p t ≡ filter counts (following_of st (nothing p.line c ∷ []))
none_behind p t c st e none f =
    behind_is p t ∙ ap (filter counts) (following_is p t ∙ ap (λ x. following_of x (lines_from p t)) f ∙ ap (following_of st) (no_lines p t c e none))

here_last : (p : Place) (t : List ℕ) → visible p t ≡ [] → last_line p t ≡ p.line
here_last p t none = last_is p t ∙ ap (λ l. p.line + count_by is_line_feed l) none ∙ add-zero p.line

-- at the end of the stream
no_more : (p : Place) (t : List ℕ) → is_cut p t ≡ false → visible p t ≡ [] → (lines_behind p t ≡ []) × (present p t ≡ bare_line p.line)
unfolding words ends_in_word
no_more p t e none = by_standing p.standing refl
  where
    by_standing : (st : Standing) → p.standing ≡ st → (lines_behind p t ≡ []) × (present p t ≡ bare_line p.line)
    by_standing Start f = (none_behind p t false Start e none f, present_bare p t Start f refl)
    by_standing Content f =
        (none_behind p t false Content e none f, present_line p t f ∙ ap (λ q. line_of p.line (q && is_nil (more_texts (visible p t))) (first_text (visible p t))) e ∙ ap (λ v. line_of p.line false (first_text v)) none)
    by_standing Comment f = (none_behind p t false Comment e none f, present_bare p t Comment f refl)

-- at the bound
only_cut : (p : Place) (t : List ℕ) → is_cut p t ≡ true → visible p t ≡ [] → OnlyCut (lines_behind p t) p.line
only_cut p t e none = by_standing p.standing refl
  where
    by_standing : (st : Standing) → p.standing ≡ st → OnlyCut (lines_behind p t) p.line
    by_standing Start f = subst (λ ls. OnlyCut ls p.line) (sym (none_behind p t true Start e none f)) (refl, refl, refl, refl)
    by_standing Content f = subst (λ ls. OnlyCut ls p.line) (sym (none_behind p t true Content e none f)) tt
    by_standing Comment f = subst (λ ls. OnlyCut ls p.line) (sym (none_behind p t true Comment e none f)) (refl, refl, refl, refl)

reaches_end : (p m : Place) (t u : List ℕ) → p.fresh ≡ false → m.fresh ≡ false → SameBehind p t m u → m.held ≡ [] → u ≡ [] → AtEnd p t m u
reaches_end p m t u e f h none all =
    let seen : visible m u ≡ [] = ap (take (room m)) all ∙ nil_from_length (take (room m) []) (omega (arith, length-take {A = ℕ} (room m) [])) in
    let uncut : is_cut m u ≡ false = cut_is m u ∙ le-ltb (room m) (length u) (omega (arith, ap length all)) in
    let more = no_more m u uncut seen in
    let before : lines_behind p t ≡ [] = but_comment_none (lines_behind p t) (sym h.lines ∙ ap but_comment more.0) in
    record {
      none = later_taken p t e ∙ before;
      later = later_taken m u f ∙ more.0;
      uncut = sym h.cut ∙ uncut;
      line = sym (here_last m u seen) ∙ h.last;
      all = all;
      present = more.1;
      behind = record { lines = more.0 ∙ sym before; cut = h.cut; last = h.last; passed = h.passed };
    }

reaches_bound : (p m : Place) (t u : List ℕ) → p.fresh ≡ false → m.fresh ≡ false → SameBehind p t m u → room m ≡ 0 → 0 < length u → AtBound p t m u
reaches_bound p m t u e f h full some =
    let seen : visible m u ≡ [] = ap (λ k. take k u) full in
    let cut : is_cut m u ≡ true = cut_is m u ∙ lt-ltb (room m) (length u) (omega arith) in
    let only : OnlyCut (lines_behind p t) (last_line p t) =
    but_comment_only (lines_behind p t) (lines_behind m u) (last_line p t) h.lines (subst (OnlyCut (lines_behind m u)) (sym (here_last m u seen) ∙ h.last) (only_cut m u cut seen)) in
    record {
      only = subst (λ ls. OnlyCut ls (last_line p t)) (sym (later_taken p t e)) only;
      cut = sym h.cut ∙ cut;
      line = sym (here_last m u seen) ∙ h.last;
      behind = content_of p m t u e f h;
    }

pub told_end : (o a : Option (List ℕ)) (s m : Place) → s.fresh ≡ false → m.fresh ≡ false → m.held ≡ [] → m.ended ≡ true → WhereTold o (ahead m a) (λ t u. SameBehind s t m u) → WhereTold o (ahead m a) (λ t u. AtEnd s t m u)
told_end o a s m e f none ended told =
    told_step o a m m (λ t u. SameBehind s t m u) (λ u v. (u ≡ v) × (v ≡ [])) (λ t u. AtEnd s t m u) refl told
    (λ b last. (refl, ap (λ l. l ++ b) none ∙ last ended))
    (λ t u v h k. reaches_end s m t v e f (subst (SameBehind s t m) k.0 h) none k.1)

pub told_bound : (o a : Option (List ℕ)) (s m : Place) → s.fresh ≡ false → m.fresh ≡ false → 0 < length m.held → length (readable m) ≡ 0 → WhereTold o (ahead m a) (λ t u. SameBehind s t m u) → WhereTold o (ahead m a) (λ t u. AtBound s t m u)
told_bound o a s m e f some none told =
    let full : room m ≡ 0 = omega (arith, length-take (room m) m.held) in
    told_step o a m m (λ t u. SameBehind s t m u) (λ u v. (u ≡ v) × (0 < length v)) (λ t u. AtBound s t m u) refl told
    (λ b _. (refl, omega (arith, length-append m.held b)))
    (λ t u v h k. reaches_bound s m t v e f (subst (SameBehind s t m) k.0 h) full k.1)

-- where a read failed
pub told_content : (o a : Option (List ℕ)) (s m : Place) → s.fresh ≡ false → m.fresh ≡ false → WhereTold o (ahead m a) (λ t u. SameBehind s t m u) → WhereTold o (ahead m a) (λ t u. SameContent s t m u)
told_content o a s m e f told = told_weaker o (ahead m a) (λ t u. SameBehind s t m u) (λ t u. SameContent s t m u) (λ t u. content_of s m t u e f) told
