-- A list that is read word by word, with what it has so far in front of what is to come.
use Rattle.std.proofs.Common.{◌≡◌, ℕ, ◌≤◌, Bool, true, false, nat_lt, if◌then◌else◌, List, [], ◌∷◌, ◌++◌, length, Some, None, Ok, Err, refl, sym, ap, ◌∙◌, subst, append_assoc, append-nil, inl, inr, arith, codes}
use Rattle.std.proofs.lemmas.Bool.{cases_Bool}
use Rattle.std.proofs.Common.{ltb-true}
use Rattle.std.specs.declared.option.Option.{Option}
use Rattle.std.specs.declared.result.Result.{Result}
use Rattle.std.specs.Result.{is_err, OnOk}
use Rattle.lits.specs.declared.LitWord.{LitWord}
use Rattle.lits.specs.declared.LitWord.TheVariants as literals
use Rattle.lits.specs.declared.IdWord.{IdWord}
use Rattle.lits.specs.declared.IdWord.TheVariants as ids
use Rattle.lits.specs.Word.{literal_word, id_word}
use Rattle.session_rules.specs.declared.StatusWord.{StatusWord}
use Rattle.session_rules.specs.declared.StatusWord.TheVariants.{Satisfiable, Unsatisfiable, Unknown}
use Rattle.session_rules.specs.declared.Rule.{Rule}
use Rattle.session_rules.specs.declared.Rule.TheVariants as rules
use Rattle.session_rules.specs.declared.LineFault.{LineFault}
use Rattle.session_rules.specs.declared.LineFault.TheVariants.{Syntax, Read, Memory}
use Rattle.session_rules.specs.Lines.{Line}
use Rattle.session_rules.specs.Reading.{Fault, wrong, missing, Part, literal_list, literals_after, id_list, ids_after, own_id, id_or_fault, status_word, same_word}
use Rattle.slice_tokens.specs.Place.{Place, WhereTold, present}
use Rattle.slice_tokens.specs.Due.{known_words}
use Rattle.slice_tokens.specs.Calls.{SameLater}
use Rattle.slice_tokens.proofs.Told.{later_refl, later_trans}
use Rattle.line_reading.specs.Parts.{PartAnswers, SameLine, ReadsPart, Stays, word_part, word_or_fault}
use Rattle.line_reading.specs.Kinds.{literal_says, literal_or_rule, id_says, listed_or_rule, own_id_says, own_or_rule, status_says}
use Rattle.line_reading.specs.Readers.{Reader, to_come, PartRead}
use Rattle.line_reading.proofs.Joined.{told_then, told_at_start, told_map, rose_later, same_fault}
use Rattle.line_reading.proofs.LongWords.{literal_long, id_long, id_word_long, other_length}

ok_same : (p q : Option ℕ × List (List ℕ)) → (let a : Part (Option ℕ) = Ok p in a) ≡ Ok q → p ≡ q
ok_same p q e = cc

err_same : (f g : Fault) → (let a : Part (Option ℕ) = Err f in a) ≡ Err g → f ≡ g
err_same f g e = cc

-- these values in front of a list's
abbrev pub in_front : List ℕ → Part (List ℕ) → Part (List ℕ)
in_front xs (Ok p) = Ok (xs ++ p.0, p.1)
in_front xs (Err e) = Err e

in_front-nil : (p : Part (List ℕ)) → in_front [] p ≡ p
in_front-nil (Ok p) = refl
in_front-nil (Err e) = refl

-- a list by its first word
abbrev pub list_behind : Result (Option ℕ) Rule → List (List ℕ) → Part (List ℕ) → Part (List ℕ)
list_behind (Ok None) ws more = Ok ([], ws)
list_behind (Ok (Some x)) ws more = in_front (x ∷ []) more
list_behind (Err r) ws more = Err (wrong r)

literal_list-cons : (w : List ℕ) (ws : List (List ℕ)) → literal_list (w ∷ ws) ≡ list_behind (literal_says w) ws (literal_list ws)
unfolding literal_list literal_says
literal_list-cons w ws = by_word (literal_word w) (literal_list ws)
  where
    by_word : (l : LitWord) (more : Part (List ℕ)) → literals_after l ws more ≡ list_behind (literal_or_rule l) ws more
    by_word literals.Zero more = refl
    by_word (literals.Value l) (Ok p) = refl
    by_word (literals.Value l) (Err e) = refl
    by_word literals.NotNumber more = refl
    by_word literals.OutOfRange more = refl

id_list-cons : (w : List ℕ) (ws : List (List ℕ)) → id_list (w ∷ ws) ≡ list_behind (id_says w) ws (id_list ws)
unfolding id_list id_says
id_list-cons w ws = by_word (id_word w) (id_list ws)
  where
    by_word : (l : IdWord) (more : Part (List ℕ)) → ids_after l ws more ≡ list_behind (listed_or_rule l) ws more
    by_word ids.Zero more = refl
    by_word (ids.Value l) (Ok p) = refl
    by_word (ids.Value l) (Err e) = refl
    by_word ids.NotNumber more = refl
    by_word ids.OutOfRange more = refl

-- what is read of a list, from its beginning to here
pub record Collects (list : List (List ℕ) → Part (List ℕ)) (xs : List ℕ) (old : Place) (bytes : List ℕ) (new : Place) (rest : List ℕ) : Type 0 where
  pub so_far : list (known_words (present old bytes)) ≡ in_front xs (list (known_words (present new rest)))
  pub line : SameLine (present old bytes) (present new rest)
  pub behind : SameLater old bytes new rest

-- a kind of lists: an empty line lacks its end, a word is one of the kind, and one that is too long isn't
pub record IsList (list : List (List ℕ) → Part (List ℕ)) (says : List ℕ → Result (Option ℕ) Rule) : Type 0 where
  pub none : list [] ≡ Err (missing rules.Unclosed)
  pub some : (w : List ℕ) (ws : List (List ℕ)) → list (w ∷ ws) ≡ list_behind (says w) ws (list ws)
  pub long : (w : List ℕ) → nat_lt 32 (length w) ≡ true → says w ≡ Err rules.Number

pub literal_list_is : IsList literal_list literal_says
unfolding literal_list
literal_list_is = record { none = refl; some = literal_list-cons; long = λ w h. literal_long w (ltb-true _ _ h) }

pub id_list_is : IsList id_list id_says
unfolding id_list
id_list_is = record { none = refl; some = id_list-cons; long = λ w h. id_long w (ltb-true _ _ h) }

module _ (list : List (List ℕ) → Part (List ℕ)) (says : List ℕ → Result (Option ℕ) Rule) (kind : IsList list says) where
  -- one word of a list
  abbrev one : List (List ℕ) → Part (Option ℕ)
  one = word_part says rules.Unclosed rules.Number

  by_says : (w : List ℕ) (ws vs : List (List ℕ)) (x : ℕ) (o : Result (Option ℕ) Rule) → word_or_fault o ws ≡ Ok (Some x, vs) → list_behind o ws (list ws) ≡ in_front (x ∷ []) (list vs)
  by_says w ws vs x (Ok None) e = let values : None ≡ Some x = ap (λ p. p.0) (ok_same (None, ws) (Some x, vs) e) in cc values
  by_says w ws vs x (Ok (Some y)) e =
      let pairs = ok_same (Some y, ws) (Some x, vs) e in
      let values : Some y ≡ Some x = ap (λ p. p.0) pairs in let same : y ≡ x = cc values in
      ap (λ l. in_front (l ∷ []) (list ws)) same ∙ ap (λ l. in_front (x ∷ []) (list l)) (ap (λ p. p.1) pairs)
  by_says w ws vs x (Err r) e = cc e

  one_more : (us vs : List (List ℕ)) (x : ℕ) → one us ≡ Ok (Some x, vs) → list us ≡ in_front (x ∷ []) (list vs)
  one_more [] vs x e = cc e
  one_more (w ∷ ws) vs x e = elim (cases_Bool (nat_lt 32 (length w))) [
    | inl q ↦ let f : Err (wrong rules.Number) ≡ Ok (Some x, vs) = rw q at e in cc f
    | inr q ↦ kind.some w ws ∙ by_says w ws vs x (says w) (rw q at e)
  ]

  by_last : (ws vs : List (List ℕ)) (o : Result (Option ℕ) Rule) → word_or_fault o ws ≡ Ok (None, vs) → list_behind o ws (list ws) ≡ Ok ([], vs)
  by_last ws vs (Ok None) e = ap (λ l. Ok ([], l)) (ap (λ p. p.1) (ok_same (None, ws) (None, vs) e))
  by_last ws vs (Ok (Some y)) e = let values : Some y ≡ None = ap (λ p. p.0) (ok_same (Some y, ws) (None, vs) e) in cc values
  by_last ws vs (Err r) e = cc e

  one_last : (us vs : List (List ℕ)) → one us ≡ Ok (None, vs) → list us ≡ Ok ([], vs)
  one_last [] vs e = cc e
  one_last (w ∷ ws) vs e = elim (cases_Bool (nat_lt 32 (length w))) [
    | inl q ↦ let f : Err (wrong rules.Number) ≡ Ok (None, vs) = rw q at e in cc f
    | inr q ↦ kind.some w ws ∙ by_last ws vs (says w) (rw q at e)
  ]

  by_fault : (ws : List (List ℕ)) (f : Fault) (o : Result (Option ℕ) Rule) → word_or_fault o ws ≡ Err f → list_behind o ws (list ws) ≡ Err f
  by_fault ws f (Ok None) e = cc e
  by_fault ws f (Ok (Some y)) e = cc e
  by_fault ws f (Err r) e = ap (λ g. Err g) (err_same (wrong r) f e)

  one_fault : (us : List (List ℕ)) (f : Fault) → one us ≡ Err f → list us ≡ Err f
  one_fault [] f e = kind.none ∙ ap (λ g. Err g) (err_same (missing rules.Unclosed) f e)
  one_fault (w ∷ ws) f e = elim (cases_Bool (nat_lt 32 (length w))) [
    | inl q ↦ let g = err_same (wrong rules.Number) f (rw q at e) in kind.some w ws ∙ ap (λ o. list_behind o ws (list ws)) (kind.long w q) ∙ ap (λ h. Err h) g
    | inr q ↦ kind.some w ws ∙ by_fault ws f (says w) (rw q at e)
  ]

  in_front-in_front : (xs : List ℕ) (x : ℕ) (p : Part (List ℕ)) → in_front xs (in_front (x ∷ []) p) ≡ in_front (xs ++ x ∷ []) p
  in_front-in_front xs x (Ok p) = ap (λ l. Ok (l, p.1)) (sym (append_assoc xs (x ∷ []) p.0))
  in_front-in_front xs x (Err e) = refl

  line_trans : (k l m : Line) → SameLine k l → SameLine l m → SameLine k m
  line_trans k l m a b = record { number = b.number ∙ a.number; cut = b.cut ∙ a.cut }

  pub collects_more : (xs : List ℕ) (x : ℕ) (o p q : Place) (t u v : List ℕ) → Collects list xs o t p u → ReadsPart one (Ok (Some x)) p u q v → Collects list (xs ++ x ∷ []) o t q v
  collects_more xs x o p q t u v h k = record {
    so_far = h.so_far ∙ ap (in_front xs) (one_more _ _ x k.answer) ∙ in_front-in_front xs x (list (known_words (present q v)));
    line = line_trans _ _ _ h.line k.line;
    behind = later_trans _ _ _ _ _ _ h.behind k.behind;
  }

  pub collects_last : (xs : List ℕ) (o p q : Place) (t u v : List ℕ) → Collects list xs o t p u → ReadsPart one (Ok None) p u q v → ReadsPart list (Ok xs) o t q v
  collects_last xs o p q t u v h k = record {
    answer = h.so_far ∙ ap (in_front xs) (one_last _ _ k.answer) ∙ ap (λ l. Ok (l, known_words (present q v))) (append-nil xs);
    line = line_trans _ _ _ h.line k.line;
    behind = later_trans _ _ _ _ _ _ h.behind k.behind;
  }

  fault_kept : (xs : List ℕ) (us vs : List (List ℕ)) (after : Line) (fault : LineFault) (o : Part (Option ℕ)) → one vs ≡ o → list us ≡ in_front xs (list vs)
      → PartAnswers o after (Err fault) → PartAnswers (list us) after (Err fault)
  fault_kept xs us vs after (Syntax r) (Ok p) e h a = absurd a
  fault_kept xs us vs after (Syntax r) (Err f) e h a = let g : list us ≡ Err f = h ∙ ap (in_front xs) (one_fault vs f e) in rw g a
  fault_kept xs us vs after Read o e h a = tt
  fault_kept xs us vs after Memory o e h a = tt

  pub collects_fault : (xs : List ℕ) (fault : LineFault) (o p q : Place) (t u v : List ℕ) → Collects list xs o t p u → ReadsPart one (Err fault) p u q v → ReadsPart list (Err fault) o t q v
  collects_fault xs fault o p q t u v h k = record {
    answer = fault_kept xs _ _ (present q v) fault _ refl h.so_far k.answer;
    line = line_trans _ _ _ h.line k.line;
    behind = later_trans _ _ _ _ _ _ h.behind k.behind;
  }

  pub collects_memory : (xs : List ℕ) (x : ℕ) (o p q : Place) (t u v : List ℕ) → Collects list xs o t p u → ReadsPart one (Ok (Some x)) p u q v → ReadsPart list (Err Memory) o t q v
  collects_memory xs x o p q t u v h k = record { answer = tt; line = line_trans _ _ _ h.line k.line; behind = later_trans _ _ _ _ _ _ h.behind k.behind }

-- ---- The loop over a list's words

pub Collects-start : (list : List (List ℕ) → Part (List ℕ)) (p : Place) (t : List ℕ) → Collects list [] p t p t
Collects-start list p t = record { so_far = sym (in_front-nil (list (known_words (present p t)))); line = record { number = refl; cut = refl }; behind = later_refl p t }

-- a call that didn't fail did what it does on success
pub succeeded : {T E : Type 0} (r : Result T E) (P : Type 0) → is_err r ≡ false → OnOk r P → P
succeeded (Ok x) P e h = h
succeeded (Err x) P e h = cc e

-- what the loop over a list's words keeps
pub record Collecting (list : List (List ℕ) → Part (List ℕ)) (xs : List ℕ) (old new : Reader) : Type 0 where
  pub passed : old.place.passed ≤ new.place.passed
  pub line : new.place.line ≡ old.place.line
  pub standing : new.place.standing ≡ old.place.standing
  pub taken : old.place.fresh ≡ false → new.place.fresh ≡ false
  pub ended : old.place.ended ≡ true → new.place.ended ≡ true
  pub told : WhereTold (to_come old) (to_come new) (λ t u. Collects list xs old.place t new.place u)
  pub count : old.faults ≤ new.faults

pub collecting_none : (list : List (List ℕ) → Part (List ℕ)) (o : Reader) → Collecting list [] o o
collecting_none list o = record {
  passed = omega arith;
  line = refl;
  standing = refl;
  taken = λ e. e;
  ended = λ e. e;
  told = told_at_start (to_come o) (λ t u. Collects list [] o.place t o.place u) (Collects-start list o.place);
  count = omega arith;
}

-- a part behind what the loop kept
pub stays_after : (list : List (List ℕ) → Part (List ℕ)) (xs : List ℕ) (o m n : Reader) → Collecting list xs o m → Stays m.place n.place → Stays o.place n.place
stays_after list xs o m n h k = record {
  moves = record {
    passed = omega (arith, h.passed, k.moves.passed);
    bounded = k.moves.bounded;
    counted = k.moves.counted;
    ended = λ e. k.moves.ended (h.ended e);
  };
  line = k.line ∙ h.line;
  standing = k.standing ∙ h.standing;
  taken = λ e. k.taken (h.taken e);
}

module _ (list : List (List ℕ) → Part (List ℕ)) (says : List ℕ → Result (Option ℕ) Rule) (kind : IsList list says) (xs : List ℕ) (o m n : Reader) (h : Collecting list xs o m) where
  abbrev one_word : List (List ℕ) → Part (Option ℕ)
  one_word = word_part says rules.Unclosed rules.Number

  -- one word more
  pub collecting_more : (x : ℕ) → PartRead one_word m n (Ok (Some x)) → Collecting list (xs ++ x ∷ []) o n
  collecting_more x k = record {
    passed = omega (arith, h.passed, k.stays.moves.passed);
    line = k.stays.line ∙ h.line;
    standing = k.stays.standing ∙ h.standing;
    taken = λ e. k.stays.taken (h.taken e);
    ended = λ e. k.stays.moves.ended (h.ended e);
    told = told_then _ _ _ _ _ _ h.told k.told (λ t u v i j. collects_more list says kind xs x o.place m.place n.place t u v i j);
    count = omega (arith, h.count, k.count);
  }

  -- the 0 at the list's end
  pub collecting_last : PartRead one_word m n (Ok None) → PartRead list o n (Ok xs)
  collecting_last k = record {
    stays = stays_after list xs o m n h k.stays;
    told = told_then _ _ _ _ _ _ h.told k.told (λ t u v i j. collects_last list says kind xs o.place m.place n.place t u v i j);
    count = omega (arith, h.count, k.count);
    read = λ e. cc e;
  }

  -- a word at fault
  pub collecting_fault : (e : LineFault) → PartRead one_word m n (Err e) → PartRead list o n (Err e)
  collecting_fault e k = record {
    stays = stays_after list xs o m n h k.stays;
    told = told_then _ _ _ _ _ _ h.told k.told (λ t u v i j. collects_fault list says kind xs e o.place m.place n.place t u v i j);
    count = omega (arith, h.count, k.count);
    read = λ f. rose_later _ _ _ h.count (k.read (same_fault e Read f));
  }

  -- no memory for one word more
  pub collecting_memory : (x : ℕ) → PartRead one_word m n (Ok (Some x)) → PartRead list o n (Err Memory)
  collecting_memory x k = record {
    stays = stays_after list xs o m n h k.stays;
    told = told_then _ _ _ _ _ _ h.told k.told (λ t u v i j. collects_memory list says kind xs x o.place m.place n.place t u v i j);
    count = omega (arith, h.count, k.count);
    read = λ e. cc e;
  }

-- ---- Parts of one word

own_id-word_part : (us : List (List ℕ)) → word_part own_id_says rules.Unclosed rules.Number us ≡ own_id us
unfolding own_id own_id_says
own_id-word_part [] = refl
own_id-word_part (w ∷ ws) = elim (cases_Bool (nat_lt 32 (length w))) [
  | inl q ↦ let long : id_word w ≡ ids.NotNumber = id_word_long w (ltb-true _ _ q) in rw (q, long) refl
  | inr q ↦ rw q (by_word (id_word w))
]
  where
    by_word : (l : IdWord) → word_or_fault (own_or_rule l) ws ≡ id_or_fault l ws
    by_word ids.Zero = refl
    by_word (ids.Value i) = refl
    by_word ids.NotNumber = refl
    by_word ids.OutOfRange = refl

status_word-word_part : (us : List (List ℕ)) → word_part status_says rules.Word rules.Word us ≡ status_word us
unfolding status_word status_says
status_word-word_part [] = refl
status_word-word_part (w ∷ ws) = elim (cases_Bool (nat_lt 32 (length w))) [
  | inl q ↦ let h = ltb-true _ _ q in rw (q, other_length w (codes "SATISFIABLE") h (omega arith), other_length w (codes "UNSATISFIABLE") h (omega arith), other_length w (codes "UNKNOWN") h (omega arith)) refl
  | inr q ↦ rw q (by_tests (same_word w (codes "SATISFIABLE")) (same_word w (codes "UNSATISFIABLE")) (same_word w (codes "UNKNOWN")))
]
  where
    by_tests : (a b c : Bool) → word_or_fault (if a then Ok Satisfiable else (if b then Ok Unsatisfiable else (if c then Ok Unknown else Err rules.Word))) ws
        ≡ (if a then Ok (Satisfiable, ws) else (if b then Ok (Unsatisfiable, ws) else (if c then Ok (Unknown, ws) else Err (wrong rules.Word))))
    by_tests true b c = refl
    by_tests false true c = refl
    by_tests false false true = refl
    by_tests false false false = refl

-- two parts that say the same are read alike
reads_same : {A : Type 0} (f g : List (List ℕ) → Part A) → ((us : List (List ℕ)) → f us ≡ g us) → (r : Result A LineFault) (p q : Place) (t u : List ℕ) → ReadsPart f r p t q u → ReadsPart g r p t q u
reads_same f g same r p q t u h = record {
  answer = subst (λ o. PartAnswers o (present q u) r) (same (known_words (present p t))) h.answer;
  line = h.line;
  behind = h.behind;
}

part_same : {A : Type 0} (f g : List (List ℕ) → Part A) → ((us : List (List ℕ)) → f us ≡ g us) → (r : Result A LineFault) (o n : Reader) → PartRead f o n r → PartRead g o n r
part_same f g same r o n h = record { stays = h.stays; told = told_map _ _ _ _ h.told (λ t u k. reads_same f g same r o.place n.place t u k); count = h.count; read = h.read }

pub own_id_read : (r : Result ℕ LineFault) (o n : Reader) → PartRead (word_part own_id_says rules.Unclosed rules.Number) o n r → PartRead own_id o n r
own_id_read r o n h = part_same (word_part own_id_says rules.Unclosed rules.Number) own_id own_id-word_part r o n h

pub status_read : (r : Result StatusWord LineFault) (o n : Reader) → PartRead (word_part status_says rules.Word rules.Word) o n r → PartRead status_word o n r
status_read r o n h = part_same (word_part status_says rules.Word rules.Word) status_word status_word-word_part r o n h
