-- The parts of lines: lists of literals and of ids up to a 0, a line's own id, a status.
use Rattle.std.proofs.Common.{◌≡◌, ℕ, List, [], ◌∷◌, ◌++◌, codes, Result, Ok, Err, refl, sym, ◌∙◌, ap, append-nil, append_assoc, inl, inr}
use Rattle.std.proofs.lemmas.Bool.{cases_Bool}
use Rattle.lits.specs.declared.LitWord.{LitWord}
use Rattle.lits.specs.declared.LitWord.TheVariants as literals
use Rattle.lits.specs.declared.IdWord.{IdWord}
use Rattle.lits.specs.declared.IdWord.TheVariants as ids
use Rattle.lits.specs.Word.{literal_word, id_word, magnitude, numeral}
use Rattle.session_rules.specs.declared.StatusWord.{StatusWord}
use Rattle.session_rules.specs.declared.StatusWord.TheVariants.{Satisfiable, Unsatisfiable, Unknown}
use Rattle.session_rules.specs.declared.Rule.{Rule}
use Rattle.session_rules.specs.declared.Rule.TheVariants as rules
use Rattle.session_rules.specs.Reading.{Fault, wrong, missing, ◌>>=◌, Part, whole, literals_after, literal_list, ids_after, id_list, id_or_fault, own_id, status_word, same_word, of_literals, of_ids, of_status}
use Rattle.session_rules.specs.WrongWord.{literal_rule, id_rule}
use Rattle.session_rules.proofs.Readers.{Accepts, IsTail, TailWrong, TailMissing, status_place, no_place, IsPart, PartAccepts, PartOk, PartWrong, PartRule, literal_part, id_part, chained_tail, whole_tail}

-- ---- Lists up to a 0

-- what a word is in a list
data Item : Type 0 where
  last : Item
  item : ℕ → Item
  fault : Rule → Item

abbrev item_after : Item → List (List ℕ) → Part (List ℕ) → Part (List ℕ)
item_after last ws more = Ok ([], ws)
item_after (item n) ws more = more >>= λ m. Ok (n ∷ m.0, m.1)
item_after (fault r) ws more = Err (wrong r)

-- these numbers in front of what is read
abbrev onto : List ℕ → Part (List ℕ) → Part (List ℕ)
onto ns o = o >>= λ m. Ok (ns ++ m.0, m.1)

onto_cons : (n : ℕ) (ns : List ℕ) (ws : List (List ℕ)) (o : Part (List ℕ)) → item_after (item n) ws (onto ns o) ≡ onto (n ∷ ns) o
onto_cons n ns ws (Ok m) = refl
onto_cons n ns ws (Err e) = refl

onto_more : (ns : List ℕ) (n : ℕ) (ws : List (List ℕ)) (o : Part (List ℕ)) → onto ns (item_after (item n) ws o) ≡ onto (ns ++ n ∷ []) o
onto_more ns n ws (Ok m) = ap (λ xs. Ok (xs, m.1)) (sym (append_assoc ns (n ∷ []) m.0))
onto_more ns n ws (Err e) = refl

onto_nil : (o : Part (List ℕ)) → o ≡ onto [] o
onto_nil (Ok m) = refl
onto_nil (Err e) = refl

-- a reading has one value
pub ok_same : {A : Type 0} (o : Result A Fault) (x y : A) → o ≡ Ok x → o ≡ Ok y → x ≡ y
ok_same o x y e f = cc

module _ (kind : List ℕ → Item) (read : List (List ℕ) → Part (List ℕ)) (at_nil : read [] ≡ Err (missing rules.Unclosed))
    (at_cons : (w : List ℕ) (ws : List (List ℕ)) → read (w ∷ ws) ≡ item_after (kind w) ws (read ws)) (zero_last : kind (codes "0") ≡ last) where
  -- words that are items
  record Front (us : List (List ℕ)) : Type 0 where
    numbers : List ℕ
    is : (others : List (List ℕ)) → read (us ++ others) ≡ onto numbers (read others)

  data Run (ws : List (List ℕ)) : Type 0 where
    closed : (us : List (List ℕ)) (w : List ℕ) (rest : List (List ℕ)) → Front us → ws ≡ us ++ w ∷ rest → kind w ≡ last → Run ws
    faulty : (us : List (List ℕ)) (w : List ℕ) (rest : List (List ℕ)) (r : Rule) → Front us → ws ≡ us ++ w ∷ rest → kind w ≡ fault r → Run ws
    all_items : Front ws → Run ws

  at_kind : (w : List ℕ) (k : Item) (ws : List (List ℕ)) → kind w ≡ k → read (w ∷ ws) ≡ item_after k ws (read ws)
  at_kind w k ws e = at_cons w ws ∙ ap (λ j. item_after j ws (read ws)) e

  front_nil : Front []
  front_nil = record { numbers = []; is = λ others. onto_nil (read others) }

  front_cons : (w : List ℕ) (n : ℕ) (us : List (List ℕ)) → kind w ≡ item n → Front us → Front (w ∷ us)
  front_cons w n us e f = record {
    numbers = n ∷ f.numbers;
    is = λ others. at_kind w (item n) (us ++ others) e ∙ ap (item_after (item n) (us ++ others)) (f.is others) ∙ onto_cons n f.numbers (us ++ others) (read others);
  }

  front_more : (us : List (List ℕ)) (w : List ℕ) (n : ℕ) → Front us → kind w ≡ item n → Front (us ++ w ∷ [])
  front_more us w n f e = record {
    numbers = f.numbers ++ n ∷ [];
    is = λ others. ap read (append_assoc us (w ∷ []) others) ∙ f.is (w ∷ others) ∙ ap (onto f.numbers) (at_kind w (item n) others e) ∙ onto_more f.numbers n others (read others);
  }

  read_closed : (us : List (List ℕ)) (w : List ℕ) (f : Front us) → kind w ≡ last → (others : List (List ℕ)) → read (us ++ w ∷ others) ≡ Ok (f.numbers ++ [], others)
  read_closed us w f e others = f.is (w ∷ others) ∙ ap (onto f.numbers) (at_kind w last others e)

  read_faulty : (us : List (List ℕ)) (w : List ℕ) (r : Rule) → Front us → kind w ≡ fault r → (others : List (List ℕ)) → read (us ++ w ∷ others) ≡ Err (wrong r)
  read_faulty us w r f e others = f.is (w ∷ others) ∙ ap (onto f.numbers) (at_kind w (fault r) others e)

  read_open : (ws : List (List ℕ)) → Front ws → read ws ≡ Err (missing rules.Unclosed)
  read_open ws f = ap read (sym (append-nil ws)) ∙ f.is [] ∙ ap (onto f.numbers) at_nil

  front_accepts : (us : List (List ℕ)) → Front us → PartAccepts read us
  front_accepts us f = record { more = codes "0" ∷ []; value = f.numbers ++ []; is = λ rest. read_closed us (codes "0") f zero_last rest }

  run : (ws : List (List ℕ)) → Run ws
  run [] = all_items front_nil
  run (w ∷ ws) = by_kind (kind w) refl (run ws)
    where
      prepend : (n : ℕ) → kind w ≡ item n → Run ws → Run (w ∷ ws)
      prepend n e (closed us v rest f p k) = closed (w ∷ us) v rest (front_cons w n us e f) (ap (λ vs. w ∷ vs) p) k
      prepend n e (faulty us v rest r f p k) = faulty (w ∷ us) v rest r (front_cons w n us e f) (ap (λ vs. w ∷ vs) p) k
      prepend n e (all_items f) = all_items (front_cons w n ws e f)

      by_kind : (k : Item) → kind w ≡ k → Run ws → Run (w ∷ ws)
      by_kind last e r = closed [] w ws front_nil refl e
      by_kind (fault s) e r = faulty [] w ws s front_nil refl e
      by_kind (item n) e r = prepend n e r

  ok_by : (ws : List (List ℕ)) (x : List ℕ) (rest : List (List ℕ)) → Run ws → read ws ≡ Ok (x, rest) → PartOk read ws x rest
  ok_by ws x rest (closed us w after f p k) e =
      let both = ok_same (read ws) (f.numbers ++ [], after) (x, rest) (ap read p ∙ read_closed us w f k after) e in
      record {
        part = us ++ w ∷ [];
        parts = p ∙ ap (λ vs. us ++ w ∷ vs) (ap (λ m. m.1) both) ∙ sym (append_assoc us (w ∷ []) rest);
        local = λ others. ap read (append_assoc us (w ∷ []) others) ∙ read_closed us w f k others ∙ ap (λ m. Ok (m.0, others)) both;
      }
  ok_by ws x rest (faulty us w after r f p k) e = cc (sym (ap read p ∙ read_faulty us w r f k after) ∙ e)
  ok_by ws x rest (all_items f) e = cc (sym (read_open ws f) ∙ e)

  missing_by : (ws : List (List ℕ)) (r : Rule) → Run ws → read ws ≡ Err (missing r) → (r ≡ rules.Unclosed) × PartAccepts read ws
  missing_by ws r (closed us w after f p k) e = cc (sym (ap read p ∙ read_closed us w f k after) ∙ e)
  missing_by ws r (faulty us w after s f p k) e = cc (sym (ap read p ∙ read_faulty us w s f k after) ∙ e)
  missing_by ws r (all_items f) e = let g = sym (read_open ws f) ∙ e in (cc g, front_accepts ws f)

  module _ (rule : (us : List (List ℕ)) (w : List ℕ) (r : Rule) → Front us → kind w ≡ fault r → PartRule read us w r) where
    wrong_by : (ws : List (List ℕ)) (r : Rule) → Run ws → read ws ≡ Err (wrong r) → PartWrong read ws r
    wrong_by ws r (closed us w after f p k) e = cc (sym (ap read p ∙ read_closed us w f k after) ∙ e)
    wrong_by ws r (all_items f) e = cc (sym (read_open ws f) ∙ e)
    wrong_by ws r (faulty us w after s f p k) e = let g = sym (ap read p ∙ read_faulty us w s f k after) ∙ e in let same : s ≡ r = cc g in
        let own = k ∙ ap fault same in record {
          before = us;
          word = w;
          after = after;
          parts = p;
          begins = front_accepts us f;
          stays = read_faulty us w r f own;
          rule = rule us w r f own;
        }

    list_part : IsPart read
    list_part = record {
      on_ok = λ ws x rest. ok_by ws x rest (run ws);
      on_wrong = λ ws r. wrong_by ws r (run ws);
      on_missing = λ ws r. missing_by ws r (run ws);
      some = front_accepts [] front_nil;
    }

-- ---- Literals

literal_kind : LitWord → Item
literal_kind literals.Zero = last
literal_kind (literals.Value l) = item l
literal_kind literals.NotNumber = fault rules.Number
literal_kind literals.OutOfRange = fault rules.Range

literals_are_items : (k : LitWord) (ws : List (List ℕ)) (o : Part (List ℕ)) → literals_after k ws o ≡ item_after (literal_kind k) ws o
unfolding literal_kind
literals_are_items literals.Zero ws o = refl
literals_are_items (literals.Value l) ws o = refl
literals_are_items literals.NotNumber ws o = refl
literals_are_items literals.OutOfRange ws o = refl

literal_fault_rule : (k : LitWord) (r : Rule) → literal_kind k ≡ fault r → r ≡ literal_rule k
unfolding literal_kind
literal_fault_rule literals.Zero r e = cc e
literal_fault_rule (literals.Value l) r e = cc e
literal_fault_rule literals.NotNumber r e = cc e
literal_fault_rule literals.OutOfRange r e = cc e

literal_list_nil : literal_list [] ≡ Err (missing rules.Unclosed)
unfolding literal_list
literal_list_nil = refl

literal_list_cons : (w : List ℕ) (ws : List (List ℕ)) → literal_list (w ∷ ws) ≡ item_after (literal_kind (literal_word w)) ws (literal_list ws)
unfolding literal_list
literal_list_cons w ws = literals_are_items (literal_word w) ws (literal_list ws)

zero_ends_literals : literal_kind (literal_word (codes "0")) ≡ last
unfolding literal_kind literal_word
zero_ends_literals = refl

minus_one_is_literal : literal_kind (literal_word (codes "-1")) ≡ item 1
unfolding literal_kind literal_word magnitude numeral
minus_one_is_literal = refl

abbrev literal_item : List ℕ → Item
literal_item w = literal_kind (literal_word w)

-- literals and a 0 are a part
pub literal_list_part : IsPart literal_list
literal_list_part = list_part literal_item literal_list literal_list_nil literal_list_cons zero_ends_literals
    (λ us w r f e. literal_part (front_accepts literal_item literal_list literal_list_nil literal_list_cons zero_ends_literals (us ++ codes "-1" ∷ [])
    (front_more literal_item literal_list literal_list_nil literal_list_cons zero_ends_literals us (codes "-1") 1 f minus_one_is_literal)) (literal_fault_rule (literal_word w) r e))

-- ---- Ids

id_kind : IdWord → Item
id_kind ids.Zero = last
id_kind (ids.Value i) = item i
id_kind ids.NotNumber = fault rules.Number
id_kind ids.OutOfRange = fault rules.Range

ids_are_items : (k : IdWord) (ws : List (List ℕ)) (o : Part (List ℕ)) → ids_after k ws o ≡ item_after (id_kind k) ws o
unfolding id_kind
ids_are_items ids.Zero ws o = refl
ids_are_items (ids.Value i) ws o = refl
ids_are_items ids.NotNumber ws o = refl
ids_are_items ids.OutOfRange ws o = refl

id_fault_rule : (k : IdWord) (r : Rule) → id_kind k ≡ fault r → r ≡ id_rule k
unfolding id_kind
id_fault_rule ids.Zero r e = cc e
id_fault_rule (ids.Value i) r e = cc e
id_fault_rule ids.NotNumber r e = cc e
id_fault_rule ids.OutOfRange r e = cc e

id_list_nil : id_list [] ≡ Err (missing rules.Unclosed)
unfolding id_list
id_list_nil = refl

id_list_cons : (w : List ℕ) (ws : List (List ℕ)) → id_list (w ∷ ws) ≡ item_after (id_kind (id_word w)) ws (id_list ws)
unfolding id_list
id_list_cons w ws = ids_are_items (id_word w) ws (id_list ws)

zero_ends_ids : id_kind (id_word (codes "0")) ≡ last
unfolding id_kind id_word
zero_ends_ids = refl

one_is_id : id_word (codes "1") ≡ ids.Value 1
unfolding id_word numeral
one_is_id = refl

minus_one_is_no_id : id_word (codes "-1") ≡ ids.NotNumber
unfolding id_word numeral
minus_one_is_no_id = refl

abbrev id_item : List ℕ → Item
id_item w = id_kind (id_word w)

-- ids and a 0 are a part
pub id_list_part : IsPart id_list
unfolding id_kind
id_list_part = list_part id_item id_list id_list_nil id_list_cons zero_ends_ids
    (λ us w r f e. id_part (front_accepts id_item id_list id_list_nil id_list_cons zero_ends_ids (us ++ codes "1" ∷ [])
    (front_more id_item id_list id_list_nil id_list_cons zero_ends_ids us (codes "1") 1 f (ap id_kind one_is_id)))
    (read_faulty id_item id_list id_list_nil id_list_cons zero_ends_ids us (codes "-1") rules.Number f (ap id_kind minus_one_is_no_id)) (id_fault_rule (id_word w) r e))

-- ---- A line's own id

own_id_nil : own_id [] ≡ Err (missing rules.Unclosed)
unfolding own_id
own_id_nil = refl

own_id_cons : (w : List ℕ) (k : IdWord) → id_word w ≡ k → (ws : List (List ℕ)) → own_id (w ∷ ws) ≡ id_or_fault k ws
unfolding own_id
own_id_cons w k e ws = ap (λ j. id_or_fault j ws) e

own_id_accepts : PartAccepts own_id []
own_id_accepts = record { more = codes "1" ∷ []; value = 1; is = own_id_cons (codes "1") (ids.Value 1) one_is_id }

own_id_accepts_one : PartAccepts own_id (codes "1" ∷ [])
own_id_accepts_one = record { more = []; value = 1; is = own_id_cons (codes "1") (ids.Value 1) one_is_id }

own_id_ok : (w : List ℕ) (ws : List (List ℕ)) (k : IdWord) → id_word w ≡ k → (x : ℕ) (rest : List (List ℕ)) → id_or_fault k ws ≡ Ok (x, rest) → PartOk own_id (w ∷ ws) x rest
own_id_ok w ws ids.Zero e x rest f = cc f
own_id_ok w ws ids.NotNumber e x rest f = cc f
own_id_ok w ws ids.OutOfRange e x rest f = cc f
own_id_ok w ws (ids.Value i) e x rest f = let both = ok_same (Ok (i, ws)) (i, ws) (x, rest) refl f in record {
  part = w ∷ [];
  parts = ap (λ m. w ∷ m.1) both;
  local = λ others. own_id_cons w (ids.Value i) e others ∙ ap (λ m. Ok (m.0, others)) both;
}

-- a word at fault
own_id_fault : (w : List ℕ) (ws : List (List ℕ)) (k : IdWord) → id_word w ≡ k → (r : Rule) → ((others : List (List ℕ)) → id_or_fault k others ≡ Err (wrong r)) → r ≡ id_rule k → PartWrong own_id (w ∷ ws) r
own_id_fault w ws k e r f g = record {
  before = [];
  word = w;
  after = ws;
  parts = refl;
  begins = own_id_accepts;
  stays = λ more. own_id_cons w k e more ∙ f more;
  rule = id_part own_id_accepts_one (λ more. own_id_cons (codes "-1") ids.NotNumber minus_one_is_no_id more) (g ∙ ap id_rule (sym e));
}

own_id_wrong : (w : List ℕ) (ws : List (List ℕ)) (k : IdWord) → id_word w ≡ k → (r : Rule) → id_or_fault k ws ≡ Err (wrong r) → PartWrong own_id (w ∷ ws) r
own_id_wrong w ws (ids.Value i) e r f = cc f
own_id_wrong w ws ids.Zero e r f = let same : rules.Range ≡ r = cc f in own_id_fault w ws ids.Zero e r (λ others. ap (λ s. Err (wrong s)) same) (sym same)
own_id_wrong w ws ids.NotNumber e r f = let same : rules.Number ≡ r = cc f in own_id_fault w ws ids.NotNumber e r (λ others. ap (λ s. Err (wrong s)) same) (sym same)
own_id_wrong w ws ids.OutOfRange e r f = let same : rules.Range ≡ r = cc f in own_id_fault w ws ids.OutOfRange e r (λ others. ap (λ s. Err (wrong s)) same) (sym same)

own_id_no_end : (ws : List (List ℕ)) (k : IdWord) (r : Rule) → id_or_fault k ws ≡ Err (missing r) → ⊥
own_id_no_end ws ids.Zero r f = cc f
own_id_no_end ws (ids.Value i) r f = cc f
own_id_no_end ws ids.NotNumber r f = cc f
own_id_no_end ws ids.OutOfRange r f = cc f

-- a line's own id is a part
pub own_id_part : IsPart own_id
own_id_part = record { on_ok = ok; on_wrong = bad; on_missing = end; some = own_id_accepts }
  where
    ok : (ws : List (List ℕ)) (x : ℕ) (rest : List (List ℕ)) → own_id ws ≡ Ok (x, rest) → PartOk own_id ws x rest
    ok [] x rest e = cc (sym own_id_nil ∙ e)
    ok (w ∷ ws) x rest e = own_id_ok w ws (id_word w) refl x rest (sym (own_id_cons w (id_word w) refl ws) ∙ e)

    bad : (ws : List (List ℕ)) (r : Rule) → own_id ws ≡ Err (wrong r) → PartWrong own_id ws r
    bad [] r e = cc (sym own_id_nil ∙ e)
    bad (w ∷ ws) r e = own_id_wrong w ws (id_word w) refl r (sym (own_id_cons w (id_word w) refl ws) ∙ e)

    end : (ws : List (List ℕ)) (r : Rule) → own_id ws ≡ Err (missing r) → (r ≡ rules.Unclosed) × PartAccepts own_id ws
    end [] r e = let f = sym own_id_nil ∙ e in (cc f, own_id_accepts)
    end (w ∷ ws) r e = absurd (own_id_no_end ws (id_word w) r (sym (own_id_cons w (id_word w) refl ws) ∙ e))

-- ---- A status

-- what a word is as a status
data StatusCase (w : List ℕ) : Type 0 where
  is_status : (s : StatusWord) → ((ws : List (List ℕ)) → status_word (w ∷ ws) ≡ Ok (s, ws)) → StatusCase w
  no_status : ((ws : List (List ℕ)) → status_word (w ∷ ws) ≡ Err (wrong rules.Word)) → StatusCase w

status_case : (w : List ℕ) → StatusCase w
unfolding status_word
status_case w = elim (cases_Bool (same_word w (codes "SATISFIABLE"))) [
  | inl a ↦ is_status Satisfiable (λ ws. rw a refl)
  | inr a ↦ elim (cases_Bool (same_word w (codes "UNSATISFIABLE"))) [
    | inl b ↦ is_status Unsatisfiable (λ ws. rw (a, b) refl)
    | inr b ↦ elim (cases_Bool (same_word w (codes "UNKNOWN"))) [
      | inl c ↦ is_status Unknown (λ ws. rw (a, b, c) refl)
      | inr c ↦ no_status (λ ws. rw (a, b, c) refl)
    ]
  ]
]

status_nil : status_word [] ≡ Err (missing rules.Word)
unfolding status_word
status_nil = refl

satisfiable_is_status : status_word (codes "SATISFIABLE" ∷ []) ≡ Ok (Satisfiable, [])
unfolding status_word same_word
satisfiable_is_status = refl

module _ {A : Type 0} (S : Type 0) (here : S) (make : StatusWord → A) where
  abbrev next : Part StatusWord → Result A Fault
  next o = o >>= λ s. whole (make s.0) s.1

  status_accepts : Accepts (of_status make) []
  status_accepts = record { more = codes "SATISFIABLE" ∷ []; value = make Satisfiable; is = ap next satisfiable_is_status }

  wrong_status : (w : List ℕ) (ws : List (List ℕ)) (r : Rule) → StatusCase w → of_status make (w ∷ ws) ≡ Err (wrong r) → TailWrong S (of_status make) (w ∷ ws) r
  wrong_status w ws r (no_status f) e = let g = sym (ap next (f ws)) ∙ e in let same : rules.Word ≡ r = cc g in record {
    before = [];
    word = w;
    after = ws;
    parts = refl;
    begins = status_accepts;
    stays = λ more. ap next (f more) ∙ ap (λ s. Err (wrong s)) same;
    rule = status_place here refl (sym same);
  }
  wrong_status w [] r (is_status s f) e = cc (sym (ap next (f [])) ∙ e)
  wrong_status w (x ∷ ws) r (is_status s f) e = let g = sym (ap next (f (x ∷ ws))) ∙ e in let same : rules.Excess ≡ r = cc g in record {
    before = w ∷ [];
    word = x;
    after = ws;
    parts = refl;
    begins = record { more = []; value = make s; is = ap next (f []) };
    stays = λ more. ap next (f (x ∷ more)) ∙ ap (λ s. Err (wrong s)) same;
    rule = no_place (make s) (ap next (f [])) (sym same);
  }

  missing_status : (w : List ℕ) (ws : List (List ℕ)) (r : Rule) → StatusCase w → of_status make (w ∷ ws) ≡ Err (missing r) → ⊥
  missing_status w ws r (no_status f) e = cc (sym (ap next (f ws)) ∙ e)
  missing_status w [] r (is_status s f) e = cc (sym (ap next (f [])) ∙ e)
  missing_status w (x ∷ ws) r (is_status s f) e = cc (sym (ap next (f (x ∷ ws))) ∙ e)

  more_status : (w : List ℕ) (ws : List (List ℕ)) (y : A) → StatusCase w → of_status make (w ∷ ws) ≡ Ok y → (v : List ℕ) (more : List (List ℕ))
      → of_status make (w ∷ (ws ++ v ∷ more)) ≡ Err (wrong rules.Excess)
  more_status w ws y (no_status f) e v more = cc (sym (ap next (f ws)) ∙ e)
  more_status w [] y (is_status s f) e v more = ap next (f (v ∷ more))
  more_status w (x ∷ ws) y (is_status s f) e v more = ap next (f (x ∷ (ws ++ v ∷ more)))

  -- a status is what stands behind its letter
  pub status_tail : IsTail S (of_status make)
  status_tail = record { on_wrong = bad; on_missing = end; on_more = more_in; some = status_accepts }
    where
      bad : (ws : List (List ℕ)) (r : Rule) → of_status make ws ≡ Err (wrong r) → TailWrong S (of_status make) ws r
      bad [] r e = cc (sym (ap next status_nil) ∙ e)
      bad (w ∷ ws) r e = wrong_status w ws r (status_case w) e

      end : (ws : List (List ℕ)) (r : Rule) → of_status make ws ≡ Err (missing r) → TailMissing S (of_status make) ws r
      end [] r e = let g = sym (ap next status_nil) ∙ e in record { begins = status_accepts; rule = inr (here, refl, cc g) }
      end (w ∷ ws) r e = absurd (missing_status w ws r (status_case w) e)

      more_in : (ws : List (List ℕ)) (y : A) → of_status make ws ≡ Ok y → (v : List ℕ) (more : List (List ℕ)) → of_status make (ws ++ v ∷ more) ≡ Err (wrong rules.Excess)
      more_in [] y e v more = cc (sym (ap next status_nil) ∙ e)
      more_in (w ∷ ws) y e v more = more_status w ws y (status_case w) e v more

-- ---- Literals alone, and ids alone

pub literals_tail : {A : Type 0} (make : List ℕ → A) → IsTail ⊥ (of_literals make)
literals_tail make = chained_tail literal_list (λ ls. whole (make ls)) literal_list_part (λ ls. whole_tail (make ls))

pub ids_tail : {A : Type 0} (make : List ℕ → A) → IsTail ⊥ (of_ids make)
ids_tail make = chained_tail id_list (λ is. whole (make is)) id_list_part (λ is. whole_tail (make is))
