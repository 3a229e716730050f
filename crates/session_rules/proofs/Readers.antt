-- Readers of lines, part by part. A part is read off the front of the words, and what is behind it by the next one. Of
-- each reader it is said where it finds its first fault: the words before it are read and can be gone on with, the fault
-- is the same whatever words follow, and what could stand in its place tells its rule.
use Rattle.std.proofs.Common.{◌≡◌, ℕ, List, [], ◌∷◌, ◌++◌, codes, Result, Ok, Err, refl, sym, ◌∙◌, ap, subst, append_assoc, ◌⊎◌, inl, inr}
use Rattle.lits.specs.Word.{literal_word, id_word}
use Rattle.session_rules.specs.declared.Rule.{Rule}
use Rattle.session_rules.specs.declared.Rule.TheVariants as rules
use Rattle.session_rules.specs.Reading.{Fault, wrong, missing, ◌>>=◌, Part, whole}
use Rattle.session_rules.specs.WrongWord.{literal_rule, id_rule}

-- ---- What is read behind a letter

-- the words and some more are read
pub record Accepts {A : Type 0} (read : List (List ℕ) → Result A Fault) (us : List (List ℕ)) : Type 0 where
  pub more : List (List ℕ)
  pub value : A
  pub is : read (us ++ more) ≡ Ok value

-- the rule of a wrong word by what could stand in its place; a status word could where `S` holds
pub data TailRule {A : Type 0} (S : Type 0) (read : List (List ℕ) → Result A Fault) (before : List (List ℕ)) (w : List ℕ) (r : Rule) : Type 0 where
  status_place : S → before ≡ [] → r ≡ rules.Word → TailRule S read before w r
  no_place : (x : A) → read before ≡ Ok x → r ≡ rules.Excess → TailRule S read before w r
  literal_place : Accepts read (before ++ codes "-1" ∷ []) → r ≡ literal_rule (literal_word w) → TailRule S read before w r
  id_place : Accepts read (before ++ codes "1" ∷ []) → ((more : List (List ℕ)) → read (before ++ codes "-1" ∷ more) ≡ Err (wrong rules.Number))
      → r ≡ id_rule (id_word w) → TailRule S read before w r

pub record TailWrong {A : Type 0} (S : Type 0) (read : List (List ℕ) → Result A Fault) (ws : List (List ℕ)) (r : Rule) : Type 0 where
  pub before : List (List ℕ)
  pub word : List ℕ
  pub after : List (List ℕ)
  pub parts : ws ≡ before ++ word ∷ after
  pub begins : Accepts read before
  pub stays : (more : List (List ℕ)) → read (before ++ word ∷ more) ≡ Err (wrong r)
  pub rule : TailRule S read before word r

pub record TailMissing {A : Type 0} (S : Type 0) (read : List (List ℕ) → Result A Fault) (ws : List (List ℕ)) (r : Rule) : Type 0 where
  pub begins : Accepts read ws
  pub rule : (S → ⊥) × (r ≡ rules.Unclosed) ⊎ S × (ws ≡ []) × (r ≡ rules.Word)

-- a reader of all words behind a letter
pub record IsTail {A : Type 0} (S : Type 0) (read : List (List ℕ) → Result A Fault) : Type 0 where
  pub on_wrong : (ws : List (List ℕ)) (r : Rule) → read ws ≡ Err (wrong r) → TailWrong S read ws r
  pub on_missing : (ws : List (List ℕ)) (r : Rule) → read ws ≡ Err (missing r) → TailMissing S read ws r
  pub on_more : (ws : List (List ℕ)) (x : A) → read ws ≡ Ok x → (w : List ℕ) (more : List (List ℕ)) → read (ws ++ w ∷ more) ≡ Err (wrong rules.Excess)
  pub some : Accepts read []

-- ---- A part

-- the words and some more are this part, whatever follows
pub record PartAccepts {A : Type 0} (read : List (List ℕ) → Part A) (us : List (List ℕ)) : Type 0 where
  pub more : List (List ℕ)
  pub value : A
  pub is : (rest : List (List ℕ)) → read (us ++ (more ++ rest)) ≡ Ok (value, rest)

pub record PartOk {A : Type 0} (read : List (List ℕ) → Part A) (ws : List (List ℕ)) (x : A) (rest : List (List ℕ)) : Type 0 where
  pub part : List (List ℕ)
  pub parts : ws ≡ part ++ rest
  pub local : (others : List (List ℕ)) → read (part ++ others) ≡ Ok (x, others)

pub data PartRule {A : Type 0} (read : List (List ℕ) → Part A) (before : List (List ℕ)) (w : List ℕ) (r : Rule) : Type 0 where
  literal_part : PartAccepts read (before ++ codes "-1" ∷ []) → r ≡ literal_rule (literal_word w) → PartRule read before w r
  id_part : PartAccepts read (before ++ codes "1" ∷ []) → ((more : List (List ℕ)) → read (before ++ codes "-1" ∷ more) ≡ Err (wrong rules.Number))
      → r ≡ id_rule (id_word w) → PartRule read before w r

pub record PartWrong {A : Type 0} (read : List (List ℕ) → Part A) (ws : List (List ℕ)) (r : Rule) : Type 0 where
  pub before : List (List ℕ)
  pub word : List ℕ
  pub after : List (List ℕ)
  pub parts : ws ≡ before ++ word ∷ after
  pub begins : PartAccepts read before
  pub stays : (more : List (List ℕ)) → read (before ++ word ∷ more) ≡ Err (wrong r)
  pub rule : PartRule read before word r

-- a reader of a part
pub record IsPart {A : Type 0} (read : List (List ℕ) → Part A) : Type 0 where
  pub on_ok : (ws : List (List ℕ)) (x : A) (rest : List (List ℕ)) → read ws ≡ Ok (x, rest) → PartOk read ws x rest
  pub on_wrong : (ws : List (List ℕ)) (r : Rule) → read ws ≡ Err (wrong r) → PartWrong read ws r
  pub on_missing : (ws : List (List ℕ)) (r : Rule) → read ws ≡ Err (missing r) → (r ≡ rules.Unclosed) × PartAccepts read ws
  pub some : PartAccepts read []

-- ---- A part and what is behind it

-- the part, and then what is behind it by its value
abbrev pub chained : {A B : Type 0} → (List (List ℕ) → Part A) → (A → List (List ℕ) → Result B Fault) → List (List ℕ) → Result B Fault
chained part behind ws = part ws >>= λ m. behind m.0 m.1

module _ {A B : Type 0} (part : List (List ℕ) → Part A) (behind : A → List (List ℕ) → Result B Fault) (is_part : IsPart part) (are_tails : (x : A) → IsTail ⊥ (behind x)) where
  on_chain : {o : Part A} (ws : List (List ℕ)) → part ws ≡ o → chained part behind ws ≡ (o >>= λ m. behind m.0 m.1)
  on_chain ws e = ap (λ o. o >>= λ m. behind m.0 m.1) e

  accepts_part : (us : List (List ℕ)) → PartAccepts part us → Accepts (chained part behind) us
  accepts_part us a = let rest = (are_tails a.value).some in record {
    more = a.more ++ rest.more;
    value = rest.value;
    is = on_chain (us ++ (a.more ++ rest.more)) (a.is rest.more) ∙ rest.is;
  }

  accepts_behind : (us : List (List ℕ)) (x : A) → ((others : List (List ℕ)) → part (us ++ others) ≡ Ok (x, others)) → (vs : List (List ℕ)) → Accepts (behind x) vs → Accepts (chained part behind) (us ++ vs)
  accepts_behind us x local vs a = record {
    more = a.more;
    value = a.value;
    is = ap (chained part behind) (append_assoc us vs a.more) ∙ on_chain (us ++ (vs ++ a.more)) (local (vs ++ a.more)) ∙ a.is;
  }

  part_rule : (before : List (List ℕ)) (w : List ℕ) (r : Rule) → PartRule part before w r → TailRule ⊥ (chained part behind) before w r
  part_rule before w r (literal_part a e) = literal_place (accepts_part (before ++ codes "-1" ∷ []) a) e
  part_rule before w r (id_part a h e) = id_place (accepts_part (before ++ codes "1" ∷ []) a) (λ more. on_chain (before ++ codes "-1" ∷ more) (h more)) e

  rule_behind : (us : List (List ℕ)) (x : A) → ((others : List (List ℕ)) → part (us ++ others) ≡ Ok (x, others)) → (vs : List (List ℕ)) (w : List ℕ) (r : Rule)
      → TailRule ⊥ (behind x) vs w r → TailRule ⊥ (chained part behind) (us ++ vs) w r
  rule_behind us x local vs w r (status_place f e g) = absurd f
  rule_behind us x local vs w r (no_place y e g) = no_place y (on_chain (us ++ vs) (local vs) ∙ e) g
  rule_behind us x local vs w r (literal_place a g) =
      literal_place (subst (Accepts (chained part behind)) (sym (append_assoc us vs (codes "-1" ∷ []))) (accepts_behind us x local (vs ++ codes "-1" ∷ []) a)) g
  rule_behind us x local vs w r (id_place a h g) =
      id_place (subst (Accepts (chained part behind)) (sym (append_assoc us vs (codes "1" ∷ []))) (accepts_behind us x local (vs ++ codes "1" ∷ []) a))
      (λ more. ap (chained part behind) (append_assoc us vs (codes "-1" ∷ more)) ∙ on_chain (us ++ (vs ++ codes "-1" ∷ more)) (local (vs ++ codes "-1" ∷ more)) ∙ h more) g

  wrong_by : (ws : List (List ℕ)) (r : Rule) (o : Part A) → part ws ≡ o → (o >>= λ m. behind m.0 m.1) ≡ Err (wrong r) → TailWrong ⊥ (chained part behind) ws r
  wrong_by ws r (Err (missing s)) e f = cc f
  wrong_by ws r (Err (wrong s)) e f = let same : s ≡ r = cc f in let p = is_part.on_wrong ws r (e ∙ ap (λ q. Err (wrong q)) same) in record {
    before = p.before;
    word = p.word;
    after = p.after;
    parts = p.parts;
    begins = accepts_part p.before p.begins;
    stays = λ more. on_chain (p.before ++ p.word ∷ more) (p.stays more);
    rule = part_rule p.before p.word r p.rule;
  }
  wrong_by ws r (Ok (x, rest)) e f = let p = is_part.on_ok ws x rest e in let t = (are_tails x).on_wrong rest r f in record {
    before = p.part ++ t.before;
    word = t.word;
    after = t.after;
    parts = p.parts ∙ ap (λ vs. p.part ++ vs) t.parts ∙ sym (append_assoc p.part t.before (t.word ∷ t.after));
    begins = accepts_behind p.part x p.local t.before t.begins;
    stays = λ more. ap (chained part behind) (append_assoc p.part t.before (t.word ∷ more))
        ∙ on_chain (p.part ++ (t.before ++ t.word ∷ more)) (p.local (t.before ++ t.word ∷ more)) ∙ t.stays more;
    rule = rule_behind p.part x p.local t.before t.word r t.rule;
  }

  no_status : {ws : List (List ℕ)} {r : Rule} → (⊥ → ⊥) × (r ≡ rules.Unclosed) ⊎ ⊥ × (ws ≡ []) × (r ≡ rules.Word) → r ≡ rules.Unclosed
  no_status (inl h) = h.1
  no_status (inr h) = absurd h.0

  missing_by : (ws : List (List ℕ)) (r : Rule) (o : Part A) → part ws ≡ o → (o >>= λ m. behind m.0 m.1) ≡ Err (missing r) → TailMissing ⊥ (chained part behind) ws r
  missing_by ws r (Err (wrong s)) e f = cc f
  missing_by ws r (Err (missing s)) e f = let same : s ≡ r = cc f in let p = is_part.on_missing ws r (e ∙ ap (λ q. Err (missing q)) same) in record {
    begins = accepts_part ws p.1;
    rule = inl (λ h. h, p.0);
  }
  missing_by ws r (Ok (x, rest)) e f = let p = is_part.on_ok ws x rest e in let t = (are_tails x).on_missing rest r f in record {
    begins = subst (Accepts (chained part behind)) (sym p.parts) (accepts_behind p.part x p.local rest t.begins);
    rule = inl (λ h. h, no_status t.rule);
  }

  more_by : (ws : List (List ℕ)) (y : B) (o : Part A) → part ws ≡ o → (o >>= λ m. behind m.0 m.1) ≡ Ok y → (w : List ℕ) (more : List (List ℕ))
      → chained part behind (ws ++ w ∷ more) ≡ Err (wrong rules.Excess)
  more_by ws y (Err (wrong s)) e f w more = cc f
  more_by ws y (Err (missing s)) e f w more = cc f
  more_by ws y (Ok (x, rest)) e f w more = let p = is_part.on_ok ws x rest e in
      ap (λ vs. chained part behind (vs ++ w ∷ more)) p.parts ∙ ap (chained part behind) (append_assoc p.part rest (w ∷ more))
      ∙ on_chain (p.part ++ (rest ++ w ∷ more)) (p.local (rest ++ w ∷ more)) ∙ (are_tails x).on_more rest y f w more

  -- a part and what is behind it are what is behind a letter
  pub chained_tail : IsTail ⊥ (chained part behind)
  chained_tail = record {
    on_wrong = λ ws r e. wrong_by ws r (part ws) refl e;
    on_missing = λ ws r e. missing_by ws r (part ws) refl e;
    on_more = λ ws y e w more. more_by ws y (part ws) refl e w more;
    some = accepts_part [] is_part.some;
  }

-- behind the last part nothing stands
pub whole_tail : {A : Type 0} (x : A) → IsTail ⊥ (whole x)
whole_tail {A} x = record {
  on_wrong = wrong_in;
  on_missing = missing_in;
  on_more = more_in;
  some = record { more = []; value = x; is = refl };
}
  where
    wrong_in : (ws : List (List ℕ)) (r : Rule) → whole x ws ≡ Err (wrong r) → TailWrong ⊥ (whole x) ws r
    wrong_in [] r e = cc e
    wrong_in (w ∷ ws) r e = let same : rules.Excess ≡ r = cc e in record {
      before = [];
      word = w;
      after = ws;
      parts = refl;
      begins = record { more = []; value = x; is = refl };
      stays = λ more. ap (λ q. Err (wrong q)) same;
      rule = no_place x refl (sym same);
    }

    missing_in : (ws : List (List ℕ)) (r : Rule) → whole x ws ≡ Err (missing r) → TailMissing ⊥ (whole x) ws r
    missing_in [] r e = cc e
    missing_in (w ∷ ws) r e = cc e

    more_in : (ws : List (List ℕ)) (y : A) → whole x ws ≡ Ok y → (w : List ℕ) (more : List (List ℕ)) → whole x (ws ++ w ∷ more) ≡ Err (wrong rules.Excess)
    more_in [] y e w more = refl
    more_in (v ∷ ws) y e w more = refl

-- ---- Readers made of others

module _ {A : Type 0} {S : Type 0} (read : List (List ℕ) → Result A Fault) (none : S → ⊥) (is_tail : IsTail ⊥ read) where
  other_rule : (before : List (List ℕ)) (w : List ℕ) (r : Rule) → TailRule ⊥ read before w r → TailRule S read before w r
  other_rule before w r (status_place f e g) = absurd f
  other_rule before w r (no_place x e g) = no_place x e g
  other_rule before w r (literal_place a g) = literal_place a g
  other_rule before w r (id_place a h g) = id_place a h g

  other_missing : (ws : List (List ℕ)) (r : Rule) → (⊥ → ⊥) × (r ≡ rules.Unclosed) ⊎ ⊥ × (ws ≡ []) × (r ≡ rules.Word) → (S → ⊥) × (r ≡ rules.Unclosed) ⊎ S × (ws ≡ []) × (r ≡ rules.Word)
  other_missing ws r (inl h) = inl (none, h.1)
  other_missing ws r (inr h) = absurd h.0

  -- where no status word could stand
  pub statusless : IsTail S read
  statusless = record {
    on_wrong = λ ws r e. let t = is_tail.on_wrong ws r e in record {
      before = t.before;
      word = t.word;
      after = t.after;
      parts = t.parts;
      begins = t.begins;
      stays = t.stays;
      rule = other_rule t.before t.word r t.rule;
    };
    on_missing = λ ws r e. let t = is_tail.on_missing ws r e in record { begins = t.begins; rule = other_missing ws r t.rule };
    on_more = is_tail.on_more;
    some = is_tail.some;
  }

-- what is read, under another name
abbrev pub mapped : {A B : Type 0} → (A → B) → (List (List ℕ) → Result A Fault) → List (List ℕ) → Result B Fault
mapped f read ws = read ws >>= λ x. Ok (f x)

module _ {A B : Type 0} {S : Type 0} (f : A → B) (read : List (List ℕ) → Result A Fault) (is_tail : IsTail S read) where
  mapped_fault : (o : Result A Fault) (e : Fault) → (o >>= λ x. Ok (f x)) ≡ Err e → o ≡ Err e
  mapped_fault (Ok x) e h = cc h
  mapped_fault (Err d) e h = ap (λ q. Err q) (cc h)

  mapped_ok : (o : Result A Fault) (y : B) → (o >>= λ x. Ok (f x)) ≡ Ok y → (x : A) × (o ≡ Ok x)
  mapped_ok (Ok x) y h = (x, refl)
  mapped_ok (Err d) y h = cc h

  onward : {o : Result A Fault} (ws : List (List ℕ)) → read ws ≡ o → mapped f read ws ≡ (o >>= λ x. Ok (f x))
  onward ws e = ap (λ o. o >>= λ x. Ok (f x)) e

  mapped_accepts : (us : List (List ℕ)) → Accepts read us → Accepts (mapped f read) us
  mapped_accepts us a = record { more = a.more; value = f a.value; is = onward (us ++ a.more) a.is }

  mapped_rule : (before : List (List ℕ)) (w : List ℕ) (r : Rule) → TailRule S read before w r → TailRule S (mapped f read) before w r
  mapped_rule before w r (status_place s e g) = status_place s e g
  mapped_rule before w r (no_place x e g) = no_place (f x) (onward before e) g
  mapped_rule before w r (literal_place a g) = literal_place (mapped_accepts (before ++ codes "-1" ∷ []) a) g
  mapped_rule before w r (id_place a h g) = id_place (mapped_accepts (before ++ codes "1" ∷ []) a) (λ more. onward (before ++ codes "-1" ∷ more) (h more)) g

  pub mapped_tail : IsTail S (mapped f read)
  mapped_tail = record {
    on_wrong = λ ws r e. let t = is_tail.on_wrong ws r (mapped_fault (read ws) (wrong r) e) in record {
      before = t.before;
      word = t.word;
      after = t.after;
      parts = t.parts;
      begins = mapped_accepts t.before t.begins;
      stays = λ more. onward (t.before ++ t.word ∷ more) (t.stays more);
      rule = mapped_rule t.before t.word r t.rule;
    };
    on_missing = λ ws r e. let t = is_tail.on_missing ws r (mapped_fault (read ws) (missing r) e) in record { begins = mapped_accepts ws t.begins; rule = t.rule };
    on_more = λ ws y e w more. let o = mapped_ok (read ws) y e in onward (ws ++ w ∷ more) (is_tail.on_more ws o.0 o.1 w more);
    some = mapped_accepts [] is_tail.some;
  }
