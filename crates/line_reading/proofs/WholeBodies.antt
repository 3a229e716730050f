-- The rest of a line, read part by part to its end.
use Rattle.std.proofs.Common.{◌≡◌, ℕ, Bool, true, false, if◌then◌else◌, List, [], ◌∷◌, Some, None, Ok, Err, refl, sym, ap, ◌∙◌, subst}
use Rattle.std.specs.declared.result.Result.{Result}
use Rattle.session_rules.specs.declared.Rule.{Rule}
use Rattle.session_rules.specs.declared.Rule.TheVariants as rules
use Rattle.session_rules.specs.declared.LineFault.{LineFault}
use Rattle.session_rules.specs.declared.LineFault.TheVariants.{Syntax, Read, Memory}
use Rattle.session_rules.specs.Lines.{Line}
use Rattle.session_rules.specs.Reading.{Fault, wrong, missing, ◌>>=◌, Part, whole, own_id, literal_list, id_list}
use Rattle.slice_tokens.specs.Place.{Place, present}
use Rattle.slice_tokens.specs.Due.{known_words}
use Rattle.line_reading.specs.Parts.{PartAnswers, ReadsPart, end_fault, EndAnswers, EndsLine}
use Rattle.line_reading.specs.Whole.{of_line, Tells, ReadsBody, literals_body, ids_body, id_literals_body, id_literals_ids_body, literals_ids_body}
use Rattle.line_reading.specs.Readers.{Reader, PartRead, BodyRead, EndRead}
use Rattle.line_reading.proofs.Joined.{same_fault, in_line_then}
use Rattle.slice_tokens.proofs.Told.{later_trans}

-- ---- A part, and what comes behind it

module _ {A B : Type 0} (part : List (List ℕ) → Part A) (more : A → List (List ℕ) → Result B Fault) where
  abbrev pub with_more : List (List ℕ) → Result B Fault
  with_more ws = part ws >>= λ m. more m.0 m.1

  -- a part was read, and then the rest
  pub body_then : (x : A) (r : Result B LineFault) (p q s : Place) (t u v : List ℕ) → ReadsPart part (Ok x) p t q u → ReadsBody (more x) r q u s v → ReadsBody with_more r p t s v
  body_then x r p q s t u v h k = record {
    answer =
        let said : with_more (known_words (present p t)) ≡ more x (known_words (present q u)) = ap (λ o. o >>= λ m. more m.0 m.1) h.answer in
        subst (λ o. Tells (of_line (present p t).cut o) r) (sym said) (subst (λ c. Tells (of_line c (more x (known_words (present q u)))) r) h.line.cut k.answer);
    behind = later_trans _ _ _ _ _ _ h.behind k.behind;
  }

  fault_said : (cut : Bool) (o : Part A) (e : LineFault) (after : Line) → after.cut ≡ cut → PartAnswers o after (Err e) → Tells {A = B} (of_line cut (o >>= λ m. more m.0 m.1)) (Err e)
  fault_said cut (Ok m) (Syntax r) after c a = absurd a
  fault_said true (Err (wrong w)) (Syntax r) after c a = ap (λ z. Err z) (sym a)
  fault_said false (Err (wrong w)) (Syntax r) after c a = ap (λ z. Err z) (sym a)
  fault_said true (Err (missing w)) (Syntax r) after c a = ap (λ z. Err z) (sym (a ∙ ap (λ k. if k then rules.Length else w) c))
  fault_said false (Err (missing w)) (Syntax r) after c a = ap (λ z. Err z) (sym (a ∙ ap (λ k. if k then rules.Length else w) c))
  fault_said cut o Read after c a = tt
  fault_said cut o Memory after c a = tt

  -- a part was at fault
  pub body_fault : (e : LineFault) (p q : Place) (t u : List ℕ) → ReadsPart part (Err e) p t q u → ReadsBody with_more (Err e) p t q u
  body_fault e p q t u h = record {
    answer = fault_said (present p t).cut (part (known_words (present p t))) e (present q u) h.line.cut h.answer;
    behind = h.behind;
  }

-- ---- The line's end

module _ {A : Type 0} (x : A) where
  end_said : (cut : Bool) (ws : List (List ℕ)) → end_fault cut ws ≡ None → of_line cut (whole x ws) ≡ Ok x
  end_said true [] e = cc e
  end_said false [] e = refl
  end_said cut (w ∷ ws) e = cc e

  end_broken : (cut : Bool) (ws : List (List ℕ)) (r : Rule) → end_fault cut ws ≡ Some r → of_line cut (whole x ws) ≡ Err r
  end_broken true [] r e = let f : rules.Length ≡ r = cc e in ap (λ z. Err z) f
  end_broken false [] r e = cc e
  end_broken true (w ∷ ws) r e = let f : rules.Excess ≡ r = cc e in ap (λ z. Err z) f
  end_broken false (w ∷ ws) r e = let f : rules.Excess ≡ r = cc e in ap (λ z. Err z) f

  pub end_then : (y : Unit) (p q : Place) (t u : List ℕ) → EndsLine (Ok y) p t q u → ReadsBody (whole x) (Ok x) p t q u
  end_then y p q t u h = record { answer = end_said (present p t).cut (known_words (present p t)) h.answer; behind = h.behind }

  fault_at_end : (cut : Bool) (ws : List (List ℕ)) (e : LineFault) → EndAnswers (end_fault cut ws) (Err e) → Tells (of_line cut (whole x ws)) (Err e)
  fault_at_end cut ws (Syntax r) a = end_broken cut ws r a
  fault_at_end cut ws Read a = tt
  fault_at_end cut ws Memory a = tt

  pub end_fails : (e : LineFault) (p q : Place) (t u : List ℕ) → EndsLine (Err e) p t q u → ReadsBody (whole x) (Err e) p t q u
  end_fails e p q t u h = record { answer = fault_at_end (present p t).cut (known_words (present p t)) e h.answer; behind = h.behind }

-- a part and the line's end were read
module _ {A : Type 0} (part : List (List ℕ) → Part A) (x : A) where
  pub part_ended : (y : Unit) (o m n : Reader) → PartRead part o m (Ok x) → EndRead m n (Ok y) → BodyRead (with_more part (λ a ws. whole a ws)) o n (Ok x)
  part_ended y o m n h k = in_line_then _ _ (ReadsBody (with_more part (λ a ws. whole a ws)) (Ok x)) _ (Ok y) _ o m n (λ e. cc e) h k (λ t u v i j.
      body_then part (λ a ws. whole a ws) x (Ok x) o.place m.place n.place t u v i (end_then x y m.place n.place u v j))

  pub part_unended : (e : LineFault) (o m n : Reader) → PartRead part o m (Ok x) → EndRead m n (Err e) → BodyRead (with_more part (λ a ws. whole a ws)) o n (Err e)
  part_unended e o m n h k = in_line_then _ _ (ReadsBody (with_more part (λ a ws. whole a ws)) (Err e)) _ _ _ o m n (same_fault e Read) h k (λ t u v i j.
      body_then part (λ a ws. whole a ws) x (Err e) o.place m.place n.place t u v i (end_fails x e m.place n.place u v j))

-- ---- Another value of the same words

-- the value by a function of another
abbrev pub mapped : {A B : Type 0} → (A → B) → Result A Fault → Result B Fault
mapped f (Ok x) = Ok (f x)
mapped f (Err e) = Err e

module _ {A B : Type 0} (f : A → B) where
  mapped_line : (cut : Bool) (o : Result A Fault) (x : A) → of_line cut o ≡ Ok x → of_line cut (mapped f o) ≡ Ok (f x)
  mapped_line true (Ok y) x e = cc e
  mapped_line false (Ok y) x e = let g : y ≡ x = cc e in ap (λ z. Ok (f z)) g
  mapped_line true (Err (wrong r)) x e = cc e
  mapped_line true (Err (missing r)) x e = cc e
  mapped_line false (Err e) x g = cc g

  mapped_fault : (cut : Bool) (o : Result A Fault) (r : Rule) → of_line cut o ≡ Err r → of_line cut (mapped f o) ≡ Err r
  mapped_fault true (Ok y) r e = let g : rules.Length ≡ r = cc e in ap (λ z. Err z) g
  mapped_fault false (Ok y) r e = cc e
  mapped_fault true (Err (wrong w)) r e = let g : w ≡ r = cc e in ap (λ z. Err z) g
  mapped_fault true (Err (missing w)) r e = let g : rules.Length ≡ r = cc e in ap (λ z. Err z) g
  mapped_fault false (Err (wrong w)) r e = let g : w ≡ r = cc e in ap (λ z. Err z) g
  mapped_fault false (Err (missing w)) r e = let g : w ≡ r = cc e in ap (λ z. Err z) g

  pub mapped_ok : (says : List (List ℕ) → Result A Fault) (other : List (List ℕ) → Result B Fault) → ((ws : List (List ℕ)) → other ws ≡ mapped f (says ws))
      → (x : A) (p q : Place) (t u : List ℕ) → ReadsBody says (Ok x) p t q u → ReadsBody other (Ok (f x)) p t q u
  mapped_ok says other same x p q t u h = record {
    answer = ap (of_line (present p t).cut) (same (known_words (present p t))) ∙ mapped_line (present p t).cut (says (known_words (present p t))) x h.answer;
    behind = h.behind;
  }

  tells_mapped : (cut : Bool) (o : Result A Fault) (e : LineFault) → Tells (of_line cut o) (Err e) → Tells (of_line cut (mapped f o)) (Err e)
  tells_mapped cut o (Syntax r) a = mapped_fault cut o r a
  tells_mapped cut o Read a = tt
  tells_mapped cut o Memory a = tt

  pub mapped_err : (says : List (List ℕ) → Result A Fault) (other : List (List ℕ) → Result B Fault) → ((ws : List (List ℕ)) → other ws ≡ mapped f (says ws))
      → (e : LineFault) (p q : Place) (t u : List ℕ) → ReadsBody says (Err e) p t q u → ReadsBody other (Err e) p t q u
  mapped_err says other same e p q t u h = record {
    answer = subst (λ o. Tells {A = B} (of_line (present p t).cut o) (Err e)) (sym (same (known_words (present p t)))) (tells_mapped (present p t).cut (says (known_words (present p t))) e h.answer);
    behind = h.behind;
  }

-- ---- The bodies by their parts

whole-mapped : {A B : Type 0} (f : A → B) (x : A) (ws : List (List ℕ)) → whole (f x) ws ≡ mapped f (whole x ws)
whole-mapped f x [] = refl
whole-mapped f x (w ∷ ws) = refl

-- the value of an id and literals, and of literals and ids
abbrev pub id_with : ℕ → List ℕ → ℕ × List ℕ
id_with i ls = (i, ls)

abbrev pub both_lists : List ℕ → List ℕ → List ℕ × List ℕ
both_lists ls hs = (ls, hs)

abbrev pub with_first : ℕ → (List ℕ × List ℕ) → ℕ × List ℕ × List ℕ
with_first i m = (i, m.0, m.1)

-- a list and the line's end, as another value
list_mapped : {B : Type 0} (f : List ℕ → B) (o : Part (List ℕ)) → (o >>= λ ls. whole (f ls.0) ls.1) ≡ mapped f (o >>= λ ls. whole ls.0 ls.1)
list_mapped f (Ok m) = whole-mapped f m.0 m.1
list_mapped f (Err e) = refl

-- the rest behind an id
pub with_id : (i : ℕ) (ws : List (List ℕ)) → (literal_list ws >>= λ ls. whole (id_with i ls.0) ls.1) ≡ mapped (id_with i) (literals_body ws)
with_id i ws = list_mapped (id_with i) (literal_list ws)

-- the rest behind a literal list
pub with_literals : (ls : List ℕ) (ws : List (List ℕ)) → (id_list ws >>= λ hs. whole (both_lists ls hs.0) hs.1) ≡ mapped (both_lists ls) (ids_body ws)
with_literals ls ws = list_mapped (both_lists ls) (id_list ws)

-- ---- A body behind a part that was read

pub ids_behind : (ls hs : List ℕ) (o m n : Reader) → PartRead literal_list o m (Ok ls) → BodyRead ids_body m n (Ok hs) → BodyRead literals_ids_body o n (Ok (ls, hs))
ids_behind ls hs o m n h k = in_line_then _ _ (ReadsBody literals_ids_body (Ok (ls, hs))) _ (let r : Result (List ℕ) LineFault = Ok hs in r) _ o m n (λ e. cc e) h k (λ t u v i j.
    body_then literal_list (λ ls ws. id_list ws >>= λ hs. whole (both_lists ls hs.0) hs.1) ls (Ok (ls, hs)) o.place m.place n.place t u v i
    (mapped_ok (both_lists ls) ids_body (λ ws. id_list ws >>= λ hs. whole (both_lists ls hs.0) hs.1) (with_literals ls) hs m.place n.place u v j))

pub literals_behind : (i : ℕ) (ls : List ℕ) (o m n : Reader) → PartRead own_id o m (Ok i) → BodyRead literals_body m n (Ok ls) → BodyRead id_literals_body o n (Ok (i, ls))
literals_behind i ls o m n h k = in_line_then _ _ (ReadsBody id_literals_body (Ok (i, ls))) _ (let r : Result (List ℕ) LineFault = Ok ls in r) _ o m n (λ e. cc e) h k (λ t u v p j.
    body_then own_id (λ i ws. literal_list ws >>= λ ls. whole (id_with i ls.0) ls.1) i (Ok (i, ls)) o.place m.place n.place t u v p
    (mapped_ok (id_with i) literals_body (λ ws. literal_list ws >>= λ ls. whole (id_with i ls.0) ls.1) (with_id i) ls m.place n.place u v j))

-- ---- Faults behind a part that was read

pub fault_behind_literals : (ls : List ℕ) (e : LineFault) (o m n : Reader) → PartRead literal_list o m (Ok ls) → BodyRead ids_body m n (Err e) → BodyRead literals_ids_body o n (Err e)
fault_behind_literals ls e o m n h k = in_line_then _ _ (ReadsBody literals_ids_body (Err e)) _ _ _ o m n (same_fault e Read) h k (λ t u v i j.
    body_then literal_list (λ ls ws. id_list ws >>= λ hs. whole (both_lists ls hs.0) hs.1) ls (Err e) o.place m.place n.place t u v i
    (mapped_err (both_lists ls) ids_body (λ ws. id_list ws >>= λ hs. whole (both_lists ls hs.0) hs.1) (with_literals ls) e m.place n.place u v j))

pub fault_behind_id : (i : ℕ) (e : LineFault) (o m n : Reader) → PartRead own_id o m (Ok i) → BodyRead literals_body m n (Err e) → BodyRead id_literals_body o n (Err e)
fault_behind_id i e o m n h k = in_line_then _ _ (ReadsBody id_literals_body (Err e)) _ _ _ o m n (same_fault e Read) h k (λ t u v p j.
    body_then own_id (λ i ws. literal_list ws >>= λ ls. whole (id_with i ls.0) ls.1) i (Err e) o.place m.place n.place t u v p
    (mapped_err (id_with i) literals_body (λ ws. literal_list ws >>= λ ls. whole (id_with i ls.0) ls.1) (with_id i) e m.place n.place u v j))

-- the rest behind an id, of two lists
lists_behind : ℕ → List (List ℕ) → Result (ℕ × List ℕ × List ℕ) Fault
lists_behind i ws = literal_list ws >>= λ ls. id_list ls.1 >>= λ hs. whole (with_first i (both_lists ls.0 hs.0)) hs.1

lists_mapped : (i : ℕ) (ws : List (List ℕ)) → lists_behind i ws ≡ mapped (with_first i) (literals_ids_body ws)
unfolding lists_behind
lists_mapped i ws = by_literals (literal_list ws)
  where
    by_ids : (ls : List ℕ) (o : Part (List ℕ)) → (o >>= λ hs. whole (with_first i (both_lists ls hs.0)) hs.1) ≡ mapped (with_first i) (o >>= λ hs. whole (both_lists ls hs.0) hs.1)
    by_ids ls (Ok m) = whole-mapped (with_first i) (both_lists ls m.0) m.1
    by_ids ls (Err e) = refl

    by_literals : (o : Part (List ℕ)) → (o >>= λ ls. id_list ls.1 >>= λ hs. whole (with_first i (both_lists ls.0 hs.0)) hs.1)
        ≡ mapped (with_first i) (o >>= λ ls. id_list ls.1 >>= λ hs. whole (both_lists ls.0 hs.0) hs.1)
    by_literals (Ok m) = by_ids m.0 (id_list m.1)
    by_literals (Err e) = refl

pub fault_behind_id_lists : (i : ℕ) (e : LineFault) (o m n : Reader) → PartRead own_id o m (Ok i) → BodyRead literals_ids_body m n (Err e) → BodyRead id_literals_ids_body o n (Err e)
unfolding lists_behind
fault_behind_id_lists i e o m n h k = in_line_then _ _ (ReadsBody id_literals_ids_body (Err e)) _ _ _ o m n (same_fault e Read) h k (λ t u v p j.
    body_then own_id (λ i ws. literal_list ws >>= λ ls. id_list ls.1 >>= λ hs. whole (with_first i (both_lists ls.0 hs.0)) hs.1) i (Err e) o.place m.place n.place t u v p
    (mapped_err (with_first i) literals_ids_body (lists_behind i) (lists_mapped i) e m.place n.place u v j))

pub lists_behind_id : (i : ℕ) (both : List ℕ × List ℕ) (o m n : Reader) → PartRead own_id o m (Ok i) → BodyRead literals_ids_body m n (Ok both) → BodyRead id_literals_ids_body o n (Ok (i, both.0, both.1))
unfolding lists_behind
lists_behind_id i both o m n h k = in_line_then _ _ (ReadsBody id_literals_ids_body (Ok (i, both.0, both.1))) _ (let r : Result (List ℕ × List ℕ) LineFault = Ok both in r) _ o m n (λ e. cc e) h k (λ t u v p j.
    body_then own_id (λ i ws. literal_list ws >>= λ ls. id_list ls.1 >>= λ hs. whole (with_first i (both_lists ls.0 hs.0)) hs.1) i (Ok (i, both.0, both.1)) o.place m.place n.place t u v p
    (mapped_ok (with_first i) literals_ids_body (lists_behind i) (lists_mapped i) both m.place n.place u v j))
