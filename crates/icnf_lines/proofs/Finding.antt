-- The literals of a line, one after another, against the marks of a table.
use Rattle.std.proofs.Common.{◌≡◌, ℕ, Bool, true, false, not, ◌&&◌, ◌||◌, cond, nat_eq, List, [], ◌∷◌, ◌++◌, find, Some, None, Ok, Err, refl, sym, ◌∙◌, ap, eq-eqb}
use mathlib.Core.Path.{fun_ext}
use Rattle.std.specs.declared.option.Option.{Option}
use Rattle.std.specs.Option.{option_or}
use Rattle.std.proofs.lemmas.List.Folds.{find-append}
use Rattle.lits.specs.Clause.{has}
use Rattle.lits.specs.Numbering.{find_dense_lit}
use Rattle.session_rules.specs.declared.LineFault.{LineFault}
use Rattle.session_rules.specs.declared.Rule.TheVariants as rules
use Rattle.session_rules.specs.History.{first_missing}
use Rattle.session_rules.specs.declared.LineFault.TheVariants.{Read}
use Rattle.session_rules.specs.Reading.{Part, literal_list, whole}
use Rattle.line_reading.specs.Parts.{word_part}
use Rattle.line_reading.specs.Readers.{Reader, PartRead, BodyRead, EndRead}
use Rattle.line_reading.specs.Kinds.{literal_says}
use Rattle.line_reading.specs.Whole.{ReadsBody, literals_body}
use Rattle.line_reading.proofs.Joined.{same_fault, in_line_map, in_line_then}
use Rattle.line_reading.proofs.Collecting.{literal_list_is, Collecting, collecting_none, collecting_more, collecting_last, collecting_fault}
use Rattle.line_reading.proofs.WholeBodies.{body_then, body_fault, end_then, end_fails}
use Rattle.icnf_lines.specs.declared.marks.Mark.{Mark}
use Rattle.icnf_lines.specs.declared.meeting.Found.{Found}
use Rattle.icnf_lines.specs.Marks.{mark_in, mark_of, is_at, AreKnown, IsBlank, also_held, also_assumed, also_met, Changes, PlacesChange, PlaceChanges}
use Rattle.icnf_lines.specs.Partners.{KeepsBlank, LiteralsFound, LiteralsMet}
use Rattle.icnf_lines.proofs.Marking.{met_push}
use Rattle.icnf_lines.proofs.Seeing.{one_met, none_seen, both_seen}

-- ---- A list, and the line's end

module _ (ls : List ℕ) (o q n : Reader) (read : PartRead literal_list o q (Ok ls)) where
  list_ended : (y : Unit) → EndRead q n (Ok y) → BodyRead literals_body o n (Ok ls)
  list_ended y end = in_line_then _ _ (ReadsBody literals_body (Ok ls)) _ _ _ o q n (λ e. cc e) read end
      (λ t u v h w. body_then literal_list (λ ls ws. whole ls ws) ls (Ok ls) o.place q.place n.place t u v h (end_then ls y q.place n.place u v w))

  list_not_ended : (fault : LineFault) → EndRead q n (Err fault) → BodyRead literals_body o n (Err fault)
  list_not_ended fault end = in_line_then _ _ (ReadsBody literals_body (Err fault)) _ _ _ o q n (same_fault fault Read) read end
      (λ t u v h w. body_then literal_list (λ ls ws. whole ls ws) ls (Err fault) o.place q.place n.place t u v h (end_fails ls fault q.place n.place u v w))

list_broken : (o n : Reader) (fault : LineFault) → PartRead literal_list o n (Err fault) → BodyRead literals_body o n (Err fault)
list_broken o n fault h = in_line_map _ (ReadsBody literals_body (Err fault)) _ _ o n (same_fault fault Read) h (λ t u k. body_fault literal_list (λ ls ws. whole ls ws) fault o.place n.place t u k)

-- what the loop over a line's literals keeps, with those so far
pub record Finding (vars : List ℕ) (start now : List Mark) (stranger claim : Option ℕ) (old new : Reader) : Type 0 where
  pub literals : List ℕ
  pub marks : Changes vars also_met start now literals
  pub first_stranger : stranger ≡ find (λ l. not (mark_of vars start l).held) literals
  pub first_claim : claim ≡ find (λ l. not (mark_of vars start l).assumed) literals
  pub read : Collecting literal_list literals old new
  pub kept : KeepsBlank start now

-- before the first literal
pub finding_none : (vars : List ℕ) (start : List Mark) (o : Reader) → Finding vars start start None None o o
finding_none vars start o = record {
  literals = [];
  marks = record { each = λ l. same_mark (mark_of vars start l) };
  first_stranger = refl;
  first_claim = refl;
  read = collecting_none literal_list o;
  kept = record { each = λ p e. e };
}
  where
    same_mark : (m : Mark) → m ≡ also_met false m
    same_mark m = ap (λ b. let n : Mark = record m { met = b } in n) (none_more m.met m.held)
      where
        none_more : (b c : Bool) → b ≡ (b || (c && false))
        none_more true c = refl
        none_more false true = refl
        none_more false false = refl

-- the first that passes a test, with one more behind
find_more : (test : ℕ → Bool) (ls : List ℕ) (l : ℕ) (o p : Option ℕ) (b : Bool) → o ≡ find test ls → b ≡ test l → p ≡ option_or o (cond b (Some l) None) → p ≡ find test (ls ++ l ∷ [])
find_more test ls l o p b so is e = e ∙ ap (λ z. option_or z (cond b (Some l) None)) so ∙ ap (λ z. option_or (find test ls) (cond z (Some l) None)) is ∙ sym (find-append test ls (l ∷ []))

-- one word of a list of literals
abbrev one_literal : List (List ℕ) → Part (Option ℕ)
one_literal = word_part literal_says rules.Unclosed rules.Number

module _ (vars : List ℕ) (start now : List Mark) (stranger claim : Option ℕ) (o p : Reader) (f : Finding vars start now stranger claim o p) where
  -- a literal more, which has this mark
  pub finding_more : (next : List Mark) (stranger2 claim2 : Option ℕ) (q : Reader) (l : ℕ) (mark : Mark) → PartRead one_literal p q (Ok (Some l))
      → (place : Option ℕ) → place ≡ find_dense_lit vars l → mark ≡ mark_in now place → stranger2 ≡ option_or stranger (cond (not mark.held) (Some l) None) → claim2 ≡ option_or claim (cond (not mark.assumed) (Some l) None)
      → PlaceChanges also_met now next place → Finding vars start next stranger2 claim2 o q
  finding_more next stranger2 claim2 q l mark word place at seen s c changed =
      let is : mark ≡ mark_of vars now l = seen ∙ ap (mark_in now) at in
      let change = one_met vars now next l place at changed in record {
        literals = f.literals ++ l ∷ [];
        marks = met_push vars start now next f.literals l f.marks change;
        first_stranger = find_more (λ l. not (mark_of vars start l).held) f.literals l stranger stranger2 (not mark.held) f.first_stranger (ap (λ z. not z.held) (is ∙ f.marks.each l)) s;
        first_claim = find_more (λ l. not (mark_of vars start l).assumed) f.literals l claim claim2 (not mark.assumed) f.first_claim (ap (λ z. not z.assumed) (is ∙ f.marks.each l)) c;
        read = collecting_more literal_list literal_says literal_list_is f.literals o p q f.read l word;
        kept = record { each = λ p e. changed.each p ∙ ap (also_met (is_at place p)) (f.kept.each p e) };
      }

  -- ---- The end of the list, and of the line

  module _ (q n : Reader) (word : PartRead one_literal p q (Ok None)) where
    pub found_all : (y : Unit) → EndRead q n (Ok y) → LiteralsFound vars start now (record { stranger = stranger; claim = claim }) o n
    found_all y end = record {
      literals = f.literals;
      marks = f.marks;
      stranger = f.first_stranger;
      claim = f.first_claim;
      read = list_ended f.literals o q n (collecting_last literal_list literal_says literal_list_is f.literals o p q f.read word) y end;
    }

    pub not_ended : (fault : LineFault) → EndRead q n (Err fault) → BodyRead literals_body o n (Err fault)
    not_ended fault end = list_not_ended f.literals o q n (collecting_last literal_list literal_says literal_list_is f.literals o p q f.read word) fault end

  pub not_found : (q : Reader) (fault : LineFault) → PartRead one_literal p q (Err fault) → BodyRead literals_body o q (Err fault)
  not_found q fault word = list_broken o q fault (collecting_fault literal_list literal_says literal_list_is f.literals o p q f.read fault word)

-- ---- A line's literals against an event's and those that are assumed

-- two tests that agree on members find the same
find_members : (p r : ℕ → Bool) (c ls : List ℕ) → ((l : ℕ) → has c l ≡ true → p l ≡ r l) → ((l : ℕ) → has ls l ≡ true → has c l ≡ true) → find p ls ≡ find r ls
find_members p r c [] same within = refl
find_members p r c (x ∷ xs) same within =
    let first : has (x ∷ xs) x ≡ true = ap (λ b. b || has xs x) (eq-eqb x x refl) in
    let more : find p xs ≡ find r xs = find_members p r c xs same (λ l e. within l (or_more (nat_eq l x) (has xs l) e)) in
    ap (λ b. cond b (Some x) (find p xs)) (same x (within x first)) ∙ ap (λ o. cond (r x) (Some x) o) more
  where
    or_more : (a b : Bool) → b ≡ true → (a || b) ≡ true
    or_more true b e = refl
    or_more false b e = e

module _ (vars c qs : List ℕ) (t0 t1 t2 : List Mark) (none : IsBlank t0) (c_known : AreKnown vars c) (qs_known : AreKnown vars qs) (held : PlacesChange vars also_held t0 t1 c) (assumed : PlacesChange vars also_assumed t1 t2 qs) where
  marked : (l : ℕ) → mark_of vars t2 l ≡ record { held = has c l; assumed = has qs l; met = false }
  marked l = both_seen vars t1 t2 l qs also_assumed refl qs_known assumed ∙ ap (also_assumed (has qs l)) (both_seen vars t0 t1 l c also_held refl c_known held ∙ ap (also_held (has c l)) (none_seen vars t0 none l))

  pub literals_met : (t3 : List Mark) (f : Found) (unmet : Option ℕ) (o n : Reader) → LiteralsFound vars t2 t3 f o n → unmet ≡ find (λ l. not (mark_of vars t3 l).met) c
      → LiteralsMet c qs (record { stranger = f.stranger; unmet = unmet; claim = f.claim }) o n
  literals_met t3 f unmet o n h e = record {
    literals = h.literals;
    stranger = h.stranger ∙ ap (λ p. find p h.literals) (fun_ext (λ l. ap (λ m. not m.held) (marked l)));
    unmet = e ∙ find_members (λ l. not (mark_of vars t3 l).met) (λ l. not (has h.literals l)) c c
        (λ l is. ap (λ m. not m.met) (h.marks.each l ∙ ap (also_met (has h.literals l)) (marked l)) ∙ ap (λ b. not (b && has h.literals l)) is) (λ l is. is);
    claim = h.claim ∙ ap (λ p. find p h.literals) (fun_ext (λ l. ap (λ m. not m.assumed) (marked l)));
    read = h.read;
  }

-- ---- The same literals

find_none : (ls : List ℕ) → find (λ l. false) ls ≡ None
find_none [] = refl
find_none (x ∷ xs) = find_none xs

none_missing : (ls : List ℕ) → first_missing ls ls ≡ None
none_missing ls = find_members (λ l. not (has ls l)) (λ l. false) ls ls (λ l is. ap not is) (λ l is. is) ∙ find_none ls

module _ (held : List ℕ) (o q n : Reader) (read : PartRead literal_list o q (Ok held)) where
  -- the line has an event's literals in the same order
  pub same_met : (y : Unit) (claim : Option ℕ) → claim ≡ first_missing held [] → EndRead q n (Ok y) → LiteralsMet held [] (record { stranger = None; unmet = None; claim = claim }) o n
  same_met y claim is end = record {
    literals = held;
    stranger = sym (none_missing held);
    unmet = sym (none_missing held);
    claim = is;
    read = list_ended held o q n read y end;
  }

  pub same_fails : (fault : LineFault) → EndRead q n (Err fault) → BodyRead literals_body o n (Err fault)
  same_fails fault end = list_not_ended held o q n read fault end
