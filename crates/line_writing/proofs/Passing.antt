-- Texts that go through what is held back, one after the other.
use Rattle.std.proofs.Common.{◌≡◌, ℕ, ◌+◌, ◌≤◌, Bool, subst, List, [], ◌++◌, length, refl, sym, ◌∙◌, ap, arith, append_assoc}
use Rattle.std.proofs.lemmas.List.{append-nil}
use Rattle.std.specs.declared.option.Option.{Option}
use Rattle.std.specs.Io.KnownBytes.{Appends}
use Rattle.outside.specs.Streams.{AppendsPart, Reopened}
use Rattle.outside.proofs.Known.{Appends-join, Appends_none, Reopened-join, AppendsPart-left, AppendsPart-after}
use Rattle.std.specs.Prelude.{Result, Ok, Err, IsErr}
use Rattle.outside.specs.declared.source.Failed.{Failed}
use Rattle.line_writing.specs.Held.{Passed, Failing, Puts}
use Rattle.line_writing.specs.Writing.{writer, Wrote, FailedLine}

module _ {K : Type 0} (written : K → Option (List ℕ)) (finished : K → Option Bool) (faults : K → ℕ) where
  -- what is only held back more
  pub Passed_held : (s : K) (before now text : List ℕ) → now ≡ before ++ text → Passed written finished faults s s before now text
  Passed_held s before now text is = record {
    front = [];
    split = sym is;
    bytes = Appends_none (written s);
    reopened = record { some = λ more. absurd (omega (arith, more)); none = λ _. refl };
    later = omega arith;
  }

  -- one text after the other
  pub Passed-join : (a b c : K) (h i j xs ys : List ℕ) → Passed written finished faults a b h i xs → Passed written finished faults b c i j ys → Passed written finished faults a c h j (xs ++ ys)
  Passed-join a b c h i j xs ys p q = record {
    front = p.front ++ q.front;
    split = sym (append_assoc h xs ys) ∙ ap (λ (l : List ℕ). l ++ ys) p.split ∙ append_assoc p.front i ys ∙ ap (λ (l : List ℕ). p.front ++ l) q.split ∙ sym (append_assoc p.front q.front j);
    bytes = Appends-join (written a) (written b) (written c) p.front q.front p.bytes q.bytes;
    reopened = Reopened-join (finished a) (finished b) (finished c) p.front q.front p.reopened q.reopened;
    later = omega (arith, p.later, q.later);
  }

  -- a text, and then bytes that are only held back more
  pub Passed-held : (a b : K) (h i j xs ys : List ℕ) → Passed written finished faults a b h i xs → j ≡ i ++ ys → Passed written finished faults a b h j (xs ++ ys)
  Passed-held a b h i j xs ys p is = Passed-join a b b h i j xs ys p (Passed_held b i j ys is)

  -- a write that failed after a text
  pub Failing-after : (a b c : K) (h i xs ys : List ℕ) → Passed written finished faults a b h i xs → Failing written faults b c (i ++ ys) → Failing written faults a c (h ++ (xs ++ ys))
  Failing-after a b c h i xs ys p q = record {
    bytes =
        let same : h ++ (xs ++ ys) ≡ p.front ++ (i ++ ys) = sym (append_assoc h xs ys) ∙ ap (λ (l : List ℕ). l ++ ys) p.split ∙ append_assoc p.front i ys in
        subst (λ (l : List ℕ). AppendsPart (written a) (written c) l) (sym same) (AppendsPart-after (written a) (written b) (written c) p.front (i ++ ys) p.bytes q.bytes);
    later = omega (arith, p.later, q.later);
    rose = omega (arith, p.later, q.rose);
  }

  -- a write that failed in a first part of a text
  pub Failing-left : (a b : K) (h xs ys : List ℕ) → Failing written faults a b (h ++ xs) → Failing written faults a b (h ++ (xs ++ ys))
  Failing-left a b h xs ys p = record {
    bytes = subst (λ (l : List ℕ). AppendsPart (written a) (written b) l) (append_assoc h xs ys) (AppendsPart-left (written a) (written b) (h ++ xs) ys p.bytes);
    later = p.later;
    rose = p.rose;
  }

  -- a text that went whole to the sink, with nothing held before or after
  pub Passed_whole : (a b : K) (room left : ℕ) (text : List ℕ) → Passed written finished faults a b [] [] text → room ≡ left + length text
      → Wrote text (writer written finished faults a room) (writer written finished faults b left)
  Passed_whole a b room left text p taken =
      let same : text ≡ p.front = p.split ∙ append-nil p.front in record {
        bytes = subst (λ (l : List ℕ). Appends (written a) (written b) l) (sym same) p.bytes;
        reopened = subst (λ (l : List ℕ). Reopened (finished a) (finished b) (length l)) (sym same) p.reopened;
        later = p.later;
        taken = taken;
      }

  -- a write that failed within a line that the room had space for
  pub Failing_line : (a b : K) (room left : ℕ) (line : List ℕ) → Failing written faults a b line → length line ≤ room → left ≡ room
      → FailedLine line (writer written finished faults a room) (writer written finished faults b left)
  Failing_line a b room left line p fits kept = record {
    broke = record { bytes = p.bytes; rose = p.rose; later = p.later; fell = omega (arith, kept); bounded = omega (arith, kept) };
    fits = fits;
    kept = kept;
  }

  -- one text after the other, by the answer of the second
  pub Puts-join : (a b c : K) (h i j xs ys : List ℕ) (r : Result Unit Failed) → Passed written finished faults a b h i xs → Puts written finished faults b c i j ys r → Puts written finished faults a c h j (xs ++ ys) r
  Puts-join a b c h i j xs ys (Ok done) p q = Passed-join a b c h i j xs ys p q
  Puts-join a b c h i j xs ys (Err failed) p q = Failing-after a b c h i xs ys p q

  -- a write that failed in the middle of a text
  pub Puts_failed : (a b c : K) (h i j xs ys zs text : List ℕ) (r : Result Unit Failed) → IsErr r → Passed written finished faults a b h i xs → Failing written faults b c (i ++ ys) → text ≡ xs ++ (ys ++ zs) → Puts written finished faults a c h j text r
  Puts_failed a b c h i j xs ys zs text (Ok done) err p q is = absurd (cc)
  Puts_failed a b c h i j xs ys zs text (Err failed) err p q is = subst (λ (l : List ℕ). Failing written faults a c (h ++ l)) (sym is) (Failing-after a b c h i xs (ys ++ zs) p (Failing-left b c i ys zs q))

  -- a write that failed in the first part of a text
  pub Puts_failed_first : (a b : K) (h j xs ys text : List ℕ) (r : Result Unit Failed) → IsErr r → Failing written faults a b (h ++ xs) → text ≡ xs ++ ys → Puts written finished faults a b h j text r
  Puts_failed_first a b h j xs ys text (Ok done) err q is = absurd (cc)
  Puts_failed_first a b h j xs ys text (Err failed) err q is = subst (λ (l : List ℕ). Failing written faults a b (h ++ l)) (sym is) (Failing-left a b h xs ys q)
