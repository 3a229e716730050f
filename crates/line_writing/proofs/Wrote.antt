-- Texts that are written one after the other, for callers that write several lines.
use Rattle.std.proofs.Common.{◌≡◌, ℕ, ◌<◌, List, [], ◌∷◌, ◌++◌, length, refl, arith}
use Rattle.std.proofs.lemmas.List.{length-append}
use Rattle.outside.proofs.Known.{Appends-join, Appends_none, Reopened-join, AppendsPart-left, AppendsPart-after}
use Rattle.session_rules.specs.Spelling.{line_text}
use Rattle.line_writing.specs.Writing.{Writer, Wrote, BrokeOff, FailedLine}

-- a line isn't empty
pub line_text-some : (ws : List (List ℕ)) → 0 < length (line_text ws)
line_text-some [] = omega arith
line_text-some (w ∷ []) = omega (arith, length-append w (10 ∷ []))
line_text-some (w ∷ v ∷ vs) = omega (arith, length-append w (32 ∷ line_text (v ∷ vs)))

-- A text is given by an equation, since a line whose words are known computes and no longer shows its parts.
module _ {K : Type 0} where
  -- a write failed in the first part of a text
  pub BrokeOff-left : (a b : Writer K) (xs ys text : List ℕ) → BrokeOff xs a b → text ≡ xs ++ ys → BrokeOff text a b
  BrokeOff-left a b xs ys text p is = rw is (record {
    bytes = AppendsPart-left a.written b.written xs ys p.bytes;
    rose = p.rose;
    later = p.later;
    fell = p.fell;
    bounded = omega (arith, p.bounded, length-append xs ys);
  })

  -- nothing was written
  pub Wrote_none : (a : Writer K) → Wrote [] a a
  Wrote_none a = record {
    bytes = Appends_none a.written;
    reopened = record { some = λ more. absurd (omega (arith, more)); none = λ _. refl };
    later = omega arith;
    taken = omega arith;
  }

  -- one text was written after the other
  pub Wrote-join : (a b c : Writer K) (xs ys text : List ℕ) → Wrote xs a b → Wrote ys b c → text ≡ xs ++ ys → Wrote text a c
  Wrote-join a b c xs ys text p q is = rw is (record {
    bytes = Appends-join a.written b.written c.written xs ys p.bytes q.bytes;
    reopened = Reopened-join a.finished b.finished c.finished xs ys p.reopened q.reopened;
    later = omega (arith, p.later, q.later);
    taken = omega (arith, p.taken, q.taken, length-append xs ys);
  })

  -- a write failed after a text
  pub BrokeOff-after : (a b c : Writer K) (xs ys text : List ℕ) → Wrote xs a b → BrokeOff ys b c → text ≡ xs ++ ys → BrokeOff text a c
  BrokeOff-after a b c xs ys text p q is = rw is (record {
    bytes = AppendsPart-after a.written b.written c.written xs ys p.bytes q.bytes;
    rose = omega (arith, p.later, q.rose);
    later = omega (arith, p.later, q.later);
    fell = omega (arith, p.taken, q.fell);
    bounded = omega (arith, p.taken, q.bounded, length-append xs ys);
  })

  -- a write failed within a line
  pub FailedLine-broke : (a b : Writer K) (line : List ℕ) → FailedLine line a b → BrokeOff line a b
  FailedLine-broke a b line p = p.broke

pub ruleset joins = (Wrote-join, BrokeOff-left, BrokeOff-after, FailedLine-broke)
