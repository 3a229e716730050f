-- Known bytes that grow step by step.
use Rattle.std.proofs.Common.{◌≡◌, ℕ, zero, suc, ◌+◌, ◌≤◌, subst, List, [], ◌++◌, length, take, drop, refl, sym, ◌∙◌, ap, arith, append_assoc, Bool, false}
use Rattle.std.proofs.lemmas.List.{append-nil, take_all, take-append-drop, take-take, drop-take, take_at, drop_at, take-append-le, length-append}
use Rattle.std.specs.Prelude.{None, Some}
use Rattle.std.specs.declared.option.Option.{Option}
use Rattle.std.specs.Io.KnownBytes.{Appends, Keeps}
use Rattle.outside.specs.Streams.{AppendsPart, Becomes, Reopened}

pub take_add : (d n : ℕ) (xs : List ℕ) → take (d + n) xs ≡ take d xs ++ take n (drop d xs)
take_add d n xs =
    let whole : take d (take (d + n) xs) ++ drop d (take (d + n) xs) ≡ take (d + n) xs = take-append-drop d (take (d + n) xs) in
    let front : take d (take (d + n) xs) ≡ take d xs = take-take d (d + n) xs (omega arith) in
    let back : drop d (take (d + n) xs) ≡ take n (drop d xs) = drop-take d n xs in
    sym whole ∙ ap (λ (l : List ℕ). l ++ drop d (take (d + n) xs)) front ∙ ap (λ (l : List ℕ). take d xs ++ l) back

take_past : (xs ys : List ℕ) (n : ℕ) → take (length xs + n) (xs ++ ys) ≡ xs ++ take n ys
take_past xs ys n = take_add (length xs) n (xs ++ ys) ∙ ap (λ (l : List ℕ). l ++ take n (drop (length xs) (xs ++ ys))) (take_at xs ys (length xs) refl) ∙ ap (λ (l : List ℕ). xs ++ take n l) (drop_at xs ys (length xs) refl)

pub Appends-join : (a b c : Option (List ℕ)) (xs ys : List ℕ) → Appends a b xs → Appends b c ys → Appends a c (xs ++ ys)
Appends-join None b c xs ys p q = tt
Appends-join (Some u) None c xs ys p q = absurd p
Appends-join (Some u) (Some v) None xs ys p q = absurd q
Appends-join (Some u) (Some v) (Some w) xs ys p q = q ∙ ap (λ (l : List ℕ). l ++ ys) p ∙ append_assoc u xs ys

pub Appends_more : (a b c : Option (List ℕ)) (xs : List ℕ) (d n : ℕ) → Appends a b (take d xs) → Appends b c (take n (drop d xs)) → Appends a c (take (d + n) xs)
Appends_more a b c xs d n p q = rw take_add (Appends-join a b c (take d xs) (take n (drop d xs)) p q)

pub Appends-Keeps : (a b c : Option (List ℕ)) (xs : List ℕ) → Appends a b xs → Keeps b c → Appends a c xs
Appends-Keeps None b c xs p q = tt
Appends-Keeps (Some u) None c xs p q = absurd p
Appends-Keeps (Some u) (Some v) None xs p q = absurd q
Appends-Keeps (Some u) (Some v) (Some w) xs p q = q ∙ p

pub Appends_none : (a : Option (List ℕ)) → Appends a a []
Appends_none None = tt
Appends_none (Some u) = sym (append-nil u)

pub Becomes-after : (a b c : Option Bool) (v w : Bool) → Becomes a b v → Becomes b c w → Becomes a c w
Becomes-after None b c v w p q = tt
Becomes-after (Some u) None c v w p q = cc
Becomes-after (Some u) (Some x) c v w p q = q

pub reopened_more : (a b c : Option Bool) (d n : ℕ) → Reopened a b d → 1 ≤ n → (1 ≤ n → Becomes b c false) → Reopened a c (d + n)
reopened_more a b c zero n before some after = record { some = λ more. subst (λ (o : Option Bool). Becomes o c false) (before.none refl) (after some); none = λ is. absurd (omega arith) }
reopened_more a b c (suc d) n before some after = record { some = λ more. Becomes-after a b c false false (before.some (omega arith)) (after some); none = λ is. absurd (omega arith) }

pub Reopened-after : (a b c : Option Bool) (m n : ℕ) → Reopened a b m → Reopened b c n → Reopened a c (m + n)
Reopened-after a b c zero n p q = record { some = λ more. subst (λ (o : Option Bool). Becomes o c false) (p.none refl) (q.some (omega arith)); none = λ is. q.none (omega arith) ∙ p.none refl }
Reopened-after a b c (suc m) zero p q = record { some = λ more. subst (λ (o : Option Bool). Becomes a o false) (sym (q.none refl)) (p.some (omega arith)); none = λ is. absurd (omega arith) }
Reopened-after a b c (suc m) (suc n) p q = record { some = λ more. Becomes-after a b c false false (p.some (omega arith)) (q.some (omega arith)); none = λ is. absurd (omega arith) }

-- all of the bytes were written and kept since
pub AppendsPart-whole : (a b c : Option (List ℕ)) (xs : List ℕ) → Appends a b xs → Keeps b c → AppendsPart a c xs
AppendsPart-whole a b c xs whole kept = let written = Appends-Keeps a b c xs whole kept in record {
  count = length xs;
  within = omega arith;
  bytes = let fits : length xs ≤ length xs = omega arith in rw take_all written;
}

-- a first part of the first bytes, and all of these before a first part of the next
pub AppendsPart-left : (a b : Option (List ℕ)) (xs ys : List ℕ) → AppendsPart a b xs → AppendsPart a b (xs ++ ys)
AppendsPart-left a b xs ys part = record { count = part.count; within = omega (arith, part.within, length-append xs ys); bytes = let le = part.within in rw take-append-le part.bytes }

pub AppendsPart-after : (a b c : Option (List ℕ)) (xs ys : List ℕ) → Appends a b xs → AppendsPart b c ys → AppendsPart a c (xs ++ ys)
AppendsPart-after a b c xs ys whole part = record {
  count = length xs + part.count;
  within = omega (arith, part.within, length-append xs ys);
  bytes = rw take_past (Appends-join a b c xs (take part.count ys) whole part.bytes);
}

-- two writes, one after the other
pub Reopened-join : (a b c : Option Bool) (xs ys : List ℕ) → Reopened a b (length xs) → Reopened b c (length ys) → Reopened a c (length (xs ++ ys))
Reopened-join a b c xs ys p q = rw length-append (Reopened-after a b c (length xs) (length ys) p q)

pub ruleset joins = (Appends-join, Appends-Keeps, AppendsPart-whole, AppendsPart-left, AppendsPart-after, Reopened-join)
