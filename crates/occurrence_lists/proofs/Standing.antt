-- The clauses for which lists stand, as they come and go.
use Rattle.std.proofs.Common.{Contains, ◌≡◌, ℕ, zero, suc, ◌+◌, ◌-◌, ◌<◌, Bool, true, false, ◌&&◌, nat_eq, if◌then◌else◌, List, [], ◌∷◌, ◌++◌, length, length-append, map, filter, replicate, sum_by, refl, sym, ap, ◌∙◌, subst, inl, inr, arith, IsPermutation}
use Rattle.std.proofs.lemmas.Bool.{cases_Bool, eq-eqb, eqb-true}
use Rattle.std.proofs.lemmas.List.Sums.{sum_by-cons}
use Rattle.std.proofs.lemmas.List.Sorted.{sum_by-IsPermutation, IsPermutation-sym, Contains-permutation}
use Rattle.lits.specs.Clause.{has}
use Rattle.lits.proofs.Members.{here, there, here_or_there, not_in_nil, filter_at, filter_from}
use Rattle.occurrence_lists.specs.Occurring.{row, times, one_if, with_rows, AreListed, IsAdded, IsRemoved, IsSame, Numbered, ids_with, StandsFor}
use Rattle.occurrence_lists.proofs.Counting.{times-nil, times-cons, times-push, length_from_times}

flip : (a b : ℕ) → a + b ≡ b + a
flip a b = omega arith

plus_none : (a : ℕ) → a ≡ a + 0
plus_none a = omega arith

-- the ids of the clauses with one more
times-more : (l q id : ℕ) (c : List ℕ) (cs : List Numbered) → times q (ids_with l ((id, c) ∷ cs)) ≡ times q (ids_with l cs) + one_if (has c l && nat_eq q id)
times-more l q id c cs = elim (cases_Bool (has c l)) [
  | inl y ↦ rw y (times-cons q id (ids_with l cs) ∙ flip (one_if (nat_eq q id)) (times q (ids_with l cs)))
  | inr y ↦ rw y (plus_none (times q (ids_with l cs)))
]

-- the same as a sum over the clauses
holding : ℕ → ℕ → Numbered → ℕ
holding l q c = one_if (has c.1 l && nat_eq q c.0)

times-sum : (l q : ℕ) (cs : List Numbered) → times q (ids_with l cs) ≡ sum_by (holding l q) cs
unfolding holding
times-sum l q [] = times-nil q
times-sum l q (c ∷ cs) = times-more l q c.0 c.1 cs ∙ ap (λ n. n + one_if (has c.1 l && nat_eq q c.0)) (times-sum l q cs)
    ∙ flip (sum_by (holding l q) cs) (one_if (has c.1 l && nat_eq q c.0)) ∙ sym (sum_by-cons (holding l q) c cs)

times-pushed : (q id : ℕ) (r : List ℕ) (b : Bool) → times q (if b then r ++ id ∷ [] else r) ≡ times q r + one_if (b && nat_eq q id)
times-pushed q id r true = times-push q id r
times-pushed q id r false = plus_none (times q r)

cancel : (a b e s t : ℕ) → s ≡ a + e → s ≡ t → t ≡ b + e → a ≡ b
cancel a b e s t f g h = omega (arith, f, g, h)

-- ---- Mapped members

map_from : {X Y : Type 0} (f : X → Y) (xs : List X) (x : X) → Contains xs x → Contains (map f xs) (f x)
map_from f [] y m = absurd (not_in_nil y m)
map_from f (x ∷ xs) y m = elim (here_or_there x y xs m) [
  | inl e ↦ subst (λ z. Contains (map f (x ∷ xs)) (f z)) e (here (f x) (map f xs))
  | inr n ↦ there (f x) (f y) (map f xs) (map_from f xs y n)
]

map_at : {X Y : Type 0} (f : X → Y) (xs : List X) (y : Y) → Contains (map f xs) y → (x : X) × Contains xs x × (f x ≡ y)
map_at f [] y m = absurd (not_in_nil y m)
map_at f (x ∷ xs) y m = elim (here_or_there (f x) y (map f xs) m) [
  | inl e ↦ (x, here x xs, e)
  | inr n ↦ let r = map_at f xs y n in (r.0, there x r.0 xs r.1, r.2)
]

-- ---- More lists

empty-at : (k l : ℕ) → row (replicate k []) l ≡ []
empty-at zero l = refl
empty-at (suc k) zero = refl
empty-at (suc k) (suc l) = empty-at k l

row-grown : (rows : List (List ℕ)) (k l : ℕ) → row (rows ++ replicate k []) l ≡ row rows l
row-grown [] k l = empty-at k l
row-grown (r ∷ rs) k zero = refl
row-grown (r ∷ rs) k (suc l) = row-grown rs k l

longer : (rows : List (List ℕ)) (k l : ℕ) → l < length rows → l < length (rows ++ replicate k [])
longer rows k l lt = let e = length-append rows (replicate k []) in omega (arith, lt, e)

pub none : StandsFor [] []
none = record { reserved = λ c m. absurd (not_in_nil c m); listed = λ l q. refl }

pub grown : (rows : List (List ℕ)) (cs : List Numbered) (n : ℕ) → StandsFor rows cs → StandsFor (with_rows rows n) cs
grown rows cs n s = record {
  reserved = λ c m l h. longer rows (n - length rows) l (s.reserved c m l h);
  listed = λ l q. ap (times q) (row-grown rows (n - length rows) l) ∙ s.listed l q;
}

pub added : (old new : List (List ℕ)) (cs : List Numbered) (id : ℕ) (c : List ℕ) → AreListed old c → IsAdded old id c new → StandsFor old cs → StandsFor new ((id, c) ∷ cs)
added old new cs id c inside h s = record {
  reserved = λ d m. elim (here_or_there (id, c) d cs m) [
    | inl e ↦ subst (λ (z : Numbered). AreListed new z.1) e (λ l k. subst (λ z. l < z) (sym h.sized) (inside l k))
    | inr n ↦ λ l k. subst (λ z. l < z) (sym h.sized) (s.reserved d n l k)
  ];
  listed = λ l q. ap (times q) (h.rows l) ∙ times-pushed q id (row old l) (has c l) ∙ ap (λ n. n + one_if (has c l && nat_eq q id)) (s.listed l q) ∙ sym (times-more l q id c cs);
}

pub removed : (old new : List (List ℕ)) (cs : List Numbered) (id : ℕ) (c : List ℕ) → IsRemoved old id c new → StandsFor old ((id, c) ∷ cs) → StandsFor new cs
removed old new cs id c h s = record {
  reserved = λ d m l k. subst (λ z. l < z) (sym h.sized) (s.reserved d (there (id, c) d cs m) l k);
  listed = λ l q. cancel (times q (row new l)) (times q (ids_with l cs)) (one_if (has c l && nat_eq q id)) (times q (row old l)) (times q (ids_with l ((id, c) ∷ cs)))
      (h.rows l q) (s.listed l q) (times-more l q id c cs);
}

pub kept : (old new : List (List ℕ)) (cs : List Numbered) → IsSame old new → StandsFor old cs → StandsFor new cs
kept old new cs h s = record {
  reserved = λ d m l k. subst (λ z. l < z) (sym h.sized) (s.reserved d m l k);
  listed = λ l q. sym (h.rows l q) ∙ s.listed l q;
}

-- what was put in and taken out again
pub put_back : (old mid new : List (List ℕ)) (id : ℕ) (c : List ℕ) → IsAdded old id c mid → IsRemoved mid id c new → IsSame old new
put_back old mid new id c a r = record {
  sized = r.sized ∙ a.sized;
  rows = λ l q. same_sum (times q (row old l)) (times q (row new l)) (one_if (has c l && nat_eq q id)) (times q (row mid l)) (ap (times q) (a.rows l) ∙ times-pushed q id (row old l) (has c l)) (r.rows l q);
}
  where
    same_sum : (a b e s : ℕ) → s ≡ a + e → s ≡ b + e → a ≡ b
    same_sum a b e s f g = omega (arith, f, g)

pub reordered : (rows : List (List ℕ)) (cs ds : List Numbered) → IsPermutation cs ds → StandsFor rows cs → StandsFor rows ds
reordered rows cs ds p s = record {
  reserved = λ c m. s.reserved c (Contains-permutation ds cs c (IsPermutation-sym cs ds p) m);
  listed = λ l q. s.listed l q ∙ times-sum l q cs ∙ sym (sum_by-IsPermutation (holding l q) cs ds p) ∙ sym (times-sum l q ds);
}

length-ids : (l : ℕ) (cs : List Numbered) → length (map (λ (c : Numbered). c.0) cs) ≡ length cs
length-ids l [] = refl
length-ids l (c ∷ cs) = ap suc (length-ids l cs)

pub counted : (rows : List (List ℕ)) (cs : List Numbered) (l : ℕ) → StandsFor rows cs → length (row rows l) ≡ length (filter (λ (c : Numbered). has c.1 l) cs)
counted rows cs l s = length_from_times (row rows l) (ids_with l cs) (s.listed l) ∙ length-ids l (filter (λ (c : Numbered). has c.1 l) cs)

-- ---- An id in the lists

positive : (a b : ℕ) → a ≡ b + 1 → 0 < a
positive a b e = omega arith

at_least : (a b e : ℕ) → a ≡ b + e → 0 < b → 0 < a
at_least a b e h p = omega arith

pub added-there : (old new : List (List ℕ)) (id : ℕ) (c : List ℕ) (l : ℕ) → IsAdded old id c new → has c l ≡ true → 0 < times id (row new l)
added-there old new id c l h m =
    let e : times id (row new l) ≡ times id (row old l) + one_if (true && nat_eq id id) = ap (times id) (h.rows l) ∙ times-pushed id id (row old l) (has c l) ∙ ap (λ b. times id (row old l) + one_if (b && nat_eq id id)) m in
    positive (times id (row new l)) (times id (row old l)) (e ∙ ap (λ b. times id (row old l) + one_if b) (eq-eqb id id refl))

pub more-there : (old new : List (List ℕ)) (id q : ℕ) (c : List ℕ) (l : ℕ) → IsAdded old id c new → 0 < times q (row old l) → 0 < times q (row new l)
more-there old new id q c l h p =
    at_least (times q (row new l)) (times q (row old l)) (one_if (has c l && nat_eq q id)) (ap (times q) (h.rows l) ∙ times-pushed q id (row old l) (has c l)) p

pub contained : (q : ℕ) (xs : List ℕ) → 0 < times q xs → Contains xs q
contained q [] h = let n = times-nil q in absurd (omega (arith, h, n))
contained q (x ∷ xs) h = elim (cases_Bool (nat_eq q x)) [
  | inl y ↦ subst (λ z. Contains (x ∷ xs) z) (sym (eqb-true q x y)) (here x xs)
  | inr n ↦ let e : times q (x ∷ xs) ≡ 0 + times q xs = times-cons q x xs ∙ ap (λ b. one_if b + times q xs) n in there x q xs (contained q xs (omega (arith, h, e)))
]

pub counts_in : (q : ℕ) (xs : List ℕ) → Contains xs q → 0 < times q xs
counts_in q [] m = absurd (not_in_nil q m)
counts_in q (x ∷ xs) m = elim (here_or_there x q xs m) [
  | inl y ↦ let e : times q (x ∷ xs) ≡ 1 + times q xs = times-cons q x xs ∙ ap (λ b. one_if b + times q xs) (eq-eqb q x (sym y)) in omega (arith, e)
  | inr n ↦ let e = times-cons q x xs in let r = counts_in q xs n in omega (arith, e, r)
]

pub held_is_listed : (rows : List (List ℕ)) (cs : List Numbered) (c : Numbered) (l : ℕ) → StandsFor rows cs → Contains cs c → has c.1 l ≡ true → 0 < times c.0 (row rows l)
held_is_listed rows cs c l s m h = subst (λ z. 0 < z) (sym (s.listed l c.0))
    (counts_in c.0 (ids_with l cs) (map_from (λ (d : Numbered). d.0) (filter (λ (d : Numbered). has d.1 l) cs) c (filter_from (λ (d : Numbered). has d.1 l) cs c m h)))

pub listed_is_held : (rows : List (List ℕ)) (cs : List Numbered) (id l : ℕ) → StandsFor rows cs → Contains (row rows l) id → (c : Numbered) × Contains cs c × (c.0 ≡ id) × (has c.1 l ≡ true)
listed_is_held rows cs id l s m =
    let n = contained id (ids_with l cs) (subst (λ z. 0 < z) (s.listed l id) (counts_in id (row rows l) m)) in
    let r = map_at (λ (d : Numbered). d.0) (filter (λ (d : Numbered). has d.1 l) cs) id n in
    let f = filter_at (λ (d : Numbered). has d.1 l) cs r.0 r.1 in
    (r.0, f.0, r.2, f.1)
