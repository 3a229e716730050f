-- Lists by position, and what lines say before the first that is broken.
use Rattle.std.proofs.Common.{◌≡◌, ℕ, zero, suc, ◌<◌, ◌≤◌, ◌⊎◌, List, [], ◌∷◌, ◌++◌, length, map, take, drop, slice_get, Some, None, Result, Ok, Err, refl, ◌∙◌, ap, subst, inl, inr, arith}
use Rattle.std.proofs.lemmas.Bool.{cases_lt}
use Rattle.session_rules.specs.declared.Rule.{Rule}
use Rattle.session_rules.specs.Lines.{Line}
use Rattle.session_rules.specs.Reading.{Fault, value_of, values_of}

-- less, or the same
pub le_cases : (n m : ℕ) → n ≤ m → (n < m) ⊎ (n ≡ m)
le_cases n m h = elim (cases_lt n m) [ inl lt ↦ inl lt | inr ge ↦ inr (omega arith) ]

-- ---- Lists by position

module _ {X : Type 0} where
  pub get_same : (xs : List X) (k : ℕ) (x y : X) → slice_get xs k ≡ Some x → slice_get xs k ≡ Some y → x ≡ y
  get_same xs k x y e f = cc

  pub take_next : (xs : List X) (k : ℕ) (x : X) → slice_get xs k ≡ Some x → take (suc k) xs ≡ take k xs ++ x ∷ []
  take_next [] k x e = cc e
  take_next (y ∷ ys) zero x e = let f : y ≡ x = cc e in ap (λ z. z ∷ []) f
  take_next (y ∷ ys) (suc k) x e = ap (λ zs. y ∷ zs) (take_next ys k x e)

  pub drop_next : (xs : List X) (k : ℕ) (x : X) → slice_get xs k ≡ Some x → drop k xs ≡ x ∷ drop (suc k) xs
  drop_next [] k x e = cc e
  drop_next (y ∷ ys) zero x e = let f : y ≡ x = cc e in ap (λ z. z ∷ ys) f
  drop_next (y ∷ ys) (suc k) x e = drop_next ys k x e

  pub drop_none : (xs : List X) (k : ℕ) → slice_get xs k ≡ None → drop k xs ≡ []
  drop_none [] zero e = refl
  drop_none [] (suc k) e = refl
  drop_none (y ∷ ys) zero e = cc e
  drop_none (y ∷ ys) (suc k) e = drop_none ys k e

  pub get_dropped : (xs : List X) (k : ℕ) (x : X) (more : List X) → drop k xs ≡ x ∷ more → (slice_get xs k ≡ Some x) × (drop (suc k) xs ≡ more)
  get_dropped [] zero x more e = cc e
  get_dropped [] (suc k) x more e = cc e
  get_dropped (y ∷ ys) zero x more e = (cc e, cc e)
  get_dropped (y ∷ ys) (suc k) x more e = get_dropped ys k x more e

  pub get_none : (xs : List X) (k : ℕ) → drop k xs ≡ [] → slice_get xs k ≡ None
  get_none [] k e = refl
  get_none (y ∷ ys) zero e = cc e
  get_none (y ∷ ys) (suc k) e = get_none ys k e

  pub drop_rest : (xs : List X) (k : ℕ) → drop k xs ≡ [] → drop (suc k) xs ≡ []
  drop_rest [] k e = refl
  drop_rest (y ∷ ys) zero e = cc e
  drop_rest (y ∷ ys) (suc k) e = drop_rest ys k e

  pub drop_all : (xs : List X) (k : ℕ) → drop k xs ≡ [] → length xs ≤ k
  drop_all [] k e = omega arith
  drop_all (y ∷ ys) zero e = cc e
  drop_all (y ∷ ys) (suc k) e = omega (arith, drop_all ys k e)

  pub take_all : (xs : List X) (k : ℕ) → length xs ≤ k → take k xs ≡ xs
  take_all [] zero h = refl
  take_all [] (suc k) h = refl
  take_all (y ∷ ys) zero h = absurd (omega arith)
  take_all (y ∷ ys) (suc k) h = let n : length ys ≤ k = omega arith in ap (λ zs. y ∷ zs) (take_all ys k n)

-- ---- What lines say, before the first that is broken

module _ {S : Type 0} (read : List (List ℕ) → Result S Fault) where
  abbrev pub said : List Line → List S
  said ls = map (λ p. p.1) (values_of read ls)

  said-ok : (line : Line) (more : List Line) (p : S) → value_of read line ≡ Ok p → said (line ∷ more) ≡ p ∷ said more
  unfolding values_of
  said-ok line more p e = rw e refl

  said-err : (line : Line) (more : List Line) (r : Rule) → value_of read line ≡ Err r → said (line ∷ more) ≡ []
  unfolding values_of
  said-err line more r e = rw e refl

  said-none : said [] ≡ []
  unfolding values_of
  said-none = refl

  at_head : (line : Line) (more : List Line) (o : Result S Rule) → value_of read line ≡ o → (k : ℕ) (p : S) → slice_get (said (line ∷ more)) k ≡ Some p
      → ((j : ℕ) → k ≡ suc j → slice_get (said more) j ≡ Some p → (at : Line) × (slice_get more j ≡ Some at) × (value_of read at ≡ Ok p))
      → (at : Line) × (slice_get (line ∷ more) k ≡ Some at) × (value_of read at ≡ Ok p)
  at_head line more (Err r) v k p e next = let f : slice_get {X = S} [] k ≡ Some p = subst (λ zs. slice_get zs k ≡ Some p) (said-err line more r v) e in cc f
  at_head line more (Ok q) v zero p e next = let f : Some q ≡ Some p = subst (λ zs. slice_get zs 0 ≡ Some p) (said-ok line more q v) e in (line, refl, v ∙ cc f)
  at_head line more (Ok q) v (suc j) p e next = next j refl (subst (λ zs. slice_get zs (suc j) ≡ Some p) (said-ok line more q v) e)

  -- step k is what line k says
  pub said_at : (ls : List Line) (k : ℕ) (p : S) → slice_get (said ls) k ≡ Some p → (line : Line) × (slice_get ls k ≡ Some line) × (value_of read line ≡ Ok p)
  said_at [] k p e = let f : slice_get {X = S} [] k ≡ Some p = subst (λ zs. slice_get zs k ≡ Some p) said-none e in cc f
  said_at (line ∷ more) k p e = at_head line more (value_of read line) refl k p e (λ j is f. said_at more j p f)

  within_more : (line : Line) (more : List Line) (o : Result S Rule) → value_of read line ≡ o → length (said more) ≤ length more → length (said (line ∷ more)) ≤ length (line ∷ more)
  within_more line more (Err r) v h = rw (said-err line more r v) (omega arith)
  within_more line more (Ok p) v h = rw (said-ok line more p v) (omega arith)

  -- no step stands behind the lines
  pub said_within : (ls : List Line) → length (said ls) ≤ length ls
  said_within [] = rw said-none (omega arith)
  said_within (line ∷ more) = within_more line more (value_of read line) refl (said_within more)

  stops_more : (x line : Line) (xs : List Line) (r : Rule) → value_of read line ≡ Err r
      → ((j : ℕ) → j ≤ length (said xs) → slice_get xs j ≡ Some line → length (said xs) ≡ j)
      → (o : Result S Rule) → value_of read x ≡ o → (k : ℕ) → k ≤ length (said (x ∷ xs)) → slice_get (x ∷ xs) k ≡ Some line → length (said (x ∷ xs)) ≡ k
  stops_more x line xs r v next (Err s) w k h e = let n : k ≤ 0 = subst (λ zs. k ≤ length zs) (said-err x xs s w) h in ap length (said-err x xs s w) ∙ omega arith
  stops_more x line xs r v next (Ok p) w zero h e = let same : x ≡ line = cc e in cc (w, v, same)
  stops_more x line xs r v next (Ok p) w (suc j) h e = let n : suc j ≤ suc (length (said xs)) = subst (λ zs. suc j ≤ length zs) (said-ok x xs p w) h in
      ap length (said-ok x xs p w) ∙ ap suc (next j (omega arith) e)

  -- the line behind the steps says no step
  pub said_stops : (ls : List Line) (k : ℕ) (line : Line) (r : Rule) → k ≤ length (said ls) → slice_get ls k ≡ Some line → value_of read line ≡ Err r → length (said ls) ≡ k
  said_stops [] k line r h e v = cc e
  said_stops (x ∷ xs) k line r h e v = stops_more x line xs r v (λ j n f. said_stops xs j line r n f v) (value_of read x) refl k h e

  next_more : (x line : Line) (xs : List Line) (p : S) → value_of read line ≡ Ok p
      → ((j : ℕ) → j ≤ length (said xs) → slice_get xs j ≡ Some line → slice_get (said xs) j ≡ Some p)
      → (o : Result S Rule) → value_of read x ≡ o → (k : ℕ) → k ≤ length (said (x ∷ xs)) → slice_get (x ∷ xs) k ≡ Some line → slice_get (said (x ∷ xs)) k ≡ Some p
  next_more x line xs p v next (Err s) w zero h e = let same : x ≡ line = cc e in cc (w, v, same)
  next_more x line xs p v next (Err s) w (suc j) h e = let n : suc j ≤ 0 = subst (λ zs. suc j ≤ length zs) (said-err x xs s w) h in absurd (omega arith)
  next_more x line xs p v next (Ok q) w zero h e = let same : x ≡ line = cc e in let f : q ≡ p = cc (w, v, same) in rw (said-ok x xs q w) (ap Some f)
  next_more x line xs p v next (Ok q) w (suc j) h e = let n : suc j ≤ suc (length (said xs)) = subst (λ zs. suc j ≤ length zs) (said-ok x xs q w) h in
      rw (said-ok x xs q w) (next j (omega arith) e)

  -- a line that says a step, behind lines that say steps, gives the next step
  pub said_next : (ls : List Line) (k : ℕ) (line : Line) (p : S) → k ≤ length (said ls) → slice_get ls k ≡ Some line → value_of read line ≡ Ok p → slice_get (said ls) k ≡ Some p
  said_next [] k line p h e v = cc e
  said_next (x ∷ xs) k line p h e v = next_more x line xs p v (λ j n f. said_next xs j line p n f v) (value_of read x) refl k h e
