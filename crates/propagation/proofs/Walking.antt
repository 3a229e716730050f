-- A walk over the list of a false literal, from its end to its front.
use Rattle.std.proofs.Common.{◌≡◌, ℕ, suc, zero, ◌+◌, ◌-◌, ◌*◌, ◌<◌, ◌≤◌, ◌⊎◌, List, [], ◌∷◌, ◌++◌, length, take, get_or, Some, refl, sym, ap, ◌∙◌, subst, inl, inr, arith, true, false, append_assoc}
use Rattle.std.specs.Prelude.{slice_index}
use Rattle.std.proofs.lemmas.List.{get_or_default, take-append-le, length-take, length-take-le}
use Rattle.std.proofs.Math.Seq.{take-length}
use Rattle.std.proofs.lemmas.Bool.{cases_Bool, both_ways, false_from_ne_true}
use Rattle.lits.specs.Literal.{var, neg}
use Rattle.session_rules.specs.Logic.{has}
use Rattle.lits.proofs.Members.{has_from}
use Rattle.clause_store.specs.Clauses.{IsOnce, slot_at, lits_at}
use Rattle.watch_lists.specs.Watch.{WatchView}
use Rattle.watch_lists.specs.Watched.{Watched, IsWatched, is_watch, list_at, watch_at, watch_place, watchers, slots_in}
use Rattle.watch_lists.proofs.Members.{member_cases, unlike}
use Rattle.watch_lists.proofs.FirstTwo.{first_watch, second_watch, watch_place-low, firsts-apart, once-lits}
use Rattle.propagation.specs.declared.TrailEntry.{TrailEntry}
use Rattle.propagation.specs.Assigned.{Assigned}
use Rattle.propagation.specs.Engine.{EngineView, literals, IsEngine}
use Rattle.propagation.specs.Watching.{engine_of, IsSatisfied, HasTwo, IsCovered, IsReady, IsRewatched, IsPassed, Advances}
use Rattle.propagation.proofs.Changes.{cases}
use Rattle.propagation.proofs.Covering.{has_more, has_take, take_next, covered_more}
use Rattle.propagation.proofs.Trail.{length-literals}
use Rattle.propagation.proofs.Scan.{contains_at}
use Rattle.propagation.proofs.Passing.{StandsAt, slot_place, slot_early}
use Rattle.propagation.proofs.Advancing.{advances_then, advances_settled, moved_none, longer, length_longer, satisfied_still, ready_still}

-- ---- One clause

neg_twice : (x : ℕ) → neg (neg x) ≡ x
neg_twice x = omega arith

-- a literal that isn't the next one to be propagated
next_apart : (trues : List ℕ) (head l x : ℕ) → neg (get_or trues head 0) ≡ l → has (take head trues) (neg x) ≡ false → (x ≡ l → ⊥) → has (take (head + 1) trues) (neg x) ≡ false
next_apart trues head l x is f n = false_from_ne_true _ (λ e.
    let m : has (take (suc head) trues) (neg x) ≡ true = subst (λ z. has (take z trues) (neg x) ≡ true) (let g : head + 1 ≡ suc head = omega arith in g) e in
    elim (take_next head (neg x) trues m) [
      | inl y ↦ both_ways _ f y
      | inr y ↦ n (sym (neg_twice x) ∙ ap neg y ∙ is)
    ])

-- a clause that doesn't watch the false literal
pub unwatched : (trues ls : List ℕ) (head l : ℕ) → neg (get_or trues head 0) ≡ l → is_watch ls l ≡ false → IsCovered trues head ls → IsCovered trues (head + 1) ls
unwatched trues ls head l is n (inl s) = inl s
unwatched trues ls head l is n (inr t) = inr (record {
  long = t.long;
  one = next_apart trues head l (slice_index ls 0) is t.one (λ e. both_ways _ n (subst (λ z. is_watch ls z ≡ true) e (first_watch ls t.long)));
  two = next_apart trues head l (slice_index ls 1) is t.two (λ e. both_ways _ n (subst (λ z. is_watch ls z ≡ true) e (second_watch ls t.long)));
})

-- the two places are different, and so are their literals
two_apart : (ls : List ℕ) (p : ℕ) → IsOnce ls → 2 ≤ length ls → p ≤ 1 → slice_index ls (1 - p) ≡ slice_index ls p → ⊥
two_apart ls p once long low e = elim (cases p 0) [
  | inl y ↦ differ (sym (sym (ap (λ z. slice_index ls (1 - z)) y) ∙ e ∙ ap (slice_index ls) y))
  | inr n ↦ let one : p ≡ 1 = omega arith in differ (sym (ap (λ z. slice_index ls (1 - z)) one) ∙ e ∙ ap (slice_index ls) one)
]
  where
    differ : slice_index ls 0 ≡ slice_index ls 1 → ⊥
    differ f = unlike (slice_index ls 1) (slice_index ls 0) (firsts-apart ls once long) (sym f)

-- the clause of an entry that was passed
pub record Passes (before trues old new : List ℕ) (head l p : ℕ) : Type 0 where
  pub more : (x : ℕ) → has (take (head + 1) trues) x ≡ true → has before x ≡ true
  pub first : (x : ℕ) → has (take head trues) x ≡ true → has (take head before) x ≡ true
  pub is : neg (get_or trues head 0) ≡ l
  pub once : IsOnce old
  pub low : p ≤ 1
  pub here : slice_index old p ≡ l
  pub two : HasTwo (take head before) old

module _ (before trues old new : List ℕ) (head l p : ℕ) (k : Passes before trues old new head l p) (r : IsRewatched before old new p) where
  other_kept : has (take head before) (neg (slice_index old (1 - p))) ≡ false
  other_kept = elim (cases p 0) [
    | inl y ↦ ap (λ z. has (take head before) (neg (slice_index old (1 - z)))) y ∙ k.two.two
    | inr n ↦ let one : p ≡ 1 = (let low = k.low in omega (arith, low)) in ap (λ z. has (take head before) (neg (slice_index old (1 - z)))) one ∙ k.two.one
  ]

  other_free : has (take (head + 1) trues) (neg (slice_index new (1 - p))) ≡ false
  other_free = ap (λ z. has (take (head + 1) trues) (neg z)) r.other ∙ next_apart trues head l (slice_index old (1 - p)) k.is
      (false_from_ne_true _ (λ e. both_ways _ other_kept (k.first _ e)))
      (λ e. two_apart old p k.once k.two.long k.low (e ∙ sym k.here))

  this_free : has (take (head + 1) trues) (neg (slice_index new p)) ≡ false
  this_free = false_from_ne_true _ (λ e. both_ways _ r.free (k.more _ e))

  pub rewatched_two : HasTwo (take (head + 1) trues) new
  rewatched_two = record {
    long = r.long;
    one = elim (cases p 0) [
      | inl y ↦ ap (λ z. has (take (head + 1) trues) (neg (slice_index new z))) (sym y) ∙ this_free
      | inr n ↦ let one : 0 ≡ 1 - p = (let low = k.low in omega (arith, low)) in ap (λ z. has (take (head + 1) trues) (neg (slice_index new z))) one ∙ other_free
    ];
    two = elim (cases p 0) [
      | inl y ↦ let one : 1 ≡ 1 - p = omega (arith, y) in ap (λ z. has (take (head + 1) trues) (neg (slice_index new z))) one ∙ other_free
      | inr n ↦ let one : 1 ≡ p = (let low = k.low in omega (arith, low)) in ap (λ z. has (take (head + 1) trues) (neg (slice_index new z))) one ∙ this_free
    ];
  }

-- ---- The walk

-- clauses that aren't in the list's beginning are covered at the next place too
pub record IsWalking (w0 w : Watched) (a0 a : Assigned) (head l end : ℕ) : Type 0 where
  pub entries : Advances w0 w a0 a
  pub ready : IsReady w.clauses (literals a.entries) head []
  pub sound : IsWatched w
  pub inside : head < length a.entries
  pub falsified : has (literals a.entries) (neg l) ≡ true
  pub is : neg (get_or (literals a.entries) head 0) ≡ l
  pub within : end ≤ length (list_at w.lists l)
  pub passed : (id t : ℕ) → slot_at w.clauses id ≡ Some t → (has (slots_in (take end (list_at w.lists l))) t ≡ true) ⊎ IsCovered (literals a.entries) (head + 1) (lits_at w.clauses id)

pub walk_begins : (w : Watched) (a : Assigned) (head l end : ℕ) → IsEngine (engine_of w.clauses a.entries a.vars) → IsReady w.clauses (literals a.entries) head [] → IsWatched w → head < length a.entries → has (literals a.entries) (neg l) ≡ true
    → neg (get_or (literals a.entries) head 0) ≡ l → end ≡ length (list_at w.lists l) → IsWalking w w a a head l end
walk_begins w a head l end k r sound lt f is e = record {
  entries = advances_settled w w a k (moved_none (literals a.entries) w.clauses) refl;
  ready = r;
  sound = sound;
  inside = lt;
  falsified = f;
  is = is;
  within = omega (arith, e);
  passed = λ id t at. elim (cases_Bool (has (watchers w l) t)) [
    | inl y ↦ inl (subst (λ z. has (slots_in z) t ≡ true) (sym (ap (λ z. take z (list_at w.lists l)) e ∙ take-length (list_at w.lists l))) y)
    | inr n ↦ elim (r id t at) [
      | inl none ↦ absurd (let g : false ≡ true = none in cc g)
      | inr c ↦ inr (unwatched (literals a.entries) (lits_at w.clauses id) head l is (sym (sound.watches id t l at) ∙ n) c)
    ]
  ];
}

-- entries whose blockers are true are passed over
module _ (w0 w : Watched) (a0 a : Assigned) (head l end : ℕ) (v : IsWalking w0 w a0 a head l end) where
  pub blocked_true : (id t k : ℕ) → slot_at w.clauses id ≡ Some t → k < length (list_at w.lists l) → (watch_at w l k).slot ≡ t → has (literals a.entries) (watch_at w l k).blocker ≡ true → IsSatisfied (literals a.entries) (lits_at w.clauses id)
  blocked_true id t k at lt same y = ((watch_at w l k).blocker, (v.sound.entries id l k lt (at ∙ ap Some (sym same))).blocker, y)

  -- the end
  pub walk_ends : ((k : ℕ) → k < end → has (literals a.entries) (watch_at w l k).blocker ≡ true) → IsReady w.clauses (literals a.entries) (head + 1) []
  walk_ends all id t at = elim (v.passed id t at) [
    | inl y ↦ let p = slot_place end (list_at w.lists l) t y in inr (inl (blocked_true id t p.at at p.within p.slot (all p.at p.before)))
    | inr c ↦ inr c
  ]

at_front : (xs ys : List ℕ) (i : ℕ) → i < length xs → get_or (xs ++ ys) i 0 ≡ get_or xs i 0
at_front [] ys i h = absurd (omega arith)
at_front (x ∷ xs) ys zero h = refl
at_front (x ∷ xs) ys (suc i) h = at_front xs ys i (omega arith)

fewer : (i : ℕ) (xs ys : List WatchView) → take i xs ≡ take i ys → i ≤ length ys → i ≤ length xs
fewer i xs ys e le = let f = ap length e in let g = length-take-le i ys le in let h = length-take i xs in omega (arith, f, g, h)

-- one visit of the walk
pub record Visits (w0 w w' : Watched) (a0 a a' : Assigned) (head l end i : ℕ) : Type 0 where
  pub walking : IsWalking w0 w a0 a head l end
  pub before : i < end
  pub open_after : (k : ℕ) → i < k → k < end → has (literals a.entries) (watch_at w l k).blocker ≡ true
  pub entries : Advances w w' a a'
  pub sound : IsWatched w'
  pub front : take i (list_at w'.lists l) ≡ take i (list_at w.lists l)

module _ (w0 w w' : Watched) (a0 a a' : Assigned) (head l end i : ℕ) (v : Visits w0 w w' a0 a a' head l end i) where
  pub visits_steps : Advances w0 w' a0 a'
  visits_steps = advances_then w0 w w' a0 a a' v.walking.entries v.entries

  pub visits_ready : IsReady w'.clauses (literals a'.entries) head []
  visits_ready = ready_still w w' a a' v.entries head [] (let lt = v.walking.inside in omega (arith, lt)) v.walking.ready

  longer_trail : literals a'.entries ≡ literals a.entries ++ literals v.entries.more
  longer_trail = longer w w' a a' v.entries

  within_trail : head + 1 ≤ length (literals a.entries)
  within_trail = let lt = v.walking.inside in let e = length-literals a.entries in omega (arith, lt, e)

  still_false : has (literals a'.entries) (neg l) ≡ true
  still_false = subst (λ z. has z (neg l) ≡ true) (sym longer_trail) (has_more (literals a.entries) (literals v.entries.more) (neg l) v.walking.falsified)

  same_next : neg (get_or (literals a'.entries) head 0) ≡ l
  same_next = ap (λ z. neg (get_or z head 0)) longer_trail ∙ ap neg (at_front (literals a.entries) (literals v.entries.more) head (let le = within_trail in omega (arith, le))) ∙ v.walking.is

  same_take : (h : ℕ) → h ≤ length (literals a.entries) → take h (literals a'.entries) ≡ take h (literals a.entries)
  same_take h le = ap (take h) longer_trail ∙ take-append-le h (literals a.entries) (literals v.entries.more) le

  covered_still : (id : ℕ) → IsCovered (literals a.entries) (head + 1) (lits_at w.clauses id) → IsCovered (literals a'.entries) (head + 1) (lits_at w'.clauses id)
  covered_still id c = subst (λ z. IsCovered z (head + 1) (lits_at w'.clauses id)) (sym longer_trail)
      (covered_more (literals a.entries) (literals v.entries.more) (lits_at w'.clauses id) (head + 1) within_trail (v.entries.moved.kept id (head + 1) (literals a.entries) (λ x m. m) c))

  index_in : i < length (list_at w.lists l)
  index_in = let lt = v.before in let le = v.walking.within in omega (arith, lt, le)

  -- the clause that was visited
  visited : (id : ℕ) → slot_at w.clauses id ≡ Some (watch_at w l i).slot → IsPassed (literals a.entries) (literals a'.entries) (lits_at w.clauses id) (lits_at w'.clauses id) (watch_place (lits_at w.clauses id) l) → IsCovered (literals a'.entries) (head + 1) (lits_at w'.clauses id)
  visited id at (inl s) = inl s
  visited id at (inr r) = elim (v.walking.ready id (watch_at w l i).slot at) [
    | inl none ↦ absurd (let g : false ≡ true = none in cc g)
    | inr c ↦ elim c [
      | inl s ↦ inl (satisfied_still w w' a a' v.entries id s)
      | inr t ↦
          let e = v.walking.sound.entries id l i index_in at in
          inr (rewatched_two (literals a.entries) (literals a'.entries) (lits_at w.clauses id) (lits_at w'.clauses id) head l (watch_place (lits_at w.clauses id) l) (record {
            more = λ x m. has_take (head + 1) x (literals a.entries) (subst (λ z. has z x ≡ true) (same_take (head + 1) within_trail) m);
            first = λ x m. subst (λ z. has z x ≡ true) (same_take head (let le = within_trail in omega (arith, le))) m;
            is = same_next;
            once = once-lits w.clauses id (watch_at w l i).slot v.walking.sound.store at;
            low = watch_place-low (lits_at w.clauses id) l;
            here = e.lit;
            two = t;
          }) r)
    ]
  ]

  -- the clause of an entry before the end
  placed : ((id : ℕ) → slot_at w.clauses id ≡ Some (watch_at w l i).slot → IsPassed (literals a.entries) (literals a'.entries) (lits_at w.clauses id) (lits_at w'.clauses id) (watch_place (lits_at w.clauses id) l))
      → (id t : ℕ) → slot_at w.clauses id ≡ Some t → StandsAt (list_at w.lists l) end t → (has (slots_in (take i (list_at w'.lists l))) t ≡ true) ⊎ IsCovered (literals a'.entries) (head + 1) (lits_at w'.clauses id)
  placed d id t at p = elim (cases p.at i) [
    | inl y ↦
        let here : slot_at w.clauses id ≡ Some (watch_at w l i).slot = at ∙ ap Some (sym p.slot) ∙ ap (λ z. Some (watch_at w l z).slot) y in
        inr (visited id here (d id here))
    | inr n ↦ elim (order p.at n) [
      | inl lt ↦ inl (subst (λ z. has (slots_in z) t ≡ true) (sym v.front) (subst (λ z. has (slots_in (take i (list_at w.lists l))) z ≡ true) p.slot (slot_early i (list_at w.lists l) p.at lt p.within)))
      | inr gt ↦ inr (inl (satisfied_still w w' a a' v.entries id (blocked_true w0 w a0 a head l end v.walking id t p.at at p.within p.slot (v.open_after p.at gt p.before))))
    ]
  ]
    where
      order : (k : ℕ) → (k ≡ i → ⊥) → (k < i) ⊎ (i < k)
      order k n = grind arith

  pub visits_next : ((id : ℕ) → slot_at w.clauses id ≡ Some (watch_at w l i).slot → IsPassed (literals a.entries) (literals a'.entries) (lits_at w.clauses id) (lits_at w'.clauses id) (watch_place (lits_at w.clauses id) l)) → IsWalking w0 w' a0 a' head l i
  visits_next d = record {
    entries = visits_steps;
    ready = visits_ready;
    sound = v.sound;
    inside = let lt = v.walking.inside in let e = length_longer w w' a a' v.entries in omega (arith, lt, e);
    falsified = still_false;
    is = same_next;
    within = fewer i (list_at w'.lists l) (list_at w.lists l) v.front (let lt = index_in in omega (arith, lt));
    passed = λ id t at. let was : slot_at w.clauses id ≡ Some t = sym (v.entries.moved.slots id) ∙ at in
        elim (v.walking.passed id t was) [
          | inl y ↦ placed d id t was (slot_place end (list_at w.lists l) t y)
          | inr c ↦ inr (covered_still id c)
        ];
  }

-- ---- The literal that is propagated

reserved_in : (e : EngineView) (l : ℕ) → IsEngine e → (before after : List TrailEntry) → e.trail ≡ before ++ after → has (literals after) l ≡ true → var l ≤ e.vars
reserved_in e l k before [] at m = absurd (let g : false ≡ true = m in cc g)
reserved_in e l k before (s ∷ after) at m = elim (member_cases s.lit l (literals after) m) [
  | inl y ↦ subst (λ z. var z ≤ e.vars) (sym y) (k.entries before after s at).reserved
  | inr n ↦ reserved_in e l k (before ++ s ∷ []) after (at ∙ sym (append_assoc before (s ∷ []) after)) n
]

pub trail_reserved : (e : EngineView) (l : ℕ) → IsEngine e → has (literals e.trail) l ≡ true → var l ≤ e.vars
trail_reserved e l k m = reserved_in e l k [] e.trail refl m

-- a true literal's place
pub record IsAt (ss : List TrailEntry) (ls : List ℕ) (head l : ℕ) : Type 0 where
  pub list : ls ≡ literals ss
  pub within : head < length ss
  pub is : l ≡ get_or ls head l

module _ (ss : List TrailEntry) (ls : List ℕ) (head l w : ℕ) (at : IsAt ss ls head l) (is : w ≡ neg l) where
  pub at_place : get_or (literals ss) head 0 ≡ l
  at_place = get_or_default (literals ss) head 0 l (let e = length-literals ss in let lt = at.within in omega (arith, e, lt)) ∙ ap (λ z. get_or z head l) (sym at.list) ∙ sym at.is

  pub at_true : has (literals ss) l ≡ true
  at_true = subst (λ z. has (literals ss) z ≡ true) at_place (has_from (literals ss) _ (contains_at (literals ss) head (let e = length-literals ss in let lt = at.within in omega (arith, e, lt))))

  pub at_false : has (literals ss) (neg w) ≡ true
  at_false = subst (λ z. has (literals ss) z ≡ true) (sym (ap neg is ∙ neg_twice l)) at_true

  pub at_negation : neg (get_or (literals ss) head 0) ≡ w
  at_negation = ap neg at_place ∙ sym is

neg_within : (l n : ℕ) → var l ≤ n → neg l < 2 * n
neg_within l n le = omega arith

-- a false literal has a list
pub first_within : (e : EngineView) (ls : List ℕ) (head l w n : ℕ) → IsEngine e → IsAt e.trail ls head l → w ≡ neg l → 2 * e.vars ≤ n → w < n
first_within e ls head l w n k at is wide = let r = neg_within l e.vars (trail_reserved e l k (at_true e.trail ls head l w at is)) in omega arith
