-- Where a proof's events are sound and the interaction's are matched with them, the pair is certified.
use Rattle.std.proofs.Common.{◌≡◌, ℕ, ◌+◌, ◌%◌, ◌⊎◌, Bool, true, false, not, nat_eq, List, [], ◌∷◌, ◌++◌, length, map, filter_map, find, Some, None, refl, sym, ◌∙◌, ap, subst, inl, inr, arith, eqb-true, eq-eqb, append_assoc, append-nil}
use Rattle.std.specs.List.{list_any, list_all, position_from}
use Rattle.std.proofs.lemmas.List.{length-append}
use Rattle.std.proofs.lemmas.List.Folds.{list_all-append}
use Rattle.std.proofs.lemmas.List.Elements.{filter_map-append}
use Rattle.std.proofs.lemmas.Bool.{and_parts, and_from, or_cases, or_left, or_right, cases_Bool, both_ways, not_from_false, eqb-false}
use Rattle.lits.specs.Literal.{neg, var, positive, of_var}
use Rattle.lits.proofs.Literal.{neg-neg}
use Rattle.session_rules.specs.declared.StatusWord.{StatusWord}
use Rattle.session_rules.specs.declared.StatusWord.TheVariants.{Satisfiable, Unsatisfiable, Unknown}
use Rattle.session_rules.specs.declared.Phase.TheVariants.{Idle, Told}
use Rattle.session_rules.specs.declared.Event.{Event}
use Rattle.session_rules.specs.declared.Event.TheVariants as events
use Rattle.session_rules.specs.declared.Rule.TheVariants as rules
use Rattle.session_rules.specs.Logic.{has, is_part, same_set, satisfies, satisfies_clause, satisfies_formula, Contradicts, IsSatisfiable}
use Rattle.session_rules.specs.History.{phase, phase_behind, fits_phase, inputs, input_of, assumed, query_of, broken_at, first_clash, first_missing, model_faults, core_faults}
use Rattle.session_rules.specs.Pair.{owes_partner, pair_faults, values_told, failed_told, model_told, core_told, IsAnswer, ModelHolds, ToldCoreHolds, CoreHolds, Certified}
use Rattle.lits.proofs.Members.{all_at, all_from, any_at, any_from, has_at, has_from}
use Rattle.session_laws.proofs.Justified.{broken_unless_kept}
use Rattle.session_laws.proofs.IdsJustified.{none_broken, first_nil, last_or-push}

-- ---- What kept rules say

find_none : {X : Type 0} (p : X → Bool) (xs : List X) → find p xs ≡ None → list_all (λ x. not (p x)) xs ≡ true
find_none p [] e = refl
find_none p (x ∷ xs) e = elim (cases_Bool (p x)) [
  | inl q ↦ let f : Some x ≡ None = rw q at e in cc f
  | inr q ↦ let f : find p xs ≡ None = rw q at e in and_from _ _ (not_from_false _ q) (find_none p xs f)
]

position_none : {X : Type 0} (p : X → Bool) (n : ℕ) (xs : List X) → position_from p n xs ≡ None → list_all (λ x. not (p x)) xs ≡ true
position_none p n [] e = refl
position_none p n (x ∷ xs) e = elim (cases_Bool (p x)) [
  | inl q ↦ let f : Some n ≡ None = rw q at e in cc f
  | inr q ↦ let f : position_from p (n + 1) xs ≡ None = rw q at e in and_from _ _ (not_from_false _ q) (position_none p (n + 1) xs f)
]

not_not : (b : Bool) → not (not b) ≡ true → b ≡ true
not_not true e = refl
not_not false e = e

-- none is missing
pub missing_none : (ls ms : List ℕ) → first_missing ls ms ≡ None → is_part ls ms ≡ true
missing_none ls ms e = all_from (has ms) ls (λ l m. not_not (has ms l) (all_at (λ l. not (not (has ms l))) ls l (find_none (λ l. not (has ms l)) ls e) m))

part_has : (ls ms : List ℕ) (l : ℕ) → is_part ls ms ≡ true → has ls l ≡ true → has ms l ≡ true
part_has ls ms l p h = all_at (has ms) ls l p (has_at ls l h)

has_cons : (x : ℕ) (xs : List ℕ) (l : ℕ) → has (x ∷ xs) l ≡ true → (l ≡ x) ⊎ (has xs l ≡ true)
has_cons x xs l h = elim (or_cases (nat_eq l x) (has xs l) h) [ inl e ↦ inl (eqb-true l x e) | inr e ↦ inr e ]

has_first : (x : ℕ) (xs : List ℕ) → has (x ∷ xs) x ≡ true
has_first x xs = or_left (nat_eq x x) (has xs x) (eq-eqb x x refl)

has_more : (x : ℕ) (xs : List ℕ) (l : ℕ) → has xs l ≡ true → has (x ∷ xs) l ≡ true
has_more x xs l h = or_right (nat_eq l x) (has xs l) h

-- without a clash no two are opposite
clash_free : (ls before : List ℕ) → first_clash before ls ≡ None → (l : ℕ) → (has before l ≡ true) ⊎ (has ls l ≡ true) → has ls (neg l) ≡ true → ⊥
clash_free [] before e l h k = cc k
clash_free (x ∷ xs) before e l h k = elim (cases_Bool (has before (neg x))) [
  | inl q ↦ let f : Some x ≡ None = rw q at e in cc f
  | inr q ↦ let next : first_clash (x ∷ before) xs ≡ None = rw q at e in
      let more = clash_free xs (x ∷ before) next in
      elim (has_cons x xs (neg l) k) [
        | inl is ↦ let back : neg x ≡ l = ap neg (sym is) ∙ neg-neg l in
            elim h [
              | inl b ↦ both_ways _ q (subst (λ z. has before z ≡ true) (sym back) b)
              | inr b ↦ elim (has_cons x xs l b) [
                | inl same ↦ absurd (omega arith)
                | inr t ↦ more x (inl (has_first x before)) (subst (λ z. has xs z ≡ true) (sym back) t)
              ]
            ]
        | inr s ↦ elim h [
          | inl b ↦ more l (inl (has_more x before l b)) s
          | inr b ↦ elim (has_cons x xs l b) [
            | inl t ↦ more l (inl (subst (λ z. has (x ∷ before) z ≡ true) (sym t) (has_first x before))) s
            | inr t ↦ more l (inr t) s
          ]
        ]
      ]
]

-- the assignment of a model
pub assignment : List ℕ → ℕ → Bool
assignment m v = has m (of_var v)

-- satisfies each literal of it
assignment_satisfies : (m : List ℕ) → first_clash [] m ≡ None → (l : ℕ) → has m l ≡ true → satisfies (assignment m) l ≡ true
unfolding assignment
assignment_satisfies m e l h = elim (cases_Bool (positive l)) [
  | inl q ↦ let even : l % 2 ≡ 0 = eqb-true _ _ q in let same : of_var (var l) ≡ l = omega arith in
      rw q (subst (λ z. has m z ≡ true) (sym same) h)
  | inr q ↦ let odd : (l % 2 ≡ 0) → ⊥ = eqb-false _ _ q in let same : of_var (var l) ≡ neg l = omega arith in
      rw q (elim (cases_Bool (has m (of_var (var l)))) [
        | inl f ↦ absurd (clash_free m [] e l (inr h) (subst (λ z. has m z ≡ true) same f))
        | inr f ↦ not_from_false _ f
      ])
]

-- ---- Events that are sound, and events that are matched with them

-- an event of a proof behind others: it fits the phase, a model has no fault, a core has none and contradicts the inputs
abbrev pub SoundContent : List Event → Event → Type 0
SoundContent es (events.Model m) = model_faults es m ≡ []
SoundContent es (events.Core u) = (core_faults es u ≡ []) × Contradicts (inputs es) u
SoundContent es _ = Unit {0}

abbrev pub AreSound : List Event → List Event → Type 0
AreSound es [] = phase es ≡ Idle
AreSound es (e ∷ more) = (fits_phase e (phase es) ≡ true) × SoundContent es e × AreSound (es ++ e ∷ []) more

-- each of these is a part of the list
abbrev pub AreParts : List (List ℕ) → List ℕ → Type 0
AreParts [] ls = Unit {0}
AreParts (n ∷ ns) ls = (is_part n ls ≡ true) × AreParts ns ls

-- what the interaction says of an event of the proof, under these assumptions: of a model and a core the line that tells it whole or
-- lines that tell parts of it, of any other event one line
pub data IsRun (qs : List ℕ) : Event → List Event → Type 0 where
  one_line : (e f : Event) → owes_partner e ≡ true → pair_faults qs e f ≡ [] → IsRun qs e (f ∷ [])
  model_line : (m n : List ℕ) → is_part n m ≡ true → IsRun qs (events.Model m) (events.Model n ∷ [])
  model_parts : (m : List ℕ) (ns : List (List ℕ)) → AreParts ns m → IsRun qs (events.Model m) (map events.Values ns)
  core_line : (u w : List ℕ) → is_part u w ≡ true → is_part w qs ≡ true → IsRun qs (events.Core u) (events.Core w ∷ [])
  core_parts : (u : List ℕ) (ns : List (List ℕ)) → AreParts ns u → IsRun qs (events.Core u) (map events.Failed ns)

-- behind these events of the proof, the interaction's further events are what it says of the proof's further events, one after another
pub data Matched : List Event → List Event → List Event → Type 0 where
  none_left : (es : List Event) → Matched es [] []
  matched_run : (es : List Event) (e : Event) (more run rest : List Event) → IsRun (assumed es) e run → Matched (es ++ e ∷ []) more rest → Matched es (e ∷ more) (run ++ rest)

-- two histories with the same sets and as many queries
pub record SameSets (es gs : List Event) : Type 0 where
  pub clauses : (v : ℕ → Bool) → satisfies_formula v (inputs gs) ≡ satisfies_formula v (inputs es)
  pub literals : (l : ℕ) → has (assumed gs) l ≡ has (assumed es) l
  pub queries : length (filter_map query_of es) ≡ length (filter_map query_of gs)

pub same_history : (es : List Event) → SameSets es es
same_history es = record { clauses = λ v. refl; literals = λ l. refl; queries = refl }

-- what a model's kept rules give
pub model_certified : (es gs : List Event) (m n : List ℕ) → SameSets es gs → model_faults es m ≡ [] → is_part n m ≡ true → IsSatisfiable (inputs gs) (assumed gs ++ n)
model_certified es gs m n same kept part =
    let parts = first_nil (broken_at rules.ModelClash (first_clash [] m) ++ broken_at rules.ModelAssumption (first_missing (assumed es) m)) _ kept in
    let firsts = first_nil (broken_at rules.ModelClash (first_clash [] m)) _ parts.0 in
    let free = none_broken rules.ModelClash (first_clash [] m) firsts.0 in
    let has_assumed = missing_none (assumed es) m (none_broken rules.ModelAssumption _ firsts.1) in
    let meets_inputs = position_none (λ c. not (list_any (has m) c)) 1 (inputs es) (none_broken rules.ModelInput _ parts.1) in
    let v = assignment m in (
      v,
      same.clauses v ∙ all_from (satisfies_clause v) (inputs es) (λ c k.
          let l = any_at (has m) c (not_not (list_any (has m) c) (all_at (λ c. not (not (list_any (has m) c))) (inputs es) c meets_inputs k)) in
          any_from (satisfies v) c l.0 l.1 (assignment_satisfies m free l.0 l.2)),
      list_all-append (satisfies v) (assumed gs) n ∙ and_from _ _
          (all_from (satisfies v) (assumed gs) (λ l k. assignment_satisfies m free l (part_has (assumed es) m l has_assumed (sym (same.literals l) ∙ has_from (assumed gs) l k))))
          (all_from (satisfies v) n (λ l k. assignment_satisfies m free l (part_has n m l part (has_from n l k)))),
    )

-- what a core's kept rules give
part_assumed : (es gs : List Event) (w : List ℕ) → SameSets es gs → is_part w (assumed es) ≡ true → is_part w (assumed gs) ≡ true
part_assumed es gs w same claim = all_from (has (assumed gs)) w (λ l k. same.literals l ∙ part_has w (assumed es) l claim (has_from w l k))

contradicts_same : (es gs : List Event) (u : List ℕ) → SameSets es gs → Contradicts (inputs es) u → Contradicts (inputs gs) u
contradicts_same es gs u same contradicts = λ v f t. contradicts v (sym (same.clauses v) ∙ f) t

contradicts_more : (cs : List (List ℕ)) (u w : List ℕ) → is_part u w ≡ true → Contradicts cs u → Contradicts cs w
contradicts_more cs u w part contradicts = λ v f t.
    contradicts v f (all_from (satisfies v) u (λ l k. all_at (satisfies v) w l t (has_at w l (part_has u w l part (has_from u l k)))))

pub own_part : (ls : List ℕ) → is_part ls ls ≡ true
own_part ls = all_from (has ls) ls (λ l k. has_from ls l k)

part_append : (ns ms ls : List ℕ) → is_part ns ls ≡ true → is_part ms ls ≡ true → is_part (ns ++ ms) ls ≡ true
part_append ns ms ls p q = list_all-append (has ls) ns ms ∙ and_from _ _ p q

-- ---- Histories side by side

both_true : (a b : Bool) → (a ≡ true → b ≡ true) → (b ≡ true → a ≡ true) → a ≡ b
both_true true b f g = sym (f refl)
both_true false true f g = cc (g refl)
both_true false false f g = refl

satisfied_part : (v : ℕ → Bool) (c d : List ℕ) → is_part c d ≡ true → satisfies_clause v c ≡ true → satisfies_clause v d ≡ true
satisfied_part v c d p h = let m = any_at (satisfies v) c h in any_from (satisfies v) d m.0 (has_at d m.0 (all_at (has d) c m.0 p m.1)) m.2

satisfied_same : (v : ℕ → Bool) (c d : List ℕ) → same_set c d ≡ true → satisfies_clause v d ≡ satisfies_clause v c
satisfied_same v c d h = let parts = and_parts (is_part c d) (is_part d c) h in both_true _ _ (satisfied_part v d c parts.1) (satisfied_part v c d parts.0)

has_same : (c d : List ℕ) (l : ℕ) → same_set c d ≡ true → has d l ≡ has c l
has_same c d l h = let parts = and_parts (is_part c d) (is_part d c) h in both_true _ _ (part_has d c l parts.1) (part_has c d l parts.0)

inputs-push : (es : List Event) (e : Event) → inputs (es ++ e ∷ []) ≡ inputs es ++ inputs (e ∷ [])
inputs-push es e = filter_map-append input_of es (e ∷ [])

-- an event that is neither an input nor a query leaves both
assumed-kept : (es : List Event) (e : Event) → query_of e ≡ None → assumed (es ++ e ∷ []) ≡ assumed es
assumed-kept es e q = rw (filter_map-append, q, append-nil) refl

assumed-query : (es : List Event) (c : List ℕ) → assumed (es ++ events.Query c ∷ []) ≡ c
assumed-query es c = rw (filter_map-append, last_or-push) refl

inputs-kept : (es : List Event) (e : Event) → input_of e ≡ None → inputs (es ++ e ∷ []) ≡ inputs es
inputs-kept es e q = rw (filter_map-append, q, append-nil) refl

sets-kept : (es gs : List Event) (e : Event) (run : List Event) → input_of e ≡ None → query_of e ≡ None → filter_map input_of run ≡ [] → filter_map query_of run ≡ []
    → SameSets es gs → SameSets (es ++ e ∷ []) (gs ++ run)
sets-kept es gs e run i q j r s =
    let same_inputs : inputs (gs ++ run) ≡ inputs gs = rw (filter_map-append, j, append-nil) refl in
    let same_queries : filter_map query_of (gs ++ run) ≡ filter_map query_of gs = rw (filter_map-append, r, append-nil) refl in
    let no_query : filter_map query_of (es ++ e ∷ []) ≡ filter_map query_of es = rw (filter_map-append, q, append-nil) refl in record {
      clauses = λ v. rw (inputs-kept es e i, same_inputs) (s.clauses v);
      literals = λ l. rw (no_query, same_queries) (s.literals l);
      queries = rw (no_query, same_queries) s.queries;
    }

sets-push : (es gs : List Event) (e f : Event) → owes_partner e ≡ true → pair_faults (assumed es) e f ≡ [] → SameSets es gs → SameSets (es ++ e ∷ []) (gs ++ f ∷ [])
unfolding pair_faults
sets-push es gs (events.Input c) (events.Input d) o h s = let same = broken_unless_kept (same_set c d) rules.Content h in record {
  clauses = λ v. rw (inputs-push es (events.Input c), inputs-push gs (events.Input d), list_all-append, list_all-append, satisfied_same v c d same, s.clauses v) refl;
  literals = λ l. rw (assumed-kept es (events.Input c) refl, assumed-kept gs (events.Input d) refl) (s.literals l);
  queries = rw (filter_map-append, filter_map-append, append-nil, append-nil) s.queries;
}
sets-push es gs (events.Query c) (events.Query d) o h s = let same = broken_unless_kept (same_set c d) rules.Content h in record {
  clauses = λ v. rw (inputs-kept es (events.Query c) refl, inputs-kept gs (events.Query d) refl) (s.clauses v);
  literals = λ l. rw (assumed-query es c, assumed-query gs d) (has_same c d l same);
  queries = rw (filter_map-append, filter_map-append, length-append, length-append, s.queries) refl;
}
sets-push es gs (events.Status a) (events.Status b) o h s = sets-kept es gs (events.Status a) (events.Status b ∷ []) refl refl refl refl s
sets-push es gs (events.Model m) f o h s = absurd (cc o)
sets-push es gs (events.Core u) f o h s = absurd (cc o)
sets-push es gs _ _ o h s = cc h

-- a run of parts has neither an input nor a query
no_inputs : (make : List ℕ → Event) → ((n : List ℕ) → input_of (make n) ≡ None) → (ns : List (List ℕ)) → filter_map input_of (map make ns) ≡ []
no_inputs make is [] = refl
no_inputs make is (n ∷ ns) = rw (is n) (no_inputs make is ns)

no_queries : (make : List ℕ → Event) → ((n : List ℕ) → query_of (make n) ≡ None) → (ns : List (List ℕ)) → filter_map query_of (map make ns) ≡ []
no_queries make is [] = refl
no_queries make is (n ∷ ns) = rw (is n) (no_queries make is ns)

pub no_query_in_values : (ns : List (List ℕ)) → filter_map query_of (map events.Values ns) ≡ []
no_query_in_values ns = no_queries events.Values (λ n. refl) ns

pub no_query_in_failed : (ns : List (List ℕ)) → filter_map query_of (map events.Failed ns) ≡ []
no_query_in_failed ns = no_queries events.Failed (λ n. refl) ns

sets_run : (es gs : List Event) (e : Event) (run : List Event) → IsRun (assumed es) e run → SameSets es gs → SameSets (es ++ e ∷ []) (gs ++ run)
sets_run es gs _ _ (one_line e f o h) s = sets-push es gs e f o h s
sets_run es gs _ _ (model_line m n p) s = sets-kept es gs (events.Model m) (events.Model n ∷ []) refl refl refl refl s
sets_run es gs _ _ (model_parts m ns p) s =
    sets-kept es gs (events.Model m) (map events.Values ns) refl refl (no_inputs events.Values (λ n. refl) ns) (no_query_in_values ns) s
sets_run es gs _ _ (core_line u w p q) s = sets-kept es gs (events.Core u) (events.Core w ∷ []) refl refl refl refl s
sets_run es gs _ _ (core_parts u ns p) s =
    sets-kept es gs (events.Core u) (map events.Failed ns) refl refl (no_inputs events.Failed (λ n. refl) ns) (no_query_in_failed ns) s

-- ---- What the interaction tells of an answer

-- the first of these events tells nothing of an answer
record Fresh (fs : List Event) : Type 0 where
  no_model : model_told fs ≡ []
  no_values : values_told fs ≡ []
  no_core : core_told fs ≡ None
  no_failed : failed_told fs ≡ []

fresh_one : (qs : List ℕ) (e f : Event) (rest : List Event) → pair_faults qs e f ≡ [] → fits_phase e Idle ≡ true → Fresh (f ∷ rest)
unfolding pair_faults values_told failed_told
fresh_one qs (events.Input c) (events.Input d) rest h p = record { no_model = refl; no_values = refl; no_core = refl; no_failed = refl }
fresh_one qs (events.Query c) (events.Query d) rest h p = record { no_model = refl; no_values = refl; no_core = refl; no_failed = refl }
fresh_one qs (events.Input c) f rest h p = absurd (cc h)
fresh_one qs (events.Query c) f rest h p = absurd (cc h)
fresh_one qs e f rest h p = absurd (cc p)

fresh_run : (qs : List ℕ) (e : Event) (run rest : List Event) → IsRun qs e run → fits_phase e Idle ≡ true → Fresh (run ++ rest)
fresh_run qs _ _ rest (one_line e f o h) p = fresh_one qs e f rest h p
fresh_run qs _ _ rest (model_line m n h) p = absurd (cc p)
fresh_run qs _ _ rest (model_parts m ns h) p = absurd (cc p)
fresh_run qs _ _ rest (core_line u w h g) p = absurd (cc p)
fresh_run qs _ _ rest (core_parts u ns h) p = absurd (cc p)

-- no query is open, so what follows is an input or a query
fresh : (es more fs : List Event) → Matched es more fs → phase es ≡ Idle → AreSound es more → Fresh fs
unfolding values_told failed_told
fresh _ _ _ (none_left es) p h = record { no_model = refl; no_values = refl; no_core = refl; no_failed = refl }
fresh _ _ _ (matched_run es e more run rest is next) p h = let fits : fits_phase e Idle ≡ true = rw p at h.0 in fresh_run (assumed es) e run rest is fits

-- all that the lines of a run tell are parts
values_part : (ns : List (List ℕ)) (rest : List Event) (m : List ℕ) → AreParts ns m → values_told rest ≡ [] → is_part (values_told (map events.Values ns ++ rest)) m ≡ true
unfolding values_told
values_part [] rest m h none = rw none refl
values_part (n ∷ ns) rest m h none = part_append n _ m h.0 (values_part ns rest m h.1 none)

failed_part : (ns : List (List ℕ)) (rest : List Event) (u : List ℕ) → AreParts ns u → failed_told rest ≡ [] → is_part (failed_told (map events.Failed ns ++ rest)) u ≡ true
unfolding failed_told
failed_part [] rest u h none = rw none refl
failed_part (n ∷ ns) rest u h none = part_append n _ u h.0 (failed_part ns rest u h.1 none)

model_part : (ns : List (List ℕ)) (rest : List Event) (m : List ℕ) → AreParts ns m → Fresh rest → is_part (model_told (map events.Values ns ++ rest)) m ≡ true
model_part [] rest m h fresh = rw (fresh.no_model) refl
model_part (n ∷ ns) rest m h fresh = values_part (n ∷ ns) rest m h fresh.no_values

no_core_told : (ns : List (List ℕ)) (rest : List Event) → Fresh rest → core_told (map events.Failed ns ++ rest) ≡ None
no_core_told [] rest fresh = fresh.no_core
no_core_told (n ∷ ns) rest fresh = refl

-- ---- The facts at a status

phase-push : (es : List Event) (e : Event) → phase (es ++ e ∷ []) ≡ phase_behind (Some e)
phase-push es e = rw last_or-push refl

-- behind a satisfiable status comes a model, which with all that the interaction tells of it satisfies the inputs
record ModelNext (gs more fs : List Event) : Type 0 where
  model : List ℕ
  later : List Event
  is_next : more ≡ events.Model model ∷ later
  satisfies : IsSatisfiable (inputs gs) (assumed gs ++ (model_told fs ++ model))

-- an event that fits behind a status is an answer
no_answer_owes : (e : Event) (status : StatusWord) → fits_phase e (Told status) ≡ true → owes_partner e ≡ true → ⊥
no_answer_owes (events.Model m) status h o = cc o
no_answer_owes (events.Core u) status h o = cc o
no_answer_owes e status h o = cc h

model_told_next : (es gs : List Event) (m : List ℕ) (more fs : List Event) → SameSets es gs → model_faults es m ≡ [] → is_part (model_told fs) m ≡ true
    → ModelNext gs (events.Model m ∷ more) fs
model_told_next es gs m more fs s kept part = record {
  model = m;
  later = more;
  is_next = refl;
  satisfies = model_certified es gs m (model_told fs ++ m) s kept (part_append (model_told fs) m m part (own_part m));
}

model_run : (es gs : List Event) (e : Event) (more run rest : List Event) → IsRun (assumed es) e run → fits_phase e (Told Satisfiable) ≡ true → SameSets es gs → SoundContent es e
    → Fresh rest → ModelNext gs (e ∷ more) (run ++ rest)
model_run es gs _ more _ rest (one_line e f o h) p s kept fresh = absurd (no_answer_owes e Satisfiable p o)
model_run es gs _ more _ rest (model_line m n part) p s kept fresh = model_told_next es gs m more (events.Model n ∷ rest) s kept part
model_run es gs _ more _ rest (model_parts m ns parts) p s kept fresh =
    model_told_next es gs m more (map events.Values ns ++ rest) s kept (model_part ns rest m parts fresh)
model_run es gs _ more _ rest (core_line u w h g) p s kept fresh = absurd (cc p)
model_run es gs _ more _ rest (core_parts u ns h) p s kept fresh = absurd (cc p)

-- an answer that fits leaves no query open
idle_behind : (es : List Event) (e : Event) (status : StatusWord) → fits_phase e (Told status) ≡ true → phase (es ++ e ∷ []) ≡ Idle
idle_behind es e status h = phase-push es e ∙ is_idle e status h
  where
    is_idle : (e : Event) (status : StatusWord) → fits_phase e (Told status) ≡ true → phase_behind (Some e) ≡ Idle
    is_idle (events.Model m) status h = refl
    is_idle (events.Core u) status h = refl
    is_idle e status h = absurd (cc h)

model_next : (es gs more fs : List Event) → Matched es more fs → phase es ≡ Told Satisfiable → SameSets es gs → AreSound es more → ModelNext gs more fs
model_next _ gs _ _ (none_left es) p s h = absurd (cc (p, h))
model_next _ gs _ _ (matched_run es e more run rest is next) p s h = let fits : fits_phase e (Told Satisfiable) ≡ true = rw p at h.0 in
    model_run es gs e more run rest is fits s h.1 (fresh (es ++ e ∷ []) more rest next (idle_behind es e Satisfiable fits) h.2)

-- behind an unsatisfiable status comes a core, and what the interaction tells of it holds
record CoreNext (gs more fs : List Event) : Type 0 where
  core : List ℕ
  later : List Event
  is_next : more ≡ events.Core core ∷ later
  is_assumed : is_part core (assumed gs) ≡ true
  contradicts : Contradicts (inputs gs) core
  told : ToldCoreHolds (inputs gs) (assumed gs) core (core_told fs)
  failed : is_part (failed_told fs) core ≡ true

core_run : (es gs : List Event) (e : Event) (more run rest : List Event) → IsRun (assumed es) e run → fits_phase e (Told Unsatisfiable) ≡ true → SameSets es gs → SoundContent es e
    → Fresh rest → CoreNext gs (e ∷ more) (run ++ rest)
unfolding failed_told
core_run es gs _ more _ rest (one_line e f o h) p s kept fresh = absurd (no_answer_owes e Unsatisfiable p o)
core_run es gs _ more _ rest (model_line m n h) p s kept fresh = absurd (cc p)
core_run es gs _ more _ rest (model_parts m ns h) p s kept fresh = absurd (cc p)
core_run es gs _ more _ rest (core_line u w part claim) p s kept fresh = record {
  core = u;
  later = more;
  is_next = refl;
  is_assumed = part_assumed es gs u s (missing_none u (assumed es) (none_broken rules.CoreStranger _ kept.0));
  contradicts = contradicts_same es gs u s kept.1;
  told = (part_assumed es gs w s claim, part, contradicts_more (inputs gs) u w part (contradicts_same es gs u s kept.1));
  failed = refl;
}
core_run es gs _ more _ rest (core_parts u ns parts) p s kept fresh = record {
  core = u;
  later = more;
  is_next = refl;
  is_assumed = part_assumed es gs u s (missing_none u (assumed es) (none_broken rules.CoreStranger _ kept.0));
  contradicts = contradicts_same es gs u s kept.1;
  told = rw (no_core_told ns rest fresh) tt;
  failed = failed_part ns rest u parts fresh.no_failed;
}

core_next : (es gs more fs : List Event) → Matched es more fs → phase es ≡ Told Unsatisfiable → SameSets es gs → AreSound es more → CoreNext gs more fs
core_next _ gs _ _ (none_left es) p s h = absurd (cc (p, h))
core_next _ gs _ _ (matched_run es e more run rest is next) p s h = let fits : fits_phase e (Told Unsatisfiable) ≡ true = rw p at h.0 in
    core_run es gs e more run rest is fits s h.1 (fresh (es ++ e ∷ []) more rest next (idle_behind es e Unsatisfiable fits) h.2)

-- what an event of the interaction certifies, behind others and before others, with all events of the proof
abbrev Fact : List Event → List Event → Event → List Event → Type 0
Fact proved gs (events.Status Satisfiable) fs = ModelHolds proved gs fs
Fact proved gs (events.Status Unsatisfiable) fs = CoreHolds proved gs fs
Fact proved gs _ fs = Unit {0}

-- behind one more status the sets are the same
module _ (es gs : List Event) (status : StatusWord) (s : SameSets es gs) where
  told_both : SameSets (es ++ events.Status status ∷ []) (gs ++ events.Status status ∷ [])
  told_both = sets-kept es gs (events.Status status) (events.Status status ∷ []) refl refl refl refl s

  answered : (proved more later : List Event) (answer : Event) → proved ≡ es ++ events.Status status ∷ more → more ≡ answer ∷ later → IsAnswer proved gs status answer
  answered proved more later answer whole is = record {
    earlier = es;
    later = later;
    parts = whole ∙ ap (λ zs. es ++ events.Status status ∷ zs) is;
    same_query = s.queries;
  }

fact : (proved es gs : List Event) (e f : Event) (more fs : List Event) → proved ≡ es ++ e ∷ more → SameSets es gs → pair_faults (assumed es) e f ≡ []
    → Matched (es ++ e ∷ []) more fs → AreSound (es ++ e ∷ []) more → Fact proved gs f fs
unfolding pair_faults
fact proved es gs (events.Status Satisfiable) (events.Status Satisfiable) more fs whole s k a h =
    let t = events.Status Satisfiable in
    let r = model_next (es ++ t ∷ []) (gs ++ t ∷ []) more fs a (phase-push es t) (told_both es gs Satisfiable s) h in
    let holds = r.satisfies in record {
      model = r.model;
      is_proved = answered es gs Satisfiable s proved more r.later (events.Model r.model) whole r.is_next;
      satisfies = rw (inputs-kept gs t refl, assumed-kept gs t refl) at holds;
    }
fact proved es gs (events.Status Unsatisfiable) (events.Status Unsatisfiable) more fs whole s k a h =
    let t = events.Status Unsatisfiable in
    let r = core_next (es ++ t ∷ []) (gs ++ t ∷ []) more fs a (phase-push es t) (told_both es gs Unsatisfiable s) h in
    let assumes = r.is_assumed in let contradicts = r.contradicts in let told = r.told in record {
      core = r.core;
      is_proved = answered es gs Unsatisfiable s proved more r.later (events.Core r.core) whole r.is_next;
      is_assumed = rw (assumed-kept gs t refl) at assumes;
      contradicts = rw (inputs-kept gs t refl) at contradicts;
      told = rw (inputs-kept gs t refl, assumed-kept gs t refl) at told;
      failed = r.failed;
    }
fact proved es gs e (events.Input d) more fs whole s k a h = tt
fact proved es gs e (events.Query d) more fs whole s k a h = tt
fact proved es gs e (events.Model d) more fs whole s k a h = tt
fact proved es gs e (events.Core d) more fs whole s k a h = tt
fact proved es gs e (events.Values d) more fs whole s k a h = tt
fact proved es gs e (events.Failed d) more fs whole s k a h = tt
fact proved es gs e (events.Status Unknown) more fs whole s k a h = tt
fact proved es gs _ _ more fs whole s k a h = absurd (cc k)

-- ---- All statuses

abbrev Facts : List Event → List Event → List Event → Type 0
Facts proved gs [] = Unit {0}
Facts proved gs (f ∷ fs) = Fact proved gs f fs × Facts proved (gs ++ f ∷ []) fs

-- a run of parts certifies nothing by itself
facts_parts : (make : List ℕ → Event) (proved : List Event) → ((n : List ℕ) (gs fs : List Event) → Fact proved gs (make n) fs)
    → (ns : List (List ℕ)) (gs rest : List Event) → Facts proved (gs ++ map make ns) rest → Facts proved gs (map make ns ++ rest)
facts_parts make proved quiet [] gs rest h = subst (λ zs. Facts proved zs rest) (append-nil gs) h
facts_parts make proved quiet (n ∷ ns) gs rest h =
    (quiet n gs (map make ns ++ rest), facts_parts make proved quiet ns (gs ++ make n ∷ []) rest (subst (λ zs. Facts proved zs rest) (sym (append_assoc gs (make n ∷ []) (map make ns))) h))

facts_run : (proved es gs : List Event) (e : Event) (more run rest : List Event) → IsRun (assumed es) e run → proved ≡ es ++ e ∷ more → SameSets es gs
    → Matched (es ++ e ∷ []) more rest → AreSound (es ++ e ∷ []) more → Facts proved (gs ++ run) rest → Facts proved gs (run ++ rest)
facts_run proved es gs _ more _ rest (one_line e f o k) whole s a h r = (fact proved es gs e f more rest whole s k a h, r)
facts_run proved es gs _ more _ rest (model_line m n p) whole s a h r = (tt, r)
facts_run proved es gs _ more _ rest (model_parts m ns p) whole s a h r = facts_parts events.Values proved (λ n hs fs. tt) ns gs rest r
facts_run proved es gs _ more _ rest (core_line u w p q) whole s a h r = (tt, r)
facts_run proved es gs _ more _ rest (core_parts u ns p) whole s a h r = facts_parts events.Failed proved (λ n hs fs. tt) ns gs rest r

facts : (proved es more fs : List Event) → Matched es more fs → (gs : List Event) → proved ≡ es ++ more → SameSets es gs → AreSound es more → Facts proved gs fs
facts proved _ _ _ (none_left es) gs whole s h = tt
facts proved _ _ _ (matched_run es e more run rest is next) gs whole s h =
    facts_run proved es gs e more run rest is whole s next h.2
    (facts proved (es ++ e ∷ []) more rest next (gs ++ run) (whole ∙ sym (append_assoc es (e ∷ []) more)) (sets_run es gs e run is s) h.2)

-- the fact at a place
fact_at : (proved before gs after : List Event) (f : Event) → Facts proved gs (before ++ f ∷ after) → Fact proved (gs ++ before) f after
fact_at proved [] gs after f h = rw append-nil h.0
fact_at proved (e ∷ before) gs after f h = subst (λ z. Fact proved z f after) (append_assoc gs (e ∷ []) before) (fact_at proved before (gs ++ e ∷ []) after f h.1)

-- where a proof's events are sound and the interaction's are matched with them, the pair is certified
pub certified : (es fs : List Event) → Matched [] es fs → AreSound [] es → Certified fs es
certified es fs a h = let all = facts es [] es fs a [] refl (same_history []) h in record {
  models = λ before after e. fact_at es before [] after (events.Status Satisfiable) (subst (Facts es []) e all);
  cores = λ before after e. fact_at es before [] after (events.Status Unsatisfiable) (subst (Facts es []) e all);
}
