-- What a slot has after each call, for those who call the pool.
use Rattle.std.proofs.Common.{◌≡◌, ℕ, ◌==◌, cond, Some, None, ap, ◌∙◌}
use Rattle.std.proofs.lemmas.Bool.Decides.{nat_tests}
use Rattle.std.specs.Cmp.{nat_cmp_total, unsigned_tied}
use Rattle.std.specs.FinMap.{get, insert, remove, get-insert, get-remove}
use Rattle.lit_pool.specs.Entry.{Entry, Entries}

pub get-insert_slot : (m : Entries) (s : ℕ) (e : Entry) (q : ℕ) → get (insert m s e) q ≡ cond (q == s) (Some e) (get m q)
get-insert_slot m s e q = get-insert nat_cmp_total m s e q ∙ ap (λ b. cond b (Some e) (get m q)) (unsigned_tied q s)

pub get-remove_slot : (m : Entries) (s q : ℕ) → get (remove m s) q ≡ cond (q == s) None (get m q)
get-remove_slot m s q = get-remove nat_cmp_total m s q ∙ ap (λ b. cond b None (get m q)) (unsigned_tied q s)

pub ruleset slot_steps = (get-insert_slot, get-remove_slot, nat_tests)
