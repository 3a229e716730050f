-- What a reader read in its line, one part behind the other.
use Rattle.std.proofs.Common.{◌≡◌, ℕ, ◌≤◌, List, Some, None, Err, ap, ◌∙◌, arith}
use Rattle.std.specs.declared.option.Option.{Option}
use Rattle.std.specs.declared.result.Result.{Result}
use Rattle.std.specs.Prelude.{IfSome, IsErrOf}
use Rattle.outside.specs.Faults.{Rose}
use Rattle.session_rules.specs.declared.Rule.{Rule}
use Rattle.session_rules.specs.declared.LineFault.{LineFault}
use Rattle.session_rules.specs.declared.LineFault.TheVariants.{Syntax, Read}
use Rattle.slice_tokens.specs.declared.token.Token.{Token}
use Rattle.slice_tokens.specs.declared.token.TokenFault.{TokenFault}
use Rattle.slice_tokens.specs.declared.token.TokenFault.TheVariants as tokens
use Rattle.slice_tokens.specs.Place.{Place, WhereTold, present}
use Rattle.slice_tokens.specs.Due.{due}
use Rattle.slice_tokens.specs.Calls.{Moves, Answers, Leaves, LeavesLines}
use Rattle.line_reading.specs.Parts.{Stays, line_fault_of}
use Rattle.line_reading.specs.Readers.{Reader, to_come, ReadsInLine}

-- ---- Where the bytes may be told

pub told_then : (a b c : Option (List ℕ)) (Q R S : List ℕ → List ℕ → Type 0) → WhereTold a b Q → WhereTold b c R
    → ((t u v : List ℕ) → Q t u → R u v → S t v) → WhereTold a c S
told_then None b c Q R S q r step = tt
told_then (Some t) None c Q R S q r step = absurd q
told_then (Some t) (Some u) None Q R S q r step = r
told_then (Some t) (Some u) (Some v) Q R S q r step = step t u v q r

pub told_at_start : (a : Option (List ℕ)) (Q : List ℕ → List ℕ → Type 0) → ((t : List ℕ) → Q t t) → WhereTold a a Q
told_at_start None Q h = tt
told_at_start (Some t) Q h = h t

pub told_map : (a b : Option (List ℕ)) (Q R : List ℕ → List ℕ → Type 0) → WhereTold a b Q → ((t u : List ℕ) → Q t u → R t u) → WhereTold a b R
told_map None b Q R q step = tt
told_map (Some t) None Q R q step = q
told_map (Some t) (Some u) Q R q step = step t u q

pub told_from : (a b : Option (List ℕ)) (P : List ℕ → Type 0) (Q R : List ℕ → List ℕ → Type 0)
    → IfSome a P → WhereTold a b Q → ((t u : List ℕ) → P t → Q t u → R t u) → WhereTold a b R
told_from None b P Q R p q step = tt
told_from (Some t) None P Q R p q step = q
told_from (Some t) (Some u) P Q R p q step = step t u p q

-- ---- Over every source

pub moves_trans : (o p q : Place) → Moves o p → Moves p q → Moves o q
moves_trans o p q h k = record { passed = omega (arith, h.passed, k.passed); bounded = k.bounded; counted = k.counted; ended = λ e. k.ended (h.ended e) }

pub stays_trans : (o p q : Place) → Stays o p → Stays p q → Stays o q
stays_trans o p q h k = record { moves = moves_trans o p q h.moves k.moves; line = k.line ∙ h.line; standing = k.standing ∙ h.standing; taken = λ e. k.taken (h.taken e) }

-- a count that rose later rose
pub rose_later : (a b c : ℕ) → a ≤ b → Rose b c → Rose a c
rose_later a b c h k = omega (arith, h, k)

-- a fault is the same, whichever value was wanted
pub same_fault : {A B : Type 0} (e f : LineFault) → (let a : Result A LineFault = Err e in a) ≡ Err f → (let b : Result B LineFault = Err e in b) ≡ Err f
same_fault e f h = let g : e ≡ f = cc h in ap (λ z. Err z) g

-- ---- In a line

-- what was read is also this
pub in_line_map : {A B : Type 0} (P Q : Place → List ℕ → Place → List ℕ → Type 0) (r : Result A LineFault) (s : Result B LineFault) (o n : Reader) → (IsErrOf s Read → IsErrOf r Read)
    → ReadsInLine P o n r → ((t u : List ℕ) → P o.place t n.place u → Q o.place t n.place u) → ReadsInLine Q o n s
in_line_map P Q r s o n same h step = record { stays = h.stays; told = told_map _ _ _ _ h.told step; count = h.count; read = λ e. h.read (same e) }

-- one part was read, and then another
pub in_line_then : {A B C : Type 0} (P Q R : Place → List ℕ → Place → List ℕ → Type 0) (q : Result A LineFault) (r : Result B LineFault) (s : Result C LineFault) (o m n : Reader)
    → (IsErrOf s Read → IsErrOf r Read) → ReadsInLine P o m q → ReadsInLine Q m n r → ((t u v : List ℕ) → P o.place t m.place u → Q m.place u n.place v → R o.place t n.place v) → ReadsInLine R o n s
in_line_then P Q R q r s o m n same h k step = record {
  stays = stays_trans _ _ _ h.stays k.stays;
  told = told_then _ _ _ _ _ _ h.told k.told step;
  count = omega (arith, h.count, k.count);
  read = λ e. rose_later _ _ _ h.count (k.read (same e));
}

-- the window's fault is a failed read only where a read failed
failed_read : {A : Type 0} (long : Rule) (fault : TokenFault) → (let a : Result A LineFault = Err (line_fault_of long fault) in a) ≡ Err Read
    → (let b : Result Token TokenFault = Err fault in b) ≡ Err tokens.Read
failed_read long tokens.Read h = ap (λ z. Err z) (let e : tokens.Read ≡ tokens.Read = cc in e)
failed_read long tokens.LongWord h = let e : Syntax long ≡ Read = cc h in cc e
failed_read long tokens.Length h = cc h

-- the window answered a fault in place of the next word
pub window_failed : {A : Type 0} (Q : Place → List ℕ → Place → List ℕ → Type 0) (long : Rule) (fault : TokenFault) (o n : Reader) → Leaves (Err fault) o.place n.place (to_come o) (to_come n)
    → o.faults ≤ n.faults → (IsErrOf (let b : Result Token TokenFault = Err fault in b) tokens.Read → Rose o.faults n.faults)
    → IfSome (to_come o) (λ t. Answers (due (present o.place t)) (Err fault))
    → ((t u : List ℕ) → Answers (due (present o.place t)) (Err fault) → LeavesLines (Err fault) o.place t n.place u → Q o.place t n.place u)
    → ReadsInLine {A = A} Q o n (Err (line_fault_of long fault))
window_failed Q long fault o n leaves count read answer step = record {
  stays = record { moves = leaves.moves; line = leaves.line; standing = leaves.standing; taken = λ e. leaves.fresh ∙ e };
  told = told_from _ _ (λ t. Answers (due (present o.place t)) (Err fault)) (λ t u. LeavesLines (Err fault) o.place t n.place u) _ answer leaves.told step;
  count = count;
  read = λ e. read (failed_read long fault e);
}
