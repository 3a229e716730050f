use Rattle.std.proofs.Common.{◌≡◌, ◌-◌, ◌≤◌, true, take}
use Rattle.std.specs.List.{list_all}
use Rattle.std.specs.Char.{is_ascii_digit}
use Rattle.std.specs.Str.Parse.{digits_value}
use Rattle.lits.proofs.reading.front_digits.Given as goal

abbrev pub invariant-digits : goal.invariant-digits
invariant-digits l = (l.count ≤ l.most) × (list_all is_ascii_digit (take l.count l.bytes) ≡ true) × (l.value ≡ digits_value 10 (take l.count l.bytes))

abbrev pub decreases-digits : goal.decreases-digits
decreases-digits l = l.most - l.count
