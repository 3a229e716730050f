use Rattle.std.proofs.Common.{◌≡◌, true, min, take}
use Rattle.std.specs.List.{list_all}
use Rattle.std.specs.Char.{is_ascii_digit}
use Rattle.std.specs.Str.Parse.{digits_value}
use Rattle.lits.proofs.reading.numeral.Given as goal
use Rattle.lits.specs.declared.reading.TheConstants.{LARGE}

abbrev pub invariant-loop-b : goal.invariant-loop-b
invariant-loop-b l = (list_all is_ascii_digit (take l.b-index l.bytes) ≡ true) × (l.value ≡ min LARGE (digits_value 10 (take l.b-index l.bytes)))
