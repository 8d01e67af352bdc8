use Rattle.std.proofs.Common.{◌≡◌, ◌≤◌, min, drop}
use Rattle.vg_syntax.specs.Hexadecimal.{more_digits}
use Rattle.vg_types_numbers.proofs.number.hexadecimal.Given as goal

-- the value so far, and the digits of the rest, are those of all
abbrev pub invariant-loop-digit : goal.invariant-loop-digit
invariant-loop-digit l = (l.value ≤ 4294967295) × (min (more_digits l.value (drop l.digit-index l.digits)) 4294967295 ≡ min (more_digits 0 l.digits) 4294967295)
