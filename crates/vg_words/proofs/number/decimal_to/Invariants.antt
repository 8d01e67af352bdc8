use Rattle.std.proofs.Common.{◌≡◌, ◌≤◌, drop}
use Rattle.std.specs.List.{list_all}
use Rattle.vg_words.specs.Numbers.{decimal_behind, is_digit, decimal_number}
use Rattle.vg_words.proofs.number.decimal_to.Given as goal

-- the value so far, and the digits of the rest, are those of all
abbrev pub invariant-loop-digit : goal.invariant-loop-digit
invariant-loop-digit l =
    (l.value ≤ l.most)
    × (decimal_behind l.value (drop l.digit-index l.text) ≡ decimal_number l.text)
    × (list_all is_digit (drop l.digit-index l.text) ≡ list_all is_digit l.text)
