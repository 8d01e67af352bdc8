use Rattle.std.proofs.Common.{◌≡◌, ◌*◌, ◌≤◌, take}
use Rattle.avr_isa.specs.Standing.{widths}
use Rattle.avr_code.proofs.words.count_words.Given as goal

abbrev pub invariant-loop-instr : goal.invariant-loop-instr
invariant-loop-instr l = (l.words ≡ widths (take l.instr-index l.code)) × (l.words ≤ 2 * l.instr-index)
