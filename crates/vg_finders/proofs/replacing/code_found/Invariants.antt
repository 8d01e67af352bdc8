use Rattle.std.proofs.Common.{◌≡◌, map, take}
use Rattle.vg_finding.specs.Finders.{instr_found}
use Rattle.vg_finders.proofs.replacing.code_found.Given as goal

abbrev pub invariant-loop-instr : goal.invariant-loop-instr
invariant-loop-instr l = l.row.items ≡ map (instr_found l.numbers) (take l.instr-index l.code)
