use Rattle.avr_instr.proofs.BothWays.{decoded_only, decoded_each, spelled_once}
use Rattle.avr_instr.proofs.decoding.spelling_both_ways.Goals as goal

pub returns-clause-only : goal.returns-clause-only
returns-clause-only c = decoded_only

pub returns-clause-each : goal.returns-clause-each
returns-clause-each c = decoded_each

pub returns-clause-once : goal.returns-clause-once
returns-clause-once c = spelled_once
