use Rattle.vg_sound.proofs.Runs.{literal_kinds, first_typed, right_starting}
use Rattle.vg_sound.proofs.soundness.right_starts.Goals as goal

pub returns-clause-first : goal.returns-clause-first
returns-clause-first g c = λ p good. (literal_kinds p good p.tables.literals, first_typed p good)

pub returns-clause-starting : goal.returns-clause-starting
returns-clause-starting g c = λ r p good history clock. right_starting p good r history clock
