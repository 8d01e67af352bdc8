use Rattle.vg_finding.proofs.Sound.{finder_sound, found_sound}
use Rattle.vg_finding.proofs.laws.finders_are_sound.Goals as goal

pub returns-clause-finders : goal.returns-clause-finders
returns-clause-finders c = finder_sound

pub returns-clause-with_finders : goal.returns-clause-with_finders
returns-clause-with_finders c = found_sound
