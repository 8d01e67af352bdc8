use Rattle.vg_first_text.specs.FirstText.{writes_of}
use Rattle.vg_source.specs.Program.{source_of}
use Rattle.vg_first_laws.specs.Trees.{first_tree}
use Rattle.vg_first_laws.proofs.Runs.{started_does}
use Rattle.vg_first_laws.proofs.Names.{is_constants, sessions_are}
use Rattle.vg_first_laws.proofs.meaning.constants_mean.Goals as goal

pub returns-clause-started : goal.returns-clause-started
returns-clause-started c =
    λ at device program f fits clock. started_does (source_of (first_tree at device program f)) (writes_of f) (is_constants at device program f fits) clock

pub returns-clause-session : goal.returns-clause-session
returns-clause-session c = sessions_are
