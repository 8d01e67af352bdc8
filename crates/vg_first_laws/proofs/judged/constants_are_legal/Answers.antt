use Rattle.vg_first_laws.proofs.Means.{text_is_legal, text_starts, text_session}
use Rattle.vg_first_laws.proofs.judged.constants_are_legal.Goals as goal

pub returns-clause-legal : goal.returns-clause-legal
returns-clause-legal c = text_is_legal

pub returns-clause-started : goal.returns-clause-started
returns-clause-started c = text_starts

pub returns-clause-session : goal.returns-clause-session
returns-clause-session c = text_session
