use Rattle.avr_view.proofs.SeenRuns.{follows_idle, follows_stop, follows_wants, follows_beyond}
use Rattle.avr_view.proofs.agreement.runs_agree.Goals as goal

pub returns-clause-idle : goal.returns-clause-idle
returns-clause-idle c = follows_idle

pub returns-clause-stop : goal.returns-clause-stop
returns-clause-stop c = follows_stop

pub returns-clause-wants : goal.returns-clause-wants
returns-clause-wants c = follows_wants

pub returns-clause-beyond : goal.returns-clause-beyond
returns-clause-beyond c = follows_beyond
