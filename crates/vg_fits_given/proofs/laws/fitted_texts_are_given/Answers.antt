use Rattle.vg_fits_given.proofs.Given.{chip, given, ready}
use Rattle.vg_fits_given.proofs.laws.fitted_texts_are_given.Goals as goal

pub returns-clause-given : goal.returns-clause-given
returns-clause-given c = λ bytes clock f is short. given bytes clock f is short

pub returns-clause-ready : goal.returns-clause-ready
returns-clause-ready c = λ bytes clock f is short. ready bytes clock f is short

pub returns-clause-chip : goal.returns-clause-chip
returns-clause-chip c = λ bytes clock f is short. chip bytes clock f is short
