use Rattle.std.proofs.Common.{inl, refl}
use Rattle.vg_fit_code.proofs.Making.{flattened_made, eased, each_of, all_fit}
use Rattle.vg_fit_code.proofs.Expanding.{expanded_fit, routine_fit}
use Rattle.vg_fit_code.proofs.Apt.{apt_made, flattened_apt}
use Rattle.vg_fit_code.proofs.Found.{found_fit, finder_fit}
use Rattle.vg_fit_code.proofs.laws.code_is_fit.Goals as goal

pub returns-clause-flattened : goal.returns-clause-flattened
returns-clause-flattened c = flattened_made

pub returns-clause-apt : goal.returns-clause-apt
returns-clause-apt c = flattened_apt

pub returns-clause-made : goal.returns-clause-made
returns-clause-made c = apt_made

pub returns-clause-eased : goal.returns-clause-eased
returns-clause-eased c = eased

pub returns-clause-expanded : goal.returns-clause-expanded
returns-clause-expanded c = expanded_fit

pub returns-clause-routines : goal.returns-clause-routines
returns-clause-routines c = routine_fit

pub returns-clause-start : goal.returns-clause-start
returns-clause-start c = λ p main receives. (inl refl, (tt, (tt, tt)))

pub returns-clause-simple : goal.returns-clause-simple
returns-clause-simple c = all_fit

pub returns-clause-each : goal.returns-clause-each
returns-clause-each c = each_of

pub returns-clause-found : goal.returns-clause-found
returns-clause-found c = found_fit

pub returns-clause-finders : goal.returns-clause-finders
returns-clause-finders c = finder_fit
