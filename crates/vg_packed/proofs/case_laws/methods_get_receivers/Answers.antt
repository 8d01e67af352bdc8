use Rattle.vg_packed.proofs.Receivers.{of_class, of_bindable}
use Rattle.vg_packed.proofs.case_laws.methods_get_receivers.Goals as goal

pub returns-clause-classes : goal.returns-clause-classes
returns-clause-classes c = λ bindable ys m cl y e o. of_class bindable ys m cl y e o

pub returns-clause-bindable : goal.returns-clause-bindable
returns-clause-bindable c = λ bindable ys m lt h. of_bindable bindable ys m lt h
