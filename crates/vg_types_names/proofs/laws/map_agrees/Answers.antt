use Rattle.vg_types_names.proofs.Lookups.{class_agrees, component_agrees, device_agrees}
use Rattle.vg_types_names.proofs.laws.map_agrees.Goals as goal

pub returns-clause-class : goal.returns-clause-class
returns-clause-class c = class_agrees

pub returns-clause-component : goal.returns-clause-component
returns-clause-component c = component_agrees

pub returns-clause-device : goal.returns-clause-device
returns-clause-device c = device_agrees
