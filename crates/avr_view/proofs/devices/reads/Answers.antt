use Rattle.avr_view.proofs.DeviceSteps.{goes_lds_device, ends_lds_device, goes_in_device, ends_in_device}
use Rattle.avr_view.proofs.devices.reads.Goals as goal

pub returns-clause-lds : goal.returns-clause-lds
returns-clause-lds c = λ e. goes_lds_device e ⊥

pub returns-clause-lds_wants : goal.returns-clause-lds_wants
returns-clause-lds_wants c = λ e. ends_lds_device e ⊥

pub returns-clause-in_device : goal.returns-clause-in_device
returns-clause-in_device c = λ e. goes_in_device e ⊥

pub returns-clause-in_wants : goal.returns-clause-in_wants
returns-clause-in_wants c = λ e. ends_in_device e ⊥
