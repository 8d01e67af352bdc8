use Rattle.avr_view.proofs.DeviceSteps.{goes_sts_device, goes_out_device}
use Rattle.avr_view.proofs.devices.writes.Goals as goal

pub returns-clause-sts : goal.returns-clause-sts
returns-clause-sts c = λ e. goes_sts_device e ⊥

pub returns-clause-out : goal.returns-clause-out
returns-clause-out c = λ e. goes_out_device e ⊥
