use Rattle.vg_faults.proofs.Room.{no_room_fault, one_room_fault}
use Rattle.vg_faults.proofs.laws.room_faults_exclude.Goals as goal

pub returns-clause-one : goal.returns-clause-one
returns-clause-one c = one_room_fault

pub returns-clause-none : goal.returns-clause-none
returns-clause-none c = no_room_fault
