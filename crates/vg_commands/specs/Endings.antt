-- What the answers of the top call tell of the answer of a command.
use Rattle.std.specs.Prelude.{Option, Some, None}
use Rattle.vg_base.specs.declared.refusal.Refusal.{Refusal}
use Rattle.vg_base.specs.declared.refusal.Refusal.TheVariants as refusal
use Rattle.avr_isa.specs.declared.ending.MachineEnd.{MachineEnd}
use Rattle.avr_isa.specs.declared.ending.MachineEnd.TheVariants as machine_end
use Rattle.vg_fetch.specs.declared.fetch.NoFile.{NoFile}
use Rattle.vg_fetch.specs.declared.fetch.NoFile.TheVariants as missing
use Rattle.vg_meaning.specs.Ending.{Ending}
use Rattle.vg_meaning.specs.Ending as session_end
use Rattle.vg_faults.specs.declared.fault.Fault.{Fault}
use Rattle.vg_run.specs.Shown.{ending_in}
use Rattle.vg_run.specs.declared.playing.Played.{Played}
use Rattle.vg_run.specs.declared.playing.Played.TheVariants as played
use Rattle.vg_sim.specs.declared.simulate.Simulated.{Simulated}
use Rattle.vg_sim.specs.declared.simulate.Simulated.TheVariants as simulated
use Rattle.vg_status.specs.declared.status.Status.{Status}
use Rattle.vg_status.specs.declared.status.Status.TheVariants.{Done, Refused, ReadFault, WriteFault, NoMemory, TooLong}
use Rattle.vg_status.specs.declared.status.Status.TheVariants.{Stopped, Wants, Budget, Depth, HexRefused, ScriptRefused, BadInstruction}

-- the answer that tells why a file is missing
abbrev pub status_without_file : NoFile → Status
status_without_file missing.Failed = ReadFault
status_without_file missing.Wanting = NoMemory
status_without_file missing.Long = TooLong

-- the answer that tells why nothing was built
abbrev pub status_of_refusal : Refusal Fault → Status
status_of_refusal (refusal.Fault why) = Refused why
status_of_refusal refusal.NoMemory = NoMemory

-- the answer that tells how a session has ended
abbrev pub status_of_end : Ending → Status
status_of_end session_end.Idle = Done
status_of_end (session_end.Stop code) = Stopped code
status_of_end (session_end.Wants address) = Wants address
status_of_end session_end.Beyond = Budget
status_of_end session_end.Deep = Depth

-- the answer that tells how a session went
abbrev pub status_of_played : Played → Status
status_of_played (played.Ended end) = status_of_end (ending_in end)
status_of_played played.WriteFault = WriteFault
status_of_played (played.Refused why) = Refused why
status_of_played (played.ScriptRefused line) = ScriptRefused line
status_of_played played.NoMemory = NoMemory

-- the answer that tells how a machine has ended, or that it has not
abbrev pub status_of_ending : Option MachineEnd → Status
status_of_ending None = Budget
status_of_ending (Some machine_end.Idle) = Done
status_of_ending (Some (machine_end.Stop code)) = Stopped code
status_of_ending (Some (machine_end.Wants address)) = Wants address
status_of_ending (Some (machine_end.Bad pc word)) = BadInstruction pc word

-- the answer that tells how a simulation went
abbrev pub status_of_simulated : Simulated → Status
status_of_simulated (simulated.Ended end) = status_of_ending end
status_of_simulated simulated.WriteFault = WriteFault
status_of_simulated (simulated.HexRefused fault) = HexRefused fault
status_of_simulated (simulated.ScriptRefused line) = ScriptRefused line
status_of_simulated simulated.NoMemory = NoMemory
