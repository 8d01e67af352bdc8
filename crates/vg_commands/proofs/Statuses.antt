-- What a status says of the answer that it tells of.
use Rattle.std.proofs.Common.{◌≡◌, Option, Some, None, refl, subst}
use Rattle.vg_base.specs.declared.refusal.Refusal.{Refusal}
use Rattle.vg_base.specs.declared.refusal.Refusal.TheVariants as refusal
use Rattle.avr_isa.specs.declared.ending.MachineEnd.{MachineEnd}
use Rattle.avr_isa.specs.declared.ending.MachineEnd.TheVariants as machine_end
use Rattle.vg_fetch.specs.declared.fetch.NoFile.{NoFile}
use Rattle.vg_fetch.specs.declared.fetch.NoFile.TheVariants as missing
use Rattle.vg_faults.specs.declared.fault.Fault.{Fault}
use Rattle.vg_commands.specs.Commands.{IsAnswerOfBuild, IsAnswerOfRun, IsAnswerOfSim, IsAnswerOfTry, IsAnswerOfWhy}
use Rattle.vg_commands.specs.Leaves.{IsBehindFiles}
use Rattle.vg_commands.specs.Endings.{status_of_ending, status_of_refusal, status_without_file}
use Rattle.vg_status.specs.Statuses.{IsBeforePuts, IsSettled, IsShown}
use Rattle.vg_status.specs.declared.status.Status.{Status}
use Rattle.vg_status.specs.declared.status.Status.TheVariants.{Refused, ReadFault, WriteFault, TooLong}

-- A FILE IS MISSING

pub missing_unsettled : (reason : NoFile) → IsSettled (status_without_file reason) → ⊥
missing_unsettled missing.Failed h = h
missing_unsettled missing.Wanting h = h
missing_unsettled missing.Long h = h

pub missing_not_shown : (reason : NoFile) → IsShown (status_without_file reason) → ⊥
missing_not_shown missing.Failed h = h
missing_not_shown missing.Wanting h = h
missing_not_shown missing.Long h = h

pub missing_of_build : (reason : NoFile) → IsAnswerOfBuild (status_without_file reason)
missing_of_build missing.Failed = tt
missing_of_build missing.Wanting = tt
missing_of_build missing.Long = tt

pub missing_of_run : (reason : NoFile) → IsAnswerOfRun (status_without_file reason)
missing_of_run missing.Failed = tt
missing_of_run missing.Wanting = tt
missing_of_run missing.Long = tt

pub missing_of_sim : (reason : NoFile) → IsAnswerOfSim (status_without_file reason)
missing_of_sim missing.Failed = tt
missing_of_sim missing.Wanting = tt
missing_of_sim missing.Long = tt

pub missing_of_why : (reason : NoFile) → IsAnswerOfWhy (status_without_file reason)
missing_of_why missing.Failed = tt
missing_of_why missing.Wanting = tt
missing_of_why missing.Long = tt

pub missing_no_write : (reason : NoFile) → status_without_file reason ≡ WriteFault → ⊥
missing_no_write missing.Failed e = cc
missing_no_write missing.Wanting e = cc
missing_no_write missing.Long e = cc

pub missing_no_refusal : (reason : NoFile) (why : Fault) → status_without_file reason ≡ Refused why → ⊥
missing_no_refusal missing.Failed why e = cc
missing_no_refusal missing.Wanting why e = cc
missing_no_refusal missing.Long why e = cc

pub read_is_failed : (reason : NoFile) → status_without_file reason ≡ ReadFault → reason ≡ missing.Failed
read_is_failed missing.Failed e = refl
read_is_failed missing.Wanting e = cc
read_is_failed missing.Long e = cc

pub long_is_long : (reason : NoFile) → status_without_file reason ≡ TooLong → reason ≡ missing.Long
long_is_long missing.Failed e = cc
long_is_long missing.Wanting e = cc
long_is_long missing.Long e = refl

-- NOTHING WAS BUILT

pub refusal_not_shown : (why : Refusal Fault) → IsShown (status_of_refusal why) → ⊥
refusal_not_shown (refusal.Fault fault) h = h
refusal_not_shown refusal.NoMemory h = h

pub refusal_no_write : (why : Refusal Fault) → status_of_refusal why ≡ WriteFault → ⊥
refusal_no_write (refusal.Fault fault) e = cc
refusal_no_write refusal.NoMemory e = cc

pub refusal_behind_files : (why : Refusal Fault) → IsBehindFiles (status_of_refusal why)
refusal_behind_files (refusal.Fault fault) = tt
refusal_behind_files refusal.NoMemory = tt

-- A MACHINE HAS ENDED, OR NOT

pub ending_is_shown : (end : Option MachineEnd) → IsShown (status_of_ending end)
ending_is_shown None = tt
ending_is_shown (Some machine_end.Idle) = tt
ending_is_shown (Some (machine_end.Stop code)) = tt
ending_is_shown (Some (machine_end.Wants address)) = tt
ending_is_shown (Some (machine_end.Bad pc word)) = tt

-- an ending has a status of its own
pub ending_not_other : (end : Option MachineEnd) (s : Status) → (IsShown s → ⊥) → status_of_ending end ≡ s → ⊥
ending_not_other None s other e = other (subst IsShown e tt)
ending_not_other (Some machine_end.Idle) s other e = other (subst IsShown e tt)
ending_not_other (Some (machine_end.Stop code)) s other e = other (subst IsShown e tt)
ending_not_other (Some (machine_end.Wants address)) s other e = other (subst IsShown e tt)
ending_not_other (Some (machine_end.Bad pc word)) s other e = other (subst IsShown e tt)

pub ending_not_before : (end : Option MachineEnd) → IsBeforePuts (status_of_ending end) → ⊥
ending_not_before None h = h
ending_not_before (Some machine_end.Idle) h = h
ending_not_before (Some (machine_end.Stop code)) h = h
ending_not_before (Some (machine_end.Wants address)) h = h
ending_not_before (Some (machine_end.Bad pc word)) h = h

-- and tells of no file
pub ending_behind_files : (end : Option MachineEnd) → IsBehindFiles (status_of_ending end)
ending_behind_files None = tt
ending_behind_files (Some machine_end.Idle) = tt
ending_behind_files (Some (machine_end.Stop code)) = tt
ending_behind_files (Some (machine_end.Wants address)) = tt
ending_behind_files (Some (machine_end.Bad pc word)) = tt

-- it is an answer of `try`
pub ending_of_try : (end : Option MachineEnd) → IsAnswerOfTry (status_of_ending end)
ending_of_try None = tt
ending_of_try (Some machine_end.Idle) = tt
ending_of_try (Some (machine_end.Stop code)) = tt
ending_of_try (Some (machine_end.Wants address)) = tt
ending_of_try (Some (machine_end.Bad pc word)) = tt
