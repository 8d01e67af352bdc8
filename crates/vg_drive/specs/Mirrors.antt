-- Mirrors: what the functions below the top call leave. No public clause cites one.
use Rattle.std.specs.Prelude.{ℕ, ◌≡◌, ◌<◌, ◌≤◌, ◌⊎◌, List, [], ◌++◌, length, Option, Some, None, IfSome, Ok, Err}
use Rattle.vg_base.specs.Limits.{text_limit}
use Rattle.avr_isa.specs.Machine.{State}
use Rattle.avr_sim.specs.Run as machine
use Rattle.vg_io.specs.declared.file.File.{File}
use Rattle.vg_words.specs.Commands.{Command, Build, Run, Sim, Why, Try}
use Rattle.vg_fetch.specs.Told.{ForFile}
use Rattle.vg_build.specs.Answer.{Answer, Answers}
use Rattle.vg_build.specs.declared.building.Built.{Built}
use Rattle.vg_faults.specs.Starting.{init_steps}
use Rattle.vg_gen.specs.Generated.{generated}
use Rattle.vg_gen.specs.Summary.{summary}
use Rattle.vg_sim.specs.Shown.{lines_of}
use Rattle.vg_commands.specs.Endings.{status_of_ending, status_of_refusal}
use Rattle.vg_commands.specs.Leaves.{Change, Fails, FilesMissing, GainsAll, GainsFront, IsSame, PlayBy, SimBy, WhyBy}
use Rattle.vg_drive.specs.Trials.{trial_of, try_lines, try_steps}
use Rattle.vg_drive.specs.declared.trial.Trial.{Trial}
use Rattle.vg_status.specs.declared.status.Status.{Status}
use Rattle.vg_status.specs.declared.status.Status.TheVariants.{Done, Usage, WriteFault, NoMemory}

-- BUILD

-- a put failed: that of the HEX text, or behind it that of the layout
abbrev pub PutFails : Built → (out note : Change) → Type 0
PutFails built out note =
    (GainsFront out built.hex × Fails out × IsSame note) ⊎ (GainsAll out built.hex × GainsFront note built.note × Fails note)

-- what was put of what was built, with the answer that tells of it
abbrev pub PutBy : Answer → Status → (out note : Change) → Type 0
PutBy (Ok built) s out note =
    ((s ≡ Done) × GainsAll out built.hex × GainsAll note built.note) ⊎ ((s ≡ WriteFault) × PutFails built out note)
PutBy (Err why) s out note = (s ≡ status_of_refusal why) × IsSame out × IsSame note

-- the bytes of the file were answered, and the answer put
pub record BuildsFile (s : Status) (told : Option (List File)) (file : List ℕ) (asked : Option ℕ) (clock : ℕ) (out note : Change) : Type 0 where
  pub some : 1 ≤ clock
  pub stack : IfSome asked (λ bytes. (1 ≤ bytes) × (bytes ≤ 4096))
  pub bytes : List ℕ
  pub whole : ForFile told file (λ b. b ≡ bytes)
  pub answer : Answer
  pub says : Answers bytes asked clock answer
  pub puts : PutBy answer s out note

-- what `build` leaves
abbrev pub BuildBy : Status → (told : Option (List File)) → (file : List ℕ) → (asked : Option ℕ) → (clock : ℕ) → (out note : Change) → Type 0
BuildBy s told file asked clock out note =
    (FilesMissing s (ForFile told file (λ bytes. text_limit < length bytes)) out × IsSame note) ⊎ BuildsFile s told file asked clock out note

-- TRY

-- what is ready of what was built: its HEX text, what is said of it, and its image in the flash of a machine at reset, in front of an empty script
pub record IsReady (n : ℕ) (built : Built) (trial : Trial) : Type 0 where
  pub hex : trial.hex ≡ built.hex
  pub summary : trial.summary ≡ summary n built.objects built.methods built.layout.static_bytes
  pub machine : trial.machine ≡ built.image
  pub reads : trial.script.reads ≡ []
  pub interrupts : trial.script.interrupts ≡ []

-- the machine of a trial behind its run, and what is put of it
abbrev pub run_in : Trial → State
run_in trial = machine.simulated trial.machine trial.script.reads trial.script.interrupts try_steps

abbrev pub lines_in : Trial → List ℕ
lines_in trial = trial.summary ++ lines_of (run_in trial)

-- a put failed: that of the HEX text, or behind it one of the lines
abbrev pub TrialFails : Trial → (out note : Change) → Type 0
TrialFails trial out note =
    (GainsFront note trial.hex × Fails note × IsSame out) ⊎ (GainsAll note trial.hex × GainsFront out (lines_in trial) × Fails out)

abbrev pub TryFails : (n : ℕ) → Built → (out note : Change) → Type 0
TryFails n built out note =
    (GainsFront note built.hex × Fails note × IsSame out) ⊎ (GainsAll note built.hex × GainsFront out (try_lines n built) × Fails out)

-- all was put, with the answer that tells how the machine has ended
abbrev pub TryShows : (n : ℕ) → Built → Status → (out note : Change) → Type 0
TryShows n built s out note =
    (s ≡ status_of_ending (trial_of built.image).ended) × GainsAll out (try_lines n built) × GainsAll note built.hex

-- what was put of what was built, with the answer that tells of it; memory may have been wanting before the first put
abbrev pub TriesBy : (n : ℕ) → Answer → Status → (out note : Change) → Type 0
TriesBy n (Ok built) s out note =
    ((s ≡ NoMemory) × IsSame out × IsSame note) ⊎ (TryShows n built s out note ⊎ ((s ≡ WriteFault) × TryFails n built out note))
TriesBy n (Err why) s out note = (s ≡ status_of_refusal why) × IsSame out × IsSame note

-- what `try` leaves: the generated text was answered, and the answer put
pub record TryBy (s : Status) (n : ℕ) (out note : Change) : Type 0 where
  pub answer : Answer
  pub says : Answers (generated n) None init_steps answer
  pub puts : TriesBy n answer s out note

-- ALL WORDS

-- what a command, or words without a meaning, leaves
abbrev pub AnswerBy : Option Command → Status → (told : Option (List File)) → (out note : Change) → Type 0
AnswerBy None s told out note = (s ≡ Usage) × IsSame out × IsSame note
AnswerBy (Some (Build file asked clock)) s told out note = BuildBy s told file asked clock out note
AnswerBy (Some (Run file script steps)) s told out note = PlayBy s told file script steps out × IsSame note
AnswerBy (Some (Sim hex script steps)) s told out note = SimBy s told hex script steps out × IsSame note
AnswerBy (Some (Why file member)) s told out note = WhyBy s told file member out × IsSame note
AnswerBy (Some (Try objects)) s told out note = TryBy s objects out note
