-- What the commands `run`, `sim` and `why` leave, with the answer that tells of it.
use Rattle.std.specs.Prelude.{ℕ, ◌≡◌, ◌<◌, ◌⊎◌, List, length, Option, Some, None, Ok, Err}
use Rattle.vg_base.specs.Limits.{image_text_limit, text_limit}
use Rattle.vg_io.specs.Count.{Rose}
use Rattle.vg_io.specs.Piece.{AppendsAll, AppendsFront}
use Rattle.vg_io.specs.declared.asked.Asked.{Asked}
use Rattle.vg_io.specs.declared.file.File.{File}
use Rattle.vg_fetch.specs.Asking.{Fetched, Request}
use Rattle.vg_fetch.specs.Told.{ForFile, ForFiles}
use Rattle.vg_fetch.specs.declared.fetch.NoFile.{NoFile}
use Rattle.vg_fetch.specs.declared.fetch.NoFile.TheVariants as missing
use Rattle.vg_run.specs.Answer.{Plays}
use Rattle.vg_run.specs.declared.playing.Played.{Played}
use Rattle.vg_run.specs.declared.playing.Played.TheVariants as played
use Rattle.vg_why.specs.Answer as why
use Rattle.vg_hex.specs.HexImage.{fault_in}
use Rattle.vg_script.specs.Script.{first_bad}
use Rattle.vg_sim.specs.Shown.{ForRun, lines_of}
use Rattle.vg_sim.specs.declared.simulate.Simulated.{Simulated}
use Rattle.vg_sim.specs.declared.simulate.Simulated.TheVariants as simulated
use Rattle.vg_commands.specs.Endings.{status_of_played, status_of_refusal, status_of_simulated, status_without_file}
use Rattle.vg_status.specs.declared.status.Status.{Status}
use Rattle.vg_status.specs.declared.status.Status.TheVariants.{Done, ReadFault, WriteFault, TooLong}

-- what a call made of a sink: what the sink tells, and how often it has failed
pub record Change : Type 0 where
  pub before : Option (List ℕ)
  pub after : Option (List ℕ)
  pub faults_before : ℕ
  pub faults_after : ℕ

abbrev pub change : (before after : Option (List ℕ)) → (faults_before faults_after : ℕ) → Change
change before after faults_before faults_after =
    record { before = before; after = after; faults_before = faults_before; faults_after = faults_after }

abbrev pub IsSame : Change → Type 0
IsSame sink = sink.after ≡ sink.before

abbrev pub GainsAll : Change → List ℕ → Type 0
GainsAll sink piece = AppendsAll sink.before sink.after piece

abbrev pub GainsFront : Change → List ℕ → Type 0
GainsFront sink piece = AppendsFront sink.before sink.after piece

abbrev pub Fails : Change → Type 0
Fails sink = Rose sink.faults_before sink.faults_after

-- FILES

-- a command whose files were all given has none of the answers that tell why one is missing
abbrev pub IsBehindFiles : Status → Type 0
IsBehindFiles ReadFault = ⊥
IsBehindFiles TooLong = ⊥
IsBehindFiles _ = Unit {0}

abbrev pub TellsFiles : Option NoFile → Status → Type 0
TellsFiles (Some reason) s = s ≡ status_without_file reason
TellsFiles None s = IsBehindFiles s

-- how the requests of a command went, with the answer that tells of them
pub record FetchedBy (s : Status) (old new : List Asked) (requests : List Request) : Type 0 where
  pub reason : Option NoFile
  pub went : Fetched reason old new requests
  pub tells : TellsFiles reason s

-- a file is missing, and nothing was put
pub record FilesMissing (s : Status) (long : Type 0) (out : Change) : Type 0 where
  pub reason : NoFile
  pub tells : s ≡ status_without_file reason
  pub too_long : reason ≡ missing.Long → long
  pub out_same : IsSame out

-- RUN

-- the source text of the first file was run on the script of the second
pub record PlaysFiles (s : Status) (told : Option (List File)) (file script : List ℕ) (steps : ℕ) (out : Change) : Type 0 where
  pub text : List ℕ
  pub script_text : List ℕ
  pub whole : ForFiles told file script (λ a b. (a ≡ text) × (b ≡ script_text))
  pub answer : Played
  pub says : Plays answer text script_text steps out.before out.after
  pub cause : answer ≡ played.WriteFault → Fails out
  pub tells : s ≡ status_of_played answer

abbrev pub IsLongRun : (told : Option (List File)) → (file script : List ℕ) → Type 0
IsLongRun told file script = ForFiles told file script (λ a b. (text_limit < length a) ⊎ (image_text_limit < length b))

-- what `run` leaves
abbrev pub PlayBy : Status → (told : Option (List File)) → (file script : List ℕ) → (steps : ℕ) → (out : Change) → Type 0
PlayBy s told file script steps out = FilesMissing s (IsLongRun told file script) out ⊎ PlaysFiles s told file script steps out

-- SIM

-- what an answer to two texts says of them, and of what was put
abbrev pub Simulates : Simulated → (hex script : List ℕ) → (steps : ℕ) → (out : Change) → Type 0
Simulates (simulated.Ended end) hex script steps out = ForRun hex script steps (λ m. (end ≡ m.ended) × GainsAll out (lines_of m))
Simulates simulated.WriteFault hex script steps out = ForRun hex script steps (λ m. GainsFront out (lines_of m)) × Fails out
Simulates (simulated.HexRefused fault) hex script steps out = (fault_in hex ≡ Some fault) × IsSame out
Simulates (simulated.ScriptRefused line) hex script steps out = ((fault_in hex ≡ None) × (first_bad script ≡ Some line)) × IsSame out
Simulates simulated.NoMemory hex script steps out = IsSame out

-- the texts of the two files were run
pub record SimulatesFiles (s : Status) (told : Option (List File)) (hex script : List ℕ) (steps : ℕ) (out : Change) : Type 0 where
  pub image_text : List ℕ
  pub script_text : List ℕ
  pub whole : ForFiles told hex script (λ a b. (a ≡ image_text) × (b ≡ script_text))
  pub answer : Simulated
  pub says : Simulates answer image_text script_text steps out
  pub tells : s ≡ status_of_simulated answer

abbrev pub IsLong : (told : Option (List File)) → (hex script : List ℕ) → Type 0
IsLong told hex script = ForFiles told hex script (λ a b. (image_text_limit < length a) ⊎ (image_text_limit < length b))

-- what `sim` leaves
abbrev pub SimBy : Status → (told : Option (List File)) → (hex script : List ℕ) → (steps : ℕ) → (out : Change) → Type 0
SimBy s told hex script steps out =
    FilesMissing s (IsLong told hex script) out ⊎ SimulatesFiles s told hex script steps out

-- WHY

-- what was put of the lines, with the answer that tells of it
abbrev pub PutLines : why.Answer → Status → (out : Change) → Type 0
PutLines (Ok lines) s out = ((s ≡ Done) × GainsAll out lines) ⊎ ((s ≡ WriteFault) × GainsFront out lines × Fails out)
PutLines (Err reason) s out = (s ≡ status_of_refusal reason) × IsSame out

-- the bytes of the file were answered, and the answer put
pub record TellsFile (s : Status) (told : Option (List File)) (file member : List ℕ) (out : Change) : Type 0 where
  pub bytes : List ℕ
  pub whole : ForFile told file (λ b. b ≡ bytes)
  pub answer : why.Answer
  pub says : why.Answers bytes member answer
  pub puts : PutLines answer s out

-- what `why` leaves
abbrev pub WhyBy : Status → (told : Option (List File)) → (file member : List ℕ) → (out : Change) → Type 0
WhyBy s told file member out =
    FilesMissing s (ForFile told file (λ bytes. text_limit < length bytes)) out ⊎ TellsFile s told file member out
