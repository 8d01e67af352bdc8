-- Exactly which source texts are refused, by each command that reads one.
use Rattle.std.proofs.Common.{◌≡◌, ℕ, ◌↔◌, List, Option}
use Rattle.vg_base.specs.declared.place.Place.{Place}
use Rattle.vg_io.specs.declared.file.File.{File}
use Rattle.vg_words.specs.Commands.{Command}
use Rattle.vg_fetch.specs.Told.{ForFile}
use Rattle.vg_faults.specs.declared.fault.Fault.{Fault}
use Rattle.vg_faults.specs.declared.fault.Fault.TheVariants.{NoTree, TooDeep, TooMany, Broken, InitTrap, InitSteps, InitDepth, InitTouches, InitTooBig, Allocates, StaticFull, TableFull}
use Rattle.vg_faults.specs.declared.fault.Fault.TheVariants.{StackFull, CodeFull, NoMember, NotBuilt}
use Rattle.vg_faults.specs.Faults.{HasFault, IsOfInit}
use Rattle.vg_faults.specs.Starting.{FailsIn, init_steps}
use Rattle.vg_faults.specs.Living.{AllocatesIn}
use Rattle.vg_build.specs.Answer as of_build
use Rattle.vg_build.proofs.Faults.{IsExact}
use Rattle.vg_commands.specs.Asked as of_why
use Rattle.vg_status.specs.declared.status.Status.{Status}
use Rattle.vg_status.specs.declared.status.Status.TheVariants.{Refused}
use Rattle.vg_commands.specs.Commands.{OnLive, OnSource}
use Rattle.vg_commands.specs.Leaves.{Change}
use Rattle.vg_drive.specs.Mirrors.{AnswerBy}
use Rattle.vg_status.specs.Statuses.{IsSettled}
use Rattle.vg_drive.proofs.Builds as builds
use Rattle.vg_commands.proofs.Plays as plays
use Rattle.vg_commands.proofs.Whys as whys
use Rattle.vg_drive.proofs.Commands.{on_live, on_source, with_source}
use Rattle.vg_commands.proofs.Files.{with_file}

-- a fault that every command answers
abbrev pub IsOfText : Fault → Type 0
IsOfText (Allocates p line) = ⊥
IsOfText (StaticFull need) = ⊥
IsOfText (TableFull need) = ⊥
IsOfText (StackFull need left) = ⊥
IsOfText (CodeFull words) = ⊥
IsOfText NoMember = ⊥
IsOfText (NotBuilt p) = ⊥
IsOfText _ = Unit {0}

-- `build` has it where the text has it
of_text : (why : Fault) (s : Status) (bytes : List ℕ) (asked : Option ℕ) (clock : ℕ) → IsOfText why
    → (IsExact why → (s ≡ Refused why) ↔ of_build.HasFault why bytes asked clock)
    → (s ≡ Refused why) ↔ HasFault why bytes clock
of_text (NoTree p) s bytes asked clock is f = f tt
of_text (TooDeep p) s bytes asked clock is f = f tt
of_text (TooMany what limit p) s bytes asked clock is f = f tt
of_text (Broken rule p) s bytes asked clock is f = f tt
of_text (InitTrap code p) s bytes asked clock is f = f tt
of_text InitSteps s bytes asked clock is f = f tt
of_text InitDepth s bytes asked clock is f = f tt
of_text (InitTouches address) s bytes asked clock is f = f tt
of_text InitTooBig s bytes asked clock is f = f tt
of_text (Allocates p line) s bytes asked clock is f = absurd is
of_text (StaticFull need) s bytes asked clock is f = absurd is
of_text (TableFull need) s bytes asked clock is f = absurd is
of_text (StackFull need left) s bytes asked clock is f = absurd is
of_text (CodeFull words) s bytes asked clock is f = absurd is
of_text NoMember s bytes asked clock is f = absurd is
of_text (NotBuilt p) s bytes asked clock is f = absurd is

-- and `why` too
of_asked : (why : Fault) (s : Status) (bytes member : List ℕ) → IsOfText why → (s ≡ Refused why) ↔ of_why.HasFault why bytes member
    → (s ≡ Refused why) ↔ HasFault why bytes init_steps
of_asked (NoTree p) s bytes member asked f = f
of_asked (TooDeep p) s bytes member asked f = f
of_asked (TooMany what limit p) s bytes member asked f = f
of_asked (Broken rule p) s bytes member asked f = f
of_asked (InitTrap code p) s bytes member asked f = f
of_asked InitSteps s bytes member asked f = f
of_asked InitDepth s bytes member asked f = f
of_asked (InitTouches address) s bytes member asked f = f
of_asked InitTooBig s bytes member asked f = f
of_asked (Allocates p line) s bytes member asked f = absurd asked
of_asked (StaticFull need) s bytes member asked f = absurd asked
of_asked (TableFull need) s bytes member asked f = absurd asked
of_asked (StackFull need left) s bytes member asked f = absurd asked
of_asked (CodeFull words) s bytes member asked f = absurd asked
of_asked NoMember s bytes member asked f = absurd asked
of_asked (NotBuilt p) s bytes member asked f = absurd asked

-- exactly the faults of a text are named
abbrev pub Exactly : Status → List ℕ → ℕ → Type 0
Exactly s bytes clock = (why : Fault) → IsOfText why → (s ≡ Refused why) ↔ HasFault why bytes clock

pub exactly_of : (c : Option Command) (s : Status) (told : Option (List File)) (out note : Change) → AnswerBy c s told out note → IsSettled s
    → OnSource c (λ file clock. ForFile told file (λ bytes. Exactly s bytes clock))
exactly_of c s told out note h settled =
    on_source c s told out note (λ file clock. ForFile told file (λ bytes. Exactly s bytes clock)) h
    (λ file asked clock b. with_file told file _ (λ bytes. Exactly s bytes clock) (λ bytes f why is. of_text why s bytes asked clock is (f why))
    (builds.exactly_by s told file asked clock out note b settled))
    (λ file script steps p. with_file told file _ (λ bytes. Exactly s bytes init_steps) (λ bytes f why asked. f why)
    (plays.exactly_by s told file script steps out p settled))
    (λ file member w. with_file told file _ (λ bytes. Exactly s bytes init_steps) (λ bytes f why asked. of_asked why s bytes member asked (f why))
    (whys.exactly_by s told file member out w settled))

-- exactly the texts whose live methods make something are refused so, and the line says which does and where
abbrev pub AllocatesSo : Status → List ℕ → ℕ → Type 0
AllocatesSo s bytes clock = (place : Place) (line : List ℕ) → (s ≡ Refused (Allocates place line)) ↔ AllocatesIn bytes clock place line

pub allocates_of : (c : Option Command) (s : Status) (told : Option (List File)) (out note : Change) → AnswerBy c s told out note → IsSettled s
    → OnLive c (λ file clock. ForFile told file (λ bytes. AllocatesSo s bytes clock))
allocates_of c s told out note h settled =
    on_live c s told out note (λ file clock. ForFile told file (λ bytes. AllocatesSo s bytes clock)) h
    (λ file asked clock b. with_file told file _ (λ bytes. AllocatesSo s bytes clock) (λ bytes f place line. f (Allocates place line) tt)
    (builds.exactly_by s told file asked clock out note b settled))
    (λ file member w. with_file told file _ (λ bytes. AllocatesSo s bytes init_steps) (λ bytes f place line. f (Allocates place line))
    (whys.exactly_by s told file member out w settled))

-- what follows of each text
pub source_is : (c : Option Command) (s : Status) (told : Option (List File)) (Q : List ℕ → ℕ → Type 0)
    → ((bytes : List ℕ) (clock : ℕ) → Exactly s bytes clock → Q bytes clock)
    → OnSource c (λ file clock. ForFile told file (λ bytes. Exactly s bytes clock)) → OnSource c (λ file clock. ForFile told file (λ bytes. Q bytes clock))
source_is c s told Q f h =
    with_source c (λ file clock. ForFile told file (λ bytes. Exactly s bytes clock)) (λ file clock. ForFile told file (λ bytes. Q bytes clock))
    (λ file clock k. with_file told file (λ bytes. Exactly s bytes clock) (λ bytes. Q bytes clock) (λ bytes e. f bytes clock e) k) h

pub init_is : (s : Status) (bytes : List ℕ) (clock : ℕ) → Exactly s bytes clock → (why : Fault) → IsOfInit why
    → (s ≡ Refused why) ↔ FailsIn bytes clock why
init_is s bytes clock f (NoTree p) asked = absurd asked
init_is s bytes clock f (TooDeep p) asked = absurd asked
init_is s bytes clock f (TooMany what limit p) asked = absurd asked
init_is s bytes clock f (Broken rule p) asked = absurd asked
init_is s bytes clock f (InitTrap code p) asked = f (InitTrap code p) tt
init_is s bytes clock f InitSteps asked = f InitSteps tt
init_is s bytes clock f InitDepth asked = f InitDepth tt
init_is s bytes clock f (InitTouches address) asked = f (InitTouches address) tt
init_is s bytes clock f InitTooBig asked = f InitTooBig tt
init_is s bytes clock f (Allocates p line) asked = absurd asked
init_is s bytes clock f (StaticFull need) asked = absurd asked
init_is s bytes clock f (TableFull need) asked = absurd asked
init_is s bytes clock f (StackFull need left) asked = absurd asked
init_is s bytes clock f (CodeFull words) asked = absurd asked
init_is s bytes clock f NoMember asked = absurd asked
init_is s bytes clock f (NotBuilt p) asked = absurd asked
