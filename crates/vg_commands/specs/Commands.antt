-- What a command asks the shelf for, what is said of its files, and what its answers may be.
use Rattle.std.specs.Prelude.{ℕ, ◌≡◌, List, [], ◌∷◌, Option, Some, None}
use Rattle.vg_base.specs.Limits.{image_text_limit, text_limit}
use Rattle.vg_words.specs.Commands.{Command, Build, Run, Sim, Why, Try}
use Rattle.vg_fetch.specs.Asking.{Request}
use Rattle.vg_faults.specs.declared.fault.Fault.TheVariants.{Allocates, StaticFull, TableFull, StackFull, CodeFull, NoMember, NotBuilt}
use Rattle.vg_faults.specs.Starting.{init_steps as default_steps}
use Rattle.vg_status.specs.declared.status.Status.{Status}
use Rattle.vg_status.specs.declared.status.Status.TheVariants.{Done, Refused, Usage, ReadFault, WriteFault, NoMemory, TooLong, Depth, HexRefused, ScriptRefused, BadInstruction}
use Rattle.vg_status.specs.Statuses.{IsBeforeLines, IsBeforePuts}

-- `build FILE` and `why FILE MEMBER` ask for FILE, `run FILE SCRIPT` for FILE and then SCRIPT, and `sim HEX SCRIPT` for HEX and then SCRIPT, each with its limit;
-- `try N` asks for nothing
abbrev pub requests_of : Option Command → List Request
requests_of None = []
requests_of (Some (Build file asked init_steps)) = record { name = file; limit = text_limit } ∷ []
requests_of (Some (Run file script steps)) =
    record { name = file; limit = text_limit } ∷ record { name = script; limit = image_text_limit } ∷ []
requests_of (Some (Sim hex script steps)) =
    record { name = hex; limit = image_text_limit } ∷ record { name = script; limit = image_text_limit } ∷ []
requests_of (Some (Why file member)) = record { name = file; limit = text_limit } ∷ []
requests_of (Some (Try objects)) = []

-- where the command is `build`: P holds of its file, of the stack that it asks for, or none, and of the clock of its initialisation
abbrev pub OnBuild : Option Command → (P : (file : List ℕ) → (asked : Option ℕ) → (clock : ℕ) → Type 0) → Type 0
OnBuild (Some (Build file asked init_steps)) P = P file asked init_steps
OnBuild _ P = Unit {0}

-- where the command is `run`: P holds of its two files and of its steps
abbrev pub OnRun : Option Command → (P : (file script : List ℕ) → ℕ → Type 0) → Type 0
OnRun (Some (Run file script steps)) P = P file script steps
OnRun _ P = Unit {0}

-- where the command reads a source text: P holds of its file and of the clock of its initialisation
abbrev pub OnSource : Option Command → (P : (file : List ℕ) → (clock : ℕ) → Type 0) → Type 0
OnSource (Some (Build file asked init_steps)) P = P file init_steps
OnSource (Some (Run file script steps)) P = P file default_steps
OnSource (Some (Why file member)) P = P file default_steps
OnSource _ P = Unit {0}

-- where the command asks what of a source text is live: P holds of its file and of the clock of its initialisation
abbrev pub OnLive : Option Command → (P : (file : List ℕ) → (clock : ℕ) → Type 0) → Type 0
OnLive (Some (Build file asked init_steps)) P = P file init_steps
OnLive (Some (Why file member)) P = P file default_steps
OnLive _ P = Unit {0}

-- where the command is `why`: P holds of its file and of its member
abbrev pub OnWhy : Option Command → (P : (file member : List ℕ) → Type 0) → Type 0
OnWhy (Some (Why file member)) P = P file member
OnWhy _ P = Unit {0}

-- where the command is `sim`: P holds of its two files and of its steps
abbrev pub OnSim : Option Command → (P : (hex script : List ℕ) → ℕ → Type 0) → Type 0
OnSim (Some (Sim hex script steps)) P = P hex script steps
OnSim _ P = Unit {0}

-- where the command is `try`: P holds of its number of objects
abbrev pub OnTry : Option Command → (P : (objects : ℕ) → Type 0) → Type 0
OnTry (Some (Try objects)) P = P objects
OnTry _ P = Unit {0}

abbrev pub IsAnswerOfBuild : Status → Type 0
IsAnswerOfBuild Done = Unit {0}
IsAnswerOfBuild (Refused NoMember) = ⊥
IsAnswerOfBuild (Refused fault) = Unit {0}
IsAnswerOfBuild ReadFault = Unit {0}
IsAnswerOfBuild WriteFault = Unit {0}
IsAnswerOfBuild NoMemory = Unit {0}
IsAnswerOfBuild TooLong = Unit {0}
IsAnswerOfBuild _ = ⊥

abbrev pub IsAnswerOfRun : Status → Type 0
IsAnswerOfRun (Refused (Allocates place line)) = ⊥
IsAnswerOfRun (Refused (StaticFull need)) = ⊥
IsAnswerOfRun (Refused (TableFull need)) = ⊥
IsAnswerOfRun (Refused (StackFull need left)) = ⊥
IsAnswerOfRun (Refused (CodeFull words)) = ⊥
IsAnswerOfRun (Refused NoMember) = ⊥
IsAnswerOfRun (Refused (NotBuilt place)) = ⊥
IsAnswerOfRun Usage = ⊥
IsAnswerOfRun (HexRefused fault) = ⊥
IsAnswerOfRun (BadInstruction pc word) = ⊥
IsAnswerOfRun _ = Unit {0}

abbrev pub IsAnswerOfSim : Status → Type 0
IsAnswerOfSim (Refused fault) = ⊥
IsAnswerOfSim Usage = ⊥
IsAnswerOfSim Depth = ⊥
IsAnswerOfSim _ = Unit {0}

abbrev pub IsAnswerOfWhy : Status → Type 0
IsAnswerOfWhy Done = Unit {0}
IsAnswerOfWhy (Refused (StaticFull need)) = ⊥
IsAnswerOfWhy (Refused (TableFull need)) = ⊥
IsAnswerOfWhy (Refused (StackFull need left)) = ⊥
IsAnswerOfWhy (Refused (CodeFull words)) = ⊥
IsAnswerOfWhy (Refused (NotBuilt place)) = ⊥
IsAnswerOfWhy (Refused fault) = Unit {0}
IsAnswerOfWhy ReadFault = Unit {0}
IsAnswerOfWhy WriteFault = Unit {0}
IsAnswerOfWhy NoMemory = Unit {0}
IsAnswerOfWhy TooLong = Unit {0}
IsAnswerOfWhy _ = ⊥

-- what is refused is refused as by `build`
abbrev pub IsAnswerOfTry : Status → Type 0
IsAnswerOfTry (Refused fault) = IsAnswerOfBuild (Refused fault)
IsAnswerOfTry Usage = ⊥
IsAnswerOfTry ReadFault = ⊥
IsAnswerOfTry TooLong = ⊥
IsAnswerOfTry Depth = ⊥
IsAnswerOfTry (HexRefused fault) = ⊥
IsAnswerOfTry (ScriptRefused line) = ⊥
IsAnswerOfTry _ = Unit {0}

-- the answers that a command may have; words without a meaning have one
abbrev pub IsAnswerOf : Option Command → Status → Type 0
IsAnswerOf None s = s ≡ Usage
IsAnswerOf (Some (Build file asked init_steps)) s = IsAnswerOfBuild s
IsAnswerOf (Some (Run file script steps)) s = IsAnswerOfRun s
IsAnswerOf (Some (Sim hex script steps)) s = IsAnswerOfSim s
IsAnswerOf (Some (Why file member)) s = IsAnswerOfWhy s
IsAnswerOf (Some (Try objects)) s = IsAnswerOfTry s

-- nothing was put to the first sink
abbrev pub PutsNothing : Option Command → Status → Type 0
PutsNothing (Some (Run file script steps)) s = IsBeforeLines s
PutsNothing _ s = IsBeforePuts s
