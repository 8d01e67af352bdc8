-- What the words of a command line mean.
--
-- The first word is the command. Behind it stand options and plain words in any order. A command takes exactly so many
-- plain words, and the options that its line names, each at most once. Words that no command takes mean nothing.
use Rattle.std.specs.Prelude.{ℕ, ◌≤◌, ◌&&◌, Bool, true, false, List, [], ◌∷◌, Option, Some, None, IfSome, option_map}
use Rattle.std.specs.Prelude.{if◌then◌else◌, map, String, string_bytes, codes}
use Rattle.std.specs.Global.{Global}
use Rattle.std.specs.List.{list_any}
use Rattle.std.specs.Str.{bytes_eq}
use Rattle.vg_words.specs.Items.{Item, Plain, Set, Bare, items, one, two, plain_words, values_of}
use Rattle.vg_words.specs.Numbers.{number}

-- the words, each as its bytes
abbrev pub words_in : List (String Global) → List (List ℕ)
words_in = map string_bytes

-- what a command line asks for
pub data Command : Type 0 where
  Build : (file : List ℕ) (stack : Option ℕ) (init_steps : ℕ) → Command
  Run : (file script : List ℕ) (steps : ℕ) → Command
  Sim : (hex script : List ℕ) (steps : ℕ) → Command
  Why : (file member : List ℕ) → Command
  Try : (objects : ℕ) → Command

-- whether each option is one of these and has a value
abbrev pub knows : List (List ℕ) → List Item → Bool
knows names [] = true
knows names (Plain word ∷ more) = knows names more
knows names (Set name value ∷ more) = list_any (bytes_eq name) names && knows names more
knows names (Bare name ∷ more) = false

-- an option that stands at most once: what stands for it where it is absent, and what its value says
abbrev pub at_most_once : {A : Type 0} → Option A → (List ℕ → Option A) → List (List ℕ) → Option A
at_most_once absent read [] = absent
at_most_once absent read (value ∷ []) = read value
at_most_once absent read (value ∷ again ∷ more) = None

-- `--steps N`: N from 1 to 1,000,000,000 in at most ten digits, and 10,000,000 where it is absent
abbrev pub steps_in : List Item → Option ℕ
steps_in given = at_most_once (Some 10000000) (number 10 1000000000) (values_of (codes "--steps") given)

-- `--init-steps N`: N from 1 to 100,000,000 in at most nine digits, and 1,000,000 where it is absent
abbrev pub init_steps_in : List Item → Option ℕ
init_steps_in given = at_most_once (Some 1000000) (number 9 100000000) (values_of (codes "--init-steps") given)

-- `--stack N`: N from 1 to 4096 in at most nine digits, and no stack is asked for where it is absent
abbrev pub stack_value : List ℕ → Option (Option ℕ)
stack_value text = option_map Some (number 9 4096 text)

abbrev pub stack_in : List Item → Option (Option ℕ)
stack_in given = at_most_once (Some None) stack_value (values_of (codes "--stack") given)

-- `build FILE`, with `--stack N` and `--init-steps N`
abbrev pub build_with : Option (List ℕ) → Option (Option ℕ) → Option ℕ → Option Command
build_with (Some file) (Some stack) (Some init_steps) = Some (Build file stack init_steps)
build_with _ _ _ = None

abbrev pub build_of : List Item → Option Command
build_of given =
    if knows (codes "--stack" ∷ codes "--init-steps" ∷ []) given
    then build_with (one (plain_words given)) (stack_in given) (init_steps_in given)
    else None

-- two plain words, of which the second is a script, with `--steps N`
abbrev pub two_with : Option (List ℕ × List ℕ) → Option ℕ → Option (List ℕ × List ℕ × ℕ)
two_with (Some files) (Some steps) = Some (files.0, files.1, steps)
two_with _ _ = None

abbrev pub on_script : List Item → Option (List ℕ × List ℕ × ℕ)
on_script given = if knows (codes "--steps" ∷ []) given then two_with (two (plain_words given)) (steps_in given) else None

-- `run FILE SCRIPT`, with `--steps N`
abbrev pub run_of : List Item → Option Command
run_of given = option_map (λ w. Run w.0 w.1 w.2) (on_script given)

-- `sim HEX SCRIPT`, with `--steps N`
abbrev pub sim_of : List Item → Option Command
sim_of given = option_map (λ w. Sim w.0 w.1 w.2) (on_script given)

-- `why FILE MEMBER`, without an option
abbrev pub why_of : List Item → Option Command
why_of given = if knows [] given then option_map (λ w. Why w.0 w.1) (two (plain_words given)) else None

-- the objects of `try N`, where N stands: from 1 to 500 in at most nine digits
abbrev pub objects_in : Option (List ℕ) → Option ℕ
objects_in None = None
objects_in (Some text) = number 9 500 text

-- `try N`, without an option
abbrev pub try_of : List Item → Option Command
try_of given = if knows [] given then option_map Try (objects_in (one (plain_words given))) else None

-- the command of all words
abbrev pub command_of : List (List ℕ) → Option Command
command_of [] = None
command_of (name ∷ words) =
    if bytes_eq name (codes "build") then build_of (items words)
    else if bytes_eq name (codes "run") then run_of (items words)
    else if bytes_eq name (codes "sim") then sim_of (items words)
    else if bytes_eq name (codes "why") then why_of (items words)
    else if bytes_eq name (codes "try") then try_of (items words)
    else None

-- the steps of a command are within their range
abbrev pub HasSteps : Command → Type 0
HasSteps (Build file stack init_steps) = (1 ≤ init_steps) × (init_steps ≤ 100000000)
HasSteps (Run file script steps) = (1 ≤ steps) × (steps ≤ 1000000000)
HasSteps (Sim hex script steps) = (1 ≤ steps) × (steps ≤ 1000000000)
HasSteps (Why file member) = Unit {0}
HasSteps (Try objects) = Unit {0}

-- the stack that a command asks for, if it does, is within its range
abbrev pub HasStack : Command → Type 0
HasStack (Build file stack init_steps) = IfSome stack (λ bytes. (1 ≤ bytes) × (bytes ≤ 4096))
HasStack _ = Unit {0}

-- the objects that a command asks for, if it does, are within their range
abbrev pub HasObjects : Command → Type 0
HasObjects (Try objects) = (1 ≤ objects) × (objects ≤ 500)
HasObjects _ = Unit {0}
