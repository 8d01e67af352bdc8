-- A language of four steps. Its state is the list of the values that wait, the newest first.
use Rattle.std.specs.Prelude.{ℕ, zero, suc, ◌==◌, not, List, [], ◌∷◌, Option, Some, None, slice_get, if◌then◌else◌}
use Rattle.vg_toy.specs.declared.program.Step.{Step}
use Rattle.vg_toy.specs.declared.program.Step.TheVariants.{Number, Read, Write, Call}
use Rattle.vg_meaning.specs.History.{Calling, Recorder}
use Rattle.vg_meaning.specs.Answer.{OutOfClock, Wrong, Gives, Piece, go_on, over}
use Rattle.vg_meaning.specs.Calls.{opened, returned}
use Rattle.vg_meaning.specs.Loops.{Test, Tested, Untested}
use Rattle.vg_meaning.specs.Devices.{read_device, write_device}
use Rattle.vg_meaning.specs.Code.{Code, performed}

-- A method has a name and a body, and works on the values of its caller.
pub record Method : Type 0 where
  pub name : ℕ
  pub body : Code Step

-- A value is put in front of those that wait.
abbrev pub put : {H : Type 0} → ℕ → Piece (List ℕ) H
put value s w = Gives (value ∷ s) w

-- The newest value is taken away.
abbrev pub taking : {H : Type 0} → (ℕ → Piece (List ℕ) H) → Piece (List ℕ) H
taking go [] w = over Wrong [] w
taking go (value ∷ s) w = go value s w

-- A truth value is a number other than 0.
abbrev pub truth : List ℕ → Test (List ℕ)
truth [] = Untested
truth (value ∷ s) = Tested (not (value == 0)) s

-- What a step does, where `find` gives the place of the method that a call names, and `call` calls the method at a place.
abbrev pub step : {H : Type 0} → (ℕ → ℕ) → (ℕ → Piece (List ℕ) H) → Step → Piece (List ℕ) H
step find call (Number value) = put value
step find call (Read address) = read_device address put
step find call (Write address) = taking (write_device address)
step find call (Call name) = call (find name)

-- What is done with a method, where there is one.
abbrev pub with_method : {H : Type 0} → (Method → Piece (List ℕ) H) → Piece (List ℕ) H → Option Method → Piece (List ℕ) H
with_method go otherwise (Some m) = go m
with_method go otherwise None = otherwise

-- The call of the method at a place: calls are at most n deep, where n is at least the ticks that are left.
abbrev pub called : {H : Type 0} → Recorder H → (ℕ → ℕ) → List Method → ℕ → ℕ → Piece (List ℕ) H
called r find methods zero place s w = over OutOfClock s w
called r find methods (suc n) place s w =
    with_method
    (λ m. opened r (Calling place) (λ s1 w1. returned (performed r (step find (called r find methods n)) truth m.body s1 w1) go_on))
    (over Wrong) (slice_get methods place) s w

-- The place of the first method of a name, or the number of methods.
abbrev pub place_of : List Method → ℕ → ℕ
place_of [] name = 0
place_of (m ∷ methods) name = if m.name == name then 0 else suc (place_of methods name)

-- In a program whose calls are by place, a call names the place itself.
abbrev pub itself : ℕ → ℕ
itself place = place
