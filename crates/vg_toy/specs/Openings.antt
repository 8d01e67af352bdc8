-- The calls that are opened: those of methods that the program has.
use Rattle.std.specs.Prelude.{◌<◌, List, length}
use Rattle.std.specs.List.{AllByRecursion}
use Rattle.vg_meaning.specs.History.{Active, Calling, Making, History}
use Rattle.vg_toy.specs.Language.{Method}

-- An active call is that of a method of these.
abbrev pub IsOfMethod : List Method → Active → Type 0
IsOfMethod methods (Calling place) = place < length methods
IsOfMethod methods Making = ⊥

abbrev pub AreOfMethods : List Method → List Active → Type 0
AreOfMethods methods = AllByRecursion (IsOfMethod methods)

-- At each opening so far all active calls were of methods.
abbrev pub OpensMethods : List Method → History → Type 0
OpensMethods methods h = AllByRecursion (AreOfMethods methods) h.at_openings
