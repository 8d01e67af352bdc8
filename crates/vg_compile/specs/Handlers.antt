-- Handlers that receive nothing.
use Rattle.std.specs.Prelude.{ℕ, ◌≡◌, List, Some}
use Rattle.std.specs.List.{AllByRecursion}
use Rattle.vg_lin.specs.Program.{Procedure}
use Rattle.vg_link.specs.declared.unlinked.Handler.{Handler}
use Rattle.vg_link.specs.declared.unlinked.Unlinked.{Unlinked}
use Rattle.vg_link.specs.Linking.{CanHandle, handler_in}

-- the procedure that these handlers have for a vector, if any, is one that an interrupt can call
abbrev pub CanAnswer : List Procedure → List Handler → (vector : ℕ) → Type 0
CanAnswer ms hs v = (m : ℕ) → handler_in hs v ≡ Some m → CanHandle ms m

-- so it is for the vectors of some of them
abbrev pub AllCanAnswer : List Procedure → (all some : List Handler) → Type 0
AllCanAnswer ms all = AllByRecursion (λ h. CanAnswer ms all h.vector)

-- and for those of all
abbrev pub AllCanHandle : List Procedure → List Handler → Type 0
AllCanHandle ms hs = AllCanAnswer ms hs hs

-- the handlers of what is to be linked receive nothing
abbrev pub HandlersReceiveNothing : Unlinked → Type 0
HandlersReceiveNothing u = AllCanHandle u.procedures u.handlers
