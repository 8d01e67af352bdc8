-- The entry of a procedure that is called. (Mirrors of the code.)
use Rattle.std.specs.Prelude.{◌≡◌, ℕ, Bool, ◌==◌, ◌&&◌, List, length, drop, Option, Some, None}
use Rattle.vg_lin.specs.declared.instr.Call.{Call}
use Rattle.vg_lin.specs.declared.instr.Target.{Target}
use Rattle.vg_lin.specs.Program.{Procedure}
use Rattle.vg_lin.specs.State.{Waiting, State}
use Rattle.vg_lin.specs.Steps.{Entry}
use Rattle.vg_lin.specs.Meaning.{same_widths, gives_to, entry_by}
use Rattle.vg_lin_machine.specs.declared.calls.Entered.{Entered}

-- A procedure takes these arguments, and gives back what is wanted.
abbrev pub takes : Procedure → List Waiting → Option Target → Bool
takes m xs to = (length xs == m.params) && same_widths m.widths xs && gives_to m.result to

-- The entry with these arguments, where there are so many.
abbrev pub entry_with : (q : ℕ) → Procedure → Call → State → Option (List Waiting) → Option (Entry State)
entry_with q m c s (Some xs) = entry_by q m c.to (record s { waiting = drop c.pushed s.waiting }) xs
entry_with q m c s None = None

-- What is entered, where the caller keeps a state; where nothing is, its state is as before.
abbrev pub Enters : Option Entered → Option (Entry State) → (before kept : State) → Type 0
Enters (Some e) entry s t = entry ≡ Some (record { proc = e.proc; state = e.state; kept = t })
Enters None entry s t = (entry ≡ None) × (t ≡ s)
