-- Entries of calls: those of a procedure that calls finders are those of the procedure as it was.
use Rattle.std.specs.Prelude.{ℕ, Bool, true, false, ◌==◌, ◌&&◌, List, ◌++◌, length, take, drop, reverse, Option, Some, None, if◌then◌else◌}
use Rattle.std.proofs.Common.{◌≡◌, refl, ap}
use Rattle.vg_lin.specs.declared.instr.Target.{Target}
use Rattle.vg_lin.specs.declared.instr.Call.{Call as Calling}
use Rattle.vg_lin.specs.Program.{Procedure}
use Rattle.vg_lin.specs.State.{Waiting, State}
use Rattle.vg_lin.specs.Meaning.{entry_with, entry_of, values, operands, same_widths, gives_to}
use Rattle.vg_lin.specs.Steps.{Entry}
use Rattle.vg_finding.specs.Finders.{with_finders}

with_same : (numbers : List (Option ℕ)) (r : ℕ) (m : Procedure) (to : Option Target) (pushed : List Waiting) (kept : State) (o : Option (List Waiting))
    → entry_with r (with_finders numbers m) to pushed kept o ≡ entry_with r m to pushed kept o
with_same numbers r m to pushed kept None = refl
with_same numbers r m to pushed kept (Some xs) = refl

pub entry_same : (numbers : List (Option ℕ)) (r : ℕ) (m : Procedure) (c : Calling) (s : State)
    → entry_of r (Some (with_finders numbers m)) c s ≡ entry_of r (Some m) c s
entry_same numbers r m c s =
    ap (λ o. if length (take c.pushed s.waiting) == c.pushed then o else None)
    (with_same numbers r m c.to (reverse (take c.pushed s.waiting)) (record s { waiting = drop c.pushed s.waiting }) (values (operands c.registers) s))

-- an entry is that of the procedure that is called
abbrev pub Enters : ℕ → Option (Entry State) → Type 0
Enters r (Some e) = e.proc ≡ r
Enters r None = Unit {0}

if_enters : (r : ℕ) (b : Bool) (o : Option (Entry State)) → Enters r o → Enters r (if b then o else None)
if_enters r true o h = h
if_enters r false o h = tt {0}

with_enters : (r : ℕ) (m : Procedure) (to : Option Target) (pushed : List Waiting) (kept : State) (o : Option (List Waiting))
    → Enters r (entry_with r m to pushed kept o)
with_enters r m to pushed kept None = tt {0}
with_enters r m to pushed kept (Some xs) =
    if_enters r ((length (pushed ++ xs) == m.params) && same_widths m.widths (pushed ++ xs) && gives_to m.result to) _ refl

pub entry_enters : (r : ℕ) (m : Procedure) (c : Calling) (s : State) → Enters r (entry_of r (Some m) c s)
entry_enters r m c s =
    if_enters r (length (take c.pushed s.waiting) == c.pushed) _
    (with_enters r m c.to (reverse (take c.pushed s.waiting)) (record s { waiting = drop c.pushed s.waiting }) (values (operands c.registers) s))
