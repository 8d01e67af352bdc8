-- What live methods ask for by dispatch.
use Rattle.std.specs.Prelude.{ℕ, suc, ◌==◌, ◌&&◌, ◌||◌, Bool, false, List, [], ◌∷◌, ◌++◌, is_some, Option, Some, None, if◌then◌else◌}
use Rattle.vg_core.specs.declared.step.Step.{Step}
use Rattle.vg_core.specs.Program.{Program}
use Rattle.vg_live.specs.declared.live_set.Reason.{Reason}
use Rattle.vg_live.specs.Uses.{asked, steps_of}
use Rattle.vg_live.specs.Uses as uses
use Rattle.vg_pack_code.specs.declared.plan.Asked.{Asked}

-- The steps of a method, if it is live.
abbrev pub steps_if : Program → (live : Bool) → (m : ℕ) → List Step
steps_if p live m = if live then steps_of p m else []

-- The steps of the live methods from m on, in order of the text.
abbrev pub steps_from : Program → (m : ℕ) → List (Option Reason) → List Step
steps_from p m [] = []
steps_from p m (r ∷ rs) = steps_if p (is_some r) m ++ steps_from p (suc m) rs

-- A selector is asked for on a class.
abbrev pub is_there : List Asked → (class selector : ℕ) → Bool
is_there [] c s = false
is_there (a ∷ rest) c s = ((a.class == c) && (a.selector == s)) || is_there rest c s

-- A pair behind others, unless it is among them.
abbrev pub with_pair : List Asked → (class selector : ℕ) → List Asked
with_pair xs c s = if is_there xs c s then xs else xs ++ record { class = c; selector = s } ∷ []

-- What a step asks for, behind others.
abbrev pub with_asked : List Asked → Option uses.Asked → List Asked
with_asked xs (Some a) = with_pair xs a.class a.selector
with_asked xs None = xs

abbrev pub asked_view : (class selector : ℕ) → Option uses.Asked
asked_view c s = Some (record { class = c; selector = s })

-- What these steps ask for behind others, each pair once, in order of the first step that asks.
abbrev pub asked_from : List Asked → List Step → List Asked
asked_from xs [] = xs
asked_from xs (s ∷ ss) = asked_from (with_asked xs (asked s)) ss
