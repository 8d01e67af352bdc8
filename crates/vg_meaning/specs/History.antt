-- What a run keeps of its active calls. A definition keeps all of it, an interpreter no more than it needs.
use Rattle.std.specs.Prelude.{ℕ, zero, suc, List, [], ◌∷◌, length, drop}

-- An active call is an open call of a method, by the method's number in the text, or the open making of an object or of a component.
pub data Active : Type 0 where
  Calling : (method : ℕ) → Active
  Making : Active

-- A recorder says what a history of type H becomes at a tick, when a call is opened and when it is closed, and how many calls are active.
pub record Recorder (H : Type 0) : Type 0 where
  pub tick : H → H
  pub open_call : Active → H → H
  pub close_call : H → H
  pub depth : H → ℕ

-- The whole history: each list has the newest first.
pub record History : Type 0 where
  pub active : List Active  -- the active calls
  pub behind_ticks : List (List Active)  -- the active calls behind each tick so far
  pub at_openings : List (List Active)  -- the active calls at each opening so far, with the call that is opened

-- Before a run no call is active, and none was.
abbrev pub no_history : History
no_history = record { active = []; behind_ticks = []; at_openings = [] }

-- A tick notes the calls that are active behind it.
abbrev pub note_tick : History → History
note_tick h = record h { behind_ticks = h.active ∷ h.behind_ticks }

-- An opening makes the call active, and notes it with those below it.
abbrev pub note_opening : Active → History → History
note_opening call h =
    record { active = call ∷ h.active; behind_ticks = h.behind_ticks; at_openings = (call ∷ h.active) ∷ h.at_openings }

-- A closing ends the newest call.
abbrev pub note_closing : History → History
note_closing h = record h { active = drop 1 h.active }

-- The number of active calls is the depth.
abbrev pub depth_of : History → ℕ
depth_of h = length h.active

-- The full recorder keeps the whole history: the definitions of the language use it.
abbrev pub full : Recorder History
full = record { tick = note_tick; open_call = note_opening; close_call = note_closing; depth = depth_of }

-- A tick leaves the depth as it is.
abbrev pub same_depth : ℕ → ℕ
same_depth d = d

-- A call that is opened is one more.
abbrev pub one_more : Active → ℕ → ℕ
one_more call d = suc d

-- A call that is closed is one less.
abbrev pub one_less : ℕ → ℕ
one_less zero = zero
one_less (suc d) = d

-- The small recorder keeps the depth alone: an interpreter uses it.
abbrev pub depth_alone : Recorder ℕ
depth_alone = record { tick = same_depth; open_call = one_more; close_call = one_less; depth = same_depth }
