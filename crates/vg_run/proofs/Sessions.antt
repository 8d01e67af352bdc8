-- From the sessions of a typed program to those of the text that it is of.
use Rattle.std.proofs.Common.{◌≡◌, ℕ, List, Option, Some, subst, inl, inr}
use Rattle.vg_source.specs.Session.{Session}
use Rattle.vg_core.specs.declared.heap.Heap.{Heap}
use Rattle.vg_core.specs.declared.program.Program.{Program as TheProgram}
use Rattle.vg_core.specs.HeldProgram.{program_at}
use Rattle.vg_core.specs.Session.{session}
use Rattle.vg_script.specs.Script.{IsScript, Lists}
use Rattle.vg_front.specs.declared.starting.Start.{Start}
use Rattle.vg_front.specs.Answer.{IsStartOf}
use Rattle.vg_front.proofs.Starts.{start_tree, start_heap, tree_starts, start_sessions, start_is_start}
use Rattle.vg_run.specs.declared.playing.Played.{Played}
use Rattle.vg_run.specs.declared.playing.Played.TheVariants.{Ended, WriteFault, Refused, ScriptRefused, NoMemory}
use Rattle.vg_faults.specs.Starting.{init_steps}
use Rattle.vg_run.specs.Shown.{ForSession}
use Rattle.vg_run.specs.Answer.{Plays}
use Rattle.vg_run.specs.Mirrors.{PlaysScript}

-- the sessions of what starts
abbrev run_of : Start → ℕ → Lists → Session
run_of start steps lists = session (program_at start.program) start.heap (Some 400) lists.reads lists.interrupts steps

-- what holds of such a session holds of the text's
for_session : (bytes script : List ℕ) (steps : ℕ) (start : Start) (lists : Lists) (P : Session → Type 0) → IsStartOf bytes init_steps start
    → IsScript script lists → P (run_of start steps lists) → ForSession bytes script steps P
for_session bytes script steps start lists P is scripted h =
    record {
      tree = start_tree bytes init_steps start is;
      legal = is.legal;
      heap = start_heap bytes init_steps start is;
      starts = tree_starts bytes init_steps start is;
      lists = lists;
      scripted = scripted;
      holds = subst P (start_sessions bytes init_steps start is (Some 400) lists.reads lists.interrupts steps) h;
    }

pub played : (answer : Played) (bytes script : List ℕ) (steps : ℕ) (start : Start) (a b : Option (List ℕ)) → IsStartOf bytes init_steps start
    → PlaysScript answer script (run_of start steps) a b → Plays answer bytes script steps a b
played (Ended end) bytes script steps start a b is (lists, scripted, h) = for_session bytes script steps start lists _ is scripted h
played WriteFault bytes script steps start a b is (lists, scripted, h) = for_session bytes script steps start lists _ is scripted h
played (Refused why) bytes script steps start a b is h = absurd h
played (ScriptRefused line) bytes script steps start a b is (bad, same) = (start_is_start bytes init_steps start is, bad, same)
played NoMemory bytes script steps start a b is (inl same) = inl same
played NoMemory bytes script steps start a b is (inr (lists, scripted, h)) = inr (for_session bytes script steps start lists _ is scripted h)

-- the same of a program and a heap that are those of the start
pub played_from : (answer : Played) (bytes script : List ℕ) (steps : ℕ) (start : Start) (p : TheProgram) (h : Heap) (a b : Option (List ℕ))
    → IsStartOf bytes init_steps start → p ≡ start.program → h ≡ start.heap
    → PlaysScript answer script (λ lists. session (program_at p) h (Some 400) lists.reads lists.interrupts steps) a b → Plays answer bytes script steps a b
played_from answer bytes script steps start p h a b is same_program same_heap plays =
    played answer bytes script steps start a b is
    (subst (λ z. PlaysScript answer script (λ lists. session (program_at start.program) z (Some 400) lists.reads lists.interrupts steps) a b) same_heap
    (subst (λ z. PlaysScript answer script (λ lists. session (program_at z) h (Some 400) lists.reads lists.interrupts steps) a b) same_program plays))
