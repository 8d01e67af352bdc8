-- A program whose main writes constants, by the language's meaning. The writes go by induction on their list, the interrupts on theirs;
-- what is known of the program is put in place of its parts, one equation at a time, and the rest computes.
use Rattle.std.specs.Prelude.{ℕ, zero, suc, List, [], ◌∷◌, ◌++◌, length, map, Option, Some, None}
use Rattle.std.proofs.Common.{◌≡◌, refl, sym, ap, ◌∙◌}
use Rattle.std.proofs.lemmas.List.{append-nil, append_assoc}
use Rattle.vg_meaning.specs.declared.event.Event.{Event}
use Rattle.vg_meaning.specs.declared.event.Event.TheVariants.{Enter}
use Rattle.vg_first_text.specs.declared.device_write.DeviceWrite.{DeviceWrite}
use Rattle.vg_first_text.specs.FirstSession.{write_event, first_session}
use Rattle.vg_meaning.specs.History.{History, Calling, Making, no_history, full, note_closing}
use Rattle.vg_meaning.specs.World.{World, Running}
use Rattle.vg_meaning.specs.Answer.{Done, OutOfRoom, Over, Answer, Gives, Ends, go_on, and_then, passes, unless}
use Rattle.vg_meaning.specs.Calls.{closed, note_call, opened, returned}
use Rattle.vg_meaning.specs.Interrupts.{idles}
use Rattle.vg_meaning.specs.Code.{Code, Nothing, Then, Do, performed}
use Rattle.vg_source.specs.Names.{Name}
use Rattle.vg_source.specs.Values.{Raw, Null, Heap, FieldValue, stored_values}
use Rattle.vg_source.specs.Steps.{Step, Put, SetRegister, Target, Start, Routine, Source}
use Rattle.vg_source.specs.State.{State, find_called, handler_of, entered}
use Rattle.vg_source.specs.Meaning.{Caller, put, taking, with_found, step, truth}
use Rattle.vg_source.specs.Session.{activity, back_in, literal_cell, start_all, starting_world, start_of, Initialised, run_routine, called, call_alone}
use Rattle.vg_source.specs.Session.{handled, handle, with_heap, running, running_world, Started, started, Session, session, session_of}
use Rattle.vg_first_laws.specs.Trees.{empty_heap}

-- the code of an assignment, and of all of them
abbrev pub write_code : DeviceWrite → Code Step
write_code w = Then (Then Nothing Nothing) (Then (Do (Put (Raw 8 w.value))) (Do (SetRegister w.address)))

abbrev pub writes_code : List DeviceWrite → Code Step
writes_code [] = Nothing
writes_code (w ∷ ws) = Then (write_code w) (writes_code ws)

-- the world of a run with this clock, history, outside and trace
abbrev pub during : (clock : ℕ) → History → (reads interrupts : List ℕ) → List Event → World History
during clock h reads interrupts t =
    record {
      phase =
          Running;
      deepest = None;
      largest = None;
      clock = clock;
      outside = record { reads = reads; interrupts = interrupts; trace = t };
      history = h;
    }

-- the writes are made in order
writes_do : (p : Source) (call : Caller History) (ws : List DeviceWrite) (s : State) (c : ℕ) (h : History) (reads ints : List ℕ) (t : List Event)
    → performed full (step p call) truth (writes_code ws) s (during c h reads ints t) ≡ Gives s (during c h reads ints (t ++ map write_event ws))
writes_do p call [] s c h reads ints t = ap (λ x. Gives s (during c h reads ints x)) (sym (append-nil t))
writes_do p call (w ∷ ws) s c h reads ints t =
    writes_do p call ws s c h reads ints (t ++ write_event w ∷ []) ∙ ap (λ x. Gives s (during c h reads ints x))
    (append_assoc t (write_event w ∷ []) (map write_event ws))

-- each interrupt is taken, and none has a handler
idles_do : (p : Source) → ((k : ℕ) → handler_of p.handlers k ≡ None) → (ks : List ℕ) (s : State) (c : ℕ) (h : History) (reads : List ℕ) (t : List Event)
    → idles (length ks) (handle full p) s (during c h reads ks t) ≡ Ends (Over Done) s (during c h reads [] (t ++ map Enter ks))
idles_do p none [] s c h reads t = ap (λ x. Ends (Over Done) s (during c h reads [] x)) (sym (append-nil t))
idles_do p none (k ∷ ks) s c h reads t =
    ap (λ o. and_then (handled full p o s (during c h reads ks (t ++ Enter k ∷ []))) (idles (length ks) (handle full p))) (none k)
    ∙ idles_do p none ks s c h reads (t ++ Enter k ∷ [])
    ∙ ap (λ x. Ends (Over Done) s (during c h reads [] x)) (append_assoc t (Enter k ∷ []) (map Enter ks))

-- what is known of such a program
pub record IsConstants (p : Source) (ws : List DeviceWrite) : Type 0 where
  pub component : Name
  pub literals : p.literals ≡ []
  pub globals : p.globals ≡ []
  pub components : p.components ≡ component ∷ []
  pub start : Routine
  pub start_found : find_called p.routines (Start component) 0 ≡ Some start
  pub start_does : (call : Caller History) (s : State) (w : World History) → performed full (step p call) truth start.body s w ≡ Gives s w
  pub main : Routine
  pub main_found : find_called p.routines p.main 0 ≡ Some main
  pub main_body : main.body ≡ writes_code ws
  pub calls : activity p.main main.number ≡ Calling 0
  pub handlers : (k : ℕ) → handler_of p.handlers k ≡ None

-- the call of a routine from outside, where it is found
abbrev alone : Source → Target → ℕ → Option Routine → State → World History → Answer State History
alone p t n o s w =
    and_then (with_found o (λ routine. opened full (activity t routine.number) (run_routine full p (called full p n) routine 0 Null)) s w) (taking (λ v. go_on))

-- what is done with what a body answers
abbrev behind_body : Routine → State → Answer State History → Answer State History
behind_body routine s a = and_then (and_then (and_then (returned a (put routine.missing)) (back_in 0 s)) (closed full)) (taking (λ v. go_on))

module _ (p : Source) (ws : List DeviceWrite) (k : IsConstants p ws) where
  abbrev called_history : History
  called_history = note_call full (activity p.main k.main.number) no_history

  main_does : (n : ℕ) (reads ints : List ℕ)
      → call_alone full p p.main (with_heap empty_heap) (running_world no_history None reads ints (suc n))
      ≡ Gives (with_heap empty_heap) (during n (note_closing called_history) reads ints (map write_event ws))
  main_does n reads ints =
      ap (λ o. alone p p.main n o (with_heap empty_heap) (running_world no_history None reads ints (suc n))) k.main_found
      ∙ ap (λ c. behind_body k.main (with_heap empty_heap)
      (performed full (step p (called full p n)) truth c (entered k.main 0 Null (with_heap empty_heap)) (during n called_history reads ints []))) k.main_body
      ∙ ap (behind_body k.main (with_heap empty_heap))
      (writes_do p (called full p n) ws (entered k.main 0 Null (with_heap empty_heap)) n called_history reads ints [])

  running_does : (n : ℕ) (reads ints : List ℕ)
      → running full no_history p empty_heap None reads ints (suc n)
      ≡ Ends (Over Done) (with_heap empty_heap) (during n (note_closing called_history) reads [] (map write_event ws ++ map Enter ints))
  running_does n reads ints =
      ap (λ a. and_then a (idles (length ints) (handle full p))) (main_does n reads ints)
      ∙ idles_do p k.handlers ints (with_heap empty_heap) n (note_closing called_history) reads (map write_event ws)

  -- what the call of main leaves: one tick, behind which main alone was active
  abbrev pub history_behind : ℕ → History
  history_behind zero = no_history
  history_behind (suc n) = note_closing (note_call full (Calling 0) no_history)

  abbrev pub session_behind : (reads ints : List ℕ) → ℕ → Session
  session_behind reads ints clock = record {
    trace = (first_session ws reads ints clock).trace;
    ending = (first_session ws reads ints clock).ending;
    history = history_behind clock;
  }

  pub session_does : (reads ints : List ℕ) (clock : ℕ) → session p empty_heap None reads ints clock ≡ session_behind reads ints clock
  session_does reads ints zero = refl
  session_does reads ints (suc n) =
      ap session_of (running_does n reads ints)
      ∙ ap (λ call. session_of (Ends (Over Done) (with_heap empty_heap)
      (during n (note_closing (note_call full call no_history)) reads [] (map write_event ws ++ map Enter ints)))) k.calls

  -- initialisation from these literals, component fields and components
  abbrev starting_from : ℕ → List (List ℕ) → List FieldValue → List Name → Initialised
  starting_from clock literals globals cs =
      let h : Heap = record { cells = map literal_cell literals; globals = globals } in
      start_of (unless (passes (Some 60000) (stored_values h)) OutOfRoom (start_all full p cs) (with_heap h) (starting_world no_history clock))

  abbrev start_history : History
  start_history = note_call full Making no_history

  start_alone : (n : ℕ) → alone p (Start k.component) n (Some k.start) (with_heap empty_heap) (starting_world no_history (suc n))
      ≡ Gives (with_heap empty_heap) (record (starting_world {H = History} (note_closing start_history) n) { clock = n })
  start_alone n =
      ap (behind_body k.start (with_heap empty_heap))
      (k.start_does (called full p n) (entered k.start 0 Null (with_heap empty_heap)) (starting_world start_history n))

  pub started_does : (n : ℕ) → started p (suc n) ≡ Started empty_heap
  started_does n =
      ap (λ l. starting_from (suc n) l p.globals p.components) k.literals
      ∙ ap (λ g. starting_from (suc n) [] g p.components) k.globals
      ∙ ap (λ cs. starting_from (suc n) [] [] cs) k.components
      ∙ ap (λ o. start_of (and_then (alone p (Start k.component) n o (with_heap empty_heap) (starting_world no_history (suc n))) (start_all full p [])))
      k.start_found
      ∙ ap (λ a. start_of (and_then a (start_all full p []))) (start_alone n)
