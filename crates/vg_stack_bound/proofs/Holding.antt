-- A stack that holds what walks cost holds what the active calls of a packed program cost.
use Rattle.std.specs.Prelude.{ℕ, ◌+◌, ◌≤◌, max, List, [], ◌∷◌, length, None}
use Rattle.std.specs.List.{AllByRecursion}
use Rattle.std.proofs.Common.{◌≡◌, refl, sym, ap, ◌∙◌, subst, arith}
use Rattle.vg_meaning.specs.Answer.{End, Over, Signal, Answer, Gives, Ends}
use Rattle.vg_meaning.specs.History.{Active, History, full, no_history}
use Rattle.vg_meaning.specs.Outside.{AreReads}
use Rattle.vg_meaning.specs.Safe.{Alike}
use Rattle.vg_meaning.specs.World.{World}
use Rattle.vg_codes.specs.Codes.{Codes, AreCodes}
use Rattle.vg_source.specs.Peak.{most, total_cost}
use Rattle.vg_source.specs.Session.{running_world}
use Rattle.vg_core.specs.declared.heap.Heap.{Heap}
use Rattle.vg_core.specs.Program.{Program}
use Rattle.vg_core.specs.Session.{running}
use Rattle.vg_core.specs.State.{State}
use Rattle.vg_live.specs.declared.live_set.LiveSet.{LiveSet}
use Rattle.vg_number.specs.declared.numbers.Numbers.{Numbers}
use Rattle.vg_place.specs.declared.placing.Columns.{Columns}
use Rattle.vg_firm.specs.Program.{Program as Firm}
use Rattle.vg_firm.specs.Meaning.{State as FirmState}
use Rattle.vg_firm.specs.Session as firm
use Rattle.vg_packed.specs.declared.program.FirmProgram.{FirmProgram}
use Rattle.vg_packed.specs.Given.{IsGiven}
use Rattle.vg_packed.specs.Packed.{IsPackedFrom}
use Rattle.vg_packed.specs.Programs.{program_of}
use Rattle.vg_packed.specs.Ready.{IsReady}
use Rattle.vg_packed.proofs.Placed.{do_the_same}
use Rattle.vg_walks.specs.Walks.{AreAwake, AreWalks}
use Rattle.vg_walks.proofs.Walking.{walks}
use Rattle.vg_memory.specs.Holds.{HoldsPeaks}
use Rattle.vg_calls_packed.specs.Enough.{IsEnough}
use Rattle.vg_stack_bound.proofs.Awake.{HasAwakeCode, awake_at, methods_awake}

most_within : (total rest bytes : ℕ) → total ≤ bytes → rest ≤ bytes → max total rest ≤ bytes
most_within total rest bytes h k = omega (arith, h, k)

within : (f : Firm) (costs : List ℕ) (bytes : ℕ) → IsEnough f costs bytes → (lists : List (List Active)) → AreWalks f lists → most costs lists ≤ bytes
within f costs bytes enough [] h = omega arith
within f costs bytes enough (calls ∷ lists) (h, hs) =
    most_within (total_cost costs calls) (most costs lists) bytes (enough calls h) (within f costs bytes enough lists hs)

alike_end : {S T : Type 0} (b : Answer T History) (why : Signal) (s : S) (w : World History) → Alike (Ends why s w) b → (t : T) × (b ≡ Ends why t w)
alike_end (Ends because t v) why s w (same, world) = (t, ap (λ z. Ends z t v) (sym same) ∙ ap (λ z. Ends why t z) (sym world))
alike_end (Gives t v) why s w h = absurd h

module _ (p : Program) (h : Heap) (s : LiveSet) (n : Numbers) (c : Columns) (f : FirmProgram) (given : IsGiven p h s n c) (ready : IsReady p h)
    (from : IsPackedFrom p h s n c f) (k : Codes) where
  abbrev packed : Firm
  packed = program_of k f

  all_awake : AreAwake packed
  all_awake q m e =
      awake_at packed.procedures q m
      (subst (λ ms. AllByRecursion HasAwakeCode ms) (sym from.procedures) (methods_awake p.tables n from.plan 0 p.tables.methods p.methods)) e

  module _ (codes : AreCodes (length f.procedures) k) (reads interrupts : List ℕ) (clock : ℕ) (t : State) (v : World History) (why : End)
      (bytes : AreReads reads) (over : running full no_history p h None reads interrupts clock ≡ Ends (Over why) t v) where
    abbrev firm_answer : Answer FirmState History
    firm_answer = firm.running full k packed (length interrupts) (firm.first_state packed) (running_world no_history None reads interrupts clock)

    same : Alike (running full no_history p h None reads interrupts clock) firm_answer
    same = do_the_same p h s n c f given ready from k codes full no_history None reads interrupts clock bytes

    are_walks : AreWalks packed v.history.behind_ticks
    are_walks =
        let (u, e) = alike_end firm_answer (Over why) t v (subst (λ a. Alike a firm_answer) over same) in
        walks k packed all_awake (length interrupts) (firm.first_state packed) u (running_world no_history None reads interrupts clock) v (Over why) refl tt e

room : (floor extra peak bytes : ℕ) → floor + (extra + bytes) ≤ 0x1100 → peak ≤ bytes → floor + (extra + peak) ≤ 0x1100
room floor extra peak bytes h k = omega (arith, h, k)

pub holds : (p : Program) (h : Heap) (s : LiveSet) (n : Numbers) (c : Columns) (f : FirmProgram) → IsGiven p h s n c → IsReady p h → IsPackedFrom p h s n c f
    → (k : Codes) → AreCodes (length f.procedures) k → (costs : List ℕ) (bytes : ℕ) → IsEnough (program_of k f) costs bytes → (floor extra : ℕ)
    → floor + (extra + bytes) ≤ 0x1100 → HoldsPeaks floor extra costs p h
holds p h s n c f given ready from k codes costs bytes enough floor extra fits reads interrupts clock t v why are_bytes vectors legal over =
    room floor extra (most costs v.history.behind_ticks) bytes fits
    (within (program_of k f) costs bytes enough v.history.behind_ticks
    (are_walks p h s n c f given ready from k codes reads interrupts clock t v why are_bytes over))
