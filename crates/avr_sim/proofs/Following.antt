-- The machine of the definition and the one that runs agree in all but the trace so far and the depth of the stack.
use Rattle.std.proofs.Common.{◌≡◌, ℕ, zero, suc, ◌+◌, ◌-◌, ◌<◌, Bool, true, false, List, [], ◌∷◌, ◌++◌, Option, Some, None, refl, sym, ap, ◌∙◌, subst}
use Rattle.std.proofs.Common.{arith, append_assoc, append-nil}
use Rattle.std.specs.Prelude.{if◌then◌else◌, is_some}
use Rattle.std.proofs.lemmas.Grind.{flat_map-append}
use Rattle.vg_meaning.specs.declared.event.Event.{Event}
use Rattle.vg_meaning.specs.declared.event.Event.TheVariants.{Read, Write, Enter}
use Rattle.avr_instr.specs.declared.instr.Instr.{Instr}
use Rattle.avr_isa.specs.declared.effect.Effect.{Effect}
use Rattle.avr_isa.specs.declared.effect.Effect.TheVariants.{Next, ReadDevice, WriteDevice, Sleep, Halt, Outside as Forbidden}
use Rattle.avr_isa.specs.Cpu.{CpuState, marked}
use Rattle.avr_isa.specs.Effect.{change}
use Rattle.avr_isa.specs.Change.{register_of}
use Rattle.avr_isa.specs.Access.{can_push_two}
use Rattle.avr_isa.specs.Machine.{State, done, performed, next_state, run_from, instr_here, word_here, started, entered}
use Rattle.avr_isa.specs.Stack.{lowest_behind, lowest_by_push_two}
use Rattle.avr_isa.specs.declared.ending.MachineEnd.{MachineEnd}
use Rattle.avr_isa.specs.declared.ending.MachineEnd.TheVariants.{Stop, Bad}
use Rattle.avr_isa.proofs.Runs.{stays}
use Rattle.vg_io.specs.Piece.{AppendsAll, AppendsFront}
use Rattle.vg_script.specs.Traces.{event_line}
use Rattle.avr_sim.specs.Run.{simulated, trace_lines}
use Rattle.avr_sim.specs.Walk.{pending, unstacked}
use Rattle.avr_sim.proofs.Told.{appends_nothing, appends_both, appends_front}

-- s is m with a trace so far in front of its own
pub record Same (t : List Event) (s m : State) : Type 0 where
  pub cpu : s.cpu ≡ m.cpu
  pub reads : s.outside.reads ≡ m.outside.reads
  pub interrupts : s.outside.interrupts ≡ m.outside.interrupts
  pub trace : s.outside.trace ≡ t ++ m.outside.trace
  pub ended : s.ended ≡ m.ended

-- a state from its parts
abbrev pub parts : CpuState → (reads interrupts : List ℕ) → List Event → ℕ → Option MachineEnd → State
parts cpu reads interrupts trace lowest ended = record {
  cpu = cpu;
  outside = record { reads = reads; interrupts = interrupts; trace = trace };
  lowest = lowest;
  ended = ended;
}

same_parts : (t u : List Event) (cpu : CpuState) (reads interrupts : List ℕ) (l l' : ℕ) (ended : Option MachineEnd)
    → Same t (parts cpu reads interrupts (t ++ u) l ended) (parts cpu reads interrupts u l' ended)
same_parts t u cpu reads interrupts l l' ended = record { cpu = refl; reads = refl; interrupts = refl; trace = refl; ended = refl }

same_event : (t u : List Event) (event : Event) (cpu : CpuState) (reads interrupts : List ℕ) (l l' : ℕ) (ended : Option MachineEnd)
    → Same t (parts cpu reads interrupts ((t ++ u) ++ event ∷ []) l ended) (parts cpu reads interrupts (u ++ event ∷ []) l' ended)
same_event t u event cpu reads interrupts l l' ended = record {
  cpu = refl;
  reads = refl;
  interrupts = refl;
  trace = append_assoc t u
      (event ∷ []);
  ended = refl;
}

same_done : (effect : Effect) (word : ℕ) (t u : List Event) (cpu : CpuState) (reads interrupts : List ℕ) (l l' : ℕ)
    → Same t (done effect word (parts cpu reads interrupts (t ++ u) l None)) (done effect word (parts cpu reads interrupts u l' None))
same_done Next word t u cpu reads interrupts l l' = same_parts t u cpu reads interrupts l l' None
same_done (ReadDevice address register) word t u cpu [] interrupts l l' = record { cpu = refl; reads = refl; interrupts = refl; trace = refl; ended = refl }
same_done (ReadDevice address register) word t u cpu (v ∷ vs) interrupts l l' = record
    { cpu = refl; reads = refl; interrupts = refl; trace = append_assoc t u (Read address v ∷ []); ended = refl }
same_done (WriteDevice address value) word t u cpu reads interrupts l l' = same_event t u (Write address value) cpu reads interrupts l l' None
same_done Sleep word t u cpu reads [] l l' = record { cpu = refl; reads = refl; interrupts = refl; trace = refl; ended = refl }
same_done Sleep word t u cpu reads (k ∷ ks) l l' = by_test (can_push_two cpu.sp)
  where
    by_test : (b : Bool) → Same t
        (if b then parts (entered cpu k) reads ks ((t ++ u) ++ Enter k ∷ []) (lowest_by_push_two cpu.sp l) None
        else parts cpu reads (k ∷ ks) (t ++ u) (lowest_by_push_two cpu.sp l) (Some (Bad cpu.pc word)))
        (if b then parts (entered cpu k) reads ks (u ++ Enter k ∷ []) (lowest_by_push_two cpu.sp l') None
        else parts cpu reads (k ∷ ks) u (lowest_by_push_two cpu.sp l') (Some (Bad cpu.pc word)))
    by_test true = same_event t u (Enter k) (entered cpu k) reads ks (lowest_by_push_two cpu.sp l) (lowest_by_push_two cpu.sp l') None
    by_test false = same_parts t u cpu reads (k ∷ ks) (lowest_by_push_two cpu.sp l) (lowest_by_push_two cpu.sp l') (Some (Bad cpu.pc word))
same_done Halt word t u cpu reads interrupts l l' = same_parts t u cpu reads interrupts l l' (Some (Stop (register_of cpu 24)))
same_done Forbidden word t u cpu reads interrupts l l' = same_parts t u cpu reads interrupts l l' (Some (Bad cpu.pc word))

same_performed : (flash : List ℕ) (o : Option Instr) (word : ℕ) (t u : List Event) (cpu : CpuState) (reads interrupts : List ℕ) (l l' : ℕ)
    → Same t (performed flash o word (parts cpu reads interrupts (t ++ u) l None)) (performed flash o word (parts cpu reads interrupts u l' None))
same_performed flash None word t u cpu reads interrupts l l' = same_parts t u cpu reads interrupts l l' (Some (Bad cpu.pc word))
same_performed flash (Some i) word t u cpu reads interrupts l l' =
    same_done (change flash i cpu).effect word t u (change flash i cpu).cpu reads interrupts
    (lowest_behind i cpu (change flash i cpu).cpu l) (lowest_behind i cpu (change flash i cpu).cpu l')

same_next : (flash : List ℕ) (t u : List Event) (cpu : CpuState) (reads interrupts : List ℕ) (l l' : ℕ) (ended : Option MachineEnd)
    → Same t (next_state flash (parts cpu reads interrupts (t ++ u) l ended)) (next_state flash (parts cpu reads interrupts u l' ended))
same_next flash t u cpu reads interrupts l l' (Some end) = same_parts t u cpu reads interrupts l l' (Some end)
same_next flash t u cpu reads interrupts l l' None = same_performed flash (instr_here flash cpu) (word_here flash cpu) t u cpu reads interrupts l l'

-- one step keeps them the same
pub same_step : (flash : List ℕ) (t : List Event) (s m : State) → Same t s m → Same t (next_state flash s) (next_state flash m)
same_step flash t s m h =
    let e : s ≡ parts m.cpu m.outside.reads m.outside.interrupts (t ++ m.outside.trace) s.lowest m.ended =
    ap (λ x. parts x s.outside.reads s.outside.interrupts s.outside.trace s.lowest s.ended) h.cpu
    ∙ ap (λ x. parts m.cpu x s.outside.interrupts s.outside.trace s.lowest s.ended) h.reads
    ∙ ap (λ x. parts m.cpu m.outside.reads x s.outside.trace s.lowest s.ended) h.interrupts
    ∙ ap (λ x. parts m.cpu m.outside.reads m.outside.interrupts x s.lowest s.ended) h.trace
    ∙ ap (λ x. parts m.cpu m.outside.reads m.outside.interrupts (t ++ m.outside.trace) s.lowest x) h.ended in
    subst (λ x. Same t (next_state flash x) (next_state flash m)) (sym e)
    (same_next flash t m.outside.trace m.cpu m.outside.reads m.outside.interrupts s.lowest m.lowest m.ended)

-- the depth of the stack does not matter
same_unstacked : (t : List Event) (s m n : State) → Same t s m → unstacked n ≡ unstacked m → Same t s n
same_unstacked t s m n h e = record {
  cpu = h.cpu ∙ sym (ap (λ (x : State). x.cpu) e);
  reads = h.reads ∙ sym (ap (λ (x : State). x.outside.reads) e);
  interrupts = h.interrupts ∙ sym (ap (λ (x : State). x.outside.interrupts) e);
  trace = h.trace ∙ ap (λ l. t ++ l) (sym (ap (λ (x : State). x.outside.trace) e));
  ended = h.ended ∙ sym (ap (λ (x : State). x.ended) e);
}

-- the trace grows
next_grows : (flash : List ℕ) (s : State) → (es : List Event) × ((next_state flash s).outside.trace ≡ s.outside.trace ++ es)
next_grows flash s =
    let m = parts s.cpu s.outside.reads s.outside.interrupts [] s.lowest s.ended in
    let h : Same s.outside.trace s m = record { cpu = refl; reads = refl; interrupts = refl; trace = sym (append-nil s.outside.trace); ended = refl } in
    ((next_state flash m).outside.trace, (same_step flash s.outside.trace s m h).trace)

run_grows : (flash : List ℕ) (n : ℕ) (s : State) → (es : List Event) × ((run_from flash n s).outside.trace ≡ s.outside.trace ++ es)
run_grows flash zero s = ([], sym (append-nil s.outside.trace))
run_grows flash (suc n) s =
    let a = next_grows flash s in
    let b = run_grows flash n (next_state flash s) in
    (a.0 ++ b.0, b.1 ∙ ap (λ l. l ++ b.0) a.1 ∙ append_assoc s.outside.trace a.0 b.0)

-- runs of the same states
same_run : (flash : List ℕ) (n : ℕ) (t : List Event) (s m : State) → Same t s m → Same t (run_from flash n s) (run_from flash n m)
same_run flash zero t s m h = h
same_run flash (suc n) t s m h = same_run flash n t (next_state flash s) (next_state flash m) (same_step flash t s m h)

-- the run of the code begins without a depth
pub run_unstacked : (flash reads interrupts : List ℕ) (n : ℕ) (m : State) → m ≡ unstacked (started marked reads interrupts)
    → ((run_from flash n m).ended ≡ (simulated flash reads interrupts n).ended)
    × ((run_from flash n m).outside.trace ≡ (simulated flash reads interrupts n).outside.trace)
run_unstacked flash reads interrupts n m e =
    let s = started marked reads interrupts in
    let h : Same [] s (unstacked s) = record { cpu = refl; reads = refl; interrupts = refl; trace = refl; ended = refl } in
    let r = same_run flash n [] s (unstacked s) h in
    (ap (λ x. (run_from flash n x).ended) e ∙ sym r.ended, ap (λ x. (run_from flash n x).outside.trace) e ∙ sym r.trace)

-- where a run stands: n instructions are left, first is the state that it began with, m the one that it has now
pub record Follows (flash : List ℕ) (n budget : ℕ) (first m : State) (before now : Option (List ℕ)) : Type 0 where
  pub state : State
  pub seen : List Event
  pub whole : run_from flash n state ≡ run_from flash budget first
  pub same : Same seen state m
  pub put : m.outside.trace ≡ []
  pub told : AppendsAll before now (trace_lines seen)

pub follow_first : (flash : List ℕ) (n budget : ℕ) (first : State) (a : Option (List ℕ)) → n ≡ budget → first.outside.trace ≡ []
    → Follows flash n budget first first a a
follow_first flash n budget first a e h = record {
  state = first;
  seen = [];
  whole = ap (λ k. run_from flash k first) e;
  same = record { cpu = refl; reads = refl; interrupts = refl; trace = refl; ended = refl };
  put = h;
  told = appends_nothing a;
}

-- one instruction more
stepped : (flash : List ℕ) (t : List Event) (s m m1 : State) → Same t s m → unstacked m1 ≡ unstacked (next_state flash m) → Same t (next_state flash s) m1
stepped flash t s m m1 h e = same_unstacked t (next_state flash s) (next_state flash m) m1 (same_step flash t s m h) e

one_less : (flash : List ℕ) (budget i : ℕ) (s : State) → i < budget → run_from flash (budget - (i + 1)) (next_state flash s) ≡ run_from flash (budget - i) s
one_less flash budget i s h =
    let left : budget - i ≡ suc (budget - (i + 1)) = omega (arith, h) in
    sym (ap (λ n. run_from flash n s) left)

pub follow_on : (flash : List ℕ) (budget i : ℕ) (first m m1 m2 : State) (event : Option Event) (a b c : Option (List ℕ)) → i < budget
    → Follows flash (budget - i) budget first m a b
    → unstacked m1 ≡ unstacked (next_state flash m) → pending event ≡ m1.outside.trace → m2 ≡ record m1 { outside = record m1.outside { trace = [] } }
    → AppendsAll b c (trace_lines (pending event)) → Follows flash (budget - (i + 1)) budget first m2 a c
follow_on flash budget i first m m1 m2 event a b c lt f e p r told =
    let h = stepped flash f.seen f.state m m1 f.same e in
    let k : Same (f.seen ++ pending event) (next_state flash f.state) (record m1 { outside = record m1.outside { trace = [] } }) = record {
      cpu = h.cpu;
      reads = h.reads;
      interrupts = h.interrupts;
      trace = h.trace ∙ ap (λ l. f.seen ++ l) (sym p) ∙ sym (append-nil (f.seen ++ pending event));
      ended = h.ended;
    } in
    record {
      state = next_state flash f.state;
      seen = f.seen ++ pending event;
      whole = one_less flash budget i f.state lt ∙ f.whole;
      same = subst (Same (f.seen ++ pending event) (next_state flash f.state)) (sym r) k;
      put = ap (λ (x : State). x.outside.trace) r;
      told = subst (AppendsAll a c) (sym (flat_map-append event_line f.seen (pending event)))
          (appends_both a b c (trace_lines f.seen) (trace_lines (pending event)) f.told told);
    }

-- a put that fails
pub follow_fails : (flash : List ℕ) (budget i : ℕ) (first m m1 : State) (event : Option Event) (a b c : Option (List ℕ)) → i < budget
    → Follows flash (budget - i) budget first m a b
    → unstacked m1 ≡ unstacked (next_state flash m) → pending event ≡ m1.outside.trace
    → AppendsFront b c (trace_lines (pending event)) → AppendsFront a c (trace_lines (run_from flash budget first).outside.trace)
follow_fails flash budget i first m m1 event a b c lt f e p told =
    let h = stepped flash f.seen f.state m m1 f.same e in
    let g = run_grows flash (budget - (i + 1)) (next_state flash f.state) in
    let whole : (run_from flash budget first).outside.trace ≡ f.seen ++ (pending event ++ g.0) =
    ap (λ (x : State). x.outside.trace) (sym (one_less flash budget i f.state lt ∙ f.whole)) ∙ g.1
    ∙ ap (λ l. l ++ g.0) (h.trace ∙ ap (λ l. f.seen ++ l) (sym p)) ∙ append_assoc f.seen (pending event) g.0 in
    let lines : trace_lines (run_from flash budget first).outside.trace ≡ trace_lines f.seen ++ (trace_lines (pending event) ++ trace_lines g.0) =
    ap trace_lines whole ∙ flat_map-append event_line f.seen (pending event ++ g.0)
    ∙ ap (λ l. trace_lines f.seen ++ l) (flat_map-append event_line (pending event) g.0) in
    subst (AppendsFront a c) (sym lines) (appends_front a b c (trace_lines f.seen) (trace_lines (pending event)) (trace_lines g.0) f.told told)

-- no instruction more
at_end : (flash : List ℕ) (n budget : ℕ) (first m : State) (a b : Option (List ℕ)) (f : Follows flash n budget first m a b) → run_from flash n f.state ≡ f.state
    → (m.ended ≡ (run_from flash budget first).ended) × AppendsAll a b (trace_lines (run_from flash budget first).outside.trace)
at_end flash n budget first m a b f e =
    let whole : run_from flash budget first ≡ f.state = sym f.whole ∙ e in
    let trace : (run_from flash budget first).outside.trace ≡ f.seen =
    ap (λ (x : State). x.outside.trace) whole ∙ f.same.trace ∙ ap (λ l. f.seen ++ l) f.put ∙ append-nil f.seen in
    (sym (ap (λ (x : State). x.ended) whole ∙ f.same.ended), subst (AppendsAll a b) (ap trace_lines (sym trace)) f.told)

pub follow_ends : (flash : List ℕ) (n budget : ℕ) (first m : State) (o : Option MachineEnd) (a b : Option (List ℕ)) → Follows flash n budget first m a b
    → o ≡ m.ended → is_some o ≡ true
    → (m.ended ≡ (run_from flash budget first).ended) × AppendsAll a b (trace_lines (run_from flash budget first).outside.trace)
follow_ends flash n budget first m None a b f e h = absurd (cc)
follow_ends flash n budget first m (Some end) a b f e h = at_end flash n budget first m a b f (stays flash n f.state end (f.same.ended ∙ sym e))

-- the run from reset, by what the code says of its own
pub ended_from_reset : (flash flash' reads interrupts reads' interrupts' : List ℕ) (budget : ℕ) (first m : State) (end : Option MachineEnd)
    → flash' ≡ flash → reads' ≡ reads → interrupts' ≡ interrupts → first ≡ unstacked (started marked reads' interrupts')
    → m.ended ≡ (run_from flash' budget first).ended → end ≡ m.ended → end ≡ (simulated flash reads interrupts budget).ended
ended_from_reset flash flash' reads interrupts reads' interrupts' budget first m end l r i f e h =
    let k = run_unstacked flash' reads' interrupts' budget first f in
    h ∙ e ∙ k.0
    ∙ ap (λ x. (simulated x reads' interrupts' budget).ended) l ∙ ap (λ x. (simulated flash x interrupts' budget).ended) r
    ∙ ap (λ x. (simulated flash reads x budget).ended) i

pub told_trace : (flash flash' reads interrupts reads' interrupts' : List ℕ) (budget : ℕ) (first : State)
    → flash' ≡ flash → reads' ≡ reads → interrupts' ≡ interrupts → first ≡ unstacked (started marked reads' interrupts')
    → trace_lines (run_from flash' budget first).outside.trace ≡ trace_lines (simulated flash reads interrupts budget).outside.trace
told_trace flash flash' reads interrupts reads' interrupts' budget first l r i f =
    let k = run_unstacked flash' reads' interrupts' budget first f in
    ap trace_lines (k.1 ∙ ap (λ x. (simulated x reads' interrupts' budget).outside.trace) l ∙ ap (λ x. (simulated flash x interrupts' budget).outside.trace) r
    ∙ ap (λ x. (simulated flash reads x budget).outside.trace) i)
