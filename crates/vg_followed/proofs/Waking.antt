-- The instruction that idles, and the call of a handler, matched by the machine.
use Rattle.std.proofs.Common.{◌≡◌, ℕ, zero, suc, ◌+◌, ◌*◌, ◌<◌, inl, Bool, true, false, not, ◌&&◌, List, [], ◌∷◌, ◌++◌, length}
use Rattle.std.proofs.Common.{Option, Some, None, refl, sym, ap, ◌∙◌, subst, arith, length-append, slice_get}
use Rattle.std.specs.Prelude.{map, take}
use Rattle.std.specs.List.{AllByRecursion}
use Rattle.std.proofs.lemmas.List.{append-nil}
use Rattle.vg_meaning.specs.Outside.{Outside, AreVectors}
use Rattle.avr_isa.specs.declared.ending.MachineEnd.TheVariants as machine_end
use Rattle.avr_isa.specs.Machine.{State as MachineState}
use Rattle.avr_isa.specs.Standing.{widths, AllStandAt}
use Rattle.vg_lin.specs.declared.instr.Instr.TheVariants.{Idle}
use Rattle.vg_lin.specs.Meaning.{begun, widths_of, wake, language, codes_in}
use Rattle.vg_lin.specs.Program.{Program}
use Rattle.vg_lin.specs.State.{LocalState, State, value_in}
use Rattle.vg_lin.specs.Steps.{Interrupt, Frame, Config, takes, handles, fetch}
use Rattle.avr_view.specs.Run.{Run, Goes, Front, Ended}
use Rattle.avr_view.specs.View.{View, At}
use Rattle.avr_view.proofs.Going.{goes_fewer, goes_wider}
use Rattle.vg_templates.specs.Layouts.{Layout, frame_size, width_of}
use Rattle.vg_templates.specs.Frames.{Places, word_bytes, back_to, wanted, needed}
use Rattle.vg_templates.specs.CallOutcomes.{Begun}
use Rattle.vg_templates.specs.Linkage.{saves, settles_one, settles_from, prologue}
use Rattle.vg_templates.proofs.Openings.{saved-length}
use Rattle.vg_templates.proofs.Saving.{fits_fewer}
use Rattle.vg_templates.specs.Pieces.{Sees}
use Rattle.vg_templates.specs.Outcomes.{Lies}
use Rattle.vg_templates.proofs.Storing.{held_fewer, held_out}
use Rattle.vg_templates.specs.Calls.{sum_of}
use Rattle.vg_templates.specs.Idle.{entered}
use Rattle.vg_templates.proofs.Waking.{taken, ends_waiting, goes_taken, goes_out, goes_from_slot}
use Rattle.vg_templates.specs.Whole.{Links}
use Rattle.vg_followed.specs.Stands.{ReceivesNothing, Stands}
use Rattle.vg_followed.specs.Related.{Settled, Going, Woken, Related}
use Rattle.vg_followed.specs.Depth.{stack_bytes, handler_bytes}
use Rattle.vg_followed.proofs.Counting.{stacked_bytes}
use Rattle.vg_followed.proofs.Going.{at_rest}
use Rattle.vg_followed.proofs.Places.{placed}

-- ---- a procedure that begins without arguments

-- what is not kept does not go to its spot
unkept : (l : Layout) (k r : ℕ) (bs : List Bool) → AllByRecursion (λ kept. kept ≡ false) bs → settles_from l k r bs ≡ []
unkept l k r [] h = refl
unkept l k r (b ∷ bs) (none, h) =
    ap (λ z. settles_one z l k r ++ settles_from l (suc k) (r + width_of l k) bs) none ∙ unkept l (suc k) (r + width_of l k) bs h

-- so the prologue of a procedure that receives nothing is its first part alone
saves_alone : (l : Layout) → ReceivesNothing l → prologue l ≡ saves l
saves_alone l h = ap (λ is. saves l ++ is) (unkept l 0 18 l.arrives h.in_registers) ∙ append-nil (saves l)

no_value : (ws : List ℕ) (k x : ℕ) → value_in (slice_get (begun ws []) k) ≡ Some x → ⊥
no_value [] k x e = let clash : None ≡ Some x = e in cc
no_value (w ∷ ws) zero x e = let clash : None ≡ Some x = e in cc
no_value (w ∷ ws) (suc k) x e = no_value ws k x e

begun_widths : (ws : List ℕ) → map (λ (s : LocalState). s.width) (begun ws []) ≡ ws
begun_widths [] = refl
begun_widths (w ∷ ws) = ap (λ l. w ∷ l) (begun_widths ws)

abbrev begun_with : (widths' ram : List ℕ) → State
begun_with ws ram = record { locals = begun ws []; waiting = []; ram = ram }

pub lies_begun : (e : Run) (i : Places) (q : ℕ) (f : Frame State) (frames : List (Frame State)) (pc : ℕ) (v : View) (t : MachineState) (live : ℕ → Bool)
    (ram : List ℕ) → v.regs.of 1 ≡ 0 → v.static ≡ ram → (i.layouts q).pushed ≡ 0 → Begun e i q f frames [] pc v t
    → Sees e (Lies i q live (begun_with (i.layouts q).widths ram) (f ∷ frames) v.out) pc t
lies_begun e i q f frames pc v t live ram one columns none b =
    let l = i.layouts q in
    let saved = map v.regs.of l.saved in
    let back = word_bytes (back_to i f.awaits q f.proc f.pc) in
    let frame = b.slots ++ (saved ++ (back ++ [])) in
    let sum = length-append b.slots (saved ++ (back ++ [])) in
    let sum' = length-append saved (back ++ []) in
    let many = saved-length v.regs l.saved in
    let enough = b.enough in
    let long : length frame ≡ frame_size l = omega (arith, sum, sum', many, enough, none) in
    record {
      view = record v { regs = b.regs; stack = frame ++ b.under };
      kind =
          record {
            held =
                record {
                  stacked =
                      record {
                        wait = [];
                        own = frame;
                        under = b.under;
                        cut = refl;
                        points = b.points;
                        waits = refl;
                        fits = record { each = λ k x low alive got. absurd (no_value l.widths k x got); widths = begun_widths l.widths; long = long };
                        callers = b.callers;
                      };
                  r1 = b.others 1 (inl (omega arith)) ∙ one;
                  ram = columns;
                };
            out = refl;
          };
      at = b.at;
    }

-- what an instruction that idles needs behind it was needed before
idle_needs : (i : Places) (m pc : ℕ) → ((k : ℕ) → i.live m (suc pc) k ≡ true → i.live m pc k ≡ true) → (k : ℕ) → needed i m Interrupt pc k ≡ true
    → i.live m pc k ≡ true
idle_needs i m pc h k e = h k (first (i.live m (suc pc) k) (not false) (first (wanted (i.live m) Interrupt pc k) _ e))
  where
    first : (b d : Bool) → (b && d) ≡ true → b ≡ true
    first true d e1 = refl
    first false d e1 = e1

-- a configuration whose interrupt waits for its handler
abbrev pub woken_by : (vector : ℕ) → Config State → Config State
woken_by vector c = record c { woken = Some vector; ending = None }

module _ (e : Run) (x : Links) (p : Program) (st : Stands e x p) (deep : Type 0) where
  pub goes_on_idle : (c : Config State) (s : MachineState) → fetch (codes_in p.procedures) c.proc c.pc ≡ Some Idle → Settled x p c → Going e x c s
      → (0x1100 < e.floor + (stack_bytes x.places c.proc c.state c.frames + 4) → deep) → (ks : List ℕ) → c.outside.interrupts ≡ ks
      → Front e (takes (at_rest c) ks).outside → Goes e deep 1 s (Related e x p (takes (at_rest c) ks))
  goes_on_idle c s h settled g full [] left front =
      let k = (placed e x p st c.proc c.pc Idle h).instr in
      let v = g.view in
      let l = x.places.layouts c.proc in
      let room : x.place c.proc c.pc + 2 < 65536 = k.room in
      let size = stacked_bytes x.places c.proc (x.places.live c.proc c.pc) c.state c.frames v.stack v.regs g.kind.held.stacked in
      goes_wider e deep 1 s (Ended e machine_end.Idle v.out) (Related e x p (takes (at_rest c) []))
      (λ t z. subst (λ o. Ended e machine_end.Idle o t) g.kind.out z)
      (ends_waiting e deep x.places x.idle st.idle (x.place c.proc c.pc) v s k.stands.0 (omega (arith, room)) (ap (λ (o : Outside). o.interrupts) g.kind.out ∙ left)
      (λ more. full (omega (arith, more, size))) g.at)
  goes_on_idle c s h settled g full (vector ∷ ks) left front =
      let k = (placed e x p st c.proc c.pc Idle h).instr in
      let v = g.view in
      let l = x.places.layouts c.proc in
      let room : x.place c.proc c.pc + 2 < 65536 = k.room in
      let size = stacked_bytes x.places c.proc (x.places.live c.proc c.pc) c.state c.frames v.stack v.regs g.kind.held.stacked in
      let place = x.place c.proc c.pc in
      let there : v.out.interrupts ≡ vector ∷ ks = ap (λ (o : Outside). o.interrupts) g.kind.out ∙ left in
      let o = entered v.out vector ks in
      let same : o ≡ entered c.outside vector ks = ap (λ z. entered z vector ks) g.kind.out in
      let vectors = subst AreVectors left settled.vectors in
      goes_wider e deep 1 s (At e (2 * vector) (taken e deep x.places x.idle st.idle place v vector ks)) (Related e x p (takes (at_rest c) (vector ∷ ks)))
      (λ t b. (
        record { waits = settled.waits; callers = settled.callers; vectors = vectors.1 },
        record {
          is_vector = vectors.0;
          idles = h;
          view = record v { out = o };
          held = held_out x.places c.proc (x.places.live c.proc c.pc) c.state c.frames v o g.kind.held;
          out = same;
          at = b;
        },
      ))
      (goes_taken e deep x.places x.idle st.idle place vector ks v s k.stands.0 (omega (arith, room)) there (subst (Front e) (sym same) front)
      (λ more. full (omega (arith, more, size))) g.at)

  pub goes_on_woken : (c : Config State) (vector : ℕ) (s : MachineState) → Settled x p c → Woken e x p c vector s
      → (0x1100 < e.floor + (stack_bytes x.places c.proc c.state c.frames + (4 + handler_bytes x.places (p.handler vector))) → deep)
      → (h : Option ℕ) → p.handler vector ≡ h → Goes e deep 1 s (Related e x p (handles (language p) (woken_by vector c) h))
  goes_on_woken c vector s settled w full None none =
      let k = (placed e x p st c.proc c.pc Idle w.idles).instr in
      let l = x.places.layouts c.proc in
      let v = w.view in
      let place = x.place c.proc c.pc in
      let next : place + 2 ≡ x.place c.proc (suc c.pc) = sym k.leads.0 in
      let goal = Related e x p (handles (language p) (woken_by vector c) None) in
      goes_fewer e deep 3 1 s goal (omega arith)
      (goes_wider e deep 3 s (At e (place + 2) v) goal
      (λ t b. (
        record { waits = settled.waits ∙ sym k.waits; callers = settled.callers; vectors = settled.vectors },
        record {
          view = v;
          kind = record { held = held_fewer x.places c.proc (x.places.live c.proc c.pc) (x.places.live c.proc (suc c.pc)) c.state c.frames v k.covers.0 w.held; out = w.out };
          at = subst (λ n. At e n v t) next b;
        },
      ))
      (goes_out e deep x.places x.idle st.idle (2 * vector) place v.stack (record v {
        stack = word_bytes (x.idle + 2) ++ (word_bytes (place + 2) ++ v.stack);
      }) s (st.passes vector w.is_vector none) refl w.at))
  goes_on_woken c vector s settled w full (Some q) some =
      let k = (placed e x p st c.proc c.pc Idle w.idles).instr in
      let l = x.places.layouts c.proc in
      let v = w.view in
      let place = x.place c.proc c.pc in
      let hs = st.handlers vector q some in
      let m = hs.procedure in
      let ps = st.procedures q m hs.there in
      let f : Frame State = record { proc = c.proc; pc = c.pc; kept = c.state; awaits = Interrupt } in
      let t = w.held.stacked in
      let lq = x.places.layouts q in
      let none : lq.pushed ≡ 0 = hs.receives_nothing.on_stack in
      let first : prologue lq ≡ saves lq = saves_alone lq hs.receives_nothing in
      let begins : x.place q 0 ≡ x.entry q + widths (saves lq) = ps.begins ∙ ap (λ is. x.entry q + widths is) first in
      let locals : widths_of (slice_get p.procedures q) ≡ (x.places.layouts q).widths = ap widths_of hs.there ∙ sym ps.locals in
      let state_is : begun_with (x.places.layouts q).widths c.state.ram ≡ wake p q c.state = ap (λ ws. begun_with ws c.state.ram) (sym locals) in
      let size = stacked_bytes x.places c.proc (x.places.live c.proc c.pc) c.state c.frames v.stack v.regs t in
      let goal = Related e x p (handles (language p) (woken_by vector c) (Some q)) in
      let need : handler_bytes x.places (p.handler vector) ≡ handler_bytes x.places (Some q) = ap (handler_bytes x.places) some in
      let to = x.entry q + widths (saves lq) in
      goes_fewer e deep 2 1 s goal (omega arith)
      (goes_wider e deep 2 s (Begun e x.places q f c.frames [] to v) goal
      (λ r b. (
        record {
          waits = sym ps.waits;
          callers = (
            record {
              stands = w.idles;
              waits = settled.waits;
              passed = none;
              results = λ z there. tt;
              handles = (vector, some);
            },
            settled.callers,
          );
          vectors = settled.vectors;
        },
        subst (λ n. Sees e (Lies x.places q (x.places.live q 0) (wake p q c.state) (f ∷ c.frames) c.outside) n r) (sym begins)
            (subst (λ o. Sees e (Lies x.places q (x.places.live q 0) (wake p q c.state) (f ∷ c.frames) o) to r) w.out
            (subst (λ z. Sees e (Lies x.places q (x.places.live q 0) z (f ∷ c.frames) v.out) to r) state_is
            (lies_begun e x.places q f c.frames to v r (x.places.live q 0) c.state.ram w.held.r1 w.held.ram none b))),
      ))
      (goes_from_slot e deep x.places x.idle st.idle st.layouts place vector q hs.stub (x.entry q) c.proc c.pc c.state c.frames t.wait t.own t.under v s hs.handled
      k.leads.1 (subst (AllStandAt e.flash (x.entry q)) first ps.prologue_stands) (subst (λ is. x.entry q + widths is < 65536) first ps.room) t.cut t.points t.waits
      (fits_fewer l (x.places.live c.proc c.pc) (needed x.places c.proc Interrupt c.pc) c.state.locals t.own v.regs (idle_needs x.places c.proc c.pc k.covers.0) t.fits) t.callers
      (λ more. full (omega (arith, more, size, need))) w.at))
