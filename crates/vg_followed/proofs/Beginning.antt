-- The entry of the first procedure.
use Rattle.std.proofs.Common.{◌≡◌, ℕ, zero, suc, ◌+◌, ◌<◌, inl, Bool, List, [], ◌∷◌, ◌++◌, length, Some, None, refl, sym, ap, ◌∙◌, subst, arith}
use Rattle.std.proofs.Common.{length-append, slice_get}
use Rattle.std.specs.Prelude.{map, take}
use Rattle.std.proofs.lemmas.List.{append-nil}
use Rattle.vg_meaning.specs.Outside.{AreVectors}
use Rattle.avr_isa.specs.Machine.{State as MachineState}
use Rattle.avr_isa.specs.Standing.{widths, AllStandAt}
use Rattle.vg_lin.specs.Meaning.{begun, widths_of, first_state, at_start}
use Rattle.vg_lin.specs.Program.{Procedure, Program}
use Rattle.vg_lin.specs.State.{LocalState, State, value_in}
use Rattle.avr_view.specs.Registers.{pair}
use Rattle.avr_view.specs.Run.{Run, Goes}
use Rattle.avr_view.specs.View.{View, At}
use Rattle.avr_view.proofs.Going.{goes_wider}
use Rattle.vg_templates.specs.Layouts.{frame_size}
use Rattle.vg_templates.specs.Linkage.{saves, prologue, Entered}
use Rattle.vg_templates.proofs.Linking.{goes_saves}
use Rattle.vg_templates.proofs.Openings.{saved-length}
use Rattle.vg_templates.proofs.Entering.{unsettled, no_parameters}
use Rattle.vg_templates.specs.Pieces.{Sees}
use Rattle.vg_templates.specs.Outcomes.{Lies}
use Rattle.vg_templates.specs.Calls.{sum_of}
use Rattle.vg_templates.specs.Whole.{Links}
use Rattle.vg_followed.specs.Related.{Related}
use Rattle.vg_followed.specs.Stands.{Stands}

no_value : (ws : List ℕ) (k x : ℕ) → value_in (slice_get (begun ws []) k) ≡ Some x → ⊥
no_value [] k x e = let clash : None ≡ Some x = e in cc
no_value (w ∷ ws) zero x e = let clash : None ≡ Some x = e in cc
no_value (w ∷ ws) (suc k) x e = no_value ws k x e

begun_widths : (ws : List ℕ) → map (λ (s : LocalState). s.width) (begun ws []) ≡ ws
begun_widths [] = refl
begun_widths (w ∷ ws) = ap (λ l. w ∷ l) (begun_widths ws)

abbrev begun_with : (widths' ram : List ℕ) → State
begun_with ws ram = record { locals = begun ws []; waiting = []; ram = ram }

module _ (e : Run) (x : Links) (p : Program) (st : Stands e x p) (deep : Type 0) where
  pub goes_start : (m : Procedure) → slice_get p.procedures p.start ≡ Some m → m.params ≡ 0 → (a b : ℕ) (v : View) (s : MachineState)
      → AreVectors v.out.interrupts → v.regs.of 1 ≡ 0 → v.static ≡ p.ram → v.stack ≡ a ∷ b ∷ []
      → (0x1100 < e.floor + length v.stack + length (x.places.layouts p.start).saved + (x.places.layouts p.start).slots → deep)
      → At e (x.entry p.start) v s → Goes e deep 0 s (Related e x p (at_start p v.out))
  goes_start m there none a b v s vectors one columns stack full at =
      let q = p.start in
      let l = x.places.layouts q in
      let ok = st.layouts q in
      let ps = st.procedures q m there in
      let bare = no_parameters l (x.places.live q 0) m.params ps.arguments none in
      let first : prologue l ≡ saves l = unsettled l bare.1 in
      let begins : x.place q 0 ≡ x.entry q + widths (saves l) = ps.begins ∙ ap (λ is. x.entry q + widths is) first in
      let to = x.entry q + widths (saves l) in
      let empty : l.pushed ≡ 0 = bare.0 in
      let state_is : begun_with l.widths p.ram ≡ first_state p = ap (λ ws. begun_with ws p.ram) (sym (ap widths_of there ∙ sym ps.locals)) in
      let K = λ (z : State). Lies x.places q (x.places.live q 0) z [] v.out in
      goes_wider e deep 0 s (Entered e l to v) (Related e x p (at_start p v.out))
      (λ t n. (
        record { waits = sym ps.waits; callers = tt; vectors = vectors },
        subst (λ z. Sees e (K z) (x.place q 0) t) state_is (subst (λ y. Sees e (K (begun_with l.widths p.ram)) y t) (sym begins) (lies t n empty)),
      ))
      (goes_saves e deep l (x.entry q) v s ok.no_pointer ok.small (subst (AllStandAt e.flash (x.entry q)) first ps.prologue_stands)
      (subst (λ is. x.entry q + widths is < 65536) first ps.room) full at)
    where
      lies : (t : MachineState) → (let l = x.places.layouts p.start in
          Entered e l (x.entry p.start + widths (saves l)) v t → l.pushed ≡ 0
          → Sees e (Lies x.places p.start (x.places.live p.start 0) (begun_with l.widths p.ram) [] v.out) (x.entry p.start + widths (saves l)) t)
      lies t n empty =
          let l = x.places.layouts p.start in
          let saved = map v.regs.of l.saved in
          let frame = n.slots ++ (saved ++ v.stack) in
          let whole : frame ≡ frame ++ [] = sym (append-nil frame) in
          let sum = length-append n.slots (saved ++ v.stack) in
          let sum' = length-append saved v.stack in
          let many = saved-length v.regs l.saved in
          let two : length v.stack ≡ 2 = ap length stack in
          let enough = n.enough in
          let long : length frame ≡ frame_size l = omega (arith, sum, sum', many, two, enough, empty) in
          record {
            view = record v { regs = n.regs; stack = frame };
            kind =
                record {
                  held =
                      record {
                        stacked =
                            record {
                              wait = [];
                              own = frame;
                              under = [];
                              cut = whole;
                              points = λ h. ap (λ z. pair n.regs 28 + 1 + length z) (sym whole) ∙ n.points h;
                              waits = refl;
                              fits = record { each = λ k y low alive got. absurd (no_value l.widths k y got); widths = begun_widths l.widths; long = long };
                              callers = refl;
                            };
                        r1 = n.others 1 (inl (omega arith)) ∙ one;
                        ram = columns;
                      };
                  out = refl;
                };
            at = n.at;
          }
