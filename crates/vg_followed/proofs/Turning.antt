-- The template of a division whose values go through scratch registers: its turns, one behind another.
use Rattle.std.proofs.Common.{◌≡◌, ◌≢◌, ℕ, zero, suc, ◌+◌, ◌-◌, ◌%◌, ◌^◌, ◌<◌, ◌≤◌, inl, inr, Bool, true, false, ◌==◌, nat_lt, if◌then◌else◌}
use Rattle.std.proofs.Common.{List, [], ◌∷◌, ◌++◌, length, Some, refl, sym, ap, ◌∙◌, subst, arith, append_assoc, length-append, slice_index}
use Rattle.std.proofs.Math.Nat.{pow-le-pow_right}
use Rattle.vg_meaning.specs.Outside.{Outside}
use Rattle.avr_instr.specs.declared.instr.Instr.{Instr}
use Rattle.avr_instr.specs.declared.instr.Instr.TheVariants.{Brbs, Dec, Ldi, Rjmp}
use Rattle.avr_isa.specs.Flow.{near_from, far_from}
use Rattle.avr_isa.specs.Machine.{State as MachineState}
use Rattle.avr_isa.specs.Standing.{widths, AllStandAt}
use Rattle.avr_isa.proofs.Standing.{front_stands, back_stands, widths-append}
use Rattle.vg_lin.specs.declared.instr.Operand.{Operand}
use Rattle.vg_lin.specs.declared.instr.Operand.TheVariants.{Local, Known}
use Rattle.vg_lin.specs.Steps.{Frame, Goes as GoesOn}
use Rattle.vg_lin.specs.State.{State, value, using, sets, division_steps, divides}
use Rattle.vg_lin.specs.Values.{next_remainder, next_dividend}
use Rattle.avr_view.specs.Registers.{Regs, does_all}
use Rattle.avr_view.specs.Run.{Run, Goes}
use Rattle.avr_view.specs.View.{View, At}
use Rattle.avr_view.proofs.Going.{goes_then, goes_fewer, goes_wider}
use Rattle.avr_view.proofs.JumpSteps.{goes_breq, goes_rjmp}
use Rattle.vg_templates.specs.Spots.{Spot, InFrame, InRegisters, read, value_at}
use Rattle.vg_templates.specs.Layouts.{IsLayout, IsSpot, width_of}
use Rattle.vg_templates.specs.Frames.{Places}
use Rattle.vg_templates.specs.Pieces.{Sees, Takes}
use Rattle.vg_templates.specs.Held.{Held, IsReady}
use Rattle.vg_templates.specs.Outcomes.{Lies}
use Rattle.vg_templates.specs.Products.{divides_once, turns_back, divides_through}
use Rattle.vg_templates.proofs.Accessing.{read_within}
use Rattle.vg_templates.proofs.Bytes.{takes_cells, read_small, number_small}
use Rattle.vg_templates.proofs.Composing.{takes_then, takes_bytes}
use Rattle.vg_templates.proofs.Numbers.{put_other}
use Rattle.vg_templates.proofs.Storing.{held_fewer}
use Rattle.vg_followed.specs.Covered.{IsFourBytes, CanDivide}
use Rattle.vg_followed.proofs.Made.{same_state, same_outside, used, some_same}
use Rattle.vg_followed.proofs.Working.{Works, SameBut, works_block}
use Rattle.vg_followed.proofs.Words.{IsShort, once_short}
use Rattle.vg_followed.proofs.Dividing.{takes_divides_once}

pub steps_count : division_steps ≡ 32
unfolding division_steps
steps_count = refl

-- ---- r27

one_less : (x left : ℕ) → x ≡ suc left → suc left < 256 → (x + 255) % 256 ≡ left
one_less x left h low = omega (arith, h, low)

pub is_none : (0 == 0) ≡ true
is_none = refl

pub is_some : (n : ℕ) → (suc n == 0) ≡ false
is_some n = grind arith

dec_others : (flash : List ℕ) (g : Regs) → SameBut 18 10 g (does_all flash (Dec 27 ∷ []) g)
dec_others flash g r low (inl h) = put_other g 27 _ r (omega (arith, h))
dec_others flash g r low (inr h) = put_other g 27 _ r (omega (arith, h))

load_others : (flash : List ℕ) (g : Regs) → SameBut 18 10 g (does_all flash (Ldi 27 32 ∷ []) g)
load_others flash g r low (inl h) = put_other g 27 32 r (omega (arith, h))
load_others flash g r low (inr h) = put_other g 27 32 r (omega (arith, h))

-- ---- the way back

over : (pc n : ℕ) → pc + n + 3 < 65536 → near_from (pc + n + 1) 1 ≡ pc + n + 3
over pc n room = omega (arith, room)

back_to : (pc n : ℕ) → n ≤ 68 → pc + n + 3 < 65536 → far_from (pc + n + 2) (4093 - n) ≡ pc
back_to pc n few room =
    let long : nat_lt (4093 - n) 0x800 ≡ false = grind (arith, few) in
    ap (λ b. (pc + n + 2 + 1 + (4093 - n) + (if b then 0 else 0xF000)) % 65536) long
    ∙ (let e : (pc + n + 2 + 1 + (4093 - n) + 0xF000) % 65536 ≡ pc = omega (arith, few, room) in e)

module _ (i : Places) (ok : (m : ℕ) → IsLayout (i.layouts m)) (m : ℕ) (frames : List (Frame State)) (e : Run) (deep : Type 0) where
  -- the value of an operand has four bytes
  pub takes_four_bytes : (live : ℕ → Bool) (s : State) (a : Operand) (x : ℕ) (v : View) (is : List Instr) (K : View → Type 0) → IsReady (i.layouts m) live a
      → IsFourBytes a → value a s ≡ Some x → Held i m live s frames v → (x < 256 ^ 4 → Takes e deep v is K) → Takes e deep v is K
  takes_four_bytes live s (Known y) x v is K ready narrow got k h = h (subst (λ z. z < 256 ^ 4) (some_same y x got) narrow)
  takes_four_bytes live s (Local j) x v is K ready narrow got k h =
      takes_cells e deep v is K
      (λ cells. takes_bytes e deep v is K
      (λ bytes. h (at cells bytes ((i.layouts m).spots j) (width_of (i.layouts m) j) ((ok m).spot j ready.0) ((ok m).narrow j ready.0) (k.stacked.fits.each j x ready.0 ready.1 got))))
    where
      wider : (w y : ℕ) → w ≤ 4 → y < 256 ^ w → y < 256 ^ 4
      wider w y p q = let r = pow-le-pow_right {n = 256} (omega arith) p in omega (arith, q, r)

      at : ((n : ℕ) → n < length v.stack → slice_index v.stack n < 256) → ((r : ℕ) → r < 32 → v.regs.of r < 256) → (p : Spot) (w : ℕ)
          → IsSpot (i.layouts m) p w → w ≤ 4 → value_at p w k.stacked.own v.regs ≡ x → x < 256 ^ 4
      at cells bytes (InRegisters r) w spot small value_is =
          let inside = spot.1 in
          wider w x small (subst (λ z. z < 256 ^ w) value_is (number_small v.regs r w (λ z lo hi. bytes z (omega arith))))
      at cells bytes (InFrame p) w spot small value_is =
          let t = k.stacked in
          let long = t.fits.long in
          let inside = spot.1 in
          let sizes = ap length t.cut ∙ length-append t.wait (t.own ++ t.under) ∙ ap (λ z. length t.wait + z) (length-append t.own t.under) in
          let whole : read v.stack (length t.wait + p) w ≡ read t.own p w =
          ap (λ l. read l (length t.wait + p) w) t.cut ∙ read_within t.wait t.own t.under p w (omega arith) in
          wider w x small (subst (λ z. z < 256 ^ w) (whole ∙ value_is) (read_small v.stack (length t.wait + p) w cells (omega (arith, sizes, long, inside))))

  module _ (live behind : ℕ → Bool) (r d : ℕ) (a : Operand) (can : CanDivide (i.layouts m) live behind r d a) where
    abbrev once : List Instr
    once = divides_once (i.layouts m) r d a

    abbrev size : ℕ
    size = length once

    abbrev loop : List Instr
    loop = once ++ turns_back size

    abbrev rest : List Instr
    rest = Brbs 1 1 ∷ Rjmp (4093 - size) ∷ []

    short : IsShort 68 once
    short = once_short (i.layouts m) (ok m) r d a can.ready_remainder.0 can.ready_dividend.0

    -- before a turn, where so many are to come
    abbrev Between : (left : ℕ) → State → Outside → View → Type 0
    Between left s o v = Works i m live s frames o (λ g. Unit {0} × (g.of 27 ≡ left)) v

    -- behind its last instruction but two, which counts
    abbrev Counted : (left : ℕ) → State → Outside → View → Type 0
    Counted left s o v = Works i m live s frames o (λ g. (g.of 27 ≡ left) × (g.flags.zero ≡ (left == 0))) v

    counted : (left : ℕ) (s : State) (o : Outside) (v : View) → suc left < 256 → Between (suc left) s o v → Takes e deep v (Dec 27 ∷ []) (Counted left s o)
    counted left s o v low w =
        works_block i ok m frames e deep live s o (λ g. Unit {0} × (g.of 27 ≡ suc left)) (λ g. (g.of 27 ≡ left) × (g.flags.zero ≡ (left == 0))) (Dec 27 ∷ [])
        (tt, tt)
        (λ g b after zero f. ((one_less (g.of 27) left f.1 low, ap (λ z. z == 0) (one_less (g.of 27) left f.1 low)), dec_others e.flash g)) v w

    turn : (left : ℕ) (s : State) (o : Outside) (x y z : ℕ) (v : View) → suc left < 256 → value (Local r) s ≡ Some x → value (Local d) s ≡ Some y
        → value a s ≡ Some z → Between (suc left) s o v
        → Takes e deep v (once ++ Dec 27 ∷ []) (Counted left (sets d (next_dividend x y z) (sets r (next_remainder x y z) s)) o)
    turn left s o x y z v low got got' got'' w =
        let next = sets d (next_dividend x y z) (sets r (next_remainder x y z) s) in
        let is = once ++ Dec 27 ∷ [] in
        takes_four_bytes live s a z v is (Counted left next o) can.ready_divisor can.narrow got'' w.held
        (λ small. takes_then e deep v once (Dec 27 ∷ []) (Between (suc left) next o) (Counted left next o)
        (takes_divides_once i ok m frames e deep (suc left) live s o r d a x y z v can.apart can.ready_remainder can.ready_dividend can.ready_divisor can.first
        can.second got got' got'' small w)
        (λ u k. counted left next o u low k))

    -- the run is behind the loop, in this state
    abbrev There : State → Outside → ℕ → MachineState → Type 0
    There s' o' pc = Sees e (Lies i m live s' frames o') (pc + widths loop)

    wide : widths loop ≡ size + 3
    wide = let w = widths-append once (turns_back size) in let words = short.words in omega (arith, w, words)

    wide_turn : widths (once ++ Dec 27 ∷ []) ≡ size + 1
    wide_turn = let w = widths-append once (Dec 27 ∷ []) in let words = short.words in omega (arith, w, words)

    rest_stands : (pc : ℕ) → AllStandAt e.flash pc loop → AllStandAt e.flash (pc + size + 1) rest
    rest_stands pc stand =
        let words = short.words in
        let here : pc + widths once + 1 ≡ pc + size + 1 = omega (arith, words) in
        let tail = back_stands e.flash pc once (turns_back size) stand in
        subst (λ n. AllStandAt e.flash n rest) here tail.1

    -- one turn, and what is behind it
    one_turn : (left : ℕ) → suc left < 256 → (s s' : State) (o o' : Outside) (v : View) (pc : ℕ) (t : MachineState)
        → divides (suc left) r d a s o ≡ GoesOn s' o' → Between (suc left) s o v → AllStandAt e.flash pc loop → pc + widths loop < 65536 → At e pc v t
        → ((next : State) (u : View) (q : MachineState) → divides left r d a next o ≡ GoesOn s' o' → Counted left next o u
        → At e (pc + size + 1) u q → Goes e deep 1 q (There s' o' pc))
        → Goes e deep 1 t (There s' o' pc)
    one_turn left low s s' o o' v pc t made w stand room at go =
        let step = λ (x y z : ℕ). sets d (next_dividend x y z) (sets r (next_remainder x y z) s) in
        let final = λ (x y z : ℕ). divides left r d a (step x y z) o in
        let (x, (got, more)) = used (value (Local r) s) (λ x. using (value (Local d) s) (λ y. using (value a s) (λ z. final x y z))) s' o' made in
        let (y, (got', more')) = used (value (Local d) s) (λ y. using (value a s) (λ z. final x y z)) s' o' more in
        let (z, (got'', last)) = used (value a s) (λ z. final x y z) s' o' more' in
        let is = once ++ Dec 27 ∷ [] in
        let K = Counted left (step x y z) o in
        let all = wide in
        let here = wide_turn in
        let there : pc + widths is ≡ pc + size + 1 = omega (arith, here) in
        let stands = front_stands e.flash pc is rest (subst (AllStandAt e.flash pc) (sym (append_assoc once (Dec 27 ∷ []) rest)) stand) in
        let goal = There s' o' pc in
        goes_fewer e deep (length is + 1) 1 t goal (omega arith)
        (goes_then e deep (length is) 1 t (Sees e K (pc + widths is)) goal
        (turn left s o x y z v low got got' got'' w pc t stands (omega (arith, here, all, room)) at)
        (λ q k. go (step x y z) k.view q last k.kind (subst (λ n. At e n k.view q) there k.at)))

    turns : (left count : ℕ) → count ≡ suc left → suc left < 256 → (s s' : State) (o o' : Outside) (v : View) (pc : ℕ) (t : MachineState)
        → divides count r d a s o ≡ GoesOn s' o' → Between (suc left) s o v → AllStandAt e.flash pc loop → pc + widths loop < 65536 → At e pc v t
        → Goes e deep 1 t (There s' o' pc)
    turns zero count few low s s' o o' v pc t made w stand room at =
        one_turn 0 low s s' o o' v pc t (subst (λ n. divides n r d a s o ≡ GoesOn s' o') few made) w stand room at (λ next u q last k b.
        let all = wide in
        let on : u.regs.flags.zero ≡ true = k.facts.1 ∙ is_none in
        let inside : pc + size + 3 < 65536 = omega (arith, all, room) in
        let behind : near_from (pc + size + 1) 1 ≡ pc + widths loop = over pc size inside ∙ (let z : pc + size + 3 ≡ pc + widths loop = omega (arith, all) in z) in
        goes_wider e deep 1 q (At e (if u.regs.flags.zero then near_from (pc + size + 1) 1 else pc + size + 1 + 1) u) (There s' o' pc)
        (λ p c. record {
          view = u;
          kind =
              record {
                held = subst (λ x. Held i m live x frames u) (same_state next s' o o' last) k.held;
                out = k.out ∙ same_outside next s' o o' last;
              };
          at =
              subst (λ n. At e n u p) behind
              (subst (λ f. At e (if f then near_from (pc + size + 1) 1 else pc + size + 1 + 1) u p) on c);
        })
        (goes_breq e deep (pc + size + 1) u q b 1 (rest_stands pc stand).0 (omega (arith, inside))))
    turns (suc left) count few low s s' o o' v pc t made w stand room at =
        one_turn (suc left) low s s' o o' v pc t (subst (λ n. divides n r d a s o ≡ GoesOn s' o') few made) w stand room at (λ next u q last k b.
        let all = wide in
        let off : u.regs.flags.zero ≡ false = k.facts.1 ∙ is_some left in
        let inside : pc + size + 3 < 65536 = omega (arith, all, room) in
        let few = short.few in
        let back : far_from (pc + size + 2) (4093 - size) ≡ pc = back_to pc size few inside in
        let place : pc + size + 1 + 1 ≡ pc + size + 2 = omega arith in
        let jump = subst (λ n. AllStandAt e.flash n (Rjmp (4093 - size) ∷ [])) place (rest_stands pc stand).1 in
        let away : far_from (pc + size + 2) (4093 - size) ≢ pc + size + 2 = subst (λ n. n ≢ pc + size + 2) (sym back) (omega arith) in
        let goal = There s' o' pc in
        goes_fewer e deep (1 + (1 + 1)) 1 q goal (omega arith)
        (goes_then e deep 1 (1 + 1) q (At e (if u.regs.flags.zero then near_from (pc + size + 1) 1 else pc + size + 1 + 1) u) goal
        (goes_breq e deep (pc + size + 1) u q b 1 (rest_stands pc stand).0 (omega (arith, inside)))
        (λ p c. goes_then e deep 1 1 p (At e (far_from (pc + size + 2) (4093 - size)) u) goal
        (goes_rjmp e deep (pc + size + 2) u p
        (subst (λ n. At e n u p) place (subst (λ f. At e (if f then near_from (pc + size + 1) 1 else pc + size + 1 + 1) u p) off c)) (4093 - size) jump.0 away)
        (λ h j. turns left (suc left) refl (omega (arith, low)) next s' o o' u pc h last
        (record { held = k.held; facts = (tt, k.facts.0); out = k.out }) stand room (subst (λ n. At e n u h) back j)))))

    -- the whole template
    pub goes_through : (s s' : State) (o' : Outside) (v : View) (pc : ℕ) (t : MachineState) → divides division_steps r d a s v.out ≡ GoesOn s' o'
        → Held i m live s frames v → AllStandAt e.flash pc (divides_through (i.layouts m) r d a) → pc + widths (divides_through (i.layouts m) r d a) < 65536
        → At e pc v t → Goes e deep 1 t (Sees e (Lies i m behind s' frames o') (pc + widths (divides_through (i.layouts m) r d a)))
    goes_through s s' o' v pc t made held stand room at =
        let goal = Sees e (Lies i m behind s' frames o') (pc + widths (divides_through (i.layouts m) r d a)) in
        let last : pc + 1 + widths loop ≡ pc + widths (divides_through (i.layouts m) r d a) = omega arith in
        goes_fewer e deep (1 + 1) 1 t goal (omega arith)
        (goes_then e deep 1 1 t (Sees e (Between 32 s v.out) (pc + 1)) goal
        (works_block i ok m frames e deep live s v.out (λ g. Unit {0}) (λ g. Unit {0} × (g.of 27 ≡ 32)) (Ldi 27 32 ∷ []) (tt, tt)
        (λ g b after zero f. ((tt, refl), load_others e.flash g)) v (record { held = held; facts = tt; out = refl }) pc t (stand.0, tt) (omega (arith, room)) at)
        (λ q k. goes_wider e deep 1 q (There s' o' (pc + 1)) goal
        (λ p c. record {
          view = c.view;
          kind = record { held = held_fewer i m live behind s' frames c.view can.kept c.kind.held; out = c.kind.out };
          at = subst (λ n. At e n c.view p) last c.at;
        })
        (turns 31 division_steps steps_count (omega arith) s s' v.out o' k.view (pc + 1) q made k.kind stand.1 (omega (arith, room, last)) k.at)))
