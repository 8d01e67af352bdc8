-- The template of a division whose remainder and dividend have four registers each: its turns, one behind another.
use Rattle.std.proofs.Common.{◌≡◌, ◌≢◌, ℕ, zero, suc, ◌+◌, ◌-◌, ◌/◌, ◌%◌, ◌^◌, ◌<◌, ◌≤◌, ◌⊎◌, inl, inr, Bool, true, false, not, ◌&&◌, ◌==◌, nat_lt}
use Rattle.std.proofs.Common.{if◌then◌else◌, List, [], ◌∷◌, ◌++◌, length, Option, Some, None, refl, sym, ap, ◌∙◌, subst, arith}
use Rattle.vg_meaning.specs.Outside.{Outside}
use Rattle.std.proofs.Math.Nat.{mod-eq_of_lt}
use Rattle.avr_instr.specs.declared.instr.Instr.{Instr}
use Rattle.avr_instr.specs.declared.instr.Instr.TheVariants.{Brbc, Brbs, Dec, Inc, Ldi}
use Rattle.avr_isa.specs.Flow.{near_from}
use Rattle.avr_isa.specs.Machine.{State as MachineState}
use Rattle.avr_isa.specs.Standing.{widths, AllStandAt}
use Rattle.avr_isa.proofs.Standing.{front_stands, back_stands, widths-append}
use Rattle.vg_lin.specs.declared.instr.Operand.{Operand}
use Rattle.vg_lin.specs.declared.instr.Operand.TheVariants.{Local, Known}
use Rattle.vg_lin.specs.Steps.{Frame, Goes as GoesOn}
use Rattle.vg_lin.specs.State.{State, value, using, sets, division_steps, divides}
use Rattle.vg_lin.specs.Values.{shifted_remainder, shifted_dividend, next_remainder, next_dividend}
use Rattle.avr_view.specs.Registers.{Regs, carried, does_all, ArePlain}
use Rattle.avr_view.specs.Run.{Run, Goes}
use Rattle.avr_view.specs.View.{View, At}
use Rattle.avr_view.proofs.Going.{goes_then, goes_fewer, goes_wider}
use Rattle.avr_view.proofs.JumpSteps.{goes_brcs, goes_brne}
use Rattle.avr_view.proofs.Steps.{register_below}
use Rattle.vg_templates.specs.Spots.{InRegisters, Apart, number, value_at, put_number, frame_with, registers_with}
use Rattle.vg_templates.specs.Layouts.{IsLayout, IsSpot, IsOwned, Agree, width_of}
use Rattle.vg_templates.specs.Frames.{Places}
use Rattle.vg_templates.specs.Pieces.{Sees, Takes}
use Rattle.vg_templates.specs.Held.{Held, IsReady, brings}
use Rattle.vg_templates.specs.Homes.{home_of, IsHome}
use Rattle.vg_templates.specs.Outcomes.{Lies}
use Rattle.vg_templates.specs.Numbers.{HoldBytes}
use Rattle.vg_templates.specs.Chains.{compares, subtracts}
use Rattle.vg_templates.specs.Shifts.{doubles, doubles_on}
use Rattle.vg_templates.specs.Products.{four_from, divides_through}
use Rattle.vg_templates.specs.Divisions.{shifts_both, takes_once, turns_in_place, divides_in_place, is_other, divides_at, divides_steps}
use Rattle.vg_templates.proofs.Bytes.{takes_plain_bytes}
use Rattle.vg_templates.proofs.Composing.{takes_then, takes_wider, takes_bytes}
use Rattle.vg_templates.proofs.Holding.{held_set}
use Rattle.vg_templates.proofs.Numbers.{put_other, put_number-beside}
use Rattle.vg_templates.proofs.Settings.{below_or}
use Rattle.vg_templates.proofs.Settling.{digits_same, home_is, held_own}
use Rattle.vg_templates.proofs.Storing.{held_fewer}
use Rattle.vg_followed.specs.Covered.{CanDivide}
use Rattle.vg_followed.proofs.Dividing.{other_local}
use Rattle.vg_followed.proofs.Made.{same_state, same_outside, used, some_same}
use Rattle.vg_followed.proofs.StepsInPlace.{AreFours, IsOut, Has, doubled, doubled_on, compared, subtracted, increased, counted}
use Rattle.vg_followed.proofs.StepsInPlace.{even_again, less_remainder, less_dividend, no_less, more_remainder, more_dividend}
use Rattle.vg_followed.proofs.Turning.{steps_count, is_none, is_some, takes_four_bytes, goes_through}
use Rattle.vg_followed.proofs.Working.{Works, SameBut, works_block, works_brings}

-- the value of an operand stays where others are set
stays : (a : Operand) (j x : ℕ) (s : State) → is_other a j ≡ true → value a (sets j x s) ≡ value a s
stays (Known y) j x s e = refl
stays (Local k) j x s e = other_local s.locals j x k (λ same. let clash : not (k == k) ≡ true = subst (λ n. not (k == n) ≡ true) same e in grind (arith, clash))

-- what the code sees is as it was, but for registers of which this holds
record Sole (F : Regs → Type 0) (old u : View) : Type 0 where
  pub facts : F u.regs
  pub same : u ≡ record old { regs = u.regs }

-- where the branches of a turn stand and where they lead
past : (pc : ℕ) → pc + 20 < 65536 → near_from (pc + 12) 5 ≡ pc + 12 + 1 + 5
past pc room = omega (arith, room)

back_to : (pc : ℕ) → pc + 20 < 65536 → near_from (pc + 12 + 1 + 5 + 1) 108 ≡ pc
back_to pc room = omega (arith, room)

module _ (e : Run) (deep : Type 0) where
  takes_sole : (F G : Regs → Type 0) (is : List Instr) (old v : View) → ArePlain is
      → ((g : Regs) → HoldBytes g → HoldBytes (does_all e.flash is g) → F g → G (does_all e.flash is g)) → Sole F old v → Takes e deep v is (Sole G old)
  takes_sole F G is old v plain made f =
      let u : View = record v { regs = does_all e.flash is v.regs } in
      takes_bytes e deep v is (Sole G old)
      (λ bytes. takes_wider e deep v is (λ t. (t ≡ u) × ((r : ℕ) → r < 32 → t.regs.of r < 256)) (Sole G old)
      (λ t k. subst (Sole G old) (sym k.0)
      (record {
        facts = made v.regs bytes (subst (λ (y : View). HoldBytes y.regs) k.0 k.1) f.facts;
        same = ap (λ (y : View). record y { regs = does_all e.flash is v.regs }) f.same;
      })) (takes_plain_bytes e deep v is plain))

  module _ (r d : ℕ) (lie : AreFours r d) (x y v left : ℕ) (few : suc left < 256) (old : View) where
    -- before a turn, behind its comparison, and where it has counted
    abbrev Begun : Regs → Type 0
    Begun g = Has r d x y v (suc left) old.regs g

    abbrev Compared : Regs → Type 0
    Compared g =
        Has r d (shifted_remainder x y) (shifted_dividend y) v (suc left) old.regs g × (g.flags.carry ≡ nat_lt (shifted_remainder x y) v)

    abbrev Turned : Regs → Type 0
    Turned g = Has r d (next_remainder x y v) (next_dividend x y v) v left old.regs g × (g.flags.zero ≡ (left == 0))

    takes_shifts : (u : View) → Sole Begun old u → Takes e deep u (shifts_both r d) (Sole Compared old)
    takes_shifts u k =
        let F1 = λ (g : Regs). Has r d x (shifted_dividend y) v (suc left) old.regs g × (carried g ≡ y % 256 ^ 4 / 2 ^ 31) in
        let F2 = λ (g : Regs). Has r d (shifted_remainder x y) (shifted_dividend y) v (suc left) old.regs g in
        let js = compares (four_from r) (four_from 18) in
        takes_then e deep u (doubles d 4) (doubles_on r 4 ++ js) (Sole F1 old) (Sole Compared old)
        (takes_sole Begun F1 (doubles d 4) old u (tt, (tt, (tt, (tt, tt))))
        (λ g b after f. doubled r d lie e.flash x y v (suc left) old.regs g b after f) k)
        (λ t q. takes_then e deep t (doubles_on r 4) js (Sole F2 old) (Sole Compared old)
        (takes_sole F1 F2 (doubles_on r 4) old t (tt, (tt, (tt, (tt, tt))))
        (λ g b after f. doubled_on r d lie e.flash x (shifted_dividend y) v (suc left) (y % 256 ^ 4 / 2 ^ 31) old.regs g b after f.0 f.1) q)
        (λ z p. takes_sole F2 Compared js old z (tt, (tt, (tt, (tt, tt))))
        (λ g b after f. compared r d lie e.flash (shifted_remainder x y) (shifted_dividend y) v (suc left) old.regs g b f) p))

    takes_counts : (u : View) (p q : ℕ) → p ≡ next_remainder x y v → q ≡ next_dividend x y v
        → Sole (λ g. Has r d p q v (suc left) old.regs g) old u → Takes e deep u (Dec 26 ∷ []) (Sole Turned old)
    takes_counts u p q is is' k =
        takes_sole (λ g. Has r d p q v (suc left) old.regs g) Turned (Dec 26 ∷ []) old u (tt, tt)
        (λ g b after f.
        subst (λ z. Has r d z (next_dividend x y v) v left old.regs (does_all e.flash (Dec 26 ∷ []) g) × ((does_all e.flash (Dec 26 ∷ []) g).flags.zero ≡ (left == 0))) is
        (subst (λ z. Has r d p z v left old.regs (does_all e.flash (Dec 26 ∷ []) g) × ((does_all e.flash (Dec 26 ∷ []) g).flags.zero ≡ (left == 0))) is'
        (counted r d lie e.flash p q v left old.regs g few f))) k

    takes_taking : (u : View) → nat_lt (shifted_remainder x y) v ≡ false → Sole Compared old u
        → Takes e deep u (takes_once r d) (Sole (λ g. Has r d (shifted_remainder x y - v) (suc (shifted_dividend y)) v (suc left) old.regs g) old)
    takes_taking u more k =
        let F1 = λ (g : Regs). Has r d (shifted_remainder x y - v) (shifted_dividend y) v (suc left) old.regs g in
        let F2 = λ (g : Regs). Has r d (shifted_remainder x y - v) (suc (shifted_dividend y)) v (suc left) old.regs g in
        takes_then e deep u (subtracts r (four_from 18)) (Inc d ∷ []) (Sole F1 old) (Sole F2 old)
        (takes_sole Compared F1 (subtracts r (four_from 18)) old u (tt, (tt, (tt, (tt, tt))))
        (λ g b after f.
        subtracted r d lie e.flash (shifted_remainder x y) (shifted_dividend y) v (suc left) old.regs g b after (no_less (shifted_remainder x y) v more) f.0) k)
        (λ t q. takes_sole F1 F2 (Inc d ∷ []) old t (tt, tt)
        (λ g b after f. increased r d lie e.flash (shifted_remainder x y - v) (shifted_dividend y) v (suc left) old.regs g b (even_again y) f) q)

    -- one turn, up to the branch that leads back
    abbrev rest : List Instr
    rest = Brbs 0 5 ∷ (takes_once r d ++ Dec 26 ∷ Brbc 1 108 ∷ [])

    goes_turn : (pc : ℕ) (w : View) (t : MachineState) → Sole Begun old w → AllStandAt e.flash pc (turns_in_place r d) → pc + 20 < 65536 → At e pc w t
        → Goes e deep 1 t (Sees e (Sole Turned old) (pc + 12 + 1 + 5 + 1))
    goes_turn pc w t k stand room at =
        let front = shifts_both r d in
        let goal = Sees e (Sole Turned old) (pc + 12 + 1 + 5 + 1) in
        goes_fewer e deep (12 + 0) 1 t goal (omega arith)
        (goes_then e deep 12 0 t (Sees e (Sole Compared old) (pc + 12)) goal
        (takes_shifts w k pc t (front_stands e.flash pc front rest stand) (omega (arith, room)) at)
        (λ q z. branch (nat_lt (shifted_remainder x y) v) refl z.view z.kind q z.at (back_stands e.flash pc front rest stand)))
      where
        branch : (flag : Bool) → nat_lt (shifted_remainder x y) v ≡ flag → (u : View) → Sole Compared old u → (q : MachineState) → At e (pc + 12) u q
            → AllStandAt e.flash (pc + 12) rest → Goes e deep 0 q (Sees e (Sole Turned old) (pc + 12 + 1 + 5 + 1))
        branch true less u c q b back =
            let goal = Sees e (Sole Turned old) (pc + 12 + 1 + 5 + 1) in
            let taken : u.regs.flags.carry ≡ true = c.facts.1 ∙ less in
            let tail = back_stands e.flash (pc + 12 + 1) (takes_once r d) (Dec 26 ∷ Brbc 1 108 ∷ []) back.1 in
            goes_fewer e deep (1 + 1) 0 q goal (omega arith)
            (goes_then e deep 1 1 q (At e (if u.regs.flags.carry then near_from (pc + 12) 5 else pc + 12 + 1) u) goal
            (goes_brcs e deep (pc + 12) u q b 5 back.0 (omega (arith, room)))
            (λ p a. takes_counts u (shifted_remainder x y) (shifted_dividend y) (less_remainder x y v less) (less_dividend x y v less)
            (record { facts = c.facts.0; same = c.same }) (pc + 12 + 1 + 5) p (tail.0, tt) (omega (arith, room))
            (subst (λ n. At e n u p) (past pc room) (subst (λ f. At e (if f then near_from (pc + 12) 5 else pc + 12 + 1) u p) taken a))))
        branch false more u c q b back =
            let goal = Sees e (Sole Turned old) (pc + 12 + 1 + 5 + 1) in
            let passed : u.regs.flags.carry ≡ false = c.facts.1 ∙ more in
            let front = front_stands e.flash (pc + 12 + 1) (takes_once r d) (Dec 26 ∷ Brbc 1 108 ∷ []) back.1 in
            let tail = back_stands e.flash (pc + 12 + 1) (takes_once r d) (Dec 26 ∷ Brbc 1 108 ∷ []) back.1 in
            let K = Sole (λ g. Has r d (shifted_remainder x y - v) (suc (shifted_dividend y)) v (suc left) old.regs g) old in
            goes_fewer e deep (1 + (5 + 1)) 0 q goal (omega arith)
            (goes_then e deep 1 (5 + 1) q (At e (if u.regs.flags.carry then near_from (pc + 12) 5 else pc + 12 + 1) u) goal
            (goes_brcs e deep (pc + 12) u q b 5 back.0 (omega (arith, room)))
            (λ p a. goes_then e deep 5 1 p (Sees e K (pc + 12 + 1 + 5)) goal
            (takes_taking u more c (pc + 12 + 1) p front (omega (arith, room))
            (subst (λ f. At e (if f then near_from (pc + 12) 5 else pc + 12 + 1) u p) passed a))
            (λ h j. takes_counts j.view (shifted_remainder x y - v) (suc (shifted_dividend y)) (more_remainder x y v more) (more_dividend x y v more)
            j.kind (pc + 12 + 1 + 5) h (tail.0, tt) (omega (arith, room)) j.at)))

-- ---- what lies there

module _ (i : Places) (ok : (m : ℕ) → IsLayout (i.layouts m)) (m : ℕ) (frames : List (Frame State)) (e : Run) (deep : Type 0) where
  module _ (live behind : ℕ → Bool) (j k : ℕ) (a : Operand) (can : CanDivide (i.layouts m) live behind j k a) where
    -- both locals have registers, and the divisor is neither
    module _ (r d : ℕ) (at_r : IsHome (i.layouts m) j 4 (Some r)) (at_d : IsHome (i.layouts m) k 4 (Some d)) (not_j : is_other a j ≡ true)
        (not_k : is_other a k ≡ true) where
      wide : (n : ℕ) → IsReady (i.layouts m) live (Local n) → 4 ≤ width_of (i.layouts m) n → width_of (i.layouts m) n ≡ 4
      wide n ready most = let narrow = (ok m).narrow n ready.0 in omega (arith, narrow, most)

      wide_j : width_of (i.layouts m) j ≡ 4
      wide_j = wide j can.ready_remainder at_r.1

      wide_k : width_of (i.layouts m) k ≡ 4
      wide_k = wide k can.ready_dividend at_d.1

      placed : (n f : ℕ) → IsReady (i.layouts m) live (Local n) → (i.layouts m).spots n ≡ InRegisters f → width_of (i.layouts m) n ≡ 4
          → (2 ≤ f) × (f + 4 ≤ 18)
      placed n f ready is w =
          let spot = subst (λ p. IsSpot (i.layouts m) p (width_of (i.layouts m) n)) is ((ok m).spot n ready.0) in
          (spot.0, subst (λ z. f + z ≤ 18) w spot.1)

      fours : AreFours r d
      fours =
          let l = i.layouts m in
          let p = placed j r can.ready_remainder at_r.0 wide_j in
          let q = placed k d can.ready_dividend at_d.0 wide_k in
          record {
            remainder_above = p.0;
            remainder_below = p.1;
            dividend_above = q.0;
            dividend_below = q.1;
            apart =
                lying (width_of l j) (width_of l k) wide_j wide_k
                (subst (λ z. Apart (InRegisters r) (width_of l j) z (width_of l k)) at_d.0
                (subst (λ z. Apart z (width_of l j) (l.spots k) (width_of l k)) at_r.0
                ((ok m).apart j k can.ready_remainder.0 can.ready_dividend.0 can.apart)));
          }
        where
          lying : (w n : ℕ) → w ≡ 4 → n ≡ 4 → Apart (InRegisters r) w (InRegisters d) n → (d + 4 ≤ r) ⊎ (r + 4 ≤ d)
          lying w n p q (inl h) = inl (omega (arith, h, q))
          lying w n p q (inr h) = inr (omega (arith, h, p))

      -- a local has its value in its registers
      found : (n f x : ℕ) (s : State) (v : View) → IsReady (i.layouts m) live (Local n) → (i.layouts m).spots n ≡ InRegisters f
          → width_of (i.layouts m) n ≡ 4 → value (Local n) s ≡ Some x → Held i m live s frames v → number v.regs f 4 ≡ x
      found n f x s v ready is w got h =
          let l = i.layouts m in
          let own = h.stacked.own in
          ap (number v.regs f) (sym w) ∙ ap (λ p. value_at p (width_of l n) own v.regs) (sym is) ∙ h.stacked.fits.each n x ready.0 ready.1 got

      -- both locals are set where their registers alone have changed
      held_both : (s : State) (x y z left : ℕ) (old u : View) → Held i m live s frames old → HoldBytes u.regs
          → Sole (λ g. Has r d x y z left old.regs g) old u → Held i m live (sets k y (sets j x s)) frames u
      held_both s x y z left old u h bytes f =
          let l = i.layouts m in
          let lie = fours in
          let above = lie.remainder_above in
          let between : View = record old { regs = put_number old.regs r 4 x } in
          let first : Held i m live (sets j x s) frames between =
          held_set i ok m frames live live s j x old between can.first h
          (subst (λ p. Agree (registers_with p (width_of l j) old.regs x) between.regs) (sym at_r.0)
          (subst (λ n. Agree (put_number old.regs r n x) between.regs) (sym wide_j) (λ q o. refl)))
          (put_number-beside old.regs r 4 x 1 (inl (omega (arith, above))) ∙ h.r1) refl
          (h.stacked.cut ∙ ap (λ p. h.stacked.wait ++ (frame_with p (width_of l j) h.stacked.own x ++ h.stacked.under)) (sym at_r.0)) in
          subst (λ n. Held i m live (sets k n (sets j x s)) frames u) (ap (number u.regs d) wide_k ∙ f.facts.dividend)
          (held_own i ok m frames live live (sets j x s) k d between u can.second at_d.0 first bytes
          (λ q owned out. others q (not_count q owned) (narrower q out)) f.same)
        where
          not_count : (q : ℕ) → (q ≡ 1) ⊎ IsOwned q → q ≢ 26
          not_count q (inl one) = omega (arith, one)
          not_count q (inr (inl o)) = let top = o.1 in omega (arith, top)
          not_count q (inr (inr o)) = let low = o.0 in omega (arith, low)

          narrower : (q : ℕ) → (q < d) ⊎ (d + width_of (i.layouts m) k ≤ q) → IsOut d q
          narrower q (inl o) = inl o
          narrower q (inr o) = inr (subst (λ n. d + n ≤ q) wide_k o)

          others : (q : ℕ) → q ≢ 26 → IsOut d q → u.regs.of q ≡ (put_number old.regs r 4 x).of q
          others q ne out =
              elim (below_or q r 4) [
                | inl inside ↦
                    let low = fours.remainder_below in
                    digits_same u.regs old.regs r 4 x q f.facts.remainder (λ p lo hi. bytes p (omega (arith, low, hi))) inside.0 inside.1
                | inr outside ↦ f.facts.others q ne outside out ∙ sym (put_number-beside old.regs r 4 x q outside)
              ]

      -- ---- the loop

      -- before a turn, where so many are to come, and where it has counted
      abbrev Between : (z left : ℕ) → State → Outside → View → Type 0
      Between z left s o v = Works i m live s frames o (λ g. (number g 18 4 ≡ z) × (g.of 26 ≡ left)) v

      abbrev Counted : (z left : ℕ) → State → Outside → View → Type 0
      Counted z left s o v = Works i m live s frames o (λ g. ((number g 18 4 ≡ z) × (g.of 26 ≡ left)) × (g.flags.zero ≡ (left == 0))) v

      turn : (x y z left : ℕ) (s : State) (o : Outside) (pc : ℕ) (v : View) (t : MachineState) → suc left < 256 → value (Local j) s ≡ Some x
          → value (Local k) s ≡ Some y → Between z (suc left) s o v → AllStandAt e.flash pc (turns_in_place r d) → pc + 20 < 65536 → At e pc v t
          → Goes e deep 1 t (Sees e (Counted z left (sets k (next_dividend x y z) (sets j (next_remainder x y z) s)) o) (pc + 12 + 1 + 5 + 1))
      turn x y z left s o pc v t few got got' w stand room at =
          let next = sets k (next_dividend x y z) (sets j (next_remainder x y z) s) in
          let K = Sole (λ g. Has r d (next_remainder x y z) (next_dividend x y z) z left v.regs g × (g.flags.zero ≡ (left == 0))) v in
          let place = pc + 12 + 1 + 5 + 1 in
          goes_wider e deep 1 t (Sees e K place) (Sees e (Counted z left next o) place)
          (λ q c.
          let f = c.kind.facts.0 in
          record {
            view = c.view;
            kind =
                record {
                  held =
                      held_both s (next_remainder x y z) (next_dividend x y z) z left v c.view w.held (register_below e place c.view q c.at)
                      (record { facts = f; same = c.kind.same });
                  facts = ((f.divisor, f.count), c.kind.facts.1);
                  out = ap (λ (u : View). u.out) c.kind.same ∙ w.out;
                };
            at = c.at;
          })
          (goes_turn e deep r d fours x y z left few v pc v t
          (record {
            facts =
                record {
                  remainder = found j r x s v can.ready_remainder at_r.0 wide_j got w.held;
                  dividend = found k d y s v can.ready_dividend at_d.0 wide_k got' w.held;
                  divisor = w.facts.0;
                  count = w.facts.1;
                  others = λ q ne out out'. refl;
                };
            same = refl;
          })
          stand room at)

      abbrev There : State → Outside → ℕ → MachineState → Type 0
      There s' o' pc = Sees e (Lies i m live s' frames o') (pc + 12 + 1 + 5 + 1 + 1)

      -- the branch that leads back stands behind it
      last_stands : (pc : ℕ) → AllStandAt e.flash pc (turns_in_place r d) → AllStandAt e.flash (pc + 12 + 1 + 5 + 1) (Brbc 1 108 ∷ [])
      last_stands pc stand =
          let behind = back_stands e.flash pc (shifts_both r d) (Brbs 0 5 ∷ (takes_once r d ++ Dec 26 ∷ Brbc 1 108 ∷ [])) stand in
          (back_stands e.flash (pc + 12 + 1) (takes_once r d) (Dec 26 ∷ Brbc 1 108 ∷ []) behind.1).1

      one_turn : (z left : ℕ) → suc left < 256 → (s s' : State) (o o' : Outside) (v : View) (pc : ℕ) (t : MachineState) → value a s ≡ Some z
          → divides (suc left) j k a s o ≡ GoesOn s' o' → Between z (suc left) s o v → AllStandAt e.flash pc (turns_in_place r d) → pc + 20 < 65536
          → At e pc v t
          → ((next : State) (u : View) (q : MachineState) → value a next ≡ Some z → divides left j k a next o ≡ GoesOn s' o' → Counted z left next o u
          → At e (pc + 12 + 1 + 5 + 1) u q → Goes e deep 0 q (There s' o' pc))
          → Goes e deep 1 t (There s' o' pc)
      one_turn z left few s s' o o' v pc t known made w stand room at go =
          let step = λ (x y z : ℕ). sets k (next_dividend x y z) (sets j (next_remainder x y z) s) in
          let final = λ (x y z : ℕ). divides left j k a (step x y z) o in
          let (x, (got, more)) = used (value (Local j) s) (λ x. using (value (Local k) s) (λ y. using (value a s) (λ z. final x y z))) s' o' made in
          let (y, (got', more')) = used (value (Local k) s) (λ y. using (value a s) (λ z. final x y z)) s' o' more in
          let (z', (got'', last)) = used (value a s) (λ z. final x y z) s' o' more' in
          let same : z' ≡ z = some_same z' z (sym got'' ∙ known) in
          let kept : value a (step x y z) ≡ Some z =
          stays a k (next_dividend x y z) (sets j (next_remainder x y z) s) not_k ∙ stays a j (next_remainder x y z) s not_j ∙ known in
          let place = pc + 12 + 1 + 5 + 1 in
          let goal = There s' o' pc in
          goes_then e deep 1 0 t (Sees e (Counted z left (step x y z) o) place) goal (turn x y z left s o pc v t few got got' w stand room at)
          (λ q c. go (step x y z) c.view q kept (subst (λ n. final x y n ≡ GoesOn s' o') same last) c.kind c.at)

      turns : (left count z : ℕ) → count ≡ suc left → suc left < 256 → (s s' : State) (o o' : Outside) (v : View) (pc : ℕ) (t : MachineState)
          → value a s ≡ Some z → divides count j k a s o ≡ GoesOn s' o' → Between z (suc left) s o v → AllStandAt e.flash pc (turns_in_place r d)
          → pc + 20 < 65536 → At e pc v t → Goes e deep 1 t (There s' o' pc)
      turns zero count z are few s s' o o' v pc t known made w stand room at =
          one_turn z 0 few s s' o o' v pc t known (subst (λ n. divides n j k a s o ≡ GoesOn s' o') are made) w stand room at (λ next u q kept last c b.
          let place = pc + 12 + 1 + 5 + 1 in
          let on : u.regs.flags.zero ≡ true = c.facts.1 ∙ is_none in
          goes_fewer e deep 1 0 q (There s' o' pc) (omega arith)
          (goes_wider e deep 1 q (At e (if not u.regs.flags.zero then near_from place 108 else place + 1) u) (There s' o' pc)
          (λ p h. record {
            view = u;
            kind =
                record {
                  held = subst (λ n. Held i m live n frames u) (same_state next s' o o' last) c.held;
                  out = c.out ∙ same_outside next s' o o' last;
                };
            at = subst (λ f. At e (if not f then near_from place 108 else place + 1) u p) on h;
          })
          (goes_brne e deep place u q b 108 (last_stands pc stand).0 (omega (arith, room)))))
      turns (suc left) count z are few s s' o o' v pc t known made w stand room at =
          one_turn z (suc left) few s s' o o' v pc t known (subst (λ n. divides n j k a s o ≡ GoesOn s' o') are made) w stand room at
          (λ next u q kept last c b.
          let place = pc + 12 + 1 + 5 + 1 in
          let off : u.regs.flags.zero ≡ false = c.facts.1 ∙ is_some left in
          let goal = There s' o' pc in
          goes_fewer e deep (1 + 1) 0 q goal (omega arith)
          (goes_then e deep 1 1 q (At e (if not u.regs.flags.zero then near_from place 108 else place + 1) u) goal
          (goes_brne e deep place u q b 108 (last_stands pc stand).0 (omega (arith, room)))
          (λ p h. turns left (suc left) z refl (omega (arith, few)) next s' o o' u pc p kept last
          (record { held = c.held; facts = c.facts.0; out = c.out }) stand room
          (subst (λ n. At e n u p) (back_to pc room) (subst (λ f. At e (if not f then near_from place 108 else place + 1) u p) off h)))))

      -- ---- the template

      loads_others : (g : Regs) → SameBut 18 10 g (does_all e.flash (Ldi 26 32 ∷ []) g)
      loads_others g q low (inl h) = put_other g 26 32 q (omega (arith, h))
      loads_others g q low (inr h) = put_other g 26 32 q (omega (arith, h))

      loads : (z : ℕ) (s : State) (o : Outside) (v : View) → Works i m live s frames o (λ g. Unit {0} × (number g 18 4 ≡ z)) v
          → Takes e deep v (Ldi 26 32 ∷ []) (Between z 32 s o)
      loads z s o v w =
          works_block i ok m frames e deep live s o (λ g. Unit {0} × (number g 18 4 ≡ z)) (λ g. (number g 18 4 ≡ z) × (g.of 26 ≡ 32)) (Ldi 26 32 ∷ []) (tt, tt)
          (λ g b after zero f. ((f.1, refl), loads_others g)) v w

      starts : (z : ℕ) (s : State) (v : View) → value a s ≡ Some z → z < 256 ^ 4 → Held i m live s frames v
          → Takes e deep v (brings (i.layouts m) a 18 4) (Works i m live s frames v.out (λ g. Unit {0} × (number g 18 4 ≡ z)))
      starts z s v got small held =
          takes_wider e deep v (brings (i.layouts m) a 18 4) (Works i m live s frames v.out (λ g. Unit {0} × (number g 18 4 ≡ z % 256 ^ 4)))
          (Works i m live s frames v.out (λ g. Unit {0} × (number g 18 4 ≡ z)))
          (λ u w. record { held = w.held; facts = (tt, w.facts.1 ∙ mod-eq_of_lt small); out = w.out })
          (works_brings i ok m frames e deep live s v.out (λ g. Unit {0}) a 18 4 z can.ready_divisor got (omega arith) (omega arith) (λ g h same f. tt) v
          (record { held = held; facts = tt; out = refl }))

      goes_in_place : (s s' : State) (o' : Outside) (v : View) (pc : ℕ) (t : MachineState) → divides division_steps j k a s v.out ≡ GoesOn s' o'
          → Held i m live s frames v → AllStandAt e.flash pc (divides_in_place (i.layouts m) r d a)
          → pc + widths (divides_in_place (i.layouts m) r d a) < 65536 → At e pc v t
          → Goes e deep 1 t (Sees e (Lies i m behind s' frames o') (pc + widths (divides_in_place (i.layouts m) r d a)))
      goes_in_place s s' o' v pc t made held stand room at =
          let is = brings (i.layouts m) a 18 4 in
          let js = turns_in_place r d in
          let goal = Sees e (Lies i m behind s' frames o') (pc + widths (is ++ Ldi 26 32 ∷ js)) in
          let all = widths-append is (Ldi 26 32 ∷ js) in
          let tail = back_stands e.flash pc is (Ldi 26 32 ∷ js) stand in
          let from = pc + widths is in
          let size : widths js ≡ 20 = refl in
          let inside : from + 1 + 20 < 65536 = omega (arith, all, room, size) in
          let end : from + 1 + 12 + 1 + 5 + 1 + 1 ≡ pc + widths (is ++ Ldi 26 32 ∷ js) = omega (arith, all, size) in
          let (z, got) = divisor s made in
          goes_fewer e deep (length is + (1 + 1)) 1 t goal (omega arith)
          (goes_then e deep (length is) (1 + 1) t (Sees e (Works i m live s frames v.out (λ g. Unit {0} × (number g 18 4 ≡ z))) from) goal
          (takes_four_bytes i ok m frames e deep live s a z v is (Works i m live s frames v.out (λ g. Unit {0} × (number g 18 4 ≡ z))) can.ready_divisor can.narrow
          got held (λ small. starts z s v got small held) pc t (front_stands e.flash pc is (Ldi 26 32 ∷ js) stand) (omega (arith, inside)) at)
          (λ q w. goes_then e deep 1 1 q (Sees e (Between z 32 s v.out) (from + 1)) goal
          (loads z s v.out w.view w.kind from q (tail.0, tt) (omega (arith, inside)) w.at)
          (λ p b. goes_wider e deep 1 p (There s' o' (from + 1)) goal
          (λ h c. record {
            view = c.view;
            kind = record { held = held_fewer i m live behind s' frames c.view can.kept c.kind.held; out = c.kind.out };
            at = subst (λ n. At e n c.view h) end c.at;
          })
          (turns 31 division_steps z steps_count (omega arith) s s' v.out o' b.view (from + 1) p got made b.kind tail.1 inside b.at))))
        where
          divisor : (s : State) → divides division_steps j k a s v.out ≡ GoesOn s' o' → (z : ℕ) × (value a s ≡ Some z)
          divisor s made =
              let one = subst (λ n. divides n j k a s v.out ≡ GoesOn s' o') steps_count made in
              let final = λ (x y z : ℕ). divides 31 j k a (sets k (next_dividend x y z) (sets j (next_remainder x y z) s)) v.out in
              let (x, (got, more)) = used (value (Local j) s) (λ x. using (value (Local k) s) (λ y. using (value a s) (λ z. final x y z))) s' o' one in
              let (y, (got', more')) = used (value (Local k) s) (λ y. using (value a s) (λ z. final x y z)) s' o' more in
              let (z, (got'', last)) = used (value a s) (λ z. final x y z) s' o' more' in
              (z, got'')

    -- by the homes of the two locals, and by what the divisor is
    pub goes_divides : (s s' : State) (o' : Outside) (v : View) (pc : ℕ) (t : MachineState) → divides division_steps j k a s v.out ≡ GoesOn s' o'
        → Held i m live s frames v → AllStandAt e.flash pc (divides_steps (i.layouts m) j k a) → pc + widths (divides_steps (i.layouts m) j k a) < 65536
        → At e pc v t → Goes e deep 1 t (Sees e (Lies i m behind s' frames o') (pc + widths (divides_steps (i.layouts m) j k a)))
    goes_divides s s' o' v pc t made held =
        by_homes (home_of (i.layouts m) j 4) (home_of (i.layouts m) k 4) (home_is (i.layouts m) j 4) (home_is (i.layouts m) k 4)
      where
        Follows : List Instr → Type 0
        Follows is =
            AllStandAt e.flash pc is → pc + widths is < 65536 → At e pc v t → Goes e deep 1 t (Sees e (Lies i m behind s' frames o') (pc + widths is))

        through : Follows (divides_through (i.layouts m) j k a)
        through = goes_through i ok m frames e deep live behind j k a can s s' o' v pc t made held

        by_homes : (h h' : Option ℕ) → IsHome (i.layouts m) j 4 h → IsHome (i.layouts m) k 4 h' → Follows (divides_at h h' (i.layouts m) j k a)
        by_homes None h' is is' = through
        by_homes (Some r) None is is' = through
        by_homes (Some r) (Some d) is is' = by_test (is_other a j) refl (is_other a k) refl
          where
            by_test : (b : Bool) → is_other a j ≡ b → (c : Bool) → is_other a k ≡ c
                → Follows (if b && c then divides_in_place (i.layouts m) r d a else divides_through (i.layouts m) j k a)
            by_test true p true q = goes_in_place r d is is' p q s s' o' v pc t made held
            by_test true p false q = through
            by_test false p c q = through
