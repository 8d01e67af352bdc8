-- Dispatches: cases that are tried from the last one on.
use Rattle.std.proofs.Common.{◌≡◌, ◌≢◌, ℕ, zero, suc, ◌+◌, ◌*◌, ◌%◌, ◌<◌, ◌≤◌, ◌⊎◌, inl, inr, Bool, true, false, ◌&&◌, ◌==◌}
use Rattle.std.proofs.Common.{nat_lt, nat_le, if◌then◌else◌, List, [], ◌∷◌, ◌++◌, length, length-append, Some, None, refl, sym, ap, ◌∙◌, subst, arith}
use Rattle.avr_instr.specs.declared.instr.Instr.{Instr}
use Rattle.avr_instr.specs.declared.instr.Instr.TheVariants.{Brbc, Mov, Movw}
use Rattle.avr_isa.specs.Flags.{number as number_of}
use Rattle.avr_isa.specs.Flow.{near_from}
use Rattle.avr_isa.specs.Machine.{State as MachineState}
use Rattle.avr_isa.specs.Standing.{widths, AllStandAt}
use Rattle.avr_isa.proofs.Standing.{front_stands, back_stands, widths-append}
use Rattle.vg_codes.specs.declared.case.Case.{Case}
use Rattle.vg_codes.specs.Dispatch.{is_within, procedure_for}
use Rattle.vg_lin.specs.declared.instr.Operand.{Operand}
use Rattle.vg_lin.specs.declared.instr.Operand.TheVariants.{Local, Known}
use Rattle.vg_lin.specs.Steps.{Frame}
use Rattle.vg_lin.specs.State.{State, value, sets}
use Rattle.avr_view.specs.Registers.{Regs, put, does_all}
use Rattle.avr_view.specs.Run.{Run, Goes}
use Rattle.avr_view.specs.View.{View, At}
use Rattle.avr_view.proofs.Going.{goes_then, goes_fewer, goes_wider}
use Rattle.avr_view.proofs.JumpSteps.{goes_brbc}
use Rattle.avr_view.proofs.Rows.{carry_set}
use Rattle.avr_view.proofs.Steps.{register_below}
use Rattle.vg_templates.specs.Spots.{Spot, InFrame, InRegisters, number}
use Rattle.vg_templates.specs.Layouts.{IsLayout, IsOwned, width_of}
use Rattle.vg_templates.specs.Frames.{Places}
use Rattle.vg_templates.proofs.Numbers.{put_other, put_same}
use Rattle.vg_templates.specs.Pieces.{Sees, Takes}
use Rattle.vg_templates.specs.Transfers.{known, moves, loads, reach, fetch}
use Rattle.vg_templates.specs.Transferred.{Fetched}
use Rattle.vg_templates.specs.Held.{Held, IsReady, IsSet, brings, gives, Brought, Given}
use Rattle.vg_templates.proofs.Composing.{takes_plain, takes_wider}
use Rattle.vg_templates.proofs.Holding.{held_scratch, takes_brings, takes_gives}
use Rattle.vg_templates.proofs.Spotting.{takes_known}
use Rattle.vg_templates.specs.Numbers.{HoldBytes}
use Rattle.vg_templates.specs.Chains.{takes_known as takes_away}
use Rattle.vg_templates.proofs.Registers.{put_bytes}
use Rattle.vg_templates.proofs.Sums.{difference_below, takes_known-takes}
use Rattle.vg_templates.specs.Outcomes.{Lies}
use Rattle.vg_templates.proofs.Bytes.{number_small}
use Rattle.vg_templates.specs.Choices.{count_of, most_in, usual, is_alone, unusual, chosen}
use Rattle.vg_templates.specs.Lookups.{tries_case, tries_cases, finds_procedure}
use Rattle.vg_templates.proofs.Choosing.{chosen_is}
use Rattle.vg_followed.specs.Tables.{IsCase, AreCases}

-- ---- one test

-- the second borrow tells whether a number is within a case
within_is : (n f k a b : ℕ) (c d : Bool) → n < 65536 → f < 65536 → k < 65536 → f + k ≤ 65536 → a < 65536 → b < 65536
    → a + (f % 65536 + 0) ≡ n + 65536 * number_of c → b + (k % 65536 + 0) ≡ a + 65536 * number_of d → d ≡ is_within f k n
within_is n f k a b c d n_low f_low k_low last a_low b_low first second = by_low (nat_le f n) refl
  where
    by_high : f ≤ n → (q : Bool) → nat_lt n (f + k) ≡ q → d ≡ q
    by_high up true t = let inside : n < f + k = grind (arith, t) in flag d c first second
      where
        flag : (d c : Bool) → a + (f % 65536 + 0) ≡ n + 65536 * number_of c → b + (k % 65536 + 0) ≡ a + 65536 * number_of d → d ≡ true
        flag true c h1 h2 = refl
        flag false true h1 h2 = absurd (let inside : n < f + k = grind (arith, t) in omega (arith, h1, h2))
        flag false false h1 h2 = absurd (let inside : n < f + k = grind (arith, t) in omega (arith, h1, h2))
    by_high up false t = flag d c first second
      where
        flag : (d c : Bool) → a + (f % 65536 + 0) ≡ n + 65536 * number_of c → b + (k % 65536 + 0) ≡ a + 65536 * number_of d → d ≡ false
        flag false c h1 h2 = refl
        flag true true h1 h2 = absurd (let beyond : f + k ≤ n = grind (arith, t) in omega (arith, h1, h2))
        flag true false h1 h2 = absurd (let beyond : f + k ≤ n = grind (arith, t) in omega (arith, h1, h2))

    by_low : (p : Bool) → nat_le f n ≡ p → d ≡ p && nat_lt n (f + k)
    by_low true t = by_high (let up : f ≤ n = grind (arith, t) in up) (nat_lt n (f + k)) refl
    by_low false t = flag d c first second
      where
        flag : (d c : Bool) → a + (f % 65536 + 0) ≡ n + 65536 * number_of c → b + (k % 65536 + 0) ≡ a + 65536 * number_of d → d ≡ false
        flag false c h1 h2 = refl
        flag true true h1 h2 = absurd (let below : n < f = grind (arith, t) in omega (arith, h1, h2))
        flag true false h1 h2 = absurd (let below : n < f = grind (arith, t) in omega (arith, h1, h2))

abbrev test_case : Case → List Instr
test_case c = Movw 26 24 ∷ takes_away 26 2 c.first ++ takes_away 26 2 c.count

-- the carry tells, and X alone has changed
record Tested (c : Case) (n : ℕ) (old new : Regs) : Type 0 where
  pub tells : new.flags.carry ≡ is_within c.first c.count n
  pub others : (r : ℕ) → (r < 26) ⊎ (28 ≤ r) → new.of r ≡ old.of r

tested : (flash : List ℕ) (codes : ℕ → ℕ) (c : Case) (n : ℕ) (g : Regs) → IsCase codes c → HoldBytes g → number g 24 2 ≡ n
    → Tested c n g (does_all flash (test_case c) g)
tested flash codes c n g is b at =
    let g1 = put (put g 26 (g.of 24)) 27 (g.of 25) in
    let b1 = put_bytes (put g 26 (g.of 24)) 27 (g.of 25) (b 25 (omega arith)) (put_bytes g 26 (g.of 24) (b 24 (omega arith)) b) in
    let h1 = does_all flash (takes_away 26 2 c.first) g1 in
    let t1 = takes_known-takes flash 0 32 (omega arith) 26 2 c.first g1 (omega arith) b1 (omega arith) in
    let c1 : HoldBytes h1 = two_bytes flash c.first g1 b1 in
    let h2 = does_all flash (takes_away 26 2 c.count) h1 in
    let t2 = takes_known-takes flash 0 32 (omega arith) 26 2 c.count h1 (omega arith) c1 (omega arith) in
    let c2 : HoldBytes h2 = two_bytes flash c.count h1 c1 in
    let low : g1.of 26 ≡ g.of 24 = put_other (put g 26 (g.of 24)) 27 (g.of 25) 26 (omega arith) ∙ put_same g 26 (g.of 24) in
    let high : g1.of 27 ≡ g.of 25 = put_same (put g 26 (g.of 24)) 27 (g.of 25) in
    let start : number g1 26 2 ≡ n = ap (λ z. z + 256 * (g1.of 27 + 256 * 0)) low ∙ ap (λ z. g.of 24 + 256 * (z + 256 * 0)) high ∙ at in
    let n_small : n < 65536 = subst (λ z. z < 65536) at (number_small g 24 2 (λ r lo hi. b r (omega arith))) in
    record {
      tells =
          within_is n c.first c.count (number h1 26 2) (number h2 26 2) h1.flags.carry h2.flags.carry n_small is.first is.count is.last
          (number_small h1 26 2 (λ r lo hi. c1 r (omega arith))) (number_small h2 26 2 (λ r lo hi. c2 r (omega arith)))
          (t1.difference ∙ ap (λ z. z + 65536 * number_of h1.flags.carry) start) t2.difference;
      others = λ r h. t2.others r h ∙ t1.others r h ∙ beside r h;
    }
  where
    two_bytes : (flash : List ℕ) (v : ℕ) (g : Regs) → HoldBytes g → HoldBytes (does_all flash (takes_away 26 2 v) g)
    two_bytes flash v g b = put_bytes (put g 26 _) 27 _ (difference_below _ _ _) (put_bytes g 26 _ (difference_below _ _ _) b)

    beside : (r : ℕ) → (r < 26) ⊎ (28 ≤ r) → (put (put g 26 (g.of 24)) 27 (g.of 25)).of r ≡ g.of r
    beside r (inl h) = put_other (put g 26 _) 27 _ r (let ne : r ≢ 27 = omega arith in ne) ∙ put_other g 26 _ r (let ne : r ≢ 26 = omega arith in ne)
    beside r (inr h) = put_other (put g 26 _) 27 _ r (let ne : r ≢ 27 = omega arith in ne) ∙ put_other g 26 _ r (let ne : r ≢ 26 = omega arith in ne)

-- ---- all cases

-- r24 and r25 hold the number, and r22 and r23 the code number of the procedure that the cases choose for it
record Tried (i : Places) (m : ℕ) (live : ℕ → Bool) (s : State) (frames : List (Frame State)) (codes : ℕ → ℕ) (p : ℕ) (cases : List Case) (n : ℕ)
    (old new : View) : Type 0 where
  pub held : Held i m live s frames new
  pub index : number new.regs 24 2 ≡ n
  pub found : number new.regs 22 2 ≡ codes (chosen p cases n)
  pub out : new.out ≡ old.out

some_same : (x y : ℕ) → Some x ≡ Some y → x ≡ y
some_same x y e = cc

-- code that may pass over some of its instructions
abbrev Passes : (e : Run) (deep : Type 0) (v : View) (is : List Instr) (K : View → Type 0) → Type 0
Passes e deep v is K =
    (pc : ℕ) (s : MachineState) → AllStandAt e.flash pc is → pc + widths is < 65536 → At e pc v s → Goes e deep 0 s (Sees e K (pc + widths is))

passes_takes : (e : Run) (deep : Type 0) (v : View) (is : List Instr) (K : View → Type 0) → Takes e deep v is K → Passes e deep v is K
passes_takes e deep v is K piece pc s stand room a = goes_fewer e deep (length is) 0 s (Sees e K (pc + widths is)) (omega arith) (piece pc s stand room a)

passes_then : (e : Run) (deep : Type 0) (v : View) (is js : List Instr) (K L : View → Type 0) → Passes e deep v is K
    → ((u : View) → K u → Passes e deep u js L) → Passes e deep v (is ++ js) L
passes_then e deep v is js K L first rest pc s stand room a =
    let wide = widths-append is js in
    let goal = Sees e L (pc + widths (is ++ js)) in
    let to : pc + widths is + widths js ≡ pc + widths (is ++ js) = omega (arith, wide) in
    goes_then e deep 0 0 s (Sees e K (pc + widths is)) goal (first pc s (front_stands e.flash pc is js stand) (omega (arith, room, wide)) a)
    (λ t k. subst (λ n. Goes e deep 0 t (Sees e L n)) to
    (rest k.view k.kind (pc + widths is) t (back_stands e.flash pc is js stand) (omega (arith, room, wide)) k.at))

module _ (i : Places) (ok : (m : ℕ) → IsLayout (i.layouts m)) (m : ℕ) (frames : List (Frame State)) (e : Run) (deep : Type 0) where
  -- scratch registers change alone
  by_scratch : (live : ℕ → Bool) (s : State) (v u : View) → ((r : ℕ) → (r < 22) ⊎ (28 ≤ r) → r < 30 → u.regs.of r ≡ v.regs.of r)
      → u ≡ record v { regs = u.regs } → Held i m live s frames v → Held i m live s frames u
  by_scratch live s v u others same k = held_scratch i ok m frames live s v u same agree (others 1 (inl (omega arith)) (omega arith)) k
    where
      agree : (r : ℕ) → IsOwned r → u.regs.of r ≡ v.regs.of r
      agree r (inl h) = let up = h.1 in others r (inl (omega arith)) (omega arith)
      agree r (inr h) = others r (inr h.0) h.1

  -- a code number comes in
  takes_code : (live : ℕ → Bool) (s : State) (codes : ℕ → ℕ) (x p : ℕ) (cs : List Case) (n : ℕ) (old v : View) → x < 65536
      → x ≡ codes (chosen p cs n) → number v.regs 24 2 ≡ n → v.out ≡ old.out → Held i m live s frames v
      → Takes e deep v (known 22 2 x) (Tried i m live s frames codes p cs n old)
  takes_code live s codes x p cs n old v small here at out k =
      takes_wider e deep v (known 22 2 x) (Fetched 22 2 x v) (Tried i m live s frames codes p cs n old)
      (λ u f.
      let holds = f.holds in
      let low = f.others 24 (omega arith) (inr (omega arith)) in
      let high = f.others 25 (omega arith) (inr (omega arith)) in
      record {
        held = by_scratch live s v u (λ r beside small'. f.others r small' (apart r beside)) f.same k;
        index = omega (arith, low, high, at);
        found = (let value : number u.regs 22 2 ≡ x = omega (arith, holds, small) in value) ∙ here;
        out = ap (λ (z : View). z.out) f.same ∙ out;
      })
      (takes_known e deep 22 2 x v)
    where
      apart : (r : ℕ) → (r < 22) ⊎ (28 ≤ r) → (r < 22) ⊎ (22 + 2 ≤ r)
      apart r (inl h) = inl h
      apart r (inr h) = inr (omega arith)

  -- one more case is tried
  passes_case : (live : ℕ → Bool) (s : State) (codes : ℕ → ℕ) (p : ℕ) (c : Case) (cs : List Case) (n : ℕ) (old v : View) → IsCase codes c
      → Tried i m live s frames codes p cs n old v → Passes e deep v (tries_case codes c) (Tried i m live s frames codes p (c ∷ cs) n old)
  passes_case live s codes p c cs n old v is tried pc t stand room a =
      let js = known 22 2 (codes c.procedure) in
      let u : View = record v { regs = does_all e.flash (test_case c) v.regs } in
      let told = tested e.flash codes c n v.regs is (register_below e pc v t a) tried.index in
      let held_u : Held i m live s frames u = by_scratch live s v u (λ r beside small. told.others r (wider r beside)) refl tried.held in
      let low = told.others 24 (inl (omega arith)) in
      let high = told.others 25 (inl (omega arith)) in
      let before = tried.index in
      let at : number u.regs 24 2 ≡ n = omega (arith, low, high, before) in
      let goal = Sees e (Tried i m live s frames codes p (c ∷ cs) n old) (pc + widths (tries_case codes c)) in
      goes_fewer e deep 5 0 t goal (omega arith)
      (goes_then e deep 5 0 t (Sees e (λ x. x ≡ u) (pc + 5)) goal
      (takes_plain e deep v (test_case c) (tt, (tt, (tt, (tt, (tt, tt))))) pc t (front_stands e.flash pc (test_case c) (Brbc 0 2 ∷ js) stand) (omega (arith, room)) a)
      (λ q z.
      let back = back_stands e.flash pc (test_case c) (Brbc 0 2 ∷ js) stand in
      let b : At e (pc + 5) u q = subst (λ x. At e (pc + 5) x q) z.kind z.at in
      branch (is_within c.first c.count n) refl told.tells held_u at low high q b back))
    where
      wider : (r : ℕ) → (r < 22) ⊎ (28 ≤ r) → (r < 26) ⊎ (28 ≤ r)
      wider r (inl h) = inl (omega arith)
      wider r (inr h) = inr h

      branch : (let u : View = record v { regs = does_all e.flash (test_case c) v.regs } in
          (flag : Bool) → is_within c.first c.count n ≡ flag → u.regs.flags.carry ≡ is_within c.first c.count n → Held i m live s frames u
          → number u.regs 24 2 ≡ n → u.regs.of 24 ≡ v.regs.of 24 → u.regs.of 25 ≡ v.regs.of 25 → (q : MachineState) → At e (pc + 5) u q
          → AllStandAt e.flash (pc + 5) (Brbc 0 2 ∷ known 22 2 (codes c.procedure))
          → Goes e deep 0 q (Sees e (Tried i m live s frames codes p (c ∷ cs) n old) (pc + widths (tries_case codes c))))
      branch true inside tells held_u at low high q b back =
          let u : View = record v { regs = does_all e.flash (test_case c) v.regs } in
          let js = known 22 2 (codes c.procedure) in
          let K = Tried i m live s frames codes p (c ∷ cs) n old in
          let goal = Sees e K (pc + widths (tries_case codes c)) in
          let to : pc + 5 + 1 + widths js ≡ pc + widths (tries_case codes c) = omega arith in
          goes_fewer e deep (1 + length js) 0 q goal (omega arith)
          (goes_then e deep 1 (length js) q (At e (pc + 5 + 1) u) goal
          (goes_brbc e deep (pc + 5) u q b 0 2 true back.0 (carry_set u.regs.flags ∙ tells ∙ inside) (omega (arith, room)))
          (λ t d. subst (λ y. Goes e deep (length js) t (Sees e K y)) to
          (takes_code live s codes (codes c.procedure) p (c ∷ cs) n old u is.code
          (sym (ap (λ (k : Bool). codes (if k then c.procedure else chosen p cs n)) inside)) at tried.out held_u (pc + 5 + 1) t back.1 (omega (arith, room)) d)))
      branch false outside tells held_u at low high q b back =
          let u : View = record v { regs = does_all e.flash (test_case c) v.regs } in
          let K = Tried i m live s frames codes p (c ∷ cs) n old in
          let goal = Sees e K (pc + widths (tries_case codes c)) in
          let to : near_from (pc + 5) 2 ≡ pc + widths (tries_case codes c) = omega (arith, room) in
          goes_fewer e deep 1 0 q goal (omega arith)
          (goes_wider e deep 1 q (At e (near_from (pc + 5) 2) u) goal
          (λ t d. record {
            view = u;
            kind = record { held = held_u; index = at; found = passed; out = tried.out };
            at = subst (λ y. At e y u t) to d;
          })
          (goes_brbc e deep (pc + 5) u q b 0 2 false back.0 (carry_set u.regs.flags ∙ tells ∙ outside) (omega (arith, room))))
        where
          passed : number (does_all e.flash (test_case c) v.regs) 22 2 ≡ codes (chosen p (c ∷ cs) n)
          passed =
              let rest = tried.found ∙ sym (ap (λ (k : Bool). codes (if k then c.procedure else chosen p cs n)) outside) in
              let told = tested e.flash codes c n v.regs is (register_below e pc v t a) tried.index in
              let low' = told.others 22 (inl (omega arith)) in
              let high' = told.others 23 (inl (omega arith)) in
              omega (arith, rest, low', high')

  passes_cases : (live : ℕ → Bool) (s : State) (codes : ℕ → ℕ) (p : ℕ) (cases : List Case) (n : ℕ) (v : View) → codes p < 65536 → AreCases codes cases
      → number v.regs 24 2 ≡ n → Held i m live s frames v → Passes e deep v (tries_cases codes p cases) (Tried i m live s frames codes p cases n v)
  passes_cases live s codes p [] n v small are at k =
      passes_takes e deep v (known 22 2 (codes p)) (Tried i m live s frames codes p [] n v)
      (takes_code live s codes (codes p) p [] n v v small refl at refl k)
  passes_cases live s codes p (c ∷ cs) n v small are at k =
      passes_then e deep v (tries_cases codes p cs) (tries_case codes c) (Tried i m live s frames codes p cs n v)
      (Tried i m live s frames codes p (c ∷ cs) n v) (passes_cases live s codes p cs n v small are.1 at k)
      (λ u tried. passes_case live s codes p c cs n v u are.0 tried)

  -- ---- the template

  some_brings : (a : Operand) → 1 ≤ length (brings (i.layouts m) a 24 2)
  some_brings (Known x) = omega arith
  some_brings (Local k) = at ((i.layouts m).spots k) (width_of (i.layouts m) k)
    where
      some_moves : (b : Bool) (is js ks : List Instr) → 1 ≤ length is → 1 ≤ length js → 1 ≤ length ((if b then is else js) ++ ks)
      some_moves true is js ks p q = let long = length-append is ks in omega (arith, long, p)
      some_moves false is js ks p q = let long = length-append js ks in omega (arith, long, q)

      at : (p : Spot) (w : ℕ) → 1 ≤ length (fetch p w 24 2)
      at (InRegisters r) zero = omega arith
      at (InRegisters r) (suc zero) = omega arith
      at (InRegisters r) (suc (suc w)) =
          some_moves ((r % 2 == 0) && (24 % 2 == 0)) (Movw 24 r ∷ []) (Mov 24 r ∷ Mov 25 (suc r) ∷ []) (moves (suc (suc r)) 26 w 0) (omega arith) (omega arith)
      at (InFrame q) zero = let long = length-append (reach q 0).code (loads (reach q 0).base (reach q 0).displacement 24 0 2) in omega (arith, long)
      at (InFrame q) (suc w) =
          let long = length-append (reach q (suc w)).code (loads (reach q (suc w)).base (reach q (suc w)).displacement 24 (suc w) 2) in omega (arith, long)

  within_low : (codes : ℕ → ℕ) (cases : List Case) (n q : ℕ) → AreCases codes cases → procedure_for cases n ≡ Some q → n < 65536
  within_low codes [] n q are e1 = absurd (let clash : None ≡ Some q = e1 in cc)
  within_low codes (c ∷ cs) n q (is, are) e1 = by_test (within_low codes cs n q are) (is_within c.first c.count n) refl e1
    where
      by_test : (procedure_for cs n ≡ Some q → n < 65536) → (b : Bool) → is_within c.first c.count n ≡ b
          → (if b then Some c.procedure else procedure_for cs n) ≡ Some q → n < 65536
      by_test rest true t f = let inside : n < c.first + c.count = grind (arith, t) in let last = is.last in omega arith
      by_test rest false t f = rest f

  -- the cases that are tried are some of them, and the procedure that stands for the others is that of one
  are_unusual : (codes : ℕ → ℕ) (p : ℕ) (cases : List Case) → AreCases codes cases → AreCases codes (unusual p cases)
  are_unusual codes p [] are = tt
  are_unusual codes p (c ∷ cs) (is, are) = by_alone (are_unusual codes p cs are) ((c.procedure == p) && is_alone p c cs)
    where
      by_alone : AreCases codes (unusual p cs) → (b : Bool) → AreCases codes (if b then unusual p cs else c ∷ unusual p cs)
      by_alone rest true = rest
      by_alone rest false = (is, rest)

  most_low : (codes : ℕ → ℕ) (all : List Case) (p : ℕ) (cases : List Case) → codes p < 65536 → AreCases codes cases → codes (most_in all p cases) < 65536
  most_low codes all p [] low are = low
  most_low codes all p (c ∷ cs) low (is, are) =
      most_low codes all (if nat_lt (count_of p all) (count_of c.procedure all) then c.procedure else p) cs
      (either (nat_lt (count_of p all) (count_of c.procedure all))) are
    where
      either : (b : Bool) → codes (if b then c.procedure else p) < 65536
      either true = is.code
      either false = low

  usual_low : (codes : ℕ → ℕ) (cases : List Case) (n q : ℕ) → AreCases codes cases → procedure_for cases n ≡ Some q → codes (usual cases) < 65536
  usual_low codes [] n q are e1 = absurd (let clash : None ≡ Some q = e1 in cc)
  usual_low codes (c ∷ cs) n q (is, are) e1 = most_low codes (c ∷ cs) c.procedure cs is.code are

  pub goes_finds_procedure : (codes : ℕ → ℕ) (cases : List Case) (live behind : ℕ → Bool) (s : State) (to : ℕ) (a : Operand) (n q pc : ℕ) (v : View)
      (t : MachineState) → AreCases codes cases → IsReady (i.layouts m) live a → IsSet (i.layouts m) live behind to → value a s ≡ Some n
      → procedure_for cases n ≡ Some q → Held i m live s frames v → AllStandAt e.flash pc (finds_procedure (i.layouts m) codes cases to a)
      → pc + widths (finds_procedure (i.layouts m) codes cases to a) < 65536 → At e pc v t
      → Goes e deep 1 t (Sees e (Lies i m behind (sets to (codes q) s) frames v.out) (pc + widths (finds_procedure (i.layouts m) codes cases to a)))
  goes_finds_procedure codes cases live behind s to a n q pc v t are ready can got found k stand room at =
      let l = i.layouts m in
      let is = brings l a 24 2 in
      let p = usual cases in
      let js = tries_cases codes p (unusual p cases) in
      let ks = gives l to 22 2 in
      let K = Lies i m behind (sets to (codes q) s) frames v.out in
      let goal = Sees e K (pc + widths (is ++ (js ++ ks))) in
      let wide = widths-append is (js ++ ks) in
      let some = some_brings a in
      let there : pc + widths is + widths (js ++ ks) ≡ pc + widths (is ++ (js ++ ks)) = omega (arith, wide) in
      let low = within_low codes cases n q are found in
      goes_fewer e deep (length is + 0) 1 t goal (omega (arith, some))
      (goes_then e deep (length is) 0 t (Sees e (Brought i m live s frames 24 2 n v) (pc + widths is)) goal
      (takes_brings i ok m frames e deep live s a 24 2 n v ready got (omega arith) (omega arith) k pc t (front_stands e.flash pc is (js ++ ks) stand)
      (omega (arith, room, wide)) at)
      (λ y b. subst (λ z. Goes e deep 0 y (Sees e K z)) there
      (passes_then e deep b.view js ks (Tried i m live s frames codes p (unusual p cases) n b.view) K
      (passes_cases live s codes p (unusual p cases) n b.view (usual_low codes cases n q are found) (are_unusual codes p cases are) (let holds = b.kind.fetched.holds in omega (arith, holds, low)) b.kind.held)
      (λ u tried. passes_takes e deep u ks K
      (takes_wider e deep u ks (Given i m behind (sets to (number u.regs 22 2) s) frames u) K
      (λ o given. record {
        held = subst (λ z. Held i m behind (sets to z s) frames o) (tried.found ∙ ap codes (chosen_is p n q cases found)) given.held;
        out = given.out ∙ tried.out ∙ ap (λ (z : View). z.out) b.kind.fetched.same;
      })
      (takes_gives i ok m frames e deep live behind s to 22 2 u can (omega arith) (omega arith) tried.held)))
      (pc + widths is) y (back_stands e.flash pc is (js ++ ks) stand) (omega (arith, room, wide)) b.at)))
