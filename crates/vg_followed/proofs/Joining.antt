-- The templates of all plain instructions, joined over what linear code says of them.
use Rattle.std.proofs.Common.{◌≡◌, ℕ, ◌+◌, ◌-◌, ◌*◌, ◌<◌, ◌≤◌, Bool, true, false, ◌==◌, nat_lt, if◌then◌else◌, List, [], ◌∷◌, length}
use Rattle.std.proofs.Common.{Some, None, refl, sym, ap, ◌∙◌, subst, arith, slice_get}
use Rattle.vg_meaning.specs.Outside.{Outside}
use Rattle.avr_instr.specs.declared.instr.Instr.{Instr}
use Rattle.avr_isa.specs.Machine.{State as MachineState}
use Rattle.avr_isa.specs.Standing.{widths, AllStandAt}
use Rattle.vg_codes.specs.Dispatch.{dispatched, cases_of}
use Rattle.vg_lin.specs.declared.instr.Memory.TheVariants.{Ram, Flash}
use Rattle.vg_lin.specs.declared.instr.Operand.{Operand}
use Rattle.vg_lin.specs.declared.instr.Operand.TheVariants.{Local, Known}
use Rattle.vg_lin.specs.declared.instr.Operator.{Operator}
use Rattle.vg_lin.specs.declared.instr.Operator.TheVariants.{Plus, Minus, Times, Divide, Remainder, And, Or, Xor, ShiftLeft, ShiftRight}
use Rattle.vg_lin.specs.declared.instr.Computation.{Computation}
use Rattle.vg_lin.specs.declared.instr.Plain.{Plain}
use Rattle.vg_lin.specs.declared.instr.Plain.TheVariants.{Copy, Compute, Product, DivideSteps, Load, Store, ReadDevice, WriteDevice, Push, Pop, Find, CodeOf, Stop}
use Rattle.vg_lin.specs.Program.{Program}
use Rattle.vg_lin.specs.Steps.{Frame, Goes as GoesOn, Raises, Fails}
use Rattle.vg_lin.specs.State.{State, Waiting, value, using, sets, index_of, first_address, loaded, number_at, pops_from, plain}
use Rattle.vg_lin.specs.Values.{computed, low}
use Rattle.avr_view.specs.Run.{Run, Goes, Front}
use Rattle.avr_view.specs.View.{View, At}
use Rattle.avr_view.proofs.Going.{goes_fewer}
use Rattle.vg_templates.specs.Layouts.{IsLayout}
use Rattle.vg_templates.specs.Frames.{Places}
use Rattle.vg_templates.specs.Pieces.{Sees, Takes}
use Rattle.vg_templates.specs.Held.{Held}
use Rattle.vg_templates.specs.Outcomes.{Lies}
use Rattle.vg_templates.specs.Plain.{computes}
use Rattle.vg_templates.specs.Straight.{pushed_by, IsCovered}
use Rattle.vg_templates.proofs.Joining.{takes_plain_code}
use Rattle.vg_templates.specs.Plains.{computation_code, plain_template}
use Rattle.vg_followed.proofs.Shifting.{takes_shifts_left, takes_shifts_right}
use Rattle.vg_followed.proofs.Multiplying.{takes_multiplies}
use Rattle.vg_followed.proofs.Made.{IsMade, same_state, same_outside, used, some_same}
use Rattle.vg_followed.proofs.DividingInPlace.{goes_divides}
use Rattle.vg_followed.proofs.CountingDown.{goes_shifts_left, goes_shifts_right}
use Rattle.vg_followed.specs.Tables.{HoldsTables}
use Rattle.vg_followed.proofs.Reading.{takes_loads_table}
use Rattle.vg_followed.proofs.Finding.{goes_finds_procedure}
use Rattle.vg_followed.proofs.Popping.{takes_pops_value}
use Rattle.vg_followed.specs.Covered.{CanCompute, CanBeCoded}

equal : (a b : ℕ) → (a == b) ≡ true → a ≡ b
equal a b e = grind (arith, e)

module _ (i : Places) (ok : (m : ℕ) → IsLayout (i.layouts m)) (m : ℕ) (frames : List (Frame State)) (e : Run) (deep : Type 0) where
  module _ (p : Program) where
    -- what the code of an instruction leads to
    abbrev Leads : (behind : ℕ → Bool) → List Instr → View → State → Outside → Type 0
    Leads behind is v s' o' = Takes e deep v is (Lies i m behind s' frames o')

    ended : (behind : ℕ → Bool) (is : List Instr) (v : View) (s s' : State) (o o' : Outside) → IsMade (GoesOn s o) s' o' → Leads behind is v s o
        → Leads behind is v s' o'
    ended behind is v s s' o o' made go =
        subst (λ x. Leads behind is v x o') (same_state s s' o o' made) (subst (λ x. Leads behind is v s x) (same_outside s s' o o' made) go)

    -- from code that takes each of its instructions
    by_takes : (is : List Instr) (v : View) (K : View → Type 0) (pc : ℕ) (t : MachineState) → Takes e deep v is K → AllStandAt e.flash pc is
        → pc + widths is < 65536 → 1 ≤ length is → At e pc v t → Goes e deep 1 t (Sees e K (pc + widths is))
    by_takes is v K pc t piece stand room some a = goes_fewer e deep (length is) 1 t (Sees e K (pc + widths is)) some (piece pc t stand room a)

    -- what the code of a computation comes to
    abbrev Ends : (behind : ℕ → Bool) → List Instr → View → State → Outside → Type 0
    Ends behind is v s' o' =
        (pc : ℕ) (t : MachineState) → AllStandAt e.flash pc is → pc + widths is < 65536 → 1 ≤ length is → At e pc v t
        → Goes e deep 1 t (Sees e (Lies i m behind s' frames o') (pc + widths is))

    taken : (behind : ℕ → Bool) (is : List Instr) (v : View) (s' : State) (o' : Outside) → Leads behind is v s' o' → Ends behind is v s' o'
    taken behind is v s' o' piece pc t = by_takes is v (Lies i m behind s' frames o') pc t piece

    came : (behind : ℕ → Bool) (is : List Instr) (v : View) (s s' : State) (o o' : Outside) → IsMade (GoesOn s o) s' o' → Ends behind is v s o
        → Ends behind is v s' o'
    came behind is v s s' o o' made go =
        subst (λ x. Ends behind is v x o') (same_state s s' o o' made) (subst (λ x. Ends behind is v s x) (same_outside s s' o o' made) go)

    bytewise : (live behind : ℕ → Bool) (c : Computation) (s s' : State) (o' : Outside) (v : View) → plain p (Compute c) s v.out ≡ GoesOn s' o'
        → IsCovered (i.layouts m) live behind (Compute c) → Front e o' → (0x1100 < e.floor + length v.stack + 0 → deep) → Held i m live s frames v
        → Ends behind (computes (i.layouts m) c) v s' o'
    bytewise live behind c s s' o' v made can front full k =
        taken behind (computes (i.layouts m) c) v s' o' (takes_plain_code i ok m frames e deep p live behind (Compute c) s s' o' v made can front full k)

    -- computations by their operators
    goes_computation : (live behind : ℕ → Bool) (c : Computation) (o : Operator) (a : Operand) (s s' : State) (o' : Outside) (v : View)
        → c.operator ≡ o → c.right ≡ a → plain p (Compute c) s v.out ≡ GoesOn s' o' → CanCompute (i.layouts m) live behind c o a → Front e o'
        → (0x1100 < e.floor + length v.stack + 0 → deep) → Held i m live s frames v → Ends behind (computation_code (i.layouts m) c o a) v s' o'
    goes_computation live behind c Plus a s s' o' v op right made can front full k = bytewise live behind c s s' o' v made can front full k
    goes_computation live behind c Minus a s s' o' v op right made can front full k = bytewise live behind c s s' o' v made can front full k
    goes_computation live behind c Times a s s' o' v op right made can front full k = bytewise live behind c s s' o' v made can front full k
    goes_computation live behind c Divide a s s' o' v op right made can front full k = bytewise live behind c s s' o' v made can front full k
    goes_computation live behind c Remainder a s s' o' v op right made can front full k = bytewise live behind c s s' o' v made can front full k
    goes_computation live behind c And a s s' o' v op right made can front full k = bytewise live behind c s s' o' v made can front full k
    goes_computation live behind c Or a s s' o' v op right made can front full k = bytewise live behind c s s' o' v made can front full k
    goes_computation live behind c Xor a s s' o' v op right made can front full k = bytewise live behind c s s' o' v made can front full k
    goes_computation live behind c ShiftLeft (Local j) s s' o' v op right made can front full k =
        let go = λ (z : ℕ). GoesOn (sets c.to z s) v.out in
        let both = λ (x y : ℕ). using (computed c.operator c.width x y) go in
        let (x, (got, more)) = used (value c.left s) (λ x. using (value c.right s) (both x)) s' o' made in
        let (y, (got', more')) = used (value c.right s) (both x) s' o' more in
        let (z, (is, last)) = used (computed c.operator c.width x y) go s' o' more' in
        let what : computed ShiftLeft c.width x y ≡ Some z = sym (ap (λ j. computed j c.width x y) op) ∙ is in
        let amount : value (Local j) s ≡ Some y = sym (ap (λ a. value a s) right) ∙ got' in
        came behind (computation_code (i.layouts m) c ShiftLeft (Local j)) v (sets c.to z s) s' v.out o' last
        (λ pc t stand room some at.
        goes_shifts_left i ok m frames e deep live behind s c.width c.to c.left j x y z v can.0.1 can.1.0.0 can.1.0.1 can.1.1 got amount what k
        pc t stand room at)
    goes_computation live behind c ShiftRight (Local j) s s' o' v op right made can front full k =
        let go = λ (z : ℕ). GoesOn (sets c.to z s) v.out in
        let both = λ (x y : ℕ). using (computed c.operator c.width x y) go in
        let (x, (got, more)) = used (value c.left s) (λ x. using (value c.right s) (both x)) s' o' made in
        let (y, (got', more')) = used (value c.right s) (both x) s' o' more in
        let (z, (is, last)) = used (computed c.operator c.width x y) go s' o' more' in
        let what : computed ShiftRight c.width x y ≡ Some z = sym (ap (λ j. computed j c.width x y) op) ∙ is in
        let amount : value (Local j) s ≡ Some y = sym (ap (λ a. value a s) right) ∙ got' in
        came behind (computation_code (i.layouts m) c ShiftRight (Local j)) v (sets c.to z s) s' v.out o' last
        (λ pc t stand room some at.
        goes_shifts_right i ok m frames e deep live behind s c.width c.to c.left j x y z v can.0.1 can.1.0.0 can.1.0.1 can.1.1 got amount what k
        pc t stand room at)
    goes_computation live behind c ShiftLeft (Known n) s s' o' v op right made can front full k =
        let (x, (got, more)) = used (value c.left s) (λ x. using (value c.right s) (λ y. using (computed c.operator c.width x y) (λ z. GoesOn (sets c.to z s) v.out))) s' o' made in
        let (y, (got', more')) = used (value c.right s) (λ y. using (computed c.operator c.width x y) (λ z. GoesOn (sets c.to z s) v.out)) s' o' more in
        let (z, (is, last)) = used (computed c.operator c.width x y) (λ z. GoesOn (sets c.to z s) v.out) s' o' more' in
        let amount : y ≡ n = sym (some_same n y (sym (ap (λ a. value a s) right) ∙ got')) in
        let what : computed ShiftLeft c.width x n ≡ Some z = sym (ap (λ j. computed j c.width x y) op ∙ ap (computed ShiftLeft c.width x) amount) ∙ is in
        let code = computation_code (i.layouts m) c ShiftLeft (Known n) in
        taken behind code v s' o'
        (ended behind code v (sets c.to z s) s' v.out o' last
        (takes_shifts_left i ok m frames e deep live behind s c.width c.to c.left n x z v can.0.1 can.1.0 can.1.1 got what k))
    goes_computation live behind c ShiftRight (Known n) s s' o' v op right made can front full k =
        let (x, (got, more)) = used (value c.left s) (λ x. using (value c.right s) (λ y. using (computed c.operator c.width x y) (λ z. GoesOn (sets c.to z s) v.out))) s' o' made in
        let (y, (got', more')) = used (value c.right s) (λ y. using (computed c.operator c.width x y) (λ z. GoesOn (sets c.to z s) v.out)) s' o' more in
        let (z, (is, last)) = used (computed c.operator c.width x y) (λ z. GoesOn (sets c.to z s) v.out) s' o' more' in
        let amount : y ≡ n = sym (some_same n y (sym (ap (λ a. value a s) right) ∙ got')) in
        let what : computed ShiftRight c.width x n ≡ Some z = sym (ap (λ j. computed j c.width x y) op ∙ ap (computed ShiftRight c.width x) amount) ∙ is in
        let code = computation_code (i.layouts m) c ShiftRight (Known n) in
        taken behind code v s' o'
        (ended behind code v (sets c.to z s) s' v.out o' last
        (takes_shifts_right i ok m frames e deep live behind s c.width c.to c.left n x z v can.0.1 can.1.0 can.1.1 got what k))

    module _ (tables : HoldsTables e.flash p.tables) where
      table_there : (s : State) (w address z : ℕ) → loaded p Flash s w (index_of Flash address) ≡ Some z
          → (first_address Flash ≤ address) × (number_at p.tables w (address - first_address Flash) ≡ Some z)
      table_there s w address z is = by_test (nat_lt address (first_address Flash)) refl is
        where
          by_test : (b : Bool) → nat_lt address (first_address Flash) ≡ b
              → loaded p Flash s w (if b then None else Some (address - first_address Flash)) ≡ Some z
              → (first_address Flash ≤ address) × (number_at p.tables w (address - first_address Flash) ≡ Some z)
          by_test true t f = absurd (let clash : None ≡ Some z = f in cc)
          by_test false t f = (grind (arith, t), f)

      pub goes_plain : (live behind : ℕ → Bool) (q : Plain) (s s' : State) (o' : Outside) (v : View) (pc : ℕ) (t : MachineState)
          → plain p q s v.out ≡ GoesOn s' o' → CanBeCoded (i.layouts m) p live behind q → Front e o'
          → (0x1100 < e.floor + length v.stack + pushed_by q → deep) → Held i m live s frames v
          → AllStandAt e.flash pc (plain_template (i.layouts m) p q) → pc + widths (plain_template (i.layouts m) p q) < 65536
          → 1 ≤ length (plain_template (i.layouts m) p q) → At e pc v t
          → Goes e deep 1 t (Sees e (Lies i m behind s' frames o') (pc + widths (plain_template (i.layouts m) p q)))
      goes_plain live behind (Copy to a) s s' o' v pc t made can front full k stand room some h =
          let q = Copy to a in
          by_takes (plain_template (i.layouts m) p q) v (Lies i m behind s' frames o') pc t
          (takes_plain_code i ok m frames e deep p live behind q s s' o' v made can front full k) stand room some h
      goes_plain live behind (Load Ram w to a) s s' o' v pc t made can front full k stand room some h =
          let q = Load Ram w to a in
          by_takes (plain_template (i.layouts m) p q) v (Lies i m behind s' frames o') pc t
          (takes_plain_code i ok m frames e deep p live behind q s s' o' v made can front full k) stand room some h
      goes_plain live behind (Store w a from) s s' o' v pc t made can front full k stand room some h =
          let q = Store w a from in
          by_takes (plain_template (i.layouts m) p q) v (Lies i m behind s' frames o') pc t
          (takes_plain_code i ok m frames e deep p live behind q s s' o' v made can front full k) stand room some h
      goes_plain live behind (ReadDevice to address) s s' o' v pc t made can front full k stand room some h =
          let q = ReadDevice to address in
          by_takes (plain_template (i.layouts m) p q) v (Lies i m behind s' frames o') pc t
          (takes_plain_code i ok m frames e deep p live behind q s s' o' v made can front full k) stand room some h
      goes_plain live behind (WriteDevice address a) s s' o' v pc t made can front full k stand room some h =
          let q = WriteDevice address a in
          by_takes (plain_template (i.layouts m) p q) v (Lies i m behind s' frames o') pc t
          (takes_plain_code i ok m frames e deep p live behind q s s' o' v made can front full k) stand room some h
      goes_plain live behind (Push w a) s s' o' v pc t made can front full k stand room some h =
          let q = Push w a in
          by_takes (plain_template (i.layouts m) p q) v (Lies i m behind s' frames o') pc t
          (takes_plain_code i ok m frames e deep p live behind q s s' o' v made can front full k) stand room some h
      goes_plain live behind (CodeOf q' to) s s' o' v pc t made can front full k stand room some h =
          let q = CodeOf q' to in
          by_takes (plain_template (i.layouts m) p q) v (Lies i m behind s' frames o') pc t
          (takes_plain_code i ok m frames e deep p live behind q s s' o' v made can front full k) stand room some h
      goes_plain live behind (Compute c) s s' o' v pc t made can front full k stand room some h =
          goes_computation live behind c c.operator c.right s s' o' v refl refl made can front full k pc t stand room some h
      goes_plain live behind (Product to a b) s s' o' v pc t made can front full k stand room some h =
          let is = plain_template (i.layouts m) p (Product to a b) in
          let (x, (got, more)) = used (value a s) (λ x. using (value b s) (λ y. GoesOn (sets to (low 1 x * low 1 y) s) v.out)) s' o' made in
          let (y, (got', last)) = used (value b s) (λ y. GoesOn (sets to (low 1 x * low 1 y) s) v.out) s' o' more in
          by_takes is v (Lies i m behind s' frames o') pc t
          (ended behind is v (sets to (low 1 x * low 1 y) s) s' v.out o' last
          (takes_multiplies i ok m frames e deep live behind s to a b x y v can.0.0 can.0.1 can.1 got got' k)) stand room some h
      goes_plain live behind (DivideSteps r d a) s s' o' v pc t made can front full k stand room some h =
          goes_divides i ok m frames e deep live behind r d a can s s' o' v pc t made k stand room h
      goes_plain live behind (Load Flash w to a) s s' o' v pc t made can front full k stand room some h =
          let is = plain_template (i.layouts m) p (Load Flash w to a) in
          let (x, (got, more)) = used (value a.index s) (λ x. using (loaded p Flash s w (index_of Flash (a.base + x))) (λ z. GoesOn (sets to z s) v.out)) s' o' made in
          let (z, (is', last)) = used (loaded p Flash s w (index_of Flash (a.base + x))) (λ z. GoesOn (sets to z s) v.out) s' o' more in
          let there = table_there s w (a.base + x) z is' in
          by_takes is v (Lies i m behind s' frames o') pc t
          (ended behind is v (sets to z s) s' v.out o' last
          (takes_loads_table i ok m frames e deep p.tables live behind s w to a.base a.index x z v tables can.0.0 can.0.1 there.0 can.1.0 can.1.1 got
          there.1 k)) stand room some h
      goes_plain live behind (Find place to a) s s' o' v pc t made can front full k stand room some h =
          let cases = cases_of (slice_get p.dispatches place) in
          let (n, (got, more)) = used (value a s) (λ n. using (dispatched p.dispatches place n) (λ q. GoesOn (sets to (p.codes.code q) s) v.out)) s' o' made in
          let (q, (found, last)) = used (dispatched p.dispatches place n) (λ q. GoesOn (sets to (p.codes.code q) s) v.out) s' o' more in
          subst (λ x. Goes e deep 1 t (Sees e (Lies i m behind x frames o') (pc + widths (plain_template (i.layouts m) p (Find place to a)))))
          (same_state (sets to (p.codes.code q) s) s' v.out o' last)
          (subst (λ x. Goes e deep 1 t (Sees e (Lies i m behind (sets to (p.codes.code q) s) frames x) (pc + widths (plain_template (i.layouts m) p (Find place to a)))))
          (same_outside (sets to (p.codes.code q) s) s' v.out o' last)
          (goes_finds_procedure i ok m frames e deep p.codes.code cases live behind s to a n q pc v t can.0 can.1.0 can.1.1 got found k stand room h))
      goes_plain live behind (Pop w to) s s' o' v pc t made can front full k stand room some h = popped s.waiting refl made
        where
          popped : (ws : List Waiting) → s.waiting ≡ ws → pops_from ws w to s v.out ≡ GoesOn s' o'
              → Goes e deep 1 t (Sees e (Lies i m behind s' frames o') (pc + widths (plain_template (i.layouts m) p (Pop w to))))
          popped [] there f = absurd (let clash : Fails ≡ GoesOn s' o' = f in cc)
          popped (x ∷ xs) there f = by_test (x.width == w) refl f
            where
              by_test : (b : Bool) → (x.width == w) ≡ b
                  → (if b then GoesOn (sets to x.value (record s { waiting = xs })) v.out else Fails) ≡ GoesOn s' o'
                  → Goes e deep 1 t (Sees e (Lies i m behind s' frames o') (pc + widths (plain_template (i.layouts m) p (Pop w to))))
              by_test false g j = absurd (let clash : Fails ≡ GoesOn s' o' = j in cc)
              by_test true g j =
                  let is = plain_template (i.layouts m) p (Pop w to) in
                  let same : x.width ≡ w = equal x.width w g in
                  let narrow = can.0.1 in
                  by_takes is v (Lies i m behind s' frames o') pc t
                  (ended behind is v (sets to x.value (record s { waiting = xs })) s' v.out o' j
                  (subst (λ n. Takes e deep v (plain_template (i.layouts m) p (Pop n to)) (Lies i m behind (sets to x.value (record s { waiting = xs })) frames v.out)) same
                  (takes_pops_value i ok m frames e deep live behind s x xs to v there (omega (arith, same, narrow)) can.1 k))) stand room some h
      goes_plain live behind (Stop code) s s' o' v pc t made can front full k stand room some h = absurd (let clash : Raises code ≡ GoesOn s' o' = made in cc)
