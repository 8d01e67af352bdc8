-- The templates of plain instructions, joined over what linear code says of them.
use Rattle.std.proofs.Common.{◌≡◌, ℕ, ◌+◌, ◌-◌, ◌<◌, ◌≤◌, Bool, true, false, nat_lt, List, [], ◌∷◌, length, Option, Some, None, refl, sym, ap, ◌∙◌, subst, arith, if◌then◌else◌}
use Rattle.vg_meaning.specs.declared.event.Event.TheVariants.{Read, Write}
use Rattle.vg_meaning.specs.Outside.{Outside, with_event}
use Rattle.vg_lin.specs.declared.instr.Memory.TheVariants.{Ram, Flash}
use Rattle.vg_lin.specs.declared.instr.Plain.{Plain}
use Rattle.vg_lin.specs.declared.instr.Plain.TheVariants.{Copy, Compute, Product, DivideSteps, Load, Store, ReadDevice, WriteDevice, Push, Pop, Find, CodeOf, Stop}
use Rattle.vg_lin.specs.Program.{Program}
use Rattle.vg_lin.specs.Steps.{Frame, Went, Goes as GoesOn, Lacks, Fails}
use Rattle.vg_lin.specs.State.{State, value, using, sets, index_of, loaded, stores, number_at, with_number, reads_from, plain}
use Rattle.vg_lin.specs.Values.{computed, low}
use Rattle.avr_view.specs.Run.{Run, Front}
use Rattle.avr_view.specs.View.{View}
use Rattle.vg_templates.specs.Layouts.{IsLayout}
use Rattle.vg_templates.specs.Frames.{Places}
use Rattle.vg_templates.specs.Pieces.{Takes}
use Rattle.vg_templates.specs.Held.{Held}
use Rattle.vg_templates.specs.Outcomes.{Lies}
use Rattle.vg_templates.proofs.Storing.{takes_copies, takes_copies_whole, takes_pushes_value, takes_writes_device}
use Rattle.vg_templates.proofs.Computing.{takes_computes}
use Rattle.vg_templates.proofs.Pointing.{some_there, takes_loads_column, takes_stores_column}
use Rattle.vg_templates.specs.Plain.{reads_device}
use Rattle.vg_templates.specs.Straight.{plain_code, IsCovered, pushed_by}
use Rattle.vg_templates.proofs.Reading.{takes_reads_device}

-- ---- what linear code did

abbrev IsMade : Went State → State → Outside → Type 0
IsMade w s o = w ≡ GoesOn s o

same_state : (s t : State) (o p : Outside) → GoesOn s o ≡ GoesOn t p → s ≡ t
same_state s t o p e = cc

same_outside : (s t : State) (o p : Outside) → GoesOn s o ≡ GoesOn t p → o ≡ p
same_outside s t o p e = cc

-- a value was there, and this came of it
used : (v : Option ℕ) (go : ℕ → Went State) (s : State) (o : Outside) → IsMade (using v go) s o → (x : ℕ) × ((v ≡ Some x) × IsMade (go x) s o)
used (Some x) go s o e = (x, (refl, e))
used None go s o e = absurd (let clash : Fails ≡ GoesOn s o = e in cc)

indexed : (address k : ℕ) → index_of Ram address ≡ Some k → (0x100 ≤ address) × (k ≡ address - 0x100)
indexed address k e = by_test (nat_lt address 0x100) refl e
  where
    some_same : (a b : ℕ) → Some a ≡ Some b → a ≡ b
    some_same a b e1 = cc

    by_test : (b : Bool) → nat_lt address 0x100 ≡ b → (if b then None else Some (address - 0x100)) ≡ Some k → (0x100 ≤ address) × (k ≡ address - 0x100)
    by_test true t f = absurd (let clash : None ≡ Some k = f in cc)
    by_test false t f = (grind (arith, t), sym (some_same (address - 0x100) k f))

module _ (i : Places) (ok : (m : ℕ) → IsLayout (i.layouts m)) (m : ℕ) (frames : List (Frame State)) (e : Run) (deep : Type 0) (p : Program) where
  -- what the code of an instruction leads to
  abbrev Leads : (behind : ℕ → Bool) → Plain → View → State → Outside → Type 0
  Leads behind q v s' o' = Takes e deep v (plain_code (i.layouts m) p.codes.code q) (Lies i m behind s' frames o')

  ended : (behind : ℕ → Bool) (q : Plain) (v : View) (s s' : State) (o o' : Outside) → IsMade (GoesOn s o) s' o' → Leads behind q v s o → Leads behind q v s' o'
  ended behind q v s s' o o' made go =
      subst (λ x. Leads behind q v x o') (same_state s s' o o' made) (subst (λ x. Leads behind q v s x) (same_outside s s' o o' made) go)

  pub takes_plain_code : (live behind : ℕ → Bool) (q : Plain) (s s' : State) (o' : Outside) (v : View) → plain p q s v.out ≡ GoesOn s' o'
      → IsCovered (i.layouts m) live behind q → Front e o' → (0x1100 < e.floor + length v.stack + pushed_by q → deep) → Held i m live s frames v
      → Takes e deep v (plain_code (i.layouts m) p.codes.code q) (Lies i m behind s' frames o')
  takes_plain_code live behind (Copy to a) s s' o' v made can front full k =
      let (x, (got, last)) = used (value a s) (λ x. GoesOn (sets to x s) v.out) s' o' made in
      ended behind (Copy to a) v (sets to x s) s' v.out o' last (takes_copies i ok m frames e deep live behind s to a x v can.0 can.1 got k)
  takes_plain_code live behind (Compute c) s s' o' v made can front full k =
      let (x, (got, more)) = used (value c.left s) (λ x. using (value c.right s) (λ y. using (computed c.operator c.width x y) (λ z. GoesOn (sets c.to z s) v.out))) s' o' made in
      let (y, (got', more')) = used (value c.right s) (λ y. using (computed c.operator c.width x y) (λ z. GoesOn (sets c.to z s) v.out)) s' o' more in
      let (z, (is, last)) = used (computed c.operator c.width x y) (λ z. GoesOn (sets c.to z s) v.out) s' o' more' in
      ended behind (Compute c) v (sets c.to z s) s' v.out o' last
      (takes_computes i ok m frames e deep live behind s c x y z v can.0.0 can.0.1.0 can.0.1.1 can.1.0.0 can.1.0.1 can.1.1 got got' is k)
  takes_plain_code live behind (Load Ram w to a) s s' o' v made can front full k =
      let (x, (got, more)) = used (value a.index s) (λ x. using (loaded p Ram s w (index_of Ram (a.base + x))) (λ z. GoesOn (sets to z s) v.out)) s' o' made in
      let (z, (is, last)) = used (loaded p Ram s w (index_of Ram (a.base + x))) (λ z. GoesOn (sets to z s) v.out) s' o' more in
      let there = load_there w (a.base + x) z is (index_of Ram (a.base + x)) refl in
      ended behind (Load Ram w to a) v (sets to z s) s' v.out o' last
      (takes_loads_column i ok m frames e deep live behind s w to a.base a.index x z v can.0.0 can.0.1 there.0 can.1.0 can.1.1 got there.1 k)
    where
      load_there : (w address z : ℕ) → loaded p Ram s w (index_of Ram address) ≡ Some z → (j : Option ℕ) → index_of Ram address ≡ j
          → (0x100 ≤ address) × (number_at s.ram w (address - 0x100) ≡ Some z)
      load_there w address z is (Some j) at =
          let k = indexed address j at in
          (k.0, ap (number_at s.ram w) (sym k.1) ∙ sym (ap (loaded p Ram s w) at) ∙ is)
      load_there w address z is None at = absurd (let clash : None ≡ Some z = sym (ap (loaded p Ram s w) at) ∙ is in cc)
  takes_plain_code live behind (Load Flash w to a) s s' o' v made can front full k = absurd can
  takes_plain_code live behind (WriteDevice address a) s s' o' v made can front full k =
      let (x, (got, last)) = used (value a s) (λ x. GoesOn s (with_event v.out (Write address (low 1 x)))) s' o' made in
      let o = with_event v.out (Write address (low 1 x)) in
      ended behind (WriteDevice address a) v s s' o o' last
      (takes_writes_device i ok m frames e deep live behind s address a x v can.1.0 can.1.1 can.0 got (subst (Front e) (sym (same_outside s s' o o' last)) front) k)
  takes_plain_code live behind (CodeOf q to) s s' o' v made can front full k =
      ended behind (CodeOf q to) v (sets to (p.codes.code q) s) s' v.out o' made
      (takes_copies_whole i ok m frames e deep live behind s to (p.codes.code q) v can k)
  takes_plain_code live behind (Push w a) s s' o' v made can front full k =
      let (x, (got, last)) = used (value a s) (λ x. GoesOn (record s { waiting = record { width = w; value = low w x } ∷ s.waiting }) v.out) s' o' made in
      ended behind (Push w a) v (record s { waiting = record { width = w; value = low w x } ∷ s.waiting }) s' v.out o' last
      (takes_pushes_value i ok m frames e deep live behind s w a x v can.1.0 can.1.1 can.0 got full k)
  takes_plain_code live behind (Store w a from) s s' o' v made can front full k =
      let (x, (got, more)) = used (value a.index s) (λ x. using (value from s) (λ y. stores s v.out w y (index_of Ram (a.base + x)))) s' o' made in
      let (y, (got', last)) = used (value from s) (λ y. stores s v.out w y (index_of Ram (a.base + x))) s' o' more in
      let there = store_there (a.base + x) y last (index_of Ram (a.base + x)) refl in
      ended behind (Store w a from) v (record s { ram = with_number s.ram w (a.base + x - 0x100) y }) s' v.out o' there.2
      (takes_stores_column i ok m frames e deep live behind s w a.base a.index from x y v can.0.1 there.0 there.1 can.1.0.0 can.1.0.1 can.1.1 got got' k)
    where
      store_there : (address y : ℕ) → stores s v.out w y (index_of Ram address) ≡ GoesOn s' o' → (j : Option ℕ) → index_of Ram address ≡ j
          → (0x100 ≤ address) × (address - 0x100 + w ≤ length s.ram)
          × (GoesOn (record s { ram = with_number s.ram w (address - 0x100) y }) v.out ≡ GoesOn s' o')
      store_there address y is (Some j) at =
          let k = indexed address j at in
          let stored = sym (ap (stores s v.out w y) at) ∙ is in
          let (old, (there, last)) = used (number_at s.ram w j) (λ old. GoesOn (record s { ram = with_number s.ram w j y }) v.out) s' o' stored in
          let inside = (some_there s.ram w j old can.0.0 there).inside in
          let same = k.1 in (
            k.0,
            omega (arith, inside, same),
            ap (λ n. GoesOn (record s { ram = with_number s.ram w n y }) v.out) (sym same) ∙ last,
          )
      store_there address y is None at = absurd (let clash : Fails ≡ GoesOn s' o' = sym (ap (stores s v.out w y) at) ∙ is in cc)
  takes_plain_code live behind (Product to a b) s s' o' v made can front full k = absurd can
  takes_plain_code live behind (DivideSteps r d a) s s' o' v made can front full k = absurd can
  takes_plain_code live behind (ReadDevice to address) s s' o' v made can front full k = by_reads v.out.reads refl made
    where
      by_reads : (rs : List ℕ) → v.out.reads ≡ rs → reads_from rs to address s v.out ≡ GoesOn s' o'
          → Takes e deep v (reads_device (i.layouts m) to address) (Lies i m behind s' frames o')
      by_reads [] left is = absurd (let clash : Lacks address ≡ GoesOn s' o' = is in cc)
      by_reads (x ∷ xs) left is =
          let o = with_event (record v.out { reads = xs }) (Read address x) in
          ended behind (ReadDevice to address) v (sets to x s) s' o o' is
          (takes_reads_device i ok m frames e deep live behind s to address x xs v can.1 can.0 left (subst (Front e) (sym (same_outside (sets to x s) s' o o' is)) front) k)
  takes_plain_code live behind (Find dispatch to a) s s' o' v made can front full k = absurd can
  takes_plain_code live behind (Pop w to) s s' o' v made can front full k = absurd can
  takes_plain_code live behind (Stop code) s s' o' v made can front full k = absurd can
