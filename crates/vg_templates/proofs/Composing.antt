-- Pieces of code, one behind the other.
use Rattle.std.proofs.Common.{◌≡◌, ℕ, ◌+◌, ◌<◌, List, [], ◌∷◌, ◌++◌, length, refl, subst, arith, length-append}
use Rattle.avr_instr.specs.declared.instr.Instr.{Instr}
use Rattle.avr_isa.specs.Machine.{State}
use Rattle.avr_isa.specs.Standing.{width, widths, StandsAt}
use Rattle.avr_isa.proofs.Standing.{front_stands, back_stands, widths-append}
use Rattle.avr_view.specs.Registers.{does_all, ArePlain}
use Rattle.avr_view.specs.Run.{Run, Goes}
use Rattle.avr_view.specs.View.{View, At}
use Rattle.avr_view.proofs.Going.{goes_here, goes_then, goes_fewer, goes_wider}
use Rattle.avr_view.proofs.Steps.{goes_plain, register_below}
use Rattle.vg_templates.specs.Pieces.{Sees, Takes}

module _ (e : Run) (deep : Type 0) where
  -- no code
  pub takes_none : (v : View) (K : View → Type 0) → K v → Takes e deep v [] K
  takes_none v K k pc s stand room a =
      let same : pc ≡ pc + 0 = omega arith in
      goes_here e deep s (Sees e K (pc + 0)) (record { view = v; kind = k; at = subst (λ n. At e n v s) same a })

  -- one piece, and then another from each view to which the first leads
  pub takes_then : (v : View) (is js : List Instr) (K L : View → Type 0) → Takes e deep v is K → ((u : View) → K u → Takes e deep u js L)
      → Takes e deep v (is ++ js) L
  takes_then v is js K L first rest pc s stand room a =
      let wide = widths-append is js in
      let long = length-append is js in
      let goal = Sees e L (pc + widths (is ++ js)) in
      let to : pc + widths is + widths js ≡ pc + widths (is ++ js) = omega (arith, wide) in
      goes_fewer e deep (length is + length js) (length (is ++ js)) s goal (omega (arith, long))
      (goes_then e deep (length is) (length js) s (Sees e K (pc + widths is)) goal
      (first pc s (front_stands e.flash pc is js stand) (omega (arith, room, wide)) a)
      (λ t k. subst (λ n. Goes e deep (length js) t (Sees e L n)) to
      (rest k.view k.kind (pc + widths is) t (back_stands e.flash pc is js stand) (omega (arith, room, wide)) k.at)))

  -- to views of a wider kind
  pub takes_wider : (v : View) (is : List Instr) (K L : View → Type 0) → ((u : View) → K u → L u) → Takes e deep v is K → Takes e deep v is L
  takes_wider v is K L h piece pc s stand room a =
      goes_wider e deep (length is) s (Sees e K (pc + widths is)) (Sees e L (pc + widths is))
      (λ t k. record { view = k.view; kind = h k.view k.kind; at = k.at }) (piece pc s stand room a)

  -- one instruction that leads to one view, and then a piece from there
  pub takes_next : (v u : View) (i : Instr) (js : List Instr) (L : View → Type 0)
      → ((pc : ℕ) (s : State) → StandsAt e.flash pc i → pc + width i < 65536 → At e pc v s → Goes e deep 1 s (At e (pc + width i) u))
      → Takes e deep u js L → Takes e deep v (i ∷ js) L
  takes_next v u i js L step rest pc s stand room a =
      let goal = Sees e L (pc + widths (i ∷ js)) in
      let to : pc + width i + widths js ≡ pc + widths (i ∷ js) = omega arith in
      goes_fewer e deep (1 + length js) (length (i ∷ js)) s goal (omega arith)
      (goes_then e deep 1 (length js) s (At e (pc + width i) u) goal (step pc s stand.0 (omega (arith, room)) a)
      (λ t b. subst (λ n. Goes e deep (length js) t (Sees e L n)) to (rest (pc + width i) t stand.1 (omega (arith, room)) b)))

  -- the registers that the code sees hold bytes
  pub takes_bytes : (v : View) (is : List Instr) (K : View → Type 0) → (((d : ℕ) → d < 32 → v.regs.of d < 256) → Takes e deep v is K)
      → Takes e deep v is K
  takes_bytes v is K h pc s stand room a = h (register_below e pc v s a) pc s stand room a

  -- a block of plain instructions
  pub takes_plain : (v : View) (is : List Instr) → ArePlain is → Takes e deep v is (λ u. u ≡ record v { regs = does_all e.flash is v.regs })
  takes_plain v is p pc s stand room a =
      let u : View = record v { regs = does_all e.flash is v.regs } in
      goes_wider e deep (length is) s (At e (pc + widths is) u) (Sees e (λ x. x ≡ u) (pc + widths is)) (λ t b. record { view = u; kind = refl; at = b })
      (goes_plain e deep is pc v s stand p room a)

  -- from a view that is the same as another
  pub takes_from : (v u : View) (is : List Instr) (K : View → Type 0) → u ≡ v → Takes e deep v is K → Takes e deep u is K
  takes_from v u is K same piece pc s stand room a = piece pc s stand room (subst (λ x. At e pc x s) same a)
