-- Pieces of code that work in scratch registers, with facts on what these hold.
use Rattle.std.proofs.Common.{◌≡◌, ℕ, ◌+◌, ◌%◌, ◌^◌, ◌<◌, ◌≤◌, ◌⊎◌, inl, inr, Bool, List, Some, refl, sym, ap, ◌∙◌, subst, arith}
use Rattle.vg_meaning.specs.Outside.{Outside}
use Rattle.avr_instr.specs.declared.instr.Instr.{Instr}
use Rattle.vg_lin.specs.declared.instr.Operand.{Operand}
use Rattle.vg_lin.specs.Steps.{Frame}
use Rattle.vg_lin.specs.State.{State, value, sets}
use Rattle.avr_view.specs.Registers.{Regs, does_all, ArePlain}
use Rattle.avr_view.specs.Run.{Run}
use Rattle.avr_view.specs.View.{View}
use Rattle.vg_templates.specs.Spots.{number}
use Rattle.vg_templates.specs.Layouts.{IsLayout, IsOwned}
use Rattle.vg_templates.specs.Frames.{Places}
use Rattle.vg_templates.specs.Pieces.{Takes}
use Rattle.vg_templates.specs.Held.{Held, IsReady, IsSet, brings, gives, Brought, Given}
use Rattle.vg_templates.proofs.Composing.{takes_wider, takes_bytes}
use Rattle.vg_templates.proofs.Holding.{held_scratch, takes_brings, takes_gives}
use Rattle.vg_templates.specs.Numbers.{HoldBytes}
use Rattle.vg_templates.proofs.Bytes.{takes_plain_bytes}

-- the procedure lies there with this outside, and this holds of the registers
pub record Works (i : Places) (m : ℕ) (live : ℕ → Bool) (s : State) (frames : List (Frame State)) (o : Outside) (F : Regs → Type 0) (v : View) : Type 0 where
  pub held : Held i m live s frames v
  pub facts : F v.regs
  pub out : v.out ≡ o

-- registers below Z are the same, but so many from one on
abbrev pub SameBut : (d n : ℕ) (old new : Regs) → Type 0
SameBut d n old new = (r : ℕ) → r < 30 → (r < d) ⊎ (d + n ≤ r) → new.of r ≡ old.of r

module _ (i : Places) (ok : (m : ℕ) → IsLayout (i.layouts m)) (m : ℕ) (frames : List (Frame State)) (e : Run) (deep : Type 0) where
  -- plain code that changes registers from r18 to r27 alone
  pub works_block : (live : ℕ → Bool) (s : State) (o : Outside) (F G : Regs → Type 0) (is : List Instr) → ArePlain is
      → ((g : Regs) → HoldBytes g → HoldBytes (does_all e.flash is g) → g.of 1 ≡ 0 → F g → G (does_all e.flash is g) × SameBut 18 10 g (does_all e.flash is g))
      → (v : View) → Works i m live s frames o F v → Takes e deep v is (Works i m live s frames o G)
  works_block live s o F G is plain made v w =
      let u : View = record v { regs = does_all e.flash is v.regs } in
      let goal = Works i m live s frames o G in
      takes_bytes e deep v is goal
      (λ bytes. takes_wider e deep v is (λ t. (t ≡ u) × ((r : ℕ) → r < 32 → t.regs.of r < 256)) goal
      (λ t k. subst goal (sym k.0) (worked bytes (subst (λ (y : View). HoldBytes y.regs) k.0 k.1))) (takes_plain_bytes e deep v is plain))
    where
      worked : HoldBytes v.regs → HoldBytes (does_all e.flash is v.regs) → Works i m live s frames o G (record v { regs = does_all e.flash is v.regs })
      worked b after =
          let k = made v.regs b after w.held.r1 w.facts in
          record {
            held =
                held_scratch i ok m frames live s v (record v { regs = does_all e.flash is v.regs }) refl (agree k.1) (k.1 1 (omega arith) (inl (omega arith)))
                w.held;
            facts = k.0;
            out = w.out;
          }
        where
          agree : SameBut 18 10 v.regs (does_all e.flash is v.regs) → (r : ℕ) → IsOwned r → (does_all e.flash is v.regs).of r ≡ v.regs.of r
          agree h r (inl k) = let up = k.1 in h r (omega arith) (inl up)
          agree h r (inr k) = h r k.1 (inr k.0)

  -- an operand comes in, and facts stay that do not speak of its registers
  pub works_brings : (live : ℕ → Bool) (s : State) (o : Outside) (F : Regs → Type 0) (a : Operand) (d n x : ℕ) → IsReady (i.layouts m) live a
      → value a s ≡ Some x → 18 ≤ d → d + n ≤ 28 → ((g h : Regs) → SameBut d n g h → F g → F h) → (v : View) → Works i m live s frames o F v
      → Takes e deep v (brings (i.layouts m) a d n) (Works i m live s frames o (λ g. F g × (number g d n ≡ x % 256 ^ n)))
  works_brings live s o F a d n x ready got low high still v w =
      takes_wider e deep v (brings (i.layouts m) a d n) (Brought i m live s frames d n x v) (Works i m live s frames o (λ g. F g × (number g d n ≡ x % 256 ^ n)))
      (λ u b. record {
        held = b.held;
        facts = (still v.regs u.regs b.fetched.others w.facts, b.fetched.holds);
        out = ap (λ (y : View). y.out) b.fetched.same ∙ w.out;
      })
      (takes_brings i ok m frames e deep live s a d n x v ready got low high w.held)

  -- a number goes to a local, and facts stay that speak of scratch registers alone
  pub works_gives : (live behind : ℕ → Bool) (s : State) (o : Outside) (F : Regs → Type 0) (to d n x : ℕ) → IsSet (i.layouts m) live behind to → 18 ≤ d
      → d + n ≤ 28 → ((g : Regs) → F g → number g d n ≡ x) → ((g h : Regs) → ((r : ℕ) → 18 ≤ r → r < 28 → h.of r ≡ g.of r) → F g → F h) → (v : View)
      → Works i m live s frames o F v → Takes e deep v (gives (i.layouts m) to d n) (Works i m behind (sets to x s) frames o F)
  works_gives live behind s o F to d n x can low high value_is still v w =
      takes_wider e deep v (gives (i.layouts m) to d n) (Given i m behind (sets to (number v.regs d n) s) frames v) (Works i m behind (sets to x s) frames o F)
      (λ u g. record {
        held = subst (λ y. Held i m behind (sets to y s) frames u) (value_is v.regs w.facts) g.held;
        facts = still v.regs u.regs g.scratch w.facts;
        out = g.out ∙ w.out;
      })
      (takes_gives i ok m frames e deep live behind s to d n v can low high w.held)
