-- What is found, and the temporary of a height.
use Rattle.std.specs.Prelude.{ℕ, ◌+◌, ◌<◌, Bool, true, false, nat_lt, List, length, Option, Some, None, if◌then◌else◌}
use Rattle.std.proofs.Common.{◌≡◌, refl, sym, ap, subst, arith}
use Rattle.vg_lin.specs.declared.instr.Operand.{Operand}
use Rattle.vg_flatten_shapes.specs.declared.room.Room.{Room}
use Rattle.vg_flatten_shapes.specs.Shapes.{temp}

pub some_is : {A : Type 0} (a b : A) → Some a ≡ Some b → a ≡ b
some_is {A} a b e = ap (λ o. or_else o) e
  where
    or_else : Option A → A
    or_else (Some x) = x
    or_else None = a

pub none_is_not : {A : Type 0} {B : Type 0} (a : A) → None ≡ Some a → B
none_is_not {A} {B} a e = absurd (subst (λ o. is_none o) e (tt {0}))
  where
    is_none : Option A → Type 0
    is_none None = Unit {0}
    is_none (Some x) = ⊥

pub temp_is : (r : Room) (hs : List Operand) (to : ℕ) → temp r hs ≡ Some to → (to ≡ r.locals + length hs) × (length hs < r.temps)
temp_is r hs to e = by_room (nat_lt (length hs) r.temps) refl e
  where
    by_room : (b : Bool) → nat_lt (length hs) r.temps ≡ b → (if b then Some (r.locals + length hs) else None) ≡ Some to
        → (to ≡ r.locals + length hs) × (length hs < r.temps)
    by_room true lt e1 = (sym (some_is _ _ e1), grind arith)
    by_room false lt e1 = none_is_not to e1
