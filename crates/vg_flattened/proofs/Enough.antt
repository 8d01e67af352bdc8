-- A step becomes code only where at least as many values wait as it takes.
use Rattle.std.specs.Prelude.{ℕ, suc, ◌+◌, ◌≤◌, Bool, true, false, nat_le, List, [], ◌∷◌, length, reverse, take, drop, Option, Some, None, slice_get}
use Rattle.std.specs.Prelude.{if◌then◌else◌}
use Rattle.std.proofs.Common.{◌≡◌, refl, subst, arith}
use Rattle.vg_firm.specs.declared.step.ArrayPlace.{ArrayPlace}
use Rattle.vg_firm.specs.declared.step.Elements.{Elements}
use Rattle.vg_firm.specs.declared.step.Prefix.{Prefix}
use Rattle.vg_firm.specs.declared.step.Prefix.TheVariants.{Negative, Not, Complement, Cut}
use Rattle.vg_firm.specs.declared.step.Step.{Step}
use Rattle.vg_firm.specs.declared.step.Step.TheVariants.{Number, This, Local as GetLocal, SetLocal, Forget, Operate, Apply, ReadDevice, WriteDevice, Load}
use Rattle.vg_firm.specs.declared.step.Step.TheVariants.{Store, LoadAt, StoreAt, LoadNothing, StoreNothing, LoadItem, StoreItem, Length, IsWithin}
use Rattle.vg_firm.specs.declared.step.Step.TheVariants.{StopUnlessWithin, Bind, BindFor, Call, CallFor, CallValue, Idle}
use Rattle.vg_firm_typed.specs.Steps.{takes}
use Rattle.vg_lin.specs.declared.instr.Memory.{Memory}
use Rattle.vg_lin.specs.declared.instr.Operand.{Operand}
use Rattle.vg_flatten_shapes.specs.declared.layout.Layout.{Layout}
use Rattle.vg_flatten_shapes.specs.declared.layout.Place.{Place}
use Rattle.vg_flatten_shapes.specs.declared.room.Room.{Room}
use Rattle.vg_flatten_shapes.specs.Shapes.{taken, temp}
use Rattle.vg_flatten_shapes.specs.Made.{Made, Gives, Refused, by_temp}
use Rattle.vg_flatten_values.specs.Values.{applied}
use Rattle.vg_flatten_places.specs.Places.{load_of, array_length, store_one, store_of, places_in, memory_of, lone_of, load_item, store_item}
use Rattle.vg_flatten_steps.specs.Calls.{with_taken, called_as, called_on, called_by, passing_of}
use Rattle.vg_flatten_steps.specs.Steps.{stepped}

-- A fact, where something was made.
abbrev pub WhereMade : Made → Type 0 → Type 0
WhereMade (Gives b s) P = P
WhereMade (Refused why) P = Unit {0}

pub where_made : {P : Type 0} (made : Made) → P → WhereMade made P
where_made (Gives b s) h = h
where_made (Refused why) h = tt

abbrev pub Enough : (n : ℕ) → List Operand → Made → Type 0
Enough n hs made = WhereMade made (n ≤ length hs)

enough_applied : (r : Room) (op : Prefix) (hs : List Operand) → Enough 1 hs (applied r op hs)
enough_applied r Negative [] = tt
enough_applied r Not [] = tt
enough_applied r (Complement bits) [] = tt
enough_applied r (Cut bits) [] = tt
enough_applied r op (h ∷ hs) = where_made (applied r op (h ∷ hs)) (omega arith)

-- ---- columns and tables

enough_store_one : (width : ℕ) (o : Option Place) (hs : List Operand) → Enough 1 hs (store_one width o hs)
enough_store_one width None hs = tt
enough_store_one width (Some place) [] = tt
enough_store_one width (Some place) (v ∷ hs) = where_made (store_one width (Some place) (v ∷ hs)) (omega arith)

enough_load_of : (r : Room) (m : Memory) (first : ℕ) (o : Option Place) (hs : List Operand) → Enough 1 hs (load_of r m first o hs)
enough_load_of r m first None hs = tt
enough_load_of r m first (Some place) [] = tt
enough_load_of r m first (Some place) (h ∷ hs) = where_made (load_of r m first (Some place) (h ∷ hs)) (omega arith)

enough_store_of : (r : Room) (first width : ℕ) (o : Option Place) (hs : List Operand) → Enough 2 hs (store_of r first width o hs)
enough_store_of r first width None hs = tt
enough_store_of r first width (Some place) [] = tt
enough_store_of r first width (Some place) (v ∷ []) = tt
enough_store_of r first width (Some place) (v ∷ h ∷ hs) = where_made (store_of r first width (Some place) (v ∷ h ∷ hs)) (omega arith)

enough_load_item : (r : Room) (single : Option ArrayPlace) (e : Elements) (o : Option Place) (table : Option ℕ) (hs : List Operand)
    → Enough 2 hs (load_item r single e o table hs)
enough_load_item r single e o None [] = tt
enough_load_item r single e o None (i ∷ []) = tt
enough_load_item r single e (Some place) (Some table) [] = tt
enough_load_item r single e (Some place) (Some table) (i ∷ []) = tt
enough_load_item r single e None (Some table) [] = tt
enough_load_item r single e None (Some table) (i ∷ []) = tt
enough_load_item r single e o table (i ∷ h ∷ hs) = where_made (load_item r single e o table (i ∷ h ∷ hs)) (omega arith)

enough_store_item : (r : Room) (single : Option ArrayPlace) (e : Elements) (o : Option Place) (table : Option ℕ) (hs : List Operand)
    → Enough 3 hs (store_item r single e o table hs)
enough_store_item r single e o None [] = tt
enough_store_item r single e o None (v ∷ []) = tt
enough_store_item r single e o None (v ∷ i ∷ []) = tt
enough_store_item r single e (Some place) (Some table) [] = tt
enough_store_item r single e (Some place) (Some table) (v ∷ []) = tt
enough_store_item r single e (Some place) (Some table) (v ∷ i ∷ []) = tt
enough_store_item r single e None (Some table) [] = tt
enough_store_item r single e None (Some table) (v ∷ []) = tt
enough_store_item r single e None (Some table) (v ∷ i ∷ []) = tt
enough_store_item r single e o table (v ∷ i ∷ h ∷ hs) = where_made (store_item r single e o table (v ∷ i ∷ h ∷ hs)) (omega arith)

enough_length : (r : Room) (single : Option ArrayPlace) (table : Option ℕ) (hs : List Operand) → Enough 1 hs (array_length r single table hs)
enough_length r (Some a) table [] = tt
enough_length r None None [] = tt
enough_length r None (Some table) [] = tt
enough_length r single table (h ∷ hs) = where_made (array_length r single table (h ∷ hs)) (omega arith)

-- ---- calls

enough_taken : (count : ℕ) (hs : List Operand) (go : List Operand → List Operand → Made)
    → Enough count hs (with_taken (taken count hs) go)
enough_taken count hs go = by_count (nat_le count (length hs)) refl
  where
    le_of : nat_le count (length hs) ≡ true → count ≤ length hs
    le_of e = grind arith

    by_count : (b : Bool) → nat_le count (length hs) ≡ b
        → Enough count hs (with_taken (if b then Some (record { args = reverse (take count hs); rest = drop count hs }) else None) go)
    by_count true e = where_made (go (reverse (take count hs)) (drop count hs)) (le_of e)
    by_count false e = tt

enough_found : (count : ℕ) (hs : List Operand) (o : Option ℕ) (go : ℕ → List Operand → List Operand → Made)
    → Enough (suc count) hs (by_temp o (λ to. with_taken (taken (count + 1) hs) (go to)))
enough_found count hs (Some to) go =
    let one : count + 1 ≡ suc count = omega arith in
    subst (λ n. Enough n hs (with_taken (taken (count + 1) hs) (go to))) one (enough_taken (count + 1) hs (go to))
enough_found count hs None go = tt

-- ---- all steps

pub enough : (lay : Layout) (r : Room) (p : Step) (hs : List Operand) → Enough (takes p) hs (stepped lay r p hs)
enough lay r (Number v) hs = where_made (stepped lay r (Number v) hs) (omega arith)
enough lay r This hs = where_made (stepped lay r This hs) (omega arith)
enough lay r (GetLocal i) hs = where_made (stepped lay r (GetLocal i) hs) (omega arith)
enough lay r (SetLocal i) [] = tt
enough lay r (SetLocal i) (h ∷ hs) = where_made (stepped lay r (SetLocal i) (h ∷ hs)) (omega arith)
enough lay r Forget [] = tt
enough lay r Forget (h ∷ hs) = omega arith
enough lay r (Operate op) [] = tt
enough lay r (Operate op) (y ∷ []) = tt
enough lay r (Operate op) (y ∷ x ∷ hs) = where_made (stepped lay r (Operate op) (y ∷ x ∷ hs)) (omega arith)
enough lay r (Apply op) hs = enough_applied r op hs
enough lay r (ReadDevice a) hs = where_made (stepped lay r (ReadDevice a) hs) (omega arith)
enough lay r (WriteDevice a) [] = tt
enough lay r (WriteDevice a) (h ∷ hs) = omega arith
enough lay r (Load h c) hs = where_made (stepped lay r (Load h c) hs) (omega arith)
enough lay r (Store c w) hs = enough_store_one w (slice_get lay.ram c) hs
enough lay r (LoadAt h c o) hs = enough_load_of r (memory_of h) o (slice_get (places_in lay h) c) hs
enough lay r (StoreAt c o w) hs = enough_store_of r o w (slice_get lay.ram c) hs
enough lay r LoadNothing [] = tt
enough lay r LoadNothing (h ∷ hs) = omega arith
enough lay r StoreNothing [] = tt
enough lay r StoreNothing (v ∷ []) = tt
enough lay r StoreNothing (v ∷ h ∷ hs) = omega arith
enough lay r (LoadItem e) hs = enough_load_item r (lone_of lay e.table) e (slice_get (places_in lay e.home) e.column) (slice_get lay.tables e.table) hs
enough lay r (StoreItem e) hs = enough_store_item r (lone_of lay e.table) e (slice_get lay.ram e.column) (slice_get lay.tables e.table) hs
enough lay r (Length t) hs = enough_length r (lone_of lay t) (slice_get lay.tables t) hs
enough lay r (IsWithin a b) [] = tt
enough lay r (IsWithin a b) (h ∷ hs) = where_made (stepped lay r (IsWithin a b) (h ∷ hs)) (omega arith)
enough lay r (StopUnlessWithin a b) [] = tt
enough lay r (StopUnlessWithin a b) (h ∷ hs) = where_made (stepped lay r (StopUnlessWithin a b) (h ∷ hs)) (omega arith)
enough lay r (Bind q) hs = where_made (stepped lay r (Bind q) hs) (omega arith)
enough lay r (BindFor d) [] = tt
enough lay r (BindFor d) (h ∷ hs) = where_made (stepped lay r (BindFor d) (h ∷ hs)) (omega arith)
enough lay r (Call q c) hs = enough_taken c hs (called_as r q (passing_of (slice_get lay.passing q)))
enough lay r (CallFor d c) hs = enough_found c hs (temp r hs) (called_on r d)
enough lay r (CallValue c) hs = enough_found c hs (temp r hs) (called_by r)
enough lay r Idle hs = omega arith
