-- What is named of the values that wait, and of what is made from there.
use Rattle.std.specs.Prelude.{ℕ, zero, suc, ◌+◌, Bool, true, false, nat_lt, nat_le, List, [], ◌∷◌, ◌++◌, length, reverse, take, drop}
use Rattle.std.specs.Prelude.{Option, Some, None, if◌then◌else◌}
use Rattle.std.proofs.Common.{sym, subst}
use Rattle.std.proofs.lemmas.List.{reverse-append}
use Rattle.vg_lin.specs.declared.instr.Operand.{Operand}
use Rattle.vg_lin.specs.declared.instr.Operand.TheVariants.{Local, Known}
use Rattle.vg_flatten_shapes.specs.declared.open.Truth.{Truth}
use Rattle.vg_flatten_shapes.specs.declared.room.Room.{Room}
use Rattle.vg_flatten_shapes.specs.Shapes.{Shape, Taken, taken, temp}
use Rattle.vg_flatten_shapes.specs.Blocks.{Block}
use Rattle.vg_flatten_shapes.specs.Made.{Made, Gives, Refused, behind, after, by_temp, settled, settled_as, Tested, tested, tested_as}
use Rattle.vg_flat_names.proofs.Blocks.{TruthNames, BlockNames}

-- Something holds of each home.
abbrev pub AllOk : (Operand → Type 0) → List Operand → Type 0
AllOk Ok [] = Unit {0}
AllOk Ok (a ∷ hs) = Ok a × AllOk Ok hs

-- It holds of the sides of a test that may wait.
abbrev pub MayNames : (Operand → Type 0) → Option Truth → Type 0
MayNames Ok (Some t) = TruthNames Ok t
MayNames Ok None = Unit {0}

-- It holds of all that waits.
abbrev pub ShapeNames : (Operand → Type 0) → Shape → Type 0
ShapeNames Ok s = AllOk Ok s.homes × MayNames Ok s.truth

-- It holds of all that is named by what is made, and of the homes behind it.
abbrev pub MadeNames : (Operand → Type 0) → Made → Type 0
MadeNames Ok (Gives b s) = BlockNames Ok b × ShapeNames Ok s
MadeNames Ok (Refused why) = Unit {0}

module _ (Ok : Operand → Type 0) where
  -- ---- homes

  pub take_ok : (n : ℕ) (hs : List Operand) → AllOk Ok hs → AllOk Ok (take n hs)
  take_ok zero hs h = tt
  take_ok (suc n) [] h = tt
  take_ok (suc n) (a ∷ hs) h = (h.0, take_ok n hs h.1)

  pub drop_ok : (n : ℕ) (hs : List Operand) → AllOk Ok hs → AllOk Ok (drop n hs)
  drop_ok zero hs h = h
  drop_ok (suc n) [] h = tt
  drop_ok (suc n) (a ∷ hs) h = drop_ok n hs h.1

  pub both_ok : (xs ys : List Operand) → AllOk Ok xs → AllOk Ok ys → AllOk Ok (xs ++ ys)
  both_ok [] ys h g = g
  both_ok (x ∷ xs) ys h g = (h.0, both_ok xs ys h.1 g)

  reverse_ok : (xs : List Operand) → AllOk Ok xs → AllOk Ok (reverse xs)
  reverse_ok [] h = tt
  reverse_ok (x ∷ xs) h = subst (AllOk Ok) (sym (reverse-append (x ∷ []) xs)) (both_ok (reverse xs) (x ∷ []) (reverse_ok xs h.1) (h.0, tt))

  -- what holds of the arguments that are taken, and of what waits below them, gives it of all cases
  pub by_taken : (P : Option Taken → Type 0) (count : ℕ) (hs : List Operand) → AllOk Ok hs → P None
      → ((args rest : List Operand) → AllOk Ok args → AllOk Ok rest → P (Some (record { args = args; rest = rest }))) → P (taken count hs)
  by_taken P count hs h none some = by_count (nat_le count (length hs))
    where
      by_count : (b : Bool) → P (if b then Some (record { args = reverse (take count hs); rest = drop count hs }) else None)
      by_count true = some (reverse (take count hs)) (drop count hs) (reverse_ok (take count hs) (take_ok count hs h)) (drop_ok count hs h)
      by_count false = none

  -- ---- what is made

  pub names_behind : (a : Block) (made : Made) → BlockNames Ok a → MadeNames Ok made → MadeNames Ok (behind a made)
  names_behind a (Gives b s) ha hm = ((ha, hm.0), hm.1)
  names_behind a (Refused why) ha hm = tt

  pub names_after : (made : Made) (more : Shape → Made) → MadeNames Ok made → ((s : Shape) → ShapeNames Ok s → MadeNames Ok (more s))
      → MadeNames Ok (after made more)
  names_after (Gives a s) more hm h = names_behind a (more s) hm.0 (h s hm.1)
  names_after (Refused why) more hm h = tt

  pub names_if : (b : Bool) (x y : Made) → MadeNames Ok x → MadeNames Ok y → MadeNames Ok (if b then x else y)
  names_if true x y h g = h
  names_if false x y h g = g

module _ (Ok : Operand → Type 0) (known : (n : ℕ) → Ok (Known n)) (r : Room) (temps : (n : ℕ) → Ok (Local (r.locals + n))) where
  pub names_temp : (hs : List Operand) (go : ℕ → Made) → ((to : ℕ) → Ok (Local to) → MadeNames Ok (go to)) → MadeNames Ok (by_temp (temp r hs) go)
  names_temp hs go h = by_room (nat_lt (length hs) r.temps)
    where
      by_room : (b : Bool) → MadeNames Ok (by_temp (if b then Some (r.locals + length hs) else None) go)
      by_room true = h (r.locals + length hs) (temps (length hs))
      by_room false = tt

  pub names_settled : (s : Shape) → ShapeNames Ok s → MadeNames Ok (settled r s)
  names_settled s (h, g) = by_truth s.truth g
    where
      by_truth : (o : Option Truth) → MayNames Ok o → MadeNames Ok (settled_as r o s.homes)
      by_truth None e = (tt, (h, tt))
      by_truth (Some x) e = names_temp s.homes _ (λ to lt. ((e, (lt, known 1), (lt, known 0)), ((lt, h), tt)))

  -- the test that waits, and what waits below it
  pub names_tested : (P : Option Tested → Type 0) (s : Shape) → ShapeNames Ok s → P None
      → ((truth : Truth) (hs : List Operand) → TruthNames Ok truth → AllOk Ok hs → P (Some (record { truth = truth; homes = hs }))) → P (tested s)
  names_tested P s (h, g) none some = by_shape s.truth s.homes h g
    where
      by_shape : (o : Option Truth) (hs : List Operand) → AllOk Ok hs → MayNames Ok o → P (tested_as o hs)
      by_shape (Some x) hs h1 g1 = some x hs g1 h1
      by_shape None (a ∷ hs) h1 g1 = some _ hs (h1.0, known 0) h1.1
      by_shape None [] h1 g1 = none
