-- Code that neither loops nor leaves, part by part, and a choice by a newer value whose ways are such code.
use Rattle.std.specs.Prelude.{ℕ, ◌+◌, Bool, true, false, ◌&&◌, List, ◌∷◌, drop, if◌then◌else◌}
use Rattle.std.proofs.Common.{◌≡◌, refl, sym, ap, ◌∙◌}
use Rattle.vg_meaning.specs.Code.{Code, Nothing, If}
use Rattle.vg_firm.specs.declared.step.Step.{Step}
use Rattle.vg_firm.specs.declared.code.Code as held
use Rattle.vg_firm.specs.Held.{code_of, list_of}
use Rattle.vg_flatten_shapes.specs.declared.fault.Fault.TheVariants.{NotTaken}
use Rattle.vg_flatten_shapes.specs.declared.layout.Layout.{Layout}
use Rattle.vg_flatten_shapes.specs.declared.room.Room.{Room}
use Rattle.vg_flatten_shapes.specs.Shapes.{Shape}
use Rattle.vg_flatten_shapes.specs.Made.{Made, Refused}
use Rattle.vg_flatten_control.specs.Flat.{flat}
use Rattle.vg_flatten_control.specs.Weights.{arm_then}
use Rattle.vg_flatten_pushed.specs.Pushed.{newer, older, onto}
use Rattle.vg_flatten_pushed.specs.Stacked.{is_calm, by_newer}

pub part_calm : (xs : List held.Code) (i : ℕ) (x : held.Code) (b : Bool) → drop i xs ≡ x ∷ drop (i + 1) xs → b ≡ is_calm (code_of x)
    → is_calm (list_of (drop i xs)) ≡ b && is_calm (list_of (drop (i + 1) xs))
part_calm xs i x b ed eb = ap (λ z. is_calm (list_of z)) ed ∙ ap (λ z. z && is_calm (list_of (drop (i + 1) xs))) (sym eb)

all_three : (x y z : Bool) → x && (y && z) ≡ (x && (y && true)) && z
all_three true true z = refl
all_three true false z = refl
all_three false y z = refl

pub arm_calm : (c : held.Code) (rest : Code Step) → is_calm (arm_then c rest) ≡ is_calm (code_of c) && is_calm rest
arm_calm (held.Arm' p c q b) rest = all_three (is_calm (code_of c)) (is_calm (code_of b)) (is_calm rest)
arm_calm (held.Row' s all) rest = refl
arm_calm (held.Do p) rest = refl
arm_calm (held.If' p a q b) rest = refl
arm_calm (held.Arms' s all p a) rest = refl
arm_calm (held.Loop' p a q b r c) rest = refl
arm_calm held.Break rest = refl
arm_calm held.Continue rest = refl
arm_calm held.Return rest = refl

-- a choice whose ways are calm, or not
module _ (lay : Layout) (r : Room) (most : ℕ) (a b : Code Step) (s : Shape) where
  abbrev above : Made
  above = onto (older most s) (flat lay r (If a b) (newer most s))

  pub newer_calm : is_calm a && is_calm b ≡ true → by_newer lay r most a b s ≡ above
  newer_calm e = ap (λ z. if z then above else Refused NotTaken) e

  pub newer_not : is_calm a && is_calm b ≡ false → by_newer lay r most a b s ≡ Refused NotTaken
  newer_not e = ap (λ z. if z then above else Refused NotTaken) e

and_true : (x : Bool) → x && true ≡ x
and_true true = refl
and_true false = refl

-- the same, where there is no code in the second way
pub alone_calm : (lay : Layout) (r : Room) (most : ℕ) (a : Code Step) (s : Shape) → is_calm a ≡ true
    → by_newer lay r most a Nothing s ≡ onto (older most s) (flat lay r (If a Nothing) (newer most s))
alone_calm lay r most a s e = newer_calm lay r most a Nothing s (and_true (is_calm a) ∙ e)

pub alone_not : (lay : Layout) (r : Room) (most : ℕ) (a : Code Step) (s : Shape) → is_calm a ≡ false → by_newer lay r most a Nothing s ≡ Refused NotTaken
alone_not lay r most a s e = newer_not lay r most a Nothing s (and_true (is_calm a) ∙ e)
