-- That code which neither loops nor leaves becomes blocks that neither turn back nor leave.
use Rattle.std.specs.Prelude.{true, List, [], ◌∷◌, reverse, Option, Some, None}
use Rattle.std.proofs.Common.{◌≡◌, refl}
use Rattle.std.proofs.lemmas.Bool.{false≢true, and_parts, and_from}
use Rattle.vg_meaning.specs.Code.{Code, Nothing, Then, Do, If, Loop, Break, Continue, Return}
use Rattle.vg_firm.specs.declared.step.Step.{Step}
use Rattle.vg_lin.specs.declared.instr.Operand.{Operand}
use Rattle.vg_lin.specs.declared.instr.Operand.TheVariants.{Local}
use Rattle.vg_flatten_shapes.specs.declared.fault.Fault.TheVariants.{NotTaken}
use Rattle.vg_flatten_shapes.specs.declared.open.Truth.{Truth}
use Rattle.vg_flatten_shapes.specs.declared.layout.Layout.{Layout}
use Rattle.vg_flatten_shapes.specs.declared.room.Room.{Room}
use Rattle.vg_flatten_shapes.specs.Shapes.{Shape, only, same_operand, same_homes, temp}
use Rattle.vg_flatten_shapes.specs.Blocks.{Block, Choice}
use Rattle.vg_flatten_shapes.specs.Made.{Made, Gives, Refused, behind, after, settled, Tested, tested}
use Rattle.vg_flatten_steps.specs.Steps.{stepped}
use Rattle.vg_flatten_control.specs.Flat.{landed_as, landed, joined, chosen, flat}
use Rattle.vg_flatten_pushed.specs.Stacked.{is_calm}
use Rattle.vg_flatten.proofs.Steady.{steady, IsSteady, steady_temp, steady_if, steady_settled, steady_step}

steady_behind : (a : Block) (made : Made) → steady a ≡ true → IsSteady made → IsSteady (behind a made)
steady_behind a (Gives b s) ha hm = and_from (steady a) (steady b) ha hm
steady_behind a (Refused why) ha hm = tt

pub steady_after : (made : Made) (more : Shape → Made) → IsSteady made → ((s : Shape) → IsSteady (more s)) → IsSteady (after made more)
steady_after (Gives a s) more hm h = steady_behind a (more s) hm (h s)
steady_after (Refused why) more hm h = tt

module _ (lay : Layout) (r : Room) where
  steady_landed_as : (hs : List Operand) → IsSteady (landed_as r hs)
  steady_landed_as [] = refl
  steady_landed_as (h ∷ hs) = steady_temp (temp r hs) _ (λ to. steady_if (same_operand (Local to) h) _ _ refl refl)

  steady_landed : (made : Made) → IsSteady made → IsSteady (landed r made)
  steady_landed made h =
      steady_after made _ h (λ s. steady_after (settled r s) (λ s1. landed_as r s1.homes) (steady_settled r s) (λ s1. steady_landed_as s1.homes))

  steady_joined : (t : Truth) (x y : Made) → IsSteady x → IsSteady y → IsSteady (joined t x y)
  steady_joined t (Refused why) y hx hy = tt
  steady_joined t (Gives a s) (Refused why) hx hy = tt
  steady_joined t (Gives a s) (Gives b s1) hx hy =
      steady_if (same_homes (reverse s.homes) (reverse s1.homes)) (Gives (Choice t a b) s) (Refused NotTaken) (and_from (steady a) (steady b) hx hy) tt

  steady_chosen : (o : Option Tested) (f g : Shape → Made) → ((s : Shape) → IsSteady (f s)) → ((s : Shape) → IsSteady (g s)) → IsSteady (chosen r o f g)
  steady_chosen None f g hf hg = tt
  steady_chosen (Some t) f g hf hg =
      steady_joined t.truth (landed r (f (only t.homes))) (landed r (g (only t.homes))) (steady_landed (f (only t.homes)) (hf (only t.homes)))
      (steady_landed (g (only t.homes)) (hg (only t.homes)))

  pub steady_flat : (c : Code Step) (s : Shape) → is_calm c ≡ true → IsSteady (flat lay r c s)
  steady_flat Nothing s e = refl
  steady_flat (Then a b) s e =
      steady_after (flat lay r a s) (flat lay r b) (steady_flat a s (and_parts (is_calm a) (is_calm b) e).0)
      (λ s1. steady_flat b s1 (and_parts (is_calm a) (is_calm b) e).1)
  steady_flat (Do p) s e = steady_after (settled r s) (λ s1. stepped lay r p s1.homes) (steady_settled r s) (λ s1. steady_step lay r p s1.homes)
  steady_flat (If a b) s e =
      steady_chosen (tested s) (flat lay r a) (flat lay r b) (λ s1. steady_flat a s1 (and_parts (is_calm a) (is_calm b) e).0)
      (λ s1. steady_flat b s1 (and_parts (is_calm a) (is_calm b) e).1)
  steady_flat (Loop c body next) s e = absurd (false≢true e)
  steady_flat Break s e = absurd (false≢true e)
  steady_flat Continue s e = absurd (false≢true e)
  steady_flat Return s e = absurd (false≢true e)
