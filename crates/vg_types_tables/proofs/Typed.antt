-- Code typed under some locals is typed under more: of all steps only those of a local look at the types of locals. And rows and
-- chains of typed code are typed.
use Rattle.std.proofs.Common.{◌≡◌, Bool, true, List, [], ◌∷◌, ◌++◌, refl, sym, subst}
use Rattle.vg_meaning.specs.Code.{Code, Nothing, Then, Do, If, Loop, Break, Continue, Return}
use Rattle.vg_meaning.specs.Shapes.{Shapes, Fits}
use Rattle.vg_core.specs.declared.types.CoreType.{CoreType}
use Rattle.vg_core.specs.declared.program.Owner.{Owner}
use Rattle.vg_core.specs.declared.program.Tables.{Tables}
use Rattle.vg_core.specs.declared.step.Step.{Step}
use Rattle.vg_core.specs.declared.code.Code as held
use Rattle.vg_core.specs.HeldProgram.{code_of, code_row, code_chain}
use Rattle.vg_core.specs.Typing.{Takes, known}
use Rattle.vg_core.specs.Typing.{t_put, t_literal, t_this, t_local, t_component_field, t_register, t_component_method, t_apply, t_operate, t_cast}
use Rattle.vg_core.specs.Typing.{t_is_below, t_field, t_item, t_length, t_method_of, t_call_method, t_call_value, t_call_component, t_new_object}
use Rattle.vg_core.specs.Typing.{t_new_array, t_set_local, t_set_component_field, t_set_register, t_set_field, t_set_item, t_forget, t_super}
use Rattle.vg_types_tables.specs.declared.body.BodyKind.{BodyKind}
use Rattle.vg_types_tables.specs.declared.judged.Head.{Head}
use Rattle.vg_types_tables.specs.declared.locals.Locals.{Locals}
use Rattle.vg_types_tables.specs.Promises.{Leads, Puts, Runs}
use Rattle.vg_types_tables.proofs.Lists.{still_there}

module _ (p : Tables) (ts more : List CoreType) (o : Owner) where
  -- a step under more locals
  step_more : {s : Step} {x y : List CoreType} → Takes p ts o s x y → Takes p (ts ++ more) o s x y
  step_more (t_put h) = t_put h
  step_more (t_literal bytes e) = t_literal bytes e
  step_more (t_this e) = t_this e
  step_more (t_local e) = t_local (still_there ts more _ _ e)
  step_more (t_component_field y e g) = t_component_field y e g
  step_more t_register = t_register
  step_more (t_component_method y e g h) = t_component_method y e g h
  step_more (t_apply h) = t_apply h
  step_more (t_operate h) = t_operate h
  step_more (t_cast h) = t_cast h
  step_more (t_is_below h) = t_is_below h
  step_more (t_field y e g h) = t_field y e g h
  step_more (t_item e) = t_item e
  step_more t_length = t_length
  step_more (t_method_of m y e g h) = t_method_of m y e g h
  step_more (t_call_method m y us e g h) = t_call_method m y us e g h
  step_more (t_call_value params us e g h s) = t_call_value params us e g h s
  step_more (t_call_component y us e g h) = t_call_component y us e g h
  step_more (t_new_object k us e h) = t_new_object k us e h
  step_more (t_new_array e) = t_new_array e
  step_more (t_set_local e h) = t_set_local (still_there ts more _ _ e) h
  step_more (t_set_component_field y e g h) = t_set_component_field y e g h
  step_more t_set_register = t_set_register
  step_more (t_set_field y e g h s) = t_set_field y e g h s
  step_more (t_set_item e h) = t_set_item e h
  step_more t_forget = t_forget
  step_more (t_super k us e h g s) = t_super k us e h g s

  -- code under more locals
  pub more_locals : (r : CoreType) (looped : Bool) (c : Code Step) (x y : List CoreType) → Fits (known p ts o r) looped c x y
      → Fits (known p (ts ++ more) o r) looped c x y
  more_locals r looped Nothing x y e = e
  more_locals r looped (Then a b) x y (z, h, g) = (z, more_locals r looped a x z h, more_locals r looped b z y g)
  more_locals r looped (Do s) x y h = step_more h
  more_locals r looped (If a b) x y (z, t, h, g) = (z, t, more_locals r looped a z y h, more_locals r looped b z y g)
  more_locals r looped (Loop c body next) x y (e, g, z, h, t, k, n) =
      (e, g, z, more_locals r looped c [] z h, t, more_locals r true body [] [] k, more_locals r looped next [] [] n)
  more_locals r looped Break x y h = h
  more_locals r looped Continue x y h = h
  more_locals r looped Return x y h = h

module _ (p : Tables) (k : BodyKind) (old new : Locals) (more : List CoreType) (grown : new.declared ≡ old.declared ++ more) where
  fits_more : (o : Owner) (c : Code Step) (x y : List CoreType) → Fits (known p old.declared o k.result) k.in_loop c x y
      → Fits (known p new.declared o k.result) k.in_loop c x y
  fits_more o c x y h =
      subst (λ ts. Fits (known p ts o k.result) k.in_loop c x y) (sym grown) (more_locals p old.declared more o k.result k.in_loop c x y h)

  pub leads_more : (h g : Head) (c : Code Step) → Leads p k old h c g → Leads p k new h c g
  leads_more h g c f o x s = fits_more o c _ _ (f o x s)

  pub puts_more : (c : Code Step) (t : CoreType) → Puts p k old c t → Puts p k new c t
  puts_more c t f o x s = fits_more o c _ _ (f o x s)

  pub runs_more : (c : Code Step) → Runs p k old c → Runs p k new c
  runs_more c f o s = fits_more o c _ _ (f o s)

-- ---- rows and chains

module _ {Shape : Type 0} (k : Shapes Step Shape) (looped : Bool) where
  -- a row with one more code at its end
  pub row_one_more : (cs : List held.Code) (c : held.Code) (x y z : Shape) → Fits k looped (code_row cs) x y → Fits k looped (code_of c) y z
      → Fits k looped (code_row (cs ++ c ∷ [])) x z
  row_one_more [] c x y z e h = (z, subst (λ w. Fits k looped (code_of c) w z) (sym e) h, refl)
  row_one_more (a ∷ cs) c x y z (w, g, f) h = (w, g, row_one_more cs c w y z f h)

  -- a chain with one more code at its end
  pub chain_one_more : (cs : List held.Code) (c : held.Code) (x y z : Shape) → Fits k looped (code_chain cs) x y → Fits k looped (code_of c) y z
      → Fits k looped (code_chain (cs ++ c ∷ [])) x z
  chain_one_more [] c x y z e h = subst (λ w. Fits k looped (code_of c) w z) (sym e) h
  chain_one_more (a ∷ []) c x y z g h = (y, g, h)
  chain_one_more (a ∷ b ∷ cs) c x y z (w, g, f) h = (w, g, chain_one_more (b ∷ cs) c w y z f h)
