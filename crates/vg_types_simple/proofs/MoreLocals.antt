-- Code that is typed under locals is typed under more of them.
use Rattle.std.proofs.Common.{◌≡◌, ℕ, zero, suc, Bool, true, List, [], ◌∷◌, ◌++◌, Some, slice_get}
use Rattle.vg_meaning.specs.Code.{Code, Nothing, Then, Do, If, Loop, Break, Continue, Return}
use Rattle.vg_meaning.specs.Shapes.{Fits}
use Rattle.vg_core.specs.declared.types.CoreType.{CoreType}
use Rattle.vg_core.specs.declared.step.Step.{Step}
use Rattle.vg_core.specs.declared.program.Owner.{Owner}
use Rattle.vg_core.specs.declared.program.Tables.{Tables}
use Rattle.vg_core.specs.Typing.{Takes, known, t_put, t_literal, t_this, t_local, t_component_field, t_register, t_component_method, t_apply, t_operate}
use Rattle.vg_core.specs.Typing.{t_cast, t_is_below, t_field, t_item, t_length, t_method_of, t_call_method, t_call_value, t_call_component}
use Rattle.vg_core.specs.Typing.{t_new_object, t_new_array, t_set_local, t_set_component_field, t_set_register, t_set_field, t_set_item, t_forget, t_super}

-- what stands in a list stands there also where the list goes on
pub got_in_front : {A : Type 0} (xs ys : List A) (k : ℕ) (x : A) → slice_get xs k ≡ Some x → slice_get (xs ++ ys) k ≡ Some x
got_in_front [] ys k x e = absurd (cc)
got_in_front (a ∷ xs) ys zero x e = e
got_in_front (a ∷ xs) ys (suc k) x e = got_in_front xs ys k x e

module _ (p : Tables) (ts more : List CoreType) (o : Owner) where
  takes_more : {s : Step} {x y : List CoreType} → Takes p ts o s x y → Takes p (ts ++ more) o s x y
  takes_more (t_put h) = t_put h
  takes_more (t_literal bytes h) = t_literal bytes h
  takes_more (t_this h) = t_this h
  takes_more (t_local {k = k} {t = t} h) = t_local (got_in_front ts more k t h)
  takes_more (t_component_field y h g) = t_component_field y h g
  takes_more t_register = t_register
  takes_more (t_component_method y h g f) = t_component_method y h g f
  takes_more (t_apply h) = t_apply h
  takes_more (t_operate h) = t_operate h
  takes_more (t_cast h) = t_cast h
  takes_more (t_is_below h) = t_is_below h
  takes_more (t_field y h g f) = t_field y h g f
  takes_more (t_item h) = t_item h
  takes_more t_length = t_length
  takes_more (t_method_of m y h g f) = t_method_of m y h g f
  takes_more (t_call_method m y us h g f) = t_call_method m y us h g f
  takes_more (t_call_value params us h g f e) = t_call_value params us h g f e
  takes_more (t_call_component y us h g f) = t_call_component y us h g f
  takes_more (t_new_object k us h g) = t_new_object k us h g
  takes_more (t_new_array h) = t_new_array h
  takes_more (t_set_local {k = k} {t = t} h g) = t_set_local (got_in_front ts more k t h) g
  takes_more (t_set_component_field y h g f) = t_set_component_field y h g f
  takes_more t_set_register = t_set_register
  takes_more (t_set_field y h g f e) = t_set_field y h g f e
  takes_more (t_set_item h g) = t_set_item h g
  takes_more t_forget = t_forget
  takes_more (t_super k us h g f e) = t_super k us h g f e

  pub more_locals : (r : CoreType) (looped : Bool) (c : Code Step) (x y : List CoreType) → Fits (known p ts o r) looped c x y
      → Fits (known p (ts ++ more) o r) looped c x y
  more_locals r looped Nothing x y h = h
  more_locals r looped (Then a b) x y (z, f, g) = (z, more_locals r looped a x z f, more_locals r looped b z y g)
  more_locals r looped (Do s) x y h = takes_more h
  more_locals r looped (If a b) x y (z, t, f, g) = (z, t, more_locals r looped a z y f, more_locals r looped b z y g)
  more_locals r looped (Loop c body next) x y (e, f, z, h, t, i, j) =
      (e, f, z, more_locals r looped c [] z h, t, more_locals r true body [] [] i, more_locals r looped next [] [] j)
  more_locals r looped Break x y h = h
  more_locals r looped Continue x y h = h
  more_locals r looped Return x y h = h
