-- The code of parts leads from what waits to their values.
use Rattle.std.proofs.Common.{◌≡◌, ℕ, true, false, ◌∷◌, refl, sym, subst}
use Rattle.vg_meaning.specs.Code.{Code, Then, Do, If}
use Rattle.vg_meaning.specs.Shapes.{Fits}
use Rattle.vg_core.specs.declared.types.CoreType.{CoreType}
use Rattle.vg_core.specs.declared.types.CoreType.TheVariants.{BoolType}
use Rattle.vg_core.specs.declared.value.CoreValue.TheVariants.{Bool as Truth}
use Rattle.vg_core.specs.declared.operator.Operator.{Operator}
use Rattle.vg_core.specs.declared.step.Step.{Step}
use Rattle.vg_core.specs.declared.step.Step.TheVariants.{Put, Operate}
use Rattle.vg_core.specs.declared.program.Tables.{Tables}
use Rattle.vg_core.specs.Typing.{OpTakes, known, t_put, t_operate}
use Rattle.vg_types_tables.specs.declared.body.BodyKind.{BodyKind}
use Rattle.vg_types_tables.specs.declared.locals.Locals.{Locals}
use Rattle.vg_types_tables.specs.declared.judged.Head.TheVariants.{Nothing, Value}
use Rattle.vg_types_tables.specs.Promises.{Leads, Puts}
use Rattle.vg_types_operators.specs.Operands.{are_bools}

module _ (p : Tables) (k : BodyKind) (ls : Locals) where
  -- an operator behind its right operand
  pub operates : (id : ℕ) (o : Operator) (t u r : CoreType) (a c : Code Step) → OpTakes p o t u r → c ≡ Then a (Do (Operate id o t u))
      → Puts p k ls a u → Leads p k ls (Value t) c (Value r)
  operates id op t u r a c h e puts o x s =
      subst (λ z. Fits (known p ls.declared o k.result) k.in_loop z (t ∷ x) (r ∷ x)) (sym e) (u ∷ t ∷ x, puts o (t ∷ x) s, t_operate h)

  -- the right operand where the left one is true, and where it is false
  pub where_true : (t u : CoreType) (a c : Code Step) → are_bools t u ≡ true → c ≡ If a (Do (Put (Truth false))) → Puts p k ls a u
      → Leads p k ls (Value t) c (Value BoolType)
  where_true BoolType BoolType a c h e puts o x s =
      subst (λ z. Fits (known p ls.declared o k.result) k.in_loop z (BoolType ∷ x) (BoolType ∷ x)) (sym e) (x, refl, puts o x s, t_put tt)
  where_true t u a c h e puts o x s = absurd (let clash : false ≡ true = h in cc)

  pub where_false : (t u : CoreType) (b c : Code Step) → are_bools t u ≡ true → c ≡ If (Do (Put (Truth true))) b → Puts p k ls b u
      → Leads p k ls (Value t) c (Value BoolType)
  where_false BoolType BoolType b c h e puts o x s =
      subst (λ z. Fits (known p ls.declared o k.result) k.in_loop z (BoolType ∷ x) (BoolType ∷ x)) (sym e) (x, refl, t_put tt, puts o x s)
  where_false t u b c h e puts o x s = absurd (let clash : false ≡ true = h in cc)

  -- operators behind their operand
  pub applies : (t : CoreType) (a b c : Code Step) → c ≡ Then a b → Puts p k ls a t → Leads p k ls (Value t) b (Value t) → Leads p k ls Nothing c (Value t)
  applies t a b c e puts h o x s =
      subst (λ z. Fits (known p ls.declared o k.result) k.in_loop z x (t ∷ x)) (sym e) (t ∷ x, puts o x s, h o x s)
