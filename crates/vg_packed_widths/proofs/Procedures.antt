-- What packed procedures have.
use Rattle.std.proofs.Common.{◌≡◌, sym, subst, arith, ℕ, suc, ◌+◌, ◌≤◌, List, [], ◌∷◌, ◌++◌, length, map, refl}
use Rattle.std.proofs.Common.{Option, Some, None, slice_get}
use Rattle.std.proofs.lemmas.List.{length-map}
use Rattle.std.specs.List.{AllByRecursion}
use Rattle.vg_core.specs.declared.types.CoreType.{CoreType}
use Rattle.vg_core.specs.declared.program.Method.{Method}
use Rattle.vg_core.specs.declared.program.Tables.{Tables}
use Rattle.vg_core.specs.Program.{Body, Program}
use Rattle.vg_core.specs.State.{onto}
use Rattle.vg_core.specs.Typing.{locals_of}
use Rattle.vg_firm.specs.declared.procedure.Procedure.{Procedure as Held}
use Rattle.vg_firm.specs.Held.{procedure_of}
use Rattle.vg_firm.specs.Program.{Procedure}
use Rattle.vg_lin.specs.Sound.{IsWidth}
use Rattle.vg_coded.specs.Widths.{width_of}
use Rattle.vg_live.specs.Sets.{flat}
use Rattle.vg_number.specs.declared.numbers.Numbers.{Numbers}
use Rattle.vg_pack_bodies.specs.Procedures.{packed_here, packed_if, packed_methods, signature, unless_none}
use Rattle.vg_pack_code.specs.declared.plan.Plan.{Plan}
use Rattle.vg_packed_widths.specs.Locals.{TakesBytes, TakeBytes}
use Rattle.vg_packed_widths.specs.Widths.{AllHaveWidths}

-- the same of a procedure as definitions see it
record Fit (r : Procedure) : Type 0 where
  params : r.params ≤ length r.widths
  widths : AllByRecursion IsWidth r.widths
  result : r.result ≤ 4

joined : (xs ys : List Procedure) → AllByRecursion Fit xs → AllByRecursion Fit ys → AllByRecursion Fit (xs ++ ys)
joined [] ys a b = b
joined (x ∷ xs) ys (h, a) b = (h, joined xs ys a b)

onto_length : (xs acc : List CoreType) → length (onto xs acc) ≡ length xs + length acc
onto_length [] acc = omega arith
onto_length (x ∷ xs) acc = let h = onto_length xs (x ∷ acc) in omega (arith, h)

params_first : (y : Method) (b : Body) → length y.params ≤ length (map width_of (locals_of (signature y) b))
params_first y b =
    let a = onto_length y.params [] in
    let c = onto_length (onto y.params []) b.others in let d = length-map (locals_of (signature y) b) width_of in omega (arith, a, c, d)

all_widths : (ts : List CoreType) → AllByRecursion TakesBytes ts → AllByRecursion IsWidth (map width_of ts)
all_widths [] h = tt
all_widths (t ∷ ts) (a, h) = (a, all_widths ts h)

abbrev Sized : Method → Body → Type 0
Sized y b = AllByRecursion TakesBytes (locals_of (signature y) b) × (width_of y.result ≤ 4)

module _ (p : Tables) (n : Numbers) (x : Plan) where
  one : (m : ℕ) (y : Method) (b : Body) → Sized y b → AllByRecursion Fit (packed_if p n x m y b)
  one m y b (h, r) = by (flat (slice_get x.procedures m))
    where
      by : (o : Option ℕ) → AllByRecursion Fit (unless_none o (packed_here p n x m y b))
      by (Some q) = (record { params = params_first y b; widths = all_widths (locals_of (signature y) b) h; result = r }, tt)
      by None = tt

  each : (m : ℕ) (ys : List Method) (bs : List Body)
      → ((i : ℕ) (y : Method) (b : Body) → slice_get ys i ≡ Some y → slice_get bs i ≡ Some b → Sized y b)
      → AllByRecursion Fit (packed_methods p n x m ys bs)
  each m [] bs h = tt
  each m (y ∷ ys) [] h = tt
  each m (y ∷ ys) (b ∷ bs) h =
      joined (packed_if p n x m y b) (packed_methods p n x (suc m) ys bs) (one m y b (h 0 y b refl refl))
      (each (suc m) ys bs (λ i z c ez ec. h (suc i) z c ez ec))

held : (ms : List Held) → AllByRecursion Fit (map procedure_of ms) → AllHaveWidths ms
held [] h = tt
held (m ∷ ms) (a, h) = (record { params = a.params; widths = a.widths; result = a.result }, held ms h)

pub have_widths : (p : Program) (n : Numbers) (x : Plan) (ms : List Held) → TakeBytes p
    → map procedure_of ms ≡ packed_methods p.tables n x 0 p.tables.methods p.methods → AllHaveWidths ms
have_widths p n x ms take e =
    held ms
    (subst (AllByRecursion Fit) (sym e)
    (each p.tables n x 0 p.tables.methods p.methods (λ i y b ey eb. (take.locals i y b ey eb, take.results i y ey))))
