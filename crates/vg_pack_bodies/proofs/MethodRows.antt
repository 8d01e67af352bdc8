-- Rows of procedures, one more at a time.
use Rattle.std.proofs.Common.{◌≡◌, refl, sym, ap, subst, ◌∙◌, arith, ℕ, zero, suc, ◌+◌, ◌<◌, Bool, List, [], ◌∷◌, ◌++◌, drop, map, length, get_or, slice_get}
use Rattle.std.proofs.Common.{append_assoc}
use Rattle.vg_core.specs.declared.program.Method.{Method}
use Rattle.vg_core.specs.declared.program.Tables.{Tables}
use Rattle.vg_core.specs.Program.{Body}
use Rattle.vg_core.specs.State.{onto}
use Rattle.vg_firm.specs.Program.{Procedure}
use Rattle.vg_number.specs.declared.numbers.Numbers.{Numbers}
use Rattle.vg_pack_code.specs.declared.plan.Plan.{Plan}
use Rattle.vg_pack_code.specs.Plans.{holds, row_in, moved}
use Rattle.vg_coded.specs.Widths.{width_of}
use Rattle.vg_meaning.specs.Code.{Code, replaced}
use Rattle.vg_firm.specs.declared.step.Step.{Step as FirmStep}
use Rattle.vg_pairs.specs.Pairs.{without_pairs}
use Rattle.vg_packing.specs.Pass.{is_class}
use Rattle.vg_pack_bodies.specs.Procedures.{packed_at, packed_here, packed_if, packed_methods}

-- a list turned twice is as it was
pub turned : {A : Type 0} (xs acc more : List A) → onto (onto xs acc) more ≡ onto acc (xs ++ more)
turned [] acc more = refl
turned (x ∷ xs) acc more = turned xs (x ∷ acc) more

abbrev part : (m count : ℕ) (receives on : Bool) → List ℕ → ℕ → List ℕ → Code FirmStep → Procedure
part m count receives on widths result calls body =
    record { method = m; params = count; receives = receives; on_objects = on; widths = widths; result = result; calls = calls; body = body }

-- a procedure is what its parts are
pub made : (p : Tables) (n : Numbers) (x : Plan) (m : ℕ) (y : Method) (b : Body) (count : ℕ) (receives on : Bool) (widths : List ℕ) (result : ℕ)
    (calls : List ℕ) (body : Code FirmStep) → count ≡ length y.params → receives ≡ holds (slice_get x.receives m) → on ≡ is_class y.owner
    → widths ≡ map width_of (y.params ++ b.others) → result ≡ width_of y.result → calls ≡ row_in (slice_get x.edges m)
    → body ≡ replaced (moved p n x) (without_pairs b.code)
    → part m count receives on widths result calls body ≡ packed_here p n x m y b
made p n x m y b count receives on widths result calls body e1 e2 e7 e3 e4 e5 e6 =
    ap (λ z. part m z receives on widths result calls body) e1
    ∙ ap (λ z. part m (length y.params) z on widths result calls body) e2
    ∙ ap (λ z. part m (length y.params) (holds (slice_get x.receives m)) z widths result calls body) e7
    ∙ ap (λ z. here z result calls body) (e3 ∙ ap (map width_of) (sym (turned y.params [] b.others)))
    ∙ ap (λ z. here all z calls body) e4
    ∙ ap (λ z. here all (width_of y.result) z body) e5
    ∙ ap (λ z. here all (width_of y.result) (row_in (slice_get x.edges m)) z) e6
  where
    all : List ℕ
    all = map width_of (onto (onto y.params []) b.others)

    here : List ℕ → ℕ → List ℕ → Code FirmStep → Procedure
    here widths result calls body = part m (length y.params) (holds (slice_get x.receives m)) (is_class y.owner) widths result calls body

module _ (p : Tables) (n : Numbers) (x : Plan) where
  without_bodies : (m : ℕ) (ys : List Method) → packed_methods p n x m ys [] ≡ []
  without_bodies m [] = refl
  without_bodies m (y ∷ ys) = refl

  -- the procedures from a place on begin with that of the method there
  from_there : (i m : ℕ) (ys : List Method) (bs : List Body) (y : Method) → i < length ys → y ≡ get_or ys i y
      → packed_methods p n x m (drop i ys) (drop i bs)
      ≡ packed_at p n x m y (slice_get bs i) ++ packed_methods p n x (suc m) (drop (suc i) ys) (drop (suc i) bs)
  from_there i m [] bs y lt is = absurd (omega (arith, lt))
  from_there zero m (z ∷ ys) [] y lt is = sym (without_bodies (suc m) ys)
  from_there zero m (z ∷ ys) (c ∷ bs) y lt is = ap (λ w. packed_if p n x m w c ++ packed_methods p n x (suc m) ys bs) (sym is)
  from_there (suc i) m (z ∷ ys) [] y lt is =
      without_bodies m (drop i ys) ∙ sym (without_bodies (suc m) (drop (suc i) ys))
  from_there (suc i) m (z ∷ ys) (c ∷ bs) y lt is = from_there i m ys bs y (omega (arith, lt)) is

  one : (i : ℕ) → suc i ≡ i + 1
  one i = omega arith

  -- so far and the rest, with the procedure of one more method
  pub more_methods : (ys : List Method) (bs : List Body) (i : ℕ) (y : Method) (rows new whole : List Procedure) → i < length ys → y ≡ get_or ys i y
      → rows ++ packed_methods p n x i (drop i ys) (drop i bs) ≡ whole → new ≡ rows ++ packed_at p n x i y (slice_get bs i)
      → new ++ packed_methods p n x (i + 1) (drop (i + 1) ys) (drop (i + 1) bs) ≡ whole
  more_methods ys bs i y rows new whole lt is h e =
      subst (λ z. new ++ packed_methods p n x z (drop z ys) (drop z bs) ≡ whole) (one i)
      (ap (λ z. z ++ packed_methods p n x (suc i) (drop (suc i) ys) (drop (suc i) bs)) e
      ∙ (append_assoc rows (packed_at p n x i y (slice_get bs i)) (packed_methods p n x (suc i) (drop (suc i) ys) (drop (suc i) bs))
      ∙ (ap (λ z. rows ++ z) (sym (from_there i i ys bs y lt is)) ∙ h)))
