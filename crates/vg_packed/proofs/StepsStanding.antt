-- Where the procedure of a live method stands.
use Rattle.std.proofs.Common.{◌≡◌, refl, sym, ap, subst, ◌∙◌, arith, ℕ, zero, suc, ◌+◌, List, [], ◌∷◌, ◌++◌, Option, Some, None, slice_get}
use Rattle.vg_codes.specs.Codes.{Codes}
use Rattle.vg_core.specs.declared.program.Method.{Method}
use Rattle.vg_core.specs.declared.program.Tables.{Tables}
use Rattle.vg_core.specs.declared.program.Target.TheVariants.{Run}
use Rattle.vg_core.specs.declared.step.Step.{Step}
use Rattle.vg_core.specs.Heap.{Kind}
use Rattle.vg_core.specs.Program.{Body, Program, Signature, signature_of, method_signature}
use Rattle.vg_firm.specs.Program.{Procedure}
use Rattle.vg_live.specs.declared.live_set.Reason.{Reason}
use Rattle.vg_live.specs.Sets.{flat}
use Rattle.vg_live.specs.Uses.{steps_of, steps_in}
use Rattle.vg_number.specs.declared.numbers.Numbers.{Numbers}
use Rattle.vg_packing.specs.Pass.{move, packed}
use Rattle.vg_packed.specs.Plain.{IsPlain}
use Rattle.vg_pack_code.specs.declared.plan.Plan.{Plan}
use Rattle.vg_pack_code.specs.Plans.{layout_by, moved}
use Rattle.vg_pack_bodies.specs.Procedures.{packed_here, packed_methods, signature, unless_none}
use Rattle.vg_pack_calls.specs.Procedures.{procedures_from}
use Rattle.vg_packed.specs.Few.{HaveFewArguments}
use Rattle.vg_packed.proofs.Moves.{same_move, same_unpaired}

some_same : {A : Type 0} (a b : A) → Some a ≡ Some b → a ≡ b
some_same a b e = grind (arith, e)

none_some : {A : Type 0} {B : Type 0} (a : A) → None ≡ Some a → B
none_some a e = absurd (grind (arith, e))

module _ (p : Tables) (n : Numbers) (x : Plan) where
  -- the procedures of the plan are those of live methods, from a method on
  abbrev Aligned : (m q : ℕ) → List (Option Reason) → Type 0
  Aligned m q live = (i : ℕ) → flat (slice_get x.procedures (i + m)) ≡ flat (slice_get (procedures_from q live) i)

  at_first : (m q : ℕ) (live : List (Option Reason)) → Aligned m q live
      → flat (slice_get x.procedures m) ≡ flat (slice_get (procedures_from q live) 0)
  at_first m q live a = ap (λ z. flat (slice_get x.procedures z)) (omega arith) ∙ a 0

  -- where the procedure q of a method stands behind the first one
  record Stands (first q m : ℕ) (rows : List Procedure) (y : Method) (b : Body) : Type 0 where
    behind : ℕ
    is : q ≡ behind + first
    there : slice_get rows behind ≡ Some (packed_here p n x m y b)

  one_more : (first q m : ℕ) (r : Procedure) (rows : List Procedure) (y : Method) (b : Body) → Stands (suc first) q m rows y b → Stands first q m (r ∷ rows) y b
  one_more first q m r rows y b s = record { behind = suc s.behind; is = s.is ∙ omega arith; there = s.there }

  moved_on : (m q : ℕ) (o : Option Reason) (live : List (Option Reason)) (r : Option ℕ) (next : ℕ)
      → ((i : ℕ) → flat (slice_get x.procedures (i + m)) ≡ flat (slice_get (r ∷ procedures_from next live) i)) → Aligned (suc m) next live
  moved_on m q o live r next a i = ap (λ z. flat (slice_get x.procedures z)) (omega arith) ∙ a (suc i)

  standing : (m first : ℕ) (live : List (Option Reason)) (ys : List Method) (bs : List Body) → Aligned m first live → (i q : ℕ) (y : Method) (b : Body)
      → slice_get ys i ≡ Some y → slice_get bs i ≡ Some b → flat (slice_get (procedures_from first live) i) ≡ Some q
      → Stands first q (i + m) (packed_methods p n x m ys bs) y b
  standing m first live [] bs a i q y b ey eb eq = none_some y ey
  standing m first live (z ∷ ys) [] a i q y b ey eb eq = none_some b eb
  standing m first [] (z ∷ ys) (c ∷ bs) a i q y b ey eb eq = none_some q eq
  standing m first (Some r ∷ live) (z ∷ ys) (c ∷ bs) a zero q y b ey eb eq =
      record {
        behind = 0;
        is = sym (some_same first q eq) ∙ omega arith;
        there =
            ap (λ o. slice_get (unless_none o (packed_here p n x m z c) ++ packed_methods p n x (suc m) ys bs) 0) (at_first m first (Some r ∷ live) a)
            ∙ ap (λ w. Some (packed_here p n x m w c)) (some_same z y ey) ∙ ap (λ w. Some (packed_here p n x m y w)) (some_same c b eb) ∙ ap (λ w. Some (packed_here p n x w y b)) (omega arith);
      }
  standing m first (Some r ∷ live) (z ∷ ys) (c ∷ bs) a (suc i) q y b ey eb eq =
      subst (λ rows. Stands first q (suc i + m) rows y b)
      (sym (ap (λ o. unless_none o (packed_here p n x m z c) ++ packed_methods p n x (suc m) ys bs) (at_first m first (Some r ∷ live) a)))
      (one_more first q (suc i + m) (packed_here p n x m z c) (packed_methods p n x (suc m) ys bs) y b
      (subst (λ w. Stands (suc first) q w (packed_methods p n x (suc m) ys bs) y b) (omega arith)
      (standing (suc m) (suc first) live ys bs (moved_on m first (Some r) live (Some first) (suc first) a) i q y b ey eb eq)))
  standing m first (None ∷ live) (z ∷ ys) (c ∷ bs) a zero q y b ey eb eq = none_some q eq
  standing m first (None ∷ live) (z ∷ ys) (c ∷ bs) a (suc i) q y b ey eb eq =
      subst (λ rows. Stands first q (suc i + m) rows y b)
      (sym (ap (λ o. unless_none o (packed_here p n x m z c) ++ packed_methods p n x (suc m) ys bs) (at_first m first (None ∷ live) a)))
      (subst (λ w. Stands first q w (packed_methods p n x (suc m) ys bs) y b) (omega arith)
      (standing (suc m) first live ys bs (moved_on m first None live None first a) i q y b ey eb eq))

-- what a live method becomes is what the pass makes of it
module _ (p : Program) (κ : List Kind) (n : Numbers) (x : Plan) (k : Codes) (plain : IsPlain p) (few : HaveFewArguments p) where
  same_packed : (m : ℕ) (y : Method) (b : Body) → slice_get p.methods m ≡ Some b
      → packed_here p.tables n x m y b ≡ packed p.tables (layout_by κ n x) k m (signature y) b
  same_packed m y b eb =
      ap (λ z. record (packed p.tables (layout_by κ n x) k m (signature y) b) { body = z })
      (sym (same_unpaired (move p.tables (layout_by κ n x) k) (moved p.tables n x) b.code None tt
      (λ i s e. same_move p.tables κ n x k s (plain.steps m i s (there i s e)) (few m i s (there i s e)))))
    where
      there : (i : ℕ) (s : Step) → slice_get (steps_in (Some b)) i ≡ Some s → slice_get (steps_of p m) i ≡ Some s
      there i s e = ap (λ o. slice_get (steps_in o) i) eb ∙ e

  pub all_packed : (live : List (Option Reason)) → x.procedures ≡ procedures_from 0 live → (m q : ℕ) (g : Signature) (b : Body)
      → flat (slice_get x.procedures m) ≡ Some q → signature_of p.tables (Run m) ≡ Some g → slice_get p.methods m ≡ Some b
      → slice_get (packed_methods p.tables n x 0 p.tables.methods p.methods) q ≡ Some (packed p.tables (layout_by κ n x) k m g b)
  all_packed live is m q g b eq eg eb = by (slice_get p.tables.methods m) refl
    where
      aligned : Aligned p.tables n x 0 0 live
      aligned i = ap (λ z. flat (slice_get x.procedures z)) (omega arith) ∙ ap (λ z. flat (slice_get z i)) is

      at : (y : Method) → slice_get p.tables.methods m ≡ Some y → Stands p.tables n x 0 q (m + 0) (packed_methods p.tables n x 0 p.tables.methods p.methods) y b
          → slice_get (packed_methods p.tables n x 0 p.tables.methods p.methods) q ≡ Some (packed p.tables (layout_by κ n x) k m (signature y) b)
      at y ey s =
          ap (slice_get (packed_methods p.tables n x 0 p.tables.methods p.methods)) (s.is ∙ omega arith) ∙ s.there
          ∙ ap (λ z. Some (packed_here p.tables n x z y b)) (omega arith) ∙ ap (λ z. Some z) (same_packed m y b eb)

      by : (o : Option Method) → slice_get p.tables.methods m ≡ o
          → slice_get (packed_methods p.tables n x 0 p.tables.methods p.methods) q ≡ Some (packed p.tables (layout_by κ n x) k m g b)
      by None e = none_some g (sym (ap method_signature e) ∙ eg)
      by (Some y) e =
          subst (λ z. slice_get (packed_methods p.tables n x 0 p.tables.methods p.methods) q ≡ Some (packed p.tables (layout_by κ n x) k m z b))
          (some_same (signature y) g (sym (ap method_signature e) ∙ eg))
          (at y e (standing p.tables n x 0 0 live p.tables.methods p.methods aligned m q y b e eb (sym (ap (λ z. flat (slice_get z m)) is) ∙ eq)))
