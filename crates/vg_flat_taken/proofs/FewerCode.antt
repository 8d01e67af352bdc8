-- That with fewer temporaries code becomes the same, or finds too few of them.
use Rattle.std.specs.Prelude.{ℕ, ◌≤◌, List, [], ◌∷◌, Option, Some, None}
use Rattle.std.proofs.Common.{inl, inr, refl, ap, subst}
use Rattle.vg_meaning.specs.Code.{Code, Nothing, Then, Do, If, Loop, Break, Continue, Return}
use Rattle.vg_firm.specs.declared.step.Step.{Step}
use Rattle.vg_lin.specs.declared.instr.Operand.{Operand}
use Rattle.vg_flatten_shapes.specs.declared.fault.Fault.TheVariants.{NotTaken}
use Rattle.vg_flatten_shapes.specs.declared.open.Truth.{Truth}
use Rattle.vg_flatten_shapes.specs.declared.layout.Layout.{Layout}
use Rattle.vg_flatten_shapes.specs.declared.room.Room.{Room}
use Rattle.vg_flatten_shapes.specs.Shapes.{Shape, only, empty, is_empty}
use Rattle.vg_flatten_shapes.specs.Blocks.{Block}
use Rattle.vg_flatten_shapes.specs.Made.{Made, Gives, Refused, behind, after, settled, settled_as, Tested, tested}
use Rattle.vg_flatten_control.specs.Flat.{landed_as, landed, joined, chosen, where_empty, given_back, flat}
use Rattle.vg_flatten_control.specs.Flat.{repeated_next, repeated_body, repeated_test, repeated}
use Rattle.vg_flat_taken.proofs.Fewer.{Near, near_if, with_temps, near_temp, near_step}

near_behind : (a : Block) (x y : Made) → Near x y → Near (behind a x) (behind a y)
near_behind a x y (inl e) = inl (ap (behind a) e)
near_behind a x y (inr e) = inr (ap (behind a) e)

near_after : (x y : Made) (f g : Shape → Made) → Near x y → ((s : Shape) → Near (f s) (g s)) → Near (after x f) (after y g)
near_after x y f g (inr e) h = inr (ap (λ z. after z f) e)
near_after x y f g (inl e) h = subst (λ z. Near (after x f) (after z g)) e (same x)
  where
    same : (m : Made) → Near (after m f) (after m g)
    same (Gives a s) = near_behind a (f s) (g s) (h s)
    same (Refused why) = inl refl

near_joined : (t : Truth) (x y u v : Made) → Near x y → Near u v → Near (joined t x u) (joined t y v)
near_joined t x y u v (inr e) k = inr (ap (λ z. joined t z u) e)
near_joined t x y u v (inl e) k = subst (λ z. Near (joined t x u) (joined t z v)) e (same x k)
  where
    same : (m : Made) → Near u v → Near (joined t m u) (joined t m v)
    same (Refused why) k1 = inl refl
    same (Gives a s) (inl e1) = inl (ap (joined t (Gives a s)) e1)
    same (Gives a s) (inr e1) = inr (ap (joined t (Gives a s)) e1)

near_where : (s : Shape) (x y : Made) → Near x y → Near (where_empty s x) (where_empty s y)
near_where s x y h = near_if (is_empty s) x (Refused NotTaken) y (Refused NotTaken) h (inl refl)

-- ---- loops

near_next : (p : Block) (t : Truth) (b : Block) (x y : Made) → Near x y → Near (repeated_next p t b x) (repeated_next p t b y)
near_next p t b x y (inl e) = inl (ap (repeated_next p t b) e)
near_next p t b x y (inr e) = inr (ap (repeated_next p t b) e)

near_body : (p : Block) (t : Truth) (x y u v : Made) → Near x y → Near u v → Near (repeated_body p t x u) (repeated_body p t y v)
near_body p t x y u v (inr e) k = inr (ap (λ z. repeated_body p t z u) e)
near_body p t x y u v (inl e) k = subst (λ z. Near (repeated_body p t x u) (repeated_body p t z v)) e (same x)
  where
    same : (m : Made) → Near (repeated_body p t m u) (repeated_body p t m v)
    same (Gives b s) = near_where s (repeated_next p t b u) (repeated_next p t b v) (near_next p t b u v k)
    same (Refused why) = inl refl

near_test : (p : Block) (o : Option Tested) (x y u v : Made) → Near x y → Near u v → Near (repeated_test p o x u) (repeated_test p o y v)
near_test p (Some t) x y u v h k =
    near_where (only t.homes) (repeated_body p t.truth x u) (repeated_body p t.truth y v) (near_body p t.truth x y u v h k)
near_test p None x y u v h k = inl refl

near_repeated : (w z x y u v : Made) → Near w z → Near x y → Near u v → Near (repeated w x u) (repeated z y v)
near_repeated w z x y u v (inr e) h k = inr (ap (λ q. repeated q x u) e)
near_repeated w z x y u v (inl e) h k = subst (λ q. Near (repeated w x u) (repeated q y v)) e (same w)
  where
    same : (m : Made) → Near (repeated m x u) (repeated m y v)
    same (Gives p s) = near_test p (tested s) x y u v h k
    same (Refused why) = inl refl

-- ---- code

module _ (lay : Layout) (r : Room) (many : ℕ) (more : r.temps ≤ many) where
  near_settled : (s : Shape) → Near (settled r s) (settled (with_temps r many) s)
  near_settled s = by_truth s.truth
    where
      by_truth : (o : Option Truth) → Near (settled_as r o s.homes) (settled_as (with_temps r many) o s.homes)
      by_truth None = inl refl
      by_truth (Some t) = near_temp lay r many more s.homes _ _ (λ to. inl refl)

  near_landed_as : (hs : List Operand) → Near (landed_as r hs) (landed_as (with_temps r many) hs)
  near_landed_as [] = inl refl
  near_landed_as (h ∷ hs) = near_temp lay r many more hs _ _ (λ to. inl refl)

  near_landed : (x y : Made) → Near x y → Near (landed r x) (landed (with_temps r many) y)
  near_landed x y h =
      near_after x y _ _ h (λ s. near_after (settled r s) (settled (with_temps r many) s) _ _ (near_settled s) (λ s1. near_landed_as s1.homes))

  near_chosen : (o : Option Tested) (f g u v : Shape → Made) → ((s : Shape) → Near (f s) (u s)) → ((s : Shape) → Near (g s) (v s))
      → Near (chosen r o f g) (chosen (with_temps r many) o u v)
  near_chosen None f g u v h k = inl refl
  near_chosen (Some t) f g u v h k =
      near_joined t.truth _ _ _ _ (near_landed (f (only t.homes)) (u (only t.homes)) (h (only t.homes)))
      (near_landed (g (only t.homes)) (v (only t.homes)) (k (only t.homes)))

  near_given : (hs : List Operand) → Near (given_back r hs) (given_back (with_temps r many) hs)
  near_given [] = inl refl
  near_given (h ∷ []) = inl refl
  near_given (h ∷ i ∷ hs) = inl refl

  pub near_flat : (c : Code Step) (s : Shape) → Near (flat lay r c s) (flat lay (with_temps r many) c s)
  near_flat Nothing s = inl refl
  near_flat (Then a b) s = near_after (flat lay r a s) (flat lay (with_temps r many) a s) _ _ (near_flat a s) (near_flat b)
  near_flat (Do p) s =
      near_after (settled r s) (settled (with_temps r many) s) _ _ (near_settled s) (λ s1. near_step lay r many more p s1.homes)
  near_flat (If a b) s = near_chosen (tested s) (flat lay r a) (flat lay r b) _ _ (near_flat a) (near_flat b)
  near_flat (Loop c body next) s =
      near_where s (repeated (flat lay r c empty) (flat lay r body empty) (flat lay r next empty)) _
      (near_repeated (flat lay r c empty) _ (flat lay r body empty) _ (flat lay r next empty) _
      (near_flat c empty) (near_flat body empty) (near_flat next empty))
  near_flat Break s = inl refl
  near_flat Continue s = inl refl
  near_flat Return s =
      near_after (settled r s) (settled (with_temps r many) s) _ _ (near_settled s) (λ s1. near_given s1.homes)
