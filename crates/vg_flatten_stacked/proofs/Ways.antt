-- Why a choice is refused by a value that was popped: because one of its ways is, or because it is too long.
use Rattle.std.specs.Prelude.{ℕ, ◌+◌, ◌<◌, length, Option, Some, Result}
use Rattle.std.proofs.Common.{◌≡◌, sym, ap, ◌∙◌, subst, arith}
use Rattle.vg_base.specs.declared.refusal.Refusal.{Refusal}
use Rattle.vg_base.specs.declared.refusal.Refusal.TheVariants.{Fault as Faulty}
use Rattle.vg_flatten_shapes.specs.declared.fault.Fault.{Fault}
use Rattle.vg_flatten_shapes.specs.declared.fault.Fault.TheVariants.{TooLong}
use Rattle.vg_flatten_shapes.specs.declared.open.Truth.{Truth}
use Rattle.vg_flatten_shapes.specs.declared.piece.Piece.{Piece}
use Rattle.vg_flatten_shapes.specs.Shapes.{Shape}
use Rattle.vg_flatten_shapes.specs.Made.{Made, after, Tested, tested}
use Rattle.vg_firm.specs.declared.step.Step.{Step}
use Rattle.vg_meaning.specs.Code.{Code}
use Rattle.vg_flatten_shapes.specs.declared.layout.Layout.{Layout}
use Rattle.vg_flatten_shapes.specs.declared.room.Room.{Room}
use Rattle.vg_flatten_pushed.specs.Pushed.{level, raised}
use Rattle.vg_flatten_shapes.specs.Laying.{IsPiece, Fails, Lays}
use Rattle.vg_flatten_control.specs.Flat.{joined}
use Rattle.vg_flatten_control.specs.Joining.{Tests, Joins}
use Rattle.vg_flatten_control.proofs.Failing.{long_both, first_of, place_of', rest_of, joined_laid, only_is}
use Rattle.vg_flatten_pushed.specs.Stacked.{ways, stacked}

-- one of two codes, by the newest value of a shape, which was popped
abbrev pub either_way : Layout → Room → (most : ℕ) → (first rest : Code Step) → Shape → Made
either_way lay r most a b s = ways r most (tested s) (stacked lay r most a) (stacked lay r most b)

-- and where its own value is put back above so many values
abbrev pub raised_to : Layout → Room → (most : ℕ) → (first rest : Code Step) → Shape → (below : ℕ) → Made
raised_to lay r most a b s n = after (either_way lay r most a b s) (raised n)

abbrev pub choice : Layout → Room → (most : ℕ) → (first rest : Code Step) → Shape → Made
choice lay r most a b s = raised_to lay r most a b s (length s.homes)

module _ (at : ℕ) (r : Room) (most : ℕ) (found : Option Tested) (t : Truth) (left : Shape) (below : ℕ) (same : below ≡ length left.homes) (f g : Shape → Made)
    (taken : Tests (Some t) found left) where
  abbrev pub m1 : Made
  m1 = after (f left) (level r most below)

  abbrev pub m2 : Made
  m2 = after (g left) (level r most below)

  is : ways r most found f g ≡ joined t m1 m2
  is =
      ap (λ z. ways r most z f g) taken.0
      ∙ ap (λ z. joined t (after (f z) (level r most (length left.homes))) (after (g z) (level r most (length left.homes)))) (only_is left taken.1)
      ∙ ap (λ n. joined t (after (f left) (level r most n)) (after (g left) (level r most n))) (sym same)

  pub early_choice : (e : Refusal Fault) → (e ≡ Faulty TooLong) × (65535 < at + 1) → Fails e at (ways r most found f g)
  early_choice e h =
      subst (Fails e at) (sym is) (subst (λ z. Fails z at (joined t m1 m2)) (sym h.0)
      (long_both at t m1 m2 (λ a b s s1 ea eb. let far = h.1 in omega (arith, far))))

  pub first_way : (first_at : ℕ) (e : Refusal Fault) → first_at ≡ at + 1 → Fails e first_at m1 → Fails e at (ways r most found f g)
  first_way first_at e ep h = subst (Fails e at) (sym is) (first_of at t m1 m2 first_at e ep h)

  pub place_way : (first_at : ℕ) (p : Piece) (e : Refusal Fault) (n : ℕ) → first_at ≡ at + 1 → IsPiece p first_at m1 → n ≡ length p.code
      → (e ≡ Faulty TooLong) × (65535 < at + 1 + n + 1) → Fails e at (ways r most found f g)
  place_way first_at p e n ep h en far =
      subst (Fails e at) (sym is)
      (place_of' at t m1 m2 first_at p e ep h (subst (λ z. (e ≡ Faulty TooLong) × (65535 < at + 1 + z + 1)) en far))

  pub rest_way : (first_at rest_at : ℕ) (p : Piece) (e : Refusal Fault) → IsPiece p first_at m1 → rest_at ≡ at + 1 + length p.code + 1 → Fails e rest_at m2
      → Fails e at (ways r most found f g)
  rest_way first_at rest_at p e h ep far = subst (Fails e at) (sym is) (rest_of at t m1 m2 first_at rest_at p e h ep far)

  pub joined_ways : (first_at rest_at : ℕ) (p q : Piece) (res : Result Piece (Refusal Fault)) → first_at ≡ at + 1 → rest_at ≡ at + 1 + length p.code + 1
      → IsPiece p first_at m1 → IsPiece q rest_at m2 → Joins res t at p q → Lays res at (ways r most found f g)
  joined_ways first_at rest_at p q res e1 e2 h k j = subst (Lays res at) (sym is) (joined_laid at first_at rest_at t m1 m2 p q res e1 e2 h k j)
