-- What whole procedures become.
use Rattle.std.specs.Prelude.{ℕ, zero, suc, ◌+◌, ◌-◌, ◌≤◌, length}
use Rattle.std.proofs.Common.{◌≡◌, ◌⊎◌, inl, inr, ap, ◌∙◌, subst, arith}
use Rattle.std.proofs.lemmas.List.{length-map}
use Rattle.vg_meaning.specs.Code.{Code}
use Rattle.vg_firm.specs.declared.step.Step.{Step}
use Rattle.vg_firm.specs.Program.{Procedure as FirmProcedure}
use Rattle.vg_lin.specs.Program.{Procedure}
use Rattle.vg_flatten_shapes.specs.declared.layout.Layout.{Layout}
use Rattle.vg_flatten_shapes.specs.declared.room.Room.{Room}
use Rattle.vg_flatten_shapes.specs.Shapes.{Shape, empty}
use Rattle.vg_flatten_shapes.specs.Blocks.{Block, open_code, block_size, set_in}
use Rattle.vg_flatten_shapes.specs.Made.{Gives}
use Rattle.vg_flatten_shapes.proofs.Sizes.{block_long}
use Rattle.vg_flatten_control.specs.Flat.{flat}
use Rattle.vg_flatten_pushed.specs.Stacked.{stacked}
use Rattle.vg_flatten.specs.Flattened.{IsPushed, IsFlat, zeroes, own_params, whole}
use Rattle.vg_flatten.proofs.Sizes.{Small}
use Rattle.vg_flat_sizes.specs.Weights.{flat_weight}
use Rattle.vg_flat_weights.proofs.Ways.{small_flat, small_stacked}

pub code_short : (lay : Layout) (r : Room) (most : ℕ) (c : Code Step) (s t : Shape) (b : Block)
    → (flat lay r c s ≡ Gives b t) ⊎ (stacked lay r most c s ≡ Gives b t) → block_size b ≤ flat_weight c
code_short lay r most c s t b (inl e) = subst (Small (flat_weight c)) e (small_flat lay r c s)
code_short lay r most c s t b (inr e) = subst (Small (flat_weight c)) e (small_stacked lay r most c s)

zeroes_size : (c i : ℕ) → block_size (zeroes c i) ≤ c
zeroes_size zero i = omega arith
zeroes_size (suc c) i = let h = zeroes_size c (suc i) in omega (arith, h)

pub whole_short : (m : FirmProcedure) (b : Block) → block_size b ≤ flat_weight m.body
    → block_size (whole m b) ≤ length m.widths - m.params + flat_weight m.body + 1
whole_short m b h = let z = zeroes_size (length m.widths - m.params) (own_params m) in omega (arith, h, z)

pub procedure_short : (lay : Layout) (m : FirmProcedure) (p : Procedure) → IsFlat lay m p
    → length p.code ≤ length m.widths - m.params + flat_weight m.body + 1
procedure_short lay m p f =
    let l : length p.code ≡ length (open_code (whole m f.block) 0) = ap length f.code ∙ length-map (open_code (whole m f.block) 0) (set_in 0 0) in
    let h = block_long (whole m f.block) 0 in
    let w = whole_short m f.block (by_way f.made) in
    omega (arith, l, h, w)
  where
    by_way : (flat lay f.room m.body empty ≡ Gives f.block f.shape) ⊎ IsPushed lay m f.room f.block f.shape → block_size f.block ≤ flat_weight m.body
    by_way (inl e) = code_short lay f.room 0 m.body empty f.shape f.block (inl e)
    by_way (inr x) = code_short lay f.room x.pushes m.body empty f.shape f.block (inr x.made)
