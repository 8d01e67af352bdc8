-- The procedures of the methods of components.
use Rattle.std.specs.Prelude.{ℕ, false, []}
use Rattle.std.proofs.Common.{◌≡◌, subst}
use Rattle.vg_meaning.specs.Shapes.{Fits}
use Rattle.vg_codes.specs.Codes.{Codes}
use Rattle.vg_core.specs.declared.program.Owner.TheVariants.{InComponent}
use Rattle.vg_core.specs.declared.program.Tables.{Tables}
use Rattle.vg_core.specs.Program.{Body, Signature}
use Rattle.vg_core.specs.Typing.{TypedBody, known, locals_of}
use Rattle.vg_packing.specs.Layout.{Layout}
use Rattle.vg_packing.specs.Pass.{packed}
use Rattle.vg_flat_each.specs.Each.{EachStep}
use Rattle.vg_flat_names.specs.Names.{NoReceiver}
use Rattle.vg_packed_entries.proofs.Typed.{each_typed}
use Rattle.vg_packed_entries.proofs.Moved.{each_unpaired, spares_replaced}

pub component_spares : (p : Tables) (l : Layout) (k : Codes) (m j : ℕ) (g : Signature) (b : Body) → g.owner ≡ InComponent j → TypedBody p g b
    → EachStep NoReceiver (packed p l k m g b).body
component_spares p l k m j g b owner typed =
    spares_replaced p l k _ (each_unpaired _ b.code (each_typed p (locals_of g b) j g.result false b.code [] []
    (subst (λ o. Fits (known p (locals_of g b) o g.result) false b.code [] []) owner typed)))
