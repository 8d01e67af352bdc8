-- What parts of declarations make of kids that have none of the shapes that they look for.
use Rattle.std.proofs.Common.{◌≡◌, ℕ, List, refl}
use Rattle.vg_base.specs.declared.place.Place.{Place}
use Rattle.vg_syntax.specs.declared.kind.Kind.{Kind}
use Rattle.vg_syntax.specs.declared.kind.Kind.TheVariants as kind
use Rattle.vg_syntax.specs.Tree.{Node, ProgramDecl, ConstructorDecl}
use Rattle.vg_syntax.specs.Made.{Made, node_in, row_in, params_in, is_row}
use Rattle.vg_syntax.specs.Reads.{spot, declared, field_or_constructor}

pub not_declared : (k : Kind) (place : Place) (name : List ℕ) (body : Node) → (k ≡ kind.Component → ⊥) → (k ≡ kind.Device → ⊥)
    → declared k place name body ≡ ProgramDecl (spot place) name body
not_declared kind.Component place name body p q = absurd (p refl)
not_declared kind.Device place name body p q = absurd (q refl)
not_declared _ place name body p q = refl

pub not_field : (k : Kind) (place : Place) (b c d : Made) → (k ≡ kind.Field → ⊥)
    → field_or_constructor k place b c d ≡ ConstructorDecl (spot place) (params_in b) (is_row c) (row_in c) (node_in d)
not_field kind.Field place b c d p = absurd (p refl)
not_field _ place b c d p = refl
