-- What parts of statements make of kids that have none of the shapes that they look for.
use Rattle.std.proofs.Common.{◌≡◌, refl}
use Rattle.vg_base.specs.declared.place.Place.{Place}
use Rattle.vg_syntax.specs.declared.kind.Kind.{Kind}
use Rattle.vg_syntax.specs.declared.kind.Kind.TheVariants as kind
use Rattle.vg_syntax.specs.Tree.{For, Local}
use Rattle.vg_syntax.specs.Made.{Made, node_in, param_in, first_in, condition_in, next_in}
use Rattle.vg_syntax.specs.Reads.{spot, statement_of_three, statement_of_four}

pub not_while : (k : Kind) (place : Place) (b c : Made) → (k ≡ kind.While → ⊥) → (k ≡ kind.Return → ⊥)
    → statement_of_three k place b c ≡ For (spot place) (first_in b) (condition_in b) (next_in b) (node_in c)
not_while kind.While place b c p q = absurd (p refl)
not_while kind.Return place b c p q = absurd (q refl)
not_while _ place b c p q = refl

pub not_if : (k : Kind) (place : Place) (b c d : Made) → (k ≡ kind.If → ⊥)
    → statement_of_four k place b c d ≡ Local (spot place) (param_in b).name (param_in b).type (node_in c)
not_if kind.If place b c d p = absurd (p refl)
not_if _ place b c d p = refl
