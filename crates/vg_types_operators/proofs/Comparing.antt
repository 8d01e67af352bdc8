-- Types of which values are not compared.
use Rattle.std.proofs.Common.{◌≡◌, ◌&&◌, ◌||◌, Bool, true, false, ap, ◌∙◌, sym}
use Rattle.vg_syntax.specs.Tree.{Node}
use Rattle.vg_source.specs.Types.{StaticType}
use Rattle.vg_rules.specs.Fits.{fits}
use Rattle.vg_rules.specs.Operands.{is_compared, comparable}

pub not_left : (ds : Node) (t u : StaticType) (l : Bool) → l ≡ false → l ≡ is_compared t → false ≡ comparable ds t u
not_left ds t u l e h = ap (λ z. z && is_compared u && (fits ds t u || fits ds u t)) (sym e ∙ h)

pub not_right : (ds : Node) (t u : StaticType) (l r : Bool) → l ≡ true → r ≡ false → l ≡ is_compared t → r ≡ is_compared u → false ≡ comparable ds t u
not_right ds t u l r el er hl hr =
    ap (λ z. true && z && (fits ds t u || fits ds u t)) (sym er ∙ hr) ∙ ap (λ z. z && is_compared u && (fits ds t u || fits ds u t)) (sym el ∙ hl)
