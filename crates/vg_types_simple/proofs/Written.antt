-- Values that are written, and values that are not.
use Rattle.std.proofs.Common.{◌≡◌, ℕ, true, false, refl}
use Rattle.vg_syntax.specs.Tree.{Node, Nothing}
use Rattle.vg_syntax.specs.Numbering.{numbered}
use Rattle.vg_tree.specs.Nothing.{is_nothing}
use Rattle.vg_source.specs.Types.{StaticType, NoType}
use Rattle.vg_source.specs.Resolved.{Scope, Resolved, or_default}
use Rattle.vg_rules.specs.Bodies.{Body, head, head_fits, initialiser_keeps, return_keeps}
use Rattle.vg_rules.specs.Inherited.{has_no_type}

pub written_numbered : (i : ℕ) (n : Node) → is_nothing (numbered i n) ≡ is_nothing n
written_numbered i Nothing = refl
written_numbered i _ = refl

pub nothing_is : (n : Node) → is_nothing n ≡ true → n ≡ Nothing
nothing_is Nothing h = refl
nothing_is _ h = cc

pub default_written : (t : StaticType) (e : Node) (m : Resolved) → is_nothing e ≡ false → or_default t e m ≡ m
default_written t Nothing m h = cc
default_written t _ m h = refl

pub initialiser_written : (ds : Node) (k : Body) (t : StaticType) (e : Node) (ls : Scope) → is_nothing e ≡ false
    → initialiser_keeps ds k t e ls ≡ head_fits ds (head ds k e ls) t
initialiser_written ds k t Nothing ls h = cc
initialiser_written ds k t _ ls h = refl

pub return_unwritten : (ds : Node) (k : Body) (r : StaticType) (ls : Scope) → return_keeps ds k r Nothing ls ≡ has_no_type r
return_unwritten ds k NoType ls = refl
return_unwritten ds k _ ls = refl

pub return_of_none : (ds : Node) (k : Body) (r : StaticType) (e : Node) (ls : Scope) → is_nothing e ≡ false → has_no_type r ≡ true
    → return_keeps ds k r e ls ≡ false
return_of_none ds k NoType Nothing ls h g = cc
return_of_none ds k NoType _ ls h g = refl
return_of_none ds k _ e ls h g = cc

pub return_written : (ds : Node) (k : Body) (r : StaticType) (e : Node) (ls : Scope) → is_nothing e ≡ false → has_no_type r ≡ false
    → return_keeps ds k r e ls ≡ head_fits ds (head ds k e ls) r
return_written ds k NoType e ls h g = cc
return_written ds k r Nothing ls h g = cc
return_written ds k _ _ ls h g = refl
