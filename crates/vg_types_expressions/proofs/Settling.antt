-- What a node leaves where no suffix follows.
use Rattle.std.proofs.Common.{◌≡◌, refl}
use Rattle.vg_source.specs.Resolved.{Head, NoHead, IsValue, IsComponent, IsDevice, OwnMethod, ItsMethod, Resolved, settled_as}
use Rattle.vg_types_calls.specs.Settled.{settled_head, settled_code}

pub as_head : (m : Resolved) (h : Head) → m.head ≡ h → (settled_as m h).head ≡ settled_head h
as_head m (OwnMethod at c x ps r) e = refl
as_head m (ItsMethod c x ps r) e = refl
as_head m NoHead e = e
as_head m (IsValue t) e = e
as_head m (IsComponent c) e = e
as_head m (IsDevice d) e = e

pub as_does : (m : Resolved) (h : Head) → (settled_as m h).does ≡ settled_code m.does h
as_does m (OwnMethod at c x ps r) = refl
as_does m (ItsMethod c x ps r) = refl
as_does m NoHead = refl
as_does m (IsValue t) = refl
as_does m (IsComponent c) = refl
as_does m (IsDevice d) = refl

pub as_scope : (m : Resolved) (h : Head) → (settled_as m h).scope ≡ m.scope
as_scope m (OwnMethod at c x ps r) = refl
as_scope m (ItsMethod c x ps r) = refl
as_scope m NoHead = refl
as_scope m (IsValue t) = refl
as_scope m (IsComponent c) = refl
as_scope m (IsDevice d) = refl
