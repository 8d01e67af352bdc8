-- Past nodes that say nothing here.
use Rattle.std.proofs.Common.{◌≡◌, ℕ, false, List, Result, Ok, Err, OnOk, refl}
use Rattle.vg_tree.specs.declared.node.Node as held
use Rattle.vg_tree.specs.Held.{node_at, nodes_at, arms_at}
use Rattle.vg_source.specs.Names.{Name}
use Rattle.vg_types_heads.specs.Heads.{HeadsView, with_register, with_head, is_register, is_headed}

pub on_ok : {A E P : Type 0} (r : Result A E) → P → OnOk r P
on_ok (Ok a) p = p
on_ok (Err e) p = tt

-- ---- registers

row_of_none : (texts : List (List ℕ)) (v : List (Name × ℕ)) {m : _} (k : held.Row_of-Node m) → v ≡ with_register (nodes_at texts k) v
row_of_none texts v held.end_of-Node = refl
row_of_none texts v (held.more_of-Node n rest) = refl

arms_of_none : (texts : List (List ℕ)) (v : List (Name × ℕ)) {m : _} (k : held.Row_of-Node m) → v ≡ with_register (arms_at texts k) v
arms_of_none texts v held.end_of-Node = refl
arms_of_none texts v (held.more_of-Node (held.Pair' p c q b) rest) = refl
arms_of_none texts v (held.more_of-Node _ rest) = arms_of_none texts v rest

pub no_register : (texts : List (List ℕ)) (n : held.Node) (v : List (Name × ℕ)) → is_register n ≡ false → v ≡ with_register (node_at texts n) v
no_register texts (held.RegisterDecl place name number) v f = cc
no_register texts (held.Row' shape all) v f = row_of_none texts v all
no_register texts (held.Arms' shape all) v f = arms_of_none texts v all
no_register texts _ v f = refl

-- ---- declarations

row_other : (texts : List (List ℕ)) (v : HeadsView) {m : _} (k : held.Row_of-Node m) → v ≡ with_head (nodes_at texts k) v
row_other texts v held.end_of-Node = refl
row_other texts v (held.more_of-Node n rest) = refl

arms_other : (texts : List (List ℕ)) (v : HeadsView) {m : _} (k : held.Row_of-Node m) → v ≡ with_head (arms_at texts k) v
arms_other texts v held.end_of-Node = refl
arms_other texts v (held.more_of-Node (held.Pair' p c q b) rest) = refl
arms_other texts v (held.more_of-Node _ rest) = arms_other texts v rest

pub with_other : (texts : List (List ℕ)) (n : held.Node) (v : HeadsView) → is_headed n ≡ false → v ≡ with_head (node_at texts n) v
with_other texts (held.ClassDecl' place name above p ms) v f = cc
with_other texts (held.ComponentDecl' place name p ms) v f = cc
with_other texts (held.DeviceDecl' place name p rs) v f = cc
with_other texts (held.Row' shape all) v f = row_other texts v all
with_other texts (held.Arms' shape all) v f = arms_other texts v all
with_other texts _ v f = refl
