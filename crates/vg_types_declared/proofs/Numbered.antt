-- The numbers of nodes say nothing of names and members: no pass over declarations reads them, and they change no count of nodes.
use Rattle.std.proofs.Common.{◌≡◌, ℕ, ◌+◌, List, length, refl, sym, ap, ◌∙◌}
use Rattle.vg_syntax.specs.Tree.{Param, Node, Then, ClassDecl, ComponentDecl, DeviceDecl, RegisterDecl, FieldDecl, MethodDecl, ConstructorDecl}
use Rattle.vg_syntax.specs.Numbering.{count_nodes, numbered}
use Rattle.vg_syntax.proofs.Numbering.{count_numbered}
use Rattle.vg_source.specs.Names.{Name}
use Rattle.vg_source.specs.Declared.{written_type}
use Rattle.vg_source.specs.Program.{constructor_in}
use Rattle.vg_core.specs.declared.program.Owner.TheVariants.{InClass, InComponent}
use Rattle.vg_types_members.specs.declared.member.Home.{Home}
use Rattle.vg_types_members.specs.Members.{HomeView, with_method, with_member, with_members, written_params}
use Rattle.vg_types_heads.specs.Heads.{HeadsView, with_device, with_register, with_registers, with_head, with_heads}
use Rattle.vg_types_homes.specs.Homes.{HomesView, home_starts, class_behind, component_behind, with_class, with_component, with_declaration, with_declarations}
use Rattle.vg_types_declared.specs.Numbers.{Unnumbered}

register_same : (i : ℕ) (r : Node) (m : List (Name × ℕ)) → with_register (numbered i r) m ≡ with_register r m
register_same i (RegisterDecl at x number) m = refl
register_same i _ m = refl

registers_same : (i : ℕ) (rs : Node) (m : List (Name × ℕ)) → with_registers (numbered i rs) m ≡ with_registers rs m
registers_same i (Then r rest) m =
    registers_same (i + count_nodes r) rest (with_register (numbered i r) m) ∙ ap (with_registers rest) (register_same i r m)
registers_same i _ m = refl

head_same : (i : ℕ) (d : Node) (v : HeadsView) → with_head (numbered i d) v ≡ with_head d v
head_same i (DeviceDecl at d registers) v = ap (λ m. with_device d m v) (registers_same (i + 1) registers _)
head_same i _ v = refl

heads_same : (ds : Node) (i : ℕ) (v : HeadsView) → with_heads (numbered i ds) v ≡ with_heads ds v
heads_same (Then d rest) i v = heads_same rest (i + count_nodes d) (with_head (numbered i d) v) ∙ ap (with_heads rest) (head_same i d v)
heads_same _ i v = refl

member_same : (h : Home) (i : ℕ) (m : Node) (v : HomeView) → with_member h (numbered i m) v ≡ with_member h m v
member_same h i (FieldDecl at n t e) v = refl
member_same h i (MethodDecl at n ps t body) v =
    ap (λ k. with_method h n (written_params ps) (written_type t) k v) (count_numbered (i + 1) body)
member_same h i _ v = refl

members_same : (h : Home) (i : ℕ) (ms : Node) (v : HomeView) → with_members h (numbered i ms) v ≡ with_members h ms v
members_same h i (Then m rest) v =
    members_same h (i + count_nodes m) rest (with_member h (numbered i m) v) ∙ ap (with_members h rest) (member_same h i m v)
members_same h i _ v = refl

params_same : (i : ℕ) (ms : Node) → (constructor_in (numbered i ms)).params ≡ (constructor_in ms).params
params_same i (Then (ConstructorDecl at ps calls arguments body) rest) = refl
params_same i (Then m rest) = params_same (i + count_nodes m) rest
params_same i _ = refl

declaration_same : (i : ℕ) (d : Node) (v : HomesView) → with_declaration (numbered i d) v ≡ with_declaration d v
declaration_same i (ClassDecl at c above ms) v =
    ap (λ z. class_behind (written_params z) (with_members (record { owner = InClass (length v.class_members); slot = 0 }) (numbered (i + 1) ms)
    (home_starts v)) v) (params_same (i + 1) ms)
    ∙ ap (λ z. class_behind (written_params (constructor_in ms).params) z v) (members_same (record {
      owner = InClass
          (length v.class_members);
      slot = 0;
    }) (i + 1) ms (home_starts v))
declaration_same i (ComponentDecl at c ms) v =
    ap (λ z. component_behind z v)
    (members_same (record { owner = InComponent (length v.component_members); slot = length v.globals }) (i + 1) ms (home_starts v))
declaration_same i _ v = refl

homes_same : (ds : Node) (i : ℕ) (v : HomesView) → with_declarations (numbered i ds) v ≡ with_declarations ds v
homes_same (Then d rest) i v = homes_same rest (i + count_nodes d) (with_declaration (numbered i d) v) ∙ ap (with_declarations rest) (declaration_same i d v)
homes_same _ i v = refl

pub unnumbered : (ds : Node) → Unnumbered ds
unnumbered ds = record { heads = heads_same ds; homes = homes_same ds }
