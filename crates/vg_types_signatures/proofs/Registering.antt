-- How far the registers of a device are asked.
use Rattle.std.proofs.Common.{◌≡◌, ℕ, ◌+◌, ◌&&◌, not, Bool, true, false, List, [], ◌∷◌, Option, Some, None, is_some, if◌then◌else◌, refl, sym, ap, ◌∙◌, arith}
use Rattle.vg_syntax.specs.Tree.{Spot, Node, Then, RegisterDecl}
use Rattle.vg_syntax.specs.Numbering.{count_nodes, numbered, with_id}
use Rattle.vg_tree.specs.declared.node.Node as held
use Rattle.vg_tree.specs.Held.{node_at, row_at}
use Rattle.vg_source.specs.Names.{Name, is_among}
use Rattle.vg_rules.specs.Breach.{Breach, asks, ◌or◌}
use Rattle.vg_rules.specs.Signatures.{address_keeps, registers_breach}
use Rattle.vg_types_views.specs.ByText.{found, added}
use Rattle.vg_types_signatures.specs.declared.registers.Register.{Register as HeldRegister}
use Rattle.vg_types_signatures.specs.Asked.{Register, register_of, register_view}
use Rattle.vg_types_signatures.proofs.Seen.{Sees, sees_none, sees_more}

-- ---- one register

abbrev the : Option Register → Register
the (Some r) = r
the None = record { name = []; number = [] }

abbrev breach_more : List Name → ℕ → Node → Register → Option Breach
breach_more seen i rest r =
    if address_keeps r.number && not (is_among seen r.name) then registers_breach (r.name ∷ seen) rest else Some (record { rule = 12; node = i })

asked : (b : Bool) (at : Spot) (i : ℕ) (rest : Option Breach)
    → asks b 12 (with_id i at) or rest ≡ (if b then rest else Some (record { rule = 12; node = i }))
asked true at i rest = refl
asked false at i rest = refl

breach_one : (seen : List Name) (i : ℕ) (d rest : Node) (r : Register) → register_of d ≡ Some r
    → registers_breach seen (Then (numbered i d) rest) ≡ breach_more seen i rest r
breach_one seen i (RegisterDecl at x number) rest r e =
    asked (address_keeps number && not (is_among seen x)) at i (registers_breach (x ∷ seen) rest) ∙ ap (λ o. breach_more seen i rest (the o)) e
breach_one seen i _ rest r e = cc

pub kept_is : (r b new : Bool) (t u : List ℕ) (x y : Name) (here : List (Name × Unit)) → r ≡ (address_keeps t && new) → t ≡ u
    → new ≡ not (is_some (found x here)) → x ≡ y → r ≡ b → address_keeps u && not (is_some (found y here)) ≡ b
kept_is r b new t u x y here e f g h k =
    ap (λ z. address_keeps u && not (is_some (found z here))) (sym h) ∙ ap (λ z. address_keeps u && z) (sym g) ∙ ap (λ z. address_keeps z && new) (sym f)
    ∙ sym e ∙ k

-- ---- the row

-- with the rest, all registers are asked
pub record Registering (texts : List (List ℕ)) (all : List held.Node) (first : ℕ) (here : List (Name × Unit)) (next : ℕ) (rest : List held.Node) : Type 0 where
  pub seen : List Name
  pub sees : Sees seen here
  pub breach : registers_breach [] (numbered first (row_at texts all)) ≡ registers_breach seen (numbered next (row_at texts rest))
  pub count : next + count_nodes (row_at [] rest) ≡ first + count_nodes (row_at [] all)

pub registering_starts : (texts : List (List ℕ)) (all : List held.Node) (first : ℕ) (here : List (Name × Unit)) → here ≡ []
    → Registering texts all first here first all
registering_starts texts all first here e = record { seen = []; sees = sees_none here e; breach = refl; count = refl }

abbrev behind : List (List ℕ) → ℕ → held.Node → List held.Node → Node
behind texts next d rest = numbered (next + count_nodes (node_at texts d)) (row_at texts rest)

-- a register that breaks the rule
pub register_broken : (texts : List (List ℕ)) (all : List held.Node) (first : ℕ) (here : List (Name × Unit)) (next : ℕ) (d : held.Node) (rest : List held.Node)
    (r : HeldRegister) → Registering texts all first here next (d ∷ rest)
    → ((ts : List (List ℕ)) → register_of (node_at ts d) ≡ Some (register_view ts r))
    → address_keeps (register_view texts r).number && not (is_some (found (register_view texts r).name here)) ≡ false
    → registers_breach [] (numbered first (row_at texts all)) ≡ Some (record { rule = 12; node = next })
register_broken texts all first here next d rest r p k f =
    p.breach ∙ breach_one p.seen next (node_at texts d) (behind texts next d rest) (register_view texts r) (k texts)
    ∙ ap (λ b. if b then registers_breach ((register_view texts r).name ∷ p.seen) (behind texts next d rest) else Some (record { rule = 12; node = next }))
    (ap (λ b. address_keeps (register_view texts r).number && not b) (p.sees.same (register_view texts r).name) ∙ f)

both : (a b : Bool) → a && b ≡ true → b ≡ true
both true b e = e
both false b e = cc

-- a register that keeps it
pub register_kept : (texts : List (List ℕ)) (all : List held.Node) (first : ℕ) (here there : List (Name × Unit)) (next after : ℕ) (d : held.Node)
    (rest : List held.Node) (r : HeldRegister) → Registering texts all first here next (d ∷ rest)
    → ((ts : List (List ℕ)) → register_of (node_at ts d) ≡ Some (register_view ts r))
    → address_keeps (register_view texts r).number && not (is_some (found (register_view texts r).name here)) ≡ true
    → there ≡ added (register_view texts r).name tt here → ((ts : List (List ℕ)) → after ≡ next + count_nodes (node_at ts d))
    → Registering texts all first there after rest
register_kept texts all first here there next after d rest r p k f t a =
    let c = p.count in
    let n = a [] in
    record {
      seen = (register_view texts r).name ∷ p.seen;
      sees = sees_more p.seen here there (register_view texts r).name tt p.sees
          (both (address_keeps (register_view texts r).number) (not (is_some (found (register_view texts r).name here))) f) t;
      breach = p.breach ∙ breach_one p.seen next (node_at texts d) (behind texts next d rest) (register_view texts r) (k texts)
          ∙ ap (λ b. if b then registers_breach ((register_view texts r).name ∷ p.seen) (behind texts next d rest) else Some (record {
            rule = 12;
            node =
                next;
          }))
          (ap (λ b. address_keeps (register_view texts r).number && not b) (p.sees.same (register_view texts r).name) ∙ f)
          ∙ ap (λ i. registers_breach ((register_view texts r).name ∷ p.seen) (numbered i (row_at texts rest))) (sym (a texts));
      count = omega (arith, c, n);
    }
