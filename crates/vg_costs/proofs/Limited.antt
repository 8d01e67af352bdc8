-- The costs of declarations that have few nodes, and few parameters and locals.
use Rattle.std.proofs.Common.{◌≡◌, ℕ, ◌+◌, ◌*◌, ◌≤◌, ◌<◌, Bool, true, false, nat_le, List, [], ◌∷◌, ◌++◌, length, flat_map, Option, Some, None, if◌then◌else◌}
use Rattle.std.proofs.Common.{refl, sym, ap, ◌∙◌, arith}
use Rattle.std.proofs.lemmas.Grind.{flat_map-append}
use Rattle.vg_syntax.specs.Tree.{Node, Then, ClassDecl, ComponentDecl, MethodDecl}
use Rattle.vg_syntax.specs.Numbering.{count_nodes}
use Rattle.vg_source.specs.Declared.{or_else}
use Rattle.vg_source.specs.Nodes.{count_locals}
use Rattle.vg_source.specs.Peak.{declared_cost, costs_of, member_costs, costs_in}
use Rattle.vg_rules.specs.declared.what.What.{What}
use Rattle.vg_rules.specs.declared.what.What.TheVariants.{Classes, Methods, Locals}
use Rattle.vg_rules.specs.Counts.{Counted, locals_at, members_at, in_row, all_members}
use Rattle.vg_rules.specs.Refusal.{first_past, too_many_at, too_many_of, too_many, refusal_of}
use Rattle.vg_costs.specs.Small.{AreSmall}

-- ---- what is refused for nothing

both_none : {A : Type 0} (a b : Option A) → or_else a b ≡ None → (a ≡ None) × (b ≡ None)
both_none None b e = (refl, e)
both_none (Some x) b e = absurd (let clash : Some x ≡ None = e in cc)

past_none : (what : What) (o : Option ℕ) → too_many_at what o ≡ None → o ≡ None
past_none what None e = refl
past_none what (Some node) e = cc

pub not_too_many : (text : Node) → refusal_of text ≡ None → too_many text ≡ None
not_too_many text legal = (both_none (too_many text) _ legal).0

pub few_locals : (text : Node) → too_many text ≡ None → first_past 60 (flat_map locals_at (all_members text)) ≡ None
few_locals text few =
    let a = both_none (too_many_of Classes text) _ few in
    let b = both_none (too_many_of Methods text) _ a.1 in
    past_none Locals _ (both_none (too_many_of Locals text) _ b.1).0

past_both : (limit : ℕ) (xs ys : List Counted) → first_past limit (xs ++ ys) ≡ None → (first_past limit xs ≡ None) × (first_past limit ys ≡ None)
past_both limit [] ys e = (refl, e)
past_both limit (x ∷ xs) ys e = by (nat_le x.number limit) e (past_both limit xs ys)
  where
    by : (b : Bool) → (if b then first_past limit (xs ++ ys) else Some x.node) ≡ None
        → (first_past limit (xs ++ ys) ≡ None → (first_past limit xs ≡ None) × (first_past limit ys ≡ None))
        → ((if b then first_past limit xs else Some x.node) ≡ None) × (first_past limit ys ≡ None)
    by true f again = again f
    by false f again = absurd (let clash : Some x.node ≡ None = f in cc)

is_at_most : (m n : ℕ) → nat_le m n ≡ true → m ≤ n
is_at_most m n e = grind (arith, e)

in_limit : (limit : ℕ) (x : Counted) → first_past limit (x ∷ []) ≡ None → x.number ≤ limit
in_limit limit x e = by (nat_le x.number limit) refl e
  where
    by : (b : Bool) → nat_le x.number limit ≡ b → (if b then None else Some x.node) ≡ None → x.number ≤ limit
    by true q f = is_at_most x.number limit q
    by false q f = absurd (let clash : Some x.node ≡ None = f in cc)

-- ---- each cost is small

both_small : (xs ys : List ℕ) → AreSmall xs → AreSmall ys → AreSmall (xs ++ ys)
both_small [] ys h k = k
both_small (x ∷ xs) ys (a, h) k = (a, both_small xs ys h k)

abbrev FewNodes : Node → Type 0
FewNodes a = count_nodes a < 134217728

small_cost : (params locals nodes : ℕ) → params + locals ≤ 60 → nodes < 134217728 → 32 + 4 * (params + locals + nodes) < 2147483648
small_cost params locals nodes h k = omega (arith, h, k)

method : (m : Node) → first_past 60 (locals_at m) ≡ None → FewNodes m → AreSmall (declared_cost m)
method (MethodDecl at x ps t body) h k = (
  small_cost (length ps) (count_locals body) (count_nodes body)
      (in_limit 60 (record { node = at.id; number = length ps + count_locals body }) h) (omega (arith, k)),
  tt,
)
method _ h k = tt

members : (ms : Node) → first_past 60 (flat_map locals_at (in_row ms)) ≡ None → FewNodes ms → AreSmall (costs_of ms)
members (Then m rest) h k =
    let p = past_both 60 (locals_at m) (flat_map locals_at (in_row rest)) h in
    both_small (declared_cost m) (costs_of rest) (method m p.0 (omega (arith, k))) (members rest p.1 (omega (arith, k)))
members _ h k = tt

declaration : (d : Node) → first_past 60 (flat_map locals_at (members_at d)) ≡ None → FewNodes d → AreSmall (member_costs d)
declaration (ClassDecl at c above ms) h k = members ms h (omega (arith, k))
declaration (ComponentDecl at c ms) h k = members ms h (omega (arith, k))
declaration _ h k = tt

pub declarations : (ds : Node) → first_past 60 (flat_map locals_at (flat_map members_at (in_row ds))) ≡ None → FewNodes ds → AreSmall (costs_in ds)
declarations (Then d rest) h k =
    let p = past_both 60 (flat_map locals_at (members_at d)) (flat_map locals_at (flat_map members_at (in_row rest)))
    (ap (first_past 60) (sym (flat_map-append locals_at (members_at d) (flat_map members_at (in_row rest)))) ∙ h) in
    both_small (member_costs d) (costs_in rest) (declaration d p.0 (omega (arith, k))) (declarations rest p.1 (omega (arith, k)))
declarations _ h k = tt
