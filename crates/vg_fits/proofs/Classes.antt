-- A text that has too many of nothing has few classes.
use Rattle.std.proofs.Common.{◌≡◌, refl, sym, ap, ◌∙◌, arith, ℕ, suc, ◌+◌, ◌≤◌, Bool, true, false, nat_le, List, [], ◌∷◌, ◌++◌, length, flat_map, Option, Some}
use Rattle.std.proofs.Common.{None, if◌then◌else◌}
use Rattle.vg_syntax.specs.Tree.{Spot, Node, Then, ClassDecl, ComponentDecl}
use Rattle.vg_source.specs.Declared.{or_else}
use Rattle.vg_source.specs.Program.{classes_in, declarations_of, source_of}
use Rattle.vg_rules.specs.Counts.{Counted, class_spots, counts, in_order, in_row}
use Rattle.vg_rules.specs.Limits.{limit_of}
use Rattle.vg_rules.specs.Refusal.{Refused, first_past, too_many_at, too_many_of, too_many, refusal_of}
use Rattle.vg_rules.specs.declared.what.What.{What}
use Rattle.vg_rules.specs.declared.what.What.TheVariants.{Classes}
use Rattle.vg_core.specs.declared.program.Class.{Class}
use Rattle.vg_core.specs.declared.program.Tables.{Tables}
use Rattle.vg_core.specs.Naming.{Naming, named, named_classes}
use Rattle.vg_core.specs.Program.{Program}

first_none : {A : Type 0} (a b : Option A) → or_else a b ≡ None → a ≡ None
first_none None b e = refl
first_none (Some x) b e = cc

past_none : (what : What) (o : Option ℕ) → too_many_at what o ≡ None → o ≡ None
past_none what None e = refl
past_none what (Some node) e = cc

is_at_most : (m n : ℕ) → nat_le m n ≡ true → m ≤ n
is_at_most m n e = grind (arith, e)

-- where none passes the limit there are no more than that
in_limit : (limit n : ℕ) (spots : List Spot) → n ≤ limit → first_past limit (in_order n spots) ≡ None → n + length spots ≤ limit
in_limit limit n [] le e = omega (arith, le)
in_limit limit n (at ∷ rest) le e = by (nat_le (suc n) limit) refl e (in_limit limit (suc n) rest)
  where
    by : (b : Bool) → nat_le (suc n) limit ≡ b → (if b then first_past limit (in_order (suc n) rest) else Some at.id) ≡ None
        → (suc n ≤ limit → first_past limit (in_order (suc n) rest) ≡ None → suc n + length rest ≤ limit) → n + suc (length rest) ≤ limit
    by true q f again = let h = again (is_at_most (suc n) limit q) f in omega (arith, h)
    by false q f again = cc

-- a class is counted
counted : (ds rest : Node) → length (classes_in ds rest) ≤ length (flat_map class_spots (in_row rest))
counted ds (Then (ClassDecl at c above members) rest) = let h = counted ds rest in omega (arith, h)
counted ds (Then (ComponentDecl at c members) rest) = let h = counted ds rest in omega (arith, h)
counted ds (Then _ rest) = counted ds rest
counted ds _ = omega arith

few_of_text : (text : Node) → refusal_of text ≡ None → length (source_of text).classes ≤ 200
few_of_text text legal =
    let many : too_many text ≡ None = first_none (too_many text) _ legal in
    let classes : too_many_of Classes text ≡ None = first_none (too_many_of Classes text) _ many in
    let past : first_past 200 (in_order 0 (flat_map class_spots (in_row (declarations_of text)))) ≡ None = past_none Classes _ classes in
    let few = in_limit 200 0 (flat_map class_spots (in_row (declarations_of text))) (omega arith) past in
    let h = counted (declarations_of text) (declarations_of text) in omega (arith, few, h)

as_many : (n : Naming) (p : Tables) (c : ℕ) (ks : List Class) → length (named_classes n p c ks) ≡ length ks
as_many n p c [] = refl
as_many n p c (k ∷ ks) = ap suc (as_many n p (suc c) ks)

pub few_classes : (text : Node) (n : Naming) (p : Program) → refusal_of text ≡ None → source_of text ≡ named n p → length p.tables.classes ≤ 200
few_classes text n p legal is =
    let few = few_of_text text legal in
    let same = sym (ap (λ q. length q.classes) is ∙ as_many n p.tables 0 p.tables.classes) in omega (arith, few, same)
