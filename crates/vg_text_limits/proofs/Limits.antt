-- What a text has that is refused for nothing.
use Rattle.std.proofs.Common.{◌≡◌, refl, sym, ap, ◌∙◌, arith, ℕ, suc, ◌+◌, ◌≤◌, Bool, true, false, nat_le, List, [], ◌∷◌, ◌++◌, length, map, flat_map}
use Rattle.std.proofs.Common.{Option, Some, None, if◌then◌else◌}
use Rattle.std.proofs.lemmas.List.{length-map}
use Rattle.vg_syntax.specs.Tree.{Spot, Node, MethodDecl, ConstructorDecl}
use Rattle.vg_source.specs.Declared.{or_else}
use Rattle.vg_rules.specs.Breach.{Breach}
use Rattle.vg_rules.specs.Counts.{Counted, method_at, locals_at, all_members, in_order}
use Rattle.vg_rules.specs.Legal.{Legal, breach_of}
use Rattle.vg_rules.specs.Refusal.{first_past, too_many_at, too_many_of, too_many, broken_at, refusal_of}
use Rattle.vg_rules.specs.declared.what.What.{What}
use Rattle.vg_rules.specs.declared.what.What.TheVariants.{Classes, Methods, Locals}
use Rattle.vg_core.specs.declared.program.Method.{Method}
use Rattle.vg_core.specs.declared.program.Tables.{Tables}
use Rattle.vg_method_sizes.specs.Sizes.{Size, size_at, sizes}

both_none : {A : Type 0} (a b : Option A) → or_else a b ≡ None → (a ≡ None) × (b ≡ None)
both_none None b e = (refl, e)
both_none (Some x) b e = absurd (let clash : Some x ≡ None = e in cc)

past_none : (what : What) (o : Option ℕ) → too_many_at what o ≡ None → o ≡ None
past_none what None e = refl
past_none what (Some node) e = cc

no_breach : (o : Option Breach) → broken_at o ≡ None → o ≡ None
no_breach None e = refl
no_breach (Some b) e = cc

is_at_most : (m n : ℕ) → nat_le m n ≡ true → m ≤ n
is_at_most m n e = grind (arith, e)

module _ (text : Node) (legal : refusal_of text ≡ None) where
  -- it keeps the rules
  pub is_legal : Legal text
  is_legal = no_breach (breach_of text) (both_none (too_many text) _ legal).1

  parts : (too_many_of Methods text ≡ None) × (too_many_of Locals text ≡ None)
  parts =
      let a = both_none (too_many_of Classes text) _ (both_none (too_many text) _ legal).0 in
      let b = both_none (too_many_of Methods text) _ a.1 in
      let c = both_none (too_many_of Locals text) _ b.1 in (b.0, c.0)

  pub few_locals : first_past 60 (flat_map locals_at (all_members text)) ≡ None
  few_locals = past_none Locals _ parts.1

  few_counted : first_past 2000 (in_order 0 (flat_map method_at (all_members text))) ≡ None
  few_counted = past_none Methods _ parts.0

-- where none passes the limit there are no more than that
in_limit : (limit n : ℕ) (spots : List Spot) → n ≤ limit → first_past limit (in_order n spots) ≡ None → n + length spots ≤ limit
in_limit limit n [] le e = omega (arith, le)
in_limit limit n (at ∷ rest) le e = by (nat_le (suc n) limit) refl e (in_limit limit (suc n) rest)
  where
    by : (b : Bool) → nat_le (suc n) limit ≡ b → (if b then first_past limit (in_order (suc n) rest) else Some at.id) ≡ None
        → (suc n ≤ limit → first_past limit (in_order (suc n) rest) ≡ None → suc n + length rest ≤ limit) → n + suc (length rest) ≤ limit
    by true q f again = let h = again (is_at_most (suc n) limit q) f in omega (arith, h)
    by false q f again = cc

-- what stands first and what stands behind it
pub past_both : (limit : ℕ) (xs ys : List Counted) → first_past limit (xs ++ ys) ≡ None → (first_past limit xs ≡ None) × (first_past limit ys ≡ None)
past_both limit [] ys e = (refl, e)
past_both limit (x ∷ xs) ys e = by (nat_le x.number limit) e (past_both limit xs ys)
  where
    by : (b : Bool) → (if b then first_past limit (xs ++ ys) else Some x.node) ≡ None
        → (first_past limit (xs ++ ys) ≡ None → (first_past limit xs ≡ None) × (first_past limit ys ≡ None))
        → ((if b then first_past limit xs else Some x.node) ≡ None) × (first_past limit ys ≡ None)
    by true f again = again f
    by false f again = absurd (let clash : Some x.node ≡ None = f in cc)

pub past_first : (limit : ℕ) (x : Counted) (xs : List Counted) → first_past limit (x ∷ xs) ≡ None → (x.number ≤ limit) × (first_past limit xs ≡ None)
past_first limit x xs e = by (nat_le x.number limit) refl e
  where
    by : (b : Bool) → nat_le x.number limit ≡ b → (if b then first_past limit xs else Some x.node) ≡ None
        → (x.number ≤ limit) × (first_past limit xs ≡ None)
    by true q f = (is_at_most x.number limit q, f)
    by false q f = absurd (let clash : Some x.node ≡ None = f in cc)

-- a method is counted
counted : (ms : List Node) → length (flat_map size_at ms) ≤ length (flat_map method_at ms)
counted [] = omega arith
counted (MethodDecl at x ps t body ∷ ms) = let h = counted ms in omega (arith, h)
counted (ConstructorDecl at ps calls args body ∷ ms) = let h = counted ms in omega (arith, h)
counted (_ ∷ ms) = counted ms

pub few_methods : (text : Node) (p : Tables) → refusal_of text ≡ None
    → map (λ (m : Method). m.nodes) p.methods ≡ map (λ (s : Size). s.nodes) (sizes text) → length p.methods ≤ 2000
few_methods text p legal same =
    let a = in_limit 2000 0 (flat_map method_at (all_members text)) (omega arith) (few_counted text legal) in
    let b = counted (all_members text) in
    let c = sym (length-map p.methods (λ (m : Method). m.nodes)) ∙ ap length same ∙ length-map (sizes text) (λ (s : Size). s.nodes) in
    omega (arith, a, b, c)
