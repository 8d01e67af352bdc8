-- Code that breaks no rule is ranged.
use Rattle.std.proofs.Common.{◌≡◌, refl, ℕ, Bool, true, false, List, [], ◌∷◌, ◌++◌, Option, Some, None}
use Rattle.std.specs.List.{AllByRecursion}
use Rattle.vg_syntax.specs.Tree.{Spot, Node}
use Rattle.vg_syntax.specs.Tree as tree
use Rattle.vg_meaning.specs.Code as code
use Rattle.vg_source.specs.Declared.{written_type}
use Rattle.vg_source.specs.Nodes.{nodes}
use Rattle.vg_source.specs.Types.{NoType}
use Rattle.vg_source.specs.Resolved.{Owner, Scope, Context, Fresh, Onto, Otherwise, head_of, resolved, no_arm}
use Rattle.vg_rules.specs.Breach.{Breach, asks, ◌or◌}
use Rattle.vg_rules.specs.Bodies.{Body, looped, breach, primary_breach, number_keeps}
use Rattle.vg_rules.specs.Written.{type_keeps}
use Rattle.vg_source_ranges.specs.Ranges.{AreSmall}
use Rattle.vg_source_ranges.specs.Spelled.{AreSpelled}
use Rattle.vg_source_ranges.proofs.Numbers.{small_type, small_element, wide_type, element_keeps, number_in_range}
use Rattle.vg_source_ranges.proofs.Parts.{Good, good_doing, good_front, good_then, good_settled, good_name, good_member, good_this, good_type, good_index}
use Rattle.vg_source_ranges.proofs.Parts.{good_call, applied_ranged, good_part, good_last, good_default, store_ranged}

pub kept : (x y : Option Breach) → (x or y) ≡ None → (x ≡ None) × (y ≡ None)
kept None y e = (refl, e)
kept (Some b) y e = absurd (let clash : Some b ≡ None = e in cc)

pub asked : (b : Bool) (rule : ℕ) (at : Spot) → asks b rule at ≡ None → b ≡ true
asked true rule at e = refl
asked false rule at e = absurd (some_none (record { rule = rule; node = at.id }) e)
  where
    some_none : (x : Breach) → Some x ≡ None → ⊥
    some_none x q = cc

-- what holds of two lists holds of each
pub halves : {A : Type 0} (P : A → Type 0) (xs ys : List A) → AllByRecursion P (xs ++ ys) → AllByRecursion P xs × AllByRecursion P ys
halves P [] ys h = (tt, h)
halves P (x ∷ xs) ys (a, h) = let q = halves P xs ys h in ((a, q.0), q.1)

-- the context in which a breach is looked for
abbrev plain : Context → Context
plain Fresh = Fresh
plain (Onto h) = Onto h
plain (Otherwise last) = Fresh

module _ (most : ℕ) (ds : Node) where
  two : (a b : Node) → AreSpelled most (tree.Then a b) → AreSpelled most a × AreSpelled most b
  two a b w = halves _ (nodes a) (nodes b) w

  -- what comes where no condition holds is ranged
  abbrev Behind : (o : Owner) → Node → Context → Scope → Type 0
  Behind o a (Otherwise last) ls = Good (last (resolved ds o a Fresh ls).scope)
  Behind o a _ ls = Unit {0}

  behind_arm : (o : Owner) (c block rest : Node) (b : Context) (ls : Scope) → Behind o (tree.Arm c block rest) b ls
      → Behind o rest b (resolved ds o block Fresh ls).scope
  behind_arm o c block rest Fresh ls z = tt
  behind_arm o c block rest (Onto h) ls z = tt
  behind_arm o c block rest (Otherwise last) ls z = z

  no_more : (o : Owner) (b : Context) (ls : Scope) → Behind o tree.Nothing b ls → AreSmall ls.declared → Good (no_arm b ls)
  no_more o (Otherwise last) ls z s = z
  no_more o Fresh ls z s = good_doing code.Nothing _ ls tt s
  no_more o (Onto h) ls z s = good_doing code.Nothing _ ls tt s

  primary : (k : Body) (e suffixes : Node) (ls : Scope) → AreSmall ls.declared
      → (breach ds k e Fresh ls ≡ None → Good (resolved ds k.owner e Fresh ls))
      → primary_breach ds k.owner ls e suffixes (breach ds k e Fresh ls) ≡ None → Good (resolved ds k.owner e Fresh ls)
  primary k (tree.Name at x) suffixes ls s again q = good_name ds ls s k.owner at.id x
  primary k _ suffixes ls s again q = again q

  good : (a : Node) (k : Body) (b : Context) (ls : Scope) → breach ds k a (plain b) ls ≡ None → Behind k.owner a b ls → AreSmall ls.declared
      → AreSpelled most a → Good (resolved ds k.owner a b ls)
  good tree.Nothing k b ls e z s w = no_more k.owner b ls z s
  good (tree.Then a rest) k (Onto h) ls e z s w =
      let q = kept (breach ds k a (Onto h) ls) _ e in
      let g = good a k (Onto h) ls q.0 tt s (two a rest w).0 in
      good_last rest _ _ g (good_front _ _ g.does (good rest k (Onto _) ls q.1 tt s (two a rest w).1))
  good (tree.Then a rest) k Fresh ls e z s w =
      let q = kept (breach ds k a Fresh ls) _ e in
      let g = good_settled _ (good a k Fresh ls q.0 tt s (two a rest w).0) in good_front _ _ g.does (good rest k Fresh _ q.1 tt g.scope (two a rest w).1)
  good (tree.Then a rest) k (Otherwise last) ls e z s w =
      let q = kept (breach ds k a Fresh ls) _ e in
      let g = good_settled _ (good a k Fresh ls q.0 tt s (two a rest w).0) in good_front _ _ g.does (good rest k Fresh _ q.1 tt g.scope (two a rest w).1)
  good (tree.Arm c block rest) k b ls e z s w =
      let q = kept (breach ds k c Fresh ls) _ e in
      let r = kept (breach ds k block Fresh ls) _ q.1 in
      let w1 = two (tree.Then c block) rest w in
      let w2 = two c block w1.0 in
      let gc = good_settled _ (good c k Fresh ls q.0 tt s w2.0) in
      let gb = good block k Fresh ls r.0 tt s w2.1 in
      let go = good rest k b (resolved ds k.owner block Fresh ls).scope r.1 (behind_arm k.owner c block rest b ls z) gb.scope w1.1 in
      good_doing _ _ _ (gc.does, (gb.does, go.does)) go.scope
  good (tree.Block at body) k b ls e z s w =
      let g = good body k Fresh ls e tt s w.1 in good_doing _ _ _ g.does g.scope
  good (tree.Local at x t v) k b ls e z s w =
      let q = kept (breach ds k v Fresh ls) _ e in
      let r = kept _ _ q.1 in
      let u = kept (asks (type_keeps ds t) 8 at) _ r.1 in
      let m = small_type ds t (asked (type_keeps ds t) 8 at u.0) in
      let g = good_default (written_type t) v _ m (good_settled _ (good v k Fresh ls q.0 tt s w.1)) in good_doing _ _ _ (g.does, tt) (m, s)
  good (tree.If at arms otherwise) k b ls e z s w =
      let q = kept (breach ds k arms Fresh ls) _ e in
      let r = kept (breach ds k otherwise Fresh (resolved ds k.owner arms Fresh ls).scope) _ q.1 in
      let w1 = two arms otherwise w.1 in
      let ga = good arms k Fresh ls q.0 tt s w1.0 in
      good arms k (Otherwise (resolved ds k.owner otherwise Fresh)) ls q.0
      (good otherwise k Fresh (resolved ds k.owner arms Fresh ls).scope r.0 tt ga.scope w1.1) s w1.0
  good (tree.While at c body) k b ls e z s w =
      let q = kept (breach ds k c Fresh ls) _ e in
      let r = kept (breach ds (looped k) body Fresh ls) _ q.1 in
      let w1 = two c body w.1 in
      let gc = good_settled _ (good c k Fresh ls q.0 tt s w1.0) in
      let gb = good body (looped k) Fresh ls r.0 tt s w1.1 in good_doing _ _ _ (gc.does, gb.does, tt) gb.scope
  good (tree.For at first c next body) k b ls e z s w =
      let q = kept (breach ds k first Fresh ls) _ e in
      let r = kept (breach ds k c Fresh ls) _ q.1 in
      let u = kept (breach ds k next Fresh ls) _ r.1 in
      let v = kept (breach ds (looped k) body Fresh ls) _ u.1 in
      let w1 = two (tree.Then (tree.Then first c) next) body w.1 in
      let w2 = two (tree.Then first c) next w1.0 in
      let w3 = two first c w2.0 in
      let gf = good first k Fresh ls q.0 tt s w3.0 in
      let gc = good_settled _ (good c k Fresh ls r.0 tt s w3.1) in
      let gn = good next k Fresh ls u.0 tt s w2.1 in
      let gb = good body (looped k) Fresh ls v.0 tt s w1.1 in good_front _ _ gf.does (good_doing _ _ _ (gc.does, gb.does, gn.does) gb.scope)
  good (tree.Return at v) k b ls e z s w =
      let q = kept (breach ds k v Fresh ls) _ e in
      let g = good_default NoType v _ tt (good_settled _ (good v k Fresh ls q.0 tt s w.1)) in good_doing _ _ ls (g.does, tt) s
  good (tree.Break at) k b ls e z s w = good_doing _ _ ls tt s
  good (tree.Continue at) k b ls e z s w = good_doing _ _ ls tt s
  good (tree.Assign at target v) k b ls e z s w =
      let q = kept (breach ds k target Fresh ls) _ e in
      let r = kept (breach ds k v Fresh ls) _ q.1 in
      let w1 = two target v w.1 in
      let gt = good target k Fresh ls q.0 tt s w1.0 in
      let gv = good_settled _ (good v k Fresh ls r.0 tt s w1.1) in
      good_doing _ _ ls (gt.aims, (gv.does, store_ranged _ gt.store)) s
  good (tree.Eval at v) k b ls e z s w = good_then _ _ _ (good_settled _ (good v k Fresh ls e tt s w.1)) tt
  good (tree.Number at digits) k b ls e z s w = good_doing _ _ ls (number_in_range digits (asked (number_keeps digits) 13 at e)) s
  good (tree.CharLit at spelled) k b ls e z s w = good_doing _ _ ls w.0 s
  good (tree.StringLit at spelled) k b ls e z s w = good_doing _ _ ls tt s
  good (tree.True at) k b ls e z s w = good_doing _ _ ls tt s
  good (tree.False at) k b ls e z s w = good_doing _ _ ls tt s
  good (tree.Null at) k b ls e z s w = good_doing _ _ ls tt s
  good (tree.This at) k b ls e z s w = good_this ds ls s k.owner
  good (tree.Name at x) k b ls e z s w = good_name ds ls s k.owner at.id x
  good (tree.NewObject at c args) k b ls e z s w =
      let q = kept (breach ds k args Fresh ls) _ e in good_then _ _ _ (good args k Fresh ls q.0 tt s w.1) tt
  good (tree.NewArray at t v) k b ls e z s w =
      let q = kept (breach ds k v Fresh ls) _ e in
      let r = kept (asks (type_keeps ds (tree.ArrayType t)) 8 at) _ q.1 in
      let u = asked (type_keeps ds (tree.ArrayType t)) 8 at r.0 in
      good_then _ _ _ (good_settled _ (good v k Fresh ls q.0 tt s w.1)) (small_element ds t u, wide_type ds t (element_keeps ds t u) w.0)
  good (tree.Unary at operators v) k b ls e z s w =
      let q = kept (breach ds k v Fresh ls) _ e in
      let g = good_settled _ (good v k Fresh ls q.0 tt s w.1) in good_doing _ _ _ (g.does, applied_ranged operators code.Nothing tt) g.scope
  good (tree.Chain at first parts) k b ls e z s w =
      let q = kept (breach ds k first Fresh ls) _ e in
      let w1 = two first parts w.1 in
      let g = good_settled _ (good first k Fresh ls q.0 tt s w1.0) in good_front _ _ g.does (good parts k (Onto _) ls q.1 tt s w1.1)
  good (tree.Part at op v) k b ls e z s w =
      let q = kept (breach ds k v Fresh ls) _ e in good_part at.id op (head_of b) _ (good_settled _ (good v k Fresh ls q.0 tt s w.1))
  good (tree.TypePart at op t) k b ls e z s w =
      let q = kept (asks (type_keeps ds t) 8 at) _ e in good_type ds ls s at.id op (written_type t) (small_type ds t (asked (type_keeps ds t) 8 at q.0))
  good (tree.Postfix at p suffixes) k b ls e z s w =
      let q = kept (primary_breach ds k.owner ls p suffixes (breach ds k p Fresh ls)) _ e in
      let w1 = two p suffixes w.1 in
      let g = primary k p suffixes ls s (λ h. good p k Fresh ls h tt s w1.0) q.0 in
      good_front _ _ g.does (good_settled _ (good suffixes k (Onto _) ls q.1 tt s w1.1))
  good (tree.Member at x) k b ls e z s w = good_member ds ls s at.id x (head_of b)
  good (tree.Index at v) k b ls e z s w =
      let q = kept (breach ds k v Fresh ls) _ e in good_index at.id _ (head_of b) (good_settled _ (good v k Fresh ls q.0 tt s w.1))
  good (tree.Call at args) k b ls e z s w =
      let q = kept (breach ds k args Fresh ls) _ e in good_call at.id _ _ (head_of b) (good args k Fresh ls q.0 tt s w.1)
  good _ k b ls e z s w = good_doing code.Nothing _ ls tt s

  pub ranged_body : (k : Body) (a : Node) (ls : Scope) → breach ds k a Fresh ls ≡ None → AreSmall ls.declared → AreSpelled most a
      → Good (resolved ds k.owner a Fresh ls)
  ranged_body k a ls e s w = good a k Fresh ls e tt s w
