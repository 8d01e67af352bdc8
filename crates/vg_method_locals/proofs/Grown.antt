-- A scope grows by the locals of a statement.
use Rattle.std.proofs.Common.{◌≡◌, ℕ, suc, ◌+◌, refl, arith}
use Rattle.vg_syntax.specs.Tree as tree
use Rattle.vg_syntax.specs.Tree.{Node}
use Rattle.vg_source.specs.Nodes.{count_locals}
use Rattle.vg_source.specs.Resolved.{Owner, Scope, Resolved, Context, Fresh, Otherwise, settled, resolved}
use Rattle.vg_method_locals.specs.Among.{IsArms, LocalsAmongStatements}
use Rattle.vg_method_locals.proofs.Counting.{extent, sum}
use Rattle.vg_method_locals.proofs.Kept.{kept, settled_too}

module _ (ds : Node) (o : Owner) where
  -- behind a node so many were declared
  abbrev Grows : Node → Context → Scope → ℕ → Type 0
  Grows a b ls n = extent (resolved ds o a b ls).scope ≡ extent ls + n

  none : (a : Node) (ls : Scope) → count_locals a ≡ 0 → Grows a Fresh ls (count_locals a)
  none a ls e = let f = kept ds o a Fresh ls e tt in omega (arith, e, f)

  mutual
    pub grown : (a : Node) (ls : Scope) → LocalsAmongStatements a → Grows a Fresh ls (count_locals a)
    grown tree.Nothing ls h = omega arith
    grown (tree.Then a rest) ls (h, g) =
        let m = resolved ds o a Fresh ls in
        let e = settled_too m (extent ls + count_locals a) (grown a ls h) in
        let f = grown rest (settled m).scope g in
        let s = sum a rest in
        omega (arith, e, f, s)
    grown (tree.Arm c block rest) ls (none_c, in_block, in_rest) =
        let e = grown block ls in_block in
        let f = grown rest (resolved ds o block Fresh ls).scope in_rest in
        let s = sum (tree.Then c block) rest in
        let t = sum c block in
        omega (arith, e, f, s, t, none_c)
    grown (tree.Block at body) ls h = grown body ls h
    grown (tree.Local at x t v) ls h = let k : count_locals (tree.Local at x t v) ≡ suc (count_locals v) = refl in omega (arith, h, k)
    grown (tree.If at arms otherwise) ls (i, in_arms, in_rest) =
        let e = grown_arms arms (resolved ds o otherwise Fresh) (count_locals otherwise) ls i in_arms (λ l. grown otherwise l in_rest) in
        let s = sum arms otherwise in
        omega (arith, e, s)
    grown (tree.While at c body) ls (none_c, in_body) =
        let e = grown body ls in_body in
        let s = sum c body in
        omega (arith, e, s, none_c)
    grown (tree.For at first c next body) ls (none_first, none_c, none_next, in_body) =
        let e = grown body ls in_body in
        let s = sum (tree.Then (tree.Then first c) next) body in
        let t = sum (tree.Then first c) next in
        let u = sum first c in
        omega (arith, e, s, t, u, none_first, none_c, none_next)
    grown a ls h = none a ls h

    grown_arms : (a : Node) (last : Scope → Resolved) (n : ℕ) (ls : Scope) → IsArms a → LocalsAmongStatements a
        → ((l : Scope) → extent (last l).scope ≡ extent l + n) → Grows a (Otherwise last) ls (count_locals a + n)
    grown_arms tree.Nothing last n ls i h k = let e = k ls in omega (arith, e)
    grown_arms (tree.Arm c block rest) last n ls i (none_c, in_block, in_rest) k =
        let e = grown block ls in_block in
        let f = grown_arms rest last n (resolved ds o block Fresh ls).scope i in_rest k in
        let s = sum (tree.Then c block) rest in
        let t = sum c block in
        omega (arith, e, f, s, t, none_c)
    grown_arms _ last n ls i h k = absurd i
