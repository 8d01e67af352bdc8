-- A live method's nodes are among those of all live methods.
use Rattle.std.specs.Prelude.{ℕ, zero, suc, ◌+◌, ◌*◌, ◌≤◌, Bool, true, List, [], ◌∷◌, Some, slice_get}
use Rattle.std.proofs.Common.{◌≡◌, ap, ◌∙◌, arith}
use Rattle.std.proofs.lemmas.Option.{same_Some}
use Rattle.vg_syntax.specs.Tree.{Node}
use Rattle.vg_source.specs.Values.{Heap}
use Rattle.vg_source.specs.Program.{source_of}
use Rattle.vg_method_sizes.specs.Sizes.{Size, sizes}
use Rattle.vg_live_source.specs.Members.{Member}
use Rattle.vg_live_source.specs.Rules.{Live}
use Rattle.vg_static_source.specs.Sums.{if_live}
use Rattle.vg_calls_source.specs.Methods.{DeclaredMethod, methods_of}
use Rattle.vg_code_bound.specs.Nodes.{IsCodeBound, member_of, nodes_among}

counted : (live : Member → Bool) (ds : List DeclaredMethod) (ss : List Size) (i : ℕ) (d : DeclaredMethod) (s : Size)
    → slice_get ds i ≡ Some d → slice_get ss i ≡ Some s → live (member_of d.method) ≡ true → s.nodes ≤ nodes_among live ds ss
counted live [] ss i d s there sized lives = cc
counted live (x ∷ ds) [] i d s there sized lives = cc
counted live (x ∷ ds) (y ∷ ss) zero d s there sized lives =
    let here = ap (λ (m : DeclaredMethod). if_live (live (member_of m.method)) y.nodes) (same_Some x d there) ∙ ap (λ b. if_live b y.nodes) lives in
    let large = ap (λ (z : Size). z.nodes) (same_Some y s sized) in omega (arith, here, large)
counted live (x ∷ ds) (y ∷ ss) (suc i) d s there sized lives = let rest = counted live ds ss i d s there sized lives in omega (arith, rest)

pub within : (text : Node) (h : Heap) (words number : ℕ) (d : DeclaredMethod) (s : Size) → IsCodeBound text h words
    → slice_get (methods_of text) number ≡ Some d → slice_get (sizes text) number ≡ Some s → Live (source_of text) h (Some (member_of d.method))
    → 4000 + 64 * s.nodes ≤ words
within text h words number d s (live, tells, is) there sized lives =
    let some = counted live (methods_of text) (sizes text) number d s there sized ((tells (member_of d.method)).1 lives) in omega (arith, is, some)
