use Rattle.std.proofs.Common.{◌≡◌, ◌+◌, refl, sym, ap, ◌∙◌, arith}
use Rattle.vg_syntax.specs.Numbering.{numbered}
use Rattle.vg_tree.specs.Held.{node_at}
use Rattle.vg_places.specs.Places.{place_among, spots}
use Rattle.vg_places.proofs.Counted.{counted, numbered_spots}
use Rattle.vg_places.proofs.Found.{found_counted}
use Rattle.vg_places.proofs.places.place_of.Goals as goal

pub returns : goal.returns
returns c = λ texts.
    ap (λ s. s.found) (c.pass.ensures texts) ∙ found_counted 0 c.args.node.0 (spots (node_at texts c.args.tree.now.root))
    ∙ ap (λ j. place_among j (counted 0 (spots (node_at texts c.args.tree.now.root)))) (let e : 0 + c.args.node.0 ≡ c.args.node.0 = omega arith in e)
    ∙ ap (place_among c.args.node.0) (sym (numbered_spots 0 (node_at texts c.args.tree.now.root)))
