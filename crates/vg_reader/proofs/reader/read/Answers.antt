use Rattle.std.proofs.Common.{◌≡◌, [], sym, ap, ◌∙◌, subst, arith}
use Rattle.vg_syntax.specs.Outline.{size}
use Rattle.vg_syntax.specs.Reads.{Reads, tree_in}
use Rattle.vg_syntax.proofs.Numbering.{count_numbered}
use Rattle.vg_tree.specs.Held.{node_at}
use Rattle.vg_tree_walks.specs.Whole.{tree_at}
use Rattle.vg_tree_walks.proofs.Alike.{alike}
use Rattle.vg_reader.specs.Derivation.{tree_of}
use Rattle.vg_texts.proofs.Counts.{few_nodes}
use Rattle.vg_reader.proofs.Named.{grown_none, grown_twice, held_one, text_found}
use Rattle.vg_texts.proofs.Spelled.{all_spelled, few_tokens}
use Rattle.vg_reader.proofs.reader.read.Goals as goal

pub build-requires-clause-spelled : goal.build-requires-clause-spelled
build-requires-clause-spelled c = all_spelled c.args.bytes.now c.in_ok-derivation.derivation.tokens.items c.in_ok-derivation.ensures.tokens

pub build-requires-clause-nameless : goal.build-requires-clause-nameless
build-requires-clause-nameless c =
    λ texts g. text_found _ c.args.names.now c.intern.new.self texts c.in_ok-nameless.nameless c.in_ok-nameless.ensures.held c.in_ok-nameless.ensures.name g

pub build-requires-clause-room : goal.build-requires-clause-room
build-requires-clause-room c =
    let one = (held_one [] c.args.names.now c.intern.new.self c.in_ok-nameless.ensures.held).1 in
    let few = few_tokens c.args.bytes.now c.in_ok-derivation.derivation.tokens.items c.in_ok-derivation.ensures.tokens.0 in
    omega (arith, few, one, c.requires.short, c.requires.room)

pub returns-clause-names : goal.returns-clause-names
returns-clause-names c = grown_twice _ _ _ (held_one [] c.args.names.now c.intern.new.self c.in_ok-nameless.ensures.held).0 c.build.ensures.names

pub returns-in_err-values-clause-names : goal.returns-in_err-values-clause-names
returns-in_err-values-clause-names c = grown_twice _ _ _ (held_one [] c.args.names.now c.intern.new.self c.in_ok-nameless.ensures.held).0 c.build.ensures.names

pub returns-clause-answer : goal.returns-clause-answer
returns-clause-answer c =
    let e : tree_at c.build.new.names c.tree_in.result ≡ tree_of c.args.bytes.now c.in_ok-derivation.derivation =
    c.tree_in.ensures c.build.new.names ∙ ap tree_in (c.in_ok-values.ensures.values c.build.new.names (grown_none c.build.new.names)) in
    (c.in_ok-derivation.ensures.tree.0, subst (Reads c.args.bytes.now) (sym e) c.in_ok-derivation.ensures.tree.1)

pub returns-clause-later : goal.returns-clause-later
returns-clause-later c texts g =
    let tree = c.tree_in.ensures in
    let values = c.in_ok-values.ensures.values in
    tree texts ∙ ap tree_in (values texts g ∙ sym (values c.build.new.names (grown_none c.build.new.names))) ∙ sym (tree c.build.new.names)

pub returns-clause-small : goal.returns-clause-small
returns-clause-small c =
    let texts = c.build.new.names in
    let root = c.tree_in.result.root in
    let e : tree_at texts c.tree_in.result ≡ tree_of c.args.bytes.now c.in_ok-derivation.derivation =
    c.tree_in.ensures texts ∙ ap tree_in (c.in_ok-values.ensures.values texts (grown_none texts)) in
    let few = few_nodes c.args.bytes.now (tree_at texts c.tree_in.result) c.requires.short
    (subst (Reads c.args.bytes.now) (sym e) c.in_ok-derivation.ensures.tree.1) in
    let numbers = count_numbered 0 (node_at texts root) in
    let same = ap size (alike texts root) in
    omega (arith, few, numbers, same)

pub returns-in_err-values-clause-few : goal.returns-in_err-values-clause-few
returns-in_err-values-clause-few c =
    let few = few_tokens c.args.bytes.now c.in_ok-derivation.derivation.tokens.items c.in_ok-derivation.ensures.tokens.0 in
    let one = (held_one [] c.args.names.now c.intern.new.self c.in_ok-nameless.ensures.held).1 in
    omega (arith, few, one, c.build.ensures.few)

pub returns-clause-few : goal.returns-clause-few
returns-clause-few c =
    let few = few_tokens c.args.bytes.now c.in_ok-derivation.derivation.tokens.items c.in_ok-derivation.ensures.tokens.0 in
    let one = (held_one [] c.args.names.now c.intern.new.self c.in_ok-nameless.ensures.held).1 in
    omega (arith, few, one, c.build.ensures.few)
