-- A text has fewer fields than nodes, and few of those.
use Rattle.std.proofs.Common.{◌≡◌, sym, ap, ◌∙◌, arith, ℕ, ◌<◌, ◌≤◌, List, [], ◌∷◌, ◌++◌, length, length-append}
use Rattle.std.proofs.lemmas.List.{length-map}
use Rattle.vg_base.specs.Limits.{text_limit}
use Rattle.vg_syntax.specs.Tree.{Node, Then, Text, ClassDecl, ComponentDecl, FieldDecl}
use Rattle.vg_syntax.specs.Numbering.{count_nodes}
use Rattle.vg_syntax.specs.Reads.{Reads}
use Rattle.vg_source.specs.Names.{Name}
use Rattle.vg_source.specs.Resolved.{Owner, InClass, InComponent}
use Rattle.vg_texts.proofs.Counts.{few_nodes}
use Rattle.vg_core.specs.declared.program.Tables.{Tables}
use Rattle.vg_static_source.specs.Fields.{field_at, fields_among, fields_at, fields_in, fields_of}
use Rattle.vg_written.specs.Written.{AreWritten, named_field}

one : (o : Owner) (m : Node) → length (field_at o m) ≤ count_nodes m
one o (FieldDecl at x t value) = omega arith
one o _ = omega arith

members : (o : Owner) (ms : Node) → length (fields_among o ms) ≤ count_nodes ms
members o (Then m rest) =
    let f = one o m in let h = members o rest in let l = length-append (field_at o m) (fields_among o rest) in omega (arith, f, h, l)
members o _ = omega arith

declaration : (d : Node) → length (fields_at d) ≤ count_nodes d
declaration (ClassDecl at c above ms) = let h = members (InClass c) ms in omega (arith, h)
declaration (ComponentDecl at c ms) = let h = members (InComponent c) ms in omega (arith, h)
declaration _ = omega arith

declarations : (ds : Node) → length (fields_in ds) ≤ count_nodes ds
declarations (Then d rest) =
    let f = declaration d in let h = declarations rest in let l = length-append (fields_at d) (fields_in rest) in omega (arith, f, h, l)
declarations _ = omega arith

fields_among_nodes : (text : Node) → length (fields_of text) ≤ count_nodes text
fields_among_nodes (Text at ds) = let h = declarations ds in omega (arith, h)
fields_among_nodes _ = omega arith

pub few_fields : (bytes : List ℕ) (texts : List Name) (text : Node) (p : Tables) → length bytes ≤ text_limit → Reads bytes text → AreWritten texts text p
    → length p.fields < 4294967296
few_fields bytes texts text p short reads written =
    let few = few_nodes bytes text short reads in
    let below = fields_among_nodes text in
    let same = sym (length-map p.fields (named_field texts p)) ∙ ap length written.fields in
    omega (arith, few, below, same)
