use Rattle.std.proofs.Common.{sym}
use Rattle.vg_base.proofs.Held.{number_found, held_found, held_new, number_new}
use Rattle.vg_base.proofs.names.Names.intern.Goals as goal

pub returns-in-Some-clause-name : goal.returns-in-Some-clause-name
returns-in-Some-clause-name c = number_found c.args.text.now c.self.inside.texts.keys c.args.self.now c.in-Some.index
    (sym c.self.view_is) c.in-Some.ensures.index

pub returns-in-Some-clause-held : goal.returns-in-Some-clause-held
returns-in-Some-clause-held c = held_found c.args.text.now c.self.inside.texts.keys c.args.self.now (sym c.self.view_is) c.in-Some.ensures.found

pub returns-in_ok-index-in-None-clause-name : goal.returns-in_ok-index-in-None-clause-name
returns-in_ok-index-in-None-clause-name c = number_new c.args.text.now c.self.inside.texts.keys c.args.self.now c.in_ok-from_str-in-None.field-0
    c.in_ok-index-in-None.index (sym c.self.view_is) c.in_ok-from_str-in-None.ensures.ok c.in_ok-index-in-None.ensures.index

pub returns-in_ok-index-in-None-clause-held : goal.returns-in_ok-index-in-None-clause-held
returns-in_ok-index-in-None-clause-held c = held_new c.args.text.now c.self.inside.texts.keys c.insert_full.new.self.keys c.args.self.now
    c.in_ok-from_str-in-None.field-0 (sym c.self.view_is) c.in-None.ensures.found c.in_ok-from_str-in-None.ensures.ok c.in_ok-index-in-None.ensures.keys
