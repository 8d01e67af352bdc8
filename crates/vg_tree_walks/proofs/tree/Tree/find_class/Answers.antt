use Rattle.std.proofs.Common.{sym}
use Rattle.vg_tree.specs.Held.{text_at}
use Rattle.vg_tree_walks.proofs.Classes.{no_text}
use Rattle.vg_tree_walks.proofs.tree.Tree.find_class.Goals as goal

pub returns-in-None : goal.returns-in-None
returns-in-None c texts only = sym (no_text texts (text_at texts c.args.name) 0 c.args.self.now.root (sym c.in-None.ensures.some))
