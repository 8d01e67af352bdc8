use Rattle.std.proofs.Common.{sym, ◌∙◌}
use Rattle.vg_trim.proofs.looking.looks_right.Goals as goal

pub returns : goal.returns
returns c h =
    record {
      locals = c.has_locals.ensures c.if-not-has_locals.false;
      begins = sym c.begins_with.ensures ∙ c.if-not-begins_with.false;
      begins_at = c.begins_at.ensures c.if-not-begins_at.false;
      each = c.all_stand.ensures c.if-not-all_stand.false;
      order = c.is_in_order.ensures h;
    }
