-- What the definitions see of what is looked at.
use Rattle.vg_trim_pairs.specs.declared.both.Both.{Both as TheBoth}
use Rattle.vg_trim_pairs.specs.declared.walking.Walk.{Walk as TheWalk}
use Rattle.vg_trimming.specs.Walking.{Walk}
use Rattle.vg_trimming.specs.Trimming.{Both}

abbrev pub both_in : TheBoth → Both
both_in b =
    record { old = b.old.now; new = b.new.now; older = b.older.now; newer = b.newer.now; facts = b.facts.now; places = b.places.now }

abbrev pub walk_in : TheWalk → Walk
walk_in k = record { at = k.at; spent = k.spent; sets = k.sets; met = k.met }
