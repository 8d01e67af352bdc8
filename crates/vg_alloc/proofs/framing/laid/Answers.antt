use Rattle.std.proofs.Common.{◌≡◌, ℕ, List, ◌+◌, ◌-◌, ◌++◌, ◌∙◌, sym, subst, ap, length, take, drop}
use Rattle.vg_templates.specs.Layouts.{IsLayout}
use Rattle.vg_templates.specs.Living.{lasts}
use Rattle.vg_templates.specs.Calls.{sum_of}
use Rattle.vg_templates.specs.Framed.{taken, taken_from, all_taken}
use Rattle.vg_alloc.specs.Frames.{taken_of, held_spots, pushed_spots, all_located}
use Rattle.vg_alloc.specs.Locations.{located, layout}
use Rattle.vg_alloc.proofs.Spotting.{located_whole, others_are, spots_counted}
use Rattle.vg_alloc.proofs.framing.laid.Goals as goal

module _ (c : goal.After-bytes_of-pushed) where
  abbrev others : List ℕ
  others = take (length c.args.widths.now - c.from-count.result) (drop c.from-count.result c.args.widths.now)

  its_others : others ≡ drop c.args.params c.args.widths.now
  its_others = others_are c.args.widths.now c.from-count.result ∙ ap (λ n. drop n c.args.widths.now) c.from-count.ensures

  its_taken : taken_of c.in_ok-taken.taken ≡ all_taken (lasts c.args.code.now) c.args.widths.now c.args.params
  its_taken = c.in_ok-taken.ensures.taken ∙ ap (λ ws. taken_from (lasts c.args.code.now) c.args.params ws (taken 0 0 0)) its_others

  its_spots : c.in_ok-spots.spots
      ≡ pushed_spots (c.in_ok-taken.taken.slots + c.in_ok-taken.taken.lasting + 4) (take c.args.params c.args.widths.now)
      ++ held_spots (lasts c.args.code.now) c.args.params (drop c.args.params c.args.widths.now) (taken 0 0 0)
  its_spots =
      c.in_ok-spots.ensures
      ∙ ap (λ n. pushed_spots (c.in_ok-taken.taken.slots + c.in_ok-taken.taken.lasting + 4) (take n c.args.widths.now) ++ c.as_slice.result.now) c.from-count.ensures
      ∙ ap (λ o. pushed_spots (c.in_ok-taken.taken.slots + c.in_ok-taken.taken.lasting + 4) (take c.args.params c.args.widths.now) ++ o)
      (c.as_slice.ensures
      ∙ c.in_ok-taken.ensures.spots
      ∙ ap (λ o. o ++ held_spots (lasts c.args.code.now) c.args.params others (taken 0 0 0)) c.new-others.ensures
      ∙ ap (λ ws. held_spots (lasts c.args.code.now) c.args.params ws (taken 0 0 0)) its_others)

  its_locations : located c.in_ok-copy.copy c.in_ok-spots.spots c.in_ok-taken.taken.slots c.in_ok-saved.saved c.is_pointed-pointed.result c.bytes_of-pushed.result
      c.args.arrives ≡ all_located (lasts c.args.code.now) c.args.arrives c.args.widths.now c.args.params
  its_locations =
      located_whole (lasts c.args.code.now) c.args.arrives c.args.widths.now c.args.params c.in_ok-copy.copy c.in_ok-taken.taken c.bytes_of-pushed.result
      c.in_ok-spots.spots c.in_ok-saved.saved c.is_pointed-pointed.result c.in_ok-copy.ensures its_taken its_spots c.is_pointed-pointed.ensures
      c.in_ok-saved.ensures (c.bytes_of-pushed.ensures ∙ ap (λ n. sum_of (take n c.args.widths.now)) c.from-count.ensures)

pub new-requires-clause-sound : goal.new-requires-clause-sound
new-requires-clause-sound c = subst (λ l. IsLayout (layout l)) (sym (its_locations c)) c.requires.sound

pub new-requires-clause-each : goal.new-requires-clause-each
new-requires-clause-each c =
    ap length (its_spots c)
    ∙ spots_counted (lasts c.args.code.now) _ c.args.params c.args.widths.now (taken 0 0 0) c.requires.params
    ∙ sym (ap length c.in_ok-copy.ensures)
