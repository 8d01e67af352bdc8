use Rattle.std.proofs.Common.{rules, ◌≡◌, ◌++◌, ◌∷◌, [], ap, ◌∙◌, sym, take, drop, map, length, ◌≤◌, arith}
use Rattle.vg_syntax.specs.Reads.{made, kids_of}
use Rattle.vg_tree.specs.HeldMade.{value_at}
use Rattle.vg_reader.proofs.Building.{reduce_step, front_stays}
use Rattle.vg_reader.proofs.builder.make_last.Goals as goal

pub returns : goal.returns
returns c texts h =
    let at = c.saturating_sub-at.result in
    let values = c.args.values.now in
    let front = c.split_at_mut-kids.result.0.now in
    let cut : length front ≡ at = c.split_at_mut-kids.ensures.front_len in
    let within : length front ≤ values.len = search (rules, arith) in
    let back = front ++ c.make.new.kids ++ drop (length (front ++ c.make.new.kids)) values.items in
    let kept : take at (take values.len back) ≡ take at values.items = ap (λ n. take n (take values.len back)) (sym cut)
    ∙ (front_stays front _ _ _ within ∙ search rules) in
    let left : c.truncate.new.self.items ≡ take at values.items = c.truncate.ensures.items ∙ kept in
    let items : c.push.new.self.items ≡ take at values.items ++ c.in_ok-value.value ∷ [] = c.in_ok-push.ensures.items
    ∙ ap (λ l. l ++ c.in_ok-value.value ∷ []) left in
    let kids : c.split_at_mut-kids.result.1.now ≡ drop at values.items = search rules in
    reduce_step texts _ _ _ _ _ _ (search rules) items (c.in_ok-value.ensures texts h ∙ ap (λ l. made c.args.part (kids_of (map (value_at texts) l))) kids)
