-- The tree of a text has fewer than 2^27 nodes: each token and each part of its parse makes at most three, and the room of its tokens bounds those.
use Rattle.std.proofs.Common.{◌≡◌, ℕ, zero, suc, ◌+◌, ◌*◌, ◌<◌, ◌≤◌, Bool, true, false, List, [], ◌∷◌, ◌++◌, length, sym, ap, arith}
use Rattle.std.specs.Prelude.{if◌then◌else◌}
use Rattle.vg_base.specs.Limits.{text_limit}
use Rattle.vg_syntax.specs.declared.token.Token.{Token}
use Rattle.vg_syntax.specs.declared.grammar.Symbol.{Symbol}
use Rattle.vg_syntax.specs.declared.grammar.Symbol.TheVariants.{Sign, Use}
use Rattle.vg_syntax.specs.declared.grammar.Part.TheVariants as part
use Rattle.vg_syntax.specs.Grammar.{rules}
use Rattle.vg_syntax.specs.Tree.{Node}
use Rattle.vg_syntax.specs.Numbering.{count_nodes}
use Rattle.vg_syntax.specs.Parses.{Parse, Nil, Tok, Sub, leaves, Fits}
use Rattle.vg_syntax.specs.Made.{Value, node_in}
use Rattle.vg_syntax.specs.Reads.{kids_of, values, tree_in, Reads}
use Rattle.vg_grammar.specs.Numbers.{number}
use Rattle.vg_grammar.specs.Looks.{look}
use Rattle.vg_grammar.specs.Tables.{pick, chosen}
use Rattle.vg_grammar.proofs.Checks.{full}
use Rattle.vg_grammar.proofs.Ranked.{rank}
use Rattle.vg_grammar.proofs.Room.{room, room_match, room_any}
use Rattle.vg_grammar.proofs.Rows.{join}
use Rattle.vg_grammar.proofs.Theory.{Stacked, stacked_expand, expanded}
use Rattle.vg_grammar.proofs.Runs.{run_start}
use Rattle.vg_syntax.proofs.Numbering.{count_numbered}
use Rattle.vg_texts.proofs.Values.{size, size_join}
use Rattle.vg_texts.proofs.Few.{weight, kids_weight, node_few, made_few}
use Rattle.vg_texts.proofs.Spelled.{few_tokens}

-- a row of parses has no more tokens and parts than its symbols and tokens have room for
size_room : (fuel : ℕ) (p : Parse) (s : List Symbol) → size p ≤ fuel → Stacked s → Fits p s → size p ≤ room s (leaves p)
size_room fuel Nil s f k h = omega arith
size_room fuel (Tok t p) [] f k h = absurd h
size_room fuel (Tok t p) (Use n ∷ s) f k h = absurd h
size_room fuel (Tok t p) (Sign c ∷ s) f k h =
    let rest = size_room fuel p s (omega (arith, f)) k h.1 in
    let less = room_match c s t (leaves p) h.0 in
    omega (arith, rest, less)
size_room fuel (Sub n a kids p) [] f k h = absurd h
size_room fuel (Sub n a kids p) (Sign c ∷ s) f k h = absurd h
size_room zero (Sub n a kids p) (Use o ∷ s) f k h = absurd (omega (arith, f))
size_room (suc fuel) (Sub n a kids p) (Use o ∷ s) f k h =
    let x = expanded o s k (Sub n a kids p) h in
    let z = size_join x.kids x.behind in
    let w : size x.kids + size x.behind ≡ size kids + size p = ap inner (sym x.is) in
    let rest = size_room fuel (join x.kids x.behind) (x.rhs ++ s) (omega (arith, f, z, w))
    (stacked_expand o s (pick (rules o) (look (leaves (Sub n a kids p)))) x.rhs x.is_chosen k) x.all_fit in
    let same = ap (room (x.rhs ++ s)) x.same_leaves in
    let less = room_any o s x.rhs (leaves (Sub n a kids p)) x.is_chosen in
    omega (arith, rest, same, less, z, w)
  where
    inner : Parse → ℕ
    inner Nil = 0
    inner (Tok t p) = 0
    inner (Sub n a kids p) = size kids + size p

text_room : (ts : List Token) → room (Use part.Text ∷ []) ts ≤ 129 + 128 * length ts
text_room [] = omega arith
text_room (t ∷ rest) = by_cases (full (chosen part.Text (number t.kind)))
  where
    by_cases : (b : Bool) → 1 + 0 + 128 * length rest + (if b then 7 * rank part.Text else 128) ≤ 129 + 128 * suc (length rest)
    by_cases true = omega arith
    by_cases false = omega arith

-- how many nodes there are in a row of values
abbrev total : List Value → ℕ
total [] = 0
total (v ∷ vs) = weight v.made + total vs

kids_total : (vs : List Value) → kids_weight (kids_of vs) ≤ total vs
kids_total [] = omega arith
kids_total (a ∷ []) = omega arith
kids_total (a ∷ b ∷ []) = omega arith
kids_total (a ∷ b ∷ c ∷ []) = omega arith
kids_total (a ∷ b ∷ c ∷ d ∷ []) = omega arith
kids_total (a ∷ b ∷ c ∷ d ∷ e ∷ []) = omega arith
kids_total (a ∷ b ∷ c ∷ d ∷ e ∷ f ∷ vs) = omega arith

-- each token and each part makes at most three
values_total : (bytes : List ℕ) (p : Parse) → total (values bytes p) ≤ 3 * size p
values_total bytes Nil = omega arith
values_total bytes (Tok t p) = let rest = values_total bytes p in omega (arith, rest)
values_total bytes (Sub n a kids p) =
    let inside = values_total bytes kids in
    let rest = values_total bytes p in
    let few = made_few n (kids_of (values bytes kids)) in
    let sum = kids_total (values bytes kids) in
    omega (arith, inside, rest, few, sum)

tree_total : (vs : List Value) → count_nodes (tree_in vs) ≤ total vs
tree_total [] = omega arith
tree_total (v ∷ []) = let x = node_few v.made in let y = count_numbered 0 (node_in v.made) in omega (arith, x, y)
tree_total (v ∷ w ∷ vs) = omega arith

pub few_nodes : (bytes : List ℕ) (tree : Node) → length bytes ≤ text_limit → Reads bytes tree → count_nodes tree < 134217728
few_nodes bytes tree h r =
    let ts = r.0 in
    let p = r.1 in
    let many = size_room (size p) p (Use part.Text ∷ []) (omega arith) (run_start 0).ok r.3.0 in
    let same = ap (room (Use part.Text ∷ [])) r.3.1 in
    let most = text_room ts in
    let few = few_tokens bytes ts r.2 in
    let sum = values_total bytes p in
    let all = tree_total (values bytes p) in
    let is = ap count_nodes r.4 in
    omega (arith, h, many, same, most, few, sum, all, is)
