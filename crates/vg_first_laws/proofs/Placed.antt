-- The tree of a program of constants: its nodes have the numbers in order, and its places are those of a list. A row of assignments takes five places
-- for each, one of registers takes one; what stands before a row and behind it is put around its places.
use Rattle.std.proofs.Common.{◌≡◌, ℕ, zero, suc, ◌+◌, List, [], ◌∷◌, ◌++◌, length, refl, sym, ap, ◌∙◌, arith, append_assoc}
use Rattle.std.proofs.lemmas.List.{length-append}
use Rattle.vg_base.specs.declared.place.Place.{Place}
use Rattle.vg_syntax.specs.Tree.{Spot, Node, Nothing, Then, Text, ComponentDecl, DeviceDecl, RegisterDecl, ProgramDecl, EntryDecl, MethodDecl, Block, Assign}
use Rattle.vg_syntax.specs.Tree.{Number, Name, Postfix, Member, NoType}
use Rattle.vg_syntax.specs.Numbering.{count_nodes, with_id, numbered}
use Rattle.vg_syntax.specs.Made.{node_in}
use Rattle.vg_syntax.specs.Reads.{spot, values, tree_in, Reads}
use Rattle.vg_texts.proofs.Values.{one_tree}
use Rattle.vg_first_text.specs.declared.device_write.DeviceWrite.{DeviceWrite}
use Rattle.vg_first_text.specs.FirstText.{First, FirstAssignment, FirstRegister, IsFirst}
use Rattle.vg_first_laws.specs.Trees.{assignment_node, assignment_row, register_row, first_tree}
use Rattle.vg_first_laws.proofs.Nodes.{AreAssigns, AreRegisterDecls, IsFirstNode}
use Rattle.vg_first_laws.proofs.Parts.{parsed}

-- ---- places by number

abbrev pub place_in : List Place → ℕ → Place
place_in [] i = record { line = 1; col = 1 }
place_in (p ∷ ps) zero = p
place_in (p ∷ ps) (suc i) = place_in ps i

abbrev pub spots_of : List Place → ℕ → Spot
spots_of ps i = record { id = i; place = place_in ps i }

place_behind : (front ps : List Place) (j : ℕ) → place_in (front ++ ps) (length front + j) ≡ place_in ps j
place_behind [] ps j = let e : 0 + j ≡ j = omega arith in ap (place_in ps) e
place_behind (p ∷ front) ps j =
    let e : suc (length front) + j ≡ suc (length front + j) = omega arith in
    ap (place_in (p ∷ (front ++ ps))) e ∙ place_behind front ps j

-- the spot of the node of number i, which stands j places behind a front
spot_is : (front ps : List Place) (i j : ℕ) → i ≡ length front + j → (p : Place) → p ≡ place_in ps j → with_id i (spot p) ≡ spots_of (front ++ ps) i
spot_is front ps i j e p is =
    ap (λ q. record { id = i; place = q }) (is ∙ sym (place_behind front ps j) ∙ ap (place_in (front ++ ps)) (sym e))

-- ---- assignments

abbrev pub places_of : (xs : List FirstAssignment) (n : Node) → AreAssigns xs n → List Place
places_of [] n h = []
places_of (a ∷ xs) n (m, others, e, (p, q, r, s, t, is), h) = p ∷ q ∷ r ∷ s ∷ t ∷ places_of xs others h

pub assigns_count : (xs : List FirstAssignment) (n : Node) (h : AreAssigns xs n) → count_nodes n ≡ length (places_of xs n h)
assigns_count [] n h = ap count_nodes h
assigns_count (a ∷ xs) n (m, others, e, (p, q, r, s, t, is), h) =
    let one : count_nodes m ≡ 5 = ap count_nodes is in
    let all : count_nodes n ≡ count_nodes m + count_nodes others = ap count_nodes e in
    let rest = assigns_count xs others h in
    omega (arith, one, all, rest)

five : (a : FirstAssignment) (p q r s t p' q' r' s' t' : Spot) → p ≡ p' → q ≡ q' → r ≡ r' → s ≡ s' → t ≡ t'
    → Assign p (Postfix q (Name r a.device) (Then (Member s a.register) Nothing)) (Number t a.digits)
    ≡ Assign p' (Postfix q' (Name r' a.device) (Then (Member s' a.register) Nothing)) (Number t' a.digits)
five a p q r s t p' q' r' s' t' e f g h k = cc

then_same : (a b c d : Node) → a ≡ c → b ≡ d → Then a b ≡ Then c d
then_same a b c d e f = cc

numbered_assign : (front ps : List Place) (k : ℕ) → k ≡ length front → (a : FirstAssignment) (p q r s t : Place)
    → numbered k (Assign (spot p) (Postfix (spot q) (Name (spot r) a.device) (Then (Member (spot s) a.register) Nothing)) (Number (spot t) a.digits))
    ≡ assignment_node (spots_of (front ++ (p ∷ q ∷ r ∷ s ∷ t ∷ ps))) k a
numbered_assign front ps k e a p q r s t =
    let l : List Place = p ∷ q ∷ r ∷ s ∷ t ∷ ps in
    let two : k + 1 + 1 ≡ k + 2 = omega arith in
    let three : k + 1 + 1 + 1 ≡ k + 3 = omega arith in
    let four : k + 1 + 3 ≡ k + 4 = omega arith in
    five a _ _ _ _ _ _ _ _ _ _
    (spot_is front l k 0 (omega (arith, e)) p refl)
    (spot_is front l (k + 1) 1 (omega (arith, e)) q refl)
    (ap (λ i. with_id i (spot r)) two ∙ spot_is front l (k + 2) 2 (omega (arith, e)) r refl)
    (ap (λ i. with_id i (spot s)) three ∙ spot_is front l (k + 3) 3 (omega (arith, e)) s refl)
    (ap (λ i. with_id i (spot t)) four ∙ spot_is front l (k + 4) 4 (omega (arith, e)) t refl)

pub numbered_assigns : (xs : List FirstAssignment) (n : Node) (h : AreAssigns xs n) (front back : List Place) (k : ℕ) → k ≡ length front
    → numbered k n ≡ assignment_row (spots_of (front ++ (places_of xs n h ++ back))) k xs
numbered_assigns [] n h front back k e = ap (numbered k) h
numbered_assigns (a ∷ xs) n (m, others, is, (p, q, r, s, t, so), h) front back k e =
    let here : List Place = p ∷ q ∷ r ∷ s ∷ t ∷ [] in
    let more : List Place = places_of xs others h ++ back in
    let next : k + 5 ≡ length (front ++ here) = let g = length-append front here in omega (arith, e, g) in
    let same : (front ++ here) ++ more ≡ front ++ (here ++ more) = append_assoc front here more in
    ap (numbered k) (is ∙ ap (λ x. Then x others) so)
    ∙ then_same _ _ _ _ (numbered_assign front more k e a p q r s t)
    (numbered_assigns xs others h (front ++ here) back (k + 5) next ∙ ap (λ l. assignment_row (spots_of l) (k + 5) xs) same)

-- ---- registers

abbrev pub places_at : (rs : List FirstRegister) (n : Node) → AreRegisterDecls rs n → List Place
places_at [] n h = []
places_at (r ∷ rs) n (m, others, e, (p, is), h) = p ∷ places_at rs others h

pub registers_count : (rs : List FirstRegister) (n : Node) (h : AreRegisterDecls rs n) → count_nodes n ≡ length (places_at rs n h)
registers_count [] n h = ap count_nodes h
registers_count (r ∷ rs) n (m, others, e, (p, is), h) =
    let one : count_nodes m ≡ 1 = ap count_nodes is in
    let all : count_nodes n ≡ count_nodes m + count_nodes others = ap count_nodes e in
    let rest = registers_count rs others h in
    omega (arith, one, all, rest)

pub numbered_registers : (rs : List FirstRegister) (n : Node) (h : AreRegisterDecls rs n) (front back : List Place) (k : ℕ) → k ≡ length front
    → numbered k n ≡ register_row (spots_of (front ++ (places_at rs n h ++ back))) k rs
numbered_registers [] n h front back k e = ap (numbered k) h
numbered_registers (r ∷ rs) n (m, others, is, (p, so), h) front back k e =
    let here : List Place = p ∷ [] in
    let more : List Place = places_at rs others h ++ back in
    let next : k + 1 ≡ length (front ++ here) = let g = length-append front here in omega (arith, e, g) in
    let same : (front ++ here) ++ more ≡ front ++ (here ++ more) = append_assoc front here more in
    ap (numbered k) (is ∙ ap (λ x. Then x others) so)
    ∙ then_same _ _ _ _ (ap (λ i. RegisterDecl i r.name r.digits) (spot_is front (p ∷ more) k 0 (omega (arith, e)) p refl))
    (numbered_registers rs others h (front ++ here) back (k + 1) next ∙ ap (λ l. register_row (spots_of l) (k + 1) rs) same)

-- ---- the whole text

-- the tree is that of a program of constants, wherever its nodes stand
abbrev pub IsPlaced : First → Node → Type 0
IsPlaced f tree = (at : ℕ → Spot) × (device program : ℕ) × (tree ≡ first_tree at device program f)

three_same : (s : Spot) (a b c x y z : Node) → a ≡ x → b ≡ y → c ≡ z → Text s (Then a (Then b (Then c Nothing))) ≡ Text s (Then x (Then y (Then z Nothing)))
three_same s a b c x y z e f g = cc

-- the numbers of a text's three declarations, and of what stands in them, are put in place one by one
placed : (f : First) (n : Node) → IsFirstNode f n → IsPlaced f (numbered 0 n)
placed f n
    (p, c, d, g, is, (cp, mp, bp, row, is_component, assigns), (dp, rows, is_device, registers), (gp, ep, is_program)) =
    let ps : List Place = places_of f.assignments row assigns in
    let rs : List Place = places_at f.registers rows registers in
    let tail : List Place = gp ∷ ep ∷ [] in
    let behind : List Place = dp ∷ (rs ++ tail) in
    let all : List Place = p ∷ cp ∷ mp ∷ bp ∷ (ps ++ behind) in
    let device : ℕ = 4 + length ps in
    let program : ℕ = device + 1 + length rs in
    let row_is : numbered 4 row ≡ assignment_row (spots_of all) 4 f.assignments =
    numbered_assigns f.assignments row assigns (p ∷ cp ∷ mp ∷ bp ∷ []) behind 4 refl in
    let row_count = assigns_count f.assignments row assigns in
    let rows_count = registers_count f.registers rows registers in
    let front : List Place = p ∷ cp ∷ mp ∷ bp ∷ ps in
    let front_length : device ≡ length front = omega arith in
    let front_device : List Place = front ++ (dp ∷ []) in
    let front_device_length : device + 1 ≡ length front_device = let e = length-append front (dp ∷ []) in omega (arith, e) in
    let front_device_same : front_device ++ (rs ++ tail) ≡ all = append_assoc front (dp ∷ []) (rs ++ tail) in
    let front_program : List Place = front_device ++ rs in
    let front_program_length : program ≡ length front_program = let e = length-append front_device rs in let e2 = length-append front (dp ∷ []) in omega (arith, e, e2) in
    let front_program_same : front_program ++ tail ≡ all = append_assoc front_device rs tail ∙ front_device_same in
    let rows_is : numbered (device + 1) rows ≡ register_row (spots_of all) (device + 1) f.registers =
    numbered_registers f.registers rows registers front_device tail (device + 1) front_device_length
    ∙ ap (λ l. register_row (spots_of l) (device + 1) f.registers) front_device_same in
    let device_spot : with_id device (spot dp) ≡ spots_of all device = spot_is front behind device 0 (omega (arith, front_length)) dp refl in
    let program_spot : with_id program (spot gp) ≡ spots_of all program =
    spot_is front_program tail program 0 (omega (arith, front_program_length)) gp refl ∙ ap (λ l. spots_of l program) front_program_same in
    let entry_spot : with_id (program + 1) (spot ep) ≡ spots_of all (program + 1) =
    spot_is front_program tail (program + 1) 1 (omega (arith, front_program_length)) ep refl ∙ ap (λ l. spots_of l (program + 1)) front_program_same in
    let c_count : count_nodes c ≡ 3 + length ps = ap count_nodes is_component ∙ omega (arith, row_count) in
    let d_count : count_nodes d ≡ 1 + length rs = ap count_nodes is_device ∙ omega (arith, rows_count) in
    let c_is : numbered 1 c ≡ ComponentDecl (spots_of all 1) f.component
    (Then (MethodDecl (spots_of all 2) f.method [] NoType (Block (spots_of all 3) (assignment_row (spots_of all) 4 f.assignments))) Nothing) =
    ap (numbered 1) is_component
    ∙ ap (λ x. ComponentDecl (spots_of all 1) f.component (Then (MethodDecl (spots_of all 2) f.method [] NoType (Block (spots_of all 3) x)) Nothing)) row_is in
    let d_at : 1 + count_nodes c ≡ device = omega (arith, c_count) in
    let d_is : numbered (1 + count_nodes c) d ≡ DeviceDecl (spots_of all device) f.device (register_row (spots_of all) (device + 1) f.registers) =
    ap (λ i. numbered i d) d_at ∙ ap (numbered device) is_device
    ∙ ap (λ s. DeviceDecl s f.device (numbered (device + 1) rows)) device_spot ∙ ap (DeviceDecl (spots_of all device) f.device) rows_is in
    let g_at : 1 + count_nodes c + count_nodes d ≡ program = omega (arith, c_count, d_count) in
    let g_is : numbered (1 + count_nodes c + count_nodes d) g
    ≡ ProgramDecl (spots_of all program) f.program (Then (EntryDecl (spots_of all (program + 1)) f.key f.entry_component f.entry_method) Nothing) =
    ap (λ i. numbered i g) g_at ∙ ap (numbered program) is_program
    ∙ ap (λ s. ProgramDecl s f.program (Then (EntryDecl (with_id (program + 1) (spot ep)) f.key f.entry_component f.entry_method) Nothing)) program_spot
    ∙ ap (λ s. ProgramDecl (spots_of all program) f.program (Then (EntryDecl s f.key f.entry_component f.entry_method) Nothing)) entry_spot in
    (spots_of all, device, program, ap (numbered 0) is ∙ three_same (spots_of all 0) _ _ _ _ _ _ c_is d_is g_is)

-- the one tree of the text of a program of constants
pub tree_is_placed : (bytes : List ℕ) (writes : List DeviceWrite) (tree : Node) (h : IsFirst bytes writes) → Reads bytes tree → IsPlaced h.first tree
tree_is_placed bytes writes tree h reads =
    let (p, parse, (v, rest, e, (n, is, shape), none)) = parsed bytes h.tokens h.first h.spelled in
    let made_is : tree_in (values bytes p) ≡ numbered 0 n = ap tree_in (e ∙ ap (λ l. v ∷ l) none) ∙ ap (λ m. numbered 0 (node_in m)) is in
    let (at, device, program, same) = placed h.first n shape in
    (at, device, program, one_tree bytes tree (numbered 0 n) reads (h.tokens, p, h.are_tokens, parse, made_is) ∙ same)
