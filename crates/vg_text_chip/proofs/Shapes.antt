-- In a tree that is read, registers alone stand in devices, and entries alone in the program.
use Rattle.std.proofs.Common.{◌≡◌, ℕ, zero, suc, ◌+◌, List, [], ◌∷◌, Some, sym, subst}
use Rattle.vg_syntax.specs.declared.kind.Kind.{Kind}
use Rattle.vg_syntax.specs.declared.kind.Kind.TheVariants as kind
use Rattle.vg_syntax.specs.declared.grammar.Symbol.{Symbol}
use Rattle.vg_syntax.specs.declared.grammar.Symbol.TheVariants.{Sign, Use}
use Rattle.vg_syntax.specs.declared.grammar.Part.{Part}
use Rattle.vg_syntax.specs.declared.grammar.Part.TheVariants as part
use Rattle.vg_syntax.specs.Grammar.{rules}
use Rattle.vg_syntax.specs.Made.{Made, Word, Value, kind_in, node_in, row_in, text_in}
use Rattle.vg_syntax.specs.Numbering.{count_nodes, numbered}
use Rattle.vg_syntax.specs.Parses.{Parse, Nil, Tok, Sub, Fits, nth}
use Rattle.vg_syntax.specs.Reads.{Reads, values, tree_in, kids_of, made, declared}
use Rattle.vg_syntax.specs.Tree.{Node, Then, Text, DeviceDecl, RegisterDecl, ProgramDecl, EntryDecl}

abbrev IsRegister : Node → Type 0
IsRegister (RegisterDecl at x number) = Unit {0}
IsRegister _ = ⊥

abbrev pub AreRegisters : Node → Type 0
AreRegisters (Then r rest) = IsRegister r × AreRegisters rest
AreRegisters _ = Unit {0}

abbrev IsEntry : Node → Type 0
IsEntry (EntryDecl at key c m) = Unit {0}
IsEntry _ = ⊥

abbrev pub AreEntries : Node → Type 0
AreEntries (Then e rest) = IsEntry e × AreEntries rest
AreEntries _ = Unit {0}

abbrev IsShaped : Node → Type 0
IsShaped (DeviceDecl at d registers) = AreRegisters registers
IsShaped (ProgramDecl at p entries) = AreEntries entries
IsShaped _ = Unit {0}

abbrev pub AreShaped : Node → Type 0
AreShaped (Then d rest) = IsShaped d × AreShaped rest
AreShaped _ = Unit {0}

abbrev pub IsText : Node → Type 0
IsText (Text at ds) = AreShaped ds
IsText _ = Unit {0}

-- ---- what parts make

-- what is known of what a part makes
abbrev Stands : Part → Made → Type 0
Stands part.Text m = IsText (node_in m)
Stands part.Declarations m = AreShaped (row_in m)
Stands part.Declaration m = IsShaped (node_in m)
Stands part.DeviceBody m = AreRegisters (row_in m)
Stands part.Registers m = AreRegisters (row_in m)
Stands part.Register m = IsRegister (node_in m)
Stands part.ProgramBody m = AreEntries (row_in m)
Stands part.Entries m = AreEntries (row_in m)
Stands part.Entry m = IsEntry (node_in m)
Stands _ m = Unit {0}

abbrev IsWord : Kind → Made → Type 0
IsWord k (Word j text) = j ≡ k
IsWord k _ = ⊥

of_kind : (P : Kind → Type 0) (k : Kind) (m : Made) → IsWord k m → P k → P (kind_in m)
of_kind P k (Word j text) w h = subst P (sym w) h
of_kind P k _ w h = absurd w

-- the values are those of the symbols
abbrev AreFor : List Symbol → List Value → Type 0
AreFor [] [] = Unit {0}
AreFor [] (v ∷ vs) = ⊥
AreFor (Sign k ∷ s) [] = ⊥
AreFor (Sign k ∷ s) (v ∷ vs) = IsWord k v.made × AreFor s vs
AreFor (Use n ∷ s) [] = ⊥
AreFor (Use n ∷ s) (v ∷ vs) = Stands n v.made × AreFor s vs

abbrev Takes : List Symbol → (List Value → Type 0) → Type 0
Takes [] P = P []
Takes (Sign k ∷ s) P = (v : Value) → IsWord k v.made → Takes s (λ vs. P (v ∷ vs))
Takes (Use n ∷ s) P = (v : Value) → Stands n v.made → Takes s (λ vs. P (v ∷ vs))

given : (s : List Symbol) (P : List Value → Type 0) → Takes s P → (vs : List Value) → AreFor s vs → P vs
given [] P f [] h = f
given [] P f (v ∷ vs) h = absurd h
given (Sign k ∷ s) P f [] h = absurd h
given (Sign k ∷ s) P f (v ∷ vs) (g, h) = given s (λ ws. P (v ∷ ws)) (f v g) vs h
given (Use n ∷ s) P f [] h = absurd h
given (Use n ∷ s) P f (v ∷ vs) (g, h) = given s (λ ws. P (v ∷ ws)) (f v g) vs h

abbrev Made' : Part → List Value → Type 0
Made' n vs = Stands n (made n (kids_of vs)).made

abbrev All : Part → List (List Symbol) → Type 0
All n [] = Unit {0}
All n (r ∷ rs) = Takes r (Made' n) × All n rs

one_by_one : (n : Part) (rs : List (List Symbol)) → All n rs → (a : ℕ) (rhs : List Symbol) → nth rs a ≡ Some rhs → (vs : List Value) → AreFor rhs vs
    → Made' n vs
one_by_one n [] h a rhs e = cc
one_by_one n (r ∷ rs) (g, h) zero rhs e =
    let f : r ≡ rhs = cc in subst (λ z. (vs : List Value) → AreFor z vs → Made' n vs) f (given r (Made' n) g)
one_by_one n (r ∷ rs) (g, h) (suc a) rhs e = one_by_one n rs h a rhs e

declaration : All part.Declaration (rules part.Declaration)
declaration = (
  (λ w k n l x e b c. tt),
  (
    (λ w k n l b c. of_kind (λ z. IsShaped (declared z w.place (text_in n.made) (row_in b.made))) kind.Component w.made k tt),
    (
      (λ w k n l b c. of_kind (λ z. IsShaped (declared z w.place (text_in n.made) (row_in b.made))) kind.Device w.made k c),
      ((λ w k n l b c. of_kind (λ z. IsShaped (declared z w.place (text_in n.made) (row_in b.made))) kind.Program w.made k c), tt),
    ),
  ),
)

makes : (n : Part) (a : ℕ) (rhs : List Symbol) → nth (rules n) a ≡ Some rhs → (vs : List Value) → AreFor rhs vs → Made' n vs
makes part.Text = one_by_one part.Text (rules part.Text) ((λ d h e g. (h, g)), tt)
makes part.Declarations = one_by_one part.Declarations (rules part.Declarations) ((λ d h e g. (h, g)), (tt, tt))
makes part.Declaration = one_by_one part.Declaration (rules part.Declaration) declaration
makes part.DeviceBody = one_by_one part.DeviceBody (rules part.DeviceBody) ((λ l k r h c e. h), tt)
makes part.Registers = one_by_one part.Registers (rules part.Registers) ((λ r h e g. (h, g)), (tt, tt))
makes part.Register = one_by_one part.Register (rules part.Register) ((λ w k n l a b x c s d. tt), tt)
makes part.ProgramBody = one_by_one part.ProgramBody (rules part.ProgramBody) ((λ l k r h c e. h), tt)
makes part.Entries = one_by_one part.Entries (rules part.Entries) ((λ r h e g. (h, g)), (tt, tt))
makes part.Entry = one_by_one part.Entry (rules part.Entry) ((λ w k n l a b x c s d. tt), tt)
makes _ = λ a rhs e vs h. tt

-- ---- parses

fit : (bytes : List ℕ) (p : Parse) (s : List Symbol) → Fits p s → AreFor s (values bytes p)
fit bytes Nil [] h = tt
fit bytes Nil (x ∷ s) h = absurd h
fit bytes (Tok t p) [] h = absurd h
fit bytes (Tok t p) (Sign k ∷ s) (e, h) = (e, fit bytes p s h)
fit bytes (Tok t p) (Use n ∷ s) h = absurd h
fit bytes (Sub n a kids p) [] h = absurd h
fit bytes (Sub n a kids p) (Sign k ∷ s) h = absurd h
fit bytes (Sub n a kids p) (Use m ∷ s) (e, rhs, f, g, h) = (
  subst (λ z. Stands z (made n (kids_of (values bytes kids))).made) e (makes n a rhs f (values bytes kids) (fit bytes kids rhs g)),
  fit bytes p s h,
)

-- ---- numbers of nodes are nothing to it

registers_numbered : (i : ℕ) (rs : Node) → AreRegisters rs → AreRegisters (numbered i rs)
registers_numbered i (Then (RegisterDecl at x number) rest) (a, h) = (tt, registers_numbered (i + count_nodes (RegisterDecl at x number)) rest h)
registers_numbered i (Then _ rest) (a, h) = absurd a
registers_numbered i _ h = tt

entries_numbered : (i : ℕ) (es : Node) → AreEntries es → AreEntries (numbered i es)
entries_numbered i (Then (EntryDecl at key c m) rest) (a, h) = (tt, entries_numbered (i + count_nodes (EntryDecl at key c m)) rest h)
entries_numbered i (Then _ rest) (a, h) = absurd a
entries_numbered i _ h = tt

one_numbered : (i : ℕ) (d : Node) → IsShaped d → IsShaped (numbered i d)
one_numbered i (DeviceDecl at d registers) h = registers_numbered (i + 1) registers h
one_numbered i (ProgramDecl at p entries) h = entries_numbered (i + 1) entries h
one_numbered i _ h = tt

shaped_numbered : (i : ℕ) (ds : Node) → AreShaped ds → AreShaped (numbered i ds)
shaped_numbered i (Then d rest) (a, h) = (one_numbered i d a, shaped_numbered (i + count_nodes d) rest h)
shaped_numbered i _ h = tt

text_numbered : (i : ℕ) (text : Node) → IsText text → IsText (numbered i text)
text_numbered i (Text at ds) h = shaped_numbered (i + 1) ds h
text_numbered i _ h = tt

whole : (vs : List Value) → AreFor (Use part.Text ∷ []) vs → IsText (tree_in vs)
whole [] h = absurd h
whole (v ∷ []) (g, h) = text_numbered 0 (node_in v.made) g
whole (v ∷ w ∷ vs) (g, h) = absurd h

pub text_shaped : (bytes : List ℕ) (tree : Node) → Reads bytes tree → IsText tree
text_shaped bytes tree (ts, p, tokens, (fits, leaves_are), e) = subst IsText e (whole (values bytes p) (fit bytes p (Use part.Text ∷ []) fits))
