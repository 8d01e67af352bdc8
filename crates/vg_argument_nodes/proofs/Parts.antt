-- What each part of the grammar makes.
use Rattle.std.proofs.Common.{◌≡◌, ℕ, zero, suc, List, [], ◌∷◌, Some, refl, sym, subst}
use Rattle.vg_base.specs.declared.place.Place.{Place}
use Rattle.vg_syntax.specs.declared.kind.Kind.{Kind}
use Rattle.vg_syntax.specs.declared.kind.Kind.TheVariants as kind
use Rattle.vg_syntax.specs.declared.grammar.Symbol.{Symbol}
use Rattle.vg_syntax.specs.declared.grammar.Symbol.TheVariants.{Sign, Use}
use Rattle.vg_syntax.specs.declared.grammar.Part.{Part}
use Rattle.vg_syntax.specs.declared.grammar.Part.TheVariants as part
use Rattle.vg_syntax.specs.Grammar.{rules}
use Rattle.vg_syntax.specs.Parses.{nth}
use Rattle.vg_syntax.specs.Made.{Made, Word, Tree, Row, Sized, Object, Array, Value, text_in, kind_in, node_in, row_in}
use Rattle.vg_syntax.specs.Reads as reads
use Rattle.vg_syntax.specs.Reads.{Zero, One, Two, Three, kids_of, made, spot, value}
use Rattle.vg_syntax.specs.Tree.{Node, Nothing, Then, NewObject, NewArray}
use Rattle.vg_argument_nodes.specs.Arguments.{IsNode, AreNodes, ArgumentsAreNodes}
use Rattle.vg_argument_nodes.proofs.Kept.{Kept, KeptKids, Keeps, node_kept, row_kept, suffixes_kept}
use Rattle.vg_argument_nodes.proofs.Kept as kept

-- it is one node
abbrev IsOne : Made → Type 0
IsOne m = Kept m × IsNode (node_in m)

-- it is a row of nodes
abbrev IsRow : Made → Type 0
IsRow m = Kept m × AreNodes (row_in m)

-- what stands behind a name behind `new`
abbrev IsBehind : Made → Type 0
IsBehind (Object n a s) = Unit {0}
IsBehind (Sized n e s) = Unit {0}
IsBehind _ = ⊥

abbrev IsNew : Made → Type 0
IsNew (Object n a s) = Unit {0}
IsNew (Array t e s) = Unit {0}
IsNew _ = ⊥

-- what is known of what a part makes
abbrev pub Good : Part → Made → Type 0
Good part.Expression m = IsOne m
Good part.AndLevel m = IsOne m
Good part.EqualityLevel m = IsOne m
Good part.ComparisonLevel m = IsOne m
Good part.BitOrLevel m = IsOne m
Good part.BitXorLevel m = IsOne m
Good part.BitAndLevel m = IsOne m
Good part.ShiftLevel m = IsOne m
Good part.ConcatLevel m = IsOne m
Good part.SumLevel m = IsOne m
Good part.ProductLevel m = IsOne m
Good part.CastLevel m = IsOne m
Good part.Unary m = IsOne m
Good part.Postfix m = IsOne m
Good part.Primary m = IsOne m
Good part.Index m = IsOne m
Good part.Arguments m = IsRow m
Good part.ArgumentList m = IsRow m
Good part.MoreArguments m = IsRow m
Good part.New m = Kept m × IsNew m
Good part.NewOfName m = Kept m × IsBehind m
Good _ m = Kept m

is_good : (n : Part) (m : Made) → Good n m → Kept m
is_good part.Expression m (g, h) = g
is_good part.AndLevel m (g, h) = g
is_good part.EqualityLevel m (g, h) = g
is_good part.ComparisonLevel m (g, h) = g
is_good part.BitOrLevel m (g, h) = g
is_good part.BitXorLevel m (g, h) = g
is_good part.BitAndLevel m (g, h) = g
is_good part.ShiftLevel m (g, h) = g
is_good part.ConcatLevel m (g, h) = g
is_good part.SumLevel m (g, h) = g
is_good part.ProductLevel m (g, h) = g
is_good part.CastLevel m (g, h) = g
is_good part.Unary m (g, h) = g
is_good part.Postfix m (g, h) = g
is_good part.Primary m (g, h) = g
is_good part.Index m (g, h) = g
is_good part.Arguments m (g, h) = g
is_good part.ArgumentList m (g, h) = g
is_good part.MoreArguments m (g, h) = g
is_good part.New m (g, h) = g
is_good part.NewOfName m (g, h) = g
is_good _ m h = h

-- ---- rows of values

abbrev IsWord : Kind → Made → Type 0
IsWord k (Word j text) = j ≡ k
IsWord k _ = ⊥

kind_is : (k : Kind) (m : Made) → IsWord k m → kind_in m ≡ k
kind_is k (Word j text) e = e
kind_is k _ h = absurd h

word_kept : (k : Kind) (m : Made) → IsWord k m → Kept m
word_kept k (Word j text) e = tt
word_kept k _ h = absurd h

-- the values are those of the symbols
abbrev pub AreFor : List Symbol → List Value → Type 0
AreFor [] [] = Unit {0}
AreFor [] (v ∷ vs) = ⊥
AreFor (Sign k ∷ s) [] = ⊥
AreFor (Sign k ∷ s) (v ∷ vs) = IsWord k v.made × AreFor s vs
AreFor (Use n ∷ s) [] = ⊥
AreFor (Use n ∷ s) (v ∷ vs) = Good n v.made × AreFor s vs

abbrev Takes : List Symbol → (List Value → Type 0) → Type 0
Takes [] P = P []
Takes (Sign k ∷ s) P = (v : Value) → IsWord k v.made → Takes s (λ vs. P (v ∷ vs))
Takes (Use n ∷ s) P = (v : Value) → Good n v.made → Takes s (λ vs. P (v ∷ vs))

given : (s : List Symbol) (P : List Value → Type 0) → Takes s P → (vs : List Value) → AreFor s vs → P vs
given [] P f [] h = f
given [] P f (v ∷ vs) h = absurd h
given (Sign k ∷ s) P f [] h = absurd h
given (Sign k ∷ s) P f (v ∷ vs) (g, h) = given s (λ ws. P (v ∷ ws)) (f v g) vs h
given (Use n ∷ s) P f [] h = absurd h
given (Use n ∷ s) P f (v ∷ vs) (g, h) = given s (λ ws. P (v ∷ ws)) (f v g) vs h

-- a part makes what is known of it
abbrev Made' : Part → List Value → Type 0
Made' n vs = Good n (made n (kids_of vs)).made

abbrev Makes : Part → Type 0
Makes n = (a : ℕ) (rhs : List Symbol) → nth (rules n) a ≡ Some rhs → (vs : List Value) → AreFor rhs vs → Made' n vs

abbrev All : Part → List (List Symbol) → Type 0
All n [] = Unit {0}
All n (r ∷ rs) = Takes r (Made' n) × All n rs

one_by_one : (n : Part) (rs : List (List Symbol)) → All n rs → (a : ℕ) (rhs : List Symbol) → nth rs a ≡ Some rhs
    → (vs : List Value) → AreFor rhs vs → Made' n vs
one_by_one n [] h a rhs e = cc
one_by_one n (r ∷ rs) (g, h) zero rhs e =
    let f : r ≡ rhs = cc in
    subst (λ z. (vs : List Value) → AreFor z vs → Made' n vs) f (given r (Made' n) g)
one_by_one n (r ∷ rs) (g, h) (suc a) rhs e = one_by_one n rs h a rhs e

-- ---- parts that keep arguments as they are

abbrev KeptRow : List Value → Type 0
KeptRow [] = Unit {0}
KeptRow (v ∷ vs) = Kept v.made × KeptRow vs

kept_row : (s : List Symbol) (vs : List Value) → AreFor s vs → KeptRow vs
kept_row [] [] h = tt
kept_row [] (v ∷ vs) h = absurd h
kept_row (Sign k ∷ s) [] h = absurd h
kept_row (Sign k ∷ s) (v ∷ vs) (g, h) = (word_kept k v.made g, kept_row s vs h)
kept_row (Use n ∷ s) [] h = absurd h
kept_row (Use n ∷ s) (v ∷ vs) (g, h) = (is_good n v.made g, kept_row s vs h)

kept_kids : (vs : List Value) → KeptRow vs → KeptKids (kids_of vs)
kept_kids [] h = tt
kept_kids (a ∷ []) (f, h) = f
kept_kids (a ∷ b ∷ []) (f, (g, h)) = (f, g)
kept_kids (a ∷ b ∷ c ∷ []) (f, (g, (i, h))) = (f, g, i)
kept_kids (a ∷ b ∷ c ∷ d ∷ []) (f, (g, (i, (j, h)))) = (f, g, i, j)
kept_kids (a ∷ b ∷ c ∷ d ∷ e ∷ []) (f, (g, (i, (j, (k, h))))) = (f, g, i, j, k)
kept_kids (a ∷ b ∷ c ∷ d ∷ e ∷ x ∷ vs) h = tt

through : (n : Part) → Keeps (made n) → (a : ℕ) (rhs : List Symbol) → nth (rules n) a ≡ Some rhs
    → (vs : List Value) → AreFor rhs vs → Kept (made n (kids_of vs)).made
through n k a rhs e vs h = k (kids_of vs) (kept_kids vs (kept_row rhs vs h))

-- ---- expressions

of_kind : (P : Kind → Type 0) (k : Kind) (m : Made) → IsWord k m → P k → P (kind_in m)
of_kind P k m w h = subst P (sym (kind_is k m w)) h

-- what is one node is no row, and no word
node_rows : (m : Made) → IsNode (node_in m) → AreNodes (row_in m)
node_rows (Tree n) h = tt
node_rows _ h = absurd h

word_rows : (k : Kind) (m : Made) → IsWord k m → AreNodes (row_in m)
word_rows k (Word j text) e = tt
word_rows k _ h = absurd h

node_kind : (m : Made) → IsNode (node_in m) → kind_in m ≡ kind.Unknown
node_kind (Tree n) h = refl
node_kind _ h = absurd h

chained : (a : Value) (parts : Node) → IsOne a.made → ArgumentsAreNodes parts → IsOne (reads.chained a parts).made
chained a Nothing g h = g
chained a parts g h = ((node_kept a.made g.0, h), tt)

level : (a b : Value) → IsOne a.made → Kept b.made → IsOne (reads.level (Two a b)).made
level a b g h = chained a (row_in b.made) g (row_kept b.made h)

suffixed : (a : Value) (suffixes : Node) → IsOne a.made → ArgumentsAreNodes suffixes → IsOne (reads.suffixed a suffixes).made
suffixed a Nothing g h = g
suffixed a suffixes g h = ((node_kept a.made g.0, h), tt)

fresh : (p : Place) (m : Made) → Kept m → IsNew m → IsOne (reads.fresh p m).made
fresh p (Object name arguments suffixes) (g, h) i = suffixed (value p (Tree (NewObject (spot p) name arguments))) suffixes (g, tt) h
fresh p (Array element size suffixes) (g, h) i = suffixed (value p (Tree (NewArray (spot p) element size))) suffixes (g, tt) h
fresh p _ g i = absurd i

postfix : (a b : Value) → IsOne a.made → Kept b.made → IsOne (reads.postfix (Two a b)).made
postfix a b g h =
    subst (λ z. IsOne (reads.postfix_of z a b).made) (sym (node_kind a.made g.1)) (suffixed a (row_in b.made) g (row_kept b.made h))

suffix_of : (p : Place) (m : Made) → Kept m → AreNodes (row_in m) → ArgumentsAreNodes (reads.suffix_of p m)
suffix_of p (Row arguments) g h = (h, g)
suffix_of p m g h = node_kept m g

level_or_suffix : (p : Place) (a b : Made) → Kept a → AreNodes (row_in a) → Kept b → Kept (reads.level_or_suffix p a b)
level_or_suffix p (Row arguments) rest g i h = ((i, g), row_kept rest h)
level_or_suffix p bracket b g i h = kept.bracketed p b h

behind_name : (a b : Made) → Kept a → Kept b → Kept (reads.behind_name a b) × IsBehind (reads.behind_name a b)
behind_name (Row arguments) b g h = ((g, row_kept b h), tt)
behind_name size b g h = ((node_kept size g, suffixes_kept b h), tt)

named : (name : List ℕ) (m : Made) → Kept m → IsBehind m → Kept (reads.named name m) × IsNew (reads.named name m)
named name (Object n arguments behind) h i = (h, tt)
named name (Sized n size behind) h i = (h, tt)
named name _ h i = absurd i

literal : (k : Kind) (p : Place) (text : List ℕ) → IsOne (Tree (reads.literal k p text))
literal kind.Number p text = (tt, tt)
literal kind.CharLiteral p text = (tt, tt)
literal kind.StringLiteral p text = (tt, tt)
literal kind.True p text = (tt, tt)
literal kind.False p text = (tt, tt)
literal kind.Null p text = (tt, tt)
literal kind.This p text = (tt, tt)
literal _ p text = (tt, tt)

word : (w : Value) → IsOne (reads.primary (One w)).made
word w = literal (kind_in w.made) w.place (text_in w.made)

row_of : (a b : Value) → IsOne a.made → IsRow b.made → IsRow (Row (Then (node_in a.made) (row_in b.made)))
row_of a b g h = ((node_kept a.made g.0, row_kept b.made h.0), (g.1, h.1))

operated : (w ops a : Value) → IsOne a.made → IsOne (reads.unary (Three w ops a)).made
operated w ops a g = (node_kept a.made g.0, tt)

unary_rules : All part.Unary (rules part.Unary)
unary_rules = (
  (λ w k ops f a g. operated w ops a g),
  (
    (λ w k ops f a g. operated w ops a g),
    (
      (λ w k ops f a g. operated w ops a g),
      ((λ a g. g), tt),
    ),
  ),
)

postfix_rules : All part.Postfix (rules part.Postfix)
postfix_rules = (
  (λ a g b h. postfix a b g h),
  ((λ w k b h. of_kind (λ z. IsOne (reads.postfix_of z w b).made) kind.New w.made k (fresh w.place b.made h.0 h.1)), tt),
)

suffixes_rules : All part.Suffixes (rules part.Suffixes)
suffixes_rules = (
  (λ d k w l b h. (tt, row_kept b.made h)),
  (
    (λ a g b h. (suffix_of a.place a.made g.0 (node_rows a.made g.1), row_kept b.made h)),
    (
      (λ a g b h. (suffix_of a.place a.made g.0 g.1, row_kept b.made h)),
      (tt, tt),
    ),
  ),
)

new_rules : All part.New (rules part.New)
new_rules = (
  (λ w k b h. named (text_in w.made) b.made h.0 h.1),
  ((λ t f a g b h. ((node_kept a.made g.0, suffixes_kept b.made h), tt)), tt),
)

new_of_name_rules : All part.NewOfName (rules part.NewOfName)
new_of_name_rules = (
  (λ a g b h. behind_name a.made b.made g.0 h),
  ((λ a g b h. behind_name a.made b.made g.0 h), tt),
)

new_levels_rules : All part.NewLevels (rules part.NewLevels)
new_levels_rules = (
  (λ d k w l b h. (tt, row_kept b.made h)),
  (
    (λ a g b h. level_or_suffix a.place a.made b.made g.0 g.1 h),
    (
      (λ w k b h. level_or_suffix w.place w.made b.made (word_kept kind.LeftBracket w.made k) (word_rows kind.LeftBracket w.made k) h),
      (tt, tt),
    ),
  ),
)

primary_rules : All part.Primary (rules part.Primary)
primary_rules = (
  (λ w k. word w),
  (
    (λ w k. word w),
    (
      (λ w k. word w),
      (
        (λ w k. word w),
        (
          (λ w k. word w),
          (
            (λ w k. word w),
            (
              (λ w k. word w),
              (
                (λ w k. word w),
                ((λ l k e g r j. g), tt),
              ),
            ),
          ),
        ),
      ),
    ),
  ),
)

pub makes : (n : Part) → Makes n
makes part.Block = through part.Block kept.block
makes part.Statement = through part.Statement kept.statement
makes part.ElseArm = through part.ElseArm kept.else_arm
makes part.Text = through part.Text kept.whole
makes part.Declarations = through part.Declarations kept.rowed
makes part.Declaration = through part.Declaration kept.declaration
makes part.ClassBody = through part.ClassBody kept.enclosed
makes part.Members = through part.Members kept.rowed
makes part.Member = through part.Member kept.member
makes part.Statements = through part.Statements kept.rowed
makes part.Else = through part.Else kept.else_part
makes part.Simple = through part.Simple kept.simple
makes part.MaybeSimple = through part.MaybeSimple kept.optional
makes part.Extends = through part.Extends kept.extended
makes part.DeviceBody = through part.DeviceBody kept.enclosed
makes part.Registers = through part.Registers kept.rowed
makes part.Register = through part.Register kept.register
makes part.ProgramBody = through part.ProgramBody kept.enclosed
makes part.Entries = through part.Entries kept.rowed
makes part.Entry = through part.Entry kept.entry
makes part.Key = through part.Key kept.optional
makes part.Handler = through part.Handler kept.handler
makes part.Initial = through part.Initial kept.behind_sign
makes part.Result = through part.Result kept.result_type
makes part.SuperCall = through part.SuperCall kept.super_call
makes part.Parameters = through part.Parameters kept.enclosed
makes part.ParameterList = through part.ParameterList kept.parameters
makes part.MoreParameters = through part.MoreParameters kept.more_parameters
makes part.Typed = through part.Typed kept.typed
makes part.Type = through part.Type kept.type_of
makes part.TypeArguments = through part.TypeArguments kept.enclosed
makes part.TypeList = through part.TypeList kept.types
makes part.MoreTypes = through part.MoreTypes kept.more_types
makes part.PlainResult = through part.PlainResult kept.result_type
makes part.Plain = through part.Plain kept.plain
makes part.Dimensions = through part.Dimensions kept.dimensions
makes part.Atom = through part.Atom kept.atom
makes part.OtherAtom = through part.OtherAtom kept.other_atom
makes part.Condition = through part.Condition kept.enclosed
makes part.ForHeader = through part.ForHeader kept.header
makes part.ForTest = through part.ForTest kept.enclosed
makes part.MaybeExpression = through part.MaybeExpression kept.optional
makes part.Assigned = through part.Assigned kept.behind_sign
makes part.Expression = one_by_one part.Expression (rules part.Expression) ((λ a g b h. level a b g h), tt)
makes part.OrRest = through part.OrRest kept.rest_of_level
makes part.AndLevel = one_by_one part.AndLevel (rules part.AndLevel) ((λ a g b h. level a b g h), tt)
makes part.AndRest = through part.AndRest kept.rest_of_level
makes part.EqualityLevel = one_by_one part.EqualityLevel (rules part.EqualityLevel) ((λ a g b h. level a b g h), tt)
makes part.EqualityRest = through part.EqualityRest kept.rest_of_level
makes part.ComparisonLevel = one_by_one part.ComparisonLevel (rules part.ComparisonLevel) ((λ a g b h. level a b g h), tt)
makes part.ComparisonRest = through part.ComparisonRest kept.rest_of_level
makes part.BitOrLevel = one_by_one part.BitOrLevel (rules part.BitOrLevel) ((λ a g b h. level a b g h), tt)
makes part.BitOrRest = through part.BitOrRest kept.rest_of_level
makes part.BitXorLevel = one_by_one part.BitXorLevel (rules part.BitXorLevel) ((λ a g b h. level a b g h), tt)
makes part.BitXorRest = through part.BitXorRest kept.rest_of_level
makes part.BitAndLevel = one_by_one part.BitAndLevel (rules part.BitAndLevel) ((λ a g b h. level a b g h), tt)
makes part.BitAndRest = through part.BitAndRest kept.rest_of_level
makes part.ShiftLevel = one_by_one part.ShiftLevel (rules part.ShiftLevel) ((λ a g b h. level a b g h), tt)
makes part.ShiftRest = through part.ShiftRest kept.rest_of_level
makes part.ConcatLevel = one_by_one part.ConcatLevel (rules part.ConcatLevel) ((λ a g b h. level a b g h), tt)
makes part.ConcatRest = through part.ConcatRest kept.rest_of_level
makes part.SumLevel = one_by_one part.SumLevel (rules part.SumLevel) ((λ a g b h. level a b g h), tt)
makes part.SumRest = through part.SumRest kept.rest_of_level
makes part.ProductLevel = one_by_one part.ProductLevel (rules part.ProductLevel) ((λ a g b h. level a b g h), tt)
makes part.ProductRest = through part.ProductRest kept.rest_of_level
makes part.CastLevel = one_by_one part.CastLevel (rules part.CastLevel) ((λ a g b h. level a b g h), tt)
makes part.CastRest = through part.CastRest kept.rest_of_level
makes part.Unary = one_by_one part.Unary (rules part.Unary) unary_rules
makes part.Operators = through part.Operators kept.operators
makes part.Postfix = one_by_one part.Postfix (rules part.Postfix) postfix_rules
makes part.Suffixes = one_by_one part.Suffixes (rules part.Suffixes) suffixes_rules
makes part.Index = one_by_one part.Index (rules part.Index) ((λ l k a g r j. g), tt)
makes part.Arguments = one_by_one part.Arguments (rules part.Arguments) ((λ l k a g r j. g), tt)
makes part.ArgumentList = one_by_one part.ArgumentList (rules part.ArgumentList) ((λ a g b h. row_of a b g h), ((tt, tt), tt))
makes part.MoreArguments = one_by_one part.MoreArguments (rules part.MoreArguments) ((λ w k a g b h. row_of a b g h), ((tt, tt), tt))
makes part.New = one_by_one part.New (rules part.New) new_rules
makes part.NewOfName = one_by_one part.NewOfName (rules part.NewOfName) new_of_name_rules
makes part.NewLevels = one_by_one part.NewLevels (rules part.NewLevels) new_levels_rules
makes part.NewLevel = through part.NewLevel kept.new_level
makes part.Primary = one_by_one part.Primary (rules part.Primary) primary_rules
