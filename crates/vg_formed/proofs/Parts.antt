-- What each part of the grammar makes.
use Rattle.std.proofs.Common.{◌≡◌, ℕ, zero, suc, List, [], ◌∷◌, Some, sym, subst}
use Rattle.vg_base.specs.declared.place.Place.{Place}
use Rattle.vg_syntax.specs.declared.kind.Kind.{Kind}
use Rattle.vg_syntax.specs.declared.kind.Kind.TheVariants as kind
use Rattle.vg_syntax.specs.declared.grammar.Symbol.{Symbol}
use Rattle.vg_syntax.specs.declared.grammar.Symbol.TheVariants.{Sign, Use}
use Rattle.vg_syntax.specs.declared.grammar.Part.{Part}
use Rattle.vg_syntax.specs.declared.grammar.Part.TheVariants as part
use Rattle.vg_syntax.specs.Grammar.{rules}
use Rattle.vg_syntax.specs.Parses.{nth}
use Rattle.vg_syntax.specs.Made.{Made, Word, Value, kind_in, node_in, row_in, text_in, arms_in, otherwise_in, first_in, condition_in, next_in, suffixes_in}
use Rattle.vg_syntax.specs.Reads as reads
use Rattle.vg_syntax.specs.Reads.{kids_of, made}
use Rattle.vg_source_counts.specs.Forms.{Statements, Arms, Expression, WhereWritten, HasForm, HaveBodies, IsFormed}
use Rattle.vg_formed.proofs.Made.{IsExpression, HasParts, AreSuffixes, IsType, AreArguments, IsNew, IsBehindName, IsLevel, IsMember, IsToken, asked_only}
use Rattle.vg_formed.proofs.Made.{arguments_in, more_members}
use Rattle.vg_formed.proofs.Made as so

-- what is known of what a part makes
abbrev pub Good : Part → Made → Type 0
Good part.Text m = IsFormed (node_in m)
Good part.Declarations m = IsFormed (row_in m)
Good part.Declaration m = IsFormed (node_in m)
Good part.ClassBody m = HaveBodies (row_in m)
Good part.Members m = HaveBodies (row_in m)
Good part.Member m = IsMember (node_in m)
Good part.Initial m = WhereWritten (node_in m) (IsExpression m)
Good part.Type m = IsType m
Good part.Plain m = IsType m
Good part.Block m = HasForm Statements (node_in m)
Good part.Statements m = HasForm Statements (row_in m)
Good part.Statement m = HasForm Statements (node_in m)
Good part.Condition m = IsExpression m
Good part.Else m = HasForm Arms (arms_in m) × HasForm Statements (otherwise_in m)
Good part.ElseArm m = HasForm Arms (arms_in m) × HasForm Statements (otherwise_in m)
Good part.ForHeader m = HasForm Statements (first_in m) × HasForm Expression (condition_in m) × HasForm Statements (next_in m)
Good part.ForTest m = IsExpression m
Good part.MaybeSimple m = HasForm Statements (node_in m)
Good part.MaybeExpression m = WhereWritten (node_in m) (IsExpression m)
Good part.Simple m = HasForm Statements (node_in m)
Good part.Assigned m = WhereWritten (node_in m) (IsExpression m)
Good part.Expression m = IsExpression m
Good part.AndLevel m = IsExpression m
Good part.EqualityLevel m = IsExpression m
Good part.ComparisonLevel m = IsExpression m
Good part.BitOrLevel m = IsExpression m
Good part.BitXorLevel m = IsExpression m
Good part.BitAndLevel m = IsExpression m
Good part.ShiftLevel m = IsExpression m
Good part.ConcatLevel m = IsExpression m
Good part.SumLevel m = IsExpression m
Good part.ProductLevel m = IsExpression m
Good part.CastLevel m = IsExpression m
Good part.Unary m = IsExpression m
Good part.Postfix m = IsExpression m
Good part.Primary m = IsExpression m
Good part.Index m = IsExpression m
Good part.OrRest m = HasParts m
Good part.AndRest m = HasParts m
Good part.EqualityRest m = HasParts m
Good part.ComparisonRest m = HasParts m
Good part.BitOrRest m = HasParts m
Good part.BitXorRest m = HasParts m
Good part.BitAndRest m = HasParts m
Good part.ShiftRest m = HasParts m
Good part.ConcatRest m = HasParts m
Good part.SumRest m = HasParts m
Good part.ProductRest m = HasParts m
Good part.CastRest m = HasParts m
Good part.Suffixes m = AreSuffixes (row_in m)
Good part.Arguments m = AreArguments m
Good part.ArgumentList m = AreArguments m
Good part.MoreArguments m = AreArguments m
Good part.New m = IsNew m
Good part.NewOfName m = IsBehindName m
Good part.NewLevels m = AreSuffixes (suffixes_in m)
Good part.NewLevel m = IsLevel m
Good _ m = Unit {0}

-- ---- rows of values

abbrev IsWord : Kind → Made → Type 0
IsWord k (Word j text) = j ≡ k
IsWord k _ = ⊥

kind_is : (k : Kind) (m : Made) → IsWord k m → kind_in m ≡ k
kind_is k (Word j text) e = e
kind_is k _ h = absurd h

token : (k : Kind) (m : Made) → IsWord k m → IsToken m
token k (Word j text) e = tt
token k _ h = absurd h

-- the values are those of the symbols
abbrev pub AreFor : List Symbol → List Value → Type 0
AreFor [] [] = Unit {0}
AreFor [] (v ∷ vs) = ⊥
AreFor (Sign k ∷ s) [] = ⊥
AreFor (Sign k ∷ s) (v ∷ vs) = IsWord k v.made × AreFor s vs
AreFor (Use n ∷ s) [] = ⊥
AreFor (Use n ∷ s) (v ∷ vs) = Good n v.made × AreFor s vs

abbrev Takes : List Symbol → (List Value → Type 0) → Type 0
Takes [] P = P []
Takes (Sign k ∷ s) P = (v : Value) → IsWord k v.made → Takes s (λ vs. P (v ∷ vs))
Takes (Use n ∷ s) P = (v : Value) → Good n v.made → Takes s (λ vs. P (v ∷ vs))

given : (s : List Symbol) (P : List Value → Type 0) → Takes s P → (vs : List Value) → AreFor s vs → P vs
given [] P f [] h = f
given [] P f (v ∷ vs) h = absurd h
given (Sign k ∷ s) P f [] h = absurd h
given (Sign k ∷ s) P f (v ∷ vs) (g, h) = given s (λ ws. P (v ∷ ws)) (f v g) vs h
given (Use n ∷ s) P f [] h = absurd h
given (Use n ∷ s) P f (v ∷ vs) (g, h) = given s (λ ws. P (v ∷ ws)) (f v g) vs h

-- a part makes what is known of it
abbrev Made' : Part → List Value → Type 0
Made' n vs = Good n (made n (kids_of vs)).made

abbrev Makes : Part → Type 0
Makes n = (a : ℕ) (rhs : List Symbol) → nth (rules n) a ≡ Some rhs → (vs : List Value) → AreFor rhs vs → Made' n vs

abbrev All : Part → List (List Symbol) → Type 0
All n [] = Unit {0}
All n (r ∷ rs) = Takes r (Made' n) × All n rs

one_by_one : (n : Part) (rs : List (List Symbol)) → All n rs → (a : ℕ) (rhs : List Symbol) → nth rs a ≡ Some rhs
    → (vs : List Value) → AreFor rhs vs → Made' n vs
one_by_one n [] h a rhs e = cc
one_by_one n (r ∷ rs) (g, h) zero rhs e =
    let f : r ≡ rhs = cc in
    subst (λ z. (vs : List Value) → AreFor z vs → Made' n vs) f (given r (Made' n) g)
one_by_one n (r ∷ rs) (g, h) (suc a) rhs e = one_by_one n rs h a rhs e

of_kind : (P : Kind → Type 0) (k : Kind) (m : Made) → IsWord k m → P k → P (kind_in m)
of_kind P k m w h = subst P (sym (kind_is k m w)) h

-- a part that nothing is known of
no_more : (n : Part) → ((m : Made) → Good n m) → Makes n
no_more n f a rhs e vs h = f (made n (kids_of vs)).made

-- ---- statements

statement : All part.Statement (rules part.Statement)
statement = (
  (λ a g. g),
  (
    (λ w k t g i h s l. of_kind (λ z. HasForm Statements (reads.statement_of_four z w.place t.made i.made s.made)) kind.Local w.made k h),
    (
      (λ w k c f b g e h. of_kind (λ z. HasForm Statements (reads.statement_of_four z w.place c.made b.made e.made)) kind.If w.made k
          ((f, g, h.0), h.1)),
      (
        (λ w k c f b g. of_kind (λ z. HasForm Statements (reads.statement_of_three z w.place c.made b.made)) kind.While w.made k (f, g)),
        (
          (λ w k c f b g. of_kind (λ z. HasForm Statements (reads.statement_of_three z w.place c.made b.made)) kind.For w.made k
              (f.0, asked_only (condition_in c.made) (HasForm Expression (condition_in c.made)) f.1, f.2, g)),
          (
            (λ w k e f s l. of_kind (λ z. HasForm Statements (reads.statement_of_three z w.place e.made s.made)) kind.Return w.made k f),
            (
              (λ w k s l. jumps kind.Break w.place w.made k),
              (
                (λ w k s l. jumps kind.Continue w.place w.made k),
                (
                  (λ a g s l. so.statement_of_two a.place a.made g),
                  tt,
                ),
              ),
            ),
          ),
        ),
      ),
    ),
  ),
)
  where
    jumps : (k : Kind) (p : Place) (m : Made) → IsWord k m → HasForm Statements (node_in (reads.statement_of_two p m))
    jumps k p (Word j text) h = so.jump j p
    jumps k p _ h = absurd h

else_arm : All part.ElseArm (rules part.ElseArm)
else_arm = ((λ w k c f b g e h. ((f, g, h.0), h.1)), ((λ b g. (tt, g)), tt))

declaration : All part.Declaration (rules part.Declaration)
declaration = (
  (λ w k x l e f b g. g),
  (
    (λ w k x l b g. of_kind (λ z. IsFormed (reads.declared z w.place (text_in x.made) (row_in b.made))) kind.Component w.made k g),
    (
      (λ w k x l b g. of_kind (λ z. IsFormed (reads.declared z w.place (text_in x.made) (row_in b.made))) kind.Device w.made k tt),
      ((λ w k x l b g. of_kind (λ z. IsFormed (reads.declared z w.place (text_in x.made) (row_in b.made))) kind.Program w.made k tt), tt),
    ),
  ),
)

member : All part.Member (rules part.Member)
member = (
  (λ w k b f c g d h. so.field_or_constructor (kind_in w.made) w.place b.made c.made d.made),
  ((λ w k x l ps f r g b h. h), ((λ w k b f c g d h. so.field_or_constructor (kind_in w.made) w.place b.made c.made d.made), tt)),
)

-- ---- expressions

operand : (k : Kind) (w : Value) → IsWord k w.made → (a : Value) → IsExpression a.made → (r : Value) → HasParts r.made
    → HasParts (reads.rest_of_level (reads.Three w a r)).made
operand k w e a g r h = so.operand w.place (kind_in w.made) a.made r.made g h

type_operand : (k : Kind) (w : Value) → IsWord k w.made → (a : Value) → IsType a.made → (r : Value) → HasParts r.made
    → HasParts (reads.rest_of_level (reads.Three w a r)).made
type_operand k w e a g r h = so.type_operand w.place (kind_in w.made) a.made r.made g h

postfix : All part.Postfix (rules part.Postfix)
postfix = (
  (λ a g b h. so.primary_postfix a.place a.made b g h),
  ((λ w k b h. so.new_postfix w b (kind_is kind.New w.made k) h), tt),
)

suffixes : All part.Suffixes (rules part.Suffixes)
suffixes = (
  (λ d k x l r h. (tt, h)),
  ((λ a g r h. (so.index a.place a.made g, h)), ((λ a g r h. (so.call a.place a.made g, h)), (tt, tt))),
)

new_levels : All part.NewLevels (rules part.NewLevels)
new_levels = (
  (λ d k x l r h. (tt, h)),
  (
    (λ a g r h. so.call_behind a.place a.made r.made g h),
    ((λ w k r h. so.bracket_behind w.place w.made r.made (token kind.LeftBracket w.made k) h), (tt, tt)),
  ),
)

primary : All part.Primary (rules part.Primary)
primary = (
  word kind.Number,
  (
    word kind.CharLiteral,
    (
      word kind.StringLiteral,
      (
        word kind.True,
        (
          word kind.False,
          (
            word kind.Null,
            (word kind.This, (word kind.Name, ((λ l k e g r j. g), tt))),
          ),
        ),
      ),
    ),
  ),
)
  where
    word : (j : Kind) (w : Value) → IsWord j w.made → HasForm Expression (reads.literal (kind_in w.made) w.place (text_in w.made))
    word j w k = so.literal (kind_in w.made) w.place (text_in w.made)

pub makes : (n : Part) → Makes n
makes part.Text = one_by_one part.Text (rules part.Text) ((λ a g r h. (g, h)), tt)
makes part.Declarations = one_by_one part.Declarations (rules part.Declarations) ((λ a g r h. (g, h)), (tt, tt))
makes part.Declaration = one_by_one part.Declaration (rules part.Declaration) declaration
makes part.ClassBody = one_by_one part.ClassBody (rules part.ClassBody) ((λ l k a g r j. g), tt)
makes part.Members = one_by_one part.Members (rules part.Members) ((λ a g r h. more_members (node_in a.made) (row_in r.made) g h), (tt, tt))
makes part.Member = one_by_one part.Member (rules part.Member) member
makes part.Initial = one_by_one part.Initial (rules part.Initial) ((λ s k a g. asked_only (node_in a.made) (IsExpression a.made) g), (tt, tt))
makes part.Type = one_by_one part.Type (rules part.Type) ((λ a g. g), ((λ w k a g r h. tt), tt))
makes part.Plain = one_by_one part.Plain (rules part.Plain) ((λ a g r h. tt), tt)
makes part.Block = one_by_one part.Block (rules part.Block) ((λ l k a g r j. g), tt)
makes part.Statements = one_by_one part.Statements (rules part.Statements) ((λ a g r h. (g, h)), (tt, tt))
makes part.Statement = one_by_one part.Statement (rules part.Statement) statement
makes part.Condition = one_by_one part.Condition (rules part.Condition) ((λ l k a g r j. g), tt)
makes part.Else = one_by_one part.Else (rules part.Else) ((λ w k a g. g), ((tt, tt), tt))
makes part.ElseArm = one_by_one part.ElseArm (rules part.ElseArm) else_arm
makes part.ForHeader = one_by_one part.ForHeader (rules part.ForHeader) ((λ l k a f b g c h r j. (f, g, h)), tt)
makes part.ForTest = one_by_one part.ForTest (rules part.ForTest) ((λ l k a g r j. g), tt)
makes part.MaybeSimple = one_by_one part.MaybeSimple (rules part.MaybeSimple) ((λ a g. g), (tt, tt))
makes part.MaybeExpression = one_by_one part.MaybeExpression (rules part.MaybeExpression)
    ((λ a g. asked_only (node_in a.made) (IsExpression a.made) g), (tt, tt))
makes part.Simple = one_by_one part.Simple (rules part.Simple) ((λ a g r h. so.assigned a.place (node_in a.made) (node_in r.made) g h), tt)
makes part.Assigned = one_by_one part.Assigned (rules part.Assigned) ((λ s k a g. asked_only (node_in a.made) (IsExpression a.made) g), (tt, tt))
makes part.Expression = one_by_one part.Expression (rules part.Expression) (so.level, tt)
makes part.OrRest = one_by_one part.OrRest (rules part.OrRest) (operand kind.OrOr, (tt, tt))
makes part.AndLevel = one_by_one part.AndLevel (rules part.AndLevel) (so.level, tt)
makes part.AndRest = one_by_one part.AndRest (rules part.AndRest) (operand kind.AndAnd, (tt, tt))
makes part.EqualityLevel = one_by_one part.EqualityLevel (rules part.EqualityLevel) (so.level, tt)
makes part.EqualityRest = one_by_one part.EqualityRest (rules part.EqualityRest) (operand kind.EqualEqual, (operand kind.NotEqual, (tt, tt)))
makes part.ComparisonLevel = one_by_one part.ComparisonLevel (rules part.ComparisonLevel) (so.level, tt)
makes part.ComparisonRest = one_by_one part.ComparisonRest (rules part.ComparisonRest)
    (operand kind.Less, (operand kind.LessEqual, (operand kind.Greater, (operand kind.GreaterEqual, (type_operand kind.Below, (tt, tt))))))
makes part.BitOrLevel = one_by_one part.BitOrLevel (rules part.BitOrLevel) (so.level, tt)
makes part.BitOrRest = one_by_one part.BitOrRest (rules part.BitOrRest) (operand kind.Or, (tt, tt))
makes part.BitXorLevel = one_by_one part.BitXorLevel (rules part.BitXorLevel) (so.level, tt)
makes part.BitXorRest = one_by_one part.BitXorRest (rules part.BitXorRest) (operand kind.Xor, (tt, tt))
makes part.BitAndLevel = one_by_one part.BitAndLevel (rules part.BitAndLevel) (so.level, tt)
makes part.BitAndRest = one_by_one part.BitAndRest (rules part.BitAndRest) (operand kind.And, (tt, tt))
makes part.ShiftLevel = one_by_one part.ShiftLevel (rules part.ShiftLevel) (so.level, tt)
makes part.ShiftRest = one_by_one part.ShiftRest (rules part.ShiftRest) (operand kind.ShiftLeft, (operand kind.ShiftRight, (tt, tt)))
makes part.ConcatLevel = one_by_one part.ConcatLevel (rules part.ConcatLevel) (so.level, tt)
makes part.ConcatRest = one_by_one part.ConcatRest (rules part.ConcatRest) (operand kind.Concat, (tt, tt))
makes part.SumLevel = one_by_one part.SumLevel (rules part.SumLevel) (so.level, tt)
makes part.SumRest = one_by_one part.SumRest (rules part.SumRest) (operand kind.Plus, (operand kind.Minus, (tt, tt)))
makes part.ProductLevel = one_by_one part.ProductLevel (rules part.ProductLevel) (so.level, tt)
makes part.ProductRest = one_by_one part.ProductRest (rules part.ProductRest) (operand kind.Star, (operand kind.Slash, (operand kind.Percent, (tt, tt))))
makes part.CastLevel = one_by_one part.CastLevel (rules part.CastLevel) (so.level, tt)
makes part.CastRest = one_by_one part.CastRest (rules part.CastRest) (type_operand kind.Cast, (tt, tt))
makes part.Unary = one_by_one part.Unary (rules part.Unary) ((λ w k o f a g. g), ((λ w k o f a g. g), ((λ w k o f a g. g), ((λ a g. g), tt))))
makes part.Postfix = one_by_one part.Postfix (rules part.Postfix) postfix
makes part.Suffixes = one_by_one part.Suffixes (rules part.Suffixes) suffixes
makes part.Index = one_by_one part.Index (rules part.Index) ((λ l k a g r j. g), tt)
makes part.Arguments = one_by_one part.Arguments (rules part.Arguments) ((λ l k a g r j. g), tt)
makes part.ArgumentList = one_by_one part.ArgumentList (rules part.ArgumentList) ((λ a g r h. (g, arguments_in r.made h)), (tt, tt))
makes part.MoreArguments = one_by_one part.MoreArguments (rules part.MoreArguments) ((λ c k a g r h. (g, arguments_in r.made h)), (tt, tt))
makes part.New = one_by_one part.New (rules part.New) ((λ x k b g. so.named (text_in x.made) b.made g), ((λ a f s g l h. (g, h)), tt))
makes part.NewOfName = one_by_one part.NewOfName (rules part.NewOfName)
    ((λ a g b h. so.object_of_name a.made b.made g h), ((λ a g b h. so.array_of_name a.made b.made g h), tt))
makes part.NewLevels = one_by_one part.NewLevels (rules part.NewLevels) new_levels
makes part.NewLevel = one_by_one part.NewLevel (rules part.NewLevel) ((λ c k l g. g), ((λ e g c k r h. (g, h)), tt))
makes part.Primary = one_by_one part.Primary (rules part.Primary) primary
makes part.Extends = no_more part.Extends (λ m. tt)
makes part.DeviceBody = no_more part.DeviceBody (λ m. tt)
makes part.Registers = no_more part.Registers (λ m. tt)
makes part.Register = no_more part.Register (λ m. tt)
makes part.ProgramBody = no_more part.ProgramBody (λ m. tt)
makes part.Entries = no_more part.Entries (λ m. tt)
makes part.Entry = no_more part.Entry (λ m. tt)
makes part.Key = no_more part.Key (λ m. tt)
makes part.Handler = no_more part.Handler (λ m. tt)
makes part.Result = no_more part.Result (λ m. tt)
makes part.SuperCall = no_more part.SuperCall (λ m. tt)
makes part.Parameters = no_more part.Parameters (λ m. tt)
makes part.ParameterList = no_more part.ParameterList (λ m. tt)
makes part.MoreParameters = no_more part.MoreParameters (λ m. tt)
makes part.Typed = no_more part.Typed (λ m. tt)
makes part.TypeArguments = no_more part.TypeArguments (λ m. tt)
makes part.TypeList = no_more part.TypeList (λ m. tt)
makes part.MoreTypes = no_more part.MoreTypes (λ m. tt)
makes part.PlainResult = no_more part.PlainResult (λ m. tt)
makes part.Dimensions = no_more part.Dimensions (λ m. tt)
makes part.Atom = no_more part.Atom (λ m. tt)
makes part.OtherAtom = no_more part.OtherAtom (λ m. tt)
makes part.Operators = no_more part.Operators (λ m. tt)
