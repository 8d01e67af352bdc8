-- Tables of the grammar: what each part can begin with, whether it can be empty, and what can follow it.
-- These are mirrors of the grammar that the code goes by. No public clause cites one; each is checked against the grammar.
use Rattle.std.specs.Prelude.{ℕ, suc, Bool, true, false, ◌&&◌, ◌||◌, ◌==◌, List, [], ◌∷◌, ◌++◌, Option, if◌then◌else◌}
use Rattle.vg_syntax.specs.declared.kind.Kind.{Kind}
use Rattle.vg_syntax.specs.declared.grammar.Symbol.{Symbol}
use Rattle.vg_syntax.specs.declared.grammar.Symbol.TheVariants.{Sign, Use}
use Rattle.vg_syntax.specs.declared.grammar.Part.{Part}
use Rattle.vg_syntax.specs.declared.grammar.Part.TheVariants as part
use Rattle.vg_syntax.specs.declared.kind.Kind.TheVariants as kind
use Rattle.vg_syntax.specs.Grammar.{rules}
use Rattle.vg_syntax.specs.Parses.{nth}
use Rattle.vg_grammar.specs.Numbers.{number}

-- whether a kind of this number is among these
abbrev pub mem : ℕ → List Kind → Bool
mem u [] = false
mem u (k ∷ ks) = (u == number k) || mem u ks

-- what an expression begins with
abbrev pub expression_firsts : List Kind
expression_firsts =
    kind.Minus ∷ kind.Not ∷ kind.Complement ∷ kind.New ∷ kind.Number ∷ kind.CharLiteral ∷ kind.StringLiteral ∷ kind.True ∷ kind.False ∷ kind.Null ∷
    kind.This ∷ kind.Name ∷ kind.LeftParen ∷ []

-- what a statement begins with
abbrev pub statement_firsts : List Kind
statement_firsts =
    kind.LeftBrace ∷ kind.Local ∷ kind.If ∷ kind.While ∷ kind.For ∷ kind.Return ∷ kind.Break ∷ kind.Continue ∷ kind.Minus ∷ kind.Not ∷ kind.Complement ∷
    kind.New ∷ kind.Number ∷ kind.CharLiteral ∷ kind.StringLiteral ∷ kind.True ∷ kind.False ∷ kind.Null ∷ kind.This ∷ kind.Name ∷ kind.LeftParen ∷ []

-- what a type begins with
abbrev pub type_firsts : List Kind
type_firsts = kind.Name ∷ kind.Int ∷ kind.Bool ∷ kind.Char ∷ kind.Raw ∷ kind.LeftParen ∷ kind.Function ∷ []

-- what a type without levels begins with
abbrev pub atom_firsts : List Kind
atom_firsts = kind.Name ∷ kind.Int ∷ kind.Bool ∷ kind.Char ∷ kind.Raw ∷ kind.LeftParen ∷ []

-- what such a type that is no name begins with
abbrev pub other_atom_firsts : List Kind
other_atom_firsts = kind.Int ∷ kind.Bool ∷ kind.Char ∷ kind.Raw ∷ kind.LeftParen ∷ []

-- what an operand without operators and suffixes begins with
abbrev pub primary_firsts : List Kind
primary_firsts = kind.Number ∷ kind.CharLiteral ∷ kind.StringLiteral ∷ kind.True ∷ kind.False ∷ kind.Null ∷ kind.This ∷ kind.Name ∷ kind.LeftParen ∷ []

-- what a suffix begins with
abbrev pub suffix_firsts : List Kind
suffix_firsts = kind.Dot ∷ kind.LeftBracket ∷ kind.LeftParen ∷ []

-- what a declaration begins with
abbrev pub declaration_firsts : List Kind
declaration_firsts = kind.Class ∷ kind.Component ∷ kind.Device ∷ kind.Program ∷ []

-- what a member begins with
abbrev pub member_firsts : List Kind
member_firsts = kind.Field ∷ kind.Method ∷ kind.Constructor ∷ []

-- what a part that is not empty can begin with
abbrev pub firsts : Part → List Kind
firsts part.Text = declaration_firsts
firsts part.Declarations = declaration_firsts
firsts part.Declaration = declaration_firsts
firsts part.Extends = kind.Extends ∷ []
firsts part.ClassBody = kind.LeftBrace ∷ []
firsts part.Members = member_firsts
firsts part.DeviceBody = kind.LeftBrace ∷ []
firsts part.Registers = kind.Register ∷ []
firsts part.Register = kind.Register ∷ []
firsts part.ProgramBody = kind.LeftBrace ∷ []
firsts part.Entries = kind.Entry ∷ []
firsts part.Entry = kind.Entry ∷ []
firsts part.Key = kind.Name ∷ kind.Number ∷ []
firsts part.Handler = kind.Name ∷ []
firsts part.Member = member_firsts
firsts part.Initial = kind.Assign ∷ []
firsts part.Result = kind.Colon ∷ []
firsts part.SuperCall = kind.Colon ∷ []
firsts part.Parameters = kind.LeftParen ∷ []
firsts part.ParameterList = kind.Name ∷ []
firsts part.MoreParameters = kind.Comma ∷ []
firsts part.Typed = kind.Name ∷ []
firsts part.Type = type_firsts
firsts part.TypeArguments = kind.LeftParen ∷ []
firsts part.TypeList = type_firsts
firsts part.MoreTypes = kind.Comma ∷ []
firsts part.PlainResult = kind.Colon ∷ []
firsts part.Plain = atom_firsts
firsts part.Dimensions = kind.LeftBracket ∷ []
firsts part.Atom = atom_firsts
firsts part.OtherAtom = other_atom_firsts
firsts part.Block = kind.LeftBrace ∷ []
firsts part.Statements = statement_firsts
firsts part.Statement = statement_firsts
firsts part.Condition = kind.LeftParen ∷ []
firsts part.Else = kind.Else ∷ []
firsts part.ElseArm = kind.If ∷ kind.LeftBrace ∷ []
firsts part.ForHeader = kind.LeftParen ∷ []
firsts part.ForTest = kind.Semicolon ∷ []
firsts part.MaybeSimple = expression_firsts
firsts part.MaybeExpression = expression_firsts
firsts part.Simple = expression_firsts
firsts part.Assigned = kind.Assign ∷ []
firsts part.Expression = expression_firsts
firsts part.OrRest = kind.OrOr ∷ []
firsts part.AndLevel = expression_firsts
firsts part.AndRest = kind.AndAnd ∷ []
firsts part.EqualityLevel = expression_firsts
firsts part.EqualityRest = kind.EqualEqual ∷ kind.NotEqual ∷ []
firsts part.ComparisonLevel = expression_firsts
firsts part.ComparisonRest = kind.Less ∷ kind.LessEqual ∷ kind.Greater ∷ kind.GreaterEqual ∷ kind.Below ∷ []
firsts part.BitOrLevel = expression_firsts
firsts part.BitOrRest = kind.Or ∷ []
firsts part.BitXorLevel = expression_firsts
firsts part.BitXorRest = kind.Xor ∷ []
firsts part.BitAndLevel = expression_firsts
firsts part.BitAndRest = kind.And ∷ []
firsts part.ShiftLevel = expression_firsts
firsts part.ShiftRest = kind.ShiftLeft ∷ kind.ShiftRight ∷ []
firsts part.ConcatLevel = expression_firsts
firsts part.ConcatRest = kind.Concat ∷ []
firsts part.SumLevel = expression_firsts
firsts part.SumRest = kind.Plus ∷ kind.Minus ∷ []
firsts part.ProductLevel = expression_firsts
firsts part.ProductRest = kind.Star ∷ kind.Slash ∷ kind.Percent ∷ []
firsts part.CastLevel = expression_firsts
firsts part.CastRest = kind.Cast ∷ []
firsts part.Unary = expression_firsts
firsts part.Operators = kind.Minus ∷ kind.Not ∷ kind.Complement ∷ []
firsts part.Postfix =
    kind.Number ∷ kind.CharLiteral ∷ kind.StringLiteral ∷ kind.True ∷ kind.False ∷ kind.Null ∷ kind.This ∷ kind.Name ∷ kind.LeftParen ∷ kind.New ∷ []
firsts part.Suffixes = suffix_firsts
firsts part.Index = kind.LeftBracket ∷ []
firsts part.Arguments = kind.LeftParen ∷ []
firsts part.ArgumentList = expression_firsts
firsts part.MoreArguments = kind.Comma ∷ []
firsts part.New = atom_firsts
firsts part.NewOfName = kind.LeftParen ∷ kind.LeftBracket ∷ []
firsts part.NewLevels = kind.Dot ∷ kind.LeftParen ∷ kind.LeftBracket ∷ []
firsts part.NewLevel =
    kind.RightBracket ∷ kind.Minus ∷ kind.Not ∷ kind.Complement ∷ kind.New ∷ kind.Number ∷ kind.CharLiteral ∷ kind.StringLiteral ∷ kind.True ∷ kind.False ∷
    kind.Null ∷ kind.This ∷ kind.Name ∷ kind.LeftParen ∷ []
firsts part.Primary = primary_firsts

-- whether a part can be empty
abbrev pub nullable : Part → Bool
nullable part.Declarations = true
nullable part.Extends = true
nullable part.Members = true
nullable part.Registers = true
nullable part.Entries = true
nullable part.Initial = true
nullable part.Result = true
nullable part.SuperCall = true
nullable part.ParameterList = true
nullable part.MoreParameters = true
nullable part.TypeList = true
nullable part.MoreTypes = true
nullable part.PlainResult = true
nullable part.Dimensions = true
nullable part.Statements = true
nullable part.Else = true
nullable part.MaybeSimple = true
nullable part.MaybeExpression = true
nullable part.Assigned = true
nullable part.OrRest = true
nullable part.AndRest = true
nullable part.EqualityRest = true
nullable part.ComparisonRest = true
nullable part.BitOrRest = true
nullable part.BitXorRest = true
nullable part.BitAndRest = true
nullable part.ShiftRest = true
nullable part.ConcatRest = true
nullable part.SumRest = true
nullable part.ProductRest = true
nullable part.CastRest = true
nullable part.Operators = true
nullable part.Suffixes = true
nullable part.ArgumentList = true
nullable part.MoreArguments = true
nullable part.NewLevels = true
nullable _ = false

abbrev pub behind_expression : List Kind
behind_expression = kind.Semicolon ∷ kind.RightParen ∷ kind.Assign ∷ kind.RightBracket ∷ kind.Comma ∷ []

abbrev pub behind_level_2 : List Kind
behind_level_2 = kind.OrOr ∷ behind_expression

abbrev pub behind_level_3 : List Kind
behind_level_3 = kind.AndAnd ∷ behind_level_2

abbrev pub behind_level_4 : List Kind
behind_level_4 = kind.EqualEqual ∷ kind.NotEqual ∷ behind_level_3

abbrev pub behind_level_5 : List Kind
behind_level_5 = kind.Less ∷ kind.LessEqual ∷ kind.Greater ∷ kind.GreaterEqual ∷ kind.Below ∷ behind_level_4

abbrev pub behind_level_6 : List Kind
behind_level_6 = kind.Or ∷ behind_level_5

abbrev pub behind_level_7 : List Kind
behind_level_7 = kind.Xor ∷ behind_level_6

abbrev pub behind_level_8 : List Kind
behind_level_8 = kind.And ∷ behind_level_7

abbrev pub behind_level_9 : List Kind
behind_level_9 = kind.ShiftLeft ∷ kind.ShiftRight ∷ behind_level_8

abbrev pub behind_level_10 : List Kind
behind_level_10 = kind.Concat ∷ behind_level_9

abbrev pub behind_level_11 : List Kind
behind_level_11 = kind.Plus ∷ kind.Minus ∷ behind_level_10

abbrev pub behind_level_12 : List Kind
behind_level_12 = kind.Star ∷ kind.Slash ∷ kind.Percent ∷ behind_level_11

abbrev pub behind_unary : List Kind
behind_unary = kind.Cast ∷ behind_level_12

abbrev pub behind_type : List Kind
behind_type = kind.LeftBrace ∷ behind_unary

abbrev pub behind_statement : List Kind
behind_statement =
    kind.LeftBrace ∷ kind.Local ∷ kind.If ∷ kind.While ∷ kind.For ∷ kind.Return ∷ kind.Break ∷ kind.Continue ∷ kind.Minus ∷ kind.Not ∷ kind.Complement ∷
    kind.New ∷ kind.Number ∷ kind.CharLiteral ∷ kind.StringLiteral ∷ kind.True ∷ kind.False ∷ kind.Null ∷ kind.This ∷ kind.Name ∷ kind.LeftParen ∷
    kind.RightBrace ∷ []

abbrev pub behind_member : List Kind
behind_member = kind.Field ∷ kind.Method ∷ kind.Constructor ∷ kind.RightBrace ∷ []

-- what can follow a part; the kind Unknown stands for the end
abbrev pub follows : Part → List Kind
follows part.Text = kind.Unknown ∷ []
follows part.Declarations = kind.Unknown ∷ []
follows part.Declaration = kind.Class ∷ kind.Component ∷ kind.Device ∷ kind.Program ∷ kind.Unknown ∷ []
follows part.Extends = kind.LeftBrace ∷ []
follows part.ClassBody = kind.Class ∷ kind.Component ∷ kind.Device ∷ kind.Program ∷ kind.Unknown ∷ []
follows part.Members = kind.RightBrace ∷ []
follows part.DeviceBody = kind.Class ∷ kind.Component ∷ kind.Device ∷ kind.Program ∷ kind.Unknown ∷ []
follows part.Registers = kind.RightBrace ∷ []
follows part.Register = kind.Register ∷ kind.RightBrace ∷ []
follows part.ProgramBody = kind.Class ∷ kind.Component ∷ kind.Device ∷ kind.Program ∷ kind.Unknown ∷ []
follows part.Entries = kind.RightBrace ∷ []
follows part.Entry = kind.Entry ∷ kind.RightBrace ∷ []
follows part.Key = kind.Assign ∷ []
follows part.Handler = kind.Semicolon ∷ []
follows part.Member = behind_member
follows part.Initial = kind.Semicolon ∷ []
follows part.Result = kind.LeftBrace ∷ []
follows part.SuperCall = kind.LeftBrace ∷ []
follows part.Parameters = kind.Colon ∷ kind.LeftBrace ∷ []
follows part.ParameterList = kind.RightParen ∷ []
follows part.MoreParameters = kind.RightParen ∷ []
follows part.Typed = kind.Assign ∷ kind.Semicolon ∷ kind.Comma ∷ kind.RightParen ∷ []
follows part.Type = behind_type
follows part.TypeArguments = kind.Colon ∷ behind_type
follows part.TypeList = kind.RightParen ∷ []
follows part.MoreTypes = kind.RightParen ∷ []
follows part.PlainResult = behind_type
follows part.Plain = behind_type
follows part.Dimensions = behind_type
follows part.Atom = kind.LeftBracket ∷ behind_type
follows part.OtherAtom = kind.LeftBracket ∷ behind_type
follows part.Block = kind.Field ∷ kind.Method ∷ kind.Constructor ∷ kind.Else ∷ behind_statement
follows part.Statements = kind.RightBrace ∷ []
follows part.Statement = behind_statement
follows part.Condition = kind.LeftBrace ∷ []
follows part.Else = behind_statement
follows part.ElseArm = behind_statement
follows part.ForHeader = kind.LeftBrace ∷ []
follows part.ForTest =
    kind.Minus ∷ kind.Not ∷ kind.Complement ∷ kind.New ∷ kind.Number ∷ kind.CharLiteral ∷ kind.StringLiteral ∷ kind.True ∷ kind.False ∷ kind.Null ∷
    kind.This ∷ kind.Name ∷ kind.LeftParen ∷ kind.RightParen ∷ []
follows part.MaybeSimple = kind.Semicolon ∷ kind.RightParen ∷ []
follows part.MaybeExpression = kind.Semicolon ∷ []
follows part.Simple = kind.Semicolon ∷ kind.RightParen ∷ []
follows part.Assigned = kind.Semicolon ∷ kind.RightParen ∷ []
follows part.Expression = behind_expression
follows part.OrRest = behind_expression
follows part.AndLevel = behind_level_2
follows part.AndRest = behind_level_2
follows part.EqualityLevel = behind_level_3
follows part.EqualityRest = behind_level_3
follows part.ComparisonLevel = behind_level_4
follows part.ComparisonRest = behind_level_4
follows part.BitOrLevel = behind_level_5
follows part.BitOrRest = behind_level_5
follows part.BitXorLevel = behind_level_6
follows part.BitXorRest = behind_level_6
follows part.BitAndLevel = behind_level_7
follows part.BitAndRest = behind_level_7
follows part.ShiftLevel = behind_level_8
follows part.ShiftRest = behind_level_8
follows part.ConcatLevel = behind_level_9
follows part.ConcatRest = behind_level_9
follows part.SumLevel = behind_level_10
follows part.SumRest = behind_level_10
follows part.ProductLevel = behind_level_11
follows part.ProductRest = behind_level_11
follows part.CastLevel = behind_level_12
follows part.CastRest = behind_level_12
follows part.Unary = behind_unary
follows part.Operators =
    kind.Number ∷ kind.CharLiteral ∷ kind.StringLiteral ∷ kind.True ∷ kind.False ∷ kind.Null ∷ kind.This ∷ kind.Name ∷ kind.LeftParen ∷ kind.New ∷ []
follows part.Postfix = behind_unary
follows part.Suffixes = behind_unary
follows part.Index = kind.Dot ∷ kind.LeftBracket ∷ kind.LeftParen ∷ behind_unary
follows part.Arguments = kind.Dot ∷ kind.LeftBracket ∷ kind.LeftParen ∷ behind_type
follows part.ArgumentList = kind.RightParen ∷ []
follows part.MoreArguments = kind.RightParen ∷ []
follows part.New = behind_unary
follows part.NewOfName = behind_unary
follows part.NewLevels = behind_unary
follows part.NewLevel = behind_unary
follows part.Primary = kind.Dot ∷ kind.LeftBracket ∷ kind.LeftParen ∷ behind_unary

-- whether a row of symbols can be empty
abbrev pub nullable_seq : List Symbol → Bool
nullable_seq [] = true
nullable_seq (Sign k ∷ s) = false
nullable_seq (Use n ∷ s) = nullable n && nullable_seq s

-- what a row of symbols that is not empty can begin with
abbrev pub firsts_seq : List Symbol → List Kind
firsts_seq [] = []
firsts_seq (Sign k ∷ s) = k ∷ []
firsts_seq (Use n ∷ s) = firsts n ++ (if nullable n then firsts_seq s else [])

-- whether the next token suits an alternative: it can begin it, or the alternative is empty
abbrev pub suits : List Symbol → ℕ → Bool
suits [] u = true
suits (Sign k ∷ s) u = u == number k
suits (Use n ∷ s) u = mem u (firsts n)

-- the number of the first alternative that suits the next token
abbrev pub pick : List (List Symbol) → ℕ → ℕ
pick [] u = 0
pick (r ∷ rs) u = if suits r u then 0 else suc (pick rs u)

-- the first of these alternatives that suits the next token
abbrev pub first_suited : List (List Symbol) → ℕ → Option (List Symbol)
first_suited rs u = nth rs (pick rs u)

-- the alternative that the next token asks for
abbrev pub chosen : Part → ℕ → Option (List Symbol)
chosen n u = first_suited (rules n) u
