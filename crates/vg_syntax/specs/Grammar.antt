-- The grammar: the alternatives of each part, with the rule in extended Backus-Naur form before the parts that spell it.
-- In that form `[ x ]` is x or nothing, `{ x }` is any number of x. A part named in it alone stands for its own rule.
-- Each part chooses its alternative by the next token: an empty alternative comes last, and no alternative begins with a part that can be empty.
use Rattle.std.specs.Prelude.{List, [], ◌∷◌}
use Rattle.vg_syntax.specs.declared.grammar.Symbol.{Symbol}
use Rattle.vg_syntax.specs.declared.grammar.Symbol.TheVariants.{Sign, Use}
use Rattle.vg_syntax.specs.declared.grammar.Part.{Part}
use Rattle.vg_syntax.specs.declared.grammar.Part.TheVariants as part
use Rattle.vg_syntax.specs.declared.kind.Kind.TheVariants as kind

abbrev pub rules : Part → List (List Symbol)
-- Text = Declaration { Declaration }
rules part.Text =
    (Use part.Declaration ∷ Use part.Declarations ∷ [])
    ∷ []
rules part.Declarations =
    (Use part.Declaration ∷ Use part.Declarations ∷ [])
    ∷ []
    ∷ []
-- Declaration = "class" Name [ "extends" Name ] "{" { Member } "}"
--             | "component" Name "{" { Member } "}"
--             | "device" Name "{" { "register" Name "=" Number ";" } "}"
--             | "program" Name "{" { "entry" ( Name | Number ) "=" Name "." Name ";" } "}"
rules part.Declaration =
    (Sign kind.Class ∷ Sign kind.Name ∷ Use part.Extends ∷ Use part.ClassBody ∷ [])
    ∷ (Sign kind.Component ∷ Sign kind.Name ∷ Use part.ClassBody ∷ [])
    ∷ (Sign kind.Device ∷ Sign kind.Name ∷ Use part.DeviceBody ∷ [])
    ∷ (Sign kind.Program ∷ Sign kind.Name ∷ Use part.ProgramBody ∷ [])
    ∷ []
rules part.Extends =
    (Sign kind.Extends ∷ Sign kind.Name ∷ [])
    ∷ []
    ∷ []
rules part.ClassBody =
    (Sign kind.LeftBrace ∷ Use part.Members ∷ Sign kind.RightBrace ∷ [])
    ∷ []
rules part.Members =
    (Use part.Member ∷ Use part.Members ∷ [])
    ∷ []
    ∷ []
rules part.DeviceBody =
    (Sign kind.LeftBrace ∷ Use part.Registers ∷ Sign kind.RightBrace ∷ [])
    ∷ []
rules part.Registers =
    (Use part.Register ∷ Use part.Registers ∷ [])
    ∷ []
    ∷ []
rules part.Register =
    (Sign kind.Register ∷ Sign kind.Name ∷ Sign kind.Assign ∷ Sign kind.Number ∷ Sign kind.Semicolon ∷ [])
    ∷ []
rules part.ProgramBody =
    (Sign kind.LeftBrace ∷ Use part.Entries ∷ Sign kind.RightBrace ∷ [])
    ∷ []
rules part.Entries =
    (Use part.Entry ∷ Use part.Entries ∷ [])
    ∷ []
    ∷ []
rules part.Entry =
    (Sign kind.Entry ∷ Use part.Key ∷ Sign kind.Assign ∷ Use part.Handler ∷ Sign kind.Semicolon ∷ [])
    ∷ []
rules part.Key =
    (Sign kind.Name ∷ [])
    ∷ (Sign kind.Number ∷ [])
    ∷ []
rules part.Handler =
    (Sign kind.Name ∷ Sign kind.Dot ∷ Sign kind.Name ∷ [])
    ∷ []
-- Member = "field" Name ":" Type [ "=" Expression ] ";"
--        | "method" Name "(" Parameters ")" [ ":" Type ] Block
--        | "constructor" "(" Parameters ")" [ ":" "super" "(" Arguments ")" ] Block
rules part.Member =
    (Sign kind.Field ∷ Use part.Typed ∷ Use part.Initial ∷ Sign kind.Semicolon ∷ [])
    ∷ (Sign kind.Method ∷ Sign kind.Name ∷ Use part.Parameters ∷ Use part.Result ∷ Use part.Block ∷ [])
    ∷ (Sign kind.Constructor ∷ Use part.Parameters ∷ Use part.SuperCall ∷ Use part.Block ∷ [])
    ∷ []
rules part.Initial =
    (Sign kind.Assign ∷ Use part.Expression ∷ [])
    ∷ []
    ∷ []
rules part.Result =
    (Sign kind.Colon ∷ Use part.Type ∷ [])
    ∷ []
    ∷ []
rules part.SuperCall =
    (Sign kind.Colon ∷ Sign kind.Super ∷ Use part.Arguments ∷ [])
    ∷ []
    ∷ []
-- Parameters = [ Name ":" Type { "," Name ":" Type } ]
rules part.Parameters =
    (Sign kind.LeftParen ∷ Use part.ParameterList ∷ Sign kind.RightParen ∷ [])
    ∷ []
rules part.ParameterList =
    (Use part.Typed ∷ Use part.MoreParameters ∷ [])
    ∷ []
    ∷ []
rules part.MoreParameters =
    (Sign kind.Comma ∷ Use part.Typed ∷ Use part.MoreParameters ∷ [])
    ∷ []
    ∷ []
rules part.Typed =
    (Sign kind.Name ∷ Sign kind.Colon ∷ Use part.Type ∷ [])
    ∷ []
-- Type = Plain | "function" "(" [ Type { "," Type } ] ")" [ ":" Plain ]
rules part.Type =
    (Use part.Plain ∷ [])
    ∷ (Sign kind.Function ∷ Use part.TypeArguments ∷ Use part.PlainResult ∷ [])
    ∷ []
rules part.TypeArguments =
    (Sign kind.LeftParen ∷ Use part.TypeList ∷ Sign kind.RightParen ∷ [])
    ∷ []
rules part.TypeList =
    (Use part.Type ∷ Use part.MoreTypes ∷ [])
    ∷ []
    ∷ []
rules part.MoreTypes =
    (Sign kind.Comma ∷ Use part.Type ∷ Use part.MoreTypes ∷ [])
    ∷ []
    ∷ []
rules part.PlainResult =
    (Sign kind.Colon ∷ Use part.Plain ∷ [])
    ∷ []
    ∷ []
-- Plain = Atom { "[" "]" }
rules part.Plain =
    (Use part.Atom ∷ Use part.Dimensions ∷ [])
    ∷ []
rules part.Dimensions =
    (Sign kind.LeftBracket ∷ Sign kind.RightBracket ∷ Use part.Dimensions ∷ [])
    ∷ []
    ∷ []
-- Atom = "int" | "bool" | "char" | "raw" "." Number | Name | "(" Type ")"
-- A Name is kept apart: behind `new` it may also begin a `new` of a class.
rules part.Atom =
    (Sign kind.Name ∷ [])
    ∷ (Use part.OtherAtom ∷ [])
    ∷ []
rules part.OtherAtom =
    (Sign kind.Int ∷ [])
    ∷ (Sign kind.Bool ∷ [])
    ∷ (Sign kind.Char ∷ [])
    ∷ (Sign kind.Raw ∷ Sign kind.Dot ∷ Sign kind.Number ∷ [])
    ∷ (Sign kind.LeftParen ∷ Use part.Type ∷ Sign kind.RightParen ∷ [])
    ∷ []
-- Block = "{" { Statement } "}"
rules part.Block =
    (Sign kind.LeftBrace ∷ Use part.Statements ∷ Sign kind.RightBrace ∷ [])
    ∷ []
rules part.Statements =
    (Use part.Statement ∷ Use part.Statements ∷ [])
    ∷ []
    ∷ []
-- Statement = Block | "local" Name ":" Type [ "=" Expression ] ";"
--           | "if" "(" Expression ")" Block { "else" "if" "(" Expression ")" Block } [ "else" Block ]
--           | "while" "(" Expression ")" Block
--           | "for" "(" [ Simple ] ";" Expression ";" [ Simple ] ")" Block
--           | "return" [ Expression ] ";" | "break" ";" | "continue" ";" | Simple ";"
rules part.Statement =
    (Use part.Block ∷ [])
    ∷ (Sign kind.Local ∷ Use part.Typed ∷ Use part.Initial ∷ Sign kind.Semicolon ∷ [])
    ∷ (Sign kind.If ∷ Use part.Condition ∷ Use part.Block ∷ Use part.Else ∷ [])
    ∷ (Sign kind.While ∷ Use part.Condition ∷ Use part.Block ∷ [])
    ∷ (Sign kind.For ∷ Use part.ForHeader ∷ Use part.Block ∷ [])
    ∷ (Sign kind.Return ∷ Use part.MaybeExpression ∷ Sign kind.Semicolon ∷ [])
    ∷ (Sign kind.Break ∷ Sign kind.Semicolon ∷ [])
    ∷ (Sign kind.Continue ∷ Sign kind.Semicolon ∷ [])
    ∷ (Use part.Simple ∷ Sign kind.Semicolon ∷ [])
    ∷ []
rules part.Condition =
    (Sign kind.LeftParen ∷ Use part.Expression ∷ Sign kind.RightParen ∷ [])
    ∷ []
-- { "else" "if" "(" Expression ")" Block } [ "else" Block ]
-- Behind `else` the next token says which of the two goes on.
rules part.Else =
    (Sign kind.Else ∷ Use part.ElseArm ∷ [])
    ∷ []
    ∷ []
rules part.ElseArm =
    (Sign kind.If ∷ Use part.Condition ∷ Use part.Block ∷ Use part.Else ∷ [])
    ∷ (Use part.Block ∷ [])
    ∷ []
rules part.ForHeader =
    (Sign kind.LeftParen ∷ Use part.MaybeSimple ∷ Use part.ForTest ∷ Use part.MaybeSimple ∷ Sign kind.RightParen ∷ [])
    ∷ []
rules part.ForTest =
    (Sign kind.Semicolon ∷ Use part.Expression ∷ Sign kind.Semicolon ∷ [])
    ∷ []
rules part.MaybeSimple =
    (Use part.Simple ∷ [])
    ∷ []
    ∷ []
rules part.MaybeExpression =
    (Use part.Expression ∷ [])
    ∷ []
    ∷ []
-- Simple = Expression [ "=" Expression ]
rules part.Simple =
    (Use part.Expression ∷ Use part.Assigned ∷ [])
    ∷ []
rules part.Assigned =
    (Sign kind.Assign ∷ Use part.Expression ∷ [])
    ∷ []
    ∷ []
-- Expression = Level 1, where Level k = Level (k + 1) { operator of level k, Level (k + 1) }
-- level 1: "||"
rules part.Expression =
    (Use part.AndLevel ∷ Use part.OrRest ∷ [])
    ∷ []
rules part.OrRest =
    (Sign kind.OrOr ∷ Use part.AndLevel ∷ Use part.OrRest ∷ [])
    ∷ []
    ∷ []
-- level 2: "&&"
rules part.AndLevel =
    (Use part.EqualityLevel ∷ Use part.AndRest ∷ [])
    ∷ []
rules part.AndRest =
    (Sign kind.AndAnd ∷ Use part.EqualityLevel ∷ Use part.AndRest ∷ [])
    ∷ []
    ∷ []
-- level 3: "==" "!="
rules part.EqualityLevel =
    (Use part.ComparisonLevel ∷ Use part.EqualityRest ∷ [])
    ∷ []
rules part.EqualityRest =
    (Sign kind.EqualEqual ∷ Use part.ComparisonLevel ∷ Use part.EqualityRest ∷ [])
    ∷ (Sign kind.NotEqual ∷ Use part.ComparisonLevel ∷ Use part.EqualityRest ∷ [])
    ∷ []
    ∷ []
-- level 4: "<" "<=" ">" ">=", and "<:" followed by a Type
rules part.ComparisonLevel =
    (Use part.BitOrLevel ∷ Use part.ComparisonRest ∷ [])
    ∷ []
rules part.ComparisonRest =
    (Sign kind.Less ∷ Use part.BitOrLevel ∷ Use part.ComparisonRest ∷ [])
    ∷ (Sign kind.LessEqual ∷ Use part.BitOrLevel ∷ Use part.ComparisonRest ∷ [])
    ∷ (Sign kind.Greater ∷ Use part.BitOrLevel ∷ Use part.ComparisonRest ∷ [])
    ∷ (Sign kind.GreaterEqual ∷ Use part.BitOrLevel ∷ Use part.ComparisonRest ∷ [])
    ∷ (Sign kind.Below ∷ Use part.Type ∷ Use part.ComparisonRest ∷ [])
    ∷ []
    ∷ []
-- level 5: "|"
rules part.BitOrLevel =
    (Use part.BitXorLevel ∷ Use part.BitOrRest ∷ [])
    ∷ []
rules part.BitOrRest =
    (Sign kind.Or ∷ Use part.BitXorLevel ∷ Use part.BitOrRest ∷ [])
    ∷ []
    ∷ []
-- level 6: "^"
rules part.BitXorLevel =
    (Use part.BitAndLevel ∷ Use part.BitXorRest ∷ [])
    ∷ []
rules part.BitXorRest =
    (Sign kind.Xor ∷ Use part.BitAndLevel ∷ Use part.BitXorRest ∷ [])
    ∷ []
    ∷ []
-- level 7: "&"
rules part.BitAndLevel =
    (Use part.ShiftLevel ∷ Use part.BitAndRest ∷ [])
    ∷ []
rules part.BitAndRest =
    (Sign kind.And ∷ Use part.ShiftLevel ∷ Use part.BitAndRest ∷ [])
    ∷ []
    ∷ []
-- level 8: "<<" ">>"
rules part.ShiftLevel =
    (Use part.ConcatLevel ∷ Use part.ShiftRest ∷ [])
    ∷ []
rules part.ShiftRest =
    (Sign kind.ShiftLeft ∷ Use part.ConcatLevel ∷ Use part.ShiftRest ∷ [])
    ∷ (Sign kind.ShiftRight ∷ Use part.ConcatLevel ∷ Use part.ShiftRest ∷ [])
    ∷ []
    ∷ []
-- level 9: "#"
rules part.ConcatLevel =
    (Use part.SumLevel ∷ Use part.ConcatRest ∷ [])
    ∷ []
rules part.ConcatRest =
    (Sign kind.Concat ∷ Use part.SumLevel ∷ Use part.ConcatRest ∷ [])
    ∷ []
    ∷ []
-- level 10: "+" "-"
rules part.SumLevel =
    (Use part.ProductLevel ∷ Use part.SumRest ∷ [])
    ∷ []
rules part.SumRest =
    (Sign kind.Plus ∷ Use part.ProductLevel ∷ Use part.SumRest ∷ [])
    ∷ (Sign kind.Minus ∷ Use part.ProductLevel ∷ Use part.SumRest ∷ [])
    ∷ []
    ∷ []
-- level 11: "*" "/" "%"
rules part.ProductLevel =
    (Use part.CastLevel ∷ Use part.ProductRest ∷ [])
    ∷ []
rules part.ProductRest =
    (Sign kind.Star ∷ Use part.CastLevel ∷ Use part.ProductRest ∷ [])
    ∷ (Sign kind.Slash ∷ Use part.CastLevel ∷ Use part.ProductRest ∷ [])
    ∷ (Sign kind.Percent ∷ Use part.CastLevel ∷ Use part.ProductRest ∷ [])
    ∷ []
    ∷ []
-- level 12: Unary { "::" Type }
rules part.CastLevel =
    (Use part.Unary ∷ Use part.CastRest ∷ [])
    ∷ []
rules part.CastRest =
    (Sign kind.Cast ∷ Use part.Type ∷ Use part.CastRest ∷ [])
    ∷ []
    ∷ []
-- Unary = { "-" | "!" | "~" } Postfix
rules part.Unary =
    (Sign kind.Minus ∷ Use part.Operators ∷ Use part.Postfix ∷ [])
    ∷ (Sign kind.Not ∷ Use part.Operators ∷ Use part.Postfix ∷ [])
    ∷ (Sign kind.Complement ∷ Use part.Operators ∷ Use part.Postfix ∷ [])
    ∷ (Use part.Postfix ∷ [])
    ∷ []
rules part.Operators =
    (Sign kind.Minus ∷ Use part.Operators ∷ [])
    ∷ (Sign kind.Not ∷ Use part.Operators ∷ [])
    ∷ (Sign kind.Complement ∷ Use part.Operators ∷ [])
    ∷ []
    ∷ []
-- Postfix = Primary { "." Name | "[" Expression "]" | "(" Arguments ")" }
-- A `new` is a Primary; it is kept apart, since a `[` behind it may be a level of its type or a suffix.
rules part.Postfix =
    (Use part.Primary ∷ Use part.Suffixes ∷ [])
    ∷ (Sign kind.New ∷ Use part.New ∷ [])
    ∷ []
rules part.Suffixes =
    (Sign kind.Dot ∷ Sign kind.Name ∷ Use part.Suffixes ∷ [])
    ∷ (Use part.Index ∷ Use part.Suffixes ∷ [])
    ∷ (Use part.Arguments ∷ Use part.Suffixes ∷ [])
    ∷ []
    ∷ []
rules part.Index =
    (Sign kind.LeftBracket ∷ Use part.Expression ∷ Sign kind.RightBracket ∷ [])
    ∷ []
rules part.Arguments =
    (Sign kind.LeftParen ∷ Use part.ArgumentList ∷ Sign kind.RightParen ∷ [])
    ∷ []
-- Arguments = [ Expression { "," Expression } ]
rules part.ArgumentList =
    (Use part.Expression ∷ Use part.MoreArguments ∷ [])
    ∷ []
    ∷ []
rules part.MoreArguments =
    (Sign kind.Comma ∷ Use part.Expression ∷ Use part.MoreArguments ∷ [])
    ∷ []
    ∷ []
-- "new" Name "(" Arguments ")" | "new" Atom "[" Expression "]" { "[" "]" }, then suffixes
rules part.New =
    (Sign kind.Name ∷ Use part.NewOfName ∷ [])
    ∷ (Use part.OtherAtom ∷ Use part.Index ∷ Use part.NewLevels ∷ [])
    ∷ []
rules part.NewOfName =
    (Use part.Arguments ∷ Use part.Suffixes ∷ [])
    ∷ (Use part.Index ∷ Use part.NewLevels ∷ [])
    ∷ []
-- { "[" "]" }, then suffixes: behind a `[` the next token says whether it is a level or an index.
rules part.NewLevels =
    (Sign kind.Dot ∷ Sign kind.Name ∷ Use part.Suffixes ∷ [])
    ∷ (Use part.Arguments ∷ Use part.Suffixes ∷ [])
    ∷ (Sign kind.LeftBracket ∷ Use part.NewLevel ∷ [])
    ∷ []
    ∷ []
rules part.NewLevel =
    (Sign kind.RightBracket ∷ Use part.NewLevels ∷ [])
    ∷ (Use part.Expression ∷ Sign kind.RightBracket ∷ Use part.Suffixes ∷ [])
    ∷ []
-- Primary = Number | Char | String | "true" | "false" | "null" | "this" | Name | "(" Expression ")" | a `new`
rules part.Primary =
    (Sign kind.Number ∷ [])
    ∷ (Sign kind.CharLiteral ∷ [])
    ∷ (Sign kind.StringLiteral ∷ [])
    ∷ (Sign kind.True ∷ [])
    ∷ (Sign kind.False ∷ [])
    ∷ (Sign kind.Null ∷ [])
    ∷ (Sign kind.This ∷ [])
    ∷ (Sign kind.Name ∷ [])
    ∷ (Sign kind.LeftParen ∷ Use part.Expression ∷ Sign kind.RightParen ∷ [])
    ∷ []
