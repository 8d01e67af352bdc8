-- Each row of symbols has a row of parses: what is left of a text can always be completed.
-- A shortest parse of each part is written down, one line a part, from the parts that it is made of. The last lemma joins
-- these along any row of symbols.
use Rattle.std.proofs.Common.{◌≡◌, ℕ, List, [], ◌∷◌, Some, refl}
use Rattle.vg_syntax.specs.declared.kind.Kind.{Kind}
use Rattle.vg_syntax.specs.declared.grammar.Symbol.{Symbol}
use Rattle.vg_syntax.specs.declared.grammar.Symbol.TheVariants.{Sign, Use}
use Rattle.vg_syntax.specs.declared.grammar.Part.{Part}
use Rattle.vg_syntax.specs.declared.grammar.Part.TheVariants as part
use Rattle.vg_syntax.specs.declared.kind.Kind.TheVariants as kind
use Rattle.vg_syntax.specs.Grammar.{rules}
use Rattle.vg_syntax.specs.Parses.{Parse, Nil, Tok, Sub, nth, Fits}
use Rattle.vg_grammar.proofs.Rows.{join, fits_join}

unfoldable pub Has : List Symbol → Type 0
Has s = (q : Parse) × Fits q s

nil : Has []
unfolding Has
nil = (Nil, tt)

tok : (s : List Symbol) (k : Kind) → Has s → Has (Sign k ∷ s)
unfolding Has
tok s k h = (Tok (record { kind = k; place = record { line = 1; col = 1 }; start = 0; end = 0 }) h.0, (refl, h.1))

one_of : (n : Part) (a : ℕ) (rhs : List Symbol) → nth (rules n) a ≡ Some rhs → Has rhs → Has (Use n ∷ [])
unfolding Has
one_of n a rhs e h = (Sub n a h.0 Nil, (refl, rhs, e, h.1, tt))

part_of : (s : List Symbol) (n : Part) → Has (Use n ∷ []) → Has s → Has (Use n ∷ s)
unfolding Has
part_of s n p h = (join p.0 h.0, fits_join p.0 h.0 (Use n ∷ []) s p.1 h.1)

a_members : Has (Use part.Members ∷ [])
a_members = one_of part.Members 1 _ refl nil

a_class_body : Has (Use part.ClassBody ∷ [])
a_class_body = one_of part.ClassBody 0 _ refl (tok _ kind.LeftBrace (part_of _ _ a_members (tok _ kind.RightBrace nil)))

a_declaration : Has (Use part.Declaration ∷ [])
a_declaration = one_of part.Declaration 1 _ refl (tok _ kind.Component (tok _ kind.Name (part_of _ _ a_class_body nil)))

a_declarations : Has (Use part.Declarations ∷ [])
a_declarations = one_of part.Declarations 1 _ refl nil

a_text : Has (Use part.Text ∷ [])
a_text = one_of part.Text 0 _ refl (part_of _ _ a_declaration (part_of _ _ a_declarations nil))

a_extends : Has (Use part.Extends ∷ [])
a_extends = one_of part.Extends 1 _ refl nil

a_registers : Has (Use part.Registers ∷ [])
a_registers = one_of part.Registers 1 _ refl nil

a_device_body : Has (Use part.DeviceBody ∷ [])
a_device_body = one_of part.DeviceBody 0 _ refl (tok _ kind.LeftBrace (part_of _ _ a_registers (tok _ kind.RightBrace nil)))

a_register : Has (Use part.Register ∷ [])
a_register = one_of part.Register 0 _ refl (tok _ kind.Register (tok _ kind.Name (tok _ kind.Assign (tok _ kind.Number (tok _ kind.Semicolon nil)))))

a_entries : Has (Use part.Entries ∷ [])
a_entries = one_of part.Entries 1 _ refl nil

a_program_body : Has (Use part.ProgramBody ∷ [])
a_program_body = one_of part.ProgramBody 0 _ refl (tok _ kind.LeftBrace (part_of _ _ a_entries (tok _ kind.RightBrace nil)))

a_key : Has (Use part.Key ∷ [])
a_key = one_of part.Key 0 _ refl (tok _ kind.Name nil)

a_handler : Has (Use part.Handler ∷ [])
a_handler = one_of part.Handler 0 _ refl (tok _ kind.Name (tok _ kind.Dot (tok _ kind.Name nil)))

a_entry : Has (Use part.Entry ∷ [])
a_entry = one_of part.Entry 0 _ refl (tok _ kind.Entry (part_of _ _ a_key (tok _ kind.Assign (part_of _ _ a_handler (tok _ kind.Semicolon nil)))))

a_parameter_list : Has (Use part.ParameterList ∷ [])
a_parameter_list = one_of part.ParameterList 1 _ refl nil

a_parameters : Has (Use part.Parameters ∷ [])
a_parameters = one_of part.Parameters 0 _ refl (tok _ kind.LeftParen (part_of _ _ a_parameter_list (tok _ kind.RightParen nil)))

a_super_call : Has (Use part.SuperCall ∷ [])
a_super_call = one_of part.SuperCall 1 _ refl nil

a_statements : Has (Use part.Statements ∷ [])
a_statements = one_of part.Statements 1 _ refl nil

a_block : Has (Use part.Block ∷ [])
a_block = one_of part.Block 0 _ refl (tok _ kind.LeftBrace (part_of _ _ a_statements (tok _ kind.RightBrace nil)))

a_member : Has (Use part.Member ∷ [])
a_member = one_of part.Member 2 _ refl (tok _ kind.Constructor (part_of _ _ a_parameters (part_of _ _ a_super_call (part_of _ _ a_block nil))))

a_initial : Has (Use part.Initial ∷ [])
a_initial = one_of part.Initial 1 _ refl nil

a_result : Has (Use part.Result ∷ [])
a_result = one_of part.Result 1 _ refl nil

a_more_parameters : Has (Use part.MoreParameters ∷ [])
a_more_parameters = one_of part.MoreParameters 1 _ refl nil

a_atom : Has (Use part.Atom ∷ [])
a_atom = one_of part.Atom 0 _ refl (tok _ kind.Name nil)

a_dimensions : Has (Use part.Dimensions ∷ [])
a_dimensions = one_of part.Dimensions 1 _ refl nil

a_plain : Has (Use part.Plain ∷ [])
a_plain = one_of part.Plain 0 _ refl (part_of _ _ a_atom (part_of _ _ a_dimensions nil))

a_type : Has (Use part.Type ∷ [])
a_type = one_of part.Type 0 _ refl (part_of _ _ a_plain nil)

a_typed : Has (Use part.Typed ∷ [])
a_typed = one_of part.Typed 0 _ refl (tok _ kind.Name (tok _ kind.Colon (part_of _ _ a_type nil)))

a_type_list : Has (Use part.TypeList ∷ [])
a_type_list = one_of part.TypeList 1 _ refl nil

a_type_arguments : Has (Use part.TypeArguments ∷ [])
a_type_arguments = one_of part.TypeArguments 0 _ refl (tok _ kind.LeftParen (part_of _ _ a_type_list (tok _ kind.RightParen nil)))

a_more_types : Has (Use part.MoreTypes ∷ [])
a_more_types = one_of part.MoreTypes 1 _ refl nil

a_plain_result : Has (Use part.PlainResult ∷ [])
a_plain_result = one_of part.PlainResult 1 _ refl nil

a_other_atom : Has (Use part.OtherAtom ∷ [])
a_other_atom = one_of part.OtherAtom 0 _ refl (tok _ kind.Int nil)

a_statement : Has (Use part.Statement ∷ [])
a_statement = one_of part.Statement 6 _ refl (tok _ kind.Break (tok _ kind.Semicolon nil))

a_primary : Has (Use part.Primary ∷ [])
a_primary = one_of part.Primary 0 _ refl (tok _ kind.Number nil)

a_suffixes : Has (Use part.Suffixes ∷ [])
a_suffixes = one_of part.Suffixes 3 _ refl nil

a_postfix : Has (Use part.Postfix ∷ [])
a_postfix = one_of part.Postfix 0 _ refl (part_of _ _ a_primary (part_of _ _ a_suffixes nil))

a_unary : Has (Use part.Unary ∷ [])
a_unary = one_of part.Unary 3 _ refl (part_of _ _ a_postfix nil)

a_cast_rest : Has (Use part.CastRest ∷ [])
a_cast_rest = one_of part.CastRest 1 _ refl nil

a_cast_level : Has (Use part.CastLevel ∷ [])
a_cast_level = one_of part.CastLevel 0 _ refl (part_of _ _ a_unary (part_of _ _ a_cast_rest nil))

a_product_rest : Has (Use part.ProductRest ∷ [])
a_product_rest = one_of part.ProductRest 3 _ refl nil

a_product_level : Has (Use part.ProductLevel ∷ [])
a_product_level = one_of part.ProductLevel 0 _ refl (part_of _ _ a_cast_level (part_of _ _ a_product_rest nil))

a_sum_rest : Has (Use part.SumRest ∷ [])
a_sum_rest = one_of part.SumRest 2 _ refl nil

a_sum_level : Has (Use part.SumLevel ∷ [])
a_sum_level = one_of part.SumLevel 0 _ refl (part_of _ _ a_product_level (part_of _ _ a_sum_rest nil))

a_concat_rest : Has (Use part.ConcatRest ∷ [])
a_concat_rest = one_of part.ConcatRest 1 _ refl nil

a_concat_level : Has (Use part.ConcatLevel ∷ [])
a_concat_level = one_of part.ConcatLevel 0 _ refl (part_of _ _ a_sum_level (part_of _ _ a_concat_rest nil))

a_shift_rest : Has (Use part.ShiftRest ∷ [])
a_shift_rest = one_of part.ShiftRest 2 _ refl nil

a_shift_level : Has (Use part.ShiftLevel ∷ [])
a_shift_level = one_of part.ShiftLevel 0 _ refl (part_of _ _ a_concat_level (part_of _ _ a_shift_rest nil))

a_bit_and_rest : Has (Use part.BitAndRest ∷ [])
a_bit_and_rest = one_of part.BitAndRest 1 _ refl nil

a_bit_and_level : Has (Use part.BitAndLevel ∷ [])
a_bit_and_level = one_of part.BitAndLevel 0 _ refl (part_of _ _ a_shift_level (part_of _ _ a_bit_and_rest nil))

a_bit_xor_rest : Has (Use part.BitXorRest ∷ [])
a_bit_xor_rest = one_of part.BitXorRest 1 _ refl nil

a_bit_xor_level : Has (Use part.BitXorLevel ∷ [])
a_bit_xor_level = one_of part.BitXorLevel 0 _ refl (part_of _ _ a_bit_and_level (part_of _ _ a_bit_xor_rest nil))

a_bit_or_rest : Has (Use part.BitOrRest ∷ [])
a_bit_or_rest = one_of part.BitOrRest 1 _ refl nil

a_bit_or_level : Has (Use part.BitOrLevel ∷ [])
a_bit_or_level = one_of part.BitOrLevel 0 _ refl (part_of _ _ a_bit_xor_level (part_of _ _ a_bit_or_rest nil))

a_comparison_rest : Has (Use part.ComparisonRest ∷ [])
a_comparison_rest = one_of part.ComparisonRest 5 _ refl nil

a_comparison_level : Has (Use part.ComparisonLevel ∷ [])
a_comparison_level = one_of part.ComparisonLevel 0 _ refl (part_of _ _ a_bit_or_level (part_of _ _ a_comparison_rest nil))

a_equality_rest : Has (Use part.EqualityRest ∷ [])
a_equality_rest = one_of part.EqualityRest 2 _ refl nil

a_equality_level : Has (Use part.EqualityLevel ∷ [])
a_equality_level = one_of part.EqualityLevel 0 _ refl (part_of _ _ a_comparison_level (part_of _ _ a_equality_rest nil))

a_and_rest : Has (Use part.AndRest ∷ [])
a_and_rest = one_of part.AndRest 1 _ refl nil

a_and_level : Has (Use part.AndLevel ∷ [])
a_and_level = one_of part.AndLevel 0 _ refl (part_of _ _ a_equality_level (part_of _ _ a_and_rest nil))

a_or_rest : Has (Use part.OrRest ∷ [])
a_or_rest = one_of part.OrRest 1 _ refl nil

a_expression : Has (Use part.Expression ∷ [])
a_expression = one_of part.Expression 0 _ refl (part_of _ _ a_and_level (part_of _ _ a_or_rest nil))

a_condition : Has (Use part.Condition ∷ [])
a_condition = one_of part.Condition 0 _ refl (tok _ kind.LeftParen (part_of _ _ a_expression (tok _ kind.RightParen nil)))

a_else : Has (Use part.Else ∷ [])
a_else = one_of part.Else 1 _ refl nil

a_else_arm : Has (Use part.ElseArm ∷ [])
a_else_arm = one_of part.ElseArm 1 _ refl (part_of _ _ a_block nil)

a_maybe_simple : Has (Use part.MaybeSimple ∷ [])
a_maybe_simple = one_of part.MaybeSimple 1 _ refl nil

a_for_test : Has (Use part.ForTest ∷ [])
a_for_test = one_of part.ForTest 0 _ refl (tok _ kind.Semicolon (part_of _ _ a_expression (tok _ kind.Semicolon nil)))

a_for_header : Has (Use part.ForHeader ∷ [])
a_for_header =
    one_of part.ForHeader 0 _ refl (tok _ kind.LeftParen (part_of _ _ a_maybe_simple
    (part_of _ _ a_for_test (part_of _ _ a_maybe_simple (tok _ kind.RightParen nil)))))

a_maybe_expression : Has (Use part.MaybeExpression ∷ [])
a_maybe_expression = one_of part.MaybeExpression 1 _ refl nil

a_assigned : Has (Use part.Assigned ∷ [])
a_assigned = one_of part.Assigned 1 _ refl nil

a_simple : Has (Use part.Simple ∷ [])
a_simple = one_of part.Simple 0 _ refl (part_of _ _ a_expression (part_of _ _ a_assigned nil))

a_operators : Has (Use part.Operators ∷ [])
a_operators = one_of part.Operators 3 _ refl nil

a_index : Has (Use part.Index ∷ [])
a_index = one_of part.Index 0 _ refl (tok _ kind.LeftBracket (part_of _ _ a_expression (tok _ kind.RightBracket nil)))

a_argument_list : Has (Use part.ArgumentList ∷ [])
a_argument_list = one_of part.ArgumentList 1 _ refl nil

a_arguments : Has (Use part.Arguments ∷ [])
a_arguments = one_of part.Arguments 0 _ refl (tok _ kind.LeftParen (part_of _ _ a_argument_list (tok _ kind.RightParen nil)))

a_more_arguments : Has (Use part.MoreArguments ∷ [])
a_more_arguments = one_of part.MoreArguments 1 _ refl nil

a_new_of_name : Has (Use part.NewOfName ∷ [])
a_new_of_name = one_of part.NewOfName 0 _ refl (part_of _ _ a_arguments (part_of _ _ a_suffixes nil))

a_new : Has (Use part.New ∷ [])
a_new = one_of part.New 0 _ refl (tok _ kind.Name (part_of _ _ a_new_of_name nil))

a_new_levels : Has (Use part.NewLevels ∷ [])
a_new_levels = one_of part.NewLevels 3 _ refl nil

a_new_level : Has (Use part.NewLevel ∷ [])
a_new_level = one_of part.NewLevel 0 _ refl (tok _ kind.RightBracket (part_of _ _ a_new_levels nil))

least : (n : Part) → Has (Use n ∷ [])
least part.Text = a_text
least part.Declarations = a_declarations
least part.Declaration = a_declaration
least part.Extends = a_extends
least part.ClassBody = a_class_body
least part.Members = a_members
least part.DeviceBody = a_device_body
least part.Registers = a_registers
least part.Register = a_register
least part.ProgramBody = a_program_body
least part.Entries = a_entries
least part.Entry = a_entry
least part.Key = a_key
least part.Handler = a_handler
least part.Member = a_member
least part.Initial = a_initial
least part.Result = a_result
least part.SuperCall = a_super_call
least part.Parameters = a_parameters
least part.ParameterList = a_parameter_list
least part.MoreParameters = a_more_parameters
least part.Typed = a_typed
least part.Type = a_type
least part.TypeArguments = a_type_arguments
least part.TypeList = a_type_list
least part.MoreTypes = a_more_types
least part.PlainResult = a_plain_result
least part.Plain = a_plain
least part.Dimensions = a_dimensions
least part.Atom = a_atom
least part.OtherAtom = a_other_atom
least part.Block = a_block
least part.Statements = a_statements
least part.Statement = a_statement
least part.Condition = a_condition
least part.Else = a_else
least part.ElseArm = a_else_arm
least part.ForHeader = a_for_header
least part.ForTest = a_for_test
least part.MaybeSimple = a_maybe_simple
least part.MaybeExpression = a_maybe_expression
least part.Simple = a_simple
least part.Assigned = a_assigned
least part.Expression = a_expression
least part.OrRest = a_or_rest
least part.AndLevel = a_and_level
least part.AndRest = a_and_rest
least part.EqualityLevel = a_equality_level
least part.EqualityRest = a_equality_rest
least part.ComparisonLevel = a_comparison_level
least part.ComparisonRest = a_comparison_rest
least part.BitOrLevel = a_bit_or_level
least part.BitOrRest = a_bit_or_rest
least part.BitXorLevel = a_bit_xor_level
least part.BitXorRest = a_bit_xor_rest
least part.BitAndLevel = a_bit_and_level
least part.BitAndRest = a_bit_and_rest
least part.ShiftLevel = a_shift_level
least part.ShiftRest = a_shift_rest
least part.ConcatLevel = a_concat_level
least part.ConcatRest = a_concat_rest
least part.SumLevel = a_sum_level
least part.SumRest = a_sum_rest
least part.ProductLevel = a_product_level
least part.ProductRest = a_product_rest
least part.CastLevel = a_cast_level
least part.CastRest = a_cast_rest
least part.Unary = a_unary
least part.Operators = a_operators
least part.Postfix = a_postfix
least part.Suffixes = a_suffixes
least part.Index = a_index
least part.Arguments = a_arguments
least part.ArgumentList = a_argument_list
least part.MoreArguments = a_more_arguments
least part.New = a_new
least part.NewOfName = a_new_of_name
least part.NewLevels = a_new_levels
least part.NewLevel = a_new_level
least part.Primary = a_primary

pub completed : (s : List Symbol) → Has s
completed [] = nil
completed (Sign k ∷ s) = tok s k (completed s)
completed (Use n ∷ s) = part_of s n (least n) (completed s)
