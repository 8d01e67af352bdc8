-- Mirrors: how the code makes parts of their kids, many of them alike.
use Rattle.vg_syntax.specs.Made.{Value}
use Rattle.vg_syntax.specs.Reads.{Kids}
use Rattle.vg_syntax.specs.Reads.{rowed, more_rowed, enclosed, optional, behind_sign, result_type, type_of, types, more_types, plain, dimensions, atom}
use Rattle.vg_syntax.specs.Reads.{other_atom, whole, declaration, extended, register, entry, handler, member, super_call, parameters, more_parameters}
use Rattle.vg_syntax.specs.Reads.{typed, block, statement, else_part, else_arm, header, simple, level, rest_of_level, unary, operators, postfix, suffixes}
use Rattle.vg_syntax.specs.Reads.{primary, new_part, new_of_name, new_levels, new_level}
use Rattle.vg_reader.specs.declared.sort.Maker.{Maker}
use Rattle.vg_reader.specs.declared.sort.Maker.TheVariants as maker
use Rattle.vg_reader.specs.declared.sort.RowMaker.{RowMaker}
use Rattle.vg_reader.specs.declared.sort.RowMaker.TheVariants as row_maker
use Rattle.vg_reader.specs.declared.sort.TypeMaker.{TypeMaker}
use Rattle.vg_reader.specs.declared.sort.TypeMaker.TheVariants as type_maker
use Rattle.vg_reader.specs.declared.sort.DeclarationMaker.{DeclarationMaker}
use Rattle.vg_reader.specs.declared.sort.DeclarationMaker.TheVariants as declaration_maker
use Rattle.vg_reader.specs.declared.sort.StatementMaker.{StatementMaker}
use Rattle.vg_reader.specs.declared.sort.StatementMaker.TheVariants as statement_maker
use Rattle.vg_reader.specs.declared.sort.ExpressionMaker.{ExpressionMaker}
use Rattle.vg_reader.specs.declared.sort.ExpressionMaker.TheVariants as expression_maker
use Rattle.vg_reader.specs.declared.sort.NewMaker.{NewMaker}
use Rattle.vg_reader.specs.declared.sort.NewMaker.TheVariants as new_maker

abbrev pub made_row : RowMaker → Kids → Value
made_row row_maker.Row kids = rowed kids
made_row row_maker.MoreRow kids = more_rowed kids
made_row row_maker.Enclosed kids = enclosed kids
made_row row_maker.Optional kids = optional kids
made_row row_maker.BehindSign kids = behind_sign kids

abbrev pub made_type : TypeMaker → Kids → Value
made_type type_maker.Result kids = result_type kids
made_type type_maker.Whole kids = type_of kids
made_type type_maker.Types kids = types kids
made_type type_maker.MoreTypes kids = more_types kids
made_type type_maker.Plain kids = plain kids
made_type type_maker.Dimensions kids = dimensions kids
made_type type_maker.Atom kids = atom kids
made_type type_maker.OtherAtom kids = other_atom kids

abbrev pub made_declaration : DeclarationMaker → Kids → Value
made_declaration declaration_maker.Whole kids = whole kids
made_declaration declaration_maker.Declaration kids = declaration kids
made_declaration declaration_maker.Extended kids = extended kids
made_declaration declaration_maker.Register kids = register kids
made_declaration declaration_maker.Entry kids = entry kids
made_declaration declaration_maker.Handler kids = handler kids
made_declaration declaration_maker.Member kids = member kids
made_declaration declaration_maker.SuperCall kids = super_call kids
made_declaration declaration_maker.Parameters kids = parameters kids
made_declaration declaration_maker.MoreParameters kids = more_parameters kids
made_declaration declaration_maker.Typed kids = typed kids

abbrev pub made_statement : StatementMaker → Kids → Value
made_statement statement_maker.Block kids = block kids
made_statement statement_maker.Statement kids = statement kids
made_statement statement_maker.Else kids = else_part kids
made_statement statement_maker.ElseArm kids = else_arm kids
made_statement statement_maker.Header kids = header kids
made_statement statement_maker.Simple kids = simple kids

abbrev pub made_expression : ExpressionMaker → Kids → Value
made_expression expression_maker.Level kids = level kids
made_expression expression_maker.Rest kids = rest_of_level kids
made_expression expression_maker.Unary kids = unary kids
made_expression expression_maker.Operators kids = operators kids
made_expression expression_maker.Postfix kids = postfix kids
made_expression expression_maker.Suffixes kids = suffixes kids
made_expression expression_maker.Primary kids = primary kids

abbrev pub made_new : NewMaker → Kids → Value
made_new new_maker.Fresh kids = new_part kids
made_new new_maker.OfName kids = new_of_name kids
made_new new_maker.Levels kids = new_levels kids
made_new new_maker.Level kids = new_level kids

-- what is made so of kids
abbrev pub made_by : Maker → Kids → Value
made_by (maker.Row by) kids = made_row by kids
made_by (maker.Type by) kids = made_type by kids
made_by (maker.Declaration by) kids = made_declaration by kids
made_by (maker.Statement by) kids = made_statement by kids
made_by (maker.Expression by) kids = made_expression by kids
made_by (maker.New by) kids = made_new by kids
