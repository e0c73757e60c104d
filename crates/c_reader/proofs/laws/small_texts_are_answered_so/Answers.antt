-- By computation.
use Rattle.std.proofs.Common.{[], refl}
use Rattle.reading.specs.Reader.{many}
use Rattle.grammars.specs.Reader.{in_stages, read}
use Rattle.c_text.specs.declared.fault.CWhy.TheVariants.{Syntax, TooDeep, BadName, BadType}
use Rattle.c_grammar.specs.ExpressionRules.{expression, binary_operator, tail, value_inside}
use Rattle.c_grammar.specs.StatementRules.{value_or_call, simple, statement}
use Rattle.c_grammar.specs.UnitRules.{defined, first_value, static_item, at_stage, fixed_lines}
use Rattle.c_reader.specs.Examples.{text_of, nothing, two_blanks, for_without_blank, ends_early, ends_open, unknown_call, break_outside, name_first, type_first}
use Rattle.c_reader.proofs.Examples.{fault_is, unit_is}
use Rattle.c_reader.proofs.laws.small_texts_are_answered_so.Goals as goal

pub returns : goal.returns
unfolding read many in_stages expression binary_operator tail value_inside value_or_call simple statement defined first_value static_item at_stage fixed_lines
returns c = record {
  no_lines = unit_is (text_of []) nothing refl refl;
  blanks = fault_is two_blanks (record { at = 81; why = Syntax }) refl;
  blank = fault_is for_without_blank (record { at = 101; why = Syntax }) refl;
  early = fault_is ends_early (record { at = 93; why = Syntax }) refl;
  open_300 = fault_is (ends_open 300) (record { at = 697; why = Syntax }) refl;
  open_301 = fault_is (ends_open 301) (record { at = 697; why = TooDeep }) refl;
  call = fault_is unknown_call (record { at = 95; why = BadName }) refl;
  outside = fault_is break_outside (record { at = 95; why = BadType }) refl;
  earlier_name = fault_is name_first (record { at = 98; why = BadName }) refl;
  earlier_type = fault_is type_first (record { at = 98; why = BadType }) refl;
}
