-- Small texts, and exactly what is answered of them: examples that hold the definitions fast.
use Rattle.std.specs.Prelude.{ℕ, zero, suc, List, [], ◌++◌, codes}
use Rattle.c_ast.specs.declared.types.Target.TheVariants.{T32}
use Rattle.c_ast.specs.Syntax.{TranslationUnit}
use Rattle.c_text.specs.declared.fault.CWhy.{CWhy}
use Rattle.c_text.specs.declared.fault.CWhy.TheVariants.{Syntax, TooDeep, BadName, BadType}
use Rattle.c_text.specs.Spelling.{fixed_text}
use Rattle.c_text.specs.ReadsBack.{ReadsBack}
use Rattle.c_text.specs.Faults.{HasFault}

-- behind the three fixed lines, which have 75 bytes
abbrev pub text_of : List ℕ → List ℕ
text_of lines = fixed_text ++ lines

abbrev pub At : List ℕ → ℕ → CWhy → Type 0
At text at why = HasFault T32 text (record { at = at; why = why })

abbrev pub nothing : TranslationUnit
nothing = record { structs = []; externs = []; objects = []; functions = [] }

-- so many `(-` before the rest
abbrev pub opened : ℕ → List ℕ → List ℕ
opened zero rest = rest
opened (suc n) rest = codes "(-" ++ opened n rest

-- a blank too many, one that is missing, and an end too early
abbrev pub two_blanks : List ℕ
two_blanks = text_of (codes "static  uint8_t *iv_f(void) {\n  uint8_t x = 1;\n  return (&x);\n}\n")

abbrev pub for_without_blank : List ℕ
for_without_blank = text_of (codes "void iv_main(void) {\n  for(;;) {\n  }\n}\n")

abbrev pub ends_early : List ℕ
ends_early = text_of (codes "void iv_a(void) {\n")

-- so many brackets, and the text ends there
abbrev pub ends_open : ℕ → List ℕ
ends_open n = text_of (codes "static uint8_t iv_a = " ++ opened n [])

-- a call of nothing, a break outside of a loop, and a return without a value before or behind such a call
abbrev pub unknown_call : List ℕ
unknown_call = text_of (codes "void iv_a(void) {\n  iv_b();\n}\n")

abbrev pub break_outside : List ℕ
break_outside = text_of (codes "void iv_a(void) {\n  break;\n}\n")

abbrev pub name_first : List ℕ
name_first = text_of (codes "uint8_t iv_a(void) {\n  iv_b();\n  return;\n}\n")

abbrev pub type_first : List ℕ
type_first = text_of (codes "uint8_t iv_a(void) {\n  return;\n  iv_b();\n}\n")

pub record SmallTexts : Type 0 where
  pub no_lines : ReadsBack nothing (text_of []) T32
  pub blanks : At two_blanks 81 Syntax
  pub blank : At for_without_blank 101 Syntax
  pub early : At ends_early 93 Syntax
  pub open_300 : At (ends_open 300) 697 Syntax
  pub open_301 : At (ends_open 301) 697 TooDeep
  pub call : At unknown_call 95 BadName
  pub outside : At break_outside 95 BadType
  pub earlier_name : At name_first 98 BadName
  pub earlier_type : At type_first 98 BadType
