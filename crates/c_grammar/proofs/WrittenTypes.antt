-- Types of the subset are spelled by their texts, and so are names with their types.
use Rattle.std.proofs.Common.{ℕ, Bool, true, false, ◌++◌, refl, Some, codes}
use Rattle.reading.proofs.Rows.{append_nil}
use Rattle.c_ast.specs.declared.types.CScalar.{CScalar}
use Rattle.c_ast.specs.declared.types.CBase.{CBase}
use Rattle.c_ast.specs.declared.types.CBase.TheVariants.{Scalar, Struct}
use Rattle.c_ast.specs.declared.types.CType.{CType}
use Rattle.c_ast.specs.declared.types.CType.TheVariants.{Void, Value, Pointer}
use Rattle.c_ast.specs.Syntax.{Name}
use Rattle.c_text.specs.Identifiers.{IsIdentifier}
use Rattle.c_text.specs.TypeText.{scalar_text, base_text, star_text, type_text}
use Rattle.c_text.specs.Subset.{BaseInSubset, ValueInSubset}
use Rattle.c_grammar.specs.Pieces.{Word, Blanks, Byte}
use Rattle.c_grammar.specs.Symbols.{blank, star, word_const}
use Rattle.c_grammar.specs.TypeRules.{name, scalar, tag, base, scalar_type, struct_pointer, pointer, value_type, const_name}
use Rattle.c_grammar.proofs.Words.{name_piece, scalar_piece}
use Rattle.c_grammar.proofs.Written.{Written, as_text, one_piece, nothing, mapped, in_sequence, ◌then◌, first_of, second_of}

module _ {d : ℕ} where
  pub a_blank : Written d blank (Blanks 1) (codes " ")
  a_blank = one_piece (Blanks 1) refl

  pub a_star : Written d star (Byte 42) (codes "*")
  a_star = one_piece (Byte 42) refl

  pub a_const : Written d word_const (Word (codes "const")) (codes "const")
  a_const = one_piece (Word (codes "const")) refl

  pub name_written : (x : Name) → IsIdentifier x → Written d name x x
  name_written x is = one_piece (Word x) (name_piece d x is)

  pub scalar_written : (s : CScalar) → Written d scalar s (scalar_text s)
  scalar_written s = one_piece (Word (scalar_text s)) (scalar_piece d s)

  pub tag_written : (x : Name) → IsIdentifier x → Written d tag x (codes "struct " ++ x)
  tag_written x is = as_text (one_piece (Word (codes "struct")) refl then (a_blank then name_written x is)) refl

  pub base_written : (b : CBase) → BaseInSubset b → Written d base b (base_text b)
  base_written (Scalar s) is = first_of (mapped Scalar (scalar_written s))
  base_written (Struct x) is = second_of (mapped Struct (tag_written x is))

  pub pointer_written : (constant : Bool) → Written d pointer constant (star_text constant)
  pointer_written false = as_text (a_blank then first_of (mapped (λ _. false) a_star)) refl
  pointer_written true = as_text (a_blank then second_of (mapped (λ _. true) (a_const then (a_blank then a_star)))) refl

  pub value_type_written : (t : CType) → ValueInSubset t → Written d value_type t (type_text t)
  value_type_written Void is = absurd is
  value_type_written (Value s) is = as_text (first_of (in_sequence scalar_type (scalar_written s) (second_of nothing))) (append_nil (scalar_text s))
  value_type_written (Pointer constant (Scalar s)) is = first_of (in_sequence scalar_type (scalar_written s) (first_of (mapped Some (pointer_written constant))))
  value_type_written (Pointer constant (Struct x)) is = second_of (in_sequence struct_pointer (tag_written x is) (pointer_written constant))

  -- ---- names that hold values

  pub const_name_written : (x : Name) → IsIdentifier x → Written d const_name x (codes "const " ++ x)
  const_name_written x is = as_text (a_const then (a_blank then name_written x is)) refl
