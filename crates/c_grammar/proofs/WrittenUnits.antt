-- Structs, externs, objects, functions and units of the subset are spelled by their texts.
use Rattle.std.proofs.Common.{◌≡◌, ◌≢◌, ℕ, zero, suc, ◌≤◌, Bool, true, false, List, [], ◌∷◌, ◌++◌, map, All, refl, sym, ap, ◌∙◌, subst, append_assoc, arith, if◌then◌else◌, Option, Some, None, codes, decimal}
use Rattle.std.proofs.lemmas.List.Elements.{All-head, All-tail}
use Rattle.reading.specs.Row.{Row, tokens}
use Rattle.reading.proofs.Rows.{append_nil}
use Rattle.c_ast.specs.declared.types.CScalar.{CScalar}
use Rattle.c_ast.specs.declared.types.CBase.{CBase}
use Rattle.c_ast.specs.declared.types.CBase.TheVariants.{Scalar, Struct}
use Rattle.c_ast.specs.declared.types.CType.{CType}
use Rattle.c_ast.specs.declared.types.CType.TheVariants.{Void, Value, Pointer}
use Rattle.c_ast.specs.declared.unit.CMember.{CMember}
use Rattle.c_ast.specs.declared.unit.CStruct.{CStruct}
use Rattle.c_ast.specs.declared.unit.CExtern.{CExtern}
use Rattle.c_ast.specs.declared.unit.CParam.{CParam}
use Rattle.c_ast.specs.Syntax.{Name, Init, FileObject, Function, TranslationUnit}
use Rattle.c_text.specs.Identifiers.{IsIdentifier}
use Rattle.c_text.specs.TypeText.{line, listed, texts, scalar_text, base_text, type_text, typed_text, const_text}
use Rattle.c_text.specs.ExpressionText.{init_text}
use Rattle.c_text.specs.StatementText.{block_text, stmts_text}
use Rattle.c_text.specs.Spelling.{length_text, member_text, struct_text, params_text, extern_text, base_const_text, file_object_text, storage_text, param_text, function_text, fixed_text, unit_text}
use Rattle.c_text.specs.Subset.{BaseInSubset, ValueInSubset, ResultInSubset, ExternResultInSubset, InitInSubset, LengthInSubset, MemberInSubset, StructInSubset, ExternInSubset, ObjectInSubset, ParamInSubset, FunctionInSubset, InSubset}
use Rattle.grammars.specs.Grammar as rules
use Rattle.grammars.specs.Grammar.{of_kind, token, sequence, repeat, stage, stages}
use Rattle.grammars.specs.Spelled.{InStages, SpellsWith, Spells}
use Rattle.c_grammar.specs.Pieces.{Piece, Word, Blanks, Byte, joined}
use Rattle.c_grammar.specs.Kinds.{lexicon, exactly, name_word}
use Rattle.c_grammar.specs.Symbols.{left, right, pair, a_length, a_body, the_members, the_types, the_params, stop_params, parens, squares, braces, new_line, semicolon}
use Rattle.c_grammar.specs.Subset.{grammar}
use Rattle.c_grammar.specs.TypeRules.{scalar_type, struct_pointer, not_to_const, to_const, some_pointer as some_name_pointer, no_pointer, pointer_name, typed_name}
use Rattle.c_grammar.specs.StatementRules.{stmts_of, lines}
use Rattle.c_grammar.specs.UnitRules.{member_of, member, members_rule, types_rule, extern_of, extern_result, extern, scalar_param, struct_param, param, params_rule, Defined, defined, function_of, scalar_function, struct_function, plain_function, function, Item, a_struct, an_extern, an_object, a_function, rank, object_of, first_value, some_pointer, same_pointer, named, scalar_item, struct_item, static_item, tagged, struct_or_function, at_stage, items, included, fixed_lines, structs_in, externs_in, objects_in, functions_in, unit_of, unit_rule}
use Rattle.c_grammar.proofs.Words.{length_piece}
use Rattle.c_grammar.proofs.Written.{Written, as_text, as_value, one_piece, nothing, mapped, in_sequence, ◌then◌, ended, first_of, second_of, none, more, within_parens, within_squares, within_braces, joined_append}
use Rattle.c_grammar.proofs.WrittenTypes.{a_blank, a_star, a_const, name_written, scalar_written, tag_written, base_written, value_type_written}
use Rattle.c_grammar.proofs.WrittenLists.{list_written, init_written}
use Rattle.c_grammar.proofs.WrittenStatements.{equals_written, held_written, held_pointer_written, scalar_const_text, struct_const_text, stmt_list, stmts_back, stmts_written}

end_of_line : {d : ℕ} → Written d (rules.after semicolon new_line) (Byte 10) (codes ";\n")
end_of_line = one_piece (Byte 59) refl then one_piece (Byte 10) refl

-- ---- structs

length_written : {d : ℕ} (n : Option ℕ) → LengthInSubset n → Written d (rules.optional (squares a_length)) n (length_text n)
length_written None is = second_of nothing
length_written {d} (Some n) is =
    let one : Written d (squares a_length) n (91 ∷ (decimal n ++ 93 ∷ [])) = within_squares {n = a_length} (one_piece (Word (decimal n)) (length_piece (suc d) n is)) in
    first_of (as_text (mapped Some one) refl)

member_written : (m : CMember) → MemberInSubset m → Written 1 member m (member_text m)
member_written m is =
    as_text (one_piece (Blanks 2) refl then ended (in_sequence member_of (base_written m.base is.base) (a_blank then in_sequence pair (name_written m.name is.name) (length_written m.length is.length))) end_of_line)
    (plain (base_text m.base) m.name (length_text m.length))
  where
    plain : (b x n : List ℕ) → codes "  " ++ ((b ++ (codes " " ++ (x ++ n))) ++ codes ";\n") ≡ line (codes "  " ++ (b ++ codes " " ++ x) ++ n ++ codes ";")
    plain b x n = simp append_assoc refl

others_written : (ms : List CMember) → All MemberInSubset ms → Written 1 (repeat member) ms (texts (map member_text ms))
others_written [] all = none
others_written (m ∷ ms) all = more (member_written m (All-head MemberInSubset m ms all)) (others_written ms (All-tail MemberInSubset m ms all))

members_written : (ms : List CMember) → ms ≢ [] → All MemberInSubset ms → Written 1 members_rule ms (codes "\n" ++ texts (map member_text ms))
members_written [] some all = absurd (some refl)
members_written (m ∷ ms) some all = one_piece (Byte 10) refl then in_sequence (λ m more. m ∷ more) (member_written m (All-head MemberInSubset m ms all)) (others_written ms (All-tail MemberInSubset m ms all))

struct_written : (s : CStruct) → StructInSubset s → Written 0 struct_or_function (a_struct s) (struct_text s)
struct_written s is =
    let body : Written 0 (braces the_members) s.members (123 ∷ ((codes "\n" ++ texts (map member_text s.members)) ++ 125 ∷ [])) = within_braces {n = the_members} (members_written s.members is.some is.members) in
    as_text (in_sequence tagged (tag_written s.name is.name) (a_blank then first_of (mapped left (ended body end_of_line)))) (plain s.name (texts (map member_text s.members)))
  where
    plain : (x t : List ℕ) → (codes "struct " ++ x) ++ (codes " " ++ ((123 ∷ ((codes "\n" ++ t) ++ 125 ∷ [])) ++ codes ";\n")) ≡ line (codes "struct " ++ x ++ codes " {") ++ t ++ line (codes "};")
    plain x t = simp append_assoc refl

-- ---- externs

types_written : {d : ℕ} (ts : List CType) → All ValueInSubset ts → Written d (parens the_types) ts (params_text (map type_text ts))
types_written {d} [] all = within_parens {n = the_types} (first_of (mapped (λ _. []) (one_piece (Word (codes "void")) refl)))
types_written {d} (t ∷ ts) all =
    let inner : Written (suc d) types_rule (t ∷ ts) (listed (map type_text (t ∷ ts))) = second_of (list_written type_text ValueInSubset (λ t is. value_type_written t is) t ts all) in
    as_text (within_parens {n = the_types} inner) refl

extern_head : {d : ℕ} (t : CType) → ExternResultInSubset t → Written d extern_result t (type_text t)
extern_head Void is = first_of (mapped (λ _. Void) (one_piece (Word (codes "void")) refl))
extern_head (Value s) is = second_of (mapped Value (scalar_written s))
extern_head (Pointer constant b) is = absurd is

pub extern_typed : (t : CType) → ExternResultInSubset t → (x : Name) → type_text t ++ codes " " ++ x ≡ typed_text t x
extern_typed Void is x = refl
extern_typed (Value s) is x = refl
extern_typed (Pointer constant b) is x = absurd is

extern_written : (x : CExtern) → ExternInSubset x → Written 0 extern x (extern_text x)
extern_written x is =
    as_text (one_piece (Word (codes "extern")) refl then (a_blank then in_sequence extern_of (extern_head x.result is.result) (a_blank then in_sequence pair (name_written x.name is.name) (ended (types_written x.params is.params) end_of_line))))
    (plain (type_text x.result) x.name (params_text (map type_text x.params)) ∙ ap (λ z. line (codes "extern " ++ z ++ params_text (map type_text x.params) ++ codes ";")) (extern_typed x.result is.result x.name))
  where
    plain : (t x p : List ℕ) → codes "extern" ++ (codes " " ++ (t ++ (codes " " ++ (x ++ (p ++ codes ";\n"))))) ≡ line (codes "extern " ++ (t ++ codes " " ++ x) ++ p ++ codes ";")
    plain t x p = simp append_assoc refl

-- ---- functions

param_written : {d : ℕ} (p : CParam) → ParamInSubset p → Written d param p (param_text p)
param_written p is = at p.name is.name p.ty is.ty
  where
    at : {d : ℕ} (x : Name) → IsIdentifier x → (t : CType) → ValueInSubset t → Written d param record { name = x; ty = t } (const_text t x)
    at x is Void h = absurd h
    at x is (Value s) h = first_of (as_text (in_sequence scalar_param (scalar_written s) (a_blank then held_written None x is)) (scalar_const_text s None x))
    at x is (Pointer constant (Scalar s)) h = first_of (as_text (in_sequence scalar_param (scalar_written s) (a_blank then held_written (Some constant) x is)) (scalar_const_text s (Some constant) x))
    at x is (Pointer constant (Struct y)) h = second_of (as_text (in_sequence struct_param (tag_written y h) (a_blank then held_pointer_written constant x is)) (struct_const_text y constant x))

params_written : {d : ℕ} (ps : List CParam) → All ParamInSubset ps → Written d (parens the_params) ps (params_text (map param_text ps))
params_written {d} [] all = within_parens {n = the_params} (first_of (mapped (λ _. []) (one_piece (Word (codes "void")) refl)))
params_written {d} (p ∷ ps) all =
    let inner : Written (suc d) params_rule (p ∷ ps) (listed (map param_text (p ∷ ps))) = second_of (list_written param_text ParamInSubset (λ p is. param_written p is) p ps all) in
    as_text (within_parens {n = the_params} inner) refl

-- all that stands behind the name of a function
abbrev pub rest_text : Function → List ℕ
rest_text f = params_text (map param_text f.params) ++ (codes " " ++ line (block_text 0 (stmts_text 1 f.body)))

defined_written : (f : Function) → FunctionInSubset f → Written 0 defined (f.params, f.body) (rest_text f)
unfolding defined
defined_written f is =
    let inner : Written 1 lines (stmts_of (stmt_list f.body)) (codes "\n" ++ stmts_text 1 f.body) = one_piece (Byte 10) refl then mapped stmts_of (stmts_written f.body is.body 0) in
    let body : Written 0 (braces a_body) f.body (123 ∷ ((codes "\n" ++ stmts_text 1 f.body) ++ 125 ∷ [])) = within_braces {n = a_body} (as_value inner (stmts_back f.body)) in
    as_text (in_sequence pair (params_written f.params is.params) (a_blank then ended body (one_piece (Byte 10) refl)))
    (ap (λ z. params_text (map param_text f.params) ++ (codes " " ++ z)) (plain (stmts_text 1 f.body)))
  where
    plain : (t : List ℕ) → (123 ∷ ((codes "\n" ++ t) ++ 125 ∷ [])) ++ codes "\n" ≡ line (block_text 0 t)
    plain t = simp append_assoc refl

-- ---- a result and its function

abbrev pub shown : Option Bool → Name → List ℕ
shown None x = x
shown (Some false) x = codes "*" ++ x
shown (Some true) x = codes "const *" ++ x

pub scalar_typed : (s : CScalar) (p : Option Bool) (x : Name) → scalar_text s ++ (codes " " ++ shown p x) ≡ typed_text (scalar_type s p) x
scalar_typed s None x = simp append_assoc refl
scalar_typed s (Some false) x = simp append_assoc refl
scalar_typed s (Some true) x = simp append_assoc refl

pub struct_typed : (t : Name) (constant : Bool) (x : Name) → (codes "struct " ++ t) ++ (codes " " ++ shown (Some constant) x) ≡ typed_text (struct_pointer t constant) x
struct_typed t false x = simp append_assoc refl
struct_typed t true x = simp append_assoc refl

pointer_name_written : {d : ℕ} (constant : Bool) (x : Name) → IsIdentifier x → Written d pointer_name (constant, x) (shown (Some constant) x)
pointer_name_written false x is = first_of (mapped not_to_const (a_star then name_written x is))
pointer_name_written true x is = second_of (mapped to_const (as_text (a_const then (a_blank then (a_star then name_written x is))) refl))

typed_name_written : {d : ℕ} (p : Option Bool) (x : Name) → IsIdentifier x → Written d typed_name (p, x) (shown p x)
typed_name_written None x is = second_of (mapped no_pointer (name_written x is))
typed_name_written (Some constant) x is = first_of (mapped some_name_pointer (pointer_name_written constant x is))

pub regroup : (a b c e : List ℕ) → a ++ (b ++ (c ++ e)) ≡ (a ++ (b ++ c)) ++ e
regroup a b c e = simp append_assoc refl

-- ---- functions, wherever they stand

-- that it gives no pointer to a struct
abbrev IsPlain : CType → Type 0
IsPlain Void = Unit {0}
IsPlain (Value s) = Unit {0}
IsPlain (Pointer constant (Scalar s)) = Unit {0}
IsPlain (Pointer constant (Struct t)) = ⊥

module _ (x : Name) (is : IsIdentifier x) (d : Defined) (r : List ℕ) (w : Written 0 defined d r) where
  scalar_written_as : (hidden : Bool) (s : CScalar) (p : Option Bool) → Written 0 (plain_function hidden) (function_of hidden (scalar_type s p) x d) (typed_text (scalar_type s p) x ++ r)
  scalar_written_as hidden s p =
      second_of (as_text (in_sequence (scalar_function hidden) (scalar_written s) (a_blank then in_sequence pair (typed_name_written p x is) w))
      (regroup (scalar_text s) (codes " ") (shown p x) r ∙ ap (λ z. z ++ r) (scalar_typed s p x)))

  plain_written : (hidden : Bool) (t : CType) → IsPlain t → Written 0 (plain_function hidden) (function_of hidden t x d) (typed_text t x ++ r)
  plain_written hidden Void plain = first_of (as_text (one_piece (Word (codes "void")) refl then (a_blank then in_sequence (function_of hidden Void) (name_written x is) w)) (simp append_assoc refl))
  plain_written hidden (Value s) plain = scalar_written_as hidden s None
  plain_written hidden (Pointer constant (Scalar s)) plain = scalar_written_as hidden s (Some constant)
  plain_written hidden (Pointer constant (Struct t)) plain = absurd plain

  pointer_to_struct : (t : Name) → IsIdentifier t → (constant : Bool) → Written 0 (sequence pair pointer_name defined) ((constant, x), d) (shown (Some constant) x ++ r)
  pointer_to_struct t tag constant = in_sequence pair (pointer_name_written constant x is) w

  struct_typed_behind : (t : Name) (constant : Bool) → (codes "struct " ++ t) ++ (codes " " ++ (shown (Some constant) x ++ r)) ≡ typed_text (struct_pointer t constant) x ++ r
  struct_typed_behind t constant = regroup (codes "struct " ++ t) (codes " ") (shown (Some constant) x) r ∙ ap (λ z. z ++ r) (struct_typed t constant x)

  any_written : (hidden : Bool) (t : CType) → ResultInSubset t → Written 0 (function hidden) (function_of hidden t x d) (typed_text t x ++ r)
  any_written hidden Void h = first_of (plain_written hidden Void tt)
  any_written hidden (Value s) h = first_of (plain_written hidden (Value s) tt)
  any_written hidden (Pointer constant (Scalar s)) h = first_of (plain_written hidden (Pointer constant (Scalar s)) tt)
  any_written hidden (Pointer constant (Struct t)) h = second_of (as_text (in_sequence (struct_function hidden) (tag_written t h) (a_blank then pointer_to_struct t h constant)) (struct_typed_behind t constant))

  -- behind `static `
  hidden_scalar : (s : CScalar) (p : Option Bool) → Written 0 static_item (a_function (function_of true (scalar_type s p) x d)) (codes "static " ++ (typed_text (scalar_type s p) x ++ r))
  unfolding static_item
  hidden_scalar s None =
      as_text (one_piece (Word (codes "static")) refl then (a_blank then second_of (first_of (in_sequence scalar_item (scalar_written s) (a_blank then second_of (second_of (in_sequence named (name_written x is) (first_of (mapped left w)))))))))
      (ap (λ z. codes "static " ++ z) (regroup (scalar_text s) (codes " ") (shown None x) r ∙ ap (λ z. z ++ r) (scalar_typed s None x)))
  hidden_scalar s (Some false) =
      as_text (one_piece (Word (codes "static")) refl then (a_blank then second_of (first_of (in_sequence scalar_item (scalar_written s) (a_blank then
      first_of (mapped left (in_sequence (λ x d. (some_pointer (not_to_const x), d)) (a_star then name_written x is) w)))))))
      (ap (λ z. codes "static " ++ z) (regroup (scalar_text s) (codes " ") (shown (Some false) x) r ∙ ap (λ z. z ++ r) (scalar_typed s (Some false) x)))
  hidden_scalar s (Some true) =
      as_text (one_piece (Word (codes "static")) refl then (a_blank then second_of (first_of (in_sequence scalar_item (scalar_written s) (a_blank then
      second_of (first_of (a_const then (a_blank then first_of (mapped left (in_sequence (λ x d. (some_pointer (to_const x), d)) (a_star then name_written x is) w))))))))))
      (ap (λ z. codes "static " ++ z) (regroup (scalar_text s) (codes " ") (shown (Some true) x) r ∙ ap (λ z. z ++ r) (scalar_typed s (Some true) x)))

  hidden_struct : (t : Name) → IsIdentifier t → (constant : Bool) → Written 0 static_item (a_function (function_of true (struct_pointer t constant) x d)) (codes "static " ++ (typed_text (struct_pointer t constant) x ++ r))
  unfolding static_item
  hidden_struct t tag false =
      as_text (one_piece (Word (codes "static")) refl then (a_blank then second_of (second_of (in_sequence struct_item (tag_written t tag) (a_blank then
      first_of (mapped left (in_sequence (λ x d. (same_pointer (not_to_const x), d)) (a_star then name_written x is) w)))))))
      (ap (λ z. codes "static " ++ z) (struct_typed_behind t false))
  hidden_struct t tag true =
      as_text (one_piece (Word (codes "static")) refl then (a_blank then second_of (second_of (in_sequence struct_item (tag_written t tag) (a_blank then
      second_of (first_of (a_const then (a_blank then first_of (mapped left (in_sequence (λ x d. (same_pointer (to_const x), d)) (a_star then name_written x is) w))))))))))
      (ap (λ z. codes "static " ++ z) (struct_typed_behind t true))

  hidden_written : (t : CType) → ResultInSubset t → Written 0 static_item (a_function (function_of true t x d)) (codes "static " ++ (typed_text t x ++ r))
  unfolding static_item
  hidden_written Void h =
      as_text (one_piece (Word (codes "static")) refl then (a_blank then first_of (mapped a_function (one_piece (Word (codes "void")) refl then (a_blank then in_sequence (function_of true Void) (name_written x is) w))))) refl
  hidden_written (Value s) h = hidden_scalar s None
  hidden_written (Pointer constant (Scalar s)) h = hidden_scalar s (Some constant)
  hidden_written (Pointer constant (Struct t)) h = hidden_struct t h constant

  at_start : (t : CType) → ResultInSubset t → Written 0 (at_stage 0) (a_function (function_of false t x d)) (typed_text t x ++ r)
  unfolding at_stage
  at_start Void h = second_of (second_of (second_of (mapped a_function (plain_written false Void tt))))
  at_start (Value s) h = second_of (second_of (second_of (mapped a_function (plain_written false (Value s) tt))))
  at_start (Pointer constant (Scalar s)) h = second_of (second_of (second_of (mapped a_function (plain_written false (Pointer constant (Scalar s)) tt))))
  at_start (Pointer constant (Struct t)) h = first_of (as_text (in_sequence tagged (tag_written t h) (a_blank then second_of (mapped right (pointer_to_struct t h constant)))) (struct_typed_behind t constant))

  at_any_stage : (hidden : Bool) (t : CType) → ResultInSubset t → (s : ℕ) → Written 0 (at_stage s) (a_function (function_of hidden t x d)) (storage_text hidden ++ (typed_text t x ++ r))
  unfolding at_stage
  at_any_stage true t h zero = second_of (second_of (first_of (hidden_written t h)))
  at_any_stage true t h (suc zero) = second_of (first_of (hidden_written t h))
  at_any_stage true t h (suc (suc zero)) = first_of (hidden_written t h)
  at_any_stage true t h (suc (suc (suc n))) = first_of (as_text (one_piece (Word (codes "static")) refl then (a_blank then mapped a_function (any_written true t h))) refl)
  at_any_stage false t h zero = at_start t h
  at_any_stage false t h (suc zero) = second_of (second_of (mapped a_function (any_written false t h)))
  at_any_stage false t h (suc (suc zero)) = second_of (mapped a_function (any_written false t h))
  at_any_stage false t h (suc (suc (suc n))) = second_of (mapped a_function (any_written false t h))

function_written : (f : Function) → FunctionInSubset f → (s : ℕ) → Written 0 (at_stage s) (a_function f) (function_text f)
function_written f is s =
    as_text (at_any_stage f.name is.name (f.params, f.body) (rest_text f) (defined_written f is) f.hidden f.result is.result s)
    (plain (storage_text f.hidden) (typed_text f.result f.name) (params_text (map param_text f.params)) (line (block_text 0 (stmts_text 1 f.body))))
  where
    plain : (a b c e : List ℕ) → a ++ (b ++ (c ++ (codes " " ++ e))) ≡ a ++ b ++ c ++ codes " " ++ e
    plain a b c e = simp append_assoc refl

-- ---- objects

value_line : (i : Init) → InitInSubset i → Written 0 first_value i (codes " = " ++ (init_text i ++ codes ";\n"))
unfolding first_value
value_line i is = equals_written (ended (init_written i is 0) end_of_line)

object_item : (x : Name) → IsIdentifier x → (b : CBase) → BaseInSubset b → (constant : Bool) → (i : Init) → InitInSubset i
    → Written 0 static_item (an_object (object_of b constant x i)) (codes "static " ++ (base_text b ++ (codes " " ++ (base_const_text constant ++ (x ++ (codes " = " ++ (init_text i ++ codes ";\n")))))))
unfolding static_item
object_item x is (Scalar s) h false i v =
    as_text (one_piece (Word (codes "static")) refl then (a_blank then second_of (first_of (in_sequence scalar_item (scalar_written s) (a_blank then second_of (second_of (in_sequence named (name_written x is) (second_of (mapped right (value_line i v)))))))))) refl
object_item x is (Scalar s) h true i v =
    as_text (one_piece (Word (codes "static")) refl then (a_blank then second_of (first_of (in_sequence scalar_item (scalar_written s) (a_blank then second_of (first_of (a_const then (a_blank then
    second_of (mapped right (in_sequence (λ x i. (to_const x, i)) (name_written x is) (value_line i v))))))))))) refl
object_item x is (Struct t) h false i v =
    as_text (one_piece (Word (codes "static")) refl then (a_blank then second_of (second_of (in_sequence struct_item (tag_written t h) (a_blank then second_of (second_of (mapped right (in_sequence (λ x i. (not_to_const x, i)) (name_written x is) (value_line i v))))))))) refl
object_item x is (Struct t) h true i v =
    as_text (one_piece (Word (codes "static")) refl then (a_blank then second_of (second_of (in_sequence struct_item (tag_written t h) (a_blank then second_of (first_of (a_const then (a_blank then
    second_of (mapped right (in_sequence (λ x i. (to_const x, i)) (name_written x is) (value_line i v))))))))))) refl

object_written : (o : FileObject) → ObjectInSubset o → Written 0 static_item (an_object o) (file_object_text o)
object_written o is =
    as_text (object_item o.name is.name o.base is.base o.constant o.init is.init) (plain (base_text o.base) (base_const_text o.constant) o.name (init_text o.init))
  where
    plain : (b c x i : List ℕ) → codes "static " ++ (b ++ (codes " " ++ (c ++ (x ++ (codes " = " ++ (i ++ codes ";\n")))))) ≡ line (codes "static " ++ b ++ codes " " ++ c ++ x ++ codes " = " ++ i ++ codes ";")
    plain b c x i = simp append_assoc refl

object_at : (o : FileObject) → ObjectInSubset o → (s : ℕ) → s ≤ 2 → Written 0 (at_stage s) (an_object o) (file_object_text o)
unfolding at_stage
object_at o is zero low = second_of (second_of (first_of (object_written o is)))
object_at o is (suc zero) low = second_of (first_of (object_written o is))
object_at o is (suc (suc zero)) low = first_of (object_written o is)
object_at o is (suc (suc (suc n))) low = absurd (omega arith)

extern_at : (x : CExtern) → ExternInSubset x → (s : ℕ) → s ≤ 1 → Written 0 (at_stage s) (an_extern x) (extern_text x)
unfolding at_stage
extern_at x is zero low = second_of (first_of (mapped an_extern (extern_written x is)))
extern_at x is (suc zero) low = first_of (mapped an_extern (extern_written x is))
extern_at x is (suc (suc n)) low = absurd (omega arith)

struct_at : (s : CStruct) → StructInSubset s → Written 0 (at_stage 0) (a_struct s) (struct_text s)
unfolding at_stage
struct_at s is = first_of (struct_written s is)

-- ---- the items of a unit, from a stage on

record Staged (s : ℕ) (xs : List Item) (text : List ℕ) : Type 0 where
  row : Row Piece
  spelled : InStages 3 rank (λ k. SpellsWith lexicon 0 (Spells lexicon grammar 1) (at_stage k)) s xs row
  makes : joined (tokens row) ≡ text

next_item : {s : ℕ} {x : Item} {xs : List Item} {t u : List ℕ} → Written 0 (at_stage s) x t → Staged (stage 3 (rank x)) xs u → Staged s (x ∷ xs) (t ++ u)
next_item {t = t} v w = record {
  row = v.row ++ w.row;
  spelled = (v.row, w.row, refl, v.spelled, w.spelled);
  makes = joined_append v.row w.row ∙ ap (λ z. z ++ joined (tokens w.row)) v.makes ∙ ap (λ z. t ++ z) w.makes;
}

functions_from : (fs : List Function) → All FunctionInSubset fs → (s : ℕ) → Staged s (map a_function fs) (texts (map function_text fs))
functions_from [] all s = record { row = []; spelled = refl; makes = refl }
functions_from (f ∷ fs) all s = next_item (function_written f (All-head FunctionInSubset f fs all) s) (functions_from fs (All-tail FunctionInSubset f fs all) 3)

reassociate : (a b t : List ℕ) → a ++ (b ++ t) ≡ (a ++ b) ++ t
reassociate a b t = sym (append_assoc a b t)

same_staged : {s : ℕ} {xs : List Item} {u v : List ℕ} → Staged s xs u → u ≡ v → Staged s xs v
same_staged w e = record { row = w.row; spelled = w.spelled; makes = w.makes ∙ e }

module _ {rest : List Item} {t : List ℕ} where
  objects_from : ((k : ℕ) → Staged k rest t) → (os : List FileObject) → All ObjectInSubset os → (s : ℕ) → s ≤ 2 → Staged s (map an_object os ++ rest) (texts (map file_object_text os) ++ t)
  objects_from h [] all s low = h s
  objects_from h (o ∷ os) all s low =
      same_staged (next_item (object_at o (All-head ObjectInSubset o os all) s low) (objects_from h os (All-tail ObjectInSubset o os all) 2 (omega arith))) (reassociate (file_object_text o) (texts (map file_object_text os)) t)

  externs_from : ((k : ℕ) → k ≤ 2 → Staged k rest t) → (xs : List CExtern) → All ExternInSubset xs → (s : ℕ) → s ≤ 1 → Staged s (map an_extern xs ++ rest) (texts (map extern_text xs) ++ t)
  externs_from h [] all s low = h s (omega arith)
  externs_from h (x ∷ xs) all s low =
      same_staged (next_item (extern_at x (All-head ExternInSubset x xs all) s low) (externs_from h xs (All-tail ExternInSubset x xs all) 1 (omega arith))) (reassociate (extern_text x) (texts (map extern_text xs)) t)

  structs_from : ((k : ℕ) → k ≤ 1 → Staged k rest t) → (ss : List CStruct) → All StructInSubset ss → Staged 0 (map a_struct ss ++ rest) (texts (map struct_text ss) ++ t)
  structs_from h [] all = h 0 (omega arith)
  structs_from h (s ∷ ss) all =
      same_staged (next_item (struct_at s (All-head StructInSubset s ss all)) (structs_from h ss (All-tail StructInSubset s ss all))) (reassociate (struct_text s) (texts (map struct_text ss)) t)

-- ---- the lists of a unit, found again among its items

module _ {A X : Type 0} (found : List Item → List X) (as_item : A → Item) where
  passed_over : ((a : A) (more : List Item) → found (as_item a ∷ more) ≡ found more) → (xs : List A) (rest : List Item) → found (map as_item xs ++ rest) ≡ found rest
  passed_over h [] rest = refl
  passed_over h (x ∷ xs) rest = h x (map as_item xs ++ rest) ∙ passed_over h xs rest

module _ {A : Type 0} (found : List Item → List A) (as_item : A → Item) where
  found_again : ((a : A) (more : List Item) → found (as_item a ∷ more) ≡ a ∷ found more) → (xs : List A) (rest : List Item) → found (map as_item xs ++ rest) ≡ xs ++ found rest
  found_again h [] rest = refl
  found_again h (x ∷ xs) rest = h x (map as_item xs ++ rest) ∙ ap (λ z. x ∷ z) (found_again h xs rest)

abbrev all_items : TranslationUnit → List Item
all_items u = map a_struct u.structs ++ (map an_extern u.externs ++ (map an_object u.objects ++ (map a_function u.functions ++ [])))

unit_again : (u : TranslationUnit) → unit_of (all_items u) ≡ u
unit_again u =
    let fs = map a_function u.functions ++ [] in
    let os = map an_object u.objects ++ fs in
    let xs = map an_extern u.externs ++ os in
    let structs : structs_in (all_items u) ≡ u.structs =
    found_again structs_in a_struct (λ a more. refl) u.structs xs ∙ ap (λ z. u.structs ++ z) (passed_over structs_in an_extern (λ a more. refl) u.externs os ∙ passed_over structs_in an_object (λ a more. refl) u.objects fs ∙ passed_over structs_in a_function (λ a more. refl) u.functions []) ∙ append_nil u.structs in
    let externs : externs_in (all_items u) ≡ u.externs =
    passed_over externs_in a_struct (λ a more. refl) u.structs xs ∙ found_again externs_in an_extern (λ a more. refl) u.externs os ∙ ap (λ z. u.externs ++ z) (passed_over externs_in an_object (λ a more. refl) u.objects fs ∙ passed_over externs_in a_function (λ a more. refl) u.functions []) ∙ append_nil u.externs in
    let objects : objects_in (all_items u) ≡ u.objects =
    passed_over objects_in a_struct (λ a more. refl) u.structs xs ∙ passed_over objects_in an_extern (λ a more. refl) u.externs os ∙ found_again objects_in an_object (λ a more. refl) u.objects fs ∙ ap (λ z. u.objects ++ z) (passed_over objects_in a_function (λ a more. refl) u.functions []) ∙ append_nil u.objects in
    let functions : functions_in (all_items u) ≡ u.functions =
    passed_over functions_in a_struct (λ a more. refl) u.structs xs ∙ passed_over functions_in an_extern (λ a more. refl) u.externs os ∙ passed_over functions_in an_object (λ a more. refl) u.objects fs ∙ found_again functions_in a_function (λ a more. refl) u.functions [] ∙ append_nil u.functions in
    λ i. record { structs = structs i; externs = externs i; objects = objects i; functions = functions i }

-- ---- units

included_written : (w : List ℕ) → ((k : ℕ) → of_kind lexicon k name_word (exactly (Word w)) (Word w) ≡ Some (Word w)) → Written 0 (included w) (Byte 10) (codes "#include <" ++ (w ++ codes ".h>\n"))
included_written w known =
    as_text (one_piece (Byte 35) refl then (one_piece (Word (codes "include")) refl then (a_blank then (one_piece (Byte 60) refl then (one_piece (Word w) (known 0) then (one_piece (Byte 46) refl then
    (one_piece (Word (codes "h")) refl then (one_piece (Byte 62) refl then one_piece (Byte 10) refl)))))))) refl

fixed_written : Written 0 fixed_lines (Byte 10) fixed_text
unfolding fixed_lines
fixed_written =
    let stop : Written 0 (parens stop_params) (Word (codes "uint32_t")) (codes "(uint32_t)") = within_parens {n = stop_params} (one_piece (Word (codes "uint32_t")) refl) in
    as_text (included_written (codes "stdint") (λ k. refl) then (included_written (codes "stdbool") (λ k. refl) then
    (one_piece (Word (codes "extern")) refl then (a_blank then (one_piece (Word (codes "void")) refl then (a_blank then (one_piece (Word (codes "ivory_stop")) refl then (stop then end_of_line)))))))) refl

items_written : (u : TranslationUnit) → InSubset u → Staged 0 (all_items u) (texts (map struct_text u.structs) ++ (texts (map extern_text u.externs) ++ (texts (map file_object_text u.objects) ++ (texts (map function_text u.functions) ++ []))))
items_written u is =
    let functions : (k : ℕ) → Staged k (map a_function u.functions ++ []) (texts (map function_text u.functions) ++ []) = λ k.
    subst (λ xs. Staged k xs (texts (map function_text u.functions) ++ [])) (sym (append_nil (map a_function u.functions))) (same_staged (functions_from u.functions is.functions k) (sym (append_nil (texts (map function_text u.functions))))) in
    structs_from (λ k low. externs_from (λ j less. objects_from functions u.objects is.objects j less) u.externs is.externs k low) u.structs is.structs

pub unit_written : (u : TranslationUnit) → InSubset u → Written 0 unit_rule u (unit_text u)
unit_written u is =
    let w = items_written u is in
    let list : Written 0 items (all_items u) (texts (map struct_text u.structs) ++ (texts (map extern_text u.externs) ++ (texts (map file_object_text u.objects) ++ (texts (map function_text u.functions) ++ [])))) =
    record { row = w.row; spelled = w.spelled; makes = w.makes } in
    as_value (as_text (fixed_written then mapped unit_of list) (plain fixed_text (texts (map struct_text u.structs)) (texts (map extern_text u.externs)) (texts (map file_object_text u.objects)) (texts (map function_text u.functions)))) (unit_again u)
  where
    plain : (a b c e f : List ℕ) → a ++ (b ++ (c ++ (e ++ (f ++ [])))) ≡ (a ++ b ++ c ++ e) ++ f
    plain a b c e f = ap (λ z. a ++ (b ++ (c ++ (e ++ z)))) (append_nil f) ∙ simp append_assoc refl
