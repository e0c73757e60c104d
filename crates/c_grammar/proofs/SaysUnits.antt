-- What the rules of structs, externs, objects and functions say.
use Rattle.std.proofs.Common.{◌≡◌, ℕ, zero, suc, ◌<◌, ◌≤◌, ◌^◌, Bool, true, false, List, [], ◌∷◌, ◌++◌, map, All, refl, sym, ap, ◌∙◌, append_assoc, arith, Option, Some, None, codes, decimal}
use Rattle.std.proofs.lemmas.List.Elements.{All-nil, All-cons}
use Rattle.reading.specs.Row.{Row, tokens}
use Rattle.reading.specs.Language.{Language}
use Rattle.c_ast.specs.declared.types.CScalar.{CScalar}
use Rattle.c_ast.specs.declared.types.CBase.{CBase}
use Rattle.c_ast.specs.declared.types.CBase.TheVariants.{Scalar, Struct}
use Rattle.c_ast.specs.declared.types.CType.{CType}
use Rattle.c_ast.specs.declared.types.CType.TheVariants.{Void, Value}
use Rattle.c_ast.specs.declared.unit.CMember.{CMember}
use Rattle.c_ast.specs.Syntax.{Name, Init, Function}
use Rattle.c_text.specs.Identifiers.{IsIdentifier}
use Rattle.c_text.specs.TypeText.{line, texts, scalar_text, base_text, type_text, typed_text}
use Rattle.c_text.specs.ExpressionText.{init_text}
use Rattle.c_text.specs.StatementText.{block_text, stmts_text}
use Rattle.c_text.specs.Spelling.{length_text, member_text, struct_text, params_text, extern_text, base_const_text, file_object_text, storage_text, param_text, function_text}
use Rattle.c_text.specs.Subset.{BaseInSubset, ValueInSubset, ResultInSubset, ExternResultInSubset, InitInSubset, StmtsInSubset, LengthInSubset, MemberInSubset, StructInSubset, ExternInSubset, ObjectInSubset, ParamInSubset, FunctionInSubset}
use Rattle.grammars.specs.Grammar as rules
use Rattle.grammars.specs.Grammar.{token, sequence, choice, repeat, after, before}
use Rattle.c_grammar.specs.Pieces.{Piece, joined}
use Rattle.c_grammar.specs.Kinds.{indentation}
use Rattle.c_grammar.specs.Symbols.{Rule, Symbol, Tree, Side, left, right, pair, a_length, a_body, the_members, the_types, the_params, parens, squares, braces, new_line, semicolon, star, blank}
use Rattle.c_grammar.specs.TypeRules.{name, base, scalar, tag, scalar_type, struct_pointer, not_to_const, to_const, pointer_name}
use Rattle.c_grammar.specs.UnitRules.{member_of, member, members_rule, types_rule, extern_of, extern_result, extern, scalar_param, struct_param, param, params_rule, Defined, defined, function_of, scalar_function, struct_function, void_function, plain_function, function, Item, a_struct, an_extern, an_object, a_function, rank, object_of, first_value, constant_object, Behind, behind_const, some_pointer, same_pointer, named, behind_scalar, behind_struct, scalar_item, struct_item, static_item, tagged, struct_or_function, hidden_function, at_stage}
use Rattle.c_grammar.proofs.Says.{Means, Is, Says, IfThere, text_if, m_token, m_map, m_sequence, m_choice, m_as, s_fixed, s_sequence, s_after, s_before, s_pair, s_map, s_as, s_optional, s_repeat}
use Rattle.c_grammar.proofs.SaysTypes.{says_name, says_scalar, says_tag, says_base, says_value_type, says_held, says_held_pointer, says_pointer_name, says_typed_name}
use Rattle.c_grammar.proofs.Meanings.{Meaning, SomeMembers}
use Rattle.c_grammar.proofs.SaysExpressions.{m_parens, m_squares, m_braces}
use Rattle.c_grammar.proofs.SaysLists.{m_separated, says_initializer}
use Rattle.c_grammar.proofs.SaysStatements.{says_equals, indent_is}
use Rattle.c_grammar.proofs.WrittenStatements.{scalar_const_text, struct_const_text, held_text}
use Rattle.c_grammar.proofs.WrittenUnits.{shown, scalar_typed, struct_typed, regroup, rest_text, extern_typed}

pub end_says : {d : ℕ} {L : (n : Symbol) → Language Piece (Tree n)} → Says d L (after semicolon new_line) (λ _. Unit {0}) (λ _. codes ";\n")
end_says = s_after s_fixed s_fixed

-- ---- members, at the one depth at which they stand

length_says_so : (n : Option ℕ) → IfThere (λ n. n < 2 ^ 32) n → LengthInSubset n × (text_if (λ n. 91 ∷ (decimal n ++ 93 ∷ [])) n ≡ length_text n)
length_says_so None i = (tt, refl)
length_says_so (Some n) i = (i, refl)

member_line : (b x n : List ℕ) → codes "  " ++ ((b ++ (codes " " ++ (x ++ n))) ++ codes ";\n") ≡ line (codes "  " ++ (b ++ codes " " ++ x) ++ n ++ codes ";")
member_line b x n = simp append_assoc refl

module _ (L : (n : Symbol) → Language Piece (Tree n)) (inner : (n : Symbol) (x : Tree n) (row : Row Piece) → L n x row → Meaning n 2 x (joined (tokens row))) where
  says_member : Says 1 L member MemberInSubset member_text
  says_member =
      let first : Says 1 L (token {A = Piece} indentation Some) (λ _. Unit {0}) (λ _. codes "  ") = m_token (λ p v e. record { good = tt; is = indent_is 0 p v e }) in
      let index : Says 1 L (squares a_length) (λ n. n < 2 ^ 32) (λ n. 91 ∷ (decimal n ++ 93 ∷ [])) = m_squares 1 L inner a_length (Is (λ n. n < 2 ^ 32) (λ n. 91 ∷ (decimal n ++ 93 ∷ []))) (λ n t i. record { good = i.good; is = ap (λ z. 91 ∷ (z ++ 93 ∷ [])) i.is }) in
      let core : Says 1 L (sequence member_of base (after blank (sequence pair name (rules.optional (squares a_length))))) MemberInSubset (λ m. base_text m.base ++ (codes " " ++ (m.name ++ length_text m.length))) =
      s_sequence member_of says_base (s_after s_fixed (s_pair says_name (s_as (s_optional index) length_says_so))) (λ b x i j. (record { name = j.0; base = i; length = j.1 }, refl)) in
      s_as (s_after first (s_before core end_says)) (λ m i. (i, member_line (base_text m.base) m.name (length_text m.length)))

  pub says_members_rule : Means 1 L members_rule (Meaning the_members 1)
  says_members_rule =
      s_after s_fixed (s_sequence {K = SomeMembers} {u = λ ms. texts (map member_text ms)} (λ m more. m ∷ more) says_member (s_repeat says_member)
      (λ m more i all. (record { some = λ e. cc; members = All-cons MemberInSubset m more i all }, refl)))

-- ---- lists of types and parameters

scalar_param_says : (s : CScalar) (h : Option Bool × Name) → Unit {0} → IsIdentifier h.1 → ParamInSubset (scalar_param s h) × (scalar_text s ++ (codes " " ++ held_text h.0 h.1) ≡ param_text (scalar_param s h))
scalar_param_says s (None, x) i j = (record { name = j; ty = tt }, scalar_const_text s None x)
scalar_param_says s (Some c, x) i j = (record { name = j; ty = tt }, scalar_const_text s (Some c) x)

module _ {d : ℕ} {L : (n : Symbol) → Language Piece (Tree n)} where
  pub says_types_rule : Means d L types_rule (Meaning the_types d)
  says_types_rule =
      m_choice (m_map (λ _. []) (m_as s_fixed (λ p t i. record { good = All-nil ValueInSubset; is = ap (λ z. 40 ∷ (z ++ 41 ∷ [])) i.is })))
      (m_separated says_value_type (λ x xs t all is. record { good = all; is = ap (λ z. 40 ∷ (z ++ 41 ∷ [])) is }))

  says_param : Says d L param ParamInSubset param_text
  says_param =
      m_choice (s_sequence scalar_param says_scalar (s_after s_fixed says_held) scalar_param_says)
      (s_sequence struct_param says_tag (s_after s_fixed says_held_pointer) (λ t h i j. (record { name = j; ty = i }, struct_const_text t h.0 h.1)))

  pub says_params_rule : Means d L params_rule (Meaning the_params d)
  says_params_rule =
      m_choice (m_map (λ _. []) (m_as s_fixed (λ p t i. record { good = All-nil ParamInSubset; is = ap (λ z. 40 ∷ (z ++ 41 ∷ [])) i.is })))
      (m_separated says_param (λ x xs t all is. record { good = all; is = ap (λ z. 40 ∷ (z ++ 41 ∷ [])) is }))

-- ---- functions

abbrev DefinedIn : Defined → Type 0
DefinedIn d = All ParamInSubset d.0 × StmtsInSubset d.1

abbrev defined_text : Defined → List ℕ
defined_text d = params_text (map param_text d.0) ++ (codes " " ++ line (block_text 0 (stmts_text 1 d.1)))

-- a function without what tells that it is hidden
abbrev core_text : Function → List ℕ
core_text f = typed_text f.result f.name ++ rest_text f

core_is : (f : Function) → storage_text f.hidden ++ core_text f ≡ function_text f
core_is f = plain (storage_text f.hidden) (typed_text f.result f.name) (params_text (map param_text f.params)) (line (block_text 0 (stmts_text 1 f.body)))
  where
    plain : (a b c e : List ℕ) → a ++ (b ++ (c ++ (codes " " ++ e))) ≡ a ++ b ++ c ++ codes " " ++ e
    plain a b c e = simp append_assoc refl

body_line : (t : List ℕ) → (123 ∷ ((codes "\n" ++ t) ++ 125 ∷ [])) ++ codes "\n" ≡ line (block_text 0 t)
body_line t = simp append_assoc refl

HiddenIs : Bool → Function → Type 0
HiddenIs hidden f = FunctionInSubset f × (f.hidden ≡ hidden)

function_in : (hidden : Bool) (t : CType) (x : Name) (d : Defined) → ResultInSubset t → IsIdentifier x → DefinedIn d → HiddenIs hidden (function_of hidden t x d)
unfolding HiddenIs
function_in hidden t x d r is i = (record { name = is; params = i.0; result = r; body = i.1 }, refl)

scalar_result : (s : CScalar) (p : Option Bool) → ResultInSubset (scalar_type s p)
scalar_result s None = tt
scalar_result s (Some constant) = tt

scalar_core : (s : CScalar) (p : Option Bool) (x : Name) (d : Defined) → scalar_text s ++ (codes " " ++ (shown p x ++ defined_text d)) ≡ typed_text (scalar_type s p) x ++ defined_text d
scalar_core s p x d = regroup (scalar_text s) (codes " ") (shown p x) (defined_text d) ∙ ap (λ z. z ++ defined_text d) (scalar_typed s p x)

struct_core : (t : Name) (c : Bool) (x : Name) (d : Defined) → (codes "struct " ++ t) ++ (codes " " ++ (shown (Some c) x ++ defined_text d)) ≡ typed_text (struct_pointer t c) x ++ defined_text d
struct_core t c x d = regroup (codes "struct " ++ t) (codes " ") (shown (Some c) x) (defined_text d) ∙ ap (λ z. z ++ defined_text d) (struct_typed t c x)

void_core : (x d : List ℕ) → codes "void" ++ (codes " " ++ (x ++ d)) ≡ (codes "void" ++ codes " " ++ x) ++ d
void_core x d = simp append_assoc refl

-- ---- what may stand behind `static` and a base

abbrev ObjectIn : (Bool × Name) × Init → Type 0
ObjectIn o = IsIdentifier o.0.1 × InitInSubset o.1

abbrev object_rest : (Bool × Name) × Init → List ℕ
object_rest o = base_const_text o.0.0 ++ (o.0.1 ++ (codes " = " ++ (init_text o.1 ++ codes ";\n")))

abbrev BehindIn : {P : Type 0} → Behind P → Type 0
BehindIn (left h) = IsIdentifier h.0.1 × DefinedIn h.1
BehindIn (right o) = ObjectIn o

abbrev scalar_rest : Behind (Option Bool) → List ℕ
scalar_rest (left h) = shown h.0.0 h.0.1 ++ defined_text h.1
scalar_rest (right o) = object_rest o

abbrev struct_rest : Behind Bool → List ℕ
struct_rest (left h) = shown (Some h.0.0) h.0.1 ++ defined_text h.1
struct_rest (right o) = object_rest o

abbrev NextIn : Side Defined Init → Type 0
NextIn (left d) = DefinedIn d
NextIn (right i) = InitInSubset i

abbrev next_text : Side Defined Init → List ℕ
next_text (left d) = defined_text d
next_text (right i) = codes " = " ++ (init_text i ++ codes ";\n")

named_is : (x : Name) (y : Side Defined Init) → IsIdentifier x → NextIn y → BehindIn (named x y) × (x ++ next_text y ≡ scalar_rest (named x y))
named_is x (left d) i j = ((i, j), refl)
named_is x (right v) i j = ((i, j), refl)

-- ---- items

abbrev pub ItemIn : Item → Type 0
ItemIn (a_struct s) = StructInSubset s
ItemIn (an_extern x) = ExternInSubset x
ItemIn (an_object o) = ObjectInSubset o
ItemIn (a_function f) = FunctionInSubset f

abbrev pub item_text : Item → List ℕ
item_text (a_struct s) = struct_text s
item_text (an_extern x) = extern_text x
item_text (an_object o) = file_object_text o
item_text (a_function f) = function_text f

-- an item that may stand at a stage, with its text
pub record ItemIs (s : ℕ) (x : Item) (t : List ℕ) : Type 0 where
  pub good : ItemIn x
  pub is : t ≡ item_text x
  pub late : s ≤ rank x

object_line : (b c x i : List ℕ) → codes "static " ++ (b ++ (codes " " ++ (c ++ (x ++ (codes " = " ++ (i ++ codes ";\n")))))) ≡ line (codes "static " ++ b ++ codes " " ++ c ++ x ++ codes " = " ++ i ++ codes ";")
object_line b c x i = simp append_assoc refl

-- what follows `static `
record StaticIs (x : Item) (t : List ℕ) : Type 0 where
  good : ItemIn x
  is : codes "static " ++ t ≡ item_text x
  late : 2 ≤ rank x

static_function : (t : CType) (x : Name) (d : Defined) (u : List ℕ) → ResultInSubset t → IsIdentifier x → DefinedIn d → u ≡ typed_text t x ++ defined_text d → StaticIs (a_function (function_of true t x d)) u
static_function t x d u r is i e = record { good = record { name = is; params = i.0; result = r; body = i.1 }; is = ap (λ z. codes "static " ++ z) e ∙ core_is (function_of true t x d); late = omega arith }

static_object : (b : CBase) (o : (Bool × Name) × Init) (u : List ℕ) → BaseInSubset b → ObjectIn o → u ≡ base_text b ++ (codes " " ++ object_rest o) → StaticIs (an_object (object_of b o.0.0 o.0.1 o.1)) u
static_object b o u h i e = record { good = record { name = i.0; base = h; init = i.1 }; is = ap (λ z. codes "static " ++ z) e ∙ object_line (base_text b) (base_const_text o.0.0) o.0.1 (init_text o.1); late = omega arith }

scalar_item_is : (s : CScalar) (y : Behind (Option Bool)) (u : List ℕ) → BehindIn y → u ≡ scalar_text s ++ (codes " " ++ scalar_rest y) → StaticIs (scalar_item s y) u
scalar_item_is s (left h) u i e = static_function (scalar_type s h.0.0) h.0.1 h.1 u (scalar_result s h.0.0) i.0 i.1 (e ∙ scalar_core s h.0.0 h.0.1 h.1)
scalar_item_is s (right o) u i e = static_object (Scalar s) o u tt i e

struct_item_is : (t : Name) (y : Behind Bool) (u : List ℕ) → IsIdentifier t → BehindIn y → u ≡ (codes "struct " ++ t) ++ (codes " " ++ struct_rest y) → StaticIs (struct_item t y) u
struct_item_is t (left h) u tag i e = static_function (struct_pointer t h.0.0) h.0.1 h.1 u tag i.0 i.1 (e ∙ struct_core t h.0.0 h.0.1 h.1)
struct_item_is t (right o) u tag i e = static_object (Struct t) o u tag i e

-- behind `struct NAME `: the members, or a function
abbrev TaggedIn : Side (List CMember) ((Bool × Name) × Defined) → Type 0
TaggedIn (left ms) = SomeMembers ms
TaggedIn (right f) = IsIdentifier f.0.1 × DefinedIn f.1

abbrev tagged_text : Side (List CMember) ((Bool × Name) × Defined) → List ℕ
tagged_text (left ms) = (123 ∷ ((codes "\n" ++ texts (map member_text ms)) ++ 125 ∷ [])) ++ codes ";\n"
tagged_text (right f) = shown (Some f.0.0) f.0.1 ++ defined_text f.1

struct_lines : (x t : List ℕ) → (codes "struct " ++ x) ++ (codes " " ++ ((123 ∷ ((codes "\n" ++ t) ++ 125 ∷ [])) ++ codes ";\n")) ≡ line (codes "struct " ++ x ++ codes " {") ++ t ++ line (codes "};")
struct_lines x t = simp append_assoc refl

tagged_is : (t : Name) (y : Side (List CMember) ((Bool × Name) × Defined)) (u : List ℕ) → IsIdentifier t → TaggedIn y → u ≡ (codes "struct " ++ t) ++ (codes " " ++ tagged_text y) → ItemIs 0 (tagged t y) u
tagged_is t (left ms) u tag i e = record { good = record { name = tag; some = i.some; members = i.members }; is = e ∙ struct_lines t (texts (map member_text ms)); late = omega arith }
tagged_is t (right f) u tag i e = record { good = record { name = i.0; params = i.1.0; result = tag; body = i.1.1 }; is = e ∙ struct_core t f.0.0 f.0.1 f.1 ∙ core_is (struct_function false t f); late = omega arith }

abbrev hidden_text : Item → List ℕ
hidden_text (a_function f) = core_text f
hidden_text (a_struct s) = []
hidden_text (an_extern x) = []
hidden_text (an_object o) = []

abbrev StaticIsFrom : Item → List ℕ → Type 0
StaticIsFrom x t = ItemIn x × (codes "static" ++ t ≡ item_text x) × (2 ≤ rank x)

module _ (L : (n : Symbol) → Language Piece (Tree n)) (inner : (n : Symbol) (x : Tree n) (row : Row Piece) → L n x row → Meaning n 1 x (joined (tokens row))) where
  says_defined : Says 0 L defined DefinedIn defined_text
  unfolding defined
  says_defined =
      let params : Says 0 L (parens the_params) (All ParamInSubset) (λ ps. params_text (map param_text ps)) = m_parens 0 L inner the_params (Is (All ParamInSubset) (λ ps. params_text (map param_text ps))) (λ ps t i. record { good = i.good; is = i.is }) in
      let body : Says 0 L (braces a_body) StmtsInSubset (λ ss. 123 ∷ ((codes "\n" ++ stmts_text 1 ss) ++ 125 ∷ [])) =
      m_braces 0 L inner a_body (Is StmtsInSubset (λ ss. 123 ∷ ((codes "\n" ++ stmts_text 1 ss) ++ 125 ∷ []))) (λ ss t i. record { good = i.good; is = ap (λ z. 123 ∷ (z ++ 125 ∷ [])) i.is }) in
      s_as (s_pair params (s_after s_fixed (s_before body s_fixed))) (λ d i. (i, ap (λ z. params_text (map param_text d.0) ++ (codes " " ++ z)) (body_line (stmts_text 1 d.1))))

  says_first_value : Says 0 L first_value InitInSubset (λ i. codes " = " ++ (init_text i ++ codes ";\n"))
  unfolding first_value
  says_first_value = says_equals (s_before (says_initializer 0 L inner) end_says)

  -- ---- functions

  says_void_function : (hidden : Bool) → Says 0 L (void_function hidden) (HiddenIs hidden) core_text
  says_void_function hidden =
      s_as (s_after s_fixed (s_after s_fixed (s_sequence {K = λ f. HiddenIs hidden f × (f.result ≡ Void)} {u = λ f. f.name ++ rest_text f} (function_of hidden Void) says_name says_defined (λ x d is i. ((function_in hidden Void x d tt is i, refl), refl)))))
      (λ f i. (i.0, void_core f.name (rest_text f) ∙ ap (λ t. typed_text t f.name ++ rest_text f) (sym i.1)))

  says_plain_function : (hidden : Bool) → Says 0 L (plain_function hidden) (HiddenIs hidden) core_text
  says_plain_function hidden =
      m_choice (says_void_function hidden)
      (s_sequence (scalar_function hidden) says_scalar (s_after s_fixed (s_pair says_typed_name says_defined)) (λ s f i j. (function_in hidden (scalar_type s f.0.0) f.0.1 f.1 (scalar_result s f.0.0) j.0 j.1, scalar_core s f.0.0 f.0.1 f.1)))

  says_function : (hidden : Bool) → Says 0 L (function hidden) (HiddenIs hidden) core_text
  says_function hidden =
      m_choice (says_plain_function hidden)
      (s_sequence (struct_function hidden) says_tag (s_after s_fixed (s_pair says_pointer_name says_defined)) (λ t f i j. (function_in hidden (struct_pointer t f.0.0) f.0.1 f.1 i j.0 j.1, struct_core t f.0.0 f.0.1 f.1)))

  -- ---- behind `static` and a base

  says_constant_object : Means 0 L constant_object (λ o t. ObjectIn o × (codes "const " ++ t ≡ object_rest o))
  says_constant_object = m_sequence (λ x i. (to_const x, i)) says_name says_first_value (λ x i t u a b. ((a.good, b.good), ap (λ z. codes "const " ++ (z ++ u)) a.is ∙ ap (λ z. codes "const " ++ (x ++ z)) b.is))

  says_scalar_const : Says 0 L (behind_const some_pointer) BehindIn scalar_rest
  says_scalar_const =
      let function_behind : Means 0 L (rules.map left (sequence (λ x d. (some_pointer (to_const x), d)) (after star name) defined)) (λ y t. BehindIn y × (codes "const " ++ t ≡ scalar_rest y)) =
      m_map left (m_sequence (λ x d. (some_pointer (to_const x), d)) (s_after s_fixed says_name) says_defined (λ x d t u a b. ((a.good, b.good), ap (λ z. codes "const " ++ (z ++ u)) a.is ∙ ap (λ z. codes "const " ++ ((codes "*" ++ x) ++ z)) b.is))) in
      m_sequence (λ _ y. y) s_fixed (m_sequence {Q = λ y t. BehindIn y × (codes "const" ++ t ≡ scalar_rest y)} (λ _ y. y) s_fixed (m_choice function_behind (m_map right says_constant_object)) (λ p y t u a b. (b.0, ap (λ z. codes "const" ++ (z ++ u)) a.is ∙ b.1)))
      (λ p y t u a b. record { good = b.0; is = ap (λ z. z ++ u) a.is ∙ b.1 })

  says_struct_const : Says 0 L (behind_const same_pointer) BehindIn struct_rest
  says_struct_const =
      let function_behind : Means 0 L (rules.map left (sequence (λ x d. (same_pointer (to_const x), d)) (after star name) defined)) (λ y t. BehindIn y × (codes "const " ++ t ≡ struct_rest y)) =
      m_map left (m_sequence (λ x d. (same_pointer (to_const x), d)) (s_after s_fixed says_name) says_defined (λ x d t u a b. ((a.good, b.good), ap (λ z. codes "const " ++ (z ++ u)) a.is ∙ ap (λ z. codes "const " ++ ((codes "*" ++ x) ++ z)) b.is))) in
      m_sequence (λ _ y. y) s_fixed (m_sequence {Q = λ y t. BehindIn y × (codes "const" ++ t ≡ struct_rest y)} (λ _ y. y) s_fixed (m_choice function_behind (m_map right says_constant_object)) (λ p y t u a b. (b.0, ap (λ z. codes "const" ++ (z ++ u)) a.is ∙ b.1)))
      (λ p y t u a b. record { good = b.0; is = ap (λ z. z ++ u) a.is ∙ b.1 })

  says_behind_scalar : Says 0 L behind_scalar BehindIn scalar_rest
  says_behind_scalar =
      let next : Says 0 L (choice (rules.map left defined) (rules.map right first_value)) NextIn next_text = m_choice (s_map left says_defined (λ d i. (i, refl))) (s_map right says_first_value (λ v i. (i, refl))) in
      m_choice (s_map left (s_sequence {K = λ (h : (Option Bool × Name) × Defined). IsIdentifier h.0.1 × DefinedIn h.1} {u = λ h. shown h.0.0 h.0.1 ++ defined_text h.1} (λ x d. (some_pointer (not_to_const x), d)) (s_after s_fixed says_name) says_defined (λ x d i j. ((i, j), refl))) (λ h i. (i, refl)))
      (m_choice says_scalar_const (s_sequence named says_name next named_is))

  says_behind_struct : Says 0 L behind_struct BehindIn struct_rest
  says_behind_struct =
      m_choice (s_map left (s_sequence {K = λ (h : (Bool × Name) × Defined). IsIdentifier h.0.1 × DefinedIn h.1} {u = λ h. shown (Some h.0.0) h.0.1 ++ defined_text h.1} (λ x d. (same_pointer (not_to_const x), d)) (s_after s_fixed says_name) says_defined (λ x d i j. ((i, j), refl))) (λ h i. (i, refl)))
      (m_choice says_struct_const (s_map right (s_sequence {K = ObjectIn} {u = object_rest} (λ x i. (not_to_const x, i)) says_name says_first_value (λ x v i j. ((i, j), refl))) (λ o i. (i, refl))))

  says_static_item : (s : ℕ) → s ≤ 2 → Means 0 L static_item (ItemIs s)
  unfolding static_item HiddenIs
  says_static_item s low =
      let one : Means 0 L (rules.map a_function (void_function true)) StaticIs =
      m_map a_function (m_as (says_void_function true) (λ f t i. record { good = i.good.0; is = ap (λ z. codes "static " ++ z) i.is ∙ ap (λ h. storage_text h ++ core_text f) (sym i.good.1) ∙ core_is f; late = omega arith })) in
      let two : Means 0 L (sequence scalar_item scalar (after blank behind_scalar)) StaticIs = m_sequence scalar_item says_scalar (s_after s_fixed says_behind_scalar) (λ s y t u i j. scalar_item_is s y (t ++ u) j.good (ap (λ z. z ++ u) i.is ∙ ap (λ z. scalar_text s ++ z) j.is)) in
      let three : Means 0 L (sequence struct_item tag (after blank behind_struct)) StaticIs = m_sequence struct_item says_tag (s_after s_fixed says_behind_struct) (λ x y t u i j. struct_item_is x y (t ++ u) i.good j.good (ap (λ z. z ++ u) i.is ∙ ap (λ z. (codes "struct " ++ x) ++ z) j.is)) in
      m_sequence {R = λ x t. StaticIsFrom x t} (λ _ x. x) s_fixed (m_sequence {P = Is (λ _. Unit {0}) (λ _. codes " ")} {R = StaticIs} (λ _ x. x) s_fixed (m_choice one (m_choice two three)) (λ p x t u i j. (j.good, ap (λ z. codes "static" ++ (z ++ u)) i.is ∙ j.is, j.late)))
      (λ p x t u i j. record { good = j.0; is = ap (λ z. z ++ u) i.is ∙ j.1; late = omega (arith, low, j.2) })

  -- ---- the other items

  says_extern : Says 0 L extern ExternInSubset extern_text
  says_extern =
      let types : Says 0 L (parens the_types) (All ValueInSubset) (λ ts. params_text (map type_text ts)) = m_parens 0 L inner the_types (Is (All ValueInSubset) (λ ts. params_text (map type_text ts))) (λ ts t i. record { good = i.good; is = i.is }) in
      let head : Says 0 L extern_result ExternResultInSubset type_text = m_choice (s_map (λ _. Void) s_fixed (λ p i. (tt, refl))) (s_map Value says_scalar (λ s i. (tt, refl))) in
      let core : Says 0 L (sequence extern_of extern_result (after blank (sequence pair name (before (parens the_types) (after semicolon new_line))))) ExternInSubset
      (λ x. type_text x.result ++ (codes " " ++ (x.name ++ (params_text (map type_text x.params) ++ codes ";\n")))) =
      s_sequence extern_of head (s_after s_fixed (s_pair says_name (s_before types end_says))) (λ t y i j. (record { name = j.0; params = j.1; result = i }, refl)) in
      s_as (s_after s_fixed (s_after s_fixed core)) (λ x i. (i, plain (type_text x.result) x.name (params_text (map type_text x.params)) ∙ ap (λ z. line (codes "extern " ++ z ++ params_text (map type_text x.params) ++ codes ";")) (extern_typed x.result i.result x.name)))
    where
      plain : (t x p : List ℕ) → codes "extern" ++ (codes " " ++ (t ++ (codes " " ++ (x ++ (p ++ codes ";\n"))))) ≡ line (codes "extern " ++ (t ++ codes " " ++ x) ++ p ++ codes ";")
      plain t x p = simp append_assoc refl

  says_struct_or_function : Means 0 L struct_or_function (ItemIs 0)
  unfolding HiddenIs
  says_struct_or_function =
      let members : Says 0 L (braces the_members) SomeMembers (λ ms. 123 ∷ ((codes "\n" ++ texts (map member_text ms)) ++ 125 ∷ [])) =
      m_braces 0 L inner the_members (Is SomeMembers (λ ms. 123 ∷ ((codes "\n" ++ texts (map member_text ms)) ++ 125 ∷ []))) (λ ms t i. record { good = i.good; is = ap (λ z. 123 ∷ (z ++ 125 ∷ [])) i.is }) in
      let next : Says 0 L (choice (rules.map left (before (braces the_members) (after semicolon new_line))) (rules.map right (sequence pair pointer_name defined))) TaggedIn tagged_text =
      m_choice (s_map left (s_before members end_says) (λ ms i. (i, refl))) (s_map right (s_pair says_pointer_name says_defined) (λ f i. (i, refl))) in
      m_sequence tagged says_tag (s_after s_fixed next) (λ t y u v i j. tagged_is t y (u ++ v) i.good j.good (ap (λ z. z ++ v) i.is ∙ ap (λ z. (codes "struct " ++ t) ++ z) j.is))

  says_hidden_function : (s : ℕ) → s ≤ 3 → Means 0 L hidden_function (ItemIs s)
  unfolding HiddenIs
  says_hidden_function s low =
      m_as (s_after s_fixed (s_after s_fixed (s_map {J = λ x. ItemIn x × (s ≤ rank x) × (codes "static" ++ (codes " " ++ hidden_text x) ≡ item_text x)} {t = hidden_text} a_function (says_function true)
      (λ f i. ((i.0, low, ap (λ h. storage_text h ++ core_text f) (sym i.1) ∙ core_is f), refl))))) (λ x t i. record { good = i.good.0; is = i.is ∙ i.good.2; late = i.good.1 })

  open_function : (s : ℕ) → s ≤ 3 → {r : Rule Function} → Says 0 L r (HiddenIs false) core_text → Means 0 L (rules.map a_function r) (ItemIs s)
  unfolding HiddenIs
  open_function s low w = m_map a_function (m_as w (λ f t i. record { good = i.good.0; is = i.is ∙ ap (λ h. storage_text h ++ core_text f) (sym i.good.1) ∙ core_is f; late = low }))

  extern_item : (s : ℕ) → s ≤ 1 → Means 0 L (rules.map an_extern extern) (ItemIs s)
  extern_item s low = m_map an_extern (m_as says_extern (λ x t i. record { good = i.good; is = i.is; late = low }))

  pub says_at_stage : (s : ℕ) → s ≤ 3 → Means 0 L (at_stage s) (ItemIs s)
  unfolding at_stage
  says_at_stage zero low = m_choice says_struct_or_function (m_choice (extern_item 0 (omega arith)) (m_choice (says_static_item 0 (omega arith)) (open_function 0 low (says_plain_function false))))
  says_at_stage (suc zero) low = m_choice (extern_item 1 (omega arith)) (m_choice (says_static_item 1 (omega arith)) (open_function 1 low (says_function false)))
  says_at_stage (suc (suc zero)) low = m_choice (says_static_item 2 (omega arith)) (open_function 2 low (says_function false))
  says_at_stage (suc (suc (suc n))) low = m_choice (says_hidden_function (suc (suc (suc n))) low) (open_function (suc (suc (suc n))) low (says_function false))
