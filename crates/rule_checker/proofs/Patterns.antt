-- What each form of an expression breaks, and the first fault in it: one equation for each form.
use Rattle.std.proofs.Common.{◌≡◌, ℕ, ℤ, Bool, true, false, not, ◌&&◌, ◌||◌, List, [], ◌∷◌, ◌++◌, map, cond, refl, ap, ◌∙◌}
use Rattle.std.specs.Prelude.{Option, Some, None, option_map}
use Rattle.std.specs.List.{find}
use Rattle.iv_words.specs.declared.IntKind.{IntKind}
use Rattle.iv_words.specs.declared.Name.{Name}
use Rattle.iv_words.specs.declared.Span.{Span}
use Rattle.ivory_tree.specs.Syntax.{Word, ExprSyntax, Literal, Truth, Outcome, Variable, Cast, ToIndex, WrapIndex, MakeBits, Raw, SetField, Prefix, Binary, Field, Element, Cond, Bare}
use Rattle.ivory_tree.specs.declared.expr.BinOp.{BinOp}
use Rattle.ivory_tree.specs.declared.expr.PrefixOp.{PrefixOp}
use Rattle.ivory_tree.specs.declared.expr.PrefixOp.TheVariants.{Neg, Not, Flip, Deref}
use Rattle.area_types.specs.Syntax as types
use Rattle.area_types.specs.Syntax.{ValueType}
use Rattle.area_types.specs.Tables.{is_length}
use Rattle.source_types.specs.Environments.{is_bits}
use Rattle.source_types.specs.Settled.{settled}
use Rattle.source_types.specs.Values.{is_bit_data, is_reference, holds}
use Rattle.source_types.specs.Written.{index_type, bits_type}
use Rattle.rule_faults.specs.Contexts.{Context, has_outcome, outcome_type, is_known, name_type}
use Rattle.rule_faults.specs.Types.{type_of, own_type, only}
use Rattle.rule_faults.specs.Wants.{Want, Nothing, Unknown, Wants, Takes, Returns, wanted_type, of_operand, of_arm, beside, of_cast, of_word, of_new_value, of_index}
use Rattle.rule_faults.specs.Nodes.{Node, AnExpr, span_of}
use Rattle.rule_faults.specs.ExpressionRules.{operand_type}
use Rattle.rule_faults.specs.ExpressionRows.{expr_row}
use Rattle.rule_faults.specs.FirstFault.{rules, least_broken, at_node, first_of}
use Rattle.rule_checker.specs.Faults.{either, at_place}
use Rattle.rule_checker.specs.Rows.{least, all_rows, wanted_rows, reference_rows, rows, node_rule, one_row, literal_rows, cast_rows, index_rows, raw_rows, set_rows, prefix_rows, binary_rows, field_rows, element_rows, cond_rows}

-- ---- rows of rules

least_with : (b : Bool) (rule : ℕ × (Node → Bool)) (n : Node) (o : Option (ℕ × (Node → Bool))) (r : Option ℕ) → option_map (λ (rule : ℕ × (Node → Bool)). rule.0) o ≡ r → option_map (λ (rule : ℕ × (Node → Bool)). rule.0) (cond b (Some rule) o) ≡ cond b (Some rule.0) r
least_with true rule n o r h = refl
least_with false rule n o r h = h

least_found : (rs : List (ℕ × (Node → Bool))) (n : Node) → option_map (λ (rule : ℕ × (Node → Bool)). rule.0) (find (λ (rule : ℕ × (Node → Bool)). rule.1 n) rs) ≡ least (map (λ (rule : ℕ × (Node → Bool)). (rule.0, rule.1 n)) rs)
least_found [] n = refl
least_found (r ∷ rs) n = least_with (r.1 n) r n (find (λ (rule : ℕ × (Node → Bool)). rule.1 n) rs) (least (map (λ (rule : ℕ × (Node → Bool)). (rule.0, rule.1 n)) rs)) (least_found rs n)

pub least_rows : (n : Node) → least_broken n ≡ least (all_rows n)
least_rows n = least_found rules n

either_with : (b : Bool) (k : ℕ) (x y : Option ℕ) → cond b (Some k) (either x y) ≡ either (cond b (Some k) x) y
either_with true k x y = refl
either_with false k x y = refl

pub least_joined : (xs ys : List (ℕ × Bool)) → least (xs ++ ys) ≡ either (least xs) (least ys)
least_joined [] ys = refl
least_joined (x ∷ xs) ys = ap (λ o. cond x.1 (Some x.0) o) (least_joined xs ys) ∙ either_with x.1 x.0 (least xs) (least ys)

pub rows_split : (before : List (ℕ × Bool)) (w : Want) (s : Bool) (own : Option ValueType) (after : List (ℕ × Bool)) → least (rows before w s own after) ≡ node_rule (least before) w s own (least after)
rows_split before w s own after =
    least_joined before (wanted_rows w s own ++ (after ++ reference_rows w s own))
    ∙ ap (λ o. either (least before) o) (least_joined (wanted_rows w s own) (after ++ reference_rows w s own) ∙ ap (λ o. either (least (wanted_rows w s own)) o) (least_joined after (reference_rows w s own)))

-- ---- the first fault of a row

pub placed : (n : Node) (o : Option ℕ) (within : Option (ℕ × Span)) → at_node n o within ≡ at_place o (span_of n) within
placed n None within = refl
placed n (Some k) within = refl

placed_either : (n : Node) (o : Option ℕ) (x y : Option (ℕ × Span)) → at_node n o (either x y) ≡ either (at_node n o x) y
placed_either n None x y = refl
placed_either n (Some k) x y = refl

-- the first fault of two rows
pub first_joined : (ns ms : List Node) → first_of (ns ++ ms) ≡ either (first_of ns) (first_of ms)
first_joined [] ms = refl
first_joined (n ∷ ns) ms = ap (at_node n (least_broken n)) (first_joined ns ms) ∙ placed_either n (least_broken n) (first_of ns) (first_of ms)

pub told : (n : Node) (ns : List Node) (rule : Option ℕ) (within : Option (ℕ × Span)) → least_broken n ≡ rule → first_of ns ≡ within → first_of (n ∷ ns) ≡ at_place rule (span_of n) within
told n ns rule within h g = ap (λ o. at_node n o (first_of ns)) h ∙ placed n rule (first_of ns) ∙ ap (at_place rule (span_of n)) g

two_rows : (xs ys : List Node) → first_of (xs ++ ys) ≡ either (first_of xs) (first_of ys)
two_rows xs ys = first_joined xs ys

three_rows : (xs ys zs : List Node) → first_of (xs ++ (ys ++ zs)) ≡ either (first_of xs) (either (first_of ys) (first_of zs))
three_rows xs ys zs = first_joined xs (ys ++ zs) ∙ ap (either (first_of xs)) (first_joined ys zs)

-- ---- the forms

-- an unsettled expression has no type of its own that might differ
swapped : (b broken : Bool) (j k : ℕ) (o : Option ℕ) → cond broken (Some j) (cond (not b && false && false) (Some k) o) ≡ cond (not b && false && false) (Some k) (cond broken (Some j) o)
swapped true broken j k o = refl
swapped false broken j k o = refl

literal_rows_are : (c : Context) (w : Want) (s : Span) (value : ℤ) → least (all_rows (AnExpr c w (Literal s value))) ≡ least (rows [] w false None (literal_rows (wanted_type w) value))
literal_rows_are c Nothing s value = refl
literal_rows_are c Unknown s value = refl
literal_rows_are c (Wants t) s value = swapped (is_reference t) (not (holds t value)) 19 20 None
literal_rows_are c (Takes o k) s value = refl
literal_rows_are c (Returns q) s value = refl

pub literal_rule : (c : Context) (w : Want) (s : Span) (value : ℤ) → least_broken (AnExpr c w (Literal s value)) ≡ node_rule (least []) w false None (least (literal_rows (wanted_type w) value))
literal_rule c w s value = least_rows (AnExpr c w (Literal s value)) ∙ literal_rows_are c w s value ∙ rows_split [] w false None (literal_rows (wanted_type w) value)

pub literal_told : (c : Context) (w : Want) (s : Span) (value : ℤ) → first_of (expr_row c w (Literal s value)) ≡ at_place (node_rule (least []) w false None (least (literal_rows (wanted_type w) value))) s None
literal_told c w s value = told (AnExpr c w (Literal s value)) [] (node_rule (least []) w false None (least (literal_rows (wanted_type w) value))) None (literal_rule c w s value) refl

truth_rows_are : (c : Context) (w : Want) (s : Span) (value : Bool) → least (all_rows (AnExpr c w (Truth s value))) ≡ least (rows [] w true (Some types.Truth) [])
truth_rows_are c Nothing s value = refl
truth_rows_are c Unknown s value = refl
truth_rows_are c (Wants t) s value = refl
truth_rows_are c (Takes o k) s value = refl
truth_rows_are c (Returns q) s value = refl

pub truth_rule : (c : Context) (w : Want) (s : Span) (value : Bool) → least_broken (AnExpr c w (Truth s value)) ≡ node_rule (least []) w true (Some types.Truth) (least [])
truth_rule c w s value = least_rows (AnExpr c w (Truth s value)) ∙ truth_rows_are c w s value ∙ rows_split [] w true (Some types.Truth) []

pub truth_told : (c : Context) (w : Want) (s : Span) (value : Bool) → first_of (expr_row c w (Truth s value)) ≡ at_place (node_rule (least []) w true (Some types.Truth) (least [])) s None
truth_told c w s value = told (AnExpr c w (Truth s value)) [] (node_rule (least []) w true (Some types.Truth) (least [])) None (truth_rule c w s value) refl

outcome_rows_are : (c : Context) (w : Want) (s : Span) → least (all_rows (AnExpr c w (Outcome s))) ≡ least (rows (one_row 4 (not (has_outcome c))) w true (outcome_type c) [])
outcome_rows_are c Nothing s = refl
outcome_rows_are c Unknown s = refl
outcome_rows_are c (Wants t) s = refl
outcome_rows_are c (Takes o k) s = refl
outcome_rows_are c (Returns q) s = refl

pub outcome_rule : (c : Context) (w : Want) (s : Span) → least_broken (AnExpr c w (Outcome s)) ≡ node_rule (least (one_row 4 (not (has_outcome c)))) w true (outcome_type c) (least [])
outcome_rule c w s = least_rows (AnExpr c w (Outcome s)) ∙ outcome_rows_are c w s ∙ rows_split (one_row 4 (not (has_outcome c))) w true (outcome_type c) []

pub outcome_told : (c : Context) (w : Want) (s : Span) → first_of (expr_row c w (Outcome s)) ≡ at_place (node_rule (least (one_row 4 (not (has_outcome c)))) w true (outcome_type c) (least [])) s None
outcome_told c w s = told (AnExpr c w (Outcome s)) [] (node_rule (least (one_row 4 (not (has_outcome c)))) w true (outcome_type c) (least [])) None (outcome_rule c w s) refl

variable_rows_are : (c : Context) (w : Want) (s : Span) (name : Word) → least (all_rows (AnExpr c w (Variable s name))) ≡ least (rows (one_row 4 (not (is_known c name))) w true (name_type c name) [])
variable_rows_are c Nothing s name = refl
variable_rows_are c Unknown s name = refl
variable_rows_are c (Wants t) s name = refl
variable_rows_are c (Takes o k) s name = refl
variable_rows_are c (Returns q) s name = refl

pub variable_rule : (c : Context) (w : Want) (s : Span) (name : Word) → least_broken (AnExpr c w (Variable s name)) ≡ node_rule (least (one_row 4 (not (is_known c name)))) w true (name_type c name) (least [])
variable_rule c w s name = least_rows (AnExpr c w (Variable s name)) ∙ variable_rows_are c w s name ∙ rows_split (one_row 4 (not (is_known c name))) w true (name_type c name) []

pub variable_told : (c : Context) (w : Want) (s : Span) (name : Word) → first_of (expr_row c w (Variable s name)) ≡ at_place (node_rule (least (one_row 4 (not (is_known c name)))) w true (name_type c name) (least [])) s None
variable_told c w s name = told (AnExpr c w (Variable s name)) [] (node_rule (least (one_row 4 (not (is_known c name)))) w true (name_type c name) (least [])) None (variable_rule c w s name) refl

cast_rows_are : (c : Context) (w : Want) (s : Span) (kind : IntKind) (e : ExprSyntax) → least (all_rows (AnExpr c w (Cast s kind e))) ≡ least (rows [] w true (Some (types.Int kind)) (cast_rows (settled e) (own_type c e)))
cast_rows_are c Nothing s kind e = refl
cast_rows_are c Unknown s kind e = refl
cast_rows_are c (Wants t) s kind e = refl
cast_rows_are c (Takes o k) s kind e = refl
cast_rows_are c (Returns q) s kind e = refl

pub cast_rule : (c : Context) (w : Want) (s : Span) (kind : IntKind) (e : ExprSyntax) → least_broken (AnExpr c w (Cast s kind e)) ≡ node_rule (least []) w true (Some (types.Int kind)) (least (cast_rows (settled e) (own_type c e)))
cast_rule c w s kind e = least_rows (AnExpr c w (Cast s kind e)) ∙ cast_rows_are c w s kind e ∙ rows_split [] w true (Some (types.Int kind)) (cast_rows (settled e) (own_type c e))

pub cast_told : (c : Context) (w : Want) (s : Span) (kind : IntKind) (e : ExprSyntax) → first_of (expr_row c w (Cast s kind e)) ≡ at_place (node_rule (least []) w true (Some (types.Int kind)) (least (cast_rows (settled e) (own_type c e)))) s (first_of (expr_row c (of_cast kind e) e))
cast_told c w s kind e = told (AnExpr c w (Cast s kind e)) (expr_row c (of_cast kind e) e) (node_rule (least []) w true (Some (types.Int kind)) (least (cast_rows (settled e) (own_type c e)))) (first_of (expr_row c (of_cast kind e) e)) (cast_rule c w s kind e) refl

to_index_rows_are : (c : Context) (w : Want) (s : Span) (n : ℕ) (e : ExprSyntax) → least (all_rows (AnExpr c w (ToIndex s n e))) ≡ least (rows (one_row 8 (not (is_length n))) w true (index_type n) (index_rows (own_type c e)))
to_index_rows_are c Nothing s n e = refl
to_index_rows_are c Unknown s n e = refl
to_index_rows_are c (Wants t) s n e = refl
to_index_rows_are c (Takes o k) s n e = refl
to_index_rows_are c (Returns q) s n e = refl

pub to_index_rule : (c : Context) (w : Want) (s : Span) (n : ℕ) (e : ExprSyntax) → least_broken (AnExpr c w (ToIndex s n e)) ≡ node_rule (least (one_row 8 (not (is_length n)))) w true (index_type n) (least (index_rows (own_type c e)))
to_index_rule c w s n e = least_rows (AnExpr c w (ToIndex s n e)) ∙ to_index_rows_are c w s n e ∙ rows_split (one_row 8 (not (is_length n))) w true (index_type n) (index_rows (own_type c e))

pub to_index_told : (c : Context) (w : Want) (s : Span) (n : ℕ) (e : ExprSyntax) → first_of (expr_row c w (ToIndex s n e)) ≡ at_place (node_rule (least (one_row 8 (not (is_length n)))) w true (index_type n) (least (index_rows (own_type c e)))) s (first_of (expr_row c Nothing e))
to_index_told c w s n e = told (AnExpr c w (ToIndex s n e)) (expr_row c Nothing e) (node_rule (least (one_row 8 (not (is_length n)))) w true (index_type n) (least (index_rows (own_type c e)))) (first_of (expr_row c Nothing e)) (to_index_rule c w s n e) refl

wrap_index_rows_are : (c : Context) (w : Want) (s : Span) (n : ℕ) (e : ExprSyntax) → least (all_rows (AnExpr c w (WrapIndex s n e))) ≡ least (rows (one_row 8 (not (is_length n))) w true (index_type n) (index_rows (own_type c e)))
wrap_index_rows_are c Nothing s n e = refl
wrap_index_rows_are c Unknown s n e = refl
wrap_index_rows_are c (Wants t) s n e = refl
wrap_index_rows_are c (Takes o k) s n e = refl
wrap_index_rows_are c (Returns q) s n e = refl

pub wrap_index_rule : (c : Context) (w : Want) (s : Span) (n : ℕ) (e : ExprSyntax) → least_broken (AnExpr c w (WrapIndex s n e)) ≡ node_rule (least (one_row 8 (not (is_length n)))) w true (index_type n) (least (index_rows (own_type c e)))
wrap_index_rule c w s n e = least_rows (AnExpr c w (WrapIndex s n e)) ∙ wrap_index_rows_are c w s n e ∙ rows_split (one_row 8 (not (is_length n))) w true (index_type n) (index_rows (own_type c e))

pub wrap_index_told : (c : Context) (w : Want) (s : Span) (n : ℕ) (e : ExprSyntax) → first_of (expr_row c w (WrapIndex s n e)) ≡ at_place (node_rule (least (one_row 8 (not (is_length n)))) w true (index_type n) (least (index_rows (own_type c e)))) s (first_of (expr_row c Nothing e))
wrap_index_told c w s n e = told (AnExpr c w (WrapIndex s n e)) (expr_row c Nothing e) (node_rule (least (one_row 8 (not (is_length n)))) w true (index_type n) (least (index_rows (own_type c e)))) (first_of (expr_row c Nothing e)) (wrap_index_rule c w s n e) refl

make_bits_rows_are : (c : Context) (w : Want) (s : Span) (name : Word) (e : ExprSyntax) → least (all_rows (AnExpr c w (MakeBits s name e))) ≡ least (rows (one_row 6 (not (is_bits c.earlier name))) w true (bits_type c.earlier name) [])
make_bits_rows_are c Nothing s name e = refl
make_bits_rows_are c Unknown s name e = refl
make_bits_rows_are c (Wants t) s name e = refl
make_bits_rows_are c (Takes o k) s name e = refl
make_bits_rows_are c (Returns q) s name e = refl

pub make_bits_rule : (c : Context) (w : Want) (s : Span) (name : Word) (e : ExprSyntax) → least_broken (AnExpr c w (MakeBits s name e)) ≡ node_rule (least (one_row 6 (not (is_bits c.earlier name)))) w true (bits_type c.earlier name) (least [])
make_bits_rule c w s name e = least_rows (AnExpr c w (MakeBits s name e)) ∙ make_bits_rows_are c w s name e ∙ rows_split (one_row 6 (not (is_bits c.earlier name))) w true (bits_type c.earlier name) []

pub make_bits_told : (c : Context) (w : Want) (s : Span) (name : Word) (e : ExprSyntax) → first_of (expr_row c w (MakeBits s name e)) ≡ at_place (node_rule (least (one_row 6 (not (is_bits c.earlier name)))) w true (bits_type c.earlier name) (least [])) s (first_of (expr_row c (of_word c name) e))
make_bits_told c w s name e = told (AnExpr c w (MakeBits s name e)) (expr_row c (of_word c name) e) (node_rule (least (one_row 6 (not (is_bits c.earlier name)))) w true (bits_type c.earlier name) (least [])) (first_of (expr_row c (of_word c name) e)) (make_bits_rule c w s name e) refl

raw_rows_are : (c : Context) (w : Want) (s : Span) (e : ExprSyntax) → least (all_rows (AnExpr c w (Raw s e))) ≡ least (rows [] w true (own_type c (Raw s e)) (raw_rows (own_type c e)))
raw_rows_are c Nothing s e = refl
raw_rows_are c Unknown s e = refl
raw_rows_are c (Wants t) s e = refl
raw_rows_are c (Takes o k) s e = refl
raw_rows_are c (Returns q) s e = refl

pub raw_rule : (c : Context) (w : Want) (s : Span) (e : ExprSyntax) → least_broken (AnExpr c w (Raw s e)) ≡ node_rule (least []) w true (own_type c (Raw s e)) (least (raw_rows (own_type c e)))
raw_rule c w s e = least_rows (AnExpr c w (Raw s e)) ∙ raw_rows_are c w s e ∙ rows_split [] w true (own_type c (Raw s e)) (raw_rows (own_type c e))

pub raw_told : (c : Context) (w : Want) (s : Span) (e : ExprSyntax) → first_of (expr_row c w (Raw s e)) ≡ at_place (node_rule (least []) w true (own_type c (Raw s e)) (least (raw_rows (own_type c e)))) s (first_of (expr_row c Nothing e))
raw_told c w s e = told (AnExpr c w (Raw s e)) (expr_row c Nothing e) (node_rule (least []) w true (own_type c (Raw s e)) (least (raw_rows (own_type c e)))) (first_of (expr_row c Nothing e)) (raw_rule c w s e) refl

set_rows_are : (c : Context) (w : Want) (s : Span) (e : ExprSyntax) (field : Name) (value : ExprSyntax) → least (all_rows (AnExpr c w (SetField s e field value))) ≡ least (rows [] w true (only is_bit_data (own_type c e)) (set_rows c.earlier (own_type c e) field.text))
set_rows_are c Nothing s e field value = refl
set_rows_are c Unknown s e field value = refl
set_rows_are c (Wants t) s e field value = refl
set_rows_are c (Takes o k) s e field value = refl
set_rows_are c (Returns q) s e field value = refl

pub set_rule : (c : Context) (w : Want) (s : Span) (e : ExprSyntax) (field : Name) (value : ExprSyntax) → least_broken (AnExpr c w (SetField s e field value)) ≡ node_rule (least []) w true (only is_bit_data (own_type c e)) (least (set_rows c.earlier (own_type c e) field.text))
set_rule c w s e field value = least_rows (AnExpr c w (SetField s e field value)) ∙ set_rows_are c w s e field value ∙ rows_split [] w true (only is_bit_data (own_type c e)) (set_rows c.earlier (own_type c e) field.text)

pub set_told : (c : Context) (w : Want) (s : Span) (e : ExprSyntax) (field : Name) (value : ExprSyntax) → first_of (expr_row c w (SetField s e field value)) ≡ at_place (node_rule (least []) w true (only is_bit_data (own_type c e)) (least (set_rows c.earlier (own_type c e) field.text))) s (either (first_of (expr_row c Nothing e)) (first_of (expr_row c (of_new_value c e field.text) value)))
set_told c w s e field value = told (AnExpr c w (SetField s e field value)) (expr_row c Nothing e ++ expr_row c (of_new_value c e field.text) value) (node_rule (least []) w true (only is_bit_data (own_type c e)) (least (set_rows c.earlier (own_type c e) field.text))) (either (first_of (expr_row c Nothing e)) (first_of (expr_row c (of_new_value c e field.text) value))) (set_rule c w s e field value) (two_rows (expr_row c Nothing e) (expr_row c (of_new_value c e field.text) value))

binary_rows_are : (c : Context) (w : Want) (s : Span) (op : BinOp) (at : Span) (l r : ExprSyntax) → least (all_rows (AnExpr c w (Binary s op at l r))) ≡ least (rows [] w (settled (Binary s op at l r)) (own_type c (Binary s op at l r)) (binary_rows op (settled l) (settled r) (own_type c l) (own_type c r) (operand_type c w op l r)))
binary_rows_are c Nothing s op at l r = refl
binary_rows_are c Unknown s op at l r = refl
binary_rows_are c (Wants t) s op at l r = refl
binary_rows_are c (Takes o k) s op at l r = refl
binary_rows_are c (Returns q) s op at l r = refl

pub binary_rule : (c : Context) (w : Want) (s : Span) (op : BinOp) (at : Span) (l r : ExprSyntax) → least_broken (AnExpr c w (Binary s op at l r)) ≡ node_rule (least []) w (settled (Binary s op at l r)) (own_type c (Binary s op at l r)) (least (binary_rows op (settled l) (settled r) (own_type c l) (own_type c r) (operand_type c w op l r)))
binary_rule c w s op at l r = least_rows (AnExpr c w (Binary s op at l r)) ∙ binary_rows_are c w s op at l r ∙ rows_split [] w (settled (Binary s op at l r)) (own_type c (Binary s op at l r)) (binary_rows op (settled l) (settled r) (own_type c l) (own_type c r) (operand_type c w op l r))

pub binary_told : (c : Context) (w : Want) (s : Span) (op : BinOp) (at : Span) (l r : ExprSyntax) → first_of (expr_row c w (Binary s op at l r)) ≡ at_place (node_rule (least []) w (settled (Binary s op at l r)) (own_type c (Binary s op at l r)) (least (binary_rows op (settled l) (settled r) (own_type c l) (own_type c r) (operand_type c w op l r)))) s (either (first_of (expr_row c (beside c w op l r) l)) (first_of (expr_row c (beside c w op r l) r)))
binary_told c w s op at l r = told (AnExpr c w (Binary s op at l r)) (expr_row c (beside c w op l r) l ++ expr_row c (beside c w op r l) r) (node_rule (least []) w (settled (Binary s op at l r)) (own_type c (Binary s op at l r)) (least (binary_rows op (settled l) (settled r) (own_type c l) (own_type c r) (operand_type c w op l r)))) (either (first_of (expr_row c (beside c w op l r) l)) (first_of (expr_row c (beside c w op r l) r))) (binary_rule c w s op at l r) (two_rows (expr_row c (beside c w op l r) l) (expr_row c (beside c w op r l) r))

field_rows_are : (c : Context) (w : Want) (s : Span) (e : ExprSyntax) (field : Name) → least (all_rows (AnExpr c w (Field s e field))) ≡ least (rows [] w true (own_type c (Field s e field)) (field_rows c.earlier (own_type c e) field.text))
field_rows_are c Nothing s e field = refl
field_rows_are c Unknown s e field = refl
field_rows_are c (Wants t) s e field = refl
field_rows_are c (Takes o k) s e field = refl
field_rows_are c (Returns q) s e field = refl

pub field_rule : (c : Context) (w : Want) (s : Span) (e : ExprSyntax) (field : Name) → least_broken (AnExpr c w (Field s e field)) ≡ node_rule (least []) w true (own_type c (Field s e field)) (least (field_rows c.earlier (own_type c e) field.text))
field_rule c w s e field = least_rows (AnExpr c w (Field s e field)) ∙ field_rows_are c w s e field ∙ rows_split [] w true (own_type c (Field s e field)) (field_rows c.earlier (own_type c e) field.text)

pub field_told : (c : Context) (w : Want) (s : Span) (e : ExprSyntax) (field : Name) → first_of (expr_row c w (Field s e field)) ≡ at_place (node_rule (least []) w true (own_type c (Field s e field)) (least (field_rows c.earlier (own_type c e) field.text))) s (first_of (expr_row c Nothing e))
field_told c w s e field = told (AnExpr c w (Field s e field)) (expr_row c Nothing e) (node_rule (least []) w true (own_type c (Field s e field)) (least (field_rows c.earlier (own_type c e) field.text))) (first_of (expr_row c Nothing e)) (field_rule c w s e field) refl

element_rows_are : (c : Context) (w : Want) (s brackets : Span) (e index : ExprSyntax) → least (all_rows (AnExpr c w (Element s brackets e index))) ≡ least (rows [] w true (own_type c (Element s brackets e index)) (element_rows (own_type c e)))
element_rows_are c Nothing s brackets e index = refl
element_rows_are c Unknown s brackets e index = refl
element_rows_are c (Wants t) s brackets e index = refl
element_rows_are c (Takes o k) s brackets e index = refl
element_rows_are c (Returns q) s brackets e index = refl

pub element_rule : (c : Context) (w : Want) (s brackets : Span) (e index : ExprSyntax) → least_broken (AnExpr c w (Element s brackets e index)) ≡ node_rule (least []) w true (own_type c (Element s brackets e index)) (least (element_rows (own_type c e)))
element_rule c w s brackets e index = least_rows (AnExpr c w (Element s brackets e index)) ∙ element_rows_are c w s brackets e index ∙ rows_split [] w true (own_type c (Element s brackets e index)) (element_rows (own_type c e))

pub element_told : (c : Context) (w : Want) (s brackets : Span) (e index : ExprSyntax) → first_of (expr_row c w (Element s brackets e index)) ≡ at_place (node_rule (least []) w true (own_type c (Element s brackets e index)) (least (element_rows (own_type c e)))) s (either (first_of (expr_row c Nothing e)) (first_of (expr_row c (of_index c e) index)))
element_told c w s brackets e index = told (AnExpr c w (Element s brackets e index)) (expr_row c Nothing e ++ expr_row c (of_index c e) index) (node_rule (least []) w true (own_type c (Element s brackets e index)) (least (element_rows (own_type c e)))) (either (first_of (expr_row c Nothing e)) (first_of (expr_row c (of_index c e) index))) (element_rule c w s brackets e index) (two_rows (expr_row c Nothing e) (expr_row c (of_index c e) index))

cond_rows_are : (c : Context) (w : Want) (s : Span) (test l r : ExprSyntax) → least (all_rows (AnExpr c w (Cond s test l r))) ≡ least (rows [] w (settled l || settled r) (own_type c (Cond s test l r)) (cond_rows (settled l) (settled r) (own_type c l) (own_type c r) (own_type c (Cond s test l r))))
cond_rows_are c Nothing s test l r = refl
cond_rows_are c Unknown s test l r = refl
cond_rows_are c (Wants t) s test l r = refl
cond_rows_are c (Takes o k) s test l r = refl
cond_rows_are c (Returns q) s test l r = refl

pub cond_rule : (c : Context) (w : Want) (s : Span) (test l r : ExprSyntax) → least_broken (AnExpr c w (Cond s test l r)) ≡ node_rule (least []) w (settled l || settled r) (own_type c (Cond s test l r)) (least (cond_rows (settled l) (settled r) (own_type c l) (own_type c r) (own_type c (Cond s test l r))))
cond_rule c w s test l r = least_rows (AnExpr c w (Cond s test l r)) ∙ cond_rows_are c w s test l r ∙ rows_split [] w (settled l || settled r) (own_type c (Cond s test l r)) (cond_rows (settled l) (settled r) (own_type c l) (own_type c r) (own_type c (Cond s test l r)))

pub cond_told : (c : Context) (w : Want) (s : Span) (test l r : ExprSyntax) → first_of (expr_row c w (Cond s test l r)) ≡ at_place (node_rule (least []) w (settled l || settled r) (own_type c (Cond s test l r)) (least (cond_rows (settled l) (settled r) (own_type c l) (own_type c r) (own_type c (Cond s test l r))))) s (either (first_of (expr_row c (Wants types.Truth) test)) (either (first_of (expr_row c (of_arm c w l r) l)) (first_of (expr_row c (of_arm c w r l) r))))
cond_told c w s test l r = told (AnExpr c w (Cond s test l r)) (expr_row c (Wants types.Truth) test ++ (expr_row c (of_arm c w l r) l ++ expr_row c (of_arm c w r l) r)) (node_rule (least []) w (settled l || settled r) (own_type c (Cond s test l r)) (least (cond_rows (settled l) (settled r) (own_type c l) (own_type c r) (own_type c (Cond s test l r))))) (either (first_of (expr_row c (Wants types.Truth) test)) (either (first_of (expr_row c (of_arm c w l r) l)) (first_of (expr_row c (of_arm c w r l) r)))) (cond_rule c w s test l r) (three_rows (expr_row c (Wants types.Truth) test) (expr_row c (of_arm c w l r) l) (expr_row c (of_arm c w r l) r))

bare_rows_are : (c : Context) (w : Want) (s : Span) (e : ExprSyntax) → least (all_rows (AnExpr c w (Bare s e))) ≡ least (rows [] w (settled e) (own_type c e) [])
bare_rows_are c Nothing s e = refl
bare_rows_are c Unknown s e = refl
bare_rows_are c (Wants t) s e = refl
bare_rows_are c (Takes o k) s e = refl
bare_rows_are c (Returns q) s e = refl

pub bare_rule : (c : Context) (w : Want) (s : Span) (e : ExprSyntax) → least_broken (AnExpr c w (Bare s e)) ≡ node_rule (least []) w (settled e) (own_type c e) (least [])
bare_rule c w s e = least_rows (AnExpr c w (Bare s e)) ∙ bare_rows_are c w s e ∙ rows_split [] w (settled e) (own_type c e) []

pub bare_told : (c : Context) (w : Want) (s : Span) (e : ExprSyntax) → first_of (expr_row c w (Bare s e)) ≡ at_place (node_rule (least []) w (settled e) (own_type c e) (least [])) s (first_of (expr_row c w e))
bare_told c w s e = told (AnExpr c w (Bare s e)) (expr_row c w e) (node_rule (least []) w (settled e) (own_type c e) (least [])) (first_of (expr_row c w e)) (bare_rule c w s e) refl

prefix_rows_are : (c : Context) (w : Want) (s : Span) (op : PrefixOp) (e : ExprSyntax) → least (all_rows (AnExpr c w (Prefix s op e))) ≡ least (rows [] w (settled (Prefix s op e)) (own_type c (Prefix s op e)) (prefix_rows op (type_of c (wanted_type (of_operand op w e)) e) (own_type c e)))
prefix_rows_are c Nothing s Neg e = refl
prefix_rows_are c Nothing s Not e = refl
prefix_rows_are c Nothing s Flip e = refl
prefix_rows_are c Nothing s Deref e = refl
prefix_rows_are c Unknown s Neg e = refl
prefix_rows_are c Unknown s Not e = refl
prefix_rows_are c Unknown s Flip e = refl
prefix_rows_are c Unknown s Deref e = refl
prefix_rows_are c (Wants t) s Neg e = refl
prefix_rows_are c (Wants t) s Not e = refl
prefix_rows_are c (Wants t) s Flip e = refl
prefix_rows_are c (Wants t) s Deref e = refl
prefix_rows_are c (Takes o k) s Neg e = refl
prefix_rows_are c (Takes o k) s Not e = refl
prefix_rows_are c (Takes o k) s Flip e = refl
prefix_rows_are c (Takes o k) s Deref e = refl
prefix_rows_are c (Returns q) s Neg e = refl
prefix_rows_are c (Returns q) s Not e = refl
prefix_rows_are c (Returns q) s Flip e = refl
prefix_rows_are c (Returns q) s Deref e = refl

pub prefix_rule : (c : Context) (w : Want) (s : Span) (op : PrefixOp) (e : ExprSyntax) → least_broken (AnExpr c w (Prefix s op e)) ≡ node_rule None w (settled (Prefix s op e)) (own_type c (Prefix s op e)) (least (prefix_rows op (type_of c (wanted_type (of_operand op w e)) e) (own_type c e)))
prefix_rule c w s op e = least_rows (AnExpr c w (Prefix s op e)) ∙ prefix_rows_are c w s op e ∙ rows_split [] w (settled (Prefix s op e)) (own_type c (Prefix s op e)) (prefix_rows op (type_of c (wanted_type (of_operand op w e)) e) (own_type c e))

pub prefix_told : (c : Context) (w : Want) (s : Span) (op : PrefixOp) (e : ExprSyntax) → first_of (expr_row c w (Prefix s op e)) ≡ at_place (node_rule None w (settled (Prefix s op e)) (own_type c (Prefix s op e)) (least (prefix_rows op (type_of c (wanted_type (of_operand op w e)) e) (own_type c e)))) s (first_of (expr_row c (of_operand op w e) e))
prefix_told c w s op e = told (AnExpr c w (Prefix s op e)) (expr_row c (of_operand op w e) e) (node_rule None w (settled (Prefix s op e)) (own_type c (Prefix s op e)) (least (prefix_rows op (type_of c (wanted_type (of_operand op w e)) e) (own_type c e)))) (first_of (expr_row c (of_operand op w e) e)) (prefix_rule c w s op e) refl
