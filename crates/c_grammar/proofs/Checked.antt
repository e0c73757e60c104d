-- The grammar of the C subset can be read by its first pieces.
use Rattle.std.proofs.Common.{◌≡◌, ℕ, zero, suc, ◌+◌, true, false, cond, ◌||◌, refl, ap, arith, List, [], Some, None}
use Rattle.std.specs.Prelude.{nat_eq, is_some}
use Rattle.std.proofs.lemmas.Bool.{eq-eqb, ne_eqb}
use Rattle.reading.specs.Row.{no_signs}
use Rattle.reading.specs.Exact.{Exact, Spelled}
use Rattle.c_ast.specs.Syntax.{TranslationUnit}
use Rattle.grammars.specs.Checks.{has_example, clashes, filled, Checked}
use Rattle.c_grammar.specs.Pieces.{Piece, Blanks}
use Rattle.c_grammar.specs.Kinds.{lexicon, kind, line_blanks, closing_blanks, indentation, outdentation}
use Rattle.c_grammar.specs.Symbols.{Symbol, an_expression, a_pointer, an_inner, an_inside, arguments, initializers, a_length, forever, a_block, a_body, the_members, the_types, the_params, stop_params, a_unit}
use Rattle.c_grammar.specs.ExpressionRules.{expression, binary_operator, tail, value_inside}
use Rattle.c_grammar.specs.StatementRules.{value_or_call, simple, statement}
use Rattle.c_grammar.specs.UnitRules.{defined, first_value, static_item, at_stage, fixed_lines}
use Rattle.c_grammar.specs.Subset.{grammar, Text, parse}
use Rattle.grammars.proofs.Soundness.{parsed_exactly, one_tree}

fills : (n : Symbol) → filled lexicon grammar 3 n ≡ true
unfolding expression binary_operator tail value_inside value_or_call simple statement defined first_value static_item at_stage fixed_lines
fills an_expression = refl
fills a_pointer = refl
fills an_inner = refl
fills an_inside = refl
fills arguments = refl
fills initializers = refl
fills a_length = refl
fills forever = refl
fills a_block = refl
fills a_body = refl
fills the_members = refl
fills the_types = refl
fills the_params = refl
fills stop_params = refl
fills a_unit = refl

-- the blanks before a statement and before a closing brace are told apart at each depth
pub indent_kind : (d : ℕ) → nat_eq indentation (kind d (Blanks (line_blanks d))) ≡ true
indent_kind zero = refl
indent_kind (suc d) =
    let one : nat_eq (suc (suc (d + d))) 1 ≡ false = ne_eqb (suc (suc (d + d))) 1 (λ e. omega arith) in
    let same : nat_eq (suc (suc (d + d))) (suc (suc (d + d))) ≡ true = eq-eqb (suc (suc (d + d))) (suc (suc (d + d))) refl in
    rw (one, same) refl

pub outdent_kind : (d : ℕ) → nat_eq outdentation (kind d (Blanks (closing_blanks d))) ≡ true
outdent_kind zero = refl
outdent_kind (suc zero) = refl
outdent_kind (suc (suc d)) =
    let one : nat_eq (suc (suc (d + d))) 1 ≡ false = ne_eqb (suc (suc (d + d))) 1 (λ e. omega arith) in
    let line : nat_eq (suc (suc (d + d))) (suc (suc (suc d + suc d))) ≡ false = ne_eqb (suc (suc (d + d))) (suc (suc (suc d + suc d))) (λ e. omega arith) in
    let same : nat_eq (suc (suc (d + d))) (suc (suc (d + d))) ≡ true = eq-eqb (suc (suc (d + d))) (suc (suc (d + d))) refl in
    rw (one, line, same) refl

indent_there : (d : ℕ) → has_example lexicon grammar {A = Piece} d indentation Some ≡ true
indent_there d = ap (λ b. is_some (cond b (Some (Blanks (line_blanks d))) None) || false) (indent_kind d)

outdent_there : (d : ℕ) → has_example lexicon grammar {A = Piece} d outdentation Some ≡ true
outdent_there d = ap (λ b. is_some (cond b (Some (Blanks (closing_blanks d))) None) || false) (outdent_kind d)

apart : (d : ℕ) (n : Symbol) → clashes lexicon grammar d (grammar n) ≡ []
unfolding expression binary_operator tail value_inside value_or_call simple statement defined first_value static_item at_stage fixed_lines
apart d an_expression = refl
apart d a_pointer = refl
apart d an_inner = refl
apart d an_inside = refl
apart d arguments = refl
apart d initializers = refl
apart d a_length = refl
apart d forever = refl
apart d a_block = rw (indent_there d, outdent_there d) refl
apart d a_body = rw (indent_there d) refl
apart d the_members = rw (indent_there d) refl
apart d the_types = refl
apart d the_params = refl
apart d stop_params = refl
apart d a_unit = refl

checked : Checked lexicon grammar
checked = record { levels = 3; fills = fills; apart = apart }

pub exactly : (limit : ℕ) → Exact no_signs limit Text (parse limit)
exactly = parsed_exactly lexicon grammar checked a_unit

pub unique : (u v : TranslationUnit) (ps : List Piece) → Spelled Text u ps → Spelled Text v ps → u ≡ v
unique = one_tree lexicon grammar checked a_unit
