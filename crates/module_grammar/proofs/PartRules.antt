-- The productions of the parts of items, placed_spelled together from languages: they spell what the relation says, and begin with a name,
-- or with a contract's keyword.
use Rattle.std.proofs.Common.{ℕ, suc, ◌++◌, refl, ap, ◌∙◌}
use Rattle.iv_words.specs.declared.Name.{Name}
use Rattle.ivory_lexer.specs.declared.Token.{Token}
use Rattle.ivory_lexer.specs.declared.Mark.TheVariants as mark
use Rattle.ivory_tree.specs.declared.BitField.{BitField}
use Rattle.ivory_tree.specs.declared.AreaField.{AreaField}
use Rattle.ivory_tree.specs.declared.Param.{Param}
use Rattle.ivory_tree.specs.declared.Contract.{Contract}
use Rattle.reading.specs.Row.{Row}
use Rattle.reading.specs.Language.{Language, Terminal, Mapped, Then, After, Before}
use Rattle.reading.proofs.Starts.{StartsWith, starts_then, starts_as}
use Rattle.expression_grammar.specs.Tokens.{symbol, is_name, name_of}
use Rattle.expression_grammar.proofs.Primaries.{Parens}
use Rattle.module_grammar.specs.Tokens.{width_of, before_of, begins_contract}
use Rattle.module_grammar.specs.Pieces.{Expression, Type_, Area}
use Rattle.module_grammar.specs.Trees as tree
use Rattle.module_grammar.specs.Parts.{Rule}
use Rattle.module_grammar.specs.Parts as parts
use Rattle.module_grammar.proofs.Terminals.{starts_name, starts_contract_head}
use Rattle.module_grammar.proofs.Placed.{Placed, placed_spelled, starts_placed}

-- a name, a colon, and more
abbrev pub Declared : {A : Type 0} → ℕ → (Name → Language Token A) → Language Token A
Declared d R = Then (Terminal d name_of) (λ name. After (Terminal d (symbol mark.Colon)) (R name))

abbrev pub Bit : ℕ → Language Token BitField
Bit d = Placed (Declared d (λ name. Mapped (tree.bit_field name) (Terminal d width_of)))

pub to_bit : (d : ℕ) (v : BitField) (row : Row Token) → Bit d v row → Rule parts.bit_field d v row
to_bit d v row (make, (name, f, r, e1, t, (at, g, h, e2, c, (width, w, make_is))), is) = placed_spelled (Rule parts.bit_field d) is make_is (e1 ∙ ap (λ y. f ++ y) e2) (parts.bit t c w)

pub from_bit : (d : ℕ) (v : BitField) (row : Row Token) → Rule parts.bit_field d v row → Bit d v row
from_bit d v row (parts.bit {name} {at} {width} {f} {g} {h} t c w) = (tree.bit_field name width, (name, f, g ++ h, refl, t, (at, g, h, refl, c, (width, w, refl))), refl)

abbrev pub Member : ℕ → Language Token AreaField
Member d = Placed (Declared d (λ name. Before (Mapped (tree.struct_field name) (Area d)) (Terminal d (symbol mark.Semicolon))))

pub to_member : (d : ℕ) (v : AreaField) (row : Row Token) → Member d v row → Rule parts.struct_field d v row
to_member d v row (make, (name, f, r, e1, t, (at, g, r2, e2, c, (part, h, i, e3, (a, ra, part_is), (to, s, make_is)))), is) =
    placed_spelled (Rule parts.struct_field d) is (make_is ∙ part_is) (e1 ∙ ap (λ y. f ++ y) (e2 ∙ ap (λ y. g ++ y) e3)) (parts.member t c ra s)

pub from_member : (d : ℕ) (v : AreaField) (row : Row Token) → Rule parts.struct_field d v row → Member d v row
from_member d v row (parts.member {name} {at} {to} {a} {f} {g} {h} {i} t c ra s) =
    (tree.struct_field name a, (name, f, g ++ (h ++ i), refl, t, (at, g, h ++ i, refl, c, (tree.struct_field name a, h, i, refl, (a, ra, refl), (to, s, refl)))), refl)

abbrev pub Taken : ℕ → Language Token Param
Taken d = Placed (Declared d (λ name. Mapped (tree.parameter name) (Type_ d)))

pub to_parameter : (d : ℕ) (v : Param) (row : Row Token) → Taken d v row → Rule parts.parameter d v row
to_parameter d v row (make, (name, f, r, e1, t, (at, g, h, e2, c, (ty, rt, make_is))), is) = placed_spelled (Rule parts.parameter d) is make_is (e1 ∙ ap (λ y. f ++ y) e2) (parts.taken t c rt)

pub from_parameter : (d : ℕ) (v : Param) (row : Row Token) → Rule parts.parameter d v row → Taken d v row
from_parameter d v row (parts.taken {name} {at} {t = ty} {f} {g} {h} t c rt) = (tree.parameter name ty, (name, f, g ++ h, refl, t, (at, g, h, refl, c, (ty, rt, refl))), refl)

abbrev pub Condition : ℕ → Language Token Contract
Condition d = Placed (Then (Terminal d before_of) (λ before. Mapped (tree.contract before) (Parens d (Expression (suc d)))))

pub to_contract : (d : ℕ) (v : Contract) (row : Row Token) → Condition d v row → Rule parts.contract d v row
to_contract d v row (make, (before, e, r, e1, t, (x, (at, f, r2, e2, o, (y, g, h, e3, ry, (to, c, x_is))), make_is)), is) =
    placed_spelled (Rule parts.contract d) is (make_is ∙ ap (tree.contract before) x_is) (e1 ∙ ap (λ y. e ++ y) (e2 ∙ ap (λ y. f ++ y) e3)) (parts.condition t o ry c)

pub from_contract : (d : ℕ) (v : Contract) (row : Row Token) → Rule parts.contract d v row → Condition d v row
from_contract d v row (parts.condition {before} {at} {to} {x} {e} {f} {g} {h} t o r c) =
    (tree.contract before x, (before, e, f ++ (g ++ h), refl, t, (x, (at, f, g ++ h, refl, o, (x, g, h, refl, r, (to, c, refl))), refl)), refl)

-- ---- what begins

pub starts_bit : (d : ℕ) → StartsWith is_name (Rule parts.bit_field d)
starts_bit d = starts_as (from_bit d) (starts_placed (starts_then (starts_name d)))

pub starts_member : (d : ℕ) → StartsWith is_name (Rule parts.struct_field d)
starts_member d = starts_as (from_member d) (starts_placed (starts_then (starts_name d)))

pub starts_parameter : (d : ℕ) → StartsWith is_name (Rule parts.parameter d)
starts_parameter d = starts_as (from_parameter d) (starts_placed (starts_then (starts_name d)))

pub starts_contract : (d : ℕ) → StartsWith begins_contract (Rule parts.contract d)
starts_contract d = starts_as (from_contract d) (starts_placed (starts_then (starts_contract_head d)))
