-- The productions of types and areas, placed_spelled together from languages: they spell what the relation says.
use Rattle.std.proofs.Common.{ℕ, suc, Bool, ◌++◌, inl, inr, refl, ap, ◌∙◌, is_some}
use Rattle.ivory_lexer.specs.declared.Token.{Token}
use Rattle.ivory_lexer.specs.declared.Mark.TheVariants as mark
use Rattle.ivory_lexer.specs.declared.Key.TheVariants as key
use Rattle.ivory_tree.specs.declared.TypeText.{TypeText}
use Rattle.ivory_tree.specs.declared.TypeKind.{TypeKind}
use Rattle.ivory_tree.specs.declared.TypeKind.TheVariants as form
use Rattle.ivory_tree.specs.declared.AreaText.{AreaText}
use Rattle.ivory_tree.specs.declared.AreaKind.{AreaKind}
use Rattle.ivory_tree.specs.declared.AreaKind.TheVariants as areas
use Rattle.reading.specs.Row.{Row}
use Rattle.reading.specs.Language.{Language, Terminal, Mapped, Then, After, Either, Headed, Optional, Nested}
use Rattle.expression_grammar.specs.Tokens.{symbol, keyword, word_of, number_of, int_of}
use Rattle.expression_grammar.proofs.Primaries.{Parens}
use Rattle.module_grammar.specs.declared.ValueForm.{ValueForm}
use Rattle.module_grammar.specs.declared.ValueForm.TheVariants as head
use Rattle.module_grammar.specs.Tokens.{region_of}
use Rattle.module_grammar.specs.Trees as tree
use Rattle.module_grammar.specs.Types.{Spells, Rule}
use Rattle.module_grammar.specs.Types as types
use Rattle.module_grammar.proofs.Placed.{Placed, equals_spelled, placed_spelled}

-- ---- stored types

abbrev pub ValueOf : ℕ → ValueForm → Language Token TypeKind
ValueOf d head.Truth = Mapped (λ _. form.Bool) (Terminal d (keyword key.KwBool))
ValueOf d head.Whole = Mapped form.Int (Terminal d int_of)
ValueOf d head.Index = After (Terminal d (keyword key.KwIx)) (Mapped form.Ix (Parens d (Terminal (suc d) number_of)))

abbrev pub ByName : ℕ → Language Token TypeKind
ByName d = Mapped form.Bits (Terminal d word_of)

abbrev pub Value : ℕ → Language Token TypeKind
Value d = Headed (ValueOf d) (ByName d)

pub to_value : (d : ℕ) (v : TypeKind) (row : Row Token) → Value d v row → Rule types.value d v row
to_value d v row (inl (head.Truth, (at, t, is))) = equals_spelled (Rule types.value d) is refl (types.truth t)
to_value d v row (inl (head.Whole, (k, t, is))) = equals_spelled (Rule types.value d) is refl (types.whole t)
to_value d v row (inl (head.Index, (ix, e, r, e1, t, (n, (at, f, r2, e2, o, (m, g, h, e3, u, (to, c, m_is))), is)))) =
    equals_spelled (Rule types.value d) (is ∙ ap form.Ix m_is) (e1 ∙ ap (λ y. e ++ y) (e2 ∙ ap (λ y. f ++ y) e3)) (types.index t o u c)
to_value d v row (inr (w, t, is)) = equals_spelled (Rule types.value d) is refl (types.bits t)

pub from_value : (d : ℕ) (v : TypeKind) (row : Row Token) → Rule types.value d v row → Value d v row
from_value d v row (types.truth {at} t) = inl (head.Truth, (at, t, refl))
from_value d v row (types.whole {k} t) = inl (head.Whole, (k, t, refl))
from_value d v row (types.index {n} {head = ix} {at} {to} {e} {f} {g} {h} t o u c) =
    inl (head.Index, (ix, e, f ++ (g ++ h), refl, t, (n, (at, f, g ++ h, refl, o, (n, g, h, refl, u, (to, c, refl))), refl)))
from_value d v row (types.bits {w} t) = inr (w, t, refl)

-- ---- areas

abbrev pub ArrayRest : ℕ → Language Token AreaKind
ArrayRest d = Then (Terminal d number_of) (λ n. After (Terminal d (symbol mark.CloseBracket)) (Mapped (areas.Array n) (Rule types.area d)))

abbrev pub Array : ℕ → Language Token AreaText
Array d = Placed (Mapped tree.area (Nested d (symbol mark.OpenBracket) (λ _. ArrayRest (suc d))))

abbrev pub Structure : ℕ → Language Token AreaText
Structure d = Placed (Mapped tree.area (After (Terminal d (keyword key.KwStruct)) (Mapped areas.Struct (Terminal d word_of))))

abbrev pub Stored : ℕ → Language Token AreaText
Stored d = Placed (Mapped tree.stored (Rule types.value d))

abbrev pub Area : ℕ → Language Token AreaText
Area d = Either (Array d) (Either (Structure d) (Stored d))

pub to_area : (d : ℕ) (v : AreaText) (row : Row Token) → Area d v row → Rule types.area d v row
to_area d v row (inl (make, (kind, (at, f, r, e1, o, (n, g, r2, e2, u, (to, h, i, e3, c, (a, ra, kind_is)))), make_is), is)) =
    placed_spelled (Rule types.area d) is (make_is ∙ ap tree.area kind_is) (e1 ∙ ap (λ y. f ++ y) (e2 ∙ ap (λ y. g ++ y) e3)) (types.array o u c ra)
to_area d v row (inr (inl (make, (kind, (head, f, g, e, t, (w, u, kind_is)), make_is), is))) =
    placed_spelled (Rule types.area d) is (make_is ∙ ap tree.area kind_is) e (types.structure t u)
to_area d v row (inr (inr (make, (kind, r, make_is), is))) = placed_spelled (Rule types.area d) is make_is refl (types.stored r)

pub from_area : (d : ℕ) (v : AreaText) (row : Row Token) → Rule types.area d v row → Area d v row
from_area d v row (types.stored {k} r) = inr (inr (tree.stored k, (k, r, refl), refl))
from_area d v row (types.array {n} {at} {to} {a} {f} {g} {h} {i} o u c ra) =
    inl (tree.area (areas.Array n a), (areas.Array n a, (at, f, g ++ (h ++ i), refl, o, (n, g, h ++ i, refl, u, (to, h, i, refl, c, (a, ra, refl)))), refl), refl)
from_area d v row (types.structure {head} {w} {f} {g} t u) =
    inr (inl (tree.area (areas.Struct w), (areas.Struct w, (head, f, g, refl, t, (w, u, refl)), refl), refl))

-- ---- types

abbrev pub Referred : ℕ → Bool → Language Token TypeKind
Referred d constant = After (Terminal d (keyword key.KwRef)) (Then (Terminal d region_of) (λ r. Mapped (tree.reference constant r) (Rule types.area d)))

abbrev pub Reference : ℕ → Language Token TypeKind
Reference d = Then (Optional (Terminal d (keyword key.KwConst))) (λ constant. Referred d (is_some constant))

abbrev pub Typed : ℕ → Language Token TypeText
Typed d = Placed (Mapped tree.typed (Either (Reference d) (Rule types.value d)))

pub to_type : (d : ℕ) (v : TypeText) (row : Row Token) → Typed d v row → Rule types.type d v row
to_type d v row (make, (kind, inl (constant, e, r, e1, c, (head, f, r2, e2, t, (where_, g, h, e3, u, (a, ra, kind_is)))), make_is), is) =
    placed_spelled (Rule types.type d) is (make_is ∙ ap tree.typed kind_is) (e1 ∙ ap (λ y. e ++ y) (e2 ∙ ap (λ y. f ++ y) e3)) (types.reference constant e c t u ra)
to_type d v row (make, (kind, inr r, make_is), is) = placed_spelled (Rule types.type d) is make_is refl (types.plain r)

pub from_type : (d : ℕ) (v : TypeText) (row : Row Token) → Rule types.type d v row → Typed d v row
from_type d v row (types.plain {k} r) = (tree.typed k, (k, inr r, refl), refl)
from_type d v row (types.reference constant e {head} {r} {a} {f} {g} {h} c t u ra) =
    let kind = tree.reference (is_some constant) r a in
    (tree.typed kind, (kind, inl (constant, e, f ++ (g ++ h), refl, c, (head, f, g ++ h, refl, t, (r, g, h, refl, u, (a, ra, refl)))), refl), refl)
