-- The productions of items and modules, placed_spelled together from languages: they spell what the relations say.
use Rattle.std.proofs.Common.{ℕ, suc, Bool, List, ◌++◌, inl, inr, refl, sym, ap, ◌∙◌, Option, is_some}
use Rattle.iv_words.specs.declared.Span.{Span}
use Rattle.ivory_lexer.specs.declared.Token.{Token}
use Rattle.ivory_lexer.specs.declared.Mark.TheVariants as mark
use Rattle.ivory_lexer.specs.declared.Key.TheVariants as key
use Rattle.ivory_tree.specs.declared.TypeText.{TypeText}
use Rattle.ivory_tree.specs.declared.BitField.{BitField}
use Rattle.ivory_tree.specs.declared.AreaField.{AreaField}
use Rattle.ivory_tree.specs.declared.Header.{Header}
use Rattle.ivory_tree.specs.declared.Item.{Item}
use Rattle.ivory_tree.specs.declared.Module.{Module}
use Rattle.reading.specs.Row.{Row}
use Rattle.reading.specs.Language.{Language, Terminal, Mapped, Then, After, Before, Headed, Optional, Many, AtLeastOne, Separated, Enclosed}
use Rattle.expression_grammar.specs.Tokens.{symbol, keyword, name_of, int_of}
use Rattle.module_grammar.specs.declared.ItemForm.{ItemForm}
use Rattle.module_grammar.specs.declared.ItemForm.TheVariants as head
use Rattle.module_grammar.specs.Pieces.{Type_, Area, FirstValue}
use Rattle.module_grammar.specs.Trees as tree
use Rattle.module_grammar.specs.Statements as statements
use Rattle.module_grammar.specs.Parts as parts
use Rattle.module_grammar.specs.Items.{Rule}
use Rattle.module_grammar.specs.Items as items
use Rattle.module_grammar.specs.Modules as modules
use Rattle.module_grammar.proofs.Placed.{Placed, placed_spelled}
use Rattle.module_grammar.proofs.Edges.{two_before}
use Rattle.module_grammar.proofs.StatementRules.{Listed, Semicolon}
use Rattle.module_grammar.proofs.PartRules.{Declared}

-- ---- headers

abbrev pub Result : ℕ → Language Token (Option TypeText)
Result d = Optional (After (Terminal d (symbol mark.Arrow)) (Type_ d))

abbrev pub HeaderOf : ℕ → Language Token Header
HeaderOf d = Placed (Then (Terminal d name_of) (λ name. Then (Listed d (parts.Rule parts.parameter (suc d))) (λ params. Mapped (tree.header name params) (Result d))))

pub to_header : (d : ℕ) (v : Header) (row : Row Token) → HeaderOf d v row → Rule items.header d v row
to_header d v row (make, (name, e, r, e1, t, (params, m, h, e2, (p, (at, f, g, e3, o, c), params_are), (result, rr, make_is))), is) =
    placed_spelled (Rule items.header d) is (make_is ∙ ap (λ x. tree.header name x result) params_are) (e1 ∙ ap (λ y. e ++ y) (e2 ∙ two_before m f g h e3)) (items.signature result h t o c rr)

pub from_header : (d : ℕ) (v : Header) (row : Row Token) → Rule items.header d v row → HeaderOf d v row
from_header d v row (items.signature {name} {at} {to} {params} result h {e} {f} {g} t o c rr) =
    (tree.header name params result, (name, e, f ++ (g ++ h), refl, t, (params, f ++ g, h, sym (two_before (f ++ g) f g h refl), ((params, to), (at, f, g, refl, o, c), refl), (result, rr, refl))), refl)

-- ---- items

abbrev pub Braces : {A : Type 0} → ℕ → Language Token A → Language Token A
Braces d R = Enclosed d (symbol mark.OpenBrace) (symbol mark.CloseBrace) (λ x _. x) R

abbrev pub BitFields : ℕ → Language Token (List BitField)
BitFields d = Separated (Terminal d (symbol mark.Comma)) (parts.Rule parts.bit_field d)

abbrev pub StructFields : ℕ → Language Token (List AreaField)
StructFields d = AtLeastOne (parts.Rule parts.struct_field d)

abbrev pub Form : ℕ → ItemForm → Language Token Item
Form d head.Bits = Placed (After (Terminal d (keyword key.KwBitdata)) (Declared d (λ name. Then (Terminal d int_of) (λ word. Mapped (tree.bits name word) (Braces d (BitFields (suc d)))))))
Form d head.Struct = Placed (After (Terminal d (keyword key.KwStruct)) (Then (Terminal d name_of) (λ name. Mapped (tree.structure name) (Braces d (StructFields (suc d))))))
Form d head.Area = Placed (Then (Optional (Terminal d (keyword key.KwConst))) (λ constant. After (Terminal d (keyword key.KwArea))
    (Declared d (λ name. Then (Area d) (λ a. Before (Mapped (tree.global (is_some constant) name a) (FirstValue d)) (Semicolon d))))))
Form d head.Import = Placed (After (Terminal d (keyword key.KwImport)) (Before (Mapped tree.import (Rule items.header d)) (Semicolon d)))

-- behind its header
abbrev pub Body : ℕ → Bool → Header → Language Token (Span → Item)
Body d exported h = Then (Many (parts.Rule parts.contract d)) (λ contracts. Mapped (tree.procedure exported h contracts) (statements.Rule statements.block d))

abbrev pub Procedure : ℕ → Language Token Item
Procedure d = Placed (Then (Optional (Terminal d (keyword key.KwExport))) (λ exported. After (Terminal d (keyword key.KwProc))
    (Then (Rule items.header d) (λ h. Body d (is_some exported) h))))

abbrev pub ItemOf : ℕ → Language Token Item
ItemOf d = Headed (Form d) (Procedure d)

to_form : (d : ℕ) (h : ItemForm) (v : Item) (row : Row Token) → Form d h v row → Rule items.item d v row
to_form d head.Bits v row (make, (at, e, r, e1, t, (name, f, r2, e2, n, (colon, g, r3, e3, c, (word, h, r4, e4, w, (fields, (open_, i, r5, e5, o, (xs, j, k, e6, some, (to, u, fields_are))), make_is))))), is) =
    placed_spelled (Rule items.item d) is (make_is ∙ ap (tree.bits name word) fields_are) (e1 ∙ ap (λ y. e ++ y) (e2 ∙ ap (λ y. f ++ y) (e3 ∙ ap (λ y. g ++ y) (e4 ∙ ap (λ y. h ++ y) (e5 ∙ ap (λ y. i ++ y) e6)))))
    (items.bits t n c w o some u)
to_form d head.Struct v row (make, (at, e, r, e1, t, (name, f, r2, e2, n, (fields, (open_, g, r3, e3, o, (xs, h, i, e4, some, (to, u, fields_are))), make_is))), is) =
    placed_spelled (Rule items.item d) is (make_is ∙ ap (tree.structure name) fields_are) (e1 ∙ ap (λ y. e ++ y) (e2 ∙ ap (λ y. f ++ y) (e3 ∙ ap (λ y. g ++ y) e4))) (items.structure t n o some u)
to_form d head.Area v row (make, (constant, e, r, e1, q, (at, f, r2, e2, t, (name, g, r3, e3, n, (colon, h, r4, e4, c, (a, i, r5, e5, ra, (part, j, k, e6, (init, ri, part_is), (to, s, make_is))))))), is) =
    placed_spelled (Rule items.item d) is (make_is ∙ part_is) (e1 ∙ ap (λ y. e ++ y) (e2 ∙ ap (λ y. f ++ y) (e3 ∙ ap (λ y. g ++ y) (e4 ∙ ap (λ y. h ++ y) (e5 ∙ ap (λ y. i ++ y) e6)))))
    (items.area constant e init j q t n c ra ri s)
to_form d head.Import v row (make, (at, e, r, e1, t, (part, f, g, e2, (x, rx, part_is), (to, s, make_is))), is) =
    placed_spelled (Rule items.item d) is (make_is ∙ part_is) (e1 ∙ ap (λ y. e ++ y) e2) (items.import t rx s)

pub to_item : (d : ℕ) (v : Item) (row : Row Token) → ItemOf d v row → Rule items.item d v row
to_item d v row (inl (h, r)) = to_form d h v row r
to_item d v row (inr (make, (exported, e, r, e1, q, (at, f, r2, e2, t, (x, g, r3, e3, rx, (contracts, h, i, e4, many, (body, rb, make_is))))), is)) =
    placed_spelled (Rule items.item d) is make_is (e1 ∙ ap (λ y. e ++ y) (e2 ∙ ap (λ y. f ++ y) (e3 ∙ ap (λ y. g ++ y) e4))) (items.procedure exported e contracts h q t rx many rb)

pub from_item : (d : ℕ) (v : Item) (row : Row Token) → Rule items.item d v row → ItemOf d v row
from_item d v row (items.bits {name} {word} {head = at} {colon} {at = open_} {to} {fields} {e} {f} {g} {h} {i} {j} {k} t n c w o some u) =
    inl (
      head.Bits,
      (
        tree.bits name word fields,
        (
          at,
          e,
          f ++ (g ++ (h ++ (i ++ (j ++ k)))),
          refl,
          t,
          (
            name,
            f,
            g ++ (h ++ (i ++ (j ++ k))),
            refl,
            n,
            (
              colon,
              g,
              h ++ (i ++ (j ++ k)),
              refl,
              c,
              (word, h, i ++ (j ++ k), refl, w, (fields, (open_, i, j ++ k, refl, o, (fields, j, k, refl, some, (to, u, refl))), refl)),
            ),
          ),
        ),
        refl,
      ),
    )
from_item d v row (items.structure {name} {head = at} {at = open_} {to} {fields} {e} {f} {g} {h} {i} t n o some u) =
    inl (
      head.Struct,
      (
        tree.structure name fields,
        (
          at,
          e,
          f ++ (g ++ (h ++ i)),
          refl,
          t,
          (
            name,
            f,
            g ++ (h ++ i),
            refl,
            n,
            (fields, (open_, g, h ++ i, refl, o, (fields, h, i, refl, some, (to, u, refl))), refl),
          ),
        ),
        refl,
      ),
    )
from_item d v row (items.area constant e {name} {head = at} {colon} {to} {a} init j {f} {g} {h} {i} {k} q t n c ra ri s) =
    let make = tree.global (is_some constant) name a init in
    inl (
      head.Area,
      (
        make,
        (
          constant,
          e,
          f ++ (g ++ (h ++ (i ++ (j ++ k)))),
          refl,
          q,
          (
            at,
            f,
            g ++ (h ++ (i ++ (j ++ k))),
            refl,
            t,
            (
              name,
              g,
              h ++ (i ++ (j ++ k)),
              refl,
              n,
              (colon, h, i ++ (j ++ k), refl, c, (a, i, j ++ k, refl, ra, (make, j, k, refl, (init, ri, refl), (to, s, refl)))),
            ),
          ),
        ),
        refl,
      ),
    )
from_item d v row (items.import {head = at} {to} {x} {e} {f} {g} t rx s) =
    inl (head.Import, (tree.import x, (at, e, f ++ g, refl, t, (tree.import x, f, g, refl, (x, rx, refl), (to, s, refl))), refl))
from_item d v row (items.procedure exported e {head = at} {x} contracts h {body} {f} {g} {i} q t rx many rb) =
    inr (tree.procedure (is_some exported) x contracts body, (exported, e, f ++ (g ++ (h ++ i)), refl, q, (at, f, g ++ (h ++ i), refl, t, (x, g, h ++ i, refl, rx, (contracts, h, i, refl, many, (body, rb, refl))))), refl)

-- ---- modules

abbrev pub ModuleOf : ℕ → Language Token Module
ModuleOf d = Placed (After (Terminal d (keyword key.KwModule)) (Then (Terminal d name_of) (λ name. After (Semicolon d) (Mapped (tree.module_of name) (Many (Rule items.item d))))))

pub to_module : (d : ℕ) (v : Module) (row : Row Token) → ModuleOf d v row → modules.Rule modules.module_ d v row
to_module d v row (make, (at, e, r, e1, t, (name, f, r2, e2, n, (to, g, h, e3, s, (xs, many, make_is)))), is) =
    placed_spelled (modules.Rule modules.module_ d) is make_is (e1 ∙ ap (λ y. e ++ y) (e2 ∙ ap (λ y. f ++ y) e3)) (modules.whole xs h t n s many)

pub from_module : (d : ℕ) (v : Module) (row : Row Token) → modules.Rule modules.module_ d v row → ModuleOf d v row
from_module d v row (modules.whole {name} {head = at} {to} xs h {e} {f} {g} t n s many) =
    (tree.module_of name xs, (at, e, f ++ (g ++ h), refl, t, (name, f, g ++ h, refl, n, (to, g, h, refl, s, (xs, many, refl)))), refl)
