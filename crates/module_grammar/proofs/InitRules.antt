-- The productions of initializers, placed_spelled together from languages: they spell what the relation says.
use Rattle.std.proofs.Common.{ℕ, suc, List, [], ◌∷◌, ◌++◌, inl, inr, refl, sym, ap, ◌∙◌, append_assoc}
use Rattle.iv_words.specs.declared.Span.{Span}
use Rattle.ivory_lexer.specs.declared.Token.{Token}
use Rattle.ivory_lexer.specs.declared.Mark.TheVariants as mark
use Rattle.ivory_tree.specs.declared.InitText.{InitText}
use Rattle.ivory_tree.specs.declared.InitText.TheVariants as form
use Rattle.reading.specs.Row.{Row}
use Rattle.reading.specs.Language.{Language, Terminal, Mapped, After, Either, Many, Nested}
use Rattle.expression_grammar.specs.Tokens.{symbol}
use Rattle.module_grammar.specs.Pieces.{Expression}
use Rattle.module_grammar.specs.Trees as tree
use Rattle.module_grammar.specs.Inits.{Rule}
use Rattle.module_grammar.specs.Inits as inits
use Rattle.module_grammar.proofs.Terminals.{UpTo}
use Rattle.module_grammar.proofs.Placed.{Placed, equals_spelled, placed_spelled}

-- each behind a comma
abbrev Further : ℕ → Language Token (List InitText)
Further d = Many (After (Terminal d (symbol mark.Comma)) (Rule inits.init d))

to_further : (d : ℕ) (xs : List InitText) (row : Row Token) → Further d xs row → Rule inits.further d xs row
to_further d [] row e = equals_spelled (Rule inits.further d) refl e inits.none
to_further d (x ∷ xs) row (f, g, e, (at, h, i, e2, c, r), others) =
    equals_spelled (Rule inits.further d) refl (e ∙ ap (λ y. y ++ g) e2 ∙ append_assoc h i g) (inits.more c r (to_further d xs g others))

from_further : (d : ℕ) (xs : List InitText) (row : Row Token) → Rule inits.further d xs row → Further d xs row
from_further d [] row inits.none = refl
from_further d (x ∷ xs) row (inits.more {at} {f} {g} {h} c r others) = (f ++ g, h, sym (append_assoc f g h), (at, f, g, refl, c, r), from_further d xs h others)

abbrev pub in_braces : List InitText × Span → Span → InitText
in_braces p = tree.braced p.0

abbrev pub Braced : ℕ → Language Token InitText
Braced d = Placed (Mapped in_braces (Nested d (symbol mark.OpenBrace) (λ _. UpTo mark.CloseBrace (suc d) (Rule inits.init (suc d)))))

abbrev pub InitOf : ℕ → Language Token InitText
InitOf d = Either (Braced d) (Mapped form.One (Expression d))

pub to_init : (d : ℕ) (v : InitText) (row : Row Token) → InitOf d v row → Rule inits.init d v row
to_init d v row (inl (make, (p, (at, f, r, e, o, inl (to, c, p_is)), make_is), is)) = placed_spelled (Rule inits.init d) is (make_is ∙ ap in_braces p_is) e (inits.empty o c)
to_init d v row (inl (make, (p, (at, f, r, e, o, inr (xs, g, i, e2, (x, h, j, e3, rx, (more, many, xs_are)), (to, c, p_is))), make_is), is)) =
    placed_spelled (Rule inits.init d) is (make_is ∙ ap in_braces p_is ∙ ap tree.braced xs_are) (e ∙ ap (λ y. f ++ y) (e2 ∙ ap (λ y. y ++ i) e3 ∙ append_assoc h j i))
    (inits.listed o rx (to_further (suc d) more j many) c)
to_init d v row (inr (x, r, is)) = equals_spelled (Rule inits.init d) is refl (inits.one r)

pub from_init : (d : ℕ) (v : InitText) (row : Row Token) → Rule inits.init d v row → InitOf d v row
from_init d v row (inits.one {x} r) = inr (x, r, refl)
from_init d v row (inits.empty {at} {to} {f} {g} o c) = inl (tree.braced [], (([], to), (at, f, g, refl, o, inl (to, c, refl)), refl), refl)
from_init d v row (inits.listed {at} {to} {x} {xs} {f} {g} {h} {i} o r others c) =
    inl (
      tree.braced (x ∷ xs),
      (
        (x ∷ xs, to),
        (
          at,
          f,
          g ++ (h ++ i),
          refl,
          o,
          inr (x ∷ xs, g ++ h, i, sym (append_assoc g h i), (x, g, h, refl, r, (xs, from_further (suc d) xs h others, refl)), (to, c, refl)),
        ),
        refl,
      ),
      refl,
    )
