-- The productions of a primary, put together from languages, a form for each head: they spell what the relation says.
use Rattle.std.proofs.Common.{◌≡◌, ℕ, suc, List, ◌++◌, inl, inr, refl, sym, ap, ◌∙◌, subst, append_assoc}
use Rattle.iv_words.specs.declared.Span.{Span}
use Rattle.iv_words.specs.declared.Name.{Name}
use Rattle.ivory_lexer.specs.declared.Token.{Token}
use Rattle.ivory_lexer.specs.declared.Mark.TheVariants as mark
use Rattle.ivory_lexer.specs.declared.Key.TheVariants as key
use Rattle.ivory_tree.specs.declared.Expr.{Expr}
use Rattle.reading.specs.Row.{Row, tokens}
use Rattle.reading.specs.Language.{Language, Terminal, Mapped, Spanned, Then, After, Headed, Enclosed}
use Rattle.expression_grammar.specs.declared.PrimaryForm.{PrimaryForm}
use Rattle.expression_grammar.specs.declared.PrimaryForm.TheVariants as form
use Rattle.expression_grammar.specs.Tokens.{symbol, keyword, word_of, name_of, number_of, truth_of, int_of}
use Rattle.expression_grammar.specs.Grammar.{Symbol, Tree, Spells, Rule}
use Rattle.expression_grammar.specs.Grammar as spelled
use Rattle.expression_grammar.proofs.Nodes.{number_node, negative_node, truth_node, outcome_node, variable_node, cast_node, to_index_node, wrap_index_node, make_bits_node, raw_node, set_field_node}

-- ---- an equal row and an equal value

pub told : {s : Symbol} {v w : Tree s} {d : ℕ} {row row2 : Row Token} → v ≡ w → row ≡ row2 → Spells s w d row2 → Spells s v d row
told {s} {w = w} {d} {row} is e r = subst (λ x. Spells s x d row) (sym is) (subst (λ y. Spells s w d y) (sym e) r)

-- of a node, made from its parts and its tokens
pub made : {s : Symbol} {A : Type 0} {v : Tree s} {d : ℕ} {row row2 : Row Token} {p q : A} (f : A → List Token → Tree s)
    → v ≡ f p (tokens row) → p ≡ q → row ≡ row2 → Spells s (f q (tokens row2)) d row2 → Spells s v d row
made {row} {q} f is same e r = told (is ∙ ap (λ x. f x (tokens row)) same ∙ ap (λ y. f q (tokens y)) e) e r

-- ---- the productions

abbrev pub Number : ℕ → Language Token Expr
Number d = Spanned number_node (Terminal d number_of)

abbrev pub Negative : ℕ → Language Token Expr
Negative d = Spanned negative_node (After (Terminal d (symbol mark.Minus)) (Terminal d number_of))

-- between parentheses, which nest
abbrev pub Parens : {A : Type 0} → ℕ → Language Token A → Language Token A
Parens d R = Enclosed d (symbol mark.OpenParen) (symbol mark.CloseParen) (λ x _. x) R

-- a first part, a comma, and an expression
abbrev pub Beside : {A : Type 0} → ℕ → Language Token A → Language Token (A × Expr)
Beside d First = Then First (λ a. After (Terminal d (symbol mark.Comma)) (Mapped (λ x. (a, x)) (Rule spelled.expression d)))

-- a field and its new value, after what is changed
abbrev pub NewValue : ℕ → Expr → Language Token (Expr × (Name × Expr))
NewValue d x = After (Terminal d (symbol mark.Comma)) (Mapped (λ (p : Name × Expr). (x, p)) (Beside d (Terminal d name_of)))

abbrev pub Change : ℕ → Language Token (Expr × (Name × Expr))
Change d = Then (Rule spelled.expression d) (NewValue d)

abbrev pub Form : ℕ → PrimaryForm → Language Token Expr
Form d form.Number = Number d
Form d form.Negative = Negative d
Form d form.Truth = Spanned truth_node (Terminal d truth_of)
Form d form.Outcome = Spanned outcome_node (Terminal d (keyword key.KwResult))
Form d form.Variable = Spanned variable_node (Terminal d word_of)
Form d form.Cast = Spanned cast_node (Then (Terminal d int_of) (λ k. Mapped (λ x. (k, x)) (Parens d (Rule spelled.expression (suc d)))))
Form d form.ToIndex = Spanned to_index_node (After (Terminal d (keyword key.KwToix)) (Parens d (Beside (suc d) (Terminal (suc d) number_of))))
Form d form.WrapIndex = Spanned wrap_index_node (After (Terminal d (keyword key.KwWrapix)) (Parens d (Beside (suc d) (Terminal (suc d) number_of))))
Form d form.MakeBits = Spanned make_bits_node (After (Terminal d (keyword key.KwBits)) (Parens d (Beside (suc d) (Terminal (suc d) word_of))))
Form d form.Raw = Spanned raw_node (After (Terminal d (keyword key.KwRaw)) (Parens d (Rule spelled.expression (suc d))))
Form d form.SetField = Spanned set_field_node (After (Terminal d (keyword key.KwSet)) (Parens d (Change (suc d))))

abbrev pub Primary : ℕ → Language Token Expr
Primary d = Headed (Form d) (Parens d (Rule spelled.expression (suc d)))

-- ---- rows

-- of a head, and parentheses
row3 : (row e r f r2 g h : Row Token) → row ≡ e ++ r → r ≡ f ++ r2 → r2 ≡ g ++ h → row ≡ e ++ (f ++ (g ++ h))
row3 row e r f r2 g h one two three = one ∙ ap (λ x. e ++ x) (two ∙ ap (λ x. f ++ x) three)

-- the inside of the parentheses in three rows
split3 : (m g r h i j : Row Token) → m ≡ g ++ r → r ≡ h ++ i → m ++ j ≡ g ++ (h ++ (i ++ j))
split3 m g r h i j one two = ap (λ x. x ++ j) (one ∙ ap (λ x. g ++ x) two) ∙ append_assoc g (h ++ i) j ∙ ap (λ x. g ++ x) (append_assoc h i j)

-- ---- from languages

-- what stands between parentheses, with a first part
abbrev Paired : {A : Type 0} → ℕ → Language Token A → Language Token (A × Expr)
Paired {A} d First p row = (a : A) × (x : Expr) × (at : Span) × (comma : Span) × (to : Span) × (f : Row Token) × (g : Row Token) × (h : Row Token) × (i : Row Token) × (j : Row Token)
    × (p ≡ (a, x)) × (row ≡ f ++ (g ++ (h ++ (i ++ j)))) × Terminal (suc d) (symbol mark.OpenParen) at f × First a g × Terminal (suc d) (symbol mark.Comma) comma h
    × Rule spelled.expression (suc d) x i × Terminal (suc d) (symbol mark.CloseParen) to j

paired : {A : Type 0} (d : ℕ) (First : Language Token A) (p : A × Expr) (row : Row Token) → Parens d (Beside (suc d) First) p row → Paired d First p row
paired d First p row (at, f, r, e1, o, (q, m, j, e2, (a, g, r2, e3, first, (comma, h, i, e4, c, (x, rx, q_is))), (to, u, p_is))) =
    (a, x, at, comma, to, f, g, h, i, j, p_is ∙ q_is, e1 ∙ ap (λ y. f ++ y) (e2 ∙ split3 m g r2 h i j e3 e4), o, first, c, rx, u)

to_form : (d : ℕ) (h : PrimaryForm) (v : Expr) (row : Row Token) → Form d h v row → Spells spelled.primary v d row
to_form d form.Number v row (n, t, is) = told is refl (spelled.number t)
to_form d form.Negative v row (n, (at, f, g, e, t, u), is) = made negative_node is refl e (spelled.negative t u)
to_form d form.Truth v row (b, t, is) = told is refl (spelled.truth t)
to_form d form.Outcome v row (at, t, is) = told is refl (spelled.outcome t)
to_form d form.Variable v row (w, t, is) = told is refl (spelled.variable t)
to_form d form.Cast v row (p, (k, e, r, e1, t, (x, (at, f, r2, e2, o, (y, g, h, e3, ry, (to, u, x_is))), p_is)), is) =
    made cast_node is (p_is ∙ ap (λ z. (k, z)) x_is) (row3 row e r f r2 g h e1 e2 e3) (spelled.cast t o ry u)
to_form d form.ToIndex v row (p, (head, e, r, e1, t, inside), is) =
    let (n, x, at, comma, to, f, g, h, i, j, p_is, r_is, o, first, c, rx, u) = paired d (Terminal (suc d) number_of) p r inside in
    made to_index_node is p_is (e1 ∙ ap (λ y. e ++ y) r_is) (spelled.to_index t o first c rx u)
to_form d form.WrapIndex v row (p, (head, e, r, e1, t, inside), is) =
    let (n, x, at, comma, to, f, g, h, i, j, p_is, r_is, o, first, c, rx, u) = paired d (Terminal (suc d) number_of) p r inside in
    made wrap_index_node is p_is (e1 ∙ ap (λ y. e ++ y) r_is) (spelled.wrap_index t o first c rx u)
to_form d form.MakeBits v row (p, (head, e, r, e1, t, inside), is) =
    let (w, x, at, comma, to, f, g, h, i, j, p_is, r_is, o, first, c, rx, u) = paired d (Terminal (suc d) word_of) p r inside in
    made make_bits_node is p_is (e1 ∙ ap (λ y. e ++ y) r_is) (spelled.make_bits t o first c rx u)
to_form d form.Raw v row (x, (head, e, r, e1, t, (at, f, r2, e2, o, (y, g, h, e3, ry, (to, u, x_is)))), is) =
    made raw_node is x_is (row3 row e r f r2 g h e1 e2 e3) (spelled.raw t o ry u)
to_form d form.SetField v row (p, (head, e, r, e1, t, (at, f, r2, e2, o, (q, m, l, e3, (x, g, r3, e4, rx, (comma, h, r4, e5, c, (s, (name, i, r5, e6, n, (again, j, k, e7, c2, (value, rv, s_is))), q_is))), (to, u, p_is)))), is) =
    let inside : m ++ l ≡ g ++ (h ++ (i ++ (j ++ (k ++ l)))) = split3 m g r3 h r4 l e4 e5 ∙ ap (λ y. g ++ (h ++ y)) (split3 r4 i r5 j k l e6 e7) in
    made set_field_node is (p_is ∙ q_is ∙ ap (λ z. (x, z)) s_is) (e1 ∙ ap (λ y. e ++ y) (e2 ∙ ap (λ y. f ++ y) (e3 ∙ inside)))
    (spelled.set_field t o rx c n c2 rv u)

pub to_primary : (d : ℕ) (v : Expr) (row : Row Token) → Primary d v row → Spells spelled.primary v d row
to_primary d v row (inl (h, r)) = to_form d h v row r
to_primary d v row (inr (at, f, r, e, o, (y, g, h, e2, ry, (to, u, is)))) = told is (e ∙ ap (λ y. f ++ y) e2) (spelled.parentheses o ry u)

-- ---- to languages

pub from_primary : (d : ℕ) (v : Expr) (row : Row Token) → Spells spelled.primary v d row → Primary d v row
from_primary d v row (spelled.number {n} t) = inl (form.Number, (n, t, refl))
from_primary d v row (spelled.negative {n} {at} {f} {g} t u) = inl (form.Negative, (n, (at, f, g, refl, t, u), refl))
from_primary d v row (spelled.truth {b} t) = inl (form.Truth, (b, t, refl))
from_primary d v row (spelled.outcome {at} t) = inl (form.Outcome, (at, t, refl))
from_primary d v row (spelled.variable {w} t) = inl (form.Variable, (w, t, refl))
from_primary d v row (spelled.parentheses {at} {to} {x} {f} {g} {h} o r u) = inr (at, f, g ++ h, refl, o, (x, g, h, refl, r, (to, u, refl)))
from_primary d v row (spelled.cast {at} {to} {k} {x} {e} {f} {g} {h} t o r u) =
    inl (form.Cast, ((k, x), (k, e, f ++ (g ++ h), refl, t, (x, (at, f, g ++ h, refl, o, (x, g, h, refl, r, (to, u, refl))), refl)), refl))
from_primary d v row (spelled.to_index {n} {head} {at} {comma} {to} {x} {e} {f} {g} {h} {i} {j} t o first c r u) =
    inl (
      form.ToIndex,
      (
        (n, x),
        (
          head,
          e,
          f ++ (g ++ (h ++ (i ++ j))),
          refl,
          t,
          (
            at,
            f,
            g ++ (h ++ (i ++ j)),
            refl,
            o,
            ((n, x), g ++ (h ++ i), j, sym (split3 (g ++ (h ++ i)) g (h ++ i) h i j refl refl), (n, g, h ++ i, refl, first, (comma, h, i, refl, c, (x, r, refl))), (to, u, refl)),
          ),
        ),
        refl,
      ),
    )
from_primary d v row (spelled.wrap_index {n} {head} {at} {comma} {to} {x} {e} {f} {g} {h} {i} {j} t o first c r u) =
    inl (
      form.WrapIndex,
      (
        (n, x),
        (
          head,
          e,
          f ++ (g ++ (h ++ (i ++ j))),
          refl,
          t,
          (
            at,
            f,
            g ++ (h ++ (i ++ j)),
            refl,
            o,
            ((n, x), g ++ (h ++ i), j, sym (split3 (g ++ (h ++ i)) g (h ++ i) h i j refl refl), (n, g, h ++ i, refl, first, (comma, h, i, refl, c, (x, r, refl))), (to, u, refl)),
          ),
        ),
        refl,
      ),
    )
from_primary d v row (spelled.make_bits {w} {head} {at} {comma} {to} {x} {e} {f} {g} {h} {i} {j} t o first c r u) =
    inl (
      form.MakeBits,
      (
        (w, x),
        (
          head,
          e,
          f ++ (g ++ (h ++ (i ++ j))),
          refl,
          t,
          (
            at,
            f,
            g ++ (h ++ (i ++ j)),
            refl,
            o,
            ((w, x), g ++ (h ++ i), j, sym (split3 (g ++ (h ++ i)) g (h ++ i) h i j refl refl), (w, g, h ++ i, refl, first, (comma, h, i, refl, c, (x, r, refl))), (to, u, refl)),
          ),
        ),
        refl,
      ),
    )
from_primary d v row (spelled.raw {head} {at} {to} {x} {e} {f} {g} {h} t o r u) =
    inl (form.Raw, (x, (head, e, f ++ (g ++ h), refl, t, (at, f, g ++ h, refl, o, (x, g, h, refl, r, (to, u, refl)))), refl))
from_primary d v row (spelled.set_field {head} {at} {comma} {again} {to} {x} {value} {name} {e} {f} {g} {h} {i} {j} {k} {l} t o r c n c2 w u) =
    let first : Row Token = i ++ (j ++ k) in
    let inside : (g ++ (h ++ first)) ++ l ≡ g ++ (h ++ (i ++ (j ++ (k ++ l)))) =
    split3 (g ++ (h ++ first)) g (h ++ first) h first l refl refl ∙ ap (λ y. g ++ (h ++ y)) (split3 first i (j ++ k) j k l refl refl) in
    inl (
      form.SetField,
      (
        (x, (name, value)),
        (
          head,
          e,
          f ++ (g ++ (h ++ (i ++ (j ++ (k ++ l))))),
          refl,
          t,
          (
            at,
            f,
            g ++ (h ++ (i ++ (j ++ (k ++ l)))),
            refl,
            o,
            (
              (x, (name, value)),
              g ++ (h ++ first),
              l,
              sym inside,
              (
                x,
                g,
                h ++ first,
                refl,
                r,
                (
                  comma,
                  h,
                  first,
                  refl,
                  c,
                  ((name, value), (name, i, j ++ k, refl, n, (again, j, k, refl, c2, (value, w, refl))), refl),
                ),
              ),
              (to, u, refl),
            ),
          ),
        ),
        refl,
      ),
    )
