-- The productions of calls, statements and blocks, placed_spelled together from languages: they spell what the relation says.
use Rattle.std.proofs.Common.{ℕ, suc, List, [], ◌∷◌, ◌++◌, inl, inr, refl, sym, ap, ◌∙◌, subst, Some, None}
use Rattle.iv_words.specs.declared.Span.{Span}
use Rattle.iv_words.specs.declared.Name.{Name}
use Rattle.ivory_lexer.specs.declared.Token.{Token}
use Rattle.ivory_lexer.specs.declared.Mark.TheVariants as mark
use Rattle.ivory_lexer.specs.declared.Key.{Key}
use Rattle.ivory_lexer.specs.declared.Key.TheVariants as key
use Rattle.ivory_tree.specs.declared.Expr.{Expr}
use Rattle.ivory_tree.specs.declared.CallText.{CallText}
use Rattle.ivory_tree.specs.declared.Stmt.{Stmt}
use Rattle.ivory_tree.specs.declared.StmtKind.{StmtKind}
use Rattle.ivory_tree.specs.declared.StmtKind.TheVariants as form
use Rattle.ivory_tree.specs.declared.Block.{Block}
use Rattle.reading.specs.Row.{Row}
use Rattle.reading.specs.Language.{Language, Terminal, Mapped, Then, After, Before, Either, Headed, Optional, Many, Nested, Enclosed}
use Rattle.reading.proofs.Rows.{append_nil}
use Rattle.expression_grammar.specs.Tokens.{symbol, keyword, name_of, number_of}
use Rattle.expression_grammar.proofs.Primaries.{Parens}
use Rattle.module_grammar.specs.declared.StatementForm.{StatementForm}
use Rattle.module_grammar.specs.declared.StatementForm.TheVariants as head
use Rattle.module_grammar.specs.Pieces.{Expression, Postfix, Area, FirstValue, UpToParen}
use Rattle.module_grammar.specs.Trees as tree
use Rattle.module_grammar.specs.Statements.{Tree, Rule}
use Rattle.module_grammar.specs.Statements as statements
use Rattle.module_grammar.proofs.Placed.{Placed, equals_spelled, placed_spelled}
use Rattle.module_grammar.proofs.Edges.{three_before}

-- ---- lists

pub to_many : (s : statements.Symbol) (d : ℕ) (xs : List (Tree s)) (row : Row Token) → Many (Rule s d) xs row → Rule (statements.many s) d xs row
to_many s d [] row e = equals_spelled (Rule (statements.many s) d) refl e statements.none
to_many s d (x ∷ xs) row (f, g, e, r, others) = equals_spelled (Rule (statements.many s) d) refl e (statements.more r (to_many s d xs g others))

pub from_many : (s : statements.Symbol) (d : ℕ) (xs : List (Tree s)) (row : Row Token) → Rule (statements.many s) d xs row → Many (Rule s d) xs row
from_many s d [] row statements.none = refl
from_many s d (x ∷ xs) row (statements.more {f} {g} r others) = (f, g, refl, r, from_many s d xs g others)

-- ---- calls

abbrev pub Listed : {A : Type 0} → ℕ → Language Token A → Language Token (List A)
Listed {A} d R = Mapped (λ (p : List A × Span). p.0) (Nested d (symbol mark.OpenParen) (λ _. UpToParen (suc d) R))

abbrev pub CallOf : ℕ → Language Token CallText
CallOf d = Placed (Then (Terminal d name_of) (λ name. Mapped (tree.call name) (Listed d (Expression (suc d)))))

pub to_call : (d : ℕ) (v : CallText) (row : Row Token) → CallOf d v row → Rule statements.call d v row
to_call d v row (make, (name, e, r, e1, t, (args, (p, (at, f, g, e2, o, c), args_are), make_is)), is) =
    placed_spelled (Rule statements.call d) is (make_is ∙ ap (tree.call name) args_are) (e1 ∙ ap (λ y. e ++ y) e2) (statements.called t o c)

pub from_call : (d : ℕ) (v : CallText) (row : Row Token) → Rule statements.call d v row → CallOf d v row
from_call d v row (statements.called {name} {at} {to} {args} {e} {f} {g} t o c) =
    (tree.call name args, (name, e, f ++ g, refl, t, (args, ((args, to), (at, f, g, refl, o, c), refl), refl)), refl)

-- ---- loops

abbrev pub Counter : ℕ → Language Token (Name × ℕ)
Counter d = Then (Terminal d name_of) (λ name. After (Terminal d (symbol mark.Colon)) (After (Terminal d (keyword key.KwIx)) (Mapped (λ n. (name, n)) (Parens d (Terminal (suc d) number_of)))))

pub to_counter : (d : ℕ) (v : Name × ℕ) (row : Row Token) → Counter d v row → Rule statements.counter d v row
to_counter d v row (name, e, r, e1, t, (colon, f, r2, e2, c, (ix, g, r3, e3, x, (n, (at, h, r4, e4, o, (m, i, j, e5, u, (to, l, m_is))), is)))) =
    equals_spelled (Rule statements.counter d) (is ∙ ap (λ k. (name, k)) m_is) (e1 ∙ ap (λ y. e ++ y) (e2 ∙ ap (λ y. f ++ y) (e3 ∙ ap (λ y. g ++ y) (e4 ∙ ap (λ y. h ++ y) e5)))) (statements.counted t c x o u l)

pub from_counter : (d : ℕ) (v : Name × ℕ) (row : Row Token) → Rule statements.counter d v row → Counter d v row
from_counter d v row (statements.counted {n} {name} {colon} {ix} {at} {to} {e} {f} {g} {h} {i} {j} t c x o u l) =
    (name, e, f ++ (g ++ (h ++ (i ++ j))), refl, t, (colon, f, g ++ (h ++ (i ++ j)), refl, c, (ix, g, h ++ (i ++ j), refl, x, (n, (at, h, i ++ j, refl, o, (n, i, j, refl, u, (to, l, refl))), refl))))

-- ---- blocks

abbrev pub BlockOf : ℕ → Language Token Block
BlockOf d = Placed (Mapped tree.block (Enclosed d (symbol mark.OpenBrace) (symbol mark.CloseBrace) (λ stmts _. stmts) (Many (Rule statements.statement (suc d)))))

pub to_block : (d : ℕ) (v : Block) (row : Row Token) → BlockOf d v row → Rule statements.block d v row
to_block d v row (make, (stmts, (at, f, r, e, o, (xs, g, h, e2, many, (to, c, stmts_are))), make_is), is) =
    placed_spelled (Rule statements.block d) is (make_is ∙ ap tree.block stmts_are) (e ∙ ap (λ y. f ++ y) e2) (statements.braces o (to_many statements.statement (suc d) xs g many) c)

pub from_block : (d : ℕ) (v : Block) (row : Row Token) → Rule statements.block d v row → BlockOf d v row
from_block d v row (statements.braces {at} {to} {stmts} {f} {g} {h} o many c) =
    (tree.block stmts, (stmts, (at, f, g ++ h, refl, o, (stmts, g, h, refl, from_many statements.statement (suc d) stmts g many, (to, c, refl))), refl), refl)

-- ---- choices

-- behind the `if`
abbrev pub IfRest : ℕ → Language Token StmtKind
IfRest d = Then (Expression d) (λ x. Then (Rule statements.block d) (λ b. Mapped (form.If x b) (Optional (After (Terminal d (keyword key.KwElse)) (Rule statements.alternative d)))))

abbrev pub Conditional : ℕ → Language Token StmtKind
Conditional d = After (Terminal d (keyword key.KwIf)) (IfRest d)

pub to_conditional : (d : ℕ) (v : StmtKind) (row : Row Token) → Conditional d v row → Rule statements.conditional d v row
to_conditional d v row (head, e, r, e1, t, (x, f, r2, e2, rx, (b, g, r3, e3, rb, (None, none, is)))) =
    equals_spelled (Rule statements.conditional d) is (e1 ∙ ap (λ y. e ++ y) (e2 ∙ ap (λ y. f ++ y) (e3 ∙ ap (λ y. g ++ y) none ∙ append_nil g))) (statements.if_alone t rx rb)
to_conditional d v row (head, e, r, e1, t, (x, f, r2, e2, rx, (b, g, r3, e3, rb, (Some c, (at, h, i, e4, l, rc), is)))) =
    equals_spelled (Rule statements.conditional d) is (e1 ∙ ap (λ y. e ++ y) (e2 ∙ ap (λ y. f ++ y) (e3 ∙ ap (λ y. g ++ y) e4))) (statements.if_else t rx rb l rc)

pub from_conditional : (d : ℕ) (v : StmtKind) (row : Row Token) → Rule statements.conditional d v row → Conditional d v row
from_conditional d v row (statements.if_alone {head} {x} {b} {e} {f} {g} t rx rb) =
    (head, e, f ++ g, refl, t, (x, f, g, refl, rx, (b, g, [], sym (append_nil g), rb, (None, refl, refl))))
from_conditional d v row (statements.if_else {head} {at} {x} {b} {c} {e} {f} {g} {h} {i} t rx rb l rc) =
    (head, e, f ++ (g ++ (h ++ i)), refl, t, (x, f, g ++ (h ++ i), refl, rx, (b, g, h ++ i, refl, rb, (Some c, (at, h, i, refl, l, rc), refl))))

abbrev pub ElseIf : ℕ → Language Token Block
ElseIf d = Placed (Mapped tree.only (Nested d (keyword key.KwIf) (λ _. IfRest (suc d))))

abbrev pub Alternative : ℕ → Language Token Block
Alternative d = Either (ElseIf d) (Rule statements.block d)

pub to_alternative : (d : ℕ) (v : Block) (row : Row Token) → Alternative d v row → Rule statements.alternative d v row
to_alternative d v row (inl (make, (kind, r, make_is), is)) = placed_spelled (Rule statements.alternative d) is make_is refl (statements.else_if (to_conditional (suc d) kind row r))
to_alternative d v row (inr r) = statements.else_block r

pub from_alternative : (d : ℕ) (v : Block) (row : Row Token) → Rule statements.alternative d v row → Alternative d v row
from_alternative d v row (statements.else_block r) = inr r
from_alternative d v row (statements.else_if {k} {f} r) = inl (tree.only k, (k, from_conditional (suc d) k f r, refl), refl)

-- ---- statements

abbrev pub Semicolon : ℕ → Language Token Span
Semicolon d = Terminal d (symbol mark.Semicolon)

abbrev pub LetValue : ℕ → Name → Language Token StmtKind
LetValue d name = Either (Mapped (form.LetCall name) (Rule statements.call d)) (Mapped (form.Let name) (Expression d))

abbrev pub Narrowing : ℕ → Key → (Block → StmtKind) → Language Token StmtKind
Narrowing d head make = After (Terminal d (keyword head)) (Mapped make (Rule statements.block d))

abbrev pub Bounded : ℕ → Key → Key → (Name × ℕ → Expr → Block → StmtKind) → Language Token StmtKind
Bounded d head bound make =
    After (Terminal d (keyword head)) (Then (Rule statements.counter d) (λ c. After (Terminal d (keyword bound)) (Then (Expression d) (λ x. Mapped (make c x) (Rule statements.block d)))))

abbrev pub Form : ℕ → StatementForm → Language Token StmtKind
Form d head.Let = After (Terminal d (keyword key.KwLet)) (Then (Terminal d name_of) (λ name. After (Terminal d (symbol mark.Assign)) (Before (LetValue d name) (Semicolon d))))
Form d head.Alloc = After (Terminal d (keyword key.KwAlloc)) (Then (Terminal d name_of) (λ name. After (Terminal d (symbol mark.Colon)) (Then (Area d) (λ a. Before (Mapped (form.Alloc name a) (FirstValue d)) (Semicolon d)))))
Form d head.Store = After (Terminal d (symbol mark.Star)) (Then (Postfix d) (λ target. After (Terminal d (symbol mark.Assign)) (Before (Mapped (form.Store target) (Expression d)) (Semicolon d))))
Form d head.Copy = After (Terminal d (keyword key.KwCopy)) (Then (Postfix d) (λ target. After (Terminal d (symbol mark.Comma)) (Before (Mapped (form.Copy target) (Postfix d)) (Semicolon d))))
Form d head.If = Conditional d
Form d head.Forever = Narrowing d key.KwForever form.Forever
Form d head.Map = After (Terminal d (keyword key.KwMap)) (Then (Rule statements.counter d) (λ c. Mapped (form.Map c.0 c.1) (Rule statements.block d)))
Form d head.Upto = Bounded d key.KwUpto key.KwLast (λ c. form.Upto c.0 c.1)
Form d head.Downto = Bounded d key.KwDownto key.KwFirst (λ c. form.Downto c.0 c.1)
Form d head.Break = After (Terminal d (keyword key.KwBreak)) (Mapped (λ _. form.Break) (Semicolon d))
Form d head.Return = After (Terminal d (keyword key.KwReturn)) (Either (Mapped (λ _. form.Return None) (Semicolon d)) (Before (Mapped (λ x. form.Return (Some x)) (Expression d)) (Semicolon d)))
Form d head.Assert = After (Terminal d (keyword key.KwAssert)) (Before (Mapped form.Assert (Parens d (Expression (suc d)))) (Semicolon d))
Form d head.NoAlloc = Narrowing d key.KwNoalloc form.NoAlloc
Form d head.NoBreak = Narrowing d key.KwNobreak form.NoBreak
Form d head.NoReturn = Narrowing d key.KwNoreturn form.NoReturn

abbrev pub CallAlone : ℕ → Language Token StmtKind
CallAlone d = Before (Mapped form.Call (Rule statements.call d)) (Semicolon d)

abbrev pub Kind : ℕ → Language Token StmtKind
Kind d = Headed (Form d) (CallAlone d)

to_form : (d : ℕ) (h : StatementForm) (v : StmtKind) (row : Row Token) → Form d h v row → Rule statements.kind d v row
to_form d head.Let v row (at, e, r, e1, t, (name, f, r2, e2, n, (assign, g, r3, e3, a, (kind, h, i, e4, inl (c, rc, kind_is), (to, s, is))))) =
    equals_spelled (Rule statements.kind d) (is ∙ kind_is) (e1 ∙ ap (λ y. e ++ y) (e2 ∙ ap (λ y. f ++ y) (e3 ∙ ap (λ y. g ++ y) e4))) (statements.let_call t n a rc s)
to_form d head.Let v row (at, e, r, e1, t, (name, f, r2, e2, n, (assign, g, r3, e3, a, (kind, h, i, e4, inr (x, rx, kind_is), (to, s, is))))) =
    equals_spelled (Rule statements.kind d) (is ∙ kind_is) (e1 ∙ ap (λ y. e ++ y) (e2 ∙ ap (λ y. f ++ y) (e3 ∙ ap (λ y. g ++ y) e4))) (statements.let_expression t n a rx s)
to_form d head.Alloc v row (at, e, r, e1, t, (name, f, r2, e2, n, (colon, g, r3, e3, c, (a, h, r4, e4, ra, (kind, i, j, e5, (init, ri, kind_is), (to, s, is)))))) =
    equals_spelled (Rule statements.kind d) (is ∙ kind_is) (e1 ∙ ap (λ y. e ++ y) (e2 ∙ ap (λ y. f ++ y) (e3 ∙ ap (λ y. g ++ y) (e4 ∙ ap (λ y. h ++ y) e5)))) (statements.alloc init i t n c ra ri s)
to_form d head.Store v row (at, e, r, e1, t, (target, f, r2, e2, rt, (assign, g, r3, e3, a, (kind, h, i, e4, (x, rx, kind_is), (to, s, is))))) =
    equals_spelled (Rule statements.kind d) (is ∙ kind_is) (e1 ∙ ap (λ y. e ++ y) (e2 ∙ ap (λ y. f ++ y) (e3 ∙ ap (λ y. g ++ y) e4))) (statements.store t rt a rx s)
to_form d head.Copy v row (at, e, r, e1, t, (target, f, r2, e2, rt, (comma, g, r3, e3, a, (kind, h, i, e4, (x, rx, kind_is), (to, s, is))))) =
    equals_spelled (Rule statements.kind d) (is ∙ kind_is) (e1 ∙ ap (λ y. e ++ y) (e2 ∙ ap (λ y. f ++ y) (e3 ∙ ap (λ y. g ++ y) e4))) (statements.copy t rt a rx s)
to_form d head.If v row r = statements.choice (to_conditional d v row r)
to_form d head.Forever v row (at, e, f, e1, t, (b, rb, is)) = equals_spelled (Rule statements.kind d) is e1 (statements.forever t rb)
to_form d head.Map v row (at, e, r, e1, t, (c, f, g, e2, rc, (b, rb, is))) = equals_spelled (Rule statements.kind d) is (e1 ∙ ap (λ y. e ++ y) e2) (statements.map t rc rb)
to_form d head.Upto v row (at, e, r, e1, t, (c, f, r2, e2, rc, (bound, g, r3, e3, l, (x, h, i, e4, rx, (b, rb, is))))) =
    equals_spelled (Rule statements.kind d) is (e1 ∙ ap (λ y. e ++ y) (e2 ∙ ap (λ y. f ++ y) (e3 ∙ ap (λ y. g ++ y) e4))) (statements.upto t rc l rx rb)
to_form d head.Downto v row (at, e, r, e1, t, (c, f, r2, e2, rc, (bound, g, r3, e3, l, (x, h, i, e4, rx, (b, rb, is))))) =
    equals_spelled (Rule statements.kind d) is (e1 ∙ ap (λ y. e ++ y) (e2 ∙ ap (λ y. f ++ y) (e3 ∙ ap (λ y. g ++ y) e4))) (statements.downto t rc l rx rb)
to_form d head.Break v row (at, e, f, e1, t, (to, s, is)) = equals_spelled (Rule statements.kind d) is e1 (statements.break t s)
to_form d head.Return v row (at, e, f, e1, t, inl (to, s, is)) = equals_spelled (Rule statements.kind d) is e1 (statements.return None [] t refl s)
to_form d head.Return v row (at, e, r, e1, t, inr (kind, f, g, e2, (x, rx, kind_is), (to, s, is))) =
    equals_spelled (Rule statements.kind d) (is ∙ kind_is) (e1 ∙ ap (λ y. e ++ y) e2) (statements.return (Some x) f t rx s)
to_form d head.Assert v row (at, e, r, e1, t, (kind, m, i, e2, (x, (paren, f, r2, e3, o, (y, g, h, e4, ry, (to, c, x_is))), kind_is), (end, s, is))) =
    equals_spelled (Rule statements.kind d) (is ∙ kind_is ∙ ap form.Assert x_is) (e1 ∙ ap (λ y. e ++ y) (e2 ∙ three_before m f r2 g h i e3 e4)) (statements.assert t o ry c s)
to_form d head.NoAlloc v row (at, e, f, e1, t, (b, rb, is)) = equals_spelled (Rule statements.kind d) is e1 (statements.noalloc t rb)
to_form d head.NoBreak v row (at, e, f, e1, t, (b, rb, is)) = equals_spelled (Rule statements.kind d) is e1 (statements.nobreak t rb)
to_form d head.NoReturn v row (at, e, f, e1, t, (b, rb, is)) = equals_spelled (Rule statements.kind d) is e1 (statements.noreturn t rb)

to_kind : (d : ℕ) (v : StmtKind) (row : Row Token) → Kind d v row → Rule statements.kind d v row
to_kind d v row (inl (h, r)) = to_form d h v row r
to_kind d v row (inr (kind, e, f, e1, (c, rc, kind_is), (to, s, is))) = equals_spelled (Rule statements.kind d) (is ∙ kind_is) e1 (statements.call_alone rc s)

from_kind : (d : ℕ) (v : StmtKind) (row : Row Token) → Rule statements.kind d v row → Kind d v row
from_kind d v row (statements.let_expression {name} {head = at} {at = assign} {to} {x} {e} {f} {g} {h} {i} t n a rx s) =
    inl (head.Let, (at, e, f ++ (g ++ (h ++ i)), refl, t, (name, f, g ++ (h ++ i), refl, n, (assign, g, h ++ i, refl, a, (form.Let name x, h, i, refl, inr (x, rx, refl), (to, s, refl))))))
from_kind d v row (statements.let_call {name} {head = at} {at = assign} {to} {c} {e} {f} {g} {h} {i} t n a rc s) =
    inl (head.Let, (at, e, f ++ (g ++ (h ++ i)), refl, t, (name, f, g ++ (h ++ i), refl, n, (assign, g, h ++ i, refl, a, (form.LetCall name c, h, i, refl, inl (c, rc, refl), (to, s, refl))))))
from_kind d v row (statements.alloc {name} {head = at} {at = colon} {to} {a} init i {e} {f} {g} {h} {j} t n c ra ri s) =
    inl (
      head.Alloc,
      (
        at,
        e,
        f ++ (g ++ (h ++ (i ++ j))),
        refl,
        t,
        (
          name,
          f,
          g ++ (h ++ (i ++ j)),
          refl,
          n,
          (
            colon,
            g,
            h ++ (i ++ j),
            refl,
            c,
            (a, h, i ++ j, refl, ra, (form.Alloc name a init, i, j, refl, (init, ri, refl), (to, s, refl))),
          ),
        ),
      ),
    )
from_kind d v row (statements.store {head = at} {at = assign} {to} {target} {value} {e} {f} {g} {h} {i} t rt a rx s) =
    inl (head.Store, (at, e, f ++ (g ++ (h ++ i)), refl, t, (target, f, g ++ (h ++ i), refl, rt, (assign, g, h ++ i, refl, a, (form.Store target value, h, i, refl, (value, rx, refl), (to, s, refl))))))
from_kind d v row (statements.copy {head = at} {at = comma} {to} {target} {source} {e} {f} {g} {h} {i} t rt a rx s) =
    inl (head.Copy, (at, e, f ++ (g ++ (h ++ i)), refl, t, (target, f, g ++ (h ++ i), refl, rt, (comma, g, h ++ i, refl, a, (form.Copy target source, h, i, refl, (source, rx, refl), (to, s, refl))))))
from_kind d v row (statements.call_alone {to} {c} {e} {f} rc s) = inr (form.Call c, e, f, refl, (c, rc, refl), (to, s, refl))
from_kind d v row (statements.choice r) = inl (head.If, from_conditional d v row r)
from_kind d v row (statements.map {head = at} {c} {b} {e} {f} {g} t rc rb) = inl (head.Map, (at, e, f ++ g, refl, t, (c, f, g, refl, rc, (b, rb, refl))))
from_kind d v row (statements.upto {head = at} {bound} {c} {x} {b} {e} {f} {g} {h} {i} t rc l rx rb) =
    inl (head.Upto, (at, e, f ++ (g ++ (h ++ i)), refl, t, (c, f, g ++ (h ++ i), refl, rc, (bound, g, h ++ i, refl, l, (x, h, i, refl, rx, (b, rb, refl))))))
from_kind d v row (statements.downto {head = at} {bound} {c} {x} {b} {e} {f} {g} {h} {i} t rc l rx rb) =
    inl (head.Downto, (at, e, f ++ (g ++ (h ++ i)), refl, t, (c, f, g ++ (h ++ i), refl, rc, (bound, g, h ++ i, refl, l, (x, h, i, refl, rx, (b, rb, refl))))))
from_kind d v row (statements.forever {head = at} {b} {e} {f} t rb) = inl (head.Forever, (at, e, f, refl, t, (b, rb, refl)))
from_kind d v row (statements.break {head = at} {to} {e} {f} t s) = inl (head.Break, (at, e, f, refl, t, (to, s, refl)))
from_kind d v row (statements.return {head = at} {to} None f {e} {g} t none s) =
    inl (head.Return, (at, e, f ++ g, refl, t, inl (to, subst (λ y. Semicolon d to (y ++ g)) (sym none) s, refl)))
from_kind d v row (statements.return {head = at} {to} (Some x) f {e} {g} t rx s) =
    inl (head.Return, (at, e, f ++ g, refl, t, inr (form.Return (Some x), f, g, refl, (x, rx, refl), (to, s, refl))))
from_kind d v row (statements.assert {head = at} {at = paren} {to} {end} {x} {e} {f} {g} {h} {i} t o rx c s) =
    inl (
      head.Assert,
      (
        at,
        e,
        f ++ (g ++ (h ++ i)),
        refl,
        t,
        (
          form.Assert x,
          f ++ (g ++ h),
          i,
          sym (three_before (f ++ (g ++ h)) f (g ++ h) g h i refl refl),
          (x, (paren, f, g ++ h, refl, o, (x, g, h, refl, rx, (to, c, refl))), refl),
          (end, s, refl),
        ),
      ),
    )
from_kind d v row (statements.noalloc {head = at} {b} {e} {f} t rb) = inl (head.NoAlloc, (at, e, f, refl, t, (b, rb, refl)))
from_kind d v row (statements.nobreak {head = at} {b} {e} {f} t rb) = inl (head.NoBreak, (at, e, f, refl, t, (b, rb, refl)))
from_kind d v row (statements.noreturn {head = at} {b} {e} {f} t rb) = inl (head.NoReturn, (at, e, f, refl, t, (b, rb, refl)))

abbrev pub Statement : ℕ → Language Token Stmt
Statement d = Placed (Mapped tree.statement (Kind d))

pub to_statement : (d : ℕ) (v : Stmt) (row : Row Token) → Statement d v row → Rule statements.statement d v row
to_statement d v row (make, (kind, r, make_is), is) = placed_spelled (Rule statements.statement d) is make_is refl (statements.placed (to_kind d kind row r))

pub from_statement : (d : ℕ) (v : Stmt) (row : Row Token) → Rule statements.statement d v row → Statement d v row
from_statement d v row (statements.placed {k} {f} r) = (tree.statement k, (k, from_kind d k f r, refl), refl)
