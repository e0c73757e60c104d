-- What the tokens of calls, statements and blocks tell.
use Rattle.std.proofs.Common.{◌≡◌, ℕ, suc, Bool, true, false, not, List, [], ◌∷◌, ◌++◌, refl, sym, ap, ◌∙◌, subst, length, Option, Some, None}
use Rattle.iv_words.specs.declared.Span.{Span}
use Rattle.ivory_lexer.specs.declared.Token.{Token}
use Rattle.ivory_lexer.specs.declared.TokenKind.{TokenKind}
use Rattle.ivory_lexer.specs.declared.TokenKind.TheVariants as kind
use Rattle.ivory_lexer.specs.declared.Mark.TheVariants as mark
use Rattle.ivory_lexer.specs.declared.Key.TheVariants as key
use Rattle.ivory_tree.specs.Syntax.{Word}
use Rattle.ivory_tree.specs.declared.Expr.{Expr}
use Rattle.ivory_tree.specs.declared.Stmt.{Stmt}
use Rattle.ivory_tree.specs.declared.Block.{Block}
use Rattle.reading.specs.Row.{Entry, Row, tokens}
use Rattle.reading.specs.Language.{Terminal, Optional}
use Rattle.reading.proofs.Rows.{regroup}
use Rattle.expression_grammar.specs.Tokens.{symbol, is_mark}
use Rattle.expression_grammar.proofs.Tokens.{token, marked, keyed, at_mark, not_key, symbol_passes}
use Rattle.module_grammar.specs.Pieces.{Expression}
use Rattle.module_grammar.specs.StatementReader.{begins_statement}
use Rattle.module_grammar.specs.Statements as grammar
use Rattle.module_grammar.specs.Statements.{Symbol, call, counter, statement, kind, conditional, alternative, block, many, Tree, Spells, Rule}
use Rattle.module_grammar.proofs.StatementEdges.{starts_block, starts_statement}
use Rattle.token_nesting.specs.Open.{Open, Bracket, Branch, Before, Operand, Start, Value, Else, Other}
use Rattle.token_nesting.specs.Nesting.{ends_expression, ends_behind_statement, still_open, nestings_from}
use Rattle.token_nesting.proofs.Scan.{Scan, anything, next, and, before_that, stricter, onward, nothing, first_passes}
use Rattle.token_nesting.proofs.Ends.{holds_expression, expression_stops, branch_ends}
use Rattle.token_nesting.proofs.Tokens.{scan_mark, scan_key, scan_name, scan_number, valued_postfix}
use Rattle.token_nesting.proofs.Expressions.{scan_expression, scan_value, scan_postfix, stops_alone, stops_at}
use Rattle.token_nesting.proofs.Inits.{scan_area_and_value}
use Rattle.token_nesting.proofs.Lists.{Elements, up_to_paren}

-- what follows a statement is no `else`
abbrev pub statement_stops : List Token → Bool
statement_stops ts = next (λ k. ends_behind_statement k Branch) ts

-- an `if` may stand here: within a bracket, or behind `else`
abbrev holds_if : List Open → Bool
holds_if (Bracket ∷ os) = true
holds_if (Branch ∷ os) = true
holds_if os = false

if_holds : (os : List Open) → holds_if os ≡ true → holds_expression os ≡ true
if_holds [] h = refl
if_holds (Bracket ∷ os) h = refl
if_holds (Branch ∷ os) h = refl
if_holds (o ∷ os) h = cc

block_stays : (os : List Open) → holds_if os ≡ true → still_open Operand (kind.Mark mark.OpenBrace) os ≡ os
block_stays (Bracket ∷ os) h = refl
block_stays (Branch ∷ os) h = refl
block_stays os h = cc

else_stays : (os : List Open) → holds_if os ≡ true → still_open Start (kind.Key key.KwElse) os ≡ os
else_stays (Bracket ∷ os) h = refl
else_stays (Branch ∷ os) h = refl
else_stays os h = cc

-- a block begins with a `{`
filled_passes : (q : TokenKind → Bool) → q (kind.Mark mark.OpenBrace) ≡ true → (g : Row Token) → (g ≡ [] → ⊥) → ((m : Entry Token) (row : Row Token) → g ≡ m ∷ row → is_mark mark.OpenBrace m.token ≡ true)
    → (rest : List Token) → next q (tokens g ++ rest) ≡ true
filled_passes q is [] filled first rest = absurd (filled refl)
filled_passes q is (m ∷ g) filled first rest = at_mark (λ t. q t.kind) true mark.OpenBrace (λ s. is) m.token (first m g refl)

pub block_passes : {d : ℕ} {b : Block} {g : Row Token} (q : TokenKind → Bool) → q (kind.Mark mark.OpenBrace) ≡ true → Spells block b d g → (rest : List Token) → next q (tokens g ++ rest) ≡ true
block_passes {d} {b} {g} q brace r rest =
    filled_passes q brace g (λ none. (starts_block d).nonempty b (subst (Spells block b d) none r)) (λ m row is. (starts_block d).first b m row (subst (Spells block b d) is r)) rest

block_stops : {d : ℕ} {b : Block} {g : Row Token} → Spells block b d g → (rest : List Token) → expression_stops (tokens g ++ rest) ≡ true
block_stops r rest = block_passes ends_expression refl r rest

-- a statement is no `else`
filled_starts : (g : Row Token) → (g ≡ [] → ⊥) → ((m : Entry Token) (row : Row Token) → g ≡ m ∷ row → begins_statement m.token ≡ true) → (h : Row Token) (rest : List Token) → statement_stops (tokens (g ++ h) ++ rest) ≡ true
filled_starts [] filled first h rest = absurd (filled refl)
filled_starts (m ∷ g) filled first h rest = ap not (not_key begins_statement key.KwElse (λ s. refl) m.token (first m g refl))

statement_follows : {d : ℕ} {x : Stmt} {g : Row Token} → Spells statement x d g → (h : Row Token) (rest : List Token) → statement_stops (tokens (g ++ h) ++ rest) ≡ true
statement_follows {d} {x} {g} r h rest =
    filled_starts g (λ none. (starts_statement d).nonempty x (subst (Spells statement x d) none r)) (λ m row is. (starts_statement d).first x m row (subst (Spells statement x d) is r)) h rest

arguments : (d : ℕ) {os : List Open} → length (Bracket ∷ os) ≡ d → Elements (Expression d) ends_expression Other os
arguments d at = record {
  first = λ x f r. scan_expression at refl r;
  later = λ x f r. scan_value at refl r;
  comma = refl;
}

returned : {d : ℕ} {os : List Open} {x : Span} (o : Option Expr) (f : Row Token) {g : Row Token} → length (Bracket ∷ os) ≡ d → Optional (Expression d) o f → Terminal d (symbol mark.Semicolon) x g
    → Scan anything Other (Bracket ∷ os) (f ++ g) Start (Bracket ∷ os)
returned {os = os} None f {g} at e u = subst (λ f. Scan anything Other (Bracket ∷ os) (f ++ g) Start (Bracket ∷ os)) (sym e) (scan_mark mark.Semicolon at u (λ s rest. refl))
returned (Some x) f at r u = before_that (scan_expression at refl r) (scan_mark mark.Semicolon at u (λ s rest. refl)) (λ rest e. stops_alone mark.Semicolon u refl rest)

-- what is open around the row of a symbol: statements and their parts stand within a block
abbrev around : (s : Symbol) → List Open → List Open
around conditional os = os
around alternative os = os
around block os = os
around s os = Bracket ∷ os

abbrev Told : (s : Symbol) → List Open → Row Token → Type 0
Told call os row = (b : Before) → ((w : Word) (s : Span) (rest : List Token) → nestings_from b (Bracket ∷ os) (token (kind.Name w) s ∷ rest) ≡ length (Bracket ∷ os) ∷ nestings_from Operand (Bracket ∷ os) rest)
    → Scan anything b (Bracket ∷ os) row Operand (Bracket ∷ os)
Told counter os row = Scan anything Other (Bracket ∷ os) row Operand (Bracket ∷ os)
Told statement os row = Scan statement_stops Start (Bracket ∷ os) row Start (Bracket ∷ os)
Told kind os row = Scan statement_stops Start (Bracket ∷ os) row Start (Bracket ∷ os)
Told conditional os row = holds_if os ≡ true → (b : Before) (before : List Open) → ((s : Span) (rest : List Token) → nestings_from b before (keyed key.KwIf s ∷ rest) ≡ length os ∷ nestings_from Other os rest)
    → Scan statement_stops b before row Start os
Told alternative os row = Scan statement_stops Else os row Start os
Told block os row = (b : Before) → ((s : Span) (rest : List Token) → nestings_from b os (marked mark.OpenBrace s ∷ rest) ≡ length (Bracket ∷ os) ∷ nestings_from Start (Bracket ∷ os) rest)
    → Scan anything b os row Start os
Told (many statement) os row = Scan statement_stops Start (Bracket ∷ os) row Start (Bracket ∷ os) × ((rest : List Token) → statement_stops rest ≡ true → statement_stops (tokens row ++ rest) ≡ true)
Told (many s) os row = Unit {0}

-- where anything may follow, less may
finished : {p : List Token → Bool} {a c : Before} {os now : List Open} {f : Row Token} → Scan anything a os f c now → Scan p a os f c now
finished one = stricter one (λ rest e. refl)

up_to_semicolon : {d : ℕ} {x : Span} {a : Before} {os : List Open} {f g : Row Token} → Scan expression_stops a (Bracket ∷ os) f Operand (Bracket ∷ os) → length (Bracket ∷ os) ≡ d → Terminal d (symbol mark.Semicolon) x g
    → Scan anything a (Bracket ∷ os) (f ++ g) Start (Bracket ∷ os)
up_to_semicolon one at u = before_that one (scan_mark mark.Semicolon at u (λ s rest. refl)) (λ rest e. stops_alone mark.Semicolon u refl rest)

brace_follows : {d : ℕ} {x : Span} {f : Row Token} → Terminal d (symbol mark.CloseBrace) x f → (rest : List Token) → statement_stops (tokens f ++ rest) ≡ true
brace_follows {x} {f} t rest =
    first_passes (λ k. ends_behind_statement k Branch) (symbol mark.CloseBrace) x f t (λ u e. at_mark (λ y. ends_behind_statement y.kind Branch) true mark.CloseBrace (λ s. refl) u (symbol_passes mark.CloseBrace u x e)) rest

told : (s : Symbol) (x : Tree s) (d : ℕ) (row : Row Token) → Spells s x d row → (os : List Open) → length (around s os) ≡ d → Told s os row
told call x d row (grammar.called {to} {args} {g} t u r) os at = λ b begins.
    and (scan_name at t begins) (and (scan_mark mark.OpenParen (ap suc at) u (λ s rest. refl)) (up_to_paren (arguments (suc d) (ap suc at)) (ap suc at) refl args g r))
told counter x d row (grammar.counted t u v w y z) os at =
    and (scan_name at t (λ w s rest. refl))
    (and (scan_mark mark.Colon at u (λ s rest. refl))
    (and (scan_key key.KwIx at v (λ s rest. refl))
    (and (scan_mark mark.OpenParen (ap suc at) w (λ s rest. refl))
    (and (scan_number (ap suc at) y (λ n s rest. refl)) (scan_mark mark.CloseParen (ap suc at) z (λ s rest. refl))))))
told statement x d row (grammar.placed {k} r) os at = told kind k d row r os at
told block x d row (grammar.braces {stmts} {g} t r u) os at = λ b begins.
    let inner = told (many statement) stmts (suc d) g r os (ap suc at) in
    and (scan_mark mark.OpenBrace (ap suc at) t begins) (before_that inner.0 (scan_mark mark.CloseBrace (ap suc at) u (λ s rest. refl)) (λ rest e. brace_follows u rest))
told (many statement) x d row grammar.none os at = (nothing, λ rest e. e)
told (many statement) x d row (grammar.more {x = y} {xs} {f} {g} r rs) os at =
    let others = told (many statement) xs d g rs os at in
    (before_that (told statement y d f r os at) others.0 others.1, λ rest e. statement_follows r g rest)
told (many s) x d row r os at = tt
-- values and areas
told kind x d row (grammar.let_expression {x = y} {h} t u v r w) os at =
    finished (and (scan_key key.KwLet at t (λ s rest. refl)) (and (scan_name at u (λ w s rest. refl)) (and (scan_mark mark.Assign at v (λ s rest. refl)) (up_to_semicolon (scan_value at refl r) at w))))
told kind x d row (grammar.let_call {c} {h} t u v r w) os at =
    finished (and (scan_key key.KwLet at t (λ s rest. refl)) (and (scan_name at u (λ w s rest. refl)) (and (scan_mark mark.Assign at v (λ s rest. refl))
    (and (told call c d h r os at Value (λ w s rest. refl)) (scan_mark mark.Semicolon at w (λ s rest. refl))))))
told kind x d row (grammar.alloc init i t u v r q w) os at =
    finished (and (scan_key key.KwAlloc at t (λ s rest. refl)) (and (scan_name at u (λ w s rest. refl)) (and (scan_mark mark.Colon at v (λ s rest. refl)) (scan_area_and_value init i at refl r q w))))
told kind x d row (grammar.store t r u q w) os at =
    finished (and (scan_mark mark.Star at t (λ s rest. refl)) (and (scan_postfix at refl r) (and (scan_mark mark.Assign at u (λ s rest. refl)) (up_to_semicolon (scan_value at refl q) at w))))
told kind x d row (grammar.copy t r u q w) os at =
    finished (and (scan_key key.KwCopy at t (λ s rest. refl)) (and (scan_postfix at refl r) (and (scan_mark mark.Comma at u (λ s rest. refl)) (and (valued_postfix q (scan_postfix at refl q)) (scan_mark mark.Semicolon at w (λ s rest. refl))))))
told kind x d row (grammar.call_alone {c} {e} r t) os at = finished (and (told call c d e r os at Start (λ w s rest. refl)) (scan_mark mark.Semicolon at t (λ s rest. refl)))
-- choices
told kind x d row (grammar.choice {k} r) os at = told conditional k d row r (Bracket ∷ os) at refl Start (Bracket ∷ os) (λ s rest. refl)
told conditional x d row (grammar.if_alone {b} {g} t r q) os at = λ h c before begins.
    finished (and (scan_key key.KwIf at t begins) (before_that (scan_expression at (if_holds os h) r)
    (told block b d g q os at Operand (λ s rest. ap (λ x. length (Bracket ∷ x) ∷ nestings_from Start (Bracket ∷ x) rest) (block_stays os h))) (λ rest e. block_stops q rest)))
told conditional x d row (grammar.if_else {b} {c} {g} {h = i} {i = j} t r q u p) os at = λ h before_if before begins.
    and (scan_key key.KwIf at t begins) (before_that (scan_expression at (if_holds os h) r)
    (and (told block b d g q os at Operand (λ s rest. ap (λ x. length (Bracket ∷ x) ∷ nestings_from Start (Bracket ∷ x) rest) (block_stays os h)))
    (and (scan_key key.KwElse at u (λ s rest. ap (λ x. length x ∷ nestings_from Else x rest) (else_stays os h))) (told alternative c d j p os at)))
    (λ rest e. ap expression_stops (regroup g _ rest) ∙ block_stops q _))
told alternative x d row (grammar.else_block r) os at = finished (told block x d row r os at Else (λ s rest. refl))
told alternative x d row (grammar.else_if {k} r) os at = onward (told conditional k (suc d) row r (Branch ∷ os) (ap suc at) refl Else os (λ s rest. refl)) (λ rest e. branch_ends os rest e)
-- loops
told kind x d row (grammar.map {c} {b} {f} {g} t u q) os at =
    finished (and (scan_key key.KwMap at t (λ s rest. refl)) (and (told counter c d f u os at) (told block b d g q (Bracket ∷ os) at Operand (λ s rest. refl))))
told kind x d row (grammar.upto {c} {b} {f} {i} t u v r q) os at =
    finished (and (scan_key key.KwUpto at t (λ s rest. refl)) (and (told counter c d f u os at) (and (scan_key key.KwLast at v (λ s rest. refl))
    (before_that (scan_expression at refl r) (told block b d i q (Bracket ∷ os) at Operand (λ s rest. refl)) (λ rest e. block_stops q rest)))))
told kind x d row (grammar.downto {c} {b} {f} {i} t u v r q) os at =
    finished (and (scan_key key.KwDownto at t (λ s rest. refl)) (and (told counter c d f u os at) (and (scan_key key.KwFirst at v (λ s rest. refl))
    (before_that (scan_expression at refl r) (told block b d i q (Bracket ∷ os) at Operand (λ s rest. refl)) (λ rest e. block_stops q rest)))))
told kind x d row (grammar.forever {b} {f} t q) os at = finished (and (scan_key key.KwForever at t (λ s rest. refl)) (told block b d f q (Bracket ∷ os) at Other (λ s rest. refl)))
-- the rest
told kind x d row (grammar.break t u) os at = finished (and (scan_key key.KwBreak at t (λ s rest. refl)) (scan_mark mark.Semicolon at u (λ s rest. refl)))
told kind x d row (grammar.return o f t r u) os at = finished (and (scan_key key.KwReturn at t (λ s rest. refl)) (returned o f at r u))
told kind x d row (grammar.assert t u r v w) os at =
    finished (and (scan_key key.KwAssert at t (λ s rest. refl)) (and (scan_mark mark.OpenParen (ap suc at) u (λ s rest. refl))
    (before_that (scan_expression (ap suc at) refl r) (and (scan_mark mark.CloseParen (ap suc at) v (λ s rest. refl)) (scan_mark mark.Semicolon at w (λ s rest. refl))) (λ rest e. stops_at mark.CloseParen v refl _ rest))))
told kind x d row (grammar.noalloc {b} {f} t q) os at = finished (and (scan_key key.KwNoalloc at t (λ s rest. refl)) (told block b d f q (Bracket ∷ os) at Other (λ s rest. refl)))
told kind x d row (grammar.nobreak {b} {f} t q) os at = finished (and (scan_key key.KwNobreak at t (λ s rest. refl)) (told block b d f q (Bracket ∷ os) at Other (λ s rest. refl)))
told kind x d row (grammar.noreturn {b} {f} t q) os at = finished (and (scan_key key.KwNoreturn at t (λ s rest. refl)) (told block b d f q (Bracket ∷ os) at Other (λ s rest. refl)))

pub scan_block : {d : ℕ} {b : Block} {f : Row Token} {os : List Open} → length os ≡ d → Spells block b d f → (c : Before)
    → ((s : Span) (rest : List Token) → nestings_from c os (marked mark.OpenBrace s ∷ rest) ≡ length (Bracket ∷ os) ∷ nestings_from Start (Bracket ∷ os) rest) → Scan anything c os f Start os
scan_block {d} {b} {f} {os} at r = told block b d f r os at
