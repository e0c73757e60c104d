-- With which tokens calls, statements and blocks begin, that none ends in a sign, and something that each rule spells.
use Rattle.std.proofs.Common.{◌≡◌, ℕ, suc, Bool, true, false, [], ◌∷◌, ◌++◌, refl, sym, ap, ◌∙◌, subst, append_assoc, Option, Some, None, is_some}
use Rattle.ivory_lexer.specs.declared.Token.{Token}
use Rattle.ivory_lexer.specs.declared.Mark.TheVariants as mark
use Rattle.ivory_lexer.specs.declared.Key.{Key}
use Rattle.ivory_lexer.specs.declared.Key.TheVariants as key
use Rattle.ivory_tree.specs.declared.StmtKind.{StmtKind}
use Rattle.ivory_tree.specs.declared.StmtKind.TheVariants as form
use Rattle.ivory_tree.specs.declared.Block.{Block}
use Rattle.reading.specs.Row.{Row}
use Rattle.reading.specs.Row as rows
use Rattle.reading.specs.Language.{Many}
use Rattle.reading.proofs.Starts.{StartsWith, starts_then, starts_mapped, starts_headed, starts_as, starts_wider, starts_either, either, either_first, either_second}
use Rattle.reading.proofs.Choice.{Heads, Headless}
use Rattle.reading.proofs.Plain.{Plain, plain_mapped, plain_as}
use Rattle.expression_grammar.specs.Tokens.{is_mark, is_key, is_name, signs}
use Rattle.expression_grammar.specs.Edges.{begins_expression}
use Rattle.expression_grammar.proofs.Tokens.{at_key, at_mark, at_name}
use Rattle.expression_grammar.proofs.Begins.{starts_expression}
use Rattle.expression_grammar.proofs.Samples.{some_expression}
use Rattle.expression_grammar.proofs.Plain.{plain_enclosed}
use Rattle.module_grammar.specs.declared.StatementForm.{StatementForm}
use Rattle.module_grammar.specs.declared.StatementForm.TheVariants as head
use Rattle.module_grammar.specs.Forms.{statement_form_of}
use Rattle.module_grammar.specs.StatementReader.{begins_statement}
use Rattle.module_grammar.specs.Statements.{Tree, Rule}
use Rattle.module_grammar.specs.Statements as statements
use Rattle.module_grammar.specs.Trees as tree
use Rattle.module_grammar.proofs.Terminals.{starts_mark, starts_key, starts_name, a_mark, a_key}
use Rattle.module_grammar.proofs.Placed.{starts_placed, plain_placed}
use Rattle.module_grammar.proofs.Edges.{last_behind}
use Rattle.module_grammar.proofs.StatementRules.{from_call, from_block, IfRest, to_conditional, ElseIf, from_alternative, Form, CallAlone, from_statement}

-- ---- what begins

pub starts_call : (d : ℕ) → StartsWith is_name (Rule statements.call d)
starts_call d = starts_as (from_call d) (starts_placed (starts_then (starts_name d)))

pub starts_block : (d : ℕ) → StartsWith (is_mark mark.OpenBrace) (Rule statements.block d)
starts_block d = starts_as (from_block d) (starts_placed (starts_mapped tree.block (starts_then (starts_mark (suc d) mark.OpenBrace))))

pub starts_else_if : (d : ℕ) → StartsWith (is_key key.KwIf) (ElseIf d)
starts_else_if d = starts_placed (starts_mapped tree.only (starts_then (starts_key (suc d) key.KwIf)))

pub starts_alternative : (d : ℕ) → StartsWith (either (is_key key.KwIf) (is_mark mark.OpenBrace)) (Rule statements.alternative d)
starts_alternative d = starts_as (from_alternative d) (starts_either (is_key key.KwIf) (is_mark mark.OpenBrace) (starts_else_if d) (starts_block d))

pub starts_if_rest : (d : ℕ) → StartsWith begins_expression (IfRest d)
starts_if_rest d = starts_then (starts_expression d)

-- the keyword of a form, if it has one
abbrev keyword_of : StatementForm → Option Key
keyword_of head.Let = Some key.KwLet
keyword_of head.Alloc = Some key.KwAlloc
keyword_of head.Store = None
keyword_of head.Copy = Some key.KwCopy
keyword_of head.If = Some key.KwIf
keyword_of head.Forever = Some key.KwForever
keyword_of head.Map = Some key.KwMap
keyword_of head.Upto = Some key.KwUpto
keyword_of head.Downto = Some key.KwDownto
keyword_of head.Break = Some key.KwBreak
keyword_of head.Return = Some key.KwReturn
keyword_of head.Assert = Some key.KwAssert
keyword_of head.NoAlloc = Some key.KwNoalloc
keyword_of head.NoBreak = Some key.KwNobreak
keyword_of head.NoReturn = Some key.KwNoreturn

-- the test of a form's first token: its keyword, or the `*` of a store
abbrev first_test : Option Key → Token → Bool
first_test (Some k) = is_key k
first_test None = is_mark mark.Star

abbrev form_test : StatementForm → Token → Bool
form_test h = first_test (keyword_of h)

-- it tells the form
form_told : (h : StatementForm) (t : Token) → form_test h t ≡ true → statement_form_of t ≡ Some h
form_told head.Let t e = at_key statement_form_of (Some head.Let) key.KwLet (λ s. refl) t e
form_told head.Alloc t e = at_key statement_form_of (Some head.Alloc) key.KwAlloc (λ s. refl) t e
form_told head.Store t e = at_mark statement_form_of (Some head.Store) mark.Star (λ s. refl) t e
form_told head.Copy t e = at_key statement_form_of (Some head.Copy) key.KwCopy (λ s. refl) t e
form_told head.If t e = at_key statement_form_of (Some head.If) key.KwIf (λ s. refl) t e
form_told head.Forever t e = at_key statement_form_of (Some head.Forever) key.KwForever (λ s. refl) t e
form_told head.Map t e = at_key statement_form_of (Some head.Map) key.KwMap (λ s. refl) t e
form_told head.Upto t e = at_key statement_form_of (Some head.Upto) key.KwUpto (λ s. refl) t e
form_told head.Downto t e = at_key statement_form_of (Some head.Downto) key.KwDownto (λ s. refl) t e
form_told head.Break t e = at_key statement_form_of (Some head.Break) key.KwBreak (λ s. refl) t e
form_told head.Return t e = at_key statement_form_of (Some head.Return) key.KwReturn (λ s. refl) t e
form_told head.Assert t e = at_key statement_form_of (Some head.Assert) key.KwAssert (λ s. refl) t e
form_told head.NoAlloc t e = at_key statement_form_of (Some head.NoAlloc) key.KwNoalloc (λ s. refl) t e
form_told head.NoBreak t e = at_key statement_form_of (Some head.NoBreak) key.KwNobreak (λ s. refl) t e
form_told head.NoReturn t e = at_key statement_form_of (Some head.NoReturn) key.KwNoreturn (λ s. refl) t e

starts_form : (d : ℕ) (h : StatementForm) → StartsWith (form_test h) (Form d h)
starts_form d head.Let = starts_then (starts_key d key.KwLet)
starts_form d head.Alloc = starts_then (starts_key d key.KwAlloc)
starts_form d head.Store = starts_then (starts_mark d mark.Star)
starts_form d head.Copy = starts_then (starts_key d key.KwCopy)
starts_form d head.If = starts_then (starts_key d key.KwIf)
starts_form d head.Forever = starts_then (starts_key d key.KwForever)
starts_form d head.Map = starts_then (starts_key d key.KwMap)
starts_form d head.Upto = starts_then (starts_key d key.KwUpto)
starts_form d head.Downto = starts_then (starts_key d key.KwDownto)
starts_form d head.Break = starts_then (starts_key d key.KwBreak)
starts_form d head.Return = starts_then (starts_key d key.KwReturn)
starts_form d head.Assert = starts_then (starts_key d key.KwAssert)
starts_form d head.NoAlloc = starts_then (starts_key d key.KwNoalloc)
starts_form d head.NoBreak = starts_then (starts_key d key.KwNobreak)
starts_form d head.NoReturn = starts_then (starts_key d key.KwNoreturn)

starts_call_alone : (d : ℕ) → StartsWith is_name (CallAlone d)
starts_call_alone d = starts_then (starts_mapped form.Call (starts_call d))

pub statement_heads : (d : ℕ) → Heads statement_form_of (Form d)
statement_heads d = record {
  first = λ h v m row r. form_told h m.token ((starts_form d h).first v m row r);
  nonempty = λ h v r. (starts_form d h).nonempty v r;
}

pub statement_headless : (d : ℕ) (c : Token → Bool) → Headless c statement_form_of (CallAlone d)
statement_headless d c = record {
  first = λ v m row r. at_name statement_form_of None (λ w s. refl) m.token ((starts_call_alone d).first v m row r);
  empty = λ v r. absurd ((starts_call_alone d).nonempty v r);
}

form_begins : (h : StatementForm) (t : Token) → form_test h t ≡ true → begins_statement t ≡ true
form_begins h t e = either_second is_name (λ u. is_some (statement_form_of u)) t (ap is_some (form_told h t e))

pub starts_statement : (d : ℕ) → StartsWith begins_statement (Rule statements.statement d)
starts_statement d = starts_as (from_statement d) (starts_placed (starts_mapped tree.statement
    (starts_headed (λ h. starts_wider (form_begins h) (starts_form d h)) (starts_wider (either_first is_name (λ u. is_some (statement_form_of u))) (starts_call_alone d)))))

-- ---- what ends

pub plain_block : (d : ℕ) → Plain signs (Rule statements.block d)
plain_block d = plain_as (from_block d) (plain_placed (plain_mapped tree.block (plain_enclosed mark.OpenBrace mark.CloseBrace refl (λ stmts _. stmts) (Many (Rule statements.statement (suc d))))))

-- those that may end in an `else if`
abbrev Ends : (s : statements.Symbol) → rows.Entry Token → Type 0
Ends statements.conditional m = is_mark mark.Minus m.token ≡ false
Ends statements.alternative m = is_mark mark.Minus m.token ≡ false
Ends _ m = Unit {0}

choice_ends : (s : statements.Symbol) (d : ℕ) (v : Tree s) (all : Row Token) → Rule s d v all → (row : Row Token) (m : rows.Entry Token) → all ≡ row ++ m ∷ [] → Ends s m
choice_ends statements.conditional d v all (statements.if_alone {b} {e = f} {f = g} {g = h} t rx rb) row m e =
    let w = last_behind (f ++ g) h row m (append_assoc f g h ∙ e) (λ nothing. (starts_block d).nonempty b (subst (Rule statements.block d b) nothing rb)) in
    (plain_block d).ends b w.0 m (subst (Rule statements.block d b) w.1 rb)
choice_ends statements.conditional d v all (statements.if_else {c} {e = f} {f = g} {g = h} {h = i} {i = j} t rx rb l rc) row m e =
    let front : (f ++ (g ++ (h ++ i))) ++ j ≡ f ++ (g ++ (h ++ (i ++ j))) = append_assoc f (g ++ (h ++ i)) j ∙ ap (λ y. f ++ y) (append_assoc g (h ++ i) j ∙ ap (λ y. g ++ y) (append_assoc h i j)) in
    let w = last_behind (f ++ (g ++ (h ++ i))) j row m (front ∙ e) (λ nothing. (starts_alternative d).nonempty c (subst (Rule statements.alternative d c) nothing rc)) in
    choice_ends statements.alternative d c j rc w.0 m w.1
choice_ends statements.alternative d v all (statements.else_block r) row m e = (plain_block d).ends v row m (subst (Rule statements.block d v) e r)
choice_ends statements.alternative d v all (statements.else_if {k} r) row m e = choice_ends statements.conditional (suc d) k all r row m e
choice_ends _ d v all r row m e = tt

pub plain_if_rest : (d : ℕ) → Plain signs (IfRest d)
plain_if_rest d = record {
  ends = λ v row m r.
      let k = a_key d key.KwIf in
      choice_ends statements.conditional d v (k.1 ++ (row ++ m ∷ [])) (to_conditional d v (k.1 ++ (row ++ m ∷ [])) (k.0, k.1, row ++ m ∷ [], refl, k.2, r)) (k.1 ++ row) m
      (sym (append_assoc k.1 row (m ∷ [])));
}

-- ---- samples

pub some_block : (d : ℕ) → (v : Block) × (row : Row Token) × Rule statements.block d v row
some_block d =
    let o = a_mark (suc d) mark.OpenBrace in
    let c = a_mark (suc d) mark.CloseBrace in
    (_, o.1 ++ ([] ++ c.1), statements.braces o.2 statements.none c.2)

pub some_if_rest : (d : ℕ) → (v : StmtKind) × (row : Row Token) × IfRest d v row
some_if_rest d =
    let x = some_expression d in
    let b = some_block d in
    (form.If x.0 b.0 None, x.1 ++ (b.1 ++ []), (x.0, x.1, b.1 ++ [], refl, x.2, (b.0, b.1, [], refl, b.2, (None, refl, refl))))
