-- The readers of calls, statements and blocks are good.
use Rattle.std.proofs.Common.{◌≡◌, ℕ, zero, suc, ◌+◌, Bool, true, false, List, [], refl, arith, Option, Some, None}
use Rattle.iv_words.specs.declared.Span.{Span}
use Rattle.iv_words.specs.declared.Name.{Name}
use Rattle.ivory_lexer.specs.declared.Token.{Token}
use Rattle.ivory_lexer.specs.declared.Mark.TheVariants as mark
use Rattle.ivory_lexer.specs.declared.Key.{Key}
use Rattle.ivory_lexer.specs.declared.Key.TheVariants as key
use Rattle.ivory_tree.specs.declared.Expr.{Expr}
use Rattle.ivory_tree.specs.declared.Stmt.{Stmt}
use Rattle.ivory_tree.specs.declared.StmtKind.{StmtKind}
use Rattle.ivory_tree.specs.declared.StmtKind.TheVariants as form
use Rattle.ivory_tree.specs.declared.Block.{Block}
use Rattle.reading.specs.Language.{Language}
use Rattle.reading.specs.Reader.{Reader, below, many}
use Rattle.reading.specs.Good.{Good}
use Rattle.reading.proofs.Same.{none, good_as, good_wider, good_ended, good_map}
use Rattle.reading.proofs.Sequence.{good_after, good_ended_then}
use Rattle.reading.proofs.Starts.{StartsWith, starts_then, starts_mapped, either, either_first, either_second}
use Rattle.reading.proofs.Choice.{good_choice, good_dispatch}
use Rattle.reading.proofs.TwoTokens.{good_pair}
use Rattle.reading.proofs.Repeat.{good_many}
use Rattle.reading.proofs.Lists.{good_optional}
use Rattle.reading.proofs.Nesting.{Within, barred_within, read_within, good_nested, good_enclosed}
use Rattle.expression_grammar.specs.Tokens.{is_mark, is_key, signs}
use Rattle.expression_grammar.specs.Edges.{begins_expression, goes_on}
use Rattle.expression_grammar.specs.Reader.{begins_step, expression}
use Rattle.expression_grammar.proofs.Tokens.{marked, keyed, at_mark, not_mark, not_key}
use Rattle.expression_grammar.proofs.GoodPrimary.{good_symbol, good_keyword, good_name, good_parens}
use Rattle.expression_grammar.proofs.Expressions.{good_expression, good_postfix, expression_within}
use Rattle.expression_grammar.proofs.Begins.{starts_expression}
use Rattle.expression_grammar.proofs.Samples.{nowhere, some_expression}
use Rattle.expression_grammar.proofs.Plain.{symbol_plain, keyword_plain}
use Rattle.module_grammar.specs.declared.StatementForm.{StatementForm}
use Rattle.module_grammar.specs.declared.StatementForm.TheVariants as head
use Rattle.module_grammar.specs.Statements.{Rule}
use Rattle.module_grammar.specs.Statements as statements
use Rattle.module_grammar.specs.Trees as tree
use Rattle.module_grammar.specs.StatementReader.{up_to_paren, listed, call, let_value, begins_statement, block_reader, narrowing_reader, counter_reader, bounded_reader, else_if_reader, if_reader, form_reader, call_reader, statement_reader, Readers, with_deeper, readers, statement, if_rest, block}
use Rattle.module_grammar.proofs.Terminals.{starts_mark, starts_key, good_apart, good_up_to, brackets, within_below, there_within, within_mapped, good_listed, plain_listed, an_empty_list}
use Rattle.module_grammar.proofs.Placed.{good_placed}
use Rattle.module_grammar.proofs.GoodTypes.{good_number_within, good_area}
use Rattle.module_grammar.proofs.GoodInits.{good_first_value}
use Rattle.module_grammar.proofs.StatementRules.{Listed, to_call, from_call, to_counter, from_counter, to_block, from_block, IfRest, ElseIf, to_alternative, from_alternative, LetValue, Narrowing, Bounded, Form, CallAlone, to_statement, from_statement}
use Rattle.module_grammar.proofs.StatementEdges.{starts_block, starts_else_if, statement_heads, statement_headless, starts_statement, plain_if_rest, some_if_rest}
use Rattle.module_grammar.proofs.NameFirst.{at_call, off_call}

-- ---- lists between parentheses

pub good_list : {A : Type 0} {c begins : Token → Bool} (R : Language Token A) (p : ℕ → Reader Token A) (limit k d : ℕ) → d + k ≡ limit → ((j : ℕ) → suc d + j ≡ limit → Good signs limit c R (p j)) → StartsWith begins R
    → ((s : Span) → c (marked mark.Comma s) ≡ false) → ((s : Span) → c (marked mark.CloseParen s) ≡ false) → ((t : Token) → begins t ≡ true → is_mark mark.CloseParen t ≡ false)
    → Good signs limit none (Listed d R) (listed (below p k))
good_list {A} R p limit k d e good starts comma stops apart =
    good_map (λ (q : List A × Span). q.0) (good_nested
    (there_within (λ p _. up_to_paren p) (within_below p limit k d e good) (λ q within g at. good_listed within mark.CloseParen refl g starts comma stops apart))
    (λ at. an_empty_list (suc d) mark.CloseParen R) (symbol_plain mark.OpenParen refl) (λ at. plain_listed (suc d) mark.CloseParen refl R)
    nowhere (marked mark.OpenParen nowhere) refl)

-- with what an `if` may go on
abbrev pub is_else : Token → Bool
is_else = is_key key.KwElse

-- with what the statements of a block may go on
abbrev goes_on_statements : Token → Bool
goes_on_statements = either begins_statement is_else

-- ---- blocks

good_block_with : {limit d : ℕ} {inner : Option (Reader Token Stmt)} → Within signs limit d is_else (Rule statements.statement (suc d)) inner → Good signs limit none (Rule statements.block d) (block_reader inner)
unfolding block_reader
good_block_with {limit} {d} inner =
    good_as (to_block d) (from_block d)
    (good_placed (good_map tree.block
    (good_enclosed (λ stmts _. stmts) (brackets goes_on_statements mark.OpenBrace mark.CloseBrace refl refl (λ s. refl)) ([], [], refl)
    (within_mapped (many begins_statement) inner
    (λ p within g. good_many g (starts_statement (suc d)) (not_key begins_statement key.KwElse (λ s. refl)) (either_first begins_statement is_else) (either_second begins_statement is_else))))))

module _ (limit k d : ℕ) (e : d + k ≡ limit) where
  -- ---- calls

  pub good_call : Good signs limit none (Rule statements.call d) (call k)
  unfolding call
  good_call =
      good_as (to_call d) (from_call d)
      (good_placed (good_ended_then (good_name (omega arith))
      (λ name. good_map (tree.call name)
      (good_list _ expression limit k d e (λ j there. good_expression limit j (suc d) there) (starts_expression (suc d)) (λ s. refl) (λ s. refl) (not_mark begins_expression mark.CloseParen (λ s. refl))))))

  good_let_value : (name : Name) → Good signs limit (either (is_mark mark.OpenParen) goes_on) (LetValue d name) (let_value k name)
  good_let_value name =
      good_pair (good_ended (good_map (form.LetCall name) good_call)) (good_wider (either_second (is_mark mark.OpenParen) goes_on) (good_map (form.Let name) (good_expression limit k d e)))
      (at_call (form.LetCall name) limit d (omega arith)) (off_call (form.Let name) limit d (omega arith)) (either_first (is_mark mark.OpenParen) goes_on)

  -- ---- choices

  good_else_if : {deeper : Option (Reader Token StmtKind)} → Within signs limit d is_else (IfRest (suc d)) deeper → Good signs limit is_else (ElseIf d) (else_if_reader deeper)
  good_else_if deeper =
      good_placed (good_map tree.only
      (good_nested (there_within (λ rest _. rest) deeper (λ p within g at. g)) (λ at. some_if_rest (suc d)) (keyword_plain key.KwIf) (λ at. plain_if_rest (suc d))
      nowhere (keyed key.KwIf nowhere) refl))

  good_if_with : {body : Reader Token Block} {deeper : Option (Reader Token StmtKind)} → Good signs limit none (Rule statements.block d) body → Within signs limit d is_else (IfRest (suc d)) deeper
      → Good signs limit is_else (IfRest d) (if_reader k body deeper)
  unfolding if_reader
  good_if_with body deeper =
      let alternative =
      good_as (to_alternative d) (from_alternative d)
      (good_choice (is_key key.KwIf) (is_mark mark.OpenBrace) (not_key (is_mark mark.OpenBrace) key.KwIf (λ s. refl)) (good_else_if deeper) (starts_else_if d) (good_ended body) (starts_block d)) in
      good_apart (good_expression limit k d e)
      (λ x. good_ended_then body (λ b. good_map (form.If x b)
      (good_optional (good_after (good_keyword key.KwElse (omega arith)) alternative) (starts_then (starts_key d key.KwElse)) (λ t is. is) (λ t is. is))))
      (is_mark mark.OpenBrace) (λ x. starts_then (starts_block d)) (at_mark goes_on false mark.OpenBrace (λ s. refl))

  -- ---- statements

  good_counter : Good signs limit none (Rule statements.counter d) (counter_reader k)
  good_counter =
      good_as (to_counter d) (from_counter d)
      (good_ended_then (good_name (omega arith))
      (λ name. good_after (good_symbol mark.Colon (omega arith)) (good_after (good_keyword key.KwIx (omega arith)) (good_map (λ n. (name, n)) (good_number_within limit k d e)))))

  module _ {body : Reader Token Block} {rest : Reader Token StmtKind} (good_body : Good signs limit none (Rule statements.block d) body) (good_rest : Good signs limit is_else (IfRest d) rest) where
    good_narrowing : (a : Key) (make : Block → StmtKind) → Good signs limit none (Narrowing d a make) (narrowing_reader a make body)
    good_narrowing a make = good_after (good_keyword a (omega arith)) (good_map make good_body)

    good_bounded : (a bound : Key) (make : Name × ℕ → Expr → Block → StmtKind) → Good signs limit none (Bounded d a bound make) (bounded_reader k a bound make body)
    good_bounded a bound make =
        good_after (good_keyword a (omega arith)) (good_ended_then good_counter
        (λ c. good_after (good_keyword bound (omega arith))
        (good_apart (good_expression limit k d e) (λ x. good_map (make c x) good_body) (is_mark mark.OpenBrace) (λ x. starts_mapped (make c x) (starts_block d))
        (at_mark goes_on false mark.OpenBrace (λ s. refl)))))

    good_form : (h : StatementForm) → Good signs limit is_else (Form d h) (form_reader k body rest h)
    good_form head.Let =
        good_ended (good_after (good_keyword key.KwLet (omega arith)) (good_ended_then (good_name (omega arith))
        (λ name. good_after (good_symbol mark.Assign (omega arith)) (good_up_to (good_let_value name) (omega arith) mark.Semicolon (λ s. refl)))))
    good_form head.Alloc =
        good_ended (good_after (good_keyword key.KwAlloc (omega arith)) (good_ended_then (good_name (omega arith))
        (λ name. good_after (good_symbol mark.Colon (omega arith)) (good_ended_then (good_area limit k d e)
        (λ a. good_up_to (good_map (form.Alloc name a) (good_first_value limit k d e)) (omega arith) mark.Semicolon (λ s. refl))))))
    good_form head.Store =
        good_ended (good_after (good_symbol mark.Star (omega arith)) (good_apart (good_postfix limit k d e)
        (λ target. good_after (good_symbol mark.Assign (omega arith)) (good_up_to (good_map (form.Store target) (good_expression limit k d e)) (omega arith) mark.Semicolon (λ s. refl)))
        (is_mark mark.Assign) (λ target. starts_then (starts_mark d mark.Assign)) (at_mark begins_step false mark.Assign (λ s. refl))))
    good_form head.Copy =
        good_ended (good_after (good_keyword key.KwCopy (omega arith)) (good_apart (good_postfix limit k d e)
        (λ target. good_after (good_symbol mark.Comma (omega arith)) (good_up_to (good_map (form.Copy target) (good_postfix limit k d e)) (omega arith) mark.Semicolon (λ s. refl)))
        (is_mark mark.Comma) (λ target. starts_then (starts_mark d mark.Comma)) (at_mark begins_step false mark.Comma (λ s. refl))))
    good_form head.If = good_after (good_keyword key.KwIf (omega arith)) good_rest
    good_form head.Forever = good_ended (good_narrowing key.KwForever form.Forever)
    good_form head.Map = good_ended (good_after (good_keyword key.KwMap (omega arith)) (good_ended_then good_counter (λ c. good_map (form.Map c.0 c.1) good_body)))
    good_form head.Upto = good_ended (good_bounded key.KwUpto key.KwLast (λ c. form.Upto c.0 c.1))
    good_form head.Downto = good_ended (good_bounded key.KwDownto key.KwFirst (λ c. form.Downto c.0 c.1))
    good_form head.Break = good_ended (good_after (good_keyword key.KwBreak (omega arith)) (good_map (λ _. form.Break) (good_symbol mark.Semicolon (omega arith))))
    good_form head.Return =
        good_ended (good_after (good_keyword key.KwReturn (omega arith))
        (good_choice (is_mark mark.Semicolon) begins_expression (not_mark begins_expression mark.Semicolon (λ s. refl))
        (good_map (λ _. form.Return None) (good_symbol mark.Semicolon (omega arith))) (starts_mapped (λ _. form.Return None) (starts_mark d mark.Semicolon))
        (good_up_to (good_map (λ x. form.Return (Some x)) (good_expression limit k d e)) (omega arith) mark.Semicolon (λ s. refl))
        (starts_then (starts_mapped (λ x. form.Return (Some x)) (starts_expression d)))))
    good_form head.Assert =
        good_ended (good_after (good_keyword key.KwAssert (omega arith))
        (good_up_to (good_map form.Assert
        (good_parens (some_expression (suc d)) (expression_within limit k d e)))
        (omega arith) mark.Semicolon (λ s. refl)))
    good_form head.NoAlloc = good_ended (good_narrowing key.KwNoalloc form.NoAlloc)
    good_form head.NoBreak = good_ended (good_narrowing key.KwNobreak form.NoBreak)
    good_form head.NoReturn = good_ended (good_narrowing key.KwNoreturn form.NoReturn)

    good_call_alone : Good signs limit none (CallAlone d) (call_reader k)
    good_call_alone = good_up_to (good_map form.Call good_call) (omega arith) mark.Semicolon (λ s. refl)

    good_statement_with : Good signs limit is_else (Rule statements.statement d) (statement_reader k body rest)
    unfolding statement_reader
    good_statement_with =
        good_as (to_statement d) (from_statement d)
        (good_placed (good_map tree.statement (good_dispatch good_form (good_ended good_call_alone) (statement_heads d) (statement_headless d is_else))))

-- ---- by the number of levels that are left to nest

record GoodReaders (limit d : ℕ) (r : Readers) : Type 0 where
  statement : Good signs limit is_else (Rule statements.statement d) r.statement
  rest : Good signs limit is_else (IfRest d) r.rest

good_with : (limit k d : ℕ) → d + k ≡ limit → (inner : Option (Reader Token Stmt)) (deeper : Option (Reader Token StmtKind)) → Within signs limit d is_else (Rule statements.statement (suc d)) inner
    → Within signs limit d is_else (IfRest (suc d)) deeper → GoodReaders limit d (with_deeper k inner deeper)
good_with limit k d e inner deeper w v =
    let body = good_block_with w in
    let rest = good_if_with limit k d e body v in
    record { statement = good_statement_with limit k d e body rest; rest = rest }

good_readers : (limit k d : ℕ) → d + k ≡ limit → GoodReaders limit d (readers k)
unfolding readers
good_readers limit zero d e = good_with limit zero d e None None (barred_within (omega arith)) (barred_within (omega arith))
good_readers limit (suc k) d e =
    let deeper = good_readers limit k (suc d) (omega arith) in
    good_with limit (suc k) d e (Some (statement k)) (Some (if_rest k)) (read_within (omega arith) deeper.statement) (read_within (omega arith) deeper.rest)

pub good_statement : (limit k d : ℕ) → d + k ≡ limit → Good signs limit is_else (Rule statements.statement d) (statement k)
good_statement limit k d e = (good_readers limit k d e).statement

pub good_block : (limit k d : ℕ) → d + k ≡ limit → Good signs limit none (Rule statements.block d) (block k)
good_block limit k d e = good_block_with (within_below statement limit k d e (λ j there. good_statement limit j (suc d) there))
