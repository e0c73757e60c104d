-- The first fault of an initializer, from its rule and what is within it.
use Rattle.std.proofs.Common.{◌≡◌, ℕ, ◌+◌, ◌<◌, Bool, true, false, List, [], ◌∷◌, map, length, get_or, drop, drop-cons, add-one, refl, ap, sym, ◌∙◌, arith}
use Rattle.std.specs.Prelude.{Option, Some, None}
use Rattle.iv_words.specs.declared.Span.{Span}
use Rattle.ivory_tree.specs.Syntax.{ExprSyntax, Binary, One, Many, InitsSyntax, MoreInits}
use Rattle.ivory_tree.specs.Places.{expr_span}
use Rattle.ivory_tree.specs.View.{LinkSyntax, StepSyntax, FieldStep, IndexStep, prefix_span, linked, chain_from, step_span, part_of, stepped, postfix_from, expr_of, link_of, step_of, init_of, inits_of}
use Rattle.ivory_tree.specs.declared.expr.ExprKind.TheVariants as kind
use Rattle.ivory_tree.specs.declared.expr.Link.{Link}
use Rattle.ivory_tree.specs.declared.expr.Step.{Step}
use Rattle.rule_checker.proofs.Linked.{chain_view, postfix_view}
use Rattle.ivory_tree.specs.declared.expr.Expr.{Expr}
use Rattle.ivory_tree.proofs.Places.{expr_place}
use Rattle.ivory_tree.specs.declared.inits.InitText.{InitText}
use Rattle.area_types.specs.Syntax as types
use Rattle.area_types.specs.Syntax.{Area}
use Rattle.source_types.specs.Environments.{Earlier}
use Rattle.rule_faults.specs.Contexts.{Context}
use Rattle.rule_faults.specs.Nodes.{AnInit}
use Rattle.rule_faults.specs.ItemRules.{inits_count, is_number, is_first_value}
use Rattle.rule_faults.specs.ExpressionRows.{expr_row, of_cell, place_in, init_row, inits_row}
use Rattle.rule_faults.specs.FirstFault.{first_of}
use Rattle.rule_checker.specs.Faults.{either, at_place}
use Rattle.rule_checker.specs.Rows.{least, all_rows}
use Rattle.rule_checker.specs.Starts.{one_rows, many_rows}
use Rattle.rule_checker.proofs.Patterns.{least_rows, told, first_joined}

one_rows_are : (earlier : Earlier) (global : Bool) (area : Option Area) (e : ExprSyntax) → least (all_rows (AnInit earlier global area (One e))) ≡ least (one_rows global area e)
one_rows_are earlier true None e = refl
one_rows_are earlier false None e = refl
one_rows_are earlier true (Some (types.Stored t)) e = refl
one_rows_are earlier false (Some (types.Stored t)) e = refl
one_rows_are earlier true (Some (types.Array n element)) e = refl
one_rows_are earlier false (Some (types.Array n element)) e = refl
one_rows_are earlier true (Some (types.Struct k)) e = refl
one_rows_are earlier false (Some (types.Struct k)) e = refl

many_rows_are : (earlier : Earlier) (global : Bool) (area : Option Area) (s : Span) (inits : InitsSyntax) → least (all_rows (AnInit earlier global area (Many s inits))) ≡ least (many_rows earlier area (inits_count inits))
many_rows_are earlier true None s inits = refl
many_rows_are earlier false None s inits = refl
many_rows_are earlier true (Some (types.Stored t)) s inits = refl
many_rows_are earlier false (Some (types.Stored t)) s inits = refl
many_rows_are earlier true (Some (types.Array n element)) s inits = refl
many_rows_are earlier false (Some (types.Array n element)) s inits = refl
many_rows_are earlier true (Some (types.Struct k)) s inits = refl
many_rows_are earlier false (Some (types.Struct k)) s inits = refl

pub one_told : (c : Context) (global : Bool) (area : Option Area) (e : ExprSyntax) → first_of (init_row c global area (One e)) ≡ at_place (least (one_rows global area e)) (expr_span e) (first_of (expr_row c (of_cell area) e))
one_told c global area e = told (AnInit c.earlier global area (One e)) (expr_row c (of_cell area) e) (least (one_rows global area e)) (first_of (expr_row c (of_cell area) e)) (least_rows (AnInit c.earlier global area (One e)) ∙ one_rows_are c.earlier global area e) refl

inits_counted : (inits : List InitText) → inits_count (inits_of inits) ≡ length inits
inits_counted [] = refl
inits_counted (x ∷ xs) = omega (arith, inits_counted xs)

pub many_told : (c : Context) (global : Bool) (area : Option Area) (s : Span) (inits : List InitText) → first_of (init_row c global area (Many s (inits_of inits))) ≡ at_place (least (many_rows c.earlier area (length inits))) s (first_of (inits_row c global area 0 (inits_of inits)))
many_told c global area s inits =
    told (AnInit c.earlier global area (Many s (inits_of inits))) (inits_row c global area 0 (inits_of inits)) (least (many_rows c.earlier area (length inits))) (first_of (inits_row c global area 0 (inits_of inits)))
    (least_rows (AnInit c.earlier global area (Many s (inits_of inits))) ∙ many_rows_are c.earlier global area s (inits_of inits) ∙ ap (λ (n : ℕ). least (many_rows c.earlier area n)) (inits_counted inits)) refl

-- the initializer at i, and those after it
next_of : (inits : List InitText) (i : ℕ) (x : InitText) → i < length inits → x ≡ get_or inits i x → inits_of (drop i inits) ≡ MoreInits (init_of x) (inits_of (drop (i + 1) inits))
next_of inits i x h e =
    let cut : drop i inits ≡ get_or inits i x ∷ drop (i + 1) inits = rw add-one (drop-cons inits i x h) in
    ap inits_of cut ∙ ap (λ (y : InitText). MoreInits (init_of y) (inits_of (drop (i + 1) inits))) (sym e)

pub next_init : (c : Context) (global : Bool) (area : Option Area) (inits : List InitText) (i : ℕ) (x : InitText) → i < length inits → x ≡ get_or inits i x
    → first_of (inits_row c global area i (inits_of (drop i inits))) ≡ either (first_of (init_row c global (place_in c.earlier area i) (init_of x))) (first_of (inits_row c global area (i + 1) (inits_of (drop (i + 1) inits))))
next_init c global area inits i x h e =
    ap (λ (r : InitsSyntax). first_of (inits_row c global area i r)) (next_of inits i x h e)
    ∙ first_joined (init_row c global (place_in c.earlier area i) (init_of x)) (inits_row c global area (i + 1) (inits_of (drop (i + 1) inits)))

pub one_at : (c : Context) (global : Bool) (area : Option Area) (e : Expr) → first_of (init_row c global area (One (expr_of e))) ≡ at_place (least (one_rows global area (expr_of e))) e.span (first_of (expr_row c (of_cell area) (expr_of e)))
one_at c global area e = one_told c global area (expr_of e) ∙ ap (λ (s : Span). at_place (least (one_rows global area (expr_of e))) s (first_of (expr_row c (of_cell area) (expr_of e)))) (expr_place e)

pub found_here : {e row whole : Option (ℕ × Span)} {p : ℕ × Span} (r : Option (ℕ × Span)) → row ≡ whole → row ≡ either e r → e ≡ Some p → Some p ≡ whole
found_here {e} {row} {whole} {p} r h n k = sym (ap (λ (o : Option (ℕ × Span)). either o r) k) ∙ sym n ∙ h

pub found_later : {e row whole : Option (ℕ × Span)} (r : Option (ℕ × Span)) → row ≡ whole → row ≡ either e r → e ≡ None → r ≡ whole
found_later {e} {row} {whole} r h n k = sym (ap (λ (o : Option (ℕ × Span)). either o r) k) ∙ sym n ∙ h

-- an operator and a part are no numbers

linked_number : (s : Span) (left : ExprSyntax) (l : LinkSyntax) (ls : List LinkSyntax) → is_number (linked s left (l ∷ ls)) ≡ false
linked_number s left l [] = refl
linked_number s left l (m ∷ ls) = linked_number s (Binary (prefix_span s (expr_span l.right) (m ∷ ls)) l.op l.at left l.right) m ls

chain_number : (s : Span) (first : ExprSyntax) (ls : List LinkSyntax) → is_number (chain_from s first ls) ≡ false
chain_number s first [] = refl
chain_number s first (l ∷ ls) = linked_number s first l ls

part_number : (s : Span) (base : ExprSyntax) (t : StepSyntax) → is_number (part_of s base t) ≡ false
part_number s base (FieldStep field) = refl
part_number s base (IndexStep index brackets) = refl

stepped_number : (s : Span) (base : ExprSyntax) (t : StepSyntax) (ts : List StepSyntax) → is_number (stepped s base (t ∷ ts)) ≡ false
stepped_number s base t [] = part_number (prefix_span {A = StepSyntax} s (step_span t) []) base t
stepped_number s base t (u ∷ ts) = stepped_number s (part_of (prefix_span s (step_span t) (u ∷ ts)) base t) u ts

postfix_number : (s : Span) (base : ExprSyntax) (ts : List StepSyntax) → is_number (postfix_from s base ts) ≡ false
postfix_number s base [] = refl
postfix_number s base (t ∷ ts) = stepped_number s base t ts

linked_value : (s : Span) (left : ExprSyntax) (l : LinkSyntax) (ls : List LinkSyntax) → is_first_value (linked s left (l ∷ ls)) ≡ false
linked_value s left l [] = refl
linked_value s left l (m ∷ ls) = linked_value s (Binary (prefix_span s (expr_span l.right) (m ∷ ls)) l.op l.at left l.right) m ls

chain_value : (s : Span) (first : ExprSyntax) (ls : List LinkSyntax) → is_first_value (chain_from s first ls) ≡ false
chain_value s first [] = refl
chain_value s first (l ∷ ls) = linked_value s first l ls

part_value : (s : Span) (base : ExprSyntax) (t : StepSyntax) → is_first_value (part_of s base t) ≡ false
part_value s base (FieldStep field) = refl
part_value s base (IndexStep index brackets) = refl

stepped_value : (s : Span) (base : ExprSyntax) (t : StepSyntax) (ts : List StepSyntax) → is_first_value (stepped s base (t ∷ ts)) ≡ false
stepped_value s base t [] = part_value (prefix_span {A = StepSyntax} s (step_span t) []) base t
stepped_value s base t (u ∷ ts) = stepped_value s (part_of (prefix_span s (step_span t) (u ∷ ts)) base t) u ts

postfix_value : (s : Span) (base : ExprSyntax) (ts : List StepSyntax) → is_first_value (postfix_from s base ts) ≡ false
postfix_value s base [] = refl
postfix_value s base (t ∷ ts) = stepped_value s base t ts

pub number_chain : (e first : Expr) (links : List Link) → e.kind ≡ kind.Chain first links → is_number (expr_of e) ≡ false
number_chain e first links h = ap is_number (chain_view e first links h) ∙ chain_number e.span (expr_of first) (map link_of links)

pub number_postfix : (e base : Expr) (steps : List Step) → e.kind ≡ kind.Postfix base steps → is_number (expr_of e) ≡ false
number_postfix e base steps h = ap is_number (postfix_view e base steps h) ∙ postfix_number e.span (expr_of base) (map step_of steps)

pub value_chain : (e first : Expr) (links : List Link) → e.kind ≡ kind.Chain first links → is_first_value (expr_of e) ≡ false
value_chain e first links h = ap is_first_value (chain_view e first links h) ∙ chain_value e.span (expr_of first) (map link_of links)

pub value_postfix : (e base : Expr) (steps : List Step) → e.kind ≡ kind.Postfix base steps → is_first_value (expr_of e) ≡ false
value_postfix e base steps h = ap is_first_value (postfix_view e base steps h) ∙ postfix_value e.span (expr_of base) (map step_of steps)
