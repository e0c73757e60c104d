-- What the tokens of an item tell, and of its parts.
use Rattle.std.proofs.Common.{◌≡◌, ℕ, zero, suc, Bool, true, List, [], ◌∷◌, ◌++◌, refl, sym, ap, ◌∙◌, subst, length, Option, Some, None}
use Rattle.iv_words.specs.declared.Span.{Span}
use Rattle.ivory_lexer.specs.declared.Token.{Token}
use Rattle.ivory_lexer.specs.declared.TokenKind.{TokenKind}
use Rattle.ivory_lexer.specs.declared.TokenKind.TheVariants as kind
use Rattle.ivory_lexer.specs.declared.Mark.TheVariants as mark
use Rattle.ivory_lexer.specs.declared.Key.{Key}
use Rattle.ivory_lexer.specs.declared.Key.TheVariants as key
use Rattle.ivory_tree.specs.declared.TypeText.{TypeText}
use Rattle.ivory_tree.specs.declared.BitField.{BitField}
use Rattle.ivory_tree.specs.declared.AreaField.{AreaField}
use Rattle.ivory_tree.specs.declared.Param.{Param}
use Rattle.ivory_tree.specs.declared.Header.{Header}
use Rattle.ivory_tree.specs.declared.Contract.{Contract}
use Rattle.ivory_tree.specs.declared.Item.{Item}
use Rattle.reading.specs.Row.{Row, tokens}
use Rattle.reading.specs.Language.{Terminal, After, Optional, Many, AtLeastOne}
use Rattle.expression_grammar.specs.Tokens.{symbol, keyword}
use Rattle.expression_grammar.proofs.Tokens.{token, keyed}
use Rattle.module_grammar.specs.Tokens.{width_of, width_of_kind, before_of, before_of_kind}
use Rattle.module_grammar.specs.Pieces.{Type_}
use Rattle.module_grammar.specs.Parts as parts
use Rattle.module_grammar.specs.Items as grammar
use Rattle.module_grammar.specs.Items.{header, item, Spells}
use Rattle.token_nesting.specs.Open.{Open, Bracket, Area, Before, Operand, Start, Other}
use Rattle.token_nesting.specs.Nesting.{ends_behind_operand, nestings_from}
use Rattle.token_nesting.proofs.Scan.{Scan, anything, next, scan_token, and, before_that, stricter, nothing}
use Rattle.token_nesting.proofs.Tokens.{scan_mark, scan_key, scan_name, scan_int}
use Rattle.token_nesting.proofs.Expressions.{scan_expression, to_paren}
use Rattle.token_nesting.proofs.Types.{area_stops, area_stops_alone, scan_area, scan_type}
use Rattle.token_nesting.proofs.Inits.{scan_area_and_value}
use Rattle.token_nesting.proofs.Lists.{Elements, separated, up_to_paren, all}
use Rattle.token_nesting.proofs.Statements.{scan_block, block_passes}

abbrev within : List Open
within = Bracket ∷ []

-- ---- fields and parameters

width_told : (k : TokenKind) (w : ℕ × Bool) → width_of_kind k ≡ Some w → (s : Span) (os : List Open) (rest : List Token) → nestings_from Other os (token k s ∷ rest) ≡ length os ∷ nestings_from Operand os rest
width_told (kind.Key key.KwBool) w e s os rest = refl
width_told (kind.Number n) w e s os rest = refl
width_told _ w e s os rest = cc

bit_field : {d : ℕ} {x : BitField} {f : Row Token} {b : Before} → length within ≡ d → parts.Spells parts.bit_field x d f
    → ((s : Span) (w : List ℕ) (rest : List Token) → nestings_from b within (token (kind.Name w) s ∷ rest) ≡ length within ∷ nestings_from Operand within rest) → Scan anything b within f Operand within
bit_field at (parts.bit {width} {h} t u v) begins =
    and (scan_name at t (λ w s rest. begins s w rest)) (and (scan_mark mark.Colon at u (λ s rest. refl)) (scan_token width_of width h at v (λ t rest e p. width_told t.kind width e t.span within rest)))

anything_passes : (rest : List Token) → next (λ k. true) rest ≡ true
anything_passes [] = refl
anything_passes (t ∷ ts) = refl

bit_fields : (d : ℕ) → length within ≡ d → Elements (parts.Rule parts.bit_field d) (λ k. true) Start []
bit_fields d at = record {
  first = λ x f r. stricter (bit_field at r (λ s w rest. refl)) (λ rest e. refl);
  later = λ x f r. stricter (bit_field at r (λ s w rest. refl)) (λ rest e. refl);
  comma = refl;
}

struct_field : {d : ℕ} → length within ≡ d → (x : AreaField) (f : Row Token) → parts.Spells parts.struct_field x d f → Scan anything Start within f Start within
struct_field at x f (parts.member t u r v) =
    and (scan_name at t (λ w s rest. refl)) (and (scan_mark mark.Colon at u (λ s rest. refl))
    (before_that (scan_area at r) (scan_mark mark.Semicolon at v (λ s rest. refl)) (λ rest e. area_stops_alone mark.Semicolon v refl rest)))

parameter : {d : ℕ} {x : Param} {f : Row Token} {b : Before} → length within ≡ d → parts.Spells parts.parameter x d f
    → ((s : Span) (w : List ℕ) (rest : List Token) → nestings_from b within (token (kind.Name w) s ∷ rest) ≡ length within ∷ nestings_from Operand within rest) → Scan area_stops b within f Operand within
parameter at (parts.taken t u r) begins = and (scan_name at t (λ w s rest. begins s w rest)) (and (scan_mark mark.Colon at u (λ s rest. refl)) (scan_type at r))

parameters : (d : ℕ) → length within ≡ d → Elements (parts.Rule parts.parameter d) (λ k. ends_behind_operand k Area) Other []
parameters d at = record {
  first = λ x f r. parameter at r (λ s w rest. refl);
  later = λ x f r. parameter at r (λ s w rest. refl);
  comma = refl;
}

-- ---- contracts

before_told : (k : TokenKind) (b : Bool) → before_of_kind k ≡ Some b → (s : Span) (rest : List Token) → nestings_from Operand [] (token k s ∷ rest) ≡ 0 ∷ nestings_from Other [] rest
before_told (kind.Key key.KwRequires) b e s rest = refl
before_told (kind.Key key.KwEnsures) b e s rest = refl
before_told _ b e s rest = cc

contract : {d : ℕ} → zero ≡ d → (x : Contract) (f : Row Token) → parts.Spells parts.contract x d f → Scan anything Operand [] f Operand []
contract at x row (parts.condition {before} {e} t u r v) =
    and (scan_token before_of before e at t (λ u rest e p. before_told u.kind before e u.span rest))
    (and (scan_mark mark.OpenParen (ap suc at) u (λ s rest. refl)) (to_paren at (scan_expression (ap suc at) refl r) v))

before_stops : (k : TokenKind) (b : Bool) → before_of_kind k ≡ Some b → ends_behind_operand k Area ≡ true
before_stops (kind.Key k) b e = refl
before_stops _ b e = cc

contracts_stop : (d : ℕ) (cs : List Contract) (h i : Row Token) → Many (parts.Rule parts.contract d) cs h → ((rest : List Token) → area_stops (tokens i ++ rest) ≡ true) → (rest : List Token) → area_stops (tokens (h ++ i) ++ rest) ≡ true
contracts_stop d [] h i is stops rest = ap (λ y. area_stops (tokens (y ++ i) ++ rest)) is ∙ stops rest
contracts_stop d (c ∷ cs) h i (f, g, is, parts.condition {before} {f = j} {g = k} {h = l} (m, one, at, found) u r v, rs) stops rest =
    ap (λ y. area_stops (tokens (y ++ i) ++ rest)) is ∙ ap (λ y. area_stops (tokens (((y ++ (j ++ (k ++ l))) ++ g) ++ i) ++ rest)) one ∙ before_stops m.token.kind before found

-- ---- items

result_type : {d : ℕ} (o : Option TypeText) (h : Row Token) → zero ≡ d → Optional (After (Terminal d (symbol mark.Arrow)) (Type_ d)) o h → Scan area_stops Operand [] h Operand []
result_type None h at e = subst (λ y. Scan area_stops Operand [] y Operand []) (sym e) nothing
result_type (Some x) h at (s, f, g, is, t, r) = subst (λ y. Scan area_stops Operand [] y Operand []) (sym is) (and (scan_mark mark.Arrow at t (λ s rest. refl)) (scan_type at r))

a_header : {d : ℕ} {x : Header} {f : Row Token} → zero ≡ d → Spells header x d f → Scan area_stops Other [] f Operand []
a_header {d} at (grammar.signature {params} result h {g} t u r q) =
    and (scan_name at t (λ w s rest. refl)) (and (scan_mark mark.OpenParen (ap suc at) u (λ s rest. refl)) (and (up_to_paren (parameters (suc d) (ap suc at)) (ap suc at) refl params g r) (result_type result h at q)))

-- perhaps a keyword first
maybe : {d : ℕ} {p : List Token → Bool} {c : Before} {now : List Open} (k : Key) (o : Option Span) (e : Row Token) {g : Row Token} → zero ≡ d
    → ((s : Span) (rest : List Token) → nestings_from Start [] (keyed k s ∷ rest) ≡ 0 ∷ nestings_from Other [] rest) → Optional (Terminal d (keyword k)) o e
    → Scan p Start [] g c now → Scan p Other [] g c now → Scan p Start [] (e ++ g) c now
maybe {p = p} {c} {now} k None e {g} at begins is first later = subst (λ y. Scan p Start [] (y ++ g) c now) (sym is) first
maybe k (Some s) e at begins t first later = and (scan_key k at t begins) later

fields_told : {d : ℕ} → zero ≡ d → (xs : List AreaField) (h : Row Token) → AtLeastOne (parts.Rule parts.struct_field (suc d)) xs h → Scan anything Start within h Start within
fields_told at xs h (x, f, g, is, r, (more, rs, same)) = subst (λ y. Scan anything Start within y Start within) (sym is) (and (struct_field (ap suc at) x f r) (all (struct_field (ap suc at)) more g rs))

pub scan_item : {d : ℕ} → zero ≡ d → (x : Item) (f : Row Token) → Spells item x d f → Scan anything Start [] f Start []
scan_item {d} at x row (grammar.bits {fields} {j} t u v w o r c) =
    and (scan_key key.KwBitdata at t (λ s rest. refl)) (and (scan_name at u (λ w s rest. refl)) (and (scan_mark mark.Colon at v (λ s rest. refl)) (and (scan_int at w) (and (scan_mark mark.OpenBrace (ap suc at) o (λ s rest. refl))
    (before_that (separated (bit_fields (suc d) (ap suc at)) (ap suc at) fields j r) (scan_mark mark.CloseBrace (ap suc at) c (λ s rest. refl)) (λ rest e. anything_passes _))))))
scan_item at x row (grammar.structure {fields} {h} t u o r c) =
    and (scan_key key.KwStruct at t (λ s rest. refl)) (and (scan_name at u (λ w s rest. refl)) (and (scan_mark mark.OpenBrace (ap suc at) o (λ s rest. refl))
    (and (fields_told at fields h r) (scan_mark mark.CloseBrace (ap suc at) c (λ s rest. refl)))))
scan_item at x row (grammar.area constant e init j c t u v r q w) =
    let later = and (scan_name at u (λ w s rest. refl)) (and (scan_mark mark.Colon at v (λ s rest. refl)) (scan_area_and_value init j at refl r q w)) in
    maybe key.KwConst constant e at (λ s rest. refl) c (and (scan_key key.KwArea at t (λ s rest. refl)) later) (and (scan_key key.KwArea at t (λ s rest. refl)) later)
scan_item at x row (grammar.import t r u) =
    and (scan_key key.KwImport at t (λ s rest. refl)) (before_that (a_header at r) (scan_mark mark.Semicolon at u (λ s rest. refl)) (λ rest e. area_stops_alone mark.Semicolon u refl rest))
scan_item at x row (grammar.procedure exported e contracts h c t r q b) =
    let body = and (all (contract at) contracts h q) (scan_block at b Operand (λ s rest. refl)) in
    let later = before_that (a_header at r) body (λ rest e. contracts_stop _ contracts h _ q (λ rest. block_passes (λ k. ends_behind_operand k Area) refl b rest) rest) in
    maybe key.KwExport exported e at (λ s rest. refl) c (and (scan_key key.KwProc at t (λ s rest. refl)) later) (and (scan_key key.KwProc at t (λ s rest. refl)) later)
