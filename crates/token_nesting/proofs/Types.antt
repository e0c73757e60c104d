-- What the tokens of a type or an area tell.
use Rattle.std.proofs.Common.{◌≡◌, ℕ, suc, Bool, true, List, ◌∷◌, ◌++◌, refl, sym, ap, subst, length, Option, Some, None}
use Rattle.iv_words.specs.declared.Span.{Span}
use Rattle.ivory_lexer.specs.declared.Token.{Token}
use Rattle.ivory_lexer.specs.declared.TokenKind.{TokenKind}
use Rattle.ivory_lexer.specs.declared.TokenKind.TheVariants as kind
use Rattle.ivory_lexer.specs.declared.Mark.{Mark}
use Rattle.ivory_lexer.specs.declared.Mark.TheVariants as mark
use Rattle.ivory_lexer.specs.declared.Key.TheVariants as key
use Rattle.ivory_tree.specs.declared.RegionText.{RegionText}
use Rattle.ivory_tree.specs.declared.TypeText.{TypeText}
use Rattle.ivory_tree.specs.declared.AreaText.{AreaText}
use Rattle.reading.specs.Row.{Row, tokens}
use Rattle.reading.specs.Language.{Terminal, Optional}
use Rattle.expression_grammar.specs.Tokens.{symbol, keyword}
use Rattle.expression_grammar.proofs.Tokens.{token, at_mark, symbol_passes}
use Rattle.module_grammar.specs.Tokens.{region_of, region_of_kind}
use Rattle.module_grammar.specs.Types as grammar
use Rattle.module_grammar.specs.Types.{Symbol, value, type, area, Tree, Spells}
use Rattle.token_nesting.specs.Open.{Open, Area, Operand, Ref, Other}
use Rattle.token_nesting.specs.Nesting.{ends_behind_operand, nestings_from}
use Rattle.token_nesting.proofs.Scan.{Scan, anything, scan_token, and, stricter, onward, nothing, first_passes, first_of_two}
use Rattle.token_nesting.proofs.Ends.{ends, operand_ends}
use Rattle.token_nesting.proofs.Tokens.{scan_mark, scan_key, scan_word, scan_number, scan_int}

-- what follows ends an area
abbrev pub area_stops : List Token → Bool
area_stops ts = ends Area ts

-- a mark behind an area, alone and with more behind it

pub area_stops_alone : {d : ℕ} {x : Span} (m : Mark) {f : Row Token} → Terminal d (symbol m) x f → ends_behind_operand (kind.Mark m) Area ≡ true → (rest : List Token) → area_stops (tokens f ++ rest) ≡ true
area_stops_alone {x} m {f} t is rest = first_passes (λ k. ends_behind_operand k Area) (symbol m) x f t (λ u e. at_mark (λ y. ends_behind_operand y.kind Area) true m (λ s. is) u (symbol_passes m u x e)) rest

pub area_stops_at : {d : ℕ} {x : Span} (m : Mark) {f : Row Token} → Terminal d (symbol m) x f → ends_behind_operand (kind.Mark m) Area ≡ true → (g : Row Token) (rest : List Token) → area_stops (tokens (f ++ g) ++ rest) ≡ true
area_stops_at {x} m {f} t is g rest = first_of_two (λ k. ends_behind_operand k Area) (symbol m) x f t (λ u e. at_mark (λ y. ends_behind_operand y.kind Area) true m (λ s. is) u (symbol_passes m u x e)) g rest

region_told : (k : TokenKind) (r : RegionText) → region_of_kind k ≡ Some r → (s : Span) (os : List Open) (rest : List Token) → nestings_from Ref os (token k s ∷ rest) ≡ length os ∷ nestings_from Other os rest
region_told (kind.Key key.KwGlobal) r e s os rest = refl
region_told (kind.Name w) r e s os rest = refl
region_told _ r e s os rest = cc

scan_region : {d : ℕ} {r : RegionText} {os : List Open} {f : Row Token} → length os ≡ d → Terminal d region_of r f → Scan anything Ref os f Other os
scan_region {r = r} {os} {f} at t = scan_token region_of r f at t (λ u rest e p. region_told u.kind r e u.span os rest)

scan_const : {d : ℕ} {os : List Open} (o : Option Span) {f : Row Token} → length os ≡ d → Optional (Terminal d (keyword key.KwConst)) o f → Scan anything Other os f Other os
scan_const {os = os} None at e = subst (λ f. Scan anything Other os f Other os) (sym e) nothing
scan_const (Some s) at t = scan_key key.KwConst at t (λ s rest. refl)

abbrev Told : (s : Symbol) → List Open → Row Token → Type 0
Told value os row = Scan anything Other os row Operand os
Told type os row = Scan area_stops Other os row Operand os
Told area os row = Scan area_stops Other os row Operand os

told : (s : Symbol) (x : Tree s) (d : ℕ) (row : Row Token) → Spells s x d row → (os : List Open) → length os ≡ d → Told s os row
told value x d row (grammar.truth t) os at = scan_key key.KwBool at t (λ s rest. refl)
told value x d row (grammar.whole t) os at = scan_int at t
told value x d row (grammar.index t u v w) os at =
    and (scan_key key.KwIx at t (λ s rest. refl))
    (and (scan_mark mark.OpenParen (ap suc at) u (λ s rest. refl))
    (and (scan_number (ap suc at) v (λ n s rest. refl)) (scan_mark mark.CloseParen (ap suc at) w (λ s rest. refl))))
told value x d row (grammar.bits t) os at = scan_word at t (λ w s rest. refl)
told type x d row (grammar.plain {k} r) os at = stricter (told value k d row r os at) (λ rest e. refl)
told type x d row (grammar.reference constant e {a} {h} c t u r) os at =
    and (scan_const constant at c) (and (scan_key key.KwRef at t (λ s rest. refl)) (and (scan_region at u) (told area a d h r os at)))
told area x d row (grammar.stored {k} r) os at = stricter (told value k d row r os at) (λ rest e. refl)
told area x d row (grammar.array {a} {i} t u v r) os at =
    and (scan_mark mark.OpenBracket (ap suc at) t (λ s rest. refl))
    (and (scan_number (ap suc at) u (λ n s rest. refl))
    (and (scan_mark mark.CloseBracket (ap suc at) v (λ s rest. refl))
    (onward (told area a (suc d) i r (Area ∷ os) (ap suc at)) (λ rest e. operand_ends Area os rest e))))
told area x d row (grammar.structure t u) os at = stricter (and (scan_key key.KwStruct at t (λ s rest. refl)) (scan_word at u (λ w s rest. refl))) (λ rest e. refl)

pub scan_type : {d : ℕ} {x : TypeText} {f : Row Token} {os : List Open} → length os ≡ d → Spells type x d f → Scan area_stops Other os f Operand os
scan_type {d} {x} {f} {os} at r = told type x d f r os at

pub scan_area : {d : ℕ} {x : AreaText} {f : Row Token} {os : List Open} → length os ≡ d → Spells area x d f → Scan area_stops Other os f Operand os
scan_area {d} {x} {f} {os} at r = told area x d f r os at
