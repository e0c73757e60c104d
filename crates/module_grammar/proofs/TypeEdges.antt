-- With which tokens types and areas begin, that none ends in a sign, and something that each rule spells.
use Rattle.std.proofs.Common.{◌≡◌, ℕ, suc, Bool, true, false, [], ◌∷◌, ◌++◌, refl, ap, ◌∙◌, subst, append_assoc, Some, None, is_some}
use Rattle.iv_words.specs.declared.IntKind.{IntKind}
use Rattle.ivory_lexer.specs.declared.Token.{Token}
use Rattle.ivory_lexer.specs.declared.TokenKind.{TokenKind}
use Rattle.ivory_lexer.specs.declared.TokenKind.TheVariants as kind
use Rattle.ivory_lexer.specs.declared.Mark.TheVariants as mark
use Rattle.ivory_lexer.specs.declared.Key.TheVariants as key
use Rattle.ivory_tree.specs.declared.TypeKind.{TypeKind}
use Rattle.ivory_tree.specs.declared.TypeKind.TheVariants as form
use Rattle.ivory_tree.specs.declared.AreaText.{AreaText}
use Rattle.reading.specs.Row.{Row}
use Rattle.reading.specs.Row as rows
use Rattle.reading.specs.Language.{Terminal}
use Rattle.reading.proofs.Starts.{StartsWith, starts_then, starts_mapped, starts_terminal, starts_headed, starts_as, starts_wider, starts_either, either, either_first, either_second}
use Rattle.reading.proofs.Choice.{Heads, Headless}
use Rattle.reading.proofs.Same.{none}
use Rattle.reading.proofs.Plain.{Plain, plain_terminal, plain_mapped, plain_headed, plain_last, plain_as}
use Rattle.expression_grammar.specs.Tokens.{is_mark, is_key, is_name, number_of, int_of_kind, int_of, signs}
use Rattle.expression_grammar.proofs.Tokens.{at_key, at_name, not_mark}
use Rattle.expression_grammar.proofs.Begins.{is_int, starts_parens}
use Rattle.expression_grammar.proofs.Plain.{keyword_plain, word_plain, plain_enclosed}
use Rattle.module_grammar.specs.declared.ValueForm.{ValueForm}
use Rattle.module_grammar.specs.declared.ValueForm.TheVariants as head
use Rattle.module_grammar.specs.Forms.{value_form, value_form_of}
use Rattle.module_grammar.specs.Trees as tree
use Rattle.module_grammar.specs.Types.{Rule}
use Rattle.module_grammar.specs.Types as types
use Rattle.module_grammar.specs.TypeReader.{begins_reference}
use Rattle.module_grammar.proofs.Terminals.{starts_mark, starts_key, starts_word, a_key}
use Rattle.module_grammar.proofs.Placed.{starts_placed}
use Rattle.module_grammar.proofs.Edges.{last_behind, starts_maybe}
use Rattle.module_grammar.proofs.TypeRules.{ValueOf, ByName, from_value, Array, Structure, Stored, from_area, Reference}

-- ---- stored types

abbrev pub value_test : ValueForm → Token → Bool
value_test head.Truth = is_key key.KwBool
value_test head.Whole = is_int
value_test head.Index = is_key key.KwIx

int_form : (k : TokenKind) → is_some (int_of_kind k) ≡ true → value_form k ≡ Some head.Whole
int_form (kind.Key key.KwUint8t) e = refl
int_form (kind.Key key.KwUint16t) e = refl
int_form (kind.Key key.KwUint32t) e = refl
int_form (kind.Key key.KwUint64t) e = refl
int_form (kind.Key key.KwInt8t) e = refl
int_form (kind.Key key.KwInt16t) e = refl
int_form (kind.Key key.KwInt32t) e = refl
int_form (kind.Key key.KwInt64t) e = refl
int_form _ e = cc

form_told : (h : ValueForm) (t : Token) → value_test h t ≡ true → value_form_of t ≡ Some h
form_told head.Truth t e = at_key value_form_of (Some head.Truth) key.KwBool (λ s. refl) t e
form_told head.Whole t e = int_form t.kind e
form_told head.Index t e = at_key value_form_of (Some head.Index) key.KwIx (λ s. refl) t e

starts_form : (d : ℕ) (h : ValueForm) → StartsWith (value_test h) (ValueOf d h)
starts_form d head.Truth = starts_mapped (λ _. form.Bool) (starts_key d key.KwBool)
starts_form d head.Whole = starts_mapped form.Int (starts_terminal is_int (λ t k e. ap is_some e))
starts_form d head.Index = starts_then (starts_key d key.KwIx)

starts_by_name : (d : ℕ) → StartsWith is_name (ByName d)
starts_by_name d = starts_mapped form.Bits (starts_word d)

pub value_heads : (d : ℕ) → Heads value_form_of (ValueOf d)
value_heads d = record {
  first = λ h v m row r. form_told h m.token ((starts_form d h).first v m row r);
  nonempty = λ h v r. (starts_form d h).nonempty v r;
}

pub value_headless : (d : ℕ) → Headless none value_form_of (ByName d)
value_headless d = record {
  first = λ v m row r. at_name value_form_of None (λ w s. refl) m.token ((starts_by_name d).first v m row r);
  empty = λ v r. absurd ((starts_by_name d).nonempty v r);
}

abbrev pub begins_value : Token → Bool
begins_value = either (λ t. is_some (value_form_of t)) is_name

form_begins : (h : ValueForm) (t : Token) → value_test h t ≡ true → begins_value t ≡ true
form_begins h t e = either_first (λ u. is_some (value_form_of u)) is_name t (ap is_some (form_told h t e))

pub starts_value : (d : ℕ) → StartsWith begins_value (Rule types.value d)
starts_value d = starts_as (from_value d) (starts_headed (λ h. starts_wider (form_begins h) (starts_form d h))
    (starts_wider (either_second (λ u. is_some (value_form_of u)) is_name) (starts_by_name d)))

int_plain : (t : Token) (k : IntKind) → int_of t ≡ Some k → is_mark mark.Minus t ≡ false
int_plain t k e = not_mark is_int mark.Minus (λ s. refl) t (ap is_some e)

plain_form : (d : ℕ) (h : ValueForm) → Plain signs (ValueOf d h)
plain_form d head.Truth = plain_mapped (λ _. form.Bool) (plain_terminal (keyword_plain key.KwBool))
plain_form d head.Whole = plain_mapped form.Int (plain_terminal int_plain)
plain_form d head.Index = plain_last (λ at. plain_mapped form.Ix (plain_enclosed mark.OpenParen mark.CloseParen refl (λ x _. x) _))
    (λ at b (n, r, is). (starts_parens d (Terminal (suc d) number_of)).nonempty n r)

pub plain_value : (d : ℕ) → Plain signs (Rule types.value d)
plain_value d = plain_as (from_value d) (plain_headed (plain_form d) (plain_mapped form.Bits (plain_terminal word_plain)))

pub some_value : (d : ℕ) → (v : TypeKind) × (row : Row Token) × Rule types.value d v row
some_value d = let w = a_key d key.KwBool in (form.Bool, w.1, types.truth w.2)

-- ---- areas

pub starts_array : (d : ℕ) → StartsWith (is_mark mark.OpenBracket) (Array d)
starts_array d = starts_placed (starts_mapped tree.area (starts_then (starts_mark (suc d) mark.OpenBracket)))

pub starts_structure : (d : ℕ) → StartsWith (is_key key.KwStruct) (Structure d)
starts_structure d = starts_placed (starts_mapped tree.area (starts_then (starts_key d key.KwStruct)))

pub starts_stored : (d : ℕ) → StartsWith begins_value (Stored d)
starts_stored d = starts_placed (starts_mapped tree.stored (starts_value d))

pub starts_area : (d : ℕ) → StartsWith (either (is_mark mark.OpenBracket) (either (is_key key.KwStruct) begins_value)) (Rule types.area d)
starts_area d = starts_as (from_area d) (starts_either (is_mark mark.OpenBracket) (either (is_key key.KwStruct) begins_value) (starts_array d)
    (starts_either (is_key key.KwStruct) begins_value (starts_structure d) (starts_stored d)))

area_ends : (d : ℕ) (v : AreaText) (all : Row Token) → Rule types.area d v all → (row : Row Token) (m : rows.Entry Token) → all ≡ row ++ m ∷ [] → is_mark mark.Minus m.token ≡ false
area_ends d v all (types.stored {k} r) row m e = (plain_value d).ends k row m (subst (Rule types.value d k) e r)
area_ends d v all (types.array {a} {f} {g} {h} {i} o u c r) row m e =
    let front : (f ++ (g ++ h)) ++ i ≡ f ++ (g ++ (h ++ i)) = append_assoc f (g ++ h) i ∙ ap (λ y. f ++ y) (append_assoc g h i) in
    let w = last_behind (f ++ (g ++ h)) i row m (front ∙ e) (λ nothing. (starts_area (suc d)).nonempty a (subst (Rule types.area (suc d) a) nothing r)) in
    area_ends (suc d) a i r w.0 m w.1
area_ends d v all (types.structure {w} {f} {g} t u) row m e =
    let b = last_behind f g row m e (λ nothing. (starts_word d).nonempty w (subst (Terminal d _ w) nothing u)) in
    (plain_terminal {signs = signs} word_plain).ends w b.0 m (subst (Terminal d _ w) b.1 u)

pub plain_area : (d : ℕ) → Plain signs (Rule types.area d)
plain_area d = record { ends = λ v row m r. area_ends d v (row ++ m ∷ []) r row m refl }

pub some_area : (d : ℕ) → (v : AreaText) × (row : Row Token) × Rule types.area d v row
some_area d = let w = some_value d in (_, w.1, types.stored w.2)

-- ---- types

pub starts_reference : (d : ℕ) → StartsWith begins_reference (Reference d)
starts_reference d = starts_maybe (is_key key.KwConst) (is_key key.KwRef) (starts_key d key.KwConst) (λ o. starts_then (starts_key d key.KwRef))
