-- What the grammar spells as a unit is that unit's text, and the unit is in the subset.
use Rattle.std.proofs.Common.{◌≡◌, ℕ, zero, suc, ◌≤◌, List, [], ◌∷◌, ◌++◌, map, All, refl, sym, ap, ◌∙◌, subst, append_assoc, arith, codes}
use Rattle.std.proofs.lemmas.List.Elements.{All-nil, All-cons}
use Rattle.reading.specs.Row.{Row, tokens}
use Rattle.reading.specs.Language.{Language}
use Rattle.reading.specs.Exact.{Spelled}
use Rattle.c_ast.specs.Syntax.{TranslationUnit}
use Rattle.c_text.specs.TypeText.{texts}
use Rattle.c_text.specs.Spelling.{struct_text, extern_text, file_object_text, function_text, fixed_text, unit_text}
use Rattle.c_text.specs.Subset.{StructInSubset, ExternInSubset, ObjectInSubset, FunctionInSubset, InSubset}
use Rattle.c_text.specs.ReadsBack as text
use Rattle.grammars.specs.Grammar.{stage}
use Rattle.grammars.specs.Spelled.{InStages, SpellsWith, SpellsUpTo}
use Rattle.grammars.proofs.Sets.{stage_within}
use Rattle.c_grammar.specs.Pieces.{Piece, joined, pieces}
use Rattle.c_grammar.specs.Kinds.{lexicon}
use Rattle.c_grammar.specs.Symbols.{Symbol, an_expression, a_pointer, an_inner, an_inside, arguments, initializers, a_length, forever, a_block, a_body, the_members, the_types, the_params, stop_params, a_unit, Tree, Rule, parens}
use Rattle.c_grammar.specs.UnitRules.{Item, a_struct, an_extern, an_object, a_function, rank, at_stage, items, included, fixed_lines, structs_in, externs_in, objects_in, functions_in, unit_of, unit_rule}
use Rattle.c_grammar.specs.Subset.{grammar, Text}
use Rattle.c_grammar.proofs.Cut.{pieces_joined}
use Rattle.c_grammar.proofs.Written.{joined_append}
use Rattle.c_grammar.proofs.Says.{Means, Is, Says, m_as, m_map, m_sequence, s_fixed, s_after}
use Rattle.c_grammar.proofs.SaysTypes.{says_length}
use Rattle.c_grammar.proofs.Meanings.{Meaning}
use Rattle.c_grammar.proofs.SaysExpressions.{m_parens, says_expression, says_pointer_rule, says_inner, says_inside}
use Rattle.c_grammar.proofs.SaysLists.{says_arguments_rule, says_initializers_rule}
use Rattle.c_grammar.proofs.SaysStatements.{says_lines, says_block_rule}
use Rattle.c_grammar.proofs.SaysUnits.{ItemIn, item_text, end_says, says_members_rule, says_types_rule, says_params_rule, says_at_stage}

-- ---- items in the order of their ranks

abbrev AllIn : List Item → Type 0
AllIn [] = Unit {0}
AllIn (x ∷ xs) = ItemIn x × AllIn xs

abbrev InOrder : ℕ → List Item → Type 0
InOrder s [] = Unit {0}
InOrder s (x ∷ xs) = (s ≤ rank x) × InOrder (rank x) xs

record Items (s : ℕ) (xs : List Item) (t : List ℕ) : Type 0 where
  good : AllIn xs
  order : InOrder s xs
  is : t ≡ texts (map item_text xs)

stage_is : (x : Item) → stage 3 (rank x) ≡ rank x
stage_is (a_struct s) = refl
stage_is (an_extern x) = refl
stage_is (an_object o) = refl
stage_is (a_function f) = refl

module _ (L : (n : Symbol) → Language Piece (Tree n)) (inner : (n : Symbol) (x : Tree n) (row : Row Piece) → L n x row → Meaning n 1 x (joined (tokens row))) where
  items_say : (s : ℕ) → s ≤ 3 → (xs : List Item) (row : Row Piece) → InStages 3 rank (λ k. SpellsWith lexicon 0 L (at_stage k)) s xs row → Items s xs (joined (tokens row))
  items_say s low [] row e = record { good = tt; order = tt; is = ap (λ r. joined (tokens r)) e }
  items_say s low (x ∷ xs) row (u, v, e, here, rest) =
      let i = (says_at_stage L inner s low).means x u here in
      let j = items_say (stage 3 (rank x)) (stage_within 3 (rank x)) xs v rest in
      record {
        good = (i.good, j.good);
        order = (i.late, subst (λ k. InOrder k xs) (stage_is x) j.order);
        is = ap (λ r. joined (tokens r)) e ∙ joined_append u v ∙ ap (λ z. z ++ joined (tokens v)) i.is ∙ ap (λ z. item_text x ++ z) j.is;
      }

no_structs : (s : ℕ) (xs : List Item) → 1 ≤ s → InOrder s xs → structs_in xs ≡ []
no_structs s [] low o = refl
no_structs s (a_struct x ∷ xs) low o = absurd (omega (arith, low, o.0))
no_structs s (an_extern x ∷ xs) low o = no_structs 1 xs (omega arith) o.1
no_structs s (an_object x ∷ xs) low o = no_structs 2 xs (omega arith) o.1
no_structs s (a_function x ∷ xs) low o = no_structs 3 xs (omega arith) o.1

no_externs : (s : ℕ) (xs : List Item) → 2 ≤ s → InOrder s xs → externs_in xs ≡ []
no_externs s [] low o = refl
no_externs s (a_struct x ∷ xs) low o = absurd (omega (arith, low, o.0))
no_externs s (an_extern x ∷ xs) low o = absurd (omega (arith, low, o.0))
no_externs s (an_object x ∷ xs) low o = no_externs 2 xs (omega arith) o.1
no_externs s (a_function x ∷ xs) low o = no_externs 3 xs (omega arith) o.1

no_objects : (s : ℕ) (xs : List Item) → 3 ≤ s → InOrder s xs → objects_in xs ≡ []
no_objects s [] low o = refl
no_objects s (a_struct x ∷ xs) low o = absurd (omega (arith, low, o.0))
no_objects s (an_extern x ∷ xs) low o = absurd (omega (arith, low, o.0))
no_objects s (an_object x ∷ xs) low o = absurd (omega (arith, low, o.0))
no_objects s (a_function x ∷ xs) low o = no_objects 3 xs (omega arith) o.1

abbrev structs_text : List Item → List ℕ
structs_text xs = texts (map struct_text (structs_in xs))

abbrev externs_text : List Item → List ℕ
externs_text xs = texts (map extern_text (externs_in xs))

abbrev objects_text : List Item → List ℕ
objects_text xs = texts (map file_object_text (objects_in xs))

abbrev functions_text : List Item → List ℕ
functions_text xs = texts (map function_text (functions_in xs))

abbrev parts_text : List Item → List ℕ
parts_text xs = structs_text xs ++ (externs_text xs ++ (objects_text xs ++ functions_text xs))

in_parts : (s : ℕ) (xs : List Item) → InOrder s xs → texts (map item_text xs) ≡ parts_text xs
in_parts s [] o = refl
in_parts s (a_struct x ∷ xs) o = ap (λ z. struct_text x ++ z) (in_parts 0 xs o.1) ∙ sym (append_assoc (struct_text x) (structs_text xs) (externs_text xs ++ (objects_text xs ++ functions_text xs)))
in_parts s (an_extern x ∷ xs) o =
    let none : structs_text xs ≡ [] = ap (λ z. texts (map struct_text z)) (no_structs 1 xs (omega arith) o.1) in
    ap (λ z. extern_text x ++ z) (in_parts 1 xs o.1 ∙ ap (λ z. z ++ (externs_text xs ++ (objects_text xs ++ functions_text xs))) none)
    ∙ sym (append_assoc (extern_text x) (externs_text xs) (objects_text xs ++ functions_text xs)) ∙ ap (λ z. z ++ ((extern_text x ++ externs_text xs) ++ (objects_text xs ++ functions_text xs))) (sym none)
in_parts s (an_object x ∷ xs) o =
    let none : structs_text xs ≡ [] = ap (λ z. texts (map struct_text z)) (no_structs 2 xs (omega arith) o.1) in
    let nor : externs_text xs ≡ [] = ap (λ z. texts (map extern_text z)) (no_externs 2 xs (omega arith) o.1) in
    ap (λ z. file_object_text x ++ z) (in_parts 2 xs o.1 ∙ ap (λ z. z ++ (externs_text xs ++ (objects_text xs ++ functions_text xs))) none ∙ ap (λ z. z ++ (objects_text xs ++ functions_text xs)) nor)
    ∙ sym (append_assoc (file_object_text x) (objects_text xs) (functions_text xs)) ∙ ap (λ z. z ++ ((file_object_text x ++ objects_text xs) ++ functions_text xs)) (sym nor)
    ∙ ap (λ z. z ++ (externs_text xs ++ ((file_object_text x ++ objects_text xs) ++ functions_text xs))) (sym none)
in_parts s (a_function x ∷ xs) o =
    let none : structs_text xs ≡ [] = ap (λ z. texts (map struct_text z)) (no_structs 3 xs (omega arith) o.1) in
    let nor : externs_text xs ≡ [] = ap (λ z. texts (map extern_text z)) (no_externs 3 xs (omega arith) o.1) in
    let still : objects_text xs ≡ [] = ap (λ z. texts (map file_object_text z)) (no_objects 3 xs (omega arith) o.1) in
    let all = function_text x ++ functions_text xs in
    ap (λ z. function_text x ++ z) (in_parts 3 xs o.1 ∙ ap (λ z. z ++ (externs_text xs ++ (objects_text xs ++ functions_text xs))) none ∙ ap (λ z. z ++ (objects_text xs ++ functions_text xs)) nor ∙ ap (λ z. z ++ functions_text xs) still)
    ∙ ap (λ z. z ++ all) (sym still) ∙ ap (λ z. z ++ (objects_text xs ++ all)) (sym nor) ∙ ap (λ z. z ++ (externs_text xs ++ (objects_text xs ++ all))) (sym none)

structs_good : (xs : List Item) → AllIn xs → All StructInSubset (structs_in xs)
structs_good [] i = All-nil StructInSubset
structs_good (a_struct s ∷ xs) i = All-cons StructInSubset s (structs_in xs) i.0 (structs_good xs i.1)
structs_good (an_extern x ∷ xs) i = structs_good xs i.1
structs_good (an_object o ∷ xs) i = structs_good xs i.1
structs_good (a_function f ∷ xs) i = structs_good xs i.1

externs_good : (xs : List Item) → AllIn xs → All ExternInSubset (externs_in xs)
externs_good [] i = All-nil ExternInSubset
externs_good (a_struct s ∷ xs) i = externs_good xs i.1
externs_good (an_extern x ∷ xs) i = All-cons ExternInSubset x (externs_in xs) i.0 (externs_good xs i.1)
externs_good (an_object o ∷ xs) i = externs_good xs i.1
externs_good (a_function f ∷ xs) i = externs_good xs i.1

objects_good : (xs : List Item) → AllIn xs → All ObjectInSubset (objects_in xs)
objects_good [] i = All-nil ObjectInSubset
objects_good (a_struct s ∷ xs) i = objects_good xs i.1
objects_good (an_extern x ∷ xs) i = objects_good xs i.1
objects_good (an_object o ∷ xs) i = All-cons ObjectInSubset o (objects_in xs) i.0 (objects_good xs i.1)
objects_good (a_function f ∷ xs) i = objects_good xs i.1

functions_good : (xs : List Item) → AllIn xs → All FunctionInSubset (functions_in xs)
functions_good [] i = All-nil FunctionInSubset
functions_good (a_struct s ∷ xs) i = functions_good xs i.1
functions_good (an_extern x ∷ xs) i = functions_good xs i.1
functions_good (an_object o ∷ xs) i = functions_good xs i.1
functions_good (a_function f ∷ xs) i = All-cons FunctionInSubset f (functions_in xs) i.0 (functions_good xs i.1)

-- ---- the unit

module _ (L : (n : Symbol) → Language Piece (Tree n)) (inner : (n : Symbol) (x : Tree n) (row : Row Piece) → L n x row → Meaning n 1 x (joined (tokens row))) where
  says_included : (w : List ℕ) → Says 0 L (included w) (λ _. Unit {0}) (λ _. codes "#include <" ++ (w ++ codes ".h>\n"))
  says_included w = s_after s_fixed (s_after s_fixed (s_after s_fixed (s_after s_fixed (s_after s_fixed (s_after s_fixed (s_after s_fixed (s_after s_fixed s_fixed)))))))

  says_fixed : Says 0 L fixed_lines (λ _. Unit {0}) (λ _. fixed_text)
  unfolding fixed_lines
  says_fixed =
      let stop : Says 0 L (parens stop_params) (λ _. Unit {0}) (λ _. codes "(uint32_t)") = m_parens 0 L inner stop_params (Is (λ _. Unit {0}) (λ _. codes "(uint32_t)")) (λ p t i. record { good = tt; is = ap (λ z. 40 ∷ (z ++ 41 ∷ [])) i }) in
      s_after (says_included (codes "stdint")) (s_after (says_included (codes "stdbool")) (s_after s_fixed (s_after s_fixed (s_after s_fixed (s_after s_fixed (s_after s_fixed (s_after stop end_says)))))))

  says_items : Means 0 L items (Items 0)
  says_items = record { means = λ xs row s. items_say L inner 0 (omega arith) xs row s }

  unit_is : (xs : List Item) (t : List ℕ) → Items 0 xs t → InSubset (unit_of xs) × (fixed_text ++ t ≡ unit_text (unit_of xs))
  unit_is xs t i = (
    record { structs = structs_good xs i.good; externs = externs_good xs i.good; objects = objects_good xs i.good; functions = functions_good xs i.good },
    ap (λ z. fixed_text ++ z) (i.is ∙ in_parts 0 xs i.order) ∙ plain fixed_text (structs_text xs) (externs_text xs) (objects_text xs) (functions_text xs),
  )
    where
      plain : (a b c e f : List ℕ) → a ++ (b ++ (c ++ (e ++ f))) ≡ (a ++ b ++ c ++ e) ++ f
      plain a b c e f = simp append_assoc refl

  says_unit : Means 0 L unit_rule (Is InSubset unit_text)
  says_unit =
      m_sequence {P = Is (λ _. Unit {0}) (λ _. fixed_text)} {R = λ u t. InSubset u × (fixed_text ++ t ≡ unit_text u)} {Q = Is InSubset unit_text} (λ _ u. u) says_fixed (m_map unit_of (m_as says_items (λ xs t i. unit_is xs t i)))
      (λ p u s t i j. record { good = j.0; is = ap (λ z. z ++ t) i.is ∙ j.1 })

-- ---- all symbols

nothing_said : {A : Type 0} {d : ℕ} {L : (n : Symbol) → Language Piece (Tree n)} {r : Rule A} → Means d L r (λ a t. Unit {0})
nothing_said = record { means = λ a row s. tt }

rule_says : (d : ℕ) (L : (n : Symbol) → Language Piece (Tree n)) → ((n : Symbol) (x : Tree n) (row : Row Piece) → L n x row → Meaning n (suc d) x (joined (tokens row))) → (n : Symbol) → Means d L (grammar n) (Meaning n d)
rule_says d L inner an_expression = says_expression d L inner
rule_says d L inner a_pointer = says_pointer_rule d L inner
rule_says d L inner an_inner = says_inner d L inner
rule_says d L inner an_inside = says_inside d L inner
rule_says d L inner arguments = says_arguments_rule d L inner
rule_says d L inner initializers = says_initializers_rule d L inner
rule_says d L inner a_length = says_length
rule_says d L inner forever = m_as (s_after s_fixed s_fixed) (λ p t i. i.is)
rule_says zero L inner a_block = nothing_said
rule_says (suc zero) L inner a_block = nothing_said
rule_says (suc (suc b)) L inner a_block = says_block_rule b L inner
rule_says zero L inner a_body = nothing_said
rule_says (suc b) L inner a_body = says_lines b L inner
rule_says zero L inner the_members = nothing_said
rule_says (suc zero) L inner the_members = says_members_rule L inner
rule_says (suc (suc b)) L inner the_members = nothing_said
rule_says d L inner the_types = says_types_rule
rule_says d L inner the_params = says_params_rule
rule_says d L inner stop_params = m_as s_fixed (λ p t i. i.is)
rule_says zero L inner a_unit = says_unit L inner
rule_says (suc d) L inner a_unit = nothing_said

symbol_says : (levels d : ℕ) (n : Symbol) (x : Tree n) (row : Row Piece) → SpellsUpTo lexicon grammar levels d n x row → Meaning n d x (joined (tokens row))
symbol_says zero d n x row s = absurd s
symbol_says (suc l) d n x row s = (rule_says d (SpellsUpTo lexicon grammar l (suc d)) (symbol_says l (suc d)) n).means x row s

pub spelled_texts : (u : TranslationUnit) (bytes : List ℕ) → Spelled Text u (pieces bytes) → text.Spells u bytes
spelled_texts u bytes (row, (levels, s), e) =
    let i = symbol_says levels 0 a_unit u row s in
    record { in_subset = i.good; is = sym (pieces_joined bytes) ∙ ap joined (sym e) ∙ i.is }
