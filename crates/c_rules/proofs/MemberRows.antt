-- Members in a row, and the size of a struct of them.
use Rattle.std.proofs.Common.{◌≡◌, refl, sym, ◌∙◌, ap, ℕ, ◌+◌, ◌<◌, List, [], ◌∷◌, ◌++◌, length, take, get_or, max, not, arith}
use Rattle.std.specs.Prelude.{codes, nat_le}
use Rattle.std.specs.List.{list_any}
use Rattle.std.proofs.lemmas.Bool.Decides.{nat_tests}
use Rattle.std.proofs.lemmas.List.{take_more}
use Rattle.iv_words.specs.Words.{same_word}
use Rattle.c_ast.specs.declared.types.CBase.{CBase}
use Rattle.c_ast.specs.declared.types.CBase.TheVariants.{Scalar, Struct as Named}
use Rattle.c_ast.specs.declared.types.Target.{Target}
use Rattle.c_ast.specs.declared.unit.CMember.{CMember}
use Rattle.c_ast.specs.declared.unit.CStruct.{CStruct}
use Rattle.c_ast.specs.Scalars.{metric_of}
use Rattle.c_ast.specs.Structs.{CRow, row_of, table, tree, times}
use Rattle.c_text.specs.Rules.{Demand, LengthIsAllowed, MemberEndsInTime, MemberIsNew, ask, behind}
use Rattle.c_text.specs.Scopes.{Names}
use Rattle.c_text.specs.Spelling.{member_text}
use Rattle.c_text.specs.TypeText.{object_text}
use Rattle.c_text.specs.ExpressionRules.{base_demands}
use Rattle.c_text.specs.UnitRules.{file_scope, is_allowed_length, member_demands, members_demands}
use Rattle.type_trees.specs.Layouts.{align_row, end_row}
use Rattle.type_trees.specs.Multiples.{up}
use Rattle.type_trees.proofs.Layouts.{align_row_some}
use Rattle.c_rules.specs.declared.sizes.Size.{Size}
use Rattle.c_rules.specs.Members.{member_asks}
use Rattle.c_rules.specs.Sizes.{capped, ended, tree_size, row_size}
use Rattle.c_scopes.proofs.Rows.{asks}
use Rattle.c_rules.proofs.SizeRows.{ended_is, end_push, align_push, cap_up}

abbrev pub item : Target → List CStruct → List CMember → ℕ → CMember → List Demand
item target structs earlier at m = member_demands target structs earlier (behind at (codes "  ")) m

abbrev pub next : List CMember → CMember → List CMember
next earlier m = earlier ++ m ∷ []

pub members_are : (target : Target) (structs : List CStruct) (earlier : List CMember) (at : ℕ) (ms : List CMember) → asks member_text (item target structs) next earlier at ms ≡ members_demands target structs earlier at ms
members_are target structs earlier at [] = refl
members_are target structs earlier at (m ∷ ms) = ap (λ ds. item target structs earlier at m ++ ds) (members_are target structs (next earlier m) (behind at (member_text m)) ms)

-- bases are asked for tags alone
base_asks : (names : Names) (at : ℕ) (b : CBase) → base_demands names at b ≡ base_demands (file_scope names.structs [] []) at b
base_asks names at (Scalar s) = refl
base_asks names at (Named tag) = refl

in_time : (end whole : ℕ) → end ≡ capped whole → nat_le end 4294967295 ≡ nat_le whole 4294967295
in_time end whole is = grind (arith, nat_tests)

pub asks_are : (target : Target) (names : Names) (earlier : List CMember) (end : ℕ) (at : ℕ) (m : CMember) → end ≡ capped (end_row (metric_of target) (row_of (table [] names.structs) (earlier ++ m ∷ [])) 0)
    → member_asks names earlier (nat_le end 4294967295) at m ≡ member_demands target names.structs earlier at m
asks_are target names earlier end at m is =
    ap (λ b. member_asks names earlier b at m) (in_time end (end_row (metric_of target) (row_of (table [] names.structs) (earlier ++ m ∷ [])) 0) is)
    ∙ ap (λ ds. ask at LengthIsAllowed (is_allowed_length m.length) ++ ask at MemberEndsInTime (nat_le (end_row (metric_of target) (row_of (table [] names.structs) (earlier ++ m ∷ [])) 0) 4294967295) ++ ds
    ++ ask (behind at (object_text m.base [])) MemberIsNew (not (list_any (λ k. same_word k.name m.name) earlier))) (base_asks names at m.base)

-- ---- sizes

pub step_end : (target : Target) (structs : List CStruct) (ms : List CMember) (m : CMember) (end next_end : ℕ) (s : Size) → end ≡ capped (end_row (metric_of target) (row_of (table [] structs) ms) 0)
    → s ≡ tree_size target (times m.length (tree structs m.base)) → next_end ≡ ended end s → next_end ≡ capped (end_row (metric_of target) (row_of (table [] structs) (ms ++ m ∷ [])) 0)
step_end target structs ms m end next_end s so_far sized is =
    is ∙ ap (λ e. ended e s) so_far ∙ ap (ended (capped (end_row (metric_of target) (row_of (table [] structs) ms) 0))) sized
    ∙ ended_is target (end_row (metric_of target) (row_of (table [] structs) ms) 0) (times m.length (tree structs m.base))
    ∙ ap capped (sym (end_push target (table [] structs) ms m 0))

pub step_align : (target : Target) (structs : List CStruct) (ms : List CMember) (m : CMember) (a next_a : ℕ) (s : Size) → a ≡ align_row (metric_of target) (row_of (table [] structs) ms)
    → s ≡ tree_size target (times m.length (tree structs m.base)) → next_a ≡ max a s.align → next_a ≡ align_row (metric_of target) (row_of (table [] structs) (ms ++ m ∷ []))
step_align target structs ms m a next_a s so_far sized is =
    is ∙ ap (λ x. max x s.align) so_far ∙ ap (λ x. max (align_row (metric_of target) (row_of (table [] structs) ms)) x.align) sized ∙ sym (align_push target (table [] structs) ms m)

pub struct_size : (target : Target) (r : CRow) (end a bytes : ℕ) → end ≡ capped (end_row (metric_of target) r 0) → a ≡ align_row (metric_of target) r → bytes ≡ capped (up end (max a 1))
    → (let s : Size = record { bytes = bytes; align = a } in s ≡ row_size target r)
struct_size target r end a bytes ends aligned is =
    let some : max (align_row (metric_of target) r) 1 ≡ align_row (metric_of target) r = omega (arith, align_row_some (metric_of target) r) in
    let whole : bytes ≡ capped (up (end_row (metric_of target) r 0) (align_row (metric_of target) r)) =
    is ∙ ap (λ e. capped (up e (max a 1))) ends ∙ ap (λ x. capped (up (capped (end_row (metric_of target) r 0)) (max x 1))) aligned ∙ ap (λ x. capped (up (capped (end_row (metric_of target) r 0)) x)) some
    ∙ cap_up (end_row (metric_of target) r 0) (align_row (metric_of target) r) in
    ap (λ b. let s : Size = record { bytes = b; align = a } in s) whole ∙ ap (λ x. let s : Size = record { bytes = capped (up (end_row (metric_of target) r 0) (align_row (metric_of target) r)); align = x } in s) aligned

pub taken : {X : Type 0} (xs : List X) (i : ℕ) (x : X) → i < length xs → x ≡ get_or xs i x → take (i + 1) xs ≡ take i xs ++ x ∷ []
taken xs i x below is = take_more xs i x below ∙ ap (λ y. take i xs ++ y ∷ []) (sym is)
