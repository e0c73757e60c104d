-- What is asked of a member that ends in time or not, and a struct of a tag and its members.
use Rattle.std.specs.Prelude.{ℕ, Bool, not, List, [], ◌++◌}
use Rattle.std.specs.List.{list_any}
use Rattle.iv_words.specs.Words.{same_word}
use Rattle.c_ast.specs.declared.unit.CMember.{CMember}
use Rattle.c_ast.specs.declared.unit.CStruct.{CStruct}
use Rattle.c_ast.specs.Syntax.{Name}
use Rattle.c_text.specs.Rules.{Demand, LengthIsAllowed, MemberEndsInTime, MemberIsNew, ask, behind}
use Rattle.c_text.specs.Scopes.{Names}
use Rattle.c_text.specs.TypeText.{object_text}
use Rattle.c_text.specs.ExpressionRules.{base_demands}
use Rattle.c_text.specs.UnitRules.{is_allowed_length}

abbrev pub member_asks : Names → List CMember → Bool → ℕ → CMember → List Demand
member_asks names earlier ends at m =
    ask at LengthIsAllowed (is_allowed_length m.length) ++ ask at MemberEndsInTime ends ++ base_demands names at m.base
    ++ ask (behind at (object_text m.base [])) MemberIsNew (not (list_any (λ k. same_word k.name m.name) earlier))

abbrev pub struct_named : Name → List CMember → CStruct
struct_named tag members = record { name = tag; members = members }
