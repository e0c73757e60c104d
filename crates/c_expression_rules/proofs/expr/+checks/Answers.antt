use Rattle.std.proofs.Common.{◌++◌, ◌∙◌, sym, append_assoc, ℕ}
use Rattle.std.specs.Prelude.{codes}
use Rattle.c_ast.proofs.View.{read_is, address_is, unary_is, binary_is, cast_is, cond_is, at_is, member_is, element_is}
use Rattle.c_ast.specs.View.{expr_of, place_of}
use Rattle.c_ast.specs.StaticTypes.{declared, expr_type, place_type, of_binary, of_cast, of_element}
use Rattle.c_ast.specs.Targets.{table_of}
use Rattle.c_text.specs.ExpressionText.{place_text}
use Rattle.c_text.specs.Rules.{OperandsAreScalars, CastIsAllowed, StarHasPointer, DotHasStruct, IndexHasArray, AddressIsOfObject, ReadHasValue, MemberIsKnown, IndexIsScalar, ask, behind, where_typed}
use Rattle.c_text.specs.Scopes.{usable}
use Rattle.c_text.specs.ExpressionRules as rules
use Rattle.c_text.specs.ExpressionRules.{expr_demands, place_demands, is_known_type, tags_known, place_tags_known, type_of}
use Rattle.c_scopes.specs.Scope.{names_view}
use Rattle.c_scopes.specs.StructViews.{structs_view}
use Rattle.c_expression_rules.proofs.Gates.{gated_both, gated_choice, gated_cast}
use Rattle.c_scopes.proofs.Walks.{followed, passed, asked_first, asked_next, as_demands}
use Rattle.c_expression_rules.proofs.expr.+checks.Goals as goal

pub check_expr-returns-in-Read-clause-walks : goal.check_expr-returns-in-Read-clause-walks
check_expr-returns-in-Read-clause-walks t c =
    rw c.in-Read.is (rw (read_is c.in-Read.place) (asked_first ReadHasValue c.check_place-place.ensures.walks (rw (c.can_be_read.ensures, c.check_place-place.ensures.ty) at c.ask.ensures)))

pub check_expr-returns-in-Address-clause-walks : goal.check_expr-returns-in-Address-clause-walks
check_expr-returns-in-Address-clause-walks t c =
    rw c.in-Address.is (rw (address_is c.in-Address.place)
    (asked_first AddressIsOfObject
    (passed (followed (λ at. place_demands c.args.names.now.target (names_view c.args.names.now) at (place_of c.in-Address.place)) c.pass.ensures c.check_place-found.ensures.walks) c.pass-in-Address.ensures)
    (rw (c.both.ensures, c.is_function_name-function.ensures, c.has_address.ensures, c.check_place-found.ensures.ty) at c.ask-in-Address.ensures)))

pub check_expr-returns-in-Unary-clause-walks : goal.check_expr-returns-in-Unary-clause-walks
check_expr-returns-in-Unary-clause-walks t c =
    rw c.in-Unary.is (rw (unary_is c.in-Unary.op c.in-Unary.e)
    (asked_first OperandsAreScalars
    (passed
    (followed (λ at. expr_demands c.args.names.now.target (names_view c.args.names.now) at (expr_of c.in-Unary.e))
    (passed c.pass-in-Unary.ensures (rw c.unary_name.ensures at c.pass-in-Unary-2.ensures))
    (rw c.get.ensures at c.check_expr-value.ensures.walks))
    c.pass-in-Unary-3.ensures)
    (rw (c.is_number.ensures, c.check_expr-value.ensures.ty, c.get.ensures) at c.ask-in-Unary.ensures)))

pub check_expr-returns-in-Binary-clause-ty : goal.check_expr-returns-in-Binary-clause-ty
check_expr-returns-in-Binary-clause-ty t c =
    rw c.in-Binary.is (rw (binary_is c.in-Binary.op c.in-Binary.left c.in-Binary.right)
    ((rw (c.check_expr-first.ensures.ty, c.get-in-Binary.ensures, c.check_expr-second.ensures.ty, c.get-in-Binary-2.ensures) at c.of_binary.ensures)
    ∙ gated_both (of_binary (table_of c.args.names.now.target) c.in-Binary.op)
    (tags_known (names_view c.args.names.now) (expr_of c.in-Binary.left)) (tags_known (names_view c.args.names.now) (expr_of c.in-Binary.right))
    (expr_type (table_of c.args.names.now.target) (structs_view c.args.names.now.structs) (declared (usable (names_view c.args.names.now))) (expr_of c.in-Binary.left))
    (expr_type (table_of c.args.names.now.target) (structs_view c.args.names.now.structs) (declared (usable (names_view c.args.names.now))) (expr_of c.in-Binary.right))))

pub check_expr-returns-in-Binary-clause-walks : goal.check_expr-returns-in-Binary-clause-walks
check_expr-returns-in-Binary-clause-walks t c =
    rw c.in-Binary.is (rw (binary_is c.in-Binary.op c.in-Binary.left c.in-Binary.right)
    (asked_first OperandsAreScalars
    (passed
    (followed (λ at. expr_demands c.args.names.now.target (names_view c.args.names.now) at (expr_of c.in-Binary.right))
    (passed
    (passed
    (passed
    (followed (λ at. expr_demands c.args.names.now.target (names_view c.args.names.now) at (expr_of c.in-Binary.left))
    c.pass-in-Binary.ensures (rw c.get-in-Binary.ensures at c.check_expr-first.ensures.walks))
    c.pass-in-Binary-2.ensures)
    (rw c.binary_name.ensures at c.pass-in-Binary-3.ensures))
    c.pass-in-Binary-4.ensures)
    (rw c.get-in-Binary-2.ensures at c.check_expr-second.ensures.walks))
    c.pass-in-Binary-5.ensures)
    (rw (c.both-in-Binary.ensures, c.is_number-in-Binary.ensures, c.is_number-in-Binary-2.ensures, c.check_expr-first.ensures.ty, c.get-in-Binary.ensures, c.check_expr-second.ensures.ty, c.get-in-Binary-2.ensures) at c.ask-in-Binary.ensures)))

pub check_expr-returns-in-Cast-clause-ty : goal.check_expr-returns-in-Cast-clause-ty
check_expr-returns-in-Cast-clause-ty t c =
    rw c.in-Cast.is (rw (cast_is c.in-Cast.ty c.in-Cast.e)
    ((rw (c.check_cast-known.ensures.known, c.check_expr-value-in-Cast.ensures.ty, c.get-in-Cast.ensures) at c.of_known_cast.ensures)
    ∙ gated_cast (of_cast c.in-Cast.ty) (is_known_type (names_view c.args.names.now) c.in-Cast.ty) (tags_known (names_view c.args.names.now) (expr_of c.in-Cast.e))
    (expr_type (table_of c.args.names.now.target) (structs_view c.args.names.now.structs) (declared (usable (names_view c.args.names.now))) (expr_of c.in-Cast.e))))

pub check_expr-returns-in-Cast-clause-walks : goal.check_expr-returns-in-Cast-clause-walks
check_expr-returns-in-Cast-clause-walks t c =
    rw c.in-Cast.is (rw (cast_is c.in-Cast.ty c.in-Cast.e)
    (asked_first CastIsAllowed
    (passed
    (followed (λ at. expr_demands c.args.names.now.target (names_view c.args.names.now) at (expr_of c.in-Cast.e))
    c.check_cast-known.ensures.walks (rw c.get-in-Cast.ensures at c.check_expr-value-in-Cast.ensures.walks))
    c.pass-in-Cast.ensures)
    (rw (c.cast_is_allowed.ensures, c.wanted_of.ensures, c.check_expr-value-in-Cast.ensures.ty, c.get-in-Cast.ensures) at c.ask-in-Cast.ensures)))

pub check_expr-returns-in-Cond-clause-ty : goal.check_expr-returns-in-Cond-clause-ty
check_expr-returns-in-Cond-clause-ty t c =
    rw c.in-Cond.is (rw (cond_is c.in-Cond.test c.in-Cond.first c.in-Cond.second)
    ((rw (c.check_expr-test.ensures.ty, c.get-in-Cond.ensures, c.check_expr-first-in-Cond.ensures.ty, c.get-in-Cond-2.ensures, c.check_expr-second-in-Cond.ensures.ty, c.get-in-Cond-3.ensures) at c.of_choice.ensures)
    ∙ gated_choice (table_of c.args.names.now.target)
    (tags_known (names_view c.args.names.now) (expr_of c.in-Cond.test)) (tags_known (names_view c.args.names.now) (expr_of c.in-Cond.first)) (tags_known (names_view c.args.names.now) (expr_of c.in-Cond.second))
    (expr_type (table_of c.args.names.now.target) (structs_view c.args.names.now.structs) (declared (usable (names_view c.args.names.now))) (expr_of c.in-Cond.test))
    (expr_type (table_of c.args.names.now.target) (structs_view c.args.names.now.structs) (declared (usable (names_view c.args.names.now))) (expr_of c.in-Cond.first))
    (expr_type (table_of c.args.names.now.target) (structs_view c.args.names.now.structs) (declared (usable (names_view c.args.names.now))) (expr_of c.in-Cond.second))))

pub check_expr-returns-in-Cond-clause-walks : goal.check_expr-returns-in-Cond-clause-walks
check_expr-returns-in-Cond-clause-walks t c =
    rw c.in-Cond.is (rw (cond_is c.in-Cond.test c.in-Cond.first c.in-Cond.second)
    (asked_first OperandsAreScalars
    (passed
    (followed (λ at. expr_demands c.args.names.now.target (names_view c.args.names.now) at (expr_of c.in-Cond.second))
    (passed
    (followed (λ at. expr_demands c.args.names.now.target (names_view c.args.names.now) at (expr_of c.in-Cond.first))
    (passed
    (followed (λ at. expr_demands c.args.names.now.target (names_view c.args.names.now) at (expr_of c.in-Cond.test))
    c.pass-in-Cond.ensures (rw c.get-in-Cond.ensures at c.check_expr-test.ensures.walks))
    c.pass-in-Cond-2.ensures)
    (rw c.get-in-Cond-2.ensures at c.check_expr-first-in-Cond.ensures.walks))
    c.pass-in-Cond-3.ensures)
    (rw c.get-in-Cond-3.ensures at c.check_expr-second-in-Cond.ensures.walks))
    c.pass-in-Cond-4.ensures)
    (rw (c.all_numbers.ensures, c.check_expr-test.ensures.ty, c.get-in-Cond.ensures, c.check_expr-first-in-Cond.ensures.ty, c.get-in-Cond-2.ensures, c.check_expr-second-in-Cond.ensures.ty, c.get-in-Cond-3.ensures) at c.ask-in-Cond.ensures)))

pub check_place-returns-in-At-clause-walks : goal.check_place-returns-in-At-clause-walks
check_place-returns-in-At-clause-walks t c =
    rw c.in-At.is (rw (at_is c.in-At.pointer)
    (asked_first StarHasPointer
    (passed
    (followed (λ at. expr_demands c.args.names.now.target (names_view c.args.names.now) at (expr_of c.in-At.pointer)) c.pass.ensures (rw c.get.ensures at c.check_expr-value.ensures.walks))
    c.pass-in-At.ensures)
    (rw (c.is_pointer.ensures, c.check_expr-value.ensures.ty, c.get.ensures) at c.ask.ensures)))

pub check_place-returns-in-Member-clause-walks : goal.check_place-returns-in-Member-clause-walks
check_place-returns-in-Member-clause-walks t c =
    rw c.in-Member.is (rw (member_is c.in-Member.place c.in-Member.member)
    (asked_first DotHasStruct
    (passed
    (asked_next MemberIsKnown (passed (rw c.get-in-Member.ensures at c.check_place-found.ensures.walks) c.pass-in-Member.ensures) (rw (c.has_member.ensures, c.check_place-found.ensures.ty, c.get-in-Member.ensures) at c.ask-in-Member.ensures))
    (rw c.as_slice.ensures at c.pass-in-Member-2.ensures))
    (rw (c.is_struct.ensures, c.check_place-found.ensures.ty, c.get-in-Member.ensures) at c.ask-in-Member-2.ensures)))

pub check_place-returns-in-Element-clause-ty : goal.check_place-returns-in-Element-clause-ty
check_place-returns-in-Element-clause-ty t c =
    rw c.in-Element.is (rw (element_is c.in-Element.place c.in-Element.index)
    ((rw (c.check_place-found-in-Element.ensures.ty, c.get-in-Element.ensures, c.check_expr-value-in-Element.ensures.ty, c.get-in-Element-2.ensures) at c.of_element.ensures)
    ∙ gated_both of_element
    (place_tags_known (names_view c.args.names.now) (place_of c.in-Element.place)) (tags_known (names_view c.args.names.now) (expr_of c.in-Element.index))
    (place_type (table_of c.args.names.now.target) (structs_view c.args.names.now.structs) (declared (usable (names_view c.args.names.now))) (place_of c.in-Element.place))
    (expr_type (table_of c.args.names.now.target) (structs_view c.args.names.now.structs) (declared (usable (names_view c.args.names.now))) (expr_of c.in-Element.index))))

pub check_place-returns-in-Element-clause-walks : goal.check_place-returns-in-Element-clause-walks
check_place-returns-in-Element-clause-walks t c =
    let test : ℕ → _ = λ at. ask at IndexIsScalar (where_typed rules.is_number (type_of c.args.names.now.target (names_view c.args.names.now) (expr_of c.in-Element.index))) in
    let all : ℕ → _ = λ at. expr_demands c.args.names.now.target (names_view c.args.names.now) at (expr_of c.in-Element.index) in
    let inner : ℕ = behind c.args.walk.now.at (place_text (place_of c.in-Element.place) ++ codes "[") in
    rw c.in-Element.is (rw (element_is c.in-Element.place c.in-Element.index)
    (asked_first IndexHasArray
    (passed
    (as_demands (sym (append_assoc (place_demands c.args.names.now.target (names_view c.args.names.now) c.args.walk.now.at (place_of c.in-Element.place)) (test inner) (all inner)))
    (followed (λ at. test at ++ all at)
    (passed (rw c.get-in-Element.ensures at c.check_place-found-in-Element.ensures.walks) c.pass-in-Element.ensures)
    (asked_first IndexIsScalar (rw c.get-in-Element-2.ensures at c.check_expr-value-in-Element.ensures.walks) (rw (c.is_number.ensures, c.check_expr-value-in-Element.ensures.ty, c.get-in-Element-2.ensures) at c.ask-in-Element.ensures))))
    c.pass-in-Element-2.ensures)
    (rw (c.is_array.ensures, c.check_place-found-in-Element.ensures.ty, c.get-in-Element.ensures) at c.ask-in-Element-2.ensures)))
