use Rattle.std.proofs.Common.{◌≡◌, ◌+◌, ◌<◌, ◌≤◌, ◌++◌, length, ◌∷◌, ◌∙◌, [], sym, ap, subst, drop, take, refl, ℕ}
use Rattle.std.specs.Prelude.{codes}
use Rattle.std.proofs.lemmas.List.{take_all}
use Rattle.c_ast.specs.Scalars.{metric_of}
use Rattle.c_ast.specs.Structs.{row_of, table, tree, times}
use Rattle.c_ast.specs.declared.unit.CMember.{CMember}
use Rattle.c_text.specs.Rules.{behind}
use Rattle.c_text.specs.Spelling.{member_text}
use Rattle.type_trees.specs.Layouts.{align_row, end_row}
use Rattle.c_scopes.specs.Scope.{names_view}
use Rattle.c_rules.specs.Sizes.{capped, tree_size, sized_times, base_size}
use Rattle.c_scopes.specs.Walks.{Walks}
use Rattle.c_scopes.specs.StructViews.{structs_view}
use Rattle.c_scopes.proofs.Rows.{Going, going_on, all_gone}
use Rattle.c_rules.proofs.SizeRows.{member_is}
use Rattle.c_rules.proofs.MemberRows.{item, next, members_are, asks_are, step_end, step_align, struct_size, taken}
use Rattle.c_scopes.proofs.Walks.{as_demands}
use Rattle.c_rules.proofs.structs.check_members.Goals as goal

pub loop-i-init : goal.loop-i-init
loop-i-init c = record { going = λ w rest. rest; end = refl; align = refl }

pub loop-i-preserved : goal.loop-i-preserved
loop-i-preserved c =
    let m : CMember = c.at-member.result.now in
    let i : ℕ = c.loop-i.i in
    let ms = c.args.members.now in
    let below : i < length ms = subst (λ n. i < n) c.len-i-end.ensures c.loop-i-test.true in
    let step : take (i + 1) ms ≡ take i ms ++ m ∷ [] = taken ms i m below c.at-member.ensures in
    let sized : c.member_size-size.result ≡ tree_size c.args.names.now.target (times m.length (tree (structs_view c.args.names.now.structs) m.base)) =
    c.member_size-size.ensures ∙ ap (λ z. sized_times m.length (base_size c.args.names.now.target z m.base)) c.requires ∙ member_is c.args.names.now.target (structs_view c.args.names.now.structs) m in
    let end : c.end_of-end.result ≡ capped (end_row (metric_of c.args.names.now.target) (row_of (table [] (structs_view c.args.names.now.structs)) (take i ms ++ m ∷ [])) 0) =
    step_end c.args.names.now.target (structs_view c.args.names.now.structs) (take i ms) m c.loop-i.end c.end_of-end.result c.member_size-size.result c.loop-i.invariant.end sized c.end_of-end.ensures in
    let one : Walks c.loop-i.walk c.check_member.new.walk (member_text m) (item c.args.names.now.target (structs_view c.args.names.now.structs) (take i ms) c.loop-i.walk.at m) =
    as_demands (asks_are c.args.names.now.target (names_view c.args.names.now) (take i ms) c.end_of-end.result (behind c.loop-i.walk.at (codes "  ")) m end) (rw c.is_in_time.ensures at c.check_member.ensures) in
    record {
      going = subst (λ s. Going member_text (item c.args.names.now.target (structs_view c.args.names.now.structs)) next c.args.walk.now c.check_member.new.walk [] s ms (drop (i + 1) ms)) (sym step)
          (going_on member_text (item c.args.names.now.target (structs_view c.args.names.now.structs)) next c.args.walk.now [] (take i ms) ms i m below c.at-member.ensures c.loop-i.invariant.going one);
      end = end ∙ ap (λ l. capped (end_row (metric_of c.args.names.now.target) (row_of (table [] (structs_view c.args.names.now.structs)) l) 0)) (sym step);
      align = step_align c.args.names.now.target (structs_view c.args.names.now.structs) (take i ms) m c.loop-i.align c.larger-align.result c.member_size-size.result c.loop-i.invariant.align sized c.larger-align.ensures
          ∙ ap (λ l. align_row (metric_of c.args.names.now.target) (row_of (table [] (structs_view c.args.names.now.structs)) l)) (sym step);
    }

pub returns-clause-walks : goal.returns-clause-walks
returns-clause-walks c =
    as_demands (members_are c.args.names.now.target (structs_view c.args.names.now.structs) [] c.args.walk.now.at c.args.members.now)
    (all_gone member_text (item c.args.names.now.target (structs_view c.args.names.now.structs)) next [] (take c.loop-i.i c.args.members.now) c.args.members.now c.loop-i.i (subst (λ n. n ≤ c.loop-i.i) c.len-i-end.ensures c.loop-i-test.false) c.loop-i.invariant.going)

pub returns-clause-size : goal.returns-clause-size
returns-clause-size c =
    struct_size c.args.names.now.target (row_of (table [] (structs_view c.args.names.now.structs)) c.args.members.now) c.loop-i.end c.loop-i.align c.rounded.result
    (c.loop-i.invariant.end ∙ ap (λ ms. capped (end_row (metric_of c.args.names.now.target) (row_of (table [] (structs_view c.args.names.now.structs)) ms) 0)) (take_all c.loop-i.i c.args.members.now (subst (λ n. n ≤ c.loop-i.i) c.len-i-end.ensures c.loop-i-test.false)))
    (c.loop-i.invariant.align ∙ ap (λ ms. align_row (metric_of c.args.names.now.target) (row_of (table [] (structs_view c.args.names.now.structs)) ms)) (take_all c.loop-i.i c.args.members.now (subst (λ n. n ≤ c.loop-i.i) c.len-i-end.ensures c.loop-i-test.false)))
    c.rounded.ensures
