use Rattle.std.proofs.lemmas.List.{length-append, length-take-le}
use Rattle.std.proofs.Common.{◌≡◌, ◌+◌, ◌<◌, ◌≤◌, arith, length, get_or, ◌++◌, ◌∷◌, ◌∙◌, [], sym, ap, subst, drop, take, refl, ℕ}
use Rattle.c_ast.specs.declared.unit.CStruct.{CStruct}
use Rattle.c_ast.specs.Structs.{row_of, table}
use Rattle.c_text.specs.Spelling.{struct_text}
use Rattle.c_rules.specs.Sizes.{row_size, sized_view, sizes_of}
use Rattle.c_scopes.specs.Walks.{Walks}
use Rattle.c_scopes.proofs.FoundPlaces.{struct_at}
use Rattle.c_rules.specs.Members.{struct_named}
use Rattle.c_rules.proofs.MemberRows.{taken}
use Rattle.c_scopes.proofs.Rows.{Going, going_on, all_gone}
use Rattle.c_rules.proofs.SizeRows.{sized_more}
use Rattle.c_rules.proofs.Units.{struct_item, struct_next, structs_row}
use Rattle.c_scopes.proofs.Walks.{as_demands}
use Rattle.c_rules.proofs.unit.check_structs.Goals as goal

pub check_struct-size-requires : goal.check_struct-size-requires
check_struct-size-requires c = rw (c.names_behind-names.ensures.target, c.names_behind-names.ensures.structs, c.as_slice.ensures) c.loop-i.invariant.sized

pub tag-requires : goal.tag-requires
tag-requires c = subst (λ n. c.loop-i.i < n) c.len-i-end.ensures c.loop-i-test.true

pub members-requires : goal.members-requires
members-requires c = subst (λ n. c.loop-i.i < n) c.len-i-end.ensures c.loop-i-test.true

pub loop-i-init : goal.loop-i-init
loop-i-init c = record { going = λ w rest. rest; sized = refl; counted = ap length c.new-sized.ensures }

pub loop-i-preserved : goal.loop-i-preserved
loop-i-preserved c =
    let s : CStruct = struct_named c.tag.result.now c.members.result.now in
    let i : ℕ = c.loop-i.i in
    let ss = c.args.table.now in
    let below : i < length ss = subst (λ n. i < n) c.len-i-end.ensures c.loop-i-test.true in
    let is : s ≡ get_or ss i s = struct_at ss i c.tag.result.now c.members.result.now s c.tag.ensures c.members.ensures in
    let step : take (i + 1) ss ≡ take i ss ++ s ∷ [] = taken ss i s below is in
    let one : Walks c.loop-i.walk c.check_struct-size.new.walk (struct_text s) (struct_item c.args.target (take i ss) c.loop-i.walk.at s) =
    rw (c.names_behind-names.ensures.target, c.names_behind-names.ensures.structs) at c.check_struct-size.ensures.walks in
    let size_is : c.check_struct-size.result ≡ row_size c.args.target (row_of (table [] (take i ss)) s.members) =
    rw (c.names_behind-names.ensures.target, c.names_behind-names.ensures.structs) at c.check_struct-size.ensures.size in
    record {
      going = subst (λ l. Going struct_text (struct_item c.args.target) struct_next c.args.walk.now c.check_struct-size.new.walk [] l ss (drop (i + 1) ss)) (sym step)
          (going_on struct_text (struct_item c.args.target) struct_next c.args.walk.now [] (take i ss) ss i s below is c.loop-i.invariant.going one);
      sized = ap (λ l. sized_view l c.push.new.self) step
          ∙ sized_more c.args.target (take i ss) s c.loop-i.sized c.push.new.self c.check_struct-size.result c.loop-i.invariant.sized (c.loop-i.invariant.counted ∙ sym (length-take-le i ss (omega (arith, below)))) c.in_ok-push.ensures.ok size_is
          ∙ ap (sizes_of c.args.target) (sym step);
      counted = omega (arith, ap length c.in_ok-push.ensures.ok, length-append c.loop-i.sized (c.check_struct-size.result ∷ []), c.loop-i.invariant.counted);
    }

pub returns : goal.returns
returns c =
    as_demands (structs_row c.args.target [] c.args.walk.now.at c.args.table.now)
    (all_gone struct_text (struct_item c.args.target) struct_next [] (take c.loop-i.i c.args.table.now) c.args.table.now c.loop-i.i (subst (λ n. n ≤ c.loop-i.i) c.len-i-end.ensures c.loop-i-test.false) c.loop-i.invariant.going)
