use Rattle.std.proofs.Common.{◌≡◌, IsTrue, ap, sym, ◌∙◌, subst}
use Rattle.ivory_tree.specs.Syntax.{ModuleSyntax}
use Rattle.ivory_tree.specs.View.{module_of}
use Rattle.area_types.specs.Tables.{Table, structs_of, is_table}
use Rattle.core_tree.specs.Cores.{Parts, core_of}
use Rattle.core_tree.specs.Valid.{ValidCore}
use Rattle.source_types.specs.Environments.{words}
use Rattle.typing_rules.specs.WellTyped.{Stands}
use Rattle.item_maker.specs.Making.{SoFar}
use Rattle.iv_checker.specs.Made.{all_made, core_with}
use Rattle.iv_checker.proofs.Standing.{table_fits, made_is_valid, stands_for_made}
use Rattle.iv_checker.proofs.checker.core_of_module.Goals as goal

pub struct_table-requires : goal.struct_table-requires
struct_table-requires c =
    subst (λ (x : SoFar). IsTrue (is_table x.earlier.structs (words x.earlier))) (sym c.in_ok-making.ensures) (table_fits (module_of c.args.m.now) c.requires.formed c.requires.few c.requires.faultless)

pub new-requires : goal.new-requires
new-requires c =
    let m : ModuleSyntax = module_of c.args.m.now in
    let t : Table = c.in_ok-structs.structs in
    let structs : structs_of t ≡ (all_made m).earlier.structs = c.in_ok-structs.ensures.structs ∙ ap (λ (x : SoFar). x.earlier.structs) c.in_ok-making.ensures in
    let kinds : t.words ≡ words (all_made m).earlier = c.in_ok-structs.ensures.words ∙ ap (λ (x : SoFar). words x.earlier) c.in_ok-making.ensures in
    subst (λ (x : SoFar). ValidCore (core_with t x)) (sym c.in_ok-making.ensures) (made_is_valid m t c.requires.formed c.requires.few c.requires.faultless structs kinds)

pub returns : goal.returns
returns c =
    let m : ModuleSyntax = module_of c.args.m.now in
    let t : Table = c.in_ok-structs.structs in
    let structs : structs_of t ≡ (all_made m).earlier.structs = c.in_ok-structs.ensures.structs ∙ ap (λ (x : SoFar). x.earlier.structs) c.in_ok-making.ensures in
    let kinds : t.words ≡ words (all_made m).earlier = c.in_ok-structs.ensures.words ∙ ap (λ (x : SoFar). words x.earlier) c.in_ok-making.ensures in
    let stands : Stands m (core_with t (all_made m)) = stands_for_made m t c.requires.formed c.requires.faultless structs kinds in
    subst (λ (p : Parts). Stands m (core_of p)) (sym c.new.ensures) (subst (λ (x : SoFar). Stands m (core_with t x)) (sym c.in_ok-making.ensures) stands)
