use Rattle.std.proofs.Common.{◌<◌, ◌^◌, subst}
use Rattle.ivory_tree.specs.Nodes.{item_node, node_count}
use Rattle.ivory_tree.specs.View.{item_of}
use Rattle.ivory_tree.specs.declared.Item.{Item}
use Rattle.first_form.specs.Stands.{ImportStands}
use Rattle.first_form.proofs.Few.{few_params}
use Rattle.first_form.proofs.Refusals.{still_refused}
use Rattle.first_form.proofs.import.first_import.Goals as goal

pub first_header-requires : goal.first_header-requires
first_header-requires c = record { few = few_params c.in-Import.header (2 ^ 32) (subst (λ (i : Item). node_count (item_node (item_of i)) < 2 ^ 32) c.in-Import.is c.requires.few) }

pub returns-in-Import-clause-refused : goal.returns-in-Import-clause-refused
returns-in-Import-clause-refused c =
    still_refused c.first_header.result c.first_header.ensures.refused
    (λ none i s. none i (subst (λ (x : Item). ImportStands c.args.items.now (item_of x) i) c.in-Import.is s))
