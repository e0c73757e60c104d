-- How deep an item can be: as deep as its first value, its contracts and its body.
use Rattle.std.proofs.Common.{ℕ, arith}
use Rattle.ivory_lexer.specs.declared.Token.{Token}
use Rattle.ivory_tree.specs.View.{contract_of, item_of}
use Rattle.ivory_tree.specs.declared.Item.{Item}
use Rattle.reading.specs.Row.{Row}
use Rattle.module_grammar.specs.Parts as parts
use Rattle.module_grammar.specs.Items as grammar
use Rattle.module_grammar.specs.Items.{Symbol, header, item, Tree, Spells}
use Rattle.ivory_tree.specs.Depth.{contract_depth, item_depth}
use Rattle.spelled_trees.proofs.Nesting.{AtMost, flat, loose, deep_ahead, deep_behind, deepest_of}
use Rattle.spelled_trees.proofs.Lists.{of_many}
use Rattle.spelled_trees.proofs.ListDepth.{depth_listed}
use Rattle.spelled_trees.proofs.InitDepth.{first_deep}
use Rattle.spelled_trees.proofs.StmtDepth.{block_deep}
use Rattle.spelled_trees.proofs.PartDepth.{contract_deep}

abbrev Means : (s : Symbol) → Tree s → ℕ → Row Token → Type 0
Means header h d row = Unit {0}
Means item i d row = AtMost d row (item_depth (item_of i)) 2

deep : (s : Symbol) (x : Tree s) (d : ℕ) (row : Row Token) → Spells s x d row → Means s x d row
deep s x d row (grammar.signature result h t u r q) = tt
deep s x d row (grammar.bits t u v w r q p) = flat
deep s x d row (grammar.structure t u v r q) = flat
deep s x d row (grammar.area constant e init j {f} {g} {h} {i} {k} t u v w r q p) = deep_behind e (deep_behind f (deep_behind g (deep_behind h (deep_behind i (deep_ahead k (first_deep init d j q))))))
deep s x d row (grammar.import t r u) = flat
deep s x d row (grammar.procedure exported e contracts h {body} {f} {g} {i} t u r q p) =
    let all = of_many (depth_listed d 0 contract_depth contract_of) (parts.Rule parts.contract d) (λ v w a. contract_deep v d w a) contracts h q in
    deep_behind e (deep_behind f (deep_behind g (loose (omega arith) (deepest_of (deep_ahead i all) (deep_behind h (block_deep body d i p))))))

pub item_deep : (i : Item) (d : ℕ) (row : Row Token) → Spells item i d row → AtMost d row (item_depth (item_of i)) 2
item_deep i d row r = deep item i d row r
