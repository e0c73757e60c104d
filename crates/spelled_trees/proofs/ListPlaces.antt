-- Lists and parts that may be absent stand where their tokens stand.
use Rattle.std.proofs.Common.{List, map, Option, Some, None, sym, subst}
use Rattle.std.specs.Prelude.{All, IfSome}
use Rattle.std.specs.Option.{option_map}
use Rattle.std.proofs.lemmas.List.Elements.{All-nil, All-cons}
use Rattle.ivory_lexer.specs.declared.Token.{Token}
use Rattle.ivory_tree.specs.Nodes.{Node, nodes_from, none_or_one}
use Rattle.reading.specs.Row.{Row}
use Rattle.reading.specs.Language.{Language, Optional, After}
use Rattle.spelled_trees.proofs.Order.{Where, always, ahead, behind}
use Rattle.spelled_trees.proofs.Places.{AllLie, lie_none, lie_ahead, lie_behind, lie_then, lies_alone, lies_behind, Stands}
use Rattle.spelled_trees.proofs.Lists.{Listed}

pub record ListStands {B : Type 0} (node : B → Node) (Form : B → Type 0) (row : Row Token) (bs : List B) : Type 0 where
  pub lie : AllLie row (nodes_from (map node bs))
  pub formed : Where row (All Form bs)

pub record OptionStands {B : Type 0} (node : B → Node) (Form : B → Type 0) (row : Row Token) (o : Option B) : Type 0 where
  pub lie : AllLie row (none_or_one (option_map node o))
  pub formed : Where row (IfSome o Form)

module _ {A B : Type 0} (node : B → Node) (Form : B → Type 0) (view : A → B) where
  pub places_listed : Listed (λ row x. Stands node Form row (view x)) (λ row xs. ListStands node Form row (map view xs))
  places_listed = record {
    nil = λ row. record { lie = lie_none; formed = always (All-nil Form) };
    cons = λ f g x xs one more. record { lie = lie_then one.lies more.lie; formed = record { holds = λ o. All-cons Form (view x) (map view xs) ((ahead g one.formed).holds o) ((behind f more.formed).holds o) } };
    ahead = λ f g xs all. record { lie = lie_ahead g all.lie; formed = ahead g all.formed };
    behind = λ f g xs all. record { lie = lie_behind f all.lie; formed = behind f all.formed };
  }

  pub optional_stands : {R : Language Token A} → ((x : A) (row : Row Token) → R x row → Stands node Form row (view x)) → (o : Option A) (row : Row Token) → Optional R o row
      → OptionStands node Form row (option_map view o)
  optional_stands each None row e = record { lie = lie_none; formed = always tt }
  optional_stands each (Some x) row r = let one = each x row r in record { lie = lies_alone one.lies; formed = one.formed }

  -- behind something else
  pub after_stands : {S : Type 0} {Sep : Language Token S} {R : Language Token A} → ((x : A) (row : Row Token) → R x row → Stands node Form row (view x)) → (x : A) (row : Row Token) → After Sep R x row
      → Stands node Form row (view x)
  after_stands each x row (s, f, g, e, t, r) = let one = each x g r in subst (λ y. Stands node Form y (view x)) (sym e) (record { lies = lies_behind f one.lies; formed = behind f one.formed })
