-- Each name in a list or in a part that may be absent is the word of a name among its tokens.
use Rattle.std.proofs.Common.{List, map, Option, Some, None, sym, subst}
use Rattle.std.specs.Option.{option_map}
use Rattle.std.specs.List.{flat_map}
use Rattle.ivory_lexer.specs.declared.Token.{Token}
use Rattle.ivory_lexer.specs.declared.TokenKind.{TokenKind}
use Rattle.ivory_tree.specs.Syntax.{Word}
use Rattle.ivory_tree.specs.Names.{if_any}
use Rattle.reading.specs.Row.{Row}
use Rattle.reading.specs.Language.{Language, Optional, After}
use Rattle.spelled_trees.proofs.Lists.{Listed}
use Rattle.spelled_trees.proofs.Words.{Told, no_names, told_ahead, told_behind, told_both}

module _ (P : TokenKind → Type 0) {A B : Type 0} (names : B → List Word) (view : A → B) where
  pub names_listed : Listed (λ row x. Told P row (names (view x))) (λ row xs. Told P row (flat_map names (map view xs)))
  names_listed = record {
    nil = λ row. no_names;
    cons = λ f g x xs one more. told_both (told_ahead g one) (told_behind f more);
    ahead = λ f g xs all. told_ahead g all;
    behind = λ f g xs all. told_behind f all;
  }

  pub optional_tells : {R : Language Token A} → ((x : A) (row : Row Token) → R x row → Told P row (names (view x))) → (o : Option A) (row : Row Token) → Optional R o row → Told P row (if_any names (option_map view o))
  optional_tells each None row e = no_names
  optional_tells each (Some x) row r = each x row r

  -- behind something else
  pub after_tells : {S : Type 0} {Sep : Language Token S} {R : Language Token A} → ((x : A) (row : Row Token) → R x row → Told P row (names (view x))) → (x : A) (row : Row Token) → After Sep R x row → Told P row (names (view x))
  after_tells each x row (s, f, g, e, t, r) = subst (λ y. Told P y (names (view x))) (sym e) (told_behind f (each x g r))
