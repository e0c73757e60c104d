-- What a tree stands for is valid, and it is the only such module.
use Rattle.std.specs.Prelude.{◌≡◌}
use Rattle.ivory_tree.specs.Syntax.{ModuleSyntax}
use Rattle.ivory_tree.specs.TextLike.{TextLike}
use Rattle.ivory_lexer.specs.Tokens.{IsName}
use Rattle.first_form.specs.Stands.{Stands}
use Rattle.first_form.specs.Valid.{Valid}
use Rattle.first_form.specs.declared.first.FirstModule.{FirstModule}

abbrev pub FirstFormIsValid : Type 0
FirstFormIsValid = (t : ModuleSyntax) (m : FirstModule) → TextLike IsName t → Stands t m → Valid m

abbrev pub FirstFormIsUnique : Type 0
FirstFormIsUnique = (t : ModuleSyntax) (a b : FirstModule) → Stands t a → Stands t b → a ≡ b
