-- The tokens that rules above those of expressions speak of, by the value that they have.
use Rattle.std.specs.Prelude.{ℕ, Bool, true, false, Option, Some, None, is_some}
use Rattle.ivory_lexer.specs.declared.Token.{Token}
use Rattle.ivory_lexer.specs.declared.TokenKind.{TokenKind}
use Rattle.ivory_lexer.specs.declared.TokenKind.TheVariants as kind
use Rattle.ivory_lexer.specs.declared.Key.TheVariants as key
use Rattle.ivory_tree.specs.declared.RegionText.{RegionText}
use Rattle.ivory_tree.specs.declared.RegionText.TheVariants as region

-- where the area of a reference lives: `global`, or a region's name
abbrev pub region_of_kind : TokenKind → Option RegionText
region_of_kind (kind.Key key.KwGlobal) = Some region.Global
region_of_kind (kind.Name w) = Some (region.Named w)
region_of_kind _ = None

abbrev pub region_of : Token → Option RegionText
region_of t = region_of_kind t.kind

-- the width of a bit field and whether it is a truth: a number of bits, or `bool`, which has one
abbrev pub width_of_kind : TokenKind → Option (ℕ × Bool)
width_of_kind (kind.Number n) = Some (n, false)
width_of_kind (kind.Key key.KwBool) = Some (1, true)
width_of_kind _ = None

abbrev pub width_of : Token → Option (ℕ × Bool)
width_of t = width_of_kind t.kind

-- whether a contract speaks of what holds before a call: `requires`, or `ensures`
abbrev pub before_of_kind : TokenKind → Option Bool
before_of_kind (kind.Key key.KwRequires) = Some true
before_of_kind (kind.Key key.KwEnsures) = Some false
before_of_kind _ = None

abbrev pub before_of : Token → Option Bool
before_of t = before_of_kind t.kind

abbrev pub begins_contract : Token → Bool
begins_contract t = is_some (before_of t)
