-- The checks that a form makes beside those of the table of operators, and the token that carries them: the operator, or the first token of the form.
use Rattle.std.specs.Prelude.{◌≡◌, ℕ, ◌+◌, min, ◌||◌, nat_eq, List, [], ◌∷◌, map}
use Rattle.iv_words.specs.declared.IntKind.{IntKind}
use Rattle.iv_words.specs.declared.IntKind.TheVariants.{U8, U16, U32, U64, I8, I16, I32, I64}
use Rattle.iv_words.specs.declared.Span.{Span}
use Rattle.iv_words.specs.Kinds.{width}
use Rattle.ivory_tree.specs.declared.items.BitField.{BitField}
use Rattle.area_types.specs.Syntax.{ValueType, Truth, Int, Ix, Bits, Ref}
use Rattle.core_tree.specs.declared.Check.{Check}
use Rattle.core_tree.specs.declared.SiteKind.{SiteKind}
use Rattle.core_tree.specs.declared.SiteKind.TheVariants as site
use Rattle.core_tree.specs.Operators.{indexing_sites, unless}
use Rattle.core_tree.specs.Syntax.{Label}
use Rattle.source_types.specs.Values.{least_unsigned}

-- ---- which checks

-- of `toix`; of what is no whole number nothing is known
abbrev pub index_sites : ℕ → ValueType → List SiteKind
index_sites n (Int kind) = indexing_sites n kind
index_sites n Truth = site.Index ∷ []
index_sites n (Ix m) = site.Index ∷ []
index_sites n (Bits k) = site.Index ∷ []
index_sites n (Ref constant region area) = site.Index ∷ []

abbrev pub set_sites : BitField → List SiteKind
set_sites f = unless (f.truth || nat_eq f.width (width (least_unsigned f.width))) site.Cast

-- ---- where

-- the first token of a form, of so many bytes; it ends within the form
abbrev pub first_token : Span → ℕ → Span
first_token s bytes = record { start = s.start; end = min (s.start + bytes) s.end }

-- the bytes of the name of a kind
abbrev pub name_bytes : IntKind → ℕ
name_bytes U8 = 7
name_bytes U16 = 8
name_bytes U32 = 8
name_bytes U64 = 8
name_bytes I8 = 6
name_bytes I16 = 7
name_bytes I32 = 7
name_bytes I64 = 7

-- checks of these kinds at this token, whatever their numbers are
pub record Carries (wanted : List SiteKind) (at : Span) (checks : List Check) : Type 0 where
  pub kinds : map (λ (c : Check). c.kind) checks ≡ wanted
  pub places : map (λ (c : Check). c.span) checks ≡ map (λ kind. at) wanted

pub record Labelled (label : Label) (t : ValueType) (kinds : List SiteKind) (at : Span) : Type 0 where
  pub ty : label.ty ≡ t
  pub checks : Carries kinds at label.checks

abbrev pub unchecked : ValueType → Label
unchecked t = record { ty = t; checks = [] }
