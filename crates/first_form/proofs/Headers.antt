-- When the header of an import stands for one.
use Rattle.std.proofs.Common.{◌≡◌, ◌&&◌, false, List, [], ◌∷◌, map, Option, Some, None, refl, ap}
use Rattle.std.specs.Prelude.{is_some}
use Rattle.std.specs.Option.{option_map}
use Rattle.std.specs.List.{list_all}
use Rattle.ivory_tree.specs.View.{param_of, type_of}
use Rattle.ivory_tree.specs.declared.TypeText.{TypeText}
use Rattle.ivory_tree.specs.declared.Param.{Param}
use Rattle.first_form.specs.Stands.{is_uint8}

pub no_result : (o : Option TypeText) → is_some o ≡ false → option_map type_of o ≡ None
no_result None e = refl
no_result (Some t) e = absurd cc

pub all_seen : (ps : List Param) → list_all (λ p. is_uint8 p.ty) (map param_of ps) ≡ list_all (λ p. is_uint8 (type_of p.ty)) ps
all_seen [] = refl
all_seen (p ∷ ps) = ap (λ b. is_uint8 (type_of p.ty) && b) (all_seen ps)
