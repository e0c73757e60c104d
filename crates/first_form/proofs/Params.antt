-- Whether the names of parameters stand, by a table of the items' names.
use Rattle.std.proofs.Common.{◌≡◌, ℕ, true, false, List, get_or, Contains, sym, subst}
use Rattle.std.specs.List.{list_any}
use Rattle.std.proofs.lemmas.List.Folds.{list_any_at, Any-from_list_any}
use Rattle.first_form.specs.Valid.{AllDifferent}
use Rattle.first_form.specs.Stands.{ParamsStand}
use Rattle.first_form.specs.Tables.{is_noted}
use Rattle.first_form.proofs.NameTables.{contains_noted, noted_contained}

pub params_stand : (items params : List (List ℕ)) → AllDifferent params → list_any (λ p. is_noted p items) params ≡ false → ParamsStand items params
params_stand items params d none = record {
  different = d;
  local = λ k p h c. let yes_noted = list_any_at (λ q. is_noted q items) params k p h (noted_contained (get_or params k p) items c) in cc;
}

pub params_clash : (items params : List (List ℕ)) → list_any (λ p. is_noted p items) params ≡ true → ParamsStand items params → ⊥
params_clash items params some s =
    let w = Any-from_list_any (λ p. is_noted p items) params some in
    s.local w.0 w.1 w.2 (subst (λ x. Contains items x) (sym w.3) (contains_noted w.1 items w.4))
