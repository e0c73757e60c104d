-- Bit data of a module: the layout, the kind of its word in C, and where a field is.
use Rattle.std.proofs.Common.{◌≡◌, ℕ, Option, Some, None, refl, sym, ◌∙◌, ap, subst}
use Rattle.std.specs.Prelude.{slice_get}
use Rattle.std.specs.Option.{option_map, option_and_then}
use Rattle.std.proofs.lemmas.Option.{slice_get-map, get_or_from_slice_get, slice_get_within}
use Rattle.std.proofs.lemmas.List.Elements.{All-get_or}
use Rattle.bit_data.specs.Layouts.{IsLayout}
use Rattle.bit_data.specs.declared.BitLayout.{BitLayout}
use Rattle.bit_data.specs.declared.FieldBits.{FieldBits}
use Rattle.area_types.specs.Syntax.{ValueType, Bits}
use Rattle.core_tree.specs.Environments.{bit_field}
use Rattle.core_tree.specs.Syntax.{ModuleCore}
use Rattle.core_meaning.specs.Answers.{layout_of}
use Rattle.lower_types.specs.Types.{kind_of}
use Rattle.lower_values.specs.Frames.{kind_in}
use Rattle.form_answers.specs.FormLaws.{FieldIs}
use Rattle.value_refinement.specs.Settings.{Setting, Set}

-- the layout of a type of bit data, its word, and the field of that number
pub record Laid (g : Setting) (ty : ValueType) (field : ℕ) (bits : FieldBits) : Type 0 where
  pub layout : BitLayout
  pub found : layout_of g.frame.core ty ≡ Some layout
  pub word : kind_in g.frame ty ≡ Some layout.word
  pub field_is : FieldIs layout field bits

-- a field is found in a layout
pub record Within (core : ModuleCore) (number field : ℕ) (bits : FieldBits) : Type 0 where
  pub layout : BitLayout
  pub there : slice_get core.layouts number ≡ Some layout
  pub field_there : slice_get layout.fields field ≡ Some bits

within_found : (core : ModuleCore) (number field : ℕ) (bits : FieldBits) (found : Option BitLayout) → slice_get core.layouts number ≡ found → option_and_then (λ l. slice_get l.fields field) found ≡ Some bits → Within core number field bits
within_found core number field bits (Some layout) e h = record { layout = layout; there = e; field_there = h }
within_found core number field bits None e h = let no : ⊥ = cc in absurd no

pub laid_out : (g : Setting) → Set g → (ty : ValueType) (number field : ℕ) (bits : FieldBits) → ty ≡ Bits number → bit_field g.env.core number field ≡ Some bits → Laid g ty field bits
laid_out g set ty number field bits is found =
    let here = within_found g.frame.core number field bits (slice_get g.frame.core.layouts number) refl (ap (λ m. bit_field m number field) (sym set.core) ∙ found) in
    record {
      layout = here.layout;
      found = ap (layout_of g.frame.core) is ∙ here.there;
      word =
          ap (λ t. kind_of g.frame.table t) is ∙ ap (λ t. kind_of t (Bits number)) set.table ∙ ap (λ words. slice_get words number) (sym set.valid.words)
          ∙ slice_get-map (λ (x : BitLayout). x.word) g.frame.core.layouts number ∙ ap (option_map (λ (x : BitLayout). x.word)) here.there;
      field_is = record {
        laid = subst IsLayout (get_or_from_slice_get g.frame.core.layouts number here.layout here.layout here.there)
            (All-get_or IsLayout g.frame.core.layouts number here.layout (slice_get_within g.frame.core.layouts number here.layout here.there) set.valid.layouts);
        there = here.field_there;
      };
    }
