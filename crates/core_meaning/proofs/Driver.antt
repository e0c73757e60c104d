-- The driver's runs: its struct is written out once, and from there each run is computed.
use Rattle.std.proofs.Common.{◌≡◌, ℕ, [], ◌∷◌, refl, ◌∙◌, ap}
use Rattle.std.specs.Prelude.{pos, false}
use Rattle.iv_words.specs.declared.IntKind.TheVariants.{U8}
use Rattle.run_records.specs.declared.Script.{Script}
use Rattle.step_semantics.specs.Runs.{run}
use Rattle.type_trees.specs.Trees.{Leaf, Many, Struct, End, Field}
use Rattle.area_types.specs.Syntax as syntax
use Rattle.area_types.specs.Tables.{written_out}
use Rattle.area_types.specs.Trees.{Written, tree_of}
use Rattle.area_types.specs.View.{area_of}
use Rattle.area_types.specs.declared.Area.TheVariants as tree
use Rattle.area_types.specs.declared.ValueType.TheVariants as held
use Rattle.area_types.proofs.View.{stored_is, array_is, ix_is, int_is}
use Rattle.core_meaning.specs.Areas.{Live, filled}
use Rattle.core_meaning.specs.State.{State, seen, first_state}
use Rattle.core_meaning.specs.Run.{entry, run_src}
use Rattle.core_meaning.specs.DriverExamples.{DriverExamples, types, driver, u8, u16, set_up_script, whole_script, ten_zeros}

-- the struct over the areas of its fields
abbrev over : syntax.Area → syntax.Area → syntax.Area → Written
over a b c = Struct 0 (Field 0 (tree_of [] a) (Field 1 (tree_of [] b) (Field 2 (tree_of [] c) End)))

abbrev uart : Written
uart = Struct 0 (Field 0 (Leaf (syntax.Ix 8)) (Field 1 (Leaf u8) (Field 2 (Many 8 (Leaf u8)) End)))

head_is : area_of (tree.Stored (held.Ix 8)) ≡ syntax.Stored (syntax.Ix 8)
head_is = stored_is (held.Ix 8) ∙ ap syntax.Stored (ix_is 8)

byte_is : area_of (tree.Stored (held.Int U8)) ≡ syntax.Stored u8
byte_is = stored_is (held.Int U8) ∙ ap syntax.Stored (int_is U8)

buf_is : area_of (tree.Array 8 (tree.Stored (held.Int U8))) ≡ syntax.Array 8 (syntax.Stored u8)
buf_is = array_is 8 (tree.Stored (held.Int U8)) ∙ ap (syntax.Array 8) byte_is

uart_is : written_out types (syntax.Struct 0) ≡ uart
uart_is =
    ap (λ a. over a (area_of (tree.Stored (held.Int U8))) (area_of (tree.Array 8 (tree.Stored (held.Int U8))))) head_is
    ∙ ap (λ b. over (syntax.Stored (syntax.Ix 8)) b (area_of (tree.Array 8 (tree.Stored (held.Int U8))))) byte_is
    ∙ ap (λ c. over (syntax.Stored (syntax.Ix 8)) (syntax.Stored u8) c) buf_is

abbrev first_over : Written → State
first_over ty = record {
  areas = Live (record { ty = Leaf (syntax.Bits 0); constant = false; held = filled (Leaf (syntax.Bits 0)) (pos 0 ∷ []) })
      ∷ Live (record { ty = ty; constant = false; held = filled ty ten_zeros })
      ∷ Live (record { ty = Leaf u16; constant = false; held = filled (Leaf u16) (pos 0 ∷ []) }) ∷ [];
  frames = record { own = record { names = []; first = 3 }; callers = [] };
}

first_is : first_state driver ≡ first_over uart
first_is = ap first_over uart_is

runs_from : (script : Script) (n : ℕ) → run_src driver script n ≡ run (seen driver) (entry driver) (first_over uart) script n
runs_from script n = ap (λ first. run (seen driver) (entry driver) first script n) first_is

pub driver_goes : DriverExamples
driver_goes = record {
  set_up_in_five = runs_from (set_up_script 5) 5 ∙ refl;
  early = runs_from (set_up_script 5) 4 ∙ refl;
  too_wide = runs_from (set_up_script 8) 10_000 ∙ refl;
  whole = runs_from whole_script 100_000 ∙ refl;
}
