-- Constants below 256 are int constants, and as arguments for parameters of uint8_t keep their value.
use Rattle.std.proofs.Common.{◌≡◌, ℕ, pos, ◌<◌, ◌^◌, Bool, true, false, List, [], ◌∷◌, map, length, Option, Some, Result, Ok, refl, ◌∙◌, ap, arith}
use Rattle.std.specs.Prelude.{All, replicate, if◌then◌else◌}
use Rattle.std.specs.Prelude.{leb}
use Rattle.std.proofs.lemmas.Bool.{le-leb}
use Rattle.std.proofs.Math.Nat.{mod-eq_of_lt}
use Rattle.std.proofs.lemmas.List.Elements.{All-head, All-tail}
use Rattle.iv_words.specs.declared.IntKind.TheVariants.{U8}
use Rattle.c_ast.specs.declared.Target.{Target}
use Rattle.c_ast.specs.declared.Target.TheVariants.{T32}
use Rattle.c_ast.specs.declared.CScalar.TheVariants.{Int}
use Rattle.c_ast.specs.declared.Arith.{Arith}
use Rattle.c_ast.specs.declared.Arith.TheVariants.{Int as int}
use Rattle.c_ast.specs.declared.CKind.TheVariants.{Scalar, Arith as Computed}
use Rattle.c_ast.specs.declared.CType.TheVariants.{Value}
use Rattle.c_ast.specs.declared.Suffix.TheVariants.{Plain}
use Rattle.c_ast.specs.Syntax.{TranslationUnit}
use Rattle.c_meaning.specs.Values.{Trouble, CValue, Num, on_ok, constant_value, as_assigned, as_arguments, of_type}
use Rattle.c_meaning.specs.State.{Program, program_of, CState}
use Rattle.c_meaning.specs.Expressions.{eval_all}
use Rattle.c_lower.specs.Lowered.{constant_for}

abbrev pub int_value : ℕ → CValue
int_value v = Num (Computed int) (pos v)

abbrev pub byte_value : ℕ → CValue
byte_value v = Num (Scalar (Int U8)) (pos v)

int_first : (b : Bool) (rest : Option Arith) (v : ℕ) → b ≡ true → of_type (if b then Some int else rest) v ≡ Ok (int_value v)
int_first true rest v e = refl
int_first false rest v e = let no : ⊥ = cc in absurd no

pub constant_is : (target : Target) (v : ℕ) → v < 2 ^ 8 → constant_value target Plain v ≡ Ok (int_value v)
constant_is T32 v small = int_first (leb v 2147483647) _ v (le-leb v 2147483647 (omega (arith, small)))

pub assigned_is : (target : Target) (v : ℕ) → v < 2 ^ 8 → as_assigned target (Value (Int U8)) (int_value v) ≡ Ok (byte_value v)
assigned_is target v small = ap (λ n. let r : Result CValue Trouble = Ok (Num (Scalar (Int U8)) (pos n)) in r) (mod-eq_of_lt small)

abbrev Small : ℕ → Type 0
Small v = v < 2 ^ 8

module _ (unit : TranslationUnit) (target : Target) (s : CState) where
  abbrev program : Program
  program = program_of unit target

  pub constants_are : (vs : List ℕ) → All Small vs → eval_all program (map constant_for vs) s ≡ Ok (map int_value vs)
  constants_are [] small = refl
  constants_are (v ∷ vs) small =
      ap (λ r. on_ok r (λ a. on_ok (eval_all program (map constant_for vs) s) (λ rest. let q : Result (List CValue) Trouble = Ok (a ∷ rest) in q))) (constant_is target v (All-head Small v vs small))
      ∙ ap (λ r. on_ok r (λ rest. let q : Result (List CValue) Trouble = Ok (int_value v ∷ rest) in q)) (constants_are vs (All-tail Small v vs small))

pub arguments_are : (target : Target) (vs : List ℕ) → All Small vs → as_arguments target (replicate (length vs) (Value (Int U8))) (map int_value vs) ≡ Ok (map byte_value vs)
arguments_are target [] small = refl
arguments_are target (v ∷ vs) small =
    ap (λ r. on_ok r (λ a. on_ok (as_arguments target (replicate (length vs) (Value (Int U8))) (map int_value vs)) (λ rest. let q : Result (List CValue) Trouble = Ok (a ∷ rest) in q))) (assigned_is target v (All-head Small v vs small))
    ∙ ap (λ r. on_ok r (λ rest. let q : Result (List CValue) Trouble = Ok (byte_value v ∷ rest) in q)) (arguments_are target vs (All-tail Small v vs small))
