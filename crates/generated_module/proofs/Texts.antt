-- One text more.
use Rattle.std.proofs.Common.{◌≡◌, sym, ◌∙◌, ap, ℕ, suc, ◌+◌, List, ◌++◌, append_assoc, arith}
use Rattle.generated_module.specs.Generated.{texts_below}

pub one_more : (text : ℕ → List ℕ) (before : List ℕ) (i : ℕ) → before ++ texts_below text (i + 1) ≡ (before ++ texts_below text i) ++ text i
one_more text before i =
    let next : i + 1 ≡ suc i = omega arith in
    ap (λ n. before ++ texts_below text n) next ∙ sym (append_assoc before (texts_below text i) (text i))
