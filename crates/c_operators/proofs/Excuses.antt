-- What is given goes on: with more excuses, and through what follows.
use Rattle.std.proofs.Common.{◌≡◌, Result, Ok, Err, sym, subst, ap}
use Rattle.c_meaning.specs.Values as meaning
use Rattle.c_meaning.specs.Values.{on_ok}
use Rattle.c_operators.specs.declared.values.Trouble.{Trouble}
use Rattle.c_operators.specs.declared.values.Trouble.TheVariants.{Undefined, Stuck, Memory}
use Rattle.c_operators.specs.Values.{Gives, Never}

-- where nothing is excused, anything may be
pub excused : {A B : Type 0} (excuse : Type 0) (view : A → B) (said : Result B meaning.Trouble) (r : Result A Trouble) → Gives Never view said r → Gives excuse view said r
excused excuse view said (Ok a) g = g
excused excuse view said (Err (Undefined reason)) g = g
excused excuse view said (Err Stuck) g = g
excused excuse view said (Err Memory) g = absurd g

-- a trouble of the first part is that of the whole
pub passed_on : {A B C D : Type 0} (excuse : Type 0) (view : A → B) (wide : C → D) (said : Result B meaning.Trouble) (next : B → Result D meaning.Trouble) (trouble : Trouble)
    → Gives excuse view said (Err trouble) → Gives excuse wide (on_ok said next) (Err trouble)
passed_on excuse view wide said next (Undefined reason) g = ap (λ s. on_ok s next) g
passed_on excuse view wide said next Stuck g = ap (λ s. on_ok s next) g
passed_on excuse view wide said next Memory g = g

-- after a value of the first part comes what follows it
pub goes_on : {A B C D : Type 0} (excuse : Type 0) (view : A → B) (wide : C → D) (said : Result B meaning.Trouble) (next : B → Result D meaning.Trouble) (a : A) (r : Result C Trouble)
    → said ≡ Ok (view a) → Gives excuse wide (next (view a)) r → Gives excuse wide (on_ok said next) r
goes_on excuse view wide said next a r e g = subst (λ s. Gives excuse wide (on_ok s next) r) (sym e) g
