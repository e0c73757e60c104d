-- What a grammar spells is what its rule spells over what it spells one level deeper.
use Rattle.std.proofs.Common.{ℕ, zero, suc, List, [], ◌∷◌, inl, inr}
use Rattle.reading.specs.Row.{Row}
use Rattle.reading.specs.Language.{Language, Many}
use Rattle.grammars.specs.Grammar.{Lexicon, Rule, empty, token, map, sequence, split, choice, repeat, stages, brackets, Grammar, stage}
use Rattle.grammars.specs.Spelled.{InStages, SpellsWith, SpellsUpTo, Spells}

many_wider : {T A : Type 0} (P Q : Language T A) → ((a : A) (row : Row T) → P a row → Q a row) → (xs : List A) (row : Row T) → Many P xs row → Many Q xs row
many_wider P Q h [] row e = e
many_wider P Q h (x ∷ xs) row (u, v, e, s, t) = (u, v, e, h x u s, many_wider P Q h xs v t)

stages_wider : {T A : Type 0} (last : ℕ) (rank : A → ℕ) (P Q : ℕ → Language T A) → ((k : ℕ) (a : A) (row : Row T) → P k a row → Q k a row) → (k : ℕ) (xs : List A) (row : Row T)
    → InStages last rank P k xs row → InStages last rank Q k xs row
stages_wider last rank P Q h k [] row e = e
stages_wider last rank P Q h k (x ∷ xs) row (u, v, e, s, t) = (u, v, e, h k x u s, stages_wider last rank P Q h (stage last (rank x)) xs v t)

-- a level that holds both
abbrev join : ℕ → ℕ → ℕ
join zero l = l
join (suc k) l = suc (join k l)

many_gather : {T A : Type 0} (P : Language T A) (Q : ℕ → Language T A) → ((k l : ℕ) (a : A) (row : Row T) → Q k a row → Q (join k l) a row) → ((k l : ℕ) (a : A) (row : Row T) → Q l a row → Q (join k l) a row)
    → ((a : A) (row : Row T) → P a row → (l : ℕ) × Q l a row) → (xs : List A) (row : Row T) → Many P xs row → (l : ℕ) × Many (Q l) xs row
many_gather P Q one two h [] row e = (0, e)
many_gather P Q one two h (x ∷ xs) row (u, v, e, s, t) =
    let a = h x u s in
    let b = many_gather P Q one two h xs v t in
    (join a.0 b.0, (u, v, e, one a.0 b.0 x u a.1, many_wider (Q b.0) (Q (join a.0 b.0)) (two a.0 b.0) xs v b.1))

module _ {T A : Type 0} (last : ℕ) (rank : A → ℕ) (P : ℕ → Language T A) (Q : ℕ → ℕ → Language T A) (one : (k l s : ℕ) (a : A) (row : Row T) → Q k s a row → Q (join k l) s a row)
    (two : (k l s : ℕ) (a : A) (row : Row T) → Q l s a row → Q (join k l) s a row) (h : (s : ℕ) (a : A) (row : Row T) → P s a row → (l : ℕ) × Q l s a row) where
  stages_gather : (s : ℕ) (xs : List A) (row : Row T) → InStages last rank P s xs row → (l : ℕ) × InStages last rank (Q l) s xs row
  stages_gather s [] row e = (0, e)
  stages_gather s (x ∷ xs) row (u, v, e, w, t) =
      let a = h s x u w in
      let b = stages_gather (stage last (rank x)) xs v t in
      (join a.0 b.0, (u, v, e, one a.0 b.0 s x u a.1, stages_wider last rank (Q b.0) (Q (join a.0 b.0)) (two a.0 b.0) (stage last (rank x)) xs v b.1))

module _ {T N : Type 0} {Tree : N → Type 0} (lexicon : Lexicon T) where
  wider : {A : Type 0} (d : ℕ) (P Q : (n : N) → Language T (Tree n)) → ((n : N) (x : Tree n) (row : Row T) → P n x row → Q n x row)
      → (r : Rule T N Tree A) → (a : A) (row : Row T) → SpellsWith lexicon d P r a row → SpellsWith lexicon d Q r a row
  wider d P Q h (empty a) b row s = s
  wider d P Q h (token k f) b row s = s
  wider d P Q h (map f p) b row (a, s, e) = (a, wider d P Q h p a row s, e)
  wider d P Q h (sequence f p q) c row (a, u, v, e, s, (b, t, is)) = (a, u, v, e, wider d P Q h p a u s, (b, wider d P Q h q b v t, is))
  wider d P Q h (split last way f p rules) c row (a, u, v, e, s, (b, t, is)) = (a, u, v, e, wider d P Q h p a u s, (b, wider d P Q h (rules (stage last (way a))) b v t, is))
  wider d P Q h (choice p q) a row (inl s) = inl (wider d P Q h p a row s)
  wider d P Q h (choice p q) a row (inr s) = inr (wider d P Q h q a row s)
  wider d P Q h (repeat p) xs row s = many_wider (SpellsWith lexicon d P p) (SpellsWith lexicon d Q p) (wider d P Q h p) xs row s
  wider d P Q h (stages last rank rules) xs row s =
      stages_wider last rank (λ k. SpellsWith lexicon d P (rules k)) (λ k. SpellsWith lexicon d Q (rules k)) (λ k. wider d P Q h (rules k)) 0 xs row s
  wider d P Q h (brackets opens closes n) x row (t, u, v, e, s, (y, k, l, e2, inside, shut)) = (t, u, v, e, s, (y, k, l, e2, h n y k inside, shut))

  module _ (g : Grammar T N Tree) where
    one_more : (l d : ℕ) (n : N) (x : Tree n) (row : Row T) → SpellsUpTo lexicon g l d n x row → SpellsUpTo lexicon g (suc l) d n x row
    one_more zero d n x row s = absurd s
    one_more (suc l) d n x row s = wider d (SpellsUpTo lexicon g l (suc d)) (SpellsUpTo lexicon g (suc l) (suc d)) (one_more l (suc d)) (g n) x row s

    join_one : (k l d : ℕ) (n : N) (x : Tree n) (row : Row T) → SpellsUpTo lexicon g k d n x row → SpellsUpTo lexicon g (join k l) d n x row
    join_one zero l d n x row s = absurd s
    join_one (suc k) l d n x row s = wider d (SpellsUpTo lexicon g k (suc d)) (SpellsUpTo lexicon g (join k l) (suc d)) (join_one k l (suc d)) (g n) x row s

    join_two : (k l d : ℕ) (n : N) (x : Tree n) (row : Row T) → SpellsUpTo lexicon g l d n x row → SpellsUpTo lexicon g (join k l) d n x row
    join_two zero l d n x row s = s
    join_two (suc k) l d n x row s = one_more (join k l) d n x row (join_two k l d n x row s)

    abbrev UpTo : {A : Type 0} → ℕ → Rule T N Tree A → ℕ → Language T A
    UpTo d r l = SpellsWith lexicon d (SpellsUpTo lexicon g l (suc d)) r

    wide_one : {A : Type 0} (d : ℕ) (r : Rule T N Tree A) (k l : ℕ) (a : A) (row : Row T) → UpTo d r k a row → UpTo d r (join k l) a row
    wide_one d r k l a row s = wider d (SpellsUpTo lexicon g k (suc d)) (SpellsUpTo lexicon g (join k l) (suc d)) (join_one k l (suc d)) r a row s

    wide_two : {A : Type 0} (d : ℕ) (r : Rule T N Tree A) (k l : ℕ) (a : A) (row : Row T) → UpTo d r l a row → UpTo d r (join k l) a row
    wide_two d r k l a row s = wider d (SpellsUpTo lexicon g l (suc d)) (SpellsUpTo lexicon g (join k l) (suc d)) (join_two k l (suc d)) r a row s

    gather : {A : Type 0} (d : ℕ) (r : Rule T N Tree A) (a : A) (row : Row T) → SpellsWith lexicon d (Spells lexicon g (suc d)) r a row → (l : ℕ) × UpTo d r l a row
    gather d (empty a) b row s = (0, s)
    gather d (token k f) b row s = (0, s)
    gather d (map f p) b row (a, s, e) = let w = gather d p a row s in (w.0, (a, w.1, e))
    gather d (sequence f p q) c row (a, u, v, e, s, (b, t, is)) =
        let i = gather d p a u s in
        let j = gather d q b v t in
        (join i.0 j.0, (a, u, v, e, wide_one d p i.0 j.0 a u i.1, (b, wide_two d q i.0 j.0 b v j.1, is)))
    gather d (split last way f p rules) c row (a, u, v, e, s, (b, t, is)) =
        let i = gather d p a u s in
        let j = gather d (rules (stage last (way a))) b v t in
        (join i.0 j.0, (a, u, v, e, wide_one d p i.0 j.0 a u i.1, (b, wide_two d (rules (stage last (way a))) i.0 j.0 b v j.1, is)))
    gather d (choice p q) a row (inl s) = let w = gather d p a row s in (w.0, inl w.1)
    gather d (choice p q) a row (inr s) = let w = gather d q a row s in (w.0, inr w.1)
    gather d (repeat p) xs row s = many_gather (SpellsWith lexicon d (Spells lexicon g (suc d)) p) (UpTo d p) (wide_one d p) (wide_two d p) (gather d p) xs row s
    gather d (stages last rank rules) xs row s =
        stages_gather last rank (λ k. SpellsWith lexicon d (Spells lexicon g (suc d)) (rules k)) (λ l k. UpTo d (rules k) l) (λ i j k. wide_one d (rules k) i j) (λ i j k. wide_two d (rules k) i j) (λ k. gather d (rules k)) 0 xs row s
    gather d (brackets opens closes n) x row (t, u, v, e, s, (y, k, l, e2, (level, inside), shut)) = (level, (t, u, v, e, s, (y, k, l, e2, inside, shut)))

    pub to_symbol : (d : ℕ) (n : N) (x : Tree n) (row : Row T) → SpellsWith lexicon d (Spells lexicon g (suc d)) (g n) x row → Spells lexicon g d n x row
    to_symbol d n x row s = let w = gather d (g n) x row s in (suc w.0, w.1)

    pub from_symbol : (d : ℕ) (n : N) (x : Tree n) (row : Row T) → Spells lexicon g d n x row → SpellsWith lexicon d (Spells lexicon g (suc d)) (g n) x row
    from_symbol d n x row (zero, s) = absurd s
    from_symbol d n x row (suc l, s) = wider d (SpellsUpTo lexicon g l (suc d)) (Spells lexicon g (suc d)) (λ m y r t. (l, t)) (g n) x row s
