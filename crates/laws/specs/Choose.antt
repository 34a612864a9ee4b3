-- Choices by a test on numbers.
use Rattle.std.specs.Prelude.{ℕ, cond, ltb, eqb}

-- x where a is below b, else y
abbrev pub if_lt : {A : Type 0} → ℕ → ℕ → A → A → A
if_lt a b x y = cond (ltb a b) x y

-- x where a is b, else y
abbrev pub if_eq : {A : Type 0} → ℕ → ℕ → A → A → A
if_eq a b x y = cond (eqb a b) x y
