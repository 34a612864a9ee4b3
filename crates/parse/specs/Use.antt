-- What is made of a number that was read, or else.
use Rattle.std.specs.Prelude.{ℕ, Option, Some, None}

abbrev pub on_u16 : {A : Type 0} → Option ℕ → (ℕ → A) → A → A
on_u16 (Some n) use-it otherwise = use-it n
on_u16 None use-it otherwise = otherwise

abbrev pub on_u32 : {A : Type 0} → Option ℕ → (ℕ → A) → A → A
on_u32 (Some n) use-it otherwise = use-it n
on_u32 None use-it otherwise = otherwise
