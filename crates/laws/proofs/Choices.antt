-- Which way a choice goes.
use Prim.Native.Nat.{ℕ, ◌<◌, ◌≤◌}
use mathlib.Core.Path.{◌≡◌}
use borrow.Author.Tests.{lt-ltb, le-ltb, eq-eqb, ne_eqb}
use Rattle.laws.specs.Choose.{if_lt, if_eq}

module _ {A : Type 0} (x y : A) where
  pub if_lt_yes : {a b : ℕ} → a < b → if_lt a b x y ≡ x
  if_lt_yes h = rw (lt-ltb _ _ h)

  pub if_lt_no : {a b : ℕ} → b ≤ a → if_lt a b x y ≡ y
  if_lt_no h = rw (le-ltb _ _ h)

  pub if_eq_yes : {a b : ℕ} → a ≡ b → if_eq a b x y ≡ x
  if_eq_yes h = rw (eq-eqb _ _ h)

  pub if_eq_no : {a b : ℕ} → (a ≡ b → ⊥) → if_eq a b x y ≡ y
  if_eq_no h = rw (ne_eqb _ _ h)
