-- The next element of a list whose cursor crossed as numbers, and what the entry leaves then.
use Rattle.std.specs.Prelude.{Option, Result}
use Rattle.answers.specs.declared.Refusal.{Refusal}
use Prim.Native.Nat.{ℕ}
use mathlib.Core.Path.{◌≡◌, sym, ◌∙◌, ap}
use mathlib.Core.Bool.{Bool}
use mathlib.Core.List.{List}
use Rattle.chains.specs.declared.Chain.{Chain}
use Rattle.chains.specs.declared.Feature.{Feature}
use Rattle.chains.specs.declared.Subtable.{Subtable}
use Rattle.chains.specs.Orders.{order_of, is_reversed}
use Rattle.chains.specs.Entries.{chain_call, feature_call, subtable_call}
use Rattle.chains.specs.declared.Edition.{Edition}
use Rattle.chains.specs.declared.Cursor.{Cursor}
use Rattle.chains.specs.declared.Order.{Order}
use Rattle.firmware.specs.Steps.{is_flag, flag_number}
use Rattle.firmware.specs.Cursors.{cursor_from, chain_after, feature_after, subtable_after, reversed_number}

-- the reply, once its variant is known
module _ (table slots : List ℕ) {given : Cursor} (g : given ≡ cursor_from slots) where
  pub feature_after_lem : {reply known : (Result (Option Feature) Refusal)} → reply ≡ feature_call table given → reply ≡ known → known ≡ feature_after table slots
  unfolding feature_after
  feature_after_lem e k = sym k ∙ e ∙ ap (feature_call table) g

module _ (edition : Edition) (table slots : List ℕ) {given : Cursor} (g : given ≡ cursor_from slots) where
  pub chain_after_lem : {reply known : (Result (Option Chain) Refusal)} → reply ≡ chain_call edition table given → reply ≡ known → known ≡ chain_after edition table slots
  unfolding chain_after
  chain_after_lem e k = sym k ∙ e ∙ ap (chain_call edition table) g

  pub subtable-after : {reply known : (Result (Option Subtable) Refusal)} → reply ≡ subtable_call edition table given → reply ≡ known → known ≡ subtable_after edition table slots
  unfolding subtable_after
  subtable-after e k = sym k ∙ e ∙ ap (subtable_call edition table) g

pub leaves : {Reply : Type 0} (of : Reply → List ℕ → List ℕ) (was : List ℕ) {known whole : Reply} → known ≡ whole → {left : List ℕ} → left ≡ of known was
    → left ≡ of whole was
leaves {Reply} of was e l = l ∙ ap (λ (reply : Reply). of reply was) e

pub reversed_is : (coverage right_to_left : ℕ) {order : Order} {flag known : Bool} → order ≡ order_of coverage → flag ≡ is_reversed order (is_flag right_to_left)
    → flag ≡ known → flag_number known ≡ reversed_number coverage right_to_left
unfolding reversed_number
reversed_is coverage right_to_left o f k = ap flag_number (sym k ∙ f ∙ ap (λ (x : Order). is_reversed x (is_flag right_to_left)) o)
