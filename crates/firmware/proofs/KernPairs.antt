-- A pair's number is one of 16 bits, whichever subtable it comes from.
use Rattle.std.specs.Prelude.{Option, Some, None, Result, Ok, Err}
use Rattle.tables.specs.declared.lookup.Why.{Why}
use Prim.Native.Nat.{ℕ}
use mathlib.Core.Path.{◌≡◌, sym, ◌∙◌, ap, subst}
use mathlib.Core.Bool.{Bool, true, false, cond}
use mathlib.Core.List.{List, [], ◌∷◌}
use native.Mathlib.Omega.{arith}
use lib.Dec.{eqb}
use lib.IntN.{ℤ}
use lib.ListN.{length, drop}
use mir.Syntax.{w16, w32}
use mir.Val.{SFits, to_z, of_z}
use mir.Facts.{to_z-of_z}
use Rattle.laws.specs.Choose.{if_eq}
use Rattle.answers.specs.Numbers.{number_of}
use Rattle.answers.specs.Refuse.{refuse, table_test}
use Rattle.answers.specs.declared.Refusal.{Refusal}
use Rattle.tables.specs.declared.units.Reading.TheVariants.{Crate}
use Rattle.pairs.specs.Pairs as Pairs
use Rattle.pairs.specs.Pairs.{ordered_kern, ordered_kerx, classes_kerx}
use Rattle.pairs.specs.Reply.{answer_of, value_of, number_reply, reply_of, checked_pair}
use Rattle.pairs.specs.declared.PairTable.{PairTable}
use Rattle.kerning.specs.declared.heads.Unready.{Unready}
use Rattle.pairs.specs.Work.{Sized}
use Rattle.pairs.proofs.Passes.{sized}
use Rattle.kerning_lists.specs.Walk.{on_head}
use Rattle.kerning_lists.specs.declared.Subtable.{Subtable}
use Rattle.kern_machine.specs.Machine.{head_size}
use Rattle.kerning_lists.specs.Family.{Family, pair_in, pair_call}
use Rattle.kern.specs.Kern as Kern
use Rattle.kern.specs.Kern.{kern}
use Rattle.kerx.specs.Kerx as Kerx
use Rattle.kerx.specs.Kerx.{kerx}
use Rattle.firmware.specs.Small.{IsSmall}

record Small (reply : Result (Result ℤ Why) Refusal) : Type 0 where
  small : IsSmall reply

small_refused : {why : Refusal} → Small (Err why)
small_refused = record { small = tt }

small-number : (number : Result ℤ Why) → Sized number → Small (number_reply number)
small-number (Ok z) s = record { small = s.sfits }
small-number (Err why) s = record { small = tt }

small-reply : (bytes : List ℕ) (opened : Result PairTable Unready) (left right : ℕ) → Small (reply_of bytes opened left right)
unfolding reply_of
small-reply bytes (Ok pairs) left right = small-number (Pairs.pair_number bytes pairs left right) (sized bytes pairs left right)
small-reply bytes (Err why) left right = small_refused

small_if : (a b : ℕ) {yes no : (Result (Result ℤ Why) Refusal)} → Small yes → Small no → Small (if_eq a b yes no)
small_if a b {yes} {no} y n = go (eqb a b)
  where
    go : (t : Bool) → Small (cond t yes no)
    go true = y
    go false = n

small-head : (head : Option Subtable) {of : Subtable → (Result (Result ℤ Why) Refusal)} {none : (Result (Result ℤ Why) Refusal)} → ((s : Subtable) → Small (of s)) → Small none → Small (on_head head of none)
small-head (Some s) a n = a s
small-head None a n = n

small-checked : (check : Result Unit Refusal) {reply : (Result (Result ℤ Why) Refusal)} → Small reply → Small (checked_pair check reply)
small-checked (Ok tt) s = s
small-checked (Err why) s = small_refused

small_call : (family : Family) → ((bytes : List ℕ) (version format left right : ℕ) → Small (family.pair_by bytes version format left right))
    → (table : List ℕ) (start version left right : ℕ) → IsSmall (pair_call family table start version left right)
unfolding pair_call pair_in
small_call family small table start version left right =
    (small-checked (refuse (table_test (length table) ∷ []))
    (small-head (family.head_in false version 0 (drop start table)) (λ s. small (drop start table) version s.format left right) small_refused)).small

small-kern : (bytes : List ℕ) (version format left right : ℕ) → Small (Kern.pair_by bytes version format left right)
unfolding Kern.pair_by
small-kern bytes version format left right = small_if format 0 (small-reply bytes (ordered_kern bytes (head_size version)) left right) small_refused

small-kerx : (bytes : List ℕ) (version format left right : ℕ) → Small (Kerx.pair_by bytes version format left right)
unfolding Kerx.pair_by
small-kerx bytes version format left right =
    small_if format 0 (small-reply bytes (ordered_kerx bytes) left right)
    (small_if format 2 (small-reply bytes (classes_kerx bytes Crate) left right) small_refused)

pub kern-small : (table : List ℕ) (start version left right : ℕ) → IsSmall (pair_call kern table start version left right)
kern-small = small_call kern small-kern

pub kerx-small : (table : List ℕ) (start version left right : ℕ) → IsSmall (pair_call kerx table start version left right)
kerx-small = small_call kerx small-kerx

-- the number put where it was lent: widened from 16 bits to 32, it is the same
module _ {reply : (Result (Result ℤ Why) Refusal)} {z : ℤ} (s : IsSmall reply) (e : reply ≡ Ok (Ok z)) where
  fits : SFits w16 z
  fits = record { sfits = subst IsSmall e s }

  pub pair_widens : SFits w32 (to_z w16 (of_z w16 z))
  pair_widens = rw (to_z-of_z fits) (record { sfits = omega (arith, fits.sfits) })

  pub pair_answered : 0 ≡ number_of (answer_of reply)
  pair_answered = rw e

  pub pair_put : (was : ℤ) → to_z w32 (of_z w32 (to_z w16 (of_z w16 z))) ≡ value_of reply was
  pair_put was = to_z-of_z pair_widens ∙ to_z-of_z fits ∙ ap (λ (r : Result (Result ℤ Why) Refusal). value_of r was) (sym e)
