-- What a lone step has that its tests pass.
use Rattle.std.specs.Prelude.{Option, Some, None, Result, Ok}
use Prim.Native.Nat.{ℕ, ◌+◌, ◌^◌, ◌<◌, ◌≤◌}
use mathlib.Core.Path.{◌≡◌, refl, sym, ◌∙◌, ap}
use mathlib.Core.Bool.{Bool, true, false, cond}
use mathlib.Core.List.{List}
use native.Mathlib.Omega.{arith}
use lib.ListN.{length, drop, length-drop}
use borrow.Author.Tests.{ltb-false}
use Rattle.answers.proofs.Refusals.{passed_here, passed_later}
use Rattle.answers.specs.Limits as Limits
use Rattle.answers.specs.Refuse.{refuse, table_test}
use Rattle.answers.specs.declared.Refusal.{Refusal}
use Rattle.parse.specs.Reads.{inside, read_u32}
use Rattle.parse.specs.Use.{on_u32}
use Rattle.parse.proofs.Laws.{inside-fits}
use Rattle.state_tables.specs.declared.States.{States}
use Rattle.state_tables.specs.States.{extended_at}
use Rattle.machine.specs.Head.{has_kind, body_of}
use Rattle.machine.specs.Call as Call'
use Rattle.machine.specs.Call.{is_ready, head_test, place_test, step_tests}
use Rattle.insertion.specs.Calls.{opened, state_tests, room_tests}
use Rattle.insertion.specs.declared.InsertionState.{InsertionState}

-- what a step that is not refused has of its length, room and index
pub record Told (n len room index : ℕ) : Type 0 where
  pub short : n ≤ Limits.table_limit
  pub limited : room ≤ Limits.room_limit
  pub within : len ≤ room
  pub at : index ≤ len

pub step_told : (n len room index : ℕ) (s : InsertionState) (made : Option States) {r : (Result Unit Refusal)} → r ≡ refuse (step_tests n (room_tests len room) len index (state_tests s len) made) → r ≡ Ok tt
    → Told n len room index
unfolding step_tests room_tests place_test table_test
step_told n len room index s made e f =
    let first = passed_later (table_test n) _ (sym e ∙ f) in
    let second = passed_later _ _ first in
    let third = passed_later _ _ second in
    record {
      short = ltb-false _ _ (passed_here (table_test n) _ (sym e ∙ f));
      limited = ltb-false _ _ (passed_here _ _ first);
      within = ltb-false _ _ (passed_here _ _ second);
      at = ltb-false _ _ (passed_here _ _ third);
    }

-- a subtable that can be opened has its head in the bytes
opened-head : (bytes : List ℕ) {states : States} → opened bytes ≡ Some states → 12 ≤ length bytes
unfolding opened Call'.opened has_kind
opened-head bytes {states} e = go (read_u32 (body_of bytes) 16) (inside bytes 0 12) refl e
  where
    go : (r : Option ℕ) (t : Bool) → inside bytes 0 12 ≡ t
        → on_u32 r (λ glyphs. cond (has_kind bytes 5) (extended_at (body_of bytes)) None) None ≡ Some states → 12 ≤ length bytes
    go r true i p = omega (arith, inside-fits bytes 0 12 i)
    go (Some glyphs) false i p =
        let q : has_kind bytes 5 ≡ false = rw i in
        let z : ◌≡◌ {A = ℕ} 0 1 = cc in absurd (omega arith)
    go None false i p = let z : ◌≡◌ {A = ℕ} 0 1 = cc in absurd (omega arith)

-- so what lies in its body lies in the table, behind the start and the head, and can be counted from the table's beginning
module _ (table : List ℕ) (start : ℕ) {bytes body : List ℕ} {made : (Option States)} {states : States} (short : length table ≤ Limits.table_limit)
    (b : bytes ≡ drop start table) (m : made ≡ opened bytes) (r : made ≡ Some states) (d : body ≡ drop 12 bytes) where
  behind : start + 12 + length body < 2 ^ 63
  unfolding Limits.table_limit
  behind =
      let h = opened-head bytes (sym m ∙ r) in
      omega (arith, h, ap length b, length-drop start table, ap length d, length-drop 12 bytes)

  pub start_fits : start + 12 < 2 ^ 64
  start_fits = omega (arith, behind)

  pub list-fits : (n : ℕ) → n ≤ length body → start + 12 + n < 2 ^ 63
  list-fits n h = omega (arith, behind)
