-- More bytes behind a subtable of kerx format 1 change nothing for its pass where no read fails without them.
use Rattle.std.specs.Prelude.{Option, Some, None, Result, Ok, Err}
use Prim.Native.Nat.{ℕ, ◌%◌}
use mathlib.Core.Path.{◌≡◌, refl, ◌∙◌}
use mathlib.Core.Bool.{true, false}
use mathlib.Core.List.{List, []}
use native.Mathlib.Omega.{arith}
use lib.Dec.{ltb, eqb}
use Rattle.parse.proofs.Behind.{Begins, Stays, begins_from, choice_stays, read_u32_stays, u32_used, on_u32_stays}
use Rattle.tables.specs.declared.units.Reading.{Reading}
use Rattle.tables.specs.declared.units.Reading.TheVariants.{Crate, Manual}
use Rattle.state_tables.specs.declared.States.{States}
use Rattle.state_tables.proofs.Behind.{head_stays}
use Rattle.kerning.specs.Heads.{barred}
use Rattle.kerning.specs.declared.heads.Unready.{Unready}
use Rattle.kerning.specs.declared.heads.Unready.TheVariants.{Short, Tupled}
use Rattle.kerning_machine.specs.Machine as Kerning'
use Rattle.kerning_machine.specs.declared.Kerning.{Kerning}
use Rattle.kerning_machine.proofs.Behind.{pass_stays}
use Rattle.kerx_machine.specs.Inside.{MachineInside}
use Rattle.kerx_machine.specs.Machine.{tuples_of, body_of, on_made, has_tuples, is_tupled, opened_any, opened, worked}

-- what is made of a state table
made-used : (made made' : Option States) → Stays None made made' → (f g : States → Result Kerning Unready) → ((states : States) → Stays (Err Short) (f states) (g states))
    → Stays (Err Short) (on_made made f) (on_made made' g)
made-used (Some states) made' e f g same not = rw (e (λ p. cc)) (same states not)
made-used None made' e f g same not = absurd (not refl)

module _ {own whole : List ℕ} (b : Begins own whole) where
  tuples_stay : (version : ℕ) → Stays None (tuples_of own version) (tuples_of whole version)
  unfolding tuples_of
  tuples_stay version = choice_stays (ltb version 4) (λ not. refl) (read_u32_stays b 8)

  opened_stays : (version : ℕ) (reading : Reading) → Stays (Err Short) (opened_any own version reading) (opened_any whole version reading)
  unfolding opened_any
  opened_stays version reading =
      on_u32_stays b 4 _ _
      (λ coverage. u32_used (tuples_of own version) (tuples_of whole version) (tuples_stay version) _ _
      (λ tuples. choice_stays (eqb (coverage % 256) 1)
      (made-used _ _ (head_stays (begins_from 12 b) reading) _ _ (λ states. on_u32_stays (begins_from 12 b) 16 _ _ (λ values not. refl)))
      (λ not. refl)))

  -- whether it has tuples, by a head that was read
  pub tupled_stays : (version : ℕ) (reading : Reading) → (tuples_of own version ≡ None → ⊥) → is_tupled whole version reading ≡ is_tupled own version reading
  unfolding is_tupled has_tuples
  tupled_stays version Crate not = refl
  tupled_stays version Manual not = rw (tuples_stay version not)

  pub machine_stays : (version : ℕ) (glyphs : List ℕ) (used : ℕ) (reading : Reading) → (tuples_of own version ≡ None → ⊥)
      → is_tupled own version reading ≡ false → MachineInside own version glyphs used reading
      → worked whole version glyphs used reading ≡ worked own version glyphs used reading
  unfolding worked opened barred Kerning'.worked_by
  machine_stays version glyphs used reading not t inside =
      let e = inside.opens in
      let f : opened_any whole version reading ≡ Ok inside.machine = opened_stays version reading (λ p. cc) ∙ e in
      rw (tupled_stays version reading not, t, e, f, worked, opened, barred, Kerning'.worked_by)
      (pass_stays (begins_from 12 b) inside.machine glyphs used inside.steps)

-- one whose tuples are refused adds nothing
pub tupled_adds_nothing : (bytes : List ℕ) (version : ℕ) (glyphs : List ℕ) (used : ℕ) (reading : Reading) → is_tupled bytes version reading ≡ true
    → (worked bytes version glyphs used reading).additions ≡ []
unfolding worked opened barred Kerning'.worked_by
tupled_adds_nothing bytes version glyphs used reading t = go (opened_any bytes version reading)
  where
    go : (o : Result Kerning Unready) → (Kerning'.worked_by (body_of bytes) (barred (is_tupled bytes version reading) o) glyphs used).additions ≡ []
    go (Ok kerning) = rw t
    go (Err Short) = rw t
    go (Err Tupled) = rw t
