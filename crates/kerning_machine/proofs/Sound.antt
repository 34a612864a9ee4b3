-- What every step keeps: the stack's depth, few and small additions, the stall rule; and so what a pass adds is bounded.
use Rattle.std.specs.Prelude.{Option, Some, None, Result, Ok, Err}
use Rattle.state_tables.specs.declared.entries.Entry.{Entry}
use Prim.Native.Nat.{ℕ, zero, suc, ◌+◌, ◌*◌, ◌≤◌, ◌^◌}
use mathlib.Core.Path.{◌≡◌, refl, sym, subst⁻¹}
use mathlib.Core.Bool.{Bool, true, false, cond}
use mathlib.Core.List.{List, []}
use native.Mathlib.Omega.{arith}
use lib.Dec.{ltb}
use lib.IntN.{ℤ}
use lib.ListN.{length, get_or, length-append}
use Rattle.answers.specs.Limits.{room_limit}
use Rattle.answers.specs.declared.Answer.TheVariants as Answer'
use Rattle.line.proofs.Room.{room_small}
use Rattle.state_tables.specs.Entries.{entry_of}
use Rattle.machine.specs.Stall.{stalled}
use Rattle.machine.specs.Pass.{is_done}
use Rattle.kerning.specs.Additions.{add_all, Kerned, after}
use Rattle.kerning.specs.Bounds.{Within}
use Rattle.kerning.specs.Lists.{Walk}
use Rattle.kerning.specs.declared.heads.Unready.{Unready}
use Rattle.kerning.specs.declared.heads.Unready.TheVariants.{Short, Tupled}
use Rattle.kerning.proofs.Adding.{Small, small-none, small-append, within_more, within-add_all}
use Rattle.kerning.proofs.Walking.{Bounded, walk_bounded}
use Rattle.kerning_machine.specs.declared.Reading.{Reading}
use Rattle.kerning_machine.specs.declared.Start.{Start}
use Rattle.kerning_machine.specs.declared.Start.TheVariants as Start'
use Rattle.kerning_machine.specs.declared.Orders.{Orders}
use Rattle.kerning_machine.specs.declared.Kerning.{Kerning}
use Rattle.kerning_machine.specs.declared.KerningState.{KerningState}
use Rattle.kerning_machine.specs.Machine.{fresh, rule_of, stride_of, is_full, stacked, settled, walked_from, Stepped, behind, listed, entered, acted, payload_of, orders_of, next, step_at, pass_from, rest, passed_by, passed, own_classes, worked_by}
use Rattle.kerning_machine.proofs.Acting.{stacked-deep}

-- a step from a state that took so many cycles
pub record Sound (cycles : ℕ) (r : Stepped) : Type 0 where
  pub deep : r.step.state.depth ≤ 8
  pub small : Small r.additions
  pub few : length r.additions ≤ 8
  pub stays : Bool
  pub stalls : is_done r.step.answer ≡ true
      → (r.step.state.cycles ≡ (stalled cycles stays).cycles) × (r.step.advance ≡ (stalled cycles stays).advance)

followed_bounded : (bytes : List ℕ) (reading : Reading) (start : Start) (stack : List ℕ) (depth used : ℕ)
    → Bounded depth (walked_from bytes reading start stack depth used)
unfolding walked_from
followed_bounded bytes reading Start'.None stack depth used = record { small = small-none; few = omega arith; shallow = omega arith }
followed_bounded bytes reading Start'.Nowhere stack depth used = record { small = small-none; few = omega arith; shallow = omega arith }
followed_bounded bytes reading (Start'.At place) stack depth used = walk_bounded bytes (rule_of reading) (stride_of reading) stack used depth place

never : {A : Type 0} → false ≡ true → A
never e = absurd (cc)

kept-deep : (resets : Bool) (depth : ℕ) → depth ≤ 8 → cond resets 0 depth ≤ 8
kept-deep true depth h = omega arith
kept-deep false depth h = h

listed-sound : (orders : Orders) (s : KerningState) (w : Walk) → s.depth ≤ 8 → Bounded s.depth w → Sound s.cycles (listed orders s w)
unfolding listed behind settled
listed-sound orders s w h b = go w.left.ended refl
  where
    go : (t : Bool) → w.left.ended ≡ t → Sound s.cycles (listed orders s w)
    go true e =
        rw (e, listed, behind)
        (record { deep = omega (arith, b.shallow); small = b.small; few = omega (arith, b.few); stays = false; stalls = λ d. never d })
    go false e =
        rw (e, listed, behind)
        (record {
          deep = kept-deep orders.resets w.left.depth (omega (arith, b.shallow));
          small = b.small;
          few = omega (arith, b.few);
          stays = orders.stays;
          stalls = λ d. (refl, refl);
        })

stacked-cycles : (s : KerningState) (pushes clears : Bool) (index : ℕ) → (stacked s pushes clears index).cycles ≡ s.cycles
unfolding stacked
stacked-cycles s true clears index = refl
stacked-cycles s false true index = refl
stacked-cycles s false false index = refl

acted-sound : (bytes : List ℕ) (reading : Reading) (s : KerningState) (orders : Orders) (used index : ℕ) → s.depth ≤ 8
    → Sound s.cycles (acted bytes reading s orders used index)
unfolding acted
acted-sound bytes reading s orders used index h = go (is_full orders.pushes s.depth) refl
  where
    on : KerningState
    on = stacked s orders.pushes orders.clears index

    w : Walk
    w = walked_from bytes reading orders.start on.stack on.depth used

    go : (t : Bool) → is_full orders.pushes s.depth ≡ t
        → Sound s.cycles (cond t (record { step = record { answer = Answer'.Ended; state = s; advance = 0 }; additions = [] }) (listed orders on w))
    go true e = record { deep = h; small = small-none; few = omega arith; stays = false; stalls = λ d. never d }
    go false e =
        subst⁻¹ (λ (n : ℕ). Sound n (listed orders on w)) (sym (stacked-cycles s orders.pushes orders.clears index))
        (listed-sound orders on w (stacked-deep s orders.pushes orders.clears index h e)
        (followed_bounded bytes reading orders.start on.stack on.depth used))

pub next-sound : (classes : ℕ → ℕ) (bytes : List ℕ) (kerning : Kerning) (s : KerningState) (used index glyph : ℕ) → s.depth ≤ 8
    → Sound s.cycles (next classes bytes kerning s used index glyph)
unfolding next
next-sound classes bytes kerning s used index glyph h =
    go (entry_of bytes kerning.states s.state (classes glyph) (payload_of kerning.reading)) refl
  where
    go : (e : Option Entry) → entry_of bytes kerning.states s.state (classes glyph) (payload_of kerning.reading) ≡ e
        → Sound s.cycles (next classes bytes kerning s used index glyph)
    go (Some entry) f = rw (f, next) (acted-sound bytes kerning.reading (entered s entry.state) (orders_of bytes kerning.reading entry) used index h)
    go None f = rw (f, next) (record { deep = h; small = small-none; few = omega arith; stays = false; stalls = λ d. never d })

-- a pass of so many steps adds at most eight numbers in each
pub record Modest (turns : ℕ) (r : Kerned) : Type 0 where
  pub small : Small r.additions
  pub few : length r.additions ≤ turns * 8

module _ (classes : ℕ → ℕ) (bytes : List ℕ) (kerning : Kerning) (glyphs : List ℕ) (used : ℕ) where
  pub pass-modest : (turns : ℕ) (s : KerningState) (i : ℕ) → s.depth ≤ 8 → Modest turns (pass_from classes bytes kerning glyphs used turns s i)
  unfolding pass_from
  pass-modest zero s i h = record { small = small-none; few = omega arith }
  pass-modest (suc turns) s i h =
      let r : Stepped = step_at classes bytes kerning glyphs used s i in
      let sound : Sound s.cycles r = next-sound classes bytes kerning s used i (get_or glyphs i 0) h in
      go r sound (pass_from classes bytes kerning glyphs used turns r.step.state (i + r.step.advance))
      (pass-modest turns r.step.state (i + r.step.advance) sound.deep) (ltb i used) (is_done r.step.answer)
    where
      go : (r : Stepped) → Sound s.cycles r → (later : Kerned) → Modest turns later → (t u : Bool)
          → Modest (suc turns)
          (elim t [
            | false ↦ record { answer = Answer'.Done; additions = [] }
            | true ↦
                elim u [
                  | false ↦ record { answer = r.step.answer; additions = r.additions }
                  | true ↦ after r.additions later
                ]
          ])
      go r sound later m false u = record { small = small-none; few = omega arith }
      go r sound later m true false = record { small = sound.small; few = omega (arith, sound.few) }
      go r sound later m true true =
          record {
            small = small-append sound.small m.small;
            few = omega (arith, length-append r.additions later.additions, sound.few, m.few);
          }

-- at most 2^39 in sum, for any room up to 65,535
pub modest-within : {b : ℕ} {turns used : ℕ} {r : Kerned} (along : List ℤ) → Modest turns r → turns ≤ used * 18 + 18 → used ≤ room_limit → Within b along
    → Within (b + 2 ^ 39) (add_all r.additions along)
modest-within along m t h w = within_more (omega (arith, m.few, room_small)) (within-add_all along m.small w)

pub passed-within : (bytes : List ℕ) (kerning : Kerning) (glyphs : List ℕ) (used : ℕ) {b : ℕ} (along : List ℤ) → used ≤ room_limit → Within b along
    → Within (b + 2 ^ 39) (add_all (passed bytes kerning glyphs used).additions along)
unfolding passed passed_by
passed-within bytes kerning glyphs used along h w =
    modest-within along (pass-modest (own_classes bytes kerning) bytes kerning glyphs used (rest used fresh 0) fresh 0 (omega arith)) (omega arith) h w

pub worked-within : (bytes : List ℕ) (opened : Result Kerning Unready) (glyphs : List ℕ) (used : ℕ) {b : ℕ} (along : List ℤ) → used ≤ room_limit → Within b along
    → Within (b + 2 ^ 39) (add_all (worked_by bytes opened glyphs used).additions along)
unfolding worked_by add_all
worked-within bytes (Ok kerning) glyphs used along h w = passed-within bytes kerning glyphs used along h w
worked-within bytes (Err Short) glyphs used along h w = within_more (omega arith) w
worked-within bytes (Err Tupled) glyphs used along h w = within_more (omega arith) w
