-- What it is that a step of the machine, and a pass, have no read that fails.
use Rattle.std.specs.Prelude.{ℕ, ◌+◌, ◌<◌, ◌≡◌, false, List, get_or, Some}
use Rattle.answers.specs.declared.Answer.TheVariants as Answer'
use Rattle.state_tables.specs.Inside.{ClassInside}
use Rattle.state_tables.specs.Entries.{entry_of}
use Rattle.state_tables.specs.declared.entries.Entry.{Entry}
use Rattle.kerning.specs.Lists.{walk}
use Rattle.kerning_machine.specs.Machine.{fresh, payload_of, rule_of, stride_of, orders_of, is_full, stacked, entered, step_at, own_classes}
use Rattle.kerning_machine.specs.declared.Start.TheVariants as Start'
use Rattle.kerning_machine.specs.declared.Orders.{Orders}
use Rattle.kerning_machine.specs.declared.Kerning.{Kerning}
use Rattle.kerning_machine.specs.declared.KerningState.{KerningState}

module _ (bytes : List ℕ) (kerning : Kerning) (used : ℕ) where
  -- every number of an entry's list that is tried can be read: only one that can't be leaves its list ended. The 9th push comes before any list
  abbrev pub ListInside : KerningState → Orders → (index : ℕ) → Type 0
  ListInside s orders index =
      is_full orders.pushes s.depth ≡ false → (place : ℕ) → orders.start ≡ Start'.At place
      → (walk bytes (rule_of kerning.reading) (stride_of kerning.reading) (stacked s orders.pushes orders.clears index).stack used
      (stacked s orders.pushes orders.clears index).depth place).left.ended
      ≡ false

  -- of a step the class lookup is not cut short, the entry is there, and every number of its list that is tried can be read
  pub record StepInside (s : KerningState) (index glyph : ℕ) : Type 0 where
    pub class : ClassInside bytes kerning.states glyph
    pub entry : Entry
    pub there : entry_of bytes kerning.states s.state (own_classes bytes kerning glyph) (payload_of kerning.reading) ≡ Some entry
    pub list : ListInside (entered s entry.state) (orders_of bytes kerning.reading entry) index

module _ (bytes : List ℕ) (kerning : Kerning) (glyphs : List ℕ) (used : ℕ) where
  -- the states and places that a pass comes to: the fresh one at the first, and what each step that is DONE leads to
  pub data Reached : KerningState → ℕ → Type 0 where
    first : Reached fresh 0
    later : {s : KerningState} {i : ℕ} → Reached s i → i < used → (step_at (own_classes bytes kerning) bytes kerning glyphs used s i).step.answer ≡ Answer'.Done
        → Reached (step_at (own_classes bytes kerning) bytes kerning glyphs used s i).step.state (i + (step_at (own_classes bytes kerning) bytes kerning glyphs used s i).step.advance)

  -- each step of the pass
  abbrev pub PassInside : Type 0
  PassInside = (s : KerningState) (i : ℕ) → Reached s i → i < used → StepInside bytes kerning used s i (get_or glyphs i 0)
