-- For the code alone; no entry and no promise rests on it, and nobody has to believe it. What the parts of the code answer and leave: a step as it is
-- handed back, its writes, and steps one after the other.
use Rattle.std.specs.Prelude.{ℕ, zero, suc, ◌+◌, Bool, true, false, List, [], ◌∷◌, ◌++◌, leb}
use Rattle.answers.specs.declared.Answer.TheVariants as Answer'
use Rattle.state_tables.specs.declared.States.{States}
use Rattle.line.specs.Changes.{written}
use Rattle.machine.specs.Pass.{Stepped, is_done}
use Rattle.machine.specs.Work.{glyph_at}
use Rattle.contextual.specs.Substitutes.{Write}
use Rattle.contextual.specs.Contextual.{Ran, over, next}
use Rattle.contextual.specs.declared.ContextualState.{ContextualState}
use Rattle.contextual.specs.declared.ContextualStep.{ContextualStep}

-- what a step hands back
abbrev pub step_of : Stepped ContextualState → ContextualStep
step_of r = record { answer = r.answer; state = r.state; advance = r.advance }

-- the glyphs after writes, one after the other; one at a place not in the line is skipped
unfoldable pub written_all : (used : ℕ) → List Write → List ℕ → List ℕ
written_all used [] glyphs = glyphs
written_all used (w ∷ ws) glyphs = written_all used ws (written used w.at w.glyph glyphs)

-- writes made before
abbrev pub after_writes : List Write → Ran → Ran
after_writes done r = over r.answer r.state (done ++ r.writes)

module _ (classes : ℕ → ℕ) (bytes : List ℕ) (states : States) (used : ℕ) where
  -- so many steps, one after the other: the first as told, the others at the places behind it; one that is not DONE is the last
  unfoldable pub ran_all : (steps : ℕ) → ContextualState → (glyphs : List ℕ) → (place glyph : ℕ) → (ends : Bool) → Ran
  ran_all zero s glyphs place glyph ends = over Answer'.Done s []
  ran_all (suc steps) s glyphs place glyph ends =
      let here : Ran = next classes bytes states s place glyph ends in
      let after : List ℕ = written_all used here.writes glyphs in
      elim (is_done here.answer) [
        | false ↦ here
        | true ↦ after_writes here.writes (ran_all steps here.state after (place + 1) (glyph_at after used (place + 1)) (leb used (place + 1)))
      ]
