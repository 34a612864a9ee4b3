-- A line that a call has taken, and the one step of a lone call.
use Rattle.std.specs.Prelude.{Option, Ok}
use Prim.Native.Nat.{ℕ, ◌≤◌}
use mathlib.Core.Path.{◌≡◌, refl, ◌∙◌, ap}
use mathlib.Core.Bool.{Bool}
use mathlib.Core.List.{List, [], ◌∷◌}
use lib.ListN.{length}
use Rattle.answers.specs.Refuse.{refuse}
use Rattle.state_tables.specs.declared.States.{States}
use Rattle.line.specs.Line.{Line, line_of}
use Rattle.line.specs.Test.{line_test}
use Rattle.line.specs.Changes.{apply_all}
use Rattle.machine.specs.Call.{pass_tests, step_tests}
use Rattle.machine.proofs.Calls.{taken-line, stepped_line, stepped-inside}
use Rattle.indexes.specs.Index.{classes_by}
use Rattle.indexes.proofs.Laws.{no_index}
use Rattle.contextual.specs.Substitutes.{Write, changes_of}
use Rattle.contextual.specs.Contextual.{next}
use Rattle.contextual.specs.Calls.{state_tests}
use Rattle.contextual.specs.Work.{written_all, ran_all}
use Rattle.contextual.specs.declared.ContextualState.{ContextualState}
use Rattle.contextual.proofs.Writes.{written-line}
use Rattle.contextual.proofs.Passes.{alone}

pub taken_fits : (n : ℕ) (glyphs tags homes : List ℕ) (used : ℕ) (opens : Bool) → refuse (pass_tests n (line_of glyphs tags homes used) opens) ≡ Ok tt
    → used ≤ length glyphs
taken_fits n glyphs tags homes used opens e = (taken-line n (line_of glyphs tags homes used) opens e).within

pub stepped_fits : (n : ℕ) (glyphs tags homes : List ℕ) (used index : ℕ) (s : ContextualState) (made : Option States)
    → refuse (step_tests n (line_test (line_of glyphs tags homes used) ∷ []) used index (state_tests s used) made) ≡ Ok tt
    → (used ≤ length glyphs) × (index ≤ used)
stepped_fits n glyphs tags homes used index s made e =
    let l = line_of glyphs tags homes used in
    ((stepped_line n l index (state_tests s used) made e).within, stepped-inside n l index (state_tests s used) made e)

-- a lone step is lent no index
pub stepped_alone : (classes : ℕ → ℕ) (bytes : List ℕ) (states : States) (used : ℕ) (s : ContextualState) (glyphs : List ℕ) (place glyph : ℕ) (ends : Bool)
    → ran_all (classes_by [] classes) bytes states used 1 s glyphs place glyph ends ≡ next classes bytes states s place glyph ends
stepped_alone classes bytes states used s glyphs place glyph ends =
    alone (classes_by [] classes) bytes states used s glyphs place glyph ends
    ∙ ap (λ (c : ℕ → ℕ). next c bytes states s place glyph ends) (no_index [] refl classes)

pub stepped_writes : (used : ℕ) (ws : List Write) (glyphs tags homes : List ℕ)
    → written_all used ws glyphs ≡ (apply_all (changes_of ws) (line_of glyphs tags homes used)).glyphs
stepped_writes used ws glyphs tags homes = ap (λ (l : Line). l.glyphs) (written-line used ws glyphs tags homes)
