-- What the exported steps leave in the numbers lent to them, and how a state crosses as numbers.
use Rattle.std.specs.Prelude.{ℕ, ◌+◌, List, [], ◌∷◌, Bool, true, false, cond, not, eqb, ltb, get_or, set, Option, Some, None}
use Rattle.std.proofs.Math.Seq.{paste}
use Rattle.laws.specs.Choose.{if_lt}
use Rattle.laws.specs.Lists.{tab, every}
use Rattle.answers.specs.declared.Answer.{Answer}
use Rattle.answers.specs.declared.Answer.TheVariants as Answer'
use Rattle.rearrangement.specs.Calls as Rearrangement
use Rattle.rearrangement.specs.declared.RearrangementState.{RearrangementState}
use Rattle.rearrangement.specs.declared.RearrangementStep.{RearrangementStep}
use Rattle.rearrangement.specs.declared.Window.{Window}
use Rattle.insertion.specs.Calls as Insertion
use Rattle.insertion.specs.declared.InsertionState.{InsertionState}
use Rattle.insertion.specs.declared.InsertionStep.{InsertionStep}
use Rattle.insertion.specs.declared.Insertion.{Insertion}
use Rattle.ligature.specs.Calls.{ligature}
use Rattle.ligature.specs.declared.LigatureState.{LigatureState}
use Rattle.line.specs.Line.{Line}
use Rattle.machine.specs.Pass.{Stepped}
use Rattle.machine.specs.Machine.{step_call, step_leaves}
use Rattle.contextual.specs.Calls.{contextual}
use Rattle.contextual.specs.declared.ContextualState.{ContextualState}

abbrev pub is_refused : Answer → Bool
is_refused (Answer'.Refused why) = true
is_refused Answer'.Done = false
is_refused Answer'.Nothing = false
is_refused Answer'.Full = false
is_refused Answer'.Ended = false
is_refused Answer'.Limit = false

-- a refused step leaves what was lent as it was
abbrev pub unless_refused : {A : Type 0} → Answer → (was new : A) → A
unless_refused answer was new = cond (is_refused answer) was new

-- flags cross as numbers, 0 or not 0
abbrev pub is_flag : ℕ → Bool
is_flag number = not (eqb number 0)

abbrev pub flag_number : Bool → ℕ
flag_number flag = cond flag 1 0

-- a state that no step hands back, and that STATE refuses
abbrev pub no_rearrangement : RearrangementState
no_rearrangement = record { state = 0; first = 0; last = 0; cycles = 0xFFFF }

-- state, first, last, cycles; a number beyond its field's width makes such a state
unfoldable pub rearrangement_from : List ℕ → RearrangementState
rearrangement_from slots =
    if_lt 0xFFFF (get_or slots 0 0) no_rearrangement
    (if_lt 0xFFFF (get_or slots 3 0) no_rearrangement
    (record { state = get_or slots 0 0; first = get_or slots 1 0; last = get_or slots 2 0; cycles = get_or slots 3 0 }))

abbrev pub rearrangement_slots : RearrangementState → List ℕ
rearrangement_slots s = s.state ∷ s.first ∷ s.last ∷ s.cycles ∷ []

-- the step from the state that the numbers say
unfoldable pub rearrangement_stepped : List ℕ → (start : ℕ) → (slots : List ℕ) → (used index glyph ends : ℕ) → RearrangementStep
rearrangement_stepped table start slots used index glyph ends = Rearrangement.step_call table start (rearrangement_from slots) used index glyph (is_flag ends)

-- the numbers lent to it, afterwards
abbrev pub rearrangement_state : RearrangementStep → (was : List ℕ) → List ℕ
rearrangement_state step was = unless_refused step.answer was (rearrangement_slots step.state)

abbrev pub rearrangement_advance : RearrangementStep → (was : ℕ) → ℕ
rearrangement_advance step was = unless_refused step.answer was step.advance

-- first, last, verb; without an edit 0 each
abbrev pub window_slots : Option Window → List ℕ
window_slots None = 0 ∷ 0 ∷ 0 ∷ []
window_slots (Some window) = window.first ∷ window.last ∷ window.verb ∷ []

abbrev pub rearrangement_window : RearrangementStep → (was : List ℕ) → List ℕ
rearrangement_window step was = unless_refused step.answer was (window_slots step.edit)

-- the mark's place is above every length
abbrev pub no_context : ContextualState
no_context = record { state = 0; mark_set = false; mark_index = 0xFFFF; mark_id = 0 }

-- state, whether a mark is set (1 or 0), its place, its glyph
unfoldable pub contextual_from : List ℕ → ContextualState
contextual_from slots =
    if_lt 0xFFFF (get_or slots 0 0) no_context
    (if_lt 1 (get_or slots 1 0) no_context
    (if_lt 0xFFFF (get_or slots 3 0) no_context
    (record { state = get_or slots 0 0; mark_set = eqb (get_or slots 1 0) 1; mark_index = get_or slots 2 0; mark_id = get_or slots 3 0 })))

abbrev pub contextual_slots : ContextualState → List ℕ
contextual_slots s = s.state ∷ flag_number s.mark_set ∷ s.mark_index ∷ s.mark_id ∷ []

-- the step from the state that the numbers say, and the line that it leaves
unfoldable pub contextual_stepped : List ℕ → (start : ℕ) → (slots : List ℕ) → Line → (index glyph ends : ℕ) → Stepped ContextualState
contextual_stepped table start slots l index glyph ends = step_call contextual table start (contextual_from slots) l index glyph (is_flag ends)

unfoldable pub contextual_leaves : List ℕ → (start : ℕ) → (slots : List ℕ) → Line → (index glyph ends : ℕ) → Line
contextual_leaves table start slots l index glyph ends = step_leaves contextual table start (contextual_from slots) l index glyph (is_flag ends)

abbrev pub contextual_state : Stepped ContextualState → (was : List ℕ) → List ℕ
contextual_state step was = unless_refused step.answer was (contextual_slots step.state)

-- the advance of a step that is lent the line
abbrev pub advance_by : {S : Type 0} → Stepped S → (was : ℕ) → ℕ
advance_by step was = unless_refused step.answer was step.advance

abbrev pub no_insertion : InsertionState
no_insertion = record { state = 0; mark = 0; cycles = 0xFFFF }

-- state, mark, cycles
unfoldable pub insertion_from : List ℕ → InsertionState
insertion_from slots =
    if_lt 0xFFFF (get_or slots 0 0) no_insertion
    (if_lt 0xFFFF (get_or slots 2 0) no_insertion
    (record { state = get_or slots 0 0; mark = get_or slots 1 0; cycles = get_or slots 2 0 }))

abbrev pub insertion_slots : InsertionState → List ℕ
insertion_slots s = s.state ∷ s.mark ∷ s.cycles ∷ []

-- the step from the state that the numbers say
unfoldable pub insertion_stepped : List ℕ → (start : ℕ) → (slots : List ℕ) → (used room index glyph ends : ℕ) → InsertionStep
insertion_stepped table start slots used room index glyph ends = Insertion.step_call table start (insertion_from slots) used room index glyph (is_flag ends)

abbrev pub insertion_state : InsertionStep → (was : List ℕ) → List ℕ
insertion_state step was = unless_refused step.answer was (insertion_slots step.state)

abbrev pub insertion_advance : InsertionStep → (was : ℕ) → ℕ
insertion_advance step was = unless_refused step.answer was step.advance

-- how many insertions, then for each its place, its count and where its glyphs lie in the table; the rest is 0
unfoldable pub edit_slots : (marked current : Option Insertion) → List ℕ
edit_slots None None = 0 ∷ 0 ∷ 0 ∷ 0 ∷ 0 ∷ 0 ∷ 0 ∷ []
edit_slots (Some only) None = 1 ∷ only.place ∷ only.count ∷ only.glyphs ∷ 0 ∷ 0 ∷ 0 ∷ []
edit_slots None (Some only) = 1 ∷ only.place ∷ only.count ∷ only.glyphs ∷ 0 ∷ 0 ∷ 0 ∷ []
edit_slots (Some marked) (Some current) =
    2 ∷ marked.place ∷ marked.count ∷ marked.glyphs ∷ current.place ∷ current.count ∷ current.glyphs ∷ []

abbrev pub insertion_edits : InsertionStep → (was : List ℕ) → List ℕ
insertion_edits step was = unless_refused step.answer was (edit_slots step.marked step.current)

-- a ligature's state crosses as the state table's, the depth, 32 places and 32 glyphs
abbrev pub slot_count : ℕ
slot_count = 32

abbrev pub places_begin : ℕ
places_begin = 2

abbrev pub glyphs_begin : ℕ
glyphs_begin = places_begin + slot_count

-- more slots are used than there are
abbrev pub no_ligature : LigatureState
no_ligature = record { state = 0; places = tab (λ slot. 0) slot_count; glyphs = tab (λ slot. 0) slot_count; depth = 0xFFFF }

-- the numbers of all slots from some place on
unfoldable pub slots_from : List ℕ → (from : ℕ) → List ℕ
slots_from slots from = tab (λ slot. get_or slots (from + slot) 0) slot_count

-- none of them is wider than a glyph
unfoldable pub are_glyphs : List ℕ → (from : ℕ) → Bool
are_glyphs slots from = every (λ slot. ltb (get_or slots (from + slot) 0) 0x10000) slot_count

unfoldable pub ligature_from : List ℕ → LigatureState
ligature_from slots =
    if_lt 0xFFFF (get_or slots 0 0) no_ligature
    (cond (are_glyphs slots glyphs_begin)
    (record { state = get_or slots 0 0; places = slots_from slots places_begin; glyphs = slots_from slots glyphs_begin; depth = get_or slots 1 0 })
    no_ligature)

-- what was lent, with the state, the depth, the places and the glyphs written over it
unfoldable pub ligature_slots : List ℕ → LigatureState → List ℕ
ligature_slots was s =
    paste (paste (set (set was 0 s.state) 1 s.depth) places_begin s.places slot_count) glyphs_begin s.glyphs slot_count

-- the step from the state that the numbers say, and the line that it leaves
unfoldable pub ligature_stepped : List ℕ → (start : ℕ) → (slots : List ℕ) → Line → (index glyph ends : ℕ) → Stepped LigatureState
ligature_stepped table start slots l index glyph ends = step_call ligature table start (ligature_from slots) l index glyph (is_flag ends)

unfoldable pub ligature_leaves : List ℕ → (start : ℕ) → (slots : List ℕ) → Line → (index glyph ends : ℕ) → Line
ligature_leaves table start slots l index glyph ends = step_leaves ligature table start (ligature_from slots) l index glyph (is_flag ends)

abbrev pub ligature_state : Stepped LigatureState → (was : List ℕ) → List ℕ
ligature_state step was = unless_refused step.answer was (ligature_slots was step.state)
