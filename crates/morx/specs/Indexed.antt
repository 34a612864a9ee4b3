-- The pass by a subtable of whatever kind and an index of its classes.
use Rattle.std.specs.Prelude.{ℕ, Bool, true, false, List, [], ◌∷◌, length, drop}
use Rattle.answers.specs.Refuse.{Test, refuse, table_test}
use Rattle.line.specs.Line.{Line}
use Rattle.line.specs.Test.{line_test}
use Rattle.line.specs.Changes.{apply_all}
use Rattle.machine.specs.Pass.{Passed}
use Rattle.machine.specs.Call.{head_test, if_passed}
use Rattle.machine.specs.Machine.{Subtable, refused_pass, subtable_of}
use Rattle.machine.specs.Head.{body_of}
use Rattle.indexes.specs.Index.{indexed, index_test, is_another}
use Rattle.rearrangement.specs.Calls.{rearrangement}
use Rattle.contextual.specs.Calls.{contextual}
use Rattle.ligature.specs.Calls.{ligature}
use Rattle.insertion.specs.Calls.{insertion}
use Rattle.chains.specs.declared.Edition.TheVariants.{Morx}
use Rattle.morx.specs.Kinds.{kind_at, subtable_of_kind, any_subtable}
use Rattle.morx.specs.declared.Kind.{Kind}
use Rattle.morx.specs.declared.Kind.TheVariants.{Rearrangement, Contextual, Ligature, NonContextual, Insertion, OldRearrangement, OldNonContextual, LeftOut}

-- what each kind is by the classes of an index, whatever these are; a kind without classes is what it was, and so are mort's, whose classes are an array
unfoldable pub indexed_of_kind : (index : List ℕ) → Kind → Subtable
indexed_of_kind index Rearrangement = subtable_of (indexed index rearrangement)
indexed_of_kind index Contextual = subtable_of (indexed index contextual)
indexed_of_kind index Ligature = subtable_of (indexed index ligature)
indexed_of_kind index NonContextual = subtable_of_kind NonContextual
indexed_of_kind index Insertion = subtable_of (indexed index insertion)
indexed_of_kind index OldRearrangement = subtable_of_kind OldRearrangement
indexed_of_kind index OldNonContextual = subtable_of_kind OldNonContextual
indexed_of_kind index LeftOut = subtable_of_kind LeftOut

-- which kinds have a class table that an index may stand for; mort's is an array already
abbrev pub has_classes : Kind → Bool
has_classes Rearrangement = true
has_classes Contextual = true
has_classes Ligature = true
has_classes NonContextual = false
has_classes Insertion = true
has_classes OldRearrangement = false
has_classes OldNonContextual = false
has_classes LeftOut = false

-- TABLE, LINE, HEAD, INDEX
unfoldable pub indexed_tests : (table_length : ℕ) → Line → (opens : Bool) → (entries : ℕ) → (another : Bool) → List Test
indexed_tests table_length l opens entries another = table_test table_length ∷ line_test l ∷ head_test opens ∷ index_test entries another ∷ []

-- a call of the pass on the subtable at `start`, by an index of the class table that begins at `class_start`
unfoldable pub indexed_call : List ℕ → (start : ℕ) → Line → (index : List ℕ) → (class_start : ℕ) → Passed
indexed_call table start l index class_start =
    let bytes : List ℕ = drop start table in
    if_passed refused_pass
    (refuse
    (indexed_tests (length table) l ((any_subtable Morx).is_open bytes) (length index) (is_another (has_classes (kind_at Morx bytes)) (body_of bytes) start class_start)))
    ((indexed_of_kind index (kind_at Morx bytes)).worked bytes l)

-- the line that it leaves
unfoldable pub indexed_leaves : List ℕ → (start : ℕ) → Line → (index : List ℕ) → (class_start : ℕ) → Line
indexed_leaves table start l index class_start = apply_all (indexed_call table start l index class_start).changes l
