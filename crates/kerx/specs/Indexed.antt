-- The pass of kerx by an index of the classes of its machine: formats 1 and 4.
use Rattle.std.specs.Prelude.{ℕ, Bool, true, false, List, [], ◌∷◌, ℤ, length, drop, Result, Ok, Err}
use Rattle.laws.specs.Choose.{if_eq}
use Rattle.answers.specs.Refuse.{Test, refuse}
use Rattle.answers.specs.declared.Answer.TheVariants as Answer'
use Rattle.answers.specs.declared.Refusal.{Refusal}
use Rattle.answers.specs.declared.Refusal.TheVariants as Refusal'
use Rattle.tables.specs.declared.units.Reading.{Reading}
use Rattle.line.specs.Line.{Line}
use Rattle.indexes.specs.Index.{index_test, is_another}
use Rattle.kerning.specs.Additions.{Kerned, nothing_added}
use Rattle.kerning.specs.Heads.{barred, is_short, is_tupled as is_barred, refusal}
use Rattle.kerning.specs.declared.heads.Unready.{Unready}
use Rattle.pairs.specs.Pairs.{ordered_kerx, classes_kerx}
use Rattle.pairs.specs.declared.PairTable.{PairTable}
use Rattle.kerning_machine.specs.declared.Kerning.{Kerning}
use Rattle.kerx_machine.specs.Machine as Machine'
use Rattle.kerx_machine.specs.Machine.{body_of, is_tupled}
use Rattle.anchor_machine.specs.Writes.{Anchored, nothing_written}
use Rattle.anchor_machine.specs.Machine as Anchor'
use Rattle.anchor_machine.specs.declared.Anchoring.{Anchoring}
use Rattle.kerning_lists.specs.Walk.{on_head}
use Rattle.kerx.specs.Anchored.{Marked, adding, writing, neither, marked_by, anchors_of, takes_pass, pass_tests}
use Rattle.kerx.specs.Heads.{head_in}

-- HEAD, TUPLES, INDEX, for the machine of either format
unfoldable pub machine_tests : {T : Type 0} → Result T Unready → (entries : ℕ) → (another : Bool) → List Test
machine_tests opened entries another =
    record { holds = is_short opened; refusal = Refusal'.Head }
    ∷ record { holds = is_barred opened; refusal = Refusal'.Tuples }
    ∷ index_test entries another
    ∷ []

abbrev pub kerning_tests : Result Kerning Unready → (entries : ℕ) → (another : Bool) → List Test
kerning_tests opened entries another = machine_tests opened entries another

abbrev pub anchoring_tests : Result Anchoring Unready → (entries : ℕ) → (another : Bool) → List Test
anchoring_tests opened entries another = machine_tests opened entries another

-- the pass of format 1, and of format 4
abbrev pub kerned_by : Result Unit Refusal → Kerned → Kerned
kerned_by (Ok tt) work = work
kerned_by (Err why) work = nothing_added (Answer'.Refused why)

unfoldable pub kerning_indexed : List ℕ → (start version : ℕ) → (glyphs : List ℕ) → (used : ℕ) → Reading → (index : List ℕ) → (class_start : ℕ) → Kerned
kerning_indexed bytes start version glyphs used reading index class_start =
    kerned_by (refuse (kerning_tests (Machine'.opened bytes version reading) (length index) (is_another true (body_of bytes) start class_start)))
    (Machine'.worked_indexed index bytes version glyphs used reading)

abbrev pub anchored_by : Result Unit Refusal → Anchored → Anchored
anchored_by (Ok tt) work = work
anchored_by (Err why) work = nothing_written (Answer'.Refused why)

unfoldable pub anchoring_indexed : (ankr bytes : List ℕ) → (start version : ℕ) → (glyphs : List ℕ) → (used : ℕ) → Reading → (index : List ℕ) → (class_start : ℕ)
    → Anchored
anchoring_indexed ankr bytes start version glyphs used reading index class_start =
    anchored_by (refuse (anchoring_tests (anchors_of bytes version reading) (length index) (is_another true (body_of bytes) start class_start)))
    (Anchor'.worked_indexed index ankr (body_of bytes) (anchors_of bytes version reading) glyphs used)

-- pairs have no classes of a state table: INDEX, behind HEAD and TUPLES; other formats are left out
abbrev pub refuse_pairs : Result PairTable Unready → Refusal
refuse_pairs (Ok pairs) = Refusal'.Index
refuse_pairs (Err why) = refusal why

unfoldable pub refuse_unindexed : List ℕ → (version format : ℕ) → Reading → Refusal
refuse_unindexed bytes version format reading =
    if_eq format 0 (refuse_pairs (barred (is_tupled bytes version reading) (ordered_kerx bytes)))
    (if_eq format 2 (refuse_pairs (barred (is_tupled bytes version reading) (classes_kerx bytes reading))) Refusal'.Head)

-- the pass by the subtable that begins with these bytes and lies at `start`, of this format
unfoldable pub worked_indexed : (ankr bytes : List ℕ) → (start version format : ℕ) → (glyphs : List ℕ) → (used : ℕ) → Reading → (index : List ℕ) → (class_start : ℕ)
    → Marked
worked_indexed ankr bytes start version format glyphs used reading index class_start =
    if_eq format 4 (writing (anchoring_indexed ankr bytes start version glyphs used reading index class_start))
    (if_eq format 1 (adding (kerning_indexed bytes start version glyphs used reading index class_start))
    (neither (Answer'.Refused (refuse_unindexed bytes version format reading))))

unfoldable pub passed_indexed : (ankr bytes : List ℕ) → (start version : ℕ) → (glyphs : List ℕ) → (used : ℕ) → Reading → (index : List ℕ) → (class_start : ℕ) → Marked
passed_indexed ankr bytes start version glyphs used reading index class_start =
    on_head (head_in false version 0 bytes) (λ s. worked_indexed ankr bytes start version s.format glyphs used reading index class_start)
    (neither (Answer'.Refused Refusal'.Head))

-- TABLE, ANCHOR, LINE; HEAD, TUPLES and INDEX are answers of the pass
unfoldable pub indexed_call : (table ankr : List ℕ) → (start version : ℕ) → Line → List ℤ → (x y : List ℤ) → (back : List ℕ) → Reading → (index : List ℕ) → (class_start : ℕ)
    → Marked
indexed_call table ankr start version l along x y back reading index class_start =
    marked_by (refuse (pass_tests (length table) (length ankr) (takes_pass l along x y back)))
    (passed_indexed ankr (drop start table) start version l.glyphs l.used reading index class_start)
