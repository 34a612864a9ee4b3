-- Demand 2: on document 01's domain the results equal the crate's. The contracts say of every entry which definition it equals, and runs beside the
-- crate compare them. Here are the theorems that join these definitions to Apple's manual, and to the verbs as document 01 draws them. The manual was
-- not at hand: docs/DIFFERENCES.md says what stands in for it, and lists where the crate does otherwise, which the hypotheses here leave out.
use Rattle.std.specs.Prelude.{ℕ, suc, ◌+◌, ◌*◌, ◌-◌, ◌%◌, ◌<◌, ◌≤◌, ◌≡◌, Bool, true, false, List, [], ◌∷◌, ◌++◌, ℤ, length, get_or, take, drop, Some, None, Result, Ok, Err}
use Rattle.laws.specs.Choose.{if_lt}
use Rattle.answers.specs.Limits.{table_limit, head_limit}
use Rattle.answers.specs.declared.Answer.TheVariants.{Done, Ended, Refused}
use Rattle.answers.specs.declared.Refusal.{Refusal}
use Rattle.answers.specs.declared.Refusal.TheVariants.{Overlap}
use Rattle.parse.specs.Reads.{u8_at, u16_at, u32_at, read_u16}
use Rattle.tables.specs.Records.{pair_place, format_of}
use Rattle.tables.specs.Search.{searched}
use Rattle.tables.specs.Survey.{scanned, survey_at}
use Rattle.tables.specs.Lookup.{lookup_at, reply_of, lookup_reply}
use Rattle.tables.specs.Order.{InOrder, FirstBad, Says, Holds, TheOne, first_of, last_of}
use Rattle.tables.specs.Reasons.{Because}
use Rattle.tables.specs.Units.{lookup_by}
use Rattle.tables.specs.ManualUnits.{FormatTen}
use Rattle.tables.specs.declared.units.Reading.{Reading}
use Rattle.tables.specs.declared.units.Reading.TheVariants.{Crate, Manual}
use Rattle.tables.specs.ManualLookup as Lookup
use Rattle.tables.specs.declared.records.Format.TheVariants.{Records}
use Rattle.tables.specs.declared.records.Kind.{Kind}
use Rattle.tables.specs.declared.records.Keys.TheVariants.{Glyphs, Pairs}
use Rattle.tables.specs.declared.records.Spot.TheVariants as Spot
use Rattle.tables.specs.declared.lookup.Why.{Why}
use Rattle.tables.specs.declared.lookup.Why.TheVariants.{NotCovered, CutShort}
use Rattle.tables.specs.declared.survey.Surveyed.{Surveyed}
use Rattle.tables.specs.declared.survey.Surveyed.TheVariants.{Sorted, Bad}
use Rattle.mend.specs.Table.{exponent_of}
use Rattle.mend.specs.Mend.{lot_of, mend_call}
use Rattle.mend.specs.Looks.{plain_look, new_table, AreBytes, Shared, Renumbered, LargestPower}
use Rattle.state_tables.specs.States.{extended_by, extended_at, classic_at}
use Rattle.state_tables.specs.Classes.{class_of}
use Rattle.state_tables.specs.Manual as StateTable
use Rattle.state_tables.specs.Manual.{ClassIs, LookupGives, ArrayGives, class_table, extended, classic}
use Rattle.state_tables.specs.declared.States.{States}
use Rattle.ltag.specs.Ltag.{language_index}
use Rattle.ltag.specs.Manual as Ltag
use Rattle.machine.specs.Head.{body_of}
use Rattle.indexes.specs.Index.{classes_below, fill_call, index_test, is_another}
use Rattle.morx.specs.Kinds.{kind_at, any_subtable}
use Rattle.morx.specs.Indexed.{has_classes, indexed_call}
use Rattle.morx.specs.RightIndex.{Right}
use Rattle.verbs.specs.Verbs.{place_of, from_of, rearranged}
use Rattle.verbs.specs.Drawn.{AsDrawn}
use Rattle.noncontextual.specs.NonContextual as NonContextual
use Rattle.noncontextual.specs.NonContextual.{writes_below}
use Rattle.contextual.specs.Substitutes.{substitute_of, substitute_by}
use Rattle.contextual.specs.Manual.{lookup_number}
use Rattle.ligature.specs.Actions.{read_action, read_number}
use Rattle.ligature.specs.Manual.{action_number, component_number, ligature_number}
use Rattle.insertion.specs.Lists.{glyph_list, glyphs_at}
use Rattle.insertion.specs.Manual.{glyphs_from}
use Rattle.insertion.specs.declared.Listed.TheVariants as Listed
use Rattle.chains.specs.Orders.{order_of, order_in, is_reversed, is_vertical}
use Rattle.chains.specs.Lists.{chains_from, next_chain, next_feature, next_subtable}
use Rattle.chains.specs.Followed.{after_chains, after_features, after_subtables}
use Rattle.chains.specs.Walk.{walk_of}
use Rattle.chains.specs.Features.{is_asked}
use Rattle.chains.specs.Manual.{manual_order, manual_reversed, only_vertical, Lie, EndsAt, chain_head_size, chain_total, chain_place, feature_total, feature_place}
use Rattle.chains.specs.Manual.{subtable_head_size, subtable_total, subtable_place, manual_chain, manual_feature, manual_subtable, manual_heads, manual_flags}
use Rattle.chains.specs.declared.Edition.{Edition}
use Rattle.chains.specs.declared.Edition.TheVariants.{Morx, Mort}
use Rattle.line.specs.Line.{Line}
use Rattle.machine.specs.Machine.{passed, pass_call, call_leaves}
use Rattle.rearrangement.specs.Calls.{rearrangement}
use Rattle.mort.specs.Mort.{has_kind, old_rearrangement, old_non_contextual}
use Rattle.morx.specs.Run.{choosing}
use Rattle.morx.specs.Calls.{request_limit, run_call, run_leaves}
use Rattle.morx.specs.Defaults.{call_by_defaults}
use Rattle.morx.specs.declared.Choices.{Choices}
use Rattle.pairs.specs.Pairs.{key_of, number_at, pair_number}
use Rattle.pairs.specs.Reply.{number_reply}
use Rattle.pairs.specs.Reply as Reply
use Rattle.pairs.specs.Pass.{every_place, pairs_below, worked_by}
use Rattle.pairs.specs.Joined.{JoinedPair, AddedBy}
use Rattle.pairs.specs.declared.PairTable.{PairTable}
use Rattle.pairs.specs.declared.PairTable.TheVariants.{Ordered, Classes}
use Rattle.kerning.specs.declared.heads.Unready.{Unready}
use Rattle.pairs.specs.Manual.{Rising, OrderedValue, ClassValue, Legible, Covered}
use Rattle.pairs.specs.Manual as Pair
use Rattle.line.specs.Line.{Line}
use Rattle.laws.specs.Bits.{is_set}
use Rattle.kerning.specs.Additions.{add_all}
use Rattle.kerning.specs.Choices.{rule_of, choices_of, unchosen}
use Rattle.kerning.specs.declared.choices.PairRule.{PairRule}
use Rattle.kerning.specs.declared.choices.PairRule.TheVariants.{Neighbours, Joined}
use Rattle.kerning_lists.specs.Manual as List'
use Rattle.kerning_lists.specs.Manual.{NoneInPart}
use Rattle.kerning_lists.specs.Run.{zeros}
use Rattle.kerning_lists.specs.Family as Family'
use Rattle.kern.specs.Kern.{kern}
use Rattle.kern.specs.Manual as Kern
use Rattle.kern_machine.specs.Manual.{WholeList}
use Rattle.kerx_machine.specs.Machine.{has_tuples}
use Rattle.kerning.specs.Lists.{Walk}
use Rattle.kerning.specs.Walks.{Walks}
use Rattle.kerning.specs.declared.lists.Number as Number''
use Rattle.promises.specs.Lists.{KernList, KerxList, ManualList, NoneOfTen}
use Rattle.kerx.specs.Kerx.{kerx}
use Rattle.kerx.specs.Kerx as Kerx'
use Rattle.kerx.specs.Manual as Kerx
use Rattle.anchors.specs.Manual as Ankr
use Rattle.anchor_machine.specs.Writes.{are_long}
use Rattle.anchor_machine.specs.Machine.{written_by, numbers_of}
use Rattle.anchor_machine.specs.Exact.{Exact, ExactWrite, EachWrite}
use Rattle.anchor_machine.specs.Manual.{action_type, action_table, mark_point, current_point}
use Rattle.anchor_machine.specs.declared.Anchoring.{Anchoring}
use Rattle.anchor_machine.specs.declared.AnchorState.{AnchorState}
use Rattle.anchor_machine.specs.declared.Numbers.TheVariants as Numbers
use Rattle.kerning.specs.declared.choices.Choices as Choices'
use Rattle.kerning_lists.specs.declared.Subtable as Subtable'
use Rattle.kerx.specs.Heads.{head_in}
use Rattle.kerx.specs.Anchored.{adding, machine_of}
use Rattle.kerx.specs.Anchored as Anchored
use Rattle.kerx.specs.Indexed as KerxIndexed
use Rattle.kerx.specs.RightIndex as KerxIndex
use Rattle.kerx.specs.Range.{InRange}
use Rattle.report.specs.Report.{Lines, Page, report_answer, report_leaves}
use Rattle.report.specs.Extremes.{Reported}
use Rattle.kerx.specs.Inside.{ReadsInside}
use Rattle.kerx.specs.Order.{Reordered, Each, ListHas, NotRefused, BelowLimit, AsStated, alone, all_add}
use Rattle.promises.specs.Known.{AllKnown, KnownReasons, KnownPairs}
use Rattle.promises.specs.KnownMarks.{KnownMarks}
use Rattle.promises.specs.KnownOrders.{one_pair, good_list, line, NeedsEach}

-- Lookup tables and their survey.
pub record Lookups : Type 0 where
  -- on records in order the search finds the one record that holds the glyph, or there is none
  pub search_finds : (bytes : List ℕ) (kind : Kind) (count glyph : ℕ) → InOrder bytes kind count
      → TheOne (first_of bytes kind) (last_of bytes kind) count glyph (searched bytes 12 (Glyphs kind) count glyph)
  -- and so it does for pairs that lie in the table with rising keys
  pub search_finds_pair : (bytes : List ℕ) (first count key : ℕ)
      → ((i : ℕ) → i < count → pair_place first i + 4 ≤ length bytes)
      → ((i : ℕ) → suc i < count → u32_at bytes (pair_place first i) < u32_at bytes (pair_place first (suc i)))
      → TheOne (λ i. u32_at bytes (pair_place first i)) (λ i. u32_at bytes (pair_place first i)) count key (searched bytes first Pairs count key)
  -- in all six formats the element found is the one that lies where the manual says, and it is found wherever it lies in the table, where crate and
  -- manual read alike
  pub lookup_as_manual : (layout : Lookup.Layout) (bytes : List ℕ) (glyphs glyph : ℕ) → read_u16 bytes 0 ≡ Some (Lookup.format_number layout)
      → Lookup.Alike bytes glyphs glyph layout → Lookup.AsManual bytes glyphs glyph layout
  -- in the manual's reading format 10 is the manual's with elements of one byte and of two, finds nothing with any other unit size, and the other formats
  -- are as in the crate's
  pub format_ten : (bytes : List ℕ) (glyphs glyph : ℕ) → read_u16 bytes 0 ≡ Some 10 → FormatTen bytes glyphs glyph
  pub other_formats : (bytes : List ℕ) (glyph : ℕ) → (read_u16 bytes 0 ≡ Some 10 → ⊥) → lookup_by Manual bytes glyph ≡ lookup_at bytes glyph
  pub in_crate : (bytes : List ℕ) (glyph : ℕ) → lookup_by Crate bytes glyph ≡ lookup_at bytes glyph
  -- a table that the survey calls sorted has all its records in order
  pub survey_sound : (bytes : List ℕ) (kind : Kind) (count : ℕ) → scanned bytes kind count ≡ Sorted → InOrder bytes kind count
  -- and it calls every such table so
  pub survey_complete : (bytes : List ℕ) (kind : Kind) (count : ℕ) → InOrder bytes kind count → scanned bytes kind count ≡ Sorted
  -- the record that it names is bad, while all before it are good
  pub survey_bad : (bytes : List ℕ) (kind : Kind) (count i : ℕ) → scanned bytes kind count ≡ Bad i → FirstBad bytes kind count i
  -- where format and count can be read, the survey answers each of sorted, bad and another unit size exactly when it should
  pub survey_exact : (bytes : List ℕ) (kind : Kind) {number : ℕ} → read_u16 bytes 0 ≡ Some number → format_of number ≡ Records kind → 6 ≤ length bytes
      → (s : Surveyed) → (survey_at bytes ≡ s → Says bytes kind s) × (Says bytes kind s → survey_at bytes ≡ s)

-- Why nothing is found: what each reason says, who passes it on and who drops it.
pub record Reasons : Type 0 where
  -- unknown format exactly when the format can be read and is none of the six, cut short exactly when a read that the lookup tries fails, not covered
  -- otherwise
  pub why_exact : (bytes : List ℕ) (glyph : ℕ) (why : Why)
      → (lookup_at bytes glyph ≡ Err why → Because bytes glyph why) × (Because bytes glyph why → lookup_at bytes glyph ≡ Err why)
  -- on a table that the survey passes not covered means that no record holds the glyph
  pub uncovered-exact : (bytes : List ℕ) (kind : Kind) (glyph : ℕ) {number : ℕ} → read_u16 bytes 0 ≡ Some number → format_of number ≡ Records kind
      → survey_at bytes ≡ Sorted
      → (lookup_at bytes glyph ≡ Err NotCovered → (i : ℕ) → Holds (first_of bytes kind) (last_of bytes kind) (u16_at bytes 4) glyph i → ⊥)
      × (((i : ℕ) → Holds (first_of bytes kind) (last_of bytes kind) (u16_at bytes 4) glyph i → ⊥) → lookup_at bytes glyph ≡ Err NotCovered)
  -- each reason once, by computation
  pub known-reasons : KnownReasons
  -- a lookup's answer passes it on
  pub lookup_passes_on : (table : List ℕ) (start glyph : ℕ) → length table ≤ table_limit
      → lookup_reply table start glyph ≡ reply_of (lookup_at (drop start table) glyph)
  -- and so does a pair's
  pub pair_passes_on : (bytes : List ℕ) (pairs : PairTable) (left right : ℕ)
      → Reply.reply_of bytes (Ok pairs) left right ≡ number_reply (pair_number bytes pairs left right)
  -- a search that ends without the pair is not covered
  pub absent-uncovered : (bytes : List ℕ) (first count left right : ℕ) → searched bytes first Pairs count (key_of left right) ≡ Spot.Absent
      → pair_number bytes (Ordered first count) left right ≡ Err NotCovered
  -- of class pairs the left glyph's lookup speaks first, then the right one's, then the number's read
  pub left_speaks_first : (bytes : List ℕ) (rows columns array left right : ℕ) (why : Why) → lookup_at (drop rows bytes) left ≡ Err why
      → pair_number bytes (Classes rows columns array Crate) left right ≡ Err why
  pub right_speaks_next : (bytes : List ℕ) (rows columns array left right row : ℕ) (why : Why) → lookup_at (drop rows bytes) left ≡ Ok row
      → lookup_at (drop columns bytes) right ≡ Err why → pair_number bytes (Classes rows columns array Crate) left right ≡ Err why
  pub number_speaks_last : (bytes : List ℕ) (rows columns array left right row column : ℕ) → lookup_at (drop rows bytes) left ≡ Ok row
      → lookup_at (drop columns bytes) right ≡ Ok column
      → pair_number bytes (Classes rows columns array Crate) left right ≡ number_at bytes (array + row + column)
  -- classes drop it: 1, whatever the reason
  pub class_drops : (bytes : List ℕ) (glyph : ℕ) (why : Why) {states : States} → extended_at bytes ≡ Some states → (glyph ≡ 65535 → ⊥)
      → lookup_at (drop (class_table extended bytes) bytes) glyph ≡ Err why → class_of bytes states glyph ≡ 1
  -- contextual substitution drops it: there is no substitute, whatever the reason
  pub contextual_drops : (bytes : List ℕ) (number glyph : ℕ) → (number ≡ 0xFFFF → ⊥) → 20 ≤ length bytes
      → u32_at bytes 16 + number * 4 + 4 ≤ length bytes → (why : Why) → lookup_at (lookup_number bytes number) glyph ≡ Err why
      → substitute_of bytes number glyph ≡ None
  -- non-contextual substitution drops it: nothing is written at the glyph's place
  pub noncontextual_drops : (lookup : ℕ → Result ℕ Why) (glyphs : List ℕ) (place : ℕ) (why : Why) → lookup (get_or glyphs place 0) ≡ Err why
      → writes_below lookup glyphs (suc place) ≡ writes_below lookup glyphs place
  -- the pair pass drops it: two neighbours add nothing
  pub pass_drops : (number : (left right : ℕ) → Result ℤ Why) (glyphs : List ℕ) (place : ℕ) (why : Why)
      → number (get_or glyphs place 0) (get_or glyphs (suc place) 0) ≡ Err why
      → pairs_below every_place number glyphs (suc (suc place)) ≡ pairs_below every_place number glyphs (suc place)

-- A mended lookup table.
pub record Mends : Type 0 where
  -- the survey of what is written is Sorted
  pub mended_sorted : (buffer numbers : List ℕ) (size : ℕ) (table : List ℕ) (start : ℕ) → (mend_call buffer numbers size table start).answer ≡ Done
      → survey_at (new_table (mend_call buffer numbers size table start)) ≡ Sorted
  -- every glyph finds in it what a plain look from the first record down finds in the old table; it is not covered in one exactly when in the other
  pub mended-lookup : (buffer numbers : List ℕ) (size : ℕ) (table : List ℕ) (start : ℕ) → AreBytes table → {kind : Kind} {count : ℕ}
      → lot_of (drop start table) ≡ Some (record { kind = kind; count = count }) → (mend_call buffer numbers size table start).answer ≡ Done → (glyph : ℕ)
      → lookup_at (new_table (mend_call buffer numbers size table start)) glyph ≡ plain_look (drop start table) kind glyph count 0
  -- kept records have different numbers below the count of the new table, which has their bytes there; the others have 0xFFFF
  pub mended-numbers : (buffer numbers : List ℕ) (size : ℕ) (table : List ℕ) (start : ℕ) → AreBytes table → {kind : Kind} {count : ℕ}
      → lot_of (drop start table) ≡ Some (record { kind = kind; count = count }) → (mend_call buffer numbers size table start).answer ≡ Done
      → Renumbered (drop start table) (new_table (mend_call buffer numbers size table start)) kind count
      (u16_at (new_table (mend_call buffer numbers size table start)) 4) (mend_call buffer numbers size table start).numbers
  -- OVERLAP exactly when two records to be kept share a glyph
  pub overlap_exact : (buffer numbers : List ℕ) (size : ℕ) (table : List ℕ) (start : ℕ) → length table ≤ table_limit → {kind : Kind} {count : ℕ}
      → lot_of (drop start table) ≡ Some (record { kind = kind; count = count })
      → ((mend_call buffer numbers size table start).answer ≡ Refused Overlap → Shared (drop start table) kind count)
      × (Shared (drop start table) kind count → (mend_call buffer numbers size table start).answer ≡ Refused Overlap)
  -- a refusal leaves buffer, numbers and size as they were
  pub mend_unchanged : (buffer numbers : List ℕ) (size : ℕ) (table : List ℕ) (start : ℕ) {why : Refusal}
      → (mend_call buffer numbers size table start).answer ≡ Refused why
      → ((mend_call buffer numbers size table start).buffer ≡ buffer) × ((mend_call buffer numbers size table start).numbers ≡ numbers)
      × ((mend_call buffer numbers size table start).size ≡ size)
  -- the power of two in the search fields is the largest that is not above the number of records
  pub exponent_exact : (n : ℕ) → 1 ≤ n → n < 65536 → LargestPower n (exponent_of n)

-- State tables: classes and entries.
pub record StateTables : Type 0 where
  -- an extended class is the manual's, where the class table is a lookup that crate and manual read alike
  pub class_by-lookup : (bytes : List ℕ) (layout : Lookup.Layout) (glyphs glyph : ℕ) {states : States} → extended_at bytes ≡ Some states
      → read_u16 (drop (class_table extended bytes) bytes) 0 ≡ Some (Lookup.format_number layout)
      → ((glyph ≡ 65535 → ⊥) → Lookup.Alike (drop (class_table extended bytes) bytes) glyphs glyph layout)
      → ClassIs (LookupGives (drop (class_table extended bytes) bytes) layout glyphs glyph) glyph (class_of bytes states glyph)
  -- a classic class is the manual's, of any glyph
  pub class_by_array_lem : (bytes : List ℕ) (glyph : ℕ) {states : States} → classic_at bytes ≡ Some states
      → ClassIs (ArrayGives (drop (class_table classic bytes) bytes) glyph) glyph (class_of bytes states glyph)
  -- in both layouts the entry of a state and a class below the class count is the manual's, wherever that names a state
  pub entry_as_manual : (layout : StateTable.Layout) (bytes : List ℕ) (state class payload : ℕ) {states : States}
      → StateTable.head_at layout bytes ≡ Some states → StateTable.AsManual layout bytes states state class payload

-- The sixteen verbs.
pub record Verbs : Type 0 where
  -- every verb makes of its window what document 01 draws, for any glyphs, any x, and any rest of the line
  pub as_drawn : (a b : ℕ) (x : List ℕ) (c d : ℕ) → AsDrawn a b x c d
  -- where a place goes and where it comes from are inverse of each other
  pub from_place : (verb width place : ℕ) → from_of verb width (place_of verb width place) ≡ place
  pub place_from_lem : (verb width place : ℕ) → place_of verb width (from_of verb width place) ≡ place
  -- no place leaves the window
  pub place_of-below : (verb width place : ℕ) → place < width → place_of verb width place < width
  -- no glyph is lost or added, and place k holds what stood where it comes from
  pub length-rearranged : (verb width : ℕ) (part : List ℕ) → length (rearranged verb width part) ≡ length part
  pub get_d_rearranged : (verb width : ℕ) (part : List ℕ) (k : ℕ) → k < length part
      → get_or (rearranged verb width part) k 0 ≡ get_or part (from_of verb width k) 0

-- The lists of morx's subtables: lookups, actions, components, ligatures, glyphs to insert.
pub record SubtableLists : Type 0 where
  -- a contextual entry's lookup is the one that lies where the manual says; one past the table substitutes nothing
  pub by_manual : (bytes : List ℕ) (number glyph : ℕ) → (number ≡ 0xFFFF → ⊥) → 20 ≤ length bytes
      → u32_at bytes 16 + number * 4 + 4 ≤ length bytes → substitute_of bytes number glyph ≡ substitute_by (lookup_at (lookup_number bytes number) glyph)
  pub past_manual : (bytes : List ℕ) (number glyph : ℕ) → (number ≡ 0xFFFF → ⊥) → 20 ≤ length bytes
      → length bytes < u32_at bytes 16 + number * 4 + 4 → substitute_of bytes number glyph ≡ None
  -- ligature action i, component i and ligature i lie where the manual says; one past the table can't be read
  pub action_by_manual : (bytes : List ℕ) (i : ℕ) → 20 ≤ length bytes → u32_at bytes 16 + i * 4 + 4 ≤ length bytes
      → read_action bytes i ≡ Some (action_number bytes i)
  pub action_past_manual : (bytes : List ℕ) (i : ℕ) → 20 ≤ length bytes → length bytes < u32_at bytes 16 + i * 4 + 4 → read_action bytes i ≡ None
  pub component_by_manual : (bytes : List ℕ) (i : ℕ) → 24 ≤ length bytes → u32_at bytes 20 + i * 2 + 2 ≤ length bytes
      → read_number bytes 20 i ≡ Some (component_number bytes i)
  pub component_past_manual : (bytes : List ℕ) (i : ℕ) → 24 ≤ length bytes → length bytes < u32_at bytes 20 + i * 2 + 2
      → read_number bytes 20 i ≡ None
  pub ligature_by_manual : (bytes : List ℕ) (i : ℕ) → 28 ≤ length bytes → u32_at bytes 24 + i * 2 + 2 ≤ length bytes
      → read_number bytes 24 i ≡ Some (ligature_number bytes i)
  pub ligature_past_manual : (bytes : List ℕ) (i : ℕ) → 28 ≤ length bytes → length bytes < u32_at bytes 24 + i * 2 + 2
      → read_number bytes 24 i ≡ None
  -- a list to insert has the manual's glyphs
  pub glyphs_by_manual : (bytes : List ℕ) (number count : ℕ) → glyphs_at bytes (u32_at bytes 16 + number * 2) count ≡ glyphs_from bytes number count
  -- one of some glyphs is read exactly where they lie in the table
  pub list_by_manual : (bytes : List ℕ) (number count : ℕ) → (number ≡ 0xFFFF → ⊥) → 20 ≤ length bytes → 0 < count
      → u32_at bytes 16 + number * 2 + count * 2 ≤ length bytes → glyph_list bytes number count ≡ Listed.At (u32_at bytes 16 + number * 2)
  pub list_past_manual : (bytes : List ℕ) (number count : ℕ) → (number ≡ 0xFFFF → ⊥) → 20 ≤ length bytes → 0 < count
      → length bytes < u32_at bytes 16 + number * 2 + count * 2 → glyph_list bytes number count ≡ Listed.Short
  -- and none, not even one of no glyphs, that begins at or past the end: there the crate ends the step
  pub list-at-end : (bytes : List ℕ) (number count : ℕ) → (number ≡ 0xFFFF → ⊥) → 20 ≤ length bytes
      → length bytes ≤ u32_at bytes 16 + number * 2 → glyph_list bytes number count ≡ Listed.Short

-- The coverage, chains, features and subtables of morx and of mort.
pub record Chains : Type 0 where
  -- order, reversal and vertical-only are what the manual's table says of the coverage's bits
  pub order_as_manual : (coverage : ℕ) → order_of coverage ≡ manual_order Morx coverage
  pub reverse_as_manual : (coverage : ℕ) (right_to_left : Bool) → is_reversed (order_of coverage) right_to_left ≡ manual_reversed Morx coverage right_to_left
  pub orders_as_manual : (edition : Edition) (coverage : ℕ) → order_in edition coverage ≡ manual_order edition coverage
  pub reverses_as_manual : (edition : Edition) (coverage : ℕ) (right_to_left : Bool)
      → is_reversed (order_in edition coverage) right_to_left ≡ manual_reversed edition coverage right_to_left
  pub vertical_as_manual : (edition : Edition) (coverage : ℕ) → is_vertical edition coverage ≡ only_vertical edition coverage
  -- chain i is the manual's, and the list ends where the manual's does: at its count, or at the first head that does not lie in the table
  pub chain_as_manual : (edition : Edition) (table : List ℕ) (start : ℕ) → start + 8 ≤ length table → (i : ℕ) → i < chain_total table start
      → Lie table (chain_head_size edition) (chain_place table start) (suc i)
      → next_chain edition table (after_chains table edition i (chains_from table start))
      ≡ Some (manual_chain edition table (chain_place table start i) (chain_total table start - suc i))
  pub chains-end : (edition : Edition) (table : List ℕ) (start : ℕ) → start + 8 ≤ length table → (n : ℕ)
      → EndsAt table (chain_head_size edition) (chain_place table start) (chain_total table start) n
      → next_chain edition table (after_chains table edition n (chains_from table start)) ≡ None
  -- so are feature j of a chain
  pub feature_as_manual : (edition : Edition) (table : List ℕ) (chain j : ℕ) → j < feature_total edition table chain → Lie table 12 (feature_place edition chain) (suc j)
      → next_feature table (after_features table j (manual_chain edition table chain 0).features)
      ≡ Some (manual_feature table (feature_place edition chain j) (feature_total edition table chain - suc j))
  pub features-end : (edition : Edition) (table : List ℕ) (chain n : ℕ) → EndsAt table 12 (feature_place edition chain) (feature_total edition table chain) n
      → next_feature table (after_features table n (manual_chain edition table chain 0).features) ≡ None
  -- and subtable k
  pub subtable_as_manual : (edition : Edition) (table : List ℕ) (chain k : ℕ) → k < subtable_total edition table chain
      → Lie table (subtable_head_size edition) (subtable_place edition table chain) (suc k)
      → next_subtable edition table (after_subtables table edition k (manual_chain edition table chain 0).subtables)
      ≡ Some (manual_subtable edition table (subtable_place edition table chain k) (subtable_total edition table chain - suc k))
  pub subtables_end : (edition : Edition) (table : List ℕ) (chain n : ℕ)
      → EndsAt table (subtable_head_size edition) (subtable_place edition table chain) (subtable_total edition table chain) n
      → next_subtable edition table (after_subtables table edition n (manual_chain edition table chain 0).subtables) ≡ None
  -- the heads that a run walks over are the manual's, chain 0, its subtables, chain 1, and so on: as many of them as a run may count, and one more
  pub walk_as_manual : (edition : Edition) (table : List ℕ) (start : ℕ) → walk_of edition table start ≡ take (suc head_limit) (manual_heads edition table start)

-- The passes by a mort subtable. The classic state table's classes and entries are the manual's, as `StateTables` says, and so is what a lookup finds in the
-- manual's reading.
pub record Older : Type 0 where
  -- kind 0: the rearrangement machine of morx, by the classic state table behind the head
  pub rearranges : (bytes : List ℕ) (l : Line) {states : States} → has_kind bytes 0 ≡ true → classic_at (drop 8 bytes) ≡ Some states
      → old_rearrangement.worked bytes l ≡ passed rearrangement (drop 8 bytes) states l
  -- where that can't be opened the pass is ENDED, and changes nothing
  pub ends_closed : (bytes : List ℕ) (l : Line) → has_kind bytes 0 ≡ true → classic_at (drop 8 bytes) ≡ None
      → old_rearrangement.worked bytes l ≡ record { answer = Ended; changes = [] }
  -- kind 4: the non-contextual pass of morx, by the lookup behind the head in the manual's reading
  pub substitutes : (bytes : List ℕ) (l : Line) → has_kind bytes 4 ≡ true → old_non_contextual.worked bytes l ≡ NonContextual.passed (lookup_by Manual (drop 8 bytes)) l
  -- no pass and no run changes homes or the used length
  pub old-homes : (table : List ℕ) (start : ℕ) (l : Line) → (call_leaves (any_subtable Mort) table start l).homes ≡ l.homes
  pub old-used : (table : List ℕ) (start : ℕ) (l : Line) → (call_leaves (any_subtable Mort) table start l).used ≡ l.used
  pub old-run-homes : (table : List ℕ) (start : ℕ) (l : Line) (right_to_left : Bool) (requests : List ℕ)
      → (run_leaves table start (record { right_to_left = right_to_left; edition = Mort }) l requests).homes ≡ l.homes
  pub old-run-used : (table : List ℕ) (start : ℕ) (l : Line) (right_to_left : Bool) (requests : List ℕ)
      → (run_leaves table start (record { right_to_left = right_to_left; edition = Mort }) l requests).used ≡ l.used

-- The features that a run is asked for.
pub record Features : Type 0 where
  -- with no requests the run is that of document 01, by a chain's default flags alone
  pub no_requests : (table : List ℕ) (start : ℕ) (choices : Choices) (l : Line) → run_call table start choices l [] ≡ call_by_defaults table start choices l
  -- two lists with the same requests in them give the same run, in whatever order and however often each has them
  pub any_order : (table : List ℕ) (start : ℕ) (choices : Choices) (l : Line) (xs ys : List ℕ) → ((request : ℕ) → is_asked xs request ≡ is_asked ys request)
      → length xs ≤ request_limit → length ys ≤ request_limit → run_call table start choices l xs ≡ run_call table start choices l ys
  -- a chain's flags are the manual's, over the features that lie where it says, up to the first that does not
  pub flags_as_manual : (edition : Edition) (table requests : List ℕ) (chain left n : ℕ)
      → EndsAt table 12 (feature_place edition chain) (feature_total edition table chain) n
      → choosing table requests (manual_chain edition table chain left) ≡ manual_flags edition table requests chain n
  -- and in every table there is such an end
  pub features-ended : (edition : Edition) (table : List ℕ) (chain : ℕ) → (n : ℕ) × EndsAt table 12 (feature_place edition chain) (feature_total edition table chain) n

-- Indexes of classes.
pub record Indexes : Type 0 where
  -- where each entry is that glyph's class, and INDEX refuses nothing, the call by an index is the plain one, whatever it answers
  pub same_call : (table : List ℕ) (start : ℕ) (l : Line) (index : List ℕ) (class_start : ℕ) → Right table start index
      → (index_test (length index) (is_another (has_classes (kind_at Morx (drop start table))) (body_of (drop start table)) start class_start)).holds ≡ false
      → indexed_call table start l index class_start ≡ pass_call (any_subtable Morx) table start l
  -- the filler makes it so
  pub filled_right : (bytes : List ℕ) (states : States) (entries glyph : ℕ) → glyph < length (classes_below bytes states entries)
      → get_or (classes_below bytes states entries) glyph 0 ≡ class_of bytes states glyph
  -- fill, then pass, is the plain pass
  pub fill_then_pass : (table : List ℕ) (start : ℕ) (index : List ℕ) (was : ℕ) (l : Line) → has_classes (kind_at Morx (drop start table)) ≡ true
      → (fill_call table (start + 12) Crate index was).answer ≡ Done
      → indexed_call table start l (fill_call table (start + 12) Crate index was).index (fill_call table (start + 12) Crate index was).start
      ≡ pass_call (any_subtable Morx) table start l
  -- so is kerx's, by a subtable with a machine, in either reading: by a right index, and by one just filled in that reading
  pub same-kerx_call : (table ankr : List ℕ) (start version : ℕ) (l : Line) (along x y : List ℤ) (back : List ℕ) (choices : Choices'.Choices) (index : List ℕ)
      (class_start : ℕ) → KerxIndex.HasMachine table start version → KerxIndex.Right table start choices.reading index
      → (index_test (length index) (is_another true (body_of (drop start table)) start class_start)).holds ≡ false
      → KerxIndexed.indexed_call table ankr start version l along x y back choices.reading index class_start
      ≡ Anchored.pass_call table ankr start version l along x y back choices
  pub fill_then_kerx_pass : (table ankr : List ℕ) (start version : ℕ) (l : Line) (along x y : List ℤ) (back : List ℕ) (choices : Choices'.Choices) (index : List ℕ)
      (was : ℕ) → KerxIndex.HasMachine table start version → (fill_call table (start + 12) choices.reading index was).answer ≡ Done
      → KerxIndexed.indexed_call table ankr start version l along x y back choices.reading (fill_call table (start + 12) choices.reading index was).index
      (fill_call table (start + 12) choices.reading index was).start
      ≡ Anchored.pass_call table ankr start version l along x y back choices

-- kern and kerx.
pub record Kerning : Type 0 where
  -- kern's subtable k begins behind the lengths that the heads before it tell, in both editions, and is in the walk exactly when it is counted and those
  -- heads lie in the table, of which none is to lie there in part; so does kerx's
  pub kern_as_manual : (edition : Kern.Edition) (bytes : List ℕ) → Kern.HasVersion edition bytes → Kern.first_of edition ≤ length bytes
      → NoneInPart bytes 6 (Kern.head_bytes edition) (Kern.length_at edition bytes) (Kern.first_of edition) (Kern.count_of edition bytes)
      → List'.AsManual bytes (Kern.head_bytes edition) (Kern.subtable_at edition bytes) (Kern.length_at edition bytes)
      (Kern.first_of edition) (Kern.count_of edition bytes) (Family'.walk_of kern false bytes)
  pub kerx_as_manual : (rtl : Bool) (bytes : List ℕ) → 8 ≤ length bytes
      → NoneInPart bytes (if_lt (Kerx.version_of bytes) 4 8 12) Kerx.head_bytes (Kerx.length_at bytes) 8 (Kerx.count_of bytes)
      → List'.AsManual bytes Kerx.head_bytes (Kerx.subtable_at bytes) (Kerx.length_at bytes) 8 (Kerx.count_of bytes) (Family'.walk_of kerx rtl bytes)
  -- where the list's own head does not lie in the table there is no subtable; of kern's head the version does
  pub kern_without_list : (edition : Kern.Edition) (bytes : List ℕ) → Kern.HasVersion edition bytes → 2 ≤ length bytes
      → length bytes < Kern.first_of edition → Family'.walk_of kern false bytes ≡ []
  pub kerx_without_list : (rtl : Bool) (bytes : List ℕ) → length bytes < 8 → Family'.walk_of kerx rtl bytes ≡ []
  -- a pair's answer is DONE with just the value that the manual has for it, and NOTHING exactly when it has none: on ordered pairs in rising order
  -- (in kerx without tuples), where the reason is that the pair is not covered
  pub kern_pair_as_manual : (edition : Kern.Edition) (bytes : List ℕ) (left right : ℕ) → Kern.HasPairs edition bytes
      → Rising bytes (Kern.first_pair edition) (Kern.pair_count edition bytes)
      → Pair.AsManual (Family'.pair_in kern bytes (Kern.version_number edition) left right)
      (OrderedValue bytes 0 (Kern.first_pair edition) (Kern.pair_count edition bytes) left right) NotCovered
  pub kerx_pair_as_manual : (bytes : List ℕ) (version left right : ℕ) → Kerx.HasPairs bytes → Kerx.tuple_count bytes version ≡ 0
      → Rising bytes 28 (Kerx.pair_count bytes)
      → Pair.AsManual (Family'.pair_in kerx bytes version left right)
      (OrderedValue bytes (Kerx.tuple_count bytes version) 28 (Kerx.pair_count bytes) left right) NotCovered
  -- and on class pairs without tuples, of glyphs that both lookups cover, in the reading of them that is taken for the manual's; there only the number can
  -- be cut short
  pub kerx-class_as_manual : (bytes : List ℕ) (version left right : ℕ) → Kerx.HasClasses bytes → Kerx.tuple_count bytes version ≡ 0
      → (glyphs : ℕ) (left_layout right_layout : Lookup.Layout)
      → Legible (drop (Kerx.rows_of bytes) bytes) glyphs left left_layout
      → Legible (drop (Kerx.columns_of bytes) bytes) glyphs right right_layout
      → Covered (drop (Kerx.rows_of bytes) bytes) glyphs left left_layout
      → Covered (drop (Kerx.columns_of bytes) bytes) glyphs right right_layout
      → Pair.AsManual (Family'.pair_in kerx bytes version left right)
      (ClassValue bytes glyphs (Kerx.rows_of bytes) (Kerx.columns_of bytes) (Kerx.array_of bytes) left right left_layout right_layout) CutShort
  -- what kern's machine adds for an entry, along the stream or across it, is the manual's whole list: a number for each place popped, up to an odd one or
  -- the empty stack; the step ends exactly when such a number does not lie in the table
  pub list_as_manual : (bytes : List ℕ) (crossed : Bool) (flags : ℕ) (stack : List ℕ) (depth used : ℕ)
      → WholeList bytes crossed flags stack depth used
  -- one statement about walking a list, with the place of number k and the end rule as parameters, allows one walk; kern's list, kerx's in the crate's
  -- reading and kerx's in the manual's are its instances
  pub walks_one : (bytes : List ℕ) (place_of : ℕ → ℕ) (rule : ℕ → Number''.Number) (stack : List ℕ) (depth used : ℕ) {v w : Walk}
      → Walks bytes place_of rule stack depth used v → Walks bytes place_of rule stack depth used w → v ≡ w
  pub kern-list : (bytes : List ℕ) (crossed : Bool) (flags : ℕ) (stack : List ℕ) (depth used : ℕ) → KernList bytes crossed flags stack depth used
  pub kerx-list : (bytes : List ℕ) (values tuples index : ℕ) (stack : List ℕ) (depth used : ℕ) → KerxList bytes values tuples index stack depth used
  pub manual_list : (bytes : List ℕ) (values index : ℕ) (stack : List ℕ) (depth used : ℕ) → ManualList bytes values index stack depth used

-- What a caller may choose. Demand 2 itself speaks of no choice made: the neighbour rule.
pub record Choosing : Type 0 where
  -- with no bit set passes and runs, of kern and of kerx, are those of the entries that take no choices
  pub by_default : (family : Family'.Family) (table : List ℕ) (start version : ℕ) (l : Line) (along : List ℤ)
      → Family'.pass_call family table start version l along (choices_of 0) ≡ Family'.pass_call family table start version l along unchosen
  pub runs_by_default : (family : Family'.Family) (table : List ℕ) (start : ℕ) (rtl : Bool) (l : Line) (along : List ℤ)
      → Family'.run_call family table start rtl l along (choices_of 0) ≡ Family'.run_call family table start rtl l along unchosen
  -- there every place counts
  pub neighbours_all : (bytes : List ℕ) (pairs : PairTable) (glyphs : List ℕ) (used : ℕ)
      → (worked_by bytes (Ok pairs) glyphs used unchosen.pairs).additions ≡ pairs_below every_place (pair_number bytes pairs) glyphs used
  -- bits without a name are not looked at
  pub unnamed_bits : (bits : ℕ) → choices_of bits ≡ choices_of (bits % 4)
  -- joined pairs: the additions are those of the pairs of two glyphs below 0xFFFF with only 0xFFFF between them, each to the first of the two
  pub joined-pairs : (bytes : List ℕ) (pairs : PairTable) (glyphs : List ℕ) (used : ℕ) → ((k : ℕ) → k < used → get_or glyphs k 0 ≤ 0xFFFF)
      → AddedBy (JoinedPair glyphs used) (pair_number bytes pairs) glyphs (worked_by bytes (Ok pairs) glyphs used Joined).additions
  -- without 0xFFFF among the used glyphs both rules give the same
  pub joined_without_deleted : (bytes : List ℕ) (opened : Result PairTable Unready) (glyphs : List ℕ) (used : ℕ) → ((k : ℕ) → k < used → get_or glyphs k 0 < 0xFFFF)
      → worked_by bytes opened glyphs used Joined ≡ worked_by bytes opened glyphs used Neighbours
  -- without its bit the manual's reading of kerx is not chosen, and every answer is the crate reading's
  pub manual_default : (bits : ℕ) → is_set bits 2 ≡ false → choices_of bits ≡ record { pairs = rule_of bits; reading = Crate }
  -- in the manual's reading a subtable of kerx without tuples, without format 10 in its lookups and without a machine does what it does in the crate's
  pub manual_pairs : (bytes : List ℕ) (version format : ℕ) (glyphs : List ℕ) (used : ℕ) (rule : PairRule) → (format ≡ 1 → ⊥) → has_tuples bytes version ≡ false
      → NoneOfTen bytes
      → Kerx'.worked bytes version format glyphs used (record { pairs = rule; reading = Manual })
      ≡ Kerx'.worked bytes version format glyphs used (record { pairs = rule; reading = Crate })
  -- and a machine's classes are those of the crate's reading, so that it differs in its lists alone
  pub manual_classes : (bytes : List ℕ) → (read_u16 (drop (u32_at bytes 4) bytes) 0 ≡ Some 10 → ⊥) → (glyph : ℕ) {crates manuals : States}
      → extended_by Crate bytes ≡ Some crates → extended_by Manual bytes ≡ Some manuals → class_of bytes manuals glyph ≡ class_of bytes crates glyph
  -- known cases by computation
  pub known-pairs : KnownPairs

-- Anchored marks: format 4 of kerx, with an ankr table.
pub record Marks : Type 0 where
  -- what is written is exact: x and y are the marked glyph's point less the current glyph's, from -65,535 to 65,535, and the distance is the mark's, below
  -- 255
  pub offset-exact : (ankr : List ℕ) (reading : Reading) (s : AnchorState) (index glyph mark current : ℕ) {x y : ℤ} {back : ℕ}
      → written_by ankr reading s index glyph (Numbers.At mark current) ≡ Some (record { x = x; y = y; back = back })
      → Exact ankr reading s index glyph mark current x y back
  -- so is each write of a pass, at a place of its line, by the mark that stands there: it has the glyph of the place where it was set, which is not ahead,
  -- or is place 0 with glyph 0 before any
  pub pass-exact : (table ankr : List ℕ) (start version : ℕ) (l : Line) (along x y : List ℤ) (back : List ℕ) (choices : Choices'.Choices)
      → EachWrite (ExactWrite ankr choices.reading l.glyphs l.used) (Anchored.pass_call table ankr start version l along x y back choices).writes
  -- and what a run leaves is in that range
  pub run_in_range : (ankr bytes : List ℕ) (rtl : Bool) (glyphs : List ℕ) (used : ℕ) (along x y : List ℤ) (back : List ℕ) (choices : Choices'.Choices)
      → InRange used (Anchored.ran_with ankr bytes rtl glyphs used along x y back choices)
  -- answer, heads and adjustments of an anchored run are those of the run without anchors, whatever the ankr table, where that is no longer than a table
  -- may be and the three slices are as long as the room
  pub anchored-run : (table ankr : List ℕ) (start : ℕ) (l : Line) (along x y : List ℤ) (back : List ℕ) (choices : Choices'.Choices) → length ankr ≤ table_limit
      → are_long (length l.glyphs) x y back ≡ true → (rtl : Bool)
      → (Anchored.run_call table ankr start rtl l along x y back choices).ran ≡ Family'.run_call kerx table start rtl l along choices
  -- and an anchored pass by a subtable that is not of format 4 is the pass without anchors, and writes nothing to them
  pub anchored-pass : (table ankr : List ℕ) (start : ℕ) (l : Line) (along x y : List ℤ) (back : List ℕ) (choices : Choices'.Choices) → length ankr ≤ table_limit
      → are_long (length l.glyphs) x y back ≡ true → (version : ℕ)
      → ((s : Subtable'.Subtable) → head_in false version 0 (drop start table) ≡ Some s → s.format ≡ 4 → ⊥)
      → Anchored.pass_call table ankr start version l along x y back choices ≡ adding (Family'.pass_call kerx table start version l along choices)
  -- the state table begins 12 bytes into the subtable, and action type and action table are told behind its head, as the manual says
  pub marks_as_manual : (bytes : List ℕ) (version : ℕ) {states : States} → Kerx.HasFormat bytes 4 32 → extended_by Crate (drop 12 bytes) ≡ Some states
      → machine_of bytes version Crate
      ≡ Ok (record { states = states; reading = Crate; action = action_type (drop 12 bytes); control = action_table (drop 12 bytes) })
  -- record i of the action table lies where the manual says, and is that of index 2 i; one past the table can't be read
  pub record_by_manual : (bytes : List ℕ) (anchoring : Anchoring) (i : ℕ) → anchoring.action ≡ 1 → anchoring.control ≡ action_table bytes
      → action_table bytes + i * 4 + 4 ≤ length bytes → numbers_of bytes anchoring (i * 2) ≡ Numbers.At (mark_point bytes i) (current_point bytes i)
  pub record_past_manual : (bytes : List ℕ) (anchoring : Anchoring) (i : ℕ) → anchoring.action ≡ 1 → anchoring.control ≡ action_table bytes
      → length bytes < action_table bytes + i * 4 + 4 → numbers_of bytes anchoring (i * 2) ≡ Numbers.Short
  -- a glyph's points lie where the manual says, by a lookup that crate and manual read alike
  pub points_as_manual : (ankr : List ℕ) (glyphs glyph : ℕ) (layout : Lookup.Layout) (number : ℕ) → 12 ≤ length ankr
      → read_u16 (Ankr.lookup_part ankr) 0 ≡ Some (Lookup.format_number layout) → Lookup.Alike (Ankr.lookup_part ankr) glyphs glyph layout
      → Ankr.AsManual ankr glyphs glyph layout number
  -- known cases by computation
  pub known-marks : KnownMarks

-- The order of a kerx list's subtables: it does not matter to kerning.
pub record Orders : Type 0 where
  -- two tables whose lists have the same version and the same subtables, in any two orders, leave the same along numbers: in the crate's reading and in the
  -- manual's, with neighbours and with joined pairs, in either direction. No call is refused, the head limit isn't reached, each subtable lies wholly in the
  -- table, and every byte read or tried for it lies inside its stated size
  pub order_free : (rtl : Bool) (l : Line) (along : List ℤ) (choices : Choices'.Choices) (one other : List ℕ) (start start' version : ℕ) (parts parts' : List (List ℕ))
      → ListHas one start version parts → ListHas other start' version parts' → Reordered parts parts' → NotRefused one start l along
      → NotRefused other start' l along → BelowLimit parts → Each AsStated parts → Each (ReadsInside rtl version l.glyphs l.used choices) parts
      → (Family'.run_call kerx one start rtl l along choices).along ≡ (Family'.run_call kerx other start' rtl l along choices).along
  -- on these conditions a run leaves the sum of what each subtable contributes by its own bytes alone
  pub run-sums : (rtl : Bool) (l : Line) (along : List ℤ) (choices : Choices'.Choices) (table : List ℕ) (start version : ℕ) (parts : List (List ℕ))
      → ListHas table start version parts → NotRefused table start l along → BelowLimit parts → Each AsStated parts
      → Each (ReadsInside rtl version l.glyphs l.used choices) parts
      → (Family'.run_call kerx table start rtl l along choices).along
      ≡ add_all (all_add (alone rtl version l.glyphs l.used choices) parts) (zeros l.used) ++ drop l.used along
  -- the conditions on subtables can be met, by ordered pairs and a machine with a list, and each is needed
  pub stated_met : Each AsStated (one_pair 34 10 ∷ good_list ∷ [])
  pub inside_met : Each (ReadsInside false 2 line 2 unchosen) (one_pair 34 10 ∷ good_list ∷ [])
  pub needs_each : NeedsEach

-- The report on kerned lines.
pub record Reports : Type 0 where
  -- one that is DONE says of each line the sum of its used along numbers, the largest and the smallest of them, and the same of all lines
  pub reported : (r : Lines) (page : Page) → report_answer r page ≡ Done → Reported r (report_leaves r page)
  -- a refused one leaves the page as it was
  pub refused_stays : (r : Lines) (page : Page) (why : Refusal) → report_answer r page ≡ Refused why → report_leaves r page ≡ page

pub record Demand2 : Type 0 where
  pub lookups : Lookups
  pub reasons : Reasons
  pub mends : Mends
  pub state_tables : StateTables
  pub verbs : Verbs
  pub subtable_lists : SubtableLists
  pub chains : Chains
  pub older : Older
  pub features : Features
  pub indexes : Indexes
  pub kerning : Kerning
  pub choosing : Choosing
  pub marks : Marks
  pub orders : Orders
  pub reports : Reports
  -- the index of a language is that of the first tag whose bytes are the name; it is found where all tags up to it lie in the table, none of them empty at
  -- its end
  pub index_as_manual : (table : List ℕ) (start : ℕ) (name : List ℕ) → length table ≤ table_limit
      → Ltag.AsManual (drop start table) name (language_index table start name)
  -- reading from a start on is reading that much further behind
  pub u8_from : (table : List ℕ) (start at : ℕ) → u8_at (drop start table) at ≡ u8_at table (start + at)
  pub u16_from : (table : List ℕ) (start at : ℕ) → u16_at (drop start table) at ≡ u16_at table (start + at)
  pub u32_from : (table : List ℕ) (start at : ℕ) → u32_at (drop start table) at ≡ u32_at table (start + at)
  -- document 01's known answers that it marks, by computation
  pub known-answers : AllKnown
