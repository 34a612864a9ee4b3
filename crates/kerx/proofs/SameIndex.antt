-- A pass by an index is the plain pass wherever each entry is that glyph's class; a filled index is such a one; and so filling and passing is passing.
use Rattle.std.specs.Prelude.{Option, Some, None, Result, Ok, Err}
use Rattle.answers.specs.declared.Refusal.{Refusal}
use Prim.Native.Nat.{ℕ, ◌+◌, ◌≤◌, ◌/◌, ◌%◌}
use mathlib.Core.Path.{◌≡◌, refl, sym, ◌∙◌, ap, ap₂, subst⁻¹}
use mathlib.Core.Bool.{Bool, true, false, cond}
use mathlib.Core.List.{List}
use mathlib.Core.Logic.{◌⊎◌, ⊎_elim}
use native.Mathlib.Omega.{arith}
use lib.Dec.{eqb}
use lib.IntN.{ℤ}
use lib.ListN.{length, drop}
use lib.Seq.{drop-drop}
use borrow.Author.Tests.{le-ltb, eq-eqb}
use Rattle.laws.proofs.Lists.{length-tab}
use Rattle.answers.specs.Refuse.{refuse}
use Rattle.answers.specs.declared.Answer.TheVariants as Answer'
use Rattle.answers.specs.declared.Refusal.TheVariants as Refusal'
use Rattle.parse.specs.Reads.{read_u32}
use Rattle.parse.specs.Use.{on_u32}
use Rattle.tables.specs.declared.units.Reading.{Reading}
use Rattle.state_tables.specs.Classes.{class_of}
use Rattle.state_tables.specs.States.{extended_by}
use Rattle.state_tables.specs.declared.States.{States}
use Rattle.line.specs.Line.{Line}
use Rattle.indexes.specs.Index.{classes_by, index_limit, index_test, is_another, classes_below, Filled, filled_by, fill_tests, fill_call}
use Rattle.indexes.proofs.Laws.{right_index}
use Rattle.indexes.proofs.Filling.{passed_entries}
use Rattle.indexes.proofs.Same.{filled_right}
use Rattle.kerning.specs.declared.choices.Choices.{Choices}
use Rattle.kerning_machine.specs.Machine as Kerning'
use Rattle.kerning_machine.specs.declared.Kerning.{Kerning}
use Rattle.kerx_machine.specs.Machine as Machine'
use Rattle.kerx_machine.specs.Machine.{body_of, tuples_of, is_tupled, entries_of}
use Rattle.anchor_machine.specs.Machine as Anchor'
use Rattle.anchor_machine.specs.declared.Anchoring.{Anchoring}
use Rattle.kerning.specs.Heads.{barred}
use Rattle.kerning.specs.declared.heads.Unready.{Unready}
use Rattle.kerning.specs.declared.heads.Unready.TheVariants.{Short, Tupled}
use Rattle.kerning_lists.specs.Walk.{on_head}
use Rattle.kerning_lists.specs.declared.Subtable.{Subtable}
use Rattle.kerx.specs.Heads.{head_in}
use Rattle.kerx.specs.Kerx.{worked}
use Rattle.kerx.specs.Anchored.{Marked, adding, writing, neither, marked_by, anchors_of, takes_pass, pass_tests, worked_with, passed_with, pass_call}
use Rattle.kerx.specs.Indexed.{machine_tests, kerning_tests, anchoring_tests, kerned_by, anchored_by, kerning_indexed, anchoring_indexed, worked_indexed, passed_indexed, indexed_call}
use Rattle.kerx.specs.RightIndex.{Right, HasMachine}

-- what tuples did not refuse
not_barred : {T : Type 0} (tupled : Bool) (opened : Result T Unready) (ready : T) → barred tupled opened ≡ Ok ready → opened ≡ Ok ready
unfolding barred
not_barred false opened ready e = e
not_barred true (Ok other) ready e = absurd cc
not_barred true (Err why) ready e = absurd cc

-- the states of format 1's machine are those of the extended state table behind the head
module _ (bytes : List ℕ) (version : ℕ) (reading : Reading) (kerning : Kerning) where
  abbrev values_use : (tuples : ℕ) → States → Option ℕ → Result Kerning Unready
  values_use tuples states read = on_u32 read (λ values. Ok (record { states = states; reading = entries_of reading values tuples })) (Err Short)

  from_values : (tuples : ℕ) (states : States) (read : Option ℕ) → values_use tuples states read ≡ Ok kerning → states ≡ kerning.states
  from_values tuples states (Some values) e =
      let same : ◌≡◌ {A = Kerning} (record { states = states; reading = entries_of reading values tuples }) kerning = cc in
      ap (λ (k : Kerning). k.states) same
  from_values tuples states None e = absurd cc

  from_made : (tuples : ℕ) (made : Option States) → Machine'.on_made made (λ states. values_use tuples states (read_u32 (body_of bytes) 16)) ≡ Ok kerning
      → made ≡ Some kerning.states
  from_made tuples (Some states) e = ap (λ (s : States). Some s) (from_values tuples states (read_u32 (body_of bytes) 16) e)
  from_made tuples None e = absurd cc

  abbrev made_use : (tuples : ℕ) → Bool → Result Kerning Unready
  made_use tuples one = cond one (Machine'.on_made (extended_by reading (body_of bytes)) (λ states. values_use tuples states (read_u32 (body_of bytes) 16))) (Err Short)

  from_format : (tuples : ℕ) (one : Bool) → made_use tuples one ≡ Ok kerning → extended_by reading (body_of bytes) ≡ Some kerning.states
  from_format tuples true e = from_made tuples (extended_by reading (body_of bytes)) e
  from_format tuples false e = absurd cc

  abbrev tuples_use : (coverage : ℕ) → Option ℕ → Result Kerning Unready
  tuples_use coverage read = on_u32 read (λ tuples. made_use tuples (eqb (coverage % 256) 1)) (Err Short)

  from_tuples : (coverage : ℕ) (read : Option ℕ) → tuples_use coverage read ≡ Ok kerning → extended_by reading (body_of bytes) ≡ Some kerning.states
  from_tuples coverage (Some tuples) e = from_format tuples (eqb (coverage % 256) 1) e
  from_tuples coverage None e = absurd cc

  from_coverage : (read : Option ℕ) → on_u32 read (λ coverage. tuples_use coverage (tuples_of bytes version)) (Err Short) ≡ Ok kerning
      → extended_by reading (body_of bytes) ≡ Some kerning.states
  from_coverage (Some coverage) e = from_tuples coverage (tuples_of bytes version) e
  from_coverage None e = absurd cc

  kerning_states : Machine'.opened bytes version reading ≡ Ok kerning → extended_by reading (body_of bytes) ≡ Some kerning.states
  unfolding Machine'.opened Machine'.opened_any
  kerning_states e = from_coverage (read_u32 bytes 4) (not_barred (is_tupled bytes version reading) (Machine'.opened_any bytes version reading) kerning e)

-- and so are those of format 4's
module _ (bytes : List ℕ) (version : ℕ) (reading : Reading) (anchoring : Anchoring) where
  abbrev flags_use : States → Option ℕ → Result Anchoring Unready
  flags_use states read =
      on_u32 read (λ flags. Ok (record { states = states; reading = reading; action = flags / 0x40000000; control = flags % 0x1000000 })) (Err Short)

  from_flags : (states : States) (read : Option ℕ) → flags_use states read ≡ Ok anchoring → states ≡ anchoring.states
  from_flags states (Some flags) e =
      let same : ◌≡◌ {A = Anchoring} (record { states = states; reading = reading; action = flags / 0x40000000; control = flags % 0x1000000 }) anchoring = cc in
      ap (λ (a : Anchoring). a.states) same
  from_flags states None e = absurd cc

  from_head : (made : Option States) → Anchor'.on_made made (λ states. flags_use states (read_u32 (body_of bytes) 16)) (Err Short) ≡ Ok anchoring
      → made ≡ Some anchoring.states
  from_head (Some states) e = ap (λ (s : States). Some s) (from_flags states (read_u32 (body_of bytes) 16) e)
  from_head None e = absurd cc

  anchoring_states : anchors_of bytes version reading ≡ Ok anchoring → extended_by reading (body_of bytes) ≡ Some anchoring.states
  unfolding anchors_of Anchor'.opened
  anchoring_states e =
      from_head (extended_by reading (body_of bytes)) (not_barred (is_tupled bytes version reading) (Anchor'.opened reading (body_of bytes)) anchoring e)

-- the work of a machine by a right index, where INDEX refuses nothing
module _ (ankr table : List ℕ) (start version : ℕ) (glyphs : List ℕ) (used : ℕ) (choices : Choices) (index : List ℕ) (class_start : ℕ)
    (right : Right table start choices.reading index)
    (kept : (index_test (length index) (is_another true (body_of (drop start table)) start class_start)).holds ≡ false) where
  abbrev bytes : List ℕ
  bytes = drop start table

  abbrev another : Bool
  another = is_another true (body_of bytes) start class_start

  right_classes : (states : States) → extended_by choices.reading (body_of bytes) ≡ Some states
      → classes_by index (class_of (body_of bytes) states) ≡ class_of (body_of bytes) states
  right_classes states e = right_index index (class_of (body_of bytes) states) (λ glyph h. right states glyph e h)

  same_kerned : (o : Result Kerning Unready) → Machine'.opened bytes version choices.reading ≡ o
      → kerned_by (refuse (kerning_tests o (length index) another)) (Kerning'.worked_indexed index (body_of bytes) o glyphs used)
      ≡ Kerning'.worked_by (body_of bytes) o glyphs used
  unfolding machine_tests refuse Kerning'.worked_indexed Kerning'.worked_by Kerning'.passed_indexed Kerning'.passed
  same_kerned (Ok kerning) e =
      rw kept
      (ap (λ (c : ℕ → ℕ). Kerning'.passed_by c (body_of bytes) kerning glyphs used)
      (right_classes kerning.states (kerning_states bytes version choices.reading kerning e)))
  same_kerned (Err Short) e = refl
  same_kerned (Err Tupled) e = refl

  same-anchored : (o : Result Anchoring Unready) → anchors_of bytes version choices.reading ≡ o
      → anchored_by (refuse (anchoring_tests o (length index) another)) (Anchor'.worked_indexed index ankr (body_of bytes) o glyphs used)
      ≡ Anchor'.worked_by ankr (body_of bytes) o glyphs used
  unfolding machine_tests refuse Anchor'.worked_indexed Anchor'.worked_by Anchor'.passed_indexed Anchor'.passed
  same-anchored (Ok anchoring) e =
      rw kept
      (ap (λ (c : ℕ → ℕ). Anchor'.passed_by c ankr (body_of bytes) anchoring glyphs used)
      (right_classes anchoring.states (anchoring_states bytes version choices.reading anchoring e)))
  same-anchored (Err Short) e = refl
  same-anchored (Err Tupled) e = refl

  same-one : worked_indexed ankr bytes start version 1 glyphs used choices.reading index class_start ≡ worked_with ankr bytes version 1 glyphs used choices
  unfolding worked_indexed worked_with worked kerning_indexed Machine'.worked Machine'.worked_indexed
  same-one = ap adding (same_kerned (Machine'.opened bytes version choices.reading) refl)

  same_four : worked_indexed ankr bytes start version 4 glyphs used choices.reading index class_start ≡ worked_with ankr bytes version 4 glyphs used choices
  unfolding worked_indexed worked_with anchoring_indexed
  same_four = ap writing (same-anchored (anchors_of bytes version choices.reading) refl)

  Same : (format : ℕ) → Type 0
  Same format = worked_indexed ankr bytes start version format glyphs used choices.reading index class_start ≡ worked_with ankr bytes version format glyphs used choices

  same_format : (format : ℕ) → (format ≡ 1) ⊎ (format ≡ 4)
      → worked_indexed ankr bytes start version format glyphs used choices.reading index class_start ≡ worked_with ankr bytes version format glyphs used choices
  unfolding Same
  same_format format has = ⊎_elim (λ (e : format ≡ 1). subst⁻¹ Same e same-one) (λ (e : format ≡ 4). subst⁻¹ Same e same_four) has

  same-passed : HasMachine table start version → passed_indexed ankr bytes start version glyphs used choices.reading index class_start ≡ passed_with ankr bytes version glyphs used choices
  unfolding passed_indexed passed_with
  same-passed has = go (head_in false version 0 bytes) refl
    where
      go : (h : Option Subtable) → head_in false version 0 bytes ≡ h
          → on_head h (λ s. worked_indexed ankr bytes start version s.format glyphs used choices.reading index class_start) (neither (Answer'.Refused Refusal'.Head))
          ≡ on_head h (λ s. worked_with ankr bytes version s.format glyphs used choices) (neither (Answer'.Refused Refusal'.Head))
      go (Some s) e = same_format s.format (has s e)
      go None e = refl

module _ (table ankr : List ℕ) (start version : ℕ) (l : Line) (along x y : List ℤ) (back : List ℕ) (choices : Choices) where
  -- each entry is that glyph's class, and INDEX refuses nothing: the call is the plain one, whatever it answers
  pub same-kerx_call : (index : List ℕ) (class_start : ℕ) → HasMachine table start version → Right table start choices.reading index
      → (index_test (length index) (is_another true (body_of (drop start table)) start class_start)).holds ≡ false
      → indexed_call table ankr start version l along x y back choices.reading index class_start ≡ pass_call table ankr start version l along x y back choices
  unfolding indexed_call pass_call
  same-kerx_call index class_start has right kept =
      ap (λ (m : Marked). marked_by (refuse (pass_tests (length table) (length ankr) (takes_pass l along x y back))) m)
      (same-passed ankr table start version l.glyphs l.used choices index class_start right kept has)

  -- what filling leaves, once it was not refused
  module _ (index : List ℕ) (was : ℕ) where
    abbrev body : List ℕ
    body = body_of (drop start table)

    abbrev filled : Filled
    filled = fill_call table (start + 12) choices.reading index was

    there : drop (start + 12) table ≡ body
    there = sym (drop-drop 12 start table)

    own-start : (states : States) (offset : ℕ) → length index ≤ 65535 → read_u32 body 4 ≡ Some offset
        → (index_test (length (classes_below (drop (start + 12) table) states (length index))) (is_another true body start (start + 12 + offset))).holds ≡ false
    unfolding index_test index_limit is_another classes_below
    own-start states offset few read =
        rw (
          read,
          eq-eqb (start + 12 + offset) (start + 12 + offset) refl,
          length-tab (class_of (drop (start + 12) table) states) (length index),
          le-ltb 65535 (length index) few,
        )

    filled_is_right : (states : States) → extended_by choices.reading (drop (start + 12) table) ≡ Some states
        → Right table start choices.reading (classes_below (drop (start + 12) table) states (length index))
    filled_is_right states m states' glyph e h =
        let q : Some states ≡ Some states' = sym m ∙ ap (extended_by choices.reading) there ∙ e in
        let same : states ≡ states' = cc in
        filled_right (drop (start + 12) table) states (length index) glyph h ∙ ap₂ (λ (b : List ℕ) (s : States). class_of b s glyph) there same

    Goal : Filled → Type 0
    Goal f = indexed_call table ankr start version l along x y back choices.reading f.index f.start ≡ pass_call table ankr start version l along x y back choices

    pub fill_then_kerx_pass : HasMachine table start version → filled.answer ≡ Answer'.Done
        → indexed_call table ankr start version l along x y back choices.reading filled.index filled.start
        ≡ pass_call table ankr start version l along x y back choices
    unfolding fill_call filled_by Goal
    fill_then_kerx_pass has done =
        go (refuse (fill_tests (length table) (start + 12) (length index) (extended_by choices.reading (drop (start + 12) table)))) refl
        (extended_by choices.reading (drop (start + 12) table)) refl
        (read_u32 (drop (start + 12) table) 4) refl
      where
        go : (c : Result Unit Refusal) → refuse (fill_tests (length table) (start + 12) (length index) (extended_by choices.reading (drop (start + 12) table))) ≡ c → (m : Option States)
            → extended_by choices.reading (drop (start + 12) table) ≡ m → (r : Option ℕ) → read_u32 (drop (start + 12) table) 4 ≡ r
            → indexed_call table ankr start version l along x y back choices.reading filled.index filled.start
            ≡ pass_call table ankr start version l along x y back choices
        go (Err why) c m e r f =
            let q : filled.answer ≡ Answer'.Refused why = rw (c, fill_call) in
            let z : ◌≡◌ {A = ℕ} 0 1 = cc in absurd (omega arith)
        go (Ok tt) c None e r f =
            let q : filled.answer ≡ Answer'.Refused Refusal'.Head = rw (c, e, fill_call, filled_by) in
            let z : ◌≡◌ {A = ℕ} 0 1 = cc in absurd (omega arith)
        go (Ok tt) c (Some states) e None f =
            let q : filled.answer ≡ Answer'.Refused Refusal'.Head = rw (c, e, f, fill_call, filled_by) in
            let z : ◌≡◌ {A = ℕ} 0 1 = cc in absurd (omega arith)
        go (Ok tt) c (Some states) e (Some offset) f =
            let whole : filled ≡ record { answer = Answer'.Done; index = classes_below (drop (start + 12) table) states (length index); start = start + 12 + offset } =
            rw (c, e, f, fill_call, filled_by) in
            subst⁻¹ Goal whole
            (same-kerx_call (classes_below (drop (start + 12) table) states (length index)) (start + 12 + offset) has (filled_is_right states e)
            (own-start states offset
            (passed_entries (length table) (start + 12) (length index) (extended_by choices.reading (drop (start + 12) table)) (sym c) refl)
            (sym (ap (λ (x : List ℕ). read_u32 x 4) there) ∙ f)))
