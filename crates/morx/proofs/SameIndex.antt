-- A pass by an index is the plain pass wherever each entry is that glyph's class; a filled index is such a one; and so filling and passing is passing.
use Rattle.std.specs.Prelude.{Option, Some, None, Result, Ok, Err}
use Rattle.answers.specs.declared.Refusal.{Refusal}
use Prim.Native.Nat.{ℕ, ◌+◌, ◌<◌, ◌≤◌}
use mathlib.Core.Path.{◌≡◌, refl, sym, ◌∙◌, ap, ap₂, subst⁻¹}
use mathlib.Core.Bool.{Bool, true, false, cond}
use mathlib.Core.List.{List, [], ◌∷◌, ◌++◌}
use native.Mathlib.Omega.{arith}
use lib.ListN.{length, get_or, drop}
use lib.Seq.{drop-drop}
use borrow.Author.Tests.{le-ltb, eq-eqb}
use Rattle.laws.proofs.Lists.{length-tab}
use Rattle.answers.specs.Refuse.{Test, refuse, table_test}
use Rattle.answers.specs.declared.Answer.TheVariants as Answer'
use Rattle.answers.specs.declared.Refusal.TheVariants as Refusal'
use Rattle.answers.proofs.Refusals.{refuse-here, refuse-later}
use Rattle.parse.specs.Reads.{read_u32}
use Rattle.parse.specs.Use.{on_u32}
use Rattle.tables.specs.declared.units.Reading.TheVariants.{Crate}
use Rattle.state_tables.specs.Classes.{class_of}
use Rattle.state_tables.specs.States.{extended_by, extended_at}
use Rattle.state_tables.specs.declared.States.{States}
use Rattle.state_tables.proofs.Laws.{extended_crate}
use Rattle.line.specs.Line.{Line}
use Rattle.line.specs.Test.{line_test}
use Rattle.machine.specs.Head.{has_kind, body_of}
use Rattle.machine.specs.Pass as Pass
use Rattle.machine.specs.Call as Call'
use Rattle.machine.specs.Call.{head_test, pass_tests, if_passed, on_made}
use Rattle.machine.specs.Machine.{Machine, refused_pass, passed, subtable_of, pass_call}
use Rattle.indexes.specs.Index.{indexed, index_limit, index_test, is_another, classes_below, Filled, filled_by, fill_tests, fill_call}
use Rattle.indexes.proofs.Laws.{right_index}
use Rattle.indexes.proofs.Filling.{passed_entries}
use Rattle.indexes.proofs.Same.{same-pass, filled_right}
use Rattle.rearrangement.specs.Calls.{rearrangement}
use Rattle.contextual.specs.Calls as Contextual'
use Rattle.contextual.specs.Calls.{contextual}
use Rattle.ligature.specs.Calls as Ligature'
use Rattle.ligature.specs.Calls.{ligature}
use Rattle.insertion.specs.Calls as Insertion'
use Rattle.insertion.specs.Calls.{insertion}
use Rattle.chains.specs.declared.Edition.TheVariants.{Morx}
use Rattle.morx.specs.Kinds.{kind_at, subtable_of_kind, any_subtable}
use Rattle.morx.specs.Indexed.{indexed_of_kind, has_classes, indexed_tests, indexed_call}
use Rattle.morx.specs.RightIndex.{Right}
use Rattle.morx.specs.declared.Kind.{Kind}
use Rattle.morx.specs.declared.Kind.TheVariants.{Rearrangement, Contextual, Ligature, NonContextual, Insertion, OldRearrangement, OldNonContextual, LeftOut}

-- what a machine opens is the extended state table behind the head
Opens : {S : Type 0} → Machine S → List ℕ → Type 0
Opens machine bytes = (states : States) → machine.opened bytes ≡ Some states → extended_at (body_of bytes) ≡ Some states

opens_kind : (bytes : List ℕ) (kind : ℕ) (states : States) → Call'.opened bytes kind ≡ Some states → extended_at (body_of bytes) ≡ Some states
unfolding Call'.opened
opens_kind bytes kind states = go (has_kind bytes kind)
  where
    go : (b : Bool) → cond b (extended_at (body_of bytes)) None ≡ Some states → extended_at (body_of bytes) ≡ Some states
    go true e = e
    go false e = let z : ◌≡◌ {A = ℕ} 0 1 = cc in absurd (omega arith)

opens-behind : (read : Option ℕ) (bytes : List ℕ) (kind : ℕ) (states : States)
    → on_u32 read (λ list. Call'.opened bytes kind) None ≡ Some states → extended_at (body_of bytes) ≡ Some states
opens-behind (Some n) bytes kind states e = opens_kind bytes kind states e
opens-behind None bytes kind states e = let z : ◌≡◌ {A = ℕ} 0 1 = cc in absurd (omega arith)

-- the work of a machine by a right index
module _ {S : Type 0} (machine : Machine S) (index bytes : List ℕ) (l : Line) (opens : Opens machine bytes)
    (right : (states : States) (glyph : ℕ) → extended_at (body_of bytes) ≡ Some states → glyph < length index → get_or index glyph 0 ≡ class_of (body_of bytes) states glyph) where
  same-work : (subtable_of (indexed index machine)).worked bytes l ≡ (subtable_of machine).worked bytes l
  unfolding Opens
  same-work = go (machine.opened bytes) refl
    where
      go : (m : Option States) → machine.opened bytes ≡ m
          → on_made refused_pass m (λ states. passed (indexed index machine) (body_of bytes) states l) ≡ on_made refused_pass m (λ states. passed machine (body_of bytes) states l)
      go (Some states) e =
          same-pass machine index (body_of bytes) states l (right_index index (class_of (body_of bytes) states) (λ glyph h. right states glyph (opens states e) h))
      go None e = refl

-- a last test that does not hold changes nothing
last_test : (ts : List Test) (t : Test) → t.holds ≡ false → refuse (ts ++ t ∷ []) ≡ refuse ts
last_test [] t e = refuse-later t [] e
last_test (u ∷ ts) t e = go (last_test ts t e) u.holds refl
  where
    go : refuse (ts ++ t ∷ []) ≡ refuse ts → (b : Bool) → u.holds ≡ b → refuse (u ∷ (ts ++ t ∷ [])) ≡ refuse (u ∷ ts)
    go later true h = refuse-here u (ts ++ t ∷ []) h ∙ sym (refuse-here u ts h)
    go later false h = refuse-later u (ts ++ t ∷ []) h ∙ later ∙ sym (refuse-later u ts h)

module _ (table : List ℕ) (start : ℕ) (l : Line) (index : List ℕ) (class_start : ℕ) (right : Right table start index) where
  abbrev bytes : List ℕ
  bytes = drop start table

  abbrev another : Bool
  another = is_another (has_classes (kind_at Morx bytes)) (body_of bytes) start class_start

  same_kind : (kind : Kind) → (indexed_of_kind index kind).worked bytes l ≡ (subtable_of_kind kind).worked bytes l
  unfolding indexed_of_kind subtable_of_kind Opens Contextual'.opened Ligature'.opened Insertion'.opened
  same_kind Rearrangement = same-work rearrangement index bytes l (λ states e. opens_kind bytes 0 states e) right
  same_kind Contextual = same-work contextual index bytes l (λ states e. opens-behind (read_u32 (body_of bytes) 16) bytes 1 states e) right
  same_kind Ligature = same-work ligature index bytes l (λ states e. opens-behind (read_u32 (body_of bytes) 24) bytes 2 states e) right
  same_kind NonContextual = refl
  same_kind Insertion = same-work insertion index bytes l (λ states e. opens-behind (read_u32 (body_of bytes) 16) bytes 5 states e) right
  same_kind OldRearrangement = refl
  same_kind OldNonContextual = refl
  same_kind LeftOut = refl

  -- each entry is that glyph's class, and INDEX refuses nothing: the call is the plain one, whatever it answers
  pub same_call : (index_test (length index) another).holds ≡ false → indexed_call table start l index class_start ≡ pass_call (any_subtable Morx) table start l
  unfolding indexed_call pass_call indexed_tests pass_tests
  same_call e =
      ap (λ (c : Result Unit Refusal). if_passed refused_pass c ((indexed_of_kind index (kind_at Morx bytes)).worked bytes l))
      (last_test (table_test (length table) ∷ line_test l ∷ head_test ((any_subtable Morx).is_open bytes) ∷ []) (index_test (length index) another) e)
      ∙ ap
      (λ (p : Pass.Passed).
      if_passed refused_pass (refuse (table_test (length table) ∷ line_test l ∷ head_test ((any_subtable Morx).is_open bytes) ∷ [])) p)
      (same_kind (kind_at Morx bytes))

-- what filling leaves, once it was not refused
module _ (table : List ℕ) (start : ℕ) (index : List ℕ) (was : ℕ) (l : Line) where
  abbrev body : List ℕ
  body = body_of (drop start table)

  abbrev filled : Filled
  filled = fill_call table (start + 12) Crate index was

  there : drop (start + 12) table ≡ body
  there = sym (drop-drop 12 start table)

  own-start : (states : States) (offset : ℕ) → has_classes (kind_at Morx (drop start table)) ≡ true → length index ≤ 65535 → read_u32 body 4 ≡ Some offset
      → (index_test (length (classes_below (drop (start + 12) table) states (length index))) (is_another (has_classes (kind_at Morx (drop start table))) body start (start + 12 + offset))).holds ≡ false
  unfolding index_test index_limit is_another classes_below
  own-start states offset has few read =
      rw (
        has,
        read,
        eq-eqb (start + 12 + offset) (start + 12 + offset) refl,
        length-tab (class_of (drop (start + 12) table) states) (length index),
        le-ltb 65535 (length index) few,
      )

  filled_is_right : (states : States) → extended_by Crate (drop (start + 12) table) ≡ Some states → Right table start (classes_below (drop (start + 12) table) states (length index))
  filled_is_right states m states' glyph e h =
      let q : Some states ≡ Some states' = sym m ∙ ap (extended_by Crate) there ∙ extended_crate body ∙ e in
      let same : states ≡ states' = cc in
      filled_right (drop (start + 12) table) states (length index) glyph h ∙ ap₂ (λ (b : List ℕ) (s : States). class_of b s glyph) there same

  Goal : Filled → Type 0
  Goal f = indexed_call table start l f.index f.start ≡ pass_call (any_subtable Morx) table start l

  pub fill_then_pass : has_classes (kind_at Morx (drop start table)) ≡ true → filled.answer ≡ Answer'.Done
      → indexed_call table start l filled.index filled.start ≡ pass_call (any_subtable Morx) table start l
  unfolding fill_call filled_by Goal
  fill_then_pass has done =
      go (refuse (fill_tests (length table) (start + 12) (length index) (extended_by Crate (drop (start + 12) table)))) refl (extended_by Crate (drop (start + 12) table)) refl
      (read_u32 (drop (start + 12) table) 4) refl
    where
      go : (c : Result Unit Refusal) → refuse (fill_tests (length table) (start + 12) (length index) (extended_by Crate (drop (start + 12) table))) ≡ c → (m : Option States)
          → extended_by Crate (drop (start + 12) table) ≡ m → (r : Option ℕ) → read_u32 (drop (start + 12) table) 4 ≡ r
          → indexed_call table start l filled.index filled.start ≡ pass_call (any_subtable Morx) table start l
      go (Err why) c m e r f =
          let q : filled.answer ≡ Answer'.Refused why = rw (c, fill_call) in
          let z : ◌≡◌ {A = ℕ} 0 1 = cc in absurd (omega arith)
      go (Ok tt) c None e r f =
          let q : filled.answer ≡ Answer'.Refused Refusal'.Head = rw (c, e, fill_call, filled_by) in
          let z : ◌≡◌ {A = ℕ} 0 1 = cc in absurd (omega arith)
      go (Ok tt) c (Some states) e None f =
          let q : filled.answer ≡ Answer'.Refused Refusal'.Head = rw (c, e, f, fill_call, filled_by) in
          let z : ◌≡◌ {A = ℕ} 0 1 = cc in absurd (omega arith)
      go (Ok tt) c (Some states) e (Some offset) f =
          let whole : filled ≡ record { answer = Answer'.Done; index = classes_below (drop (start + 12) table) states (length index); start = start + 12 + offset } =
          rw (c, e, f, fill_call, filled_by) in
          subst⁻¹ Goal whole
          (same_call table start l (classes_below (drop (start + 12) table) states (length index)) (start + 12 + offset) (filled_is_right states e)
          (own-start states offset has (passed_entries (length table) (start + 12) (length index) (extended_by Crate (drop (start + 12) table)) (sym c) refl)
          (sym (ap (λ (x : List ℕ). read_u32 x 4) there) ∙ f)))
