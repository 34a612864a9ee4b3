-- Calls of a family's pass and run, its pairs, and its list as a cursor goes through it.
use Rattle.std.specs.Prelude.{Option, Some, None, Result, Ok, Err}
use Rattle.tables.specs.declared.lookup.Why.{Why}
use Prim.Native.Nat.{ℕ, ◌+◌}
use mathlib.Core.Path.{◌≡◌, refl, sym, ◌∙◌, ap, ap₂}
use mathlib.Core.Bool.{Bool, true, false}
use mathlib.Core.List.{List, [], ◌++◌, map}
use lib.Dec.{eqb}
use lib.IntN.{ℤ}
use lib.ListN.{length, drop}
use lib.Seq.{drop-drop}
use Rattle.laws.specs.Backward.{backward}
use Rattle.answers.specs.Refuse.{refuse}
use Rattle.answers.specs.declared.Refusal.{Refusal}
use Rattle.answers.specs.declared.Refusal.TheVariants as Refusal'
use Rattle.answers.specs.declared.Answer.{Answer}
use Rattle.answers.specs.declared.Answer.TheVariants as Answer'
use Rattle.line.specs.Line.{Line}
use Rattle.kerning.specs.Additions.{Addition, add_all}
use Rattle.kerning.specs.Line.{kerning_tests}
use Rattle.kerning.specs.Choices.{choices_of, unchosen}
use Rattle.kerning.specs.declared.choices.Choices.{Choices}
use Rattle.kerning.proofs.Choosing.{none_chosen}
use Rattle.kerning.proofs.Adding.{add_all-none}
use Rattle.kerning_lists.specs.Walk.{heads_from, visited, walk_answer, list_bytes}
use Rattle.kerning_lists.specs.Run.{zeros, turned_back, contribution, contributions, used_part, run_tests}
use Rattle.kerning_lists.specs.Cursors.{cursor, followed, moved}
use Rattle.kerning_lists.specs.Family.{Family, head_at, walk_of, passed, pass_call, pair_in, adds, ran, run_call, list_from, next_subtable}
use Rattle.kerning_lists.specs.declared.ListHead.{ListHead}
use Rattle.kerning_lists.specs.declared.Subtable.{Subtable}
use Rattle.kerning_lists.proofs.Calls.{Works, works_same, works_nothing, RunIs, call_refused, call_passed, run_refused, run-passed, ran_is}
use Rattle.kerning_lists.proofs.Runs.{contributes_nothing, contributes_plain, contributes_turned}
use Rattle.kerning_lists.proofs.Cursors.{followed-heads, map_head, heads_mapped}

module _ (family : Family) where
  -- the pass by the format that the head tells
  module _ (bytes : List ℕ) (version : ℕ) (glyphs : List ℕ) (used : ℕ) (choices : Choices) (before : List ℤ) {head : (Option Subtable)} (e : head ≡ family.head_in false version 0 bytes) where
    pub passes_cut : head ≡ None → Works (passed family bytes version glyphs used choices) before (Answer'.Refused Refusal'.Head) before
    unfolding passed
    passes_cut f = works_nothing before (rw (sym e ∙ f))

    pub passes_by : {s : Subtable} {answer : Answer} {after : List ℤ} → head ≡ Some s
        → Works (family.worked bytes version s.format glyphs used choices) before answer after → Works (passed family bytes version glyphs used choices) before answer after
    unfolding passed
    passes_by f w = works_same (rw (sym e ∙ f)) w

  -- a call of it
  module _ (table : List ℕ) (start version : ℕ) (l : Line) (along : List ℤ) (choices : Choices) {check : (Result Unit Refusal)}
      (e : check ≡ refuse (kerning_tests (length table) l along)) where
    pub pass_refused : {why : Refusal} → check ≡ Err why → Works (pass_call family table start version l along choices) along (Answer'.Refused why) along
    unfolding pass_call
    pass_refused f = call_refused (kerning_tests (length table) l along) _ along e f

    pub pass-passed : {bytes : List ℕ} {answer : Answer} {after : List ℤ} → check ≡ Ok tt → bytes ≡ drop start table
        → answer ≡ (passed family bytes version l.glyphs l.used choices).answer
        → after ≡ add_all (passed family bytes version l.glyphs l.used choices).additions along
        → Works (pass_call family table start version l along choices) along answer after
    unfolding pass_call
    pass-passed f d a p =
        call_passed (kerning_tests (length table) l along) _ along e f
        (record {
          answers = a ∙ ap (λ (x : List ℕ). (passed family x version l.glyphs l.used choices).answer) d;
          leaves = p ∙ ap (λ (x : List ℕ). add_all (passed family x version l.glyphs l.used choices).additions along) d;
        })

  -- by choices that are known
  pub passes_same : (table : List ℕ) (start version : ℕ) (l : Line) (along : List ℤ) {choices known : Choices} {answer : Answer} {after : List ℤ} → choices ≡ known
      → answer ≡ (pass_call family table start version l along choices).answer → after ≡ add_all (pass_call family table start version l along choices).additions along
      → Works (pass_call family table start version l along known) along answer after
  passes_same table start version l along e a p = works_same (ap (pass_call family table start version l along) e) (record { answers = a; leaves = p })

  -- with no bit set the pass is that of no choice made
  pub by_default : (table : List ℕ) (start version : ℕ) (l : Line) (along : List ℤ)
      → pass_call family table start version l along (choices_of 0) ≡ pass_call family table start version l along unchosen
  by_default table start version l along = ap (pass_call family table start version l along) none_chosen

  pub runs_same : (table : List ℕ) (start : ℕ) (rtl : Bool) (l : Line) (along : List ℤ) {choices known : Choices} {answer : Answer} {read : ℕ} {after : List ℤ}
      → choices ≡ known → answer ≡ (run_call family table start rtl l along choices).answer → read ≡ (run_call family table start rtl l along choices).heads
      → after ≡ (run_call family table start rtl l along choices).along → RunIs (run_call family table start rtl l along known) answer read after
  runs_same table start rtl l along e a r p =
      record {
        answers = a ∙ ap (λ (x : Choices). (run_call family table start rtl l along x).answer) e;
        counts = r ∙ ap (λ (x : Choices). (run_call family table start rtl l along x).heads) e;
        leaves = p ∙ ap (λ (x : Choices). (run_call family table start rtl l along x).along) e;
      }

  -- and so is the run
  pub runs_by_default : (table : List ℕ) (start : ℕ) (rtl : Bool) (l : Line) (along : List ℤ)
      → run_call family table start rtl l along (choices_of 0) ≡ run_call family table start rtl l along unchosen
  runs_by_default table start rtl l along = ap (run_call family table start rtl l along) none_chosen

  -- the answer for a pair
  module _ (bytes : List ℕ) (version left right : ℕ) {head : (Option Subtable)} (e : head ≡ family.head_in false version 0 bytes) where
    pub pair_cut : head ≡ None → Err Refusal'.Head ≡ pair_in family bytes version left right
    unfolding pair_in
    pair_cut f = rw (sym e ∙ f)

    pub pair_by_lem : {s : Subtable} {reply : (Result (Result ℤ Why) Refusal)} → head ≡ Some s → reply ≡ family.pair_by bytes version s.format left right
        → reply ≡ pair_in family bytes version left right
    unfolding pair_in
    pair_by_lem f r = r ∙ rw (sym e ∙ f)

  -- the visit of a subtable
  module _ (bytes : List ℕ) (version : ℕ) (glyphs : List ℕ) (used : ℕ) (s : Subtable) (along : List ℤ) (choices : Choices) where
    pub visits_none : s.passed_over ≡ true → along ≡ add_all (contribution (adds family bytes version used choices) glyphs used s) along
    visits_none o =
        sym (add_all-none along) ∙ ap (λ (x : List Addition). add_all x along) (sym (contributes_nothing (adds family bytes version used choices) glyphs used s o))

    pub visits : {part : List ℕ} {after : List ℤ} → s.passed_over ≡ false → s.turned ≡ false → part ≡ drop s.body bytes
        → after ≡ add_all (family.worked part version s.format glyphs used choices).additions along
        → after ≡ add_all (contribution (adds family bytes version used choices) glyphs used s) along
    visits o t d e =
        e ∙ ap (λ (x : List ℕ). add_all (family.worked x version s.format glyphs used choices).additions along) d
        ∙ ap (λ (x : List Addition). add_all x along) (sym (contributes_plain (adds family bytes version used choices) glyphs used s o t))

    pub visits_turned : {part : List ℕ} {after : List ℤ} → s.passed_over ≡ false → s.turned ≡ true → part ≡ drop s.body bytes
        → after ≡ add_all (turned_back used (family.worked part version s.format (backward used glyphs) used choices).additions) along
        → after ≡ add_all (contribution (adds family bytes version used choices) glyphs used s) along
    visits_turned o t d e =
        e ∙ ap (λ (x : List ℕ). add_all (turned_back used (family.worked x version s.format (backward used glyphs) used choices).additions) along) d
        ∙ ap (λ (x : List Addition). add_all x along) (sym (contributes_turned (adds family bytes version used choices) glyphs used s o t))

  -- the walk from a list's head that was read
  abbrev pub heads_of : (rtl : Bool) → List ℕ → ListHead → List Subtable
  heads_of rtl bytes list = heads_from (head_at family rtl bytes list.version) list.count list.first

  -- the used part of a run
  pub record PartIs (bytes : List ℕ) (rtl : Bool) (glyphs : List ℕ) (n : ℕ) (choices : Choices) (answer : Answer) (read : ℕ) (after : List ℤ) : Type 0 where
    pub answers : answer ≡ walk_answer (walk_of family rtl bytes)
    pub counts : read ≡ length (visited (walk_of family rtl bytes))
    pub leaves : after ≡ used_part (walk_of family rtl bytes) (adds family bytes (family.list_of bytes).version n choices) glyphs n

  pub part_is : (bytes : List ℕ) (rtl : Bool) (glyphs : List ℕ) (n : ℕ) (choices : Choices) {list : ListHead} {start after : List ℤ} {answer : Answer} {read used : ℕ}
      → start ≡ zeros n → used ≡ n → list ≡ family.list_of bytes → answer ≡ walk_answer (heads_of rtl bytes list) → read ≡ length (visited (heads_of rtl bytes list))
      → after ≡ add_all (contributions (adds family bytes list.version used choices) glyphs used (visited (heads_of rtl bytes list))) start
      → PartIs bytes rtl glyphs n choices answer read after
  unfolding walk_of used_part
  part_is bytes rtl glyphs n choices {list} {start} z u l a r p =
      record {
        answers = a ∙ ap (λ (x : ListHead). walk_answer (heads_of rtl bytes x)) l;
        counts = r ∙ ap (λ (x : ListHead). length (visited (heads_of rtl bytes x))) l;
        leaves =
            p
            ∙ ap (λ (m : ℕ). add_all (contributions (adds family bytes list.version m choices) glyphs m (visited (heads_of rtl bytes list))) start) u
            ∙ ap₂ (λ (x : ListHead) (y : List ℤ). add_all (contributions (adds family bytes x.version n choices) glyphs n (visited (heads_of rtl bytes x))) y) l z;
      }

  -- a whole run
  module _ (table : List ℕ) (start : ℕ) (rtl : Bool) (l : Line) (along : List ℤ) (choices : Choices) {check : (Result Unit Refusal)}
      (e : check ≡ refuse (run_tests (length table) start l along)) where
    pub runs_refused : {why : Refusal} → check ≡ Err why → RunIs (run_call family table start rtl l along choices) (Answer'.Refused why) 0 along
    unfolding run_call
    runs_refused f = run_refused (run_tests (length table) start l along) along _ e f

    pub runs_passed : {bytes : List ℕ} {n read : ℕ} {answer : Answer} {part : List ℤ} → check ≡ Ok tt → bytes ≡ list_bytes table start → n ≡ l.used
        → answer ≡ walk_answer (walk_of family rtl bytes) → read ≡ length (visited (walk_of family rtl bytes))
        → part ≡ used_part (walk_of family rtl bytes) (adds family bytes (family.list_of bytes).version n choices) l.glyphs n
        → RunIs (run_call family table start rtl l along choices) answer read (part ++ drop l.used along)
    unfolding run_call ran
    runs_passed f d u a r p =
        let there : List ℕ = list_bytes table start in
        run-passed (run_tests (length table) start l along) along _ e f
        (ran_is (walk_of family rtl there) (adds family there (family.list_of there).version l.used choices) l.glyphs l.used along
        (a ∙ ap (λ (x : List ℕ). walk_answer (walk_of family rtl x)) d)
        (r ∙ ap (λ (x : List ℕ). length (visited (walk_of family rtl x))) d)
        (p ∙ ap₂ (λ (x : List ℕ) (m : ℕ). used_part (walk_of family rtl x) (adds family x (family.list_of x).version m choices) l.glyphs m) d u))

  -- a list's start
  pub list_from_lem : (table : List ℕ) (start : ℕ) {bytes : List ℕ} {list : ListHead} → bytes ≡ list_bytes table start → list ≡ family.list_of bytes
      → cursor (start + list.first) list.count list.version ≡ list_from family table start
  unfolding list_from
  list_from_lem table start d e = ap (λ (l : ListHead). cursor (start + l.first) l.count l.version) (e ∙ ap family.list_of d)

  -- the walk of the list at a start, told in the places of the table: a head is told so behind more bytes, and no bytes count no subtables
  module _ (head-moved : (version before at : ℕ) (part : List ℕ) → family.head_in false version (before + at) part ≡ map_head (moved before) (family.head_in false version at part))
      (none-counted : (family.list_of []).count ≡ 0) (table : List ℕ) (start : ℕ) where
    abbrev bytes : List ℕ
    bytes = list_bytes table start

    abbrev list : ListHead
    list = family.list_of bytes

    head-there : bytes ≡ drop start table → (at : ℕ)
        → head_at family false table list.version (start + at) ≡ map_head (moved start) (head_at family false bytes list.version at)
    head-there d at =
        ap (family.head_in false list.version (start + at)) (sym (drop-drop at start table) ∙ ap (drop at) (sym d))
        ∙ head-moved list.version start at (drop at bytes)

    walk-there : heads_from (head_at family false table list.version) list.count (start + list.first) ≡ map (moved start) (walk_of family false bytes)
    unfolding list_bytes walk_of heads_from
    walk-there = go (eqb start 0) refl
      where
        go : (t : Bool) → eqb start 0 ≡ t
            → heads_from (head_at family false table list.version) list.count (start + list.first) ≡ map (moved start) (walk_of family false bytes)
        go true p =
            let d : bytes ≡ [] = rw p in
            let n : list.count ≡ 0 = ap (λ (x : List ℕ). (family.list_of x).count) d ∙ none-counted in
            rw (n, walk_of, heads_from)
        go false p =
            let d : bytes ≡ drop start table = rw p in
            heads_mapped (head_at family false bytes list.version) (head_at family false table list.version) (moved start) (λ at. start + at) (λ s. refl)
            (head-there d) list.count list.first

    pub cursor_walks : followed (next_subtable family table) (list_from family table start).left (list_from family table start) ≡ map (moved start) (walk_of family false bytes)
    unfolding list_from next_subtable
    cursor_walks = followed-heads (head_at family false table) list.version list.count (start + list.first) ∙ walk-there
