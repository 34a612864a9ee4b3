-- What demand 3 speaks of, the line that a call leaves, is what stands in the caller's memory.
use Rattle.std.specs.Prelude.{Option, Result, Ok, Err}
use Rattle.answers.specs.declared.Refusal.{Refusal}
use Prim.Native.Nat.{ℕ, ◌%◌}
use mathlib.Core.Path.{◌≡◌, refl, sym, ◌∙◌, ap}
use mathlib.Core.Bool.{Bool, true, false, cond}
use mathlib.Core.List.{List, [], ◌∷◌}
use lib.Dec.{eqb}
use lib.ListN.{length}
use Rattle.answers.specs.Refuse.{refuse}
use Rattle.line.specs.Line.{Line, line_of}
use Rattle.line.specs.Changes.{Change, apply, apply_all}
use Rattle.line.specs.Entries.{verb_tests, verb_makes, made_by, verb_changes, verb_call}
use Rattle.machine.specs.Pass.{Passed}
use Rattle.machine.specs.Machine.{refused_pass, call_leaves}
use Rattle.machine.proofs.Having.{if_passed_lem}
use Rattle.insertion.specs.Lists.{list_from, entered_by}
use Rattle.insertion.specs.Lone.{on_line, lone_insertion, insert_tests, insert_call, insert_leaves}
use Rattle.answers.specs.declared.Answer.{Answer}
use Rattle.insertion.specs.declared.Insertion.{Insertion as Inserted}
use Rattle.morx.specs.Kinds.{subtable_of_kind}
use Rattle.morx.specs.Sequence.{Call, leaves}
use Rattle.morx.specs.Memory.{written_by, in_memory}
use Rattle.morx.specs.declared.Kind.{Kind}
use Rattle.morx.specs.declared.Kind.TheVariants.{Rearrangement, Contextual, Ligature, NonContextual, Insertion, OldRearrangement, OldNonContextual, LeftOut}
use Rattle.morx.proofs.Kept.{Kept, kept-none, kept-one, call_keeps}
use Rattle.morx.proofs.Machines.{window-homes, window-used, write-tags, write-homes, write-used, ligature-tags, ligature-used, insertion-homes, kept-rearrangement, kept-contextual, kept-contextual-step, kept-noncontextual, kept-old-rearrangement, kept-old-noncontextual, kept-ligature, kept-ligature-step, kept-inserted, kept-insertion}

abbrev homes : Line → List ℕ
homes l = l.homes

abbrev tags : Line → List ℕ
tags l = l.tags

abbrev used : Line → ℕ
used l = l.used

module _ {X : Type 0} (part : Line → X) (windows : (first last verb : ℕ) (k : Line) → part (apply (Change.window first last verb) k) ≡ part k) where
  kept-verb : (check : Result Unit Refusal) (verb start end : ℕ) → Kept part (made_by check (verb_makes verb start end))
  unfolding made_by verb_makes
  kept-verb (Ok tt) verb start end = go (eqb (verb % 16) 0)
    where
      go : (t : Bool) → Kept part (cond t [] (Change.window start end verb ∷ []))
      go true = kept-none part
      go false = kept-one part (Change.window start end verb) (windows start end verb)
  kept-verb (Err why) verb start end = kept-none part

  verb_keeps : (l : Line) (verb start end : ℕ) → part (verb_call l verb start end).line ≡ part l
  unfolding verb_call verb_changes
  verb_keeps l verb start end = kept-verb (refuse (verb_tests l start end)) verb start end l

-- a lone insertion
module _ {X : Type 0} (part : Line → X) (kept : (at : ℕ) (new : List ℕ) (k : Line) → part (apply (Change.insertion at new) k) ≡ part k) where
  kept_tried : (table : List ℕ) (tried : Result (Option Inserted) Answer) → Kept part (on_line table tried).changes
  kept_tried table (Ok edit) = kept-inserted part kept table edit
  kept_tried table (Err answer) = kept-none part

  insert_keeps : (table : List ℕ) (start count place : ℕ) (l : Line) → part (insert_leaves table start count place l) ≡ part l
  unfolding insert_leaves insert_call lone_insertion
  insert_keeps table start count place l =
      if_passed_lem (λ (p : Passed). part (apply_all p.changes l) ≡ part l) refused_pass (λ why. kept-none part l)
      (refuse (insert_tests (length table) l place)) (lone_insertion table start count place l)
      (kept_tried table (entered_by (list_from table start count) place count l.used (length l.glyphs)) l)

-- a line by its parts
module _ (left : Line) where
  by_parts : {tags homes : List ℕ} {used : ℕ} → left.tags ≡ tags → left.homes ≡ homes → left.used ≡ used → line_of left.glyphs tags homes used ≡ left
  by_parts {tags} {homes} {used} t h u =
      ap (λ (x : List ℕ). line_of left.glyphs x homes used) (sym t)
      ∙ ap (λ (x : List ℕ). line_of left.glyphs left.tags x used) (sym h)
      ∙ ap (λ (x : ℕ). line_of left.glyphs left.tags left.homes x) (sym u)

-- the pass of each kind
module _ (table : List ℕ) (start : ℕ) (l : Line) where
  by_kind : (kind : Kind) → written_by kind (call_leaves (subtable_of_kind kind) table start l) l ≡ call_leaves (subtable_of_kind kind) table start l
  unfolding written_by subtable_of_kind
  by_kind Rearrangement =
      by_parts _ refl (call_keeps homes _ (kept-rearrangement homes window-homes) table start l) (call_keeps used _ (kept-rearrangement used window-used) table start l)
  by_kind Contextual =
      by_parts _ (call_keeps tags _ (kept-contextual tags write-tags) table start l) (call_keeps homes _ (kept-contextual homes write-homes) table start l)
      (call_keeps used _ (kept-contextual used write-used) table start l)
  by_kind Ligature =
      by_parts _ (call_keeps tags _ (kept-ligature tags ligature-tags) table start l) refl (call_keeps used _ (kept-ligature used ligature-used) table start l)
  by_kind NonContextual =
      by_parts _ (call_keeps tags _ (kept-noncontextual tags write-tags) table start l) (call_keeps homes _ (kept-noncontextual homes write-homes) table start l)
      (call_keeps used _ (kept-noncontextual used write-used) table start l)
  by_kind Insertion = by_parts _ refl (call_keeps homes _ (kept-insertion homes insertion-homes) table start l) refl
  by_kind OldRearrangement =
      by_parts _ refl (call_keeps homes _ (kept-old-rearrangement homes window-homes) table start l) (call_keeps used _ (kept-old-rearrangement used window-used) table start l)
  by_kind OldNonContextual =
      by_parts _ (call_keeps tags _ (kept-old-noncontextual tags write-tags) table start l) (call_keeps homes _ (kept-old-noncontextual homes write-homes) table start l)
      (call_keeps used _ (kept-old-noncontextual used write-used) table start l)
  by_kind LeftOut = sym (call_keeps (λ (k : Line). k) _ (λ bytes k. kept-none (λ (k : Line). k) k) table start l)

pub in_memory_lem : (call : Call) (l : Line) → in_memory call l ≡ leaves call l
unfolding in_memory leaves written_by
in_memory_lem (Call.verb c) l =
    by_parts _ refl (verb_keeps homes window-homes l c.verb c.start c.end) (verb_keeps used window-used l c.verb c.start c.end)
in_memory_lem (Call.insert c) l = by_parts _ refl (insert_keeps homes insertion-homes c.table c.start c.count c.place l) refl
in_memory_lem (Call.pass kind table start) l = by_kind table start l kind
in_memory_lem (Call.contextual_step c) l =
    by_parts _ (kept-contextual-step tags write-tags c l) (kept-contextual-step homes write-homes c l) (kept-contextual-step used write-used c l)
in_memory_lem (Call.ligature_step c) l = by_parts _ (kept-ligature-step tags ligature-tags c l) refl (kept-ligature-step used ligature-used c l)
in_memory_lem (Call.any_pass edition table start) l = refl
in_memory_lem (Call.indexed_pass table start index class_start) l = refl
in_memory_lem (Call.run table start choices requests) l = refl
