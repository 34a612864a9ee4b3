-- The pass by kind: each kind's own pass leaves the line that it says, and its changes fit.
use Rattle.std.specs.Prelude.{Option, Some, None, Result, Ok, Err}
use Rattle.tables.specs.declared.lookup.Why.{Why}
use Prim.Native.Nat.{ℕ, zero, suc}
use mathlib.Core.Path.{◌≡◌, refl, sym, subst, subst⁻¹}
use mathlib.Core.Bool.{Bool, true, false, cond}
use mathlib.Core.List.{List, [], ◌∷◌}
use lib.ListN.{length, get_or}
use Rattle.answers.specs.declared.Answer.{Answer}
use Rattle.answers.specs.declared.Answer.TheVariants as Answer'
use Rattle.answers.specs.declared.Refusal.TheVariants as Refusal'
use Rattle.state_tables.specs.States.{classic_at}
use Rattle.state_tables.specs.declared.States.{States}
use Rattle.line.specs.Line.{Line, line_of, Valid}
use Rattle.line.specs.Changes.{Change, apply, apply_all}
use Rattle.line.specs.History.{Fits}
use Rattle.machine.specs.Head.{has_kind, body_of}
use Rattle.machine.specs.Pass.{Passed}
use Rattle.machine.specs.Machine.{Subtable, refused_pass, subtable_of, step_leaves, StepCall}
use Rattle.machine.specs.Work.{work_leaves}
use Rattle.machine.proofs.Quiet.{quiet_none, quiet_fits}
use Rattle.machine.proofs.Having.{worked-has}
use Rattle.machine.proofs.Fitting.{fitting}
use Rattle.rearrangement.specs.Rearrangement as R
use Rattle.rearrangement.specs.Calls.{rearrangement}
use Rattle.rearrangement.specs.declared.RearrangementState.{RearrangementState}
use Rattle.rearrangement.specs.declared.Window.{Window}
use Rattle.rearrangement.proofs.Honesty as RH
use Rattle.contextual.specs.Substitutes as S
use Rattle.contextual.specs.Contextual as C
use Rattle.contextual.specs.Calls.{contextual}
use Rattle.contextual.specs.declared.ContextualState.{ContextualState}
use Rattle.contextual.proofs.Honesty as CH
use Rattle.noncontextual.specs.NonContextual as N
use Rattle.noncontextual.specs.NonContextual.{noncontextual}
use Rattle.noncontextual.proofs.Honesty as NH
use Rattle.ligature.specs.Ligature as L
use Rattle.ligature.specs.Calls.{ligature}
use Rattle.ligature.specs.declared.LigatureState.{LigatureState}
use Rattle.ligature.proofs.Honesty as LH
use Rattle.insertion.specs.Lists as IL
use Rattle.insertion.specs.Insertion as IM
use Rattle.insertion.specs.Calls.{insertion}
use Rattle.insertion.specs.declared.InsertionState.{InsertionState}
use Rattle.insertion.specs.declared.InsertionStep.{InsertionStep}
use Rattle.insertion.specs.declared.Insertion.{Insertion as Inserted}
use Rattle.insertion.proofs.Honesty as IH
use Rattle.mort.specs.Mort as O
use Rattle.mort.specs.Mort.{old_rearrangement, old_non_contextual}
use Rattle.mort.proofs.Honesty as OH
use Rattle.tables.specs.Lookup.{lookup_at}
use Rattle.tables.specs.Units.{lookup_by}
use Rattle.tables.specs.declared.units.Reading.TheVariants.{Manual}
use Rattle.indexes.specs.Index.{classes_by, indexed}
use Rattle.indexes.proofs.Laws.{indexed-none}
use Rattle.morx.specs.Kinds.{subtable_of_kind}
use Rattle.morx.specs.Indexed.{indexed_of_kind}
use Rattle.morx.specs.Work.{Leaves}
use Rattle.morx.specs.declared.Kind.{Kind}
use Rattle.morx.specs.declared.Kind.TheVariants.{Rearrangement, Contextual, Ligature, NonContextual, Insertion, OldRearrangement, OldNonContextual, LeftOut}
use Rattle.morx.specs.declared.PassReply.{PassReply}
use Rattle.morx.proofs.Kept.{Kept, Has, kept-none, kept-one, kept_more, kept_append, pass_keeps, lent_keeps, step_keeps}

-- what a machine leaves, field by field, is the line that its changes make
by_fields : (p : Passed) (l : Line) {answer : Answer} {glyphs tags homes : List ℕ} {used : ℕ} → answer ≡ p.answer → glyphs ≡ (apply_all p.changes l).glyphs
    → tags ≡ (apply_all p.changes l).tags → homes ≡ (apply_all p.changes l).homes → used ≡ (apply_all p.changes l).used
    → Leaves p l (record { answer = answer; used = used }) glyphs tags homes
by_fields p l a g t h u = record { answers = a; line = rw (g, t, h, u) }

-- rearrangement makes windows, which leave homes and the used length
module _ {X : Type 0} (part : Line → X) (kept : (first last verb : ℕ) (l : Line) → part (apply (Change.window first last verb) l) ≡ part l) where
  kept-window : (w : Option Window) → Kept part (R.changes_of w)
  kept-window None = kept-none part
  kept-window (Some w) = kept-one part (Change.window w.first w.last w.verb) (kept w.first w.last w.verb)

  kept_turn : (classes : ℕ → ℕ) (bytes : List ℕ) (states : States) (s : RearrangementState) (k : Line) (i g : ℕ) (e : Bool)
      → Kept part (rearrangement.step classes bytes states s k i g e).changes
  kept_turn classes bytes states s k i g e = kept-window (R.next classes bytes states s i g e).edit

  pub kept-rearrangement : (bytes : List ℕ) (l : Line) → Has part ((subtable_of rearrangement).worked bytes l).changes l
  kept-rearrangement = pass_keeps part rearrangement kept_turn

  -- in mort, too
  kept-made : (made : Option States) (body : List ℕ) (l : Line) → Has part (O.rearranged made body l).changes l
  kept-made (Some states) body l = lent_keeps part rearrangement kept_turn body states l
  kept-made None body l = kept-none part l

  pub kept-old-rearrangement : (bytes : List ℕ) (l : Line) → Has part (old_rearrangement.worked bytes l).changes l
  kept-old-rearrangement bytes l = go (O.has_kind bytes 0)
    where
      go : (t : Bool) → Has part (cond t (O.rearranged (classic_at (O.body_of bytes)) (O.body_of bytes) l) (refused_pass Refusal'.Head)).changes l
      go true = kept-made (classic_at (O.body_of bytes)) (O.body_of bytes) l
      go false = kept-none part l

  pub indexed-rearrangement : (index bytes : List ℕ) (l : Line) → Has part ((subtable_of (indexed index rearrangement)).worked bytes l).changes l
  indexed-rearrangement index =
      pass_keeps part (indexed index rearrangement) (λ classes bytes states s k i g e. kept-window (R.next (classes_by index classes) bytes states s i g e).edit)

pub window-homes : (first last verb : ℕ) (l : Line) → (apply (Change.window first last verb) l).homes ≡ l.homes
unfolding apply
window-homes first last verb l = refl

pub window-used : (first last verb : ℕ) (l : Line) → (apply (Change.window first last verb) l).used ≡ l.used
unfolding apply
window-used first last verb l = refl

-- a glyph that is written leaves all but the glyphs
module _ (at glyph : ℕ) (l : Line) where
  pub write-tags : (apply (Change.write at glyph) l).tags ≡ l.tags
  unfolding apply
  write-tags = refl

  pub write-homes : (apply (Change.write at glyph) l).homes ≡ l.homes
  unfolding apply
  write-homes = refl

  pub write-used : (apply (Change.write at glyph) l).used ≡ l.used
  unfolding apply
  write-used = refl

-- contextual machines write
module _ {X : Type 0} (part : Line → X) (kept : (at glyph : ℕ) (l : Line) → part (apply (Change.write at glyph) l) ≡ part l) where
  kept-writes : (ws : List S.Write) → Kept part (S.changes_of ws)
  unfolding S.changes_of
  kept-writes [] = kept-none part
  kept-writes (w ∷ ws) = kept_more part (Change.write w.at w.glyph) (S.changes_of ws) (kept w.at w.glyph) (kept-writes ws)

  contextual-step : (classes : ℕ → ℕ) (bytes : List ℕ) (states : States) (s : ContextualState) (k : Line) (i g : ℕ) (e : Bool)
      → Kept part (contextual.step classes bytes states s k i g e).changes
  contextual-step classes bytes states s k i g e = kept-writes (C.next classes bytes states s i g e).writes

  pub kept-contextual : (bytes : List ℕ) (l : Line) → Has part ((subtable_of contextual).worked bytes l).changes l
  kept-contextual = pass_keeps part contextual contextual-step

  pub indexed-contextual : (index bytes : List ℕ) (l : Line) → Has part ((subtable_of (indexed index contextual)).worked bytes l).changes l
  indexed-contextual index = pass_keeps part (indexed index contextual) (λ classes. contextual-step (classes_by index classes))

  pub kept-contextual-step : (c : StepCall ContextualState) (l : Line)
      → part (step_leaves contextual c.table c.start c.state l c.index c.glyph c.ends) ≡ part l
  kept-contextual-step = step_keeps part contextual contextual-step

  -- and so does the non-contextual pass
  kept-found : (place : ℕ) (found : Result ℕ Why) → Kept part (N.writes_of place found)
  kept-found place (Ok glyph) = kept-one part (Change.write place glyph) (kept place glyph)
  kept-found place (Err why) = kept-none part

  kept-below : (lookup : ℕ → Result ℕ Why) (glyphs : List ℕ) (n : ℕ) → Kept part (N.writes_below lookup glyphs n)
  unfolding N.writes_below
  kept-below lookup glyphs zero = kept-none part
  kept-below lookup glyphs (suc n) =
      kept_append part (N.writes_below lookup glyphs n) (N.writes_of n (lookup (get_or glyphs n 0))) (kept-below lookup glyphs n) (kept-found n (lookup (get_or glyphs n 0)))

  kept-pass : (kind : Bool) (lookup : ℕ → Result ℕ Why) (l : Line) → Has part (cond kind (N.passed lookup l) (refused_pass Refusal'.Head)).changes l
  unfolding N.passed
  kept-pass true lookup l = kept-below lookup l.glyphs l.used l
  kept-pass false lookup l = kept-none part l

  pub kept-noncontextual : (bytes : List ℕ) (l : Line) → Has part (noncontextual.worked bytes l).changes l
  kept-noncontextual bytes l = kept-pass (has_kind bytes 4) (lookup_at (body_of bytes)) l

  pub kept-old-noncontextual : (bytes : List ℕ) (l : Line) → Has part (old_non_contextual.worked bytes l).changes l
  kept-old-noncontextual bytes l = kept-pass (O.has_kind bytes 4) (lookup_by Manual (O.body_of bytes)) l

-- ligatures leave the tags and the used length
module _ (at glyph : ℕ) (parts : List ℕ) (l : Line) where
  pub ligature-tags : (apply (Change.ligature at glyph parts) l).tags ≡ l.tags
  unfolding apply
  ligature-tags = refl

  pub ligature-used : (apply (Change.ligature at glyph parts) l).used ≡ l.used
  unfolding apply
  ligature-used = refl

module _ {X : Type 0} (part : Line → X) (kept : (at glyph : ℕ) (parts : List ℕ) (l : Line) → part (apply (Change.ligature at glyph parts) l) ≡ part l) where
  kept_ligations : (made : List L.Ligation) → Kept part (L.changes_of made)
  unfolding L.changes_of
  kept_ligations [] = kept-none part
  kept_ligations (m ∷ made) =
      kept_more part (Change.ligature m.at m.glyph m.parts) (L.changes_of made) (kept m.at m.glyph m.parts) (kept_ligations made)

  ligature-step : (classes : ℕ → ℕ) (bytes : List ℕ) (states : States) (s : LigatureState) (k : Line) (i g : ℕ) (e : Bool)
      → Kept part (ligature.step classes bytes states s k i g e).changes
  ligature-step classes bytes states s k i g e = kept_ligations (L.next classes bytes states s.state (L.stack_in s) i g e).made

  pub kept-ligature : (bytes : List ℕ) (l : Line) → Has part ((subtable_of ligature).worked bytes l).changes l
  kept-ligature = pass_keeps part ligature ligature-step

  pub indexed-ligature : (index bytes : List ℕ) (l : Line) → Has part ((subtable_of (indexed index ligature)).worked bytes l).changes l
  indexed-ligature index = pass_keeps part (indexed index ligature) (λ classes. ligature-step (classes_by index classes))

  pub kept-ligature-step : (c : StepCall LigatureState) (l : Line)
      → part (step_leaves ligature c.table c.start c.state l c.index c.glyph c.ends) ≡ part l
  kept-ligature-step = step_keeps part ligature ligature-step

-- insertions leave the homes
pub insertion-homes : (at : ℕ) (new : List ℕ) (l : Line) → (apply (Change.insertion at new) l).homes ≡ l.homes
unfolding apply
insertion-homes at new l = refl

module _ {X : Type 0} (part : Line → X) (kept : (at : ℕ) (new : List ℕ) (l : Line) → part (apply (Change.insertion at new) l) ≡ part l) where
  pub kept-inserted : (bytes : List ℕ) (edit : Option Inserted) → Kept part (IL.changes_of bytes edit)
  kept-inserted bytes None = kept-none part
  kept-inserted bytes (Some edit) = kept-one part (Change.insertion edit.place (IL.glyphs_at bytes edit.glyphs edit.count)) (kept edit.place (IL.glyphs_at bytes edit.glyphs edit.count))

  insertion-step : (classes : ℕ → ℕ) (bytes : List ℕ) (states : States) (s : InsertionState) (k : Line) (i g : ℕ) (e : Bool)
      → Kept part (insertion.step classes bytes states s k i g e).changes
  insertion-step classes bytes states s k i g e =
      let step : InsertionStep = IM.next classes bytes states s k.used (length k.glyphs) i g e in
      kept_append part (IL.changes_of bytes step.marked) (IL.changes_of bytes step.current) (kept-inserted bytes step.marked) (kept-inserted bytes step.current)

  pub kept-insertion : (bytes : List ℕ) (l : Line) → Has part ((subtable_of insertion).worked bytes l).changes l
  kept-insertion = pass_keeps part insertion insertion-step

  pub indexed-insertion : (index bytes : List ℕ) (l : Line) → Has part ((subtable_of (indexed index insertion)).worked bytes l).changes l
  indexed-insertion index = pass_keeps part (indexed index insertion) (λ classes. insertion-step (classes_by index classes))

-- what is refused leaves the line as it is
headless : (l : Line) → Leaves (refused_pass Refusal'.Head) l (record { answer = Answer'.Refused Refusal'.Head; used = l.used }) l.glyphs l.tags l.homes
unfolding apply_all
headless l = record { answers = refl; line = refl }

-- the arms of the code, by kind
module _ (index : List ℕ) (kind : Kind) (bytes glyphs tags homes : List ℕ) (used : ℕ) where
  abbrev line : Line
  line = line_of glyphs tags homes used

  abbrev LeavesBy : Kind → PassReply → (glyphs tags homes : List ℕ) → Type 0
  LeavesBy k reply glyphs' tags' homes' = Leaves ((indexed_of_kind index k).worked bytes line) line reply glyphs' tags' homes'

  as_kind : {k : Kind} {reply : PassReply} {glyphs' tags' homes' : List ℕ} → kind ≡ k → LeavesBy k reply glyphs' tags' homes' → LeavesBy kind reply glyphs' tags' homes'
  as_kind {k} {reply} {glyphs'} {tags'} {homes'} e left = subst⁻¹ (λ (x : Kind). LeavesBy x reply glyphs' tags' homes') e left

  pub by_rearrangement : {answer : Answer} {glyphs' tags' : List ℕ} → kind ≡ Rearrangement → answer ≡ ((subtable_of (indexed index rearrangement)).worked bytes line).answer
      → glyphs' ≡ (work_leaves (subtable_of (indexed index rearrangement)) bytes line).glyphs → tags' ≡ (work_leaves (subtable_of (indexed index rearrangement)) bytes line).tags
      → LeavesBy kind (record { answer = answer; used = used }) glyphs' tags' homes
  unfolding indexed_of_kind subtable_of_kind work_leaves
  by_rearrangement e a g t =
      as_kind e
      (by_fields ((subtable_of (indexed index rearrangement)).worked bytes line) line a g t
      (sym (indexed-rearrangement (λ (x : Line). x.homes) window-homes index bytes line))
      (sym (indexed-rearrangement (λ (x : Line). x.used) window-used index bytes line)))

  pub by_contextual : {answer : Answer} {glyphs' : List ℕ} → kind ≡ Contextual → answer ≡ ((subtable_of (indexed index contextual)).worked bytes line).answer
      → glyphs' ≡ (work_leaves (subtable_of (indexed index contextual)) bytes line).glyphs → LeavesBy kind (record { answer = answer; used = used }) glyphs' tags homes
  unfolding indexed_of_kind subtable_of_kind work_leaves
  by_contextual e a g =
      as_kind e
      (by_fields ((subtable_of (indexed index contextual)).worked bytes line) line a g
      (sym (indexed-contextual (λ (x : Line). x.tags) write-tags index bytes line))
      (sym (indexed-contextual (λ (x : Line). x.homes) write-homes index bytes line))
      (sym (indexed-contextual (λ (x : Line). x.used) write-used index bytes line)))

  pub by_noncontextual : {answer : Answer} {glyphs' : List ℕ} → kind ≡ NonContextual → answer ≡ (noncontextual.worked bytes line).answer
      → glyphs' ≡ (work_leaves noncontextual bytes line).glyphs → LeavesBy kind (record { answer = answer; used = used }) glyphs' tags homes
  unfolding indexed_of_kind subtable_of_kind work_leaves
  by_noncontextual e a g =
      as_kind e
      (by_fields (noncontextual.worked bytes line) line a g
      (sym (kept-noncontextual (λ (x : Line). x.tags) write-tags bytes line))
      (sym (kept-noncontextual (λ (x : Line). x.homes) write-homes bytes line))
      (sym (kept-noncontextual (λ (x : Line). x.used) write-used bytes line)))

  pub by_old_rearrangement : {answer : Answer} {glyphs' tags' : List ℕ} → kind ≡ OldRearrangement → answer ≡ (old_rearrangement.worked bytes line).answer
      → glyphs' ≡ (work_leaves old_rearrangement bytes line).glyphs → tags' ≡ (work_leaves old_rearrangement bytes line).tags
      → LeavesBy kind (record { answer = answer; used = used }) glyphs' tags' homes
  unfolding indexed_of_kind subtable_of_kind work_leaves
  by_old_rearrangement e a g t =
      as_kind e
      (by_fields (old_rearrangement.worked bytes line) line a g t
      (sym (kept-old-rearrangement (λ (x : Line). x.homes) window-homes bytes line))
      (sym (kept-old-rearrangement (λ (x : Line). x.used) window-used bytes line)))

  pub by_old_noncontextual : {answer : Answer} {glyphs' : List ℕ} → kind ≡ OldNonContextual → answer ≡ (old_non_contextual.worked bytes line).answer
      → glyphs' ≡ (work_leaves old_non_contextual bytes line).glyphs → LeavesBy kind (record { answer = answer; used = used }) glyphs' tags homes
  unfolding indexed_of_kind subtable_of_kind work_leaves
  by_old_noncontextual e a g =
      as_kind e
      (by_fields (old_non_contextual.worked bytes line) line a g
      (sym (kept-old-noncontextual (λ (x : Line). x.tags) write-tags bytes line))
      (sym (kept-old-noncontextual (λ (x : Line). x.homes) write-homes bytes line))
      (sym (kept-old-noncontextual (λ (x : Line). x.used) write-used bytes line)))

  pub by_none : kind ≡ LeftOut → LeavesBy kind (record { answer = Answer'.Refused Refusal'.Head; used = used }) glyphs tags homes
  unfolding indexed_of_kind subtable_of_kind
  by_none e = as_kind e (headless line)

  pub by_ligature : {answer : Answer} {glyphs' homes' : List ℕ} → kind ≡ Ligature → answer ≡ ((subtable_of (indexed index ligature)).worked bytes line).answer
      → glyphs' ≡ (work_leaves (subtable_of (indexed index ligature)) bytes line).glyphs → homes' ≡ (work_leaves (subtable_of (indexed index ligature)) bytes line).homes
      → LeavesBy kind (record { answer = answer; used = used }) glyphs' tags homes'
  unfolding indexed_of_kind subtable_of_kind work_leaves
  by_ligature e a g h =
      as_kind e
      (by_fields ((subtable_of (indexed index ligature)).worked bytes line) line a g
      (sym (indexed-ligature (λ (x : Line). x.tags) ligature-tags index bytes line))
      h
      (sym (indexed-ligature (λ (x : Line). x.used) ligature-used index bytes line)))

  pub by_insertion : {answer : Answer} {used' : ℕ} {glyphs' tags' : List ℕ} → kind ≡ Insertion → answer ≡ ((subtable_of (indexed index insertion)).worked bytes line).answer
      → used' ≡ (work_leaves (subtable_of (indexed index insertion)) bytes line).used → glyphs' ≡ (work_leaves (subtable_of (indexed index insertion)) bytes line).glyphs
      → tags' ≡ (work_leaves (subtable_of (indexed index insertion)) bytes line).tags → LeavesBy kind (record { answer = answer; used = used' }) glyphs' tags' homes
  unfolding indexed_of_kind subtable_of_kind work_leaves
  by_insertion e a u g t =
      as_kind e
      (by_fields ((subtable_of (indexed index insertion)).worked bytes line) line a g t (sym (indexed-insertion (λ (x : Line). x.homes) insertion-homes index bytes line)) u)

-- the changes of each kind fit
pub worked-fits : (kind : Kind) (bytes : List ℕ) (l : Line) → Valid l → Fits ((subtable_of_kind kind).worked bytes l).changes l
unfolding subtable_of_kind
worked-fits Rearrangement bytes l v = worked-has Valid Fits fitting rearrangement RH.step_fits bytes l v
worked-fits Contextual bytes l v = worked-has Valid Fits fitting contextual CH.step_fits bytes l v
worked-fits Ligature bytes l v = worked-has Valid Fits fitting ligature LH.step_fits bytes l v
worked-fits NonContextual bytes l v = NH.worked-fits bytes l v
worked-fits Insertion bytes l v = worked-has Valid Fits fitting insertion IH.step_fits bytes l v
worked-fits OldRearrangement bytes l v = OH.rearrangement-fits l v bytes
worked-fits OldNonContextual bytes l v = OH.noncontextual-fits l v bytes
worked-fits LeftOut bytes l v = quiet_fits [] l v quiet_none

-- and so do those by an index
pub indexed-fits : (index : List ℕ) (kind : Kind) (bytes : List ℕ) (l : Line) → Valid l → Fits ((indexed_of_kind index kind).worked bytes l).changes l
unfolding indexed_of_kind
indexed-fits index Rearrangement bytes l v = worked-has Valid Fits fitting (indexed index rearrangement) (λ classes. RH.step_fits (classes_by index classes)) bytes l v
indexed-fits index Contextual bytes l v = worked-has Valid Fits fitting (indexed index contextual) (λ classes. CH.step_fits (classes_by index classes)) bytes l v
indexed-fits index Ligature bytes l v = worked-has Valid Fits fitting (indexed index ligature) (λ classes. LH.step_fits (classes_by index classes)) bytes l v
indexed-fits index NonContextual bytes l v = worked-fits NonContextual bytes l v
indexed-fits index Insertion bytes l v = worked-has Valid Fits fitting (indexed index insertion) (λ classes. IH.step_fits (classes_by index classes)) bytes l v
indexed-fits index OldRearrangement bytes l v = worked-fits OldRearrangement bytes l v
indexed-fits index OldNonContextual bytes l v = worked-fits OldNonContextual bytes l v
indexed-fits index LeftOut bytes l v = worked-fits LeftOut bytes l v

-- without entries, what is by an index is what is without one
pub plain_kind : (index : List ℕ) → length index ≡ 0 → (kind : Kind) → indexed_of_kind index kind ≡ subtable_of_kind kind
unfolding indexed_of_kind subtable_of_kind
plain_kind index z Rearrangement = λ i. subtable_of (indexed-none rearrangement index z i)
plain_kind index z Contextual = λ i. subtable_of (indexed-none contextual index z i)
plain_kind index z Ligature = λ i. subtable_of (indexed-none ligature index z i)
plain_kind index z NonContextual = refl
plain_kind index z Insertion = λ i. subtable_of (indexed-none insertion index z i)
plain_kind index z OldRearrangement = refl
plain_kind index z OldNonContextual = refl
plain_kind index z LeftOut = refl

pub plain_left : (index : List ℕ) (kind : Kind) (bytes : List ℕ) (l : Line) (reply : PassReply) (glyphs tags homes : List ℕ) → length index ≡ 0
    → Leaves ((indexed_of_kind index kind).worked bytes l) l reply glyphs tags homes → Leaves ((subtable_of_kind kind).worked bytes l) l reply glyphs tags homes
plain_left index kind bytes l reply glyphs tags homes z left = subst (λ (t : Subtable). Leaves (t.worked bytes l) l reply glyphs tags homes) (plain_kind index z kind) left
