-- What a pass answers and leaves, as one line; and lines that stay valid.
use Prim.Native.Nat.{ℕ, ◌+◌, ◌≤◌}
use mathlib.Core.Path.{◌≡◌, refl, ◌∙◌, ap, subst⁻¹}
use mathlib.Core.Bool.{true}
use mathlib.Core.List.{List, [], ◌∷◌, ◌++◌}
use native.Mathlib.Omega.{arith}
use lib.ListN.{length}
use Rattle.answers.specs.Limits.{room_limit}
use Rattle.answers.specs.declared.Answer.{Answer}
use Rattle.line.specs.Line.{Line, line_of, Valid}
use Rattle.line.specs.Test.{is_valid}
use Rattle.line.specs.Changes.{Change, history_of, edits_of, apply, apply_all}
use Rattle.line.specs.Edits.{inserted, added}
use Rattle.line.specs.History.{Fits}
use Rattle.line.proofs.Exact.{valid_of, of_valid}
use Rattle.line.proofs.Histories.{by_changes, inserted-append, history_append}
use Rattle.machine.specs.Pass.{Passed}
use Rattle.machine.proofs.Quiet.{quiet_fits}
use Rattle.morx.specs.Work.{Leaves, pass_reply_of}
use Rattle.morx.specs.declared.PassReply.{PassReply}

-- what is left, as contracts of the entries say it
module _ (p : Passed) (l : Line) (reply : PassReply) (glyphs tags homes : List ℕ) (e : Leaves p l reply glyphs tags homes) where
  pub left_reply : reply ≡ pass_reply_of p l
  left_reply =
      ap (λ (x : Answer). record { answer = x; used = reply.used }) e.answers ∙ ap (λ (x : Line). record { answer = p.answer; used = x.used }) e.line

  pub left_glyphs : glyphs ≡ (apply_all p.changes l).glyphs
  left_glyphs = ap (λ (x : Line). x.glyphs) e.line

  pub left_tags : tags ≡ (apply_all p.changes l).tags
  left_tags = ap (λ (x : Line). x.tags) e.line

  pub left_homes : homes ≡ (apply_all p.changes l).homes
  left_homes = ap (λ (x : Line). x.homes) e.line

-- changes that fit leave a valid line of the same room
module _ (changes : List Change) (l : Line) (v : Valid l) (fits : Fits changes l) where
  pub valid-after : Valid (apply_all changes l)
  valid-after = (by_changes changes l v fits).valid

  pub used-after : (apply_all changes l).used ≡ l.used + inserted (history_of changes)
  used-after = (by_changes changes l v fits).long

  pub room_after : length (apply_all changes l).glyphs ≡ length l.glyphs
  room_after = (by_changes changes l v fits).same

  -- and more of them fit where they do on that line
  pub fits_then : (more : List Change) → Fits more (apply_all changes l) → Fits (changes ++ more) l
  fits_then more f =
      omega (arith, f, used-after, room_after, ap inserted (history_append changes more), inserted-append (history_of changes) (history_of more))

-- a valid line, as the code has it
pub valid_line : {l : Line} → is_valid l ≡ true → Valid l
valid_line e = valid_of _ e

pub line-valid : {l k : Line} → l ≡ k → Valid k → is_valid l ≡ true
line-valid {l} {k} e v = of_valid l (subst⁻¹ Valid e v)

-- what passes ask of it
module _ (glyphs tags homes : List ℕ) (used : ℕ) (valid : is_valid (line_of glyphs tags homes used) ≡ true) where
  pub room_glyphs : used ≤ length glyphs
  room_glyphs = (valid_line valid).within

  pub room_limited : length glyphs ≤ room_limit
  room_limited = (valid_line valid).limited

  pub room_paired : length tags ≡ length glyphs
  room_paired = (valid_line valid).paired

pub fits_tags : {l : Line} → Valid l → l.used ≤ length l.tags
fits_tags v = omega (arith, v.within, v.paired)

-- a reversal fits every valid line
pub turning_fits : (l : Line) → Valid l → Fits (Change.reversal ∷ []) l
unfolding history_of edits_of inserted added
turning_fits l v = quiet_fits (Change.reversal ∷ []) l v refl

pub valid-turned : (l : Line) → Valid l → Valid (apply Change.reversal l)
unfolding apply_all
valid-turned l v = valid-after (Change.reversal ∷ []) l v (turning_fits l v)
