-- The loop of kerx's run, which turns the line and turns it back.
use Rattle.std.specs.Prelude.{Some}
use Prim.Native.Nat.{ℕ, ◌+◌, ◌-◌, ◌<◌, ◌≤◌}
use mathlib.Core.Path.{◌≡◌, refl, ◌∙◌, ap}
use mathlib.Core.Bool.{Bool}
use mathlib.Core.List.{List}
use native.Mathlib.Omega.{arith}
use lib.IntN.{ℤ}
use lib.ListN.{length}
use Rattle.answers.specs.Limits.{room_limit, head_limit}
use Rattle.kerning.specs.Additions.{add_all}
use Rattle.kerning.specs.Bounds.{Within}
use Rattle.kerning.specs.declared.choices.Choices.{Choices}
use Rattle.kerning_lists.specs.Walk.{heads_from}
use Rattle.kerning_lists.specs.Run.{contribution}
use Rattle.kerning_lists.specs.declared.Subtable.{Subtable}
use Rattle.kerning_lists.proofs.Runs.{Running, running_start, running_next, contribution_little}
use Rattle.kerning_lists.specs.Family.{head_at, adds}
use Rattle.kerning_lists.specs.declared.ListHead.{ListHead}
use Rattle.kerx.specs.Kerx.{kerx}
use Rattle.kerx.proofs.Works.{worked_little}

module _ (bytes : List ℕ) (list : ListHead) (rtl : Bool) (glyphs₀ tags₀ : List ℕ) (used : ℕ) (along₀ : List ℤ) (choices : Choices) where
  -- the run goes on as any does, and the line is as it was
  pub record Going (glyphs tags : List ℕ) (along : List ℤ) (read left at : ℕ) : Type 0 where
    pub running : Running (adds kerx bytes list.version used choices) glyphs₀ used (head_at kerx rtl bytes list.version)
        (heads_from (head_at kerx rtl bytes list.version) list.count list.first) along₀ along read left at
    pub same_glyphs : glyphs ≡ glyphs₀
    pub same_tags : tags ≡ tags₀

  pub going_start : Within 0 along₀ → Going glyphs₀ tags₀ along₀ 0 (list.count - 0) list.first
  going_start w = record { running = running_start _ glyphs₀ used _ list.count list.first along₀ w; same_glyphs = refl; same_tags = refl }

  pub going_next : {glyphs tags glyphs' tags' : List ℕ} {along after : List ℤ} {read left at : ℕ} {s : Subtable} (next : ℕ) → Going glyphs tags along read left at
      → used ≤ room_limit → used ≤ length along₀ → next + 1 ≡ left → head_at kerx rtl bytes list.version at ≡ Some s → read < head_limit
      → glyphs' ≡ glyphs → tags' ≡ tags → after ≡ add_all (contribution (adds kerx bytes list.version used choices) glyphs used s) along
      → Going glyphs' tags' after (read + 1) next s.next
  going_next {along = along} {s = s} next g small fits h e k p q a =
      record {
        running =
            running_next _ glyphs₀ used _ _ along₀ g.running next h e k
            (a ∙ ap (λ (x : List ℕ). add_all (contribution (adds kerx bytes list.version used choices) x used s) along) g.same_glyphs)
            (contribution_little _ glyphs₀ used (λ s gs b xs w. worked_little _ list.version s.format gs used choices b xs small w) s along
            (omega (arith, g.running.long)) g.running.small);
        same_glyphs = p ∙ g.same_glyphs;
        same_tags = q ∙ g.same_tags;
      }
