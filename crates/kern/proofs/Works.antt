-- The work by format, the visit of a subtable, and the pair's answer.
use Prim.Native.Nat.{ℕ, ◌+◌, ◌≤◌, ◌^◌}
use mathlib.Core.Path.{sym, subst}
use mathlib.Core.Bool.{Bool, true, false, cond}
use mathlib.Core.List.{List}
use native.Mathlib.Omega.{arith}
use lib.Dec.{eqb}
use lib.IntN.{ℤ}
use Rattle.answers.specs.Limits.{room_limit}
use Rattle.answers.specs.declared.Answer.TheVariants as Answer'
use Rattle.answers.specs.declared.Refusal.TheVariants as Refusal'
use Rattle.kerning.specs.Additions.{add_all, nothing_added}
use Rattle.kerning.specs.Bounds.{Within}
use Rattle.kerning.specs.declared.choices.Choices.{Choices}
use Rattle.kerning.proofs.Adding.{add_all-none, within_more}
use Rattle.pairs.specs.Pairs.{ordered_kern}
use Rattle.pairs.specs.Pass as Pairs'
use Rattle.pairs.proofs.Passes as PairLaws
use Rattle.kern_machine.specs.Machine as Machine'
use Rattle.kern_machine.proofs.Bounds as Bounds'
use Rattle.kern_machine.specs.Machine.{head_size}
use Rattle.kern.specs.Kern.{worked}

-- whatever the format, little is added
pub worked_little : (bytes : List ℕ) (version format : ℕ) (glyphs : List ℕ) (used : ℕ) (choices : Choices) (b : ℕ) (along : List ℤ) → used ≤ room_limit → Within b along
    → Within (b + 2 ^ 39) (add_all (worked bytes version format glyphs used choices).additions along)
unfolding worked
worked_little bytes version format glyphs used choices b along h w = go (eqb format 0) (eqb format 1)
  where
    go : (zero one : Bool) → Within (b + 2 ^ 39)
        (add_all
        (cond zero (Pairs'.worked_by bytes (ordered_kern bytes (head_size version)) glyphs used choices.pairs)
        (cond one (Machine'.worked bytes version glyphs used) (nothing_added (Answer'.Refused Refusal'.Head)))).additions
        along)
    go true one = PairLaws.worked-within bytes (ordered_kern bytes (head_size version)) glyphs used choices.pairs along h w
    go false true = Bounds'.worked-within bytes version glyphs used along h w
    go false false = within_more (omega arith) (subst (Within b) (sym (add_all-none along)) w)
