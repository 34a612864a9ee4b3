-- What a run passes over because it can't be opened is what a lone pass refuses by HEAD.
use Rattle.std.specs.Prelude.{Option, Some, None}
use mathlib.Core.Path.{◌≡◌, refl}
use mathlib.Core.Bool.{true, false}
use mathlib.Core.List.{List}
use Prim.Native.Nat.{ℕ}
use native.Mathlib.Omega.{arith}
use Rattle.answers.specs.declared.Refusal.TheVariants as Refusal'
use Rattle.state_tables.specs.declared.States.{States}
use Rattle.line.specs.Line.{Line}
use Rattle.machine.specs.Pass.{Passed}
use Rattle.machine.specs.Call.{is_ready, on_made}
use Rattle.machine.specs.Machine.{refused_pass}
use Rattle.contextual.specs.Calls as Contextual'
use Rattle.ligature.specs.Calls as Ligature'
use Rattle.insertion.specs.Calls as Insertion'
use Rattle.rearrangement.specs.Calls as Rearrangement'
use Rattle.morx.specs.Kinds.{subtable_of_kind}
use Rattle.morx.specs.declared.Kind.{Kind}
use Rattle.morx.specs.declared.Kind.TheVariants.{Rearrangement, Contextual, Ligature, NonContextual, Insertion, OldRearrangement, OldNonContextual, LeftOut}

no : {A : Type 0} → true ≡ false → A
no e = let z : ◌≡◌ {A = ℕ} 0 1 = cc in absurd (omega arith)

without : (made : Option States) (work : States → Passed) → is_ready made ≡ false → on_made refused_pass made work ≡ refused_pass Refusal'.Head
without None work e = refl
without (Some states) work e = no e

pub closed_refused : (kind : Kind) (bytes : List ℕ) (l : Line) → (subtable_of_kind kind).is_open bytes ≡ false
    → (subtable_of_kind kind).worked bytes l ≡ refused_pass Refusal'.Head
unfolding subtable_of_kind
closed_refused Rearrangement bytes l e = without ((Rearrangement'.rearrangement).opened bytes) _ e
closed_refused Contextual bytes l e = without (Contextual'.opened bytes) _ e
closed_refused Ligature bytes l e = without (Ligature'.opened bytes) _ e
closed_refused NonContextual bytes l e = rw e
closed_refused Insertion bytes l e = without (Insertion'.opened bytes) _ e
closed_refused OldRearrangement bytes l e = rw e
closed_refused OldNonContextual bytes l e = rw e
closed_refused LeftOut bytes l e = refl
