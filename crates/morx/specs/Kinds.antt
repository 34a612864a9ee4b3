-- The pass by a subtable of whatever kind.
use Rattle.std.specs.Prelude.{ℕ, ◌%◌, false, cond, List}
use Rattle.laws.specs.Choose.{if_eq}
use Rattle.answers.specs.declared.Refusal.TheVariants as Refusal'
use Rattle.parse.specs.Reads.{inside, u32_at}
use Rattle.machine.specs.Machine.{Subtable, refused_pass, subtable_of}
use Rattle.rearrangement.specs.Calls.{rearrangement}
use Rattle.contextual.specs.Calls.{contextual}
use Rattle.noncontextual.specs.NonContextual.{noncontextual}
use Rattle.ligature.specs.Calls.{ligature}
use Rattle.insertion.specs.Calls.{insertion}
use Rattle.mort.specs.Mort.{has_kind, old_rearrangement, old_non_contextual}
use Rattle.chains.specs.declared.Edition.{Edition}
use Rattle.chains.specs.declared.Edition.TheVariants.{Morx, Mort}
use Rattle.morx.specs.declared.Kind.{Kind}
use Rattle.morx.specs.declared.Kind.TheVariants.{Rearrangement, Contextual, Ligature, NonContextual, Insertion, OldRearrangement, OldNonContextual, LeftOut}

-- the kinds 0, 1, 2, 4 and 5 are taken, and of mort's 0 and 4
unfoldable pub kind_of : Edition → ℕ → Kind
kind_of Morx n =
    if_eq n 0 Rearrangement
    (if_eq n 1 Contextual
    (if_eq n 2 Ligature
    (if_eq n 4 NonContextual
    (if_eq n 5 Insertion LeftOut))))
kind_of Mort n = if_eq n 0 OldRearrangement (if_eq n 4 OldNonContextual LeftOut)

-- of the bytes that a subtable begins with: in morx its head has 12, and the kind is the low byte of the coverage at 4
unfoldable pub kind_at : Edition → List ℕ → Kind
kind_at Morx bytes = cond (inside bytes 0 12) (kind_of Morx (u32_at bytes 4 % 256)) LeftOut
kind_at Mort bytes = cond (has_kind bytes 0) OldRearrangement (cond (has_kind bytes 4) OldNonContextual LeftOut)

-- the crate's `kind` gives the subtable where its kind is taken and its machine can open it; a pass by any other is refused by HEAD
unfoldable pub subtable_of_kind : Kind → Subtable
subtable_of_kind Rearrangement = subtable_of rearrangement
subtable_of_kind Contextual = subtable_of contextual
subtable_of_kind Ligature = subtable_of ligature
subtable_of_kind NonContextual = noncontextual
subtable_of_kind Insertion = subtable_of insertion
subtable_of_kind OldRearrangement = old_rearrangement
subtable_of_kind OldNonContextual = old_non_contextual
subtable_of_kind LeftOut = record { is_open = λ bytes. false; worked = λ bytes l. refused_pass Refusal'.Head }

-- of the kind that its head says
abbrev pub any_subtable : Edition → Subtable
any_subtable edition =
    record {
      is_open = λ bytes. (subtable_of_kind (kind_at edition bytes)).is_open bytes;
      worked = λ bytes l. (subtable_of_kind (kind_at edition bytes)).worked bytes l;
    }
