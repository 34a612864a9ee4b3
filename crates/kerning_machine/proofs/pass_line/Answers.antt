use borrow.Author.Tests.{eqb-true}
use mathlib.Core.Path.{sym, ◌∙◌}
use native.Mathlib.Omega.{arith}
use Rattle.kerning_machine.proofs.Classes.{own-lies, kern_passes, any_passes}
use Rattle.kerning_machine.proofs.pass_line.Goals as goal

pub pass_kern-requires : goal.pass_kern-requires
pass_kern-requires c =
    (sym c.is_classic.ensures ∙ c.if-is_classic.true, (own-lies _ _ c.open-table.ensures).byte_classes _ _ _ c.in-Kern-Bytes.is-1, c.requires)

pub returns-in-Kern-Bytes : goal.returns-in-Kern-Bytes
returns-in-Kern-Bytes c =
    let e = kern_passes _ _ _ _ _ _ c.open-table.ensures (eqb-true _ _ (sym c.is_empty.ensures ∙ c.if-is_empty.true)) c.in-Kern-Bytes.is-1 c.in-Kern-Bytes.is-0 c.pass_kern.ensures.answer c.pass_kern.ensures.along in
    record { answer = e.answers; along = e.leaves }

pub pass-requires : goal.pass-requires
pass-requires c = ((rw c.in-Kerx-default.is-0, rw (c.in-Kerx-default.is-0, c.size_of.ensures.0)), omega (arith, c.size_of.ensures), own-lies _ _ c.open-table.ensures, c.requires)

pub returns-in-Kerx-default : goal.returns-in-Kerx-default
returns-in-Kerx-default c =
    let e = any_passes _ _ _ _ _ _ c.open-table.ensures c.pass.ensures.answer c.pass.ensures.along in
    record { answer = e.answers; along = e.leaves }

pub pass-requires-in_default : goal.pass-requires-in_default
pass-requires-in_default c = ((sym c.rule_of.ensures, sym c.stride_of.ensures.0), omega (arith, c.stride_of.ensures.1), own-lies _ _ c.open-table.ensures, c.requires)

pub returns-in_default : goal.returns-in_default
returns-in_default c =
    let e = any_passes _ _ _ _ _ _ c.open-table.ensures c.pass-in_default.ensures.answer c.pass-in_default.ensures.along in
    record { answer = e.answers; along = e.leaves }
