use Rattle.std.proofs.Common.{rules}
use mathlib.Core.Logic.{⊎_elim}
use mathlib.Core.Path.{◌≡◌, sym, ◌∙◌}
use Rattle.tables.specs.Lookup.{element_in}
use Rattle.tables.specs.Search.{side_of, side_of_record, searched}
use Rattle.tables.specs.declared.records.Keys.TheVariants.{Glyphs}
use Rattle.tables.proofs.Wholeness.{records_lie, record_lies, sought_spot}
use Rattle.tables.proofs.whole.sought.Goals as goal

pub halve-spot-requires : goal.halve-spot-requires
halve-spot-requires c = λ i h. let lies = record_lies c.args.records.kind h (records_lie _ c.requires).inside in search rules

pub returns-in-At : goal.returns-in-At
unfolding searched side_of element_in
returns-in-At c =
    c.by_record.ensures
    ∙ sought_spot _ c.requires _ (sym c.in-At.is ∙ c.halve-spot.ensures (side_of_record c.args.bytes.now 12 c.args.records.kind c.args.glyph) (λ i s h p. search rules))

pub returns-in-Absent : goal.returns-in-Absent
unfolding searched side_of element_in
returns-in-Absent c =
    let found : c.halve-spot.result ≡ searched c.args.bytes.now 12 (Glyphs c.args.records.kind) c.args.records.count c.args.glyph =
    c.halve-spot.ensures (side_of_record c.args.bytes.now 12 c.args.records.kind c.args.glyph) (λ i s h p. search rules) in
    ⊎_elim (λ e. sought_spot _ c.requires _ (sym e ∙ found)) (λ e. sought_spot _ c.requires _ (sym e ∙ found)) c.in-Absent.is
