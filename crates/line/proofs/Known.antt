-- The known cases hold, by computation.
use mathlib.Core.Path.{◌≡◌, refl}
use mathlib.Core.List.{map}
use Rattle.laws.specs.Lists as Lists
use Rattle.laws.specs.Backward as Backward
use Rattle.verbs.specs.Verbs as Verbs
use Rattle.line.specs.Edits.{width_of, among, carry, added, carry_all}
use Rattle.line.specs.Changes.{edits_of, windowed, spliced, numbers_from, written, is_part, emptied, rehomed, handed, emptied_all, handed_all, joined_glyphs, joined_homes, apply}
use Rattle.line.specs.Known.{said, computed, cases}

pub known : map computed cases ≡ map said cases
unfolding Lists.tab Backward.backward Verbs.groups_of Verbs.across Verbs.moved Verbs.place_of Verbs.from_of Verbs.rearranged width_of among carry added carry_all edits_of windowed spliced numbers_from written is_part emptied rehomed handed emptied_all handed_all joined_glyphs joined_homes apply
known = refl
