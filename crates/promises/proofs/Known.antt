-- The known answers hold, by computation.
use mathlib.Core.Path.{refl}
use Rattle.answers.specs.Limits.{table_limit, room_limit}
use Rattle.answers.specs.Refuse.{refuse, table_test}
use Rattle.laws.specs.Lists.{tab, every}
use Rattle.verbs.specs.Verbs.{groups_of, across, moved, from_of, rearranged}
use Rattle.line.specs.Test.{line_test, is_valid, is_legal, are_housed, is_once_each, is_new}
use Rattle.line.specs.Edits.{width_of}
use Rattle.line.specs.Changes.{numbers_from, windowed, apply, apply_all}
use Rattle.line.specs.Entries.{fresh_of, verb_tests, verb_makes, made_by, answer_by, verb_changes, verb_call}
use Rattle.parse.specs.Reads.{inside, read_u16, read_u32}
use Rattle.state_tables.specs.States.{extended_by, extended_at}
use Rattle.state_tables.specs.Classes.{class_by_lookup, class_of, class_in, head_test, class_reply, class_extended}
use Rattle.ligature.specs.Actions.{offset_of}
use Rattle.tables.specs.Records.{format_of}
use Rattle.tables.specs.Lookup.{lookup_reply, lookup_at, in_format, trimmed_at, element_at}
use Rattle.parse.specs.Reads.{read_i16}
use Rattle.tables.specs.Search.{side_of_pair, side_of, find, searched}
use Rattle.laws.specs.Signed.{signed16}
use Rattle.kerning.specs.Additions.{add_at, add_all}
use Rattle.kerning.specs.Choices.{rule_of, choices_of}
use Rattle.pairs.specs.Pairs.{ordered_kern, number_at, number_in, ordered_number, pair_number}
use Rattle.pairs.specs.Pass.{last_below, pairs_below, worked_by}
use Rattle.kern.specs.Heads.{old_subtable, head_in}
use Rattle.kern.specs.Kern as Kern
use Rattle.kerning_lists.specs.Run.{zeros}
use Rattle.kerning_lists.specs.Family.{passed}
use Rattle.promises.specs.Known.{rows, answer_to, kerned_by, AllKnown, KnownReasons, KnownPairs}

pub known-answers : AllKnown
unfolding rows answer_to offset_of extended_at extended_by read_u32 class_by_lookup class_of class_in head_test class_reply class_extended tab every groups_of across moved from_of rearranged room_limit line_test is_valid is_legal are_housed is_once_each is_new fresh_of numbers_from verb_tests verb_makes made_by answer_by verb_changes verb_call width_of windowed apply apply_all table_limit refuse table_test inside read_u16 format_of lookup_reply lookup_at in_format trimmed_at element_at
known-answers = refl

pub known-reasons : KnownReasons
unfolding table_limit refuse table_test inside read_u16 format_of lookup_reply lookup_at in_format trimmed_at element_at
known-reasons = record { before_the_first = refl; cut_off = refl; format_three = refl }

pub known-pairs : KnownPairs
unfolding kerned_by choices_of rule_of zeros tab add_at add_all passed head_in old_subtable Kern.worked worked_by pairs_below last_below ordered_kern pair_number ordered_number number_in number_at searched find side_of side_of_pair inside read_u16 read_i16 read_u32 signed16
known-pairs = record { neighbours_parted = refl; joined-over_it = refl; neighbours_beside_it = refl; joined_beside_it = refl }
