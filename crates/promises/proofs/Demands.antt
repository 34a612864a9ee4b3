-- Each demand's theorems, from the crates below.
use native.Mathlib.Omega.{arith}
use Rattle.answers.proofs.Refusals.{refuse-none, refuse-here, refuse-later}
use Rattle.line.proofs.Exact.{valid-exact, legal-exact}
use Rattle.line.proofs.FreshLaws.{fresh-valid, fresh_starts}
use Rattle.line.proofs.Demand3.{over-changes}
use Rattle.line.proofs.Known as Edits
use Rattle.machine.proofs.Stalls.{stall_falls}
use Rattle.rearrangement.proofs.Turns.{rearrangement_turns}
use Rattle.contextual.proofs.Turns.{contextual_turns}
use Rattle.ligature.proofs.Turns.{ligature_turns}
use Rattle.ligature.proofs.ActionTurns.{action_turns}
use Rattle.ligature.proofs.EntryTurns.{entry_turns}
use Rattle.insertion.proofs.Turns.{insertion_turns}
use Rattle.kerning_machine.proofs.Turns.{kerning_turns}
use Rattle.anchor_machine.proofs.Turns.{anchor_turns}
use Rattle.morx.proofs.Heads.{heads-counted}
use Rattle.mort.proofs.Passes.{rearranges, ends_closed, substitutes}
use Rattle.morx.proofs.Older.{old-homes, old-used, old-run-homes, old-run-used}
use Rattle.morx.proofs.Requests.{no_requests, any_order, flags_as_manual}
use Rattle.stored.specs.Entries.{newest_version}
use Rattle.stored.specs.Reading.{read_line}
use Rattle.stored.proofs.Written.{record_size}
use Rattle.stored.proofs.Exact.{accepted_exact, read_valid}
use Rattle.stored.proofs.Records.{read_record, record_read}
use Rattle.stored.proofs.Versions.{older_refuses, older_alike}
use Rattle.stored.proofs.Known.{known_records}
use Rattle.morx.proofs.Demand3.{fresh-demand3, calls_honest}
use Rattle.morx.proofs.Demand3 as Calls
use Rattle.morx.proofs.Memory.{in_memory_lem}
use Rattle.shaper.proofs.Honesty.{shaped_runs}
use Rattle.parse.proofs.Laws.{u8_from, u16_from, u32_from}
use Rattle.tables.proofs.Finding.{search_finds, search_finds_pair}
use Rattle.tables.proofs.ManualLookup.{lookup_as_manual}
use Rattle.tables.proofs.Reasons.{why_exact, uncovered-exact, lookup_passes_on}
use Rattle.tables.proofs.Surveys.{survey_sound, survey_complete, survey_bad, survey_exact}
use Rattle.mend.proofs.Powers.{exponent_exact}
use Rattle.mend.proofs.Right.{mended_sorted, mended-lookup, mended-numbers, overlap_exact, mend_unchanged}
use Rattle.state_tables.proofs.Manual.{class_by-lookup, class_drops, class_by_array_lem, entry_as_manual, readings_class}
use Rattle.ltag.proofs.Manual.{index_as_manual}
use Rattle.verbs.proofs.Drawing.{as_drawn}
use Rattle.verbs.proofs.Laws.{from_place, place_from_lem, place_of-below, length-rearranged, get_d_rearranged}
use Rattle.contextual.proofs.Manual.{by_manual, past_manual, contextual_drops}
use Rattle.noncontextual.proofs.Reasons.{noncontextual_drops}
use Rattle.ligature.proofs.Manual.{action_by_manual, action_past_manual, component_by_manual, component_past_manual, ligature_by_manual, ligature_past_manual}
use Rattle.insertion.proofs.Manual.{glyphs_by_manual, list_by_manual, list_past_manual, list-at-end}
use Rattle.indexes.proofs.Same.{filled_right}
use Rattle.morx.proofs.SameIndex.{same_call, fill_then_pass}
use Rattle.chains.proofs.ManualWalk.{walk_as_manual}
use Rattle.chains.proofs.ManualFlags.{features-ended}
use Rattle.chains.proofs.Manual.{order_as_manual, reverse_as_manual, orders_as_manual, reverses_as_manual, vertical_as_manual, chain_as_manual, chains-end, feature_as_manual, features-end, subtable_as_manual, subtables_end}
use Rattle.pairs.proofs.Reasons.{pair_passes_on, absent-uncovered, left_speaks_first, right_speaks_next, number_speaks_last, pass_drops}
use Rattle.pairs.proofs.Joined.{neighbours_all, joined-pairs, joined_without_deleted}
use Rattle.kerning.proofs.Choosing.{unnamed_bits, crate_chosen}
use Rattle.kerning.proofs.Walks.{walks_one}
use Rattle.tables.proofs.Sizes.{format_ten, other_formats, in_crate}
use Rattle.promises.proofs.Lists.{kern-list, kerx-list, manual_list}
use Rattle.promises.proofs.Alike.{manual_pairs}
use Rattle.kerning_lists.proofs.Families.{by_default, runs_by_default}
use Rattle.kern.proofs.Cursors as KernCursor
use Rattle.kern.proofs.Manual.{kern_as_manual, kern_without_list, kern_pair_as_manual}
use Rattle.kern_machine.proofs.Manual.{list_as_manual}
use Rattle.kerx.proofs.Cursors as KerxCursor
use Rattle.kerx.proofs.Manual.{kerx_as_manual, kerx_without_list, kerx_pair_as_manual, kerx-class_as_manual}
use Rattle.kerx.proofs.ManualMarks.{marks_as_manual}
use Rattle.kerx.proofs.Plain.{anchored-run, anchored-pass}
use Rattle.kerx.proofs.Marked.{call_exact, run_in_range}
use Rattle.kerx.proofs.SameIndex.{same-kerx_call, fill_then_kerx_pass}
use Rattle.kerx.proofs.Order.{order_free, run-sums}
use Rattle.report.proofs.Extremes.{reported, refused_stays}
use Rattle.anchors.proofs.Manual.{points_as_manual}
use Rattle.anchor_machine.proofs.Manual.{record_by_manual, record_past_manual}
use Rattle.anchor_machine.proofs.Exactly.{offset-exact}
use Rattle.promises.specs.Demand1.{Demand1}
use Rattle.promises.specs.Demand2.{Lookups, Reasons, Mends, StateTables, Verbs, SubtableLists, Chains, Older, Features, Indexes, Kerning, Choosing, Marks, Orders, Reports, Demand2}
use Rattle.promises.specs.Demand3.{Stored, Demand3}
use Rattle.promises.proofs.Reels.{reels}
use Rattle.promises.proofs.Known.{known-answers, known-reasons, known-pairs}
use Rattle.promises.proofs.KnownMarks.{known-marks}
use Rattle.promises.proofs.KnownOrders.{stated_met, inside_met, needs_each}

pub demand1 : Demand1
demand1 =
    record {
      refuse-none = refuse-none;
      refuse-here = refuse-here;
      refuse-later = refuse-later;
      valid-exact = valid-exact;
      legal-exact = legal-exact;
      stall_falls = stall_falls;
      rearrangement_turns = rearrangement_turns;
      contextual_turns = contextual_turns;
      ligature_turns = ligature_turns;
      insertion_turns = insertion_turns;
      kerning_turns = kerning_turns;
      anchor_turns = anchor_turns;
      entry_turns = λ bytes states index glyph class more state stack cycles made c.
          entry_turns bytes states index glyph class more 18 state stack cycles made c (omega arith);
      action_turns = λ bytes places depth more number at sum cycles glyphs made c.
          action_turns bytes places depth more 34 number at sum cycles glyphs made c (omega arith);
      heads-counted = heads-counted;
      kern-cursor_walks = KernCursor.cursor_walks;
      kerx-cursor_walks = KerxCursor.cursor_walks;
      walk-turned = KerxCursor.walk-turned;
      shaped_runs = shaped_runs;
    }

lookups : Lookups
lookups =
    record {
      search_finds = search_finds;
      search_finds_pair = search_finds_pair;
      lookup_as_manual = lookup_as_manual;
      format_ten = format_ten;
      other_formats = other_formats;
      in_crate = in_crate;
      survey_sound = survey_sound;
      survey_complete = survey_complete;
      survey_bad = survey_bad;
      survey_exact = survey_exact;
    }

reasons : Reasons
reasons =
    record {
      why_exact = why_exact;
      uncovered-exact = uncovered-exact;
      known-reasons = known-reasons;
      lookup_passes_on = lookup_passes_on;
      pair_passes_on = pair_passes_on;
      absent-uncovered = absent-uncovered;
      left_speaks_first = left_speaks_first;
      right_speaks_next = right_speaks_next;
      number_speaks_last = number_speaks_last;
      class_drops = class_drops;
      contextual_drops = contextual_drops;
      noncontextual_drops = noncontextual_drops;
      pass_drops = pass_drops;
    }

mends : Mends
mends =
    record {
      mended_sorted = mended_sorted;
      mended-lookup = mended-lookup;
      mended-numbers = mended-numbers;
      overlap_exact = overlap_exact;
      mend_unchanged = mend_unchanged;
      exponent_exact = exponent_exact;
    }

state_tables : StateTables
state_tables = record { class_by-lookup = class_by-lookup; class_by_array_lem = class_by_array_lem; entry_as_manual = entry_as_manual }

verbs : Verbs
verbs =
    record {
      as_drawn = as_drawn;
      from_place = from_place;
      place_from_lem = place_from_lem;
      place_of-below = place_of-below;
      length-rearranged = length-rearranged;
      get_d_rearranged = get_d_rearranged;
    }

subtable_lists : SubtableLists
subtable_lists =
    record {
      by_manual = by_manual;
      past_manual = past_manual;
      action_by_manual = action_by_manual;
      action_past_manual = action_past_manual;
      component_by_manual = component_by_manual;
      component_past_manual = component_past_manual;
      ligature_by_manual = ligature_by_manual;
      ligature_past_manual = ligature_past_manual;
      glyphs_by_manual = glyphs_by_manual;
      list_by_manual = list_by_manual;
      list_past_manual = list_past_manual;
      list-at-end = list-at-end;
    }

chains : Chains
chains =
    record {
      order_as_manual = order_as_manual;
      reverse_as_manual = reverse_as_manual;
      orders_as_manual = orders_as_manual;
      reverses_as_manual = reverses_as_manual;
      vertical_as_manual = vertical_as_manual;
      chain_as_manual = chain_as_manual;
      chains-end = chains-end;
      feature_as_manual = feature_as_manual;
      features-end = features-end;
      subtable_as_manual = subtable_as_manual;
      subtables_end = subtables_end;
      walk_as_manual = walk_as_manual;
    }

older : Older
older =
    record {
      rearranges = rearranges;
      ends_closed = ends_closed;
      substitutes = substitutes;
      old-homes = old-homes;
      old-used = old-used;
      old-run-homes = old-run-homes;
      old-run-used = old-run-used;
    }

features : Features
features = record { no_requests = no_requests; any_order = any_order; flags_as_manual = flags_as_manual; features-ended = features-ended }

indexes : Indexes
indexes =
    record {
      same_call = same_call;
      filled_right = filled_right;
      fill_then_pass = fill_then_pass;
      same-kerx_call = same-kerx_call;
      fill_then_kerx_pass = fill_then_kerx_pass;
    }

kerning : Kerning
kerning =
    record {
      kern_as_manual = kern_as_manual;
      kerx_as_manual = kerx_as_manual;
      kern_without_list = kern_without_list;
      kerx_without_list = kerx_without_list;
      kern_pair_as_manual = kern_pair_as_manual;
      kerx_pair_as_manual = kerx_pair_as_manual;
      kerx-class_as_manual = kerx-class_as_manual;
      list_as_manual = list_as_manual;
      walks_one = walks_one;
      kern-list = kern-list;
      kerx-list = kerx-list;
      manual_list = manual_list;
    }

choosing : Choosing
choosing =
    record {
      by_default = by_default;
      runs_by_default = runs_by_default;
      neighbours_all = neighbours_all;
      unnamed_bits = unnamed_bits;
      joined-pairs = joined-pairs;
      joined_without_deleted = joined_without_deleted;
      manual_default = crate_chosen;
      manual_pairs = manual_pairs;
      manual_classes = λ bytes other glyph c m. readings_class bytes glyph other c m;
      known-pairs = known-pairs;
    }

marks : Marks
marks =
    record {
      offset-exact = offset-exact;
      pass-exact = call_exact;
      run_in_range = run_in_range;
      anchored-run = anchored-run;
      anchored-pass = anchored-pass;
      marks_as_manual = marks_as_manual;
      record_by_manual = record_by_manual;
      record_past_manual = record_past_manual;
      points_as_manual = points_as_manual;
      known-marks = known-marks;
    }

orders : Orders
orders = record { order_free = order_free; run-sums = run-sums; stated_met = stated_met; inside_met = inside_met; needs_each = needs_each }

reports : Reports
reports = record { reported = reported; refused_stays = refused_stays }

pub demand2 : Demand2
demand2 =
    record {
      lookups = lookups;
      reasons = reasons;
      mends = mends;
      state_tables = state_tables;
      verbs = verbs;
      subtable_lists = subtable_lists;
      chains = chains;
      older = older;
      features = features;
      indexes = indexes;
      kerning = kerning;
      choosing = choosing;
      marks = marks;
      orders = orders;
      reports = reports;
      index_as_manual = index_as_manual;
      u8_from = u8_from;
      u16_from = u16_from;
      u32_from = u32_from;
      known-answers = known-answers;
    }

stored : Stored
stored =
    record {
      read_record = read_record;
      record_read = λ bytes small ok glyphs tags. record_read bytes small ok glyphs tags;
      accepted_exact = accepted_exact;
      record_size = record_size;
      read_valid = read_valid;
      older_refuses = older_refuses;
      older_alike = older_alike;
      known_records = known_records;
    }

pub demand3 : Demand3
demand3 =
    record {
      fresh-demand3 = fresh-demand3;
      demand3 = Calls.demand3;
      read_demand3 = λ bytes glyphs tags homes p calls.
          Calls.demand3 calls (read_line bytes glyphs tags) (read_valid newest_version bytes glyphs tags homes p);
      fresh-valid = fresh-valid;
      fresh_starts = fresh_starts;
      calls_honest = calls_honest;
      in_memory_lem = in_memory_lem;
      over-changes = over-changes;
      known_edits = Edits.known;
      stored = stored;
      reels = reels;
    }
