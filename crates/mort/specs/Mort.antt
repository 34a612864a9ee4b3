-- The two kinds of mort subtables that are taken, over the bytes from a subtable's own start on. The manual alone defines them, but that document 01's
-- stall rule, end call and answers hold, and that a failed read in the state table, class count 0 and a new state below the state array give ENDED.
use Rattle.state_tables.specs.declared.States.{States}
use Rattle.std.specs.Prelude.{ℕ, ◌%◌, Bool, cond, List, [], eqb, drop, Option, Some, None}
use Rattle.laws.specs.Lists.{both}
use Rattle.answers.specs.declared.Answer.TheVariants as Answer'
use Rattle.answers.specs.declared.Refusal.TheVariants as Refusal'
use Rattle.parse.specs.Reads.{inside, u16_at}
use Rattle.tables.specs.Units.{lookup_by}
use Rattle.tables.specs.declared.units.Reading.TheVariants.{Manual}
use Rattle.state_tables.specs.States.{classic_at}
use Rattle.line.specs.Line.{Line}
use Rattle.machine.specs.Pass.{Passed}
use Rattle.machine.specs.Machine.{Subtable, refused_pass, passed}
use Rattle.rearrangement.specs.Calls.{rearrangement}
use Rattle.noncontextual.specs.NonContextual as NonContextual

-- its head has 8 bytes: length and coverage, of 16 bits each, and flags; the kind is the coverage's low three bits
unfoldable pub has_kind : List ℕ → ℕ → Bool
has_kind bytes kind = both (inside bytes 0 8) (eqb (u16_at bytes 2 % 8) kind)

-- what stands behind the head
abbrev pub body_of : List ℕ → List ℕ
body_of bytes = drop 8 bytes

-- the rearrangement machine over a classic state table; one that can't be opened is a failed read: ENDED, and nothing is changed
abbrev pub rearranged : Option States → List ℕ → Line → Passed
rearranged (Some states) body l = passed rearrangement body states l
rearranged None body l = record { answer = Answer'.Ended; changes = [] }

-- kind 0; HEAD where it is none
abbrev pub old_rearrangement : Subtable
old_rearrangement =
    record {
      is_open = λ bytes. has_kind bytes 0;
      worked = λ bytes l. cond (has_kind bytes 0) (rearranged (classic_at (body_of bytes)) (body_of bytes) l) (refused_pass Refusal'.Head);
    }

-- kind 4: one lookup, as the manual reads it; HEAD where it is none
abbrev pub old_non_contextual : Subtable
old_non_contextual =
    record {
      is_open = λ bytes. has_kind bytes 4;
      worked = λ bytes l. cond (has_kind bytes 4) (NonContextual.passed (lookup_by Manual (body_of bytes)) l) (refused_pass Refusal'.Head);
    }
