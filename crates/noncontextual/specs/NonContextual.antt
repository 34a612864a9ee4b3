-- The non-contextual pass: each glyph below the used length is looked up by itself, and replaced where something is found.
use Rattle.tables.specs.declared.lookup.Why.{Why}
use Rattle.std.specs.Prelude.{ℕ, zero, suc, cond, List, [], ◌∷◌, ◌++◌, get_or, Result, Ok, Err}
use Rattle.answers.specs.declared.Refusal.TheVariants as Refusal'
use Rattle.answers.specs.declared.Answer.TheVariants as Answer'
use Rattle.tables.specs.Lookup.{lookup_at}
use Rattle.line.specs.Line.{Line}
use Rattle.line.specs.Changes.{Change}
use Rattle.machine.specs.Head.{has_kind, body_of}
use Rattle.machine.specs.Pass.{Passed}
use Rattle.machine.specs.Machine.{Subtable, refused_pass}

-- what a lookup does at a place: the glyph found is written, and nothing where none is
abbrev pub writes_of : (place : ℕ) → Result ℕ Why → List Change
writes_of place (Ok glyph) = Change.write place glyph ∷ []
writes_of place (Err why) = []

-- what is written at the first n places by any lookup, each by the glyph that stands there; deleted glyphs are looked up like any other
unfoldable pub writes_below : (lookup : ℕ → Result ℕ Why) → (glyphs : List ℕ) → (n : ℕ) → List Change
writes_below lookup glyphs zero = []
writes_below lookup glyphs (suc n) = writes_below lookup glyphs n ++ writes_of n (lookup (get_or glyphs n 0))

-- the pass over a line: always DONE, and no end call
unfoldable pub passed : (lookup : ℕ → Result ℕ Why) → Line → Passed
passed lookup l = record { answer = Answer'.Done; changes = writes_below lookup l.glyphs l.used }

-- by the lookup right behind the head of a subtable of this kind; HEAD where it is none
abbrev pub noncontextual : Subtable
noncontextual =
    record {
      is_open = λ bytes. has_kind bytes 4;
      worked = λ bytes l. cond (has_kind bytes 4) (passed (lookup_at (body_of bytes)) l) (refused_pass Refusal'.Head);
    }
