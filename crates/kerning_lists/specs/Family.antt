-- The two families of kerning lists, kern and kerx: what each says for itself, and what is done with either.
use Rattle.answers.specs.declared.Refusal.{Refusal}
use Rattle.tables.specs.declared.lookup.Why.{Why}
use Rattle.std.specs.Prelude.{ℕ, ◌+◌, Bool, false, List, [], ◌∷◌, ℤ, length, drop, Option, Result, Err}
use Rattle.answers.specs.Refuse.{refuse, table_test}
use Rattle.answers.specs.declared.Answer.TheVariants as Answer'
use Rattle.answers.specs.declared.Refusal.TheVariants as Refusal'
use Rattle.line.specs.Line.{Line}
use Rattle.kerning.specs.Additions.{Addition, Kerned, nothing_added, called_by}
use Rattle.kerning.specs.Line.{kerning_tests}
use Rattle.kerning.specs.declared.choices.Choices.{Choices}
use Rattle.pairs.specs.Reply.{checked_pair}
use Rattle.kerning_lists.specs.Walk.{on_head, list_bytes, heads_from}
use Rattle.kerning_lists.specs.Run.{Ran, ran_over, run_tests, unless_refused}
use Rattle.kerning_lists.specs.Cursors.{cursor, next_by, list_tests, start_by, reply_by}
use Rattle.kerning_lists.specs.declared.ListHead.{ListHead}
use Rattle.kerning_lists.specs.declared.Subtable.{Subtable}
use Rattle.kerning_lists.specs.declared.Cursor.{Cursor}
use Rattle.kerning_lists.specs.declared.NextSubtable.{NextSubtable}

-- the list's own head; the head of a subtable at a place, by the bytes from there on; and of a subtable of a format, by its bytes, the pass by the
-- choices made and the answer for a pair
pub record Family : Type 0 where
  pub list_of : List ℕ → ListHead
  pub head_in : (rtl : Bool) → (version at : ℕ) → (part : List ℕ) → Option Subtable
  pub worked : List ℕ → (version format : ℕ) → (glyphs : List ℕ) → (used : ℕ) → Choices → Kerned
  pub pair_by : List ℕ → (version format left right : ℕ) → Result (Result ℤ Why) Refusal

module _ (family : Family) where
  abbrev pub head_at : (rtl : Bool) → List ℕ → (version at : ℕ) → Option Subtable
  head_at rtl bytes version at = family.head_in rtl version at (drop at bytes)

  -- the walk of a list, of a line that goes from right to left or not
  unfoldable pub walk_of : (rtl : Bool) → List ℕ → List Subtable
  walk_of rtl bytes =
      let list : ListHead = family.list_of bytes in
      heads_from (head_at rtl bytes list.version) list.count list.first

  -- a lone pass, by the format that the head tells; HEAD where that can't be read. It is told no direction and turns nothing
  unfoldable pub passed : List ℕ → (version : ℕ) → (glyphs : List ℕ) → (used : ℕ) → Choices → Kerned
  passed bytes version glyphs used choices =
      on_head (family.head_in false version 0 bytes) (λ s. family.worked bytes version s.format glyphs used choices) (nothing_added (Answer'.Refused Refusal'.Head))

  -- a call of it: TABLE and LINE are tested before; HEAD is the pass's own answer
  unfoldable pub pass_call : List ℕ → (start version : ℕ) → Line → List ℤ → Choices → Kerned
  pass_call table start version l along choices =
      called_by (refuse (kerning_tests (length table) l along)) (passed (drop start table) version l.glyphs l.used choices)

  -- the answer for a pair of glyphs: HEAD where the head can't be read or the format has no pairs
  unfoldable pub pair_in : List ℕ → (version left right : ℕ) → Result (Result ℤ Why) Refusal
  pair_in bytes version left right =
      on_head (family.head_in false version 0 bytes) (λ s. family.pair_by bytes version s.format left right) (Err Refusal'.Head)

  unfoldable pub pair_call : List ℕ → (start version left right : ℕ) → Result (Result ℤ Why) Refusal
  pair_call table start version left right =
      checked_pair (refuse (table_test (length table) ∷ [])) (pair_in (drop start table) version left right)

  -- what a subtable of a list adds to some glyphs
  abbrev pub adds : List ℕ → (version used : ℕ) → Choices → Subtable → (glyphs : List ℕ) → List Addition
  adds bytes version used choices s glyphs = (family.worked (drop s.body bytes) version s.format glyphs used choices).additions

  -- a whole run over the list that begins with these bytes
  unfoldable pub ran : List ℕ → (rtl : Bool) → (glyphs : List ℕ) → (used : ℕ) → List ℤ → Choices → Ran
  ran bytes rtl glyphs used along choices = ran_over (walk_of rtl bytes) (adds bytes (family.list_of bytes).version used choices) glyphs used along

  unfoldable pub run_call : List ℕ → (start : ℕ) → (rtl : Bool) → Line → List ℤ → Choices → Ran
  run_call table start rtl l along choices =
      unless_refused (refuse (run_tests (length table) start l along)) along (ran (list_bytes table start) rtl l.glyphs l.used along choices)

  -- a list as a cursor goes through it, in the places of the whole table: its first subtable, how many it counts, and its version
  unfoldable pub list_from : List ℕ → (start : ℕ) → Cursor
  list_from table start =
      let list : ListHead = family.list_of (list_bytes table start) in
      cursor (start + list.first) list.count list.version

  unfoldable pub list_call : List ℕ → (start : ℕ) → Result Cursor Refusal
  list_call table start = start_by (refuse (list_tests (length table) start)) (list_from table start)

  -- the next subtable of a list, as a run from left to right reads its head
  unfoldable pub next_subtable : List ℕ → Cursor → Option NextSubtable
  next_subtable table c = next_by (head_at false table c.version c.place) c

  unfoldable pub subtable_call : List ℕ → Cursor → Result (Option NextSubtable) Refusal
  subtable_call table c = reply_by (refuse (table_test (length table) ∷ [])) (next_subtable table c)
