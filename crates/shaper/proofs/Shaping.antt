-- An input that is taken, the line that it starts with, and the run over that.
use Rattle.std.specs.Prelude.{Option, Some, None, Result, Ok, Err}
use Prim.Native.Nat.{ℕ, ◌+◌, ◌-◌, ◌*◌, ◌/◌, ◌≤◌, min}
use mathlib.Core.Path.{◌≡◌, refl, sym, ◌∙◌, ap, subst}
use mathlib.Core.Bool.{Bool, true, false, cond}
use mathlib.Core.List.{List, [], ◌++◌, append-nil}
use native.Mathlib.Nat.{zero-add}
use native.Mathlib.Omega.{arith}
use lib.Dec.{ltb, eqb}
use lib.ListN.{length, take, drop, length-drop}
use lib.Seq.{paste, slice_empty, length-take-le}
use borrow.Author.Tests.{ltb-false, eqb-true}
use Rattle.laws.specs.Choose.{if_lt, if_eq}
use Rattle.laws.proofs.Parts.{part_is}
use Rattle.answers.specs.Limits.{room_limit}
use Rattle.answers.specs.declared.Answer.TheVariants as Answer'
use Rattle.answers.specs.declared.Refusal.{Refusal}
use Rattle.answers.specs.declared.Refusal.TheVariants as Refusal'
use Rattle.parse.specs.Reads.{read_u16, read_u32}
use Rattle.parse.specs.Use.{on_u16, on_u32}
use Rattle.line.specs.Line.{Line, line_of}
use Rattle.line.specs.Changes.{glyphs_of, numbers_from, spliced}
use Rattle.line.specs.Entries.{fresh_of}
use Rattle.line.proofs.Once.{length-numbers_from}
use Rattle.line.proofs.Loops.{paste_over, length-glyphs_of}
use Rattle.morx.specs.Work.{run_reply_of}
use Rattle.morx.specs.Calls.{run_call, run_leaves}
use Rattle.morx.specs.declared.RunReply.{RunReply}
use Rattle.shaper.specs.Shaper.{shaper_table, shaper_room, line_in, input_of, left_to_right, start_line, shaped_in, shaped_by, shaped}
use Rattle.shaper.specs.declared.Shaped.{Shaped}

pub shaper_room-fits : shaper_room ≤ room_limit
unfolding shaper_room room_limit
shaper_room-fits = omega arith

-- where the parts of an input lie whose table ends at `end`
pub record Taken (input : List ℕ) (end : ℕ) : Type 0 where
  pub behind : 4 ≤ end
  pub short : end ≤ 4 + shaper_table
  pub fits : end + 2 ≤ length input
  pub few : length (drop (end + 2) input) / 2 ≤ shaper_room

refused_not_taken : {why : Refusal} {end : ℕ} → Err why ≡ Ok end → ⊥
refused_not_taken e = let z : ◌≡◌ {A = ℕ} 0 1 = cc in omega arith

module _ (input : List ℕ) (end : ℕ) where
  by_count : (at count : ℕ) (above whole : Bool) → 4 ≤ at → at ≤ 4 + shaper_table → ltb shaper_room count ≡ above → eqb (length input) (at + 2 + count * 2) ≡ whole
      → cond above (Err Refusal'.Line) (cond whole (Ok at) (Err Refusal'.Line)) ≡ Ok end → Taken input end
  by_count at count true whole h k p q e = absurd (refused_not_taken e)
  by_count at count false false h k p q e = absurd (refused_not_taken e)
  by_count at count false true h k p q e =
      let i : at ≡ end = cc in
      let n : length input ≡ at + 2 + count * 2 = eqb-true _ _ q in
      let few : count ≤ shaper_room = ltb-false _ _ p in
      record { behind = omega arith; short = omega arith; fits = omega arith; few = rw (length-drop (end + 2) input) (omega arith) }

  by_size : (size : ℕ) (above : Bool) → ltb shaper_table size ≡ above → cond above (Err Refusal'.Table) (line_in input (4 + size)) ≡ Ok end → Taken input end
  by_size size true p e = absurd (refused_not_taken e)
  by_size size false p e = go (read_u16 input (4 + size)) e
    where
      go : (u : Option ℕ)
          → on_u16 u
          (λ count.
          if_lt shaper_room count (Err Refusal'.Line)
          (if_eq (length input) (4 + size + 2 + count * 2) (Ok (4 + size)) (Err Refusal'.Line)))
          (Err Refusal'.Line)
          ≡ Ok end → Taken input end
      go (Some count) e =
          by_count (4 + size) count (ltb shaper_room count) (eqb (length input) (4 + size + 2 + count * 2)) (omega arith) (omega (arith, ltb-false shaper_table size p)) refl refl e
      go None e = absurd (refused_not_taken e)

  pub taken : input_of input ≡ Ok end → Taken input end
  unfolding input_of
  taken = go (read_u32 input 0)
    where
      go : (u : Option ℕ)
          → on_u32 u (λ size. if_lt shaper_table size (Err Refusal'.Table) (line_in input (4 + size))) (Err Refusal'.Line) ≡ Ok end
          → Taken input end
      go (Some size) e = by_size size (ltb shaper_table size) refl e
      go None e = absurd (refused_not_taken e)

-- glyphs put into a line of no places
spliced-empty : (new xs : List ℕ) → spliced (min 0 0) 0 new xs ≡ new ++ drop (length new) xs
unfolding spliced
spliced-empty new xs = rw (slice_empty 0 xs, append-nil new, zero-add (length new))

-- what the run over a line answers and leaves
abbrev pub RunsTo : (table : List ℕ) → Line → RunReply → (glyphs tags homes : List ℕ) → Type 0
RunsTo table l reply glyphs tags homes =
    (reply ≡ run_reply_of (run_call table 0 left_to_right l []) l)
    × ((glyphs ≡ (run_leaves table 0 left_to_right l []).glyphs)
    × ((tags ≡ (run_leaves table 0 left_to_right l []).tags)
    × (homes ≡ (run_leaves table 0 left_to_right l []).homes)))

module _ (new glyphs tags homes : List ℕ) (e : length homes ≡ length new / 2) {glyphs' tags' homes' : List ℕ}
    (g : glyphs' ≡ spliced (min 0 0) 0 (glyphs_of new) glyphs)
    (t : tags' ≡ spliced (min 0 0) 0 (numbers_from 0 (length new / 2)) tags)
    (h : homes' ≡ paste homes 0 (numbers_from 0 (length homes)) (length homes)) where
  glyphs_are : glyphs' ≡ glyphs_of new ++ drop (length new / 2) glyphs
  glyphs_are = g ∙ spliced-empty (glyphs_of new) glyphs ∙ ap (λ (n : ℕ). glyphs_of new ++ drop n glyphs) (length-glyphs_of new)

  tags_are : tags' ≡ numbers_from 0 (length homes) ++ drop (length homes) tags
  tags_are =
      t ∙ ap (λ (n : ℕ). spliced (min 0 0) 0 (numbers_from 0 n) tags) (sym e)
      ∙ spliced-empty (numbers_from 0 (length homes)) tags
      ∙ ap (λ (n : ℕ). numbers_from 0 (length homes) ++ drop n tags) (length-numbers_from 0 (length homes))

  homes_are : homes' ≡ numbers_from 0 (length homes)
  homes_are = h ∙ paste_over homes (numbers_from 0 (length homes)) (length-numbers_from 0 (length homes))

  start_is : line_of glyphs' tags' homes' (length homes) ≡ start_line new glyphs tags homes
  unfolding start_line fresh_of
  start_is =
      ap (λ (x : List ℕ). line_of x tags' homes' (length homes)) glyphs_are
      ∙ ap (λ (x : List ℕ). line_of (glyphs_of new ++ drop (length new / 2) glyphs) x homes' (length homes)) tags_are
      ∙ ap (λ (x : List ℕ). line_of (glyphs_of new ++ drop (length new / 2) glyphs) (numbers_from 0 (length homes) ++ drop (length homes) tags) x (length homes)) homes_are

  pub started : (table : List ℕ) (reply : RunReply) (glyphs'' tags'' homes'' : List ℕ)
      → RunsTo table (line_of glyphs' tags' homes' (length homes)) reply glyphs'' tags'' homes''
      → RunsTo table (start_line new glyphs tags homes) reply glyphs'' tags'' homes''
  started table reply glyphs'' tags'' homes'' r = subst (λ (l : Line). RunsTo table l reply glyphs'' tags'' homes'') start_is r

-- what the shaper answers and leaves
abbrev pub ShapesTo : (input : List ℕ) → (end : ℕ) → (glyphs tags homes : List ℕ) → Shaped → (glyphs' tags' homes' : List ℕ) → Type 0
ShapesTo input end glyphs tags homes reply glyphs' tags' homes' =
    (reply ≡ (shaped_in input end glyphs tags homes).reply)
    × ((glyphs' ≡ (shaped_in input end glyphs tags homes).glyphs)
    × ((tags' ≡ (shaped_in input end glyphs tags homes).tags)
    × (homes' ≡ (shaped_in input end glyphs tags homes).homes)))

shapes_by : (input : List ℕ) (end : ℕ) (glyphs tags homes : List ℕ) {new glyphs' tags' homes' : List ℕ} {reply : RunReply}
    → drop (end + 2) input ≡ new
    → RunsTo (take (end - 4) (drop 4 input)) (start_line new glyphs tags (take (length new / 2) homes)) reply glyphs' tags' homes'
    → ShapesTo input end glyphs tags homes
    (record { answer = reply.answer; heads = reply.heads; used = reply.used; characters = length new / 2 })
    glyphs' tags' (homes' ++ drop (length new / 2) homes)
unfolding shaped_in run_leaves
shapes_by input end glyphs tags homes {new} {glyphs'} {tags'} {homes'} {reply} e r =
    rw e (
      ap (λ (x : RunReply). record { answer = x.answer; heads = x.heads; used = x.used; characters = length new / 2 }) r.0,
      (r.1.0, (r.1.1.0, ap (λ (x : List ℕ). x ++ drop (length new / 2) homes) r.1.1.1)),
    )

-- the glyphs' bytes, as they are lent
abbrev pub lent : List ℕ → ℕ → List ℕ
lent input end = take (length input - (end + 2)) (drop (end + 2) input)

pub shapes : (input : List ℕ) (end : ℕ) (glyphs tags homes : List ℕ) {glyphs' tags' homes' : List ℕ} {reply : RunReply}
    → RunsTo (take (end - 4) (drop 4 input)) (start_line (lent input end) glyphs tags (take (length (lent input end) / 2) homes)) reply glyphs' tags' homes'
    → ShapesTo input end glyphs tags homes
    (record { answer = reply.answer; heads = reply.heads; used = reply.used; characters = length (lent input end) / 2 })
    glyphs' tags' (homes' ++ drop (length (lent input end) / 2) homes)
shapes input end glyphs tags homes r = shapes_by input end glyphs tags homes (sym (part_is (end + 2) input)) r

-- they are no more than the room, and there are places and homes for them
module _ (input : List ℕ) (end : ℕ) (e : input_of input ≡ Ok end) where
  lent_few : length (lent input end) / 2 ≤ shaper_room
  lent_few = rw (part_is (end + 2) input) (taken input end e).few

  pub lent_fits : {places : ℕ} → places ≡ shaper_room → length (lent input end) / 2 ≤ places
  lent_fits n = omega (arith, lent_few)

  pub lent_homes : (homes : List ℕ) → length homes ≡ shaper_room → length (take (length (lent input end) / 2) homes) ≡ length (lent input end) / 2
  lent_homes homes n = length-take-le _ homes (lent_fits n)

  pub lent_limited : length (lent input end) / 2 ≤ room_limit
  lent_limited = omega (arith, lent_few, shaper_room-fits)

-- what the shaper answers and leaves, by what its input says
abbrev pub AllShapesTo : (input glyphs tags homes : List ℕ) → Shaped → (glyphs' tags' homes' : List ℕ) → Type 0
AllShapesTo input glyphs tags homes reply glyphs' tags' homes' =
    (reply ≡ (shaped input glyphs tags homes).reply)
    × ((glyphs' ≡ (shaped input glyphs tags homes).glyphs)
    × ((tags' ≡ (shaped input glyphs tags homes).tags)
    × (homes' ≡ (shaped input glyphs tags homes).homes)))

module _ (input glyphs tags homes : List ℕ) {i : (Result ℕ Refusal)} (e : i ≡ input_of input) where
  pub shape_refused : {why : Refusal} → i ≡ Err why
      → AllShapesTo input glyphs tags homes (record { answer = Answer'.Refused why; heads = 0; used = 0; characters = 0 }) glyphs tags homes
  unfolding shaped shaped_by
  shape_refused {why} f = let k : input_of input ≡ Err why = sym e ∙ f in rw k (refl, (refl, (refl, refl)))

  pub shape_taken : {end : ℕ} {reply : Shaped} {glyphs' tags' homes' : List ℕ} → i ≡ Ok end
      → ShapesTo input end glyphs tags homes reply glyphs' tags' homes' → AllShapesTo input glyphs tags homes reply glyphs' tags' homes'
  unfolding shaped shaped_by
  shape_taken {end} f s = let k : input_of input ≡ Ok end = sym e ∙ f in rw k s
