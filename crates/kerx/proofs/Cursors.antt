-- The walk of a list as its cursor repeated, in the places of the whole table.
use Rattle.std.specs.Prelude.{Option, Some, None}
use Prim.Native.Nat.{ℕ, ◌+◌, ◌%◌}
use mathlib.Core.Path.{◌≡◌, refl, ap}
use mathlib.Core.Bool.{Bool, true, false, not, cond}
use mathlib.Core.List.{List, [], map}
use native.Mathlib.Nat.{add_assoc}
use native.Mathlib.Omega.{arith}
use lib.Dec.{ltb}
use lib.ListN.{drop}
use Rattle.parse.specs.Reads.{read_u32}
use Rattle.parse.proofs.Laws.{read_u32-short}
use Rattle.laws.specs.Bits.{is_set}
use Rattle.kerning_lists.specs.Walk.{list_bytes}
use Rattle.kerning_lists.specs.Cursors.{followed, moved}
use Rattle.kerning_lists.specs.declared.Subtable.{Subtable}
use Rattle.kerning_lists.proofs.Cursors.{map_head, heads_mapped}
use Rattle.kerning_lists.specs.Family.{head_at, walk_of, list_from, next_subtable}
use Rattle.kerning_lists.specs.declared.ListHead.{ListHead}
use Rattle.kerning_lists.proofs.Families as Families
use Rattle.kerx.specs.Heads.{should_reverse, subtable_of, head_in, list_of, turned_round}
use Rattle.kerx.specs.Kerx.{kerx}

-- a head as it is told behind more bytes
head-moved : (version before at : ℕ) (part : List ℕ) → head_in false version (before + at) part ≡ map_head (moved before) (head_in false version at part)
unfolding head_in subtable_of
head-moved version before at part = go (ltb version 4) (read_u32 part 0) (read_u32 part 4) (read_u32 part 8) refl refl refl refl
  where
    go : (t : Bool) (a b c : Option ℕ) → ltb version 4 ≡ t → read_u32 part 0 ≡ a → read_u32 part 4 ≡ b → read_u32 part 8 ≡ c
        → head_in false version (before + at) part ≡ map_head (moved before) (head_in false version at part)
    go true (Some size) (Some coverage) c p e f g = rw (p, e, f, head_in, subtable_of, add_assoc before at size)
    go false (Some size) (Some coverage) (Some tuples) p e f g = rw (p, e, f, g, head_in, subtable_of, add_assoc before at size)
    go false (Some size) (Some coverage) None p e f g = rw (p, e, f, g, head_in)
    go t (Some size) None c p e f g = rw (e, f, head_in)
    go t None b c p e f g = rw (e, head_in)

none-counted : (list_of []).count ≡ 0
unfolding list_of
none-counted = rw (read_u32-short [] 4 (omega arith))

pub cursor_walks : (table : List ℕ) (start : ℕ)
    → followed (next_subtable kerx table) (list_from kerx table start).left (list_from kerx table start) ≡ map (moved start) (walk_of kerx false (list_bytes table start))
cursor_walks = Families.cursor_walks kerx head-moved none-counted

-- a run from right to left reads the same heads, each turned the other way round
reverse-turned : (coverage : ℕ) → should_reverse coverage true ≡ not (should_reverse coverage false)
reverse-turned coverage = go (is_set coverage 0x10000000)
  where
    go : (t : Bool) → cond t (not true) true ≡ not (cond t (not false) false)
    go true = refl
    go false = refl

subtable-turned : (at size coverage : ℕ) → subtable_of true at size coverage ≡ turned_round (subtable_of false at size coverage)
unfolding subtable_of
subtable-turned at size coverage =
    ap (λ (t : Bool). record { passed_over = (subtable_of false at size coverage).passed_over; turned = t; format = coverage % 256; body = at; next = at + size })
    (reverse-turned coverage)

head-turned : (version at : ℕ) (part : List ℕ) → head_in true version at part ≡ map_head turned_round (head_in false version at part)
unfolding head_in subtable_of
head-turned version at part = go (ltb version 4) (read_u32 part 0) (read_u32 part 4) (read_u32 part 8) refl refl refl refl
  where
    go : (t : Bool) (a b c : Option ℕ) → ltb version 4 ≡ t → read_u32 part 0 ≡ a → read_u32 part 4 ≡ b → read_u32 part 8 ≡ c
        → head_in true version at part ≡ map_head turned_round (head_in false version at part)
    go true (Some size) (Some coverage) c p e f g =
        rw (p, e, f, head_in) (ap (λ (s : Subtable). Some s) (subtable-turned at size coverage))
    go false (Some size) (Some coverage) (Some tuples) p e f g =
        rw (p, e, f, g, head_in) (ap (λ (s : Subtable). Some s) (subtable-turned at size coverage))
    go false (Some size) (Some coverage) None p e f g = rw (p, e, f, g, head_in)
    go t (Some size) None c p e f g = rw (e, f, head_in)
    go t None b c p e f g = rw (e, head_in)

pub walk-turned : (bytes : List ℕ) → walk_of kerx true bytes ≡ map turned_round (walk_of kerx false bytes)
unfolding walk_of list_of
walk-turned bytes =
    let list : ListHead = list_of bytes in
    heads_mapped (head_at kerx false bytes list.version) (head_at kerx true bytes list.version) turned_round (λ at. at) (λ s. refl)
    (λ at. head-turned list.version at (drop at bytes)) list.count 8
