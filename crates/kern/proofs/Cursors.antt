-- The walk of a list as its cursor repeated, in the places of the whole table.
use Rattle.std.specs.Prelude.{Option, Some, None}
use Prim.Native.Nat.{ℕ, ◌+◌, ◌≤◌}
use mathlib.Core.Path.{◌≡◌, refl, ap}
use mathlib.Core.Bool.{Bool, true, false}
use mathlib.Core.List.{List, [], map}
use native.Mathlib.Nat.{add_assoc}
use native.Mathlib.Omega.{arith}
use lib.Dec.{eqb}
use Rattle.parse.specs.Reads.{read_u16, read_u32}
use Rattle.parse.proofs.Laws.{read_u16-short}
use Rattle.kerning_lists.specs.Walk.{u16_or_zero, list_bytes}
use Rattle.kerning_lists.specs.Cursors.{followed, moved}
use Rattle.kerning_lists.proofs.Cursors.{map_head}
use Rattle.kerning_lists.specs.Family.{walk_of, list_from, next_subtable}
use Rattle.kerning_lists.proofs.Families as Families
use Rattle.kern.specs.Heads.{old_subtable, new_subtable, head_in, list_of}
use Rattle.kern.specs.Kern.{kern}
use Rattle.kerning_lists.specs.declared.ListHead.{ListHead}

-- the first subtable lies near the list's start
first-near : (bytes : List ℕ) → (list_of bytes).first ≤ 8
unfolding list_of
first-near bytes = go (eqb (u16_or_zero bytes 0) 0) refl
  where
    go : (t : Bool) → eqb (u16_or_zero bytes 0) 0 ≡ t → (list_of bytes).first ≤ 8
    go true p = rw p (omega arith)
    go false p = rw p (omega arith)

pub first_is_near : (bytes : List ℕ) {list : ListHead} → list ≡ list_of bytes → list.first ≤ 8
first_is_near bytes e = let n = first-near bytes in omega (arith, n, ap (λ (l : ListHead). l.first) e)

-- a head as it is told behind more bytes
head-moved : (version before at : ℕ) (part : List ℕ) → head_in version (before + at) part ≡ map_head (moved before) (head_in version at part)
unfolding head_in old_subtable new_subtable
head-moved version before at part = go (eqb version 0) (read_u16 part 2) (read_u32 part 0) (read_u16 part 4) refl refl refl refl
  where
    go : (t : Bool) (a : Option ℕ) (b : Option ℕ) (c : Option ℕ) → eqb version 0 ≡ t → read_u16 part 2 ≡ a → read_u32 part 0 ≡ b → read_u16 part 4 ≡ c
        → head_in version (before + at) part ≡ map_head (moved before) (head_in version at part)
    go true (Some size) b (Some coverage) p e f g = rw (p, e, g, head_in, old_subtable, add_assoc before at size)
    go true (Some size) b None p e f g = rw (p, e, g, head_in)
    go true None b c p e f g = rw (p, e, head_in)
    go false a (Some size) (Some coverage) p e f g = rw (p, f, g, head_in, new_subtable, add_assoc before at size)
    go false a (Some size) None p e f g = rw (p, f, g, head_in)
    go false a None c p e f g = rw (p, f, head_in)

none-counted : (list_of []).count ≡ 0
unfolding list_of
none-counted = rw (read_u16-short [] 0 (omega arith), read_u16-short [] 2 (omega arith))

pub cursor_walks : (table : List ℕ) (start : ℕ)
    → followed (next_subtable kern table) (list_from kern table start).left (list_from kern table start) ≡ map (moved start) (walk_of kern false (list_bytes table start))
cursor_walks = Families.cursor_walks kern head-moved none-counted
