-- Where the crate and the manual part: what the crate gives at the smallest tables, and which tag is the name all the same.
use Rattle.std.specs.Prelude.{None}
use Prim.Native.Nat.{ℕ}
use mathlib.Core.Path.{◌≡◌, refl}
use mathlib.Core.List.{List, [], ◌∷◌}
use Rattle.parse.specs.Reads.{inside, read_u16, read_u32}
use Rattle.ltag.specs.Ltag.{look_at, seek, sought, index_of}
use Rattle.ltag.specs.Manual.{tag_of}

-- two tags, the first of two bytes from 19 on, which run past the end, the second a byte at 3: the bad range hides it
abbrev pub hidden : List ℕ
hidden = 0 ∷ 0 ∷ 0 ∷ 1 ∷ 0 ∷ 0 ∷ 0 ∷ 0 ∷ 0 ∷ 0 ∷ 0 ∷ 2 ∷ 0 ∷ 19 ∷ 0 ∷ 2 ∷ 0 ∷ 3 ∷ 0 ∷ 1 ∷ []

pub not_reached : (index_of hidden (1 ∷ []) ≡ None) × (tag_of hidden 1 ≡ 1 ∷ [])
unfolding index_of sought seek look_at read_u16 read_u32 inside
not_reached = (refl, refl)

-- one tag, empty, at the very end
abbrev pub empty_at_end : List ℕ
empty_at_end = 0 ∷ 0 ∷ 0 ∷ 1 ∷ 0 ∷ 0 ∷ 0 ∷ 0 ∷ 0 ∷ 0 ∷ 0 ∷ 1 ∷ 0 ∷ 16 ∷ 0 ∷ 0 ∷ []

pub not_found : (index_of empty_at_end [] ≡ None) × (tag_of empty_at_end 0 ≡ [])
unfolding index_of sought seek look_at read_u16 read_u32 inside
not_found = (refl, refl)
