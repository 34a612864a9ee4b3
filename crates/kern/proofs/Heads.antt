-- What the reads of heads and of the list give.
use Rattle.std.specs.Prelude.{Option, Some, None}
use Prim.Native.Nat.{ℕ}
use mathlib.Core.Path.{◌≡◌, refl, sym, ◌∙◌}
use mathlib.Core.Bool.{Bool, true, false}
use mathlib.Core.List.{List}
use lib.Dec.{eqb}
use Rattle.parse.specs.Reads.{read_u16, read_u32}
use Rattle.kerning_lists.specs.declared.Subtable.{Subtable}
use Rattle.kern.specs.Heads.{old_subtable, new_subtable, head_in}

-- no head of kern's turns its subtable round
pub head_plain : (version at : ℕ) (part : List ℕ) {s : Subtable} → head_in version at part ≡ Some s → s.turned ≡ false
unfolding head_in old_subtable new_subtable
head_plain version at part {s} e = go (eqb version 0) refl
  where
    go : (t : Bool) → eqb version 0 ≡ t → s.turned ≡ false
    go true p = old (read_u16 part 2) (read_u16 part 4) refl refl
      where
        old : (a b : Option ℕ) → read_u16 part 2 ≡ a → read_u16 part 4 ≡ b → s.turned ≡ false
        old (Some size) (Some coverage) f g =
            let h : head_in version at part ≡ Some (old_subtable at size coverage) = rw (p, head_in, f, g) in
            let same : Some (old_subtable at size coverage) ≡ Some s = sym h ∙ e in cc
        old None b f g = let h : head_in version at part ≡ None = rw (p, head_in, f) in cc
        old (Some size) None f g = let h : head_in version at part ≡ None = rw (p, head_in, f, g) in cc
    go false p = new (read_u32 part 0) (read_u16 part 4) refl refl
      where
        new : (a : Option ℕ) (b : Option ℕ) → read_u32 part 0 ≡ a → read_u16 part 4 ≡ b → s.turned ≡ false
        new (Some size) (Some coverage) f g =
            let h : head_in version at part ≡ Some (new_subtable at size coverage) = rw (p, head_in, f, g) in
            let same : Some (new_subtable at size coverage) ≡ Some s = sym h ∙ e in cc
        new None b f g = let h : head_in version at part ≡ None = rw (p, head_in, f) in cc
        new (Some size) None f g = let h : head_in version at part ≡ None = rw (p, head_in, f, g) in cc
