-- The search among the tags: what is left to look at gives what the whole search gives.
use Rattle.std.specs.Prelude.{Option, Some, None}
use Prim.Native.Nat.{ℕ, suc, ◌+◌, ◌-◌, ◌<◌, ◌≤◌}
use mathlib.Core.Path.{◌≡◌, refl}
use mathlib.Core.List.{List}
use mathlib.Core.Bool.{Bool, true, false}
use native.Mathlib.Numerals.{add-one}
use native.Mathlib.Omega.{arith}
use Rattle.ltag.specs.Ltag.{look_at, seek, sought}

-- one tag, by whether it is the name
module _ (look : ℕ → Option Bool) (left i : ℕ) where
  pub seek_same : look i ≡ Some true → seek look (suc left) i ≡ Some i
  unfolding seek
  seek_same e = rw (e, seek)

  pub seek_other : look i ≡ Some false → seek look (suc left) i ≡ seek look left (suc i)
  unfolding seek
  seek_other e = rw (e, seek)

  pub seek_bad : look i ≡ None → seek look (suc left) i ≡ None
  unfolding seek
  seek_bad e = rw (e, seek)

pub seek_none : (look : ℕ → Option Bool) (i : ℕ) → seek look 0 i ≡ None
unfolding seek
seek_none look i = refl

-- the search from number i on, among so many tags
module _ (bytes name : List ℕ) (count i : ℕ) where
  abbrev pub from_here : Option ℕ
  from_here = seek (look_at bytes name) (count - i) i

  left_more : i < count → count - i ≡ suc (count - (i + 1))
  left_more h = omega arith

  pub sought_same : i < count → look_at bytes name i ≡ Some true → from_here ≡ Some i
  sought_same h e = rw (left_more h) (seek_same (look_at bytes name) (count - (i + 1)) i e)

  pub sought_bad : i < count → look_at bytes name i ≡ None → from_here ≡ None
  sought_bad h e = rw (left_more h) (seek_bad (look_at bytes name) (count - (i + 1)) i e)

  pub sought_none : count ≤ i → from_here ≡ None
  sought_none h = let none : count - i ≡ 0 = omega arith in rw none (seek_none (look_at bytes name) i)

  pub sought_other : i < count → look_at bytes name i ≡ Some false → seek (look_at bytes name) (count - (i + 1)) (i + 1) ≡ from_here
  sought_other h e = rw (left_more h, seek_other (look_at bytes name) (count - (i + 1)) i e, add-one i)

pub sought_all : (bytes name : List ℕ) (count : ℕ) → seek (look_at bytes name) (count - 0) 0 ≡ sought bytes name count
unfolding sought
sought_all bytes name count = let all : count - 0 ≡ count = omega arith in rw all
