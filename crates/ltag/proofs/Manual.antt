-- The index that is given is the manual's.
use Rattle.std.specs.Prelude.{Option, Some, None, Ok}
use Prim.Native.Nat.{ℕ, zero, suc, ◌+◌, ◌*◌, ◌<◌, ◌≤◌}
use mathlib.Core.Path.{◌≡◌, refl, sym, ◌∙◌, ap}
use mathlib.Core.Bool.{Bool, true, false}
use mathlib.Core.List.{List}
use mathlib.Core.Logic.{◌⊎◌, inl, inr, ⊎_elim}
use native.Mathlib.Omega.{arith}
use lib.ListN.{length, drop}
use borrow.Author.Tests.{le-ltb}
use Rattle.laws.proofs.Numbers.{lt-or-ge, eq-or-ne}
use Rattle.answers.specs.Limits.{table_limit}
use Rattle.answers.specs.Refuse.{refuse, table_test}
use Rattle.parse.specs.Reads.{read_u16, read_u32}
use Rattle.parse.specs.Use.{on_u16, on_u32}
use Rattle.parse.proofs.Laws.{inside_yes, inside_past, inside-cut, read_u16_got, read_u16-short, read_u32_got, u32_value}
use Rattle.ltag.specs.Ltag.{equal, look_at, seek, sought, index_of, language_index}
use Rattle.ltag.specs.Manual.{tag_count, range_place, tag_place, tag_size, tag_of, Lies, First, EmptyAtEnd, AsManual}
use Rattle.std.proofs.lemmas.Slice.Eq.{bytes_eq-Decides}
use Rattle.ltag.proofs.Seeking.{seek_same, seek_other, seek_bad, seek_none}

-- the range of tag i is good to the crate: it lies in the table, and its bytes do and begin before the table's end
pub record Good (bytes : List ℕ) (i : ℕ) : Type 0 where
  pub lies : Lies bytes i
  pub begins : tag_place bytes i < length bytes

-- the first number from i on, of as many as told, at which a look finds the name
pub record Hit (look : ℕ → Option Bool) (i left n : ℕ) : Type 0 where
  pub from : i ≤ n
  pub counted : n < i + left
  pub here : look n ≡ Some true
  pub before : (k : ℕ) → i ≤ k → k < n → look k ≡ Some false

module _ (look : ℕ → Option Bool) where
  seek_hit : (left i n : ℕ) → seek look left i ≡ Some n → Hit look i left n
  seek_hit zero i n e = let z : ◌≡◌ {A = ℕ} 0 1 = cc (seek_none look i) in absurd (omega arith)
  seek_hit (suc left) i n e = go (look i) refl (seek_hit left (suc i) n)
    where
      go : (l : Option Bool) → look i ≡ l → (seek look left (suc i) ≡ Some n → Hit look (suc i) left n) → Hit look i (suc left) n
      go (Some true) f rest =
          let g : i ≡ n = cc (seek_same look left i f) in
          record { from = omega arith; counted = omega arith; here = rw g at f; before = λ k a b. absurd (omega arith) }
      go None f rest = let z : ◌≡◌ {A = ℕ} 0 1 = cc (seek_bad look left i f) in absurd (omega arith)
      go (Some false) f rest =
          let h = rest (sym (seek_other look left i f) ∙ e) in
          record {
            from = omega (arith, h.from);
            counted = omega (arith, h.counted);
            here = h.here;
            before = λ k a b.
                ⊎_elim (λ (p : k ≡ i). rw p f) (λ (p : k ≡ i → ⊥). h.before k (omega (arith, p)) b) (eq-or-ne k i);
          }

  hit_sought : (left i n : ℕ) → Hit look i left n → seek look left i ≡ Some n
  hit_sought zero i n h = absurd (omega (arith, h.from, h.counted))
  hit_sought (suc left) i n h =
      ⊎_elim
      (λ (p : i ≡ n). seek_same look left i (rw p h.here) ∙ ap Some p)
      (λ (p : i ≡ n → ⊥).
      seek_other look left i (h.before i (omega arith) (omega (arith, h.from, p)))
      ∙ hit_sought left (suc i) n
      (record {
        from = omega (arith, h.from, p);
        counted = omega (arith, h.counted);
        here = h.here;
        before = λ k a b. h.before k (omega arith) b;
      }))
      (eq-or-ne i n)

  value_or_nothing : (left i : ℕ) → (seek look left i ≡ None) ⊎ ((n : ℕ) × (seek look left i ≡ Some n))
  value_or_nothing zero i = inl (seek_none look i)
  value_or_nothing (suc left) i = go (look i) refl (value_or_nothing left (suc i))
    where
      go : (l : Option Bool) → look i ≡ l → (seek look left (suc i) ≡ None) ⊎ ((n : ℕ) × (seek look left (suc i) ≡ Some n))
          → (seek look (suc left) i ≡ None) ⊎ ((n : ℕ) × (seek look (suc left) i ≡ Some n))
      go (Some true) f rest = inr (i, seek_same look left i f)
      go None f rest = inl (seek_bad look left i f)
      go (Some false) f rest = rw (seek_other look left i f) rest

either_way : (r : Option ℕ) → on_u16 {A = Option Bool} r (λ offset. None) None ≡ None
either_way (Some n) = refl
either_way None = refl

-- a look at a tag compares its bytes exactly where its range is good
module _ (bytes name : List ℕ) (i : ℕ) where
  good_look : Good bytes i → look_at bytes name i ≡ Some (equal (tag_of bytes i) name)
  unfolding look_at
  good_look g =
      rw (
        read_u16_got bytes (12 + i * 4) (omega (arith, g.lies.range)),
        read_u16_got bytes (12 + i * 4 + 2) (omega (arith, g.lies.range)),
        inside_yes bytes (tag_place bytes i) (tag_size bytes i) g.begins (omega (arith, g.lies.ends)),
        look_at,
      )

  good_or_bad : Good bytes i ⊎ (look_at bytes name i ≡ None)
  unfolding look_at
  good_or_bad =
      ⊎_elim
      (λ (h : length bytes < range_place i + 4).
      inr (rw (read_u16-short bytes (12 + i * 4 + 2) (omega arith), look_at) (either_way (read_u16 bytes (12 + i * 4)))))
      (λ (h : range_place i + 4 ≤ length bytes).
      let offset = read_u16_got bytes (12 + i * 4) (omega arith) in
      let size = read_u16_got bytes (12 + i * 4 + 2) (omega arith) in
      ⊎_elim
      (λ (k : tag_place bytes i < length bytes).
      ⊎_elim
      (λ (l : length bytes < tag_place bytes i + tag_size bytes i).
      inr (rw (offset, size, inside-cut bytes (tag_place bytes i) (tag_size bytes i) (omega arith), look_at)))
      (λ (l : tag_place bytes i + tag_size bytes i ≤ length bytes). inl (record { lies = record { range = h; ends = l }; begins = k }))
      (lt-or-ge (length bytes) (tag_place bytes i + tag_size bytes i)))
      (λ (k : length bytes ≤ tag_place bytes i). inr (rw (offset, size, inside_past bytes (tag_place bytes i) (tag_size bytes i) k, look_at)))
      (lt-or-ge (tag_place bytes i) (length bytes)))
      (lt-or-ge (length bytes) (range_place i + 4))

  -- so what a look says is known of the tag
  good_of : (l : Option Bool) → look_at bytes name i ≡ l → (l ≡ None → ⊥) → Good bytes i
  good_of l e n = ⊎_elim (λ (g : Good bytes i). g) (λ (b : look_at bytes name i ≡ None). absurd (n (sym e ∙ b))) good_or_bad

  same_tag : look_at bytes name i ≡ Some true → Good bytes i × (tag_of bytes i ≡ name)
  same_tag e =
      let g = good_of (Some true) e (λ b. let z : ◌≡◌ {A = ℕ} 0 1 = cc in omega arith) in
      (g, go (equal (tag_of bytes i) name) refl (sym (good_look g) ∙ e))
    where
      go : (t : Bool) → equal (tag_of bytes i) name ≡ t → Some (equal (tag_of bytes i) name) ≡ Some true → tag_of bytes i ≡ name
      go true p f = (bytes_eq-Decides (tag_of bytes i) name).0 p
      go false p f = let z : ◌≡◌ {A = ℕ} 0 1 = cc in absurd (omega arith)

  other_tag : look_at bytes name i ≡ Some false → Good bytes i × (tag_of bytes i ≡ name → ⊥)
  other_tag e =
      let g = good_of (Some false) e (λ b. let z : ◌≡◌ {A = ℕ} 0 1 = cc in omega arith) in
      (g, λ same. let t : equal (tag_of bytes i) name ≡ true = rw same ((bytes_eq-Decides name name).1 refl) in let o = sym (good_look g) ∙ e in let z : ◌≡◌ {A = ℕ} 0 1 = cc in omega arith)

  look_same : Good bytes i → tag_of bytes i ≡ name → look_at bytes name i ≡ Some true
  look_same g e = good_look g ∙ ap Some (ap (λ (t : List ℕ). equal t name) e ∙ (bytes_eq-Decides name name).1 refl)

  look_other : Good bytes i → (tag_of bytes i ≡ name → ⊥) → look_at bytes name i ≡ Some false
  look_other g n = go (equal (tag_of bytes i) name) refl
    where
      go : (t : Bool) → equal (tag_of bytes i) name ≡ t → look_at bytes name i ≡ Some false
      go true p = absurd (n ((bytes_eq-Decides (tag_of bytes i) name).0 p))
      go false p = good_look g ∙ ap Some p

-- the number of tags can be read where any range is good
module _ (bytes name : List ℕ) where
  count_read : (i : ℕ) → Good bytes i → index_of bytes name ≡ seek (look_at bytes name) (tag_count bytes) 0
  unfolding index_of sought
  count_read i g = rw (read_u32_got bytes 8 (omega (arith, g.lies.range)), index_of)

  index-found : (i : ℕ) → index_of bytes name ≡ Some i → First bytes name i
  unfolding index_of sought
  index-found i e = go (read_u32 bytes 8) refl
    where
      go : (r : Option ℕ) → read_u32 bytes 8 ≡ r → First bytes name i
      go None p = let z : ◌≡◌ {A = ℕ} 0 1 = cc in absurd (omega arith)
      go (Some count) p =
          let f : seek (look_at bytes name) count 0 ≡ Some i = cc in
          let h = seek_hit (look_at bytes name) count 0 i f in
          let here = same_tag bytes name i h.here in
          record {
            counted = omega (arith, h.counted, (u32_value bytes 8 p).1);
            lies = here.0.lies;
            same = here.1;
            before = λ k l m. (other_tag bytes name k (h.before k (omega arith) l)).1;
          }

  index-there : (i : ℕ) → First bytes name i → ((k : ℕ) → k ≤ i → Lies bytes k) → ((k : ℕ) → k ≤ i → EmptyAtEnd bytes k → ⊥)
      → index_of bytes name ≡ Some i
  index-there i f lie full =
      count_read i (good i (omega arith))
      ∙ hit_sought (look_at bytes name) (tag_count bytes) 0 i
      (record {
        from = omega arith;
        counted = omega (arith, f.counted);
        here = look_same bytes name i (good i (omega arith)) f.same;
        before = λ k a b. look_other bytes name k (good k (omega arith)) (f.before k b (lie k (omega arith)));
      })
    where
      good : (k : ℕ) → k ≤ i → Good bytes k
      good k h =
          let l = lie k h in
          record {
            lies = l;
            begins =
                ⊎_elim
                (λ (b : tag_place bytes k < length bytes). b)
                (λ (b : length bytes ≤ tag_place bytes k). absurd (full k h (record { at_end = omega (arith, l.ends); empty = omega (arith, l.ends) })))
                (lt-or-ge (tag_place bytes k) (length bytes));
          }

  -- there is no third answer
  index_or_nothing : (index_of bytes name ≡ None) ⊎ ((i : ℕ) × (index_of bytes name ≡ Some i))
  unfolding index_of sought
  index_or_nothing = go (read_u32 bytes 8)
    where
      go : (r : Option ℕ) → (on_u32 r (λ count. sought bytes name count) None ≡ None)
          ⊎ ((i : ℕ) × (on_u32 r (λ count. sought bytes name count) None ≡ Some i))
      go None = inl refl
      go (Some count) = value_or_nothing (look_at bytes name) count 0

  index-absent : ((i : ℕ) → First bytes name i → ⊥) → index_of bytes name ≡ None
  index-absent none =
      ⊎_elim
      (λ (e : index_of bytes name ≡ None). e)
      (λ (v : (i : ℕ) × (index_of bytes name ≡ Some i)). absurd (none v.0 (index-found v.0 v.1)))
      index_or_nothing

-- the answer for a table that is not too long
pub index_as_manual : (table : List ℕ) (start : ℕ) (name : List ℕ) → length table ≤ table_limit
    → AsManual (drop start table) name (language_index table start name)
unfolding language_index refuse table_test
index_as_manual table start name h =
    rw (le-ltb table_limit (length table) h)
    (record {
      found = λ i e. index-found (drop start table) name i (cc);
      there = λ i f lie full. ap Ok (index-there (drop start table) name i f lie full);
      absent = λ none. ap Ok (index-absent (drop start table) name none);
    })
