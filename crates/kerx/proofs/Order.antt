-- The order of a list's subtables does not matter to kerning, where each reads and tries nothing but its own bytes.
use Rattle.std.specs.Prelude.{Option, Some, None}
use Prim.Native.Nat.{ℕ, suc, ◌+◌, ◌<◌}
use mathlib.Core.Path.{◌≡◌, refl, sym, ◌∙◌, ap, ap₂, subst}
use mathlib.Core.Bool.{Bool, true, false, cond}
use mathlib.Core.List.{List, [], ◌∷◌, ◌++◌, append_assoc}
use native.Mathlib.Omega.{arith}
use lib.IntN.{ℤ, pos, ◌+ℤ◌, +ℤ_assoc, +ℤ_comm}
use lib.ListN.{length, get_or, drop, length-append}
use lib.Seq.{take_all, drop-drop, drop-append_seam, ext_get_or}
use Rattle.laws.specs.Backward.{backward}
use Rattle.parse.specs.Reads.{u32_at}
use Rattle.parse.proofs.Behind.{Begins, begins-joined}
use Rattle.answers.specs.Limits.{head_limit}
use Rattle.line.specs.Line.{Line}
use Rattle.kerning.specs.Additions.{Addition, add_all}
use Rattle.kerning.specs.declared.choices.Choices.{Choices}
use Rattle.kerning.proofs.Adding.{added_at, add_all-append, added, length-add_all}
use Rattle.kerx_machine.specs.Machine.{is_tupled, tuples_of}
use Rattle.kerning_lists.specs.Walk.{on_head, list_bytes, heads_from, visited}
use Rattle.kerning_lists.specs.Run.{zeros, turned_back, contribution, contributions, used_part, ran_over}
use Rattle.kerning_lists.specs.Family.{head_at, walk_of, adds, ran, run_call}
use Rattle.kerning_lists.specs.declared.Subtable.{Subtable}
use Rattle.kerx.specs.Heads.{subtable_of, head_in, list_of}
use Rattle.kerx.specs.Kerx.{worked, kerx}
use Rattle.kerx.specs.Inside.{worked_on, WorkInside, ReadsInside}
use Rattle.kerx.specs.Order.{Reordered, same, exchanged, Each, none, more, joined, ListHas, NotRefused, BelowLimit, AsStated, alone, all_add}
use Rattle.kerx.proofs.Behind.{HeadRead, head_read, head_stays, work_stays}

-- Additions in another order.

-- those of two lists leave the same either way
added-either_way : (xs ys : List Addition) (along : List ℤ) → add_all ys (add_all xs along) ≡ add_all xs (add_all ys along)
added-either_way xs ys along =
    ext_get_or (pos 0) (add_all ys (add_all xs along)) (add_all xs (add_all ys along))
    (length-add_all ys (add_all xs along) ∙ length-add_all xs along ∙ sym (length-add_all xs (add_all ys along) ∙ length-add_all ys along))
    (λ p h.
    let k : p < length along = omega (arith, length-add_all ys (add_all xs along), length-add_all xs along) in
    added ys (add_all xs along) p (omega (arith, length-add_all xs along))
    ∙ ap (λ (z : ℤ). z +ℤ added_at ys p) (added xs along p k)
    ∙ +ℤ_assoc (get_or along p (pos 0)) (added_at xs p) (added_at ys p)
    ∙ ap (λ (z : ℤ). get_or along p (pos 0) +ℤ z) (+ℤ_comm (added_at xs p) (added_at ys p))
    ∙ sym (+ℤ_assoc (get_or along p (pos 0)) (added_at ys p) (added_at xs p))
    ∙ ap (λ (z : ℤ). z +ℤ added_at xs p) (sym (added ys along p k))
    ∙ sym (added xs (add_all ys along) p (omega (arith, length-add_all ys along))))

-- what each of some subtables adds, one after the other
module _ (adds : List ℕ → List Addition) where
  all-joined : (xs ys : List (List ℕ)) → all_add adds (xs ++ ys) ≡ all_add adds xs ++ all_add adds ys
  unfolding all_add
  all-joined [] ys = refl
  all-joined (x ∷ xs) ys = ap (λ (l : List Addition). adds x ++ l) (all-joined xs ys) ∙ sym (append_assoc (adds x) (all_add adds xs) (all_add adds ys))

  pair_first : (a b : List ℕ) (behind : List (List ℕ)) (along : List ℤ) → add_all (all_add adds (a ∷ b ∷ behind)) along ≡ add_all (all_add adds behind) (add_all (adds b) (add_all (adds a) along))
  unfolding all_add
  pair_first a b behind along =
      add_all-append (adds a) (adds b ++ all_add adds behind) along ∙ add_all-append (adds b) (all_add adds behind) (add_all (adds a) along)

  exchange : (before : List (List ℕ)) (a b : List ℕ) (behind : List (List ℕ)) (along : List ℤ)
      → add_all (all_add adds (before ++ a ∷ b ∷ behind)) along ≡ add_all (all_add adds (before ++ b ∷ a ∷ behind)) along
  exchange before a b behind along =
      ap (λ (l : List Addition). add_all l along) (all-joined before (a ∷ b ∷ behind))
      ∙ add_all-append (all_add adds before) (all_add adds (a ∷ b ∷ behind)) along
      ∙ pair_first a b behind (add_all (all_add adds before) along)
      ∙ ap (add_all (all_add adds behind)) (added-either_way (adds a) (adds b) (add_all (all_add adds before) along))
      ∙ sym (pair_first b a behind (add_all (all_add adds before) along))
      ∙ sym (add_all-append (all_add adds before) (all_add adds (b ∷ a ∷ behind)) along)
      ∙ ap (λ (l : List Addition). add_all l along) (sym (all-joined before (b ∷ a ∷ behind)))

  reordered : {one other : List (List ℕ)} → Reordered one other → (along : List ℤ) → add_all (all_add adds one) along ≡ add_all (all_add adds other) along
  reordered same along = refl
  reordered (exchanged before a b behind r) along = reordered r along ∙ exchange before a b behind along

-- All that holds of each of some subtables holds of each in another order, of which there are as many.
each-exchanged : {P : List ℕ → Type 0} (before : List (List ℕ)) (a b : List ℕ) (behind : List (List ℕ)) → Each P (before ++ a ∷ b ∷ behind)
    → Each P (before ++ b ∷ a ∷ behind)
each-exchanged [] a b behind (more p (more q r)) = more q (more p r)
each-exchanged (x ∷ before) a b behind (more p r) = more p (each-exchanged before a b behind r)

each_reordered : {P : List ℕ → Type 0} {one other : List (List ℕ)} → Reordered one other → Each P one → Each P other
each_reordered same e = e
each_reordered (exchanged before a b behind r) e = each-exchanged before a b behind (each_reordered r e)

as_many : {one other : List (List ℕ)} → Reordered one other → length one ≡ length other
as_many same = refl
as_many (exchanged before a b behind r) =
    as_many r ∙ omega (arith, length-append before (a ∷ b ∷ behind), length-append before (b ∷ a ∷ behind))

-- A subtable's contribution is its own, wherever it stands.
module _ (rtl : Bool) (version : ℕ) (glyphs : List ℕ) (used : ℕ) (choices : Choices) where
  alone_is : (part : List ℕ) {s : Subtable} → head_in rtl version 0 part ≡ Some s → alone rtl version glyphs used choices part ≡ contribution (adds kerx part version used choices) glyphs used s
  unfolding alone
  alone_is part e = rw e

  module _ {own whole : List ℕ} (b : Begins own whole) (not : tuples_of own version ≡ None → ⊥) (format : ℕ) where
    visit_stays : (over turned : Bool)
        → (over ≡ false → is_tupled own version choices.reading ≡ false → WorkInside own version format (worked_on turned glyphs used) used choices)
        → cond over [] (cond turned (turned_back used (worked whole version format (backward used glyphs) used choices).additions) (worked whole version format glyphs used choices).additions)
        ≡ cond over [] (cond turned (turned_back used (worked own version format (backward used glyphs) used choices).additions) (worked own version format glyphs used choices).additions)
    visit_stays true turned work = refl
    visit_stays false true work = ap (turned_back used) (work_stays version (backward used glyphs) used choices b format not (work refl))
    visit_stays false false work = work_stays version glyphs used choices b format not (work refl)

  contributes_alone : (bytes : List ℕ) (at : ℕ) {part : List ℕ} → Begins part (drop at bytes) → (inside : ReadsInside rtl version glyphs used choices part)
      → (h : HeadRead rtl version part inside.subtable)
      → contribution (adds kerx bytes version used choices) glyphs used (subtable_of rtl at (u32_at part 0) h.coverage) ≡ alone rtl version glyphs used choices part
  unfolding contribution subtable_of
  contributes_alone bytes at {part} b inside h =
      let s : Subtable = subtable_of rtl 0 (u32_at part 0) h.coverage in
      let work : s.passed_over ≡ false → is_tupled part version choices.reading ≡ false
      → WorkInside part version s.format (worked_on s.turned glyphs used) used choices =
      subst
      (λ (x : Subtable). x.passed_over ≡ false → is_tupled part version choices.reading ≡ false
      → WorkInside part version x.format (worked_on x.turned glyphs used) used choices)
      h.is inside.work in
      visit_stays b h.tuples s.format s.passed_over s.turned work ∙ sym (alone_is part (inside.head ∙ ap Some h.is))

  -- so a walk's contributions are those of its subtables, each alone
  module _ (bytes behind : List ℕ) where
    abbrev walk_at : (count at : ℕ) → List Subtable
    walk_at = heads_from (head_at kerx rtl bytes version)

    record Walked (parts : List (List ℕ)) (at : ℕ) : Type 0 where
      contribute : contributions (adds kerx bytes version used choices) glyphs used (walk_at (length parts) at) ≡ all_add (alone rtl version glyphs used choices) parts
      count : length (walk_at (length parts) at) ≡ length parts

    walked_none : (at : ℕ) → Walked [] at
    unfolding heads_from contributions all_add
    walked_none at = record { contribute = refl; count = refl }

    module _ (part : List ℕ) (parts : List (List ℕ)) (at : ℕ) (lie : drop at bytes ≡ joined (part ∷ parts) ++ behind) (stated : AsStated part)
        (inside : ReadsInside rtl version glyphs used choices part) where
      here : drop at bytes ≡ part ++ (joined parts ++ behind)
      unfolding joined
      here = lie ∙ append_assoc part (joined parts) behind

      begins : Begins part (drop at bytes)
      begins = subst (Begins part) (sym here) (begins-joined part (joined parts ++ behind))

      read : HeadRead rtl version part inside.subtable
      read = head_read rtl version part inside.head

      there : head_at kerx rtl bytes version at ≡ Some (subtable_of rtl at (u32_at part 0) read.coverage)
      there =
          let e = read.elsewhere at in
          head_stays begins rtl version at (λ p. let z : ◌≡◌ {A = ℕ} 0 1 = cc in omega arith) ∙ e

      lie-on : drop (at + length part) bytes ≡ joined parts ++ behind
      lie-on = sym (drop-drop (length part) at bytes) ∙ ap (drop (length part)) here ∙ drop-append_seam part (joined parts ++ behind)

      walk-on : walk_at (suc (length parts)) at ≡ subtable_of rtl at (u32_at part 0) read.coverage ∷ walk_at (length parts) (at + length part)
      unfolding heads_from subtable_of
      walk-on =
          ap (λ (x : Option Subtable). on_head x (λ s. s ∷ walk_at (length parts) s.next) []) there
          ∙ ap (λ (n : ℕ). subtable_of rtl at (u32_at part 0) read.coverage ∷ walk_at (length parts) (at + n)) stated

      walked_more : Walked parts (at + length part) → Walked (part ∷ parts) at
      unfolding contributions all_add
      walked_more w =
          record {
            contribute =
                ap (contributions (adds kerx bytes version used choices) glyphs used) walk-on
                ∙ ap₂ (λ (x y : List Addition). x ++ y) (contributes_alone bytes at begins inside read) w.contribute;
            count = ap length walk-on ∙ ap suc w.count;
          }

    walked : (parts : List (List ℕ)) (at : ℕ) → drop at bytes ≡ joined parts ++ behind → Each AsStated parts → Each (ReadsInside rtl version glyphs used choices) parts → Walked parts at
    walked [] at lie none none = walked_none at
    walked (part ∷ parts) at lie (more stated all-stated) (more inside all-inside) =
        walked_more part parts at lie stated inside
        (walked parts (at + length part) (lie-on part parts at lie stated inside) all-stated all-inside)

-- A whole run.
module _ (rtl : Bool) (l : Line) (along : List ℤ) (choices : Choices) where
  module _ (table : List ℕ) (start version : ℕ) (parts : List (List ℕ)) (has : ListHas table start version parts) (passes : NotRefused table start l along)
      (few : BelowLimit parts) (stated : Each AsStated parts) (inside : Each (ReadsInside rtl version l.glyphs l.used choices) parts) where
    abbrev bytes : List ℕ
    bytes = list_bytes table start

    walk : Walked rtl version l.glyphs l.used choices bytes has.behind parts 8
    walk = walked rtl version l.glyphs l.used choices bytes has.behind parts 8 has.lie stated inside

    walk_is : walk_of kerx rtl bytes ≡ heads_from (head_at kerx rtl bytes version) (length parts) 8
    unfolding walk_of list_of
    walk_is = ap₂ (λ (v n : ℕ). heads_from (head_at kerx rtl bytes v) n 8) has.versioned has.counted

    visits_all : visited (walk_of kerx rtl bytes) ≡ heads_from (head_at kerx rtl bytes version) (length parts) 8
    unfolding visited
    visits_all = ap visited walk_is ∙ take_all head_limit (heads_from (head_at kerx rtl bytes version) (length parts) 8) (omega (arith, walk.count, few))

    -- what it leaves of the used adjustments is the sum, at each place, of what each subtable contributes alone
    pub run-sums : (run_call kerx table start rtl l along choices).along
        ≡ add_all (all_add (alone rtl version l.glyphs l.used choices) parts) (zeros l.used) ++ drop l.used along
    unfolding run_call ran ran_over used_part
    run-sums =
        rw passes
        (ap (λ (x : List ℤ). x ++ drop l.used along)
        (ap₂ (λ (v : ℕ) (w : List Subtable). add_all (contributions (adds kerx bytes v l.used choices) l.glyphs l.used w) (zeros l.used)) has.versioned visits_all
        ∙ ap (λ (x : List Addition). add_all x (zeros l.used)) walk.contribute))

  -- two tables with the same subtables, in any two orders
  pub order_free : (one other : List ℕ) (start start' version : ℕ) (parts parts' : List (List ℕ)) → ListHas one start version parts → ListHas other start' version parts'
      → Reordered parts parts' → NotRefused one start l along → NotRefused other start' l along → BelowLimit parts → Each AsStated parts
      → Each (ReadsInside rtl version l.glyphs l.used choices) parts
      → (run_call kerx one start rtl l along choices).along ≡ (run_call kerx other start' rtl l along choices).along
  order_free one other start start' version parts parts' has has' r passes passes' few stated inside =
      run-sums one start version parts has passes few stated inside
      ∙ ap (λ (x : List ℤ). x ++ drop l.used along) (reordered (alone rtl version l.glyphs l.used choices) r (zeros l.used))
      ∙ sym (run-sums other start' version parts' has' passes' (omega (arith, as_many r)) (each_reordered r stated) (each_reordered r inside))
