-- The tests of REEL, one after the other, as the code makes them.
use Prim.Native.Nat.{◌<◌, ◌≤◌}
use mathlib.Core.Path.{◌≡◌, sym, ◌∙◌}
use mathlib.Core.Bool.{Bool, true, false, not}
use mathlib.Core.List.{List}
use lib.IntN.{ℤ}
use lib.ListN.{length}
use borrow.Author.Tests.{le-leb, lt-leb, eq-eqb, ne_eqb, not-true, not-false}
use Rattle.reel.specs.Parts.{adds_up}
use Rattle.report.specs.Report.{Lines, is_lent, count_of, line_limit}

module _ (r : Lines) (sums largest smallest : List ℤ) where
  pub many_lines : 255 < count_of r → false ≡ is_lent r sums largest smallest
  unfolding is_lent line_limit
  many_lines h = rw (lt-leb _ _ h)

  module _ (few : count_of r ≤ 255) where
    pub other-characters : (length r.characters ≡ count_of r → ⊥) → false ≡ is_lent r sums largest smallest
    unfolding is_lent line_limit
    other-characters n = rw (le-leb _ _ few, ne_eqb _ _ n)

    module _ (cs : length r.characters ≡ count_of r) where
      pub other-used : (length r.used ≡ count_of r → ⊥) → false ≡ is_lent r sums largest smallest
      unfolding is_lent line_limit
      other-used n = rw (le-leb _ _ few, eq-eqb _ _ cs, ne_eqb _ _ n)

      module _ (us : length r.used ≡ count_of r) where
        pub other-sums : (length sums ≡ count_of r → ⊥) → false ≡ is_lent r sums largest smallest
        unfolding is_lent line_limit
        other-sums n = rw (le-leb _ _ few, eq-eqb _ _ cs, eq-eqb _ _ us, ne_eqb _ _ n)

        module _ (ss : length sums ≡ count_of r) where
          pub other-largest : (length largest ≡ count_of r → ⊥) → false ≡ is_lent r sums largest smallest
          unfolding is_lent line_limit
          other-largest n = rw (le-leb _ _ few, eq-eqb _ _ cs, eq-eqb _ _ us, eq-eqb _ _ ss, ne_eqb _ _ n)

          module _ (ls : length largest ≡ count_of r) where
            pub other-smallest : (length smallest ≡ count_of r → ⊥) → false ≡ is_lent r sums largest smallest
            unfolding is_lent line_limit
            other-smallest n = rw (le-leb _ _ few, eq-eqb _ _ cs, eq-eqb _ _ us, eq-eqb _ _ ss, eq-eqb _ _ ls, ne_eqb _ _ n)

            module _ (ms : length smallest ≡ count_of r) {g : Bool} (eg : g ≡ adds_up r.rooms (length r.glyphs)) where
              pub other-glyphs : not g ≡ true → false ≡ is_lent r sums largest smallest
              unfolding is_lent line_limit
              other-glyphs n =
                  rw (le-leb _ _ few, eq-eqb _ _ cs, eq-eqb _ _ us, eq-eqb _ _ ss, eq-eqb _ _ ls, eq-eqb _ _ ms, sym eg ∙ not-true _ n)

              module _ (yg : not g ≡ false) {t : Bool} (et : t ≡ adds_up r.rooms (length r.tags)) where
                pub other-tags : not t ≡ true → false ≡ is_lent r sums largest smallest
                unfolding is_lent line_limit
                other-tags n =
                    rw (
                      le-leb _ _ few,
                      eq-eqb _ _ cs,
                      eq-eqb _ _ us,
                      eq-eqb _ _ ss,
                      eq-eqb _ _ ls,
                      eq-eqb _ _ ms,
                      sym eg ∙ not-false _ yg,
                      sym et ∙ not-true _ n,
                    )

                module _ (yt : not t ≡ false) {a : Bool} (ea : a ≡ adds_up r.rooms (length r.along)) where
                  pub other-along : not a ≡ true → false ≡ is_lent r sums largest smallest
                  unfolding is_lent line_limit
                  other-along n =
                      rw (
                        le-leb _ _ few,
                        eq-eqb _ _ cs,
                        eq-eqb _ _ us,
                        eq-eqb _ _ ss,
                        eq-eqb _ _ ls,
                        eq-eqb _ _ ms,
                        sym eg ∙ not-false _ yg,
                        sym et ∙ not-false _ yt,
                        sym ea ∙ not-true _ n,
                      )

                  pub homes_tell : not a ≡ false → {h : Bool} → h ≡ adds_up r.characters (length r.homes) → h ≡ is_lent r sums largest smallest
                  unfolding is_lent line_limit
                  homes_tell ya eh =
                      rw (
                        le-leb _ _ few,
                        eq-eqb _ _ cs,
                        eq-eqb _ _ us,
                        eq-eqb _ _ ss,
                        eq-eqb _ _ ls,
                        eq-eqb _ _ ms,
                        sym eg ∙ not-false _ yg,
                        sym et ∙ not-false _ yt,
                        sym ea ∙ not-false _ ya,
                      ) eh
