-- A reel is its lines' runs by themselves, in any order.
use Prim.Native.Nat.{ℕ, zero, suc, ◌<◌, ◌≤◌}
use mathlib.Core.Path.{◌≡◌, refl, ◌∙◌, sym, ap, subst}
use mathlib.Core.Bool.{Bool, cond}
use mathlib.Core.List.{List}
use mathlib.Core.Logic.{⊎_elim}
use native.Mathlib.Omega.{arith}
use lib.Dec.{ltb}
use lib.ListN.{length, get_or}
use borrow.Author.Tests.{lt-ltb, le-ltb}
use Rattle.laws.proofs.Numbers.{eq-or-ne, lt-or-ge}
use Rattle.line.specs.Line.{Line, OnceEach}
use Rattle.morx.specs.Run.{Ran}
use Rattle.reel.specs.Reel.{Reel, Lent, lines_of, Part, parts_of, joined, ran_part, reel_leaves}
use Rattle.reel.specs.Runs.{Fills, with_line, run_line, run_lines}
use Rattle.reel.specs.Work.{Keeps}
use Rattle.reel.proofs.Exact.{of_lent}
use Rattle.reel.proofs.Lines.{own-fills, with_lent, line_same, line_other, joined-own, joined_alike, ran-fills}

module _ (run : Line → Ran) (keeps : Keeps run) where
  -- a call on line k leaves a reel, that line as its run does, and the others as they were
  module _ (r : Reel) (v : Lent r) (k : ℕ) (h : k < lines_of r) where
    fills : Fills r k (ran_part run (parts_of r k)).line
    fills = ran-fills run keeps r k (parts_of r k) (own-fills r v k h)

    pub run_lent : Lent (run_line run k r)
    unfolding run_line
    run_lent = with_lent r v k h (ran_part run (parts_of r k)) fills

    pub run-there : parts_of (run_line run k r) k ≡ ran_part run (parts_of r k)
    unfolding run_line
    run-there = line_same r v k h (ran_part run (parts_of r k)) fills

    pub run_others : (j : ℕ) → (j ≡ k → ⊥) → parts_of (run_line run k r) j ≡ parts_of r j
    unfolding run_line
    run_others j ne = line_other r v k h (ran_part run (parts_of r k)) fills j ne

    pub run-rooms : (run_line run k r).rooms ≡ r.rooms
    unfolding run_line with_line
    run-rooms = refl

    pub run-characters : (run_line run k r).characters ≡ r.characters
    unfolding run_line with_line
    run-characters = refl

  module _ (r : Reel) (v : Lent r) where
    -- line k where it has been run, or not yet
    abbrev so_far : (Bool) → ℕ → Part
    so_far done k = cond done (ran_part run (parts_of r k)) (parts_of r k)

    -- calls in an order in which `place k` says which call is on line k
    module _ (order place : ℕ → ℕ)
        (below : (j : ℕ) → j < lines_of r → order j < lines_of r)
        (back : (j : ℕ) → j < lines_of r → place (order j) ≡ j)
        (there : (k : ℕ) → k < lines_of r → order (place k) ≡ k) where
      -- after n of them
      pub record After (n : ℕ) (s : Reel) : Type 0 where
        pub lent : Lent s
        pub rooms : s.rooms ≡ r.rooms
        pub characters : s.characters ≡ r.characters
        pub lines : (k : ℕ) → k < lines_of r → parts_of s k ≡ so_far (ltb (place k) n) k

      after_none : After 0 r
      after_none = record { lent = v; rooms = refl; characters = refl; lines = λ k h. rw (le-ltb (place k) 0 (omega arith)) }

      after_more : (n : ℕ) (s : Reel) → n < lines_of r → After n s → After (suc n) (run_line run (order n) s)
      after_more n s h a =
          record {
            lent = run_lent s a.lent (order n) inside;
            rooms = run-rooms s a.lent (order n) inside ∙ a.rooms;
            characters = run-characters s a.lent (order n) inside ∙ a.characters;
            lines = λ k i. ⊎_elim (here k i) (elsewhere k i) (eq-or-ne k (order n));
          }
        where
          inside : order n < lines_of s
          inside = subst (λ (rooms : List ℕ). order n < length rooms) (sym a.rooms) (below n h)

          not_yet : (k : ℕ) → k < lines_of r → place k ≡ n → parts_of s k ≡ parts_of r k
          not_yet k i at = a.lines k i ∙ ap (λ (b : Bool). so_far b k) (le-ltb (place k) n (omega (arith, at)))

          here : (k : ℕ) → k < lines_of r → k ≡ order n → parts_of (run_line run (order n) s) k ≡ so_far (ltb (place k) (suc n)) k
          here k i e =
              let at : place k ≡ n = ap place e ∙ back n h in
              ap (parts_of (run_line run (order n) s)) e
              ∙ run-there s a.lent (order n) inside
              ∙ ap (λ (j : ℕ). ran_part run (parts_of s j)) (sym e)
              ∙ ap (ran_part run) (not_yet k i at)
              ∙ rw (lt-ltb (place k) (suc n) (omega (arith, at)))

          elsewhere : (k : ℕ) → k < lines_of r → (k ≡ order n → ⊥) → parts_of (run_line run (order n) s) k ≡ so_far (ltb (place k) (suc n)) k
          elsewhere k i ne =
              let off : place k ≡ n → ⊥ = λ (e : place k ≡ n). ne (sym (there k i) ∙ ap order e) in
              run_others s a.lent (order n) inside k ne ∙ a.lines k i ∙ ap (λ (b : Bool). so_far b k) (as_before off)
            where
              as_before : (place k ≡ n → ⊥) → ltb (place k) n ≡ ltb (place k) (suc n)
              as_before off =
                  ⊎_elim
                  (λ (l : place k < n). lt-ltb (place k) n l ∙ sym (lt-ltb (place k) (suc n) (omega arith)))
                  (λ (l : n ≤ place k). le-ltb (place k) n l ∙ sym (le-ltb (place k) (suc n) (omega (arith, off))))
                  (lt-or-ge (place k) n)

      pub after_runs : (n : ℕ) → n ≤ lines_of r → After n (run_lines run order n r)
      unfolding run_lines
      after_runs zero h = after_none
      after_runs (suc n) h = after_more n (run_lines run order n r) (omega arith) (after_runs n (omega arith))

      -- after all of them every line has been run
      pub all-run : ((k : ℕ) → k < lines_of r → place k < lines_of r) → run_lines run order (lines_of r) r ≡ reel_leaves run r
      unfolding reel_leaves
      all-run inside =
          sym (joined-own s a.lent)
          ∙ ap (λ (rooms : List ℕ). joined rooms s.characters (parts_of s)) a.rooms
          ∙ ap (λ (characters : List ℕ). joined r.rooms characters (parts_of s)) a.characters
          ∙ joined_alike r.rooms r.characters (parts_of s) (λ k. ran_part run (parts_of r k))
          (λ k h. a.lines k h ∙ rw (lt-ltb (place k) (lines_of r) (inside k h)))
          ∙ rw (of_lent r v)
        where
          s : Reel
          s = run_lines run order (lines_of r) r

          a : After (lines_of r) (run_lines run order (lines_of r) r)
          a = after_runs (lines_of r) (omega arith)

    -- in the order of the lines
    pub in_turn : run_lines run (λ k. k) (lines_of r) r ≡ reel_leaves run r
    in_turn = all-run (λ k. k) (λ k. k) (λ j h. h) (λ j h. refl) (λ k h. refl) (λ k h. h)

    -- in any order that has each of them once
    pub reel_is_runs : (order : List ℕ) → OnceEach order (lines_of r) → run_lines run (λ j. get_or order j 0) (lines_of r) r ≡ reel_leaves run r
    reel_is_runs order once = all-run (λ j. get_or order j 0) once.place once.below once.back once.there once.inside

    -- the reel afterwards, by the calls in turn
    turned : After (λ j. j) (λ j. j) (λ j i. i) (λ j i. refl) (λ j i. refl) (lines_of r) (reel_leaves run r)
    turned =
        subst (After (λ j. j) (λ j. j) (λ j i. i) (λ j i. refl) (λ j i. refl) (lines_of r)) in_turn
        (after_runs (λ j. j) (λ j. j) (λ j i. i) (λ j i. refl) (λ j i. refl) (lines_of r) (omega arith))

    pub reel_lent : Lent (reel_leaves run r)
    reel_lent = turned.lent

    pub reel-rooms : (reel_leaves run r).rooms ≡ r.rooms
    reel-rooms = turned.rooms

    pub reel-characters : (reel_leaves run r).characters ≡ r.characters
    reel-characters = turned.characters

    -- what it leaves of a line is what that line's own run leaves, whatever the others are
    pub reel_lines : (k : ℕ) → k < lines_of r → parts_of (reel_leaves run r) k ≡ ran_part run (parts_of r k)
    reel_lines k h = turned.lines k h ∙ rw (lt-ltb k (lines_of r) h)
