-- Changes one after the other: histories join, lengths add up, and each place is carried on.
use Prim.Native.Nat.{ℕ, ◌+◌, ◌<◌}
use mathlib.Core.Path.{◌≡◌, refl, ◌∙◌, sym}
use mathlib.Core.List.{List, [], ◌∷◌, ◌++◌, append_assoc}
use native.Mathlib.Nat.{add-zero, zero-add, add_assoc}
use native.Mathlib.Omega.{arith}
use lib.ListN.{length, get_or}
use Rattle.line.specs.Line.{Line, Valid, Belongs}
use Rattle.line.specs.Edits.{Edit, carry, added, carry_all, inserted}
use Rattle.line.specs.Changes.{Change, edits_of, history_of, apply, apply_all}
use Rattle.line.specs.History.{Accounted, Fits, Honest, left_by, history_by, start_of}
use Rattle.line.proofs.Exact.{found}
use Rattle.line.proofs.Once.{same_place}
use Rattle.line.proofs.Moves.{Moved, change-moved}

pub inserted-append : (es fs : List Edit) → inserted (es ++ fs) ≡ inserted es + inserted fs
unfolding inserted
inserted-append [] fs = sym (zero-add (inserted fs))
inserted-append (e ∷ es) fs = rw (inserted-append es fs) (sym (add_assoc (added e) (inserted es) (inserted fs)))

pub carry_all-append : (es fs : List Edit) (n p : ℕ) → carry_all (es ++ fs) n p ≡ carry_all fs (n + inserted es) (carry_all es n p)
unfolding inserted carry_all
carry_all-append [] fs n p = rw (add-zero n)
carry_all-append (e ∷ es) fs n p = carry_all-append es fs (n + added e) (carry e n p) ∙ rw (add_assoc n (added e) (inserted es))

pub history_append : (cs ds : List Change) → history_of (cs ++ ds) ≡ history_of cs ++ history_of ds
unfolding history_of
history_append [] ds = refl
history_append (c ∷ cs) ds = rw (history_append cs ds) (sym (append_assoc (edits_of c) (history_of cs) (history_of ds)))

pub apply_all-append : (cs ds : List Change) (l : Line) → apply_all (cs ++ ds) l ≡ apply_all ds (apply_all cs l)
unfolding apply_all
apply_all-append [] ds l = refl
apply_all-append (c ∷ cs) ds l = apply_all-append cs ds (apply c l)

-- what a history makes of a line
abbrev pub By : Line → List Edit → Line → Type 0
By l history l' = Moved l (carry_all history l.used) (inserted history) l'

by_none : (l : Line) → Valid l → By l [] l
unfolding inserted carry_all
by_none l v = record { valid = v; same = refl; all = refl; long = omega arith; goes = λ c p b. b }

by_then : (es fs : List Edit) {l l' l'' : Line} → By l es l' → By l' fs l'' → By l (es ++ fs) l''
by_then es fs {l} {l'} {l''} m k =
    record {
      valid = k.valid;
      same = k.same ∙ m.same;
      all = k.all ∙ m.all;
      long = rw (inserted-append es fs) (k.long ∙ rw m.long (add_assoc l.used (inserted es) (inserted fs)));
      goes = λ c p b.
          rw (carry_all-append es fs l.used p, ← m.long) (k.goes c (carry_all es l.used p) (m.goes c p b));
    }

pub by_changes : (changes : List Change) (l : Line) → Valid l → Fits changes l → By l (history_of changes) (apply_all changes l)
unfolding history_of apply_all
by_changes [] l v fits = by_none l v
by_changes (c ∷ cs) l v fits =
    let sum = inserted-append (edits_of c) (history_of cs) in
    let first : By l (edits_of c) (apply c l) = change-moved c l v (omega (arith, sum, fits)) in
    by_then (edits_of c) (history_of cs) first
    (by_changes cs (apply c l) first.valid (omega (arith, sum, fits, first.long, first.same)))

module _ {Call : Type 0} (leaves : Call → Line → Line) (makes : Call → Line → List Change) (honest : Honest leaves makes) where
  by_call : (call : Call) (l : Line) → Valid l → By l (history_of (makes call l)) (leaves call l)
  by_call call l v = rw (honest.made call l v) (by_changes (makes call l) l v (honest.legal call l v))

  pub by_calls : (calls : List Call) (l : Line) → Valid l → By l (history_by leaves makes calls l) (left_by leaves makes calls l)
  unfolding left_by history_by
  by_calls [] l v = by_none l v
  by_calls (call ∷ calls) l v =
      let first = by_call call l v in
      by_then (history_of (makes call l)) (history_by leaves makes calls (leaves call l)) first (by_calls calls (leaves call l) first.valid)

-- so every character is where the history takes the place from which it started
pub placed : (start : ℕ → ℕ) (history : List Edit) {l l' : Line}
    → ((c : ℕ) → c < length l.homes → Belongs l c (start c)) → By l history l'
    → Accounted (length l.glyphs) (length l.homes) l.used start history l'
placed start history {l} {l'} starts m =
    let there : (c : ℕ) → c < length l.homes → Belongs l' c (carry_all history l.used (start c)) =
    λ c h. m.goes c (start c) (starts c h) in
    record {
      valid = m.valid;
      all = m.all;
      there = there;
      only = λ c p b.
          let t = there c (rw m.all at b.character) in
          same_place m.valid.legal.once b.inside t.inside (b.home ∙ sym t.home);
      long = m.long;
      fits = omega (arith, m.valid.within, m.same);
      same = m.same;
    }

-- a character starts where its home's tag stands
pub starts : (l : Line) → Valid l → (c : ℕ) → c < length l.homes → Belongs l c (start_of l c)
unfolding start_of
starts l v c h =
    let o = v.legal.once in
    let home = get_or l.homes c 0 in
    let below = v.legal.housed c h in
    let f = found l.tags home l.used (o.place home) (o.inside home below) (o.there home below) in
    record { character = h; inside = f.0; home = f.1 }
