-- A reel by its lines: one put in is there, the others stay as they were, and all of them joined are the reel.
use Prim.Native.Nat.{ℕ, ◌+◌, ◌<◌, ◌≤◌}
use mathlib.Core.Path.{◌≡◌, ◌∙◌, sym, ap}
use mathlib.Core.List.{List}
use native.Mathlib.Omega.{arith}
use lib.ListN.{length, get_or, length-set}
use lib.Seq.{get_or-set_same, get_or-set_other}
use Rattle.line.specs.Line.{Line, line_of}
use Rattle.morx.specs.Run.{Ran}
use Rattle.reel.specs.Parts.{place_of, part_of, laid}
use Rattle.reel.specs.Reel.{Reel, reel_of, Lent, lines_of, Part, parts_of, joined, ran_part}
use Rattle.reel.specs.Runs.{Fills, with_line}
use Rattle.reel.specs.Work.{Keeps}
use Rattle.reel.proofs.Parts.{part_inside, length_part, length_with, part_same, part_other, laid-whole, laid_alike, tab-whole, tab_alike}

-- a line and its numbers, by their parts
part_by : {g g' t t' h h' : List ℕ} {u u' a a' n n' : ℕ} → g ≡ g' → t ≡ t' → h ≡ h' → u ≡ u' → a ≡ a' → n ≡ n'
    → ◌≡◌ {A = Part} (record { line = line_of g t h u; answer = a; heads = n }) (record { line = line_of g' t' h' u'; answer = a'; heads = n' })
part_by p q s v w x = cc

pub reel_by : {ro ch u u' a a' n n' g g' t t' h h' : List ℕ} → u ≡ u' → a ≡ a' → n ≡ n' → g ≡ g' → t ≡ t' → h ≡ h'
    → reel_of ro ch u a n g t h ≡ reel_of ro ch u' a' n' g' t' h'
reel_by p q s v w x = cc

module _ (r : Reel) (v : Lent r) where
  -- where line k lies
  module _ (k : ℕ) (h : k < lines_of r) where
    pub glyphs_fit : place_of r.rooms k + get_or r.rooms k 0 ≤ length r.glyphs
    glyphs_fit = omega (arith, part_inside r.rooms k h, v.whole-glyphs)

    pub tags_fit : place_of r.rooms k + get_or r.rooms k 0 ≤ length r.tags
    tags_fit = omega (arith, part_inside r.rooms k h, v.whole-tags)

    pub homes_fit : place_of r.characters k + get_or r.characters k 0 ≤ length r.homes
    homes_fit = omega (arith, part_inside r.characters k (omega (arith, h, v.all-characters)), v.whole-homes)

    -- a line of the reel fills its own part
    pub own-fills : Fills r k (parts_of r k).line
    unfolding parts_of
    own-fills =
        record {
          glyphs = length_part r.rooms k r.glyphs glyphs_fit;
          tags = length_part r.rooms k r.tags tags_fit;
          homes = length_part r.characters k r.homes homes_fit;
        }

    module _ (p : Part) (f : Fills r k p.line) where
      -- with another line there it is a reel again
      pub with_lent : Lent (with_line r k p)
      unfolding with_line
      with_lent =
          record {
            few = v.few;
            all-characters = v.all-characters;
            all-used = length-set r.used k p.line.used ∙ v.all-used;
            all-answers = length-set r.answers k p.answer ∙ v.all-answers;
            all-heads = length-set r.heads k p.heads ∙ v.all-heads;
            whole-glyphs = v.whole-glyphs ∙ sym (length_with r.rooms k r.glyphs glyphs_fit p.line.glyphs f.glyphs);
            whole-tags = v.whole-tags ∙ sym (length_with r.rooms k r.tags tags_fit p.line.tags f.tags);
            whole-homes = v.whole-homes ∙ sym (length_with r.characters k r.homes homes_fit p.line.homes f.homes);
          }

      -- which is there
      pub line_same : parts_of (with_line r k p) k ≡ p
      unfolding parts_of with_line
      line_same =
          part_by
          (part_same r.rooms k r.glyphs glyphs_fit p.line.glyphs f.glyphs)
          (part_same r.rooms k r.tags tags_fit p.line.tags f.tags)
          (part_same r.characters k r.homes homes_fit p.line.homes f.homes)
          (get_or-set_same r.used k p.line.used 0 (omega (arith, h, v.all-used)))
          (get_or-set_same r.answers k p.answer 0 (omega (arith, h, v.all-answers)))
          (get_or-set_same r.heads k p.heads 0 (omega (arith, h, v.all-heads)))

      -- while every other line is as it was
      pub line_other : (j : ℕ) → (j ≡ k → ⊥) → parts_of (with_line r k p) j ≡ parts_of r j
      unfolding parts_of with_line
      line_other j ne =
          part_by
          (part_other r.rooms k r.glyphs glyphs_fit p.line.glyphs f.glyphs j ne)
          (part_other r.rooms k r.tags tags_fit p.line.tags f.tags j ne)
          (part_other r.characters k r.homes homes_fit p.line.homes f.homes j ne)
          (get_or-set_other r.used k j p.line.used 0 ne)
          (get_or-set_other r.answers k j p.answer 0 ne)
          (get_or-set_other r.heads k j p.heads 0 ne)

  -- all lines joined are the reel
  pub joined-own : joined r.rooms r.characters (parts_of r) ≡ r
  unfolding joined parts_of
  joined-own =
      reel_by
      (tab-whole r.used (lines_of r) v.all-used)
      (tab-whole r.answers (lines_of r) v.all-answers)
      (tab-whole r.heads (lines_of r) v.all-heads)
      (laid-whole r.rooms r.glyphs v.whole-glyphs)
      (laid-whole r.rooms r.tags v.whole-tags)
      (homes-whole (lines_of r) v.all-characters)
    where
      homes-whole : (n : ℕ) → length r.characters ≡ n → laid (λ k. part_of r.characters k r.homes) n ≡ r.homes
      homes-whole n e = ap (laid (λ k. part_of r.characters k r.homes)) (sym e) ∙ laid-whole r.characters r.homes v.whole-homes

-- equal lines are joined equally
pub joined_alike : (rooms characters : List ℕ) (f g : ℕ → Part) → ((k : ℕ) → k < length rooms → f k ≡ g k) → joined rooms characters f ≡ joined rooms characters g
unfolding joined
joined_alike rooms characters f g same =
    reel_by
    (tab_alike (λ k. (f k).line.used) (λ k. (g k).line.used) (length rooms) (λ k h. ap (λ (p : Part). p.line.used) (same k h)))
    (tab_alike (λ k. (f k).answer) (λ k. (g k).answer) (length rooms) (λ k h. ap (λ (p : Part). p.answer) (same k h)))
    (tab_alike (λ k. (f k).heads) (λ k. (g k).heads) (length rooms) (λ k h. ap (λ (p : Part). p.heads) (same k h)))
    (laid_alike (λ k. (f k).line.glyphs) (λ k. (g k).line.glyphs) (length rooms) (λ k h. ap (λ (p : Part). p.line.glyphs) (same k h)))
    (laid_alike (λ k. (f k).line.tags) (λ k. (g k).line.tags) (length rooms) (λ k h. ap (λ (p : Part). p.line.tags) (same k h)))
    (laid_alike (λ k. (f k).line.homes) (λ k. (g k).line.homes) (length rooms) (λ k h. ap (λ (p : Part). p.line.homes) (same k h)))

-- a run that keeps the room leaves a line that fills the part
pub ran-fills : (run : Line → Ran) → Keeps run → (r : Reel) (k : ℕ) (p : Part) → Fills r k p.line → Fills r k (ran_part run p).line
unfolding ran_part
ran-fills run keeps r k p f =
    record {
      glyphs = (keeps.kept p.line).glyphs ∙ f.glyphs;
      tags = (keeps.kept p.line).tags ∙ f.tags;
      homes = (keeps.kept p.line).homes ∙ f.homes;
    }
