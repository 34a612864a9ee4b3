-- The walk of a list, from what the code has at each number.
use Prim.Native.Nat.{ℕ, zero, suc, ◌+◌, ◌-◌, ◌<◌, ◌≤◌, ◌^◌}
use mathlib.Core.Path.{◌≡◌, refl, sym, ◌∙◌, ap, subst⁻¹}
use mathlib.Core.Bool.{true, false}
use mathlib.Core.List.{List, [], ◌++◌, append_assoc}
use native.Mathlib.Omega.{arith}
use lib.IntN.{ℤ}
use lib.ListN.{length, get_or, length-append}
use mir.Syntax.{w16}
use mir.Val.{SFits, to_z, of_z}
use mir.Facts.{to_z-of_z}
use Rattle.kerning.specs.Additions.{Addition, add_all, additions_at}
use Rattle.kerning.specs.Bounds.{Within}
use Rattle.kerning.specs.Lists.{number_at, on_number, Walk, leaves, before, walk}
use Rattle.kerning.specs.declared.lists.Rule.{Rule}
use Rattle.kerning.specs.declared.lists.Number.{Number}
use Rattle.kerning.specs.declared.lists.Number.TheVariants.{Short, Stop, Last, More}
use Rattle.kerning.specs.declared.lists.Walked.{Walked}
use Rattle.kerning.proofs.Signs.{size_16}
use Rattle.kerning.proofs.Adding.{Small, small-none, small-append, small-additions, few-additions, length-add_all, add_all-none, add_all-append, within_more, within-add_all}
use Rattle.kerning.proofs.Ruling.{Sized, number-sized, number-inside}

sized-last : {number : Number} {z : ℤ} → Sized number → number ≡ Last z → SFits w16 z
sized-last Sized.short e = absurd cc
sized-last Sized.stop e = absurd cc
sized-last {z = z} (Sized.last {z = y} f) e = let x : y ≡ z = cc in rw x at f
sized-last (Sized.more f) e = absurd cc

sized-more : {number : Number} {z : ℤ} → Sized number → number ≡ More z → SFits w16 z
sized-more Sized.short e = absurd cc
sized-more Sized.stop e = absurd cc
sized-more (Sized.last f) e = absurd cc
sized-more {z = z} (Sized.more {z = y} f) e = let x : y ≡ z = cc in rw x at f

module _ (bytes : List ℕ) (rule : Rule) (stride : ℕ) (stack : List ℕ) (used : ℕ) where
  turn : Number → (left place : ℕ) → Walk
  turn number left place =
      on_number number (leaves true left []) (leaves false left [])
      (λ z. leaves false 0 (additions_at used (get_or stack (left - 1) 0) z))
      (λ z. before (additions_at used (get_or stack (left - 1) 0) z) (walk bytes rule stride stack used (left - 1) (place + stride)))

  turned : (left place : ℕ) → 0 < left → walk bytes rule stride stack used left place ≡ turn (number_at bytes rule place) left place
  unfolding walk turn
  turned zero place h = absurd (omega arith)
  turned (suc depth) place h = let e : suc depth - 1 ≡ depth = omega arith in rw e

  empty : (left place : ℕ) → left ≤ 0 → walk bytes rule stride stack used left place ≡ leaves false 0 []
  unfolding walk
  empty zero place h = refl
  empty (suc left) place h = absurd (omega arith)

  -- how a walk was left, in the code
  pub record Over (whole : Walk) (along₀ : List ℤ) (walked : Walked) (along : List ℤ) : Type 0 where
    pub answers : walked ≡ whole.left
    pub leaves_them : along ≡ add_all whole.additions along₀

  -- what is left of the list, behind the additions made, is the whole
  pub record Walking (whole : Walk) (along₀ along : List ℤ) (left place : ℕ) : Type 0 where
    pub done : List Addition
    pub at : along ≡ add_all done along₀
    pub small : Small done
    pub few : length done + left ≤ 8
    pub same : before done (walk bytes rule stride stack used left place) ≡ whole

  pub walking_start : (along : List ℤ) (depth place : ℕ) → depth ≤ 8 → Walking (walk bytes rule stride stack used depth place) along along depth place
  walking_start along depth place h = record { done = []; at = sym (add_all-none along); small = small-none; few = omega arith; same = refl }

  module _ {whole : Walk} {along₀ along : List ℤ} {left place : ℕ} (w : Walking whole along₀ along left place) where
    pub walking_long : length along ≡ length along₀
    walking_long = ap length w.at ∙ length-add_all w.done along₀

    -- no sum leaves 64 bits
    pub walking_within : Within (2 ^ 61) along₀ → Within (2 ^ 62) along
    walking_within k = subst⁻¹ (λ (xs : List ℤ). Within (2 ^ 62) xs) w.at (within_more (omega (arith, w.few)) (within-add_all along₀ w.small k))

    over : (r : Walk) → walk bytes rule stride stack used left place ≡ r → {along' : List ℤ} → along' ≡ add_all r.additions along
        → Over whole along₀ r.left along'
    over r e g =
        let f : before w.done r ≡ whole = ap (before w.done) (sym e) ∙ w.same in
        record {
          answers = ap (λ (x : Walk). x.left) f;
          leaves_them = g ∙ ap (add_all r.additions) w.at ∙ sym (add_all-append w.done r.additions along₀) ∙ ap (λ (x : Walk). add_all x.additions along₀) f;
        }

    module _ {number : Number} (some : 0 < left) (n : number ≡ number_at bytes rule place) where
      turns : {m : Number} → number ≡ m → walk bytes rule stride stack used left place ≡ turn m left place
      turns e = turned left place some ∙ ap (λ (x : Number). turn x left place) (sym n ∙ e)

      pub walking_short : number ≡ Short → Over whole along₀ (record { ended = true; depth = left }) along
      unfolding turn
      walking_short e = over (turn Short left place) (turns e) (sym (add_all-none along))

      pub walking_stop : number ≡ Stop → Over whole along₀ (record { ended = false; depth = left }) along
      unfolding turn
      walking_stop e = over (turn Stop left place) (turns e) (sym (add_all-none along))

      module _ {z : ℤ} {along' : List ℤ} (g : along' ≡ add_all (additions_at used (get_or stack (left - 1) 0) (to_z w16 (of_z w16 z))) along) where
        plain : SFits w16 z → along' ≡ add_all (additions_at used (get_or stack (left - 1) 0) z) along
        plain f = g ∙ ap (λ (x : ℤ). add_all (additions_at used (get_or stack (left - 1) 0) x) along) (to_z-of_z f)

        pub walking_last : number ≡ Last z → Over whole along₀ (record { ended = false; depth = 0 }) along'
        unfolding turn
        walking_last e = over (turn (Last z) left place) (turns e) (plain (sized-last (number-sized bytes rule place) (sym n ∙ e)))

        pub walking_more : number ≡ More z → Walking whole along₀ along' (left - 1) (place + stride)
        unfolding turn
        walking_more e =
            let f : SFits w16 z = sized-more (number-sized bytes rule place) (sym n ∙ e) in
            let xs : List Addition = additions_at used (get_or stack (left - 1) 0) z in
            let rest : Walk = walk bytes rule stride stack used (left - 1) (place + stride) in
            record {
              done = w.done ++ xs;
              at = plain f ∙ ap (add_all xs) w.at ∙ sym (add_all-append w.done xs along₀);
              small = small-append w.small (small-additions used (get_or stack (left - 1) 0) z (size_16 f));
              few = omega (arith, length-append w.done xs, few-additions used (get_or stack (left - 1) 0) z, w.few);
              same = ap (λ (ys : List Addition). record { left = rest.left; additions = ys }) (append_assoc w.done xs rest.additions)
                  ∙ ap (before w.done) (sym (turns e)) ∙ w.same;
            }

      pub walking_inside : {z : ℤ} → number ≡ More z → place + 2 ≤ length bytes
      walking_inside e = number-inside bytes rule place (sym n ∙ e)

    pub walking_done : left ≤ 0 → Over whole along₀ (record { ended = false; depth = 0 }) along
    walking_done h = over (leaves false 0 []) (empty left place h) (sym (add_all-none along))

-- what a walk adds is small and few, and the stack gets no deeper
pub record Bounded (depth : ℕ) (w : Walk) : Type 0 where
  pub small : Small w.additions
  pub few : length w.additions ≤ depth
  pub shallow : w.left.depth ≤ depth

module _ (bytes : List ℕ) (rule : Rule) (stride : ℕ) (stack : List ℕ) (used : ℕ) where
  pub walk_bounded : (depth place : ℕ) → Bounded depth (walk bytes rule stride stack used depth place)
  unfolding walk
  walk_bounded zero place = record { small = small-none; few = omega arith; shallow = omega arith }
  walk_bounded (suc depth) place = go (number_at bytes rule place) (number-sized bytes rule place) (walk_bounded depth (place + stride))
    where
      go : (n : Number) → Sized n → Bounded depth (walk bytes rule stride stack used depth (place + stride))
          → Bounded (suc depth)
          (on_number n (leaves true (suc depth) []) (leaves false (suc depth) [])
          (λ z. leaves false 0 (additions_at used (get_or stack depth 0) z))
          (λ z. before (additions_at used (get_or stack depth 0) z) (walk bytes rule stride stack used depth (place + stride))))
      go Short Sized.short b = record { small = small-none; few = omega arith; shallow = omega arith }
      go Stop Sized.stop b = record { small = small-none; few = omega arith; shallow = omega arith }
      go (Last z) (Sized.last f) b =
          record {
            small = small-additions used (get_or stack depth 0) z (size_16 f);
            few = omega (arith, few-additions used (get_or stack depth 0) z);
            shallow = omega arith;
          }
      go (More z) (Sized.more f) b =
          record {
            small = small-append (small-additions used (get_or stack depth 0) z (size_16 f)) b.small;
            few = omega (
              arith,
              length-append (additions_at used (get_or stack depth 0) z) (walk bytes rule stride stack used depth (place + stride)).additions,
              few-additions used (get_or stack depth 0) z,
              b.few,
            );
            shallow = omega (arith, b.shallow);
          }
