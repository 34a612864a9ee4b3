-- Laws of writes.
use Rattle.std.specs.Prelude.{Option, None}
use Prim.Native.Nat.{ℕ}
use mathlib.Core.Path.{◌≡◌, refl, sym, ◌∙◌, ap}
use mathlib.Core.List.{List, [], ◌∷◌, ◌++◌}
use lib.IntN.{ℤ}
use lib.ListN.{length, set, length-set}
use Rattle.anchor_machine.specs.Writes.{Write, write_all, write_x, write_y, write_back, writes_at}
use Rattle.anchor_machine.specs.declared.Written.{Written}

module _ {A : Type 0} (part : Write → A) where
  write-append : (done more : List Write) (were : List A) → write_all part (done ++ more) were ≡ write_all part more (write_all part done were)
  unfolding write_all
  write-append [] more were = refl
  write-append (w ∷ done) more were = write-append done more (set were w.place (part w))

  write-long : (writes : List Write) (were : List A) → length (write_all part writes were) ≡ length were
  unfolding write_all
  write-long [] were = refl
  write-long (w ∷ later) were = write-long later (set were w.place (part w)) ∙ length-set were w.place (part w)

-- what writes have left of the three slices
pub record Wrote (writes : List Write) (x₀ y₀ : List ℤ) (back₀ : List ℕ) (x y : List ℤ) (back : List ℕ) : Type 0 where
  pub xs : x ≡ write_x writes x₀
  pub ys : y ≡ write_y writes y₀
  pub backs : back ≡ write_back writes back₀

pub wrote_none : (x y : List ℤ) (back : List ℕ) → Wrote [] x y back x y back
unfolding write_all
wrote_none x y back = record { xs = refl; ys = refl; backs = refl }

module _ {done : List Write} {x₀ y₀ : List ℤ} {back₀ : List ℕ} {x y : List ℤ} {back : List ℕ} (w : Wrote done x₀ y₀ back₀ x y back) where
  pub wrote_more : {more : List Write} {x' y' : List ℤ} {back' : List ℕ} → Wrote more x y back x' y' back' → Wrote (done ++ more) x₀ y₀ back₀ x' y' back'
  wrote_more {more} v =
      record {
        xs = v.xs ∙ ap (write_x more) w.xs ∙ sym (write-append (λ (q : Write). q.x) done more x₀);
        ys = v.ys ∙ ap (write_y more) w.ys ∙ sym (write-append (λ (q : Write). q.y) done more y₀);
        backs = v.backs ∙ ap (write_back more) w.backs ∙ sym (write-append (λ (q : Write). q.back) done more back₀);
      }

  pub wrote_long : (length x ≡ length x₀) × (length y ≡ length y₀) × (length back ≡ length back₀)
  wrote_long = (
    ap length w.xs ∙ write-long (λ (q : Write). q.x) done x₀,
    ap length w.ys ∙ write-long (λ (q : Write). q.y) done y₀,
    ap length w.backs ∙ write-long (λ (q : Write). q.back) done back₀,
  )

-- what a step writes
module _ (used place : ℕ) {written : Option Written} (x y : List ℤ) (back : List ℕ) where
  pub put_none : written ≡ None → Wrote (writes_at used place written) x y back x y back
  unfolding writes_at
  put_none e = rw (e, writes_at) (wrote_none x y back)
