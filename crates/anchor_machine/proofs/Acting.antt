-- What an entry does, from what the code has done; how large what it writes is; and that it goes by the stall rule.
use Rattle.std.specs.Prelude.{Option, Some, None}
use Prim.Native.Nat.{ℕ, ◌-◌, ◌<◌, ◌≤◌}
use mathlib.Core.Path.{◌≡◌, refl, sym, ◌∙◌, ap, ap₂, subst, subst⁻¹}
use mathlib.Core.Bool.{Bool, true, false, cond}
use mathlib.Core.List.{List}
use native.Mathlib.Omega.{arith}
use lib.Dec.{ltb}
use lib.IntN.{ℤ, pos, negsuc, nat_abs, ◌-ℤ◌}
use lib.Signed.{mag}
use mir.Syntax.{w16, w32}
use mir.Val.{SFits, to_z, of_z}
use mir.Facts.{to_z-of_z}
use borrow.Author.Tests.{lt-ltb}
use Rattle.laws.specs.Bits.{is_set}
use Rattle.answers.specs.declared.Answer.TheVariants as Answer'
use Rattle.parse.specs.Reads.{u16_at}
use Rattle.tables.specs.declared.units.Reading.{Reading}
use Rattle.state_tables.specs.declared.entries.Entry.{Entry}
use Rattle.state_tables.specs.Entries.{entry_of}
use Rattle.machine.specs.Stall.{stalled}
use Rattle.machine.specs.Pass.{is_done}
use Rattle.anchors.specs.Anchors.{point_of}
use Rattle.anchors.specs.declared.Point.{Point}
use Rattle.anchors.proofs.Lying.{size_difference, point_small}
use Rattle.anchor_machine.specs.Machine.{numbers_of, offset, written_by, marked, stopped, settled, are_short, settled_by, acted, next}
use Rattle.anchor_machine.specs.Small.{IsPoint, IsOffset}
use Rattle.anchor_machine.specs.declared.Anchoring.{Anchoring}
use Rattle.anchor_machine.specs.declared.Numbers.{Numbers}
use Rattle.anchor_machine.specs.declared.Numbers.TheVariants as Numbers'
use Rattle.anchor_machine.specs.declared.Written.{Written}
use Rattle.anchor_machine.specs.declared.AnchorState.{AnchorState}
use Rattle.anchor_machine.specs.declared.AnchorStep.{AnchorStep}

-- what is written has 32 bits
mag_size : (z : ℤ) → mag z ≤ nat_abs z
mag_size (pos n) = omega arith
mag_size (negsuc n) = omega arith

pub offset-fits : {z : ℤ} → nat_abs z ≤ 65535 → SFits w32 z
offset-fits {z} h = record { sfits = omega (arith, mag_size z) }

pub written_fits : {written : Option Written} {w : Written} → IsOffset written → written ≡ Some w → SFits w32 w.x × SFits w32 w.y
written_fits p e = let q = subst IsOffset e p in (offset-fits q.0, offset-fits q.1)

-- points have numbers of 16 bits
pub point_is : (reading : Reading) (ankr : List ℕ) (glyph number : ℕ) → IsPoint (point_of reading ankr glyph number)
point_is reading ankr glyph number = go (point_of reading ankr glyph number) refl
  where
    go : (p : Option Point) → point_of reading ankr glyph number ≡ p → IsPoint p
    go (Some point) e = point_small reading ankr glyph number e
    go None e = tt

-- what two points write, through the bits of their numbers
round : (z : ℤ) → mag z < 32768 → to_z w16 (of_z w16 z) ≡ z
round z h = to_z-of_z {w = w16} (record { sfits = h })

module _ (x y : ℤ) (p : mag x < 32768) (q : mag y < 32768) {d : ℤ} (e : d ≡ to_z w16 (of_z w16 x) -ℤ to_z w16 (of_z w16 y)) where
  plain : d ≡ x -ℤ y
  plain = e ∙ ap₂ (λ (a b : ℤ). a -ℤ b) (round x p) (round y q)

  through : to_z w32 (of_z w32 d) ≡ x -ℤ y
  through = ap (λ (z : ℤ). to_z w32 (of_z w32 z)) plain ∙ to_z-of_z (offset-fits (size_difference x y p q))

pub offset_is : {mark current : Option Point} {m c : Point} {dx dy : ℤ} {back : ℕ} → IsPoint mark → IsPoint current → mark ≡ Some m → current ≡ Some c → back < 255
    → dx ≡ to_z w16 (of_z w16 m.x) -ℤ to_z w16 (of_z w16 c.x) → dy ≡ to_z w16 (of_z w16 m.y) -ℤ to_z w16 (of_z w16 c.y)
    → Some (record { x = to_z w32 (of_z w32 dx); y = to_z w32 (of_z w32 dy); back = back }) ≡ offset mark current back
unfolding offset
offset_is {mark} {current} {m} {c} {dx} {dy} {back} p q e f h a b =
    let i = subst IsPoint e p in
    let j = subst IsPoint f q in
    ap₂ {C = Option Written} (λ (u v : ℤ). Some (record { x = u; y = v; back = back })) (through m.x c.x i.0 j.0 a) (through m.y c.y i.1 j.1 b)
    ∙ sym (rw (e, f, offset, lt-ltb back 255 h))

offset-small : (mark current : Option Point) (back : ℕ) → IsPoint mark → IsPoint current → IsOffset (offset mark current back)
unfolding offset
offset-small (Some m) (Some c) back p q = go (ltb back 255)
  where
    go : (t : Bool) → IsOffset (cond t (Some (record { x = m.x -ℤ c.x; y = m.y -ℤ c.y; back = back })) None)
    go true = (size_difference m.x c.x p.0 q.0, size_difference m.y c.y p.1 q.1)
    go false = tt
offset-small (Some m) None back p q = tt
offset-small None current back p q = tt

pub written_small : (ankr : List ℕ) (reading : Reading) (s : AnchorState) (index glyph : ℕ) (numbers : Numbers) → IsOffset (written_by ankr reading s index glyph numbers)
unfolding written_by
written_small ankr reading s index glyph Numbers'.None = tt
written_small ankr reading s index glyph Numbers'.Short = tt
written_small ankr reading s index glyph (Numbers'.At mark current) =
    offset-small (point_of reading ankr s.glyph mark) (point_of reading ankr glyph current) (index - s.mark)
    (point_is reading ankr s.glyph mark) (point_is reading ankr glyph current)

never : {A : Type 0} → false ≡ true → A
never e = absurd cc

never' : {A : Type 0} → true ≡ false → A
never' e = absurd cc

-- what holds of every step: it goes by the stall rule where it is DONE, and writes nothing where it is not
pub record Sound (cycles : ℕ) (step : AnchorStep) : Type 0 where
  pub small : IsOffset step.written
  pub stays : Bool
  pub stalls : is_done step.answer ≡ true → (step.state.cycles ≡ (stalled cycles stays).cycles) × (step.advance ≡ (stalled cycles stays).advance)
  pub silent : is_done step.answer ≡ false → step.written ≡ None

settled-sound : (ankr : List ℕ) (reading : Reading) (s : AnchorState) (stays : Bool) (index glyph : ℕ) (numbers : Numbers)
    → Sound s.cycles (settled_by ankr reading s stays index glyph numbers)
unfolding settled_by settled
settled-sound ankr reading s stays index glyph numbers = go (are_short numbers)
  where
    go : (t : Bool) → Sound s.cycles (cond t (stopped s Answer'.Ended) (settled s stays (written_by ankr reading s index glyph numbers)))
    go true = record { small = tt; stays = false; stalls = λ d. never d; silent = λ d. refl }
    go false =
        record {
          small = written_small ankr reading s index glyph numbers;
          stays = stays;
          stalls = λ d. (refl, refl);
          silent = λ d. never' d;
        }

pub acted-sound : (ankr bytes : List ℕ) (anchoring : Anchoring) (s : AnchorState) (entry : Entry) (index glyph : ℕ)
    → Sound s.cycles (acted ankr bytes anchoring s entry index glyph)
unfolding acted marked
acted-sound ankr bytes anchoring s entry index glyph =
    settled-sound ankr anchoring.reading (marked s entry index glyph) (is_set entry.flags 0x4000) index glyph
    (numbers_of bytes anchoring (u16_at bytes entry.payload))

pub stopped-sound : (s : AnchorState) → Sound s.cycles (stopped s Answer'.Ended)
stopped-sound s = record { small = tt; stays = false; stalls = λ d. never d; silent = λ d. refl }

-- a step, by what the code reads
module _ (classes : ℕ → ℕ) (ankr bytes : List ℕ) (anchoring : Anchoring) (s : AnchorState) (index glyph : ℕ) {class : ℕ} {r : (Option Entry)} (k : class ≡ classes glyph)
    (e : r ≡ entry_of bytes anchoring.states s.state class 2) where
  found : r ≡ entry_of bytes anchoring.states s.state (classes glyph) 2
  found = e ∙ ap (λ (c : ℕ). entry_of bytes anchoring.states s.state c 2) k

  pub next_ended : r ≡ None → stopped s Answer'.Ended ≡ next classes ankr bytes anchoring s index glyph
  unfolding next
  next_ended f = rw (sym found ∙ f, next)

  pub next_acts : {entry : Entry} → r ≡ Some entry → acted ankr bytes anchoring s entry index glyph ≡ next classes ankr bytes anchoring s index glyph
  unfolding next
  next_acts f = rw (sym found ∙ f, next)

pub next_sound : (classes : ℕ → ℕ) (ankr bytes : List ℕ) (anchoring : Anchoring) (s : AnchorState) (index glyph : ℕ)
    → Sound s.cycles (next classes ankr bytes anchoring s index glyph)
next_sound classes ankr bytes anchoring s index glyph = go (entry_of bytes anchoring.states s.state (classes glyph) 2) refl
  where
    go : (e : Option Entry) → entry_of bytes anchoring.states s.state (classes glyph) 2 ≡ e → Sound s.cycles (next classes ankr bytes anchoring s index glyph)
    go (Some entry) f =
        subst (λ (x : AnchorStep). Sound s.cycles x) (next_acts classes ankr bytes anchoring s index glyph refl refl f)
        (acted-sound ankr bytes anchoring s entry index glyph)
    go None f = subst (λ (x : AnchorStep). Sound s.cycles x) (next_ended classes ankr bytes anchoring s index glyph refl refl f) (stopped-sound s)

pub next_small : (classes : ℕ → ℕ) (ankr bytes : List ℕ) (anchoring : Anchoring) (s : AnchorState) (index glyph : ℕ) {step : AnchorStep}
    → step ≡ next classes ankr bytes anchoring s index glyph → IsOffset step.written
next_small classes ankr bytes anchoring s index glyph e =
    subst⁻¹ (λ (t : AnchorStep). IsOffset t.written) e (next_sound classes ankr bytes anchoring s index glyph).small
