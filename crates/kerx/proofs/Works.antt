-- The work by format, the visit of a subtable, and the pair's answer.
use Prim.Native.Nat.{ℕ, ◌+◌, ◌≤◌, ◌^◌}
use mathlib.Core.Path.{◌≡◌, sym, ◌∙◌, ap, ap₂, subst}
use mathlib.Core.Bool.{Bool, true, false, cond}
use mathlib.Core.List.{List}
use native.Mathlib.Omega.{arith}
use lib.Dec.{eqb}
use lib.IntN.{ℤ, pos}
use lib.ListN.{length}
use Rattle.answers.specs.Limits.{room_limit}
use Rattle.answers.specs.declared.Answer.TheVariants as Answer'
use Rattle.answers.specs.declared.Refusal.TheVariants as Refusal'
use Rattle.kerning.specs.Additions.{Addition, add_all, nothing_added}
use Rattle.kerning.specs.Bounds.{Within}
use Rattle.kerning.specs.declared.choices.Choices.{Choices}
use Rattle.kerning.proofs.Adding.{add_all-none, length-add_all, within_more}
use Rattle.kerning.specs.Heads.{barred}
use Rattle.pairs.specs.Pairs.{ordered_kerx, classes_kerx}
use Rattle.pairs.specs.Pass as Pairs'
use Rattle.pairs.proofs.Passes as PairLaws
use Rattle.kerx_machine.specs.Machine as Machine'
use Rattle.kerx_machine.specs.Machine.{is_tupled}
use Rattle.kerx_machine.proofs.Bounds as Bounds'
use Rattle.kerning_lists.specs.Run.{turned_back}
use Rattle.kerning_lists.proofs.Turns.{backward_twice, within-backward, turned_and_back}
use Rattle.laws.proofs.Backward.{length-backward}
use Rattle.laws.specs.Backward.{backward}
use Rattle.kerx.specs.Kerx.{worked}

-- whatever the format, little is added
pub worked_little : (bytes : List ℕ) (version format : ℕ) (glyphs : List ℕ) (used : ℕ) (choices : Choices) (b : ℕ) (along : List ℤ) → used ≤ room_limit → Within b along
    → Within (b + 2 ^ 39) (add_all (worked bytes version format glyphs used choices).additions along)
unfolding worked
worked_little bytes version format glyphs used choices b along h w = go (eqb format 0) (eqb format 1) (eqb format 2)
  where
    go : (zero one two : Bool) → Within (b + 2 ^ 39)
        (add_all
        (cond zero (Pairs'.worked_by bytes (barred (is_tupled bytes version choices.reading) (ordered_kerx bytes)) glyphs used choices.pairs)
        (cond one (Machine'.worked bytes version glyphs used choices.reading)
        (cond two (Pairs'.worked_by bytes (barred (is_tupled bytes version choices.reading) (classes_kerx bytes choices.reading)) glyphs used choices.pairs)
        (nothing_added (Answer'.Refused Refusal'.Head))))).additions
        along)
    go true one two = PairLaws.worked-within bytes (barred (is_tupled bytes version choices.reading) (ordered_kerx bytes)) glyphs used choices.pairs along h w
    go false true two = Bounds'.worked-within bytes version glyphs used choices.reading along h w
    go false false true = PairLaws.worked-within bytes (barred (is_tupled bytes version choices.reading) (classes_kerx bytes choices.reading)) glyphs used choices.pairs along h w
    go false false false = within_more (omega arith) (subst (Within b) (sym (add_all-none along)) w)

-- a line turned round and back
pub back_again : (used : ℕ) (xs : List ℕ) {once twice : List ℕ} → used ≤ length xs → once ≡ backward used xs → twice ≡ backward used once → twice ≡ xs
back_again used xs h e f = f ∙ ap (backward used) e ∙ backward_twice 0 used xs h

-- and its adjustments with it
pub added-back : (used version format : ℕ) (part glyphs : List ℕ) (choices : Choices) (along : List ℤ) {turned : List ℕ} {once worked₁ after : List ℤ} → used ≤ length along
    → turned ≡ backward used glyphs → once ≡ backward used along → worked₁ ≡ add_all (worked part version format turned used choices).additions once
    → after ≡ backward used worked₁
    → after ≡ add_all (turned_back used (worked part version format (backward used glyphs) used choices).additions) along
added-back used version format part glyphs choices along h g e w f =
    f ∙ ap (backward used) (w ∙ ap₂ (λ (x : List ℕ) (y : List ℤ). add_all (worked part version format x used choices).additions y) g e)
    ∙ turned_and_back (worked part version format (backward used glyphs) used choices).additions used along h

-- the line and the adjustments turned round may be worked on
pub turned_ready : (used : ℕ) (glyphs : List ℕ) (along : List ℤ) {turned : List ℕ} {once : List ℤ} → turned ≡ backward used glyphs → once ≡ backward used along
    → used ≤ length glyphs → used ≤ length along → used ≤ room_limit → Within (2 ^ 60) along
    → (used ≤ length turned) × (used ≤ length once) × (used ≤ room_limit) × Within (2 ^ 60) once
turned_ready used glyphs along {turned} {once} g a h k r w =
    let m : length turned ≡ length glyphs = ap length g ∙ length-backward 0 used glyphs h in
    let n : length once ≡ length along = ap length a ∙ length-backward (pos 0) used along k in
    (omega arith, omega arith, r, subst (Within (2 ^ 60)) (sym a) (within-backward used along k w))

-- they are as long as before
pub line-fits : (used : ℕ) (glyphs tags : List ℕ) {once beside : List ℕ} → once ≡ backward used glyphs → beside ≡ backward used tags → used ≤ length glyphs
    → used ≤ length tags → (used ≤ length once) × (used ≤ length beside)
line-fits used glyphs tags {once} {beside} g t h k =
    let m : length once ≡ length glyphs = ap length g ∙ length-backward 0 used glyphs h in
    let n : length beside ≡ length tags = ap length t ∙ length-backward 0 used tags k in
    (omega arith, omega arith)

pub along-fits : (used : ℕ) (along : List ℤ) (additions : List Addition) {once after : List ℤ} → once ≡ backward used along → after ≡ add_all additions once
    → used ≤ length along → used ≤ length after
along-fits used along additions {once} {after} a e h =
    let n : length once ≡ length along = ap length a ∙ length-backward (pos 0) used along h in
    let m : length after ≡ length once = ap length e ∙ length-add_all additions once in
    omega arith
