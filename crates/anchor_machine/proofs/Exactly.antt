-- What is written is exact.
use Rattle.std.specs.Prelude.{Option, Some, None}
use Prim.Native.Nat.{ℕ, zero, suc, ◌+◌, ◌-◌, ◌<◌, ◌≤◌}
use mathlib.Core.Path.{◌≡◌, refl, sym, ap, subst}
use mathlib.Core.Bool.{Bool, true, false, cond}
use mathlib.Core.List.{List, [], ◌∷◌, ◌++◌}
use mathlib.Core.Logic.{⊎_elim, inl, inr}
use native.Mathlib.Omega.{arith}
use lib.Dec.{ltb}
use lib.IntN.{ℤ, nat_abs, ◌-ℤ◌}
use lib.ListN.{get_or}
use borrow.Author.Tests.{ltb-true}
use Rattle.laws.specs.Bits.{is_set}
use Rattle.laws.proofs.Numbers.{lt-or-ge}
use Rattle.answers.specs.declared.Answer.TheVariants as Answer'
use Rattle.parse.specs.Reads.{u16_at}
use Rattle.state_tables.specs.declared.entries.Entry.{Entry}
use Rattle.state_tables.specs.Entries.{entry_of}
use Rattle.machine.specs.Pass.{is_done}
use Rattle.tables.specs.declared.units.Reading.{Reading}
use Rattle.anchors.specs.Anchors.{point_of}
use Rattle.anchors.specs.declared.Point.{Point}
use Rattle.anchors.proofs.Lying.{size_difference, point_small}
use Rattle.anchor_machine.specs.Writes.{Write, writes_at, Anchored}
use Rattle.anchor_machine.specs.Machine.{fresh, marked, numbers_of, offset, written_by, stopped, settled, are_short, settled_by, acted, step_at, pass_from, rest, passed_by, own_classes, passed}
use Rattle.anchor_machine.specs.Exact.{Exact, HasMark, ExactWrite, EachWrite}
use Rattle.anchor_machine.specs.declared.Anchoring.{Anchoring}
use Rattle.anchor_machine.specs.declared.Numbers.{Numbers}
use Rattle.anchor_machine.specs.declared.Numbers.TheVariants as Numbers'
use Rattle.anchor_machine.specs.declared.Written.{Written}
use Rattle.anchor_machine.specs.declared.AnchorState.{AnchorState}
use Rattle.anchor_machine.specs.declared.AnchorStep.{AnchorStep}
use Rattle.anchor_machine.proofs.Acting.{next_ended, next_acts}
use Rattle.anchor_machine.proofs.Passes.{turn_goes, turn_stops, turn_ends}

module _ (ankr : List ℕ) (reading : Reading) (s : AnchorState) (index glyph mark current : ℕ) where
  abbrev IsExact : Written → Type 0
  IsExact v = Exact ankr reading s index glyph mark current v.x v.y v.back

  nothing : {w : Written} → None ≡ Some w → IsExact w
  nothing e = absurd cc

  both-there : {w : Written} (m c : Point) → point_of reading ankr s.glyph mark ≡ Some m → point_of reading ankr glyph current ≡ Some c → (t : Bool)
      → ltb (index - s.mark) 255 ≡ t → cond t (Some (record { x = m.x -ℤ c.x; y = m.y -ℤ c.y; back = index - s.mark })) None ≡ Some w → IsExact w
  both-there {w} m c p q true l e =
      let i = point_small reading ankr s.glyph mark p in
      let j = point_small reading ankr glyph current q in
      let same : record { x = m.x -ℤ c.x; y = m.y -ℤ c.y; back = index - s.mark } ≡ w = cc in
      let ex : m.x -ℤ c.x ≡ w.x = ap (λ (v : Written). v.x) same in
      let ey : m.y -ℤ c.y ≡ w.y = ap (λ (v : Written). v.y) same in
      let ed : index - s.mark ≡ w.back = ap (λ (v : Written). v.back) same in
      record {
        marked-x = m.x;
        marked-y = m.y;
        current-x = c.x;
        current-y = c.y;
        of_mark = p;
        of_current = q;
        x_is = sym ex;
        y_is = sym ey;
        x-small = subst (λ (z : ℤ). nat_abs z ≤ 65535) ex (size_difference m.x c.x i.0 j.0);
        y-small = subst (λ (z : ℤ). nat_abs z ≤ 65535) ey (size_difference m.y c.y i.1 j.1);
        back_is = sym ed;
        near = omega (arith, ltb-true (index - s.mark) 255 l, ed);
      }
  both-there m c p q false l e = nothing e

  by_points : {w : Written} (m n : Option Point) → point_of reading ankr s.glyph mark ≡ m → point_of reading ankr glyph current ≡ n → offset m n (index - s.mark) ≡ Some w → IsExact w
  unfolding offset
  by_points (Some m) (Some c) p q e = both-there m c p q (ltb (index - s.mark) 255) refl e
  by_points (Some m) None p q e = nothing e
  by_points None n p q e = nothing e

  written-exact : {w : Written} → written_by ankr reading s index glyph (Numbers'.At mark current) ≡ Some w → IsExact w
  unfolding written_by
  written-exact e = by_points (point_of reading ankr s.glyph mark) (point_of reading ankr glyph current) refl refl e

  pub offset-exact : {x y : ℤ} {back : ℕ} → written_by ankr reading s index glyph (Numbers'.At mark current) ≡ Some (record { x = x; y = y; back = back })
      → Exact ankr reading s index glyph mark current x y back
  offset-exact e = written-exact e

-- each of some writes, and each of others behind them
pub each_append : (holds : Write → Type 0) (first later : List Write) → EachWrite holds first → EachWrite holds later → EachWrite holds (first ++ later)
each_append holds [] later e f = f
each_append holds (w ∷ first) later e f = (e.0, each_append holds first later e.1 f)

-- the mark at a later place
has-later : {glyphs : List ℕ} {place later : ℕ} {s : AnchorState} → HasMark glyphs place s → place ≤ later → HasMark glyphs later s
has-later m h = record { behind = omega (arith, m.behind); on = m.on }

-- a step at a place: its mark, and what it writes
module _ (ankr : List ℕ) (reading : Reading) (glyphs : List ℕ) (used place : ℕ) where
  abbrev glyph : ℕ
  glyph = get_or glyphs place 0

  abbrev Fine : List Write → Type 0
  Fine = EachWrite (ExactWrite ankr reading glyphs used)

  record Keeps (step : AnchorStep) : Type 0 where
    pub has : HasMark glyphs place step.state
    pub each : Fine (writes_at used place step.written)

  marked-has : (s : AnchorState) (entry : Entry) → HasMark glyphs place s → HasMark glyphs place (marked s entry place glyph)
  unfolding marked
  marked-has s entry m = go (is_set entry.flags 0x8000)
    where
      go : (t : Bool)
          → HasMark glyphs place (record { state = entry.state; mark = cond t place s.mark; glyph = cond t glyph s.glyph; cycles = s.cycles })
      go true = record { behind = omega arith; on = inl refl }
      go false = record { behind = m.behind; on = m.on }

  written-each : (s : AnchorState) (numbers : Numbers) → HasMark glyphs place s → Fine (writes_at used place (written_by ankr reading s place glyph numbers))
  unfolding written_by writes_at
  written-each s Numbers'.None m = tt
  written-each s Numbers'.Short m = tt
  written-each s (Numbers'.At mark current) m = go (written_by ankr reading s place glyph (Numbers'.At mark current)) refl
    where
      here : (w : Written) → written_by ankr reading s place glyph (Numbers'.At mark current) ≡ Some w → (t : Bool) → ltb place used ≡ t
          → Fine (cond t (record { place = place; x = w.x; y = w.y; back = w.back } ∷ []) [])
      here w e true l = (
        record {
          inside = ltb-true place used l;
          state = s;
          has = m;
          mark = mark;
          current = current;
          exact = written-exact ankr reading s place glyph mark current e;
        },
        tt,
      )
      here w e false l = tt

      go : (w : Option Written) → written_by ankr reading s place glyph (Numbers'.At mark current) ≡ w → Fine (writes_at used place w)
      go None e = tt
      go (Some w) e = here w e (ltb place used) refl

  stopped_keeps : (s : AnchorState) → HasMark glyphs place s → Keeps (stopped s Answer'.Ended)
  unfolding writes_at
  stopped_keeps s m = record { has = m; each = tt }

  settled_keeps : (s : AnchorState) (stays : Bool) (numbers : Numbers) → HasMark glyphs place s → Keeps (settled_by ankr reading s stays place glyph numbers)
  unfolding settled_by settled
  settled_keeps s stays numbers m = go (are_short numbers)
    where
      go : (t : Bool) → Keeps (cond t (stopped s Answer'.Ended) (settled s stays (written_by ankr reading s place glyph numbers)))
      go true = stopped_keeps s m
      go false = record { has = record { behind = m.behind; on = m.on }; each = written-each s numbers m }

-- a pass
module _ (classes : ℕ → ℕ) (ankr bytes : List ℕ) (anchoring : Anchoring) (glyphs : List ℕ) (used : ℕ) where
  abbrev step_of : AnchorState → ℕ → AnchorStep
  step_of = step_at classes ankr bytes anchoring glyphs used

  abbrev Fine' : List Write → Type 0
  Fine' = EachWrite (ExactWrite ankr anchoring.reading glyphs used)

  abbrev from : ℕ → AnchorState → ℕ → Anchored
  from = pass_from classes ankr bytes anchoring glyphs used

  step_keeps : (s : AnchorState) (i : ℕ) → HasMark glyphs i s → Keeps ankr anchoring.reading glyphs used i (step_of s i)
  unfolding acted
  step_keeps s i m = go (entry_of bytes anchoring.states s.state (classes (get_or glyphs i 0)) 2) refl
    where
      go : (e : Option Entry) → entry_of bytes anchoring.states s.state (classes (get_or glyphs i 0)) 2 ≡ e → Keeps ankr anchoring.reading glyphs used i (step_of s i)
      go (Some entry) f =
          subst (Keeps ankr anchoring.reading glyphs used i) (next_acts classes ankr bytes anchoring s i (get_or glyphs i 0) refl refl f)
          (settled_keeps ankr anchoring.reading glyphs used i (marked s entry i (get_or glyphs i 0)) (is_set entry.flags 0x4000)
          (numbers_of bytes anchoring (u16_at bytes entry.payload)) (marked-has ankr anchoring.reading glyphs used i s entry m))
      go None f =
          subst (Keeps ankr anchoring.reading glyphs used i) (next_ended classes ankr bytes anchoring s i (get_or glyphs i 0) refl refl f) (stopped_keeps ankr anchoring.reading glyphs used i s m)

  -- a turn, if those behind it are fine
  turn_fine : (turns : ℕ) (s : AnchorState) (i : ℕ) → HasMark glyphs i s
      → ((s' : AnchorState) (i' : ℕ) → HasMark glyphs i' s' → Fine' (from turns s' i').writes) → Fine' (from (suc turns) s i).writes
  turn_fine turns s i m later =
      let k = step_keeps s i m in
      ⊎_elim
      (λ (h : i < used). go k h (is_done (step_of s i).answer) refl)
      (λ (h : used ≤ i).
      subst (λ (r : Anchored). Fine' r.writes) (sym (turn_ends classes ankr bytes anchoring glyphs used turns s i h)) tt)
      (lt-or-ge i used)
    where
      go : Keeps ankr anchoring.reading glyphs used i (step_of s i) → i < used → (t : Bool) → is_done (step_of s i).answer ≡ t → Fine' (from (suc turns) s i).writes
      go k h true e =
          subst (λ (r : Anchored). Fine' r.writes) (sym (turn_goes classes ankr bytes anchoring glyphs used turns s i h e))
          (each_append (ExactWrite ankr anchoring.reading glyphs used) (writes_at used i (step_of s i).written) (from turns (step_of s i).state (i + (step_of s i).advance)).writes k.each
          (later (step_of s i).state (i + (step_of s i).advance) (has-later k.has (omega arith))))
      go k h false e =
          subst (λ (r : Anchored). Fine' r.writes) (sym (turn_stops classes ankr bytes anchoring glyphs used turns s i h e)) k.each

  from_fine : (turns : ℕ) (s : AnchorState) (i : ℕ) → HasMark glyphs i s → Fine' (from turns s i).writes
  unfolding pass_from
  from_fine zero s i m = tt
  from_fine (suc turns) s i m = turn_fine turns s i m (from_fine turns)

-- each write of a pass is exact
pub pass-exact : (ankr bytes : List ℕ) (anchoring : Anchoring) (glyphs : List ℕ) (used : ℕ)
    → EachWrite (ExactWrite ankr anchoring.reading glyphs used) (passed ankr bytes anchoring glyphs used).writes
unfolding passed passed_by
pass-exact ankr bytes anchoring glyphs used =
    from_fine (own_classes bytes anchoring) ankr bytes anchoring glyphs used (rest used fresh 0) fresh 0
    (record { behind = omega arith; on = inr (refl, refl) })
