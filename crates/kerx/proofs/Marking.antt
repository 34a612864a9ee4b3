-- The loop of a run with the three slices beside the adjustments: what is written so far, and what the subtables ahead write.
use Rattle.std.specs.Prelude.{Option, Some, None}
use Prim.Native.Nat.{ℕ, zero, suc, ◌+◌, ◌-◌, ◌<◌, ◌≤◌, ◌^◌}
use mathlib.Core.Path.{◌≡◌, refl, sym, ◌∙◌, ap, ap₂, subst}
use mathlib.Core.Bool.{Bool}
use mathlib.Core.List.{List, [], ◌∷◌, ◌++◌, append_assoc, append-nil}
use native.Mathlib.Omega.{arith}
use lib.IntN.{ℤ, pos}
use lib.ListN.{length, take}
use Rattle.laws.specs.Backward.{backward}
use Rattle.laws.proofs.Backward.{length-backward}
use Rattle.laws.proofs.Lists.{length-tab}
use Rattle.answers.specs.Limits.{room_limit, head_limit}
use Rattle.kerning.specs.Additions.{add_all}
use Rattle.kerning.specs.Bounds.{Within}
use Rattle.kerning.specs.declared.choices.Choices.{Choices}
use Rattle.anchor_machine.specs.Writes.{Write, write_x, write_y, write_back}
use Rattle.anchor_machine.proofs.Writing.{Wrote, wrote_none, wrote_more, wrote_long}
use Rattle.kerning_lists.specs.Walk.{heads_from, visited}
use Rattle.kerning_lists.specs.Run.{zeros, contribution}
use Rattle.kerning_lists.specs.Family.{head_at, walk_of, adds}
use Rattle.kerning_lists.specs.declared.ListHead.{ListHead}
use Rattle.kerning_lists.specs.declared.Subtable.{Subtable}
use Rattle.kerning_lists.proofs.Runs.{run_small}
use Rattle.kerning_lists.proofs.Turns.{length-zeros}
use Rattle.kerx.specs.Heads.{list_of}
use Rattle.kerx.specs.Kerx.{kerx}
use Rattle.kerx.specs.Lent.{Lent}
use Rattle.kerx.specs.Anchored.{worked_with, turned_marks, marking, markings, marks, run_marks, nones}
use Rattle.kerx.proofs.Goes.{Going, going_start, going_next}
use Rattle.kerx.proofs.Written.{none_written, turned-back}

-- the three slices a run is lent
module _ {used : ℕ} {x y : List ℤ} {back : List ℕ} (l : Lent used x y back) where
  some-y : 0 < length y → length y ≡ used
  some-y h = l.long-y ∙ l.some (omega (arith, l.long-y))

  some_back : 0 < length back → length back ≡ used
  some_back h = l.long-back ∙ l.some (omega (arith, l.long-back))

  -- too short, they are empty, and nothing can be written
  pub lent_none : (ws : List Write) → length x < used → Wrote ws x y back x y back
  lent_none ws h =
      record {
        xs = none_written (pos 0) (λ (w : Write). w.x) used (λ w. refl) ws x l.some h;
        ys = none_written (pos 0) (λ (w : Write). w.y) used (λ w. refl) ws y some-y (omega (arith, l.long-y));
        backs = none_written 0 (λ (w : Write). w.back) used (λ w. refl) ws back some_back (omega (arith, l.long-back));
      }

  pub lent_long : used ≤ length x → (used ≤ length x) × (used ≤ length y) × (used ≤ length back)
  lent_long h = (h, omega (arith, l.long-y), omega (arith, l.long-back))

  -- others as long are lent as well
  pub lent_same : {x' y' : List ℤ} {back' : List ℕ} → length x' ≡ length x → length y' ≡ length y → length back' ≡ length back → Lent used x' y' back'
  lent_same {x'} {y'} {back'} i j k =
      record {
        long-y = j ∙ l.long-y ∙ sym i;
        long-back = k ∙ l.long-back ∙ sym i;
        some = λ h. i ∙ l.some (omega (arith, i));
      }

  pub lent_wrote : {ws : List Write} {x' y' : List ℤ} {back' : List ℕ} → Wrote ws x y back x' y' back' → Lent used x' y' back'
  lent_wrote w = let n = wrote_long w in lent_same n.0 n.1 n.2

  -- turned round
  module _ {x₁ y₁ : List ℤ} {back₁ : List ℕ} (i : x₁ ≡ backward (length x) x) (j : y₁ ≡ backward (length y) y) (k : back₁ ≡ backward (length back) back) where
    pub lent_turned : Lent used x₁ y₁ back₁
    lent_turned =
        lent_same (ap length i ∙ length-backward (pos 0) (length x) x (omega arith)) (ap length j ∙ length-backward (pos 0) (length y) y (omega arith))
        (ap length k ∙ length-backward 0 (length back) back (omega arith))

    -- written to, and turned back
    pub marked-back : (ankr part : List ℕ) (version format : ℕ) (glyphs : List ℕ) (choices : Choices) {turned : List ℕ} {x₂ y₂ x₃ y₃ : List ℤ} {back₂ back₃ : List ℕ}
        → turned ≡ backward used glyphs → Wrote (worked_with ankr part version format turned used choices).writes x₁ y₁ back₁ x₂ y₂ back₂
        → x₃ ≡ backward (length x₂) x₂ → y₃ ≡ backward (length y₂) y₂ → back₃ ≡ backward (length back₂) back₂
        → Wrote (turned_marks used (worked_with ankr part version format (backward used glyphs) used choices).writes) x y back x₃ y₃ back₃
    marked-back ankr part version format glyphs choices {turned} {x₂} {y₂} {x₃} {y₃} {back₂} {back₃} g w a b c =
        let all : List Write = (worked_with ankr part version format (backward used glyphs) used choices).writes in
        let v : Wrote all x₁ y₁ back₁ x₂ y₂ back₂ =
        subst (λ (gs : List ℕ). Wrote (worked_with ankr part version format gs used choices).writes x₁ y₁ back₁ x₂ y₂ back₂) g w in
        record {
          xs = turned-back (pos 0) (λ (w : Write). w.x) used (λ w. refl) all x l.some i v.xs a;
          ys = turned-back (pos 0) (λ (w : Write). w.y) used (λ w. refl) all y some-y j v.ys b;
          backs = turned-back 0 (λ (w : Write). w.back) used (λ w. refl) all back some_back k v.backs c;
        }

-- what is ahead of a walk, of which so many heads are read
module _ (head_at : ℕ → Option Subtable) where
  abbrev ahead : (read left at : ℕ) → List Subtable
  ahead read left at = take (head_limit - read) (heads_from head_at left at)

  ahead_next : (read left next at : ℕ) {s : Subtable} → next + 1 ≡ left → head_at at ≡ Some s → read < head_limit → ahead read left at ≡ s ∷ ahead (read + 1) next s.next
  unfolding heads_from
  ahead_next read zero next at h e k = absurd (omega arith)
  ahead_next read (suc left) next at {s} h e k =
      let n : head_limit - read ≡ suc (head_limit - (read + 1)) = omega arith in
      let m : left ≡ next = omega arith in
      rw (e, n, m, heads_from)

  take_none : (m : ℕ) → take {A = Subtable} m [] ≡ []
  take_none zero = refl
  take_none (suc m) = refl

  ahead_limit : (read left at : ℕ) → read ≡ head_limit → ahead read left at ≡ []
  ahead_limit read left at e = let n : head_limit - read ≡ 0 = omega arith in ap (λ (m : ℕ). take m (heads_from head_at left at)) n

  ahead_cut : (read left at : ℕ) → head_at at ≡ None → ahead read left at ≡ []
  unfolding heads_from
  ahead_cut read zero at e = take_none (head_limit - read)
  ahead_cut read (suc left) at e = rw (e, heads_from) (take_none (head_limit - read))

  ahead_done : (read left at : ℕ) → left ≤ 0 → ahead read left at ≡ []
  unfolding heads_from
  ahead_done read left at h = let z : left ≡ 0 = omega arith in ap (λ (n : ℕ). ahead read n at) z ∙ take_none (head_limit - read)

module _ (ankr bytes : List ℕ) (list : ListHead) (rtl : Bool) (glyphs : List ℕ) (used : ℕ) (choices : Choices) (x₀ y₀ : List ℤ) (back₀ : List ℕ) where
  abbrev heads : ℕ → Option Subtable
  heads = head_at kerx rtl bytes list.version

  abbrev whole : List Subtable
  whole = heads_from heads list.count list.first

  abbrev work : Subtable → List ℕ → List Write
  work = marks ankr bytes list.version used choices

  -- what is written so far, with what is ahead, is what the whole walk writes
  pub record Marking (x y : List ℤ) (back : List ℕ) (read left at : ℕ) : Type 0 where
    pub done : List Write
    pub wrote : Wrote done x₀ y₀ back₀ x y back
    pub all : done ++ markings work glyphs used (ahead heads read left at) ≡ markings work glyphs used (visited whole)

  pub marking-start : Marking x₀ y₀ back₀ 0 (list.count - 0) list.first
  unfolding visited
  marking-start =
      record {
        done = [];
        wrote = wrote_none x₀ y₀ back₀;
        all = ap₂ (λ (m n : ℕ). markings work glyphs used (take m (heads_from heads n list.first))) (omega arith) (omega arith);
      }

  module _ {x y : List ℤ} {back : List ℕ} {read left at : ℕ} (m : Marking x y back read left at) where
    pub marking-next : {s : Subtable} {x' y' : List ℤ} {back' : List ℕ} (next : ℕ) → next + 1 ≡ left → heads at ≡ Some s → read < head_limit
        → Wrote (marking work glyphs used s) x y back x' y' back' → Marking x' y' back' (read + 1) next s.next
    unfolding markings
    marking-next {s} next h e k w =
        let rest : List Write = markings work glyphs used (ahead heads (read + 1) next s.next) in
        record {
          done = m.done ++ marking work glyphs used s;
          wrote = wrote_more m.wrote w;
          all =
              append_assoc m.done (marking work glyphs used s) rest
              ∙ ap (λ (ss : List Subtable). m.done ++ markings work glyphs used ss) (sym (ahead_next heads read left next at h e k))
              ∙ m.all;
        }

    ends : ahead heads read left at ≡ [] → Wrote (markings work glyphs used (visited whole)) x₀ y₀ back₀ x y back
    unfolding markings
    ends e =
        let d : m.done ≡ markings work glyphs used (visited whole) =
        sym (append-nil m.done) ∙ ap (λ (ss : List Subtable). m.done ++ markings work glyphs used ss) (sym e) ∙ m.all in
        subst (λ (ws : List Write). Wrote ws x₀ y₀ back₀ x y back) d m.wrote

    pub marking-limit : read ≡ head_limit → Wrote (markings work glyphs used (visited whole)) x₀ y₀ back₀ x y back
    marking-limit e = ends (ahead_limit heads read left at e)

    pub marking-cut : heads at ≡ None → Wrote (markings work glyphs used (visited whole)) x₀ y₀ back₀ x y back
    marking-cut e = ends (ahead_cut heads read left at e)

    pub marking-done : left ≤ 0 → Wrote (markings work glyphs used (visited whole)) x₀ y₀ back₀ x y back
    marking-done h = ends (ahead_done heads read left at h)

-- the loop of a run: it goes on as one without the three slices does, and writes
module _ (ankr bytes : List ℕ) (list : ListHead) (rtl : Bool) (glyphs₀ tags₀ : List ℕ) (used : ℕ) (along₀ x₀ y₀ : List ℤ) (back₀ : List ℕ) (choices : Choices) where
  pub record GoingOn (glyphs tags : List ℕ) (along x y : List ℤ) (back : List ℕ) (read left at : ℕ) : Type 0 where
    pub plain : Going bytes list rtl glyphs₀ tags₀ used along₀ choices glyphs tags along read left at
    pub beside : Marking ankr bytes list rtl glyphs₀ used choices x₀ y₀ back₀ x y back read left at

  pub on-start : Within 0 along₀ → GoingOn glyphs₀ tags₀ along₀ x₀ y₀ back₀ 0 (list.count - 0) list.first
  on-start w =
      record {
        plain = going_start bytes list rtl glyphs₀ tags₀ used along₀ choices w;
        beside = marking-start ankr bytes list rtl glyphs₀ used choices x₀ y₀ back₀;
      }

  pub on-next : {glyphs tags glyphs' tags' : List ℕ} {along x y after x' y' : List ℤ} {back back' : List ℕ} {read left at : ℕ} {s : Subtable} (next : ℕ)
      → GoingOn glyphs tags along x y back read left at → used ≤ room_limit → used ≤ length along₀ → next + 1 ≡ left → head_at kerx rtl bytes list.version at ≡ Some s → read < head_limit
      → glyphs' ≡ glyphs → tags' ≡ tags → after ≡ add_all (contribution (adds kerx bytes list.version used choices) glyphs used s) along
      → Wrote (marking (marks ankr bytes list.version used choices) glyphs used s) x y back x' y' back'
      → GoingOn glyphs' tags' after x' y' back' (read + 1) next s.next
  on-next {x = x} {y = y} {x' = x'} {y' = y'} {back = back} {back' = back'} {s = s} next g small fits h e k p q a w =
      record {
        plain = going_next bytes list rtl glyphs₀ tags₀ used along₀ choices next g.plain small fits h e k p q a;
        beside =
            marking-next ankr bytes list rtl glyphs₀ used choices x₀ y₀ back₀ g.beside next h e k
            (subst (λ (gs : List ℕ). Wrote (marking (marks ankr bytes list.version used choices) gs used s) x y back x' y' back') g.plain.same_glyphs w);
      }

  -- what a visit asks for
  pub on_ready : {glyphs tags : List ℕ} {along x y : List ℤ} {back : List ℕ} {read left at : ℕ} → GoingOn glyphs tags along x y back read left at
      → used ≤ length glyphs₀ → used ≤ length tags₀ → used ≤ length along₀ → used ≤ room_limit → Lent used x₀ y₀ back₀
      → (used ≤ length glyphs) × (used ≤ length tags) × (used ≤ length along) × (used ≤ room_limit) × Within (2 ^ 60) along × Lent used x y back
  on_ready g h i j k l = (
    omega (arith, h, ap length g.plain.same_glyphs),
    omega (arith, i, ap length g.plain.same_tags),
    omega (arith, j, g.plain.running.long),
    k,
    run_small g.plain.running.within g.plain.running.small,
    lent_wrote l g.beside.wrote,
  )

-- the three slices zeroed, in a run over so many zeroed adjustments
pub zeroed_lent : {n : ℕ} {x y : List ℤ} {back : List ℕ} {along x₁ y₁ : List ℤ} {back₁ : List ℕ} → Lent n x y back → along ≡ zeros n → x₁ ≡ zeros (length x)
    → y₁ ≡ zeros (length y) → back₁ ≡ nones (length back) → Lent (length along) x₁ y₁ back₁
unfolding nones
zeroed_lent {n} {x} {y} {back} {along} {x₁} {y₁} {back₁} l a i j k =
    subst (λ (m : ℕ). Lent m x₁ y₁ back₁) (sym (ap length a ∙ length-zeros n))
    (lent_same l (ap length i ∙ length-zeros (length x)) (ap length j ∙ length-zeros (length y)) (ap length k ∙ length-tab (λ p. 0) (length back)))

-- no slices at all
pub lent_empty : (used : ℕ) {x y : List ℤ} {back : List ℕ} → length x ≡ 0 → length y ≡ 0 → length back ≡ 0 → Lent used x y back
lent_empty used i j k = record { long-y = j ∙ sym i; long-back = k ∙ sym i; some = λ h. absurd (omega (arith, i)) }

-- what a run writes over its list
pub run-marks : (ankr bytes : List ℕ) (rtl : Bool) (glyphs : List ℕ) (n : ℕ) (choices : Choices) {list : ListHead} {used : ℕ} {x₀ y₀ x y : List ℤ} {back₀ back : List ℕ}
    (i j k : ℕ) → x₀ ≡ zeros i → y₀ ≡ zeros j → back₀ ≡ nones k → used ≡ n → list ≡ list_of bytes
    → Wrote (markings (marks ankr bytes list.version used choices) glyphs used (visited (heads_from (head_at kerx rtl bytes list.version) list.count list.first))) x₀ y₀ back₀ x y back
    → Wrote (run_marks ankr bytes rtl glyphs n choices) (zeros i) (zeros j) (nones k) x y back
unfolding run_marks walk_of
run-marks ankr bytes rtl glyphs n choices {list} {used} {x₀} {y₀} {x} {y} {back₀} {back} i j k a b c u l w =
    let d =
    ap₂ (λ (h : ListHead) (m : ℕ). markings (marks ankr bytes h.version m choices) glyphs m (visited (heads_from (head_at kerx rtl bytes h.version) h.count h.first))) l u in
    record {
      xs = w.xs ∙ ap₂ write_x d a;
      ys = w.ys ∙ ap₂ write_y d b;
      backs = w.backs ∙ ap₂ write_back d c;
    }
