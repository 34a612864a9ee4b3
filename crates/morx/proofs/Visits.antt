-- A pass on the turned line, and the visit of a head.
use Prim.Native.Nat.{ℕ}
use mathlib.Core.Path.{◌≡◌, refl, sym, ◌∙◌, ap, subst⁻¹}
use mathlib.Core.Bool.{Bool, true, false}
use mathlib.Core.List.{List, [], ◌∷◌}
use lib.ListN.{drop}
use Rattle.answers.specs.declared.Answer.{Answer}
use Rattle.answers.specs.declared.Answer.TheVariants as Answer'
use Rattle.laws.specs.Backward.{backward}
use Rattle.line.specs.Line.{Line, line_of, Valid}
use Rattle.line.specs.Test.{is_valid}
use Rattle.line.specs.Changes.{Change, apply, apply_all}
use Rattle.line.specs.History.{Fits}
use Rattle.line.proofs.Applied.{applied_reversal}
use Rattle.line.proofs.Histories.{apply_all-append}
use Rattle.machine.specs.Pass.{Passed}
use Rattle.machine.proofs.Quiet.{quiet_none, quiet_fits}
use Rattle.chains.specs.Orders.{is_reversed}
use Rattle.chains.specs.declared.Subtable.{Subtable}
use Rattle.chains.specs.declared.Head.{Head}
use Rattle.chains.specs.declared.Head.TheVariants as Head'
use Rattle.morx.specs.Kinds.{kind_of, subtable_of_kind}
use Rattle.morx.specs.Run.{is_passed_over, idle, turned_work, settled_answer, settled, visit_subtable, visit}
use Rattle.morx.specs.declared.Kind.{Kind}
use Rattle.morx.specs.declared.Choices.{Choices}
use Rattle.morx.specs.declared.PassReply.{PassReply}
use Rattle.morx.specs.Work.{Leaves}
use Rattle.morx.proofs.Leaves.{valid-after, fits_then, valid_line, line-valid, turning_fits, valid-turned}
use Rattle.morx.proofs.Machines.{worked-fits}

-- the line that was turned
module _ (glyphs tags homes : List ℕ) (used : ℕ) {glyphs₁ tags₁ : List ℕ} (g : glyphs₁ ≡ backward used glyphs) (t : tags₁ ≡ backward used tags) where
  turned-line : line_of glyphs₁ tags₁ homes used ≡ apply Change.reversal (line_of glyphs tags homes used)
  turned-line = applied_reversal glyphs tags homes used g t

  pub turned_valid : is_valid (line_of glyphs tags homes used) ≡ true → is_valid (line_of glyphs₁ tags₁ homes used) ≡ true
  turned_valid v = line-valid turned-line (valid-turned (line_of glyphs tags homes used) (valid_line v))

module _ (turned : Bool) (kind : Kind) (bytes glyphs tags homes : List ℕ) (used : ℕ) where
  abbrev line : Line
  line = line_of glyphs tags homes used

  pub straight : {reply : PassReply} {glyphs' tags' homes' : List ℕ} → turned ≡ false → Leaves ((subtable_of_kind kind).worked bytes line) line reply glyphs' tags' homes'
      → Leaves (turned_work turned kind bytes line) line reply glyphs' tags' homes'
  unfolding turned_work
  straight {reply} {glyphs'} {tags'} {homes'} e left =
      subst⁻¹ (λ (t : Bool). Leaves (turned_work t kind bytes line) line reply glyphs' tags' homes') e left

  module _ (v : is_valid line ≡ true) {glyphs₁ tags₁ : List ℕ} (g : glyphs₁ ≡ backward used glyphs) (t : tags₁ ≡ backward used tags) where
    -- and worked on
    module _ {reply : PassReply} {glyphs₂ tags₂ homes₂ : List ℕ}
        (left : Leaves ((subtable_of_kind kind).worked bytes (line_of glyphs₁ tags₁ homes used)) (line_of glyphs₁ tags₁ homes used) reply glyphs₂ tags₂ homes₂) where
      worked-line : line_of glyphs₂ tags₂ homes₂ reply.used ≡ apply_all ((subtable_of_kind kind).worked bytes (apply Change.reversal line)).changes (apply Change.reversal line)
      worked-line = left.line ∙ ap (λ (x : Line). apply_all ((subtable_of_kind kind).worked bytes x).changes x) (turned-line glyphs tags homes used g t)

      pub worked_valid : is_valid (line_of glyphs₂ tags₂ homes₂ reply.used) ≡ true
      worked_valid =
          line-valid worked-line
          (valid-after _ (apply Change.reversal line) (valid-turned line (valid_line v)) (worked-fits kind bytes _ (valid-turned line (valid_line v))))

      pub turned_back : {glyphs₃ tags₃ : List ℕ} → turned ≡ true → glyphs₃ ≡ backward reply.used glyphs₂ → tags₃ ≡ backward reply.used tags₂
          → Leaves (turned_work turned kind bytes line) line reply glyphs₃ tags₃ homes₂
      unfolding turned_work apply_all
      turned_back {glyphs₃} {tags₃} e g₃ t₃ =
          let made : List Change = ((subtable_of_kind kind).worked bytes (apply Change.reversal line)).changes in
          subst⁻¹ (λ (x : Bool). Leaves (turned_work x kind bytes line) line reply glyphs₃ tags₃ homes₂) e
          (record {
            answers = left.answers ∙ ap (λ (x : Line). ((subtable_of_kind kind).worked bytes x).answer) (turned-line glyphs tags homes used g t);
            line =
                applied_reversal glyphs₂ tags₂ homes₂ reply.used g₃ t₃
                ∙ ap (apply Change.reversal) worked-line
                ∙ sym (apply_all-append (Change.reversal ∷ made) (Change.reversal ∷ []) line);
          })

-- on every valid line the turned pass fits
pub turned-fits : (turned : Bool) (kind : Kind) (bytes : List ℕ) (l : Line) → Valid l → Fits (turned_work turned kind bytes l).changes l
unfolding turned_work apply_all
turned-fits false kind bytes l v = worked-fits kind bytes l v
turned-fits true kind bytes l v =
    let made : List Change = ((subtable_of_kind kind).worked bytes (apply Change.reversal l)).changes in
    let v₁ = valid-turned l v in
    let f₁ = worked-fits kind bytes (apply Change.reversal l) v₁ in
    let f₂ : Fits (Change.reversal ∷ made) l = fits_then (Change.reversal ∷ []) l v (turning_fits l v) made f₁ in
    fits_then (Change.reversal ∷ made) l v f₂ (Change.reversal ∷ []) (turning_fits (apply_all made (apply Change.reversal l)) (valid-after made (apply Change.reversal l) v₁ f₁))

-- a line that nothing is done to
still : (l : Line) → Leaves idle l (record { answer = Answer'.Done; used = l.used }) l.glyphs l.tags l.homes
unfolding apply_all
still l = record { answers = refl; line = refl }

module _ (table : List ℕ) (choices : Choices) (flags : ℕ) (s : Subtable) (l : Line) {bytes : List ℕ} {over : Bool} (b : bytes ≡ drop s.place table)
    (o : over ≡ is_passed_over choices.edition flags s bytes) where
  over_is : is_passed_over choices.edition flags s (drop s.place table) ≡ over
  over_is = sym (o ∙ ap (is_passed_over choices.edition flags s) b)

  pub visit_over : over ≡ true → Leaves (visit_subtable table choices flags s l) l (record { answer = Answer'.Done; used = l.used }) l.glyphs l.tags l.homes
  unfolding visit_subtable
  visit_over e =
      let r : visit_subtable table choices flags s l ≡ idle = rw (over_is ∙ e, visit_subtable) in
      subst⁻¹ (λ (p : Passed). Leaves p l (record { answer = Answer'.Done; used = l.used }) l.glyphs l.tags l.homes) r (still l)

  pub visit_worked : {turned : Bool} {kind : Kind} {reply : PassReply} {answer : Answer} {glyphs tags homes : List ℕ} → over ≡ false
      → turned ≡ is_reversed s.order choices.right_to_left → kind ≡ kind_of choices.edition s.kind → Leaves (turned_work turned kind bytes l) l reply glyphs tags homes
      → answer ≡ settled_answer reply.answer
      → Leaves (visit_subtable table choices flags s l) l (record { answer = answer; used = reply.used }) glyphs tags homes
  unfolding visit_subtable
  visit_worked {turned} {kind} {reply} {answer} {glyphs} {tags} {homes} e t k left a =
      let work : Passed = turned_work (is_reversed s.order choices.right_to_left) (kind_of choices.edition s.kind) (drop s.place table) l in
      let r : visit_subtable table choices flags s l ≡ settled work = rw (over_is ∙ e, visit_subtable) in
      let w : turned_work turned kind bytes l ≡ work =
      ap (λ (x : Bool). turned_work x kind bytes l) t
      ∙ ap (λ (x : Kind). turned_work (is_reversed s.order choices.right_to_left) x bytes l) k
      ∙ ap (λ (x : List ℕ). turned_work (is_reversed s.order choices.right_to_left) (kind_of choices.edition s.kind) x l) b in
      subst⁻¹ (λ (p : Passed). Leaves p l (record { answer = answer; used = reply.used }) glyphs tags homes) r
      (record {
        answers = a ∙ ap settled_answer (left.answers ∙ ap (λ (p : Passed). p.answer) w);
        line = left.line ∙ ap (λ (p : Passed). apply_all p.changes l) w;
      })

module _ (table : List ℕ) (choices : Choices) (flags : ℕ) (l : Line) where
  over-fits : (s : Subtable) → Valid l → is_passed_over choices.edition flags s (drop s.place table) ≡ true → Fits (visit_subtable table choices flags s l).changes l
  unfolding visit_subtable
  over-fits s v e = rw (e, visit_subtable) (quiet_fits [] l v quiet_none)

  work-fits : (s : Subtable) → Valid l → is_passed_over choices.edition flags s (drop s.place table) ≡ false → Fits (visit_subtable table choices flags s l).changes l
  unfolding visit_subtable
  work-fits s v e =
      rw (e, visit_subtable) (turned-fits (is_reversed s.order choices.right_to_left) (kind_of choices.edition s.kind) (drop s.place table) l v)

  pub visit-fits : (head : Head) → Valid l → Fits (visit table choices flags head l).changes l
  unfolding visit
  visit-fits (Head'.Chain chain) v = quiet_fits [] l v quiet_none
  visit-fits (Head'.Subtable s) v = go (is_passed_over choices.edition flags s (drop s.place table)) refl
    where
      go : (b : Bool) → is_passed_over choices.edition flags s (drop s.place table) ≡ b → Fits (visit_subtable table choices flags s l).changes l
      go true e = over-fits s v e
      go false e = work-fits s v e

  module _ (head : Head) where
    pub visit_chain : {c : _} → head ≡ Head'.Chain c
        → Leaves (visit table choices flags head l) l (record { answer = Answer'.Done; used = l.used }) l.glyphs l.tags l.homes
    unfolding visit
    visit_chain {c} e =
        subst⁻¹ (λ (h : Head). Leaves (visit table choices flags h l) l (record { answer = Answer'.Done; used = l.used }) l.glyphs l.tags l.homes) e (still l)

    pub visit_sub : {s : Subtable} {reply : PassReply} {glyphs tags homes : List ℕ} → head ≡ Head'.Subtable s
        → Leaves (visit_subtable table choices flags s l) l reply glyphs tags homes → Leaves (visit table choices flags head l) l reply glyphs tags homes
    unfolding visit
    visit_sub {s} {reply} {glyphs} {tags} {homes} e left =
        subst⁻¹ (λ (h : Head). Leaves (visit table choices flags h l) l reply glyphs tags homes) e left
