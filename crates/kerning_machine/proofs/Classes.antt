-- The class table that a pass opens gives the machine's own classes.
use Prim.Native.Nat.{ℕ}
use mathlib.Core.Path.{◌≡◌, refl, sym, ◌∙◌, ap, ap₂, subst⁻¹}
use mathlib.Core.Bool.{Bool}
use mathlib.Core.List.{List}
use lib.IntN.{ℤ}
use lib.ListN.{length}
use Rattle.answers.specs.declared.Answer.{Answer}
use Rattle.state_tables.specs.Classes.{class_of}
use Rattle.state_tables.specs.Opened.{opened_classes, byte_class_in, class_by, LiesIn, Remembers, nothing_found}
use Rattle.state_tables.specs.declared.Edition.{Edition}
use Rattle.state_tables.specs.declared.States.{States}
use Rattle.state_tables.specs.declared.opened.Classes.{Classes}
use Rattle.state_tables.specs.declared.opened.Classes.TheVariants.{Bytes}
use Rattle.state_tables.proofs.Openings.{classes-same, classes-lie, bytes-class, deleted-class, nothing_remembered}
use Rattle.kerning.specs.Additions.{Kerned, add_all}
use Rattle.indexes.specs.Index.{classes_by}
use Rattle.indexes.proofs.Laws.{no_index, opened-index}
use Rattle.kerning_machine.specs.Machine.{passed_by, passed_indexed}
use Rattle.kerning_machine.specs.Work.{kern_of}
use Rattle.kerning_machine.specs.declared.Kerning.{Kerning}
use Rattle.kerning_machine.specs.declared.Reading.{Reading}
use Rattle.kerning_machine.specs.declared.Reading.TheVariants.{Kern}
use Rattle.kerning_machine.proofs.Calls.{Works}

pub own-lies : (bytes : List ℕ) (edition : Edition) {table : Classes} → table ≡ opened_classes bytes edition → LiesIn bytes table
own-lies bytes edition e = subst⁻¹ (λ (t : Classes). LiesIn bytes t) e (classes-lie bytes edition)

module _ (bytes : List ℕ) (states : States) {table : Classes} (e : table ≡ opened_classes bytes states.edition) where
  pub own-bytes : {base first count : ℕ} → table ≡ Bytes base first count → byte_class_in bytes base first count ≡ class_of bytes states
  own-bytes {base} {first} {count} f = λ i glyph. (bytes-class bytes table base first count glyph f ∙ ap (λ (t : Classes). class_by bytes t glyph) e ∙ classes-same bytes states glyph) i

-- at first nothing is remembered
module _ (bytes : List ℕ) (table : Classes) where
  pub memory_start : {memo : List ℕ} → memo ≡ nothing_found → Remembers (class_by bytes table) memo
  memory_start e = subst⁻¹ (λ (m : List ℕ). Remembers (class_by bytes table) m) e (nothing_remembered (deleted-class bytes table))

-- the two passes are those of the machine
module _ (index bytes : List ℕ) (kerning : Kerning) (glyphs : List ℕ) (used : ℕ) (along : List ℤ) {table : Classes} {answer : Answer} {along' : List ℤ}
    (e : table ≡ opened_classes bytes kerning.states.edition) where
  own-pass : (classes : ℕ → ℕ) (reading : Reading) → classes ≡ classes_by index (class_of bytes kerning.states) → kerning.reading ≡ reading
      → answer ≡ (passed_by classes bytes (record { states = kerning.states; reading = reading }) glyphs used).answer
      → along' ≡ add_all (passed_by classes bytes (record { states = kerning.states; reading = reading }) glyphs used).additions along
      → Works (passed_indexed index bytes kerning glyphs used) along answer along'
  unfolding passed_indexed
  own-pass classes reading k r a b =
      let q : passed_by classes bytes (record { states = kerning.states; reading = reading }) glyphs used ≡ passed_by (classes_by index (class_of bytes kerning.states)) bytes kerning glyphs used =
      ap₂ (λ (c : ℕ → ℕ) (x : Reading). passed_by c bytes (record { states = kerning.states; reading = x }) glyphs used) k (sym r) in
      record { answers = a ∙ ap (λ (x : Kerned). x.answer) q; leaves = b ∙ ap (λ (x : Kerned). add_all x.additions along) q }

  pub kern_passes : {crossed : Bool} {base first count : ℕ} → length index ≡ 0 → table ≡ Bytes base first count → kerning.reading ≡ Kern crossed
      → answer ≡ (passed_by (byte_class_in bytes base first count) bytes (kern_of kerning.states crossed) glyphs used).answer
      → along' ≡ add_all (passed_by (byte_class_in bytes base first count) bytes (kern_of kerning.states crossed) glyphs used).additions along
      → Works (passed_indexed index bytes kerning glyphs used) along answer along'
  kern_passes {crossed} {base} {first} {count} z f r a b =
      own-pass (byte_class_in bytes base first count) (Kern crossed)
      (own-bytes bytes kerning.states e f ∙ sym (no_index index z (class_of bytes kerning.states))) r a b

  pub any_passes : answer ≡ (passed_by (classes_by index (class_by bytes table)) bytes kerning glyphs used).answer
      → along' ≡ add_all (passed_by (classes_by index (class_by bytes table)) bytes kerning glyphs used).additions along
      → Works (passed_indexed index bytes kerning glyphs used) along answer along'
  any_passes a b = own-pass (classes_by index (class_by bytes table)) kerning.reading (opened-index index bytes kerning.states e) refl a b
