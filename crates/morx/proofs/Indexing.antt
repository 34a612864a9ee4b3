-- A pass by an index: its tests, and what it answers and leaves.
use Rattle.std.specs.Prelude.{Result, Ok, Err}
use Prim.Native.Nat.{ℕ}
use mathlib.Core.Path.{◌≡◌, refl, sym, ◌∙◌, ap}
use mathlib.Core.Bool.{Bool, true, false}
use mathlib.Core.List.{List, [], ◌∷◌, ◌++◌}
use native.Mathlib.Omega.{arith}
use lib.ListN.{length, drop}
use Rattle.answers.specs.Refuse.{Test, refuse, table_test}
use Rattle.answers.specs.declared.Answer.TheVariants as Answer'
use Rattle.answers.specs.declared.Refusal.{Refusal}
use Rattle.answers.proofs.Refusals.{refuse-here, refuse-later, passed_here, passed_later}
use Rattle.line.specs.Line.{Line, Valid}
use Rattle.line.specs.Test.{is_valid, line_test}
use Rattle.line.specs.Changes.{apply_all}
use Rattle.line.specs.History.{Fits}
use Rattle.line.proofs.Exact.{of_valid}
use Rattle.machine.specs.Head.{body_of}
use Rattle.machine.specs.Pass as Pass
use Rattle.machine.specs.Call.{head_test, pass_tests, if_passed}
use Rattle.machine.specs.Machine.{refused_pass}
use Rattle.machine.proofs.Calls.{taken-line}
use Rattle.machine.proofs.Quiet.{quiet_none, quiet_fits}
use Rattle.indexes.specs.Index.{index_test, is_another}
use Rattle.chains.specs.declared.Edition.TheVariants.{Morx}
use Rattle.morx.specs.Kinds.{kind_at, subtable_of_kind, any_subtable}
use Rattle.morx.specs.Indexed.{indexed_of_kind, has_classes, indexed_tests, indexed_call}
use Rattle.morx.specs.declared.Kind.{Kind}
use Rattle.morx.specs.Work.{Leaves}
use Rattle.morx.specs.declared.PassReply.{PassReply}
use Rattle.morx.proofs.Machines.{indexed-fits}

-- tests behind others
refused_before : (ts us : List Test) {why : Refusal} → refuse ts ≡ Err why → refuse (ts ++ us) ≡ Err why
unfolding refuse
refused_before [] us e = let z : ◌≡◌ {A = ℕ} 0 1 = cc in absurd (omega arith)
refused_before (t ∷ ts) us {why} e = go (λ f. refused_before ts us f) t.holds refl
  where
    go : (refuse ts ≡ Err why → refuse (ts ++ us) ≡ Err why) → (b : Bool) → t.holds ≡ b → refuse (t ∷ (ts ++ us)) ≡ Err why
    go later true h = refuse-here t (ts ++ us) h ∙ sym (refuse-here t ts h) ∙ e
    go later false h = refuse-later t (ts ++ us) h ∙ later (sym (refuse-later t ts h) ∙ e)

passed-before : (ts us : List Test) → refuse ts ≡ Ok tt → refuse (ts ++ us) ≡ refuse us
passed-before [] us e = refl
passed-before (t ∷ ts) us e = refuse-later t (ts ++ us) (passed_here t ts e) ∙ passed-before ts us (passed_later t ts e)

-- what has passed them is a valid line
indexed-line : (n : ℕ) (l : Line) (opens : Bool) (entries : ℕ) (another : Bool) → refuse (indexed_tests n l opens entries another) ≡ Ok tt → Valid l
unfolding indexed_tests pass_tests
indexed-line n l opens entries another e = taken-line n l opens (go (refuse (pass_tests n l opens)) refl)
  where
    go : (c : Result Unit Refusal) → refuse (pass_tests n l opens) ≡ c → refuse (pass_tests n l opens) ≡ Ok tt
    go (Ok tt) f = f
    go (Err why) f =
        let q = refused_before (table_test n ∷ line_test l ∷ head_test opens ∷ []) (index_test entries another ∷ []) f in
        let z : ◌≡◌ {A = ℕ} 0 1 = cc in absurd (omega arith)

pub index_valid : (n : ℕ) (l : Line) (opens : Bool) (entries : ℕ) (another : Bool) {check : (Result Unit Refusal)} → check ≡ refuse (indexed_tests n l opens entries another)
    → check ≡ Ok tt → is_valid l ≡ true
index_valid n l opens entries another k e = of_valid l (indexed-line n l opens entries another (sym k ∙ e))

-- a call, by what its code has
module _ (table : List ℕ) (start : ℕ) (l : Line) (index : List ℕ) (class_start : ℕ) {bytes body : List ℕ} {kind : Kind} {has another opens : Bool} {check : (Result Unit Refusal)}
    (b : bytes ≡ drop start table) (d : kind ≡ kind_at Morx bytes) (w : body ≡ drop 12 bytes) (h : has ≡ has_classes kind)
    (a : another ≡ is_another has body start class_start) (o : opens ≡ (subtable_of_kind kind).is_open bytes)
    (k : check ≡ refuse (indexed_tests (length table) l opens (length index) another)) where
  abbrev there : List ℕ
  there = drop start table

  kind_there : kind ≡ kind_at Morx there
  kind_there = d ∙ ap (kind_at Morx) b

  opens-there : opens ≡ (any_subtable Morx).is_open there
  opens-there = o ∙ ap (λ (x : Kind). (subtable_of_kind x).is_open bytes) d ∙ ap (λ (x : List ℕ). (any_subtable Morx).is_open x) b

  another-there : another ≡ is_another (has_classes (kind_at Morx there)) (body_of there) start class_start
  another-there =
      a ∙ ap (λ (x : Bool). is_another x body start class_start) (h ∙ ap has_classes kind_there)
      ∙ ap (λ (x : List ℕ). is_another (has_classes (kind_at Morx there)) x start class_start) (w ∙ ap (drop 12) b)

  tested : refuse (indexed_tests (length table) l ((any_subtable Morx).is_open there) (length index) (is_another (has_classes (kind_at Morx there)) (body_of there) start class_start)) ≡ check
  tested =
      ap (λ (x : Bool). refuse (indexed_tests (length table) l x (length index) (is_another (has_classes (kind_at Morx there)) (body_of there) start class_start))) (sym opens-there)
      ∙ ap (λ (x : Bool). refuse (indexed_tests (length table) l opens (length index) x)) (sym another-there)
      ∙ sym k

  pub index_refused : {why : Refusal} → check ≡ Err why
      → Leaves (indexed_call table start l index class_start) l (record { answer = Answer'.Refused why; used = l.used }) l.glyphs l.tags l.homes
  unfolding indexed_call apply_all
  index_refused {why} e =
      let r : refused_pass why ≡ indexed_call table start l index class_start = rw (tested ∙ e, indexed_call) in
      record { answers = ap (λ (p : Pass.Passed). p.answer) r; line = ap (λ (p : Pass.Passed). apply_all p.changes l) r }

  module _ (e : check ≡ (Ok tt)) where
    pub index_worked : {reply : PassReply} {glyphs tags homes : List ℕ} → Leaves ((indexed_of_kind index kind).worked bytes l) l reply glyphs tags homes
        → Leaves (indexed_call table start l index class_start) l reply glyphs tags homes
    unfolding indexed_call
    index_worked left =
        let r : (indexed_of_kind index kind).worked bytes l ≡ indexed_call table start l index class_start =
        ap (λ (x : Kind). (indexed_of_kind index x).worked bytes l) kind_there
        ∙ ap (λ (x : List ℕ). (indexed_of_kind index (kind_at Morx there)).worked x l) b
        ∙ rw (tested ∙ e, indexed_call) in
        record { answers = left.answers ∙ ap (λ (p : Pass.Passed). p.answer) r; line = left.line ∙ ap (λ (p : Pass.Passed). apply_all p.changes l) r }

-- a call's changes fit, whatever the index holds
pub indexed_call-fits : (table : List ℕ) (start : ℕ) (l : Line) (index : List ℕ) (class_start : ℕ) → Valid l → Fits (indexed_call table start l index class_start).changes l
unfolding indexed_call
indexed_call-fits table start l index class_start v =
    go (refuse (indexed_tests (length table) l ((any_subtable Morx).is_open there) (length index) (is_another (has_classes (kind_at Morx there)) (body_of there) start class_start)))
  where
    there : List ℕ
    there = drop start table

    go : (c : Result Unit Refusal) → Fits (if_passed refused_pass c ((indexed_of_kind index (kind_at Morx (drop start table))).worked (drop start table) l)).changes l
    go (Ok tt) = indexed-fits index (kind_at Morx (drop start table)) (drop start table) l v
    go (Err why) = quiet_fits [] l v quiet_none
