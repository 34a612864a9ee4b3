-- What a lone insertion has that its tests pass, by the list that its code has.
use Rattle.std.specs.Prelude.{Option, Result, Ok}
use Prim.Native.Nat.{ℕ}
use mathlib.Core.Path.{◌≡◌, sym, ◌∙◌, ap}
use mathlib.Core.List.{List, [], ◌∷◌}
use Rattle.answers.proofs.Refusals.{passed_later}
use lib.ListN.{length}
use Rattle.answers.specs.Refuse.{Test, refuse, table_test}
use Rattle.answers.specs.declared.Refusal.{Refusal}
use Rattle.answers.specs.declared.Answer.{Answer}
use Rattle.line.specs.Line.{Line, Valid}
use Rattle.line.specs.Test.{line_test}
use Rattle.line.proofs.Refusals.{passed-line}
use Rattle.machine.specs.Call.{place_test}
use Rattle.insertion.specs.Lists.{list_from, entered_by}
use Rattle.insertion.specs.Lone.{insert_tests}
use Rattle.insertion.specs.declared.Listed.{Listed}
use Rattle.insertion.specs.declared.Insertion.{Insertion}
use Rattle.insertion.proofs.Lists.{Fitting, lies_from, entered_tries, made-fits}

-- the tests, from what the code has tested
module _ (n : ℕ) (l : Line) (place : ℕ) where
  abbrev behind : List Test
  behind = line_test l ∷ place_test l.used place ∷ []

  pub insert_valid : {check : (Result Unit Refusal)} → check ≡ refuse (insert_tests n l place) → check ≡ Ok tt → Valid l
  unfolding insert_tests
  insert_valid k e = passed-line l (place_test l.used place ∷ []) (passed_later (table_test n) behind (sym k ∙ e))

module _ (table : List ℕ) (start count place : ℕ) (l : Line) {check : (Result Unit Refusal)} (k : check ≡ refuse (insert_tests (length table) l place)) where
  module _ (e : check ≡ (Ok tt)) {listed : Listed} {tried : Result (Option Insertion) Answer} (f : listed ≡ list_from table start count)
      (t : tried ≡ entered_by listed place count l.used (length l.glyphs)) where
    due : tried ≡ entered_by (list_from table start count) place count l.used (length l.glyphs)
    due = t ∙ ap (λ (x : Listed). entered_by x place count l.used (length l.glyphs)) f

    -- what is made fits
    pub insert-fits : {edit : Option Insertion} → tried ≡ Ok edit → Fitting table l.used (length l.glyphs) edit
    insert-fits {edit} m =
        made-fits table l.used (length l.glyphs) edit
        (entered_tries table place count l.used (length l.glyphs) (insert_valid (length table) l place k e).within (lies_from table start count))
        (sym due ∙ m)
