use Prim.Native.Nat.{ℕ}
use lib.IntN.{ℤ}
use mathlib.Core.Path.{◌≡◌, sym, ◌∙◌, ap}
use Rattle.std.specs.Prelude.{Result}
use Rattle.std.specs.Result.{result_ok}
use Rattle.std.proofs.Common.{rules, of_calls}
use Rattle.tables.specs.declared.lookup.Why.{Why}
use Rattle.pairs.specs.Work.{opened_number}
use Rattle.pairs.specs.Pairs.{pair_number}
use Rattle.pairs.proofs.Passes.{plain_ordered, opened_same, plain-words}
use Rattle.pairs.proofs.add_stretch.Goals as goal

pub add_each-requires-in-Ordered-clause-callable : goal.add_each-requires-in-Ordered-clause-callable
add_each-requires-in-Ordered-clause-callable c =
    let inside = plain_ordered c.args.bytes.now (sym c.is_plain.ensures ∙ c.if-not-is_plain.false) c.in-Ordered.is in search (rules, of_calls)

pub returns-in-Ordered : goal.returns-in-Ordered
unfolding pair_number
returns-in-Ordered c = c.add_each-in-Ordered.ensures _ (λ l r h k n g. rw c.in-Ordered.is (search rules))

pub returns-in-Classes : goal.returns-in-Classes
returns-in-Classes c =
    c.add_each-in-Classes.ensures _
    (λ l r h k n g.
    let p = opened_same c.args.bytes.now c.in-Classes.rows c.in-Classes.columns c.in-Classes.array l r c.from-lefts.ensures c.from-rights.ensures c.open-left_rows.ensures c.open-right_columns.ensures in
    let q = plain-words c.args.bytes.now (sym c.is_plain.ensures ∙ c.if-not-is_plain.false) c.in-Classes.is in
    (let o : n ≡ opened_number c.args.bytes.now c.from-lefts.result.now c.open-left_rows.result c.from-rights.result.now c.open-right_columns.result c.in-Classes.array l r = search rules in o)
    ∙ p ∙ ap (λ (f : ℕ → ℕ → Result ℤ Why). result_ok (f l r)) q)
