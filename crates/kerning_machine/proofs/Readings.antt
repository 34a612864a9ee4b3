-- The entries of the two readings, from what the code has read.
use Prim.Native.Nat.{ℕ, ◌+◌, ◌*◌, ◌/◌, ◌<◌, ◌≤◌, ◌^◌}
use mathlib.Core.Path.{◌≡◌, sym, ◌∙◌, ap}
use mathlib.Core.Bool.{Bool, true, false, cond}
use mathlib.Core.List.{List}
use native.Mathlib.Omega.{arith}
use native.Mathlib.Nat.{div-lt_iff_lt-mul}
use lib.Dec.{eqb}
use borrow.Author.Tests.{lt-ltb, le-ltb, eq-eqb, ne_eqb, eqb-false}
use Rattle.laws.proofs.Numbers.{lt-or-ge}
use mathlib.Core.Logic.{⊎_elim}
use Rattle.parse.specs.Reads.{u16_at}
use Rattle.state_tables.specs.declared.entries.Entry.{Entry}
use Rattle.kerning_machine.specs.declared.Start.{Start}
use Rattle.kerning_machine.specs.declared.Start.TheVariants as Start'
use Rattle.kerning_machine.specs.declared.Reading.TheVariants.{Kern, Kerx}
use Rattle.kerning_machine.specs.declared.Orders.{Orders}
use Rattle.kerning_machine.specs.Machine.{tuple_size, kerx_start, kern_orders, indexed_orders, kerx_orders, orders_of, is_full}

-- a product is a 64-bit number exactly when the quotient says so
product_past : (size number : ℕ) → 2 ≤ size → 0xFFFFFFFFFFFFFFFF / size < number → 2 ^ 64 ≤ number * size
product_past size number h q = omega (arith, (div-lt_iff_lt-mul {k = size} {x = 0xFFFFFFFFFFFFFFFF} {y = number} (omega arith)).0 q)

product_fits : (size number : ℕ) → 2 ≤ size → number ≤ 0xFFFFFFFFFFFFFFFF / size → number * size < 2 ^ 64
product_fits size number h q =
    ⊎_elim
    (λ (k : 0xFFFFFFFFFFFFFFFF < number * size). absurd (omega (arith, (div-lt_iff_lt-mul {k = size} {x = 0xFFFFFFFFFFFFFFFF} {y = number} (omega arith)).1 k)))
    (λ (k : number * size ≤ 0xFFFFFFFFFFFFFFFF). omega arith)
    (lt-or-ge 0xFFFFFFFFFFFFFFFF (number * size))

-- where a list of kerx's begins
module _ (values tuples index : ℕ) where
  pub kerx-none : index ≡ 0xFFFF → Start'.None ≡ kerx_start values tuples index
  unfolding kerx_start
  kerx-none e = rw (eq-eqb index 0xFFFF e)

  module _ {size : ℕ} (n : index ≡ 0xFFFF → ⊥) (e : size ≡ tuple_size tuples) (h : 2 ≤ size) where
    pub kerx-nowhere : 0xFFFFFFFFFFFFFFFF / size < values + index → Start'.Nowhere ≡ kerx_start values tuples index
    unfolding kerx_start
    kerx-nowhere q =
        let p : 2 ^ 64 ≤ (values + index) * tuple_size tuples = rw (sym e) (product_past size (values + index) h q) in
        rw (ne_eqb index 0xFFFF n, le-ltb ((values + index) * tuple_size tuples) (2 ^ 64) p)

    pub kerx-fits : values + index ≤ 0xFFFFFFFFFFFFFFFF / size → (values + index) * size < 2 ^ 64
    kerx-fits q = product_fits size (values + index) h q

    pub kerx-at : values + index ≤ 0xFFFFFFFFFFFFFFFF / size → Start'.At ((values + index) * size) ≡ kerx_start values tuples index
    unfolding kerx_start
    kerx-at q =
        let p : (values + index) * tuple_size tuples < 2 ^ 64 = rw (sym e) (product_fits size (values + index) h q) in
        rw (ne_eqb index 0xFFFF n, lt-ltb ((values + index) * tuple_size tuples) (2 ^ 64) p, e)

-- a push that finds room
pub room_left : (depth : ℕ) {pushes : Bool} → depth ≤ 8 → is_full pushes depth ≡ false → pushes ≡ true → depth < 8
room_left depth {pushes} h f e =
    let n : eqb depth 8 ≡ false = rw e at f in
    let k = eqb-false depth 8 n in
    ⊎_elim (λ (l : depth < 8). l) (λ (l : 8 ≤ depth). absurd (k (omega arith))) (lt-or-ge depth 8)

-- what an entry says, from its flags and its index
module _ (bytes : List ℕ) (entry : Entry) where
  pub kern_says : (crossed : Bool) {flags : ℕ} {orders : Orders} → orders ≡ kern_orders flags → flags ≡ entry.flags → orders ≡ orders_of bytes (Kern crossed) entry
  unfolding orders_of
  kern_says crossed o e = o ∙ ap kern_orders e

  pub kerx_says : (values tuples : ℕ) {index : ℕ} {start : Start} {orders : Orders} → orders ≡ indexed_orders entry.flags start
      → start ≡ kerx_start values tuples index → index ≡ u16_at bytes entry.payload → orders ≡ orders_of bytes (Kerx values tuples) entry
  unfolding orders_of kerx_orders
  kerx_says values tuples o s e = o ∙ ap (indexed_orders entry.flags) (s ∙ ap (kerx_start values tuples) e)

-- kern has no reset
pub kern_keeps : (flags depth : ℕ) {orders : Orders} → orders ≡ kern_orders flags → depth ≡ cond orders.resets 0 depth
unfolding kern_orders
kern_keeps flags depth o = rw (o, kern_orders)
