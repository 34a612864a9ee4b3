-- The three instances of the one statement about walks.
use Prim.Native.Nat.{ℕ, ◌+◌, ◌*◌, ◌%◌, ◌^◌}
use mathlib.Core.Path.{◌≡◌, sym, subst}
use mathlib.Core.Bool.{Bool}
use mathlib.Core.List.{List}
use native.Mathlib.Omega.{arith}
use borrow.Author.Tests.{lt-ltb, eq-eqb, ne_eqb}
use Rattle.kerning.specs.Lists.{ruled}
use Rattle.kerning.specs.Walks.{Walks}
use Rattle.kerning.specs.declared.lists.Rule.TheVariants.{Odd, Never, Marked}
use Rattle.kerning.proofs.Walks.{walks}
use Rattle.kerning_machine.specs.Machine.{tuple_size, kern_start, kerx_start, manual_start, walked_from}
use Rattle.kerning_machine.specs.declared.Reading.TheVariants.{Kern, Kerx, Manual}
use Rattle.kerning_machine.specs.declared.Start.{Start}
use Rattle.kerning_machine.specs.declared.Start.TheVariants as Start'
use Rattle.promises.specs.Lists.{KernList, KerxList, ManualList}

pub kern-list : (bytes : List ℕ) (crossed : Bool) (flags : ℕ) (stack : List ℕ) (depth used : ℕ) → KernList bytes crossed flags stack depth used
unfolding walked_from kern_start
kern-list bytes crossed flags stack depth used =
    record {
      none = λ e. rw (eq-eqb (flags % 0x4000) 0 e, kern_start, walked_from);
      there = λ h.
          let at : Start'.At (flags % 0x4000) ≡ kern_start flags = sym (rw (ne_eqb (flags % 0x4000) 0 (λ e. omega (arith, e, h)), kern_start)) in
          subst (λ (s : Start). Walks bytes (λ k. flags % 0x4000 + k * 2) (ruled (Odd crossed)) stack depth used (walked_from bytes (Kern crossed) s stack depth used)) at
          (walks bytes (Odd crossed) 2 (flags % 0x4000) stack depth used);
    }

pub kerx-list : (bytes : List ℕ) (values tuples index : ℕ) (stack : List ℕ) (depth used : ℕ) → KerxList bytes values tuples index stack depth used
unfolding walked_from kerx_start
kerx-list bytes values tuples index stack depth used =
    record {
      none = λ e. rw (eq-eqb index 0xFFFF e, kerx_start, walked_from);
      there = λ n h.
          let at : Start'.At ((values + index) * tuple_size tuples) ≡ kerx_start values tuples index =
          sym (rw (ne_eqb index 0xFFFF n, lt-ltb ((values + index) * tuple_size tuples) (2 ^ 64) h, kerx_start)) in
          subst
          (λ (s : Start).
          Walks bytes (λ k. (values + index) * tuple_size tuples + k * tuple_size tuples) (ruled Never) stack depth used
          (walked_from bytes (Kerx values tuples) s stack depth used))
          at
          (walks bytes Never (tuple_size tuples) ((values + index) * tuple_size tuples) stack depth used);
    }

pub manual_list : (bytes : List ℕ) (values index : ℕ) (stack : List ℕ) (depth used : ℕ) → ManualList bytes values index stack depth used
unfolding walked_from manual_start
manual_list bytes values index stack depth used =
    record {
      none = λ e. rw (eq-eqb index 0xFFFF e, manual_start, walked_from);
      there = λ n.
          let at : Start'.At (values + index * 2) ≡ manual_start values index = sym (rw (ne_eqb index 0xFFFF n, manual_start)) in
          subst (λ (s : Start). Walks bytes (λ k. values + index * 2 + k * 2) (ruled Marked) stack depth used (walked_from bytes (Manual values) s stack depth used)) at
          (walks bytes Marked 2 (values + index * 2) stack depth used);
    }
