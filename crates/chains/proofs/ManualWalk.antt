-- The walk of a table is its heads as the manual has them, one after the other.
use Rattle.std.specs.Prelude.{Some, None}
use Prim.Native.Nat.{ℕ, zero, suc, ◌+◌, ◌<◌, ◌≤◌}
use mathlib.Core.Path.{◌≡◌, refl, sym, ◌∙◌, ap}
use mathlib.Core.List.{List, [], ◌∷◌, ◌++◌}
use mathlib.Core.Logic.{⊎_elim}
use lib.ListN.{length, take}
use borrow.Author.Tests.{lt-ltb, le-ltb}
use Rattle.laws.proofs.Numbers.{lt-or-ge}
use Rattle.answers.specs.Limits.{head_limit}
use Rattle.chains.specs.Lists.{cursor, next_chain, next_subtable}
use Rattle.chains.specs.Walk.{walk_from, next_head, heads_of, walk_of}
use Rattle.chains.specs.Manual.{chain_head_size, subtable_head_size, chain_size, chain_total, subtable_size, subtable_total, first_subtable, manual_chain, manual_subtable, subtable_heads, chain_heads, manual_heads}
use Rattle.chains.specs.declared.Edition.{Edition}
use Rattle.chains.specs.declared.Walk.{Walk}
use Rattle.chains.specs.declared.Head.{Head}
use Rattle.chains.specs.declared.Head.TheVariants as Head'
use Rattle.chains.specs.declared.Chain.{Chain}
use Rattle.chains.specs.declared.Subtable.{Subtable}
use Rattle.chains.specs.declared.NextHead.{NextHead}
use Rattle.chains.proofs.Manual.{chain_here, chain_cut, chain_none, subtable-here, subtable-cut, subtable-none, chains-first, no_chains}

module _ (edition : Edition) (table : List ℕ) where
  abbrev walk_at : (subtable subtables chain chains : ℕ) → Walk
  walk_at subtable subtables chain chains = record { subtables = cursor subtable subtables; chains = cursor chain chains }

  abbrev Ahead : (most subtable subtables chain chains : ℕ) → Type 0
  Ahead most subtable subtables chain chains =
      heads_of edition table most (walk_at subtable subtables chain chains) ≡ take most (subtable_heads edition table subtable subtables ++ chain_heads edition table chain chains)

  -- the next head is a subtable's, a chain's, or there is none
  module _ (most : ℕ) (w : Walk) where
    goes_on : {n : NextHead} → next_head edition table w ≡ Some n → heads_of edition table (suc most) w ≡ n.head ∷ heads_of edition table most n.next
    unfolding heads_of
    goes_on e = rw (e, heads_of)

    is_over : next_head edition table w ≡ None → heads_of edition table (suc most) w ≡ []
    unfolding heads_of
    is_over e = rw (e, heads_of)

    with_subtable : {s : Subtable} → next_subtable edition table w.subtables ≡ Some s
        → heads_of edition table (suc most) w ≡ Head'.Subtable s ∷ heads_of edition table most (record { subtables = s.next; chains = w.chains })
    unfolding next_head
    with_subtable e = goes_on (rw (e, next_head))

    with_chain : {c : Chain} → next_subtable edition table w.subtables ≡ None → next_chain edition table w.chains ≡ Some c
        → heads_of edition table (suc most) w ≡ Head'.Chain c ∷ heads_of edition table most (record { subtables = c.subtables; chains = c.next })
    unfolding next_head
    with_chain e f = goes_on (rw (e, f, next_head))

    with_none : next_subtable edition table w.subtables ≡ None → next_chain edition table w.chains ≡ None → heads_of edition table (suc most) w ≡ []
    unfolding next_head
    with_none e f = is_over (rw (e, f, next_head))

  -- the manual's lists, by what lies in the table
  module _ (place left : ℕ) where
    subtable-there : place + subtable_head_size edition ≤ length table
        → subtable_heads edition table place (suc left) ≡ Head'.Subtable (manual_subtable edition table place left) ∷ subtable_heads edition table (place + subtable_size edition table place) left
    unfolding subtable_heads
    subtable-there h = rw (le-ltb _ _ h)

    subtable_past : length table < place + subtable_head_size edition → subtable_heads edition table place (suc left) ≡ []
    unfolding subtable_heads
    subtable_past h = rw (lt-ltb _ _ h)

    chain_there : place + chain_head_size edition ≤ length table
        → chain_heads edition table place (suc left)
        ≡ Head'.Chain (manual_chain edition table place left)
        ∷ (subtable_heads edition table (first_subtable edition table place) (subtable_total edition table place) ++ chain_heads edition table (place + chain_size table place) left)
    unfolding chain_heads
    chain_there h = rw (le-ltb _ _ h)

    chain_past : length table < place + chain_head_size edition → chain_heads edition table place (suc left) ≡ []
    unfolding chain_heads
    chain_past h = rw (lt-ltb _ _ h)

  -- where the subtables have ended, the next chain's head follows
  module _ (most subtable subtables chain : ℕ) (ended : next_subtable edition table (cursor subtable subtables) ≡ None) (none : subtable_heads edition table subtable subtables ≡ [])
      (later : (s n c m : ℕ) → Ahead most s n c m) where
    next_chain_lem : (chains : ℕ) → Ahead (suc most) subtable subtables chain chains
    unfolding chain_heads
    next_chain_lem zero = with_none most (walk_at subtable subtables chain 0) ended (chain_none edition table chain) ∙ sym (rw none)
    next_chain_lem (suc chains) =
        ⊎_elim
        (λ (h : length table < chain + chain_head_size edition).
        with_none most (walk_at subtable subtables chain (suc chains)) ended (chain_cut edition table chain chains h) ∙ sym (rw (none, chain_past chain chains h)))
        (λ (h : chain + chain_head_size edition ≤ length table).
        with_chain most (walk_at subtable subtables chain (suc chains)) ended (chain_here edition table chain chains h)
        ∙ ap (λ (hs : List Head). Head'.Chain (manual_chain edition table chain chains) ∷ hs)
        (later (first_subtable edition table chain) (subtable_total edition table chain) (chain + chain_size table chain) chains)
        ∙ sym (rw (none, chain_there chain chains h)))
        (lt-or-ge (length table) (chain + chain_head_size edition))

  all_ahead : (most subtable subtables chain chains : ℕ) → Ahead most subtable subtables chain chains
  unfolding heads_of subtable_heads
  all_ahead zero subtable subtables chain chains = refl
  all_ahead (suc most) subtable zero chain chains = next_chain_lem most subtable 0 chain (subtable-none edition table subtable) refl (all_ahead most) chains
  all_ahead (suc most) subtable (suc left) chain chains =
      ⊎_elim
      (λ (h : length table < subtable + subtable_head_size edition).
      next_chain_lem most subtable (suc left) chain (subtable-cut edition table subtable left h) (subtable_past subtable left h) (all_ahead most) chains)
      (λ (h : subtable + subtable_head_size edition ≤ length table).
      with_subtable most (walk_at subtable (suc left) chain chains) (subtable-here edition table subtable left h)
      ∙ ap (λ (hs : List Head). Head'.Subtable (manual_subtable edition table subtable left) ∷ hs)
      (all_ahead most (subtable + subtable_size edition table subtable) left chain chains)
      ∙ sym (rw (subtable-there subtable left h)))
      (lt-or-ge (length table) (subtable + subtable_head_size edition))

  -- as many of them as a run may count, and one more
  pub walk_as_manual : (start : ℕ) → walk_of edition table start ≡ take (suc head_limit) (manual_heads edition table start)
  unfolding walk_of walk_from manual_heads subtable_heads chain_heads
  walk_as_manual start =
      ⊎_elim
      (λ (h : length table < start + 8).
      rw (no_chains table start h, lt-ltb _ _ h) (all_ahead (suc head_limit) 0 0 (start + 8) 0))
      (λ (h : start + 8 ≤ length table).
      rw (chains-first table start h, le-ltb _ _ h) (all_ahead (suc head_limit) 0 0 (start + 8) (chain_total table start)))
      (lt-or-ge (length table) (start + 8))
