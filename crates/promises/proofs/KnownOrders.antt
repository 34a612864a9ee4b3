-- The conditions under which the order of kerx subtables does not matter can be met, and each is needed: by computation.
use Rattle.std.specs.Prelude.{Some, Ok, Err}
use Prim.Native.Nat.{ℕ, zero, suc, ◌+◌, ◌<◌, ◌≤◌}
use mathlib.Core.Path.{refl, ◌≡◌, ◌∙◌, ap, ap₂, subst, subst⁻¹}
use mathlib.Core.Bool.{false}
use mathlib.Core.List.{List, [], ◌∷◌}
use mathlib.Core.Logic.{◌⊎◌, ⊎_elim, inl, inr}
use native.Mathlib.Omega.{arith}
use lib.ListN.{get_or, drop}
use Rattle.laws.specs.Lists.{tab}
use Rattle.laws.specs.Signed.{signed16}
use Rattle.answers.specs.Limits.{head_limit}
use Rattle.answers.specs.declared.Answer.TheVariants.{Done}
use Rattle.parse.specs.Reads.{inside, read_u16, read_i16, read_u32}
use Rattle.tables.specs.Records.{format_of}
use Rattle.tables.specs.Search.{side_of_pair, side_of, find, searched}
use Rattle.tables.specs.Lookup.{lookup_at, in_format, trimmed_at, element_at}
use Rattle.tables.specs.Units.{units_by, in_units, lookup_by}
use Rattle.tables.specs.declared.units.Reading.TheVariants.{Crate}
use Rattle.tables.specs.declared.lookup.Why.TheVariants.{NotCovered, CutShort}
use Rattle.state_tables.specs.Inside.{ClassReads}
use Rattle.state_tables.specs.States.{extended_by}
use Rattle.state_tables.specs.Classes.{class_by_lookup, class_of, class_in, found_class}
use Rattle.state_tables.specs.Entries.{entry_number, entry_at, resolved_in, resolved, entry_of}
use Rattle.state_tables.specs.Entries as Entries
use Rattle.state_tables.specs.declared.Edition.TheVariants.{Extended}
use Rattle.state_tables.specs.declared.entries.Entry.{Entry}
use Rattle.machine.specs.Stall.{stalled}
use Rattle.kerning.specs.Additions.{add_at, add_all, additions_at}
use Rattle.kerning.specs.Choices.{unchosen}
use Rattle.kerning.specs.Lists.{ruled, walk}
use Rattle.kerning.specs.Lists as Lists
use Rattle.kerning.specs.declared.lists.Rule.TheVariants.{Never}
use Rattle.kerning_machine.specs.Inside.{StepInside, Reached, first, later, PassInside}
use Rattle.kerning_machine.specs.Machine.{fresh, tuple_size, kerx_start, indexed_orders, kerx_orders, orders_of, stacked, walked_from, Stepped, settled, behind, listed, acted, next, step_at, pass_from, passed_by, own_classes}
use Rattle.kerning_machine.specs.Machine as Kerning'
use Rattle.kerning_machine.specs.declared.Reading.TheVariants.{Kerx}
use Rattle.kerning_machine.specs.declared.Kerning.{Kerning}
use Rattle.kerning_machine.specs.declared.KerningState.{KerningState}
use Rattle.kerning_machine.specs.declared.KerningStep.{KerningStep}
use Rattle.kerx_machine.specs.Machine.{tuples_of, body_of, is_tupled, opened_any, opened}
use Rattle.kerx_machine.specs.Machine as Machine'
use Rattle.kerning.specs.Heads.{barred}
use Rattle.pairs.specs.Pairs.{number_at, number_in, ordered_number, pair_number, ordered_kerx}
use Rattle.pairs.specs.Pass.{last_below, pairs_below, place, counts}
use Rattle.pairs.specs.Pass as Pairs'
use Rattle.pairs.specs.Inside.{PairsInside}
use Rattle.pairs.specs.declared.PairTable.TheVariants.{Ordered}
use Rattle.kerning_lists.specs.Walk.{heads_from, visited}
use Rattle.kerning_lists.specs.Run.{zeros, contribution, contributions, used_part, ran_over}
use Rattle.kerning_lists.specs.Family.{walk_of, ran}
use Rattle.kerx.specs.Heads.{subtable_of, list_of}
use Rattle.kerx.specs.Heads as Heads
use Rattle.kerx.specs.Kerx.{worked}
use Rattle.kerx.specs.Inside.{ReadsInside}
use Rattle.kerx.specs.Order.{Each, none, more, AsStated}
use Rattle.promises.specs.KnownOrders.{one_pair, good_list, line, left_by, NeedsEach}

-- Ordered pairs that meet the conditions.
abbrev ordered : List ℕ
ordered = one_pair 34 10

pair_stated : AsStated ordered
pair_stated = refl

pair_found : pair_number ordered (Ordered 28 1) 5 6 ≡ Ok (signed16 10)
unfolding pair_number ordered_number number_in number_at searched find side_of side_of_pair inside read_i16 read_u32
pair_found = refl

-- the only pair of the line is that of its two places
only_pair : (p q : ℕ) → q < 2 → last_below (counts unchosen.pairs line) q ≡ place p → (p ≡ 0) × (q ≡ 1)
unfolding last_below
only_pair p zero h e = absurd (let z : ◌≡◌ {A = ℕ} 0 1 = cc in omega arith)
only_pair p (suc zero) h e = (cc, refl)
only_pair p (suc (suc q)) h e = absurd (omega arith)

pairs-inside : PairsInside ordered (ordered_kerx ordered) line 2 unchosen.pairs
unfolding ordered_kerx inside read_u32
pairs-inside =
    record {
      pairs = Ordered 28 1;
      opens = refl;
      numbers = λ p q h c l n.
          let (e, f) = only_pair p q h l in
          let g : pair_number ordered (Ordered 28 1) 5 6 ≡ Err CutShort = rw (e, f) at n in
          let k = pair_found in
          let z : ◌≡◌ {A = ℕ} 0 1 = cc in omega arith;
    }

pair_inside : ReadsInside false 2 line 2 unchosen ordered
unfolding Heads.head_in subtable_of inside read_u32
pair_inside =
    record {
      subtable = record { passed_over = false; turned = false; format = 0; body = 0; next = 34 };
      head = refl;
      work = λ o t.
          record {
            ordered = λ e. pairs-inside;
            machine = λ e. let z : ◌≡◌ {A = ℕ} 0 1 = cc in absurd (omega arith);
            classes = λ e. let z : ◌≡◌ {A = ℕ} 0 1 = cc in absurd (omega arith);
          };
    }

abbrev body : List ℕ
body = body_of good_list

abbrev machine_of : Kerning
machine_of = record { states = record { edition = Extended 20 Crate; classes = 5; array = 28; entries = 38 }; reading = Kerx 25 0 }

list_stated : AsStated good_list
list_stated = refl

machine-opens : opened_any good_list 2 Crate ≡ Ok machine_of
unfolding opened_any tuples_of extended_by inside read_u32
machine-opens = refl

class_five : lookup_by Crate (drop 20 body) 5 ≡ Ok 4
unfolding lookup_by units_by in_units lookup_at in_format format_of trimmed_at element_at inside read_u16
class_five = refl

class_six : lookup_by Crate (drop 20 body) 6 ≡ Err NotCovered
unfolding lookup_by units_by in_units lookup_at in_format format_of trimmed_at element_at inside read_u16
class_six = refl

class_is_four : own_classes body machine_of 5 ≡ 4
unfolding class_of class_in class_by_lookup
class_is_four = ap found_class class_five

class_is_one : own_classes body machine_of 6 ≡ 1
unfolding class_of class_in class_by_lookup
class_is_one = ap found_class class_six

abbrev pushing : Entry
pushing = record { state = 0; flags = 0x8000; payload = 48 }

abbrev idle : Entry
idle = record { state = 0; flags = 0; payload = 42 }

pushes : entry_of body machine_of.states 0 4 2 ≡ Some pushing
unfolding entry_of entry_number Entries.number_in entry_at resolved resolved_in inside read_u16
pushes = refl

idles : entry_of body machine_of.states 0 1 2 ≡ Some idle
unfolding entry_of entry_number Entries.number_in entry_at resolved resolved_in inside read_u16
idles = refl

five_steps : StepInside body machine_of 2 fresh 0 5
unfolding ClassReads orders_of kerx_orders indexed_orders kerx_start tuple_size stacked walk Lists.number_at ruled inside read_u16
five_steps =
    record {
      class = λ n e. let f = class_five in let z : ◌≡◌ {A = ℕ} 0 1 = cc in omega arith;
      entry = pushing;
      there = ap (λ (k : ℕ). entry_of body machine_of.states 0 k 2) class_is_four ∙ pushes;
      list = λ full p e. let f : 50 ≡ p = cc in subst (λ (x : ℕ). (walk body Never (tuple_size 0) fresh.stack 2 1 x).left.ended ≡ false) f refl;
    }

six_steps : StepInside body machine_of 2 fresh 1 6
unfolding ClassReads orders_of kerx_orders indexed_orders kerx_start
six_steps =
    record {
      class = λ n e. let f = class_six in let z : ◌≡◌ {A = ℕ} 0 1 = cc in omega arith;
      entry = idle;
      there = ap (λ (k : ℕ). entry_of body machine_of.states 0 k 2) class_is_one ∙ idles;
      list = λ full p e. let z : ◌≡◌ {A = ℕ} 0 1 = cc in absurd (omega arith);
    }

-- both steps advance and leave the state fresh
abbrev at : KerningState → ℕ → Stepped
at = step_at (own_classes body machine_of) body machine_of line 2

five_goes : (at fresh 0).step ≡ record { answer = Done; state = fresh; advance = 1 }
unfolding next acted orders_of kerx_orders indexed_orders kerx_start tuple_size stacked walked_from walk Lists.number_at ruled listed behind settled stalled inside read_u16
five_goes = rw (ap (λ (k : ℕ). entry_of body machine_of.states 0 k 2) class_is_four ∙ pushes, next)

six_goes : (at fresh 1).step ≡ record { answer = Done; state = fresh; advance = 1 }
unfolding next acted orders_of kerx_orders indexed_orders kerx_start tuple_size stacked walked_from walk Lists.number_at ruled listed behind settled stalled inside read_u16
six_goes = rw (ap (λ (k : ℕ). entry_of body machine_of.states 0 k 2) class_is_one ∙ idles, next)

abbrev Where : KerningState → ℕ → Type 0
Where s i = (s ≡ fresh) × ((i ≡ 0) ⊎ ((i ≡ 1) ⊎ (2 ≤ i)))

reached : {s : KerningState} {i : ℕ} → Reached body machine_of line 2 s i → Where s i
reached first = (refl, inl refl)
reached (later {s} {i} r h d) =
    let (e, where-it-is) = reached r in
    ⊎_elim
    (λ (z : i ≡ 0).
    let g : (at s i).step ≡ record { answer = Done; state = fresh; advance = 1 } = ap₂ (λ (x : KerningState) (k : ℕ). (at x k).step) e z ∙ five_goes in
    (ap (λ (x : KerningStep). x.state) g, inr (inl (ap₂ (λ (k n : ℕ). k + n) z (ap (λ (x : KerningStep). x.advance) g)))))
    (λ more.
    ⊎_elim
    (λ (z : i ≡ 1).
    let g : (at s i).step ≡ record { answer = Done; state = fresh; advance = 1 } = ap₂ (λ (x : KerningState) (k : ℕ). (at x k).step) e z ∙ six_goes in
    (ap (λ (x : KerningStep). x.state) g, inr (inr (omega (arith, ap (λ (x : KerningStep). x.advance) g)))))
    (λ (z : 2 ≤ i). absurd (omega arith))
    more)
    where-it-is

steps-inside : PassInside body machine_of line 2
steps-inside s i r h =
    let (e, where-it-is) = reached r in
    subst⁻¹ (λ (x : KerningState). StepInside body machine_of 2 x i (get_or line i 0)) e
    (⊎_elim
    (λ (z : i ≡ 0). subst⁻¹ (λ (k : ℕ). StepInside body machine_of 2 fresh k (get_or line k 0)) z five_steps)
    (λ more.
    ⊎_elim
    (λ (z : i ≡ 1). subst⁻¹ (λ (k : ℕ). StepInside body machine_of 2 fresh k (get_or line k 0)) z six_steps)
    (λ (z : 2 ≤ i). absurd (omega arith))
    more)
    where-it-is)

list_inside : ReadsInside false 2 line 2 unchosen good_list
unfolding Heads.head_in subtable_of inside read_u32
list_inside =
    record {
      subtable = record { passed_over = false; turned = false; format = 1; body = 0; next = 64 };
      head = refl;
      work = λ o t.
          record {
            ordered = λ e. let z : ◌≡◌ {A = ℕ} 0 1 = cc in absurd (omega arith);
            machine = λ e. record { machine = machine_of; opens = machine-opens; steps = steps-inside };
            classes = λ e. let z : ◌≡◌ {A = ℕ} 0 1 = cc in absurd (omega arith);
          };
    }

pub stated_met : Each AsStated (one_pair 34 10 ∷ good_list ∷ [])
stated_met = more pair_stated (more list_stated none)

pub inside_met : Each (ReadsInside false 2 line 2 unchosen) (one_pair 34 10 ∷ good_list ∷ [])
inside_met = more pair_inside (more list_inside none)

pub needs_each : NeedsEach
unfolding left_by zeros tab ran ran_over used_part walk_of heads_from visited head_limit contributions contribution add_all add_at list_of Heads.head_in subtable_of worked is_tupled barred Pairs'.worked_by pairs_below last_below ordered_kerx pair_number ordered_number number_in number_at searched find side_of side_of_pair Machine'.worked opened opened_any tuples_of extended_by Kerning'.worked_by Kerning'.passed passed_by pass_from next acted orders_of kerx_orders indexed_orders kerx_start tuple_size stacked walked_from walk Lists.number_at ruled additions_at listed behind settled stalled class_of class_in class_by_lookup lookup_by units_by in_units lookup_at in_format format_of trimmed_at element_at entry_of entry_number Entries.number_in entry_at resolved resolved_in inside read_u16 read_i16 read_u32 signed16
needs_each =
    record {
      held = refl;
      held-turned = refl;
      one-short = refl;
      one-short-turned = refl;
      size-zero = refl;
      size_zero_turned = refl;
      reads_on = refl;
      reads_on-turned = refl;
    }
