use mathlib.Core.Path.{◌≡◌, refl, sym, ◌∙◌}
use native.Mathlib.Omega.{arith}
use lib.ListN.{length}
use Rattle.reel.proofs.Exact.{lent_of}
use Rattle.reel.proofs.Going.{going_start, going_next, inside, at-fits, from_fits}
use Rattle.reel.proofs.Calls.{no_reel, answers-reel, answers-done, all-ran}
use Rattle.reel.proofs.run.Goals as goal

pub returns-then-not-is_lent : goal.returns-then-not-is_lent
returns-then-not-is_lent c =
    let none = sym c.is_lent.ensures ∙ c.if-not-is_lent.true in
    let left = no_reel c.args.table.now c.args.start c.args.choices c.args.requests.now _ none in
    record { answer = answers-reel _ none; used = left.used; answers = left.answers; heads = left.heads; glyphs = left.glyphs; tags = left.tags; homes = left.homes }

pub loop-i-init : goal.loop-i-init
loop-i-init c = going_start _ _ (lent_of _ (sym c.is_lent.ensures ∙ c.if-not-is_lent.false))

pub run_part-reply-requires : goal.run_part-reply-requires
run_part-reply-requires c = search inside

pub overflow_add-at : goal.overflow_add-at
overflow_add-at c =
    let same : length c.loop-i.glyphs ≡ length c.args.glyphs.now = sym c.loop-i.invariant.lent.whole-glyphs ∙ c.loop-i.invariant.lent₀.whole-glyphs in
    omega (arith, at-fits _ _ _ _ _ _ _ _ _ _ _ _ _ refl c.loop-i.invariant (omega arith), same)

pub overflow_add-from : goal.overflow_add-from
overflow_add-from c =
    let same : length c.loop-i.homes ≡ length c.args.homes.now = sym c.loop-i.invariant.lent.whole-homes ∙ c.loop-i.invariant.lent₀.whole-homes in
    omega (arith, from_fits _ _ _ _ _ _ _ _ _ _ _ _ _ refl c.loop-i.invariant (omega arith), same)

pub loop-i-preserved : goal.loop-i-preserved
loop-i-preserved c = search going_next

pub returns : goal.returns
returns c =
    let left = all-ran _ _ _ _ _ _ _ _ _ c.loop-i.invariant (omega arith) in
    record {
      answer = answers-done _ (sym c.is_lent.ensures ∙ c.if-not-is_lent.false);
      used = left.used;
      answers = left.answers;
      heads = left.heads;
      glyphs = left.glyphs;
      tags = left.tags;
      homes = left.homes;
    }
