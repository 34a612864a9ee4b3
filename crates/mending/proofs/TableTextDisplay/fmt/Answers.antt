-- Each turn writes the first word of what is left; at the end less than a word is left, of which nothing is written.
use Rattle.std.proofs.Common.{arith, rules, ◌≡◌, refl, ℕ, zero, suc, ◌+◌, ◌-◌, ◌^◌, ◌<◌, ◌==◌, true, false, if◌then◌else◌, List, [], ◌∷◌, ◌++◌, length, slice_index, codes, Ok, Some, sym, ap, subst, ◌∙◌, append_assoc, append-nil}
use Rattle.std.proofs.Output.{has_written_append, has_written_of_eq}
use Rattle.std.specs.Fmt.{digits_output, styled_digits_output, radix_digits, format_spec, padded_integral, DisplaysOnOk, ◌++?◌}
use Rattle.std.specs.Iterator.Adapters.{enumerate_source, enumerate_count}
use Rattle.std.specs.Option.{option_map}
use Rattle.std.specs.Slice.Iter.{chunks_exact_rest}
use Rattle.mending.specs.Hex.{byte_text, word_text, words_text, text_of}
use Rattle.mending.proofs.TableTextDisplay.fmt.Goals as goal
use Rattle.mending.proofs.TableTextDisplay.fmt.Goals.{then-index-eq0, else-index-eq0}

-- before word 0 there is nothing, and before each other a space
before_first : (index : ℕ) → index ≡ 0 → codes "" ≡ (if index == 0 then codes "" else codes " ")
before_first zero first = refl
before_first (suc index) first = absurd (omega arith)

before_other : (index : ℕ) → (index ≡ 0 → ⊥) → codes " " ≡ (if index == 0 then codes "" else codes " ")
before_other zero other = absurd (other refl)
before_other (suc index) other = search rules

-- the options of `{:02X}` are those that the text of a byte is written under
in_two_digits : (digits : _) (spec : _) (byte : ℕ)
    → digits_output digits ≡ Some (radix_digits 16 true byte) → spec ≡ format_spec 32 0 4 2 (2 ^ 64 - 1)
    → styled_digits_output digits spec ≡ Some (byte_text byte)
in_two_digits digits spec byte is laid =
    ap (λ s. styled_digits_output digits s) laid
    ∙ ap (option_map (padded_integral (format_spec 32 0 4 2 (2 ^ 64 - 1)) false [])) is

-- a word, and the words behind it
word_first : (index : ℕ) (word bytes : List ℕ) → length word ≡ 2
    → word_text index (slice_index word 0) (slice_index word 1) ++ words_text (index + 1) bytes ≡ words_text index (word ++ bytes)
unfolding words_text
word_first index [] bytes two = absurd (omega arith)
word_first index (high ∷ []) bytes two = absurd (omega arith)
word_first index (high ∷ low ∷ []) bytes two = refl
word_first index (high ∷ low ∷ more ∷ word) bytes two = absurd (omega arith)

-- of less than a word nothing is written
none_left : (index : ℕ) (bytes : List ℕ) → length bytes < 2 → words_text index bytes ≡ []
unfolding words_text
none_left index [] short = refl
none_left index (byte ∷ []) short = refl
none_left index (high ∷ low ∷ bytes) short = absurd (omega arith)

pub loop-index-preserved : goal.loop-index-preserved
loop-index-preserved g c =
    let count = enumerate_count c.loop-index.index-iterator in
    let word = c.in-Some.word.now in
    let steps = c.in-Some.ensures.steps in
    let separator : c.if-index-eq0.separator.now ≡ (if count == 0 then codes "" else codes " ") = elim c.if-index-eq0.branch [
      | then-index-eq0 w ↦ ap (λ s. s.now) w.separator-is ∙ before_first count (sym steps.1 ∙ w.if-index-eq0.true)
      | else-index-eq0 w ↦ ap (λ s. s.now) w.separator-is ∙ before_other count (λ e. w.if-index-eq0.false (steps.1 ∙ e))
    ] in
    let high = in_two_digits c.in_radix.result _ (slice_index word 0) c.in_radix.ensures c.laid_out.ensures in
    let low = in_two_digits c.in_radix-in-loop-index.result _ (slice_index word 1) c.in_radix-in-loop-index.ensures c.laid_out-in-loop-index.ensures in
    let piece = word_text count (slice_index word 0) (slice_index word 1) in
    let written = subst (λ o. DisplaysOnOk g.W.Write.write_str_gives c.loop-index.f (Ok c.in_ok-write.field-0) o c.write.new.self)
    (λ i. Some (separator i) ++? (high i ++? low i)) c.in_ok-write.ensures.writes in (
      search rules,
      λ p.
          let before = c.loop-index.invariant.1 p in (
            before.0 ++ piece,
            has_written_append _ _ _ _ _ _ before.1 (written before.1.plain refl),
            append_assoc before.0 piece _ ∙ ap (λ l. before.0 ++ l)
                (ap (λ n. piece ++ words_text n (chunks_exact_rest (enumerate_source c.next.new.self))) steps.2
                ∙ word_first count word _ (search rules) ∙ ap (words_text count) (sym steps.0.1.0)) ∙ before.2,
          ),
    )

pub returns-clause-writes : goal.returns-clause-writes
unfolding text_of
returns-clause-writes g c =
    λ p ok.
    let before = c.loop-index.invariant.1 p in
    has_written_of_eq _ _ _ _ _ (sym (append-nil before.0) ∙ ap (λ l. before.0 ++ l) (sym (none_left _ _ (search rules))) ∙ before.2) before.1
