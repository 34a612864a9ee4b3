-- Each write joins what was written before it; at the end of a loop all that it goes over is written.
use Rattle.std.proofs.Common.{rules, ◌≡◌, ℕ, List, [], ◌∷◌, ◌++◌, map, codes, sym, ap, ◌∙◌, append_assoc, append-nil}
use Rattle.std.proofs.Output.{has_written_append, has_written_of_eq}
use Rattle.std.proofs.lemmas.Iterator.{YieldsList-from_slice, YieldsList-from_take, YieldsList-from_zip}
use Rattle.std.proofs.lemmas.Iterator.Consumers.{YieldsList-end, YieldsList-from_enumerate}
use Rattle.std.specs.List.{flat_map}
use Rattle.printed.specs.Printed.{length_text, place_text, places_text, home_text, homes_text, text_of}
use Rattle.printed.proofs.LineTextDisplay.fmt.Goals as goal

-- one more piece behind those that were written
one_more : {A B : Type 0} (f : B → List ℕ) (v : A → B) (xs : List A) (x : A) → flat_map f (map v xs) ++ f (v x) ≡ flat_map f (map v (xs ++ (x ∷ [])))
one_more f v [] x = sym (append-nil (f (v x)))
one_more f v (y ∷ ys) x = append_assoc (f (v y)) (flat_map f (map v ys)) (f (v x)) ∙ ap (λ l. f (v y) ++ l) (one_more f v ys x)

-- a write at the end is one at the end of the last part
behind : (a b c d e g : List ℕ) → d ++ e ≡ g → (a ++ (b ++ (c ++ d))) ++ e ≡ a ++ (b ++ (c ++ g))
behind a b c d e g p =
    append_assoc a (b ++ (c ++ d)) e
    ∙ ap (λ l. a ++ l) (append_assoc b (c ++ d) e ∙ ap (λ l. b ++ l) (append_assoc c d e ∙ ap (λ l. c ++ l) p))

pub loop-place-preserved : goal.loop-place-preserved
loop-place-preserved g c = λ p.
    has_written_of_eq _ _ _ _ _
    (append_assoc (length_text c.args.self.now.used) (flat_map place_text (map _ c.loop-place.yielded)) _
    ∙ ap (λ l. length_text c.args.self.now.used ++ l)
    (one_more place_text (λ place. (place.0, (place.1.0.now, place.1.1.now))) c.loop-place.yielded (c.in-Some.place, (c.in-Some.glyph, c.in-Some.tag))))
    (has_written_append _ _ _ _ _ _ (c.loop-place.invariant p) (search rules))

pub loop-home-init : goal.loop-home-init
unfolding places_text
loop-home-init g c = λ p.
    let all = YieldsList-end
    (YieldsList-from_enumerate
    (YieldsList-from_take c.args.self.now.used
    (YieldsList-from_zip (YieldsList-from_slice c.args.self.now.glyphs.now cc) (YieldsList-from_slice c.args.self.now.tags.now cc)) cc) cc)
    c.loop-place.yielded _ c.loop-place.yielded_by _ c.next.new.self c.in-None.is c.next.ensures.steps in
    has_written_of_eq _ _ _ _ _
    (append_assoc (length_text c.args.self.now.used) (flat_map place_text (map _ c.loop-place.yielded)) (codes "homes")
    ∙ ap (λ l. length_text c.args.self.now.used ++ (flat_map place_text l ++ codes "homes")) all.0)
    (has_written_append _ _ _ _ _ _ (c.loop-place.invariant p) (search rules))

pub loop-home-preserved : goal.loop-home-preserved
loop-home-preserved g c = λ p.
    has_written_of_eq _ _ _ _ _
    (behind (length_text c.args.self.now.used) (places_text c.args.self.now.glyphs.now c.args.self.now.tags.now c.args.self.now.used) (codes "homes") _ _ _
    (one_more home_text (λ home. home.now) c.loop-home.yielded c.in-Some-home.home))
    (has_written_append _ _ _ _ _ _ (c.loop-home.invariant p) (search rules))

pub returns-clause-writes : goal.returns-clause-writes
unfolding text_of homes_text
returns-clause-writes g c = λ p ok.
    let all = YieldsList-end (YieldsList-from_take c.args.self.now.characters (YieldsList-from_slice c.args.self.now.homes.now cc) cc)
    c.loop-home.yielded _ c.loop-home.yielded_by _ c.next-in-loop-home.new.self c.in-None-home.is c.next-in-loop-home.ensures.steps in
    has_written_of_eq _ _ _ _ _
    (behind (length_text c.args.self.now.used) (places_text c.args.self.now.glyphs.now c.args.self.now.tags.now c.args.self.now.used) (codes "homes") _ (codes "\n") _
    (ap (λ l. flat_map home_text l ++ codes "\n") all.0))
    (has_written_append _ _ _ _ _ _ (c.loop-home.invariant p) (search rules))
