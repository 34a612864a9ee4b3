-- What was written so far: the length and the places before this one, and then also the homes before this one.
use Rattle.std.proofs.Common.{◌++◌, map, codes}
use Rattle.std.specs.Fmt.{HasWritten, IsPlainFormatter}
use Rattle.std.specs.List.{flat_map}
use Rattle.printed.specs.Printed.{length_text, place_text, places_text, home_text}
use Rattle.printed.proofs.LineTextDisplay.fmt.Given as goal

abbrev pub invariant-loop-place : goal.invariant-loop-place
invariant-loop-place g l =
    IsPlainFormatter l.fn.f
    → HasWritten g.W.Write.write_str_gives l.fn.f
    (length_text l.self.used ++ flat_map place_text (map (λ place. (place.0, (place.1.0.now, place.1.1.now))) l.yielded)) l.f

abbrev pub invariant-loop-home : goal.invariant-loop-home
invariant-loop-home g l =
    IsPlainFormatter l.fn.f
    → HasWritten g.W.Write.write_str_gives l.fn.f
    (length_text l.self.used
    ++ (places_text l.self.glyphs.now l.self.tags.now l.self.used
    ++ (codes "homes" ++ flat_map home_text (map (λ home. home.now) l.yielded)))) l.f
