-- What a subtable's head gives: what is ready, or why nothing is.
use Rattle.std.specs.Prelude.{Bool, true, false, Result, Ok, Err}
use Rattle.answers.specs.declared.Refusal.{Refusal}
use Rattle.answers.specs.declared.Refusal.TheVariants as Refusal'
use Rattle.kerning.specs.declared.heads.Unready.{Unready}
use Rattle.kerning.specs.declared.heads.Unready.TheVariants.{Short, Tupled}

-- what a head gives, where a subtable with tuples is refused or not
unfoldable pub barred : {T : Type 0} → (tupled : Bool) → Result T Unready → Result T Unready
barred false opened = opened
barred true (Ok ready) = Err Tupled
barred true (Err why) = Err why

abbrev pub is_short : {T : Type 0} → Result T Unready → Bool
is_short (Ok ready) = false
is_short (Err Short) = true
is_short (Err Tupled) = false

abbrev pub is_tupled : {T : Type 0} → Result T Unready → Bool
is_tupled (Ok ready) = false
is_tupled (Err Short) = false
is_tupled (Err Tupled) = true

-- what refuses a call because of it
abbrev pub refusal : Unready → Refusal
refusal Short = Refusal'.Head
refusal Tupled = Refusal'.Tuples
