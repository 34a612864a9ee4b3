-- For the code alone; no entry and no promise rests on it, and nobody has to believe it. How large the numbers of a point and those that are written are,
-- with which the code shows that they fit where they are put.
use Rattle.std.specs.Prelude.{◌<◌, ◌≤◌, nat_abs, Option, Some, None}
use Rattle.std.specs.Int.Signed.{mag}
use Rattle.anchors.specs.declared.Point.{Point}
use Rattle.anchor_machine.specs.declared.Written.{Written}

-- numbers of 16 bits
abbrev pub IsPoint : Option Point → Type 0
IsPoint (Some point) = (mag point.x < 32768) × (mag point.y < 32768)
IsPoint None = Unit {0}

-- differences of such
abbrev pub IsOffset : Option Written → Type 0
IsOffset (Some written) = (nat_abs written.x ≤ 65535) × (nat_abs written.y ≤ 65535)
IsOffset None = Unit {0}
