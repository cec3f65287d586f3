-- A line as the rules have it. What the code alone needs; assumes nothing.
use Rattle.std.specs.Prelude.{◌^◌, ◌<◌}
use Rattle.bit_set.specs.BitSet.{members}
use Rattle.resolution.specs.Resolution as resolution
use Rattle.derivation_writer.specs.declared.line.Annotated.{Annotated}
use Rattle.derivation_writer.specs.declared.line.Line.{Line}
use Rattle.derivation_writer.specs.declared.line.Line.TheVariants.{Blocking, Resolvent}

abbrev pub annotated : Annotated → resolution.Annotated
annotated c = record { literals = members c.literals; value = c.value }

abbrev pub line_of : Line → resolution.Line
line_of (Blocking c) = resolution.blocking (annotated c)
line_of (Resolvent c v r u) = resolution.resolvent (annotated c) v r u

-- what it names fits words
abbrev pub IsInWords : Line → Type 0
IsInWords (Blocking c) = Unit {0}
IsInWords (Resolvent c v r u) = (v < 2 ^ 32) × (r < 2 ^ 32) × (u < 2 ^ 32)
