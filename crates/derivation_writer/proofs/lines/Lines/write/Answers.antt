-- There is room for the line, and it is put, or a limit is passed.
use Rattle.std.proofs.Common.{arith, rules, refl}
use Rattle.derivation_writer.specs.Line.{line_of}
use Rattle.derivation_writer.proofs.LineLaws.{line_room, no_room, trailer_fits, outcome_more}
use Rattle.derivation_writer.proofs.lines.Lines.write.Goals as goal

pub fits-requires : goal.fits-requires
fits-requires c = omega (arith, trailer_fits c.requires.started.1, c.requires.started.1.limited)

pub returns-then-not-fits : goal.returns-then-not-fits
returns-then-not-fits c ls holds = no_room holds (line_of c.args.line) c.fits.ensures c.if-not-fits.true

pub returns : goal.returns
returns c ls holds =
    outcome_more holds (line_of c.args.line) _ c.put-self.ensures refl
    (line_room c.fits.ensures c.if-not-fits.false) (search rules) c.clause.ensures refl
