-- The marks of the kinds of picture.
use Rattle.std.specs.Prelude.{ℕ}
use Rattle.inspection.specs.declared.report.Mark.{Mark}
use Rattle.inspection.specs.declared.report.Mark.TheVariants.{Grey, Colour}

-- the second byte
abbrev pub byte_of : Mark → ℕ
byte_of Grey = 53
byte_of Colour = 54
