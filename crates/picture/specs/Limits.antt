-- The largest side of a picture and the largest extent of a rectangle.
use Rattle.std.specs.Prelude.{ℕ}

abbrev pub largest : ℕ
largest = 65535
