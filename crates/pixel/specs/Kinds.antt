-- The two kinds of pixel.
use Rattle.std.specs.Prelude.{ℕ, ◌+◌, ◌*◌, ◌/◌, ◌%◌, ◌^◌, min, cond, [], ◌∷◌, ℤ, pos, ◌+ℤ◌, ◌*ℤ◌, Some, None, nat_lt, slice_index}
use Rattle.std.proofs.Math.Nat.{min-le_right}
use Rattle.pixel.specs.declared.pixels.Grey.{Grey}
use Rattle.pixel.specs.declared.pixels.Colour.{Colour}
use Rattle.pixel.specs.declared.colour.ColourSum.{ColourSum}
use Rattle.pixel.specs.Ops.{Ops}
use Rattle.pixel.specs.Scaling.{finished}

-- a sample has 16 bits, so a pixel is made of numbers up to 65535
abbrev pub shade : ℕ → Grey
shade v = record { value = min v 65535; fits = min-le_right v 65535 }

abbrev pub rgb : ℕ → ℕ → ℕ → Colour
rgb r g b = record { red = min r 65535; green = min g 65535; blue = min b 65535; reds = min-le_right r 65535; greens = min-le_right g 65535; blues = min-le_right b 65535 }

-- one sample, which is its code
abbrev pub grey : Ops Grey ℤ
grey = record {
  mark = 53;
  depth = 1;
  samples = λ p. p.value ∷ [];
  pixel = λ xs. shade (slice_index xs 0);
  code = λ p. p.value;
  decode = λ c. cond (nat_lt c 65536) (Some (shade c)) None;
  black = shade 0;
  white = shade;
  empty = pos 0;
  more = λ s p w. s +ℤ w *ℤ pos p.value;
  finish = λ s scale offset m. shade (finished s scale offset m);
}

-- red, green and blue; the code is red * 2 ^ 32 + green * 2 ^ 16 + blue
abbrev pub colour : Ops Colour ColourSum
colour = record {
  mark = 54;
  depth = 3;
  samples = λ p. p.red ∷ (p.green ∷ (p.blue ∷ []));
  pixel = λ xs. rgb (slice_index xs 0) (slice_index xs 1) (slice_index xs 2);
  code = λ p. p.red * 2 ^ 32 + p.green * 2 ^ 16 + p.blue;
  decode = λ c. cond (nat_lt c (2 ^ 48)) (Some (rgb (c / 2 ^ 32) (c / 2 ^ 16 % 2 ^ 16) (c % 2 ^ 16))) None;
  black = rgb 0 0 0;
  white = λ m. rgb m m m;
  empty = record { red = pos 0; green = pos 0; blue = pos 0 };
  more = λ s p w. record { red = s.red +ℤ w *ℤ pos p.red; green = s.green +ℤ w *ℤ pos p.green; blue = s.blue +ℤ w *ℤ pos p.blue };
  finish = λ s scale offset m. rgb (finished s.red scale offset m) (finished s.green scale offset m) (finished s.blue scale offset m);
}
