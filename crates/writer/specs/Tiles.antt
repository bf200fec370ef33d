-- A tile: a square part of a picture, padded to the right and below as an embedding is.
use Rattle.std.specs.Prelude.{◌≡◌, ℕ, ◌+◌, ◌-◌, ◌*◌, min, Bool, true, false, cond, ◌&&◌, List, length, pos, Some, None, Option, Result, nat_le, nat_lt}
use Rattle.pixel.specs.Ops.{Ops}
use Rattle.picture.specs.declared.fault.Refusal.{Refusal}
use Rattle.picture.specs.declared.step.Step.{Step}
use Rattle.picture.specs.declared.step.Step.TheVariants.{Crop, Embed}
use Rattle.picture.specs.declared.rect.Rect.{Rect}
use Rattle.picture.specs.Places.{first_fault}
use Rattle.picture.specs.Images.{Image, Model}
use Rattle.picture.specs.Compose.{stepped}
use Rattle.writer.specs.File.{place_of, pixel_width, header_of, file}
use Rattle.writer.specs.Calls.{End, ending, Wrote}

-- a picture so wide and high has a tile (c, r) of this side
abbrev pub tiles : ℕ → ℕ → ℕ → ℕ → ℕ → Bool
tiles width height c r side = (nat_le 1 side && nat_le side 256) && (nat_lt (c * side) width && nat_lt (r * side) height)

-- how much of a side from a column or row on is in a picture so wide or high
abbrev pub seen : ℕ → ℕ → ℕ → ℕ
seen side from extent = min side (extent - from)

-- the part of the picture that the tile shows
abbrev pub cutting : {K : Type 0} → Image K → ℕ → ℕ → ℕ → Step
cutting i c r side = Crop (c * side) (r * side) (seen side (c * side) i.width) (seen side (r * side) i.height)

-- the part is embedded at the left and top, with no ground named
abbrev pub padding : ℕ → Step
padding side = Embed (pos 0) (pos 0) side side None

-- the rectangle of that part
pub record Cut (W H c r side : ℕ) (x : Rect) : Type 0 where
  pub there : tiles W H c r side ≡ true
  pub left : x.left ≡ c * side
  pub top : x.top ≡ r * side
  pub width : x.width ≡ seen side (c * side) W
  pub height : x.height ≡ seen side (r * side) H

abbrev pub Seen : ℕ → ℕ → ℕ → ℕ → ℕ → Option Rect → Type 0
Seen width height c r side (Some x) = Cut width height c r side x
Seen width height c r side None = tiles width height c r side ≡ false

module _ {K S : Type 0} (o : Ops K S) where
  abbrev pub cut : Image K → ℕ → ℕ → ℕ → Image K
  cut i c r side = stepped o (cutting i c r side) i

  abbrev pub tile : Image K → ℕ → ℕ → ℕ → Image K
  tile i c r side = stepped o (padding side) (cut i c r side)

  abbrev pub cut_places : Image K → ℕ → ℕ → ℕ → ℕ
  cut_places i c r side = (cut i c r side).width * (cut i c r side).height

  -- how many bytes the tile's file has if no pixel is missing
  abbrev pub tile_width : Image K → ℕ → ℕ → ℕ → ℕ
  tile_width i c r side = length (header_of o (tile i c r side)) + side * side * pixel_width o i.maxval

  -- 14, then 11; by the lengths of the two buffers
  abbrev pub tile_check : Image K → ℕ → ℕ → ℕ → ℕ → ℕ → Option ℕ
  tile_check i c r side work out =
      cond (tiles i.width i.height c r side) (cond (nat_le (cut_places i c r side) work && nat_le (tile_width i c r side) out) None (Some 11)) (Some 14)

  unfoldable pub tile_end : Image K → ℕ → ℕ → ℕ → ℕ → ℕ → End
  tile_end i c r side work out = ending (tile_check i c r side work out) (first_fault (place_of (cut i c r side)) (cut_places i c r side))

module _ {P K S : Type 0} (o : Ops K S) (model : P → Model K) (count : P → ℕ) where
  -- the file of the tile (c, r) of p, which is q behind it
  pub record Tiled (p : P) (c r side : ℕ) (work out : List ℕ) (a : Result ℕ Refusal) (q : P) (work' out' : List ℕ) : Type 0 where
    pub part : Wrote o model count (tile_end o (model p).shown c r side (length work) (length out)) (place_of (cut o (model p).shown c r side)) (cut_places o (model p).shown c r side)
        (file o (tile o (model p).shown c r side)) p work out a q work' out'
