-- What is told of a file.
use Rattle.std.specs.Prelude.{◌≡◌, ℕ, ◌+◌, ◌*◌, ◌≤◌, cond, List, length, Some, None, Ok, Err, Result, ◌==◌, nat_le, slice_index}
use Rattle.pixel.specs.Ops.{Ops}
use Rattle.pixel.specs.Kinds.{grey, colour}
use Rattle.store.specs.Cells.{Cell, capped}
use Rattle.store.specs.Stores.{in_bytes}
use Rattle.picture.specs.declared.fault.Fault.{Fault}
use Rattle.picture.specs.Places.{or_else}
use Rattle.source.specs.declared.file.FileSource.{FileSource}
use Rattle.source.specs.declared.raster.Raster.{Raster}
use Rattle.source.specs.Front.{available}
use Rattle.source.specs.declared.header.HeaderError.{HeaderError}
use Rattle.source.specs.Header.{header_of}
use Rattle.source.specs.Limits.{header_limit}
use Rattle.source.specs.Files.{raster_image}
use Rattle.source.specs.Opening.{headed}
use Rattle.source.specs.Showing.{shown_of}
use Rattle.survey.specs.declared.findings.Survey.{Survey}
use Rattle.survey.specs.Surveys.{surveyed}
use Rattle.inspection.specs.declared.report.Details.{Details}
use Rattle.inspection.specs.declared.report.Report.{Report}
use Rattle.inspection.specs.Marks.{byte_of}

-- n more holes by a missing byte, the first of them with this fault
abbrev pub lost : Survey → ℕ → Fault → Survey
lost s n f = record {
  pixels = s.pixels;
  range = s.range;
  missing = s.missing + n;
  unread = s.unread;
  above = s.above;
  no_pixel = s.no_pixel;
  first = or_else s.first (cond (nat_le 1 n) (Some f) None);
}

-- colour if the second byte is '6', else grey
abbrev pub mark_of : List ℕ → ℕ
mark_of bytes = cond (slice_index bytes 1 == 54) 54 53

module _ {K S : Type 0} (o : Ops K S) where
  -- the survey of every place of a file
  abbrev pub whole : {T : Type 0} → (T → ℕ → Cell) → FileSource T K → Survey
  whole at f = surveyed o (shown_of o at f) (f.raster.size.width * f.raster.size.height)

  -- the header is refused so, or it has these numbers and the survey is that of every place of the picture behind it, as source 0
  abbrev pub Found : (ℕ → Cell) → Result Details HeaderError → Type 0
  Found at (Err e) = header_of o.mark (available at 0 header_limit) ≡ Err e
  Found at (Ok d) =
      (header_of o.mark (available at 0 header_limit) ≡ Ok (record { width = d.size.width; height = d.size.height; maxval = d.size.maxval; length = d.header }))
      × ((r : Raster) → header_of o.mark (available at 0 header_limit) ≡ Ok (headed r) → r.source ≡ 0
      → d.survey ≡ surveyed o (raster_image o at r) (d.size.width * d.size.height))

-- no more than two prepares were made for each of n bytes, and twelve more
abbrev pub Quick : ℕ → Result Details HeaderError → Type 0
Quick n (Err e) = Unit {0}
Quick n (Ok d) = d.prepares ≤ 2 * n + 12

-- by the kind that the second byte says
pub record Reported (bytes : List ℕ) (r : Report) : Type 0 where
  pub mark : byte_of r.mark ≡ mark_of bytes
  pub as_grey : byte_of r.mark ≡ 53 → Found grey (capped (in_bytes bytes)) r.finding
  pub as_colour : byte_of r.mark ≡ 54 → Found colour (capped (in_bytes bytes)) r.finding
  pub quick : Quick (length bytes) r.finding
