-- Which store is opened as a picture of a kind.
use Rattle.std.specs.Prelude.{◌≡◌, ℕ, ◌≤◌, cond, List, [], Ok, Err, Result, nat_le}
use Rattle.picture.specs.declared.fault.Refused.{Refused}
use Rattle.picture.specs.Refusals.{Outcome, done, refused, told}
use Rattle.source.specs.declared.file.FileSource.{FileSource}
use Rattle.source.specs.declared.header.Header.{Header}
use Rattle.source.specs.declared.header.HeaderError.{HeaderError}
use Rattle.source.specs.declared.raster.Raster.{Raster}
use Rattle.source.specs.Header.{header_of}
use Rattle.source.specs.Reading.{Starts, number_of}

-- the header that a raster stands behind
abbrev pub headed : Raster → Header
headed r = record { width = r.size.width; height = r.size.height; maxval = r.size.maxval; length = r.start }

abbrev pub reading : Result Header HeaderError → Outcome
reading (Ok h) = done
reading (Err e) = refused (number_of e) []

-- 5 where the source's number is above 255, and then what the header is refused with
abbrev pub opening : ℕ → Result Header HeaderError → Outcome
opening number r = cond (nat_le number 255) (reading r) (refused 5 [])

-- the picture of the header's numbers over that store, or the store back and why
abbrev pub Opened : {S K : Type 0} → ℕ → List ℕ → S → ℕ → Result (FileSource S K) (Refused S) → Type 0
Opened mark bytes store number (Ok f) =
    (f.store ≡ store) × (f.count ≡ 0) × (f.raster.source ≡ number) × (number ≤ 255) × (header_of mark bytes ≡ Ok (headed f.raster))
Opened mark bytes store number (Err e) = (e.back ≡ store) × (opening number (header_of mark bytes) ≡ told e.refusal)

-- a store is opened exactly when its bytes start with a header whose numbers are allowed
abbrev pub Opens : {S K : Type 0} → ℕ → List ℕ → ℕ → Result (FileSource S K) (Refused S) → Type 0
Opens mark bytes number (Ok f) = Starts mark bytes (headed f.raster)
Opens mark bytes number (Err e) = number ≤ 255 → (h : Header) → Starts mark bytes h → ⊥
