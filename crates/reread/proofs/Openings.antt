-- What an opening says of the files of pictures.
use Rattle.std.proofs.Common.{◌≡◌, ℕ, ◌+◌, ◌*◌, leb, List, length, Ok, Err, Result, sym, refl, ap, ◌∙◌, subst, arith}
use Rattle.std.proofs.lemmas.Bool.{cond-true, le-leb}
use Rattle.pixel.specs.Ops.{Ops}
use Rattle.picture.specs.declared.fault.Refused.{Refused}
use Rattle.picture.specs.Images.{Image, Sized}
use Rattle.store.specs.Cells.{Cell, capped}
use Rattle.source.specs.declared.file.FileSource.{FileSource}
use Rattle.source.specs.declared.header.Header.{Header}
use Rattle.source.specs.Files.{pixel_at, fault_at}
use Rattle.source.specs.Files as files
use Rattle.source.specs.Front.{available}
use Rattle.source.specs.Header as reader
use Rattle.source.specs.Limits.{header_limit}
use Rattle.source.specs.Opening.{Opened, headed, opening, reading}
use Rattle.source.proofs.Accepting.{accepts}
use Rattle.writer.specs.File.{header_of, raster, file}
use Rattle.reread.specs.Trips.{Holds, Eights, picture_of, ReadsBack, WrittenAgain}
use Rattle.reread.proofs.Heads.{is_header, header_reads, holds_left, holds_right}
use Rattle.reread.proofs.Places.{Laws}
use Rattle.reread.proofs.Rasters.{raster_long, raster-read, raster-again}

module _ {K T : Type 0} (o : Ops K T) (laws : Laws o) {S : Type 0} (at : S → ℕ → Cell) (store : S) where
  abbrev bytes : List ℕ
  bytes = available (capped (at store)) 0 header_limit

  -- the header of a picture's file
  abbrev written : Image K → Header
  written i = record { width = i.width; height = i.height; maxval = i.maxval; length = length (header_of o i) }

  reads : (i : Image K) → Sized i → Holds (capped (at store)) 0 (file o i) → reader.header_of o.mark bytes ≡ Ok (written i)
  reads i s h =
      header_reads o.mark i.width i.height i.maxval (capped (at store)) header_limit (omega arith) s.wide s.across s.high s.down s.bright s.fits
      (holds_left (capped (at store)) 0 (header_of o i) (raster o i) h)

  pub reads_back : (number : ℕ) (r : Result (FileSource S K) (Refused S)) → Opened o.mark bytes store number r → ReadsBack o at store number r
  reads_back number (Ok f) v i sized bounded full holds small =
      let both : Ok (headed f.raster) ≡ Ok (written i) = sym v.4 ∙ reads i sized holds in
      let same : headed f.raster ≡ written i = cc in
      let w : f.raster.size.width ≡ i.width = ap (λ (h : Header). h.width) same in
      let m : f.raster.size.maxval ≡ i.maxval = ap (λ (h : Header). h.maxval) same in
      let start : f.raster.start ≡ length (header_of o i) = ap (λ (h : Header). h.length) same in
      record {
        width = w;
        height = ap (λ (h : Header). h.height) same;
        maxval = m;
        at = λ x y hx hy.
            let fault = fault_at f.raster.source x y in
            ap (λ s. pixel_at o (capped (at s)) f.raster.size.maxval (f.raster.start + (y * f.raster.size.width + x) * files.pixel_bytes o f.raster.size.maxval) fault) v.0
            ∙ ap (λ n. pixel_at o (capped (at store)) n (f.raster.start + (y * f.raster.size.width + x) * files.pixel_bytes o n) fault) m
            ∙ ap (λ n. pixel_at o (capped (at store)) i.maxval (n + (y * f.raster.size.width + x) * files.pixel_bytes o i.maxval) fault) start
            ∙ ap (λ n. pixel_at o (capped (at store)) i.maxval (length (header_of o i) + (y * n + x) * files.pixel_bytes o i.maxval) fault) w
            ∙ raster-read o laws i full (capped (at store)) (length (header_of o i)) bounded (holds_right (capped (at store)) (header_of o i) (raster o i) holds) x y hx hy fault;
      }
  reads_back number (Err e) v i sized bounded full holds small =
      let done : opening number (reader.header_of o.mark bytes) ≡ reading (reader.header_of o.mark bytes) =
      cond-true (leb number 255) (reading (reader.header_of o.mark bytes)) _ (le-leb number 255 small) in
      let never = sym (ap reading (reads i sized holds)) ∙ sym done ∙ v.1 in
      let z : ◌≡◌ {A = ℕ} 0 1 = cc in
      omega arith

  pub written-again : (number : ℕ) (r : Result (FileSource S K) (Refused S)) → Opened o.mark bytes store number r → WrittenAgain o at store r
  written-again number (Ok f) v = λ full eights.
      let i = picture_of o at f in
      let s = f.raster.size in
      record {
        header = λ rest.
            accepts o.mark s.width s.height s.maxval rest (is_header o.mark s.width s.height s.maxval s.across s.down s.fits)
            (s.wide, s.across) (s.high, s.down) (s.bright, s.fits);
        long = raster_long o laws i full;
        bytes =
            subst (λ t. Holds (capped (at t)) f.raster.start (raster o i)) v.0
            (raster-again o laws i full (capped (at f.store)) f.raster.start s.fits (λ h. subst (λ t. Eights (capped (at t))) (sym v.0) (eights h)) (λ x y. (fault_at f.raster.source x y, refl)));
      }
  written-again number (Err e) v = tt
