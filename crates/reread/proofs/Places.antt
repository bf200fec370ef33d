-- A place of a file: the pixel of its bytes, and the bytes of its pixel.
use Rattle.std.proofs.Common.{◌≡◌, ℕ, ◌+◌, ◌*◌, ◌<◌, ◌≤◌, cond, List, length, get_or, Some, None, Ok, Err, Option, Result, sym, refl, ap, ◌∙◌, subst, ⊎_elim, arith}
use Rattle.std.proofs.lemmas.Bool.{cases_Bool, cond-true}
use Rattle.pixel.specs.Ops.{Ops, Under, joined}
use Rattle.store.specs.Cells.{Cell, byte}
use Rattle.store.specs.Reads.{answer, value}
use Rattle.store.specs.declared.lack.Lack.{Lack}
use Rattle.store.proofs.Answering.{answer_by, answer_each}
use Rattle.picture.specs.declared.fault.Cause.{Cause}
use Rattle.picture.specs.declared.fault.Cause.TheVariants.{Above}
use Rattle.picture.specs.declared.fault.Fault.{Fault}
use Rattle.picture.specs.Places.{pixel, hole}
use Rattle.source.specs.Raster.{wide, sample_bytes, samples_of, under}
use Rattle.source.specs.Files.{lacking, seen, pixel_at}
use Rattle.source.specs.Files as files
use Rattle.source.specs.Sampling.{samples_long, under_at, under_of}
use Rattle.std.specs.List as parts
use Rattle.writer.specs.File as written
use Rattle.writer.specs.File.{pixel_bytes}
use Rattle.reread.specs.Trips.{Eights}
use Rattle.reread.proofs.Pixels.{samples_back, bytes_back}

-- the laws of a kind that a pixel's way through its bytes needs
pub record Laws {K T : Type 0} (o : Ops K T) : Type 0 where
  pub decodes : (p : K) → o.decode (o.code p) ≡ Some p
  pub coded : (p : K) → o.code p ≡ joined (o.samples p)
  pub some : 1 ≤ o.depth
  pub deep : (p : K) → length (o.samples p) ≡ o.depth
  pub sampled : (xs : List ℕ) → length xs ≡ o.depth → Under 65535 xs → o.samples (o.pixel xs) ≡ xs
  pub fits : (p : K) → Under 65535 (o.samples p)

lacking-none : (r : Result Unit Lack) → lacking r ≡ None → r ≡ Ok tt
lacking-none (Ok tt) e = refl
lacking-none (Err x) e = let z : ◌≡◌ {A = ℕ} 0 1 = cc in absurd (omega arith)

module _ {K T : Type 0} (o : Ops K T) (laws : Laws o) where
  -- a pixel is the one with its samples
  pixel_back : (p : K) → o.pixel (o.samples p) ≡ p
  pixel_back p =
      let q = o.pixel (o.samples p) in
      let same : o.samples q ≡ o.samples p = laws.sampled (o.samples p) (laws.deep p) (laws.fits p) in
      let code : o.code q ≡ o.code p = laws.coded q ∙ ap joined same ∙ sym (laws.coded p) in
      let both : Some q ≡ Some p = sym (laws.decodes q) ∙ ap o.decode code ∙ laws.decodes p in
      cc

  module _ (at : ℕ → Cell) (m p : ℕ) (fault : Cause → Fault) (q : K) where
    -- the bytes of q stand from p on
    abbrev pub Stands : Type 0
    Stands = (j : ℕ) → j < files.pixel_bytes o m → at (p + j) ≡ byte (get_or (pixel_bytes o m q) j 0)

    abbrev read : List ℕ
    read = samples_of (wide m) (λ j. value (at (p + j))) o.depth

    -- then q is read there
    pub stands_read : Under m (o.samples q) → Stands → pixel_at o at m p fault ≡ pixel q
    stands_read dim there =
        let xs = o.samples q in
        let len = laws.deep q in
        let there-all : answer at p (files.pixel_bytes o m) ≡ Ok tt = answer_by at p (files.pixel_bytes o m) (λ j l. (get_or (pixel_bytes o m q) j 0, there j l)) in
        let same : read ≡ xs =
        ap (samples_of (wide m) (λ j. value (at (p + j)))) (sym len)
        ∙ samples_back m xs (λ j. value (at (p + j))) (λ j l. ap value (there j (subst (λ n. j < n * sample_bytes (wide m)) len l))) in
        ap (λ r. seen o (lacking r) m read fault) there-all
        ∙ ap (λ ys. seen o None m ys fault) same
        ∙ cond-true (under m xs) (pixel (o.pixel xs)) (hole (fault Above)) (under_of m xs (λ j l. dim j))
        ∙ ap pixel (pixel_back q)

    seen_pixel : (c : Option Cause) (xs : List ℕ) → m ≤ 65535 → length xs ≡ o.depth → seen o c m xs fault ≡ pixel q → (c ≡ None) × (o.samples q ≡ xs)
    seen_pixel (Some c) xs h l e = let z : ◌≡◌ {A = ℕ} 0 1 = cc in absurd (omega arith)
    seen_pixel None xs h l e =
        ⊎_elim
        (λ u. let b : Under 65535 xs = λ i. let a = under_at m xs u i in omega arith in
        let is : pixel (o.pixel xs) ≡ pixel q = sym (cond-true (under m xs) (pixel (o.pixel xs)) (hole (fault Above)) u) ∙ e in
        let same : o.pixel xs ≡ q = cc in
        (refl, ap o.samples (sym same) ∙ laws.sampled xs l b))
        (λ u. let is : hole (fault Above) ≡ pixel q = ap (λ b. cond b (pixel (o.pixel xs)) (hole (fault Above))) (sym u) ∙ e in
        let z : ◌≡◌ {A = ℕ} 0 1 = cc in absurd (omega arith))
        (cases_Bool (under m xs))

    -- where q is read, its bytes stand
    pub read_stands : m ≤ 65535 → (256 ≤ m → Eights at) → pixel_at o at m p fault ≡ pixel q → Stands
    read_stands h eights e j l =
        let s = seen_pixel (lacking (answer at p (files.pixel_bytes o m))) read h (samples_long (wide m) (λ j. value (at (p + j))) o.depth) e in
        let there : answer at p (files.pixel_bytes o m) ≡ Ok tt = lacking-none (answer at p (files.pixel_bytes o m)) s.0 in
        let small : 256 ≤ m → (i : ℕ) → i < files.pixel_bytes o m → value (at (p + i)) < 256 =
        λ t i a. let b = answer_each at p (files.pixel_bytes o m) i a there in subst (λ c. value c < 256) (sym b.1) (eights t (p + i) b.0 b.1) in
        let b = answer_each at p (files.pixel_bytes o m) j l there in
        let v : get_or (pixel_bytes o m q) j 0 ≡ b.0 =
        ap (λ xs. get_or (parts.flat_map (written.sample_bytes m) xs) j 0) s.1 ∙ bytes_back m o.depth (λ i. value (at (p + i))) small j l ∙ ap value b.1 in
        b.1 ∙ ap byte (sym v)
