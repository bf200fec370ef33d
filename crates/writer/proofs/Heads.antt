-- The header, field behind field.
use Rattle.std.proofs.Common.{◌≡◌, ℕ, ◌+◌, List, [], ◌∷◌, ◌++◌, length, decimal, ◌∙◌, append_assoc, arith, length-append}
use Rattle.std.proofs.lemmas.List.{length_push}
use Rattle.writer.specs.File.{field, header}

pub length-field : (n e : ℕ) → length (field n e) ≡ length (decimal n) + 1
unfolding field
length-field n e = length_push (decimal n) e

pub length-header : (k w h m : ℕ) → length (header k w h m) ≡ 3 + (length (decimal w) + 1) + (length (decimal h) + 1) + (length (decimal m) + 1)
unfolding header
length-header k w h m =
    length-append (80 ∷ (k ∷ (10 ∷ []))) (field w 32 ++ (field h 10 ++ field m 10))
    ∙ omega (arith, length-append (field w 32) (field h 10 ++ field m 10), length-append (field h 10) (field m 10), length-field w 32, length-field h 10, length-field m 10)

-- the mark and the fields behind it
pub header_is : (k w h m : ℕ) → (((80 ∷ (k ∷ (10 ∷ []))) ++ field w 32) ++ field h 10) ++ field m 10 ≡ header k w h m
unfolding header
header_is k w h m =
    let mk : List ℕ = 80 ∷ (k ∷ (10 ∷ [])) in
    append_assoc (mk ++ field w 32) (field h 10) (field m 10) ∙ append_assoc mk (field w 32) (field h 10 ++ field m 10)
