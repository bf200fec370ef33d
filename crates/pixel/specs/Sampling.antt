-- Pixels are equal where their samples are; codes and samples of the two kinds.
use Rattle.std.specs.Prelude.{◌≡◌, ℕ, zero, suc, ◌+◌, ◌*◌, ◌/◌, ◌%◌, ◌^◌, ◌<◌, ◌≤◌, min, List, [], ◌∷◌, length, Some, None, nat_lt}
use Rattle.std.proofs.Common.{sym, ◌∙◌, ap, subst, arith}
use Rattle.std.proofs.Math.Bridge.{le_prop}
use Rattle.std.proofs.lemmas.Bool.{lt-ltb, cond-true}
use Rattle.std.proofs.lemmas.Bool.Decides.{nat_tests}
use Rattle.pixel.specs.declared.pixels.Grey.{Grey}
use Rattle.pixel.specs.declared.pixels.Colour.{Colour}
use Rattle.pixel.specs.Ops.{Under}
use Rattle.pixel.specs.Kinds.{grey, colour, shade, rgb}

abbrev made : (v : ℕ) → v ≤ 65535 → Grey
made v h = record { value = v; fits = h }

pub grey_same : (p q : Grey) → p.value ≡ q.value → p ≡ q
grey_same p q e = subst (λ (w : ℕ). (k : w ≤ 65535) → p ≡ made w k) e (λ k. ap (made p.value) (le_prop p.fits k)) q.fits

abbrev mixed : (r g b : ℕ) → r ≤ 65535 → g ≤ 65535 → b ≤ 65535 → Colour
mixed r g b x y z = record { red = r; green = g; blue = b; reds = x; greens = y; blues = z }

red_same : (r s g b : ℕ) (x : r ≤ 65535) (x' : s ≤ 65535) (y : g ≤ 65535) (z : b ≤ 65535) → r ≡ s → mixed r g b x y z ≡ mixed s g b x' y z
red_same r s g b x x' y z e = subst (λ (w : ℕ). (k : w ≤ 65535) → mixed r g b x y z ≡ mixed w g b k y z) e (λ k. ap (λ h. mixed r g b h y z) (le_prop x k)) x'

green_same : (r g h b : ℕ) (x : r ≤ 65535) (y : g ≤ 65535) (y' : h ≤ 65535) (z : b ≤ 65535) → g ≡ h → mixed r g b x y z ≡ mixed r h b x y' z
green_same r g h b x y y' z e = subst (λ (w : ℕ). (k : w ≤ 65535) → mixed r g b x y z ≡ mixed r w b x k z) e (λ k. ap (λ i. mixed r g b x i z) (le_prop y k)) y'

blue_same : (r g b c : ℕ) (x : r ≤ 65535) (y : g ≤ 65535) (z : b ≤ 65535) (z' : c ≤ 65535) → b ≡ c → mixed r g b x y z ≡ mixed r g c x y z'
blue_same r g b c x y z z' e = subst (λ (w : ℕ). (k : w ≤ 65535) → mixed r g b x y z ≡ mixed r g w x y k) e (λ k. ap (λ i. mixed r g b x y i) (le_prop z k)) z'

pub colour_same : (p q : Colour) → p.red ≡ q.red → p.green ≡ q.green → p.blue ≡ q.blue → p ≡ q
colour_same p q e f g =
    red_same p.red q.red p.green p.blue p.reds q.reds p.greens p.blues e
    ∙ green_same q.red p.green q.green p.blue q.reds p.greens q.greens p.blues f
    ∙ blue_same q.red q.green p.blue q.blue q.reds q.greens p.blues q.blues g

-- a code reads back, and only as itself
pub grey_decodes : (p : Grey) → grey.decode (grey.code p) ≡ Some p
grey_decodes p =
    let h : p.value ≤ 65535 = p.fits in
    cond-true (nat_lt p.value 65536) (Some (shade p.value)) None (lt-ltb p.value 65536 (omega arith))
    ∙ ap Some (grey_same (shade p.value) p (omega arith))

colour_below : (r g b : ℕ) → r ≤ 65535 → g ≤ 65535 → b ≤ 65535 → r * 2 ^ 32 + g * 2 ^ 16 + b < 2 ^ 48
colour_below r g b x y z = omega arith

red_back : (r g b : ℕ) → r ≤ 65535 → g ≤ 65535 → b ≤ 65535 → min ((r * 2 ^ 32 + g * 2 ^ 16 + b) / 2 ^ 32) 65535 ≡ r
red_back r g b x y z = omega arith

green_back : (r g b : ℕ) → r ≤ 65535 → g ≤ 65535 → b ≤ 65535 → min ((r * 2 ^ 32 + g * 2 ^ 16 + b) / 2 ^ 16 % 2 ^ 16) 65535 ≡ g
green_back r g b x y z = omega arith

blue_back : (r g b : ℕ) → r ≤ 65535 → g ≤ 65535 → b ≤ 65535 → min ((r * 2 ^ 32 + g * 2 ^ 16 + b) % 2 ^ 16) 65535 ≡ b
blue_back r g b x y z = omega arith

pub colour_decodes : (p : Colour) → colour.decode (colour.code p) ≡ Some p
colour_decodes p =
    let c = p.red * 2 ^ 32 + p.green * 2 ^ 16 + p.blue in
    cond-true (nat_lt c (2 ^ 48)) (Some (rgb (c / 2 ^ 32) (c / 2 ^ 16 % 2 ^ 16) (c % 2 ^ 16))) None
    (lt-ltb c (2 ^ 48) (colour_below p.red p.green p.blue p.reds p.greens p.blues))
    ∙ ap Some (colour_same (rgb (c / 2 ^ 32) (c / 2 ^ 16 % 2 ^ 16) (c % 2 ^ 16)) p
    (red_back p.red p.green p.blue p.reds p.greens p.blues)
    (green_back p.red p.green p.blue p.reds p.greens p.blues)
    (blue_back p.red p.green p.blue p.reds p.greens p.blues))

pub grey_recodes : (c : ℕ) (p : Grey) → grey.decode c ≡ Some p → p.value ≡ c
grey_recodes c p e =
    let d : c ≤ 65535 = grind (arith, nat_tests) in
    let f : Some (shade c) ≡ Some p = sym (cond-true (nat_lt c 65536) (Some (shade c)) None (lt-ltb c 65536 (omega arith))) ∙ e in
    let g : shade c ≡ p = cc in
    ap (λ q. q.value) (sym g) ∙ omega arith

parts : (c : ℕ) → c < 2 ^ 48 → min (c / 2 ^ 32) 65535 * 2 ^ 32 + min (c / 2 ^ 16 % 2 ^ 16) 65535 * 2 ^ 16 + min (c % 2 ^ 16) 65535 ≡ c
parts c h = omega arith

pub colour_recodes : (c : ℕ) (p : Colour) → colour.decode c ≡ Some p → colour.code p ≡ c
colour_recodes c p e =
    let d : c < 2 ^ 48 = grind (arith, nat_tests) in
    let q = rgb (c / 2 ^ 32) (c / 2 ^ 16 % 2 ^ 16) (c % 2 ^ 16) in
    let f : Some q ≡ Some p = sym (cond-true (nat_lt c (2 ^ 48)) (Some q) None (lt-ltb c (2 ^ 48) d)) ∙ e in
    let g : q ≡ p = cc in
    ap (λ x. colour.code x) (sym g) ∙ parts c d

-- samples
pub grey_sampled : (xs : List ℕ) → length xs ≡ 1 → Under 65535 xs → grey.samples (grey.pixel xs) ≡ xs
grey_sampled [] l u = absurd (omega arith)
grey_sampled (x ∷ []) l u = let h : x ≤ 65535 = u 0 in let e : min x 65535 ≡ x = omega arith in ap (λ y. y ∷ []) e
grey_sampled (x ∷ y ∷ ys) l u = absurd (omega arith)

pub colour_sampled : (xs : List ℕ) → length xs ≡ 3 → Under 65535 xs → colour.samples (colour.pixel xs) ≡ xs
colour_sampled [] l u = absurd (omega arith)
colour_sampled (x ∷ []) l u = absurd (omega arith)
colour_sampled (x ∷ y ∷ []) l u = absurd (omega arith)
colour_sampled (x ∷ y ∷ z ∷ []) l u =
    let a : min x 65535 ≡ x = let h : x ≤ 65535 = u 0 in omega arith in
    let b : min y 65535 ≡ y = let h : y ≤ 65535 = u 1 in omega arith in
    let c : min z 65535 ≡ z = let h : z ≤ 65535 = u 2 in omega arith in
    rw (a, b, c)
colour_sampled (x ∷ y ∷ z ∷ w ∷ ws) l u = absurd (omega arith)

pub under_one : (m x : ℕ) → x ≤ m → Under m (x ∷ [])
under_one m x h zero = h
under_one m x h (suc i) = omega arith

pub under_three : (m x y z : ℕ) → x ≤ m → y ≤ m → z ≤ m → Under m (x ∷ (y ∷ (z ∷ [])))
under_three m x y z a b c zero = a
under_three m x y z a b c (suc zero) = b
under_three m x y z a b c (suc (suc zero)) = c
under_three m x y z a b c (suc (suc (suc i))) = omega arith
