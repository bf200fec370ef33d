-- A part of a list that was written, and what lies outside it.
use Rattle.std.proofs.Common.{◌≡◌, ℕ, ◌+◌, ◌-◌, ◌<◌, ◌≤◌, ◌⊎◌, List, length, get_or, ⊎_elim, rules}
use borrow.Rule.Slice.PartMut.{put_mid, mid_of}
use Rattle.std.proofs.lemmas.List.{places}

pub outside : (a k j : ℕ) (xs ys : List ℕ) → length ys ≡ k → a + k ≤ length xs → (j < a) ⊎ (a + k ≤ j) → get_or (put_mid a k xs ys) j 0 ≡ get_or xs j 0
outside a k j xs ys n le h = ⊎_elim (λ (l : j < a). search (rules, places)) (λ (l : a + k ≤ j). search (rules, places)) h

pub within : (a k j : ℕ) (xs ys : List ℕ) → length ys ≡ k → a + k ≤ length xs → j < k → get_or (put_mid a k xs ys) (a + j) 0 ≡ get_or ys j 0
within a k j xs ys n le h = search (rules, places)

pub length_mid : (a k : ℕ) (xs ys : List ℕ) → length ys ≡ k → a + k ≤ length xs → length (put_mid a k xs ys) ≡ length xs
length_mid a k xs ys n le = search (rules, places)

-- a part that was copied from a part of another list
pub copied_part : (from to ys : List ℕ) (start at wide i : ℕ) → start + wide ≤ length from → at + wide ≤ length to → ys ≡ mid_of start (start + wide - start) from → i < wide
    → get_or (put_mid at (at + wide - at) to ys) (at + i) 0 ≡ get_or from (start + i) 0
copied_part from to ys start at wide i lf lt e h = search (rules, places)
