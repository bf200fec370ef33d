-- What a cache does, seen from outside: the tiles that it lists, and its counts.
use Rattle.std.specs.Prelude.{◌≡◌, ℕ, zero, suc, ◌+◌, ◌-◌, ◌*◌, ◌^◌, ◌<◌, Bool, true, false, cond, ◌&&◌, List, [], ◌∷◌, take, ◌==◌}
use Rattle.std.specs.Coded.{×_prop, Unit-prop}
use Rattle.std.proofs.Math.Bool.{Bool-set}
use Rattle.picture.specs.Prepare.{up}
use Rattle.cache.specs.declared.counts.Counts.{Counts}
use Rattle.cache.specs.declared.tile.Tile.{Tile}

pub record State : Type 0 where
  -- the listed tiles, most recent first
  pub tiles : List Tile
  pub hits : ℕ
  pub fetches : ℕ
  pub bypasses : ℕ
  -- the prepares that the picture below has counted
  pub asked : ℕ

-- a new cache over a picture with this count
abbrev pub fresh : ℕ → State
fresh asked = record { tiles = []; hits = 0; fetches = 0; bypasses = 0; asked = asked }

abbrev pub counts_of : State → Counts
counts_of s = record { hits = s.hits; fetches = s.fetches; bypasses = s.bypasses }

abbrev pub same : Tile → Tile → Bool
same s t = s.column == t.column && s.row == t.row

abbrev pub lists : List Tile → Tile → Bool
lists [] t = false
lists (x ∷ xs) t = cond (same x t) true (lists xs t)

abbrev pub without : List Tile → Tile → List Tile
without [] t = []
without (x ∷ xs) t = cond (same x t) xs (x ∷ without xs t)

-- a listed tile moves to the front
abbrev pub hit : State → Tile → State
hit s t = record { tiles = t ∷ without s.tiles t; hits = up s.hits; fetches = s.fetches; bypasses = s.bypasses; asked = s.asked }

-- a tile that was answered below goes to the front, and the last leaves if there are more than the slots
abbrev pub fetched : ℕ → State → Tile → State
fetched slots s t = record { tiles = take slots (t ∷ s.tiles); hits = s.hits; fetches = up s.fetches; bypasses = s.bypasses; asked = up s.asked }

-- a tile was refused below
abbrev pub denied : State → State
denied s = record { tiles = s.tiles; hits = s.hits; fetches = s.fetches; bypasses = s.bypasses; asked = up s.asked }

-- the rectangle itself is prepared below
abbrev pub bypassed : State → State
bypassed s = record { tiles = s.tiles; hits = s.hits; fetches = s.fetches; bypasses = up s.bypasses; asked = up s.asked }

-- a walk goes on, or it ended at a tile that was refused
pub data Walk : Type 0 where
  going : State → Walk
  ended : State → Walk

-- `whole` says of a tile that it has no hole below
module _ (slots : ℕ) (whole : Tile → Bool) where
  -- a tile that is not listed is prepared whole below
  abbrev pub missed : State → Tile → Walk
  missed s t = cond (whole t) (going (fetched slots s t)) (ended (denied s))

  abbrev pub visited : State → Tile → Walk
  visited s t = cond (lists s.tiles t) (going (hit s t)) (missed s t)

  abbrev pub stepped : Walk → Tile → Walk
  stepped (going s) t = visited s t
  stepped (ended s) t = ended s

  -- over the first n of the tiles f
  abbrev pub walked : (ℕ → Tile) → ℕ → State → Walk
  walked f zero s = going s
  walked f (suc n) s = stepped (walked f n s) (f n)

-- behind a walk
abbrev pub settled : Walk → State
settled (going s) = s
settled (ended s) = bypassed s

-- behind a forget
abbrev pub emptied : State → State
emptied s = record { tiles = []; hits = s.hits; fetches = s.fetches; bypasses = s.bypasses; asked = s.asked }

-- no tile is listed twice
abbrev pub Once : List Tile → Type 0
Once [] = Unit {0}
Once (t ∷ ts) = (lists ts t ≡ false) × Once ts

pub once_prop : (ts : List Tile) → IsProp (Once ts)
once_prop [] = Unit-prop
once_prop (t ∷ ts) = ×_prop (Bool-set (lists ts t) false) (once_prop ts)

-- from s to t, while no count has stopped: below's count rose by the fetches and twice the bypasses
abbrev pub Accounts : State → State → Type 0
Accounts s t = t.asked < 2 ^ 64 - 1 → t.fetches < 2 ^ 64 - 1 → t.bypasses < 2 ^ 64 - 1
    → t.asked + s.fetches + 2 * s.bypasses ≡ s.asked + t.fetches + 2 * t.bypasses
