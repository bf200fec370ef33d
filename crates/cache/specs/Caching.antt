-- What a cache promises: its slots and its counts are the machine's, whatever is called.
use Rattle.std.specs.Prelude.{◌≡◌, ℕ, ◌*◌, ◌<◌, ◌≤◌, true, cond, ◌&&◌, length, nat_le}
use Rattle.picture.specs.declared.rect.Rect.{Rect}
use Rattle.picture.specs.Images.{Image, Model}
use Rattle.picture.specs.Prepare.{inside, area}
use Rattle.cache.specs.Cached.{Cached}
use Rattle.cache.specs.declared.shape.TileShape.{TileShape}
use Rattle.cache.specs.Machine.{State, fresh, lists, settled, emptied, Once, Accounts}
use Rattle.cache.specs.Grid.{across, down, touched}
use Rattle.cache.specs.Slots.{state}
use Rattle.cache.specs.Walks.{over_tiles}

-- the machine behind a prepare of a rectangle into a buffer of n entries; refusals 10 and 11 leave it as it was
abbrev pub prepared : {K : Type 0} → Image K → TileShape → Rect → ℕ → State → State
prepared b s r n st = cond (inside b r && nat_le (area r) n) (settled (over_tiles b s r st)) st

-- each tile that the rectangle touches is listed
abbrev pub AllListed : TileShape → Rect → State → Type 0
AllListed s r st = (k : ℕ) → k < across s r * down s r → lists st.tiles (touched s r k) ≡ true

module _ {P : Type 0} (count : P → ℕ) where
  -- the machine's state, which the cache determines
  abbrev pub state_of : Cached P → State
  state_of c = state c.tiles (count c.below)

module _ {P : Type 0} (bare : P → Type 0) where
  -- nothing is listed here, and nothing is held below
  abbrev pub Bare : Cached P → Type 0
  Bare c = (c.tiles.len ≡ 0) × bare c.below

module _ {P K : Type 0} (model : P → Model K) where
  -- it shows what the picture below shows
  abbrev pub model_of : Cached P → Model K
  model_of c = model c.below

module _ {P : Type 0} (count : P → ℕ) where
  -- a new cache
  pub record Made (s : TileShape) (p : P) (c : Cached P) : Type 0 where
    pub below : c.below ≡ p
    pub shape : c.shape ≡ s
    pub counted : c.count ≡ 0
    pub machine : state_of count c ≡ fresh (count p)

module _ {P K : Type 0} (model : P → Model K) (count : P → ℕ) where
  -- a prepare of c into a buffer of n entries, which is d behind it
  pub record Worked (c : Cached P) (r : Rect) (n : ℕ) (d : Cached P) : Type 0 where
    pub shape : d.shape ≡ c.shape
    -- the list, the three counts and the count below are those of the machine
    pub machine : state_of count d ≡ prepared (model c.below).shown c.shape r n (state_of count c)
    -- no tile is listed twice
    pub once : Once (state_of count d).tiles
    -- and there are at most as many as the slots
    pub few : length (state_of count d).tiles ≤ c.shape.slots
    -- below was asked once for each fetch and twice for each bypass
    pub accounts : Accounts (state_of count c) (state_of count d)
    -- where all is held, nothing is prepared below
    pub held : AllListed c.shape r (state_of count c) → count d.below ≡ count c.below

module _ {P : Type 0} (count : P → ℕ) where
  -- a forget of c, which is d behind it
  pub record Emptied (c d : Cached P) : Type 0 where
    pub shape : d.shape ≡ c.shape
    pub machine : state_of count d ≡ emptied (state_of count c)
