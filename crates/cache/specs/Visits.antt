-- What the visit of a tile and a walk over tiles do to a cache.
use Rattle.std.specs.Prelude.{◌≡◌, ℕ, Ok, Err, Result}
use Rattle.picture.specs.declared.fault.Refusal.{Refusal}
use Rattle.picture.specs.Images.{Model}
use Rattle.cache.specs.declared.keeper.Keeper.{Keeper}
use Rattle.cache.specs.Machine.{State, Walk, going, ended}
use Rattle.cache.specs.Seen.{seen}
use Rattle.cache.specs.Caching.{state_of}

-- a walk that goes on, or ended
abbrev pub walk_of : Result Unit Refusal → State → Walk
walk_of (Ok _) s = going s
walk_of (Err e) s = ended s

module _ {P K S : Type 0} {g : _} {h : _} (model : P → Model K) (count : P → ℕ) where
  -- the cache c has become d; w is what the machine makes of its state
  pub record Went (w : State → Walk) (c : Keeper P K S g h) (r : Result Unit Refusal) (d : Keeper P K S g h) : Type 0 where
    pub machine : walk_of r (state_of count (seen d)) ≡ w (state_of count (seen c))
    pub keeps : model d.below ≡ model c.below
    pub shape : d.shape ≡ c.shape
    pub counted : d.count ≡ c.count
