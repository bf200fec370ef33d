-- What a contract sees of the cache that has a keeper.
use Rattle.cache.specs.declared.keeper.Keeper.{Keeper}
use Rattle.cache.specs.Cached.{Cached}

abbrev pub seen : {P K S : Type 0} {g : _} {h : _} → Keeper P K S g h → Cached P
seen k = record { below = k.below; shape = k.shape; tiles = k.tiles; count = k.count }
