use Rattle.cache.proofs.Recent.{used_first, used_stays}
use Rattle.cache.proofs.laws.used_tiles_stay.Goals as goal

pub returns : goal.returns
returns c = record { first = used_first; stays = used_stays }
