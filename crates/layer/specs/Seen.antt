-- What a contract sees of the layer that has a drawer.
use Rattle.pixel.specs.Ops.{Ops}
use Rattle.picture.specs.Compose.{layered}
use Rattle.picture.specs.Images.{Model}
use Rattle.layer.specs.declared.drawer.Drawer.{Drawer}
use Rattle.layer.specs.Layered.{Layered}

module _ {P K S : Type 0} {g : _} {h : _} where
  abbrev pub seen : Drawer P K S g h → Layered P
  seen d = record { below = d.below; over = d.over; count = d.count }

module _ {P K S : Type 0} {g : _} {h : _} (o : Ops K S) (model : P → Model K) where
  -- its step over the picture below, over which it can stand
  abbrev pub layered_of : Drawer P K S g h → Model K
  layered_of d = layered o d.over.step (model d.below)
