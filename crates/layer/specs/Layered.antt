-- What a contract sees of a layer.
use Rattle.std.specs.Prelude.{ℕ}
use Rattle.layer.specs.declared.over.Over.{Over}

-- the picture below, the step over its size, and the prepares made
pub record Layered (P : Type 0) : Type 0 where
  pub below : P
  pub over : Over
  pub count : ℕ
