-- What holds of a survey between two prepares.
use Rattle.std.proofs.Common.{◌≡◌, ℕ, ◌-◌, ◌≤◌, List, length}
use Rattle.pixel.specs.Ops.{Ops}
use Rattle.picture.specs.Images.{Model}
use Rattle.survey.specs.declared.findings.Survey.{Survey}
use Rattle.survey.specs.Surveys.{surveyed}
use Rattle.survey.proofs.Runs.{Spent}

module _ {P K S : Type 0} (o : Ops K S) (model : P → Model K) (prepares : P → ℕ) where
  -- from p, which is q by now, at a place below the end
  pub record Underway (p q : P) (buffer : List ℕ) (s : Survey) (place end run : ℕ) : Type 0 where
    pub value : s ≡ surveyed o (model p).shown place
    pub below : place ≤ end
    pub least : 1 ≤ run
    pub most : run ≤ 4096
    pub room : length buffer ≡ 4096
    pub kept : model q ≡ model p
    pub spent : Spent run (prepares q - prepares p) place
