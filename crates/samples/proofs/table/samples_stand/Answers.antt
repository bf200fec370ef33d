use Rattle.std.proofs.Common.{refl, rules}
use Rattle.store.specs.Reads.{answer}
use Rattle.source.specs.Header.{run}
use Rattle.samples.proofs.table.samples_stand.Goals as goal

pub returns : goal.returns
unfolding answer run
returns c = record {
  long = refl;
  header = refl;
  whole = refl;
  turned = refl;
  embedded = refl;
  copied = refl;
  shrunk = refl;
  blurred = refl;
  sharpened = refl;
  sharpened_next = refl;
  relieved = refl;
  cut = refl;
  flipped = refl;
  passed = (refl, refl, refl, refl, refl);
  singles = (refl, refl, refl, refl);
  seventeen = search rules;
  fits = refl;
  leaves = refl;
}
