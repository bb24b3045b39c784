use Rattle.driver_lookup.proofs.Letters.{suffixes_differ}
use Rattle.driver_lookup.proofs.laws.suffixes_differ.Goals as goal

pub returns : goal.returns
returns c = suffixes_differ
